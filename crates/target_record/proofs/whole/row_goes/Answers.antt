use Rattle.std.proofs.Common.{ap, ◌∙◌}
use Rattle.onfi_cycle.specs.declared.page_address.PageAddress.{PageAddress}
use Rattle.onfi_cycle.specs.Effect.{page_address}
use Rattle.target_record.specs.Record.{lun_of}
use Rattle.target_record.specs.Whole.{page_goes}
use Rattle.target_record.proofs.whole.row_goes.Goals as goal

pub returns : goal.returns
returns c =
    c.page_goes.ensures
    ∙ ap (λ (p : PageAddress). page_goes c.args.geometry.now c.args.tail p (lun_of c.args.lun.now))
    (c.of_row-page.ensures.value ∙ ap (page_address c.args.geometry.now) c.named_row.ensures.value)
