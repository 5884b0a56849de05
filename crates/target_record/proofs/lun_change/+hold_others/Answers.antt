use Rattle.std.proofs.Common.{◌∷◌, ◌-◌, length, take, drop, ap, sym, ◌∙◌}
use Rattle.onfi_cycle.specs.declared.page_address.PageAddress.{PageAddress}
use Rattle.onfi_cycle.proofs.HeldPages.{holds_others}
use Rattle.target_record.specs.Record.{pages_of}
use Rattle.target_record.proofs.Stored.{first_of}
use Rattle.target_record.proofs.lun_change.+hold_others.Goals as goal

pub returns-in-len1-up : goal.returns-in-len1-up
returns-in-len1-up t c =
    holds_others c.args.held.now.items c.hold_other.new.held.items c.hold_others.new.held.items c.args.planes c.args.page (pages_of c.args.kept.now) _ c.page_of.result
    (ap pages_of (first_of c.args.kept.now (record { block = 0; page = 0 }) c.in-len1-up.len_at_least) ∙ ap (λ (p : PageAddress). p ∷ pages_of (take (length c.args.kept.now - 1) (drop 1 c.args.kept.now))) (sym c.page_of.ensures)) c.hold_other.ensures c.hold_others.ensures
