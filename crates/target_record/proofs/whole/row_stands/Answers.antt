use Rattle.std.proofs.Common.{ap, ◌∙◌}
use Rattle.nand_geometry.specs.declared.parts.Parts.{Parts}
use Rattle.target_record.specs.Record.{lun_of}
use Rattle.target_record.specs.Whole.{row_stands}
use Rattle.target_record.proofs.whole.row_stands.Goals as goal

pub returns : goal.returns
returns c = c.known_row_stands.ensures ∙ ap (λ (g : Parts). row_stands g c.args.tail.now c.args.number (lun_of c.args.lun.now)) c.known.ensures
