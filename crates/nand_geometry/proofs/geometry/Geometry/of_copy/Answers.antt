use Rattle.std.proofs.Common.{arith, sym, ap, ◌∙◌}
use Rattle.nand_geometry.specs.declared.parts.Parts.{Parts}
use Rattle.nand_geometry.specs.Limits.{fault_of}
use Rattle.nand_geometry.proofs.ReadingLemmas.{numbers_fault, no_fault_with_operations, no_fault_of_one_lun}
use Rattle.nand_geometry.proofs.geometry.Geometry.of_copy.Goals as goal
use Rattle.nand_geometry.proofs.geometry.Geometry.of_copy.Goals.{then-parts-gt1+else-not-has_lun_operations, else-parts-gt1}

pub returns-in-Err : goal.returns-in-Err
returns-in-Err c =
    numbers_fault c.args.profile c.args.copy.now c.in-Err.fault (sym c.if-has_wide_bus.ensures) (sym c.if-not-has_address_cycles.ensures) (ap fault_of (sym c.declared_as.ensures) ∙ c.in-Err.ensures)

pub returns-in-Ok-2 : goal.returns-in-Ok-2
returns-in-Ok-2 c =
    let is = c.in-Ok.ensures in
    let numbers = ap fault_of (sym c.declared_as.ensures) ∙ is.0 in
    let same = is.1 ∙ c.declared_as.ensures in
    let luns = ap (λ (p : Parts). p.luns) (c.parts.ensures.value ∙ same) in
    elim c.if-parts-gt1.branch [
      | then-parts-gt1+else-not-has_lun_operations w ↦ (no_fault_with_operations c.args.profile c.args.copy.now (sym c.if-has_wide_bus.ensures) (sym c.if-not-has_address_cycles.ensures) numbers (sym w.if-not-has_lun_operations.ensures), same)
      | else-parts-gt1 w ↦ (no_fault_of_one_lun c.args.profile c.args.copy.now (sym c.if-has_wide_bus.ensures) (sym c.if-not-has_address_cycles.ensures) numbers (omega (arith, luns, w.if-parts-gt1.false)), same)
    ]
