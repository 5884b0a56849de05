use Rattle.std.proofs.Common.{◌≤◌, subst, sym}
use Rattle.nand_geometry.specs.declared.parts.Parts.{Parts}
use Rattle.seq_core.proofs.Cores.{few_slots}
use Rattle.seq_core.proofs.lun_slots.lun_count.Goals as goal

pub returns-clause-most : goal.returns-clause-most
returns-clause-most c =
    few_slots c.from.result c.from-2.result c.args.targets c.parts.result.luns c.from.ensures c.from-2.ensures c.requires (subst (λ (p : Parts). p.luns ≤ 4) (sym c.parts.ensures.value) c.parts.ensures.limits.luns_most)
