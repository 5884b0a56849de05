use Rattle.std.proofs.Common.{◌∙◌, ◌*◌, ap}
use Rattle.nand_geometry.specs.declared.parts.Parts.{Parts}
use Rattle.seq_core.proofs.Cores.{new_is_fresh, new_is_core}
use Rattle.seq_core.proofs.Main.{fresh_is_lawful}
use Rattle.seq_core.proofs.sequencer.Core.new.Goals as goal

pub invariant_of-result : goal.invariant_of-result
invariant_of-result g c =
    new_is_core c.args.bus c.empty_slots-slots.result.items c.lun_count.result c.trace-trace.ensures.channel c.requires c.empty_slots-slots.ensures
    (c.lun_count.ensures.value ∙ (ap (λ n. n * c.geometry.result.luns) c.targets.ensures.value ∙ ap (λ (p : Parts). c.args.bus.targets * p.luns) c.geometry.ensures.value))

pub returns-clause-world : goal.returns-clause-world
returns-clause-world g c =
    new_is_fresh c.args.bus c.empty_slots-slots.result.items c.lun_count.result c.requires c.empty_slots-slots.ensures
    (c.lun_count.ensures.value ∙ (ap (λ n. n * c.geometry.result.luns) c.targets.ensures.value ∙ ap (λ (p : Parts). c.args.bus.targets * p.luns) c.geometry.ensures.value))

pub returns-clause-lawful : goal.returns-clause-lawful
returns-clause-lawful g c = fresh_is_lawful _
