use Rattle.std.proofs.Common.{ap, ◌∙◌, not}
use Rattle.onfi_cycle.specs.Content.{is_some_work}
use Rattle.die_model.specs.Die.{Die}
use Rattle.die_model.proofs.Begun.{array_some, some_is_full}
use Rattle.die_model.proofs.lun_die.LunDie.has_array_work.Goals as goal

pub returns : goal.returns
returns g c =
    let i = c.self.inside in
    ap not c.is_empty.ensures ∙ (some_is_full i.activity.in_array.items ∙ (array_some i.geometry i.array_planes.items i.activity.in_array.items c.self.invariant.array.programs ∙ ap (λ (d : Die). is_some_work d.in_array) c.self.view_is))
