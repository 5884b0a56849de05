use Rattle.std.proofs.Common.{subst}
use Rattle.die_model.specs.Die.{Die}
use Rattle.die_model.specs.Loading.{Restores}
use Rattle.die_model.proofs.Restored.{restores, on_both}
use Rattle.die_model.proofs.Begun.{die_of}
use Rattle.die_model.proofs.lun_die.LunDie.image.Goals as goal

pub returns-clause-restores : goal.returns-clause-restores
returns-clause-restores g c =
    let i = c.self.inside in
    on_both c.image.result _ _ _ c.image.ensures.value c.image.ensures.order (λ v is order.
    subst (λ (d : Die). Restores v.items d) c.self.view_is
    (restores (die_of i.geometry i.pages i.planes.items i.array_planes.items i.activity) v.items is c.self.invariant.die.limits
    (record { inside = c.self.invariant.die.rows.inside; lengths = c.self.invariant.die.rows.lengths }) order))
