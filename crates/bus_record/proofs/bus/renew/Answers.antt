use Rattle.std.proofs.Common.{ℕ, refl, ◌≤◌, arith, sym, subst, [], ◌∷◌}
use Rattle.onfi_cycle.specs.State.{Follows}
use Rattle.target_record.specs.Geometry.{parts_of}
use Rattle.bus_record.specs.Bus.{bus_view}
use Rattle.bus_record.proofs.Fresh.{fresh_sound, fresh_follows}
use Rattle.bus_record.proofs.bus.renew.Goals as goal

pub returns-clause-sound : goal.returns-clause-sound
returns-clause-sound c =
    let same = c.from-bus.ensures in let most = c.requires.few in
    let few : c.from-bus.result ≤ 4 = omega (arith, same, most) in
    fresh_sound c.args.geometry.now c.fresh_target-bus.result c.from-bus.result c.requires.limits c.fresh_target-bus.ensures.numbers
    (λ ce. c.fresh_target-bus.ensures.value (parts_of c.args.geometry.now) ce refl) few

pub returns-clause-follows : goal.returns-clause-follows
returns-clause-follows c =
    let t = c.fresh_target-bus.result in
    let same = c.from-bus.ensures in let most = c.requires.few in
    subst (λ (n : ℕ). Follows (parts_of c.args.geometry.now) c.args.targets (bus_view (record { magic = 0x5355424f; geometry = c.args.geometry.now; count = n; targets = t ∷ t ∷ t ∷ t ∷ [] })) []) (sym same)
    (fresh_follows c.args.geometry.now t c.args.targets (λ ce. c.fresh_target-bus.ensures.value (parts_of c.args.geometry.now) ce refl) most)
