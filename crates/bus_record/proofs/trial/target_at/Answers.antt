use Rattle.std.proofs.Common.{◌≡◌, ℕ, ◌<◌, get_or, subst, arith}
use Rattle.bus_record.specs.Bus.{bus_view}
use Rattle.bus_record.specs.Kept.{Kept}
use Rattle.bus_record.specs.Trial.{IsTried, tried_view}
use Rattle.bus_record.proofs.Runs.{no_target}
use Rattle.bus_record.proofs.Tried.{taken_out, taken_view}
use Rattle.bus_record.proofs.trial.target_at.Goals as goal

pub returns-clause-tried : goal.returns-clause-tried
returns-clause-tried c =
    let k : Kept = c.args.bus.now in
    let t = get_or k.targets c.from.result no_target in
    let same = c.from.ensures in
    let inside = c.requires.there in
    let low : c.from.result < k.count = omega (arith, same, inside) in
    (subst (λ (n : ℕ). IsTried k n t) c.from.ensures (taken_out k c.from.result no_target c.requires.sound low))

pub returns-clause-state : goal.returns-clause-state
returns-clause-state c =
    let k : Kept = c.args.bus.now in
    let t = get_or k.targets c.from.result no_target in
    (subst (λ (n : ℕ). tried_view k n t ≡ bus_view k) c.from.ensures (taken_view k c.from.result no_target))
