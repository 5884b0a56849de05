use Rattle.std.proofs.Common.{ℕ, sym, ap, subst}
use Rattle.onfi_cycle.specs.State.{BusView}
use Rattle.bus_record.specs.Bus.{IsSound, bus_view}
use Rattle.bus_record.specs.Channel.{IsSameChannel}
use Rattle.bus_record.specs.Kept.{Kept}
use Rattle.bus_record.specs.Trial.{tried, tried_view}
use Rattle.bus_record.proofs.Tried.{tried_same}
use Rattle.bus_record.proofs.trial.put_target.Goals as goal

pub returns-clause-state : goal.returns-clause-state
returns-clause-state c =
    let k : Kept = c.args.bus.now in
    ap (λ (n : ℕ). tried_view k n c.args.kept.now) c.from.ensures

pub returns-clause-sound : goal.returns-clause-sound
returns-clause-sound c =
    let k : Kept = c.args.bus.now in
    subst (λ (n : ℕ). IsSound (tried k n c.args.kept.now)) (sym c.from.ensures) (c.requires.sound)

pub returns-clause-same : goal.returns-clause-same
returns-clause-same c = subst (λ (b : BusView). IsSameChannel (bus_view c.args.bus.now) b) (sym (returns-clause-state c)) (tried_same c.args.bus.now c.args.ce c.args.kept.now c.requires.there)
