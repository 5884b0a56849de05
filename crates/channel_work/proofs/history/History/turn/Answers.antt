use Rattle.std.proofs.Common.{ℕ, ◌∷◌, ◌++◌, [], ◌∙◌, ap, subst, arith}
use Rattle.seq_core.specs.declared.stepped.Stepped.{Stepped}
use Rattle.seq_core.specs.Calls.{TellsBus}
use Rattle.channel_work.specs.declared.stored.Stored.TheVariants.{Step as WasStepped}
use Rattle.channel_work.proofs.Turning.{no_turn, going_on, turn_last}
use Rattle.channel_work.proofs.history.History.turn.Goals as goal

pub returns-in-None-clause-turn : goal.returns-in-None-clause-turn
returns-in-None-clause-turn g c = no_turn c.args.self.now c.begin_turn.new.self c.args.lun c.in-None.ensures.none.0

pub returns-in-Some-go_on-clause-turn : goal.returns-in-Some-go_on-clause-turn
returns-in-Some-go_on-clause-turn g c =
    let i = c.loop-step.invariant in
    let e = c.in-Some-go_on.ensures in
    turn_last c.args.self.now c.loop-step.self c.go_on.new.self c.args.lun c.in-Some-go_on.last i.going e.core
    (e.events ∙ ap (λ (n : ℕ). c.loop-step.self.events ++ (WasStepped c.args.lun n ∷ [])) i.turn_is) e.turns e.beside

pub returns-in-Some-go_on-clause-counted : goal.returns-in-Some-go_on-clause-counted
returns-in-Some-go_on-clause-counted g c =
    let i = c.loop-step.invariant in
    let amount = i.amount in
    let one = i.going.one in
    let steps = i.going.steps.turns in
    let turns = c.go_on.ensures.turns in
    omega (arith, amount, one, steps, turns)

pub loop-step-preserved : goal.loop-step-preserved
loop-step-preserved g c =
    let i = c.loop-step.invariant in
    let e = c.in-Some-Went-go_on.ensures in
    record {
      going = going_on c.args.self.now c.loop-step.self c.go_on.new.self c.args.lun c.in-Some-Went-go_on.field-0 i.going e.core
          (e.events ∙ ap (λ (n : ℕ). c.loop-step.self.events ++ (WasStepped c.args.lun n ∷ [])) i.turn_is) e.turns e.beside c.in-Some-Went-go_on.field-0-is;
      in_turn = e.in_turn;
      turn_is = i.turn_is;
      amount = i.amount;
      parts = i.parts;
      bus = subst (λ (a : Stepped). TellsBus a c.go_on.new.self.core.holder c.args.lun) c.in-Some-Went-go_on.field-0-is e.bus;
    }
