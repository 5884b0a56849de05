-- Turn after turn a program that runs alone comes to its end.
use Rattle.std.proofs.Common.{◌≡◌, ℕ, suc, ◌+◌, ◌-◌, ◌<◌, ◌≤◌, Bool, true, false, Option, Some, None, refl, sym, ap, ◌∙◌, subst, arith}
use Rattle.onfi_cycle.specs.Channel.{Channel}
use Rattle.micro_program.specs.Moves.{and_then}
use Rattle.seq_core.specs.declared.stepped.Stepped.{Stepped}
use Rattle.seq_core.specs.declared.stepped.Stepped.TheVariants.{Ended, NotReady}
use Rattle.seq_core.specs.World.{World}
use Rattle.seq_core.specs.Event.{Step, Ready}
use Rattle.seq_core.specs.Reply.{Reply, ToStep, ToReady}
use Rattle.seq_core.specs.After.{After, after}
use Rattle.seq_core.specs.Lawful.{LawfulWorld}
use Rattle.seq_core.specs.Shows.{CoreView, IsAt, channel_in}
use Rattle.seq_core.specs.Calls.{Came, IsEvent}
use Rattle.seq_core.specs.Alone.{alone_on, alone_behind, no_failures}
use Rattle.run_once.specs.Once.{the_lun}
use Rattle.run_once.specs.Runs.{Turned, TookTurn, EndsWithin, HasRun}

abbrev no_world : Option World
no_world = None

-- what a step of the program leaves of its turns
behind_step : (s : Channel) (w : World) (a : After) (reply : Reply) (turns : ℕ) → after s w (Step the_lun) ≡ Some a → a.reply ≡ reply → alone_on s the_lun (suc turns) w ≡ alone_behind s the_lun (alone_on s the_lun turns) a.world reply
behind_step s w a reply turns is said =
    ap (λ (o : Option After). and_then o (λ b. alone_behind s the_lun (alone_on s the_lun turns) b.world b.reply)) is ∙ ap (alone_behind s the_lun (alone_on s the_lun turns) a.world) said

pub ended_turn : (c later : CoreView) → IsEvent c (Step the_lun) (ToStep Ended) later → TookTurn c true later
ended_turn c later event w at law =
    let k = event w at law in
    (k.next.world, k.is_at, record { lawful = k.lawful; goes = λ turns. behind_step (channel_in c) w k.next (ToStep Ended) turns k.is_next k.replied }, k.channel)

-- a step that doesn't end the program, and leaves it ready
abbrev goes_on : Stepped → Type 0
goes_on answer = (s : Channel) (turns : ℕ) (w : World) → alone_behind s the_lun (alone_on s the_lun turns) w (ToStep answer) ≡ alone_on s the_lun turns w

more : (answer : Stepped) → (answer ≡ Ended → ⊥) → (answer ≡ NotReady → ⊥) → goes_on answer
more Ended e n = absurd (e refl)
more NotReady e n = absurd (n refl)
more _ e n = λ s turns w. refl

pub more_turn : (c later : CoreView) (answer : Stepped) → IsEvent c (Step the_lun) (ToStep answer) later → (answer ≡ Ended → ⊥) → (answer ≡ NotReady → ⊥) → TookTurn c false later
more_turn c later answer event not_ended not_waits w at law =
    let k = event w at law in
    (k.next.world, k.is_at, record { lawful = k.lawful; goes = λ turns. behind_step (channel_in c) w k.next (ToStep answer) turns k.is_next k.replied ∙ more answer not_ended not_waits (channel_in c) turns k.next.world }, k.channel)

pub ready_turn : (c mid later : CoreView) (came : Bool) → IsEvent c (Step the_lun) (ToStep NotReady) mid → IsEvent mid (Ready the_lun no_failures) (ToReady came) later → TookTurn c false later
ready_turn c mid later came event ready w at law = turned (event w at law)
  where
    turned : Came c w (Step the_lun) (ToStep NotReady) mid → (behind : World) × IsAt later behind × Turned (channel_in c) w behind false × (channel_in later ≡ channel_in c)
    turned k =
        let m = ready k.next.world k.is_at (subst (λ (s : Channel). LawfulWorld s k.next.world) (sym k.channel) k.lawful) in
        let here : after (channel_in c) k.next.world (Ready the_lun no_failures) ≡ Some m.next = subst (λ (s : Channel). after s k.next.world (Ready the_lun no_failures) ≡ Some m.next) k.channel m.is_next in (
          m.next.world,
          m.is_at,
          record {
            lawful = subst (λ (s : Channel). LawfulWorld s m.next.world) k.channel m.lawful;
            goes = λ turns. behind_step (channel_in c) w k.next (ToStep NotReady) turns k.is_next k.replied ∙ ap (λ (o : Option After). and_then o (λ a. alone_on (channel_in c) the_lun turns a.world)) here;
          },
          m.channel ∙ k.channel,
        )

-- turns that were taken without an end
pub record StillRuns (c : CoreView) (turns taken : ℕ) (now : CoreView) : Type 0 where
  pub few : taken ≤ turns
  pub runs : (world : World) → IsAt c world → LawfulWorld (channel_in c) world → (w : World) × IsAt now w × LawfulWorld (channel_in c) w × (alone_on (channel_in c) the_lun turns world ≡ alone_on (channel_in c) the_lun (turns - taken) w) × (channel_in now ≡ channel_in c)

pub runs_first : (c : CoreView) (turns : ℕ) → StillRuns c turns 0 c
runs_first c turns = record { few = omega arith; runs = λ w at law. (w, at, law, ap (λ (n : ℕ). alone_on (channel_in c) the_lun n w) (let same : turns ≡ turns - 0 = omega arith in same), refl) }

turned_on : (c now later : CoreView) (ended : Bool) (w : World) → channel_in now ≡ channel_in c → TookTurn now ended later → IsAt now w → LawfulWorld (channel_in c) w → (behind : World) × IsAt later behind × Turned (channel_in c) w behind ended × (channel_in later ≡ channel_in c)
turned_on c now later ended w same t at law =
    let k = t w at (subst (λ (s : Channel). LawfulWorld s w) (sym same) law) in
    (k.0, k.1, subst (λ (s : Channel). Turned s w k.0 ended) same k.2, k.3 ∙ same)

one_less : (turns taken : ℕ) → taken < turns → turns - taken ≡ suc (turns - (taken + 1))
one_less turns taken h = omega arith

pub runs_on : (c now later : CoreView) (turns taken : ℕ) → taken < turns → StillRuns c turns taken now → TookTurn now false later → StillRuns c turns (taken + 1) later
runs_on c now later turns taken below r t =
    record {
      few = omega (arith, below);
      runs = λ world at law.
          let k = r.runs world at law in
          let m = turned_on c now later false k.0 k.4 t k.1 k.2 in
          (m.0, m.1, m.2.lawful, k.3 ∙ (ap (λ (n : ℕ). alone_on (channel_in c) the_lun n k.0) (one_less turns taken below) ∙ m.2.goes (turns - (taken + 1))), m.3);
    }

pub has_ended : (c now later : CoreView) (turns taken : ℕ) → taken < turns → StillRuns c turns taken now → TookTurn now true later → HasRun c turns later
has_ended c now later turns taken below r t world end at law is =
    let k = r.runs world at law in
    let m = turned_on c now later true k.0 k.4 t k.1 k.2 in
    let same : m.0 ≡ end = some_same m.0 end (sym (k.3 ∙ (ap (λ (n : ℕ). alone_on (channel_in c) the_lun n k.0) (one_less turns taken below) ∙ m.2.goes (turns - (taken + 1)))) ∙ is) in
    (subst (IsAt later) same m.1, subst (LawfulWorld (channel_in c)) same m.2.lawful, m.3)
  where
    some_same : (x y : World) → Some x ≡ Some y → x ≡ y
    some_same x y h = cc

pub never_out : (c now : CoreView) (turns taken : ℕ) → turns ≤ taken → StillRuns c turns taken now → EndsWithin c turns → ⊥
never_out c now turns taken all r e =
    let k = r.runs e.world e.is_at e.lawful in
    let none : turns - taken ≡ 0 = omega (arith, all) in
    clash (ap (λ (n : ℕ). alone_on (channel_in c) the_lun n k.0) (sym none) ∙ (sym k.3 ∙ e.is_end))
  where
    clash : no_world ≡ Some e.end → ⊥
    clash h = cc
