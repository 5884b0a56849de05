-- What one event more leaves lawful.
use Rattle.std.proofs.Common.{◌≡◌, ◌⊎◌, ℕ, ◌+◌, List, [], ◌∷◌, ◌++◌, Option, None, refl, sym, ap, ◌∙◌, subst, reverse, length}
use Rattle.std.specs.List.{filter_map}
use Rattle.std.proofs.lemmas.List.{reverse-append, append-nil}
use Rattle.std.proofs.lemmas.List.Elements.{filter_map-append}
use Rattle.onfi_cycle.specs.declared.lun.Lun.{Lun}
use Rattle.micro_program.specs.Program.{Job}
use Rattle.seq_core.specs.declared.stepped.Stepped.{Stepped}
use Rattle.seq_core.specs.Event.{Event, Step, LoadsVerified, AllLoadVerified}
use Rattle.seq_core.specs.Reply.{Reply, ToStep}
use Rattle.seq_core.specs.Shows.{CoreView}
use Rattle.seq_core.specs.Calls.{IsEvent}
use Rattle.job_queue.specs.declared.rule.QueuedJob.{QueuedJob}
use Rattle.channel_work.specs.declared.stored.Stored.{Stored}
use Rattle.channel_work.specs.declared.stored.Stored.TheVariants.{Step as WasStepped}
use Rattle.channel_work.specs.declared.tally.LunCount.{LunCount}
use Rattle.channel_work.specs.Stored.{IsStoredAs, AreStoredAs, IsAnswered, AreAnswered, load_name, loads_of, given_by, unloaded_names}
use Rattle.channel_work.specs.Turns.{turns_in, AreTurns, IsInTurn}
use Rattle.channel_work.specs.Counts.{AreCounts}
use Rattle.channel_work.specs.Channel.{HistoryView}
use Rattle.channel_work.specs.Lawful.{IsLawful}
use Rattle.channel_work.proofs.Runs.{run_more}

-- one event more that is stored so
pub stored_more : (taken : List (QueuedJob Job)) (xs : List Stored) (es : List Event) (x : Stored) (e : Event) → AreStoredAs taken xs es → IsStoredAs taken x e → AreStoredAs taken (xs ++ (x ∷ [])) (es ++ (e ∷ []))
stored_more taken [] [] x e h one = (one, tt)
stored_more taken [] (d ∷ es) x e h one = absurd h
stored_more taken (y ∷ xs) [] x e h one = absurd h
stored_more taken (y ∷ xs) (d ∷ es) x e h one = (h.0, stored_more taken xs es x e h.1 one)

pub answered_more : (xs : List Stored) (rs : List Reply) (x : Stored) (r : Reply) → AreAnswered xs rs → IsAnswered x r → AreAnswered (xs ++ (x ∷ [])) (rs ++ (r ∷ []))
answered_more [] [] x r h one = (one, tt)
answered_more [] (d ∷ rs) x r h one = absurd h
answered_more (y ∷ xs) [] x r h one = absurd h
answered_more (y ∷ xs) (d ∷ rs) x r h one = (h.0, answered_more xs rs x r h.1 one)

pub verified_more : (es : List Event) (e : Event) → AllLoadVerified es → LoadsVerified e → AllLoadVerified (es ++ (e ∷ []))
verified_more [] e h one = (one, tt)
verified_more (d ∷ es) e h one = (h.0, verified_more es e h.1 one)

-- the newest event comes first
pub newest : {X : Type 0} (xs : List X) (x : X) → reverse (xs ++ (x ∷ [])) ≡ x ∷ reverse xs
newest xs x = reverse-append xs (x ∷ [])

-- what is told of nothing more is as it was
pub none_more : {X Y : Type 0} (h : X → Option Y) (xs : List X) (x : X) → h x ≡ None → filter_map h (xs ++ (x ∷ [])) ≡ filter_map h xs
none_more h xs x none = filter_map-append h xs (x ∷ []) ∙ (rw none (append-nil (filter_map h xs)))

-- what an event that loads and gives nothing is: how it is stored and answered, and what it leaves of the turns
pub record IsPlain (v : HistoryView) (x : Stored) (e : Event) (reply : Reply) : Type 0 where
  pub stored : IsStoredAs v.taker.taken x e
  pub answered : IsAnswered x reply
  pub verified : LoadsVerified e
  pub no_load : load_name x ≡ None
  pub no_unload : given_by reply ≡ None
  pub names : (past : List Stored) → unloaded_names (x ∷ past) ≡ unloaded_names past

-- one plain event more leaves it lawful
pub plain_keeps : (v : HistoryView) (later : CoreView) (events : List Stored) (counts : List LunCount) (turns : ℕ) (x : Stored) (e : Event) (reply : Reply)
    → IsLawful v → IsPlain v x e reply → IsEvent v.core e reply later → events ≡ v.events ++ (x ∷ [])
    → AreCounts later.geometry counts later.past → length counts ≡ 16 → AreTurns (x ∷ reverse v.events) → turns ≡ turns_in (x ∷ reverse v.events)
    → IsLawful (record { core = later; taker = v.taker; events = events; taken = v.taken; started = v.started; backlog = v.backlog; done = v.done; counts = counts; turns = turns })
plain_keeps v later events counts turns x e reply h plain event is counted size in_turns count =
    let turned : reverse events ≡ x ∷ reverse v.events = ap reverse is ∙ newest v.events x in
    record {
      events = h.events ++ (e ∷ []);
      replies = h.replies ++ (reply ∷ []);
      stored = subst (λ (xs : List Stored). AreStoredAs v.taker.taken xs (h.events ++ (e ∷ []))) (sym is) (stored_more v.taker.taken v.events h.events x e h.stored plain.stored);
      answered = subst (λ (xs : List Stored). AreAnswered xs (h.replies ++ (reply ∷ []))) (sym is) (answered_more v.events h.replies x reply h.answered plain.answered);
      verified = verified_more h.events e h.verified plain.verified;
      run = run_more v.core later h.events h.replies e reply h.run event;
      loads = ap loads_of is ∙ (none_more load_name v.events x plain.no_load ∙ h.loads);
      gave = none_more given_by h.replies reply plain.no_unload ∙ h.gave;
      done = ap unloaded_names turned ∙ (plain.names (reverse v.events) ∙ h.done);
      jobs = h.jobs;
      started = h.started;
      order = h.order;
      taken = h.taken;
      numbers = h.numbers;
      counts = counted;
      size = size;
      turns = subst AreTurns (sym turned) in_turns;
      turn_count = count ∙ ap turns_in (sym turned);
    }

-- one step more, which begins the next turn or goes on with the last one
pub step_keeps : (v : HistoryView) (later : CoreView) (events : List Stored) (counts : List LunCount) (turns : ℕ) (l : Lun) (turn : ℕ) (answer : Stepped)
    → IsLawful v → IsEvent v.core (Step l) (ToStep answer) later → events ≡ v.events ++ (WasStepped l turn ∷ [])
    → AreCounts later.geometry counts later.past → length counts ≡ 16
    → (turn ≡ turns_in (reverse v.events)) ⊎ IsInTurn l turn (reverse v.events) → turns ≡ turn + 1
    → IsLawful (record { core = later; taker = v.taker; events = events; taken = v.taken; started = v.started; backlog = v.backlog; done = v.done; counts = counts; turns = turns })
step_keeps v later events counts turns l turn answer h event is counted size in_turn count =
    plain_keeps v later events counts turns (WasStepped l turn) (Step l) (ToStep answer) h
    (record { stored = refl; answered = (answer, refl); verified = tt; no_load = refl; no_unload = refl; names = λ past. refl }) event is
    counted size (in_turn, h.turns) count
