-- The steps of a turn, one after another.
use Rattle.std.proofs.Common.{◌≡◌, ℕ, ◌+◌, List, [], ◌∷◌, ◌++◌, Some, None, refl, sym, ap, ◌∙◌, subst, map, arith}
use Rattle.std.specs.List.{AllByRecursion}
use Rattle.std.proofs.lemmas.List.{map-append, append_assoc, append-nil}
use Rattle.onfi_cycle.specs.declared.lun.Lun.{Lun}
use Rattle.seq_core.specs.declared.stepped.Stepped.{Stepped}
use Rattle.seq_core.specs.declared.stepped.Stepped.TheVariants.{Went}
use Rattle.seq_core.specs.Event.{Event, Step}
use Rattle.seq_core.specs.Reply.{Reply, ToStep}
use Rattle.seq_core.specs.Calls.{IsEvent}
use Rattle.seq_core.specs.EventList.{IsRun}
use Rattle.channel_work.specs.declared.stored.Stored.{Stored}
use Rattle.channel_work.specs.declared.stored.Stored.TheVariants.{Step as WasStepped}
use Rattle.channel_work.specs.Channel.{HistoryView}
use Rattle.channel_work.specs.Turned.{counted, IsBeside, TookSteps, IsTurn, IsGoing}
use Rattle.channel_work.specs.declared.turn.Turn.{Turn}
use Rattle.channel_work.specs.State.{StateView, PassView, TookTurn, HasTurnedOn}
use Rattle.seq_core.proofs.EventList.{none_run, one_run_more}

-- the first step of a turn
pub one_step : (v u : HistoryView) (l : Lun) (answer : Stepped) → IsEvent v.core (Step l) (ToStep answer) u.core → u.events ≡ v.events ++ (WasStepped l v.turns ∷ []) → u.turns ≡ v.turns + 1 → IsBeside v u → TookSteps v l (answer ∷ []) u
one_step v u l answer event events turns beside =
    record { run = one_run_more v.core v.core u.core [] [] (Step l) (ToStep answer) (none_run v.core) event; events = events; turns = turns; beside = beside }

-- no step of a turn
pub no_turn : (v u : HistoryView) (l : Lun) → u ≡ v → IsTurn v l None u
no_turn v u l same =
    subst (IsTurn v l None) (sym same) (record {
      went = [];
      all_went = tt;
      steps = record { run = none_run v.core; events = sym (append-nil v.events); turns = omega arith; beside = record { taker = refl; taken = refl; started = refl; backlog = refl; done = refl } };
    })

beside_more : (v u w : HistoryView) → IsBeside v u → IsBeside u w → IsBeside v w
beside_more v u w a b =
    record { taker = b.taker ∙ a.taker; taken = b.taken ∙ a.taken; started = b.started ∙ a.started; backlog = b.backlog ∙ a.backlog; done = b.done ∙ a.done }

still_counted : (went : List Stepped) (answer : Stepped) → counted went ≡ 1 → counted (went ++ (answer ∷ [])) ≡ 1
still_counted [] answer h = refl
still_counted (x ∷ went) answer h = refl

more_step : (v u w : HistoryView) (l : Lun) (went : List Stepped) (answer : Stepped) → TookSteps v l went u → counted went ≡ 1 → IsEvent u.core (Step l) (ToStep answer) w.core → w.events ≡ u.events ++ (WasStepped l v.turns ∷ []) → w.turns ≡ u.turns → IsBeside u w → TookSteps v l (went ++ (answer ∷ [])) w
more_step v u w l went answer took one event events turns beside =
    let run = one_run_more v.core u.core w.core (map (λ a. Step l) went) (map ToStep went) (Step l) (ToStep answer) took.run event in
    let es : map (λ a. Step l) went ++ (Step l ∷ []) ≡ map (λ a. Step l) (went ++ (answer ∷ [])) = sym (map-append (λ (a : Stepped). Step l) went (answer ∷ [])) in
    let rs : map ToStep went ++ (ToStep answer ∷ []) ≡ map ToStep (went ++ (answer ∷ [])) = sym (map-append ToStep went (answer ∷ [])) in
    record {
      run = subst (λ (x : List Event). IsRun v.core x (map ToStep (went ++ (answer ∷ []))) w.core) es (subst (λ (x : List Reply). IsRun v.core (map (λ a. Step l) went ++ (Step l ∷ [])) x w.core) rs run);
      events = events ∙ (ap (λ (x : List Stored). x ++ (WasStepped l v.turns ∷ [])) took.events ∙ (append_assoc v.events (map (λ (a : Stepped). WasStepped l v.turns) went) (WasStepped l v.turns ∷ [])
          ∙ ap (λ (x : List Stored). v.events ++ x) (sym (map-append (λ (a : Stepped). WasStepped l v.turns) went (answer ∷ [])))));
      turns = turns ∙ (took.turns ∙ ap (λ (n : ℕ). v.turns + n) (one ∙ sym (still_counted went answer one)));
      beside = beside_more v u w took.beside beside;
    }

all_went_more : (went : List Stepped) (answer : Stepped) → AllByRecursion (λ a. a ≡ Went) went → answer ≡ Went → AllByRecursion (λ a. a ≡ Went) (went ++ (answer ∷ []))
all_went_more [] answer h is = (is, tt)
all_went_more (x ∷ went) answer h is = (h.0, all_went_more went answer h.1 is)

pub going_first : (v u : HistoryView) (l : Lun) (answer : Stepped) → TookSteps v l (answer ∷ []) u → answer ≡ Went → IsGoing v l u
going_first v u l answer took is = record { went = answer ∷ []; all_went = (is, tt); one = refl; steps = took }

pub going_on : (v u w : HistoryView) (l : Lun) (answer : Stepped) → IsGoing v l u → IsEvent u.core (Step l) (ToStep answer) w.core → w.events ≡ u.events ++ (WasStepped l v.turns ∷ []) → w.turns ≡ u.turns → IsBeside u w → answer ≡ Went → IsGoing v l w
going_on v u w l answer g event events turns beside is =
    record { went = g.went ++ (answer ∷ []); all_went = all_went_more g.went answer g.all_went is; one = still_counted g.went answer g.one; steps = more_step v u w l g.went answer g.steps g.one event events turns beside }

pub turn_first : (v u : HistoryView) (l : Lun) (answer : Stepped) → TookSteps v l (answer ∷ []) u → IsTurn v l (Some answer) u
turn_first v u l answer took = record { went = []; all_went = tt; steps = took }

pub turn_last : (v u w : HistoryView) (l : Lun) (answer : Stepped) → IsGoing v l u → IsEvent u.core (Step l) (ToStep answer) w.core → w.events ≡ u.events ++ (WasStepped l v.turns ∷ []) → w.turns ≡ u.turns → IsBeside u w → IsTurn v l (Some answer) w
turn_last v u w l answer g event events turns beside =
    record { went = g.went; all_went = g.all_went; steps = more_step v u w l g.went answer g.steps g.one event events turns beside }

pub turn_stopped : (v u w : HistoryView) (l : Lun) → IsGoing v l u → w ≡ u → IsTurn v l None w
turn_stopped v u w l g same = subst (IsTurn v l None) (sym same) (record { went = g.went; all_went = g.all_went; steps = g.steps })

-- a turn takes none away
pub turns_rise : (v u : StateView) (pass pass' : PassView) (n : ℕ) (answer : Turn) → TookTurn v pass n answer u pass' → HasTurnedOn pass pass'
turns_rise v u pass pass' n answer took =
    let counts = took.counts in
    let more = took.turn.steps.turns in
    (took.number, omega (arith, counts, more))
