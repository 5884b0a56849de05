-- Runs of a real bus, one after another.
use Rattle.std.proofs.Common.{◌≡◌, suc, List, [], ◌∷◌, ◌++◌, Option, Some, None, refl, sym, ap, ◌∙◌, subst, length}
use Rattle.onfi_cycle.specs.Channel.{Channel}
use Rattle.micro_program.specs.Moves.{and_then}
use Rattle.seq_core.specs.World.{World}
use Rattle.seq_core.specs.Reply.{Reply}
use Rattle.seq_core.specs.After.{After, Ran}
use Rattle.seq_core.specs.Lawful.{LawfulWorld}
use Rattle.seq_live.specs.Event.{LiveEvent}
use Rattle.seq_live.specs.After.{after_live, with_first, run_live, AllAnswered}
use Rattle.seq_live.specs.Headline.{LiveEventsAreOwn}
use Rattle.seq_live.specs.Kept.{LiveView, channel_at, IsLive}
use Rattle.seq_live.specs.Calls.{IsLiveRun}

same_ran : (r q : Ran) → Some r ≡ Some q → r ≡ q
same_ran r q e = cc

same_after : (a b : After) → Some a ≡ Some b → a ≡ b
same_after a b e = cc

-- a run after its first event
pub record RestOf (s : Channel) (e : LiveEvent) (events : List LiveEvent) (w : World) (ran : Ran) : Type 0 where
  pub a : After
  pub is_a : after_live s w e ≡ Some a
  pub rest : Ran
  pub is_rest : run_live s events a.world ≡ Some rest
  pub whole : record { world = rest.world; replies = a.reply ∷ rest.replies } ≡ ran

pub rest_of : (s : Channel) (e : LiveEvent) (events : List LiveEvent) (w : World) (ran : Ran) → run_live s (e ∷ events) w ≡ Some ran → RestOf s e events w ran
rest_of s e events w ran h = at (after_live s w e) refl h
  where
    then_run : (a : After) (o : Option Ran) → after_live s w e ≡ Some a → run_live s events a.world ≡ o → with_first a o ≡ Some ran → RestOf s e events w ran
    then_run a None is q h = cc
    then_run a (Some rest) is q h = record { a = a; is_a = is; rest = rest; is_rest = q; whole = same_ran (record { world = rest.world; replies = a.reply ∷ rest.replies }) ran h }

    at : (o : Option After) → after_live s w e ≡ o → and_then o (λ a. with_first a (run_live s events a.world)) ≡ Some ran → RestOf s e events w ran
    at None is h = cc
    at (Some a) is h = then_run a (run_live s events a.world) is refl h

pub answered_more : (s : Channel) (es fs : List LiveEvent) (w : World) (ran : Ran) → run_live s es w ≡ Some ran → AllAnswered s es w → AllAnswered s fs ran.world → AllAnswered s (es ++ fs) w
answered_more s [] fs w ran is first more = subst (λ (r : Ran). AllAnswered s fs r.world) (sym (same_ran (record { world = w; replies = [] }) ran is)) more
answered_more s (e ∷ es) fs w ran is first more =
    let r = rest_of s e es w ran is in
    let more_there : AllAnswered s fs r.rest.world = subst (λ (q : Ran). AllAnswered s fs q.world) (sym r.whole) more in (
      first.0,
      λ a is_a.
          let same : r.a ≡ a = same_after r.a a (sym r.is_a ∙ is_a) in
          subst (λ (b : After). AllAnswered s (es ++ fs) b.world) same (answered_more s es fs r.a.world r.rest r.is_rest (first.1 r.a r.is_a) more_there),
    )

abbrev pub run_of : Ran → Ran → Ran
run_of first rest = record { world = rest.world; replies = first.replies ++ rest.replies }

pub run_more : (s : Channel) (es fs : List LiveEvent) (w : World) (first rest : Ran) → run_live s es w ≡ Some first → run_live s fs first.world ≡ Some rest → run_live s (es ++ fs) w ≡ Some (run_of first rest)
run_more s [] fs w first rest is more =
    let same = same_ran (record { world = w; replies = [] }) first is in
    subst (λ (q : Ran). run_live s fs w ≡ Some (run_of q rest)) same (subst (λ (q : Ran). run_live s fs q.world ≡ Some rest) (sym same) more)
run_more s (e ∷ es) fs w first rest is more =
    let r = rest_of s e es w first is in
    let later = run_more s es fs r.a.world r.rest rest r.is_rest (subst (λ (q : Ran). run_live s fs q.world ≡ Some rest) (sym r.whole) more) in
    subst (λ (q : Ran). run_live s ((e ∷ es) ++ fs) w ≡ Some (run_of q rest)) r.whole (rw r.is_a (rw later refl))

pub own_more : (s : Channel) (es fs : List LiveEvent) (w : World) (ran : Ran) → run_live s es w ≡ Some ran → LiveEventsAreOwn s es w → LiveEventsAreOwn s fs ran.world → LiveEventsAreOwn s (es ++ fs) w
own_more s [] fs w ran is first more = subst (λ (r : Ran). LiveEventsAreOwn s fs r.world) (sym (same_ran (record { world = w; replies = [] }) ran is)) more
own_more s (e ∷ es) fs w ran is first more =
    let r = rest_of s e es w ran is in
    let a : After = first.0 in
    let same : r.a ≡ a = same_after r.a a (sym r.is_a ∙ first.1) in
    let run_there : run_live s es a.world ≡ Some r.rest = subst (λ (b : After). run_live s es b.world ≡ Some r.rest) same r.is_rest in
    (a, first.1, first.2, own_more s es fs a.world r.rest run_there first.3 (subst (λ (q : Ran). LiveEventsAreOwn s fs q.world) (sym r.whole) more))

-- one call after another
pub runs_more : (v u t : LiveView) (es fs : List LiveEvent) (rs ss : List Reply) → IsLiveRun v es rs u → IsLiveRun u fs ss t → IsLiveRun v (es ++ fs) (rs ++ ss) t
runs_more v u t es fs rs ss first second w at law =
    let a = first w at law in
    let law_there : LawfulWorld (channel_at u) a.ran.world = subst (λ (s : Channel). LawfulWorld s a.ran.world) (sym a.channel) a.lawful in
    let b = second a.ran.world a.is_at law_there in
    let run_there : run_live (channel_at v) fs a.ran.world ≡ Some b.ran = subst (λ (s : Channel). run_live s fs a.ran.world ≡ Some b.ran) a.channel b.is_ran in
    record {
      answered = answered_more (channel_at v) es fs w a.ran a.is_ran a.answered (subst (λ (s : Channel). AllAnswered s fs a.ran.world) a.channel b.answered);
      ran = run_of a.ran b.ran;
      is_ran = run_more (channel_at v) es fs w a.ran b.ran a.is_ran run_there;
      replied = ap (λ (xs : List Reply). xs ++ b.ran.replies) a.replied ∙ ap (λ (xs : List Reply). rs ++ xs) b.replied;
      is_at = b.is_at;
      own = own_more (channel_at v) es fs w a.ran a.is_ran a.own (subst (λ (s : Channel). LiveEventsAreOwn s fs a.ran.world) a.channel b.own);
      lawful = subst (λ (s : Channel). LawfulWorld s b.ran.world) a.channel b.lawful;
      channel = b.channel ∙ a.channel;
    }

-- no call
pub no_run : (v : LiveView) → IsLiveRun v [] [] v
no_run v w at law = record { answered = tt; ran = record { world = w; replies = [] }; is_ran = refl; replied = refl; is_at = at; own = tt; lawful = law; channel = refl }

-- 2. each event is answered

run_lengths : (s : Channel) (es : List LiveEvent) (w : World) (ran : Ran) → run_live s es w ≡ Some ran → length ran.replies ≡ length es
run_lengths s [] w ran h = ap (λ (r : Ran). length r.replies) (sym (same_ran (record { world = w; replies = [] }) ran h))
run_lengths s (e ∷ es) w ran h =
    let r = rest_of s e es w ran h in
    ap (λ (q : Ran). length q.replies) (sym r.whole) ∙ ap suc (run_lengths s es r.a.world r.rest r.is_rest)

pub answered_each : (v u : LiveView) (es : List LiveEvent) (rs : List Reply) → IsLive v → IsLiveRun v es rs u → length rs ≡ length es
answered_each v u es rs k run =
    let r = run k.world k.is_at k.lawful in
    ap length (sym r.replied) ∙ run_lengths (channel_at v) es k.world r.ran r.is_ran
