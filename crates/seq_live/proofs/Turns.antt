-- Turns of jobs on pins: the events that came, and what becomes of each job.
use Rattle.std.proofs.Common.{◌≡◌, ℕ, zero, suc, ◌+◌, ◌<◌, ◌≤◌, Bool, true, false, ◌⊎◌, inl, inr, List, [], ◌∷◌, ◌++◌, Option, Some, None, refl, sym, ap, ◌∙◌, subst, ◌==◌, eqb-true, eq-eqb, cond, map, length, length-append, below_more, get_or, set, lit<, replicate, Contains, Result, Ok, Err, IfOk, is_some, arith}
use Rattle.std.specs.List.{list_all}
use Rattle.std.proofs.lemmas.Bool.{and_from, and_parts}
use Rattle.std.proofs.lemmas.List.{append-nil, map-append, length-set, set-get_or, get_or_default}
use Rattle.std.proofs.lemmas.List.Elements.{Contains-append_left, Contains-append_right}
use Rattle.onfi_cycle.specs.declared.lun.Lun.{Lun}
use Rattle.micro_program.specs.Program.{Job}
use Rattle.seq_core.specs.declared.sequencer.LoadRefused.{LoadRefused}
use Rattle.seq_core.specs.declared.sequencer.UnloadedJob.{UnloadedJob}
use Rattle.seq_core.specs.declared.unload_fault.UnloadFault.{UnloadFault}
use Rattle.seq_core.specs.declared.stepped.Stepped.{Stepped}
use Rattle.seq_core.specs.declared.stepped.Stepped.TheVariants.{Ended, Went, HandedOver, Held, Empty}
use Rattle.seq_core.specs.Event.{LoadsVerified, IsVerified}
use Rattle.seq_core.specs.Reply.{Reply, ToLoad, ToStep, ToUnload, Loaded, NotLoaded, Unloaded, NotUnloaded}
use Rattle.seq_live.specs.Event.{LiveEvent, Load, Step, Ready, ArrayReady, Unload, plain, is_quiet, is_ready, AllLoadVerified}
use Rattle.seq_live.specs.Headline.{LiveGoesWell}
use Rattle.seq_live.specs.Kept.{LiveView, channel_at, IsLiveAt, IsLive}
use Rattle.onfi_cycle.specs.Channel.{Channel}
use Rattle.seq_core.specs.World.{World, fresh}
use Rattle.seq_live.specs.Calls.{IsLiveRun, IsLiveEvent}
use Rattle.seq_live.specs.Driven.{HasStepped, HasCome, ShowReadies, HaveCome, cycles_in}
use Rattle.seq_core.proofs.Main.{fresh_is_lawful}
use Rattle.seq_live.proofs.Driven.{none_come, loud_come, loud_shows, come_more, show_more, none_show}
use Rattle.onfi_cycle.specs.declared.item.Item.{Item}
use Rattle.seq_live.specs.declared.out_of_turn.OutOfTurn.{OutOfTurn}
use Rattle.seq_live.specs.declared.out_of_turn.OutOfTurn.TheVariants.{StepGoesOn}
use Rattle.seq_live.specs.declared.live.StepGoingOn.{StepGoingOn}
use Rattle.seq_live.specs.declared.run.RunEnd.{RunEnd}
use Rattle.seq_live.specs.declared.run.RunLimits.{RunLimits}
use Rattle.seq_live.specs.declared.live_job.OnLun.{OnLun}
use Rattle.seq_live.specs.declared.live_job.LiveJob.{LiveJob}
use Rattle.seq_live.specs.declared.live_job.LiveJob.TheVariants.{Waiting, Running, Done, Abandoned, Refused}
use Rattle.seq_live.specs.Jobs.{is_back, lun_of, place_on, Told, events_of, replies_of, HasRun, after_step, polls_then, polls, loaded, refused, ended, StaysOn, StandsOn, HasFewPolls, HasEnded, Goes, Turn, tolds_of, own, ArePlaced, AllGo, CameLegally, HasTurned, NoneHad, HasNoTurn, HaveTurned, HaveStopped, IsRunFault, EndsSo, RunsJobs}
use Rattle.seq_live.proofs.Running.{runs_more, no_run}
use Rattle.seq_live.proofs.Main.{calls_go_well}
use Rattle.seq_live.specs.Owned.{waits, AreThemselves, Moved, Moves, KeepsSound}
use Rattle.seq_live.proofs.Owned.{quiet_run, loaded_in, refused_in, taken_from, not_taken, moved_on, moved_started, moved_back, moved_away, moved_after, moves_by_event, keeps_none, keeps_turn, keeps_more, in_two, sound_begins, themselves}

-- 1. runs with their replies

abbrev told : LiveEvent → Reply → Told
told e reply = record { event = e; reply = reply }

pub no_calls : (v : LiveView) (pins : Option (List Item)) → HasRun v [] v pins pins
no_calls v pins = record { verified = tt; run = no_run v; show = none_show v; pins = none_come v pins }

-- a load or an unload
pub one_call : (v u : LiveView) (e : LiveEvent) (reply : Reply) (pins : Option (List Item)) → is_quiet e ≡ false → LoadsVerified (plain e) → IsLiveEvent v e reply u → HasRun v (told e reply ∷ []) u pins pins
one_call v u e reply pins loud verified event = record { verified = (verified, tt); run = event; show = loud_shows v e loud; pins = loud_come v e pins loud }

verified_more : (es fs : List LiveEvent) → AllLoadVerified es → AllLoadVerified fs → AllLoadVerified (es ++ fs)
verified_more [] fs first more = more
verified_more (e ∷ es) fs first more = (first.0, verified_more es fs first.1 more)

pub more_calls : (v u t : LiveView) (log more : List Told) (o p q : Option (List Item)) → HasRun v log u o p → HasRun u more t p q → HasRun v (log ++ more) t o q
more_calls v u t log more o p q first second =
    let events : events_of log ++ events_of more ≡ events_of (log ++ more) = sym (map-append (λ (t : Told). t.event) log more) in
    record {
      verified = subst AllLoadVerified events (verified_more (events_of log) (events_of more) first.verified second.verified);
      run = subst (λ (es : List LiveEvent). IsLiveRun v es (replies_of (log ++ more)) t) events
          (subst (λ (rs : List Reply). IsLiveRun v (events_of log ++ events_of more) rs t) (sym (map-append (λ (t : Told). t.reply) log more))
          (runs_more v u t (events_of log) (events_of more) (replies_of log) (replies_of more) first.run second.run));
      show = subst (ShowReadies v) events (show_more v u (events_of log) (events_of more) (replies_of log) first.run first.show second.show);
      pins = subst (λ (es : List LiveEvent). HasCome v es o q) events (come_more v u t (events_of log) (events_of more) (replies_of log) (replies_of more) o p q first.run second.run first.pins second.pins);
    }

-- events with a reply to each
record Zipped (es : List LiveEvent) (rs : List Reply) : Type 0 where
  log : List Told
  events : events_of log ≡ es
  replies : replies_of log ≡ rs

zipped : (es : List LiveEvent) (rs : List Reply) → length rs ≡ length es → Zipped es rs
zipped [] [] h = record { log = []; events = refl; replies = refl }
zipped [] (r ∷ rs) h = absurd (omega (arith, h))
zipped (e ∷ es) [] h = absurd (omega (arith, h))
zipped (e ∷ es) (r ∷ rs) h =
    let rest = zipped es rs (omega (arith, h)) in
    record { log = told e r ∷ rest.log; events = ap (λ (xs : List LiveEvent). e ∷ xs) rest.events; replies = ap (λ (xs : List Reply). r ∷ xs) rest.replies }

-- 2. polls that say busy

pub polls_more : (l : Lun) (n : ℕ) (log more : List Told) → polls l n (log ++ more) ≡ polls l (polls l n log) more
polls_more l n [] more = refl
polls_more l n (t ∷ log) more = polls_more l (polls_then l n t.event t.reply) log more

-- one step of this LUN
polls_now : (l : Lun) (n : ℕ) (bytes : List ℕ) (answer : Stepped) → polls l n (told (Step l bytes) (ToStep answer) ∷ []) ≡ after_step n answer
polls_now l n bytes answer = rw (eq-eqb l.ce l.ce refl, eq-eqb l.lun l.lun refl) refl

-- its load
polls_loaded : (j : Job) (n : ℕ) → polls j.lun n (loaded j ∷ []) ≡ 0
polls_loaded j n = rw (eq-eqb j.lun.ce j.lun.ce refl, eq-eqb j.lun.lun j.lun.lun refl) refl

-- readies count for nothing
polls_ready : (l : Lun) (n : ℕ) (log : List Told) → list_all is_ready (events_of log) ≡ true → polls l n log ≡ n
polls_ready l n [] ready = refl
polls_ready l n (t ∷ log) ready =
    let both = and_parts (is_ready t.event) (list_all is_ready (events_of log)) ready in
    ap (λ (m : ℕ). polls l m log) (same t.event both.0) ∙ polls_ready l n log both.1
  where
    same : (e : LiveEvent) → is_ready e ≡ true → polls_then l n e t.reply ≡ n
    same (Load m j) h = cc
    same (Step m bytes) h = cc
    same (Unload m) h = cc
    same (Ready m fail) h = refl
    same (ArrayReady m fail) h = refl

-- 3. a step on pins, as such a run

pub record SteppedRun (v u : LiveView) (l : Lun) (answer : Stepped) (before after : Option (List Item)) : Type 0 where
  pub log : List Told
  pub ran : HasRun v log u before after
  pub busy : (n : ℕ) → polls l n log ≡ after_step n answer
  pub some : 0 < length log
  pub quiet : list_all is_quiet (events_of log) ≡ true

ready_quiet : (es : List LiveEvent) → list_all is_ready es ≡ true → list_all is_quiet es ≡ true
ready_quiet [] ready = refl
ready_quiet (Load l j ∷ es) ready = cc
ready_quiet (Step l bytes ∷ es) ready = cc
ready_quiet (Unload l ∷ es) ready = cc
ready_quiet (Ready l fail ∷ es) ready = ready_quiet es ready
ready_quiet (ArrayReady l fail ∷ es) ready = ready_quiet es ready

quiet_more : (es : List LiveEvent) (l : Lun) (bytes : List ℕ) → list_all is_quiet es ≡ true → list_all is_quiet (es ++ (Step l bytes ∷ [])) ≡ true
quiet_more [] l bytes quiet = refl
quiet_more (e ∷ es) l bytes quiet =
    let both = and_parts (is_quiet e) (list_all is_quiet es) quiet in
    and_from (is_quiet e) (list_all is_quiet (es ++ (Step l bytes ∷ []))) both.0 (quiet_more es l bytes both.1)

-- events that load nothing
quiet_loads_none : (es : List LiveEvent) → list_all is_quiet es ≡ true → AllLoadVerified es
quiet_loads_none [] quiet = tt
quiet_loads_none (Load l j ∷ es) quiet = cc
quiet_loads_none (Unload l ∷ es) quiet = cc
quiet_loads_none (Step l bytes ∷ es) quiet = (tt, quiet_loads_none es quiet)
quiet_loads_none (Ready l fail ∷ es) quiet = (tt, quiet_loads_none es quiet)
quiet_loads_none (ArrayReady l fail ∷ es) quiet = (tt, quiet_loads_none es quiet)

pub stepped_run : (v u : LiveView) (l : Lun) (taken : List ℕ) (answer : Stepped) (before after : Option (List Item)) → HasStepped v l taken answer u before after → SteppedRun v u l answer before after
stepped_run v u l taken answer before after h =
    record {
      log = z.log ++ (last ∷ []);
      ran = record {
        verified = subst AllLoadVerified (sym events) (verified_more h.readies (Step l h.bytes ∷ []) (quiet_loads_none h.readies (ready_quiet h.readies h.ready)) (tt, tt));
        run = subst (λ (es : List LiveEvent). IsLiveRun v es (replies_of (z.log ++ (last ∷ []))) u) (sym events)
            (subst (λ (rs : List Reply). IsLiveRun v (h.readies ++ (Step l h.bytes ∷ [])) rs u) (sym replies) h.run);
        show = subst (ShowReadies v) (sym events) h.show;
        pins = subst (λ (es : List LiveEvent). HasCome v es before after) (sym events) h.pins;
      };
      busy = λ n. polls_more l n z.log (last ∷ []) ∙ (ap (λ (m : ℕ). polls l m (last ∷ [])) (polls_ready l n z.log (ap (list_all is_ready) z.events ∙ h.ready)) ∙ polls_now l n h.bytes answer);
      some = let both = length-append z.log (last ∷ []) in omega (arith, both);
      quiet = ap (list_all is_quiet) events ∙ quiet_more h.readies l h.bytes (ready_quiet h.readies h.ready);
    }
  where
    z : Zipped h.readies h.replies
    z = zipped h.readies h.replies h.paired

    last : Told
    last = told (Step l h.bytes) (ToStep answer)

    events : events_of (z.log ++ (last ∷ [])) ≡ h.readies ++ (Step l h.bytes ∷ [])
    events = map-append (λ (t : Told). t.event) z.log (last ∷ []) ∙ ap (λ (es : List LiveEvent). es ++ (Step l h.bytes ∷ [])) z.events

    replies : replies_of (z.log ++ (last ∷ [])) ≡ h.replies ++ (ToStep answer ∷ [])
    replies = map-append (λ (t : Told). t.reply) z.log (last ∷ []) ∙ ap (λ (rs : List Reply). rs ++ (ToStep answer ∷ [])) z.replies

-- 4. what becomes of a job

-- nothing came in its turns
pub goes_same : {A : Type 0} (most : ℕ) (x : LiveJob A) → Goes most x x []
goes_same most (Waiting j) = (refl, refl)
goes_same most (Running on) = ((refl, refl), inr (inr refl))
goes_same most (Done d) = inl (refl, refl)
goes_same most (Abandoned on) = inl (refl, refl)
goes_same most (Refused r) = inl (refl, refl)

-- it stands on its LUN still, after more polls
pub stands_more : {A : Type 0} (x : LiveJob A) (on later : OnLun) (log more : List Told) → on.lun ≡ later.lun → later.busy_polls ≡ polls later.lun on.busy_polls more → StandsOn x on log → StandsOn x later (log ++ more)
stands_more (Waiting j) on later log more same count h = (
  h.0 ∙ same,
  Contains-append_left log more (loaded j) h.1,
  λ n.
      let before : on.busy_polls ≡ polls later.lun n log = subst (λ (l : Lun). on.busy_polls ≡ polls l n log) same (h.2 n) in
      count ∙ (ap (λ (m : ℕ). polls later.lun m more) before ∙ sym (polls_more later.lun n log more)),
)
stands_more (Running o) on later log more same count h =
    let before : on.busy_polls ≡ polls later.lun o.busy_polls log = subst (λ (l : Lun). on.busy_polls ≡ polls l o.busy_polls log) same h.1 in
    (h.0 ∙ same, count ∙ (ap (λ (m : ℕ). polls later.lun m more) before ∙ sym (polls_more later.lun o.busy_polls log more)))
stands_more (Done d) on later log more same count h = h
stands_more (Abandoned o) on later log more same count h = h
stands_more (Refused r) on later log more same count h = h

-- it came to its LUN later, or was there
stands_on : {A : Type 0} (most : ℕ) (x y : LiveJob A) (on : OnLun) (log more : List Told) → Goes most x y log → StandsOn y on more → StandsOn x on (log ++ more)
stands_on {A} most x (Waiting j) on log more g h =
    let here : StandsOn {A = A} (Waiting j) on (log ++ more) = (h.0, Contains-append_right log more (loaded j) h.1, λ n. h.2 (polls on.lun n log) ∙ sym (polls_more on.lun n log more)) in
    subst (λ (z : LiveJob A). StandsOn z on (log ++ more)) (sym g.0) here
stands_on most x (Running o) on log more g h = stands_more x o on log more h.0 h.1 g.0
stands_on most x (Done d) on log more g h = absurd h
stands_on most x (Abandoned o) on log more g h = absurd h
stands_on most x (Refused r) on log more g h = absurd h

-- its polls are few still
few_on : {A : Type 0} (most : ℕ) (x y : LiveJob A) (on : OnLun) (log : List Told) → Goes most x y log → HasFewPolls most y on → HasFewPolls most x on
few_on most x y on log g (inl none) = inl none
few_on most x y on log g (inr (inl few)) = inr (inl few)
few_on {A} most x y on log g (inr (inr same)) = (subst (λ (z : LiveJob A). Goes most x z log) same g).1

ended_more : {A : Type 0} (x : LiveJob A) (d : UnloadedJob A) (log more : List Told) → HasEnded x d log → HasEnded x d (log ++ more)
ended_more (Waiting j) d log more h = (Contains-append_left log more (loaded j) h.0, Contains-append_left log more (ended j.lun d) h.1)
ended_more (Running on) d log more h = Contains-append_left log more (ended on.lun d) h
ended_more (Done e) d log more h = h
ended_more (Abandoned on) d log more h = h
ended_more (Refused r) d log more h = h

-- one that stood on its LUN ended there
ended_there : {A : Type 0} (x : LiveJob A) (on : OnLun) (d : UnloadedJob A) (log more : List Told) → StandsOn x on log → Contains more (ended on.lun d) → HasEnded x d (log ++ more)
ended_there (Waiting j) on d log more h c = (Contains-append_left log more (loaded j) h.1, Contains-append_right log more (ended j.lun d) (subst (λ (l : Lun). Contains more (ended l d)) (sym h.0) c))
ended_there (Running o) on d log more h c = Contains-append_right log more (ended o.lun d) (subst (λ (l : Lun). Contains more (ended l d)) (sym h.0) c)
ended_there (Done e) on d log more h c = h
ended_there (Abandoned o) on d log more h c = h
ended_there (Refused r) on d log more h c = h

ended_later : {A : Type 0} (most : ℕ) (x y : LiveJob A) (d : UnloadedJob A) (log more : List Told) → Goes most x y log → HasEnded y d more → HasEnded x d (log ++ more)
ended_later {A} most x (Waiting j) d log more g h =
    let here : HasEnded {A = A} (Waiting j) d (log ++ more) = (Contains-append_right log more (loaded j) h.0, Contains-append_right log more (ended j.lun d) h.1) in
    subst (λ (z : LiveJob A). HasEnded z d (log ++ more)) (sym g.0) here
ended_later most x (Running on) d log more g h = ended_there x on d log more g.0 h
ended_later most x (Done e) d log more g h = absurd h
ended_later most x (Abandoned on) d log more g h = absurd h
ended_later most x (Refused r) d log more g h = absurd h

-- it is as it was, and nothing came
stood : {A : Type 0} (most : ℕ) (x y z : LiveJob A) (log more : List Told) → Goes most x y log → y ≡ z → more ≡ [] → Goes most x z (log ++ more)
stood {A} most x y z log more g same none =
    subst (λ (ts : List Told). Goes most x z ts) (sym (ap (λ (ts : List Told). log ++ ts) none ∙ append-nil log)) (subst (λ (u : LiveJob A). Goes most x u log) same g)

pub goes_on : {A : Type 0} (most : ℕ) (x y z : LiveJob A) (log more : List Told) → Goes most x y log → Goes most y z more → Goes most x z (log ++ more)
goes_on most x y (Waiting j) log more g h = stood most x y (Waiting j) log more g h.0 h.1
goes_on most x y (Running on) log more g h = (stands_on most x y on log more g h.0, few_on most x y on log g h.1)
goes_on most x y (Done d) log more g (inl h) = stood most x y (Done d) log more g h.0 h.1
goes_on most x y (Done d) log more g (inr h) = inr (ended_later most x y d log more g h)
goes_on most x y (Abandoned on) log more g (inl h) = stood most x y (Abandoned on) log more g h.0 h.1
goes_on most x y (Abandoned on) log more g (inr h) = inr (stands_on most x y on log more g h.0, h.1)
goes_on most x y (Refused r) log more g (inl h) = stood most x y (Refused r) log more g h.0 h.1
goes_on {A} most x y (Refused r) log more g (inr h) =
    let w : Goes most x (Waiting r.job) log = subst (λ (u : LiveJob A). Goes most x u log) h.0 g in
    inr (w.0, Contains-append_right log more (refused r) h.1)

-- 5. of each job of a list

-- an event in the turn of the job of a place
abbrev pub tagged : ℕ → List Told → List Turn
tagged k log = map (λ (t : Told). let z : Turn = record { place = k; told = t } in z) log

tolds_tagged : (k : ℕ) (log : List Told) → tolds_of (tagged k log) ≡ log
tolds_tagged k [] = refl
tolds_tagged k (t ∷ log) = ap (λ (ts : List Told). t ∷ ts) (tolds_tagged k log)

length_tagged : (k : ℕ) (log : List Told) → length (tagged k log) ≡ length log
length_tagged k [] = refl
length_tagged k (t ∷ log) = ap suc (length_tagged k log)

own_tagged : (k : ℕ) (log : List Told) → own k (tagged k log) ≡ log
own_tagged k [] = refl
own_tagged k (t ∷ log) = rw (eq-eqb k k refl) (ap (λ (ts : List Told). t ∷ ts) (own_tagged k log))

never_same : (k n : ℕ) → (k ≡ n → ⊥) → (k == n) ≡ false
never_same k n differs = at (k == n) refl
  where
    at : (b : Bool) → (k == n) ≡ b → (k == n) ≡ false
    at false e = e
    at true e = absurd (differs (eqb-true k n e))

none_tagged : (k n : ℕ) (log : List Told) → (k ≡ n → ⊥) → own n (tagged k log) ≡ []
none_tagged k n [] differs = refl
none_tagged k n (t ∷ log) differs = rw (never_same k n differs) (none_tagged k n log differs)

own_more : (k : ℕ) (turns more : List Turn) → own k (turns ++ more) ≡ own k turns ++ own k more
own_more k [] more = refl
own_more k (t ∷ turns) more = at (own_more k turns more) (t.place == k)
  where
    at : own k (turns ++ more) ≡ own k turns ++ own k more → (b : Bool) → cond b (t.told ∷ own k (turns ++ more)) (own k (turns ++ more)) ≡ cond b (t.told ∷ own k turns) (own k turns) ++ own k more
    at rest true = ap (λ (ts : List Told). t.told ∷ ts) rest
    at rest false = rest

placed_tagged : (n k : ℕ) (log : List Told) → k < n → ArePlaced n (tagged k log)
placed_tagged n k [] below = tt
placed_tagged n k (t ∷ log) below = (below, placed_tagged n k log below)

placed_more : (n : ℕ) (turns more : List Turn) → ArePlaced n turns → ArePlaced n more → ArePlaced n (turns ++ more)
placed_more n [] more a b = b
placed_more n (t ∷ turns) more a b = (a.0, placed_more n turns more a.1 b)

pub all_same : {A : Type 0} (most n : ℕ) (xs : List (LiveJob A)) → AllGo most n xs xs []
all_same most n [] = tt
all_same most n (x ∷ xs) = (goes_same most x, all_same most (n + 1) xs)

-- behind the place of a turn
same_behind : {A : Type 0} (most n k : ℕ) (xs : List (LiveJob A)) (log : List Told) → k < n → AllGo most n xs xs (tagged k log)
same_behind most n k [] log below = tt
same_behind most n k (x ∷ xs) log below =
    (subst (λ (ts : List Told). Goes most x x ts) (sym (none_tagged k n log (λ e. omega (arith, e, below)))) (goes_same most x), same_behind most (n + 1) k xs log (omega (arith, below)))

pub all_go_on : {A : Type 0} (most n : ℕ) (xs ys zs : List (LiveJob A)) (turns more : List Turn) → AllGo most n xs ys turns → AllGo most n ys zs more → AllGo most n xs zs (turns ++ more)
all_go_on most n [] [] [] turns more g h = tt
all_go_on most n [] [] (z ∷ zs) turns more g h = h
all_go_on most n [] (y ∷ ys) zs turns more g h = absurd g
all_go_on most n (x ∷ xs) [] zs turns more g h = absurd g
all_go_on most n (x ∷ xs) (y ∷ ys) [] turns more g h = h
all_go_on most n (x ∷ xs) (y ∷ ys) (z ∷ zs) turns more g h =
    (subst (λ (ts : List Told). Goes most x z ts) (sym (own_more n turns more)) (goes_on most x y z (own n turns) (own n more) g.0 h.0), all_go_on most (n + 1) xs ys zs turns more g.1 h.1)

-- one of them had a turn
pub one_goes : {A : Type 0} (most n : ℕ) (xs : List (LiveJob A)) (k : ℕ) (d y : LiveJob A) (log : List Told) → Goes most (get_or xs k d) y log → AllGo most n xs (set xs k y) (tagged (n + k) log)
one_goes most n [] k d y log g = tt
one_goes most n (x ∷ xs) zero d y log g =
    let here : n + 0 ≡ n = omega arith in
    subst (λ (m : ℕ). AllGo most n (x ∷ xs) (y ∷ xs) (tagged m log)) (sym here) (subst (λ (ts : List Told). Goes most x y ts) (sym (own_tagged n log)) g, same_behind most (n + 1) n xs log (omega arith))
one_goes most n (x ∷ xs) (suc k) d y log g =
    let there : n + 1 + k ≡ n + suc k = omega arith in
    (subst (λ (ts : List Told). Goes most x x ts) (sym (none_tagged (n + suc k) n log (λ e. omega (arith, e)))) (goes_same most x), subst (λ (m : ℕ). AllGo most (n + 1) xs (set xs k y) (tagged m log)) there (one_goes most (n + 1) xs k d y log g))

-- 6. turns

just_one : (t : Told) → Contains (t ∷ []) t
just_one t = (0, lit< tt, refl)

-- a job is loaded
started_there : {A : Type 0} (most : ℕ) (v u : LiveView) (j : Job) (pins : Option (List Item)) → IsVerified j → IsLiveEvent v (Load j.lun j) (ToLoad Loaded) u → HasTurned {A = A} most v u (Waiting j) (Running (record { lun = j.lun; busy_polls = 0 })) pins pins
started_there {A} most v u j pins verified event =
    record {
      log = loaded j ∷ [];
      ran = one_call v u (Load j.lun j) (ToLoad Loaded) pins refl verified event;
      goes = ((refl, just_one (loaded j), λ n. sym (polls_loaded j n)), inl refl);
      moves = moves_by_event v u (Load j.lun j) (ToLoad Loaded) (Waiting j) (Running (record { lun = j.lun; busy_polls = 0 })) event (λ w later law e. moved_started {A = A} (channel_at v) w later j j.lun 0 (loaded_in (channel_at v) w later j.lun j law e));
      some = omega arith;
    }

pub started : {A : Type 0} (most : ℕ) (v u : LiveView) (j : Job) (l : Lun) (pins : Option (List Item)) → IsVerified j → l ≡ j.lun → IsLiveEvent v (Load l j) (ToLoad Loaded) u → HasTurned {A = A} most v u (Waiting j) (Running (record { lun = l; busy_polls = 0 })) pins pins
started {A} most v u j l pins verified lun event =
    let there = started_there {A = A} most v u j pins verified (subst (λ (m : Lun). IsLiveEvent v (Load m j) (ToLoad Loaded) u) lun event) in
    subst (λ (m : Lun). HasTurned {A = A} most v u (Waiting j) (Running (record { lun = m; busy_polls = 0 })) pins pins) (sym lun) there

-- it isn't
pub handed_back : {A : Type 0} (most : ℕ) (v u : LiveView) (j : Job) (l : Lun) (r : LoadRefused A) (pins : Option (List Item)) → IsVerified j → l ≡ j.lun → r.job ≡ j → IsLiveEvent v (Load l j) (ToLoad (NotLoaded r.fault j)) u → HasTurned most v u (Waiting j) (Refused r) pins pins
handed_back {A} most v u j l r pins verified lun job event =
    let here : IsLiveEvent v (Load j.lun j) (ToLoad (NotLoaded r.fault j)) u = subst (λ (m : Lun). IsLiveEvent v (Load m j) (ToLoad (NotLoaded r.fault j)) u) lun event in
    record {
      log = refused r ∷ [];
      ran = one_call v u (Load r.job.lun r.job) (ToLoad (NotLoaded r.fault r.job)) pins refl (subst IsVerified (sym job) verified)
          (subst (λ (k : Job). IsLiveEvent v (Load k.lun k) (ToLoad (NotLoaded r.fault k)) u) (sym job) here);
      goes = inr (ap (λ (k : Job). let z : LiveJob A = Waiting k in z) (sym job), just_one (refused r));
      moves = moves_by_event v u (Load r.job.lun r.job) (ToLoad (NotLoaded r.fault r.job)) (Waiting j) (Refused r) (subst (λ (k : Job). IsLiveEvent v (Load k.lun k) (ToLoad (NotLoaded r.fault k)) u) (sym job) here)
          (λ w later law e. moved_back (channel_at v) w later j r (refused_in (channel_at v) w later r.job.lun r.job r.fault e));
      some = omega arith;
    }

-- a job that has ended is taken away
pub taken_away : {A : Type 0} (most : ℕ) (v u : LiveView) (on : OnLun) (d : UnloadedJob A) (pins : Option (List Item)) → IsLiveEvent v (Unload on.lun) (ToUnload (Unloaded d.job d.code)) u → HasTurned most v u (Running on) (Done d) pins pins
taken_away most v u on d pins event =
    record {
      log = ended on.lun d ∷ [];
      ran = one_call v u (Unload on.lun) (ToUnload (Unloaded d.job d.code)) pins refl tt event;
      goes = inr (just_one (ended on.lun d));
      moves = moves_by_event v u (Unload on.lun) (ToUnload (Unloaded d.job d.code)) (Running on) (Done d) event (λ w later law e. moved_away (channel_at v) w later on d (taken_from (channel_at v) w later on.lun d.job d.code e));
      some = omega arith;
    }

-- it isn't
pub not_taken_away : {A : Type 0} (most : ℕ) (v u : LiveView) (on : OnLun) (fault : UnloadFault) (pins : Option (List Item)) → IsLiveEvent v (Unload on.lun) (ToUnload (NotUnloaded fault)) u → HasTurned {A = A} most v u (Running on) (Running on) pins pins
not_taken_away {A} most v u on fault pins event =
    let log : List Told = told (Unload on.lun) (ToUnload (NotUnloaded fault)) ∷ [] in
    record {
      log = log;
      ran = one_call v u (Unload on.lun) (ToUnload (NotUnloaded fault)) pins refl tt event;
      goes = ((refl, refl), inr (inr refl));
      moves = moves_by_event v u (Unload on.lun) (ToUnload (NotUnloaded fault)) (Running on) (Running on) event (λ w later law e. moved_on (channel_at v) w later on (Running on) (not_taken (channel_at v) w later on.lun fault e) refl);
      some = omega arith;
    }

-- a step, and what becomes of its job then
pub stepped_turn : {A : Type 0} (most : ℕ) (v u : LiveView) (on : OnLun) (taken : List ℕ) (answer : Stepped) (y : LiveJob A) (before after : Option (List Item)) → HasStepped v on.lun taken answer u before after → StaysOn on y → ((log : List Told) → polls on.lun on.busy_polls log ≡ after_step on.busy_polls answer → Goes most (Running on) y log) → HasTurned most v u (Running on) y before after
stepped_turn most v u on taken answer y before after h stays goes =
    let r = stepped_run v u on.lun taken answer before after h in
    record {
      log = r.log;
      ran = r.ran;
      goes = goes r.log (r.busy on.busy_polls);
      moves = λ w ran at law is. moved_on (channel_at v) w ran.world on y (quiet_run (channel_at v) (events_of r.log) w ran r.quiet is) stays;
      some = r.some;
    }

-- a step that ends its program, and the turn of its job after it
pub stepped_then : {A : Type 0} (most : ℕ) (v u t : LiveView) (on : OnLun) (taken : List ℕ) (answer : Stepped) (z : LiveJob A) (before after : Option (List Item)) → answer ≡ Ended → HasStepped v on.lun taken answer u before after → HasTurned most u t (Running on) z after after → HasTurned most v t (Running on) z before after
stepped_then {A} most v u t on taken answer z before after ended h b =
    let r = stepped_run v u on.lun taken answer before after h in
    let some = r.some in
    let both = length-append r.log b.log in
    let count : polls on.lun on.busy_polls r.log ≡ on.busy_polls = r.busy on.busy_polls ∙ ap (after_step on.busy_polls) ended in
    record {
      log = r.log ++ b.log;
      ran = more_calls v u t r.log b.log before after after r.ran b.ran;
      goes = goes_on most (Running on) (Running on) z r.log b.log ((refl, sym count), inr (inr refl)) b.goes;
      moves = subst (λ (es : List LiveEvent). Moves v es (Running on) z) (sym (map-append (λ (x : Told). x.event) r.log b.log)) (moves_after r);
      some = omega (arith, some, both);
    }
  where
    moves_after : (r : SteppedRun v u on.lun answer before after) → Moves v (events_of r.log ++ events_of b.log) (Running on) z
    moves_after r w ran at law is =
        let i = in_two v u t (events_of r.log) (events_of b.log) (replies_of r.log) (replies_of b.log) w ran r.ran.run b.ran.run at law is in
        let kept = quiet_run (channel_at v) (events_of r.log) w i.first r.quiet i.is_first in
        let moved = subst (λ (c : Channel). Moved c i.first.world i.second.world (Running on) z) i.channel (b.moves i.first.world i.second i.at i.law i.is_second) in
        subst (λ (x : World). Moved (channel_at v) w x (Running on) z) i.world (moved_after (channel_at v) w i.first.world i.second.world on z kept moved)

-- another word than a `wait` begins the polls anew
pub polls_anew : (A : Type 0) (most : ℕ) (on : OnLun) (answer : Stepped) (log : List Told) → (answer ≡ Went) ⊎ (answer ≡ HandedOver) → polls on.lun on.busy_polls log ≡ after_step on.busy_polls answer → Goes {A = A} most (Running on) (Running (record { lun = on.lun; busy_polls = 0 })) log
polls_anew A most on answer log (inl went) count = ((refl, sym (count ∙ ap (after_step on.busy_polls) went)), inl refl)
polls_anew A most on answer log (inr handed) count = ((refl, sym (count ∙ ap (after_step on.busy_polls) handed)), inl refl)

-- no word was stepped
pub polls_stay : (A : Type 0) (most : ℕ) (on : OnLun) (answer : Stepped) (log : List Told) → (answer ≡ Held) ⊎ (answer ≡ Empty) → polls on.lun on.busy_polls log ≡ after_step on.busy_polls answer → Goes {A = A} most (Running on) (Running on) log
polls_stay A most on answer log (inl held) count = ((refl, sym (count ∙ ap (after_step on.busy_polls) held)), inr (inr refl))
polls_stay A most on answer log (inr empty) count = ((refl, sym (count ∙ ap (after_step on.busy_polls) empty)), inr (inr refl))

-- 7. rounds

keeps_both : {A : Type 0} (v u t : LiveView) (turns more : List Turn) (xs ys zs : List (LiveJob A)) (o p q : Option (List Item)) → HasRun v (tolds_of turns) u o p → HasRun u (tolds_of more) t p q → KeepsSound v (events_of (tolds_of turns)) xs ys → KeepsSound u (events_of (tolds_of more)) ys zs → KeepsSound v (events_of (tolds_of (turns ++ more))) xs zs
keeps_both v u t turns more xs ys zs o p q first second a b =
    let log = tolds_of turns in
    let later = tolds_of more in
    let events : events_of (tolds_of (turns ++ more)) ≡ events_of log ++ events_of later = ap events_of (map-append (λ (x : Turn). x.told) turns more) ∙ map-append (λ (x : Told). x.event) log later in
    subst (λ (es : List LiveEvent). KeepsSound v es xs zs) (sym events)
    (keeps_more v u t (events_of log) (events_of later) (replies_of log) (replies_of later) xs ys zs first.run second.run a b)

more_turns : (v u t : LiveView) (turns more : List Turn) (o p q : Option (List Item)) → HasRun v (tolds_of turns) u o p → HasRun u (tolds_of more) t p q → HasRun v (tolds_of (turns ++ more)) t o q
more_turns v u t turns more o p q first second =
    subst (λ (log : List Told). HasRun v log t o q) (sym (map-append (λ (x : Turn). x.told) turns more)) (more_calls v u t (tolds_of turns) (tolds_of more) o p q first second)

-- so far in a round
pub record RoundSoFar {A : Type 0} (most : ℕ) (v later : LiveView) (xs ys : List (LiveJob A)) (place : ℕ) (had : List Bool) (before after : Option (List Item)) : Type 0 where
  pub turns : List Turn
  pub ran : HasRun v (tolds_of turns) later before after
  pub placed : ArePlaced (length xs) turns
  pub many : length ys ≡ length xs
  pub go : AllGo most 0 xs ys turns
  pub keeps : KeepsSound v (events_of (tolds_of turns)) xs ys
  pub idle : length turns ≡ 0 → NoneHad had × (ys ≡ xs) × ((k : ℕ) → k < place → (d : LiveJob A) → is_back (get_or xs k d) ≡ true)

pub none_had : (n : ℕ) → NoneHad (replicate n false)
none_had zero k = refl
none_had (suc n) zero = refl
none_had (suc n) (suc k) = none_had n k

pub round_begins : {A : Type 0} (most : ℕ) (v : LiveView) (xs : List (LiveJob A)) (had : List Bool) (pins : Option (List Item)) → NoneHad had → RoundSoFar most v v xs xs 0 had pins pins
round_begins most v xs had pins none = record { turns = []; ran = no_calls v pins; placed = tt; many = refl; go = all_same most 0 xs; keeps = keeps_none v xs; idle = λ e. (none, refl, λ k below d. absurd (omega (arith, below))) }

abbrev MayTurn : {A : Type 0} → ℕ → LiveView → LiveView → LiveJob A → LiveJob A → List Bool → List Bool → Option (List Item) → Option (List Item) → Type 0
MayTurn most v later x y had now before after = HasTurned most v later x y before after ⊎ HasNoTurn v later x y had now before after

pub round_more : {A : Type 0} (most : ℕ) (v u t : LiveView) (xs ys : List (LiveJob A)) (k : ℕ) (d y : LiveJob A) (had now : List Bool) (o p q : Option (List Item)) → k < length ys → RoundSoFar most v u xs ys k had o p → MayTurn most u t (get_or ys k d) y had now p q → RoundSoFar most v t xs (set ys k y) (k + 1) now o q
round_more most v u t xs ys k d y had now o p q inside a (inl b) =
    let some = b.some in
    let more = tagged k b.log in
    let log_is : tolds_of more ≡ b.log = tolds_tagged k b.log in
    let ran : HasRun u (tolds_of more) t p q = subst (λ (log : List Told). HasRun u log t p q) (sym log_is) b.ran in
    let size : length more ≡ length b.log = length_tagged k b.log in
    let both = length-append a.turns more in
    let many = a.many in
    let here : 0 + k ≡ k = omega arith in
    record {
      turns = a.turns ++ more;
      ran = more_turns v u t a.turns more o p q a.ran ran;
      placed = placed_more (length xs) a.turns more a.placed (placed_tagged (length xs) k b.log (omega (arith, inside, many)));
      many = length-set ys k y ∙ a.many;
      go = all_go_on most 0 xs ys (set ys k y) a.turns more a.go (subst (λ (m : ℕ). AllGo most 0 ys (set ys k y) (tagged m b.log)) here (one_goes most 0 ys k d y b.log b.goes));
      keeps = keeps_both v u t a.turns more xs ys (set ys k y) o p q a.ran ran a.keeps
          (subst (λ (log : List Told). KeepsSound u (events_of log) ys (set ys k y)) (sym log_is) (keeps_turn u (events_of b.log) ys k d y inside b.moves));
      idle = λ e. absurd (omega (arith, some, size, both, e));
    }
round_more {A} most v u t xs ys k d y had now o p q inside a (inr b) =
    record {
      turns = a.turns;
      ran = subst (λ (w : LiveView). HasRun v (tolds_of a.turns) w o q) (sym b.same) (subst (λ (r : Option (List Item)). HasRun v (tolds_of a.turns) u o r) (sym b.pins) a.ran);
      placed = a.placed;
      many = length-set ys k y ∙ a.many;
      go = subst (λ (zs : List (LiveJob A)). AllGo most 0 xs zs a.turns) (sym kept) a.go;
      keeps = subst (λ (zs : List (LiveJob A)). KeepsSound v (events_of (tolds_of a.turns)) xs zs) (sym kept) a.keeps;
      idle = λ e. let i = a.idle e in let back = b.back i.0 in (back.1, kept ∙ i.1, λ n below other. at_place n below other i back.0);
    }
  where
    kept : set ys k y ≡ ys
    kept = ap (λ (z : LiveJob A). set ys k z) b.job ∙ set-get_or ys k d

    at_place : (n : ℕ) → n < k + 1 → (other : LiveJob A) → NoneHad had × (ys ≡ xs) × ((m : ℕ) → m < k → (c : LiveJob A) → is_back (get_or xs m c) ≡ true) → is_back (get_or ys k d) ≡ true → is_back (get_or xs n other) ≡ true
    at_place n below other i back = below_more _ _ (λ m less. i.2 m less other) here n below
      where
        here : is_back (get_or xs k other) ≡ true
        here = ap (λ (z : LiveJob A). is_back z) (ap (λ (zs : List (LiveJob A)). get_or zs k other) (sym i.1) ∙ get_or_default ys k other d inside) ∙ back

-- each of a list
all_back : {A : Type 0} (xs : List (LiveJob A)) → ((k : ℕ) → k < length xs → (d : LiveJob A) → is_back (get_or xs k d) ≡ true) → list_all is_back xs ≡ true
all_back [] each = refl
all_back (x ∷ xs) each = and_from (is_back x) (list_all is_back xs) (each 0 (omega arith) x) (all_back xs (λ k below d. each (suc k) (omega (arith, below)) d))

pub round_ends : {A : Type 0} (most : ℕ) (v u : LiveView) (xs ys : List (LiveJob A)) (place : ℕ) (had : List Bool) (before after : Option (List Item)) → length xs ≤ place → RoundSoFar most v u xs ys place had before after → HaveTurned most v u xs ys before after
round_ends {A} most v u xs ys place had before after end a = record { turns = a.turns; ran = a.ran; placed = a.placed; go = a.go; keeps = a.keeps; some = λ left. at (length a.turns) refl left }
  where
    clash : (b : Bool) → b ≡ true → b ≡ false → ⊥
    clash b x y = cc

    at : (n : ℕ) → length a.turns ≡ n → list_all is_back xs ≡ false → 0 < length a.turns
    at zero e left = absurd (clash (list_all is_back xs) (all_back xs (λ k below d. (a.idle e).2 k (omega (arith, below, end)) d)) left)
    at (suc n) e left = omega (arith, e)

pub round_stops : {A : Type 0} (most : ℕ) (v u t : LiveView) (xs ys : List (LiveJob A)) (k : ℕ) (d y : LiveJob A) (had : List Bool) (room : ℕ) (e : OutOfTurn) (o p q : Option (List Item)) → RoundSoFar most v u xs ys k had o p → IsRunFault t room e × (t ≡ u) × (y ≡ get_or ys k d) × (q ≡ p) → HaveStopped most v t xs (set ys k y) room e o q
round_stops {A} most v u t xs ys k d y had room e o p q a h =
    record {
      turns = a.turns;
      ran = subst (λ (w : LiveView). HasRun v (tolds_of a.turns) w o q) (sym h.1) (subst (λ (r : Option (List Item)). HasRun v (tolds_of a.turns) u o r) (sym h.3) a.ran);
      placed = a.placed;
      go = subst (λ (zs : List (LiveJob A)). AllGo most 0 xs zs a.turns) (sym (ap (λ (z : LiveJob A). set ys k z) h.2 ∙ set-get_or ys k d)) a.go;
      keeps = subst (λ (zs : List (LiveJob A)). KeepsSound v (events_of (tolds_of a.turns)) xs zs) (sym (ap (λ (z : LiveJob A). set ys k z) h.2 ∙ set-get_or ys k d)) a.keeps;
      fault = h.0;
    }

-- 8. rounds, one after another

pub record RoundsSoFar {A : Type 0} (most : ℕ) (v later : LiveView) (xs ys : List (LiveJob A)) (rounds : ℕ) (before after : Option (List Item)) : Type 0 where
  pub turns : List Turn
  pub ran : HasRun v (tolds_of turns) later before after
  pub placed : ArePlaced (length xs) turns
  pub size : length ys ≡ length xs
  pub go : AllGo most 0 xs ys turns
  pub keeps : KeepsSound v (events_of (tolds_of turns)) xs ys
  pub many : rounds ≤ length turns

-- as many jobs as before
go_length : {A : Type 0} (most n : ℕ) (xs ys : List (LiveJob A)) (turns : List Turn) → AllGo most n xs ys turns → length ys ≡ length xs
go_length most n [] [] turns g = refl
go_length most n [] (y ∷ ys) turns g = absurd g
go_length most n (x ∷ xs) [] turns g = absurd g
go_length most n (x ∷ xs) (y ∷ ys) turns g = ap suc (go_length most (n + 1) xs ys turns g.1)

pub rounds_begin : {A : Type 0} (most : ℕ) (v : LiveView) (xs : List (LiveJob A)) (pins : Option (List Item)) → RoundsSoFar most v v xs xs 0 pins pins
rounds_begin most v xs pins = record { turns = []; ran = no_calls v pins; placed = tt; size = refl; go = all_same most 0 xs; keeps = keeps_none v xs; many = omega arith }

pub rounds_more : {A : Type 0} (most : ℕ) (v u t : LiveView) (xs ys zs : List (LiveJob A)) (rounds : ℕ) (o p q : Option (List Item)) → RoundsSoFar most v u xs ys rounds o p → list_all is_back ys ≡ false → HaveTurned most u t ys zs p q → RoundsSoFar most v t xs zs (rounds + 1) o q
rounds_more most v u t xs ys zs rounds o p q a left b =
    let many = a.many in
    let some = b.some left in
    let both = length-append a.turns b.turns in
    record {
      turns = a.turns ++ b.turns;
      ran = more_turns v u t a.turns b.turns o p q a.ran b.ran;
      placed = placed_more (length xs) a.turns b.turns a.placed (subst (λ (n : ℕ). ArePlaced n b.turns) a.size b.placed);
      size = go_length most 0 ys zs b.turns b.go ∙ a.size;
      go = all_go_on most 0 xs ys zs a.turns b.turns a.go b.go;
      keeps = keeps_both v u t a.turns b.turns xs ys zs o p q a.ran b.ran a.keeps b.keeps;
      many = omega (arith, many, some, both);
    }

-- of a new sequencer
goes_well : (v u : LiveView) (log : List Told) (before after : Option (List Item)) → IsLive v → HasRun v log u before after → IsLiveAt v (fresh (channel_at v)) → LiveGoesWell (channel_at v) (events_of log)
goes_well v u log before after k ran at = calls_go_well v u (events_of log) (replies_of log) k.is_channel at ran.verified ran.run

-- the trace of a new sequencer begins with nothing
came_from_nothing : (came past : List Item) → past ≡ came ++ [] → came ≡ past
came_from_nothing came past h = sym (append-nil came) ∙ sym h

came_legally : (v u : LiveView) (log : List Told) (before after : Option (List Item)) → IsLive v → HasRun v log u before after → IsLiveAt v (fresh (channel_at v)) → CameLegally (channel_at v) (events_of log) before after
came_legally v u log before after k ran at =
    let w = goes_well v u log before after k ran at in
    let law = fresh_is_lawful (channel_at v) in
    record {
      ran = w.ran;
      is_ran = w.is_ran;
      legal = w.legal;
      shown = ran.show (fresh (channel_at v)) at law;
      on_pins = subst (λ (xs : List Item). HaveCome xs before after) (came_from_nothing ran.pins.came (cycles_in w.ran.world.past) (ran.pins.bring (fresh (channel_at v)) w.ran at law w.is_ran)) ran.pins.on_pins;
    }

are_themselves : {A : Type 0} (v u : LiveView) (log : List Told) (xs ys : List (LiveJob A)) (before after : Option (List Item)) → IsLive v → HasRun v log u before after → KeepsSound v (events_of log) xs ys → list_all waits xs ≡ true → AreThemselves xs ys
are_themselves v u log xs ys before after k ran keeps all =
    let r = ran.run k.world k.is_at k.lawful in
    themselves (channel_at v) r.ran.world xs ys (keeps k.world r.ran k.is_at k.lawful r.is_ran xs (sound_begins (channel_at v) k.world xs all))

pub run_stops : {A : Type 0} (limits : RunLimits) (v u t : LiveView) (xs ys zs : List (LiveJob A)) (rounds room now : ℕ) (e : OutOfTurn) (o p q : Option (List Item)) → IsLive v → now ≡ room → RoundsSoFar limits.busy_polls v u xs ys rounds o p → HaveStopped limits.busy_polls u t ys zs now e p q → RunsJobs limits v t xs zs room (Err e) o q
run_stops limits v u t xs ys zs rounds room now e o p q k same a b =
    let turns = a.turns ++ b.turns in
    let ran = more_turns v u t a.turns b.turns o p q a.ran b.ran in
    record {
      turns = turns;
      ran = ran;
      placed = placed_more (length xs) a.turns b.turns a.placed (subst (λ (n : ℕ). ArePlaced n b.turns) a.size b.placed);
      go = all_go_on limits.busy_polls 0 xs ys zs a.turns b.turns a.go b.go;
      themselves = are_themselves v t (tolds_of turns) xs zs o q k ran (keeps_both v u t a.turns b.turns xs ys zs o p q a.ran b.ran a.keeps b.keeps);
      well = goes_well v t (tolds_of turns) o q k ran;
      legal = came_legally v t (tolds_of turns) o q k ran;
      end = tt;
      fault = subst (λ (n : ℕ). IsRunFault t n e) same b.fault;
    }

pub run_ends : {A : Type 0} (limits : RunLimits) (v u : LiveView) (xs ys : List (LiveJob A)) (rounds room : ℕ) (end : RunEnd) (o p : Option (List Item)) → IsLive v → (a : RoundsSoFar limits.busy_polls v u xs ys rounds o p) → EndsSo limits.rounds end ys a.turns → RunsJobs limits v u xs ys room (Ok end) o p
run_ends limits v u xs ys rounds room end o p k a ends =
    record {
      turns = a.turns;
      ran = a.ran;
      placed = a.placed;
      go = a.go;
      themselves = are_themselves v u (tolds_of a.turns) xs ys o p k a.ran a.keeps;
      well = goes_well v u (tolds_of a.turns) o p k a.ran;
      legal = came_legally v u (tolds_of a.turns) o p k a.ran;
      end = ends;
      fault = tt;
    }

-- 9. what a job is

pub place_is : {A : Type 0} (x : LiveJob A) (on : OnLun) → place_on x ≡ Some on → x ≡ Running on
place_is (Waiting j) on h = cc
place_is (Running o) on h = cc
place_is (Done d) on h = cc
place_is (Abandoned o) on h = cc
place_is (Refused r) on h = cc

pub never_back : {A : Type 0} (x : LiveJob A) → lun_of x ≡ None → is_back x ≡ true
never_back (Waiting j) h = cc
never_back (Running on) h = cc
never_back (Done d) h = refl
never_back (Abandoned on) h = refl
never_back (Refused r) h = refl

-- one that isn't on a LUN nor back waits
pub never_other : {A : Type 0} (x : LiveJob A) (l : Lun) → place_on x ≡ None → lun_of x ≡ Some l → ((j : Job) → x ≡ Waiting j → ⊥) → ⊥
never_other (Waiting j) l place lun other = other j refl
never_other (Running on) l place lun other = cc
never_other (Done d) l place lun other = cc
never_other (Abandoned on) l place lun other = cc
never_other (Refused r) l place lun other = cc

pub never_turned : (b : Bool) → b ≡ true → b ≡ false → ⊥
never_turned b x y = cc

pub may_turn : {A X : Type 0} (most : ℕ) (v u : LiveView) (x y : LiveJob A) (had now : List Bool) (before after : Option (List Item)) (r : Result X OutOfTurn) → IfOk r (λ a. HasTurned most v u x y before after) → IfOk r (λ a. MayTurn most v u x y had now before after)
may_turn most v u x y had now before after (Ok a) h = inl h
may_turn most v u x y had now before after (Err e) h = tt

-- a step goes on already
pub never_begun : {A : Type 0} (limits : RunLimits) (v : LiveView) (xs : List (LiveJob A)) (room : ℕ) (going : Option StepGoingOn) (pins : Option (List Item)) → IsLive v → going ≡ v.going → is_some going ≡ true → RunsJobs limits v v xs xs room (Err StepGoesOn) pins pins
never_begun limits v xs room None pins k is some = cc
never_begun limits v xs room (Some step) pins k is some =
    record {
      turns = [];
      ran = no_calls v pins;
      placed = tt;
      go = all_same limits.busy_polls 0 xs;
      themselves = are_themselves v v [] xs xs pins pins k (no_calls v pins) (keeps_none v xs);
      well = goes_well v v [] pins pins k (no_calls v pins);
      legal = came_legally v v [] pins pins k (no_calls v pins);
      end = tt;
      fault = (step.lun, (step, sym is));
    }
