-- Jobs that are taken and started.
use Rattle.std.proofs.Common.{◌≡◌, ◌⊎◌, inl, inr, ℕ, zero, suc, Bool, true, false, cond, List, [], ◌∷◌, ◌++◌, Option, Some, refl, sym, ap, ◌∙◌, subst, arith, reverse, map}
use Rattle.std.specs.List.{Contains, filter}
use Rattle.std.proofs.lemmas.List.{append_assoc, append-nil, map-append}
use Rattle.std.proofs.lemmas.List.Elements.{filter-append, Contains-append_left, Contains-append_right}
use Rattle.onfi_cycle.specs.declared.lun.Lun.{Lun}
use Rattle.onfi_cycle.specs.Channel.{same_lun}
use Rattle.micro_program.specs.Program.{Job}
use Rattle.seq_core.specs.Event.{Event, Load, Unload, IsVerified}
use Rattle.seq_core.specs.Reply.{ToLoad, ToUnload, Unloaded, Loaded as IsLoaded}
use Rattle.seq_core.specs.Shows.{CoreView}
use Rattle.seq_core.specs.Calls.{IsEvent}
use Rattle.seq_core.proofs.Slots.{same_lun_is, same_lun_self}
use Rattle.job_queue.specs.declared.rule.QueuedJob.{QueuedJob}
use Rattle.job_queue.specs.Rule.{IsInOrder}
use Rattle.job_queue.specs.Passes.{Taking}
use Rattle.channel_work.specs.declared.stored.Name.{Name}
use Rattle.channel_work.specs.declared.stored.Stored.{Stored}
use Rattle.channel_work.specs.declared.stored.Stored.TheVariants.{Load as Loaded, Step as WasStepped, Ready as BecameReady, ArrayReady as ArrayBecameReady, Unload as WasUnloaded}
use Rattle.channel_work.specs.Stored.{name_of, IsStoredAs, AreStoredAs, AreAnswered, load_name, loads_of, given_by, last_started, unloaded_names}
use Rattle.channel_work.specs.Turns.{turns_in, AreTurns}
use Rattle.channel_work.specs.Channel.{HistoryView, Ended}
use Rattle.channel_work.specs.Lawful.{IsLawful, of_lun}
use Rattle.channel_work.specs.Starting.{NoneOfLun, Leaves, Took}
use Rattle.channel_work.proofs.Runs.{run_more}
use Rattle.channel_work.proofs.Counting.{counts_same}
use Rattle.channel_work.proofs.Keeping.{stored_more, answered_more, verified_more, newest, none_more}
use Rattle.std.proofs.lemmas.List.Elements.{filter_map-append}

-- what is stored stays so when more jobs are taken
one_wider : (taken more : List (QueuedJob Job)) (x : Stored) (e : Event) → IsStoredAs taken x e → IsStoredAs (taken ++ more) x e
one_wider taken more (Loaded l n) e h = (h.0, Contains-append_left taken more h.0 h.1, h.2, h.3)
one_wider taken more (WasStepped l turn) e h = h
one_wider taken more (BecameReady l fail) e h = h
one_wider taken more (ArrayBecameReady l fail) e h = h
one_wider taken more (WasUnloaded l) e h = h

stored_wider : (taken more : List (QueuedJob Job)) (xs : List Stored) (es : List Event) → AreStoredAs taken xs es → AreStoredAs (taken ++ more) xs es
stored_wider taken more [] [] h = tt
stored_wider taken more [] (e ∷ es) h = absurd h
stored_wider taken more (x ∷ xs) [] h = absurd h
stored_wider taken more (x ∷ xs) (e ∷ es) h = (one_wider taken more x e h.0, stored_wider taken more xs es h.1)

-- a taken job goes to the end of the backlog
pub take_keeps : (v : HistoryView) (taker : Taking Job) (taken : List Name) (backlog : List (QueuedJob Job)) → IsLawful v → (t : Took v.taker taker v.taken taken v.backlog backlog) → IsInOrder (v.taker.taken ++ (t.job ∷ [])) v.taker.hosts
    → IsLawful (record { core = v.core; taker = taker; events = v.events; taken = taken; started = v.started; backlog = backlog; done = v.done; counts = v.counts; turns = v.turns })
take_keeps v taker taken backlog h t numbers =
    let x = t.job in
    let all = v.taker.taken in
    let taker_is = sym t.taker in
    subst (λ (k : Taking Job). IsLawful (record { core = v.core; taker = k; events = v.events; taken = taken; started = v.started; backlog = backlog; done = v.done; counts = v.counts; turns = v.turns })) taker_is
    (record {
      events = h.events;
      replies = h.replies;
      stored = stored_wider all (x ∷ []) v.events h.events h.stored;
      answered = h.answered;
      verified = h.verified;
      run = h.run;
      loads = h.loads;
      gave = h.gave;
      done = h.done;
      jobs = h.jobs;
      started = h.started;
      order = λ l.
          let p : QueuedJob Job → Bool = λ y. same_lun l y.job.lun in
          ap (λ (b : List (QueuedJob Job)). of_lun l h.jobs ++ of_lun l b) t.backlog_is ∙
          (ap (λ (b : List (QueuedJob Job)). of_lun l h.jobs ++ b) (filter-append p v.backlog (x ∷ [])) ∙
          (sym (append_assoc (of_lun l h.jobs) (of_lun l v.backlog) (of_lun l (x ∷ []))) ∙
          (ap (λ (b : List (QueuedJob Job)). b ++ of_lun l (x ∷ [])) (h.order l) ∙ sym (filter-append p all (x ∷ [])))));
      taken = t.names ∙ (ap (λ (ns : List Name). ns ++ (name_of x ∷ [])) h.taken ∙ sym (map-append name_of all (x ∷ [])));
      numbers = numbers;
      counts = h.counts;
      size = h.size;
      turns = h.turns;
      turn_count = h.turn_count;
    })

-- none of a LUN
none_of_lun : (l : Lun) (jobs : List (QueuedJob Job)) → NoneOfLun l jobs → of_lun l jobs ≡ []
none_of_lun l [] h = refl
none_of_lun l (y ∷ jobs) h = rw h.0 (none_of_lun l jobs h.1)

-- a job that is kept by a test is one of all
cons_cases : {X : Type 0} (y : X) (ys : List X) (x : X) → Contains (y ∷ ys) x → (y ≡ x) ⊎ Contains ys x
cons_cases y ys x (zero, low, e) = inl e
cons_cases y ys x (suc k, low, e) = inr (k, omega arith, e)

cons_more : {X : Type 0} (y : X) (ys : List X) (x : X) → Contains ys x → Contains (y ∷ ys) x
cons_more y ys x (k, low, e) = (suc k, omega arith, e)

of_filter : {X : Type 0} (p : X → Bool) (xs : List X) (x : X) → Contains (filter p xs) x → Contains xs x
of_filter p [] x h = h
of_filter p (y ∷ xs) x h = at (p y) h (of_filter p xs x)
  where
    both : (y ≡ x) ⊎ Contains (filter p xs) x → (Contains (filter p xs) x → Contains xs x) → Contains (y ∷ xs) x
    both (inl e) rest = (0, omega arith, e)
    both (inr k) rest = cons_more y xs x (rest k)

    at : (b : Bool) → Contains (cond b (y ∷ filter p xs) (filter p xs)) x → (Contains (filter p xs) x → Contains xs x) → Contains (y ∷ xs) x
    at true k rest = both (cons_cases y (filter p xs) x k) rest
    at false k rest = cons_more y xs x (rest k)

-- the backlog is of the taken jobs
in_backlog : (v : HistoryView) (x : QueuedJob Job) (front rest : List (QueuedJob Job)) → IsLawful v → v.backlog ≡ front ++ (x ∷ rest) → Contains v.taker.taken x
in_backlog v x front rest h is =
    let l = x.job.lun in
    let p : QueuedJob Job → Bool = λ y. same_lun l y.job.lun in
    let parts : of_lun l v.backlog ≡ of_lun l front ++ (x ∷ of_lun l rest) =
    ap (of_lun l) is ∙ (filter-append p front (x ∷ rest) ∙ ap (λ (b : Bool). of_lun l front ++ cond b (x ∷ of_lun l rest) (of_lun l rest)) (same_lun_self l)) in
    let inside : Contains (x ∷ of_lun l rest) x = (0, omega arith, refl) in
    let mine : Contains (of_lun l v.backlog) x = subst (λ (ys : List (QueuedJob Job)). Contains ys x) (sym parts) (Contains-append_right (of_lun l front) (x ∷ of_lun l rest) x inside) in
    of_filter p v.taker.taken x (subst (λ (ys : List (QueuedJob Job)). Contains ys x) (h.order l) (Contains-append_right (of_lun l h.jobs) (of_lun l v.backlog) x mine))

-- a job that was the oldest of its LUN goes from the backlog to the end of the started ones
moved : (l : Lun) (jobs front rest : List (QueuedJob Job)) (x : QueuedJob Job) → NoneOfLun x.job.lun front → of_lun l (jobs ++ (x ∷ [])) ++ of_lun l (front ++ rest) ≡ of_lun l jobs ++ of_lun l (front ++ (x ∷ rest))
moved l jobs front rest x none =
    let p : QueuedJob Job → Bool = λ y. same_lun l y.job.lun in
    let J = of_lun l jobs in
    let F = of_lun l front in
    let R = of_lun l rest in
    ap (λ (ys : List (QueuedJob Job)). ys ++ of_lun l (front ++ rest)) (filter-append p jobs (x ∷ [])) ∙
    (ap (λ (ys : List (QueuedJob Job)). (J ++ of_lun l (x ∷ [])) ++ ys) (filter-append p front rest) ∙
    (at (same_lun l x.job.lun) refl ∙ ap (λ (ys : List (QueuedJob Job)). J ++ ys) (sym (filter-append p front (x ∷ rest)))))
  where
    at : (b : Bool) → same_lun l x.job.lun ≡ b → (of_lun l jobs ++ cond b (x ∷ []) []) ++ (of_lun l front ++ of_lun l rest) ≡ of_lun l jobs ++ (of_lun l front ++ cond b (x ∷ of_lun l rest) (of_lun l rest))
    at true is =
        let gone : of_lun l front ≡ [] = none_of_lun l front (subst (λ (m : Lun). NoneOfLun m front) (sym (same_lun_is l x.job.lun is)) none) in
        ap (λ (ys : List (QueuedJob Job)). (of_lun l jobs ++ (x ∷ [])) ++ (ys ++ of_lun l rest)) gone ∙
        (append_assoc (of_lun l jobs) (x ∷ []) (of_lun l rest) ∙ ap (λ (ys : List (QueuedJob Job)). of_lun l jobs ++ (ys ++ (x ∷ of_lun l rest))) (sym gone))
    at false is = ap (λ (ys : List (QueuedJob Job)). ys ++ (of_lun l front ++ of_lun l rest)) (append-nil (of_lun l jobs))

-- the oldest job of its LUN is loaded
pub load_keeps : (v : HistoryView) (later : CoreView) (events : List Stored) (started : List Name) (x : QueuedJob Job) (backlog : List (QueuedJob Job))
    → IsLawful v → Leaves v.backlog x backlog → IsVerified x.job → IsEvent v.core (Load x.job.lun x.job) (ToLoad IsLoaded) later
    → events ≡ v.events ++ (Loaded x.job.lun (name_of x) ∷ []) → started ≡ v.started ++ (name_of x ∷ [])
    → IsLawful (record { core = later; taker = v.taker; events = events; taken = v.taken; started = started; backlog = backlog; done = v.done; counts = v.counts; turns = v.turns })
load_keeps v later events started x backlog h left verified event is names =
    let l = x.job.lun in
    let n = name_of x in
    let e = Load l x.job in
    let reply = ToLoad IsLoaded in
    let one : List Stored = Loaded l n ∷ [] in
    let turned : reverse events ≡ Loaded l n ∷ reverse v.events = ap reverse is ∙ newest v.events (Loaded l n) in
    let inside = in_backlog v x left.front left.rest h left.before_is in
    record {
      events = h.events ++ (e ∷ []);
      replies = h.replies ++ (reply ∷ []);
      stored = subst (λ (xs : List Stored). AreStoredAs v.taker.taken xs (h.events ++ (e ∷ []))) (sym is) (stored_more v.taker.taken v.events h.events (Loaded l n) e h.stored (x, inside, refl, refl));
      answered = subst (λ (xs : List Stored). AreAnswered xs (h.replies ++ (reply ∷ []))) (sym is) (answered_more v.events h.replies (Loaded l n) reply h.answered refl);
      verified = verified_more h.events e h.verified verified;
      run = run_more v.core later h.events h.replies e reply h.run event;
      loads = ap loads_of is ∙ (filter_map-append load_name v.events one ∙ (ap (λ (ns : List Name). ns ++ (n ∷ [])) h.loads ∙ sym names));
      gave = none_more given_by h.replies reply refl ∙ h.gave;
      done = ap unloaded_names turned ∙ h.done;
      jobs = h.jobs ++ (x ∷ []);
      started = map-append name_of h.jobs (x ∷ []) ∙ (ap (λ (ns : List Name). ns ++ (n ∷ [])) h.started ∙ sym names);
      order = λ m.
          ap (λ (ys : List (QueuedJob Job)). of_lun m (h.jobs ++ (x ∷ [])) ++ of_lun m ys) left.later_is ∙
          (moved m h.jobs left.front left.rest x left.oldest ∙ (ap (λ (ys : List (QueuedJob Job)). of_lun m h.jobs ++ of_lun m ys) (sym left.before_is) ∙ h.order m));
      taken = h.taken;
      numbers = h.numbers;
      counts = counts_same v later e reply h event (λ before after own. own);
      size = h.size;
      turns = subst AreTurns (sym turned) h.turns;
      turn_count = h.turn_count ∙ ap turns_in (sym turned);
    }

-- a job that has ended is unloaded, under the name last started on its LUN
pub unload_keeps : (v : HistoryView) (later : CoreView) (events : List Stored) (l : Lun) (name : Name) (job : Job) (code : ℕ) (done : List Ended)
    → IsLawful v → IsEvent v.core (Unload l) (ToUnload (Unloaded job code)) later → last_started l (reverse v.events) ≡ Some name
    → events ≡ v.events ++ (WasUnloaded l ∷ []) → done ≡ v.done ++ (record { name = name; job = job; code = code } ∷ [])
    → IsLawful (record { core = later; taker = v.taker; events = events; taken = v.taken; started = v.started; backlog = v.backlog; done = done; counts = v.counts; turns = v.turns })
unload_keeps v later events l name job code done h event named is done_is =
    let e = Unload l in
    let reply = ToUnload (Unloaded job code) in
    let d : Ended = record { name = name; job = job; code = code } in
    let turned : reverse events ≡ WasUnloaded l ∷ reverse v.events = ap reverse is ∙ newest v.events (WasUnloaded l) in
    record {
      events = h.events ++ (e ∷ []);
      replies = h.replies ++ (reply ∷ []);
      stored = subst (λ (xs : List Stored). AreStoredAs v.taker.taken xs (h.events ++ (e ∷ []))) (sym is) (stored_more v.taker.taken v.events h.events (WasUnloaded l) e h.stored refl);
      answered = subst (λ (xs : List Stored). AreAnswered xs (h.replies ++ (reply ∷ []))) (sym is) (answered_more v.events h.replies (WasUnloaded l) reply h.answered (job, code, refl));
      verified = verified_more h.events e h.verified tt;
      run = run_more v.core later h.events h.replies e reply h.run event;
      loads = ap loads_of is ∙ (none_more load_name v.events (WasUnloaded l) refl ∙ h.loads);
      gave = filter_map-append given_by h.replies (reply ∷ []) ∙ (ap (λ (gs : List (Job × ℕ)). gs ++ ((job, code) ∷ [])) h.gave ∙
          (sym (map-append (λ (d : Ended). (d.job, d.code)) v.done (d ∷ [])) ∙ ap (map (λ (d : Ended). (d.job, d.code))) (sym done_is)));
      done = ap unloaded_names turned ∙ (ap (λ (ns : List (Option Name)). last_started l (reverse v.events) ∷ ns) h.done ∙
          (ap (λ (o : Option Name). o ∷ map (λ (d : Ended). Some d.name) (reverse v.done)) named ∙ ap (map (λ (d : Ended). Some d.name)) (sym (ap reverse done_is ∙ newest v.done d))));
      jobs = h.jobs;
      started = h.started;
      order = h.order;
      taken = h.taken;
      numbers = h.numbers;
      counts = counts_same v later e reply h event (λ before after own. own);
      size = h.size;
      turns = subst AreTurns (sym turned) h.turns;
      turn_count = h.turn_count ∙ ap turns_in (sym turned);
    }
