-- What starting a job answers, from its parts.
use Rattle.std.proofs.Common.{ℕ, Bool, true, false, List, ◌≡◌, ◌∙◌, ◌∷◌, ◌++◌, [], refl, sym, ap, subst}
use Rattle.std.specs.Prelude.{IsTrue, IsFalse}
use Rattle.micro_program.specs.Program.{Job}
use Rattle.job_queue.specs.declared.rule.QueuedJob.{QueuedJob}
use Rattle.job_queue.specs.Rule.{IsInOrder}
use Rattle.job_queue.specs.Passes.{Taking}
use Rattle.channel_work.specs.declared.stored.Name.{Name}
use Rattle.channel_work.specs.Stored.{name_of}
use Rattle.channel_work.specs.Channel.{HistoryView}
use Rattle.channel_work.specs.Lawful.{IsLawful}
use Rattle.channel_work.specs.declared.stored.Stored.{Stored}
use Rattle.channel_work.specs.declared.stored.Stored.TheVariants.{Load as WasLoaded}
use Rattle.channel_work.specs.Starting.{Took, MayHaveTaken, MayStart, Leaves, HasLoaded, HasStarted}
use Rattle.channel_work.proofs.Jobs.{take_keeps}
use Rattle.lun_lease.specs.Lease.{Seated, Leased}
use Rattle.seq_core.specs.Shows.{CoreView}

-- what is kept once a job was taken, or none
abbrev pub taken_view : HistoryView → Taking Job → List Name → List (QueuedJob Job) → HistoryView
taken_view v taker taken backlog = record v { taker = taker; taken = taken; backlog = backlog }

pub middle : (v : HistoryView) (took : Bool) (taker : Taking Job) (taken0 taken : List Name) (backlog0 backlog : List (QueuedJob Job)) → IsLawful v → taken0 ≡ v.taken → backlog0 ≡ v.backlog
    → (IsTrue took → (t : Took v.taker taker taken0 taken backlog0 backlog) × IsInOrder (v.taker.taken ++ (t.job ∷ [])) v.taker.hosts)
    → (IsFalse took → (taker ≡ v.taker) × (taken ≡ taken0) × (backlog ≡ backlog0))
    → IsLawful (taken_view v taker taken backlog) × MayHaveTaken v took (taken_view v taker taken backlog)
middle v true taker taken0 taken backlog0 backlog h taken_is backlog_is was kept =
    let told = was refl in
    let t : Took v.taker taker v.taken taken v.backlog backlog =
    record { job = told.0.job; taker = told.0.taker; names = told.0.names ∙ ap (λ (ns : List Name). ns ++ (name_of told.0.job ∷ [])) taken_is; backlog_is = told.0.backlog_is ∙ ap (λ (b : List (QueuedJob Job)). b ++ (told.0.job ∷ [])) backlog_is } in (
      take_keeps v taker taken backlog h t told.1,
      (
        t.job,
        ap (λ (k : Taking Job). taken_view v k taken backlog) t.taker ∙ (ap (λ (ns : List Name). taken_view v (record { table = v.taker.table; hosts = v.taker.hosts; taken = v.taker.taken ++ (t.job ∷ []) }) ns backlog) t.names ∙
            ap (λ (b : List (QueuedJob Job)). taken_view v (record { table = v.taker.table; hosts = v.taker.hosts; taken = v.taker.taken ++ (t.job ∷ []) }) (v.taken ++ (name_of t.job ∷ [])) b) t.backlog_is),
      ),
    )
middle v false taker taken0 taken backlog0 backlog h taken_is backlog_is was kept =
    let told = kept refl in
    let same : taken_view v taker taken backlog ≡ v =
    ap (λ (k : Taking Job). taken_view v k taken backlog) told.0 ∙ (ap (λ (ns : List Name). taken_view v v.taker ns backlog) (told.1 ∙ taken_is) ∙ ap (λ (b : List (QueuedJob Job)). taken_view v v.taker v.taken b) (told.2 ∙ backlog_is)) in
    (subst IsLawful (sym same) h, same)

pub has_started : (v : HistoryView) (seats left : List Seated) (seat : Seated) (took : Bool) (taker : Taking Job) (taken : List Name) (backlog backlog' : List (QueuedJob Job)) (later : CoreView) (events0 events : List Stored) (started0 started : List Name) (x : QueuedJob Job) (lease : Leased)
    → MayHaveTaken v took (taken_view v taker taken backlog) → seats ≡ left ++ (seat ∷ []) → (k : ℕ) × MayStart v.core backlog seat k x lease × Leaves backlog x backlog' → events0 ≡ v.events → started0 ≡ v.started
    → HasLoaded v.core later events0 events started0 started x
    → HasStarted v seats lease (record (taken_view v taker taken backlog) { core = later; events = events; started = started; backlog = backlog' }) left
has_started v seats left seat took taker taken backlog backlog' later events0 events started0 started x lease taking free p events_is started_is q =
    record {
      took = took;
      middle = taken_view v taker taken backlog;
      taking = taking;
      seat = seat;
      free = free;
      k = p.0;
      job = x;
      may = p.1;
      loaded = record {
        here = p.1.oldest.here;
        leaves = p.2;
        verified = q.verified;
        event = q.event;
        stored = q.stored ∙ ap (λ (es : List Stored). es ++ (WasLoaded x.job.lun (name_of x) ∷ [])) events_is;
        names = q.names ∙ ap (λ (ns : List Name). ns ++ (name_of x ∷ [])) started_is;
      };
      same = refl;
    }
