-- The hosts of a run: their passes, what they have stored, and what was taken of it.
use Rattle.std.proofs.Common.{◌≡◌, ℕ, zero, suc, ◌+◌, ◌<◌, ◌≤◌, List, [], ◌∷◌, ◌++◌, length, map, get_or, slice_get, slice_index, Option, Some, None, refl, sym, ap, ◌∙◌, subst, arith}
use Rattle.std.specs.List.{All, Contains}
use Rattle.std.proofs.lemmas.List.{append_assoc, append-nil, length-append, length-map, nil_from_length}
use Rattle.std.proofs.lemmas.List.Elements.{All-contains, All-push}
use Rattle.atomic_table.specs.Seated.{TableId}
use Rattle.micro_program.specs.Program.{Job}
use Rattle.job_queue.specs.declared.rule.QueuedJob.{QueuedJob}
use Rattle.job_queue.specs.Rule.{of_host, numbered}
use Rattle.job_queue.specs.Passes.{Queue, Storing, owns, owns_taker, Taking, AreNew}
use Rattle.job_queue.specs.Holding.{IsBeginning}
use Rattle.job_queue.specs.Closed.{IsTally}
use Rattle.job_queue.proofs.Jobs.{length-numbered}
use Rattle.seq_core.specs.Shows.{CoreView}
use Rattle.channel_work.specs.Origin.{Origin, IsFrom}
use Rattle.run_plan.specs.declared.plan.TargetJobs.{TargetJobs}
use Rattle.run_plan.specs.Planned.{jobs_of}
use Rattle.seq_run.specs.Hosted.{HasStored, StoredTheirs, TookBelow, origin_of}

pub none_stored : (p : Storing Job) → HasStored p [] p
none_stored p = ap (λ (l : List Job). (let q : Storing Job = record { table = p.table; host = p.host; stored = l } in q)) (sym (append-nil p.stored))

pub one_stored : (p q r : Storing Job) (jobs : List Job) (job : Job) → HasStored p jobs q → HasStored q (job ∷ []) r → HasStored p (jobs ++ job ∷ []) r
one_stored p q r jobs job before one =
    one
    ∙ ap (λ (s : Storing Job). (let t : Storing Job = record { table = s.table; host = s.host; stored = s.stored ++ job ∷ [] } in t)) before
    ∙ ap (λ (l : List Job). (let t : Storing Job = record { table = p.table; host = p.host; stored = l } in t)) (append_assoc p.stored jobs (job ∷ []))

-- ---- a host for each target

get_front : {X : Type 0} (xs ys : List X) (k : ℕ) → k < length xs → slice_get (xs ++ ys) k ≡ slice_get xs k
get_front [] ys k inside = absurd (omega (arith, inside))
get_front (x ∷ xs) ys zero inside = refl
get_front (x ∷ xs) ys (suc k) inside = get_front xs ys k (omega (arith, inside))

get_last : {X : Type 0} (xs : List X) (x : X) → slice_get (xs ++ x ∷ []) (length xs) ≡ Some x
get_last [] x = refl
get_last (y ∷ xs) x = get_last xs x

jobs_front : (xs : List TargetJobs) (x : TargetJobs) (k : ℕ) → k < length xs → get_or (jobs_of (xs ++ x ∷ [])) k [] ≡ get_or (jobs_of xs) k []
jobs_front [] x k inside = absurd (omega (arith, inside))
jobs_front (y ∷ xs) x zero inside = refl
jobs_front (y ∷ xs) x (suc k) inside = jobs_front xs x k (omega (arith, inside))

jobs_last : (xs : List TargetJobs) (x : TargetJobs) → get_or (jobs_of (xs ++ x ∷ [])) (length xs) [] ≡ x.jobs.items
jobs_last [] x = refl
jobs_last (y ∷ xs) x = jobs_last xs x

abbrev or_it : {X : Type 0} → X → Option X → X
or_it d None = d
or_it d (Some x) = x

abbrev new_pass : Queue → ℕ → Storing Job
new_pass q host = record { table = q.table; host = host; stored = [] }

-- the passes and the jobs of the hosts that are left to make
pub record AreLeft (q : Queue) (of_hosts : List (List Job)) (passes : List (Storing Job)) (targets : List TargetJobs) : Type 0 where
  pub same : length passes ≡ length targets
  pub each : (host : ℕ) → host < length passes → slice_get passes host ≡ Some (new_pass q host)
  pub jobs : (host : ℕ) → host < length targets → get_or (jobs_of targets) host [] ≡ get_or of_hosts host []

pub all_left : (q : Queue) (of_hosts : List (List Job)) (passes : List (Storing Job)) (targets : List TargetJobs) → AreNew q passes q.hosts → length passes ≡ length targets → of_hosts ≡ jobs_of targets → AreLeft q of_hosts passes targets
all_left q of_hosts passes targets new same is = record {
  same = same;
  each = λ host low. new.each host (subst (λ (n : ℕ). host < n) new.count low);
  jobs = λ host low. ap (λ (l : List (List Job)). get_or l host []) (sym is);
}

-- the last host: its pass is new and of the queue, and these are its jobs
pub record IsLastLeft (q : Queue) (of_hosts : List (List Job)) (passes : List (Storing Job)) (targets : List TargetJobs) (pass : Storing Job) (target : TargetJobs) : Type 0 where
  pub rest : AreLeft q of_hosts passes targets
  pub table : pass.table ≡ q.table
  pub none : pass.stored ≡ []
  pub jobs : target.jobs.items ≡ get_or of_hosts pass.host []

pub last_left : (q : Queue) (of_hosts : List (List Job)) (all passes : List (Storing Job)) (whole targets : List TargetJobs) (pass : Storing Job) (target : TargetJobs) → all ≡ passes ++ pass ∷ [] → whole ≡ targets ++ target ∷ [] → AreLeft q of_hosts all whole → IsLastLeft q of_hosts passes targets pass target
last_left q of_hosts all passes whole targets pass target all_is whole_is left =
    let count : length all ≡ length passes + 1 = ap length all_is ∙ length-append passes (pass ∷ []) in
    let count' : length whole ≡ length targets + 1 = ap length whole_is ∙ length-append targets (target ∷ []) in
    let both = left.same in
    let same : length passes ≡ length targets = omega (arith, count, count', both) in
    let is : pass ≡ new_pass q (length passes) =
    ap (or_it pass) (sym (get_last passes pass) ∙ ap (λ (l : List (Storing Job)). slice_get l (length passes)) (sym all_is) ∙ left.each (length passes) (omega (arith, count))) in
    record {
      rest = record {
        same = same;
        each = λ host low. sym (get_front passes (pass ∷ []) host low) ∙ ap (λ (l : List (Storing Job)). slice_get l host) (sym all_is) ∙ left.each host (omega (arith, count, low));
        jobs = λ host low. sym (jobs_front targets target host low) ∙ ap (λ (l : List TargetJobs). get_or (jobs_of l) host []) (sym whole_is) ∙ left.jobs host (omega (arith, count', low));
      };
      table = ap (λ (p : Storing Job). p.table) is;
      none = ap (λ (p : Storing Job). p.stored) is;
      jobs = sym (jobs_last targets target)
          ∙ ap (λ (l : List TargetJobs). get_or (jobs_of l) (length targets) []) (sym whole_is)
          ∙ left.jobs (length targets) (omega (arith, count'))
          ∙ ap (λ (n : ℕ). get_or of_hosts n []) (sym same ∙ sym (ap (λ (p : Storing Job). p.host) is));
    }

pub counts_hosts : (q : Queue) (of_hosts : List (List Job)) (passes : List (Storing Job)) (targets : List TargetJobs) → AreNew q passes q.hosts → length passes ≡ length targets → of_hosts ≡ jobs_of targets → length of_hosts ≡ q.hosts
counts_hosts q of_hosts passes targets new same is = ap length is ∙ length-map targets (λ (t : TargetJobs). t.jobs.items) ∙ sym same ∙ new.count

-- ---- the end of the queue

pub all_more : (table : TableId) (of_hosts : List (List Job)) (passes : List (Storing Job)) (pass : Storing Job) → All (StoredTheirs table of_hosts) passes → StoredTheirs table of_hosts pass → All (StoredTheirs table of_hosts) (passes ++ pass ∷ [])
all_more table of_hosts passes pass all one = All-push (StoredTheirs table of_hosts) passes pass all one

pub all_owned : (q : Queue) (table : TableId) (of_hosts : List (List Job)) (passes : List (Storing Job)) → table ≡ q.table → All (StoredTheirs table of_hosts) passes → All (λ (p : Storing Job). owns q p) passes
all_owned q table of_hosts passes is all k d inside = (all k d inside).0 ∙ is

pub taker_owned : (origin : Option Origin) (core later : CoreView) (q : Queue) (taker : Taking Job) → origin ≡ Some (origin_of core q) → IsFrom origin later taker → owns_taker q taker
taker_owned origin core later q taker is from =
    let of = subst (λ (o : Option Origin). IsFrom o later taker) is from in
    (of.table, of.hosts)

-- nothing is left of what a host stored, where as many were taken
none_over : (xs rest ys : List (QueuedJob Job)) → ys ≡ xs ++ rest → length ys ≡ length xs → xs ≡ ys
none_over xs rest ys is same =
    let count = ap length is ∙ length-append xs rest in
    let none : rest ≡ [] = nil_from_length rest (omega (arith, count, same)) in
    sym (is ∙ ap (λ (l : List (QueuedJob Job)). xs ++ l) none ∙ append-nil xs)

pub took_below : (q : Queue) (table : TableId) (of_hosts : List (List Job)) (passes : List (Storing Job)) (put taken : List ℕ) (jobs : List (QueuedJob Job)) → All (StoredTheirs table of_hosts) passes → IsTally put taken passes jobs q.hosts → put ≡ taken → TookBelow q.hosts jobs of_hosts
took_below q table of_hosts passes put taken jobs all tally same host low =
    let put_is = tally.stored host low in
    let p = put_is.0 in
    let within = put_is.1 in
    let at = put_is.2 in
    let count = put_is.3 in
    let stored : p.stored ≡ get_or of_hosts host [] = (All-contains (StoredTheirs table of_hosts) passes p all within).1 ∙ ap (λ (n : ℕ). get_or of_hosts n []) at in
    let begins = All-contains (λ (x : Storing Job). IsBeginning x.host x.stored jobs) passes p tally.begins within in
    let is : numbered host 0 p.stored ≡ of_host host jobs ++ begins.0 = subst (λ (n : ℕ). numbered n 0 p.stored ≡ of_host n jobs ++ begins.0) at begins.1 in
    let few : length (numbered host 0 p.stored) ≡ length (of_host host jobs) =
    length-numbered host 0 p.stored ∙ sym count ∙ ap (λ (l : List ℕ). slice_index l host) same ∙ tally.took host low in
    none_over (of_host host jobs) begins.0 (numbered host 0 p.stored) is few ∙ ap (numbered host 0) stored
