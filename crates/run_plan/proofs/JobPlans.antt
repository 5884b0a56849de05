-- The jobs of lines are planned by their targets and their names.
use Rattle.std.proofs.Common.{◌≡◌, ℕ, zero, suc, ◌+◌, ◌<◌, ◌==◌, Bool, true, false, cond, List, [], ◌∷◌, ◌++◌, length, map, filter, set, slice_index_or, get_or, refl, sym, ap, ◌∙◌, subst, arith}
use Rattle.std.proofs.lemmas.List.{append_assoc, append-nil, map-set, length-map, get_or-set_same, get_or-set_other}
use Rattle.std.proofs.lemmas.List.Elements.{filter-append}
use Rattle.std.proofs.lemmas.Bool.{eq-eqb, eqb-true, eqb-false}
use Rattle.micro_program.specs.Program.{Job}
use Rattle.channel_work.specs.declared.stored.Name.{Name}
use Rattle.run_plan.specs.declared.plan.TargetJobs.{TargetJobs}
use Rattle.run_plan.specs.Planned.{jobs_of}
use Rattle.run_plan.specs.Setup.{of_target, name_behind, names_behind, names_of, ArePlanned, PlansMore, HaveNoJobs, IsJobPushed}

names_more : (before jobs : List Job) (job : Job) → names_behind before (jobs ++ job ∷ []) ≡ names_behind before jobs ++ name_behind (before ++ jobs) job ∷ []
names_more before [] job = ap (λ (l : List Job). name_behind l job ∷ []) (sym (append-nil before))
names_more before (x ∷ jobs) job =
    ap (λ (l : List Name). name_behind before x ∷ l)
    (names_more (before ++ x ∷ []) jobs job ∙ ap (λ (l : List Job). names_behind (before ++ x ∷ []) jobs ++ name_behind l job ∷ []) (append_assoc before (x ∷ []) jobs))

-- a job behind those of a target, by whether it is of that target
target_more : (jobs : List Job) (job : Job) (target : ℕ) (b : Bool) → (job.lun.ce == target) ≡ b → of_target target (jobs ++ job ∷ []) ≡ of_target target jobs ++ cond b (job ∷ []) []
target_more jobs job target b is =
    filter-append (λ (x : Job). x.lun.ce == target) jobs (job ∷ []) ∙ ap (λ (c : Bool). of_target target jobs ++ cond c (job ∷ []) []) is

hosts_more : (of_hosts : List (List Job)) (jobs : List Job) (job : Job) (target : ℕ) (b : Bool) → (job.lun.ce == target) ≡ b → job.lun.ce < length of_hosts
    → ((t : ℕ) → get_or of_hosts t [] ≡ of_target t jobs)
    → get_or (set of_hosts job.lun.ce (get_or of_hosts job.lun.ce [] ++ job ∷ [])) target [] ≡ of_target target (jobs ++ job ∷ [])
hosts_more of_hosts jobs job target true is inside each =
    let same : job.lun.ce ≡ target = eqb-true job.lun.ce target is in
    let more = get_or of_hosts job.lun.ce [] ++ job ∷ [] in
    subst (λ (t : ℕ). get_or (set of_hosts job.lun.ce more) t [] ≡ of_target t (jobs ++ job ∷ [])) same
    (get_or-set_same of_hosts job.lun.ce more [] inside ∙ ap (λ (l : List Job). l ++ job ∷ []) (each job.lun.ce) ∙ sym (target_more jobs job job.lun.ce true (eq-eqb job.lun.ce job.lun.ce refl)))
hosts_more of_hosts jobs job target false is inside each =
    get_or-set_other of_hosts job.lun.ce target (get_or of_hosts job.lun.ce [] ++ job ∷ []) [] (λ (e : target ≡ job.lun.ce). eqb-false job.lun.ce target is (sym e))
    ∙ each target
    ∙ sym (target_more jobs job target false is ∙ append-nil (of_target target jobs))

-- one job more, under its name
pub plan_more : (job : Job) (of_hosts of_hosts' : List (List Job)) (names names' : List Name) (number : ℕ) → IsJobPushed job.lun.ce job of_hosts of_hosts' number
    → names' ≡ names ++ (record { host = job.lun.ce; number = number } ∷ []) → PlansMore job of_hosts names of_hosts' names'
plan_more job of_hosts of_hosts' names names' number pushed is jobs p =
    record {
      hosts = λ target. subst (λ (h : List (List Job)). get_or h target [] ≡ of_target target (jobs ++ job ∷ [])) (sym pushed.jobs) (hosts_more of_hosts jobs job target (job.lun.ce == target) refl pushed.there p.hosts);
      named = is
          ∙ ap (λ (l : List Name). l ++ (record { host = job.lun.ce; number = number } ∷ [])) p.named
          ∙ ap (λ (n : ℕ). (let name : Name = record { host = job.lun.ce; number = n } in names_of jobs ++ (name ∷ []))) (pushed.count ∙ ap length (p.hosts job.lun.ce))
          ∙ sym (names_more [] jobs job);
    }

-- ---- the jobs of targets

pub jobs_at : (targets : List TargetJobs) (k : ℕ) (d : TargetJobs) → k < length targets → get_or (jobs_of targets) k [] ≡ (get_or targets k d).jobs.items
jobs_at [] k d inside = absurd (omega (arith, inside))
jobs_at (x ∷ targets) zero d inside = refl
jobs_at (x ∷ targets) (suc k) d inside = jobs_at targets k d (omega (arith, inside))

pub jobs_set : (targets : List TargetJobs) (k : ℕ) (x : TargetJobs) → jobs_of (set targets k x) ≡ set (jobs_of targets) k x.jobs.items
jobs_set targets k x = map-set (λ (t : TargetJobs). t.jobs.items) targets k x

pub is_pushed : (job : Job) (old new : List TargetJobs) (k : ℕ) (d e x : TargetJobs) (number : ℕ) → k < length old → number ≡ length (get_or old k d).jobs.items
    → x.jobs.items ≡ (get_or old k e).jobs.items ++ job ∷ [] → new ≡ set old k x → IsJobPushed k job (jobs_of old) (jobs_of new) number
is_pushed job old new k d e x number inside count more is =
    record {
      there = subst (λ (n : ℕ). k < n) (sym (length-map old (λ (t : TargetJobs). t.jobs.items))) inside;
      count = count ∙ ap length (sym (jobs_at old k d inside));
      jobs = ap jobs_of is ∙ jobs_set old k x ∙ ap (λ (l : List Job). set (jobs_of old) k l) (more ∙ ap (λ (l : List Job). l ++ job ∷ []) (sym (jobs_at old k e inside)));
    }

pub none_more : (made : List TargetJobs) (x : TargetJobs) → x.jobs.items ≡ [] → HaveNoJobs (jobs_of made) → HaveNoJobs (jobs_of (made ++ x ∷ []))
none_more [] x none h zero = none
none_more [] x none h (suc t) = refl
none_more (y ∷ made) x none h zero = h zero
none_more (y ∷ made) x none h (suc t) = none_more made x none (λ u. h (suc u)) t

pub none_planned : (of_hosts : List (List Job)) (names : List Name) → HaveNoJobs of_hosts → names ≡ [] → ArePlanned [] of_hosts names
none_planned of_hosts names none is = record { hosts = none; named = is }
