-- What the lines of a run file set up is what is planned.
use Rattle.std.proofs.Common.{◌≡◌, ℕ, Bool, ◌+◌, ◌*◌, ◌<◌, ◌≤◌, List, [], ◌∷◌, ◌++◌, length, drop, get_or, set, Option, refl, sym, ap, ◌∙◌, subst}
use Rattle.seq_files.specs.Store.{Store}
use Rattle.nand_geometry.specs.declared.parts.Parts.{Parts}
use Rattle.onfi_cycle.specs.declared.lun.Lun.{Lun}
use Rattle.die_model.specs.Die.{Die}
use Rattle.micro_program.specs.Program.{Job}
use Rattle.channel_work.specs.declared.stored.Name.{Name}
use Rattle.run_file.specs.declared.polled.Polled.{Polled}
use Rattle.run_file.specs.declared.statement.Numbered.{Numbered as Written}
use Rattle.run_file.specs.Line.{Image as ImageLine, Job as JobLine, Polls as PollsLine, Fail as FailLine}
use Rattle.run_file.specs.Shown.{shown_statement, shown_numbered, shown_all}
use Rattle.run_plan.specs.declared.dies.ChannelDies.{ChannelDies}
use Rattle.run_plan.specs.declared.plan.PlannedJobs.{PlannedJobs}
use Rattle.run_plan.specs.declared.plan.RunPlan.{RunPlan}
use Rattle.run_plan.specs.Judged.{Numbered, lun_at}
use Rattle.run_plan.specs.Planned.{jobs_of, planned_names}
use Rattle.run_plan.specs.Setup.{Setup, HasImageOf, IsJobOf, SetsOne, SetsUp, ArePlanned, PlansMore, erased}
use Rattle.run_plan.specs.Plans.{HasSetUp, PlansOne, PlansJob, PlansAll, IsSetUpFrom}
use Rattle.run_plan.specs.Steps.{capped, steps_of}
use Rattle.run_plan.proofs.Resting.{from_place, none_left}
use Rattle.run_plan.proofs.Stepping.{one_job_counted}

-- an image was put in its place
pub image_set : (files : Option Store) (g : Parts) (target lun : ℕ) (path : List ℕ) (die : Die) (old new : RunPlan) → HasImageOf files g path die
    → new.dies.dies.items ≡ set old.dies.dies.items (target * g.luns + lun) die → new.jobs ≡ old.jobs → PlansOne files g (ImageLine target lun path) old new
image_set files g target lun path die old new image put same setup was = (
  record { dies = set setup.dies (target * g.luns + lun) die; jobs = setup.jobs },
  (die, image, refl),
  record {
    dies = put ∙ ap (λ (l : List Die). set l (target * g.luns + lun) die) was.dies;
    jobs = subst (λ (p : PlannedJobs). ArePlanned setup.jobs (jobs_of p.by_target.items) (planned_names p.all.items)) (sym same) was.jobs;
    steps = ap (λ (p : PlannedJobs). p.steps) same ∙ was.steps;
  },
)

-- a job came behind the others
pub job_planned : (files : Option Store) (g : Parts) (l : Lun) (base : ℕ) (text : List ℕ) (input : Option (List ℕ)) (job : Job) (old new : RunPlan) → IsJobOf files g l base text input job
    → new.dies ≡ old.dies → PlansMore job (jobs_of old.jobs.by_target.items) (planned_names old.jobs.all.items) (jobs_of new.jobs.by_target.items) (planned_names new.jobs.all.items)
    → new.jobs.steps ≡ capped (old.jobs.steps + capped (steps_of job)) → PlansJob files g l base text input old new
job_planned files g l base text input job old new is same more counts setup was = (
  job,
  is,
  record {
    dies = ap (λ (d : ChannelDies). d.dies.items) same ∙ was.dies;
    jobs = more setup.jobs was.jobs;
    steps = counts ∙ ap (λ (n : ℕ). capped (n + capped (steps_of job))) was.steps ∙ one_job_counted setup.jobs job;
  },
)

pub job_set : (files : Option Store) (g : Parts) (target lun : ℕ) (l : Lun) (base : ℕ) (text : List ℕ) (input output : Option (List ℕ)) (old new : RunPlan) → l ≡ lun_at target lun
    → PlansJob files g l base text input old new → PlansOne files g (JobLine target lun base text input output) old new
job_set files g target lun l base text input output old new at planned setup was =
    let p = planned setup was in
    (record { dies = setup.dies; jobs = setup.jobs ++ p.0 ∷ [] }, (p.0, subst (λ (m : Lun). IsJobOf files g m base text input p.0) at p.1, refl), p.2)

stays : (old new : RunPlan) (setup : Setup) → new.dies ≡ old.dies → new.jobs ≡ old.jobs → HasSetUp old setup → HasSetUp new setup
stays old new setup dies jobs was = record {
  dies = ap (λ (d : ChannelDies). d.dies.items) dies ∙ was.dies;
  jobs = subst (λ (p : PlannedJobs). ArePlanned setup.jobs (jobs_of p.by_target.items) (planned_names p.all.items)) (sym jobs) was.jobs;
  steps = ap (λ (p : PlannedJobs). p.steps) jobs ∙ was.steps;
}

pub polls_set : (files : Option Store) (g : Parts) (work : Polled) (count : ℕ) (old new : RunPlan) → new.dies ≡ old.dies → new.jobs ≡ old.jobs → PlansOne files g (PollsLine work count) old new
polls_set files g work count old new dies jobs setup was = (setup, refl, stays old new setup dies jobs was)

pub fail_set : (files : Option Store) (g : Parts) (target lun ready : ℕ) (before : Bool) (old new : RunPlan) → new.dies ≡ old.dies → new.jobs ≡ old.jobs → PlansOne files g (FailLine target lun ready before) old new
fail_set files g target lun ready before old new dies jobs setup was = (setup, refl, stays old new setup dies jobs was)

-- ---- statement by statement

-- what was set up before the statements that are left, and all that is set up where they are
pub record SetsSoFar (files : Option Store) (g : Parts) (first now : RunPlan) (left whole : List Numbered) (setup : Setup) : Type 0 where
  pub middle : Setup
  pub is : HasSetUp now middle
  pub leads : (later : Setup) → SetsUp files g left middle later → SetsUp files g whole setup later

-- what is planned so far, and the statements that are left, are the whole
abbrev pub PlansSoFar : Option Store → Parts → (first now : RunPlan) → (left whole : List Numbered) → Type 0
PlansSoFar files g first now left whole = (setup : Setup) → HasSetUp first setup → SetsSoFar files g first now left whole setup

pub none_planned_yet : (files : Option Store) (g : Parts) (first : RunPlan) (whole : List Numbered) → PlansSoFar files g first first whole whole
none_planned_yet files g first whole setup was = record { middle = setup; is = was; leads = λ later h. h }

next_planned : (files : Option Store) (g : Parts) (first now next : RunPlan) (s : Numbered) (rest whole : List Numbered) → PlansOne files g s.1 now next → PlansSoFar files g first now (s ∷ rest) whole → PlansSoFar files g first next rest whole
unfolding SetsUp
next_planned files g first now next s rest whole one so_far setup was =
    let before = so_far setup was in
    let p = one before.middle before.is in
    record { middle = p.0; is = p.2; leads = λ later h. before.leads later (p.0, p.1, h) }

pub planned_next : (files now_files : Option Store) (g h : Parts) (first now next : RunPlan) (xs : List Written) (k : ℕ) (d : Written) → k < length xs → now_files ≡ files → h ≡ g
    → PlansOne now_files h (shown_statement (get_or xs k d).statement) now next → PlansSoFar files g first now (shown_all (drop k xs)) (shown_all xs)
    → PlansSoFar files g first next (shown_all (drop (k + 1) xs)) (shown_all xs)
planned_next files now_files g h first now next xs k d inside same_files same_geometry one so_far =
    next_planned files g first now next (shown_numbered (get_or xs k d)) (shown_all (drop (k + 1) xs)) (shown_all xs)
    (subst (λ (p : Parts). PlansOne files p (shown_statement (get_or xs k d).statement) now next) same_geometry
    (subst (λ (s : Option Store). PlansOne s h (shown_statement (get_or xs k d).statement) now next) same_files one))
    (subst (λ (l : List Numbered). PlansSoFar files g first now l (shown_all xs)) (from_place xs k d inside) so_far)

ends_planned : (files : Option Store) (g : Parts) (first now : RunPlan) (whole : List Numbered) → PlansSoFar files g first now [] whole → PlansAll files g whole first now
unfolding SetsUp
ends_planned files g first now whole so_far setup was =
    let before = so_far setup was in
    (before.middle, before.leads before.middle refl, before.is)

pub planned_all : (files : Option Store) (g : Parts) (first now : RunPlan) (xs : List Written) (k : ℕ) → length xs ≤ k → PlansSoFar files g first now (shown_all (drop k xs)) (shown_all xs) → PlansAll files g (shown_all xs) first now
planned_all files g first now xs k over so_far =
    ends_planned files g first now (shown_all xs) (subst (λ (l : List Numbered). PlansSoFar files g first now l (shown_all xs)) (none_left xs k over) so_far)

-- ---- the whole

pub all_set : (files : Option Store) (g h : Parts) (targets : ℕ) (statements : List Numbered) (first plan : RunPlan) → h ≡ g → HasSetUp first (erased g targets) → PlansAll files h statements first plan → IsSetUpFrom files g targets statements plan
all_set files g h targets statements first plan same was all =
    let p = all (erased g targets) was in
    record { setup = p.0; sets_up = subst (λ (q : Parts). SetsUp files q statements (erased g targets) p.0) same p.1; is = p.2 }

pub set_from : (files : Option Store) (now_files : Option Store) (g h : Parts) (targets n : ℕ) (statements rest : List Numbered) (plan : RunPlan) → now_files ≡ files → h ≡ g → n ≡ targets → rest ≡ statements
    → IsSetUpFrom now_files g targets rest plan → IsSetUpFrom files h n statements plan
set_from files now_files g h targets n statements rest plan same_files same_geometry same_targets same set =
    subst (λ (p : Parts). IsSetUpFrom files p n statements plan) (sym same_geometry)
    (subst (λ (m : ℕ). IsSetUpFrom files g m statements plan) (sym same_targets)
    (subst (λ (l : List Numbered). IsSetUpFrom files g targets l plan) same
    (subst (λ (s : Option Store). IsSetUpFrom s g targets rest plan) same_files set)))
