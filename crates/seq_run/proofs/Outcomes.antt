-- What has come of a plan has come of the run file that was planned.
use Rattle.std.proofs.Common.{◌≡◌, ◌⊎◌, List, [], ◌++◌, ℕ, ◌*◌, ◌≤◌, true, length, drop, reverse, Option, Some, None, Result, Ok, Err, OnOk, OnErr, refl, sym, ap, ◌∙◌, subst, inl, inr}
use Rattle.std.proofs.lemmas.List.{append-nil}
use Rattle.seq_files.specs.Store.{Store, Holds, Written, with_all}
use Rattle.nand_geometry.specs.declared.parts.Parts.{Parts}
use Rattle.trace_text.specs.declared.recorded_item.TimedItem.{TimedItem}
use Rattle.run_file.specs.Told.{told}
use Rattle.seq_run.specs.declared.request.RunRequest.{RunRequest}
use Rattle.run_plan.specs.declared.plan.PlannedImage.{PlannedImage}
use Rattle.run_plan.specs.declared.plan.RunPlan.{RunPlan}
use Rattle.nand_geometry.specs.declared.optional.Profile.{Profile}
use Rattle.run_plan.specs.Judged.{PlanPasses}
use Rattle.run_plan.specs.Planned.{outputs_of, images_in, planned_outputs, planned_images}
use Rattle.seq_run.specs.Written.{ended_outputs}
use Rattle.onfi_cycle.specs.Permitted.{is_legal}
use Rattle.die_model.specs.Die.{Die}
use Rattle.target_bus.specs.Bus.{Traced, channel_of, StandFor}
use Rattle.seq_run.specs.declared.running.Ran.{Ran}
use Rattle.seq_run.specs.Lines.{job_lines}
use Rattle.seq_run.specs.Timed.{HasTimes, text_of, files_with}
use Rattle.seq_run.specs.declared.job_ends.EndedJob.{EndedJob}
use Rattle.run_plan.specs.Setup.{SetsUp, erased}
use Rattle.seq_run.specs.Written.{buffers_of, images_of, printed_trace, codes_of}
use Rattle.seq_run.specs.Runs.{Outcome, ShowsAll, IsOutcomeOf, IsPlanned, IsRunDone, RunMayLeave, HappenedAsPlanned, writes_of, lines_of}
use Rattle.run_plan.specs.Plans.{IsSetUpFrom}
use Rattle.seq_inputs.specs.declared.fault.Fault.{Fault}
use Rattle.seq_inputs.specs.declared.refusal.Refusal.{Refusal}
use Rattle.seq_inputs.specs.declared.stop.Stop.{Stop}
use Rattle.seq_inputs.specs.declared.stop.Stop.TheVariants.{Refused, FileFault, ReaderGone, BuffersTooLarge, OutOfMemory}
use Rattle.seq_inputs.specs.Stops.{refusal_in, SaysAt, TellsAt, RefusesNothing}

pub is_planned : (files : Option Store) (request : RunRequest) (text : List ℕ) (plan : RunPlan) (o : Outcome) → Holds files request.path.now text → PlanPasses files request.profile (told text) plan.dies.geometry plan.dies.targets → planned_outputs plan.jobs.all.items ≡ outputs_of (drop 2 (told text).statements) → planned_images plan.images.items ≡ images_in plan.dies.geometry (drop 2 (told text).statements) → IsSetUpFrom files plan.dies.geometry plan.dies.targets (drop 2 (told text).statements) plan → plan.jobs.steps ≤ request.max_steps → IsOutcomeOf request plan o → IsPlanned files request o
is_planned files request text plan o is_there passes outputs images setup few is = record {
  text = text;
  is_there = is_there;
  passes = subst (λ (g : Parts). PlanPasses files request.profile (told text) g o.bus.targets) (sym is.geometry) (subst (λ (n : ℕ). PlanPasses files request.profile (told text) plan.dies.geometry n) (sym is.targets) passes);
  outputs = is.outputs ∙ outputs;
  images = ap planned_images is.images ∙ images ∙ ap (λ (g : Parts). images_in g (drop 2 (told text).statements)) (sym is.geometry);
  setup = setup.setup;
  sets_up = subst (λ (g : Parts). SetsUp files g (drop 2 (told text).statements) (erased g o.bus.targets) setup.setup) (sym is.geometry)
      (subst (λ (n : ℕ). SetsUp files plan.dies.geometry (drop 2 (told text).statements) (erased plan.dies.geometry n) setup.setup) (sym is.targets) setup.sets_up);
  few = subst (λ (n : ℕ). n ≤ request.max_steps) setup.is.steps few;
  happened = is.happened setup.setup setup.is;
  times = is.times;
}

-- the dies of a bus, as what happened on it left them
pub record AreLeft (bus : Traced) (dies : List Die) : Type 0 where
  pub legal : is_legal bus.geometry bus.targets bus.past ≡ true
  pub count : length dies ≡ bus.targets * bus.geometry.luns
  pub stand : StandFor (channel_of bus) bus.past dies

-- what has come of a channel: its bus, the dies as that left them, the jobs, the times of its trace, and what is drawn
abbrev pub outcome_of : (ran : Ran) (dies : List Die) (timed : List TimedItem) (drawn : List ℕ) → AreLeft ran.bus dies → Outcome
outcome_of ran dies timed drawn left = record {
  bus = ran.bus;
  legal = left.legal;
  dies = dies;
  count = left.count;
  stand = left.stand;
  jobs = ran.jobs.items;
  images = ran.images.items;
  timed = timed;
  drawn = drawn;
}

-- the images that were made, and the files of the trace
pub record AreMade (request : RunRequest) (ran : Ran) (dies : List Die) (timed : List TimedItem) (outgoing : List Written) : Type 0 where
  pub drawn : List ℕ
  pub are : outgoing ≡ images_of dies ran.images.items ++ files_with request.times request.trace ran.bus.geometry ran.bus.targets (reverse ran.bus.past) timed drawn

-- what the images and the files of the trace were made of is what there is
pub are_made : (request : RunRequest) (ran : Ran) (timed : List TimedItem) (dies shown : List Die) (listed : List PlannedImage) (images trace : List Written) → images ≡ images_of shown listed → shown ≡ dies → listed ≡ ran.images.items → (drawn : List ℕ) × (trace ≡ files_with request.times request.trace ran.bus.geometry ran.bus.targets (reverse ran.bus.past) timed drawn) → AreMade request ran dies timed (images ++ trace)
are_made request ran timed dies shown listed images trace made same these (drawn, is) = record {
  drawn = drawn;
  are = ap (λ (l : List Written). l ++ trace) (made ∙ ap (λ (l : List Die). images_of l listed) same ∙ ap (λ (l : List PlannedImage). images_of dies l) these)
      ∙ ap (λ (l : List Written). images_of dies ran.images.items ++ l) is;
}

-- what is listed is the buffers of the jobs, and all that was made
pub all_listed : (ran : Ran) (jobs : List EndedJob) (all images trace images' trace' : List Written) → all ≡ buffers_of jobs ++ (images' ++ trace') → jobs ≡ ran.jobs.items → images' ≡ images → trace' ≡ trace → all ≡ buffers_of ran.jobs.items ++ (images ++ trace)
all_listed ran jobs all images trace images' trace' is these same after =
    is
    ∙ ap (λ (l : List EndedJob). buffers_of l ++ (images' ++ trace')) these
    ∙ ap (λ (l : List Written). buffers_of ran.jobs.items ++ (l ++ trace')) same
    ∙ ap (λ (l : List Written). buffers_of ran.jobs.items ++ (images ++ l)) after

pub is_done : (request : RunRequest) (ran : Ran) (dies : List Die) (timed : List TimedItem) (outgoing : List Written) (files later : Option Store) (Prints : List ℕ → Type 0) (lines : List ℕ) → AreLeft ran.bus dies → HasTimes request.times (reverse ran.bus.past) timed → AreMade request ran dies timed outgoing → later ≡ with_all (buffers_of ran.jobs.items ++ outgoing) files → lines ≡ printed_trace request.is_quiet (text_of request.times (reverse ran.bus.past) timed) ++ job_lines 1 (codes_of ran.jobs.items) → Prints lines → (o : Outcome) × ShowsAll request ran o × (later ≡ with_all (writes_of request o) files) × Prints (lines_of request o)
is_done request ran dies timed outgoing files later Prints lines dies_left times made left is_lines prints = (
  outcome_of ran dies timed made.drawn dies_left,
  record { times = times; bus = refl; jobs = refl; images = refl },
  left ∙ ap (λ (l : List Written). with_all (buffers_of ran.jobs.items ++ l) files) made.are,
  subst Prints is_lines prints,
)

pub is_written : (request : RunRequest) (ran : Ran) (dies : List Die) (timed : List TimedItem) (outgoing : List Written) (files later : Option Store) → AreLeft ran.bus dies → HasTimes request.times (reverse ran.bus.past) timed → AreMade request ran dies timed outgoing → (later ≡ files) ⊎ (later ≡ with_all (buffers_of ran.jobs.items ++ outgoing) files) → (later ≡ files) ⊎ ((o : Outcome) × ShowsAll request ran o × (later ≡ with_all (writes_of request o) files))
is_written request ran dies timed outgoing files later dies_left times made (inl same) = inl same
is_written request ran dies timed outgoing files later dies_left times made (inr left) = inr (
  outcome_of ran dies timed made.drawn dies_left,
  record { times = times; bus = refl; jobs = refl; images = refl },
  left ∙ ap (λ (l : List Written). with_all (buffers_of ran.jobs.items ++ l) files) made.are,
)

pub on_ok : {A E P Q : Type 0} (r : Result A E) → OnOk r P → (P → Q) → OnOk r Q
on_ok (Ok x) h f = f h
on_ok (Err e) h f = h

pub on_err : {A E P Q : Type 0} (r : Result A E) → OnErr r P → (P → Q) → OnErr r Q
on_err (Ok x) h f = h
on_err (Err e) h f = f h

-- ---- of a plan

is_outcome : (request : RunRequest) (plan : RunPlan) (ran : Ran) (o : Outcome) → (ran.bus.geometry ≡ plan.dies.geometry) × (ran.bus.targets ≡ plan.dies.targets) → ended_outputs ran.jobs.items ≡ planned_outputs plan.jobs.all.items → ran.images ≡ plan.images → HappenedAsPlanned plan ran.bus ran.jobs.items → ShowsAll request ran o → IsOutcomeOf request plan o
is_outcome request plan ran o channel outputs images happened shows = record {
  times = shows.times;
  geometry = ap (λ (b : Traced). b.geometry) shows.bus ∙ channel.0;
  targets = ap (λ (b : Traced). b.targets) shows.bus ∙ channel.1;
  outputs = ap ended_outputs shows.jobs ∙ outputs;
  images = shows.images ∙ ap (λ v. v.items) images;
  happened = subst (λ (b : Traced). HappenedAsPlanned plan b o.jobs) (sym shows.bus) (subst (λ (jobs : List EndedJob). HappenedAsPlanned plan ran.bus jobs) (sym shows.jobs) happened);
}

pub done_of_plan : (request : RunRequest) (plan : RunPlan) (ran : Ran) (files later : Option Store) (Prints : List ℕ → Type 0) → (ran.bus.geometry ≡ plan.dies.geometry) × (ran.bus.targets ≡ plan.dies.targets) → ended_outputs ran.jobs.items ≡ planned_outputs plan.jobs.all.items → ran.images ≡ plan.images → HappenedAsPlanned plan ran.bus ran.jobs.items → (o : Outcome) × ShowsAll request ran o × (later ≡ with_all (writes_of request o) files) × Prints (lines_of request o) → (o : Outcome) × IsOutcomeOf request plan o × (later ≡ with_all (writes_of request o) files) × Prints (lines_of request o)
done_of_plan request plan ran files later Prints channel outputs images happened (o, shows, left, prints) = (o, is_outcome request plan ran o channel outputs images happened shows, left, prints)

pub written_of_plan : (request : RunRequest) (plan : RunPlan) (ran : Ran) (files later : Option Store) → (ran.bus.geometry ≡ plan.dies.geometry) × (ran.bus.targets ≡ plan.dies.targets) → ended_outputs ran.jobs.items ≡ planned_outputs plan.jobs.all.items → ran.images ≡ plan.images → HappenedAsPlanned plan ran.bus ran.jobs.items → (later ≡ files) ⊎ ((o : Outcome) × ShowsAll request ran o × (later ≡ with_all (writes_of request o) files)) → (later ≡ files) ⊎ ((o : Outcome) × IsOutcomeOf request plan o × (later ≡ with_all (writes_of request o) files))
written_of_plan request plan ran files later channel outputs images happened (inl same) = inl same
written_of_plan request plan ran files later channel outputs images happened (inr (o, shows, left)) = inr (o, is_outcome request plan ran o channel outputs images happened shows, left)

-- ---- of the text of a run file

-- what is planned of the text, its page read for this profile
pub record IsPlanOf (files : Option Store) (profile : Profile) (text : List ℕ) (plan : RunPlan) : Type 0 where
  pub passes : PlanPasses files profile (told text) plan.dies.geometry plan.dies.targets
  pub outputs : planned_outputs plan.jobs.all.items ≡ outputs_of (drop 2 (told text).statements)
  pub images : planned_images plan.images.items ≡ images_in plan.dies.geometry (drop 2 (told text).statements)
  pub setup : IsSetUpFrom files plan.dies.geometry plan.dies.targets (drop 2 (told text).statements) plan

-- the same, and the jobs step no more words than the request allows
pub record MayRun (files : Option Store) (request : RunRequest) (text : List ℕ) (plan : RunPlan) : Type 0 where
  pub plan_of : IsPlanOf files request.profile text plan
  pub few : plan.jobs.steps ≤ request.max_steps

planned_of : (files : Option Store) (request : RunRequest) (text : List ℕ) (plan : RunPlan) (o : Outcome) → Holds files request.path.now text → MayRun files request text plan → IsOutcomeOf request plan o → IsPlanned files request o
planned_of files request text plan o is_there is of_plan = is_planned files request text plan o is_there is.plan_of.passes is.plan_of.outputs is.plan_of.images is.plan_of.setup is.few of_plan

pub run_is_done : (request : RunRequest) (text : List ℕ) (plan : RunPlan) (files now later : Option Store) (Prints : List ℕ → Type 0) → now ≡ files → Holds files request.path.now text → MayRun files request text plan → (o : Outcome) × IsOutcomeOf request plan o × (later ≡ with_all (writes_of request o) now) × Prints (lines_of request o) → (printed : List ℕ) × IsRunDone files later request printed × Prints printed
run_is_done request text plan files now later Prints same is_there is (o, of_plan, left, prints) = (
  lines_of request o,
  record {
    o = o;
    planned = planned_of files request text plan o is_there is of_plan;
    left = left ∙ ap (λ (s : Option Store). with_all (writes_of request o) s) same;
    is_printed = refl;
  },
  prints,
)

pub done_leaves : (request : RunRequest) (text : List ℕ) (plan : RunPlan) (files now later : Option Store) (Prints : List ℕ → Type 0) → now ≡ files → Holds files request.path.now text → MayRun files request text plan → (o : Outcome) × IsOutcomeOf request plan o × (later ≡ with_all (writes_of request o) now) × Prints (lines_of request o) → RunMayLeave files later request
done_leaves request text plan files now later Prints same is_there is (o, of_plan, left, prints) = inr (record {
  o = o;
  planned = planned_of files request text plan o is_there is of_plan;
  left = left ∙ ap (λ (s : Option Store). with_all (writes_of request o) s) same;
})

pub written_leaves : (request : RunRequest) (text : List ℕ) (plan : RunPlan) (files now later : Option Store) → now ≡ files → Holds files request.path.now text → MayRun files request text plan → (later ≡ now) ⊎ ((o : Outcome) × IsOutcomeOf request plan o × (later ≡ with_all (writes_of request o) now)) → RunMayLeave files later request
written_leaves request text plan files now later same is_there is (inl none) = inl (none ∙ same)
written_leaves request text plan files now later same is_there is (inr (o, of_plan, left)) = inr (record {
  o = o;
  planned = planned_of files request text plan o is_there is of_plan;
  left = left ∙ ap (λ (s : Option Store). with_all (writes_of request o) s) same;
})

-- what is told is refused
some_same : (r s : Refusal) → Some r ≡ Some s → r ≡ s
some_same r s h = cc

no_refusal : (r : Refusal) → None ≡ Some r → ⊥
no_refusal r h = cc

told_here : {A : Type 0} (May : Fault → ℕ → Type 0) (refusal : Refusal) (r : Stop A) → refusal_in r ≡ Some refusal → SaysAt May r → TellsAt May refusal
told_here May refusal (Refused other words) same h = subst (TellsAt May) (some_same other refusal same) h
told_here May refusal (FileFault path fault line) same h = absurd (no_refusal refusal same)
told_here May refusal ReaderGone same h = absurd (no_refusal refusal same)
told_here May refusal (BuffersTooLarge bytes line) same h = absurd (no_refusal refusal same)
told_here May refusal OutOfMemory same h = absurd (no_refusal refusal same)

-- the same where its words are others
pub told_refused : {A : Type 0} (May : Fault → ℕ → Type 0) (refusal : Refusal) (r s : Stop A) → refusal_in s ≡ refusal_in r → refusal_in s ≡ Some refusal → SaysAt May r → TellsAt May refusal
told_refused May refusal r s same is h = told_here May refusal r (sym same ∙ is) h

pub nothing_told : {A : Type 0} (refusal : Refusal) (r : Stop A) → refusal_in r ≡ Some refusal → RefusesNothing r → ⊥
nothing_told refusal (Refused other words) same h = h
nothing_told refusal (FileFault path fault line) same h = no_refusal refusal same
nothing_told refusal ReaderGone same h = no_refusal refusal same
nothing_told refusal (BuffersTooLarge bytes line) same h = no_refusal refusal same
nothing_told refusal OutOfMemory same h = no_refusal refusal same
