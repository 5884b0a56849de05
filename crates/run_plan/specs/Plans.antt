-- What is planned of a run file.
use Rattle.std.specs.Prelude.{◌≡◌, ℕ, List, [], ◌∷◌, ◌++◌, Option, Some, None}
use Rattle.seq_files.specs.Store.{Store}
use Rattle.nand_geometry.specs.declared.parts.Parts.{Parts}
use Rattle.onfi_cycle.specs.declared.lun.Lun.{Lun}
use Rattle.micro_program.specs.Program.{Job}
use Rattle.run_file.specs.Line.{Statement}
use Rattle.run_file.specs.declared.refusal.RunFault.{RunFault}
use Rattle.seq_inputs.specs.declared.fault.Fault.TheVariants as fault
use Rattle.seq_inputs.specs.declared.stop.Stop.{Stop}
use Rattle.seq_inputs.specs.declared.stop.Stop.TheVariants.{Refused}
use Rattle.run_plan.specs.declared.plan.RunPlan.{RunPlan}
use Rattle.run_plan.specs.Judged.{Numbered}
use Rattle.run_plan.specs.Setup.{Setup, IsJobOf, SetsOne, SetsUp, erased, ArePlanned}
use Rattle.run_plan.specs.Planned.{planned_names, jobs_of}
use Rattle.run_plan.specs.Steps.{steps_of_all}

-- the run file itself is refused, at this line
abbrev pub line_refused : {A : Type 0} → RunFault → ℕ → Stop A
line_refused f line = Refused (record { fault = fault.Statement f; line = Some line }) None

-- what was planned is this: its dies, the jobs of each host, the name of each line's job, and how many words they step at most
pub record HasSetUp (plan : RunPlan) (setup : Setup) : Type 0 where
  pub dies : plan.dies.dies.items ≡ setup.dies
  pub jobs : ArePlanned setup.jobs (jobs_of plan.jobs.by_target.items) (planned_names plan.jobs.all.items)
  pub steps : plan.jobs.steps ≡ steps_of_all setup.jobs

-- a statement was planned: what it adds came to what was planned before
abbrev pub PlansOne : Option Store → Parts → Statement → (old new : RunPlan) → Type 0
PlansOne files g statement old new = (setup : Setup) → HasSetUp old setup → (next : Setup) × SetsOne files g statement setup next × HasSetUp new next

-- the job of such a line was planned behind those that were
abbrev pub PlansJob : Option Store → Parts → Lun → ℕ → List ℕ → Option (List ℕ) → (old new : RunPlan) → Type 0
PlansJob files g l base text input old new =
    (setup : Setup) → HasSetUp old setup → (job : Job) × IsJobOf files g l base text input job × HasSetUp new (record { dies = setup.dies; jobs = setup.jobs ++ job ∷ [] })

-- the same of statements, in their order
abbrev pub PlansAll : Option Store → Parts → List Numbered → (old new : RunPlan) → Type 0
PlansAll files g statements old new = (setup : Setup) → HasSetUp old setup → (next : Setup) × SetsUp files g statements setup next × HasSetUp new next

-- what these statements set up on a channel is what was planned
pub record IsSetUpFrom (files : Option Store) (g : Parts) (targets : ℕ) (statements : List Numbered) (plan : RunPlan) : Type 0 where
  pub setup : Setup
  pub sets_up : SetsUp files g statements (erased g targets) setup
  pub is : HasSetUp plan setup
