-- What a run file sets up: the dies of the channel before the first cycle, and the jobs of its lines.
use Rattle.std.specs.Prelude.{◌≡◌, ℕ, ◌+◌, ◌*◌, ◌<◌, ◌==◌, List, [], ◌∷◌, ◌++◌, length, filter, map, replicate, set, slice_index_or, Option, None}
use Rattle.nand_geometry.specs.declared.parts.Parts.{Parts}
use Rattle.onfi_cycle.specs.declared.lun.Lun.{Lun}
use Rattle.die_model.specs.Die.{Die, new_die}
use Rattle.target_bus.specs.Bus.{Entries}
use Rattle.die_model.specs.Loading.{image_fault, IsLoaded}
use Rattle.micro_program.specs.Program.{Job}
use Rattle.channel_work.specs.declared.stored.Name.{Name}
use Rattle.run_file.specs.Line.{Statement}
use Rattle.run_file.specs.Line.{Image as ImageLine, Job as JobLine}
use Rattle.seq_files.specs.Store.{Store, Holds}
use Rattle.seq_inputs.specs.Inputs.{HasText}
use Rattle.run_plan.specs.Judged.{Numbered, HasInput, lun_at}

-- the dies, those of target 0 first, and a job for each `job` line, in the order of the lines
pub record Setup : Type 0 where
  pub dies : List Die
  pub jobs : List Job

-- what dies keep of their pages
abbrev pub pages_of : List Die → List Entries
pages_of dies = map (λ (die : Die). die.pages) dies

-- erased dies for so many targets, and no job
abbrev pub erased : Parts → ℕ → Setup
erased g targets = record { dies = replicate (targets * g.luns) (new_die g); jobs = [] }

-- a new die whose content is the image at a path
pub record HasImageOf (files : Option Store) (g : Parts) (path : List ℕ) (die : Die) : Type 0 where
  pub bytes : List ℕ
  pub is_there : Holds files path bytes
  pub faultless : image_fault g bytes ≡ None
  pub loaded : IsLoaded bytes (new_die g) die

-- the job of a line: the program of its word file on its LUN and at its base, for the geometry of the channel, with its input in the buffer
pub record IsJobOf (files : Option Store) (g : Parts) (l : Lun) (base : ℕ) (text : List ℕ) (input : Option (List ℕ)) (job : Job) : Type 0 where
  pub lun : job.lun ≡ l
  pub base_is : job.base ≡ base
  pub has_text : HasText files g text job.text
  pub geometry : job.geometry ≡ g
  pub has_input : HasInput files input job.text.buffer job.buffer

-- what a statement adds: an image becomes the content of the die of its number, and the others stay; a job comes behind the others
abbrev pub SetsOne : Option Store → Parts → Statement → (old new : Setup) → Type 0
SetsOne files g (ImageLine target lun path) old new =
    (die : Die) × HasImageOf files g path die × (new ≡ record { dies = set old.dies (target * g.luns + lun) die; jobs = old.jobs })
SetsOne files g (JobLine target lun base text input output) old new =
    (job : Job) × IsJobOf files g (lun_at target lun) base text input job × (new ≡ record { dies = old.dies; jobs = old.jobs ++ job ∷ [] })
SetsOne files g _ old new = new ≡ old

-- what the statements from here on add
unfoldable pub SetsUp : Option Store → Parts → List Numbered → (old new : Setup) → Type 0
SetsUp files g [] old new = new ≡ old
SetsUp files g (s ∷ rest) old new = (middle : Setup) × SetsOne files g s.1 old middle × SetsUp files g rest middle new

-- ---- who stores the jobs, and under which names

-- the jobs of a target, in the order of their lines
abbrev pub of_target : ℕ → List Job → List Job
of_target target jobs = filter (λ (job : Job). job.lun.ce == target) jobs

-- the name of a job behind these: its host is that of its target, and its number how many of these are of that target
abbrev pub name_behind : List Job → Job → Name
name_behind before job = record { host = job.lun.ce; number = length (of_target job.lun.ce before) }

abbrev pub names_behind : List Job → List Job → List Name
names_behind before [] = []
names_behind before (job ∷ jobs) = name_behind before job ∷ names_behind (before ++ job ∷ []) jobs

-- the names of jobs, in the order of their lines
abbrev pub names_of : List Job → List Name
names_of jobs = names_behind [] jobs

-- the host of each target has that target's jobs, and each line has the name of its job
pub record ArePlanned (jobs : List Job) (of_hosts : List (List Job)) (names : List Name) : Type 0 where
  pub hosts : (target : ℕ) → slice_index_or of_hosts target [] ≡ of_target target jobs
  pub named : names ≡ names_of jobs

-- whatever jobs were planned, this one is planned behind them
abbrev pub PlansMore : Job → (of_hosts : List (List Job)) → (names : List Name) → (of_hosts' : List (List Job)) → (names' : List Name) → Type 0
PlansMore job of_hosts names of_hosts' names' = (jobs : List Job) → ArePlanned jobs of_hosts names → ArePlanned (jobs ++ job ∷ []) of_hosts' names'

-- a job came behind those of a target, of which there were so many before it; the other targets' jobs stay
pub record IsJobPushed (target : ℕ) (job : Job) (old new : List (List Job)) (number : ℕ) : Type 0 where
  pub there : target < length old
  pub count : number ≡ length (slice_index_or old target [])
  pub jobs : new ≡ set old target (slice_index_or old target [] ++ job ∷ [])

-- no target has a job
abbrev pub HaveNoJobs : List (List Job) → Type 0
HaveNoJobs of_hosts = (target : ℕ) → slice_index_or of_hosts target [] ≡ []
