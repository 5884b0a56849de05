-- What a run file and the files that it names are refused for: the first statement that doesn't pass, by its line.
use Rattle.std.specs.Prelude.{◌≡◌, ℕ, ◌≤◌, ◌<◌, ◌&&◌, ◌||◌, not, Bool, true, false, nat_lt, nat_le, if◌then◌else◌, drop, ⊤, ◌⊎◌, List, [], ◌∷◌, ◌++◌, length, Option, Some, None, replicate, ◌-◌}
use Rattle.seq_files.specs.Store.{Store, Holds}
use Rattle.nand_geometry.specs.declared.optional.Profile.{Profile}
use Rattle.nand_geometry.specs.declared.parts.Parts.{Parts}
use Rattle.nand_geometry.specs.Optional.{has_program_cache}
use Rattle.onfi_cycle.specs.declared.lun.Lun.{Lun}
use Rattle.die_model.specs.Loading.{image_fault}
use Rattle.micro_word.specs.Text.{Microprogram}
use Rattle.seq_core.specs.Job.{job_fault}
use Rattle.seq_core.specs.declared.job_fault.JobFault.{JobFault}
use Rattle.seq_inputs.specs.Inputs.{HasPageAs, PageIsRefused, HasText, FileOrTextIsRefused}
use Rattle.run_file.specs.declared.polled.Polled.{Polled}
use Rattle.run_file.specs.declared.polled.Polled.TheVariants as polled
use Rattle.run_file.specs.declared.refusal.RunFault.TheVariants.{UnknownLine, OutOfOrder, NoSuchLun, InputTooLong}
use Rattle.run_file.specs.declared.refusal.RunRefusal.{RunRefusal}
use Rattle.run_file.specs.Line.{Statement}
use Rattle.run_file.specs.Line.{Page as PageLine, Targets as TargetsLine, Image as ImageLine, Job as JobLine, Polls as PollsLine, Fail as FailLine}
use Rattle.run_file.specs.Told.{Told}
use Rattle.seq_inputs.specs.declared.fault.Fault.{Fault}
use Rattle.seq_inputs.specs.declared.fault.Fault.TheVariants.{Statement as Line, Image, Job as JobFaultOf}

-- ---- the files

-- the file at a path is an image of a die of this geometry
abbrev pub HasImage : Option Store → Parts → List ℕ → Type 0
HasImage files g path = (bytes : List ℕ) × Holds files path bytes × (image_fault g bytes ≡ None)

-- the image at a path has this fault
abbrev pub ImageIsRefused : Option Store → Parts → List ℕ → Fault → Type 0
ImageIsRefused files g path (Image fault) = (bytes : List ℕ) × Holds files path bytes × (image_fault g bytes ≡ Some fault)
ImageIsRefused files g path _ = ⊥

-- the buffer has this length, begins with the bytes of the input, if there is one, and is 00 beyond them
abbrev pub HasInput : Option Store → Option (List ℕ) → ℕ → List ℕ → Type 0
HasInput files None n buffer = buffer ≡ replicate n 0
HasInput files (Some path) n buffer = (bytes : List ℕ) × Holds files path bytes × (length bytes ≤ n) × (buffer ≡ bytes ++ replicate (n - length bytes) 0)

-- the input is longer than the buffer
abbrev pub InputIsRefused : Option Store → Option (List ℕ) → ℕ → Fault → Type 0
InputIsRefused files (Some path) n (Line InputTooLong) = (bytes : List ℕ) × Holds files path bytes × (n < length bytes)
InputIsRefused files input n _ = ⊥

-- ---- a statement, on a channel of so many targets of this geometry

-- the channel has the LUN of these numbers
abbrev pub has_lun : Parts → ℕ → ℕ → ℕ → Bool
has_lun g targets target lun = nat_lt target targets && nat_lt lun g.luns

abbrev pub lun_at : ℕ → ℕ → Lun
lun_at target lun = record { ce = target; lun = lun }

-- the channel hasn't
abbrev pub LunIsRefused : Parts → ℕ → ℕ → ℕ → Fault → Type 0
LunIsRefused g targets target lun (Line NoSuchLun) = has_lun g targets target lun ≡ false
LunIsRefused g targets target lun _ = ⊥

-- the channel has the LUN of which a line `polls` speaks, if it speaks of one
abbrev pub PollsPass : Parts → ℕ → Polled → Type 0
PollsPass g targets (polled.Lun target lun) = has_lun g targets target lun ≡ true
PollsPass g targets _ = ⊤

-- it hasn't
abbrev pub PollsAreRefused : Parts → ℕ → Polled → Fault → Type 0
PollsAreRefused g targets (polled.Lun target lun) fault = LunIsRefused g targets target lun fault
PollsAreRefused g targets _ fault = ⊥

-- the first fault of a job
abbrev pub fault_of_job : Parts → ℕ → Lun → ℕ → Microprogram → ℕ → Option JobFault
fault_of_job g targets l base x n = job_fault g targets l base (record { text = x; geometry = g }) n

-- the job of a microprogram has this fault
abbrev pub JobIsRefused : Parts → ℕ → Lun → ℕ → Microprogram → ℕ → Fault → Type 0
JobIsRefused g targets l base x n (JobFaultOf fault) = fault_of_job g targets l base x n ≡ Some fault
JobIsRefused g targets l base x n _ = ⊥

-- what a job line names stands, and the job can be loaded
pub record JobPasses (files : Option Store) (g : Parts) (targets : ℕ) (l : Lun) (base : ℕ) (text : List ℕ) (input : Option (List ℕ)) : Type 0 where
  pub x : Microprogram
  pub has_text : HasText files g text x
  pub buffer : List ℕ
  pub has_input : HasInput files input x.buffer buffer
  pub faultless : fault_of_job g targets l base x x.buffer ≡ None

-- its word file is judged first, then its input, and then the job
abbrev pub InputRefuses : Option Store → Parts → List ℕ → Option (List ℕ) → Fault → Type 0
InputRefuses files g text input fault = (x : Microprogram) × HasText files g text x × InputIsRefused files input x.buffer fault

abbrev pub JobRefuses : Option Store → Parts → ℕ → Lun → ℕ → List ℕ → Option (List ℕ) → Fault → Type 0
JobRefuses files g targets l base text input fault =
    (x : Microprogram) × HasText files g text x × ((buffer : List ℕ) × HasInput files input x.buffer buffer) × JobIsRefused g targets l base x x.buffer fault

abbrev pub JobLineIsRefused : Option Store → Parts → ℕ → Lun → ℕ → List ℕ → Option (List ℕ) → Fault → Type 0
JobLineIsRefused files g targets l base text input fault =
    FileOrTextIsRefused files g text fault ⊎ (InputRefuses files g text input fault ⊎ JobRefuses files g targets l base text input fault)

-- a ready tells of the page before it where the chip programs caches; elsewhere the line is unknown
abbrev pub may_tell : Parts → (before : Bool) → Bool
may_tell g before = not before || has_program_cache g.optional

abbrev pub FailPasses : Parts → (targets target lun : ℕ) → (before : Bool) → Type 0
FailPasses g targets target lun before = (may_tell g before ≡ true) × (has_lun g targets target lun ≡ true)

abbrev pub FailIsRefused : Parts → (targets target lun : ℕ) → (before : Bool) → Fault → Type 0
FailIsRefused g targets target lun before fault =
    ((may_tell g before ≡ false) × (fault ≡ Line UnknownLine)) ⊎ ((may_tell g before ≡ true) × LunIsRefused g targets target lun fault)

-- the statement has no fault, and the files that it names have none; page and targets stand before all others
abbrev pub Passes : Option Store → Parts → ℕ → Statement → Type 0
Passes files g targets (ImageLine target lun path) = (has_lun g targets target lun ≡ true) × HasImage files g path
Passes files g targets (JobLine target lun base text input output) = (has_lun g targets target lun ≡ true) × JobPasses files g targets (lun_at target lun) base text input
Passes files g targets (PollsLine work count) = PollsPass g targets work
Passes files g targets (FailLine target lun ready before) = FailPasses g targets target lun before
Passes files g targets _ = ⊥

-- the statement's first fault; the LUN is judged before a file is read
abbrev pub IsRefused : Option Store → Parts → ℕ → Statement → Fault → Type 0
IsRefused files g targets (ImageLine target lun path) fault =
    LunIsRefused g targets target lun fault ⊎ ((has_lun g targets target lun ≡ true) × ImageIsRefused files g path fault)
IsRefused files g targets (JobLine target lun base text input output) fault =
    LunIsRefused g targets target lun fault ⊎ ((has_lun g targets target lun ≡ true) × JobLineIsRefused files g targets (lun_at target lun) base text input fault)
IsRefused files g targets (PollsLine work count) fault = PollsAreRefused g targets work fault
IsRefused files g targets (FailLine target lun ready before) fault = FailIsRefused g targets target lun before fault
IsRefused files g targets _ fault = fault ≡ Line OutOfOrder

-- ---- all statements, and the fault of the text after them

abbrev pub Numbered : Type 0
Numbered = ℕ × Statement

-- the statement of this line has this fault, which is told with its line
abbrev pub IsRefusedAt : Option Store → Parts → ℕ → Numbered → Fault → ℕ → Type 0
IsRefusedAt files g targets s fault line = IsRefused files g targets s.1 fault × (line ≡ s.0)

-- the statements from here on are refused with this fault at this line
unfoldable pub RestIsRefused : Option Store → Parts → ℕ → List Numbered → Option RunRefusal → Fault → ℕ → Type 0
RestIsRefused files g targets [] None fault line = ⊥
RestIsRefused files g targets [] (Some r) fault line = (fault ≡ Line r.fault) × (line ≡ r.line)
RestIsRefused files g targets (s ∷ rest) last fault line =
    IsRefusedAt files g targets s fault line ⊎ (Passes files g targets s.1 × RestIsRefused files g targets rest last fault line)

-- each statement from here on passes, and the text has no fault after them
unfoldable pub RestPasses : Option Store → Parts → ℕ → List Numbered → Option RunRefusal → Type 0
RestPasses files g targets [] last = last ≡ None
RestPasses files g targets (s ∷ rest) last = Passes files g targets s.1 × RestPasses files g targets rest last

-- the text ends before its page or its targets, with its fault
abbrev pub EndIsRefused : Option RunRefusal → Fault → ℕ → Type 0
EndIsRefused None fault line = (fault ≡ Line OutOfOrder) × (line ≡ 1)
EndIsRefused (Some r) fault line = (fault ≡ Line r.fault) × (line ≡ r.line)

-- the line and the path of the page, which stands first
abbrev pub page_of : List Numbered → Option (ℕ × List ℕ)
page_of ((line, PageLine path) ∷ rest) = Some (line, path)
page_of _ = None

-- the number of targets, which stands second
abbrev pub targets_of : List Numbered → Option ℕ
targets_of (first ∷ (line, TargetsLine count) ∷ rest) = if nat_le 1 count && nat_le count 4 then Some count else None
targets_of _ = None

-- after the page: the targets and the rest
abbrev pub AfterPageIsRefused : Option Store → Parts → Option ℕ → Told → Fault → ℕ → Type 0
AfterPageIsRefused files g None told fault line = EndIsRefused told.fault fault line
AfterPageIsRefused files g (Some targets) told fault line = RestIsRefused files g targets (drop 2 told.statements) told.fault fault line

abbrev pub PageStatementIsRefused : Option Store → Profile → Option (ℕ × List ℕ) → Told → Fault → ℕ → Type 0
PageStatementIsRefused files profile None told fault line = EndIsRefused told.fault fault line
PageStatementIsRefused files profile (Some page) told fault line =
    (PageIsRefused files page.1 fault × (line ≡ page.0))
    ⊎ ((g : Parts) × HasPageAs files profile page.1 g × AfterPageIsRefused files g (targets_of told.statements) told fault line)

-- a run file that tells this, whose page is read for this profile, is refused with this fault at this line: the first, in the order of the lines
abbrev pub PlanIsRefused : Option Store → Profile → Told → Fault → ℕ → Type 0
PlanIsRefused files profile told fault line = PageStatementIsRefused files profile (page_of told.statements) told fault line

-- all that a run file tells passes, its page read for this profile, on a channel of so many targets of this geometry
pub record PlanPasses (files : Option Store) (profile : Profile) (told : Told) (g : Parts) (targets : ℕ) : Type 0 where
  pub page : ℕ × List ℕ
  pub has_first : page_of told.statements ≡ Some page
  pub has_page : HasPageAs files profile page.1 g
  pub has_targets : targets_of told.statements ≡ Some targets
  pub rest : RestPasses files g targets (drop 2 told.statements) told.fault
