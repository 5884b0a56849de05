-- Laws of steps, for the crates above.
use Rattle.std.specs.Prelude.{◌≡◌, ◌≢◌, ℕ, ◌≤◌, true, false, List, ◌∷◌, Option, Some, length}
use Rattle.onfi_cycle.specs.declared.lun.Lun.{Lun}
use Rattle.onfi_cycle.specs.declared.item.Item.{Item}
use Rattle.onfi_cycle.specs.Lun.{is_busy}
use Rattle.onfi_cycle.specs.Permitted.{is_legal}
use Rattle.onfi_cycle.specs.Channel.{Channel, IsChannel, IsIdle, same_lun, is_there, is_open_on}
use Rattle.micro_program.specs.Lines.{Line}
use Rattle.micro_program.specs.Program.{Job, Done, all_fit, cost_now}
use Rattle.micro_program.specs.Moves.{outputs}
use Rattle.micro_program.specs.Step.{Stride, NotReady, keeps_bus, answered_step, next_step}
use Rattle.micro_program.specs.Safe.{Reaches, WordIsFine, AddsOwn, AreTruthful}

-- a step is defined, what it adds to the trace is its LUN's own, and the program stays inside buffer and budget; where it
-- ends its LUN is idle and it doesn't keep the bus, and where it lets the bus go nothing is open on its target
pub record StepGoesWell (s : Channel) (j : Job) (past : List Item) (done : List Done) (step : Option Stride) : Type 0 where
  pub r : Stride
  pub is_r : step ≡ Some r
  pub adds : AddsOwn s j.lun past r.past
  pub inside : all_fit j.text.buffer done ≡ true → all_fit j.text.buffer r.done ≡ true
  pub budget : cost_now s.geometry done ≤ j.text.budget → cost_now s.geometry r.done ≤ j.text.budget
  pub idle : (code : ℕ) → r.code ≡ Some code → IsIdle s.geometry r.past j.lun
  pub no_bus : (code : ℕ) → r.code ≡ Some code → keeps_bus r.outcome ≡ false
  pub closed : keeps_bus r.outcome ≡ false → is_open_on r.past j.lun.ce ≡ false

-- the law: a step of a fine word goes well, whatever bytes its outputs give
abbrev pub AnsweredStepsGoWell : Type 0
AnsweredStepsGoWell =
    (s : Channel) (j : Job) (past : List Item) (line : Line) (rest : List Line) (done : List Done) (fine : WordIsFine s j past done line.word) (bytes : List ℕ)
    → length bytes ≡ outputs fine.moved → StepGoesWell s j past done (answered_step s.geometry j bytes past (line ∷ rest) done)

-- the law: a step of a fine word goes well on a model
abbrev pub FineStepsGoWell : Type 0
FineStepsGoWell =
    (s : Channel) → IsChannel s → (j : Job) (past : List Item) (line : Line) (rest : List Line) (done : List Done) → WordIsFine s j past done line.word
    → StepGoesWell s j past done (next_step s j past (line ∷ rest) done)

-- a step with these bytes, which are truthful
pub record TruthfulStep (s : Channel) (j : Job) (past : List Item) (ahead : List Line) (done : List Done) (r : Stride) : Type 0 where
  pub bytes : List ℕ
  pub is_step : answered_step s.geometry j bytes past ahead done ≡ Some r
  pub truthful : AreTruthful s.geometry j.lun past ahead bytes

-- the law: the bytes that a model gives in a step of a fine word are truthful
abbrev pub ModelsAreTruthful : Type 0
ModelsAreTruthful =
    (s : Channel) → IsChannel s → (j : Job) (past : List Item) (line : Line) (rest : List Line) (done : List Done) (r : Stride) → is_there s j.lun ≡ true → WordIsFine s j past done line.word
    → next_step s j past (line ∷ rest) done ≡ Some r → TruthfulStep s j past (line ∷ rest) done r

-- what a LUN's own cycles leave: a legal trace, the seats of jobs on other LUNs that don't have the bus, other LUNs idle that
-- were idle, and other targets open or not as they were
pub record PassesOthers (s : Channel) (l : Lun) (before later : List Item) : Type 0 where
  pub legal : is_legal s.geometry s.targets later ≡ true
  pub seats : (j : Job) (ahead : List Line) (done : List Done) → same_lun l j.lun ≡ false → Reaches s j (record { past = before; ahead = ahead; done = done; holding = false }) → Reaches s j (record { past = later; ahead = ahead; done = done; holding = false })
  pub idle : (m : Lun) → same_lun l m ≡ false → is_there s m ≡ true → IsIdle s.geometry before m → IsIdle s.geometry later m
  pub targets : (ce : ℕ) → l.ce ≢ ce → is_open_on later ce ≡ is_open_on before ce

-- the law: what a step adds to a legal trace passes the others by
abbrev pub OwnCyclesPassOthers : Type 0
OwnCyclesPassOthers =
    (s : Channel) (l : Lun) (before later : List Item) → is_there s l ≡ true → is_legal s.geometry s.targets before ≡ true → AddsOwn s l before later
    → PassesOthers s l before later

-- the law: where a `wait` comes again its LUN is busy, before its poll and after it
abbrev pub UnreadyIsBusy : Type 0
UnreadyIsBusy =
    (s : Channel) → IsChannel s → (j : Job) (past : List Item) (line : Line) (rest : List Line) (done : List Done) (r : Stride) → is_there s j.lun ≡ true → WordIsFine s j past done line.word
    → next_step s j past (line ∷ rest) done ≡ Some r → r.outcome ≡ NotReady → (is_busy s.geometry past j.lun ≡ true) × (is_busy s.geometry r.past j.lun ≡ true)
