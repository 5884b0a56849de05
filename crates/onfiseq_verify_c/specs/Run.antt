-- The run of a refusal, in the caller's memory.
use Rattle.std.specs.Prelude.{◌≡◌, ◌⊎◌, ℕ, Bool, true, false, if◌then◌else◌, List, [], ◌∷◌, ◌++◌, Option, Some, None, Ok, map, length, reverse}
use Rattle.nand_geometry.specs.declared.parts.Parts.{Parts}
use Rattle.onfi_cycle.specs.declared.item.Kind.{Kind}
use Rattle.onfi_cycle.specs.declared.item.Kind.TheVariants.{Cmd, Adr, Din, Dout}
use Rattle.onfi_cycle.specs.declared.item.Item.{Item}
use Rattle.onfi_cycle.specs.declared.item.Item.TheVariants.{Cyc, Rdy, Ard}
use Rattle.nand_geometry.specs.Reading.{read_of}
use Rattle.micro_word.specs.Text.{Microprogram, IsFileOf}
use Rattle.micro_claims.specs.Codes.{reason_number}
use Rattle.refused_run.specs.declared.course.End.{End}
use Rattle.refused_run.specs.Course.{IsBroken, last_item, task_of}
use Rattle.micro_verify.specs.Lazy.{Counter}
use Rattle.micro_verify.specs.Calm.{counter_of}
use Rattle.micro_verify.specs.Playing.{Shown}
use Rattle.micro_verify.specs.declared.showing.Counter.{Counter as Counted}
use Rattle.onfiseq_verify_c.specs.declared.verdict.Found.{Found}
use Rattle.onfiseq_verify_c.specs.declared.verdict.Found.TheVariants as F
use Rattle.onfiseq_verify_c.specs.declared.verdict.OnfiseqVerdict.{OnfiseqVerdict}
use Rattle.onfiseq_verify_c.specs.declared.item.OnfiseqItem.{OnfiseqItem}
use Rattle.onfiseq_verify_c.specs.declared.run.OnfiseqRun.{OnfiseqRun}
use Rattle.onfiseq_verify_c.specs.Verify.{FindsText, Finds, IsReadAnd, answer_of}

-- C, A, I and O
abbrev pub letter_of : Kind → ℕ
letter_of Cmd = 67
letter_of Adr = 65
letter_of Din = 73
letter_of Dout = 79

-- FAIL is 1, and FAILC 2
abbrev pub fail_number : (last before : Bool) → ℕ
fail_number false false = 0
fail_number true false = 1
fail_number false true = 2
fail_number true true = 3

-- an item as numbers: a cycle, R with its failures, or Y with that of the array
abbrev pub numbers_of : Item → OnfiseqItem
numbers_of (Cyc c) = record { ce = c.ce; kind = letter_of c.kind; byte = c.byte; fail = 0 }
numbers_of (Rdy ce lun fail) = record { ce = ce; kind = 82; byte = lun; fail = fail_number fail.last fail.before }
numbers_of (Ard ce lun fail) = record { ce = ce; kind = 89; byte = lun; fail = if fail then 1 else 0 }

-- what is told of a run: its items, and the cycle that isn't permitted last
abbrev pub told : Option Counter → List OnfiseqItem
told None = []
told (Some run) = map numbers_of run.items ++ (numbers_of run.cycle ∷ [])

-- the caller's items with those that are told in front, as many as fit
abbrev pub placed : (told items : List OnfiseqItem) → List OnfiseqItem
placed [] items = items
placed (i ∷ told) [] = []
placed (i ∷ told) (old ∷ items) = i ∷ placed told items

-- the run that a reason against the text has, if it has one; nothing else has any
abbrev pub run_of : Parts → Microprogram → Found → Option Counter
run_of g x (F.Text reason word) = counter_of g x (record { word = word; reason = reason })
run_of g x F.Accepted = None
run_of g x (F.Page fault) = None
run_of g x (F.File fault word) = None
run_of g x F.OutOfMemory = None

-- of a text whose run is asked for too: memory may be refused to that
abbrev pub FindsOrLacks : Parts → Microprogram → Found → Type 0
FindsOrLacks g x F.Accepted = FindsText g x F.Accepted
FindsOrLacks g x (F.Text reason word) = FindsText g x (F.Text reason word)
FindsOrLacks g x F.OutOfMemory = Unit {0}
FindsOrLacks g x (F.Page fault) = ⊥
FindsOrLacks g x (F.File fault word) = ⊥

-- a page and a file that are read, what is found of the text, and the run of that
pub record IsReadWithRun (page file : List ℕ) (found : Found) (run : Option Counter) : Type 0 where
  pub read : IsReadAnd page file found
  pub is_run : run ≡ run_of read.g read.x found

-- what is found of a page and a file, and its run
abbrev pub FindsRun : (page file : List ℕ) → Found → Option Counter → Type 0
FindsRun page file (F.Text reason word) run = IsReadWithRun page file (F.Text reason word) run
FindsRun page file F.Accepted run = Finds page file F.Accepted × (run ≡ None)
FindsRun page file (F.Page fault) run = Finds page file (F.Page fault) × (run ≡ None)
FindsRun page file (F.File fault word) run = Finds page file (F.File fault word) × (run ≡ None)
FindsRun page file F.OutOfMemory run = Finds page file F.OutOfMemory × (run ≡ None)

-- a run was searched for of the text of a file that a chip's page refuses, and this one was found
pub record IsSought (page file : List ℕ) (items : List Item) (end : End) : Type 0 where
  pub g : Parts
  pub declares : read_of page ≡ Ok g
  pub x : Microprogram
  pub is_file : IsFileOf file x
  pub broken : IsBroken (task_of g x) (reverse items) end

-- the code tells what is found, and its run
pub record FindsShown {A : Type 0} (page file : List ℕ) (found : Found) (shown : Option (Counted A)) : Type 0 where
  pub run : Option Counter
  pub is_shown : Shown shown run
  pub finds : FindsRun page file found run

-- ---- what the caller is told

abbrev pub run_told : (count at number forbidden : ℕ) → OnfiseqRun
run_told count at number forbidden = record { count = count; at = at; number = number; forbidden = forbidden }

-- of a run of so many items that the refusal has by itself, whose last isn't permitted
abbrev pub run_at : Found → (count : ℕ) → OnfiseqRun
run_at (F.Text reason word) count = run_told count word (reason_number reason) 1
run_at F.Accepted count = run_told count 0 0 1
run_at (F.Page fault) count = run_told count 0 0 1
run_at (F.File fault word) count = run_told count 0 0 1
run_at F.OutOfMemory count = run_told count 0 0 1

-- of that run, if there is one
abbrev pub own_run : Found → Option Counter → OnfiseqRun
own_run found None = run_told 0 0 0 0
own_run found (Some c) = run_at found (length (told (Some c)))

abbrev pub is_forbidden : Option Item → ℕ
is_forbidden None = 0
is_forbidden (Some item) = 1

-- of a run that was found
abbrev pub sought_run : List Item → End → OnfiseqRun
sought_run items end = run_told (length (items ++ last_item end.item)) end.word (reason_number end.reason) (is_forbidden end.item)

-- the run that the refusal has is told, and placed in front of the caller's items; or none
pub record TellsOwn (found : Found) (run : Option Counter) (old new : List OnfiseqItem) (r : OnfiseqRun) : Type 0 where
  pub told_of : r ≡ own_run found run
  pub written : new ≡ placed (told run) old

-- a run that was found is
pub record TellsSought (page file : List ℕ) (old new : List OnfiseqItem) (r : OnfiseqRun) : Type 0 where
  pub items : List Item
  pub end : End
  pub sought : IsSought page file items end
  pub told_of : r ≡ sought_run items end
  pub written : new ≡ placed (map numbers_of (items ++ last_item end.item)) old

-- the answer is that of what is found; a run that was found is told where the refusal has none by itself
pub record SaysRun (page file : List ℕ) (old new : List OnfiseqItem) (r : OnfiseqRun) (v : OnfiseqVerdict) : Type 0 where
  pub found : Found
  pub run : Option Counter
  pub finds : FindsRun page file found run
  pub answer : v ≡ answer_of found
  pub tells : TellsOwn found run old new r ⊎ ((run ≡ None) × TellsSought page file old new r)
