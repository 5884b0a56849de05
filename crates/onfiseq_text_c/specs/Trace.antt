-- What comes of reading the text of a trace.
use Rattle.std.specs.Prelude.{◌≡◌, ◌==◌, ◌||◌, Bool, true, false, ℕ, nat_lt, if◌then◌else◌, List, [], ◌∷◌, Result, Ok, Err, IsOk, MatchResult, map, length}
use Rattle.std.specs.Str.{IsUtf8}
use Rattle.nand_geometry.specs.declared.optional.Profile.{Profile}
use Rattle.nand_geometry.specs.declared.optional.Profile.TheVariants.{Base, Onfi}
use Rattle.onfi_cycle.specs.declared.item.Kind.{Kind}
use Rattle.onfi_cycle.specs.declared.item.Kind.TheVariants.{Cmd, Adr, Din, Dout}
use Rattle.onfi_cycle.specs.declared.item.Item.{Item}
use Rattle.onfi_cycle.specs.declared.item.Item.TheVariants.{Cyc, Rdy, Ard}
use Rattle.trace_text.specs.declared.form.TraceForm.{TraceForm}
use Rattle.trace_text.specs.declared.form.TraceForm.TheVariants.{Strict, Recorded}
use Rattle.trace_text.specs.declared.refusal.TraceFault.{TraceFault}
use Rattle.trace_text.specs.declared.refusal.TraceFault.TheVariants.{BadShape, BadNumber}
use Rattle.trace_text.specs.declared.refusal.TraceRefusal.TheVariants as refusal
use Rattle.trace_text.specs.Forms.{IsTraceText, read_as}
use Rattle.bus_record.specs.declared.item.OnfiseqItem.{OnfiseqItem}
use Rattle.placed_bytes.specs.declared.placed.OnfiseqPlaced.{OnfiseqPlaced}
use Rattle.placed_bytes.specs.Placed.{refusal as told_refusal}
use Rattle.onfiseq_text_c.specs.declared.trace.TraceFailure.{TraceFailure}
use Rattle.onfiseq_text_c.specs.declared.trace.TraceFailure.TheVariants as F

-- 0 for the strict form, 2 for that of the wider profile, and anything else for that of recordings
abbrev pub form_of : ℕ → TraceForm
form_of recorded = if recorded == 0 || recorded == 2 then Strict else Recorded

-- 2 and 3 for the wider profile, and anything else for the base one
abbrev pub profile_of : ℕ → Profile
profile_of recorded = if recorded == 2 || recorded == 3 then Onfi else Base

-- ---- items as numbers: a cycle by its letter, R with its failures, or Y with its

abbrev pub fail_number : (last before : Bool) → ℕ
fail_number false false = 0
fail_number true false = 1
fail_number false true = 2
fail_number true true = 3

abbrev pub letter_of : Kind → ℕ
letter_of Cmd = 67
letter_of Adr = 65
letter_of Din = 73
letter_of Dout = 79

abbrev pub numbers_of : Item → OnfiseqItem
numbers_of (Cyc c) = record { ce = c.ce; kind = letter_of c.kind; byte = c.byte; fail = 0 }
numbers_of (Rdy ce lun fail) = record { ce = ce; kind = 82; byte = lun; fail = fail_number fail.last fail.before }
numbers_of (Ard ce lun fail) = record { ce = ce; kind = 89; byte = lun; fail = if fail then 1 else 0 }

-- the caller's items with these in front, as many as fit
abbrev pub in_front : (made items : List OnfiseqItem) → List OnfiseqItem
in_front [] items = items
in_front (i ∷ made) [] = []
in_front (i ∷ made) (old ∷ items) = i ∷ in_front made items

-- ---- what is told

-- X1 and X2
abbrev pub fault_number : TraceFault → ℕ
fault_number BadShape = 1
fault_number BadNumber = 2

-- X with the line, U, or O
abbrev pub told_of : TraceFailure → OnfiseqPlaced
told_of (F.Text fault line) = told_refusal 88 (fault_number fault) line
told_of F.NotText = told_refusal 85 0 0
told_of F.OutOfMemory = told_refusal 79 0 0

-- so many items were read: 0, or B where the caller has no room for them
abbrev pub told_count : (count room : ℕ) → OnfiseqPlaced
told_count count room = record { letter = if nat_lt room count then 66 else 0; number = 0; at = 0; length = count }

abbrev pub told : Result (List Item) TraceFailure → (items : List OnfiseqItem) → OnfiseqPlaced
told (Ok made) items = told_count (length made) (length items)
told (Err failure) items = told_of failure

-- the caller's items then: all of them in front, or none
abbrev pub left : Result (List Item) TraceFailure → (items : List OnfiseqItem) → List OnfiseqItem
left (Ok made) items = if nat_lt (length items) (length made) then items else in_front (map numbers_of made) items
left (Err failure) items = items

-- the text has a fault, isn't UTF-8, or memory was refused and nothing else
abbrev pub FailsTrace : TraceForm → Profile → List ℕ → TraceFailure → Type 0
FailsTrace form p text (F.Text fault line) = read_as form p text ≡ Err (refusal.Fault fault line)
FailsTrace form p text F.NotText = IsUtf8 text → ⊥
FailsTrace form p text F.OutOfMemory = IsOk (read_as form p text)

-- items are read that the text has, or it fails for this; they, or the failure, are told and placed
pub record ReadsTrace (form : TraceForm) (p : Profile) (text : List ℕ) (old new : List OnfiseqItem) (w : OnfiseqPlaced) : Type 0 where
  pub made : Result (List Item) TraceFailure
  pub is : MatchResult made (IsTraceText form p text) (FailsTrace form p text)
  pub told : w ≡ told made old
  pub left : new ≡ left made old
