-- A second look at a text, in which nothing of the lines in front is kept: where a label stands is looked up in the text itself.
use Rattle.std.specs.Prelude.{ℕ, Bool, true, false, nat_lt, if◌then◌else◌, List, [], ◌∷◌, Option, Some, None, is_some, Result, Ok, Err}
use Rattle.std.specs.Str.{bytes_eq}
use Rattle.micro_asm.specs.declared.refusal.AsmFault.{AsmFault}
use Rattle.micro_asm.specs.declared.refusal.AsmFault.TheVariants.{NoSuchLabel, HeaderOutOfOrder}
use Rattle.micro_asm.specs.declared.refusal.AsmRefusal.{AsmRefusal}
use Rattle.micro_asm.specs.declared.refusal.AsmRefusal.TheVariants.{Fault}
use Rattle.micro_asm.specs.declared.progress.Progress.{Progress}
use Rattle.micro_asm.specs.Line.{◌>>=◌, and_then, Line, Label, Entered, spelled}
use Rattle.micro_asm.specs.Reading.{at_line, is_heading, led}
use Rattle.micro_asm.specs.Judged.{at_start, judged}

-- ---- a line whose label isn't looked up

abbrev pub with_next : Line → Result Progress AsmFault → Option (Line × Progress)
with_next s (Ok next) = Some (s, next)
with_next s (Err e) = None

abbrev pub stepped_as : ℕ → Progress → Result Line AsmFault → Option (Line × Progress)
stepped_as last at (Ok s) = with_next s (judged last at false s)
stepped_as last at (Err e) = None

-- what the line says and how far reading has come after it; None where it has a fault
unfoldable pub stepped : ℕ → Progress → List ℕ → Option (Line × Progress)
stepped last at line = stepped_as last at (spelled (is_heading at.heading) line)

-- ---- a label

-- the line is the label of this name
abbrev pub is_label_line : List ℕ → Line → Bool
is_label_line name (Label own) = bytes_eq own name
is_label_line name _ = false

-- the place of the label's word, where the label is one of these lines and stands in front of line number `until`
unfoldable pub looked : ℕ → List ℕ → ℕ → Progress → List (List ℕ) → Option ℕ
looked last name until at [] = None
looked last name until at (l ∷ ls) =
    if nat_lt at.line until
    then and_then (stepped last at l) (λ x. if is_label_line name x.0 then Some at.words else looked last name until x.1 ls)
    else None

-- ---- line by line

-- the line is a label that stands in front already; `whole` is the whole text
abbrev pub is_taken_in : ℕ → List (List ℕ) → Progress → Line → Bool
is_taken_in last whole at (Label name) = is_some (looked last name at.line at_start whole)
is_taken_in last whole at _ = false

abbrev pub walked_as : ℕ → List (List ℕ) → Progress → Result Line AsmFault → Result Progress AsmFault
walked_as last whole at read = read >>= λ s. judged last at (is_taken_in last whole at s) s

unfoldable pub walked_line : ℕ → List (List ℕ) → Progress → List ℕ → Result Progress AsmFault
walked_line last whole at line = walked_as last whole at (spelled (is_heading at.heading) line)

-- how far reading comes, or the first fault of a line
unfoldable pub walked : ℕ → List (List ℕ) → Progress → List (List ℕ) → Result Progress AsmRefusal
walked last whole at [] = Ok at
walked last whole at (l ∷ ls) = at_line at.line (walked_line last whole at l) >>= λ next. walked last whole next ls

-- ---- branches

-- each branch of the line leads to a word; of how many words the text has, and where the labels stand
abbrev pub leads : ℕ → (List ℕ → Option ℕ) → Line → Bool
leads words labels (Entered entry) = is_some (led words labels entry)
leads words labels _ = true

-- the first branch that leads to no word
unfoldable pub lost : ℕ → ℕ → (List ℕ → Option ℕ) → Progress → List (List ℕ) → Option AsmRefusal
lost last words labels at [] = None
lost last words labels at (l ∷ ls) =
    and_then (stepped last at l) (λ x. if leads words labels x.0 then lost last words labels x.1 ls else Some (Fault NoSuchLabel at.line))

-- ---- the text

-- the labels of the lines that have been read
abbrev pub labels_in : ℕ → List (List ℕ) → Progress → List ℕ → Option ℕ
labels_in last whole end name = looked last name end.line at_start whole

-- the fault that only the end tells
abbrev pub fault_at_end : ℕ → List (List ℕ) → Progress → Option AsmRefusal
fault_at_end last whole end =
    if is_heading end.heading then Some (Fault HeaderOutOfOrder end.line) else lost last end.words (labels_in last whole end) at_start whole

abbrev pub fault_after : ℕ → List (List ℕ) → Result Progress AsmRefusal → Option AsmRefusal
fault_after last whole (Ok end) = fault_at_end last whole end
fault_after last whole (Err e) = Some e

-- the first fault of the text
unfoldable pub fault_in : ℕ → List (List ℕ) → Option AsmRefusal
fault_in last whole = fault_after last whole (walked last whole at_start whole)
