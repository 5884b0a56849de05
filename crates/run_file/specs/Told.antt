-- What a run file tells: the statements of the lines before the first faulty one, and that line's fault.
use Rattle.std.specs.Prelude.{ℕ, ◌+◌, Bool, true, false, not, ◌&&◌, ◌==◌, nat_lt, nat_le, if◌then◌else◌, List, [], ◌∷◌, ◌++◌, length, Option, Some, None, Result, Ok, Err}
use Rattle.micro_asm.specs.Line.{◌>>=◌}
use Rattle.micro_asm.specs.Reading.{lines}
use Rattle.run_file.specs.declared.polled.Polled.{Polled}
use Rattle.run_file.specs.declared.polled.Polled.TheVariants as polled
use Rattle.run_file.specs.declared.refusal.RunFault.{RunFault}
use Rattle.run_file.specs.declared.refusal.RunFault.TheVariants.{BadNumber, OutOfOrder}
use Rattle.run_file.specs.declared.refusal.RunRefusal.{RunRefusal}
use Rattle.run_file.specs.Line.{Statement, Page, Targets, Image, Job, Polls, Fail, spelled}

-- a statement and the number of its line
abbrev pub Numbered : Type 0
Numbered = ℕ × Statement

-- ---- the place of a statement

abbrev pub is_page : Statement → Bool
is_page (Page path) = true
is_page _ = false

abbrev pub is_targets : Statement → Bool
is_targets (Targets count) = true
is_targets _ = false

-- both are the same work
abbrev pub is_same_work : Polled → Polled → Bool
is_same_work polled.Each polled.Each = true
is_same_work polled.Reads polled.Reads = true
is_same_work polled.Programs polled.Programs = true
is_same_work polled.Erases polled.Erases = true
is_same_work (polled.Lun target lun) (polled.Lun other_target other_lun) = (target == other_target) && (lun == other_lun)
is_same_work _ _ = false

-- the polls of this work
abbrev pub is_polls_of : Polled → Statement → Bool
is_polls_of work (Polls other count) = is_same_work work other
is_polls_of work _ = false

-- the image of this die
abbrev pub is_image_of : ℕ → ℕ → Statement → Bool
is_image_of target lun (Image other_target other_lun path) = (target == other_target) && (lun == other_lun)
is_image_of target lun _ = false

abbrev pub is_job : Statement → Bool
is_job (Job target lun base text input output) = true
is_job _ = false

-- page, targets, the polls of some work and the image of a die stand once
abbrev pub stands_once : Statement → Bool
stands_once (Job target lun base text input output) = false
stands_once (Fail target lun ready before) = false
stands_once _ = true

-- the first of two statements stands once, and the second is the same again
abbrev pub repeats : Statement → Statement → Bool
repeats (Page path) s = is_page s
repeats (Targets count) s = is_targets s
repeats (Polls work count) s = is_polls_of work s
repeats (Image target lun path) s = is_image_of target lun s
repeats (Job target lun base text input output) s = false
repeats (Fail target lun ready before) s = false

-- some statement is repeated by this one
unfoldable pub stands_before : Statement → List Numbered → Bool
stands_before s [] = false
stands_before s (b ∷ before) = if repeats b.1 s then true else stands_before s before

-- the first statement is the page, the second the targets, and what stands once doesn't come again
unfoldable pub is_in_order : List Numbered → Statement → Bool
is_in_order [] s = is_page s
is_in_order (_ ∷ []) s = is_targets s
is_in_order (a ∷ b ∷ before) s = not (stands_once s && stands_before s (a ∷ b ∷ before))

-- how many jobs there are
unfoldable pub jobs_in : List Numbered → ℕ
jobs_in [] = 0
jobs_in (s ∷ ss) = if is_job s.1 then jobs_in ss + 1 else jobs_in ss

-- a statement after those before it
unfoldable pub placed : List Numbered → Option Statement → Result (Option Statement) RunFault
placed before None = Ok None
placed before (Some s) =
    if is_job s && nat_le 65536 (jobs_in before) then Err BadNumber else (
    if is_in_order before s then Ok (Some s) else Err OutOfOrder)

-- a line after the statements before it
unfoldable pub judged : List Numbered → List ℕ → Result (Option Statement) RunFault
judged before line = spelled line >>= placed before

-- ---- line by line

pub record Told : Type 0 where
  pub statements : List Numbered
  pub fault : Option RunRefusal

abbrev pub stopped : List Numbered → RunFault → ℕ → Told
stopped before fault line = record { statements = before; fault = Some (record { fault = fault; line = line }) }

-- the end, after the last line: page and targets stand before
abbrev pub ended : ℕ → List Numbered → Told
ended line before = if nat_lt (length before) 2 then stopped before OutOfOrder line else record { statements = before; fault = None }

-- a line with this number, and then what follows; the first fault is the last that is read
abbrev pub after_line : ℕ → List Numbered → Result (Option Statement) RunFault → (List Numbered → Told) → Told
after_line line before (Ok None) following = following before
after_line line before (Ok (Some s)) following = following (before ++ (line, s) ∷ [])
after_line line before (Err fault) following = stopped before fault line

-- the lines from this number on, after the statements before them
unfoldable pub told_from : ℕ → List Numbered → List (List ℕ) → Told
told_from line before [] = ended line before
told_from line before (l ∷ ls) = after_line line before (judged before l) (λ now. told_from (line + 1) now ls)

-- the whole text
unfoldable pub told : List ℕ → Told
told text = told_from 1 [] (lines text)
