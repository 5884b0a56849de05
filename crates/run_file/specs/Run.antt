-- What a caller may count on of the statements of a run file.
use Rattle.std.specs.Prelude.{◌≡◌, ◌≤◌, true, false, List, [], ◌∷◌, length, IfNone}
use Rattle.std.specs.List.{AllByRecursion}
use Rattle.run_file.specs.Line.{Statement, Page, Targets, Image, Job, Polls, Fail}
use Rattle.run_file.specs.Told.{Numbered, Told, is_page, is_targets, repeats, jobs_in}

-- 1 to 4 targets, 1 to 1,000 polls, and readies are numbered from 1
abbrev pub IsInRange : Statement → Type 0
IsInRange (Page path) = Unit {0}
IsInRange (Targets count) = (1 ≤ count) × (count ≤ 4)
IsInRange (Image target lun path) = Unit {0}
IsInRange (Job target lun base text input output) = Unit {0}
IsInRange (Polls work count) = (1 ≤ count) × (count ≤ 1000)
IsInRange (Fail target lun ready before) = 1 ≤ ready

abbrev pub HasNumbersInRange : Numbered → Type 0
HasNumbersInRange s = IsInRange s.1

-- the first statement is the page, and the second the targets
abbrev pub HasHead : List Numbered → Type 0
HasHead [] = Unit {0}
HasHead (p ∷ []) = is_page p.1 ≡ true
HasHead (p ∷ t ∷ others) = (is_page p.1 ≡ true) × (is_targets t.1 ≡ true)

-- no later statement repeats an earlier one: page, targets, the polls of some work and the image of a die stand once
abbrev pub HasNoneTwice : List Numbered → Type 0
HasNoneTwice [] = Unit {0}
HasNoneTwice (s ∷ later) = AllByRecursion (λ (l : Numbered). repeats s.1 l.1 ≡ false) later × HasNoneTwice later

-- the statements of a text as far as they are read
pub record IsOrderly (statements : List Numbered) : Type 0 where
  pub head : HasHead statements
  pub once : HasNoneTwice statements
  pub ranges : AllByRecursion HasNumbersInRange statements
  pub jobs : jobs_in statements ≤ 65536

-- of a text without a fault, page and targets are there
pub record IsRun (t : Told) : Type 0 where
  pub orderly : IsOrderly t.statements
  pub whole : IfNone t.fault (2 ≤ length t.statements)
