-- What a line of a run file says: nothing, a statement, or its fault.
use Rattle.std.specs.Prelude.{ℕ, Bool, true, false, ◌&&◌, nat_le, if◌then◌else◌, List, [], ◌∷◌, codes, Option, Some, None, Result, Ok, Err, ok_or}
use Rattle.std.specs.Char.{is_ascii}
use Rattle.std.specs.List.{list_all}
use Rattle.std.specs.Str.{bytes_eq}
use Rattle.micro_asm.specs.Line.{◌>>=◌, fields, before_comment, number_of}
use Rattle.run_file.specs.declared.name.Name.{Name}
use Rattle.run_file.specs.declared.name.Name.TheVariants as name
use Rattle.run_file.specs.declared.polled.Polled.{Polled}
use Rattle.run_file.specs.declared.polled.Polled.TheVariants as polled
use Rattle.run_file.specs.declared.refusal.RunFault.{RunFault}
use Rattle.run_file.specs.declared.refusal.RunFault.TheVariants.{UnknownLine, BadNumber, OutOfOrder, NoSuchLun, InputTooLong}

-- the code of a fault
abbrev pub code : RunFault → List ℕ
code UnknownLine = codes "J1"
code BadNumber = codes "J2"
code OutOfOrder = codes "J3"
code NoSuchLun = codes "J4"
code InputTooLong = codes "J5"

-- what a line can say; a job without an input or an output has None for it
pub data Statement : Type 0 where
  Page : (path : List ℕ) → Statement
  Targets : (count : ℕ) → Statement
  Image : (target : ℕ) (lun : ℕ) (path : List ℕ) → Statement
  Job : (target : ℕ) (lun : ℕ) (base : ℕ) (text : List ℕ) (input : Option (List ℕ)) (output : Option (List ℕ)) → Statement
  Polls : (work : Polled) (count : ℕ) → Statement
  Fail : (target : ℕ) (lun : ℕ) (ready : ℕ) (before : Bool) → Statement

-- ---- fields

abbrev pub is_named : List ℕ → List ℕ → Bool
is_named field text = bytes_eq field text

-- the name of a statement
unfoldable pub name_of : List ℕ → Option Name
name_of field =
    if is_named field (codes "page") then Some name.Page else (
    if is_named field (codes "targets") then Some name.Targets else (
    if is_named field (codes "image") then Some name.Image else (
    if is_named field (codes "job") then Some name.Job else (
    if is_named field (codes "polls") then Some name.Polls else (
    if is_named field (codes "fail") then Some name.Fail else None)))))

-- a path is ASCII
unfoldable pub path_of : List ℕ → Result (List ℕ) RunFault
path_of field = if list_all is_ascii field then Ok field else Err UnknownLine

-- `-` stands for no path
unfoldable pub optional_path : List ℕ → Result (Option (List ℕ)) RunFault
optional_path field = if is_named field (codes "-") then Ok None else (path_of field >>= λ path. Ok (Some path))

-- a decimal number of one to ten digits, in a range
unfoldable pub number_in : ℕ → ℕ → List ℕ → Result ℕ RunFault
number_in least greatest field = do
  n ← ok_or (number_of field) BadNumber
  if nat_le least n && nat_le n greatest then Ok n else Err BadNumber

-- the work that a word names
unfoldable pub polled_of : List ℕ → Option Polled
polled_of field =
    if is_named field (codes "read") then Some polled.Reads else (
    if is_named field (codes "program") then Some polled.Programs else (
    if is_named field (codes "erase") then Some polled.Erases else None))

-- ---- lines: first the number of fields and the paths, then the numbers

unfoldable pub page_line : List (List ℕ) → Result Statement RunFault
page_line (path ∷ []) = do
  path ← path_of path
  Ok (Page path)
page_line _ = Err UnknownLine

unfoldable pub targets_line : List (List ℕ) → Result Statement RunFault
targets_line (count ∷ []) = do
  count ← number_in 1 4 count
  Ok (Targets count)
targets_line _ = Err UnknownLine

unfoldable pub image_line : List (List ℕ) → Result Statement RunFault
image_line (target ∷ lun ∷ path ∷ []) = do
  path ← path_of path
  target ← number_in 0 4294967295 target
  lun ← number_in 0 4294967295 lun
  Ok (Image target lun path)
image_line _ = Err UnknownLine

-- the files of a job: its word file, its input and its output
unfoldable pub job_files : List (List ℕ) → Result (List ℕ × Option (List ℕ) × Option (List ℕ)) RunFault
job_files (text ∷ input ∷ output ∷ []) = do
  text ← path_of text
  input ← optional_path input
  output ← optional_path output
  Ok (text, input, output)
job_files _ = Err UnknownLine

unfoldable pub job_line : List (List ℕ) → Result Statement RunFault
job_line (target ∷ lun ∷ base ∷ rest) = do
  files ← job_files rest
  target ← number_in 0 4294967295 target
  lun ← number_in 0 4294967295 lun
  base ← number_in 0 4294967295 base
  Ok (Job target lun base files.0 files.1 files.2)
job_line _ = Err UnknownLine

-- `polls N`
unfoldable pub each_polls : List ℕ → Result Statement RunFault
each_polls count = do
  count ← number_in 1 1000 count
  Ok (Polls polled.Each count)

-- `polls read N`, `polls program N` or `polls erase N`
unfoldable pub work_polls : List ℕ → List ℕ → Result Statement RunFault
work_polls work count = do
  work ← ok_or (polled_of work) UnknownLine
  count ← number_in 1 1000 count
  Ok (Polls work count)

-- `polls lun CE LUN N`
unfoldable pub lun_polls : List ℕ → List ℕ → List ℕ → List ℕ → Result Statement RunFault
lun_polls word target lun count =
    if is_named word (codes "lun") then (do
      target ← number_in 0 4294967295 target
      lun ← number_in 0 4294967295 lun
      count ← number_in 1 1000 count
      Ok (Polls (polled.Lun target lun) count)) else Err UnknownLine

unfoldable pub polls_line : List (List ℕ) → Result Statement RunFault
polls_line (count ∷ []) = each_polls count
polls_line (work ∷ count ∷ []) = work_polls work count
polls_line (word ∷ target ∷ lun ∷ count ∷ []) = lun_polls word target lun count
polls_line _ = Err UnknownLine

-- the ready tells that the page before it failed, where these fields are the word for that
unfoldable pub tells_before : List (List ℕ) → Result Bool RunFault
tells_before [] = Ok false
tells_before (word ∷ []) = if is_named word (codes "before") then Ok true else Err UnknownLine
tells_before _ = Err UnknownLine

unfoldable pub fail_line : List (List ℕ) → Result Statement RunFault
fail_line (target ∷ lun ∷ ready ∷ rest) = do
  before ← tells_before rest
  target ← number_in 0 4294967295 target
  lun ← number_in 0 4294967295 lun
  ready ← number_in 1 4294967295 ready
  Ok (Fail target lun ready before)
fail_line _ = Err UnknownLine

-- the line of a name and the fields after it
unfoldable pub named_line : Name → List (List ℕ) → Result Statement RunFault
named_line name.Page rest = page_line rest
named_line name.Targets rest = targets_line rest
named_line name.Image rest = image_line rest
named_line name.Job rest = job_line rest
named_line name.Polls rest = polls_line rest
named_line name.Fail rest = fail_line rest

unfoldable pub fields_line : List (List ℕ) → Result (Option Statement) RunFault
fields_line [] = Ok None
fields_line (first ∷ rest) = do
  name ← ok_or (name_of first) UnknownLine
  statement ← named_line name rest
  Ok (Some statement)

-- the statement of a line, None where it has no fields
unfoldable pub spelled : List ℕ → Result (Option Statement) RunFault
spelled line = fields_line (fields (before_comment line))
