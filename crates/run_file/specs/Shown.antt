-- What a run file in memory says, whose paths are borrowed from the text.
use Rattle.std.specs.Prelude.{◌≡◌, ◌<◌, ◌^◌, ℕ, Option, Some, None, List, ◌∷◌, map, Result, Ok, Err}
use Rattle.std.specs.Option.{option_copied}
use Rattle.run_file.specs.declared.statement.Numbered.{Numbered}
use Rattle.run_file.specs.declared.statement.Statement.{Statement}
use Rattle.run_file.specs.declared.statement.Statement.TheVariants as statement
use Rattle.run_file.specs.declared.refusal.RunFault.{RunFault}
use Rattle.run_file.specs.declared.line.Files.{Files}
use Rattle.run_file.specs.declared.parsing.RunText.{RunText}
use Rattle.run_file.specs.declared.parsing.Survey.{Survey}
use Rattle.run_file.specs.Line as line
use Rattle.run_file.specs.Told as told

abbrev pub shown_statement : Statement → line.Statement
shown_statement (statement.Page path) = line.Page path.now
shown_statement (statement.Targets count) = line.Targets count
shown_statement (statement.Image target lun path) = line.Image target lun path.now
shown_statement (statement.Job target lun base text input output) =
    line.Job target lun base text.now (option_copied input) (option_copied output)
shown_statement (statement.Polls work count) = line.Polls work count
shown_statement (statement.Fail target lun ready before) = line.Fail target lun ready before

abbrev pub shown_files : Files → List ℕ × Option (List ℕ) × Option (List ℕ)
shown_files f = (f.text.now, option_copied f.input, option_copied f.output)

abbrev pub shown_numbered : Numbered → told.Numbered
shown_numbered n = (n.line, shown_statement n.statement)

abbrev pub shown_all : List Numbered → List told.Numbered
shown_all statements = map shown_numbered statements

abbrev pub shown_text : {A : Type 0} → RunText A → told.Told
shown_text text = record { statements = shown_all text.statements.items; fault = text.fault }

-- an answer is this statement, or this fault
abbrev pub IsLine : Result Statement RunFault → Result line.Statement RunFault → Type 0
IsLine (Ok s) line = line ≡ Ok (shown_statement s)
IsLine (Err e) line = line ≡ Err e

-- an answer is this statement or none, or this fault
abbrev pub IsSpelled : Result (Option Statement) RunFault → Result (Option line.Statement) RunFault → Type 0
IsSpelled (Ok (Some s)) line = line ≡ Ok (Some (shown_statement s))
IsSpelled (Ok None) line = line ≡ Ok None
IsSpelled (Err e) line = line ≡ Err e

-- ---- what has been read in front of a line

-- the jobs are counted, and there are fewer of them than the number of the line
pub record SurveyFits {A : Type 0} (survey : Survey A) : Type 0 where
  pub room : survey.line < 2 ^ 63
  pub jobs : survey.jobs ≡ told.jobs_in (shown_all survey.statements.items)
  pub fewer : survey.jobs < survey.line

-- the statements before that line
abbrev pub before : {A : Type 0} → Survey A → List told.Numbered
before survey = shown_all survey.statements.items

-- what is told from that line on, or with a fault in it
abbrev pub following : {A : Type 0} → Option RunFault → Survey A → List (List ℕ) → told.Told
following None survey ls = told.told_from survey.line (before survey) ls
following (Some fault) survey ls = told.stopped (before survey) fault survey.line

-- once a line is read, or its fault told, what is still to come is what was to come with this line
abbrev pub IsReading : {A : Type 0} → Survey A → List ℕ → Option RunFault → Survey A → Type 0
IsReading old line fault new = (ls : List (List ℕ)) → told.told_from old.line (before old) (line ∷ ls) ≡ following fault new ls
