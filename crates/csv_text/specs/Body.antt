-- The changes of a CSV, in the order of its rows, up to the first fault.
use Rattle.std.specs.Prelude.{ℕ, ◌+◌, ◌-◌, ◌==◌, ◌&&◌, Bool, true, false, nat_le, if◌then◌else◌, List, [], ◌∷◌, Option, Some, None, Result, Ok, Err, ok_or}
use Rattle.std.specs.Str.{bytes_eq}
use Rattle.vcd_text.specs.declared.fault.DumpFault.{DumpFault}
use Rattle.vcd_text.specs.declared.fault.DumpFault.TheVariants.{OtherFieldCount, BadRowTime, RowGoesBack, BadSignal}
use Rattle.vcd_text.specs.Tokens.{◌>>=◌}
use Rattle.vcd_text.specs.Body.{Time, Change, Told, fault_in}
use Rattle.csv_text.specs.declared.form.Form.{Form}
use Rattle.csv_text.specs.declared.times.Moment.{Moment}
use Rattle.csv_text.specs.Rows.{Row, values}
use Rattle.csv_text.specs.Fields.{fields, are_as_many}
use Rattle.csv_text.specs.Times.{moment_of, below_limit, sample_time}
use Rattle.csv_text.specs.Table.{Table, is_signal}

abbrev pub are_signals : List (List ℕ) → Bool
are_signals [] = true
are_signals (f ∷ fs) = is_signal f && are_signals fs

-- what was before a row: the time, how many rows there were, how long before a trigger the first one is, and the fields of the signals in the last one
pub record Place : Type 0 where
  pub time : ℕ
  pub count : ℕ
  pub origin : ℕ
  pub before : List (List ℕ)

-- ---- what a row tells

-- a row that may be told: its time, how long before a trigger the first row is, and the fields of its signals
pub record Judged : Type 0 where
  pub time : ℕ
  pub origin : ℕ
  pub signals : List (List ℕ)

abbrev pub signals_at : ℕ → ℕ → List (List ℕ) → Result Judged DumpFault
signals_at time origin signals = if are_signals signals then Ok (record { time = time; origin = origin; signals = signals }) else Err BadSignal

-- a time doesn't go back
abbrev pub later_than : ℕ → ℕ → Result ℕ DumpFault
later_than before time = if nat_le before time then Ok time else Err RowGoesBack

-- times are told from the first row on, if that is before a trigger
abbrev pub origin_of : (count origin : ℕ) → Moment → ℕ
origin_of count origin moment = if count == 0 && moment.is_negative then moment.size else origin

abbrev pub before_trigger : (origin size : ℕ) → Result ℕ DumpFault
before_trigger origin size = if nat_le size origin then Ok (origin - size) else Err RowGoesBack

abbrev pub moved : (origin : ℕ) → Moment → Result ℕ DumpFault
moved origin moment = if moment.is_negative then before_trigger origin moment.size else ok_or (below_limit (origin + moment.size)) BadRowTime

abbrev pub timed_at : (before origin : ℕ) → Moment → List (List ℕ) → Result Judged DumpFault
timed_at before origin moment signals = do
  time ← moved origin moment
  later ← later_than before time
  signals_at later origin signals

abbrev pub timed : Form → Place → List (List ℕ) → Result Judged DumpFault
timed form place [] = Err OtherFieldCount
timed form place (field ∷ signals) = do
  moment ← ok_or (moment_of form.in_seconds field) BadRowTime
  timed_at place.time (origin_of place.count place.origin moment) moment signals

-- without a column of times it is a sample
abbrev pub sampled : Form → Place → List (List ℕ) → Result Judged DumpFault
sampled form place signals = do
  time ← ok_or (sample_time form.rate place.count) BadRowTime
  signals_at time place.origin signals

-- a row below a row of names
abbrev pub judged : Form → (names : List (List ℕ)) → Place → List (List ℕ) → Result Judged DumpFault
judged form names place row = if are_as_many names row then (if form.has_times then timed form place row else sampled form place row) else Err OtherFieldCount

-- a signal has the field that it had in the row before, if it had one
abbrev pub is_same : (before : Option (List ℕ)) → List ℕ → Bool
is_same None field = false
is_same (Some before) field = bytes_eq before field

-- a change of a column, if its field isn't the same, and then what is told later
abbrev pub with_change : (code : ℕ) → (before : Option (List ℕ)) → List ℕ → List Told → List Told
with_change code before field later = if is_same before field then later else Ok (Change code field) ∷ later

-- the changes of the columns from number `code` on, and then what is told later
abbrev pub with_changes : (code : ℕ) → (before signals : List (List ℕ)) → List Told → List Told
with_changes code before [] later = later
with_changes code [] (f ∷ fs) later = with_change code None f (with_changes (code + 1) [] fs later)
with_changes code (b ∷ before) (f ∷ fs) later = with_change code (Some b) f (with_changes (code + 1) before fs later)

-- the number of the first signal's column
abbrev pub first_code : Form → ℕ
first_code form = if form.has_times then 1 else 0

abbrev pub after_row : ℕ → Form → Place → Result Judged DumpFault → (Place → List Told) → List Told
after_row line form place (Err fault) later = fault_in line fault ∷ []
after_row line form place (Ok row) later =
    Ok (Time row.time) ∷ with_changes (first_code form) place.before row.signals
    (later (record { time = row.time; count = place.count + 1; origin = row.origin; before = row.signals }))

-- what rows tell
abbrev pub told_from : Form → (names : List (List ℕ)) → Place → List Row → List Told
told_from form names place [] = []
told_from form names place (row ∷ rows) = after_row row.line form place (judged form names place (fields form.separator row.text)) (λ place. told_from form names place rows)

-- nothing was before the first row
abbrev pub beginning : Place
beginning = record { time = 0; count = 0; origin = 0; before = [] }

-- what the rows of a file tell
abbrev pub told : Table → List Told
told t = told_from t.columns.form (fields t.columns.form.separator t.names) beginning (values t.rows)
