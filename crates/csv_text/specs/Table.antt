-- The row of names.
use Rattle.std.specs.Prelude.{ℕ, ◌+◌, ◌-◌, ◌==◌, ◌&&◌, ◌||◌, Bool, true, false, if◌then◌else◌, List, [], ◌∷◌, length, drop, codes, is_some, Result, Ok, Err}
use Rattle.std.specs.Str.{bytes_eq}
use Rattle.vcd_text.specs.declared.fault.DumpFault.TheVariants.{NoColumnNames}
use Rattle.vcd_text.specs.declared.fault.LineFault.{LineFault}
use Rattle.vcd_text.specs.Header.{Variable}
use Rattle.vcd_text.specs.Tokens.{level_of}
use Rattle.csv_text.specs.declared.form.Form.{Form}
use Rattle.csv_text.specs.Rows.{Row, is_note}
use Rattle.csv_text.specs.Fields.{fields, are_as_many, separator_of}
use Rattle.csv_text.specs.Times.{moment_of}
use Rattle.csv_text.specs.Notes.{Heading, no_heading, noted}

-- the field of a signal: one bit, or nothing, which is unknown
abbrev pub is_signal : List ℕ → Bool
is_signal [] = true
is_signal (b ∷ []) = is_some (level_of b)
is_signal (b ∷ c ∷ more) = false

-- the field is a value, and no name
abbrev pub is_value : List ℕ → Bool
is_value field = is_signal field || is_some (moment_of false field)

abbrev pub are_values : List (List ℕ) → Bool
are_values [] = true
are_values (field ∷ more) = is_value field && are_values more

-- Time or time
abbrev pub begins_time : List ℕ → Bool
begins_time (a ∷ b ∷ c ∷ d ∷ name) = (a == 84 || a == 116) && (b == 105 && (c == 109 && d == 101))
begins_time _ = false

-- a unit of sigrok's: nanoseconds, microseconds, milliseconds, seconds
abbrev pub is_unit : List ℕ → Bool
is_unit name = bytes_eq name (codes "nanoseconds") || (bytes_eq name (codes "microseconds") || (bytes_eq name (codes "milliseconds") || bytes_eq name (codes "seconds")))

-- the first column has times if its name begins so, or is a unit
abbrev pub names_time : List ℕ → Bool
names_time name = begins_time name || is_unit name

-- (s) or [s]
abbrev pub is_seconds_mark : List ℕ → Bool
is_seconds_mark (a ∷ b ∷ c ∷ []) = (a == 40 || a == 91) && (b == 115 && (c == 41 || c == 93))
is_seconds_mark _ = false

-- times are seconds if the name ends so
abbrev pub tells_seconds : List ℕ → Bool
tells_seconds name = is_seconds_mark (drop (length name - 3) name)

-- each column is called `logic`, as sigrok calls what has no unit
abbrev pub are_logic : List (List ℕ) → Bool
are_logic [] = true
are_logic (name ∷ more) = bytes_eq name (codes "logic") && are_logic more

-- the names of signals: those of the comment where the row has none of its own, and it is about as many
abbrev pub signal_names : (channels names : List (List ℕ)) → List (List ℕ)
signal_names channels names = if are_logic names && are_as_many channels names then channels else names

-- a signal of one bit for each column, whose code is the number of the column
abbrev pub variables_from : ℕ → List (List ℕ) → List Variable
variables_from number [] = []
variables_from number (name ∷ more) = record { name = name; range = []; width = 1; code = number } ∷ variables_from (number + 1) more

-- what the columns are: how a row is read, and the signals
pub record Columns : Type 0 where
  pub form : Form
  pub variables : List Variable

abbrev pub columns_of : Heading → (separator : ℕ) → List (List ℕ) → Columns
columns_of h separator [] = record { form = record { separator = separator; has_times = false; in_seconds = false; rate = h.rate }; variables = variables_from 0 (signal_names (fields 44 h.channels) []) }
columns_of h separator (name ∷ more) =
    if names_time name
    then record { form = record { separator = separator; has_times = true; in_seconds = tells_seconds name; rate = h.rate }; variables = variables_from 1 (signal_names (fields 44 h.channels) more) }
    else record { form = record { separator = separator; has_times = false; in_seconds = false; rate = h.rate }; variables = variables_from 0 (signal_names (fields 44 h.channels) (name ∷ more)) }

-- a file: its columns, the row that names them, and the rows below it
pub record Table : Type 0 where
  pub columns : Columns
  pub names : List ℕ
  pub rows : List Row

abbrev pub no_names : ℕ → Result Table LineFault
no_names line = Err (record { fault = NoColumnNames; line = line })

-- a file whose row of names is this, after these comments
abbrev pub named_table : Heading → Row → List Row → Result Table LineFault
named_table h row rows =
    if are_values (fields (separator_of row.text) row.text) then no_names row.line
    else Ok (record { columns = columns_of h (separator_of row.text) (fields (separator_of row.text) row.text); names = row.text; rows = rows })

-- the first row that is no comment names the columns
abbrev pub table_from : Heading → List Row → Result Table LineFault
table_from h [] = no_names 1
table_from h (row ∷ rows) = if is_note row.text then table_from (noted h row.text) rows else named_table h row rows

abbrev pub table_of : List Row → Result Table LineFault
table_of rows = table_from no_heading rows
