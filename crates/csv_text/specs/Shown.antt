-- Rows, fields and files in memory.
use Rattle.std.specs.Prelude.{◌≡◌, ⊤, ℕ, ◌+◌, ◌*◌, ◌<◌, ◌≤◌, ◌^◌, false, List, [], ◌∷◌, ◌++◌, length, Option, Some, None, Result, Ok, Err}
use Rattle.std.specs.Option.{option_copied}
use Rattle.vcd_text.specs.declared.fault.DumpFault.{DumpFault}
use Rattle.vcd_text.specs.declared.fault.LineFault.{LineFault}
use Rattle.vcd_text.specs.declared.fault.HeaderRefusal.{HeaderRefusal}
use Rattle.vcd_text.specs.declared.fault.HeaderRefusal.TheVariants as refusal
use Rattle.vcd_text.specs.declared.body.Event.{Event}
use Rattle.vcd_text.specs.Body.{Told}
use Rattle.vcd_text.specs.Shown.{shown_event}
use Rattle.vcd_text.specs.Sections.{shown_variables}
use Rattle.csv_text.specs.declared.rows.Row.{Row}
use Rattle.csv_text.specs.declared.rows.Rows.{Rows}
use Rattle.csv_text.specs.declared.body.Body.{Body}
use Rattle.csv_text.specs.declared.body.Judged.{Judged}
use Rattle.csv_text.specs.declared.body.Standing.{Standing}
use Rattle.csv_text.specs.declared.table.Table.{Table}
use Rattle.csv_text.specs.declared.table.Headed.{Headed}
use Rattle.csv_text.specs.declared.heading.Heading.{Heading}
use Rattle.csv_text.specs.Rows as rows
use Rattle.csv_text.specs.Fields.{fields_from, fields}
use Rattle.csv_text.specs.Notes as notes
use Rattle.csv_text.specs.Table as table
use Rattle.csv_text.specs.Body as told

-- ---- rows

abbrev pub row_of : Row → rows.Row
row_of r = record { line = r.line; text = r.text.now }

abbrev pub rows_left : Rows → List rows.Row
rows_left r = rows.rows_from r.line [] r.rest.now

-- the same with more text behind them
abbrev pub rows_before : Rows → (more : List ℕ) → List rows.Row
rows_before r more = rows.rows_from r.line [] (r.rest.now ++ more)

abbrev pub with_row : Option Row → List rows.Row → List rows.Row
with_row None later = later
with_row (Some r) later = row_of r ∷ later

-- those without comments
abbrev pub values_before : Rows → (more : List ℕ) → List rows.Row
values_before r more = rows.values (rows_before r more)

-- ---- fields

abbrev pub fields_in : (separator : ℕ) → Option (List ℕ) → List (List ℕ)
fields_in separator None = []
fields_in separator (Some text) = fields_from separator false [] text

abbrev pub with_field : Option (List ℕ) → List (List ℕ) → List (List ℕ)
with_field None later = later
with_field (Some field) later = field ∷ later

-- a bound of how many fields are left
abbrev pub room_in : Option (List ℕ) → ℕ
room_in None = 0
room_in (Some text) = length text + 1

-- ---- a file

abbrev pub shown_judged : (separator : ℕ) → Judged → told.Judged
shown_judged separator j = record { time = j.time; origin = j.origin; signals = fields_in separator (option_copied j.signals.rest) }

-- an answer is this row, or this fault
abbrev pub IsJudged : (separator : ℕ) → Result Judged DumpFault → Result told.Judged DumpFault → Type 0
IsJudged separator (Ok j) judged = judged ≡ Ok (shown_judged separator j)
IsJudged separator (Err e) judged = judged ≡ Err e

abbrev pub place_of : Body → told.Place
place_of b = record { time = b.time; count = b.count; origin = b.origin; before = fields_in b.form.separator (option_copied b.last.rest) }

-- what the rows that are left tell, with more text behind them
abbrev pub told_rows : Body → (more : List ℕ) → List Told
told_rows b more = told.told_from b.form (fields b.form.separator b.names.now) (place_of b) (values_before b.rows more)

-- what is left of a row, in front of what is told later
abbrev pub with_row_left : Body → List Told → List Told
with_row_left b later = told.with_changes b.code (fields_in b.form.separator (option_copied b.before.rest)) (fields_in b.form.separator (option_copied b.row.rest)) later

-- what is left to be told, with more text behind it
abbrev pub told_before : Body → (more : List ℕ) → List Told
told_before b more = with_row_left b (told_rows b more)

-- an answer is the first of what is told, after which these are left; or there was nothing in front of these, or a fault
abbrev pub IsRead : Result (Option Event) LineFault → (told later : List Told) → Type 0
IsRead (Ok (Some e)) told later = told ≡ Ok (shown_event e) ∷ later
IsRead (Ok None) told later = told ≡ later
IsRead (Err f) told later = told ≡ Err f ∷ []

-- nothing is left of a text
abbrev pub IsOver : Body → Type 0
IsOver b = (b.rows.rest.now ≡ []) × (option_copied b.row.rest ≡ None)

abbrev pub standing_of : Body → Standing
standing_of b = record { form = b.form; time = b.time; count = b.count; origin = b.origin; line = b.rows.line }

-- what a text tells from where reading stands, with these names of the columns and this left of the last row
abbrev pub told_at : Standing → (names : List ℕ) → (last : Option (List ℕ)) → List ℕ → List Told
told_at s names last text =
    told.told_from s.form (fields s.form.separator names) (record { time = s.time; count = s.count; origin = s.origin; before = fields_in s.form.separator last })
    (rows.values (rows.rows_from s.line [] text))

-- lines, rows and columns can be counted
pub record HasRoom (b : Body) : Type 0 where
  pub first : 1 ≤ b.rows.line
  pub lines : b.rows.line + length b.rows.rest.now < 2 ^ 64
  pub rows : b.count + length b.rows.rest.now < 2 ^ 64
  pub columns : b.code + room_in (option_copied b.row.rest) < 2 ^ 64

-- how much is left of a file
abbrev pub bytes_left : Body → ℕ
bytes_left b = 3 * length b.rows.rest.now + room_in (option_copied b.row.rest)

-- a table in memory, with more text behind it
abbrev pub table_before : {A : Type 0} → Table A → (more : List ℕ) → table.Table
table_before t more = record {
  columns = record { form = t.body.form; variables = shown_variables t.variables.items };
  names = t.body.names.now;
  rows = rows_before t.body.rows more;
}

-- what comments tell, in memory
abbrev pub shown_heading : Heading → notes.Heading
shown_heading h = record { channels = h.channels.now; rate = h.rate }

-- a row of names, and what the comments above it tell
abbrev pub heading_of : Headed → notes.Heading
heading_of h = record { channels = h.channels.now; rate = h.rate }

abbrev pub names_of : Headed → rows.Row
names_of h = record { line = h.line; text = h.text.now }

-- a refusal is the fault that reading tells; of memory that was refused nothing is said
abbrev pub IsRefusalOf : {A : Type 0} → HeaderRefusal → Result A LineFault → Type 0
IsRefusalOf (refusal.Fault f) read = read ≡ Err f
IsRefusalOf refusal.OutOfMemory read = ⊤
