-- A capture as items, each with its time.
use Rattle.std.specs.Prelude.{◌≡◌, ⊤, ℕ, zero, suc, ◌+◌, ◌-◌, ◌^◌, min, ◌*◌, ◌/◌, ◌%◌, ◌==◌, ◌&&◌, ◌||◌, not, Bool, true, false, if◌then◌else◌, List, [], ◌∷◌, ◌++◌, Option, Some, None, Result, Ok, Err}
use Rattle.std.specs.Option.{unwrap_or}
use Rattle.onfi_cycle.specs.declared.item.Item.{Item}
use Rattle.vcd_text.specs.declared.fault.LineFault.{LineFault}
use Rattle.vcd_text.specs.declared.tokens.Level.{Level}
use Rattle.vcd_text.specs.declared.tokens.Level.TheVariants.{Low, High, Unknown}
use Rattle.vcd_text.specs.Tokens.{◌>>=◌}
use Rattle.vcd_text.specs.Header.{Read, header}
use Rattle.vcd_text.specs.Body.{Told, Time, Change, told_from}
use Rattle.vcd_text.specs.Dumps.{beginning}
use Rattle.csv_text.specs.Rows.{rows}
use Rattle.csv_text.specs.Table.{table_of}
use Rattle.csv_text.specs.Body.{told}
use Rattle.bus_signals.specs.declared.fault.RoleFault.{RoleFault}
use Rattle.nand_geometry.specs.Optional.{has_program_cache}
use Rattle.bus_capture.specs.declared.fault.BusFault.{BusFault}
use Rattle.bus_capture.specs.declared.fault.CaptureFault.{CaptureFault}
use Rattle.bus_capture.specs.declared.fault.CaptureFault.TheVariants.{File, Bus}
use Rattle.bus_capture.specs.declared.fault.CaptureFault.TheVariants as fault
use Rattle.bus_capture.specs.declared.fault.CaptureRefusal.{CaptureRefusal}
use Rattle.bus_capture.specs.declared.fault.CaptureRefusal.TheVariants.{Fault, OutOfMemory}
use Rattle.bus_signals.specs.declared.role.Role.{Role}
use Rattle.bus_signals.specs.declared.role.Role.TheVariants.{We, Re}
use Rattle.bus_signals.specs.declared.role.Role.TheVariants as role
use Rattle.bus_signals.specs.declared.source.Source.{Source}
use Rattle.bus_capture.specs.declared.sampling.Seen.{Seen}
use Rattle.bus_capture.specs.declared.sampling.Seen.TheVariants as seen
use Rattle.bus_capture.specs.declared.sampling.Strobe.{Strobe}
use Rattle.bus_capture.specs.declared.sampling.Strobe.TheVariants.{Write}
use Rattle.bus_capture.specs.declared.sampling.Strobe.TheVariants as strobe
use Rattle.bus_capture.specs.declared.sampler.Observation.TheVariants as observation
use Rattle.bus_capture.specs.declared.sampler.Observed.{Observed}
use Rattle.bus_capture.specs.declared.sampler.Sampler.{Sampler}
use Rattle.bus_capture.specs.declared.sampler.Strobing.{Strobing}
use Rattle.bus_capture.specs.declared.reading.Setup.{Setup}
use Rattle.bus_signals.specs.Roles.{carriers_of, sources_of}
use Rattle.bus_capture.specs.Sampling.{level, with_change, cycle_taken, seen_if, item_of, rises, is_edge, is_short, is_moved, line_of, steady, ready_of}

-- ---- what is seen at a time

-- how many strobes are none of ours, with what is seen of one more
abbrev pub counted : ℕ → Seen → ℕ
counted count seen.Nothing = count
counted count (seen.Sampled cycle) = count
counted count seen.Unselected = min (count + 1) (2 ^ 64 - 1)

-- items with one more of this time, if there is one
abbrev pub with_item : ℕ → Option Item → List Observed → List Observed
with_item time None observed = observed
with_item time (Some item) observed = observed ++ record { time = time; observation = observation.Item item } ∷ []

-- with the rise of R/B# of a target, and of so many from number n on
abbrev pub with_release : ℕ → (before after : List Level) → ℕ → List Observed → List Observed
with_release time before after n observed =
    if rises (level before (role.ReadyBusy n)) (level after (role.ReadyBusy n)) then observed ++ record { time = time; observation = observation.Released n } ∷ [] else observed

abbrev pub with_releases : ℕ → (before after : List Level) → List Observed → (count n : ℕ) → List Observed
with_releases time before after observed zero n = observed
with_releases time before after observed (suc count) n = with_releases time before after (with_release time before after n observed) count (n + 1)

-- with the readies of so many LUNs from number n on, of which each target has four
abbrev pub with_readies : (caches : Bool) → ℕ → (before after : List Level) → List Observed → (count n : ℕ) → List Observed
with_readies caches time before after observed zero n = observed
with_readies caches time before after observed (suc count) n = with_readies caches time before after (with_item time (ready_of caches before after (n / 4) (n % 4)) observed) count (n + 1)

abbrev pub at_time : {A : Type 0} → ℕ → Result A BusFault → Result A CaptureFault
at_time time (Ok x) = Ok x
at_time time (Err fault) = Err (Bus fault time)

-- the time of an output that is taken now: where that is behind the rise of RE#, when RE# rose
abbrev pub time_of : (late : Option ℕ) → (time : ℕ) → (since : Option ℕ) → ℕ
time_of None time since = time
time_of (Some late) time since = unwrap_or since time

abbrev pub output_time : Sampler → ℕ
output_time s = time_of s.late s.time s.re.since

-- with what strobes and a model tell now
abbrev pub with_seen : Sampler → (written read : Seen) → List Observed → List Observed
with_seen s written read observed =
    with_releases s.time s.before.of s.after.of
    (with_readies s.caches s.time s.before.of s.after.of (with_item (output_time s) (item_of read) (with_item s.time (item_of written) observed)) (4 * s.targets) 0) s.targets 0

-- how far behind its rise a strobe's cycle is taken: of RE# so far; None where it is taken as the strobe rises
abbrev pub late_of : Sampler → Strobe → Option ℕ
late_of s Write = None
late_of s strobe.Read = s.late

-- a cycle is owed, and is taken by the levels before: so far behind the rise, or earlier where another line than DQ changes now
abbrev pub is_due : Sampler → Strobing → (late : ℕ) → Bool
is_due s known late = known.owed && (is_moved s.before.of s.after.of || not (is_short late s.time known.since))

abbrev pub is_taken : Option ℕ → Sampler → Strobe → Strobing → Bool
is_taken None s strobe known = rises (level s.before.of (line_of strobe)) (level s.after.of (line_of strobe))
is_taken (Some late) s strobe known = is_due s known late

-- what is seen of a strobe of which this is known, where the levels before become those of now
abbrev pub strobe_seen : Sampler → Strobe → Strobing → Result Seen BusFault
strobe_seen s strobe known = do
  _ ← steady s.targets strobe (is_short s.glitch s.time known.since) s.before.of s.after.of
  seen_if (is_taken (late_of s strobe) s strobe known) s.targets strobe known.driven s.before.of s.after.of

-- items with what is seen: of WE#, of RE#, of a model, and of R/B#
abbrev pub settled : Sampler → List Observed → Result (List Observed) CaptureFault
settled s observed = do
  written ← at_time s.time (strobe_seen s Write s.we)
  read ← at_time s.time (strobe_seen s strobe.Read s.re)
  Ok (with_seen s written read observed)

-- ---- from time to time

abbrev pub is_known : Level → Bool
is_known Low = true
is_known High = true
is_known Unknown = false

abbrev pub untouched : Strobing
untouched = record { driven = false; since = None; owed = false }

-- what is known of a strobe after these levels before and after a time, and whether its cycle is still to be taken
abbrev pub strobing_after : (owed : Bool) → Strobing → ℕ → (before after : Level) → Strobing
strobing_after owed known time before after =
    record { driven = known.driven || is_known after; since = if is_edge before after then Some time else known.since; owed = owed }

-- nothing has been seen
abbrev pub begun : ℕ → (glitch : ℕ) → (late : Option ℕ) → (caches : Bool) → List Level → Sampler
begun targets glitch late caches unknown =
    record { targets = targets; glitch = glitch; late = late; caches = caches; time = 0; before = record { of = unknown }; after = record { of = unknown }; we = untouched; re = untouched }

-- a cycle of RE# is still to be taken after this time: it rises now, or it was so before and isn't taken now
abbrev pub owes : Option ℕ → Sampler → Bool
owes None s = false
owes (Some late) s = rises (level s.before.of Re) (level s.after.of Re) || s.re.owed && not (is_due s s.re late)

-- at a later time
abbrev pub later : Sampler → ℕ → Sampler
later s time = record s {
  time = time;
  before = s.after;
  we = strobing_after false s.we s.time (level s.before.of We) (level s.after.of We);
  re = strobing_after (owes s.late s) s.re s.time (level s.before.of Re) (level s.after.of Re);
}

-- what is seen of RE# where nothing more comes
abbrev pub last_seen : Sampler → Result Seen BusFault
last_seen s = if s.re.owed then cycle_taken s.targets strobe.Read s.before.of else Ok seen.Nothing

-- items with the last output, where one is still to be taken
abbrev pub closed : Sampler → List Observed → Result (List Observed) CaptureFault
closed s observed = do
  read ← at_time s.time (last_seen s)
  Ok (with_item (output_time s) (item_of read) observed)

-- after a change
abbrev pub changed : List Source → ℕ → List ℕ → Sampler → Sampler
changed sources code bits s = record s { after = record { of = with_change sources code bits s.after.of } }

-- the items of what is told, after these
abbrev pub capturing : List Source → Sampler → List Observed → List Told → Result (List Observed) CaptureFault
capturing sources s observed [] = settled s observed >>= λ more. closed (later s s.time) more
capturing sources s observed (Err f ∷ told) = Err (File f)
capturing sources s observed (Ok (Change code bits) ∷ told) = capturing sources (changed sources code bits s) observed told
capturing sources s observed (Ok (Time time) ∷ told) =
    if time == s.time then capturing sources s observed told else (settled s observed >>= λ more. capturing sources (later s time) more told)

-- ---- a whole capture

abbrev pub in_file : {A : Type 0} → Result A LineFault → Result A CaptureFault
in_file (Ok x) = Ok x
in_file (Err f) = Err (File f)

abbrev pub in_roles : {A : Type 0} → Result A RoleFault → Result A CaptureFault
in_roles (Ok x) = Ok x
in_roles (Err f) = Err (fault.Role f)

-- 68 lines of which nothing is known
abbrev pub unknown_from : ℕ → List Level
unknown_from zero = []
unknown_from (suc count) = Unknown ∷ unknown_from count

abbrev pub unknown : List Level
unknown = unknown_from 68

abbrev pub sources_in : Setup → Read → Result (List Source) CaptureFault
sources_in setup read = in_roles (sources_of setup.targets (carriers_of setup.mappings.now read.header.variables))

-- the items of what is told
abbrev pub told_items : Setup → List Source → List Told → Result (List Observed) CaptureFault
told_items setup sources told = capturing sources (begun setup.targets setup.glitch setup.late (has_program_cache setup.geometry.optional) unknown) [] told

-- the items of a body
abbrev pub body_items : Setup → Read → List Source → Result (List Observed) CaptureFault
body_items setup read sources = told_items setup sources (told_from read.header.widths beginning read.line read.rest)

-- lines of a model tell when a LUN becomes ready
abbrev pub is_busy_line : Role → Bool
is_busy_line (role.Enable n) = false
is_busy_line role.Cle = false
is_busy_line role.Ale = false
is_busy_line role.We = false
is_busy_line role.Re = false
is_busy_line (role.Dq bit) = false
is_busy_line (role.ReadyBusy n) = false
is_busy_line (role.Busy ce lun) = true
is_busy_line (role.ArrayBusy ce lun) = false
is_busy_line (role.Failed ce lun) = false

abbrev pub tells_readies : List Source → Bool
tells_readies [] = false
tells_readies (s ∷ sources) = if is_busy_line s.role then true else tells_readies sources

-- what a capture shows: the items, and whether lines of a model tell the readies among them
pub record Shown : Type 0 where
  pub observed : List Observed
  pub tells_readies : Bool

abbrev pub shown_in : Setup → List ℕ → Result Shown CaptureFault
shown_in setup text = do
  read ← in_file (header text)
  sources ← sources_in setup read
  observed ← body_items setup read sources
  Ok (record { observed = observed; tells_readies = tells_readies sources })

-- the same of a CSV
abbrev pub shown_in_csv : Setup → List ℕ → Result Shown CaptureFault
shown_in_csv setup text = do
  table ← in_file (table_of (rows text))
  sources ← in_roles (sources_of setup.targets (carriers_of setup.mappings.now table.columns.variables))
  observed ← told_items setup sources (told table)
  Ok (record { observed = observed; tells_readies = tells_readies sources })

-- a refusal is this fault; of memory that was refused nothing is said
abbrev pub IsRefusalOf : {A : Type 0} → CaptureRefusal → Result A CaptureFault → Type 0
IsRefusalOf (Fault f) result = result ≡ Err f
IsRefusalOf OutOfMemory result = ⊤

-- an answer is what this comes to, or a fault
abbrev pub IsSeen : Result Seen CaptureRefusal → Result Seen CaptureFault → Type 0
IsSeen (Ok seen) result = result ≡ Ok seen
IsSeen (Err (Fault f)) result = result ≡ Err f
IsSeen (Err OutOfMemory) result = ⊥
