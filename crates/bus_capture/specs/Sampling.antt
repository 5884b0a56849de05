-- What is sampled of the levels of a bus, where a strobe rises, and what lines of a model tell beside it.
use Rattle.std.specs.Prelude.{ℕ, zero, suc, ◌+◌, ◌-◌, ◌==◌, ◌&&◌, ◌||◌, not, Bool, true, false, nat_lt, if◌then◌else◌, List, [], ◌∷◌, length, slice_get, slice_index, slice_set, Option, Some, None, Result, Ok, Err}
use Rattle.std.specs.Option.{unwrap_or}
use Rattle.onfi_cycle.specs.declared.item.Kind.{Kind}
use Rattle.onfi_cycle.specs.declared.item.Kind.TheVariants.{Cmd, Adr, Din, Dout}
use Rattle.onfi_cycle.specs.declared.item.Item.{Item}
use Rattle.onfi_cycle.specs.declared.item.Item.TheVariants.{Cyc, Rdy, Ard}
use Rattle.vcd_text.specs.declared.tokens.Level.{Level}
use Rattle.vcd_text.specs.declared.tokens.Level.TheVariants.{Low, High, Unknown}
use Rattle.vcd_text.specs.Tokens.{◌>>=◌, level_of}
use Rattle.bus_signals.specs.declared.role.Role.{Role}
use Rattle.bus_signals.specs.declared.role.Role.TheVariants.{Enable, Cle, Ale, We, Re, Dq, Busy, ArrayBusy, Failed}
use Rattle.bus_signals.specs.declared.source.Source.{Source}
use Rattle.bus_capture.specs.declared.fault.BusFault.{BusFault}
use Rattle.bus_capture.specs.declared.fault.BusFault.TheVariants.{UnknownEnable, UnknownLatch, UnknownData, UnknownStrobe, BothLatches, LatchAtOutput, SeveralEnabled, StrobesTogether, Glitch}
use Rattle.bus_capture.specs.declared.sampling.Strobe.{Strobe}
use Rattle.bus_capture.specs.declared.sampling.Strobe.TheVariants.{Write, Read}
use Rattle.bus_capture.specs.declared.sampling.Seen.{Seen}
use Rattle.bus_capture.specs.declared.sampling.Seen.TheVariants.{Nothing, Unselected, Sampled}
use Rattle.bus_signals.specs.Roles.{place_of}

-- ---- levels

-- the level at a place, and that of a line, of those of all lines
abbrev pub level_at : List Level → ℕ → Level
level_at levels n = unwrap_or (slice_get levels n) Unknown

abbrev pub level : List Level → Role → Level
level levels role = level_at levels (place_of role)

-- a bit that stands in a change, and one that stands no more: 0, or x or z where the first bit is
abbrev pub shown_bit : ℕ → Level
shown_bit b = unwrap_or (level_of b) Unknown

abbrev pub filled : Level → Level
filled Low = Low
filled High = Low
filled Unknown = Unknown

-- the bit at this place from the right
abbrev pub bit_at : List ℕ → ℕ → Level
bit_at bits place =
    if nat_lt place (length bits) then shown_bit (slice_index bits (length bits - 1 - place)) else filled (shown_bit (slice_index bits 0))

-- the levels after a change of a code, for one line and for all
abbrev pub with_source : Source → ℕ → List ℕ → List Level → List Level
with_source s code bits levels = if s.code == code then slice_set levels (place_of s.role) (bit_at bits s.place) else levels

abbrev pub with_change : List Source → ℕ → List ℕ → List Level → List Level
with_change [] code bits levels = levels
with_change (s ∷ sources) code bits levels = with_change sources code bits (with_source s code bits levels)

-- ---- a cycle

-- whether one more chip is enabled, after some
abbrev pub with_enable : Level → ℕ → Option ℕ → Result (Option ℕ) BusFault
with_enable Unknown n enabled = Err UnknownEnable
with_enable High n enabled = Ok enabled
with_enable Low n None = Ok (Some n)
with_enable Low n (Some m) = Err SeveralEnabled

-- the one chip that is enabled, of so many from number n on
abbrev pub enabled_from : List Level → (count n : ℕ) → Option ℕ → Result (Option ℕ) BusFault
enabled_from levels zero n enabled = Ok enabled
enabled_from levels (suc count) n enabled = with_enable (level levels (Enable n)) n enabled >>= λ now. enabled_from levels count (n + 1) now

-- what CLE and ALE tell of a cycle that is written, and that they are low in one that is read
abbrev pub written_kind : (cle ale : Level) → Result Kind BusFault
written_kind Unknown _ = Err UnknownLatch
written_kind Low Unknown = Err UnknownLatch
written_kind High Unknown = Err UnknownLatch
written_kind High High = Err BothLatches
written_kind High Low = Ok Cmd
written_kind Low High = Ok Adr
written_kind Low Low = Ok Din

abbrev pub read_kind : (cle ale : Level) → Result Kind BusFault
read_kind Unknown _ = Err UnknownLatch
read_kind Low Unknown = Err UnknownLatch
read_kind High Unknown = Err UnknownLatch
read_kind High High = Err LatchAtOutput
read_kind High Low = Err LatchAtOutput
read_kind Low High = Err LatchAtOutput
read_kind Low Low = Ok Dout

abbrev pub kind_of : Strobe → List Level → Result Kind BusFault
kind_of Write levels = written_kind (level levels Cle) (level levels Ale)
kind_of Read levels = read_kind (level levels Cle) (level levels Ale)

-- the line of a strobe, and that of the other one
abbrev pub line_of : Strobe → Role
line_of Write = We
line_of Read = Re

abbrev pub other_line : Strobe → Role
other_line Write = Re
other_line Read = We

-- a bit of DQ, by its weight
abbrev pub weighed : Level → ℕ → Result ℕ BusFault
weighed Low weight = Ok 0
weighed High weight = Ok weight
weighed Unknown weight = Err UnknownData

abbrev pub byte_of : List Level → Result ℕ BusFault
byte_of levels = do
  seven ← weighed (level levels (Dq 7)) 128
  six ← weighed (level levels (Dq 6)) 64
  five ← weighed (level levels (Dq 5)) 32
  four ← weighed (level levels (Dq 4)) 16
  three ← weighed (level levels (Dq 3)) 8
  two ← weighed (level levels (Dq 2)) 4
  one ← weighed (level levels (Dq 1)) 2
  zeroth ← weighed (level levels (Dq 0)) 1
  Ok (seven + six + five + four + three + two + one + zeroth)

-- the other strobe is high
abbrev pub apart : Level → Result Bool BusFault
apart High = Ok true
apart Low = Err StrobesTogether
apart Unknown = Err UnknownStrobe

-- the cycle of a strobe, by the levels before it rises
abbrev pub cycle_of : Strobe → ℕ → List Level → Result Seen BusFault
cycle_of strobe ce levels = do
  _ ← apart (level levels (other_line strobe))
  kind ← kind_of strobe levels
  byte ← byte_of levels
  Ok (Sampled (record { ce = ce; kind = kind; byte = byte }))

-- with no chip enabled it isn't ours
abbrev pub cycle_if : Strobe → Option ℕ → List Level → Result Seen BusFault
cycle_if strobe None levels = Ok Unselected
cycle_if strobe (Some ce) levels = cycle_of strobe ce levels

-- ---- what a strobe does between two times: it rises; it is lost where it becomes unknown, or was so after somebody had driven it; or nothing is seen

abbrev pub rises : (before after : Level) → Bool
rises Low High = true
rises Low Low = false
rises Low Unknown = false
rises High _ = false
rises Unknown _ = false

abbrev pub is_lost : (driven : Bool) → (before after : Level) → Bool
is_lost driven Low Unknown = true
is_lost driven Low Low = false
is_lost driven Low High = false
is_lost driven High _ = false
is_lost driven Unknown High = driven
is_lost driven Unknown Low = false
is_lost driven Unknown Unknown = false

abbrev pub lost_if : Option ℕ → Result Seen BusFault
lost_if None = Ok Nothing
lost_if (Some ce) = Err UnknownStrobe

-- the cycle of a strobe that is taken by these levels
abbrev pub cycle_taken : ℕ → Strobe → List Level → Result Seen BusFault
cycle_taken targets strobe levels = enabled_from levels targets 0 None >>= λ enabled. cycle_if strobe enabled levels

-- what is seen of a strobe whose cycle is taken by the levels before, or not, where these become those after
abbrev pub seen_if : (taken : Bool) → ℕ → Strobe → (driven : Bool) → (before after : List Level) → Result Seen BusFault
seen_if taken targets strobe driven before after =
    if taken then cycle_taken targets strobe before else (
    if is_lost driven (level before (line_of strobe)) (level after (line_of strobe)) then (enabled_from before targets 0 None >>= λ enabled. lost_if enabled) else Ok Nothing)

-- the same of one whose cycle is taken as it rises
abbrev pub seen_of : ℕ → Strobe → (driven : Bool) → (before after : List Level) → Result Seen BusFault
seen_of targets strobe driven before after = seen_if (rises (level before (line_of strobe)) (level after (line_of strobe))) targets strobe driven before after

abbrev pub item_of : Seen → Option Item
item_of Nothing = None
item_of Unselected = None
item_of (Sampled c) = Some (Cyc c)

-- ---- a strobe that changes too early

-- it goes from low to high or back
abbrev pub is_edge : (before after : Level) → Bool
is_edge Low High = true
is_edge High Low = true
is_edge Low Low = false
is_edge Low Unknown = false
is_edge High High = false
is_edge High Unknown = false
is_edge Unknown _ = false

-- less time than that of a glitch has gone since it went so, if it ever did
abbrev pub is_short : (glitch time : ℕ) → (since : Option ℕ) → Bool
is_short glitch time None = false
is_short glitch time (Some t) = nat_lt (time - t) glitch

abbrev pub glitch_if : Option ℕ → Result Bool BusFault
glitch_if None = Ok false
glitch_if (Some ce) = Err Glitch

-- as far as a chip is enabled, a strobe doesn't change so early
abbrev pub steady : ℕ → Strobe → (short : Bool) → (before after : List Level) → Result Bool BusFault
steady targets strobe short before after =
    if short && is_edge (level before (line_of strobe)) (level after (line_of strobe)) then (enabled_from before targets 0 None >>= λ enabled. glitch_if enabled) else Ok false

-- ---- a line that changes

abbrev pub same_level : Level → Level → Bool
same_level Low Low = true
same_level Low High = false
same_level Low Unknown = false
same_level High Low = false
same_level High High = true
same_level High Unknown = false
same_level Unknown Low = false
same_level Unknown High = false
same_level Unknown Unknown = true

-- one of so many lines from number n on
abbrev pub moved_from : (before after : List Level) → (count n : ℕ) → Bool
moved_from before after zero n = false
moved_from before after (suc count) n = not (same_level (level_at before n) (level_at after n)) || moved_from before after count (n + 1)

-- any line but those of DQ, which stand at eight places behind the first eight
abbrev pub is_moved : (before after : List Level) → Bool
is_moved before after = moved_from before after 8 0 || moved_from before after 52 16

-- ---- what lines of a model tell

abbrev pub falls : (before after : Level) → Bool
falls High Low = true
falls High High = false
falls High Unknown = false
falls Low _ = false
falls Unknown _ = false

abbrev pub is_high : Level → Bool
is_high Low = false
is_high High = true
is_high Unknown = false

abbrev pub is_low : Level → Bool
is_low Low = true
is_low High = false
is_low Unknown = false

-- a strobe rises
abbrev pub strobe_rises : (before after : List Level) → Bool
strobe_rises before after = rises (level before We) (level after We) || rises (level before Re) (level after Re)

-- the array's line of a LUN that wasn't busy falls, and not with a cycle: a command that starts work or a reset ends what the array did, and that is no ready.
-- Where the chip programs caches, the LUN may be busy meanwhile with one plane of several
abbrev pub array_is_done : (caches : Bool) → (before after : List Level) → (ce lun : ℕ) → Bool
array_is_done caches before after ce lun = (caches || is_low (level before (Busy ce lun))) && (falls (level before (ArrayBusy ce lun)) (level after (ArrayBusy ce lun)) && not (strobe_rises before after))

-- busy falls: a ready, with failure if that is told then; the array is done: a ready of the array, and so is that. No line tells of the page before
abbrev pub ready_of : (caches : Bool) → (before after : List Level) → (ce lun : ℕ) → Option Item
ready_of caches before after ce lun =
    if falls (level before (Busy ce lun)) (level after (Busy ce lun)) then Some (Rdy ce lun (record { last = is_high (level after (Failed ce lun)); before = false })) else (
    if array_is_done caches before after ce lun then Some (Ard ce lun (is_high (level after (Failed ce lun)))) else None)
