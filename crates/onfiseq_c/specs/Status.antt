-- The readies that a status output shows, on a bus whose R/B# isn't seen.
use Rattle.std.specs.Prelude.{ℕ, ◌+◌, ◌==◌, ◌&&◌, ◌||◌, Bool, true, false, if◌then◌else◌, List, [], ◌∷◌, ◌++◌, Option, Some, None, bit_and}
use Rattle.nand_geometry.specs.Optional.{has_program_cache}
use Rattle.onfi_cycle.specs.declared.latch.Latch.{Latch}
use Rattle.onfi_cycle.specs.declared.latch.Latch.TheVariants.{Off, Status, Data}
use Rattle.onfi_cycle.specs.declared.lun_state.LunState.{LunState}
use Rattle.onfi_cycle.specs.Look.{looked}
use Rattle.onfi_cycle.specs.State.{BusView}
use Rattle.bus_record.specs.declared.item.OnfiseqItem.{OnfiseqItem}

abbrev pub is_status : Latch → Bool
is_status Status = true
is_status Off = false
is_status Data = false

abbrev pub is_driving : Latch → Bool
is_driving Status = true
is_driving Off = false
is_driving Data = true

-- the LUN is there, and drives the bus when its target is read
abbrev pub drives : Option LunState → Bool
drives None = false
drives (Some l) = is_driving l.latch

abbrev pub lun_drives : BusView → (ce lun : ℕ) → Bool
lun_drives bus ce lun = drives (looked bus (record { ce = ce; lun = lun }))

-- which one of four it is, if it is only one
abbrev pub only_one : (zeroth first second third : Bool) → Option ℕ
only_one true false false false = Some 0
only_one false true false false = Some 1
only_one false false true false = Some 2
only_one false false false true = Some 3
only_one _ _ _ _ = None

-- the one LUN of a target that drives the bus
abbrev pub driving_lun : BusView → (ce : ℕ) → Option ℕ
driving_lun bus ce = only_one (lun_drives bus ce 0) (lun_drives bus ce 1) (lun_drives bus ce 2) (lun_drives bus ce 3)

-- the item is an output whose byte has this bit
abbrev pub shows_bit : OnfiseqItem → ℕ → Bool
shows_bit i bit = i.kind == 79 && (i.fail == 0 && bit_and i.byte bit == bit)

-- the failures that the byte tells of a LUN that is ready: bit 0, unless its array goes on with what was programmed; and bit 1, where the chip programs caches
abbrev pub ready_fail : (caches : Bool) → LunState → ℕ → ℕ
ready_fail caches l byte = (if l.programming then 0 else bit_and byte 1) + (if caches then bit_and byte 2 else 0)

abbrev pub ready_item : (caches : Bool) → OnfiseqItem → ℕ → LunState → OnfiseqItem
ready_item caches i lun l = record { ce = i.ce; kind = 82; byte = lun; fail = ready_fail caches l i.byte }

-- the array of a LUN is ready, and has failed where it programs and the byte has bit 0
abbrev pub array_item : OnfiseqItem → ℕ → LunState → OnfiseqItem
array_item i lun l = record { ce = i.ce; kind = 89; byte = lun; fail = if l.programming then bit_and i.byte 1 else 0 }

-- the LUN gives its status, is busy, and shows RDY
abbrev pub becomes_ready : OnfiseqItem → Option LunState → Bool
becomes_ready i None = false
becomes_ready i (Some l) = is_status l.latch && (l.busy && shows_bit i 64)

-- it gives its status, its array works, or works on once a cache read or a cache program is ready, and it shows RDY and ARDY
abbrev pub array_becomes_ready : OnfiseqItem → Option LunState → Bool
array_becomes_ready i None = false
array_becomes_ready i (Some l) = is_status l.latch && ((l.array_busy || (l.busy && (l.caching || l.programming))) && (shows_bit i 64 && shows_bit i 32))

abbrev pub readies_of : (caches : Bool) → OnfiseqItem → ℕ → Option LunState → List OnfiseqItem
readies_of caches i lun None = []
readies_of caches i lun (Some l) =
    (if becomes_ready i (Some l) then ready_item caches i lun l ∷ [] else []) ++ (if array_becomes_ready i (Some l) then array_item i lun l ∷ [] else [])

-- the readies that an item shows of the one LUN that drives the bus
abbrev pub readies_at : BusView → OnfiseqItem → Option ℕ → List OnfiseqItem
readies_at bus i None = []
readies_at bus i (Some lun) = readies_of (has_program_cache bus.geometry.optional) i lun (looked bus (record { ce = i.ce; lun = lun }))

-- those readies, and then the item itself
abbrev pub completed : BusView → OnfiseqItem → List OnfiseqItem
completed bus i = readies_at bus i (driving_lun bus i.ce) ++ (i ∷ [])
