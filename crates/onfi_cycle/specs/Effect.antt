-- What an item does to a LUN.
use Rattle.std.specs.Prelude.{ℕ, ◌==◌, ◌%◌, Bool, true, false, ◌&&◌, ◌||◌, not, nat_lt, if◌then◌else◌, List, Option, Some, None, IfSome, ◌<◌, ◌^◌}
use Rattle.nand_geometry.specs.declared.parts.Parts.{Parts}
use Rattle.nand_geometry.specs.Optional.{is_wide}
use Rattle.nand_geometry.specs.Limits.{planes}
use Rattle.nand_geometry.specs.Row.{parts_of}
use Rattle.onfi_cycle.specs.declared.command.Command.{Command}
use Rattle.onfi_cycle.specs.declared.command.Command.TheVariants.{Read, ProgramConfirm, ProgramPlane, ReadConfirm, ReadCacheSequential, ReadCacheEnd, ReadStatus, ReadStatusEnhanced, ReadId, BlockEraseConfirm, BlockErasePlane, ChangeReadColumnConfirm, ReadParameterPage, Reset, ReadUniqueId, GetFeatures, ResetLun, SynchronousReset, ReadPlane, CopybackRead, ProgramCache, PageProgram}
use Rattle.onfi_cycle.specs.declared.lun.Lun.{Lun}
use Rattle.onfi_cycle.specs.declared.latch.Latch.{Latch}
use Rattle.onfi_cycle.specs.declared.latch.Latch.TheVariants.{Off, Status, Data}
use Rattle.onfi_cycle.specs.declared.item.Item.{Item}
use Rattle.onfi_cycle.specs.declared.item.Item.TheVariants.{Cyc, Rdy, Ard}
use Rattle.onfi_cycle.specs.declared.target_cycle.TargetCycle.{TargetCycle}
use Rattle.onfi_cycle.specs.declared.target_cycle.TargetCycle.TheVariants.{CommandCycle, AddressCycle, InputCycle, OutputCycle}
use Rattle.onfi_cycle.specs.declared.page_address.PageAddress.{PageAddress}
use Rattle.onfi_cycle.specs.declared.effect.Effect.{Effect}
use Rattle.onfi_cycle.specs.declared.effect.Effect.TheVariants.{Unaffected, DataOutputEnabled, StatusSelected, StatusRowAwaited, SelectedForStatus, Deselected, PlaneSelected, IdRead, IdentityRead, UniqueIdReadStarted, FeaturesReadStarted, FeaturesSet, ParameterPageReadStarted, CacheReadContinued, CacheReadEnded, DataOutput, ResetStarted, BecameReady, ArrayBecameReady, ReadStarted, EraseStarted, ProgramStarted, ReadColumnChanged, AnotherAddressed, StatusOfSelected, TargetResetStarted, ReadQueued, CopybackReadStarted, CacheProgramStarted, ProgramAddressed}
use Rattle.onfi_cycle.specs.declared.opening.Opening.{Opening}
use Rattle.onfi_cycle.specs.declared.tail_facts.TailFacts.{TailFacts}
use Rattle.onfi_cycle.specs.Command.{closes_row, reads_row}
use Rattle.onfi_cycle.specs.Sequence.{target_cycle, tail, facts_of, takes_features, selects_plane, wants_command, wants_address, row, row_with}

abbrev pub is_off : Latch → Bool
is_off Off = true
is_off Status = false
is_off Data = false

abbrev pub is_data : Latch → Bool
is_data Off = false
is_data Status = false
is_data Data = true

-- the block and page of a row
abbrev pub page_address : Parts → ℕ → PageAddress
page_address g row = let at = parts_of g row in record { block = at.block; page = at.page }

-- what the closer of a row does to the LUN that its tail names
abbrev pub confirm_effect : Parts → TailFacts → Command → Effect
confirm_effect g t ReadConfirm = ReadStarted (page_address g (row t)) t.column
confirm_effect g t ReadPlane = ReadQueued (page_address g (row t))
confirm_effect g t CopybackRead = CopybackReadStarted (page_address g (row t)) t.column (planes g)
confirm_effect g t ReadCacheSequential = CacheReadContinued (Some (page_address g (row t)))
confirm_effect g t BlockEraseConfirm = EraseStarted false (page_address g (row t))
confirm_effect g t BlockErasePlane = EraseStarted true (page_address g (row t))
confirm_effect g t ProgramConfirm = ProgramStarted false (page_address g (row t))
confirm_effect g t ProgramPlane = ProgramStarted true (page_address g (row t))
confirm_effect g t ProgramCache = CacheProgramStarted (page_address g (row t))
confirm_effect g t _ = Unaffected

-- a row names this LUN
abbrev pub names_lun : Parts → ℕ → ℕ → Bool
names_lun g row lun = (parts_of g row).lun == lun

-- in the wider profile: the target has several LUNs, and commands that are of all of them
abbrev pub is_shared : Parts → Bool
is_shared g = is_wide g.optional && nat_lt 1 g.luns

-- the LUN does what is to be done for its whole target: the first one does
abbrev pub acts_for_target : Parts → ℕ → Bool
acts_for_target g lun = not (is_shared g) || lun == 0

-- what is done for a whole target, at a LUN of it: the others stop driving
abbrev pub of_target : Parts → ℕ → Effect → Effect
of_target g lun a = if acts_for_target g lun then a else Deselected

-- what a Read Status does
abbrev pub status_effect : Parts → Effect
status_effect g = if is_shared g then StatusOfSelected else StatusSelected

-- what a reset does
abbrev pub reset_effect : Parts → ℕ → Effect
reset_effect g lun = if is_shared g then TargetResetStarted (lun == 0) else ResetStarted

-- what the closer of a row does to a LUN that its tail doesn't name
abbrev pub other_effect : Parts → TailFacts → Command → Effect
other_effect g t c = if closes_row c && (wants_command t c && is_shared g) then AnotherAddressed (reads_row c) else Unaffected

-- what the closer of a row does to a LUN
abbrev pub row_effect : Parts → TailFacts → Command → ℕ → Effect
row_effect g t c lun = if wants_command t c && names_lun g (row t) lun then confirm_effect g t c else other_effect g t c

-- what a 31 does that no tail wants: it is of the one driver
abbrev pub cache_effect : Latch → Effect
cache_effect latch_alone = if is_off latch_alone then Unaffected else CacheReadContinued None

-- the plane in which the page of a row lies
abbrev pub plane_of_row : Parts → ℕ → ℕ
plane_of_row g row = (page_address g row).block % planes g

-- what E0 does behind 06: the LUN of its row gives the page that it holds in the plane of the row, and the others of its target stop driving
abbrev pub plane_effect : Parts → TailFacts → ℕ → Effect
plane_effect g t lun = if names_lun g (row t) lun then PlaneSelected (plane_of_row g (row t)) (planes g) t.column else Deselected

-- and else: the one driver gives its register from another column on
abbrev pub column_effect : TailFacts → Latch → Effect
column_effect t latch_alone =
    if wants_command t ChangeReadColumnConfirm && not (is_off latch_alone) then ReadColumnChanged t.column else Unaffected

-- what a command does to a LUN; latch_alone is its latch if it is the one driver of its target, and else Off
abbrev pub command_effect : Parts → TailFacts → Latch → Command → ℕ → Effect
command_effect g t latch_alone Read lun = DataOutputEnabled
command_effect g t latch_alone ReadStatus lun = status_effect g
command_effect g t latch_alone ReadStatusEnhanced lun = StatusRowAwaited
command_effect g t latch_alone Reset lun = reset_effect g lun
command_effect g t latch_alone SynchronousReset lun = reset_effect g lun
command_effect g t latch_alone ReadCacheSequential lun = if wants_command t ReadCacheSequential then row_effect g t ReadCacheSequential lun else cache_effect latch_alone
command_effect g t latch_alone ReadCacheEnd lun = if is_off latch_alone then Unaffected else CacheReadEnded
command_effect g t latch_alone ChangeReadColumnConfirm lun = if selects_plane t then plane_effect g t lun else column_effect t latch_alone
command_effect g t latch_alone c lun = row_effect g t c lun

-- what the address of a Read ID does
abbrev pub id_effect : ℕ → Effect
id_effect byte = if byte == 0x20 then IdRead else IdentityRead (byte == 0x40)

-- what the last row cycle of a Reset LUN does
abbrev pub lun_reset_effect : Parts → (named : Bool) → Effect
lun_reset_effect g named = if named then ResetStarted else (if is_shared g then AnotherAddressed false else Unaffected)

-- what the last row cycle of 80 does
abbrev pub program_row_effect : (named : Bool) → Effect
program_row_effect named = if named then ProgramAddressed else Unaffected

-- what an address does that comes after this opener and so many others
abbrev pub address_effect : Parts → TailFacts → ℕ → Command → ℕ → ℕ → Effect
address_effect g t byte ReadStatusEnhanced n lun = if n == 2 then (if names_lun g (row_with t byte) lun then SelectedForStatus else Deselected) else Unaffected
address_effect g t byte ReadId n lun = if wants_address t byte then of_target g lun (id_effect byte) else Unaffected
address_effect g t byte ReadParameterPage n lun = if wants_address t byte then of_target g lun ParameterPageReadStarted else Unaffected
address_effect g t byte ReadUniqueId n lun = if wants_address t byte then of_target g lun UniqueIdReadStarted else Unaffected
address_effect g t byte GetFeatures n lun = if wants_address t byte then of_target g lun (FeaturesReadStarted byte) else Unaffected
address_effect g t byte ResetLun n lun = if n == 2 then lun_reset_effect g (names_lun g (row_with t byte) lun) else Unaffected
address_effect g t byte PageProgram n lun = if n == 4 then program_row_effect (names_lun g (row_with t byte) lun) else Unaffected
address_effect g t byte _ n lun = Unaffected

abbrev pub opening_address_effect : Parts → TailFacts → ℕ → Option Opening → ℕ → Effect
opening_address_effect g t byte None lun = Unaffected
opening_address_effect g t byte (Some o) lun = address_effect g t byte o.opener o.addresses lun

-- an input is the last one of a Set Features
abbrev pub ends_features : TailFacts → Bool
ends_features t = takes_features t.phase && t.inputs == 3

-- what an input does: the fourth byte of a Set Features starts it, for the feature of its one address byte, which the tail keeps as its column
abbrev pub input_effect : Parts → TailFacts → ℕ → Effect
input_effect g t lun = if ends_features t then of_target g lun (FeaturesSet (t.column % 256)) else Unaffected

-- what a cycle does to a LUN of its target, after this tail
abbrev pub cycle_effect : Parts → TailFacts → Latch → TargetCycle → ℕ → Effect
cycle_effect g t latch_alone (CommandCycle c) lun = command_effect g t latch_alone c lun
cycle_effect g t latch_alone (AddressCycle byte) lun = opening_address_effect g t byte t.opening lun
cycle_effect g t latch_alone (InputCycle byte) lun = input_effect g t lun
cycle_effect g t latch_alone OutputCycle lun = if is_data latch_alone then DataOutput else Unaffected

-- what an item does to a LUN, by the facts of its target's tail
abbrev pub item_effect : Parts → TailFacts → Latch → Item → Lun → Effect
item_effect g t latch_alone (Cyc c) l = if c.ce == l.ce then cycle_effect g t latch_alone (target_cycle c.kind c.byte) l.lun else Unaffected
item_effect g t latch_alone (Rdy ce lun fail) l = if ce == l.ce && lun == l.lun then BecameReady fail else Unaffected
item_effect g t latch_alone (Ard ce lun fail) l = if ce == l.ce && lun == l.lun then ArrayBecameReady fail else Unaffected

-- what an item does to a LUN after this past
abbrev pub effect_given : Parts → List Item → Latch → Item → Lun → Effect
effect_given g past latch_alone i l = item_effect g (facts_of (tail past l.ce)) latch_alone i l

-- the page of a read, for numbers of fixed width
abbrev pub IsSmallEffect : Effect → Type 0
IsSmallEffect (ReadStarted page column) = page.page < 2 ^ 32
IsSmallEffect (ReadQueued page) = page.page < 2 ^ 32
IsSmallEffect (CopybackReadStarted page column planes) = (page.page < 2 ^ 32) × (0 < planes)
IsSmallEffect (PlaneSelected plane planes column) = 0 < planes
IsSmallEffect (CacheReadContinued to) = IfSome to (λ page. page.page < 2 ^ 32)
IsSmallEffect _ = Unit {0}

-- the planes of a selected one, or of a LUN that reads for a copyback, are some
abbrev pub HasPlanes : Effect → Type 0
HasPlanes (PlaneSelected plane planes column) = 0 < planes
HasPlanes (CopybackReadStarted page column planes) = 0 < planes
HasPlanes _ = Unit {0}
