-- What a command or an address leaves of the LUNs of its target, all at once.
use Rattle.std.specs.Prelude.{ℕ, ◌+◌, Bool, true, false, ◌%◌, ◌==◌, ◌≤◌, ◌<◌, ◌^◌, if◌then◌else◌, List, [], ◌∷◌, Option, Some, None, map}
use Rattle.nand_geometry.specs.declared.parts.Parts.{Parts}
use Rattle.nand_geometry.specs.Limits.{planes}
use Rattle.nand_geometry.specs.Row.{parts_of}
use Rattle.onfi_cycle.specs.declared.command.Command.{Command}
use Rattle.onfi_cycle.specs.declared.command.Command.TheVariants.{Read, ReadConfirm, ReadPlane, ChangeReadColumnConfirm, BlockEraseConfirm, BlockErasePlane, ReadStatus, ReadStatusEnhanced, ProgramConfirm, ProgramPlane, ProgramCache, ReadId, ReadParameterPage, Reset, ReadCacheSequential, ReadCacheEnd, ReadUniqueId, GetFeatures, ResetLun, SynchronousReset, CopybackRead, PageProgram}
use Rattle.onfi_cycle.specs.declared.effect.Effect.{Effect}
use Rattle.onfi_cycle.specs.declared.effect.Effect.TheVariants.{DataOutputEnabled, StatusRowAwaited, SelectedForStatus, Deselected, UniqueIdReadStarted, FeaturesReadStarted, FeaturesSet, ParameterPageReadStarted, CacheReadContinued, CacheReadEnded, ResetStarted, TargetResetStarted, AnotherAddressed, ReadColumnChanged, PlaneSelected, ProgramAddressed}
use Rattle.onfi_cycle.specs.declared.opening.Opening.{Opening}
use Rattle.onfi_cycle.specs.declared.tail_facts.TailFacts.{TailFacts}
use Rattle.onfi_cycle.specs.Command.{reads_row}
use Rattle.onfi_cycle.specs.Applied.{one_after}
use Rattle.onfi_cycle.specs.Effect.{is_shared, status_effect, confirm_effect, id_effect, ends_features, is_off, plane_of_row}
use Rattle.onfi_cycle.specs.Lun.{view_after}
use Rattle.onfi_cycle.specs.LunView.{LunView}
use Rattle.onfi_cycle.specs.Sequence.{row, row_with, wants_address, wants_command, selects_plane}
use Rattle.onfi_cycle.specs.State.{has_driver}
use Rattle.target_record.specs.Record.{HasRoom}
use Rattle.target_record.specs.declared.record.OnfiseqLun.{OnfiseqLun}
use Rattle.bus_record.specs.declared.target_effect.TargetEffect.{TargetEffect}
use Rattle.bus_record.specs.declared.target_effect.TargetEffect.TheVariants.{Nothing, OnEach, OnDriver, OnOne, Selection, Apart}

-- each of these LUNs has a record
abbrev pub HaveRoom : List LunView → Type 0
HaveRoom [] = Unit {0}
HaveRoom (v ∷ vs) = HasRoom v × HaveRoom vs

-- the numbers of these LUNs have room for one more
abbrev pub AreLittle : List OnfiseqLun → Type 0
AreLittle [] = Unit {0}
AreLittle (l ∷ ls) = (l.outputs ≤ 2 ^ 16) × (l.array_page < 2 ^ 32) × AreLittle ls

-- a LUN after an effect, if it drives the bus
abbrev pub driven : Effect → LunView → LunView
driven e v = if is_off v.latch then v else view_after e v

-- the LUNs from this number on: the one of a number goes on by one effect, and the others by another
abbrev pub apart_from : (from number : ℕ) → Effect → Effect → List LunView → List LunView
apart_from from number e others [] = []
apart_from from number e others (v ∷ vs) = view_after (if from == number then e else others) v ∷ apart_from (from + 1) number e others vs

-- the LUNs after what was done to them
abbrev pub luns_left : TargetEffect → List LunView → List LunView
luns_left Nothing vs = vs
luns_left (OnEach e) vs = map (view_after e) vs
luns_left (OnDriver e) vs = if has_driver vs then map (driven e) vs else vs
luns_left (OnOne lun e) vs = one_after e lun vs
luns_left (Apart lun e others) vs = apart_from 0 lun e others vs
luns_left (Selection lun) vs = one_after SelectedForStatus lun (map (view_after Deselected) vs)

-- ---- a command

-- the work of a LUN, which is work of another for the others where they share their target
abbrev pub on_named : Parts → ℕ → Effect → (reads : Bool) → TargetEffect
on_named g lun e reads = if is_shared g then Apart lun e (AnotherAddressed reads) else OnOne lun e

-- what is done for a whole target
abbrev pub effect_of_target : Parts → Effect → TargetEffect
effect_of_target g e = if is_shared g then Apart 0 e Deselected else OnEach e

abbrev pub effect_of_reset : Parts → TargetEffect
effect_of_reset g = if is_shared g then Apart 0 (TargetResetStarted true) (TargetResetStarted false) else OnEach ResetStarted

abbrev pub effect_of_status : Parts → TargetEffect
effect_of_status g = OnEach (status_effect g)

abbrev pub effect_of_closer : Parts → TailFacts → Command → TargetEffect
effect_of_closer g t c = if wants_command t c then on_named g (parts_of g (row t)).lun (confirm_effect g t c) (reads_row c) else Nothing

-- E0 behind 06
abbrev pub effect_of_plane : Parts → TailFacts → TargetEffect
effect_of_plane g t = Apart (parts_of g (row t)).lun (PlaneSelected (plane_of_row g (row t)) (planes g) t.column) Deselected

abbrev pub effect_of_column_confirm : Parts → TailFacts → TargetEffect
effect_of_column_confirm g t =
    if selects_plane t then effect_of_plane g t
    else (if wants_command t ChangeReadColumnConfirm then OnDriver (ReadColumnChanged t.column) else Nothing)

-- a 31 works on the row of the tail where that wants it, and else on the one driver
abbrev pub effect_of_cache_read : Parts → TailFacts → TargetEffect
effect_of_cache_read g t =
    if wants_command t ReadCacheSequential then effect_of_closer g t ReadCacheSequential else OnDriver (CacheReadContinued None)

abbrev pub effect_of_command : Parts → TailFacts → Command → TargetEffect
effect_of_command g t Read = OnEach DataOutputEnabled
effect_of_command g t ReadStatus = effect_of_status g
effect_of_command g t ReadStatusEnhanced = OnEach StatusRowAwaited
effect_of_command g t Reset = effect_of_reset g
effect_of_command g t SynchronousReset = effect_of_reset g
effect_of_command g t ReadCacheSequential = effect_of_cache_read g t
effect_of_command g t ReadCacheEnd = OnDriver CacheReadEnded
effect_of_command g t ChangeReadColumnConfirm = effect_of_column_confirm g t
effect_of_command g t ReadConfirm = effect_of_closer g t ReadConfirm
effect_of_command g t ReadPlane = effect_of_closer g t ReadPlane
effect_of_command g t CopybackRead = effect_of_closer g t CopybackRead
effect_of_command g t BlockEraseConfirm = effect_of_closer g t BlockEraseConfirm
effect_of_command g t BlockErasePlane = effect_of_closer g t BlockErasePlane
effect_of_command g t ProgramConfirm = effect_of_closer g t ProgramConfirm
effect_of_command g t ProgramPlane = effect_of_closer g t ProgramPlane
effect_of_command g t ProgramCache = effect_of_closer g t ProgramCache
effect_of_command g t _ = Nothing

-- ---- an address

abbrev pub selection : Parts → TailFacts → ℕ → TargetEffect
selection g t byte = Selection (parts_of g (row_with t byte)).lun

abbrev pub reset_of_lun : Parts → TailFacts → ℕ → TargetEffect
reset_of_lun g t byte = on_named g (parts_of g (row_with t byte)).lun ResetStarted false

-- the whole row of 80
abbrev pub program_row : Parts → TailFacts → ℕ → TargetEffect
program_row g t byte = OnOne (parts_of g (row_with t byte)).lun ProgramAddressed

abbrev pub effect_of_identity : Parts → TailFacts → ℕ → Effect → TargetEffect
effect_of_identity g t byte e = if wants_address t byte then effect_of_target g e else Nothing

-- one that comes after this opener and so many others
abbrev pub effect_after_opener : Parts → TailFacts → ℕ → Command → ℕ → TargetEffect
effect_after_opener g t byte ReadStatusEnhanced n = if n == 2 then selection g t byte else Nothing
effect_after_opener g t byte ResetLun n = if n == 2 then reset_of_lun g t byte else Nothing
effect_after_opener g t byte ReadId n = effect_of_identity g t byte (id_effect byte)
effect_after_opener g t byte ReadParameterPage n = effect_of_identity g t byte ParameterPageReadStarted
effect_after_opener g t byte ReadUniqueId n = effect_of_identity g t byte UniqueIdReadStarted
effect_after_opener g t byte GetFeatures n = effect_of_identity g t byte (FeaturesReadStarted byte)
effect_after_opener g t byte PageProgram n = if n == 4 then program_row g t byte else Nothing
effect_after_opener g t byte _ n = Nothing

abbrev pub effect_after_opening : Parts → TailFacts → ℕ → Option Opening → TargetEffect
effect_after_opening g t byte None = Nothing
effect_after_opening g t byte (Some o) = effect_after_opener g t byte o.opener o.addresses

abbrev pub effect_of_address : Parts → TailFacts → ℕ → TargetEffect
effect_of_address g t byte = effect_after_opening g t byte t.opening

-- ---- an input

abbrev pub effect_of_input : Parts → TailFacts → TargetEffect
effect_of_input g t = if ends_features t then effect_of_target g (FeaturesSet (t.column % 256)) else Nothing
