-- What each effect means, in the words of the trace.
use Rattle.std.proofs.Common.{◌≡◌, ℕ, zero, suc, ◌+◌, ◌==◌, Bool, true, false, ◌&&◌, cond, not, List, [], ◌∷◌, Option, Some, None, refl, sym, ap, ◌∙◌, subst, eqb-true, ◌%◌}
use Rattle.std.proofs.lemmas.Bool.{not-false, not-true, and_parts as both}
use Rattle.onfi_cycle.proofs.Booleans.{and_rest}
use Rattle.nand_geometry.specs.declared.parts.Parts.{Parts}
use Rattle.nand_geometry.specs.Limits.{planes}
use Rattle.onfi_cycle.specs.declared.command.Command.{Command}
use Rattle.onfi_cycle.specs.declared.command.Command.TheVariants.{Read, ReadConfirm, ChangeReadColumnConfirm, BlockEraseConfirm, BlockErasePlane, ReadStatus, ReadStatusEnhanced, ProgramConfirm, ProgramPlane, ReadId, ReadParameterPage, Reset, ReadCacheSequential, ReadCacheEnd, ReadUniqueId, GetFeatures, SetFeatures, ResetLun, SynchronousReset, ReadPlane, CopybackRead, PageProgram, ProgramCache}
use Rattle.onfi_cycle.specs.Command.{command, closes_row, reads_row, is_page_program}
use Rattle.onfi_cycle.specs.declared.lun.Lun.{Lun}
use Rattle.onfi_cycle.specs.declared.latch.Latch.{Latch}
use Rattle.onfi_cycle.specs.declared.latch.Latch.TheVariants.{Off}
use Rattle.onfi_cycle.specs.declared.item.Kind.{Kind}
use Rattle.onfi_cycle.specs.declared.item.Kind.TheVariants.{Cmd, Adr, Din, Dout}
use Rattle.onfi_cycle.specs.declared.register.Register.TheVariants.{Identifier, Identity, JedecIdentity}
use Rattle.onfi_cycle.specs.declared.item.Item.{Item}
use Rattle.onfi_cycle.specs.declared.item.Item.TheVariants.{Cyc, Rdy, Ard}
use Rattle.onfi_cycle.specs.declared.opening.Opening.{Opening}
use Rattle.onfi_cycle.specs.declared.target_cycle.TargetCycle.{TargetCycle}
use Rattle.onfi_cycle.specs.declared.target_cycle.TargetCycle.TheVariants.{CommandCycle, AddressCycle, InputCycle, OutputCycle}
use Rattle.onfi_cycle.specs.declared.effect.Effect.{Effect}
use Rattle.onfi_cycle.specs.declared.effect.Effect.TheVariants.{Unaffected, AnotherAddressed, StatusOfSelected, TargetResetStarted, StatusSelected, StatusRowAwaited, SelectedForStatus, Deselected, IdRead, IdentityRead, UniqueIdReadStarted, FeaturesReadStarted, FeaturesSet, ParameterPageReadStarted, CacheReadContinued, CacheReadEnded, DataOutput, ResetStarted, BecameReady, ArrayBecameReady, ReadStarted, EraseStarted, ProgramStarted, ReadColumnChanged, PlaneSelected, ReadQueued, CopybackReadStarted, ProgramAddressed, CacheProgramStarted}
use Rattle.onfi_cycle.specs.declared.tail_facts.TailFacts.{TailFacts}
use Rattle.onfi_cycle.specs.Sequence.{target_cycle, row, row_with, wants_command, wants_address, selects_plane}
use Rattle.onfi_cycle.specs.Effect.{is_off, is_data, is_shared, acts_for_target, other_effect, row_effect, cache_effect, page_address, names_lun, command_effect, address_effect, opening_address_effect, program_row_effect, cycle_effect, ends_features, plane_effect, column_effect, plane_of_row}
use Rattle.onfi_cycle.specs.Lun.{latch, latch_alone, drivers_from, is_only, effect_on, effect_among}
use Rattle.onfi_cycle.specs.Decides.{tail_of, drives_alone, byte_of, id_register, row_closer, address_closer, closing_address, closing_cycle, closing, readies, readies_array, is_cycle_of, is_output, is_status_command, is_column_confirm, changes_column, outputs_data, confirms_column, selects_here, clears_here, clears_by_cycle, clears_by_opening}

-- the closer that an effect comes of
abbrev pub closer_of : Effect → Option Command
closer_of (ReadStarted page column) = Some ReadConfirm
closer_of (ReadQueued page) = Some ReadPlane
closer_of (CopybackReadStarted page column count) = Some CopybackRead
closer_of (EraseStarted queued row) = cond queued (Some BlockErasePlane) (Some BlockEraseConfirm)
closer_of (ProgramStarted queued page) = cond queued (Some ProgramPlane) (Some ProgramConfirm)
closer_of (CacheProgramStarted page) = Some ProgramCache
closer_of IdRead = Some ReadId
closer_of (IdentityRead jedec) = Some ReadId
closer_of ParameterPageReadStarted = Some ReadParameterPage
closer_of UniqueIdReadStarted = Some ReadUniqueId
closer_of (FeaturesReadStarted address) = Some GetFeatures
closer_of (FeaturesSet feature) = Some SetFeatures
closer_of (CacheReadContinued to) = Some ReadCacheSequential
closer_of CacheReadEnded = Some ReadCacheEnd
closer_of ResetStarted = Some Reset
closer_of (TargetResetStarted first) = Some Reset
closer_of _ = None

abbrev pub is_ready : Effect → Bool
is_ready (BecameReady failed) = true
is_ready _ = false

abbrev pub is_array_ready : Effect → Bool
is_array_ready (ArrayBecameReady fail) = true
is_array_ready _ = false

abbrev pub is_column_change : Effect → Bool
is_column_change (PlaneSelected plane count column) = true
is_column_change (ReadColumnChanged column) = true
is_column_change _ = false

abbrev pub is_plane_selected : Effect → Bool
is_plane_selected (PlaneSelected plane count column) = true
is_plane_selected _ = false

abbrev pub is_program_addressed : Effect → Bool
is_program_addressed ProgramAddressed = true
is_program_addressed _ = false

abbrev pub is_data_output : Effect → Bool
is_data_output DataOutput = true
is_data_output _ = false

abbrev pub is_status : Effect → Bool
is_status StatusSelected = true
is_status StatusRowAwaited = true
is_status StatusOfSelected = true
is_status _ = false

-- the row and the column that an effect carries are those of the tail, and what it reads beside the array is what the byte asks for
abbrev pub Carries : Parts → TailFacts → ℕ → Effect → Type 0
Carries g t byte (ReadStarted page column) = (page ≡ page_address g (row t)) × (column ≡ t.column)
Carries g t byte (EraseStarted queued at) = at ≡ page_address g (row t)
Carries g t byte (ProgramStarted queued page) = page ≡ page_address g (row t)
Carries g t byte (CacheProgramStarted page) = page ≡ page_address g (row t)
Carries g t byte (ReadColumnChanged column) = column ≡ t.column
Carries g t byte (PlaneSelected plane count column) = (plane ≡ plane_of_row g (row t)) × (count ≡ planes g) × (column ≡ t.column)
Carries g t byte (ReadQueued page) = page ≡ page_address g (row t)
Carries g t byte (CopybackReadStarted page column count) = (page ≡ page_address g (row t)) × (column ≡ t.column) × (count ≡ planes g)
Carries g t byte IdRead = id_register byte ≡ Identifier
Carries g t byte (IdentityRead jedec) = id_register byte ≡ cond jedec JedecIdentity Identity
Carries g t byte (FeaturesReadStarted address) = address ≡ byte
Carries g t byte (CacheReadContinued to) = to ≡ cond (wants_command t ReadCacheSequential) (Some (page_address g (row t))) None
Carries g t byte _ = Unit {0}

-- what an item is to a LUN, said by its effect
pub record Means (g : Parts) (past : List Item) (i : Item) (l : Lun) (e : Effect) : Type 0 where
  pub closes : closing g l past i ≡ closer_of e
  pub ready : readies l i ≡ is_ready e
  pub array_ready : readies_array l i ≡ is_array_ready e
  pub changes : changes_column g l past i ≡ is_column_change e
  pub selects : selects_here g l past i ≡ is_plane_selected e
  pub clears : clears_here g l past i ≡ is_program_addressed e
  pub outputs : outputs_data g l past i ≡ is_data_output e
  pub status : is_cycle_of is_status_command l i ≡ is_status e
  pub carries : Carries g (tail_of past l) (byte_of i) e

-- a driver is on
pub driver_on : (latches : ℕ → Latch) (count n m : ℕ) → is_only (drivers_from latches count n) m ≡ true → is_off (latches m) ≡ false
driver_on latches zero n m h = cc
driver_on latches (suc count) n m h = at (is_off (latches n)) refl (driver_on latches count (n + 1) m) h
  where
    at : (b : Bool) → is_off (latches n) ≡ b → (is_only (drivers_from latches count (n + 1)) m ≡ true → is_off (latches m) ≡ false) → is_only (cond b (drivers_from latches count (n + 1)) (n ∷ drivers_from latches count (n + 1))) m ≡ true → is_off (latches m) ≡ false
    at true e ih h = ih h
    at false e ih h = subst (λ (k : ℕ). is_off (latches k) ≡ false) (one_alone n (drivers_from latches count (n + 1)) h) e
      where
        one_alone : (x : ℕ) (ds : List ℕ) → is_only (x ∷ ds) m ≡ true → x ≡ m
        one_alone x [] h = eqb-true x m h
        one_alone x (d ∷ ds) h = cc

-- the latch of a LUN alone is off exactly where the LUN isn't the one driver
pub alone_off : (g : Parts) (past : List Item) (l : Lun) → is_off (latch_alone g past l) ≡ not (drives_alone g past l)
alone_off g past l = at (drives_alone g past l) (driver_on (λ m. latch g past (record { ce = l.ce; lun = m })) g.luns 0 l.lun)
  where
    at : (b : Bool) → (b ≡ true → is_off (latch g past l) ≡ false) → is_off (cond b (latch g past l) Off) ≡ not b
    at true on = on refl
    at false on = refl

pub alone_data : (g : Parts) (past : List Item) (l : Lun) → is_data (latch_alone g past l) ≡ (drives_alone g past l && is_data (latch g past l))
alone_data g past l = at (drives_alone g past l)
  where
    at : (b : Bool) → is_data (cond b (latch g past l) Off) ≡ (b && is_data (latch g past l))
    at true = refl
    at false = refl

-- what a cycle of its target is to a LUN
record MeansCycle (g : Parts) (past : List Item) (l : Lun) (byte : ℕ) (cycle : TargetCycle) (e : Effect) : Type 0 where
  closes : closing_cycle g past l cycle ≡ closer_of e
  changes : (is_column_confirm cycle && confirms_column (tail_of past l) (names_lun g (row (tail_of past l)) l.lun) (drives_alone g past l)) ≡ is_column_change e
  selects : (is_column_confirm cycle && (selects_plane (tail_of past l) && names_lun g (row (tail_of past l)) l.lun)) ≡ is_plane_selected e
  clears : clears_by_cycle g l (tail_of past l) cycle ≡ is_program_addressed e
  outputs : (is_output cycle && (drives_alone g past l && is_data (latch g past l))) ≡ is_data_output e
  status : is_status_command cycle ≡ is_status e
  no_ready : is_ready e ≡ false
  no_array_ready : is_array_ready e ≡ false
  carries : Carries g (tail_of past l) byte e

-- of a choice of two effects
either_means : (g : Parts) (past : List Item) (l : Lun) (byte : ℕ) (cycle : TargetCycle) (b : Bool) (x y : Effect) → (b ≡ true → MeansCycle g past l byte cycle x) → (b ≡ false → MeansCycle g past l byte cycle y) → MeansCycle g past l byte cycle (cond b x y)
either_means g past l byte cycle true x y hx hy = hx refl
either_means g past l byte cycle false x y hx hy = hy refl

-- a cache read, which works on the one driver
cache_means : (g : Parts) (past : List Item) (l : Lun) (byte : ℕ) (c : Command) (e : Effect) → is_off (latch_alone g past l) ≡ not (drives_alone g past l) → (drives_alone g past l ≡ false → MeansCycle g past l byte (CommandCycle c) Unaffected) → (drives_alone g past l ≡ true → MeansCycle g past l byte (CommandCycle c) e) → MeansCycle g past l byte (CommandCycle c) (cond (is_off (latch_alone g past l)) Unaffected e)
cache_means g past l byte c e off none one =
    either_means g past l byte (CommandCycle c) (is_off (latch_alone g past l)) Unaffected e (λ h. none (not-true (drives_alone g past l) (sym off ∙ h))) (λ h. one (not-false (drives_alone g past l) (sym off ∙ h)))

-- a command that neither closes a row nor is another effect
nothing_means : (g : Parts) (past : List Item) (l : Lun) (byte : ℕ) (cycle : TargetCycle) → clears_by_cycle g l (tail_of past l) cycle ≡ false → closing_cycle g past l cycle ≡ None → is_column_confirm cycle ≡ false → is_output cycle ≡ false → is_status_command cycle ≡ false → MeansCycle g past l byte cycle Unaffected
nothing_means g past l byte cycle clear none change output status =
    record { closes = none; changes = rw change refl; selects = rw change refl; clears = clear; outputs = rw output refl; status = status; no_ready = refl; no_array_ready = refl; carries = tt }

-- the closer of a row of another LUN
other_means : (g : Parts) (past : List Item) (l : Lun) (byte : ℕ) (c : Command) → closing_cycle g past l (CommandCycle c) ≡ None → is_column_confirm (CommandCycle c) ≡ false → is_status_command (CommandCycle c) ≡ false → MeansCycle g past l byte (CommandCycle c) (other_effect g (tail_of past l) c)
other_means g past l byte c none change status =
    either_means g past l byte (CommandCycle c) (closes_row c && (wants_command (tail_of past l) c && is_shared g)) (AnotherAddressed (reads_row c)) Unaffected
    (λ h. record { closes = none; changes = rw change refl; selects = rw change refl; clears = refl; outputs = refl; status = status; no_ready = refl; no_array_ready = refl; carries = tt })
    (λ h. nothing_means g past l byte (CommandCycle c) refl none change refl status)

command_means : (g : Parts) (past : List Item) (l : Lun) (byte : ℕ) (c : Command) → MeansCycle g past l byte (CommandCycle c) (command_effect g (tail_of past l) (latch_alone g past l) c l.lun)
command_means g past l byte Read = record { closes = refl; changes = refl; selects = refl; clears = refl; outputs = refl; status = refl; no_ready = refl; no_array_ready = refl; carries = tt }
command_means g past l byte ReadStatus =
    either_means g past l byte (CommandCycle ReadStatus) (is_shared g) StatusOfSelected StatusSelected
    (λ h. record { closes = refl; changes = refl; selects = refl; clears = refl; outputs = refl; status = refl; no_ready = refl; no_array_ready = refl; carries = tt })
    (λ h. record { closes = refl; changes = refl; selects = refl; clears = refl; outputs = refl; status = refl; no_ready = refl; no_array_ready = refl; carries = tt })
command_means g past l byte ReadStatusEnhanced = record { closes = refl; changes = refl; selects = refl; clears = refl; outputs = refl; status = refl; no_ready = refl; no_array_ready = refl; carries = tt }
command_means g past l byte Reset =
    either_means g past l byte (CommandCycle Reset) (is_shared g) (TargetResetStarted (l.lun == 0)) ResetStarted
    (λ h. record { closes = refl; changes = refl; selects = refl; clears = refl; outputs = refl; status = refl; no_ready = refl; no_array_ready = refl; carries = tt })
    (λ h. record { closes = refl; changes = refl; selects = refl; clears = refl; outputs = refl; status = refl; no_ready = refl; no_array_ready = refl; carries = tt })
command_means g past l byte SynchronousReset =
    either_means g past l byte (CommandCycle SynchronousReset) (is_shared g) (TargetResetStarted (l.lun == 0)) ResetStarted
    (λ h. record { closes = refl; changes = refl; selects = refl; clears = refl; outputs = refl; status = refl; no_ready = refl; no_array_ready = refl; carries = tt })
    (λ h. record { closes = refl; changes = refl; selects = refl; clears = refl; outputs = refl; status = refl; no_ready = refl; no_array_ready = refl; carries = tt })
command_means g past l byte ReadCacheSequential =
    either_means g past l byte (CommandCycle ReadCacheSequential) (wants_command (tail_of past l) ReadCacheSequential) (row_effect g (tail_of past l) ReadCacheSequential l.lun) (cache_effect (latch_alone g past l))
    (λ w. either_means g past l byte (CommandCycle ReadCacheSequential) (wants_command (tail_of past l) ReadCacheSequential && names_lun g (row (tail_of past l)) l.lun) _ _
    (λ h. let named = (both (wants_command (tail_of past l) ReadCacheSequential) _ h).1 in record { closes = rw (w, named) refl; changes = refl; selects = refl; clears = refl; outputs = refl; status = refl; no_ready = refl; no_array_ready = refl; carries = rw w refl })
    (λ h. let unnamed = and_rest (wants_command (tail_of past l) ReadCacheSequential) _ w h in other_means g past l byte ReadCacheSequential (rw (w, unnamed) refl) refl refl))
    (λ w. cache_means g past l byte ReadCacheSequential (CacheReadContinued None) (alone_off g past l)
    (λ h. nothing_means g past l byte (CommandCycle ReadCacheSequential) refl (rw (w, h) refl) refl refl refl)
    (λ h. record { closes = rw (w, h) refl; changes = refl; selects = refl; clears = refl; outputs = refl; status = refl; no_ready = refl; no_array_ready = refl; carries = rw w refl }))
command_means g past l byte ReadCacheEnd =
    cache_means g past l byte ReadCacheEnd CacheReadEnded (alone_off g past l)
    (λ h. nothing_means g past l byte (CommandCycle ReadCacheEnd) refl (rw h refl) refl refl refl)
    (λ h. record { closes = rw h refl; changes = refl; selects = refl; clears = refl; outputs = refl; status = refl; no_ready = refl; no_array_ready = refl; carries = tt })
command_means g past l byte ChangeReadColumnConfirm =
    either_means g past l byte (CommandCycle ChangeReadColumnConfirm) (selects_plane (tail_of past l)) (plane_effect g (tail_of past l) l.lun) (column_effect (tail_of past l) (latch_alone g past l))
    (λ s. either_means g past l byte (CommandCycle ChangeReadColumnConfirm) (names_lun g (row (tail_of past l)) l.lun) (PlaneSelected (plane_of_row g (row (tail_of past l))) (planes g) (tail_of past l).column) Deselected
    (λ h. record { closes = closes; changes = rw (s, h) refl; selects = rw (s, h) refl; clears = refl; outputs = refl; status = refl; no_ready = refl; no_array_ready = refl; carries = (refl, refl, refl) })
    (λ h. record { closes = closes; changes = rw (s, h) refl; selects = rw (s, h) refl; clears = refl; outputs = refl; status = refl; no_ready = refl; no_array_ready = refl; carries = tt }))
    (λ s. either_means g past l byte (CommandCycle ChangeReadColumnConfirm) (wants_command (tail_of past l) ChangeReadColumnConfirm && not (is_off (latch_alone g past l))) (ReadColumnChanged (tail_of past l).column) Unaffected
    (λ h. record { closes = closes; changes = unselected s ∙ (same ∙ h); selects = rw s refl; clears = refl; outputs = refl; status = refl; no_ready = refl; no_array_ready = refl; carries = refl })
    (λ h. record { closes = closes; changes = unselected s ∙ (same ∙ h); selects = rw s refl; clears = refl; outputs = refl; status = refl; no_ready = refl; no_array_ready = refl; carries = tt }))
  where
    at : (b : Bool) → row_closer b ChangeReadColumnConfirm ≡ None
    at b = refl

    closes : row_closer (wants_command (tail_of past l) ChangeReadColumnConfirm && names_lun g (row (tail_of past l)) l.lun) ChangeReadColumnConfirm ≡ None
    closes = at (wants_command (tail_of past l) ChangeReadColumnConfirm && names_lun g (row (tail_of past l)) l.lun)

    not_not : (b : Bool) → b ≡ not (not b)
    not_not true = refl
    not_not false = refl

    unselected : selects_plane (tail_of past l) ≡ false → confirms_column (tail_of past l) (names_lun g (row (tail_of past l)) l.lun) (drives_alone g past l) ≡ (wants_command (tail_of past l) ChangeReadColumnConfirm && drives_alone g past l)
    unselected s = rw s refl

    same : (wants_command (tail_of past l) ChangeReadColumnConfirm && drives_alone g past l) ≡ (wants_command (tail_of past l) ChangeReadColumnConfirm && not (is_off (latch_alone g past l)))
    same = ap (λ b. wants_command (tail_of past l) ChangeReadColumnConfirm && b) (not_not (drives_alone g past l) ∙ ap not (sym (alone_off g past l)))
command_means g past l byte ReadConfirm =
    either_means g past l byte (CommandCycle ReadConfirm) (wants_command (tail_of past l) ReadConfirm && names_lun g (row (tail_of past l)) l.lun) _ _
    (λ h. record { closes = rw h refl; changes = refl; selects = refl; clears = refl; outputs = refl; status = refl; no_ready = refl; no_array_ready = refl; carries = (refl, refl) })
    (λ h. other_means g past l byte ReadConfirm (rw h refl) refl refl)
command_means g past l byte ReadPlane =
    either_means g past l byte (CommandCycle ReadPlane) (wants_command (tail_of past l) ReadPlane && names_lun g (row (tail_of past l)) l.lun) _ _
    (λ h. record { closes = rw h refl; changes = refl; selects = refl; clears = refl; outputs = refl; status = refl; no_ready = refl; no_array_ready = refl; carries = refl })
    (λ h. other_means g past l byte ReadPlane (rw h refl) refl refl)
command_means g past l byte CopybackRead =
    either_means g past l byte (CommandCycle CopybackRead) (wants_command (tail_of past l) CopybackRead && names_lun g (row (tail_of past l)) l.lun) _ _
    (λ h. record { closes = rw h refl; changes = refl; selects = refl; clears = refl; outputs = refl; status = refl; no_ready = refl; no_array_ready = refl; carries = (refl, refl, refl) })
    (λ h. other_means g past l byte CopybackRead (rw h refl) refl refl)
command_means g past l byte BlockEraseConfirm =
    either_means g past l byte (CommandCycle BlockEraseConfirm) (wants_command (tail_of past l) BlockEraseConfirm && names_lun g (row (tail_of past l)) l.lun) _ _
    (λ h. record { closes = rw h refl; changes = refl; selects = refl; clears = refl; outputs = refl; status = refl; no_ready = refl; no_array_ready = refl; carries = refl })
    (λ h. other_means g past l byte BlockEraseConfirm (rw h refl) refl refl)
command_means g past l byte BlockErasePlane =
    either_means g past l byte (CommandCycle BlockErasePlane) (wants_command (tail_of past l) BlockErasePlane && names_lun g (row (tail_of past l)) l.lun) _ _
    (λ h. record { closes = rw h refl; changes = refl; selects = refl; clears = refl; outputs = refl; status = refl; no_ready = refl; no_array_ready = refl; carries = refl })
    (λ h. other_means g past l byte BlockErasePlane (rw h refl) refl refl)
command_means g past l byte ProgramConfirm =
    either_means g past l byte (CommandCycle ProgramConfirm) (wants_command (tail_of past l) ProgramConfirm && names_lun g (row (tail_of past l)) l.lun) _ _
    (λ h. record { closes = rw h refl; changes = refl; selects = refl; clears = refl; outputs = refl; status = refl; no_ready = refl; no_array_ready = refl; carries = refl })
    (λ h. other_means g past l byte ProgramConfirm (rw h refl) refl refl)
command_means g past l byte ProgramPlane =
    either_means g past l byte (CommandCycle ProgramPlane) (wants_command (tail_of past l) ProgramPlane && names_lun g (row (tail_of past l)) l.lun) _ _
    (λ h. record { closes = rw h refl; changes = refl; selects = refl; clears = refl; outputs = refl; status = refl; no_ready = refl; no_array_ready = refl; carries = refl })
    (λ h. other_means g past l byte ProgramPlane (rw h refl) refl refl)
command_means g past l byte ProgramCache =
    either_means g past l byte (CommandCycle ProgramCache) (wants_command (tail_of past l) ProgramCache && names_lun g (row (tail_of past l)) l.lun) _ _
    (λ h. record { closes = rw h refl; changes = refl; selects = refl; clears = refl; outputs = refl; status = refl; no_ready = refl; no_array_ready = refl; carries = refl })
    (λ h. other_means g past l byte ProgramCache (rw h refl) refl refl)
command_means g past l byte c =
    either_means g past l byte (CommandCycle c) (wants_command (tail_of past l) c && names_lun g (row (tail_of past l)) l.lun) Unaffected Unaffected
    (λ h. nothing_means g past l byte (CommandCycle c) refl refl refl refl refl)
    (λ h. nothing_means g past l byte (CommandCycle c) refl refl refl refl refl)

-- an address closes what its opener is, and is nothing else that counts
address_nothing : (g : Parts) (past : List Item) (l : Lun) (byte : ℕ) (e : Effect) → clears_by_cycle g l (tail_of past l) (AddressCycle byte) ≡ is_program_addressed e → closing_cycle g past l (AddressCycle byte) ≡ closer_of e → is_column_change e ≡ false → is_plane_selected e ≡ false → is_data_output e ≡ false → is_status e ≡ false → is_ready e ≡ false → is_array_ready e ≡ false → Carries g (tail_of past l) byte e → MeansCycle g past l byte (AddressCycle byte) e
address_nothing g past l byte e clear closes change select output status ready array carries =
    record { closes = closes; changes = sym change; selects = sym select; clears = clear; outputs = sym output; status = sym status; no_ready = ready; no_array_ready = array; carries = carries }

-- w: the address is wanted; a: the LUN acts for its target
identity_means : (g : Parts) (past : List Item) (l : Lun) (byte : ℕ) (w a : Bool) (c : Command) (e : Effect) → clears_by_cycle g l (tail_of past l) (AddressCycle byte) ≡ false → is_program_addressed e ≡ false → closing_cycle g past l (AddressCycle byte) ≡ cond (w && a) (Some c) None → closer_of e ≡ Some c → is_column_change e ≡ false → is_plane_selected e ≡ false → is_data_output e ≡ false → is_status e ≡ false → is_ready e ≡ false → is_array_ready e ≡ false → Carries g (tail_of past l) byte e → MeansCycle g past l byte (AddressCycle byte) (cond w (cond a e Deselected) Unaffected)
identity_means g past l byte true true c e clear rests closes of change select output status ready array carries = address_nothing g past l byte e (clear ∙ sym rests) (closes ∙ sym of) change select output status ready array carries
identity_means g past l byte true false c e clear rests closes of change select output status ready array carries = address_nothing g past l byte Deselected clear closes refl refl refl refl refl refl tt
identity_means g past l byte false a c e clear rests closes of change select output status ready array carries = address_nothing g past l byte Unaffected clear closes refl refl refl refl refl refl tt

address_means : (g : Parts) (past : List Item) (l : Lun) (byte : ℕ) (x : Option Opening) → (tail_of past l).opening ≡ x → MeansCycle g past l byte (AddressCycle byte) (opening_address_effect g (tail_of past l) byte x l.lun)
address_means g past l byte None h = address_nothing g past l byte Unaffected (ap (clears_by_opening g l (tail_of past l) byte) h) (ap (closing_address g l (tail_of past l) byte) h) refl refl refl refl refl refl tt
address_means g past l byte (Some o) h = at o.opener o.addresses (ap (clears_by_opening g l (tail_of past l) byte) h) (ap (closing_address g l (tail_of past l) byte) h)
  where
    w : Bool
    w = wants_address (tail_of past l) byte

    a : Bool
    a = acts_for_target g l.lun

    id_means : (b : Bool) → (byte == 0x20) ≡ b → clears_by_cycle g l (tail_of past l) (AddressCycle byte) ≡ false → closing_cycle g past l (AddressCycle byte) ≡ cond (w && a) (Some ReadId) None → MeansCycle g past l byte (AddressCycle byte) (cond w (cond a (cond b IdRead (IdentityRead (byte == 0x40))) Deselected) Unaffected)
    id_means true e k h = identity_means g past l byte w a ReadId IdRead k refl h refl refl refl refl refl refl refl (rw e refl)
    id_means false e k h = identity_means g past l byte w a ReadId (IdentityRead (byte == 0x40)) k refl h refl refl refl refl refl refl refl (rw e refl)

    reset_means : (b named shared : Bool) → clears_by_cycle g l (tail_of past l) (AddressCycle byte) ≡ false → closing_cycle g past l (AddressCycle byte) ≡ cond (b && named) (Some Reset) None → MeansCycle g past l byte (AddressCycle byte) (cond b (cond named ResetStarted (cond shared (AnotherAddressed false) Unaffected)) Unaffected)
    reset_means true true shared k h = address_nothing g past l byte ResetStarted k h refl refl refl refl refl refl tt
    reset_means true false true k h = address_nothing g past l byte (AnotherAddressed false) k h refl refl refl refl refl refl tt
    reset_means true false false k h = address_nothing g past l byte Unaffected k h refl refl refl refl refl refl tt
    reset_means false named shared k h = address_nothing g past l byte Unaffected k h refl refl refl refl refl refl tt

    program_means : (b named : Bool) → clears_by_cycle g l (tail_of past l) (AddressCycle byte) ≡ (b && named) → closing_cycle g past l (AddressCycle byte) ≡ None → MeansCycle g past l byte (AddressCycle byte) (cond b (program_row_effect named) Unaffected)
    program_means true true z h = address_nothing g past l byte ProgramAddressed z h refl refl refl refl refl refl tt
    program_means true false z h = address_nothing g past l byte Unaffected z h refl refl refl refl refl refl tt
    program_means false named z h = address_nothing g past l byte Unaffected z h refl refl refl refl refl refl tt

    at : (c : Command) (n : ℕ) → clears_by_cycle g l (tail_of past l) (AddressCycle byte) ≡ (is_page_program c && (n == 4 && names_lun g (row_with (tail_of past l) byte) l.lun)) → closing_cycle g past l (AddressCycle byte) ≡ address_closer (w && a) (names_lun g (row_with (tail_of past l) byte) l.lun) c n → MeansCycle g past l byte (AddressCycle byte) (address_effect g (tail_of past l) byte c n l.lun)
    at ReadStatusEnhanced n z h =
        either_means g past l byte (AddressCycle byte) (n == 2) _ Unaffected
        (λ k. either_means g past l byte (AddressCycle byte) (names_lun g (row_with (tail_of past l) byte) l.lun) SelectedForStatus Deselected (λ m. address_nothing g past l byte SelectedForStatus z h refl refl refl refl refl refl tt) (λ m. address_nothing g past l byte Deselected z h refl refl refl refl refl refl tt))
        (λ k. address_nothing g past l byte Unaffected z h refl refl refl refl refl refl tt)
    at ReadId n z h = id_means (byte == 0x20) refl z h
    at ReadParameterPage n z h = identity_means g past l byte w a ReadParameterPage ParameterPageReadStarted z refl h refl refl refl refl refl refl refl tt
    at ReadUniqueId n z h = identity_means g past l byte w a ReadUniqueId UniqueIdReadStarted z refl h refl refl refl refl refl refl refl tt
    at GetFeatures n z h = identity_means g past l byte w a GetFeatures (FeaturesReadStarted byte) z refl h refl refl refl refl refl refl refl refl
    at ResetLun n z h = reset_means (n == 2) (names_lun g (row_with (tail_of past l) byte) l.lun) (is_shared g) z h
    at PageProgram n z h = program_means (n == 4) (names_lun g (row_with (tail_of past l) byte) l.lun) z h
    at _ n z h = address_nothing g past l byte Unaffected z h refl refl refl refl refl refl tt

cycle_means : (g : Parts) (past : List Item) (l : Lun) (kind : Kind) (byte : ℕ) → MeansCycle g past l byte (target_cycle kind byte) (cycle_effect g (tail_of past l) (latch_alone g past l) (target_cycle kind byte) l.lun)
cycle_means g past l Cmd byte = command_means g past l byte (command byte)
cycle_means g past l Adr byte = address_means g past l byte (tail_of past l).opening refl
cycle_means g past l Din byte = at (ends_features (tail_of past l)) refl (acts_for_target g l.lun) refl
  where
    at : (b : Bool) → ends_features (tail_of past l) ≡ b → (a : Bool) → acts_for_target g l.lun ≡ a → MeansCycle g past l byte (InputCycle byte) (cond b (cond a (FeaturesSet ((tail_of past l).column % 256)) Deselected) Unaffected)
    at true h true k = record { closes = rw (h, k) refl; changes = refl; selects = refl; clears = refl; outputs = refl; status = refl; no_ready = refl; no_array_ready = refl; carries = tt }
    at true h false k = record { closes = rw (h, k) refl; changes = refl; selects = refl; clears = refl; outputs = refl; status = refl; no_ready = refl; no_array_ready = refl; carries = tt }
    at false h a k = nothing_means g past l byte (InputCycle byte) refl (rw h refl) refl refl refl
cycle_means g past l Dout byte =
    either_means g past l byte OutputCycle (is_data (latch_alone g past l)) DataOutput Unaffected
    (λ h. record { closes = refl; changes = refl; selects = refl; clears = refl; outputs = sym (alone_data g past l) ∙ h; status = refl; no_ready = refl; no_array_ready = refl; carries = tt })
    (λ h. record { closes = refl; changes = refl; selects = refl; clears = refl; outputs = sym (alone_data g past l) ∙ h; status = refl; no_ready = refl; no_array_ready = refl; carries = tt })

-- the effect of an item says what the item is to the LUN
pub means : (g : Parts) (past : List Item) (i : Item) (l : Lun) → Means g past i l (effect_on g past i l)
unfolding effect_among
means g past (Cyc c) l = at (c.ce == l.ce) refl (cycle_means g past l c.kind c.byte)
  where
    at : (b : Bool) → (c.ce == l.ce) ≡ b → MeansCycle g past l c.byte (target_cycle c.kind c.byte) (cycle_effect g (tail_of past l) (latch_alone g past l) (target_cycle c.kind c.byte) l.lun) → Means g past (Cyc c) l (cond b (cycle_effect g (tail_of past l) (latch_alone g past l) (target_cycle c.kind c.byte) l.lun) Unaffected)
    at true h m = record { closes = rw h m.closes; ready = sym m.no_ready; array_ready = sym m.no_array_ready; changes = rw h m.changes; selects = rw h m.selects; clears = rw h m.clears; outputs = rw h m.outputs; status = rw h m.status; carries = m.carries }
    at false h m = record { closes = rw h refl; ready = refl; array_ready = refl; changes = rw h refl; selects = rw h refl; clears = rw h refl; outputs = rw h refl; status = rw h refl; carries = tt }
means g past (Rdy ce lun fail) l = at (ce == l.ce && lun == l.lun) refl
  where
    at : (b : Bool) → (ce == l.ce && lun == l.lun) ≡ b → Means g past (Rdy ce lun fail) l (cond b (BecameReady fail) Unaffected)
    at true h = record { closes = refl; ready = h; array_ready = refl; changes = refl; selects = refl; clears = refl; outputs = refl; status = refl; carries = tt }
    at false h = record { closes = refl; ready = h; array_ready = refl; changes = refl; selects = refl; clears = refl; outputs = refl; status = refl; carries = tt }
means g past (Ard ce lun fail) l = at (ce == l.ce && lun == l.lun) refl
  where
    at : (b : Bool) → (ce == l.ce && lun == l.lun) ≡ b → Means g past (Ard ce lun fail) l (cond b (ArrayBecameReady fail) Unaffected)
    at true h = record { closes = refl; ready = refl; array_ready = h; changes = refl; selects = refl; clears = refl; outputs = refl; status = refl; carries = tt }
    at false h = record { closes = refl; ready = refl; array_ready = h; changes = refl; selects = refl; clears = refl; outputs = refl; status = refl; carries = tt }
