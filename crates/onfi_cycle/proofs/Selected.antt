-- Which LUN of a target is selected, and which is overlapped.
use Rattle.std.proofs.Common.{◌≡◌, ℕ, ◌==◌, Bool, true, false, ◌&&◌, ◌||◌, cond, not, List, [], ◌∷◌, Option, Some, None, refl, sym, ap, ◌∙◌, unwrap_or, ◌%◌}
use Rattle.std.proofs.Math.Bool.{or-false, or-true}
use Rattle.nand_geometry.specs.declared.parts.Parts.{Parts}
use Rattle.onfi_cycle.specs.declared.command.Command.{Command}
use Rattle.onfi_cycle.specs.declared.command.Command.TheVariants.{Read, ReadConfirm, ChangeReadColumnConfirm, BlockEraseConfirm, BlockErasePlane, ReadStatus, ReadStatusEnhanced, ProgramConfirm, ProgramPlane, ReadId, ReadParameterPage, Reset, ReadCacheSequential, ReadCacheEnd, ReadUniqueId, GetFeatures, SetFeatures, ResetLun, SynchronousReset, ReadPlane, CopybackRead, PageProgram, ProgramCache}
use Rattle.onfi_cycle.specs.declared.lun.Lun.{Lun}
use Rattle.onfi_cycle.specs.declared.latch.Latch.{Latch}
use Rattle.onfi_cycle.specs.declared.item.Item.{Item}
use Rattle.onfi_cycle.specs.declared.item.Item.TheVariants.{Cyc, Rdy, Ard}
use Rattle.onfi_cycle.specs.declared.opening.Opening.{Opening}
use Rattle.onfi_cycle.specs.declared.target_cycle.TargetCycle.{TargetCycle}
use Rattle.onfi_cycle.specs.declared.target_cycle.TargetCycle.TheVariants.{CommandCycle, AddressCycle, InputCycle, OutputCycle}
use Rattle.onfi_cycle.specs.declared.effect.Effect.{Effect}
use Rattle.onfi_cycle.specs.declared.effect.Effect.TheVariants.{Unaffected, StatusSelected, StatusOfSelected, AnotherAddressed, TargetResetStarted, SelectedForStatus, Deselected, IdRead, IdentityRead, UniqueIdReadStarted, FeaturesReadStarted, FeaturesSet, ParameterPageReadStarted, CacheReadContinued, CacheReadEnded, BecameReady, ArrayBecameReady, ReadColumnChanged, DataOutput, ResetStarted, PlaneSelected}
use Rattle.onfi_cycle.specs.declared.page_address.PageAddress.{PageAddress}
use Rattle.onfi_cycle.specs.Sequence.{target_cycle, row, row_with, wants_command, wants_address, selects_plane}
use Rattle.onfi_cycle.specs.Effect.{is_off, is_data, is_shared, acts_for_target, page_address, names_lun, command_effect, address_effect, id_effect, opening_address_effect, cycle_effect, ends_features, program_row_effect}
use Rattle.onfi_cycle.specs.Lun.{selected_after, overlapped_after, latch_alone, is_selected, is_overlapped, is_busy, is_array_busy, effect_on, effect_among}
use Rattle.onfi_cycle.specs.Decides.{or_before, last_decided, tail_of, selected_by_row, selected_by_address, selected_by_opening, selected_cycle, selected_decided, overlapped_by_row, overlapped_by_address, overlapped_by_opening, overlapped_cycle, overlapped_decided}

unwrap_before : (x y : Option Bool) (d : Bool) → unwrap_or (or_before x y) d ≡ unwrap_or x (unwrap_or y d)
unwrap_before (Some a) y d = refl
unwrap_before None y d = refl

-- 1. selected

-- a choice of an effect that leaves it
same_selected : (b p : Bool) (x y : Effect) → selected_after x p ≡ p → selected_after y p ≡ p → selected_after (cond b x y) p ≡ p
same_selected true p x y hx hy = hx
same_selected false p x y hx hy = hy

-- the closer of a row
row_selected : (wants named shared x p : Bool) (e : Effect) → selected_after e p ≡ true → selected_after (cond (wants && named) e (cond (true && (wants && shared)) (AnotherAddressed x) Unaffected)) p ≡ unwrap_or (selected_by_row (true && wants) named shared) p
row_selected true true shared x p e h = h
row_selected true false true x p e h = refl
row_selected true false false x p e h = refl
row_selected false named shared x p e h = refl

reset_selected : (shared first p : Bool) → selected_after (cond shared (TargetResetStarted first) ResetStarted) p ≡ (not shared || first)
reset_selected true first p = refl
reset_selected false first p = refl

-- a 31; o: the LUN isn't the one driver
read_on_selected : (wants named shared o p : Bool) (page : PageAddress) → selected_after (cond wants (cond (wants && named) (CacheReadContinued (Some page)) (cond (true && (wants && shared)) (AnotherAddressed true) Unaffected)) (cond o Unaffected (CacheReadContinued None))) p ≡ unwrap_or (selected_by_row (true && wants) named shared) p
read_on_selected true named shared o p page = row_selected true named shared true p (CacheReadContinued (Some page)) refl
read_on_selected false named shared o p page = same_selected o p Unaffected (CacheReadContinued None) refl refl

-- E0; s: it closes a 06; c: it changes the column of the one driver
plane_selected : (s named c p : Bool) (plane planes from : ℕ) → selected_after (cond s (cond named (PlaneSelected plane planes from) Deselected) (cond c (ReadColumnChanged from) Unaffected)) p ≡ unwrap_or (cond s (Some named) None) p
plane_selected true true c p plane planes from = refl
plane_selected true false c p plane planes from = refl
plane_selected false named c p plane planes from = same_selected c p (ReadColumnChanged from) Unaffected refl refl

command_selected : (g : Parts) (past : List Item) (l : Lun) (la : Latch) (c : Command) (p : Bool) → selected_after (command_effect g (tail_of past l) la c l.lun) p ≡ unwrap_or (selected_cycle g past l (CommandCycle c)) p
command_selected g past l la Read p = refl
command_selected g past l la ReadStatus p = same_selected (is_shared g) p StatusOfSelected StatusSelected refl refl
command_selected g past l la ReadStatusEnhanced p = refl
command_selected g past l la Reset p = reset_selected (is_shared g) (l.lun == 0) p
command_selected g past l la SynchronousReset p = reset_selected (is_shared g) (l.lun == 0) p
command_selected g past l la ReadCacheSequential p = read_on_selected (wants_command (tail_of past l) ReadCacheSequential) (names_lun g (row (tail_of past l)) l.lun) (is_shared g) (is_off la) p (page_address g (row (tail_of past l)))
command_selected g past l la ReadCacheEnd p = same_selected (is_off la) p Unaffected CacheReadEnded refl refl
command_selected g past l la ChangeReadColumnConfirm p = plane_selected (selects_plane (tail_of past l)) (names_lun g (row (tail_of past l)) l.lun) (wants_command (tail_of past l) ChangeReadColumnConfirm && not (is_off la)) p _ _ (tail_of past l).column
command_selected g past l la ReadConfirm p = row_selected (wants_command (tail_of past l) ReadConfirm) (names_lun g (row (tail_of past l)) l.lun) (is_shared g) true p _ refl
command_selected g past l la ReadPlane p = row_selected (wants_command (tail_of past l) ReadPlane) (names_lun g (row (tail_of past l)) l.lun) (is_shared g) true p _ refl
command_selected g past l la CopybackRead p = row_selected (wants_command (tail_of past l) CopybackRead) (names_lun g (row (tail_of past l)) l.lun) (is_shared g) true p _ refl
command_selected g past l la BlockEraseConfirm p = row_selected (wants_command (tail_of past l) BlockEraseConfirm) (names_lun g (row (tail_of past l)) l.lun) (is_shared g) false p _ refl
command_selected g past l la BlockErasePlane p = row_selected (wants_command (tail_of past l) BlockErasePlane) (names_lun g (row (tail_of past l)) l.lun) (is_shared g) false p _ refl
command_selected g past l la ProgramConfirm p = row_selected (wants_command (tail_of past l) ProgramConfirm) (names_lun g (row (tail_of past l)) l.lun) (is_shared g) false p _ refl
command_selected g past l la ProgramPlane p = row_selected (wants_command (tail_of past l) ProgramPlane) (names_lun g (row (tail_of past l)) l.lun) (is_shared g) false p _ refl
command_selected g past l la ProgramCache p = row_selected (wants_command (tail_of past l) ProgramCache) (names_lun g (row (tail_of past l)) l.lun) (is_shared g) false p _ refl
command_selected g past l la c p = same_selected (wants_command (tail_of past l) c && names_lun g (row (tail_of past l)) l.lun) p Unaffected Unaffected refl refl

-- what is read for the whole target; w: its address is wanted; a: the LUN acts for the target
served_selected : (w a p : Bool) (e : Effect) → selected_after e p ≡ true → selected_after (cond w (cond a e Deselected) Unaffected) p ≡ unwrap_or (cond (true && (w && not false)) (Some a) None) p
served_selected true true p e h = h
served_selected true false p e h = refl
served_selected false a p e h = refl

address_selected : (g : Parts) (past : List Item) (l : Lun) (byte : ℕ) (x : Option Opening) (p : Bool) → selected_after (opening_address_effect g (tail_of past l) byte x l.lun) p ≡ unwrap_or (selected_by_opening g l (tail_of past l) byte x) p
address_selected g past l byte None p = refl
address_selected g past l byte (Some o) p = at o.opener o.addresses
  where
    w : Bool
    w = wants_address (tail_of past l) byte

    a : Bool
    a = acts_for_target g l.lun

    selects : (b n : Bool) → selected_after (cond b (cond n SelectedForStatus Deselected) Unaffected) p ≡ unwrap_or (cond b (Some n) None) p
    selects true true = refl
    selects true false = refl
    selects false n = refl

    resets : (b named shared : Bool) → selected_after (cond b (cond named ResetStarted (cond shared (AnotherAddressed false) Unaffected)) Unaffected) p ≡ unwrap_or (selected_by_row b named shared) p
    resets true true shared = refl
    resets true false true = refl
    resets true false false = refl
    resets false named shared = refl

    programs : (b named : Bool) → selected_after (cond b (program_row_effect named) Unaffected) p ≡ p
    programs true true = refl
    programs true false = refl
    programs false named = refl

    reads_id : (b : Bool) → selected_after (cond b IdRead (IdentityRead (byte == 0x40))) p ≡ true
    reads_id true = refl
    reads_id false = refl

    sets : (w : Bool) → p ≡ unwrap_or (cond (true && (w && not true)) (Some a) None) p
    sets true = refl
    sets false = refl

    at : (c : Command) (n : ℕ) → selected_after (address_effect g (tail_of past l) byte c n l.lun) p ≡ unwrap_or (selected_by_address g l (tail_of past l) byte c n) p
    at ReadStatusEnhanced n = selects (n == 2) (names_lun g (row_with (tail_of past l) byte) l.lun)
    at ReadId n = served_selected w a p (id_effect byte) (reads_id (byte == 0x20))
    at ReadParameterPage n = served_selected w a p ParameterPageReadStarted refl
    at ReadUniqueId n = served_selected w a p UniqueIdReadStarted refl
    at GetFeatures n = served_selected w a p (FeaturesReadStarted byte) refl
    at SetFeatures n = sets w
    at ResetLun n = resets (n == 2) (names_lun g (row_with (tail_of past l) byte) l.lun) (is_shared g)
    at PageProgram n = programs (n == 4) (names_lun g (row_with (tail_of past l) byte) l.lun)
    at c n = refl

input_selected : (e a p : Bool) (f : ℕ) → selected_after (cond e (cond a (FeaturesSet f) Deselected) Unaffected) p ≡ unwrap_or (cond e (Some a) None) p
input_selected true true p f = refl
input_selected true false p f = refl
input_selected false a p f = refl

cycle_selected : (g : Parts) (past : List Item) (l : Lun) (la : Latch) (x : TargetCycle) (p : Bool) → selected_after (cycle_effect g (tail_of past l) la x l.lun) p ≡ unwrap_or (selected_cycle g past l x) p
cycle_selected g past l la (CommandCycle c) p = command_selected g past l la c p
cycle_selected g past l la (AddressCycle byte) p = address_selected g past l byte (tail_of past l).opening p
cycle_selected g past l la (InputCycle byte) p = input_selected (ends_features (tail_of past l)) (acts_for_target g l.lun) p ((tail_of past l).column % 256)
cycle_selected g past l la OutputCycle p = same_selected (is_data la) p DataOutput Unaffected refl refl

item_selected : (g : Parts) (past : List Item) (i : Item) (l : Lun) → selected_after (effect_on g past i l) (is_selected g past l) ≡ unwrap_or (selected_decided g l past i) (is_selected g past l)
unfolding effect_among
item_selected g past (Cyc c) l = at (c.ce == l.ce)
  where
    at : (b : Bool) → selected_after (cond b (cycle_effect g (tail_of past l) (latch_alone g past l) (target_cycle c.kind c.byte) l.lun) Unaffected) (is_selected g past l) ≡ unwrap_or (cond b (selected_cycle g past l (target_cycle c.kind c.byte)) None) (is_selected g past l)
    at true = cycle_selected g past l (latch_alone g past l) (target_cycle c.kind c.byte) (is_selected g past l)
    at false = refl
item_selected g past (Rdy ce lun fail) l = same_selected (ce == l.ce && lun == l.lun) (is_selected g past l) (BecameReady fail) Unaffected refl refl
item_selected g past (Ard ce lun fail) l = same_selected (ce == l.ce && lun == l.lun) (is_selected g past l) (ArrayBecameReady fail) Unaffected refl refl

pub selected_is_decided : (g : Parts) (past : List Item) (l : Lun) → is_selected g past l ≡ unwrap_or (last_decided (selected_decided g l) past) (l.lun == 0)
selected_is_decided g [] l = refl
selected_is_decided g (i ∷ past) l =
    item_selected g past i l ∙
    (ap (unwrap_or (selected_decided g l past i)) (selected_is_decided g past l) ∙ sym (unwrap_before (selected_decided g l past i) (last_decided (selected_decided g l) past) (l.lun == 0)))

-- 2. overlapped

same_overlapped : (b q p : Bool) (x y : Effect) → overlapped_after x q p ≡ p → overlapped_after y q p ≡ p → overlapped_after (cond b x y) q p ≡ p
same_overlapped true q p x y hx hy = hx
same_overlapped false q p x y hx hy = hy

-- the work of another LUN; q: this one works
another_overlaps : (shared q p : Bool) (reads : Bool) → overlapped_after (cond shared (AnotherAddressed reads) Unaffected) q p ≡ unwrap_or (cond (shared && q) (Some true) None) p
another_overlaps true true p reads = or-true p
another_overlaps true false p reads = or-false p
another_overlaps false q p reads = refl

row_overlapped : (wants named shared x q p : Bool) (e : Effect) → overlapped_after e q p ≡ p → overlapped_after (cond (wants && named) e (cond (true && (wants && shared)) (AnotherAddressed x) Unaffected)) q p ≡ unwrap_or (overlapped_by_row (true && wants) named shared q) p
row_overlapped true true shared x q p e h = h
row_overlapped true false shared x q p e h = another_overlaps shared q p x
row_overlapped false named shared x q p e h = refl

reset_overlapped : (shared first q p : Bool) → overlapped_after (cond shared (TargetResetStarted first) ResetStarted) q p ≡ unwrap_or (cond shared (Some false) None) p
reset_overlapped true first q p = refl
reset_overlapped false first q p = refl

read_on_overlapped : (wants named shared o q p : Bool) (page : PageAddress) → overlapped_after (cond wants (cond (wants && named) (CacheReadContinued (Some page)) (cond (true && (wants && shared)) (AnotherAddressed true) Unaffected)) (cond o Unaffected (CacheReadContinued None))) q p ≡ unwrap_or (overlapped_by_row (true && wants) named shared q) p
read_on_overlapped true named shared o q p page = row_overlapped true named shared true q p (CacheReadContinued (Some page)) refl
read_on_overlapped false named shared o q p page = same_overlapped o q p Unaffected (CacheReadContinued None) refl refl

plane_overlapped : (s named c q p : Bool) (plane planes from : ℕ) → overlapped_after (cond s (cond named (PlaneSelected plane planes from) Deselected) (cond c (ReadColumnChanged from) Unaffected)) q p ≡ unwrap_or (cond s (Some false) None) p
plane_overlapped true true c q p plane planes from = refl
plane_overlapped true false c q p plane planes from = refl
plane_overlapped false named c q p plane planes from = same_overlapped c q p (ReadColumnChanged from) Unaffected refl refl

command_overlapped : (g : Parts) (past : List Item) (l : Lun) (la : Latch) (c : Command) (p : Bool) → overlapped_after (command_effect g (tail_of past l) la c l.lun) (is_busy g past l || is_array_busy g past l) p ≡ unwrap_or (overlapped_cycle g past l (CommandCycle c)) p
command_overlapped g past l la Read p = refl
command_overlapped g past l la ReadStatus p = same_overlapped (is_shared g) _ p StatusOfSelected StatusSelected refl refl
command_overlapped g past l la ReadStatusEnhanced p = refl
command_overlapped g past l la Reset p = reset_overlapped (is_shared g) (l.lun == 0) _ p
command_overlapped g past l la SynchronousReset p = reset_overlapped (is_shared g) (l.lun == 0) _ p
command_overlapped g past l la ReadCacheSequential p = read_on_overlapped (wants_command (tail_of past l) ReadCacheSequential) (names_lun g (row (tail_of past l)) l.lun) (is_shared g) (is_off la) _ p (page_address g (row (tail_of past l)))
command_overlapped g past l la ReadCacheEnd p = same_overlapped (is_off la) _ p Unaffected CacheReadEnded refl refl
command_overlapped g past l la ChangeReadColumnConfirm p = plane_overlapped (selects_plane (tail_of past l)) (names_lun g (row (tail_of past l)) l.lun) (wants_command (tail_of past l) ChangeReadColumnConfirm && not (is_off la)) _ p _ _ (tail_of past l).column
command_overlapped g past l la ReadConfirm p = row_overlapped (wants_command (tail_of past l) ReadConfirm) (names_lun g (row (tail_of past l)) l.lun) (is_shared g) true _ p _ refl
command_overlapped g past l la ReadPlane p = row_overlapped (wants_command (tail_of past l) ReadPlane) (names_lun g (row (tail_of past l)) l.lun) (is_shared g) true _ p _ refl
command_overlapped g past l la CopybackRead p = row_overlapped (wants_command (tail_of past l) CopybackRead) (names_lun g (row (tail_of past l)) l.lun) (is_shared g) true _ p _ refl
command_overlapped g past l la BlockEraseConfirm p = row_overlapped (wants_command (tail_of past l) BlockEraseConfirm) (names_lun g (row (tail_of past l)) l.lun) (is_shared g) false _ p _ refl
command_overlapped g past l la BlockErasePlane p = row_overlapped (wants_command (tail_of past l) BlockErasePlane) (names_lun g (row (tail_of past l)) l.lun) (is_shared g) false _ p _ refl
command_overlapped g past l la ProgramConfirm p = row_overlapped (wants_command (tail_of past l) ProgramConfirm) (names_lun g (row (tail_of past l)) l.lun) (is_shared g) false _ p _ refl
command_overlapped g past l la ProgramPlane p = row_overlapped (wants_command (tail_of past l) ProgramPlane) (names_lun g (row (tail_of past l)) l.lun) (is_shared g) false _ p _ refl
command_overlapped g past l la ProgramCache p = row_overlapped (wants_command (tail_of past l) ProgramCache) (names_lun g (row (tail_of past l)) l.lun) (is_shared g) false _ p _ refl
command_overlapped g past l la c p = same_overlapped (wants_command (tail_of past l) c && names_lun g (row (tail_of past l)) l.lun) _ p Unaffected Unaffected refl refl

served_overlapped : (w a q p : Bool) (e : Effect) → overlapped_after e q p ≡ false → overlapped_after (cond w (cond a e Deselected) Unaffected) q p ≡ unwrap_or (cond (true && (w && not false)) (Some false) None) p
served_overlapped true true q p e h = h
served_overlapped true false q p e h = refl
served_overlapped false a q p e h = refl

address_overlapped : (g : Parts) (past : List Item) (l : Lun) (byte : ℕ) (x : Option Opening) (q p : Bool) → overlapped_after (opening_address_effect g (tail_of past l) byte x l.lun) q p ≡ unwrap_or (overlapped_by_opening g l q (tail_of past l) byte x) p
address_overlapped g past l byte None q p = refl
address_overlapped g past l byte (Some o) q p = at o.opener o.addresses
  where
    w : Bool
    w = wants_address (tail_of past l) byte

    a : Bool
    a = acts_for_target g l.lun

    selects : (b n : Bool) → overlapped_after (cond b (cond n SelectedForStatus Deselected) Unaffected) q p ≡ unwrap_or (cond b (Some false) None) p
    selects true true = refl
    selects true false = refl
    selects false n = refl

    resets : (b named shared : Bool) → overlapped_after (cond b (cond named ResetStarted (cond shared (AnotherAddressed false) Unaffected)) Unaffected) q p ≡ unwrap_or (overlapped_by_row b named shared q) p
    resets true true shared = refl
    resets true false shared = another_overlaps shared q p false
    resets false named shared = refl

    programs : (b named : Bool) → overlapped_after (cond b (program_row_effect named) Unaffected) q p ≡ p
    programs true true = refl
    programs true false = refl
    programs false named = refl

    reads_id : (b : Bool) → overlapped_after (cond b IdRead (IdentityRead (byte == 0x40))) q p ≡ false
    reads_id true = refl
    reads_id false = refl

    sets : (w : Bool) → p ≡ unwrap_or (cond (true && (w && not true)) (Some false) None) p
    sets true = refl
    sets false = refl

    at : (c : Command) (n : ℕ) → overlapped_after (address_effect g (tail_of past l) byte c n l.lun) q p ≡ unwrap_or (overlapped_by_address g l q (tail_of past l) byte c n) p
    at ReadStatusEnhanced n = selects (n == 2) (names_lun g (row_with (tail_of past l) byte) l.lun)
    at ReadId n = served_overlapped w a q p (id_effect byte) (reads_id (byte == 0x20))
    at ReadParameterPage n = served_overlapped w a q p ParameterPageReadStarted refl
    at ReadUniqueId n = served_overlapped w a q p UniqueIdReadStarted refl
    at GetFeatures n = served_overlapped w a q p (FeaturesReadStarted byte) refl
    at SetFeatures n = sets w
    at ResetLun n = resets (n == 2) (names_lun g (row_with (tail_of past l) byte) l.lun) (is_shared g)
    at PageProgram n = programs (n == 4) (names_lun g (row_with (tail_of past l) byte) l.lun)
    at c n = refl

input_overlapped : (e a q p : Bool) (f : ℕ) → overlapped_after (cond e (cond a (FeaturesSet f) Deselected) Unaffected) q p ≡ unwrap_or (cond e (Some false) None) p
input_overlapped true true q p f = refl
input_overlapped true false q p f = refl
input_overlapped false a q p f = refl

cycle_overlapped : (g : Parts) (past : List Item) (l : Lun) (la : Latch) (x : TargetCycle) (p : Bool) → overlapped_after (cycle_effect g (tail_of past l) la x l.lun) (is_busy g past l || is_array_busy g past l) p ≡ unwrap_or (overlapped_cycle g past l x) p
cycle_overlapped g past l la (CommandCycle c) p = command_overlapped g past l la c p
cycle_overlapped g past l la (AddressCycle byte) p = address_overlapped g past l byte (tail_of past l).opening (is_busy g past l || is_array_busy g past l) p
cycle_overlapped g past l la (InputCycle byte) p = input_overlapped (ends_features (tail_of past l)) (acts_for_target g l.lun) _ p ((tail_of past l).column % 256)
cycle_overlapped g past l la OutputCycle p = same_overlapped (is_data la) _ p DataOutput Unaffected refl refl

item_overlapped : (g : Parts) (past : List Item) (i : Item) (l : Lun) → overlapped_after (effect_on g past i l) (is_busy g past l || is_array_busy g past l) (is_overlapped g past l) ≡ unwrap_or (overlapped_decided g l past i) (is_overlapped g past l)
unfolding effect_among
item_overlapped g past (Cyc c) l = at (c.ce == l.ce)
  where
    at : (b : Bool) → overlapped_after (cond b (cycle_effect g (tail_of past l) (latch_alone g past l) (target_cycle c.kind c.byte) l.lun) Unaffected) (is_busy g past l || is_array_busy g past l) (is_overlapped g past l) ≡ unwrap_or (cond b (overlapped_cycle g past l (target_cycle c.kind c.byte)) None) (is_overlapped g past l)
    at true = cycle_overlapped g past l (latch_alone g past l) (target_cycle c.kind c.byte) (is_overlapped g past l)
    at false = refl
item_overlapped g past (Rdy ce lun fail) l = same_overlapped (ce == l.ce && lun == l.lun) _ (is_overlapped g past l) (BecameReady fail) Unaffected refl refl
item_overlapped g past (Ard ce lun fail) l = same_overlapped (ce == l.ce && lun == l.lun) _ (is_overlapped g past l) (ArrayBecameReady fail) Unaffected refl refl

pub overlapped_is_decided : (g : Parts) (past : List Item) (l : Lun) → is_overlapped g past l ≡ unwrap_or (last_decided (overlapped_decided g l) past) false
overlapped_is_decided g [] l = refl
overlapped_is_decided g (i ∷ past) l =
    item_overlapped g past i l ∙
    (ap (unwrap_or (overlapped_decided g l past i)) (overlapped_is_decided g past l) ∙ sym (unwrap_before (overlapped_decided g l past i) (last_decided (overlapped_decided g l) past) false))
