-- Work of a whole target that has several LUNs begins by its own commands alone.
use Rattle.std.specs.List.{list_any}
use Rattle.std.proofs.Common.{◌≡◌, ℕ, zero, suc, ◌+◌, ◌==◌, Bool, true, false, ◌&&◌, not, cond, ◌%◌, List, [], ◌∷◌, Option, Some, None, refl, sym, ap, ◌∙◌, eqb-true}
use Rattle.std.proofs.lemmas.Bool.{and_parts, or_from, or_parts as neither}
use Rattle.nand_geometry.specs.declared.parts.Parts.{Parts}
use Rattle.nand_geometry.specs.Limits.{planes}
use Rattle.onfi_cycle.specs.declared.command.Command.{Command}
use Rattle.onfi_cycle.specs.declared.command.Command.TheVariants.{Read, ReadConfirm, ChangeReadColumn, ChangeReadColumnConfirm, BlockErase, BlockEraseConfirm, BlockErasePlane, ReadStatus, ReadStatusEnhanced, PageProgram, ChangeWriteColumn, ProgramConfirm, ProgramPlane, ReadId, ReadParameterPage, Reset, ReadCacheSequential, ReadCacheEnd, ReadUniqueId, GetFeatures, SetFeatures, ResetLun, SynchronousReset, Unknown, ChangeReadColumnEnhanced, ReadPlane, CopybackRead, ProgramCache}
use Rattle.onfi_cycle.specs.declared.effect.Effect.{Effect}
use Rattle.onfi_cycle.specs.declared.effect.Effect.TheVariants.{Unaffected, DataOutputEnabled, StatusSelected, StatusRowAwaited, SelectedForStatus, Deselected, IdRead, IdentityRead, UniqueIdReadStarted, FeaturesReadStarted, FeaturesSet, ParameterPageReadStarted, CacheReadContinued, CacheReadEnded, DataOutput, ResetStarted, BecameReady, ArrayBecameReady, ReadStarted, EraseStarted, ProgramStarted, ReadColumnChanged, AnotherAddressed, StatusOfSelected, TargetResetStarted, PlaneSelected, ReadQueued, CopybackReadStarted, ProgramAddressed, CacheProgramStarted}
use Rattle.onfi_cycle.specs.declared.item.Item.{Item}
use Rattle.onfi_cycle.specs.declared.item.Item.TheVariants.{Cyc, Rdy, Ard}
use Rattle.onfi_cycle.specs.declared.latch.Latch.{Latch}
use Rattle.onfi_cycle.specs.declared.lun.Lun.{Lun}
use Rattle.onfi_cycle.specs.declared.opening.Opening.{Opening}
use Rattle.onfi_cycle.specs.declared.tail_facts.TailFacts.{TailFacts}
use Rattle.onfi_cycle.specs.declared.target_cycle.TargetCycle.{TargetCycle}
use Rattle.onfi_cycle.specs.declared.target_cycle.TargetCycle.TheVariants.{CommandCycle, AddressCycle, InputCycle, OutputCycle}
use Rattle.onfi_cycle.specs.Command.{closes_row, reads_row, reads_identity}
use Rattle.onfi_cycle.specs.Sequence.{target_cycle, tail, facts_of, opened, takes_features, wants_command, row, row_with, selects_plane}
use Rattle.onfi_cycle.specs.Effect.{is_off, is_data, is_shared, names_lun, confirm_effect, row_effect, cache_effect, command_effect, address_effect, opening_address_effect, lun_reset_effect, program_row_effect, of_target, cycle_effect, plane_effect, column_effect, plane_of_row}
use Rattle.onfi_cycle.specs.Lun.{busy_after, closer_after, is_target_work, effect_on, effect_among, alone, latch, is_busy, closer, lun_view, views_from}
use Rattle.onfi_cycle.specs.Rules.{works_for_target}
use Rattle.onfi_cycle.specs.OtherLun.{serves_target, keeps_to_lun, keeps_to, is_of}
use Rattle.onfi_cycle.specs.Channel.{is_cycle, is_serving}

-- ---- 1. the effects that begin it

abbrev begins_service : Effect → Bool
begins_service ParameterPageReadStarted = true
begins_service UniqueIdReadStarted = true
begins_service (FeaturesReadStarted address) = true
begins_service (FeaturesSet address) = true
begins_service _ = false

no_service : (b : Bool) → (b && false) ≡ false
no_service true = refl
no_service false = refl

-- any other effect leaves a LUN without it that had none
serves_no_more : (e : Effect) (b : Bool) (c : Option Command) → begins_service e ≡ false → (b && is_target_work c) ≡ false → (busy_after e b && is_target_work (closer_after e c)) ≡ false
serves_no_more Unaffected b c h k = k
serves_no_more DataOutputEnabled b c h k = k
serves_no_more StatusSelected b c h k = k
serves_no_more StatusRowAwaited b c h k = k
serves_no_more SelectedForStatus b c h k = k
serves_no_more Deselected b c h k = k
serves_no_more (ReadStarted page column) b c h k = refl
serves_no_more (ReadQueued page) b c h k = refl
serves_no_more (CopybackReadStarted page column count) b c h k = refl
serves_no_more ProgramAddressed b c h k = k
serves_no_more (EraseStarted true page) b c h k = refl
serves_no_more (EraseStarted false page) b c h k = refl
serves_no_more (ProgramStarted true page) b c h k = refl
serves_no_more (ProgramStarted false page) b c h k = refl
serves_no_more (CacheProgramStarted page) b c h k = refl
serves_no_more IdRead b c h k = no_service b
serves_no_more (IdentityRead jedec) b c h k = no_service b
serves_no_more UniqueIdReadStarted b c h k = cc
serves_no_more (FeaturesReadStarted address) b c h k = cc
serves_no_more (FeaturesSet address) b c h k = cc
serves_no_more ParameterPageReadStarted b c h k = cc
serves_no_more (CacheReadContinued to) b c h k = refl
serves_no_more CacheReadEnded b c h k = refl
serves_no_more (ReadColumnChanged column) b c h k = k
serves_no_more (PlaneSelected plane planes column) b c h k = k
serves_no_more DataOutput b c h k = k
serves_no_more ResetStarted b c h k = refl
serves_no_more (TargetResetStarted first) b c h k = refl
serves_no_more StatusOfSelected b c h k = k
serves_no_more (AnotherAddressed reads) b c h k = k
serves_no_more (BecameReady failed) b c h k = refl
serves_no_more (ArrayBecameReady fail) b c h k = k

-- ---- 2. what a cycle does that is no command of a whole target

either : (b : Bool) (x y : Effect) → begins_service x ≡ false → begins_service y ≡ false → begins_service (cond b x y) ≡ false
either true x y h k = h
either false x y h k = k

-- work of a LUN on that, and what it is to the others
closer_serves : (named others reads : Bool) (x : Effect) → begins_service x ≡ false → begins_service (cond named x (cond others (AnotherAddressed reads) Unaffected)) ≡ false
closer_serves named others reads x h = either named x (cond others (AnotherAddressed reads) Unaffected) h (either others (AnotherAddressed reads) Unaffected refl refl)

command_serves : (g : Parts) (t : TailFacts) (la : Latch) (c : Command) (n : ℕ) → begins_service (command_effect g t la c n) ≡ false
command_serves g t la Read n = refl
command_serves g t la ReadConfirm n = closer_serves (wants_command t ReadConfirm && names_lun g (row t) n) (closes_row ReadConfirm && (wants_command t ReadConfirm && is_shared g)) (reads_row ReadConfirm) (confirm_effect g t ReadConfirm) refl
command_serves g t la ReadPlane n = closer_serves (wants_command t ReadPlane && names_lun g (row t) n) (closes_row ReadPlane && (wants_command t ReadPlane && is_shared g)) (reads_row ReadPlane) (confirm_effect g t ReadPlane) refl
command_serves g t la CopybackRead n = closer_serves (wants_command t CopybackRead && names_lun g (row t) n) (closes_row CopybackRead && (wants_command t CopybackRead && is_shared g)) (reads_row CopybackRead) (confirm_effect g t CopybackRead) refl
command_serves g t la ChangeReadColumn n = closer_serves (wants_command t ChangeReadColumn && names_lun g (row t) n) (closes_row ChangeReadColumn && (wants_command t ChangeReadColumn && is_shared g)) (reads_row ChangeReadColumn) (confirm_effect g t ChangeReadColumn) refl
command_serves g t la ChangeReadColumnEnhanced n = closer_serves (wants_command t ChangeReadColumnEnhanced && names_lun g (row t) n) (closes_row ChangeReadColumnEnhanced && (wants_command t ChangeReadColumnEnhanced && is_shared g)) (reads_row ChangeReadColumnEnhanced) (confirm_effect g t ChangeReadColumnEnhanced) refl
command_serves g t la ChangeReadColumnConfirm n =
    either (selects_plane t) (plane_effect g t n) (column_effect t la) (either (names_lun g (row t) n) (PlaneSelected (plane_of_row g (row t)) (planes g) t.column) Deselected refl refl)
    (either (wants_command t ChangeReadColumnConfirm && not (is_off la)) (ReadColumnChanged t.column) Unaffected refl refl)
command_serves g t la BlockErase n = closer_serves (wants_command t BlockErase && names_lun g (row t) n) (closes_row BlockErase && (wants_command t BlockErase && is_shared g)) (reads_row BlockErase) (confirm_effect g t BlockErase) refl
command_serves g t la BlockEraseConfirm n = closer_serves (wants_command t BlockEraseConfirm && names_lun g (row t) n) (closes_row BlockEraseConfirm && (wants_command t BlockEraseConfirm && is_shared g)) (reads_row BlockEraseConfirm) (confirm_effect g t BlockEraseConfirm) refl
command_serves g t la BlockErasePlane n = closer_serves (wants_command t BlockErasePlane && names_lun g (row t) n) (closes_row BlockErasePlane && (wants_command t BlockErasePlane && is_shared g)) (reads_row BlockErasePlane) (confirm_effect g t BlockErasePlane) refl
command_serves g t la ReadStatus n = either (is_shared g) StatusOfSelected StatusSelected refl refl
command_serves g t la ReadStatusEnhanced n = refl
command_serves g t la PageProgram n = closer_serves (wants_command t PageProgram && names_lun g (row t) n) (closes_row PageProgram && (wants_command t PageProgram && is_shared g)) (reads_row PageProgram) (confirm_effect g t PageProgram) refl
command_serves g t la ChangeWriteColumn n = closer_serves (wants_command t ChangeWriteColumn && names_lun g (row t) n) (closes_row ChangeWriteColumn && (wants_command t ChangeWriteColumn && is_shared g)) (reads_row ChangeWriteColumn) (confirm_effect g t ChangeWriteColumn) refl
command_serves g t la ProgramConfirm n = closer_serves (wants_command t ProgramConfirm && names_lun g (row t) n) (closes_row ProgramConfirm && (wants_command t ProgramConfirm && is_shared g)) (reads_row ProgramConfirm) (confirm_effect g t ProgramConfirm) refl
command_serves g t la ProgramPlane n = closer_serves (wants_command t ProgramPlane && names_lun g (row t) n) (closes_row ProgramPlane && (wants_command t ProgramPlane && is_shared g)) (reads_row ProgramPlane) (confirm_effect g t ProgramPlane) refl
command_serves g t la ProgramCache n = closer_serves (wants_command t ProgramCache && names_lun g (row t) n) (closes_row ProgramCache && (wants_command t ProgramCache && is_shared g)) (reads_row ProgramCache) (confirm_effect g t ProgramCache) refl
command_serves g t la ReadId n = closer_serves (wants_command t ReadId && names_lun g (row t) n) (closes_row ReadId && (wants_command t ReadId && is_shared g)) (reads_row ReadId) (confirm_effect g t ReadId) refl
command_serves g t la ReadParameterPage n = closer_serves (wants_command t ReadParameterPage && names_lun g (row t) n) (closes_row ReadParameterPage && (wants_command t ReadParameterPage && is_shared g)) (reads_row ReadParameterPage) (confirm_effect g t ReadParameterPage) refl
command_serves g t la Reset n = either (is_shared g) (TargetResetStarted (n == 0)) ResetStarted refl refl
command_serves g t la ReadCacheSequential n =
    either (wants_command t ReadCacheSequential) (row_effect g t ReadCacheSequential n) (cache_effect la)
    (closer_serves (wants_command t ReadCacheSequential && names_lun g (row t) n) (closes_row ReadCacheSequential && (wants_command t ReadCacheSequential && is_shared g)) (reads_row ReadCacheSequential) (confirm_effect g t ReadCacheSequential) refl)
    (either (is_off la) Unaffected (CacheReadContinued None) refl refl)
command_serves g t la ReadCacheEnd n = either (is_off la) Unaffected CacheReadEnded refl refl
command_serves g t la ReadUniqueId n = closer_serves (wants_command t ReadUniqueId && names_lun g (row t) n) (closes_row ReadUniqueId && (wants_command t ReadUniqueId && is_shared g)) (reads_row ReadUniqueId) (confirm_effect g t ReadUniqueId) refl
command_serves g t la GetFeatures n = closer_serves (wants_command t GetFeatures && names_lun g (row t) n) (closes_row GetFeatures && (wants_command t GetFeatures && is_shared g)) (reads_row GetFeatures) (confirm_effect g t GetFeatures) refl
command_serves g t la SetFeatures n = closer_serves (wants_command t SetFeatures && names_lun g (row t) n) (closes_row SetFeatures && (wants_command t SetFeatures && is_shared g)) (reads_row SetFeatures) (confirm_effect g t SetFeatures) refl
command_serves g t la ResetLun n = closer_serves (wants_command t ResetLun && names_lun g (row t) n) (closes_row ResetLun && (wants_command t ResetLun && is_shared g)) (reads_row ResetLun) (confirm_effect g t ResetLun) refl
command_serves g t la SynchronousReset n = either (is_shared g) (TargetResetStarted (n == 0)) ResetStarted refl refl
command_serves g t la Unknown n = closer_serves (wants_command t Unknown && names_lun g (row t) n) (closes_row Unknown && (wants_command t Unknown && is_shared g)) (reads_row Unknown) (confirm_effect g t Unknown) refl

address_serves : (g : Parts) (t : TailFacts) (byte : ℕ) (c : Command) (k n : ℕ) → reads_identity c ≡ false → begins_service (address_effect g t byte c k n) ≡ false
address_serves g t byte Read k n none = refl
address_serves g t byte ReadConfirm k n none = refl
address_serves g t byte ReadPlane k n none = refl
address_serves g t byte CopybackRead k n none = refl
address_serves g t byte ChangeReadColumn k n none = refl
address_serves g t byte ChangeReadColumnEnhanced k n none = refl
address_serves g t byte ChangeReadColumnConfirm k n none = refl
address_serves g t byte BlockErase k n none = refl
address_serves g t byte BlockEraseConfirm k n none = refl
address_serves g t byte BlockErasePlane k n none = refl
address_serves g t byte ReadStatus k n none = refl
address_serves g t byte ReadStatusEnhanced k n none = either (k == 2) (cond (names_lun g (row_with t byte) n) SelectedForStatus Deselected) Unaffected (either (names_lun g (row_with t byte) n) SelectedForStatus Deselected refl refl) refl
address_serves g t byte PageProgram k n none = either (k == 4) (program_row_effect (names_lun g (row_with t byte) n)) Unaffected (either (names_lun g (row_with t byte) n) ProgramAddressed Unaffected refl refl) refl
address_serves g t byte ChangeWriteColumn k n none = refl
address_serves g t byte ProgramConfirm k n none = refl
address_serves g t byte ProgramPlane k n none = refl
address_serves g t byte ProgramCache k n none = refl
address_serves g t byte ReadId k n none = cc
address_serves g t byte ReadParameterPage k n none = cc
address_serves g t byte Reset k n none = refl
address_serves g t byte ReadCacheSequential k n none = refl
address_serves g t byte ReadCacheEnd k n none = refl
address_serves g t byte ReadUniqueId k n none = cc
address_serves g t byte GetFeatures k n none = cc
address_serves g t byte SetFeatures k n none = cc
address_serves g t byte ResetLun k n none = either (k == 2) (lun_reset_effect g (names_lun g (row_with t byte) n)) Unaffected (closer_serves (names_lun g (row_with t byte) n) (is_shared g) false ResetStarted refl) refl
address_serves g t byte SynchronousReset k n none = refl
address_serves g t byte Unknown k n none = refl

opening_serves : (g : Parts) (t : TailFacts) (byte : ℕ) (o : Option Opening) (n : ℕ) → opened (λ c k. reads_identity c) o ≡ false → begins_service (opening_address_effect g t byte o n) ≡ false
opening_serves g t byte None n none = refl
opening_serves g t byte (Some o) n none = address_serves g t byte o.opener o.addresses n none

input_serves : (takes last : Bool) (x : Effect) → takes ≡ false → begins_service (cond (takes && last) x Unaffected) ≡ false
input_serves true last x none = cc
input_serves false last x none = refl

cycle_serves : (g : Parts) (past : List Item) (ce : ℕ) (la : Latch) (cycle : TargetCycle) (n : ℕ) → serves_target past ce cycle ≡ false → begins_service (cycle_effect g (facts_of (tail past ce)) la cycle n) ≡ false
cycle_serves g past ce la (CommandCycle c) n none = command_serves g (facts_of (tail past ce)) la c n
cycle_serves g past ce la (AddressCycle byte) n none = opening_serves g (facts_of (tail past ce)) byte (facts_of (tail past ce)).opening n none
cycle_serves g past ce la (InputCycle byte) n none =
    input_serves (takes_features (facts_of (tail past ce)).phase) ((facts_of (tail past ce)).inputs == 3) (of_target g n (FeaturesSet ((facts_of (tail past ce)).column % 256))) none
cycle_serves g past ce la OutputCycle n none = either (is_data la) DataOutput Unaffected refl refl

-- ---- 3. the LUNs of a target after an item that begins none

any_rests : (g : Parts) (past : List Item) (i : Item) (ce count n : ℕ) → ((l : Lun) → begins_service (effect_on g past i l) ≡ false)
    → list_any works_for_target (views_from g past ce count n) ≡ false → list_any works_for_target (views_from g (i ∷ past) ce count n) ≡ false
any_rests g past i ce zero n rests none = refl
any_rests g past i ce (suc count) n rests none =
    let l : Lun = record { ce = ce; lun = n } in
    let both = neither (works_for_target (lun_view g past l)) (list_any works_for_target (views_from g past ce count (n + 1))) none in
    or_from (works_for_target (lun_view g (i ∷ past) l)) (list_any works_for_target (views_from g (i ∷ past) ce count (n + 1)))
    (serves_no_more (effect_on g past i l) (is_busy g past l) (closer g past l) (rests l) both.0)
    (any_rests g past i ce count (n + 1) rests both.1)

stays_free : (g : Parts) (past : List Item) (i : Item) (ce : ℕ) → (is_shared g ≡ true → (l : Lun) → begins_service (effect_on g past i l) ≡ false) → is_serving g past ce ≡ false → is_serving g (i ∷ past) ce ≡ false
stays_free g past i ce rests none = at (is_shared g) refl none
  where
    at : (b : Bool) → is_shared g ≡ b → (b && list_any works_for_target (views_from g past ce g.luns 0)) ≡ false → (b && list_any works_for_target (views_from g (i ∷ past) ce g.luns 0)) ≡ false
    at true e h = any_rests g past i ce g.luns 0 (rests e) h
    at false e h = refl

pub ready_serves : (g : Parts) (past : List Item) (i : Item) (ce : ℕ) → is_cycle i ≡ false → is_serving g past ce ≡ false → is_serving g (i ∷ past) ce ≡ false
unfolding effect_among
ready_serves g past (Cyc c) ce h none = cc
ready_serves g past (Rdy a lun fail) ce h none = stays_free g past (Rdy a lun fail) ce (λ shared. rests) none
  where
    rests : (l : Lun) → begins_service (effect_on g past (Rdy a lun fail) l) ≡ false
    rests l = either (a == l.ce && lun == l.lun) (BecameReady fail) Unaffected refl refl
ready_serves g past (Ard a lun fail) ce h none = stays_free g past (Ard a lun fail) ce (λ shared. rests) none
  where
    rests : (l : Lun) → begins_service (effect_on g past (Ard a lun fail) l) ≡ false
    rests l = either (a == l.ce && lun == l.lun) (ArrayBecameReady fail) Unaffected refl refl

-- a cycle that is of a LUN is of no whole target
of_none : (shared serves : Bool) (keeps : Bool) → shared ≡ true → (not (shared && serves) && keeps) ≡ true → serves ≡ false
of_none true true keeps e h = cc
of_none true false keeps e h = refl
of_none false serves keeps e h = cc

effect_rests : (g : Parts) (past : List Item) (i : Item) (m l : Lun) → is_shared g ≡ true → is_of g past m i ≡ true → begins_service (effect_on g past i l) ≡ false
unfolding effect_among
effect_rests g past (Rdy a lun fail) m l shared of = either (a == l.ce && lun == l.lun) (BecameReady fail) Unaffected refl refl
effect_rests g past (Ard a lun fail) m l shared of = either (a == l.ce && lun == l.lun) (ArrayBecameReady fail) Unaffected refl refl
effect_rests g past (Cyc c) m l shared of = at (c.ce == l.ce) refl
  where
    la : Latch
    la = alone g.luns (λ n. latch g past (record { ce = l.ce; lun = n })) l.lun

    here : c.ce ≡ m.ce
    here = eqb-true c.ce m.ce (and_parts (c.ce == m.ce) (keeps_to g past m (target_cycle c.kind c.byte)) of).0

    none : serves_target past m.ce (target_cycle c.kind c.byte) ≡ false
    none =
        of_none (is_shared g) (serves_target past m.ce (target_cycle c.kind c.byte)) (keeps_to_lun g past m (target_cycle c.kind c.byte)) shared
        (and_parts (c.ce == m.ce) (keeps_to g past m (target_cycle c.kind c.byte)) of).1

    at : (b : Bool) → (c.ce == l.ce) ≡ b → begins_service (cond b (cycle_effect g (facts_of (tail past l.ce)) la (target_cycle c.kind c.byte) l.lun) Unaffected) ≡ false
    at true e =
        cycle_serves g past l.ce la (target_cycle c.kind c.byte) l.lun
        (ap (λ (ce : ℕ). serves_target past ce (target_cycle c.kind c.byte)) (sym (eqb-true c.ce l.ce e) ∙ here) ∙ none)
    at false e = refl

pub own_serves : (g : Parts) (past : List Item) (i : Item) (m : Lun) (ce : ℕ) → is_of g past m i ≡ true → is_serving g past ce ≡ false → is_serving g (i ∷ past) ce ≡ false
own_serves g past i m ce of none = stays_free g past i ce (λ shared l. effect_rests g past i m l shared of) none

-- where nothing has happened it doesn't go on
firsts_rest : (g : Parts) (ce count n : ℕ) → list_any works_for_target (views_from g [] ce count n) ≡ false
firsts_rest g ce zero n = refl
firsts_rest g ce (suc count) n = firsts_rest g ce count (n + 1)

pub first_serves : (g : Parts) (ce : ℕ) → is_serving g [] ce ≡ false
first_serves g ce = ap (λ (b : Bool). is_shared g && b) (firsts_rest g ce g.luns 0) ∙ no_service (is_shared g)
