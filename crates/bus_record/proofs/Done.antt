-- What a command, an address or an input does to the LUNs of its target, all at once, is what it does to each of them.
use Rattle.std.proofs.Common.{◌≡◌, ℕ, zero, suc, ◌+◌, ◌%◌, ◌<◌, ◌==◌, ◌≢◌, Bool, true, false, ◌&&◌, ◌||◌, cond, not, Option, Some, None, List, [], ◌∷◌, map, refl, sym, ap, ◌∙◌, arith}
use Rattle.std.proofs.lemmas.Bool.{eq-eqb}
use Rattle.std.proofs.lemmas.Bool.Decides.{nat_tests}
use Rattle.nand_geometry.specs.declared.parts.Parts.{Parts}
use Rattle.nand_geometry.specs.Limits.{planes}
use Rattle.nand_geometry.specs.Row.{parts_of}
use Rattle.onfi_cycle.specs.declared.command.Command.{Command}
use Rattle.onfi_cycle.specs.declared.command.Command.TheVariants.{Read, ReadConfirm, ReadPlane, CopybackRead, ChangeReadColumn, ChangeReadColumnConfirm, BlockErase, BlockEraseConfirm, BlockErasePlane, ReadStatus, ReadStatusEnhanced, PageProgram, ChangeWriteColumn, ProgramConfirm, ProgramPlane, ProgramCache, ReadId, ReadParameterPage, Reset, ReadCacheSequential, ReadCacheEnd, ReadUniqueId, GetFeatures, SetFeatures, ResetLun, SynchronousReset, Unknown, ChangeReadColumnEnhanced}
use Rattle.onfi_cycle.specs.declared.effect.Effect.{Effect}
use Rattle.onfi_cycle.specs.declared.effect.Effect.TheVariants.{ProgramAddressed, Unaffected, DataOutputEnabled, StatusRowAwaited, SelectedForStatus, Deselected, FeaturesReadStarted, FeaturesSet, UniqueIdReadStarted, ParameterPageReadStarted, CacheReadContinued, CacheReadEnded, ResetStarted, ReadColumnChanged, TargetResetStarted, AnotherAddressed, PlaneSelected}
use Rattle.onfi_cycle.specs.declared.latch.Latch.{Latch}
use Rattle.onfi_cycle.specs.declared.latch.Latch.TheVariants.{Off, Status, Data}
use Rattle.onfi_cycle.specs.declared.opening.Opening.{Opening}
use Rattle.onfi_cycle.specs.declared.tail_facts.TailFacts.{TailFacts}
use Rattle.onfi_cycle.specs.declared.target_cycle.TargetCycle.{TargetCycle}
use Rattle.onfi_cycle.specs.declared.target_cycle.TargetCycle.TheVariants.{CommandCycle, AddressCycle, InputCycle}
use Rattle.onfi_cycle.specs.Applied.{one_after, luns_after_cycle}
use Rattle.onfi_cycle.specs.Command.{closes_row, reads_row}
use Rattle.onfi_cycle.specs.Effect.{cycle_effect, address_effect, opening_address_effect, confirm_effect, other_effect, of_target, is_shared, status_effect, lun_reset_effect, program_row_effect, reset_effect, ends_features, id_effect, is_off, names_lun, row_effect, cache_effect, plane_effect, column_effect, plane_of_row}
use Rattle.onfi_cycle.specs.Lun.{view_after}
use Rattle.onfi_cycle.specs.LunView.{LunView}
use Rattle.onfi_cycle.specs.Sequence.{row, row_with, wants_address, wants_command, selects_plane}
use Rattle.onfi_cycle.specs.State.{has_driver}
use Rattle.target_record.specs.Record.{HasRoom}
use Rattle.bus_record.specs.Changing.{HaveRoom, apart_from, driven, luns_left, on_named, effect_of_reset, effect_of_target, effect_of_closer, effect_of_command, effect_of_identity, effect_after_opener, effect_of_address, effect_after_opening, effect_of_input, effect_of_plane}
use Rattle.bus_record.specs.declared.target_effect.TargetEffect.TheVariants.{Nothing, OnEach, OnDriver, OnOne, Selection, Apart}

-- 1. what a cycle does to each of them by itself

-- the first of them, and those behind it
step_left : (g : Parts) (t : TailFacts) (sole : Bool) (cycle : TargetCycle) (n : ℕ) (v : LunView) (vs ws : List LunView) (e : Effect) → cycle_effect g t (cond sole v.latch Off) cycle n ≡ e
    → ws ≡ luns_after_cycle g t sole cycle (n + 1) vs → view_after e v ∷ ws ≡ luns_after_cycle g t sole cycle n (v ∷ vs)
step_left g t sole cycle n v vs ws e is rest =
    ap (λ (us : List LunView). view_after e v ∷ us) rest ∙ ap (λ (x : Effect). view_after x v ∷ luns_after_cycle g t sole cycle (n + 1) vs) (sym is)

pub nothing_left : (g : Parts) (t : TailFacts) (cycle : TargetCycle) → ((s : Latch) (m : ℕ) → cycle_effect g t s cycle m ≡ Unaffected) → (sole : Bool) (n : ℕ) (vs : List LunView) → vs ≡ luns_after_cycle g t sole cycle n vs
nothing_left g t cycle is sole n [] = refl
nothing_left g t cycle is sole n (v ∷ vs) = step_left g t sole cycle n v vs vs Unaffected (is (cond sole v.latch Off) n) (nothing_left g t cycle is sole (n + 1) vs)

each_left : (g : Parts) (t : TailFacts) (cycle : TargetCycle) (e : Effect) → ((s : Latch) (m : ℕ) → cycle_effect g t s cycle m ≡ e) → (sole : Bool) (n : ℕ) (vs : List LunView) → map (view_after e) vs ≡ luns_after_cycle g t sole cycle n vs
each_left g t cycle e is sole n [] = refl
each_left g t cycle e is sole n (v ∷ vs) = step_left g t sole cycle n v vs (map (view_after e) vs) e (is (cond sole v.latch Off) n) (each_left g t cycle e is sole (n + 1) vs)

-- a LUN that is off, and what is done to it
driven_is : (e : Effect) (v : LunView) (b : Bool) → cond b v (view_after e v) ≡ view_after (cond b Unaffected e) v
driven_is e v true = refl
driven_is e v false = refl

drivers_left : (g : Parts) (t : TailFacts) (cycle : TargetCycle) (e : Effect) → ((s : Latch) (m : ℕ) → cycle_effect g t s cycle m ≡ cond (is_off s) Unaffected e) → (n : ℕ) (vs : List LunView) → map (driven e) vs ≡ luns_after_cycle g t true cycle n vs
drivers_left g t cycle e is n [] = refl
drivers_left g t cycle e is n (v ∷ vs) =
    ap (λ (w : LunView). w ∷ map (driven e) vs) (driven_is e v (is_off v.latch))
    ∙ step_left g t true cycle n v vs (map (driven e) vs) (cond (is_off v.latch) Unaffected e) (is v.latch n) (drivers_left g t cycle e is (n + 1) vs)

undriven_left : (g : Parts) (t : TailFacts) (cycle : TargetCycle) (e : Effect) → ((s : Latch) (m : ℕ) → cycle_effect g t s cycle m ≡ cond (is_off s) Unaffected e) → (n : ℕ) (vs : List LunView) → vs ≡ luns_after_cycle g t false cycle n vs
undriven_left g t cycle e is n [] = refl
undriven_left g t cycle e is n (v ∷ vs) = step_left g t false cycle n v vs vs Unaffected (is Off n) (undriven_left g t cycle e is (n + 1) vs)

driver_left : (g : Parts) (t : TailFacts) (cycle : TargetCycle) (e : Effect) → ((s : Latch) (m : ℕ) → cycle_effect g t s cycle m ≡ cond (is_off s) Unaffected e) → (sole : Bool) (vs : List LunView)
    → cond sole (map (driven e) vs) vs ≡ luns_after_cycle g t sole cycle 0 vs
driver_left g t cycle e is true vs = drivers_left g t cycle e is 0 vs
driver_left g t cycle e is false vs = undriven_left g t cycle e is 0 vs

eq_false : (a b : ℕ) → a ≢ b → (a == b) ≡ false
eq_false a b ne = grind (arith, nat_tests)

-- one of them by its number, and the others otherwise
others_left : (g : Parts) (t : TailFacts) (cycle : TargetCycle) (e other : Effect) (lun : ℕ) → ((s : Latch) (m : ℕ) → cycle_effect g t s cycle m ≡ cond (lun == m) e other) → (sole : Bool) (n : ℕ) → lun < n → (vs : List LunView)
    → map (view_after other) vs ≡ luns_after_cycle g t sole cycle n vs
others_left g t cycle e other lun is sole n low [] = refl
others_left g t cycle e other lun is sole n low (v ∷ vs) =
    let ne : lun ≢ n = omega (arith, low) in
    step_left g t sole cycle n v vs (map (view_after other) vs) other (is (cond sole v.latch Off) n ∙ ap (λ (b : Bool). cond b e other) (eq_false lun n ne)) (others_left g t cycle e other lun is sole (n + 1) (omega (arith, low)) vs)

one_left : (g : Parts) (t : TailFacts) (cycle : TargetCycle) (e other : Effect) (lun : ℕ) → ((s : Latch) (m : ℕ) → cycle_effect g t s cycle m ≡ cond (lun == m) e other) → ((v : LunView) → view_after e (view_after other v) ≡ view_after e v) → (sole : Bool) (k n : ℕ) → lun ≡ n + k → (vs : List LunView)
    → one_after e k (map (view_after other) vs) ≡ luns_after_cycle g t sole cycle n vs
one_left g t cycle e other lun is same sole k n at [] = refl
one_left g t cycle e other lun is same sole zero n at (v ∷ vs) =
    let here : lun ≡ n = omega (arith, at) in
    ap (λ (w : LunView). w ∷ map (view_after other) vs) (same v)
    ∙ step_left g t sole cycle n v vs (map (view_after other) vs) e (is (cond sole v.latch Off) n ∙ ap (λ (b : Bool). cond b e other) (eq-eqb lun n here)) (others_left g t cycle e other lun is sole (n + 1) (omega (arith, at)) vs)
one_left g t cycle e other lun is same sole (suc k) n at (v ∷ vs) =
    let ne : lun ≢ n = omega (arith, at) in
    step_left g t sole cycle n v vs (one_after e k (map (view_after other) vs)) other (is (cond sole v.latch Off) n ∙ ap (λ (b : Bool). cond b e other) (eq_false lun n ne)) (one_left g t cycle e other lun is same sole k (n + 1) (omega (arith, at)) vs)

-- where the others stay as they are
all_stay : (vs : List LunView) → vs ≡ map (view_after Unaffected) vs
all_stay [] = refl
all_stay (v ∷ vs) = ap (λ (ws : List LunView). v ∷ ws) (all_stay vs)

named_left : (g : Parts) (t : TailFacts) (cycle : TargetCycle) (e : Effect) (lun : ℕ) → ((s : Latch) (m : ℕ) → cycle_effect g t s cycle m ≡ cond (lun == m) e Unaffected) → (sole : Bool) (vs : List LunView) → one_after e lun vs ≡ luns_after_cycle g t sole cycle 0 vs
named_left g t cycle e lun is sole vs = ap (one_after e lun) (all_stay vs) ∙ one_left g t cycle e Unaffected lun is (λ v. refl) sole lun 0 (omega arith) vs

selection_left : (g : Parts) (t : TailFacts) (cycle : TargetCycle) (lun : ℕ) → ((s : Latch) (m : ℕ) → cycle_effect g t s cycle m ≡ cond (lun == m) SelectedForStatus Deselected) → (sole : Bool) (vs : List LunView)
    → one_after SelectedForStatus lun (map (view_after Deselected) vs) ≡ luns_after_cycle g t sole cycle 0 vs
selection_left g t cycle lun is sole vs = one_left g t cycle SelectedForStatus Deselected lun is (λ v. refl) sole lun 0 (omega arith) vs

-- one of them by its number and the others otherwise, where the effect of the others changes something
apart_left : (g : Parts) (t : TailFacts) (cycle : TargetCycle) (e other : Effect) (lun : ℕ) → ((s : Latch) (m : ℕ) → cycle_effect g t s cycle m ≡ cond (m == lun) e other) → (sole : Bool) (n : ℕ) (vs : List LunView)
    → apart_from n lun e other vs ≡ luns_after_cycle g t sole cycle n vs
apart_left g t cycle e other lun is sole n [] = refl
apart_left g t cycle e other lun is sole n (v ∷ vs) =
    step_left g t sole cycle n v vs (apart_from (n + 1) lun e other vs) (cond (n == lun) e other) (is (cond sole v.latch Off) n) (apart_left g t cycle e other lun is sole (n + 1) vs)

flipped : (a b : ℕ) → (a == b) ≡ (b == a)
flipped a b = at (a == b) refl
  where
    at : (x : Bool) → (a == b) ≡ x → x ≡ (b == a)
    at true w =
        let same : b ≡ a = grind (arith, nat_tests, w) in
        sym (eq-eqb b a same)
    at false w =
        let ne : b ≢ a = grind (arith, nat_tests, w) in
        sym (eq_false b a ne)

-- the work of a LUN that a row names
work_left : (g : Parts) (t : TailFacts) (cycle : TargetCycle) (lun : ℕ) (e : Effect) (reads : Bool) → ((s : Latch) (m : ℕ) → cycle_effect g t s cycle m ≡ cond (lun == m) e (cond (is_shared g) (AnotherAddressed reads) Unaffected)) → (vs : List LunView)
    → luns_left (on_named g lun e reads) vs ≡ luns_after_cycle g t (has_driver vs) cycle 0 vs
work_left g t cycle lun e reads is vs = at (is_shared g) refl
  where
    other : Bool → Effect
    other b = cond b (AnotherAddressed reads) Unaffected

    at : (b : Bool) → is_shared g ≡ b → luns_left (cond b (Apart lun e (AnotherAddressed reads)) (OnOne lun e)) vs ≡ luns_after_cycle g t (has_driver vs) cycle 0 vs
    at true w = apart_left g t cycle e (AnotherAddressed reads) lun (λ s m. is s m ∙ (ap (λ (b : Bool). cond (lun == m) e (other b)) w ∙ ap (λ (b : Bool). cond b e (AnotherAddressed reads)) (flipped lun m))) (has_driver vs) 0 vs
    at false w = named_left g t cycle e lun (λ s m. is s m ∙ ap (λ (b : Bool). cond (lun == m) e (other b)) w) (has_driver vs) vs

-- what is done for a whole target
target_left : (g : Parts) (t : TailFacts) (cycle : TargetCycle) (e : Effect) → ((s : Latch) (m : ℕ) → cycle_effect g t s cycle m ≡ of_target g m e) → (vs : List LunView)
    → luns_left (effect_of_target g e) vs ≡ luns_after_cycle g t (has_driver vs) cycle 0 vs
target_left g t cycle e is vs = at (is_shared g) refl
  where
    at : (b : Bool) → is_shared g ≡ b → luns_left (cond b (Apart 0 e Deselected) (OnEach e)) vs ≡ luns_after_cycle g t (has_driver vs) cycle 0 vs
    at true w = apart_left g t cycle e Deselected 0 (λ s m. is s m ∙ ap (λ (b : Bool). cond (not b || m == 0) e Deselected) w) (has_driver vs) 0 vs
    at false w = each_left g t cycle e (λ s m. is s m ∙ ap (λ (b : Bool). cond (not b || m == 0) e Deselected) w) (has_driver vs) 0 vs

reset_of : (b : Bool) → TargetResetStarted b ≡ cond b (TargetResetStarted true) (TargetResetStarted false)
reset_of true = refl
reset_of false = refl

resets_left : (g : Parts) (t : TailFacts) (cycle : TargetCycle) → ((s : Latch) (m : ℕ) → cycle_effect g t s cycle m ≡ reset_effect g m) → (vs : List LunView)
    → luns_left (effect_of_reset g) vs ≡ luns_after_cycle g t (has_driver vs) cycle 0 vs
resets_left g t cycle is vs = at (is_shared g) refl
  where
    at : (b : Bool) → is_shared g ≡ b → luns_left (cond b (Apart 0 (TargetResetStarted true) (TargetResetStarted false)) (OnEach ResetStarted)) vs ≡ luns_after_cycle g t (has_driver vs) cycle 0 vs
    at true w = apart_left g t cycle (TargetResetStarted true) (TargetResetStarted false) 0 (λ s m. is s m ∙ (ap (λ (b : Bool). cond b (TargetResetStarted (m == 0)) ResetStarted) w ∙ reset_of (m == 0))) (has_driver vs) 0 vs
    at false w = each_left g t cycle ResetStarted (λ s m. is s m ∙ ap (λ (b : Bool). cond b (TargetResetStarted (m == 0)) ResetStarted) w) (has_driver vs) 0 vs

-- 2. a command

-- a closer that is wanted, and one that isn't
closes_wanted : (w n c sh : Bool) (e other : Effect) → w ≡ true → c ≡ true → cond (w && n) e (cond (c && (w && sh)) other Unaffected) ≡ cond n e (cond sh other Unaffected)
closes_wanted w n c sh e other wants closes = rw wants (rw closes refl)

closes_nothing : (w n c sh : Bool) (e other : Effect) → w ≡ false → c ≡ true → cond (w && n) e (cond (c && (w && sh)) other Unaffected) ≡ Unaffected
closes_nothing w n c sh e other wants closes = rw wants (rw closes refl)

closer_left : (g : Parts) (t : TailFacts) (c : Command) (vs : List LunView) → closes_row c ≡ true
    → ((s : Latch) (m : ℕ) → cycle_effect g t s (CommandCycle c) m ≡ cond (wants_command t c && names_lun g (row t) m) (confirm_effect g t c) (other_effect g t c))
    → luns_left (effect_of_closer g t c) vs ≡ luns_after_cycle g t (has_driver vs) (CommandCycle c) 0 vs
closer_left g t c vs closes is = at (wants_command t c) refl
  where
    lun : ℕ
    lun = (parts_of g (row t)).lun

    e : Effect
    e = confirm_effect g t c

    other : Effect
    other = AnotherAddressed (reads_row c)

    at : (b : Bool) → wants_command t c ≡ b → luns_left (cond b (on_named g lun e (reads_row c)) Nothing) vs ≡ luns_after_cycle g t (has_driver vs) (CommandCycle c) 0 vs
    at true w = work_left g t (CommandCycle c) lun e (reads_row c) (λ s m. is s m ∙ closes_wanted (wants_command t c) (names_lun g (row t) m) (closes_row c) (is_shared g) e other w closes) vs
    at false w = nothing_left g t (CommandCycle c) (λ s m. is s m ∙ closes_nothing (wants_command t c) (names_lun g (row t) m) (closes_row c) (is_shared g) e other w closes) (has_driver vs) 0 vs

always_rests : (b : Bool) → cond b Unaffected Unaffected ≡ Unaffected
always_rests true = refl
always_rests false = refl

drives : (s : Latch) (e : Effect) → cond (not (is_off s)) e Unaffected ≡ cond (is_off s) Unaffected e
drives Off e = refl
drives Status e = refl
drives Data e = refl

column_left : (g : Parts) (t : TailFacts) (vs : List LunView) → luns_left (effect_of_command g t ChangeReadColumnConfirm) vs ≡ luns_after_cycle g t (has_driver vs) (CommandCycle ChangeReadColumnConfirm) 0 vs
column_left g t vs = by (selects_plane t) refl
  where
    chosen : (w : Bool) → selects_plane t ≡ w → (s : Latch) (m : ℕ) → cycle_effect g t s (CommandCycle ChangeReadColumnConfirm) m ≡ cond w (plane_effect g t m) (column_effect t s)
    chosen w e s m = ap (λ (b : Bool). cond b (plane_effect g t m) (column_effect t s)) e

    at : selects_plane t ≡ false → (b : Bool) → wants_command t ChangeReadColumnConfirm ≡ b → luns_left (cond b (OnDriver (ReadColumnChanged t.column)) Nothing) vs ≡ luns_after_cycle g t (has_driver vs) (CommandCycle ChangeReadColumnConfirm) 0 vs
    at e true w = driver_left g t (CommandCycle ChangeReadColumnConfirm) (ReadColumnChanged t.column) (λ s m. chosen false e s m ∙ (ap (λ (b : Bool). cond (b && not (is_off s)) (ReadColumnChanged t.column) Unaffected) w ∙ drives s (ReadColumnChanged t.column))) (has_driver vs) vs
    at e false w = nothing_left g t (CommandCycle ChangeReadColumnConfirm) (λ s m. chosen false e s m ∙ ap (λ (b : Bool). cond (b && not (is_off s)) (ReadColumnChanged t.column) Unaffected) w) (has_driver vs) 0 vs

    by : (w : Bool) → selects_plane t ≡ w → luns_left (cond w (effect_of_plane g t) (cond (wants_command t ChangeReadColumnConfirm) (OnDriver (ReadColumnChanged t.column)) Nothing)) vs ≡ luns_after_cycle g t (has_driver vs) (CommandCycle ChangeReadColumnConfirm) 0 vs
    by true e = apart_left g t (CommandCycle ChangeReadColumnConfirm) (PlaneSelected (plane_of_row g (row t)) (planes g) t.column) Deselected (parts_of g (row t)).lun (λ s m. chosen true e s m ∙ ap (λ (b : Bool). cond b (PlaneSelected (plane_of_row g (row t)) (planes g) t.column) Deselected) (flipped (parts_of g (row t)).lun m)) (has_driver vs) 0 vs
    by false e = at e (wants_command t ChangeReadColumnConfirm) refl

-- a 31, which works on the row that wants it, or on the driver
cache_read_left : (g : Parts) (t : TailFacts) (vs : List LunView) → luns_left (effect_of_command g t ReadCacheSequential) vs ≡ luns_after_cycle g t (has_driver vs) (CommandCycle ReadCacheSequential) 0 vs
cache_read_left g t vs = at (wants_command t ReadCacheSequential) refl
  where
    chosen : (w : Bool) → wants_command t ReadCacheSequential ≡ w → (s : Latch) (m : ℕ) → cycle_effect g t s (CommandCycle ReadCacheSequential) m ≡ cond w (row_effect g t ReadCacheSequential m) (cache_effect s)
    chosen w e s m = ap (λ (b : Bool). cond b (row_effect g t ReadCacheSequential m) (cache_effect s)) e

    at : (b : Bool) → wants_command t ReadCacheSequential ≡ b → luns_left (cond b (effect_of_closer g t ReadCacheSequential) (OnDriver (CacheReadContinued None))) vs ≡ luns_after_cycle g t (has_driver vs) (CommandCycle ReadCacheSequential) 0 vs
    at true w = closer_left g t ReadCacheSequential vs refl (chosen true w)
    at false w = driver_left g t (CommandCycle ReadCacheSequential) (CacheReadContinued None) (chosen false w) (has_driver vs) vs

pub command_left : (g : Parts) (t : TailFacts) (c : Command) (vs : List LunView) → luns_left (effect_of_command g t c) vs ≡ luns_after_cycle g t (has_driver vs) (CommandCycle c) 0 vs
command_left g t Read vs = each_left g t (CommandCycle Read) DataOutputEnabled (λ s m. refl) (has_driver vs) 0 vs
command_left g t ReadStatus vs = each_left g t (CommandCycle ReadStatus) (status_effect g) (λ s m. refl) (has_driver vs) 0 vs
command_left g t ReadStatusEnhanced vs = each_left g t (CommandCycle ReadStatusEnhanced) StatusRowAwaited (λ s m. refl) (has_driver vs) 0 vs
command_left g t Reset vs = resets_left g t (CommandCycle Reset) (λ s m. refl) vs
command_left g t SynchronousReset vs = resets_left g t (CommandCycle SynchronousReset) (λ s m. refl) vs
command_left g t ReadCacheSequential vs = cache_read_left g t vs
command_left g t ReadCacheEnd vs = driver_left g t (CommandCycle ReadCacheEnd) CacheReadEnded (λ s m. refl) (has_driver vs) vs
command_left g t ChangeReadColumnConfirm vs = column_left g t vs
command_left g t ReadConfirm vs = closer_left g t ReadConfirm vs refl (λ s m. refl)
command_left g t ReadPlane vs = closer_left g t ReadPlane vs refl (λ s m. refl)
command_left g t CopybackRead vs = closer_left g t CopybackRead vs refl (λ s m. refl)
command_left g t BlockEraseConfirm vs = closer_left g t BlockEraseConfirm vs refl (λ s m. refl)
command_left g t BlockErasePlane vs = closer_left g t BlockErasePlane vs refl (λ s m. refl)
command_left g t ProgramConfirm vs = closer_left g t ProgramConfirm vs refl (λ s m. refl)
command_left g t ProgramPlane vs = closer_left g t ProgramPlane vs refl (λ s m. refl)
command_left g t ProgramCache vs = closer_left g t ProgramCache vs refl (λ s m. refl)
command_left g t ChangeReadColumn vs = nothing_left g t (CommandCycle ChangeReadColumn) (λ s m. always_rests (wants_command t ChangeReadColumn && names_lun g (row t) m)) (has_driver vs) 0 vs
command_left g t ChangeReadColumnEnhanced vs = nothing_left g t (CommandCycle ChangeReadColumnEnhanced) (λ s m. always_rests (wants_command t ChangeReadColumnEnhanced && names_lun g (row t) m)) (has_driver vs) 0 vs
command_left g t BlockErase vs = nothing_left g t (CommandCycle BlockErase) (λ s m. always_rests (wants_command t BlockErase && names_lun g (row t) m)) (has_driver vs) 0 vs
command_left g t PageProgram vs = nothing_left g t (CommandCycle PageProgram) (λ s m. always_rests (wants_command t PageProgram && names_lun g (row t) m)) (has_driver vs) 0 vs
command_left g t ChangeWriteColumn vs = nothing_left g t (CommandCycle ChangeWriteColumn) (λ s m. always_rests (wants_command t ChangeWriteColumn && names_lun g (row t) m)) (has_driver vs) 0 vs
command_left g t ReadId vs = nothing_left g t (CommandCycle ReadId) (λ s m. always_rests (wants_command t ReadId && names_lun g (row t) m)) (has_driver vs) 0 vs
command_left g t ReadParameterPage vs = nothing_left g t (CommandCycle ReadParameterPage) (λ s m. always_rests (wants_command t ReadParameterPage && names_lun g (row t) m)) (has_driver vs) 0 vs
command_left g t ReadUniqueId vs = nothing_left g t (CommandCycle ReadUniqueId) (λ s m. always_rests (wants_command t ReadUniqueId && names_lun g (row t) m)) (has_driver vs) 0 vs
command_left g t GetFeatures vs = nothing_left g t (CommandCycle GetFeatures) (λ s m. always_rests (wants_command t GetFeatures && names_lun g (row t) m)) (has_driver vs) 0 vs
command_left g t SetFeatures vs = nothing_left g t (CommandCycle SetFeatures) (λ s m. always_rests (wants_command t SetFeatures && names_lun g (row t) m)) (has_driver vs) 0 vs
command_left g t ResetLun vs = nothing_left g t (CommandCycle ResetLun) (λ s m. always_rests (wants_command t ResetLun && names_lun g (row t) m)) (has_driver vs) 0 vs
command_left g t Unknown vs = nothing_left g t (CommandCycle Unknown) (λ s m. always_rests (wants_command t Unknown && names_lun g (row t) m)) (has_driver vs) 0 vs

-- 3. an address

identity_left : (g : Parts) (t : TailFacts) (byte : ℕ) (e : Effect) (vs : List LunView) → ((s : Latch) (m : ℕ) → cycle_effect g t s (AddressCycle byte) m ≡ cond (wants_address t byte) (of_target g m e) Unaffected)
    → luns_left (effect_of_identity g t byte e) vs ≡ luns_after_cycle g t (has_driver vs) (AddressCycle byte) 0 vs
identity_left g t byte e vs is = at (wants_address t byte) refl
  where
    at : (b : Bool) → wants_address t byte ≡ b → luns_left (cond b (effect_of_target g e) Nothing) vs ≡ luns_after_cycle g t (has_driver vs) (AddressCycle byte) 0 vs
    at true w = target_left g t (AddressCycle byte) e (λ s m. is s m ∙ ap (λ (b : Bool). cond b (of_target g m e) Unaffected) w) vs
    at false w = nothing_left g t (AddressCycle byte) (λ s m. is s m ∙ ap (λ (b : Bool). cond b (of_target g m e) Unaffected) w) (has_driver vs) 0 vs

opener_left : (g : Parts) (t : TailFacts) (byte : ℕ) (c : Command) (k : ℕ) (vs : List LunView) → ((s : Latch) (m : ℕ) → cycle_effect g t s (AddressCycle byte) m ≡ address_effect g t byte c k m)
    → luns_left (effect_after_opener g t byte c k) vs ≡ luns_after_cycle g t (has_driver vs) (AddressCycle byte) 0 vs
opener_left g t byte ReadStatusEnhanced k vs is = at (k == 2) refl
  where
    at : (b : Bool) → (k == 2) ≡ b → luns_left (cond b (Selection (parts_of g (row_with t byte)).lun) Nothing) vs ≡ luns_after_cycle g t (has_driver vs) (AddressCycle byte) 0 vs
    at true w = selection_left g t (AddressCycle byte) (parts_of g (row_with t byte)).lun (λ s m. is s m ∙ ap (λ (b : Bool). cond b (cond (names_lun g (row_with t byte) m) SelectedForStatus Deselected) Unaffected) w) (has_driver vs) vs
    at false w = nothing_left g t (AddressCycle byte) (λ s m. is s m ∙ ap (λ (b : Bool). cond b (cond (names_lun g (row_with t byte) m) SelectedForStatus Deselected) Unaffected) w) (has_driver vs) 0 vs
opener_left g t byte ResetLun k vs is = at (k == 2) refl
  where
    lun : ℕ
    lun = (parts_of g (row_with t byte)).lun

    left : Bool → ℕ → Effect
    left b m = cond b (lun_reset_effect g (names_lun g (row_with t byte) m)) Unaffected

    at : (b : Bool) → (k == 2) ≡ b → luns_left (cond b (on_named g lun ResetStarted false) Nothing) vs ≡ luns_after_cycle g t (has_driver vs) (AddressCycle byte) 0 vs
    at true w = work_left g t (AddressCycle byte) lun ResetStarted false (λ s m. is s m ∙ ap (λ (b : Bool). left b m) w) vs
    at false w = nothing_left g t (AddressCycle byte) (λ s m. is s m ∙ ap (λ (b : Bool). left b m) w) (has_driver vs) 0 vs
opener_left g t byte ReadId k vs is = identity_left g t byte (id_effect byte) vs is
opener_left g t byte ReadParameterPage k vs is = identity_left g t byte ParameterPageReadStarted vs is
opener_left g t byte ReadUniqueId k vs is = identity_left g t byte UniqueIdReadStarted vs is
opener_left g t byte GetFeatures k vs is = identity_left g t byte (FeaturesReadStarted byte) vs is
opener_left g t byte SetFeatures k vs is = nothing_left g t (AddressCycle byte) is (has_driver vs) 0 vs
opener_left g t byte SynchronousReset k vs is = nothing_left g t (AddressCycle byte) is (has_driver vs) 0 vs
opener_left g t byte Read k vs is = nothing_left g t (AddressCycle byte) is (has_driver vs) 0 vs
opener_left g t byte ReadConfirm k vs is = nothing_left g t (AddressCycle byte) is (has_driver vs) 0 vs
opener_left g t byte CopybackRead k vs is = nothing_left g t (AddressCycle byte) is (has_driver vs) 0 vs
opener_left g t byte ReadPlane k vs is = nothing_left g t (AddressCycle byte) is (has_driver vs) 0 vs
opener_left g t byte ChangeReadColumn k vs is = nothing_left g t (AddressCycle byte) is (has_driver vs) 0 vs
opener_left g t byte ChangeReadColumnEnhanced k vs is = nothing_left g t (AddressCycle byte) is (has_driver vs) 0 vs
opener_left g t byte ChangeReadColumnConfirm k vs is = nothing_left g t (AddressCycle byte) is (has_driver vs) 0 vs
opener_left g t byte BlockErase k vs is = nothing_left g t (AddressCycle byte) is (has_driver vs) 0 vs
opener_left g t byte BlockEraseConfirm k vs is = nothing_left g t (AddressCycle byte) is (has_driver vs) 0 vs
opener_left g t byte BlockErasePlane k vs is = nothing_left g t (AddressCycle byte) is (has_driver vs) 0 vs
opener_left g t byte ReadStatus k vs is = nothing_left g t (AddressCycle byte) is (has_driver vs) 0 vs
opener_left g t byte PageProgram k vs is = at (k == 4) refl
  where
    lun : ℕ
    lun = (parts_of g (row_with t byte)).lun

    left : Bool → ℕ → Effect
    left b m = cond b (program_row_effect (names_lun g (row_with t byte) m)) Unaffected

    at : (b : Bool) → (k == 4) ≡ b → luns_left (cond b (OnOne lun ProgramAddressed) Nothing) vs ≡ luns_after_cycle g t (has_driver vs) (AddressCycle byte) 0 vs
    at true w = named_left g t (AddressCycle byte) ProgramAddressed lun (λ s m. is s m ∙ ap (λ (b : Bool). left b m) w) (has_driver vs) vs
    at false w = nothing_left g t (AddressCycle byte) (λ s m. is s m ∙ ap (λ (b : Bool). left b m) w) (has_driver vs) 0 vs
opener_left g t byte ChangeWriteColumn k vs is = nothing_left g t (AddressCycle byte) is (has_driver vs) 0 vs
opener_left g t byte ProgramConfirm k vs is = nothing_left g t (AddressCycle byte) is (has_driver vs) 0 vs
opener_left g t byte ProgramPlane k vs is = nothing_left g t (AddressCycle byte) is (has_driver vs) 0 vs
opener_left g t byte ProgramCache k vs is = nothing_left g t (AddressCycle byte) is (has_driver vs) 0 vs
opener_left g t byte Reset k vs is = nothing_left g t (AddressCycle byte) is (has_driver vs) 0 vs
opener_left g t byte ReadCacheSequential k vs is = nothing_left g t (AddressCycle byte) is (has_driver vs) 0 vs
opener_left g t byte ReadCacheEnd k vs is = nothing_left g t (AddressCycle byte) is (has_driver vs) 0 vs
opener_left g t byte Unknown k vs is = nothing_left g t (AddressCycle byte) is (has_driver vs) 0 vs

pub address_left : (g : Parts) (t : TailFacts) (byte : ℕ) (vs : List LunView) → luns_left (effect_of_address g t byte) vs ≡ luns_after_cycle g t (has_driver vs) (AddressCycle byte) 0 vs
address_left g t byte vs = at t.opening refl
  where
    at : (o : Option Opening) → t.opening ≡ o → luns_left (effect_after_opening g t byte o) vs ≡ luns_after_cycle g t (has_driver vs) (AddressCycle byte) 0 vs
    at None w = nothing_left g t (AddressCycle byte) (λ s m. ap (λ (x : Option Opening). opening_address_effect g t byte x m) w) (has_driver vs) 0 vs
    at (Some o) w = opener_left g t byte o.opener o.addresses vs (λ s m. ap (λ (x : Option Opening). opening_address_effect g t byte x m) w)

-- 4. an input

pub input_left : (g : Parts) (t : TailFacts) (byte : ℕ) (vs : List LunView) → luns_left (effect_of_input g t) vs ≡ luns_after_cycle g t (has_driver vs) (InputCycle byte) 0 vs
input_left g t byte vs = at (ends_features t) refl
  where
    e : Effect
    e = FeaturesSet (t.column % 256)

    at : (b : Bool) → ends_features t ≡ b → luns_left (cond b (effect_of_target g e) Nothing) vs ≡ luns_after_cycle g t (has_driver vs) (InputCycle byte) 0 vs
    at true w = target_left g t (InputCycle byte) e (λ s m. ap (λ (b : Bool). cond b (of_target g m e) Unaffected) w) vs
    at false w = nothing_left g t (InputCycle byte) (λ s m. ap (λ (b : Bool). cond b (of_target g m e) Unaffected) w) (has_driver vs) 0 vs

-- it takes no place in a queue
set_keeps_room : (address : ℕ) (vs : List LunView) → HaveRoom vs → HaveRoom (map (view_after (FeaturesSet address)) vs)
set_keeps_room address [] h = tt
set_keeps_room address (v ∷ vs) h = ((h.0.0, omega arith), set_keeps_room address vs h.1)

either_keeps : (address : ℕ) (b : Bool) (v : LunView) → HasRoom v → HasRoom (view_after (cond b (FeaturesSet address) Deselected) v)
either_keeps address true v h = (h.0, omega arith)
either_keeps address false v h = h

apart_keeps_room : (address n : ℕ) (vs : List LunView) → HaveRoom vs → HaveRoom (apart_from n 0 (FeaturesSet address) Deselected vs)
apart_keeps_room address n [] h = tt
apart_keeps_room address n (v ∷ vs) h = (either_keeps address (n == 0) v h.0, apart_keeps_room address (n + 1) vs h.1)

pub input_keeps_room : (g : Parts) (t : TailFacts) (vs : List LunView) → HaveRoom vs → HaveRoom (luns_left (effect_of_input g t) vs)
input_keeps_room g t vs h = at (ends_features t) (is_shared g)
  where
    address : ℕ
    address = t.column % 256

    at : (b sh : Bool) → HaveRoom (luns_left (cond b (cond sh (Apart 0 (FeaturesSet address) Deselected) (OnEach (FeaturesSet address))) Nothing) vs)
    at true true = apart_keeps_room address 0 vs h
    at true false = set_keeps_room address vs h
    at false sh = h
