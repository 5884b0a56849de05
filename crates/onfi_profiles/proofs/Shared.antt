-- On a target with several LUNs: what a cycle that the base profile permits does to a LUN in it, and in the wider one.
use Rattle.std.proofs.Common.{◌≡◌, ℕ, ◌<◌, ◌==◌, ◌⊎◌, inl, inr, Bool, true, false, ◌&&◌, cond, not, Option, Some, None, refl, sym, ap, ◌∙◌, subst}
use Rattle.nand_geometry.specs.declared.parts.Parts.{Parts}
use Rattle.nand_geometry.specs.Row.{parts_of}
use Rattle.onfi_cycle.specs.declared.command.Command.{Command}
use Rattle.onfi_cycle.specs.declared.command.Command.TheVariants.{Read, ReadConfirm, ReadPlane, CopybackRead, PageProgram, ReadStatus, ReadStatusEnhanced, Reset, SynchronousReset, ReadCacheSequential, ReadCacheEnd, ChangeReadColumnConfirm, BlockEraseConfirm, BlockErasePlane, ProgramConfirm, ProgramPlane, ReadId, ReadParameterPage, ReadUniqueId, GetFeatures, ResetLun, ProgramCache}
use Rattle.onfi_cycle.specs.declared.effect.Effect.{Effect}
use Rattle.onfi_cycle.specs.declared.effect.Effect.TheVariants.{ProgramAddressed, Unaffected, DataOutputEnabled, StatusRowAwaited, SelectedForStatus, Deselected, ReadStarted, EraseStarted, ProgramStarted, CacheReadContinued, CacheReadEnded, ReadColumnChanged, DataOutput, BecameReady, ArrayBecameReady, AnotherAddressed}
use Rattle.onfi_cycle.specs.declared.latch.Latch.{Latch}
use Rattle.onfi_cycle.specs.declared.latch.Latch.TheVariants.{Off, Status, Data}
use Rattle.onfi_cycle.specs.declared.opening.Opening.{Opening}
use Rattle.onfi_cycle.specs.declared.tail_facts.TailFacts.{TailFacts}
use Rattle.onfi_cycle.specs.declared.target_cycle.TargetCycle.{TargetCycle}
use Rattle.onfi_cycle.specs.declared.target_cycle.TargetCycle.TheVariants.{CommandCycle, AddressCycle, InputCycle, OutputCycle}
use Rattle.onfi_cycle.specs.LunView.{LunView}
use Rattle.onfi_cycle.specs.Base.{is_of_base}
use Rattle.onfi_cycle.specs.Command.{reads_identity, wants_one_lun}
use Rattle.onfi_cycle.specs.Sequence.{opened, takes_features, wants_command, row, row_with, selects_plane}
use Rattle.onfi_cycle.specs.Effect.{program_row_effect, is_off, is_data, is_shared, page_address, names_lun, command_effect, address_effect, opening_address_effect, cycle_effect, row_effect, cache_effect, plane_effect, column_effect}
use Rattle.onfi_cycle.specs.Lun.{latch_after, resumed, closer_after, is_target_work, view_after}
use Rattle.onfi_cycle.specs.Applied.{asks_driver}
use Rattle.onfi_cycle.proofs.Booleans.{eqb_self}
use Rattle.onfi_profiles.specs.Widening.{in_base}
use Rattle.onfi_profiles.proofs.OldTails.{is_base_cycle}
use Rattle.onfi_profiles.proofs.Unwanted.{no_plane}
use Rattle.onfi_profiles.proofs.Turns.{Turn, kept, chosen, reads}

abbrev pub one_lun_cycle : TargetCycle → Bool
one_lun_cycle (CommandCycle c) = wants_one_lun c
one_lun_cycle _ = false

-- what a cycle that the base profile permits there, and the tail before it, keep to
pub record IsPlain (g : Parts) (t : TailFacts) (k : TargetCycle) : Type 0 where
  pub command : one_lun_cycle k ≡ false
  pub base : is_base_cycle k ≡ true
  pub opener : opened (λ c n. not (is_of_base c)) t.opening ≡ false
  pub identity : not (opened (λ c n. reads_identity c) t.opening) ≡ true
  pub phase : takes_features t.phase ≡ false
  pub inside : wants_command t ReadConfirm ≡ true → (parts_of g (row t)).lun < g.luns
  pub alone : k ≡ CommandCycle ReadCacheSequential → wants_command t ReadCacheSequential ≡ false

-- 1. the latches

still : (b : Bool) (x y : Effect) (s w : Bool) (l : Latch) → latch_after x s w l ≡ l → latch_after y s w l ≡ l → latch_after (cond b x y) s w l ≡ l
still true x y s w l hx hy = hx
still false x y s w l hx hy = hy

resumed_on : (x : Latch) → is_off x ≡ false → is_off (resumed x) ≡ false
resumed_on Off h = cc
resumed_on Status h = refl
resumed_on Data h = refl

cached : (o s w s' w' : Bool) (l : Latch) (e : Effect) → ((s w : Bool) → latch_after e s w l ≡ Data) → latch_after (cond o Unaffected e) s w l ≡ latch_after (cond o Unaffected e) s' w' l
cached true s w s' w' l e h = refl
cached false s w s' w' l e h = h s w ∙ sym (h s' w')

picked : (n s w s' w' : Bool) (l l' : Latch) → latch_after (cond n SelectedForStatus Deselected) s w l ≡ latch_after (cond n SelectedForStatus Deselected) s' w' l'
picked true s w s' w' l l' = refl
picked false s w s' w' l l' = refl

passed_over : (s w : Bool) (l : Latch) → (latch_after (AnotherAddressed true) s w l ≡ l) ⊎ (latch_after (AnotherAddressed true) s w l ≡ Off)
passed_over s true l = inl refl
passed_over s false l = inr refl

abbrev LatchTurn : Parts → TailFacts → TargetCycle → (lb lw la law : ℕ → Latch) → (sb wb sw ww : ℕ → Bool) → Type 0
LatchTurn g t k lb lw la law sb wb sw ww =
    Turn g.luns lb lw (λ m. latch_after (cycle_effect (in_base g) t (la m) k m) (sb m) (wb m) (lb m)) (λ m. latch_after (cycle_effect g t (law m) k m) (sw m) (ww m) (lw m))

-- what those show that the cycle asks for is the same
abbrev Asked : Parts → TargetCycle → (lb lw la law : ℕ → Latch) → Type 0
Asked g k lb lw la law = asks_driver k ≡ true → (m : ℕ) → m < g.luns → (lw m ≡ lb m) × (law m ≡ la m)

command_turn : (g : Parts) (t : TailFacts) (c : Command) → is_shared g ≡ true → IsPlain g t (CommandCycle c) → (lb lw la law : ℕ → Latch) (sb wb sw ww : ℕ → Bool) → Asked g (CommandCycle c) lb lw la law → LatchTurn g t (CommandCycle c) lb lw la law sb wb sw ww
command_turn g t Read shared p lb lw la law sb wb sw ww asked = kept resumed refl resumed_on (λ m low. refl) (λ m low. refl)
command_turn g t ReadStatus shared p lb lw la law sb wb sw ww asked = let never = p.command in cc
command_turn g t Reset shared p lb lw la law sb wb sw ww asked = let never = p.command in cc
command_turn g t SynchronousReset shared p lb lw la law sb wb sw ww asked = let never = p.command in cc
command_turn g t ReadCacheSequential shared p lb lw la law sb wb sw ww asked =
    subst (λ (w : Bool). Turn g.luns lb lw
    (λ m. latch_after (cond w (row_effect (in_base g) t ReadCacheSequential m) (cache_effect (la m))) (sb m) (wb m) (lb m))
    (λ m. latch_after (cond w (row_effect g t ReadCacheSequential m) (cache_effect (law m))) (sw m) (ww m) (lw m))) (sym (p.alone refl))
    (chosen (λ m low. let both = asked refl m low in
    (λ i. latch_after (cond (is_off (both.1 i)) Unaffected (CacheReadContinued None)) (sw m) (ww m) (both.0 i))
    ∙ cached (is_off (la m)) (sw m) (ww m) (sb m) (wb m) (lb m) (CacheReadContinued None) (λ s w. refl)))
command_turn g t ReadCacheEnd shared p lb lw la law sb wb sw ww asked =
    chosen (λ m low. let both = asked refl m low in
    (λ i. latch_after (cond (is_off (both.1 i)) Unaffected CacheReadEnded) (sw m) (ww m) (both.0 i))
    ∙ cached (is_off (la m)) (sw m) (ww m) (sb m) (wb m) (lb m) CacheReadEnded (λ s w. refl))
command_turn g t ChangeReadColumnConfirm shared p lb lw la law sb wb sw ww asked =
    subst (λ (s : Bool). Turn g.luns lb lw
    (λ m. latch_after (cond s (plane_effect (in_base g) t m) (column_effect t (la m))) (sb m) (wb m) (lb m))
    (λ m. latch_after (cond s (plane_effect g t m) (column_effect t (law m))) (sw m) (ww m) (lw m))) (sym (no_plane t p.opener))
    (kept (λ x. x) refl (λ x on. on)
    (λ m low. still (wants_command t ChangeReadColumnConfirm && not (is_off (la m))) (ReadColumnChanged t.column) Unaffected (sb m) (wb m) (lb m) refl refl)
    (λ m low. still (wants_command t ChangeReadColumnConfirm && not (is_off (law m))) (ReadColumnChanged t.column) Unaffected (sw m) (ww m) (lw m) refl refl))
command_turn g t ReadConfirm shared p lb lw la law sb wb sw ww asked = at (wants_command t ReadConfirm) p.inside
  where
    j : ℕ
    j = (parts_of g (row t)).lun

    e : Effect
    e = ReadStarted (page_address g (row t)) t.column

    base : Bool → ℕ → Latch
    base want m = latch_after (cond (want && (parts_of g (row t)).lun == m) e (cond (want && false) (AnotherAddressed true) Unaffected)) (sb m) (wb m) (lb m)

    wide : Bool → ℕ → Latch
    wide want m = latch_after (cond (want && (parts_of g (row t)).lun == m) e (cond (want && is_shared g) (AnotherAddressed true) Unaffected)) (sw m) (ww m) (lw m)

    at : (want : Bool) → (want ≡ true → j < g.luns) → Turn g.luns lb lw (base want) (wide want)
    at true low =
        reads j (low refl) (rw (eqb_self j) refl) (rw (eqb_self j) refl)
        (λ m less ne. rw ne refl)
        (λ m less ne. rw (ne, shared) (passed_over (sw m) (ww m) (lw m)))
    at false low = kept (λ x. x) refl (λ x on. on) (λ m less. refl) (λ m less. refl)
command_turn g t ReadPlane shared p lb lw la law sb wb sw ww asked = let never = p.base in cc
command_turn g t CopybackRead shared p lb lw la law sb wb sw ww asked = let never = p.base in cc
command_turn g t ProgramCache shared p lb lw la law sb wb sw ww asked = let never = p.base in cc
command_turn g t BlockEraseConfirm shared p lb lw la law sb wb sw ww asked =
    kept (λ x. x) refl (λ x on. on)
    (λ m low. still (wants_command t BlockEraseConfirm && names_lun g (row t) m) _ _ (sb m) (wb m) (lb m) refl (still (wants_command t BlockEraseConfirm && false) (AnotherAddressed false) Unaffected (sb m) (wb m) (lb m) refl refl))
    (λ m low. still (wants_command t BlockEraseConfirm && names_lun g (row t) m) _ _ (sw m) (ww m) (lw m) refl (still (wants_command t BlockEraseConfirm && is_shared g) (AnotherAddressed false) Unaffected (sw m) (ww m) (lw m) refl refl))
command_turn g t BlockErasePlane shared p lb lw la law sb wb sw ww asked =
    kept (λ x. x) refl (λ x on. on)
    (λ m low. still (wants_command t BlockErasePlane && names_lun g (row t) m) _ _ (sb m) (wb m) (lb m) refl (still (wants_command t BlockErasePlane && false) (AnotherAddressed false) Unaffected (sb m) (wb m) (lb m) refl refl))
    (λ m low. still (wants_command t BlockErasePlane && names_lun g (row t) m) _ _ (sw m) (ww m) (lw m) refl (still (wants_command t BlockErasePlane && is_shared g) (AnotherAddressed false) Unaffected (sw m) (ww m) (lw m) refl refl))
command_turn g t ProgramConfirm shared p lb lw la law sb wb sw ww asked =
    kept (λ x. x) refl (λ x on. on)
    (λ m low. still (wants_command t ProgramConfirm && names_lun g (row t) m) _ _ (sb m) (wb m) (lb m) refl (still (wants_command t ProgramConfirm && false) (AnotherAddressed false) Unaffected (sb m) (wb m) (lb m) refl refl))
    (λ m low. still (wants_command t ProgramConfirm && names_lun g (row t) m) _ _ (sw m) (ww m) (lw m) refl (still (wants_command t ProgramConfirm && is_shared g) (AnotherAddressed false) Unaffected (sw m) (ww m) (lw m) refl refl))
command_turn g t ProgramPlane shared p lb lw la law sb wb sw ww asked =
    kept (λ x. x) refl (λ x on. on)
    (λ m low. still (wants_command t ProgramPlane && names_lun g (row t) m) _ _ (sb m) (wb m) (lb m) refl (still (wants_command t ProgramPlane && false) (AnotherAddressed false) Unaffected (sb m) (wb m) (lb m) refl refl))
    (λ m low. still (wants_command t ProgramPlane && names_lun g (row t) m) _ _ (sw m) (ww m) (lw m) refl (still (wants_command t ProgramPlane && is_shared g) (AnotherAddressed false) Unaffected (sw m) (ww m) (lw m) refl refl))
command_turn g t ReadStatusEnhanced shared p lb lw la law sb wb sw ww asked = kept (λ x. x) refl (λ x on. on) (λ m low. refl) (λ m low. refl)
command_turn g t c shared p lb lw la law sb wb sw ww asked =
    kept (λ x. x) refl (λ x on. on)
    (λ m low. still (wants_command t c && names_lun g (row t) m) Unaffected Unaffected (sb m) (wb m) (lb m) refl refl)
    (λ m low. still (wants_command t c && names_lun g (row t) m) Unaffected Unaffected (sw m) (ww m) (lw m) refl refl)

address_turn : (g : Parts) (t : TailFacts) (byte : ℕ) (o : Option Opening) → opened (λ c n. not (is_of_base c)) o ≡ false → not (opened (λ c n. reads_identity c) o) ≡ true → (lb lw : ℕ → Latch) (sb wb sw ww : ℕ → Bool) → Turn g.luns lb lw (λ m. latch_after (opening_address_effect (in_base g) t byte o m) (sb m) (wb m) (lb m)) (λ m. latch_after (opening_address_effect g t byte o m) (sw m) (ww m) (lw m))
address_turn g t byte None b i lb lw sb wb sw ww = kept (λ x. x) refl (λ x on. on) (λ m low. refl) (λ m low. refl)
address_turn g t byte (Some o) b i lb lw sb wb sw ww = kind o.opener o.addresses b i
  where
    kind : (c : Command) (n : ℕ) → not (is_of_base c) ≡ false → not (reads_identity c) ≡ true → Turn g.luns lb lw (λ m. latch_after (address_effect (in_base g) t byte c n m) (sb m) (wb m) (lb m)) (λ m. latch_after (address_effect g t byte c n m) (sw m) (ww m) (lw m))
    kind ReadStatusEnhanced n b i = at (n == 2)
      where
        at : (third : Bool) → Turn g.luns lb lw (λ m. latch_after (cond third (cond (names_lun g (row_with t byte) m) SelectedForStatus Deselected) Unaffected) (sb m) (wb m) (lb m)) (λ m. latch_after (cond third (cond (names_lun g (row_with t byte) m) SelectedForStatus Deselected) Unaffected) (sw m) (ww m) (lw m))
        at true = chosen (λ m low. picked (names_lun g (row_with t byte) m) (sw m) (ww m) (sb m) (wb m) (lw m) (lb m))
        at false = kept (λ x. x) refl (λ x on. on) (λ m low. refl) (λ m low. refl)
    kind ReadId n b i = cc
    kind ReadParameterPage n b i = cc
    kind ReadUniqueId n b i = cc
    kind GetFeatures n b i = cc
    kind ResetLun n b i = cc
    kind PageProgram n b i =
        kept (λ x. x) refl (λ x on. on)
        (λ m low. still (n == 4) (program_row_effect (names_lun g (row_with t byte) m)) Unaffected (sb m) (wb m) (lb m) (still (names_lun g (row_with t byte) m) ProgramAddressed Unaffected (sb m) (wb m) (lb m) refl refl) refl)
        (λ m low. still (n == 4) (program_row_effect (names_lun g (row_with t byte) m)) Unaffected (sw m) (ww m) (lw m) (still (names_lun g (row_with t byte) m) ProgramAddressed Unaffected (sw m) (ww m) (lw m) refl refl) refl)
    kind c n b i = kept (λ x. x) refl (λ x on. on) (λ m low. refl) (λ m low. refl)

-- what a cycle leaves of the latches
pub cycle_turn : (g : Parts) (t : TailFacts) (k : TargetCycle) → is_shared g ≡ true → IsPlain g t k → (lb lw la law : ℕ → Latch) (sb wb sw ww : ℕ → Bool) → (asks_driver k ≡ true → (m : ℕ) → m < g.luns → (lw m ≡ lb m) × (law m ≡ la m)) → Turn g.luns lb lw (λ m. latch_after (cycle_effect (in_base g) t (la m) k m) (sb m) (wb m) (lb m)) (λ m. latch_after (cycle_effect g t (law m) k m) (sw m) (ww m) (lw m))
cycle_turn g t (CommandCycle c) shared p lb lw la law sb wb sw ww asked = command_turn g t c shared p lb lw la law sb wb sw ww asked
cycle_turn g t (AddressCycle byte) shared p lb lw la law sb wb sw ww asked = address_turn g t byte t.opening p.opener p.identity lb lw sb wb sw ww
cycle_turn g t (InputCycle byte) shared p lb lw la law sb wb sw ww asked = kept (λ x. x) refl (λ x on. on) (λ m low. rw p.phase refl) (λ m low. rw p.phase refl)
cycle_turn g t OutputCycle shared p lb lw la law sb wb sw ww asked =
    kept (λ x. x) refl (λ x on. on)
    (λ m low. still (is_data (la m)) DataOutput Unaffected (sb m) (wb m) (lb m) refl refl)
    (λ m low. still (is_data (law m)) DataOutput Unaffected (sw m) (ww m) (lw m) refl refl)

-- 2. the other facts

-- an effect of the base profile on a target with several LUNs
abbrev pub is_plain : Effect → Bool
is_plain Unaffected = true
is_plain DataOutputEnabled = true
is_plain StatusRowAwaited = true
is_plain SelectedForStatus = true
is_plain Deselected = true
is_plain (ReadStarted _ _) = true
is_plain (EraseStarted _ _) = true
is_plain (ProgramStarted _ _) = true
is_plain (CacheReadContinued _) = true
is_plain CacheReadEnded = true
is_plain (ReadColumnChanged _) = true
is_plain DataOutput = true
is_plain ProgramAddressed = true
is_plain (BecameReady _) = true
is_plain (ArrayBecameReady fail) = true
is_plain _ = false

abbrev pub is_passed : Effect → Bool
is_passed (AnotherAddressed _) = true
is_passed _ = false

-- the same in both, or nothing in the base profile and the work of another LUN in the wider one
pub data Like (e e' : Effect) : Type 0 where
  equal : e ≡ e' → is_plain e ≡ true → Like e e'
  passes : e ≡ Unaffected → is_passed e' ≡ true → Like e e'

plain_choice : (b : Bool) (x y : Effect) → is_plain x ≡ true → is_plain y ≡ true → is_plain (cond b x y) ≡ true
plain_choice true x y hx hy = hx
plain_choice false x y hx hy = hy

row_like : (want named shared x : Bool) (e : Effect) → is_plain e ≡ true → Like (cond (want && named) e (cond (want && false) (AnotherAddressed x) Unaffected)) (cond (want && named) e (cond (want && shared) (AnotherAddressed x) Unaffected))
row_like true true shared x e p = equal refl p
row_like true false true x e p = passes refl refl
row_like true false false x e p = equal refl refl
row_like false named shared x e p = equal refl refl

command_like : (g : Parts) (t : TailFacts) (c : Command) (m : ℕ) (la law : Latch) → wants_one_lun c ≡ false → is_of_base c ≡ true → (c ≡ ReadCacheSequential → wants_command t ReadCacheSequential ≡ false) → selects_plane t ≡ false → (asks_driver (CommandCycle c) ≡ true → law ≡ la) → Like (command_effect (in_base g) t la c m) (command_effect g t law c m)
command_like g t Read m la law one base alone plane asked = equal refl refl
command_like g t ReadStatus m la law one base alone plane asked = cc
command_like g t ReadStatusEnhanced m la law one base alone plane asked = equal refl refl
command_like g t Reset m la law one base alone plane asked = cc
command_like g t SynchronousReset m la law one base alone plane asked = cc
command_like g t ReadCacheSequential m la law one base alone plane asked =
    subst (λ (w : Bool). Like (cond w (row_effect (in_base g) t ReadCacheSequential m) (cache_effect la)) (cond w (row_effect g t ReadCacheSequential m) (cache_effect law))) (sym (alone refl))
    (equal (ap (λ (x : Latch). cond (is_off x) Unaffected (CacheReadContinued None)) (sym (asked refl))) (plain_choice (is_off la) Unaffected (CacheReadContinued None) refl refl))
command_like g t ReadCacheEnd m la law one base alone plane asked = equal (ap (λ (x : Latch). cond (is_off x) Unaffected CacheReadEnded) (sym (asked refl))) (plain_choice (is_off la) Unaffected CacheReadEnded refl refl)
command_like g t ChangeReadColumnConfirm m la law one base alone plane asked =
    subst (λ (s : Bool). Like (cond s (plane_effect (in_base g) t m) (column_effect t la)) (cond s (plane_effect g t m) (column_effect t law))) (sym plane)
    (equal (ap (λ (x : Latch). cond (wants_command t ChangeReadColumnConfirm && not (is_off x)) (ReadColumnChanged t.column) Unaffected) (sym (asked refl)))
    (plain_choice (wants_command t ChangeReadColumnConfirm && not (is_off la)) (ReadColumnChanged t.column) Unaffected refl refl))
command_like g t ReadConfirm m la law one base alone plane asked = row_like (wants_command t ReadConfirm) (names_lun g (row t) m) (is_shared g) true _ refl
command_like g t ReadPlane m la law one base alone plane asked = cc
command_like g t CopybackRead m la law one base alone plane asked = cc
command_like g t ProgramCache m la law one base alone plane asked = cc
command_like g t BlockEraseConfirm m la law one base alone plane asked = row_like (wants_command t BlockEraseConfirm) (names_lun g (row t) m) (is_shared g) false _ refl
command_like g t BlockErasePlane m la law one base alone plane asked = row_like (wants_command t BlockErasePlane) (names_lun g (row t) m) (is_shared g) false _ refl
command_like g t ProgramConfirm m la law one base alone plane asked = row_like (wants_command t ProgramConfirm) (names_lun g (row t) m) (is_shared g) false _ refl
command_like g t ProgramPlane m la law one base alone plane asked = row_like (wants_command t ProgramPlane) (names_lun g (row t) m) (is_shared g) false _ refl
command_like g t c m la law one base alone plane asked = equal refl (plain_choice (wants_command t c && names_lun g (row t) m) Unaffected Unaffected refl refl)

address_like : (g : Parts) (t : TailFacts) (byte : ℕ) (o : Option Opening) (m : ℕ) → opened (λ c n. not (is_of_base c)) o ≡ false → not (opened (λ c n. reads_identity c) o) ≡ true → Like (opening_address_effect (in_base g) t byte o m) (opening_address_effect g t byte o m)
address_like g t byte None m b i = equal refl refl
address_like g t byte (Some o) m b i = kind o.opener o.addresses b i
  where
    kind : (c : Command) (n : ℕ) → not (is_of_base c) ≡ false → not (reads_identity c) ≡ true → Like (address_effect (in_base g) t byte c n m) (address_effect g t byte c n m)
    kind ReadStatusEnhanced n b i = equal refl (plain_choice (n == 2) (cond (names_lun g (row_with t byte) m) SelectedForStatus Deselected) Unaffected (plain_choice (names_lun g (row_with t byte) m) SelectedForStatus Deselected refl refl) refl)
    kind ReadId n b i = cc
    kind ReadParameterPage n b i = cc
    kind ReadUniqueId n b i = cc
    kind GetFeatures n b i = cc
    kind ResetLun n b i = cc
    kind PageProgram n b i = equal refl (plain_choice (n == 4) (program_row_effect (names_lun g (row_with t byte) m)) Unaffected (plain_choice (names_lun g (row_with t byte) m) ProgramAddressed Unaffected refl refl) refl)
    kind c n b i = equal refl refl

pub cycle_like : (g : Parts) (t : TailFacts) (k : TargetCycle) (m : ℕ) (la law : Latch) → IsPlain g t k → (asks_driver k ≡ true → law ≡ la) → Like (cycle_effect (in_base g) t la k m) (cycle_effect g t law k m)
cycle_like g t (CommandCycle c) m la law p asked = command_like g t c m la law p.command p.base (λ is. p.alone (ap CommandCycle is)) (no_plane t p.opener) asked
cycle_like g t (AddressCycle byte) m la law p asked = address_like g t byte t.opening m p.opener p.identity
cycle_like g t (InputCycle byte) m la law p asked = rw p.phase (equal refl refl)
cycle_like g t OutputCycle m la law p asked = equal (ap (λ (x : Latch). cond (is_data x) DataOutput Unaffected) (sym (asked refl))) (plain_choice (is_data la) DataOutput Unaffected refl refl)

-- a LUN without what it shows, and without what the wider profile alone looks at
abbrev pub core : LunView → LunView
core v = record v { latch = Off; selected = false; overlapped = false }

passed_leaves : (e : Effect) (v : LunView) → is_passed e ≡ true → core (view_after e v) ≡ core v
passed_leaves (AnotherAddressed x) v h = refl
passed_leaves _ v h = cc

pub core_on : (e e' : Effect) (b w : LunView) → Like e e' → core b ≡ core w → core (view_after e b) ≡ core (view_after e' w)
core_on e e' b w (equal is plain) c = ap (λ (x : Effect). core (view_after x b)) is ∙ ap (λ (v : LunView). core (view_after e' v)) c
core_on e e' b w (passes none is) c = ap (λ (x : Effect). core (view_after x b)) none ∙ (c ∙ sym (passed_leaves e' w is))

-- in the base profile no such LUN works for its whole target
calm_by : (e : Effect) (c : Option Command) → is_plain e ≡ true → is_target_work c ≡ false → is_target_work (closer_after e c) ≡ false
calm_by Unaffected c p h = h
calm_by DataOutputEnabled c p h = h
calm_by StatusRowAwaited c p h = h
calm_by SelectedForStatus c p h = h
calm_by Deselected c p h = h
calm_by (ReadStarted page column) c p h = refl
calm_by (EraseStarted true row) c p h = refl
calm_by (EraseStarted false row) c p h = refl
calm_by (ProgramStarted true page) c p h = refl
calm_by (ProgramStarted false page) c p h = refl
calm_by (CacheReadContinued to) c p h = refl
calm_by CacheReadEnded c p h = refl
calm_by (ReadColumnChanged column) c p h = h
calm_by DataOutput c p h = h
calm_by (BecameReady failed) c p h = h
calm_by (ArrayBecameReady fail) c p h = h
calm_by _ c p h = cc

pub calm_on : (e e' : Effect) (c : Option Command) → Like e e' → is_target_work c ≡ false → is_target_work (closer_after e c) ≡ false
calm_on e e' c (equal is plain) h = calm_by e c plain h
calm_on e e' c (passes none is) h = ap (λ (x : Effect). is_target_work (closer_after x c)) none ∙ h
