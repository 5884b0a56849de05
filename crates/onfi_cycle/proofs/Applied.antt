-- What an item makes of the LUNs of its target, by its parts.
use Rattle.std.specs.List.{list_any}
use Rattle.std.proofs.Common.{◌≡◌, ℕ, zero, suc, ◌+◌, ◌<◌, ◌==◌, ◌≢◌, ◌≤◌, length, Bool, true, false, ◌||◌, ◌&&◌, cond, Option, Some, None, List, [], ◌∷◌, refl, sym, ap, ◌∙◌, arith, set, get_or}
use Rattle.std.proofs.lemmas.Bool.Decides.{nat_tests}
use Rattle.nand_geometry.specs.declared.parts.Parts.{Parts}
use Rattle.onfi_cycle.specs.declared.command.Command.{Command}
use Rattle.onfi_cycle.specs.declared.opening.Opening.{Opening}
use Rattle.onfi_cycle.specs.declared.command.Command.TheVariants.{Read, ReadConfirm, ChangeReadColumn, ChangeReadColumnConfirm, BlockErase, BlockEraseConfirm, BlockErasePlane, ReadStatus, ReadStatusEnhanced, PageProgram, ChangeWriteColumn, ProgramConfirm, ProgramPlane, ReadId, ReadParameterPage, Reset, ReadCacheSequential, ReadCacheEnd, ReadUniqueId, GetFeatures, SetFeatures, ResetLun, SynchronousReset, Unknown, ChangeReadColumnEnhanced, ReadPlane, CopybackRead, ProgramCache}
use Rattle.onfi_cycle.specs.declared.item.Cycle.{Cycle}
use Rattle.onfi_cycle.specs.declared.effect.Effect.{Effect}
use Rattle.onfi_cycle.specs.declared.effect.Effect.TheVariants.{Unaffected, BecameReady, ArrayBecameReady}
use Rattle.onfi_cycle.specs.declared.item.Failures.{Failures}
use Rattle.onfi_cycle.specs.declared.item.Item.{Item}
use Rattle.onfi_cycle.specs.declared.item.Item.TheVariants.{Cyc, Rdy, Ard}
use Rattle.onfi_cycle.specs.declared.latch.Latch.{Latch}
use Rattle.onfi_cycle.specs.declared.latch.Latch.TheVariants.{Off}
use Rattle.onfi_cycle.specs.declared.tail_facts.TailFacts.{TailFacts}
use Rattle.onfi_cycle.specs.declared.target_cycle.TargetCycle.{TargetCycle}
use Rattle.onfi_cycle.specs.declared.target_cycle.TargetCycle.TheVariants.{CommandCycle, AddressCycle, InputCycle, OutputCycle}
use Rattle.onfi_cycle.specs.LunView.{LunView}
use Rattle.onfi_cycle.specs.Command.{is_page_program}
use Rattle.onfi_cycle.specs.Applied.{luns_after_cycle, one_after, needs_no_row, acts_by_address, may_act}
use Rattle.onfi_cycle.specs.Effect.{cycle_effect, command_effect, address_effect, opening_address_effect, is_data}
use Rattle.onfi_cycle.specs.Lun.{view_after}
use Rattle.onfi_cycle.specs.Sequence.{target_cycle, facts_after, opened, wants_command}
use Rattle.onfi_cycle.specs.State.{TargetView, luns_after, effect_alone, has_driver, target_after, target}
use Rattle.std.proofs.lemmas.Bool.{eq-eqb, or_parts as neither}
use Rattle.onfi_cycle.proofs.Booleans.{eqb_self}

-- 1. a cycle

pub cycle_on_luns : (g : Parts) (t : TailFacts) (sole : Bool) (c : Cycle) (n : ℕ) (vs : List LunView) → luns_after_cycle g t sole (target_cycle c.kind c.byte) n vs ≡ luns_after g t sole (Cyc c) n vs
cycle_on_luns g t sole c n [] = refl
cycle_on_luns g t sole c n (v ∷ vs) =
    rw (eqb_self c.ce) (ap (λ (ws : List LunView). view_after (cycle_effect g t (cond sole v.latch Off) (target_cycle c.kind c.byte) n) v ∷ ws) (cycle_on_luns g t sole c (n + 1) vs))

-- a cycle that can't act

command_rests : (g : Parts) (t : TailFacts) (s : Latch) (c : Command) (n : ℕ) → (needs_no_row c || wants_command t c) ≡ false → command_effect g t s c n ≡ Unaffected
command_rests g t s Read n h = cc
command_rests g t s ReadConfirm n h = rw h refl
command_rests g t s ReadPlane n h = rw h refl
command_rests g t s CopybackRead n h = rw h refl
command_rests g t s ChangeReadColumn n h = rw h refl
command_rests g t s ChangeReadColumnEnhanced n h = rw h refl
command_rests g t s ChangeReadColumnConfirm n h = cc
command_rests g t s BlockErase n h = rw h refl
command_rests g t s BlockEraseConfirm n h = rw h refl
command_rests g t s BlockErasePlane n h = rw h refl
command_rests g t s ReadStatus n h = cc
command_rests g t s ReadStatusEnhanced n h = cc
command_rests g t s PageProgram n h = rw h refl
command_rests g t s ChangeWriteColumn n h = rw h refl
command_rests g t s ProgramConfirm n h = rw h refl
command_rests g t s ProgramPlane n h = rw h refl
command_rests g t s ProgramCache n h = rw h refl
command_rests g t s ReadId n h = rw h refl
command_rests g t s ReadParameterPage n h = rw h refl
command_rests g t s Reset n h = cc
command_rests g t s ReadCacheSequential n h = cc
command_rests g t s ReadCacheEnd n h = cc
command_rests g t s ReadUniqueId n h = rw h refl
command_rests g t s GetFeatures n h = rw h refl
command_rests g t s SetFeatures n h = rw h refl
command_rests g t s ResetLun n h = rw h refl
command_rests g t s SynchronousReset n h = cc
command_rests g t s Unknown n h = rw h refl

address_rests : (g : Parts) (t : TailFacts) (byte : ℕ) (c : Command) (k n : ℕ) → (acts_by_address c || (is_page_program c && k == 4)) ≡ false → address_effect g t byte c k n ≡ Unaffected
address_rests g t byte Read k n h = refl
address_rests g t byte ReadConfirm k n h = refl
address_rests g t byte ReadPlane k n h = refl
address_rests g t byte CopybackRead k n h = refl
address_rests g t byte ChangeReadColumn k n h = refl
address_rests g t byte ChangeReadColumnEnhanced k n h = refl
address_rests g t byte ChangeReadColumnConfirm k n h = refl
address_rests g t byte BlockErase k n h = refl
address_rests g t byte BlockEraseConfirm k n h = refl
address_rests g t byte BlockErasePlane k n h = refl
address_rests g t byte ReadStatus k n h = refl
address_rests g t byte ReadStatusEnhanced k n h = cc
address_rests g t byte PageProgram k n h = rw h refl
address_rests g t byte ChangeWriteColumn k n h = refl
address_rests g t byte ProgramConfirm k n h = refl
address_rests g t byte ProgramPlane k n h = refl
address_rests g t byte ProgramCache k n h = refl
address_rests g t byte ReadId k n h = cc
address_rests g t byte ReadParameterPage k n h = cc
address_rests g t byte Reset k n h = refl
address_rests g t byte ReadCacheSequential k n h = refl
address_rests g t byte ReadCacheEnd k n h = refl
address_rests g t byte ReadUniqueId k n h = cc
address_rests g t byte GetFeatures k n h = cc
address_rests g t byte SetFeatures k n h = refl
address_rests g t byte ResetLun k n h = cc
address_rests g t byte SynchronousReset k n h = refl
address_rests g t byte Unknown k n h = refl

opening_rests : (g : Parts) (t : TailFacts) (byte : ℕ) (o : Option Opening) (n : ℕ) → opened (λ c k. acts_by_address c || (is_page_program c && k == 4)) o ≡ false → opening_address_effect g t byte o n ≡ Unaffected
opening_rests g t byte None n h = refl
opening_rests g t byte (Some o) n h = address_rests g t byte o.opener o.addresses n h

output_rests : (g : Parts) (t : TailFacts) (sole : Bool) (s : Latch) (n : ℕ) → is_data s ≡ false → cycle_effect g t (cond sole s Off) OutputCycle n ≡ Unaffected
output_rests g t true s n h = rw h refl
output_rests g t false s n h = refl

goes_on : (g : Parts) (t : TailFacts) (sole : Bool) (cycle : TargetCycle) (n : ℕ) (v : LunView) (vs : List LunView) → cycle_effect g t (cond sole v.latch Off) cycle n ≡ Unaffected → vs ≡ luns_after_cycle g t sole cycle (n + 1) vs → v ∷ vs ≡ luns_after_cycle g t sole cycle n (v ∷ vs)
goes_on g t sole cycle n v vs none rest =
    ap (λ (ws : List LunView). v ∷ ws) rest ∙ ap (λ (e : Effect). view_after e v ∷ luns_after_cycle g t sole cycle (n + 1) vs) (sym none)

pub luns_rest : (g : Parts) (t : TailFacts) (sole : Bool) (cycle : TargetCycle) (n : ℕ) (vs : List LunView) → may_act t vs cycle ≡ false → vs ≡ luns_after_cycle g t sole cycle n vs
luns_rest g t sole cycle n [] h = refl
luns_rest g t sole (CommandCycle c) n (v ∷ vs) h =
    goes_on g t sole (CommandCycle c) n v vs (command_rests g t (cond sole v.latch Off) c n h) (luns_rest g t sole (CommandCycle c) (n + 1) vs h)
luns_rest g t sole (AddressCycle byte) n (v ∷ vs) h =
    goes_on g t sole (AddressCycle byte) n v vs (opening_rests g t byte t.opening n h) (luns_rest g t sole (AddressCycle byte) (n + 1) vs h)
luns_rest g t sole (InputCycle byte) n (v ∷ vs) h =
    goes_on g t sole (InputCycle byte) n v vs (rw h refl) (luns_rest g t sole (InputCycle byte) (n + 1) vs h)
luns_rest g t sole OutputCycle n (v ∷ vs) h =
    goes_on g t sole OutputCycle n v vs (output_rests g t sole v.latch n (neither (is_data v.latch) (list_any (λ (w : LunView). is_data w.latch) vs) h).0) (luns_rest g t sole OutputCycle (n + 1) vs (neither (is_data v.latch) (list_any (λ (w : LunView). is_data w.latch) vs) h).1)

-- 2. a ready

eq_false : (a b : ℕ) → a ≢ b → (a == b) ≡ false
eq_false a b ne = grind (arith, nat_tests)

-- the item does this to the LUN of one number, and nothing to the others
abbrev IsOfOne : Parts → TailFacts → Bool → Item → Effect → ℕ → Type 0
IsOfOne g t sole i a lun = (m : ℕ) (v : LunView) → effect_alone g t sole i m v ≡ cond (lun == m) a Unaffected

behind_one : (g : Parts) (t : TailFacts) (sole : Bool) (i : Item) (a : Effect) (lun : ℕ) → IsOfOne g t sole i a lun → (n : ℕ) → lun < n → (vs : List LunView) → vs ≡ luns_after g t sole i n vs
behind_one g t sole i a lun is n low [] = refl
behind_one g t sole i a lun is n low (v ∷ vs) =
    let ne : lun ≢ n = omega arith in
    let here : effect_alone g t sole i n v ≡ Unaffected = is n v ∙ ap (λ (b : Bool). cond b a Unaffected) (eq_false lun n ne) in
    ap (λ (e : Effect). view_after e v ∷ vs) (sym here) ∙
    ap (λ (ws : List LunView). view_after (effect_alone g t sole i n v) v ∷ ws) (behind_one g t sole i a lun is (n + 1) (omega arith) vs)

one_on_luns : (g : Parts) (t : TailFacts) (sole : Bool) (i : Item) (a : Effect) (lun : ℕ) → IsOfOne g t sole i a lun → (k n : ℕ) → lun ≡ n + k → (vs : List LunView) → one_after a k vs ≡ luns_after g t sole i n vs
one_on_luns g t sole i a lun is k n at [] = refl
one_on_luns g t sole i a lun is zero n at (v ∷ vs) =
    let same : lun ≡ n = omega arith in
    let here : effect_alone g t sole i n v ≡ a = is n v ∙ ap (λ (b : Bool). cond b a Unaffected) (eq-eqb lun n same) in
    ap (λ (e : Effect). view_after e v ∷ vs) (sym here) ∙
    ap (λ (ws : List LunView). view_after (effect_alone g t sole i n v) v ∷ ws) (behind_one g t sole i a lun is (n + 1) (omega arith) vs)
one_on_luns g t sole i a lun is (suc k) n at (v ∷ vs) =
    let ne : lun ≢ n = omega arith in
    let here : effect_alone g t sole i n v ≡ Unaffected = is n v ∙ ap (λ (b : Bool). cond b a Unaffected) (eq_false lun n ne) in
    ap (λ (e : Effect). view_after e v ∷ one_after a k vs) (sym here) ∙
    ap (λ (ws : List LunView). view_after (effect_alone g t sole i n v) v ∷ ws) (one_on_luns g t sole i a lun is k (n + 1) (omega arith) vs)

pub ready_on_luns : (g : Parts) (t : TailFacts) (sole : Bool) (ce lun : ℕ) (fail : Failures) (vs : List LunView) → one_after (BecameReady fail) lun vs ≡ luns_after g t sole (Rdy ce lun fail) 0 vs
ready_on_luns g t sole ce lun fail vs = one_on_luns g t sole (Rdy ce lun fail) (BecameReady fail) lun (λ m v. rw (eqb_self ce) refl) lun 0 (omega arith) vs

pub array_ready_on_luns : (g : Parts) (t : TailFacts) (sole : Bool) (ce lun : ℕ) (fail : Bool) (vs : List LunView) → one_after (ArrayBecameReady fail) lun vs ≡ luns_after g t sole (Ard ce lun fail) 0 vs
array_ready_on_luns g t sole ce lun fail vs = one_on_luns g t sole (Ard ce lun fail) (ArrayBecameReady fail) lun (λ m v. rw (eqb_self ce) refl) lun 0 (omega arith) vs

-- as the code does it, by a place in a list
pub one_is_set : (a : Effect) (vs : List LunView) (k : ℕ) (d : LunView) → set vs k (view_after a (get_or vs k d)) ≡ one_after a k vs
one_is_set a [] k d = refl
one_is_set a (v ∷ vs) zero d = refl
one_is_set a (v ∷ vs) (suc k) d = ap (λ (ws : List LunView). v ∷ ws) (one_is_set a vs k d)

pub one_beyond : (a : Effect) (vs : List LunView) (k : ℕ) → length vs ≤ k → vs ≡ one_after a k vs
one_beyond a [] k h = refl
one_beyond a (v ∷ vs) zero h = absurd (omega arith)
one_beyond a (v ∷ vs) (suc k) h = ap (λ (ws : List LunView). v ∷ ws) (one_beyond a vs k (omega arith))

pub one_set : (a : Effect) (vs : List LunView) (n k : ℕ) (d v : LunView) → k ≡ n → v ≡ view_after a (get_or vs k d) → set vs k v ≡ one_after a n vs
one_set a vs n k d v place is = ap (λ (w : LunView). set vs k w) is ∙ (one_is_set a vs k d ∙ ap (λ (m : ℕ). one_after a m vs) place)

-- 3. a target

pub target_cycled : (g : Parts) (c : Cycle) (cycle : TargetCycle) (s u : TargetView) → cycle ≡ target_cycle c.kind c.byte → u.tail ≡ facts_after cycle s.tail → u.luns ≡ luns_after_cycle g s.tail (has_driver s.luns) cycle 0 s.luns → u ≡ target_after g (Cyc c) s
target_cycled g c cycle s u is tail luns =
    ap (λ (t : TailFacts). target t u.luns) (tail ∙ ap (λ (d : TargetCycle). facts_after d s.tail) is) ∙
    ap (target (facts_after (target_cycle c.kind c.byte) s.tail)) (luns ∙ (ap (λ (d : TargetCycle). luns_after_cycle g s.tail (has_driver s.luns) d 0 s.luns) is ∙ cycle_on_luns g s.tail (has_driver s.luns) c 0 s.luns))

pub target_readied : (g : Parts) (ce lun : ℕ) (fail : Failures) (t : TailFacts) (vs ws : List LunView) (s : TargetView) → ws ≡ one_after (BecameReady fail) lun vs → target t vs ≡ s → target t ws ≡ target_after g (Rdy ce lun fail) s
target_readied g ce lun fail t vs ws s is whole =
    ap (target t) (is ∙ ready_on_luns g t (has_driver vs) ce lun fail vs) ∙ ap (λ (u : TargetView). target_after g (Rdy ce lun fail) u) whole

pub target_array_readied : (g : Parts) (ce lun : ℕ) (fail : Bool) (t : TailFacts) (vs ws : List LunView) (s : TargetView) → ws ≡ one_after (ArrayBecameReady fail) lun vs → target t vs ≡ s → target t ws ≡ target_after g (Ard ce lun fail) s
target_array_readied g ce lun fail t vs ws s is whole =
    ap (target t) (is ∙ array_ready_on_luns g t (has_driver vs) ce lun fail vs) ∙ ap (λ (u : TargetView). target_after g (Ard ce lun fail) u) whole
