-- What may still come of a sequence that isn't seen, and what is seen meanwhile.
use Rattle.std.proofs.Common.{◌≡◌, ◌⊎◌, inl, inr, ℕ, ◌+◌, ◌<◌, ◌==◌, Bool, true, false, cond, not, ◌&&◌, ◌||◌, ltb, List, [], length, Option, Some, None, refl, sym, ap, ◌∙◌, subst, slice_get, eqb-true, true≢false}
use Rattle.std.proofs.lemmas.Bool.{and_parts, or_parts, not-true, not-false}
use Rattle.std.proofs.lemmas.Option.{slice_get_within}
use Rattle.nand_geometry.specs.declared.parts.Parts.{Parts}
use Rattle.nand_geometry.specs.Limits.{planes}
use Rattle.nand_geometry.specs.Optional.{is_wide}
use Rattle.nand_geometry.specs.Row.{row_of}
use Rattle.onfi_cycle.specs.declared.command.Command.{Command}
use Rattle.onfi_cycle.specs.declared.command.Command.TheVariants.{Read, ReadConfirm, ChangeReadColumnEnhanced, ChangeReadColumnConfirm, BlockErase, BlockEraseConfirm, BlockErasePlane, ReadPlane, CopybackRead, ReadStatusEnhanced, PageProgram, ChangeWriteColumn, ProgramConfirm, ProgramPlane, ProgramCache, ReadId, ReadParameterPage, ReadUniqueId, GetFeatures, SetFeatures, ResetLun, Unknown}
use Rattle.onfi_cycle.specs.declared.data_phase.DataPhase.{DataPhase}
use Rattle.onfi_cycle.specs.declared.data_phase.DataPhase.TheVariants.{Outside, Inputs, FirstColumn, SecondColumn, FeatureInputs}
use Rattle.onfi_cycle.specs.declared.effect.Effect.{Effect}
use Rattle.onfi_cycle.specs.declared.effect.Effect.TheVariants.{Unaffected, IdRead, IdentityRead, UniqueIdReadStarted, FeaturesReadStarted, FeaturesSet, ParameterPageReadStarted, Deselected, ReadColumnChanged, PlaneSelected, DataOutput, ProgramAddressed, AnotherAddressed}
use Rattle.onfi_cycle.specs.declared.latch.Latch.{Latch}
use Rattle.onfi_cycle.specs.declared.opening.Opening.{Opening}
use Rattle.onfi_cycle.specs.declared.tail_facts.TailFacts.{TailFacts}
use Rattle.onfi_cycle.specs.declared.target_cycle.TargetCycle.{TargetCycle}
use Rattle.onfi_cycle.specs.declared.target_cycle.TargetCycle.TheVariants.{CommandCycle, AddressCycle, InputCycle, OutputCycle}
use Rattle.onfi_cycle.specs.Bounds.{is_block_erase, is_read}
use Rattle.onfi_cycle.specs.declared.row_bytes.RowBytes.{RowBytes}
use Rattle.onfi_cycle.specs.Command.{is_opener, closes_row, reads_row, closes, address_cycles, takes_address, is_enhanced_column, begins_data}
use Rattle.onfi_cycle.specs.Effect.{is_off, is_data, is_shared, of_target, other_effect, confirm_effect, plane_of_row, plane_effect, column_effect, names_lun, command_effect, id_effect, program_row_effect, address_effect, opening_address_effect, cycle_effect, ends_features}
use Rattle.onfi_cycle.specs.LunView.{LunView}
use Rattle.trace_faults.specs.Outside.{opens_sequence}
use Rattle.onfi_cycle.specs.Rules.{opens_here, breaks_command_misplaced, breaks_address_misplaced, is_undeclared_address}
use Rattle.onfi_cycle.specs.Sequence.{begins_anew, row_with, one_address_more, row_after_address, wants_column, opened, takes_data, phase_after_command, phase_after_address, phase_after_last_address, phase_after_input, selects_plane, wants_address, wants_command, row, extended_facts, facts_after}
use Rattle.onfi_cycle.proofs.Passed.{KeepsRules}
use Rattle.trace_faults.specs.declared.lun_known.LunKnown.TheVariants.{Nothing}
use Rattle.recording_laws.proofs.Luns.{IsBelow, Fits, IsHarmless, IsBlank, blank_harmless}

-- ---- 1. tails of which nothing comes that is to be seen

-- after these openers an address or a closer takes something from what was seen
abbrev pub is_led : Command → Bool
is_led ReadStatusEnhanced = true
is_led ResetLun = true
is_led BlockErase = true
is_led PageProgram = true
is_led ChangeWriteColumn = true
is_led Read = true
is_led ChangeReadColumnEnhanced = true
is_led _ = false

-- the sequence of the tail takes nothing from what was seen
abbrev pub is_quiet_by : Option Opening → DataPhase → Bool
is_quiet_by None Outside = true
is_quiet_by None FeatureInputs = true
is_quiet_by (Some o) Outside = not (is_led o.opener)
is_quiet_by (Some o) FeatureInputs = not (is_led o.opener)
is_quiet_by _ _ = false

abbrev pub is_quiet : TailFacts → Bool
is_quiet t = is_quiet_by t.opening t.phase

-- the tail names the row of an erase or of a program, or in the base profile of a read, and it is whole
abbrev pub is_whole_row : Parts → Opening → Bool
is_whole_row g o = (is_block_erase o.opener && o.addresses == 3) || (not (is_wide g.optional) && (is_read o.opener && o.addresses == 5))

abbrev pub is_named_by : Parts → Option Opening → DataPhase → Bool
is_named_by g None Inputs = true
is_named_by g None FirstColumn = true
is_named_by g None SecondColumn = true
is_named_by g (Some o) Inputs = begins_data o.opener && o.addresses == 5
is_named_by g (Some o) Outside = is_whole_row g o
is_named_by g _ _ = false

abbrev pub is_named : Parts → TailFacts → Bool
is_named g t = is_named_by g t.opening t.phase

-- of the LUN that a row names nothing is seen to be queued
abbrev pub NoneQueued : Parts → ℕ → List LunView → Type 0
NoneQueued g r ss = (m : ℕ) (s : LunView) → slice_get ss m ≡ Some s → names_lun g r m ≡ true → s.queue ≡ []

-- the tail is a Change Read Column Enhanced with its whole row
abbrev pub is_plane_by : Option Opening → DataPhase → Bool
is_plane_by (Some o) Outside = is_enhanced_column o.opener && o.addresses == 5
is_plane_by _ _ = false

abbrev pub is_plane : TailFacts → Bool
is_plane t = is_plane_by t.opening t.phase

-- a row names each LUN of a target, which has one then
abbrev pub AllNamed : Parts → ℕ → List LunView → Type 0
AllNamed g r ss = (m : ℕ) → m < length ss → names_lun g r m ≡ true

abbrev pub AreBlank : List LunView → Type 0
AreBlank ss = (m : ℕ) (s : LunView) → slice_get ss m ≡ Some s → IsBlank s

-- what is seen while the sequence of a tail isn't
pub data MayCome (g : Parts) (t : TailFacts) (ss : List LunView) : Type 0 where
  blank : AreBlank ss → MayCome g t ss
  quiet : is_quiet t ≡ true → MayCome g t ss
  named : is_named g t ≡ true → NoneQueued g (row t) ss → MayCome g t ss
  selecting : is_plane t ≡ true → AllNamed g (row t) ss → MayCome g t ss

-- ---- 2. what may come goes on

pub quiet_command : (c : Command) (p : DataPhase) → takes_data p ≡ false → phase_after_command c p ≡ Outside
quiet_command ChangeWriteColumn Outside h = refl
quiet_command ChangeWriteColumn Inputs h = cc
quiet_command ChangeWriteColumn FirstColumn h = refl
quiet_command ChangeWriteColumn SecondColumn h = refl
quiet_command ChangeWriteColumn FeatureInputs h = refl
quiet_command c p h = refl

-- a command leads back to the data of a program or ends it
write_command : (g : Parts) (c : Command) → (is_quiet_by None (phase_after_command c Inputs) ≡ true) ⊎ (is_named_by g None (phase_after_command c Inputs) ≡ true)
write_command g ChangeWriteColumn = inr refl
write_command g c = inl refl

quiet_last : (c : Command) (n : ℕ) → is_led c ≡ false → is_quiet_by (Some (record { opener = c; addresses = n + 1 })) (phase_after_last_address (Some (record { opener = c; addresses = n }))) ≡ true
quiet_last ReadStatusEnhanced n h = cc
quiet_last ResetLun n h = cc
quiet_last BlockErase n h = cc
quiet_last PageProgram n h = cc
quiet_last ChangeWriteColumn n h = cc
quiet_last Read n h = cc
quiet_last ChangeReadColumnEnhanced n h = cc
quiet_last SetFeatures n h = of (n == 0)
  where
    of : (b : Bool) → is_quiet_by (Some (record { opener = SetFeatures; addresses = n + 1 })) (cond b FeatureInputs Outside) ≡ true
    of true = refl
    of false = refl
quiet_last c n h = refl

feature_input : (b : Bool) → is_quiet_by None (cond b FeatureInputs Outside) ≡ true
feature_input true = refl
feature_input false = refl

module _ (g : Parts) (ss : List LunView) where
  -- by the parts of a tail
  abbrev Comes : Option Opening → DataPhase → ℕ → Type 0
  Comes o p r = (is_quiet_by o p ≡ true) ⊎ (((is_named_by g o p ≡ true) × NoneQueued g r ss) ⊎ ((is_plane_by o p ≡ true) × AllNamed g r ss))

  after_command : (c : Command) (o : Option Opening) (p : DataPhase) (r : ℕ) → Comes o p r → Comes None (phase_after_command c p) r
  after_command c None Outside r h = inl (ap (is_quiet_by None) (quiet_command c Outside refl))
  after_command c (Some o) Outside r h = inl (ap (is_quiet_by None) (quiet_command c Outside refl))
  after_command c None FeatureInputs r h = inl (ap (is_quiet_by None) (quiet_command c FeatureInputs refl))
  after_command c (Some o) FeatureInputs r h = inl (ap (is_quiet_by None) (quiet_command c FeatureInputs refl))
  after_command c None FirstColumn r h = inl (ap (is_quiet_by None) (quiet_command c FirstColumn refl))
  after_command c (Some o) FirstColumn r h = inl (ap (is_quiet_by None) (quiet_command c FirstColumn refl))
  after_command c None SecondColumn r h = inl (ap (is_quiet_by None) (quiet_command c SecondColumn refl))
  after_command c (Some o) SecondColumn r h = inl (ap (is_quiet_by None) (quiet_command c SecondColumn refl))
  after_command c None Inputs r (inl q) = cc
  after_command c (Some o) Inputs r (inl q) = cc
  after_command c None Inputs r (inr (inl n)) = elim (write_command g c) [ inl q ↦ inl q | inr w ↦ inr (inl (w, n.1)) ]
  after_command c (Some o) Inputs r (inr (inl n)) = elim (write_command g c) [ inl q ↦ inl q | inr w ↦ inr (inl (w, n.1)) ]
  after_command c None Inputs r (inr (inr n)) = absurd (true≢false (sym n.0))
  after_command c (Some o) Inputs r (inr (inr n)) = absurd (true≢false (sym n.0))

  after_input : (k : ℕ) (o : Option Opening) (p : DataPhase) (r : ℕ) → Comes o p r → Comes None (phase_after_input k p) r
  after_input k o Outside r h = inl refl
  after_input k o FeatureInputs r h = inl (feature_input (ltb k 3))
  after_input k o FirstColumn r h = inl refl
  after_input k o SecondColumn r h = inl refl
  after_input k None Inputs r (inl q) = cc
  after_input k (Some o) Inputs r (inl q) = cc
  after_input k None Inputs r (inr (inl n)) = inr (inl (refl, n.1))
  after_input k (Some o) Inputs r (inr (inl n)) = inr (inl (refl, n.1))
  after_input k None Inputs r (inr (inr n)) = absurd (true≢false (sym n.0))
  after_input k (Some o) Inputs r (inr (inr n)) = absurd (true≢false (sym n.0))

-- the row of an erase is whole, and that of a program
erase_full : (c : Command) (n byte : ℕ) → (is_block_erase c && n == 3) ≡ true → ((is_opener c && ltb n (address_cycles c) && takes_address c byte) || false) ≡ true → ⊥
erase_full BlockErase n byte e h = let three : n ≡ 3 = eqb-true n 3 e in let full = rw three at h in cc
erase_full c n byte e h = cc

read_full : (c : Command) (n byte : ℕ) → (is_read c && n == 5) ≡ true → ((is_opener c && ltb n (address_cycles c) && takes_address c byte) || false) ≡ true → ⊥
read_full Read n byte e h = let five : n ≡ 5 = eqb-true n 5 e in let full = rw five at h in cc
read_full c n byte e h = cc

plane_full : (c : Command) (n byte : ℕ) → (is_enhanced_column c && n == 5) ≡ true → ((is_opener c && ltb n (address_cycles c) && takes_address c byte) || false) ≡ true → ⊥
plane_full ChangeReadColumnEnhanced n byte e h = let five : n ≡ 5 = eqb-true n 5 e in let full = rw five at h in cc
plane_full c n byte e h = cc

-- so is each row that is named
row_full : (g : Parts) (o : Opening) (byte : ℕ) → is_whole_row g o ≡ true → ((is_opener o.opener && ltb o.addresses (address_cycles o.opener) && takes_address o.opener byte) || false) ≡ true → ⊥
row_full g o byte e h = at (is_block_erase o.opener && o.addresses == 3) refl e
  where
    at : (b : Bool) → (is_block_erase o.opener && o.addresses == 3) ≡ b → (b || (not (is_wide g.optional) && (is_read o.opener && o.addresses == 5))) ≡ true → ⊥
    at true x y = erase_full o.opener o.addresses byte x h
    at false x y = read_full o.opener o.addresses byte (and_parts (not (is_wide g.optional)) (is_read o.opener && o.addresses == 5) y).1 h

program_full : (c : Command) (n byte : ℕ) → (begins_data c && n == 5) ≡ true → ((is_opener c && ltb n (address_cycles c) && takes_address c byte) || false) ≡ true → ⊥
program_full ChangeWriteColumn n byte e h = let five : n ≡ 5 = eqb-true n 5 e in let full = rw five at h in cc
program_full PageProgram n byte e h = let five : n ≡ 5 = eqb-true n 5 e in let full = rw five at h in cc
program_full c n byte e h = cc

abbrev number : RowBytes → ℕ
number r = row_of r.r1 r.r2 r.r3

module _ (g : Parts) (ss : List LunView) where
  after_address : (byte : ℕ) (o : Option Opening) (p : DataPhase) (r : RowBytes) →
      (opened (λ c n. is_opener c && ltb n (address_cycles c) && takes_address c byte) o || wants_column p) ≡ true →
      Comes g ss o p (number r) → Comes g ss (one_address_more o) (phase_after_address o p) (number (row_after_address o byte r))
  after_address byte None Outside r w h = inl refl
  after_address byte None FeatureInputs r w h = inl refl
  after_address byte None Inputs r w h = cc
  after_address byte None FirstColumn r w (inl q) = cc
  after_address byte None FirstColumn r w (inr (inl n)) = inr (inl (refl, n.1))
  after_address byte None FirstColumn r w (inr (inr n)) = absurd (true≢false (sym n.0))
  after_address byte None SecondColumn r w (inl q) = cc
  after_address byte None SecondColumn r w (inr (inl n)) = inr (inl (refl, n.1))
  after_address byte None SecondColumn r w (inr (inr n)) = absurd (true≢false (sym n.0))
  after_address byte (Some o) Outside r w (inl q) = inl (quiet_last o.opener o.addresses (not-true (is_led o.opener) q))
  after_address byte (Some o) Outside r w (inr (inl n)) = absurd (row_full g o byte n.0 w)
  after_address byte (Some o) Outside r w (inr (inr n)) = absurd (plane_full o.opener o.addresses byte n.0 w)
  after_address byte (Some o) Inputs r w (inl q) = cc
  after_address byte (Some o) Inputs r w (inr (inl n)) = absurd (program_full o.opener o.addresses byte n.0 w)
  after_address byte (Some o) Inputs r w (inr (inr n)) = absurd (true≢false (sym n.0))
  after_address byte (Some o) FirstColumn r w (inl q) = cc
  after_address byte (Some o) FirstColumn r w (inr (inl n)) = absurd (true≢false (sym n.0))
  after_address byte (Some o) FirstColumn r w (inr (inr n)) = absurd (true≢false (sym n.0))
  after_address byte (Some o) SecondColumn r w (inl q) = cc
  after_address byte (Some o) SecondColumn r w (inr (inl n)) = absurd (true≢false (sym n.0))
  after_address byte (Some o) SecondColumn r w (inr (inr n)) = absurd (true≢false (sym n.0))
  after_address byte (Some o) FeatureInputs r w (inl q) = inl q
  after_address byte (Some o) FeatureInputs r w (inr (inl n)) = absurd (true≢false (sym n.0))
  after_address byte (Some o) FeatureInputs r w (inr (inr n)) = absurd (true≢false (sym n.0))

address_wanted : (g : Parts) (t : TailFacts) (byte : ℕ) → breaks_address_misplaced g t (AddressCycle byte) ≡ false → wants_address t byte ≡ true
unfolding breaks_address_misplaced
address_wanted g t byte h = not-false (wants_address t byte) (or_parts (not (wants_address t byte)) (is_undeclared_address g t byte) h).0

command_wanted : (g : Parts) (t : TailFacts) (c : Command) → opens_here g c ≡ false → breaks_command_misplaced g t (CommandCycle c) ≡ false → wants_command t c ≡ true
unfolding breaks_command_misplaced
command_wanted g t c o h = not-false (wants_command t c) (rw o at h)

comes_of : (g : Parts) (t : TailFacts) (ss : List LunView) → MayCome g t ss → (AreBlank ss) ⊎ (Comes g ss t.opening t.phase (row t))
comes_of g t ss (blank b) = inl b
comes_of g t ss (quiet q) = inr (inl q)
comes_of g t ss (named n e) = inr (inr (inl (n, e)))
comes_of g t ss (selecting n e) = inr (inr (inr (n, e)))

of_comes : (g : Parts) (t : TailFacts) (ss : List LunView) → Comes g ss t.opening t.phase (row t) → MayCome g t ss
of_comes g t ss (inl q) = quiet q
of_comes g t ss (inr (inl n)) = named n.0 n.1
of_comes g t ss (inr (inr n)) = selecting n.0 n.1

-- what is no opener begins no tail anew
no_opener : (g : Parts) (t : TailFacts) (cycle : TargetCycle) → opens_sequence g cycle ≡ false → breaks_command_misplaced g t cycle ≡ false → begins_anew t cycle ≡ false
no_opener g t (CommandCycle ChangeWriteColumn) h f6 = ap not (command_wanted g t ChangeWriteColumn h f6)
no_opener g t (CommandCycle c) h f6 = cc
no_opener g t (AddressCycle byte) h f6 = refl
no_opener g t (InputCycle byte) h f6 = refl
no_opener g t OutputCycle h f6 = refl

-- a permitted cycle that isn't seen
pub may_come_on : (g : Parts) (t : TailFacts) (ts ss : List LunView) (cycle : TargetCycle) → opens_sequence g cycle ≡ false → KeepsRules g t ts cycle → MayCome g t ss → MayCome g (facts_after cycle t) ss
may_come_on g t ts ss cycle begins k m = elim (comes_of g t ss m) [ inl b ↦ blank b | inr c ↦ rw (no_opener g t cycle begins k.f6) (at t.is_empty refl c) ]
  where
    first : (c : Command) (e : Bool) → e ≡ false → Comes g ss None (phase_after_command c t.phase) (row t) → Comes g ss (cond e (Some (record { opener = c; addresses = 0 })) None) (phase_after_command c t.phase) (row t)
    first c false f x = x
    first c true f x = cc

    goes : (cycle : TargetCycle) → KeepsRules g t ts cycle → t.is_empty ≡ false → Comes g ss t.opening t.phase (row t) → MayCome g (extended_facts cycle t) ss
    goes (CommandCycle c) k f h = of_comes g (extended_facts (CommandCycle c) t) ss (first c t.is_empty f (after_command g ss c t.opening t.phase (row t) h))
    goes (AddressCycle byte) k f h = of_comes g (extended_facts (AddressCycle byte) t) ss (after_address g ss byte t.opening t.phase t.row (address_wanted g t byte k.f7) h)
    goes (InputCycle byte) k f h = of_comes g (extended_facts (InputCycle byte) t) ss (after_input g ss t.inputs t.opening t.phase (row t) h)
    goes OutputCycle k f h = quiet refl

    at : (e : Bool) → t.is_empty ≡ e → Comes g ss t.opening t.phase (row t) → MayCome g (cond e t (extended_facts cycle t)) ss
    at true f c = m
    at false f c = goes cycle k f c

-- ---- 3. what is done meanwhile is harmless

pub harmless_if : (b : Bool) (x : Effect) (s : LunView) → (b ≡ true → IsHarmless x s) → IsHarmless (cond b x Unaffected) s
harmless_if true x s h = h refl
harmless_if false x s h = tt

pub harmless_or : (b : Bool) (x y : Effect) (s : LunView) → (b ≡ true → IsHarmless x s) → IsHarmless y s → IsHarmless (cond b x y) s
harmless_or true x y s h k = h refl
harmless_or false x y s h k = k

-- where a target isn't shared, the closer of a row does nothing to another LUN
pub other_plain : (g : Parts) (t : TailFacts) (c : Command) → is_shared g ≡ false → other_effect g t c ≡ Unaffected
other_plain g t c plain = rw plain (at (closes_row c) (wants_command t c))
  where
    at : (a b : Bool) → cond (a && (b && false)) (AnotherAddressed (reads_row c)) Unaffected ≡ Unaffected
    at true true = refl
    at true false = refl
    at false b = refl

pub other_harmless : (g : Parts) (t : TailFacts) (c : Command) (s : LunView) → is_shared g ≡ false → IsHarmless (other_effect g t c) s
other_harmless g t c s plain = subst (λ (e : Effect). IsHarmless e s) (sym (other_plain g t c plain)) tt

-- and what is done for a whole target is done by each LUN
pub target_plain : (g : Parts) (n : ℕ) (e : Effect) → is_shared g ≡ false → of_target g n e ≡ e
target_plain g n e plain = rw plain refl

target_harmless : (g : Parts) (n : ℕ) (e : Effect) (s : LunView) → is_shared g ≡ false → IsHarmless e s → IsHarmless (of_target g n e) s
target_harmless g n e s plain h = subst (λ (x : Effect). IsHarmless x s) (sym (target_plain g n e plain)) h

pub harmless_unless : (b : Bool) (x : Effect) (s : LunView) → IsHarmless x s → IsHarmless (cond b Unaffected x) s
harmless_unless true x s h = tt
harmless_unless false x s h = h

id_harmless : (byte : ℕ) (s : LunView) → IsHarmless (id_effect byte) s
id_harmless byte s = of (byte == 0x20)
  where
    of : (b : Bool) → IsHarmless (cond b IdRead (IdentityRead (byte == 0x40))) s
    of true = tt
    of false = tt

erase_led : (c : Command) (n : ℕ) → (closes c BlockEraseConfirm && n == address_cycles c) ≡ true → is_led c ≡ true
erase_led BlockErase n h = refl
erase_led c n h = cc

plane_led : (c : Command) (n : ℕ) → (closes c BlockErasePlane && n == address_cycles c) ≡ true → is_led c ≡ true
plane_led BlockErase n h = refl
plane_led c n h = cc

pub not_led : (o : Opening) (p : DataPhase) → is_quiet_by (Some o) p ≡ true → is_led o.opener ≡ false
not_led o Outside q = not-true (is_led o.opener) q
not_led o FeatureInputs q = not-true (is_led o.opener) q
not_led o Inputs q = cc
not_led o FirstColumn q = cc
not_led o SecondColumn q = cc

erase_loud : (o : Option Opening) (p : DataPhase) → is_quiet_by o p ≡ true → opened (λ c n. closes c BlockEraseConfirm && n == address_cycles c) o ≡ true → ⊥
erase_loud None p q h = cc
erase_loud (Some o) p q h = let led = erase_led o.opener o.addresses h in let quiet = not_led o p q in cc

plane_loud : (o : Option Opening) (p : DataPhase) → is_quiet_by o p ≡ true → opened (λ c n. closes c BlockErasePlane && n == address_cycles c) o ≡ true → ⊥
plane_loud None p q h = cc
plane_loud (Some o) p q h = let led = plane_led o.opener o.addresses h in let quiet = not_led o p q in cc

read_led : (c : Command) (n : ℕ) → (closes c ReadConfirm && n == address_cycles c) ≡ true → is_led c ≡ true
read_led Read n h = refl
read_led c n h = cc

read_loud : (o : Option Opening) (p : DataPhase) → is_quiet_by o p ≡ true → opened (λ c n. closes c ReadConfirm && n == address_cycles c) o ≡ true → ⊥
read_loud None p q h = cc
read_loud (Some o) p q h = let led = read_led o.opener o.addresses h in let quiet = not_led o p q in cc

program_loud : (o : Option Opening) (p : DataPhase) → is_quiet_by o p ≡ true → takes_data p ≡ true → ⊥
program_loud None Inputs q h = cc
program_loud (Some o) Inputs q h = cc
program_loud o Outside q h = cc
program_loud o FeatureInputs q h = cc
program_loud o FirstColumn q h = cc
program_loud o SecondColumn q h = cc

-- a 06h with its row is closed by none of these
erase_column : (c : Command) (n : ℕ) → (is_enhanced_column c && n == 5) ≡ true → (closes c BlockEraseConfirm && n == address_cycles c) ≡ true → ⊥
erase_column ChangeReadColumnEnhanced n e h = cc
erase_column c n e h = cc

erase_beside : (o : Option Opening) (p : DataPhase) → is_plane_by o p ≡ true → opened (λ c n. closes c BlockEraseConfirm && n == address_cycles c) o ≡ true → ⊥
erase_beside None p q h = cc
erase_beside (Some o) Outside q h = erase_column o.opener o.addresses q h
erase_beside (Some o) p q h = cc

plane_column : (c : Command) (n : ℕ) → (is_enhanced_column c && n == 5) ≡ true → (closes c BlockErasePlane && n == address_cycles c) ≡ true → ⊥
plane_column ChangeReadColumnEnhanced n e h = cc
plane_column c n e h = cc

plane_beside : (o : Option Opening) (p : DataPhase) → is_plane_by o p ≡ true → opened (λ c n. closes c BlockErasePlane && n == address_cycles c) o ≡ true → ⊥
plane_beside None p q h = cc
plane_beside (Some o) Outside q h = plane_column o.opener o.addresses q h
plane_beside (Some o) p q h = cc

read_column : (c : Command) (n : ℕ) → (is_enhanced_column c && n == 5) ≡ true → (closes c ReadConfirm && n == address_cycles c) ≡ true → ⊥
read_column ChangeReadColumnEnhanced n e h = cc
read_column c n e h = cc

read_beside : (o : Option Opening) (p : DataPhase) → is_plane_by o p ≡ true → opened (λ c n. closes c ReadConfirm && n == address_cycles c) o ≡ true → ⊥
read_beside None p q h = cc
read_beside (Some o) Outside q h = read_column o.opener o.addresses q h
read_beside (Some o) p q h = cc

program_beside : (o : Option Opening) (p : DataPhase) → is_plane_by o p ≡ true → takes_data p ≡ true → ⊥
program_beside None p q h = cc
program_beside (Some o) Outside q h = cc
program_beside (Some o) p q h = cc

copyback_led : (c : Command) (n : ℕ) → (closes c CopybackRead && n == address_cycles c) ≡ true → is_led c ≡ true
copyback_led Read n h = refl
copyback_led c n h = cc

copyback_loud : (o : Option Opening) (p : DataPhase) → is_quiet_by o p ≡ true → opened (λ c n. closes c CopybackRead && n == address_cycles c) o ≡ true → ⊥
copyback_loud None p q h = cc
copyback_loud (Some o) p q h = let led = copyback_led o.opener o.addresses h in let quiet = not_led o p q in cc

copyback_column : (c : Command) (n : ℕ) → (is_enhanced_column c && n == 5) ≡ true → (closes c CopybackRead && n == address_cycles c) ≡ true → ⊥
copyback_column ChangeReadColumnEnhanced n e h = cc
copyback_column c n e h = cc

copyback_beside : (o : Option Opening) (p : DataPhase) → is_plane_by o p ≡ true → opened (λ c n. closes c CopybackRead && n == address_cycles c) o ≡ true → ⊥
copyback_beside None p q h = cc
copyback_beside (Some o) Outside q h = copyback_column o.opener o.addresses q h
copyback_beside (Some o) p q h = cc

-- neither such a tail nor one that names a row of the array is a 06h with its row
column_led : (c : Command) → is_enhanced_column c ≡ true → is_led c ≡ true
column_led ChangeReadColumnEnhanced h = refl
column_led c h = cc

selects_loud : (o : Option Opening) (p : DataPhase) → is_quiet_by o p ≡ true → opened (λ c n. is_enhanced_column c && n == 5) o ≡ true → ⊥
selects_loud None p q h = cc
selects_loud (Some o) p q h =
    let led = column_led o.opener (and_parts (is_enhanced_column o.opener) (o.addresses == 5) h).0 in
    let quiet = not_led o p q in
    absurd (true≢false (sym led ∙ quiet))

erase_apart : (c : Command) → is_block_erase c ≡ true → is_enhanced_column c ≡ true → ⊥
erase_apart BlockErase h e = cc
erase_apart c h e = cc

read_apart : (c : Command) → is_read c ≡ true → is_enhanced_column c ≡ true → ⊥
read_apart Read h e = cc
read_apart c h e = cc

program_apart : (c : Command) → begins_data c ≡ true → is_enhanced_column c ≡ true → ⊥
program_apart PageProgram h e = cc
program_apart ChangeWriteColumn h e = cc
program_apart c h e = cc

row_apart : (g : Parts) (o : Opening) → is_whole_row g o ≡ true → is_enhanced_column o.opener ≡ true → ⊥
row_apart g o h e = at (is_block_erase o.opener && o.addresses == 3) refl h
  where
    at : (b : Bool) → (is_block_erase o.opener && o.addresses == 3) ≡ b → (b || (not (is_wide g.optional) && (is_read o.opener && o.addresses == 5))) ≡ true → ⊥
    at true x y = erase_apart o.opener (and_parts (is_block_erase o.opener) (o.addresses == 3) x).0 e
    at false x y = read_apart o.opener (and_parts (is_read o.opener) (o.addresses == 5) (and_parts (not (is_wide g.optional)) (is_read o.opener && o.addresses == 5) y).1).0 e

named_apart : (g : Parts) (o : Option Opening) (p : DataPhase) → is_named_by g o p ≡ true → opened (λ c n. is_enhanced_column c && n == 5) o ≡ true → ⊥
named_apart g None p n h = cc
named_apart g (Some o) Inputs n h = program_apart o.opener (and_parts (begins_data o.opener) (o.addresses == 5) n).0 (and_parts (is_enhanced_column o.opener) (o.addresses == 5) h).0
named_apart g (Some o) Outside n h = row_apart g o n (and_parts (is_enhanced_column o.opener) (o.addresses == 5) h).0
named_apart g (Some o) FirstColumn n h = absurd (true≢false (sym n))
named_apart g (Some o) SecondColumn n h = absurd (true≢false (sym n))
named_apart g (Some o) FeatureInputs n h = absurd (true≢false (sym n))

-- an address after such an opener
module _ (g : Parts) (t : TailFacts) (byte m : ℕ) (s : LunView) (plain : is_shared g ≡ false) where
  quiet_address : (c : Command) (n : ℕ) → is_led c ≡ false → IsHarmless (address_effect g t byte c n m) s
  quiet_address ReadStatusEnhanced n h = cc
  quiet_address ResetLun n h = cc
  quiet_address Read n h = cc
  quiet_address PageProgram n h = cc
  quiet_address ReadId n h = harmless_if (wants_address t byte) (of_target g m (id_effect byte)) s (λ w. target_harmless g m (id_effect byte) s plain (id_harmless byte s))
  quiet_address ReadParameterPage n h = harmless_if (wants_address t byte) (of_target g m ParameterPageReadStarted) s (λ w. target_harmless g m ParameterPageReadStarted s plain tt)
  quiet_address ReadUniqueId n h = harmless_if (wants_address t byte) (of_target g m UniqueIdReadStarted) s (λ w. target_harmless g m UniqueIdReadStarted s plain tt)
  quiet_address GetFeatures n h = harmless_if (wants_address t byte) (of_target g m (FeaturesReadStarted byte)) s (λ w. target_harmless g m (FeaturesReadStarted byte) s plain tt)
  quiet_address c n h = tt

  erase_address : (c : Command) (n : ℕ) → is_block_erase c ≡ true → IsHarmless (address_effect g t byte c n m) s
  erase_address BlockErase n h = tt
  erase_address c n h = cc

  read_address : (c : Command) (n : ℕ) → is_read c ≡ true → IsHarmless (address_effect g t byte c n m) s
  read_address Read n h = tt
  read_address c n h = cc

  row_address : (o : Opening) → is_whole_row g o ≡ true → IsHarmless (address_effect g t byte o.opener o.addresses m) s
  row_address o h = at (is_block_erase o.opener && o.addresses == 3) refl h
    where
      at : (b : Bool) → (is_block_erase o.opener && o.addresses == 3) ≡ b → (b || (not (is_wide g.optional) && (is_read o.opener && o.addresses == 5))) ≡ true → IsHarmless (address_effect g t byte o.opener o.addresses m) s
      at true x y = erase_address o.opener o.addresses (and_parts (is_block_erase o.opener) (o.addresses == 3) x).0
      at false x y = read_address o.opener o.addresses (and_parts (is_read o.opener) (o.addresses == 5) (and_parts (not (is_wide g.optional)) (is_read o.opener && o.addresses == 5) y).1).0

  program_address : (c : Command) (n : ℕ) → begins_data c ≡ true → IsHarmless (address_effect g t byte c n m) s
  program_address PageProgram n h = harmless_if (n == 4) (program_row_effect (names_lun g (row_with t byte) m)) s (λ e. harmless_if (names_lun g (row_with t byte) m) ProgramAddressed s (λ x. tt))
  program_address ChangeWriteColumn n h = tt
  program_address c n h = cc

  plane_address : (c : Command) (n : ℕ) → is_enhanced_column c ≡ true → IsHarmless (address_effect g t byte c n m) s
  plane_address ChangeReadColumnEnhanced n h = tt
  plane_address c n h = cc

  address_harmless : (ss : List LunView) (o : Option Opening) (p : DataPhase) (r : ℕ) → Comes g ss o p r → IsHarmless (opening_address_effect g t byte o m) s
  address_harmless ss None p r h = tt
  address_harmless ss (Some o) p r (inl q) = quiet_address o.opener o.addresses (not_led o p q)
  address_harmless ss (Some o) Inputs r (inr (inl n)) = program_address o.opener o.addresses (and_parts (begins_data o.opener) (o.addresses == 5) n.0).0
  address_harmless ss (Some o) Inputs r (inr (inr n)) = absurd (true≢false (sym n.0))
  address_harmless ss (Some o) Outside r (inr (inl n)) = row_address o n.0
  address_harmless ss (Some o) Outside r (inr (inr n)) = plane_address o.opener o.addresses (and_parts (is_enhanced_column o.opener) (o.addresses == 5) n.0).0
  address_harmless ss (Some o) FirstColumn r (inr (inl n)) = absurd (true≢false (sym n.0))
  address_harmless ss (Some o) FirstColumn r (inr (inr n)) = absurd (true≢false (sym n.0))
  address_harmless ss (Some o) SecondColumn r (inr (inl n)) = absurd (true≢false (sym n.0))
  address_harmless ss (Some o) SecondColumn r (inr (inr n)) = absurd (true≢false (sym n.0))
  address_harmless ss (Some o) FeatureInputs r (inr (inl n)) = absurd (true≢false (sym n.0))
  address_harmless ss (Some o) FeatureInputs r (inr (inr n)) = absurd (true≢false (sym n.0))

module _ (g : Parts) (t : TailFacts) (la : Latch) (ss : List LunView) (m : ℕ) (s : LunView) (found : slice_get ss m ≡ Some s) (h : Comes g ss t.opening t.phase (row t)) (plain : is_shared g ≡ false) where
  -- a closer of a read, an erase or a program, by the row of the tail
  closes_nothing : (w : Bool) (x : Effect) (c : Command) → (IsHarmless x s ≡ (s.queue ≡ [])) → (is_quiet_by t.opening t.phase ≡ true → w ≡ true → ⊥) → (is_plane_by t.opening t.phase ≡ true → w ≡ true → ⊥) → IsHarmless (cond (w && names_lun g (row t) m) x (other_effect g t c)) s
  closes_nothing w x c is loud apart = harmless_or (w && names_lun g (row t) m) x (other_effect g t c) s (λ b. at (and_parts w (names_lun g (row t) m) b).0 (and_parts w (names_lun g (row t) m) b).1 h) (other_harmless g t c s plain)
    where
      at : w ≡ true → names_lun g (row t) m ≡ true → Comes g ss t.opening t.phase (row t) → IsHarmless x s
      at a b (inl q) = absurd (loud q a)
      at a b (inr (inl n)) = rw is (n.1 m s found b)
      at a b (inr (inr n)) = absurd (apart n.0 a)

  -- E0h behind a 06h that isn't seen is of the one LUN of its target
  selects_named : Comes g ss t.opening t.phase (row t) → selects_plane t ≡ true → names_lun g (row t) m ≡ true
  selects_named (inl q) e = absurd (selects_loud t.opening t.phase q e)
  selects_named (inr (inl n)) e = absurd (named_apart g t.opening t.phase n.0 e)
  selects_named (inr (inr n)) e = n.1 m (slice_get_within ss m s found)

  column_harmless : IsHarmless (command_effect g t la ChangeReadColumnConfirm m) s
  column_harmless = at (selects_plane t) refl
    where
      at : (b : Bool) → selects_plane t ≡ b → IsHarmless (cond b (plane_effect g t m) (column_effect t la)) s
      at true e = subst (λ (b : Bool). IsHarmless (cond b (PlaneSelected (plane_of_row g (row t)) (planes g) t.column) Deselected) s) (sym (selects_named h e)) tt
      at false e = harmless_if (wants_command t ChangeReadColumnConfirm && not (is_off la)) (ReadColumnChanged t.column) s (λ b. tt)

  command_harmless : (c : Command) → opens_here g c ≡ false → wants_command t c ≡ true → IsHarmless (command_effect g t la c m) s
  command_harmless ReadConfirm o w = closes_nothing (wants_command t ReadConfirm) (confirm_effect g t ReadConfirm) ReadConfirm refl (read_loud t.opening t.phase) (read_beside t.opening t.phase)
  command_harmless ReadPlane o w = harmless_or (wants_command t ReadPlane && names_lun g (row t) m) (confirm_effect g t ReadPlane) (other_effect g t ReadPlane) s (λ b. tt) (other_harmless g t ReadPlane s plain)
  command_harmless CopybackRead o w = closes_nothing (wants_command t CopybackRead) (confirm_effect g t CopybackRead) CopybackRead refl (copyback_loud t.opening t.phase) (copyback_beside t.opening t.phase)
  command_harmless ChangeReadColumnConfirm o w = column_harmless
  command_harmless BlockEraseConfirm o w = closes_nothing (wants_command t BlockEraseConfirm) (confirm_effect g t BlockEraseConfirm) BlockEraseConfirm refl (erase_loud t.opening t.phase) (erase_beside t.opening t.phase)
  command_harmless BlockErasePlane o w = closes_nothing (wants_command t BlockErasePlane) (confirm_effect g t BlockErasePlane) BlockErasePlane refl (plane_loud t.opening t.phase) (plane_beside t.opening t.phase)
  command_harmless ChangeWriteColumn o w = harmless_if (wants_command t ChangeWriteColumn && names_lun g (row t) m) Unaffected s (λ b. tt)
  command_harmless ProgramConfirm o w = closes_nothing (wants_command t ProgramConfirm) (confirm_effect g t ProgramConfirm) ProgramConfirm refl (program_loud t.opening t.phase) (program_beside t.opening t.phase)
  command_harmless ProgramPlane o w = closes_nothing (wants_command t ProgramPlane) (confirm_effect g t ProgramPlane) ProgramPlane refl (program_loud t.opening t.phase) (program_beside t.opening t.phase)
  command_harmless ProgramCache o w = closes_nothing (wants_command t ProgramCache) (confirm_effect g t ProgramCache) ProgramCache refl (program_loud t.opening t.phase) (program_beside t.opening t.phase)
  command_harmless Unknown o w = harmless_if (wants_command t Unknown && names_lun g (row t) m) Unaffected s (λ b. tt)
  command_harmless c o w = cc

pub unseen_harmless : (g : Parts) → is_shared g ≡ false → (t : TailFacts) (ts ss : List LunView) (cycle : TargetCycle) → opens_sequence g cycle ≡ false → KeepsRules g t ts cycle → MayCome g t ss →
    (m : ℕ) (s : LunView) → slice_get ss m ≡ Some s → (la : Latch) → IsHarmless (cycle_effect g t la cycle m) s
unseen_harmless g plain t ts ss cycle begins k m n s found la = elim (comes_of g t ss m) [ inl b ↦ blank_harmless (cycle_effect g t la cycle n) s (b n s found) | inr c ↦ at cycle begins k c ]
  where
    at : (cycle : TargetCycle) → opens_sequence g cycle ≡ false → KeepsRules g t ts cycle → Comes g ss t.opening t.phase (row t) → IsHarmless (cycle_effect g t la cycle n) s
    at (CommandCycle c) b k h = command_harmless g t la ss n s found h plain c b (command_wanted g t c b k.f6)
    at (AddressCycle byte) b k h = address_harmless g t byte n s plain ss t.opening t.phase (row t) h
    at (InputCycle byte) b k h = harmless_if (ends_features t) (of_target g n (FeaturesSet _)) s (λ b. target_harmless g n (FeaturesSet _) s plain tt)
    at OutputCycle b k h = harmless_if (is_data la) DataOutput s (λ b. tt)

-- ---- 4. what is seen stays as it is

pub nothing_fits : (p : Bool) (t s : LunView) → IsBelow t s → Fits p Nothing t s
nothing_fits p t s b = record { below = b; queue = λ h g. cc; begun = λ h. cc; same = λ h. cc; off = λ h g. cc }
