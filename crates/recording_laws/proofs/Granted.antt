-- A permitted cycle that is taken for granted: what it leaves, and what may come after it.
use Rattle.std.proofs.Common.{◌≡◌, ◌⊎◌, inl, inr, ℕ, zero, suc, ◌+◌, ◌==◌, Bool, true, false, cond, not, ◌&&◌, List, [], ◌∷◌, Option, Some, None, refl, sym, ap, ◌∙◌, subst, slice_get, eqb-true, eq-eqb}
use Rattle.std.proofs.lemmas.Bool.{and_parts, and_from, or_left, or_parts}
use Rattle.nand_geometry.specs.declared.parts.Parts.{Parts}
use Rattle.nand_geometry.specs.Row.{parts_of}
use Rattle.onfi_cycle.specs.declared.command.Command.{Command}
use Rattle.onfi_cycle.specs.declared.command.Command.TheVariants.{Read, ReadConfirm, ChangeReadColumn, ChangeReadColumnEnhanced, ChangeWriteColumn, BlockErase, PageProgram, ReadId, ReadParameterPage, ReadCacheSequential, ReadCacheEnd, ReadUniqueId, GetFeatures, SetFeatures, ReadPlane, CopybackRead}
use Rattle.onfi_cycle.specs.declared.data_phase.DataPhase.{DataPhase}
use Rattle.onfi_cycle.specs.declared.data_phase.DataPhase.TheVariants.{Outside, Inputs, FirstColumn, SecondColumn, FeatureInputs}
use Rattle.onfi_cycle.specs.declared.effect.Effect.TheVariants.{Unaffected, CacheReadContinued, CacheReadEnded, DataOutput, ProgramAddressed}
use Rattle.onfi_cycle.specs.declared.forbidden.Forbidden.{Forbidden}
use Rattle.onfi_cycle.specs.declared.latch.Latch.{Latch}
use Rattle.onfi_cycle.specs.declared.opening.Opening.{Opening}
use Rattle.onfi_cycle.specs.declared.tail_facts.TailFacts.{TailFacts}
use Rattle.onfi_cycle.specs.declared.target_cycle.TargetCycle.{TargetCycle}
use Rattle.onfi_cycle.specs.declared.target_cycle.TargetCycle.TheVariants.{CommandCycle, AddressCycle, InputCycle, OutputCycle}
use Rattle.nand_geometry.specs.Optional.{is_wide}
use Rattle.onfi_cycle.specs.Command.{begins_data, is_set_features, at_last_row, is_change_read_column, is_enhanced_column, reads_identity}
use Rattle.onfi_cycle.specs.Effect.{is_off, is_data, is_shared, names_lun, confirm_effect, other_effect, row_effect, cache_effect, command_effect, address_effect, opening_address_effect, cycle_effect, program_row_effect}
use Rattle.onfi_cycle.specs.Lun.{is_page_read}
use Rattle.onfi_cycle.specs.LunView.{LunView}
use Rattle.onfi_cycle.specs.Rules.{is_some_and, named_lun_is, ends_row, excludes_cache, second_column, second_of_page, caching, breaks_no_column_to_change, breaks_no_sole_driver, breaks_data_not_ready, breaks_column_outside, breaks_cache_read_misplaced, breaks_plane_not_held, breaks_command_unknown}
use Rattle.onfi_cycle.specs.Sequence.{facts_of, begins_anew, opened, phase_after_address, phase_after_last_address, phase_after_command, one_address_more, row, row_with, wants_command, extended_facts, facts_after}
use Rattle.onfi_cycle.proofs.Passed.{KeepsRules}
use Rattle.recording_laws.proofs.Luns.{IsBelow, IsHarmless, IsNarrow, reads_on}
use Rattle.recording_laws.proofs.Lists.{Each}
use Rattle.recording_laws.proofs.Rules.{six, six_of}
use Rattle.recording_laws.proofs.Unseen.{is_led, is_quiet_by, is_named_by, is_plane_by, NoneQueued, AllNamed, MayCome, quiet, named, selecting, quiet_command, harmless_if, harmless_or, other_harmless, harmless_unless}

-- ---- 1. tails

-- the phase of a tail goes together with its addresses
abbrev pub is_sound_by : Option Opening → DataPhase → Bool
is_sound_by None p = true
is_sound_by (Some o) Outside = true
is_sound_by (Some o) Inputs = begins_data o.opener && o.addresses == 5
is_sound_by (Some o) FeatureInputs = is_set_features o.opener && o.addresses == 1
is_sound_by (Some o) FirstColumn = false
is_sound_by (Some o) SecondColumn = false

abbrev pub is_sound : TailFacts → Bool
is_sound t = is_sound_by t.opening t.phase

one_more : (n m : ℕ) → (n == m) ≡ true → (n + 1 == m + 1) ≡ true
one_more n m h = let same : n ≡ m = eqb-true n m h in eq-eqb (n + 1) (m + 1) (ap (λ k. k + 1) same)

sound_last : (c : Command) (n : ℕ) → is_sound_by (Some (record { opener = c; addresses = n + 1 })) (phase_after_last_address (Some (record { opener = c; addresses = n }))) ≡ true
sound_last PageProgram n = of (n == 4) refl
  where
    of : (b : Bool) → (n == 4) ≡ b → is_sound_by (Some (record { opener = PageProgram; addresses = n + 1 })) (cond b Inputs Outside) ≡ true
    of true h = one_more n 4 h
    of false h = refl
sound_last ChangeWriteColumn n = of (n == 4) refl
  where
    of : (b : Bool) → (n == 4) ≡ b → is_sound_by (Some (record { opener = ChangeWriteColumn; addresses = n + 1 })) (cond b Inputs Outside) ≡ true
    of true h = one_more n 4 h
    of false h = refl
sound_last SetFeatures n = of (n == 0) refl
  where
    of : (b : Bool) → (n == 0) ≡ b → is_sound_by (Some (record { opener = SetFeatures; addresses = n + 1 })) (cond b FeatureInputs Outside) ≡ true
    of true h = one_more n 0 h
    of false h = refl
sound_last c n = refl

sound_address : (o : Option Opening) (p : DataPhase) → is_sound_by o p ≡ true → is_sound_by (one_address_more o) (phase_after_address o p) ≡ true
sound_address None p h = refl
sound_address (Some o) Outside h = sound_last o.opener o.addresses
sound_address (Some o) Inputs h = refl
sound_address (Some o) FeatureInputs h = refl
sound_address (Some o) FirstColumn h = cc
sound_address (Some o) SecondColumn h = cc

pub sound_after : (cycle : TargetCycle) (t : TailFacts) → t.is_empty ≡ false → is_sound t ≡ true → is_sound (facts_after cycle t) ≡ true
sound_after (CommandCycle c) t some h = at (begins_anew t (CommandCycle c)) t.is_empty some
  where
    at : (b e : Bool) → e ≡ false → is_sound (cond b (extended_facts (CommandCycle c) (facts_of [])) (cond e t (record { opening = cond e (Some (record { opener = c; addresses = 0 })) None; phase = phase_after_command c t.phase; row = t.row; column = t.column; inputs = 0; is_empty = false }))) ≡ true
    at true e f = ap (is_sound_by (Some (record { opener = c; addresses = 0 }))) (quiet_command c Outside refl)
    at false true f = cc
    at false false f = refl
sound_after (AddressCycle byte) t some h = rw some (sound_address t.opening t.phase h)
sound_after (InputCycle byte) t some h = rw some refl
sound_after OutputCycle t some h = rw some refl

-- ---- 2. which command may be taken for granted

-- 05h, 30h, 32h, 35h, 31h, 3Fh, and what reads or sets what stands beside the array
abbrev pub grants : Command → Bool
grants ChangeReadColumn = true
grants ReadConfirm = true
grants ReadPlane = true
grants CopybackRead = true
grants ReadCacheSequential = true
grants ReadCacheEnd = true
grants c = reads_identity c

none_granted : (g : Parts) (t : TailFacts) (ss : List LunView) (c : Command) → grants c ≡ false → six_of g t ss (CommandCycle c) ≡ None
unfolding breaks_no_column_to_change breaks_no_sole_driver breaks_data_not_ready breaks_column_outside breaks_cache_read_misplaced breaks_plane_not_held
none_granted g t ss ChangeReadColumn h = cc
none_granted g t ss ReadConfirm h = cc
none_granted g t ss ReadPlane h = cc
none_granted g t ss CopybackRead h = cc
none_granted g t ss ReadCacheSequential h = cc
none_granted g t ss ReadCacheEnd h = cc
none_granted g t ss ReadId h = cc
none_granted g t ss ReadParameterPage h = cc
none_granted g t ss ReadUniqueId h = cc
none_granted g t ss GetFeatures h = cc
none_granted g t ss SetFeatures h = cc
none_granted g t ss c h = refl

pub is_granted : (g : Parts) (t : TailFacts) (ss : List LunView) (c : Command) (rule : Forbidden) → six_of g t ss (CommandCycle c) ≡ Some rule → grants c ≡ true
is_granted g t ss c rule h = at (grants c) refl
  where
    at : (b : Bool) → grants c ≡ b → grants c ≡ true
    at true e = e
    at false e = let none = none_granted g t ss c e in cc

-- where a chip has no copyback, no 35h is permitted
pub no_copyback : (g : Parts) → IsNarrow g → (c : Command) → breaks_command_unknown g (CommandCycle c) ≡ false → c ≡ CopybackRead → ⊥
unfolding breaks_command_unknown
no_copyback g copyless c f2 same =
    let known : breaks_command_unknown g (CommandCycle CopybackRead) ≡ false = sym (ap (λ (x : Command). breaks_command_unknown g (CommandCycle x)) same) ∙ f2 in
    let none : true ≡ false = rw copyless.copyback at known in
    cc

-- it ends the data of a program
granted_ends : (c : Command) (p : DataPhase) → grants c ≡ true → phase_after_command c p ≡ Outside
granted_ends ChangeWriteColumn p h = cc
granted_ends c p h = refl

granted_free : (c : Command) → grants c ≡ true → not (is_led c) ≡ true
granted_free ChangeReadColumn h = refl
granted_free ReadConfirm h = refl
granted_free ReadPlane h = refl
granted_free CopybackRead h = refl
granted_free ReadCacheSequential h = refl
granted_free ReadCacheEnd h = refl
granted_free ReadId h = refl
granted_free ReadParameterPage h = refl
granted_free ReadUniqueId h = refl
granted_free GetFeatures h = refl
granted_free SetFeatures h = refl
granted_free c h = cc

pub command_granted : (g : Parts) → is_shared g ≡ false → (t : TailFacts) (la : Latch) (c : Command) (n : ℕ) (s : LunView) → grants c ≡ true → (c ≡ CopybackRead → ⊥) → (c ≡ ReadConfirm → names_lun g (row t) n ≡ true → s.queue ≡ []) → IsHarmless (command_effect g t la c n) s
command_granted g plain t la ReadConfirm n s h never calm =
    harmless_or (wants_command t ReadConfirm && names_lun g (row t) n) (confirm_effect g t ReadConfirm) (other_effect g t ReadConfirm) s (λ b. calm refl (and_parts (wants_command t ReadConfirm) (names_lun g (row t) n) b).1) (other_harmless g t ReadConfirm s plain)
command_granted g plain t la ReadPlane n s h never calm = harmless_or (wants_command t ReadPlane && names_lun g (row t) n) (confirm_effect g t ReadPlane) (other_effect g t ReadPlane) s (λ b. tt) (other_harmless g t ReadPlane s plain)
command_granted g plain t la ReadCacheSequential n s h never calm =
    harmless_or (wants_command t ReadCacheSequential) (row_effect g t ReadCacheSequential n) (cache_effect la) s
    (λ w. harmless_or (wants_command t ReadCacheSequential && names_lun g (row t) n) (confirm_effect g t ReadCacheSequential) (other_effect g t ReadCacheSequential) s (λ b. tt) (other_harmless g t ReadCacheSequential s plain))
    (harmless_unless (is_off la) (CacheReadContinued None) s tt)
command_granted g plain t la ReadCacheEnd n s h never calm = harmless_unless (is_off la) CacheReadEnded s tt
command_granted g plain t la ChangeReadColumn n s h never calm = harmless_if (wants_command t ChangeReadColumn && names_lun g (row t) n) Unaffected s (λ b. tt)
command_granted g plain t la ReadId n s h never calm = harmless_if (wants_command t ReadId && names_lun g (row t) n) Unaffected s (λ b. tt)
command_granted g plain t la ReadParameterPage n s h never calm = harmless_if (wants_command t ReadParameterPage && names_lun g (row t) n) Unaffected s (λ b. tt)
command_granted g plain t la ReadUniqueId n s h never calm = harmless_if (wants_command t ReadUniqueId && names_lun g (row t) n) Unaffected s (λ b. tt)
command_granted g plain t la GetFeatures n s h never calm = harmless_if (wants_command t GetFeatures && names_lun g (row t) n) Unaffected s (λ b. tt)
command_granted g plain t la SetFeatures n s h never calm = harmless_if (wants_command t SetFeatures && names_lun g (row t) n) Unaffected s (λ b. tt)
command_granted g plain t la CopybackRead n s h never calm = absurd (never refl)
command_granted g plain t la c n s h never calm = cc

-- behind such a command nothing is to be seen
pub command_comes : (g : Parts) (t : TailFacts) (ss : List LunView) (c : Command) → (t.is_empty ≡ false) ⊎ (begins_anew t (CommandCycle c) ≡ true) → grants c ≡ true → MayCome g (facts_after (CommandCycle c) t) ss
command_comes g t ss c some h = at (begins_anew t (CommandCycle c)) refl some
  where
    on : (e : Bool) → t.is_empty ≡ e → e ≡ false → MayCome g (cond e t (extended_facts (CommandCycle c) t)) ss
    on true x f = cc
    on false x f = quiet (ap (λ (b : Bool). is_quiet_by (cond b (Some (record { opener = c; addresses = 0 })) None) (phase_after_command c t.phase)) x ∙ ap (is_quiet_by None) (granted_ends c t.phase h))

    at : (b : Bool) → begins_anew t (CommandCycle c) ≡ b → (t.is_empty ≡ false) ⊎ (b ≡ true) → MayCome g (cond b (extended_facts (CommandCycle c) (facts_of [])) (cond t.is_empty t (extended_facts (CommandCycle c) t))) ss
    at true x y = quiet (ap (is_quiet_by (Some (record { opener = c; addresses = 0 }))) (quiet_command c Outside refl) ∙ granted_free c h)
    at false x (inl f) = on t.is_empty refl f
    at false x (inr f) = cc

-- ---- 3. an address

-- a LUN that is seen to read on has nothing queued
calm_at : (ts ss : List LunView) → Each IsBelow ts ss → (m : ℕ) (s : LunView) → slice_get ss m ≡ Some s → is_page_read s.closer ≡ true → s.queue ≡ []
calm_at [] [] e m s found h = cc
calm_at (t ∷ ts) (u ∷ ss) e zero s found h = let same : u ≡ s = cc in subst (λ (v : LunView). v.queue ≡ []) same (e.0.calm (ap (λ (v : LunView). is_page_read v.closer) same ∙ h))
calm_at (t ∷ ts) (u ∷ ss) e (suc m) s found h = calm_at ts ss e.1 m s found h
calm_at [] (s ∷ ss) e m v found h = absurd e
calm_at (t ∷ ts) [] e m v found h = absurd e

none_queued : (g : Parts) (r : ℕ) (ts ss : List LunView) → Each IsBelow ts ss → named_lun_is g r caching ss ≡ true → NoneQueued g r ss
none_queued g r ts ss e h m s found names =
    let here : (parts_of g r).lun ≡ m = eqb-true (parts_of g r).lun m names in
    let at : slice_get ss (parts_of g r).lun ≡ Some s = ap (slice_get ss) here ∙ found in
    calm_at ts ss e m s found (reads_on s.closer (sym (ap (is_some_and caching) at) ∙ h))

-- a 30h that is taken for granted comes to a LUN that is seen to read on
pub granted_row : (g : Parts) (t : TailFacts) (ts ss : List LunView) (rule : Forbidden) → Each IsBelow ts ss → six_of g t ss (CommandCycle ReadConfirm) ≡ Some rule → NoneQueued g (row t) ss
unfolding breaks_no_column_to_change breaks_no_sole_driver breaks_data_not_ready breaks_column_outside breaks_cache_read_misplaced breaks_plane_not_held
granted_row g t ts ss rule each h = at (is_wide g.optional && named_lun_is g (row t) caching ss) refl h
  where
    at : (b : Bool) → (is_wide g.optional && named_lun_is g (row t) caching ss) ≡ b → six false false false false b false ≡ Some rule → NoneQueued g (row t) ss
    at true x f = none_queued g (row t) ts ss each (and_parts (is_wide g.optional) (named_lun_is g (row t) caching ss) x).1
    at false x f = cc

-- of the address of these openers
abbrev addresses_quietly : Command → Bool
addresses_quietly Read = true
addresses_quietly BlockErase = true
addresses_quietly PageProgram = true
addresses_quietly ChangeWriteColumn = true
addresses_quietly ChangeReadColumn = true
addresses_quietly ChangeReadColumnEnhanced = true
addresses_quietly _ = false

address_free : (g : Parts) (t : TailFacts) (byte : ℕ) (c : Command) (m n : ℕ) (s : LunView) → addresses_quietly c ≡ true → IsHarmless (address_effect g t byte c m n) s
address_free g t byte Read m n s h = tt
address_free g t byte BlockErase m n s h = tt
address_free g t byte PageProgram m n s h = harmless_if (m == 4) (program_row_effect (names_lun g (row_with t byte) n)) s (λ e. harmless_if (names_lun g (row_with t byte) n) ProgramAddressed s (λ x. tt))
address_free g t byte ChangeWriteColumn m n s h = tt
address_free g t byte ChangeReadColumn m n s h = tt
address_free g t byte ChangeReadColumnEnhanced m n s h = tt
address_free g t byte c m n s h = cc

-- what comes behind the last address of a row, whose LUN is seen to read on
row_comes : (g : Parts) (c : Command) (n : ℕ) (p : DataPhase) → (excludes_cache g c && at_last_row c n) ≡ true → is_sound_by (Some (record { opener = c; addresses = n })) p ≡ true →
    (is_quiet_by (Some (record { opener = c; addresses = n + 1 })) (phase_after_address (Some (record { opener = c; addresses = n })) p) ≡ true)
    ⊎ (is_named_by g (Some (record { opener = c; addresses = n + 1 })) (phase_after_address (Some (record { opener = c; addresses = n })) p) ≡ true)
row_comes g Read n Outside h sound =
    let both = and_parts (not (is_wide g.optional)) (n == 4) h in
    inr (and_from (not (is_wide g.optional)) (n + 1 == 5) both.0 (one_more n 4 both.1))
row_comes g BlockErase n Outside h sound = inr (or_left (n + 1 == 3) (not (is_wide g.optional) && false) (one_more n 2 h))
row_comes g PageProgram n Outside h sound = inr (rw h (one_more n 4 h))
row_comes g PageProgram n Inputs h sound = let five : n ≡ 5 = eqb-true n 5 sound in let four = rw five at h in cc
row_comes g c n FirstColumn h sound = cc
row_comes g c n SecondColumn h sound = cc
row_comes g Read n Inputs h sound = cc
row_comes g Read n FeatureInputs h sound = cc
row_comes g BlockErase n Inputs h sound = cc
row_comes g BlockErase n FeatureInputs h sound = cc
row_comes g PageProgram n FeatureInputs h sound = cc
row_comes g ChangeWriteColumn n Outside h sound = inr (rw h (one_more n 4 h))
row_comes g ChangeWriteColumn n Inputs h sound = let five : n ≡ 5 = eqb-true n 5 sound in let four = rw five at h in cc
row_comes g ChangeWriteColumn n FeatureInputs h sound = cc
row_comes g c n p h sound = cc

row_quiet : (g : Parts) (c : Command) (n : ℕ) → (excludes_cache g c && at_last_row c n) ≡ true → addresses_quietly c ≡ true
row_quiet g Read n h = refl
row_quiet g BlockErase n h = refl
row_quiet g PageProgram n h = refl
row_quiet g ChangeWriteColumn n h = refl
row_quiet g c n h = cc

column_comes : (c : Command) (n : ℕ) (p : DataPhase) → (is_change_read_column c && n == 1) ≡ true → is_sound_by (Some (record { opener = c; addresses = n })) p ≡ true →
    is_quiet_by (Some (record { opener = c; addresses = n + 1 })) (phase_after_address (Some (record { opener = c; addresses = n })) p) ≡ true
column_comes ChangeReadColumn n Outside h sound = refl
column_comes ChangeReadColumn n Inputs h sound = cc
column_comes ChangeReadColumn n FirstColumn h sound = cc
column_comes ChangeReadColumn n SecondColumn h sound = cc
column_comes ChangeReadColumn n FeatureInputs h sound = cc
column_comes c n p h sound = cc

column_quiet : (c : Command) (n : ℕ) → (is_change_read_column c && n == 1) ≡ true → addresses_quietly c ≡ true
column_quiet ChangeReadColumn n h = refl
column_quiet c n h = cc

-- and what comes behind the last one of a 06h
plane_comes : (c : Command) (n : ℕ) (p : DataPhase) → (is_enhanced_column c && at_last_row c n) ≡ true → is_sound_by (Some (record { opener = c; addresses = n })) p ≡ true →
    is_plane_by (Some (record { opener = c; addresses = n + 1 })) (phase_after_address (Some (record { opener = c; addresses = n })) p) ≡ true
plane_comes ChangeReadColumnEnhanced n Outside h sound = one_more n 4 h
plane_comes ChangeReadColumnEnhanced n Inputs h sound = cc
plane_comes ChangeReadColumnEnhanced n FirstColumn h sound = cc
plane_comes ChangeReadColumnEnhanced n SecondColumn h sound = cc
plane_comes ChangeReadColumnEnhanced n FeatureInputs h sound = cc
plane_comes c n p h sound = cc

plane_quiet : (c : Command) (n : ℕ) → (is_enhanced_column c && at_last_row c n) ≡ true → addresses_quietly c ≡ true
plane_quiet ChangeReadColumnEnhanced n h = refl
plane_quiet c n h = cc

-- what such an address leaves
pub record Comes (g : Parts) (t : TailFacts) (ss : List LunView) (cycle : TargetCycle) : Type 0 where
  pub comes : MayCome g (facts_after cycle t) ss
  pub harmless : (la : Latch) (n : ℕ) (s : LunView) → slice_get ss n ≡ Some s → IsHarmless (cycle_effect g t la cycle n) s

module _ (g : Parts) (t : TailFacts) (ss : List LunView) (byte : ℕ) (some : t.is_empty ≡ false) (sound : is_sound t ≡ true) where
  after_column : (o : Option Opening) → t.opening ≡ o → opened (λ c n. is_change_read_column c && n == 1) o ≡ true → is_sound_by o t.phase ≡ true → Comes g t ss (AddressCycle byte)
  after_column None e h q = cc
  after_column (Some o) e h q =
      record {
        comes = rw some (quiet (rw e (column_comes o.opener o.addresses t.phase h q)));
        harmless = λ la n s found. subst (λ (x : Option Opening). IsHarmless (opening_address_effect g t byte x n) s) (sym e) (address_free g t byte o.opener o.addresses n s (column_quiet o.opener o.addresses h));
      }

  after_row : (o : Option Opening) → t.opening ≡ o → opened (λ c n. excludes_cache g c && at_last_row c n) o ≡ true → is_sound_by o t.phase ≡ true → NoneQueued g (row_with t byte) ss → Comes g t ss (AddressCycle byte)
  after_row None e h q none = cc
  after_row (Some o) e h q none =
      record {
        comes = rw some (elim (row_comes g o.opener o.addresses t.phase h q) [ inl x ↦ quiet (rw e x) | inr x ↦ named (rw e x) (rw e none) ]);
        harmless = λ la n s found. subst (λ (x : Option Opening). IsHarmless (opening_address_effect g t byte x n) s) (sym e) (address_free g t byte o.opener o.addresses n s (row_quiet g o.opener o.addresses h));
      }

  after_plane : (o : Option Opening) → t.opening ≡ o → opened (λ c n. is_enhanced_column c && at_last_row c n) o ≡ true → is_sound_by o t.phase ≡ true → AllNamed g (row_with t byte) ss → Comes g t ss (AddressCycle byte)
  after_plane None e h q all = cc
  after_plane (Some o) e h q all =
      record {
        comes = rw some (selecting (rw e (plane_comes o.opener o.addresses t.phase h q)) (rw e all));
        harmless = λ la n s found. subst (λ (x : Option Opening). IsHarmless (opening_address_effect g t byte x n) s) (sym e) (address_free g t byte o.opener o.addresses n s (plane_quiet o.opener o.addresses h));
      }

pub address_granted : (g : Parts) (t : TailFacts) (ts ss : List LunView) (byte : ℕ) (rule : Forbidden) → Each IsBelow ts ss → KeepsRules g t ts (AddressCycle byte) → t.is_empty ≡ false → is_sound t ≡ true →
    (ends_row is_enhanced_column t ≡ true → AllNamed g (row_with t byte) ss) → six_of g t ss (AddressCycle byte) ≡ Some rule → Comes g t ss (AddressCycle byte)
unfolding breaks_no_column_to_change breaks_no_sole_driver breaks_data_not_ready breaks_column_outside breaks_cache_read_misplaced breaks_plane_not_held
address_granted g t ts ss byte rule each k some sound alone h =
    at (breaks_column_outside g t ss (AddressCycle byte)) refl (breaks_cache_read_misplaced g t ss (AddressCycle byte)) refl (breaks_plane_not_held g t ss (AddressCycle byte)) refl h
  where
    by_column : breaks_column_outside g t ss (AddressCycle byte) ≡ true → Comes g t ss (AddressCycle byte)
    by_column b =
        let kept = (or_parts (second_of_page t && _) _ k.f14).0 in
        let second = rw kept at b in
        after_column g t ss byte some sound t.opening refl (and_parts (second_column is_change_read_column t) _ second).0 sound

    by_row : breaks_cache_read_misplaced g t ss (AddressCycle byte) ≡ true → Comes g t ss (AddressCycle byte)
    by_row b =
        let a = and_parts (ends_row (excludes_cache g) t) (named_lun_is g (row_with t byte) caching ss) b in
        after_row g t ss byte some sound t.opening refl a.0 sound (none_queued g (row_with t byte) ts ss each a.1)

    by_plane : breaks_plane_not_held g t ss (AddressCycle byte) ≡ true → Comes g t ss (AddressCycle byte)
    by_plane b =
        let ends = (and_parts (ends_row is_enhanced_column t) _ b).0 in
        after_plane g t ss byte some sound t.opening refl ends sound (alone ends)

    at : (b : Bool) → breaks_column_outside g t ss (AddressCycle byte) ≡ b → (c : Bool) → breaks_cache_read_misplaced g t ss (AddressCycle byte) ≡ c → (d : Bool) → breaks_plane_not_held g t ss (AddressCycle byte) ≡ d →
        six (breaks_no_column_to_change ss (AddressCycle byte)) (breaks_no_sole_driver t ss (AddressCycle byte)) (breaks_data_not_ready ss (AddressCycle byte)) b c d ≡ Some rule → Comes g t ss (AddressCycle byte)
    at true x c y d z f = by_column x
    at false x true y d z f = by_row y
    at false x false y true z f = by_plane z
    at false x false y false z f = cc

-- ---- 4. inputs and outputs

pub input_granted : (g : Parts) (t : TailFacts) (ts ss : List LunView) (byte : ℕ) (rule : Forbidden) → KeepsRules g t ts (InputCycle byte) → six_of g t ss (InputCycle byte) ≡ Some rule → ⊥
unfolding breaks_no_column_to_change breaks_no_sole_driver breaks_data_not_ready breaks_column_outside breaks_cache_read_misplaced breaks_plane_not_held
input_granted g t ts ss byte rule k h = let none = rw k.f14 at h in cc

pub output_granted : (g : Parts) (t : TailFacts) (ss : List LunView) → t.is_empty ≡ false → Comes g t ss OutputCycle
output_granted g t ss some =
    record {
      comes = rw some (quiet refl);
      harmless = λ la n s found. harmless_if (is_data la) DataOutput s (λ b. tt);
    }
