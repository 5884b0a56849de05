-- A permitted item works on one LUN at most; and what a running state keeps to.
use Rattle.std.proofs.Common.{◌≡◌, ◌≢◌, ℕ, zero, suc, ◌+◌, ◌<◌, ◌≤◌, ◌==◌, Bool, true, false, ◌&&◌, ◌||◌, cond, not, ltb, List, [], ◌∷◌, Option, Some, None, refl, sym, ap, ◌∙◌, arith, subst, eqb-true, ◌%◌}
use Rattle.std.proofs.lemmas.Bool.Decides.{nat_tests}
use Rattle.std.specs.List.{slice_get, All}
use Rattle.std.proofs.lemmas.Option.{slice_get_within, get_or_from_slice_get}
use Rattle.std.proofs.lemmas.Bool.{or_right, and_parts as both}
use Rattle.nand_geometry.specs.declared.parts.Parts.{Parts}
use Rattle.nand_geometry.specs.Limits.{InLimits, planes}
use Rattle.nand_geometry.specs.Row.{parts_of}
use Rattle.onfi_cycle.specs.declared.command.Command.{Command}
use Rattle.onfi_cycle.specs.declared.command.Command.TheVariants.{Read, ChangeReadColumnConfirm, ReadStatus, ReadStatusEnhanced, PageProgram, ChangeWriteColumn, ReadId, ReadParameterPage, Reset, ReadCacheSequential, ReadCacheEnd, ReadUniqueId, GetFeatures, ResetLun, SynchronousReset}
use Rattle.onfi_cycle.specs.declared.item.Cycle.{Cycle}
use Rattle.onfi_cycle.specs.declared.effect.Effect.{Effect}
use Rattle.onfi_cycle.specs.declared.effect.Effect.TheVariants.{Unaffected, SelectedForStatus, Deselected, ParameterPageReadStarted, CacheReadContinued, CacheReadEnded, ReadColumnChanged, DataOutput, BecameReady, ArrayBecameReady, UniqueIdReadStarted, FeaturesReadStarted, FeaturesSet, ResetStarted, AnotherAddressed, StatusSelected, StatusOfSelected, PlaneSelected}
use Rattle.onfi_cycle.specs.declared.data_phase.DataPhase.{DataPhase}
use Rattle.onfi_cycle.specs.declared.data_phase.DataPhase.TheVariants.{Outside, Inputs, FirstColumn, SecondColumn, FeatureInputs}
use Rattle.onfi_cycle.specs.declared.filling.Filling.{Filling}
use Rattle.onfi_cycle.specs.declared.filling.Filling.TheVariants.{Leaves, Clears, Copies, Fills}
use Rattle.onfi_cycle.specs.declared.item.Item.{Item}
use Rattle.onfi_cycle.specs.declared.item.Item.TheVariants.{Cyc, Rdy, Ard}
use Rattle.onfi_cycle.specs.declared.latch.Latch.{Latch}
use Rattle.onfi_cycle.specs.declared.latch.Latch.TheVariants.{Off}
use Rattle.onfi_cycle.specs.declared.lun.Lun.{Lun}
use Rattle.onfi_cycle.specs.declared.opening.Opening.{Opening}
use Rattle.onfi_cycle.specs.declared.tail_facts.TailFacts.{TailFacts}
use Rattle.onfi_cycle.specs.declared.target_cycle.TargetCycle.{TargetCycle}
use Rattle.onfi_cycle.specs.declared.target_cycle.TargetCycle.TheVariants.{CommandCycle, AddressCycle, InputCycle, OutputCycle}
use Rattle.onfi_cycle.specs.LunView.{LunView}
use Rattle.onfi_cycle.specs.Command.{closes_row, reads_row, is_page_program, is_write_column, at_last_row, reads_identity, is_reset, wants_one_lun}
use Rattle.onfi_cycle.specs.Sequence.{target_of, target_cycle, tail, facts_of, opened, takes_data, wants_command, wants_address, wants_column, row, row_with, input_column, takes_features, selects_plane}
use Rattle.onfi_cycle.specs.Effect.{is_off, is_data, is_shared, acts_for_target, of_target, other_effect, row_effect, cache_effect, names_lun, page_address, confirm_effect, command_effect, address_effect, opening_address_effect, program_row_effect, cycle_effect, id_effect, ends_features, plane_of_row, plane_effect, column_effect}
use Rattle.onfi_cycle.specs.declared.page_address.PageAddress.{PageAddress}
use Rattle.onfi_cycle.specs.Filling.{cycle_filling, filling, row_filling, copied, held_by}
use Rattle.onfi_cycle.specs.Lun.{latch, latch_alone, drivers, is_only, effect_on, effect_among, lun_view, luns_of, held, page_in_plane}
use Rattle.onfi_cycle.specs.Rules.{ends_row, breaks_several_luns}
use Rattle.onfi_cycle.specs.Permitted.{broken}
use Rattle.onfi_cycle.specs.State.{BusView, TargetView, Follows, target_view}
use Rattle.onfi_cycle.specs.Bounds.{LunFits, RowFits, RowStands, EffectFits, LunsFit, TargetFits, BusFits, TailFits, names_identity}
use Rattle.onfi_cycle.specs.Working.{fills, begins, works_on, is_reset_cycle, resets_several, IsLun, FactsFit}
use Rattle.onfi_cycle.proofs.Passed.{permitted_keeps}
use Rattle.onfi_cycle.proofs.Booleans.{clash}
use Rattle.onfi_cycle.proofs.Others.{chosen_else}
use Rattle.onfi_cycle.proofs.Keeping.{view_at}
use Rattle.onfi_cycle.proofs.EffectBounds.{effect_fits, identity_waits}
use Rattle.onfi_cycle.proofs.Following.{found_target, effect_by_state, effect_elsewhere}

same_number : (g : Parts) (r n m : ℕ) → names_lun g r n ≡ true → names_lun g r m ≡ true → n ≡ m
same_number g r n m a b = sym (eqb-true (parts_of g r).lun n a) ∙ eqb-true (parts_of g r).lun m b

-- of two LUNs of a target, what each kind of cycle asks
record MayShare (g : Parts) (t : TailFacts) (la lb : Latch) (cycle : TargetCycle) (n m : ℕ) : Type 0 where
  identity : names_identity t ≡ true → acts_for_target g n ≡ true → acts_for_target g m ≡ true → n ≡ m
  reset : is_reset_cycle cycle ≡ true → n ≡ m
  driver : is_off la ≡ false → is_off lb ≡ false → n ≡ m
  outside : wants_column t.phase ≡ true → t.opening ≡ None

-- what a test of one of two effects says
chosen : (b : Bool) (x : Effect) → begins (cond b x Unaffected) ≡ true → b ≡ true
chosen true x h = refl
chosen false x h = cc

chosen_or : (b : Bool) (x y : Effect) → begins y ≡ false → begins (cond b x y) ≡ true → b ≡ true
chosen_or true x y rests h = refl
chosen_or false x y rests h = cc

chosen_twice : (w a : Bool) (x : Effect) → begins (cond w (cond a x Deselected) Unaffected) ≡ true → (w ≡ true) × (a ≡ true)
chosen_twice true true x h = (refl, refl)
chosen_twice true false x h = cc
chosen_twice false a x h = cc

other_begins_none : (g : Parts) (t : TailFacts) (c : Command) → begins (other_effect g t c) ≡ false
other_begins_none g t c = at (closes_row c && (wants_command t c && is_shared g))
  where
    at : (b : Bool) → begins (cond b (AnotherAddressed (reads_row c)) Unaffected) ≡ false
    at true = refl
    at false = refl

shows_none : (b : Bool) → begins (cond b StatusOfSelected StatusSelected) ≡ true → false ≡ true
shows_none true h = h
shows_none false h = h

unless : (b : Bool) (x : Effect) → begins (cond b Unaffected x) ≡ true → b ≡ false
unless true x h = cc
unless false x h = refl

one_of_command : (g : Parts) (t : TailFacts) (la lb : Latch) (c : Command) (n m : ℕ) → MayShare g t la lb (CommandCycle c) n m → begins (command_effect g t la c n) ≡ true → begins (command_effect g t lb c m) ≡ true → n ≡ m
one_of_command g t la lb Read n m s a b = cc
one_of_command g t la lb ReadStatus n m s a b = let none = shows_none (is_shared g) a in cc
one_of_command g t la lb ReadStatusEnhanced n m s a b = cc
one_of_command g t la lb Reset n m s a b = s.reset refl
one_of_command g t la lb SynchronousReset n m s a b = s.reset refl
one_of_command g t la lb ReadCacheSequential n m s a b = at (wants_command t ReadCacheSequential) a b
  where
    named : (k : ℕ) → begins (row_effect g t ReadCacheSequential k) ≡ true → names_lun g (row t) k ≡ true
    named k h =
        (both (wants_command t ReadCacheSequential) _
        (chosen_or (wants_command t ReadCacheSequential && names_lun g (row t) k) (confirm_effect g t ReadCacheSequential) (other_effect g t ReadCacheSequential) (other_begins_none g t ReadCacheSequential) h)).1

    at : (w : Bool) → begins (cond w (row_effect g t ReadCacheSequential n) (cache_effect la)) ≡ true → begins (cond w (row_effect g t ReadCacheSequential m) (cache_effect lb)) ≡ true → n ≡ m
    at true a b = same_number g (row t) n m (named n a) (named m b)
    at false a b = s.driver (unless (is_off la) (CacheReadContinued None) a) (unless (is_off lb) (CacheReadContinued None) b)
one_of_command g t la lb ReadCacheEnd n m s a b = s.driver (unless (is_off la) CacheReadEnded a) (unless (is_off lb) CacheReadEnded b)
one_of_command g t la lb ChangeReadColumnConfirm n m s a b = at (selects_plane t) a b
  where
    named : (d : Bool) → begins (cond d (PlaneSelected (plane_of_row g (row t)) (planes g) t.column) Deselected) ≡ true → d ≡ true
    named true h = refl
    named false h = cc

    nothing : (d : Bool) → begins (cond d (ReadColumnChanged t.column) Unaffected) ≡ true → false ≡ true
    nothing true h = h
    nothing false h = h

    at : (w : Bool) → begins (cond w (plane_effect g t n) (column_effect t la)) ≡ true → begins (cond w (plane_effect g t m) (column_effect t lb)) ≡ true → n ≡ m
    at true a b = same_number g (row t) n m (named (names_lun g (row t) n) a) (named (names_lun g (row t) m) b)
    at false a b = let no = nothing (wants_command t ChangeReadColumnConfirm && not (is_off la)) a in cc
one_of_command g t la lb c n m s a b =
    same_number g (row t) n m
    (both (wants_command t c) _ (chosen_or (wants_command t c && names_lun g (row t) n) (confirm_effect g t c) (other_effect g t c) (other_begins_none g t c) a)).1
    (both (wants_command t c) _ (chosen_or (wants_command t c && names_lun g (row t) m) (confirm_effect g t c) (other_effect g t c) (other_begins_none g t c) b)).1

-- an address clears the register of the LUN that its row names, or resets that LUN, or is that of an identity
filled_when : (b : Bool) (x : Filling) → fills (cond b x Leaves) ≡ true → b ≡ true
filled_when true x h = refl
filled_when false x h = cc

-- the opener reads or sets what stands beside the array
abbrev opens_identity : TailFacts → Bool
opens_identity t = opened (λ c n. reads_identity c) t.opening

-- what an address that begins work is
data Begun (g : Parts) (t : TailFacts) (byte n : ℕ) : Type 0 where
  identity : opens_identity t ≡ true → names_identity t ≡ true → acts_for_target g n ≡ true → Begun g t byte n
  reset : opens_identity t ≡ false → names_lun g (row_with t byte) n ≡ true → Begun g t byte n

is_begun : (g : Parts) (t : TailFacts) (byte n : ℕ) → (wants_column t.phase ≡ true → t.opening ≡ None) → begins (opening_address_effect g t byte t.opening n) ≡ true → Begun g t byte n
is_begun g t byte n alone h = at t.opening refl h
  where
    outside : (o : Opening) → t.opening ≡ Some o → (b : Bool) → wants_column t.phase ≡ b → wants_column t.phase ≡ false
    outside o is true e = let none = alone e in cc
    outside o is false e = e

    selects : (b d : Bool) → begins (cond b (cond d SelectedForStatus Deselected) Unaffected) ≡ true → false ≡ true
    selects true true h = h
    selects true false h = h
    selects false d h = h

    programs : (b d : Bool) → begins (cond b (program_row_effect d) Unaffected) ≡ true → false ≡ true
    programs true true h = h
    programs true false h = h
    programs false d h = h

    reads : (o : Opening) → t.opening ≡ Some o → reads_identity o.opener ≡ true → (wants_address t byte ≡ true) × (acts_for_target g n ≡ true) → Begun g t byte n
    reads o e r w = identity (ap (opened (λ c n. reads_identity c)) e ∙ r) (identity_waits t byte o e (outside o e (wants_column t.phase) refl) r w.0) w.1

    resets : (b named shared : Bool) → begins (cond b (cond named ResetStarted (cond shared (AnotherAddressed false) Unaffected)) Unaffected) ≡ true → named ≡ true
    resets true true shared h = refl
    resets true false true h = cc
    resets true false false h = cc
    resets false named shared h = cc

    kind : (o : Opening) → t.opening ≡ Some o → (c : Command) → o.opener ≡ c → (k : ℕ) → begins (address_effect g t byte c k n) ≡ true → Begun g t byte n
    kind o e ReadStatusEnhanced is k h = let no = selects (k == 2) (names_lun g (row_with t byte) n) h in cc
    kind o e ReadId is k h = reads o e (ap reads_identity is) (chosen_twice (wants_address t byte) (acts_for_target g n) (id_effect byte) h)
    kind o e ReadParameterPage is k h = reads o e (ap reads_identity is) (chosen_twice (wants_address t byte) (acts_for_target g n) ParameterPageReadStarted h)
    kind o e ReadUniqueId is k h = reads o e (ap reads_identity is) (chosen_twice (wants_address t byte) (acts_for_target g n) UniqueIdReadStarted h)
    kind o e GetFeatures is k h = reads o e (ap reads_identity is) (chosen_twice (wants_address t byte) (acts_for_target g n) (FeaturesReadStarted byte) h)
    kind o e ResetLun is k h = reset (ap (opened (λ c n. reads_identity c)) e ∙ ap reads_identity is) (resets (k == 2) (names_lun g (row_with t byte) n) (is_shared g) h)
    kind o e PageProgram is k h = let no = programs (k == 4) (names_lun g (row_with t byte) n) h in cc
    kind o e c is k h = cc

    at : (o : Option Opening) → t.opening ≡ o → begins (opening_address_effect g t byte o n) ≡ true → Begun g t byte n
    at None e h = cc
    at (Some o) e h = kind o e o.opener refl o.addresses h

either : {A : Type 0} (a b : Bool) → (a || b) ≡ true → (a ≡ true → A) → (b ≡ true → A) → A
either true b h f k = f refl
either false b h f k = k h

-- the row names the LUN, or an identity is asked for
one_of_two : (g : Parts) (t : TailFacts) (byte n m : ℕ) → (names_identity t ≡ true → acts_for_target g n ≡ true → acts_for_target g m ≡ true → n ≡ m) → Begun g t byte n → Begun g t byte m → n ≡ m
one_of_two g t byte n m same (identity o i a) (identity p j b) = same i a b
one_of_two g t byte n m same (identity o i a) (reset p b) = absurd (clash (opens_identity t) o p)
one_of_two g t byte n m same (reset o a) (identity p i b) = absurd (clash (opens_identity t) p o)
one_of_two g t byte n m same (reset o a) (reset p b) = same_number g (row_with t byte) n m a b

-- the fifth address of a program is none of an identity
program_opens_none : (o : Option Opening) → opened (λ c n. is_page_program c && at_last_row c n) o ≡ true → opened (λ c n. reads_identity c) o ≡ false
program_opens_none None h = cc
program_opens_none (Some o) h = of o.opener (both (is_page_program o.opener) _ h).0
  where
    of : (c : Command) → is_page_program c ≡ true → reads_identity c ≡ false
    of PageProgram h = refl
    of c h = cc

copyback_opens_none : (o : Option Opening) → opened (λ c n. is_write_column c && at_last_row c n) o ≡ true → opened (λ c n. reads_identity c) o ≡ false
copyback_opens_none None h = cc
copyback_opens_none (Some o) h = of o.opener (both (is_write_column o.opener) _ h).0
  where
    of : (c : Command) → is_write_column c ≡ true → reads_identity c ≡ false
    of ChangeWriteColumn h = refl
    of c h = cc

row_opens_none : (g : Parts) (t : TailFacts) (row : ℕ) (held : List PageAddress) → fills (row_filling g t row held) ≡ true → opens_identity t ≡ false
row_opens_none g t row held h = of (ends_row is_page_program t) refl (ends_row is_write_column t) refl h
  where
    of : (p : Bool) → ends_row is_page_program t ≡ p → (c : Bool) → ends_row is_write_column t ≡ c
        → fills (cond p (Clears (page_address g row)) (cond c (copied (page_address g row) (page_in_plane (planes g) (plane_of_row g row) held)) Leaves)) ≡ true → opens_identity t ≡ false
    of true e c f h = program_opens_none t.opening e
    of false e true f h = copyback_opens_none t.opening f
    of false e false f h = cc

one_of_address : (g : Parts) (t : TailFacts) (la lb : Latch) (hn hm : List PageAddress) (byte n m : ℕ) → MayShare g t la lb (AddressCycle byte) n m → (fills (cycle_filling g t (AddressCycle byte) n hn) || begins (cycle_effect g t la (AddressCycle byte) n)) ≡ true → (fills (cycle_filling g t (AddressCycle byte) m hm) || begins (cycle_effect g t lb (AddressCycle byte) m)) ≡ true → n ≡ m
one_of_address g t la lb hn hm byte n m s a b =
    one_of_two g t byte n m s.identity
    (either _ _ a (cleared n hn) (is_begun g t byte n s.outside))
    (either _ _ b (cleared m hm) (is_begun g t byte m s.outside))
  where
    cleared : (k : ℕ) (held : List PageAddress) → fills (cycle_filling g t (AddressCycle byte) k held) ≡ true → Begun g t byte k
    cleared k held h =
        let named = filled_when (names_lun g (row_with t byte) k) (row_filling g t (row_with t byte) held) h in
        reset (row_opens_none g t (row_with t byte) held (rw named at h)) named

abbrev filled_by_data : Parts → TailFacts → ℕ → Bool
filled_by_data g t k = takes_data t.phase && names_lun g (row t) k

one_of_input : (g : Parts) (t : TailFacts) (la lb : Latch) (hn hm : List PageAddress) (byte n m : ℕ) → MayShare g t la lb (InputCycle byte) n m → (fills (cycle_filling g t (InputCycle byte) n hn) || begins (cycle_effect g t la (InputCycle byte) n)) ≡ true → (fills (cycle_filling g t (InputCycle byte) m hm) || begins (cycle_effect g t lb (InputCycle byte) m)) ≡ true → n ≡ m
one_of_input g t la lb hn hm byte n m s a b = at (ends_features t) refl
  where
    fill : ℕ → Filling
    fill k = cond (filled_by_data g t k) (Fills (page_address g (row t)) (input_column t) byte) Leaves

    start : Bool → ℕ → Effect
    start x k = cond x (of_target g k (FeaturesSet (t.column % 256))) Unaffected

    named : (k : ℕ) → fills (fill k) ≡ true → (takes_data t.phase ≡ true) × (names_lun g (row t) k ≡ true)
    named k h = both (takes_data t.phase) (names_lun g (row t) k) (filled_when (filled_by_data g t k) (Fills (page_address g (row t)) (input_column t) byte) h)

    names : (x : Bool) → x ≡ false → (k : ℕ) → (fills (fill k) || begins (start x k)) ≡ true → names_lun g (row t) k ≡ true
    names x e k h = either (fills (fill k)) (begins (start x k)) h (λ f. (named k f).1) (λ f. let no = chosen x _ f in absurd (clash x no e))

    no_data : (p : DataPhase) → takes_features p ≡ true → takes_data p ≡ true → ⊥
    no_data Outside f d = cc
    no_data Inputs f d = cc
    no_data FirstColumn f d = cc
    no_data SecondColumn f d = cc
    no_data FeatureInputs f d = cc

    acts : takes_features t.phase ≡ true → (x : Bool) → (k : ℕ) → (fills (fill k) || begins (start x k)) ≡ true → acts_for_target g k ≡ true
    acts e x k h = either (fills (fill k)) (begins (start x k)) h (λ f. absurd (no_data t.phase e (named k f).0)) (λ f. (chosen_twice x (acts_for_target g k) (FeaturesSet (t.column % 256)) f).1)

    at : (x : Bool) → ends_features t ≡ x → n ≡ m
    at true e =
        let features = (both (takes_features t.phase) _ e).0 in
        s.identity (or_right (opened (λ c n. reads_identity c && n == 0) t.opening) (takes_features t.phase) features)
        (acts features (ends_features t) n a) (acts features (ends_features t) m b)
    at false e = same_number g (row t) n m (names (ends_features t) e n a) (names (ends_features t) e m b)

no_output : (la : Latch) → begins (cond (is_data la) DataOutput Unaffected) ≡ true → false ≡ true
no_output la h = of (is_data la) h
  where
    of : (b : Bool) → begins (cond b DataOutput Unaffected) ≡ true → false ≡ true
    of true h = h
    of false h = h

abbrev works_by : Parts → TailFacts → Latch → List PageAddress → TargetCycle → ℕ → Bool
works_by g t la held cycle n = fills (cycle_filling g t cycle n held) || begins (cycle_effect g t la cycle n)

one_of_cycle : (g : Parts) (t : TailFacts) (la lb : Latch) (hn hm : List PageAddress) (cycle : TargetCycle) (n m : ℕ) → MayShare g t la lb cycle n m → works_by g t la hn cycle n ≡ true → works_by g t lb hm cycle m ≡ true → n ≡ m
one_of_cycle g t la lb hn hm (CommandCycle c) n m s a b = one_of_command g t la lb c n m s a b
one_of_cycle g t la lb hn hm (AddressCycle byte) n m s a b = one_of_address g t la lb hn hm byte n m s a b
one_of_cycle g t la lb hn hm (InputCycle byte) n m s a b = one_of_input g t la lb hn hm byte n m s a b
one_of_cycle g t la lb hn hm OutputCycle n m s a b = let no = no_output la a in cc

-- two that are the only one
one_only : (ds : List ℕ) (n m : ℕ) → is_only ds n ≡ true → is_only ds m ≡ true → n ≡ m
one_only [] n m a b = cc
one_only (d ∷ []) n m a b = sym (eqb-true d n a) ∙ eqb-true d m b
one_only (d ∷ (e ∷ ds)) n m a b = cc

alone_is_only : (g : Parts) (past : List Item) (l : Lun) → is_off (latch_alone g past l) ≡ false → is_only (drivers g past l.ce) l.lun ≡ true
alone_is_only g past l h = of (is_only (drivers g past l.ce) l.lun) h
  where
    of : (b : Bool) → is_off (cond b (latch g past l) Off) ≡ false → b ≡ true
    of true h = refl
    of false h = cc

-- where an item works, it happens on the target
cycle_of : (g : Parts) (past : List Item) (c : Cycle) (l : Lun) → works_on g past (Cyc c) l ≡ true → (c.ce ≡ l.ce) × (works_by g (facts_of (tail past l.ce)) (latch_alone g past l) (held g past l) (target_cycle c.kind c.byte) l.lun ≡ true)
unfolding effect_among
cycle_of g past c l h = at (c.ce == l.ce) refl h
  where
    at : (b : Bool) → (c.ce == l.ce) ≡ b → (fills (cond b (cycle_filling g (facts_of (tail past l.ce)) (target_cycle c.kind c.byte) l.lun (held g past l)) Leaves) || begins (cond b (cycle_effect g (facts_of (tail past l.ce)) (latch_alone g past l) (target_cycle c.kind c.byte) l.lun) Unaffected)) ≡ true → (c.ce ≡ l.ce) × (works_by g (facts_of (tail past l.ce)) (latch_alone g past l) (held g past l) (target_cycle c.kind c.byte) l.lun ≡ true)
    at true e h = (eqb-true c.ce l.ce e, h)
    at false e h = cc

ready_rests : (g : Parts) (past : List Item) (i : Item) (l : Lun) → works_on g past i l ≡ true → (c : Cycle) × (i ≡ Cyc c)
unfolding effect_among
ready_rests g past (Cyc c) l h = (c, refl)
ready_rests g past (Rdy ce lun fail) l h = let no = of (ce == l.ce && lun == l.lun) h in cc
  where
    of : (b : Bool) → begins (cond b (BecameReady fail) Unaffected) ≡ true → false ≡ true
    of true h = h
    of false h = h
ready_rests g past (Ard ce lun fail) l h = let no = of (ce == l.ce && lun == l.lun) h in cc
  where
    of : (b : Bool) → begins (cond b (ArrayBecameReady fail) Unaffected) ≡ true → false ≡ true
    of true h = h
    of false h = h

few_luns : (g : Parts) (luns : List LunView) (cycle : TargetCycle) → (is_shared g && is_reset_cycle cycle) ≡ false → breaks_several_luns g luns cycle ≡ false → is_reset_cycle cycle ≡ true → g.luns ≤ 1
unfolding breaks_several_luns
few_luns g luns (CommandCycle c) narrow f4 e = of c (chosen_else (is_shared g) _ _ f4 (unshared (is_shared g) (is_reset c) narrow e)) e
  where
    unshared : (a b : Bool) → (a && b) ≡ false → b ≡ true → a ≡ false
    unshared true b h e = cc
    unshared false b h e = refl

    of : (c : Command) → (wants_one_lun c && ltb 1 g.luns) ≡ false → is_reset c ≡ true → g.luns ≤ 1
    of Reset f4 e = let low : ltb 1 g.luns ≡ false = f4 in grind (arith, nat_tests)
    of SynchronousReset f4 e = let low : ltb 1 g.luns ≡ false = f4 in grind (arith, nat_tests)
    of c f4 e = cc
few_luns g luns (AddressCycle byte) narrow f4 e = cc
few_luns g luns (InputCycle byte) narrow f4 e = cc
few_luns g luns OutputCycle narrow f4 e = cc

-- in the wider profile the first LUN of several acts for its target, and else there is one
one_acts : (g : Parts) (n m : ℕ) → (is_shared g ≡ false → n ≡ m) → acts_for_target g n ≡ true → acts_for_target g m ≡ true → n ≡ m
one_acts g n m alone a b = at (is_shared g) alone a b
  where
    at : (shared : Bool) → (shared ≡ false → n ≡ m) → (not shared || (n == 0)) ≡ true → (not shared || (m == 0)) ≡ true → n ≡ m
    at true alone a b = eqb-true n 0 a ∙ sym (eqb-true m 0 b)
    at false alone a b = alone refl

-- what a state that fits knows of one of its LUNs
record Known (g : Parts) (past : List Item) (l : Lun) : Type 0 where
  tail_fits : TailFits g (facts_of (tail past l.ce))
  lun : LunFits g (lun_view g past l)
  row : RowFits g (facts_of (tail past l.ce)) l.lun (lun_view g past l)
  stands : RowStands g (facts_of (tail past l.ce)) l.lun (lun_view g past l)

record AtPlace (g : Parts) (t : TailFacts) (n : ℕ) (v : LunView) : Type 0 where
  lun : LunFits g v
  row : RowFits g t n v
  stands : RowStands g t n v

at_place : (g : Parts) (t : TailFacts) (n : ℕ) (vs : List LunView) (k : ℕ) (v : LunView) → LunsFit g t n vs → slice_get vs k ≡ Some v → AtPlace g t (n + k) v
at_place g t n [] k v f found = cc
at_place g t n (x ∷ vs) zero v f found =
    let same : x ≡ v = cc in
    let here : n ≡ n + 0 = omega arith in
    subst (λ (k : ℕ). AtPlace g t k v) here (subst (AtPlace g t n) same (record { lun = f.0; row = f.1; stands = f.2 }))
at_place g t n (x ∷ vs) (suc k) v f found =
    let later : n + 1 + k ≡ n + suc k = omega arith in
    subst (λ (j : ℕ). AtPlace g t j v) later (at_place g t (n + 1) vs k v f.3 found)

pub target_fits_at : (g : Parts) (targets : List TargetView) (k : ℕ) (v : TargetView) → All (TargetFits g) targets → slice_get targets k ≡ Some v → TargetFits g v
target_fits_at g targets k v all found =
    subst (TargetFits g) (get_or_from_slice_get targets k v v found) (all k v (slice_get_within targets k v found))

known : (g : Parts) (n : ℕ) (s : BusView) (past : List Item) (l : Lun) → BusFits s → Follows g n s past → IsLun g n l → Known g past l
known g n s past l fits f there =
    let target = subst (λ (x : Parts). TargetFits x (target_view g past l.ce)) f.geometry (target_fits_at s.geometry s.targets l.ce (target_view g past l.ce) fits.targets (found_target g n s past l.ce f there.target)) in
    let zeroth : 0 + l.lun ≡ l.lun = omega arith in
    let place = subst (λ (k : ℕ). AtPlace g (facts_of (tail past l.ce)) k (lun_view g past l)) zeroth (at_place g (facts_of (tail past l.ce)) 0 (luns_of g past l.ce) l.lun (lun_view g past l) target.luns (view_at g past l there.lun)) in
    record { tail_fits = target.tail; lun = place.lun; row = place.row; stands = place.stands }

same_ce : (l m : Lun) → l.ce ≡ m.ce → l.lun ≡ m.lun → l ≡ m
same_ce l m a b = rw (a, b) refl

one_of_cycles : (g : Parts) (n : ℕ) (s : BusView) (past : List Item) (c : Cycle) (l m : Lun) → resets_several g (Cyc c) ≡ false → BusFits s → Follows g n s past → IsLun g n l → IsLun g n m → broken g n past (Cyc c) ≡ None → works_on g past (Cyc c) l ≡ true → works_on g past (Cyc c) m ≡ true → l ≡ m
one_of_cycles g n s past c l m narrow fits f there also h a b =
    let x = cycle_of g past c l a in
    let y = cycle_of g past c m b in
    let keeps = permitted_keeps g n past c h in
    let together : m.ce ≡ l.ce = sym y.0 ∙ x.0 in
    let t = facts_of (tail past l.ce) in
    let stands = (known g n s past l fits f there).stands in
    let other : RowStands g t m.lun (lun_view g past m) = subst (λ (ce : ℕ). RowStands g (facts_of (tail past ce)) m.lun (lun_view g past m)) together (known g n s past m fits f also).stands in
    let works : works_by g t (latch_alone g past m) (held g past m) (target_cycle c.kind c.byte) m.lun ≡ true = subst (λ (ce : ℕ). works_by g (facts_of (tail past ce)) (latch_alone g past m) (held g past m) (target_cycle c.kind c.byte) m.lun ≡ true) together y.1 in
    let tf = (known g n s past l fits f there).tail_fits in
    same_ce l m (sym together)
    (one_of_cycle g t (latch_alone g past l) (latch_alone g past m) (held g past l) (held g past m) (target_cycle c.kind c.byte) l.lun m.lun
    (record {
      identity = λ i. one_acts g l.lun m.lun (λ one. stands.alone one i ∙ sym (other.alone one i));
      reset = λ e. let few = few_luns g (luns_of g past c.ce) (target_cycle c.kind c.byte) narrow keeps.f4 e in let low = there.lun in let low' = also.lun in omega arith;
      driver = λ p q. one_only (drivers g past l.ce) l.lun m.lun (alone_is_only g past l p) (subst (λ (ce : ℕ). is_only (drivers g past ce) m.lun ≡ true) together (alone_is_only g past m q));
      outside = tf.in_column;
    })
    x.1 works)

elsewhere_fits : (g : Parts) (past : List Item) (i : Item) (l : Lun) → target_of i ≢ l.ce → EffectFits g (lun_view g past l) (effect_on g past i l)
elsewhere_fits g past i l ne = subst (EffectFits g (lun_view g past l)) (effect_elsewhere g past i l ne) tt

effect_comes : (g : Parts) (n : ℕ) (s : BusView) (past : List Item) (i : Item) (l : Lun) → BusFits s → Follows g n s past → IsLun g n l → broken g n past i ≡ None → EffectFits g (lun_view g past l) (effect_on g past i l)
effect_comes g n s past i l fits f there h = at (target_of i == l.ce) refl
  where
    limits : InLimits g
    limits = subst InLimits f.geometry fits.limits

    here : (m : Lun) → IsLun g n m → target_of i ≡ m.ce → EffectFits g (lun_view g past m) (effect_on g past i m)
    here m at e =
        let place : Lun = record { ce = target_of i; lun = m.lun } in
        let same : place ≡ m = rw e refl in
        let is : IsLun g n place = subst (IsLun g n) (sym same) at in
        let k = known g n s past place fits f is in
        subst (λ (x : Lun). EffectFits g (lun_view g past x) (effect_on g past i x)) same
        (subst (EffectFits g (lun_view g past place)) (sym (effect_by_state g past i m.lun at.lun))
        (effect_fits g limits n (facts_of (tail past (target_of i))) (luns_of g past (target_of i)) i m.lun (lun_view g past place) h k.tail_fits k.row k.stands (view_at g past place at.lun)))

    at : (b : Bool) → (target_of i == l.ce) ≡ b → EffectFits g (lun_view g past l) (effect_on g past i l)
    at true e = here l there (eqb-true (target_of i) l.ce e)
    at false e = let ne : target_of i ≢ l.ce = grind (arith, nat_tests) in elsewhere_fits g past i l ne

-- what a state that fits and follows a past keeps to
pub facts_fit : (g : Parts) (n : ℕ) (s : BusView) (past : List Item) → BusFits s → Follows g n s past → FactsFit g n past
facts_fit g n s past fits f =
    record {
      limits = subst InLimits f.geometry fits.limits;
      lun = λ l there. (known g n s past l fits f there).lun;
      row = λ l there. (known g n s past l fits f there).row;
      stands = λ l there. (known g n s past l fits f there).stands;
      effect = λ i l there h. effect_comes g n s past i l fits f there h;
      one = λ i l m narrow there also h a b.
          let c = ready_rests g past i l a in
          one_of_cycles g n s past c.0 l m (sym (ap (resets_several g) c.1) ∙ narrow) fits f there also
          (sym (ap (broken g n past) c.1) ∙ h)
          (sym (ap (λ (x : Item). works_on g past x l) c.1) ∙ a)
          (sym (ap (λ (x : Item). works_on g past x m) c.1) ∙ b);
    }

-- the facts of the tail, by the state and by the past
pub tail_there : (g : Parts) (n : ℕ) (s : BusView) (past : List Item) (ce : ℕ) (v : TargetView) → Follows g n s past → ce < n → slice_get s.targets ce ≡ Some v → v.tail ≡ facts_of (tail past ce)
tail_there g n s past ce v f here found =
    let same : v ≡ target_view g past ce = let two = found_target g n s past ce f here in cc in
    ap (λ (x : TargetView). x.tail) same

-- what an item does to the page registers, by the state and by the past
pub filling_there : (g : Parts) (n : ℕ) (s : BusView) (past : List Item) (i : Item) (l : Lun) (v : TargetView) → Follows g n s past → l.ce < n → l.lun < g.luns → slice_get s.targets l.ce ≡ Some v
    → filling s.geometry v.tail i l (held_by (slice_get v.luns l.lun)) ≡ filling g (facts_of (tail past l.ce)) i l (held g past l)
filling_there g n s past i l v f here low found =
    let same : v ≡ target_view g past l.ce = let two = found_target g n s past l.ce f here in cc in
    ap (λ (x : Parts). filling x v.tail i l (held_by (slice_get v.luns l.lun))) f.geometry
    ∙ (ap (λ (x : TargetView). filling g x.tail i l (held_by (slice_get x.luns l.lun))) same
    ∙ ap (λ (o : Option LunView). filling g (facts_of (tail past l.ce)) i l (held_by o)) (view_at g past l low))
