-- A permitted cycle that is seen, on each LUN of its target.
use Rattle.std.proofs.Common.{◌≡◌, ℕ, ◌+◌, ◌==◌, Bool, true, false, cond, not, ◌&&◌, List, [], ◌∷◌, Option, Some, None, refl, sym, ap, ◌∙◌, subst, slice_get, eqb-true, length, leb}
use Rattle.std.proofs.lemmas.Bool.{and_parts, or_parts, not-true, not-false}
use Rattle.nand_geometry.specs.declared.parts.Parts.{Parts}
use Rattle.nand_geometry.specs.Limits.{planes}
use Rattle.nand_geometry.specs.Optional.{has_plane_reads}
use Rattle.nand_geometry.specs.Row.{parts_of}
use Rattle.onfi_cycle.specs.declared.command.Command.{Command}
use Rattle.onfi_cycle.specs.declared.command.Command.TheVariants.{Read, ReadConfirm, ChangeReadColumn, ChangeReadColumnEnhanced, ChangeReadColumnConfirm, BlockErase, BlockEraseConfirm, BlockErasePlane, ReadStatus, ReadStatusEnhanced, PageProgram, ProgramConfirm, ProgramPlane, ReadPlane, ReadId, ReadParameterPage, Reset, ReadCacheSequential, ReadCacheEnd, ReadUniqueId, GetFeatures, SetFeatures, ResetLun, SynchronousReset, CopybackRead, ChangeWriteColumn, ProgramCache}
use Rattle.onfi_cycle.specs.declared.effect.Effect.{Effect}
use Rattle.onfi_cycle.specs.declared.effect.Effect.TheVariants.{Unaffected, SelectedForStatus, Deselected, IdRead, IdentityRead, UniqueIdReadStarted, FeaturesReadStarted, FeaturesSet, ParameterPageReadStarted, CacheReadContinued, CacheReadEnded, ReadColumnChanged, PlaneSelected, DataOutput, ResetStarted, AnotherAddressed, ProgramAddressed}
use Rattle.onfi_cycle.specs.declared.item.Cycle.{Cycle}
use Rattle.onfi_cycle.specs.declared.item.Item.{Item}
use Rattle.onfi_cycle.specs.declared.item.Item.TheVariants.{Cyc}
use Rattle.onfi_cycle.specs.declared.latch.Latch.{Latch}
use Rattle.onfi_cycle.specs.declared.latch.Latch.TheVariants.{Off, Status, Data}
use Rattle.onfi_cycle.specs.declared.opening.Opening.{Opening}
use Rattle.onfi_cycle.specs.declared.tail_facts.TailFacts.{TailFacts}
use Rattle.onfi_cycle.specs.declared.target_cycle.TargetCycle.{TargetCycle}
use Rattle.onfi_cycle.specs.declared.target_cycle.TargetCycle.TheVariants.{CommandCycle, AddressCycle, InputCycle, OutputCycle}
use Rattle.onfi_cycle.specs.Applied.{asks_driver}
use Rattle.onfi_cycle.specs.Bounds.{is_read}
use Rattle.onfi_cycle.specs.Command.{is_opener, closes, address_cycles, is_change_read_column, is_enhanced_column}
use Rattle.onfi_cycle.specs.Effect.{is_off, is_data, is_shared, of_target, other_effect, lun_reset_effect, confirm_effect, row_effect, cache_effect, plane_of_row, plane_effect, column_effect, names_lun, command_effect, id_effect, address_effect, opening_address_effect, cycle_effect, ends_features, program_row_effect}
use Rattle.onfi_cycle.specs.Look.{look_at}
use Rattle.onfi_cycle.specs.Lun.{is_cache_read, is_page_read, view_after}
use Rattle.onfi_cycle.specs.LunView.{LunView}
use Rattle.onfi_cycle.specs.Rules.{is_some_and, driver, driver_is, named_lun_is, is_empty, has_read_one, continues_cache, ends_cache, breaks_no_sole_driver, breaks_cache_read_misplaced, breaks_command_unknown}
use Rattle.onfi_cycle.specs.Sequence.{target_cycle, facts_of, begins_anew, opened, selects_plane, wants_address, wants_command, row, row_with, is_open}
use Rattle.onfi_cycle.specs.State.{effect_alone, luns_after, has_driver}
use Rattle.onfi_cycle.proofs.Booleans.{eqb_self}
use Rattle.onfi_cycle.proofs.Passed.{KeepsRules}
use Rattle.trace_faults.specs.declared.known.Known.{Known}
use Rattle.trace_faults.specs.declared.lun_known.LunKnown.{LunKnown}
use Rattle.trace_faults.specs.Middle.{knows, is_all, has_begun, is_reset_cycle, is_reset, learned_lun}
use Rattle.recording_laws.proofs.Luns.{IsNarrow, Shows, IsBelow, Fits, Asks, fits_after}
use Rattle.recording_laws.proofs.Lists.{Each, SameOff, same_driver, AllOn, driver_on}
use Rattle.recording_laws.proofs.Changed.{changed, luns_are_changed, same_changed, AtEach, at_each, Goes, GoEach, go_each}
use Rattle.recording_laws.proofs.Unseen.{other_plain, target_plain}

-- ---- 1. the effects of a cycle

abbrev pub by_cycle : Parts → TailFacts → (sole : Bool) → TargetCycle → ℕ → LunView → Effect
by_cycle g t sole cycle n v = cycle_effect g t (cond sole v.latch Off) cycle n

cycle_alone : (g : Parts) (t : TailFacts) (sole : Bool) (c : Cycle) (n : ℕ) (v : LunView) → effect_alone g t sole (Cyc c) n v ≡ by_cycle g t sole (target_cycle c.kind c.byte) n v
cycle_alone g t sole c n v = rw (eqb_self c.ce) refl

pub luns_by_cycle : (g : Parts) (t : TailFacts) (sole : Bool) (c : Cycle) (vs : List LunView) → luns_after g t sole (Cyc c) 0 vs ≡ changed (by_cycle g t sole (target_cycle c.kind c.byte)) 0 vs
luns_by_cycle g t sole c vs = luns_are_changed g t sole (Cyc c) 0 vs ∙ same_changed (effect_alone g t sole (Cyc c)) (by_cycle g t sole (target_cycle c.kind c.byte)) (cycle_alone g t sole c) 0 vs

-- ---- 2. what an effect asks

asks_if : (p : Bool) (b : Bool) (x : Effect) (t s : LunView) → (b ≡ true → Asks p x t s) → Asks p (cond b x Unaffected) t s
asks_if p true x t s h = h refl
asks_if p false x t s h = tt

asks_or : (p : Bool) (b : Bool) (x y : Effect) (t s : LunView) → (b ≡ true → Asks p x t s) → Asks p y t s → Asks p (cond b x y) t s
asks_or p true x y t s h k = h refl
asks_or p false x y t s h k = k

asks_other : (g : Parts) (u : TailFacts) (c : Command) (t s : LunView) → is_shared g ≡ false → Asks (has_plane_reads g.optional) (other_effect g u c) t s
asks_other g u c t s plain = subst (λ (e : Effect). Asks (has_plane_reads g.optional) e t s) (sym (other_plain g u c plain)) tt

asks_target : (g : Parts) (n : ℕ) (e : Effect) (t s : LunView) → is_shared g ≡ false → Asks (has_plane_reads g.optional) e t s → Asks (has_plane_reads g.optional) (of_target g n e) t s
asks_target g n e t s plain h = subst (λ (x : Effect). Asks (has_plane_reads g.optional) x t s) (sym (target_plain g n e plain)) h

asks_unless : (p : Bool) (b : Bool) (x : Effect) (t s : LunView) → (b ≡ false → Asks p x t s) → Asks p (cond b Unaffected x) t s
asks_unless p true x t s h = tt
asks_unless p false x t s h = h refl

asks_id : (p : Bool) (byte : ℕ) (t s : LunView) → Asks p (id_effect byte) t s
asks_id p byte t s = of (byte == 0x20)
  where
    of : (b : Bool) → Asks p (cond b IdRead (IdentityRead (byte == 0x40))) t s
    of true = tt
    of false = tt

asks_selected : (p : Bool) (b d : Bool) (t s : LunView) → Asks p (cond b (cond d SelectedForStatus Deselected) Unaffected) t s
asks_selected p true true t s = tt
asks_selected p true false t s = tt
asks_selected p false d t s = tt

-- the effect that goes on on both
pub go_same : (p : Bool) (i : Item) (k : LunKnown) (et es : Effect) (t s : LunView) → et ≡ es → Asks p es t s → (is_reset i ≡ true → es ≡ ResetStarted) → Goes p i k et es t s
go_same p i k et es t s e asks resets f =
    subst (λ (x : Effect). Fits p (learned_lun p i (Some (look_at s)) (Some (look_at (view_after es s))) k) (view_after x t) (view_after es s)) (sym e) (fits_after p k i es t s f asks resets)

-- ---- 3. commands

same_command : (g : Parts) (t : TailFacts) (la lb : Latch) (c : Command) (n : ℕ) → asks_driver (CommandCycle c) ≡ false → command_effect g t la c n ≡ command_effect g t lb c n
same_command g t la lb ReadCacheSequential n h = cc
same_command g t la lb ReadCacheEnd n h = cc
same_command g t la lb ChangeReadColumnConfirm n h = cc
same_command g t la lb c n h = refl

read_wanted : (c : Command) (n : ℕ) → (closes c ReadConfirm && n == address_cycles c) ≡ true → (is_read c && n == 5) ≡ true
read_wanted Read n h = h
read_wanted c n h = cc

read_opened : (o : Option Opening) → opened (λ c n. closes c ReadConfirm && n == address_cycles c) o ≡ true → opened (λ c n. is_read c && n == 5) o ≡ true
read_opened None h = h
read_opened (Some o) h = read_wanted o.opener o.addresses h

-- an E0h that no 06h opened is wanted by 05h
column_wanted : (c : Command) (n : ℕ) → (is_enhanced_column c && n == 5) ≡ false → (closes c ChangeReadColumnConfirm && n == address_cycles c) ≡ true → is_change_read_column c ≡ true
column_wanted ChangeReadColumn n e h = refl
column_wanted ChangeReadColumnEnhanced n e h = cc
column_wanted c n e h = cc

column_opened : (o : Option Opening) → opened (λ c n. is_enhanced_column c && n == 5) o ≡ false → opened (λ c n. closes c ChangeReadColumnConfirm && n == address_cycles c) o ≡ true → opened (λ c n. is_change_read_column c) o ≡ true
column_opened None e h = h
column_opened (Some o) e h = column_wanted o.opener o.addresses e h

-- a read of a page has no queue, where the chip reads one plane at once
abbrev pub ReadsClear : Parts → TailFacts → ℕ → LunView → Type 0
ReadsClear g u n t = has_plane_reads g.optional ≡ false → opened (λ c n. is_read c && n == 5) u.opening ≡ true → names_lun g (row u) n ≡ true → t.queue ≡ []

-- nothing is queued where a plane is chosen
abbrev pub PlaneClear : Parts → TailFacts → ℕ → LunView → Type 0
PlaneClear g u n s = opened (λ c n. is_enhanced_column c && n == 5) u.opening ≡ true → names_lun g (row u) n ≡ true → s.queue ≡ []

-- E0h behind a 06h asks that
asks_plane : (g : Parts) (u : TailFacts) (n : ℕ) (t s : LunView) → selects_plane u ≡ true → PlaneClear g u n s → Asks (has_plane_reads g.optional) (plane_effect g u n) t s
asks_plane g u n t s selects z = of (names_lun g (row u) n) refl
  where
    of : (b : Bool) → names_lun g (row u) n ≡ b → Asks (has_plane_reads g.optional) (cond b (PlaneSelected (plane_of_row g (row u)) (planes g) u.column) Deselected) t s
    of true names = z selects names
    of false names = tt

asks_command : (g : Parts) → is_shared g ≡ false → IsNarrow g → (u : TailFacts) (la : Latch) (c : Command) (n : ℕ) (t s : LunView) → breaks_command_unknown g (CommandCycle c) ≡ false → asks_driver (CommandCycle c) ≡ false → ReadsClear g u n t → Asks (has_plane_reads g.optional) (command_effect g u la c n) t s
unfolding breaks_command_unknown
asks_command g plain copyless u la Read n t s f2 h z = tt
asks_command g plain copyless u la ReadStatus n t s f2 h z = rw plain tt
asks_command g plain copyless u la ReadStatusEnhanced n t s f2 h z = tt
asks_command g plain copyless u la Reset n t s f2 h z = rw plain tt
asks_command g plain copyless u la SynchronousReset n t s f2 h z = rw plain tt
asks_command g plain copyless u la ReadCacheSequential n t s f2 h z = cc
asks_command g plain copyless u la ReadCacheEnd n t s f2 h z = cc
asks_command g plain copyless u la ChangeReadColumnConfirm n t s f2 h z = cc
asks_command g plain copyless u la ReadConfirm n t s f2 h z =
    asks_or (has_plane_reads g.optional) (wants_command u ReadConfirm && names_lun g (row u) n) (confirm_effect g u ReadConfirm) (other_effect g u ReadConfirm) t s
    (λ b single. let a = and_parts (wants_command u ReadConfirm) (names_lun g (row u) n) b in z single (read_opened u.opening a.0) a.1) (asks_other g u ReadConfirm t s plain)
asks_command g plain copyless u la CopybackRead n t s f2 h z = let none : true ≡ false = rw copyless.copyback at f2 in cc
asks_command g plain copyless u la ProgramCache n t s f2 h z = let none : true ≡ false = rw copyless.cache at f2 in cc
asks_command g plain copyless u la c n t s f2 h z = asks_or (has_plane_reads g.optional) (wants_command u c && names_lun g (row u) n) (confirm_effect g u c) (other_effect g u c) t s (λ b. tt) (asks_other g u c t s plain)

resets_command : (g : Parts) → is_shared g ≡ false → (u : TailFacts) (la : Latch) (c : Command) (n : ℕ) → is_reset_cycle (CommandCycle c) ≡ true → command_effect g u la c n ≡ ResetStarted
resets_command g plain u la Reset n h = rw plain refl
resets_command g plain u la c n h = cc

some_any : (p : LunView → Bool) (o : Option LunView) → is_some_and p o ≡ true → is_some_and (λ v. true) o ≡ true
some_any p None h = h
some_any p (Some v) h = refl

pub all_on_at : (test : LunView → Bool) (n : ℕ) (vs : List LunView) → AllOn test vs → AtEach (λ m v. is_off v.latch ≡ false → test v ≡ true) n vs
all_on_at test n [] a = tt
all_on_at test n (v ∷ vs) a = (a.0, all_on_at test (n + 1) vs a.1)

abbrev Any : ℕ → LunView → Type 0
Any n v = Unit {0}

any_at : (n : ℕ) (vs : List LunView) → AtEach Any n vs
any_at n [] = tt
any_at n (v ∷ vs) = (tt, any_at (n + 1) vs)

neither : (b : Bool) → cond b Unaffected Unaffected ≡ Unaffected
neither true = refl
neither false = refl

opener_effect : (g : Parts) (u : TailFacts) (la lb : Latch) (c : Command) (n : ℕ) → is_opener c ≡ true → asks_driver (CommandCycle c) ≡ false → command_effect g u la c n ≡ command_effect g (facts_of []) lb c n
opener_effect g u la lb Read n o h = refl
opener_effect g u la lb ReadStatus n o h = refl
opener_effect g u la lb ReadStatusEnhanced n o h = refl
opener_effect g u la lb Reset n o h = refl
opener_effect g u la lb SynchronousReset n o h = refl
opener_effect g u la lb ReadCacheSequential n o h = cc
opener_effect g u la lb ReadCacheEnd n o h = cc
opener_effect g u la lb ChangeReadColumn n o h = neither (wants_command u ChangeReadColumn && names_lun g (row u) n)
opener_effect g u la lb ChangeReadColumnEnhanced n o h = neither (wants_command u ChangeReadColumnEnhanced && names_lun g (row u) n)
opener_effect g u la lb BlockErase n o h = neither (wants_command u BlockErase && names_lun g (row u) n)
opener_effect g u la lb ChangeWriteColumn n o h = neither (wants_command u ChangeWriteColumn && names_lun g (row u) n)
opener_effect g u la lb PageProgram n o h = neither (wants_command u PageProgram && names_lun g (row u) n)
opener_effect g u la lb ReadId n o h = neither (wants_command u ReadId && names_lun g (row u) n)
opener_effect g u la lb ReadParameterPage n o h = neither (wants_command u ReadParameterPage && names_lun g (row u) n)
opener_effect g u la lb ReadUniqueId n o h = neither (wants_command u ReadUniqueId && names_lun g (row u) n)
opener_effect g u la lb GetFeatures n o h = neither (wants_command u GetFeatures && names_lun g (row u) n)
opener_effect g u la lb SetFeatures n o h = neither (wants_command u SetFeatures && names_lun g (row u) n)
opener_effect g u la lb ResetLun n o h = neither (wants_command u ResetLun && names_lun g (row u) n)
opener_effect g u la lb c n o h = cc

asks_opener : (g : Parts) → is_shared g ≡ false → (lb : Latch) (c : Command) (n : ℕ) (t s : LunView) → is_opener c ≡ true → asks_driver (CommandCycle c) ≡ false → Asks (has_plane_reads g.optional) (command_effect g (facts_of []) lb c n) t s
asks_opener g plain lb ReadStatus n t s o h = rw plain tt
asks_opener g plain lb Reset n t s o h = rw plain tt
asks_opener g plain lb SynchronousReset n t s o h = rw plain tt
asks_opener g plain lb ReadCacheSequential n t s o h = cc
asks_opener g plain lb ReadCacheEnd n t s o h = cc
asks_opener g plain lb ReadConfirm n t s o h = cc
asks_opener g plain lb ChangeReadColumnConfirm n t s o h = cc
asks_opener g plain lb BlockEraseConfirm n t s o h = cc
asks_opener g plain lb BlockErasePlane n t s o h = cc
asks_opener g plain lb ReadPlane n t s o h = cc
asks_opener g plain lb CopybackRead n t s o h = cc
asks_opener g plain lb ProgramConfirm n t s o h = cc
asks_opener g plain lb ProgramPlane n t s o h = cc
asks_opener g plain lb ProgramCache n t s o h = cc
asks_opener g plain lb c n t s o h = tt

-- ---- 4. addresses and outputs

asks_address_of : (g : Parts) → is_shared g ≡ false → (u : TailFacts) (byte : ℕ) (c : Command) (m n : ℕ) (t s : LunView) → Asks (has_plane_reads g.optional) (address_effect g u byte c m n) t s
asks_address_of g plain u byte ReadStatusEnhanced m n t s = asks_selected (has_plane_reads g.optional) (m == 2) (names_lun g (row_with u byte) n) t s
asks_address_of g plain u byte ReadId m n t s = asks_if (has_plane_reads g.optional) (wants_address u byte) (of_target g n (id_effect byte)) t s (λ w. asks_target g n (id_effect byte) t s plain (asks_id (has_plane_reads g.optional) byte t s))
asks_address_of g plain u byte ReadParameterPage m n t s = asks_if (has_plane_reads g.optional) (wants_address u byte) (of_target g n ParameterPageReadStarted) t s (λ w. asks_target g n ParameterPageReadStarted t s plain tt)
asks_address_of g plain u byte ReadUniqueId m n t s = asks_if (has_plane_reads g.optional) (wants_address u byte) (of_target g n UniqueIdReadStarted) t s (λ w. asks_target g n UniqueIdReadStarted t s plain tt)
asks_address_of g plain u byte GetFeatures m n t s = asks_if (has_plane_reads g.optional) (wants_address u byte) (of_target g n (FeaturesReadStarted byte)) t s (λ w. asks_target g n (FeaturesReadStarted byte) t s plain tt)
asks_address_of g plain u byte ResetLun m n t s = asks_if (has_plane_reads g.optional) (m == 2) (lun_reset_effect g (names_lun g (row_with u byte) n)) t s (λ w. asks_or (has_plane_reads g.optional) (names_lun g (row_with u byte) n) ResetStarted (cond (is_shared g) (AnotherAddressed false) Unaffected) t s (λ b. tt) (rw plain tt))
asks_address_of g plain u byte PageProgram m n t s = asks_if (has_plane_reads g.optional) (m == 4) (program_row_effect (names_lun g (row_with u byte) n)) t s (λ w. asks_if (has_plane_reads g.optional) (names_lun g (row_with u byte) n) ProgramAddressed t s (λ b. tt))
asks_address_of g plain u byte c m n t s = tt

asks_address : (g : Parts) → is_shared g ≡ false → (u : TailFacts) (byte : ℕ) (o : Option Opening) (n : ℕ) (t s : LunView) → Asks (has_plane_reads g.optional) (opening_address_effect g u byte o n) t s
asks_address g plain u byte None n t s = tt
asks_address g plain u byte (Some o) n t s = asks_address_of g plain u byte o.opener o.addresses n t s

-- a LUN that is seen to show its status, and shows data: no byte of it comes, so what is known of it stands
output_unseen : (p : Bool) (k : LunKnown) (t s : LunView) → s.latch ≡ Status → t.latch ≡ Data → Fits p k t s → Fits p k (view_after DataOutput t) s
output_unseen p k t s status gives f =
    record {
      below = record { busy = f.below.busy; queue = f.below.queue; latch = f.below.latch; calm = f.below.calm; spare = record { closer = f.below.spare.closer; array = f.below.spare.array }; spare_seen = record { closer = f.below.spare_seen.closer; array = f.below.spare_seen.array } };
      queue = f.queue;
      begun = λ h.
          let b = f.begun h in
          record { busy = b.busy; closer = b.closer; array_busy = b.array_busy; page = b.page; register = b.register; column = λ e. absurd (clash (is_all k) refl h e); held = b.held };
      same = λ h. let m = f.same h in record { off = m.off; latch = m.latch };
      off = f.off;
    }
  where
    clash : (b : Bool) → is_all k ≡ b → has_begun k ≡ true → is_empty s.register ≡ false → ⊥
    clash true all h e = let latch = (f.same all).latch e in cc
    clash false some h e = let off = f.off h some in cc

output_goes : (p : Bool) (i : Item) (k : LunKnown) (t s : LunView) → IsBelow t s → SameOff t s → (is_reset i ≡ true → ⊥) → Goes p i k (cond (is_data t.latch) DataOutput Unaffected) (cond (is_data s.latch) DataOutput Unaffected) t s
output_goes p i k t s below off resets = at s.latch refl t.latch refl below.latch off
  where
    at : (ls : Latch) → s.latch ≡ ls → (lt : Latch) → t.latch ≡ lt → Shows ls lt → is_off lt ≡ is_off ls → Goes p i k (cond (is_data lt) DataOutput Unaffected) (cond (is_data ls) DataOutput Unaffected) t s
    at Off a Off b h o = go_same p i k Unaffected Unaffected t s refl tt (λ x. absurd (resets x))
    at Off a Status b h o = cc
    at Off a Data b h o = cc
    at Status a Off b h o = cc
    at Status a Status b h o = go_same p i k Unaffected Unaffected t s refl tt (λ x. absurd (resets x))
    at Status a Data b h o = λ f. output_unseen p (learned_lun p i (Some (look_at s)) (Some (look_at s)) k) t s a b (fits_after p k i Unaffected t s f tt (λ x. absurd (resets x)))
    at Data a Off b h o = cc
    at Data a Status b h o = cc
    at Data a Data b h o = go_same p i k DataOutput DataOutput t s refl tt (λ x. absurd (resets x))

-- a 31h that no tail wants is of the one driver
cache_read_on : (g : Parts) (u : TailFacts) → wants_command u ReadCacheSequential ≡ false → (la : Latch) (n : ℕ) → command_effect g u la ReadCacheSequential n ≡ cond (is_off la) Unaffected (CacheReadContinued None)
cache_read_on g u h la n = ap (λ (b : Bool). cond b (row_effect g u ReadCacheSequential n) (cache_effect la)) h

-- a LUN that the row names has read a page
abbrev ReadsPages : Parts → TailFacts → ℕ → LunView → Type 0
ReadsPages g u n s = names_lun g (row u) n ≡ true → is_page_read s.closer ≡ true

module _ (g : Parts) (plain : is_shared g ≡ false) (copyless : IsNarrow g) (i : Item) (k : Known) (ts ss : List LunView) (each : Each IsBelow ts ss) where
  -- 31h and 3Fh, whatever the tails
  go_cache : (u w : TailFacts) (test : LunView → Bool) (c : Command) (x : Effect) → ((la : Latch) (n : ℕ) → command_effect g u la c n ≡ cond (is_off la) Unaffected x) → ((la : Latch) (n : ℕ) → command_effect g w la c n ≡ cond (is_off la) Unaffected x) →
      ((t s : LunView) → test s ≡ true → Asks (has_plane_reads g.optional) x t s) → (is_reset i ≡ true → ⊥) → driver_is test ts ≡ true → driver_is test ss ≡ true →
      GoEach (has_plane_reads g.optional) i k (by_cycle g u (has_driver ts) (CommandCycle c)) (by_cycle g w (has_driver ss) (CommandCycle c)) 0 ts ss
  go_cache u w test c x isu isw asks resets dt ds =
      go_each (has_plane_reads g.optional) i k (by_cycle g u (has_driver ts) (CommandCycle c)) (by_cycle g w (has_driver ss) (CommandCycle c)) SameOff Any (λ m v. is_off v.latch ≡ false → test v ≡ true) one 0 ts ss
      (same_driver ts ss each ht hs) (any_at 0 ts) (all_on_at test 0 ss (driver_on test ss ds))
    where
      ht : has_driver ts ≡ true
      ht = some_any test (driver ts) dt

      hs : has_driver ss ≡ true
      hs = some_any test (driver ss) ds

      plain_t : (n : ℕ) (t : LunView) → by_cycle g u (has_driver ts) (CommandCycle c) n t ≡ cond (is_off t.latch) Unaffected x
      plain_t n t = isu (cond (has_driver ts) t.latch Off) n ∙ ap (λ b. cond (is_off (cond b t.latch Off)) Unaffected x) ht

      plain_s : (n : ℕ) (s : LunView) → by_cycle g w (has_driver ss) (CommandCycle c) n s ≡ cond (is_off s.latch) Unaffected x
      plain_s n s = isw (cond (has_driver ss) s.latch Off) n ∙ ap (λ b. cond (is_off (cond b s.latch Off)) Unaffected x) hs

      one : (n : ℕ) (t s : LunView) → SameOff t s → Any n t → (is_off s.latch ≡ false → test s ≡ true) → Goes (has_plane_reads g.optional) i (knows k n) (by_cycle g u (has_driver ts) (CommandCycle c) n t) (by_cycle g w (has_driver ss) (CommandCycle c) n s) t s
      one n t s off a on =
          rw (plain_t n t, plain_s n s)
          (at (is_off s.latch) refl)
        where
          at : (b : Bool) → is_off s.latch ≡ b → Goes (has_plane_reads g.optional) i (knows k n) (cond (is_off t.latch) Unaffected x) (cond b Unaffected x) t s
          at true e = rw (off ∙ e) (go_same (has_plane_reads g.optional) i (knows k n) Unaffected Unaffected t s refl tt (λ h. absurd (resets h)))
          at false e = rw (off ∙ e) (go_same (has_plane_reads g.optional) i (knows k n) x x t s refl (asks t s (on e)) (λ h. absurd (resets h)))

  -- a 31h that the tail wants, which reads on at the LUN of its row
  go_row : (u : TailFacts) → wants_command u ReadCacheSequential ≡ true → (is_reset i ≡ true → ⊥) → named_lun_is g (row u) has_read_one ss ≡ true →
      GoEach (has_plane_reads g.optional) i k (by_cycle g u (has_driver ts) (CommandCycle ReadCacheSequential)) (by_cycle g u (has_driver ss) (CommandCycle ReadCacheSequential)) 0 ts ss
  go_row u w resets reads =
      go_each (has_plane_reads g.optional) i k (by_cycle g u (has_driver ts) (CommandCycle ReadCacheSequential)) (by_cycle g u (has_driver ss) (CommandCycle ReadCacheSequential)) IsBelow Any (ReadsPages g u) one 0 ts ss each (any_at 0 ts)
      (at_each (ReadsPages g u) ss named_reads)
    where
      named_reads : (m : ℕ) (s : LunView) → slice_get ss m ≡ Some s → ReadsPages g u m s
      named_reads m s found names =
          let here : (parts_of g (row u)).lun ≡ m = eqb-true (parts_of g (row u)).lun m names in
          let at : slice_get ss (parts_of g (row u)).lun ≡ Some s = ap (slice_get ss) here ∙ found in
          (and_parts (is_page_read s.closer) (leb (length s.held) 1) (sym (ap (is_some_and has_read_one) at) ∙ reads)).0

      on_row : (la : Latch) (n : ℕ) → command_effect g u la ReadCacheSequential n ≡ row_effect g u ReadCacheSequential n
      on_row la n = ap (λ (b : Bool). cond b (row_effect g u ReadCacheSequential n) (cache_effect la)) w

      asks_row : (n : ℕ) (t s : LunView) → ReadsPages g u n s → Asks (has_plane_reads g.optional) (row_effect g u ReadCacheSequential n) t s
      asks_row n t s h =
          asks_or (has_plane_reads g.optional) (wants_command u ReadCacheSequential && names_lun g (row u) n) (confirm_effect g u ReadCacheSequential) (other_effect g u ReadCacheSequential) t s
          (λ b. h (and_parts (wants_command u ReadCacheSequential) (names_lun g (row u) n) b).1) (asks_other g u ReadCacheSequential t s plain)

      one : (n : ℕ) (t s : LunView) → IsBelow t s → Any n t → ReadsPages g u n s →
          Goes (has_plane_reads g.optional) i (knows k n) (by_cycle g u (has_driver ts) (CommandCycle ReadCacheSequential) n t) (by_cycle g u (has_driver ss) (CommandCycle ReadCacheSequential) n s) t s
      one n t s below any h =
          go_same (has_plane_reads g.optional) i (knows k n) (by_cycle g u (has_driver ts) (CommandCycle ReadCacheSequential) n t) (by_cycle g u (has_driver ss) (CommandCycle ReadCacheSequential) n s) t s
          (on_row (cond (has_driver ts) t.latch Off) n ∙ sym (on_row (cond (has_driver ss) s.latch Off) n))
          (subst (λ (e : Effect). Asks (has_plane_reads g.optional) e t s) (sym (on_row (cond (has_driver ss) s.latch Off) n)) (asks_row n t s h)) (λ r. absurd (resets r))

  -- E0h behind 05h, where its tail has one driver
  go_driver_column : (u : TailFacts) → selects_plane u ≡ false → (opened (λ c n. is_change_read_column c) u.opening ≡ true → (has_driver ts ≡ true) × (has_driver ss ≡ true)) → (is_reset i ≡ true → ⊥) →
      GoEach (has_plane_reads g.optional) i k (by_cycle g u (has_driver ts) (CommandCycle ChangeReadColumnConfirm)) (by_cycle g u (has_driver ss) (CommandCycle ChangeReadColumnConfirm)) 0 ts ss
  go_driver_column u apart d resets = of (wants_command u ChangeReadColumnConfirm) refl
    where
      x : Effect
      x = ReadColumnChanged u.column

      et : ℕ → LunView → Effect
      et = by_cycle g u (has_driver ts) (CommandCycle ChangeReadColumnConfirm)

      es : ℕ → LunView → Effect
      es = by_cycle g u (has_driver ss) (CommandCycle ChangeReadColumnConfirm)

      on_driver : (la : Latch) (n : ℕ) → command_effect g u la ChangeReadColumnConfirm n ≡ column_effect u la
      on_driver la n = ap (λ (b : Bool). cond b (plane_effect g u n) (column_effect u la)) apart

      none : (la : Latch) → wants_command u ChangeReadColumnConfirm ≡ false → (n : ℕ) → command_effect g u la ChangeReadColumnConfirm n ≡ Unaffected
      none la h n = on_driver la n ∙ ap (λ (b : Bool). cond (b && not (is_off la)) x Unaffected) h

      asks : (n : ℕ) (t s : LunView) → Asks (has_plane_reads g.optional) (es n s) t s
      asks n t s =
          subst (λ (e : Effect). Asks (has_plane_reads g.optional) e t s) (sym (on_driver (cond (has_driver ss) s.latch Off) n))
          (asks_if (has_plane_reads g.optional) (wants_command u ChangeReadColumnConfirm && not (is_off (cond (has_driver ss) s.latch Off))) x t s (λ r. tt))

      one : wants_command u ChangeReadColumnConfirm ≡ true → (n : ℕ) (t s : LunView) → SameOff t s → Any n t → Any n s → Goes (has_plane_reads g.optional) i (knows k n) (et n t) (es n s) t s
      one h n t s off a b =
          let both = d (column_opened u.opening apart h) in
          go_same (has_plane_reads g.optional) i (knows k n) (et n t) (es n s) t s
          (on_driver (cond (has_driver ts) t.latch Off) n
          ∙ ap (λ q. cond (wants_command u ChangeReadColumnConfirm && not (is_off (cond q t.latch Off))) x Unaffected) both.0
          ∙ ap (λ q. cond (wants_command u ChangeReadColumnConfirm && not q) x Unaffected) off
          ∙ ap (λ q. cond (wants_command u ChangeReadColumnConfirm && not (is_off (cond q s.latch Off))) x Unaffected) (sym both.1)
          ∙ sym (on_driver (cond (has_driver ss) s.latch Off) n))
          (asks n t s) (λ r. absurd (resets r))

      same_off : wants_command u ChangeReadColumnConfirm ≡ true → Each SameOff ts ss
      same_off h = let both = d (column_opened u.opening apart h) in same_driver ts ss each both.0 both.1

      of : (b : Bool) → wants_command u ChangeReadColumnConfirm ≡ b → GoEach (has_plane_reads g.optional) i k et es 0 ts ss
      of true h = go_each (has_plane_reads g.optional) i k et es SameOff Any Any (one h) 0 ts ss (same_off h) (any_at 0 ts) (any_at 0 ss)
      of false h =
          go_each (has_plane_reads g.optional) i k et es IsBelow Any Any
          (λ n t s b a c. go_same (has_plane_reads g.optional) i (knows k n) (et n t) (es n s) t s
          (none (cond (has_driver ts) t.latch Off) h n ∙ sym (none (cond (has_driver ss) s.latch Off) h n)) (asks n t s) (λ r. absurd (resets r)))
          0 ts ss each (any_at 0 ts) (any_at 0 ss)

  -- effects that are the same on both, and ask nothing
  go_alike : (et es : ℕ → LunView → Effect) (C : ℕ → LunView → Type 0) → ((n : ℕ) (t s : LunView) → et n t ≡ es n s) → ((n : ℕ) (t s : LunView) → C n t → Asks (has_plane_reads g.optional) (es n s) t s) → ((n : ℕ) (s : LunView) → is_reset i ≡ true → es n s ≡ ResetStarted) →
      AtEach C 0 ts → GoEach (has_plane_reads g.optional) i k et es 0 ts ss
  go_alike et es C same asks resets c =
      go_each (has_plane_reads g.optional) i k et es IsBelow C Any (λ n t s b x y. go_same (has_plane_reads g.optional) i (knows k n) (et n t) (es n s) t s (same n t s) (asks n t s x) (resets n s)) 0 ts ss each c (any_at 0 ss)

  -- E0h behind 06h, which is of the LUN that the row names and turns the others off
  go_plane_column : (u : TailFacts) → selects_plane u ≡ true → (is_reset i ≡ true → ⊥) → AtEach (PlaneClear g u) 0 ss →
      GoEach (has_plane_reads g.optional) i k (by_cycle g u (has_driver ts) (CommandCycle ChangeReadColumnConfirm)) (by_cycle g u (has_driver ss) (CommandCycle ChangeReadColumnConfirm)) 0 ts ss
  go_plane_column u selects resets z =
      go_each (has_plane_reads g.optional) i k et es IsBelow Any (PlaneClear g u)
      (λ n t s b x y.
      go_same (has_plane_reads g.optional) i (knows k n) (et n t) (es n s) t s
      (on_plane (cond (has_driver ts) t.latch Off) n ∙ sym (on_plane (cond (has_driver ss) s.latch Off) n))
      (subst (λ (e : Effect). Asks (has_plane_reads g.optional) e t s) (sym (on_plane (cond (has_driver ss) s.latch Off) n)) (asks_plane g u n t s selects y)) (λ r. absurd (resets r)))
      0 ts ss each (any_at 0 ts) z
    where
      et : ℕ → LunView → Effect
      et = by_cycle g u (has_driver ts) (CommandCycle ChangeReadColumnConfirm)

      es : ℕ → LunView → Effect
      es = by_cycle g u (has_driver ss) (CommandCycle ChangeReadColumnConfirm)

      on_plane : (la : Latch) (n : ℕ) → command_effect g u la ChangeReadColumnConfirm n ≡ plane_effect g u n
      on_plane la n = ap (λ (b : Bool). cond b (plane_effect g u n) (column_effect u la)) selects

  go_column : (u : TailFacts) → (opened (λ c n. is_change_read_column c) u.opening ≡ true → (has_driver ts ≡ true) × (has_driver ss ≡ true)) → (is_reset i ≡ true → ⊥) → AtEach (PlaneClear g u) 0 ss →
      GoEach (has_plane_reads g.optional) i k (by_cycle g u (has_driver ts) (CommandCycle ChangeReadColumnConfirm)) (by_cycle g u (has_driver ss) (CommandCycle ChangeReadColumnConfirm)) 0 ts ss
  go_column u d resets z = of (selects_plane u) refl
    where
      of : (b : Bool) → selects_plane u ≡ b → GoEach (has_plane_reads g.optional) i k (by_cycle g u (has_driver ts) (CommandCycle ChangeReadColumnConfirm)) (by_cycle g u (has_driver ss) (CommandCycle ChangeReadColumnConfirm)) 0 ts ss
      of true h = go_plane_column u h resets z
      of false h = go_driver_column u h d resets

  go_other : (u : TailFacts) (c : Command) → breaks_command_unknown g (CommandCycle c) ≡ false → asks_driver (CommandCycle c) ≡ false → (is_reset i ≡ true → is_reset_cycle (CommandCycle c) ≡ true) → AtEach (ReadsClear g u) 0 ts →
      GoEach (has_plane_reads g.optional) i k (by_cycle g u (has_driver ts) (CommandCycle c)) (by_cycle g u (has_driver ss) (CommandCycle c)) 0 ts ss
  go_other u c f2 h r z =
      go_alike (by_cycle g u (has_driver ts) (CommandCycle c)) (by_cycle g u (has_driver ss) (CommandCycle c)) (ReadsClear g u)
      (λ n t s. same_command g u (cond (has_driver ts) t.latch Off) (cond (has_driver ss) s.latch Off) c n h)
      (λ n t s x. asks_command g plain copyless u (cond (has_driver ss) s.latch Off) c n t s f2 h x)
      (λ n s y. resets_command g plain u (cond (has_driver ss) s.latch Off) c n (r y)) z

  -- a command by which the tail goes on, or that begins a sequence behind one that was seen
  pub go_command : (u : TailFacts) (c : Command) → (is_reset i ≡ true → is_reset_cycle (CommandCycle c) ≡ true) → KeepsRules g u ts (CommandCycle c) → KeepsRules g u ss (CommandCycle c) →
      (opened (λ c n. is_change_read_column c) u.opening ≡ true → (has_driver ts ≡ true) × (has_driver ss ≡ true)) → AtEach (ReadsClear g u) 0 ts → AtEach (PlaneClear g u) 0 ss →
      GoEach (has_plane_reads g.optional) i k (by_cycle g u (has_driver ts) (CommandCycle c)) (by_cycle g u (has_driver ss) (CommandCycle c)) 0 ts ss
  unfolding breaks_cache_read_misplaced
  go_command u ReadCacheSequential r a b d z y = at (wants_command u ReadCacheSequential) refl a.f15 b.f15
    where
      at : (w : Bool) → wants_command u ReadCacheSequential ≡ w → cond w (not (named_lun_is g (row u) has_read_one ts)) (not (driver_is (continues_cache g) ts)) ≡ false →
          cond w (not (named_lun_is g (row u) has_read_one ss)) (not (driver_is (continues_cache g) ss)) ≡ false →
          GoEach (has_plane_reads g.optional) i k (by_cycle g u (has_driver ts) (CommandCycle ReadCacheSequential)) (by_cycle g u (has_driver ss) (CommandCycle ReadCacheSequential)) 0 ts ss
      at true e x y = go_row u e (λ h. let yes = r h in cc) (not-false (named_lun_is g (row u) has_read_one ss) y)
      at false e x y =
          go_cache u u (continues_cache g) ReadCacheSequential (CacheReadContinued None) (cache_read_on g u e) (cache_read_on g u e)
          (λ t s h. (and_parts (is_page_read s.closer) _ (and_parts (has_read_one s) _ (and_parts (not s.busy) _ h).1).0).0) (λ h. let yes = r h in cc)
          (not-false (driver_is (continues_cache g) ts) x) (not-false (driver_is (continues_cache g) ss) y)
  go_command u ReadCacheEnd r a b d z y =
      go_cache u u ends_cache ReadCacheEnd CacheReadEnded (λ la n. refl) (λ la n. refl) (λ t s h. (and_parts (not s.busy) (is_cache_read s.closer) h).1) (λ h. let yes = r h in cc) (not-false (driver_is ends_cache ts) a.f15) (not-false (driver_is ends_cache ss) b.f15)
  go_command u ChangeReadColumnConfirm r a b d z y = go_column u d (λ h. let yes = r h in cc) y
  go_command u c r a b d z y = go_other u c a.f2 refl r z

  -- an opener behind a sequence that wasn't seen
  pub go_opener : (u : TailFacts) (c : Command) → is_opener c ≡ true → begins_anew u (CommandCycle c) ≡ true → (is_reset i ≡ true → is_reset_cycle (CommandCycle c) ≡ true) → KeepsRules g u ts (CommandCycle c) → KeepsRules g (facts_of []) ss (CommandCycle c) →
      GoEach (has_plane_reads g.optional) i k (by_cycle g u (has_driver ts) (CommandCycle c)) (by_cycle g (facts_of []) (has_driver ss) (CommandCycle c)) 0 ts ss
  unfolding breaks_cache_read_misplaced
  go_opener u ReadCacheSequential o anew r a b =
      let none = not-true (wants_command u ReadCacheSequential) anew in
      let driven = rw none at a.f15 in
      go_cache u (facts_of []) (continues_cache g) ReadCacheSequential (CacheReadContinued None) (cache_read_on g u none) (cache_read_on g (facts_of []) refl) (λ t s h. (and_parts (is_page_read s.closer) _ (and_parts (has_read_one s) _ (and_parts (not s.busy) _ h).1).0).0) (λ h. let yes = r h in cc)
      (not-false (driver_is (continues_cache g) ts) driven) (not-false (driver_is (continues_cache g) ss) b.f15)
  go_opener u ReadCacheEnd o anew r a b =
      go_cache u (facts_of []) ends_cache ReadCacheEnd CacheReadEnded (λ la n. refl) (λ la n. refl) (λ t s h. (and_parts (not s.busy) (is_cache_read s.closer) h).1) (λ h. let yes = r h in cc) (not-false (driver_is ends_cache ts) a.f15) (not-false (driver_is ends_cache ss) b.f15)
  go_opener u ChangeReadColumnConfirm o anew r a b = cc
  go_opener u c o anew r a b =
      go_alike (by_cycle g u (has_driver ts) (CommandCycle c)) (by_cycle g (facts_of []) (has_driver ss) (CommandCycle c)) Any
      (λ n t s. opener_effect g u (cond (has_driver ts) t.latch Off) (cond (has_driver ss) s.latch Off) c n o refl)
      (λ n t s x. asks_opener g plain (cond (has_driver ss) s.latch Off) c n t s o refl)
      (λ n s y. resets_command g plain (facts_of []) (cond (has_driver ss) s.latch Off) c n (r y)) (any_at 0 ts)

  -- an address
  pub go_address : (u : TailFacts) (byte : ℕ) → (is_reset i ≡ true → is_reset_cycle (AddressCycle byte) ≡ true) →
      GoEach (has_plane_reads g.optional) i k (by_cycle g u (has_driver ts) (AddressCycle byte)) (by_cycle g u (has_driver ss) (AddressCycle byte)) 0 ts ss
  go_address u byte r =
      go_alike (by_cycle g u (has_driver ts) (AddressCycle byte)) (by_cycle g u (has_driver ss) (AddressCycle byte)) Any
      (λ n t s. refl) (λ n t s x. asks_address g plain u byte u.opening n t s) (λ n s y. let yes = r y in cc) (any_at 0 ts)

  -- an input
  pub go_input : (u : TailFacts) (byte : ℕ) → (is_reset i ≡ true → is_reset_cycle (InputCycle byte) ≡ true) →
      GoEach (has_plane_reads g.optional) i k (by_cycle g u (has_driver ts) (InputCycle byte)) (by_cycle g u (has_driver ss) (InputCycle byte)) 0 ts ss
  go_input u byte r =
      go_alike (by_cycle g u (has_driver ts) (InputCycle byte)) (by_cycle g u (has_driver ss) (InputCycle byte)) Any
      (λ n t s. refl) (λ n t s x. asks_if (has_plane_reads g.optional) (ends_features u) (of_target g n (FeaturesSet _)) t s (λ b. asks_target g n (FeaturesSet _) t s plain tt)) (λ n s y. let yes = r y in cc) (any_at 0 ts)

  -- an output
  pub go_output : (u : TailFacts) → (is_reset i ≡ true → is_reset_cycle OutputCycle ≡ true) → KeepsRules g u ts OutputCycle → KeepsRules g u ss OutputCycle →
      GoEach (has_plane_reads g.optional) i k (by_cycle g u (has_driver ts) OutputCycle) (by_cycle g u (has_driver ss) OutputCycle) 0 ts ss
  unfolding breaks_no_sole_driver
  go_output u r a b =
      go_each (has_plane_reads g.optional) i k (by_cycle g u (has_driver ts) OutputCycle) (by_cycle g u (has_driver ss) OutputCycle) Pair Any Any one 0 ts ss
      (pairs ts ss each (same_driver ts ss each ht hs)) (any_at 0 ts) (any_at 0 ss)
    where
      ht : has_driver ts ≡ true
      ht = not-false (has_driver ts) (or_parts (is_open u) (not (has_driver ts)) a.f12).1

      hs : has_driver ss ≡ true
      hs = not-false (has_driver ss) (or_parts (is_open u) (not (has_driver ss)) b.f12).1

      Pair : LunView → LunView → Type 0
      Pair t s = IsBelow t s × SameOff t s

      pairs : (ts ss : List LunView) → Each IsBelow ts ss → Each SameOff ts ss → Each Pair ts ss
      pairs [] [] e f = tt
      pairs (t ∷ ts) (s ∷ ss) e f = ((e.0, f.0), pairs ts ss e.1 f.1)
      pairs [] (s ∷ ss) e f = e
      pairs (t ∷ ts) [] e f = e

      one : (n : ℕ) (t s : LunView) → Pair t s → Any n t → Any n s → Goes (has_plane_reads g.optional) i (knows k n) (by_cycle g u (has_driver ts) OutputCycle n t) (by_cycle g u (has_driver ss) OutputCycle n s) t s
      one n t s p x y = rw (ht, hs) (output_goes (has_plane_reads g.optional) i (knows k n) t s p.0 p.1 (λ h. let yes = r h in cc))
