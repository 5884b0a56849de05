-- A target whose commands stop other LUNs, as it is and as it is seen: nothing of it is judged before a reset, and from there on both are alike.
use Rattle.std.proofs.Common.{◌≡◌, ℕ, zero, suc, ◌+◌, ◌≤◌, ◌==◌, Bool, true, false, cond, not, ◌&&◌, List, [], ◌∷◌, length, Option, Some, None, refl, sym, ap, ◌∙◌, subst, slice_get, arith, eqb-true, leb, true≢false}
use Rattle.std.proofs.lemmas.Bool.{and_parts, not-false}
use Rattle.std.proofs.lemmas.Option.{slice_get_within}
use Rattle.nand_geometry.specs.declared.parts.Parts.{Parts}
use Rattle.nand_geometry.specs.Limits.{planes}
use Rattle.nand_geometry.specs.Optional.{has_plane_reads}
use Rattle.nand_geometry.specs.Row.{parts_of}
use Rattle.onfi_cycle.specs.declared.command.Command.{Command}
use Rattle.onfi_cycle.specs.declared.command.Command.TheVariants.{Read, ReadStatus, ReadStatusEnhanced, Reset, SynchronousReset, ReadCacheSequential, ReadCacheEnd, ChangeReadColumnConfirm, ReadConfirm, ReadPlane, BlockEraseConfirm, BlockErasePlane, ProgramConfirm, ProgramPlane, ReadId, ReadParameterPage, ReadUniqueId, GetFeatures, ResetLun, CopybackRead, PageProgram, ProgramCache}
use Rattle.onfi_cycle.specs.declared.effect.Effect.{Effect}
use Rattle.onfi_cycle.specs.declared.effect.Effect.TheVariants.{Unaffected, StatusSelected, StatusOfSelected, SelectedForStatus, Deselected, IdRead, IdentityRead, UniqueIdReadStarted, FeaturesReadStarted, FeaturesSet, ParameterPageReadStarted, CacheReadContinued, CacheReadEnded, ReadColumnChanged, PlaneSelected, DataOutput, ResetStarted, TargetResetStarted, AnotherAddressed, ProgramAddressed}
use Rattle.onfi_cycle.specs.declared.item.Cycle.{Cycle}
use Rattle.onfi_cycle.specs.declared.item.Item.{Item}
use Rattle.onfi_cycle.specs.declared.item.Item.TheVariants.{Cyc}
use Rattle.onfi_cycle.specs.declared.latch.Latch.{Latch}
use Rattle.onfi_cycle.specs.declared.latch.Latch.TheVariants.{Off}
use Rattle.onfi_cycle.specs.declared.opening.Opening.{Opening}
use Rattle.onfi_cycle.specs.declared.tail_facts.TailFacts.{TailFacts}
use Rattle.onfi_cycle.specs.declared.target_cycle.TargetCycle.{TargetCycle}
use Rattle.onfi_cycle.specs.declared.target_cycle.TargetCycle.TheVariants.{CommandCycle, AddressCycle, InputCycle, OutputCycle}
use Rattle.onfi_cycle.specs.Command.{closes_row, reads_row}
use Rattle.onfi_cycle.specs.Effect.{is_off, is_data, is_shared, acts_for_target, of_target, lun_reset_effect, confirm_effect, other_effect, row_effect, cache_effect, plane_of_row, plane_effect, column_effect, names_lun, id_effect, command_effect, address_effect, opening_address_effect, ends_features, cycle_effect, program_row_effect, reset_effect}
use Rattle.onfi_cycle.specs.Lun.{is_cache_read, is_page_read, view_after}
use Rattle.onfi_cycle.specs.LunView.{LunView}
use Rattle.onfi_cycle.specs.Permitted.{judge_cycle}
use Rattle.onfi_cycle.specs.Rules.{is_some_and, driver_is, lun_is, named_lun_is, has_read_one, continues_cache, ends_cache, breaks_cache_read_misplaced}
use Rattle.onfi_cycle.specs.Sequence.{target_cycle, facts_of, facts_after, selects_plane, wants_address, wants_command, row, row_with}
use Rattle.onfi_cycle.specs.State.{TargetView, has_driver, target_after}
use Rattle.onfi_cycle.proofs.Passed.{keeps_rules}
use Rattle.trace_faults.specs.declared.known.Known.{Known}
use Rattle.trace_faults.specs.Middle.{knows, nothing_known, has_begun, waits_for_reset}
use Rattle.recording_laws.proofs.Lists.{Each, each_more, driver_on}
use Rattle.recording_laws.proofs.Changed.{changed, changed_length, AtEach, at_each, knows_nothing, IsLearned}
use Rattle.recording_laws.proofs.Cycles.{by_cycle, luns_by_cycle, all_on_at}
use Rattle.recording_laws.proofs.Unseen.{AreBlank}
use Rattle.recording_laws.proofs.Targets.{FitsTarget}
use Rattle.recording_laws.proofs.Twins.{IsTwin, GoesOn, twin_after, twins_after, twins_driver, twins_judged, Beside, resets_twins, still_beside}
use Rattle.recording_laws.proofs.Readies.{IsReady, by_ready, luns_ready, ready_seen, ready_granted, doubted}

-- ---- 1. a target

-- from a reset on
pub record IsAlike (g : Parts) (t s : TargetView) : Type 0 where
  pub tail : t.tail ≡ s.tail
  pub luns : Each (IsTwin g) t.luns s.luns

-- and before one
pub record IsUnseen (k : Known) (s : TargetView) : Type 0 where
  pub tail : s.tail ≡ facts_of []
  pub nothing : k ≡ nothing_known
  pub blank : AreBlank s.luns

pub record FitsShared (g : Parts) (k : Known) (t s : TargetView) : Type 0 where
  pub few : length s.luns ≤ 4
  pub beside : Each Beside t.luns s.luns
  pub opened : k.opened ≡ true → IsAlike g t s
  pub closed : k.opened ≡ false → IsUnseen k s

-- a target, of whose commands some stop other LUNs, or not
pub record FitsEither (g : Parts) (k : Known) (t s : TargetView) : Type 0 where
  pub plain : waits_for_reset g ≡ false → FitsTarget g k t s
  pub shared : waits_for_reset g ≡ true → FitsShared g k t s

pub of_plain : (g : Parts) (k : Known) (t s : TargetView) → waits_for_reset g ≡ false → FitsTarget g k t s → FitsEither g k t s
of_plain g k t s is f = record { plain = λ h. f; shared = λ h. absurd (true≢false (sym h ∙ is)) }

pub of_shared : (g : Parts) (k : Known) (t s : TargetView) → waits_for_reset g ≡ true → FitsShared g k t s → FitsEither g k t s
of_shared g k t s is f = record { plain = λ h. absurd (true≢false (sym is ∙ h)); shared = λ h. f }

-- ---- 2. a cache read that goes on has one driver, which reads pages

goes_either : (b : Bool) (x y : Effect) (s : LunView) → GoesOn x s → GoesOn y s → GoesOn (cond b x y) s
goes_either true x y s h k = h
goes_either false x y s h k = k

abbrev goes_on_by : Command → Bool
goes_on_by ReadCacheSequential = true
goes_on_by ReadCacheEnd = true
goes_on_by _ = false

confirm_goes : (g : Parts) (u : TailFacts) (c : Command) (s : LunView) → goes_on_by c ≡ false → GoesOn (confirm_effect g u c) s
confirm_goes g u ReadCacheSequential s h = cc
confirm_goes g u ReadConfirm s h = tt
confirm_goes g u ReadPlane s h = tt
confirm_goes g u CopybackRead s h = tt
confirm_goes g u BlockEraseConfirm s h = tt
confirm_goes g u BlockErasePlane s h = tt
confirm_goes g u ProgramConfirm s h = tt
confirm_goes g u ProgramPlane s h = tt
confirm_goes g u ProgramCache s h = tt
confirm_goes g u c s h = tt

other_goes : (g : Parts) (u : TailFacts) (c : Command) (s : LunView) → GoesOn (other_effect g u c) s
other_goes g u c s = goes_either (closes_row c && (wants_command u c && is_shared g)) (AnotherAddressed (reads_row c)) Unaffected s tt tt

target_goes : (g : Parts) (n : ℕ) (e : Effect) (s : LunView) → GoesOn e s → GoesOn (of_target g n e) s
target_goes g n e s h = goes_either (acts_for_target g n) e Deselected s h tt

command_goes : (g : Parts) (u : TailFacts) (la : Latch) (c : Command) (n : ℕ) (s : LunView) → goes_on_by c ≡ false → GoesOn (command_effect g u la c n) s
command_goes g u la Read n s h = tt
command_goes g u la ReadStatus n s h = goes_either (is_shared g) StatusOfSelected StatusSelected s tt tt
command_goes g u la ReadStatusEnhanced n s h = tt
command_goes g u la Reset n s h = goes_either (is_shared g) (TargetResetStarted (n == 0)) ResetStarted s tt tt
command_goes g u la SynchronousReset n s h = goes_either (is_shared g) (TargetResetStarted (n == 0)) ResetStarted s tt tt
command_goes g u la ReadCacheSequential n s h = cc
command_goes g u la ReadCacheEnd n s h = cc
command_goes g u la ChangeReadColumnConfirm n s h =
    goes_either (selects_plane u) (plane_effect g u n) (column_effect u la) s (goes_either (names_lun g (row u) n) (PlaneSelected (plane_of_row g (row u)) (planes g) u.column) Deselected s tt tt)
    (goes_either (wants_command u ChangeReadColumnConfirm && not (is_off la)) (ReadColumnChanged u.column) Unaffected s tt tt)
command_goes g u la c n s h = goes_either (wants_command u c && names_lun g (row u) n) (confirm_effect g u c) (other_effect g u c) s (confirm_goes g u c s h) (other_goes g u c s)

id_goes : (byte : ℕ) (s : LunView) → GoesOn (id_effect byte) s
id_goes byte s = goes_either (byte == 0x20) IdRead (IdentityRead (byte == 0x40)) s tt tt

address_goes : (g : Parts) (u : TailFacts) (byte : ℕ) (c : Command) (m n : ℕ) (s : LunView) → GoesOn (address_effect g u byte c m n) s
address_goes g u byte ReadStatusEnhanced m n s = goes_either (m == 2) (cond (names_lun g (row_with u byte) n) SelectedForStatus Deselected) Unaffected s (goes_either (names_lun g (row_with u byte) n) SelectedForStatus Deselected s tt tt) tt
address_goes g u byte ReadId m n s = goes_either (wants_address u byte) (of_target g n (id_effect byte)) Unaffected s (target_goes g n (id_effect byte) s (id_goes byte s)) tt
address_goes g u byte ReadParameterPage m n s = goes_either (wants_address u byte) (of_target g n ParameterPageReadStarted) Unaffected s (target_goes g n ParameterPageReadStarted s tt) tt
address_goes g u byte ReadUniqueId m n s = goes_either (wants_address u byte) (of_target g n UniqueIdReadStarted) Unaffected s (target_goes g n UniqueIdReadStarted s tt) tt
address_goes g u byte GetFeatures m n s = goes_either (wants_address u byte) (of_target g n (FeaturesReadStarted byte)) Unaffected s (target_goes g n (FeaturesReadStarted byte) s tt) tt
address_goes g u byte ResetLun m n s =
    goes_either (m == 2) (lun_reset_effect g (names_lun g (row_with u byte) n)) Unaffected s
    (goes_either (names_lun g (row_with u byte) n) ResetStarted (cond (is_shared g) (AnotherAddressed false) Unaffected) s tt (goes_either (is_shared g) (AnotherAddressed false) Unaffected s tt tt)) tt
address_goes g u byte PageProgram m n s = goes_either (m == 4) (program_row_effect (names_lun g (row_with u byte) n)) Unaffected s (goes_either (names_lun g (row_with u byte) n) ProgramAddressed Unaffected s tt tt) tt
address_goes g u byte c m n s = tt

opening_goes : (g : Parts) (u : TailFacts) (byte : ℕ) (o : Option Opening) (n : ℕ) (s : LunView) → GoesOn (opening_address_effect g u byte o n) s
opening_goes g u byte None n s = tt
opening_goes g u byte (Some o) n s = address_goes g u byte o.opener o.addresses n s

abbrev Goes : Parts → TailFacts → Bool → TargetCycle → ℕ → LunView → Type 0
Goes g u sole d n v = GoesOn (by_cycle g u sole d n v) v

-- the same of each
each_goes : (g : Parts) (u : TailFacts) (sole : Bool) (d : TargetCycle) (n : ℕ) (vs : List LunView) → ((m : ℕ) (v : LunView) → Goes g u sole d m v) → AtEach (Goes g u sole d) n vs
each_goes g u sole d n [] f = tt
each_goes g u sole d n (v ∷ vs) f = (f n v, each_goes g u sole d (n + 1) vs f)

reads_on : (g : Parts) (u : TailFacts) (sole : Bool) → wants_command u ReadCacheSequential ≡ false → (n : ℕ) (vs : List LunView) → AtEach (λ m v. is_off v.latch ≡ false → continues_cache g v ≡ true) n vs → AtEach (Goes g u sole (CommandCycle ReadCacheSequential)) n vs
reads_on g u sole none n [] a = tt
reads_on g u sole none n (v ∷ vs) a = (
  subst (λ (w : Bool). GoesOn (cond w (row_effect g u ReadCacheSequential n) (cache_effect (cond sole v.latch Off))) v) (sym none) (at sole (is_off v.latch) refl),
  reads_on g u sole none (n + 1) vs a.1,
)
  where
    at : (b o : Bool) → is_off v.latch ≡ o → GoesOn (cond (is_off (cond b v.latch Off)) Unaffected (CacheReadContinued None)) v
    at false o e = tt
    at true true e = rw e tt
    at true false e = rw e (and_parts (is_page_read v.closer) _ (and_parts (has_read_one v) _ (and_parts (not v.busy) _ (a.0 e)).1).0).0

-- a 31h that the tail wants reads on at the LUN of its row
reads_row_on : (g : Parts) (u : TailFacts) (sole : Bool) (vs : List LunView) → wants_command u ReadCacheSequential ≡ true → named_lun_is g (row u) has_read_one vs ≡ true →
    AtEach (Goes g u sole (CommandCycle ReadCacheSequential)) 0 vs
reads_row_on g u sole vs w reads = at_each (Goes g u sole (CommandCycle ReadCacheSequential)) vs one
  where
    one : (m : ℕ) (v : LunView) → slice_get vs m ≡ Some v → Goes g u sole (CommandCycle ReadCacheSequential) m v
    one m v found = subst (λ (x : Bool). GoesOn (cond x (row_effect g u ReadCacheSequential m) (cache_effect (cond sole v.latch Off))) v) (sym w) (at (wants_command u ReadCacheSequential && names_lun g (row u) m) refl)
      where
        named : names_lun g (row u) m ≡ true → is_page_read v.closer ≡ true
        named names =
            let here : (parts_of g (row u)).lun ≡ m = eqb-true (parts_of g (row u)).lun m names in
            let there : slice_get vs (parts_of g (row u)).lun ≡ Some v = ap (slice_get vs) here ∙ found in
            (and_parts (is_page_read v.closer) (leb (length v.held) 1) (sym (ap (is_some_and has_read_one) there) ∙ reads)).0

        at : (b : Bool) → (wants_command u ReadCacheSequential && names_lun g (row u) m) ≡ b → GoesOn (cond b (confirm_effect g u ReadCacheSequential) (other_effect g u ReadCacheSequential)) v
        at true e = named (and_parts (wants_command u ReadCacheSequential) (names_lun g (row u) m) e).1
        at false e = other_goes g u ReadCacheSequential v

-- a 3Fh ends one
ends_on : (g : Parts) (u : TailFacts) (sole : Bool) (n : ℕ) (vs : List LunView) → AtEach (λ m v. is_off v.latch ≡ false → ends_cache v ≡ true) n vs → AtEach (Goes g u sole (CommandCycle ReadCacheEnd)) n vs
ends_on g u sole n [] a = tt
ends_on g u sole n (v ∷ vs) a = (at sole (is_off v.latch) refl, ends_on g u sole (n + 1) vs a.1)
  where
    at : (b o : Bool) → is_off v.latch ≡ o → GoesOn (cond (is_off (cond b v.latch Off)) Unaffected CacheReadEnded) v
    at false o e = tt
    at true true e = rw e tt
    at true false e = rw e (and_parts (not v.busy) (is_cache_read v.closer) (a.0 e)).1

goes_on : (g : Parts) (u : TailFacts) (sole : Bool) (d : TargetCycle) (vs : List LunView) → breaks_cache_read_misplaced g u vs d ≡ false → AtEach (Goes g u sole d) 0 vs
unfolding breaks_cache_read_misplaced
goes_on g u sole (CommandCycle ReadCacheSequential) vs h = at (wants_command u ReadCacheSequential) refl h
  where
    at : (w : Bool) → wants_command u ReadCacheSequential ≡ w → cond w (not (named_lun_is g (row u) has_read_one vs)) (not (driver_is (continues_cache g) vs)) ≡ false →
        AtEach (Goes g u sole (CommandCycle ReadCacheSequential)) 0 vs
    at true e x = reads_row_on g u sole vs e (not-false (named_lun_is g (row u) has_read_one vs) x)
    at false e x = reads_on g u sole e 0 vs (all_on_at (continues_cache g) 0 vs (driver_on (continues_cache g) vs (not-false (driver_is (continues_cache g) vs) x)))
goes_on g u sole (CommandCycle ReadCacheEnd) vs h = ends_on g u sole 0 vs (all_on_at ends_cache 0 vs (driver_on ends_cache vs (not-false (driver_is ends_cache vs) h)))
goes_on g u sole (CommandCycle c) vs h = each_goes g u sole (CommandCycle c) 0 vs (λ m v. command_goes g u (cond sole v.latch Off) c m v refl)
goes_on g u sole (AddressCycle byte) vs h = each_goes g u sole (AddressCycle byte) 0 vs (λ m v. opening_goes g u byte u.opening m v)
goes_on g u sole (InputCycle byte) vs h = each_goes g u sole (InputCycle byte) 0 vs (λ m v. goes_either (ends_features u) (of_target g m (FeaturesSet _)) Unaffected v (target_goes g m (FeaturesSet _) v tt) tt)
goes_on g u sole OutputCycle vs h = each_goes g u sole OutputCycle 0 vs (λ m v. goes_either (is_data (cond sole v.latch Off)) DataOutput Unaffected v tt tt)

-- ---- 3. cycles

module _ (g : Parts) (k later : Known) (t s : TargetView) (c : Cycle) (f : FitsShared g k t s) where
  abbrev cycle : TargetCycle
  cycle = target_cycle c.kind c.byte

  few_after : length (target_after g (Cyc c) s).luns ≤ 4
  few_after = subst (λ n. n ≤ 4) (sym (ap length (luns_by_cycle g s.tail (has_driver s.luns) c s.luns) ∙ changed_length (by_cycle g s.tail (has_driver s.luns) cycle) 0 s.luns)) f.few

  twins : Each (IsTwin g) (changed (by_cycle g t.tail (has_driver t.luns) cycle) 0 t.luns) (changed (by_cycle g s.tail (has_driver s.luns) cycle) 0 s.luns) → Each (IsTwin g) (target_after g (Cyc c) t).luns (target_after g (Cyc c) s).luns
  twins e =
      subst (λ (vs : List LunView). Each (IsTwin g) vs (target_after g (Cyc c) s).luns) (sym (luns_by_cycle g t.tail (has_driver t.luns) c t.luns))
      (subst (λ (vs : List LunView). Each (IsTwin g) (changed (by_cycle g t.tail (has_driver t.luns) cycle) 0 t.luns) vs) (sym (luns_by_cycle g s.tail (has_driver s.luns) c s.luns)) e)

  alike_fits : later.opened ≡ true → IsAlike g (target_after g (Cyc c) t) (target_after g (Cyc c) s) → FitsShared g later (target_after g (Cyc c) t) (target_after g (Cyc c) s)
  alike_fits later_open a =
      record {
        few = few_after;
        beside = each_more (IsTwin g) Beside (λ x y z. tt) (target_after g (Cyc c) t).luns (target_after g (Cyc c) s).luns a.luns;
        opened = λ h. a;
        closed = λ h. cc;
      }

  -- what is permitted of a target that was reset is seen to be
  pub alike_judged : k.opened ≡ true → judge_cycle g t.tail t.luns cycle ≡ None → judge_cycle g s.tail s.luns cycle ≡ None
  alike_judged was h =
      let a = f.opened was in
      sym (ap (λ (u : TailFacts). judge_cycle g u s.luns cycle) a.tail) ∙ twins_judged g t.tail t.luns s.luns cycle a.luns (keeps_rules g t.tail t.luns cycle h)

  pub seen_alike : k.opened ≡ true → later.opened ≡ true → judge_cycle g t.tail t.luns cycle ≡ None → FitsShared g later (target_after g (Cyc c) t) (target_after g (Cyc c) s)
  seen_alike was later_open h =
      alike_fits later_open
      (record {
        tail = ap (facts_after cycle) a.tail;
        luns = twins
            (twins_after g (by_cycle g t.tail (has_driver t.luns) cycle) (by_cycle g s.tail (has_driver s.luns) cycle) (Goes g s.tail (has_driver s.luns) cycle) one 0 t.luns s.luns a.luns
            (goes_on g s.tail (has_driver s.luns) cycle s.luns (keeps_rules g s.tail s.luns cycle (alike_judged was h)).f15));
      })
    where
      a : IsAlike g t s
      a = f.opened was

      one : (n : ℕ) (x y : LunView) → IsTwin g x y → Goes g s.tail (has_driver s.luns) cycle n y →
          IsTwin g (view_after (by_cycle g t.tail (has_driver t.luns) cycle n x) x) (view_after (by_cycle g s.tail (has_driver s.luns) cycle n y) y)
      one n x y z on =
          subst (λ (e : Effect). IsTwin g (view_after e x) (view_after (by_cycle g s.tail (has_driver s.luns) cycle n y) y))
          (sym (ap (λ (u : TailFacts). by_cycle g u (has_driver t.luns) cycle n x) a.tail
          ∙ ap (λ (b : Bool). by_cycle g s.tail b cycle n x) (twins_driver g t.luns s.luns a.luns)
          ∙ ap (λ (l : Latch). cycle_effect g s.tail (cond (has_driver s.luns) l Off) cycle n) z.latch))
          (twin_after g (by_cycle g s.tail (has_driver s.luns) cycle n y) x y z on)

  -- the first reset
  pub reset_alike : cycle ≡ CommandCycle Reset → later.opened ≡ true → FitsShared g later (target_after g (Cyc c) t) (target_after g (Cyc c) s)
  reset_alike is later_open =
      alike_fits later_open
      (record {
        tail = ap (λ (d : TargetCycle). facts_after d t.tail) is ∙ sym (ap (λ (d : TargetCycle). facts_after d s.tail) is);
        luns = twins (resets_twins g (by_cycle g t.tail (has_driver t.luns) cycle) (by_cycle g s.tail (has_driver s.luns) cycle) (effect t.tail (has_driver t.luns)) (effect s.tail (has_driver s.luns)) 0 t.luns s.luns f.beside);
      })
    where
      effect : (u : TailFacts) (sole : Bool) (n : ℕ) (v : LunView) → by_cycle g u sole cycle n v ≡ reset_effect g n
      effect u sole n v = ap (λ (d : TargetCycle). by_cycle g u sole d n v) is

  -- a cycle that isn't judged
  pub rests_unseen : k.opened ≡ false → FitsShared g k (target_after g (Cyc c) t) s
  rests_unseen was =
      record {
        few = f.few;
        beside = subst (λ (vs : List LunView). Each Beside vs s.luns) (sym (luns_by_cycle g t.tail (has_driver t.luns) c t.luns)) (still_beside (by_cycle g t.tail (has_driver t.luns) cycle) 0 t.luns s.luns f.beside);
        opened = λ h. cc;
        closed = λ h. f.closed was;
      }

-- ---- 4. readies

lun_same : (g : Parts) (works : LunView → Bool) → ((t s : LunView) → IsTwin g t s → works t ≡ works s) → (n : ℕ) (ts ss : List LunView) → Each (IsTwin g) ts ss → lun_is works ts n ≡ lun_is works ss n
lun_same g works f n [] [] e = refl
lun_same g works f zero (t ∷ ts) (s ∷ ss) e = f t s e.0
lun_same g works f (suc n) (t ∷ ts) (s ∷ ss) e = lun_same g works f n ts ss e.1
lun_same g works f n [] (s ∷ ss) e = absurd e
lun_same g works f n (t ∷ ts) [] e = absurd e

beside_found : (works : LunView → Bool) (m : ℕ) (ts ss : List LunView) → Each Beside ts ss → lun_is works ts m ≡ true → (v : LunView) × (slice_get ss m ≡ Some v)
beside_found works m [] [] e h = cc
beside_found works zero (t ∷ ts) (s ∷ ss) e h = (s, refl)
beside_found works (suc m) (t ∷ ts) (s ∷ ss) e h = beside_found works m ts ss e.1 h
beside_found works m [] (s ∷ ss) e h = absurd e
beside_found works m (t ∷ ts) [] e h = absurd e

-- the LUN of a ready that isn't seen to work is in doubt
pub record IsDoubted (k : Known) (s : TargetView) (lun : ℕ) : Type 0 where
  pub lun_seen : LunView
  pub found : slice_get s.luns lun ≡ Some lun_seen
  pub none : has_begun (knows k lun) ≡ false

module _ (i : Item) (lun : ℕ) (x : Effect) (works : LunView → Bool) (is : IsReady i lun x works) (g : Parts) (k later : Known) (t s : TargetView) where
  none_blank : AreBlank s.luns → lun_is works s.luns lun ≡ true → ⊥
  none_blank b h = at (slice_get s.luns lun) refl h
    where
      at : (o : Option LunView) → slice_get s.luns lun ≡ o → is_some_and works o ≡ true → ⊥
      at None e y = cc
      at (Some v) e y = let idle = is.blank v (b lun v e) in cc

  shared_seen : FitsShared g k t s → lun_is works s.luns lun ≡ true → later.opened ≡ k.opened → FitsShared g later (target_after g i t) (target_after g i s)
  shared_seen f h kept =
      record {
        few = subst (λ n. n ≤ 4) (sym (ap length here ∙ changed_length (by_ready i lun x works is) 0 s.luns)) f.few;
        beside = subst (λ (vs : List LunView). Each Beside vs (target_after g i s).luns) (sym there)
            (subst (λ (vs : List LunView). Each Beside (changed (by_ready i lun x works is) 0 t.luns) vs) (sym here) (both 0 t.luns s.luns f.beside));
        opened = λ y.
            let a = f.opened (sym kept ∙ y) in
            record {
              tail = is.tail g t ∙ a.tail ∙ sym (is.tail g s);
              luns = subst (λ (vs : List LunView). Each (IsTwin g) vs (target_after g i s).luns) (sym there)
                  (subst (λ (vs : List LunView). Each (IsTwin g) (changed (by_ready i lun x works is) 0 t.luns) vs) (sym here) (twins 0 t.luns s.luns a.luns));
            };
        closed = λ y. absurd (none_blank (f.closed (sym kept ∙ y)).blank h);
      }
    where
      here : (target_after g i s).luns ≡ changed (by_ready i lun x works is) 0 s.luns
      here = luns_ready i lun x works is g s.tail (has_driver s.luns) s.luns

      there : (target_after g i t).luns ≡ changed (by_ready i lun x works is) 0 t.luns
      there = luns_ready i lun x works is g t.tail (has_driver t.luns) t.luns

      both : (n : ℕ) (ts ss : List LunView) → Each Beside ts ss → Each Beside (changed (by_ready i lun x works is) n ts) (changed (by_ready i lun x works is) n ss)
      both n [] [] e = tt
      both n (a ∷ ts) (b ∷ ss) e = (tt, both (n + 1) ts ss e.1)
      both n [] (b ∷ ss) e = e
      both n (a ∷ ts) [] e = e

      goes : (b : Bool) (v : LunView) → GoesOn (cond b x Unaffected) v
      goes b v = goes_either b x Unaffected v (is.goes v) tt

      twins : (n : ℕ) (ts ss : List LunView) → Each (IsTwin g) ts ss → Each (IsTwin g) (changed (by_ready i lun x works is) n ts) (changed (by_ready i lun x works is) n ss)
      twins n [] [] e = tt
      twins n (a ∷ ts) (b ∷ ss) e = (twin_after g (by_ready i lun x works is n b) a b e.0 (goes (lun == n) b), twins (n + 1) ts ss e.1)
      twins n [] (b ∷ ss) e = e
      twins n (a ∷ ts) [] e = e

  -- a ready that isn't seen comes before the reset alone
  before_reset : FitsShared g k t s → lun_is works t.luns lun ≡ true → lun_is works s.luns lun ≡ false → k.opened ≡ false
  before_reset f h idle = at k.opened refl
    where
      at : (b : Bool) → k.opened ≡ b → k.opened ≡ false
      at false e = e
      at true e = let same = lun_same g works (λ p q z. is.begun p q z.begun) lun t.luns s.luns (f.opened e).luns in cc

  shared_granted : FitsShared g k t s → k.opened ≡ false → FitsShared g k (target_after g i t) s
  shared_granted f was =
      record {
        few = f.few;
        beside = subst (λ (vs : List LunView). Each Beside vs s.luns) (sym (luns_ready i lun x works is g t.tail (has_driver t.luns) t.luns)) (still_beside (by_ready i lun x works is) 0 t.luns s.luns f.beside);
        opened = λ h. cc;
        closed = λ h. f.closed was;
      }

  shared_doubted : FitsShared g k t s → lun_is works t.luns lun ≡ true → lun_is works s.luns lun ≡ false → IsDoubted k s lun
  shared_doubted f h idle =
      let found = beside_found works lun t.luns s.luns f.beside h in
      let within = slice_get_within s.luns lun found.0 found.1 in
      let few = f.few in
      record {
        lun_seen = found.0;
        found = found.1;
        none = ap (λ (y : Known). has_begun (knows y lun)) (f.closed (before_reset f h idle)).nothing ∙ ap has_begun (knows_nothing lun (omega (arith, within, few)));
      }

  pub either_doubted : FitsEither g k t s → lun_is works t.luns lun ≡ true → lun_is works s.luns lun ≡ false → IsDoubted k s lun
  either_doubted f h idle = at (waits_for_reset g) refl
    where
      at : (b : Bool) → waits_for_reset g ≡ b → IsDoubted k s lun
      at true e = shared_doubted (f.shared e) h idle
      at false e = let y = doubted i lun x works is g k later t s (f.plain e) h idle in record { lun_seen = y.lun_seen; found = y.found; none = y.none }

  pub either_seen : FitsEither g k t s → lun_is works s.luns lun ≡ true → IsLearned (has_plane_reads g.optional) i k later s.luns (target_after g i s).luns → later.opened ≡ k.opened → FitsEither g later (target_after g i t) (target_after g i s)
  either_seen f h learned kept = record { plain = λ e. ready_seen i lun x works is g k later t s (f.plain e) h learned kept; shared = λ e. shared_seen (f.shared e) h kept }

  pub either_granted : FitsEither g k t s → lun_is works t.luns lun ≡ true → lun_is works s.luns lun ≡ false → has_begun (knows k lun) ≡ false → FitsEither g k (target_after g i t) s
  either_granted f h idle none =
      record { plain = λ e. ready_granted i lun x works is g k later t s (f.plain e) idle none; shared = λ e. shared_granted (f.shared e) (before_reset (f.shared e) h idle) }
