-- In the base profile no tail wants a 31 that is permitted, and none selects a plane.
use Rattle.std.proofs.Common.{◌≡◌, ℕ, Bool, true, false, ◌&&◌, ◌==◌, not, List, Option, Some, None, refl}
use Rattle.nand_geometry.specs.declared.parts.Parts.{Parts}
use Rattle.nand_geometry.specs.Optional.{is_wide}
use Rattle.onfi_cycle.specs.declared.command.Command.{Command}
use Rattle.onfi_cycle.specs.declared.command.Command.TheVariants.{Read, ReadCacheSequential, ChangeReadColumnEnhanced, ChangeWriteColumn}
use Rattle.onfi_cycle.specs.declared.opening.Opening.{Opening}
use Rattle.onfi_cycle.specs.declared.tail_facts.TailFacts.{TailFacts}
use Rattle.onfi_cycle.specs.declared.target_cycle.TargetCycle.{TargetCycle}
use Rattle.onfi_cycle.specs.declared.target_cycle.TargetCycle.TheVariants.{CommandCycle, AddressCycle, InputCycle, OutputCycle}
use Rattle.onfi_cycle.specs.LunView.{LunView}
use Rattle.onfi_cycle.specs.Base.{is_of_base}
use Rattle.onfi_cycle.specs.Command.{at_last_row, is_write_column, is_enhanced_column, addresses_the_array}
use Rattle.onfi_cycle.specs.Sequence.{opened, wants_command, begins_anew, selects_plane}
use Rattle.onfi_cycle.specs.Rules.{ends_row, excludes_cache, breaks_sequence_open, breaks_command_misplaced, breaks_plane_not_held}
use Rattle.onfi_cycle.proofs.TableLemmas.{command_opens}
use Rattle.std.proofs.lemmas.Bool.{not-false}
use Rattle.onfi_profiles.specs.Widening.{in_base}
use Rattle.onfi_profiles.specs.Tails.{base_begins_sequence, base_opened}

pub unwanted : (g : Parts) (t : TailFacts) → is_wide g.optional ≡ false → breaks_sequence_open g t (CommandCycle ReadCacheSequential) ≡ false → wants_command t ReadCacheSequential ≡ false
unfolding breaks_sequence_open
unwanted g t narrow h = at (wants_command t ReadCacheSequential) refl
  where
    at : (w : Bool) → wants_command t ReadCacheSequential ≡ w → w ≡ false
    at true w = let no : true ≡ false = rw (command_opens t ReadCacheSequential w, w, narrow) at h in cc
    at false w = refl

-- so a permitted cycle begins a tail anew exactly where it is an opener of the base profile; an 85 is wanted where it is permitted
pub anew_same : (g : Parts) (t : TailFacts) (k : TargetCycle) → breaks_sequence_open (in_base g) t k ≡ false → breaks_command_misplaced (in_base g) t k ≡ false → begins_anew t k ≡ base_begins_sequence k
unfolding breaks_command_misplaced
anew_same g t (CommandCycle ReadCacheSequential) h f = rw (unwanted (in_base g) t refl h) refl
anew_same g t (CommandCycle ChangeWriteColumn) h f = rw (not-false (wants_command t ChangeWriteColumn) f) refl
anew_same g t (CommandCycle c) h f = refl
anew_same g t (AddressCycle byte) h f = refl
anew_same g t (InputCycle byte) h f = refl
anew_same g t OutputCycle h f = refl

-- no sequence of the base profile is a Change Read Column Enhanced
pub no_plane : (t : TailFacts) → opened (λ c n. not (is_of_base c)) t.opening ≡ false → selects_plane t ≡ false
no_plane t h = at t.opening h
  where
    of : (c : Command) (n : ℕ) → not (is_of_base c) ≡ false → (is_enhanced_column c && n == 5) ≡ false
    of ChangeReadColumnEnhanced n h = cc
    of c n h = refl

    at : (o : Option Opening) → opened (λ c n. not (is_of_base c)) o ≡ false → opened (λ c n. is_enhanced_column c && n == 5) o ≡ false
    at None h = refl
    at (Some o) h = of o.opener o.addresses h

-- each row of the array excludes a cache read there
pub excluded_same : (g : Parts) (t : TailFacts) → opened (λ c n. not (is_of_base c)) t.opening ≡ false → ends_row (excludes_cache (in_base g)) t ≡ ends_row addresses_the_array t
excluded_same g t h = at t.opening h
  where
    of : (c : Command) (n : ℕ) → not (is_of_base c) ≡ false → (excludes_cache (in_base g) c && at_last_row c n) ≡ (addresses_the_array c && at_last_row c n)
    of Read n h = refl
    of ChangeReadColumnEnhanced n h = cc
    of c n h = refl

    at : (o : Option Opening) → opened (λ c n. not (is_of_base c)) o ≡ false → opened (λ c n. excludes_cache (in_base g) c && at_last_row c n) o ≡ opened (λ c n. addresses_the_array c && at_last_row c n) o
    at None h = refl
    at (Some o) h = of o.opener o.addresses h

-- and the wider profile lets a Read be
pub excluded_less : (g : Parts) (t : TailFacts) (b : Bool) → (ends_row (excludes_cache (in_base g)) t && b) ≡ false → (ends_row (excludes_cache g) t && b) ≡ false
excluded_less g t b h = at t.opening h
  where
    of : (c : Command) (n : ℕ) → ((excludes_cache (in_base g) c && at_last_row c n) && b) ≡ false → ((excludes_cache g c && at_last_row c n) && b) ≡ false
    of Read n h = less (not (is_wide g.optional)) (at_last_row Read n) h
      where
        less : (w r : Bool) → ((true && r) && b) ≡ false → ((w && r) && b) ≡ false
        less true r h = h
        less false r h = refl
    of c n h = h

    at : (o : Option Opening) → (opened (λ c n. excludes_cache (in_base g) c && at_last_row c n) o && b) ≡ false → (opened (λ c n. excludes_cache g c && at_last_row c n) o && b) ≡ false
    at None h = refl
    at (Some o) h = of o.opener o.addresses h

-- F18 is of no sequence of the base profile
pub plane_kept : (g : Parts) (t : TailFacts) (luns : List LunView) (k : TargetCycle) → opened (λ c n. not (is_of_base c)) t.opening ≡ false → breaks_plane_not_held g t luns k ≡ false
unfolding breaks_plane_not_held
plane_kept g t luns (AddressCycle byte) h = none (ends_row is_enhanced_column t) _ (at t.opening h)
  where
    none : (a b : Bool) → a ≡ false → (a && b) ≡ false
    none true b e = cc
    none false b e = refl

    of : (c : Command) (n : ℕ) → not (is_of_base c) ≡ false → (is_enhanced_column c && at_last_row c n) ≡ false
    of ChangeReadColumnEnhanced n h = cc
    of c n h = refl

    at : (o : Option Opening) → opened (λ c n. not (is_of_base c)) o ≡ false → opened (λ c n. is_enhanced_column c && at_last_row c n) o ≡ false
    at None h = refl
    at (Some o) h = of o.opener o.addresses h
plane_kept g t luns (CommandCycle c) h = refl
plane_kept g t luns (InputCycle byte) h = refl
plane_kept g t luns OutputCycle h = refl

-- no sequence of the base profile is begun by 85
pub unwritten : (among : Command → ℕ → Bool) (o : Option Opening) → opened (λ c n. is_write_column c) o ≡ false → opened among o ≡ base_opened among o
unwritten among None w = refl
unwritten among (Some o) w = of (is_write_column o.opener) (among o.opener o.addresses) w
  where
    of : (b p : Bool) → b ≡ false → p ≡ (not b && p)
    of true p e = cc
    of false p e = refl
