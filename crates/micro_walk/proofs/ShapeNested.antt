-- A text without a fault of its shape: its loops and branches are nested, it is shaped for whoever goes by places, and it ends.
use Rattle.std.proofs.Common.{◌≡◌, ℕ, zero, suc, ◌+◌, ◌-◌, ◌<◌, ◌≤◌, ◌==◌, Bool, true, false, cond, List, [], ◌∷◌, Option, Some, None, refl, sym, ap, subst, arith, length}
use Rattle.std.specs.List.{slice_get, AllByRecursion}
use Rattle.std.specs.Prelude.{nat_lt}
use Rattle.std.proofs.lemmas.Bool.Decides.{nat_tests}
use Rattle.std.proofs.lemmas.Bool.{not-false}
use Rattle.micro_word.specs.declared.format.Format.TheVariants.{Two}
use Rattle.micro_word.specs.declared.word.Word.{Word}
use Rattle.micro_word.specs.declared.word.Word.TheVariants.{BranchOnStatus, Loop, Next, Jump}
use Rattle.micro_word.specs.Word.{IsInRange}
use Rattle.micro_word.specs.Text.{Microprogram, FitsFormat}
use Rattle.micro_claims.specs.declared.refusal.Reason.{Reason}
use Rattle.micro_claims.specs.declared.refusal.Reason.TheVariants.{NoWords, LoopUnpaired, LoopsTooDeep, BranchMisplaced, LastWordNotEnd}
use Rattle.micro_claims.specs.declared.refusal.Fault.{Fault}
use Rattle.micro_program.specs.Nested.{first_of, loops_before, loops, loops_at, closer, StandsIn, IsNested, is_same, leads_forward}
use Rattle.micro_walk.specs.Certified.{ShapeIsNested}
use Rattle.micro_walk.specs.Shape.{is_unpaired, is_too_deep, leads_astray, first_where, ends, fault_at, or_fault, unended, misshapen, shape_fault}
use Rattle.micro_program.proofs.Nested.{forward}
use Rattle.micro_program.proofs.Shaped.{nested_is_shaped}
use Rattle.micro_program.proofs.Ways.{drop_past, past_of, loops_here}

-- ---- no reason has a word

neither : (a b : Option Fault) → or_fault a b ≡ None → (a ≡ None) × (b ≡ None)
neither None b h = (refl, h)
neither (Some fault) b h = absurd cc

no_place : (reason : Reason) (o : Option ℕ) → fault_at reason o ≡ None → o ≡ None
no_place reason None h = refl
no_place reason (Some at) h = absurd cc

not_so : (b : Bool) (at : ℕ) (later : Option ℕ) → cond b (Some at) later ≡ None → (b ≡ false) × (later ≡ None)
not_so true at later h = absurd cc
not_so false at later h = (refl, h)

-- where no word is so, each isn't
never_so : (is_so : ℕ → Word → Bool) (at : ℕ) (rest : List Word) → first_where is_so at rest ≡ None → (i : ℕ) (word : Word) → slice_get rest i ≡ Some word → is_so (at + i) word ≡ false
never_so is_so at [] h i word e = absurd cc
never_so is_so at (first ∷ rest) h zero word e =
    let same : first ≡ word = cc in
    let here : at + 0 ≡ at = omega arith in
    rw here (subst (λ (w : Word). is_so at w ≡ false) same (not_so (is_so at first) at (first_where is_so (at + 1) rest) h).0)
never_so is_so at (first ∷ rest) h (suc i) word e =
    let here : at + suc i ≡ at + 1 + i = omega arith in
    rw here (never_so is_so (at + 1) rest (not_so (is_so at first) at (first_where is_so (at + 1) rest) h).1 i word e)

-- what a text without a fault of its shape is
record HasNoFault (words : List Word) : Type 0 where
  some : 0 < length words
  paired : first_where (is_unpaired words) 0 words ≡ None
  shallow : first_where (is_too_deep words) 0 words ≡ None
  forward : first_where (leads_astray words) 0 words ≡ None
  ends : ends words ≡ true

no_fault : (words : List Word) → shape_fault words ≡ None → HasNoFault words
no_fault words h = elim (length words == 0) as (λ b. (length words == 0) ≡ b → cond b (Some (record { word = 0; reason = NoWords })) (misshapen words) ≡ None → HasNoFault words) [ true ↦ λ is e. absurd cc | false ↦ λ is e. parts (some (length words) is) e ] refl h
  where
    some : (n : ℕ) → (n == 0) ≡ false → 0 < n
    some n e = grind (arith, nat_tests)

    ended : (b : Bool) (at : ℕ) → cond b None (Some at) ≡ None → b ≡ true
    ended true at e = refl
    ended false at e = absurd cc

    parts : 0 < length words → misshapen words ≡ None → HasNoFault words
    parts more e =
        let two = neither (fault_at LoopUnpaired (first_where (is_unpaired words) 0 words)) _ e in
        let three = neither (fault_at LoopsTooDeep (first_where (is_too_deep words) 0 words)) _ two.1 in
        let four = neither (fault_at BranchMisplaced (first_where (leads_astray words) 0 words)) (fault_at LastWordNotEnd (unended words)) three.1 in
        record {
          some = more;
          paired = no_place LoopUnpaired _ two.0;
          shallow = no_place LoopsTooDeep _ three.0;
          forward = no_place BranchMisplaced _ four.0;
          ends = ended (ends words) (length words - 1) (no_place LastWordNotEnd (unended words) four.1);
        }

-- ---- loops

-- each is the place of a `next`
abbrev pub AreNexts : List Word → List ℕ → Type 0
AreNexts words [] = Unit {0}
AreNexts words (next ∷ rest) = (slice_get words next ≡ Some Next) × AreNexts words rest

nexts_before : (words : List Word) (at : ℕ) (around : List ℕ) (word : Word) → slice_get words at ≡ Some word → AreNexts words around → AreNexts words (loops_before at around word)
nexts_before words at around Next e h = (e, h)
nexts_before words at [] (Loop turns) e h = tt
nexts_before words at (next ∷ rest) (Loop turns) e h = h.1
nexts_before words at around word e h = h

pub nexts : (fuel : ℕ) (words : List Word) (at : ℕ) → length words ≤ at + fuel → AreNexts words (loops_at words at)
nexts zero words at h = subst (AreNexts words) (sym (ap (λ (ws : List Word). loops ws at) (drop_past words at (omega (arith, h))))) tt
nexts (suc fuel) words at h = choose (slice_get words at) refl (nexts fuel words (at + 1) (omega (arith, h)))
  where
    choose : (o : Option Word) → slice_get words at ≡ o → AreNexts words (loops_at words (at + 1)) → AreNexts words (loops_at words at)
    choose None is later = subst (AreNexts words) (sym (ap (λ (ws : List Word). loops ws at) (drop_past words at (past_of words at is)))) tt
    choose (Some word) is later = subst (AreNexts words) (sym (loops_here words at word is)) (nexts_before words at (loops_at words (at + 1)) word is later)

eqb_false : (n : ℕ) → (n == 0 + n) ≡ false → ⊥
eqb_false n h = grind (arith, nat_tests)

all_paired : (words : List Word) → first_where (is_unpaired words) 0 words ≡ None → loops_at words 0 ≡ []
all_paired words none = choose (loops_at words 0) refl (nexts (length words) words 0 (omega arith))
  where
    choose : (around : List ℕ) → loops_at words 0 ≡ around → AreNexts words (loops_at words 0) → loops_at words 0 ≡ []
    choose [] is are = is
    choose (next ∷ rest) is are =
        let here = subst (AreNexts words) is are in
        let other : is_same (closer words 0) (Some (0 + next)) ≡ false = never_so (is_unpaired words) 0 words none next Next here.0 in
        absurd (eqb_false next (subst (λ (l : List ℕ). is_same (first_of l) (Some (0 + next)) ≡ false) is other))

not_more : (a b : ℕ) → nat_lt a b ≡ false → b ≤ a
not_more a b h = grind (arith, nat_tests)

-- behind a word there are four loops at most around
few_behind : (words : List Word) (at : ℕ) (word : Word) → is_too_deep words at word ≡ false → length (loops_before at (loops_at words (at + 1)) word) ≤ 4 → length (loops_at words (at + 1)) ≤ 4
few_behind words at (Loop turns) e h = not_more 4 (length (loops_at words (at + 1))) e
few_behind words at Next e h = omega (arith, h)
few_behind words at word e h = h

all_shallow : (words : List Word) → loops_at words 0 ≡ [] → first_where (is_too_deep words) 0 words ≡ None → (at : ℕ) → length (loops_at words at) ≤ 4
all_shallow words paired none zero = let empty : length (loops_at words 0) ≡ 0 = ap (length {A = ℕ}) paired in omega (arith, empty)
all_shallow words paired none (suc at) = choose (slice_get words at) refl (all_shallow words paired none at)
  where
    choose : (o : Option Word) → slice_get words at ≡ o → length (loops_at words at) ≤ 4 → length (loops_at words (suc at)) ≤ 4
    choose None is before =
        let past = past_of words at is in
        let empty : length (loops_at words (suc at)) ≡ 0 = ap (λ (ws : List Word). length (loops ws (suc at))) (drop_past words (suc at) (omega (arith, past))) in
        omega (arith, empty)
    choose (Some word) is before =
        let next : at + 1 ≡ suc at = omega arith in
        let start : 0 + at ≡ at = omega arith in
        let tested = subst (λ (k : ℕ). is_too_deep words k word ≡ false) start (never_so (is_too_deep words) 0 words none at word is) in
        subst (λ (k : ℕ). length (loops_at words k) ≤ 4) next
        (few_behind words at word tested (subst (λ (l : List ℕ). length l ≤ 4) (loops_here words at word is) before))

-- ---- words

one_or_more : (n : ℕ) → (n == 0) ≡ false → 1 ≤ n
one_or_more n h = grind (arith, nat_tests)

stands_there : (words : List Word) (at : ℕ) (word : Word) → IsInRange Two (length words) word → is_unpaired words at word ≡ false → leads_astray words at word ≡ false → StandsIn words at word
stands_there words at (BranchOnStatus mask target) range paired leads = forward words at target (not-false (leads_forward words at target) leads)
stands_there words at (Jump target) range paired leads = forward words at target (not-false (leads_forward words at target) leads)
stands_there words at (Loop turns) range paired leads = record { some = range.0; most = range.1; ends = one_or_more (length (loops_at words (at + 1))) paired }
stands_there words at word range paired leads = tt

range_at : (count : ℕ) (words : List Word) → AllByRecursion (IsInRange Two count) words → (at : ℕ) (word : Word) → slice_get words at ≡ Some word → IsInRange Two count word
range_at count [] h at word e = absurd cc
range_at count (first ∷ words) h zero word e = let same : first ≡ word = cc in subst (IsInRange Two count) same h.0
range_at count (first ∷ words) h (suc at) word e = range_at count words h.1 at word e

-- ---- the text

pub shape_is_nested : (x : Microprogram) → FitsFormat Two x → shape_fault x.words ≡ None → IsNested x.words
shape_is_nested x fits h =
    let n = no_fault x.words h in
    let paired = all_paired x.words n.paired in
    record {
      paired = paired;
      depth = all_shallow x.words paired n.shallow;
      stands = λ at word e. stands_there x.words at word (range_at (length x.words) x.words fits.words at word e) (there (is_unpaired x.words) n.paired at word e) (there (leads_astray x.words) n.forward at word e);
    }
  where
    there : (is_so : ℕ → Word → Bool) → first_where is_so 0 x.words ≡ None → (at : ℕ) (word : Word) → slice_get x.words at ≡ Some word → is_so at word ≡ false
    there is_so none at word e = let start : 0 + at ≡ at = omega arith in subst (λ (k : ℕ). is_so k word ≡ false) start (never_so is_so 0 x.words none at word e)

pub shape_is_right : ShapeIsNested
shape_is_right text fits h = let nested = shape_is_nested text fits h in (nested, nested_is_shaped text.words nested)

pub shape_ends : (words : List Word) → shape_fault words ≡ None → (0 < length words) × (ends words ≡ true)
shape_ends words h = let n = no_fault words h in (n.some, n.ends)
