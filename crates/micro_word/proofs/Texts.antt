-- A text has no fault exactly where it fits format 2.
use Rattle.std.proofs.Common.{◌≡◌, ℕ, ◌+◌, ◌^◌, ◌<◌, Bool, true, false, cond, ltb, List, [], ◌∷◌, length, Option, Some, None, refl, arith}
use Rattle.std.specs.List.{AllByRecursion}
use Rattle.std.proofs.lemmas.Bool.{ltb-false, le-ltb}
use Rattle.std.proofs.lemmas.Bool.Decides.{nat_tests}
use Rattle.micro_word.specs.declared.format.Format.TheVariants.{Two}
use Rattle.micro_word.specs.declared.word.Word.{Word}
use Rattle.micro_word.specs.declared.refusal.WordFault.TheVariants.{TooManyWords, OutOfRange}
use Rattle.micro_word.specs.declared.refusal.WordRefusal.{WordRefusal}
use Rattle.micro_word.specs.declared.refusal.WordRefusal.TheVariants.{Fault}
use Rattle.micro_word.specs.Word.{IsInRange, is_in_range, is_header_in_range}
use Rattle.micro_word.specs.Text.{Microprogram, FitsFormat}
use Rattle.micro_word.specs.Reading.{out_of_range, fault_at, fault_of}
use Rattle.micro_word.proofs.Ranges.{in_range, passes}

-- ---- the words

is_none : (b : Bool) (place : ℕ) (others : Option ℕ) → cond b others (Some place) ≡ None → (b ≡ true) × (others ≡ None)
is_none true place others e = (refl, e)
is_none false place others e = absurd cc

all_in_range : (words place : ℕ) (ws : List Word) → out_of_range words place ws ≡ None → AllByRecursion (IsInRange Two words) ws
all_in_range words place [] e = tt
all_in_range words place (w ∷ ws) e =
    let both = is_none (is_in_range Two words w) place (out_of_range words (place + 1) ws) e in
    (in_range Two words w both.0, all_in_range words (place + 1) ws both.1)

none_out_of_range : (words place : ℕ) (ws : List Word) → AllByRecursion (IsInRange Two words) ws → out_of_range words place ws ≡ None
none_out_of_range words place [] h = refl
none_out_of_range words place (w ∷ ws) h = let here = passes Two words w h.0 in let there = none_out_of_range words (place + 1) ws h.1 in rw (here, there) refl

-- ---- the text

no_fault_at : (o : Option ℕ) → fault_at o ≡ None → o ≡ None
no_fault_at None e = refl
no_fault_at (Some place) e = absurd cc

no_fault : (many good : Bool) (o : Option ℕ) → cond many (Some (Fault TooManyWords 0)) (cond good (fault_at o) (Some (Fault OutOfRange 0))) ≡ None → (many ≡ false) × (good ≡ true) × (o ≡ None)
no_fault true good o e = absurd cc
no_fault false true o e = (refl, refl, no_fault_at o e)
no_fault false false o e = absurd cc

pub fits_of : (x : Microprogram) → x.budget < 2 ^ 32 → fault_of x.rows x.buffer x.words ≡ None → FitsFormat Two x
unfolding fault_of
fits_of x budget e =
    let f = no_fault (ltb 1024 (length x.words)) (is_header_in_range Two x.rows x.buffer) (out_of_range (length x.words) 0 x.words) e in
    let header = f.1 in
    record {
      some_rows = grind (arith, nat_tests);
      rows = grind (arith, nat_tests);
      buffer = grind (arith, nat_tests);
      budget = budget;
      count = ltb-false _ _ f.0;
      words = all_in_range (length x.words) 0 x.words f.2;
    }

pub no_fault_of : (x : Microprogram) → FitsFormat Two x → fault_of x.rows x.buffer x.words ≡ None
unfolding fault_of
no_fault_of x fits =
    let some_rows = fits.some_rows in
    let rows = fits.rows in
    let buffer = fits.buffer in
    let few : ltb 1024 (length x.words) ≡ false = le-ltb _ _ fits.count in
    let header : is_header_in_range Two x.rows x.buffer ≡ true = grind (arith, nat_tests) in
    let none = none_out_of_range (length x.words) 0 x.words fits.words in
    rw (few, header, none) refl

pub is_refused : (x : Microprogram) (e : WordRefusal) → fault_of x.rows x.buffer x.words ≡ Some e → FitsFormat Two x → ⊥
is_refused x e refused fits = let none = no_fault_of x fits in cc
