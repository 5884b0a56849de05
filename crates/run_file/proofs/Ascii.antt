-- What is ASCII is text.
use Rattle.std.proofs.Common.{◌≡◌, ℕ, zero, suc, ◌<◌, ◌≤◌, Bool, true, false, ◌&&◌, slice_index, List, [], ◌∷◌, Result, Ok, Err, refl, sym, arith}
use Rattle.std.specs.Prelude.{IsOk}
use Rattle.std.specs.Result.{MatchResult}
use Rattle.std.specs.Char.{is_ascii}
use Rattle.std.specs.List.{list_all}
use Rattle.std.specs.Bool.{MatchBool}
use Rattle.std.specs.Str.{IsUtf8, IsAscii, IsNotAscii}
use Rattle.std.proofs.lemmas.Bool.{ltb-true, lt-ltb, le-ltb}
use Rattle.std.proofs.lemmas.List.Elements.{All-weaker}
use Rattle.std.proofs.lemmas.List.Sums.{AllPass-from_list_all, list_all-from_AllPass}
use Rattle.std.proofs.lemmas.Str.{IsUtf8-from_ascii}
use Rattle.std.proofs.lemmas.Str.Ascii.{IsAscii-from_all, All-from_ascii}

pub is_utf8 : (bs : List ℕ) → list_all is_ascii bs ≡ true → IsUtf8 bs
is_utf8 bs h =
    let each = AllPass-from_list_all is_ascii bs h in
    IsUtf8-from_ascii bs (IsAscii-from_all bs (All-weaker (λ b. is_ascii b ≡ true) (λ b. b < 128) (λ b e. ltb-true b 128 e) bs each))

not_all : (bs : List ℕ) (i : ℕ) → 128 ≤ slice_index bs i → list_all is_ascii bs ≡ false
not_all [] i high = absurd (omega (arith, high))
not_all (b ∷ bs) zero high = rw (le-ltb b 128 high) refl
not_all (b ∷ bs) (suc i) high = at (is_ascii b) (list_all is_ascii bs) (not_all bs i high)
  where
    at : (t u : Bool) → u ≡ false → (t && u) ≡ false
    at true u is = is
    at false u is = refl

-- the test by std says the same
pub tells : (bs : List ℕ) (r : Bool) → MatchBool r (IsAscii bs) (IsNotAscii bs) → r ≡ list_all is_ascii bs
tells bs true h =
    let low = All-from_ascii bs h in
    sym (list_all-from_AllPass is_ascii bs (All-weaker (λ b. b < 128) (λ b. is_ascii b ≡ true) (λ b l. lt-ltb b 128 l) bs low))
tells bs false h = sym (not_all bs h.0 h.1)

pub is_text : {S E : Type 0} (r : Result S E) (P : S → Type 0) (Q : E → Type 0) (U : Type 0)
    → MatchResult r P (λ e. (U → ⊥) × Q e) → U → IsOk r
is_text (Ok x) P Q U h u = refl
is_text (Err e) P Q U h u = absurd (h.0 u)
