-- The check goes over the words one by one.
use Rattle.std.proofs.Common.{◌≡◌, ℕ, ◌+◌, ◌<◌, ◌≤◌, Bool, true, false, ◌&&◌, List, Option, Some, None, refl, sym, ap, ◌∙◌, arith, length, drop, get_or}
use Rattle.std.proofs.lemmas.Option.{slice_get-get_or}
use Rattle.micro_word.specs.declared.word.Word.{Word}
use Rattle.micro_claims.specs.Certificate.{Machine, claim, flat, holds, all_hold}
use Rattle.micro_program.proofs.Ways.{drop_here, drop_past}

claim_here : {A : Type 0} (claims : List (Option A)) (at : ℕ) (d : Option A) → at < length claims → claim claims at ≡ get_or claims at d
claim_here claims at d h = ap flat (slice_get-get_or claims at d h)

here : (M : Machine) (words : List Word) (claims : List (Option M.State)) (at : ℕ) (d : Word) (e : Option M.State) → at < length words → at < length claims
    → all_hold M words claims at (drop at words) ≡ (holds M words claims at (get_or claims at e) (get_or words at d) && all_hold M words claims (at + 1) (drop (at + 1) words))
here M words claims at d e h k =
    ap (all_hold M words claims at) (drop_here words at (get_or words at d) (slice_get-get_or words at d h))
    ∙ ap (λ (o : Option M.State). holds M words claims at o (get_or words at d) && all_hold M words claims (at + 1) (drop (at + 1) words)) (claim_here claims at e k)

-- a word that holds
pub check_goes_on : (M : Machine) (words : List Word) (claims : List (Option M.State)) (at : ℕ) (before : Bool) (d : Word) (e : Option M.State) → length words ≡ length claims → at < length words
    → before ≡ all_hold M words claims at (drop at words) → holds M words claims at (get_or claims at e) (get_or words at d) ≡ true → before ≡ all_hold M words claims (at + 1) (drop (at + 1) words)
check_goes_on M words claims at before d e same inside so_far h =
    so_far ∙ (here M words claims at d e inside (omega (arith, same, inside)) ∙ ap (λ (b : Bool). b && all_hold M words claims (at + 1) (drop (at + 1) words)) h)

-- a word that doesn't
pub check_stops : (M : Machine) (words : List Word) (claims : List (Option M.State)) (at : ℕ) (before : Bool) (d : Word) (e : Option M.State) → length words ≡ length claims → at < length words
    → before ≡ all_hold M words claims at (drop at words) → holds M words claims at (get_or claims at e) (get_or words at d) ≡ false → before ≡ false
check_stops M words claims at before d e same inside so_far h =
    so_far ∙ (here M words claims at d e inside (omega (arith, same, inside)) ∙ ap (λ (b : Bool). b && all_hold M words claims (at + 1) (drop (at + 1) words)) h)

-- the words are all done
pub check_ends : (M : Machine) (words : List Word) (claims : List (Option M.State)) (at : ℕ) (before : Bool) → length words ≤ at → before ≡ all_hold M words claims at (drop at words) → before ≡ true
check_ends M words claims at before past so_far = so_far ∙ ap (all_hold M words claims at) (drop_past words at past)

pub last_false : (a b x : Bool) → x ≡ false → false ≡ (a && (b && x))
last_false true true x h = sym h
last_false true false x h = refl
last_false false b x h = refl

pub none_of : {A : Type 0} (o : Option A) → ((x : A) → o ≡ Some x → ⊥) → o ≡ None
none_of None h = refl
none_of (Some x) h = absurd (h x refl)
