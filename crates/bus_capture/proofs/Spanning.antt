-- Lines that a change of a code passes over.
use Rattle.std.proofs.Common.{◌≡◌, ◌<◌, ◌+◌, ℕ, zero, suc, Bool, true, false, List, [], ◌∷◌, ◌++◌, length, take, get_or, eqb, refl, ap, sym, ◌∙◌, subst, arith}
use Rattle.std.proofs.lemmas.Bool.{eqb-true}
use Rattle.vcd_text.specs.declared.tokens.Level.{Level}
use Rattle.bus_signals.specs.declared.source.Source.{Source}
use Rattle.bus_capture.specs.declared.spans.Span.{Span}
use Rattle.bus_capture.specs.Sampling.{with_source, with_change}
use Rattle.bus_capture.specs.Spans.{Keeps, IsSpan, AreSpans}

other_source : (code : ℕ) (s : Source) (bits : List ℕ) (levels : List Level) → (s.code ≡ code → ⊥) → with_source s code bits levels ≡ levels
other_source code s bits levels other = at (eqb s.code code) refl
  where
    at : (is : Bool) → eqb s.code code ≡ is → with_source s code bits levels ≡ levels
    at true is = absurd (other (eqb-true s.code code is))
    at false is = rw is refl

pub keeps_rest : (code : ℕ) (s : Source) (rest : List Source) → (s.code ≡ code → ⊥) → Keeps code (s ∷ rest) rest
keeps_rest code s rest other = λ bits levels. ap (with_change rest code bits) (sym (other_source code s bits levels other))

change_last : (code : ℕ) (xs : List Source) (s : Source) (bits : List ℕ) (levels : List Level) → with_change (xs ++ s ∷ []) code bits levels ≡ with_source s code bits (with_change xs code bits levels)
change_last code [] s bits levels = refl
change_last code (x ∷ xs) s bits levels = change_last code xs s bits (with_source x code bits levels)

pub keeps_front : (code : ℕ) (xs : List Source) (s : Source) → (s.code ≡ code → ⊥) → Keeps code (xs ++ s ∷ []) xs
keeps_front code xs s other = λ bits levels. sym (change_last code xs s bits levels ∙ other_source code s bits (with_change xs code bits levels) other)

-- the front of a front
pub front_less : (others : List Source) (x : Source) (xs : List Source) → others ++ x ∷ [] ≡ take (length others + 1) xs → others ≡ take (length others) xs
front_less [] x xs e = refl
front_less (y ∷ others) x [] e =
    let one : suc (length others) + 1 ≡ suc (length others + 1) = omega arith in
    let none : y ∷ (others ++ x ∷ []) ≡ [] = e ∙ ap (λ n. take n []) one in
    absurd cc
front_less (y ∷ others) x (z ∷ xs) e =
    let one : suc (length others) + 1 ≡ suc (length others + 1) = omega arith in
    let whole : y ∷ (others ++ x ∷ []) ≡ z ∷ take (length others + 1) xs = e ∙ ap (λ n. take n (z ∷ xs)) one in
    let first : y ≡ z = cc in
    let rest : others ++ x ∷ [] ≡ take (length others + 1) xs = cc in
    ap (λ (ys : List Source). y ∷ ys) (front_less others x xs rest) ∙ ap (λ (w : Source). w ∷ take (length others) xs) first

pub keeps_on : (code : ℕ) (xs ys zs : List Source) → Keeps code xs ys → Keeps code ys zs → Keeps code xs zs
keeps_on code xs ys zs first second = λ bits levels. second bits levels ∙ first bits levels

pub spans_more : (sources : List Source) (code : ℕ) (spans : List Span) (s : Span) → AreSpans sources code spans → IsSpan sources (code + length spans) s → AreSpans sources code (spans ++ s ∷ [])
spans_more sources code [] s are is = let here : code + 0 ≡ code = omega arith in (subst (λ n. IsSpan sources n s) here is, tt)
spans_more sources code (x ∷ spans) s are is =
    let there : code + suc (length spans) ≡ code + 1 + length spans = omega arith in
    (are.0, spans_more sources (code + 1) spans s are.1 (subst (λ n. IsSpan sources n s) there is))

span_at : (sources : List Source) (code k : ℕ) (spans : List Span) (d : Span) → AreSpans sources code spans → k < length spans → IsSpan sources (code + k) (get_or spans k d)
span_at sources code k [] d are within = absurd (omega (arith, within))
span_at sources code zero (x ∷ spans) d are within =
    let here : code ≡ code + 0 = omega arith in
    subst (λ n. IsSpan sources n x) here are.0
span_at sources code (suc k) (x ∷ spans) d are within =
    let there : code + 1 + k ≡ code + suc k = omega arith in
    subst (λ n. IsSpan sources n (get_or spans k d)) there (span_at sources (code + 1) k spans d are.1 (omega (arith, within)))

pub span_of : (sources : List Source) (k : ℕ) (spans : List Span) (d : Span) → AreSpans sources 0 spans → k < length spans → IsSpan sources k (get_or spans k d)
span_of sources k spans d are within =
    let here : 0 + k ≡ k = omega arith in
    subst (λ n. IsSpan sources n (get_or spans k d)) here (span_at sources 0 k spans d are within)
