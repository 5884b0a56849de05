-- Where an operation is refused.
use Rattle.std.proofs.Common.{◌≡◌, ℕ, suc, ◌+◌, ◌-◌, ◌<◌, ◌≤◌, List, [], ◌∷◌, length, take, drop, get_or, refl, sym, ap, ◌∙◌, subst, arith}
use Rattle.onfi_cycle.specs.State.{BusView}
use Rattle.bus_record.specs.Operation.{part_after, part_code, parts_after, with_count}
use Rattle.bus_record.specs.declared.operation.OnfiseqPart.{OnfiseqPart}

-- a part that is refused, though none of its cycles is, has one at least
pub some_cycles : (ce : ℕ) (p : OnfiseqPart) (s : BusView) → (part_code ce p s ≡ 0 → ⊥) → part_code ce (with_count p 0) s ≡ 0 → 0 < p.count
some_cycles ce p s refused goes = at p.count (λ e. refused (subst (λ (n : ℕ). part_code ce (with_count p n) s ≡ 0) (sym e) goes))
  where
    at : (n : ℕ) → (n ≡ 0 → ⊥) → 0 < n
    at n some = omega (arith, some)

take_whole : {X : Type 0} (xs : List X) → take (length xs) xs ≡ xs
take_whole [] = refl
take_whole (x ∷ xs) = ap (λ ys. x ∷ ys) (take_whole xs)

-- one part more that goes
pub there_more : (ce : ℕ) (ps : List OnfiseqPart) (d : OnfiseqPart) (n : ℕ) (s middle t : BusView) → 1 ≤ length ps → middle ≡ part_after ce (get_or ps 0 d) s
    → t ≡ parts_after ce (take n (take (length ps - 1) (drop 1 ps))) middle → t ≡ parts_after ce (take (n + 1) ps) s
there_more ce [] d n s middle t some first is = absurd (omega (arith, some))
there_more ce (p ∷ ps) d n s middle t some first is =
    let less : length (p ∷ ps) - 1 ≡ length ps = omega arith in
    let rest : take (length (p ∷ ps) - 1) ps ≡ ps = ap (λ (m : ℕ). take m ps) less ∙ take_whole ps in
    let more : suc n ≡ n + 1 = omega arith in
    is
    ∙ (ap (λ (xs : List OnfiseqPart). parts_after ce (take n xs) middle) rest
    ∙ (ap (parts_after ce (take n ps)) first ∙ ap (λ (m : ℕ). parts_after ce (take m (p ∷ ps)) s) more))
