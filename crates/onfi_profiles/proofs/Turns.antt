-- What the LUNs of a target show in the base profile and in the wider one: the same, or a LUN is off there because another one was read.
use Rattle.std.proofs.Common.{◌≡◌, ℕ, zero, suc, cond, ◌+◌, ◌<◌, ◌==◌, ◌⊎◌, inl, inr, Bool, true, false, not, [], ◌∷◌, refl, sym, ap, ◌∙◌, arith, subst, eqb-true, eq-eqb}
use Rattle.onfi_cycle.proofs.Booleans.{by_case}
use Rattle.onfi_cycle.specs.declared.latch.Latch.{Latch}
use Rattle.onfi_cycle.specs.declared.latch.Latch.TheVariants.{Off, Status, Data}
use Rattle.onfi_cycle.specs.Effect.{is_off}
use Rattle.onfi_cycle.specs.Lun.{drivers_from}
use Rattle.onfi_cycle.proofs.Latches.{sole_off}

-- another LUN than this one is on, and shows the same in both
pub record Other (count : ℕ) (lb lw : ℕ → Latch) (m : ℕ) : Type 0 where
  pub k : ℕ
  pub low : k < count
  pub other : (k == m) ≡ false
  pub on : is_off (lb k) ≡ false
  pub same : lw k ≡ lb k

-- a LUN shows the same in both, or is off in the wider profile and not the only one that is on
pub data Shows (count : ℕ) (lb lw : ℕ → Latch) (m : ℕ) : Type 0 where
  alike : lw m ≡ lb m → Shows count lb lw m
  muted : lw m ≡ Off → Other count lb lw m → Shows count lb lw m

-- what an item leaves of them
pub data Turn (count : ℕ) (lb lw lb' lw' : ℕ → Latch) : Type 0 where
  kept : (f : Latch → Latch) → f Off ≡ Off → ((x : Latch) → is_off x ≡ false → is_off (f x) ≡ false) → ((m : ℕ) → m < count → lb' m ≡ f (lb m)) → ((m : ℕ) → m < count → lw' m ≡ f (lw m)) → Turn count lb lw lb' lw'
  chosen : ((m : ℕ) → m < count → lw' m ≡ lb' m) → Turn count lb lw lb' lw'
  reads : (j : ℕ) → j < count → is_off (lb' j) ≡ false → lw' j ≡ lb' j → ((m : ℕ) → m < count → (j == m) ≡ false → lb' m ≡ lb m) → ((m : ℕ) → m < count → (j == m) ≡ false → (lw' m ≡ lw m) ⊎ (lw' m ≡ Off)) → Turn count lb lw lb' lw'

pub shows_on : (count : ℕ) (lb lw lb' lw' : ℕ → Latch) → Turn count lb lw lb' lw' → ((m : ℕ) → m < count → Shows count lb lw m) → (m : ℕ) → m < count → Shows count lb' lw' m
shows_on count lb lw lb' lw' (kept f off on base wide) all m low = at (all m low)
  where
    at : Shows count lb lw m → Shows count lb' lw' m
    at (alike e) = alike (wide m low ∙ (ap f e ∙ sym (base m low)))
    at (muted e o) =
        muted (wide m low ∙ (ap f e ∙ off))
        (record { k = o.k; low = o.low; other = o.other; on = ap is_off (base o.k o.low) ∙ on (lb o.k) o.on; same = wide o.k o.low ∙ (ap f o.same ∙ sym (base o.k o.low)) })
shows_on count lb lw lb' lw' (chosen same) all m low = alike (same m low)
shows_on count lb lw lb' lw' (reads j inside on same base wide) all m low = by_case (j == m) here (λ ne. away ne (all m low) (wide m low ne))
  where
    here : (j == m) ≡ true → Shows count lb' lw' m
    here e = alike (subst (λ (k : ℕ). lw' k ≡ lb' k) (eqb-true j m e) same)

    one : (j == m) ≡ false → Other count lb' lw' m
    one ne = record { k = j; low = inside; other = ne; on = on; same = same }

    away : (j == m) ≡ false → Shows count lb lw m → (lw' m ≡ lw m) ⊎ (lw' m ≡ Off) → Shows count lb' lw' m
    away ne (alike e) (inl h) = alike (h ∙ (e ∙ sym (base m low ne)))
    away ne (alike e) (inr h) = muted h (one ne)
    away ne (muted e o) (inl h) = muted (h ∙ e) (one ne)
    away ne (muted e o) (inr h) = muted h (one ne)

off_is : (x : Latch) → is_off x ≡ true → x ≡ Off
off_is Off h = refl
off_is Status h = cc
off_is Data h = cc

-- where one LUN alone drives in the base profile all show the same
pub alike_by_sole : (count d : ℕ) (lb lw : ℕ → Latch) → ((m : ℕ) → m < count → Shows count lb lw m) → drivers_from lb count 0 ≡ d ∷ [] → (m : ℕ) → m < count → lw m ≡ lb m
alike_by_sole count d lb lw all sole m low = at (all m low)
  where
    apart : (k : ℕ) → (k == m) ≡ false → (d == k) ≡ true → not (d == m) ≡ true
    apart k ne e = at (d == m) refl
      where
        at : (b : Bool) → (d == m) ≡ b → not b ≡ true
        at true h = let one : (k == m) ≡ true = eq-eqb k m (sym (eqb-true d k e) ∙ eqb-true d m h) in cc
        at false h = refl

    is_one : (b : Bool) → not b ≡ false → b ≡ true
    is_one true h = refl
    is_one false h = cc

    at : Shows count lb lw m → lw m ≡ lb m
    at (alike e) = e
    at (muted e o) =
        let here : is_off (lb o.k) ≡ not (d == o.k) = sole_off lb count 0 d o.k sole (omega arith) (omega (arith, o.low)) in
        let its : (d == o.k) ≡ true = is_one (d == o.k) (sym here ∙ o.on) in
        let off : is_off (lb m) ≡ true = sole_off lb count 0 d m sole (omega arith) (omega (arith, low)) ∙ apart o.k o.other its in
        e ∙ sym (off_is (lb m) off)

-- the same drivers, where all show the same
pub drivers_same : (lb lw : ℕ → Latch) (count n : ℕ) → ((m : ℕ) → m < n + count → lw m ≡ lb m) → drivers_from lw count n ≡ drivers_from lb count n
drivers_same lb lw zero n same = refl
drivers_same lb lw (suc count) n same =
    let rest = drivers_same lb lw count (n + 1) (λ m low. same m (omega (arith, low))) in
    let first : lw n ≡ lb n = same n (omega arith) in
    λ i. cond (is_off (first i)) (rest i) (n ∷ rest i)
