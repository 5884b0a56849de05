-- A run of data cycles is judged and applied at once: the state that it leaves, and what is against it, hang on its length alone.
use Rattle.std.proofs.Common.{◌≡◌, ℕ, zero, suc, ◌+◌, ◌<◌, ◌≤◌, Bool, true, false, cond, List, [], ◌∷◌, Option, Some, None, refl, sym, ap, ◌∙◌, subst, arith, length, get_or, set}
use Rattle.std.specs.List.{slice_get}
use Rattle.nand_geometry.specs.declared.parts.Parts.{Parts}
use Rattle.onfi_cycle.specs.declared.forbidden.Forbidden.{Forbidden}
use Rattle.onfi_cycle.specs.declared.forbidden.Forbidden.TheVariants.{ColumnOutside}
use Rattle.onfi_cycle.specs.declared.item.Item.{Item}
use Rattle.onfi_cycle.specs.declared.item.Kind.{Kind}
use Rattle.onfi_cycle.specs.Permitted.{broken}
use Rattle.onfi_cycle.specs.Channel.{cycle}
use Rattle.onfi_cycle.specs.Bounds.{BusFits}
use Rattle.onfi_cycle.specs.State.{TargetView, BusView, Follows, judged, judged_on, changed_at, bus_after, bus}
use Rattle.onfi_cycle.specs.Runs.{with_run, first_rule, broken_run, judged_run, after_run}
use Rattle.onfi_cycle.proofs.Following.{bus_goes_on, judged_is_broken}

-- 1. one target changed

pub changed_found : (f : TargetView → TargetView) (ts : List TargetView) (k : ℕ) (t : TargetView) → slice_get ts k ≡ Some t → slice_get (changed_at f k ts) k ≡ Some (f t)
changed_found f [] k t h = cc
changed_found f (x ∷ ts) zero t h = let same : x ≡ t = cc in ap (λ (y : TargetView). Some (f y)) same
changed_found f (x ∷ ts) (suc k) t h = changed_found f ts k t h

pub changed_length : (f : TargetView → TargetView) (ts : List TargetView) (k : ℕ) → length (changed_at f k ts) ≡ length ts
changed_length f [] k = refl
changed_length f (x ∷ ts) zero = refl
changed_length f (x ∷ ts) (suc k) = ap suc (changed_length f ts k)

pub changed_same : (f h : TargetView → TargetView) (ts : List TargetView) (k : ℕ) → ((t : TargetView) → slice_get ts k ≡ Some t → f t ≡ h t) → changed_at f k ts ≡ changed_at h k ts
changed_same f h [] k same = refl
changed_same f h (x ∷ ts) zero same = ap (λ (y : TargetView). y ∷ ts) (same x refl)
changed_same f h (x ∷ ts) (suc k) same = ap (λ (ys : List TargetView). x ∷ ys) (changed_same f h ts k same)

pub changed_twice : (f h m : TargetView → TargetView) (ts : List TargetView) (k : ℕ) → ((t : TargetView) → slice_get ts k ≡ Some t → h (f t) ≡ m t) → changed_at h k (changed_at f k ts) ≡ changed_at m k ts
changed_twice f h m [] k same = refl
changed_twice f h m (x ∷ ts) zero same = ap (λ (y : TargetView). y ∷ ts) (same x refl)
changed_twice f h m (x ∷ ts) (suc k) same = ap (λ (ys : List TargetView). x ∷ ys) (changed_twice f h m ts k same)

changed_set : (f : TargetView → TargetView) (ts : List TargetView) (k : ℕ) (d : TargetView) → set ts k (f (get_or ts k d)) ≡ changed_at f k ts
changed_set f [] k d = refl
changed_set f (x ∷ ts) zero d = refl
changed_set f (x ∷ ts) (suc k) d = ap (λ (ys : List TargetView). x ∷ ys) (changed_set f ts k d)

pub changed_got : (f : TargetView → TargetView) (ts : List TargetView) (k : ℕ) (d : TargetView) → k < length ts → get_or (changed_at f k ts) k d ≡ f (get_or ts k d)
changed_got f [] k d low = absurd (omega (arith, low))
changed_got f (x ∷ ts) zero d low = refl
changed_got f (x ∷ ts) (suc k) d low = let less : k < length ts = omega (arith, low) in changed_got f ts k d less

-- a permitted cycle has its target there
pub found_some : (s : BusView) (ce byte : ℕ) (kind : Kind) → judged s (cycle ce kind byte) ≡ None → (t : TargetView) × (slice_get s.targets ce ≡ Some t)
found_some s ce byte kind h = at (slice_get s.targets ce) refl h
  where
    at : (o : Option TargetView) → slice_get s.targets ce ≡ o → judged_on s.geometry (length s.targets) o (cycle ce kind byte) ≡ None → (t : TargetView) × (slice_get s.targets ce ≡ Some t)
    at None e h = cc
    at (Some t) e h = (t, e)

-- 2. a run by its length

-- a run goes through states that hang on its length, and is refused once that is over a bound
pub record GoesBy (kind : Kind) (ce : ℕ) (at : ℕ → BusView) (over : ℕ → Bool) : Type 0 where
  pub moves : (m : ℕ) → bus_after (cycle ce kind 0) (at m) ≡ at (m + 1)
  pub judges : (m : ℕ) → judged (at m) (cycle ce kind 0) ≡ cond (over (m + 1)) (Some ColumnOutside) None
  pub grows : (j k : ℕ) → j ≤ k → over j ≡ true → over k ≡ true

after_more : (kind : Kind) (ce : ℕ) (at : ℕ → BusView) (over : ℕ → Bool) → GoesBy kind ce at over → (k m : ℕ) → after_run kind ce k (at m) ≡ at (m + k)
after_more kind ce at over goes zero m = let same : m ≡ m + 0 = omega arith in ap at same
after_more kind ce at over goes (suc k) m =
    let same : m + 1 + k ≡ m + suc k = omega arith in
    ap (after_run kind ce k) (goes.moves m) ∙ (after_more kind ce at over goes k (m + 1) ∙ ap at same)

judged_more : (kind : Kind) (ce : ℕ) (at : ℕ → BusView) (over : ℕ → Bool) → GoesBy kind ce at over → (k m : ℕ) → over m ≡ false → judged_run kind ce k (at m) ≡ cond (over (m + k)) (Some ColumnOutside) None
judged_more kind ce at over goes zero m h =
    let same : m ≡ m + 0 = omega arith in
    ap (λ (b : Bool). cond b (Some ColumnOutside) None) (sym (ap over (sym same) ∙ h))
judged_more kind ce at over goes (suc k) m h = by (over (m + 1)) refl (judged_more kind ce at over goes k (m + 1))
  where
    first : judged_run kind ce (suc k) (at m) ≡ first_rule (cond (over (m + 1)) (Some ColumnOutside) None) (judged_run kind ce k (at (m + 1)))
    first =
        ap (λ (o : Option Forbidden). first_rule o (judged_run kind ce k (bus_after (cycle ce kind 0) (at m)))) (goes.judges m) ∙
        ap (λ (x : BusView). first_rule (cond (over (m + 1)) (Some ColumnOutside) None) (judged_run kind ce k x)) (goes.moves m)

    by : (b : Bool) → over (m + 1) ≡ b → (over (m + 1) ≡ false → judged_run kind ce k (at (m + 1)) ≡ cond (over (m + 1 + k)) (Some ColumnOutside) None) → judged_run kind ce (suc k) (at m) ≡ cond (over (m + suc k)) (Some ColumnOutside) None
    by true e ih =
        let less : m + 1 ≤ m + suc k = omega arith in
        first ∙
        (ap (λ (b : Bool). first_rule (cond b (Some ColumnOutside) None) (judged_run kind ce k (at (m + 1)))) e ∙
        ap (λ (b : Bool). cond b (Some ColumnOutside) None) (sym (goes.grows (m + 1) (m + suc k) less e)))
    by false e ih =
        let same : m + 1 + k ≡ m + suc k = omega arith in
        first ∙
        (ap (λ (b : Bool). first_rule (cond b (Some ColumnOutside) None) (judged_run kind ce k (at (m + 1)))) e ∙
        (ih e ∙ ap (λ (n : ℕ). cond (over n) (Some ColumnOutside) None) same))

-- a permitted cycle begins such a run
pub record Begins (kind : Kind) (ce : ℕ) (at : ℕ → BusView) (over : ℕ → Bool) (s : BusView) : Type 0 where
  pub goes : GoesBy kind ce at over
  pub permitted : judged s (cycle ce kind 0) ≡ None
  pub first : bus_after (cycle ce kind 0) s ≡ at 1
  pub room : over 1 ≡ false

pub after_begun : (kind : Kind) (ce : ℕ) (at : ℕ → BusView) (over : ℕ → Bool) (s : BusView) → Begins kind ce at over s → (count : ℕ) → 0 < count → after_run kind ce count s ≡ at count
after_begun kind ce at over s begins zero some = absurd (omega (arith, some))
after_begun kind ce at over s begins (suc k) some =
    let same : 1 + k ≡ suc k = omega arith in
    ap (after_run kind ce k) begins.first ∙ (after_more kind ce at over begins.goes k 1 ∙ ap at same)

pub judged_begun : (kind : Kind) (ce : ℕ) (at : ℕ → BusView) (over : ℕ → Bool) (s : BusView) → Begins kind ce at over s → (count : ℕ) → 0 < count → judged_run kind ce count s ≡ cond (over count) (Some ColumnOutside) None
judged_begun kind ce at over s begins zero some = absurd (omega (arith, some))
judged_begun kind ce at over s begins (suc k) some =
    let same : 1 + k ≡ suc k = omega arith in
    ap (λ (o : Option Forbidden). first_rule o (judged_run kind ce k (bus_after (cycle ce kind 0) s))) begins.permitted ∙
    (ap (judged_run kind ce k) begins.first ∙
    (judged_more kind ce at over begins.goes k 1 begins.room ∙ ap (λ (n : ℕ). cond (over n) (Some ColumnOutside) None) same))

-- a run whose first cycle is forbidden
pub judged_first : (kind : Kind) (s : BusView) (ce count : ℕ) (rule : Forbidden) → 0 < count → Some rule ≡ judged s (cycle ce kind 0) → Some rule ≡ judged_run kind ce count s
judged_first kind s ce zero rule some h = absurd (omega (arith, some))
judged_first kind s ce (suc k) rule some h = ap (λ (o : Option Forbidden). first_rule o (judged_run kind ce k (bus_after (cycle ce kind 0) s))) h

-- 3. a permitted run, cycle by cycle

-- the first is permitted, and then the rest
pub record Splits (kind : Kind) (ce count : ℕ) (s : BusView) : Type 0 where
  pub first : judged s (cycle ce kind 0) ≡ None
  pub rest : judged_run kind ce count (bus_after (cycle ce kind 0) s) ≡ None

pub splits : (kind : Kind) (ce count : ℕ) (s : BusView) → judged_run kind ce (suc count) s ≡ None → Splits kind ce count s
splits kind ce count s h = at (judged s (cycle ce kind 0)) refl h
  where
    at : (o : Option Forbidden) → judged s (cycle ce kind 0) ≡ o → first_rule o (judged_run kind ce count (bus_after (cycle ce kind 0) s)) ≡ None → Splits kind ce count s
    at None e h = record { first = e; rest = h }
    at (Some rule) e h = cc

pub first_permitted : (kind : Kind) (s : BusView) (ce count : ℕ) → 0 < count → judged_run kind ce count s ≡ None → judged s (cycle ce kind 0) ≡ None
first_permitted kind s ce zero some h = absurd (omega (arith, some))
first_permitted kind s ce (suc k) some h = (splits kind ce k s h).first

-- a state sees no byte of this kind, and fits after a permitted cycle of it
pub record IsData (kind : Kind) : Type 0 where
  pub any_byte : (s : BusView) (ce a b : ℕ) → judged s (cycle ce kind a) ≡ judged s (cycle ce kind b)
  pub after_any : (s : BusView) (ce a b : ℕ) → bus_after (cycle ce kind a) s ≡ bus_after (cycle ce kind b) s
  pub fits : (s : BusView) (ce : ℕ) → judged s (cycle ce kind 0) ≡ None → BusFits s → BusFits (bus_after (cycle ce kind 0) s)

pub run_fits : (kind : Kind) → IsData kind → (ce count : ℕ) (s : BusView) → judged_run kind ce count s ≡ None → BusFits s → BusFits (after_run kind ce count s)
run_fits kind d ce zero s h f = f
run_fits kind d ce (suc k) s h f =
    let parts = splits kind ce k s h in
    run_fits kind d ce k (bus_after (cycle ce kind 0) s) parts.rest (d.fits s ce parts.first f)

pub cycle_judged : (kind : Kind) → IsData kind → (g : Parts) (n : ℕ) (s : BusView) (past : List Item) (ce byte : ℕ) → Follows g n s past → judged s (cycle ce kind 0) ≡ broken g n past (cycle ce kind byte)
cycle_judged kind d g n s past ce byte f = d.any_byte s ce 0 byte ∙ judged_is_broken g n s past (cycle ce kind byte) f

pub cycle_followed : (kind : Kind) → IsData kind → (g : Parts) (n : ℕ) (s : BusView) (past : List Item) (ce byte : ℕ) → judged s (cycle ce kind 0) ≡ None → Follows g n s past → Follows g n (bus_after (cycle ce kind 0) s) (cycle ce kind byte ∷ past)
cycle_followed kind d g n s past ce byte h f =
    subst (λ (x : BusView). Follows g n x (cycle ce kind byte ∷ past)) (d.after_any s ce byte 0)
    (bus_goes_on g n s past (cycle ce kind byte) (d.any_byte s ce byte 0 ∙ h) f)

pub run_judged : (kind : Kind) → IsData kind → (g : Parts) (n ce : ℕ) (bytes : List ℕ) (s : BusView) (past : List Item) → Follows g n s past → judged_run kind ce (length bytes) s ≡ broken_run g n kind ce bytes past
run_judged kind d g n ce [] s past f = refl
run_judged kind d g n ce (byte ∷ bytes) s past f =
    at (judged s (cycle ce kind 0)) refl (run_judged kind d g n ce bytes (bus_after (cycle ce kind 0) s) (cycle ce kind byte ∷ past)) ∙
    ap (λ (o : Option Forbidden). first_rule o (broken_run g n kind ce bytes (cycle ce kind byte ∷ past))) (cycle_judged kind d g n s past ce byte f)
  where
    at : (o : Option Forbidden) → judged s (cycle ce kind 0) ≡ o → (Follows g n (bus_after (cycle ce kind 0) s) (cycle ce kind byte ∷ past) → judged_run kind ce (length bytes) (bus_after (cycle ce kind 0) s) ≡ broken_run g n kind ce bytes (cycle ce kind byte ∷ past)) → first_rule o (judged_run kind ce (length bytes) (bus_after (cycle ce kind 0) s)) ≡ first_rule o (broken_run g n kind ce bytes (cycle ce kind byte ∷ past))
    at None e ih = ih (cycle_followed kind d g n s past ce byte e f)
    at (Some rule) e ih = refl

pub run_followed : (kind : Kind) → IsData kind → (g : Parts) (n ce : ℕ) (bytes : List ℕ) (s : BusView) (past : List Item) → judged_run kind ce (length bytes) s ≡ None → Follows g n s past → Follows g n (after_run kind ce (length bytes) s) (with_run kind ce bytes past)
run_followed kind d g n ce [] s past h f = f
run_followed kind d g n ce (byte ∷ bytes) s past h f =
    let parts = splits kind ce (length bytes) s h in
    run_followed kind d g n ce bytes (bus_after (cycle ce kind 0) s) (cycle ce kind byte ∷ past) parts.rest (cycle_followed kind d g n s past ce byte parts.first f)

-- 4. as the code does it, by a place in a list

-- a run leaves its target changed by its length
pub run_applied : (kind : Kind) (g : Parts) (ts : List TargetView) (ce k count : ℕ) (d u : TargetView) (f : TargetView → TargetView) → k ≡ ce → after_run kind ce count (bus g ts) ≡ bus g (changed_at f ce ts) → u ≡ f (get_or ts k d) → bus g (set ts k u) ≡ after_run kind ce count (bus g ts)
run_applied kind g ts ce k count d u f place after is =
    ap (λ (x : TargetView). bus g (set ts k x)) is ∙
    (ap (bus g) (changed_set f ts k d ∙ ap (λ (n : ℕ). changed_at f n ts) place) ∙ sym after)
