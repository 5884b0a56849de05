-- Where the lines beside the bus stay as they are, they tell nothing.
use Rattle.std.proofs.Common.{◌≡◌, ◌≤◌, ◌+◌, ◌-◌, ◌*◌, ◌/◌, ◌%◌, ◌&&◌, ◌||◌, ℕ, zero, suc, Bool, true, false, List, [], ◌∷◌, drop, Some, None, not, refl, ap, sym, ◌∙◌, subst, arith, cond}
use Rattle.std.specs.Prelude.{slice_get, slice_set, ◌<◌}
use Rattle.std.specs.Option.{unwrap_or}
use Rattle.onfi_cycle.specs.declared.item.Item.{Item}
use Rattle.onfi_cycle.specs.declared.item.Item.TheVariants.{Rdy, Ard}
use Rattle.vcd_text.specs.declared.tokens.Level.{Level}
use Rattle.vcd_text.specs.declared.tokens.Level.TheVariants.{Low, High, Unknown}
use Rattle.bus_signals.specs.declared.role.Role.{Role}
use Rattle.bus_signals.specs.declared.role.Role.TheVariants as role
use Rattle.bus_signals.specs.Roles.{place_of}
use Rattle.bus_capture.specs.declared.sampler.Observed.{Observed}
use Rattle.bus_capture.specs.declared.sampler.Sampler.{Sampler}
use Rattle.bus_capture.specs.Sampling.{level, rises, falls, is_low, is_high, strobe_rises, ready_of}
use Rattle.bus_capture.specs.Capturing.{with_item, with_release, with_releases, with_readies}
use Rattle.bus_capture.specs.Still.{IsStill}

get_behind : (n k j : ℕ) (xs : List Level) → j ≡ n + k → slice_get xs j ≡ slice_get (drop n xs) k
get_behind zero k j xs e = let same : j ≡ k = omega (arith, e) in ap (slice_get xs) same
get_behind (suc n) k j [] e = refl
get_behind (suc n) k zero (x ∷ xs) e = absurd (omega (arith, e))
get_behind (suc n) k (suc j) (x ∷ xs) e = get_behind n k j xs (omega (arith, e))

same_level : (before after : List Level) (r : Role) → 16 ≤ place_of r → drop 16 before ≡ drop 16 after → level before r ≡ level after r
same_level before after r beside still =
    let split : place_of r ≡ 16 + (place_of r - 16) = omega (arith, beside) in
    ap (λ o. unwrap_or o Unknown) (
    get_behind 16 (place_of r - 16) (place_of r) before split ∙ ap (λ xs. slice_get xs (place_of r - 16)) still ∙ sym (get_behind 16 (place_of r - 16) (place_of r) after split))

no_rise : (l : Level) → rises l l ≡ false
no_rise Low = refl
no_rise High = refl
no_rise Unknown = refl

no_fall : (l : Level) → falls l l ≡ false
no_fall Low = refl
no_fall High = refl
no_fall Unknown = refl

-- a line that stays as it is
falls_not : (was is : Level) → was ≡ is → falls was is ≡ false
falls_not was is same = subst (λ l. falls was l ≡ false) same (no_fall was)

pub rises_not : (was is : Level) → was ≡ is → rises was is ≡ false
rises_not was is same = subst (λ l. rises was l ≡ false) same (no_rise was)

none_falls : (low b c d : Bool) (x y : Item) → b ≡ false → c ≡ false → cond b (Some x) (cond (low && (c && d)) (Some y) None) ≡ None
none_falls true false false d x y h k = refl
none_falls true true c d x y h k = absurd cc
none_falls true false true d x y h k = absurd cc
none_falls false false c d x y h k = refl
none_falls false true c d x y h k = absurd cc

no_ready : (caches : Bool) (before after : List Level) (ce lun : ℕ) → drop 16 before ≡ drop 16 after → ready_of caches before after ce lun ≡ None
no_ready caches before after ce lun still =
    none_falls (caches || is_low (level before (role.Busy ce lun))) (falls (level before (role.Busy ce lun)) (level after (role.Busy ce lun)))
    (falls (level before (role.ArrayBusy ce lun)) (level after (role.ArrayBusy ce lun))) (not (strobe_rises before after)) (Rdy ce lun (record { last = is_high (level after (role.Failed ce lun)); before = false })) (Ard ce lun (is_high (level after (role.Failed ce lun))))
    (falls_not (level before (role.Busy ce lun)) (level after (role.Busy ce lun)) (same_level before after (role.Busy ce lun) (omega arith) still))
    (falls_not (level before (role.ArrayBusy ce lun)) (level after (role.ArrayBusy ce lun)) (same_level before after (role.ArrayBusy ce lun) (omega arith) still))

no_readies : (caches : Bool) (time : ℕ) (before after : List Level) (os : List Observed) (count n : ℕ) → drop 16 before ≡ drop 16 after → with_readies caches time before after os count n ≡ os
no_readies caches time before after os zero n still = refl
no_readies caches time before after os (suc count) n still =
    ap (λ o. with_readies caches time before after (with_item time o os) count (n + 1)) (no_ready caches before after (n / 4) (n % 4) still) ∙ no_readies caches time before after os count (n + 1) still

no_release : (time : ℕ) (before after : List Level) (os : List Observed) (n : ℕ) → drop 16 before ≡ drop 16 after → with_release time before after n os ≡ os
no_release time before after os n still =
    rw (rises_not (level before (role.ReadyBusy n)) (level after (role.ReadyBusy n)) (same_level before after (role.ReadyBusy n) (omega arith) still)) refl

no_releases : (time : ℕ) (before after : List Level) (os : List Observed) (count n : ℕ) → drop 16 before ≡ drop 16 after → with_releases time before after os count n ≡ os
no_releases time before after os zero n still = refl
no_releases time before after os (suc count) n still =
    ap (λ os. with_releases time before after os count (n + 1)) (no_release time before after os n still) ∙ no_releases time before after os count (n + 1) still

pub nothing_beside : (s : Sampler) (os : List Observed) → IsStill s
    → with_releases s.time s.before.of s.after.of (with_readies s.caches s.time s.before.of s.after.of os (4 * s.targets) 0) s.targets 0 ≡ os
nothing_beside s os still =
    ap (λ os. with_releases s.time s.before.of s.after.of os s.targets 0) (no_readies s.caches s.time s.before.of s.after.of os (4 * s.targets) 0 still)
    ∙ no_releases s.time s.before.of s.after.of os s.targets 0 still

-- a line of the bus itself
pub set_before : (n p : ℕ) (xs : List Level) (l : Level) → p < n → drop n (slice_set xs p l) ≡ drop n xs
set_before zero p xs l within = absurd (omega (arith, within))
set_before (suc n) p [] l within = refl
set_before (suc n) zero (x ∷ xs) l within = refl
set_before (suc n) (suc p) (x ∷ xs) l within = set_before n p xs l (omega (arith, within))
