-- Where each line of a bus stands, for each number of targets and LUNs.
use Rattle.std.proofs.Common.{◌≡◌, ℕ, zero, suc, ◌+◌, ◌-◌, ◌*◌, ◌/◌, ◌%◌, ◌<◌, ◌≤◌, ◌==◌, Bool, true, false, ◌&&◌, Option, Some, None, refl, sym, ap, ◌∙◌, arith}
use Rattle.std.specs.Prelude.{nat_lt}
use Rattle.std.proofs.lemmas.Bool.{eqb-true, eqb-false, and_parts, false≢true}
use Rattle.bus_signals.specs.declared.role.Role.{Role}
use Rattle.bus_signals.specs.declared.role.Role.TheVariants.{Enable, Busy, ArrayBusy, Failed}
use Rattle.bus_signals.specs.Roles.{place_of}
use Rattle.wave_laws.specs.Lines.{lines_of}
use Rattle.wave_laws.specs.Readies.{busy_code}
use Rattle.wave_laws.proofs.Levels.{line_count}
use Rattle.capture_laws.proofs.Placed.{code_at, is_absent, absent_is, are_apart}

-- ---- 1. tests below a number

abbrev pub all_below : (ℕ → Bool) → ℕ → Bool
all_below f zero = true
all_below f (suc n) = f n && all_below f n

pub below_at : (f : ℕ → Bool) (count n : ℕ) → all_below f count ≡ true → n < count → f n ≡ true
below_at f zero n h few = absurd (omega (arith, few))
below_at f (suc count) n h few = by (n == count) refl (below_at f count n (and_parts (f count) (all_below f count) h).1)
  where
    by : (b : Bool) → n == count ≡ b → (n < count → f n ≡ true) → f n ≡ true
    by true is go = ap f (eqb-true n count is) ∙ (and_parts (f count) (all_below f count) h).0
    by false is go = let other = eqb-false n count is in go (omega (arith, few, other))

-- of each number of targets, and each of LUNs
abbrev pub all_sizes : (ℕ → ℕ → Bool) → Bool
all_sizes f = all_below (λ t. all_below (λ l. f (t + 1) (l + 1)) 4) 4

pub size_at : (f : ℕ → ℕ → Bool) → all_sizes f ≡ true → (targets luns : ℕ) → 1 ≤ targets → targets ≤ 4 → 1 ≤ luns → luns ≤ 4 → f targets luns ≡ true
size_at f h targets luns some few some_luns few_luns =
    let row = below_at (λ t. all_below (λ l. f (t + 1) (l + 1)) 4) 4 (targets - 1) h (omega (arith, few, some)) in
    let one = below_at (λ l. f (targets - 1 + 1) (l + 1)) 4 (luns - 1) row (omega (arith, few_luns, some_luns)) in
    let t : targets - 1 + 1 ≡ targets = omega (arith, some) in
    let l : luns - 1 + 1 ≡ luns = omega (arith, some_luns) in
    ap (λ (n : ℕ). f n luns) (sym t) ∙ ap (λ (n : ℕ). f (targets - 1 + 1) n) (sym l) ∙ one

-- ---- 2. the lines

abbrev is_the : Option ℕ → ℕ → Bool
is_the None code = false
is_the (Some c) code = c == code

the_is : (o : Option ℕ) (code : ℕ) → is_the o code ≡ true → o ≡ Some code
the_is None code h = absurd (false≢true h)
the_is (Some c) code h = ap Some (eqb-true c code h)

-- there, or not
abbrev is_as : (there : Bool) → Option ℕ → ℕ → Bool
is_as true o code = is_the o code
is_as false o code = is_absent o

abbrev of_lun : (ℕ → ℕ → Role) → (part targets luns n : ℕ) → Bool
of_lun role part targets luns n = is_as (nat_lt (n % 4) luns) (code_at (lines_of targets luns) (place_of (role (n / 4) (n % 4)))) (busy_code luns targets (n / 4) (n % 4) + part)

lun_is : (there : Bool) (o : Option ℕ) (code : ℕ) → is_as there o code ≡ true → there ≡ true → o ≡ Some code
lun_is true o code h k = the_is o code h
lun_is false o code h k = absurd (false≢true k)

lun_isnt : (there : Bool) (o : Option ℕ) (code : ℕ) → is_as there o code ≡ true → there ≡ false → o ≡ None
lun_isnt true o code h k = absurd (false≢true (sym k))
lun_isnt false o code h k = absent_is o h

-- among so many
abbrev pub is_among : Option ℕ → ℕ → Bool
is_among None n = true
is_among (Some c) n = nat_lt (c - 33) n

-- where each line stands
pub record Fits (targets luns : ℕ) : Type 0 where
  pub apart : are_apart (lines_of targets luns) ≡ true
  pub among : (p : ℕ) → p < 68 → is_among (code_at (lines_of targets luns) p) (line_count targets luns) ≡ true
  pub enable : (n : ℕ) → n < targets → code_at (lines_of targets luns) (place_of (Enable n)) ≡ Some (33 + n)
  pub cle : code_at (lines_of targets luns) 4 ≡ Some (33 + targets)
  pub ale : code_at (lines_of targets luns) 5 ≡ Some (34 + targets)
  pub we : code_at (lines_of targets luns) 6 ≡ Some (35 + targets)
  pub re : code_at (lines_of targets luns) 7 ≡ Some (36 + targets)
  pub dq : (n : ℕ) → n < 8 → code_at (lines_of targets luns) (8 + n) ≡ Some (37 + targets + (7 - n))
  pub busy : (n : ℕ) → n < 4 * targets → nat_lt (n % 4) luns ≡ true → code_at (lines_of targets luns) (place_of (Busy (n / 4) (n % 4))) ≡ Some (busy_code luns targets (n / 4) (n % 4) + 0)
  pub array : (n : ℕ) → n < 4 * targets → nat_lt (n % 4) luns ≡ true → code_at (lines_of targets luns) (place_of (ArrayBusy (n / 4) (n % 4))) ≡ Some (busy_code luns targets (n / 4) (n % 4) + 1)
  pub failed : (n : ℕ) → n < 4 * targets → nat_lt (n % 4) luns ≡ true → code_at (lines_of targets luns) (place_of (Failed (n / 4) (n % 4))) ≡ Some (busy_code luns targets (n / 4) (n % 4) + 2)
  pub absent : (n : ℕ) → n < 4 * targets → nat_lt (n % 4) luns ≡ false → code_at (lines_of targets luns) (place_of (Busy (n / 4) (n % 4))) ≡ None
  pub no_array : (n : ℕ) → n < 4 * targets → nat_lt (n % 4) luns ≡ false → code_at (lines_of targets luns) (place_of (ArrayBusy (n / 4) (n % 4))) ≡ None

pub fits : (targets luns : ℕ) → 1 ≤ targets → targets ≤ 4 → 1 ≤ luns → luns ≤ 4 → Fits targets luns
fits targets luns some few some_luns few_luns =
    let at : (f : ℕ → ℕ → Bool) → all_sizes f ≡ true → f targets luns ≡ true = λ f h. size_at f h targets luns some few some_luns few_luns in
    let code : (place code : ℕ → ℕ) → all_sizes (λ t l. is_the (code_at (lines_of t l) (place t)) (code t)) ≡ true → code_at (lines_of targets luns) (place targets) ≡ Some (code targets) =
    λ place code h. the_is (code_at (lines_of targets luns) (place targets)) (code targets) (at (λ t l. is_the (code_at (lines_of t l) (place t)) (code t)) h) in
    let lun : (role : ℕ → ℕ → Role) (part : ℕ) → all_sizes (λ t l. all_below (of_lun role part t l) (4 * t)) ≡ true → (n : ℕ) → n < 4 * targets → of_lun role part targets luns n ≡ true =
    λ role part h n few. below_at (of_lun role part targets luns) (4 * targets) n (at (λ t l. all_below (of_lun role part t l) (4 * t)) h) few in
    let there : (role : ℕ → ℕ → Role) (part : ℕ) → all_sizes (λ t l. all_below (of_lun role part t l) (4 * t)) ≡ true → (n : ℕ) → n < 4 * targets → nat_lt (n % 4) luns ≡ true →
    code_at (lines_of targets luns) (place_of (role (n / 4) (n % 4))) ≡ Some (busy_code luns targets (n / 4) (n % 4) + part) =
    λ role part h n few k. lun_is (nat_lt (n % 4) luns) (code_at (lines_of targets luns) (place_of (role (n / 4) (n % 4)))) (busy_code luns targets (n / 4) (n % 4) + part) (lun role part h n few) k in
    record {
      apart = at (λ t l. are_apart (lines_of t l)) refl;
      among = λ p few. below_at (λ p. is_among (code_at (lines_of targets luns) p) (line_count targets luns)) 68 p (at (λ t l. all_below (λ p. is_among (code_at (lines_of t l) p) (line_count t l)) 68) refl) few;
      enable = λ n few. the_is (code_at (lines_of targets luns) (place_of (Enable n))) (33 + n)
          (below_at (λ n. is_the (code_at (lines_of targets luns) (place_of (Enable n))) (33 + n)) targets n (at (λ t l. all_below (λ n. is_the (code_at (lines_of t l) (place_of (Enable n))) (33 + n)) t) refl) few);
      cle = code (λ t. 4) (λ t. 33 + t) refl;
      ale = code (λ t. 5) (λ t. 34 + t) refl;
      we = code (λ t. 6) (λ t. 35 + t) refl;
      re = code (λ t. 7) (λ t. 36 + t) refl;
      dq = λ n few. the_is (code_at (lines_of targets luns) (8 + n)) (37 + targets + (7 - n))
          (below_at (λ n. is_the (code_at (lines_of targets luns) (8 + n)) (37 + targets + (7 - n))) 8 n (at (λ t l. all_below (λ n. is_the (code_at (lines_of t l) (8 + n)) (37 + t + (7 - n))) 8) refl) few);
      busy = there Busy 0 refl;
      array = there ArrayBusy 1 refl;
      failed = there Failed 2 refl;
      absent = λ n few k. lun_isnt (nat_lt (n % 4) luns) (code_at (lines_of targets luns) (place_of (Busy (n / 4) (n % 4)))) (busy_code luns targets (n / 4) (n % 4) + 0) (lun Busy 0 refl n few) k;
      no_array = λ n few k. lun_isnt (nat_lt (n % 4) luns) (code_at (lines_of targets luns) (place_of (ArrayBusy (n / 4) (n % 4)))) (busy_code luns targets (n / 4) (n % 4) + 1) (lun ArrayBusy 1 refl n few) k;
    }
