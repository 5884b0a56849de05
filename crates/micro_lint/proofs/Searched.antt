-- The search for the least of one number: each question narrows it.
use Rattle.std.proofs.Common.{◌≡◌, ℕ, ◌+◌, ◌<◌, ◌≤◌, ◌⊎◌, inl, inr, Bool, true, false, List, refl, sym, ◌∙◌, subst, arith}
use Rattle.std.proofs.lemmas.Bool.{cases_lt}
use Rattle.nand_geometry.specs.declared.parts.Parts.{Parts}
use Rattle.micro_word.specs.declared.word.Word.{Word}
use Rattle.micro_walk.specs.Faults.{has_loop}
use Rattle.micro_explain.specs.declared.header_number.HeaderNumber.{HeaderNumber}
use Rattle.micro_explain.specs.declared.header_number.HeaderNumber.TheVariants.{Rows, Buffer, Budget}
use Rattle.micro_lint.specs.declared.header.Header.{Header}
use Rattle.micro_lint.specs.Least.{IsEnough, IsEnoughIf, IsLeast, IsBetween, IsLeastNumber, largest, largest_but, least_of, most_of}
use Rattle.micro_lint.proofs.Enough.{more_is_enough, numbers_meet}

-- beside the largest others more of a number is enough, as far as it goes
number_more : (g : Parts) (words : List Word) → has_loop words ≡ false → (number : HeaderNumber) (m n : ℕ) → m ≤ n → n ≤ most_of number → IsEnough g words (largest_but number m) → IsEnough g words (largest_but number n)
number_more g words never Rows m n le most e = more_is_enough g words never (largest_but Rows m) (largest_but Rows n) le most (omega arith) (omega arith) (omega arith) (omega arith) e
number_more g words never Buffer m n le most e = more_is_enough g words never (largest_but Buffer m) (largest_but Buffer n) (omega arith) (omega arith) le most (omega arith) (omega arith) e
number_more g words never Budget m n le most e = more_is_enough g words never (largest_but Budget m) (largest_but Budget n) (omega arith) (omega arith) (omega arith) (omega arith) le (omega arith) e

-- the search begins
pub begins : (g : Parts) (words : List Word) (number : HeaderNumber) → IsEnough g words largest → IsBetween g words number (least_of number) (most_of number)
begins g words Rows e = record { enough = e; short = λ n less x. let some = x.some_rows in omega arith }
begins g words Buffer e = record { enough = e; short = λ n less x. omega arith }
begins g words Budget e = record { enough = e; short = λ n less x. omega arith }

-- a number that is enough
pub narrowed_down : (g : Parts) (words : List Word) (number : HeaderNumber) (low high n : ℕ) → IsEnough g words (largest_but number n) → IsBetween g words number low high → IsBetween g words number low n
narrowed_down g words number low high n e b = record { enough = e; short = b.short }

-- most of any number that is enough
high_fits : (g : Parts) (words : List Word) (number : HeaderNumber) (n : ℕ) → IsEnough g words (largest_but number n) → n ≤ most_of number
high_fits g words Rows n e = e.rows
high_fits g words Buffer n e = e.buffer
high_fits g words Budget n e = let less = e.budget in omega arith

-- one that isn't
pub narrowed_up : (g : Parts) (words : List Word) → has_loop words ≡ false → (number : HeaderNumber) (low high n : ℕ) → n < high → (IsEnough g words (largest_but number n) → ⊥) → IsBetween g words number low high → IsBetween g words number (n + 1) high
narrowed_up g words never number low high n below not b =
    let fits = high_fits g words number high b.enough in
    record { enough = b.enough; short = λ k less x. not (number_more g words never number k n (omega arith) (omega arith) x) }

-- a number of a header that is enough isn't below the least
not_below : (g : Parts) (words : List Word) (number : HeaderNumber) (least n : ℕ) → IsLeastNumber g words number least → IsEnough g words (largest_but number n) → least ≤ n
not_below g words number least n l e = by (cases_lt n least)
  where
    by : (n < least) ⊎ (least ≤ n) → least ≤ n
    by (inl less) = absurd (l.short n less e)
    by (inr le) = le

-- each number of it is enough beside the largest others
rows_alone : (g : Parts) (words : List Word) → has_loop words ≡ false → (h : Header) → IsEnough g words h → IsEnough g words (largest_but Rows h.rows)
rows_alone g words never h e = let budget = e.budget in more_is_enough g words never h (largest_but Rows h.rows) (omega arith) e.rows e.buffer (omega arith) (omega arith) (omega arith) e

buffer_alone : (g : Parts) (words : List Word) → has_loop words ≡ false → (h : Header) → IsEnough g words h → IsEnough g words (largest_but Buffer h.buffer)
buffer_alone g words never h e = let budget = e.budget in more_is_enough g words never h (largest_but Buffer h.buffer) e.rows (omega arith) (omega arith) e.buffer (omega arith) (omega arith) e

budget_alone : (g : Parts) (words : List Word) → has_loop words ≡ false → (h : Header) → IsEnough g words h → IsEnough g words (largest_but Budget h.budget)
budget_alone g words never h e = more_is_enough g words never h (largest_but Budget h.budget) e.rows (omega arith) e.buffer (omega arith) (omega arith) e.budget e

-- the three least numbers are the least header
pub least_header_is : (g : Parts) (words : List Word) → has_loop words ≡ false → (h : Header) → IsLeastNumber g words Rows h.rows → IsLeastNumber g words Buffer h.buffer → IsLeastNumber g words Budget h.budget → IsLeast g words h
least_header_is g words never h x y z =
    record {
      enough = numbers_meet g words never h x.enough y.enough z.enough;
      rows = λ k e. not_below g words Rows h.rows k.rows x (rows_alone g words never k e);
      buffer = λ k e. not_below g words Buffer h.buffer k.buffer y (buffer_alone g words never k e);
      budget = λ k e. not_below g words Budget h.budget k.budget z (budget_alone g words never k e);
    }

-- where the largest header isn't enough, none is
pub none_is_enough : (g : Parts) (words : List Word) → has_loop words ≡ false → (IsEnough g words largest → ⊥) → (h : Header) → IsEnough g words h → ⊥
none_is_enough g words never not h e = let budget = e.budget in not (more_is_enough g words never h largest e.rows (omega arith) e.buffer (omega arith) (omega arith) (omega arith) e)

-- what an answer says of numbers that are these
pub short_of : (b : Bool) (g : Parts) (words : List Word) (h k : Header) → b ≡ false → h ≡ k → IsEnoughIf b g words h → IsEnough g words k → ⊥
short_of false g words h k is same x y = x (subst (IsEnough g words) (sym same) y)
short_of true g words h k is same x y = cc

-- three steps of the search
pub three_steps : (g : Parts) (w w1 w2 : List Word) (number : HeaderNumber) (l h l1 h1 l2 h2 l3 h3 : ℕ) → w1 ≡ w → w2 ≡ w1 → l ≡ least_of number → h ≡ most_of number → l3 ≡ h3
    → (has_loop w ≡ false → IsBetween g w number l h → IsBetween g w number l1 h1) → (has_loop w1 ≡ false → IsBetween g w1 number l1 h1 → IsBetween g w1 number l2 h2)
    → (has_loop w2 ≡ false → IsBetween g w2 number l2 h2 → IsBetween g w2 number l3 h3) → has_loop w ≡ false → IsEnough g w largest → IsLeastNumber g w number h3
three_steps g w w1 w2 number l h l1 h1 l2 h2 l3 h3 e1 e2 low high end first second third never e =
    let begun = subst (λ (k : ℕ). IsBetween g w number k h) (sym low) (subst (λ (k : ℕ). IsBetween g w number (least_of number) k) (sym high) (begins g w number e)) in
    let two = subst (λ (x : List Word). has_loop x ≡ false → IsBetween g x number l1 h1 → IsBetween g x number l2 h2) e1 second in
    let three = subst (λ (x : List Word). has_loop x ≡ false → IsBetween g x number l2 h2 → IsBetween g x number l3 h3) (e2 ∙ e1) third in
    subst (λ (k : ℕ). IsBetween g w number k h3) end (three never (two never (first never begun)))

-- the three numbers, found one after another
pub three_numbers : (g : Parts) (w w0 w1 w2 w3 : List Word) (h : Header) (enough : Bool) → w0 ≡ w → w1 ≡ w0 → w2 ≡ w1 → w3 ≡ w2 → enough ≡ true → (has_loop w0 ≡ false → IsEnoughIf enough g w0 largest)
    → (has_loop w1 ≡ false → IsEnough g w1 largest → IsLeastNumber g w1 Rows h.rows) → (has_loop w2 ≡ false → IsEnough g w2 largest → IsLeastNumber g w2 Buffer h.buffer)
    → (has_loop w3 ≡ false → IsEnough g w3 largest → IsLeastNumber g w3 Budget h.budget) → has_loop w ≡ false → IsLeast g w h
three_numbers g w w0 w1 w2 w3 h enough e0 e1 e2 e3 is some rows buffer budget never =
    let e : IsEnough g w largest = subst (λ (x : List Word). has_loop x ≡ false → IsEnough g x largest) e0 (subst (λ (b : Bool). has_loop w0 ≡ false → IsEnoughIf b g w0 largest) is some) never in
    let x = subst (λ (x : List Word). has_loop x ≡ false → IsEnough g x largest → IsLeastNumber g x Rows h.rows) (e1 ∙ e0) rows in
    let y = subst (λ (x : List Word). has_loop x ≡ false → IsEnough g x largest → IsLeastNumber g x Buffer h.buffer) (e2 ∙ (e1 ∙ e0)) buffer in
    let z = subst (λ (x : List Word). has_loop x ≡ false → IsEnough g x largest → IsLeastNumber g x Budget h.budget) (e3 ∙ (e2 ∙ (e1 ∙ e0))) budget in
    least_header_is g w never h (x never e) (y never e) (z never e)

-- none is enough where the largest isn't
pub none_of : (g : Parts) (w w0 : List Word) (enough : Bool) → w0 ≡ w → enough ≡ false → (has_loop w0 ≡ false → IsEnoughIf enough g w0 largest) → has_loop w ≡ false → (h : Header) → IsEnough g w h → ⊥
none_of g w w0 enough e0 is none never h e =
    let no = subst (λ (x : List Word). has_loop x ≡ false → IsEnoughIf enough g x largest) e0 none in
    none_is_enough g w never (short_of enough g w largest largest is refl (no never)) h e
