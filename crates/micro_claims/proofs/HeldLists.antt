-- Pages of one plane in a list of pages: what a cut, and a page read beside them, leave of them.
use Rattle.std.specs.List.{list_any}
use Rattle.std.proofs.Common.{◌≡◌, ℕ, zero, suc, ◌%◌, ◌≤◌, ◌==◌, Bool, true, false, ◌||◌, cond, not, List, [], ◌∷◌, ◌++◌, Option, Some, refl, sym, ap, ◌∙◌, arith, eqb-true, eq-eqb, length, take}
use Rattle.std.proofs.lemmas.Bool.{or_left, or_right}
use Rattle.onfi_cycle.specs.declared.page_address.PageAddress.{PageAddress}
use Rattle.onfi_cycle.specs.Lun.{page_in_plane, of_other_planes}

-- where a LUN has so many planes, a page of this one is among these
abbrev pub has_page : (count plane : ℕ) → List PageAddress → Bool
has_page count plane pages = list_any (λ q. q.block % count == plane) pages

-- 1. cut

pub cut_of_cut : (k m : ℕ) (pages : List PageAddress) → k ≤ m → take k (take m pages) ≡ take k pages
cut_of_cut zero m pages h = refl
cut_of_cut (suc k) zero pages h = absurd (omega (arith, h))
cut_of_cut (suc k) (suc m) [] h = refl
cut_of_cut (suc k) (suc m) (p ∷ pages) h = ap (λ (l : List PageAddress). p ∷ l) (cut_of_cut k m pages (omega (arith, h)))

-- among more of them too
pub among_more : (count n k m : ℕ) (pages : List PageAddress) → k ≤ m → has_page count n (take k pages) ≡ true → has_page count n (take m pages) ≡ true
among_more count n zero m pages l h = cc
among_more count n (suc k) zero pages l h = absurd (omega (arith, l))
among_more count n (suc k) (suc m) [] l h = cc
among_more count n (suc k) (suc m) (p ∷ pages) l h = at (p.block % count == n) h (among_more count n k m pages (omega (arith, l)))
  where
    at : (b : Bool) → (b || has_page count n (take k pages)) ≡ true → (has_page count n (take k pages) ≡ true → has_page count n (take m pages) ≡ true) → (b || has_page count n (take m pages)) ≡ true
    at true h rest = refl
    at false h rest = rest h

pub among_all : (count n k : ℕ) (pages : List PageAddress) → has_page count n (take k pages) ≡ true → has_page count n pages ≡ true
among_all count n zero pages h = cc
among_all count n (suc k) [] h = cc
among_all count n (suc k) (p ∷ pages) h = at (p.block % count == n) h (among_all count n k pages)
  where
    at : (b : Bool) → (b || has_page count n (take k pages)) ≡ true → (has_page count n (take k pages) ≡ true → has_page count n pages ≡ true) → (b || has_page count n pages) ≡ true
    at true h rest = refl
    at false h rest = rest h

-- one that is among the first is found there
pub found_first : (count n k : ℕ) (pages : List PageAddress) → has_page count n (take k pages) ≡ true → page_in_plane count n (take k pages) ≡ page_in_plane count n pages
found_first count n zero pages h = cc
found_first count n (suc k) [] h = cc
found_first count n (suc k) (p ∷ pages) h = at (p.block % count == n) h (found_first count n k pages)
  where
    at : (b : Bool) → (b || has_page count n (take k pages)) ≡ true → (has_page count n (take k pages) ≡ true → page_in_plane count n (take k pages) ≡ page_in_plane count n pages)
        → cond b (Some p) (page_in_plane count n (take k pages)) ≡ cond b (Some p) (page_in_plane count n pages)
    at true h rest = refl
    at false h rest = rest h

-- 2. in front of others

pub in_front : (count n k : ℕ) (pages more : List PageAddress) → length pages ≤ k → has_page count n pages ≡ true → has_page count n (take k (pages ++ more)) ≡ true
in_front count n k [] more l h = cc
in_front count n zero (p ∷ pages) more l h = absurd (omega (arith, l))
in_front count n (suc k) (p ∷ pages) more l h = at (p.block % count == n) h (in_front count n k pages more (omega (arith, l)))
  where
    at : (b : Bool) → (b || has_page count n pages) ≡ true → (has_page count n pages ≡ true → has_page count n (take k (pages ++ more)) ≡ true) → (b || has_page count n (take k (pages ++ more))) ≡ true
    at true h rest = refl
    at false h rest = rest h

pub found_in_front : (count n k : ℕ) (pages more : List PageAddress) → length pages ≤ k → has_page count n pages ≡ true → page_in_plane count n (take k (pages ++ more)) ≡ page_in_plane count n pages
found_in_front count n k [] more l h = cc
found_in_front count n zero (p ∷ pages) more l h = absurd (omega (arith, l))
found_in_front count n (suc k) (p ∷ pages) more l h = at (p.block % count == n) h (found_in_front count n k pages more (omega (arith, l)))
  where
    at : (b : Bool) → (b || has_page count n pages) ≡ true → (has_page count n pages ≡ true → page_in_plane count n (take k (pages ++ more)) ≡ page_in_plane count n pages)
        → cond b (Some p) (page_in_plane count n (take k (pages ++ more))) ≡ cond b (Some p) (page_in_plane count n pages)
    at true h rest = refl
    at false h rest = rest h

-- 3. those of other planes than this page's

-- a page isn't of two planes
not_both : (count n : ℕ) (at p : PageAddress) → (n == at.block % count) ≡ false → (p.block % count == at.block % count) ≡ true → (p.block % count == n) ≡ true → ⊥
not_both count n at p other e f =
    let here = eqb-true (p.block % count) (at.block % count) e in
    let there = eqb-true (p.block % count) n f in
    let same : (n == at.block % count) ≡ true = eq-eqb n (at.block % count) (sym there ∙ here) in
    let clash : true ≡ false = sym same ∙ other in
    cc

pub others_keep : (count n k : ℕ) (at : PageAddress) (pages : List PageAddress) → (n == at.block % count) ≡ false → has_page count n (take k pages) ≡ true → has_page count n (take k (of_other_planes count at pages)) ≡ true
others_keep count n zero at pages other h = cc
others_keep count n (suc k) at [] other h = cc
others_keep count n (suc k) at (p ∷ pages) other h = by (p.block % count == at.block % count) refl (p.block % count == n) refl h (others_keep count n k at pages other)
  where
    by : (b : Bool) → (p.block % count == at.block % count) ≡ b → (c : Bool) → (p.block % count == n) ≡ c → (c || has_page count n (take k pages)) ≡ true
        → (has_page count n (take k pages) ≡ true → has_page count n (take k (of_other_planes count at pages)) ≡ true)
        → has_page count n (take (suc k) (cond (not b) (p ∷ of_other_planes count at pages) (of_other_planes count at pages))) ≡ true
    by true e true f h rest = absurd (not_both count n at p other e f)
    by true e false f h rest = among_more count n k (suc k) (of_other_planes count at pages) (omega arith) (rest h)
    by false e true f h rest = or_left (p.block % count == n) _ f
    by false e false f h rest = or_right (p.block % count == n) _ (rest h)

-- where a page of its plane was among the first, one less is enough
pub others_less : (count n k : ℕ) (at : PageAddress) (pages : List PageAddress) → (n == at.block % count) ≡ false → has_page count (at.block % count) (take (suc k) pages) ≡ true → has_page count n (take (suc k) pages) ≡ true → has_page count n (take k (of_other_planes count at pages)) ≡ true
others_less count n k at [] other own h = cc
others_less count n k at (p ∷ pages) other own h = by (p.block % count == at.block % count) refl (p.block % count == n) refl own h (λ m own h. others_less count n m at pages other own h)
  where
    by : (b : Bool) → (p.block % count == at.block % count) ≡ b → (c : Bool) → (p.block % count == n) ≡ c
        → (b || has_page count (at.block % count) (take k pages)) ≡ true → (c || has_page count n (take k pages)) ≡ true
        → ((m : ℕ) → has_page count (at.block % count) (take (suc m) pages) ≡ true → has_page count n (take (suc m) pages) ≡ true → has_page count n (take m (of_other_planes count at pages)) ≡ true)
        → has_page count n (take k (cond (not b) (p ∷ of_other_planes count at pages) (of_other_planes count at pages))) ≡ true
    by true e true f own h less = absurd (not_both count n at p other e f)
    by true e false f own h less = others_keep count n k at pages other h
    by false e c f own h less = rest k own h less
      where
        rest : (k : ℕ) → has_page count (at.block % count) (take k pages) ≡ true → (c || has_page count n (take k pages)) ≡ true
            → ((m : ℕ) → has_page count (at.block % count) (take (suc m) pages) ≡ true → has_page count n (take (suc m) pages) ≡ true → has_page count n (take m (of_other_planes count at pages)) ≡ true)
            → has_page count n (take k (p ∷ of_other_planes count at pages)) ≡ true
        rest zero own h more = cc
        rest (suc m) own h more = either c f h
          where
            either : (c : Bool) → (p.block % count == n) ≡ c → (c || has_page count n (take (suc m) pages)) ≡ true → ((p.block % count == n) || has_page count n (take m (of_other_planes count at pages))) ≡ true
            either true f h = or_left (p.block % count == n) _ f
            either false f h = or_right (p.block % count == n) _ (more m own h)

pub found_among_others : (count n : ℕ) (at : PageAddress) (pages : List PageAddress) → (n == at.block % count) ≡ false → page_in_plane count n (of_other_planes count at pages) ≡ page_in_plane count n pages
found_among_others count n at [] other = refl
found_among_others count n at (p ∷ pages) other = by (p.block % count == at.block % count) refl (p.block % count == n) refl (found_among_others count n at pages other)
  where
    by : (b : Bool) → (p.block % count == at.block % count) ≡ b → (c : Bool) → (p.block % count == n) ≡ c
        → page_in_plane count n (of_other_planes count at pages) ≡ page_in_plane count n pages
        → page_in_plane count n (cond (not b) (p ∷ of_other_planes count at pages) (of_other_planes count at pages)) ≡ cond c (Some p) (page_in_plane count n pages)
    by true e true f rest = absurd (not_both count n at p other e f)
    by true e false f rest = rest
    by false e c f rest = ap (λ (b : Bool). cond b (Some p) (page_in_plane count n (of_other_planes count at pages))) f ∙ ap (λ (o : Option PageAddress). cond c (Some p) o) rest

-- 4. a page of the plane

pub record Found (count n : ℕ) (pages : List PageAddress) : Type 0 where
  pub page : PageAddress
  pub is : page_in_plane count n pages ≡ Some page

pub found : (count n : ℕ) (pages : List PageAddress) → has_page count n pages ≡ true → Found count n pages
found count n [] h = cc
found count n (p ∷ pages) h = at (p.block % count == n) refl h (found count n pages)
  where
    at : (b : Bool) → (p.block % count == n) ≡ b → (b || has_page count n pages) ≡ true → (has_page count n pages ≡ true → Found count n pages) → Found count n (p ∷ pages)
    at true e h rest = record { page = p; is = ap (λ (b : Bool). cond b (Some p) (page_in_plane count n pages)) e }
    at false e h rest = let r = rest h in record { page = r.page; is = ap (λ (b : Bool). cond b (Some p) (page_in_plane count n pages)) e ∙ r.is }
