-- The parts of all seats, where one view changes or a seat is new.
use Rattle.std.proofs.Common.{◌≡◌, ℕ, zero, suc, ◌+◌, ◌≤◌, ◌<◌, ◌⊎◌, inl, inr, Bool, true, false, cond, Option, Some, None, List, [], ◌∷◌, ◌++◌, set, refl, ap, sym, subst, arith}
use mathlib.Core.Option.{some, some-injective, some-ne-none}
use lib.ListN.{get_elem?}
use Rattle.lun_lease.specs.declared.rule.View.{View}
use Rattle.lun_lease.specs.Rule.{Has, all_parts, is_idle, count_idle}
use Rattle.lun_lease.specs.Laws.{NoneBesideSixteen}

pub parts_set : (views : List View) (i : ℕ) (v w : View) → get_elem? views i ≡ some v → all_parts (set views i w) + v.parts ≡ all_parts views + w.parts
parts_set [] i v w at = absurd (some-ne-none v (sym at))
parts_set (x ∷ views) zero v w at = let e : x.parts ≡ v.parts = ap (λ (y : View). y.parts) (some-injective x v at) in omega (arith, e)
parts_set (x ∷ views) (suc i) v w at = let rest = parts_set views i v w at in omega (arith, rest)

pub parts_more : (views : List View) (w : View) → all_parts (views ++ w ∷ []) ≡ all_parts views + w.parts
parts_more [] w = omega arith
parts_more (x ∷ views) w = let rest = parts_more views w in omega (arith, rest)

-- what one view adds to those with a part that hold nothing, at most its parts
at_most : (idle : Bool) (parts count all : ℕ) → (idle ≡ true → 0 < parts) → count ≤ all → cond idle (count + 1) count ≤ parts + all
at_most true parts count all has le = let p = has refl in omega (arith, p, le)
at_most false parts count all has le = omega (arith, le)

idle_has : (holds beside : Option ℕ) (parts : ℕ) → is_idle holds beside parts ≡ true → 0 < parts
idle_has None None zero e = cc
idle_has None None (suc parts) e = omega arith
idle_has None (Some l) parts e = cc
idle_has (Some l) beside parts e = cc

parts_count : (views : List View) → count_idle views ≤ all_parts views
parts_count [] = omega arith
parts_count (v ∷ views) = at_most (is_idle v.holds v.beside v.parts) v.parts (count_idle views) (all_parts views) (idle_has v.holds v.beside v.parts) (parts_count views)

not_idle : (holds beside : Option ℕ) (parts lun : ℕ) → (holds ≡ Some lun) ⊎ (beside ≡ Some lun) → is_idle holds beside parts ≡ false
not_idle None None parts lun (inl e) = cc
not_idle None None parts lun (inr e) = cc
not_idle None (Some l) parts lun e = refl
not_idle (Some l) beside parts lun e = refl

-- the parts of a view that holds a LUN are beside those of the views that hold nothing
holder_beside : (views : List View) (seat lun : ℕ) (v : View) → get_elem? views seat ≡ some v → Has v lun → count_idle views + v.parts ≤ all_parts views
holder_beside [] seat lun v at has = absurd (some-ne-none v (sym at))
holder_beside (x ∷ views) zero lun v at has =
    let e : x ≡ v = some-injective x v at in
    let parts : x.parts ≡ v.parts = ap (λ (y : View). y.parts) e in
    let none : is_idle x.holds x.beside x.parts ≡ false = not_idle x.holds x.beside x.parts lun (subst (λ (y : View). Has y lun) (sym e) has) in
    let rest = parts_count views in
    subst (λ (b : Bool). cond b (count_idle views + 1) (count_idle views) + v.parts ≤ x.parts + all_parts views) (sym none) (omega (arith, rest, parts))
holder_beside (x ∷ views) (suc seat) lun v at has =
    at_most' (is_idle x.holds x.beside x.parts) x.parts (count_idle views) (all_parts views) v.parts (idle_has x.holds x.beside x.parts) (holder_beside views seat lun v at has)
  where
    at_most' : (idle : Bool) (parts count all more : ℕ) → (idle ≡ true → 0 < parts) → count + more ≤ all → cond idle (count + 1) count + more ≤ parts + all
    at_most' true parts count all more has le = let p = has refl in omega (arith, p, le)
    at_most' false parts count all more has le = omega (arith, le)

pub none_beside : NoneBesideSixteen
none_beside s h idle lun seat v has =
    let able = h.able lun seat v has in
    let all = h.sixteen in
    let le = holder_beside s.views seat lun v has.0 has.1 in
    absurd (omega (arith, able, all, le, idle))
