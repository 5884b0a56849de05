-- A trace with an item that isn't permitted isn't legal.
use Rattle.std.proofs.Common.{◌≡◌, ℕ, zero, suc, ◌+◌, ◌<◌, ◌≤◌, refl, true, false, List, [], ◌∷◌, ◌++◌, Option, Some, None, sym, ap, ◌∙◌, arith, length, reverse, take, drop, get_or, is_none}
use Rattle.std.specs.List.{slice_get}
use Rattle.std.proofs.lemmas.Grind.{common_steps}
use Rattle.std.proofs.lemmas.List.{reverse-append, take-append-drop}
use Rattle.std.proofs.lemmas.Option.{slice_get_within, get_or_from_slice_get}
use Rattle.std.proofs.lemmas.Bool.{false_from_ne_true, and_parts as both_true}
use Rattle.nand_geometry.specs.declared.parts.Parts.{Parts}
use Rattle.onfi_cycle.specs.declared.forbidden.Forbidden.{Forbidden}
use Rattle.onfi_cycle.specs.declared.item.Item.{Item}
use Rattle.onfi_cycle.specs.Permitted.{broken, is_permitted, is_legal, IsFirstBroken}

-- one item more of a list in the order of time
pub next_past : (items : List Item) (k : ℕ) (d : Item) → k < length items → get_or items k d ∷ reverse (take k items) ≡ reverse (take (k + 1) items)
next_past items k d h = grind (arith, common_steps)

-- what stands before part of a legal past is legal
legal_before : (g : Parts) (n : ℕ) (later past : List Item) → is_legal g n (later ++ past) ≡ true → is_legal g n past ≡ true
legal_before g n [] past h = h
legal_before g n (i ∷ later) past h = legal_before g n later past (both_true (is_permitted g n (later ++ past) i) (is_legal g n (later ++ past)) h).1

not_permitted : (o : Option Forbidden) (rule : Forbidden) → o ≡ Some rule → is_none o ≡ true → ⊥
not_permitted None rule e h = cc
not_permitted (Some f) rule e h = cc

pub broken_isn't_legal : (g : Parts) (n : ℕ) (items : List Item) (k : ℕ) (rule : Forbidden) → IsFirstBroken g n items k rule → is_legal g n (reverse items) ≡ false
broken_isn't_legal g n items k rule f = false_from_ne_true (is_legal g n (reverse items)) (λ legal.
    let inside = slice_get_within items k f.item f.there in
    let here : get_or items k f.item ≡ f.item = get_or_from_slice_get items k f.item f.item f.there in
    let split : reverse items ≡ reverse (drop (k + 1) items) ++ reverse (take (k + 1) items) = ap reverse (sym (take-append-drop (k + 1) items)) ∙ reverse-append (take (k + 1) items) (drop (k + 1) items) in
    let part = legal_before g n (reverse (drop (k + 1) items)) (reverse (take (k + 1) items)) (sym (ap (is_legal g n) split) ∙ legal) in
    let first = ap (λ (i : Item). i ∷ reverse (take k items)) (sym here) ∙ next_past items k f.item inside in
    let permitted = (both_true (is_permitted g n (reverse (take k items)) f.item) (is_legal g n (reverse (take k items))) (ap (is_legal g n) first ∙ part)).0 in
    not_permitted (broken g n (reverse (take k items)) f.item) rule f.breaks permitted)

first_of : {X : Type 0} (xs : List X) (k : ℕ) → slice_get (drop k xs) 0 ≡ slice_get xs k
first_of [] zero = refl
first_of [] (suc k) = refl
first_of (x ∷ xs) zero = refl
first_of (x ∷ xs) (suc k) = first_of xs k

none_beyond : {X : Type 0} (xs : List X) (k : ℕ) → slice_get xs k ≡ None → length xs ≤ k
none_beyond [] k h = omega arith
none_beyond (x ∷ xs) zero h = cc
none_beyond (x ∷ xs) (suc k) h = let more = none_beyond xs k h in omega (arith, more)

-- the first item of what is left is forbidden
pub is_first_broken : (g : Parts) (n : ℕ) (items part : List Item) (k : ℕ) (rule : Forbidden) → part ≡ drop k items → k < length items → is_legal g n (reverse (take k items)) ≡ true → ((item : Item) → slice_get part 0 ≡ Some item → broken g n (reverse (take k items)) item ≡ Some rule) → IsFirstBroken g n items k rule
is_first_broken g n items part k rule left inside legal breaks = at (slice_get items k) refl
  where
    at : (o : Option Item) → slice_get items k ≡ o → IsFirstBroken g n items k rule
    at None none = let beyond = none_beyond items k none in absurd (omega (arith, inside, beyond))
    at (Some item) there =
        record { item = item; there = there; legal = legal; breaks = breaks item (ap (λ (xs : List Item). slice_get xs 0) left ∙ (first_of items k ∙ there)) }
