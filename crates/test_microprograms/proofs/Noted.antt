-- Pins that keep their cycles know what was driven.
use Rattle.std.proofs.Common.{◌≡◌, ℕ, Bool, true, false, List, [], ◌∷◌, ◌++◌, Option, Some, None, refl, sym, ap, ◌∙◌, subst, length}
use Rattle.onfi_cycle.specs.declared.item.Kind.{Kind}
use Rattle.onfi_cycle.specs.declared.item.Cycle.{Cycle}
use Rattle.onfi_cycle.specs.declared.item.Item.{Item}
use Rattle.onfi_cycle.specs.declared.item.Item.TheVariants.{Cyc}
use Rattle.seq_live.specs.Driven.{Grows, with_bytes}
use Rattle.test_microprograms.specs.Noted.{newest_first, noted}

last_first : (cycles : List Cycle) (c : Cycle) (past : List Item) → newest_first (cycles ++ (c ∷ [])) past ≡ Cyc c ∷ newest_first cycles past
last_first [] c past = refl
last_first (d ∷ cycles) c past = last_first cycles c (Cyc d ∷ past)

-- one cycle more
pub one_noted : (has_all : Bool) (cycles later : List Cycle) (c : Cycle) → later ≡ cycles ++ (c ∷ []) → Grows (λ past. Cyc c ∷ past) (noted has_all cycles) (noted has_all later)
one_noted false cycles later c is = tt
one_noted true cycles later c is = ap Some (ap (λ (cs : List Cycle). newest_first cs []) is ∙ last_first cycles c [])

pub none_noted : (cycles later : List Cycle) (has_all : Bool) (c : Cycle) → Grows (λ past. Cyc c ∷ past) (noted has_all cycles) (noted false later)
none_noted cycles later has_all c = tt

-- these bytes are still to be noted
abbrev pub AreLeft : ℕ → Kind → List ℕ → List ℕ → Option (List Item) → Option (List Item) → Type 0
AreLeft ce kind bytes left before now = (later : Option (List Item)) → Grows (with_bytes ce kind left) now later → Grows (with_bytes ce kind bytes) before later

some_same : {X : Type 0} (x y : X) → Some x ≡ Some y → x ≡ y
some_same x y h = cc

grows_then : (f g : List Item → List Item) (a b c : Option (List Item)) → Grows f a b → Grows g b c → Grows (λ past. g (f past)) a c
grows_then f g a b None first then = tt
grows_then f g a None (Some z) first then = cc
grows_then f g None (Some y) (Some z) first then = cc
grows_then f g (Some x) (Some y) (Some z) first then = then ∙ ap (λ (past : List Item). Some (g past)) (some_same y (f x) first)

pub one_less : (ce : ℕ) (kind : Kind) (bytes left behind : List ℕ) (byte : ℕ) (c : Cycle) (before now next : Option (List Item)) → left ≡ byte ∷ behind → c ≡ record { ce = ce; kind = kind; byte = byte } → Grows (λ past. Cyc c ∷ past) now next → AreLeft ce kind bytes left before now → AreLeft ce kind bytes behind before next
one_less ce kind bytes left behind byte c before now next is same one a later h =
    a later (subst (λ (bs : List ℕ). Grows (with_bytes ce kind bs) now later) (sym is)
    (grows_then (λ past. Cyc (record { ce = ce; kind = kind; byte = byte }) ∷ past) (with_bytes ce kind behind) now next later (subst (λ (d : Cycle). Grows (λ past. Cyc d ∷ past) now next) same one) h))

pub none_left : (ce : ℕ) (kind : Kind) (bytes left : List ℕ) (before now : Option (List Item)) → length left ≡ 0 → AreLeft ce kind bytes left before now → Grows (with_bytes ce kind bytes) before now
none_left ce kind bytes [] before now is a = a now (on now)
  where
    on : (o : Option (List Item)) → Grows (with_bytes ce kind []) o o
    on None = tt
    on (Some past) = refl
none_left ce kind bytes (b ∷ left) before now is a = cc
