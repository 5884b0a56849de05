-- Each LUN of a channel has a slot of its own.
use Rattle.std.proofs.Common.{◌≡◌, ◌≢◌, ℕ, zero, suc, ◌+◌, ◌*◌, ◌/◌, ◌<◌, ◌≤◌, ◌==◌, Bool, true, false, cond, List, Option, Some, None, refl, sym, ap, ◌∙◌, subst, arith, ltb, ltb-true, eq-eqb, eqb-true, length, get_or, replicate, get_or-set_same, get_or-set_other}
use Rattle.std.proofs.lemmas.Nat.{div-mul-add}
use Rattle.std.proofs.Math.Nat.{mul-le-mul_right}
use Rattle.std.proofs.lemmas.Bool.{and_parts, and_from}
use Rattle.onfi_cycle.specs.declared.lun.Lun.{Lun}
use Rattle.onfi_cycle.specs.declared.item.Item.{Item}
use Rattle.onfi_cycle.specs.Channel.{Channel, is_there, same_lun}
use Rattle.seq_core.specs.World.{Slot, World, number, slot_of, with_slot}
use Rattle.seq_core.proofs.Below.{there_lun}
use Rattle.onfi_cycle.proofs.Booleans.{eqb_self}

pub same_lun_is : (l m : Lun) → same_lun l m ≡ true → l ≡ m
same_lun_is l m h =
    let p = and_parts (l.ce == m.ce) (l.lun == m.lun) h in
    let e = eqb-true l.ce m.ce p.0 in
    let f = eqb-true l.lun m.lun p.1 in
    ap (λ (n : ℕ). let x : Lun = record { ce = n; lun = l.lun } in x) e ∙ ap (λ (n : ℕ). let x : Lun = record { ce = m.ce; lun = n } in x) f

pub same_lun_self : (l : Lun) → same_lun l l ≡ true
same_lun_self l = and_from (l.ce == l.ce) (l.lun == l.lun) (eqb_self l.ce) (eqb_self l.lun)

pub there_ce : (s : Channel) (l : Lun) → is_there s l ≡ true → l.ce < s.targets
there_ce s l h = ltb-true l.ce s.targets (and_parts (ltb l.ce s.targets) (ltb l.lun s.geometry.luns) h).0

below : (a b n x : ℕ) → a < b → x < n → a * n + x < b * n
below a b n x h k = let m : suc a * n ≤ b * n = mul-le-mul_right n h in omega (arith)

pub number_below : (s : Channel) (l : Lun) → is_there s l ≡ true → number s l < s.targets * s.geometry.luns
number_below s l h = below l.ce s.targets s.geometry.luns l.lun (there_ce s l h) (there_lun s l h)

first_same : (a b n x y : ℕ) → x < n → y < n → a * n + x ≡ b * n + y → a ≡ b
first_same a b n x y hx hy e = sym (div-mul-add a n x hx) ∙ (ap (λ k. k / n) e ∙ div-mul-add b n y hy)

second_same : (a b n x y : ℕ) → a ≡ b → a * n + x ≡ b * n + y → x ≡ y
second_same a b n x y e h = let k : b * n + x ≡ b * n + y = subst (λ c. c * n + x ≡ b * n + y) e h in omega arith

number_differs : (s : Channel) (l m : Lun) → is_there s l ≡ true → is_there s m ≡ true → same_lun l m ≡ false → number s m ≢ number s l
number_differs s l m hl hm ne e =
    let first = first_same m.ce l.ce s.geometry.luns m.lun l.lun (there_lun s m hm) (there_lun s l hl) e in
    let second = second_same m.ce l.ce s.geometry.luns m.lun l.lun first e in
    clash (and_from (l.ce == m.ce) (l.lun == m.lun) (eq-eqb l.ce m.ce (sym first)) (eq-eqb l.lun m.lun (sym second))) ne
  where
    clash : same_lun l m ≡ true → same_lun l m ≡ false → ⊥
    clash a b = cc

pub slot_same : (s : Channel) (past : List Item) (slots : List (Option Slot)) (holder : Option Lun) (l : Lun) (v : Option Slot) → is_there s l ≡ true → length slots ≡ s.targets * s.geometry.luns → slot_of s (record { past = past; slots = with_slot s slots l v; holder = holder }) l ≡ v
slot_same s past slots holder l v h size =
    let inside : number s l < length slots = subst (λ n. number s l < n) (sym size) (number_below s l h) in
    rw h (get_or-set_same slots (number s l) v None inside)

pub slot_other : (s : Channel) (past : List Item) (slots : List (Option Slot)) (holder : Option Lun) (w : World) (l m : Lun) (v : Option Slot) → w.slots ≡ slots → is_there s l ≡ true → is_there s m ≡ true → same_lun l m ≡ false → slot_of s (record { past = past; slots = with_slot s slots l v; holder = holder }) m ≡ slot_of s w m
slot_other s past slots holder w l m v same hl hm ne =
    rw hm (get_or-set_other slots (number s l) (number s m) v None (number_differs s l m hl hm ne) ∙ ap (λ (x : List (Option Slot)). get_or x (number s m) None) (sym same))

-- a LUN that has a slot is there
pub there_of_slot : (s : Channel) (w : World) (l : Lun) (x : Slot) → slot_of s w l ≡ Some x → is_there s l ≡ true
there_of_slot s w l x h = at (is_there s l) h
  where
    at : (b : Bool) → cond b (get_or w.slots (number s l) None) None ≡ Some x → b ≡ true
    at true h = refl
    at false h = cc

none_of_replicate : (n k : ℕ) → get_or {A = Option Slot} (replicate n None) k None ≡ None
none_of_replicate zero k = refl
none_of_replicate (suc n) zero = refl
none_of_replicate (suc n) (suc k) = none_of_replicate n k

pub none_of_fresh : (s : Channel) (past : List Item) (holder : Option Lun) (n : ℕ) (l : Lun) → slot_of s (record { past = past; slots = replicate n None; holder = holder }) l ≡ None
none_of_fresh s past holder n l = at (is_there s l)
  where
    at : (b : Bool) → cond b (get_or {A = Option Slot} (replicate n None) (number s l) None) None ≡ None
    at true = none_of_replicate n (number s l)
    at false = refl
