-- The slot of a LUN, and those of the others.
use Rattle.std.proofs.Common.{◌≡◌, ◌≢◌, ℕ, ◌+◌, ◌*◌, ◌/◌, ◌<◌, ◌==◌, Bool, true, false, cond, List, [], Option, Some, None, length, get_or, set, refl, sym, ap, ◌∙◌, subst, arith, eq-eqb, get_or-set_other}
use Rattle.std.proofs.lemmas.Nat.{div-mul-add}
use Rattle.std.proofs.lemmas.Bool.{and_from}
use Rattle.nand_geometry.specs.declared.parts.Parts.{Parts}
use Rattle.onfi_cycle.specs.declared.lun.Lun.{Lun}
use Rattle.onfi_cycle.specs.Channel.{Channel, is_there, same_lun}
use Rattle.onfi_cycle.specs.State.{BusView}
use Rattle.target_bus.specs.Bus.{channel_on}
use Rattle.seq_core.specs.World.{number}
use Rattle.seq_core.specs.Progress.{Progress}
use Rattle.seq_core.proofs.Below.{there_lun}
use Rattle.bus_record.specs.Channel.{IsSameChannel}

-- what is kept of a LUN hangs on the channel and the slots alone
abbrev pub slot_in : Parts → ℕ → List (Option Progress) → Lun → Option Progress
slot_in g n slots l = cond (is_there (channel_on g n []) l) (get_or slots (number (channel_on g n []) l) None) None

pub same_slot : (a b : BusView) (slots : List (Option Progress)) (l : Lun) → IsSameChannel a b → slot_in b.geometry (length b.targets) slots l ≡ slot_in a.geometry (length a.targets) slots l
same_slot a b slots l same = ap (λ (g : Parts). slot_in g (length b.targets) slots l) same.geometry ∙ ap (λ (n : ℕ). slot_in a.geometry n slots l) same.count

first_same : (a b n x y : ℕ) → x < n → y < n → a * n + x ≡ b * n + y → a ≡ b
first_same a b n x y hx hy e = sym (div-mul-add a n x hx) ∙ (ap (λ k. k / n) e ∙ div-mul-add b n y hy)

second_same : (a b n x y : ℕ) → a ≡ b → a * n + x ≡ b * n + y → x ≡ y
second_same a b n x y e h = let k : b * n + x ≡ b * n + y = subst (λ c. c * n + x ≡ b * n + y) e h in omega arith

number_differs : (s : Channel) (l m : Lun) → is_there s l ≡ true → is_there s m ≡ true → same_lun l m ≡ false → number s m ≢ number s l
number_differs s l m hl hm ne e =
    let first = first_same m.ce l.ce s.geometry.luns m.lun l.lun (there_lun s m hm) (there_lun s l hl) e in
    let second = second_same m.ce l.ce s.geometry.luns m.lun l.lun first e in
    clash (and_from (l.ce == m.ce) (l.lun == m.lun) (eq-eqb l.ce m.ce (sym first)) (eq-eqb l.lun m.lun (sym second))) ne
  where
    clash : same_lun l m ≡ true → same_lun l m ≡ false → ⊥
    clash a b = cc

pub other_slot : (s : Channel) (slots : List (Option Progress)) (l m : Lun) (o : Option Progress) → is_there s l ≡ true → same_lun l m ≡ false
    → cond (is_there s m) (get_or (set slots (number s l) o) (number s m) None) None ≡ cond (is_there s m) (get_or slots (number s m) None) None
other_slot s slots l m o there differs = at (is_there s m) refl
  where
    at : (b : Bool) → is_there s m ≡ b → cond b (get_or (set slots (number s l) o) (number s m) None) None ≡ cond b (get_or slots (number s m) None) None
    at false e = refl
    at true e = get_or-set_other slots (number s l) (number s m) o None (number_differs s l m there e differs)

-- a LUN that has a slot is there
pub there_of_slot : (s : Channel) (slots : List (Option Progress)) (l : Lun) (p : Progress) → cond (is_there s l) (get_or slots (number s l) None) None ≡ Some p → is_there s l ≡ true
there_of_slot s slots l p h = at (is_there s l) h
  where
    at : (b : Bool) → cond b (get_or slots (number s l) None) None ≡ Some p → b ≡ true
    at true e = refl
    at false e = cc
