-- Two LUNs that are there have two numbers.
use Rattle.std.proofs.Common.{◌≡◌, ◌≢◌, ℕ, ◌+◌, ◌*◌, ◌/◌, ◌<◌, ◌==◌, true, false, sym, ap, ◌∙◌, subst, arith, eq-eqb}
use Rattle.std.proofs.lemmas.Nat.{div-mul-add}
use Rattle.std.proofs.lemmas.Bool.{and_from}
use Rattle.onfi_cycle.specs.declared.lun.Lun.{Lun}
use Rattle.onfi_cycle.specs.Channel.{Channel, is_there, same_lun}
use Rattle.seq_core.specs.World.{number}
use Rattle.seq_core.proofs.Below.{there_lun}

first_same : (a b n x y : ℕ) → x < n → y < n → a * n + x ≡ b * n + y → a ≡ b
first_same a b n x y hx hy e = sym (div-mul-add a n x hx) ∙ (ap (λ k. k / n) e ∙ div-mul-add b n y hy)

second_same : (a b n x y : ℕ) → a ≡ b → a * n + x ≡ b * n + y → x ≡ y
second_same a b n x y e h = let k : b * n + x ≡ b * n + y = subst (λ c. c * n + x ≡ b * n + y) e h in omega arith

pub number_differs : (s : Channel) (l m : Lun) → is_there s l ≡ true → is_there s m ≡ true → same_lun l m ≡ false → number s m ≢ number s l
number_differs s l m hl hm ne e =
    let first = first_same m.ce l.ce s.geometry.luns m.lun l.lun (there_lun s m hm) (there_lun s l hl) e in
    let second = second_same m.ce l.ce s.geometry.luns m.lun l.lun first e in
    clash (and_from (l.ce == m.ce) (l.lun == m.lun) (eq-eqb l.ce m.ce (sym first)) (eq-eqb l.lun m.lun (sym second))) ne
  where
    clash : same_lun l m ≡ true → same_lun l m ≡ false → ⊥
    clash a b = cc
