-- The one driver, as a number and as what the rules see of it.
use Rattle.std.specs.List.{list_all}
use Rattle.std.proofs.Common.{◌≡◌, ℕ, zero, suc, ◌+◌, ◌==◌, ◌&&◌, Bool, true, false, cond, List, [], ◌∷◌, Some, refl, ap, arith}
use Rattle.std.proofs.lemmas.Bool.Decides.{nat_tests}
use Rattle.nand_geometry.specs.declared.parts.Parts.{Parts}
use Rattle.onfi_cycle.specs.declared.item.Item.{Item}
use Rattle.onfi_cycle.specs.Effect.{is_off}
use Rattle.onfi_cycle.specs.Lun.{latch, drivers, drivers_from, is_only, lun_view, views_from, luns_of}
use Rattle.onfi_cycle.specs.LunView.{LunView}
use Rattle.onfi_cycle.specs.Rules.{driving, are_none, only, driver}

-- where no number is left, no view is
none_driving : (g : Parts) (past : List Item) (ce count n : ℕ) → drivers_from (λ m. latch g past (record { ce = ce; lun = m })) count n ≡ [] → driving (views_from g past ce count n) ≡ []
none_driving g past ce zero n h = refl
none_driving g past ce (suc count) n h = at (is_off (latch g past (record { ce = ce; lun = n }))) (none_driving g past ce count (n + 1)) h
  where
    at : (b : Bool) → (drivers_from (λ m. latch g past (record { ce = ce; lun = m })) count (n + 1) ≡ [] → driving (views_from g past ce count (n + 1)) ≡ []) → cond b (drivers_from (λ m. latch g past (record { ce = ce; lun = m })) count (n + 1)) (n ∷ drivers_from (λ m. latch g past (record { ce = ce; lun = m })) count (n + 1)) ≡ [] → cond b (driving (views_from g past ce count (n + 1))) (lun_view g past (record { ce = ce; lun = n }) ∷ driving (views_from g past ce count (n + 1))) ≡ []
    at true ih h = ih h
    at false ih h = cc

one_left : (n m : ℕ) (ds : List ℕ) → is_only (n ∷ ds) m ≡ true → (ds ≡ []) × ((n == m) ≡ true)
one_left n m [] h = (refl, h)
one_left n m (d ∷ ds) h = cc

-- the one driver, by number, is the one view that is on
pub sole_driver_view : (g : Parts) (past : List Item) (ce count n m : ℕ) → is_only (drivers_from (λ k. latch g past (record { ce = ce; lun = k })) count n) m ≡ true → driver (views_from g past ce count n) ≡ Some (lun_view g past (record { ce = ce; lun = m }))
sole_driver_view g past ce zero n m h = cc
sole_driver_view g past ce (suc count) n m h = at (is_off (latch g past (record { ce = ce; lun = n }))) (sole_driver_view g past ce count (n + 1) m) h
  where
    at : (b : Bool) → (is_only (drivers_from (λ k. latch g past (record { ce = ce; lun = k })) count (n + 1)) m ≡ true → driver (views_from g past ce count (n + 1)) ≡ Some (lun_view g past (record { ce = ce; lun = m }))) → is_only (cond b (drivers_from (λ k. latch g past (record { ce = ce; lun = k })) count (n + 1)) (n ∷ drivers_from (λ k. latch g past (record { ce = ce; lun = k })) count (n + 1))) m ≡ true → only (cond b (driving (views_from g past ce count (n + 1))) (lun_view g past (record { ce = ce; lun = n }) ∷ driving (views_from g past ce count (n + 1)))) ≡ Some (lun_view g past (record { ce = ce; lun = m }))
    at true ih h = ih h
    at false ih h =
        let left = one_left n m (drivers_from (λ k. latch g past (record { ce = ce; lun = k })) count (n + 1)) h in
        let same : n ≡ m = grind (arith, nat_tests, left.1) in
        rw (none_driving g past ce count (n + 1) left.0) (ap (λ (k : ℕ). Some (lun_view g past (record { ce = ce; lun = k }))) same)

-- of a target
pub driver_of_target : (g : Parts) (past : List Item) (ce m : ℕ) → is_only (drivers g past ce) m ≡ true → driver (luns_of g past ce) ≡ Some (lun_view g past (record { ce = ce; lun = m }))
driver_of_target g past ce m h = sole_driver_view g past ce g.luns 0 m h

-- where all are off, none drives
pub none_drive : (luns : List LunView) → list_all (λ v. is_off v.latch) luns ≡ are_none (driving luns)
none_drive [] = refl
none_drive (v ∷ vs) = at (is_off v.latch) (none_drive vs)
  where
    at : (b : Bool) → list_all (λ w. is_off w.latch) vs ≡ are_none (driving vs) → (b && list_all (λ w. is_off w.latch) vs) ≡ are_none (cond b (driving vs) (v ∷ driving vs))
    at true ih = ih
    at false ih = refl
