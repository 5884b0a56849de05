-- One LUN among those of its target.
use Rattle.std.specs.List.{list_any}
use Rattle.std.proofs.Common.{◌≡◌, ℕ, zero, suc, ◌<◌, Bool, true, false, ◌||◌, List, [], ◌∷◌, Option, Some, None, refl, ap, ◌∙◌}
use Rattle.std.specs.List.{slice_get}
use Rattle.nand_geometry.specs.declared.parts.Parts.{Parts}
use Rattle.onfi_cycle.specs.declared.lun.Lun.{Lun}
use Rattle.onfi_cycle.specs.declared.item.Item.{Item}
use Rattle.onfi_cycle.specs.LunView.{LunView}
use Rattle.onfi_cycle.specs.Lun.{lun_view, luns_of}
use Rattle.onfi_cycle.specs.Rules.{is_some_and, lun_is}
use Rattle.micro_program.proofs.Below.{facts}

some_of : (test : LunView → Bool) (vs : List LunView) (k : ℕ) (v : LunView) → slice_get vs k ≡ Some v → test v ≡ true → list_any test vs ≡ true
some_of test [] k v e h = cc
some_of test (w ∷ vs) zero v e h = let same : w ≡ v = cc in rw (ap test same ∙ h) refl
some_of test (w ∷ vs) (suc k) v e h = at (test w) (some_of test vs k v e h)
  where
    at : (b : Bool) → list_any test vs ≡ true → (b || list_any test vs) ≡ true
    at true ih = refl
    at false ih = ih

-- some LUN of the target passes, if this one does
pub some_at : (g : Parts) (past : List Item) (l : Lun) (test : LunView → Bool) → l.lun < g.luns → test (lun_view g past l) ≡ true → list_any test (luns_of g past l.ce) ≡ true
some_at g past l test h k = some_of test (luns_of g past l.ce) l.lun (lun_view g past l) (facts.lun_at g past l h) k

-- no LUN passes a test that always fails
pub never : (o : Option LunView) → is_some_and (λ v. false) o ≡ false
never None = refl
never (Some v) = refl

-- the LUN of a number passes as this one does
pub passes_at : (g : Parts) (past : List Item) (l : Lun) (n : ℕ) (test : LunView → Bool) → l.lun < g.luns → n ≡ l.lun → lun_is test (luns_of g past l.ce) n ≡ test (lun_view g past l)
passes_at g past l n test h e = ap (λ (m : ℕ). lun_is test (luns_of g past l.ce) m) e ∙ ap (is_some_and test) (facts.lun_at g past l h)
