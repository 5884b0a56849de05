-- The ready that a `wait` comes after.
use Rattle.std.proofs.Common.{◌≡◌, ℕ, Bool, true, false, List, [], ◌∷◌, refl, sym, ap, ◌∙◌, subst}
use Rattle.nand_geometry.specs.declared.parts.Parts.{Parts}
use Rattle.onfi_cycle.specs.declared.item.Item.{Item}
use Rattle.onfi_cycle.specs.declared.item.Item.TheVariants.{Rdy}
use Rattle.onfi_cycle.specs.Lun.{is_busy, lun_view, luns_of, views_from}
use Rattle.onfi_cycle.specs.Rules.{breaks_not_there}
use Rattle.onfi_cycle.specs.Permitted.{is_permitted}
use Rattle.micro_word.specs.declared.word.Word.{Word}
use Rattle.micro_word.specs.declared.word.Word.TheVariants.{Wait}
use Rattle.target_bus.specs.Bus.{Traced, IsNext}
use Rattle.micro_verify.specs.Lazy.{the_lun, awaited, no_failures}

luns_one : (g : Parts) (past : List Item) → g.luns ≡ 1 → luns_of g past 0 ≡ lun_view g past the_lun ∷ []
luns_one g past one = subst (λ (n : ℕ). views_from g past 0 n 0 ≡ lun_view g past the_lun ∷ []) (sym one) refl

-- the ready may come exactly where the LUN is busy
pub ready_permitted : (g : Parts) (n : ℕ) (past : List Item) → n ≡ 1 → g.luns ≡ 1 → is_permitted g n past (Rdy 0 0 no_failures) ≡ is_busy g past the_lun
unfolding breaks_not_there
ready_permitted g n past target one = at (is_busy g past the_lun) refl
  where
    at : (b : Bool) → is_busy g past the_lun ≡ b → is_permitted g n past (Rdy 0 0 no_failures) ≡ b
    at true e = rw (target, luns_one g past one, e) refl
    at false e = rw (target, luns_one g past one, e) refl

pub wait_comes : (old new : Traced) (word : Word) (came : Bool) → word ≡ Wait → old.targets ≡ 1 → old.geometry.luns ≡ 1 → came ≡ is_permitted old.geometry old.targets old.past (Rdy 0 0 no_failures) → (came ≡ true → IsNext old new (Rdy 0 0 no_failures)) → (came ≡ false → new ≡ old) → new.past ≡ awaited old.geometry old.past word
wait_comes old new word came is target one comes then otherwise = at came refl
  where
    busy : came ≡ is_busy old.geometry old.past the_lun
    busy = comes ∙ ready_permitted old.geometry old.targets old.past target one

    at : (b : Bool) → came ≡ b → new.past ≡ awaited old.geometry old.past word
    at true e = let there : is_busy old.geometry old.past the_lun ≡ true = sym busy ∙ e in (then e).past ∙ sym (rw (is, there) refl)
    at false e = let there : is_busy old.geometry old.past the_lun ≡ false = sym busy ∙ e in ap (λ (b : Traced). b.past) (otherwise e) ∙ sym (rw (is, there) refl)
