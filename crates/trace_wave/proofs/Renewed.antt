-- Levels that are kept, and renewed in parts.
use Rattle.std.proofs.Common.{◌≡◌, ℕ, zero, suc, ◌+◌, true, List, ◌++◌, length, refl, sym, ap, ◌∙◌, append_assoc, append-nil}
use Rattle.std.proofs.lemmas.List.{length-append, append_cancel_right}
use Rattle.nand_geometry.specs.declared.parts.Parts.{Parts}
use Rattle.onfi_cycle.specs.declared.item.Item.{Item}
use Rattle.trace_wave.specs.Changes.{changes}
use Rattle.trace_wave.specs.Levels.{rule_bits, readies, target_levels, targets_levels, told_levels, model_levels}
use Rattle.trace_wave.proofs.Lists.{behind, changes_joined, changes_same}

pub renewed : (code k : ℕ) (old mid new kept a b front back : List ℕ) → kept ≡ a ++ b → length a ≡ length front → k ≡ code + length a
    → mid ≡ old ++ changes code a front → new ≡ mid ++ changes k b back → new ≡ old ++ changes code kept (front ++ back)
renewed code k old mid new kept a b front back parts same place first second =
    behind old mid new (changes code a front) (changes k b back) first second
    ∙ ap (λ (j : ℕ). old ++ (changes code a front ++ changes j b back)) place
    ∙ ap (λ xs. old ++ xs) (sym (changes_joined code a front b back same))
    ∙ ap (λ (xs : List ℕ). old ++ changes code xs (front ++ back)) (sym parts)

length_readies : (g : Parts) (p : List Item) (count n : ℕ) → length (readies true g p count n) ≡ count
length_readies g p zero n = refl
length_readies g p (suc count) n = ap suc (length_readies g p count (n + 1))

same_target : (g : Parts) (p q : List Item) (ce count n : ℕ) → length (target_levels true g p ce count n) ≡ length (target_levels true g q ce count n)
same_target g p q ce zero n = refl
same_target g p q ce (suc count) n = ap (λ (k : ℕ). suc (suc (suc k))) (same_target g p q ce count (n + 1))

same_targets : (g : Parts) (p q : List Item) (count n : ℕ) → length (targets_levels true g p count n) ≡ length (targets_levels true g q count n)
same_targets g p q zero n = refl
same_targets g p q (suc count) n =
    length-append (target_levels true g p n g.luns 0) (targets_levels true g p count (n + 1))
    ∙ ap (λ (k : ℕ). k + length (targets_levels true g p count (n + 1))) (same_target g p q n g.luns 0)
    ∙ ap (λ (k : ℕ). length (target_levels true g q n g.luns 0) + k) (same_targets g p q count (n + 1))
    ∙ sym (length-append (target_levels true g q n g.luns 0) (targets_levels true g q count (n + 1)))

same_told : (g : Parts) (targets : ℕ) (p q : List Item) → length (told_levels g targets p) ≡ length (told_levels g targets q)
same_told g targets p q =
    length-append (readies true g p targets 0) (targets_levels true g p targets 0)
    ∙ ap (λ (k : ℕ). k + length (targets_levels true g p targets 0)) (length_readies g p targets 0 ∙ sym (length_readies g q targets 0))
    ∙ ap (λ (k : ℕ). length (readies true g q targets 0) + k) (same_targets g p q targets 0)
    ∙ sym (length-append (readies true g q targets 0) (targets_levels true g q targets 0))

-- no rule is broken, and the lines of the rule stay
model_is : (g : Parts) (targets : ℕ) (p : List Item) → model_levels g targets p 0 ≡ told_levels g targets p ++ rule_bits 0
model_is g targets p = sym (append_assoc (readies true g p targets 0) (targets_levels true g p targets 0) (rule_bits 0))

pub model_changes : (g : Parts) (targets code : ℕ) (p q : List Item)
    → changes code (told_levels g targets p) (told_levels g targets q) ≡ changes code (model_levels g targets p 0) (model_levels g targets q 0)
model_changes g targets code p q =
    sym (ap (λ (xs : List ℕ). changes code xs (model_levels g targets q 0)) (model_is g targets p)
    ∙ ap (λ (xs : List ℕ). changes code (told_levels g targets p ++ rule_bits 0) xs) (model_is g targets q)
    ∙ changes_joined code (told_levels g targets p) (told_levels g targets q) (rule_bits 0) (rule_bits 0) (same_told g targets p q)
    ∙ ap (λ xs. changes code (told_levels g targets p) (told_levels g targets q) ++ xs) (changes_same (code + length (told_levels g targets p)) (rule_bits 0))
    ∙ append-nil (changes code (told_levels g targets p) (told_levels g targets q)))

pub told_kept : (g : Parts) (targets : ℕ) (p q : List Item) → model_levels g targets q 0 ≡ model_levels g targets p 0 → told_levels g targets q ≡ told_levels g targets p
told_kept g targets p q same =
    append_cancel_right (told_levels g targets q) (told_levels g targets p) (rule_bits 0) (sym (model_is g targets q) ∙ same ∙ model_is g targets p)
