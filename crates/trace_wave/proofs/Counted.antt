-- Levels of so many, one more at a time.
use Rattle.std.proofs.Common.{◌≡◌, ℕ, zero, suc, ◌+◌, ◌-◌, List, [], ◌∷◌, ◌++◌, length, Bool, refl, sym, ap, ◌∙◌, arith}
use Rattle.std.specs.Prelude.{Option, not, ◌*◌}
use Rattle.trace_wave.specs.Header.{digit, variable, target_lines, bit_lines, lun_lines, all_lun_lines, channel_lines}
use Rattle.nand_geometry.specs.declared.parts.Parts.{Parts}
use Rattle.onfi_cycle.specs.declared.item.Item.{Item}
use Rattle.onfi_cycle.specs.State.{targets_from}
use Rattle.trace_wave.specs.Levels.{bit, shown, is_at, is_busy, has_busy_array, tells_failure, some_busy, enables, readies, target_levels, targets_levels}
use Rattle.trace_wave.specs.Changes.{change, changes}
use Rattle.trace_wave.proofs.Lists.{less}

pub length_targets : (g : Parts) (past : List Item) (count n : ℕ) → length (targets_from g past count n) ≡ count
length_targets g past zero n = refl
length_targets g past (suc count) n = ap suc (length_targets g past count (n + 1))

pub enables_more : (e : Option ℕ) (count n : ℕ) → (count ≡ 0 → ⊥) → enables e count n ≡ (bit (not (is_at e n)) ∷ []) ++ enables e (count - 1) (n + 1)
enables_more e zero n some = absurd (some refl)
enables_more e (suc count) n some = ap (λ k. bit (not (is_at e n)) ∷ enables e k (n + 1)) (sym (less count))

pub changed_enables_more : (before after : Option ℕ) (code count n : ℕ) → (count ≡ 0 → ⊥)
    → changes code (enables before count n) (enables after count n)
    ≡ change code (bit (not (is_at before n))) (bit (not (is_at after n))) ++ changes (code + 1) (enables before (count - 1) (n + 1)) (enables after (count - 1) (n + 1))
changed_enables_more before after code zero n some = absurd (some refl)
changed_enables_more before after code (suc count) n some =
    ap (λ k. change code (bit (not (is_at before n))) (bit (not (is_at after n))) ++ changes (code + 1) (enables before k (n + 1)) (enables after k (n + 1))) (sym (less count))

pub changed_enables_next : (before after : Option ℕ) (count n : ℕ) (was is : Bool) → (count ≡ 0 → ⊥) → was ≡ is_at before n → is ≡ is_at after n
    → changes (33 + n) (enables before count n) (enables after count n) ≡ change (33 + n) (bit (not was)) (bit (not is)) ++ changes (33 + (n + 1)) (enables before (count - 1) (n + 1)) (enables after (count - 1) (n + 1))
changed_enables_next before after count n was is some e f =
    rw (e, f) (changed_enables_more before after (33 + n) count n some ∙ ap (λ k. change (33 + n) (bit (not (is_at before n))) (bit (not (is_at after n))) ++ changes k (enables before (count - 1) (n + 1)) (enables after (count - 1) (n + 1))) (next n))
  where
    next : (k : ℕ) → 33 + k + 1 ≡ 33 + (k + 1)
    next k = omega arith

pub readies_more : (known : Bool) (g : Parts) (past : List Item) (count n : ℕ) → (count ≡ 0 → ⊥)
    → readies known g past count n ≡ (shown known (not (some_busy g past n g.luns 0)) ∷ []) ++ readies known g past (count - 1) (n + 1)
readies_more known g past zero n some = absurd (some refl)
readies_more known g past (suc count) n some = ap (λ k. shown known (not (some_busy g past n g.luns 0)) ∷ readies known g past k (n + 1)) (sym (less count))

pub target_more : (known : Bool) (g : Parts) (past : List Item) (ce count n : ℕ) → (count ≡ 0 → ⊥)
    → target_levels known g past ce count n
    ≡ (shown known (is_busy g past ce n) ∷ shown known (has_busy_array g past ce n) ∷ shown known (tells_failure past ce n) ∷ []) ++ target_levels known g past ce (count - 1) (n + 1)
target_more known g past ce zero n some = absurd (some refl)
target_more known g past ce (suc count) n some =
    ap (λ k. shown known (is_busy g past ce n) ∷ shown known (has_busy_array g past ce n) ∷ shown known (tells_failure past ce n) ∷ target_levels known g past ce k (n + 1)) (sym (less count))

pub targets_more : (known : Bool) (g : Parts) (past : List Item) (count n : ℕ) → (count ≡ 0 → ⊥)
    → targets_levels known g past count n ≡ target_levels known g past n g.luns 0 ++ targets_levels known g past (count - 1) (n + 1)
targets_more known g past zero n some = absurd (some refl)
targets_more known g past (suc count) n some = ap (λ k. target_levels known g past n g.luns 0 ++ targets_levels known g past k (n + 1)) (sym (less count))

pub target_lines_more : (code : ℕ) (name : List ℕ) (count n d : ℕ) → (count ≡ 0 → ⊥) → d ≡ digit n
    → target_lines code name count n ≡ variable code (name ++ (d ∷ 95 ∷ 110 ∷ [])) ++ target_lines (code + 1) name (count - 1) (n + 1)
target_lines_more code name zero n d some is = absurd (some refl)
target_lines_more code name (suc count) n d some is =
    ap (λ k. variable code (name ++ (digit n ∷ 95 ∷ 110 ∷ [])) ++ target_lines (code + 1) name k (n + 1)) (sym (less count))
    ∙ ap (λ b. variable code (name ++ (b ∷ 95 ∷ 110 ∷ [])) ++ target_lines (code + 1) name (suc count - 1) (n + 1)) (sym is)

pub bit_lines_more : (code : ℕ) (name : List ℕ) (count d : ℕ) → (count ≡ 0 → ⊥) → d ≡ digit (count - 1)
    → bit_lines code name count ≡ variable code (name ++ (91 ∷ d ∷ 93 ∷ [])) ++ bit_lines (code + 1) name (count - 1)
bit_lines_more code name zero d some is = absurd (some refl)
bit_lines_more code name (suc count) d some is =
    ap (λ k. variable code (name ++ (91 ∷ digit k ∷ 93 ∷ [])) ++ bit_lines (code + 1) name k) (sym (less count))
    ∙ ap (λ b. variable code (name ++ (91 ∷ b ∷ 93 ∷ [])) ++ bit_lines (code + 1) name (suc count - 1)) (sym is)

pub all_lun_lines_more : (code ce count n : ℕ) → (count ≡ 0 → ⊥) → all_lun_lines code ce count n ≡ lun_lines code ce n ++ all_lun_lines (code + 3) ce (count - 1) (n + 1)
all_lun_lines_more code ce zero n some = absurd (some refl)
all_lun_lines_more code ce (suc count) n some = ap (λ k. lun_lines code ce n ++ all_lun_lines (code + 3) ce k (n + 1)) (sym (less count))

pub channel_lines_more : (code luns count n : ℕ) → (count ≡ 0 → ⊥)
    → channel_lines code luns count n ≡ all_lun_lines code n luns 0 ++ channel_lines (code + 3 * luns) luns (count - 1) (n + 1)
channel_lines_more code luns zero n some = absurd (some refl)
channel_lines_more code luns (suc count) n some = ap (λ k. all_lun_lines code n luns 0 ++ channel_lines (code + 3 * luns) luns k (n + 1)) (sym (less count))
