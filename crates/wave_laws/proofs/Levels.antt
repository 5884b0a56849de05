-- How many levels there are, and that each is one.
use Rattle.std.proofs.Common.{◌≡◌, ℕ, zero, suc, ◌+◌, ◌*◌, ◌/◌, ◌==◌, Bool, true, false, not, List, [], ◌∷◌, ◌++◌, length, Option, Some, None, refl, sym, ap, ◌∙◌, arith}
use Rattle.std.proofs.lemmas.Bool.{and_from, and_parts}
use Rattle.std.proofs.lemmas.List.{length-append}
use Rattle.std.proofs.Math.Nat.{suc-mul}
use Rattle.nand_geometry.specs.declared.parts.Parts.{Parts}
use Rattle.onfi_cycle.specs.declared.item.Item.{Item}
use Rattle.bus_lines.specs.declared.lines.Lines.{Lines}
use Rattle.trace_wave.specs.Levels.{bit, shown, is_at, enables, is_odd, dq_bits, rule_bits, is_busy, has_busy_array, tells_failure, some_busy, readies, target_levels, targets_levels, bus_levels, model_levels, levels}
use Rattle.trace_wave.proofs.Lists.{length_bus}
use Rattle.vcd_text.specs.Tokens.{level_of, is_known, are_bits}

-- ---- how many

pub length_readies : (known : Bool) (g : Parts) (past : List Item) (count n : ℕ) → length (readies known g past count n) ≡ count
length_readies known g past zero n = refl
length_readies known g past (suc count) n = ap suc (length_readies known g past count (n + 1))

pub length_target : (known : Bool) (g : Parts) (past : List Item) (ce count n : ℕ) → length (target_levels known g past ce count n) ≡ 3 * count
length_target known g past ce zero n = refl
length_target known g past ce (suc count) n =
    let rest = length_target known g past ce count (n + 1) in
    let three : 3 * suc count ≡ suc (suc (suc (3 * count))) = omega arith in
    ap (λ k. suc (suc (suc k))) rest ∙ sym three

length_all : (known : Bool) (g : Parts) (past : List Item) (count n : ℕ) → length (targets_levels known g past count n) ≡ 3 * (count * g.luns)
length_all known g past zero n = let none : 0 ≡ 3 * (0 * g.luns) = omega arith in none
length_all known g past (suc count) n =
    let more : suc count * g.luns ≡ g.luns + count * g.luns = (let m = suc-mul count g.luns in omega (arith, m)) in
    let sum : 3 * g.luns + 3 * (count * g.luns) ≡ 3 * (g.luns + count * g.luns) = omega arith in
    length-append (target_levels known g past n g.luns 0) (targets_levels known g past count (n + 1))
    ∙ ap (λ k. k + length (targets_levels known g past count (n + 1))) (length_target known g past n g.luns 0)
    ∙ ap (λ k. 3 * g.luns + k) (length_all known g past count (n + 1))
    ∙ sum ∙ ap (λ k. 3 * k) (sym more)

-- the lines of a bus of so many targets of so many LUNs, and of its model
abbrev pub line_count : (targets luns : ℕ) → ℕ
line_count targets luns = targets + 12 + (targets + (3 * (targets * luns) + 5))

length_model : (g : Parts) (targets : ℕ) (past : List Item) (rule : ℕ) → length (model_levels g targets past rule) ≡ targets + (3 * (targets * g.luns) + 5)
length_model g targets past rule =
    let all = targets_levels (rule == 0) g past targets 0 in
    length-append (readies (rule == 0) g past targets 0) (all ++ rule_bits rule)
    ∙ ap (λ k. k + length (all ++ rule_bits rule)) (length_readies (rule == 0) g past targets 0)
    ∙ ap (λ k. targets + k) (length-append all (rule_bits rule) ∙ ap (λ k. k + 5) (length_all (rule == 0) g past targets 0))

pub length_levels : (g : Parts) (targets : ℕ) (past : List Item) (rule : ℕ) (l : Lines) → length (levels g targets past rule l) ≡ line_count targets g.luns
length_levels g targets past rule l =
    length-append (bus_levels targets l) (model_levels g targets past rule)
    ∙ ap (λ k. k + length (model_levels g targets past rule)) (length_bus targets l)
    ∙ ap (λ k. targets + 12 + k) (length_model g targets past rule)

-- ---- each is one

bits_append : (xs ys : List ℕ) → are_bits xs ≡ true → are_bits ys ≡ true → are_bits (xs ++ ys) ≡ true
bits_append [] ys h k = k
bits_append (b ∷ xs) ys h k =
    let parts = and_parts (is_known (level_of b)) (are_bits xs) h in
    and_from (is_known (level_of b)) (are_bits (xs ++ ys)) parts.0 (bits_append xs ys parts.1 k)

bits_more : (b : ℕ) (xs : List ℕ) → is_known (level_of b) ≡ true → are_bits xs ≡ true → are_bits (b ∷ xs) ≡ true
bits_more b xs = and_from (is_known (level_of b)) (are_bits xs)

bit_is : (high : Bool) → is_known (level_of (bit high)) ≡ true
bit_is true = refl
bit_is false = refl

shown_is : (known high : Bool) → is_known (level_of (shown known high)) ≡ true
shown_is true high = bit_is high
shown_is false high = refl

bits_enables : (e : Option ℕ) (count n : ℕ) → are_bits (enables e count n) ≡ true
bits_enables e zero n = refl
bits_enables e (suc count) n = bits_more (bit (not (is_at e n))) (enables e count (n + 1)) (bit_is (not (is_at e n))) (bits_enables e count (n + 1))

bits_readies : (known : Bool) (g : Parts) (past : List Item) (count n : ℕ) → are_bits (readies known g past count n) ≡ true
bits_readies known g past zero n = refl
bits_readies known g past (suc count) n =
    let high = not (some_busy g past n g.luns 0) in
    bits_more (shown known high) (readies known g past count (n + 1)) (shown_is known high) (bits_readies known g past count (n + 1))

bits_target : (known : Bool) (g : Parts) (past : List Item) (ce count n : ℕ) → are_bits (target_levels known g past ce count n) ≡ true
bits_target known g past ce zero n = refl
bits_target known g past ce (suc count) n =
    let later = target_levels known g past ce count (n + 1) in
    let busy = shown known (is_busy g past ce n) in
    let array = shown known (has_busy_array g past ce n) in
    let fail = shown known (tells_failure past ce n) in
    bits_more busy (array ∷ (fail ∷ later)) (shown_is known (is_busy g past ce n)) (bits_more array (fail ∷ later) (shown_is known (has_busy_array g past ce n)) (
    bits_more fail later (shown_is known (tells_failure past ce n)) (bits_target known g past ce count (n + 1))))

bits_all : (known : Bool) (g : Parts) (past : List Item) (count n : ℕ) → are_bits (targets_levels known g past count n) ≡ true
bits_all known g past zero n = refl
bits_all known g past (suc count) n =
    bits_append (target_levels known g past n g.luns 0) (targets_levels known g past count (n + 1)) (bits_target known g past n g.luns 0) (bits_all known g past count (n + 1))

bits_two : (a b : Bool) → are_bits (bit a ∷ (bit b ∷ [])) ≡ true
bits_two a b = bits_more (bit a) (bit b ∷ []) (bit_is a) (bits_more (bit b) [] (bit_is b) refl)

bits_four : (a b c d : Bool) → are_bits (bit a ∷ (bit b ∷ (bit c ∷ (bit d ∷ [])))) ≡ true
bits_four a b c d = bits_append (bit a ∷ (bit b ∷ [])) (bit c ∷ (bit d ∷ [])) (bits_two a b) (bits_two c d)

bits_five : (a b c d e : Bool) → are_bits (bit a ∷ (bit b ∷ (bit c ∷ (bit d ∷ (bit e ∷ []))))) ≡ true
bits_five a b c d e = bits_more (bit a) (bit b ∷ (bit c ∷ (bit d ∷ (bit e ∷ [])))) (bit_is a) (bits_four b c d e)

bits_dq : (dq : Option ℕ) → are_bits (dq_bits dq) ≡ true
bits_dq None = refl
bits_dq (Some byte) =
    let at = λ (weight : ℕ). is_odd (byte / weight) in
    bits_append (bit (at 128) ∷ (bit (at 64) ∷ (bit (at 32) ∷ (bit (at 16) ∷ [])))) (bit (at 8) ∷ (bit (at 4) ∷ (bit (at 2) ∷ (bit (at 1) ∷ []))))
    (bits_four (at 128) (at 64) (at 32) (at 16)) (bits_four (at 8) (at 4) (at 2) (at 1))

pub bits_levels : (g : Parts) (targets : ℕ) (past : List Item) (rule : ℕ) (l : Lines) → are_bits (levels g targets past rule l) ≡ true
bits_levels g targets past rule l =
    bits_append (bus_levels targets l) (model_levels g targets past rule)
    (bits_append (enables l.enabled targets 0) (bit l.cle ∷ (bit l.ale ∷ (bit l.we ∷ (bit l.re ∷ dq_bits l.dq)))) (bits_enables l.enabled targets 0)
    (bits_append (bit l.cle ∷ (bit l.ale ∷ (bit l.we ∷ (bit l.re ∷ [])))) (dq_bits l.dq) (bits_four l.cle l.ale l.we l.re) (bits_dq l.dq)))
    (bits_append (readies (rule == 0) g past targets 0) (targets_levels (rule == 0) g past targets 0 ++ rule_bits rule) (bits_readies (rule == 0) g past targets 0)
    (bits_append (targets_levels (rule == 0) g past targets 0) (rule_bits rule) (bits_all (rule == 0) g past targets 0)
    (bits_five (is_odd (rule / 16)) (is_odd (rule / 8)) (is_odd (rule / 4)) (is_odd (rule / 2)) (is_odd (rule / 1)))))
