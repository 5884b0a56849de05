-- The shape of a plain text: how long it is, that it has no loops, where its branches lead, and its end.
use Rattle.std.proofs.Common.{◌≡◌, ℕ, zero, suc, ◌+◌, ◌-◌, ◌<◌, ◌==◌, Bool, true, false, ◌&&◌, nat_lt, List, [], ◌∷◌, ◌++◌, None, refl, sym, ap, ◌∙◌, arith, length, drop}
use Rattle.std.specs.List.{slice_get}
use Rattle.std.proofs.lemmas.Bool.{and_parts as both}
use Rattle.micro_word.specs.declared.word.Word.{Word}
use Rattle.micro_word.specs.declared.word.Word.TheVariants.{Loop, Next}
use Rattle.micro_program.specs.Nested.{loops, closer, first_of}
use Rattle.micro_walk.specs.Shape.{is_unpaired, is_too_deep, leads_astray, first_where, is_end_there, ends, shape_fault}
use Rattle.micro_walk.specs.Faults.{has_loop}
use Rattle.micro_verify.specs.declared.plain_op.PlainOp.{PlainOp}
use Rattle.micro_verify.specs.declared.plain_op.PlainOp.TheVariants.{Read, Program, Erase}
use Rattle.micro_verify.specs.Plain.{operation_words, operations_len, words_from, plain_words}
use Rattle.micro_verify.proofs.PlainBasics.{lt_test, not_zero}
use Rattle.micro_verify.proofs.PlainFollowing.{AreLed}

pub words_long : (failure : ℕ) (ops : List PlainOp) → length (words_from failure ops) ≡ operations_len ops + 2
words_long failure [] = refl
words_long failure (Read row plane column place len ∷ ops) = let more = words_long failure ops in omega (arith, more)
words_long failure (Program row plane column place len ∷ ops) = let more = words_long failure ops in omega (arith, more)
words_long failure (Erase row plane ∷ ops) = let more = words_long failure ops in omega (arith, more)

pub are_led : (failure : ℕ) (ops : List PlainOp) → AreLed failure (words_from failure ops)
are_led failure [] = refl
are_led failure (Read row plane column place len ∷ ops) = are_led failure ops
are_led failure (Program row plane column place len ∷ ops) = (refl, are_led failure ops)
are_led failure (Erase row plane ∷ ops) = (refl, are_led failure ops)

-- ---- no loops

pub no_loop : (failure : ℕ) (ops : List PlainOp) → has_loop (words_from failure ops) ≡ false
no_loop failure [] = refl
no_loop failure (Read row plane column place len ∷ ops) = no_loop failure ops
no_loop failure (Program row plane column place len ∷ ops) = no_loop failure ops
no_loop failure (Erase row plane ∷ ops) = no_loop failure ops

abbrev is_calm : Word → Bool
is_calm (Loop turns) = false
is_calm Next = false
is_calm _ = true

abbrev are_calm : List Word → Bool
are_calm [] = true
are_calm (word ∷ rest) = is_calm word && are_calm rest

calm_words : (failure : ℕ) (ops : List PlainOp) → are_calm (words_from failure ops) ≡ true
calm_words failure [] = refl
calm_words failure (Read row plane column place len ∷ ops) = calm_words failure ops
calm_words failure (Program row plane column place len ∷ ops) = calm_words failure ops
calm_words failure (Erase row plane ∷ ops) = calm_words failure ops

calm_behind : (q : ℕ) (words : List Word) → are_calm words ≡ true → are_calm (drop q words) ≡ true
calm_behind zero words h = h
calm_behind (suc q) [] h = h
calm_behind (suc q) (word ∷ words) h = calm_behind q words (both (is_calm word) (are_calm words) h).1

no_loops : (words : List Word) (at : ℕ) → are_calm words ≡ true → loops words at ≡ []
no_loops [] at h = refl
no_loops (Loop turns ∷ words) at h = absurd cc
no_loops (Next ∷ words) at h = absurd cc
no_loops (word ∷ words) at h = no_loops words (at + 1) h

-- no loop is around any word
not_around : (failure : ℕ) (ops : List PlainOp) (q : ℕ) → closer (words_from failure ops) q ≡ None
not_around failure ops q = ap first_of (no_loops (drop q (words_from failure ops)) q (calm_behind q (words_from failure ops) (calm_words failure ops)))

-- ---- nothing is misshapen

paired : (all : List Word) (failure : ℕ) (ops : List PlainOp) (at : ℕ) → first_where (is_unpaired all) at (words_from failure ops) ≡ None
paired all failure [] at = refl
paired all failure (Read row plane column place len ∷ ops) at = paired all failure ops _
paired all failure (Program row plane column place len ∷ ops) at = paired all failure ops _
paired all failure (Erase row plane ∷ ops) at = paired all failure ops _

not_deep : (all : List Word) (failure : ℕ) (ops : List PlainOp) (at : ℕ) → first_where (is_too_deep all) at (words_from failure ops) ≡ None
not_deep all failure [] at = refl
not_deep all failure (Read row plane column place len ∷ ops) at = not_deep all failure ops _
not_deep all failure (Program row plane column place len ∷ ops) at = not_deep all failure ops _
not_deep all failure (Erase row plane ∷ ops) at = not_deep all failure ops _

-- each branch leads forward to the last word
not_astray : (all : List Word) (failure at : ℕ) (ops : List PlainOp) → ((q : ℕ) → closer all q ≡ None) → failure < length all → at + operations_len ops + 1 ≡ failure → first_where (leads_astray all) at (words_from failure ops) ≡ None
not_astray all failure at [] none inside is = refl
not_astray all failure at (Read row plane column place len ∷ ops) none inside is = not_astray all failure (at + 1 + 1 + 1 + 1 + 1 + 1 + 1 + 1 + 1 + 1) ops none inside (omega (arith, is))
not_astray all failure at (Program row plane column place len ∷ ops) none inside is =
    let there = lt_test failure (length all) inside in
    let ahead : nat_lt (at + 1 + 1 + 1 + 1 + 1 + 1 + 1 + 1 + 1) failure ≡ true = lt_test _ _ (omega (arith, is)) in
    rw (ahead, there, none (at + 1 + 1 + 1 + 1 + 1 + 1 + 1 + 1 + 1 + 1), none failure) (not_astray all failure (at + 1 + 1 + 1 + 1 + 1 + 1 + 1 + 1 + 1 + 1) ops none inside (omega (arith, is)))
not_astray all failure at (Erase row plane ∷ ops) none inside is =
    let there = lt_test failure (length all) inside in
    let ahead : nat_lt (at + 1 + 1 + 1 + 1 + 1 + 1) failure ≡ true = lt_test _ _ (omega (arith, is)) in
    rw (ahead, there, none (at + 1 + 1 + 1 + 1 + 1 + 1 + 1), none failure) (not_astray all failure (at + 1 + 1 + 1 + 1 + 1 + 1 + 1) ops none inside (omega (arith, is)))

-- ---- the end

some_in : (xs rest : List Word) → 0 < length rest → 0 < length (xs ++ rest)
some_in [] rest h = h
some_in (word ∷ xs) rest h = omega arith

behind_word : (word : Word) (rest : List Word) → 0 < length rest → ends (word ∷ rest) ≡ ends rest
behind_word word [] some = absurd (omega (arith, some))
behind_word word (later ∷ rest) some =
    let a : length (word ∷ (later ∷ rest)) - 1 ≡ suc (length rest) = omega arith in
    let b : length (later ∷ rest) - 1 ≡ length rest = omega arith in
    ap (λ (k : ℕ). is_end_there (slice_get (word ∷ (later ∷ rest)) k)) a ∙ sym (ap (λ (k : ℕ). is_end_there (slice_get (later ∷ rest) k)) b)

behind_words : (xs rest : List Word) → 0 < length rest → ends (xs ++ rest) ≡ ends rest
behind_words [] rest h = refl
behind_words (word ∷ xs) rest h = behind_word word (xs ++ rest) (some_in xs rest h) ∙ behind_words xs rest h

words_end : (failure : ℕ) (ops : List PlainOp) → ends (words_from failure ops) ≡ true
words_end failure [] = refl
words_end failure (op ∷ ops) =
    let long = words_long failure ops in
    behind_words (operation_words failure op) (words_from failure ops) (omega (arith, long)) ∙ words_end failure ops

-- ---- the shape

pub well_shaped : (ops : List PlainOp) → shape_fault (plain_words ops) ≡ None
well_shaped ops =
    let failure = operations_len ops + 1 in
    let all = words_from failure ops in
    let long = words_long failure ops in
    let some : (length all == 0) ≡ false = not_zero (length all) (omega (arith, long)) in
    rw (some, paired all failure ops 0, not_deep all failure ops 0, not_astray all failure 0 ops (not_around failure ops) (omega (arith, long)) (omega arith), words_end failure ops) refl
