-- The shape of plain operations in a loop, and what stands before it.
use Rattle.std.proofs.Common.{◌≡◌, ℕ, zero, suc, ◌+◌, ◌-◌, ◌<◌, ◌≤◌, ◌==◌, Bool, true, false, nat_lt, cond, List, [], ◌∷◌, ◌++◌, Option, Some, None, refl, sym, ap, ap₂, ◌∙◌, subst, arith, length, drop, take, append_assoc}
use Rattle.std.specs.List.{slice_get}
use Rattle.onfi_cycle.proofs.Booleans.{eqb_self}
use Rattle.micro_word.specs.declared.word.Word.{Word}
use Rattle.micro_word.specs.declared.word.Word.TheVariants.{End, BranchOnStatus, Loop, Next, Jump}
use Rattle.micro_program.specs.Nested.{loops, loops_at, closer, first_of, is_same, without_first}
use Rattle.micro_walk.specs.Shape.{is_unpaired, is_too_deep, leads_astray, first_where, is_end_there, ends, shape_fault}
use Rattle.micro_verify.specs.declared.plain_op.PlainOp.{PlainOp}
use Rattle.micro_verify.specs.declared.plain_op.PlainOp.TheVariants.{Read, Program, Erase}
use Rattle.micro_verify.specs.Plain.{operation_words, operations_len, words_from, plain_words}
use Rattle.micro_verify.proofs.PlainBasics.{lt_test, not_zero}
use Rattle.looped_plain.specs.Looped.{looped_words}
use Rattle.looped_plain.proofs.Walks.{AreInside, has_first, has_rest}
use Rattle.looped_plain.proofs.Certifying.{around_words, looped}
use Rattle.looped_plain.proofs.Loops.{has_behind, has_all, text_long}
use Rattle.looped_plain.proofs.Ways.{body}

-- ---- the words of the operations

pub body_long : (failure : ℕ) (ops : List PlainOp) → length (body failure ops) ≡ operations_len ops
body_long failure [] = refl
body_long failure (Read row plane column place len ∷ ops) = let more = body_long failure ops in omega (arith, more)
body_long failure (Program row plane column place len ∷ ops) = let more = body_long failure ops in omega (arith, more)
body_long failure (Erase row plane ∷ ops) = let more = body_long failure ops in omega (arith, more)

pub body_inside : (failure : ℕ) (ops : List PlainOp) → AreInside failure (body failure ops)
body_inside failure [] = tt
body_inside failure (Read row plane column place len ∷ ops) = body_inside failure ops
body_inside failure (Program row plane column place len ∷ ops) = (refl, body_inside failure ops)
body_inside failure (Erase row plane ∷ ops) = (refl, body_inside failure ops)

pub body_ends : (failure : ℕ) (ops : List PlainOp) → words_from failure ops ≡ body failure ops ++ (End 0 ∷ (End 1 ∷ []))
body_ends failure [] = refl
body_ends failure (op ∷ ops) = ap (λ (ws : List Word). operation_words failure op ++ ws) (body_ends failure ops) ∙ sym (append_assoc (operation_words failure op) (body failure ops) (End 0 ∷ (End 1 ∷ [])))

take_front : (xs ys : List Word) → take (length xs) (xs ++ ys) ≡ xs
take_front [] ys = refl
take_front (x ∷ xs) ys = ap (λ (ws : List Word). x ∷ ws) (take_front xs ys)

-- the plain text without its ends
pub looped_body : (turns : ℕ) (ops : List PlainOp) → looped_words turns ops ≡ looped turns (body (operations_len ops + 1) ops)
looped_body turns ops =
    let failure = operations_len ops + 1 in
    let front : take (operations_len ops) (plain_words ops) ≡ body failure ops =
    ap (λ (ws : List Word). take (operations_len ops) ws) (body_ends failure ops)
    ∙ (ap (λ (n : ℕ). take n (body failure ops ++ (End 0 ∷ (End 1 ∷ [])))) (sym (body_long failure ops)) ∙ take_front (body failure ops) (End 0 ∷ (End 1 ∷ []))) in
    ap (λ (ws : List Word). Loop turns ∷ (ws ++ (Next ∷ (End 0 ∷ [])))) front

-- ---- the loop around them

inside_behind : (last : ℕ) (ws : List Word) (k : ℕ) → AreInside last ws → AreInside last (drop k ws)
inside_behind last ws zero h = h
inside_behind last [] (suc k) h = tt
inside_behind last (End code ∷ ws) (suc k) h = absurd h
inside_behind last (Loop turns ∷ ws) (suc k) h = absurd h
inside_behind last (Next ∷ ws) (suc k) h = absurd h
inside_behind last (Jump target ∷ ws) (suc k) h = absurd h
inside_behind last (BranchOnStatus mask target ∷ ws) (suc k) h = inside_behind last ws k h.1
inside_behind last (w ∷ ws) (suc k) h = inside_behind last ws k h

drop_front : (ws more : List Word) (k : ℕ) → k ≤ length ws → drop k (ws ++ more) ≡ drop k ws ++ more
drop_front ws more zero h = refl
drop_front [] more (suc k) h = absurd (omega (arith, h))
drop_front (w ∷ ws) more (suc k) h = drop_front ws more k (omega (arith, h))

drop_long : (ws : List Word) (k : ℕ) → k ≤ length ws → length (drop k ws) + k ≡ length ws
drop_long ws zero h = omega arith
drop_long [] (suc k) h = absurd (omega (arith, h))
drop_long (w ∷ ws) (suc k) h = let more = drop_long ws k (omega (arith, h)) in omega (arith, more)

around : (turns : ℕ) (ws : List Word) (last q : ℕ) → 1 + length ws ≡ last → AreInside last ws → 1 ≤ q → q ≤ last → loops_at (looped turns ws) q ≡ last ∷ []
around turns ws last zero long inside from to = absurd (omega (arith, from))
around turns ws last (suc k) long inside from to =
    let more = Next ∷ (End 0 ∷ []) in
    let few : k ≤ length ws = omega (arith, long, to) in
    let size = drop_long ws k few in
    ap (λ (xs : List Word). loops xs (suc k)) (drop_front ws more k few) ∙ around_words (drop k ws) more (suc k) last last (omega (arith, size, long)) (inside_behind last ws k inside)

closed : (turns : ℕ) (ws : List Word) (last q : ℕ) → 1 + length ws ≡ last → AreInside last ws → 1 ≤ q → q ≤ last → closer (looped turns ws) q ≡ Some last
closed turns ws last q long inside from to = ap first_of (around turns ws last q long inside from to)

-- ---- nothing is misshapen

-- what isn't so of the words of the loop, nor of what stands behind them
not_where : (is_so : ℕ → Word → Bool) (ws more : List Word) (at last : ℕ) → at + length ws ≡ last → ((i : ℕ) (w : Word) → slice_get ws i ≡ Some w → is_so (at + i) w ≡ false) → first_where is_so last more ≡ None → first_where is_so at (ws ++ more) ≡ None
not_where is_so [] more at last long none on = let e : last ≡ at = omega (arith, long) in subst (λ (q : ℕ). first_where is_so q more ≡ None) e on
not_where is_so (w ∷ ws) more at last long none on =
    let here : at + 0 ≡ at = omega arith in
    ap (λ (t : Bool). cond t (Some at) (first_where is_so (at + 1) (ws ++ more))) (subst (λ (q : ℕ). is_so q w ≡ false) here (none 0 w refl))
    ∙ not_where is_so ws more (at + 1) last (omega (arith, long)) (λ i v there. (let e : at + suc i ≡ at + 1 + i = omega arith in subst (λ (q : ℕ). is_so q v ≡ false) e (none (suc i) v there))) on

-- a word of the loop
there_inside : (last : ℕ) (ws : List Word) (i : ℕ) (P : Word → Type 0) → AreInside last ws → ((w : Word) → AreInside last (w ∷ []) → P w) → (w : Word) → slice_get ws i ≡ Some w → P w
there_inside last [] i P h p w e = absurd cc
there_inside last (End code ∷ ws) i P h p w e = absurd h
there_inside last (Loop turns ∷ ws) i P h p w e = absurd h
there_inside last (Next ∷ ws) i P h p w e = absurd h
there_inside last (Jump target ∷ ws) i P h p w e = absurd h
there_inside last (BranchOnStatus mask target ∷ ws) zero P h p w e = let is : BranchOnStatus mask target ≡ w = cc in subst P is (p (BranchOnStatus mask target) (h.0, tt))
there_inside last (BranchOnStatus mask target ∷ ws) (suc i) P h p w e = there_inside last ws i P h.1 p w e
there_inside last (v ∷ ws) zero P h p w e = let is : v ≡ w = cc in subst P is (p v tt)
there_inside last (v ∷ ws) (suc i) P h p w e = there_inside last ws i P h p w e

paired_word : (words : List Word) (last at : ℕ) (w : Word) → AreInside last (w ∷ []) → is_unpaired words at w ≡ false
paired_word words last at (End code) h = refl
paired_word words last at (Loop turns) h = absurd h
paired_word words last at Next h = absurd h
paired_word words last at (Jump target) h = absurd h
paired_word words last at (BranchOnStatus mask target) h = refl
paired_word words last at w h = refl

shallow_word : (words : List Word) (last at : ℕ) (w : Word) → AreInside last (w ∷ []) → is_too_deep words at w ≡ false
shallow_word words last at (Loop turns) h = absurd h
shallow_word words last at w h = refl

-- a branch leads to the `next`, around which is the same loop
led_word : (words : List Word) (last at : ℕ) (w : Word) → AreInside last (w ∷ []) → at < last → last < length words → closer words (at + 1) ≡ Some last → closer words last ≡ Some last → leads_astray words at w ≡ false
led_word words last at (Jump target) h less there a b = absurd h
led_word words last at (BranchOnStatus mask target) h less there a b =
    let ahead = lt_test at last less in
    let inside = lt_test last (length words) there in
    let same : is_same (closer words (at + 1)) (closer words last) ≡ true = ap₂ is_same a b ∙ eqb_self last in
    rw (h.0, ahead, inside, same) refl
led_word words last at w h less there a b = refl

inside_list : (ws : List Word) (i : ℕ) (w : Word) → slice_get ws i ≡ Some w → i < length ws
inside_list [] i w e = absurd cc
inside_list (v ∷ ws) zero w e = omega arith
inside_list (v ∷ ws) (suc i) w e = let more = inside_list ws i w e in omega (arith, more)

pub loop_shaped : (turns : ℕ) (ws : List Word) (last : ℕ) → 1 + length ws ≡ last → AreInside last ws → shape_fault (looped turns ws) ≡ None
loop_shaped turns ws last long inside =
    let words = looped turns ws in
    let more = Next ∷ (End 0 ∷ []) in
    let size = text_long turns ws last long in
    let some : (length words == 0) ≡ false = not_zero (length words) (omega (arith, size)) in
    let one = around turns ws last 1 long inside (omega arith) (omega (arith, long)) in
    let none : closer words 0 ≡ None = ap (λ (ls : List ℕ). first_of (without_first ls)) one in
    let paired : first_where (is_unpaired words) 0 words ≡ None =
    ap (λ (ls : List ℕ). cond (length ls == 0) (Some 0) (first_where (is_unpaired words) 1 (ws ++ more))) one
    ∙ not_where (is_unpaired words) ws more 1 last long (λ i w there. there_inside last ws i (λ v. is_unpaired words (1 + i) v ≡ false) inside (λ v h. paired_word words last (1 + i) v h) w there)
    (ap (λ (o : Option ℕ). cond (is_same o (Some last)) (Some last) None) none) in
    let shallow : first_where (is_too_deep words) 0 words ≡ None =
    ap (λ (ls : List ℕ). cond (nat_lt 4 (length ls)) (Some 0) (first_where (is_too_deep words) 1 (ws ++ more))) one
    ∙ not_where (is_too_deep words) ws more 1 last long (λ i w there. there_inside last ws i (λ v. is_too_deep words (1 + i) v ≡ false) inside (λ v h. shallow_word words last (1 + i) v h) w there) refl in
    let led : first_where (leads_astray words) 0 words ≡ None =
    not_where (leads_astray words) ws more 1 last long
    (λ i w there.
    (let less = inside_list ws i w there in
    there_inside last ws i (λ v. leads_astray words (1 + i) v ≡ false) inside
    (λ v h. led_word words last (1 + i) v h (omega (arith, less, long)) (omega (arith, size)) (closed turns ws last (1 + i + 1) long inside (omega arith) (omega (arith, less, long))) (closed turns ws last last long inside (omega (arith, long)) (omega arith))) w there)) refl in
    let end = has_first words (last + 1) (End 0) [] (has_rest words last Next (End 0 ∷ []) (has_behind words ws more 1 last long (has_rest words 0 (Loop turns) (ws ++ more) (has_all words)))) in
    let at_last : length words - 1 ≡ last + 1 = omega (arith, size) in
    let ended : ends words ≡ true = ap (λ (n : ℕ). is_end_there (slice_get words n)) at_last ∙ ap is_end_there end in
    rw (some, paired, shallow, led, ended) refl
