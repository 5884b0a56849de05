-- Plain operations in a loop are accepted.
use Rattle.std.proofs.Common.{◌≡◌, ℕ, zero, suc, ◌+◌, ◌-◌, ◌*◌, ◌^◌, ◌<◌, ◌≤◌, ◌==◌, Bool, true, false, ◌&&◌, ◌||◌, cond, List, [], ◌∷◌, Option, Some, None, refl, ap, ◌∙◌, subst, arith, length}
use Rattle.std.specs.Prelude.{is_none}
use Rattle.std.specs.List.{AllByRecursion}
use Rattle.std.proofs.Math.Nat.{max-le}
use Rattle.std.proofs.lemmas.Nat.{mul-le}
use Rattle.std.proofs.lemmas.Bool.{and_from}
use Rattle.std.proofs.lemmas.Bool.Decides.{nat_tests}
use Rattle.nand_geometry.specs.declared.parts.Parts.{Parts}
use Rattle.nand_geometry.specs.Limits.{InLimits}
use Rattle.micro_word.specs.declared.format.Format.TheVariants.{Two}
use Rattle.micro_word.specs.declared.word.Word.{Word}
use Rattle.micro_word.specs.declared.word.Word.TheVariants.{End}
use Rattle.micro_word.specs.Word.{IsInRange}
use Rattle.micro_word.specs.Text.{Microprogram, FitsFormat}
use Rattle.micro_claims.specs.declared.refusal.Fault.{Fault}
use Rattle.micro_claims.specs.declared.state.State.{State}
use Rattle.micro_claims.specs.declared.bounds.Bounds.{Bounds}
use Rattle.micro_claims.specs.State.{first_state, bounds_of}
use Rattle.micro_claims.specs.Reasons.{reason_against, breaks_cycle_forbidden, breaks_address_unaligned, breaks_handover_in_sequence, breaks_buffer_passed, breaks_row_or_plane_outside, breaks_column_too_large, breaks_no_status, breaks_ends_too_soon, breaks_over_budget, breaks_command_not_allowed}
use Rattle.micro_claims.specs.Order.{machine, state_at_head, state_at_heads, state_after_turns}
use Rattle.micro_claims.specs.Joins.{joined}
use Rattle.micro_walk.specs.Shape.{or_fault, shape_fault}
use Rattle.micro_walk.specs.Faults.{known_first, followed, has_loop, front_fault}
use Rattle.micro_walk.specs.Searched.{is_found}
use Rattle.micro_walk.specs.Certified.{is_shown}
use Rattle.micro_walk.proofs.Searching.{finds}
use Rattle.micro_claims.specs.Certificate.{is_certified}
use Rattle.micro_walk.proofs.Joining.{joins_claim_less}
use Rattle.micro_verify.specs.declared.plain_op.PlainOp.{PlainOp}
use Rattle.micro_verify.specs.declared.plain_op.PlainOp.TheVariants.{Read, Program, Erase}
use Rattle.micro_verify.specs.Plain.{operations_len, rows_of, buffer_of, budget_of, plain_fault}
use Rattle.micro_verify.proofs.PlainInsides.{AllInside, are_fine}
use Rattle.micro_verify.proofs.PlainOperations.{calm}
use Rattle.looped_plain.specs.Looped.{IsLooped, LoopedTextsAreFound, LoopedTextsAreFaultless}
use Rattle.looped_plain.proofs.Through.{within_itself}
use Rattle.looped_plain.proofs.Walks.{is_placed}
use Rattle.looped_plain.proofs.Certifying.{looped}
use Rattle.looped_plain.proofs.Loops.{Found, loop_found}
use Rattle.looped_plain.proofs.Ways.{Way, met_way, way_behind, way_of, Rests, Bounded, body, runs}
use Rattle.looped_plain.proofs.Heads.{first_way, first_rests, second_way, second_rests, second_follows, stays_within}
use Rattle.looped_plain.proofs.Shapes.{body_long, body_inside, looped_body, loop_shaped}

-- ---- what a turn pays at most

abbrev PaidFew : Option Way → ℕ → Type 0
PaidFew None n = Unit {0}
PaidFew (Some w) n = w.paid ≤ n

met_few : (h : Option Way) (w : Way) (n : ℕ) → PaidFew h n → w.paid ≤ n → (met_way h w).paid ≤ n
met_few None w n a b = b
met_few (Some v) w n a b = max-le a b

pays : (g : Parts) (ops : List PlainOp) (w : Way) (h : Option Way) (n : ℕ) → w.paid + budget_of ops ≤ n → PaidFew h n → (way_of g w h ops).paid ≤ n
pays g [] w h n few a = met_few h w n a (omega (arith, few))
pays g (Read row plane column place len ∷ ops) w h n few a = pays g ops (way_behind g (Read row plane column place len) w) h n (omega (arith, few)) a
pays g (Program row plane column place len ∷ ops) w h n few a =
    let v = way_behind g (Program row plane column place len) w in
    pays g ops v (Some (met_way h v)) n (omega (arith, few)) (met_few h v n a (omega (arith, few)))
pays g (Erase row plane ∷ ops) w h n few a =
    let v = way_behind g (Erase row plane) w in
    pays g ops v (Some (met_way h v)) n (omega (arith, few)) (met_few h v n a (omega (arith, few)))

-- ---- behind the last turn

left_placed : (turns total : ℕ) (w : Way) (r : State) → Rests total w r → is_placed (state_after_turns first_state r turns) ≡ true
unfolding state_after_turns
left_placed turns total w r d = rw (d.is) refl

left_ready : (g : Parts) (b : Bounds) (turns total : ℕ) (w : Way) (r : State) → Rests total w r → is_none (reason_against g b (state_after_turns first_state r turns) (End 0)) ≡ true
unfolding state_after_turns reason_against breaks_cycle_forbidden breaks_address_unaligned breaks_handover_in_sequence breaks_buffer_passed breaks_row_or_plane_outside breaks_column_too_large breaks_no_status breaks_ends_too_soon breaks_over_budget breaks_command_not_allowed
left_ready g b turns total w r d = rw (d.is, calm d.read d.other) refl

head_placed : is_placed (state_at_head first_state) ≡ true
unfolding state_at_head
head_placed = refl

or_second : (a b : Bool) → b ≡ true → (a || b) ≡ true
or_second true b h = refl
or_second false b h = h

-- ---- the numbers of all turns

turns_more : (turns : ℕ) (n : ℕ) → 1 ≤ turns → (turns - 1) * n + n ≡ turns * n
turns_more zero n h = absurd (omega (arith, h))
turns_more (suc k) n h = let e : suc k - 1 ≡ k = omega arith in rw (e) (omega arith)

once_is_less : (turns n : ℕ) → 1 ≤ turns → n ≤ turns * n
once_is_less turns n h = let e = turns_more turns n h in omega (arith, e)

-- ---- the search

bounded : (b : Bounds) (turns : ℕ) (ops : List PlainOp) (paid : ℕ) → rows_of ops ≤ b.rows → b.rows ≤ 4096 → buffer_of ops ≤ b.buffer → b.buffer ≤ 16777215 → b.budget < 2 ^ 32 → paid + budget_of ops ≤ b.budget → Bounded b paid ops
bounded b turns ops paid rows few buffer short small budget = record { rows = rows; few_rows = few; buffer = buffer; short_buffer = short; budget = budget; small_budget = small }

pub operations_found : (g : Parts) → InLimits g → (b : Bounds) (turns : ℕ) (op : PlainOp) (ops : List PlainOp) → AllInside g (op ∷ ops) → 1 ≤ turns
    → rows_of (op ∷ ops) ≤ b.rows → b.rows ≤ 4096 → buffer_of (op ∷ ops) ≤ b.buffer → b.buffer ≤ 16777215 → turns * budget_of (op ∷ ops) ≤ b.budget → b.budget < 2 ^ 32
    → (failure : ℕ) → (r : State) × Found g b (body failure (op ∷ ops)) turns r
operations_found g l b turns op ops inside some rows few buffer short budget small failure =
    let all = op ∷ ops in
    let cost = budget_of all in
    let h0 = state_at_head first_state in
    let once = once_is_less turns cost some in
    let one = runs g l b failure 0 all first_way h0 None None inside (bounded b turns all 0 rows few buffer short small (omega (arith, once, budget))) first_rests tt in
    let v = way_of g first_way None all in
    let r = one.0 in (
      r,
      record {
        first = one.1;
        at_once = λ left. record { ended = one.1; enters = within_itself h0 head_placed; again = left; placed = left_placed turns (0 + v.paid) v r one.2; ready = left_ready g b turns (0 + v.paid) v r one.2 };
        again = λ more.
            (let paid : v.paid ≤ cost = pays g all first_way None cost (omega arith) tt in
            let n = (turns - 1) * v.paid in
            let less : n ≤ (turns - 1) * cost = mul-le (turns - 1) v.paid (turns - 1) cost (omega arith) paid in
            let sum = turns_more turns cost some in
            let w0 = second_way v in
            let h1 = joined h0 (state_at_heads first_state r turns) in
            let rests = second_rests turns (0 + v.paid) v r one.2 (omega (arith, less, sum, budget, small)) in
            let two = runs g l b failure n all w0 h1 None None inside (bounded b turns all (n + w0.paid) rows few buffer short small (omega (arith, less, sum, budget))) rests tt in
            let w = way_of g w0 None all in
            let q = two.0 in (
              q,
              record {
                ended = two.1;
                enters = (joins_claim_less h0 (state_at_heads first_state r turns)).0;
                again = or_second _ _ (stays_within turns (0 + v.paid) (n + w.paid) v w r q one.2 two.2 (second_follows g op ops w0 refl refl refl));
                placed = left_placed turns (n + w.paid) w q two.2;
                ready = left_ready g b turns (n + w.paid) w q two.2;
              },
            ));
      },
    )

found_of : (g : Parts) → InLimits g → (b : Bounds) (turns : ℕ) (ops : List PlainOp) → AllInside g ops → 0 < length ops → 1 ≤ turns
    → rows_of ops ≤ b.rows → b.rows ≤ 4096 → buffer_of ops ≤ b.buffer → b.buffer ≤ 16777215 → turns * budget_of ops ≤ b.budget → b.budget < 2 ^ 32
    → is_found g b (looped turns (body (operations_len ops + 1) ops)) ≡ true
found_of g l b turns [] inside some turn rows few buffer short budget small = absurd (omega (arith, some))
found_of g l b turns (op ∷ ops) inside some turn rows few buffer short budget small =
    let failure = operations_len (op ∷ ops) + 1 in
    let f = operations_found g l b turns op ops inside turn rows few buffer short budget small failure in
    let long = body_long failure (op ∷ ops) in
    loop_found g b (body failure (op ∷ ops)) turns failure f.0 (more op) (omega (arith, long)) (body_inside failure (op ∷ ops)) f.1
  where
    more : (x : PlainOp) → 1 < operations_len (x ∷ ops) + 1
    more (Read row plane column place len) = omega arith
    more (Program row plane column place len) = omega arith
    more (Erase row plane) = omega arith

-- ---- the text

some_of : (ops : List PlainOp) → (length ops == 0) ≡ false → 0 < length ops
some_of ops h = grind (arith, nat_tests, h)

-- the first of its words
turns_of : (turns : ℕ) (ops : List PlainOp) (text : Microprogram) → FitsFormat Two text → IsLooped turns ops text → 1 ≤ turns
turns_of turns ops text fits is = (subst (λ (ws : List Word). AllByRecursion (IsInRange Two (length text.words)) ws) is.words fits.words).0.0

pub looped_texts_are_found : LoopedTextsAreFound
looped_texts_are_found g l turns ops text none fits is =
    let fine = are_fine g ops none in
    let ws = body (operations_len ops + 1) ops in
    let words : text.words ≡ looped turns ws = is.words ∙ looped_body turns ops in
    let long = body_long (operations_len ops + 1) ops in
    let shape = loop_shaped turns ws (operations_len ops + 1) (omega (arith, long)) (body_inside (operations_len ops + 1) ops) in
    let b = bounds_of text in
    let found = found_of g l b turns ops fine.inside (some_of ops fine.some) (turns_of turns ops text fits is) is.rows fits.rows is.buffer fits.buffer is.budget fits.budget in
    ap (λ (xs : List Word). has_loop xs && (is_none (or_fault (shape_fault xs) (front_fault g b xs)) && is_found g b xs)) words
    ∙ and_from _ _ refl (and_from _ _ (ap (λ (o : Option Fault). is_none (or_fault o (front_fault g b (looped turns ws)))) shape) found)

pub looped_texts_are_faultless : LoopedTextsAreFaultless
looped_texts_are_faultless g l turns ops text none fits is =
    let ws = body (operations_len ops + 1) ops in
    let words : text.words ≡ looped turns ws = is.words ∙ looped_body turns ops in
    let long = body_long (operations_len ops + 1) ops in
    let shape = loop_shaped turns ws (operations_len ops + 1) (omega (arith, long)) (body_inside (operations_len ops + 1) ops) in
    let b = bounds_of text in
    ap (λ (xs : List Word). or_fault (shape_fault xs) (cond (has_loop xs) None (followed g b (known_first xs) 0 xs))) words
    ∙ ap (λ (o : Option Fault). or_fault o None) shape

-- and claims that are searched for show it
pub looped_texts_are_shown : (g : Parts) → InLimits g → (turns : ℕ) (ops : List PlainOp) (text : Microprogram) (claims : List (Option State)) → plain_fault g ops ≡ None → FitsFormat Two text → IsLooped turns ops text
    → (is_found g (bounds_of text) text.words ≡ true → is_certified (machine g (bounds_of text)) text.words claims ≡ true) → is_shown g text claims ≡ true
looped_texts_are_shown g l turns ops text claims none fits is leaves =
    let d = finds g text (looped_texts_are_found g l turns ops text none fits is) in
    and_from _ _ (ap (λ (o : Option Fault). is_none o) d.shape) (leaves d.found)
