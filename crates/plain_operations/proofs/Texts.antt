-- The words of plain operations, as the host sees them that polls.
use Rattle.std.proofs.Common.{◌≡◌, ℕ, zero, suc, ◌+◌, ◌<◌, ◌≤◌, ◌==◌, Bool, true, false, ◌&&◌, cond, List, [], ◌∷◌, ◌++◌, Option, Some, None, refl, sym, ap, ◌∙◌, arith, length, map, leb, ltb, lt-ltb, ltb-true, eq-eqb, ne_eqb}
use Rattle.std.proofs.lemmas.Bool.{false_from_ne_true}
use Rattle.std.proofs.lemmas.Bool.Decides.{nat_tests}
use Rattle.nand_geometry.specs.declared.parts.Parts.{Parts}
use Rattle.nand_geometry.specs.Row.{row_number, indexed, row_cycles}
use Rattle.onfi_cycle.specs.declared.item.Kind.TheVariants.{Cmd}
use Rattle.micro_word.specs.declared.word.Word.{Word}
use Rattle.micro_word.specs.declared.word.Word.TheVariants.{End, Command, Address, Get, Put, Seek, Column, Row, Plane, Wait, BranchOnStatus, Loop, Next}
use Rattle.micro_program.specs.Program.{Job, Done, column_after, column_now, plane_after, plane_now, index_after, index_now}
use Rattle.micro_program.specs.Moves.{part, column_bytes}
use Rattle.micro_program.specs.Lines.{Line, Unrolling, word_before, unrolling, unrolled, from_place, lines_from}
use Rattle.micro_verify.specs.declared.plain_op.PlainOp.{PlainOp}
use Rattle.micro_verify.specs.declared.plain_op.PlainOp.TheVariants.{Read, Program, Erase}
use Rattle.micro_verify.specs.Plain.{operation_words, operations_len, words_from, plain_words}
use Rattle.trace_ops.specs.Operation.{one_more}
use Rattle.trace_ops.specs.Polling.{Programs, Sequence, Doing, Rests, Sends, Waits, Asks, Sees, is_over, by_command, by_address, goes_on, sent_in, in_front}
use Rattle.plain_operations.specs.Lines.{row_at, capped, sequence_of}

-- ---- the row and the column of a program

pub record Place : Type 0 where
  pub index : ℕ
  pub plane : ℕ
  pub column : ℕ

abbrev pub place_of : Job → List Done → Place
place_of j done = record { index = index_now j.base done; plane = plane_now done; column = column_now done }

abbrev pub place_with : Job → Word → Place → Place
place_with j word p = record { index = index_after j.base word p.index; plane = plane_after word p.plane; column = column_after word p.column }

-- the five bytes of its address
abbrev pub five_at : Parts → Job → Place → List ℕ
five_at g j p = column_bytes p.column ++ row_cycles (row_number g (indexed g j.lun.lun p.index p.plane))

-- ---- what a word makes of the host

abbrev resting : Doing → Option Doing
resting Rests = Some Rests
resting (Sends sent) = None
resting (Waits work) = None
resting (Asks work) = None
resting Sees = None

abbrev waited : Doing → Option Doing
waited Rests = None
waited (Sends sent) = None
waited (Waits work) = Some (is_over work)
waited (Asks work) = Some (is_over work)
waited Sees = None

abbrev pub by_addresses : Doing → List ℕ → Option Doing
by_addresses d [] = Some d
by_addresses d (byte ∷ bytes) = goes_on (by_address d byte) (λ e. by_addresses e bytes)

-- so many inputs more
abbrev pub counted : ℕ → ℕ → ℕ
counted zero n = n
counted (suc count) n = counted count (one_more n)

abbrev pub by_inputs : Doing → ℕ → Option Doing
by_inputs Rests len = None
by_inputs (Sends sent) len = Some (Sends (record sent { inputs = counted len sent.inputs }))
by_inputs (Waits work) len = None
by_inputs (Asks work) len = None
by_inputs Sees len = None

-- a word that is done; none: it isn't for such a host
abbrev pub by_word : Parts → Job → Place → Doing → Word → Option Doing
by_word g j p d (Command byte) = by_command d byte
by_word g j p d (Address from count) = cond (leb (from + count) 2) None (by_addresses d (part from count (five_at g j p)))
by_word g j p d (Put len) = by_inputs d len
by_word g j p d (Get len) = resting d
by_word g j p d Wait = waited d
by_word g j p d (Seek place) = Some d
by_word g j p d (Column column) = Some d
by_word g j p d (Row row) = Some d
by_word g j p d (Plane plane) = Some d
by_word g j p d (BranchOnStatus mask target) = resting d
by_word g j p d word = None

-- the sequence that it ends
abbrev pub sent_with : Doing → Word → Option Sequence
sent_with d (Command byte) = sent_in d Cmd byte
sent_with d word = None

abbrev pub is_end : Word → Bool
is_end (End code) = true
is_end word = false

abbrev pub is_at_rest : Doing → Bool
is_at_rest Rests = true
is_at_rest (Sends sent) = false
is_at_rest (Waits work) = false
is_at_rest (Asks work) = false
is_at_rest Sees = false

abbrev pub leads_if : Option Doing → (Doing → Bool) → Bool
leads_if None more = false
leads_if (Some d) more = more d

-- these words lead to an end at rest
abbrev pub leads : Parts → Job → Place → Doing → List Word → Bool
leads g j p d [] = false
leads g j p d (word ∷ words) = cond (is_end word) (is_at_rest d) (leads_if (by_word g j p d word) (λ e. leads g j (place_with j word p) e words))

abbrev pub sends_if : Option Doing → (Doing → List Sequence) → List Sequence
sends_if None more = []
sends_if (Some d) more = more d

-- the sequences that they end
abbrev pub sends_with : Parts → Job → Place → Doing → List Word → List Sequence
sends_with g j p d [] = []
sends_with g j p d (word ∷ words) =
    cond (is_end word) [] (in_front (sent_with d word) (sends_if (by_word g j p d word) (λ e. sends_with g j (place_with j word p) e words)))

abbrev pub leads_to : ℕ → Word → Bool
leads_to failure (BranchOnStatus mask target) = target == failure
leads_to failure word = true

-- each branch leads to this place
abbrev pub all_lead_to : ℕ → List Word → Bool
all_lead_to failure [] = true
all_lead_to failure (word ∷ words) = leads_to failure word && all_lead_to failure words

-- ---- the words of a list of operations, but the last

abbrev pub body : ℕ → List PlainOp → List Word
body failure [] = End 0 ∷ []
body failure (op ∷ ops) = operation_words failure op ++ body failure ops

pub body_and_end : (failure : ℕ) (ops : List PlainOp) → words_from failure ops ≡ body failure ops ++ (End 1 ∷ [])
body_and_end failure [] = refl
body_and_end failure (Read row plane column place len ∷ ops) = ap (λ (ws : List Word). operation_words failure (Read row plane column place len) ++ ws) (body_and_end failure ops)
body_and_end failure (Program row plane column place len ∷ ops) = ap (λ (ws : List Word). operation_words failure (Program row plane column place len) ++ ws) (body_and_end failure ops)
body_and_end failure (Erase row plane ∷ ops) = ap (λ (ws : List Word). operation_words failure (Erase row plane) ++ ws) (body_and_end failure ops)

pub body_long : (failure : ℕ) (ops : List PlainOp) → length (body failure ops) ≡ operations_len ops + 1
body_long failure [] = refl
body_long failure (Read row plane column place len ∷ ops) = (let more = body_long failure ops in omega (arith, more))
body_long failure (Program row plane column place len ∷ ops) = (let more = body_long failure ops in omega (arith, more))
body_long failure (Erase row plane ∷ ops) = (let more = body_long failure ops in omega (arith, more))

pub body_leads : (g : Parts) (j : Job) (p : Place) (failure : ℕ) (ops : List PlainOp) → leads g j p Rests (body failure ops) ≡ true
body_leads g j p failure [] = refl
body_leads g j p failure (Read row plane column place len ∷ ops) = body_leads g j (record { index = j.base + row; plane = plane; column = column }) failure ops
body_leads g j p failure (Program row plane column place len ∷ ops) = body_leads g j (record { index = j.base + row; plane = plane; column = column }) failure ops
body_leads g j p failure (Erase row plane ∷ ops) = body_leads g j (record { index = j.base + row; plane = plane; column = p.column }) failure ops

-- a count of inputs
not_below : (n : ℕ) → ltb n 18446744073709551615 ≡ false → 18446744073709551615 ≤ n
not_below n e = grind (arith, nat_tests)

plus_none : (n : ℕ) → n + 0 ≡ n
plus_none n = omega arith

none_before : (n : ℕ) → 0 + n ≡ n
none_before n = omega arith

one_later : (n m : ℕ) → n + 1 + m ≡ n + suc m
one_later n m = omega arith

capped_low : (n : ℕ) → n < 18446744073709551615 → capped n ≡ n
capped_low n low = ap (λ b. cond b n 18446744073709551615) (lt-ltb n 18446744073709551615 low)

capped_high : (n : ℕ) → 18446744073709551615 ≤ n → capped n ≡ 18446744073709551615
capped_high n high = ap (λ b. cond b n 18446744073709551615) (false_from_ne_true (ltb n 18446744073709551615) (λ e. (let low = ltb-true n 18446744073709551615 e in omega (arith, low, high))))

more_low : (n : ℕ) → n ≤ 18446744073709551615 → one_more n ≤ 18446744073709551615
more_low n low = at (ltb n 18446744073709551615) refl
  where
    at : (b : Bool) → ltb n 18446744073709551615 ≡ b → cond b (n + 1) n ≤ 18446744073709551615
    at true e = (let less = ltb-true n 18446744073709551615 e in omega (arith, less))
    at false e = low

counted_is : (count n : ℕ) → n ≤ 18446744073709551615 → counted count n ≡ capped (n + count)
counted_is zero n low = at (ltb n 18446744073709551615) refl
  where
    at : (b : Bool) → ltb n 18446744073709551615 ≡ b → n ≡ capped (n + 0)
    at true e = sym (ap capped (plus_none n) ∙ capped_low n (ltb-true n 18446744073709551615 e))
    at false e = (let high = not_below n e in omega (arith, low, high)) ∙ sym (capped_high (n + 0) (let high = not_below n e in omega (arith, high)))
counted_is (suc count) n low = counted_is count (one_more n) (more_low n low) ∙ at (ltb n 18446744073709551615) refl
  where
    at : (b : Bool) → ltb n 18446744073709551615 ≡ b → capped (cond b (n + 1) n + count) ≡ capped (n + suc count)
    at true e = ap capped (one_later n count)
    at false e =
        (let high = not_below n e in capped_high (n + count) (omega (arith, high))) ∙ sym (let high = not_below n e in capped_high (n + suc count) (omega (arith, high)))

counted_all : (len : ℕ) → counted len 0 ≡ capped len
counted_all len = counted_is len 0 (omega arith) ∙ ap capped (none_before len)

pub body_sends : (g : Parts) (j : Job) (p : Place) (failure : ℕ) (ops : List PlainOp) → sends_with g j p Rests (body failure ops) ≡ map (sequence_of g j) ops
body_sends g j p failure [] = refl
body_sends g j p failure (Read row plane column place len ∷ ops) = ap (λ (xs : List Sequence). sequence_of g j (Read row plane column place len) ∷ xs) (body_sends g j (record { index = j.base + row; plane = plane; column = column }) failure ops)
body_sends g j p failure (Program row plane column place len ∷ ops) =
    ap (λ (n : ℕ). record { work = Programs; addresses = column_bytes column ++ row_at g j row plane; inputs = n } ∷ sends_with g j (record { index = j.base + row; plane = plane; column = column }) Rests (body failure ops)) (counted_all len)
    ∙ ap (λ (xs : List Sequence). sequence_of g j (Program row plane column place len) ∷ xs) (body_sends g j (record { index = j.base + row; plane = plane; column = column }) failure ops)
body_sends g j p failure (Erase row plane ∷ ops) = ap (λ (xs : List Sequence). sequence_of g j (Erase row plane) ∷ xs) (body_sends g j (record { index = j.base + row; plane = plane; column = p.column }) failure ops)

pub body_fails : (failure : ℕ) (ops : List PlainOp) → all_lead_to failure (body failure ops) ≡ true
body_fails failure [] = refl
body_fails failure (Read row plane column place len ∷ ops) = body_fails failure ops
body_fails failure (Program row plane column place len ∷ ops) = ap (λ b. b && all_lead_to failure (body failure ops)) (eq-eqb failure failure refl) ∙ body_fails failure ops
body_fails failure (Erase row plane ∷ ops) = ap (λ b. b && all_lead_to failure (body failure ops)) (eq-eqb failure failure refl) ∙ body_fails failure ops

-- ---- its lines

abbrev is_calm : Word → Bool
is_calm (Loop turns) = false
is_calm Next = false
is_calm word = true

abbrev are_calm : List Word → Bool
are_calm [] = true
are_calm (word ∷ words) = is_calm word && are_calm words

calm_words : (failure : ℕ) (ops : List PlainOp) → are_calm (words_from failure ops) ≡ true
calm_words failure [] = refl
calm_words failure (Read row plane column place len ∷ ops) = calm_words failure ops
calm_words failure (Program row plane column place len ∷ ops) = calm_words failure ops
calm_words failure (Erase row plane ∷ ops) = calm_words failure ops

abbrev flat : List Line → Unrolling
flat lines = record { lines = lines; outer = [] }

calm_before : (line : Line) (lines : List Line) (word : Word) → is_calm word ≡ true → word_before line (flat lines) word ≡ flat (line ∷ lines)
calm_before line lines (Loop turns) h = cc
calm_before line lines Next h = cc
calm_before line lines word h = refl

both_true : (a b : Bool) → (a && b) ≡ true → (a ≡ true) × (b ≡ true)
both_true true b h = (refl, h)
both_true false b h = cc

calm_unrolling : (words : List Word) (at : ℕ) → are_calm words ≡ true → unrolling words at ≡ flat (lines_from words at)
calm_unrolling [] at h = refl
calm_unrolling (word ∷ words) at h =
    let parts = both_true (is_calm word) (are_calm words) h in
    ap (λ (u : Unrolling). word_before (record { at = at; word = word }) u word) (calm_unrolling words (at + 1) parts.1)
    ∙ calm_before (record { at = at; word = word }) (lines_from words (at + 1)) word parts.0

pub plain_lines : (ops : List PlainOp) → unrolled (plain_words ops) ≡ lines_from (body (operations_len ops + 1) ops ++ (End 1 ∷ [])) 0
unfolding unrolled
plain_lines ops =
    ap (λ (u : Unrolling). u.lines) (calm_unrolling (plain_words ops) 0 (calm_words (operations_len ops + 1) ops))
    ∙ ap (λ (ws : List Word). lines_from ws 0) (body_and_end (operations_len ops + 1) ops)

-- a branch to the last word leaves that alone
pub from_last : (words : List Word) (at : ℕ) (last : Word) (place : ℕ) → place ≡ at + length words → from_place place (lines_from (words ++ (last ∷ [])) at) ≡ record { at = place; word = last } ∷ []
from_last [] at last place e =
    ap (λ (b : Bool). cond b (record { at = at; word = last } ∷ []) []) (eq-eqb at place (omega (arith, e))) ∙ ap (λ (n : ℕ). record { at = n; word = last } ∷ []) (omega (arith, e))
from_last (word ∷ words) at last place e =
    ap (λ (b : Bool). cond b (record { at = at; word = word } ∷ lines_from (words ++ (last ∷ [])) (at + 1)) (from_place place (lines_from (words ++ (last ∷ [])) (at + 1))))
    (ne_eqb at place (λ h. omega (arith, e, h)))
    ∙ from_last words (at + 1) last place (omega (arith, e))
