-- Operations inside a geometry: what their numbers are, and the header of their text.
use Rattle.std.proofs.Common.{◌≡◌, ℕ, ◌+◌, ◌*◌, ◌^◌, ◌≤◌, ◌<◌, ◌==◌, Bool, true, false, ◌||◌, nat_le, nat_lt, cond, max, List, [], ◌∷◌, Option, Some, None, refl, ap, ◌∙◌, arith, length}
use Rattle.std.proofs.Math.Nat.{le-max_left, le-max_right, max-le}
use Rattle.std.proofs.lemmas.Bool.Decides.{nat_tests}
use Rattle.std.proofs.Math.Pow.{pow_mono}
use Rattle.std.proofs.lemmas.Bool.{or_parts as neither}
use Rattle.nand_geometry.specs.declared.parts.Parts.{Parts}
use Rattle.nand_geometry.specs.Limits.{InLimits, page_len, planes, indices}
use Rattle.micro_claims.specs.Planes.{no_planes, just_plane, are_below}
use Rattle.std.proofs.lemmas.Nat.{pow_pos}
use Rattle.micro_claims.proofs.PlaneSets.{below_just}
use Rattle.micro_verify.specs.declared.plain_op.PlainOp.{PlainOp}
use Rattle.micro_verify.specs.declared.plain_op.PlainOp.TheVariants.{Read, Program, Erase}
use Rattle.micro_verify.specs.declared.plain_refusal.PlainFault.TheVariants.{NoOperations, TooManyWords}
use Rattle.micro_verify.specs.Plain.{operations_len, plain_words, row_of, rows_of, buffer_end, buffer_of, budget_of, is_row_outside, are_bytes_outside, is_outside, first_outside, outside_fault, plain_fault}
use Rattle.micro_verify.proofs.PlainShapes.{words_long}

-- the row and the plane of an operation
pub record RowFits (g : Parts) (row plane : ℕ) : Type 0 where
  pub plane_there : plane < planes g
  pub row_there : row < 4096

pub row_fits : (g : Parts) (row plane : ℕ) → is_row_outside g row plane ≡ false → RowFits g row plane
row_fits g row plane h =
    let one = neither (nat_le (planes g) plane || nat_le 4096 row) (nat_le (indices g) row) h in
    let two = neither (nat_le (planes g) plane) (nat_le 4096 row) one.0 in
    let a = two.0 in
    let b = two.1 in
    record { plane_there = grind (arith, nat_tests, a); row_there = grind (arith, nat_tests, b) }

-- its bytes
pub record BytesFit (g : Parts) (column place len : ℕ) : Type 0 where
  pub some : 1 ≤ len
  pub page : column + len ≤ page_len g
  pub buffer : place + len ≤ 16777215

pub bytes_fit : (g : Parts) (column place len : ℕ) → are_bytes_outside g column place len ≡ false → BytesFit g column place len
bytes_fit g column place len h =
    let one = neither (len == 0 || nat_lt (page_len g) (column + len)) (nat_lt 16777215 (place + len)) h in
    let two = neither (len == 0) (nat_lt (page_len g) (column + len)) one.0 in
    let a = two.0 in
    let b = two.1 in
    let c = one.1 in
    record { some = grind (arith, nat_tests, a); page = grind (arith, nat_tests, b); buffer = grind (arith, nat_tests, c) }

pub part_fits : (g : Parts) (row plane column place len : ℕ) → (is_row_outside g row plane || are_bytes_outside g column place len) ≡ false → RowFits g row plane × BytesFit g column place len
part_fits g row plane column place len h =
    let both = neither (is_row_outside g row plane) (are_bytes_outside g column place len) h in
    (row_fits g row plane both.0, bytes_fit g column place len both.1)

-- none of the operations is outside
abbrev pub AllInside : Parts → List PlainOp → Type 0
AllInside g [] = Unit {0}
AllInside g (op ∷ ops) = (is_outside g op ≡ false) × AllInside g ops

none_chosen : (b : Bool) (at : ℕ) (later : Option ℕ) → cond b (Some at) later ≡ None → (b ≡ false) × (later ≡ None)
none_chosen false at later h = (refl, h)
none_chosen true at later h = absurd cc

all_inside : (g : Parts) (ops : List PlainOp) (at : ℕ) → first_outside g at ops ≡ None → AllInside g ops
all_inside g [] at h = tt
all_inside g (op ∷ ops) at h =
    let parts = none_chosen (is_outside g op) at (first_outside g (at + 1) ops) h in
    (parts.0, all_inside g ops (at + 1) parts.1)

-- operations without a fault
pub record AreFine (g : Parts) (ops : List PlainOp) : Type 0 where
  pub some : (length ops == 0) ≡ false
  pub few : operations_len ops + 2 ≤ 1024
  pub inside : AllInside g ops

-- ---- planes and pages of a geometry inside the limits

pub few_planes : (g : Parts) → InLimits g → planes g ≤ 4
few_planes g l = pow_mono l.plane_bits_most

pub short_page : (g : Parts) → InLimits g → page_len g ≤ 20480
short_page g l = let bytes = l.page_bytes_most in let spare = l.spare_bytes_most in omega (arith, bytes, spare)

pub plane_below : (count plane : ℕ) → plane < count → are_below count (just_plane plane) ≡ true
plane_below count plane h = at (nat_lt plane 4) refl
  where
    at : (b : Bool) → nat_lt plane 4 ≡ b → are_below count (just_plane plane) ≡ true
    at true e = below_just count plane (let low : plane ≤ 3 = grind (arith, nat_tests, e) in low) ∙ (let b : nat_lt plane count ≡ true = grind (arith, nat_tests, h) in b)
    at false e = ap (λ (b : Bool). are_below count (cond b (record { 0 = 2 ^ plane }) no_planes)) e ∙ (let some = pow_pos count in let b : nat_lt 0 (2 ^ count) ≡ true = grind (arith, nat_tests, some) in b)

-- ---- the header

max_parts : (a b n : ℕ) → max a b ≤ n → (a ≤ n) × (b ≤ n)
max_parts a b n h = let left = le-max_left a b in let right = le-max_right a b in (omega (arith, h, left), omega (arith, h, right))

pub rows_parts : (op : PlainOp) (ops : List PlainOp) (n : ℕ) → rows_of (op ∷ ops) ≤ n → (row_of op + 1 ≤ n) × (rows_of ops ≤ n)
rows_parts op ops n h = max_parts (row_of op + 1) (rows_of ops) n h

pub buffer_parts : (op : PlainOp) (ops : List PlainOp) (n : ℕ) → buffer_of (op ∷ ops) ≤ n → (buffer_end op ≤ n) × (buffer_of ops ≤ n)
buffer_parts op ops n h = max_parts (buffer_end op) (buffer_of ops) n h

pub rows_fit : (g : Parts) (ops : List PlainOp) → AllInside g ops → rows_of ops ≤ 4096
rows_fit g [] h = omega arith
rows_fit g (Read row plane column place len ∷ ops) h = let fits = (part_fits g row plane column place len h.0).0.row_there in max-le (omega (arith, fits)) (rows_fit g ops h.1)
rows_fit g (Program row plane column place len ∷ ops) h = let fits = (part_fits g row plane column place len h.0).0.row_there in max-le (omega (arith, fits)) (rows_fit g ops h.1)
rows_fit g (Erase row plane ∷ ops) h = let fits = (row_fits g row plane h.0).row_there in max-le (omega (arith, fits)) (rows_fit g ops h.1)

pub buffer_fits : (g : Parts) (ops : List PlainOp) → AllInside g ops → buffer_of ops ≤ 16777215
buffer_fits g [] h = omega arith
buffer_fits g (Read row plane column place len ∷ ops) h = max-le (part_fits g row plane column place len h.0).1.buffer (buffer_fits g ops h.1)
buffer_fits g (Program row plane column place len ∷ ops) h = max-le (part_fits g row plane column place len h.0).1.buffer (buffer_fits g ops h.1)
buffer_fits g (Erase row plane ∷ ops) h = max-le (omega arith) (buffer_fits g ops h.1)

-- no word costs more than 3,000 cycles on an average
cost_per_word : (g : Parts) → InLimits g → (ops : List PlainOp) → AllInside g ops → budget_of ops ≤ 3000 * operations_len ops
cost_per_word g l [] h = omega arith
cost_per_word g l (Read row plane column place len ∷ ops) h =
    let page = (part_fits g row plane column place len h.0).1.page in
    let long = short_page g l in
    let more = cost_per_word g l ops h.1 in
    omega (arith, page, long, more)
cost_per_word g l (Program row plane column place len ∷ ops) h =
    let page = (part_fits g row plane column place len h.0).1.page in
    let long = short_page g l in
    let more = cost_per_word g l ops h.1 in
    omega (arith, page, long, more)
cost_per_word g l (Erase row plane ∷ ops) h = let more = cost_per_word g l ops h.1 in omega (arith, more)

pub budget_fits : (g : Parts) → InLimits g → (ops : List PlainOp) → AllInside g ops → operations_len ops + 2 ≤ 1024 → budget_of ops < 2 ^ 32
budget_fits g l ops h few = let most = cost_per_word g l ops h in omega (arith, most, few)

-- the most of them reaches some row
pub some_rows : (ops : List PlainOp) → (length ops == 0) ≡ false → 1 ≤ rows_of ops
some_rows [] h = absurd cc
some_rows (op ∷ ops) h = let least = le-max_left (row_of op + 1) (rows_of ops) in omega (arith, least)

-- ---- operations without a fault

no_fault : (empty many : Bool) (outside : Option ℕ) → cond empty (Some NoOperations) (cond many (Some TooManyWords) (outside_fault outside)) ≡ None → (empty ≡ false) × ((many ≡ false) × (outside ≡ None))
no_fault true many outside h = absurd cc
no_fault false true outside h = absurd cc
no_fault false false None h = (refl, (refl, refl))
no_fault false false (Some at) h = absurd cc

pub are_fine : (g : Parts) (ops : List PlainOp) → plain_fault g ops ≡ None → AreFine g ops
are_fine g ops h =
    let parts = no_fault (length ops == 0) (nat_lt 1024 (length (plain_words ops))) (first_outside g 0 ops) h in
    let few = parts.1.0 in
    let long = words_long (operations_len ops + 1) ops in
    record { some = parts.0; few = grind (arith, nat_tests, few, long); inside = all_inside g ops 0 parts.1.1 }
