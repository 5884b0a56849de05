-- Headers that are enough: more is enough too, and what each number allows alone, all allow together.
use Rattle.std.proofs.Common.{◌≡◌, ℕ, ◌+◌, ◌^◌, ◌<◌, ◌≤◌, Bool, true, false, ◌&&◌, ◌||◌, cond, not, List, [], ◌∷◌, Option, Some, None, refl, sym, ap, ◌∙◌, arith}
use Rattle.std.specs.Prelude.{nat_lt}
use Rattle.std.proofs.lemmas.Bool.{leb-true, le-leb, not-false, not_from_true, or_parts, or_from}
use Rattle.nand_geometry.specs.declared.parts.Parts.{Parts}
use Rattle.nand_geometry.specs.Limits.{planes}
use Rattle.onfi_cycle.specs.declared.command.Command.{Command}
use Rattle.onfi_cycle.specs.declared.command.Command.TheVariants.{ReadCacheSequential}
use Rattle.onfi_cycle.specs.Command.{command}
use Rattle.micro_word.specs.declared.word.Word.{Word}
use Rattle.micro_word.specs.declared.word.Word.TheVariants.{Address, Get, Put}
use Rattle.micro_word.specs.declared.word.Word.TheVariants.{Command as CommandWord}
use Rattle.micro_program.specs.Program.{cost}
use Rattle.micro_claims.specs.Spans.{bound_plus, is_at_most}
use Rattle.micro_claims.specs.declared.refusal.Reason.{Reason}
use Rattle.micro_claims.specs.declared.refusal.Reason.TheVariants.{CycleForbidden, AddressUnaligned, HandoverInSequence, BufferPassed, RowOrPlaneOutside, ColumnTooLarge, NoStatus, EndsTooSoon, OverBudget, CommandNotAllowed}
use Rattle.micro_claims.specs.declared.refusal.Fault.{Fault}
use Rattle.micro_claims.specs.declared.state.State.{State}
use Rattle.micro_claims.specs.declared.bounds.Bounds.{Bounds}
use Rattle.micro_claims.specs.Against.{is_unfit, place_wants, command_past_rows, row_outside, command_not_for_programs, continues_unseen}
use Rattle.micro_claims.specs.Reasons.{breaks_cycle_forbidden, breaks_address_unaligned, breaks_handover_in_sequence, breaks_buffer_passed, breaks_row_or_plane_outside, breaks_column_too_large, breaks_no_status, breaks_ends_too_soon, breaks_over_budget, breaks_command_not_allowed, reason_against}
use Rattle.micro_claims.specs.Planes.{are_below}
use Rattle.micro_claims.specs.Certificate.{claim}
use Rattle.micro_walk.specs.Shape.{or_fault, shape_fault}
use Rattle.micro_walk.specs.Faults.{led_from, known_first, reason_at, fault_or, followed, has_loop, fault_within}
use Rattle.micro_explain.specs.declared.header_number.HeaderNumber.TheVariants.{Rows, Buffer, Budget}
use Rattle.micro_lint.specs.declared.header.Header.{Header}
use Rattle.micro_lint.specs.Least.{bounds_with, IsEnough, largest_but}

-- 1. nothing is against a word: reason by reason

record IsClear (g : Parts) (b : Bounds) (s : State) (w : Word) : Type 0 where
  no_cycle_forbidden : breaks_cycle_forbidden g s w ≡ false
  no_address_unaligned : breaks_address_unaligned s w ≡ false
  no_handover_in_sequence : breaks_handover_in_sequence s w ≡ false
  no_buffer_passed : breaks_buffer_passed b.buffer s w ≡ false
  no_row_or_plane_outside : breaks_row_or_plane_outside g b.rows s w ≡ false
  no_column_too_large : breaks_column_too_large g s w ≡ false
  status_known : breaks_no_status s w ≡ false
  no_ends_too_soon : breaks_ends_too_soon s w ≡ false
  no_over_budget : breaks_over_budget g b.budget s w ≡ false
  no_command_not_allowed : breaks_command_not_allowed g b w ≡ false

passed : (b : Bool) (r : Reason) (o : Option Reason) → cond b (Some r) o ≡ None → (b ≡ false) × (o ≡ None)
passed true r o h = cc
passed false r o h = (refl, h)

clear_of : (g : Parts) (b : Bounds) (s : State) (w : Word) → reason_against g b s w ≡ None → IsClear g b s w
unfolding reason_against
clear_of g b s w h =
    let p7 = passed (breaks_cycle_forbidden g s w) CycleForbidden _ h in
    let p8 = passed (breaks_address_unaligned s w) AddressUnaligned _ p7.1 in
    let p9 = passed (breaks_handover_in_sequence s w) HandoverInSequence _ p8.1 in
    let p10 = passed (breaks_buffer_passed b.buffer s w) BufferPassed _ p9.1 in
    let p11 = passed (breaks_row_or_plane_outside g b.rows s w) RowOrPlaneOutside _ p10.1 in
    let p12 = passed (breaks_column_too_large g s w) ColumnTooLarge _ p11.1 in
    let p13 = passed (breaks_no_status s w) NoStatus _ p12.1 in
    let p14 = passed (breaks_ends_too_soon s w) EndsTooSoon _ p13.1 in
    let p15 = passed (breaks_over_budget g b.budget s w) OverBudget _ p14.1 in
    let p16 = passed (breaks_command_not_allowed g b w) CommandNotAllowed _ p15.1 in
    record {
      no_cycle_forbidden = p7.0;
      no_address_unaligned = p8.0;
      no_handover_in_sequence = p9.0;
      no_buffer_passed = p10.0;
      no_row_or_plane_outside = p11.0;
      no_column_too_large = p12.0;
      status_known = p13.0;
      no_ends_too_soon = p14.0;
      no_over_budget = p15.0;
      no_command_not_allowed = p16.0;
    }

of_clear : (g : Parts) (b : Bounds) (s : State) (w : Word) → IsClear g b s w → reason_against g b s w ≡ None
unfolding reason_against
of_clear g b s w c =
    rw c.no_cycle_forbidden (rw c.no_address_unaligned (rw c.no_handover_in_sequence (rw c.no_buffer_passed (rw c.no_row_or_plane_outside
    (rw c.no_column_too_large (rw c.status_known (rw c.no_ends_too_soon (rw c.no_over_budget (rw c.no_command_not_allowed refl)))))))))

-- 2. more is enough

at_most_more : (o : Option ℕ) (m n : ℕ) → m ≤ n → not (is_at_most o m) ≡ false → not (is_at_most o n) ≡ false
at_most_more None m n le h = h
at_most_more (Some k) m n le h = let low = leb-true k m (not-false _ h) in not_from_true _ (le-leb k n (omega arith))

-- where a test beside another stays false
and_more : (x y z : Bool) → (y ≡ false → z ≡ false) → (x && y) ≡ false → (x && z) ≡ false
and_more true y z more h = more h
and_more false y z more h = h

or_more : (x y z : Bool) → (x ≡ false → z ≡ false) → (x || y) ≡ false → (z || y) ≡ false
or_more x y z more h = let p = or_parts x y h in or_from z y (more p.0) p.1

past_rows_more : (g : Parts) (m n : ℕ) → m ≤ n → (s : State) (c : Command) → command_past_rows g m s c ≡ false → command_past_rows g n s c ≡ false
past_rows_more g m n le s ReadCacheSequential h = and_more (not (is_unfit g ReadCacheSequential)) _ _ (and_more (not (place_wants ReadCacheSequential s.target.tail)) _ _ (at_most_more (bound_plus s.lun.cached.index.hi 2) m n le)) h
past_rows_more g m n le s _ h = refl

row_more : (g : Parts) (m n : ℕ) → m ≤ n → (s : State) (from count : ℕ) → row_outside g m s from count ≡ false → row_outside g n s from count ≡ false
row_more g m n le s from count h =
    and_more (nat_lt 2 (from + count)) _ _ (or_more _ (not (are_below (planes g) s.registers.planes)) _ (at_most_more (bound_plus s.registers.index.hi 1) m n le)) h

rows_more : (g : Parts) (m n : ℕ) → m ≤ n → (s : State) (w : Word) → breaks_row_or_plane_outside g m s w ≡ false → breaks_row_or_plane_outside g n s w ≡ false
unfolding breaks_row_or_plane_outside
rows_more g m n le s (CommandWord byte) h = past_rows_more g m n le s (command byte) h
rows_more g m n le s (Address from count) h = row_more g m n le s from count h
rows_more g m n le s _ h = h

buffer_more : (m n : ℕ) → m ≤ n → (s : State) (w : Word) → breaks_buffer_passed m s w ≡ false → breaks_buffer_passed n s w ≡ false
unfolding breaks_buffer_passed
buffer_more m n le s (Get len) h = at_most_more (bound_plus s.registers.place.hi len) m n le h
buffer_more m n le s (Put len) h = at_most_more (bound_plus s.registers.place.hi len) m n le h
buffer_more m n le s _ h = h

budget_more : (g : Parts) (m n : ℕ) → m ≤ n → (s : State) (w : Word) → breaks_over_budget g m s w ≡ false → breaks_over_budget g n s w ≡ false
unfolding breaks_over_budget
budget_more g m n le s w h = and_more (nat_lt 0 (cost g w)) _ _ (at_most_more (bound_plus s.registers.cost.hi (cost g w)) m n le) h

-- 31h is judged by the text alone
same_allowed : (g : Parts) (a b : Bounds) → a.continues_cache_read ≡ b.continues_cache_read → (w : Word) → breaks_command_not_allowed g a w ≡ false → breaks_command_not_allowed g b w ≡ false
unfolding breaks_command_not_allowed
same_allowed g a b same (CommandWord byte) h = allowed (command byte) h
  where
    allowed : (c : Command) → (command_not_for_programs g c || continues_unseen a c) ≡ false → (command_not_for_programs g c || continues_unseen b c) ≡ false
    allowed ReadCacheSequential h = let p = or_parts _ _ h in or_from _ _ p.0 (ap not (sym same) ∙ p.1)
    allowed _ h = h
same_allowed g a b same _ h = h

-- 3. word by word

fault_or_none : (r : Option Reason) (at : ℕ) (later : Option Fault) → fault_or r at later ≡ None → (r ≡ None) × (later ≡ None)
fault_or_none None at later h = (refl, h)
fault_or_none (Some r) at later h = cc

fault_or_of : (r : Option Reason) (at : ℕ) (later : Option Fault) → r ≡ None → later ≡ None → fault_or r at later ≡ None
fault_or_of r at later e h = rw e h

-- what is clear by three bounds is clear by a fourth
Meets : Parts → (a b c d : Bounds) → Type 0
Meets g a b c d = (s : State) (w : Word) → IsClear g a s w → IsClear g b s w → IsClear g c s w → IsClear g d s w

meets_at : (g : Parts) (a b c d : Bounds) → Meets g a b c d → (o : Option State) (w : Word) → reason_at g a o w ≡ None → reason_at g b o w ≡ None → reason_at g c o w ≡ None → reason_at g d o w ≡ None
unfolding Meets
meets_at g a b c d m None w x y z = refl
meets_at g a b c d m (Some s) w x y z = of_clear g d s w (m s w (clear_of g a s w x) (clear_of g b s w y) (clear_of g c s w z))

followed_meets : (g : Parts) (a b c d : Bounds) → Meets g a b c d → (known : List (Option State)) (at : ℕ) (words : List Word) → followed g a known at words ≡ None → followed g b known at words ≡ None → followed g c known at words ≡ None → followed g d known at words ≡ None
followed_meets g a b c d m known at [] x y z = refl
followed_meets g a b c d m known at (w ∷ words) x y z =
    let later = led_from g known at (claim known at) w in
    let p = fault_or_none (reason_at g a (claim known at) w) at (followed g a later (at + 1) words) x in
    let q = fault_or_none (reason_at g b (claim known at) w) at (followed g b later (at + 1) words) y in
    let r = fault_or_none (reason_at g c (claim known at) w) at (followed g c later (at + 1) words) z in
    fault_or_of (reason_at g d (claim known at) w) at (followed g d later (at + 1) words)
    (meets_at g a b c d m (claim known at) w p.0 q.0 r.0)
    (followed_meets g a b c d m later (at + 1) words p.1 q.1 r.1)

-- 4. of a text without loops

parts_within : (o : Option Fault) (loops : Bool) (x : Option Fault) → loops ≡ false → or_fault o (cond loops None x) ≡ None → (o ≡ None) × (x ≡ None)
parts_within None false x e h = (refl, h)
parts_within None true x e h = cc
parts_within (Some f) loops x e h = cc

within_of : (o : Option Fault) (loops : Bool) (x : Option Fault) → o ≡ None → x ≡ None → or_fault o (cond loops None x) ≡ None
within_of o true x e h = rw e refl
within_of o false x e h = rw e h

meets_within : (g : Parts) (a b c d : Bounds) → Meets g a b c d → (words : List Word) → has_loop words ≡ false → fault_within g a words ≡ None → fault_within g b words ≡ None → fault_within g c words ≡ None → fault_within g d words ≡ None
meets_within g a b c d m words never x y z =
    let p = parts_within (shape_fault words) (has_loop words) (followed g a (known_first words) 0 words) never x in
    let q = parts_within (shape_fault words) (has_loop words) (followed g b (known_first words) 0 words) never y in
    let r = parts_within (shape_fault words) (has_loop words) (followed g c (known_first words) 0 words) never z in
    within_of (shape_fault words) (has_loop words) (followed g d (known_first words) 0 words) p.0 (followed_meets g a b c d m (known_first words) 0 words p.1 q.1 r.1)

-- more of each number
more_meets : (g : Parts) (a b : Bounds) → a.rows ≤ b.rows → a.buffer ≤ b.buffer → a.budget ≤ b.budget → a.continues_cache_read ≡ b.continues_cache_read → Meets g a a a b
unfolding Meets
more_meets g a b rows buffer budget same s w x y z =
    record {
      no_cycle_forbidden = x.no_cycle_forbidden;
      no_address_unaligned = x.no_address_unaligned;
      no_handover_in_sequence = x.no_handover_in_sequence;
      no_buffer_passed = buffer_more a.buffer b.buffer buffer s w x.no_buffer_passed;
      no_row_or_plane_outside = rows_more g a.rows b.rows rows s w x.no_row_or_plane_outside;
      no_column_too_large = x.no_column_too_large;
      status_known = x.status_known;
      no_ends_too_soon = x.no_ends_too_soon;
      no_over_budget = budget_more g a.budget b.budget budget s w x.no_over_budget;
      no_command_not_allowed = same_allowed g a b same w x.no_command_not_allowed;
    }

-- the rows of one, the buffer of another, the budget of a third
three_meet : (g : Parts) (a b c d : Bounds) → d.rows ≡ a.rows → d.buffer ≡ b.buffer → d.budget ≡ c.budget → a.continues_cache_read ≡ d.continues_cache_read → Meets g a b c d
unfolding Meets
three_meet g a b c d rows buffer budget same s w x y z =
    record {
      no_cycle_forbidden = x.no_cycle_forbidden;
      no_address_unaligned = x.no_address_unaligned;
      no_handover_in_sequence = x.no_handover_in_sequence;
      no_buffer_passed = ap (λ (n : ℕ). breaks_buffer_passed n s w) buffer ∙ y.no_buffer_passed;
      no_row_or_plane_outside = ap (λ (n : ℕ). breaks_row_or_plane_outside g n s w) rows ∙ x.no_row_or_plane_outside;
      no_column_too_large = x.no_column_too_large;
      status_known = x.status_known;
      no_ends_too_soon = x.no_ends_too_soon;
      no_over_budget = ap (λ (n : ℕ). breaks_over_budget g n s w) budget ∙ z.no_over_budget;
      no_command_not_allowed = same_allowed g a d same w x.no_command_not_allowed;
    }

-- a header that gives more of each number, as far as one can, is enough too
pub more_is_enough : (g : Parts) (words : List Word) → has_loop words ≡ false → (h k : Header) → h.rows ≤ k.rows → k.rows ≤ 4096 → h.buffer ≤ k.buffer → k.buffer ≤ 16777215 → h.budget ≤ k.budget → k.budget < 2 ^ 32 → IsEnough g words h → IsEnough g words k
more_is_enough g words never h k rows most_rows buffer most_buffer budget most_budget e =
    let some = e.some_rows in
    record {
      some_rows = omega arith;
      rows = most_rows;
      buffer = most_buffer;
      budget = most_budget;
      accepted = meets_within g (bounds_with h words) (bounds_with h words) (bounds_with h words) (bounds_with k words) (more_meets g (bounds_with h words) (bounds_with k words) rows buffer budget refl) words never e.accepted e.accepted e.accepted;
    }

-- the numbers that are enough alone are enough together
pub numbers_meet : (g : Parts) (words : List Word) → has_loop words ≡ false → (h : Header) → IsEnough g words (largest_but Rows h.rows) → IsEnough g words (largest_but Buffer h.buffer) → IsEnough g words (largest_but Budget h.budget) → IsEnough g words h
numbers_meet g words never h x y z =
    record {
      some_rows = x.some_rows;
      rows = x.rows;
      buffer = y.buffer;
      budget = z.budget;
      accepted = meets_within g (bounds_with (largest_but Rows h.rows) words) (bounds_with (largest_but Buffer h.buffer) words) (bounds_with (largest_but Budget h.budget) words) (bounds_with h words)
          (three_meet g (bounds_with (largest_but Rows h.rows) words) (bounds_with (largest_but Buffer h.buffer) words) (bounds_with (largest_but Budget h.budget) words) (bounds_with h words) refl refl refl refl) words never x.accepted y.accepted z.accepted;
    }
