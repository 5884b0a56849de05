-- What isn't against a word in a claim isn't against it in an actual claim of which it is claimed.
use Rattle.std.proofs.Common.{◌≡◌, ℕ, ◌-◌, ◌≤◌, ◌==◌, Bool, true, false, ◌&&◌, ◌||◌, cond, not, Option, Some, None, refl, sym, ap, ◌∙◌, subst, arith, eqb-true}
use Rattle.std.specs.Prelude.{nat_le, nat_lt, min}
use Rattle.std.proofs.lemmas.Bool.Decides.{nat_tests}
use Rattle.std.proofs.lemmas.Bool.{not-false, or_left, or_parts, and_parts, and_from}
use Rattle.nand_geometry.specs.declared.parts.Parts.{Parts}
use Rattle.nand_geometry.specs.Limits.{InLimits, page_len}
use Rattle.onfi_cycle.specs.declared.command.Command.{Command}
use Rattle.onfi_cycle.specs.declared.command.Command.TheVariants.{Read, ReadId, ReadCacheSequential, ChangeReadColumnConfirm, ChangeWriteColumn, ChangeReadColumn, ChangeReadColumnEnhanced, BlockErase}
use Rattle.onfi_cycle.specs.declared.register.Register.{Register}
use Rattle.onfi_cycle.specs.declared.register.Register.TheVariants.{Empty, Page, ParameterPage, Identifier, Identity, JedecIdentity, UniqueId, Features}
use Rattle.onfi_cycle.specs.Rules.{register_len}
use Rattle.micro_word.specs.declared.word.Word.{Word}
use Rattle.micro_claims.specs.declared.refusal.Reason.{Reason}
use Rattle.micro_claims.specs.declared.refusal.Reason.TheVariants.{CycleForbidden, AddressUnaligned, HandoverInSequence, BufferPassed, RowOrPlaneOutside, ColumnTooLarge, NoStatus, EndsTooSoon, OverBudget, CommandNotAllowed}
use Rattle.micro_claims.specs.Spans.{Span}
use Rattle.micro_claims.specs.Spans.{bound_plus, is_at_most, only}
use Rattle.micro_claims.specs.declared.state.State.{State}
use Rattle.micro_claims.specs.declared.place.Place.{Place}
use Rattle.micro_claims.specs.declared.shown.Shown.{Shown}
use Rattle.micro_claims.specs.declared.held.Held.{Held}
use Rattle.micro_claims.specs.declared.output_column.OutputColumn.{OutputColumn}
use Rattle.micro_claims.specs.declared.queued_rows.QueuedRows.{QueuedRows}
use Rattle.micro_claims.specs.declared.queued_rows.QueuedRows.TheVariants.{NoRows, SomeRows, SomeReads, AnyRows}
use Rattle.micro_claims.specs.declared.drift.Drift.{Drift}
use Rattle.micro_claims.specs.declared.bounds.Bounds.{Bounds}
use Rattle.micro_claims.specs.declared.place.Place.TheVariants.{Unknown, Closed, After, InData, InColumn, InFeatures}
use Rattle.micro_claims.specs.declared.planes.Planes.{Planes}
use Rattle.micro_claims.specs.Against.{shows_only_data, drives, may_show_data, has_register, holds_short, has_page_or_parameters, has_column, length_of, least_length, may_be_queued, is_read, is_erase, same_test, queue_refuses, byte_of_column, takes_any_byte, takes_identity, is_identity_byte, is_open_place, place_wants, selects_plane_at, is_in_features, takes_inputs_at, is_inside_address, address_out_of_place, is_unfit, command_out_of_place}
use Rattle.micro_claims.specs.Reasons.{breaks_cycle_forbidden, breaks_address_unaligned, breaks_handover_in_sequence, breaks_buffer_passed, breaks_row_or_plane_outside, breaks_column_too_large, breaks_no_status, breaks_ends_too_soon, breaks_over_budget, breaks_command_not_allowed, reason_against}
use Rattle.micro_claims.specs.declared.planes.Planes.{Planes}
use Rattle.micro_claims.specs.Planes.{has_plane, share_a_plane, are_below}
use Rattle.micro_claims.specs.Order.{top, SpanAt, SpanIs, AllAmong, May, PlaceIs, Anywhere, NothingOpen, Exactly, ShowsIs, RegisterIs, RegisteredIs, HasOutput, RowsAre}
use Rattle.micro_claims.specs.State.{shows_status, holds_page, holds_parameters, holds_identifier, holds_identity, holds_jedec, holds_unique_id, holds_feature}
use Rattle.micro_claims.proofs.PlaneSets.{below_count, below_all, shared, sharing}
use Rattle.micro_claims.proofs.Fits.{register_among}
use Rattle.micro_claims.proofs.Words.{held_length}
use Rattle.micro_claims.proofs.Identities.{any_byte, least_is}
use Rattle.micro_walk.proofs.SpanLaws.{at_most_too, only_too}
use Rattle.micro_walk.proofs.Shapes.{or_on, not_on, same_on}
use Rattle.onfi_cycle.specs.Command.{closes, address_cycles}
use Rattle.nand_geometry.specs.Optional.{has_copyback}

-- 1. nothing is against a word

pub record Clear (g : Parts) (b : Bounds) (s : State) (word : Word) : Type 0 where
  pub no_cycle_forbidden : breaks_cycle_forbidden g s word ≡ false
  pub no_address_unaligned : breaks_address_unaligned s word ≡ false
  pub no_handover_in_sequence : breaks_handover_in_sequence s word ≡ false
  pub no_buffer_passed : breaks_buffer_passed b.buffer s word ≡ false
  pub no_row_or_plane_outside : breaks_row_or_plane_outside g b.rows s word ≡ false
  pub no_column_too_large : breaks_column_too_large g s word ≡ false
  pub no_no_status : breaks_no_status s word ≡ false
  pub no_ends_too_soon : breaks_ends_too_soon s word ≡ false
  pub no_over_budget : breaks_over_budget g b.budget s word ≡ false
  pub no_command_not_allowed : breaks_command_not_allowed g b word ≡ false

passed : (c : Bool) (r : Reason) (o : Option Reason) → cond c (Some r) o ≡ None → (c ≡ false) × (o ≡ None)
passed true r o h = absurd cc
passed false r o h = (refl, h)

pub clear_of : (g : Parts) (b : Bounds) (v : State) (word : Word) → reason_against g b v word ≡ None → Clear g b v word
unfolding reason_against
clear_of g b v word h =
    let p7 = passed (breaks_cycle_forbidden g v word) CycleForbidden _ h in
    let p8 = passed (breaks_address_unaligned v word) AddressUnaligned _ p7.1 in
    let p9 = passed (breaks_handover_in_sequence v word) HandoverInSequence _ p8.1 in
    let p10 = passed (breaks_buffer_passed b.buffer v word) BufferPassed _ p9.1 in
    let p11 = passed (breaks_row_or_plane_outside g b.rows v word) RowOrPlaneOutside _ p10.1 in
    let p12 = passed (breaks_column_too_large g v word) ColumnTooLarge _ p11.1 in
    let p13 = passed (breaks_no_status v word) NoStatus _ p12.1 in
    let p14 = passed (breaks_ends_too_soon v word) EndsTooSoon _ p13.1 in
    let p15 = passed (breaks_over_budget g b.budget v word) OverBudget _ p14.1 in
    let p16 = passed (breaks_command_not_allowed g b word) CommandNotAllowed _ p15.1 in
    record { no_cycle_forbidden = p7.0; no_address_unaligned = p8.0; no_handover_in_sequence = p9.0; no_buffer_passed = p10.0; no_row_or_plane_outside = p11.0; no_column_too_large = p12.0; no_no_status = p13.0; no_ends_too_soon = p14.0; no_over_budget = p15.0; no_command_not_allowed = p16.0 }

goes_by : (c : Bool) (r : Reason) (o : Option Reason) → c ≡ false → o ≡ None → cond c (Some r) o ≡ None
goes_by true r o h k = absurd cc
goes_by false r o h k = k

pub none_of : (g : Parts) (b : Bounds) (v : State) (word : Word) → Clear g b v word → reason_against g b v word ≡ None
unfolding reason_against
none_of g b v word c =
    goes_by _ CycleForbidden _ c.no_cycle_forbidden (goes_by _ AddressUnaligned _ c.no_address_unaligned (goes_by _ HandoverInSequence _ c.no_handover_in_sequence (goes_by _ BufferPassed _ c.no_buffer_passed (goes_by _ RowOrPlaneOutside _ c.no_row_or_plane_outside (goes_by _ ColumnTooLarge _ c.no_column_too_large
    (goes_by _ NoStatus _ c.no_no_status (goes_by _ EndsTooSoon _ c.no_ends_too_soon (goes_by _ OverBudget _ c.no_over_budget (goes_by _ CommandNotAllowed _ c.no_command_not_allowed refl)))))))))

-- 2. tests of one part

pub or_false : (b : Bool) → (b || false) ≡ true → b ≡ true
or_false true h = refl
or_false false h = h

-- tests of the place of the tail

pub open_too : (s a : Place) → PlaceIs s a → May (is_open_place a) (is_open_place s)
open_too _ _ (Anywhere p) h = refl
open_too _ _ (NothingOpen p e) h = absurd (let x : true ≡ false = sym h ∙ e in cc)
open_too _ _ (Exactly p) h = h

pub wants_too : (c : Command) (s a : Place) → PlaceIs s a → May (place_wants c s) (place_wants c a)
wants_too c _ _ (Anywhere p) h = absurd cc
wants_too c _ _ (NothingOpen p e) h = absurd cc
wants_too c _ _ (Exactly p) h = h

-- where a plane is selected it is so
pub selects_too : (s a : Place) → PlaceIs s a → May (selects_plane_at s) (selects_plane_at a)
selects_too _ _ (Anywhere p) h = absurd cc
selects_too _ _ (NothingOpen p e) h = absurd cc
selects_too _ _ (Exactly p) h = h

-- where an E0 isn't refused it is known whether a plane is selected
pub known_selects : (g : Parts) (s : State) (p q : Place) → PlaceIs p q → s.target.tail ≡ p → command_out_of_place g s ChangeReadColumnConfirm ≡ false → selects_plane_at p ≡ selects_plane_at q
known_selects g s _ _ (Anywhere q) is h = absurd (let no : true ≡ false = rw is at h in cc)
known_selects g s _ _ (NothingOpen q e) is h = absurd (let no : true ≡ false = rw is at h in cc)
known_selects g s _ _ (Exactly q) is h = refl

-- a 31 that is wanted closes what is open
cache_read_open : (p : Place) → place_wants ReadCacheSequential p ≡ true → is_open_place p ≡ true
cache_read_open Closed h = absurd cc
cache_read_open InData h = absurd cc
cache_read_open (InColumn n) h = absurd cc
cache_read_open (InFeatures n) h = absurd cc
cache_read_open Unknown h = absurd cc
cache_read_open (After o n) h = by o h
  where
    five : (n : ℕ) → (n == 5) ≡ true → (nat_lt 0 n && nat_le n 5) ≡ true
    five n h = let is : n ≡ 5 = eqb-true n 5 h in rw is refl

    by : (o : Command) → (closes o ReadCacheSequential && n == address_cycles o) ≡ true → is_open_place (After o n) ≡ true
    by Read h = five n h
    by _ h = absurd cc

pub closed_unwanted : (q : Place) → is_open_place q ≡ false → place_wants ReadCacheSequential q ≡ false
closed_unwanted q e = at (place_wants ReadCacheSequential q) refl
  where
    at : (b : Bool) → place_wants ReadCacheSequential q ≡ b → b ≡ false
    at true w = absurd (let no : true ≡ false = sym (cache_read_open q w) ∙ e in cc)
    at false w = refl

-- and where it isn't refused it is known whether it is wanted
pub known_cache_read : (g : Parts) (s : State) (p q : Place) → PlaceIs p q → s.target.tail ≡ p → is_unfit g ReadCacheSequential ≡ false → command_out_of_place g s ReadCacheSequential ≡ false → place_wants ReadCacheSequential p ≡ place_wants ReadCacheSequential q
known_cache_read g s _ _ (Anywhere q) is fit h = absurd (let no : true ≡ false = rw (is, fit) at h in cc)
known_cache_read g s _ _ (NothingOpen q e) is fit h = sym (closed_unwanted q e)
known_cache_read g s _ _ (Exactly q) is fit h = refl

-- in the data of a program something is open
pub data_closed : (q : Place) → is_open_place q ≡ false → place_wants ChangeWriteColumn q ≡ false
data_closed Closed e = refl
data_closed InData e = absurd cc
data_closed (InColumn n) e = refl
data_closed (InFeatures n) e = refl
data_closed Unknown e = refl
data_closed (After o n) e = ap (λ (b : Bool). b && n == address_cycles o) (none o)
  where
    none : (o : Command) → closes o ChangeWriteColumn ≡ false
    none Read = refl
    none ChangeReadColumn = refl
    none ChangeReadColumnEnhanced = refl
    none BlockErase = refl
    none _ = refl

-- where an 85 isn't refused it is known whether it is wanted
pub known_write_column : (g : Parts) (s : State) (p q : Place) → PlaceIs p q → s.target.tail ≡ p → command_out_of_place g s ChangeWriteColumn ≡ false → place_wants ChangeWriteColumn p ≡ place_wants ChangeWriteColumn q
known_write_column g s _ _ (Anywhere q) is h = absurd (at (has_copyback g.optional) (rw is at h))
  where
    at : (b : Bool) → cond (not (false || not b)) (true || s.lun.busy) (not false || false) ≡ false → ⊥
    at true h = cc
    at false h = cc
known_write_column g s _ _ (NothingOpen q e) is h = sym (data_closed q e)
known_write_column g s _ _ (Exactly q) is h = refl

pub inputs_too : (n : ℕ) (s a : Place) → PlaceIs s a → May (takes_inputs_at n s) (takes_inputs_at n a)
inputs_too n _ _ (Anywhere p) h = absurd cc
inputs_too n _ _ (NothingOpen p e) h = absurd cc
inputs_too n _ _ (Exactly p) h = h

pub features_too : (s a : Place) → PlaceIs s a → May (is_in_features s) (is_in_features a)
features_too _ _ (Anywhere p) h = absurd cc
features_too _ _ (NothingOpen p e) h = absurd cc
features_too _ _ (Exactly p) h = h

-- where inputs may come the place is known
pub known_inputs : (n : ℕ) (s a : Place) → PlaceIs s a → takes_inputs_at n s ≡ true → s ≡ a
known_inputs n _ _ (Anywhere p) h = absurd cc
known_inputs n _ _ (NothingOpen p e) h = absurd cc
known_inputs n _ _ (Exactly p) h = refl

-- inside an address something is open
inside_open : (p : Place) → is_inside_address p ≡ true → is_open_place p ≡ true
inside_open Closed h = absurd cc
inside_open InData h = refl
inside_open (InColumn n) h = refl
inside_open (InFeatures n) h = refl
inside_open Unknown h = refl
inside_open (After o n) h = by o h
  where
    short : (n m : ℕ) → (nat_lt 0 n && nat_lt n m) ≡ true → nat_lt n m ≡ true
    short n m h = (and_parts (nat_lt 0 n) (nat_lt n m) h).1

    read : (n : ℕ) → (nat_lt 0 n && nat_lt n 5) ≡ true → (nat_lt 0 n && nat_le n 5) ≡ true
    read n h = let x = and_parts (nat_lt 0 n) (nat_lt n 5) h in and_from (nat_lt 0 n) (nat_le n 5) x.0 (let y = x.1 in grind (arith, nat_tests, y))

    by : (o : Command) → is_inside_address (After o n) ≡ true → is_open_place (After o n) ≡ true
    by Read h = read n h
    by _ h = or_left _ _ (short n _ h)

pub inside_too : (s a : Place) → PlaceIs s a → May (is_inside_address a) (is_inside_address s)
inside_too _ _ (Anywhere p) h = refl
inside_too _ _ (NothingOpen p e) h = absurd (let x : true ≡ false = sym (inside_open p h) ∙ e in cc)
inside_too _ _ (Exactly p) h = h

-- where an address may come the place is known
pub known_place : (g : Parts) (x : State) (from count : ℕ) (s a : Place) → PlaceIs s a → address_out_of_place g x from count s ≡ false → s ≡ a
known_place g x from count _ _ (Anywhere p) h = absurd cc
known_place g x from count _ _ (NothingOpen p e) h = absurd cc
known_place g x from count _ _ (Exactly p) h = refl

pub planes_on : (count : ℕ) (s a : Planes) → AllAmong a s → May (are_below count s) (are_below count a)
planes_on count s a f h = below_all count a (λ n here. below_count count n s h (f n here))

pub cond_on : (b : Bool) (x y z w : Bool) → May x y → May z w → May (cond b x z) (cond b y w)
cond_on true x y z w f h = f
cond_on false x y z w f h = h

pub at_most_more : (o : Option ℕ) (n k : ℕ) → n ≤ k → is_at_most o n ≡ true → is_at_most o k ≡ true
at_most_more None n k h e = e
at_most_more (Some b) n k h e = at b n k h e
  where
    at : (b n k : ℕ) → n ≤ k → nat_le b n ≡ true → nat_le b k ≡ true
    at b n k h e = grind (arith, nat_tests)

pub most_on : (s a : Option ℕ) (n m k : ℕ) → top a ≤ top s → m ≤ k → May (is_at_most (bound_plus s n) m) (is_at_most (bound_plus a n) k)
most_on s a n m k h less e = at_most_more (bound_plus a n) m k less (at_most_too s a n m h e)

pub only_data_on : (s a : Option Shown) → ShowsIs s a → May (shows_only_data s) (shows_only_data a)
only_data_on None a f h = absurd cc
only_data_on (Some w) None f h = absurd f
only_data_on (Some w) (Some x) f h = not_on (shows_status w) (shows_status x) f.0 h

pub drives_on : (s a : Option Shown) → ShowsIs s a → May (drives s) (drives a)
drives_on None a f h = absurd cc
drives_on (Some w) None f h = absurd f
drives_on (Some w) (Some x) f h = refl

pub show_on : (s a : Option Shown) → ShowsIs s a → drives s ≡ true → May (may_show_data a) (may_show_data s)
show_on None a f h = absurd cc
show_on (Some w) None f h = absurd f
show_on (Some w) (Some x) f h = f.1.0

pub has_register_on : (s a : Option Held) → RegisteredIs s a → May (has_register s) (has_register a)
has_register_on None a f h = absurd cc
has_register_on (Some w) None f h = absurd f
has_register_on (Some w) (Some x) f h = refl

pub has_page_on : (s a : Option Held) → RegisteredIs s a → May (has_page_or_parameters s) (has_page_or_parameters a)
has_page_on None a f h = absurd cc
has_page_on (Some w) None f h = absurd f
has_page_on (Some w) (Some x) f h = not_on (holds_short w) (holds_short x) (or_on _ _ _ _ f.identifier (or_on _ _ _ _ f.identity (or_on _ _ _ _ f.jedec f.feature))) h

pub has_column_on : (s a : Option OutputColumn) → HasOutput s a → May (has_column s) (has_column a)
has_column_on None a f h = absurd cc
has_column_on (Some w) None f h = absurd f
has_column_on (Some w) (Some x) f h = refl

pub queued_on : (s a : QueuedRows) → RowsAre s a → May (may_be_queued a) (may_be_queued s)
queued_on NoRows a f h = sym (ap may_be_queued f) ∙ h
queued_on AnyRows a f h = refl
queued_on (SomeRows erase ps d) a f h = refl
queued_on (SomeReads ps surely d) a f h = refl

-- what is held is held where it is claimed
among_too : (r q : Held) → RegisterIs r q → (x : Register) → register_among q x ≡ true → register_among r x ≡ true
among_too r q f Empty h = h
among_too r q f (Page p) h = f.page h
among_too r q f ParameterPage h = f.parameters h
among_too r q f Identifier h = f.identifier h
among_too r q f Identity h = f.identity h
among_too r q f JedecIdentity h = f.jedec h
among_too r q f UniqueId h = f.unique_id h
among_too r q f (Features a) h = f.feature h

-- a register that may be held is as short as the least length
record Shortest (g : Parts) (q : Held) (length : ℕ) : Type 0 where
  register : Register
  held : register_among q register ≡ true
  least : register_len g register ≤ length

shorter_page : (g : Parts) (q : Held) → holds_page q ≡ true → holds_parameters q ≡ true → Shortest g q (min 768 (page_len g))
shorter_page g q p m = at (nat_le 768 (page_len g)) refl
  where
    at : (b : Bool) → nat_le 768 (page_len g) ≡ b → Shortest g q (min 768 (page_len g))
    at true e = record { register = ParameterPage; held = m; least = grind (arith, nat_tests, e) }
    at false e = record { register = Page (record { block = 0; page = 0 }); held = p; least = grind (arith, nat_tests, e) }

shortest : (g : Parts) (q : Held) → (holds_page q || (holds_parameters q || (holds_identifier q || (holds_identity q || (holds_jedec q || (holds_unique_id q || holds_feature q)))))) ≡ true → Shortest g q (length_of g q)
shortest g q some = by (holds_identifier q) (holds_feature q) (holds_jedec q) (holds_identity q) (holds_unique_id q) (holds_page q) (holds_parameters q) refl refl refl refl refl refl refl some
  where
    by : (i f j d u p m : Bool) → holds_identifier q ≡ i → holds_feature q ≡ f → holds_jedec q ≡ j → holds_identity q ≡ d → holds_unique_id q ≡ u → holds_page q ≡ p → holds_parameters q ≡ m → (p || (m || (i || (d || (j || (u || f)))))) ≡ true → Shortest g q (cond (i || f) 4 (cond j 6 (cond d 8 (cond u 512 (cond p (cond m (min 768 (page_len g)) (page_len g)) 768)))))
    by true f j d u p m ei ef ej ed eu ep em s = record { register = Identifier; held = ei; least = omega arith }
    by false true j d u p m ei ef ej ed eu ep em s = record { register = Features 0; held = ef; least = omega arith }
    by false false true d u p m ei ef ej ed eu ep em s = record { register = JedecIdentity; held = ej; least = omega arith }
    by false false false true u p m ei ef ej ed eu ep em s = record { register = Identity; held = ed; least = omega arith }
    by false false false false true p m ei ef ej ed eu ep em s = record { register = UniqueId; held = eu; least = omega arith }
    by false false false false false true true ei ef ej ed eu ep em s = shorter_page g q ep em
    by false false false false false true false ei ef ej ed eu ep em s = record { register = Page (record { block = 0; page = 0 }); held = ep; least = omega arith }
    by false false false false false false true ei ef ej ed eu ep em s = record { register = ParameterPage; held = em; least = omega arith }
    by false false false false false false false ei ef ej ed eu ep em s = absurd cc

-- the least length of the register
pub length_on : (g : Parts) → InLimits g → (s a : Option Held) → RegisteredIs s a → least_length g s ≤ least_length g a
length_on g l None a f = omega arith
length_on g l (Some r) None f = absurd f
length_on g l (Some r) (Some q) f =
    let most = l.page_bytes_least in
    let least = shortest g q f.some in
    let held = held_length g r least.register (among_too r q f least.register least.held) (omega (arith, most)) in
    let short = least.least in
    omega (arith, held, short)

pub common_on : (ps ns qs ms : Planes) → AllAmong ns ps → AllAmong ms qs → May (share_a_plane ns ms) (share_a_plane ps qs)
common_on ps ns qs ms f h e = at (shared ns ms e)
  where
    at : (n : ℕ) × ((has_plane n ns ≡ true) × (has_plane n ms ≡ true)) → share_a_plane ps qs ≡ true
    at x = sharing ps qs x.0 (f x.0 x.1.0) (h x.0 x.1.1)

pub queue_on : (s a : QueuedRows) (ps ns : Planes) (opener : Command) → RowsAre s a → AllAmong ns ps → May (queue_refuses a ns opener) (queue_refuses s ps opener)
queue_on NoRows a ps ns opener f h e = absurd (let x = sym (ap (λ (r : QueuedRows). queue_refuses r ns opener) f) ∙ e in cc)
queue_on AnyRows a ps ns opener f h e = refl
queue_on (SomeRows erase qs d) NoRows ps ns opener f h e = absurd cc
queue_on (SomeRows erase qs d) AnyRows ps ns opener f h e = absurd f
queue_on (SomeRows erase qs d) (SomeReads ms some c) ps ns opener f h e = absurd f
queue_on (SomeReads qs surely d) NoRows ps ns opener f h e = absurd cc
queue_on (SomeReads qs surely d) AnyRows ps ns opener f h e = absurd f
queue_on (SomeReads qs surely d) (SomeRows kind ms c) ps ns opener f h e = absurd f
queue_on (SomeReads qs surely d) (SomeReads ms some c) ps ns opener f h e =
    or_on _ _ _ _ (subst (λ (x : Drift). May (not (is_read opener) || not (c.ahead == c.behind)) (not (is_read opener) || not (x.ahead == x.behind))) f.1.1 (same_on _)) (common_on ps ns qs ms h f.1.0) e
queue_on (SomeRows erase qs d) (SomeRows kind ms c) ps ns opener f h e =
    subst (λ (k : Bool). (is_read opener || not (same_test k (is_erase opener)) || not (d.ahead == d.behind) || share_a_plane ps qs) ≡ true) f.0
    (or_on _ _ _ _ (subst (λ (x : Drift). May (is_read opener || not (same_test kind (is_erase opener)) || not (c.ahead == c.behind)) (is_read opener || not (same_test kind (is_erase opener)) || not (x.ahead == x.behind))) f.1.1 (same_on _)) (common_on ps ns qs ms h f.1.0) e)

pub identity_byte_on : (g : Parts) (s a : Span) (opener : Command) (from : ℕ) → SpanIs s a → May (is_identity_byte g opener from (only s)) (is_identity_byte g opener from (only a))
identity_byte_on g s a opener from f h = at (only s) refl h
  where
    any : (o : Option ℕ) → (nat_le from 1 && takes_any_byte opener) ≡ true → is_identity_byte g opener from o ≡ true
    any None h = h
    any (Some n) h = let both = and_parts (nat_le from 1) (takes_any_byte opener) h in and_from (nat_le from 1) (takes_identity g opener (byte_of_column from n)) both.0 (any_byte g opener (byte_of_column from n) both.1)

    at : (o : Option ℕ) → only s ≡ o → is_identity_byte g opener from o ≡ true → is_identity_byte g opener from (only a) ≡ true
    at None e h = any (only a) h
    at (Some n) e h = ap (is_identity_byte g opener from) (only_too s a n f e) ∙ h

-- where 90h takes its byte the column is known
pub known_column : (g : Parts) (s a : State) (from count n : ℕ) → SpanIs s.registers.column a.registers.column → address_out_of_place g s from count (After ReadId n) ≡ false → s.registers.column.lo ≡ a.registers.column.lo
known_column g s a from count n f h = at (1 - n == 0) h
  where
    by : (o : Option ℕ) → only s.registers.column ≡ o → is_identity_byte g ReadId from o ≡ true → s.registers.column.lo ≡ a.registers.column.lo
    by None e h = absurd (let x = (and_parts (nat_le from 1) false h).1 in cc)
    by (Some x) e h = least_is s.registers.column.lo s.registers.column.hi x e ∙ sym (least_is a.registers.column.lo a.registers.column.hi x (only_too s.registers.column a.registers.column x f e))

    at : (b : Bool) → cond b true (nat_lt 1 g.luns || not (count == 1) || not (is_identity_byte g ReadId from (only s.registers.column))) ≡ false → s.registers.column.lo ≡ a.registers.column.lo
    at true h = absurd cc
    at false h = by (only s.registers.column) refl (not-false _ (or_parts (nat_lt 1 g.luns || not (count == 1)) (not (is_identity_byte g ReadId from (only s.registers.column))) h).1)

pub span_is : (v s a : Span) → SpanAt v s a → SpanIs s a
span_is v s a f = record { low = f.low; high = f.high; order = f.order; low_small = f.low_small; small = f.small }
