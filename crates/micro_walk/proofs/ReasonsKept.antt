-- Reason by reason: what isn't against a word in a claim isn't against it in an actual claim of which it is claimed.
use Rattle.std.proofs.Common.{◌≡◌, ℕ, ◌+◌, ◌≤◌, ◌==◌, Bool, true, false, ◌&&◌, ◌||◌, cond, not, Option, Some, None, refl, subst, arith}
use Rattle.std.specs.Prelude.{nat_le, nat_lt}
use Rattle.std.proofs.lemmas.Bool.Decides.{nat_tests}
use Rattle.nand_geometry.specs.declared.parts.Parts.{Parts}
use Rattle.nand_geometry.specs.Limits.{InLimits, planes}
use Rattle.onfi_cycle.specs.declared.command.Command.{Command}
use Rattle.onfi_cycle.specs.declared.command.Command.TheVariants.{Read, ReadPlane, ProgramCache, ChangeReadColumn, ChangeReadColumnEnhanced, ChangeReadColumnConfirm, BlockErase, PageProgram, ChangeWriteColumn, ReadId, ReadParameterPage, ReadUniqueId, GetFeatures, SetFeatures, ReadCacheSequential, ReadCacheEnd, ReadConfirm, CopybackRead}
use Rattle.onfi_cycle.specs.Command.{command, is_opener, addresses_the_array}
use Rattle.micro_word.specs.declared.word.Word.{Word}
use Rattle.micro_word.specs.declared.word.Word.TheVariants.{End, Address, Get, Put, Column, RowAdd, Row, Plane, Wait, Yield, ReadStatus, BranchOnStatus}
use Rattle.micro_word.specs.declared.word.Word.TheVariants.{Command as CommandWord}
use Rattle.micro_program.specs.Program.{cost}
use Rattle.micro_claims.specs.Spans.{Span}
use Rattle.micro_claims.specs.Spans.{bound_plus, is_at_most, greatest_bound}
use Rattle.micro_claims.specs.declared.state.State.{State}
use Rattle.micro_claims.specs.declared.place.Place.{Place}
use Rattle.micro_claims.specs.declared.place.Place.TheVariants.{Closed, After, InData, InColumn, InFeatures, Unknown}
use Rattle.micro_claims.specs.declared.output_column.OutputColumn.{OutputColumn}
use Rattle.micro_claims.specs.declared.bounds.Bounds.{Bounds}
use Rattle.micro_claims.specs.Against.{may_end_sequence, may_be_open, addresses_left, next_address, takes_identity_at, is_inside_address, drives, least_length, is_unfit, identity_opener_refused, opener_refused, closer_refused, command_out_of_place, command_past_rows, has_second_column, column_limit, identity_refused, plane_refused, row_refused, surely_past, address_out_of_place, begins_elsewhere, column_past, row_outside, output_refused, column_bound, output_past, span_bound, input_past, place_wants, is_open_place, copied_planes, copy_refused}
use Rattle.micro_claims.specs.Reasons.{breaks_cycle_forbidden, breaks_address_unaligned, breaks_handover_in_sequence, breaks_buffer_passed, breaks_row_or_plane_outside, breaks_column_too_large, breaks_no_status, breaks_ends_too_soon, breaks_over_budget, breaks_command_not_allowed}
use Rattle.micro_claims.specs.Order.{top, May, column_number, output_number, At, PlaceIs, Anywhere, NothingOpen, Exactly, AllAmong}
use Rattle.micro_walk.proofs.Shapes.{and_on, or_on, not_on, same_on, no_too, one_within}
use Rattle.micro_walk.proofs.TestsKept.{Clear, cond_on, most_on, only_data_on, drives_on, show_on, has_register_on, has_page_on, has_column_on, queued_on, length_on, queue_on, identity_byte_on, span_is, open_too, wants_too, selects_too, inputs_too, features_too, inside_too, known_place, planes_on, closed_unwanted, data_closed}
use Rattle.nand_geometry.specs.Optional.{is_wide, has_copyback, has_odd_even, has_group_cache}
use Rattle.onfi_cycle.specs.Rules.{excludes_cache, excludes_program}

-- 1. parts of reasons, each by the combinators

open_on : (g : Parts) (v s a : State) → At g v s a → May (may_be_open a) (may_be_open s)
open_on g v s a d = open_too s.target.tail a.target.tail d.target.tail

not_drives_on : (g : Parts) (v s a : State) → At g v s a → May (not (drives a.target.shows)) (not (drives s.target.shows))
not_drives_on g v s a d = not_on _ _ (drives_on s.target.shows a.target.shows d.target.shows)

identity_opener_on : (g : Parts) (v s a : State) → At g v s a → May (identity_opener_refused g a) (identity_opener_refused g s)
identity_opener_on g v s a d = and_on _ _ _ _ (same_on _) (or_on _ _ _ _ (or_on _ _ _ _ (or_on _ _ _ _ d.lun.busy (queued_on s.lun.queue a.lun.queue d.lun.queue)) d.lun.last_cache) d.lun.programming)

opener_on : (g : Parts) (v s a : State) → At g v s a → (c : Command) → May (opener_refused g a c) (opener_refused g s c)
opener_on g v s a d ChangeReadColumn =
    or_on _ _ _ _ (or_on _ _ _ _ (not_on _ _ (only_data_on s.target.shows a.target.shows d.target.shows)) d.lun.busy) (not_on _ _ (has_page_on s.lun.register a.lun.register d.lun.register))
opener_on g v s a d Read = d.lun.busy
opener_on g v s a d ChangeReadColumnEnhanced = d.lun.busy
opener_on g v s a d BlockErase = d.lun.busy
opener_on g v s a d PageProgram = d.lun.busy
opener_on g v s a d ChangeWriteColumn = d.lun.busy
opener_on g v s a d ReadId = identity_opener_on g v s a d
opener_on g v s a d ReadParameterPage = identity_opener_on g v s a d
opener_on g v s a d ReadUniqueId = identity_opener_on g v s a d
opener_on g v s a d GetFeatures = identity_opener_on g v s a d
opener_on g v s a d SetFeatures = identity_opener_on g v s a d
opener_on g v s a d ReadCacheSequential =
    or_on _ _ _ _ (or_on _ _ _ _ (or_on _ _ _ _ (not_drives_on g v s a d) d.lun.busy) d.lun.last_other)
    (not_on _ _ (most_on s.lun.cached.page.hi a.lun.cached.page.hi 2 g.pages g.pages d.lun.cached_page.high (omega arith)))
opener_on g v s a d ReadCacheEnd = or_on _ _ _ _ (or_on _ _ _ _ (or_on _ _ _ _ (not_drives_on g v s a d) d.lun.busy) d.lun.last_other) d.lun.last_read
opener_on g v s a d _ = same_on _

closer_on : (g : Parts) (v s a : State) → At g v s a → (c : Command) → May (closer_refused g a c) (closer_refused g s c)
closer_on g v s a d ChangeReadColumnConfirm = and_on _ _ _ _ (not_on _ _ (selects_too s.target.tail a.target.tail d.target.tail)) (not_drives_on g v s a d)
closer_on g v s a d ReadPlane = d.lun.last_cache
closer_on g v s a d CopybackRead = d.lun.last_cache
closer_on g v s a d ReadConfirm = and_on _ _ _ _ (same_on (is_wide g.optional)) d.lun.last_cache
closer_on g v s a d ReadCacheSequential = or_on _ _ _ _ (same_on (not (is_wide g.optional))) d.lun.last_other
closer_on g v s a d ProgramCache =
    or_on _ _ _ _ (and_on _ _ _ _ (same_on (not (has_group_cache g.optional))) (queued_on s.lun.queue a.lun.queue d.lun.queue)) (and_on _ _ _ _ (same_on (has_copyback g.optional)) d.lun.copies.holds)
closer_on g v s a d _ = same_on _

command_on : (g : Parts) (v s a : State) → At g v s a → (c : Command) → May (command_out_of_place g a c) (command_out_of_place g s c)
command_on g v s a d ReadCacheSequential =
    cond_on (is_unfit g ReadCacheSequential) _ _ _ _ (same_on false)
    (at s.target.tail a.target.tail d.target.tail (opener_on g v s a d ReadCacheSequential) (closer_on g v s a d ReadCacheSequential))
  where
    either : (w o c p q : Bool) → May o p → May c q → May (cond (true && not w) o (not w || c)) (cond (true && not w) p (not w || q))
    either true o c p q ho hc h = hc h
    either false o c p q ho hc h = ho h

    closed : (q : Place) → is_open_place q ≡ false → place_wants ReadCacheSequential q ≡ false
    closed q e = closed_unwanted q e

    at : (p q : Place) → PlaceIs p q → {ra rs ca cs : Bool} → May ra rs → May ca cs
        → May (cond (true && not (place_wants ReadCacheSequential q)) (is_open_place q || ra) (not (place_wants ReadCacheSequential q) || ca)) (cond (true && not (place_wants ReadCacheSequential p)) (is_open_place p || rs) (not (place_wants ReadCacheSequential p) || cs))
    at _ _ (Anywhere q) r c h = refl
    at _ _ (NothingOpen q e) {ra} {rs} {ca} {cs} r c h = r (rw (closed q e, e) at h)
    at _ _ (Exactly q) {ra} {rs} {ca} {cs} r c h = either (place_wants ReadCacheSequential q) (is_open_place q || ra) ca (is_open_place q || rs) cs (or_on _ _ _ _ (same_on (is_open_place q)) r) c h
command_on g v s a d ChangeWriteColumn =
    cond_on (is_unfit g ChangeWriteColumn) _ _ _ _ (same_on false)
    (at (has_copyback g.optional) s.target.tail a.target.tail d.target.tail)
  where
    either : (y w o : Bool) {p q : Bool} → May p q → May (cond (true && not (w || not y)) (o || p) (not w || false)) (cond (true && not (w || not y)) (o || q) (not w || false))
    either y true o k h = h
    either false false o k h = h
    either true false o k h = or_on _ _ _ _ (same_on o) k h

    at : (y : Bool) (p q : Place) → PlaceIs p q → May (cond (true && not (place_wants ChangeWriteColumn q || not y)) (is_open_place q || a.lun.busy) (not (place_wants ChangeWriteColumn q) || false)) (cond (true && not (place_wants ChangeWriteColumn p || not y)) (is_open_place p || s.lun.busy) (not (place_wants ChangeWriteColumn p) || false))
    at true _ _ (Anywhere q) h = refl
    at false _ _ (Anywhere q) h = refl
    at true _ _ (NothingOpen q e) h = d.lun.busy (rw (data_closed q e, e) at h)
    at false _ _ (NothingOpen q e) h = refl
    at y _ _ (Exactly q) h = either y (place_wants ChangeWriteColumn q) (is_open_place q) d.lun.busy h
command_on g v s a d c =
    cond_on (is_unfit g c) _ _ _ _ (same_on false)
    (cond_on (is_opener c) _ _ _ _ (or_on _ _ _ _ (and_on _ _ _ _ (same_on (not (may_end_sequence g c))) (open_on g v s a d)) (opener_on g v s a d c))
    (or_on _ _ _ _ (not_on _ _ (wants_too c s.target.tail a.target.tail d.target.tail)) (closer_on g v s a d c)))

rows_on : (g : Parts) (rows : ℕ) (v s a : State) → At g v s a → (c : Command) → May (command_past_rows g rows a c) (command_past_rows g rows s c)
rows_on g rows v s a d ReadCacheSequential = and_on _ _ _ _ (same_on _) (and_on _ _ _ _ (not_on _ _ (wants_too ReadCacheSequential s.target.tail a.target.tail d.target.tail)) (not_on _ _ (most_on s.lun.cached.index.hi a.lun.cached.index.hi 2 rows rows d.lun.cached_index.high (omega arith))))
rows_on g rows v s a d _ = same_on _

-- the outputs of a `get`
drives_of : (b c d : Bool) → (b || not c || d) ≡ false → c ≡ true
drives_of b true d h = refl
drives_of true false d h = absurd cc
drives_of false false d h = absurd cc

output_on : (g : Parts) (v s a : State) → At g v s a → output_refused s ≡ false → output_refused a ≡ false
output_on g v s a d h =
    no_too _ _
    (or_on _ _ _ _ (or_on _ _ _ _ (open_on g v s a d) (not_drives_on g v s a d))
    (and_on _ _ _ _ (show_on s.target.shows a.target.shows d.target.shows (drives_of (may_be_open s) (drives s.target.shows) _ h))
    (or_on _ _ _ _ (or_on _ _ _ _ d.lun.busy (not_on _ _ (has_register_on s.lun.register a.lun.register d.lun.register))) (not_on _ _ (has_column_on s.lun.column a.lun.column d.lun.has_column)))))
    h

column_top : (o : Option OutputColumn) → top (column_bound o) ≡ top (output_number o).hi
column_top None = refl
column_top (Some k) = refl

span_top : (o : Option Span) → top (span_bound o) ≡ top (column_number o).hi
span_top None = refl
span_top (Some k) = refl

past_on : (g : Parts) → InLimits g → (v s a : State) (n : ℕ) → At g v s a → output_refused s ≡ false → May (output_past g a n) (output_past g s n)
past_on g l v s a n d h =
    let x = column_top s.lun.column in
    let y = column_top a.lun.column in
    let z = d.lun.column.high in
    and_on _ _ _ _ (show_on s.target.shows a.target.shows d.target.shows (drives_of (may_be_open s) (drives s.target.shows) _ h))
    (not_on _ _ (most_on (column_bound s.lun.column) (column_bound a.lun.column) n _ _ (omega (arith, x, y, z)) (length_on g l s.lun.register a.lun.register d.lun.register)))

input_on : (g : Parts) (v s a : State) (n : ℕ) → At g v s a → May (input_past g a n) (input_past g s n)
input_on g v s a n d =
    let x = span_top s.target.column in
    let y = span_top a.target.column in
    let z = d.target.column.high in
    and_on _ _ _ _ (not_on _ _ (features_too s.target.tail a.target.tail d.target.tail)) (not_on _ _ (most_on (span_bound s.target.column) (span_bound a.target.column) n _ _ (omega (arith, x, y, z)) (omega arith)))

-- 2. addresses

limit_on : (g : Parts) → InLimits g → (v s a : State) → At g v s a → (p : Place) → column_limit g s p ≤ column_limit g a p
limit_on g l v s a d Closed = omega arith
limit_on g l v s a d InData = omega arith
limit_on g l v s a d (InColumn n) = omega arith
limit_on g l v s a d (InFeatures n) = omega arith
limit_on g l v s a d Unknown = omega arith
limit_on g l v s a d (After opener n) = at opener
  where
    by : (b c : Bool) (x y : ℕ) → May b c → x ≤ y → cond b x 0 ≤ cond c y 0
    by true true x y f h = h
    by true false x y f h = absurd (let z = f refl in cc)
    by false c x y f h = omega arith

    at : (opener : Command) → column_limit g s (After opener n) ≤ column_limit g a (After opener n)
    at ChangeReadColumn = by (drives s.target.shows) (drives a.target.shows) (least_length g s.lun.register) (least_length g a.lun.register) (drives_on s.target.shows a.target.shows d.target.shows) (length_on g l s.lun.register a.lun.register d.lun.register)
    at _ = omega arith

column_past_on : (g : Parts) → InLimits g → (v s a : State) (from count : ℕ) → At g v s a → (p : Place) → May (column_past g a from count p) (column_past g s from count p)
column_past_on g l v s a from count d p =
    and_on _ _ _ _ (same_on (not (addresses_left p == 0) && not (takes_identity_at p) && from == next_address p && has_second_column from count))
    (not_on _ _ (most_on s.registers.column.hi a.registers.column.hi 1 _ _ d.registers.column.high (limit_on g l v s a d p)))

outside_on : (g : Parts) (rows : ℕ) (v s a : State) (from count : ℕ) → At g v s a → May (row_outside g rows a from count) (row_outside g rows s from count)
outside_on g rows v s a from count d =
    and_on _ _ _ _ (same_on _)
    (or_on _ _ _ _ (not_on _ _ (most_on s.registers.index.hi a.registers.index.hi 1 rows rows d.registers.index.high (omega arith)))
    (not_on _ _ (planes_on (planes g) s.registers.planes a.registers.planes d.registers.planes)))

-- the plane of a row behind 06h
plane_on : (g : Parts) (v s a : State) → At g v s a → (opener : Command) → May (plane_refused a opener) (plane_refused s opener)
plane_on g v s a d ChangeReadColumnEnhanced =
    or_on _ _ _ _ (queued_on s.lun.queue a.lun.queue d.lun.queue)
    (not_on _ _ (one_within s.registers.planes s.lun.held a.registers.planes a.lun.held d.registers.one_plane d.registers.planes d.lun.held))
plane_on g v s a d _ = same_on _

-- the row of a copy, or of a program in a group of copies
copied_on : (g : Parts) (v s a : State) → At g v s a → AllAmong (copied_planes g s.lun) (copied_planes g a.lun)
copied_on g v s a d = at (has_odd_even g.optional)
  where
    at : (b : Bool) → AllAmong (cond b s.lun.held s.lun.copies.even) (cond b a.lun.held a.lun.copies.even)
    at true = d.lun.held
    at false = d.lun.copies.even

copy_on : (g : Parts) (v s a : State) → At g v s a → (opener : Command) → May (copy_refused g a opener) (copy_refused g s opener)
copy_on g v s a d ChangeWriteColumn =
    or_on _ _ _ _ (not_on _ _ d.lun.copies.keeps)
    (not_on _ _ (one_within s.registers.planes (copied_planes g s.lun) a.registers.planes (copied_planes g a.lun) d.registers.one_plane d.registers.planes (copied_on g v s a d)))
copy_on g v s a d PageProgram = and_on _ _ _ _ (same_on (has_copyback g.optional)) (and_on _ _ _ _ (queued_on s.lun.queue a.lun.queue d.lun.queue) d.lun.copies.holds)
copy_on g v s a d _ = same_on _

row_on : (g : Parts) (v s a : State) → At g v s a → (p : Place) → May (row_refused g a p) (row_refused g s p)
row_on g v s a d Closed = same_on _
row_on g v s a d InData = same_on _
row_on g v s a d (InColumn n) = same_on _
row_on g v s a d (InFeatures n) = same_on _
row_on g v s a d Unknown = same_on _
row_on g v s a d (After opener n) =
    and_on _ _ _ _ (same_on (addresses_the_array opener))
    (or_on _ _ _ _ (or_on _ _ _ _ (or_on _ _ _ _ (or_on _ _ _ _ (or_on _ _ _ _ d.lun.busy (and_on _ _ _ _ (same_on (excludes_cache g opener)) d.lun.last_cache)) (queue_on s.lun.queue a.lun.queue s.registers.planes a.registers.planes opener d.lun.queue d.registers.planes)) (plane_on g v s a d opener))
    (copy_on g v s a d opener))
    (and_on _ _ _ _ (same_on (excludes_program opener)) d.lun.programming))

identity_on : (g : Parts) (v s a : State) (from count : ℕ) → At g v s a → (p : Place) → May (identity_refused g a from count p) (identity_refused g s from count p)
identity_on g v s a from count d Closed = same_on _
identity_on g v s a from count d InData = same_on _
identity_on g v s a from count d (InColumn n) = same_on _
identity_on g v s a from count d (InFeatures n) = same_on _
identity_on g v s a from count d Unknown = same_on _
identity_on g v s a from count d (After opener n) =
    or_on _ _ _ _ (same_on _) (not_on _ _ (identity_byte_on g s.registers.column a.registers.column opener from (span_is v.registers.column s.registers.column a.registers.column d.registers.column)))

-- a column that isn't past its limit isn't surely past it
not_surely : (lo limit : ℕ) (hi : Option ℕ) → lo ≤ top hi → is_at_most (bound_plus hi 1) limit ≡ true → nat_le limit lo ≡ false
not_surely lo limit None h e = absurd cc
not_surely lo limit (Some b) h e = at (nat_le (b + 1) greatest_bound) e
  where
    at : (c : Bool) → is_at_most (cond c (Some (b + 1)) None) limit ≡ true → nat_le limit lo ≡ false
    at true e = more lo limit b h e
      where
        more : (lo limit b : ℕ) → lo ≤ b → nat_le (b + 1) limit ≡ true → nat_le limit lo ≡ false
        more lo limit b h e = grind (arith, nat_tests)
    at false e = absurd cc

-- the tests of one place: `b` nothing is taken, `i` an identity, `n` the next address, `c` a second column, `m` not past the limit, `u` surely past it
place_on : (b i n c m u x y z w : Bool) → (not b && not i && n && c && not m) ≡ false → (m ≡ true → u ≡ false) → May z w → May x y
    → cond b true (cond i y (cond (n && c && u) false w)) ≡ false → (k : Bool) → cond b true (cond i x (cond k false z)) ≡ false
place_on true i n c m u x y z w past sure f h e k = absurd cc
place_on false true n c m u x y z w past sure f h e k = no_too x y h e
place_on false false n c m u x y z w past sure f h e true = refl
place_on false false true true true u x y z w past sure f h e false = no_too z w f (subst (λ (q : Bool). cond q false w ≡ false) (sure refl) e)
place_on false false true true false u x y z w past sure f h e false = absurd cc
place_on false false true false m u x y z w past sure f h e false = no_too z w f e
place_on false false false c m u x y z w past sure f h e false = no_too z w f e

address_on : (g : Parts) (v s a : State) (from count : ℕ) → At g v s a → (p : Place) → column_past g s from count p ≡ false → address_out_of_place g s from count p ≡ false → address_out_of_place g a from count p ≡ false
address_on g v s a from count d p past h =
    let low = d.registers.column.low in
    let high = d.registers.column.high in
    let order = d.registers.column.order in
    place_on (addresses_left p == 0) (takes_identity_at p) (from == next_address p) (has_second_column from count) (is_at_most (bound_plus s.registers.column.hi 1) (column_limit g s p)) (nat_le (column_limit g s p) s.registers.column.lo)
    (identity_refused g a from count p) (identity_refused g s from count p)
    (nat_lt (addresses_left p) count || (from == next_address p && nat_le 5 (from + count) && row_refused g a p))
    (nat_lt (addresses_left p) count || (from == next_address p && nat_le 5 (from + count) && row_refused g s p))
    past (not_surely s.registers.column.lo (column_limit g s p) s.registers.column.hi (omega (arith, low, high, order)))
    (or_on _ _ _ _ (same_on _) (and_on _ _ _ _ (same_on (from == next_address p && nat_le 5 (from + count))) (row_on g v s a d p)))
    (identity_on g v s a from count d p)
    h (surely_past g a from count p)

-- 3. reason by reason

no_cycle_forbidden : (g : Parts) → InLimits g → (text : Bounds) (v s a : State) → At g v s a → (word : Word) → Clear g text s word → breaks_cycle_forbidden g a word ≡ false
unfolding breaks_cycle_forbidden breaks_column_too_large
no_cycle_forbidden g l text v s a d (CommandWord byte) c = no_too _ _ (command_on g v s a d (command byte)) c.no_cycle_forbidden
no_cycle_forbidden g l text v s a d (Address from count) c =
    let same = known_place g s from count s.target.tail a.target.tail d.target.tail c.no_cycle_forbidden in
    subst (λ (p : Place). address_out_of_place g a from count p ≡ false) same (address_on g v s a from count d s.target.tail c.no_column_too_large c.no_cycle_forbidden)
no_cycle_forbidden g l text v s a d (Get len) c = output_on g v s a d c.no_cycle_forbidden
no_cycle_forbidden g l text v s a d (Put len) c = no_too _ _ (not_on _ _ (inputs_too len s.target.tail a.target.tail d.target.tail)) c.no_cycle_forbidden
no_cycle_forbidden g l text v s a d ReadStatus c = no_too _ _ (open_on g v s a d) c.no_cycle_forbidden
no_cycle_forbidden g l text v s a d word c = refl

inside_on : (g : Parts) (v s a : State) → At g v s a → May (is_inside_address a.target.tail) (is_inside_address s.target.tail)
inside_on g v s a d = inside_too s.target.tail a.target.tail d.target.tail

no_address_unaligned : (g : Parts) (text : Bounds) (v s a : State) → At g v s a → (word : Word) → Clear g text s word → breaks_address_unaligned a word ≡ false
unfolding breaks_address_unaligned breaks_cycle_forbidden
no_address_unaligned g text v s a d (Address from count) c =
    let same = known_place g s from count s.target.tail a.target.tail d.target.tail c.no_cycle_forbidden in
    subst (λ (p : Place). begins_elsewhere from p ≡ false) same c.no_address_unaligned
no_address_unaligned g text v s a d (Column n) c = no_too _ _ (inside_on g v s a d) c.no_address_unaligned
no_address_unaligned g text v s a d (RowAdd n) c = no_too _ _ (inside_on g v s a d) c.no_address_unaligned
no_address_unaligned g text v s a d (Row n) c = no_too _ _ (inside_on g v s a d) c.no_address_unaligned
no_address_unaligned g text v s a d (Plane n) c = no_too _ _ (inside_on g v s a d) c.no_address_unaligned
no_address_unaligned g text v s a d word c = refl

no_handover_in_sequence : (g : Parts) (text : Bounds) (v s a : State) → At g v s a → (word : Word) → Clear g text s word → breaks_handover_in_sequence a word ≡ false
unfolding breaks_handover_in_sequence
no_handover_in_sequence g text v s a d Wait c = no_too _ _ (open_on g v s a d) c.no_handover_in_sequence
no_handover_in_sequence g text v s a d Yield c = no_too _ _ (open_on g v s a d) c.no_handover_in_sequence
no_handover_in_sequence g text v s a d word c = refl

room_on : (g : Parts) (v s a : State) → At g v s a → (len buffer : ℕ) → May (not (is_at_most (bound_plus a.registers.place.hi len) buffer)) (not (is_at_most (bound_plus s.registers.place.hi len) buffer))
room_on g v s a d len buffer = not_on _ _ (most_on s.registers.place.hi a.registers.place.hi len buffer buffer d.registers.place.high (omega arith))

no_buffer_passed : (g : Parts) (text : Bounds) (v s a : State) → At g v s a → (word : Word) → Clear g text s word → breaks_buffer_passed text.buffer a word ≡ false
unfolding breaks_buffer_passed
no_buffer_passed g text v s a d (Get len) c = no_too _ _ (room_on g v s a d len text.buffer) c.no_buffer_passed
no_buffer_passed g text v s a d (Put len) c = no_too _ _ (room_on g v s a d len text.buffer) c.no_buffer_passed
no_buffer_passed g text v s a d word c = refl

no_row_or_plane_outside : (g : Parts) (text : Bounds) (v s a : State) → At g v s a → (word : Word) → Clear g text s word → breaks_row_or_plane_outside g text.rows a word ≡ false
unfolding breaks_row_or_plane_outside
no_row_or_plane_outside g text v s a d (CommandWord byte) c = no_too _ _ (rows_on g text.rows v s a d (command byte)) c.no_row_or_plane_outside
no_row_or_plane_outside g text v s a d (Address from count) c = no_too _ _ (outside_on g text.rows v s a from count d) c.no_row_or_plane_outside
no_row_or_plane_outside g text v s a d (Plane n) c = c.no_row_or_plane_outside
no_row_or_plane_outside g text v s a d word c = refl

no_column_too_large : (g : Parts) → InLimits g → (text : Bounds) (v s a : State) → At g v s a → (word : Word) → Clear g text s word → breaks_column_too_large g a word ≡ false
unfolding breaks_column_too_large breaks_cycle_forbidden
no_column_too_large g l text v s a d (Address from count) c =
    let same = known_place g s from count s.target.tail a.target.tail d.target.tail c.no_cycle_forbidden in
    subst (λ (p : Place). column_past g a from count p ≡ false) same (no_too _ _ (column_past_on g l v s a from count d s.target.tail) c.no_column_too_large)
no_column_too_large g l text v s a d (Get len) c = no_too _ _ (past_on g l v s a len d c.no_cycle_forbidden) c.no_column_too_large
no_column_too_large g l text v s a d (Put len) c = no_too _ _ (input_on g v s a len d) c.no_column_too_large
no_column_too_large g l text v s a d word c = refl

no_no_status : (g : Parts) (text : Bounds) (v s a : State) → At g v s a → (word : Word) → Clear g text s word → breaks_no_status a word ≡ false
unfolding breaks_no_status
no_no_status g text v s a d (BranchOnStatus mask target) c = no_too _ _ (not_on _ _ d.registers.polled) c.no_no_status
no_no_status g text v s a d word c = refl

no_ends_too_soon : (g : Parts) (text : Bounds) (v s a : State) → At g v s a → (word : Word) → Clear g text s word → breaks_ends_too_soon a word ≡ false
unfolding breaks_ends_too_soon
no_ends_too_soon g text v s a d (End code) c = no_too _ _ (or_on _ _ _ _ (or_on _ _ _ _ (or_on _ _ _ _ (or_on _ _ _ _ d.lun.busy (open_on g v s a d)) (queued_on s.lun.queue a.lun.queue d.lun.queue)) d.lun.last_cache) d.lun.programming) c.no_ends_too_soon
no_ends_too_soon g text v s a d word c = refl

no_over_budget : (g : Parts) (text : Bounds) (v s a : State) → At g v s a → (word : Word) → Clear g text s word → breaks_over_budget g text.budget a word ≡ false
unfolding breaks_over_budget
no_over_budget g text v s a d word c =
    no_too _ _ (and_on _ _ _ _ (same_on _) (not_on _ _ (most_on s.registers.cost.hi a.registers.cost.hi (cost g word) text.budget text.budget d.registers.cost.high (omega arith)))) c.no_over_budget

no_command_not_allowed : (g : Parts) (text : Bounds) (v s a : State) → At g v s a → (word : Word) → Clear g text s word → breaks_command_not_allowed g text word ≡ false
no_command_not_allowed g text v s a d word c = c.no_command_not_allowed

-- what is clear of reasons is so in any actual claim
pub clear_too : (g : Parts) → InLimits g → (text : Bounds) (v s a : State) → At g v s a → (word : Word) → Clear g text s word → Clear g text a word
clear_too g l text v s a d word c = record {
  no_cycle_forbidden = no_cycle_forbidden g l text v s a d word c;
  no_address_unaligned = no_address_unaligned g text v s a d word c;
  no_handover_in_sequence = no_handover_in_sequence g text v s a d word c;
  no_buffer_passed = no_buffer_passed g text v s a d word c;
  no_row_or_plane_outside = no_row_or_plane_outside g text v s a d word c;
  no_column_too_large = no_column_too_large g l text v s a d word c;
  no_no_status = no_no_status g text v s a d word c;
  no_ends_too_soon = no_ends_too_soon g text v s a d word c;
  no_over_budget = no_over_budget g text v s a d word c;
  no_command_not_allowed = no_command_not_allowed g text v s a d word c;
}
