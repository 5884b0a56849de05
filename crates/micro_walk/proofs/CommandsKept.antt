-- Inputs, outputs, commands and pages: what they leave of a claim is claimed of what they leave of an actual claim.
use Rattle.std.proofs.Common.{◌≡◌, ℕ, ◌+◌, ◌≤◌, ◌==◌, Bool, true, false, ◌&&◌, ◌||◌, cond, not, Option, Some, None, refl, sym, ap, ◌∙◌, subst, arith, eqb-true}
use Rattle.std.specs.Prelude.{nat_lt}
use Rattle.std.proofs.lemmas.Bool.{and_parts, and_from}
use Rattle.nand_geometry.specs.declared.parts.Parts.{Parts}
use Rattle.nand_geometry.specs.Limits.{InLimits}
use Rattle.onfi_cycle.specs.declared.command.Command.{Command}
use Rattle.onfi_cycle.specs.declared.command.Command.TheVariants.{Read, ReadConfirm, ReadPlane, ProgramCache, ChangeReadColumn, ChangeReadColumnEnhanced, ChangeReadColumnConfirm, BlockErase, BlockEraseConfirm, BlockErasePlane, PageProgram, ChangeWriteColumn, ProgramConfirm, ProgramPlane, ReadId, ReadParameterPage, Reset, ReadCacheSequential, ReadCacheEnd, ReadUniqueId, GetFeatures, SetFeatures, ResetLun, SynchronousReset, CopybackRead}
use Rattle.micro_claims.specs.Spans.{Span}
use Rattle.micro_claims.specs.Spans.{plus, plus_between}
use Rattle.micro_claims.specs.declared.planes.Planes.{Planes}
use Rattle.micro_claims.specs.Planes.{has_plane, no_planes, either_plane, share_a_plane, sure_plane, are_planes_within}
use Rattle.micro_claims.specs.declared.state.State.{State}
use Rattle.micro_claims.specs.declared.place.Place.{Place}
use Rattle.micro_claims.specs.declared.place.Place.TheVariants.{Closed, After, InData, InColumn, InFeatures, Unknown}
use Rattle.micro_claims.specs.declared.drift.Drift.{Drift}
use Rattle.micro_claims.specs.declared.named_row.NamedRow.{NamedRow}
use Rattle.micro_claims.specs.declared.shown.Shown.{Shown}
use Rattle.micro_claims.specs.declared.output_column.OutputColumn.{OutputColumn}
use Rattle.micro_claims.specs.declared.queued_rows.QueuedRows.{QueuedRows}
use Rattle.micro_claims.specs.declared.queued_rows.QueuedRows.TheVariants.{NoRows, SomeRows, SomeReads, AnyRows}
use Rattle.micro_claims.specs.declared.last_closer.LastCloser.{LastCloser}
use Rattle.micro_claims.specs.declared.cached_page.CachedPage.{CachedPage}
use Rattle.micro_claims.specs.State.{any_but_31, other_closer, closed, any_number, shows_status, shows_register, may_be_30, may_be_31, may_be_other, no_copies, uncopied}
use Rattle.micro_claims.specs.Against.{same_test, place_wants, selects_plane_at}
use Rattle.micro_claims.specs.Leaves.{with_target, data_shown, given_at, rows_at, reads_at, reads_beside, reads_more, may_be_reads, named_plane, held_beside, held_by_read, register_selected, work_started, same_drift, queued_more, cache_read, command_leaves, column_read, get_leaves, span_more, place_moved, features_put, put_leaves_at, put_leaves, reset_started, page_register, cached_at, next_cached, shows_after_read, opened_by}
use Rattle.micro_claims.specs.Order.{SpanAt, May, AllAmong, DriftIs, HasColumn, NameIs, NamedIs, IsFineName, IsFineNamed, ShowsIs, RegisteredIs, RowsAre, At, column_number, output_number, Exactly}
use Rattle.micro_claims.proofs.PlaneSets.{among_first, among_second, either_has}
use Rattle.micro_walk.proofs.SpanLaws as numbers
use Rattle.micro_walk.proofs.Shapes.{among_self, both_among, none_there, sure_among, one_within, not_on, no_too}
use Rattle.micro_walk.proofs.TestsKept.{common_on}
use Rattle.micro_walk.proofs.LeavesKept.{with_place, any_free, fine_of, one_place, data_is, resumed_is, read_is, OutputAt, first_output, given_is, held_is, registers_at, rows_placed, reads_placed, cached_index_is, cached_page_is, lun_with_output, output_of}
use Rattle.micro_walk.proofs.CopiesKept.{copies_self, queued_copies, held_copy, copies_copy}

-- 1. inputs and outputs

more_has : (n : ℕ) (s a : Option Span) → HasColumn s a → HasColumn (span_more n s) (span_more n a)
more_has n None a h = tt
more_has n (Some k) None h = h
more_has n (Some k) (Some m) h = tt

more_at : (v : Span) (n : ℕ) (s a : Option Span) → HasColumn s a → SpanAt v (column_number s) (column_number a) → SpanAt v (column_number (span_more n s)) (column_number (span_more n a))
more_at v n None None h f = any_free v
more_at v n None (Some m) h f = fine_of v v (plus any_number n) (plus m n) (numbers.grown v any_number m n f)
more_at v n (Some k) None h f = absurd h
more_at v n (Some k) (Some m) h f = numbers.grown v k m n f

place_on : (g : Parts) (v s a : State) (n : ℕ) → At g v s a → At g v (place_moved n s) (place_moved n a)
place_on g v s a n d = registers_at g v s a _ _ d (with_place g v.registers s.registers a.registers _ _ (numbers.grown v.registers.place s.registers.place a.registers.place n d.registers.place) d.registers)

data_put : (g : Parts) (v s a : State) (n : ℕ) → At g v s a → At g v (place_moved n (with_target s (record s.target { column = span_more n s.target.column }))) (place_moved n (with_target a (record a.target { column = span_more n a.target.column })))
data_put g v s a n d =
    place_on g v _ _ n
    (record {
      registers = d.registers;
      target = (let t = d.target in record { tail = t.tail; has_column = more_has n s.target.column a.target.column t.has_column; column = more_at (column_number v.target.column) n s.target.column a.target.column t.has_column t.column; named = t.named; fine = t.fine; shows = t.shows });
      lun = d.lun;
    })

at_most_all : (b : Bool) (n : ℕ) → cond b 0 n ≤ n
at_most_all true n = omega arith
at_most_all false n = omega arith

fine_read : (v : Span) (x : Option Shown) (n : ℕ) (a : Option OutputColumn) → SpanAt v any_number (output_number a) → SpanAt v any_number (output_number (column_read x n a))
fine_read v None n a f = any_free v
fine_read v (Some x) n None f = any_free v
fine_read v (Some x) n (Some m) f = at (shows_register x)
  where
    at : (b : Bool) → SpanAt v any_number (output_number (cond b (Some (record { at = plus_between m.at (cond (shows_status x) 0 n) n; read = true })) (Some m)))
    at true = fine_of v v (plus_between any_number 0 n) (plus_between m.at (cond (shows_status x) 0 n) n) (numbers.grown_between v any_number m.at 0 n (cond (shows_status x) 0 n) n (omega arith) (at_most_all (shows_status x) n) (omega arith) f)
    at false = f

less_read : (b c : Bool) (n : ℕ) → May c b → cond b 0 n ≤ cond c 0 n
less_read true c n f = omega arith
less_read false true n f = absurd (let x = f refl in cc)
less_read false false n f = omega arith

column_read_at : (v : Option OutputColumn) (w x : Option Shown) (n : ℕ) (s a : Option OutputColumn) → ShowsIs w x → OutputAt v s a → OutputAt v (column_read w n s) (column_read x n a)
column_read_at v None x n s a h f = record { has = tt; at = fine_read (output_number v) x n a (fine_of _ _ _ _ f.at) }
column_read_at v (Some w) None n s a h f = absurd h
column_read_at v (Some w) (Some x) n None a h f = record { has = tt; at = fine_read (output_number v) (Some x) n a (fine_of _ _ _ _ f.at) }
column_read_at v (Some w) (Some x) n (Some k) None h f = absurd f.has
column_read_at v (Some w) (Some x) n (Some k) (Some m) h f = at (shows_register w) (shows_register x) h.1.0 (shows_status w) (shows_status x) h.0 h.1.1
  where
    from : Span → ℕ → Span
    from y least = plus_between y least n

    at : (b c : Bool) → May c b → (p q : Bool) → May q p → (q || c) ≡ true → OutputAt v (cond b (Some (record { at = from k.at (cond p 0 n); read = true })) (Some k)) (cond c (Some (record { at = from m.at (cond q 0 n); read = true })) (Some m))
    at true true j p q i e = record { has = λ z. refl; at = numbers.grown_between (output_number v) k.at m.at (cond p 0 n) n (cond q 0 n) n (less_read p q n i) (at_most_all q n) (omega arith) f.at }
    at true false j true true i e = record { has = λ z. refl; at = numbers.stayed (output_number v) k.at m.at n f.at }
    at true false j false true i e = absurd (let z = i refl in cc)
    at true false j p false i e = absurd cc
    at false true j p q i e = absurd (let z = j refl in cc)
    at false false j p q i e = f

pub get_at : (g : Parts) (v s a : State) (n : ℕ) → At g v s a → At g v (get_leaves s n) (get_leaves a n)
get_at g v s a n d = record {
  registers = with_place g v.registers s.registers a.registers _ _ (numbers.grown v.registers.place s.registers.place a.registers.place n d.registers.place) d.registers;
  target = one_place g v.target Closed s.target.shows a.target.shows d.target.shows;
  lun = lun_with_output v.lun s.lun a.lun _ _ (column_read_at v.lun.column s.target.shows a.target.shows n s.lun.column a.lun.column d.target.shows (output_of v.lun s.lun a.lun d.lun)) d.lun;
}

-- 2. commands

drift_goes : (s a : Option Drift) (d : Drift) → DriftIs s a → May (same_drift s d) (same_drift a d)
drift_goes None a d e h = absurd cc
drift_goes (Some x) a d e h = subst (λ (o : Option Drift). same_drift o d ≡ true) (sym e) h

queued_is : (g : Parts) (erase : Bool) (s a : QueuedRows) (x y : Option NamedRow) → RowsAre s a → NamedIs g x y → RowsAre (queued_more erase s x) (queued_more erase a y)
queued_is g erase s a None y e f = tt
queued_is g erase s a (Some n) None e f = absurd f
queued_is g erase AnyRows a (Some n) (Some m) e f = tt
queued_is g erase NoRows a (Some n) (Some m) e f =
    subst (λ (r : QueuedRows). RowsAre (rows_at erase (either_plane n.planes no_planes) n.drift) (queued_more erase r (Some m))) (sym e)
    (rows_placed erase (either_plane n.planes no_planes) (either_plane m.planes no_planes) n.drift m.drift (both_among m.planes no_planes n.planes no_planes f.planes (λ z h. h)) f.drift)
queued_is g erase (SomeRows k ps d) NoRows (Some n) (Some m) e f = at (same_test erase k && same_drift n.drift d)
  where
    at : (b : Bool) → RowsAre (cond b (rows_at erase (either_plane n.planes ps) n.drift) AnyRows) (rows_at erase (either_plane m.planes no_planes) m.drift)
    at true = rows_placed erase (either_plane n.planes ps) (either_plane m.planes no_planes) n.drift m.drift (both_among m.planes no_planes n.planes ps f.planes (λ z h. none_there z h)) f.drift
    at false = tt
queued_is g erase (SomeRows k ps d) AnyRows (Some n) (Some m) e f = absurd e
queued_is g erase (SomeRows k ps d) (SomeReads ms some c) (Some n) (Some m) e f = absurd e
queued_is g erase (SomeReads ps surely d) a (Some n) (Some m) e f = tt
queued_is g erase (SomeRows k ps d) (SomeRows j ms c) (Some n) (Some m) e f = at (same_test erase k && same_drift n.drift d) refl
  where
    goes : (same_test erase k && same_drift n.drift d) ≡ true → (same_test erase j && same_drift m.drift c) ≡ true
    goes h =
        let p = and_parts (same_test erase k) (same_drift n.drift d) h in
        and_from (same_test erase j) (same_drift m.drift c) (subst (λ (b : Bool). same_test erase b ≡ true) (sym e.0) p.0) (subst (λ (x : Drift). same_drift m.drift x ≡ true) (sym e.1.1) (drift_goes n.drift m.drift d f.drift p.1))

    at : (b : Bool) → (same_test erase k && same_drift n.drift d) ≡ b → RowsAre (cond b (rows_at erase (either_plane n.planes ps) n.drift) AnyRows) (queued_more erase (SomeRows j ms c) (Some m))
    at true h = subst (λ (b : Bool). RowsAre (rows_at erase (either_plane n.planes ps) n.drift) (cond b (rows_at erase (either_plane m.planes ms) m.drift) AnyRows)) (sym (goes h)) (rows_placed erase (either_plane n.planes ps) (either_plane m.planes ms) n.drift m.drift (both_among m.planes ms n.planes ps f.planes e.1.0) f.drift)
    at false h = tt

-- the row of the tail is read later
known_drift : (o : Option Drift) (d : Drift) → same_drift o d ≡ true → o ≡ Some d
known_drift None d h = absurd cc
known_drift (Some e) d h =
    let both = and_parts (e.ahead == d.ahead) (e.behind == d.behind) h in
    let x = eqb-true e.ahead d.ahead both.0 in
    let y = eqb-true e.behind d.behind both.1 in
    λ i. Some (record { ahead = x i; behind = y i })

reads_is : (g : Parts) (s a : QueuedRows) (x y : Option NamedRow) → RowsAre s a → NamedIs g x y → IsFineNamed g y → RowsAre (reads_more s x) (reads_more a y)
reads_is g s a None y e f fine = tt
reads_is g s a (Some n) None e f fine = absurd f
reads_is g AnyRows a (Some n) (Some m) e f fine = tt
reads_is g (SomeRows k ps d) a (Some n) (Some m) e f fine = tt
reads_is g NoRows a (Some n) (Some m) e f fine =
    subst (λ (r : QueuedRows). RowsAre (reads_at n.planes (sure_plane n.planes) n.drift) (reads_beside m r)) (sym e)
    (reads_placed n.planes m.planes (sure_plane n.planes) (sure_plane m.planes) n.drift m.drift (sure_among n.planes m.planes fine.one_plane f.planes) f.planes f.drift)
reads_is g (SomeReads ps surely d) AnyRows (Some n) (Some m) e f fine = absurd e
reads_is g (SomeReads ps surely d) (SomeRows k ms c) (Some n) (Some m) e f fine = absurd e
reads_is g (SomeReads ps surely d) NoRows (Some n) (Some m) e f fine = at (same_drift n.drift d && not (share_a_plane n.planes ps)) refl
  where
    at : (b : Bool) → (same_drift n.drift d && not (share_a_plane n.planes ps)) ≡ b → RowsAre (cond b (SomeReads (either_plane n.planes ps) (either_plane (sure_plane n.planes) surely) d) AnyRows) (reads_at m.planes (sure_plane m.planes) m.drift)
    at false h = tt
    at true h =
        let far = known_drift m.drift d (drift_goes n.drift m.drift d f.drift (and_parts (same_drift n.drift d) _ h).0) in
        subst (λ (o : Option Drift). RowsAre (SomeReads (either_plane n.planes ps) (either_plane (sure_plane n.planes) surely) d) (reads_at m.planes (sure_plane m.planes) o)) (sym far)
        (sure_of, (λ z here. among_first z n.planes ps (f.planes z here), refl))
      where
        either : (z : ℕ) (a b : Bool) → has_plane z (sure_plane n.planes) ≡ a → has_plane z surely ≡ b → (a || b) ≡ true → has_plane z (sure_plane m.planes) ≡ true
        either z true b ha hb q = sure_among n.planes m.planes fine.one_plane f.planes z ha
        either z false true ha hb q = none_there z (e z hb)
        either z false false ha hb q = absurd cc

        sure_of : AllAmong (either_plane (sure_plane n.planes) surely) (sure_plane m.planes)
        sure_of z here = either z (has_plane z (sure_plane n.planes)) (has_plane z surely) refl refl (sym (either_has z (sure_plane n.planes) surely) ∙ here)
reads_is g (SomeReads ps surely d) (SomeReads ms some c) (Some n) (Some m) e f fine = at (same_drift n.drift d && not (share_a_plane n.planes ps)) refl
  where
    goes : (same_drift n.drift d && not (share_a_plane n.planes ps)) ≡ true → (same_drift m.drift c && not (share_a_plane m.planes ms)) ≡ true
    goes h =
        let p = and_parts (same_drift n.drift d) (not (share_a_plane n.planes ps)) h in
        and_from (same_drift m.drift c) (not (share_a_plane m.planes ms))
        (subst (λ (x : Drift). same_drift m.drift x ≡ true) (sym e.1.1) (drift_goes n.drift m.drift d f.drift p.0))
        (not_on (share_a_plane n.planes ps) (share_a_plane m.planes ms) (common_on n.planes m.planes ps ms f.planes e.1.0) p.1)

    at : (b : Bool) → (same_drift n.drift d && not (share_a_plane n.planes ps)) ≡ b → RowsAre (cond b (SomeReads (either_plane n.planes ps) (either_plane (sure_plane n.planes) surely) d) AnyRows) (reads_beside m (SomeReads ms some c))
    at false h = tt
    at true h =
        subst (λ (b : Bool). RowsAre (SomeReads (either_plane n.planes ps) (either_plane (sure_plane n.planes) surely) d) (cond b (SomeReads (either_plane m.planes ms) (either_plane (sure_plane m.planes) some) c) AnyRows)) (sym (goes h))
        (both_among (sure_plane n.planes) surely (sure_plane m.planes) some (sure_among n.planes m.planes fine.one_plane f.planes) e.0, (both_among m.planes ms n.planes ps f.planes e.1.0, e.1.1))

-- the plane of the row of the tail
plane_is : (g : Parts) (x y : Option NamedRow) → NamedIs g x y → IsFineNamed g y → AllAmong (named_plane x) (named_plane y)
plane_is g None y f fine = λ n here. none_there n here
plane_is g (Some n) None f fine = absurd f
plane_is g (Some n) (Some m) f fine = sure_among n.planes m.planes fine.one_plane f.planes

-- what a read leaves held
held_own : (m : NamedRow) (a : QueuedRows) → AllAmong (sure_plane m.planes) (held_beside m a)
held_own m NoRows n here = here
held_own m (SomeRows k ps d) n here = here
held_own m AnyRows n here = here
held_own m (SomeReads ms some c) n here = at (share_a_plane m.planes ms)
  where
    at : (b : Bool) → has_plane n (cond b (sure_plane m.planes) (either_plane (sure_plane m.planes) some)) ≡ true
    at true = here
    at false = among_first n (sure_plane m.planes) some here

held_by : (g : Parts) (n m : NamedRow) → NameIs g n m → IsFineName g m → (s a : QueuedRows) → RowsAre s a → AllAmong (held_beside n s) (held_beside m a)
held_by g n m f fine NoRows a e z here = held_own m a z (sure_among n.planes m.planes fine.one_plane f.planes z here)
held_by g n m f fine (SomeRows k ps d) a e z here = held_own m a z (sure_among n.planes m.planes fine.one_plane f.planes z here)
held_by g n m f fine AnyRows a e z here = held_own m a z (sure_among n.planes m.planes fine.one_plane f.planes z here)
held_by g n m f fine (SomeReads ps surely d) a e z here = at (share_a_plane n.planes ps) refl here
  where
    own : has_plane z (sure_plane n.planes) ≡ true → has_plane z (held_beside m a) ≡ true
    own h = held_own m a z (sure_among n.planes m.planes fine.one_plane f.planes z h)

    other : (a : QueuedRows) → RowsAre (SomeReads ps surely d) a → share_a_plane n.planes ps ≡ false → has_plane z surely ≡ true → has_plane z (held_beside m a) ≡ true
    other NoRows e free h = none_there z (e z h)
    other AnyRows e free h = absurd e
    other (SomeRows k ms c) e free h = absurd e
    other (SomeReads ms some c) e free h =
        subst (λ (b : Bool). has_plane z (cond b (sure_plane m.planes) (either_plane (sure_plane m.planes) some)) ≡ true) (sym (no_too (share_a_plane m.planes ms) (share_a_plane n.planes ps) (common_on n.planes m.planes ps ms f.planes e.1.0) free))
        (among_second z (sure_plane m.planes) some (e.0 z h))

    either : share_a_plane n.planes ps ≡ false → (x y : Bool) → has_plane z (sure_plane n.planes) ≡ x → has_plane z surely ≡ y → (x || y) ≡ true → has_plane z (held_beside m a) ≡ true
    either free true y hx hy q = own hx
    either free false true hx hy q = other a e free hy
    either free false false hx hy q = absurd cc

    at : (b : Bool) → share_a_plane n.planes ps ≡ b → has_plane z (cond b (sure_plane n.planes) (either_plane (sure_plane n.planes) surely)) ≡ true → has_plane z (held_beside m a) ≡ true
    at true free h = own h
    at false free h = either free (has_plane z (sure_plane n.planes)) (has_plane z surely) refl refl (sym (either_has z (sure_plane n.planes) surely) ∙ h)

held_read : (g : Parts) (s a : QueuedRows) (x y : Option NamedRow) → RowsAre s a → NamedIs g x y → IsFineNamed g y → AllAmong (held_by_read s x) (held_by_read a y)
held_read g s a None y e f fine = λ n here. none_there n here
held_read g s a (Some n) None e f fine = absurd f
held_read g s a (Some n) (Some m) e f fine = held_by g n m f fine s a e

-- reads may be queued
reads_on : (s a : QueuedRows) → RowsAre s a → May (may_be_reads a) (may_be_reads s)
reads_on NoRows a f h = absurd (let x = sym (ap may_be_reads f) ∙ h in cc)
reads_on AnyRows a f h = refl
reads_on (SomeReads ps surely d) a f h = refl
reads_on (SomeRows k ps d) NoRows f h = absurd cc
reads_on (SomeRows k ps d) (SomeRows j ms c) f h = absurd cc
reads_on (SomeRows k ps d) AnyRows f h = absurd f
reads_on (SomeRows k ps d) (SomeReads ms some c) f h = absurd f

page_is : RegisteredIs page_register page_register
page_is = held_is (record { 0 = 1 }) refl

-- the register and the last closer behind a read, by whether reads may have been queued
record ReadIs (b c : Bool) : Type 0 where
  register : RegisteredIs (cond b None page_register) (cond c None page_register)
  last_read : May (may_be_30 (cond c any_but_31 (record { 0 = 1 }))) (may_be_30 (cond b any_but_31 (record { 0 = 1 })))
  last_cache : May (may_be_31 (cond c any_but_31 (record { 0 = 1 }))) (may_be_31 (cond b any_but_31 (record { 0 = 1 })))
  last_other : May (may_be_other (cond c any_but_31 (record { 0 = 1 }))) (may_be_other (cond b any_but_31 (record { 0 = 1 })))

read_with : (b c : Bool) → May c b → ReadIs b c
read_with true true h = record { register = tt; last_read = λ e. e; last_cache = λ e. e; last_other = λ e. e }
read_with true false h = record { register = tt; last_read = λ e. refl; last_cache = λ e. absurd cc; last_other = λ e. refl }
read_with false true h = absurd (let x = h refl in cc)
read_with false false h = record { register = page_is; last_read = λ e. e; last_cache = λ e. e; last_other = λ e. e }

-- the register that is the page of a plane
selected_is : (g : Parts) (x y : Option NamedRow) (hs ha : Planes) → NamedIs g x y → IsFineNamed g y → AllAmong hs ha → RegisteredIs (register_selected x hs) (register_selected y ha)
selected_is g None y hs ha f fine h = tt
selected_is g (Some n) None hs ha f fine h = absurd f
selected_is g (Some n) (Some m) hs ha f fine h = at (are_planes_within n.planes hs) (are_planes_within m.planes ha) (one_within n.planes hs m.planes ha fine.one_plane f.planes h)
  where
    at : (b c : Bool) → May b c → RegisteredIs (cond b page_register None) (cond c page_register None)
    at true true k = page_is
    at true false k = absurd (let x = k refl in cc)
    at false c k = tt

opened_at : (g : Parts) (v s a : State) (p : Place) (w x : Option Shown) → ShowsIs w x → At g v s a → At g v (with_target s (record { tail = p; column = None; named = None; shows = w })) (with_target a (record { tail = p; column = None; named = None; shows = x }))
opened_at g v s a p w x h d = record { registers = d.registers; target = one_place g v.target p w x h; lun = d.lun }

started_at : (g : Parts) (v s a : State) (q r : QueuedRows) → RowsAre q r → At g v s a → At g v (work_started q s) (work_started r a)
started_at g v s a q r h d = record {
  registers = d.registers;
  target = one_place g v.target Closed s.target.shows a.target.shows d.target.shows;
  lun = record { busy = λ e. e; register = tt; has_column = tt; column = any_free _; queue = h; last_read = λ e. e; last_cache = λ e. e; last_other = λ e. e; cached_index = d.lun.cached_index; cached_page = d.lun.cached_page; held = among_self no_planes; array = among_self no_planes; copies = copies_self no_copies; programming = λ e. e };
}

features_on : (g : Parts) (v s a : State) (inputs : ℕ) → At g v s a → At g v (features_put s inputs) (features_put a inputs)
features_on g v s a inputs d = at (nat_lt inputs 4)
  where
    at : (b : Bool) → At g v (cond b (with_target s (record s.target { tail = InFeatures inputs })) (work_started s.lun.queue s)) (cond b (with_target a (record a.target { tail = InFeatures inputs })) (work_started a.lun.queue a))
    at true = record {
      registers = d.registers;
      target = (let t = d.target in record { tail = Exactly (InFeatures inputs); has_column = t.has_column; column = t.column; named = t.named; fine = t.fine; shows = t.shows });
      lun = d.lun;
    }
    at false = started_at g v s a s.lun.queue a.lun.queue d.lun.queue d

put_at_place : (g : Parts) (v s a : State) (n : ℕ) → At g v s a → (p : Place) → At g v (put_leaves_at s n p) (put_leaves_at a n p)
put_at_place g v s a n d (InFeatures inputs) = place_on g v _ _ n (features_on g v s a (inputs + n) d)
put_at_place g v s a n d Closed = data_put g v s a n d
put_at_place g v s a n d (After o m) = data_put g v s a n d
put_at_place g v s a n d InData = data_put g v s a n d
put_at_place g v s a n d (InColumn m) = data_put g v s a n d
put_at_place g v s a n d Unknown = data_put g v s a n d

pub put_at : (g : Parts) (v s a : State) (n : ℕ) → At g v s a → s.target.tail ≡ a.target.tail → At g v (put_leaves s n) (put_leaves a n)
put_at g v s a n d same = subst (λ (p : Place). At g v (put_leaves s n) (put_leaves_at a n p)) same (put_at_place g v s a n d s.target.tail)

cache_at : (g : Parts) (v s a : State) (last : LastCloser) (x y : CachedPage) (ps ms : Planes) (p q : Option Shown) → SpanAt v.lun.cached.index x.index y.index → SpanAt v.lun.cached.page x.page y.page → AllAmong ps ms → ShowsIs p q → At g v s a → At g v (cache_read last x ps p s) (cache_read last y ms q a)
cache_at g v s a last x y ps ms p q h k array shows d = record {
  registers = d.registers;
  target = one_place g v.target Closed p q shows;
  lun = record { busy = λ e. e; register = page_is; has_column = (first_output v.lun.column).has; column = (first_output v.lun.column).at; queue = d.lun.queue; last_read = λ e. e; last_cache = λ e. e; last_other = λ e. e; cached_index = h; cached_page = k; held = d.lun.array; array = array; copies = copies_self uncopied; programming = λ e. e };
}

pub reset_at : (g : Parts) (v s a : State) → At g v s a → At g v (reset_started s) (reset_started a)
reset_at g v s a d = record {
  registers = d.registers;
  target = one_place g v.target Closed None None tt;
  lun = record { busy = λ e. e; register = tt; has_column = tt; column = any_free _; queue = refl; last_read = λ e. e; last_cache = λ e. e; last_other = λ e. e; cached_index = d.lun.cached_index; cached_page = d.lun.cached_page; held = among_self no_planes; array = among_self no_planes; copies = copies_self no_copies; programming = λ e. e };
}

pub command_at : (g : Parts) → InLimits g → (v s a : State) → At g v s a → (c : Command) → ((c ≡ ReadCacheSequential → place_wants ReadCacheSequential s.target.tail ≡ place_wants ReadCacheSequential a.target.tail) × (c ≡ ChangeWriteColumn → place_wants ChangeWriteColumn s.target.tail ≡ place_wants ChangeWriteColumn a.target.tail)) → (c ≡ ChangeReadColumnConfirm → selects_plane_at s.target.tail ≡ selects_plane_at a.target.tail) → At g v (command_leaves g s c) (command_leaves g a c)
command_at g l v s a d Read same plane = opened_at g v s a (After Read 0) _ _ (resumed_is s.target.shows a.target.shows d.target.shows) d
command_at g l v s a d ChangeReadColumn same plane = opened_at g v s a (After ChangeReadColumn 0) _ _ d.target.shows d
command_at g l v s a d ChangeReadColumnEnhanced same plane = opened_at g v s a (After ChangeReadColumnEnhanced 0) _ _ d.target.shows d
command_at g l v s a d BlockErase same plane = opened_at g v s a (After BlockErase 0) _ _ d.target.shows d
command_at g l v s a d PageProgram same plane = opened_at g v s a (After PageProgram 0) _ _ d.target.shows d
command_at g l v s a d ReadId same plane = opened_at g v s a (After ReadId 0) _ _ d.target.shows d
command_at g l v s a d ReadParameterPage same plane = opened_at g v s a (After ReadParameterPage 0) _ _ d.target.shows d
command_at g l v s a d ReadUniqueId same plane = opened_at g v s a (After ReadUniqueId 0) _ _ d.target.shows d
command_at g l v s a d GetFeatures same plane = opened_at g v s a (After GetFeatures 0) _ _ d.target.shows d
command_at g l v s a d SetFeatures same plane = opened_at g v s a (After SetFeatures 0) _ _ d.target.shows d
command_at g l v s a d ResetLun same plane = opened_at g v s a (After ResetLun 0) _ _ d.target.shows d
command_at g l v s a d ChangeWriteColumn same plane = at (place_wants ChangeWriteColumn s.target.tail) (place_wants ChangeWriteColumn a.target.tail) (same.1 refl)
  where
    left : Bool → State → State
    left w x = cond w (with_target x (record x.target { tail = InColumn 0 })) (opened_by ChangeWriteColumn x)

    at : (b c : Bool) → b ≡ c → At g v (left b s) (left c a)
    at true true e = record {
      registers = d.registers;
      target = (let t = d.target in record { tail = Exactly (InColumn 0); has_column = t.has_column; column = t.column; named = t.named; fine = t.fine; shows = t.shows });
      lun = d.lun;
    }
    at true false e = absurd cc
    at false true e = absurd cc
    at false false e = opened_at g v s a (After ChangeWriteColumn 0) _ _ d.target.shows d
command_at g l v s a d ReadConfirm same plane =
    let k = given_is v.lun.column (column_number v.target.column) s.target.column a.target.column d.target.has_column d.target.column in
    let r = read_with (may_be_reads s.lun.queue) (may_be_reads a.lun.queue) (reads_on s.lun.queue a.lun.queue d.lun.queue) in
    record {
      registers = d.registers;
      target = one_place g v.target Closed _ _ (read_is g s.target.shows a.target.shows d.target.shows);
      lun = record {
        busy = λ e. e;
        register = r.register;
        has_column = k.has;
        column = k.at;
        queue = refl;
        last_read = r.last_read;
        last_cache = r.last_cache;
        last_other = r.last_other;
        cached_index = cached_index_is g v.lun.cached.index s.target.named a.target.named d.target.named d.target.fine;
        cached_page = cached_page_is g l v.lun.cached.page s.target.named a.target.named d.target.named d.target.fine;
        held = held_read g s.lun.queue a.lun.queue s.target.named a.target.named d.lun.queue d.target.named d.target.fine;
        array = plane_is g s.target.named a.target.named d.target.named d.target.fine;
        copies = copies_self uncopied;
        programming = λ e. e;
      };
    }
command_at g l v s a d ReadPlane same plane = record {
  registers = d.registers;
  target = one_place g v.target Closed _ _ (read_is g s.target.shows a.target.shows d.target.shows);
  lun = record {
    busy = λ e. e;
    register = tt;
    has_column = tt;
    column = any_free _;
    queue = reads_is g s.lun.queue a.lun.queue s.target.named a.target.named d.lun.queue d.target.named d.target.fine;
    last_read = λ e. e;
    last_cache = λ e. e;
    last_other = λ e. e;
    cached_index = d.lun.cached_index;
    cached_page = d.lun.cached_page;
    held = among_self no_planes;
    array = among_self no_planes;
    copies = copies_self no_copies;
    programming = λ e. e;
  };
}
command_at g l v s a d CopybackRead same plane =
    let k = given_is v.lun.column (column_number v.target.column) s.target.column a.target.column d.target.has_column d.target.column in
    let r = read_with (may_be_reads s.lun.queue) (may_be_reads a.lun.queue) (reads_on s.lun.queue a.lun.queue d.lun.queue) in
    record {
      registers = d.registers;
      target = one_place g v.target Closed _ _ (read_is g s.target.shows a.target.shows d.target.shows);
      lun = record {
        busy = λ e. e;
        register = r.register;
        has_column = k.has;
        column = k.at;
        queue = refl;
        last_read = λ e. e;
        last_cache = λ e. e;
        last_other = λ e. e;
        cached_index = d.lun.cached_index;
        cached_page = d.lun.cached_page;
        held = held_copy g v.lun s.lun a.lun s.target.named a.target.named d.lun d.target.named d.target.fine;
        array = plane_is g s.target.named a.target.named d.target.named d.target.fine;
        copies = copies_copy g g.pages v.lun s.lun a.lun s.target.named a.target.named d.lun d.target.named d.target.fine;
        programming = λ e. e;
      };
    }
command_at g l v s a d ChangeReadColumnConfirm same plane = at (selects_plane_at s.target.tail) (selects_plane_at a.target.tail) (plane refl)
  where
    left : Bool → State → State
    left b x =
        cond b (record { registers = x.registers; target = closed data_shown; lun = record x.lun { register = register_selected x.target.named x.lun.held; column = given_at x.target.column } })
        (record { registers = x.registers; target = closed x.target.shows; lun = record x.lun { column = given_at x.target.column } })

    at : (b c : Bool) → b ≡ c → At g v (left b s) (left c a)
    at true true e = record {
      registers = d.registers;
      target = one_place g v.target Closed data_shown data_shown data_is;
      lun = (
          let f = d.lun in
          let k = given_is v.lun.column (column_number v.target.column) s.target.column a.target.column d.target.has_column d.target.column in
          record {
            busy = f.busy;
            register = selected_is g s.target.named a.target.named s.lun.held a.lun.held d.target.named d.target.fine f.held;
            has_column = k.has;
            column = k.at;
            queue = f.queue;
            last_read = f.last_read;
            last_cache = f.last_cache;
            last_other = f.last_other;
            cached_index = f.cached_index;
            cached_page = f.cached_page;
            held = f.held;
            array = f.array;
            copies = f.copies;
            programming = f.programming;
          }
          );
    }
    at true false e = absurd cc
    at false true e = absurd cc
    at false false e = record {
      registers = d.registers;
      target = one_place g v.target Closed s.target.shows a.target.shows d.target.shows;
      lun = lun_with_output v.lun s.lun a.lun _ _ (given_is v.lun.column (column_number v.target.column) s.target.column a.target.column d.target.has_column d.target.column) d.lun;
    }
command_at g l v s a d BlockEraseConfirm same plane = started_at g v s a NoRows NoRows refl d
command_at g l v s a d ProgramConfirm same plane = started_at g v s a NoRows NoRows refl d
command_at g l v s a d BlockErasePlane same plane = started_at g v s a _ _ (queued_is g true s.lun.queue a.lun.queue s.target.named a.target.named d.lun.queue d.target.named) d
command_at g l v s a d ProgramPlane same plane = record {
  registers = d.registers;
  target = one_place g v.target Closed s.target.shows a.target.shows d.target.shows;
  lun = record {
    busy = λ e. e;
    register = tt;
    has_column = tt;
    column = any_free _;
    queue = queued_is g false s.lun.queue a.lun.queue s.target.named a.target.named d.lun.queue d.target.named;
    last_read = λ e. e;
    last_cache = λ e. e;
    last_other = λ e. e;
    cached_index = d.lun.cached_index;
    cached_page = d.lun.cached_page;
    held = d.lun.held;
    array = among_self no_planes;
    copies = queued_copies s.lun.copies a.lun.copies d.lun.copies;
    programming = d.lun.programming;
  };
}
command_at g l v s a d ProgramCache same plane = record {
  registers = d.registers;
  target = one_place g v.target Closed s.target.shows a.target.shows d.target.shows;
  lun = record {
    busy = λ e. e;
    register = tt;
    has_column = tt;
    column = any_free _;
    queue = refl;
    last_read = λ e. e;
    last_cache = λ e. e;
    last_other = λ e. e;
    cached_index = d.lun.cached_index;
    cached_page = d.lun.cached_page;
    held = among_self no_planes;
    array = among_self no_planes;
    copies = copies_self no_copies;
    programming = λ e. e;
  };
}
command_at g l v s a d Reset same plane = reset_at g v s a d
command_at g l v s a d SynchronousReset same plane = reset_at g v s a d
command_at g l v s a d ReadCacheSequential same plane = at (place_wants ReadCacheSequential s.target.tail) (place_wants ReadCacheSequential a.target.tail) (same.0 refl)
  where
    left : Bool → State → State
    left w x = cond w (cache_read (record { 0 = 2 }) (cached_at x.target.named) (named_plane x.target.named) (shows_after_read g x.target.shows) x) (cache_read (record { 0 = 2 }) (next_cached x.lun.cached) x.lun.array data_shown x)

    at : (b c : Bool) → b ≡ c → At g v (left b s) (left c a)
    at true true e =
        cache_at g v s a _ _ _ _ _ _ _ (cached_index_is g v.lun.cached.index s.target.named a.target.named d.target.named d.target.fine) (cached_page_is g l v.lun.cached.page s.target.named a.target.named d.target.named d.target.fine)
        (plane_is g s.target.named a.target.named d.target.named d.target.fine)
        (read_is g s.target.shows a.target.shows d.target.shows) d
    at true false e = absurd cc
    at false true e = absurd cc
    at false false e =
        cache_at g v s a _ _ _ s.lun.array a.lun.array data_shown data_shown (numbers.grown v.lun.cached.index s.lun.cached.index a.lun.cached.index 1 d.lun.cached_index) (numbers.grown v.lun.cached.page s.lun.cached.page a.lun.cached.page 1 d.lun.cached_page) d.lun.array data_is d
command_at g l v s a d ReadCacheEnd same plane = cache_at g v s a other_closer s.lun.cached a.lun.cached s.lun.array a.lun.array data_shown data_shown d.lun.cached_index d.lun.cached_page d.lun.array data_is d
command_at g l v s a d _ same plane = d
