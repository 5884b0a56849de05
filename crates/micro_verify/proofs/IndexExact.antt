-- Words that move the index register are exact.
use Rattle.std.proofs.Math.Nat.{min-eq_left, min-eq_right}
use Rattle.std.proofs.Common.{◌≡◌, ℕ, ◌+◌, ◌-◌, ◌%◌, ◌≤◌, ◌<◌, ◌==◌, Bool, true, false, ◌&&◌, nat_le, List, [], ◌∷◌, length, Option, Some, None, refl, sym, ap, ◌∙◌, subst, arith, min, eqb-true}
use Rattle.std.proofs.lemmas.Bool.Decides.{nat_tests}
use Rattle.std.proofs.lemmas.Bool.{and_parts, and_from}
use Rattle.onfi_cycle.proofs.Booleans.{eqb_self}
use Rattle.nand_geometry.specs.declared.parts.Parts.{Parts}
use Rattle.onfi_cycle.specs.declared.queued.Queued.{Queued}
use Rattle.onfi_cycle.specs.LunView.{LunView}
use Rattle.onfi_cycle.specs.Channel.{Channel}
use Rattle.micro_word.specs.declared.word.Word.TheVariants.{RowAdd, Row}
use Rattle.micro_word.specs.Text.{Microprogram}
use Rattle.micro_claims.specs.declared.refusal.Reason.{Reason}
use Rattle.micro_claims.specs.declared.refusal.Reason.TheVariants.{AddressUnaligned}
use Rattle.micro_program.specs.Program.{Job, index_now, cost_now}
use Rattle.micro_claims.specs.Spans.{kept, saturated, greatest_bound, bound_plus, only, only_of}
use Rattle.micro_claims.specs.Spans.{Span}
use Rattle.micro_claims.specs.declared.state.State.{State}
use Rattle.micro_claims.specs.declared.drift.Drift.{Drift}
use Rattle.micro_claims.specs.declared.named_row.NamedRow.{NamedRow}
use Rattle.micro_claims.specs.declared.page_range.PageRange.{PageRange}
use Rattle.micro_claims.specs.declared.known_target.KnownTarget.{KnownTarget}
use Rattle.micro_claims.specs.declared.known_lun.KnownLun.{KnownLun}
use Rattle.micro_claims.specs.declared.queued_rows.QueuedRows.{QueuedRows}
use Rattle.micro_claims.specs.declared.queued_rows.QueuedRows.TheVariants.{NoRows, SomeRows, SomeReads, AnyRows}
use Rattle.micro_claims.specs.Against.{is_inside_address, same_test}
use Rattle.micro_claims.specs.Leaves.{drift_of, drift_more, drift_moved, drift_set, and_drift, named_moved, rows_moved, rows_at, page_plus, goes_along}
use Rattle.micro_claims.specs.Reasons.{breaks_cycle_forbidden, breaks_address_unaligned, breaks_handover_in_sequence, breaks_buffer_passed, breaks_row_or_plane_outside, breaks_column_too_large, breaks_no_status, breaks_ends_too_soon, breaks_over_budget, breaks_command_not_allowed}
use Rattle.micro_claims.specs.Accepts.{state_after}
use Rattle.micro_claims.proofs.Fits.{Address, Now, now_of}
use Rattle.micro_claims.proofs.Indices.{mod_more}
use Rattle.micro_claims.proofs.Sounding.{no_reasons}
use Rattle.micro_verify.specs.Lazy.{lone_job, Run}
use Rattle.micro_verify.specs.Cause.{Cause}
use Rattle.micro_verify.proofs.Lone.{Lone, IsAlone, IsLone}
use Rattle.micro_verify.proofs.Mirrors.{Mirrors, TailMirror, LunMirror, NameIs, IsExactly, drift_from, greatest_index, RowsMirror, row_goes_along, place_erases, kept_plus}
use Rattle.micro_verify.proofs.Causes.{Goes, ExactWord, reason_holds, reason_is}
use Rattle.micro_verify.proofs.WordsExact.{goes_by, cost_exact}
use Rattle.micro_verify.proofs.SettingsExact.{amid_now}
use Rattle.micro_claims.specs.Copies.{copies_moved, parity_of, no_distance}

-- 1. drifts

-- the distance of a row in its least numbers
pub drift_of_is : (now index ahead behind : ℕ) → now + behind ≡ index + ahead → ahead ≤ greatest_bound → behind ≤ greatest_bound → drift_of ahead behind ≡ Some (drift_from now index)
drift_of_is now index ahead behind e low high = rw (ahead_kept, behind_kept) (ap (λ (d : Drift). Some d) (λ i. record { ahead = aheads i; behind = behinds i }))
  where
    ahead_kept : nat_le ahead greatest_bound ≡ true
    ahead_kept = grind (arith, nat_tests, low)

    behind_kept : nat_le behind greatest_bound ≡ true
    behind_kept = grind (arith, nat_tests, high)

    at : (b : Bool) → nat_le ahead behind ≡ b → (ahead - min ahead behind ≡ now - index) × (behind - min ahead behind ≡ index - now)
    at true f =
        let less : ahead ≤ behind = grind (arith, nat_tests) in
        let least = min-eq_left less in
        (omega (arith, e, less, least), omega (arith, e, less, least))
    at false f =
        let less : behind ≤ ahead = grind (arith, nat_tests) in
        let least : min ahead behind ≡ behind = min-eq_right less in
        (omega (arith, e, less, least), omega (arith, e, less, least))

    aheads : ahead - min ahead behind ≡ now - index
    aheads = (at (nat_le ahead behind) refl).0

    behinds : behind - min ahead behind ≡ index - now
    behinds = (at (nat_le ahead behind) refl).1

-- the distances move with the register
abbrev pub MovesExactly : ℕ → ℕ → (Drift → Option Drift) → Type 0
MovesExactly old new move = (index : ℕ) → index ≤ greatest_index → move (drift_from old index) ≡ Some (drift_from new index)

more_moves : (old n : ℕ) → old ≤ greatest_index → n ≤ 65535 → MovesExactly old (old + n) (drift_more n)
more_moves old n low few index small =
    drift_of_is (old + n) index (old - index + n) (index - old) (omega arith) (omega (arith, low, few)) (omega (arith, small))

set_moves : (old n : ℕ) → old ≤ greatest_index → n ≤ 65535 → MovesExactly old n (drift_moved old n)
set_moves old n low few index small =
    drift_of_is n index (old - index + n) (index - old + old) (omega arith) (omega (arith, low, few)) (omega (arith, small, low))

pub only_is : (n : ℕ) (s : Span) → n ≤ greatest_index → IsExactly n s → only s ≡ Some n
only_is n s low m = (λ i. only_of (m.lo i) (m.hi i)) ∙ rw (below, eqb_self n) refl
  where
    below : nat_le n greatest_bound ≡ true
    below = grind (arith, nat_tests, low)

-- 2. what is said by a distance

name_moved : (g : Parts) (a : Address) (old new : ℕ) (move : Drift → Option Drift) (o : Option NamedRow) → MovesExactly old new move → NameIs g a old o → NameIs g a new (named_moved move o)
name_moved g a old new move None moves m = m
name_moved g a old new move (Some n) moves m =
    record {
      index = m.index;
      index_low = m.index_low;
      planes = m.planes;
      plane_low = m.plane_low;
      page = m.page;
      drift = ap (λ (d : Option Drift). and_drift d move) m.drift ∙ moves a.index m.index_low;
    }

rows_go : (g : Parts) (old new : ℕ) (move : Drift → Option Drift) (q : QueuedRows) (queue : List Queued) → MovesExactly old new move → RowsMirror g old q queue → RowsMirror g new (rows_moved move q) queue
rows_go g old new move NoRows queue moves m = m
rows_go g old new move AnyRows queue moves m = m
rows_go g old new move (SomeReads planes surely d) queue moves m = absurd m
rows_go g old new move (SomeRows erase planes d) queue moves m =
    let moved : move d ≡ Some (drift_from new m.index) = ap move m.drift ∙ moves m.index m.index_low in
    subst (λ (o : Option Drift). RowsMirror g new (rows_at erase planes o) queue) (sym moved)
    (record { some = m.some; index = m.index; index_low = m.index_low; drift = refl; of_planes = m.of_planes; set = m.set; rows = m.rows })

pub tail_moved : (g : Parts) (j : Job) (v : KnownTarget) (n m : Now) (move : Drift → Option Drift) (c : Lone) → is_inside_address v.tail ≡ false → MovesExactly n.index m.index move → TailMirror g j v n c → TailMirror g j (record v { named = named_moved move v.named }) m c
tail_moved g j v n m move c apart moves t =
    record {
      place = t.place;
      single = t.single;
      address = t.address;
      is = t.is;
      now = λ e. let both : true ≡ false = sym e ∙ (sym (ap is_inside_address t.single) ∙ apart) in cc;
      column = t.column;
      row = t.row;
      named = λ e. name_moved g t.address n.index m.index move v.named moves (t.named e);
      base = t.base;
      changes = t.changes;
    }

pub lun_moved : (g : Parts) (l : KnownLun) (old new : ℕ) (move : Drift → Option Drift) (view : LunView) → MovesExactly old new move → LunMirror g l old view → LunMirror g (record l { queue = rows_moved move l.queue; copies = copies_moved (parity_of g.pages (move no_distance)) l.copies }) new view
lun_moved g l old new move view moves m =
    record {
      busy = m.busy;
      register = m.register;
      known = m.known;
      column = m.column;
      no_column = m.no_column;
      queue = rows_go g old new move l.queue view.queue moves m.queue;
      last = m.last;
      caching = m.caching;
      other = m.other;
      read = m.read;
      cached_page = m.cached_page;
      cached_index = m.cached_index;
      held = m.held;
      programming = m.programming;
      no_program = m.no_program;
    }

-- a row that goes along with the queue goes on doing so
goes_on : (g : Parts) (old new : ℕ) (move : Drift → Option Drift) (erase : Bool) (o : Option NamedRow) (q : QueuedRows) (queue : List Queued) → MovesExactly old new move → RowsMirror g old q queue → row_goes_along erase o q ≡ true → row_goes_along erase (named_moved move o) (rows_moved move q) ≡ true
goes_on g old new move erase None q queue moves m h = cc
goes_on g old new move erase (Some n) NoRows queue moves m h = refl
goes_on g old new move erase (Some n) AnyRows queue moves m h = absurd m
goes_on g old new move erase (Some n) (SomeReads planes surely d) queue moves m h = absurd m
goes_on g old new move erase (Some n) (SomeRows kind planes d) queue moves m h =
    let moved : move d ≡ Some (drift_from new m.index) = ap move m.drift ∙ moves m.index m.index_low in
    subst (λ (o : Option Drift). goes_along erase (and_drift n.drift move) (rows_at kind planes o) ≡ true) (sym moved)
    (by n.drift h moved)
  where
    by : (o : Option Drift) → goes_along erase o (SomeRows kind planes d) ≡ true → move d ≡ Some (drift_from new m.index) → goes_along erase (and_drift o move) (SomeRows kind planes (drift_from new m.index)) ≡ true
    by None h moved = let parts = and_parts (same_test erase kind) false h in cc
    by (Some f) h moved =
        let parts = and_parts (same_test erase kind) (f.ahead == d.ahead && f.behind == d.behind) h in
        let both = and_parts (f.ahead == d.ahead) (f.behind == d.behind) parts.1 in
        let aheads : f.ahead ≡ d.ahead = eqb-true f.ahead d.ahead both.0 in
        let behinds : f.behind ≡ d.behind = eqb-true f.behind d.behind both.1 in
        let same : f ≡ d = λ i. record { ahead = aheads i; behind = behinds i } in
        subst (λ (o : Option Drift). goes_along erase o (SomeRows kind planes (drift_from new m.index)) ≡ true) (sym (ap move same ∙ moved))
        (and_from (same_test erase kind) _ parts.0 (rw (eqb_self (new - m.index), eqb_self (m.index - new)) refl))

-- 3. rowadd

page_more : (p index n : ℕ) (r : PageRange) → r ≡ record { lo = index % p; hi = index % p } → page_plus p n r ≡ record { lo = (index + n) % p; hi = (index + n) % p }
page_more p index n r e = ap (page_plus p n) e ∙ (rw (eqb_self (index % p)) (λ i. record { lo = is i; hi = is i }))
  where
    is : (index % p + n) % p ≡ (index + n) % p
    is = sym (mod_more p index n)

lo_plus : (n k lo : ℕ) → n + k ≤ greatest_bound → lo ≡ saturated n → saturated (lo + k) ≡ saturated (n + k)
lo_plus n k lo low e = ap (λ (x : ℕ). saturated (x + k)) e ∙ (rw inside refl)
  where
    inside : nat_le n greatest_bound ≡ true
    inside = grind (arith, nat_tests, low)

pub rowadd_exact : (s : Channel) (text : Microprogram) (v : State) (r : Run) (c : Lone) (n : ℕ) → n < 65536 → length r.done ≤ 32768 → IsAlone s → IsLone s r.past c → Mirrors s.geometry (lone_job s.geometry text) v r.done c → ExactWord s text v r (RowAdd n)
unfolding state_after breaks_cycle_forbidden breaks_address_unaligned breaks_handover_in_sequence breaks_buffer_passed breaks_row_or_plane_outside breaks_column_too_large breaks_no_status breaks_ends_too_soon breaks_over_budget breaks_command_not_allowed
rowadd_exact s text v r c n few many k is m =
    record { cause = λ reason e. by reason (reason_is s.geometry text v (RowAdd n) reason e); goes = λ e f. goes (no_reasons s.geometry text v (RowAdd n) e).no_address_unaligned }
  where
    g : Parts
    g = s.geometry

    j : Job
    j = lone_job g text

    old : ℕ
    old = index_now 0 r.done

    low : index_now 0 r.done ≤ greatest_index
    low = let most = m.registers.index_low in omega (arith, most, many)

    moves : MovesExactly (index_now 0 r.done) (index_now 0 r.done + n) (drift_more n)
    moves = more_moves (index_now 0 r.done) n low (omega (arith, few))

    by : (reason : Reason) → reason_holds g text v (RowAdd n) reason ≡ true → Cause s j r (RowAdd n) reason
    by AddressUnaligned h = amid_now s text v r c is m h
    by _ h = cc

    goes : is_inside_address v.target.tail ≡ false → Goes s text (state_after g v (RowAdd n)) r (RowAdd n)
    goes apart =
        goes_by s text (state_after g v (RowAdd n)) r (RowAdd n) [] r.past c k refl refl is tt
        (λ answer. record {
          registers = record {
            column = m.registers.column;
            column_low = m.registers.column_low;
            planes = m.registers.planes;
            plane_low = m.registers.plane_low;
            index = record {
              lo = lo_plus (index_now 0 r.done) n v.registers.index.lo (omega (arith, low, few)) m.registers.index.lo;
              hi = ap (λ (o : Option ℕ). bound_plus o n) m.registers.index.hi ∙ kept_plus (index_now 0 r.done) n;
            };
            index_low = let most = m.registers.index_low in omega (arith, most, few);
            page = page_more g.pages (index_now 0 r.done) n v.registers.page m.registers.page;
            place = m.registers.place;
            cost = cost_exact (cost_now g r.done) 0 v.registers.cost m.registers.cost;
          };
          tail = tail_moved g j v.target (now_of j r.done) (now_of j (record { word = RowAdd n; answer = answer } ∷ r.done)) (drift_more n) c apart moves m.tail;
          shows = m.shows;
          lun = lun_moved g v.lun (index_now 0 r.done) (index_now 0 r.done + n) (drift_more n) c.view moves m.lun;
          along = λ e. goes_on g (index_now 0 r.done) (index_now 0 r.done + n) (drift_more n) (place_erases v.target.tail) v.target.named v.lun.queue c.view.queue moves m.lun.queue (m.along e);
        })

-- 4. row

pub row_exact : (s : Channel) (text : Microprogram) (v : State) (r : Run) (c : Lone) (n : ℕ) → n < 4096 → length r.done ≤ 32768 → IsAlone s → IsLone s r.past c → Mirrors s.geometry (lone_job s.geometry text) v r.done c → ExactWord s text v r (Row n)
unfolding state_after breaks_cycle_forbidden breaks_address_unaligned breaks_handover_in_sequence breaks_buffer_passed breaks_row_or_plane_outside breaks_column_too_large breaks_no_status breaks_ends_too_soon breaks_over_budget breaks_command_not_allowed
row_exact s text v r c n few many k is m =
    record { cause = λ reason e. by reason (reason_is s.geometry text v (Row n) reason e); goes = λ e f. goes (no_reasons s.geometry text v (Row n) e).no_address_unaligned }
  where
    g : Parts
    g = s.geometry

    j : Job
    j = lone_job g text

    low : index_now 0 r.done ≤ greatest_index
    low = let most = m.registers.index_low in omega (arith, most, many)

    number : n ≡ 0 + n
    number = omega arith

    moves_to : MovesExactly (index_now 0 r.done) n (drift_set (only v.registers.index) n)
    moves_to = λ index small. ap (λ (o : Option ℕ). drift_set o n (drift_from (index_now 0 r.done) index)) (only_is (index_now 0 r.done) v.registers.index low m.registers.index) ∙ set_moves (index_now 0 r.done) n low (omega (arith, few)) index small

    moves : MovesExactly (index_now 0 r.done) (0 + n) (drift_set (only v.registers.index) n)
    moves = subst (λ (x : ℕ). MovesExactly (index_now 0 r.done) x (drift_set (only v.registers.index) n)) number moves_to

    by : (reason : Reason) → reason_holds g text v (Row n) reason ≡ true → Cause s j r (Row n) reason
    by AddressUnaligned h = amid_now s text v r c is m h
    by _ h = cc

    goes : is_inside_address v.target.tail ≡ false → Goes s text (state_after g v (Row n)) r (Row n)
    goes apart =
        goes_by s text (state_after g v (Row n)) r (Row n) [] r.past c k refl refl is tt
        (λ answer. record {
          registers = record {
            column = m.registers.column;
            column_low = m.registers.column_low;
            planes = m.registers.planes;
            plane_low = m.registers.plane_low;
            index = record { lo = ap saturated number; hi = ap kept number };
            index_low = omega (arith, few);
            page = λ i. record { lo = number i % g.pages; hi = number i % g.pages };
            place = m.registers.place;
            cost = cost_exact (cost_now g r.done) 0 v.registers.cost m.registers.cost;
          };
          tail = tail_moved g j v.target (now_of j r.done) (now_of j (record { word = Row n; answer = answer } ∷ r.done)) (drift_set (only v.registers.index) n) c apart moves m.tail;
          shows = m.shows;
          lun = lun_moved g v.lun (index_now 0 r.done) (0 + n) (drift_set (only v.registers.index) n) c.view moves m.lun;
          along = λ e. goes_on g (index_now 0 r.done) (0 + n) (drift_set (only v.registers.index) n) (place_erases v.target.tail) v.target.named v.lun.queue c.view.queue moves m.lun.queue (m.along e);
        })
