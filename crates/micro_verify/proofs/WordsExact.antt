-- Words whose claims are exact: where one is refused its cause stands, and else the claim behind it mirrors the lazy run.
use Rattle.std.proofs.Common.{◌≡◌, ℕ, ◌+◌, ◌%◌, ◌≤◌, ◌<◌, ◌==◌, Bool, true, false, ◌&&◌, ◌||◌, cond, ltb, List, [], ◌∷◌, Option, Some, None, refl, sym, ap, ◌∙◌, subst, eqb-true, arith}
use Rattle.nand_geometry.specs.declared.parts.Parts.{Parts}
use Rattle.onfi_cycle.specs.declared.forbidden.Forbidden.{Forbidden}
use Rattle.onfi_cycle.specs.declared.item.Item.{Item}
use Rattle.onfi_cycle.specs.declared.item.Item.TheVariants.{Rdy}
use Rattle.onfi_cycle.specs.declared.item.Kind.TheVariants.{Cmd}
use Rattle.onfi_cycle.specs.LunView.{LunView}
use Rattle.onfi_cycle.specs.Command.{command}
use Rattle.onfi_cycle.specs.Sequence.{is_open}
use Rattle.onfi_cycle.specs.Lun.{is_cache_read, is_busy, leaves_array_busy, programs}
use Rattle.onfi_cycle.specs.Channel.{Channel}
use Rattle.micro_word.specs.declared.word.Word.{Word}
use Rattle.micro_word.specs.declared.word.Word.TheVariants.{Wait, ReadStatus}
use Rattle.micro_word.specs.Text.{Microprogram}
use Rattle.micro_claims.specs.declared.refusal.Reason.{Reason}
use Rattle.micro_claims.specs.declared.refusal.Reason.TheVariants.{CycleForbidden, HandoverInSequence, OverBudget}
use Rattle.micro_program.specs.Program.{Job, Done, Answer, cost, cost_now, index_now, index_after, column_now, column_after, plane_now, plane_after, place_now, place_after}
use Rattle.micro_program.specs.Moves.{Move, Give, Take, moves, and_then}
use Rattle.micro_program.specs.Played.{Played, played}
use Rattle.micro_claims.specs.declared.state.State.{State}
use Rattle.micro_claims.specs.declared.registers.Registers.{Registers}
use Rattle.micro_claims.specs.declared.known_lun.KnownLun.{KnownLun}
use Rattle.micro_claims.specs.declared.place.Place.TheVariants.{Closed}
use Rattle.micro_claims.specs.Spans.{greatest_bound, kept, bound_plus, plus}
use Rattle.micro_claims.specs.Spans.{Span}
use Rattle.micro_claims.specs.Against.{may_be_open}
use Rattle.micro_claims.specs.Leaves.{paid, cost_plus, unread}
use Rattle.micro_claims.specs.declared.planes.Planes.{Planes}
use Rattle.micro_claims.specs.Planes.{just_plane}
use Rattle.micro_claims.specs.Reasons.{breaks_cycle_forbidden, breaks_address_unaligned, breaks_handover_in_sequence, breaks_buffer_passed, breaks_row_or_plane_outside, breaks_column_too_large, breaks_no_status, breaks_ends_too_soon, breaks_over_budget, breaks_command_not_allowed}
use Rattle.micro_claims.specs.Accepts.{state_after}
use Rattle.micro_verify.specs.Lazy.{the_lun, lone_job, Run, run_with, awaited, answer_of, no_failures}
use Rattle.micro_verify.specs.Cause.{Cause, WordStops, is_of_cycle_forbidden}
use Rattle.micro_claims.proofs.Fits.{now_of}
use Rattle.micro_claims.proofs.Tails.{no_address}
use Rattle.micro_claims.proofs.Sounding.{Unmoved, no_reasons}
use Rattle.micro_program.proofs.PollScenes.{polled_view}
use Rattle.micro_verify.proofs.Lone.{Lone, IsAlone, IsLone, MovesPass, lone_after, moves_play, stops_there, ready_next}
use Rattle.micro_verify.proofs.Mirrors.{Mirrors, RegistersMirror, TailMirror, LunMirror, Shut, IsExactly, kept_plus, open_same}
use Rattle.micro_verify.proofs.Told.{Told, told_status}
use Rattle.micro_verify.proofs.PollExact.{poll_moves, polled_lone, polled_shut, poll_passes, poll_leaves_lone, unread_exact}
use Rattle.micro_verify.proofs.Causes.{Goes, ExactWord, reason_holds, reason_is, cost_cause}
use Rattle.micro_claims.proofs.Programs.{ready_programs}

-- 1. what serves all of them

-- moves that pass behind what the word waits for
pub goes_by : (s : Channel) (text : Microprogram) (v : State) (r : Run) (word : Word) (moved : List Move) (past : List Item) (c : Lone) → IsAlone s → moves s.geometry (lone_job s.geometry text) r.done word ≡ Some moved → awaited s.geometry r.past word ≡ past → IsLone s past c → MovesPass s.geometry moved c → ((answer : Answer) → Mirrors s.geometry (lone_job s.geometry text) v (record { word = word; answer = answer } ∷ r.done) (lone_after s.geometry moved c)) → Goes s text v r word
goes_by s text v r word moved past c k is_moved is_past is pass behind =
    let q = moves_play s moved past c k is pass in
    let G : Option Played → Option Run = λ o. and_then o (λ p. Some (run_with word r.done p)) in
    record {
      run = run_with word r.done q.p;
      is_run = ap (λ (o : Option (List Move)). and_then o (λ moved. G (played s 0 moved (awaited s.geometry r.past word)))) is_moved ∙ (ap (λ (x : List Item). G (played s 0 moved x)) is_past ∙ ap G q.plays);
      now = lone_after s.geometry moved c;
      is = q.is;
      longer = refl;
      mirrors = behind (answer_of word q.p.bytes);
    }

-- a cost, also none
pub cost_exact : (n k : ℕ) (s : Span) → s.hi ≡ kept n → (cost_plus k s).hi ≡ kept (n + k)
cost_exact n k s h = at (k == 0) refl
  where
    at : (b : Bool) → (k == 0) ≡ b → (cond b s (plus s k)).hi ≡ kept (n + k)
    at true e = let none : k ≡ 0 = eqb-true k 0 e in let same : n ≡ n + k = omega (arith, none) in h ∙ ap kept same
    at false e = ap (λ (o : Option ℕ). bound_plus o k) h ∙ kept_plus n k

-- the registers after a word that leaves the index
pub registers_set : (g : Parts) (r : Registers) (column : Span) (planes : Planes) (place : Span) (b : Bool) (done : List Done) (word : Word) (answer : Answer) → RegistersMirror g r done → IsExactly (column_after word (column_now done)) column → column_after word (column_now done) < 65536 → planes ≡ just_plane (plane_after word (plane_now done)) → plane_after word (plane_now done) ≤ 3 → ((base n : ℕ) → index_after base word n ≡ n) → place.hi ≡ kept (place_after word (place_now done)) → RegistersMirror g (paid (cost g word) (record r { column = column; planes = planes; place = place; polled = b })) (record { word = word; answer = answer } ∷ done)
registers_set g r column planes place b done word answer m is_column column_low are_planes plane_low index is_place =
    record {
      column = is_column;
      column_low = column_low;
      planes = are_planes;
      plane_low = plane_low;
      index = subst (λ (n : ℕ). IsExactly n r.index) (sym (index 0 (index_now 0 done))) m.index;
      index_low = let same : index_after 0 word (index_now 0 done) ≡ index_now 0 done = index 0 (index_now 0 done) in let low = m.index_low in omega (arith, same, low);
      page = m.page ∙ ap (λ (n : ℕ). record { lo = n % g.pages; hi = n % g.pages }) (sym (index 0 (index_now 0 done)));
      place = is_place;
      cost = cost_exact (cost_now g done) (cost g word) r.cost m.cost;
    }

-- the registers after a word that leaves all but the place
pub registers_moved : (g : Parts) (r : Registers) (place : Span) (b : Bool) (done : List Done) (word : Word) (answer : Answer) → Unmoved word → place.hi ≡ kept (place_after word (place_now done)) → RegistersMirror g r done → RegistersMirror g (paid (cost g word) (record r { place = place; polled = b })) (record { word = word; answer = answer } ∷ done)
registers_moved g r place b done word answer u is_place m =
    registers_set g r r.column r.planes place b done word answer m
    (subst (λ (n : ℕ). IsExactly n r.column) (sym (u.column (column_now done))) m.column)
    (subst (λ (n : ℕ). n < 65536) (sym (u.column (column_now done))) m.column_low)
    (m.planes ∙ ap just_plane (sym (u.plane (plane_now done))))
    (subst (λ (n : ℕ). n ≤ 3) (sym (u.plane (plane_now done))) m.plane_low)
    u.index is_place

-- registers that a word leaves, its cost apart
pub registers_exact : (g : Parts) (r : Registers) (b : Bool) (done : List Done) (word : Word) (answer : Answer) → Unmoved word → ((n : ℕ) → place_after word n ≡ n) → RegistersMirror g r done → RegistersMirror g (paid (cost g word) (record r { polled = b })) (record { word = word; answer = answer } ∷ done)
registers_exact g r b done word answer u place m = registers_moved g r r.place b done word answer u (m.place ∙ ap kept (sym (place (place_now done)))) m

-- 2. polls

lun_polled : (g : Parts) (l : KnownLun) (now : ℕ) (view : LunView) → LunMirror g l now view → LunMirror g (record l { column = unread l.column }) now (polled_view view.selected view.overlapped view)
lun_polled g l now view m =
    record {
      busy = m.busy;
      register = m.register;
      known = m.known;
      column = λ e. unread_exact l.column view.column (m.column e);
      no_column = λ e. ap unread (m.no_column e);
      last = m.last;
      queue = m.queue;
      caching = m.caching;
      other = m.other;
      read = m.read;
      cached_page = m.cached_page;
      cached_index = m.cached_index;
      held = m.held;
      programming = m.programming;
      no_program = m.no_program;
    }

lun_ready : (g : Parts) (l : KnownLun) (now : ℕ) (view : LunView) (x : Bool) → programs (record view { busy = false; array_busy = x }) ≡ false → LunMirror g l now view → LunMirror g (record l { busy = false }) now (record view { busy = false; array_busy = x })
lun_ready g l now view x program m = record { busy = refl; register = m.register; known = m.known; column = m.column; no_column = m.no_column; last = m.last; queue = m.queue; caching = m.caching; other = m.other; read = m.read; cached_page = m.cached_page; cached_index = m.cached_index; held = m.held; programming = m.programming; no_program = program }

lun_is_ready : (g : Parts) (l : KnownLun) (now : ℕ) (view : LunView) → view.busy ≡ false → LunMirror g l now view → LunMirror g (record l { busy = false }) now view
lun_is_ready g l now view e m = record { busy = sym e; register = m.register; known = m.known; column = m.column; no_column = m.no_column; last = m.last; queue = m.queue; caching = m.caching; other = m.other; read = m.read; cached_page = m.cached_page; cached_index = m.cached_index; held = m.held; programming = m.programming; no_program = m.no_program }

pub shut_tail : (g : Parts) (j : Job) (v : State) (done : List Done) (c : Lone) → v.target.tail ≡ Closed → Shut c.facts → TailMirror g j v.target (now_of j done) c
shut_tail g j v done c single shut = record { place = Closed; single = single; address = no_address; is = shut; now = λ e. cc; column = λ e. cc; row = λ e. cc; named = λ e. cc; base = refl; changes = λ e. cc }

pub wait_exact : (s : Channel) (text : Microprogram) (v : State) (r : Run) (c : Lone) → IsAlone s → ltb 1 s.geometry.luns ≡ false → IsLone s r.past c → Mirrors s.geometry (lone_job s.geometry text) v r.done c → ExactWord s text v r Wait
unfolding state_after breaks_cycle_forbidden breaks_address_unaligned breaks_handover_in_sequence breaks_buffer_passed breaks_row_or_plane_outside breaks_column_too_large breaks_no_status breaks_ends_too_soon breaks_over_budget breaks_command_not_allowed
wait_exact s text v r c k one is m =
    record {
      cause = λ reason e. by reason (reason_is s.geometry text v Wait reason e);
      goes = λ e f. goes (sym shut ∙ (no_reasons s.geometry text v Wait e).no_handover_in_sequence);
    }
  where
    g : Parts
    g = s.geometry

    j : Job
    j = lone_job s.geometry text

    shut : may_be_open v ≡ is_open c.facts
    shut = open_same g j v r.done c m

    by : (reason : Reason) → reason_holds g text v Wait reason ≡ true → Cause s j r Wait reason
    by HandoverInSequence h = ap is_open is.facts ∙ (sym shut ∙ h)
    by _ h = cc

    busy_is : is_busy g r.past the_lun ≡ c.view.busy
    busy_is = ap (λ (w : LunView). w.busy) is.view

    goes_from : (past : List Item) (c1 : Lone) → awaited g r.past Wait ≡ past → IsLone s past c1 → is_open c1.facts ≡ false → LunMirror g (record v.lun { busy = false }) (index_now 0 r.done) c1.view → Goes s text (state_after g v Wait) r Wait
    goes_from past c1 is_past is1 closed lun =
        goes_by s text (state_after g v Wait) r Wait poll_moves past c1 k (rw one refl) is_past is1 (poll_passes g c1 one closed)
        (λ answer. subst (λ (x : Lone). Mirrors g j (state_after g v Wait) (record { word = Wait; answer = answer } ∷ r.done) x) (sym (poll_leaves_lone g c1))
        (record {
          registers = registers_exact g v.registers true r.done Wait answer (record { column = λ n. refl; plane = λ n. refl; index = λ b n. refl }) (λ n. refl) m.registers;
          tail = shut_tail g j (state_after g v Wait) (record { word = Wait; answer = answer } ∷ r.done) (polled_lone c1) refl polled_shut;
          shows = refl;
          along = λ e. cc;
          lun = lun_polled g (record v.lun { busy = false }) (index_now 0 r.done) c1.view lun;
        }))

    goes : is_open c.facts ≡ false → Goes s text (state_after g v Wait) r Wait
    goes closed = at c.view.busy refl
      where
        at : (b : Bool) → c.view.busy ≡ b → Goes s text (state_after g v Wait) r Wait
        at true e =
            goes_from (Rdy 0 0 no_failures ∷ r.past) (record { facts = c.facts; view = record c.view { busy = false; array_busy = c.view.array_busy || (c.view.busy && leaves_array_busy c.view.closer) } })
            (rw (busy_is, e) refl) (ready_next s r.past c k is e) closed (lun_ready g v.lun (index_now 0 r.done) c.view _ (ready_programs c.view no_failures m.lun.no_program) m.lun)
        at false e = goes_from r.past c (rw (busy_is, e) refl) is closed (lun_is_ready g v.lun (index_now 0 r.done) c.view e m.lun)

-- 3. what a test tells

pub told_breaks : (b : Bool) (o : Option Forbidden) → Told b o → b ≡ true → (rule : Forbidden) × ((o ≡ Some rule) × (is_of_cycle_forbidden rule ≡ true))
told_breaks true None h e = absurd h
told_breaks true (Some rule) h e = (rule, (refl, h))
told_breaks false o h e = cc

pub told_none : (b : Bool) (o : Option Forbidden) → Told b o → b ≡ false → o ≡ None
told_none false None h e = refl
told_none false (Some rule) h e = absurd h
told_none true o h e = cc

-- 4. stat

pub stat_exact : (s : Channel) (text : Microprogram) (v : State) (r : Run) (c : Lone) → IsAlone s → ltb 1 s.geometry.luns ≡ false → text.budget ≤ greatest_bound → IsLone s r.past c → Mirrors s.geometry (lone_job s.geometry text) v r.done c → ExactWord s text v r ReadStatus
unfolding command state_after breaks_cycle_forbidden breaks_address_unaligned breaks_handover_in_sequence breaks_buffer_passed breaks_row_or_plane_outside breaks_column_too_large breaks_no_status breaks_ends_too_soon breaks_command_not_allowed
stat_exact s text v r c k one low is m =
    record {
      cause = λ reason e. by reason (reason_is s.geometry text v ReadStatus reason e);
      goes = λ e f. goes (sym shut ∙ (no_reasons s.geometry text v ReadStatus e).no_cycle_forbidden);
    }
  where
    g : Parts
    g = s.geometry

    j : Job
    j = lone_job s.geometry text

    shut : may_be_open v ≡ is_open c.facts
    shut = open_same g j v r.done c m

    stops : is_open c.facts ≡ true → WordStops s j r ReadStatus is_of_cycle_forbidden
    stops opened =
        let t = told_breaks (is_open c.facts || false) _ (told_status g c one) (rw opened refl) in
        record { moved = poll_moves; is_moved = rw one refl; stops = stops_there s [] (Give Cmd 0x70) (Take ∷ []) r.past c is_of_cycle_forbidden k is tt t.0 t.1.0 t.1.1 }

    by : (reason : Reason) → reason_holds g text v ReadStatus reason ≡ true → Cause s j r ReadStatus reason
    by CycleForbidden h = λ bytes. stops (sym shut ∙ h)
    by OverBudget h = cost_cause g v r ReadStatus text.budget low m.registers h
    by _ h = cc

    goes : is_open c.facts ≡ false → Goes s text (state_after g v ReadStatus) r ReadStatus
    goes closed =
        goes_by s text (state_after g v ReadStatus) r ReadStatus poll_moves r.past c k (rw one refl) refl is (poll_passes g c one closed)
        (λ answer. subst (λ (x : Lone). Mirrors g j (state_after g v ReadStatus) (record { word = ReadStatus; answer = answer } ∷ r.done) x) (sym (poll_leaves_lone g c))
        (record {
          registers = registers_exact g v.registers true r.done ReadStatus answer (record { column = λ n. refl; plane = λ n. refl; index = λ b n. refl }) (λ n. refl) m.registers;
          tail = shut_tail g j (state_after g v ReadStatus) (record { word = ReadStatus; answer = answer } ∷ r.done) (polled_lone c) refl polled_shut;
          shows = refl;
          along = λ e. cc;
          lun = lun_polled g v.lun (index_now 0 r.done) c.view m.lun;
        }))
