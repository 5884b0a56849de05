-- Words that ask for the status, let the bus go, branch or end are sound; and registers.
use Rattle.std.proofs.Common.{◌≡◌, ℕ, ◌==◌, Bool, true, false, ◌&&◌, ◌||◌, cond, not, ltb, List, [], ◌∷◌, ◌++◌, Option, Some, None, refl, sym, ap, ◌∙◌, subst}
use Rattle.std.proofs.lemmas.Bool.{or_parts}
use Rattle.nand_geometry.specs.declared.parts.Parts.{Parts}
use Rattle.onfi_cycle.specs.declared.item.Item.{Item}
use Rattle.onfi_cycle.specs.declared.item.Kind.TheVariants.{Dout}
use Rattle.onfi_cycle.specs.declared.read_column.ReadColumn.{ReadColumn}
use Rattle.onfi_cycle.specs.LunView.{LunView}
use Rattle.onfi_cycle.specs.Sequence.{is_open}
use Rattle.onfi_cycle.specs.Lun.{is_busy, is_cache_read, programs, output_column}
use Rattle.onfi_cycle.specs.Channel.{Channel, is_open_on, cycle}
use Rattle.micro_word.specs.declared.word.Word.{Word}
use Rattle.micro_word.specs.declared.word.Word.TheVariants.{End, Wait, Yield, ReadStatus, BranchOnStatus, Jump}
use Rattle.micro_word.specs.Text.{Microprogram}
use Rattle.micro_program.specs.Lines.{Line, from_place}
use Rattle.micro_program.specs.Program.{Job, Done, Answer, Nothing, Polled, index_now, place_now, place_after, is_ready_status, cost, meets, status_now}
use Rattle.micro_program.specs.Moves.{Move, Take, moves}
use Rattle.micro_program.specs.Played.{Played, answered}
use Rattle.micro_program.specs.Step.{Stride, answered_step, stride, first_byte}
use Rattle.micro_program.specs.Safe.{after_step}
use Rattle.micro_claims.specs.State.{State, Registers, KnownLun, OutputColumn, QueuedRows, NoRows, SomeRows, SomeReads, AnyRows, closed, bounds_of, may_be_31}
use Rattle.micro_claims.specs.Against.{may_be_open, may_be_queued}
use Rattle.micro_claims.specs.Reasons.{breaks_cycle_forbidden, breaks_address_unaligned, breaks_handover_in_sequence, breaks_buffer_passed, breaks_row_or_plane_outside, breaks_column_too_large, breaks_no_status, breaks_ends_too_soon, breaks_over_budget, breaks_command_not_allowed, reason_against}
use Rattle.micro_claims.specs.Leaves.{with_registers, paid, status_shown, unread}
use Rattle.micro_claims.specs.Accepts.{state_after, accepts}
use Rattle.micro_program.proofs.Polls.{Polling, polling, own_poll, poll_leaves, one_answer, after_output, lost}
use Rattle.micro_program.proofs.Tracking.{answered_parts, quiet_step}
use Rattle.micro_program.proofs.Scenes.{Scene, IsScene}
use Rattle.micro_program.proofs.PollScenes.{polled_view, PolledScene, poll_scene}
use Rattle.micro_claims.proofs.Fits.{RowsFit, latch_among, Below, RegistersFit, TailFits, LunFits, OutputColumnFits, Fits, is_unread, Now, now_of}
use Rattle.micro_claims.proofs.Tails.{closed_tail, closed_fits}
use Rattle.micro_claims.proofs.Sounding.{KnownJob, Claims, NoReasons, Unmoved, unmoved, within_budget, SoundWord}
use Rattle.micro_claims.proofs.Commands.{not_caching}

-- 1. the claim behind a poll

-- a column that wasn't read isn't lost by a status
unread_kept : (o : Option OutputColumn) (k : ReadColumn) → OutputColumnFits o k → OutputColumnFits (unread o) (lost k)
unread_kept None k f = tt
unread_kept (Some c) k f = at c.read refl
  where
    at : (b : Bool) → c.read ≡ b → OutputColumnFits (cond b None (Some c)) (lost k)
    at true e = tt
    at false e =
        let none = f.unread e in
        let same : lost k ≡ k = ap (λ (b : Bool). record k { lost = b }) (kept k.lost (ap (ltb 0) none)) in
        record { at = f.at; is = ap output_column same ∙ f.is; below = f.below; unread = λ x. none }
      where
        kept : (b : Bool) → ltb 0 k.outputs ≡ false → (b || ltb 0 k.outputs) ≡ b
        kept true h = refl
        kept false h = h

poll_lun : (g : Parts) (j : Job) (l : KnownLun) (i : ℕ) (view : LunView) (selected overlapped : Bool) → LunFits g j l i view → LunFits g j (record l { column = unread l.column }) i (polled_view selected overlapped view)
poll_lun g j l i view selected overlapped f = record { ready = f.ready; register = f.register; column = unread_kept l.column view.column f.column; queue = f.queue; last = f.last; cached = f.cached; held = f.held; planes = f.planes; array = f.array; copies = f.copies; programming = f.programming }

-- behind a poll the claim fits; `busy` may be claimed not to be where the poll said so
poll_fits : (s : Channel) (j : Job) (v : State) (done new : List Done) (later : List Item) (c : Scene) (p : PolledScene s j.lun later c) (l : KnownLun) (r : Registers) → RegistersFit s.geometry j r new → LunFits s.geometry j l (index_now j.base new) (polled_view p.selected p.overlapped c.view) → Fits s.geometry j (record { registers = r; target = closed status_shown; lun = l }) new p.now true
poll_fits s j v done new later c p l r registers lun =
    record {
      registers = registers;
      tail = λ e. closed_fits s.geometry j None None status_shown (now_of j new) p.now.facts p.closed;
      free = λ e. cc;
      shows = (p.sole, ap (λ (w : LunView). latch_among (record { 0 = 1 }) w.latch) p.view);
      lun = subst (λ (w : LunView). LunFits s.geometry j l (index_now j.base new) w) (sym p.view) lun;
    }

found_ready_lun : (g : Parts) (j : Job) (l : KnownLun) (i : ℕ) (view : LunView) → LunFits g j l i view → view.busy ≡ false → LunFits g j (record l { busy = false }) i view
found_ready_lun g j l i view f ready = record { ready = λ e. ready; register = f.register; column = f.column; queue = f.queue; last = f.last; cached = f.cached; held = f.held; planes = f.planes; array = f.array; copies = f.copies; programming = f.programming }

found_busy_lun : (g : Parts) (j : Job) (l : KnownLun) (i : ℕ) (view : LunView) → LunFits g j l i view → LunFits g j (record l { busy = true }) i view
found_busy_lun g j l i view f = record { ready = λ e. cc; register = f.register; column = f.column; queue = f.queue; last = f.last; cached = f.cached; held = f.held; planes = f.planes; array = f.array; copies = f.copies; programming = f.programming }

-- nothing is open on the target, as the scene says
open_on : (s : Channel) (j : Job) (past : List Item) (c : Scene) → IsScene s j.lun past c → is_open c.facts ≡ false → is_open_on past j.lun.ce ≡ false
open_on s j past c scene h = ap is_open scene.facts ∙ h

-- what a step of a poll is: one byte answers it
record PollStep (s : Channel) (j : Job) (past : List Item) (p : Polling s j past) (line : Line) (rest : List Line) (done : List Done) (bytes : List ℕ) (r : Stride) : Type 0 where
  byte : ℕ
  bytes_are : bytes ≡ byte ∷ []
  is_r : stride line rest done (after_output j.lun.ce byte p.polled) line.word ≡ r

poll_step : (s : Channel) (j : Job) (past : List Item) (done : List Done) (line : Line) (rest : List Line) (p : Polling s j past) (bytes : List ℕ) (r : Stride) → moves s.geometry j done line.word ≡ Some (p.before ++ (Take ∷ [])) → answered_step s.geometry j bytes past (line ∷ rest) done ≡ Some r → PollStep s j past p line rest done bytes r
poll_step s j past done line rest p bytes r moved e =
    let parts = answered_parts s.geometry j bytes past line rest done r e in
    let same : parts.moved ≡ p.before ++ (Take ∷ []) = let both : Some parts.moved ≡ Some (p.before ++ (Take ∷ [])) = sym parts.is_moved ∙ moved in cc in
    let one = one_answer j.lun.ce p.polled bytes parts.p (sym (p.answers bytes) ∙ (sym (ap (λ (m : List Move). answered j.lun.ce m bytes past) same) ∙ parts.is_p)) in
    record { byte = one.byte; bytes_are = one.bytes_are; is_r = ap (λ (q : Played). stride line rest done q line.word) (sym one.is_q) ∙ parts.is_r }

same_stride : (s : Channel) (j : Job) (r0 r : Stride) → r0 ≡ r → Claims s j (after_step r0) → Claims s j (after_step r)
same_stride s j r0 r same h = subst (λ (x : Stride). Claims s j (after_step x)) same h

-- stat
pub sound_stat : (s : Channel) (j : Job) (k : KnownJob s j) (v : State) (past : List Item) (c : Scene) (done : List Done) (rest : List Line) (at : ℕ) → IsScene s j.lun past c → Fits s.geometry j v done c true → NoReasons s.geometry j.text v ReadStatus → accepts s.geometry (bounds_of j.text) None (state_after s.geometry v ReadStatus) rest ≡ true → SoundWord s j past done rest at ReadStatus
unfolding state_after breaks_cycle_forbidden
sound_stat s j k v past c done rest at scene f clear acc =
    let shut = closed_tail s.geometry j v.target (now_of j done) c.facts (f.tail refl) clear.no_cycle_forbidden in
    let p = polling s j past k.limits k.status_row k.there (open_on s j past c scene shut) in
    record {
      fine = record {
        moved = p.before ++ (Take ∷ []);
        is_moved = p.moves_are;
        own = own_poll s j past k.there scene.free p;
        inside = refl;
        budget = within_budget s.geometry j v done ReadStatus f.registers clear;
        closed = λ e. cc;
        idle = λ e. cc;
      };
      step = λ bytes r e true_bytes code.
          let one = poll_step s j past done (record { at = at; word = ReadStatus }) rest p bytes r p.moves_are e in
          let behind = poll_scene s j past c k.there scene p one.byte (poll_leaves s j past p one.byte) in
          same_stride s j (stride (record { at = at; word = ReadStatus }) rest done (after_output j.lun.ce one.byte p.polled) ReadStatus) r one.is_r
          (record {
            claim = state_after s.geometry v ReadStatus;
            scene = behind.now;
            is = behind.is;
            fits = poll_fits s j v done (record { word = ReadStatus; answer = Polled one.byte } ∷ done) _ c behind (record v.lun { column = unread v.lun.column }) _
                (unmoved s.geometry j v v.registers.place true done ReadStatus (Polled one.byte) f.registers clear (record { column = λ n. refl; plane = λ n. refl; index = λ b n. refl }) f.registers.place)
                (poll_lun s.geometry j v.lun (index_now j.base done) c.view behind.selected behind.overlapped f.lun);
            accepted = acc;
          });
    }

-- where nothing is open the tail is known on targets of one LUN
closed_knows : (b : Bool) (c : Scene) → is_open c.facts ≡ false → (false || (not b && not (is_open c.facts))) ≡ (false || not b)
closed_knows true c h = refl
closed_knows false c h = rw h refl

-- 2. wait

unread_twice : (o : Option OutputColumn) → unread (unread o) ≡ unread o
unread_twice None = refl
unread_twice (Some c) = at c.read refl
  where
    at : (b : Bool) → c.read ≡ b → unread (cond b None (Some c)) ≡ cond b None (Some c)
    at true e = refl
    at false e = rw e refl

unread_is : (o : Option OutputColumn) → is_unread (unread o) ≡ true
unread_is None = refl
unread_is (Some c) = at c.read refl
  where
    at : (b : Bool) → c.read ≡ b → is_unread (cond b None (Some c)) ≡ true
    at true e = refl
    at false e = rw e refl

-- the claim at a `wait` whose poll said busy: what the poll leaves where others may have the bus
abbrev pub waiting_where : Bool → State → State
waiting_where several v =
    cond several
    (record { registers = v.registers; target = closed None; lun = record v.lun { busy = true; column = unread (unread v.lun.column) } })
    (record { registers = v.registers; target = closed status_shown; lun = record v.lun { busy = true; column = unread v.lun.column } })

-- it is accepted as the claim before the poll was
waiting_goes : (g : Parts) (text : Microprogram) (v : State) (b : Bool) → state_after g (waiting_where b v) Wait ≡ state_after g v Wait
unfolding state_after
waiting_goes g text v true = ap (λ (k : Option OutputColumn). record { registers = paid 0 (record v.registers { polled = true }); target = closed status_shown; lun = record v.lun { busy = false; column = k } }) (unread_twice (unread v.lun.column) ∙ unread_twice v.lun.column)
waiting_goes g text v false = ap (λ (k : Option OutputColumn). record { registers = paid 0 (record v.registers { polled = true }); target = closed status_shown; lun = record v.lun { busy = false; column = k } }) (unread_twice v.lun.column)

waiting_clear : (g : Parts) (text : Microprogram) (v : State) (b : Bool) → reason_against g (bounds_of text) (waiting_where b v) Wait ≡ None
unfolding reason_against breaks_cycle_forbidden breaks_address_unaligned breaks_handover_in_sequence breaks_buffer_passed breaks_row_or_plane_outside breaks_column_too_large breaks_no_status breaks_ends_too_soon breaks_over_budget breaks_command_not_allowed
waiting_clear g text v true = refl
waiting_clear g text v false = refl

waiting_accepted : (g : Parts) (text : Microprogram) (v : State) (b : Bool) (rest : List Line) (at : ℕ) → accepts g (bounds_of text) None (state_after g v Wait) rest ≡ true → accepts g (bounds_of text) None (waiting_where b v) (record { at = at; word = Wait } ∷ rest) ≡ true
waiting_accepted g text v b rest at acc = rw (waiting_clear g text v b) (ap (λ (x : State). accepts g (bounds_of text) None x rest) (waiting_goes g text v b) ∙ acc)

-- it fits behind a poll that said busy
waiting_fits : (s : Channel) (j : Job) (v : State) (done : List Done) (later : List Item) (c : Scene) (p : PolledScene s j.lun later c) → Fits s.geometry j v done c true → (b : Bool) → ltb 1 s.geometry.luns ≡ b → Fits s.geometry j (waiting_where b v) done p.now (false || not b)
waiting_fits s j v done later c p f true e =
    record {
      registers = f.registers;
      tail = λ x. cc;
      free = λ x. record { tail = refl; shows = refl; unread = unread_is (unread v.lun.column) };
      shows = tt;
      lun =
          let polled_lun = poll_lun s.geometry j v.lun (index_now j.base done) c.view p.selected p.overlapped f.lun in
          subst (λ (w : LunView). LunFits s.geometry j (record v.lun { busy = true; column = unread (unread v.lun.column) }) (index_now j.base done) w) (sym p.view)
          (record { ready = λ x. cc; register = f.lun.register; column = subst (λ (k : Option OutputColumn). OutputColumnFits k (lost c.view.column)) (sym (unread_twice v.lun.column)) polled_lun.column; queue = f.lun.queue; last = f.lun.last; cached = f.lun.cached; held = f.lun.held; planes = f.lun.planes; array = f.lun.array; copies = f.lun.copies; programming = f.lun.programming });
    }
waiting_fits s j v done later c p f false e =
    poll_fits s j v done done later c p (record v.lun { busy = true; column = unread v.lun.column }) v.registers f.registers
    (found_busy_lun s.geometry j (record v.lun { column = unread v.lun.column }) (index_now j.base done) (polled_view p.selected p.overlapped c.view) (poll_lun s.geometry j v.lun (index_now j.base done) c.view p.selected p.overlapped f.lun))

pub sound_wait : (s : Channel) (j : Job) (k : KnownJob s j) (v : State) (past : List Item) (c : Scene) (done : List Done) (rest : List Line) (at : ℕ) → IsScene s j.lun past c → Fits s.geometry j v done c true → NoReasons s.geometry j.text v Wait → accepts s.geometry (bounds_of j.text) None (state_after s.geometry v Wait) rest ≡ true → SoundWord s j past done rest at Wait
unfolding state_after breaks_handover_in_sequence
sound_wait s j k v past c done rest at scene f clear acc =
    record {
      fine = record {
        moved = p.before ++ (Take ∷ []);
        is_moved = p.moves_are;
        own = own_poll s j past k.there scene.free p;
        inside = refl;
        budget = within_budget s.geometry j v done Wait f.registers clear;
        closed = λ e. open_on s j past c scene shut;
        idle = λ e. cc;
      };
      step = λ bytes r e true_bytes code.
          let one = poll_step s j past done (record { at = at; word = Wait }) rest p bytes r p.moves_are e in
          same_stride s j (stride (record { at = at; word = Wait }) rest done (after_output j.lun.ce one.byte p.polled) Wait) r one.is_r
          (said one.byte (is_ready_status one.byte) refl (λ h. true_bytes (ap (λ (xs : List ℕ). is_ready_status (first_byte xs)) one.bytes_are ∙ h)));
    }
  where
    shut : is_open c.facts ≡ false
    shut = closed_tail s.geometry j v.target (now_of j done) c.facts (f.tail refl) clear.no_handover_in_sequence

    p : Polling s j past
    p = polling s j past k.limits k.status_row k.there (open_on s j past c scene shut)

    behind : (byte : ℕ) → PolledScene s j.lun (cycle j.lun.ce Dout byte ∷ p.polled) c
    behind byte = poll_scene s j past c k.there scene p byte (poll_leaves s j past p byte)

    said : (byte : ℕ) (b : Bool) → is_ready_status byte ≡ b → (is_ready_status byte ≡ true → is_busy s.geometry past j.lun ≡ false) → Claims s j (after_step (stride (record { at = at; word = Wait }) rest done (after_output j.lun.ce byte p.polled) Wait))
    said byte true e says =
        let ready : c.view.busy ≡ false = sym (ap (λ (w : LunView). w.busy) scene.view) ∙ says e in
        rw e
        (record {
          claim = state_after s.geometry v Wait;
          scene = (behind byte).now;
          is = (behind byte).is;
          fits = poll_fits s j v done (record { word = Wait; answer = Polled byte } ∷ done) _ c (behind byte) (record v.lun { busy = false; column = unread v.lun.column }) _
              (unmoved s.geometry j v v.registers.place true done Wait (Polled byte) f.registers clear (record { column = λ n. refl; plane = λ n. refl; index = λ b n. refl }) f.registers.place)
              (found_ready_lun s.geometry j (record v.lun { column = unread v.lun.column }) (index_now j.base done) (polled_view (behind byte).selected (behind byte).overlapped c.view) (poll_lun s.geometry j v.lun (index_now j.base done) c.view (behind byte).selected (behind byte).overlapped f.lun) ready);
          accepted = acc;
        })
    said byte false e says =
        rw e
        (record {
          claim = waiting_where (ltb 1 s.geometry.luns) v;
          scene = (behind byte).now;
          is = (behind byte).is;
          fits = subst (λ (x : Bool). Fits s.geometry j (waiting_where (ltb 1 s.geometry.luns) v) done (behind byte).now x) (sym (closed_knows (ltb 1 s.geometry.luns) (behind byte).now (behind byte).closed)) (waiting_fits s j v done _ c (behind byte) f (ltb 1 s.geometry.luns) refl);
          accepted = waiting_accepted s.geometry j.text v (ltb 1 s.geometry.luns) rest at acc;
        })

-- 3. yield

yield_column : (o : Option OutputColumn) (k : ReadColumn) → OutputColumnFits o k → OutputColumnFits (unread o) k
yield_column None k f = tt
yield_column (Some c) k f = at c.read
  where
    at : (b : Bool) → OutputColumnFits (cond b None (Some c)) k
    at true = tt
    at false = f

-- the claim behind a `yield`
abbrev yielded : Bool → State → State
yielded several v =
    cond several
    (record { registers = paid 0 v.registers; target = closed None; lun = record v.lun { column = unread v.lun.column } })
    (record { registers = paid 0 v.registers; target = v.target; lun = v.lun })

yield_leaves : (g : Parts) (v : State) (b : Bool) → ltb 1 g.luns ≡ b → state_after g v Yield ≡ yielded b v
unfolding state_after
yield_leaves g v true e = rw e refl
yield_leaves g v false e = rw e refl

yield_fits : (s : Channel) (j : Job) (v : State) (done : List Done) (answer : Answer) (c : Scene) → Fits s.geometry j v done c true → NoReasons s.geometry j.text v Yield → (b : Bool) → Fits s.geometry j (yielded b v) (record { word = Yield; answer = answer } ∷ done) c (false || not b)
yield_fits s j v done answer c f clear true =
    record {
      registers = unmoved s.geometry j v v.registers.place v.registers.polled done Yield answer f.registers clear (record { column = λ n. refl; plane = λ n. refl; index = λ b n. refl }) f.registers.place;
      tail = λ x. cc;
      free = λ x. record { tail = refl; shows = refl; unread = unread_is v.lun.column };
      shows = tt;
      lun = record { ready = f.lun.ready; register = f.lun.register; column = yield_column v.lun.column c.view.column f.lun.column; queue = f.lun.queue; last = f.lun.last; cached = f.lun.cached; held = f.lun.held; planes = f.lun.planes; array = f.lun.array; copies = f.lun.copies; programming = f.lun.programming };
    }
yield_fits s j v done answer c f clear false =
    record {
      registers = unmoved s.geometry j v v.registers.place v.registers.polled done Yield answer f.registers clear (record { column = λ n. refl; plane = λ n. refl; index = λ b n. refl }) f.registers.place;
      tail = f.tail;
      free = λ x. cc;
      shows = f.shows;
      lun = f.lun;
    }

pub sound_yield : (s : Channel) (j : Job) (k : KnownJob s j) (v : State) (past : List Item) (c : Scene) (done : List Done) (rest : List Line) (at : ℕ) → IsScene s j.lun past c → Fits s.geometry j v done c true → NoReasons s.geometry j.text v Yield → accepts s.geometry (bounds_of j.text) None (state_after s.geometry v Yield) rest ≡ true → SoundWord s j past done rest at Yield
unfolding breaks_handover_in_sequence
sound_yield s j k v past c done rest at scene f clear acc =
    let shut = closed_tail s.geometry j v.target (now_of j done) c.facts (f.tail refl) clear.no_handover_in_sequence in
    let several = ltb 1 s.geometry.luns in
    let leaves = yield_leaves s.geometry v several refl in
    record {
      fine = record {
        moved = [];
        is_moved = refl;
        own = tt;
        inside = refl;
        budget = within_budget s.geometry j v done Yield f.registers clear;
        closed = λ e. open_on s j past c scene shut;
        idle = λ e. cc;
      };
      step = λ bytes r e true_bytes code. same_stride s j (stride (record { at = at; word = Yield }) rest done (record { past = past; bytes = [] }) Yield) r (quiet_step s.geometry j bytes past (record { at = at; word = Yield }) rest done r refl e)
          (record {
            claim = yielded several v;
            scene = c;
            is = scene;
            fits = subst (λ (x : Bool). Fits s.geometry j (yielded several v) (record { word = Yield; answer = Nothing } ∷ done) c x) (sym (closed_knows several c shut)) (yield_fits s j v done Nothing c f clear several);
            accepted = ap (λ (x : State). accepts s.geometry (bounds_of j.text) None x rest) (sym leaves) ∙ acc;
          });
    }

-- 4. end

no_rows : (g : Parts) (now : ℕ) (q : QueuedRows) (view : LunView) → may_be_queued q ≡ false → RowsFit g now q view.queue → view.queue ≡ []
no_rows g now NoRows view h f = f
no_rows g now (SomeRows e p d) view h f = cc
no_rows g now (SomeReads p surely d) view h f = cc
no_rows g now AnyRows view h f = cc

pub sound_end : (s : Channel) (j : Job) (k : KnownJob s j) (v : State) (past : List Item) (c : Scene) (done : List Done) (rest : List Line) (at code : ℕ) → IsScene s j.lun past c → Fits s.geometry j v done c true → NoReasons s.geometry j.text v (End code) → SoundWord s j past done rest at (End code)
unfolding breaks_ends_too_soon
sound_end s j k v past c done rest at code scene f clear =
    let four = or_parts (v.lun.busy || may_be_open v || may_be_queued v.lun.queue || may_be_31 v.lun.last) v.lun.programming clear.no_ends_too_soon in
    let three = or_parts (v.lun.busy || may_be_open v || may_be_queued v.lun.queue) (may_be_31 v.lun.last) four.0 in
    let two = or_parts (v.lun.busy || may_be_open v) (may_be_queued v.lun.queue) three.0 in
    let one = or_parts v.lun.busy (may_be_open v) two.0 in
    let shut = closed_tail s.geometry j v.target (now_of j done) c.facts (f.tail refl) one.1 in
    let view = scene.view in
    record {
      fine = record {
        moved = [];
        is_moved = refl;
        own = tt;
        inside = refl;
        budget = within_budget s.geometry j v done (End code) f.registers clear;
        closed = λ e. open_on s j past c scene shut;
        idle = λ e. record {
          ready = ap (λ (w : LunView). w.busy) view ∙ f.lun.ready one.0;
          no_cache = ap (λ (w : LunView). is_cache_read w.closer) view ∙ not_caching v.lun.last c.view.closer f.lun.last three.1;
          no_program = ap programs view ∙ f.lun.programming four.1;
          no_queue = ap (λ (w : LunView). w.queue) view ∙ no_rows s.geometry (index_now j.base done) v.lun.queue c.view two.1 f.lun.queue;
          free = scene.free;
        };
      };
      step = λ bytes r e true_bytes none.
          let r0 : Stride = stride (record { at = at; word = End code }) rest done (record { past = past; bytes = [] }) (End code) in
          let same : r0 ≡ r = quiet_step s.geometry j bytes past (record { at = at; word = End code }) rest done r refl e in
          let ended : Some code ≡ r.code = ap (λ (x : Stride). x.code) same in
          cc;
    }

-- 5. branches

-- what is accepted with lines left out is accepted from the place on
left_out : (g : Parts) (text : Microprogram) (target : ℕ) (v : State) (lines : List Line) → accepts g (bounds_of text) (Some target) v lines ≡ accepts g (bounds_of text) None v (from_place target lines)
left_out g text target v [] = refl
left_out g text target v (line ∷ lines) = at (line.at == target) (left_out g text target v lines)
  where
    at : (b : Bool) → accepts g (bounds_of text) (Some target) v lines ≡ accepts g (bounds_of text) None v (from_place target lines) → cond (not b) (accepts g (bounds_of text) (Some target) v lines) (accepts g (bounds_of text) None v (line ∷ lines)) ≡ accepts g (bounds_of text) None v (cond b (line ∷ lines) (from_place target lines))
    at true ih = refl
    at false ih = ih

pub branch_fits : (s : Channel) (j : Job) (v : State) (done : List Done) (word : Word) (answer : Answer) (c : Scene) → Fits s.geometry j v done c true → NoReasons s.geometry j.text v word → Unmoved word → place_after word (place_now done) ≡ place_now done → now_of j (record { word = word; answer = answer } ∷ done) ≡ now_of j done → Fits s.geometry j (with_registers v (paid (cost s.geometry word) v.registers)) (record { word = word; answer = answer } ∷ done) c true
branch_fits s j v done word answer c f clear u place now =
    record {
      registers = unmoved s.geometry j v v.registers.place v.registers.polled done word answer f.registers clear u (subst (λ (n : ℕ). Below n v.registers.place.hi) (sym place) f.registers.place);
      tail = λ e. subst (λ (n : Now). TailFits s.geometry j v.target n c.facts) (sym now) (f.tail refl);
      free = λ e. cc;
      shows = f.shows;
      lun = subst (λ (n : Now). LunFits s.geometry j v.lun n.index c.view) (sym now) f.lun;
    }

pub sound_jump : (s : Channel) (j : Job) (k : KnownJob s j) (v : State) (past : List Item) (c : Scene) (done : List Done) (rest : List Line) (at target : ℕ) → IsScene s j.lun past c → Fits s.geometry j v done c true → NoReasons s.geometry j.text v (Jump target) → accepts s.geometry (bounds_of j.text) (Some target) (state_after s.geometry v (Jump target)) rest ≡ true → SoundWord s j past done rest at (Jump target)
unfolding state_after
sound_jump s j k v past c done rest at target scene f clear acc =
    record {
      fine = record { moved = []; is_moved = refl; own = tt; inside = refl; budget = within_budget s.geometry j v done (Jump target) f.registers clear; closed = λ e. cc; idle = λ e. cc };
      step = λ bytes r e true_bytes code. same_stride s j (stride (record { at = at; word = Jump target }) rest done (record { past = past; bytes = [] }) (Jump target)) r (quiet_step s.geometry j bytes past (record { at = at; word = Jump target }) rest done r refl e)
          (record {
            claim = state_after s.geometry v (Jump target);
            scene = c;
            is = scene;
            fits = branch_fits s j v done (Jump target) Nothing c f clear (record { column = λ n. refl; plane = λ n. refl; index = λ b n. refl }) refl refl;
            accepted = sym (left_out s.geometry j.text target (state_after s.geometry v (Jump target)) rest) ∙ acc;
          });
    }

pub sound_branch : (s : Channel) (j : Job) (k : KnownJob s j) (v : State) (past : List Item) (c : Scene) (done : List Done) (rest : List Line) (at mask target : ℕ) → IsScene s j.lun past c → Fits s.geometry j v done c true → NoReasons s.geometry j.text v (BranchOnStatus mask target) → accepts s.geometry (bounds_of j.text) None (state_after s.geometry v (BranchOnStatus mask target)) rest ≡ true → accepts s.geometry (bounds_of j.text) (Some target) (state_after s.geometry v (BranchOnStatus mask target)) rest ≡ true → SoundWord s j past done rest at (BranchOnStatus mask target)
unfolding state_after
sound_branch s j k v past c done rest at mask target scene f clear acc taken =
    record {
      fine = record { moved = []; is_moved = refl; own = tt; inside = refl; budget = within_budget s.geometry j v done (BranchOnStatus mask target) f.registers clear; closed = λ e. cc; idle = λ e. cc };
      step = λ bytes r e true_bytes code. same_stride s j (stride (record { at = at; word = BranchOnStatus mask target }) rest done (record { past = past; bytes = [] }) (BranchOnStatus mask target)) r (quiet_step s.geometry j bytes past (record { at = at; word = BranchOnStatus mask target }) rest done r refl e)
          (record {
            claim = state_after s.geometry v (BranchOnStatus mask target);
            scene = c;
            is = scene;
            fits = branch_fits s j v done (BranchOnStatus mask target) Nothing c f clear (record { column = λ n. refl; plane = λ n. refl; index = λ b n. refl }) refl refl;
            accepted = either (meets mask (status_now done));
          });
    }
  where
    either : (b : Bool) → accepts s.geometry (bounds_of j.text) None (state_after s.geometry v (BranchOnStatus mask target)) (cond b (from_place target rest) rest) ≡ true
    either true = sym (left_out s.geometry j.text target (state_after s.geometry v (BranchOnStatus mask target)) rest) ∙ taken
    either false = acc
