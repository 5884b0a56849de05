-- The step of a verified job.
use Rattle.std.proofs.Common.{◌≡◌, ℕ, suc, ◌+◌, ◌≤◌, Bool, true, false, cond, List, [], ◌∷◌, ◌++◌, Option, Some, None, Ok, length, set, refl, sym, ap, ◌∙◌, subst, arith}
use Rattle.std.specs.Prelude.{slice_get}
use Rattle.onfi_cycle.specs.declared.item.Kind.TheVariants.{Dout}
use Rattle.onfi_cycle.specs.declared.item.Item.TheVariants.{Rdy, Ard}
use Rattle.onfi_cycle.specs.declared.lun.Lun.{Lun}
use Rattle.onfi_cycle.specs.Channel.{cycle, is_there, same_lun}
use Rattle.onfi_cycle.specs.State.{BusView, judged, bus_after}
use Rattle.onfi_cycle.proofs.Following.{bus_goes_on}
use Rattle.onfi_cycle.proofs.Runs.{cycle_followed}
use Rattle.onfi_cycle.proofs.Outputs.{outputs_are_data}
use Rattle.micro_word.specs.declared.word.Word.{Word}
use Rattle.micro_word.specs.Text.{IsFileOf}
use Rattle.micro_program.specs.Moves.{Move, Give, Take, and_then, outputs}
use Rattle.micro_program.specs.Played.{Played, with_byte}
use Rattle.micro_program.specs.Program.{fits, is_ready_status}
use Rattle.target_bus.specs.Bus.{channel_on}
use Rattle.seq_core.specs.declared.registers.Registers.{Registers}
use Rattle.seq_core.specs.World.{number}
use Rattle.seq_core.specs.After.{is_held}
use Rattle.seq_core.specs.Calls.{CanStep, holder_after, slot_state, state_of as state_by}
use Rattle.seq_core.specs.Progress.{Progress, moves_at, status_of, outcome_of, progress_after}
use Rattle.seq_core.specs.declared.stepped.Stepped.{Stepped}
use Rattle.seq_core.specs.Loops.{loops_behind}
use Rattle.seq_core.specs.Reply.{Reply, ToStep}
use Rattle.seq_core.specs.Playing.{EndsWithFive}
use Rattle.seq_core.proofs.Replies.{can_step}
use Rattle.seq_live.specs.declared.burst.Burst.{Burst}
use Rattle.seq_live.specs.Burst.{bursts_at, taken_by, all_moves}
use Rattle.seq_live.specs.Event.{Step}
use Rattle.seq_live.specs.Kept.{LiveView, IsLive, channel_at, core_at}
use Rattle.seq_live.specs.Calls.{IsLiveEvent, IsLiveRun, live_slot, HasMoved, is_poll, has_array_ready, has_fail, told_by, shown}
use Rattle.seq_live.proofs.Bursts.{AreBursts, bursts_are_moves, bursts_there}
use Rattle.seq_live.proofs.Lives.{live_core, live_after}
use Rattle.seq_live.proofs.Shown.{stepped_after}
use Rattle.seq_live.proofs.Stepping.{step_ran}
use Rattle.bus_record.specs.Bus.{bus_pushed}
use Rattle.bus_record.specs.Channel.{IsSameChannel}
use Rattle.bus_record.proofs.Pushed.{pushed_keeps, after_keeps, same_channel}
use Rattle.onfiseq_live_c.specs.declared.live.OnfiseqLive.{OnfiseqLive}
use Rattle.onfiseq_live_c.specs.declared.job.OnfiseqJob.{OnfiseqJob}
use Rattle.onfiseq_live_c.specs.Job.{JobView, job_view, job_behind, lun_in, registers_in}
use Rattle.onfiseq_live_c.specs.Live.{state_of, holder_of, are_whole}
use Rattle.onfiseq_live_c.specs.Bursts.{judged_bursts, after_bursts}
use Rattle.onfiseq_live_c.specs.Due.{due}
use Rattle.onfiseq_live_c.specs.Finish.{with_readies, finished, left_by, played_by, played, finish_of}
use Rattle.onfiseq_live_c.specs.Verified.{StandsFor, StepsAlong}
use Rattle.onfiseq_live_c.proofs.Permits.{both, judged_moves, after_moves, AreMoves, bursts_are}
use Rattle.onfiseq_live_c.proofs.Told.{bursts_are_own}
use Rattle.onfiseq_live_c.proofs.Finished.{finish_is, same_lun_after}
use Rattle.onfiseq_live_c.proofs.Verified.{own_bursts, word_range, due_now}
use Rattle.onfiseq_live_c.proofs.Noted.{with_state, noted, Noted}
use Rattle.onfiseq_live_c.proofs.Others.{same_slot, other_slot, there_of_slot}
use Rattle.onfiseq_live_c.proofs.Along.{Along, goes_along, same_text, slot_again}

-- ---- moves that are made on a state

none_taken : (n : ℕ) → 0 ≡ n + 1 → ⊥
none_taken n e = omega (arith, e)

one_less : (m n : ℕ) → suc m ≡ n + 1 → m ≡ n
one_less m n e = omega (arith, e)

moved_moves : (ce : ℕ) (moved : List Move) (s : BusView) (bytes : List ℕ) → judged_moves ce moved s ≡ None → length bytes ≡ outputs moved → HasMoved s (after_moves ce moved s) ce moved bytes
moved_moves ce [] s [] h e g n past f = (past, refl, f)
moved_moves ce [] s (b ∷ bytes) h e g n past f = cc
moved_moves ce (Give kind byte ∷ rest) s bytes h e g n past f =
    let parts = both (judged s (cycle ce kind byte)) (judged_moves ce rest (bus_after (cycle ce kind byte) s)) h in
    moved_moves ce rest (bus_after (cycle ce kind byte) s) bytes parts.rest e g n (cycle ce kind byte ∷ past) (bus_goes_on g n s past (cycle ce kind byte) parts.first f)
moved_moves ce (Take ∷ rest) s [] h e g n past f = absurd (none_taken (outputs rest) e)
moved_moves ce (Take ∷ rest) s (b ∷ bytes) h e g n past f =
    let parts = both (judged s (cycle ce Dout 0)) (judged_moves ce rest (bus_after (cycle ce Dout 0) s)) h in
    let more = moved_moves ce rest (bus_after (cycle ce Dout 0) s) bytes parts.rest (one_less (length bytes) (outputs rest) e) g n (cycle ce Dout b ∷ past)
    (cycle_followed Dout outputs_are_data g n s past ce b parts.first f) in
    (more.0, ap (λ (o : Option Played). and_then o (with_byte b)) more.1, more.2)

-- ---- the channel stays

then_same : (a b c : BusView) → IsSameChannel a b → IsSameChannel b c → IsSameChannel a c
then_same a b c x y = record { geometry = y.geometry ∙ x.geometry; count = y.count ∙ x.count }

readies_keep : (l : Lun) (w : Word) (bytes : List ℕ) (s : BusView) → IsSameChannel s (with_readies l w bytes s)
readies_keep l w bytes s = at (is_poll w) (is_ready_status (status_of w bytes)) (has_array_ready (status_of w bytes))
  where
    s1 : BusView
    s1 = bus_pushed s (Some (Rdy l.ce l.lun (told_by (status_of w bytes))))

    at : (b r a : Bool) → IsSameChannel s (cond b (cond r (cond a (bus_pushed s1 (Some (Ard l.ce l.lun (has_fail (status_of w bytes))))) s1) s) s)
    at false r a = same_channel s
    at true false a = same_channel s
    at true true false = pushed_keeps s (Rdy l.ce l.lun (told_by (status_of w bytes)))
    at true true true = then_same s s1 (bus_pushed s1 (Some (Ard l.ce l.lun (has_fail (status_of w bytes))))) (pushed_keeps s (Rdy l.ce l.lun (told_by (status_of w bytes)))) (pushed_keeps s1 (Ard l.ce l.lun (has_fail (status_of w bytes))))

moves_keep : (ce : ℕ) (moved : List Move) (s : BusView) → IsSameChannel s (after_moves ce moved s)
moves_keep ce [] s = same_channel s
moves_keep ce (Give kind byte ∷ rest) s =
    then_same s (bus_after (cycle ce kind byte) s) (after_moves ce rest (bus_after (cycle ce kind byte) s)) (after_keeps s (cycle ce kind byte)) (moves_keep ce rest (bus_after (cycle ce kind byte) s))
moves_keep ce (Take ∷ rest) s =
    then_same s (bus_after (cycle ce Dout 0) s) (after_moves ce rest (bus_after (cycle ce Dout 0) s)) (after_keeps s (cycle ce Dout 0)) (moves_keep ce rest (bus_after (cycle ce Dout 0) s))

some_same : {X : Type 0} (x y : X) → Some x ≡ Some y → x ≡ y
some_same x y h = cc

-- ---- the step

pub verified_jobs_go_along : (kept : LiveView) (p : Progress) (v : OnfiseqLive) (j : OnfiseqJob) (file bytes : List ℕ) (word : Word) → IsLive kept → StandsFor kept p v j file
    → p.code ≡ None → is_held kept.holder (lun_in j) ≡ false → slice_get p.job.text.words p.at ≡ Some word → length bytes ≡ taken_by word → StepsAlong kept p v j file bytes word
verified_jobs_go_along kept p v j file bytes word k st running free here many = at (bursts_at s1.geometry p.job.lun p.registers word) refl
  where
    l : Lun
    l = lun_in j

    s1 : BusView
    s1 = with_readies l word bytes kept.state

    ready : LiveView
    ready = with_state kept s1

    note : Noted kept l word bytes s1
    note = noted kept l word bytes k

    kept_channel : IsSameChannel kept.state s1
    kept_channel = readies_keep l word bytes kept.state

    slot : live_slot ready l ≡ Some p
    slot = same_slot kept.state s1 kept.slots l kept_channel ∙ st.slot

    can : CanStep (channel_at ready) note.live.world.past p × (p.job.lun ≡ l)
    can = can_step (core_at ready note.live.world.past) l p (live_core ready note.live) slot running free

    same : can.0.word ≡ word
    same = some_same can.0.word word (sym can.0.here ∙ here)

    is_moved : moves_at s1.geometry p.job.lun.lun p.job.buffer p.registers word ≡ Some can.0.can.moved
    is_moved = subst (λ (w : Word). moves_at s1.geometry p.job.lun.lun p.job.buffer p.registers w ≡ Some can.0.can.moved) same can.0.can.is_moved

    inside : fits (length p.job.buffer) p.registers.place word ≡ true
    inside = subst (λ (w : Word). fits (length p.job.buffer) p.registers.place w ≡ true) same can.0.can.inside

    range : EndsWithFive word
    range = word_range file p.job.text p.at word st.text here

    is_due : due (holder_of v) (job_view j) file ≡ Ok word
    is_due = due_now kept p v j file word st running free here inside (subst (λ (w : Word). length (loops_behind p.at p.loops w) ≤ 4) same can.0.room)

    answer : Stepped
    answer = outcome_of word (status_of word bytes)

    u : Progress
    u = progress_after p word bytes

    at : (o : Option (List Burst)) → bursts_at s1.geometry p.job.lun p.registers word ≡ o → StepsAlong kept p v j file bytes word
    at None are = absurd (bursts_there s1.geometry p.job.lun p.job.buffer p.registers word can.0.can.moved is_moved are)
    at (Some bursts) are =
        record { later = later; is_live = live; replies = run.0; run = run.1; f = finished (job_view j) word (status_of word bytes) left; finishes = came; others = others; stands = stands }
      where
        a : AreBursts p.job.buffer p.registers.place word can.0.can.moved bursts
        a = bursts_are_moves s1.geometry p.job.lun p.job.buffer p.registers word can.0.can.moved bursts range inside is_moved are

        none : judged_bursts bursts s1 ≡ None
        none = own_bursts s1.geometry (length s1.targets) p.job.lun p.job.buffer p.registers word can.0.can.moved bursts s1 note.live.world.past range inside is_moved are
            note.live.is_at.follows can.0.can.own

        left : BusView
        left = after_bursts bursts s1

        moves_are : AreMoves p.job.lun.ce (all_moves p.job.buffer bursts) s1 (judged_bursts bursts s1) left
        moves_are = bursts_are p.job.lun.ce p.job.buffer bursts s1 (bursts_are_own s1.geometry p.job.lun p.registers (length p.job.buffer) word bursts inside are)

        leaves : left ≡ after_moves p.job.lun.ce can.0.can.moved s1
        leaves = moves_are.leaves ∙ ap (λ (ms : List Move). after_moves p.job.lun.ce ms s1) (sym a.moves)

        quiet : judged_moves p.job.lun.ce can.0.can.moved s1 ≡ None
        quiet = ap (λ (ms : List Move). judged_moves p.job.lun.ce ms s1) a.moves ∙ (sym moves_are.judges ∙ none)

        has_moved : HasMoved s1 left p.job.lun.ce can.0.can.moved bytes
        has_moved = subst (λ (x : BusView). HasMoved s1 x p.job.lun.ce can.0.can.moved bytes) (sym leaves)
            (moved_moves p.job.lun.ce can.0.can.moved s1 bytes quiet (many ∙ (sym a.count ∙ ap outputs (sym a.moves))))

        later : LiveView
        later = record { state = left; slots = set kept.slots (number (channel_at ready) l) (Some u); holder = holder_after answer l; going = None }

        event : IsLiveEvent ready (Step l bytes) (ToStep answer) later
        event = step_ran ready later l word bytes answer p u note.live
            (record { running = sym (ap slot_state slot ∙ ap state_by running); free = free }) slot
            (record { v = p; is_slot = slot; here = here }) note.truth
            (record { word = word; here = here; moves = record { moved = can.0.can.moved; is_moved = is_moved; moves = has_moved }; slot_is = refl; answer_is = refl }) refl refl

        live : IsLive later
        live = live_after ready later (Step l bytes ∷ []) (ToStep answer ∷ []) note.live event

        run : (replies : List Reply) × IsLiveRun kept (shown l word bytes ++ (Step l bytes ∷ [])) (replies ++ (ToStep answer ∷ [])) later
        run = stepped_after kept ready later l word bytes answer note.shows event

        there : with_readies l word bytes (state_of v) ≡ s1
        there = ap (with_readies l word bytes) st.state

        plays : played (job_view j) word (with_readies l word bytes (state_of v)) ≡ Ok left
        plays =
            ap (played (job_view j) word) there
            ∙ (ap (played_by s1)
            (ap (λ (m : Lun). bursts_at s1.geometry m (registers_in j) word) (sym can.1) ∙ (ap (λ (r : Registers). bursts_at s1.geometry p.job.lun r word) st.registers ∙ are))
            ∙ ap (left_by s1 bursts) none)

        came : finish_of v j file bytes ≡ Ok (finished (job_view j) word (status_of word bytes) left)
        came = finish_is v j file bytes word left st.whole is_due many plays

        channel : IsSameChannel s1 left
        channel = subst (IsSameChannel s1) (sym leaves) (moves_keep p.job.lun.ce can.0.can.moved s1)

        slot_later : live_slot later l ≡ Some u
        slot_later =
            same_slot s1 left later.slots l channel
            ∙ slot_again (is_there (channel_on s1.geometry (length s1.targets) []) l) kept.slots (number (channel_on s1.geometry (length s1.targets) []) l) p u slot

        others : (m : Lun) → same_lun l m ≡ false → live_slot later m ≡ live_slot kept m
        others m differs =
            same_slot s1 left later.slots m channel
            ∙ (other_slot (channel_on s1.geometry (length s1.targets) []) kept.slots l m (Some u) (there_of_slot (channel_on s1.geometry (length s1.targets) []) kept.slots l p slot) differs
            ∙ same_slot kept.state s1 kept.slots m kept_channel)

        along : Along (job_behind (job_view j) word (status_of word bytes)) u
        along = goes_along (job_view j) p word bytes
            (record { base = st.base; buffer = st.buffer; at = st.at; loops = st.loops; registers = st.registers; code = st.code })

        stands : (w : OnfiseqLive) (i : OnfiseqJob) → state_of w ≡ left → holder_of w ≡ holder_after answer l → job_view i ≡ job_behind (job_view j) word (status_of word bytes)
            → are_whole w i ≡ true → StandsFor later u w i file
        stands w i state holder job whole =
            let b : Along (job_view i) u = subst (λ (x : JobView). Along x u) (sym job) along in
            record {
              whole = whole;
              state = state;
              holder = holder;
              slot = ap (live_slot later) (same_lun_after j i word (status_of word bytes) job) ∙ slot_later;
              text = subst (IsFileOf file) (sym (same_text p word bytes)) st.text;
              base = b.base;
              buffer = b.buffer;
              at = b.at;
              loops = b.loops;
              registers = b.registers;
              code = b.code;
            }
