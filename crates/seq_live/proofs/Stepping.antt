-- A step of a real bus is the event of each world that is kept.
use Rattle.std.proofs.Common.{◌≡◌, ℕ, true, false, List, [], ◌∷◌, Option, Some, None, refl, sym, ap, ◌∙◌, subst, length, get_or, set, IfSome, Bor}
use Rattle.std.specs.List.{slice_get}
use Rattle.nand_geometry.specs.declared.parts.Parts.{Parts}
use Rattle.onfi_cycle.specs.declared.lun.Lun.{Lun}
use Rattle.onfi_cycle.specs.declared.item.Item.{Item}
use Rattle.onfi_cycle.specs.Channel.{Channel, is_there}
use Rattle.onfi_cycle.specs.State.{Follows}
use Rattle.micro_word.specs.declared.word.Word.{Word}
use Rattle.micro_program.specs.Lines.{Line}
use Rattle.micro_program.specs.Program.{Job}
use Rattle.micro_program.specs.Moves.{moves, outputs}
use Rattle.micro_program.specs.Played.{Played, answered}
use Rattle.micro_program.specs.Step.{Stride, stride, answered_step}
use Rattle.micro_program.specs.Safe.{LineIsFine, AreTruthful, ends_wait}
use Rattle.micro_program.proofs.Walk.{answered_count}
use Rattle.seq_core.specs.declared.stepped.Stepped.{Stepped}
use Rattle.seq_core.specs.World.{Slot, number}
use Rattle.seq_core.specs.Reply.{ToStep}
use Rattle.seq_core.specs.After.{After, is_held, after_stride}
use Rattle.seq_core.specs.Lawful.{LawfulSlot, LawfulWorld, has_bus}
use Rattle.seq_core.specs.Event.{Step as AStep}
use Rattle.seq_core.specs.Headline.{AddsItsOwn}
use Rattle.seq_core.specs.Live.{taken_next}
use Rattle.seq_core.specs.Loops.{StandsAt}
use Rattle.seq_core.specs.Progress.{Progress}
use Rattle.seq_core.specs.Shows.{CoreView, KeepsSlot, KeepsAll}
use Rattle.seq_core.specs.Calls.{CanStep, holder_after}
use Rattle.seq_core.proofs.Slots.{there_of_slot}
use Rattle.seq_core.proofs.Calls.{keeps_set, has_slot, HasSlot, same_holder}
use Rattle.seq_core.proofs.Standing.{first_word}
use Rattle.seq_core.proofs.Progress.{same_moves, slot_after, GoesOn, goes_on}
use Rattle.seq_core.proofs.Replies.{can_step, fine_now}
use Rattle.seq_core.proofs.Cores.{place_of, slot_of_place, has_code, never_there}
use Rattle.seq_live.specs.Event.{Step}
use Rattle.seq_live.specs.Headline.{LiveEventGoesWell}
use Rattle.seq_live.specs.After.{after_live, after_answers, after_slot_answers, Answers}
use Rattle.seq_live.specs.declared.burst.Burst.{Burst}
use Rattle.seq_live.specs.Burst.{taken_by}
use Rattle.seq_live.specs.Kept.{LiveView, channel_at, core_at, IsLiveAt, IsLive}
use Rattle.seq_live.specs.Calls.{LiveRan, IsLiveEvent, live_slot, MayStep, HasBuffer, NextWordIs, IsNextWord, HasNextWord, NextBurstsAre, AreNextBursts, HasNextMoves, CanAnswer, AnsweredSteps, IsReadyNow, ends_with}
use Rattle.seq_live.proofs.Events.{live_events_go_well}
use Rattle.seq_live.proofs.Lives.{live_core, at_world, ran_one, same_channel}

some_same : {X : Type 0} (x y : X) → Some x ≡ Some y → x ≡ y
some_same x y h = cc

-- 1. the next word of a LUN that may step

pub record NextThere (v : LiveView) (l : Lun) (place : ℕ) : Type 0 where
  pub p : Progress
  pub found : get_or v.slots place None ≡ Some p
  pub slot : live_slot v l ≡ Some p
  pub running : p.code ≡ None
  pub past : List Item
  pub follows : Follows v.state.geometry (length v.state.targets) v.state past
  pub can : CanStep (channel_at v) past p
  pub lun : p.job.lun ≡ l
  pub is_number : place ≡ number (channel_at v) l

pub next_there : (v : LiveView) (l : Lun) (place : ℕ) → IsLive v → Some place ≡ place_of (core_at v []) l → MayStep v l → NextThere v l place
next_there v l place k h may =
    let s = has_code (live_slot v l) None may.running in
    let can = can_step (core_at v k.world.past) l s.v (live_core v k) s.is s.code_is may.free in
    let at = slot_of_place (core_at v []) l place h in
    record { p = s.v; found = sym at.0 ∙ s.is; slot = s.is; running = s.code_is; past = k.world.past; follows = k.is_at.follows; can = can.0; lun = can.1; is_number = at.1 }

pub never_missing : (v : LiveView) (l : Lun) → None ≡ place_of (core_at v []) l → MayStep v l → ⊥
never_missing v l h may = never_there (core_at v []) l h may.running

pub bursts_for : (v : LiveView) (l : Lun) (place : ℕ) (bursts : List Burst) → NextThere v l place → AreNextBursts v l bursts → NextBurstsAre v.state.geometry (get_or v.slots place None) bursts
bursts_for v l place bursts n h = subst (λ (o : Option Progress). NextBurstsAre v.state.geometry o bursts) (n.slot ∙ sym n.found) h

pub has_next_word : (v : LiveView) (l : Lun) (place : ℕ) → NextThere v l place → HasNextWord (get_or v.slots place None)
has_next_word v l place n = (n.can.word, record { v = n.p; is_slot = n.found; here = n.can.here })

pub has_next_moves : (v : LiveView) (l : Lun) (place : ℕ) → NextThere v l place → HasNextMoves v.state.geometry (get_or v.slots place None)
has_next_moves v l place n = record { v = n.p; is_slot = n.found; word = n.can.word; here = n.can.here; moved = n.can.can.moved; is_moved = n.can.can.is_moved }

pub next_word_of : (v : LiveView) (l : Lun) (place : ℕ) (word : Word) → Some place ≡ place_of (core_at v []) l → NextWordIs (get_or v.slots place None) word → IsNextWord v l word
next_word_of v l place word h n = record { v = n.v; is_slot = (slot_of_place (core_at v []) l place h).0 ∙ n.is_slot; here = n.here }

pub next_bursts_of : (v : LiveView) (l : Lun) (place : ℕ) (bursts : List Burst) → Some place ≡ place_of (core_at v []) l → NextBurstsAre v.state.geometry (get_or v.slots place None) bursts → AreNextBursts v l bursts
next_bursts_of v l place bursts h n = record { v = n.v; is_slot = (slot_of_place (core_at v []) l place h).0 ∙ n.is_slot; word = n.word; here = n.here; are_bursts = n.are_bursts }

pub buffer_of : (v : LiveView) (l : Lun) (place : ℕ) (found : Option (Bor (List ℕ))) → Some place ≡ place_of (core_at v []) l → IfSome found (λ buffer. HasBuffer (get_or v.slots place None) buffer.now) → IfSome found (λ buffer. HasBuffer (live_slot v l) buffer.now)
buffer_of v l place None h b = tt
buffer_of v l place (Some buffer) h b = record { v = b.v; is_slot = (slot_of_place (core_at v []) l place h).0 ∙ b.is_slot; is_buffer = b.is_buffer }

-- a LUN's next word is the one that can be stepped
same_word : (v : LiveView) (l : Lun) (place : ℕ) (word : Word) (n : NextThere v l place) → IsNextWord v l word → word ≡ n.can.word
same_word v l place word n w =
    let same : w.v ≡ n.p = some_same w.v n.p (sym w.is_slot ∙ n.slot) in
    some_same word n.can.word (sym w.here ∙ (ap (λ (q : Progress). slice_get q.job.text.words q.at) same ∙ n.can.here))

pub can_answer : (v : LiveView) (l : Lun) (place count : ℕ) (word : Word) → NextThere v l place → IsNextWord v l word → count ≡ taken_by word → (p : Progress) × (get_or v.slots place None ≡ Some p) × CanAnswer v.state.geometry v.state p count
can_answer v l place count word n w many =
    (n.p, n.found, record { targets = length v.state.targets; past = n.past; follows = n.follows; can = n.can; many = many ∙ ap taken_by (same_word v l place word n w) })

-- 2. a step

pub step_ran : (v later : LiveView) (l : Lun) (word : Word) (bytes : List ℕ) (answer : Stepped) (p u : Progress) → IsLive v → MayStep v l → live_slot v l ≡ Some p → IsNextWord v l word → (ends_with word bytes ≡ true → IsReadyNow v.state l) → AnsweredSteps v.state.geometry v.state later.state p bytes answer u → later.slots ≡ set v.slots (number (channel_at v) l) (Some u) → later.holder ≡ holder_after answer l → IsLiveEvent v (Step l bytes) (ToStep answer) later
step_ran v later l word bytes answer p u k may slot next truth st slots_are holder_is w at law = on h.x.ahead refl f.1
  where
    s : Channel
    s = channel_at v

    c : CoreView
    c = core_at v w.past

    running : p.code ≡ None
    running =
        let x = has_code (live_slot v l) None may.running in
        sym (ap (λ (q : Progress). q.code) (some_same x.v p (sym x.is ∙ slot))) ∙ x.code_is

    h : HasSlot c w l p
    h = has_slot c w l p at.at slot

    x_running : h.x.code ≡ None
    x_running = sym h.kept.code ∙ running

    free : is_held w.holder l ≡ false
    free = subst (λ (o : Option Lun). is_held o l ≡ false) at.at.holder may.free

    f : LawfulSlot s w.past (has_bus w.holder l) l h.x × LineIsFine s h.x.job w.past h.x.done h.x.ahead
    f = fine_now s w l h.x law h.is x_running free

    lun_is : p.job.lun ≡ l
    lun_is = ap (λ (j : Job). j.lun) h.kept.job ∙ f.0.lun

    there : is_there s l ≡ true
    there = there_of_slot s w l h.x h.is

    moved_now : (t : List Item) × (answered p.job.lun.ce st.moves.moved bytes w.past ≡ Some (record { past = t; bytes = bytes })) × Follows v.state.geometry (length v.state.targets) later.state t
    moved_now = st.moves.moves v.state.geometry (length v.state.targets) w.past at.follows

    played : Played
    played = record { past = moved_now.0; bytes = bytes }

    word_is : word ≡ st.word
    word_is =
        some_same word st.word (sym next.here ∙ (ap (λ (q : Progress). slice_get q.job.text.words q.at) (some_same next.v p (sym next.is_slot ∙ slot)) ∙ st.here))

    -- the step of its line
    finished : (line : Line) (rest : List Line) (r : Stride) → h.x.ahead ≡ line ∷ rest → line.word ≡ st.word → moves s.geometry h.x.job h.x.done line.word ≡ Some st.moves.moved → answered_step s.geometry h.x.job bytes w.past h.x.ahead h.x.done ≡ Some r → GoesOn h.x p st.word played r → LiveRan v w (Step l bytes ∷ []) (ToStep answer ∷ []) later
    finished line rest r is_ahead same_line is_moved is_r g =
        ran_one v later w (Step l bytes) (ToStep answer) a answers is_after (ap ToStep (g.answer ∙ sym st.answer_is)) reached (subst (λ (b : After). AddsItsOwn s (AStep l) w.past b.world.past) same well.own) (subst (λ (b : After). LawfulWorld s b.world) same well.lawful)
        (same_channel v.state.geometry (length v.state.targets) later.state moved_now.0 moved_now.2)
      where
        a : After
        a = after_stride s w l h.x.job r

        is_after : after_live s w (Step l bytes) ≡ Some a
        is_after =
            ap (after_answers s w l bytes) h.is ∙ (ap (after_slot_answers s w l bytes h.x) x_running ∙ rw (free, is_r) refl)

        count : length bytes ≡ outputs st.moves.moved
        count = answered_count p.job.lun.ce st.moves.moved bytes w.past played moved_now.1

        takes : taken_next s.geometry h.x.job h.x.ahead h.x.done ≡ Some (length bytes)
        takes = rw (is_ahead, is_moved) (ap Some (sym count))

        truthful : AreTruthful s.geometry l w.past h.x.ahead bytes
        truthful e =
            let ends : ends_with word bytes ≡ true = ap (λ (y : Word). ends_with y bytes) (word_is ∙ sym same_line) ∙ (sym (ap (λ (ls : List Line). ends_wait ls bytes) is_ahead) ∙ e) in
            truth ends v.state.geometry (length v.state.targets) w.past at.follows there

        answers : Answers s w l bytes
        answers x is code fr =
            let same_slot : h.x ≡ x = some_same h.x x (sym h.is ∙ is) in
            subst (λ (y : Slot). (taken_next s.geometry y.job y.ahead y.done ≡ Some (length bytes)) × AreTruthful s.geometry l w.past y.ahead bytes) same_slot (takes, truthful)

        well : LiveEventGoesWell s w (Step l bytes)
        well = live_events_go_well s w (Step l bytes) k.is_channel law tt answers

        same : well.then ≡ a
        same = some_same well.then a (sym well.is_then ∙ is_after)

        reached : IsLiveAt later a.world
        reached =
            at_world later (record { geometry = v.state.geometry; targets = length v.state.targets; opened = []; past = r.past; slots = later.slots; holder = later.holder }) v.state.geometry (length v.state.targets) a.world refl refl
            (record {
              past = refl;
              holder = holder_is ∙ (ap (λ (o : Stepped). holder_after o l) (st.answer_is ∙ sym g.answer) ∙ same_holder r.outcome l);
              slots = subst (KeepsAll a.world.slots) (sym slots_are) (keeps_set w.slots v.slots (number s l) (Some (slot_after h.x r)) (Some u) at.at.slots (subst (λ (q : Progress). KeepsSlot (slot_after h.x r) q) (sym st.slot_is) g.kept));
            })
            (subst (λ (t : List Item). Follows v.state.geometry (length v.state.targets) later.state t) (sym g.past) moved_now.2)

    on : (ahead : List Line) → h.x.ahead ≡ ahead → LineIsFine s h.x.job w.past h.x.done ahead → LiveRan v w (Step l bytes ∷ []) (ToStep answer ∷ []) later
    on [] e m = absurd m
    on (line ∷ rest) e m =
        let first = first_word h.x.job.text.words p.at p.loops line rest (subst (λ (ls : List Line). StandsAt h.x.job.text.words ls p.at p.loops) e h.kept.place) in
        let there_word : slice_get h.x.job.text.words p.at ≡ Some st.word = ap (λ (j : Job). slice_get j.text.words p.at) (sym h.kept.job) ∙ st.here in
        let same_first : first.word ≡ st.word = some_same first.word st.word (sym first.here ∙ there_word) in
        let here : line ≡ record { at = p.at; word = st.word } = first.is_line ∙ ap (λ (y : Word). let z : Line = record { at = p.at; word = y } in z) same_first in
        let same_line : line.word ≡ st.word = ap (λ (y : Line). y.word) here in
        let is_moved : moves s.geometry h.x.job h.x.done line.word ≡ Some st.moves.moved = ap (moves s.geometry h.x.job h.x.done) same_line ∙ (same_moves s.geometry k.is_channel.limits h.x p st.word h.kept ∙ st.moves.is_moved) in
        let is_word_moved : moves s.geometry h.x.job h.x.done st.word ≡ Some st.moves.moved = ap (moves s.geometry h.x.job h.x.done) (sym same_line) ∙ is_moved in
        let plays : answered h.x.job.lun.ce st.moves.moved bytes w.past ≡ Some played = ap (λ (j : Job). answered j.lun.ce st.moves.moved bytes w.past) (sym h.kept.job) ∙ moved_now.1 in
        let ahead_is : h.x.ahead ≡ record { at = p.at; word = st.word } ∷ rest = e ∙ ap (λ (y : Line). y ∷ rest) here in
        let is_r : answered_step s.geometry h.x.job bytes w.past h.x.ahead h.x.done ≡ Some (stride (record { at = p.at; word = st.word }) rest h.x.done played st.word) =
        ap (λ (ls : List Line). answered_step s.geometry h.x.job bytes w.past ls h.x.done) ahead_is ∙ rw is_word_moved (rw plays refl) in
        finished line rest (stride (record { at = p.at; word = st.word }) rest h.x.done played st.word) e same_line is_moved is_r (goes_on h.x p st.word rest played h.kept x_running there_word ahead_is)

-- the same by the place of its slot
pub stepped_now : (v later : LiveView) (l : Lun) (word : Word) (bytes : List ℕ) (answer : Stepped) (p u : Progress) (place : ℕ) (g : Parts) → IsLive v → Some place ≡ place_of (core_at v []) l → MayStep v l → IsNextWord v l word → (ends_with word bytes ≡ true → IsReadyNow v.state l) → g ≡ v.state.geometry → get_or v.slots place None ≡ Some p → AnsweredSteps g v.state later.state p bytes answer u → later.slots ≡ set v.slots place (Some u) → later.holder ≡ holder_after answer l → IsLiveEvent v (Step l bytes) (ToStep answer) later
stepped_now v later l word bytes answer p u place g k h may next truth geometry found st slots holder =
    let at = slot_of_place (core_at v []) l place h in
    step_ran v later l word bytes answer p u k may (at.0 ∙ found) next truth (subst (λ (x : Parts). AnsweredSteps x v.state later.state p bytes answer u) geometry st) (slots ∙ ap (λ (n : ℕ). set v.slots n (Some u)) at.1) holder
