-- What comes on the pins is what the events add to the trace.
use Rattle.std.proofs.Common.{◌≡◌, ℕ, zero, suc, ◌+◌, ◌≤◌, Bool, true, false, cond, ltb, List, [], ◌∷◌, ◌++◌, Option, Some, None, refl, sym, ap, ◌∙◌, subst, arith, length, replicate}
use Rattle.std.specs.List.{list_all, slice_get}
use Rattle.std.proofs.lemmas.List.{append-nil, append_assoc}
use Rattle.std.proofs.lemmas.Bool.{and_parts}
use Rattle.nand_geometry.specs.declared.parts.Parts.{Parts}
use Rattle.nand_geometry.specs.Row.{row_bytes_of}
use Rattle.onfi_cycle.specs.declared.item.Failures.{Failures}
use Rattle.onfi_cycle.specs.declared.lun.Lun.{Lun}
use Rattle.onfi_cycle.specs.declared.item.Kind.{Kind}
use Rattle.onfi_cycle.specs.declared.item.Kind.TheVariants.{Cmd, Adr, Din, Dout}
use Rattle.onfi_cycle.specs.declared.item.Item.{Item}
use Rattle.onfi_cycle.specs.declared.item.Item.TheVariants.{Rdy, Ard}
use Rattle.onfi_cycle.specs.Channel.{Channel, IsChannel, cycle}
use Rattle.onfi_cycle.specs.Permitted.{is_permitted}
use Rattle.micro_word.specs.declared.word.Word.{Word}
use Rattle.micro_word.specs.declared.word.Word.TheVariants as word
use Rattle.micro_program.specs.Lines.{Line}
use Rattle.micro_program.specs.Program.{Job}
use Rattle.micro_program.specs.Moves.{Move, Take, and_then, gives, part, moves}
use Rattle.micro_program.specs.Played.{Played, answered, with_byte}
use Rattle.micro_program.specs.Step.{Stride, stride, answered_step}
use Rattle.seq_core.specs.declared.load_fault.LoadFault.{LoadFault}
use Rattle.seq_core.specs.declared.registers.Registers.{Registers}
use Rattle.seq_core.specs.World.{Slot, World, slot_of}
use Rattle.seq_core.specs.Reply.{Reply, ToStep, ToReady, ToArrayReady}
use Rattle.seq_core.specs.declared.stepped.Stepped.{Stepped}
use Rattle.seq_core.specs.declared.stepped.Stepped.TheVariants.{Empty, Held, Ended}
use Rattle.seq_core.specs.After.{After, Ran, stands, is_held, after_stride, after_item, after_load, after_unload, after_slot_unload, load_fault}
use Rattle.seq_core.specs.Lawful.{LawfulWorld, LawfulSlot, has_bus}
use Rattle.micro_program.specs.Safe.{LineIsFine}
use Rattle.seq_core.specs.Loops.{StandsAt}
use Rattle.seq_core.specs.Playing.{EndsWithFive}
use Rattle.seq_core.specs.Progress.{Progress, five_bytes}
use Rattle.seq_core.specs.Shows.{CoreView, Keeps, KeepsAll, IsAt}
use Rattle.seq_core.specs.Calls.{CanStep, slot_state, state_of}
use Rattle.seq_core.proofs.Calls.{keeps_lun, has_slot, HasSlot}
use Rattle.seq_core.proofs.Cores.{has_code}
use Rattle.seq_core.proofs.Progress.{same_moves, goes_on}
use Rattle.seq_core.proofs.Replies.{can_step, fine_now}
use Rattle.seq_core.proofs.Standing.{FirstWord, first_word}
use Rattle.seq_live.specs.declared.burst.Burst.{Burst}
use Rattle.seq_live.specs.declared.burst.Burst.TheVariants.{Command, Address, Input, Output}
use Rattle.seq_live.specs.Burst.{all_moves, BurstFits, AllFit, poll_bursts, bursts_at}
use Rattle.seq_live.specs.Event.{LiveEvent, Load, Step, Ready, ArrayReady, Unload, is_quiet, is_ready}
use Rattle.seq_live.specs.After.{after_live, after_answers, after_slot_answers, with_first, run_live}
use Rattle.seq_live.specs.Kept.{LiveView, channel_at, core_at, IsLiveAt, IsLive}
use Rattle.seq_live.specs.Calls.{IsLiveRun, MayStep, IsNextWord, AreNextBursts, HasBuffer, live_slot, shown, has_fail, has_array_ready, is_poll, told_by}
use Rattle.seq_live.specs.Driven.{cycles_in, with_bytes, with_burst, with_bursts, with_word, Grows, HaveCome, Bring, HasCome, shown_next, shown_slot, shown_in, AreShown, ShowReadies}
use Rattle.micro_program.specs.Program.{is_ready_status}
use Rattle.micro_program.specs.Step.{first_byte}
use Rattle.seq_live.proofs.Bursts.{AreBursts, bursts_are_moves}
use Rattle.seq_live.proofs.Events.{live_events_go_well}
use Rattle.seq_live.proofs.Running.{rest_of}
use Rattle.seq_live.proofs.Owned.{in_two}

some_same : {X : Type 0} (x y : X) → Some x ≡ Some y → x ≡ y
some_same x y h = cc

never_left : (a : After) → Some a ≡ None → ⊥
never_left a h = cc

-- 0. what has come grows

grows_then : (f g : List Item → List Item) (a b c : Option (List Item)) → Grows f a b → Grows g b c → Grows (λ past. g (f past)) a c
grows_then f g a b None first then = tt
grows_then f g a None (Some z) first then = cc
grows_then f g None (Some y) (Some z) first then = cc
grows_then f g (Some x) (Some y) (Some z) first then = then ∙ ap (λ (past : List Item). Some (g past)) (some_same y (f x) first)

grows_by : (f g : List Item → List Item) (a b : Option (List Item)) → ((past : List Item) → f past ≡ g past) → Grows f a b → Grows g a b
grows_by f g a None same h = tt
grows_by f g None (Some y) same h = cc
grows_by f g (Some x) (Some y) same h = h ∙ ap Some (same x)

grows_not : (f : List Item → List Item) (a : Option (List Item)) → ((past : List Item) → past ≡ f past) → Grows f a a
grows_not f None same = tt
grows_not f (Some x) same = ap Some (same x)

-- 1. what came, behind what came before

came_behind : (xs ys past : List Item) (c : Item) → xs ≡ ys ++ (c ∷ []) → xs ++ past ≡ ys ++ (c ∷ past)
came_behind xs ys past c h = ap (λ (zs : List Item). zs ++ past) h ∙ append_assoc ys (c ∷ []) past

bytes_behind : (ce : ℕ) (kind : Kind) (bytes : List ℕ) (past : List Item) → with_bytes ce kind bytes past ≡ with_bytes ce kind bytes [] ++ past
bytes_behind ce kind [] past = refl
bytes_behind ce kind (byte ∷ bytes) past =
    let c = cycle ce kind byte in
    bytes_behind ce kind bytes (c ∷ past) ∙ sym (came_behind (with_bytes ce kind bytes (c ∷ [])) (with_bytes ce kind bytes []) past c (bytes_behind ce kind bytes (c ∷ [])))

burst_behind : (buffer : List ℕ) (b : Burst) (past : List Item) → with_burst buffer b past ≡ with_burst buffer b [] ++ past
burst_behind buffer (Command ce byte) past = refl
burst_behind buffer (Address ce five from count) past = bytes_behind ce Adr (part from count five) past
burst_behind buffer (Input ce place len) past = bytes_behind ce Din (part place len buffer) past
burst_behind buffer (Output ce len) past = refl

-- one after another
in_turn : (f g : List Item → List Item) → ((past : List Item) → f past ≡ f [] ++ past) → ((past : List Item) → g past ≡ g [] ++ past) → (past : List Item) → g (f past) ≡ g (f []) ++ past
in_turn f g first then past =
    ap g (first past) ∙ (then (f [] ++ past) ∙ (sym (append_assoc (g []) (f []) past) ∙ ap (λ (xs : List Item). xs ++ past) (sym (then (f [])))))

bursts_behind : (buffer : List ℕ) (bursts : List Burst) (past : List Item) → with_bursts buffer bursts past ≡ with_bursts buffer bursts [] ++ past
bursts_behind buffer [] past = refl
bursts_behind buffer (b ∷ bursts) past = in_turn (with_burst buffer b) (with_bursts buffer bursts) (burst_behind buffer b) (bursts_behind buffer bursts) past

pub word_behind : (ce : ℕ) (buffer : List ℕ) (bursts : List Burst) (bytes : List ℕ) (past : List Item) → with_word ce buffer bursts bytes past ≡ with_word ce buffer bursts bytes [] ++ past
word_behind ce buffer bursts bytes past = in_turn (with_bursts buffer bursts) (with_bytes ce Dout bytes) (bursts_behind buffer bursts) (bytes_behind ce Dout bytes) past

-- 2. they are cycles

bytes_in : (ce : ℕ) (kind : Kind) (bytes : List ℕ) (past : List Item) → cycles_in (with_bytes ce kind bytes past) ≡ with_bytes ce kind bytes (cycles_in past)
bytes_in ce kind [] past = refl
bytes_in ce kind (byte ∷ bytes) past = bytes_in ce kind bytes (cycle ce kind byte ∷ past)

burst_in : (buffer : List ℕ) (b : Burst) (past : List Item) → cycles_in (with_burst buffer b past) ≡ with_burst buffer b (cycles_in past)
burst_in buffer (Command ce byte) past = refl
burst_in buffer (Address ce five from count) past = bytes_in ce Adr (part from count five) past
burst_in buffer (Input ce place len) past = bytes_in ce Din (part place len buffer) past
burst_in buffer (Output ce len) past = refl

bursts_in : (buffer : List ℕ) (bursts : List Burst) (past : List Item) → cycles_in (with_bursts buffer bursts past) ≡ with_bursts buffer bursts (cycles_in past)
bursts_in buffer [] past = refl
bursts_in buffer (b ∷ bursts) past = bursts_in buffer bursts (with_burst buffer b past) ∙ ap (with_bursts buffer bursts) (burst_in buffer b past)

word_in : (ce : ℕ) (buffer : List ℕ) (bursts : List Burst) (bytes : List ℕ) (past : List Item) → cycles_in (with_word ce buffer bursts bytes past) ≡ with_word ce buffer bursts bytes (cycles_in past)
word_in ce buffer bursts bytes past = bytes_in ce Dout bytes (with_bursts buffer bursts past) ∙ ap (with_bytes ce Dout bytes) (bursts_in buffer bursts past)

-- 3. the moves of bursts

-- they are on one target, and an output comes last
abbrev pub Tidy : ℕ → List Burst → Type 0
Tidy ce [] = Unit {0}
Tidy ce (Command c byte ∷ bursts) = (c ≡ ce) × Tidy ce bursts
Tidy ce (Address c five from count ∷ bursts) = (c ≡ ce) × Tidy ce bursts
Tidy ce (Input c place len ∷ bursts) = (c ≡ ce) × Tidy ce bursts
Tidy ce (Output c len ∷ []) = Unit {0}
Tidy ce (Output c len ∷ (b ∷ bursts)) = ⊥

poll_tidy : (g : Parts) (l : Lun) (bursts : List Burst) → poll_bursts g l ≡ Some bursts → Tidy l.ce bursts
poll_tidy g l bursts h = at (ltb 1 g.luns) (row_bytes_of g l.lun 0 0) h
  where
    at : (several : Bool) (o : Option (List ℕ)) → cond several (and_then o (λ row. Some (Command l.ce 0x78 ∷ (Address l.ce (0 ∷ (0 ∷ row)) 2 3 ∷ (Output l.ce 1 ∷ []))))) (Some (Command l.ce 0x70 ∷ (Output l.ce 1 ∷ []))) ≡ Some bursts → Tidy l.ce bursts
    at false o e = subst (Tidy l.ce) (some_same (Command l.ce 0x70 ∷ (Output l.ce 1 ∷ [])) bursts e) (refl, tt)
    at true None e = cc
    at true (Some row) e = subst (Tidy l.ce) (some_same (Command l.ce 0x78 ∷ (Address l.ce (0 ∷ (0 ∷ row)) 2 3 ∷ (Output l.ce 1 ∷ []))) bursts e) (refl, (refl, tt))

bursts_tidy : (g : Parts) (l : Lun) (r : Registers) (w : Word) (bursts : List Burst) → bursts_at g l r w ≡ Some bursts → Tidy l.ce bursts
bursts_tidy g l r (word.Command byte) bursts h = subst (Tidy l.ce) (some_same (Command l.ce byte ∷ []) bursts h) (refl, tt)
bursts_tidy g l r (word.Address from count) bursts h = at (five_bytes g l.lun r (from + count)) h
  where
    at : (o : Option (List ℕ)) → and_then o (λ five. Some (Address l.ce five from count ∷ [])) ≡ Some bursts → Tidy l.ce bursts
    at None e = cc
    at (Some five) e = subst (Tidy l.ce) (some_same (Address l.ce five from count ∷ []) bursts e) (refl, tt)
bursts_tidy g l r (word.Get len) bursts h = subst (Tidy l.ce) (some_same (Output l.ce len ∷ []) bursts h) tt
bursts_tidy g l r (word.Put len) bursts h = subst (Tidy l.ce) (some_same (Input l.ce r.place len ∷ []) bursts h) (refl, tt)
bursts_tidy g l r word.Wait bursts h = poll_tidy g l bursts h
bursts_tidy g l r word.ReadStatus bursts h = poll_tidy g l bursts h
bursts_tidy g l r w bursts h = subst (Tidy l.ce) (some_same [] bursts h) tt

gives_play : (ce : ℕ) (kind : Kind) (xs : List ℕ) (rest : List Move) (bytes : List ℕ) (past : List Item) → answered ce (gives kind xs ++ rest) bytes past ≡ answered ce rest bytes (with_bytes ce kind xs past)
gives_play ce kind [] rest bytes past = refl
gives_play ce kind (x ∷ xs) rest bytes past = gives_play ce kind xs rest bytes (cycle ce kind x ∷ past)

none_play : (ce : ℕ) (bytes : List ℕ) (past : List Item) (p : Played) → answered ce [] bytes past ≡ Some p → p.past ≡ with_bytes ce Dout bytes past
none_play ce [] past p h = ap (λ (q : Played). q.past) (sym (some_same (record { past = past; bytes = [] }) p h))
none_play ce (byte ∷ bytes) past p h = cc

takes_play : (ce len : ℕ) (bytes : List ℕ) (past : List Item) (p : Played) → answered ce (replicate len Take) bytes past ≡ Some p → p.past ≡ with_bytes ce Dout bytes past
takes_play ce zero bytes past p h = none_play ce bytes past p h
takes_play ce (suc len) [] past p h = cc
takes_play ce (suc len) (byte ∷ bytes) past p h = at (λ q is. takes_play ce len bytes (cycle ce Dout byte ∷ past) q is) (answered ce (replicate len Take) bytes (cycle ce Dout byte ∷ past)) refl h
  where
    at : ((q : Played) → answered ce (replicate len Take) bytes (cycle ce Dout byte ∷ past) ≡ Some q → q.past ≡ with_bytes ce Dout bytes (cycle ce Dout byte ∷ past)) → (o : Option Played) → answered ce (replicate len Take) bytes (cycle ce Dout byte ∷ past) ≡ o → and_then o (with_byte byte) ≡ Some p → p.past ≡ with_bytes ce Dout bytes (cycle ce Dout byte ∷ past)
    at rest None is e = cc
    at rest (Some q) is e = ap (λ (r : Played). r.past) (sym (some_same (record { past = q.past; bytes = byte ∷ q.bytes }) p e)) ∙ rest q is

bursts_play : (ce : ℕ) (buffer : List ℕ) (bursts : List Burst) (bytes : List ℕ) (past : List Item) (p : Played) → Tidy ce bursts → answered ce (all_moves buffer bursts) bytes past ≡ Some p → p.past ≡ with_word ce buffer bursts bytes past
bursts_play ce buffer [] bytes past p tidy h = none_play ce bytes past p h
bursts_play ce buffer (Command c byte ∷ bursts) bytes past p tidy h =
    bursts_play ce buffer bursts bytes (cycle ce Cmd byte ∷ past) p tidy.1 h ∙ ap (λ (k : ℕ). with_word ce buffer bursts bytes (cycle k Cmd byte ∷ past)) (sym tidy.0)
bursts_play ce buffer (Address c five from count ∷ bursts) bytes past p tidy h =
    bursts_play ce buffer bursts bytes (with_bytes ce Adr (part from count five) past) p tidy.1 (sym (gives_play ce Adr (part from count five) (all_moves buffer bursts) bytes past) ∙ h)
    ∙ ap (λ (k : ℕ). with_word ce buffer bursts bytes (with_bytes k Adr (part from count five) past)) (sym tidy.0)
bursts_play ce buffer (Input c place len ∷ bursts) bytes past p tidy h =
    bursts_play ce buffer bursts bytes (with_bytes ce Din (part place len buffer) past) p tidy.1 (sym (gives_play ce Din (part place len buffer) (all_moves buffer bursts) bytes past) ∙ h)
    ∙ ap (λ (k : ℕ). with_word ce buffer bursts bytes (with_bytes k Din (part place len buffer) past)) (sym tidy.0)
bursts_play ce buffer (Output c len ∷ []) bytes past p tidy h = takes_play ce len bytes past p (sym (ap (λ (ms : List Move). answered ce ms bytes past) (append-nil (replicate len Take))) ∙ h)
bursts_play ce buffer (Output c len ∷ (b ∷ bursts)) bytes past p tidy h = absurd tidy

-- 4. what a step adds

pub record WordComes (v : LiveView) (l : Lun) (bursts : List Burst) (bytes : List ℕ) (w : World) (a : After) : Type 0 where
  pub p : Progress
  pub slot : live_slot v l ≡ Some p
  pub fit : AllFit (length p.job.buffer) bursts
  pub past : a.world.past ≡ with_word l.ce p.job.buffer bursts bytes w.past

-- from a world of these slots and this holder, whatever its past
pub step_comes : (v : LiveView) (l : Lun) (y : Word) (bytes : List ℕ) (bursts : List Burst) (w : World) (a : After) → IsChannel (channel_at v) → MayStep v l → IsNextWord v l y → EndsWithFive y → AreNextBursts v l bursts → IsAt (core_at v w.past) w → LawfulWorld (channel_at v) w → after_live (channel_at v) w (Step l bytes) ≡ Some a → WordComes v l bursts bytes w a
step_comes v l y bytes bursts w a channel may next range listed is_at law left = record { p = p; slot = slot; fit = m.fit; past = on h.x.ahead refl f.1 left }
  where
    s : Channel
    s = channel_at v

    c : CoreView
    c = core_at v w.past

    p : Progress
    p = (has_code (live_slot v l) None may.running).v

    slot : live_slot v l ≡ Some p
    slot = (has_code (live_slot v l) None may.running).is

    running : p.code ≡ None
    running = (has_code (live_slot v l) None may.running).code_is

    h : HasSlot c w l p
    h = has_slot c w l p is_at slot

    x_running : h.x.code ≡ None
    x_running = sym h.kept.code ∙ running

    free : is_held w.holder l ≡ false
    free = subst (λ (o : Option Lun). is_held o l ≡ false) is_at.holder may.free

    f : LawfulSlot s w.past (has_bus w.holder l) l h.x × LineIsFine s h.x.job w.past h.x.done h.x.ahead
    f = fine_now s w l h.x law h.is x_running free

    can : CanStep s w.past p × (p.job.lun ≡ l)
    can = can_step c l p (record { is_channel = channel; world = w; is_at = is_at; lawful = law }) slot running may.free

    same_next : next.v ≡ p
    same_next = some_same next.v p (sym next.is_slot ∙ slot)

    word_is : y ≡ can.0.word
    word_is = some_same y can.0.word (sym next.here ∙ (ap (λ (q : Progress). slice_get q.job.text.words q.at) same_next ∙ can.0.here))

    same_listed : listed.v ≡ p
    same_listed = some_same listed.v p (sym listed.is_slot ∙ slot)

    listed_word : listed.word ≡ can.0.word
    listed_word = some_same listed.word can.0.word (sym listed.here ∙ (ap (λ (q : Progress). slice_get q.job.text.words q.at) same_listed ∙ can.0.here))

    are_bursts : bursts_at s.geometry p.job.lun p.registers can.0.word ≡ Some bursts
    are_bursts =
        ap (bursts_at s.geometry p.job.lun p.registers) (sym listed_word) ∙ (ap (λ (q : Progress). bursts_at s.geometry q.job.lun q.registers listed.word) (sym same_listed) ∙ listed.are_bursts)

    m : AreBursts p.job.buffer p.registers.place can.0.word can.0.can.moved bursts
    m = bursts_are_moves s.geometry p.job.lun p.job.buffer p.registers can.0.word can.0.can.moved bursts (subst EndsWithFive word_is range) can.0.can.inside can.0.can.is_moved are_bursts

    tidy : Tidy l.ce bursts
    tidy = subst (λ (k : Lun). Tidy k.ce bursts) can.1 (bursts_tidy s.geometry p.job.lun p.registers can.0.word bursts are_bursts)

    leaves : after_live s w (Step l bytes) ≡ and_then (answered_step s.geometry h.x.job bytes w.past h.x.ahead h.x.done) (λ r. Some (after_stride s w l h.x.job r))
    leaves = ap (after_answers s w l bytes) h.is ∙ (ap (after_slot_answers s w l bytes h.x) x_running ∙ rw free refl)

    lun_is : h.x.job.lun ≡ l
    lun_is = ap (λ (j : Job). j.lun) (sym h.kept.job) ∙ can.1

    -- its line was played
    played_so : (rest : List Line) (played : Played) → h.x.ahead ≡ record { at = p.at; word = can.0.word } ∷ rest → slice_get h.x.job.text.words p.at ≡ Some can.0.word → answered h.x.job.lun.ce can.0.can.moved bytes w.past ≡ Some played → Some (after_stride s w l h.x.job (stride (record { at = p.at; word = can.0.word }) rest h.x.done played can.0.word)) ≡ Some a → a.world.past ≡ with_word l.ce p.job.buffer bursts bytes w.past
    played_so rest played ahead there plays e =
        ap (λ (b : After). b.world.past) (sym (some_same (after_stride s w l h.x.job (stride (record { at = p.at; word = can.0.word }) rest h.x.done played can.0.word)) a e))
        ∙ ((goes_on h.x p can.0.word rest played h.kept x_running there ahead).past
        ∙ bursts_play l.ce p.job.buffer bursts bytes w.past played tidy
        (ap (λ (ms : List Move). answered l.ce ms bytes w.past) (sym m.moves) ∙ (ap (λ (k : Lun). answered k.ce can.0.can.moved bytes w.past) (sym lun_is) ∙ plays)))

    on : (ahead : List Line) → h.x.ahead ≡ ahead → LineIsFine s h.x.job w.past h.x.done ahead → after_live s w (Step l bytes) ≡ Some a → a.world.past ≡ with_word l.ce p.job.buffer bursts bytes w.past
    on [] e fine is = absurd fine
    on (line ∷ rest) e fine is = at (answered h.x.job.lun.ce can.0.can.moved bytes w.past) refl
      where
        first : FirstWord h.x.job.text.words p.at line
        first = first_word h.x.job.text.words p.at p.loops line rest (subst (λ (ls : List Line). StandsAt h.x.job.text.words ls p.at p.loops) e h.kept.place)

        there : slice_get h.x.job.text.words p.at ≡ Some can.0.word
        there = ap (λ (j : Job). slice_get j.text.words p.at) (sym h.kept.job) ∙ can.0.here

        here : line ≡ record { at = p.at; word = can.0.word }
        here = first.is_line ∙ ap (λ (z : Word). let n : Line = record { at = p.at; word = z } in n) (some_same first.word can.0.word (sym first.here ∙ there))

        ahead_is : h.x.ahead ≡ record { at = p.at; word = can.0.word } ∷ rest
        ahead_is = e ∙ ap (λ (z : Line). z ∷ rest) here

        is_moved : moves s.geometry h.x.job h.x.done can.0.word ≡ Some can.0.can.moved
        is_moved = same_moves s.geometry channel.limits h.x p can.0.word h.kept ∙ can.0.can.is_moved

        step_is : (o : Option Played) → answered h.x.job.lun.ce can.0.can.moved bytes w.past ≡ o → answered_step s.geometry h.x.job bytes w.past h.x.ahead h.x.done ≡ and_then o (λ q. Some (stride (record { at = p.at; word = can.0.word }) rest h.x.done q can.0.word))
        step_is o plays = ap (λ (ls : List Line). answered_step s.geometry h.x.job bytes w.past ls h.x.done) ahead_is ∙ rw is_moved (rw plays refl)

        at : (o : Option Played) → answered h.x.job.lun.ce can.0.can.moved bytes w.past ≡ o → a.world.past ≡ with_word l.ce p.job.buffer bursts bytes w.past
        at None plays =
            let none : and_then (answered_step s.geometry h.x.job bytes w.past h.x.ahead h.x.done) (λ r. Some (after_stride s w l h.x.job r)) ≡ None = ap (λ (o : Option Stride). and_then o (λ r. Some (after_stride s w l h.x.job r))) (step_is None plays) in
            absurd (never_left a (sym is ∙ (leaves ∙ none)))
        at (Some played) plays =
            let some : and_then (answered_step s.geometry h.x.job bytes w.past h.x.ahead h.x.done) (λ r. Some (after_stride s w l h.x.job r)) ≡ Some (after_stride s w l h.x.job (stride (record { at = p.at; word = can.0.word }) rest h.x.done played can.0.word)) = ap (λ (o : Option Stride). and_then o (λ r. Some (after_stride s w l h.x.job r))) (step_is (Some played) plays) in
            played_so rest played ahead_is there plays (sym some ∙ (sym leaves ∙ is))

-- 5. readies add no cycle, and keep slots and holder

pub shown_are_ready : (l : Lun) (y : Word) (bytes : List ℕ) → list_all is_ready (shown l y bytes) ≡ true
shown_are_ready l y bytes = at (is_poll y) (is_ready_status status) (has_array_ready status)
  where
    status : ℕ
    status = first_byte bytes

    at : (poll ready array : Bool) → list_all is_ready (cond poll (cond ready (Ready l (told_by status) ∷ cond array (ArrayReady l (has_fail status) ∷ []) []) []) []) ≡ true
    at false ready array = refl
    at true false array = refl
    at true true false = refl
    at true true true = refl

record AddsNoCycle (w later : World) : Type 0 where
  cycles : cycles_in later.past ≡ cycles_in w.past
  slots : later.slots ≡ w.slots
  holder : later.holder ≡ w.holder

no_cycle_more : (w u t : World) → AddsNoCycle w u → AddsNoCycle u t → AddsNoCycle w t
no_cycle_more w u t a b = record { cycles = b.cycles ∙ a.cycles; slots = b.slots ∙ a.slots; holder = b.holder ∙ a.holder }

ready_adds : (w : World) (l : Lun) (fail : Failures) (came : Bool) (a : After) → Some (after_item w (Rdy l.ce l.lun fail) ToReady came) ≡ Some a → AddsNoCycle w a.world
ready_adds w l fail true a h = subst (λ (b : After). AddsNoCycle w b.world) (some_same (after_item w (Rdy l.ce l.lun fail) ToReady true) a h) (record { cycles = refl; slots = refl; holder = refl })
ready_adds w l fail false a h = subst (λ (b : After). AddsNoCycle w b.world) (some_same (after_item w (Rdy l.ce l.lun fail) ToReady false) a h) (record { cycles = refl; slots = refl; holder = refl })

array_adds : (w : World) (l : Lun) (fail came : Bool) (a : After) → Some (after_item w (Ard l.ce l.lun fail) ToArrayReady came) ≡ Some a → AddsNoCycle w a.world
array_adds w l fail true a h = subst (λ (b : After). AddsNoCycle w b.world) (some_same (after_item w (Ard l.ce l.lun fail) ToArrayReady true) a h) (record { cycles = refl; slots = refl; holder = refl })
array_adds w l fail false a h = subst (λ (b : After). AddsNoCycle w b.world) (some_same (after_item w (Ard l.ce l.lun fail) ToArrayReady false) a h) (record { cycles = refl; slots = refl; holder = refl })

one_adds : (s : Channel) (w : World) (e : LiveEvent) (a : After) → is_ready e ≡ true → after_live s w e ≡ Some a → AddsNoCycle w a.world
one_adds s w (Load l j) a ready h = cc
one_adds s w (Step l bytes) a ready h = cc
one_adds s w (Unload l) a ready h = cc
one_adds s w (Ready l fail) a ready h = ready_adds w l fail (is_permitted s.geometry s.targets w.past (Rdy l.ce l.lun fail)) a h
one_adds s w (ArrayReady l fail) a ready h = array_adds w l fail (is_permitted s.geometry s.targets w.past (Ard l.ce l.lun fail)) a h

one_is_lawful : (s : Channel) (w : World) (e : LiveEvent) (a : After) → IsChannel s → LawfulWorld s w → is_ready e ≡ true → after_live s w e ≡ Some a → LawfulWorld s a.world
one_is_lawful s w (Load l j) a channel law ready h = cc
one_is_lawful s w (Step l bytes) a channel law ready h = cc
one_is_lawful s w (Unload l) a channel law ready h = cc
one_is_lawful s w (Ready l fail) a channel law ready h =
    let g = live_events_go_well s w (Ready l fail) channel law tt tt in
    subst (λ (b : After). LawfulWorld s b.world) (some_same g.then a (sym g.is_then ∙ h)) g.lawful
one_is_lawful s w (ArrayReady l fail) a channel law ready h =
    let g = live_events_go_well s w (ArrayReady l fail) channel law tt tt in
    subst (λ (b : After). LawfulWorld s b.world) (some_same g.then a (sym g.is_then ∙ h)) g.lawful

-- readies and then a step
record ThenStep (s : Channel) (w : World) (l : Lun) (bytes : List ℕ) (ran : Ran) : Type 0 where
  middle : World
  adds : AddsNoCycle w middle
  law : LawfulWorld s middle
  a : After
  is_a : after_live s middle (Step l bytes) ≡ Some a
  world : a.world ≡ ran.world

then_step : (s : Channel) (l : Lun) (bytes : List ℕ) (es : List LiveEvent) (w : World) (ran : Ran) → IsChannel s → LawfulWorld s w → list_all is_ready es ≡ true → run_live s (es ++ (Step l bytes ∷ [])) w ≡ Some ran → ThenStep s w l bytes ran
then_step s l bytes [] w ran channel law ready h =
    let r = rest_of s (Step l bytes) [] w ran h in
    record {
      middle = w;
      adds = record { cycles = refl; slots = refl; holder = refl };
      law = law;
      a = r.a;
      is_a = r.is_a;
      world = ap (λ (q : Ran). q.world) (some_same (record { world = r.a.world; replies = [] }) r.rest r.is_rest) ∙ ap (λ (q : Ran). q.world) r.whole;
    }
then_step s l bytes (e ∷ es) w ran channel law ready h =
    let r = rest_of s e (es ++ (Step l bytes ∷ [])) w ran h in
    let both = and_parts (is_ready e) (list_all is_ready es) ready in
    let rest = then_step s l bytes es r.a.world r.rest channel (one_is_lawful s w e r.a channel law both.0 r.is_a) both.1 r.is_rest in
    record {
      middle = rest.middle;
      adds = no_cycle_more w r.a.world rest.middle (one_adds s w e r.a both.0 r.is_a) rest.adds;
      law = rest.law;
      a = rest.a;
      is_a = rest.is_a;
      world = rest.world ∙ ap (λ (q : Ran). q.world) r.whole;
    }

-- 6. what a word brings

has_fit : (v : LiveView) (l : Lun) (p : Progress) (bursts : List Burst) (buffer : List ℕ) → live_slot v l ≡ Some p → HasBuffer (live_slot v l) buffer → buffer ≡ p.job.buffer
has_fit v l p bursts buffer slot b = b.is_buffer ∙ ap (λ (q : Progress). q.job.buffer) (some_same b.v p (sym b.is_slot ∙ slot))

pub word_brings : (v : LiveView) (l : Lun) (y : Word) (bytes : List ℕ) (bursts : List Burst) (p : Progress) → IsLive v → MayStep v l → live_slot v l ≡ Some p → IsNextWord v l y → EndsWithFive y → AreNextBursts v l bursts → Bring v (shown l y bytes ++ (Step l bytes ∷ [])) (with_word l.ce p.job.buffer bursts bytes [])
word_brings v l y bytes bursts p k may slot next range listed w ran at law is =
    let r = then_step (channel_at v) l bytes (shown l y bytes) w ran k.is_channel law (shown_are_ready l y bytes) is in
    let here : IsAt (core_at v r.middle.past) r.middle = record { past = refl; holder = at.at.holder ∙ sym r.adds.holder; slots = subst (λ (xs : List (Option Slot)). KeepsAll xs v.slots) (sym r.adds.slots) at.at.slots } in
    let c = step_comes v l y bytes bursts r.middle r.a k.is_channel may next range listed here r.law r.is_a in
    let same : c.p ≡ p = some_same c.p p (sym c.slot ∙ slot) in
    ap (λ (x : World). cycles_in x.past) (sym r.world)
    ∙ (ap cycles_in c.past
    ∙ (word_in l.ce c.p.job.buffer bursts bytes r.middle.past
    ∙ (ap (with_word l.ce c.p.job.buffer bursts bytes) r.adds.cycles
    ∙ (ap (λ (q : Progress). with_word l.ce q.job.buffer bursts bytes (cycles_in w.past)) same
    ∙ word_behind l.ce p.job.buffer bursts bytes (cycles_in w.past)))))

-- its bursts are of its buffer
pub word_fits : (v : LiveView) (l : Lun) (y : Word) (bursts : List Burst) (p : Progress) → IsLive v → MayStep v l → live_slot v l ≡ Some p → IsNextWord v l y → EndsWithFive y → AreNextBursts v l bursts → AllFit (length p.job.buffer) bursts
word_fits v l y bursts p k may slot next range listed =
    let c = can_step (core_at v k.world.past) l p (record { is_channel = k.is_channel; world = k.world; is_at = k.is_at.at; lawful = k.lawful }) slot running may.free in
    let word_is : y ≡ c.0.word = some_same y c.0.word (sym next.here ∙ (ap (λ (q : Progress). slice_get q.job.text.words q.at) (some_same next.v p (sym next.is_slot ∙ slot)) ∙ c.0.here)) in
    let same : listed.v ≡ p = some_same listed.v p (sym listed.is_slot ∙ slot) in
    let listed_word : listed.word ≡ c.0.word = some_same listed.word c.0.word (sym listed.here ∙ (ap (λ (q : Progress). slice_get q.job.text.words q.at) same ∙ c.0.here)) in
    (bursts_are_moves v.state.geometry p.job.lun p.job.buffer p.registers c.0.word c.0.can.moved bursts (subst EndsWithFive word_is range) c.0.can.inside c.0.can.is_moved
    (ap (bursts_at v.state.geometry p.job.lun p.registers) (sym listed_word) ∙ (ap (λ (q : Progress). bursts_at v.state.geometry q.job.lun q.registers listed.word) (sym same) ∙ listed.are_bursts))).fit
  where
    running : p.code ≡ None
    running = let x = has_code (live_slot v l) None may.running in sym (ap (λ (q : Progress). q.code) (some_same x.v p (sym x.is ∙ slot))) ∙ x.code_is

-- pins on which a word was done
pub word_has_come : (v : LiveView) (l : Lun) (y : Word) (bytes : List ℕ) (bursts : List Burst) (before after : Option (List Item)) → IsLive v → MayStep v l → IsNextWord v l y → EndsWithFive y → AreNextBursts v l bursts
    → ((buffer : List ℕ) → HasBuffer (live_slot v l) buffer → AllFit (length buffer) bursts → Grows (with_word l.ce buffer bursts bytes) before after) → HasCome v (shown l y bytes ++ (Step l bytes ∷ [])) before after
word_has_come v l y bytes bursts before after k may next range listed done =
    record {
      came = with_word l.ce p.job.buffer bursts bytes [];
      bring = word_brings v l y bytes bursts p k may slot next range listed;
      on_pins = grows_by (with_word l.ce p.job.buffer bursts bytes) (λ past. with_word l.ce p.job.buffer bursts bytes [] ++ past) before after (word_behind l.ce p.job.buffer bursts bytes)
          (done p.job.buffer (record { v = p; is_slot = slot; is_buffer = refl }) (word_fits v l y bursts p k may slot next range listed));
    }
  where
    p : Progress
    p = (has_code (live_slot v l) None may.running).v

    slot : live_slot v l ≡ Some p
    slot = (has_code (live_slot v l) None may.running).is

-- 7. what brings nothing

nothing_came : (o : Option (List Item)) → HaveCome [] o o
nothing_came o = grows_not (λ past. [] ++ past) o (λ past. refl)

pub none_come : (v : LiveView) (o : Option (List Item)) → HasCome v [] o o
none_come v o = record { came = []; bring = λ w ran at law is. ap (λ (r : Ran). cycles_in r.world.past) (sym (some_same (record { world = w; replies = [] }) ran is)); on_pins = nothing_came o }

one_world : (s : Channel) (w : World) (e : LiveEvent) (ran : Ran) → run_live s (e ∷ []) w ≡ Some ran → (a : After) × (after_live s w e ≡ Some a) × (ran.world ≡ a.world)
one_world s w e ran h =
    let r = rest_of s e [] w ran h in
    (r.a, r.is_a, sym (ap (λ (q : Ran). q.world) r.whole) ∙ sym (ap (λ (q : Ran). q.world) (some_same (record { world = r.a.world; replies = [] }) r.rest r.is_rest)))

load_adds : (s : Channel) (w : World) (l : Lun) (j : Job) (o : Option LoadFault) (a : After) → Some (after_load s w l j o) ≡ Some a → a.world.past ≡ w.past
load_adds s w l j None a h = ap (λ (b : After). b.world.past) (sym (some_same (after_load s w l j None) a h))
load_adds s w l j (Some fault) a h = ap (λ (b : After). b.world.past) (sym (some_same (after_load s w l j (Some fault)) a h))

unload_adds : (s : Channel) (w : World) (l : Lun) (o : Option Slot) (a : After) → Some (after_unload s w l o) ≡ Some a → a.world.past ≡ w.past
unload_adds s w l None a h = ap (λ (b : After). b.world.past) (sym (some_same (after_unload s w l None) a h))
unload_adds s w l (Some x) a h = at x.code h
  where
    at : (code : Option ℕ) → Some (after_slot_unload s w l x code) ≡ Some a → a.world.past ≡ w.past
    at None e = ap (λ (b : After). b.world.past) (sym (some_same (after_slot_unload s w l x None) a e))
    at (Some code) e = ap (λ (b : After). b.world.past) (sym (some_same (after_slot_unload s w l x (Some code)) a e))

still_past : (s : Channel) (w : World) (e : LiveEvent) (a : After) → is_quiet e ≡ false → after_live s w e ≡ Some a → a.world.past ≡ w.past
still_past s w (Load l j) a loud h = load_adds s w l j (load_fault s w l j) a h
still_past s w (Unload l) a loud h = unload_adds s w l (slot_of s w l) a h
still_past s w (Step l bytes) a loud h = cc
still_past s w (Ready l fail) a loud h = cc
still_past s w (ArrayReady l fail) a loud h = cc

-- a load and an unload bring nothing
pub loud_come : (v : LiveView) (e : LiveEvent) (o : Option (List Item)) → is_quiet e ≡ false → HasCome v (e ∷ []) o o
loud_come v e o loud =
    record {
      came = [];
      bring = λ w ran at law is. let r = one_world (channel_at v) w e ran is in ap (λ (x : World). cycles_in x.past) r.2 ∙ ap cycles_in (still_past (channel_at v) w e r.0 loud r.1);
      on_pins = nothing_came o;
    }

pub loud_shows : (v : LiveView) (e : LiveEvent) → is_quiet e ≡ false → ShowReadies v (e ∷ [])
loud_shows v (Load l j) loud w at law = (refl, λ a is. refl)
loud_shows v (Unload l) loud w at law = (refl, λ a is. refl)
loud_shows v (Step l bytes) loud w at law = cc
loud_shows v (Ready l fail) loud w at law = cc
loud_shows v (ArrayReady l fail) loud w at law = cc

-- 8. one after another

came_more : (o p q : Option (List Item)) (came more : List Item) → HaveCome came o p → HaveCome more p q → HaveCome (more ++ came) o q
came_more o p q came more first then =
    grows_by (λ past. more ++ (came ++ past)) (λ past. (more ++ came) ++ past) o q (λ past. sym (append_assoc more came past)) (grows_then (λ past. came ++ past) (λ past. more ++ past) o p q first then)

pub come_more : (v u t : LiveView) (es fs : List LiveEvent) (rs ss : List Reply) (o p q : Option (List Item)) → IsLiveRun v es rs u → IsLiveRun u fs ss t → HasCome v es o p → HasCome u fs p q → HasCome v (es ++ fs) o q
come_more v u t es fs rs ss o p q one other first second =
    record {
      came = second.came ++ first.came;
      bring = λ w ran at law is.
          let i = in_two v u t es fs rs ss w ran one other at law is in
          ap (λ (x : World). cycles_in x.past) (sym i.world) ∙ (second.bring i.first.world i.second i.at i.law i.is_second ∙ (ap (λ (xs : List Item). second.came ++ xs) (first.bring w i.first at law i.is_first) ∙ sym (append_assoc second.came first.came (cycles_in w.past))));
      on_pins = came_more o p q first.came second.came first.on_pins second.on_pins;
    }

run_first : (s : Channel) (w : World) (e : LiveEvent) (es : List LiveEvent) (a : After) (ran : Ran) → after_live s w e ≡ Some a → run_live s es a.world ≡ Some ran → run_live s (e ∷ es) w ≡ Some (record { world = ran.world; replies = a.reply ∷ ran.replies })
run_first s w e es a ran is more = ap (λ (o : Option After). and_then o (λ b. with_first b (run_live s es b.world))) is ∙ ap (with_first a) more

-- what follows a run is shown too
abbrev ThenShown : Channel → List LiveEvent → List LiveEvent → World → Type 0
ThenShown s es fs w = (ran : Ran) → run_live s es w ≡ Some ran → AreShown s [] fs ran.world

shown_then : (s : Channel) (e : LiveEvent) (es fs : List LiveEvent) (w : World) (a : After) → after_live s w e ≡ Some a → ThenShown s (e ∷ es) fs w → ThenShown s es fs a.world
shown_then s e es fs w a is later ran more = later (record { world = ran.world; replies = a.reply ∷ ran.replies }) (run_first s w e es a ran is more)

shown_more : (s : Channel) (readies es fs : List LiveEvent) (w : World) → AreShown s readies es w → ThenShown s es fs w → AreShown s readies (es ++ fs) w
shown_more s readies [] fs w first later = subst (λ (rs : List LiveEvent). AreShown s rs fs w) (sym first) (later (record { world = w; replies = [] }) refl)
shown_more s readies (Load l j ∷ es) fs w first later = (first.0, λ a is. shown_more s [] es fs a.world (first.1 a is) (shown_then s (Load l j) es fs w a is later))
shown_more s readies (Unload l ∷ es) fs w first later = (first.0, λ a is. shown_more s [] es fs a.world (first.1 a is) (shown_then s (Unload l) es fs w a is later))
shown_more s readies (Ready l fail ∷ es) fs w first later = λ a is. shown_more s (readies ++ (Ready l fail ∷ [])) es fs a.world (first a is) (shown_then s (Ready l fail) es fs w a is later)
shown_more s readies (ArrayReady l fail ∷ es) fs w first later = λ a is. shown_more s (readies ++ (ArrayReady l fail ∷ [])) es fs a.world (first a is) (shown_then s (ArrayReady l fail) es fs w a is later)
shown_more s readies (Step l bytes ∷ es) fs w first later = (first.0, λ a is. shown_more s [] es fs a.world (first.1 a is) (shown_then s (Step l bytes) es fs w a is later))

pub show_more : (v u : LiveView) (es fs : List LiveEvent) (rs : List Reply) → IsLiveRun v es rs u → ShowReadies v es → ShowReadies u fs → ShowReadies v (es ++ fs)
show_more v u es fs rs run first second w at law =
    let r = run w at law in
    shown_more (channel_at v) [] es fs w (first w at law) (λ ran is.
    let same : r.ran ≡ ran = some_same r.ran ran (sym r.is_ran ∙ is) in
    let there : LawfulWorld (channel_at u) r.ran.world = subst (λ (s : Channel). LawfulWorld s r.ran.world) (sym r.channel) r.lawful in
    subst (λ (q : Ran). AreShown (channel_at v) [] fs q.world) same (subst (λ (s : Channel). AreShown s [] fs r.ran.world) r.channel (second r.ran.world r.is_at there)))

pub none_show : (v : LiveView) → ShowReadies v []
none_show v w at law = refl

-- 9. the readies of a step

-- readies and then a step that shows them
ready_then_step : (s : Channel) (l : Lun) (bytes : List ℕ) (rs pending : List LiveEvent) (w : World) → list_all is_ready rs ≡ true → pending ++ rs ≡ shown_in w l bytes (slot_of s w l) → AreShown s pending (rs ++ (Step l bytes ∷ [])) w
ready_then_step s l bytes [] pending w ready is = (sym (append-nil pending) ∙ is, λ a after. refl)
ready_then_step s l bytes (Load m j ∷ rs) pending w ready is = cc
ready_then_step s l bytes (Step m xs ∷ rs) pending w ready is = cc
ready_then_step s l bytes (Unload m ∷ rs) pending w ready is = cc
ready_then_step s l bytes (Ready m fail ∷ rs) pending w ready is =
    λ a after. on (λ u there. ready_then_step s l bytes rs (pending ++ (Ready m fail ∷ [])) u (and_parts true (list_all is_ready rs) ready).1 (append_assoc pending (Ready m fail ∷ []) rs ∙ (is ∙ there))) (is_permitted s.geometry s.targets w.past (Rdy m.ce m.lun fail)) a after
  where
    on : ((u : World) → shown_in w l bytes (slot_of s w l) ≡ shown_in u l bytes (slot_of s u l) → AreShown s (pending ++ (Ready m fail ∷ [])) (rs ++ (Step l bytes ∷ [])) u) → (came : Bool) (a : After) → Some (after_item w (Rdy m.ce m.lun fail) ToReady came) ≡ Some a → AreShown s (pending ++ (Ready m fail ∷ [])) (rs ++ (Step l bytes ∷ [])) a.world
    on rest true a h = subst (λ (b : After). AreShown s (pending ++ (Ready m fail ∷ [])) (rs ++ (Step l bytes ∷ [])) b.world) (some_same (after_item w (Rdy m.ce m.lun fail) ToReady true) a h) (rest (record w { past = Rdy m.ce m.lun fail ∷ w.past }) refl)
    on rest false a h = subst (λ (b : After). AreShown s (pending ++ (Ready m fail ∷ [])) (rs ++ (Step l bytes ∷ [])) b.world) (some_same (after_item w (Rdy m.ce m.lun fail) ToReady false) a h) (rest w refl)
ready_then_step s l bytes (ArrayReady m fail ∷ rs) pending w ready is =
    λ a after. on (λ u there. ready_then_step s l bytes rs (pending ++ (ArrayReady m fail ∷ [])) u (and_parts true (list_all is_ready rs) ready).1 (append_assoc pending (ArrayReady m fail ∷ []) rs ∙ (is ∙ there))) (is_permitted s.geometry s.targets w.past (Ard m.ce m.lun fail)) a after
  where
    on : ((u : World) → shown_in w l bytes (slot_of s w l) ≡ shown_in u l bytes (slot_of s u l) → AreShown s (pending ++ (ArrayReady m fail ∷ [])) (rs ++ (Step l bytes ∷ [])) u) → (came : Bool) (a : After) → Some (after_item w (Ard m.ce m.lun fail) ToArrayReady came) ≡ Some a → AreShown s (pending ++ (ArrayReady m fail ∷ [])) (rs ++ (Step l bytes ∷ [])) a.world
    on rest true a h = subst (λ (b : After). AreShown s (pending ++ (ArrayReady m fail ∷ [])) (rs ++ (Step l bytes ∷ [])) b.world) (some_same (after_item w (Ard m.ce m.lun fail) ToArrayReady true) a h) (rest (record w { past = Ard m.ce m.lun fail ∷ w.past }) refl)
    on rest false a h = subst (λ (b : After). AreShown s (pending ++ (ArrayReady m fail ∷ [])) (rs ++ (Step l bytes ∷ [])) b.world) (some_same (after_item w (Ard m.ce m.lun fail) ToArrayReady false) a h) (rest w refl)

-- of a LUN that may step: those of its next word
next_shown : (v : LiveView) (l : Lun) (y : Word) (bytes : List ℕ) (w : World) → MayStep v l → IsNextWord v l y → IsLiveAt v w → LawfulWorld (channel_at v) w → shown_in w l bytes (slot_of (channel_at v) w l) ≡ shown l y bytes
next_shown v l y bytes w may next at law = ap (shown_in w l bytes) h.is ∙ (ap (shown_slot w l bytes h.x) x_running ∙ (rw free refl ∙ on h.x.ahead refl f.1))
  where
    p : Progress
    p = (has_code (live_slot v l) None may.running).v

    slot : live_slot v l ≡ Some p
    slot = (has_code (live_slot v l) None may.running).is

    h : HasSlot (core_at v w.past) w l p
    h = has_slot (core_at v w.past) w l p at.at slot

    x_running : h.x.code ≡ None
    x_running = sym h.kept.code ∙ (has_code (live_slot v l) None may.running).code_is

    free : is_held w.holder l ≡ false
    free = subst (λ (o : Option Lun). is_held o l ≡ false) at.at.holder may.free

    f : LawfulSlot (channel_at v) w.past (has_bus w.holder l) l h.x × LineIsFine (channel_at v) h.x.job w.past h.x.done h.x.ahead
    f = fine_now (channel_at v) w l h.x law h.is x_running free

    on : (ahead : List Line) → h.x.ahead ≡ ahead → LineIsFine (channel_at v) h.x.job w.past h.x.done ahead → shown_next h.x.ahead l bytes ≡ shown l y bytes
    on [] e fine = absurd fine
    on (line ∷ rest) e fine =
        let first = first_word h.x.job.text.words p.at p.loops line rest (subst (λ (ls : List Line). StandsAt h.x.job.text.words ls p.at p.loops) e h.kept.place) in
        let there : slice_get h.x.job.text.words p.at ≡ Some y = ap (λ (j : Job). slice_get j.text.words p.at) (sym h.kept.job) ∙ (ap (λ (q : Progress). slice_get q.job.text.words q.at) (sym (some_same next.v p (sym next.is_slot ∙ slot))) ∙ next.here) in
        let same : line.word ≡ y = ap (λ (z : Line). z.word) first.is_line ∙ some_same first.word y (sym first.here ∙ there) in
        ap (λ (ls : List Line). shown_next ls l bytes) e ∙ ap (λ (z : Word). shown l z bytes) same

-- a LUN whose program goes on may step where no other has the bus
may_step : (v : LiveView) (w : World) (l : Lun) (x : Slot) → IsLiveAt v w → slot_of (channel_at v) w l ≡ Some x → x.code ≡ None → is_held w.holder l ≡ false → MayStep v l
may_step v w l x at is code free = on (live_slot v l) refl (subst (λ (o : Option Slot). Keeps o (live_slot v l)) is (keeps_lun (core_at v w.past) w l at.at))
  where
    on : (o : Option Progress) → live_slot v l ≡ o → Keeps (Some x) o → MayStep v l
    on None e k = absurd k
    on (Some q) e k = record { running = sym (ap slot_state e ∙ ap state_of (k.code ∙ code)); free = subst (λ (h : Option Lun). is_held h l ≡ false) (sym at.at.holder) free }

-- of one that may not: none
rest_shown : (v : LiveView) (l : Lun) (bytes : List ℕ) (w : World) → (MayStep v l → ⊥) → IsLiveAt v w → shown_in w l bytes (slot_of (channel_at v) w l) ≡ []
rest_shown v l bytes w rest at = on (slot_of (channel_at v) w l) refl
  where
    held : (x : Slot) (b : Bool) → is_held w.holder l ≡ b → slot_of (channel_at v) w l ≡ Some x → x.code ≡ None → cond b [] (shown_next x.ahead l bytes) ≡ []
    held x true e is code = refl
    held x false e is code = absurd (rest (may_step v w l x at is code e))

    coded : (x : Slot) (code : Option ℕ) → slot_of (channel_at v) w l ≡ Some x → x.code ≡ code → shown_slot w l bytes x code ≡ []
    coded x (Some code) is e = refl
    coded x None is e = held x (is_held w.holder l) refl is e

    on : (o : Option Slot) → slot_of (channel_at v) w l ≡ o → shown_in w l bytes o ≡ []
    on None is = refl
    on (Some x) is = coded x x.code is refl

pub word_shows : (v : LiveView) (l : Lun) (y : Word) (bytes : List ℕ) → MayStep v l → IsNextWord v l y → ShowReadies v (shown l y bytes ++ (Step l bytes ∷ []))
word_shows v l y bytes may next w at law = ready_then_step (channel_at v) l bytes (shown l y bytes) [] w (shown_are_ready l y bytes) (sym (next_shown v l y bytes w may next at law))

pub rest_shows : (v : LiveView) (l : Lun) (bytes : List ℕ) → (MayStep v l → ⊥) → ShowReadies v (Step l bytes ∷ [])
rest_shows v l bytes rest w at law = (sym (rest_shown v l bytes w rest at), λ a after. refl)

-- a step of such a LUN changes nothing
rest_past : (v : LiveView) (w : World) (l : Lun) (bytes : List ℕ) (a : After) → (MayStep v l → ⊥) → IsLiveAt v w → after_live (channel_at v) w (Step l bytes) ≡ Some a → a.world.past ≡ w.past
rest_past v w l bytes a rest at is = on (slot_of (channel_at v) w l) refl is
  where
    stood : (answer : Stepped) → stands w answer ≡ Some a → a.world.past ≡ w.past
    stood answer h = ap (λ (b : After). b.world.past) (sym (some_same (record { world = w; reply = ToStep answer }) a h))

    held : (x : Slot) (b : Bool) → is_held w.holder l ≡ b → slot_of (channel_at v) w l ≡ Some x → x.code ≡ None → cond b (stands w Held) (and_then (answered_step v.state.geometry x.job bytes w.past x.ahead x.done) (λ r. Some (after_stride (channel_at v) w l x.job r))) ≡ Some a → a.world.past ≡ w.past
    held x true e is code h = stood Held h
    held x false e is code h = absurd (rest (may_step v w l x at is code e))

    coded : (x : Slot) (code : Option ℕ) → slot_of (channel_at v) w l ≡ Some x → x.code ≡ code → after_slot_answers (channel_at v) w l bytes x code ≡ Some a → a.world.past ≡ w.past
    coded x (Some code) is e h = stood Ended h
    coded x None is e h = held x (is_held w.holder l) refl is e h

    on : (o : Option Slot) → slot_of (channel_at v) w l ≡ o → after_answers (channel_at v) w l bytes o ≡ Some a → a.world.past ≡ w.past
    on None is h = stood Empty h
    on (Some x) is h = coded x x.code is refl h

-- it brings nothing
pub rest_come : (v : LiveView) (l : Lun) (bytes : List ℕ) (o : Option (List Item)) → (MayStep v l → ⊥) → HasCome v (Step l bytes ∷ []) o o
rest_come v l bytes o rest =
    record {
      came = [];
      bring = λ w ran at law is. let r = one_world (channel_at v) w (Step l bytes) ran is in ap (λ (x : World). cycles_in x.past) r.2 ∙ ap cycles_in (rest_past v w l bytes r.0 rest at r.1);
      on_pins = nothing_came o;
    }

-- 10. bursts one after another

-- these bursts are still to be done
pub record AreLeft (buffer : List ℕ) (bursts left : List Burst) (before now : Option (List Item)) : Type 0 where
  pub fit : AllFit (length buffer) left
  pub whole : (later : Option (List Item)) → Grows (with_bursts buffer left) now later → Grows (with_bursts buffer bursts) before later

pub all_left : (buffer : List ℕ) (bursts : List Burst) (before : Option (List Item)) → AllFit (length buffer) bursts → AreLeft buffer bursts bursts before before
all_left buffer bursts before fit = record { fit = fit; whole = λ later h. h }

pub one_less : (buffer : List ℕ) (bursts left behind : List Burst) (b : Burst) (before now next : Option (List Item)) → left ≡ b ∷ behind → AreLeft buffer bursts left before now → (BurstFits (length buffer) b → Grows (with_burst buffer b) now next) → AreLeft buffer bursts behind before next
one_less buffer bursts left behind b before now next is a done =
    let fit : AllFit (length buffer) (b ∷ behind) = subst (AllFit (length buffer)) is a.fit in
    record {
      fit = fit.1;
      whole = λ later h. a.whole later (subst (λ (bs : List Burst). Grows (with_bursts buffer bs) now later) (sym is) (grows_then (with_burst buffer b) (with_bursts buffer behind) now next later (done fit.0) h));
    }

pub none_left_now : (buffer : List ℕ) (bursts left : List Burst) (before now : Option (List Item)) → left ≡ [] → AreLeft buffer bursts left before now → Grows (with_bursts buffer bursts) before now
none_left_now buffer bursts left before now is a = a.whole now (subst (λ (bs : List Burst). Grows (with_bursts buffer bs) now now) (sym is) (grows_not (with_bursts buffer []) now (λ past. refl)))

-- the bytes that are taken come last
pub taken_last : (ce : ℕ) (buffer : List ℕ) (bursts : List Burst) (bytes : List ℕ) (before given after : Option (List Item)) → Grows (with_bursts buffer bursts) before given → Grows (with_bytes ce Dout bytes) given after → Grows (with_word ce buffer bursts bytes) before after
taken_last ce buffer bursts bytes before given after first then = grows_then (with_bursts buffer bursts) (with_bytes ce Dout bytes) before given after first then

-- none are taken
pub none_taken : (ce : ℕ) (bytes : List ℕ) (now : Option (List Item)) → bytes ≡ [] → Grows (with_bytes ce Dout bytes) now now
none_taken ce bytes now is = subst (λ (xs : List ℕ). Grows (with_bytes ce Dout xs) now now) (sym is) (grows_not (with_bytes ce Dout []) now (λ past. refl))

-- 11. one burst

pub command_given : (buffer : List ℕ) (ce byte : ℕ) (b : Burst) (before after : Option (List Item)) → b ≡ Command ce byte → Grows (with_bytes ce Cmd (byte ∷ [])) before after → Grows (with_burst buffer b) before after
command_given buffer ce byte b before after is done = subst (λ (x : Burst). Grows (with_burst buffer x) before after) (sym is) done

pub address_given : (buffer five listed bytes : List ℕ) (ce from count f n : ℕ) (b : Burst) (before after : Option (List Item)) → b ≡ Address ce five from count → BurstFits (length buffer) b → listed ≡ five → length listed ≡ 5 → f ≡ from → n ≡ count → (f + n ≤ length listed → bytes ≡ part f n listed) → Grows (with_bytes ce Adr bytes) before after → Grows (with_burst buffer b) before after
address_given buffer five listed bytes ce from count f n b before after is fit same size at many cut done =
    let inside : from + count ≤ 5 = subst (BurstFits (length buffer)) is fit in
    let bytes_are : bytes ≡ part from count five = cut (omega (arith, inside, size, at, many)) ∙ (ap (λ (k : ℕ). part k n listed) at ∙ (ap (λ (k : ℕ). part from k listed) many ∙ ap (part from count) same)) in
    subst (λ (x : Burst). Grows (with_burst buffer x) before after) (sym is) (subst (λ (xs : List ℕ). Grows (with_bytes ce Adr xs) before after) bytes_are done)

pub input_given : (buffer found bytes : List ℕ) (ce place len : ℕ) (b : Burst) (slot : Option Progress) (before after : Option (List Item)) → b ≡ Input ce place len → BurstFits (length buffer) b → HasBuffer slot buffer → HasBuffer slot found → (place + len ≤ length found → bytes ≡ part place len found) → Grows (with_bytes ce Din bytes) before after → Grows (with_burst buffer b) before after
input_given buffer found bytes ce place len b slot before after is fit has other cut done =
    let same : found ≡ buffer = other.is_buffer ∙ (ap (λ (q : Progress). q.job.buffer) (some_same other.v has.v (sym other.is_slot ∙ has.is_slot)) ∙ sym has.is_buffer) in
    let inside : place + len ≤ length buffer = subst (BurstFits (length buffer)) is fit in
    let bytes_are : bytes ≡ part place len buffer = cut (subst (λ (xs : List ℕ). place + len ≤ length xs) (sym same) inside) ∙ ap (part place len) same in
    subst (λ (x : Burst). Grows (with_burst buffer x) before after) (sym is) (subst (λ (xs : List ℕ). Grows (with_bytes ce Din xs) before after) bytes_are done)

pub output_given : (buffer : List ℕ) (ce len : ℕ) (b : Burst) (before : Option (List Item)) → b ≡ Output ce len → Grows (with_burst buffer b) before before
output_given buffer ce len b before is = subst (λ (x : Burst). Grows (with_burst buffer x) before before) (sym is) (grows_not (with_burst buffer (Output ce len)) before (λ past. refl))

-- where the bursts are those that were done
pub done_for : (v : LiveView) (l : Lun) (listed bursts : List Burst) (bytes : List ℕ) (before after : Option (List Item)) → listed ≡ bursts
    → ((buffer : List ℕ) → HasBuffer (live_slot v l) buffer → AllFit (length buffer) listed → Grows (with_word l.ce buffer listed bytes) before after)
    → (buffer : List ℕ) → HasBuffer (live_slot v l) buffer → AllFit (length buffer) bursts → Grows (with_word l.ce buffer bursts bytes) before after
done_for v l listed bursts bytes before after is done buffer has fit =
    subst (λ (bs : List Burst). Grows (with_word l.ce buffer bs bytes) before after) is (done buffer has (subst (AllFit (length buffer)) (sym is) fit))

-- no more are there
pub is_empty : {A : Type 0} (xs : List A) → length xs ≡ 0 → xs ≡ []
is_empty [] e = refl
is_empty (x ∷ xs) e = cc
