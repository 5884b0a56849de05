-- A program that runs alone ends: each turn brings it to a later line, or makes its LUN ready.
use Rattle.std.proofs.Common.{◌≡◌, ℕ, zero, suc, ◌+◌, ◌*◌, ◌≤◌, ◌==◌, Bool, true, false, cond, leb, List, [], ◌∷◌, Option, Some, None, refl, sym, ap, ◌∙◌, subst, arith, length}
use Rattle.std.proofs.lemmas.Bool.Decides.{nat_tests}
use Rattle.nand_geometry.specs.declared.parts.Parts.{Parts}
use Rattle.onfi_cycle.specs.declared.item.Failures.{Failures}
use Rattle.onfi_cycle.specs.LunView.{LunView}
use Rattle.onfi_cycle.specs.declared.lun.Lun.{Lun}
use Rattle.onfi_cycle.specs.declared.item.Item.{Item}
use Rattle.onfi_cycle.specs.declared.item.Item.TheVariants.{Rdy}
use Rattle.onfi_cycle.specs.Lun.{is_busy}
use Rattle.onfi_cycle.specs.Rules.{breaks_not_there}
use Rattle.onfi_cycle.specs.Permitted.{is_permitted}
use Rattle.onfi_cycle.specs.Channel.{Channel, IsChannel, is_there}
use Rattle.micro_word.specs.declared.word.Word.{Word}
use Rattle.micro_word.specs.declared.word.Word.TheVariants.{End, Wait, Yield, BranchOnStatus, Jump}
use Rattle.micro_program.specs.Lines.{Line, from_place}
use Rattle.micro_program.specs.Program.{Done, is_ready_status, status_now, meets}
use Rattle.micro_program.specs.Moves.{and_then}
use Rattle.micro_program.specs.Played.{Played}
use Rattle.micro_program.specs.Step.{Stride, Outcome, Ended as HasEnded, HandedOver as HasHandedOver, NotReady as WasNotReady, Went as HasGone, stride, waited, first_byte, keeps_bus, next_step}
use Rattle.micro_program.specs.Safe.{WordIsFine, LineIsFine}
use Rattle.seq_core.specs.World.{Slot, World, slot_of}
use Rattle.seq_core.specs.Event.{Step, Ready}
use Rattle.seq_core.specs.Reply.{ToStep, ToReady, answer_of}
use Rattle.seq_core.specs.After.{After, after, after_stride, after_slot_step, is_held}
use Rattle.seq_core.specs.Lawful.{LawfulSlot, LawfulWorld, has_bus}
use Rattle.seq_core.specs.Headline.{EventGoesWell}
use Rattle.seq_core.specs.Alone.{alone_on, alone_behind, HasEndedAlone, AloneProgramsEnd, no_failures}
use Rattle.seq_core.specs.Live.{ReadiesMakeTruth}
use Rattle.seq_core.proofs.Below.{step_parts, unready_busy, readies_leave, view_at, there_lun}
use Rattle.seq_core.proofs.Slots.{there_ce, same_lun_self, there_of_slot, slot_same}
use Rattle.seq_core.proofs.Main.{events_go_well}
use Rattle.seq_core.proofs.Calls.{some_same, after_known}
use Rattle.seq_core.proofs.Progress.{slot_after}
use Rattle.seq_core.proofs.Replies.{fine_now}

-- 1. what a stride leaves of the lines to come

pub shorter : (target : ℕ) (lines : List Line) → length (from_place target lines) ≤ length lines
shorter target [] = omega arith
shorter target (line ∷ lines) = at (line.at == target) (shorter target lines)
  where
    at : (b : Bool) → length (from_place target lines) ≤ length lines → length (cond b (line ∷ lines) (from_place target lines)) ≤ length (line ∷ lines)
    at true h = omega arith
    at false h = omega (arith, h)

-- by the outcome: a program that ended has its code; one that wasn't ready is at the same line; else it is at a later one
abbrev StrideLeaves : Outcome → Line → List Line → Stride → Type 0
StrideLeaves HasEnded line rest r = (code : ℕ) × (r.code ≡ Some code)
StrideLeaves WasNotReady line rest r = (r.code ≡ None) × (r.ahead ≡ line ∷ rest)
StrideLeaves _ line rest r = (r.code ≡ None) × (length r.ahead ≤ length rest)

abbrev no_code : Option ℕ
no_code = None

stride_leaves : (line : Line) (rest : List Line) (done : List Done) (p : Played) (word : Word) → StrideLeaves (stride line rest done p word).outcome line rest (stride line rest done p word)
stride_leaves line rest done p (End code) = (code, refl)
stride_leaves line rest done p Yield = (refl, omega arith)
stride_leaves line rest done p Wait = at (is_ready_status (first_byte p.bytes)) refl
  where
    at : (b : Bool) → is_ready_status (first_byte p.bytes) ≡ b → StrideLeaves (waited p line rest done (first_byte p.bytes)).outcome line rest (waited p line rest done (first_byte p.bytes))
    at true e = rw e (refl, omega arith)
    at false e = rw e (refl, refl)
stride_leaves line rest done p (BranchOnStatus mask target) = at (meets mask (status_now done))
  where
    at : (b : Bool) → (no_code ≡ None) × (length (cond b (from_place target rest) rest) ≤ length rest)
    at true = (refl, shorter target rest)
    at false = (refl, omega arith)
stride_leaves line rest done p (Jump target) = (refl, shorter target rest)
stride_leaves line rest done p _ = (refl, omega arith)

-- 2. a busy LUN becomes ready

pub busy_is_permitted : (s : Channel) (past : List Item) (l : Lun) (fail : Failures) → is_there s l ≡ true → is_busy s.geometry past l ≡ true → is_permitted s.geometry s.targets past (Rdy l.ce l.lun fail) ≡ true
unfolding breaks_not_there
busy_is_permitted s past l fail there busy =
    let target : leb s.targets l.ce ≡ false = let b = there_ce s l there in grind (arith, nat_tests) in
    rw (target, view_at s.geometry past l (there_lun s l there), busy) refl

pub ready_at : (g : Parts) (past : List Item) (l : Lun) (fail : Failures) → is_busy g (Rdy l.ce l.lun fail ∷ past) l ≡ false
ready_at g past l fail = ap (λ (v : LunView). v.busy) (readies_leave.own g past l fail)

-- 3. turns

abbrev busy_weight : Bool → ℕ
busy_weight true = 1
busy_weight false = 0

-- two turns for each line to come, and one for a busy LUN
abbrev weight : Channel → List Item → Lun → List Line → ℕ
weight s past l ahead = 2 * length ahead + busy_weight (is_busy s.geometry past l)

-- a slot that may step
pub record MayStep (s : Channel) (w : World) (l : Lun) (x : Slot) : Type 0 where
  lawful : LawfulWorld s w
  is : slot_of s w l ≡ Some x
  running : x.code ≡ None
  free : is_held w.holder l ≡ false

-- a step of it
pub record Turn (s : Channel) (w : World) (l : Lun) (x : Slot) : Type 0 where
  line : Line
  rest : List Line
  is_ahead : x.ahead ≡ line ∷ rest
  r : Stride
  is_after : after s w (Step l) ≡ Some (after_stride s w l x.job r)
  lawful : LawfulWorld s (after_stride s w l x.job r).world
  leaves : StrideLeaves r.outcome line rest r
  unready : r.outcome ≡ WasNotReady → (is_busy s.geometry w.past l ≡ true) × (is_busy s.geometry r.past l ≡ true)

pub turn : (s : Channel) → IsChannel s → (w : World) (l : Lun) (x : Slot) → MayStep s w l x → Turn s w l x
turn s is w l x may = at x.ahead refl f.1
  where
    f : LawfulSlot s w.past (has_bus w.holder l) l x × LineIsFine s x.job w.past x.done x.ahead
    f = fine_now s w l x may.lawful may.is may.running may.free

    k : EventGoesWell s w (Step l)
    k = events_go_well s w (Step l) is may.lawful tt

    there : is_there s x.job.lun ≡ true
    there = subst (λ (m : Lun). is_there s m ≡ true) (sym f.0.lun) (there_of_slot s w l x may.is)

    strode : (line : Line) (rest : List Line) (o : Option Stride) → x.ahead ≡ line ∷ rest → WordIsFine s x.job w.past x.done line.word → next_step s x.job w.past (line ∷ rest) x.done ≡ o → and_then o (λ r. Some (after_stride s w l x.job r)) ≡ Some k.then → Turn s w l x
    strode line rest None e fine is_o h = cc
    strode line rest (Some r) e fine is_r h =
        let same : after_stride s w l x.job r ≡ k.then = some_same (after_stride s w l x.job r) k.then h in
        let parts = step_parts s x.job w.past line rest x.done r is_r in
        record {
          line = line;
          rest = rest;
          is_ahead = e;
          r = r;
          is_after = k.is_then ∙ ap (λ (a : After). Some a) (sym same);
          lawful = subst (λ (a : After). LawfulWorld s a.world) (sym same) k.lawful;
          leaves = subst (λ (q : Stride). StrideLeaves q.outcome line rest q) parts.is_r (stride_leaves line rest x.done parts.p line.word);
          unready = λ u. subst (λ (m : Lun). (is_busy s.geometry w.past m ≡ true) × (is_busy s.geometry r.past m ≡ true)) f.0.lun (unready_busy s is x.job w.past line rest x.done r there fine is_r u);
        }

    at : (ahead : List Line) → x.ahead ≡ ahead → LineIsFine s x.job w.past x.done ahead → Turn s w l x
    at [] e fine = absurd fine
    at (line ∷ rest) e fine =
        let g : after_slot_step s w l x None ≡ Some k.then = after_known s w l x None k.then may.is may.running k.is_then in
        let here : and_then (next_step s x.job w.past x.ahead x.done) (λ r. Some (after_stride s w l x.job r)) ≡ Some k.then = sym (rw may.free refl) ∙ g in
        strode line rest (next_step s x.job w.past (line ∷ rest) x.done) e fine refl (ap (λ (ls : List Line). and_then (next_step s x.job w.past ls x.done) (λ r. Some (after_stride s w l x.job r))) (sym e) ∙ here)

-- 4. turn after turn

slot_left : (s : Channel) (w : World) (l : Lun) (x : Slot) (r : Stride) → LawfulWorld s w → slot_of s w l ≡ Some x → slot_of s (after_stride s w l x.job r).world l ≡ Some (slot_after x r)
slot_left s w l x r law is = slot_same s r.past w.slots (cond (keeps_bus r.outcome) (Some l) None) l (Some (slot_after x r)) (there_of_slot s w l x is) law.size

not_held : (b : Bool) (l : Lun) → is_held (cond b (Some l) None) l ≡ false
not_held true l = rw (same_lun_self l) refl
not_held false l = refl

light : (b : Bool) → busy_weight b ≤ 1
light true = omega arith
light false = omega arith

ends : (s : Channel) → IsChannel s → (turns : ℕ) (w : World) (l : Lun) (x : Slot) → MayStep s w l x → weight s w.past l x.ahead ≤ turns → HasEndedAlone s l turns w
ends s is zero w l x may few =
    let t = turn s is w l x may in
    let more : 2 * length (t.line ∷ t.rest) + busy_weight (is_busy s.geometry w.past l) ≤ 0 = subst (λ (ls : List Line). weight s w.past l ls ≤ 0) t.is_ahead few in
    absurd (omega (arith, more))
ends s is (suc turns) w l x may few = at t.r.outcome refl t.leaves (ends s is turns)
  where
    t : Turn s w l x
    t = turn s is w l x may

    few_now : 2 * length (t.line ∷ t.rest) + busy_weight (is_busy s.geometry w.past l) ≤ suc turns
    few_now = subst (λ (ls : List Line). weight s w.past l ls ≤ suc turns) t.is_ahead few

    w1 : World
    w1 = (after_stride s w l x.job t.r).world

    x1 : Slot
    x1 = slot_after x t.r

    is_slot : slot_of s w1 l ≡ Some x1
    is_slot = slot_left s w l x t.r may.lawful may.is

    Again : Type 0
    Again = (v : World) (m : Lun) (y : Slot) → MayStep s v m y → weight s v.past m y.ahead ≤ turns → HasEndedAlone s m turns v

    -- the turns of what follows
    behind : (o : Outcome) → t.r.outcome ≡ o → alone_on s l (suc turns) w ≡ alone_behind s l (alone_on s l turns) w1 (ToStep (answer_of o))
    behind o e = rw t.is_after (ap (λ (p : Outcome). alone_behind s l (alone_on s l turns) w1 (ToStep (answer_of p))) e)

    goes_on : (o : Outcome) → t.r.outcome ≡ o → ((v : World) → alone_behind s l (alone_on s l turns) v (ToStep (answer_of o)) ≡ alone_on s l turns v) → (t.r.code ≡ None) × (length t.r.ahead ≤ length t.rest) → Again → HasEndedAlone s l (suc turns) w
    goes_on o e same h again =
        let low : 2 * length t.r.ahead + busy_weight (is_busy s.geometry t.r.past l) ≤ turns = omega (arith, few_now, h.1, light (is_busy s.geometry t.r.past l)) in
        let k = again w1 l x1 (record { lawful = t.lawful; is = is_slot; running = h.0; free = not_held (keeps_bus t.r.outcome) l }) low in
        record { end = k.end; is_end = behind o e ∙ (same w1 ∙ k.is_end); lawful = k.lawful; slot = k.slot; is_slot = k.is_slot; code = k.code; is_code = k.is_code }

    at : (o : Outcome) → t.r.outcome ≡ o → StrideLeaves o t.line t.rest t.r → Again → HasEndedAlone s l (suc turns) w
    at HasEnded e h again = record { end = w1; is_end = behind HasEnded e; lawful = t.lawful; slot = x1; is_slot = is_slot; code = h.0; is_code = h.1 }
    at HasHandedOver e h again = goes_on HasHandedOver e (λ v. refl) h again
    at HasGone e h again = goes_on HasGone e (λ v. refl) h again
    at WasNotReady e h again =
        let busy = t.unready e in
        let i : Item = Rdy l.ce l.lun no_failures in
        let permitted = busy_is_permitted s w1.past l no_failures (there_of_slot s w l x may.is) busy.1 in
        let w2 : World = record { past = i ∷ w1.past; slots = w1.slots; holder = w1.holder } in
        let k = events_go_well s w1 (Ready l no_failures) is t.lawful tt in
        let came : after s w1 (Ready l no_failures) ≡ Some (record { world = w2; reply = ToReady true }) = rw permitted refl in
        let same : k.then ≡ record { world = w2; reply = ToReady true } = some_same k.then (record { world = w2; reply = ToReady true }) (sym k.is_then ∙ came) in
        let law : LawfulWorld s w2 = subst (λ (a : After). LawfulWorld s a.world) same k.lawful in
        let low : weight s w2.past l x1.ahead ≤ turns =
        subst (λ (ls : List Line). weight s w2.past l ls ≤ turns) (sym h.1)
        (subst (λ (b : Bool). 2 * length (t.line ∷ t.rest) + busy_weight b ≤ turns) (sym (ready_at s.geometry w1.past l no_failures))
        (let was : 2 * length (t.line ∷ t.rest) + 1 ≤ suc turns = subst (λ (b : Bool). 2 * length (t.line ∷ t.rest) + busy_weight b ≤ suc turns) busy.0 few_now in omega (arith, was))) in
        let m = again w2 l x1 (record { lawful = law; is = is_slot; running = h.0; free = not_held (keeps_bus t.r.outcome) l }) low in
        record { end = m.end; is_end = behind WasNotReady e ∙ (ap (λ (o : Option After). and_then o (λ a. alone_on s l turns a.world)) came ∙ m.is_end); lawful = m.lawful; slot = m.slot; is_slot = m.is_slot; code = m.code; is_code = m.is_code }

pub alone_programs_end : AloneProgramsEnd
alone_programs_end s is w l x turns law slot running free few =
    let low : weight s w.past l x.ahead ≤ turns = omega (arith, few, light (is_busy s.geometry w.past l)) in
    ends s is turns w l x (record { lawful = law; is = slot; running = running; free = free }) low

-- a ready makes an answer truthful that says so of a busy LUN
pub readies_make_truth : ReadiesMakeTruth
readies_make_truth s past l fail there busy = (busy_is_permitted s past l fail there busy, ready_at s.geometry past l fail)
