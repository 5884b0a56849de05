-- Each call of a sequencer is an event of the world that it keeps.
use Rattle.std.proofs.Common.{◌≡◌, ℕ, zero, suc, arith, Bool, true, false, cond, List, [], ◌∷◌, Option, Some, None, refl, sym, ap, ◌∙◌, subst, length, get_or, set}
use Rattle.std.specs.List.{slice_get}
use Rattle.nand_geometry.specs.Limits.{InLimits}
use Rattle.onfi_cycle.specs.declared.lun.Lun.{Lun}
use Rattle.onfi_cycle.specs.declared.item.Item.{Item}
use Rattle.onfi_cycle.specs.Channel.{Channel, IsChannel, is_there}
use Rattle.micro_word.specs.declared.word.Word.{Word}
use Rattle.micro_program.specs.Lines.{Line}
use Rattle.micro_program.specs.Program.{Job}
use Rattle.micro_program.specs.Moves.{Move, moves, and_then}
use Rattle.micro_program.specs.Played.{Played, played}
use Rattle.micro_program.specs.Step.{Stride, stride, Outcome, Ended as HasEnded, HandedOver as HasHandedOver, NotReady as WasNotReady, Went as HasGone, keeps_bus, next_step}
use Rattle.seq_core.specs.declared.stepped.Stepped.{Stepped}
use Rattle.seq_core.specs.declared.stepped.Stepped.TheVariants.{Empty, Held, Ended}
use Rattle.seq_core.specs.World.{Slot, World, number, slot_of}
use Rattle.seq_core.specs.Event.{Event, Step, LoadsVerified}
use Rattle.seq_core.specs.Reply.{Reply, ToStep, answer_of}
use Rattle.seq_core.specs.After.{After, after, after_step, after_slot_step, after_stride, is_held, stands}
use Rattle.seq_core.specs.Lawful.{LawfulWorld}
use Rattle.seq_core.specs.Progress.{Progress}
use Rattle.seq_core.specs.Shows.{CoreView, channel_in, KeepsSlot, Keeps, KeepsAll, IsAt}
use Rattle.seq_core.specs.Calls.{Came, IsEvent, slot_at, Steps, holder_after, stepped_view}
use Rattle.seq_core.proofs.Below.{step_parts}
use Rattle.seq_core.proofs.Main.{events_go_well}
use Rattle.seq_core.specs.Loops.{StandsAt}
use Rattle.seq_core.proofs.Standing.{first_word}
use Rattle.seq_core.proofs.Progress.{same_moves, slot_after, GoesOn, goes_on}

-- 1. slots

pub keeps_at : (xs : List (Option Slot)) (vs : List (Option Progress)) (k : ℕ) → KeepsAll xs vs → Keeps (get_or xs k None) (get_or vs k None)
keeps_at [] [] k h = tt
keeps_at [] (v ∷ vs) k h = absurd h
keeps_at (x ∷ xs) [] k h = absurd h
keeps_at (x ∷ xs) (v ∷ vs) zero h = h.0
keeps_at (x ∷ xs) (v ∷ vs) (suc k) h = keeps_at xs vs k h.1

pub keeps_set : (xs : List (Option Slot)) (vs : List (Option Progress)) (k : ℕ) (x : Option Slot) (v : Option Progress) → KeepsAll xs vs → Keeps x v → KeepsAll (set xs k x) (set vs k v)
keeps_set [] [] k x v h here = tt
keeps_set [] (w ∷ vs) k x v h here = absurd h
keeps_set (y ∷ xs) [] k x v h here = absurd h
keeps_set (y ∷ xs) (w ∷ vs) zero x v h here = (here, h.1)
keeps_set (y ∷ xs) (w ∷ vs) (suc k) x v h here = (h.0, keeps_set xs vs k x v h.1 here)

pub keeps_count : (xs : List (Option Slot)) (vs : List (Option Progress)) → KeepsAll xs vs → length xs ≡ length vs
keeps_count [] [] h = refl
keeps_count [] (v ∷ vs) h = absurd h
keeps_count (x ∷ xs) [] h = absurd h
keeps_count (x ∷ xs) (v ∷ vs) h = let rest = keeps_count xs vs h.1 in omega (arith, rest)

-- a LUN's slot is kept
pub keeps_lun : (c : CoreView) (w : World) (l : Lun) → IsAt c w → Keeps (slot_of (channel_in c) w l) (slot_at c l)
keeps_lun c w l at = here (is_there (channel_in c) l)
  where
    here : (b : Bool) → Keeps (cond b (get_or w.slots (number (channel_in c) l) None) None) (cond b (get_or c.slots (number (channel_in c) l) None) None)
    here true = keeps_at w.slots c.slots (number (channel_in c) l) at.slots
    here false = tt

-- 2. calls

pub came : (c : CoreView) (w : World) (e : Event) (reply : Reply) (later : CoreView) → IsChannel (channel_in c) → LawfulWorld (channel_in c) w → LoadsVerified e → channel_in later ≡ channel_in c → ((a : After) → after (channel_in c) w e ≡ Some a → (a.reply ≡ reply) × IsAt later a.world) → Came c w e reply later
came c w e reply later is law v same f =
    let k = events_go_well (channel_in c) w e is law v in
    let g = f k.then k.is_then in
    record { next = k.then; is_next = k.is_then; replied = g.0; is_at = g.1; own = k.own; lawful = k.lawful; channel = same }

-- 3. steps that do nothing

stands_still : (c : CoreView) (w : World) (answer : Stepped) (a : After) → IsAt c w → stands w answer ≡ Some a → (a.reply ≡ ToStep answer) × IsAt c a.world
stands_still c w answer a at e =
    let same : record { world = w; reply = ToStep answer } ≡ a = cc in
    subst (λ (b : After). (b.reply ≡ ToStep answer) × IsAt c b.world) same (refl, at)

-- a LUN without a job
pub empty_step : (c : CoreView) (l : Lun) → IsChannel (channel_in c) → slot_at c l ≡ None → IsEvent c (Step l) (ToStep Empty) c
empty_step c l is none w at law = came c w (Step l) (ToStep Empty) c is law tt refl (λ a e. on (slot_of (channel_in c) w l) (subst (λ (o : Option Progress). Keeps (slot_of (channel_in c) w l) o) none (keeps_lun c w l at)) a e)
  where
    on : (o : Option Slot) → Keeps o None → (a : After) → after_step (channel_in c) w l o ≡ Some a → (a.reply ≡ ToStep Empty) × IsAt c a.world
    on None k a e = stands_still c w Empty a at e
    on (Some x) k a e = absurd k

-- a LUN whose slot is kept so has this slot
pub record HasSlot (c : CoreView) (w : World) (l : Lun) (v : Progress) : Type 0 where
  pub x : Slot
  pub is : slot_of (channel_in c) w l ≡ Some x
  pub kept : KeepsSlot x v

pub has_slot : (c : CoreView) (w : World) (l : Lun) (v : Progress) → IsAt c w → slot_at c l ≡ Some v → HasSlot c w l v
has_slot c w l v at some = on (slot_of (channel_in c) w l) refl (subst (λ (o : Option Progress). Keeps (slot_of (channel_in c) w l) o) some (keeps_lun c w l at))
  where
    on : (o : Option Slot) → slot_of (channel_in c) w l ≡ o → Keeps o (Some v) → HasSlot c w l v
    on None e k = absurd k
    on (Some x) e k = record { x = x; is = e; kept = k }

-- a step whose slot and code are known
pub after_known : (s : Channel) (w : World) (l : Lun) (x : Slot) (code : Option ℕ) (a : After) → slot_of s w l ≡ Some x → x.code ≡ code → after s w (Step l) ≡ Some a → after_slot_step s w l x code ≡ Some a
after_known s w l x code a is running e =
    sym (ap (λ (o : Option Slot). after_step s w l o) is ∙ ap (λ (o : Option ℕ). after_slot_step s w l x o) running) ∙ e

-- a job that has ended
pub ended_step : (c : CoreView) (l : Lun) (v : Progress) (code : ℕ) → IsChannel (channel_in c) → slot_at c l ≡ Some v → v.code ≡ Some code → IsEvent c (Step l) (ToStep Ended) c
ended_step c l v code is some over w at law =
    let h = has_slot c w l v at some in
    came c w (Step l) (ToStep Ended) c is law tt refl (λ a e. stands_still c w Ended a at (after_known (channel_in c) w l h.x (Some code) a h.is (sym h.kept.code ∙ over) e))

-- another LUN has the bus
pub held_step : (c : CoreView) (l : Lun) (v : Progress) → IsChannel (channel_in c) → slot_at c l ≡ Some v → v.code ≡ None → is_held c.holder l ≡ true → IsEvent c (Step l) (ToStep Held) c
held_step c l v is some running held w at law =
    let h = has_slot c w l v at some in
    let taken : is_held w.holder l ≡ true = subst (λ (o : Option Lun). is_held o l ≡ true) at.holder held in
    came c w (Step l) (ToStep Held) c is law tt refl (λ a e.
    let f = after_known (channel_in c) w l h.x None a h.is (sym h.kept.code ∙ running) e in
    let g : stands w Held ≡ Some a = sym (rw taken refl) ∙ f in
    stands_still c w Held a at g)

-- 4. a step of the next word

-- what a step of a slot leaves, by the world and by what is kept
record SameStep (s : Channel) (x : Slot) (r : Stride) (later : List Item) (u : Progress) (answer : Stepped) : Type 0 where
  past : later ≡ r.past
  kept : KeepsSlot (slot_after x r) u
  answered : answer_of r.outcome ≡ answer

pub some_same : {X : Type 0} (x y : X) → Some x ≡ Some y → x ≡ y
some_same x y h = cc

same_step : (s : Channel) (x : Slot) (v : Progress) (past later : List Item) (line : Line) (rest : List Line) (answer : Stepped) (u : Progress) (r : Stride) → KeepsSlot x v → InLimits s.geometry → x.code ≡ None → x.ahead ≡ line ∷ rest → Steps s past v answer later u → next_step s x.job past (line ∷ rest) x.done ≡ Some r → SameStep s x r later u answer
same_step s x v past later line rest answer u r k limits running is st e =
    let f = first_word x.job.text.words v.at v.loops line rest (subst (λ (ls : List Line). StandsAt x.job.text.words ls v.at v.loops) is k.place) in
    let there : slice_get x.job.text.words v.at ≡ Some st.word = ap (λ (j : Job). slice_get j.text.words v.at) (sym k.job) ∙ st.here in
    let word : f.word ≡ st.word = some_same f.word st.word (sym f.here ∙ there) in
    let here : line ≡ record { at = v.at; word = st.word } = f.is_line ∙ ap (λ (w : Word). let y : Line = record { at = v.at; word = w } in y) word in
    let parts = step_parts s x.job past line rest x.done r e in
    let moved : parts.moved ≡ st.moved =
    some_same parts.moved st.moved (sym parts.is_moved ∙ (ap (λ (y : Line). moves s.geometry x.job x.done y.word) here ∙ (same_moves s.geometry limits x v st.word k ∙ st.is_moved))) in
    let p : parts.p ≡ record { past = later; bytes = st.bytes } =
    some_same parts.p (record { past = later; bytes = st.bytes }) (sym parts.is_p ∙ (ap (λ (m : List Move). played s x.job.lun.ce m past) moved ∙ (ap (λ (j : Job). played s j.lun.ce st.moved past) (sym k.job) ∙ st.plays))) in
    let r_is : stride (record { at = v.at; word = st.word }) rest x.done (record { past = later; bytes = st.bytes }) st.word ≡ r =
    sym (ap (λ (y : Line). stride y rest x.done parts.p y.word) here ∙ ap (λ (q : Played). stride (record { at = v.at; word = st.word }) rest x.done q st.word) p) ∙ parts.is_r in
    let ahead : x.ahead ≡ record { at = v.at; word = st.word } ∷ rest = is ∙ ap (λ (y : Line). y ∷ rest) here in
    let goes = goes_on x v st.word rest (record { past = later; bytes = st.bytes }) k running there ahead in
    let g : GoesOn x v st.word (record { past = later; bytes = st.bytes }) r = subst (λ (q : Stride). GoesOn x v st.word (record { past = later; bytes = st.bytes }) q) r_is goes in
    record {
      past = sym g.past;
      kept = subst (λ (q : Progress). KeepsSlot (slot_after x r) q) (sym st.slot_is) g.kept;
      answered = g.answer ∙ sym st.answer_is;
    }

-- who has the bus after it
pub same_holder : (o : Outcome) (l : Lun) → holder_after (answer_of o) l ≡ cond (keeps_bus o) (Some l) None
same_holder HasEnded l = refl
same_holder HasHandedOver l = refl
same_holder WasNotReady l = refl
same_holder HasGone l = refl

pub going_step : (c : CoreView) (l : Lun) (v u : Progress) (past : List Item) (answer : Stepped) → IsChannel (channel_in c) → slot_at c l ≡ Some v → v.code ≡ None → is_held c.holder l ≡ false → v.job.lun ≡ l → Steps (channel_in c) c.past v answer past u → IsEvent c (Step l) (ToStep answer) (stepped_view c l answer past u)
going_step c l v u past answer is some running free mine st w at law =
    came c w (Step l) (ToStep answer) (stepped_view c l answer past u) is law tt refl (λ a e. on a (after_known (channel_in c) w l h.x None a h.is (sym h.kept.code ∙ running) e))
  where
    h : HasSlot c w l v
    h = has_slot c w l v at some

    not_held : is_held w.holder l ≡ false
    not_held = subst (λ (o : Option Lun). is_held o l ≡ false) at.holder free

    here : Steps (channel_in c) w.past v answer past u
    here = subst (λ (t : List Item). Steps (channel_in c) t v answer past u) at.past st

    stepped : (line : Line) (rest : List Line) (r : Stride) (a : After) → h.x.ahead ≡ line ∷ rest → next_step (channel_in c) h.x.job w.past (line ∷ rest) h.x.done ≡ Some r → after_stride (channel_in c) w l h.x.job r ≡ a → (a.reply ≡ ToStep answer) × IsAt (stepped_view c l answer past u) a.world
    stepped line rest r a is_ahead e same =
        let k = same_step (channel_in c) h.x v w.past past line rest answer u r h.kept is.limits (sym h.kept.code ∙ running) is_ahead here e in
        subst (λ (b : After). (b.reply ≡ ToStep answer) × IsAt (stepped_view c l answer past u) b.world) same (
          ap ToStep k.answered,
          record {
            past = k.past;
            holder = ap (λ (o : Stepped). holder_after o l) (sym k.answered) ∙ same_holder r.outcome l;
            slots = keeps_set w.slots c.slots (number (channel_in c) l) (Some (slot_after h.x r)) (Some u) at.slots k.kept;
          },
        )

    strode : (ahead : List Line) (o : Option Stride) (a : After) → h.x.ahead ≡ ahead → next_step (channel_in c) h.x.job w.past ahead h.x.done ≡ o → and_then o (λ r. Some (after_stride (channel_in c) w l h.x.job r)) ≡ Some a → (a.reply ≡ ToStep answer) × IsAt (stepped_view c l answer past u) a.world
    strode [] o a is_ahead e f = let never : None ≡ o = e in let none : and_then {A = Stride} None (λ r. Some (after_stride (channel_in c) w l h.x.job r)) ≡ Some a = ap (λ (q : Option Stride). and_then q (λ r. Some (after_stride (channel_in c) w l h.x.job r))) never ∙ f in cc
    strode (line ∷ rest) None a is_ahead e f = cc
    strode (line ∷ rest) (Some r) a is_ahead e f = stepped line rest r a is_ahead e (some_same (after_stride (channel_in c) w l h.x.job r) a f)

    on : (a : After) → after_slot_step (channel_in c) w l h.x None ≡ Some a → (a.reply ≡ ToStep answer) × IsAt (stepped_view c l answer past u) a.world
    on a e = strode h.x.ahead (next_step (channel_in c) h.x.job w.past h.x.ahead h.x.done) a refl refl (sym (rw not_held refl) ∙ e)
