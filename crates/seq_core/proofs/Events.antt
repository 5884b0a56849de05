-- A step keeps the world lawful, and so does a ready.
use Rattle.std.proofs.Common.{◌≡◌, ◌≢◌, ℕ, ◌==◌, Bool, true, false, ◌||◌, cond, not, List, [], ◌∷◌, Option, Some, None, is_none, refl, sym, ap, ◌∙◌, subst, eqb-true, eq-eqb, length-set}
use Rattle.std.proofs.lemmas.Bool.{not-false}
use Rattle.onfi_cycle.specs.declared.lun.Lun.{Lun}
use Rattle.onfi_cycle.specs.declared.item.Item.{Item}
use Rattle.onfi_cycle.specs.declared.target_cycle.TargetCycle.{TargetCycle}
use Rattle.onfi_cycle.specs.declared.forbidden.Forbidden.{Forbidden}
use Rattle.onfi_cycle.specs.Sequence.{facts_of, is_open}
use Rattle.onfi_cycle.specs.Permitted.{broken, is_permitted}
use Rattle.onfi_cycle.specs.Channel.{Channel, IsChannel, is_there, is_open_on, same_lun, is_cycle}
use Rattle.micro_program.specs.Lines.{Line}
use Rattle.micro_program.specs.Program.{Job, Done}
use Rattle.micro_program.specs.Moves.{and_then, outputs}
use Rattle.micro_program.specs.Step.{Stride, keeps_bus, answered_step, next_step}
use Rattle.micro_program.specs.Safe.{Seat, Reaches, steps, readies, StaysFine, IsMade, LineIsFine, AddsOwn, AreTruthful}
use Rattle.micro_program.specs.Laws.{StepGoesWell, TruthfulStep, PassesOthers}
use Rattle.seq_core.specs.declared.stepped.Stepped.{Stepped}
use Rattle.seq_core.specs.declared.stepped.Stepped.TheVariants.{Empty, Held, Ended}
use Rattle.seq_core.specs.World.{Slot, World, slot_of}
use Rattle.seq_core.specs.Reply.{Reply, ToStep}
use Rattle.seq_core.specs.After.{After, is_held, stands, after_stride, after_slot_step, after_step, after_item}
use Rattle.seq_core.specs.Lawful.{IsWithin, DoesItsText, HasSeat, LawfulSlot, LawfulAt, has_bus, has_bus_on, LawfulWorld}
use Rattle.seq_core.specs.Live.{NextTakes, LiveStepsGoWell}
use Rattle.seq_core.proofs.Below.{facts, readies_leave, fine_steps, answered_steps, models_truthful, own_cycles_pass, walk_gives}
use Rattle.seq_core.proofs.Buffers.{step_keeps}
use Rattle.seq_core.proofs.Texts.{ended_text}
use Rattle.seq_core.proofs.Slots.{same_lun_is, same_lun_self, slot_same, slot_other, there_of_slot}

-- what passes the others by keeps the slot of another LUN lawful
seat_kept : (s : Channel) (l : Lun) (before later : List Item) (x : Slot) (code : Option ℕ) → PassesOthers s l before later → same_lun l x.job.lun ≡ false → is_there s x.job.lun ≡ true → HasSeat s before false x code → HasSeat s later false x code
seat_kept s l before later x None passes differs there h = passes.seats x.job x.ahead x.done differs h
seat_kept s l before later x (Some code) passes differs there h = (passes.idle x.job.lun differs there h.0, h.1)

at_kept : (s : Channel) (l m : Lun) (before later : List Item) (slot : Option Slot) → PassesOthers s l before later → same_lun l m ≡ false → is_there s m ≡ true → LawfulAt s before false m slot → LawfulAt s later false m slot
at_kept s l m before later None passes differs there h = (passes.idle m differs there h.0, h.1)
at_kept s l m before later (Some x) passes differs there h =
    let differs_here : same_lun l x.job.lun ≡ false = subst (λ (k : Lun). same_lun l k ≡ false) (sym h.lun) differs in
    let there_here : is_there s x.job.lun ≡ true = subst (λ (k : Lun). is_there s k ≡ true) (sym h.lun) there in
    record { lun = h.lun; made = h.made; safe = h.safe; within = h.within; text = h.text; seat = seat_kept s l before later x x.code passes differs_here there_here h.seat }

-- who may step has the bus or finds it free
free_of_others : (holder : Option Lun) (l m : Lun) → is_held holder l ≡ false → same_lun l m ≡ false → has_bus holder m ≡ false
free_of_others None l m h differs = refl
free_of_others (Some k) l m h differs = subst (λ (x : Lun). same_lun x m ≡ false) (sym (same_lun_is k l (not-false (same_lun k l) h))) differs

free_elsewhere : (holder : Option Lun) (l : Lun) (ce : ℕ) → is_held holder l ≡ false → (l.ce == ce) ≡ false → has_bus_on holder ce ≡ false
free_elsewhere None l ce h differs = refl
free_elsewhere (Some k) l ce h differs = subst (λ (x : Lun). (x.ce == ce) ≡ false) (sym (same_lun_is k l (not-false (same_lun k l) h))) differs

or_right : (a b : Bool) → b ≡ false → (a || not b) ≡ true
or_right true b h = refl
or_right false b h = rw h refl

or_left : (a b : Bool) → a ≡ true → (a || not b) ≡ true
or_left a b h = rw h refl

pub may_step_now : (s : Channel) (w : World) (l : Lun) (holder : Option Lun) → is_held holder l ≡ false → ((ce : ℕ) → has_bus_on holder ce ≡ false → is_open_on w.past ce ≡ false) → (has_bus holder l || not (is_open_on w.past l.ce)) ≡ true
may_step_now s w l None h closed = or_right false (is_open_on w.past l.ce) (closed l.ce refl)
may_step_now s w l (Some k) h closed = or_left (same_lun k l) (is_open_on w.past l.ce) (not-false (same_lun k l) h)

-- the holder after a stride of this LUN
new_bus : (b : Bool) (l : Lun) → has_bus (cond b (Some l) None) l ≡ b
new_bus true l = same_lun_self l
new_bus false l = refl

new_holder : (b : Bool) (l m : Lun) → cond b (Some l) None ≡ Some m → l ≡ m
new_holder true l m h = cc
new_holder false l m h = cc

new_bus_other : (b : Bool) (l m : Lun) → same_lun l m ≡ false → has_bus (cond b (Some l) None) m ≡ false
new_bus_other true l m differs = differs
new_bus_other false l m differs = refl

new_bus_on : (b : Bool) (l : Lun) (ce : ℕ) → (l.ce == ce) ≡ true → has_bus_on (cond b (Some l) None) ce ≡ false → b ≡ false
new_bus_on true l ce here h = cc
new_bus_on false l ce here h = refl

other_target : (n m : ℕ) → (n == m) ≡ false → n ≢ m
other_target n m h e = clash (eq-eqb n m e) h
  where
    clash : (n == m) ≡ true → (n == m) ≡ false → ⊥
    clash a b = cc

-- a step of a job that goes on: it is defined, its own, and keeps the world lawful
pub record Strides (s : Channel) (w : World) (j : Job) (step : Option Stride) : Type 0 where
  pub r : Stride
  pub is_r : step ≡ Some r
  pub own : AddsOwn s j.lun w.past r.past
  pub lawful : LawfulWorld s (after_stride s w j.lun j r).world

-- a step that goes well, on a model or on a real bus, if its bytes are truthful
pub well_stepped : (s : Channel) (w : World) → LawfulWorld s w → (j : Job) (line : Line) (rest : List Line) (done : List Done) → is_there s j.lun ≡ true → is_held w.holder j.lun ≡ false → IsMade j → StaysFine s j → IsWithin s (record { job = j; ahead = line ∷ rest; done = done; code = None }) → Reaches s j (record { past = w.past; ahead = line ∷ rest; done = done; holding = has_bus w.holder j.lun }) → (step : Option Stride) (f : StepGoesWell s j w.past done step) → TruthfulStep s j w.past (line ∷ rest) done f.r → Strides s w j step
well_stepped s w law j line rest done there free made safe within reach step f answered =
    record {
      r = f.r;
      is_r = f.is_r;
      own = f.adds;
      lawful = record {
        legal = passes.legal;
        size = length-set w.slots _ _ ∙ law.size;
        slots = λ m m_there. at_lun m m_there (same_lun j.lun m) refl;
        holder = λ m e. subst (λ (k : Lun). is_there s k ≡ true) (new_holder (keeps_bus f.r.outcome) j.lun m e) there;
        closed = λ ce h. at_target ce h (j.lun.ce == ce) refl;
      };
    }
  where
    passes : PassesOthers s j.lun w.past f.r.past
    passes = own_cycles_pass s j.lun w.past f.r.past there law.legal f.adds

    holder : Option Lun
    holder = cond (keeps_bus f.r.outcome) (Some j.lun) None

    x : Slot
    x = record { job = j; ahead = f.r.ahead; done = f.r.done; code = f.r.code }

    here : (code : Option ℕ) → f.r.code ≡ code → HasSeat s f.r.past (keeps_bus f.r.outcome) x code
    here None e = steps (record { past = w.past; ahead = line ∷ rest; done = done; holding = has_bus w.holder j.lun }) answered.bytes f.r reach (may_step_now s w j.lun w.holder free law.closed) answered.is_step answered.truthful e
    here (Some code) e = (f.idle code e, f.no_bus code e)

    text : (code : Option ℕ) → f.r.code ≡ code → DoesItsText s x code
    text None e = walk_gives s j (record { past = f.r.past; ahead = f.r.ahead; done = f.r.done; holding = keeps_bus f.r.outcome }) (here None e)
    text (Some code) e = ended_text s j answered.bytes w.past line rest done f.r code answered.is_step e (walk_gives s j (record { past = w.past; ahead = line ∷ rest; done = done; holding = has_bus w.holder j.lun }) reach)

    own_slot : LawfulAt s f.r.past (has_bus holder j.lun) j.lun (Some x)
    own_slot =
        subst (λ (b : Bool). LawfulSlot s f.r.past b j.lun x) (sym (new_bus (keeps_bus f.r.outcome) j.lun))
        (record { lun = refl; made = made; safe = safe; within = record { inside = f.inside within.inside; others = step_keeps s j answered.bytes w.past line rest done f.r answered.is_step within.others; budget = f.budget within.budget }; text = text f.r.code refl; seat = here f.r.code refl })

    at_lun : (m : Lun) → is_there s m ≡ true → (b : Bool) → same_lun j.lun m ≡ b → LawfulAt s f.r.past (has_bus holder m) m (slot_of s (after_stride s w j.lun j f.r).world m)
    at_lun m m_there true e =
        subst (λ (k : Lun). LawfulAt s f.r.past (has_bus holder k) k (slot_of s (after_stride s w j.lun j f.r).world k)) (same_lun_is j.lun m e)
        (subst (λ (o : Option Slot). LawfulAt s f.r.past (has_bus holder j.lun) j.lun o) (sym (slot_same s f.r.past w.slots holder j.lun (Some x) there law.size)) own_slot)
    at_lun m m_there false e =
        let before : LawfulAt s w.past false m (slot_of s w m) = subst (λ (b : Bool). LawfulAt s w.past b m (slot_of s w m)) (free_of_others w.holder j.lun m free e) (law.slots m m_there) in
        let later : LawfulAt s f.r.past false m (slot_of s w m) = at_kept s j.lun m w.past f.r.past (slot_of s w m) passes e m_there before in
        subst (λ (b : Bool). LawfulAt s f.r.past b m (slot_of s (after_stride s w j.lun j f.r).world m)) (sym (new_bus_other (keeps_bus f.r.outcome) j.lun m e))
        (subst (λ (o : Option Slot). LawfulAt s f.r.past false m o) (sym (slot_other s f.r.past w.slots holder w j.lun m (Some x) refl there m_there e)) later)

    at_target : (ce : ℕ) → has_bus_on holder ce ≡ false → (b : Bool) → (j.lun.ce == ce) ≡ b → is_open_on f.r.past ce ≡ false
    at_target ce h true e = subst (λ (n : ℕ). is_open_on f.r.past n ≡ false) (eqb-true j.lun.ce ce e) (f.closed (new_bus_on (keeps_bus f.r.outcome) j.lun ce e h))
    at_target ce h false e = passes.targets ce (other_target j.lun.ce ce e) ∙ law.closed ce (free_elsewhere w.holder j.lun ce free e)

-- a step on a model
strides : (s : Channel) → IsChannel s → (w : World) → LawfulWorld s w → (j : Job) (ahead : List Line) (done : List Done) → is_there s j.lun ≡ true → is_held w.holder j.lun ≡ false → IsMade j → StaysFine s j → IsWithin s (record { job = j; ahead = ahead; done = done; code = None }) → Reaches s j (record { past = w.past; ahead = ahead; done = done; holding = has_bus w.holder j.lun }) → LineIsFine s j w.past done ahead → Strides s w j (next_step s j w.past ahead done)
strides s is w law j [] done there free made safe within reach fine = absurd fine
strides s is w law j (line ∷ rest) done there free made safe within reach fine =
    let f = fine_steps s is j w.past line rest done fine in
    well_stepped s w law j line rest done there free made safe within reach (next_step s j w.past (line ∷ rest) done) f (models_truthful s is j w.past line rest done f.r there fine f.is_r)

-- a step on a real bus, whose outputs give any truthful bytes
pub answered_strides : (s : Channel) (w : World) → LawfulWorld s w → (l : Lun) (x : Slot) (holding : Bool) → has_bus w.holder l ≡ holding → is_held w.holder l ≡ false → is_there s l ≡ true → x.code ≡ None → LawfulSlot s w.past holding l x → NextTakes s w x
answered_strides s w law l x holding has free there goes h = at x.ahead refl (h.safe seat reach may)
  where
    reach_of : (code : Option ℕ) → code ≡ None → HasSeat s w.past holding x code → Reaches s x.job (record { past = w.past; ahead = x.ahead; done = x.done; holding = holding })
    reach_of None e k = k
    reach_of (Some code) e k = cc

    seat : Seat
    seat = record { past = w.past; ahead = x.ahead; done = x.done; holding = holding }

    reach : Reaches s x.job seat
    reach = reach_of x.code goes h.seat

    lun_there : is_there s x.job.lun ≡ true
    lun_there = subst (λ (k : Lun). is_there s k ≡ true) (sym h.lun) there

    lun_free : is_held w.holder x.job.lun ≡ false
    lun_free = subst (λ (k : Lun). is_held w.holder k ≡ false) (sym h.lun) free

    lun_has : has_bus w.holder x.job.lun ≡ holding
    lun_has = subst (λ (k : Lun). has_bus w.holder k ≡ holding) (sym h.lun) has

    may : (holding || not (is_open_on w.past x.job.lun.ce)) ≡ true
    may = subst (λ (b : Bool). (b || not (is_open_on w.past x.job.lun.ce)) ≡ true) lun_has (may_step_now s w x.job.lun w.holder lun_free law.closed)

    at : (ahead : List Line) → x.ahead ≡ ahead → LineIsFine s x.job w.past x.done ahead → NextTakes s w x
    at [] e fine = absurd fine
    at (line ∷ rest) e fine =
        record {
          count = outputs fine.moved;
          is_count = rw e (rw fine.is_moved refl);
          goes = λ bytes many truthful.
              let ahead_is : line ∷ rest ≡ x.ahead = sym e in
              let f = answered_steps s x.job w.past line rest x.done fine bytes many in
              let within : IsWithin s (record { job = x.job; ahead = line ∷ rest; done = x.done; code = None }) = record { inside = h.within.inside; others = h.within.others; budget = h.within.budget } in
              let reach_line = subst (λ (ls : List Line). Reaches s x.job (record { past = w.past; ahead = ls; done = x.done; holding = holding })) e reach in
              let reach_here = subst (λ (b : Bool). Reaches s x.job (record { past = w.past; ahead = line ∷ rest; done = x.done; holding = b })) (sym lun_has) reach_line in
              let true_here = subst (λ (ls : List Line). AreTruthful s.geometry x.job.lun w.past ls bytes) e truthful in
              let k = well_stepped s w law x.job line rest x.done lun_there lun_free h.made h.safe within reach_here (answered_step s.geometry x.job bytes w.past (line ∷ rest) x.done) f (record { bytes = bytes; is_step = f.is_r; truthful = true_here }) in
              record { r = k.r; is_r = subst (λ (ls : List Line). answered_step s.geometry x.job bytes w.past ls x.done ≡ Some k.r) ahead_is k.is_r; own = k.own; lawful = k.lawful };
        }

pub live_steps_go_well : LiveStepsGoWell
live_steps_go_well s w l x law e goes free =
    let there = there_of_slot s w l x e in
    let at_l = law.slots l there in
    let h : LawfulSlot s w.past (has_bus w.holder l) l x = subst (λ (o : Option Slot). LawfulAt s w.past (has_bus w.holder l) l o) e at_l in
    answered_strides s w law l x (has_bus w.holder l) refl free there goes h

-- a ready keeps a slot lawful
ready_keeps_seat : (s : Channel) (past : List Item) (i : Item) (holding : Bool) (x : Slot) (code : Option ℕ) → is_cycle i ≡ false → broken s.geometry s.targets past i ≡ None → HasSeat s past holding x code → HasSeat s (i ∷ past) holding x code
ready_keeps_seat s past i holding x None h p seat = readies (record { past = past; ahead = x.ahead; done = x.done; holding = holding }) i seat h p
ready_keeps_seat s past i holding x (Some code) h p seat = (readies_leave.idle s.geometry past i x.job.lun h seat.0, seat.1)

ready_keeps_at : (s : Channel) (past : List Item) (i : Item) (holding : Bool) (m : Lun) (slot : Option Slot) → is_cycle i ≡ false → broken s.geometry s.targets past i ≡ None → LawfulAt s past holding m slot → LawfulAt s (i ∷ past) holding m slot
ready_keeps_at s past i holding m None h p k = (readies_leave.idle s.geometry past i m h k.0, k.1)
ready_keeps_at s past i holding m (Some x) h p k =
    record { lun = k.lun; made = k.made; safe = k.safe; within = k.within; text = k.text; seat = ready_keeps_seat s past i holding x x.code h p k.seat }

none_broken : (o : Option Forbidden) → is_none o ≡ true → o ≡ None
none_broken None h = refl
none_broken (Some rule) h = cc

-- a ready keeps the world lawful
pub item_lawful : (s : Channel) (w : World) (i : Item) (reply : Bool → Reply) (b : Bool) → LawfulWorld s w → is_cycle i ≡ false → is_permitted s.geometry s.targets w.past i ≡ b → LawfulWorld s (after_item w i reply b).world
item_lawful s w i reply false law h e = law
item_lawful s w i reply true law h e =
    let p = none_broken (broken s.geometry s.targets w.past i) e in
    record {
      legal = facts.legal s.geometry s.targets w.past i law.legal p;
      size = law.size;
      slots = λ m there. ready_keeps_at s w.past i (has_bus w.holder m) m (slot_of s w m) h p (law.slots m there);
      holder = law.holder;
      closed = λ ce k. ap (λ (t : List TargetCycle). is_open (facts_of t)) (readies_leave.tails w.past i ce h) ∙ law.closed ce k;
    }

-- a step of a LUN: it is defined, its own, and keeps the world lawful
pub record StepLawful (s : Channel) (w : World) (l : Lun) (result : Option After) : Type 0 where
  pub a : After
  pub is_a : result ≡ Some a
  pub own : AddsOwn s l w.past a.world.past
  pub lawful : LawfulWorld s a.world

-- an answer that changes nothing
pub nothing_done : (s : Channel) (w : World) (l : Lun) (answer : Stepped) → LawfulWorld s w → StepLawful s w l (stands w answer)
nothing_done s w l answer law =
    record { a = record { world = w; reply = ToStep answer }; is_a = refl; own = record { new = []; is_new = refl; own = tt }; lawful = law }

going_on_lawful : (s : Channel) → IsChannel s → (w : World) → LawfulWorld s w → (j : Job) (ahead : List Line) (done : List Done) → is_there s j.lun ≡ true → LawfulSlot s w.past (has_bus w.holder j.lun) j.lun (record { job = j; ahead = ahead; done = done; code = None }) → StepLawful s w j.lun (after_slot_step s w j.lun (record { job = j; ahead = ahead; done = done; code = None }) None)
going_on_lawful s is w law j ahead done there h = at (is_held w.holder j.lun) refl
  where
    at : (b : Bool) → is_held w.holder j.lun ≡ b → StepLawful s w j.lun (cond b (stands w Held) (and_then (next_step s j w.past ahead done) (λ r. Some (after_stride s w j.lun j r))))
    at true e = nothing_done s w j.lun Held law
    at false e =
        let seat : Seat = record { past = w.past; ahead = ahead; done = done; holding = has_bus w.holder j.lun } in
        let fine = h.safe seat h.seat (may_step_now s w j.lun w.holder e law.closed) in
        let k = strides s is w law j ahead done there e h.made h.safe h.within h.seat fine in
        record { a = after_stride s w j.lun j k.r; is_a = rw k.is_r refl; own = k.own; lawful = k.lawful }

slot_lawful : (s : Channel) → IsChannel s → (w : World) → LawfulWorld s w → (l : Lun) (x : Slot) (code : Option ℕ) → x.code ≡ code → is_there s l ≡ true → LawfulSlot s w.past (has_bus w.holder l) l x → StepLawful s w l (after_slot_step s w l x code)
slot_lawful s is w law l x (Some code) e there h = nothing_done s w l Ended law
slot_lawful s is w law l x None e there h =
    let y : Slot = record { job = x.job; ahead = x.ahead; done = x.done; code = None } in
    let same : x ≡ y = ap (λ (c : Option ℕ). let z : Slot = record { job = x.job; ahead = x.ahead; done = x.done; code = c } in z) e in
    let hy : LawfulSlot s w.past (has_bus w.holder l) l y = subst (λ (z : Slot). LawfulSlot s w.past (has_bus w.holder l) l z) same h in
    let Goal : Lun → Type 0 = λ k. is_there s k ≡ true → LawfulSlot s w.past (has_bus w.holder k) k y → StepLawful s w k (after_slot_step s w k y None) in
    let at_own : Goal x.job.lun = going_on_lawful s is w law x.job x.ahead x.done in
    subst Goal h.lun at_own there hy

pub step_lawful : (s : Channel) → IsChannel s → (w : World) → LawfulWorld s w → (l : Lun) (slot : Option Slot) → slot_of s w l ≡ slot → StepLawful s w l (after_step s w l slot)
step_lawful s is w law l None e = nothing_done s w l Empty law
step_lawful s is w law l (Some x) e =
    let there = there_of_slot s w l x e in
    slot_lawful s is w law l x x.code refl there (subst (λ (o : Option Slot). LawfulAt s w.past (has_bus w.holder l) l o) e (law.slots l there))
