-- The cycles that the steps of a program put into the trace are those of its actions so far: by induction on the events.
use Rattle.std.proofs.Common.{◌≡◌, ℕ, suc, ◌+◌, ◌-◌, ◌*◌, ◌≤◌, Bool, true, false, cond, List, [], ◌∷◌, ◌++◌, Option, Some, None, inl, inr, refl, sym, ap, ◌∙◌, subst, arith, leb, length, length-set, length-take, length-append, take, drop, replicate}
use Rattle.std.proofs.Math.Seq.{take-append_seam}
use Rattle.std.proofs.lemmas.List.{length-replicate}
use Rattle.nand_geometry.specs.declared.parts.Parts.{Parts}
use Rattle.nand_geometry.specs.Row.{row_bytes_of}
use Rattle.onfi_cycle.specs.declared.lun.Lun.{Lun}
use Rattle.onfi_cycle.specs.declared.item.Kind.{Kind}
use Rattle.onfi_cycle.specs.declared.item.Kind.TheVariants.{Cmd, Adr, Din, Dout}
use Rattle.onfi_cycle.specs.declared.item.Item.{Item}
use Rattle.onfi_cycle.specs.declared.item.Item.TheVariants.{Rdy, Ard}
use Rattle.onfi_cycle.specs.Permitted.{is_permitted}
use Rattle.onfi_cycle.specs.Channel.{Channel, cycle, is_there, same_lun}
use Rattle.micro_word.specs.declared.format.Format.TheVariants.{Two}
use Rattle.micro_word.specs.declared.word.Word.{Word}
use Rattle.micro_word.specs.declared.word.Word.TheVariants.{Command, Address, Get, Put, Wait, ReadStatus}
use Rattle.micro_program.specs.Lines.{Line}
use Rattle.micro_program.specs.Program.{Job, Done, cost, cost_now, buffer_now, column_now, index_now, plane_now, place_now}
use Rattle.micro_program.specs.Moves.{Move, Give, Take, and_then, moves, gives, part, column_bytes, put_bytes, is_wait}
use Rattle.micro_program.specs.Step.{Stride, keeps_bus, answered_step, next_step}
use Rattle.seq_core.specs.declared.load_fault.LoadFault.{LoadFault}
use Rattle.seq_core.specs.declared.stepped.Stepped.{Stepped}
use Rattle.seq_core.specs.declared.stepped.Stepped.TheVariants.{Empty, Held, Ended}
use Rattle.seq_core.specs.World.{Slot, World, slot_of, with_slot, fresh_slot, fresh}
use Rattle.seq_core.specs.Event.{Event, Load, Step, Ready, ArrayReady, Unload}
use Rattle.seq_core.specs.Reply.{Reply, ToStep, ToReady, ToArrayReady}
use Rattle.seq_core.specs.After.{After, Ran, load_fault, after_load, is_held, stands, after_stride, after_slot_step, after_step, after_item, after_slot_unload, after_unload, after, run}
use Rattle.seq_core.specs.Made.{cycles_of, bytes_told, counted, Made, none, word, poll, waits_next, Running, added, with_cycles, running_behind, is_of, running_after, running_on, RunsAsTold}
use Rattle.seq_core.proofs.Slots.{same_lun_is, slot_same, slot_other, there_of_slot, none_of_fresh}
use Rattle.seq_core.proofs.Loads.{loadable}
use Rattle.seq_core.proofs.Runnings.{same_after, same_ran}
use Rattle.seq_core.specs.Lawful.{IsWithin}
use Rattle.seq_core.proofs.Below.{costs_count, step_parts, model_step}
use Rattle.seq_core.proofs.Buffers.{StrideLeaves, StepLeaves, step_leaves}

-- 1. the cycles of moves stand before what was made so far

cycles_before : (ce : ℕ) (moved : List Move) (bytes : List ℕ) (xs ys : List Item) → cycles_of ce moved bytes (xs ++ ys) ≡ cycles_of ce moved bytes xs ++ ys
cycles_before ce [] bytes xs ys = refl
cycles_before ce (Give kind byte ∷ moved) bytes xs ys = cycles_before ce moved bytes (cycle ce kind byte ∷ xs) ys
cycles_before ce (Take ∷ moved) [] xs ys = refl
cycles_before ce (Take ∷ moved) (byte ∷ bytes) xs ys = cycles_before ce moved bytes (cycle ce Dout byte ∷ xs) ys

added_is : (before new : List Item) → added before (new ++ before) ≡ new
added_is before new =
    let short : length (new ++ before) - length before ≡ length new = omega (arith, length-append new before) in
    ap (λ (n : ℕ). take n (new ++ before)) short ∙ take-append_seam new before

added_cycles : (ce : ℕ) (moved : List Move) (bytes : List ℕ) (before later made : List Item) → later ≡ cycles_of ce moved bytes before → added before later ++ made ≡ cycles_of ce moved bytes made
added_cycles ce moved bytes before later made is =
    let whole : later ≡ cycles_of ce moved bytes [] ++ before = is ∙ cycles_before ce moved bytes [] before in
    ap (λ (xs : List Item). xs ++ made) (ap (added before) whole ∙ added_is before (cycles_of ce moved bytes [])) ∙ sym (cycles_before ce moved bytes [] made)

-- 2. a program with the cycles that it has made

pub record Making (s : Channel) (x : Slot) (r : Running) : Type 0 where
  pub job : x.job ≡ r.job
  pub polled : Bool
  pub count : ℕ
  pub cycles : Made s x.job x.done polled r.made count
  pub waits : polled ≡ true → waits_next x.ahead ≡ true

abbrev pub MakesAsTold : Channel → Option Slot → Option Running → Type 0
MakesAsTold s None None = Unit {0}
MakesAsTold s (Some x) (Some r) = Making s x r
MakesAsTold s None (Some r) = ⊥
MakesAsTold s (Some x) None = ⊥

pub making_fresh : (s : Channel) (j : Job) → Making s (fresh_slot j) (record { job = j; made = [] })
making_fresh s j = record { job = refl; polled = false; count = 0; cycles = none; waits = λ h. cc }

abbrev pub slot_after : Job → Stride → Slot
slot_after j r = record { job = j; ahead = r.ahead; done = r.done; code = r.code }

abbrev pub slot_at : Job → List Line → List Done → Option ℕ → Slot
slot_at j ahead done code = record { job = j; ahead = ahead; done = done; code = code }

pub making_stride : (s : Channel) (bytes : List ℕ) (past : List Item) (j : Job) (line : Line) (rest : List Line) (done : List Done) (code : Option ℕ) (r : Stride) (run : Running) → answered_step s.geometry j bytes past (line ∷ rest) done ≡ Some r → Making s (slot_at j (line ∷ rest) done code) run → Making s (slot_after j r) (record { job = run.job; made = added past r.past ++ run.made })
making_stride s bytes past j line rest done code r run e m = at left.leaves
  where
    left : StepLeaves s j past line rest done r
    left = step_leaves s j bytes past line rest done r e

    items : (bytes : List ℕ) → bytes ≡ left.p.bytes → cycles_of j.lun.ce left.moved bytes run.made ≡ added past r.past ++ run.made
    items bytes is =
        ap (λ (xs : List ℕ). cycles_of j.lun.ce left.moved xs run.made) is ∙ sym (added_cycles j.lun.ce left.moved left.p.bytes past r.past run.made (left.past_kept ∙ left.past_is))

    at : StrideLeaves line rest done left.p r → Making s (slot_after j r) (record { job = run.job; made = added past r.past ++ run.made })
    at (inl more) =
        record {
          job = m.job;
          polled = false;
          count = m.count + counted more.d.word left.moved;
          cycles = subst (λ (now : List Done). Made s j now false (added past r.past ++ run.made) (m.count + counted more.d.word left.moved)) (sym more.is_done)
              (subst (λ (made : List Item). Made s j (more.d ∷ done) false made (m.count + counted more.d.word left.moved)) (items (bytes_told more.d.answer) more.told)
              (word done m.polled run.made m.count more.d left.moved m.cycles
              (λ h. ap is_wait more.word ∙ m.waits h)
              (ap (moves s.geometry j done) more.word ∙ left.is_moved)
              (ap length more.told ∙ left.count)));
          waits = λ h. cc;
        }
    at (inr again) =
        record {
          job = m.job;
          polled = true;
          count = m.count;
          cycles = subst (λ (now : List Done). Made s j now true (added past r.past ++ run.made) m.count) (sym again.is_done)
              (subst (λ (made : List Item). Made s j done true made m.count) (items (again.status ∷ []) again.told)
              (poll done m.polled run.made m.count again.status left.moved m.cycles again.unready
              (ap (moves s.geometry j done) (sym again.word) ∙ left.is_moved)
              (sym (ap length again.told ∙ left.count))));
          waits = λ h. ap waits_next again.is_ahead ∙ ap is_wait again.word;
        }

-- 3. an event

abbrev pub told : Bool → Event → World → After → Option Running → Option Running
told b e w a r = cond b (running_behind e w a r) r

-- what another LUN's slot becomes doesn't matter
pub elsewhere : (s : Channel) (past : List Item) (holder : Option Lun) (w : World) (m l : Lun) (v : Option Slot) (r : Option Running) → is_there s m ≡ true → is_there s l ≡ true → same_lun m l ≡ false → MakesAsTold s (slot_of s w l) r → MakesAsTold s (slot_of s (record { past = past; slots = with_slot s w.slots m v; holder = holder }) l) r
elsewhere s past holder w m l v r there_m there_l differs h =
    subst (λ (o : Option Slot). MakesAsTold s o r) (sym (slot_other s past w.slots holder w m l v refl there_m there_l differs)) h

pub here : (s : Channel) (past : List Item) (holder : Option Lun) (w : World) (m l : Lun) (v : Option Slot) (r : Option Running) → is_there s m ≡ true → length w.slots ≡ s.targets * s.geometry.luns → same_lun m l ≡ true → MakesAsTold s v r → MakesAsTold s (slot_of s (record { past = past; slots = with_slot s w.slots m v; holder = holder }) l) r
here s past holder w m l v r there size same h =
    subst (λ (k : Lun). MakesAsTold s (slot_of s (record { past = past; slots = with_slot s w.slots m v; holder = holder }) k) r) (same_lun_is m l same)
    (subst (λ (o : Option Slot). MakesAsTold s o r) (sym (slot_same s past w.slots holder m v there size)) h)

load_made : (s : Channel) (w : World) (m l : Lun) (j : Job) (r : Option Running) (fault : Option LoadFault) (b : Bool) → load_fault s w m j ≡ fault → same_lun m l ≡ b → is_there s l ≡ true → length w.slots ≡ s.targets * s.geometry.luns → MakesAsTold s (slot_of s w l) r → MakesAsTold s (slot_of s (after_load s w m j fault).world l) (told b (Load m j) w (after_load s w m j fault) r)
load_made s w m l j r (Some fault) true f e there size h = h
load_made s w m l j r (Some fault) false f e there size h = h
load_made s w m l j r None true f e there size h =
    here s w.past w.holder w m l (Some (fresh_slot j)) (Some (record { job = j; made = [] })) (loadable s w m j f).there size e (making_fresh s j)
load_made s w m l j r None false f e there size h =
    elsewhere s w.past w.holder w m l (Some (fresh_slot j)) r (loadable s w m j f).there there e h

-- a step that does nothing adds nothing
pub nothing_added : (past : List Item) → added past past ≡ []
nothing_added past = let none_more : length past - length past ≡ 0 = omega arith in ap (λ (n : ℕ). take n past) none_more

pub same_made : (w : World) (r : Option Running) → with_cycles (added w.past w.past) r ≡ r
same_made w None = refl
same_made w (Some r) = ap (λ (xs : List Item). Some (let x : Running = record { job = r.job; made = xs ++ r.made } in x)) (nothing_added w.past)

pub unchanged : (s : Channel) (w : World) (l : Lun) (b : Bool) (r : Option Running) → MakesAsTold s (slot_of s w l) r → MakesAsTold s (slot_of s w l) (cond b (with_cycles (added w.past w.past) r) r)
unchanged s w l true r h = subst (MakesAsTold s (slot_of s w l)) (sym (same_made w r)) h
unchanged s w l false r h = h

-- the step of a slot whose job goes on
pub strides_made : (s : Channel) (bytes : List ℕ) (w : World) (m l : Lun) (j : Job) (ahead : List Line) (done : List Done) (code : Option ℕ) (q : Stride) (r : Option Running) (b : Bool) → answered_step s.geometry j bytes w.past ahead done ≡ Some q → same_lun m l ≡ b → is_there s m ≡ true → is_there s l ≡ true → length w.slots ≡ s.targets * s.geometry.luns → slot_of s w m ≡ Some (slot_at j ahead done code) → MakesAsTold s (slot_of s w l) r → MakesAsTold s (slot_of s (after_stride s w m j q).world l) (cond b (with_cycles (added w.past q.past) r) r)
strides_made s bytes w m l j [] done code q r b n e there_m there_l size is h = cc
strides_made s bytes w m l j (line ∷ rest) done code q r false n e there_m there_l size is h =
    elsewhere s q.past (cond (keeps_bus q.outcome) (Some m) None) w m l (Some (slot_after j q)) r there_m there_l e h
strides_made s bytes w m l j (line ∷ rest) done code q r true n e there_m there_l size is h =
    here s q.past (cond (keeps_bus q.outcome) (Some m) None) w m l (Some (slot_after j q)) (with_cycles (added w.past q.past) r) there_m size e
    (at r (subst (λ (o : Option Slot). MakesAsTold s o r) (ap (slot_of s w) (sym (same_lun_is m l e)) ∙ is) h))
  where
    at : (r : Option Running) → MakesAsTold s (Some (slot_at j (line ∷ rest) done code)) r → MakesAsTold s (Some (slot_after j q)) (with_cycles (added w.past q.past) r)
    at None h = absurd h
    at (Some run) h = making_stride s bytes w.past j line rest done code q run n h

-- the answers that a model gives
answers_of_step : (s : Channel) (j : Job) (past : List Item) (ahead : List Line) (done : List Done) (q : Stride) → next_step s j past ahead done ≡ Some q → (bytes : List ℕ) × (answered_step s.geometry j bytes past ahead done ≡ Some q)
answers_of_step s j past [] done q e = cc
answers_of_step s j past (line ∷ rest) done q e =
    let parts = step_parts s j past line rest done q e in (parts.p.bytes, model_step s j past line rest done q parts)

-- of a step that stands
pub stands_made : (s : Channel) (w : World) (l : Lun) (b : Bool) (answer : Stepped) (a : After) (r : Option Running) → stands w answer ≡ Some a → MakesAsTold s (slot_of s w l) r → MakesAsTold s (slot_of s a.world l) (cond b (with_cycles (added w.past a.world.past) r) r)
stands_made s w l b answer a r is h =
    subst (λ (x : After). MakesAsTold s (slot_of s x.world l) (cond b (with_cycles (added w.past x.world.past) r) r)) (same_after (record { world = w; reply = ToStep answer }) a is) (unchanged s w l b r h)

step_made : (s : Channel) (w : World) (m l : Lun) (slot : Option Slot) (a : After) (r : Option Running) (b : Bool) → slot_of s w m ≡ slot → after_step s w m slot ≡ Some a → same_lun m l ≡ b → is_there s l ≡ true → length w.slots ≡ s.targets * s.geometry.luns → MakesAsTold s (slot_of s w l) r → MakesAsTold s (slot_of s a.world l) (told b (Step m) w a r)
step_made s w m l None a r b is e same there size h = stands_made s w l b Empty a r e h
step_made s w m l (Some x) a r b is e same there size h = of x.code refl e
  where
    strode : (o : Option Stride) → next_step s x.job w.past x.ahead x.done ≡ o → and_then o (λ q. Some (after_stride s w m x.job q)) ≡ Some a → MakesAsTold s (slot_of s a.world l) (cond b (with_cycles (added w.past a.world.past) r) r)
    strode None n e = cc
    strode (Some q) n e =
        subst (λ (y : After). MakesAsTold s (slot_of s y.world l) (cond b (with_cycles (added w.past y.world.past) r) r)) (same_after (after_stride s w m x.job q) a e)
        (let k = answers_of_step s x.job w.past x.ahead x.done q n in strides_made s k.0 w m l x.job x.ahead x.done x.code q r b k.1 same (there_of_slot s w m x is) there size is h)

    free : (held : Bool) → cond held (stands w Held) (and_then (next_step s x.job w.past x.ahead x.done) (λ q. Some (after_stride s w m x.job q))) ≡ Some a → MakesAsTold s (slot_of s a.world l) (cond b (with_cycles (added w.past a.world.past) r) r)
    free true e = stands_made s w l b Held a r e h
    free false e = strode (next_step s x.job w.past x.ahead x.done) refl e

    of : (code : Option ℕ) → x.code ≡ code → after_slot_step s w m x code ≡ Some a → MakesAsTold s (slot_of s a.world l) (cond b (with_cycles (added w.past a.world.past) r) r)
    of (Some code) c e = stands_made s w l b Ended a r e h
    of None c e = free (is_held w.holder m) e

unload_slot_made : (s : Channel) (w : World) (m l : Lun) (x : Slot) (code : Option ℕ) (r : Option Running) (b : Bool) → slot_of s w m ≡ Some x → same_lun m l ≡ b → is_there s l ≡ true → length w.slots ≡ s.targets * s.geometry.luns → MakesAsTold s (slot_of s w l) r → MakesAsTold s (slot_of s (after_slot_unload s w m x code).world l) (told b (Unload m) w (after_slot_unload s w m x code) r)
unload_slot_made s w m l x None r true is e there size h = h
unload_slot_made s w m l x None r false is e there size h = h
unload_slot_made s w m l x (Some code) r true is e there size h = here s w.past w.holder w m l None None (there_of_slot s w m x is) size e tt
unload_slot_made s w m l x (Some code) r false is e there size h = elsewhere s w.past w.holder w m l None r (there_of_slot s w m x is) there e h

unload_made : (s : Channel) (w : World) (m l : Lun) (slot : Option Slot) (r : Option Running) (b : Bool) → slot_of s w m ≡ slot → same_lun m l ≡ b → is_there s l ≡ true → length w.slots ≡ s.targets * s.geometry.luns → MakesAsTold s (slot_of s w l) r → MakesAsTold s (slot_of s (after_unload s w m slot).world l) (told b (Unload m) w (after_unload s w m slot) r)
unload_made s w m l None r true is e there size h = h
unload_made s w m l None r false is e there size h = h
unload_made s w m l (Some x) r b is e there size h = unload_slot_made s w m l x x.code r b is e there size h

item_slots : (s : Channel) (w : World) (l : Lun) (i : Item) (reply : Bool → Reply) (b : Bool) → slot_of s (after_item w i reply b).world l ≡ slot_of s w l
item_slots s w l i reply true = refl
item_slots s w l i reply false = refl

pub event_made : (s : Channel) (w : World) (l : Lun) (e : Event) (a : After) (r : Option Running) → after s w e ≡ Some a → is_there s l ≡ true → length w.slots ≡ s.targets * s.geometry.luns → MakesAsTold s (slot_of s w l) r → MakesAsTold s (slot_of s a.world l) (told (is_of e l) e w a r)
event_made s w l (Load m j) a r is there size h =
    subst (λ (x : After). MakesAsTold s (slot_of s x.world l) (told (same_lun m l) (Load m j) w x r)) (same_after _ a is) (load_made s w m l j r (load_fault s w m j) (same_lun m l) refl refl there size h)
event_made s w l (Step m) a r is there size h = step_made s w m l (slot_of s w m) a r (same_lun m l) refl is refl there size h
event_made s w l (Ready m fail) a r is there size h =
    subst (λ (x : After). MakesAsTold s (slot_of s x.world l) r) (same_after _ a is)
    (subst (λ (o : Option Slot). MakesAsTold s o r) (sym (item_slots s w l (Rdy m.ce m.lun fail) ToReady (is_permitted s.geometry s.targets w.past (Rdy m.ce m.lun fail)))) h)
event_made s w l (ArrayReady m fail) a r is there size h =
    subst (λ (x : After). MakesAsTold s (slot_of s x.world l) r) (same_after _ a is)
    (subst (λ (o : Option Slot). MakesAsTold s o r) (sym (item_slots s w l (Ard m.ce m.lun fail) ToArrayReady (is_permitted s.geometry s.targets w.past (Ard m.ce m.lun fail)))) h)
event_made s w l (Unload m) a r is there size h =
    subst (λ (x : After). MakesAsTold s (slot_of s x.world l) (told (same_lun m l) (Unload m) w x r)) (same_after _ a is) (unload_made s w m l (slot_of s w m) r (same_lun m l) refl refl there size h)

-- the slots stay as many
load_size : (s : Channel) (w : World) (m : Lun) (j : Job) (fault : Option LoadFault) → length (after_load s w m j fault).world.slots ≡ length w.slots
load_size s w m j (Some fault) = refl
load_size s w m j None = length-set w.slots _ _

unload_size : (s : Channel) (w : World) (m : Lun) (slot : Option Slot) → length (after_unload s w m slot).world.slots ≡ length w.slots
unload_size s w m None = refl
unload_size s w m (Some x) = of x.code
  where
    of : (code : Option ℕ) → length (after_slot_unload s w m x code).world.slots ≡ length w.slots
    of None = refl
    of (Some code) = length-set w.slots _ _

item_size : (w : World) (i : Item) (reply : Bool → Reply) (b : Bool) → length (after_item w i reply b).world.slots ≡ length w.slots
item_size w i reply true = refl
item_size w i reply false = refl

step_size : (s : Channel) (w : World) (m : Lun) (slot : Option Slot) (a : After) → after_step s w m slot ≡ Some a → length a.world.slots ≡ length w.slots
step_size s w m None a e = sym (ap (λ (x : After). length x.world.slots) (same_after (record { world = w; reply = ToStep Empty }) a e))
step_size s w m (Some x) a e = of x.code e
  where
    strode : (o : Option Stride) → and_then o (λ q. Some (after_stride s w m x.job q)) ≡ Some a → length a.world.slots ≡ length w.slots
    strode None e = cc
    strode (Some q) e = sym (ap (λ (y : After). length y.world.slots) (same_after (after_stride s w m x.job q) a e)) ∙ length-set w.slots _ _

    free : (held : Bool) → cond held (stands w Held) (and_then (next_step s x.job w.past x.ahead x.done) (λ q. Some (after_stride s w m x.job q))) ≡ Some a → length a.world.slots ≡ length w.slots
    free true e = sym (ap (λ (y : After). length y.world.slots) (same_after (record { world = w; reply = ToStep Held }) a e))
    free false e = strode (next_step s x.job w.past x.ahead x.done) e

    of : (code : Option ℕ) → after_slot_step s w m x code ≡ Some a → length a.world.slots ≡ length w.slots
    of (Some code) e = sym (ap (λ (y : After). length y.world.slots) (same_after (record { world = w; reply = ToStep Ended }) a e))
    of None e = free (is_held w.holder m) e

pub event_size : (s : Channel) (w : World) (e : Event) (a : After) → after s w e ≡ Some a → length a.world.slots ≡ length w.slots
event_size s w (Load m j) a is = sym (ap (λ (x : After). length x.world.slots) (same_after _ a is)) ∙ load_size s w m j (load_fault s w m j)
event_size s w (Step m) a is = step_size s w m (slot_of s w m) a is
event_size s w (Ready m fail) a is = sym (ap (λ (x : After). length x.world.slots) (same_after _ a is)) ∙ item_size w (Rdy m.ce m.lun fail) ToReady _
event_size s w (ArrayReady m fail) a is = sym (ap (λ (x : After). length x.world.slots) (same_after _ a is)) ∙ item_size w (Ard m.ce m.lun fail) ToArrayReady _
event_size s w (Unload m) a is = sym (ap (λ (x : After). length x.world.slots) (same_after _ a is)) ∙ unload_size s w m (slot_of s w m)

-- 4. a run

-- of the events behind this one
abbrev Later : Channel → List Event → World → Lun → Event → Option Running → Type 0
Later s events w l e r = (a : After) (q : Ran) → after s w e ≡ Some a → run s events a.world ≡ Some q → MakesAsTold s (slot_of s q.world l) (running_on s l events a.world (told (is_of e l) e w a r))

run_made : (s : Channel) (events : List Event) (w : World) (l : Lun) (r : Option Running) (ran : Ran) → run s events w ≡ Some ran → is_there s l ≡ true → length w.slots ≡ s.targets * s.geometry.luns → MakesAsTold s (slot_of s w l) r → MakesAsTold s (slot_of s ran.world l) (running_on s l events w r)
run_made s [] w l r ran is there size h =
    subst (λ (x : Ran). MakesAsTold s (slot_of s x.world l) r) (same_ran (record { world = w; replies = [] }) ran is) h
run_made s (e ∷ events) w l r ran is there size h =
    of (after s w e) refl is (λ a q is_a is_q. run_made s events a.world l (told (is_of e l) e w a r) q is_q there (event_size s w e a is_a ∙ size) (event_made s w l e a r is_a there size h))
  where
    then_run : (a : After) (o : Option Ran) → run s events a.world ≡ o → after s w e ≡ Some a → and_then o (λ q. Some (record { world = q.world; replies = a.reply ∷ q.replies })) ≡ Some ran → Later s events w l e r → MakesAsTold s (slot_of s ran.world l) (running_on s l events a.world (told (is_of e l) e w a r))
    then_run a None is_q is_a is later = cc
    then_run a (Some q) is_q is_a is later =
        subst (λ (x : Ran). MakesAsTold s (slot_of s x.world l) (running_on s l events a.world (told (is_of e l) e w a r))) (same_ran (record { world = q.world; replies = a.reply ∷ q.replies }) ran is)
        (later a q is_a is_q)

    of : (o : Option After) → after s w e ≡ o → and_then o (λ a. and_then (run s events a.world) (λ q. Some (record { world = q.world; replies = a.reply ∷ q.replies }))) ≡ Some ran → Later s events w l e r → MakesAsTold s (slot_of s ran.world l) (running_after l e w r o (running_on s l events))
    of None is_a is later = cc
    of (Some a) is_a is later = then_run a (run s events a.world) refl is_a is later

-- 5. at most budget of the cycles count

gives_len : (kind : Kind) (bytes : List ℕ) → length (gives kind bytes) ≡ length bytes
gives_len kind [] = refl
gives_len kind (b ∷ bytes) = ap suc (gives_len kind bytes)

part_most : (from n : ℕ) (bytes : List ℕ) → length (part from n bytes) ≤ n
part_most from n bytes = omega (arith, length-take n (drop from bytes))

given_most : (kind : Kind) (from n : ℕ) (bytes : List ℕ) (moved : List Move) → Some (gives kind (part from n bytes)) ≡ Some moved → length moved ≤ n
given_most kind from n bytes moved e =
    let same : gives kind (part from n bytes) ≡ moved = cc in
    omega (arith, ap length same, gives_len kind (part from n bytes), part_most from n bytes)

address_most : (g : Parts) (j : Job) (done : List Done) (from n : ℕ) (moved : List Move) → moves g j done (Address from n) ≡ Some moved → length moved ≤ n
address_most g j done from n moved e = at (leb (from + n) 2) (row_bytes_of g j.lun.lun (index_now j.base done) (plane_now done)) (column_bytes (column_now done)) e
  where
    at : (b : Bool) (o : Option (List ℕ)) (columns : List ℕ) → and_then (cond b (Some (part from n columns)) (and_then o (λ row. Some (part from n (columns ++ row))))) (λ bytes. Some (gives Adr bytes)) ≡ Some moved → length moved ≤ n
    at true o columns e = given_most Adr from n columns moved e
    at false None columns e = cc
    at false (Some row) columns e = given_most Adr from n (columns ++ row) moved e

put_most : (j : Job) (done : List Done) (n : ℕ) (moved : List Move) → and_then (put_bytes j done n) (λ bytes. Some (gives Din bytes)) ≡ Some moved → length moved ≤ n
put_most j done n moved e = at (leb (place_now done + n) (length (buffer_now j.buffer done))) e
  where
    at : (b : Bool) → and_then (cond b (Some (part (place_now done) n (buffer_now j.buffer done))) None) (λ bytes. Some (gives Din bytes)) ≡ Some moved → length moved ≤ n
    at true e = given_most Din (place_now done) n (buffer_now j.buffer done) moved e
    at false e = cc

counted_most : (g : Parts) (j : Job) (done : List Done) (word : Word) (moved : List Move) → moves g j done word ≡ Some moved → counted word moved ≤ cost g word
counted_most g j done (Command byte) moved e = let same : (Give Cmd byte ∷ []) ≡ moved = cc in omega (arith, ap length same)
counted_most g j done (Address from count) moved e = address_most g j done from count moved e
counted_most g j done (Get len) moved e = let same : replicate len Take ≡ moved = cc in omega (arith, ap length same, length-replicate len Take)
counted_most g j done (Put len) moved e = put_most j done len moved e
counted_most g j done ReadStatus moved e = omega (arith, costs_count g j done ReadStatus moved Two 0 tt refl e)
counted_most g j done Wait moved e = omega arith
counted_most g j done _ moved e = let same : moved ≡ [] = cc in omega (arith, ap length same)

made_most : (s : Channel) (j : Job) (done : List Done) (polled : Bool) (made : List Item) (count : ℕ) → Made s j done polled made count → count ≤ cost_now s.geometry done
made_most s j done polled made count none = omega arith
made_most s j done polled made count (word before p m n d moves h waits is told) =
    omega (arith, made_most s j before p m n h, counted_most s.geometry j before d.word moves is)
made_most s j done polled made count (poll before p m n status moves h unready is told) = made_most s j before p m n h

pub as_told : (s : Channel) (slot : Option Slot) (r : Option Running) → MakesAsTold s slot r → ((x : Slot) → slot ≡ Some x → IsWithin s x) → RunsAsTold s slot r
as_told s None None h within = tt
as_told s (Some x) (Some r) h within =
    let w = within x refl in
    record { job = h.job; polled = h.polled; count = h.count; cycles = h.cycles; waits = h.waits; budget = let most = made_most s x.job x.done h.polled r.made h.count h.cycles in omega (arith, most, w.budget) }
as_told s None (Some r) h within = absurd h
as_told s (Some x) None h within = absurd h

-- after a run from the fresh world each slot has made the cycles that the events tell
pub runs_as_told : (s : Channel) (events : List Event) (ran : Ran) → run s events (fresh s) ≡ Some ran → ((l : Lun) (x : Slot) → slot_of s ran.world l ≡ Some x → IsWithin s x) → (l : Lun) → is_there s l ≡ true → RunsAsTold s (slot_of s ran.world l) (running_on s l events (fresh s) None)
runs_as_told s events ran is within l there =
    as_told s (slot_of s ran.world l) (running_on s l events (fresh s) None)
    (run_made s events (fresh s) l None ran is there (length-replicate (s.targets * s.geometry.luns) None)
    (subst (λ (o : Option Slot). MakesAsTold s o None) (sym (none_of_fresh s [] None (s.targets * s.geometry.luns) l)) tt))
    (within l)
