-- A run of a model is one of a real bus, whose chips give the bytes that the model shows.
use Rattle.std.proofs.Common.{◌≡◌, ℕ, Bool, true, false, cond, List, [], ◌∷◌, Option, Some, None, refl, sym, ap, ◌∙◌, subst, length, map}
use Rattle.onfi_cycle.specs.declared.lun.Lun.{Lun}
use Rattle.onfi_cycle.specs.Channel.{Channel, IsChannel, is_there}
use Rattle.micro_program.specs.Lines.{Line}
use Rattle.micro_program.specs.Moves.{outputs, and_then}
use Rattle.micro_program.specs.Step.{Stride, answered_step, next_step}
use Rattle.micro_program.specs.Safe.{AreTruthful, LineIsFine}
use Rattle.micro_program.proofs.Walk.{answered_count}
use Rattle.seq_core.specs.declared.stepped.Stepped.TheVariants.{Held}
use Rattle.seq_core.specs.World.{Slot, World, slot_of, fresh}
use Rattle.seq_core.specs.Event.{Event, AllLoadVerified, Load as ALoad, Step as AStep, Ready as AReady, ArrayReady as AnArrayReady, Unload as AnUnload}
use Rattle.seq_core.specs.After.{After, Ran, is_held, stands, after_stride, after_slot_step, after_step, after, run}
use Rattle.seq_core.specs.Live.{taken_next}
use Rattle.seq_core.specs.Lawful.{LawfulSlot, LawfulWorld, has_bus}
use Rattle.seq_core.proofs.Below.{models_truthful, answered_parts}
use Rattle.seq_core.proofs.Slots.{there_of_slot}
use Rattle.seq_core.proofs.Main.{events_go_well, fresh_is_lawful}
use Rattle.seq_core.proofs.Replies.{fine_now}
use Rattle.seq_live.specs.Event.{LiveEvent, Load, Step, Ready, ArrayReady, Unload, plain}
use Rattle.seq_live.specs.After.{after_answers, after_slot_answers, after_live, with_first, run_live, Answers, IsAnswered, AllAnswered}
use Rattle.seq_live.specs.Headline.{ModelsAreLive}

some_same : {X : Type 0} (x y : X) → Some x ≡ Some y → x ≡ y
some_same x y h = cc

-- 1. a step

record StepSo (s : Channel) (w : World) (l : Lun) (a : After) : Type 0 where
  bytes : List ℕ
  answers : Answers s w l bytes
  is_after : after_answers s w l bytes (slot_of s w l) ≡ Some a

none_some : {x : Slot} → None ≡ Some x → ⊥
none_some e = cc

never_both : {code : ℕ} (x : Option ℕ) → x ≡ Some code → x ≡ None → ⊥
never_both x a b = cc

true_false : (b : Bool) → b ≡ true → b ≡ false → ⊥
true_false b x y = cc

step_by : (s : Channel) (w : World) (l : Lun) (a : After) (x : Slot) (r : Stride) → IsChannel s → LawfulWorld s w → slot_of s w l ≡ Some x → x.code ≡ None → is_held w.holder l ≡ false → next_step s x.job w.past x.ahead x.done ≡ Some r → after_stride s w l x.job r ≡ a → StepSo s w l a
step_by s w l a x r is law e c free n same = on x.ahead refl f.1
  where
    f : LawfulSlot s w.past (has_bus w.holder l) l x × LineIsFine s x.job w.past x.done x.ahead
    f = fine_now s w l x law e c free

    there : is_there s x.job.lun ≡ true
    there = subst (λ (m : Lun). is_there s m ≡ true) (sym f.0.lun) (there_of_slot s w l x e)

    on : (ahead : List Line) → x.ahead ≡ ahead → LineIsFine s x.job w.past x.done ahead → StepSo s w l a
    on [] is_ahead fine = absurd fine
    on (line ∷ rest) is_ahead fine =
        let step : next_step s x.job w.past (line ∷ rest) x.done ≡ Some r = subst (λ (ls : List Line). next_step s x.job w.past ls x.done ≡ Some r) is_ahead n in
        let t = models_truthful s is x.job w.past line rest x.done r there fine step in
        let parts = answered_parts s.geometry x.job t.bytes w.past line rest x.done r t.is_step in
        let count : length t.bytes ≡ outputs parts.moved = answered_count x.job.lun.ce parts.moved t.bytes w.past parts.p parts.is_p in
        let takes : taken_next s.geometry x.job x.ahead x.done ≡ Some (length t.bytes) = ap (λ (ls : List Line). taken_next s.geometry x.job ls x.done) is_ahead ∙ rw parts.is_moved (ap Some (sym count)) in
        let here : AreTruthful s.geometry x.job.lun w.past x.ahead t.bytes = subst (λ (ls : List Line). AreTruthful s.geometry x.job.lun w.past ls t.bytes) (sym is_ahead) t.truthful in
        let truthful : AreTruthful s.geometry l w.past x.ahead t.bytes = subst (λ (m : Lun). AreTruthful s.geometry m w.past x.ahead t.bytes) f.0.lun here in
        let answered : answered_step s.geometry x.job t.bytes w.past x.ahead x.done ≡ Some r = subst (λ (ls : List Line). answered_step s.geometry x.job t.bytes w.past ls x.done ≡ Some r) (sym is_ahead) t.is_step in
        record {
          bytes = t.bytes;
          answers = λ y is_y code fr. subst (λ (z : Slot). (taken_next s.geometry z.job z.ahead z.done ≡ Some (length t.bytes)) × AreTruthful s.geometry l w.past z.ahead t.bytes) (some_same x y (sym e ∙ is_y)) (takes, truthful);
          is_after = ap (after_answers s w l t.bytes) e ∙ (ap (after_slot_answers s w l t.bytes x) c ∙ (rw (free, answered) refl ∙ ap Some same));
        }

slot_so : (s : Channel) (w : World) (l : Lun) (a : After) (x : Slot) (code : Option ℕ) → IsChannel s → LawfulWorld s w → slot_of s w l ≡ Some x → x.code ≡ code → after_slot_step s w l x code ≡ Some a → StepSo s w l a
slot_so s w l a x (Some code) is law e c h =
    record {
      bytes = [];
      answers = λ y is_y code_y free. absurd (never_both y.code (ap (λ (z : Slot). z.code) (some_same y x (sym is_y ∙ e)) ∙ c) code_y);
      is_after = ap (after_answers s w l []) e ∙ (ap (after_slot_answers s w l [] x) c ∙ h);
    }
slot_so s w l a x None is law e c h = at (is_held w.holder l) refl h
  where
    strode : (o : Option Stride) → is_held w.holder l ≡ false → next_step s x.job w.past x.ahead x.done ≡ o → and_then o (λ r. Some (after_stride s w l x.job r)) ≡ Some a → StepSo s w l a
    strode None free n k = cc
    strode (Some r) free n k = step_by s w l a x r is law e c free n (some_same (after_stride s w l x.job r) a k)

    at : (b : Bool) → is_held w.holder l ≡ b → cond b (stands w Held) (and_then (next_step s x.job w.past x.ahead x.done) (λ r. Some (after_stride s w l x.job r))) ≡ Some a → StepSo s w l a
    at true held k =
        record {
          bytes = [];
          answers = λ y is_y code_y free. absurd (true_false (is_held w.holder l) held free);
          is_after = ap (after_answers s w l []) e ∙ (ap (after_slot_answers s w l [] x) c ∙ (rw held k));
        }
    at false free k = strode (next_step s x.job w.past x.ahead x.done) free refl k

step_so : (s : Channel) (w : World) (l : Lun) (a : After) (slot : Option Slot) → IsChannel s → LawfulWorld s w → slot_of s w l ≡ slot → after_step s w l slot ≡ Some a → StepSo s w l a
step_so s w l a None is law e h = record { bytes = []; answers = λ y is_y code free. absurd (none_some (sym e ∙ is_y)); is_after = ap (after_answers s w l []) e ∙ h }
step_so s w l a (Some x) is law e h = slot_so s w l a x x.code is law e refl h

-- 2. an event

record EventSo (s : Channel) (w : World) (e : Event) (a : After) : Type 0 where
  live : LiveEvent
  same : plain live ≡ e
  answered : IsAnswered s w live
  is_after : after_live s w live ≡ Some a

event_so : (s : Channel) (w : World) (e : Event) (a : After) → IsChannel s → LawfulWorld s w → after s w e ≡ Some a → EventSo s w e a
event_so s w (ALoad l j) a is law h = record { live = Load l j; same = refl; answered = tt; is_after = h }
event_so s w (AStep l) a is law h = let k = step_so s w l a (slot_of s w l) is law refl h in record { live = Step l k.bytes; same = refl; answered = k.answers; is_after = k.is_after }
event_so s w (AReady l fail) a is law h = record { live = Ready l fail; same = refl; answered = tt; is_after = h }
event_so s w (AnArrayReady l fail) a is law h = record { live = ArrayReady l fail; same = refl; answered = tt; is_after = h }
event_so s w (AnUnload l) a is law h = record { live = Unload l; same = refl; answered = tt; is_after = h }

-- 3. a run

record RunSo (s : Channel) (events : List Event) (w : World) (ran : Ran) : Type 0 where
  live : List LiveEvent
  same : map plain live ≡ events
  answered : AllAnswered s live w
  is_ran : run_live s live w ≡ Some ran

run_so : (s : Channel) (events : List Event) (w : World) (ran : Ran) → IsChannel s → LawfulWorld s w → AllLoadVerified events → run s events w ≡ Some ran → RunSo s events w ran
run_so s [] w ran is law v h = record { live = []; same = refl; answered = tt; is_ran = h }
run_so s (e ∷ events) w ran is law v h =
    let k = events_go_well s w e is law v.0 in
    let one = event_so s w e k.then is law k.is_then in
    let whole : with_first k.then (run s events k.then.world) ≡ Some ran = sym (ap (λ (o : Option After). and_then o (λ a. with_first a (run s events a.world))) k.is_then) ∙ h in
    at k.then one (λ q is_q. run_so s events k.then.world q is k.lawful v.1 is_q) (run s events k.then.world) refl whole
  where
    at : (a : After) (one : EventSo s w e a) → ((q : Ran) → run s events a.world ≡ Some q → RunSo s events a.world q) → (o : Option Ran) → run s events a.world ≡ o → with_first a o ≡ Some ran → RunSo s (e ∷ events) w ran
    at a one rest None is_o h = cc
    at a one rest (Some q) is_o h =
        let r = rest q is_o in
        record {
          live = one.live ∷ r.live;
          same = ap (λ (x : Event). x ∷ map plain r.live) one.same ∙ ap (λ (xs : List Event). e ∷ xs) r.same;
          answered = (one.answered, λ b is_b. subst (λ (c : After). AllAnswered s r.live c.world) (some_same a b (sym one.is_after ∙ is_b)) r.answered);
          is_ran = rw one.is_after (rw r.is_ran h);
        }

pub models_are_live : ModelsAreLive
models_are_live s events ran is v h = let k = run_so s events (fresh s) ran is (fresh_is_lawful s) v h in record { live = k.live; same = k.same; answered = k.answered; is_ran = k.is_ran }
