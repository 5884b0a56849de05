-- Every event of a real bus goes well where its step is answered; the main theorem by induction on the events.
use Rattle.std.proofs.Common.{◌≡◌, ℕ, Bool, true, false, cond, List, [], ◌∷◌, Option, Some, None, refl, sym, ◌∙◌, subst, length}
use Rattle.onfi_cycle.specs.declared.lun.Lun.{Lun}
use Rattle.onfi_cycle.specs.Channel.{Channel, IsChannel}
use Rattle.micro_program.specs.Moves.{and_then}
use Rattle.micro_program.specs.Step.{answered_step}
use Rattle.micro_program.specs.Safe.{AddsOwn, AreTruthful}
use Rattle.seq_core.specs.declared.stepped.Stepped.TheVariants.{Empty, Held, Ended}
use Rattle.seq_core.specs.World.{Slot, World, slot_of}
use Rattle.seq_core.specs.Event.{Load as ALoad, Ready as AReady, ArrayReady as AnArrayReady, Unload as AnUnload}
use Rattle.seq_core.specs.After.{Ran, is_held, stands, after_stride}
use Rattle.seq_core.specs.Lawful.{LawfulWorld}
use Rattle.seq_core.proofs.Events.{StepLawful, nothing_done, live_steps_go_well}
use Rattle.seq_core.proofs.Main.{events_go_well, lawful_slot}
use Rattle.seq_live.specs.Event.{LiveEvent, Load, Step, Ready, ArrayReady, Unload, AllLoadVerified}
use Rattle.seq_live.specs.After.{after_slot_answers, after_answers, run_live, Answers, AllAnswered}
use Rattle.seq_live.specs.Headline.{LiveEventsGoWell, LiveEventsAreOwn}

some_same : {X : Type 0} (x y : X) → Some x ≡ Some y → x ≡ y
some_same x y h = cc

-- a step of a slot with a job
slot_well : (s : Channel) (w : World) (l : Lun) (bytes : List ℕ) (x : Slot) (code : Option ℕ) → LawfulWorld s w → slot_of s w l ≡ Some x → x.code ≡ code → Answers s w l bytes → StepLawful s w l (after_slot_answers s w l bytes x code)
slot_well s w l bytes x (Some code) law e c answers = nothing_done s w l Ended law
slot_well s w l bytes x None law e c answers = at (is_held w.holder l) refl
  where
    at : (b : Bool) → is_held w.holder l ≡ b → StepLawful s w l (cond b (stands w Held) (and_then (answered_step s.geometry x.job bytes w.past x.ahead x.done) (λ r. Some (after_stride s w l x.job r))))
    at true h = nothing_done s w l Held law
    at false h =
        let given = answers x e c h in
        let next = live_steps_go_well s w l x law e c h in
        let lun : x.job.lun ≡ l = (lawful_slot s w law l x e).lun in
        let many : length bytes ≡ next.count = some_same (length bytes) next.count (sym given.0 ∙ next.is_count) in
        let truthful : AreTruthful s.geometry x.job.lun w.past x.ahead bytes = subst (λ (m : Lun). AreTruthful s.geometry m w.past x.ahead bytes) (sym lun) given.1 in
        let k = next.goes bytes many truthful in
        record {
          a = after_stride s w l x.job k.r;
          is_a = rw k.is_r refl;
          own = subst (λ (m : Lun). AddsOwn s m w.past k.r.past) lun k.own;
          lawful = subst (λ (m : Lun). LawfulWorld s (after_stride s w m x.job k.r).world) lun k.lawful;
        }

step_well : (s : Channel) (w : World) (l : Lun) (bytes : List ℕ) (slot : Option Slot) → LawfulWorld s w → slot_of s w l ≡ slot → Answers s w l bytes → StepLawful s w l (after_answers s w l bytes slot)
step_well s w l bytes None law e answers = nothing_done s w l Empty law
step_well s w l bytes (Some x) law e answers = slot_well s w l bytes x x.code law e refl answers

pub live_events_go_well : LiveEventsGoWell
live_events_go_well s w (Load l j) is law v answered =
    let k = events_go_well s w (ALoad l j) is law v in record { then = k.then; is_then = k.is_then; own = k.own; lawful = k.lawful }
live_events_go_well s w (Step l bytes) is law v answered =
    let k = step_well s w l bytes (slot_of s w l) law refl answered in record { then = k.a; is_then = k.is_a; own = k.own; lawful = k.lawful }
live_events_go_well s w (Ready l fail) is law v answered =
    let k = events_go_well s w (AReady l fail) is law v in record { then = k.then; is_then = k.is_then; own = k.own; lawful = k.lawful }
live_events_go_well s w (ArrayReady l fail) is law v answered =
    let k = events_go_well s w (AnArrayReady l fail) is law v in record { then = k.then; is_then = k.is_then; own = k.own; lawful = k.lawful }
live_events_go_well s w (Unload l) is law v answered =
    let k = events_go_well s w (AnUnload l) is law v in record { then = k.then; is_then = k.is_then; own = k.own; lawful = k.lawful }

-- a run from a lawful world
pub record LiveRunGoesWell (s : Channel) (events : List LiveEvent) (w : World) : Type 0 where
  pub ran : Ran
  pub is_ran : run_live s events w ≡ Some ran
  pub own : LiveEventsAreOwn s events w
  pub lawful : LawfulWorld s ran.world

pub live_run_goes_well : (s : Channel) → IsChannel s → (events : List LiveEvent) (w : World) → LawfulWorld s w → AllLoadVerified events → AllAnswered s events w → LiveRunGoesWell s events w
live_run_goes_well s is [] w law v answered = record { ran = record { world = w; replies = [] }; is_ran = refl; own = tt; lawful = law }
live_run_goes_well s is (e ∷ events) w law v answered =
    let a = live_events_go_well s w e is law v.0 answered.0 in
    let r = live_run_goes_well s is events a.then.world a.lawful v.1 (answered.1 a.then a.is_then) in
    record {
      ran = record { world = r.ran.world; replies = a.then.reply ∷ r.ran.replies };
      is_ran = rw a.is_then (rw r.is_ran refl);
      own = (a.then, a.is_then, a.own, r.own);
      lawful = r.lawful;
    }
