-- The cycles that the steps of a program put into the trace of a real bus are those of its actions so far: by induction on the events.
use Rattle.std.proofs.Common.{◌≡◌, ℕ, ◌*◌, Bool, true, false, cond, List, [], ◌∷◌, Option, Some, None, refl, sym, ap, ◌∙◌, subst, length, length-set}
use Rattle.std.proofs.lemmas.List.{length-replicate}
use Rattle.onfi_cycle.specs.declared.lun.Lun.{Lun}
use Rattle.onfi_cycle.specs.Channel.{Channel, is_there, same_lun}
use Rattle.micro_program.specs.Moves.{and_then}
use Rattle.micro_program.specs.Step.{Stride, answered_step}
use Rattle.seq_core.specs.declared.stepped.Stepped.TheVariants.{Empty, Held, Ended}
use Rattle.seq_core.specs.World.{Slot, World, slot_of, fresh}
use Rattle.seq_core.specs.Event.{Step as AStep, Load as ALoad, Ready as AReady, ArrayReady as AnArrayReady, Unload as AnUnload}
use Rattle.seq_core.specs.Reply.{ToStep}
use Rattle.seq_core.specs.After.{After, Ran, is_held, stands, after_stride}
use Rattle.seq_core.specs.Lawful.{IsWithin}
use Rattle.seq_core.specs.Made.{Running, added, with_cycles, is_of, running_after, RunsAsTold}
use Rattle.seq_core.proofs.Slots.{there_of_slot, none_of_fresh}
use Rattle.seq_core.proofs.Runnings.{same_after, same_ran}
use Rattle.seq_core.proofs.Making.{MakesAsTold, told, strides_made, stands_made, event_made, event_size, as_told}
use Rattle.seq_live.specs.Event.{LiveEvent, Load, Step, Ready, ArrayReady, Unload, plain}
use Rattle.seq_live.specs.After.{after_slot_answers, after_answers, after_live, with_first, run_live}
use Rattle.seq_live.specs.Headline.{running_live}

-- 1. an event

step_made : (s : Channel) (bytes : List ℕ) (w : World) (m l : Lun) (slot : Option Slot) (a : After) (r : Option Running) (b : Bool) → slot_of s w m ≡ slot → after_answers s w m bytes slot ≡ Some a → same_lun m l ≡ b → is_there s l ≡ true → length w.slots ≡ s.targets * s.geometry.luns → MakesAsTold s (slot_of s w l) r → MakesAsTold s (slot_of s a.world l) (told b (AStep m) w a r)
step_made s bytes w m l None a r b is e same there size h = stands_made s w l b Empty a r e h
step_made s bytes w m l (Some x) a r b is e same there size h = of x.code e
  where
    strode : (o : Option Stride) → answered_step s.geometry x.job bytes w.past x.ahead x.done ≡ o → and_then o (λ q. Some (after_stride s w m x.job q)) ≡ Some a → MakesAsTold s (slot_of s a.world l) (cond b (with_cycles (added w.past a.world.past) r) r)
    strode None n e = cc
    strode (Some q) n e =
        subst (λ (y : After). MakesAsTold s (slot_of s y.world l) (cond b (with_cycles (added w.past y.world.past) r) r)) (same_after (after_stride s w m x.job q) a e)
        (strides_made s bytes w m l x.job x.ahead x.done x.code q r b n same (there_of_slot s w m x is) there size is h)

    free : (held : Bool) → cond held (stands w Held) (and_then (answered_step s.geometry x.job bytes w.past x.ahead x.done) (λ q. Some (after_stride s w m x.job q))) ≡ Some a → MakesAsTold s (slot_of s a.world l) (cond b (with_cycles (added w.past a.world.past) r) r)
    free true e = stands_made s w l b Held a r e h
    free false e = strode (answered_step s.geometry x.job bytes w.past x.ahead x.done) refl e

    of : (code : Option ℕ) → after_slot_answers s w m bytes x code ≡ Some a → MakesAsTold s (slot_of s a.world l) (cond b (with_cycles (added w.past a.world.past) r) r)
    of (Some code) e = stands_made s w l b Ended a r e h
    of None e = free (is_held w.holder m) e

live_event_made : (s : Channel) (w : World) (l : Lun) (e : LiveEvent) (a : After) (r : Option Running) → after_live s w e ≡ Some a → is_there s l ≡ true → length w.slots ≡ s.targets * s.geometry.luns → MakesAsTold s (slot_of s w l) r → MakesAsTold s (slot_of s a.world l) (told (is_of (plain e) l) (plain e) w a r)
live_event_made s w l (Load m j) a r is there size h = event_made s w l (ALoad m j) a r is there size h
live_event_made s w l (Step m bytes) a r is there size h = step_made s bytes w m l (slot_of s w m) a r (same_lun m l) refl is refl there size h
live_event_made s w l (Ready m fail) a r is there size h = event_made s w l (AReady m fail) a r is there size h
live_event_made s w l (ArrayReady m fail) a r is there size h = event_made s w l (AnArrayReady m fail) a r is there size h
live_event_made s w l (Unload m) a r is there size h = event_made s w l (AnUnload m) a r is there size h

-- the slots stay as many
step_size : (s : Channel) (bytes : List ℕ) (w : World) (m : Lun) (slot : Option Slot) (a : After) → after_answers s w m bytes slot ≡ Some a → length a.world.slots ≡ length w.slots
step_size s bytes w m None a e = sym (ap (λ (x : After). length x.world.slots) (same_after (record { world = w; reply = ToStep Empty }) a e))
step_size s bytes w m (Some x) a e = of x.code e
  where
    strode : (o : Option Stride) → and_then o (λ q. Some (after_stride s w m x.job q)) ≡ Some a → length a.world.slots ≡ length w.slots
    strode None e = cc
    strode (Some q) e = sym (ap (λ (y : After). length y.world.slots) (same_after (after_stride s w m x.job q) a e)) ∙ length-set w.slots _ _

    free : (held : Bool) → cond held (stands w Held) (and_then (answered_step s.geometry x.job bytes w.past x.ahead x.done) (λ q. Some (after_stride s w m x.job q))) ≡ Some a → length a.world.slots ≡ length w.slots
    free true e = sym (ap (λ (y : After). length y.world.slots) (same_after (record { world = w; reply = ToStep Held }) a e))
    free false e = strode (answered_step s.geometry x.job bytes w.past x.ahead x.done) e

    of : (code : Option ℕ) → after_slot_answers s w m bytes x code ≡ Some a → length a.world.slots ≡ length w.slots
    of (Some code) e = sym (ap (λ (y : After). length y.world.slots) (same_after (record { world = w; reply = ToStep Ended }) a e))
    of None e = free (is_held w.holder m) e

live_event_size : (s : Channel) (w : World) (e : LiveEvent) (a : After) → after_live s w e ≡ Some a → length a.world.slots ≡ length w.slots
live_event_size s w (Load m j) a is = event_size s w (ALoad m j) a is
live_event_size s w (Step m bytes) a is = step_size s bytes w m (slot_of s w m) a is
live_event_size s w (Ready m fail) a is = event_size s w (AReady m fail) a is
live_event_size s w (ArrayReady m fail) a is = event_size s w (AnArrayReady m fail) a is
live_event_size s w (Unload m) a is = event_size s w (AnUnload m) a is

-- 2. a run

-- of the events behind this one
abbrev Later : Channel → List LiveEvent → World → Lun → LiveEvent → Option Running → Type 0
Later s events w l e r = (a : After) (q : Ran) → after_live s w e ≡ Some a → run_live s events a.world ≡ Some q → MakesAsTold s (slot_of s q.world l) (running_live s l events a.world (told (is_of (plain e) l) (plain e) w a r))

run_made : (s : Channel) (events : List LiveEvent) (w : World) (l : Lun) (r : Option Running) (ran : Ran) → run_live s events w ≡ Some ran → is_there s l ≡ true → length w.slots ≡ s.targets * s.geometry.luns → MakesAsTold s (slot_of s w l) r → MakesAsTold s (slot_of s ran.world l) (running_live s l events w r)
run_made s [] w l r ran is there size h =
    subst (λ (x : Ran). MakesAsTold s (slot_of s x.world l) r) (same_ran (record { world = w; replies = [] }) ran is) h
run_made s (e ∷ events) w l r ran is there size h =
    of (after_live s w e) refl is (λ a q is_a is_q. run_made s events a.world l (told (is_of (plain e) l) (plain e) w a r) q is_q there (live_event_size s w e a is_a ∙ size) (live_event_made s w l e a r is_a there size h))
  where
    then_run : (a : After) (o : Option Ran) → run_live s events a.world ≡ o → after_live s w e ≡ Some a → with_first a o ≡ Some ran → Later s events w l e r → MakesAsTold s (slot_of s ran.world l) (running_live s l events a.world (told (is_of (plain e) l) (plain e) w a r))
    then_run a None is_q is_a is later = cc
    then_run a (Some q) is_q is_a is later =
        subst (λ (x : Ran). MakesAsTold s (slot_of s x.world l) (running_live s l events a.world (told (is_of (plain e) l) (plain e) w a r))) (same_ran (record { world = q.world; replies = a.reply ∷ q.replies }) ran is)
        (later a q is_a is_q)

    of : (o : Option After) → after_live s w e ≡ o → and_then o (λ a. with_first a (run_live s events a.world)) ≡ Some ran → Later s events w l e r → MakesAsTold s (slot_of s ran.world l) (running_after l (plain e) w r o (running_live s l events))
    of None is_a is later = cc
    of (Some a) is_a is later = then_run a (run_live s events a.world) refl is_a is later

-- after a run from the fresh world each slot has made the cycles that the events tell
pub runs_as_told : (s : Channel) (events : List LiveEvent) (ran : Ran) → run_live s events (fresh s) ≡ Some ran → ((l : Lun) (x : Slot) → slot_of s ran.world l ≡ Some x → IsWithin s x) → (l : Lun) → is_there s l ≡ true → RunsAsTold s (slot_of s ran.world l) (running_live s l events (fresh s) None)
runs_as_told s events ran is within l there =
    as_told s (slot_of s ran.world l) (running_live s l events (fresh s) None)
    (run_made s events (fresh s) l None ran is there (length-replicate (s.targets * s.geometry.luns) None)
    (subst (λ (o : Option Slot). MakesAsTold s o None) (sym (none_of_fresh s [] None (s.targets * s.geometry.luns) l)) tt))
    (within l)
