-- A list of events with more behind it, and what an unload gives.
use Rattle.std.proofs.Common.{◌≡◌, ℕ, List, [], ◌∷◌, ◌++◌, Option, Some, None, refl, sym, ap, ◌∙◌, subst}
use Rattle.onfi_cycle.specs.declared.lun.Lun.{Lun}
use Rattle.onfi_cycle.specs.Channel.{Channel}
use Rattle.micro_program.specs.Program.{Job, buffer_now}
use Rattle.micro_program.specs.Moves.{and_then}
use Rattle.seq_core.specs.World.{Slot, World, slot_of, fresh}
use Rattle.seq_core.specs.Event.{Event, AllLoadVerified}
use Rattle.seq_core.specs.Reply.{ToUnload, Unloaded}
use Rattle.seq_core.specs.After.{After, Ran, after, after_slot_unload, after_unload, run}
use Rattle.seq_core.specs.Buffer.{KeepsOthers}
use Rattle.seq_core.specs.Lawful.{LawfulSlot, DoesItsText, has_bus}
use Rattle.seq_core.specs.Headline.{AddsItsOwn, EventsAreOwn, BeginningsGoWell, RunsGoOn, UnloadsGiveBack, GivesBack}
use Rattle.seq_core.proofs.Main.{headline, run_goes_well, lawful_slot}
use Rattle.seq_core.proofs.Runnings.{same_after, same_ran, with_first}

-- 1. more behind a list

first_verified : (events more : List Event) → AllLoadVerified (events ++ more) → AllLoadVerified events
first_verified [] more v = tt
first_verified (e ∷ events) more v = (v.0, first_verified events more v.1)

rest_verified : (events more : List Event) → AllLoadVerified (events ++ more) → AllLoadVerified more
rest_verified [] more v = v
rest_verified (e ∷ events) more v = rest_verified events more v.1

abbrev run_of : Ran → Ran → Ran
run_of first rest = record { world = rest.world; replies = first.replies ++ rest.replies }

-- a run, and another from where it ends
abbrev Extends : Channel → List Event → List Event → Ran → World → Type 0
Extends s events more rest w = (first : Ran) → run s events w ≡ Some first → run s more first.world ≡ Some rest → run s (events ++ more) w ≡ Some (run_of first rest)

run_on : (s : Channel) (events more : List Event) (rest : Ran) (w : World) → Extends s events more rest w
run_on s [] more rest w first is is_rest =
    subst (λ (r : Ran). run s more r.world ≡ Some rest → run s more w ≡ Some (run_of r rest)) (same_ran (record { world = w; replies = [] }) first is) (λ h. h) is_rest
run_on s (e ∷ events) more rest w first is is_rest = of (after s w e) (λ a. run_on s events more rest a.world) is
  where
    then_run : (a : After) (o : Option Ran) → Extends s events more rest a.world → run s events a.world ≡ o → with_first a o ≡ Some first → with_first a (run s (events ++ more) a.world) ≡ Some (run_of first rest)
    then_run a None later e is = cc
    then_run a (Some r) later e is =
        subst (λ (q : Ran). run s more q.world ≡ Some rest → with_first a (run s (events ++ more) a.world) ≡ Some (run_of q rest)) (same_ran (record { world = r.world; replies = a.reply ∷ r.replies }) first is)
        (λ h. rw (later r e h) refl) is_rest

    of : (o : Option After) → ((a : After) → Extends s events more rest a.world) → and_then o (λ a. with_first a (run s events a.world)) ≡ Some first → and_then o (λ a. with_first a (run s (events ++ more) a.world)) ≡ Some (run_of first rest)
    of None later is = cc
    of (Some a) later is = then_run a (run s events a.world) (later a) refl is

pub beginnings_go_well : BeginningsGoWell
beginnings_go_well s events more is v =
    let first = headline s events is (first_verified events more v) in
    let rest = run_goes_well s is more first.ran.world first.lawful (rest_verified events more v) in
    record { first = first; rest = rest.ran; is_rest = rest.is_ran; whole = run_on s events more rest.ran (fresh s) first.ran first.is_ran rest.is_ran }

-- 2. one event more

-- a run goes on with any event that is defined where it ends
abbrev GoesOnWith : Channel → List Event → World → Event → Ran → Type 0
GoesOnWith s events w e ran =
    (a : After) → after s ran.world e ≡ Some a → AddsItsOwn s e ran.world.past a.world.past →
    (run s (events ++ (e ∷ [])) w ≡ Some (record { world = a.world; replies = ran.replies ++ (a.reply ∷ []) })) × EventsAreOwn s (events ++ (e ∷ [])) w

goes_on_with : (s : Channel) (events : List Event) (w : World) (e : Event) (ran : Ran) → run s events w ≡ Some ran → EventsAreOwn s events w → GoesOnWith s events w e ran
goes_on_with s [] w e ran is own =
    subst (GoesOnWith s [] w e) (same_ran (record { world = w; replies = [] }) ran is) (λ a is_a own_a. (rw is_a refl, (a, is_a, own_a, tt)))
goes_on_with s (d ∷ events) w e ran is own =
    let b = own.0 in
    let is_b : after s w d ≡ Some b = own.1 in
    let whole : with_first b (run s events b.world) ≡ Some ran = sym (ap (λ (o : Option After). and_then o (λ x. with_first x (run s events x.world))) is_b) ∙ is in
    at b is_b own.2 (λ r h. goes_on_with s events b.world e r h own.3) (run s events b.world) refl whole
  where
    at : (b : After) → after s w d ≡ Some b → AddsItsOwn s d w.past b.world.past → ((r : Ran) → run s events b.world ≡ Some r → GoesOnWith s events b.world e r) → (o : Option Ran) → run s events b.world ≡ o → with_first b o ≡ Some ran → GoesOnWith s (d ∷ events) w e ran
    at b is_b own_b more None h whole = cc
    at b is_b own_b more (Some r) h whole =
        subst (GoesOnWith s (d ∷ events) w e) (same_ran (record { world = r.world; replies = b.reply ∷ r.replies }) ran whole)
        (λ a is_a own_a. let m = more r h a is_a own_a in (rw is_b (rw m.0 refl), (b, is_b, own_b, m.1)))

pub runs_go_on : RunsGoOn
runs_go_on s events w e ran a is own is_a own_a = goes_on_with s events w e ran is own a is_a own_a

-- 3. an unload

record SameGiven (j k : Job) (code other : ℕ) : Type 0 where
  job : j ≡ k
  is_code : code ≡ other

same_given : (j k : Job) (code other : ℕ) → ToUnload (Unloaded j code) ≡ ToUnload (Unloaded k other) → SameGiven j k code other
same_given j k code other h = record { job = cc; is_code = cc }

given_back : (s : Channel) (w : World) (l : Lun) (j : Job) (code : ℕ) (x : Slot) (ended : Option ℕ) → LawfulSlot s w.past (has_bus w.holder l) l x → slot_of s w l ≡ Some x → x.code ≡ ended → DoesItsText s x ended → (after_slot_unload s w l x ended).reply ≡ ToUnload (Unloaded j code) → GivesBack s w l j code
given_back s w l j code x None law is c text e = cc
given_back s w l j code x (Some n) law is c text e =
    let same = same_given (record x.job { buffer = buffer_now x.job.buffer x.done }) j n code e in
    record {
      slot = x;
      is_slot = is;
      is_code = c ∙ ap Some same.is_code;
      ended = subst (λ (m : ℕ). DoesItsText s x (Some m)) same.is_code text;
      within = law.within;
      job = sym same.job;
      others = subst (λ (k : Job). KeepsOthers x.done x.job.buffer k.buffer) same.job law.within.others;
    }

pub unloads_give_back : UnloadsGiveBack
unloads_give_back s w l j code a law is reply = of (slot_of s w l) refl (ap (λ (b : After). b.reply) (same_after _ a is) ∙ reply)
  where
    of : (slot : Option Slot) → slot_of s w l ≡ slot → (after_unload s w l slot).reply ≡ ToUnload (Unloaded j code) → GivesBack s w l j code
    of None e h = cc
    of (Some x) e h = let k = lawful_slot s w law l x e in given_back s w l j code x x.code k e refl k.text h
