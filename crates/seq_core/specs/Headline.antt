-- The laws of events and of runs, the main theorem last.
use Rattle.std.specs.Prelude.{◌≡◌, ◌⊎◌, ℕ, Bool, true, false, not, List, [], ◌∷◌, ◌++◌, Some, None}
use Rattle.onfi_cycle.specs.declared.lun.Lun.{Lun}
use Rattle.onfi_cycle.specs.declared.item.Item.{Item}
use Rattle.onfi_cycle.specs.declared.item.Item.TheVariants.{Rdy, Ard}
use Rattle.onfi_cycle.specs.Permitted.{is_legal}
use Rattle.onfi_cycle.specs.Channel.{Channel, IsChannel, is_there}
use Rattle.micro_program.specs.Program.{Job, buffer_now}
use Rattle.micro_program.specs.Safe.{AddsOwn}
use Rattle.seq_core.specs.declared.stepped.Stepped.TheVariants.{Empty, Held}
use Rattle.seq_core.specs.World.{Slot, World, slot_of, fresh}
use Rattle.seq_core.specs.Event.{Event, Load, Step, Ready, ArrayReady, Unload, LoadsVerified, AllLoadVerified}
use Rattle.seq_core.specs.Reply.{Reply, ToLoad, ToStep, ToReady, ToArrayReady, ToUnload, NotLoaded, Unloaded, NotUnloaded}
use Rattle.seq_core.specs.After.{After, Ran, after, run}
use Rattle.seq_core.specs.Buffer.{KeepsOthers}
use Rattle.seq_core.specs.Made.{running_on, RunsAsTold}
use Rattle.seq_core.specs.Lawful.{IsWithin, HasEnded, DoesItsText, LawfulWorld}

-- nothing, or this item alone, was added to a trace
abbrev pub AddsAtMost : Item → List Item → List Item → Type 0
AddsAtMost i before later = (later ≡ before) ⊎ (later ≡ i ∷ before)

-- what an event adds to the trace. A step: cycles of its LUN, each permitted where it comes; their rows name the LUN, and the
-- LUN is the one driver of their outputs. A ready: itself, if it comes. Others: nothing
abbrev pub AddsItsOwn : Channel → Event → List Item → List Item → Type 0
AddsItsOwn s (Step l) before later = AddsOwn s l before later
AddsItsOwn s (Ready l fail) before later = AddsAtMost (Rdy l.ce l.lun fail) before later
AddsItsOwn s (ArrayReady l fail) before later = AddsAtMost (Ard l.ce l.lun fail) before later
AddsItsOwn s (Load l j) before later = later ≡ before
AddsItsOwn s (Unload l) before later = later ≡ before

-- an event is defined, adds what is its own, and leaves a lawful world
pub record EventGoesWell (s : Channel) (w : World) (e : Event) : Type 0 where
  pub then : After
  pub is_then : after s w e ≡ Some then
  pub own : AddsItsOwn s e w.past then.world.past
  pub lawful : LawfulWorld s then.world

-- the law: in a lawful world the LUN that has the bus has a program that goes on, so the bus isn't kept for nothing
abbrev pub HoldersGoOn : Type 0
HoldersGoOn = (s : Channel) (w : World) (l : Lun) → LawfulWorld s w → w.holder ≡ Some l → (x : Slot) × (slot_of s w l ≡ Some x) × (x.code ≡ None)

-- the law: every event of a lawful world goes well, if a job that it loads is verified
abbrev pub EventsGoWell : Type 0
EventsGoWell = (s : Channel) (w : World) (e : Event) → IsChannel s → LawfulWorld s w → LoadsVerified e → EventGoesWell s w e

-- the answer of an event that was refused
abbrev pub is_refusal : Reply → Bool
is_refusal (ToLoad (NotLoaded fault j)) = true
is_refusal (ToStep Empty) = true
is_refusal (ToStep Held) = true
is_refusal (ToReady came) = not came
is_refusal (ToArrayReady came) = not came
is_refusal (ToUnload (NotUnloaded fault)) = true
is_refusal _ = false

-- the law: an event that was refused changes nothing
abbrev pub RefusalsChangeNothing : Type 0
RefusalsChangeNothing = (s : Channel) (w : World) (e : Event) (a : After) → after s w e ≡ Some a → is_refusal a.reply ≡ true → a.world ≡ w

-- the law: the world before the first event is lawful
abbrev pub FreshIsLawful : Type 0
FreshIsLawful = (s : Channel) → LawfulWorld s (fresh s)

-- each of these events adds what is its own, from this world on
abbrev pub EventsAreOwn : Channel → List Event → World → Type 0
EventsAreOwn s [] w = Unit {0}
EventsAreOwn s (e ∷ events) w =
    (a : After) × (after s w e ≡ Some a) × AddsItsOwn s e w.past a.world.past × EventsAreOwn s events a.world

-- a run is defined, its trace is legal, each of its events adds what is its own, and the world is lawful. Each program has stayed
-- inside its buffer and its budget and has done a beginning of what its text means, and what the events put into the trace for it
-- are the cycles of that beginning
pub record GoesWell (s : Channel) (events : List Event) : Type 0 where
  pub ran : Ran
  pub is_ran : run s events (fresh s) ≡ Some ran
  pub legal : is_legal s.geometry s.targets ran.world.past ≡ true
  pub own : EventsAreOwn s events (fresh s)
  pub within : (l : Lun) (x : Slot) → slot_of s ran.world l ≡ Some x → IsWithin s x
  pub text : (l : Lun) (x : Slot) → slot_of s ran.world l ≡ Some x → DoesItsText s x x.code
  pub cycles : (l : Lun) → is_there s l ≡ true → RunsAsTold s (slot_of s ran.world l) (running_on s l events (fresh s) None)
  pub lawful : LawfulWorld s ran.world

-- the law: every list of events whose loaded jobs are verified goes well
abbrev pub Headline : Type 0
Headline = (s : Channel) (events : List Event) → IsChannel s → AllLoadVerified events → GoesWell s events

-- the first events of a list go well, and the run of the whole list goes on from the world that they leave
pub record GoesOn (s : Channel) (events more : List Event) : Type 0 where
  pub first : GoesWell s events
  pub rest : Ran
  pub is_rest : run s more first.ran.world ≡ Some rest
  pub whole : run s (events ++ more) (fresh s) ≡ Some (record { world = rest.world; replies = first.ran.replies ++ rest.replies })

-- the law: whatever follows them, the first events of a list go well. So what is said of the programs at the end of a list
-- holds of each program that was loaded, at every place of the list
abbrev pub BeginningsGoWell : Type 0
BeginningsGoWell = (s : Channel) (events more : List Event) → IsChannel s → AllLoadVerified (events ++ more) → GoesOn s events more

-- what an unload gives: the slot's job, with the buffer as its program left it. The program ended with this code and has done all
-- that its text means, inside buffer and budget; each byte of the buffer that no `get` filled is the one that came with the job
pub record GivesBack (s : Channel) (w : World) (l : Lun) (j : Job) (code : ℕ) : Type 0 where
  pub slot : Slot
  pub is_slot : slot_of s w l ≡ Some slot
  pub is_code : slot.code ≡ Some code
  pub ended : HasEnded s slot code
  pub within : IsWithin s slot
  pub job : j ≡ record slot.job { buffer = buffer_now slot.job.buffer slot.done }
  pub others : KeepsOthers slot.done slot.job.buffer j.buffer

-- the law: an unload that gives a job gives it back so
abbrev pub UnloadsGiveBack : Type 0
UnloadsGiveBack =
    (s : Channel) (w : World) (l : Lun) (j : Job) (code : ℕ) (a : After) → LawfulWorld s w → after s w (Unload l) ≡ Some a
    → a.reply ≡ ToUnload (Unloaded j code) → GivesBack s w l j code

-- the law: a run goes on with any event that is defined where it ends and adds what is its own
abbrev pub RunsGoOn : Type 0
RunsGoOn =
    (s : Channel) (events : List Event) (w : World) (e : Event) (ran : Ran) (a : After) → run s events w ≡ Some ran → EventsAreOwn s events w
    → after s ran.world e ≡ Some a → AddsItsOwn s e ran.world.past a.world.past
    → (run s (events ++ (e ∷ [])) w ≡ Some (record { world = a.world; replies = ran.replies ++ (a.reply ∷ []) })) × EventsAreOwn s (events ++ (e ∷ [])) w
