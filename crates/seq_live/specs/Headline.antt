-- The laws of a real bus, the main theorem last.
use Rattle.std.specs.Prelude.{◌≡◌, true, List, [], ◌∷◌, Option, Some, None, map}
use Rattle.onfi_cycle.specs.declared.lun.Lun.{Lun}
use Rattle.onfi_cycle.specs.Permitted.{is_legal}
use Rattle.onfi_cycle.specs.Channel.{Channel, IsChannel, is_there}
use Rattle.seq_core.specs.World.{Slot, World, slot_of, fresh}
use Rattle.seq_core.specs.Event.{Event, LoadsVerified, AllLoadVerified as AllVerified}
use Rattle.seq_core.specs.After.{After, Ran, run}
use Rattle.seq_core.specs.Made.{Running, running_after, RunsAsTold}
use Rattle.seq_core.specs.Lawful.{IsWithin, DoesItsText, LawfulWorld}
use Rattle.seq_core.specs.Headline.{AddsItsOwn}
use Rattle.seq_live.specs.Event.{LiveEvent, plain, AllLoadVerified}
use Rattle.seq_live.specs.After.{after_live, run_live, IsAnswered, AllAnswered}

-- an event is defined, adds what is its own, and leaves a lawful world
pub record LiveEventGoesWell (s : Channel) (w : World) (e : LiveEvent) : Type 0 where
  pub then : After
  pub is_then : after_live s w e ≡ Some then
  pub own : AddsItsOwn s (plain e) w.past then.world.past
  pub lawful : LawfulWorld s then.world

-- the law: every event of a lawful world goes well, if a job that it loads is verified and its step is answered
abbrev pub LiveEventsGoWell : Type 0
LiveEventsGoWell = (s : Channel) (w : World) (e : LiveEvent) → IsChannel s → LawfulWorld s w → LoadsVerified (plain e) → IsAnswered s w e → LiveEventGoesWell s w e

-- each of these events adds what is its own, from this world on
abbrev pub LiveEventsAreOwn : Channel → List LiveEvent → World → Type 0
LiveEventsAreOwn s [] w = Unit {0}
LiveEventsAreOwn s (e ∷ events) w =
    (a : After) × (after_live s w e ≡ Some a) × AddsItsOwn s (plain e) w.past a.world.past × LiveEventsAreOwn s events a.world

-- what runs on a LUN after these events, by the events alone
abbrev pub running_live : Channel → Lun → List LiveEvent → World → Option Running → Option Running
running_live s l [] w r = r
running_live s l (e ∷ events) w r = running_after l (plain e) w r (after_live s w e) (running_live s l events)

-- a run is defined, its trace is legal, each of its events adds what is its own, and the world is lawful. Each program has stayed
-- inside its buffer and its budget and has done a beginning of what its text means with the bytes that the chips gave, and what the events
-- put into the trace for it are the cycles of that beginning
pub record LiveGoesWell (s : Channel) (events : List LiveEvent) : Type 0 where
  pub ran : Ran
  pub is_ran : run_live s events (fresh s) ≡ Some ran
  pub legal : is_legal s.geometry s.targets ran.world.past ≡ true
  pub own : LiveEventsAreOwn s events (fresh s)
  pub within : (l : Lun) (x : Slot) → slot_of s ran.world l ≡ Some x → IsWithin s x
  pub text : (l : Lun) (x : Slot) → slot_of s ran.world l ≡ Some x → DoesItsText s x x.code
  pub cycles : (l : Lun) → is_there s l ≡ true → RunsAsTold s (slot_of s ran.world l) (running_live s l events (fresh s) None)
  pub lawful : LawfulWorld s ran.world

-- the law: every list of events whose loaded jobs are verified and whose steps are answered goes well
abbrev pub LiveHeadline : Type 0
LiveHeadline = (s : Channel) (events : List LiveEvent) → IsChannel s → AllLoadVerified events → AllAnswered s events (fresh s) → LiveGoesWell s events

-- a run of a model as a run of a real bus: the same events with bytes that answer each step, here those that the model shows
pub record IsLiveRunOf (s : Channel) (events : List Event) (ran : Ran) : Type 0 where
  pub live : List LiveEvent
  pub same : map plain live ≡ events
  pub answered : AllAnswered s live (fresh s)
  pub is_ran : run_live s live (fresh s) ≡ Some ran

-- the law: each run of a model is a run of a real bus. So what is said of these is said of it too
abbrev pub ModelsAreLive : Type 0
ModelsAreLive = (s : Channel) (events : List Event) (ran : Ran) → IsChannel s → AllVerified events → run s events (fresh s) ≡ Some ran → IsLiveRunOf s events ran
