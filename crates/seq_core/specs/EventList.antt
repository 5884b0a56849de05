-- What doing a list of events is: the run of the events that were done.
use Rattle.std.specs.Prelude.{◌≡◌, List, [], ◌∷◌, ◌++◌, map, Result, Ok, Err, Option, Some, None}
use Rattle.seq_core.specs.declared.unload_fault.UnloadFault.{UnloadFault}
use Rattle.seq_core.specs.declared.sequencer.LoadRefused.{LoadRefused}
use Rattle.seq_core.specs.declared.sequencer.UnloadedJob.{UnloadedJob}
use Rattle.seq_core.specs.declared.event_list.Event.{Event as Asked}
use Rattle.seq_core.specs.declared.event_list.Event.TheVariants.{Load as AskLoad, Step as AskStep, Ready as AskReady, ArrayReady as AskArrayReady, Unload as AskUnload}
use Rattle.seq_core.specs.declared.event_list.Reply.{Reply as Answered}
use Rattle.seq_core.specs.declared.event_list.Reply.TheVariants.{Load as OfLoad, Step as OfStep, Ready as OfReady, ArrayReady as OfArrayReady, Unload as OfUnload}
use Rattle.seq_core.specs.declared.event_list.Shortage.{Shortage}
use Rattle.seq_core.specs.declared.event_list.Shortage.TheVariants.{ForReplies, ForStep}
use Rattle.seq_core.specs.World.{World, fresh}
use Rattle.seq_core.specs.Event.{Event, Load, Step, Ready, ArrayReady, Unload}
use Rattle.seq_core.specs.Reply.{Reply, Loading, Unloading, ToLoad, ToStep, ToReady, ToArrayReady, ToUnload, Loaded, NotLoaded, Unloaded, NotUnloaded}
use Rattle.seq_core.specs.After.{Ran, run}
use Rattle.seq_core.specs.Lawful.{LawfulWorld}
use Rattle.seq_core.specs.Shows.{CoreView, IsAt, channel_in}
use Rattle.seq_core.specs.Headline.{EventsAreOwn, GoesWell}
use Rattle.seq_core.specs.Calls.{CanGoOn}

-- the event that is asked for
abbrev pub event_of : {A : Type 0} → Asked A → Event
event_of (AskLoad l j) = Load l j
event_of (AskStep l) = Step l
event_of (AskReady l fail) = Ready l fail
event_of (AskArrayReady l fail) = ArrayReady l fail
event_of (AskUnload l) = Unload l

abbrev pub loading_of : {A : Type 0} → Result (Unit {0}) (LoadRefused A) → Loading
loading_of (Ok u) = Loaded
loading_of (Err e) = NotLoaded e.fault e.job

abbrev pub unloading_of : {A : Type 0} → Result (UnloadedJob A) UnloadFault → Unloading
unloading_of (Ok done) = Unloaded done.job done.code
unloading_of (Err fault) = NotUnloaded fault

-- the reply that was answered
abbrev pub reply_of : {A : Type 0} → Answered A → Reply
reply_of (OfLoad answer) = ToLoad (loading_of answer)
reply_of (OfStep answer) = ToStep answer
reply_of (OfReady came) = ToReady came
reply_of (OfArrayReady came) = ToArrayReady came
reply_of (OfUnload answer) = ToUnload (unloading_of answer)

-- the events run from this world on: the run is defined, answered so, and adds to the trace what is each event's own; the world
-- behind it is lawful, and is what is kept afterwards
pub record RanFrom (c : CoreView) (w : World) (events : List Event) (replies : List Reply) (later : CoreView) : Type 0 where
  pub ran : Ran
  pub is_ran : run (channel_in c) events w ≡ Some ran
  pub replied : ran.replies ≡ replies
  pub is_at : IsAt later ran.world
  pub own : EventsAreOwn (channel_in c) events w
  pub lawful : LawfulWorld (channel_in c) ran.world
  pub channel : channel_in later ≡ channel_in c

-- calls were this run of each lawful world that was kept
abbrev pub IsRun : CoreView → List Event → List Reply → CoreView → Type 0
IsRun c events replies later = (w : World) → IsAt c w → LawfulWorld (channel_in c) w → RanFrom c w events replies later

-- the first of the events were done, all but the rest: they were a run, and one that goes well if nothing had happened before
pub record DidEvents {A : Type 0} (c : CoreView) (events : List (Asked A)) (replies : List (Answered A)) (rest : List (Asked A)) (later : CoreView) : Type 0 where
  pub done : List (Asked A)
  pub parts : events ≡ done ++ rest
  pub is_run : IsRun c (map event_of done) (map reply_of replies) later
  pub goes_well : IsAt c (fresh (channel_in c)) → GoesWell (channel_in c) (map event_of done)

-- an event that wants memory: the step of a LUN whose program goes on, while no other LUN has the bus
abbrev pub WantsMemory : {A : Type 0} → CoreView → Asked A → Type 0
WantsMemory c (AskStep l) = CanGoOn c l
WantsMemory c _ = ⊥

-- all were done, or the first that wasn't wants memory
abbrev pub StopsAt : {A : Type 0} → CoreView → List (Asked A) → Type 0
StopsAt c [] = Unit {0}
StopsAt c (e ∷ events) = WantsMemory c e

-- what there was no memory for, if the first of these events wanted some
abbrev pub shortage_of : {A : Type 0} → List (Asked A) → Option Shortage
shortage_of [] = None
shortage_of (e ∷ events) = Some ForStep

-- some are left, and the first of them wants memory
abbrev pub WaitsAt : {A : Type 0} → CoreView → List (Asked A) → Type 0
WaitsAt c [] = ⊥
WaitsAt c (e ∷ events) = WantsMemory c e

-- what the events that are left are short of: nothing is left; or there was no memory for the replies, and nothing was done; or there
-- is none for the step that comes first
abbrev pub LeftFor : {A : Type 0} → (old new : CoreView) → (events : List (Asked A)) → List (Answered A) → (rest : List (Asked A)) → Option Shortage → Type 0
LeftFor old new events replies rest None = rest ≡ []
LeftFor old new events replies rest (Some ForReplies) = (new ≡ old) × (replies ≡ []) × (rest ≡ events)
LeftFor old new events replies rest (Some ForStep) = WaitsAt new rest
