-- What a call of a sequencer on a real bus is: an event, or several, of the world that it keeps.
use Rattle.std.specs.Prelude.{◌≡◌, ℕ, ◌+◌, ◌<◌, ◌==◌, ◌⊎◌, Bool, true, false, ◌&&◌, if◌then◌else◌, List, [], ◌∷◌, ◌++◌, Option, Some, None, length, slice_get}
use Rattle.std.specs.List.{list_all}
use Rattle.std.specs.Int.RustNames.{bit_and}
use Rattle.nand_geometry.specs.declared.parts.Parts.{Parts}
use Rattle.onfi_cycle.specs.declared.item.Failures.{Failures}
use Rattle.onfi_cycle.specs.declared.lun.Lun.{Lun}
use Rattle.onfi_cycle.specs.declared.item.Item.{Item}
use Rattle.onfi_cycle.specs.Lun.{is_busy}
use Rattle.onfi_cycle.specs.Channel.{IsChannel, is_there}
use Rattle.onfi_cycle.specs.State.{BusView, Follows}
use Rattle.micro_word.specs.declared.word.Word.{Word}
use Rattle.micro_word.specs.declared.word.Word.TheVariants.{Wait, ReadStatus}
use Rattle.micro_program.specs.Program.{Job, fits, is_ready_status}
use Rattle.micro_program.specs.Moves.{Move, is_wait}
use Rattle.micro_program.specs.Played.{answered}
use Rattle.micro_program.specs.Safe.{MovesAreOwn}
use Rattle.micro_program.specs.Step.{first_byte}
use Rattle.target_bus.specs.Bus.{channel_on}
use Rattle.seq_core.specs.declared.load_fault.LoadFault.{LoadFault}
use Rattle.seq_core.specs.declared.stepped.Stepped.{Stepped}
use Rattle.seq_core.specs.declared.slot_state.SlotState.TheVariants as state
use Rattle.seq_core.specs.World.{World, fresh}
use Rattle.seq_core.specs.Reply.{Reply, ToStep}
use Rattle.seq_core.specs.After.{Ran, is_held}
use Rattle.seq_core.specs.Lawful.{LawfulWorld}
use Rattle.seq_core.specs.Progress.{Progress, moves_at, status_of, outcome_of, progress_after}
use Rattle.seq_core.specs.declared.registers.Registers.{Registers}
use Rattle.seq_core.specs.Calls.{slot_at, slot_state, CanStep, load_fault_at}
use Rattle.seq_live.specs.Event.{LiveEvent, Step, Ready, ArrayReady, is_quiet, AllLoadVerified}
use Rattle.seq_live.specs.After.{run_live, AllAnswered}
use Rattle.seq_live.specs.Headline.{LiveEventsAreOwn, LiveGoesWell}
use Rattle.seq_live.specs.declared.begun.Begun.{Begun}
use Rattle.seq_live.specs.declared.begun.Begun.TheVariants.{Answered, Going}
use Rattle.seq_live.specs.declared.burst.Burst.{Burst}
use Rattle.seq_live.specs.declared.out_of_turn.OutOfTurn.{OutOfTurn}
use Rattle.seq_live.specs.declared.out_of_turn.OutOfTurn.TheVariants.{StepGoesOn, NoStep, NoBurst, BurstsLeft, NoRoom, WrongCount}
use Rattle.seq_live.specs.declared.live.StepGoingOn.{StepGoingOn}
use Rattle.seq_live.specs.Burst.{bursts_at, taken_by}
use Rattle.seq_live.specs.Kept.{LiveView, channel_at, core_at, IsLiveAt}

-- the run that a call was, from this world on: each step is answered, the run is defined, answered so and adds to the trace what is each event's own;
-- the world after it is lawful, and is what is kept
pub record LiveRan (v : LiveView) (w : World) (events : List LiveEvent) (replies : List Reply) (later : LiveView) : Type 0 where
  pub answered : AllAnswered (channel_at v) events w
  pub ran : Ran
  pub is_ran : run_live (channel_at v) events w ≡ Some ran
  pub replied : ran.replies ≡ replies
  pub is_at : IsLiveAt later ran.world
  pub own : LiveEventsAreOwn (channel_at v) events w
  pub lawful : LawfulWorld (channel_at v) ran.world
  pub channel : channel_at later ≡ channel_at v

-- a call was this run of each lawful world that was kept
abbrev pub IsLiveRun : LiveView → List LiveEvent → List Reply → LiveView → Type 0
IsLiveRun v events replies later = (w : World) → IsLiveAt v w → LawfulWorld (channel_at v) w → LiveRan v w events replies later

-- a call was this one event
abbrev pub IsLiveEvent : LiveView → LiveEvent → Reply → LiveView → Type 0
IsLiveEvent v e reply later = IsLiveRun v (e ∷ []) (reply ∷ []) later

-- what is kept of a LUN; one that isn't there is as an empty slot
abbrev pub live_slot : LiveView → Lun → Option Progress
live_slot v l = slot_at (core_at v []) l

-- a LUN has a program that goes on, and no other LUN has the bus
pub record MayStep (v : LiveView) (l : Lun) : Type 0 where
  pub running : state.Running ≡ slot_state (live_slot v l)
  pub free : is_held v.holder l ≡ false

-- after some past that this state follows, these moves are a LUN's own
pub record CanMove (s : BusView) (l : Lun) (moved : List Move) : Type 0 where
  pub geometry : Parts
  pub targets : ℕ
  pub past : List Item
  pub follows : Follows geometry targets s past
  pub own : MovesAreOwn (channel_on geometry targets []) l moved past

-- these moves were made and their outputs gave these bytes: the state follows each past that it followed, with their cycles after it
abbrev pub HasMoved : (old new : BusView) → ℕ → List Move → List ℕ → Type 0
HasMoved old new ce moved bytes =
    (g : Parts) (n : ℕ) (past : List Item) → Follows g n old past
    → (later : List Item) × (answered ce moved bytes past ≡ Some (record { past = later; bytes = bytes })) × Follows g n new later

-- the next word of a slot can be stepped after a past that the state follows, and so many bytes are what its outputs give
pub record CanAnswer (g : Parts) (s : BusView) (v : Progress) (count : ℕ) : Type 0 where
  pub targets : ℕ
  pub past : List Item
  pub follows : Follows g targets s past
  pub can : CanStep (channel_on g targets []) past v
  pub many : count ≡ taken_by can.word

-- the moves of a word can be made on the state
pub record CanMoveBy (g : Parts) (s : BusView) (l : Lun) (buffer : List ℕ) (r : Registers) (word : Word) : Type 0 where
  pub moved : List Move
  pub is_moved : moves_at g l.lun buffer r word ≡ Some moved
  pub can : CanMove s l moved
  pub inside : fits (length buffer) r.place word ≡ true

-- the moves of a word were made on the state, and its outputs gave these bytes
pub record HasMovedBy (g : Parts) (old new : BusView) (l : Lun) (buffer : List ℕ) (r : Registers) (word : Word) (bytes : List ℕ) : Type 0 where
  pub moved : List Move
  pub is_moved : moves_at g l.lun buffer r word ≡ Some moved
  pub moves : HasMoved old new l.ce moved bytes

-- the next word was stepped on the state, its outputs gave these bytes, and it left this of the slot
pub record AnsweredSteps (g : Parts) (old new : BusView) (v : Progress) (bytes : List ℕ) (answer : Stepped) (u : Progress) : Type 0 where
  pub word : Word
  pub here : slice_get v.job.text.words v.at ≡ Some word
  pub moves : HasMovedBy g old new v.job.lun v.job.buffer v.registers word bytes
  pub slot_is : u ≡ progress_after v word bytes
  pub answer_is : answer ≡ outcome_of word (status_of word bytes)

-- ---- what a status shows

-- the word polls the status of its LUN
abbrev pub is_poll : Word → Bool
is_poll Wait = true
is_poll ReadStatus = true
is_poll _ = false

abbrev pub has_array_ready : ℕ → Bool
has_array_ready status = bit_and status 32 == 32

abbrev pub has_fail : ℕ → Bool
has_fail status = bit_and status 1 == 1

-- the failures that a status tells of: that of the last work, and that of the page before
abbrev pub told_by : ℕ → Failures
told_by status = record { last = has_fail status; before = bit_and status 2 == 2 }

-- the readies that a poll shows: RDY that its LUN has become ready, with failure where FAIL is shown, and ARDY besides that its array has. A ready of
-- a LUN that was ready before changes nothing
abbrev pub shown_by : Lun → ℕ → List LiveEvent
shown_by l status =
    if is_ready_status status then Ready l (told_by status) ∷ (if has_array_ready status then ArrayReady l (has_fail status) ∷ [] else []) else []

abbrev pub shown : Lun → Word → List ℕ → List LiveEvent
shown l word bytes = if is_poll word then shown_by l (first_byte bytes) else []

-- ---- the step that goes on

-- the first fault of a load, by what is kept
abbrev pub live_load_fault : LiveView → Lun → Job → Option LoadFault
live_load_fault v l j = load_fault_at (core_at v []) l j

-- a word is the next one of a slot
pub record NextWordIs (slot : Option Progress) (word : Word) : Type 0 where
  pub v : Progress
  pub is_slot : slot ≡ Some v
  pub here : slice_get v.job.text.words v.at ≡ Some word

abbrev pub HasNextWord : Option Progress → Type 0
HasNextWord slot = (word : Word) × NextWordIs slot word

-- these are the bursts of its next word
pub record NextBurstsAre (g : Parts) (slot : Option Progress) (bursts : List Burst) : Type 0 where
  pub v : Progress
  pub is_slot : slot ≡ Some v
  pub word : Word
  pub here : slice_get v.job.text.words v.at ≡ Some word
  pub are_bursts : bursts_at g v.job.lun v.registers word ≡ Some bursts

-- this is the buffer of a slot
pub record HasBuffer (slot : Option Progress) (buffer : List ℕ) : Type 0 where
  pub v : Progress
  pub is_slot : slot ≡ Some v
  pub is_buffer : buffer ≡ v.job.buffer

-- the next word of a LUN, and its bursts
abbrev pub IsNextWord : LiveView → Lun → Word → Type 0
IsNextWord v l word = NextWordIs (live_slot v l) word

abbrev pub AreNextBursts : LiveView → Lun → List Burst → Type 0
AreNextBursts v l bursts = NextBurstsAre v.state.geometry (live_slot v l) bursts

-- the moves of the next word of a slot are there
pub record HasNextMoves (g : Parts) (slot : Option Progress) : Type 0 where
  pub v : Progress
  pub is_slot : slot ≡ Some v
  pub word : Word
  pub here : slice_get v.job.text.words v.at ≡ Some word
  pub moved : List Move
  pub is_moved : moves_at g v.job.lun.lun v.job.buffer v.registers word ≡ Some moved

-- a step begins, or is answered at once and changes nothing
abbrev pub Begins : LiveView → Lun → Begun → LiveView → Type 0
Begins v l Going later = MayStep v l × (later ≡ record v { going = Some (record { lun = l; done = 0 }) })
Begins v l (Answered answer) later = (later ≡ v) × ((bytes : List ℕ) → IsLiveEvent v (Step l bytes) (ToStep answer) v)

-- this burst is to be done now
pub record IsNextBurst (v : LiveView) (burst : Burst) : Type 0 where
  pub step : StepGoingOn
  pub is_step : v.going ≡ Some step
  pub may : MayStep v step.lun
  pub bursts : List Burst
  pub are_next : AreNextBursts v step.lun bursts
  pub is_burst : slice_get bursts step.done ≡ Some burst

-- no burst is to be done now
abbrev pub HasNoBurst : LiveView → Type 0
HasNoBurst v = (burst : Burst) → IsNextBurst v burst → ⊥

-- a word has three bursts at most
abbrev pub AreFewDone : LiveView → Type 0
AreFewDone v = (step : StepGoingOn) → v.going ≡ Some step → step.done < 3

-- the burst that was to be done is done, and nothing else has changed
pub record IsBurstDone (v later : LiveView) : Type 0 where
  pub step : StepGoingOn
  pub is_step : v.going ≡ Some step
  pub is_later : later ≡ record v { going = Some (record step { done = step.done + 1 }) }

-- the step that went on is finished: after the readies that its poll shows, and no others, it is an event whose outputs gave these bytes
pub record HasFinished (v : LiveView) (bytes : List ℕ) (answer : Stepped) (later : LiveView) : Type 0 where
  pub step : StepGoingOn
  pub is_step : v.going ≡ Some step
  pub readies : List LiveEvent
  pub are_shown : (word : Word) → MayStep v step.lun → IsNextWord v step.lun word → readies ≡ shown step.lun word bytes
  pub none_shown : (MayStep v step.lun → ⊥) → readies ≡ []
  pub replies : List Reply
  pub paired : length replies ≡ length readies
  pub quiet : list_all is_quiet readies ≡ true
  pub run : IsLiveRun v (readies ++ (Step step.lun bytes ∷ [])) (replies ++ (ToStep answer ∷ [])) later
  pub is_over : later.going ≡ None

-- so many bytes were taken, and the outputs of the next word, all of whose bursts are done, are not as many
pub record IsMiscounted (v : LiveView) (count : ℕ) : Type 0 where
  pub step : StepGoingOn
  pub is_step : v.going ≡ Some step
  pub done : HasNoBurst v
  pub may : MayStep v step.lun
  pub word : Word
  pub is_word : IsNextWord v step.lun word
  pub differs : count ≡ taken_by word → ⊥

-- why a burst isn't told to be done
abbrev pub IsGaveFault : LiveView → OutOfTurn → Type 0
IsGaveFault v NoStep = v.going ≡ None
IsGaveFault v NoBurst = (step : StepGoingOn) × (v.going ≡ Some step) × HasNoBurst v
IsGaveFault v StepGoesOn = ⊥
IsGaveFault v BurstsLeft = ⊥
IsGaveFault v NoRoom = ⊥
IsGaveFault v WrongCount = ⊥

-- why a step isn't finished by so many bytes
abbrev pub IsFinishFault : LiveView → ℕ → OutOfTurn → Type 0
IsFinishFault v count NoStep = v.going ≡ None
IsFinishFault v count BurstsLeft = (burst : Burst) × IsNextBurst v burst
IsFinishFault v count WrongCount = IsMiscounted v count
IsFinishFault v count StepGoesOn = ⊥
IsFinishFault v count NoBurst = ⊥
IsFinishFault v count NoRoom = ⊥

-- the outputs of a LUN's next word give so many bytes
pub record NextTakes (v : LiveView) (l : Lun) (count : ℕ) : Type 0 where
  pub may : MayStep v l
  pub word : Word
  pub is_word : IsNextWord v l word
  pub is_count : count ≡ taken_by word

-- so many bytes, none where a step of the LUN would change nothing
abbrev pub Takes : LiveView → Lun → ℕ → Type 0
Takes v l count = NextTakes v l count ⊎ ((MayStep v l → ⊥) × (count ≡ 0))

-- ---- what a call leaves

-- the jobs, the LUN that has the bus and the step that goes on are as they were
pub record KeepsSlots (v later : LiveView) : Type 0 where
  pub channel : channel_at later ≡ channel_at v
  pub slots : later.slots ≡ v.slots
  pub holder : later.holder ≡ v.holder
  pub going : later.going ≡ v.going

-- a LUN that is there isn't busy after any past that the state follows
abbrev pub IsReadyNow : BusView → Lun → Type 0
IsReadyNow s l = (g : Parts) (n : ℕ) (past : List Item) → Follows g n s past → is_there (channel_on g n []) l ≡ true → is_busy g past l ≡ false

-- a `wait` ends with these bytes
abbrev pub ends_with : Word → List ℕ → Bool
ends_with word bytes = is_wait word && is_ready_status (first_byte bytes)

-- ---- a step on pins

-- why a step on pins isn't made, with room for so many bytes
abbrev pub IsStepFault : LiveView → Lun → ℕ → OutOfTurn → Type 0
IsStepFault v l room StepGoesOn = (step : StepGoingOn) × (v.going ≡ Some step)
IsStepFault v l room NoRoom = (count : ℕ) × NextTakes v l count × (room < count)
IsStepFault v l room NoStep = ⊥
IsStepFault v l room NoBurst = ⊥
IsStepFault v l room BurstsLeft = ⊥
IsStepFault v l room WrongCount = ⊥

-- ---- laws

-- the law: one call after another is one run
abbrev pub CallsGoOn : Type 0
CallsGoOn = (v u t : LiveView) (es fs : List LiveEvent) (rs ss : List Reply) → IsLiveRun v es rs u → IsLiveRun u fs ss t → IsLiveRun v (es ++ fs) (rs ++ ss) t

-- the law: whatever calls are made of a new sequencer, their events go well, if each job that is loaded is verified. Nothing is asked of the chips
abbrev pub CallsGoWell : Type 0
CallsGoWell =
    (v u : LiveView) (es : List LiveEvent) (rs : List Reply) → IsChannel (channel_at v) → IsLiveAt v (fresh (channel_at v)) → AllLoadVerified es → IsLiveRun v es rs u → LiveGoesWell (channel_at v) es
