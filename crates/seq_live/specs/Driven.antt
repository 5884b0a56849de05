-- What comes on the pins: the cycles of a trace, those of a step's bursts, and the readies that stand before a step.
use Rattle.std.specs.Prelude.{◌≡◌, ℕ, ◌≤◌, true, if◌then◌else◌, List, [], ◌∷◌, ◌++◌, Option, Some, None, length, take, option_map}
use Rattle.std.specs.List.{list_all}
use Rattle.onfi_cycle.specs.declared.item.Kind.{Kind}
use Rattle.onfi_cycle.specs.declared.item.Kind.TheVariants.{Cmd, Adr, Din, Dout}
use Rattle.onfi_cycle.specs.declared.item.Item.{Item}
use Rattle.onfi_cycle.specs.declared.item.Item.TheVariants.{Cyc, Rdy, Ard}
use Rattle.onfi_cycle.specs.declared.lun.Lun.{Lun}
use Rattle.onfi_cycle.specs.Channel.{Channel, cycle}
use Rattle.micro_word.specs.declared.word.Word.{Word}
use Rattle.micro_program.specs.Lines.{Line}
use Rattle.micro_program.specs.Moves.{part}
use Rattle.seq_core.specs.World.{Slot, World, slot_of}
use Rattle.seq_core.specs.After.{After, Ran, is_held}
use Rattle.seq_core.specs.Lawful.{LawfulWorld}
use Rattle.seq_live.specs.declared.burst.Burst.{Burst}
use Rattle.seq_live.specs.declared.burst.Burst.TheVariants.{Command, Address, Input, Output}
use Rattle.seq_core.specs.Reply.{Reply, ToStep}
use Rattle.seq_core.specs.declared.stepped.Stepped.{Stepped}
use Rattle.seq_live.specs.Event.{LiveEvent, Load, Step, Ready, ArrayReady, Unload, is_ready}
use Rattle.seq_live.specs.After.{after_live, run_live}
use Rattle.seq_live.specs.Kept.{LiveView, channel_at, IsLiveAt}
use Rattle.seq_live.specs.Calls.{IsLiveRun, MayStep, IsNextWord, Takes, shown}

-- the cycles of a trace, without its readies
abbrev pub cycles_in : List Item → List Item
cycles_in [] = []
cycles_in (Cyc c ∷ past) = Cyc c ∷ cycles_in past
cycles_in (Rdy ce lun fail ∷ past) = cycles_in past
cycles_in (Ard ce lun fail ∷ past) = cycles_in past

-- what came on the pins, the newest first as in a past, and then these bytes by cycles of one kind
abbrev pub with_bytes : ℕ → Kind → List ℕ → List Item → List Item
with_bytes ce kind [] past = past
with_bytes ce kind (byte ∷ bytes) past = with_bytes ce kind bytes (cycle ce kind byte ∷ past)

-- and then what a burst gives, of a job with this buffer. An output gives nothing: what it takes comes last
abbrev pub with_burst : List ℕ → Burst → List Item → List Item
with_burst buffer (Command ce byte) past = with_bytes ce Cmd (byte ∷ []) past
with_burst buffer (Address ce five from count) past = with_bytes ce Adr (part from count five) past
with_burst buffer (Input ce place len) past = with_bytes ce Din (part place len buffer) past
with_burst buffer (Output ce len) past = past

abbrev pub with_bursts : List ℕ → List Burst → List Item → List Item
with_bursts buffer [] past = past
with_bursts buffer (b ∷ bursts) past = with_bursts buffer bursts (with_burst buffer b past)

-- and then a word of these bursts, whose outputs gave these bytes
abbrev pub with_word : ℕ → List ℕ → List Burst → List ℕ → List Item → List Item
with_word ce buffer bursts bytes past = with_bytes ce Dout bytes (with_bursts buffer bursts past)

-- what has come on the pins grew so, where it is known then. A driver that forgets may say so
abbrev pub Grows : (List Item → List Item) → Option (List Item) → Option (List Item) → Type 0
Grows more before None = Unit {0}
Grows more before (Some past) = Some past ≡ option_map more before

-- these cycles came on the pins, after what had come
abbrev pub HaveCome : List Item → Option (List Item) → Option (List Item) → Type 0
HaveCome came before after = Grows (λ past. came ++ past) before after

-- these events add these cycles to the trace, in every lawful world that is kept
abbrev pub Bring : LiveView → List LiveEvent → List Item → Type 0
Bring v events came =
    (w : World) (ran : Ran) → IsLiveAt v w → LawfulWorld (channel_at v) w → run_live (channel_at v) events w ≡ Some ran → cycles_in ran.world.past ≡ came ++ cycles_in w.past

-- what came on the pins is what these events add to the trace, each cycle and in order
pub record HasCome (v : LiveView) (events : List LiveEvent) (before after : Option (List Item)) : Type 0 where
  pub came : List Item
  pub bring : Bring v events came
  pub on_pins : HaveCome came before after

-- ---- the readies of a run

-- the readies that the next line shows, whose outputs give these bytes
abbrev pub shown_next : List Line → Lun → List ℕ → List LiveEvent
shown_next [] l bytes = []
shown_next (line ∷ ahead) l bytes = shown l line.word bytes

abbrev pub shown_slot : World → Lun → List ℕ → Slot → Option ℕ → List LiveEvent
shown_slot w l bytes x (Some code) = []
shown_slot w l bytes x None = if is_held w.holder l then [] else shown_next x.ahead l bytes

-- the readies that a step of a LUN shows; none where it may not step
abbrev pub shown_in : World → Lun → List ℕ → Option Slot → List LiveEvent
shown_in w l bytes None = []
shown_in w l bytes (Some x) = shown_slot w l bytes x x.code

-- behind these readies, each ready of these events stands right before the step whose poll shows it, and no poll shows another
abbrev pub AreShown : Channel → List LiveEvent → List LiveEvent → World → Type 0
AreShown s readies [] w = readies ≡ []
AreShown s readies (Load l j ∷ events) w = (readies ≡ []) × ((a : After) → after_live s w (Load l j) ≡ Some a → AreShown s [] events a.world)
AreShown s readies (Unload l ∷ events) w = (readies ≡ []) × ((a : After) → after_live s w (Unload l) ≡ Some a → AreShown s [] events a.world)
AreShown s readies (Ready l fail ∷ events) w = (a : After) → after_live s w (Ready l fail) ≡ Some a → AreShown s (readies ++ (Ready l fail ∷ [])) events a.world
AreShown s readies (ArrayReady l fail ∷ events) w = (a : After) → after_live s w (ArrayReady l fail) ≡ Some a → AreShown s (readies ++ (ArrayReady l fail ∷ [])) events a.world
AreShown s readies (Step l bytes ∷ events) w = (readies ≡ shown_in w l bytes (slot_of s w l)) × ((a : After) → after_live s w (Step l bytes) ≡ Some a → AreShown s [] events a.world)

-- the readies of these events are those that their polls show, in every lawful world that is kept
abbrev pub ShowReadies : LiveView → List LiveEvent → Type 0
ShowReadies v events = (w : World) → IsLiveAt v w → LawfulWorld (channel_at v) w → AreShown (channel_at v) [] events w

-- ---- a step on pins

-- a step of a LUN came: its outputs gave the first of the bytes that were taken, as many as its next word asks for, and before it came the readies that they show, and no others.
-- Where it may not step, it took no bytes and nothing came before it. What came on the pins are its cycles, where it is known what came before
pub record HasStepped (v : LiveView) (l : Lun) (taken : List ℕ) (answer : Stepped) (later : LiveView) (before after : Option (List Item)) : Type 0 where
  pub count : ℕ
  pub takes : Takes v l count
  pub room : count ≤ length taken
  pub bytes : List ℕ
  pub are_taken : bytes ≡ take count taken
  pub readies : List LiveEvent
  pub are_shown : (word : Word) → MayStep v l → IsNextWord v l word → readies ≡ shown l word bytes
  pub none_shown : (MayStep v l → ⊥) → readies ≡ []
  pub replies : List Reply
  pub paired : length replies ≡ length readies
  pub ready : list_all is_ready readies ≡ true
  pub run : IsLiveRun v (readies ++ (Step l bytes ∷ [])) (replies ++ (ToStep answer ∷ [])) later
  pub show : ShowReadies v (readies ++ (Step l bytes ∷ []))
  pub pins : HasCome v (readies ++ (Step l bytes ∷ [])) before after
