-- What a program has put into the trace: the cycles of its actions so far, in their order, where a step that polled for a `wait`
-- adds its poll again.
use Rattle.std.specs.Prelude.{◌≡◌, ℕ, suc, ◌+◌, ◌-◌, ◌≤◌, Bool, true, false, if◌then◌else◌, List, [], ◌∷◌, ◌++◌, Option, Some, None, length, take}
use Rattle.onfi_cycle.specs.declared.lun.Lun.{Lun}
use Rattle.onfi_cycle.specs.declared.item.Kind.TheVariants.{Dout}
use Rattle.onfi_cycle.specs.declared.item.Item.{Item}
use Rattle.onfi_cycle.specs.Channel.{Channel, cycle, same_lun}
use Rattle.micro_word.specs.declared.word.Word.{Word}
use Rattle.micro_word.specs.declared.word.Word.TheVariants.{Wait}
use Rattle.micro_program.specs.Lines.{Line}
use Rattle.micro_program.specs.Program.{Job, Done, Answer, Nothing, Polled, Got, is_ready_status}
use Rattle.micro_program.specs.Moves.{Move, Give, Take, is_wait}
use Rattle.micro_program.specs.Actions.{action}
use Rattle.seq_core.specs.World.{Slot, World}
use Rattle.seq_core.specs.Event.{Event, Load, Step, Unload}
use Rattle.seq_core.specs.Reply.{Reply, ToLoad, ToUnload, Loaded, Unloaded}
use Rattle.seq_core.specs.After.{After, after}

-- ---- which cycles an action makes

-- these cycles are made on a target behind those made so far (newest first): of each move one, and the outputs carry these bytes
abbrev pub cycles_of : ℕ → List Move → List ℕ → List Item → List Item
cycles_of ce [] bytes made = made
cycles_of ce (Give kind byte ∷ moves) bytes made = cycles_of ce moves bytes (cycle ce kind byte ∷ made)
cycles_of ce (Take ∷ moves) [] made = made
cycles_of ce (Take ∷ moves) (byte ∷ bytes) made = cycles_of ce moves bytes (cycle ce Dout byte ∷ made)

-- how many outputs are among moves
abbrev pub takes : List Move → ℕ
takes [] = 0
takes (Give kind byte ∷ moved) = takes moved
takes (Take ∷ moved) = suc (takes moved)

-- the bytes that an answer tells
abbrev pub bytes_told : Answer → List ℕ
bytes_told Nothing = []
bytes_told (Polled status) = status ∷ []
bytes_told (Got bytes) = bytes

-- what of its cycles counts against the budget: all, but nothing of a `wait`
abbrev pub counted : Word → List Move → ℕ
counted word moves = if is_wait word then 0 else length moves

-- the cycles that a program has made, newest first, by its words done; whether the `wait` that comes next has polled since; and how
-- many of them count
pub data Made (s : Channel) (j : Job) : (done : List Done) (polled : Bool) (made : List Item) (count : ℕ) → Type 0 where
  -- before its first word there are none
  none : Made s j [] false [] 0
  -- the next word is done: one cycle for each move of its action, and its answer tells a byte for each output; if polls were made before,
  -- the word is their `wait`
  word :
      (done : List Done) (polled : Bool) (made : List Item) (count : ℕ) (d : Done) (moves : List Move)
      → Made s j done polled made count → (polled ≡ true → is_wait d.word ≡ true) → (action s.geometry j done d.word).cycles ≡ Some moves
      → length (bytes_told d.answer) ≡ takes moves
      → Made s j (d ∷ done) false (cycles_of j.lun.ce moves (bytes_told d.answer) made) (count + counted d.word moves)
  -- a `wait` has polled, and its LUN isn't ready: its one output is the status
  poll :
      (done : List Done) (polled : Bool) (made : List Item) (count : ℕ) (status : ℕ) (moves : List Move)
      → Made s j done polled made count → is_ready_status status ≡ false → (action s.geometry j done Wait).cycles ≡ Some moves
      → takes moves ≡ 1
      → Made s j done true (cycles_of j.lun.ce moves (status ∷ []) made) count

-- the next word is a `wait`
abbrev pub waits_next : List Line → Bool
waits_next [] = false
waits_next (line ∷ lines) = is_wait line.word

-- ---- what the events tell of a program

-- a job as it was loaded, and the cycles that its steps have put into the trace since, newest first
pub record Running : Type 0 where
  pub job : Job
  pub made : List Item

-- what was put into a trace
abbrev pub added : (before later : List Item) → List Item
added before later = take (length later - length before) later

abbrev pub with_cycles : List Item → Option Running → Option Running
with_cycles new None = None
with_cycles new (Some r) = Some (record { job = r.job; made = new ++ r.made })

abbrev pub loaded_now : Job → Reply → Option Running → Option Running
loaded_now j (ToLoad Loaded) r = Some (record { job = j; made = [] })
loaded_now j _ r = r

abbrev pub unloaded_now : Reply → Option Running → Option Running
unloaded_now (ToUnload (Unloaded j code)) r = None
unloaded_now _ r = r

-- an event of this LUN: a load that is accepted begins anew, a step puts its cycles into the trace, an unload that gives a job ends
abbrev pub running_behind : Event → World → After → Option Running → Option Running
running_behind (Load l j) w a r = loaded_now j a.reply r
running_behind (Step l) w a r = with_cycles (added w.past a.world.past) r
running_behind (Unload l) w a r = unloaded_now a.reply r
running_behind _ w a r = r

abbrev pub is_of : Event → Lun → Bool
is_of (Load m j) l = same_lun m l
is_of (Step m) l = same_lun m l
is_of (Unload m) l = same_lun m l
is_of _ l = false

abbrev pub running_after : Lun → Event → World → Option Running → Option After → (World → Option Running → Option Running) → Option Running
running_after l e w r None rest = None
running_after l e w r (Some a) rest = rest a.world (if is_of e l then running_behind e w a r else r)

-- what runs on a LUN after these events, by the events alone
abbrev pub running_on : Channel → Lun → List Event → World → Option Running → Option Running
running_on s l [] w r = r
running_on s l (e ∷ events) w r = running_after l e w r (after s w e) (running_on s l events)

-- ---- what is promised

-- a program has made its cycles: it is the job that was loaded, the cycles that it put into the trace are those of its actions so
-- far, and at most budget of them are no polls of a `wait`
pub record MadeItsCycles (s : Channel) (x : Slot) (r : Running) : Type 0 where
  pub job : x.job ≡ r.job
  pub polled : Bool
  pub count : ℕ
  pub cycles : Made s x.job x.done polled r.made count
  pub waits : polled ≡ true → waits_next x.ahead ≡ true
  pub budget : count ≤ x.job.text.budget

-- a slot has a program where the events say so, and it has made its cycles
abbrev pub RunsAsTold : Channel → Option Slot → Option Running → Type 0
RunsAsTold s None None = Unit {0}
RunsAsTold s (Some x) (Some r) = MadeItsCycles s x r
RunsAsTold s _ _ = ⊥
