-- What an event of a real bus leaves, and what a list of them comes to.
use Rattle.std.specs.Prelude.{◌≡◌, ℕ, false, if◌then◌else◌, List, [], ◌∷◌, Option, Some, None, length}
use Rattle.onfi_cycle.specs.declared.lun.Lun.{Lun}
use Rattle.onfi_cycle.specs.Channel.{Channel}
use Rattle.micro_program.specs.Moves.{and_then}
use Rattle.micro_program.specs.Step.{answered_step}
use Rattle.micro_program.specs.Safe.{AreTruthful}
use Rattle.seq_core.specs.declared.stepped.Stepped.TheVariants.{Empty, Held, Ended}
use Rattle.seq_core.specs.World.{Slot, World, slot_of}
use Rattle.seq_core.specs.Event.{Load as ALoad, Ready as AReady, ArrayReady as AnArrayReady, Unload as AnUnload}
use Rattle.seq_core.specs.After.{After, Ran, is_held, stands, after_stride, after}
use Rattle.seq_core.specs.Live.{taken_next}
use Rattle.seq_live.specs.Event.{LiveEvent, Load, Step, Ready, ArrayReady, Unload}

-- a step of a slot with a job: one that has ended stands, and so does one while another LUN has the bus
abbrev pub after_slot_answers : Channel → World → Lun → List ℕ → Slot → Option ℕ → Option After
after_slot_answers s w l bytes x (Some code) = stands w Ended
after_slot_answers s w l bytes x None =
    if is_held w.holder l then stands w Held
    else and_then (answered_step s.geometry x.job bytes w.past x.ahead x.done) (λ r. Some (after_stride s w l x.job r))

-- a step of a slot
abbrev pub after_answers : Channel → World → Lun → List ℕ → Option Slot → Option After
after_answers s w l bytes None = stands w Empty
after_answers s w l bytes (Some x) = after_slot_answers s w l bytes x x.code

-- what an event leaves: a step what its word makes of the bytes that the chip gives, the others what they leave on a model
abbrev pub after_live : Channel → World → LiveEvent → Option After
after_live s w (Load l j) = after s w (ALoad l j)
after_live s w (Step l bytes) = after_answers s w l bytes (slot_of s w l)
after_live s w (Ready l fail) = after s w (AReady l fail)
after_live s w (ArrayReady l fail) = after s w (AnArrayReady l fail)
after_live s w (Unload l) = after s w (AnUnload l)

-- what a first event makes of the run after it
abbrev pub with_first : After → Option Ran → Option Ran
with_first a ran = and_then ran (λ r. Some (record { world = r.world; replies = a.reply ∷ r.replies }))

-- what a list of events comes to, one after another
abbrev pub run_live : Channel → List LiveEvent → World → Option Ran
run_live s [] w = Some (record { world = w; replies = [] })
run_live s (e ∷ events) w = and_then (after_live s w e) (λ a. with_first a (run_live s events a.world))

-- where the step of a LUN goes on with its next word: as many bytes as that has outputs, and truthful ones, which say ready to a `wait` only of a LUN that is ready
abbrev pub Answers : Channel → World → Lun → List ℕ → Type 0
Answers s w l bytes =
    (x : Slot) → slot_of s w l ≡ Some x → x.code ≡ None → is_held w.holder l ≡ false
    → (taken_next s.geometry x.job x.ahead x.done ≡ Some (length bytes)) × AreTruthful s.geometry l w.past x.ahead bytes

abbrev pub IsAnswered : Channel → World → LiveEvent → Type 0
IsAnswered s w (Step l bytes) = Answers s w l bytes
IsAnswered s w (Load l j) = Unit {0}
IsAnswered s w (Ready l fail) = Unit {0}
IsAnswered s w (ArrayReady l fail) = Unit {0}
IsAnswered s w (Unload l) = Unit {0}

-- each step of a list of events is answered so where it comes, from this world on
abbrev pub AllAnswered : Channel → List LiveEvent → World → Type 0
AllAnswered s [] w = Unit {0}
AllAnswered s (e ∷ events) w = IsAnswered s w e × ((a : After) → after_live s w e ≡ Some a → AllAnswered s events a.world)
