-- How events are answered.
use Rattle.std.specs.Prelude.{ℕ, Bool}
use Rattle.seq_core.specs.declared.load_fault.LoadFault.{LoadFault}
use Rattle.seq_core.specs.declared.stepped.Stepped.{Stepped}
use Rattle.seq_core.specs.declared.stepped.Stepped.TheVariants.{Ended, HandedOver, NotReady, Went}
use Rattle.seq_core.specs.declared.unload_fault.UnloadFault.{UnloadFault}
use Rattle.micro_program.specs.Program.{Job}
use Rattle.micro_program.specs.Step.{Outcome, Ended as HasEnded, HandedOver as HasHandedOver, NotReady as WasNotReady, Went as HasGone}

-- the job is in its slot, or is handed back with the reason
pub data Loading : Type 0 where
  Loaded : Loading
  NotLoaded : (fault : LoadFault) (job : Job) → Loading

-- the job, its buffer as the program left it, and its code; or the reason why there is none
pub data Unloading : Type 0 where
  Unloaded : (job : Job) (code : ℕ) → Unloading
  NotUnloaded : (fault : UnloadFault) → Unloading

-- the answer of each kind of event; a ready and an array ready tell whether they came
pub data Reply : Type 0 where
  ToLoad : (answer : Loading) → Reply
  ToStep : (answer : Stepped) → Reply
  ToReady : (came : Bool) → Reply
  ToArrayReady : (came : Bool) → Reply
  ToUnload : (answer : Unloading) → Reply

-- how the step of a word is answered
abbrev pub answer_of : Outcome → Stepped
answer_of HasEnded = Ended
answer_of HasHandedOver = HandedOver
answer_of WasNotReady = NotReady
answer_of HasGone = Went
