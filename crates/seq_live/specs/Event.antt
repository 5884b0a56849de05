-- What happens on a real bus, whose chips answer what they answer.
use Rattle.std.specs.Prelude.{ℕ, Bool, true, false, List, [], ◌∷◌}
use Rattle.onfi_cycle.specs.declared.item.Failures.{Failures}
use Rattle.onfi_cycle.specs.declared.lun.Lun.{Lun}
use Rattle.micro_program.specs.Program.{Job}
use Rattle.seq_core.specs.Event.{Event, Load as ALoad, Step as AStep, Ready as AReady, ArrayReady as AnArrayReady, Unload as AnUnload, LoadsVerified}

-- a job comes to a LUN, its next word is stepped and its outputs give these bytes, the LUN becomes ready, its array does, or its job is taken away
pub data LiveEvent : Type 0 where
  Load : (lun : Lun) (job : Job) → LiveEvent
  Step : (lun : Lun) (bytes : List ℕ) → LiveEvent
  Ready : (lun : Lun) (fail : Failures) → LiveEvent
  ArrayReady : (lun : Lun) (fail : Bool) → LiveEvent
  Unload : (lun : Lun) → LiveEvent

-- the event without its bytes
abbrev pub plain : LiveEvent → Event
plain (Load l j) = ALoad l j
plain (Step l bytes) = AStep l
plain (Ready l fail) = AReady l fail
plain (ArrayReady l fail) = AnArrayReady l fail
plain (Unload l) = AnUnload l

-- an event that loads and unloads nothing
abbrev pub is_quiet : LiveEvent → Bool
is_quiet (Load l j) = false
is_quiet (Step l bytes) = true
is_quiet (Ready l fail) = true
is_quiet (ArrayReady l fail) = true
is_quiet (Unload l) = false

-- a ready, of a LUN or of its array
abbrev pub is_ready : LiveEvent → Bool
is_ready (Load l j) = false
is_ready (Step l bytes) = false
is_ready (Ready l fail) = true
is_ready (ArrayReady l fail) = true
is_ready (Unload l) = false

-- each job that is loaded is verified
abbrev pub AllLoadVerified : List LiveEvent → Type 0
AllLoadVerified [] = Unit {0}
AllLoadVerified (e ∷ events) = LoadsVerified (plain e) × AllLoadVerified events
