-- What happens on a channel that runs programs.
use Rattle.std.specs.Prelude.{Bool, List, [], ◌∷◌}
use Rattle.onfi_cycle.specs.declared.item.Failures.{Failures}
use Rattle.onfi_cycle.specs.declared.lun.Lun.{Lun}
use Rattle.micro_program.specs.Program.{Job}
use Rattle.micro_program.specs.Safe.{IsMade, IsSafe}

-- a job comes to a LUN, its next word is stepped, the LUN becomes ready, its array does, or its job is taken away
pub data Event : Type 0 where
  Load : (lun : Lun) (job : Job) → Event
  Step : (lun : Lun) → Event
  Ready : (lun : Lun) (fail : Failures) → Event
  ArrayReady : (lun : Lun) (fail : Bool) → Event
  Unload : (lun : Lun) → Event

-- a job that was checked when it was made, of a text that is safe on its geometry
pub record IsVerified (j : Job) : Type 0 where
  pub made : IsMade j
  pub safe : IsSafe j.text j.geometry

-- if a job is loaded, it is verified
abbrev pub LoadsVerified : Event → Type 0
LoadsVerified (Load l j) = IsVerified j
LoadsVerified _ = Unit {0}

-- each job that is loaded is verified
abbrev pub AllLoadVerified : List Event → Type 0
AllLoadVerified [] = Unit {0}
AllLoadVerified (e ∷ events) = LoadsVerified e × AllLoadVerified events
