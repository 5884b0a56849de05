-- What a list of operations comes to.
use Rattle.std.specs.Prelude.{◌≡◌, List, ℕ, Option, Ok}
use Rattle.seq_files.specs.Store.{Store, Holds}
use Rattle.nand_geometry.specs.declared.parts.Parts.{Parts}
use Rattle.trace_timing.specs.declared.watch.TimedItem.{TimedItem}
use Rattle.vendor_file.specs.declared.step.Step.{Step}
use Rattle.seq_inputs.specs.Inputs.{HasPageAs}
use Rattle.recording.specs.Traces.{HasTimes}
use Rattle.recording.specs.Vendors.{AreSteps}
use Rattle.operation_commands.specs.declared.ops_request.OpsRequest.{OpsRequest}

-- the page, the vendor file and the recorded text of a trace are there
pub record CanBeListed (files : Option Store) (request : OpsRequest) : Type 0 where
  pub g : Parts
  pub has_page : HasPageAs files request.trace.profile request.trace.page.now g
  pub steps : List Step
  pub are_steps : AreSteps files request.trace.profile request.trace.vendor steps
  pub text : List ℕ
  pub is_there : Holds files request.trace.input.now text
  pub timed : List TimedItem
  pub is_read : HasTimes request.trace.profile text timed
