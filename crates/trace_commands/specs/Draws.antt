-- What a drawing of a trace comes to: what is written.
use Rattle.std.specs.Prelude.{◌≡◌, false, ℕ, List, Option}
use Rattle.seq_files.specs.Store.{Store, Holds, with_file}
use Rattle.nand_geometry.specs.declared.parts.Parts.{Parts}
use Rattle.onfi_cycle.specs.declared.item.Item.{Item}
use Rattle.trace_text.specs.Forms.{IsTraceText}
use Rattle.trace_faults.specs.declared.beginning.Beginning.TheVariants.{Start}
use Rattle.trace_faults.specs.declared.readies.Readies.TheVariants.{Written}
use Rattle.trace_files.specs.Files.{drawing_of}
use Rattle.vendor_file.specs.declared.step.Step.{Step}
use Rattle.seq_inputs.specs.Inputs.{HasPageAs}
use Rattle.recording.specs.declared.trace_view.TraceView.{TraceView}
use Rattle.recording.specs.Kept.{kept}
use Rattle.recording.specs.Targets.{count_of}
use Rattle.recording.specs.Vendors.{AreSteps}
use Rattle.trace_commands.specs.declared.draw_request.DrawRequest.{DrawRequest}

-- how the trace is looked at
abbrev pub view_of : DrawRequest → Parts → TraceView
view_of request g = record { geometry = g; targets = request.trace.targets; readies = Written; beginning = Start }

-- the trace at the path is drawn in its form, without the sequences of the vendor file, and no other file changes
pub record IsDrawn (files later : Option Store) (request : DrawRequest) : Type 0 where
  pub g : Parts
  pub has_page : HasPageAs files request.trace.profile request.trace.page.now g
  pub steps : List Step
  pub are_steps : AreSteps files request.trace.profile request.trace.vendor steps
  pub text : List ℕ
  pub is_there : Holds files request.trace.input.now text
  pub items : List Item
  pub is_text : IsTraceText request.trace.form request.trace.profile text items
  pub bytes : List ℕ
  pub is_drawing : bytes ≡ drawing_of request.form g (count_of request.trace.targets) (kept steps (view_of request g) items) bytes
  pub written : later ≡ with_file files request.target.now bytes
