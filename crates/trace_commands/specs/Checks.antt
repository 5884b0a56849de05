-- How a check ends: with a legal trace, with its faults, or with what is refused.
use Rattle.std.specs.Prelude.{◌≡◌, ◌⊎◌, [], ℕ, Bool, List, Option, Some}
use Rattle.seq_files.specs.Store.{Store}
use Rattle.nand_geometry.specs.declared.parts.Parts.{Parts}
use Rattle.onfi_cycle.specs.declared.item.Item.{Item}
use Rattle.die_model.specs.Die.{Die}
use Rattle.trace_faults.specs.declared.broken_rule.BrokenRule.{BrokenRule}
use Rattle.trace_faults.specs.declared.unshown.NotShown.{NotShown}
use Rattle.trace_timing.specs.declared.violation.Violation.{Violation}
use Rattle.trace_data.specs.declared.difference.Difference.{Difference}
use Rattle.recording.specs.declared.check_request.CheckRequest.{CheckRequest}
use Rattle.recording.specs.declared.recording_fault.RecordingFault.{RecordingFault}
use Rattle.recording.specs.Checks.{view_of, IsJudged, RecordingIsRefused}
use Rattle.recording.specs.Kept.{kept}
use Rattle.recording.specs.Recordings.{fault_line}
use Rattle.recording.specs.Rules.{IsLegalIn}
use Rattle.trace_commands.specs.Reports.{first_of, faulty_text, legal_text, may_pass}

-- the trace is legal, keeps the times that are asked for and gives what its dies hold, with readies that are taken for granted and may be, or may not
pub record IsPassed (files later : Option Store) (request : CheckRequest) (passes : Bool) (printed : List ℕ) : Type 0 where
  pub g : Parts
  pub dies : List Die
  pub whole : List Item
  pub assumed : List NotShown
  pub judged : IsJudged files later request request.dies g [] [] [] dies whole assumed
  pub legal : IsLegalIn (view_of request g) (kept judged.steps (view_of request g) judged.items)
  pub may : may_pass request assumed ≡ passes
  pub lines : printed ≡ legal_text assumed

-- it has faults, of which this is the first
pub record IsFaulty (files later : Option Store) (request : CheckRequest) (fault : RecordingFault) (printed : List ℕ) : Type 0 where
  pub g : Parts
  pub told : List BrokenRule
  pub late : List Violation
  pub found : List Difference
  pub dies : List Die
  pub whole : List Item
  pub assumed : List NotShown
  pub judged : IsJudged files later request request.dies g told late found dies whole assumed
  pub first : first_of told late found ≡ Some fault
  pub lines : printed ≡ faulty_text told late found assumed

-- what a check finds wrong with the text of a trace, with a file beside it or with the trace, and what it prints and leaves then
abbrev pub CheckRefuses : (files later : Option Store) → CheckRequest → RecordingFault → (printed : List ℕ) → Type 0
CheckRefuses files later request fault printed =
    (RecordingIsRefused files request fault × (later ≡ files) × (printed ≡ fault_line fault)) ⊎ IsFaulty files later request fault printed

-- the trace was judged
pub record WasJudged (files later : Option Store) (request : CheckRequest) : Type 0 where
  pub g : Parts
  pub told : List BrokenRule
  pub late : List Violation
  pub found : List Difference
  pub dies : List Die
  pub whole : List Item
  pub assumed : List NotShown
  pub judged : IsJudged files later request request.dies g told late found dies whole assumed

-- files are as they were, or the trace that is judged is written
abbrev pub CheckLeaves : (files later : Option Store) → CheckRequest → Type 0
CheckLeaves files later request = (later ≡ files) ⊎ WasJudged files later request
