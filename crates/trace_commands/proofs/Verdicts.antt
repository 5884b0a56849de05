-- How a check ends by what it has found.
use Rattle.std.proofs.Common.{◌≡◌, ℕ, Bool, List, [], ◌∷◌, Option, Some, None, refl, sym, ap, ◌∙◌}
use Rattle.seq_files.specs.Store.{Store}
use Rattle.nand_geometry.specs.declared.parts.Parts.{Parts}
use Rattle.onfi_cycle.specs.declared.item.Item.{Item}
use Rattle.die_model.specs.Die.{Die}
use Rattle.trace_faults.specs.declared.broken_rule.BrokenRule.{BrokenRule}
use Rattle.trace_faults.specs.declared.unshown.NotShown.{NotShown}
use Rattle.trace_timing.specs.declared.violation.Violation.{Violation}
use Rattle.trace_data.specs.declared.difference.Difference.{Difference}
use Rattle.recording.specs.declared.check_request.CheckRequest.{CheckRequest}
use Rattle.recording.specs.declared.recording_fault.RecordingFault.{RecordingFault}
use Rattle.recording.specs.Checks.{view_of, IsJudged}
use Rattle.recording.specs.Kept.{kept, is_whole, places, broken, faults_back}
use Rattle.recording.specs.Rules.{faults_in, IsLegalIn}
use Rattle.recording.specs.Targets.{count_of}
use Rattle.recording.proofs.Checked.{none_of_all, faultless_as}
use Rattle.recording.proofs.Kept.{none_back}
use Rattle.trace_commands.specs.Reports.{first_of, text_by, report_text, may_pass}
use Rattle.trace_commands.specs.Checks.{IsPassed, IsFaulty}

-- where no fault is told the trace is legal
legal_in : (files later : Option Store) (request : CheckRequest) (g : Parts) (late : List Violation) (found : List Difference) (dies : List Die) (whole : List Item) (assumed : List NotShown)
    (j : IsJudged files later request request.dies g [] late found dies whole assumed) → IsLegalIn (view_of request g) (kept j.steps (view_of request g) j.items)
legal_in files later request g late found dies whole assumed j =
    let v = view_of request g in
    let left = kept j.steps v j.items in
    let nothing = none_of_all request.tells_all (faults_back j.steps v j.items (faults_in v left)) (sym j.told_is) in
    faultless_as v.beginning v.readies g (count_of v.targets) left (none_back (is_whole j.steps) (places j.steps v j.items) (broken j.steps v j.items) (faults_in v left) nothing)

no_fault : (fault : RecordingFault) → Some fault ≡ None → ⊥
no_fault fault is = cc

pub passed : (files later : Option Store) (request : CheckRequest) (passes : Bool) (g : Parts) (told : List BrokenRule) (late : List Violation) (found : List Difference) (dies : List Die) (whole : List Item) (assumed : List NotShown) →
    first_of told late found ≡ None → may_pass request assumed ≡ passes → IsJudged files later request request.dies g told late found dies whole assumed → IsPassed files later request passes (report_text told late found assumed)
passed files later request passes g [] [] [] dies whole assumed none may j = record {
  g = g;
  dies = dies;
  whole = whole;
  assumed = assumed;
  judged = j;
  legal = legal_in files later request g [] [] dies whole assumed j;
  may = may;
  lines = refl;
}
passed files later request passes g (fault ∷ told) late found dies whole assumed none may j = cc
passed files later request passes g [] (v ∷ late) found dies whole assumed none may j = cc
passed files later request passes g [] [] (d ∷ found) dies whole assumed none may j = cc

pub faulty : (files later : Option Store) (request : CheckRequest) (fault : RecordingFault) (g : Parts) (told : List BrokenRule) (late : List Violation) (found : List Difference) (dies : List Die) (whole : List Item) (assumed : List NotShown) →
    first_of told late found ≡ Some fault → IsJudged files later request request.dies g told late found dies whole assumed → IsFaulty files later request fault (report_text told late found assumed)
faulty files later request fault g told late found dies whole assumed first j = record {
  g = g;
  told = told;
  late = late;
  found = found;
  dies = dies;
  whole = whole;
  assumed = assumed;
  judged = j;
  first = first;
  lines = ap (λ (o : Option RecordingFault). text_by o told late found assumed) first;
}
