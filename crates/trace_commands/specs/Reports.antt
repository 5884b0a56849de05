-- What a check prints of a trace: a line for each fault, for what comes too soon or takes too long, for outputs that differ, and for readies that are taken for granted.
use Rattle.std.specs.Prelude.{◌++◌, ◌∷◌, [], ℕ, true, Bool, List, codes, Option, Some, None}
use Rattle.std.specs.Fmt.{decimal}
use Rattle.trace_faults.specs.declared.broken_rule.BrokenRule.{BrokenRule}
use Rattle.trace_faults.specs.declared.unshown.NotShown.{NotShown}
use Rattle.trace_timing.specs.declared.violation.Violation.{Violation}
use Rattle.trace_data.specs.declared.difference.Difference.{Difference}
use Rattle.trace_data.specs.declared.difference_run.DifferenceRun.{DifferenceRun}
use Rattle.trace_data.specs.Runs.{runs_of}
use Rattle.recording.specs.declared.check_request.CheckRequest.{CheckRequest}
use Rattle.recording.specs.declared.recording_fault.RecordingFault.{RecordingFault}
use Rattle.recording.specs.declared.recording_fault.RecordingFault.TheVariants.{Item as ItemAt, Time, Output}
use Rattle.recording.specs.Recordings.{fault_line}

-- ---- lines

abbrev pub fault_lines : List BrokenRule → List ℕ
fault_lines [] = []
fault_lines (fault ∷ faults) = fault_line (ItemAt fault.rule fault.item) ++ fault_lines faults

abbrev pub late_lines : List Violation → List ℕ
late_lines [] = []
late_lines (v ∷ late) = fault_line (Time v.fault v.item) ++ late_lines late

-- a line for each run of outputs that differ, with its first item
abbrev pub run_lines : List DifferenceRun → List ℕ
run_lines [] = []
run_lines (run ∷ runs) = fault_line (Output run.first.item) ++ run_lines runs

-- `assumed ready at N`, and a line feed: before this item a LUN is taken for ready that nothing showed
abbrev pub assumed_line : NotShown → List ℕ
assumed_line told = codes "assumed ready at " ++ (decimal told.item ++ (10 ∷ []))

abbrev pub assumed_lines : List NotShown → List ℕ
assumed_lines [] = []
assumed_lines (told ∷ assumed) = assumed_line told ++ assumed_lines assumed

-- what is printed of a trace without a fault
abbrev pub legal_text : List NotShown → List ℕ
legal_text assumed = codes "legal\n" ++ assumed_lines assumed

-- and of one that has these
abbrev pub faulty_text : List BrokenRule → List Violation → List Difference → List NotShown → List ℕ
faulty_text told late found assumed = fault_lines told ++ (late_lines late ++ (run_lines (runs_of found) ++ assumed_lines assumed))

-- ---- the first fault

-- a broken rule comes before a time that isn't kept, and that before an output that differs
abbrev pub first_of : List BrokenRule → List Violation → List Difference → Option RecordingFault
first_of (fault ∷ told) late found = Some (ItemAt fault.rule fault.item)
first_of [] (v ∷ late) found = Some (Time v.fault v.item)
first_of [] [] (difference ∷ found) = Some (Output difference.item)
first_of [] [] [] = None

abbrev pub text_by : Option RecordingFault → List BrokenRule → List Violation → List Difference → List NotShown → List ℕ
text_by None told late found assumed = legal_text assumed
text_by (Some fault) told late found assumed = faulty_text told late found assumed

-- what is printed
abbrev pub report_text : List BrokenRule → List Violation → List Difference → List NotShown → List ℕ
report_text told late found assumed = text_by (first_of told late found) told late found assumed

-- nothing is taken for granted, or it may be
abbrev pub may_pass : CheckRequest → List NotShown → Bool
may_pass request [] = true
may_pass request (told ∷ assumed) = request.assumes_ready
