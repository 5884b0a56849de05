-- The trace of a run with times.
use Rattle.std.specs.Prelude.{◌≡◌, ℕ, ⊤, List, [], ◌∷◌, ◌++◌, map, Option, Some, None}
use Rattle.std.specs.List.Sorted.{IsNonDecreasingBy}
use Rattle.std.specs.Option.{option_copied}
use Rattle.nand_geometry.specs.declared.parts.Parts.{Parts}
use Rattle.onfi_cycle.specs.declared.item.Item.{Item}
use Rattle.seq_files.specs.Store.{Written}
use Rattle.trace_text.specs.Line.{text}
use Rattle.trace_text.specs.Recorded.{timed_text}
use Rattle.trace_text.specs.declared.recorded_item.TimedItem.{TimedItem}
use Rattle.trace_timing.specs.declared.modes.TimingMode.{TimingMode}
use Rattle.trace_files.specs.Files.{files_of}
use Rattle.trace_files.specs.declared.outputs.TraceOutputs.{TraceOutputs}

-- these are the items of a trace, in order, with times that never fall
pub record IsTimed (items : List Item) (timed : List TimedItem) : Type 0 where
  pub same : map (λ (t : TimedItem). t.item) timed ≡ items
  pub rise : IsNonDecreasingBy (λ (t : TimedItem). t.time) timed

-- a trace has times where a timing mode is asked for
abbrev pub HasTimes : Option TimingMode → List Item → List TimedItem → Type 0
HasTimes None items timed = ⊤
HasTimes (Some mode) items timed = IsTimed items timed

-- the text of a trace, with a time in front of each item where a timing mode is asked for
abbrev pub text_of : Option TimingMode → List Item → List TimedItem → List ℕ
text_of None items timed = text items
text_of (Some mode) items timed = timed_text timed

-- the text of a trace with times, where a path is given for it
abbrev pub timed_text_at : Option (List ℕ) → List TimedItem → List Written
timed_text_at None timed = []
timed_text_at (Some path) timed = (path, timed_text timed) ∷ []

-- all files of the trace but its text
abbrev pub untold : TraceOutputs → TraceOutputs
untold outputs = record outputs { text = None }

-- the files of a trace
abbrev pub files_with : Option TimingMode → TraceOutputs → Parts → ℕ → List Item → List TimedItem → (drawn : List ℕ) → List Written
files_with None outputs g targets items timed drawn = files_of outputs g targets items drawn
files_with (Some mode) outputs g targets items timed drawn =
    timed_text_at (option_copied outputs.text) timed ++ files_of (untold outputs) g targets items drawn
