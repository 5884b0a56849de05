-- What is judged of a trace: all of its items, or those that belong to no sequence of a vendor; and what is found in these, carried back to their places.
use Rattle.std.specs.Prelude.{◌≡◌, ℕ, Bool, true, false, List, [], ◌∷◌, map, get_or, None}
use Rattle.onfi_cycle.specs.declared.item.Item.{Item}
use Rattle.onfi_cycle.specs.declared.item.Item.TheVariants.{Cyc}
use Rattle.onfi_cycle.specs.declared.item.Kind.TheVariants.{Cmd}
use Rattle.trace_faults.specs.declared.broken_rule.BrokenRule.{BrokenRule}
use Rattle.trace_faults.specs.declared.unshown.NotShown.{NotShown}
use Rattle.trace_timing.specs.declared.violation.Violation.{Violation}
use Rattle.trace_timing.specs.declared.watch.TimedItem.{TimedItem}
use Rattle.trace_data.specs.declared.difference.Difference.{Difference}
use Rattle.trace_data.specs.Numbers.{numbered_by}
use Rattle.vendor_file.specs.declared.step.Step.{Step}
use Rattle.vendor_file.specs.Carried.{kept_items, kept_places, broken_lines, carried_faults, carried_readies, merged}
use Rattle.recording.specs.declared.trace_view.TraceView.{TraceView}
use Rattle.recording.specs.declared.kept_trace.KeptTrace.{KeptTrace}
use Rattle.recording.specs.Targets.{count_of}

-- ---- what is kept where these steps are passed over: all, where there are none

abbrev pub kept : List Step → TraceView → List Item → List Item
kept [] v items = items
kept (step ∷ steps) v items = kept_items (step ∷ steps) v.readies v.geometry (count_of v.targets) items

-- where it stands in the trace
abbrev pub places : List Step → TraceView → List Item → List ℕ
places steps v items = kept_places steps v.readies v.geometry (count_of v.targets) items

-- the cycles that aren't next in a sequence
abbrev pub broken : List Step → TraceView → List Item → List BrokenRule
broken steps v items = broken_lines steps v.readies v.geometry (count_of v.targets) items

-- an item with its time, at a place
abbrev pub timed_at : List TimedItem → ℕ → TimedItem
timed_at timed place = get_or timed place (record { time = None; item = Cyc (record { ce = 0; kind = Cmd; byte = 0 }) })

abbrev pub timed_at_places : List ℕ → List TimedItem → List TimedItem
timed_at_places at timed = map (timed_at timed) at

-- what is kept, with its times
abbrev pub kept_timed : List Step → TraceView → List Item → List TimedItem → List TimedItem
kept_timed [] v items timed = timed
kept_timed (step ∷ steps) v items timed = timed_at_places (places (step ∷ steps) v items) timed

-- ---- carried back from these places, or as it is where the trace is kept whole

abbrev pub carried_violation : List ℕ → Violation → Violation
carried_violation at v = record v { item = get_or at v.item 0 }

abbrev pub carried_violations : List ℕ → List Violation → List Violation
carried_violations at late = map (carried_violation at) late

-- faults of what is kept, with the cycles that aren't next in a sequence, in the order of items
abbrev pub faults_from : (is_whole : Bool) → List ℕ → (broken : List BrokenRule) → List BrokenRule → List BrokenRule
faults_from true at broken faults = faults
faults_from false at broken faults = merged (carried_faults at faults) broken

abbrev pub readies_from : (is_whole : Bool) → List ℕ → List NotShown → List NotShown
readies_from true at told = told
readies_from false at told = carried_readies at told

abbrev pub late_from : (is_whole : Bool) → List ℕ → List Violation → List Violation
late_from true at late = late
late_from false at late = carried_violations at late

abbrev pub differences_from : (is_whole : Bool) → List ℕ → List Difference → List Difference
differences_from true at found = found
differences_from false at found = map (numbered_by at) found

-- ---- the same of a trace without the sequences of these steps

abbrev pub is_whole : List Step → Bool
is_whole [] = true
is_whole (step ∷ steps) = false

abbrev pub faults_back : List Step → TraceView → List Item → List BrokenRule → List BrokenRule
faults_back steps v items faults = faults_from (is_whole steps) (places steps v items) (broken steps v items) faults

abbrev pub readies_back : List Step → TraceView → List Item → List NotShown → List NotShown
readies_back steps v items told = readies_from (is_whole steps) (places steps v items) told

abbrev pub late_back : List Step → TraceView → List Item → List Violation → List Violation
late_back steps v items late = late_from (is_whole steps) (places steps v items) late

abbrev pub differences_back : List Step → TraceView → List Item → List Difference → List Difference
differences_back steps v items found = differences_from (is_whole steps) (places steps v items) found

-- a sequence that is passed over breaks off: some cycle isn't next in it
abbrev pub breaks_off : (is_whole : Bool) → (broken : List BrokenRule) → Bool
breaks_off true broken = false
breaks_off false [] = false
breaks_off false (cycle ∷ broken) = true

abbrev pub some_breaks_off : List Step → TraceView → List Item → Bool
some_breaks_off steps v items = breaks_off (is_whole steps) (broken steps v items)

-- ---- what a program keeps of a trace

-- where it is kept whole its places don't matter
abbrev pub ArePlaces : List Step → TraceView → List Item → (is_whole : Bool) → List ℕ → List BrokenRule → Type 0
ArePlaces [] v items is_whole at faults = is_whole ≡ true
ArePlaces (step ∷ steps) v items is_whole at faults = (is_whole ≡ false) × (at ≡ places (step ∷ steps) v items) × (faults ≡ broken (step ∷ steps) v items)

pub record IsKept (steps : List Step) (v : TraceView) (items : List Item) (timed : List TimedItem) (k : KeptTrace) : Type 0 where
  pub items_are : k.items.items ≡ kept steps v items
  pub timed_are : k.timed.items ≡ kept_timed steps v items timed
  pub places_are : ArePlaces steps v items k.is_whole k.places.items k.broken.items
