-- Each fault of a trace, and a trace with the readies that its status outputs show and those that are taken for granted.
use Rattle.std.specs.Prelude.{ℕ, ◌+◌, List, [], ◌∷◌, ◌++◌, Option, Some, None}
use Rattle.nand_geometry.specs.declared.parts.Parts.{Parts}
use Rattle.onfi_cycle.specs.declared.item.Item.{Item}
use Rattle.onfi_cycle.specs.declared.forbidden.Forbidden.{Forbidden}
use Rattle.trace_faults.specs.declared.broken_rule.BrokenRule.{BrokenRule}
use Rattle.trace_faults.specs.declared.readies.Readies.{Readies}
use Rattle.trace_faults.specs.declared.readies.Readies.TheVariants.{Written, Shown}
use Rattle.trace_faults.specs.declared.trace_state.TraceState.{TraceState}
use Rattle.trace_faults.specs.Recovery.{fresh_for, judged_here, gone_on}
use Rattle.trace_faults.specs.declared.unshown.UnshownReady.{UnshownReady}
use Rattle.trace_faults.specs.declared.unshown.NotShown.{NotShown}
use Rattle.trace_faults.specs.ShownReadies.{with_readies, shown_readies, listed, gone_on_some}
use Rattle.trace_faults.specs.Unshown.{unshown, further, ready_taken}

-- the channel with the readies that an item shows, where they aren't written in the trace
abbrev pub before_taken : Readies → TraceState → Item → TraceState
before_taken Written state i = state
before_taken Shown state i = with_readies state i

-- the first ready that an item needs besides, where readies aren't written; later items may tell of which LUN
abbrev pub taken_on : Readies → TraceState → Item → (later : List Item) → Option UnshownReady
taken_on Written state i later = None
taken_on Shown state i later = unshown state i later

-- the channel with the ready of one LUN
abbrev pub with_unshown : TraceState → Item → (later : List Item) → TraceState
with_unshown state i later = gone_on_some (ready_taken (unshown state i later)) state

-- and with that of a further one, for an item that needs each of its target
abbrev pub with_further : TraceState → Item → (later : List Item) → TraceState
with_further state i later = gone_on_some (ready_taken (further state i later)) state

-- and with those of three further ones: a target has four LUNs at most
abbrev pub with_each : TraceState → Item → (later : List Item) → TraceState
with_each state i later = with_further (with_further (with_further state i later) i later) i later

-- the channel with what is taken
abbrev pub with_taken : Readies → TraceState → Item → (later : List Item) → TraceState
with_taken Written state i later = state
with_taken Shown state i later = with_each (with_unshown state i later) i later

-- the channel on which an item is judged: where readies aren't written in the trace, with those that the item shows and those that it needs besides
abbrev pub before_item : Readies → TraceState → Item → (later : List Item) → TraceState
before_item readies state i later = with_taken readies (before_taken readies state i) i later

abbrev pub fault_at : ℕ → Option Forbidden → List BrokenRule
fault_at n None = []
fault_at n (Some rule) = record { item = n; rule = rule } ∷ []

-- the faults of items, counted from this number: each is judged on what those before it leave, permitted or not
abbrev pub faults_from : Readies → TraceState → ℕ → List Item → List BrokenRule
faults_from readies state n [] = []
faults_from readies state n (i ∷ items) =
    fault_at n (judged_here (before_item readies state i items) i) ++ faults_from readies (gone_on i (before_item readies state i items)) (n + 1) items

-- each fault of a trace
abbrev pub faults_of : Readies → Parts → ℕ → List Item → List BrokenRule
faults_of readies g targets items = faults_from readies (fresh_for g targets items) 0 items

-- ---- what is told beside the faults

-- an item that is permitted with a ready that nothing showed
abbrev pub not_shown_by : ℕ → Option UnshownReady → Option Forbidden → List NotShown
not_shown_by n None rule = []
not_shown_by n (Some ready) None = record { item = n; ready = ready } ∷ []
not_shown_by n (Some ready) (Some rule) = []

abbrev pub not_shown_at : Readies → TraceState → ℕ → Item → (later : List Item) → List NotShown
not_shown_at readies state n i later = not_shown_by n (taken_on readies (before_taken readies state i) i later) (judged_here (before_item readies state i later) i)

abbrev pub not_shown_from : Readies → TraceState → ℕ → List Item → List NotShown
not_shown_from readies state n [] = []
not_shown_from readies state n (i ∷ items) =
    not_shown_at readies state n i items ++ not_shown_from readies (gone_on i (before_item readies state i items)) (n + 1) items

-- each item of a trace before which a LUN is taken for ready that nothing showed, and that is permitted then
abbrev pub not_shown_of : Readies → Parts → ℕ → List Item → List NotShown
not_shown_of readies g targets items = not_shown_from readies (fresh_for g targets items) 0 items

-- ---- the trace that is judged

-- the ready of a further LUN
abbrev pub further_ready : TraceState → Item → (later : List Item) → List Item
further_ready state i later = listed (ready_taken (further state i later))

-- and those of three
abbrev pub further_readies : TraceState → Item → (later : List Item) → List Item
further_readies state i later =
    further_ready state i later ++ (further_ready (with_further state i later) i later ++ further_ready (with_further (with_further state i later) i later) i later)

-- the readies that an item needs on this channel, and that nothing showed
abbrev pub taken_readies : TraceState → Item → (later : List Item) → List Item
taken_readies state i later = listed (ready_taken (unshown state i later)) ++ further_readies (with_unshown state i later) i later

-- the readies before an item: those that it shows, and those that it needs besides
abbrev pub readies_before : TraceState → Item → (later : List Item) → List Item
readies_before state i later = shown_readies state i ++ taken_readies (with_readies state i) i later

-- items with their readies, each before its item
abbrev pub completed_from : TraceState → List Item → List Item
completed_from state [] = []
completed_from state (i ∷ items) = readies_before state i items ++ (i ∷ completed_from (gone_on i (before_item Shown state i items)) items)

-- a trace with the readies that its status outputs show, and those that are taken for granted
abbrev pub completed : Parts → ℕ → List Item → List Item
completed g targets items = completed_from (fresh_for g targets items) items
