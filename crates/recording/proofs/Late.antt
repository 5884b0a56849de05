-- What takes too long is what the definition tells, and stands in order with what comes too soon.
use Rattle.std.proofs.Common.{◌≡◌, ℕ, List, ◌++◌, map, refl, sym, subst}
use Rattle.onfi_cycle.specs.declared.item.Item.{Item}
use Rattle.trace_ops.specs.declared.operation.Operation.{Operation}
use Rattle.trace_ops.specs.Listing.{ops_of, marks_of}
use Rattle.trace_timing.specs.declared.violation.Violation.{Violation}
use Rattle.trace_timing.specs.declared.watch.TimedItem.{TimedItem}
use Rattle.busy_times.specs.declared.overrun.BusyRuler.{BusyRuler}
use Rattle.busy_times.specs.Overruns.{overruns_of}
use Rattle.busy_times.specs.Order.{IsInOrder}
use Rattle.recording.specs.declared.trace_view.TraceView.{TraceView}
use Rattle.recording.specs.Targets.{count_of}
use Rattle.recording.specs.Traces.{item_of}
use Rattle.recording.specs.Times.{long_of}

pub long_is : (v : TraceView) (r : BusyRuler) (timed : List TimedItem) (items : List Item) (targets : ℕ) (ops : List Operation) (marks : List ℕ) (told : List Violation) →
    items ≡ map item_of timed → targets ≡ count_of v.targets → ops ≡ ops_of v.readies v.beginning v.geometry targets items → marks ≡ marks_of v.readies v.beginning v.geometry targets items →
    told ≡ overruns_of r ops marks timed → told ≡ long_of v r timed
long_is v r timed items targets ops marks told i t o m e = rw (e, m, o, t, i) refl

pub ordered_is : (soon long joined before all : List Violation) → joined ≡ soon ++ long → before ≡ joined → IsInOrder before all → IsInOrder (soon ++ long) all
ordered_is soon long joined before all j b h = subst (λ (told : List Violation). IsInOrder told all) j (subst (λ (told : List Violation). IsInOrder told all) b h)
