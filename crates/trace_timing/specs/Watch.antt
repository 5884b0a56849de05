-- What comes too soon on a channel, all of it.
use Rattle.std.specs.Prelude.{ℕ, ◌+◌, Bool, false, ◌||◌, nat_lt, if◌then◌else◌, List, [], ◌∷◌, ◌++◌, map, replicate, slice_index_or, slice_set, Option, Some, None, is_some}
use Rattle.onfi_cycle.specs.declared.item.Cycle.{Cycle}
use Rattle.onfi_cycle.specs.declared.item.Item.{Item}
use Rattle.onfi_cycle.specs.declared.item.Item.TheVariants.{Cyc, Rdy, Ard}
use Rattle.trace_timing.specs.declared.clock.Clock.{Clock}
use Rattle.trace_timing.specs.declared.clock.Pair.{Pair}
use Rattle.trace_timing.specs.declared.timing_fault.TimingFault.TheVariants as fault
use Rattle.trace_timing.specs.declared.violation.Violation.{Violation}
use Rattle.trace_timing.specs.declared.watch.Ruler.{Ruler}
use Rattle.trace_timing.specs.declared.watch.TimedItem.{TimedItem}
use Rattle.trace_timing.specs.declared.watch.Watch.{Watch}
use Rattle.trace_timing.specs.Clock.{begun, cycle_pair, busy_pair, ready_pair, clock_after, clock_ready, clock_cut}

abbrev pub clock_at : List Clock → ℕ → Clock
clock_at clocks ce = slice_index_or clocks ce begun

abbrev pub watch_begun : Watch
watch_begun = record { clocks = replicate 4 begun; latest = None; has_pairs = false }

-- ---- a time that goes back

abbrev pub is_before : Option ℕ → Option ℕ → Bool
is_before None time = false
is_before (Some latest) None = false
is_before (Some latest) (Some time) = nat_lt time latest

abbrev pub latest_after : Option ℕ → Option ℕ → Option ℕ
latest_after latest None = latest
latest_after latest (Some time) = Some time

-- the clocks that an item meets
abbrev pub clocks_at : Watch → Option ℕ → List Clock
clocks_at w time = if is_before w.latest time then map clock_cut w.clocks else w.clocks

abbrev pub backward_at : (n : ℕ) → Bool → List Violation
backward_at n goes_back = if goes_back then record { item = n; fault = fault.Backwards; seen = 0; wanted = 0 } ∷ [] else []

-- ---- what comes too soon

-- a distance is short by the slack at the most
abbrev pub is_short : (slack : ℕ) → Pair → Bool
is_short slack p = nat_lt (p.seen + slack) p.wanted

abbrev pub short_if : (n : ℕ) → (slack : ℕ) → Pair → List Violation
short_if n slack p = if is_short slack p then record { item = n; fault = p.fault; seen = p.seen; wanted = p.wanted } ∷ [] else []

abbrev pub short_at : (n : ℕ) → (slack : ℕ) → Option Pair → List Violation
short_at n slack None = []
short_at n slack (Some p) = short_if n slack p

-- what of a cycle comes too soon
abbrev pub short_of_cycle : Ruler → (n : ℕ) → Clock → Cycle → Option ℕ → List Violation
short_of_cycle r n c cycle time =
    (short_at n r.slack (cycle_pair r.timings r.unit c cycle.kind time) ++ short_at n r.slack (busy_pair r.timings r.unit c cycle.kind time))
    ++ short_at n r.slack (ready_pair r.timings r.unit r.one_lun c cycle.kind time)

abbrev pub has_pair : Ruler → Clock → Cycle → Option ℕ → Bool
has_pair r c cycle time =
    is_some (cycle_pair r.timings r.unit c cycle.kind time) || (is_some (busy_pair r.timings r.unit c cycle.kind time) || is_some (ready_pair r.timings r.unit r.one_lun c cycle.kind time))

abbrev pub short_of : Ruler → (n : ℕ) → List Clock → Item → Option ℕ → List Violation
short_of r n clocks (Cyc c) time = short_of_cycle r n (clock_at clocks c.ce) c time
short_of r n clocks (Rdy ce lun fail) time = []
short_of r n clocks (Ard ce lun fail) time = []

abbrev pub pairs_with : Ruler → List Clock → Item → Option ℕ → Bool
pairs_with r clocks (Cyc c) time = has_pair r (clock_at clocks c.ce) c time
pairs_with r clocks (Rdy ce lun fail) time = false
pairs_with r clocks (Ard ce lun fail) time = false

abbrev pub clocks_after : List Clock → Item → Option ℕ → List Clock
clocks_after clocks (Cyc c) time = slice_set clocks c.ce (clock_after (clock_at clocks c.ce) c.kind c.byte time)
clocks_after clocks (Rdy ce lun fail) time = slice_set clocks ce (clock_ready (clock_at clocks ce) time)
clocks_after clocks (Ard ce lun fail) time = clocks

-- ---- item by item

-- what is told of an item of this number
abbrev pub told_of : Ruler → Watch → (n : ℕ) → TimedItem → List Violation
told_of r w n i = backward_at n (is_before w.latest i.time) ++ short_of r n (clocks_at w i.time) i.item i.time

abbrev pub watch_after : Ruler → Watch → TimedItem → Watch
watch_after r w i = record {
  clocks = clocks_after (clocks_at w i.time) i.item i.time;
  latest = latest_after w.latest i.time;
  has_pairs = w.has_pairs || pairs_with r (clocks_at w i.time) i.item i.time;
}

-- of items that are counted from this number
abbrev pub told_from : Ruler → Watch → (n : ℕ) → List TimedItem → List Violation
told_from r w n [] = []
told_from r w n (i ∷ items) = told_of r w n i ++ told_from r (watch_after r w i) (n + 1) items

-- whether two times of a trace could be compared
abbrev pub watched : Ruler → Watch → List TimedItem → Watch
watched r w [] = w
watched r w (i ∷ items) = watched r (watch_after r w i) items

-- all that is told of a trace: what comes too soon, and times that go back; of one no two times of which can be compared that
abbrev pub told_by : List Violation → (has_pairs : Bool) → List Violation
told_by told has_pairs = if has_pairs then told else record { item = 0; fault = fault.NoTimes; seen = 0; wanted = 0 } ∷ told

abbrev pub violations_of : Ruler → List TimedItem → List Violation
violations_of r items = told_by (told_from r watch_begun 0 items) (watched r watch_begun items).has_pairs
