-- How a trace is gone on with, whether its items are permitted or not.
use Rattle.std.specs.Prelude.{ℕ, false, List, [], ◌∷◌, replicate, Option, Some, None, if◌then◌else◌}
use Rattle.nand_geometry.specs.declared.parts.Parts.{Parts}
use Rattle.onfi_cycle.specs.declared.item.Item.{Item}
use Rattle.onfi_cycle.specs.declared.forbidden.Forbidden.{Forbidden}
use Rattle.onfi_cycle.specs.Sequence.{target_of}
use Rattle.onfi_cycle.specs.State.{BusView, targets_from, bus, judged, bus_after, bus_without}
use Rattle.trace_faults.specs.declared.standing.Standing.{Standing}
use Rattle.trace_faults.specs.declared.standing.Standing.TheVariants.{Inside}
use Rattle.trace_faults.specs.declared.trace_state.TraceState.{TraceState}
use Rattle.trace_faults.specs.Outside.{is_opening, leaves_profile, standings_after, is_outside}
use Rattle.trace_faults.specs.Denied.{shown_busy_after, after_addresses, told_in}

-- ---- the beginning

-- no target is outside of the profile
abbrev pub all_inside : List Standing
all_inside = Inside ∷ (Inside ∷ (Inside ∷ (Inside ∷ [])))

-- a channel of so many targets to which nothing has happened
abbrev pub fresh : Parts → ℕ → TraceState
fresh g targets = record {
  bus = bus g (targets_from g [] targets 0);
  standings = all_inside;
  told = replicate 4 false;
  shown_busy = replicate 16 false;
}

-- the same before these items, which may tell readies
abbrev pub fresh_for : Parts → ℕ → List Item → TraceState
fresh_for g targets items = record {
  bus = bus g (targets_from g [] targets 0);
  standings = all_inside;
  told = told_in items;
  shown_busy = replicate 16 false;
}

-- ---- one item

-- the rule that an item breaks first; none where it is passed over
abbrev pub judged_here : TraceState → Item → Option Forbidden
judged_here t i = if is_outside t i then None else judged t.bus i

-- what an item leaves that is done if no rule is against it
abbrev pub done_unless : Option Forbidden → Item → BusView → BusView
done_unless None i state = bus_after i state
done_unless (Some rule) i state = state

-- what an item leaves that isn't permitted: nothing. But one that begins a sequence outside of the profile drops the sequence that its target is in, and
-- an opener drops it too, and is done where it is permitted then
abbrev pub recovered : Forbidden → Item → BusView → BusView
recovered rule i state =
    if leaves_profile (Some rule) state (target_of i) then bus_without (target_of i) state
    else (if is_opening state.geometry i then done_unless (judged (bus_without (target_of i) state) i) i (bus_without (target_of i) state) else state)

abbrev pub bus_by : Option Forbidden → Item → BusView → BusView
bus_by None i state = bus_after i state
bus_by (Some rule) i state = recovered rule i state

-- what an item leaves that breaks this rule first, if it breaks one
abbrev pub gone_on_by : Option Forbidden → Item → TraceState → TraceState
gone_on_by rule i t = record {
  bus = bus_by rule i t.bus;
  standings = standings_after rule t.bus i t.standings;
  told = t.told;
  shown_busy = after_addresses (bus_by rule i t.bus) i (shown_busy_after t.bus i t.shown_busy);
}

-- what an item leaves, permitted or not; one that is passed over leaves all as it was
abbrev pub gone_on : Item → TraceState → TraceState
gone_on i t = if is_outside t i then t else gone_on_by (judged t.bus i) i t

-- the target without the sequence that it is in
abbrev pub without_sequence : ℕ → TraceState → TraceState
without_sequence ce t = record t { bus = bus_without ce t.bus }
