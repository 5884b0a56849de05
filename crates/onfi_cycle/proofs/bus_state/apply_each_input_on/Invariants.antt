use Rattle.std.proofs.Common.{◌≡◌, None}
use Rattle.onfi_cycle.specs.State.{bus}
use Rattle.onfi_cycle.specs.Bounds.{BusFits}
use Rattle.onfi_cycle.specs.Inputs.{judged_inputs, after_inputs}
use Rattle.onfi_cycle.proofs.bus_state.apply_each_input_on.Given as goal

-- what is left of the run is permitted, and leads to where the whole leads
abbrev pub invariant-loop-left : goal.invariant-loop-left
invariant-loop-left l =
    record {
      permitted : judged_inputs l.ce l.left (bus l.geometry l.targets) ≡ None;
      leads : after_inputs l.ce l.left (bus l.geometry l.targets) ≡ after_inputs l.ce l.count (bus l.geometry l.initial.targets);
      fits : BusFits (bus l.geometry l.targets);
    }

abbrev pub decreases-loop-left : goal.decreases-loop-left
decreases-loop-left l = l.left
