use Rattle.std.proofs.Common.{◌≡◌, ◌<◌}
use Rattle.onfi_cycle.specs.Bounds.{TargetFits}
use Rattle.target_record.specs.Geometry.{parts_of}
use Rattle.target_record.specs.Record.{IsTarget, tail_of, target_of}
use Rattle.bus_record.specs.Runs.{each_taken}
use Rattle.bus_record.proofs.FeatureBytes.{TakesBytes}
use Rattle.bus_record.proofs.run.apply_each.Given as goal

-- the target takes what is left, and that leads to where all of it leads
abbrev pub invariant-loop-left : goal.invariant-loop-left
invariant-loop-left l =
    record {
      numbers : IsTarget l.kept;
      fits : TargetFits (parts_of l.geometry) (target_of l.kept);
      leads : each_taken (parts_of l.geometry) l.ce l.left (target_of l.kept) ≡ each_taken (parts_of l.geometry) l.ce l.count (target_of l.initial.kept);
      more : 0 < l.left → TakesBytes l.left (tail_of l.kept);
    }

abbrev pub decreases-loop-left : goal.decreases-loop-left
decreases-loop-left l = l.left
