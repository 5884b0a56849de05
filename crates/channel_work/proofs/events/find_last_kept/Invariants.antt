use Rattle.std.proofs.Common.{◌≡◌, ◌≤◌, reverse, length, take}
use Rattle.std.specs.List.{flat_map}
use Rattle.channel_work.specs.Stored.{last_started}
use Rattle.channel_work.specs.Events.{kept_as}
use Rattle.channel_work.proofs.events.find_last_kept.Given as goal

abbrev pub invariant-loop-place : goal.invariant-loop-place
invariant-loop-place l = (l.place ≤ length l.kept) × (last_started l.lun (reverse (flat_map kept_as (take l.place l.kept))) ≡ last_started l.lun (reverse (flat_map kept_as l.kept)))

abbrev pub decreases-loop-place : goal.decreases-loop-place
decreases-loop-place l = l.place
