use Rattle.std.proofs.Common.{◌≡◌, ◌∙◌, ◌+◌, ◌-◌, ℕ, ap, arith, reverse, take}
use Rattle.std.specs.List.{flat_map}
use Rattle.channel_work.specs.Stored.{last_started}
use Rattle.channel_work.specs.Events.{kept_as}
use Rattle.channel_work.proofs.Packing.{passed}
use Rattle.channel_work.proofs.events.find_last_kept.Goals as goal

pub loop-place-preserved : goal.loop-place-preserved
loop-place-preserved c =
    let kept = c.args.kept.now in
    let place = c.loop-place.place in
    let is : place - 1 + 1 ≡ place = omega (arith, c.loop-place-test.true) in (
      omega (arith, c.loop-place.invariant.0),
      passed c.args.lun kept (place - 1) _ (omega (arith, c.loop-place-test.true, c.loop-place.invariant.0)) c.in_default.not-Load
          ∙ (ap (λ (n : ℕ). last_started c.args.lun (reverse (flat_map kept_as (take n kept)))) is ∙ c.loop-place.invariant.1),
    )
