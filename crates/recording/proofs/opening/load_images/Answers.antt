use Rattle.std.proofs.Common.{◌∙◌}
use Rattle.std.proofs.lemmas.List.{drop_more}
use Rattle.recording.proofs.Going.{goes_on}
use Rattle.recording.proofs.opening.load_images.Goals as goal

pub loop-image-preserved : goal.loop-image-preserved
loop-image-preserved g c =
    let i = c.loop-image.invariant in (
      goes_on (g.F.Files.store c.args.files.now) (g.F.Files.store c.loop-image.files) c.args.dies.now.geometry c.loop-image.dies.geometry c.args.dies.now.targets c.loop-image.dies.targets
          c.args.images.now _ _ _ c.args.dies.now.dies.items c.loop-image.dies.dies.items _ c.args.dies.now.known.items c.loop-image.dies.known.items _
          (drop_more c.args.images.now c.loop-image.image-index _ c.loop-image-test.true) i.3 i.1 i.2 i.0 c.in_ok-load_image.ensures.ok,
      c.load_image.ensures.channel.0 ∙ i.1,
      c.load_image.ensures.channel.1 ∙ i.2,
      c.load_image.ensures.stays ∙ i.3,
    )
