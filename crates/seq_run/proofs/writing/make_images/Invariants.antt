use Rattle.std.proofs.Common.{◌≡◌, drop, map, ◌++◌}
use Rattle.seq_files.specs.Store.{made_of}
use Rattle.seq_run.specs.Written.{images_of}
use Rattle.seq_run.proofs.writing.make_images.Given as goal

abbrev pub invariant-loop-image : goal.invariant-loop-image
invariant-loop-image l = map made_of l.made.items ++ images_of l.dies (drop l.image-index l.images) ≡ images_of l.dies l.images
