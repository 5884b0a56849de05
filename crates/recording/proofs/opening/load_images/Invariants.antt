use Rattle.std.proofs.Common.{◌≡◌, drop}
use Rattle.recording.specs.Opened.{AreGoing}
use Rattle.recording.proofs.opening.load_images.Given as goal

abbrev pub invariant-loop-image : goal.invariant-loop-image
invariant-loop-image g l =
    AreGoing (g.F.Files.store l.initial.files) l.initial.dies.geometry l.initial.dies.targets l.images (drop l.image-index l.images) l.initial.dies.dies.items l.dies.dies.items l.initial.dies.known.items l.dies.known.items
    × (l.dies.geometry ≡ l.initial.dies.geometry) × (l.dies.targets ≡ l.initial.dies.targets) × (g.F.Files.store l.files ≡ g.F.Files.store l.initial.files)
