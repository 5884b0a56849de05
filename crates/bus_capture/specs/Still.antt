-- A bus whose lines beside the bus stay as they are: R/B#, and those of a model.
use Rattle.std.specs.Prelude.{◌≡◌, Bool, false, drop}
use Rattle.bus_capture.specs.declared.sampler.Sampler.{Sampler}

abbrev pub IsStill : Sampler → Type 0
IsStill s = drop 16 s.before.of ≡ drop 16 s.after.of

abbrev pub IsStillUnless : Bool → Sampler → Type 0
IsStillUnless beside s = beside ≡ false → IsStill s
