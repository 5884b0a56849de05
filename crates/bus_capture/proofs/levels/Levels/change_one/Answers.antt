use Rattle.std.proofs.Common.{◌<◌, drop, ◌∙◌, ap, arith}
use Rattle.std.proofs.lemmas.Bool.{leb-false}
use Rattle.bus_signals.specs.Roles.{place_of}
use Rattle.bus_capture.proofs.Unchanged.{set_before}
use Rattle.bus_capture.proofs.levels.Levels.change_one.Goals as goal

pub returns-then-source-code-clause-beside : goal.returns-then-source-code-clause-beside
returns-then-source-code-clause-beside c = λ low.
    let within : place_of c.args.source.role < 16 = omega (arith, leb-false 16 c.place.result low, c.place.ensures.value) in
    ap (drop 16) c.set.ensures ∙ set_before 16 (place_of c.args.source.role) c.args.self.now.of c.bit_at.result within
