use Rattle.std.proofs.Common.{map, arith}
use Rattle.std.proofs.lemmas.List.{length-map}
use Rattle.std.proofs.lemmas.Grind.{common_steps}
use Rattle.micro_asm.specs.Kept.{pair_of}
use Rattle.micro_asm.proofs.Steps.{label_kept}
use Rattle.micro_asm.proofs.survey.Survey.keep.Goals as goal

pub returns-in_ok-insert-in-Label-clause-ok : goal.returns-in_ok-insert-in-Label-clause-ok
returns-in_ok-insert-in-Label-clause-ok g c =
    let s = c.args.self.now in
    rw c.in-Label.is (label_kept s.line c.len-place.result s.heading (map pair_of s.entries.items) s.labels c.insert.new.self c.in-Label.name.now
    (grind (arith, common_steps, length-map s.entries.items pair_of))
    c.in_ok-insert-in-Label.ensures.updates)
