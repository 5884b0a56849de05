use Rattle.std.proofs.Common.{[], ◌∷◌}
use Rattle.std.specs.Prelude.{codes}
use Rattle.trace_wave.proofs.Lists.{joined_five}
use Rattle.trace_wave.proofs.header.push_variable.Goals as goal

pub returns-clause-value : goal.returns-clause-value
returns-clause-value g c =
    joined_five c.args.out.now.items c.push_bytes.new.out.items c.push_bytes-2.new.out.items c.push_bytes-3.new.out.items c.push_bytes-4.new.out.items c.push_bytes-5.new.out.items
    (codes "$var wire 1 ") (c.args.code ∷ 32 ∷ []) c.args.name.now c.args.rest.now (codes " $end\n")
    c.push_bytes.ensures.value c.push_bytes-2.ensures.value c.push_bytes-3.ensures.value c.push_bytes-4.ensures.value c.push_bytes-5.ensures.value
