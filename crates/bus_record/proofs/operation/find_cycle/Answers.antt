use Rattle.std.proofs.Common.{sym, ◌∙◌}
use Rattle.bus_record.specs.Trial.{tried_view}
use Rattle.bus_record.proofs.Spots.{some_cycles}
use Rattle.bus_record.proofs.operation.find_cycle.Goals as goal

pub find_between-requires-clause-less : goal.find_between-requires-clause-less
find_between-requires-clause-less c =
    some_cycles c.args.ce c.args.part.now (tried_view c.args.bus.now c.args.ce c.args.kept.now) c.requires.refused (sym c.ask_part.ensures ∙ c.if-ask_part-ne0.false)
