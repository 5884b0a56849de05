use Rattle.bus_record.specs.Trial.{tried_view}
use Rattle.bus_record.proofs.Spots.{there_more}
use Rattle.bus_record.proofs.operation.+try_parts.Goals as goal

pub returns-else-code-ne0-clause-there : goal.returns-else-code-ne0-clause-there
returns-else-code-ne0-clause-there n c =
    there_more c.args.ce c.args.parts.now _ c.try_parts-gone.result.parts (tried_view c.args.bus.now c.args.ce c.args.kept.now) (tried_view c.args.bus.now c.args.ce c.try_whole-code.new.kept)
    (tried_view c.args.bus.now c.args.ce c.try_parts-gone.new.kept) c.in-len1-up.len_at_least (c.try_whole-code.ensures.state c.if-code-ne0.false) c.try_parts-gone.ensures.there
