use Rattle.std.proofs.Common.{arith}
use Rattle.micro_lint.specs.Least.{largest_but}
use Rattle.micro_lint.proofs.Searched.{narrowed_up, short_of}
use Rattle.micro_lint.proofs.least_number.Search.narrowed.Goals as goal

pub returns-else-is_enough-clause-between : goal.returns-else-is_enough-clause-between
returns-else-is_enough-clause-between g c = λ never b.
    narrowed_up c.args.geometry.now c.args.self.words.items never c.args.number c.args.self.low c.args.self.high c.args.tried (omega (arith, c.if-high-tried.false))
    (short_of c.try_header-words.result.1 c.args.geometry.now c.args.self.words.items c.largest_but.result (largest_but c.args.number c.args.tried) c.if-is_enough.false c.largest_but.ensures
    (c.try_header-words.ensures.enough never)) b
