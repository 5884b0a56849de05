use Rattle.std.proofs.Common.{arith}
use Rattle.busy_times.proofs.Finite.{finite}
use Rattle.busy_times.proofs.overrun.bound_work.Goals as goal

pub overflow_add-result : goal.overflow_add-result
overflow_add-result c =
    let below = finite c.args.ruler.longest c.args.work c.requires.longest in
    omega (arith, c.time_of.ensures, below, c.requires.to_busy)
