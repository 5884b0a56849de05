use Rattle.std.proofs.Common.{subst, sym}
use Rattle.run_once.specs.Runs.{RanAlone}
use Rattle.run_once.proofs.Ends.{never_stays, ran_alone}
use Rattle.run_once.proofs.once.run_job.Goals as goal

pub unreachable-requires : goal.unreachable-requires
unreachable-requires g c =
    never_stays c.in_ok-core.core c.run_to_end.new.core c.unload.new.self c.args.job c.in_ok-core.turns c.in-Err.field-0 c.requires c.in_ok-core.ensures.loaded c.in_ok-core.ensures.turns c.in_ok-run_to_end.ensures c.in-Err.ensures.err.1

pub returns : goal.returns
returns g c =
    subst (RanAlone c.args.job c.unload.new.self.past) (sym c.code_of.ensures)
    (ran_alone c.in_ok-core.core c.run_to_end.new.core c.unload.new.self c.args.job c.in-Ok.done.job c.in_ok-core.turns c.in-Ok.done.code c.requires c.in_ok-core.ensures.loaded c.in_ok-core.ensures.turns c.in_ok-run_to_end.ensures c.in-Ok.ensures.ok)
