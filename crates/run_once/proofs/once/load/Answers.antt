use Rattle.run_once.proofs.Ends.{loaded_now, never_refused}
use Rattle.run_once.proofs.once.load.Goals as goal

pub returns : goal.returns
returns g c = loaded_now c.in_ok-core.core c.load.new.self c.args.job c.in_ok-core.ensures.channel c.in_ok-core.ensures.fresh c.in-Ok.ensures.ok

pub unreachable-requires : goal.unreachable-requires
unreachable-requires g c =
    never_refused c.in_ok-core.core c.load.new.self c.args.job c.in-Err.field-0.fault c.requires c.in_ok-core.ensures.channel c.in_ok-core.ensures.fresh c.in-Err.ensures.err.2
