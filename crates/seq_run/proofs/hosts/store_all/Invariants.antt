use Rattle.seq_run.specs.Hosted.{HasStored}
use Rattle.seq_run.proofs.hosts.store_all.Given as goal

abbrev pub invariant-loop-job : goal.invariant-loop-job
invariant-loop-job g l = HasStored l.fn.pass l.yielded l.pass
