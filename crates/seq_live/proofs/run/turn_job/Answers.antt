use Rattle.seq_live.proofs.run.turn_job.Goals as goal

pub returns-in-None-clause-ok : goal.returns-in-None-clause-ok
returns-in-None-clause-ok g c = c.start.ensures c.args.most (g.P.Pins.driven c.args.pins.now)
