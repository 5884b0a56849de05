use Rattle.seq_live.proofs.Turns.{taken_away, not_taken_away}
use Rattle.seq_live.proofs.run.end_job.Goals as goal

pub returns-in-Ok : goal.returns-in-Ok
returns-in-Ok g c = λ most pins. taken_away most c.args.live.now c.unload.new.self c.args.on c.in-Ok.done pins c.in-Ok.ensures.ok

pub returns-in-Err : goal.returns-in-Err
returns-in-Err g c = λ most pins. not_taken_away {A = g.row.A.Denot} most c.args.live.now c.unload.new.self c.args.on c.in-Err.field-0 pins c.in-Err.ensures.err.1
