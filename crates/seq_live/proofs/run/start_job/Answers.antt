use Rattle.seq_live.proofs.Turns.{started, handed_back}
use Rattle.seq_live.proofs.run.start_job.Goals as goal

pub returns-in-Ok : goal.returns-in-Ok
returns-in-Ok g c = λ most pins. started most c.args.live.now c.load.new.self c.args.waiting c.lun-lun.result pins c.lun-lun.ensures.verified c.lun-lun.ensures.value c.in-Ok.ensures.ok

pub returns-in-Err : goal.returns-in-Err
returns-in-Err g c = λ most pins. handed_back most c.args.live.now c.load.new.self c.args.waiting c.lun-lun.result c.in-Err.refused pins c.lun-lun.ensures.verified c.lun-lun.ensures.value c.in-Err.ensures.err.0 c.in-Err.ensures.err.2
