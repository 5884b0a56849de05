use Rattle.std.proofs.Common.{refl, sym, subst, length}
use Rattle.seq_live.specs.Kept.{LiveView}
use Rattle.seq_live.specs.Calls.{IsStepFault}
use Rattle.seq_live.specs.declared.live_job.LiveJob.{LiveJob}
use Rattle.seq_live.specs.Jobs.{HasTurned}
use Rattle.seq_live.proofs.Turns.{place_is}
use Rattle.seq_live.proofs.run.step_job.Goals as goal

pub returns-in-Err-clause-err : goal.returns-in-Err-clause-err
returns-in-Err-clause-err g c =
    let same = c.in-Err.ensures.err.1 in
    ((c.args.on.lun, subst (λ (v : LiveView). IsStepFault v c.args.on.lun (length c.args.taken.now) c.in-Err.fault) (sym same) c.in-Err.ensures.err.0), same, refl, c.in-Err.ensures.err.2)

pub returns-in-Ok-clause-ok : goal.returns-in-Ok-clause-ok
returns-in-Ok-clause-ok g c =
    subst (λ (x : LiveJob _). HasTurned c.args.most c.args.live.now c.go_on.new.live x c.go_on.result (g.P.Pins.driven c.args.pins.now) (g.P.Pins.driven c.step_on.new.pins)) (sym (place_is c.args.job.now c.args.on c.requires)) (c.go_on.ensures c.args.live.now c.step_on.new.taken (g.P.Pins.driven c.args.pins.now) (g.P.Pins.driven c.step_on.new.pins) c.in-Ok.ensures.ok)
