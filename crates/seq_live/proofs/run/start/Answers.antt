use Rattle.std.proofs.Common.{◌∙◌, sym, subst}
use Rattle.seq_live.specs.declared.live_job.LiveJob.{LiveJob}
use Rattle.seq_live.specs.Jobs.{HasTurned}
use Rattle.seq_live.proofs.Turns.{never_other}
use Rattle.seq_live.proofs.run.start.Goals as goal

pub returns-in-Waiting : goal.returns-in-Waiting
returns-in-Waiting g c = λ most pins. subst (λ (x : LiveJob _). HasTurned most c.args.live.now c.start_job.new.live x c.start_job.result pins pins) (sym c.in-Waiting.is ∙ c.replace.ensures.value) (c.start_job.ensures most pins)

pub returns-in_default : goal.returns-in_default
returns-in_default g c = λ most pins. absurd (never_other c.args.job.now c.args.lun c.requires.waits c.requires.lun (λ j is. c.in_default.not-Waiting j (c.replace.ensures.value ∙ is)))
