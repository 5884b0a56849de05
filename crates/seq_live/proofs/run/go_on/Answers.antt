use Rattle.std.proofs.Common.{◌∙◌, ap, refl}
use Rattle.seq_live.specs.Jobs.{after_step}
use Rattle.seq_live.specs.declared.live_job.LiveJob.TheVariants.{Running}
use Rattle.seq_live.proofs.Turns.{stepped_turn, stepped_then, polls_anew, polls_stay}
use Rattle.seq_live.proofs.run.go_on.Goals as goal

pub returns-in-Ended : goal.returns-in-Ended
returns-in-Ended g c = λ v taken before after h. stepped_then c.args.most v c.args.live.now c.end_job.new.live c.args.on taken c.args.answer c.end_job.result before after c.in-Ended.is h (c.end_job.ensures c.args.most after)

pub returns-in-NotReady : goal.returns-in-NotReady
returns-in-NotReady g c = λ v taken before after h.
    stepped_turn c.args.most v c.args.live.now c.args.on taken c.args.answer c.wait_on.result before after h c.wait_on.ensures.stays (λ log count. c.wait_on.ensures.goes log (count ∙ ap (after_step c.args.on.busy_polls) c.in-NotReady.is))

pub returns-in-Went : goal.returns-in-Went
returns-in-Went g c = λ v taken before after h. stepped_turn c.args.most v c.args.live.now c.args.on taken c.args.answer _ before after h refl (λ log count. polls_anew g.row.A.Denot c.args.most c.args.on c.args.answer log c.in-Went.is count)

pub returns-in-Held : goal.returns-in-Held
returns-in-Held g c = λ v taken before after h. stepped_turn c.args.most v c.args.live.now c.args.on taken c.args.answer (Running c.args.on) before after h refl (λ log count. polls_stay g.row.A.Denot c.args.most c.args.on c.args.answer log c.in-Held.is count)
