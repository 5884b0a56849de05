use Rattle.std.proofs.lemmas.Result.{on_ok_weaker}
use Rattle.edge_timing.proofs.Judging.{cycle_judged}
use Rattle.edge_timing.proofs.edge_watch.EdgeWatch.judge_cycle.Goals as goal

pub returns : goal.returns
returns g c = on_ok_weaker c.take_all.result
    (λ second. cycle_judged c.args.judge.now c.judge_strobe.new.judge c.take_all.new.self c.args.self.now c.args.strobed c.args.judge.now.ruler.times.shown c.args.judge.now.ruler.one_lun
    c.target-target.result c.pauses.result c.target-target.ensures c.in_ok-judge_strobe.ensures c.pauses.ensures second)
    c.take_all.ensures
