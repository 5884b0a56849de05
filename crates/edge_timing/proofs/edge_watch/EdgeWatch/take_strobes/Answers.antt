use Rattle.std.proofs.lemmas.Result.{on_ok_weaker}
use Rattle.edge_timing.specs.Watched.{seen_step}
use Rattle.edge_timing.proofs.Judging.{judging_on}
use Rattle.edge_timing.proofs.edge_watch.EdgeWatch.take_strobes.Goals as goal

pub returns-clause-told : goal.returns-clause-told
returns-clause-told g c =
    let r = c.args.judge.now.ruler in
    let w = c.args.self.now in
    let s = seen_step r.times.shown r.one_lun c.args.written w.we.fell c.args.time w in
    on_ok_weaker c.take_seen-2.result
    (λ second. judging_on c.args.judge.now c.take_seen.new.judge c.take_seen-2.new.judge (λ r x. (seen_step r.times.shown r.one_lun c.args.read w.re.fell c.args.time x).distances)
    s.distances c.take_seen.new.self s.watch c.in_ok-take_seen.ensures.told c.in_ok-take_seen.ensures.watch second)
    c.take_seen-2.ensures.told
