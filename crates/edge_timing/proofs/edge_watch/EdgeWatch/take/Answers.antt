use Rattle.std.proofs.Common.{sym, ◌∙◌}
use Rattle.edge_timing.proofs.Judging.{stepped}
use Rattle.edge_timing.proofs.edge_watch.EdgeWatch.take.Goals as goal

pub returns-clause-ok : goal.returns-clause-ok
returns-clause-ok g c =
    stepped c.args.judge.now c.take_strobes.new.judge c.take_holds.new.judge c.take_targets.new.judge c.args.targets c.args.moment.now
    c.args.self.now c.take_strobes.new.self c.take_holds.new.self c.take_targets.new.self c.note_lines.new.self c.in-Ok.seen
    (sym c.look.ensures ∙ c.in-Ok.is) c.in_ok-take_strobes.ensures.watch c.in_ok-take_strobes.ensures.told
    c.in_ok-take_holds.ensures.watch c.in_ok-take_holds.ensures.told c.in_ok-take_targets.ensures.watch c.in_ok-take_targets.ensures.told c.note_lines.ensures
