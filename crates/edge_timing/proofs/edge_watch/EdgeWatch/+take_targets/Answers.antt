use Rattle.std.proofs.Common.{◌+◌, ◌-◌, List, Option, sym, ap, subst, ◌∙◌}
use Rattle.std.proofs.lemmas.Result.{on_ok_weaker}
use Rattle.edge_timing.specs.declared.distance.Distance.{Distance}
use Rattle.edge_timing.specs.declared.edge_watch.EdgeWatch.{EdgeWatch}
use Rattle.edge_timing.specs.Judged.{IsJudging}
use Rattle.edge_timing.specs.Watched.{Step, target_step, targets_step}
use Rattle.edge_timing.proofs.Judging.{judging_on, targets_more}
use Rattle.edge_timing.proofs.edge_watch.EdgeWatch.+take_targets.Goals as goal

pub returns-clause-watch : goal.returns-clause-watch
returns-clause-watch g t c =
    let m = c.args.moment.now in
    let more = targets_more m c.args.count c.args.ce c.args.self.now c.if-count-eq0.false in
    on_ok_weaker c.take_targets.result
    (λ is. is ∙ (ap (λ (x : EdgeWatch). (targets_step m (c.args.count - 1) (c.args.ce + 1) x).watch) c.note_target.ensures ∙ sym (ap (λ (s : Step). s.watch) more)))
    c.take_targets.ensures.watch

pub returns-clause-told : goal.returns-clause-told
returns-clause-told g t c =
    let m = c.args.moment.now in
    let w = c.args.self.now in
    let a = c.args.judge.now in
    let more = targets_more m c.args.count c.args.ce w c.if-count-eq0.false in
    let first = subst (λ (l : List (Option Distance)). IsJudging a c.take_all.new.self l) c.enable_distances.ensures c.in_ok-take_all.ensures in
    on_ok_weaker c.take_targets.result
    (λ second. subst (λ (s : Step). IsJudging a c.take_targets.new.judge s.distances) (sym more)
    (judging_on a c.take_all.new.self c.take_targets.new.judge (λ r x. (targets_step m (c.args.count - 1) (c.args.ce + 1) x).distances)
    (target_step m c.args.ce w).distances c.note_target.new.self (target_step m c.args.ce w).watch first c.note_target.ensures second))
    c.take_targets.ensures.told
