use Rattle.std.proofs.Common.{ap, sym, ◌∙◌}
use Rattle.nand_geometry.specs.declared.parts.Parts.{Parts}
use Rattle.refused_run.specs.Stand.{stand_after}
use Rattle.refused_run.proofs.course.next_stand.Goals as goal

pub after-requires-clause-place : goal.after-requires-clause-place
after-requires-clause-place g c = c.may_come.ensures.little c.if-may_come.true

pub returns-then-may_come : goal.returns-then-may_come
returns-then-may_come g c = λ words.
    record {
      may = sym (c.may_come.ensures.value words) ∙ c.if-may_come.true;
      stands = c.after.ensures ∙ ap (λ (h : Parts). stand_after h c.args.stand c.args.word c.args.status) c.geometry.ensures;
    }
