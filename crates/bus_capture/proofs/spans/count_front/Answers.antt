use Rattle.std.proofs.Common.{rules, ◌≡◌, ◌∷◌, sym, subst, ◌∙◌}
use Rattle.bus_capture.specs.Spans.{Keeps}
use Rattle.bus_capture.proofs.Spanning.{keeps_rest, keeps_on}
use Rattle.bus_capture.proofs.Tracing.{drop_next}
use Rattle.bus_capture.proofs.spans.count_front.Goals as goal

pub rest-preserved : goal.rest-preserved
rest-preserved c =
    let cons : c.rest.rest.now ≡ c.in-Some.first.now ∷ c.in-Some.others.now = search rules in
    let next = drop_next c.rest.count c.args.sources.now c.in-Some.first.now c.in-Some.others.now (sym c.rest.invariant.rest ∙ cons) in
    record {
      within = next.1;
      rest = sym next.0;
      keeps = keeps_on c.args.code c.args.sources.now (c.in-Some.first.now ∷ c.in-Some.others.now) c.in-Some.others.now (subst (Keeps c.args.code c.args.sources.now) cons c.rest.invariant.keeps)
          (keeps_rest c.args.code c.in-Some.first.now c.in-Some.others.now c.if-first-code.false);
    }
