use Rattle.std.proofs.Common.{rules, ◌≡◌, ◌∷◌, ◌++◌, Ok, true, drop, ap, sym, subst, ◌∙◌}
use Rattle.bus_capture.specs.Inside.{AreSeenInside}
use Rattle.bus_capture.specs.Tracing.{inferred_on}
use Rattle.bus_capture.proofs.Captured.{seen_drop}
use Rattle.bus_capture.proofs.Tracing.{drop_next}
use Rattle.bus_capture.proofs.inferring.Inferring.infer.Goals as goal

pub rest-preserved : goal.rest-preserved
rest-preserved g c =
    let cons : c.rest.rest.now ≡ c.in-Some.first.now ∷ c.in-Some.later.now = search rules in
    let yes : c.infer_first.result ≡ Ok true = search rules in
    let dropped : drop c.rest.count c.args.observed.now ≡ c.in-Some.first.now ∷ c.in-Some.later.now = sym c.rest.invariant.rest ∙ cons in
    let next = drop_next c.rest.count c.args.observed.now c.in-Some.first.now c.in-Some.later.now dropped in
    record {
      within = next.1;
      rest = sym next.0;
      taken = λ more may. c.rest.invariant.taken more may ∙ (ap (λ rest. inferred_on c.rest.self c.rest.stamped.items (rest ++ more)) cons ∙ c.infer_first.ensures.taken yes more may);
      inside = λ seen inside. let both = subst AreSeenInside dropped (seen_drop c.rest.count c.args.observed.now seen) in
          c.infer_first.ensures.inside yes both.0 (c.rest.invariant.inside seen inside);
    }
