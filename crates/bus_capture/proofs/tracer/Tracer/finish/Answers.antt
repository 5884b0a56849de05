use Rattle.std.proofs.Common.{◌≡◌, ◌++◌, [], Ok, refl, ap, ◌∙◌, sym, subst, rules}
use Rattle.bus_capture.specs.declared.inferring.Inferring.{Inferring}
use Rattle.bus_capture.specs.Tracing.{inferred_on}
use Rattle.bus_capture.proofs.Tracing.{finishes}
use Rattle.bus_capture.proofs.tracer.Tracer.finish.Goals as goal

pub returns-in_ok-infer-in-Ok-clause-ok : goal.returns-in_ok-infer-in-Ok-clause-ok
returns-in_ok-infer-in-Ok-clause-ok g c =
    let stamped = c.args.stamped.now.items in
    let now = c.settle_last.new.self.observed.items in
    finishes c.args.self.now.sources.items c.args.self.now.sampler c.args.self.now.observed.items now c.args.self.now.inferring c.infer.new.self.inferring
    stamped c.infer.new.stamped.items c.in_ok-infer-in-Ok.field-0 c.in-Ok.ensures.ok (c.in_ok-infer-in-Ok.ensures.all refl)
    (ap (λ (i : Inferring). inferred_on i stamped (now ++ [])) (sym c.settle_last.ensures.same) ∙ c.in_ok-infer-in-Ok.ensures.taken [] refl)

pub returns-in_ok-infer-in-Ok-clause-inside : goal.returns-in_ok-infer-in-Ok-clause-inside
returns-in_ok-infer-in-Ok-clause-inside g c = c.in_ok-infer-in-Ok.ensures.inside c.in-Ok.ensures.inside c.requires.inside
