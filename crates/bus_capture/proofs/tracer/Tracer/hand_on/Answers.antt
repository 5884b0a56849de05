use Rattle.std.proofs.Common.{rules, ◌≡◌, ◌≤◌, ◌++◌, drop, ap, sym, subst, ◌∙◌}
use Rattle.bus_capture.specs.declared.sampler.Sampler.{Sampler}
use Rattle.bus_capture.specs.Inside.{AreSeenInside}
use Rattle.bus_capture.specs.Spans.{AreSpans}
use Rattle.bus_capture.specs.Still.{IsStillUnless}
use Rattle.bus_capture.specs.Tracing.{inferred_on}
use Rattle.bus_capture.proofs.Captured.{seen_drop}
use Rattle.bus_capture.proofs.Tracing.{handed}
use Rattle.bus_capture.proofs.tracer.Tracer.hand_on.Goals as goal

pub returns-in-Ok-clause-taken : goal.returns-in-Ok-clause-taken
returns-in-Ok-clause-taken g c =
    let left : c.extend_from_slice.new.self.items ≡ drop c.in_ok-count.count c.args.self.now.observed.items = search rules in
    let sources : c.infer.new.self.sources.items ≡ c.args.self.now.sources.items = search rules in
    let sampler : c.infer.new.self.sampler ≡ c.args.self.now.sampler = search rules in
    handed c.args.self.now.sources.items c.infer.new.self.sources.items c.args.self.now.sampler c.infer.new.self.sampler c.args.self.now.inferring c.infer.new.self.inferring
    c.args.stamped.now.items c.infer.new.stamped.items c.args.self.now.observed.items c.extend_from_slice.new.self.items sources sampler
    (λ more. c.in_ok-count.ensures.taken more tt ∙ ap (λ os. inferred_on c.infer.new.self.inferring c.infer.new.stamped.items (os ++ more)) (sym left))

pub returns-in-Ok-clause-tracing : goal.returns-in-Ok-clause-tracing
returns-in-Ok-clause-tracing g c =
    let left : c.extend_from_slice.new.self.items ≡ drop c.in_ok-count.count c.args.self.now.observed.items = search rules in
    let sampler : c.infer.new.self.sampler ≡ c.args.self.now.sampler = search rules in
    let beside : c.infer.new.self.beside ≡ c.args.self.now.beside = search rules in
    let sources : c.infer.new.self.sources.items ≡ c.args.self.now.sources.items = search rules in
    let spans : c.infer.new.self.spans.items ≡ c.args.self.now.spans.items = search rules in
    record {
      few = subst (λ (s : Sampler). s.targets ≤ 4) (sym sampler) c.requires.tracing.few;
      still = subst (λ b. IsStillUnless b c.infer.new.self.sampler) (sym beside) (subst (IsStillUnless c.args.self.now.beside) (sym sampler) c.requires.tracing.still);
      inside = subst AreSeenInside (sym left) (seen_drop c.in_ok-count.count c.args.self.now.observed.items c.requires.tracing.inside);
      spans = subst (λ ss. AreSpans c.infer.new.self.sources.items 0 ss) (sym spans) (subst (λ xs. AreSpans xs 0 c.args.self.now.spans.items) (sym sources) c.requires.tracing.spans);
    }
