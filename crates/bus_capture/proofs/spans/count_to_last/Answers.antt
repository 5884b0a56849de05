use Rattle.std.proofs.Common.{rules, ◌≡◌, ◌+◌, ◌∷◌, ◌++◌, [], length, take, ap, sym, subst, ◌∙◌, arith}
use Rattle.std.proofs.lemmas.List.{length-append}
use Rattle.bus_capture.specs.Spans.{Keeps}
use Rattle.bus_capture.proofs.Spanning.{keeps_front, keeps_on, front_less}
use Rattle.bus_capture.proofs.spans.count_to_last.Goals as goal

pub rest-preserved : goal.rest-preserved
rest-preserved c =
    let last : c.rest.rest.now ≡ c.in-Some.others.now ++ c.in-Some.last.now ∷ [] = search rules in
    let long : length c.rest.rest.now ≡ length c.in-Some.others.now + 1 = ap length last ∙ length-append c.in-Some.others.now (c.in-Some.last.now ∷ []) in
    let front : c.in-Some.others.now ++ c.in-Some.last.now ∷ [] ≡ take (length c.in-Some.others.now + 1) c.args.sources.now =
    sym last ∙ (c.rest.invariant.front ∙ ap (λ n. take n c.args.sources.now) long) in
    record {
      within = omega (arith, c.rest.invariant.within, long);
      front = front_less c.in-Some.others.now c.in-Some.last.now c.args.sources.now front;
      keeps = keeps_on c.args.code c.args.sources.now (c.in-Some.others.now ++ c.in-Some.last.now ∷ []) c.in-Some.others.now (subst (Keeps c.args.code c.args.sources.now) last c.rest.invariant.keeps)
          (keeps_front c.args.code c.in-Some.others.now c.in-Some.last.now c.if-last-code.false);
    }
