use Rattle.std.proofs.Common.{◌≡◌, ℕ, suc, ◌+◌, ◌-◌, ◌∙◌, None, sym, ap, arith, slice_set}
use Rattle.micro_walk.specs.Searched.{forgotten}
use Rattle.micro_walk.proofs.Forgetting.{forgets_one, forgets_past, forgets_nothing}
use Rattle.micro_walk.proofs.search.forget.Goals as goal
use Rattle.micro_walk.proofs.search.forget.Goals.{then-at-claims, else-at-claims}

pub loop-at-preserved : goal.loop-at-preserved
loop-at-preserved c =
    let v = c.loop-at.invariant in
    let more = c.loop-at-test.true in
    let at = c.loop-at.at in
    let here : c.args.to - at ≡ suc (c.args.to - (at + 1)) = omega (arith, more) in
    let next : suc at ≡ at + 1 = omega arith in
    record {
      left = elim c.if-at-claims.branch [
        | then-at-claims w ↦ (
            v.left ∙ (ap (λ (n : ℕ). forgotten at n c.loop-at.claims) here ∙ (forgets_one c.loop-at.claims at (c.args.to - (at + 1))
            ∙ (ap (λ (n : ℕ). forgotten n (c.args.to - (at + 1)) (slice_set c.loop-at.claims at None)) next ∙ ap (forgotten (at + 1) (c.args.to - (at + 1))) (sym w.claims-is)))))
        | else-at-claims w ↦ (
            let past = w.if-at-claims.false in
            v.left ∙ (forgets_past c.loop-at.claims at (c.args.to - at) past ∙ (sym (forgets_past c.loop-at.claims (at + 1) (c.args.to - (at + 1)) (omega (arith, past))) ∙ ap (forgotten (at + 1) (c.args.to - (at + 1))) (sym w.claims-is))))
      ];
      long = c.if-at-claims.auto.claims ∙ v.long;
    }

pub returns-clause-value : goal.returns-clause-value
returns-clause-value c =
    let v = c.loop-at.invariant in
    let past = c.loop-at-test.false in
    let none : c.args.to - c.loop-at.at ≡ 0 = omega (arith, past) in
    sym (v.left ∙ (ap (λ (n : ℕ). forgotten c.loop-at.at n c.loop-at.claims) none ∙ forgets_nothing c.loop-at.claims c.loop-at.at))
