use Rattle.std.proofs.Common.{◌≡◌, ℕ, ◌+◌, ◌-◌, ◌∙◌, Option, List, refl, sym, ap, ap₂, rules}
use Rattle.micro_claims.specs.declared.state.State.{State}
use Rattle.micro_claims.specs.Joins.{joined}
use Rattle.micro_walk.specs.Faults.{reached}
use Rattle.micro_walk.specs.Searched.{forgotten, is_walked}
use Rattle.micro_walk.proofs.Turning.{claim_read, turn_left, turn_again}
use Rattle.micro_walk.proofs.search.once_more.Goals as goal

pub returns-then-is_walked-clause-turn : goal.returns-then-is_walked-clause-turn
returns-then-is_walked-clause-turn c =
    let e = c.in-Some-Some-Some in
    let next : c.saturating_add.result ≡ c.args.at + 1 = search rules in
    turn_left c.args.claims.now c.reach.new.known c.args.at c.args.walked.now e.entry e.head e.end
    e.is-0 (claim_read c.args.claims.now c.args.walked.now.head c.index-claims-walked.result c.if-walked-claims.false c.index-claims-walked.is ∙ e.is-1)
    (claim_read c.args.claims.now c.args.at c.index-claims-at.result c.if-at-claims.false c.index-claims-at.is ∙ e.is-2)
    (sym (ap (λ (s : State). is_walked c.args.walked.now s e.head) c.at_heads-heads.ensures) ∙ (sym c.is_walked.ensures.value ∙ c.if-is_walked.true))
    (c.reach.ensures.value ∙ ap₂ (λ (q : ℕ) (s : State). reached c.args.claims.now q s) next c.after_turns-after.ensures)

pub returns-clause-turn : goal.returns-clause-turn
returns-clause-turn c =
    let e = c.in-Some-Some-Some in
    let next : c.saturating_add-2.result ≡ c.args.at + 1 = search rules in
    turn_again c.args.claims.now c.reach-2.new.known c.args.at c.args.walked.now _ e.entry e.head e.end c.wider.result
    e.is-0 (claim_read c.args.claims.now c.args.walked.now.head c.index-claims-walked.result c.if-walked-claims.false c.index-claims-walked.is ∙ e.is-1)
    (claim_read c.args.claims.now c.args.at c.index-claims-at.result c.if-at-claims.false c.index-claims-at.is ∙ e.is-2)
    (sym (ap (λ (s : State). is_walked c.args.walked.now s e.head) c.at_heads-heads.ensures) ∙ (sym c.is_walked.ensures.value ∙ c.if-is_walked.false))
    refl (λ few. c.wider.ensures few ∙ ap (joined e.head) c.at_heads-heads.ensures)
    (c.reach-2.ensures.value ∙ ap (λ (cs : List (Option State)). reached cs c.args.walked.now.head c.wider.result) (c.forget.ensures.value ∙ ap (λ (q : ℕ). forgotten c.args.walked.now.head (q - c.args.walked.now.head) c.args.claims.now) next))
