use Rattle.std.proofs.Common.{◌≡◌, ◌≤◌, List, Option, None, ap, ◌∙◌, refl, arith, length, rules}
use Rattle.micro_claims.specs.declared.state.State.{State}
use Rattle.micro_claims.specs.Certificate.{is_certified}
use Rattle.micro_claims.specs.Order.{machine}
use Rattle.micro_claims.specs.State.{bounds_of}
use Rattle.std.proofs.lemmas.List.{length-replicate}
use Rattle.onfi_cycle.proofs.Following.{refilled}
use Rattle.micro_walk.proofs.Searching.{found_of_text}
use Rattle.micro_walk.proofs.certifying.Claims.find.Goals as goal

pub returns : goal.returns
returns g c found =
    let none : length c.nothing_known-claims.result.items ≡ length c.words-words.result.now = ap (λ (os : List (Option State)). length os) c.nothing_known-claims.ensures ∙ length-replicate (length c.words-words.result.now) None in
    let lent : length c.as_mut_slice.result.now ≡ length c.nothing_known-claims.result.items = search rules in
    let few : length c.args.text.now.words ≤ 1024 = search rules in
    ap (is_certified (machine c.args.geometry.now (bounds_of c.args.text.now)) c.args.text.now.words)
    (refilled (length c.nothing_known-claims.result.items) c.nothing_known-claims.result.items c.find.new.claims (c.find.ensures.length ∙ lent) refl)
    ∙ found_of_text c.args.geometry.now c.args.text.now c.bounds_of.result c.words-words.result.now 67108864 (length c.as_mut_slice.result.now) c.find.result.stopped c.find.new.claims c.bounds_of.ensures c.words-words.ensures.value (omega (arith, few)) (lent ∙ none) c.find.ensures.through found
