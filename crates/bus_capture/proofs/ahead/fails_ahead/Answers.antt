use Rattle.std.proofs.Common.{rules, ◌≡◌, [], ◌∷◌, ◌++◌, ap, sym, ◌∙◌}
use Rattle.bus_capture.specs.declared.ahead.Ahead.TheVariants.{Going, Known}
use Rattle.bus_capture.specs.Inferring.{ahead_of, fails_within}
use Rattle.bus_capture.proofs.Looking.{goes_on, is_known, none_left, empty}
use Rattle.bus_capture.proofs.ahead.fails_ahead.Goals as goal

pub returns-in-Known-clause-some : goal.returns-in-Known-clause-some
returns-in-Known-clause-some c =
    let cons : c.rest.rest.now ≡ c.in-Some.first.now ∷ c.in-Some.others.now = search rules in
    let known : ahead_of c.rest.asked c.args.ce c.in-Some.first.now.observation ≡ Known c.in-Known.fail = search rules in
    λ more. sym (c.rest.invariant more) ∙ (ap (λ rest. fails_within c.rest.most c.rest.asked c.args.ce (rest ++ more)) cons
    ∙ is_known c.rest.most c.rest.asked c.in-Known.fail c.args.ce c.in-Some.first.now (c.in-Some.others.now ++ more) c.if-most-eq0.false known)

pub rest-preserved : goal.rest-preserved
rest-preserved c =
    let cons : c.rest.rest.now ≡ c.in-Some.first.now ∷ c.in-Some.others.now = search rules in
    let going : ahead_of c.rest.asked c.args.ce c.in-Some.first.now.observation ≡ Going c.in-Going.now = search rules in
    λ more. sym (ap (λ rest. fails_within c.rest.most c.rest.asked c.args.ce (rest ++ more)) cons
    ∙ goes_on c.rest.most c.rest.asked c.in-Going.now c.args.ce c.in-Some.first.now (c.in-Some.others.now ++ more) c.if-most-eq0.false going) ∙ c.rest.invariant more

pub returns-clause-none : goal.returns-clause-none
returns-clause-none c =
    let none : c.rest.rest.now ≡ [] = empty c.rest.rest.now (search rules) in
    sym (c.rest.invariant []) ∙ (ap (λ rest. fails_within c.rest.most c.rest.asked c.args.ce (rest ++ [])) none ∙ none_left c.rest.most c.rest.asked c.args.ce)
