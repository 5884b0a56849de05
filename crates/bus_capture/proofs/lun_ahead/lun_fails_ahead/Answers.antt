use Rattle.std.proofs.Common.{rules, ◌≡◌, [], ◌∷◌, ◌++◌, ap, sym, ◌∙◌}
use Rattle.bus_capture.specs.declared.lun_ahead.LunAhead.TheVariants.{Going, Known}
use Rattle.bus_capture.specs.Asking.{asking_of, lun_fails_within}
use Rattle.bus_capture.proofs.Asked.{asks_on, is_told, none_asked}
use Rattle.bus_capture.proofs.Looking.{empty}
use Rattle.bus_capture.proofs.lun_ahead.lun_fails_ahead.Goals as goal

pub returns-in-Known-clause-some : goal.returns-in-Known-clause-some
returns-in-Known-clause-some c =
    let cons : c.rest.rest.now ≡ c.in-Some.seen.now ∷ c.in-Some.others.now = search rules in
    let known : asking_of c.args.geometry.now c.args.lun c.rest.asking c.in-Some.seen.now.observation ≡ Known c.in-Known.fail = search rules in
    λ more. sym (c.rest.invariant more) ∙ (ap (λ rest. lun_fails_within c.args.geometry.now c.args.lun c.rest.most c.rest.asking (rest ++ more)) cons
    ∙ is_told c.args.geometry.now c.args.lun c.rest.most c.in-Known.fail c.rest.asking c.in-Some.seen.now (c.in-Some.others.now ++ more) c.if-most-eq0.false known)

pub rest-preserved : goal.rest-preserved
rest-preserved c =
    let cons : c.rest.rest.now ≡ c.in-Some.seen.now ∷ c.in-Some.others.now = search rules in
    let going : asking_of c.args.geometry.now c.args.lun c.rest.asking c.in-Some.seen.now.observation ≡ Going c.in-Going.next = search rules in
    λ more. sym (ap (λ rest. lun_fails_within c.args.geometry.now c.args.lun c.rest.most c.rest.asking (rest ++ more)) cons
    ∙ asks_on c.args.geometry.now c.args.lun c.rest.most c.rest.asking c.in-Going.next c.in-Some.seen.now (c.in-Some.others.now ++ more) c.if-most-eq0.false going) ∙ c.rest.invariant more

pub returns-clause-none : goal.returns-clause-none
returns-clause-none c =
    let none : c.rest.rest.now ≡ [] = empty c.rest.rest.now (search rules) in
    sym (c.rest.invariant []) ∙ (ap (λ rest. lun_fails_within c.args.geometry.now c.args.lun c.rest.most c.rest.asking (rest ++ [])) none ∙ none_asked c.args.geometry.now c.args.lun c.rest.most c.rest.asking)
