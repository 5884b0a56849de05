use Rattle.std.proofs.Common.{ℕ, ◌*◌, ◌+◌, List, sym, ap, subst, ◌∙◌, length}
use Rattle.nand_geometry.specs.declared.parts.Parts.{Parts}
use Rattle.onfi_cycle.specs.Inputs.{with_inputs, after_inputs}
use Rattle.die_model.specs.Die.{Die}
use Rattle.target_bus.specs.Bus.{IsStanding}
use Rattle.target_bus.proofs.Features.{stands_waiting, stands_set, set_there, can_set}
use Rattle.target_bus.proofs.working.work_feature_bytes.Goals as goal

pub set_in-requires-clause-inside : goal.set_in-requires-clause-inside
set_in-requires-clause-inside g c =
    let state = c.args.state.now in
    let can = c.requires.permitted in
    let luns = ap (λ (g : Parts). g.luns) (c.parts-luns.ensures.value ∙ c.geometry.ensures) in
    set_there state can.opened c.args.dies.now can.past c.args.ce c.args.count _ can.standing c.requires.some can.permitted (c.place.ensures ∙ ap (λ (n : ℕ). c.args.ce * n + 0) luns)

pub set_in-requires-clause-can : goal.set_in-requires-clause-can
set_in-requires-clause-can g c = λ d here.
    let state = c.args.state.now in
    let can = c.requires.permitted in
    let luns = ap (λ (g : Parts). g.luns) (c.parts-luns.ensures.value ∙ c.geometry.ensures) in
    can_set state can.opened c.args.dies.now can.past c.args.ce c.args.count c.in-Some.address _ c.feature_of.result d can.standing (c.facts_fit.ensures.past state.geometry (length state.targets) can.past can.standing.follows) c.requires.some can.permitted c.feature_of.ensures c.in-Some.is (c.place.ensures ∙ ap (λ (n : ℕ). c.args.ce * n + 0) luns) here

pub returns-in-None : goal.returns-in-None
returns-in-None g c = λ bytes len opened past f h.
    stands_waiting c.args.state.now opened c.args.dies.now past c.args.ce c.args.count bytes c.feature_of.result f c.facts_fit.ensures.state c.requires.some len h c.requires.no_data c.feature_of.ensures c.in-None.is

pub returns-in-Some : goal.returns-in-Some
returns-in-Some g c = λ bytes len opened past f h.
    let state = c.args.state.now in
    let luns = ap (λ (g : Parts). g.luns) (c.parts-luns.ensures.value ∙ c.geometry.ensures) in
    let done = c.set_in.ensures in
    subst (λ (ds : List Die). IsStanding (after_inputs c.args.ce (length bytes) state) opened ds (with_inputs c.args.ce bytes past)) (sym done.4)
    (stands_set state opened c.args.dies.now past c.args.ce c.args.count c.in-Some.address _ bytes c.feature_of.result done.0 done.1 f c.facts_fit.ensures.state c.requires.some len h c.feature_of.ensures c.in-Some.is (c.place.ensures ∙ ap (λ (n : ℕ). c.args.ce * n + 0) luns) done.2 done.3)
