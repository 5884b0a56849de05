use Rattle.std.proofs.Common.{ℕ, ◌*◌, ◌+◌, Some, None, List, sym, ap, subst, ◌∙◌, length}
use Rattle.nand_geometry.specs.declared.parts.Parts.{Parts}
use Rattle.onfi_cycle.specs.Inputs.{with_inputs, after_inputs}
use Rattle.die_model.specs.Die.{Die}
use Rattle.target_bus.specs.Bus.{IsStanding}
use Rattle.target_bus.proofs.Inputs.{run_rests, run_fills, inputs_there, found_filled, columns_there, filled_there}
use Rattle.target_bus.proofs.working.work_data.Goals as goal

pub fill_in-requires-clause-inside : goal.fill_in-requires-clause-inside
fill_in-requires-clause-inside g c =
    let state = c.args.state.now in
    let can = c.requires.permitted in
    let count = length c.args.bytes.now in
    let some = c.requires.some in
    let luns = ap (λ (g : Parts). g.luns) (c.parts-luns.ensures.value ∙ c.geometry.ensures) in
    let found = found_filled state can.opened c.args.dies.now can.past c.args.ce c.parts-luns.result.luns count c.find_filled.result (Some c.in-Some.filled) can.standing some can.permitted luns c.find_filled.ensures.past c.in-Some.is in
    filled_there state can.opened c.args.dies.now can.past c.args.ce count _ c.in-Some.filled can.standing some can.permitted found (c.place.ensures ∙ ap (λ (n : ℕ). c.args.ce * n + c.in-Some.filled.lun) luns)

pub fill_in-requires-clause-columns : goal.fill_in-requires-clause-columns
fill_in-requires-clause-columns g c = λ d here.
    let state = c.args.state.now in
    let can = c.requires.permitted in
    let count = length c.args.bytes.now in
    let some = c.requires.some in
    let luns = ap (λ (g : Parts). g.luns) (c.parts-luns.ensures.value ∙ c.geometry.ensures) in
    let found = found_filled state can.opened c.args.dies.now can.past c.args.ce c.parts-luns.result.luns count c.find_filled.result (Some c.in-Some.filled) can.standing some can.permitted luns c.find_filled.ensures.past c.in-Some.is in
    columns_there state can.opened c.args.dies.now can.past c.args.ce count _ c.in-Some.filled d can.standing c.facts_fit.ensures.state some can.permitted found here

pub returns-in-Some : goal.returns-in-Some
returns-in-Some g c = λ opened past f h.
    let state = c.args.state.now in
    let bytes = c.args.bytes.now in
    let filled = c.in-Some.filled in
    let some = c.requires.some in
    let luns = ap (λ (g : Parts). g.luns) (c.parts-luns.ensures.value ∙ c.geometry.ensures) in
    let found = found_filled state opened c.args.dies.now past c.args.ce c.parts-luns.result.luns (length bytes) c.find_filled.result (Some filled) f some h luns c.find_filled.ensures.past c.in-Some.is in
    let done = c.fill_in.ensures in
    subst (λ (ds : List Die). IsStanding (after_inputs c.args.ce (length bytes) state) opened ds (with_inputs c.args.ce bytes past)) (sym done.2)
    (run_fills c.args.ce filled.lun _ filled.page opened bytes filled.column state c.args.dies.now past done.0 f c.facts_fit.ensures.state h found (c.place.ensures ∙ ap (λ (n : ℕ). c.args.ce * n + filled.lun) luns) done.1)

pub returns-in-None : goal.returns-in-None
returns-in-None g c = λ opened past f h.
    let state = c.args.state.now in
    let bytes = c.args.bytes.now in
    let some = c.requires.some in
    let luns = ap (λ (g : Parts). g.luns) (c.parts-luns.ensures.value ∙ c.geometry.ensures) in
    let found = found_filled state opened c.args.dies.now past c.args.ce c.parts-luns.result.luns (length bytes) c.find_filled.result None f some h luns c.find_filled.ensures.past c.in-None.is in
    run_rests c.args.ce bytes state opened c.args.dies.now past f c.facts_fit.ensures.state h
    (c.requires.in_data state.geometry (length state.targets) past f.follows (inputs_there state c.args.ce (length bytes) some h)) found
