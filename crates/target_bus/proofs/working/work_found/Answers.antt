use Rattle.std.proofs.Common.{ℕ, ◌*◌, ◌+◌, Some, None, ◌∷◌, sym, ap, subst, ◌∙◌, length}
use Rattle.nand_geometry.specs.declared.parts.Parts.{Parts}
use Rattle.onfi_cycle.specs.declared.item.Item.TheVariants.{Cyc}
use Rattle.target_bus.specs.Bus.{channel_on, StandFor}
use Rattle.target_bus.proofs.Standing.{found_in, worked_there, can_work_at, none_works, one_works, cycle_there, no_program_at, on_ok}
use Rattle.target_bus.proofs.working.work_found.Goals as goal

pub work_in-requires-clause-inside : goal.work_in-requires-clause-inside
work_in-requires-clause-inside g c =
    let state = c.args.state.now in
    let can = c.requires.permitted in
    let luns = ap (λ (g : Parts). g.luns) (c.parts-luns.ensures.value ∙ c.geometry.ensures) in
    let found = found_in state can.opened c.args.dies.now can.past c.args.cycle c.parts-luns.result.luns c.find_work.result (Some c.in-Some.worked) can.standing can.permitted luns c.find_work.ensures.past c.in-Some.is in
    worked_there state can.opened c.args.dies.now can.past c.args.cycle c.in-Some.worked _ can.standing can.permitted found (c.place.ensures ∙ ap (λ (n : ℕ). c.args.cycle.ce * n + c.in-Some.worked.lun) luns)

pub work_in-requires-clause-can : goal.work_in-requires-clause-can
work_in-requires-clause-can g c = λ d here.
    let state = c.args.state.now in
    let can = c.requires.permitted in
    let luns = ap (λ (g : Parts). g.luns) (c.parts-luns.ensures.value ∙ c.geometry.ensures) in
    let found = found_in state can.opened c.args.dies.now can.past c.args.cycle c.parts-luns.result.luns c.find_work.result (Some c.in-Some.worked) can.standing can.permitted luns c.find_work.ensures.past c.in-Some.is in
    let place = c.place.ensures ∙ ap (λ (n : ℕ). c.args.cycle.ce * n + c.in-Some.worked.lun) luns in
    can_work_at state can.opened c.args.dies.now can.past c.args.cycle c.in-Some.worked _ _ can.standing can.permitted
    (c.facts_fit.ensures.past state.geometry (length state.targets) can.past can.standing.follows) found place here

pub returns-in-None-clause-ok : goal.returns-in-None-clause-ok
returns-in-None-clause-ok g c = λ opened past f h.
    let state = c.args.state.now in
    let luns = ap (λ (g : Parts). g.luns) (c.parts-luns.ensures.value ∙ c.geometry.ensures) in
    none_works state opened c.args.dies.now past c.args.cycle f h (c.facts_fit.ensures.past state.geometry (length state.targets) past f.follows)
    (found_in state opened c.args.dies.now past c.args.cycle c.parts-luns.result.luns c.find_work.result None f h luns c.find_work.ensures.past c.in-None.is)

pub returns-in-Some-clause-ok : goal.returns-in-Some-clause-ok
returns-in-Some-clause-ok g c =
    on_ok c.work_in.result _ _ c.work_in.ensures.ok (λ x worked opened past f h.
    let state = c.args.state.now in
    let luns = ap (λ (g : Parts). g.luns) (c.parts-luns.ensures.value ∙ c.geometry.ensures) in
    let found = found_in state opened c.args.dies.now past c.args.cycle c.parts-luns.result.luns c.find_work.result (Some c.in-Some.worked) f h luns c.find_work.ensures.past c.in-Some.is in
    let place = c.place.ensures ∙ ap (λ (n : ℕ). c.args.cycle.ce * n + c.in-Some.worked.lun) luns in
    subst (StandFor (channel_on state.geometry (length state.targets) opened) (Cyc c.args.cycle ∷ past)) (sym worked.4)
    (one_works state opened c.args.dies.now past c.args.cycle c.in-Some.worked _ worked.0 worked.1 f h (c.facts_fit.ensures.past state.geometry (length state.targets) past f.follows) c.requires.one
    (cycle_there state.geometry (length state.targets) past c.args.cycle h) found place worked.2 worked.3))

pub returns-in-Some-clause-memory : goal.returns-in-Some-clause-memory
returns-in-Some-clause-memory g c = λ idle.
    let state = c.args.state.now in
    let can = c.requires.permitted in
    let luns = ap (λ (g : Parts). g.luns) (c.parts-luns.ensures.value ∙ c.geometry.ensures) in
    let found = found_in state can.opened c.args.dies.now can.past c.args.cycle c.parts-luns.result.luns c.find_work.result (Some c.in-Some.worked) can.standing can.permitted luns c.find_work.ensures.past c.in-Some.is in
    c.work_in.ensures.memory (no_program_at state.geometry can.past c.args.cycle c.in-Some.worked found idle)
