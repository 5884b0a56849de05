use Rattle.std.proofs.Common.{◌≡◌, ℕ, ◌*◌, ◌+◌, ◌<◌, ◌∷◌, List, sym, ap, subst, ◌∙◌, arith, length, set}
use Rattle.std.specs.List.{slice_get}
use Rattle.nand_geometry.specs.declared.parts.Parts.{Parts}
use Rattle.onfi_cycle.specs.declared.item.Item.TheVariants.{Cyc}
use Rattle.onfi_cycle.specs.Working.{fills}
use Rattle.die_model.specs.Die.{Die}
use Rattle.target_bus.specs.Bus.{channel_on, StandFor}
use Rattle.target_bus.proofs.Standing.{worked_there, can_work_at, none_works, input_of_one, one_works, cycle_there, no_program_at, on_ok}
use Rattle.target_bus.proofs.ByKind.{filled, none_filled, one_filled, leaves_more, on_err}
use Rattle.target_bus.proofs.working.work_input.Goals as goal

pub work_in-requires-clause-inside : goal.work_in-requires-clause-inside
work_in-requires-clause-inside g c =
    let state = c.args.state.now in
    let luns = ap (λ (g : Parts). g.luns) (c.parts-luns.ensures.value ∙ c.geometry.ensures) in
    let can = c.requires.permitted in
    let same : c.loop-lun.dies ≡ c.args.dies.now = c.loop-lun.invariant.0 in
    let place = c.place.ensures ∙ ap (λ (n : ℕ). c.args.cycle.ce * n + c.loop-lun.lun) luns in
    subst (λ (ds : List Die). c.place.result < length ds) (sym same)
    (worked_there state can.opened c.args.dies.now can.past c.args.cycle (filled c.loop-lun.lun c.filling-filling.result) _ can.standing can.permitted (one_filled state can.opened c.args.dies.now can.past c.args.cycle c.parts-luns.result.luns c.loop-lun.lun c.filling-filling.result can.standing can.permitted c.requires.input c.requires.in_data luns c.loop-lun-test.true (sym c.fills.ensures ∙ c.if-fills.true) c.filling-filling.ensures.past) place)

pub work_in-requires-clause-can : goal.work_in-requires-clause-can
work_in-requires-clause-can g c = λ d here.
    let state = c.args.state.now in
    let luns = ap (λ (g : Parts). g.luns) (c.parts-luns.ensures.value ∙ c.geometry.ensures) in
    let can = c.requires.permitted in
    let same : c.loop-lun.dies ≡ c.args.dies.now = c.loop-lun.invariant.0 in
    let place = c.place.ensures ∙ ap (λ (n : ℕ). c.args.cycle.ce * n + c.loop-lun.lun) luns in
    can_work_at state can.opened c.args.dies.now can.past c.args.cycle (filled c.loop-lun.lun c.filling-filling.result) _ _ can.standing can.permitted
    (c.facts_fit.ensures.past state.geometry (length state.targets) can.past can.standing.follows) (one_filled state can.opened c.args.dies.now can.past c.args.cycle c.parts-luns.result.luns c.loop-lun.lun c.filling-filling.result can.standing can.permitted c.requires.input c.requires.in_data luns c.loop-lun-test.true (sym c.fills.ensures ∙ c.if-fills.true) c.filling-filling.ensures.past) place
    (sym (ap (λ (ds : List Die). slice_get ds (c.place.result)) same) ∙ here)

pub returns-then-fills-clause-ok : goal.returns-then-fills-clause-ok
returns-then-fills-clause-ok g c =
    on_ok c.work_in.result _ _ c.work_in.ensures.ok (λ x worked opened past f h.
    let state = c.args.state.now in
    let luns = ap (λ (g : Parts). g.luns) (c.parts-luns.ensures.value ∙ c.geometry.ensures) in
    let same : c.loop-lun.dies ≡ c.args.dies.now = c.loop-lun.invariant.0 in
    let place = c.place.ensures ∙ ap (λ (n : ℕ). c.args.cycle.ce * n + c.loop-lun.lun) luns in
    subst (StandFor (channel_on state.geometry (length state.targets) opened) (Cyc c.args.cycle ∷ past)) (sym (worked.4 ∙ ap (λ (ds : List Die). set ds (c.place.result) worked.1) same))
    (one_works state opened c.args.dies.now past c.args.cycle (filled c.loop-lun.lun c.filling-filling.result) _ worked.0 worked.1 f h (c.facts_fit.ensures.past state.geometry (length state.targets) past f.follows)
    (input_of_one state.geometry c.args.cycle c.requires.input) (cycle_there state.geometry (length state.targets) past c.args.cycle h) (one_filled state opened c.args.dies.now past c.args.cycle c.parts-luns.result.luns c.loop-lun.lun c.filling-filling.result f h c.requires.input c.requires.in_data luns c.loop-lun-test.true (sym c.fills.ensures ∙ c.if-fills.true) c.filling-filling.ensures.past) place
    (sym (ap (λ (ds : List Die). slice_get ds (c.place.result)) same) ∙ worked.2) worked.3))

pub returns-then-fills-clause-err : goal.returns-then-fills-clause-err
returns-then-fills-clause-err g c = on_err c.work_in.result _ _ c.work_in.ensures.err (λ still. still ∙ c.loop-lun.invariant.0)

pub returns-then-fills-clause-memory : goal.returns-then-fills-clause-memory
returns-then-fills-clause-memory g c = λ idle.
    let state = c.args.state.now in
    let luns = ap (λ (g : Parts). g.luns) (c.parts-luns.ensures.value ∙ c.geometry.ensures) in
    let can = c.requires.permitted in
    c.work_in.ensures.memory (no_program_at state.geometry can.past c.args.cycle (filled c.loop-lun.lun c.filling-filling.result) (one_filled state can.opened c.args.dies.now can.past c.args.cycle c.parts-luns.result.luns c.loop-lun.lun c.filling-filling.result can.standing can.permitted c.requires.input c.requires.in_data luns c.loop-lun-test.true (sym c.fills.ensures ∙ c.if-fills.true) c.filling-filling.ensures.past) idle)

pub loop-lun-preserved : goal.loop-lun-preserved
loop-lun-preserved g c =
    let luns = ap (λ (g : Parts). g.luns) (c.parts-luns.ensures.value ∙ c.geometry.ensures) in (
      c.loop-lun.invariant.0,
      λ h n past f here. let same = ap (λ (g : Parts). g.luns) f.geometry in
          leaves_more h past c.args.cycle c.loop-lun.lun (ap fills (sym (c.filling-filling.ensures.past h n past f here (omega (arith, luns, same, c.loop-lun-test.true)))) ∙ (sym c.fills.ensures ∙ c.if-fills.false)) (c.loop-lun.invariant.1 h n past f here),
    )

pub returns-clause-ok : goal.returns-clause-ok
returns-clause-ok g c = λ opened past f h.
    let state = c.args.state.now in
    let luns = ap (λ (g : Parts). g.luns) (c.parts-luns.ensures.value ∙ c.geometry.ensures) in
    let same : c.loop-lun.dies ≡ c.args.dies.now = c.loop-lun.invariant.0 in
    subst (StandFor (channel_on state.geometry (length state.targets) opened) (Cyc c.args.cycle ∷ past)) (sym same)
    (none_works state opened c.args.dies.now past c.args.cycle f h (c.facts_fit.ensures.past state.geometry (length state.targets) past f.follows)
    (none_filled state opened c.args.dies.now past c.args.cycle c.parts-luns.result.luns c.loop-lun.lun f h c.requires.input c.requires.in_data luns c.loop-lun-test.false c.loop-lun.invariant.1))
