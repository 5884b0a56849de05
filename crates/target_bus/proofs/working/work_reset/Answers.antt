use Rattle.std.proofs.Common.{◌≡◌, ◌*◌, ◌+◌, ℕ, List, sym, ap, subst, ◌∙◌, arith, length}
use Rattle.nand_geometry.specs.declared.parts.Parts.{Parts}
use Rattle.die_model.specs.Die.{Die}
use Rattle.target_bus.specs.Bus.{lun_at}
use Rattle.target_bus.proofs.Standing.{cycle_there, die_there}
use Rattle.target_bus.proofs.Resets.{AreReset, none_reset, reset_more, all_reset, can_reset}
use Rattle.target_bus.proofs.working.work_reset.Goals as goal

pub loop-lun-init : goal.loop-lun-init
loop-lun-init g c = none_reset c.args.state.now.geometry c.args.cycle.ce c.args.dies.now

pub reset_in-requires-clause-inside : goal.reset_in-requires-clause-inside
reset_in-requires-clause-inside g c =
    let state = c.args.state.now in
    let can = c.requires.permitted in
    let luns = ap (λ (g : Parts). g.luns) (c.parts-luns.ensures.value ∙ c.geometry.ensures) in
    let place = c.place.ensures ∙ ap (λ (n : ℕ). c.args.cycle.ce * n + c.loop-lun.lun) luns in
    let count = c.loop-lun.invariant.count in
    let low = c.loop-lun-test.true in
    let there = die_there state can.opened c.args.dies.now can.past (lun_at c.args.cycle.ce c.loop-lun.lun) can.standing (cycle_there state.geometry (length state.targets) can.past c.args.cycle can.permitted) (omega (arith, low, luns)) in
    omega (arith, place, count, there)

pub reset_in-requires-clause-can : goal.reset_in-requires-clause-can
reset_in-requires-clause-can g c = λ d here.
    let state = c.args.state.now in
    let can = c.requires.permitted in
    let luns = ap (λ (g : Parts). g.luns) (c.parts-luns.ensures.value ∙ c.geometry.ensures) in
    let place = c.place.ensures ∙ ap (λ (n : ℕ). c.args.cycle.ce * n + c.loop-lun.lun) luns in
    let low = c.loop-lun-test.true in
    can_reset state can.opened c.args.dies.now c.loop-lun.dies can.past c.args.cycle.ce c.loop-lun.lun _ d can.standing
    (c.facts_fit.ensures.past state.geometry (length state.targets) can.past can.standing.follows)
    (cycle_there state.geometry (length state.targets) can.past c.args.cycle can.permitted) (omega (arith, low, luns)) place c.loop-lun.invariant here

pub loop-lun-preserved : goal.loop-lun-preserved
loop-lun-preserved g c =
    let state = c.args.state.now in
    let luns = ap (λ (g : Parts). g.luns) (c.parts-luns.ensures.value ∙ c.geometry.ensures) in
    let place = c.place.ensures ∙ ap (λ (n : ℕ). c.args.cycle.ce * n + c.loop-lun.lun) luns in
    let low = c.loop-lun-test.true in
    let done = c.reset_in.ensures in
    subst (λ (ds : List Die). AreReset state.geometry c.args.cycle.ce (c.loop-lun.lun + 1) c.args.dies.now ds) (sym done.4)
    (reset_more state.geometry c.args.cycle.ce c.loop-lun.lun _ c.args.dies.now c.loop-lun.dies done.0 done.1 (omega (arith, low, luns)) place c.loop-lun.invariant done.2 done.3)

pub returns : goal.returns
returns g c = λ opened past f h.
    let state = c.args.state.now in
    let luns = ap (λ (g : Parts). g.luns) (c.parts-luns.ensures.value ∙ c.geometry.ensures) in
    let last : c.loop-lun.lun ≡ state.geometry.luns = omega (arith, c.loop-lun-test.false, c.loop-lun.auto.lun-end, luns) in
    all_reset state opened c.args.dies.now c.loop-lun.dies past c.args.cycle f h (c.facts_fit.ensures.past state.geometry (length state.targets) past f.follows) c.requires.several
    (subst (λ (n : ℕ). AreReset state.geometry c.args.cycle.ce n c.args.dies.now c.loop-lun.dies) last c.loop-lun.invariant)
