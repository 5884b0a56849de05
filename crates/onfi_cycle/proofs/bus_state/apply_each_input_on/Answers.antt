use Rattle.std.proofs.Common.{◌≡◌, ℕ, ◌-◌, refl, sym, ap, ◌∙◌, arith}
use Rattle.onfi_cycle.specs.Inputs.{after_inputs}
use Rattle.onfi_cycle.specs.State.{judged, bus}
use Rattle.onfi_cycle.specs.declared.item.Kind.TheVariants.{Din}
use Rattle.onfi_cycle.proofs.Runs.{first_permitted}
use Rattle.onfi_cycle.proofs.Inputs.{one_input_on}
use Rattle.onfi_cycle.proofs.bus_state.apply_each_input_on.Goals as goal

pub loop-left-init : goal.loop-left-init
loop-left-init c = record { permitted = c.requires.permitted; leads = refl; fits = c.requires.fits }

pub apply_on-requires-clause-fits : goal.apply_on-requires-clause-fits
apply_on-requires-clause-fits c = c.loop-left.invariant.fits

pub apply_on-requires-clause-permitted : goal.apply_on-requires-clause-permitted
apply_on-requires-clause-permitted c =
    ap (judged (bus c.args.geometry.now c.loop-left.targets)) c.data_cycle.ensures
    ∙ first_permitted Din (bus c.args.geometry.now c.loop-left.targets) c.args.ce c.loop-left.left c.loop-left-test.true c.loop-left.invariant.permitted

pub loop-left-preserved : goal.loop-left-preserved
loop-left-preserved c =
    let before = c.loop-left.invariant in
    let on =
    one_input_on (bus c.args.geometry.now c.loop-left.targets) (bus c.args.geometry.now c.apply_on.new.targets) c.args.ce c.loop-left.left (c.loop-left.left - 1) c.data_cycle.result (omega (arith, c.loop-left-test.true)) c.data_cycle.ensures c.apply_on.ensures.value before.permitted in
    record { permitted = on.permitted; leads = on.leads ∙ before.leads; fits = c.apply_on.ensures.fits }

pub returns-clause-value : goal.returns-clause-value
returns-clause-value c =
    let none : c.loop-left.left ≡ 0 = omega (arith, c.loop-left-test.false) in
    ap (λ (n : ℕ). after_inputs c.args.ce n (bus c.args.geometry.now c.loop-left.targets)) (sym none) ∙ c.loop-left.invariant.leads

pub returns-clause-fits : goal.returns-clause-fits
returns-clause-fits c = c.loop-left.invariant.fits
