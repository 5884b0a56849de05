use Rattle.std.proofs.Common.{◌≡◌, ℕ, ◌-◌, refl, sym, ap, ◌∙◌, arith}
use Rattle.onfi_cycle.specs.declared.item.Item.TheVariants.{Cyc}
use Rattle.target_record.specs.Geometry.{parts_of}
use Rattle.target_record.specs.Record.{target_of}
use Rattle.bus_record.specs.Runs.{each_taken}
use Rattle.bus_record.proofs.FeatureBytes.{byte_goes_on}
use Rattle.bus_record.proofs.run.apply_each.Goals as goal

pub loop-left-init : goal.loop-left-init
loop-left-init c = record { numbers = c.requires.numbers; fits = c.requires.fits; leads = refl; more = λ h. record { takes = c.requires.takes; few = c.requires.few } }

pub apply_input-requires-clause-fits : goal.apply_input-requires-clause-fits
apply_input-requires-clause-fits c = c.loop-left.invariant.fits

pub apply_input-requires-clause-numbers : goal.apply_input-requires-clause-numbers
apply_input-requires-clause-numbers c = c.loop-left.invariant.numbers

pub loop-left-preserved : goal.loop-left-preserved
loop-left-preserved c =
    let before = c.loop-left.invariant in
    let on =
    byte_goes_on (parts_of c.args.geometry.now) c.requires.limits c.args.ce c.loop-left.left (c.loop-left.left - 1) (Cyc c.data_cycle.result) (target_of c.loop-left.kept) (target_of c.apply_input.new.kept)
    (omega (arith, c.loop-left-test.true)) c.data_cycle.ensures.value (before.more c.loop-left-test.true) before.fits c.apply_input.ensures.value c.apply_input.ensures.column in
    record { numbers = c.apply_input.ensures.numbers; fits = on.fits; leads = on.leads ∙ before.leads; more = on.more }

pub returns-clause-value : goal.returns-clause-value
returns-clause-value c =
    let none : c.loop-left.left ≡ 0 = omega (arith, c.loop-left-test.false) in
    ap (λ (n : ℕ). each_taken (parts_of c.args.geometry.now) c.args.ce n (target_of c.loop-left.kept)) (sym none) ∙ c.loop-left.invariant.leads

pub returns-clause-numbers : goal.returns-clause-numbers
returns-clause-numbers c = c.loop-left.invariant.numbers
