use Rattle.std.proofs.Common.{◌≡◌, ℕ, List, IfOk, ap, ◌∙◌, subst}
use Rattle.onfi_cycle.specs.LunView.{LunView}
use Rattle.oracle_onfi.specs.Stepped.{numbers_from}
use Rattle.oracle_onfi.proofs.Stepping.{drivers_are, few_luns}
use Rattle.oracle_onfi.proofs.past.drivers.Goals as goal

pub numbers_from-requires : goal.numbers_from-requires
numbers_from-requires c = few_luns c.args.geometry.now c.args.past.now c.args.ce _ c.parts-parts.ensures.limits (c.deref.ensures.value ∙ c.in_ok-luns.ensures.value)

pub returns : goal.returns
returns c =
    subst (λ (ms : List ℕ). IfOk c.numbers_from.result (λ v. v.items ≡ ms))
    (ap (λ (vs : List LunView). numbers_from 0 vs) (c.deref.ensures.value ∙ c.in_ok-luns.ensures.value) ∙ drivers_are c.args.geometry.now c.args.past.now c.args.ce)
    c.numbers_from.ensures
