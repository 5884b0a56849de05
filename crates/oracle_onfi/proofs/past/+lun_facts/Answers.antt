use Rattle.std.proofs.Common.{◌≡◌, IfOk, ◌∙◌, subst}
use Rattle.onfi_cycle.specs.LunView.{LunView}
use Rattle.oracle_onfi.proofs.Stepping.{lun_is, one_item}
use Rattle.oracle_onfi.proofs.past.+lun_facts.Goals as goal

pub returns-in_ok-numbers-in-len1-up-clause-value : goal.returns-in_ok-numbers-in-len1-up-clause-value
returns-in_ok-numbers-in-len1-up-clause-value t c =
    subst (λ (u : LunView). IfOk c.stepped.result (λ v. v ≡ u))
    (lun_is c.args.geometry.now c.args.past.now _ _ c.args.lun c.tail_facts-tail.result _ _ (one_item c.args.past.now _ c.in-len1-up.len_at_least) c.tail_facts-tail.ensures.value
    (c.deref.ensures.value ∙ c.in_ok-numbers-in-len1-up.ensures)
    c.in_ok-before-in-len1-up.ensures.value)
    c.stepped.ensures.value
