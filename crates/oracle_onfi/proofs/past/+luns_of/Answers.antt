use Rattle.std.proofs.Common.{◌≡◌, List, IfOk, ap, sym, ◌∙◌, subst}
use Rattle.nand_geometry.specs.declared.parts.Parts.{Parts}
use Rattle.onfi_cycle.specs.declared.item.Item.{Item}
use Rattle.onfi_cycle.specs.LunView.{LunView}
use Rattle.onfi_cycle.specs.Lun.{luns_of}
use Rattle.oracle_onfi.specs.Stepped.{firsts_from, numbers_from}
use Rattle.oracle_onfi.proofs.Stepping.{few_luns, luns_are, luns_first, no_items, one_item}
use Rattle.oracle_onfi.proofs.past.+luns_of.Goals as goal

pub numbers_from-requires : goal.numbers_from-requires
numbers_from-requires t c = few_luns c.args.geometry.now _ c.args.ce _ c.parts-luns.ensures.limits (c.deref.ensures.value ∙ c.in_ok-before-in-len1-up.ensures.value)

pub stepped_from-requires-clause-numbers : goal.stepped_from-requires-clause-numbers
stepped_from-requires-clause-numbers t c = few_luns c.args.geometry.now _ c.args.ce _ c.parts-luns.ensures.limits (c.deref-in-len1-up-2.ensures.value ∙ c.in_ok-before-in-len1-up.ensures.value)

pub returns-in-empty-clause-value : goal.returns-in-empty-clause-value
returns-in-empty-clause-value t c =
    subst (λ (vs : List LunView). IfOk c.firsts_from.result (λ v. v.items ≡ vs))
    (ap (λ (p : Parts). firsts_from p.luns 0) c.parts-luns.ensures.value ∙ (luns_first c.args.geometry.now c.args.ce ∙ ap (λ (xs : List Item). luns_of c.args.geometry.now xs c.args.ce) (sym (no_items c.args.past.now c.in-empty.len_below))))
    c.firsts_from.ensures.value

pub returns-in_ok-numbers-in-len1-up-clause-value : goal.returns-in_ok-numbers-in-len1-up-clause-value
returns-in_ok-numbers-in-len1-up-clause-value t c =
    subst (λ (vs : List LunView). IfOk c.stepped_from.result (λ v. v.items ≡ vs))
    (luns_are c.args.geometry.now c.args.past.now _ _ c.args.ce c.tail_facts-tail.result _ _ (one_item c.args.past.now _ c.in-len1-up.len_at_least) c.tail_facts-tail.ensures.value
    (c.deref-in-len1-up.ensures.value ∙ (c.in_ok-numbers-in-len1-up.ensures ∙ ap (λ (vs : List LunView). numbers_from 0 vs) (c.deref.ensures.value ∙ sym c.deref-in-len1-up-2.ensures.value)))
    (c.deref-in-len1-up-2.ensures.value ∙ c.in_ok-before-in-len1-up.ensures.value))
    c.stepped_from.ensures.value
