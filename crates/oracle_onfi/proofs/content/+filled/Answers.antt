use Rattle.std.proofs.Common.{◌-◌, ◌∷◌, List, ap, ◌∙◌, drop, take, length, eq-eqb}
use Rattle.onfi_cycle.specs.declared.item.Item.{Item}
use Rattle.oracle_onfi.proofs.Filling.{filled_one, on_ok}
use Rattle.oracle_onfi.proofs.Stepping.{one_item}
use Rattle.oracle_onfi.proofs.content.+filled.Goals as goal

pub returns-then-c-ce : goal.returns-then-c-ce
returns-then-c-ce t c =
    let rest : List Item = take (length c.args.past.now - 1) (drop 1 c.args.past.now) in
    let parts = one_item c.args.past.now _ c.in-len1-up.len_at_least ∙ ap (λ (i : Item). i ∷ rest) c.in-Cyc.is in
    on_ok c.filled_after.result _ _ c.filled_after.ensures
    (λ v is. is ∙ filled_one c.args.begun.now c.args.past.now rest c.in-Cyc.c c.args.ce c.of.result c.tail_facts-t.result c.in_ok-before-in-len1-up.before.items parts (eq-eqb c.in-Cyc.c.ce c.args.ce c.if-c-ce.true) c.of.ensures c.tail_facts-t.ensures.value c.in_ok-before-in-len1-up.ensures)
