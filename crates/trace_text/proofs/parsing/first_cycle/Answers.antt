use Rattle.std.proofs.Common.{◌≡◌, ◌≤◌, get_or, length, ◌∙◌, ap, sym, arith}
use Rattle.std.proofs.lemmas.Str.{lead_after_ascii}
use Rattle.trace_text.proofs.Texts.{begins_spaced}
use Rattle.trace_text.proofs.parsing.first_cycle.Goals as goal

pub range_from-requires : goal.range_from-requires
range_from-requires c =
    let whole = c.as_bytes.ensures.value in
    let feed : get_or c.args.text.now 6 0 ≡ 10 = ap (λ bs. get_or bs 6 0) (sym whole) ∙ c.if-end-ne10.false in
    let long : 7 ≤ length c.args.text.now = omega (arith, ap length whole, c.in-len7-up.len_at_least) in
    λ some. (long, λ more high. lead_after_ascii c.args.text.now 6 c.utf8.text (omega arith) (omega arith) high)

pub returns-clause-some : goal.returns-clause-some
returns-clause-some c =
    let whole = c.as_bytes.ensures.value in
    begins_spaced c.args.profile c.args.text.now c.range_from.result.now c.in_ok-item.item (rw whole at c.in-len7-up.len_at_least) c.range_from.ensures.value
    (rw whole at c.if-before-ne32.false) (rw whole at c.if-after-ne32.false) (rw whole at c.if-end-ne10.false) (rw whole at c.in_ok-item.ensures c.args.profile)
