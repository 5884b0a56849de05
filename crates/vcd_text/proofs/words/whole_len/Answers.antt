use Rattle.std.proofs.Common.{◌≡◌, ◌-◌, suc, take, subst, sym, ◌∙◌, arith}
use Rattle.vcd_text.specs.Words.{IsCut}
use Rattle.vcd_text.proofs.Pieces.{cut_after}
use Rattle.vcd_text.proofs.words.whole_len.Goals as goal

pub returns-else-not-is_blank-clause-cut : goal.returns-else-not-is_blank-clause-cut
returns-else-not-is_blank-clause-cut c =
    let last : suc (c.bytes.count - 1) ≡ c.bytes.count = omega (arith, c.bytes-test.true) in
    subst (λ n. IsCut (take n c.args.piece.now)) last
    (cut_after (c.bytes.count - 1) c.args.piece.now (omega (arith, c.bytes.invariant.0, c.bytes-test.true)) (sym c.is_blank.ensures ∙ c.if-not-is_blank.false))
