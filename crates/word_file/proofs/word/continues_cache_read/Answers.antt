use Rattle.std.proofs.Common.{sym, ap, ◌∙◌}
use Rattle.word_file.specs.Words.{is_continuing}
use Rattle.word_file.proofs.Continues.{goes_on}
use Rattle.word_file.proofs.word.continues_cache_read.Goals as goal

pub loop-at-preserved : goal.loop-at-preserved
loop-at-preserved c =
    c.loop-at.invariant
    ∙ goes_on c.args.file.now c.loop-at.at c.from-at-end.result c.loop-at-test.true
    (ap is_continuing (sym c.word_in.ensures.value) ∙ (sym c.is_continuing.ensures ∙ c.if-is_continuing.false))
