use Rattle.std.proofs.Common.{sym, ◌∙◌}
use Rattle.target_record.proofs.Fitting.{whole_is}
use Rattle.target_record.proofs.whole.is_whole.Goals as goal

pub returns-clause-whole : goal.returns-clause-whole
returns-clause-whole c fits =
    whole_is c.args.geometry.now c.args.kept.now (c.has_limits.ensures.limits c.if-not-has_limits.false) (c.are_numbers.ensures.numbers c.if-not-are_numbers.false)
    (sym c.target_fits.ensures ∙ fits)
