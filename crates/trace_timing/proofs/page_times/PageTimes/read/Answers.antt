use Rattle.std.proofs.Common.{◌∙◌, sym}
use Rattle.trace_timing.proofs.PageCopies.{past, found, joined}
use Rattle.trace_timing.proofs.page_times.PageTimes.read.Goals as goal

pub returns-then-is_good : goal.returns-then-is_good
returns-then-is_good c = c.of_copy.ensures ∙ found c.args.page.now c.copies.rest.now c.split_at.result.0.now c.split_at.result.1.now c.copies.invariant (joined c.copies.rest.now _ _ c.split_at.ensures.front c.split_at.ensures.back) c.split_at.ensures.front_len (sym c.is_good.ensures ∙ c.if-is_good.true)

pub copies-preserved : goal.copies-preserved
copies-preserved c = past c.copies.rest.now c.split_at.result.0.now c.split_at.result.1.now (joined c.copies.rest.now _ _ c.split_at.ensures.front c.split_at.ensures.back) c.split_at.ensures.front_len (sym c.is_good.ensures ∙ c.if-is_good.false) ∙ c.copies.invariant
