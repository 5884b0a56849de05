use Rattle.trace_text.proofs.RecordedItems.{printable_read}
use Rattle.trace_text.proofs.RecordedTexts.{strict_read}
use Rattle.trace_text.proofs.recorded_reading.parse_recorded_in.Goals as goal

pub returns-clause-printable : goal.returns-clause-printable
returns-clause-printable g c = printable_read c.args.profile (λ v. v.items) c.args.text.now c.items_of.result c.items_of.ensures.ok

pub returns-clause-strict : goal.returns-clause-strict
returns-clause-strict g c = strict_read c.args.profile (λ v. v.items) c.args.text.now c.items_of.result c.items_of.ensures.ok c.items_of.ensures.err
