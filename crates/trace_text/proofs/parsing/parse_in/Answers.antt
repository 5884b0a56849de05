use Rattle.trace_text.proofs.Texts.{items_found, items_only}
use Rattle.trace_text.proofs.parsing.parse_in.Goals as goal

pub returns-clause-found : goal.returns-clause-found
returns-clause-found g c = items_found c.args.profile (λ v. v.items) c.args.text.now c.items_of.result c.items_of.ensures.ok

pub returns-clause-only : goal.returns-clause-only
returns-clause-only g c = items_only c.args.profile (λ v. v.items) c.args.text.now c.items_of.result c.items_of.ensures.ok c.items_of.ensures.err
