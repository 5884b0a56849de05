use Rattle.std.proofs.Common.{◌∙◌, List, sym, subst}
use Rattle.channel_work.specs.declared.events.Kept.{Kept}
use Rattle.channel_work.specs.Events.{AreMerged}
use Rattle.channel_work.proofs.Merging.{merged_more}
use Rattle.channel_work.proofs.events.push_kept.Goals as goal

pub returns-in-Some-add_one-clause-merged : goal.returns-in-Some-add_one-clause-merged
returns-in-Some-add_one-clause-merged c merged =
    subst (λ (ks : List Kept). AreMerged ks) (sym c.push_reserved-in-Some-add_one.ensures.items)
    (merged_more c.pop.new.self.items c.in-Some.last c.in-Some-add_one.more c.args.event (sym c.add_one.ensures ∙ c.in-Some-add_one.is) (subst (λ (ks : List Kept). AreMerged ks) c.in-Some.ensures.items merged))
