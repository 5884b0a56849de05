use Rattle.target_bus.proofs.Opened.{copied_more, whole_from}
use Rattle.target_bus.proofs.Standing.{on_ok}
use Rattle.target_bus.proofs.opening.+push_pages.Goals as goal

pub returns-in_ok-push-in-len1-up-clause-value : goal.returns-in_ok-push-in-len1-up-clause-value
returns-in_ok-push-in-len1-up-clause-value g t c =
    on_ok c.push_pages.result _ _ c.push_pages.ensures.value (λ x is.
    copied_more c.args.dies.now c.die-item.result c.args.pages.now.items c.push.new.self.items c.push_pages.new.pages.items c.in_ok-pages-in-len1-up.field-0 c.in-len1-up.len_at_least c.die-item.is c.in_ok-push-in-len1-up.ensures.items c.in_ok-pages-in-len1-up.ensures.value is)

pub returns-in_ok-push-in-len1-up-clause-whole : goal.returns-in_ok-push-in-len1-up-clause-whole
returns-in_ok-push-in-len1-up-clause-whole g t c =
    on_ok c.push_pages.result _ _ c.push_pages.ensures.whole (λ x whole.
    whole_from c.args.dies.now c.die-item.result c.in-len1-up.len_at_least c.die-item.is (record { lengths = c.pages.ensures.lengths; registers = c.pages.ensures.registers }) whole)
