use Rattle.std.proofs.Common.{ap, ◌∙◌, ◌≡◌, arith}
use Rattle.die_model.proofs.Kept.{erase_none, erase_step, erased_to}
use Rattle.die_model.proofs.pages.Pages.erase.Goals as goal

pub loop-page-init : goal.loop-page-init
loop-page-init g c = λ p. erase_none _ _ p

pub loop-page-preserved : goal.loop-page-preserved
loop-page-preserved g c = erase_step c.self.inside.map.entries c.loop-page.self-inside.map.entries c.remove.new.self.entries c.args.block c.loop-page.page c.remove.ensures.updates.0 c.loop-page.invariant

pub returns : goal.returns
returns g c =
    let e : c.loop-page.page ≡ c.args.pages = omega arith in
    λ p. c.loop-page.invariant p
    ∙ (ap (λ k. erased_to c.self.inside.map.entries c.args.block k p) e ∙ ap (λ es. erased_to es c.args.block c.args.pages p) c.self.view_is)
