use Rattle.std.proofs.Common.{◌≡◌, ℕ, List, ◌∙◌, refl, arith}
use Rattle.die_model.specs.Image.{count_of}
use Rattle.die_model.proofs.Images.{count_begins, count_step, count_end}
use Rattle.die_model.proofs.pages.Pages.count_entries.Goals as goal

pub loop-row-init : goal.loop-row-init
loop-row-init g c =
    let e : ◌≡◌ {A = List ((ℕ × ℕ) × List ℕ)} c.into_iter-row-iterator.result c.self.inside.map.entries = c.into_iter-row-iterator.ensures.into_iter_gives.0 in
    count_begins c.args.geometry.now _ _ (e ∙ c.self.view_is)

pub loop-row-preserved : goal.loop-row-preserved
loop-row-preserved g c =
    count_step c.args.geometry.now c.loop-row.count c.count_entry-count.result _ (count_of c.args.geometry.now c.args.self.now) c.bytes.result.now c.in-Some.page.now c.in-Some.row.now c.loop-row.row-iterator c.next.new.self refl c.count_entry-count.ensures c.bytes.ensures c.in-Some.ensures.steps c.loop-row.invariant

pub returns : goal.returns
returns g c = count_end c.args.geometry.now c.loop-row.count _ c.loop-row.row-iterator (omega (arith, c.loop-row.auto.count-fits)) c.in-None.ensures.steps.0 c.loop-row.invariant
