use Rattle.std.proofs.Common.{◌≡◌, ℕ, List, ap, subst, ◌∙◌, ◌++◌}
use Rattle.die_model.specs.Pages.{AreInOrder}
use Rattle.die_model.specs.Image.{entries_of}
use Rattle.die_model.proofs.Blank.{entries_step, entries_end}
use Rattle.die_model.proofs.pages.Pages.write_entries.Goals as goal

pub loop-row-init : goal.loop-row-init
loop-row-init g c =
    let e : ◌≡◌ {A = List ((ℕ × ℕ) × List ℕ)} c.into_iter-row-iterator.result c.self.inside.map.entries = c.into_iter-row-iterator.ensures.into_iter_gives.0 in
    ap (λ es. c.args.out.now.items ++ entries_of c.args.geometry.now es) (e ∙ c.self.view_is)

pub loop-row-preserved : goal.loop-row-preserved
loop-row-preserved g c = entries_step c.args.geometry.now c.loop-row.out.items c.write_entry.new.out.items _ c.in-Some.page.now c.bytes.result.now c.in-Some.row.now c.loop-row.row-iterator c.next.new.self c.in_ok-write_entry.ensures c.bytes.ensures c.in-Some.ensures.steps c.loop-row.invariant

pub returns-clause-value : goal.returns-clause-value
returns-clause-value g c = entries_end c.args.geometry.now c.loop-row.out.items _ c.loop-row.row-iterator c.in-None.ensures.steps.0 c.loop-row.invariant

pub returns-clause-order : goal.returns-clause-order
returns-clause-order g c =
    subst AreInOrder c.self.view_is
    (record {
      rising = c.into_iter-row-iterator.ensures.into_iter_gives.5;
      found = c.into_iter-row-iterator.ensures.into_iter_gives.6;
    })
