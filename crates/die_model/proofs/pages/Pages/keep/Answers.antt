use Rattle.std.proofs.Common.{sym, ◌∙◌}
use Rattle.die_model.proofs.Kept.{blank_kept, keeps_row}
use Rattle.die_model.proofs.pages.Pages.keep.Goals as goal

pub returns-clause-kept : goal.returns-clause-kept
returns-clause-kept g c =
    keeps_row c.args.len c.args.at c.self.inside.map.entries c.insert.new.self.entries c.args.self.now c.self.view_is
    (blank_kept c.args.len c.args.at c.self.inside.map.entries c.insert.new.self.entries c.in_ok-page.page c.in_ok-page.ensures c.in_ok-insert.ensures.updates.0 (sym c.contains_key.ensures ∙ c.if-contains_key.false))
