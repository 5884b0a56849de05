use Rattle.die_model.proofs.Images.{put_kept}
use Rattle.die_model.proofs.pages.Pages.put.Goals as goal

pub returns : goal.returns
returns g c = put_kept c.args.at c.self.inside.map.entries c.insert.new.self.entries c.args.self.now c.in_ok-page.page c.args.bytes.now c.self.view_is c.in_ok-page.ensures c.in_ok-insert.ensures.updates.0
