use Rattle.channel_work.proofs.Waiting.{advanced}
use Rattle.channel_work.proofs.backlog.advance.Goals as goal

pub returns : goal.returns
returns c = advanced c.args.places.now c.args.fronts.now c.args.at c.find_next-next.result _ c.requires.backlog c.requires.inside c.find_next-next.ensures
