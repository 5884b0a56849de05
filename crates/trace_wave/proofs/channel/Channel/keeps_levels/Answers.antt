use Rattle.std.proofs.Common.{refl, sym, ◌∙◌}
use Rattle.trace_wave.proofs.Kept.{levels_kept, target_there}
use Rattle.trace_wave.proofs.channel.Channel.keeps_levels.Goals as goal

pub returns-then-tells_none : goal.returns-then-tells_none
returns-then-tells_none c g targets past stands kept =
    let there = target_there g targets past c.args.self.now.state c.args.item stands.follows c.requires in
    levels_kept g targets past c.args.item (sym (c.keeps_work.ensures g targets past stands there) ∙ kept) (c.if-tells_none.ensures g targets past stands refl)
