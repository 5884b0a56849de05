use Rattle.std.proofs.Common.{subst, reverse}
use Rattle.onfi_cycle.specs.Channel.{IsChannel}
use Rattle.target_bus.specs.Bus.{Traced, channel_of}
use Rattle.target_bus.proofs.Shown.{is_channel}
use Rattle.target_bus.proofs.bus.Bus.trace.Goals as goal

pub returns-clause-channel : goal.returns-clause-channel
returns-clause-channel g c =
    subst (λ (b : Traced). IsChannel (channel_of b)) c.self.view_is
    (is_channel c.self.inside.state c.self.inside.opened.items c.self.inside.dies.items (reverse c.self.inside.trace.items) c.self.invariant.standing)
