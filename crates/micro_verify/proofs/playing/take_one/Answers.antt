use Rattle.micro_verify.proofs.Steps.{took_gone}
use Rattle.micro_verify.proofs.playing.take_one.Goals as goal

pub returns-in-Ok : goal.returns-in-Ok
returns-in-Ok g c =
    took_gone c.args.bus.now c.take.new.self c.args.bytes.now.items c.reserve.new.self.items c.push_reserved.new.self.items c.in-Ok.byte c.in-Ok.ensures.ok.0 c.in-Ok.ensures.ok.1 c.in-Ok.ensures.ok.2 c.reserve.ensures.items c.push_reserved.ensures.items
