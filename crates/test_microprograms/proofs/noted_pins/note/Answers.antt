use Rattle.test_microprograms.proofs.Noted.{one_noted}
use Rattle.test_microprograms.proofs.noted_pins.note.Goals as goal

pub returns-in-Ok : goal.returns-in-Ok
returns-in-Ok c = one_noted c.args.has_all c.args.cycles.now.items c.push.new.self.items c.args.cycle c.in-Ok.ensures.items
