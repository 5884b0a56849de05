use Rattle.std.proofs.Common.{[]}
use Rattle.channel_work.proofs.Places.{each_some, somes_all}
use Rattle.channel_work.proofs.seats.Seats.of.Goals as goal

pub invariant_of-result : goal.invariant_of-result
invariant_of-result c = each_some c.args.seats.items (record { table = c.requires.0; calls = [] }) c.requires.1.each

pub returns : goal.returns
returns c = somes_all c.args.seats.items (each_some c.args.seats.items (record { table = c.requires.0; calls = [] }) c.requires.1.each)
