use Rattle.micro_verify.proofs.playing.play_one.Goals as goal

pub returns-in-Command : goal.returns-in-Command
returns-in-Command g c = c.give_one.ensures c.args.bytes.now.items
