use Rattle.seq_run.proofs.FilesMade.{pushed, not_pushed, die_is_there}
use Rattle.seq_run.proofs.writing.push_image.Goals as goal

pub returns-in_ok-push-in-Some : goal.returns-in_ok-push-in-Some
returns-in_ok-push-in-Some c =
    pushed c.args.dies.now c.args.image.now c.in-Some.die.now c.args.made.now.items c.push.new.self.items c.in_ok-file-in-Some.file
    (die_is_there c.args.dies.now c.args.image.now.number c.in-Some.die.now c.in-Some.ensures.lookup.3.0 (c.in-Some.ensures.lookup.3.1 c.in-Some.die.now))
    c.in_ok-push-in-Some.ensures.items c.in_ok-file-in-Some.ensures

pub returns-in-None : goal.returns-in-None
returns-in-None c = not_pushed c.args.dies.now c.args.image.now c.args.made.now.items c.in-None.ensures.lookup.3
