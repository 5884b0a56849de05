use Rattle.micro_verify.proofs.Awaiting.{wait_comes}
use Rattle.micro_verify.proofs.playing.await_ready.Goals as goal

pub returns-in-Wait-clause-past : goal.returns-in-Wait-clause-past
returns-in-Wait-clause-past g c =
    wait_comes c.args.bus.now c.ready.new.self c.args.word c.ready.result c.in-Wait.is c.requires.target c.requires.one c.ready.ensures.came c.ready.ensures.yes c.ready.ensures.no
