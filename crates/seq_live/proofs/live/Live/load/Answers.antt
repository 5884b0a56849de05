use Rattle.std.proofs.Common.{refl}
use Rattle.seq_live.proofs.Lives.{refused}
use Rattle.seq_live.proofs.live.Live.load.Goals as goal

pub returns-in-Err-clause-err : goal.returns-in-Err-clause-err
returns-in-Err-clause-err g c =
    (refl, refl, refused c.args.self.now c.args.lun c.args.job c.in-Err.fault c.admits.ensures.live c.admits.ensures.verified c.in-Err.ensures.err)
