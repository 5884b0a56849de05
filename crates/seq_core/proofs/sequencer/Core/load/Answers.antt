use Rattle.std.proofs.Common.{refl}
use Rattle.seq_core.proofs.Cores.{refused_now}
use Rattle.seq_core.proofs.sequencer.Core.load.Goals as goal

pub returns-in-Err-clause-err : goal.returns-in-Err-clause-err
returns-in-Err-clause-err g c =
    (refl, refl, refused_now c.args.self.now c.args.lun c.args.job c.in-Err.fault c.admits.ensures.core c.admits.ensures.verified c.in-Err.ensures.err)
