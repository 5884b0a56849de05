use Rattle.std.proofs.Common.{take}
use Rattle.target_record.specs.Geometry.{parts_of}
use Rattle.target_record.specs.Record.{luns_of, tail_of}
use Rattle.target_record.proofs.Going.{going_on_passes}
use Rattle.target_record.proofs.judging.judge_going_on.Goals as goal

pub returns-in_default : goal.returns-in_default
returns-in_default c = going_on_passes (parts_of c.args.geometry.now) (tail_of c.args.kept.now) (luns_of (take c.args.kept.now.count c.args.kept.now.luns)) c.args.command c.requires.opener c.requires.wanted c.in_default.not-ReadCacheSequential
