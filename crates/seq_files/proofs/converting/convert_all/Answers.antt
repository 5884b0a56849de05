use Rattle.std.proofs.Common.{rules}
use Rattle.seq_files.proofs.Converted.{gone_on, ended, ended_refused, refused_then}
use Rattle.seq_files.proofs.converting.convert_all.Goals as goal

pub returns-in-Ok-true-clause-made : goal.returns-in-Ok-true-clause-made
returns-in-Ok-true-clause-made g c =
    ended _ _ _ _ _ _ _ _ _ c.convert_end.result (gone_on _ _ _ _ _ _ _ _ _ _ _ _ c.loop.invariant.2 c.in-Ok-true.ensures.more) (search rules) c.convert_end.ensures.made

pub returns-in-Ok-true-clause-refused : goal.returns-in-Ok-true-clause-refused
returns-in-Ok-true-clause-refused g c =
    ended_refused _ _ _ _ _ _ _ _ c.convert_end.result (gone_on _ _ _ _ _ _ _ _ _ _ _ _ c.loop.invariant.2 c.in-Ok-true.ensures.more) (search rules) c.convert_end.ensures.refused

pub returns-in-Err-convert_piece-clause-refused : goal.returns-in-Err-convert_piece-clause-refused
returns-in-Err-convert_piece-clause-refused g c =
    refused_then _ _ _ _ _ _ _ _ _ c.loop.invariant.2 (search rules)

pub loop-preserved : goal.loop-preserved
loop-preserved g c = (search rules, search rules, gone_on _ _ _ _ _ _ _ _ _ _ _ _ c.loop.invariant.2 (search rules))
