use Rattle.trace_wave.proofs.Lists.{joined}
use Rattle.trace_wave.proofs.Counted.{all_lun_lines_more}
use Rattle.trace_wave.proofs.header.+push_all_lun_lines.Goals as goal

pub returns-clause-value : goal.returns-clause-value
returns-clause-value g t c =
    joined c.args.out.now.items c.push_lun_lines.new.out.items c.push_all_lun_lines.new.out.items _ _ _ c.push_lun_lines.ensures.value c.push_all_lun_lines.ensures.value (all_lun_lines_more c.args.code c.args.ce c.args.count c.args.n c.if-count-eq0.false)
