use Rattle.std.proofs.Common.{arith}
use Rattle.std.specs.String.{string_bytes}
use Rattle.seq_run.proofs.JobLines.{line_more, lines_done}
use Rattle.seq_run.proofs.job_ends.push_job_lines.Goals as goal

pub loop-k-preserved : goal.loop-k-preserved
loop-k-preserved c =
    line_more c.args.jobs.now c.loop-k.k c.index-jobs-k.result (string_bytes c.loop-k.text) (string_bytes c.push_job_line.new.text) _ c.loop-k-test.true
    c.in_ok-push_job_line.ensures c.loop-k.invariant

pub returns : goal.returns
returns c = lines_done c.args.jobs.now c.loop-k.k (string_bytes c.loop-k.text) _ (omega (arith, c.loop-k-test.false)) c.loop-k.invariant
