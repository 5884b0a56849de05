use Rattle.std.proofs.Common.{List, ℕ}
use Rattle.std.specs.Io.KnownBytes.{Appends}
use Rattle.seq_run.proofs.Outcomes.{on_ok, on_err, done_of_plan, written_of_plan}
use Rattle.seq_run.proofs.run_command.carry_out.Goals as goal

pub returns-clause-ok : goal.returns-clause-ok
returns-clause-ok g c =
    on_ok c.write_run.result c.write_run.ensures.ok
    (done_of_plan c.args.request c.args.plan c.in_ok-ran.ran (g.F.Files.store c.args.files.now) (g.F.Files.store c.write_run.new.files)
    (λ (lines : List ℕ). Appends (g.W.Write.contents c.args.console.now.output) (g.W.Write.contents c.write_run.new.output) lines)
    c.in_ok-ran.ensures.channel c.in_ok-ran.ensures.jobs c.in_ok-ran.ensures.images c.in_ok-ran.ensures.happened)

pub returns-clause-err : goal.returns-clause-err
returns-clause-err g c =
    on_err c.write_run.result c.write_run.ensures.err
    (written_of_plan c.args.request c.args.plan c.in_ok-ran.ran (g.F.Files.store c.args.files.now) (g.F.Files.store c.write_run.new.files)
    c.in_ok-ran.ensures.channel c.in_ok-ran.ensures.jobs c.in_ok-ran.ensures.images c.in_ok-ran.ensures.happened)
