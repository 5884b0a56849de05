use Rattle.std.proofs.Common.{refl, sym}
use Rattle.run_file.proofs.Steps.{counts, counts_none}
use Rattle.run_file.proofs.parsing.Survey.add.Goals as goal
use Rattle.run_file.proofs.parsing.Survey.add.Goals.{then-is_job, else-is_job}

pub returns-clause-jobs : goal.returns-clause-jobs
returns-clause-jobs g c = elim c.if-is_job.branch [
  | then-is_job w ↦ counts _ c.args.self.now.jobs c.args.self.now.statements.items _ _ _ (rw w.self-is refl) c.requires.jobs (rw w.self-is refl) (sym w.if-is_job.ensures) c.in_ok-push.ensures.items
  | else-is_job w ↦ counts_none _ c.args.self.now.jobs c.args.self.now.statements.items _ _ _ (rw w.self-is refl) c.requires.jobs (rw w.self-is refl) (sym w.if-is_job.ensures) c.in_ok-push.ensures.items
]
