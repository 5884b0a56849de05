use Rattle.std.proofs.Common.{◌∙◌, subst, Option}
use Rattle.seq_files.specs.Store.{Store}
use Rattle.seq_run.specs.Runs.{RunIsRefused}
use Rattle.seq_run.proofs.Outcomes.{nothing_told}
use Rattle.seq_run.proofs.run_command.run_watched.Goals as goal

pub returns-in-Ok-text_of-clause-refused : goal.returns-in-Ok-text_of-clause-refused
returns-in-Ok-text_of-clause-refused g c refusal is =
    let refused = c.run_text.ensures.refused refusal is in
    let same = c.in-Ok.ensures.stays in
    (subst (λ (s : Option Store). RunIsRefused s c.args.request refusal) same refused.0, refused.1 ∙ same, refused.2)

pub returns-in-Err-clause-refused : goal.returns-in-Err-clause-refused
returns-in-Err-clause-refused g c refusal is =
    absurd (nothing_told refusal c.in-Err.stop (c.fail.ensures.refused refusal is).0 c.in-Err.ensures.nothing)

pub returns-clause-refused : goal.returns-clause-refused
returns-clause-refused g c refusal is =
    absurd (nothing_told refusal c.in-Err-text_of.stop (c.fail-in-Err-text_of.ensures.refused refusal is).0 c.in-Err-text_of.ensures.err)
