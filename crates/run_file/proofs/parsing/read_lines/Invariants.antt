use Rattle.std.proofs.Common.{◌≡◌, ◌+◌, ◌≤◌, ◌<◌, [], length}
use Rattle.micro_asm.specs.Reading.{lines}
use Rattle.run_file.specs.Told.{told_from, jobs_in}
use Rattle.run_file.specs.Shown.{shown_all}
use Rattle.run_file.proofs.parsing.read_lines.Given as goal

abbrev pub invariant-lines : goal.invariant-lines
invariant-lines g l = record {
  room : l.survey.line + length l.rest ≤ length l.text + 1;
  fewer : l.survey.jobs < l.survey.line;
  jobs : l.survey.jobs ≡ jobs_in (shown_all l.survey.statements.items);
  same : told_from l.survey.line (shown_all l.survey.statements.items) (lines l.rest) ≡ told_from 1 [] (lines l.text);
}

abbrev pub decreases-lines : goal.decreases-lines
decreases-lines g l = length l.rest
