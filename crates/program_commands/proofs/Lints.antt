-- A lint ends as what it calls does.
use Rattle.std.proofs.Common.{◌≡◌}
use Rattle.seq_inputs.specs.declared.exit.Exit.{Exit}
use Rattle.program_commands.specs.declared.lint_ending.LintEnding.TheVariants as lint

pub exit_is : (one other : Exit) → lint.Exit one ≡ lint.Exit other → one ≡ other
exit_is one other is = cc
