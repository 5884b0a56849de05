use Rattle.std.proofs.Common.{sym, ◌∙◌}
use Rattle.micro_program.proofs.CacheReads.{its_byte, no_other_byte}
use Rattle.micro_program.proofs.lines.is_read_cache_sequential.Goals as goal

pub returns-in-ReadCacheSequential : goal.returns-in-ReadCacheSequential
returns-in-ReadCacheSequential c = rw c.in-Command.is (sym (its_byte c.in-Command.byte (sym c.of.ensures ∙ c.in-ReadCacheSequential.is)))

pub returns-in_default-matches : goal.returns-in_default-matches
returns-in_default-matches c =
    rw c.in-Command.is (sym (no_other_byte c.in-Command.byte (λ e. c.in_default-matches.not-ReadCacheSequential (c.of.ensures ∙ e))))
