use Rattle.std.proofs.Common.{◌≡◌, ◌-◌}
use Rattle.word_file.specs.Words.{continues}
use Rattle.word_file.proofs.word.continues_cache_read.Given as goal

abbrev pub invariant-loop-at : goal.invariant-loop-at
invariant-loop-at l = continues l.file 0 l.words ≡ continues l.file l.at (l.at-end - l.at)
