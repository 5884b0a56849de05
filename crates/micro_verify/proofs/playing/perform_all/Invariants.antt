use Rattle.micro_verify.proofs.PerformedWords.{IsGoing}
use Rattle.micro_verify.proofs.playing.perform_all.Given as goal

abbrev pub invariant-loop-word : goal.invariant-loop-word
invariant-loop-word g l = IsGoing l.fn.bus l.bus l.fn.buffer l.buffer l.fn.words l.word-index l.registers
