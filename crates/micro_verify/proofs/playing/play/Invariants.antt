use Rattle.micro_verify.proofs.Steps.{ArePlayed}
use Rattle.micro_verify.proofs.playing.play.Given as goal

abbrev pub invariant-loop-step : goal.invariant-loop-step
invariant-loop-step g l = ArePlayed l.fn.bus l.bus l.fn.moves l.step-index l.bytes.items
