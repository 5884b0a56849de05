use Rattle.std.proofs.Common.{◌≡◌, ◌+◌, drop}
use Rattle.onfi_cycle.specs.Content.{written}
use Rattle.micro_verify.proofs.playing.store.Given as goal

abbrev pub invariant-loop-k : goal.invariant-loop-k
invariant-loop-k l = written (drop l.k l.fn.bytes) (l.fn.place + l.k) l.buffer ≡ written l.fn.bytes l.fn.place l.fn.buffer
