use Rattle.std.proofs.Common.{◌≡◌, ◌+◌, ◌++◌, map, drop}
use Rattle.std.specs.Vec.{vec_len, vec_capacity}
use Rattle.onfi_cycle.specs.Channel.{cycle}
use Rattle.target_bus.proofs.going_on.push_run.Given as goal

abbrev pub invariant-loop-byte : goal.invariant-loop-byte
invariant-loop-byte g l =
    (l.trace.items ++ map (λ byte. cycle l.ce l.kind byte) (drop l.byte-index l.bytes) ≡ l.fn.trace.items ++ map (λ byte. cycle l.ce l.kind byte) l.bytes)
    × (vec_len l.trace ≡ vec_len l.fn.trace + l.byte-index)
    × (vec_capacity l.trace ≡ vec_capacity l.fn.trace)
