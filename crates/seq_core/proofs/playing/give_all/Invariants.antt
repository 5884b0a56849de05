use Rattle.std.proofs.Common.{[], take}
use Rattle.micro_program.specs.Moves.{gives}
use Rattle.seq_core.specs.Playing.{HasPlayed}
use Rattle.seq_core.proofs.playing.give_all.Given as goal

abbrev pub invariant-loop-byte : goal.invariant-loop-byte
invariant-loop-byte g l = HasPlayed l.fn.bus l.bus l.fn.lun.ce (gives l.fn.kind (take l.byte-index l.fn.bytes)) [] l.byte-index
