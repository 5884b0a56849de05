use Rattle.std.proofs.Common.{[], take}
use Rattle.onfi_cycle.specs.declared.item.Kind.TheVariants.{Adr}
use Rattle.micro_program.specs.Moves.{gives}
use Rattle.seq_live.specs.Calls.{HasMoved}
use Rattle.seq_live.proofs.moving.give_addresses.Given as goal

abbrev pub invariant-loop-byte : goal.invariant-loop-byte
invariant-loop-byte l = HasMoved l.fn.state l.state l.fn.lun.ce (gives Adr (take l.byte-index l.fn.bytes)) []
