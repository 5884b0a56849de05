use Rattle.std.proofs.Common.{[], ◌∷◌}
use Rattle.onfi_cycle.specs.declared.item.Kind.TheVariants.{Cmd}
use Rattle.micro_program.specs.Moves.{Give, Take}
use Rattle.seq_core.proofs.Played.{quiet_status, own_last, own_same, polled}
use Rattle.seq_core.proofs.playing.poll_one.Goals as goal

pub give-requires-clause-quiet : goal.give-requires-clause-quiet
give-requires-clause-quiet g c = quiet_status c.args.lun.ce

pub give-requires-clause-own : goal.give-requires-clause-own
give-requires-clause-own g c =
    (own_same c.args.bus.now c.reserve.new.self c.args.lun (Give Cmd 0x70 ∷ (Take ∷ [])) c.in_ok-reserve.ensures.ok.0 c.in_ok-reserve.ensures.ok.1 c.requires.own).0

pub take-requires-clause-own : goal.take-requires-clause-own
take-requires-clause-own g c =
    own_last c.args.bus.now c.reserve.new.self c.give.new.bus c.args.lun (Give Cmd 0x70 ∷ []) 1 c.in_ok-reserve.ensures.ok.0 c.in_ok-reserve.ensures.ok.1 c.requires.own c.give.ensures

pub returns-clause-ok : goal.returns-clause-ok
returns-clause-ok g c =
    polled c.args.bus.now c.reserve.new.self c.give.new.bus c.take.new.bus c.args.lun.ce (Give Cmd 0x70 ∷ []) c.take.result 1 c.in_ok-reserve.ensures.ok.0 c.in_ok-reserve.ensures.ok.1 c.give.ensures c.take.ensures
