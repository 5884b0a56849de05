use Rattle.std.proofs.Common.{◌+◌, [], ◌∷◌, ◌++◌, length}
use Rattle.onfi_cycle.specs.declared.item.Kind.TheVariants.{Cmd, Adr}
use Rattle.micro_program.specs.Moves.{Give, Take, gives}
use Rattle.seq_core.proofs.Played.{quiet_enhanced, quiet_address, own_last, own_same, own_behind, own_first, play_more, polled}
use Rattle.seq_core.proofs.playing.poll_row.Goals as goal

pub give-requires-clause-quiet : goal.give-requires-clause-quiet
give-requires-clause-quiet g c = quiet_enhanced c.args.lun.ce

pub give-requires-clause-own : goal.give-requires-clause-own
give-requires-clause-own g c =
    (own_same c.args.bus.now c.reserve.new.self c.args.lun (Give Cmd 0x78 ∷ (gives Adr c.args.row ++ (Take ∷ []))) c.in_ok-reserve.ensures.ok.0 c.in_ok-reserve.ensures.ok.1 c.requires.own).0

pub give_all-requires-clause-quiet : goal.give_all-requires-clause-quiet
give_all-requires-clause-quiet g c = quiet_address c.args.lun.ce

pub give_all-requires-clause-own : goal.give_all-requires-clause-own
give_all-requires-clause-own g c =
    let own = own_same c.args.bus.now c.reserve.new.self c.args.lun (Give Cmd 0x78 ∷ (gives Adr c.args.row ++ (Take ∷ []))) c.in_ok-reserve.ensures.ok.0 c.in_ok-reserve.ensures.ok.1 c.requires.own in
    own_first _ c.args.lun (gives Adr c.args.row) (Take ∷ []) _ (own_behind c.reserve.new.self c.give.new.bus c.args.lun (Give Cmd 0x78 ∷ []) (gives Adr c.args.row ++ (Take ∷ [])) [] 1 own c.give.ensures)

pub take-requires-clause-own : goal.take-requires-clause-own
take-requires-clause-own g c =
    own_last c.args.bus.now c.reserve.new.self c.give_all.new.bus c.args.lun (Give Cmd 0x78 ∷ gives Adr c.args.row) (1 + length c.args.row) c.in_ok-reserve.ensures.ok.0 c.in_ok-reserve.ensures.ok.1 c.requires.own
    (play_more c.reserve.new.self c.give.new.bus c.give_all.new.bus c.args.lun.ce (Give Cmd 0x78 ∷ []) (gives Adr c.args.row) [] [] 1 (length c.args.row) c.give.ensures c.give_all.ensures)

pub returns-clause-ok : goal.returns-clause-ok
returns-clause-ok g c =
    polled c.args.bus.now c.reserve.new.self c.give_all.new.bus c.take.new.bus c.args.lun.ce (Give Cmd 0x78 ∷ gives Adr c.args.row) c.take.result (1 + length c.args.row) c.in_ok-reserve.ensures.ok.0 c.in_ok-reserve.ensures.ok.1
    (play_more c.reserve.new.self c.give.new.bus c.give_all.new.bus c.args.lun.ce (Give Cmd 0x78 ∷ []) (gives Adr c.args.row) [] [] 1 (length c.args.row) c.give.ensures c.give_all.ensures) c.take.ensures
