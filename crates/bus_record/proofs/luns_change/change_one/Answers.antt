use Rattle.std.proofs.Common.{refl, arith}
use Rattle.bus_record.proofs.Changed.{one_written, none_written, one_little, one_room}
use Rattle.bus_record.proofs.luns_change.change_one.Goals as goal

pub change-requires-clause-outputs : goal.change-requires-clause-outputs
change-requires-clause-outputs c = (one_little c.args.luns.now c.args.number _ (omega arith) c.requires.small).0

pub change-requires-clause-array_page : goal.change-requires-clause-array_page
change-requires-clause-array_page c = (one_little c.args.luns.now c.args.number _ (omega arith) c.requires.small).1

pub change-requires-clause-room : goal.change-requires-clause-room
change-requires-clause-room c = (one_room c.args.effect c.args.luns.now c.args.number c.args.number _ refl (omega arith) c.requires.room).0

pub returns-then-place-luns-clause-value : goal.returns-then-place-luns-clause-value
returns-then-place-luns-clause-value c = one_written c.args.effect c.args.luns.now c.args.number c.args.number _ _ refl c.change.ensures.value

pub returns-else-place-luns-clause-value : goal.returns-else-place-luns-clause-value
returns-else-place-luns-clause-value c = none_written c.args.effect c.args.luns.now c.args.number c.args.number refl (omega arith)
