use Rattle.std.proofs.Common.{◌+◌, take, arith}
use Rattle.std.specs.Prelude.{Some}
use Rattle.trace_wave.proofs.Lists.{dq_drawn}
use Rattle.trace_wave.proofs.bus.write_dq_lines.Goals as goal

pub returns-clause-value : goal.returns-clause-value
returns-clause-value c =
    dq_drawn (take c.args.place c.args.room.now) (take c.write_dq_line-place.result c.write_dq_line-place.new.room) (take c.write_dq_line-place-2.result c.write_dq_line-place-2.new.room)
    (take c.write_dq_line-place-3.result c.write_dq_line-place-3.new.room) (take c.write_dq_line-place-4.result c.write_dq_line-place-4.new.room) (take c.write_dq_line-place-5.result c.write_dq_line-place-5.new.room)
    (take c.write_dq_line-place-6.result c.write_dq_line-place-6.new.room) (take c.write_dq_line-place-7.result c.write_dq_line-place-7.new.room) (take c.write_dq_line.result c.write_dq_line.new.room)
    c.args.code (c.args.code + 1) (c.args.code + 2) (c.args.code + 3) (c.args.code + 4) (c.args.code + 5) (c.args.code + 6) (c.args.code + 7) c.args.before (Some c.args.after)
    (omega arith) (omega arith) (omega arith) (omega arith) (omega arith) (omega arith) (omega arith)
    c.write_dq_line-place.ensures.value c.write_dq_line-place-2.ensures.value c.write_dq_line-place-3.ensures.value c.write_dq_line-place-4.ensures.value
    c.write_dq_line-place-5.ensures.value c.write_dq_line-place-6.ensures.value c.write_dq_line-place-7.ensures.value c.write_dq_line.ensures.value
