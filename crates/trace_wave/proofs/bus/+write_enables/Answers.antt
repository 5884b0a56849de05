use Rattle.std.proofs.Common.{◌+◌, ◌-◌, take}
use Rattle.std.specs.Prelude.{not}
use Rattle.trace_wave.specs.Levels.{bit, enables}
use Rattle.trace_wave.specs.Changes.{change, changes}
use Rattle.trace_wave.proofs.Lists.{joined}
use Rattle.trace_wave.proofs.Counted.{changed_enables_next}
use Rattle.trace_wave.proofs.bus.+write_enables.Goals as goal

pub returns-clause-value : goal.returns-clause-value
returns-clause-value t c =
    joined (take c.args.place c.args.room.now) (take c.write_line-place.result c.write_line-place.new.room) (take c.write_enables.result c.write_enables.new.room)
    (change (33 + c.args.n) (bit (not c.is_at.result)) (bit (not c.is_at-2.result)))
    (changes (33 + (c.args.n + 1)) (enables c.args.before (c.args.count - 1) (c.args.n + 1)) (enables c.args.after (c.args.count - 1) (c.args.n + 1)))
    (changes (33 + c.args.n) (enables c.args.before c.args.count c.args.n) (enables c.args.after c.args.count c.args.n))
    c.write_line-place.ensures.value c.write_enables.ensures.value
    (changed_enables_next c.args.before c.args.after c.args.count c.args.n c.is_at.result c.is_at-2.result c.if-count-eq0.false c.is_at.ensures c.is_at-2.ensures)
