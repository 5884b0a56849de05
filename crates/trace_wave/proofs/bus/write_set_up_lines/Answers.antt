use Rattle.std.proofs.Common.{◌+◌, ◌++◌, take, ap, ◌∙◌}
use Rattle.std.specs.Prelude.{Bool}
use Rattle.trace_wave.specs.Levels.{bit}
use Rattle.trace_wave.specs.Changes.{change}
use Rattle.trace_wave.proofs.Strobes.{set_up_drawn}
use Rattle.trace_wave.proofs.bus.write_set_up_lines.Goals as goal

pub returns-clause-value : goal.returns-clause-value
returns-clause-value c =
    let a1 = take c.write_enables_if_changed-place.result c.write_enables_if_changed-place.new.room in
    let a2 = take c.write_line-place.result c.write_line-place.new.room in
    set_up_drawn (take c.args.place c.args.room.now) a1 a2 (take c.write_line-place-2.result c.write_line-place-2.new.room) (take c.write_host_dq.result c.write_host_dq.new.room)
    c.args.targets c.args.lines c.args.cycle c.write_enables_if_changed-place.ensures.value
    (c.write_line-place.ensures.value ∙ ap (λ (b : Bool). a1 ++ change (33 + c.args.targets) (bit c.args.lines.cle) (bit b)) c.is_cmd.ensures)
    (c.write_line-place-2.ensures.value ∙ ap (λ (b : Bool). a2 ++ change (34 + c.args.targets) (bit c.args.lines.ale) (bit b)) c.is_adr.ensures)
    c.write_host_dq.ensures.value
