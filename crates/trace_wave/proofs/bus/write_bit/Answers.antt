use Rattle.std.proofs.Common.{◌++◌, take, sym, ap, ◌∙◌}
use Rattle.trace_wave.proofs.Strobes.{no_change, bit_changes}
use Rattle.trace_wave.proofs.bus.write_bit.Goals as goal

pub returns-then-before-after-eq0-clause-value : goal.returns-then-before-after-eq0-clause-value
returns-then-before-after-eq0-clause-value c = no_change (take c.args.place c.args.room.now) c.args.code c.args.before c.args.after c.args.i c.if-before-after-eq0.true

pub returns-clause-value : goal.returns-clause-value
returns-clause-value c =
    c.write_level.ensures.value ∙ ap (λ xs. take c.args.place c.args.room.now ++ xs) (sym (bit_changes c.args.code c.args.before c.args.after c.args.i c.if-before-after-eq0.false))
