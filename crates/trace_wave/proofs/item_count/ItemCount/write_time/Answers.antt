use Rattle.std.proofs.Common.{◌++◌, take, ap, ◌∙◌, sym}
use Rattle.trace_wave.proofs.Lists.{joined}
use Rattle.trace_wave.proofs.Digits.{time_told}
use Rattle.trace_wave.proofs.item_count.ItemCount.write_time.Goals as goal

pub returns-clause-value : goal.returns-clause-value
returns-clause-value c =
    joined (take c.args.place c.args.room.now) (take c.write_text-place.result c.write_text-place.new.room) (take c.write_pair.result c.write_pair.new.room) _ _ _
    (c.write_text-place.ensures.value ∙ ap (λ xs. take c.args.place c.args.room.now ++ xs) c.self.invariant.3)
    c.write_pair.ensures.value (rw (sym c.self.view_is) (time_told c.self.inside.number c.args.offset c.requires.digit c.self.invariant.0))
