use Rattle.std.proofs.Common.{ℕ, List, take, ap, ◌∙◌}
use Rattle.target_record.specs.Geometry.{parts_of}
use Rattle.target_record.specs.Record.{luns_of, tail_of, target_of}
use Rattle.target_record.specs.declared.record.OnfiseqLun.{OnfiseqLun}
use Rattle.bus_record.proofs.Changed.{are_little, after_output}
use Rattle.bus_record.proofs.target_change.apply_output.Goals as goal

pub give_first-requires-clause-small : goal.give_first-requires-clause-small
give_first-requires-clause-small c = are_little (parts_of c.args.geometry.now) (tail_of c.args.kept.now) 0 (take c.args.kept.now.count c.args.kept.now.luns) c.requires.fits.luns

pub returns-clause-value : goal.returns-clause-value
returns-clause-value c =
    after_output (parts_of c.args.geometry.now) c.args.targets c.args.cycle (target_of c.args.kept.now) (target_of c.note_output.new.kept) c.requires.output c.requires.permitted c.note_output.ensures.tail
    (ap (λ (n : ℕ). luns_of (take n c.note_output.new.kept.luns)) c.note_output.ensures.count
    ∙ (ap (λ (ls : List OnfiseqLun). luns_of (take c.args.kept.now.count ls)) c.note_output.ensures.luns
    ∙ c.give_first.ensures.value (parts_of c.args.geometry.now) (tail_of c.args.kept.now) 0))
