use Rattle.std.proofs.Common.{sym, ◌∙◌}
use Rattle.onfi_cycle.specs.declared.item.Item.TheVariants.{Cyc}
use Rattle.target_record.specs.Geometry.{parts_of}
use Rattle.bus_record.proofs.Changed.{is_step}
use Rattle.bus_record.proofs.bus.step_output.Goals as goal

pub returns : goal.returns
returns c = is_step (parts_of c.args.geometry.now) c.requires.limits c.args.targets c.args.kept.now c.apply_output.new.kept (Cyc c.args.cycle) c.apply_output.ensures.numbers c.requires.fits (sym c.judge_output_of.ensures ∙ c.in_default.is)
    c.apply_output.ensures.value c.apply_output.ensures.column
