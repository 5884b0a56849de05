use Rattle.std.proofs.Common.{sym, ◌∙◌}
use Rattle.onfi_cycle.specs.declared.item.Item.TheVariants.{Cyc}
use Rattle.target_record.specs.Geometry.{parts_of}
use Rattle.bus_record.proofs.Changed.{is_step}
use Rattle.bus_record.proofs.bus.step_named.Goals as goal

pub returns : goal.returns
returns c = is_step (parts_of c.args.geometry.now) c.requires.limits c.args.targets c.args.kept.now c.apply_command.new.kept (Cyc c.args.cycle) c.apply_command.ensures.numbers c.requires.fits (sym c.judge_command_of.ensures ∙ c.in_default.is)
    c.apply_command.ensures.value c.apply_command.ensures.column
