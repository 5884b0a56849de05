use Rattle.std.proofs.Common.{sym, ◌∙◌, refl}
use Rattle.onfi_cycle.specs.declared.item.Item.TheVariants.{Ard}
use Rattle.onfi_cycle.proofs.Applied.{target_array_readied}
use Rattle.target_record.specs.Geometry.{parts_of}
use Rattle.target_record.specs.Record.{tail_of, target_of}
use Rattle.bus_record.proofs.Changed.{is_step}
use Rattle.bus_record.proofs.bus.step_array_ready.Goals as goal

pub returns : goal.returns
returns c =
    is_step (parts_of c.args.geometry.now) c.requires.limits c.args.targets c.args.kept.now _ (Ard c.args.ce c.args.lun c.args.fail) (record { count = c.requires.numbers.count; luns = c.end_array_work_of.ensures.numbers }) c.requires.fits
    (sym c.judge_there.ensures ∙ c.in_default.is)
    (target_array_readied (parts_of c.args.geometry.now) c.args.ce c.args.lun c.args.fail (tail_of c.args.kept.now) (target_of c.args.kept.now).luns _ (target_of c.args.kept.now) c.end_array_work_of.ensures.value refl)
    c.requires.fits.tail.column
