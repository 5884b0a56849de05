use Rattle.std.proofs.Common.{refl, ap, ◌∙◌}
use Rattle.onfi_cycle.specs.declared.lun.Lun.{Lun}
use Rattle.seq_live.specs.Burst.{bursts_at}
use Rattle.seq_live.proofs.Bursts.{moved_by}
use Rattle.seq_live.proofs.playing.move_on.Goals as goal

pub returns : goal.returns
returns g c =
    moved_by c.args.geometry.now c.args.state.now c.apply_all.new.state c.args.slot.now.job.lun c.lun.result c.args.slot.now.job.buffer c.buffer.result.now c.args.slot.now.registers c.args.slot.now.registers c.args.word c.args.bursts.now c.args.bursts.now c.requires.can c.requires.range c.lun.ensures c.buffer.ensures.value refl (ap (λ (l : Lun). bursts_at c.args.geometry.now l c.args.slot.now.registers c.args.word) c.lun.ensures ∙ c.requires.bursts) refl c.apply_all.ensures
