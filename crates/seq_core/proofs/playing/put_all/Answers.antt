use Rattle.target_bus.specs.Bus.{channel_of}
use Rattle.seq_core.proofs.DataRuns.{inputs_never_refused, put_plays}
use Rattle.seq_core.proofs.playing.put_all.Goals as goal

pub unreachable-requires : goal.unreachable-requires
unreachable-requires g c =
    inputs_never_refused (channel_of c.args.bus.now) c.args.lun c.args.bytes.now c.args.bus.now.past c.in-Err.field-0 c.requires.own c.in-Err.ensures.err.0 (c.in-Err.ensures.memory c.requires.room)

pub returns : goal.returns
returns g c = put_plays c.args.bus.now c.put_all.new.self c.args.lun.ce c.args.bytes.now c.in-Ok.ensures.ok.1
