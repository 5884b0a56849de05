use Rattle.bus_record.proofs.Pushed.{fits_each}
use Rattle.onfiseq_c.proofs.status.onfiseq_push_status.Goals as goal

pub readies-items-requires : goal.readies-items-requires
readies-items-requires c = fits_each c.args.bus.now (c.is_sound_bus.ensures.sound c.if-not-is_sound_bus.false) c.args.item.now.ce
