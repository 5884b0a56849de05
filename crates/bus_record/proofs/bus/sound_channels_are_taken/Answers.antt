use Rattle.bus_record.proofs.Sound.{sound_are_taken}
use Rattle.bus_record.proofs.bus.sound_channels_are_taken.Goals as goal

pub returns : goal.returns
returns c = sound_are_taken
