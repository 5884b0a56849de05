-- The premises of the headline can be met: the worked erase is verified, so its run goes well.
use Rattle.std.specs.Prelude.{[]}
use Rattle.seq_core.specs.Event.{IsVerified}
use Rattle.seq_core.specs.Headline.{GoesWell}
use Rattle.test_microprograms.specs.Runs.{one_lun, on, job, erase, erase_events}

pub record PremisesAreMet : Type 0 where
  pub verified : IsVerified (job one_lun 0 4 erase [])
  pub goes_well : GoesWell (on one_lun) erase_events
