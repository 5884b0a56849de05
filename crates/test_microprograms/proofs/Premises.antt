-- The worked erase is verified, and its run goes well by the headline.
use Rattle.std.proofs.Common.{[], refl, arith}
use Rattle.micro_program.proofs.Unsafe.{is_channel}
use Rattle.micro_walk.proofs.Erase.{erase_is_safe}
use Rattle.seq_core.specs.Event.{IsVerified}
use Rattle.seq_core.proofs.Main.{headline}
use Rattle.test_microprograms.specs.Runs.{one_lun, on, job, erase, erase_events}
use Rattle.test_microprograms.specs.Premises.{PremisesAreMet}

is_verified : IsVerified (job one_lun 0 4 erase [])
is_verified =
    record {
      made = record { rows = omega arith; buffer = refl; cache = λ h. cc };
      safe = erase_is_safe erase one_lun refl (omega arith) (omega arith);
    }

pub met : PremisesAreMet
met = record { verified = is_verified; goes_well = headline (on one_lun) erase_events is_channel (is_verified, (tt, (tt, (tt, (tt, (tt, (tt, (tt, (tt, (tt, tt)))))))))) }
