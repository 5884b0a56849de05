-- The worked runs come to what is said of them.
use Rattle.std.specs.Prelude.{refl}
use Rattle.nand_geometry.specs.Limits.{width}
use Rattle.onfi_cycle.specs.Command.{command}
use Rattle.onfi_cycle.specs.Lun.{effect_among}
use Rattle.onfi_cycle.specs.Rules.{breaks_not_there}
use Rattle.micro_program.specs.Lines.{unrolled}
use Rattle.test_microprograms.specs.Runs.{WorkedRuns}

pub worked : WorkedRuns
unfolding unrolled command width effect_among breaks_not_there
worked =
    record {
      erase_trace = refl;
      erase_replies = refl;
      erase_made = refl;
      erase_taken_away = refl;
      two_luns_trace = refl;
      second_made = refl;
      two_luns_in_turn = refl;
      hands_over = refl;
      array_comes_ready = refl;
      cache_trace = refl;
      refused_change_nothing = refl;
      occupied_refuse = refl;
      fills_its_own = refl;
      kept_beside = refl;
    }
