-- Small facts of tests.
use Rattle.std.proofs.Common.{◌≡◌, ◌<◌, true, ltb, ltb-true}
use Rattle.std.proofs.lemmas.Bool.{and_parts}
use Rattle.onfi_cycle.specs.declared.lun.Lun.{Lun}
use Rattle.onfi_cycle.specs.Channel.{Channel, is_there}

-- the number of a LUN that is there
pub there_lun : (s : Channel) (l : Lun) → is_there s l ≡ true → l.lun < s.geometry.luns
there_lun s l h = ltb-true l.lun s.geometry.luns (and_parts (ltb l.ce s.targets) (ltb l.lun s.geometry.luns) h).1
