use Rattle.std.proofs.Common.{◌≡◌, take, length}
use Rattle.std.specs.List.{All}
use Rattle.target_record.specs.Record.{luns_of, IsRecord}
use Rattle.target_record.proofs.record.lun_records.Given as goal

abbrev pub invariant-loop-place : goal.invariant-loop-place
invariant-loop-place l = record {
  numbers : All IsRecord l.records;
  room : length l.records ≡ 4;
  so_far : luns_of (take l.place l.records) ≡ take l.place l.luns;
}
