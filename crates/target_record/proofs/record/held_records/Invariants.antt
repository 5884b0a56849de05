use Rattle.std.proofs.Common.{◌≡◌, take, length}
use Rattle.target_record.specs.Record.{pages_of}
use Rattle.target_record.proofs.record.held_records.Given as goal

abbrev pub invariant-loop-place : goal.invariant-loop-place
invariant-loop-place l = record {
  room : length l.records ≡ 4;
  so_far : pages_of (take l.place l.records) ≡ take l.place l.held;
}
