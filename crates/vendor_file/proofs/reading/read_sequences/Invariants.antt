use Rattle.std.proofs.Common.{◌≡◌, ◌+◌, ◌≤◌, [], length}
use Rattle.micro_asm.specs.Reading.{lines}
use Rattle.vendor_file.specs.Lines.{read_from}
use Rattle.vendor_file.proofs.reading.read_sequences.Given as goal

abbrev pub invariant-lines : goal.invariant-lines
invariant-lines g l = record {
  room : l.number + length l.rest ≤ length l.text + 1;
  same : read_from l.profile l.number l.steps.items (lines l.rest) ≡ read_from l.profile 1 [] (lines l.text);
}

abbrev pub decreases-lines : goal.decreases-lines
decreases-lines g l = length l.rest
