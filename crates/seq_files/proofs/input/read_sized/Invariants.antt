-- What was read so far is what the input gave.
use Rattle.std.specs.Io.KnownBytes.{Consumes}
use Rattle.seq_files.proofs.input.read_sized.Given as goal

abbrev pub invariant-loop : goal.invariant-loop
invariant-loop g l = Consumes (g.R.Read.remaining l.initial.input) (g.R.Read.remaining l.input) l.bytes.items
