-- What was taken and written so far, and that room is left as it was.
use Rattle.std.proofs.Common.{◌≡◌, ◌<◌, [], length}
use Rattle.seq_files.specs.Converting.{HasGoneOn}
use Rattle.seq_files.proofs.converting.convert_all.Given as goal

abbrev pub invariant-loop : goal.invariant-loop
invariant-loop g l =
    ((0 < length l.room.piece.items) × (l.room.made.items ≡ []))
    × g.C.Convert.is_ready l.converter
    × HasGoneOn (g.R.Read.remaining l.initial.input) (g.R.Read.remaining l.input) (g.W.Write.contents l.initial.output) (g.W.Write.contents l.output)
    (g.C.Convert.makes l.initial.converter) (g.C.Convert.makes l.converter) (g.C.Convert.refuses l.initial.converter) (g.C.Convert.refuses l.converter)
