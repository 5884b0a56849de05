use Rattle.std.proofs.Common.{◌≡◌, false}
use Rattle.std.specs.Slice.Iter.{chunks_exact_rest, chunks_exact_size}
use Rattle.nand_geometry.specs.Reading.{whole_copies}
use Rattle.nand_geometry.proofs.ReadingLemmas.{scan}
use Rattle.nand_geometry.proofs.geometry.Geometry.read_as.Given as goal

-- the copies that are left are read as all of them
abbrev pub invariant-loop-copy : goal.invariant-loop-copy
invariant-loop-copy l =
    record {
      copies : chunks_exact_size l.copy-iterator ≡ 256;
      same : scan l.profile l.signed (whole_copies (chunks_exact_rest l.copy-iterator)) ≡ scan l.profile false (whole_copies l.bytes);
    }
