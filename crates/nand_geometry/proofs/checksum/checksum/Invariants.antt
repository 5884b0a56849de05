use Rattle.std.proofs.Common.{◌≡◌, drop}
use Rattle.nand_geometry.specs.Page.{crc, crc_from}
use Rattle.nand_geometry.proofs.checksum.checksum.Given as goal

-- what is left of the bytes leads from the register to the checksum of all
abbrev pub invariant-loop-byte : goal.invariant-loop-byte
invariant-loop-byte l = crc_from (drop l.byte-index l.bytes) l.register ≡ crc l.bytes
