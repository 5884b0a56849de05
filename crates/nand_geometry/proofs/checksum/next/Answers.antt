use Rattle.nand_geometry.proofs.ChecksumLemmas.{by_table}
use Rattle.nand_geometry.proofs.checksum.next.Goals as goal

pub returns : goal.returns
returns c = rw c.from.ensures (by_table c.args.register c.args.byte c.ranges.register.fits c.ranges.byte.fits)
