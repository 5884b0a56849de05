use Rattle.std.proofs.Common.{◌≡◌, List, ℕ, Option, Some, None, Err}
use Rattle.nand_geometry.specs.declared.optional.Profile.{Profile}
use Rattle.nand_geometry.specs.declared.optional.Profile.TheVariants.{Base}
use Rattle.nand_geometry.specs.declared.page_fault.PageFault.{PageFault}
use Rattle.nand_geometry.specs.Reading.{declared_as, or_fault, page_fault, read_as, read_of, used}
use Rattle.seq_inputs.proofs.reading.read_page.Goals as goal

-- what a profile reads beside the numbers of the base profile has no fault of its own
same_fault : (profile : Profile) (bytes : List ℕ) (fault : PageFault) → read_as profile bytes ≡ Err fault → read_of bytes ≡ Err fault
same_fault profile bytes fault h = at (page_fault bytes) h
  where
    at : (o : Option PageFault) → or_fault (declared_as profile (used bytes)) o ≡ Err fault → or_fault (declared_as Base (used bytes)) o ≡ Err fault
    at None e = cc
    at (Some x) e = e

pub returns-in-Err : goal.returns-in-Err
returns-in-Err c = same_fault c.args.profile c.args.bytes.now c.in-Err.fault c.in-Err.ensures
