-- What the commands about parameter pages come to.
use Rattle.std.specs.Prelude.{◌≡◌, ℕ, List, Option, Ok, Some, None}
use Rattle.seq_files.specs.Store.{Store, with_file}
use Rattle.nand_geometry.specs.declared.parts.Parts.{Parts}
use Rattle.nand_geometry.specs.Limits.{fault_of}
use Rattle.nand_geometry.specs.declared.optional.Profile.{Profile}
use Rattle.nand_geometry.specs.Optional.{as_read}
use Rattle.nand_geometry.specs.Reading.{read_as}
use Rattle.seq_inputs.specs.declared.fault.Fault.{Fault}
use Rattle.seq_inputs.specs.declared.fault.Fault.TheVariants.{Page}

-- the numbers have no fault, and the file at the path is a page that is read as a chip with these numbers, with what each profile keeps of
-- its set; no other file changes
pub record IsPageMade (files later : Option Store) (parts : Parts) (target : List ℕ) : Type 0 where
  pub faultless : fault_of parts ≡ None
  pub bytes : List ℕ
  pub read_back : (profile : Profile) → read_as profile bytes ≡ Ok (as_read profile parts)
  pub written : later ≡ with_file files target bytes

-- the first fault of the numbers
abbrev pub PartsAreRefused : Parts → Fault → Type 0
PartsAreRefused parts (Page fault) = fault_of parts ≡ Some fault
PartsAreRefused parts _ = ⊥
