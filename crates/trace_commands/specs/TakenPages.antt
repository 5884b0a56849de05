-- What the taking of a parameter page comes to.
use Rattle.std.specs.Prelude.{◌≡◌, ℕ, List, Option, Ok}
use Rattle.seq_files.specs.Store.{Store, with_file}
use Rattle.nand_geometry.specs.declared.parts.Parts.{Parts}
use Rattle.nand_geometry.specs.Reading.{read_of}

-- the file at the path is a parameter page that declares a geometry; no other file changes
pub record IsPageTaken (files later : Option Store) (target : List ℕ) : Type 0 where
  pub g : Parts
  pub bytes : List ℕ
  pub declares : read_of bytes ≡ Ok g
  pub written : later ≡ with_file files target bytes
