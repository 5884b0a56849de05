-- Which text is which trace's.
use Rattle.std.specs.Prelude.{◌≡◌, ℕ, List, Ok}
use Rattle.std.specs.List.{All}
use Rattle.nand_geometry.specs.declared.optional.Profile.{Profile}
use Rattle.onfi_cycle.specs.declared.item.Item.{Item}
use Rattle.trace_text.specs.Line.{text, IsPrintable, HasByte, IsKnown}
use Rattle.trace_text.specs.Reading.{reading}

-- the bytes are the text of the items, each of which has a line in the texts of the profile, and a chip enable and a LUN of 3 at most
pub record IsTextOf (p : Profile) (bytes : List ℕ) (items : List Item) : Type 0 where
  pub spelled : bytes ≡ text items
  pub printable : All IsPrintable items
  pub bytes_fit : All HasByte items
  pub known : All (IsKnown p) items

-- A text of items is read as these items, and what is read is the text of its items.
pub record TextsAreItems : Type 0 where
  pub read_back : (p : Profile) (items : List Item) → All IsPrintable items → All HasByte items → All (IsKnown p) items → reading p (text items) ≡ Ok items
  pub text_of_read : (p : Profile) (bytes : List ℕ) (items : List Item) → reading p bytes ≡ Ok items → IsTextOf p bytes items
