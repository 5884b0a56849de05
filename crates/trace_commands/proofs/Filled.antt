-- The image of a die whose pages are filled.
use Rattle.std.proofs.Common.{◌≡◌, ℕ, List, ◌++◌, Result, Ok, Err, IfOk, ap, sym, ◌∙◌}
use Rattle.nand_geometry.specs.declared.parts.Parts.{Parts}
use Rattle.target_bus.specs.Bus.{Entries}
use Rattle.die_model.specs.Die.{Die}
use Rattle.die_model.specs.Image.{header, count_of, entries_of}
use Rattle.trace_data.specs.Reads.{PageBytes, AreFilled}
use Rattle.trace_commands.specs.Images.{IsImage}

is_image : (g : Parts) (die : Die) (reads : List PageBytes) (pages : Entries) (image : List ℕ) → die.geometry ≡ g → AreFilled reads die.pages pages → image ≡ header g (count_of g pages) ++ entries_of g pages → IsImage die reads image
is_image g die reads pages image same filled is = record { pages = pages; filled = filled; image_is = is ∙ ap (λ (h : Parts). header h (count_of h pages) ++ entries_of h pages) (sym same) }

pub are_images : {V E : Type 0} (items : V → List ℕ) (r : Result V E) (g : Parts) (die : Die) (reads : List PageBytes) (pages : Entries) → die.geometry ≡ g → AreFilled reads die.pages pages → IfOk r (λ v. items v ≡ header g (count_of g pages) ++ entries_of g pages) → IfOk r (λ v. IsImage die reads (items v))
are_images items (Ok v) g die reads pages same filled is = is_image g die reads pages (items v) same filled is
are_images items (Err e) g die reads pages same filled is = tt
