-- What is written of an item that isn't permitted.
use Rattle.std.specs.Prelude.{◌≡◌, ℕ, List, length, if◌then◌else◌}
use Rattle.nand_geometry.specs.Optional.{is_wide}
use Rattle.bus_record.specs.declared.bus.OnfiseqBus.{OnfiseqBus}
use Rattle.bus_record.specs.declared.item.OnfiseqItem.{OnfiseqItem}
use Rattle.bus_record.specs.Bus.{bus_view, is_bus_at, pushed}
use Rattle.bus_record.specs.Item.{item_of}
use Rattle.placed_bytes.specs.Placed.{cut_in}

-- what onfiseq_ask answers: the record is damaged, or 0 or the code of the item
abbrev pub asked : OnfiseqBus → OnfiseqItem → ℕ
asked bus item = if is_bus_at item.ce bus then pushed (bus_view bus) (item_of (is_wide (bus_view bus).geometry.optional) item) else 0x4400

-- so many bytes of words were to be written into a text, which has as many of them as fit, with a 0 behind them, and else stays
pub data IsWritten (count : ℕ) (old new : List ℕ) : Type 0 where
  Words : (words : List ℕ) → length words ≡ count → new ≡ cut_in words old → IsWritten count old new
