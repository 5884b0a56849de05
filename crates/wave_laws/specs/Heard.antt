-- The levels that a reader of the dump of a trace holds, by what it is told.
use Rattle.std.specs.Prelude.{◌≡◌, ℕ, ◌-◌, List, [], ◌∷◌, ◌++◌, length, slice_index, slice_set}
use Rattle.nand_geometry.specs.declared.parts.Parts.{Parts}
use Rattle.onfi_cycle.specs.declared.item.Item.{Item}
use Rattle.bus_lines.specs.Lines.{idle, at_rest}
use Rattle.trace_wave.specs.Levels.{levels}
use Rattle.trace_wave.specs.Wave.{Drawing, begun, after_all, levels_at, lines_struck}
use Rattle.vcd_text.specs.Body.{Event, Time, Change}
use Rattle.wave_laws.specs.Told.{setting_events, strobe_events, events_from, last_events, events_of}

-- a change gives the line of its code another level; the first line has code 33
abbrev pub heard : List ℕ → Event → List ℕ
heard held (Time time) = held
heard held (Change code bits) = slice_set held (code - 33) (slice_index bits 0)

abbrev pub all_heard : List ℕ → List Event → List ℕ
all_heard held [] = held
all_heard held (e ∷ events) = all_heard (heard held e) events

-- what is told up to these items
abbrev pub told_by : Parts → ℕ → List Item → List Event
told_by g targets items = Time 0 ∷ (setting_events 33 (levels g targets [] 0 idle) ++ events_from g targets begun items)

-- how far a dump is after these items
abbrev pub drawn_by : Parts → ℕ → List Item → Drawing
drawn_by g targets items = after_all g targets begun items

-- whatever a reader held at first, its levels are those that were drawn: after these items, where the strobe of the next one is low, and at the end
pub record AreHeard (g : Parts) (targets : ℕ) (items : List Item) (first : List ℕ) : Type 0 where
  pub goes_on : (more : List Item) → events_of g targets (items ++ more) ≡ told_by g targets items ++ (events_from g targets (drawn_by g targets items) more ++ last_events g targets (after_all g targets (drawn_by g targets items) more))
  pub drawn : all_heard first (told_by g targets items) ≡ levels_at g targets (drawn_by g targets items) (drawn_by g targets items).lines
  pub struck : (next : Item) → all_heard first (told_by g targets items ++ strobe_events g targets (drawn_by g targets items) next) ≡ levels_at g targets (drawn_by g targets items) (lines_struck (drawn_by g targets items).lines next)
  pub ended : all_heard first (events_of g targets items) ≡ levels_at g targets (drawn_by g targets items) (at_rest (drawn_by g targets items).lines)

abbrev pub LevelsAreHeard : Type 0
LevelsAreHeard = (g : Parts) (targets : ℕ) (items : List Item) (first : List ℕ) → length first ≡ length (levels g targets [] 0 idle) → AreHeard g targets items first
