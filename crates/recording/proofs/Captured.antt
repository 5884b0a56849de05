-- The items of a capture can be printed.
use Rattle.std.proofs.Common.{◌≡◌, List, [], ◌∷◌, subst, sym}
use Rattle.std.specs.List.{All, AllByRecursion}
use Rattle.std.proofs.lemmas.List.Elements.{All-from_recursion}
use Rattle.onfi_cycle.specs.declared.item.Item.{Item}
use Rattle.bus_capture.specs.declared.inferring.Stamped.{Stamped}
use Rattle.bus_capture.specs.Inside.{AreInside}
use Rattle.trace_text.specs.declared.recorded_item.TimedItem.{TimedItem}
use Rattle.trace_text.specs.Line.{IsPrintable}
use Rattle.recording.specs.Captures.{items_in, timed_in}
use Rattle.recording.proofs.Checked.{none_printable, more_printable, inside_printable}

all_printable : (stamped : List Stamped) → AreInside stamped → All IsPrintable (items_in stamped)
all_printable [] inside = none_printable
all_printable (s ∷ stamped) inside = more_printable s.item (items_in stamped) (inside_printable s.item inside.0) (all_printable stamped inside.1)

pub captured_printable : (stamped : List Stamped) (items : List Item) → AreInside stamped → items ≡ items_in stamped → All IsPrintable items
captured_printable stamped items inside is = subst (All IsPrintable) (sym is) (all_printable stamped inside)

timed_by_recursion : (stamped : List Stamped) → AreInside stamped → AllByRecursion (λ (t : TimedItem). IsPrintable t.item) (timed_in stamped)
timed_by_recursion [] inside = tt
timed_by_recursion (s ∷ stamped) inside = (inside_printable s.item inside.0, timed_by_recursion stamped inside.1)

pub timed_printable : (stamped : List Stamped) (items : List TimedItem) → AreInside stamped → items ≡ timed_in stamped → All (λ t. IsPrintable t.item) items
timed_printable stamped items inside is =
    subst (All (λ (t : TimedItem). IsPrintable t.item)) (sym is) (All-from_recursion (λ (t : TimedItem). IsPrintable t.item) (timed_in stamped) (timed_by_recursion stamped inside))
