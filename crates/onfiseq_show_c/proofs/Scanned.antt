-- One more of the numbers that the caller gives.
use Rattle.std.proofs.Common.{◌≡◌, ℕ, Bool, ◌+◌, List, [], ◌∷◌, Some, None, length, refl}
use Rattle.onfi_cycle.specs.declared.item.Item.{Item}
use Rattle.bus_record.specs.Item.{item_of}
use Rattle.bus_record.specs.declared.item.OnfiseqItem.{OnfiseqItem}
use Rattle.onfiseq_show_c.specs.Shown.{no_item}
use Rattle.onfiseq_show_c.specs.declared.failure.Failure.TheVariants as F

pub ends : (w : Bool) (items : List OnfiseqItem) (at : ℕ) → length items ≡ 0 → no_item w items at ≡ None
unfolding no_item
ends w [] at e = refl
ends w (x ∷ xs) at e = cc

pub is_none : (w : Bool) (all : List OnfiseqItem) (i : OnfiseqItem) (items : List OnfiseqItem) (at : ℕ) → all ≡ i ∷ items → item_of w i ≡ None → no_item w all at ≡ Some (F.Item at)
unfolding no_item
is_none w all i items at e none = rw (e, none) refl

pub goes_on : (w : Bool) (all : List OnfiseqItem) (i : OnfiseqItem) (items : List OnfiseqItem) (at : ℕ) (item : Item)
    → all ≡ i ∷ items → item_of w i ≡ Some item → no_item w all at ≡ no_item w items (at + 1)
unfolding no_item
goes_on w all i items at item e some = rw (e, some) refl
