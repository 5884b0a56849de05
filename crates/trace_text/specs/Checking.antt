-- What a check tells of a trace that isn't legal.
use Rattle.std.specs.Prelude.{◌≡◌, ℕ, List, [], ◌∷◌}
use Rattle.nand_geometry.specs.declared.parts.Parts.{Parts}
use Rattle.onfi_cycle.specs.declared.item.Item.{Item}
use Rattle.onfi_cycle.specs.declared.item.Kind.{Kind}
use Rattle.onfi_cycle.specs.Channel.{cycle}
use Rattle.onfi_cycle.specs.Permitted.{IsFirstBroken}
use Rattle.trace_text.specs.declared.checking.CheckRefusal.{CheckRefusal}
use Rattle.trace_text.specs.declared.checking.CheckRefusal.TheVariants.{At, OutOfMemory}

-- the refusal names the first item that isn't permitted and the rule that it breaks; it is never want of memory
abbrev pub TellsFirst : Parts → ℕ → List Item → CheckRefusal → Type 0
TellsFirst g targets items (At place rule) = IsFirstBroken g targets items place rule
TellsFirst g targets items OutOfMemory = ⊥

-- the item is a cycle of this kind on this target
abbrev pub IsCycleOf : Kind → ℕ → Item → Type 0
IsCycleOf kind ce i = (byte : ℕ) × (i ≡ cycle ce kind byte)

-- each of them is
abbrev pub AreCyclesOf : Kind → ℕ → List Item → Type 0
AreCyclesOf kind ce [] = Unit {0}
AreCyclesOf kind ce (i ∷ items) = IsCycleOf kind ce i × AreCyclesOf kind ce items
