-- What one item more changes: laws for the crates above.
use Rattle.std.specs.Prelude.{◌≡◌, ℕ, ◌<◌, Bool, true, false, ◌||◌, ◌&&◌, List, [], ◌∷◌, Some, None, length, slice_get}
use Rattle.nand_geometry.specs.declared.parts.Parts.{Parts}
use Rattle.onfi_cycle.specs.declared.item.Cycle.{Cycle}
use Rattle.onfi_cycle.specs.declared.item.Kind.TheVariants.{Dout}
use Rattle.onfi_cycle.specs.declared.lun.Lun.{Lun}
use Rattle.onfi_cycle.specs.declared.item.Failures.{Failures}
use Rattle.onfi_cycle.specs.declared.item.Item.{Item}
use Rattle.onfi_cycle.specs.declared.item.Item.TheVariants.{Cyc, Rdy, Ard}
use Rattle.onfi_cycle.specs.Sequence.{target_cycle, tail, facts_of, facts_after}
use Rattle.onfi_cycle.specs.Lun.{effect_on, drivers, is_only, leaves_array_busy, lun_view, luns_of, view_after}
use Rattle.onfi_cycle.specs.Rules.{driver}
use Rattle.onfi_cycle.specs.Permitted.{broken, is_legal}
use Rattle.onfi_cycle.specs.OtherLun.{KeepsLun, is_of}
use Rattle.onfi_cycle.specs.Decides.{readies, readies_array}
use Rattle.onfi_cycle.specs.Channel.{Channel, IsChannel, IsIdle, IsOwn, same_lun, is_there, is_cycle, cycle, is_open_on, is_serving, bus_byte}

-- the facts go on item by item: those of a tail by its cycles, those of a LUN by the effects of permitted items
pub record FactsGoOn : Type 0 where
  pub tail : (past : List Item) (c : Cycle) (ce : ℕ) → c.ce ≡ ce → facts_of (tail (Cyc c ∷ past) ce) ≡ facts_after (target_cycle c.kind c.byte) (facts_of (tail past ce))
  pub lun : (g : Parts) (targets : ℕ) (past : List Item) (i : Item) (l : Lun) → broken g targets past i ≡ None → l.lun < g.luns → lun_view g (i ∷ past) l ≡ view_after (effect_on g past i l) (lun_view g past l)
  pub luns : (g : Parts) (past : List Item) (ce : ℕ) → length (luns_of g past ce) ≡ g.luns
  pub lun_at : (g : Parts) (past : List Item) (l : Lun) → l.lun < g.luns → slice_get (luns_of g past l.ce) l.lun ≡ Some (lun_view g past l)
  pub sole_driver : (g : Parts) (past : List Item) (l : Lun) → is_only (drivers g past l.ce) l.lun ≡ true → driver (luns_of g past l.ce) ≡ Some (lun_view g past l)
  pub legal : (g : Parts) (targets : ℕ) (past : List Item) (i : Item) → is_legal g targets past ≡ true → broken g targets past i ≡ None → is_legal g targets (i ∷ past) ≡ true

-- a ready ends the work of its LUN, and an array ready that of its array; nothing else changes, on no target
pub record ReadiesChange : Type 0 where
  pub tails : (past : List Item) (i : Item) (ce : ℕ) → is_cycle i ≡ false → tail (i ∷ past) ce ≡ tail past ce
  pub own : (g : Parts) (past : List Item) (l : Lun) (fail : Failures) → let v = lun_view g past l in lun_view g (Rdy l.ce l.lun fail ∷ past) l ≡ record v { busy = false; array_busy = v.array_busy || (v.busy && leaves_array_busy v.closer) }
  pub own_array : (g : Parts) (past : List Item) (l : Lun) (fail : Bool) → let v = lun_view g past l in lun_view g (Ard l.ce l.lun fail ∷ past) l ≡ record v { array_busy = false }
  pub others : (g : Parts) (past : List Item) (i : Item) (l : Lun) → is_cycle i ≡ false → readies l i ≡ false → readies_array l i ≡ false → lun_view g (i ∷ past) l ≡ lun_view g past l
  pub idle : (g : Parts) (past : List Item) (i : Item) (l : Lun) → is_cycle i ≡ false → IsIdle g past l → IsIdle g (i ∷ past) l

-- a permitted output whose one driver is a LUN has a byte, and leaves no sequence open
pub record OutputsShow : Type 0 where
  pub has_byte : (s : Channel) → IsChannel s → (past : List Item) (l : Lun) (byte : ℕ) → broken s.geometry s.targets past (cycle l.ce Dout byte) ≡ None → is_only (drivers s.geometry past l.ce) l.lun ≡ true → (b : ℕ) × (bus_byte s past l.ce ≡ Some b)
  pub closes : (past : List Item) (ce byte : ℕ) → is_open_on (cycle ce Dout byte ∷ past) ce ≡ false

-- what a LUN of the channel does, seen by the others
pub record OwnCyclesKeep : Type 0 where
  pub others : (s : Channel) (past : List Item) (c : Cycle) (l m : Lun) → is_legal s.geometry s.targets past ≡ true → IsOwn s l past (Cyc c) → same_lun l m ≡ false → is_there s l ≡ true → is_there s m ≡ true → KeepsLun s.geometry past (Cyc c) m
  pub tails : (s : Channel) (past : List Item) (c : Cycle) (l : Lun) (ce : ℕ) → IsOwn s l past (Cyc c) → (l.ce ≡ ce → ⊥) → tail (Cyc c ∷ past) ce ≡ tail past ce
  pub idle : (g : Parts) (past : List Item) (i : Item) (l m : Lun) → is_of g past l i ≡ true → KeepsLun g past i m → IsIdle g past m → IsIdle g (i ∷ past) m

-- work of a whole target that has several LUNs begins by its own commands alone, which are of none of its LUNs
pub record ServiceBegins : Type 0 where
  pub first : (g : Parts) (ce : ℕ) → is_serving g [] ce ≡ false
  pub readies : (g : Parts) (past : List Item) (i : Item) (ce : ℕ) → is_cycle i ≡ false → is_serving g past ce ≡ false → is_serving g (i ∷ past) ce ≡ false
  pub own : (g : Parts) (past : List Item) (i : Item) (l : Lun) (ce : ℕ) → is_of g past l i ≡ true → is_serving g past ce ≡ false → is_serving g (i ∷ past) ce ≡ false
