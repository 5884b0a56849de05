-- A channel with its targets, and what its bus and its LUNs show.
use Rattle.std.specs.Prelude.{◌≡◌, ℕ, ◌==◌, ◌&&◌, Bool, true, false, nat_lt, List, [], ◌∷◌, Option, None, length}
use Rattle.nand_geometry.specs.declared.parts.Parts.{Parts}
use Rattle.nand_geometry.specs.Limits.{InLimits, page_len}
use Rattle.onfi_cycle.specs.declared.lun.Lun.{Lun}
use Rattle.onfi_cycle.specs.declared.page_address.PageAddress.{PageAddress}
use Rattle.onfi_cycle.specs.declared.item.Kind.{Kind}
use Rattle.onfi_cycle.specs.declared.item.Item.{Item}
use Rattle.onfi_cycle.specs.declared.item.Item.TheVariants.{Cyc, Rdy, Ard}
use Rattle.onfi_cycle.specs.Sequence.{tail, facts_of, is_open}
use Rattle.std.specs.List.{list_any}
use Rattle.onfi_cycle.specs.Effect.{is_shared}
use Rattle.onfi_cycle.specs.Lun.{drivers, is_busy, is_caching, is_programming, queue, luns_of}
use Rattle.onfi_cycle.specs.Rules.{works_for_target}
use Rattle.onfi_cycle.specs.Content.{shown}
use Rattle.onfi_cycle.specs.Permitted.{broken}
use Rattle.onfi_cycle.specs.OtherLun.{is_of}

-- a channel: the geometry of its targets, their number, the bytes of a parameter page's register, and what the pages held at the opening
pub record Channel : Type 0 where
  pub geometry : Parts
  pub targets : ℕ
  pub parameters : List ℕ
  pub opening : Lun → PageAddress → List ℕ

-- its numbers are in the limits, and its registers and pages have their lengths
pub record IsChannel (s : Channel) : Type 0 where
  pub limits : InLimits s.geometry
  pub parameters : length s.parameters ≡ 768
  pub pages : (l : Lun) (p : PageAddress) → length (s.opening l p) ≡ page_len s.geometry

abbrev pub same_lun : Lun → Lun → Bool
same_lun l m = l.ce == m.ce && l.lun == m.lun

-- the LUN is there
abbrev pub is_there : Channel → Lun → Bool
is_there s l = nat_lt l.ce s.targets && nat_lt l.lun s.geometry.luns

-- the item is a cycle, and no ready
abbrev pub is_cycle : Item → Bool
is_cycle (Cyc c) = true
is_cycle (Rdy ce lun fail) = false
is_cycle (Ard ce lun fail) = false

-- a cycle on a target
abbrev pub cycle : ℕ → Kind → ℕ → Item
cycle ce kind byte = Cyc (record { ce = ce; kind = kind; byte = byte })

-- a sequence is open on the target
abbrev pub is_open_on : List Item → ℕ → Bool
is_open_on past ce = is_open (facts_of (tail past ce))

-- work of the whole target goes on, which has several LUNs; so only in the wider profile
abbrev pub is_serving : Parts → List Item → ℕ → Bool
is_serving g past ce = is_shared g && list_any works_for_target (luns_of g past ce)

-- the LUN is ready, reads no cache, programs none and has nothing queued, and no work of its whole target goes on
pub record IsIdle (g : Parts) (past : List Item) (l : Lun) : Type 0 where
  pub ready : is_busy g past l ≡ false
  pub no_cache : is_caching g past l ≡ false
  pub no_program : is_programming g past l ≡ false
  pub no_queue : queue g past l ≡ []
  pub free : is_serving g past l.ce ≡ false

-- the item is permitted, and one of this LUN
pub record IsOwn (s : Channel) (l : Lun) (past : List Item) (i : Item) : Type 0 where
  pub permitted : broken s.geometry s.targets past i ≡ None
  pub own : is_of s.geometry past l i ≡ true

abbrev pub byte_of_driver : Channel → List Item → ℕ → List ℕ → Option ℕ
byte_of_driver s past ce (lun ∷ []) = shown s.geometry s.parameters s.opening past (record { ce = ce; lun = lun })
byte_of_driver s past ce _ = None

-- the byte that the target's one driver shows
abbrev pub bus_byte : Channel → List Item → ℕ → Option ℕ
bus_byte s past ce = byte_of_driver s past ce (drivers s.geometry past ce)
