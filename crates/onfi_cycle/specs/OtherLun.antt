-- What the work of one LUN leaves of the other LUNs.
use Rattle.std.specs.Prelude.{◌≡◌, ◌≢◌, ◌⊎◌, ℕ, ◌<◌, ◌==◌, Bool, true, false, ◌&&◌, not, nat_lt, if◌then◌else◌, List, ◌∷◌, None}
use Rattle.nand_geometry.specs.declared.parts.Parts.{Parts}
use Rattle.onfi_cycle.specs.declared.command.Command.{Command}
use Rattle.onfi_cycle.specs.declared.command.Command.TheVariants.{ReadCacheSequential, ReadCacheEnd, ChangeReadColumnConfirm}
use Rattle.onfi_cycle.specs.declared.lun.Lun.{Lun}
use Rattle.onfi_cycle.specs.declared.item.Item.{Item}
use Rattle.onfi_cycle.specs.declared.item.Item.TheVariants.{Cyc, Rdy, Ard}
use Rattle.onfi_cycle.specs.declared.target_cycle.TargetCycle.{TargetCycle}
use Rattle.onfi_cycle.specs.declared.target_cycle.TargetCycle.TheVariants.{CommandCycle, AddressCycle, InputCycle, OutputCycle}
use Rattle.onfi_cycle.specs.declared.page_address.PageAddress.{PageAddress}
use Rattle.onfi_cycle.specs.declared.read_column.ReadColumn.{ReadColumn}
use Rattle.onfi_cycle.specs.Command.{reads_identity, is_of_target}
use Rattle.onfi_cycle.specs.Sequence.{target_of, target_cycle, tail, facts_of, opened, takes_features, works_on_row, row, row_with}
use Rattle.onfi_cycle.specs.Effect.{is_shared, names_lun}
use Rattle.onfi_cycle.specs.Lun.{latch, drivers, is_only, is_busy, closer, is_array_busy, array_page, register, read_column, queue, held}
use Rattle.onfi_cycle.specs.Rules.{ends_row}
use Rattle.onfi_cycle.specs.Permitted.{broken, is_legal}
use Rattle.onfi_cycle.specs.Content.{queued_work, pending_work, array_work, has_failed, has_failed_before, content}

-- the commands that work on the one driver, where they work on no row
abbrev pub needs_driver : Command → Bool
needs_driver ChangeReadColumnConfirm = true
needs_driver ReadCacheSequential = true
needs_driver ReadCacheEnd = true
needs_driver _ = false

-- a cycle's row, if it completes one or works on it, and its driver, if it needs one, are this LUN's
abbrev pub keeps_to_lun : Parts → List Item → Lun → TargetCycle → Bool
keeps_to_lun g past m (CommandCycle c) =
    if works_on_row (facts_of (tail past m.ce)) c then names_lun g (row (facts_of (tail past m.ce))) m.lun
    else (if needs_driver c then is_only (drivers g past m.ce) m.lun else true)
keeps_to_lun g past m (AddressCycle byte) =
    if ends_row (λ c. true) (facts_of (tail past m.ce)) then names_lun g (row_with (facts_of (tail past m.ce)) byte) m.lun else true
keeps_to_lun g past m (InputCycle byte) = true
keeps_to_lun g past m OutputCycle = is_only (drivers g past m.ce) m.lun

-- a cycle is of a command that is of a whole target
abbrev pub serves_target : List Item → ℕ → TargetCycle → Bool
serves_target past ce (CommandCycle c) = is_of_target c
serves_target past ce (AddressCycle byte) = opened (λ c n. reads_identity c) (facts_of (tail past ce)).opening
serves_target past ce (InputCycle byte) = takes_features (facts_of (tail past ce)).phase
serves_target past ce OutputCycle = false

-- a cycle is one of this LUN of its target; none is that is of the whole target, where that has several LUNs
abbrev pub keeps_to : Parts → List Item → Lun → TargetCycle → Bool
keeps_to g past m cycle = not (is_shared g && serves_target past m.ce cycle) && keeps_to_lun g past m cycle

-- the item is one of this LUN
abbrev pub is_of : Parts → List Item → Lun → Item → Bool
is_of g past m (Cyc c) = c.ce == m.ce && keeps_to g past m (target_cycle c.kind c.byte)
is_of g past m (Rdy ce lun fail) = ce == m.ce && lun == m.lun
is_of g past m (Ard ce lun fail) = ce == m.ce && lun == m.lun

-- the column is as it was; or data was read since it was given, and it is now lost
abbrev pub IsSameOrLost : ReadColumn → ReadColumn → Type 0
IsSameOrLost old new = (new ≡ old) ⊎ ((new ≡ record old { lost = true }) × (nat_lt 0 old.outputs ≡ true))

-- the item changes of this LUN its tail, its latch and its column alone, and the column only to lost
pub record KeepsLun (g : Parts) (past : List Item) (i : Item) (l : Lun) : Type 0 where
  pub busy : is_busy g (i ∷ past) l ≡ is_busy g past l
  pub closer : closer g (i ∷ past) l ≡ closer g past l
  pub array_busy : is_array_busy g (i ∷ past) l ≡ is_array_busy g past l
  pub array_page : array_page g (i ∷ past) l ≡ array_page g past l
  pub register : register g (i ∷ past) l ≡ register g past l
  pub queue : queue g (i ∷ past) l ≡ queue g past l
  pub held : held g (i ∷ past) l ≡ held g past l
  pub queued_work : (opening : Lun → PageAddress → List ℕ) → queued_work g opening (i ∷ past) l ≡ queued_work g opening past l
  pub pending_work : (opening : Lun → PageAddress → List ℕ) → pending_work g opening (i ∷ past) l ≡ pending_work g opening past l
  pub array_work : (opening : Lun → PageAddress → List ℕ) → array_work g opening (i ∷ past) l ≡ array_work g opening past l
  pub failed : has_failed g (i ∷ past) l ≡ has_failed g past l
  pub failed_before : has_failed_before g (i ∷ past) l ≡ has_failed_before g past l
  pub content : (opening : Lun → PageAddress → List ℕ) (p : PageAddress) → content g opening (i ∷ past) l p ≡ content g opening past l p
  pub column : IsSameOrLost (read_column g past l) (read_column g (i ∷ past) l)

-- an item of another LUN of the same target, permitted after a legal past, keeps this LUN
abbrev pub OthersKeep : Type 0
OthersKeep =
    (g : Parts) (targets : ℕ) (past : List Item) (i : Item) (l m : Lun) → is_legal g targets past ≡ true → broken g targets past i ≡ None → is_of g past m i ≡ true → l.ce ≡ m.ce → l.lun ≢ m.lun → l.lun < g.luns → m.lun < g.luns → KeepsLun g past i l

-- an item of another target changes nothing of this one
pub record KeepsTarget (g : Parts) (past : List Item) (i : Item) (ce : ℕ) : Type 0 where
  pub tail : tail (i ∷ past) ce ≡ tail past ce
  pub latch : (lun : ℕ) → latch g (i ∷ past) (record { ce = ce; lun = lun }) ≡ latch g past (record { ce = ce; lun = lun })
  pub column : (lun : ℕ) → read_column g (i ∷ past) (record { ce = ce; lun = lun }) ≡ read_column g past (record { ce = ce; lun = lun })
  pub luns : (lun : ℕ) → KeepsLun g past i (record { ce = ce; lun = lun })

abbrev pub TargetsKeep : Type 0
TargetsKeep =
    (g : Parts) (past : List Item) (i : Item) (ce : ℕ) → target_of i ≢ ce → KeepsTarget g past i ce
