-- At which LUN an item works, and what is true wherever a running state follows its past.
use Rattle.std.specs.Prelude.{◌≡◌, ℕ, ◌<◌, Bool, true, false, ◌||◌, ◌&&◌, List, None}
use Rattle.nand_geometry.specs.declared.parts.Parts.{Parts}
use Rattle.nand_geometry.specs.Limits.{InLimits}
use Rattle.onfi_cycle.specs.declared.effect.Effect.{Effect}
use Rattle.onfi_cycle.specs.declared.effect.Effect.TheVariants.{ReadStarted, EraseStarted, ProgramStarted, IdRead, IdentityRead, UniqueIdReadStarted, FeaturesReadStarted, FeaturesSet, ParameterPageReadStarted, CacheReadContinued, CacheReadEnded, ResetStarted, TargetResetStarted, ReadQueued, PlaneSelected, CopybackReadStarted, CacheProgramStarted}
use Rattle.onfi_cycle.specs.declared.filling.Filling.{Filling}
use Rattle.onfi_cycle.specs.declared.filling.Filling.TheVariants.{Leaves, Clears, Copies, Fills}
use Rattle.onfi_cycle.specs.declared.item.Item.{Item}
use Rattle.onfi_cycle.specs.declared.item.Item.TheVariants.{Cyc, Rdy, Ard}
use Rattle.onfi_cycle.specs.declared.target_cycle.TargetCycle.{TargetCycle}
use Rattle.onfi_cycle.specs.declared.target_cycle.TargetCycle.TheVariants.{CommandCycle, AddressCycle, InputCycle, OutputCycle}
use Rattle.onfi_cycle.specs.declared.lun.Lun.{Lun}
use Rattle.onfi_cycle.specs.Command.{is_reset}
use Rattle.onfi_cycle.specs.Effect.{is_shared}
use Rattle.onfi_cycle.specs.Sequence.{target_cycle, tail, facts_of}
use Rattle.onfi_cycle.specs.Filling.{filling}
use Rattle.onfi_cycle.specs.Lun.{effect_on, lun_view, held}
use Rattle.onfi_cycle.specs.Permitted.{broken}
use Rattle.onfi_cycle.specs.Bounds.{LunFits, RowFits, RowStands, EffectFits}

abbrev pub fills : Filling → Bool
fills Leaves = false
fills (Clears at) = true
fills (Copies at from) = true
fills (Fills at column byte) = true

-- the effect begins work, or puts another page into the register
abbrev pub begins : Effect → Bool
begins (ReadStarted _ _) = true
begins (ReadQueued _) = true
begins (CopybackReadStarted _ _ _) = true
begins (EraseStarted _ _) = true
begins (ProgramStarted _ _) = true
begins (CacheProgramStarted _) = true
begins IdRead = true
begins (IdentityRead _) = true
begins UniqueIdReadStarted = true
begins (FeaturesReadStarted _) = true
begins (FeaturesSet _) = true
begins ParameterPageReadStarted = true
begins (CacheReadContinued _) = true
begins CacheReadEnded = true
begins (PlaneSelected _ _ _) = true
begins ResetStarted = true
begins (TargetResetStarted _) = true
begins _ = false

-- the item begins work on the LUN, or changes a page register of it
abbrev pub works_on : Parts → List Item → Item → Lun → Bool
works_on g past i l = fills (filling g (facts_of (tail past l.ce)) i l (held g past l)) || begins (effect_on g past i l)

abbrev pub is_reset_cycle : TargetCycle → Bool
is_reset_cycle (CommandCycle c) = is_reset c
is_reset_cycle (AddressCycle byte) = false
is_reset_cycle (InputCycle byte) = false
is_reset_cycle OutputCycle = false

-- the item resets all LUNs of a target that has several
abbrev pub resets_several : Parts → Item → Bool
resets_several g (Cyc c) = is_shared g && is_reset_cycle (target_cycle c.kind c.byte)
resets_several g (Rdy ce lun fail) = false
resets_several g (Ard ce lun fail) = false

-- a LUN of a channel with so many targets
pub record IsLun (g : Parts) (targets : ℕ) (l : Lun) : Type 0 where
  pub target : l.ce < targets
  pub lun : l.lun < g.luns

-- the facts of each LUN fit, a permitted item comes where its effect can, and works on one LUN at most, but where it resets several
pub record FactsFit (g : Parts) (targets : ℕ) (past : List Item) : Type 0 where
  pub limits : InLimits g
  pub lun : (l : Lun) → IsLun g targets l → LunFits g (lun_view g past l)
  pub row : (l : Lun) → IsLun g targets l → RowFits g (facts_of (tail past l.ce)) l.lun (lun_view g past l)
  pub stands : (l : Lun) → IsLun g targets l → RowStands g (facts_of (tail past l.ce)) l.lun (lun_view g past l)
  pub effect : (i : Item) (l : Lun) → IsLun g targets l → broken g targets past i ≡ None → EffectFits g (lun_view g past l) (effect_on g past i l)
  pub one : (i : Item) (l m : Lun) → resets_several g i ≡ false → IsLun g targets l → IsLun g targets m → broken g targets past i ≡ None → works_on g past i l ≡ true → works_on g past i m ≡ true → l ≡ m
