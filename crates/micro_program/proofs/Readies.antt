-- A ready leaves the last closer and the queue of each LUN.
use Rattle.std.proofs.Common.{◌≡◌, ◌==◌, Bool, true, false, ◌&&◌, cond, List, ◌∷◌, refl}
use Rattle.nand_geometry.specs.declared.parts.Parts.{Parts}
use Rattle.onfi_cycle.specs.declared.lun.Lun.{Lun}
use Rattle.onfi_cycle.specs.declared.item.Item.{Item}
use Rattle.onfi_cycle.specs.declared.item.Item.TheVariants.{Cyc, Rdy, Ard}
use Rattle.onfi_cycle.specs.declared.effect.Effect.{Effect}
use Rattle.onfi_cycle.specs.declared.effect.Effect.TheVariants.{Unaffected, BecameReady, ArrayBecameReady}
use Rattle.onfi_cycle.specs.Lun.{closer, closer_after, queue, queue_after, effect_among}
use Rattle.onfi_cycle.specs.Channel.{is_cycle}

abbrev LeavesBoth : Parts → List Item → Lun → Effect → Type 0
LeavesBoth g past l e = (closer_after e (closer g past l) ≡ closer g past l) × (queue_after e (queue g past l) ≡ queue g past l)

-- a ready leaves closer and queue
pub ready_leaves : (g : Parts) (past : List Item) (i : Item) (l : Lun) → is_cycle i ≡ false → (closer g (i ∷ past) l ≡ closer g past l) × (queue g (i ∷ past) l ≡ queue g past l)
unfolding effect_among
ready_leaves g past (Cyc c) l h = cc
ready_leaves g past (Rdy ce lun fail) l h = at (ce == l.ce && lun == l.lun)
  where
    at : (b : Bool) → LeavesBoth g past l (cond b (BecameReady fail) Unaffected)
    at true = (refl, refl)
    at false = (refl, refl)
ready_leaves g past (Ard ce lun fail) l h = at (ce == l.ce && lun == l.lun)
  where
    at : (b : Bool) → LeavesBoth g past l (cond b (ArrayBecameReady fail) Unaffected)
    at true = (refl, refl)
    at false = (refl, refl)
