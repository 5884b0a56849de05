-- Moves that a scene allows one after the other are own, and lead to the scene behind them.
use Rattle.std.proofs.Common.{◌≡◌, ℕ, true, List, [], ◌∷◌, Some, refl, subst}
use Rattle.nand_geometry.specs.declared.parts.Parts.{Parts}
use Rattle.onfi_cycle.specs.declared.lun.Lun.{Lun}
use Rattle.onfi_cycle.specs.declared.item.Item.{Item}
use Rattle.onfi_cycle.specs.declared.item.Kind.TheVariants.{Dout}
use Rattle.onfi_cycle.specs.declared.target_cycle.TargetCycle.{TargetCycle}
use Rattle.onfi_cycle.specs.declared.target_cycle.TargetCycle.TheVariants.{OutputCycle}
use Rattle.onfi_cycle.specs.Sequence.{target_cycle}
use Rattle.onfi_cycle.specs.Channel.{Channel, is_there}
use Rattle.micro_program.specs.Moves.{Move, Give, Take}
use Rattle.micro_program.specs.Played.{Played, answered}
use Rattle.micro_program.specs.Safe.{MovesAreOwn}
use Rattle.micro_program.proofs.Scenes.{Scene, IsScene, Allowed, scene_behind}
use Rattle.micro_program.proofs.Stepping.{own_cycle, scene_next}
use Rattle.micro_program.proofs.Tracking.{AreTracked, own_moves, after_moves}

abbrev pub cycle_of : Move → TargetCycle
cycle_of (Give kind byte) = target_cycle kind byte
cycle_of Take = OutputCycle

abbrev pub MovesAllowed : Parts → ℕ → List Move → Scene → Type 0
MovesAllowed g lun [] c = Unit {0}
MovesAllowed g lun (move ∷ rest) c = Allowed g lun c (cycle_of move) × MovesAllowed g lun rest (scene_behind g lun (cycle_of move) c)

abbrev pub scene_after : Parts → ℕ → List Move → Scene → Scene
scene_after g lun [] c = c
scene_after g lun (move ∷ rest) c = scene_after g lun rest (scene_behind g lun (cycle_of move) c)

-- the scene now allows the moves, and they lead to this one
record Leading (s : Channel) (l : Lun) (last : Scene) (moved : List Move) (past : List Item) : Type 0 where
  now : Scene
  is : IsScene s l past now
  allowed : MovesAllowed s.geometry l.lun moved now
  leads : scene_after s.geometry l.lun moved now ≡ last

tracked : (s : Channel) (l : Lun) (last : Scene) → is_there s l ≡ true → AreTracked s l (Leading s l last)
tracked s l last there =
    record {
      give = λ kind byte rest past c. (own_cycle s l past c.now there c.is kind byte c.allowed.0, record { now = scene_behind s.geometry l.lun (target_cycle kind byte) c.now; is = scene_next s l past c.now there c.is kind byte c.allowed.0; allowed = c.allowed.1; leads = c.leads });
      take = λ rest past c byte. (own_cycle s l past c.now there c.is Dout byte c.allowed.0, record { now = scene_behind s.geometry l.lun OutputCycle c.now; is = scene_next s l past c.now there c.is Dout byte c.allowed.0; allowed = c.allowed.1; leads = c.leads });
    }

pub moves_own : (s : Channel) (l : Lun) (past : List Item) (c : Scene) (moved : List Move) → is_there s l ≡ true → IsScene s l past c → MovesAllowed s.geometry l.lun moved c → MovesAreOwn s l moved past
moves_own s l past c moved there is a =
    own_moves s l (Leading s l (scene_after s.geometry l.lun moved c)) (tracked s l (scene_after s.geometry l.lun moved c) there) moved past (record { now = c; is = is; allowed = a; leads = refl })

pub moves_lead : (s : Channel) (l : Lun) (past : List Item) (c : Scene) (moved : List Move) (bytes : List ℕ) (p : Played) → is_there s l ≡ true → IsScene s l past c → MovesAllowed s.geometry l.lun moved c → answered l.ce moved bytes past ≡ Some p → IsScene s l p.past (scene_after s.geometry l.lun moved c)
moves_lead s l past c moved bytes p there is a plays =
    let end = after_moves s l (Leading s l (scene_after s.geometry l.lun moved c)) (tracked s l (scene_after s.geometry l.lun moved c) there) moved bytes past p (record { now = c; is = is; allowed = a; leads = refl }) plays in
    subst (λ (x : Scene). IsScene s l p.past x) end.leads end.is
