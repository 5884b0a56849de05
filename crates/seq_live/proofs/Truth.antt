-- Readies make truth: after the ready that a status shows its LUN isn't busy.
use Rattle.std.proofs.Common.{◌≡◌, ℕ, Bool, true, false, cond, List, [], ◌∷◌, Option, Some, None, refl, sym, ap, ◌∙◌, subst, length}
use Rattle.nand_geometry.specs.declared.parts.Parts.{Parts}
use Rattle.onfi_cycle.specs.declared.item.Failures.{Failures}
use Rattle.onfi_cycle.specs.declared.lun.Lun.{Lun}
use Rattle.onfi_cycle.specs.declared.lun_state.LunState.{LunState}
use Rattle.onfi_cycle.specs.declared.item.Item.{Item}
use Rattle.onfi_cycle.specs.declared.item.Item.TheVariants.{Rdy, Ard}
use Rattle.onfi_cycle.specs.LunView.{LunView}
use Rattle.onfi_cycle.specs.Lun.{is_busy, lun_view}
use Rattle.onfi_cycle.specs.Look.{looked, look_at, look_after}
use Rattle.onfi_cycle.specs.Permitted.{is_permitted}
use Rattle.onfi_cycle.specs.Channel.{is_there}
use Rattle.onfi_cycle.specs.State.{BusView, Follows}
use Rattle.onfi_cycle.proofs.Following.{looked_is_look, count_of}
use Rattle.target_bus.specs.Bus.{channel_on}
use Rattle.seq_core.proofs.Below.{readies_leave}
use Rattle.seq_core.proofs.Alone.{busy_is_permitted, ready_at}
use Rattle.seq_live.specs.Kept.{LiveView, IsLive}
use Rattle.seq_live.specs.Calls.{IsReadyNow}
use Rattle.seq_live.proofs.Lives.{WentOnIf}

abbrev shown_busy : Option LunState → Bool
shown_busy None = false
shown_busy (Some lun) = lun.busy

-- whether a LUN is busy is told by the state
busy_by : (g : Parts) (n : ℕ) (s : BusView) (past : List Item) (l : Lun) → Follows g n s past → is_there (channel_on g n []) l ≡ true → is_busy g past l ≡ shown_busy (looked s l)
busy_by g n s past l f there =
    let look : look_after g n past l ≡ Some (look_at (lun_view g past l)) = rw there refl in
    sym (ap shown_busy (looked_is_look g n s past l f ∙ look))

-- where it isn't busy after one past that a state follows, it isn't after any
pub ready_by : (g : Parts) (n : ℕ) (s : BusView) (past : List Item) (l : Lun) → Follows g n s past → (is_there (channel_on g n []) l ≡ true → is_busy g past l ≡ false) → IsReadyNow s l
ready_by g n s past l f ready h m other k there =
    let geometry : h ≡ g = sym k.geometry ∙ f.geometry in
    let count : m ≡ n = sym (count_of h m s other k) ∙ count_of g n s past f in
    let there_too : is_there (channel_on g n []) l ≡ true = subst (λ (x : ℕ). is_there (channel_on g x []) l ≡ true) count (subst (λ (x : Parts). is_there (channel_on x m []) l ≡ true) geometry there) in
    busy_by h m s other l k there ∙ (sym (busy_by g n s past l f there_too) ∙ ready there_too)

-- after a ready, whether it came or not
pub ready_truth : (v : LiveView) (s : BusView) (l : Lun) (fail : Failures) (came : Bool) → IsLive v → WentOnIf v.state s (Rdy l.ce l.lun fail) came → IsReadyNow s l
ready_truth v s l fail came k h = at came (h v.state.geometry (length v.state.targets) k.world.past k.is_at.follows)
  where
    g : Parts
    g = v.state.geometry

    n : ℕ
    n = length v.state.targets

    past : List Item
    past = k.world.past

    clash : (b : Bool) → b ≡ true → false ≡ b → ⊥
    clash b x y = cc

    not_busy : (b : Bool) → is_busy g past l ≡ b → false ≡ is_permitted g n past (Rdy l.ce l.lun fail) → is_there (channel_on g n []) l ≡ true → is_busy g past l ≡ false
    not_busy false e p there = e
    not_busy true e p there = absurd (clash (is_permitted g n past (Rdy l.ce l.lun fail)) (busy_is_permitted (channel_on g n []) past l fail there e) p)

    at : (b : Bool) → (b ≡ is_permitted g n past (Rdy l.ce l.lun fail)) × Follows g n s (cond b (Rdy l.ce l.lun fail ∷ past) past) → IsReadyNow s l
    at true f = ready_by g n s (Rdy l.ce l.lun fail ∷ past) l f.1 (λ there. ready_at g past l fail)
    at false f = ready_by g n s past l f.1 (not_busy (is_busy g past l) refl f.0)

-- a ready of its array leaves it ready
pub array_truth : (v : LiveView) (s : BusView) (l : Lun) (fail came : Bool) → IsLive v → WentOnIf v.state s (Ard l.ce l.lun fail) came → IsReadyNow v.state l → IsReadyNow s l
array_truth v s l fail came k h ready = at came (h v.state.geometry (length v.state.targets) k.world.past k.is_at.follows)
  where
    g : Parts
    g = v.state.geometry

    n : ℕ
    n = length v.state.targets

    past : List Item
    past = k.world.past

    at : (b : Bool) → (b ≡ is_permitted g n past (Ard l.ce l.lun fail)) × Follows g n s (cond b (Ard l.ce l.lun fail ∷ past) past) → IsReadyNow s l
    at true f = ready_by g n s (Ard l.ce l.lun fail ∷ past) l f.1 (λ there. ap (λ (x : LunView). x.busy) (readies_leave.own_array g past l fail) ∙ ready g n past k.is_at.follows there)
    at false f = ready_by g n s past l f.1 (λ there. ready g n past k.is_at.follows there)
