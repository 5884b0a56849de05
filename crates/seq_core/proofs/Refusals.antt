-- An event that was refused changes nothing.
use Rattle.std.proofs.Common.{◌≡◌, ℕ, Bool, true, false, cond, Option, Some, None, refl, subst}
use Rattle.onfi_cycle.specs.declared.lun.Lun.{Lun}
use Rattle.onfi_cycle.specs.declared.item.Item.{Item}
use Rattle.onfi_cycle.specs.declared.item.Item.TheVariants.{Rdy, Ard}
use Rattle.onfi_cycle.specs.Permitted.{is_permitted}
use Rattle.onfi_cycle.specs.Channel.{Channel}
use Rattle.micro_program.specs.Program.{Job}
use Rattle.micro_program.specs.Moves.{and_then}
use Rattle.micro_program.specs.Step.{Outcome, Ended as HasEnded, HandedOver as HasHandedOver, NotReady as WasNotReady, Went as HasGone, Stride, next_step}
use Rattle.seq_core.specs.declared.load_fault.LoadFault.{LoadFault}
use Rattle.seq_core.specs.declared.stepped.Stepped.TheVariants.{Held}
use Rattle.seq_core.specs.World.{Slot, World, slot_of}
use Rattle.seq_core.specs.Event.{Load, Step, Ready, ArrayReady, Unload}
use Rattle.seq_core.specs.Reply.{ToStep, ToReady, ToArrayReady, answer_of}
use Rattle.seq_core.specs.After.{After, load_fault, after_load, is_held, stands, after_stride, after_slot_step, after_step, after_item, after_slot_unload, after_unload}
use Rattle.seq_core.specs.Headline.{is_refusal, RefusalsChangeNothing}

-- of what an event leaves
abbrev Stays : World → After → Type 0
Stays w a = is_refusal a.reply ≡ true → a.world ≡ w

from_some : (w : World) (b a : After) → Some b ≡ Some a → Stays w b → Stays w a
from_some w b a e h = let same : b ≡ a = cc in subst (λ (x : After). Stays w x) same h

load_stays : (s : Channel) (w : World) (l : Lun) (j : Job) (fault : Option LoadFault) → Stays w (after_load s w l j fault)
load_stays s w l j (Some fault) h = refl
load_stays s w l j None h = cc

item_stays : (w : World) (i : Item) (b : Bool) → Stays w (after_item w i ToReady b) × Stays w (after_item w i ToArrayReady b)
item_stays w i true = (λ h. cc, λ h. cc)
item_stays w i false = (λ h. refl, λ h. refl)

slot_unload_stays : (s : Channel) (w : World) (l : Lun) (x : Slot) (code : Option ℕ) → Stays w (after_slot_unload s w l x code)
slot_unload_stays s w l x None h = refl
slot_unload_stays s w l x (Some code) h = cc

unload_stays : (s : Channel) (w : World) (l : Lun) (slot : Option Slot) → Stays w (after_unload s w l slot)
unload_stays s w l None h = refl
unload_stays s w l (Some x) h = slot_unload_stays s w l x x.code h

went_on : (outcome : Outcome) → is_refusal (ToStep (answer_of outcome)) ≡ true → ⊥
went_on HasEnded h = cc
went_on HasHandedOver h = cc
went_on WasNotReady h = cc
went_on HasGone h = cc

stride_stays : (s : Channel) (w : World) (l : Lun) (j : Job) (o : Option Stride) (a : After) → and_then o (λ r. Some (after_stride s w l j r)) ≡ Some a → Stays w a
stride_stays s w l j None a e = cc
stride_stays s w l j (Some r) a e = from_some w (after_stride s w l j r) a e (λ h. absurd (went_on r.outcome h))

slot_step_stays : (s : Channel) (w : World) (l : Lun) (x : Slot) (code : Option ℕ) (a : After) → after_slot_step s w l x code ≡ Some a → Stays w a
slot_step_stays s w l x (Some code) a e = from_some w _ a e (λ h. refl)
slot_step_stays s w l x None a e = at (is_held w.holder l) e
  where
    at : (b : Bool) → cond b (stands w Held) (and_then (next_step s x.job w.past x.ahead x.done) (λ r. Some (after_stride s w l x.job r))) ≡ Some a → Stays w a
    at true e = from_some w _ a e (λ h. refl)
    at false e = stride_stays s w l x.job (next_step s x.job w.past x.ahead x.done) a e

step_stays : (s : Channel) (w : World) (l : Lun) (slot : Option Slot) (a : After) → after_step s w l slot ≡ Some a → Stays w a
step_stays s w l None a e = from_some w _ a e (λ h. refl)
step_stays s w l (Some x) a e = slot_step_stays s w l x x.code a e

pub refusals_change_nothing : RefusalsChangeNothing
refusals_change_nothing s w (Load l j) a e = from_some w _ a e (load_stays s w l j (load_fault s w l j))
refusals_change_nothing s w (Step l) a e = step_stays s w l (slot_of s w l) a e
refusals_change_nothing s w (Ready l fail) a e =
    from_some w _ a e (item_stays w (Rdy l.ce l.lun fail) (is_permitted s.geometry s.targets w.past (Rdy l.ce l.lun fail))).0
refusals_change_nothing s w (ArrayReady l fail) a e =
    from_some w _ a e (item_stays w (Ard l.ce l.lun fail) (is_permitted s.geometry s.targets w.past (Ard l.ce l.lun fail))).1
refusals_change_nothing s w (Unload l) a e = from_some w _ a e (unload_stays s w l (slot_of s w l))
