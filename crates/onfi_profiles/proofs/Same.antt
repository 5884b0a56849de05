-- On a target with one LUN what happened to a LUN doesn't hang on what the chip has beside the base profile.
use Rattle.std.proofs.Common.{◌≡◌, ℕ, zero, suc, ◌+◌, ◌==◌, false, cond, List, [], ◌∷◌, Option, Some, None, refl, ap, ◌∙◌}
use Rattle.nand_geometry.specs.declared.parts.Parts.{Parts}
use Rattle.onfi_cycle.specs.declared.command.Command.{Command}
use Rattle.onfi_cycle.specs.declared.command.Command.TheVariants.{Read, ReadConfirm, ReadPlane, CopybackRead, ReadStatus, ReadStatusEnhanced, Reset, SynchronousReset, ReadCacheSequential, ReadCacheEnd, ChangeReadColumnConfirm, BlockEraseConfirm, BlockErasePlane, ProgramConfirm, ProgramPlane, ReadId, ReadParameterPage, ReadUniqueId, GetFeatures, ResetLun, ProgramCache}
use Rattle.onfi_cycle.specs.declared.effect.Effect.{Effect}
use Rattle.onfi_cycle.specs.declared.effect.Effect.TheVariants.{Unaffected}
use Rattle.onfi_cycle.specs.declared.item.Item.{Item}
use Rattle.onfi_cycle.specs.declared.item.Item.TheVariants.{Cyc, Rdy, Ard}
use Rattle.onfi_cycle.specs.declared.latch.Latch.{Latch}
use Rattle.onfi_cycle.specs.declared.lun.Lun.{Lun}
use Rattle.onfi_cycle.specs.declared.opening.Opening.{Opening}
use Rattle.onfi_cycle.specs.declared.tail_facts.TailFacts.{TailFacts}
use Rattle.onfi_cycle.specs.declared.target_cycle.TargetCycle.{TargetCycle}
use Rattle.onfi_cycle.specs.declared.target_cycle.TargetCycle.TheVariants.{CommandCycle, AddressCycle, InputCycle, OutputCycle}
use Rattle.onfi_cycle.specs.Sequence.{tail, facts_of, target_cycle}
use Rattle.onfi_cycle.specs.Effect.{is_shared, command_effect, address_effect, opening_address_effect, cycle_effect, item_effect, effect_given}
use Rattle.onfi_cycle.specs.Lun.{alone, latch, latch_alone, effect_on, effect_among, lun_view, shown_after, view_after, views_from, luns_of}
use Rattle.onfi_profiles.specs.Widening.{in_base}

-- 1. what an item does

command_same : (g : Parts) → is_shared g ≡ false → (t : TailFacts) (la : Latch) (c : Command) (lun : ℕ) → command_effect (in_base g) t la c lun ≡ command_effect g t la c lun
command_same g narrow t la Read lun = refl
command_same g narrow t la ReadStatus lun = rw narrow refl
command_same g narrow t la ReadStatusEnhanced lun = refl
command_same g narrow t la Reset lun = rw narrow refl
command_same g narrow t la SynchronousReset lun = rw narrow refl
command_same g narrow t la ReadCacheSequential lun = rw narrow refl
command_same g narrow t la ReadCacheEnd lun = refl
command_same g narrow t la ChangeReadColumnConfirm lun = refl
command_same g narrow t la ReadConfirm lun = rw narrow refl
command_same g narrow t la ReadPlane lun = rw narrow refl
command_same g narrow t la CopybackRead lun = rw narrow refl
command_same g narrow t la ProgramCache lun = rw narrow refl
command_same g narrow t la BlockEraseConfirm lun = rw narrow refl
command_same g narrow t la BlockErasePlane lun = rw narrow refl
command_same g narrow t la ProgramConfirm lun = rw narrow refl
command_same g narrow t la ProgramPlane lun = rw narrow refl
command_same g narrow t la c lun = refl

address_same : (g : Parts) → is_shared g ≡ false → (t : TailFacts) (byte : ℕ) (c : Command) (n lun : ℕ) → address_effect (in_base g) t byte c n lun ≡ address_effect g t byte c n lun
address_same g narrow t byte ReadStatusEnhanced n lun = refl
address_same g narrow t byte ReadId n lun = rw narrow refl
address_same g narrow t byte ReadParameterPage n lun = rw narrow refl
address_same g narrow t byte ReadUniqueId n lun = rw narrow refl
address_same g narrow t byte GetFeatures n lun = rw narrow refl
address_same g narrow t byte ResetLun n lun = rw narrow refl
address_same g narrow t byte c n lun = refl

opening_same : (g : Parts) → is_shared g ≡ false → (t : TailFacts) (byte : ℕ) (o : Option Opening) (lun : ℕ) → opening_address_effect (in_base g) t byte o lun ≡ opening_address_effect g t byte o lun
opening_same g narrow t byte None lun = refl
opening_same g narrow t byte (Some o) lun = address_same g narrow t byte o.opener o.addresses lun

cycle_same : (g : Parts) → is_shared g ≡ false → (t : TailFacts) (la : Latch) (k : TargetCycle) (lun : ℕ) → cycle_effect (in_base g) t la k lun ≡ cycle_effect g t la k lun
cycle_same g narrow t la (CommandCycle c) lun = command_same g narrow t la c lun
cycle_same g narrow t la (AddressCycle byte) lun = opening_same g narrow t byte t.opening lun
cycle_same g narrow t la (InputCycle byte) lun = rw narrow refl
cycle_same g narrow t la OutputCycle lun = refl

item_same : (g : Parts) → is_shared g ≡ false → (t : TailFacts) (la : Latch) (i : Item) (l : Lun) → item_effect (in_base g) t la i l ≡ item_effect g t la i l
item_same g narrow t la (Cyc c) l = ap (λ (e : Effect). cond (c.ce == l.ce) e Unaffected) (cycle_same g narrow t la (target_cycle c.kind c.byte) l.lun)
item_same g narrow t la (Rdy ce lun fail) l = refl
item_same g narrow t la (Ard ce lun fail) l = refl

-- 2. what the rules see of a LUN

effect_by : (g : Parts) → is_shared g ≡ false → (past : List Item) (i : Item) (l : Lun) → ((m : Lun) → lun_view (in_base g) past m ≡ lun_view g past m) → effect_on (in_base g) past i l ≡ effect_on g past i l
unfolding effect_among
effect_by g narrow past i l same =
    (λ k. item_effect (in_base g) (facts_of (tail past l.ce)) (alone g.luns (λ m. (same (record { ce = l.ce; lun = m }) k).latch) l.lun) i l)
    ∙ item_same g narrow (facts_of (tail past l.ce)) (latch_alone g past l) i l

-- the effect that goes by what the LUN shows itself
effect_by_own : (g : Parts) → is_shared g ≡ false → (past : List Item) (i : Item) (l : Lun) → latch (in_base g) past l ≡ latch g past l → effect_given (in_base g) past (latch (in_base g) past l) i l ≡ effect_given g past (latch g past l) i l
effect_by_own g narrow past i l same =
    (λ k. item_effect (in_base g) (facts_of (tail past l.ce)) (same k) i l) ∙ item_same g narrow (facts_of (tail past l.ce)) (latch g past l) i l

pub view_same : (g : Parts) → is_shared g ≡ false → (past : List Item) (l : Lun) → lun_view (in_base g) past l ≡ lun_view g past l
view_same g narrow [] l = refl
view_same g narrow (i ∷ past) l =
    λ k. record (view_after (effect_by g narrow past i l (view_same g narrow past) k) (view_same g narrow past l k)) {
      latch = shown_after (effect_by_own g narrow past i l (λ j. (view_same g narrow past l j).latch) k) (view_same g narrow past l k);
    }

pub effect_same : (g : Parts) → is_shared g ≡ false → (past : List Item) (i : Item) (l : Lun) → effect_on (in_base g) past i l ≡ effect_on g past i l
effect_same g narrow past i l = effect_by g narrow past i l (view_same g narrow past)

views_same : (g : Parts) → is_shared g ≡ false → (past : List Item) (ce count n : ℕ) → views_from (in_base g) past ce count n ≡ views_from g past ce count n
views_same g narrow past ce zero n = refl
views_same g narrow past ce (suc count) n = λ k. view_same g narrow past (record { ce = ce; lun = n }) k ∷ views_same g narrow past ce count (n + 1) k

pub luns_same : (g : Parts) → is_shared g ≡ false → (past : List Item) (ce : ℕ) → luns_of (in_base g) past ce ≡ luns_of g past ce
luns_same g narrow past ce = views_same g narrow past ce g.luns 0
