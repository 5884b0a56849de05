-- What a running channel keeps of its past: the facts that the rules see, and nothing else.
use Rattle.std.specs.Prelude.{◌≡◌, ℕ, zero, suc, ◌+◌, Bool, true, List, [], ◌∷◌, Option, Some, None, length, slice_get, if◌then◌else◌}
use Rattle.nand_geometry.specs.declared.parts.Parts.{Parts}
use Rattle.onfi_cycle.specs.declared.item.Item.{Item}
use Rattle.onfi_cycle.specs.declared.item.Item.TheVariants.{Cyc, Rdy, Ard}
use Rattle.onfi_cycle.specs.declared.latch.Latch.TheVariants.{Off}
use Rattle.onfi_cycle.specs.declared.effect.Effect.{Effect}
use Rattle.onfi_cycle.specs.declared.tail_facts.TailFacts.{TailFacts}
use Rattle.onfi_cycle.specs.declared.forbidden.Forbidden.{Forbidden}
use Rattle.onfi_cycle.specs.declared.forbidden.Forbidden.TheVariants.{NotThere}
use Rattle.onfi_cycle.specs.LunView.{LunView}
use Rattle.onfi_cycle.specs.Sequence.{target_of, target_cycle, tail, facts_of, facts_after}
use Rattle.onfi_cycle.specs.Effect.{item_effect}
use Rattle.onfi_cycle.specs.Lun.{luns_of, view_after}
use Rattle.onfi_cycle.specs.Rules.{driver, is_some_and}
use Rattle.onfi_cycle.specs.Permitted.{judge, is_legal}

-- what is kept of a target: the facts of its tail, and of each of its LUNs
pub record TargetView : Type 0 where
  pub tail : TailFacts
  pub luns : List LunView

-- what is kept of a channel
pub record BusView : Type 0 where
  pub geometry : Parts
  pub targets : List TargetView

-- the facts of a target after a past
abbrev pub target_view : Parts → List Item → ℕ → TargetView
target_view g past ce = record { tail = facts_of (tail past ce); luns = luns_of g past ce }

-- those of so many targets, from number n on
abbrev pub targets_from : Parts → List Item → (count n : ℕ) → List TargetView
targets_from g past zero n = []
targets_from g past (suc count) n = target_view g past n ∷ targets_from g past count (n + 1)

-- the past is legal on a channel of this geometry with so many targets, and the state has exactly the facts of it
pub record Follows (g : Parts) (targets : ℕ) (state : BusView) (past : List Item) : Type 0 where
  pub legal : is_legal g targets past ≡ true
  pub geometry : state.geometry ≡ g
  pub facts : state.targets ≡ targets_from g past targets 0

-- the rule that an item breaks, by the state; F1 where its target isn't there
abbrev pub judged_on : Parts → ℕ → Option TargetView → Item → Option Forbidden
judged_on g targets None i = Some NotThere
judged_on g targets (Some s) i = judge g targets s.tail s.luns i

abbrev pub judged : BusView → Item → Option Forbidden
judged state i = judged_on state.geometry (length state.targets) (slice_get state.targets (target_of i)) i

-- what an item makes of a tail, on its target
abbrev pub tail_after : Item → TailFacts → TailFacts
tail_after (Cyc c) t = facts_after (target_cycle c.kind c.byte) t
tail_after (Rdy _ _ _) t = t
tail_after (Ard _ _ _) t = t

-- what an item does to the LUN of number n of its target; sole tells whether its target has one driver
abbrev pub effect_alone : Parts → TailFacts → (sole : Bool) → Item → ℕ → LunView → Effect
effect_alone g t sole i n v = item_effect g t (if sole then v.latch else Off) i (record { ce = target_of i; lun = n })

-- what it makes of the LUNs of its target, from number n on
abbrev pub luns_after : Parts → TailFacts → (sole : Bool) → Item → ℕ → List LunView → List LunView
luns_after g t sole i n [] = []
luns_after g t sole i n (v ∷ vs) =
    view_after (effect_alone g t sole i n v) v ∷ luns_after g t sole i (n + 1) vs

-- one of the LUNs is the one driver
abbrev pub has_driver : List LunView → Bool
has_driver luns = is_some_and (λ v. true) (driver luns)

abbrev pub target_after : Parts → Item → TargetView → TargetView
target_after g i s = record { tail = tail_after i s.tail; luns = luns_after g s.tail (has_driver s.luns) i 0 s.luns }

-- the target of this number changed, the others as they are
abbrev pub changed_at : (TargetView → TargetView) → ℕ → List TargetView → List TargetView
changed_at change k [] = []
changed_at change zero (s ∷ targets) = change s ∷ targets
changed_at change (suc k) (s ∷ targets) = s ∷ changed_at change k targets

-- what an item makes of a channel: its target changes, and no other
abbrev pub bus_after : Item → BusView → BusView
bus_after i state = record { geometry = state.geometry; targets = changed_at (target_after state.geometry i) (target_of i) state.targets }

-- a channel of this geometry with these targets
abbrev pub bus : Parts → List TargetView → BusView
bus g targets = record { geometry = g; targets = targets }

-- a target with this tail and these LUNs
abbrev pub target : TailFacts → List LunView → TargetView
target tail luns = record { tail = tail; luns = luns }

-- a target without the sequence that it is in: its tail is empty, and its LUNs are as they are
abbrev pub without_sequence : TargetView → TargetView
without_sequence s = target (facts_of []) s.luns

-- the target of this number without the sequence that it is in, the others as they are
abbrev pub bus_without : ℕ → BusView → BusView
bus_without ce state = bus state.geometry (changed_at without_sequence ce state.targets)
