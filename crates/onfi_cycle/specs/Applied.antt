-- What the parts of an item make of the LUNs of its target.
use Rattle.std.specs.List.{list_any}
use Rattle.std.specs.Prelude.{ℕ, zero, suc, ◌+◌, ◌==◌, Bool, true, false, ◌||◌, ◌&&◌, List, [], ◌∷◌, if◌then◌else◌}
use Rattle.nand_geometry.specs.declared.parts.Parts.{Parts}
use Rattle.onfi_cycle.specs.declared.command.Command.{Command}
use Rattle.onfi_cycle.specs.declared.command.Command.TheVariants.{Read, ReadStatus, ReadStatusEnhanced, ReadId, ReadParameterPage, Reset, ChangeReadColumnConfirm, ReadCacheSequential, ReadCacheEnd, ReadUniqueId, GetFeatures, ResetLun, SynchronousReset}
use Rattle.onfi_cycle.specs.declared.effect.Effect.{Effect}
use Rattle.onfi_cycle.specs.declared.latch.Latch.TheVariants.{Off}
use Rattle.onfi_cycle.specs.declared.tail_facts.TailFacts.{TailFacts}
use Rattle.onfi_cycle.specs.declared.target_cycle.TargetCycle.{TargetCycle}
use Rattle.onfi_cycle.specs.declared.target_cycle.TargetCycle.TheVariants.{CommandCycle, AddressCycle, InputCycle, OutputCycle}
use Rattle.onfi_cycle.specs.LunView.{LunView}
use Rattle.onfi_cycle.specs.Effect.{cycle_effect, is_data, ends_features}
use Rattle.onfi_cycle.specs.Lun.{view_after}
use Rattle.onfi_cycle.specs.Command.{is_page_program}
use Rattle.onfi_cycle.specs.Sequence.{opened, wants_command}

-- what a cycle makes of them, from number n on; sole tells whether one of them is the one driver
abbrev pub luns_after_cycle : Parts → TailFacts → (sole : Bool) → TargetCycle → ℕ → List LunView → List LunView
luns_after_cycle g t sole cycle n [] = []
luns_after_cycle g t sole cycle n (v ∷ vs) =
    view_after (cycle_effect g t (if sole then v.latch else Off) cycle n) v ∷ luns_after_cycle g t sole cycle (n + 1) vs

-- what the cycle does hangs on whether there is one driver
abbrev pub asks_driver : TargetCycle → Bool
asks_driver (CommandCycle ReadCacheSequential) = true
asks_driver (CommandCycle ReadCacheEnd) = true
asks_driver (CommandCycle ChangeReadColumnConfirm) = true
asks_driver OutputCycle = true
asks_driver _ = false

-- an effect on the LUN of this number, the others as they are
abbrev pub one_after : Effect → ℕ → List LunView → List LunView
one_after a k [] = []
one_after a zero (v ∷ vs) = view_after a v ∷ vs
one_after a (suc k) (v ∷ vs) = v ∷ one_after a k vs

-- the command may do something to a LUN without a row that names it
abbrev pub needs_no_row : Command → Bool
needs_no_row Read = true
needs_no_row ReadStatus = true
needs_no_row ReadStatusEnhanced = true
needs_no_row Reset = true
needs_no_row SynchronousReset = true
needs_no_row ReadCacheSequential = true
needs_no_row ReadCacheEnd = true
needs_no_row ChangeReadColumnConfirm = true
needs_no_row _ = false

-- an address behind the opener may do something to a LUN, whichever it is
abbrev pub acts_by_address : Command → Bool
acts_by_address ReadStatusEnhanced = true
acts_by_address ReadId = true
acts_by_address ReadParameterPage = true
acts_by_address ReadUniqueId = true
acts_by_address GetFeatures = true
acts_by_address ResetLun = true
acts_by_address _ = false

-- the cycle may do something to a LUN of its target; where it can't, all stay as they are
abbrev pub may_act : TailFacts → List LunView → TargetCycle → Bool
may_act t luns (CommandCycle c) = needs_no_row c || wants_command t c
may_act t luns (AddressCycle byte) = opened (λ c n. acts_by_address c || (is_page_program c && n == 4)) t.opening
may_act t luns (InputCycle byte) = ends_features t
may_act t luns OutputCycle = list_any (λ v. is_data v.latch) luns
