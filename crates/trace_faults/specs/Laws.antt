-- What holds of the faults of a trace.
use Rattle.std.specs.Prelude.{◌≡◌, ◌↔◌, ℕ, true, false, List, [], ◌∷◌, Some, None, reverse}
use Rattle.nand_geometry.specs.declared.parts.Parts.{Parts}
use Rattle.onfi_cycle.specs.declared.item.Item.{Item}
use Rattle.onfi_cycle.specs.declared.forbidden.Forbidden.{Forbidden}
use Rattle.onfi_cycle.specs.Permitted.{is_legal, IsFirstBroken}
use Rattle.trace_faults.specs.declared.broken_rule.BrokenRule.{BrokenRule}
use Rattle.trace_faults.specs.declared.readies.Readies.TheVariants.{Written, Shown}
use Rattle.trace_faults.specs.declared.readies.Readies.{Readies}
use Rattle.onfi_cycle.specs.Sequence.{target_of}
use Rattle.trace_faults.specs.declared.trace_state.TraceState.{TraceState}
use Rattle.trace_faults.specs.Recovery.{judged_here, gone_on}
use Rattle.trace_faults.specs.declared.unshown.UnshownReady.{UnshownReady}
use Rattle.trace_faults.specs.declared.unshown.NotShown.{NotShown}
use Rattle.trace_faults.specs.ShownReadies.{with_readies}
use Rattle.trace_faults.specs.Unshown.{unshown, needs_each, ready_for}
use Rattle.trace_faults.specs.Faults.{faults_of, not_shown_at, completed, with_each}
use Rattle.trace_faults.specs.Middle.{verdicts_of, all_broken, all_granted, count_passed_over}

-- a trace has no fault exactly when it is legal
abbrev pub FaultlessAreLegal : Type 0
FaultlessAreLegal = (g : Parts) (targets : ℕ) (items : List Item) → (faults_of Written g targets items ≡ []) ↔ (is_legal g targets (reverse items) ≡ true)

-- an item that is the first that isn't permitted after those before it is its first fault, with the first rule that this breaks
abbrev pub FirstBrokenIsFirst : Type 0
FirstBrokenIsFirst =
    (g : Parts) (targets : ℕ) (items : List Item) (place : ℕ) (rule : Forbidden) →
    IsFirstBroken g targets items place rule → (faults : List BrokenRule) × (faults_of Written g targets items ≡ record { item = place; rule = rule } ∷ faults)

-- and there is no other first fault
abbrev pub FirstIsFirstBroken : Type 0
FirstIsFirstBroken =
    (g : Parts) (targets : ℕ) (items : List Item) (fault : BrokenRule) (faults : List BrokenRule) →
    faults_of Written g targets items ≡ fault ∷ faults → IsFirstBroken g targets items fault.item fault.rule

-- with the readies that are shown, and those that are taken for granted, it has no fault exactly when it is legal, completed by them
abbrev pub CompletedAreJudged : Type 0
CompletedAreJudged = (g : Parts) (targets : ℕ) (items : List Item) → (faults_of Shown g targets items ≡ []) ↔ (is_legal g targets (reverse (completed g targets items)) ≡ true)

-- a LUN of the item's target, whose ready is permitted: it is there, and works
pub record WorksThere (state : TraceState) (i : Item) (ready : UnshownReady) : Type 0 where
  pub target : ready.lun.ce ≡ target_of i
  pub works : judged_here state (ready_for ready) ≡ None

-- a LUN that is taken for ready before an item is of its target, and works
abbrev pub TakenAtWork : Type 0
TakenAtWork = (state : TraceState) (i : Item) (later : List Item) (ready : UnshownReady) → unshown state i later ≡ Some ready → WorksThere state i ready

-- of the item of this number is told that a ready wasn't shown: that of one LUN of its target, which works after what was shown; after it, and after those of
-- the further LUNs that the item needs, the item is permitted
pub record IsNotShown (state : TraceState) (n : ℕ) (i : Item) (later : List Item) (told : NotShown) : Type 0 where
  pub number : told.item ≡ n
  pub target : told.ready.lun.ce ≡ target_of i
  pub works : judged_here (with_readies state i) (ready_for told.ready) ≡ None
  pub permitted : judged_here (with_each (gone_on (ready_for told.ready) (with_readies state i)) i later) i ≡ None
  pub alone : needs_each state.bus.geometry i ≡ false → judged_here (gone_on (ready_for told.ready) (with_readies state i)) i ≡ None

-- an item that is told as not shown ready is permitted after the ready of a LUN that works, of its own target, and of further ones where it needs each; and
-- that is all that is told of it
abbrev pub NotShownArePermitted : Type 0
NotShownArePermitted =
    (state : TraceState) (n : ℕ) (i : Item) (later : List Item) (told : NotShown) (more : List NotShown) →
    not_shown_at Shown state n i later ≡ told ∷ more → (more ≡ []) × IsNotShown state n i later told

-- a trace of which nothing is passed over or taken for granted has the same faults, wherever its recording began
abbrev pub WholeAreJudgedWhole : Type 0
WholeAreJudgedWhole =
    (readies : Readies) (g : Parts) (targets : ℕ) (items : List Item) →
    count_passed_over (verdicts_of readies g targets items) ≡ 0 → all_granted 0 (verdicts_of readies g targets items) ≡ [] →
    all_broken 0 (verdicts_of readies g targets items) ≡ faults_of readies g targets items
