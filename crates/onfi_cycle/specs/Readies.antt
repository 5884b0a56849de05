-- How many readies are still to come on a channel, and which items bring more: those that start work.
use Rattle.std.specs.Prelude.{◌≡◌, ℕ, ◌+◌, ◌≤◌, Bool, true, false, ◌&&◌, ◌||◌, nat_lt, if◌then◌else◌, List, [], ◌∷◌, Option, Some, None, slice_get}
use Rattle.onfi_cycle.specs.declared.command.Command.{Command}
use Rattle.onfi_cycle.specs.declared.command.Command.TheVariants.{ReadConfirm, BlockEraseConfirm, BlockErasePlane, ProgramConfirm, ProgramPlane, ReadParameterPage, Reset, ReadCacheSequential, ReadCacheEnd, ReadUniqueId, GetFeatures, SetFeatures, ResetLun, SynchronousReset, ReadPlane, CopybackRead, ProgramCache}
use Rattle.onfi_cycle.specs.declared.tail_facts.TailFacts.{TailFacts}
use Rattle.onfi_cycle.specs.declared.target_cycle.TargetCycle.{TargetCycle}
use Rattle.onfi_cycle.specs.declared.target_cycle.TargetCycle.TheVariants.{CommandCycle}
use Rattle.onfi_cycle.specs.declared.item.Failures.{Failures}
use Rattle.onfi_cycle.specs.declared.item.Item.{Item}
use Rattle.onfi_cycle.specs.declared.item.Item.TheVariants.{Cyc, Rdy, Ard}
use Rattle.onfi_cycle.specs.LunView.{LunView}
use Rattle.onfi_cycle.specs.Command.{address_cycles}
use Rattle.onfi_cycle.specs.Sequence.{target_of, target_cycle, opened, takes_features}
use Rattle.onfi_cycle.specs.Lun.{leaves_array_busy}
use Rattle.onfi_cycle.specs.Channel.{is_cycle}
use Rattle.onfi_cycle.specs.State.{TargetView, BusView, judged, bus_after}
use Rattle.onfi_cycle.specs.Bounds.{BusFits}

-- the commands that start work, or whose address or inputs do
abbrev pub starts : Command → Bool
starts ReadConfirm = true
starts ReadPlane = true
starts CopybackRead = true
starts BlockEraseConfirm = true
starts BlockErasePlane = true
starts ProgramConfirm = true
starts ProgramPlane = true
starts ProgramCache = true
starts ReadParameterPage = true
starts Reset = true
starts ReadCacheSequential = true
starts ReadCacheEnd = true
starts ReadUniqueId = true
starts GetFeatures = true
starts SetFeatures = true
starts ResetLun = true
starts SynchronousReset = true
starts _ = false

abbrev pub cycle_starts : TargetCycle → Bool
cycle_starts (CommandCycle c) = starts c
cycle_starts _ = false

-- the item may start work on a LUN, so that a ready of it may come
abbrev pub starts_work : Item → Bool
starts_work (Cyc c) = cycle_starts (target_cycle c.kind c.byte)
starts_work (Rdy ce lun fail) = false
starts_work (Ard ce lun fail) = false

-- the openers whose work an address or an input starts
abbrev pub starts_later : Command → Bool
starts_later ReadParameterPage = true
starts_later ReadUniqueId = true
starts_later GetFeatures = true
starts_later SetFeatures = true
starts_later ResetLun = true
starts_later _ = false

-- the opener's work is started by an address or an input that is still to come
abbrev pub awaits_start : TailFacts → Bool
awaits_start t = opened (λ c n. starts_later c && nat_lt n (address_cycles c)) t.opening || takes_features t.phase

abbrev pub one_if : Bool → ℕ
one_if b = if b then 1 else 0

-- the readies still to come of a LUN: of its work, of its array, of the array once the work of a cache read ends, and of work whose opener
-- has come and whose address or input, which starts it, hasn't
abbrev pub due_at : TailFacts → LunView → ℕ
due_at t v = one_if v.busy + (one_if v.array_busy + (one_if (v.busy && leaves_array_busy v.closer) + one_if (awaits_start t)))

abbrev pub due_of : TailFacts → List LunView → ℕ
due_of t [] = 0
due_of t (v ∷ vs) = due_at t v + due_of t vs

-- of a target
abbrev pub target_due : TargetView → ℕ
target_due s = due_of s.tail s.luns

abbrev pub due_there : Option TargetView → ℕ
due_there None = 0
due_there (Some s) = target_due s

abbrev pub targets_due : List TargetView → ℕ
targets_due [] = 0
targets_due (s ∷ targets) = target_due s + targets_due targets

-- of a channel
abbrev pub bus_due : BusView → ℕ
bus_due state = targets_due state.targets

-- the law: a cycle that starts no work brings no ready, a ready that comes is one of those, and an item changes those of its target alone
pub record ReadiesAreDue : Type 0 where
  pub cycles : (s : BusView) (i : Item) → BusFits s → is_cycle i ≡ true → starts_work i ≡ false → bus_due (bus_after i s) ≤ bus_due s
  pub readies : (s : BusView) (ce lun : ℕ) (fail : Failures) → judged s (Rdy ce lun fail) ≡ None → bus_due (bus_after (Rdy ce lun fail) s) + 1 ≤ bus_due s
  pub array_readies : (s : BusView) (ce lun : ℕ) (fail : Bool) → judged s (Ard ce lun fail) ≡ None → bus_due (bus_after (Ard ce lun fail) s) + 1 ≤ bus_due s
  pub elsewhere : (s : BusView) (i : Item) → bus_due (bus_after i s) + due_there (slice_get s.targets (target_of i)) ≡ bus_due s + due_there (slice_get (bus_after i s).targets (target_of i))
