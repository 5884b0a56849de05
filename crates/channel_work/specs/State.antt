-- What lies under the lock of a channel, with its seats, its park and its workers' passes.
use Rattle.std.specs.Prelude.{◌≡◌, ℕ, ◌+◌, ◌≤◌, Bool, true, false, List, Option, Some, None, sum_by}
use Rattle.onfi_cycle.specs.declared.item.Failures.{Failures}
use Rattle.onfi_cycle.specs.declared.lun.Lun.{Lun}
use Rattle.target_bus.specs.Bus.{numbered}
use Rattle.seq_core.specs.declared.stepped.Stepped.{Stepped}
use Rattle.seq_core.specs.declared.stepped.Stepped.TheVariants.{HandedOver as WasHandedOver, NotReady as WasNotReady, Ended as HasEnded, Held as WasHeld, Empty as WasEmpty, Went}
use Rattle.lun_lease.specs.Lease.{Seated, Leased}
use Rattle.channel_work.specs.declared.turn.Turn.{Turn}
use Rattle.channel_work.specs.declared.turn.Turn.TheVariants.{HandedOver, NotReady, Ended, Held, Empty, OutOfMemory}
use Rattle.channel_work.specs.Channel.{HistoryView}
use Rattle.channel_work.specs.Turned.{IsTurn, TellsBusAfterTurn}
use Rattle.channel_work.specs.Coming.{IsComing}
use Rattle.channel_work.specs.Counts.{count_of}
use Rattle.channel_work.specs.declared.tally.LunCount.{LunCount}
use Rattle.channel_work.specs.Finished.{HasFinished, HasNotEnded, CouldNotFinish}
use Rattle.seq_core.specs.Event.{Ready, ArrayReady}
use Rattle.seq_core.specs.Reply.{ToReady, ToArrayReady}
use Rattle.channel_work.specs.declared.stored.Stored.TheVariants.{Ready as BecameReady, ArrayReady as ArrayBecameReady}
use Rattle.channel_work.specs.declared.finished.Finished.{Finished}
use Rattle.channel_work.specs.declared.finished.Finished.TheVariants.{Done, NotEnded, OutOfMemory as NoMemory}
use Rattle.channel_work.specs.declared.readied.Readied.{Readied}
use Rattle.channel_work.specs.declared.readied.Readied.TheVariants.{Yes, NotBusy, OutOfMemory as TooLittle}

-- the history, the seats that are free, the leases that are parked, the oldest first, and how many passes were handed out
pub record StateView : Type 0 where
  pub history : HistoryView
  pub seats : List Seated
  pub parked : List Leased
  pub passes : ℕ

-- a worker's pass: its number among those of its channel, and how many turns it has taken
pub record PassView : Type 0 where
  pub number : ℕ
  pub turns : ℕ

-- how many turns passes have taken, all together
abbrev pub turns_of : List PassView → ℕ
turns_of passes = sum_by (λ (pass : PassView). pass.turns) passes

-- the pass is the same, with more turns or as many
abbrev pub HasTurnedOn : PassView → PassView → Type 0
HasTurnedOn old new = (new.number ≡ old.number) × (old.turns ≤ new.turns)

-- the answer of a turn tells the last answer of its steps, and after a poll that says busy what is counted of the LUN
abbrev pub Tells : LunCount → Option Stepped → Turn → Type 0
Tells count (Some WasHandedOver) t = t ≡ HandedOver
Tells count (Some WasNotReady) t = t ≡ NotReady count.polls count.works
Tells count (Some HasEnded) t = t ≡ Ended
Tells count (Some WasHeld) t = t ≡ Held
Tells count (Some WasEmpty) t = t ≡ Empty
Tells count (Some Went) t = ⊥
Tells count None t = t ≡ OutOfMemory

-- a turn of the lease's LUN, which the pass counts where it made a step
pub record TookTurn (v : StateView) (pass : PassView) (n : ℕ) (answer : Turn) (u : StateView) (pass' : PassView) : Type 0 where
  pub last : Option Stepped
  pub turn : IsTurn v.history (numbered v.history.core.geometry n) last u.history
  pub tells : Tells (count_of u.history.core.geometry n u.history.core.past) last answer
  pub counts : pass'.turns + v.history.turns ≡ pass.turns + u.history.turns
  pub number : pass'.number ≡ pass.number
  pub bus : TellsBusAfterTurn v.history.core.holder last u.history.core.holder (numbered v.history.core.geometry n)
  pub same : u ≡ record v { history = u.history }

-- what finishing the job of a lease answers
abbrev pub IsFinished : StateView → Leased → Finished → StateView → Type 0
IsFinished v lease (Done back) u = HasFinished v.history (numbered v.history.core.geometry lease.lun) u.history × (back ≡ lease)
IsFinished v lease (NotEnded back) u = HasNotEnded v.history (numbered v.history.core.geometry lease.lun) u.history × (back ≡ lease)
IsFinished v lease (NoMemory back) u = CouldNotFinish v.history (numbered v.history.core.geometry lease.lun) u.history × (back ≡ lease)

abbrev pub came_of : Readied → Option Bool
came_of Yes = Some true
came_of NotBusy = Some false
came_of TooLittle = None

-- what a ready answers
abbrev pub IsReadied : HistoryView → Lun → Failures → Readied → HistoryView → Type 0
IsReadied v l fail readied u = IsComing v (Ready l fail) ToReady (BecameReady l fail) (came_of readied) u

-- what an array ready answers
abbrev pub IsArrayReadied : HistoryView → Lun → Bool → Readied → HistoryView → Type 0
IsArrayReadied v l fail readied u = IsComing v (ArrayReady l fail) ToArrayReady (ArrayBecameReady l fail) (came_of readied) u
