-- What finishing a job answers.
use Rattle.std.specs.Prelude.{◌≡◌, ℕ, Bool, true, false, [], ◌∷◌, ◌++◌, Option, Some, None, reverse}
use Rattle.onfi_cycle.specs.declared.lun.Lun.{Lun}
use Rattle.micro_program.specs.Program.{Job}
use Rattle.seq_core.specs.declared.unload_fault.UnloadFault.{UnloadFault}
use Rattle.seq_core.specs.Event.{Unload}
use Rattle.seq_core.specs.Reply.{ToUnload, Unloaded, NotUnloaded}
use Rattle.seq_core.specs.Shows.{CoreView}
use Rattle.seq_core.specs.Calls.{IsEvent, WouldAnswer}
use Rattle.channel_work.specs.declared.stored.Name.{Name}
use Rattle.channel_work.specs.declared.stored.Stored.TheVariants.{Unload as WasUnloaded}
use Rattle.channel_work.specs.Stored.{last_started}
use Rattle.channel_work.specs.Channel.{HistoryView}

-- the job of a LUN had ended: it was unloaded, and is done under the name last started there
pub record HasFinished (v : HistoryView) (l : Lun) (u : HistoryView) : Type 0 where
  pub name : Name
  pub job : Job
  pub code : ℕ
  pub named : last_started l (reverse v.events) ≡ Some name
  pub event : IsEvent v.core (Unload l) (ToUnload (Unloaded job code)) u.core
  pub same : u ≡ record v { core = u.core; events = v.events ++ (WasUnloaded l ∷ []); done = v.done ++ (record { name = name; job = job; code = code } ∷ []) }

-- nothing changed, and an unload is refused
pub record HasNotEnded (v : HistoryView) (l : Lun) (u : HistoryView) : Type 0 where
  pub same : u ≡ v
  pub fault : UnloadFault
  pub refused : IsEvent v.core (Unload l) (ToUnload (NotUnloaded fault)) v.core

-- the job of a LUN has ended, so an unload would give it
pub record WouldFinish (c : CoreView) (l : Lun) : Type 0 where
  pub job : Job
  pub code : ℕ
  pub answer : WouldAnswer c (Unload l) (ToUnload (Unloaded job code))

-- the job of a LUN had ended, there was no memory to store that, and nothing changed
pub record CouldNotFinish (v : HistoryView) (l : Lun) (u : HistoryView) : Type 0 where
  pub would : WouldFinish v.core l
  pub same : u ≡ v

-- how an unload is answered that there is no memory to store: false where it is refused, else None
abbrev pub IsRefusedFinish : CoreView → Lun → Option Bool → Type 0
IsRefusedFinish c l (Some true) = ⊥
IsRefusedFinish c l (Some false) = (fault : UnloadFault) × IsEvent c (Unload l) (ToUnload (NotUnloaded fault)) c
IsRefusedFinish c l None = WouldFinish c l

abbrev pub IsFinish : HistoryView → Lun → Option Bool → HistoryView → Type 0
IsFinish v l None u = CouldNotFinish v l u
IsFinish v l (Some true) u = HasFinished v l u
IsFinish v l (Some false) u = HasNotEnded v l u
