-- What a ready or an array ready leaves.
use Rattle.std.specs.Prelude.{◌≡◌, Bool, true, false, [], ◌∷◌, ◌++◌, Option, Some, None}
use Rattle.seq_core.specs.Event.{Event}
use Rattle.seq_core.specs.Reply.{Reply}
use Rattle.seq_core.specs.Shows.{CoreView}
use Rattle.seq_core.specs.Calls.{IsEvent, WouldAnswer}
use Rattle.channel_work.specs.declared.stored.Stored.{Stored}
use Rattle.channel_work.specs.Channel.{HistoryView}

-- an event came, and is stored so; besides, what is counted changed
pub record HasCome (v : HistoryView) (e : Event) (reply : Reply) (x : Stored) (u : HistoryView) : Type 0 where
  pub event : IsEvent v.core e reply u.core
  pub same : u ≡ record v { core = u.core; events = v.events ++ (x ∷ []); counts = u.counts }

-- an event was refused, and nothing changed
pub record HasNotCome (v : HistoryView) (e : Event) (reply : Reply) (u : HistoryView) : Type 0 where
  pub event : IsEvent v.core e reply v.core
  pub same : u ≡ v

-- an event would have come, there was no memory to store it, and nothing changed
pub record CouldNotStore (v : HistoryView) (e : Event) (reply : Reply) (u : HistoryView) : Type 0 where
  pub would : WouldAnswer v.core e reply
  pub same : u ≡ v

-- how an event is answered that there is no memory to store: false where it doesn't come, else None
abbrev pub IsRefused : CoreView → Event → (Bool → Reply) → Option Bool → Type 0
IsRefused c e reply (Some true) = ⊥
IsRefused c e reply (Some false) = IsEvent c e (reply false) c
IsRefused c e reply None = WouldAnswer c e (reply true)

-- what an event that is stored so, and answered by whether it came, leaves
abbrev pub IsComing : HistoryView → Event → (Bool → Reply) → Stored → Option Bool → HistoryView → Type 0
IsComing v e reply x (Some true) u = HasCome v e (reply true) x u
IsComing v e reply x (Some false) u = HasNotCome v e (reply false) u
IsComing v e reply x None u = CouldNotStore v e (reply true) u
