-- The events of a channel as they are kept: steps that stand in a row are kept once, with how many they are.
use Rattle.std.specs.Prelude.{◌≡◌, ⊤, ℕ, ◌+◌, ◌==◌, ◌&&◌, List, [], ◌∷◌, Option, Some, None, replicate, nat_lt, if◌then◌else◌}
use Rattle.onfi_cycle.specs.Channel.{same_lun}
use Rattle.channel_work.specs.declared.stored.Stored.{Stored}
use Rattle.channel_work.specs.declared.stored.Stored.TheVariants.{Load as Loaded, Step as WasStepped, Ready as BecameReady, ArrayReady as ArrayBecameReady, Unload as WasUnloaded}
use Rattle.channel_work.specs.declared.events.Kept.{Kept}
use Rattle.channel_work.specs.declared.events.Kept.TheVariants.{Load, Steps, Ready, ArrayReady, Unload}

-- the events, in order, and for how many more there is room
pub record EventsView : Type 0 where
  pub items : List Stored
  pub room : ℕ

-- the events that are kept so
abbrev pub kept_as : Kept → List Stored
kept_as (Load l host number) = Loaded l (record { host = host; number = number }) ∷ []
kept_as (Steps l times turn) = replicate times (WasStepped l turn)
kept_as (Ready l fail) = BecameReady l fail ∷ []
kept_as (ArrayReady l fail) = ArrayBecameReady l fail ∷ []
kept_as (Unload l) = WasUnloaded l ∷ []

-- kept steps with a step more of the same LUN in the same turn; of any other event, or where no more can be counted, None
abbrev pub one_more : Kept → Stored → Option Kept
one_more (Steps l times turn) (WasStepped m number) = if same_lun l m && (turn == number && nat_lt times 4294967295) then Some (Steps l (times + 1) turn) else None
one_more _ _ = None

-- the first of the events that are kept so
abbrev pub first_kept : Kept → Stored
first_kept (Load l host number) = Loaded l (record { host = host; number = number })
first_kept (Steps l times turn) = WasStepped l turn
first_kept (Ready l fail) = BecameReady l fail
first_kept (ArrayReady l fail) = ArrayBecameReady l fail
first_kept (Unload l) = WasUnloaded l

-- what follows couldn't be kept with it
abbrev pub IsApart : Kept → List Kept → Type 0
IsApart k [] = ⊤
IsApart k (next ∷ ks) = one_more k (first_kept next) ≡ None

-- no two neighbours could be kept as one
abbrev pub AreMerged : List Kept → Type 0
AreMerged [] = ⊤
AreMerged (k ∷ ks) = IsApart k ks × AreMerged ks
