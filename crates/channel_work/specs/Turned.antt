-- What a turn does: steps of one LUN, of which all but the last went.
use Rattle.std.specs.Prelude.{◌≡◌, ℕ, ◌+◌, true, List, [], ◌∷◌, ◌++◌, Option, Some, None, map}
use Rattle.std.specs.List.{AllByRecursion}
use Rattle.onfi_cycle.specs.declared.lun.Lun.{Lun}
use Rattle.seq_core.specs.declared.stepped.Stepped.{Stepped}
use Rattle.seq_core.specs.declared.stepped.Stepped.TheVariants.{Went}
use Rattle.seq_core.specs.Lawful.{has_bus}
use Rattle.seq_core.specs.Event.{Step}
use Rattle.seq_core.specs.Reply.{ToStep}
use Rattle.seq_core.specs.Calls.{TellsBus}
use Rattle.seq_core.specs.EventList.{IsRun}
use Rattle.channel_work.specs.declared.stored.Stored.TheVariants.{Step as WasStepped}
use Rattle.channel_work.specs.Channel.{HistoryView}

-- these answers, and then the last one, if memory sufficed for it
abbrev pub and_last : List Stepped → Option Stepped → List Stepped
and_last went None = went
and_last went (Some last) = went ++ (last ∷ [])

-- a turn counts where it made a step
abbrev pub counted : List Stepped → ℕ
counted [] = 0
counted (answer ∷ answers) = 1

-- nothing but the core, the events, the number of turns and what is counted changed
pub record IsBeside (v u : HistoryView) : Type 0 where
  pub taker : u.taker ≡ v.taker
  pub taken : u.taken ≡ v.taken
  pub started : u.started ≡ v.started
  pub backlog : u.backlog ≡ v.backlog
  pub done : u.done ≡ v.done

-- steps of this LUN came, in one turn, and were answered so
pub record TookSteps (v : HistoryView) (l : Lun) (answers : List Stepped) (u : HistoryView) : Type 0 where
  pub run : IsRun v.core (map (λ a. Step l) answers) (map ToStep answers) u.core
  pub events : u.events ≡ v.events ++ map (λ a. WasStepped l v.turns) answers
  pub turns : u.turns ≡ v.turns + counted answers
  pub beside : IsBeside v u

-- a turn of this LUN: steps that went, and a last one with this answer, if memory sufficed for it
pub record IsTurn (v : HistoryView) (l : Lun) (last : Option Stepped) (u : HistoryView) : Type 0 where
  pub went : List Stepped
  pub all_went : AllByRecursion (λ a. a ≡ Went) went
  pub steps : TookSteps v l (and_last went last) u

-- the steps of a turn that goes on: there are some, and each went
pub record IsGoing (v : HistoryView) (l : Lun) (u : HistoryView) : Type 0 where
  pub went : List Stepped
  pub all_went : AllByRecursion (λ a. a ≡ Went) went
  pub one : counted went ≡ 1
  pub steps : TookSteps v l went u

-- what a turn tells of the bus: what its last answer tells; where memory was refused, a LUN that had the bus has it still
abbrev pub TellsBusAfterTurn : Option Lun → Option Stepped → Option Lun → Lun → Type 0
TellsBusAfterTurn before (Some last) later l = TellsBus last later l
TellsBusAfterTurn before None later l = has_bus before l ≡ true → has_bus later l ≡ true
