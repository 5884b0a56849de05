-- What the numbers of a target in the caller's memory stand for.
use Rattle.std.specs.Prelude.{ℕ, ◌%◌, ◌≤◌, ◌<◌, ◌^◌, ◌==◌, not, length, Bool, if◌then◌else◌, List, Option, Some, None, map, take}
use Rattle.std.specs.List.{All}
use Rattle.onfi_cycle.specs.declared.command.Command.{Command}
use Rattle.onfi_cycle.specs.declared.latch.Latch.{Latch}
use Rattle.onfi_cycle.specs.declared.latch.Latch.TheVariants.{Off, Status, Data}
use Rattle.onfi_cycle.specs.declared.data_phase.DataPhase.{DataPhase}
use Rattle.onfi_cycle.specs.declared.data_phase.DataPhase.TheVariants.{Outside, Inputs, FirstColumn, SecondColumn, FeatureInputs}
use Rattle.onfi_cycle.specs.declared.opening.Opening.{Opening}
use Rattle.onfi_cycle.specs.declared.page_address.PageAddress.{PageAddress}
use Rattle.onfi_cycle.specs.declared.register.Register.{Register}
use Rattle.onfi_cycle.specs.declared.register.Register.TheVariants.{Empty, Page, ParameterPage, Identifier, Identity, JedecIdentity, UniqueId, Features}
use Rattle.onfi_cycle.specs.declared.queued.Queued.{Queued}
use Rattle.onfi_cycle.specs.declared.queued.Queued.TheVariants.{Erase, Program, Read}
use Rattle.onfi_cycle.specs.declared.tail_facts.TailFacts.{TailFacts}
use Rattle.onfi_cycle.specs.Command.{command}
use Rattle.onfi_cycle.specs.LunView.{LunView}
use Rattle.onfi_cycle.specs.State.{TargetView}
use Rattle.target_record.specs.declared.record.OnfiseqQueued.{OnfiseqQueued}
use Rattle.target_record.specs.declared.record.OnfiseqHeld.{OnfiseqHeld}
use Rattle.target_record.specs.declared.record.OnfiseqLun.{OnfiseqLun}
use Rattle.target_record.specs.declared.record.OnfiseqTarget.{OnfiseqTarget}

-- a flag is set by any number but 0
abbrev pub is_set : ℕ → Bool
is_set n = not (n == 0)

abbrev pub latch_of : ℕ → Latch
latch_of code = if code == 0 then Off else (if code == 1 then Status else Data)

abbrev pub phase_of : ℕ → DataPhase
phase_of code = if code == 0 then Outside else (if code == 1 then Inputs else (if code == 2 then FirstColumn else (if code == 3 then SecondColumn else FeatureInputs)))

abbrev pub closer_of : Bool → ℕ → Option Command
closer_of has byte = if has then Some (command byte) else None

abbrev pub opening_of : Bool → ℕ → ℕ → Option Opening
opening_of has byte addresses = if has then Some (record { opener = command byte; addresses = addresses }) else None

abbrev pub page_address : ℕ → ℕ → PageAddress
page_address block page = record { block = block; page = page }

abbrev pub register_of : ℕ → ℕ → ℕ → Register
register_of code block page =
    if code == 0 then Empty
    else (if code == 1 then Page (page_address block page)
    else (if code == 2 then ParameterPage
    else (if code == 3 then Identifier
    else (if code == 4 then Identity
    else (if code == 5 then JedecIdentity
    else (if code == 6 then UniqueId
    else Features (block % 256)))))))

abbrev pub given_of : Bool → ℕ → Option ℕ
given_of has column = if has then Some column else None

abbrev pub queued_of : OnfiseqQueued → Queued
queued_of q =
    if q.kind == 0 then Erase (page_address q.block q.page)
    else (if q.kind == 1 then Program (page_address q.block q.page)
    else Read (page_address q.block q.page))

abbrev pub queue_of : List OnfiseqQueued → List Queued
queue_of records = map queued_of records

abbrev pub page_of : OnfiseqHeld → PageAddress
page_of h = page_address h.block h.page

abbrev pub pages_of : List OnfiseqHeld → List PageAddress
pages_of records = map page_of records

abbrev pub lun_of : OnfiseqLun → LunView
lun_of l = record {
  latch = latch_of l.latch;
  selected = is_set l.selected;
  overlapped = is_set l.overlapped;
  busy = is_set l.busy;
  closer = closer_of (is_set l.has_closer) l.closer;
  array_busy = is_set l.array_busy;
  array_page = page_address l.array_block l.array_page;
  register = register_of l.register l.register_block l.register_page;
  column = record { given = given_of (is_set l.has_column) l.column; outputs = l.outputs; lost = is_set l.lost };
  queue = queue_of (take l.queued l.queue);
  held = pages_of (take l.holds l.held);
}

abbrev pub luns_of : List OnfiseqLun → List LunView
luns_of records = map lun_of records

abbrev pub tail_of : OnfiseqTarget → TailFacts
tail_of t = record {
  opening = opening_of (is_set t.is_open) t.opener t.addresses;
  phase = phase_of t.phase;
  row = record { r1 = t.r1; r2 = t.r2; r3 = t.r3 };
  column = t.column;
  inputs = t.inputs;
  is_empty = is_set t.is_empty;
}

abbrev pub target_of : OnfiseqTarget → TargetView
target_of t = record { tail = tail_of t; luns = luns_of (take t.count t.luns) }

-- the numbers of a LUN's record: its queue and its pages stand in their arrays, and its outputs have room
pub record IsRecord (l : OnfiseqLun) : Type 0 where
  pub queued : l.queued ≤ 4
  pub holds : l.holds ≤ 4
  pub outputs : l.outputs < 2 ^ 63

-- a LUN has a record: its queue has four rows at most, and it holds as many pages
abbrev pub HasRoom : LunView → Type 0
HasRoom v = (length v.queue ≤ 4) × (length v.held ≤ 4)

-- the numbers of a target's record
pub record IsTarget (t : OnfiseqTarget) : Type 0 where
  pub count : t.count ≤ 4
  pub luns : All IsRecord t.luns
