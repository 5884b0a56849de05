-- What is known of one target while times are judged, and which pairs a cycle makes with what is before it.
use Rattle.std.specs.Prelude.{ℕ, ◌-◌, ◌*◌, ◌^◌, min, Bool, true, false, ◌&&◌, ◌||◌, not, Option, Some, None, if◌then◌else◌}
use Rattle.onfi_cycle.specs.declared.command.Command.{Command}
use Rattle.onfi_cycle.specs.declared.command.Command.TheVariants.{ReadStatus, ReadStatusEnhanced}
use Rattle.onfi_cycle.specs.declared.item.Kind.{Kind}
use Rattle.onfi_cycle.specs.declared.item.Kind.TheVariants.{Cmd, Adr, Din, Dout}
use Rattle.onfi_cycle.specs.Command.{command, is_opener, is_known}
use Rattle.onfi_pauses.specs.declared.pause.LastCycle.TheVariants as last
use Rattle.onfi_pauses.specs.declared.pause.Pauses.{Pauses}
use Rattle.onfi_pauses.specs.Pauses.{last_after, pauses_before}
use Rattle.trace_timing.specs.declared.clock.Clock.{Clock}
use Rattle.trace_timing.specs.declared.clock.Pair.{Pair}
use Rattle.trace_timing.specs.declared.timings.Timings.{Timings}
use Rattle.trace_timing.specs.declared.timings.Want.{Want}
use Rattle.trace_timing.specs.Wanted.{cycle_want, pause_want}

-- before its first item
abbrev pub begun : Clock
begun = record { last = last.Nothing; at = None; is_ready = false; ready_at = None; has_command = false; may_give_status = true }

-- ---- pairs

abbrev pub pair : Want → (seen : ℕ) → Pair
pair w seen = record { fault = w.fault; seen = seen; wanted = w.least }

-- how long a time comes after another, in femtoseconds; what is more than 64 bits hold is told as the greatest that they hold
abbrev pub elapsed : (unit since time : ℕ) → ℕ
elapsed unit since time = min ((time - since) * unit) (2 ^ 64 - 1)

-- both times are there, and something is wanted of them
abbrev pub pair_of : (unit : ℕ) → (since time : Option ℕ) → Option Want → Option Pair
pair_of unit None time want = None
pair_of unit (Some since) None want = None
pair_of unit (Some since) (Some time) None = None
pair_of unit (Some since) (Some time) (Some want) = Some (pair want (elapsed unit since time))

-- tRR is of data alone, on a target of one LUN alone: R/B# of several tells no LUN
abbrev pub asks_ready : (one_lun : Bool) → Clock → Bool
asks_ready one_lun c = one_lun && not c.may_give_status

abbrev pub ready_want : Timings → (one_lun : Bool) → Clock → Kind → Pauses → Option Want
ready_want t one_lun c kind p = if asks_ready one_lun c then pause_want t kind p.ready else None

-- the pairs of a cycle: with the last cycle of its target, with that as the beginning of work, and with the ready
abbrev pub cycle_pair : Timings → (unit : ℕ) → Clock → Kind → Option ℕ → Option Pair
cycle_pair t unit c kind time = pair_of unit c.at time (cycle_want t c.has_command c.last kind)

abbrev pub busy_pair : Timings → (unit : ℕ) → Clock → Kind → Option ℕ → Option Pair
busy_pair t unit c kind time = pair_of unit c.at time (pause_want t kind (pauses_before c.last c.is_ready kind).busy)

abbrev pub ready_pair : Timings → (unit : ℕ) → (one_lun : Bool) → Clock → Kind → Option ℕ → Option Pair
ready_pair t unit one_lun c kind time = pair_of unit c.ready_at time (ready_want t one_lun c kind (pauses_before c.last c.is_ready kind))

-- ---- what is known then

abbrev pub asks_status : Command → Bool
asks_status ReadStatus = true
asks_status ReadStatusEnhanced = true
asks_status _ = false

-- the outputs after a command may be a status: after an opener, or a command that isn't known, exactly after 70h and 78h
abbrev pub gives_status : Bool → Command → Bool
gives_status before c = if is_opener c || not (is_known c) then asks_status c else before

abbrev pub gives_status_after : Bool → Kind → (byte : ℕ) → Bool
gives_status_after before Cmd byte = gives_status before (command byte)
gives_status_after before Adr byte = before
gives_status_after before Din byte = before
gives_status_after before Dout byte = before

abbrev pub is_command : Kind → Bool
is_command Cmd = true
is_command Adr = false
is_command Din = false
is_command Dout = false

-- once a cycle has come
abbrev pub clock_after : Clock → Kind → (byte : ℕ) → Option ℕ → Clock
clock_after c kind byte time = record {
  last = last_after c.last kind byte;
  at = time;
  is_ready = false;
  ready_at = None;
  has_command = c.has_command || is_command kind;
  may_give_status = gives_status_after c.may_give_status kind byte;
}

-- once a ready of the target has come
abbrev pub clock_ready : Clock → Option ℕ → Clock
clock_ready c time = record { last = c.last; at = c.at; is_ready = true; ready_at = time; has_command = c.has_command; may_give_status = c.may_give_status }

-- times before one that goes back aren't compared with those behind it
abbrev pub clock_cut : Clock → Clock
clock_cut c = record { last = c.last; at = None; is_ready = c.is_ready; ready_at = None; has_command = c.has_command; may_give_status = c.may_give_status }
