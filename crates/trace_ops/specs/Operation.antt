-- An operation of a trace, and what an item makes of it.
use Rattle.std.specs.Prelude.{ℕ, ◌+◌, ◌==◌, ◌&&◌, ◌||◌, not, Bool, true, false, nat_lt, nat_le, List, slice_get, slice_set, slice_index, replicate, Option, Some, None, is_some, if◌then◌else◌}
use Rattle.onfi_cycle.specs.declared.item.Kind.{Kind}
use Rattle.onfi_cycle.specs.declared.item.Kind.TheVariants.{Cmd, Adr, Din, Dout}
use Rattle.onfi_cycle.specs.Command.{command}
use Rattle.onfi_cycle.specs.Base.{is_of_base}
use Rattle.trace_faults.specs.declared.verdict.Verdict.{Verdict}
use Rattle.trace_faults.specs.declared.verdict.Verdict.TheVariants.{Permitted, PassedOver, Granted, Broken, NotShown as WithoutReady}
use Rattle.trace_ops.specs.declared.operation.Beginning.{Beginning}
use Rattle.trace_ops.specs.declared.operation.Beginning.TheVariants as begins
use Rattle.trace_ops.specs.declared.operation.Ending.{Ending}
use Rattle.trace_ops.specs.declared.operation.Operation.{Operation}
use Rattle.trace_ops.specs.declared.change.Change.{Change}
use Rattle.trace_ops.specs.declared.change.Change.TheVariants.{Opened, Cycle, LoneReady, End, Begin, Poll, Show, Hold, SetLun, Fold, Unfold}

-- ---- verdicts

-- the item is permitted where it stands
abbrev pub is_permitted : Verdict → Bool
is_permitted Permitted = true
is_permitted PassedOver = false
is_permitted (Granted rule) = false
is_permitted (Broken rule) = false
is_permitted (WithoutReady ready) = true

-- neither a fault nor taken for granted
abbrev pub is_clean : Verdict → Bool
is_clean Permitted = true
is_clean PassedOver = true
is_clean (Granted rule) = false
is_clean (Broken rule) = false
is_clean (WithoutReady ready) = true

-- ---- a new one

abbrev pub begun : (ce n : ℕ) → Beginning → Operation
begun ce n beginning = record {
  ce = ce;
  lun = None;
  beginning = beginning;
  addresses = replicate 5 0;
  address_count = 0;
  is_addressed = true;
  closer = None;
  inputs = 0;
  outputs = 0;
  polls = 0;
  start = None;
  end = None;
  last_busy = None;
  status = None;
  shown = None;
  held = None;
  parent = None;
  first = n;
  last = n;
  is_permitted = true;
  is_clean = true;
}

-- ---- its bytes

abbrev pub opener_of : Beginning → Option ℕ
opener_of (begins.Opener byte) = Some byte
opener_of begins.Cut = None
opener_of begins.Ready = None

abbrev pub is_byte : Option ℕ → ℕ → Bool
is_byte None byte = false
is_byte (Some other) byte = other == byte

-- a command that isn't one of the base profile
abbrev pub is_unknown : ℕ → Bool
is_unknown byte = not (is_of_base (command byte))

-- 15h, 32h and 35h close a sequence as 10h and 30h do
abbrev pub closes_as_known : ℕ → Bool
closes_as_known byte = byte == 0x15 || (byte == 0x32 || byte == 0x35)

-- 06h gives a column to the LUN that it names, as 05h does to the one that drives
abbrev pub selects_column : ℕ → Bool
selects_column byte = byte == 0x06

abbrev pub is_foreign_opener : Option ℕ → Bool
is_foreign_opener None = false
is_foreign_opener (Some byte) = (is_unknown byte && not (selects_column byte)) || byte == 0x85

abbrev pub is_foreign_closer : Option ℕ → Bool
is_foreign_closer None = false
is_foreign_closer (Some byte) = closes_as_known byte

-- 90h and ECh with an address that the profile hasn't
abbrev pub has_other_address : Operation → Bool
has_other_address o = nat_lt 0 o.address_count
    && ((is_byte (opener_of o.beginning) 0x90 && not (slice_index o.addresses 0 == 0x20)) || (is_byte (opener_of o.beginning) 0xec && not (slice_index o.addresses 0 == 0)))

-- a sequence that the model doesn't know
abbrev pub is_foreign : Operation → Bool
is_foreign o = is_foreign_opener (opener_of o.beginning) || (is_foreign_closer o.closer || has_other_address o)

-- 00h without an address
abbrev pub is_alone : Operation → Bool
is_alone o = is_byte (opener_of o.beginning) 0 && (o.address_count == 0 && not (is_some o.closer))

-- an 80h that no command has closed
abbrev pub is_open_program : Operation → Bool
is_open_program o = (is_byte (opener_of o.beginning) 0x80 || is_byte (opener_of o.beginning) 0x85) && not (is_some o.closer)

-- a 00h with its five addresses that no command has closed
abbrev pub is_open_read : Operation → Bool
is_open_read o = is_byte (opener_of o.beginning) 0 && (o.address_count == 5 && not (is_some o.closer))

-- ---- one cycle more

-- a count stops at 2 ^ 64 - 1, which no trace reaches
abbrev pub one_more : ℕ → ℕ
one_more n = if nat_lt n 18446744073709551615 then n + 1 else n

-- the closer is the first command that is neither the opener nor 85h
abbrev pub closer_after : Operation → ℕ → Option ℕ
closer_after o byte = if is_some o.closer || (byte == 0x85 || is_byte (opener_of o.beginning) byte) then o.closer else Some byte

abbrev pub takes_address : Operation → Bool
takes_address o = o.is_addressed && nat_lt o.address_count 5

abbrev pub with_address : ℕ → Operation → Operation
with_address byte o = if takes_address o then record o { addresses = slice_set o.addresses o.address_count byte; address_count = o.address_count + 1 } else o

abbrev pub with_byte : Kind → ℕ → Operation → Operation
with_byte Cmd byte o = record o { closer = closer_after o byte; is_addressed = false }
with_byte Adr byte o = with_address byte o
with_byte Din byte o = record o { inputs = one_more o.inputs; is_addressed = false }
with_byte Dout byte o = record o { outputs = one_more o.outputs }

abbrev pub is_output : Kind → Bool
is_output Cmd = false
is_output Adr = false
is_output Din = false
is_output Dout = true

-- an item of this number, of which this is said
abbrev pub noted : ℕ → Verdict → (output : Bool) → Operation → Operation
noted n said output o = record o { last = n; is_permitted = if output then o.is_permitted else is_permitted said; is_clean = o.is_clean && is_clean said }

-- ---- its end

abbrev pub with_end : Ending → Operation → Operation
with_end e o = if is_some o.end then o else record o { end = Some e }

-- ---- polls

-- bit 6 of a status: ready
abbrev pub says_ready : ℕ → Bool
says_ready byte = nat_le 64 byte && (nat_lt byte 128 || nat_le 192 byte)

abbrev pub with_status : ℕ → ℕ → Operation → Operation
with_status n byte o =
    if says_ready byte then record o { polls = one_more o.polls; status = Some byte }
    else record o { polls = one_more o.polls; last_busy = if is_some o.end then o.last_busy else Some n }

-- a status byte of its LUN, up to the first that says ready
abbrev pub with_poll : ℕ → ℕ → Operation → Operation
with_poll n byte o = if is_some o.status then o else with_status n byte o

-- ---- changes

abbrev pub changed : Change → Operation → Operation
changed (Opened n said) o = noted n said false o
changed (Cycle n kind byte said) o = noted n said (is_output kind) (with_byte kind byte o)
changed (LoneReady n said) o = noted n said true o
changed (End e) o = with_end e o
changed (Begin n lun) o = record o { start = Some n; lun = Some lun }
changed (Poll n byte) o = with_poll n byte o
changed (Show byte) o = record o { shown = Some byte }
changed (Hold page) o = record o { held = Some page }
changed (SetLun lun) o = record o { lun = Some lun }
changed (Fold parent) o = record o { parent = Some parent }
changed Unfold o = record o { parent = None; lun = None }

-- the operation of this number, if it is there
abbrev pub changed_by : Option Operation → Change → List Operation → ℕ → List Operation
changed_by None change ops k = ops
changed_by (Some o) change ops k = slice_set ops k (changed change o)

abbrev pub changed_at : ℕ → Change → List Operation → List Operation
changed_at k change ops = changed_by (slice_get ops k) change ops k

abbrev pub changed_if : Option ℕ → Change → List Operation → List Operation
changed_if None change ops = ops
changed_if (Some k) change ops = changed_at k change ops

-- ---- whether it has a line of its own

-- it is a part of another operation, and nothing in it is a fault: a question for the status, or a return to the data, and no work and no other command
abbrev pub is_folded : Operation → Bool
is_folded o = is_some o.parent && (o.is_clean && not (is_some o.start || is_some o.closer))
