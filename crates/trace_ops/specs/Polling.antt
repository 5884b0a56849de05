-- A host that polls: it reads, programs and erases on a target of one LUN, and after each asks for the status until a byte says ready.
use Rattle.std.specs.Prelude.{◌≡◌, ℕ, ◌==◌, ◌&&◌, ◌||◌, not, nat_lt, Bool, true, false, List, [], ◌∷◌, ◌++◌, length, take, map, slice_get, Option, Some, None, if◌then◌else◌}
use Rattle.nand_geometry.specs.declared.parts.Parts.{Parts}
use Rattle.onfi_cycle.specs.declared.item.Item.{Item}
use Rattle.onfi_cycle.specs.declared.item.Item.TheVariants.{Cyc, Rdy, Ard}
use Rattle.onfi_cycle.specs.declared.item.Kind.{Kind}
use Rattle.onfi_cycle.specs.declared.item.Kind.TheVariants.{Cmd, Adr, Din, Dout}
use Rattle.trace_faults.specs.declared.beginning.Beginning.TheVariants.{Start}
use Rattle.trace_faults.specs.declared.readies.Readies.TheVariants.{Written}
use Rattle.trace_ops.specs.declared.operation.Operation.{Operation}
use Rattle.trace_ops.specs.AtWork.{IsLegalBase}
use Rattle.trace_ops.specs.Folding.{asks_status}
use Rattle.trace_ops.specs.Listing.{ops_of}
use Rattle.trace_ops.specs.Operation.{opener_of, one_more, says_ready, is_alone, is_folded}

-- ---- what such a host does

pub data Work : Type 0 where
  Reads Programs Erases : Work

-- the command that begins the sequence
abbrev pub opener_for : Work → ℕ
opener_for Reads = 0x00
opener_for Programs = 0x80
opener_for Erases = 0x60

-- the command that ends it, and begins the work
abbrev pub closer_for : Work → ℕ
closer_for Reads = 0x30
closer_for Programs = 0x10
closer_for Erases = 0xd0

abbrev pub work_by : ℕ → Option Work
work_by byte = if byte == 0x00 then Some Reads else (if byte == 0x80 then Some Programs else (if byte == 0x60 then Some Erases else None))

-- a sequence, as it has been sent so far: its addresses, and how many inputs
pub record Sequence : Type 0 where
  pub work : Work
  pub addresses : List ℕ
  pub inputs : ℕ

-- that which has its opener alone
abbrev pub begun_with : Work → Sequence
begun_with work = record { work = work; addresses = []; inputs = 0 }

-- it rests, or takes the data to which it has gone back; it sends the rest of a sequence; the LUN works, and it hasn't asked yet;
-- it has asked, and no byte has said ready yet; it has seen that a read is over
pub data Doing : Type 0 where
  Rests : Doing
  Sends : (sent : Sequence) → Doing
  Waits : (work : Work) → Doing
  Asks : (work : Work) → Doing
  Sees : Doing

abbrev pub sends_by : Option Work → Option Doing
sends_by None = None
sends_by (Some work) = Some (Sends (begun_with work))

-- after a read is over 00h goes back to its data
abbrev pub is_over : Work → Doing
is_over Reads = Sees
is_over Programs = Rests
is_over Erases = Rests

abbrev pub by_command : Doing → ℕ → Option Doing
by_command Rests byte = sends_by (work_by byte)
by_command (Sends sent) byte = if byte == closer_for sent.work then Some (Waits sent.work) else None
by_command (Waits work) byte = if byte == 0x70 then Some (Asks work) else None
by_command (Asks work) byte = if byte == 0x70 then Some (Asks work) else None
by_command Sees byte = if byte == 0x00 then Some Rests else None

-- one of five addresses at most, before the inputs
abbrev pub by_address : Doing → ℕ → Option Doing
by_address Rests byte = None
by_address (Sends sent) byte = if sent.inputs == 0 && nat_lt (length sent.addresses) 5 then Some (Sends (record sent { addresses = sent.addresses ++ (byte ∷ []) })) else None
by_address (Waits work) byte = None
by_address (Asks work) byte = None
by_address Sees byte = None

-- their count stops as that of an operation does
abbrev pub by_input : Doing → Option Doing
by_input Rests = None
by_input (Sends sent) = Some (Sends (record sent { inputs = one_more sent.inputs }))
by_input (Waits work) = None
by_input (Asks work) = None
by_input Sees = None

abbrev pub by_output : Doing → ℕ → Option Doing
by_output Rests byte = Some Rests
by_output (Sends sent) byte = None
by_output (Waits work) byte = None
by_output (Asks work) byte = if says_ready byte then Some (is_over work) else Some (Asks work)
by_output Sees byte = None

abbrev pub by_cycle : Doing → Kind → ℕ → Option Doing
by_cycle d Cmd byte = by_command d byte
by_cycle d Adr byte = by_address d byte
by_cycle d Din byte = by_input d
by_cycle d Dout byte = by_output d byte

-- after an item; none: it doesn't poll so. Items of other targets and readies may come at any time
abbrev pub doing_after : ℕ → Item → Doing → Option Doing
doing_after ce (Cyc c) d = if c.ce == ce then by_cycle d c.kind c.byte else Some d
doing_after ce (Rdy ce' lun fail) d = Some d
doing_after ce (Ard ce' lun fail) d = Some d

abbrev pub goes_on : Option Doing → (Doing → Option Doing) → Option Doing
goes_on None more = None
goes_on (Some d) more = more d

-- after these items
abbrev pub doing_at_end : ℕ → List Item → Doing → Option Doing
doing_at_end ce [] d = Some d
doing_at_end ce (i ∷ items) d = goes_on (doing_after ce i d) (doing_at_end ce items)

-- it is in the middle of a sequence
abbrev pub is_sending : Doing → Bool
is_sending Rests = false
is_sending (Sends sent) = true
is_sending (Waits work) = false
is_sending (Asks work) = false
is_sending Sees = false

-- ---- its sequences

-- that which a command ends
abbrev pub sent_in : Doing → Kind → ℕ → Option Sequence
sent_in (Sends sent) Cmd byte = if byte == closer_for sent.work then Some sent else None
sent_in d kind byte = None

abbrev pub sent_at : ℕ → Item → Doing → Option Sequence
sent_at ce (Cyc c) d = if c.ce == ce then sent_in d c.kind c.byte else None
sent_at ce (Rdy ce' lun fail) d = None
sent_at ce (Ard ce' lun fail) d = None

abbrev pub in_front : Option Sequence → List Sequence → List Sequence
in_front None sequences = sequences
in_front (Some sent) sequences = sent ∷ sequences

abbrev pub sequences_on : Option Doing → (Doing → List Sequence) → List Sequence
sequences_on None more = []
sequences_on (Some d) more = more d

-- the whole sequences of these items, in order
abbrev pub sequences_from : ℕ → List Item → Doing → List Sequence
sequences_from ce [] d = []
sequences_from ce (i ∷ items) d = in_front (sent_at ce i d) (sequences_on (doing_after ce i d) (sequences_from ce items))

-- ---- and the operations

-- the operations of a target that have a line of their own
abbrev pub lines_of : ℕ → List Operation → List Operation
lines_of ce [] = []
lines_of ce (o ∷ ops) = if o.ce == ce && not (is_folded o) then o ∷ lines_of ce ops else lines_of ce ops

-- what was sent of an operation: its opener, its addresses, how many inputs, and its closer
pub record Sent : Type 0 where
  pub begins : Option ℕ
  pub addresses : List ℕ
  pub inputs : ℕ
  pub ends : Option ℕ

abbrev pub sent_of : Operation → Sent
sent_of o = record { begins = opener_of o.beginning; addresses = take o.address_count o.addresses; inputs = o.inputs; ends = o.closer }

abbrev pub sent_as : Sequence → Sent
sent_as s = record { begins = Some (opener_for s.work); addresses = s.addresses; inputs = s.inputs; ends = Some (closer_for s.work) }

-- what is folded is its questions, and the 00h that go back to data; and each read, program and erase has one line, in order
pub record ArePolled (ce : ℕ) (items : List Item) (ops : List Operation) : Type 0 where
  pub folded : (k : ℕ) (o : Operation) → slice_get ops k ≡ Some o → o.ce ≡ ce → is_folded o ≡ (asks_status o || is_alone o)
  pub lines : map sent_of (lines_of ce ops) ≡ map sent_as (sequences_from ce items Rests)

-- so it is of each trace in which a host has polled so far, but in the middle of a sequence
abbrev pub PollingHosts : Type 0
PollingHosts =
    (g : Parts) (targets : ℕ) (items : List Item) (ce : ℕ) (d : Doing) → IsLegalBase g targets items → g.luns ≡ 1 →
    doing_at_end ce items Rests ≡ Some d → is_sending d ≡ false → ArePolled ce items (ops_of Written Start g targets items)
