-- The operations of a trace that a program of plain operations leaves.
use Rattle.std.specs.Prelude.{◌≡◌, ℕ, ◌+◌, ◌<◌, ◌≤◌, ◌==◌, ◌||◌, Bool, true, nat_lt, if◌then◌else◌, List, [], ◌∷◌, ◌++◌, Some, map, length, take, reverse}
use Rattle.nand_geometry.specs.declared.parts.Parts.{Parts}
use Rattle.nand_geometry.specs.Optional.{no_optional}
use Rattle.nand_geometry.specs.Row.{row_number, indexed, row_cycles}
use Rattle.onfi_cycle.specs.declared.item.Item.{Item}
use Rattle.onfi_cycle.specs.declared.item.Item.TheVariants.{Cyc, Rdy, Ard}
use Rattle.onfi_cycle.specs.Channel.{Channel, is_there}
use Rattle.onfi_cycle.specs.Permitted.{is_legal}
use Rattle.trace_faults.specs.declared.beginning.Beginning.TheVariants.{Start}
use Rattle.trace_faults.specs.declared.readies.Readies.TheVariants.{Written}
use Rattle.trace_ops.specs.declared.operation.Operation.{Operation}
use Rattle.trace_ops.specs.Listing.{ops_of}
use Rattle.trace_ops.specs.Polling.{Reads, Programs, Erases, Sequence, Rests, doing_at_end, lines_of, sent_of, sent_as}
use Rattle.micro_word.specs.declared.word.Word.{Word}
use Rattle.micro_word.specs.declared.word.Word.TheVariants.{Command}
use Rattle.micro_program.specs.Program.{Job, Done}
use Rattle.micro_program.specs.Moves.{column_bytes}
use Rattle.micro_program.specs.Safe.{Seat, Reaches, starts, steps, readies, others, may_step, IsJobOf, IsSafe}
use Rattle.micro_program.specs.Step.{Stride, answered_step}
use Rattle.micro_verify.specs.declared.plain_op.PlainOp.{PlainOp}
use Rattle.micro_verify.specs.declared.plain_op.PlainOp.TheVariants.{Read, Program, Erase}
use Rattle.micro_verify.specs.Plain.{plain_text}

-- the bytes of a row: that of the page in this plane, so many rows behind the base of the job
abbrev pub row_at : Parts → Job → (row plane : ℕ) → List ℕ
row_at g j row plane = row_cycles (row_number g (indexed g j.lun.lun (j.base + row) plane))

-- so many inputs, as an operation counts them: up to 2 ^ 64 - 1
abbrev pub capped : ℕ → ℕ
capped n = if nat_lt n 18446744073709551615 then n else 18446744073709551615

-- what is to be sent of an operation: its kind, and so the commands that begin it and end it; its column and its row; and how many bytes are programmed
abbrev pub sequence_of : Parts → Job → PlainOp → Sequence
sequence_of g j (Read row plane column place len) = record { work = Reads; addresses = column_bytes column ++ row_at g j row plane; inputs = 0 }
sequence_of g j (Program row plane column place len) = record { work = Programs; addresses = column_bytes column ++ row_at g j row plane; inputs = capped len }
sequence_of g j (Erase row plane) = record { work = Erases; addresses = row_at g j row plane; inputs = 0 }

-- 30h, 10h and D0h end the sequence of an operation
abbrev pub is_closer : ℕ → Bool
is_closer byte = byte == 0x30 || (byte == 0x10 || byte == 0xd0)

abbrev pub closes : Word → ℕ
closes (Command byte) = if is_closer byte then 1 else 0
closes word = 0

-- how many of them the words done have put on the bus
abbrev pub closers : List Done → ℕ
closers [] = 0
closers (d ∷ done) = closers done + closes d.word

-- the past at which a program was loaded
abbrev pub began : (s : Channel) (j : Job) (seat : Seat) → Reaches s j seat → List Item
began s j _ (starts past legal idle) = past
began s j _ (steps seat bytes r run may is truthful goes_on) = began s j seat run
began s j _ (readies seat i run is_ready permitted) = began s j seat run
began s j _ (others seat c m run free own there apart) = began s j seat run

-- what the cycles of a past carry are bytes
abbrev pub AreBytes : List Item → Type 0
AreBytes [] = Unit {0}
AreBytes (Cyc c ∷ past) = (c.byte < 256) × AreBytes past
AreBytes (Rdy ce lun fail ∷ past) = AreBytes past
AreBytes (Ard ce lun fail ∷ past) = AreBytes past

-- a program of these operations, on a channel of the base profile whose targets have one LUN each; before it came, the host of its target polled,
-- or it has had none
pub record RunsPlainly (s : Channel) (j : Job) (ops : List PlainOp) (before : List Item) : Type 0 where
  pub few_targets : s.targets ≤ 4
  pub one_lun : s.geometry.luns ≡ 1
  pub base : s.geometry.optional ≡ no_optional
  pub lun_there : is_there s j.lun ≡ true
  pub text : j.text ≡ plain_text ops
  pub rested : doing_at_end j.lun.ce (reverse before) Rests ≡ Some Rests

-- the operations with a line of its target, after a past
abbrev pub lines_after : Channel → Job → List Item → List Operation
lines_after s j past = lines_of j.lun.ce (ops_of Written Start s.geometry s.targets (reverse past))

-- behind the lines of its target before it there is one for each operation whose sequence it has sent, and after code 0 for each of the list
pub record LinesAre (s : Channel) (j : Job) (ops : List PlainOp) (before past : List Item) (done : List Done) (code : ℕ) : Type 0 where
  pub count : ℕ
  pub sent : count ≡ closers done
  pub few : count ≤ length ops
  pub lines : map sent_of (lines_after s j past) ≡ map sent_of (lines_after s j before) ++ map sent_as (map (sequence_of s.geometry j) (take count ops))
  pub all : code ≡ 0 → count ≡ length ops
  pub rested : doing_at_end j.lun.ce (reverse past) Rests ≡ Some Rests

-- so it is where a program comes to its end with this code, in a legal trace
abbrev pub LinesAreOperations : Type 0
LinesAreOperations =
    (s : Channel) (j : Job) (ops : List PlainOp) (seat : Seat) (run : Reaches s j seat) (bytes : List ℕ) (r : Stride) (code : ℕ) → RunsPlainly s j ops (began s j seat run) →
    answered_step s.geometry j bytes seat.past seat.ahead seat.done ≡ Some r → r.code ≡ Some code → is_legal s.geometry s.targets r.past ≡ true → AreBytes r.past →
    LinesAre s j ops (began s j seat run) r.past r.done code

-- and so it is of a verified program, whose trace is legal by that
abbrev pub VerifiedLinesAreOperations : Type 0
VerifiedLinesAreOperations =
    (s : Channel) (j : Job) (ops : List PlainOp) (seat : Seat) (run : Reaches s j seat) (bytes : List ℕ) (r : Stride) (code : ℕ) → RunsPlainly s j ops (began s j seat run) →
    IsSafe (plain_text ops) s.geometry → IsJobOf (plain_text ops) s.geometry s j → may_step j seat ≡ true →
    answered_step s.geometry j bytes seat.past seat.ahead seat.done ≡ Some r → r.code ≡ Some code → AreBytes r.past → LinesAre s j ops (began s j seat run) r.past r.done code
