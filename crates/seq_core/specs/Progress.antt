-- A program in progress as a running channel keeps it: its job with the buffer as it is now, the place of its next word in
-- the text, the loops around it, and registers.
use Rattle.std.specs.Prelude.{ℕ, ◌+◌, ◌-◌, ◌^◌, min, Bool, true, false, nat_le, nat_lt, if◌then◌else◌, List, [], ◌∷◌, ◌++◌, Option, Some, None, length, replicate}
use Rattle.nand_geometry.specs.declared.parts.Parts.{Parts}
use Rattle.nand_geometry.specs.Row.{row_bytes_of}
use Rattle.onfi_cycle.specs.declared.item.Kind.TheVariants.{Cmd, Adr, Din}
use Rattle.micro_word.specs.declared.word.Word.{Word}
use Rattle.micro_word.specs.declared.word.Word.TheVariants.{End, Command, Address, Get, Put, Seek, Column, RowAdd, Row, Plane, Wait, Yield, ReadStatus}
use Rattle.micro_program.specs.Program.{Job, is_ready_status}
use Rattle.onfi_cycle.specs.Content.{written}
use Rattle.micro_program.specs.Moves.{Move, Give, Take, and_then, part, column_bytes, gives}
use Rattle.micro_program.specs.Step.{first_byte}
use Rattle.seq_core.specs.declared.stepped.Stepped.{Stepped}
use Rattle.seq_core.specs.declared.stepped.Stepped.TheVariants.{Ended, HandedOver, NotReady, Went}
use Rattle.seq_core.specs.declared.registers.Registers.{Registers}
use Rattle.seq_core.specs.declared.loops.OpenLoop.{OpenLoop}
use Rattle.seq_core.specs.Loops.{place_behind, loops_behind}

-- the job with its buffer as it is now, the place of the next word, the loops around it, the innermost first, the registers, and the
-- code with which it ended, if it has
pub record Progress : Type 0 where
  pub job : Job
  pub at : ℕ
  pub loops : List OpenLoop
  pub registers : Registers
  pub code : Option ℕ

abbrev pub fresh_registers : ℕ → Registers
fresh_registers base = record { column = 0; index = base; plane = 0; place = 0; status = 0 }

-- a job before its first word
abbrev pub fresh_progress : Job → Progress
fresh_progress j = record { job = j; at = 0; loops = []; registers = fresh_registers j.base; code = None }

-- C1 C2 R1 R2 R3; where the last byte that is wanted is one of the column, the row's are 0
abbrev pub five_bytes : Parts → ℕ → Registers → (last : ℕ) → Option (List ℕ)
five_bytes g lun r last =
    if nat_le last 2 then Some (column_bytes r.column ++ (0 ∷ (0 ∷ (0 ∷ []))))
    else and_then (row_bytes_of g lun r.index r.plane) (λ row. Some (column_bytes r.column ++ row))

abbrev pub put_bytes_at : List ℕ → ℕ → ℕ → Option (List ℕ)
put_bytes_at buffer place len = if nat_le (place + len) (length buffer) then Some (part place len buffer) else None

-- a status poll of a LUN
abbrev pub poll_at : Parts → ℕ → Option (List Move)
poll_at g lun =
    if nat_lt 1 g.luns
    then and_then (row_bytes_of g lun 0 0) (λ row. Some (Give Cmd 0x78 ∷ (gives Adr row ++ (Take ∷ []))))
    else Some (Give Cmd 0x70 ∷ (Take ∷ []))

-- what a word moves
abbrev pub moves_at : Parts → ℕ → List ℕ → Registers → Word → Option (List Move)
moves_at g lun buffer r (Command byte) = Some (Give Cmd byte ∷ [])
moves_at g lun buffer r (Address from count) = and_then (five_bytes g lun r (from + count)) (λ five. Some (gives Adr (part from count five)))
moves_at g lun buffer r (Get len) = Some (replicate len Take)
moves_at g lun buffer r (Put len) = and_then (put_bytes_at buffer r.place len) (λ bytes. Some (gives Din bytes))
moves_at g lun buffer r Wait = poll_at g lun
moves_at g lun buffer r ReadStatus = poll_at g lun
moves_at g lun buffer r _ = Some []

-- how far into the buffer a word reaches
abbrev pub reaches : ℕ → Word → ℕ
reaches place (Get len) = place + len
reaches place (Put len) = place + len
reaches place _ = 0

-- an index that stops at the greatest number of 32 bits
abbrev pub stopped : ℕ → ℕ
stopped index = min index (2 ^ 32 - 1)

-- the registers behind a word; a poll has brought this status
abbrev pub registers_after : ℕ → Registers → Word → ℕ → Registers
registers_after base r (Get len) status = record r { place = r.place + len }
registers_after base r (Put len) status = record r { place = r.place + len }
registers_after base r (Seek place) status = record r { place = place }
registers_after base r (Column column) status = record r { column = column }
registers_after base r (RowAdd rows) status = record r { index = stopped (r.index + rows) }
registers_after base r (Row row) status = record r { index = stopped (base + row) }
registers_after base r (Plane plane) status = record r { plane = plane }
registers_after base r Wait status = record r { status = status }
registers_after base r ReadStatus status = record r { status = status }
registers_after base r _ status = r

-- the buffer behind a word that took these bytes
abbrev pub buffer_behind : ℕ → Word → List ℕ → List ℕ → List ℕ
buffer_behind place (Get len) bytes buffer = written bytes place buffer
buffer_behind place _ bytes buffer = buffer

-- the status that a poll has brought, 0 for other words
abbrev pub status_of : Word → List ℕ → ℕ
status_of Wait bytes = first_byte bytes
status_of ReadStatus bytes = first_byte bytes
status_of _ bytes = 0

-- how the step of a word is answered; a poll has brought this status
abbrev pub outcome_of : Word → ℕ → Stepped
outcome_of (End code) status = Ended
outcome_of Yield status = HandedOver
outcome_of Wait status = if is_ready_status status then Went else NotReady
outcome_of _ status = Went

-- the word is done
abbrev pub is_done : Stepped → Bool
is_done NotReady = false
is_done _ = true

abbrev pub code_of : Word → Option ℕ
code_of (End code) = Some code
code_of _ = None

-- a slot with another buffer
abbrev pub with_buffer : Progress → List ℕ → Progress
with_buffer v buffer = record { job = record v.job { buffer = buffer }; at = v.at; loops = v.loops; registers = v.registers; code = v.code }

-- a slot with its word done, which brought this status
abbrev pub done_with : Progress → Word → ℕ → Progress
done_with v word status =
    record {
      job = v.job;
      at = place_behind v.at v.loops v.registers.status word;
      loops = loops_behind v.at v.loops word;
      registers = registers_after v.job.base v.registers word status;
      code = code_of word;
    }

-- a slot behind a word that brought this status: it goes on if the word is done
abbrev pub behind_word : Progress → Word → ℕ → Progress
behind_word v word status = if is_done (outcome_of word status) then done_with v word status else v

-- a slot whose word was stepped and took these bytes
abbrev pub progress_after : Progress → Word → List ℕ → Progress
progress_after v word bytes =
    behind_word (with_buffer v (buffer_behind v.registers.place word bytes v.job.buffer)) word (status_of word bytes)
