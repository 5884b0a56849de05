-- What the record of a job stands for.
use Rattle.std.specs.Prelude.{ℕ, ◌==◌, ◌&&◌, Bool, true, false, nat_le, if◌then◌else◌, List, [], Option, Some, None, map, take}
use Rattle.onfi_cycle.specs.declared.lun.Lun.{Lun}
use Rattle.micro_word.specs.declared.word.Word.{Word}
use Rattle.micro_word.specs.declared.word.Word.TheVariants.{Loop}
use Rattle.seq_core.specs.declared.loops.OpenLoop.{OpenLoop}
use Rattle.seq_core.specs.declared.registers.Registers.{Registers}
use Rattle.seq_core.specs.Loops.{place_behind, loops_behind}
use Rattle.seq_core.specs.Progress.{registers_after, fresh_registers, outcome_of, is_done, code_of}
use Rattle.onfiseq_live_c.specs.declared.job.OnfiseqJob.{OnfiseqJob}
use Rattle.onfiseq_live_c.specs.declared.loops.OnfiseqLoop.{OnfiseqLoop}
use Rattle.onfiseq_live_c.specs.declared.loops.OnfiseqLoops.{OnfiseqLoops}

-- a program in progress: its LUN, the row that it begins at, the length of its buffer, the place of its next word, the loops around that, the innermost
-- first, its registers, and the code with which it ended, if it has
pub record JobView : Type 0 where
  pub lun : Lun
  pub base : ℕ
  pub buffer : ℕ
  pub at : ℕ
  pub loops : List OpenLoop
  pub registers : Registers
  pub code : Option ℕ

abbrev pub loop_of : OnfiseqLoop → OpenLoop
loop_of l = record { start = l.start; left = l.left }

abbrev pub no_loop : OnfiseqLoop
no_loop = record { start = 0; left = 0 }

abbrev pub loops_in : OnfiseqLoops → List OpenLoop
loops_in l = map loop_of (take l.depth l.around)

abbrev pub opens_loop : Word → Bool
opens_loop (Loop turns) = true
opens_loop _ = false

abbrev pub code_in : ℕ → ℕ → Option ℕ
code_in has_ended code = if has_ended == 0 then None else Some code

abbrev pub registers_in : OnfiseqJob → Registers
registers_in j = record { column = j.column; index = j.index; plane = j.plane; place = j.place; status = j.status }

abbrev pub lun_in : OnfiseqJob → Lun
lun_in j = record { ce = j.ce; lun = j.lun }

abbrev pub job_view : OnfiseqJob → JobView
job_view j = record { lun = lun_in j; base = j.base; buffer = j.buffer; at = j.at; loops = loops_in j.loops; registers = registers_in j; code = code_in j.has_ended j.code }

-- the record is one that a call left, as far as it can be told
abbrev pub is_whole : OnfiseqJob → Bool
is_whole j = j.magic == 0x424f4a4f && nat_le j.loops.depth 4

-- a program before its first word
abbrev pub fresh_job : Lun → (base buffer : ℕ) → JobView
fresh_job l base buffer = record { lun = l; base = base; buffer = buffer; at = 0; loops = []; registers = fresh_registers base; code = None }

-- behind a word that is done, and brought this status
abbrev pub job_done : JobView → Word → ℕ → JobView
job_done j word status =
    record {
      lun = j.lun;
      base = j.base;
      buffer = j.buffer;
      at = place_behind j.at j.loops j.registers.status word;
      loops = loops_behind j.at j.loops word;
      registers = registers_after j.base j.registers word status;
      code = code_of word;
    }

-- behind a word that brought this status: it goes on if the word is done
abbrev pub job_behind : JobView → Word → ℕ → JobView
job_behind j word status = if is_done (outcome_of word status) then job_done j word status else j
