-- What running a word file once comes to: the line of its refusal, or the text of its run.
use Rattle.std.specs.Prelude.{◌≡◌, ℕ, Bool, true, false, List, [], ◌∷◌, ◌++◌, ◌⊎◌, Option, Some, None, Result, Ok, Err, replicate, reverse}
use Rattle.nand_geometry.specs.declared.parts.Parts.{Parts}
use Rattle.nand_geometry.specs.Optional.{no_optional}
use Rattle.onfi_cycle.specs.declared.lun.Lun.{Lun}
use Rattle.onfi_cycle.specs.Permitted.{is_legal}
use Rattle.onfi_cycle.specs.Channel.{Channel}
use Rattle.micro_word.specs.Text.{Microprogram, IsFileOf}
use Rattle.micro_claims.specs.declared.refusal.Fault.{Fault as TextFault}
use Rattle.micro_walk.specs.Faults.{fault_of}
use Rattle.micro_program.specs.Program.{Job}
use Rattle.micro_program.specs.Verified.{VerifiedText}
use Rattle.micro_walk.specs.Verdicts.{IsOfLoops}
use Rattle.seq_core.specs.declared.job_fault.JobFault.{JobFault}
use Rattle.seq_core.specs.World.{Slot, World, slot_of, fresh}
use Rattle.seq_core.specs.Event.{Load}
use Rattle.seq_core.specs.Reply.{ToLoad, Loaded}
use Rattle.seq_core.specs.After.{after}
use Rattle.seq_core.specs.Job.{job_of, job_fault}
use Rattle.target_bus.specs.Bus.{channel_on}
use Rattle.seq_core.specs.Alone.{alone_on}
use Rattle.trace_text.specs.Line.{text}
use Rattle.seq_inputs.specs.declared.fault.Fault.{Fault as InputFault}
use Rattle.seq_inputs.specs.declared.fault.Fault.TheVariants.{Text}
use Rattle.seq_inputs.specs.Inputs.{IsProgram, RefusesFile, RefusesProgram}
use Rattle.seq_inputs.specs.Refusals.{line_of, refusal_of}
use Rattle.micro_claims.specs.Codes.{reason_code}
use Rattle.seq_core.specs.Codes.{job_fault_code}
use Rattle.seq_inputs.specs.Lines.{refusal_line, end_line}

-- one LUN of 8 blocks of 4 pages of 512 + 16 bytes
abbrev pub one_lun : Parts
one_lun = record { page_bytes = 512; spare_bytes = 16; pages = 4; blocks = 8; luns = 1; plane_bits = 0; enhanced = false; multi_plane = false; cache = false; optional = no_optional }

-- its LUN, on a channel of one target
abbrev pub the_lun : Lun
the_lun = record { ce = 0; lun = 0 }

-- its die keeps no page, so that each is FF
abbrev pub the_channel : Channel
the_channel = channel_on one_lun 1 ([] ∷ [])

abbrev pub for_one_lun : Microprogram → VerifiedText
for_one_lun x = record { text = x; geometry = one_lun }

-- the refusal of a job
abbrev pub refused_load : Option JobFault → Option (List ℕ)
refused_load None = None
refused_load (Some fault) = Some (refusal_line (job_fault_code fault) 0)

-- that of a text, or of its job
abbrev pub refused_text : ℕ → Microprogram → Option TextFault → Option (List ℕ)
refused_text base x None = refused_load (job_fault one_lun 1 the_lun base (for_one_lun x) x.buffer)
refused_text base x (Some fault) = Some (refusal_line (reason_code fault.reason) fault.word)

-- the line of the refusal of a microprogram at a base, if it is refused. Of a text with loops, the fault of its shape or of its job
abbrev pub refused : ℕ → Microprogram → Option (List ℕ)
refused base x = refused_text base x (fault_of one_lun x)

-- a text with loops whose shape is right may also be refused at some word of it, for a reason against a word
abbrev pub IsOfLoopsIn : Microprogram → InputFault → Type 0
IsOfLoopsIn x (Text reason word) = IsOfLoops one_lun x (record { word = word; reason = reason })
IsOfLoopsIn x _ = ⊥

-- what a microprogram at a base may be refused for
abbrev pub MayBeRefused : ℕ → Microprogram → InputFault → Type 0
MayBeRefused base x fault = (refused base x ≡ Some (line_of (refusal_of fault))) ⊎ IsOfLoopsIn x fault

-- the job of a text, its buffer all 00
abbrev pub the_job : ℕ → Microprogram → Job
the_job base x = job_of the_lun base (for_one_lun x) (replicate x.buffer 0)

-- the microprogram is not refused at this base, and runs on a channel to which nothing has happened, whose pages are all FF, until it ends,
-- its LUN becoming ready without failure after each poll that says busy; and what is written are the lines of that trace and of the code
pub record IsRun (base : ℕ) (x : Microprogram) (written : List ℕ) : Type 0 where
  pub accepted : refused base x ≡ None
  pub start : World
  pub is_start : after the_channel (fresh the_channel) (Load the_lun (the_job base x)) ≡ Some (record { world = start; reply = ToLoad Loaded })
  pub turns : ℕ
  pub end : World
  pub is_end : alone_on the_channel the_lun turns start ≡ Some end
  pub legal : is_legal one_lun 1 end.past ≡ true
  pub slot : Slot
  pub is_slot : slot_of the_channel end the_lun ≡ Some slot
  pub code : ℕ
  pub is_code : slot.code ≡ Some code
  pub lines : written ≡ text (reverse end.past) ++ end_line code

-- ---- what is read

-- it is written of the microprogram of a word file
abbrev pub IsFileRun : ℕ → List ℕ → List ℕ → Type 0
IsFileRun base bytes written = (x : Microprogram) × IsFileOf bytes x × IsRun base x written

abbrev pub FileMayBeRefused : ℕ → List ℕ → InputFault → Type 0
FileMayBeRefused base bytes fault = RefusesFile bytes fault ⊎ ((x : Microprogram) × IsFileOf bytes x × MayBeRefused base x fault)

-- it is written of that of an input, which is an assembly text or a word file
abbrev pub IsProgramRun : ℕ → List ℕ → List ℕ → Type 0
IsProgramRun base bytes written = (x : Microprogram) × IsProgram bytes x × IsRun base x written

abbrev pub ProgramMayBeRefused : ℕ → List ℕ → InputFault → Type 0
ProgramMayBeRefused base bytes fault = RefusesProgram bytes fault ⊎ ((x : Microprogram) × IsProgram bytes x × MayBeRefused base x fault)
