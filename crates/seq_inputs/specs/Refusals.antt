-- What is wrong with a file, and the line that says it.
use Rattle.std.specs.Prelude.{ℕ, List, Option, Some, None}
use Rattle.seq_inputs.specs.declared.fault.Fault.{Fault}
use Rattle.seq_inputs.specs.declared.fault.Fault.TheVariants.{Page, Source, File, Text, Job, Image, Statement}
use Rattle.seq_inputs.specs.declared.refusal.Refusal.{Refusal}
use Rattle.nand_geometry.specs.Codes.{page_fault_code}
use Rattle.micro_asm.specs.Codes.{asm_fault_code}
use Rattle.micro_word.specs.Codes.{word_fault_code}
use Rattle.micro_claims.specs.Codes.{reason_code}
use Rattle.seq_core.specs.Codes.{job_fault_code}
use Rattle.die_model.specs.Loading.{code as image_fault_code}
use Rattle.run_file.specs.Line.{code as line_fault_code}
use Rattle.seq_inputs.specs.Lines.{refusal_line}

-- its code
abbrev pub code_of : Fault → List ℕ
code_of (Page fault) = page_fault_code fault
code_of (Source fault line) = asm_fault_code fault
code_of (File fault word) = word_fault_code fault
code_of (Text reason word) = reason_code reason
code_of (Job fault) = job_fault_code fault
code_of (Image fault) = image_fault_code fault
code_of (Statement fault) = line_fault_code fault

-- the line or the word in the file; 0 where there is none
abbrev pub number_in : Fault → ℕ
number_in (Page fault) = 0
number_in (Source fault line) = line
number_in (File fault word) = word
number_in (Text reason word) = word
number_in (Job fault) = 0
number_in (Image fault) = 0
number_in (Statement fault) = 0

-- the line of the run file that names the file, or else the number in the file
abbrev pub number_or : ℕ → Option ℕ → ℕ
number_or number None = number
number_or number (Some line) = line

abbrev pub number_of : Refusal → ℕ
number_of refusal = number_or (number_in refusal.fault) refusal.line

-- the line of a refusal
abbrev pub line_of : Refusal → List ℕ
line_of refusal = refusal_line (code_of refusal.fault) (number_of refusal)

-- the refusal of a file that no run file names
abbrev pub refusal_of : Fault → Refusal
refusal_of fault = record { fault = fault; line = None }
