-- The letters and numbers of an answer.
use Rattle.std.specs.Prelude.{ℕ}
use Rattle.onfi_cycle.specs.Codes.{rule_number}
use Rattle.micro_word.specs.Codes.{word_fault_number}
use Rattle.micro_word.specs.declared.refusal.WordRefusal.TheVariants.{Fault, OutOfMemory}
use Rattle.seq_core.specs.Codes.{job_fault_number}
use Rattle.word_file.specs.declared.word.WordMissing.TheVariants as missing
use Rattle.onfiseq_live_c.specs.declared.stop.Stop.{Stop}
use Rattle.onfiseq_live_c.specs.declared.stop.Stop.TheVariants as stop

-- D, E, H, M, N, B, L, R, F, C and S
abbrev pub letter_of : Stop → ℕ
letter_of stop.Damaged = 68
letter_of (stop.Ended code) = 69
letter_of stop.Held = 72
letter_of (stop.Word (missing.Fault refusal)) = 77
letter_of (stop.Word missing.PastTheEnd) = 78
letter_of stop.BufferTooShort = 66
letter_of stop.TooDeep = 76
letter_of stop.RowOutside = 82
letter_of (stop.Breaks rule) = 70
letter_of stop.WrongCount = 67
letter_of (stop.Unfit fault) = 83

abbrev pub number_of : Stop → ℕ
number_of (stop.Ended code) = code
number_of (stop.Word (missing.Fault (Fault fault word))) = word_fault_number fault
number_of (stop.Word (missing.Fault OutOfMemory)) = 0
number_of (stop.Word missing.PastTheEnd) = 0
number_of (stop.Breaks rule) = rule_number rule
number_of (stop.Unfit fault) = job_fault_number fault
number_of stop.Damaged = 0
number_of stop.Held = 0
number_of stop.BufferTooShort = 0
number_of stop.TooDeep = 0
number_of stop.RowOutside = 0
number_of stop.WrongCount = 0
