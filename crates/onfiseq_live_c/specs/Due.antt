-- Which word of a job is due.
use Rattle.std.specs.Prelude.{ℕ, ◌==◌, ◌&&◌, not, if◌then◌else◌, List, Option, Some, None, Result, Ok, Err, length}
use Rattle.onfi_cycle.specs.declared.lun.Lun.{Lun}
use Rattle.micro_word.specs.declared.word.Word.{Word}
use Rattle.micro_program.specs.Program.{fits}
use Rattle.seq_core.specs.After.{is_held}
use Rattle.word_file.specs.declared.word.WordMissing.{WordMissing}
use Rattle.word_file.specs.Words.{word_in}
use Rattle.onfiseq_live_c.specs.declared.stop.Stop.{Stop}
use Rattle.onfiseq_live_c.specs.declared.stop.Stop.TheVariants as stop
use Rattle.onfiseq_live_c.specs.Job.{JobView, opens_loop}

-- where there is a value, go on with it
abbrev pub and_do : {A B : Type 0} → Result A Stop → (A → Result B Stop) → Result B Stop
and_do (Ok x) next = next x
and_do (Err stop) next = Err stop

-- a word stays inside the buffer, and opens no fifth loop
abbrev pub checked : JobView → Word → Result Word Stop
checked j word =
    if not (fits j.buffer j.registers.place word) then Err stop.BufferTooShort
    else (if opens_loop word && length j.loops == 4 then Err stop.TooDeep else Ok word)

abbrev pub found : JobView → Result Word WordMissing → Result Word Stop
found j (Ok word) = checked j word
found j (Err missing) = Err (stop.Word missing)

abbrev pub unless_ended : Option ℕ → Result Word Stop → Result Word Stop
unless_ended (Some code) due = Err (stop.Ended code)
unless_ended None due = due

-- the next word of a job that goes on, where no other LUN has the bus
abbrev pub due : Option Lun → JobView → List ℕ → Result Word Stop
due holder j file = unless_ended j.code (if is_held holder j.lun then Err stop.Held else found j (word_in file j.at))
