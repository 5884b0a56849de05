-- What a line in memory says, whose names are borrowed from the text.
use Rattle.std.specs.Prelude.{◌≡◌, Result, Ok, Err}
use Rattle.micro_asm.specs.declared.refusal.AsmFault.{AsmFault}
use Rattle.micro_asm.specs.declared.statement.Entry.{Entry}
use Rattle.micro_asm.specs.declared.statement.Entry.TheVariants as entry
use Rattle.micro_asm.specs.declared.statement.Statement.{Statement}
use Rattle.micro_asm.specs.declared.statement.Statement.TheVariants as statement
use Rattle.micro_asm.specs.Line as line

abbrev pub shown_entry : Entry → line.Entry
shown_entry (entry.Plain word) = line.Plain word
shown_entry (entry.Branch mask to) = line.Branch mask to.now
shown_entry (entry.Jump to) = line.Jump to.now

abbrev pub shown_line : Statement → line.Line
shown_line statement.Nothing = line.Nothing
shown_line (statement.Header setting) = line.Header setting
shown_line (statement.Label name) = line.Label name.now
shown_line (statement.Entered e) = line.Entered (shown_entry e)

-- an answer is this line or this fault
abbrev pub IsLine : Result Statement AsmFault → Result line.Line AsmFault → Type 0
IsLine (Ok s) spelled = spelled ≡ Ok (shown_line s)
IsLine (Err e) spelled = spelled ≡ Err e
