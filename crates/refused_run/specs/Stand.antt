-- Where a program stands in a run, and what its words leave of that.
use Rattle.std.specs.Prelude.{ℕ, ◌+◌, ◌-◌, ◌==◌, Bool, true, false, ◌||◌, if◌then◌else◌, Option, Some, None}
use Rattle.nand_geometry.specs.declared.parts.Parts.{Parts}
use Rattle.micro_word.specs.declared.word.Word.{Word}
use Rattle.micro_word.specs.declared.word.Word.TheVariants.{Wait, Yield, ReadStatus, BranchOnStatus, Loop, Next, Jump}
use Rattle.micro_program.specs.Program.{cost, meets}
use Rattle.seq_core.specs.declared.stepped.Stepped.{Stepped}
use Rattle.seq_core.specs.declared.stepped.Stepped.TheVariants.{NotReady}
use Rattle.seq_core.specs.Progress.{registers_after, outcome_of}
use Rattle.refused_run.specs.declared.loops.LoopTurn.{LoopTurn}
use Rattle.refused_run.specs.declared.loops.Loops.{Loops}
use Rattle.refused_run.specs.declared.stand.Stand.{Stand}

-- ---- loops

-- a loop more
abbrev pub entered : Loops → LoopTurn → Loops
entered l turn = record { first = Some turn; second = l.first; third = l.second; fourth = l.third }

-- without the innermost
abbrev pub left : Loops → Loops
left l = record { first = l.second; second = l.third; third = l.fourth; fourth = None }

-- behind the last word of the innermost loop: its first word if a turn is left, else the word behind it
abbrev pub next_place : ℕ → Option LoopTurn → ℕ
next_place at None = at + 1
next_place at (Some turn) = if turn.left == 0 then at + 1 else turn.start

-- with a turn less
abbrev pub fewer_turns : Loops → LoopTurn → Loops
fewer_turns l turn = record { first = Some (record { start = turn.start; left = turn.left - 1 }); second = l.second; third = l.third; fourth = l.fourth }

-- the loops behind that word, by the innermost
abbrev pub loops_after : Loops → Option LoopTurn → Loops
loops_after l None = left l
loops_after l (Some turn) = if turn.left == 0 then left l else fewer_turns l turn

-- ---- words

-- the word asks for the status
abbrev pub is_poll : Word → Bool
is_poll Wait = true
is_poll ReadStatus = true
is_poll _ = false

-- the program has the bus behind the word
abbrev pub keeps_bus : Word → Bool
keeps_bus Yield = false
keeps_bus _ = true

-- the place behind a word
abbrev pub place_after : Stand → Word → ℕ
place_after s (BranchOnStatus mask target) = if meets mask s.registers.status then target else s.at + 1
place_after s (Jump target) = target
place_after s Next = next_place s.at s.loops.first
place_after s _ = s.at + 1

-- the loops behind it
abbrev pub loops_behind : Stand → Word → Loops
loops_behind s (Loop turns) = entered s.loops (record { start = s.at + 1; left = turns - 1 })
loops_behind s Next = loops_after s.loops s.loops.first
loops_behind s _ = s.loops

-- behind a word that is done; a poll has brought this status
abbrev pub done : Parts → Stand → Word → ℕ → Stand
done g s word status =
    record {
      at = place_after s word;
      loops = loops_behind s word;
      registers = registers_after 0 s.registers word status;
      spent = s.spent + cost g word;
      polled = s.polled || is_poll word;
      holds = keeps_bus word;
    }

-- the bus is free, and the word comes again
abbrev pub waiting : Stand → Stand
waiting s = record { at = s.at; loops = s.loops; registers = s.registers; spent = s.spent; polled = s.polled; holds = false }

abbrev pub stand_by : Stepped → Parts → Stand → Word → ℕ → Stand
stand_by NotReady g s word status = waiting s
stand_by _ g s word status = done g s word status

-- behind a word whose cycles have come
abbrev pub stand_after : Parts → Stand → Word → ℕ → Stand
stand_after g s word status = stand_by (outcome_of word status) g s word status

-- before the first word
abbrev pub first_stand : Stand
first_stand =
    record {
      at = 0;
      loops = record { first = None; second = None; third = None; fourth = None };
      registers = record { column = 0; index = 0; plane = 0; place = 0; status = 0 };
      spent = 0;
      polled = false;
      holds = false;
    }
