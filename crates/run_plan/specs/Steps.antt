-- How many words the programs of a run step at most.
use Rattle.std.specs.Prelude.{ℕ, ◌+◌, ◌*◌, ◌-◌, ◌^◌, min, List, [], ◌∷◌, length}
use Rattle.std.specs.List.{sum_by}
use Rattle.micro_word.specs.declared.word.Word.{Word}
use Rattle.micro_word.specs.declared.word.Word.TheVariants.{Loop, Next}
use Rattle.micro_program.specs.Lines.{unrolled}
use Rattle.micro_program.specs.Program.{Job}

-- a number of 64 bits: what is greater counts as the greatest of them
abbrev pub capped : ℕ → ℕ
capped n = min (2 ^ 64 - 1) n

-- how many words the program of a job steps at most: its loops are written out, the polls of a `wait` count once, and a branch that is taken leaves words out
abbrev pub steps_of : Job → ℕ
steps_of job = length (unrolled job.text.words)

-- the programs of all these jobs
abbrev pub steps_of_all : List Job → ℕ
steps_of_all jobs = capped (sum_by steps_of jobs)

-- ---- counting without writing the loops out, from the last word on

-- how many words are to come up to the end of their loop, and how many follow that loop and each loop around it, the innermost first
pub record Counted : Type 0 where
  pub words : ℕ
  pub outer : List ℕ

abbrev pub none_counted : Counted
none_counted = record { words = 0; outer = [] }

-- a loop: its words as often as it has turns, and what follows it
abbrev pub loop_counted : ℕ → ℕ → List ℕ → Counted
loop_counted turns words [] = record { words = capped (words + 1); outer = [] }
loop_counted turns words (rest ∷ outer) = record { words = capped (capped (capped (words * turns) + rest) + 1); outer = outer }

-- with a word in front: `next` is the last word of its loop
abbrev pub counted_before : Word → Counted → Counted
counted_before Next c = record { words = 1; outer = c.words ∷ c.outer }
counted_before (Loop turns) c = loop_counted turns c.words c.outer
counted_before _ c = record { words = capped (c.words + 1); outer = c.outer }

-- the words of a text
abbrev pub counted_from : List Word → Counted
counted_from [] = none_counted
counted_from (word ∷ words) = counted_before word (counted_from words)
