-- Words and lines in memory.
use Rattle.std.specs.Prelude.{◌≡◌, ⊤, ℕ, false, List, [], ◌∷◌, Option, Some, None, Result, Ok, Err}
use Rattle.std.specs.Option.{option_copied, option_to_list}
use Rattle.trace_text.specs.declared.refusal.TraceRefusal.{TraceRefusal}
use Rattle.trace_text.specs.declared.refusal.TraceRefusal.TheVariants.{Fault, OutOfMemory}
use Rattle.trace_text.specs.declared.recorded_item.RecordedItem.{RecordedItem}
use Rattle.trace_text.specs.declared.line.Fields.{Fields}
use Rattle.trace_text.specs.declared.words.Words.{Words}
use Rattle.trace_text.specs.declared.recorded_lines.RecordedLines.{RecordedLines}
use Rattle.trace_text.specs.Recorded.{is_blank, words_from, Told, told_from}

-- the words that are left of a line
abbrev pub words_left : Words → List (List ℕ)
words_left w = words_from [] w.rest.now

abbrev pub with_word : Option (List ℕ) → List (List ℕ) → List (List ℕ)
with_word None words = words
with_word (Some word) words = word ∷ words

-- the fields of an item
abbrev pub shown_fields : Fields → List (List ℕ)
shown_fields f = f.ce.now ∷ f.letter.now ∷ f.third.now ∷ option_to_list (option_copied f.fourth)

-- a text is empty, or no blank stands at its front
abbrev pub StartsWord : List ℕ → Type 0
StartsWord [] = ⊤
StartsWord (b ∷ bytes) = is_blank b ≡ false

-- what is left to be told of a text
abbrev pub told_left : RecordedLines → List Told
told_left l = told_from l.profile l.line [] l.rest.now

-- an answer is the first of what is told, after which this is left; or there is nothing, or a fault
abbrev pub IsFirst : Result (Option RecordedItem) TraceRefusal → List Told → List Told → Type 0
IsFirst (Ok None) told later = told ≡ []
IsFirst (Ok (Some item)) told later = told ≡ Ok item ∷ later
IsFirst (Err (Fault fault line)) told later = told ≡ Err (Fault fault line) ∷ []
IsFirst (Err OutOfMemory) told later = ⊥

-- an answer is that a line has an item in front of what is told later, or nothing; or that it has a fault
abbrev pub IsTaken : Result (Option RecordedItem) TraceRefusal → List Told → List Told → Type 0
IsTaken (Ok None) told later = told ≡ later
IsTaken (Ok (Some item)) told later = told ≡ Ok item ∷ later
IsTaken (Err (Fault fault line)) told later = told ≡ Err (Fault fault line) ∷ []
IsTaken (Err OutOfMemory) told later = ⊥

-- the text ends with nothing more to tell, or with a fault
abbrev pub IsEnd : Option TraceRefusal → List Told → Type 0
IsEnd None told = told ≡ []
IsEnd (Some (Fault fault line)) told = told ≡ Err (Fault fault line) ∷ []
IsEnd (Some OutOfMemory) told = ⊥
