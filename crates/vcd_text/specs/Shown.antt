-- What is read of a dump in memory, whose bits are borrowed from the text.
use Rattle.std.specs.Prelude.{◌≡◌, ⊤, ℕ, ◌<◌, List, [], ◌∷◌, ◌++◌, length, Option, Some, None, Result, Ok, Err}
use Rattle.vcd_text.specs.declared.fault.DumpFault.{DumpFault}
use Rattle.vcd_text.specs.declared.fault.DumpFault.TheVariants.{NoCode}
use Rattle.vcd_text.specs.declared.fault.LineFault.{LineFault}
use Rattle.vcd_text.specs.declared.body.Event.{Event}
use Rattle.vcd_text.specs.declared.body.Event.TheVariants as event
use Rattle.vcd_text.specs.declared.body.Next.{Next}
use Rattle.vcd_text.specs.declared.body.Next.TheVariants as next
use Rattle.vcd_text.specs.declared.body.Said.{Said}
use Rattle.vcd_text.specs.declared.body.Said.TheVariants as said
use Rattle.vcd_text.specs.declared.body.Progress.{Progress}
use Rattle.vcd_text.specs.declared.body.Progress.TheVariants as progress
use Rattle.vcd_text.specs.declared.body.Body.{Body}
use Rattle.vcd_text.specs.declared.body.Standing.{Standing}
use Rattle.vcd_text.specs.declared.words.Words.{Words}
use Rattle.vcd_text.specs.Words.{words_left, GoesOn}
use Rattle.vcd_text.specs.Words as words
use Rattle.vcd_text.specs.Body as told

abbrev pub shown_event : Event → told.Event
shown_event (event.Time time) = told.Time time
shown_event (event.Change code bits) = told.Change code bits.now

abbrev pub shown_next : Next → told.Next
shown_next next.Anything = told.Anything
shown_next next.OtherCode = told.OtherCode
shown_next next.Comment = told.Comment

-- ---- a word

abbrev pub shown_said : Said → told.Said
shown_said (said.Nothing n) = told.Quiet (shown_next n)
shown_said (said.Told e) = told.Tells (shown_event e)
shown_said (said.Bits bits) = told.Quiet (told.CodeOf bits.now)

-- an answer is this, or this fault
abbrev pub IsSaid : Result Said DumpFault → Result told.Said DumpFault → Type 0
IsSaid (Ok s) word = word ≡ Ok (shown_said s)
IsSaid (Err f) word = word ≡ Err f

-- the same of something that is told
abbrev pub IsTelling : Result Event DumpFault → Result told.Said DumpFault → Type 0
IsTelling (Ok e) word = word ≡ Ok (told.Tells (shown_event e))
IsTelling (Err f) word = word ≡ Err f

-- ---- a body, and a piece of one

abbrev pub place_of : Body → told.Place
place_of b = record { time = b.time; next = shown_next b.next }

abbrev pub standing_of : Body → Standing
standing_of b = record { time = b.time; next = b.next; line = b.line; next_line = b.words.line }

-- what is left to be told
abbrev pub told_left : told.Widths → Body → List told.Told
told_left widths b = told.told_from widths (place_of b) b.line (words_left b.words)

-- the same where other words come after those that are left
abbrev pub told_before : told.Widths → Body → List words.Word → List told.Told
told_before widths b later = told.told_from widths (place_of b) b.line (words_left b.words ++ later)

-- what a text tells from where reading stands
abbrev pub told_at : told.Widths → Standing → List ℕ → List told.Told
told_at widths s text = told.told_from widths (record { time = s.time; next = shown_next s.next }) s.line (words.words_from s.next_line [] text)

-- the words of a piece are over, or what is left are the bits of a vector without their code
abbrev pub IsOverWith : told.Widths → told.Place → ℕ → List words.Word → Type 0
IsOverWith widths place line [] = ⊤
IsOverWith widths place line (w ∷ []) = told.told_from widths place line (w ∷ []) ≡ told.fault_in w.line NoCode ∷ []
IsOverWith widths place line (w ∷ x ∷ more) = ⊥

abbrev pub IsOver : told.Widths → Body → Type 0
IsOver widths b = IsOverWith widths (place_of b) b.line (words_left b.words)

-- what came of reading on, whatever words come later
abbrev pub IsProgress : told.Widths → Body → Result Progress LineFault → Body → Type 0
IsProgress widths old (Ok (progress.Told e)) new = (later : List words.Word) → told_before widths old later ≡ Ok (shown_event e) ∷ told_before widths new later
IsProgress widths old (Ok progress.Quiet) new = (later : List words.Word) → told_before widths old later ≡ told_before widths new later
IsProgress widths old (Ok progress.Over) new = ((later : List words.Word) → told_before widths old later ≡ told_before widths new later) × IsOver widths new
IsProgress widths old (Err f) new = (later : List words.Word) → told_before widths old later ≡ Err f ∷ []

-- what is told of the code of a vector with these bits and of words after it
abbrev pub told_coded : told.Widths → Body → (bits : List ℕ) → (line : ℕ) → List words.Word → List told.Told
told_coded widths b bits line ws = told.told_from widths (record { time = b.time; next = told.CodeOf bits }) line ws

-- the code of a vector with these bits is read, or it isn't among these words
abbrev pub IsCoded : told.Widths → Body → Words → (bits : List ℕ) → Result Progress LineFault → Body → Type 0
IsCoded widths old ws bits (Ok (progress.Told e)) new =
    ((line : ℕ) (later : List words.Word) → told_coded widths old bits line (words_left ws ++ later) ≡ Ok (shown_event e) ∷ told_before widths new later)
    × GoesOn ws new.words × (length new.words.rest.now < length ws.rest.now)
IsCoded widths old ws bits (Ok progress.Quiet) new = ⊥
IsCoded widths old ws bits (Ok progress.Over) new = (words_left ws ≡ []) × (new ≡ old)
IsCoded widths old ws bits (Err f) new = ((line : ℕ) (later : List words.Word) → told_coded widths old bits line (words_left ws ++ later) ≡ Err f ∷ []) × (new ≡ old)

-- reading goes on in the words, by one of them where something is told or read
abbrev pub Moves : Body → Result Progress LineFault → Body → Type 0
Moves old (Ok (progress.Told e)) new = GoesOn old.words new.words × (length new.words.rest.now < length old.words.rest.now)
Moves old (Ok progress.Quiet) new = GoesOn old.words new.words × (length new.words.rest.now < length old.words.rest.now)
Moves old (Ok progress.Over) new = GoesOn old.words new.words
Moves old (Err f) new = GoesOn old.words new.words

-- the next of what a piece tells, or nothing whole is left in it, or a fault, whatever words come later
abbrev pub IsNext : told.Widths → Body → Result (Option Event) LineFault → Body → Type 0
IsNext widths old (Ok (Some e)) new = (later : List words.Word) → told_before widths old later ≡ Ok (shown_event e) ∷ told_before widths new later
IsNext widths old (Ok None) new = ((later : List words.Word) → told_before widths old later ≡ told_before widths new later) × IsOver widths new
IsNext widths old (Err f) new = (later : List words.Word) → told_before widths old later ≡ Err f ∷ []

-- the file ends with nothing more to tell, or with a fault
abbrev pub IsEnd : Option LineFault → List told.Told → Type 0
IsEnd None told = told ≡ []
IsEnd (Some f) told = told ≡ Err f ∷ []
