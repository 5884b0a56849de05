-- How the header of a dump is read in memory.
use Rattle.std.specs.Prelude.{◌≡◌, ⊤, ℕ, Bool, true, false, List, ◌∷◌, None, Result, Ok, Err}
use Rattle.vcd_text.specs.declared.fault.LineFault.{LineFault}
use Rattle.vcd_text.specs.declared.fault.HeaderRefusal.{HeaderRefusal}
use Rattle.vcd_text.specs.declared.fault.HeaderRefusal.TheVariants as refusal
use Rattle.vcd_text.specs.declared.words.Word.{Word}
use Rattle.vcd_text.specs.declared.reading.Reading.{Reading}
use Rattle.vcd_text.specs.declared.reading.Dump.{Dump}
use Rattle.vcd_text.specs.declared.header.SectionStop.{SectionStop}
use Rattle.vcd_text.specs.declared.header.SectionStop.TheVariants as stop
use Rattle.vcd_text.specs.Words.{word_of, words_left}
use Rattle.vcd_text.specs.Words as words
use Rattle.vcd_text.specs.Header as header
use Rattle.vcd_text.specs.Body as told
use Rattle.vcd_text.specs.Sections.{shown_header, shown_begun}

-- what reading comes to from here on, of these words
abbrev pub reading_of : {A : Type 0} → Reading A → List words.Word → Result header.Read LineFault
reading_of r ws = header.reading (shown_header r.header) (shown_begun r.section) r.line ws

abbrev pub read_with : {A : Type 0} → Reading A → List words.Word → header.Read
read_with r ws = record { header = shown_header r.header; line = r.line; rest = ws }

-- after a word the header is whole, or it is read on from where reading is then; or the word has a fault; of memory that was refused nothing is said
abbrev pub IsHeaderWord : {A : Type 0} → Reading A → Word → Result Bool HeaderRefusal → Reading A → Type 0
IsHeaderWord old word (Ok true) new = (later : List words.Word) → reading_of old (word_of word ∷ later) ≡ Ok (read_with new later)
IsHeaderWord old word (Ok false) new = (later : List words.Word) → reading_of old (word_of word ∷ later) ≡ reading_of new later
IsHeaderWord old word (Err (refusal.Fault f)) new = (later : List words.Word) → reading_of old (word_of word ∷ later) ≡ Err f
IsHeaderWord old word (Err refusal.OutOfMemory) new = ⊤

-- the dump stands at the beginning of the body of this header
abbrev pub read_of : {A : Type 0} → Dump A → header.Read
read_of d = record { header = shown_header d.header; line = d.body.line; rest = words_left d.body.words }

-- a body begins at time 0, and anything may come
abbrev pub beginning : told.Place
beginning = record { time = 0; next = told.Anything }

-- a refusal is the fault that reading tells; of memory that was refused nothing is said
abbrev pub IsRefusalOf : HeaderRefusal → Result header.Read LineFault → Type 0
IsRefusalOf (refusal.Fault f) read = read ≡ Err f
IsRefusalOf refusal.OutOfMemory read = ⊤

abbrev pub stopped : SectionStop → ℕ → HeaderRefusal
stopped (stop.Fault fault) line = refusal.Fault (record { fault = fault; line = line })
stopped stop.OutOfMemory line = refusal.OutOfMemory

-- what becomes of reading where a section ends: the header is whole, or it is read on; or the section has a fault
abbrev pub IsClosing : {A : Type 0} → Reading A → header.Section → ℕ → Result Bool HeaderRefusal → Reading A → Type 0
IsClosing old section line (Ok true) new =
    (header.closed (shown_header old.header) section ≡ Ok (shown_header new.header)) × (header.ends_header section.keyword ≡ true) × (new.line ≡ line)
IsClosing old section line (Ok false) new =
    (header.closed (shown_header old.header) section ≡ Ok (shown_header new.header)) × (header.ends_header section.keyword ≡ false) × (new.line ≡ line) × (shown_begun new.section ≡ None)
IsClosing old section line (Err (refusal.Fault f)) new = header.at_line line (header.closed (shown_header old.header) section) ≡ Err f
IsClosing old section line (Err refusal.OutOfMemory) new = ⊤
