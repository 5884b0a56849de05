-- What the files of a command are: parameter pages, word files and assembly texts, and what they may be refused for.
use Rattle.std.specs.Prelude.{◌≡◌, ◌⊎◌, ◌∷◌, [], ◌==◌, ◌||◌, if◌then◌else◌, ℕ, Bool, true, false, List, Option, Ok, Err, None, codes}
use Rattle.std.specs.List.{starts_with}
use Rattle.seq_files.specs.Store.{Store, Holds}
use Rattle.nand_geometry.specs.declared.parts.Parts.{Parts}
use Rattle.nand_geometry.specs.declared.optional.Profile.{Profile}
use Rattle.nand_geometry.specs.Reading.{read_as, read_of}
use Rattle.micro_word.specs.declared.refusal.WordRefusal.TheVariants.{Fault as WordFaultAt}
use Rattle.micro_asm.specs.declared.refusal.AsmRefusal.TheVariants.{Fault as AsmFaultAt}
use Rattle.micro_asm.specs.Reading.{Spells, reading as source_reading}
use Rattle.micro_word.specs.Text.{Microprogram, IsFileOf}
use Rattle.micro_word.specs.Reading.{reading as file_reading}
use Rattle.micro_program.specs.Safe.{IsSafe}
use Rattle.micro_walk.specs.Faults.{fault_of}
use Rattle.micro_walk.specs.Verdicts.{MayBe}
use Rattle.seq_inputs.specs.Headed.{is_headless, HasWordsOf, RefusesHeaded}
use Rattle.seq_inputs.specs.declared.fault.Fault.{Fault}
use Rattle.seq_inputs.specs.declared.page_file.PageFile.{PageFile}
use Rattle.seq_inputs.specs.declared.fault.Fault.TheVariants.{Page, Source, File, Text}

-- ---- parameter pages

-- the page at this path declares the geometry, read for this profile
pub record HasPageAs (files : Option Store) (profile : Profile) (path : List ℕ) (g : Parts) : Type 0 where
  pub page : List ℕ
  pub is_page : Holds files path page
  pub declares : read_as profile page ≡ Ok g

-- a page that is named with its profile
abbrev pub HasPage : Option Store → PageFile → Parts → Type 0
HasPage files page g = HasPageAs files page.profile page.path.now g

-- the first fault of a parameter page, which is the same in each profile
abbrev pub RefusesPage : List ℕ → Fault → Type 0
RefusesPage page (Page fault) = read_of page ≡ Err fault
RefusesPage page _ = ⊥

pub record PageIsRefused (files : Option Store) (path : List ℕ) (fault : Fault) : Type 0 where
  pub page : List ℕ
  pub is_page : Holds files path page
  pub refuses : RefusesPage page fault

-- ---- word files

-- the word file at this path is the microprogram's
pub record HasFile (files : Option Store) (path : List ℕ) (x : Microprogram) : Type 0 where
  pub bytes : List ℕ
  pub is_bytes : Holds files path bytes
  pub is_file : IsFileOf bytes x

-- the first fault of a word file
abbrev pub RefusesFile : List ℕ → Fault → Type 0
RefusesFile bytes (File fault word) = file_reading bytes ≡ Err (WordFaultAt fault word)
RefusesFile bytes _ = ⊥

pub record FileIsRefused (files : Option Store) (path : List ℕ) (fault : Fault) : Type 0 where
  pub bytes : List ℕ
  pub is_bytes : Holds files path bytes
  pub refuses : RefusesFile bytes fault

-- ---- assembly texts

-- a space, a tab, or the end of a line
abbrev pub is_blank : ℕ → Bool
is_blank byte = byte == 32 || (byte == 9 || (byte == 10 || byte == 13))

-- a file is taken for an assembly text, and for no word file, exactly when it begins with a comment or with the header line `rows`, blanks before it left out
unfoldable pub is_source : List ℕ → Bool
is_source [] = false
is_source (byte ∷ rest) =
    if is_blank byte then is_source rest else (byte == 59 || starts_with (λ a b. a == b) (byte ∷ rest) (codes "rows"))

-- the first fault of an assembly text
abbrev pub RefusesSource : List ℕ → Fault → Type 0
RefusesSource text (Source fault line) = source_reading text ≡ Err (AsmFaultAt fault line)
RefusesSource text _ = ⊥

-- ---- microprograms, as an assembly text or as a word file

abbrev pub IsProgramAs : (is_headless is_text : Bool) → List ℕ → Microprogram → Type 0
IsProgramAs true is_text bytes x = HasWordsOf bytes x
IsProgramAs false true bytes x = Spells bytes x
IsProgramAs false false bytes x = IsFileOf bytes x

-- the bytes are an assembly text without its header, which has the words of the microprogram; or a whole one that spells it, or its word file
abbrev pub IsProgram : List ℕ → Microprogram → Type 0
IsProgram bytes x = IsProgramAs (is_headless bytes) (is_source bytes) bytes x

abbrev pub RefusesProgramAs : (is_headless is_text : Bool) → List ℕ → Fault → Type 0
RefusesProgramAs true is_text bytes fault = RefusesHeaded bytes fault
RefusesProgramAs false true bytes fault = RefusesSource bytes fault
RefusesProgramAs false false bytes fault = RefusesFile bytes fault

-- the first fault of the text or of the file
abbrev pub RefusesProgram : List ℕ → Fault → Type 0
RefusesProgram bytes fault = RefusesProgramAs (is_headless bytes) (is_source bytes) bytes fault

-- the file at this path is the microprogram's
pub record HasProgram (files : Option Store) (path : List ℕ) (x : Microprogram) : Type 0 where
  pub bytes : List ℕ
  pub is_bytes : Holds files path bytes
  pub is_program : IsProgram bytes x

pub record ProgramIsRefused (files : Option Store) (path : List ℕ) (fault : Fault) : Type 0 where
  pub bytes : List ℕ
  pub is_bytes : Holds files path bytes
  pub refuses : RefusesProgram bytes fault

-- it is that of a microprogram which is safe for the geometry, and against which there is nothing
pub record HasText (files : Option Store) (g : Parts) (path : List ℕ) (x : Microprogram) : Type 0 where
  pub has_program : HasProgram files path x
  pub safe : IsSafe x g
  pub faultless : fault_of g x ≡ None

-- a reason against a microprogram, for this geometry
abbrev pub RefusesReason : Parts → Microprogram → Fault → Type 0
RefusesReason g x (Text reason word) = MayBe g x (record { word = word; reason = reason })
RefusesReason g x _ = ⊥

-- the same of the microprogram at this path
pub record ReasonIsAgainst (files : Option Store) (g : Parts) (path : List ℕ) (fault : Fault) : Type 0 where
  pub x : Microprogram
  pub has_program : HasProgram files path x
  pub refuses : RefusesReason g x fault

-- the file at this path has this fault, or there is this reason against its microprogram
abbrev pub FileOrTextIsRefused : Option Store → Parts → List ℕ → Fault → Type 0
FileOrTextIsRefused files g path fault = ProgramIsRefused files path fault ⊎ ReasonIsAgainst files g path fault
