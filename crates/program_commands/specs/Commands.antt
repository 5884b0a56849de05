-- What the commands come to: what was read, what is printed or written of it, and what it may be refused for.
use Rattle.std.specs.Prelude.{◌≡◌, ◌⊎◌, ◌++◌, ◌∷◌, [], ℕ, ⊤, Bool, true, false, List, Option, Some, None, reverse}
use Rattle.std.specs.List.{All}
use Rattle.seq_files.specs.Store.{Store, Holds, with_file, with_all}
use Rattle.nand_geometry.specs.declared.parts.Parts.{Parts}
use Rattle.onfi_cycle.specs.declared.item.Item.{Item}
use Rattle.onfi_cycle.specs.declared.item.Item.TheVariants.{Cyc}
use Rattle.refused_run.specs.declared.course.End.{End}
use Rattle.refused_run.specs.Course.{IsBroken, last_item, task_of}
use Rattle.micro_word.specs.Text.{Microprogram, file2}
use Rattle.micro_asm.specs.Assembly.{assembly}
use Rattle.micro_asm.specs.Reading.{Spells}
use Rattle.micro_program.specs.Safe.{IsSafe}
use Rattle.micro_walk.specs.Faults.{fault_of}
use Rattle.micro_lint.specs.Least.{HasLeastHeader}
use Rattle.micro_walk.specs.Verdicts.{MayBe}
use Rattle.micro_verify.specs.declared.showing.Counter.{Counter as Counted}
use Rattle.micro_verify.specs.Lazy.{Counter}
use Rattle.micro_verify.specs.Calm.{counter_of}
use Rattle.trace_text.specs.Line.{IsPrintable}
use Rattle.trace_files.specs.declared.outputs.TraceOutputs.{TraceOutputs}
use Rattle.trace_files.specs.Files.{files_of}
use Rattle.seq_inputs.specs.declared.page_file.PageFile.{PageFile}
use Rattle.seq_inputs.specs.Inputs.{HasPage, PageIsRefused, HasFile, HasProgram, ProgramIsRefused, RefusesSource, RefusesReason}
use Rattle.seq_inputs.specs.Headed.{HasWordsOf, RefusesHeaded}
use Rattle.seq_inputs.specs.declared.fault.Fault.{Fault}
use Rattle.seq_inputs.specs.declared.fault.Fault.TheVariants.{Text}

-- ---- asm

-- the bytes are the word file, in format 2, of the microprogram that the lines of the text spell
abbrev pub SpellsFile : List ℕ → List ℕ → Type 0
SpellsFile text bytes = (x : Microprogram) × Spells text x × (bytes ≡ file2 x)

-- the text at one path is assembled, and the file at the other is its word file; no other file changes
pub record IsAssembled (files later : Option Store) (input target : List ℕ) : Type 0 where
  pub text : List ℕ
  pub is_there : Holds files input text
  pub bytes : List ℕ
  pub spelled : SpellsFile text bytes
  pub written : later ≡ with_file files target bytes

pub record SourceIsRefused (files : Option Store) (path : List ℕ) (fault : Fault) : Type 0 where
  pub text : List ℕ
  pub is_there : Holds files path text
  pub refuses : RefusesSource text fault

-- ---- asm for a chip

-- it is safe for the geometry, there is nothing against it, and its header is the least, where it has no loop
pub record HasSafeWordsOf (g : Parts) (text : List ℕ) (y : Microprogram) : Type 0 where
  pub has_words : HasWordsOf text y
  pub safe : IsSafe y g
  pub faultless : fault_of g y ≡ None
  pub least : HasLeastHeader g y

-- the file at the other path is the word file of a microprogram with the words of the text, which is safe for the geometry of the page; no other file changes
pub record IsAssembledFor (files later : Option Store) (page : PageFile) (input target : List ℕ) : Type 0 where
  pub g : Parts
  pub has_page : HasPage files page g
  pub text : List ℕ
  pub is_there : Holds files input text
  pub y : Microprogram
  pub is_safe : HasSafeWordsOf g text y
  pub written : later ≡ with_file files target (file2 y)

-- there is this reason against a microprogram with the words of the text
pub record WordsAreRefused (g : Parts) (text : List ℕ) (fault : Fault) : Type 0 where
  pub y : Microprogram
  pub has_words : HasWordsOf text y
  pub refuses : RefusesReason g y fault

-- the first fault of the text, or what is against its words
abbrev pub RefusesFor : Parts → List ℕ → Fault → Type 0
RefusesFor g text fault = RefusesHeaded text fault ⊎ WordsAreRefused g text fault

pub record TextIsRefusedFor (files : Option Store) (page : PageFile) (input : List ℕ) (fault : Fault) : Type 0 where
  pub g : Parts
  pub has_page : HasPage files page g
  pub text : List ℕ
  pub is_there : Holds files input text
  pub refuses : RefusesFor g text fault

-- the page is refused, or the text
abbrev pub AssembleForRefuses : Option Store → (page : PageFile) → (input : List ℕ) → Fault → Type 0
AssembleForRefuses files page input fault = PageIsRefused files page.path.now fault ⊎ TextIsRefusedFor files page input fault

-- ---- dis

-- what is printed is the assembly text of the microprogram whose word file stands at the path, and its lines spell that
pub record IsDisassembled (files : Option Store) (input printed : List ℕ) : Type 0 where
  pub x : Microprogram
  pub has_file : HasFile files input x
  pub is_assembly : printed ≡ assembly x
  pub spells : Spells printed x

-- ---- upgrade

-- the file at one path is a microprogram's, and that at the other is its word file in format 2; no other file changes
pub record IsUpgraded (files later : Option Store) (input target : List ℕ) : Type 0 where
  pub x : Microprogram
  pub has_file : HasFile files input x
  pub written : later ≡ with_file files target (file2 x)

-- ---- a page and a microprogram that are read one after the other

-- the file is refused, and the page before it isn't
pub record FileIsRefusedNext (files : Option Store) (page : PageFile) (input : List ℕ) (fault : Fault) : Type 0 where
  pub g : Parts
  pub has_page : HasPage files page g
  pub file_refused : ProgramIsRefused files input fault

-- the page is refused, or else the file
abbrev pub ReadRefuses : Option Store → (page : PageFile) → (input : List ℕ) → Fault → Type 0
ReadRefuses files page input fault = PageIsRefused files page.path.now fault ⊎ FileIsRefusedNext files page input fault

-- ---- explain

-- the page and the microprogram can be read; whether the microprogram is accepted is no matter
pub record IsExplained (files : Option Store) (page : PageFile) (input : List ℕ) : Type 0 where
  pub g : Parts
  pub has_page : HasPage files page g
  pub x : Microprogram
  pub has_program : HasProgram files input x

-- ---- verify

-- the file, an assembly text or a word file, is that of a microprogram which is safe for the geometry of the page, and against which there is nothing
pub record IsAccepted (files : Option Store) (page : PageFile) (input : List ℕ) : Type 0 where
  pub g : Parts
  pub has_page : HasPage files page g
  pub x : Microprogram
  pub has_program : HasProgram files input x
  pub safe : IsSafe x g
  pub faultless : fault_of g x ≡ None

-- a run and the cycle after it can be printed
abbrev pub RunCanBePrinted : Counter → Type 0
RunCanBePrinted c = All IsPrintable (c.items ++ (c.cycle ∷ []))

-- the same of what the code shows, if anything
abbrev pub CanBePrinted : {A : Type 0} → Option (Counted A) → Type 0
CanBePrinted None = ⊤
CanBePrinted (Some c) = All IsPrintable (c.items.items ++ (Cyc c.cycle ∷ []))

-- what is left of the run of a refusal and the cycle after it that isn't permitted, where the refusal has its run: the files that are asked for of it,
-- on a channel of one target
abbrev pub LeavesRun : TraceOutputs → Parts → Option Counter → (files later : Option Store) → Type 0
LeavesRun outputs g None files later = later ≡ files
LeavesRun outputs g (Some c) files later = (drawn : List ℕ) × (later ≡ with_all (files_of outputs g 1 (c.items ++ (c.cycle ∷ [])) drawn) files)

-- the files that are asked for of a run on a channel of one target, or none
abbrev pub WritesFound : TraceOutputs → Parts → List Item → Bool → (files later : Option Store) → Type 0
WritesFound outputs g items false files later = later ≡ files
WritesFound outputs g items true files later = (drawn : List ℕ) × (later ≡ with_all (files_of outputs g 1 items drawn) files)

-- those of a run of the microprogram that breaks, and of the item that isn't permitted then, if it comes to one
pub record WritesRun (outputs : TraceOutputs) (g : Parts) (x : Microprogram) (files later : Option Store) : Type 0 where
  pub items : List Item
  pub end : End
  pub broken : IsBroken (task_of g x) (reverse items) end
  pub written : WritesFound outputs g (items ++ last_item end.item) true files later

-- a run was found and is left, or files are as they were
abbrev pub LeavesFound : TraceOutputs → Parts → Microprogram → (files later : Option Store) → Type 0
LeavesFound outputs g x files later = (later ≡ files) ⊎ WritesRun outputs g x files later

-- what is left of the run of a refusal: of the one that the refusal has, or else of one that was searched for
abbrev pub LeavesShown : TraceOutputs → Parts → Microprogram → Option Counter → (files later : Option Store) → Type 0
LeavesShown outputs g x None files later = LeavesFound outputs g x files later
LeavesShown outputs g x (Some c) files later = LeavesRun outputs g (Some c) files later

-- a reason against the microprogram, for this geometry, with what is left of its run
abbrev pub RefusesText : Parts → Microprogram → TraceOutputs → (files later : Option Store) → Fault → Type 0
RefusesText g x counter files later (Text reason word) =
    MayBe g x (record { word = word; reason = reason }) × LeavesShown counter g x (counter_of g x (record { word = word; reason = reason })) files later
RefusesText g x counter files later _ = ⊥

pub record TextIsRefused (files later : Option Store) (page : PageFile) (input : List ℕ) (counter : TraceOutputs) (fault : Fault) : Type 0 where
  pub g : Parts
  pub has_page : HasPage files page g
  pub x : Microprogram
  pub has_program : HasProgram files input x
  pub refuses : RefusesText g x counter files later fault

-- the page is refused, or the file, or its text; the run of a text alone is left
abbrev pub VerifyRefuses : (files later : Option Store) → (page : PageFile) → (input : List ℕ) → (counter : TraceOutputs) → Fault → Type 0
VerifyRefuses files later page input counter fault =
    (ReadRefuses files page input fault × (later ≡ files)) ⊎ TextIsRefused files later page input counter fault

-- files are as they were, or those of the run of a refusal are left
pub record VerifyLeaves (files later : Option Store) (page : PageFile) (input : List ℕ) (counter : TraceOutputs) : Type 0 where
  pub left : (later ≡ files) ⊎ ((fault : Fault) × TextIsRefused files later page input counter fault)
