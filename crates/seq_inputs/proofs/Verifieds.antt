-- A microprogram that was read and verified, and what it is refused for.
use Rattle.std.proofs.Common.{◌≡◌, List, ℕ, Option, None, sym, subst, inl, inr}
use Rattle.seq_files.specs.Store.{Store}
use Rattle.nand_geometry.specs.declared.parts.Parts.{Parts}
use Rattle.micro_word.specs.Text.{Microprogram}
use Rattle.micro_program.specs.Safe.{IsSafe}
use Rattle.micro_program.specs.Verified.{VerifiedText}
use Rattle.micro_walk.specs.Faults.{fault_of}
use Rattle.seq_inputs.specs.declared.fault.Fault.{Fault}
use Rattle.seq_inputs.specs.declared.stop.Stop.{Stop}
use Rattle.seq_inputs.specs.declared.stop.Stop.TheVariants.{Refused, FileFault, ReaderGone, BuffersTooLarge, OutOfMemory}
use Rattle.seq_inputs.specs.Stops.{Says}
use Rattle.seq_inputs.specs.Inputs.{HasProgram, HasText, ProgramIsRefused, RefusesReason, FileOrTextIsRefused}

pub has_text : (files : Option Store) (g : Parts) (path : List ℕ) (x : Microprogram) (v : VerifiedText) → HasProgram files path x → (v.text ≡ x) × (v.geometry ≡ g) → IsSafe x g → fault_of g x ≡ None → HasText files g path v.text × (v.geometry ≡ g)
has_text files g path x v has_program same safe faultless = (
  record {
    has_program = subst (λ (y : Microprogram). HasProgram files path y) (sym same.0) has_program;
    safe = subst (λ (y : Microprogram). IsSafe y g) (sym same.0) safe;
    faultless = subst (λ (y : Microprogram). fault_of g y ≡ None) (sym same.0) faultless;
  },
  same.1,
)

-- what is said for one of these faults is said for one of those that they may be
pub said_more : {A : Type 0} (P Q : Fault → Type 0) (e : Stop A) → ((f : Fault) → P f → Q f) → Says P e → Says Q e
said_more P Q (Refused r words) more says = (more r.fault says.0, says.1)
said_more P Q (FileFault path fault line) more says = tt
said_more P Q ReaderGone more says = tt
said_more P Q (BuffersTooLarge bytes line) more says = says
said_more P Q OutOfMemory more says = tt

pub file_said : {A : Type 0} (files : Option Store) (g : Parts) (path : List ℕ) (e : Stop A) → Says (ProgramIsRefused files path) e → Says (FileOrTextIsRefused files g path) e
file_said files g path e says = said_more (ProgramIsRefused files path) (FileOrTextIsRefused files g path) e (λ r h. inl h) says

pub reason_said : {A : Type 0} (files : Option Store) (g : Parts) (path : List ℕ) (x : Microprogram) (e : Stop A) → HasProgram files path x → Says (RefusesReason g x) e → Says (FileOrTextIsRefused files g path) e
reason_said files g path x e has_program says =
    said_more (RefusesReason g x) (FileOrTextIsRefused files g path) e (λ r h. inr (record { x = x; has_program = has_program; refuses = h })) says
