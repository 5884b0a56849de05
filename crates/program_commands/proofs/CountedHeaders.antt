-- An assembly text whose header is counted, and what it is refused for.
use Rattle.std.proofs.Common.{◌≡◌, List, ℕ, Option, None, sym, subst, inl, inr, ◌∙◌, ap}
use Rattle.nand_geometry.specs.declared.parts.Parts.{Parts}
use Rattle.seq_files.specs.Store.{Store, Holds, with_file}
use Rattle.micro_word.specs.Text.{Microprogram, file2}
use Rattle.micro_asm.specs.Reading.{Spells}
use Rattle.micro_program.specs.Safe.{IsSafe}
use Rattle.micro_walk.specs.Faults.{fault_of}
use Rattle.micro_lint.specs.Least.{HasLeastHeader}
use Rattle.seq_inputs.specs.declared.stop.Stop.{Stop}
use Rattle.seq_inputs.specs.Stops.{Says}
use Rattle.seq_inputs.proofs.Verifieds.{said_more}
use Rattle.seq_inputs.specs.declared.page_file.PageFile.{PageFile}
use Rattle.seq_inputs.specs.Inputs.{HasPage, RefusesReason}
use Rattle.seq_inputs.specs.Headed.{with_header, RefusesHeaded}
use Rattle.program_commands.specs.Commands.{HasSafeWordsOf, IsAssembledFor, RefusesFor}

pub headed_said : {A : Type 0} (g : Parts) (text : List ℕ) (e : Stop A) → Says (RefusesHeaded text) e → Says (RefusesFor g text) e
headed_said g text e says = said_more (RefusesHeaded text) (RefusesFor g text) e (λ f h. inl h) says

pub reason_said : {A : Type 0} (g : Parts) (text : List ℕ) (x y : Microprogram) (e : Stop A) → Spells (with_header text) x → y.words ≡ x.words → Says (RefusesReason g y) e → Says (RefusesFor g text) e
reason_said g text x y e spelled same says =
    said_more (RefusesReason g y) (RefusesFor g text) e
    (λ f h. inr (record { y = y; has_words = record { x = x; spelled = spelled; same_words = same }; refuses = h })) says

pub safe_words : (g : Parts) (text : List ℕ) (x y v : Microprogram) → Spells (with_header text) x → y.words ≡ x.words → v ≡ y → IsSafe y g → fault_of g y ≡ None → HasLeastHeader g y → HasSafeWordsOf g text v
safe_words g text x y v spelled same is safe faultless least =
    subst (λ (z : Microprogram). HasSafeWordsOf g text z) (sym is) (record {
      has_words = record { x = x; spelled = spelled; same_words = same };
      safe = safe;
      faultless = faultless;
      least = least;
    })

-- what was read, verified and written
pub assembled : (files f1 f2 later : Option Store) (page : PageFile) (input target text bytes file written : List ℕ) (g : Parts) (y z : Microprogram) →
    HasPage files page g → f1 ≡ files → Holds f1 input text → f2 ≡ f1 → bytes ≡ text → HasSafeWordsOf g bytes y → z ≡ y → file ≡ file2 z → written ≡ file → later ≡ with_file f2 target written →
    IsAssembledFor files later page input target
assembled files f1 f2 later page input target text bytes file written g y z has_page read there more same is_safe shown is_file is_written is_later =
    record {
      g = g;
      has_page = has_page;
      text = text;
      is_there = subst (λ (s : Option Store). Holds s input text) read there;
      y = y;
      is_safe = subst (λ (b : List ℕ). HasSafeWordsOf g b y) same is_safe;
      written = is_later ∙ (ap (λ (s : Option Store). with_file s target written) (more ∙ read) ∙ ap (λ (b : List ℕ). with_file files target b) (is_written ∙ (is_file ∙ ap file2 shown)));
    }
