-- What is found of a page and a file, with its run.
use Rattle.std.proofs.Common.{◌≡◌, ℕ, List, Option, Some, None, Result, Ok, IsOk, IfSome, length, refl, reverse, sym, subst}
use Rattle.nand_geometry.specs.declared.parts.Parts.{Parts}
use Rattle.nand_geometry.specs.declared.page_fault.PageFault.{PageFault}
use Rattle.nand_geometry.specs.Reading.{read_of}
use Rattle.micro_word.specs.Text.{Microprogram, IsFileOf}
use Rattle.micro_verify.specs.Playing.{Shown}
use Rattle.micro_verify.specs.declared.showing.Counter.{Counter as Counted}
use Rattle.onfiseq_verify_c.specs.declared.verdict.Found.{Found}
use Rattle.onfiseq_verify_c.specs.declared.verdict.Found.TheVariants as F
use Rattle.micro_word.specs.declared.refusal.WordRefusal.{WordRefusal}
use Rattle.micro_word.proofs.Files.{reading_of}
use Rattle.refused_run.specs.declared.search.Run.{Run}
use Rattle.refused_run.specs.Course.{IsBroken, task_of}
use Rattle.micro_verify.specs.Lazy.{Counter}
use Rattle.onfiseq_verify_c.specs.Verify.{Finds, FindsText}
use Rattle.onfiseq_verify_c.specs.Run.{own_run, run_at, told, run_of, FindsOrLacks, FindsShown, IsSought}

-- a page and a file are read, and this is found of the text
pub read_and_found : {A : Type 0} (page file : List ℕ) (g : Parts) (x : Microprogram) (found : Found) (shown : Option (Counted A)) → read_of page ≡ Ok g → IsFileOf file x
    → FindsOrLacks g x found → Shown shown (run_of g x found) → FindsShown page file found shown
read_and_found page file g x F.Accepted shown e f finds s =
    record { run = None; is_shown = s; finds = (record { g = g; declares = e; x = x; is_file = f; finds = finds }, refl) }
read_and_found page file g x (F.Page fault) shown e f finds s = absurd finds
read_and_found page file g x (F.File fault word) shown e f finds s = absurd finds
read_and_found page file g x (F.Text reason word) shown e f finds s =
    record { run = run_of g x (F.Text reason word); is_shown = s; finds = record { read = record { g = g; declares = e; x = x; is_file = f; finds = finds }; is_run = refl } }
read_and_found page file g x F.OutOfMemory shown e f finds s =
    record { run = None; is_shown = s; finds = ((subst (λ (r : Result Parts PageFault). IsOk r) (sym e) refl, subst (λ (r : Result Microprogram WordRefusal). IsOk r) (sym (reading_of file x f)) refl), refl) }

-- this is found of the text of a file
pub found_of_text : (page file : List ℕ) (g : Parts) (x : Microprogram) (found : Found) → read_of page ≡ Ok g → IsFileOf file x → FindsText g x found → Finds page file found
found_of_text page file g x F.Accepted e f finds = record { g = g; declares = e; x = x; is_file = f; finds = finds }
found_of_text page file g x (F.Page fault) e f finds = absurd finds
found_of_text page file g x (F.File fault word) e f finds = absurd finds
found_of_text page file g x (F.Text reason word) e f finds = record { g = g; declares = e; x = x; is_file = f; finds = finds }
found_of_text page file g x F.OutOfMemory e f finds =
    (subst (λ (r : Result Parts PageFault). IsOk r) (sym e) refl, subst (λ (r : Result Microprogram WordRefusal). IsOk r) (sym (reading_of file x f)) refl)

-- a run that was found of the text is one of the file
pub sought_of : {A : Type 0} (page file : List ℕ) (g : Parts) (x : Microprogram) (o : Option (Run A)) → read_of page ≡ Ok g → IsFileOf file x
    → IfSome o (λ run. IsBroken (task_of g x) (reverse run.items.items) run.end) → IfSome o (λ run. IsSought page file run.items.items run.end)
sought_of page file g x None e f broken = tt
sought_of page file g x (Some run) e f broken = record { g = g; declares = e; x = x; is_file = f; broken = broken }

-- a run that is there is told so
pub own_told : {A : Type 0} (found : Found) (shown : Option (Counted A)) (c : Counted A) (run : Option Counter) → shown ≡ Some c → Shown shown run → own_run found run ≡ run_at found (length (told run))
own_told {A = A} found shown c run is s =
    let there : Shown (Some c) run = subst (λ (o : Option (Counted A)). Shown o run) is s in
    subst (λ (o : Option Counter). own_run found o ≡ run_at found (length (told o))) (sym there.1) refl

-- what shows a run shows it by another name
pub shown_same : {A : Type 0} (shown : Option (Counted A)) (c : Counted A) (run : Option Counter) → shown ≡ Some c → Shown shown run → Shown (Some c) run
shown_same {A = A} shown c run is s = subst (λ (o : Option (Counted A)). Shown o run) is s
