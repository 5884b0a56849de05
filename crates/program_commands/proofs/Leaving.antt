-- What is left of the run of a refusal.
use Rattle.std.proofs.Common.{◌≡◌, ℕ, List, [], ◌∷◌, ◌++◌, Option, Some, None, sym, subst, inl}
use Rattle.nand_geometry.specs.declared.parts.Parts.{Parts}
use Rattle.onfi_cycle.specs.declared.item.Item.TheVariants.{Cyc}
use Rattle.seq_files.specs.Store.{Store, with_all}
use Rattle.trace_files.specs.declared.outputs.TraceOutputs.{TraceOutputs}
use Rattle.trace_files.specs.Files.{files_of}
use Rattle.micro_verify.specs.declared.showing.Counter.{Counter as Counted}
use Rattle.micro_verify.specs.Lazy.{Counter}
use Rattle.micro_verify.specs.Playing.{Shown}
use Rattle.micro_word.specs.Text.{Microprogram}
use Rattle.program_commands.specs.Commands.{LeavesFound, LeavesShown}

-- the code shows a run
pub run_left : {A : Type 0} (outputs : TraceOutputs) (g : Parts) (x : Microprogram) (run : Counted A) (c : Option Counter) (files later : Option Store) → (drawn : List ℕ) × (later ≡ with_all (files_of outputs g 1 (run.items.items ++ (Cyc run.cycle ∷ [])) drawn) files) → Shown (Some run) c → LeavesShown outputs g x c files later
run_left outputs g x run c files later left shown = subst (λ (o : Option Counter). LeavesShown outputs g x o files later) (sym shown.1) left

-- it shows none, and none is searched for
pub none_left : (outputs : TraceOutputs) (g : Parts) (x : Microprogram) (c : Option Counter) (files later : Option Store) → later ≡ files → c ≡ None → LeavesShown outputs g x c files later
none_left outputs g x c files later same shown = subst (λ (o : Option Counter). LeavesShown outputs g x o files later) (sym shown) (inl same)

-- it shows none, and one was searched for
pub found_left : (outputs : TraceOutputs) (g : Parts) (x : Microprogram) (c : Option Counter) (files later : Option Store) → LeavesFound outputs g x files later → c ≡ None → LeavesShown outputs g x c files later
found_left outputs g x c files later left shown = subst (λ (o : Option Counter). LeavesShown outputs g x o files later) (sym shown) left
