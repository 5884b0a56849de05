-- What `verify` leaves where it refuses.
use Rattle.seq_inputs.specs.declared.page_file.PageFile.{PageFile}
use Rattle.std.proofs.Common.{◌≡◌, inl, inr, ℕ, List, Option, Some, None, subst}
use Rattle.seq_files.specs.Store.{Store, with_all}
use Rattle.seq_inputs.specs.declared.fault.Fault.{Fault}
use Rattle.seq_inputs.specs.declared.refusal.Refusal.{Refusal}
use Rattle.seq_inputs.specs.declared.stop.Stop.{Stop}
use Rattle.seq_inputs.specs.declared.stop.Stop.TheVariants.{Refused, FileFault, ReaderGone, BuffersTooLarge, OutOfMemory}
use Rattle.seq_inputs.specs.Stops.{refusal_in, SaysElse, Tells}
use Rattle.seq_inputs.proofs.Said.{said_else}
use Rattle.micro_word.specs.Text.{Microprogram}
use Rattle.nand_geometry.specs.declared.parts.Parts.{Parts}
use Rattle.seq_inputs.specs.declared.fault.Fault.TheVariants.{Text}
use Rattle.micro_verify.specs.Lazy.{Counter}
use Rattle.micro_verify.specs.Calm.{counter_of}
use Rattle.trace_files.specs.declared.outputs.TraceOutputs.{TraceOutputs}
use Rattle.trace_files.specs.Files.{no_outputs}
use Rattle.program_commands.specs.Commands.{VerifyRefuses, VerifyLeaves, RefusesText, LeavesShown}

-- what `verify` leaves, however it fails
left_by : (files later : Option Store) (page : PageFile) (input : List ℕ) (counter : TraceOutputs) (f : Fault) → VerifyRefuses files later page input counter f → VerifyLeaves files later page input counter
left_by files later page input counter f (inl h) = record { left = inl h.1 }
left_by files later page input counter f (inr h) = record { left = inr (f, h) }

pub left : {A : Type 0} (files later : Option Store) (page : PageFile) (input : List ℕ) (counter : TraceOutputs) (stop : Stop A) → SaysElse (VerifyRefuses files later page input counter) (later ≡ files) stop → VerifyLeaves files later page input counter
left files later page input counter (Refused r words) h = left_by files later page input counter r.fault h.0
left files later page input counter (FileFault path fault line) h = record { left = inl h }
left files later page input counter ReaderGone h = record { left = inl h }
left files later page input counter (BuffersTooLarge bytes line) h = record { left = inl h }
left files later page input counter OutOfMemory h = record { left = inl h }

-- where no file is asked for of a run, nothing is left
none_left : (g : Parts) (x : Microprogram) (c : Option Counter) (files later : Option Store) → LeavesShown no_outputs g x c files later → later ≡ files
unfolding with_all
none_left g x None files later (inl h) = h
none_left g x None files later (inr w) = w.written.1
none_left g x (Some c) files later h = h.1

kept_by : (g : Parts) (x : Microprogram) (files later : Option Store) (f : Fault) → RefusesText g x no_outputs files later f → later ≡ files
kept_by g x files later (Text reason word) h = none_left g x (counter_of g x (record { word = word; reason = reason })) files later h.1
kept_by g x files later _ h = absurd h

kept : (files later : Option Store) (page : PageFile) (input : List ℕ) (f : Fault) → VerifyRefuses files later page input no_outputs f → later ≡ files
kept files later page input f (inl h) = h.1
kept files later page input f (inr h) = kept_by h.g h.x files later f h.refuses

pub said_kept : {A : Type 0} (files later : Option Store) (page : PageFile) (input : List ℕ) (stop : Stop A) (r : Refusal) → SaysElse (VerifyRefuses files later page input no_outputs) (later ≡ files) stop → refusal_in stop ≡ Some r → Tells (VerifyRefuses files files page input no_outputs) r
said_kept files later page input stop r says is =
    let k = said_else (VerifyRefuses files later page input no_outputs) (later ≡ files) stop r says is in
    (subst (λ z. VerifyRefuses files z page input no_outputs r.fault) (kept files later page input r.fault k.0) k.0, k.1)

pub stays : {A : Type 0} (files later : Option Store) (page : PageFile) (input : List ℕ) (stop : Stop A) → SaysElse (VerifyRefuses files later page input no_outputs) (later ≡ files) stop → later ≡ files
stays files later page input (Refused r words) h = kept files later page input r.fault h.0
stays files later page input (FileFault path fault line) h = h
stays files later page input ReaderGone h = h
stays files later page input (BuffersTooLarge bytes line) h = h
stays files later page input OutOfMemory h = h
