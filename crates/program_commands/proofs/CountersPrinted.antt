-- The run of a refusal can be printed: all that happens in it is on target 0, whose only LUN is 0.
use Rattle.std.proofs.Common.{◌≡◌, ℕ, Bool, true, false, cond, ◌&&◌, List, [], ◌∷◌, reverse, take, slice_get, Option, Some, None, is_none, sym, subst, arith}
use Rattle.std.specs.Prelude.{IfSome}
use Rattle.std.specs.List.{All, AllByRecursion}
use Rattle.std.proofs.lemmas.List.{reverse-append}
use Rattle.std.proofs.lemmas.List.Elements.{All-push, All-from_recursion}
use Rattle.nand_geometry.specs.declared.parts.Parts.{Parts}
use Rattle.nand_geometry.specs.Page.{parameter_bytes}
use Rattle.onfi_cycle.specs.declared.item.Item.{Item}
use Rattle.onfi_cycle.specs.declared.item.Item.TheVariants.{Rdy}
use Rattle.onfi_cycle.specs.declared.item.Kind.TheVariants.{Dout}
use Rattle.onfi_cycle.specs.Channel.{Channel, cycle, bus_byte}
use Rattle.onfi_cycle.specs.Lun.{is_busy}
use Rattle.onfi_cycle.specs.Permitted.{broken}
use Rattle.micro_word.specs.declared.word.Word.{Word}
use Rattle.micro_word.specs.Text.{Microprogram}
use Rattle.micro_claims.specs.declared.refusal.Fault.{Fault}
use Rattle.micro_program.specs.Program.{Job}
use Rattle.micro_program.specs.Moves.{Move, Give, Take, moves, and_then, is_wait}
use Rattle.micro_program.specs.Played.{Played, played, with_byte}
use Rattle.trace_text.specs.Line.{IsPrintable}
use Rattle.micro_verify.specs.declared.showing.Counter.{Counter as Counted}
use Rattle.micro_verify.specs.Lazy.{the_lun, lone_channel, lone_job, Run, new_run, run_with, run_word, awaited, item_of, Counter, counter_in, counter_at, no_failures}
use Rattle.micro_verify.specs.Cause.{lacks_bytes}
use Rattle.micro_verify.specs.Calm.{calm_word, calm_words, counter_after, counter_before, counter_of, may_show}
use Rattle.micro_verify.specs.Playing.{Shown}
use Rattle.micro_verify.specs.Refusals.{MayTell}
use Rattle.micro_verify.specs.declared.refusal.VerifyRefusal.{VerifyRefusal}
use Rattle.micro_verify.specs.declared.refusal.VerifyRefusal.TheVariants.{Refusal as Told}
use Rattle.micro_claims.specs.declared.refusal.Reason.{Reason}
use Rattle.program_commands.specs.Commands.{CanBePrinted, RunCanBePrinted}

-- ---- what may be there

step : {A B : Type 0} (P : A → Type 0) (Q : B → Type 0) (o : Option A) (f : A → Option B) → IfSome o P → ((x : A) → P x → IfSome (f x) Q) → IfSome (and_then o f) Q
step P Q None f h next = tt
step P Q (Some x) f h next = next x h

any_step : {A B : Type 0} (Q : B → Type 0) (o : Option A) (f : A → Option B) → ((x : A) → IfSome (f x) Q) → IfSome (and_then o f) Q
any_step Q None f next = tt
any_step Q (Some x) f next = next x

either : {A : Type 0} (Q : A → Type 0) (b : Bool) (o p : Option A) → IfSome o Q → IfSome p Q → IfSome (cond b o p) Q
either Q true o p h k = h
either Q false o p h k = k

-- ---- a past whose items can be printed, the newest first

abbrev ArePrintable : List Item → Type 0
ArePrintable past = AllByRecursion IsPrintable past

in_time : (past : List Item) → AllByRecursion IsPrintable past → All IsPrintable (reverse past)
in_time [] h = All-from_recursion IsPrintable [] tt
in_time (i ∷ past) h = subst (All IsPrintable) (sym (reverse-append (i ∷ []) past)) (All-push IsPrintable (reverse past) i (in_time past h.1) h.0)

item_printable : (move : Move) → IsPrintable (item_of move)
item_printable (Give kind byte) = omega arith
item_printable Take = omega arith

played_printable : (s : Channel) (moved : List Move) (past : List Item) → ArePrintable past → IfSome (played s 0 moved past) (λ (p : Played). ArePrintable p.past)
played_printable s [] past h = h
played_printable s (Give kind byte ∷ rest) past h = played_printable s rest (cycle 0 kind byte ∷ past) (omega arith, h)
played_printable s (Take ∷ rest) past h =
    any_step (λ (p : Played). ArePrintable p.past) (bus_byte s past 0) (λ byte. and_then (played s 0 rest (cycle 0 Dout byte ∷ past)) (with_byte byte))
    (λ byte.
    step (λ (p : Played). ArePrintable p.past) (λ (p : Played). ArePrintable p.past) (played s 0 rest (cycle 0 Dout byte ∷ past)) (with_byte byte)
    (played_printable s rest (cycle 0 Dout byte ∷ past) (omega arith, h)) (λ p k. k))

awaited_past : (b : Bool) (past : List Item) → ArePrintable past → ArePrintable (cond b (Rdy 0 0 no_failures ∷ past) past)
awaited_past true past h = ((omega arith, omega arith), h)
awaited_past false past h = h

awaited_printable : (g : Parts) (past : List Item) (word : Word) → ArePrintable past → ArePrintable (awaited g past word)
awaited_printable g past word h = awaited_past (is_wait word && is_busy g past the_lun) past h

counter_in_printable : (s : Channel) (moved : List Move) (past : List Item) → ArePrintable past → IfSome (counter_in s moved past) RunCanBePrinted
counter_in_printable s [] past h = tt
counter_in_printable s (move ∷ rest) past h =
    either RunCanBePrinted (is_none (broken s.geometry s.targets past (item_of move))) (and_then (played s 0 (move ∷ []) past) (λ p. counter_in s rest p.past))
    (Some (record { items = reverse past; cycle = item_of move }))
    (step (λ (p : Played). ArePrintable p.past) RunCanBePrinted (played s 0 (move ∷ []) past) (λ p. counter_in s rest p.past)
    (played_printable s (move ∷ []) past h) (λ p k. counter_in_printable s rest p.past k))
    (All-push IsPrintable (reverse past) (item_of move) (in_time past h) (item_printable move))

-- ---- words

counter_at_printable : (s : Channel) (j : Job) (r : Run) (word : Word) → ArePrintable r.past → IfSome (counter_at s j r word) RunCanBePrinted
counter_at_printable s j r word h =
    any_step RunCanBePrinted (moves s.geometry j r.done word) (λ moved. counter_in s moved (awaited s.geometry r.past word))
    (λ moved. counter_in_printable s moved (awaited s.geometry r.past word) (awaited_printable s.geometry r.past word h))

run_word_printable : (s : Channel) (j : Job) (word : Word) (r : Run) → ArePrintable r.past → IfSome (run_word s j word r) (λ (r : Run). ArePrintable r.past)
run_word_printable s j word r h =
    any_step (λ (r : Run). ArePrintable r.past) (moves s.geometry j r.done word)
    (λ moved. and_then (played s 0 moved (awaited s.geometry r.past word)) (λ p. Some (run_with word r.done p)))
    (λ moved.
    step (λ (p : Played). ArePrintable p.past) (λ (r : Run). ArePrintable r.past) (played s 0 moved (awaited s.geometry r.past word)) (λ p. Some (run_with word r.done p))
    (played_printable s moved (awaited s.geometry r.past word) (awaited_printable s.geometry r.past word h)) (λ p k. k))

calm_printable : (s : Channel) (j : Job) (words : List Word) (r : Run) → ArePrintable r.past → IfSome (calm_words s j words r) (λ (r : Run). ArePrintable r.past)
calm_printable s j [] r h = h
calm_printable s j (word ∷ words) r h =
    step (λ (r : Run). ArePrintable r.past) (λ (r : Run). ArePrintable r.past) (calm_word s j word r) (calm_words s j words)
    (either (λ (r : Run). ArePrintable r.past) (is_none (counter_at s j r word)) (run_word s j word r) None (run_word_printable s j word r h) tt)
    (λ next k. calm_printable s j words next k)

-- ---- texts

counter_after_printable : (s : Channel) (j : Job) (r : Run) (word : Word) → ArePrintable r.past → IfSome (counter_after s j r word) RunCanBePrinted
counter_after_printable s j r word h = either RunCanBePrinted (lacks_bytes s.geometry j.text r word) None (counter_at s j r word) tt (counter_at_printable s j r word h)

counter_before_printable : (s : Channel) (x : Microprogram) (at : ℕ) → IfSome (counter_before s x at) RunCanBePrinted
counter_before_printable s x at =
    any_step RunCanBePrinted (slice_get x.words at)
    (λ word. and_then (calm_words s (lone_job s.geometry x) (take at x.words) new_run) (λ r. counter_after s (lone_job s.geometry x) r word))
    (λ word.
    step (λ (r : Run). ArePrintable r.past) RunCanBePrinted (calm_words s (lone_job s.geometry x) (take at x.words) new_run)
    (λ r. counter_after s (lone_job s.geometry x) r word)
    (calm_printable s (lone_job s.geometry x) (take at x.words) new_run tt) (λ r k. counter_after_printable s (lone_job s.geometry x) r word k))

counter_printable : (g : Parts) (x : Microprogram) (fault : Fault) → IfSome (counter_of g x fault) RunCanBePrinted
counter_printable g x fault =
    either RunCanBePrinted (may_show g x fault) (counter_before (lone_channel g (parameter_bytes g)) x fault.word) None (counter_before_printable (lone_channel g (parameter_bytes g)) x fault.word) tt

-- what the code shows of it
shown_printable : {A : Type 0} (o : Option (Counted A)) (c : Option Counter) → Shown o c → IfSome c RunCanBePrinted → CanBePrinted o
shown_printable None c shown h = tt
shown_printable (Some run) c shown h = subst (λ (o : Option Counter). IfSome o RunCanBePrinted) shown.1 h

-- what is told can be printed
pub told_printable : {A : Type 0} (refusal : VerifyRefusal A) (word : ℕ) (reason : Reason) (run : Option (Counted A)) (g : Parts) (x : Microprogram) → refusal ≡ Told word reason run → MayTell refusal g x → CanBePrinted run
told_printable refusal word reason run g x is may =
    let told = subst (λ r. MayTell r g x) is may in
    let fault : Fault = record { word = word; reason = reason } in
    shown_printable run (counter_of g x fault) told.1 (counter_printable g x fault)
