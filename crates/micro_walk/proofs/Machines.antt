-- What the machine of claims accepts is what the claims accept line by line.
use Rattle.std.proofs.Common.{◌≡◌, ℕ, Bool, true, false, ◌&&◌, cond, List, [], ◌∷◌, Option, Some, None, refl, ap, ◌∙◌}
use Rattle.std.specs.Prelude.{is_none, is_some}
use Rattle.nand_geometry.specs.declared.parts.Parts.{Parts}
use Rattle.micro_word.specs.declared.word.Word.{Word}
use Rattle.micro_word.specs.declared.word.Word.TheVariants.{End, BranchOnStatus, Loop, Next, Jump}
use Rattle.micro_program.specs.Lines.{Line}
use Rattle.micro_claims.specs.declared.state.State.{State}
use Rattle.micro_claims.specs.declared.bounds.Bounds.{Bounds}
use Rattle.micro_claims.specs.Reasons.{breaks_cycle_forbidden, breaks_address_unaligned, breaks_handover_in_sequence, breaks_buffer_passed, breaks_row_or_plane_outside, breaks_column_too_large, breaks_no_status, breaks_ends_too_soon, breaks_over_budget, breaks_command_not_allowed, reason_against}
use Rattle.micro_claims.specs.Accepts.{state_after}
use Rattle.micro_claims.specs.Order.{machine, state_step}
use Rattle.micro_program.specs.Actions.{is_left_out}
use Rattle.micro_claims.specs.Accepts as lines
use Rattle.micro_claims.specs.Certificate.{if_there}
use Rattle.micro_claims.specs.Certificate as certificate

some_step : {A : Type 0} (b : Bool) (x : A) → is_some (cond b (Some x) None) ≡ (b && true)
some_step true x = refl
some_step false x = refl

there_step : {A : Type 0} (b : Bool) (x : A) (f : A → Bool) → if_there (cond b (Some x) None) f ≡ (b && f x)
there_step true x f = refl
there_step false x f = refl

no_reason_none : (b c : Bool) → b ≡ true → c ≡ (b && c)
no_reason_none true c h = refl
no_reason_none false c h = absurd cc

pub branch_reason : (g : Parts) (text : Bounds) (s : State) (mask target : ℕ) → s.registers.polled ≡ is_none (reason_against g text s (BranchOnStatus mask target))
unfolding reason_against breaks_cycle_forbidden breaks_address_unaligned breaks_handover_in_sequence breaks_buffer_passed breaks_row_or_plane_outside breaks_column_too_large breaks_no_status breaks_ends_too_soon breaks_over_budget breaks_command_not_allowed
branch_reason g text s mask target = at s.registers.polled refl
  where
    at : (b : Bool) → s.registers.polled ≡ b → b ≡ is_none (reason_against g text s (BranchOnStatus mask target))
    at true e = rw (e) refl
    at false e = rw (e) refl

-- a word, where the lines behind it are accepted alike
word_alike : (g : Parts) (text : Bounds) (s : State) (rest : List Line) (word : Word) (on : State → Option ℕ → Bool) → certificate.goes_on (machine g text) s word on ≡ (is_none (reason_against g text s word) && lines.goes_on word (λ t. on (state_after g s word) t))
unfolding state_step state_after reason_against breaks_cycle_forbidden breaks_address_unaligned breaks_handover_in_sequence breaks_buffer_passed breaks_row_or_plane_outside breaks_column_too_large breaks_no_status breaks_ends_too_soon breaks_over_budget breaks_command_not_allowed
word_alike g text s rest (End code) on = some_step (is_none (reason_against g text s (End code))) _
word_alike g text s rest (BranchOnStatus mask target) on = ap (λ (b : Bool). b && (on s None && on s (Some target))) (branch_reason g text s mask target)
word_alike g text s rest (Jump target) on = refl
word_alike g text s rest (Loop turns) on = refl
word_alike g text s rest Next on = refl
word_alike g text s rest word on = there_step (is_none (reason_against g text s word)) _ (λ t. on t None)

pub alike : (g : Parts) (text : Bounds) (ls : List Line) (target : Option ℕ) (s : State) → certificate.accepts (machine g text) target s ls ≡ lines.accepts g text target s ls
alike g text [] target s = refl
alike g text (line ∷ rest) target s = at (is_left_out target line) (certificate.is_left_out target line) (left_out target) (λ way t. alike g text rest way t)
  where
    left_out : (t : Option ℕ) → certificate.is_left_out t line ≡ is_left_out t line
    left_out None = refl
    left_out (Some n) = refl

    at : (b c : Bool) → c ≡ b → ((way : Option ℕ) (t : State) → certificate.accepts (machine g text) way t rest ≡ lines.accepts g text way t rest) → cond c (certificate.accepts (machine g text) target s rest) (certificate.goes_on (machine g text) s line.word (λ t way. certificate.accepts (machine g text) way t rest)) ≡ cond b (lines.accepts g text target s rest) (is_none (reason_against g text s line.word) && lines.goes_on line.word (λ t. lines.accepts g text t (state_after g s line.word) rest))
    at true true e ih = ih target s
    at false false e ih =
        ap (λ (on : State → Option ℕ → Bool). certificate.goes_on (machine g text) s line.word on) (λ i. λ t way. ih way t i)
        ∙ word_alike g text s rest line.word (λ t way. lines.accepts g text way t rest)
    at true false e ih = absurd cc
    at false true e ih = absurd cc
