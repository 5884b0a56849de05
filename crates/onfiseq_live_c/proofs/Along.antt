-- What a step leaves of a job, in its record and in that sequencer.
use Rattle.std.proofs.Common.{◌≡◌, ℕ, zero, suc, Bool, true, false, cond, List, [], ◌∷◌, Option, Some, None, length, get_or, set, refl, sym, ap, ◌∙◌}
use Rattle.onfi_cycle.proofs.Written.{written_len}
use Rattle.micro_word.specs.declared.word.Word.{Word}
use Rattle.micro_word.specs.declared.word.Word.TheVariants as word
use Rattle.seq_core.specs.declared.loops.OpenLoop.{OpenLoop}
use Rattle.seq_core.specs.declared.registers.Registers.{Registers}
use Rattle.seq_core.specs.Loops.{place_behind, loops_behind}
use Rattle.seq_core.specs.Progress.{Progress, status_of, outcome_of, is_done, registers_after, buffer_behind, with_buffer, done_with, progress_after}
use Rattle.onfiseq_live_c.specs.Job.{JobView, job_done, job_behind}

-- a record goes along with a program in progress
pub record Along (j : JobView) (p : Progress) : Type 0 where
  pub base : j.base ≡ p.job.base
  pub buffer : j.buffer ≡ length p.job.buffer
  pub at : j.at ≡ p.at
  pub loops : j.loops ≡ p.loops
  pub registers : j.registers ≡ p.registers
  pub code : j.code ≡ p.code

same_length : (place : ℕ) (w : Word) (bytes buffer : List ℕ) → length (buffer_behind place w bytes buffer) ≡ length buffer
same_length place (word.Get len) bytes buffer = written_len bytes place buffer
same_length place w bytes buffer = refl

pub goes_along : (j : JobView) (p : Progress) (w : Word) (bytes : List ℕ) → Along j p → Along (job_behind j w (status_of w bytes)) (progress_after p w bytes)
goes_along j p w bytes a = at (is_done (outcome_of w (status_of w bytes)))
  where
    left : List ℕ
    left = buffer_behind p.registers.place w bytes p.job.buffer

    whole : j.buffer ≡ length left
    whole = a.buffer ∙ sym (same_length p.registers.place w bytes p.job.buffer)

    at : (b : Bool) → Along (cond b (job_done j w (status_of w bytes)) j) (cond b (done_with (with_buffer p left) w (status_of w bytes)) (with_buffer p left))
    at true = record {
      base = a.base;
      buffer = whole;
      at =
          ap (λ (n : ℕ). place_behind n j.loops j.registers.status w) a.at
          ∙ (ap (λ (ls : List OpenLoop). place_behind p.at ls j.registers.status w) a.loops ∙ ap (λ (r : Registers). place_behind p.at p.loops r.status w) a.registers);
      loops = ap (λ (n : ℕ). loops_behind n j.loops w) a.at ∙ ap (λ (ls : List OpenLoop). loops_behind p.at ls w) a.loops;
      registers =
          ap (λ (n : ℕ). registers_after n j.registers w (status_of w bytes)) a.base
          ∙ ap (λ (r : Registers). registers_after p.job.base r w (status_of w bytes)) a.registers;
      code = refl;
    }
    at false = record { base = a.base; buffer = whole; at = a.at; loops = a.loops; registers = a.registers; code = a.code }

pub same_text : (p : Progress) (w : Word) (bytes : List ℕ) → (progress_after p w bytes).job.text ≡ p.job.text
same_text p w bytes = at (is_done (outcome_of w (status_of w bytes)))
  where
    left : List ℕ
    left = buffer_behind p.registers.place w bytes p.job.buffer

    at : (b : Bool) → (cond b (done_with (with_buffer p left) w (status_of w bytes)) (with_buffer p left)).job.text ≡ p.job.text
    at true = refl
    at false = refl

-- another slot at its place
found_again : (slots : List (Option Progress)) (n : ℕ) (p u : Progress) → get_or slots n None ≡ Some p → get_or (set slots n (Some u)) n None ≡ Some u
found_again [] n p u e = cc
found_again (x ∷ slots) zero p u e = refl
found_again (x ∷ slots) (suc n) p u e = found_again slots n p u e

pub slot_again : (there : Bool) (slots : List (Option Progress)) (n : ℕ) (p u : Progress) → cond there (get_or slots n None) None ≡ Some p → cond there (get_or (set slots n (Some u)) n None) None ≡ Some u
slot_again true slots n p u e = found_again slots n p u e
slot_again false slots n p u e = cc
