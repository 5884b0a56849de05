-- What a slot is after a word that was played.
use Rattle.std.proofs.Common.{◌≡◌, ℕ, ◌<◌, ◌^◌, true, List, Some, ap, ◌∙◌, arith}
use Rattle.std.proofs.lemmas.Bool.Decides.{nat_tests}
use Rattle.std.specs.List.{slice_get}
use Rattle.onfi_cycle.specs.declared.item.Item.{Item}
use Rattle.onfi_cycle.specs.Channel.{Channel}
use Rattle.micro_word.specs.declared.word.Word.{Word}
use Rattle.micro_word.specs.declared.word.Word.TheVariants.{Get, Put}
use Rattle.micro_program.specs.Program.{fits}
use Rattle.seq_core.specs.declared.stepped.Stepped.{Stepped}
use Rattle.seq_core.specs.Progress.{Progress, reaches, buffer_behind, with_buffer, behind_word, outcome_of}
use Rattle.seq_core.specs.Calls.{DidPlay, Steps}

-- a word was played, and the slot went on behind it
pub steps_on : (s : Channel) (past later : List Item) (v w u : Progress) (word : Word) (status : ℕ) (answer : Stepped) → slice_get v.job.text.words v.at ≡ Some word → DidPlay s past v.job.lun v.job.buffer v.registers word later w.job.buffer status → w ≡ with_buffer v w.job.buffer → answer ≡ outcome_of word status → u ≡ behind_word w word status → Steps s past v answer later u
steps_on s past later v w u word status answer here p left is slot =
    record {
      word = word;
      here = here;
      moved = p.moved;
      is_moved = p.is_moved;
      bytes = p.bytes;
      plays = p.plays;
      slot_is =
          slot ∙ (ap (λ (x : Progress). behind_word x word status) (left ∙ ap (with_buffer v) p.buffer_is) ∙
          ap (behind_word (with_buffer v (buffer_behind v.registers.place word p.bytes v.job.buffer)) word) p.status_is);
      answer_is = is ∙ ap (outcome_of word) p.status_is;
    }

-- a word that stays inside a buffer doesn't reach far
pub reaches_inside : (size place : ℕ) (word : Word) → size < 2 ^ 32 → fits size place word ≡ true → reaches place word < 2 ^ 32
reaches_inside size place (Get len) small h = grind (arith, nat_tests)
reaches_inside size place (Put len) small h = grind (arith, nat_tests)
reaches_inside size place _ small h = omega arith
