-- The lines of a text without branches and loops are its words.
use Rattle.std.proofs.Common.{◌≡◌, ℕ, ◌+◌, true, List, [], ◌∷◌, refl, ap, ◌∙◌}
use Rattle.std.proofs.lemmas.Bool.{and_parts}
use Rattle.micro_word.specs.declared.word.Word.{Word}
use Rattle.micro_word.specs.declared.word.Word.TheVariants.{BranchOnStatus, Loop, Next, Jump}
use Rattle.micro_program.specs.Lines.{Line, Unrolling, word_before, unrolling, unrolled, leads_on, all_lead_on, lines_from, LinesAreWords}

leading_before : (line : Line) (u : Unrolling) (word : Word) → leads_on word ≡ true → (word_before line u word).lines ≡ line ∷ u.lines
leading_before line u (BranchOnStatus mask target) h = cc
leading_before line u (Loop turns) h = cc
leading_before line u Next h = cc
leading_before line u (Jump target) h = cc
leading_before line u _ h = refl

pub leading_lines : (words : List Word) (at : ℕ) → all_lead_on words ≡ true → (unrolling words at).lines ≡ lines_from words at
leading_lines [] at h = refl
leading_lines (word ∷ words) at h =
    let parts = and_parts (leads_on word) (all_lead_on words) h in
    leading_before (record { at = at; word = word }) (unrolling words (at + 1)) word parts.0 ∙ ap (λ (ls : List Line). record { at = at; word = word } ∷ ls) (leading_lines words (at + 1) parts.1)

pub lines_are_words : LinesAreWords
unfolding unrolled
lines_are_words words h = leading_lines words 0 h
