-- What is written of a word is its line, and of a text its lines one after another.
use Rattle.std.proofs.Common.{◌≡◌, ℕ, ◌+◌, ◌≤◌, Bool, Option, Some, List, [], ◌∷◌, ◌++◌, length, drop, sym, ap, ◌∙◌}
use Rattle.std.specs.Prelude.{codes}
use Rattle.std.specs.Fmt.{decimal, AppendsText, ◌++?◌}
use Rattle.std.proofs.lemmas.List.{append_assoc, append-nil, drop_all}
use Rattle.micro_word.specs.declared.word.Word.{Word}
use Rattle.micro_word.specs.declared.word.Word.TheVariants.{Command, BranchOnStatus}
use Rattle.micro_asm.specs.Assembly.{hex_byte, word_text, is_target, ended, label_line, word_lines}

pub written_command : (old new : List ℕ) (o : Option (List ℕ)) (byte : ℕ) → o ≡ Some (hex_byte byte) → AppendsText old new (Some (codes "cmd ") ++? (o ++? Some (10 ∷ []))) → new ≡ old ++ ended (word_text (Command byte))
written_command old new o byte digits e = rw digits at e

pub written_branch : (old new : List ℕ) (o : Option (List ℕ)) (mask target : ℕ) → o ≡ Some (hex_byte mask) → AppendsText old new (Some (codes "brs ") ++? (o ++? (Some (codes " L") ++? (Some (decimal target) ++? Some (10 ∷ []))))) → new ≡ old ++ ended (word_text (BranchOnStatus mask target))
written_branch old new o mask target digits e = rw digits at e

-- one more word is written
pub lines_on : (all : List Word) (at : ℕ) (old mid new whole : List ℕ) (named : Bool) (word : Word) → drop at all ≡ word ∷ drop (at + 1) all → named ≡ is_target all at → mid ≡ old ++ label_line named at → new ≡ mid ++ ended (word_text word) → old ++ word_lines all at (drop at all) ≡ whole → new ++ word_lines all (at + 1) (drop (at + 1) all) ≡ whole
lines_on all at old mid new whole named word next is_named is_mid is_new before =
    let rest = word_lines all (at + 1) (drop (at + 1) all) in
    let line = ended (word_text word) in
    let mid_is : mid ≡ old ++ label_line (is_target all at) at = is_mid ∙ ap (λ (b : Bool). old ++ label_line b at) is_named in
    let new_is : new ≡ (old ++ label_line (is_target all at) at) ++ line = is_new ∙ ap (λ (x : List ℕ). x ++ line) mid_is in
    ap (λ (x : List ℕ). x ++ rest) new_is
    ∙ (append_assoc (old ++ label_line (is_target all at) at) line rest
    ∙ (append_assoc old (label_line (is_target all at) at) (line ++ rest)
    ∙ (sym (ap (λ (ws : List Word). old ++ word_lines all at ws) next) ∙ before)))

-- all the words are written
pub lines_done : (all : List Word) (at : ℕ) (so_far whole : List ℕ) → length all ≤ at → so_far ++ word_lines all at (drop at all) ≡ whole → so_far ≡ whole
lines_done all at so_far whole past same = sym (ap (λ (ws : List Word). so_far ++ word_lines all at ws) (drop_all at all past) ∙ append-nil so_far) ∙ same
