-- What a finding is told as has its cause.
use Rattle.std.proofs.Common.{◌≡◌, ℕ, true, false, List, sym, ◌∙◌, length, inl, inr}
use Rattle.nand_geometry.specs.declared.parts.Parts.{Parts}
use Rattle.micro_word.specs.declared.format.Format.{Format}
use Rattle.micro_word.specs.Text.{Microprogram}
use Rattle.micro_claims.specs.declared.refusal.Fault.{Fault}
use Rattle.micro_walk.specs.Faults.{has_loop}
use Rattle.micro_walk.proofs.Walking.{no_loop}
use Rattle.micro_walk.specs.Verdicts.{is_of_shape, MayBe}
use Rattle.micro_verify.specs.Lazy.{lone_channel}
use Rattle.micro_verify.specs.Cause.{IsStraight, HasCause}
use Rattle.micro_verify.proofs.RefusedWords.{refusals_have_causes}

pub has_cause : (g : Parts) (text : Microprogram) (fault : Fault) → MayBe g text fault → (parameters : List ℕ) (format : Format) → length parameters ≡ 768 → IsStraight g text format → is_of_shape fault.reason ≡ false → HasCause (lone_channel g parameters) text fault
has_cause g text fault (inl is) parameters format whole straight of_word = refusals_have_causes g parameters text format fault whole straight is of_word
has_cause g text fault (inr loops) parameters format whole straight of_word =
    let none : has_loop text.words ≡ false = no_loop text.words straight.leads_on in
    let both : true ≡ false = sym loops.loops ∙ none in
    cc
