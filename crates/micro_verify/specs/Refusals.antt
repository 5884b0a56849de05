-- What a refusal of a text may tell.
use Rattle.std.specs.Prelude.{◌≡◌, ℕ, true, false, List, length}
use Rattle.nand_geometry.specs.declared.parts.Parts.{Parts}
use Rattle.micro_word.specs.declared.format.Format.{Format}
use Rattle.micro_word.specs.Text.{Microprogram}
use Rattle.micro_claims.specs.declared.refusal.Fault.{Fault}
use Rattle.micro_walk.specs.Verdicts.{is_of_shape, MayBe}
use Rattle.micro_verify.specs.declared.refusal.VerifyRefusal.{VerifyRefusal}
use Rattle.micro_verify.specs.declared.refusal.VerifyRefusal.TheVariants.{Refusal, OutOfMemory}
use Rattle.micro_verify.specs.Lazy.{lone_channel}
use Rattle.micro_verify.specs.Cause.{IsStraight, HasCause}
use Rattle.micro_verify.specs.Calm.{may_show, counter_of}
use Rattle.micro_verify.specs.Playing.{Shown}

-- a refusal tells the fault of the text, or a word of a text with loops, and its counter. Memory is asked for the counter of a V7 alone
abbrev pub MayTell : {A : Type 0} → VerifyRefusal A → Parts → Microprogram → Type 0
MayTell (Refusal word reason counter) g text =
    MayBe g text (record { word = word; reason = reason }) × Shown counter (counter_of g text (record { word = word; reason = reason }))
MayTell OutOfMemory g text = (fault : Fault) × MayBe g text fault × (may_show g text fault ≡ true)

-- a refused word of a straight text for one LUN has its cause, whatever bytes a parameter page has
abbrev pub MayCause : {A : Type 0} → VerifyRefusal A → Parts → Microprogram → Type 0
MayCause (Refusal word reason counter) g text =
    (parameters : List ℕ) (format : Format) → length parameters ≡ 768 → IsStraight g text format → is_of_shape reason ≡ false
    → HasCause (lone_channel g parameters) text (record { word = word; reason = reason })
MayCause OutOfMemory g text = Unit {0}
