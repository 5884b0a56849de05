-- The law: states meet what a certificate asks of a kind of state.
use Rattle.std.specs.Prelude.{◌≡◌, ◌≤◌, Bool, true, ◌&&◌, List, Option, None, is_none}
use Rattle.nand_geometry.specs.declared.parts.Parts.{Parts}
use Rattle.nand_geometry.specs.Limits.{InLimits}
use Rattle.micro_word.specs.declared.format.Format.TheVariants.{Two}
use Rattle.micro_word.specs.Text.{Microprogram, FitsFormat}
use Rattle.micro_program.specs.Safe.{IsSafe}
use Rattle.micro_claims.specs.declared.state.State.{State}
use Rattle.micro_claims.specs.declared.bounds.Bounds.{Bounds}
use Rattle.micro_claims.specs.State.{bounds_of}
use Rattle.micro_program.specs.Nested.{IsNested}
use Rattle.micro_walk.specs.Shape.{shape_fault}
use Rattle.micro_program.specs.Places.{IsShaped}
use Rattle.micro_claims.specs.Certificate.{Laws, is_certified}
use Rattle.micro_claims.specs.Order.{At, machine}

abbrev pub StatesMeetLaws : Type 0
StatesMeetLaws = (g : Parts) (b : Bounds) → InLimits g → Laws (machine g b) (At g)

-- the law: a text with a certificate is safe
abbrev pub CertifiedTextsAreSafe : Type 0
CertifiedTextsAreSafe =
    (text : Microprogram) (g : Parts) (claims : List (Option State)) → InLimits g → 1 ≤ text.rows → IsNested text.words → is_certified (machine g (bounds_of text)) text.words claims ≡ true → IsSafe text g

-- the law: a text without a fault of its shape is nested, and shaped for whoever goes by places
abbrev pub ShapeIsNested : Type 0
ShapeIsNested = (text : Microprogram) → FitsFormat Two text → shape_fault text.words ≡ None → IsNested text.words × IsShaped text.words

-- the shape of a text is right, and the claims are its certificate
abbrev pub is_shown : Parts → Microprogram → List (Option State) → Bool
is_shown g text claims = is_none (shape_fault text.words) && is_certified (machine g (bounds_of text)) text.words claims
