-- Making one file of another, piece by piece.
use Rattle.std.specs.Prelude.{◌≡◌, ⊤, ℕ, List, ◌++◌, Option, IfSome}
use Rattle.std.specs.Io.KnownBytes.{Appends, Consumes}
use Rattle.seq_files.specs.declared.converting.NotConverted.{NotConverted}
use Rattle.seq_files.specs.declared.converting.NotConverted.TheVariants.{Input, Output, Refused}

-- a converter goes on by a piece of its input, of which it makes so much: what it makes of the rest then it would have made of both, after that; and what it
-- refuses then it would have refused
abbrev pub GoesOn : {R : Type 0} → (makes makes_then : List ℕ → List ℕ → Type 0) → (refuses refuses_then : List ℕ → R → Type 0) → (piece made : List ℕ) → Type 0
GoesOn {R} makes makes_then refuses refuses_then piece made =
    ((rest more : List ℕ) → makes_then rest more → makes (piece ++ rest) (made ++ more))
    × ((rest : List ℕ) (why : R) → refuses_then rest why → refuses (piece ++ rest) why)

-- of all of an input this is made
abbrev pub IsMade : (IsInput : List ℕ → Type 0) → (makes : List ℕ → List ℕ → Type 0) → (made : List ℕ) → Type 0
IsMade IsInput makes made = (input : List ℕ) × IsInput input × makes input made

-- a refusal is that of all of an input; an input that can't be read and an output that can't be written say nothing of it
abbrev pub IsRefused : {R : Type 0} → (IsInput : List ℕ → Type 0) → (refuses : List ℕ → R → Type 0) → NotConverted R → Type 0
IsRefused IsInput refuses (Input e) = ⊤
IsRefused IsInput refuses (Output e) = ⊤
IsRefused IsInput refuses (Refused why) = (input : List ℕ) × IsInput input × refuses input why

-- these are all bytes that are known to be left
abbrev pub AreLeft : Option (List ℕ) → List ℕ → Type 0
AreLeft known input = IfSome known (λ all. input ≡ all)

-- an input gave a piece, of which this much is made and written: what is left is as GoesOn says
pub record HasGoneOn {R : Type 0} (left left_then written written_then : Option (List ℕ)) (makes makes_then : List ℕ → List ℕ → Type 0) (refuses refuses_then : List ℕ → R → Type 0) : Type 0 where
  pub piece : List ℕ
  pub made : List ℕ
  pub taken : Consumes left left_then piece
  pub is_written : Appends written written_then made
  pub goes_on : GoesOn makes makes_then refuses refuses_then piece made

-- no refusal
abbrev pub IsNotRefused : {R : Type 0} → NotConverted R → Type 0
IsNotRefused (Input e) = ⊤
IsNotRefused (Output e) = ⊤
IsNotRefused (Refused why) = ⊥
