-- The words of a line of a vendor file, each with what it stands for.
use Rattle.std.specs.Prelude.{ℕ, ◌+◌, ◌-◌, ◌*◌, ◌==◌, ◌&&◌, nat_le, if◌then◌else◌, List, [], ◌∷◌, Option, Some, None}
use Rattle.micro_asm.specs.Line.{number_of}
use Rattle.vendor_file.specs.declared.step.Step.{Step}
use Rattle.vendor_file.specs.declared.step.Step.TheVariants.{Command, AnyAddress, Address, Input, Inputs, Output, Outputs, Ready}
use Rattle.vendor_file.specs.declared.token.Token.{Token}

abbrev pub and_then : {A B : Type 0} → Option A → (A → Option B) → Option B
and_then None f = None
and_then (Some a) f = f a

-- a hexadecimal digit in lower case
abbrev pub digit_of : ℕ → Option ℕ
digit_of b = if nat_le 48 b && nat_le b 57 then Some (b - 48) else (if nat_le 97 b && nat_le b 102 then Some (b - 87) else None)

abbrev pub byte_with : ℕ → Option ℕ → Option ℕ
byte_with high None = None
byte_with high (Some low) = Some (16 * high + low)

-- two of them
abbrev pub byte_of : List ℕ → Option ℕ
byte_of (a ∷ b ∷ []) = and_then (digit_of a) (λ high. byte_with high (digit_of b))
byte_of _ = None

-- a step, and how often it comes
abbrev pub token : Step → ℕ → Token
token step count = record { step = step; count = count }

abbrev pub within : ℕ → Option ℕ → Option ℕ
within most None = None
within most (Some n) = if nat_le 1 n && nat_le n most then Some n else None

-- a number from 1 to `most`; none is 1
abbrev pub count_of : (most : ℕ) → List ℕ → Option ℕ
count_of most [] = Some 1
count_of most (b ∷ text) = within most (number_of (b ∷ text))

abbrev pub some_of : Step → Option ℕ → Option Token
some_of step None = None
some_of step (Some count) = Some (token step count)

abbrev pub address_is : Option ℕ → Option Token
address_is None = None
address_is (Some byte) = Some (token (Address byte) 1)

-- behind an A: how many addresses of any byte, or `=` (61) and the byte of one
abbrev pub address_token : List ℕ → Option Token
address_token [] = Some (token AnyAddress 1)
address_token (b ∷ text) = if b == 61 then address_is (byte_of text) else some_of AnyAddress (count_of 9 (b ∷ text))

-- behind an I or an O: how many, or `*` (42) for any number
abbrev pub data_token : (one many : Step) → List ℕ → Option Token
data_token one many [] = Some (token one 1)
data_token one many (b ∷ []) = if b == 42 then Some (token many 1) else some_of one (count_of 9999 (b ∷ []))
data_token one many (b ∷ c ∷ text) = some_of one (count_of 9999 (b ∷ c ∷ text))

-- behind an R: nothing
abbrev pub ready_token : List ℕ → Option Token
ready_token [] = Some (token Ready 1)
ready_token (b ∷ text) = None

abbrev pub command_token : Option ℕ → Option Token
command_token None = None
command_token (Some byte) = Some (token (Command byte) 1)

-- a word: A (65), I (73), O (79), R (82), or the byte of a command
abbrev pub token_of : List ℕ → Option Token
token_of [] = None
token_of (b ∷ text) =
    if b == 65 then address_token text else (
    if b == 73 then data_token Input Inputs text else (
    if b == 79 then data_token Output Outputs text else (
    if b == 82 then ready_token text else command_token (byte_of (b ∷ text)))))
