-- What a vendor file says: its sequences one after the other, each as its first command and its steps, or the first line that is at fault.
use Rattle.std.specs.Prelude.{ℕ, ◌+◌, ◌==◌, ◌&&◌, ◌||◌, not, Bool, true, false, if◌then◌else◌, List, [], ◌∷◌, ◌++◌, replicate, Option, Some, None, Result, Ok, Err}
use Rattle.micro_asm.specs.Line.{fields, before_comment}
use Rattle.micro_asm.specs.Reading.{lines}
use Rattle.nand_geometry.specs.declared.optional.Profile.{Profile}
use Rattle.nand_geometry.specs.declared.optional.Profile.TheVariants.{Base, Onfi}
use Rattle.onfi_cycle.specs.Command.{command, is_known, takes_address}
use Rattle.onfi_cycle.specs.Base.{is_of_base}
use Rattle.onfi_cycle.specs.declared.command.Command.{Command as Named}
use Rattle.onfi_cycle.specs.declared.command.Command.TheVariants.{ReadId}
use Rattle.vendor_file.specs.declared.fault.VendorFault.{VendorFault}
use Rattle.vendor_file.specs.declared.fault.VendorFault.TheVariants.{BadForm, KnownCommand, Twice}
use Rattle.vendor_file.specs.declared.fault.VendorFileFault.{VendorFileFault}
use Rattle.vendor_file.specs.declared.step.Step.{Step}
use Rattle.vendor_file.specs.declared.step.Step.TheVariants.{Begin, Address, Inputs, Outputs, Ready}
use Rattle.vendor_file.specs.declared.token.Token.{Token}
use Rattle.vendor_file.specs.Tokens.{byte_of, token_of}

-- ---- a line

-- a ready is the last step, and any number of data cycles is the last but for that
abbrev pub is_ready : Step → Bool
is_ready Ready = true
is_ready _ = false

abbrev pub is_any_number : Step → Bool
is_any_number Inputs = true
is_any_number Outputs = true
is_any_number _ = false

abbrev pub may_go_on : (before next : Step) → Bool
may_go_on before next = not (is_ready before) && (not (is_any_number before) || is_ready next)

-- what is written so far, and its last step
pub record Written : Type 0 where
  pub steps : List Step
  pub last : Step

-- with what a word stands for
abbrev pub with_token : Written → Option Token → Result Written VendorFault
with_token w None = Err BadForm
with_token w (Some t) = if may_go_on w.last t.step then Ok (record { steps = w.steps ++ replicate t.count t.step; last = t.step }) else Err BadForm

abbrev pub with_next : Result Written VendorFault → (Written → Result (List Step) VendorFault) → Result (List Step) VendorFault
with_next (Ok w) later = later w
with_next (Err fault) later = Err fault

abbrev pub steps_from : Written → List (List ℕ) → Result (List Step) VendorFault
steps_from w [] = Ok w.steps
steps_from w (field ∷ more) = with_next (with_token w (token_of field)) (λ w. steps_from w more)

abbrev pub begun_by : ℕ → Written
begun_by byte = record { steps = Begin byte ∷ []; last = Begin byte }

abbrev pub sequence_by : Option ℕ → List (List ℕ) → Result (List Step) VendorFault
sequence_by None words = Err BadForm
sequence_by (Some byte) words = steps_from (begun_by byte) words

-- ---- what may begin one

-- the command is one of the profile, declared or not
abbrev pub is_profile : Profile → ℕ → Bool
is_profile Base byte = is_of_base (command byte)
is_profile Onfi byte = is_known (command byte)

-- an address that the profile hasn't of 90, EC or ED
abbrev pub is_other : Profile → Named → ℕ → Bool
is_other Base ReadId byte = not (byte == 0x20)
is_other profile c byte = not (takes_address c byte)

abbrev pub begins_otherwise : Profile → Named → List Step → Bool
begins_otherwise profile c (Address byte ∷ steps) = is_other profile c byte
begins_otherwise profile c _ = false

-- a command of the profile begins none but with such an address
abbrev pub is_free : Profile → List Step → Bool
is_free profile (Begin byte ∷ steps) = not (is_profile profile byte) || begins_otherwise profile (command byte) steps
is_free profile _ = false

abbrev pub is_same_address : (first second : List Step) → Bool
is_same_address (Address a ∷ first) (Address b ∷ second) = a == b
is_same_address _ _ = false

-- two sequences begin with one command, and where that is one of the profile's with one address
abbrev pub begin_alike : Profile → (first second : List Step) → Bool
begin_alike profile (Begin a ∷ first) (Begin b ∷ second) = a == b && (not (is_profile profile a) || is_same_address first second)
begin_alike profile _ _ = false

abbrev pub stands_in : Profile → (line before : List Step) → Bool
stands_in profile line [] = false
stands_in profile line (step ∷ before) = begin_alike profile line (step ∷ before) || stands_in profile line before

-- ---- all lines

-- a sequence after those before it
abbrev pub placed : Profile → List Step → Result (List Step) VendorFault → Result (List Step) VendorFault
placed profile before (Err fault) = Err fault
placed profile before (Ok line) = if is_free profile line then (if stands_in profile line before then Err Twice else Ok (before ++ line)) else Err KnownCommand

-- the words of a line after the sequences before it
abbrev pub line_after : Profile → List Step → List (List ℕ) → Result (List Step) VendorFault
line_after profile before [] = Ok before
line_after profile before (first ∷ words) = placed profile before (sequence_by (byte_of first) words)

abbrev pub with_line : ℕ → Result (List Step) VendorFault → (List Step → Result (List Step) VendorFileFault) → Result (List Step) VendorFileFault
with_line n (Ok steps) later = later steps
with_line n (Err fault) later = Err (record { fault = fault; line = n })

-- lines from number n on, after these sequences
abbrev pub read_from : Profile → ℕ → List Step → List (List ℕ) → Result (List Step) VendorFileFault
read_from profile n before [] = Ok before
read_from profile n before (line ∷ more) = with_line n (line_after profile before (fields (before_comment line))) (λ steps. read_from profile (n + 1) steps more)

-- a whole file, for a profile
abbrev pub sequences_in : Profile → List ℕ → Result (List Step) VendorFileFault
sequences_in profile text = read_from profile 1 [] (lines text)
