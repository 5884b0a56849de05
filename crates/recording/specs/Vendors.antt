-- A vendor's sequences, which are passed over.
use Rattle.std.specs.Prelude.{◌≡◌, ◌⊎◌, ℕ, true, false, Bool, List, [], codes, Option, Some, None, Ok, Err}
use Rattle.std.specs.Str.{bytes_eq}
use Rattle.std.specs.Borrow.{Bor}
use Rattle.seq_files.specs.Store.{Store, Holds}
use Rattle.nand_geometry.specs.declared.optional.Profile.{Profile}
use Rattle.vendor_file.specs.declared.step.Step.{Step}
use Rattle.vendor_file.specs.Lines.{sequences_in}
use Rattle.vendor_file.specs.Linux.{linux}
use Rattle.recording.specs.declared.recording_fault.RecordingFault.{RecordingFault}
use Rattle.recording.specs.declared.recording_fault.RecordingFault.TheVariants.{Vendor}

abbrev pub is_linux : List ℕ → Bool
is_linux path = bytes_eq path (codes "linux")

-- the text of a vendor file: the one that is built in for the profile, or that at the path
abbrev pub IsVendorText : Option Store → Profile → (path text : List ℕ) → Type 0
IsVendorText files profile path text = ((is_linux path ≡ true) × (text ≡ linux profile)) ⊎ ((is_linux path ≡ false) × Holds files path text)

-- its sequences for a profile
pub record HasSequences (files : Option Store) (profile : Profile) (path : List ℕ) (steps : List Step) : Type 0 where
  pub text : List ℕ
  pub is_text : IsVendorText files profile path text
  pub is_read : sequences_in profile text ≡ Ok steps

-- those of the vendor file, if one is given
abbrev pub AreSteps : Option Store → Profile → Option (Bor (List ℕ)) → List Step → Type 0
AreSteps files profile None steps = steps ≡ []
AreSteps files profile (Some path) steps = HasSequences files profile path.now steps

-- its first fault
abbrev pub RefusesVendor : Profile → List ℕ → RecordingFault → Type 0
RefusesVendor profile text (Vendor fault line) = sequences_in profile text ≡ Err (record { fault = fault; line = line })
RefusesVendor profile text _ = ⊥

pub record VendorIsRefused (files : Option Store) (profile : Profile) (path : List ℕ) (fault : RecordingFault) : Type 0 where
  pub text : List ℕ
  pub is_text : IsVendorText files profile path text
  pub refuses : RefusesVendor profile text fault

abbrev pub StepsAreRefused : Option Store → Profile → Option (Bor (List ℕ)) → RecordingFault → Type 0
StepsAreRefused files profile None fault = ⊥
StepsAreRefused files profile (Some path) fault = VendorIsRefused files profile path.now fault
