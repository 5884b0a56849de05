-- The commands of the base profile, which each chip has or declares as it always did.
use Rattle.std.specs.Prelude.{Bool, true, false}
use Rattle.onfi_cycle.specs.declared.command.Command.{Command}
use Rattle.onfi_cycle.specs.declared.command.Command.TheVariants.{ChangeReadColumnEnhanced, ReadUniqueId, GetFeatures, SetFeatures, ResetLun, SynchronousReset, Unknown, ReadPlane, CopybackRead, ProgramCache}

-- the command is one of the base profile
abbrev pub is_of_base : Command → Bool
is_of_base ChangeReadColumnEnhanced = false
is_of_base ReadPlane = false
is_of_base CopybackRead = false
is_of_base ProgramCache = false
is_of_base ReadUniqueId = false
is_of_base GetFeatures = false
is_of_base SetFeatures = false
is_of_base ResetLun = false
is_of_base SynchronousReset = false
is_of_base Unknown = false
is_of_base _ = true
