-- Each fault is that of its number.
use Rattle.std.proofs.Common.{◌≡◌, Some, refl}
use Rattle.onfi_cycle.specs.declared.forbidden.Forbidden.{Forbidden}
use Rattle.onfi_cycle.specs.declared.forbidden.Forbidden.TheVariants.{NotThere, CommandUnknown, SequenceOpen, SeveralLuns, NoColumnToChange, CommandMisplaced, AddressMisplaced, RowOutside, LunBusy, QueueClash, InputMisplaced, NoSoleDriver, DataNotReady, ColumnOutside, CacheReadMisplaced, CacheProgramMisplaced, CopybackMisplaced, PlaneNotHeld}
use Rattle.onfi_cycle.specs.Codes.{rule_number, rule_of}

pub rules_are_numbered : (x : Forbidden) → rule_of (rule_number x) ≡ Some x
unfolding rule_of
rules_are_numbered NotThere = refl
rules_are_numbered CommandUnknown = refl
rules_are_numbered SequenceOpen = refl
rules_are_numbered SeveralLuns = refl
rules_are_numbered NoColumnToChange = refl
rules_are_numbered CommandMisplaced = refl
rules_are_numbered AddressMisplaced = refl
rules_are_numbered RowOutside = refl
rules_are_numbered LunBusy = refl
rules_are_numbered QueueClash = refl
rules_are_numbered InputMisplaced = refl
rules_are_numbered NoSoleDriver = refl
rules_are_numbered DataNotReady = refl
rules_are_numbered ColumnOutside = refl
rules_are_numbered CacheReadMisplaced = refl
rules_are_numbered CacheProgramMisplaced = refl
rules_are_numbered CopybackMisplaced = refl
rules_are_numbered PlaneNotHeld = refl
