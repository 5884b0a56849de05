-- Each fault is that of its number.
use Rattle.std.proofs.Common.{◌≡◌, Some, refl}
use Rattle.micro_claims.specs.declared.refusal.Reason.{Reason}
use Rattle.micro_claims.specs.declared.refusal.Reason.TheVariants.{NoWords, LoopUnpaired, LoopsTooDeep, BranchMisplaced, LastWordNotEnd, CycleForbidden, AddressUnaligned, HandoverInSequence, BufferPassed, RowOrPlaneOutside, ColumnTooLarge, NoStatus, EndsTooSoon, OverBudget, CommandNotAllowed}
use Rattle.micro_claims.specs.Codes.{reason_number, reason_of}

pub reasons_are_numbered : (x : Reason) → reason_of (reason_number x) ≡ Some x
unfolding reason_of
reasons_are_numbered NoWords = refl
reasons_are_numbered LoopUnpaired = refl
reasons_are_numbered LoopsTooDeep = refl
reasons_are_numbered BranchMisplaced = refl
reasons_are_numbered LastWordNotEnd = refl
reasons_are_numbered CycleForbidden = refl
reasons_are_numbered AddressUnaligned = refl
reasons_are_numbered HandoverInSequence = refl
reasons_are_numbered BufferPassed = refl
reasons_are_numbered RowOrPlaneOutside = refl
reasons_are_numbered ColumnTooLarge = refl
reasons_are_numbered NoStatus = refl
reasons_are_numbered EndsTooSoon = refl
reasons_are_numbered OverBudget = refl
reasons_are_numbered CommandNotAllowed = refl
