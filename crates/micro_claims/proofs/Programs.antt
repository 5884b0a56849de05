-- Whether a LUN programs behind a 15, over what leaves it so.
use Rattle.std.proofs.Common.{◌≡◌, Bool, true, false, ◌&&◌, ◌||◌, Option, Some, None, refl}
use Rattle.onfi_cycle.specs.declared.command.Command.{Command}
use Rattle.onfi_cycle.specs.declared.command.Command.TheVariants.{ProgramCache, ProgramPlane}
use Rattle.onfi_cycle.specs.declared.effect.Effect.TheVariants.{BecameReady, ArrayBecameReady, ProgramStarted}
use Rattle.onfi_cycle.specs.declared.item.Failures.{Failures}
use Rattle.onfi_cycle.specs.declared.page_address.PageAddress.{PageAddress}
use Rattle.onfi_cycle.specs.LunView.{LunView}
use Rattle.onfi_cycle.specs.Lun.{is_cache_program, leaves_array_busy, keeps_array_busy, programs, view_after}

-- a LUN that is as busy, with the same closer, and whose array is
pub programs_same : (v w : LunView) → v.busy ≡ w.busy → v.closer ≡ w.closer → v.array_busy ≡ w.array_busy → programs v ≡ programs w
programs_same v w busy closer array = rw (busy, closer, array) refl

-- it is busy, its last closer and its array
abbrev programs_by : Bool → Option Command → Bool → Bool
programs_by busy last array = (busy && is_cache_program last) || (array && keeps_array_busy last)

never : (b : Bool) → (b && false) ≡ false
never true = refl
never false = refl

-- its work ends
by_ready : (last : Option Command) (busy array : Bool) → programs_by busy last array ≡ false → programs_by false last (array || (busy && leaves_array_busy last)) ≡ false
by_ready None busy true h = refl
by_ready None true false h = refl
by_ready None false false h = refl
by_ready (Some ProgramCache) true array h = cc
by_ready (Some ProgramCache) false true h = cc
by_ready (Some ProgramCache) false false h = refl
by_ready (Some ProgramPlane) true true h = cc
by_ready (Some ProgramPlane) false true h = cc
by_ready (Some ProgramPlane) true false h = refl
by_ready (Some ProgramPlane) false false h = refl
by_ready (Some _) busy array h = never _

pub ready_programs : (v : LunView) (fail : Failures) → programs v ≡ false → programs (view_after (BecameReady fail) v) ≡ false
ready_programs v fail h = by_ready v.closer v.busy v.array_busy h

by_array : (x a k : Bool) → (x || (a && k)) ≡ false → (x || (false && k)) ≡ false
by_array true a k h = cc
by_array false a k h = refl

pub array_ready_programs : (v : LunView) (fail : Bool) → programs v ≡ false → programs (view_after (ArrayBecameReady fail) v) ≡ false
array_ready_programs v fail h = by_array (v.busy && is_cache_program v.closer) v.array_busy (keeps_array_busy v.closer) h

by_queued : (x a k : Bool) → (x || (a && k)) ≡ false → ((k && a) && true) ≡ false
by_queued true a k h = cc
by_queued false true true h = cc
by_queued false true false h = refl
by_queued false false true h = refl
by_queued false false false h = refl

-- behind an 11
pub queued_programs : (v : LunView) (page : PageAddress) → programs v ≡ false → programs (view_after (ProgramStarted true page) v) ≡ false
queued_programs v page h = by_queued (v.busy && is_cache_program v.closer) v.array_busy (keeps_array_busy v.closer) h

-- behind a 90
pub identified_programs : (busy : Bool) → ((busy && false) || false) ≡ false
identified_programs true = refl
identified_programs false = refl
