-- The last address of a row inside the geometry, on the LUN that the row names.
use Rattle.std.specs.Prelude.{ℕ, Bool, true, false, ◌&&◌, ◌||◌, not, if◌then◌else◌, Option, Some, None}
use Rattle.nand_geometry.specs.declared.parts.Parts.{Parts}
use Rattle.nand_geometry.specs.Optional.{is_wide, has_copyback}
use Rattle.onfi_cycle.specs.declared.command.Command.{Command}
use Rattle.onfi_cycle.specs.declared.command.Command.TheVariants.{ReadConfirm, ReadPlane, CopybackRead}
use Rattle.onfi_cycle.specs.declared.forbidden.Forbidden.{Forbidden}
use Rattle.onfi_cycle.specs.declared.forbidden.Forbidden.TheVariants.{LunBusy, QueueClash, ColumnOutside, CacheReadMisplaced, CacheProgramMisplaced, CopybackMisplaced, PlaneNotHeld}
use Rattle.onfi_cycle.specs.declared.page_address.PageAddress.{PageAddress}
use Rattle.onfi_cycle.specs.declared.tail_facts.TailFacts.{TailFacts}
use Rattle.onfi_cycle.specs.Command.{addresses_the_array, is_enhanced_column, is_page_program, is_write_column}
use Rattle.onfi_cycle.specs.Effect.{page_address}
use Rattle.onfi_cycle.specs.LunView.{LunView}
use Rattle.onfi_cycle.specs.Lun.{programs}
use Rattle.onfi_cycle.specs.Rules.{excludes_program, excludes_cache, caching, ends_row, is_refused_by, holds_plane_of, may_copy, is_copying}

-- F17 on the LUN that the row names, this being its page
abbrev pub copies_badly : Parts → TailFacts → PageAddress → LunView → Bool
copies_badly g t page v =
    has_copyback g.optional && ((ends_row is_write_column t && not (may_copy g page v)) || (ends_row is_page_program t && is_copying v))

-- the first of F9 to F18 that it breaks, whose column is outside or not, and while work of the whole target goes on or not
abbrev pub named_rule : Parts → TailFacts → ℕ → (outside target_works : Bool) → LunView → Option Forbidden
named_rule g t row outside target_works v =
    if ends_row addresses_the_array t && (v.busy || target_works) then Some LunBusy
    else (if is_refused_by g t.opening (page_address g row) v.queue then Some QueueClash
    else (if outside then Some ColumnOutside
    else (if ends_row (excludes_cache g) t && caching v then Some CacheReadMisplaced
    else (if ends_row excludes_program t && programs v then Some CacheProgramMisplaced
    else (if copies_badly g t (page_address g row) v then Some CopybackMisplaced
    else (if ends_row is_enhanced_column t && not (holds_plane_of g (page_address g row) v) then Some PlaneNotHeld
    else None))))))

-- the same where the row names none of them
abbrev pub nobody_rule : TailFacts → (outside target_works : Bool) → Option Forbidden
nobody_rule t outside target_works =
    if ends_row addresses_the_array t && target_works then Some LunBusy else (if outside then Some ColumnOutside else None)

-- the closers that may not come while a cache read goes on at the LUN of their row
abbrev pub is_kept_from_cache : Parts → Command → Bool
is_kept_from_cache g ReadConfirm = is_wide g.optional
is_kept_from_cache g ReadPlane = true
is_kept_from_cache g CopybackRead = true
is_kept_from_cache g _ = false
