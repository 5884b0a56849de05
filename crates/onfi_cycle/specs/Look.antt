-- A look at a LUN, told from the facts of it.
use Rattle.std.specs.Prelude.{ℕ, Bool, false, ◌&&◌, nat_lt, if◌then◌else◌, List, Option, Some, None, length, slice_get}
use Rattle.nand_geometry.specs.declared.parts.Parts.{Parts}
use Rattle.onfi_cycle.specs.declared.item.Item.{Item}
use Rattle.onfi_cycle.specs.declared.lun.Lun.{Lun}
use Rattle.onfi_cycle.specs.declared.lun_state.LunState.{LunState}
use Rattle.onfi_cycle.specs.LunView.{LunView}
use Rattle.onfi_cycle.specs.Lun.{output_column, is_cache_read, programs, lun_view}
use Rattle.std.specs.List.{list_any}
use Rattle.onfi_cycle.specs.Rules.{lun_is, works_for_target}
use Rattle.onfi_cycle.specs.State.{TargetView, BusView}

-- what is told of a LUN: None as its column means that no address gave one, or that an output past the end lost it
abbrev pub look_at : LunView → LunState
look_at v =
    record {
      busy = v.busy;
      latch = v.latch;
      register = v.register;
      column = output_column v.column;
      queued = length v.queue;
      caching = is_cache_read v.closer;
      programming = programs v;
      array_busy = v.array_busy;
    }

abbrev pub look_at_some : Option LunView → Option LunState
look_at_some None = None
look_at_some (Some v) = Some (look_at v)

abbrev pub look_on : Option TargetView → ℕ → Option LunState
look_on None lun = None
look_on (Some s) lun = look_at_some (slice_get s.luns lun)

-- what the state of a channel tells of a LUN, if that is there
abbrev pub looked : BusView → Lun → Option LunState
looked state l = look_on (slice_get state.targets l.ce) l.lun

-- the LUN is there, and 70 shows its status where its target has several
abbrev pub selected_on : Option TargetView → ℕ → Bool
selected_on None lun = false
selected_on (Some s) lun = lun_is (λ v. v.selected) s.luns lun

abbrev pub is_selected_in : BusView → Lun → Bool
is_selected_in state l = selected_on (slice_get state.targets l.ce) l.lun

-- work of the whole target goes on
abbrev pub target_works_on : Option TargetView → Bool
target_works_on None = false
target_works_on (Some s) = list_any works_for_target s.luns

abbrev pub target_works : BusView → ℕ → Bool
target_works state ce = target_works_on (slice_get state.targets ce)

-- the look at a LUN after a past, if it is there
abbrev pub look_after : Parts → ℕ → List Item → Lun → Option LunState
look_after g targets past l = if nat_lt l.ce targets && nat_lt l.lun g.luns then Some (look_at (lun_view g past l)) else None
