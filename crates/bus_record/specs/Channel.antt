-- What stays of a channel while it goes on.
use Rattle.std.specs.Prelude.{◌≡◌, ◌&&◌, nat_lt, Bool, length}
use Rattle.onfi_cycle.specs.State.{BusView}
use Rattle.onfi_cycle.specs.declared.lun.Lun.{Lun}

-- the same channel: its geometry, and as many targets
pub record IsSameChannel (old new : BusView) : Type 0 where
  pub geometry : new.geometry ≡ old.geometry
  pub count : length new.targets ≡ length old.targets

-- the LUN is one of the channel
abbrev pub is_on : BusView → Lun → Bool
is_on s l = nat_lt l.ce (length s.targets) && nat_lt l.lun s.geometry.luns
