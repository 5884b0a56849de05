-- A target that is taken out of its channel, so that items can be tried on it.
use Rattle.std.specs.Prelude.{ℕ, ◌<◌, slice_set, Option}
use Rattle.onfi_cycle.specs.declared.forbidden.Forbidden.{Forbidden}
use Rattle.onfi_cycle.specs.declared.item.Kind.TheVariants.{Cmd, Dout}
use Rattle.onfi_cycle.specs.Channel.{cycle}
use Rattle.onfi_cycle.specs.Runs.{first_rule}
use Rattle.onfi_cycle.specs.State.{BusView, bus_after, judged}
use Rattle.bus_record.specs.Bus.{IsSound, bus_view}
use Rattle.bus_record.specs.Kept.{Kept}
use Rattle.target_record.specs.declared.record.OnfiseqTarget.{OnfiseqTarget}

-- the channel with this record of a target
abbrev pub tried : Kept → ℕ → OnfiseqTarget → Kept
tried k ce t = record { magic = k.magic; geometry = k.geometry; count = k.count; targets = slice_set k.targets ce t }

abbrev pub tried_view : Kept → ℕ → OnfiseqTarget → BusView
tried_view k ce t = bus_view (tried k ce t)

-- the target is there, and what stands in its place fits
pub record IsTried (k : Kept) (ce : ℕ) (t : OnfiseqTarget) : Type 0 where
  pub there : ce < k.count
  pub sound : IsSound (tried k ce t)

-- a status poll of the one LUN of a target: what the rules say of its 70h and its output, and what they leave
abbrev pub judged_poll : ℕ → BusView → Option Forbidden
judged_poll ce s = first_rule (judged s (cycle ce Cmd 0x70)) (judged (bus_after (cycle ce Cmd 0x70) s) (cycle ce Dout 0))

abbrev pub after_poll : ℕ → BusView → BusView
after_poll ce s = bus_after (cycle ce Dout 0) (bus_after (cycle ce Cmd 0x70) s)
