-- What a sequencer on a real bus keeps, and of which worlds it is.
use Rattle.std.specs.Prelude.{◌≤◌, List, [], Option, length}
use Rattle.onfi_cycle.specs.declared.lun.Lun.{Lun}
use Rattle.onfi_cycle.specs.declared.item.Item.{Item}
use Rattle.onfi_cycle.specs.Channel.{Channel, IsChannel}
use Rattle.onfi_cycle.specs.State.{BusView, Follows}
use Rattle.target_bus.specs.Bus.{channel_on}
use Rattle.seq_core.specs.World.{World}
use Rattle.seq_core.specs.Lawful.{LawfulWorld}
use Rattle.seq_core.specs.Progress.{Progress}
use Rattle.seq_core.specs.Shows.{CoreView, IsAt}
use Rattle.seq_live.specs.declared.live.StepGoingOn.{StepGoingOn}

-- the facts of the channel that the rules see, what each LUN runs, those of target 0 first, the LUN that has the bus, and the step that goes on
-- on the pins. No item is kept: the past stands in the contracts alone
pub record LiveView : Type 0 where
  pub state : BusView
  pub slots : List (Option Progress)
  pub holder : Option Lun
  pub going : Option StepGoingOn

-- its channel. What the pages of a chip hold is nobody's to say; no rule asks for it
abbrev pub channel_at : LiveView → Channel
channel_at v = channel_on v.state.geometry (length v.state.targets) []

-- what a sequencer on modelled dies would keep after this past
abbrev pub core_at : LiveView → List Item → CoreView
core_at v past = record { geometry = v.state.geometry; targets = length v.state.targets; opened = []; past = past; slots = v.slots; holder = v.holder }

-- this world is what is kept
pub record IsLiveAt (v : LiveView) (w : World) : Type 0 where
  pub follows : Follows v.state.geometry (length v.state.targets) v.state w.past
  pub at : IsAt (core_at v w.past) w

-- what always holds of a sequencer on a real bus: it keeps a lawful world of its channel
pub record IsLive (v : LiveView) : Type 0 where
  pub is_channel : IsChannel (channel_at v)
  pub most : length v.state.targets ≤ 4
  pub world : World
  pub is_at : IsLiveAt v world
  pub lawful : LawfulWorld (channel_at v) world
