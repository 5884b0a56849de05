-- Many items at once.
use Rattle.std.specs.Prelude.{ℕ, Bool, zero, suc, ◌+◌, ◌==◌, ◌≤◌, if◌then◌else◌, List, [], ◌∷◌, Option, Some, None, length}
use Rattle.std.specs.List.{All}
use Rattle.onfi_cycle.specs.declared.item.Item.{Item}
use Rattle.onfi_cycle.specs.State.{TargetView, BusView}
use Rattle.bus_record.specs.Item.{item_of}
use Rattle.bus_record.specs.Bus.{pushed, bus_pushed}
use Rattle.target_record.specs.Record.{HasRoom}
use Rattle.bus_record.specs.declared.item.OnfiseqItem.{OnfiseqItem}

-- what came of items: the answer to the last of them, how many went, and the channel after those
pub record Went : Type 0 where
  pub answer : ℕ
  pub done : ℕ
  pub bus : BusView

abbrev pub went : ℕ → ℕ → BusView → Went
went answer done bus = record { answer = answer; done = done; bus = bus }

-- items of the wider profile or the base one are pushed one by one, up to the first that isn't answered with 0; so many went before them
unfoldable pub all_pushed : (wide : Bool) → BusView → List OnfiseqItem → ℕ → Went
all_pushed wide bus [] done = went 0 done bus
all_pushed wide bus (i ∷ items) done =
    if pushed bus (item_of wide i) == 0 then all_pushed wide (bus_pushed bus (item_of wide i)) items (done + 1)
    else went (pushed bus (item_of wide i)) done bus

-- a past, and what is pushed after it, the latest first: an item, if the numbers are one; and the first so many of these
abbrev pub with_item : Option Item → List Item → List Item
with_item None past = past
with_item (Some i) past = i ∷ past

abbrev pub with_items : (wide : Bool) → ℕ → List OnfiseqItem → List Item → List Item
with_items wide zero items past = past
with_items wide (suc n) [] past = past
with_items wide (suc n) (i ∷ items) past = with_items wide n items (with_item (item_of wide i) past)

-- a target has a record: its LUNs and their queues fit
pub record HasRecord (t : TargetView) : Type 0 where
  pub count : length t.luns ≤ 4
  pub queues : All HasRoom t.luns
