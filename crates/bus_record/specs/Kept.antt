-- The numbers of a channel's state in the caller's memory.
use Rattle.bus_record.specs.declared.bus.OnfiseqBus.{OnfiseqBus}

abbrev pub Kept : Type 0
Kept = OnfiseqBus
