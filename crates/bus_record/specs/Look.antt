-- A look at a LUN, in numbers.
use Rattle.std.specs.Prelude.{if◌then◌else◌, Option, Some, None}
use Rattle.onfi_cycle.specs.declared.lun_state.LunState.{LunState}
use Rattle.target_record.specs.Record.{latch_of, register_of, given_of}
use Rattle.bus_record.specs.declared.look.OnfiseqLook.{OnfiseqLook}

-- the look that the numbers stand for, None where no such LUN is there
abbrev pub look_of : OnfiseqLook → Option LunState
look_of l = if l.is_there then Some (record {
  busy = l.busy;
  latch = latch_of l.latch;
  register = register_of l.register l.block l.page;
  column = given_of l.has_column l.column;
  queued = l.queued;
  caching = l.caching;
  programming = l.programming;
  array_busy = l.array_busy;
}) else None
