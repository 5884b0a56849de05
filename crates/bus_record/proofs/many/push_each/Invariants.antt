use Rattle.std.proofs.Common.{◌≡◌, ◌+◌, length}
use Rattle.bus_record.specs.Bus.{IsSound, bus_view}
use Rattle.bus_record.specs.Many.{all_pushed}
use Rattle.bus_record.proofs.many.push_each.Given as goal

abbrev pub invariant-items : goal.invariant-items
invariant-items l = record {
  counted : l.at + length l.rest ≡ length l.items;
  so_far : all_pushed l.wide (bus_view l.fn.bus) l.items 0 ≡ all_pushed l.wide (bus_view l.bus) l.rest l.at;
  magic : l.bus.magic ≡ l.fn.bus.magic;
  sound : IsSound l.bus;
  still : l.at ≡ 0 → l.bus ≡ l.fn.bus;
}

abbrev pub decreases-items : goal.decreases-items
decreases-items l = length l.rest
