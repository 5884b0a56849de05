use Rattle.std.proofs.Common.{◌≡◌, ◌+◌, [], length, Some}
use Rattle.std.specs.List.{All}
use Rattle.lun_lease.proofs.lease.LeaseTable.new.Given as goal

abbrev pub invariant-loop : goal.invariant-loop
invariant-loop g l = record {
  same : l.deck.table ≡ l.initial.deck.table;
  left : l.deck.left + l.counter ≡ l.initial.deck.left + 1;
  count : length l.seats.items + 1 ≡ l.counter;
  each : All (λ o. o ≡ Some (record { table = l.initial.deck.table; calls = [] })) l.seats.items;
}
