use Rattle.std.proofs.Common.{◌≡◌, map, take}
use Rattle.onfiseq_verify_c.specs.Run.{numbers_of, placed}
use Rattle.onfiseq_verify_c.proofs.item.place_items.Given as goal

abbrev pub invariant-loop-place : goal.invariant-loop-place
invariant-loop-place l = record {
  so_far : l.items ≡ placed (map numbers_of (take l.place l.trace)) l.fn.items;
}
