use Rattle.std.proofs.Common.{◌≡◌, map, take}
use Rattle.onfiseq_text_c.specs.Trace.{in_front, numbers_of}
use Rattle.onfiseq_text_c.proofs.trace.place_items.Given as goal

abbrev pub invariant-loop-place : goal.invariant-loop-place
invariant-loop-place l = record {
  so_far : l.items ≡ in_front (map numbers_of (take l.place l.made)) l.fn.items;
}
