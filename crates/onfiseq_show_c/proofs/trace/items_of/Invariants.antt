use Rattle.std.proofs.Common.{◌≡◌, ◌+◌, length}
use Rattle.onfiseq_show_c.specs.Shown.{no_item}
use Rattle.onfiseq_show_c.proofs.trace.items_of.Given as goal

abbrev pub invariant-items : goal.invariant-items
invariant-items l = record {
  counted : l.at + length l.rest ≡ length l.numbers;
  so_far : no_item l.fn.wide l.numbers 0 ≡ no_item l.fn.wide l.rest l.at;
}

abbrev pub decreases-items : goal.decreases-items
decreases-items l = length l.rest
