use Rattle.std.proofs.Common.{rules, ◌≡◌}
use Rattle.std.proofs.lemmas.Result.{on_ok_weaker}
use Rattle.std.proofs.lemmas.List.Sorted.{IsNonDecreasingBy-from_sort_by_key}
use Rattle.std.proofs.lemmas.Fn.{always_returns_same}
use Rattle.trace_timing.specs.declared.violation.Violation.{Violation}
use Rattle.busy_times.proofs.order.put_in_order.Goals as goal

pub returns : goal.returns
returns g c =
    on_ok_weaker c.sort_by_key.result (λ sorted. (
      c.sort_by_key.ensures.permutation,
      IsNonDecreasingBy-from_sort_by_key (λ (v : Violation). v.item) _ sorted (λ a r q k. search rules),
      c.sort_by_key.ensures.stable (λ (v : Violation). v.item) (always_returns_same _ (λ a r. r ≡ a.0.now.item) _ (λ a r q k. search rules)),
    )) c.sort_by_key.ensures.sorted
