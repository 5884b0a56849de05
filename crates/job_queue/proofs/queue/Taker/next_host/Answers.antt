use Rattle.std.proofs.Common.{ℕ, List, [], ◌∷◌, ◌++◌, ap, ◌∙◌}
use Rattle.job_queue.proofs.Moves.{forks_as}
use Rattle.job_queue.proofs.Taking.{makes_keeps}
use Rattle.job_queue.proofs.queue.Taker.next_host.Goals as goal

pub another-pass-requires-clause-rule : goal.another-pass-requires-clause-rule
another-pass-requires-clause-rule g c = forks_as _ _ _ _ c.self.invariant.1.now

pub invariant_of-self-2 : goal.invariant_of-self-2
invariant_of-self-2 g c =
    let made = c.another-pass.ensures in
    let put = c.push_reserved.ensures.items ∙ ap (λ (l : List ℕ). l ++ 0 ∷ []) c.reserve.ensures.items in
    let taken = c.in_ok-push.ensures.items in (
      made.queue.0.0 ∙ c.self.invariant.0,
      rw (put, taken) (makes_keeps _ _ _ _ _ c.self.invariant.1 made.queue.0.2 made.rule.0),
    )
