use Rattle.std.proofs.Common.{◌∙◌, sym, ap, arith}
use Rattle.seq_live.specs.Kept.{LiveView}
use Rattle.seq_live.proofs.live.Live.gave.Goals as goal

pub overflow_add-self : goal.overflow_add-self
overflow_add-self g c =
    let few = c.in-Some-next.ensures.few c.in-Some.step (sym (ap (λ (v : LiveView). v.going) c.self.view_is) ∙ c.in-Some.is) in
    omega (arith, few)
