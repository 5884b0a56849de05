use Rattle.std.proofs.Common.{◌≡◌, ◌∙◌, List, Option, None, ap, subst, get_or, IfSome, IfNone}
use Rattle.seq_core.specs.Progress.{Progress}
use Rattle.seq_live.specs.Kept.{LiveView}
use Rattle.seq_live.specs.Calls.{HasBuffer}
use Rattle.seq_live.proofs.Stepping.{buffer_of}
use Rattle.seq_live.proofs.Faults.{no_buffer, no_buffer_nowhere}
use Rattle.seq_live.proofs.live.Live.buffer.Goals as goal

pub returns-clause-some : goal.returns-clause-some
returns-clause-some g c =
    let slots = c.as_slice.ensures.value ∙ ap (λ (v : LiveView). v.slots) c.self.view_is in
    buffer_of c.args.self.now c.args.lun c.in_ok-place.place c.buffer_in.result c.in_ok-place.ensures.value (subst (λ (ss : List (Option Progress)). IfSome c.buffer_in.result (λ buffer. HasBuffer (get_or ss c.in_ok-place.place None) buffer.now)) slots c.buffer_in.ensures.some)

pub returns-clause-none : goal.returns-clause-none
returns-clause-none g c =
    let slots = c.as_slice.ensures.value ∙ ap (λ (v : LiveView). v.slots) c.self.view_is in
    no_buffer c.args.self.now c.args.lun c.in_ok-place.place c.buffer_in.result c.in_ok-place.ensures.value (subst (λ (ss : List (Option Progress)). IfNone c.buffer_in.result (get_or ss c.in_ok-place.place None ≡ None)) slots c.buffer_in.ensures.none)

pub returns-in_err-place-clause-none : goal.returns-in_err-place-clause-none
returns-in_err-place-clause-none g c = no_buffer_nowhere c.args.self.now c.args.lun c.from_residual.result c.in_err-place.ensures.value
