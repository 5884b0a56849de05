use Rattle.std.proofs.Common.{◌≡◌, [], sym, ap, subst, ◌∙◌}
use Rattle.std.specs.Prelude.{IfSome, unwrap_or}
use Rattle.trace_text.specs.declared.refusal.TraceRefusal.TheVariants.{OutOfMemory}
use Rattle.trace_text.specs.Reading.{IsRefusalOf}
use Rattle.trace_text.specs.Recorded.{told, recorded, first_fault, IsFault}
use Rattle.trace_text.proofs.RecordedTexts.{refused}
use Rattle.trace_text.proofs.recorded_reading.refuse_memory.Goals as goal

pub returns : goal.returns
returns c =
    let text = c.args.text.now in
    let is : IfSome (first_fault (told c.args.profile text)) IsFault = subst (λ o. IfSome o IsFault) c.first_fault.ensures.first c.first_fault.ensures.fault in
    let same : c.unwrap_or.result ≡ unwrap_or (first_fault (told c.args.profile text)) OutOfMemory = c.unwrap_or.ensures ∙ ap (λ o. unwrap_or o OutOfMemory) c.first_fault.ensures.first in
    subst (λ r. IsRefusalOf r (recorded c.args.profile text)) (sym same) (refused [] (told c.args.profile text) is)
