use Rattle.std.proofs.Common.{◌+◌, sym, ap, ◌∙◌}
use Rattle.micro_word.specs.Text.{Microprogram}
use Rattle.micro_walk.specs.Faults.{has_loop, fault_of}
use Rattle.micro_verify.specs.Plain.{operations_len}
use Rattle.micro_verify.proofs.PlainShapes.{no_loop}
use Rattle.micro_verify.proofs.PlainFitting.{plain_text_fits}
use Rattle.micro_verify.proofs.PlainTexts.{plain_texts_are_faultless}
use Rattle.micro_verify.proofs.plain_making.plain.Goals as goal

pub text_of-requires : goal.text_of-requires
text_of-requires g c = plain_text_fits c.args.geometry c.parts.ensures.limits c.args.ops.now (sym c.first_fault.ensures ∙ c.in_default.is)

pub faultless-requires-clause-no_loops : goal.faultless-requires-clause-no_loops
faultless-requires-clause-no_loops g c = ap (λ (x : Microprogram). has_loop x.words) c.in_ok-text.ensures ∙ no_loop (operations_len c.args.ops.now + 1) c.args.ops.now

pub faultless-requires-clause-faultless : goal.faultless-requires-clause-faultless
faultless-requires-clause-faultless g c =
    ap (fault_of c.args.geometry) c.in_ok-text.ensures ∙ plain_texts_are_faultless c.args.geometry c.parts.ensures.limits c.args.ops.now (sym c.first_fault.ensures ∙ c.in_default.is)
