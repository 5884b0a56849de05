use Rattle.std.proofs.Common.{rules, Ok, take, drop, ap, ◌∙◌}
use Rattle.vcd_text.specs.Words.{IsCut}
use Rattle.bus_capture.specs.declared.reading.CaptureForm.TheVariants as form
use Rattle.bus_capture.specs.declared.reading.Opened.TheVariants.{Whole}
use Rattle.bus_capture.specs.Inferring.{captured_by}
use Rattle.bus_capture.specs.Tracing.{OpensAs}
use Rattle.bus_capture.proofs.Tracing.{two_pieces}
use Rattle.bus_capture.proofs.reading.CaptureReader.open_head.Goals as goal

pub returns-in-Whole-clause-ok : goal.returns-in-Whole-clause-ok
returns-in-Whole-clause-ok g c =
    let cut : IsCut (take c.whole_len-count.result c.args.self.now.head.items) = search rules in
    let opens : OpensAs c.args.self.now.setup.now (take c.whole_len-count.result c.args.self.now.head.items) (drop c.whole_len-count.result c.args.self.now.head.items) (Ok (Whole c.in-Whole.dump)) = search rules in
    λ stamped rest. ap (captured_by form.Dump c.args.self.now.setup.now stamped) (two_pieces c.whole_len-count.result c.args.self.now.head.items rest) ∙ opens.1 cut stamped rest
