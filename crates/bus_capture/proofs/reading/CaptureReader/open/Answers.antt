use Rattle.std.proofs.Common.{rules, ◌≡◌, [], ◌++◌, Ok, ap, sym, ◌∙◌, false}
use Rattle.std.specs.Prelude.{Err}
use Rattle.vcd_text.specs.Words.{words_from, lines_from}
use Rattle.vcd_text.specs.Header.{header, is_unended}
use Rattle.vcd_text.specs.Dumps.{read_of}
use Rattle.bus_capture.specs.declared.reading.CaptureForm.TheVariants as form
use Rattle.bus_capture.specs.Inferring.{captured_by}
use Rattle.bus_capture.specs.Tracing.{read_after}
use Rattle.bus_capture.proofs.Tracing.{read_more, read_last, fails_more, fails_last, same_refusal}
use Rattle.bus_capture.proofs.reading.CaptureReader.open.Goals as goal

pub returns-in-Ok-begun : goal.returns-in-Ok-begun
returns-in-Ok-begun g c =
    let read : header c.args.whole.now ≡ Ok (read_of c.in-Ok-read_header.dump) = search rules in (
      c.in-Ok-begun.ensures.tracing,
      λ cut stamped rest. read_more c.args.self.now.setup.now stamped c.args.whole.now (c.args.tail.now ++ rest) (read_of c.in-Ok-read_header.dump) cut read
          ∙ (ap (λ line. read_after c.args.self.now.setup.now stamped (read_of c.in-Ok-read_header.dump) (words_from line [] (c.args.tail.now ++ rest))) (sym c.in-Ok-read_header.ensures.lines)
          ∙ c.in-Ok-begun.ensures.ok (c.in-Ok-read_header.ensures.cut cut) stamped rest),
      λ none stamped. read_last c.args.self.now.setup.now stamped c.args.whole.now (read_of c.in-Ok-read_header.dump) read ∙ c.in-Ok-begun.ensures.last none stamped,
    )

pub returns-in-Ok-read_header : goal.returns-in-Ok-read_header
returns-in-Ok-read_header g c =
    let read : header c.args.whole.now ≡ Ok (read_of c.in-Ok-read_header.dump) = search rules in (
      λ cut stamped rest. same_refusal c.in-Err.refusal (captured_by form.Dump c.args.self.now.setup.now stamped (c.args.whole.now ++ (c.args.tail.now ++ rest)))
          (read_after c.args.self.now.setup.now stamped (read_of c.in-Ok-read_header.dump) (words_from (lines_from 1 c.args.whole.now) [] (c.args.tail.now ++ rest)))
          (read_more c.args.self.now.setup.now stamped c.args.whole.now (c.args.tail.now ++ rest) (read_of c.in-Ok-read_header.dump) cut read)
          (c.in-Err.ensures.err stamped (words_from (lines_from 1 c.args.whole.now) [] (c.args.tail.now ++ rest))),
      λ stamped. same_refusal c.in-Err.refusal (captured_by form.Dump c.args.self.now.setup.now stamped c.args.whole.now) (read_after c.args.self.now.setup.now stamped (read_of c.in-Ok-read_header.dump) [])
          (read_last c.args.self.now.setup.now stamped c.args.whole.now (read_of c.in-Ok-read_header.dump) read) (c.in-Err.ensures.err stamped []),
    )

pub returns-in-Err-Fault : goal.returns-in-Err-Fault
returns-in-Err-Fault g c =
    let failed : header c.args.whole.now ≡ Err c.in-Err-Fault.fault = search rules in
    let ended : is_unended c.in-Err-Fault.fault.fault ≡ false = search rules in (
      λ cut stamped rest. fails_more c.args.self.now.setup.now stamped c.args.whole.now (c.args.tail.now ++ rest) c.in-Err-Fault.fault cut ended failed,
      λ stamped. fails_last c.args.self.now.setup.now stamped c.args.whole.now c.in-Err-Fault.fault failed,
    )
