use Rattle.std.proofs.Common.{rules, ◌++◌, Ok, Some, take, drop, ap, ◌∙◌}
use Rattle.csv_text.specs.Rows.{AreLines}
use Rattle.bus_capture.specs.declared.reading.CaptureForm.TheVariants as form
use Rattle.bus_capture.specs.Inferring.{captured_by}
use Rattle.bus_capture.specs.Tracing.{OpensTable}
use Rattle.bus_capture.proofs.Tracing.{two_pieces, lines_follow}
use Rattle.bus_capture.proofs.reading.CaptureReader.open_table_head.Goals as goal

pub returns-in-Some-clause-ok : goal.returns-in-Some-clause-ok
returns-in-Some-clause-ok g c =
    let lines : AreLines (take c.whole_lines_len-count.result c.args.self.now.head.items) = search rules in
    let opens : OpensTable c.args.self.now.setup.now (take c.whole_lines_len-count.result c.args.self.now.head.items) (drop c.whole_lines_len-count.result c.args.self.now.head.items) (Ok (Some c.in-Some.table)) = search rules in
    λ stamped rest. ap (captured_by form.Table c.args.self.now.setup.now stamped) (two_pieces c.whole_lines_len-count.result c.args.self.now.head.items rest)
    ∙ opens.1 stamped rest (lines_follow (take c.whole_lines_len-count.result c.args.self.now.head.items) (drop c.whole_lines_len-count.result c.args.self.now.head.items ++ rest) lines)
