use Rattle.std.proofs.Common.{rules, ◌≡◌, ℕ, List, ◌++◌, ◌∙◌, Ok}
use Rattle.csv_text.specs.Rows.{rows, MayFollow}
use Rattle.csv_text.specs.Table.{table_of}
use Rattle.csv_text.specs.Shown.{table_before}
use Rattle.bus_capture.specs.declared.reading.CaptureForm.TheVariants as form
use Rattle.bus_capture.specs.Inferring.{captured_by}
use Rattle.bus_capture.specs.Tracing.{table_read}
use Rattle.bus_capture.proofs.Tracing.{table_whole, same_refusal}
use Rattle.bus_capture.proofs.reading.CaptureReader.open_table.Goals as goal

pub returns-in-Ok : goal.returns-in-Ok
returns-in-Ok g c =
    let first : (more : List ℕ) → MayFollow c.args.whole.now more → table_of (rows (c.args.whole.now ++ more)) ≡ Ok (table_before c.in-Ok-Some.table more) = search rules in (
      c.in-Ok.ensures.tabling,
      λ stamped rest may.
          table_whole c.args.self.now.setup.now stamped (c.args.whole.now ++ (c.args.tail.now ++ rest)) (table_before c.in-Ok-Some.table (c.args.tail.now ++ rest)) (first (c.args.tail.now ++ rest) may)
          ∙ c.in-Ok.ensures.ok stamped rest,
    )

pub returns-in-Ok-Some : goal.returns-in-Ok-Some
returns-in-Ok-Some g c =
    let first : (more : List ℕ) → MayFollow c.args.whole.now more → table_of (rows (c.args.whole.now ++ more)) ≡ Ok (table_before c.in-Ok-Some.table more) = search rules in
    λ stamped rest may.
    same_refusal c.in-Err.refusal (captured_by form.Table c.args.self.now.setup.now stamped (c.args.whole.now ++ (c.args.tail.now ++ rest)))
    (table_read c.args.self.now.setup.now stamped (table_before c.in-Ok-Some.table (c.args.tail.now ++ rest)))
    (table_whole c.args.self.now.setup.now stamped (c.args.whole.now ++ (c.args.tail.now ++ rest)) (table_before c.in-Ok-Some.table (c.args.tail.now ++ rest)) (first (c.args.tail.now ++ rest) may))
    (c.in-Err.ensures.err stamped (c.args.tail.now ++ rest))
