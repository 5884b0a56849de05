use Rattle.std.proofs.Common.{List, ℕ}
use Rattle.std.specs.Io.KnownBytes.{Appends}
use Rattle.seq_inputs.specs.Stops.{Tells}
use Rattle.seq_inputs.specs.Refusals.{line_of}
use Rattle.run_once.specs.Once.{FileMayBeRefused}
use Rattle.run_once.proofs.Given.{of_input}
use Rattle.run_once.proofs.once.once_on.Goals as goal

pub returns-in-Ok-clause-refused : goal.returns-in-Ok-clause-refused
returns-in-Ok-clause-refused g c = λ refusal is.
    let k = c.print_file.ensures.refused refusal is in
    of_input (g.R.Read.remaining c.args.input.now) c.in-Ok.bytes.items c.as_slice.result.now
    (λ (b : List ℕ). Tells (FileMayBeRefused c.args.base b) refusal × Appends (g.W.Write.contents c.args.console.now.output) (g.W.Write.contents c.print_file.new.console.output) (line_of refusal))
    c.in-Ok.ensures c.as_slice.ensures.value k
