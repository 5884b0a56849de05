use Rattle.std.proofs.Common.{◌≡◌, ℕ, List}
use Rattle.csv_text.specs.Rows.{MayFollow}
use Rattle.csv_text.specs.Shown.{told_before, HasRoom, bytes_left}
use Rattle.bus_capture.specs.declared.inferring.Stamped.{Stamped}
use Rattle.bus_capture.specs.Tracing.{traced, IsTracing}
use Rattle.bus_capture.proofs.table_reader.take_rows.Given as goal

abbrev pub invariant-events : goal.invariant-events
invariant-events g l = record {
  tracing : IsTracing l.tracer;
  room : HasRoom l.body;
  names : l.body.names ≡ l.initial.body.names;
  follows : (more : List ℕ) → MayFollow l.initial.body.rows.rest.now more → MayFollow l.body.rows.rest.now more;
  same : (stamped : List Stamped) (more : List ℕ) → MayFollow l.initial.body.rows.rest.now more
      → traced l.initial.tracer stamped (told_before l.initial.body more) ≡ traced l.tracer stamped (told_before l.body more);
}

abbrev pub decreases-events : goal.decreases-events
decreases-events g l = bytes_left l.body
