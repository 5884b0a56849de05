use Rattle.std.proofs.Common.{inl, refl}
use Rattle.seq_inputs.specs.Inputs.{PageIsRefused}
use Rattle.recording.specs.Recordings.{fault_line}
use Rattle.recording.proofs.Stopped.{refused, wrong}
use Rattle.edge_commands.specs.Edges.{EdgesRefuse}
use Rattle.edge_commands.proofs.edges_judging.time_capture.Goals as goal

pub returns-in-Err-clause-refused : goal.returns-in-Err-clause-refused
returns-in-Err-clause-refused g c = λ refusal is.
    let k = c.end_stopped.ensures.refused refusal is in
    (refused (PageIsRefused (g.F.Files.store c.args.files.now) c.args.request.page.now) (EdgesRefuse (g.F.Files.store c.args.files.now) c.args.request) c.in-Err.stop refusal c.in-Err.ensures.err k.0, k.1)

pub returns-in-Err-clause-faulty : goal.returns-in-Err-clause-faulty
returns-in-Err-clause-faulty g c = λ fault is.
    let k = c.end_stopped.ensures.faulty fault is in
    (fault_line fault, inl (wrong (PageIsRefused (g.F.Files.store c.args.files.now) c.args.request.page.now) (EdgesRefuse (g.F.Files.store c.args.files.now) c.args.request) c.in-Err.stop fault c.in-Err.ensures.err k.0, refl), k.1)
