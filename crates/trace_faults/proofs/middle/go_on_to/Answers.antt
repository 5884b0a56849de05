use Rattle.std.proofs.Common.{rules, ◌≡◌, true, sym, ◌∙◌}
use Rattle.trace_faults.specs.Middle.{Seen, verdict_here, is_granted_here, shown_here}
use Rattle.trace_faults.proofs.Middles.{granted_said}
use Rattle.trace_faults.proofs.middle.go_on_to.Goals as goal

pub returns-then-is_granted-clause-said : goal.returns-then-is_granted-clause-said
returns-then-is_granted-clause-said c =
    let seen : Seen = record { state = c.args.state.now; known = c.args.known.now } in
    let said : c.verdict_here-as_it_stands.result ≡ verdict_here (shown_here c.args.readies seen c.args.item) c.args.item = search rules in
    let granted : is_granted_here c.args.readies seen c.args.item ≡ true = search rules in
    said ∙ sym (granted_said c.args.readies seen c.args.item c.args.later.now granted)
