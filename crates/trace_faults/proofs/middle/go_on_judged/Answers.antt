use Rattle.std.proofs.Common.{rules, ◌≡◌, true}
use Rattle.onfi_cycle.specs.Sequence.{target_of}
use Rattle.trace_faults.specs.Middle.{looks_of, known_of, is_whole}
use Rattle.trace_faults.specs.Recovery.{gone_on}
use Rattle.trace_faults.proofs.Knowing.{nothing_more}
use Rattle.trace_faults.proofs.middle.go_on_judged.Goals as goal

pub returns-then-is_whole-clause-known : goal.returns-then-is_whole-clause-known
returns-then-is_whole-clause-known c =
    let i = c.args.item in
    let whole : is_whole (known_of c.args.known.now (target_of i)) ≡ true = search rules in
    nothing_more c.args.state.now.bus.geometry i (looks_of c.args.state.now.bus (target_of i)) (looks_of (gone_on i c.args.state.now).bus (target_of i)) c.args.known.now (target_of i) whole
