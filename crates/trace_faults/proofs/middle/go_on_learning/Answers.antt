use Rattle.std.proofs.Common.{rules, ◌≡◌, slice_set, ap, ◌∙◌}
use Rattle.onfi_cycle.specs.Sequence.{target_of}
use Rattle.trace_faults.specs.declared.looks.Looks.{Looks}
use Rattle.trace_faults.specs.Middle.{looks_of, learned, known_of}
use Rattle.trace_faults.specs.Recovery.{gone_on}
use Rattle.trace_faults.proofs.middle.go_on_learning.Goals as goal

pub returns-clause-known : goal.returns-clause-known
returns-clause-known c =
    let i = c.args.item in
    let known = c.args.known.now in
    let before : c.of-before.result ≡ looks_of c.args.state.now.bus (target_of i) = search rules in
    let after : c.of.result ≡ looks_of (gone_on i c.args.state.now).bus (target_of i) = search rules in
    let noted : c.note_learned.new.known ≡ slice_set known (target_of i) (learned c.args.state.now.bus.geometry i c.of-before.result c.of.result (known_of known (target_of i))) = search rules in
    noted
    ∙ ap (λ (looks : Looks). slice_set known (target_of i) (learned c.args.state.now.bus.geometry i looks c.of.result (known_of known (target_of i)))) before
    ∙ ap (λ (looks : Looks). slice_set known (target_of i) (learned c.args.state.now.bus.geometry i (looks_of c.args.state.now.bus (target_of i)) looks (known_of known (target_of i)))) after
