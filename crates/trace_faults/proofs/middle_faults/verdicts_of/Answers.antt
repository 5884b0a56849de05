use Rattle.std.proofs.Common.{rules, ◌≡◌, ◌∷◌}
use Rattle.trace_faults.specs.Middle.{verdicts_of}
use Rattle.trace_faults.proofs.Middles.{goes_on}
use Rattle.trace_faults.proofs.middle_faults.verdicts_of.Goals as goal

pub rest-preserved : goal.rest-preserved
rest-preserved g c =
    let cons : c.rest.rest.now ≡ c.in-Some.first.now ∷ c.in-Some.later.now = search rules in
    goes_on c.args.readies (verdicts_of c.args.readies c.args.geometry.now c.args.targets c.args.items.now) c.rest.verdicts.items c.push.new.self.items c.rest.rest.now c.in-Some.first.now c.in-Some.later.now (record { state = c.rest.state; known = c.rest.known }) (record { state = c.go_on_from_middle-said.new.state; known = c.go_on_from_middle-said.new.known }) c.go_on_from_middle-said.result cons c.go_on_from_middle-said.ensures.said c.go_on_from_middle-said.ensures.state c.go_on_from_middle-said.ensures.known c.in_ok-push.ensures.items c.rest.invariant
