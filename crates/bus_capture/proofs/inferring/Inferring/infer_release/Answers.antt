use Rattle.std.proofs.Common.{rules, ◌≡◌, [], ◌++◌, ap, sym, subst, ◌∙◌}
use Rattle.bus_capture.specs.Inferring.{rise_of, rise_stamps}
use Rattle.bus_capture.specs.Inside.{AreInside}
use Rattle.bus_capture.proofs.Captured.{released_inside}
use Rattle.bus_capture.proofs.Tracing.{follows_none}
use Rattle.bus_capture.proofs.inferring.Inferring.infer_release.Goals as goal

pub returns-in_ok-push_rise-in-Some-clause-inside : goal.returns-in_ok-push_rise-in-Some-clause-inside
returns-in_ok-push_rise-in-Some-clause-inside g c = λ yes few inside.
    let rise : rise_of c.args.self.now.infers c.args.self.now.state c.args.self.now.luns c.args.ce (c.args.later.now ++ []) ≡ c.in-Some.rise = c.in-Some.ensures.known [] (follows_none c.args.is_last) in
    let pushed : c.push_rise.new.stamped.items ≡ c.args.stamped.now.items ++ rise_stamps c.args.time c.in-Some.rise = search rules in
    subst AreInside (sym (pushed ∙ ap (λ r. c.args.stamped.now.items ++ rise_stamps c.args.time r) (sym rise)))
    (released_inside c.args.self.now.infers c.args.self.now.state c.args.self.now.luns c.args.ce c.args.time (c.args.later.now ++ []) c.args.stamped.now.items few inside)
