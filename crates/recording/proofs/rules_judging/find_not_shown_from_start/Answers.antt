use Rattle.std.proofs.Common.{◌∙◌, sym, ap}
use Rattle.trace_faults.specs.Faults.{not_shown_of}
use Rattle.recording.specs.Targets.{count_of}
use Rattle.recording.proofs.Checked.{none_not_shown}
use Rattle.recording.proofs.rules_judging.find_not_shown_from_start.Goals as goal

pub returns-in-Written : goal.returns-in-Written
returns-in-Written c =
    c.new.ensures.items
    ∙ sym (ap (λ r. not_shown_of r c.args.view.now.geometry (count_of c.args.view.now.targets) c.args.items.now) c.in-Written.is
    ∙ none_not_shown c.args.view.now.geometry (count_of c.args.view.now.targets) c.args.items.now)
