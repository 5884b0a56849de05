use Rattle.std.proofs.Common.{◌∙◌}
use Rattle.onfi_cycle.proofs.Drivers.{none_drive}
use Rattle.onfi_cycle.proofs.rules.drives_none.Goals as goal

pub returns : goal.returns
returns g c = c.all_are_off.ensures ∙ none_drive c.args.luns.now
