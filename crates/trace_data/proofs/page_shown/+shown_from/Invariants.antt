use Rattle.std.proofs.Common.{◌-◌}
use Rattle.trace_data.proofs.page_shown.+shown_from.Given as goal

abbrev pub decreases-shown_from : goal.decreases-shown_from
decreases-shown_from l = l.luns - l.lun
