use Rattle.onfi_cycle.proofs.HeldPages.{first_held, holds_others}
use Rattle.onfi_cycle.proofs.held.+hold_others.Goals as goal

pub returns-in-len1-up : goal.returns-in-len1-up
returns-in-len1-up t c =
    holds_others c.args.kept.now.items c.hold_other.new.kept.items c.hold_others.new.kept.items c.args.planes c.args.page c.args.held.now _ _
    (first_held c.args.held.now (record { block = 0; page = 0 }) c.in-len1-up.len_at_least) c.hold_other.ensures c.hold_others.ensures
