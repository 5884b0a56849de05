use Rattle.onfi_cycle.specs.declared.queued.Queued.TheVariants.{Erase}
use Rattle.onfi_cycle.proofs.HeldPages.{first_queued, holds_all}
use Rattle.onfi_cycle.proofs.held.+hold_reads.Goals as goal

pub returns-in-len1-up : goal.returns-in-len1-up
returns-in-len1-up t c =
    holds_all c.args.held.now.items c.hold_read.new.held.items c.hold_reads.new.held.items c.args.queue.now _ _
    (first_queued c.args.queue.now (Erase (record { block = 0; page = 0 })) c.in-len1-up.len_at_least) c.hold_read.ensures c.hold_reads.ensures
