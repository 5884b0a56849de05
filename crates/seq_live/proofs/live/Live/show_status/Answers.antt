use Rattle.std.proofs.Common.{sym, ◌∙◌}
use Rattle.seq_live.proofs.Shown.{shows_both, shows_ready, shows_none}
use Rattle.seq_live.proofs.live.Live.show_status.Goals as goal

pub returns-then-status-eq-ARRAY_READY-clause-run : goal.returns-then-status-eq-ARRAY_READY-clause-run
returns-then-status-eq-ARRAY_READY-clause-run g c =
    shows_both c.args.self.now c.ready.new.self c.array_ready.new.self c.args.lun c.args.status c.failures-fail.result c.ready.result c.array_ready.result (sym c.is_ready_status.ensures ∙ c.if-is_ready_status.true) c.failures-fail.ensures c.if-status-eq-ARRAY_READY.true c.ready.ensures.came c.array_ready.ensures.came

pub returns-then-status-eq-ARRAY_READY-clause-truth : goal.returns-then-status-eq-ARRAY_READY-clause-truth
returns-then-status-eq-ARRAY_READY-clause-truth g c = λ ready. c.array_ready.ensures.truth c.ready.ensures.truth

pub returns-else-status-eq-ARRAY_READY-clause-run : goal.returns-else-status-eq-ARRAY_READY-clause-run
returns-else-status-eq-ARRAY_READY-clause-run g c =
    shows_ready c.args.self.now c.ready.new.self c.args.lun c.args.status c.failures-fail.result c.ready.result (sym c.is_ready_status.ensures ∙ c.if-is_ready_status.true) c.failures-fail.ensures c.if-status-eq-ARRAY_READY.false c.ready.ensures.came

pub returns-else-is_ready_status-clause-run : goal.returns-else-is_ready_status-clause-run
returns-else-is_ready_status-clause-run g c = shows_none c.args.self.now c.args.lun c.args.status (sym c.is_ready_status.ensures ∙ c.if-is_ready_status.false)
