use Rattle.std.proofs.Common.{◌∙◌, sym}
use Rattle.seq_live.proofs.Shown.{shows_poll, shows_nothing, ends_ready}
use Rattle.seq_live.proofs.live.Live.show.Goals as goal

pub returns-then-is_poll-clause-run : goal.returns-then-is_poll-clause-run
returns-then-is_poll-clause-run g c =
    shows_poll c.args.self.now c.show_status.new.self c.args.lun c.args.word c.args.taken.now c.status_of.result (sym c.is_poll.ensures ∙ c.if-is_poll.true) c.status_of.ensures c.show_status.ensures.run

pub returns-then-is_poll-clause-truth : goal.returns-then-is_poll-clause-truth
returns-then-is_poll-clause-truth g c = λ ends. c.show_status.ensures.truth (ends_ready c.args.word c.args.taken.now c.status_of.result c.status_of.ensures ends)

pub returns-else-is_poll-clause-run : goal.returns-else-is_poll-clause-run
returns-else-is_poll-clause-run g c = shows_nothing c.args.self.now c.args.lun c.args.word c.args.taken.now (sym c.is_poll.ensures ∙ c.if-is_poll.false)
