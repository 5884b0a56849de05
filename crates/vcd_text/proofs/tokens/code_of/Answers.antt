use Rattle.std.proofs.Common.{sym, ◌∙◌, arith}
use Rattle.vcd_text.proofs.Stops.{code_stops}
use Rattle.vcd_text.proofs.tokens.code_of.Goals as goal

pub returns-then-not-may_go_on : goal.returns-then-not-may_go_on
returns-then-not-may_go_on c =
    sym (code_stops c.loop-byte.number c.loop-byte.byte-index c.args.word.now (omega arith) (sym c.may_go_on.ensures ∙ c.if-not-may_go_on.true)) ∙ c.loop-byte.invariant
