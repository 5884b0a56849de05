use Rattle.std.proofs.Common.{[], ◌∷◌, ◌++◌, ◌+◌, ◌-◌, sym, ap, ◌∙◌}
use Rattle.std.specs.Prelude.{not, Bool}
use Rattle.trace_wave.specs.Levels.{bit, enables}
use Rattle.trace_wave.proofs.Lists.{joined}
use Rattle.trace_wave.proofs.Counted.{enables_more}
use Rattle.trace_wave.proofs.bus.+put_enables.Goals as goal

pub returns-clause-value : goal.returns-clause-value
returns-clause-value t c =
    let level = c.bit.ensures ∙ ap (λ (b : Bool). bit (not b)) c.is_at.ensures in
    let rest = enables c.args.enabled (c.args.count - 1) (c.args.n + 1) in
    joined c.args.levels.now.items c.push.new.self.items c.put_enables.new.levels.items (c.bit.result ∷ []) rest (enables c.args.enabled c.args.count c.args.n)
    c.push.ensures.items c.put_enables.ensures.value (enables_more c.args.enabled c.args.count c.args.n c.if-count-eq0.false ∙ ap (λ b. (b ∷ []) ++ rest) (sym level))
