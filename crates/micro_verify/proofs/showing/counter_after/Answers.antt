use Rattle.std.proofs.Common.{refl, subst, ◌∙◌}
use Rattle.micro_verify.specs.declared.playing.Outcome.{Outcome}
use Rattle.micro_verify.specs.Playing.{HasPerformed}
use Rattle.micro_verify.proofs.ShownWords.{lacks_there, lacking_none, stopped_some, unstopped_none}
use Rattle.micro_verify.proofs.showing.counter_after.Goals as goal

pub returns-then-lacks_bytes : goal.returns-then-lacks_bytes
returns-then-lacks_bytes g c =
    λ s j run lone at rows limit.
    lacking_none s j run c.args.word (lacks_there c.geometry.result s j c.args.bus.now c.args.registers c.args.buffer.now run c.from-rows.result c.buffer.result c.tail_of.result c.args.word c.lacks_bytes.result at c.tail_of.ensures (c.from-rows.ensures ∙ (c.rows.ensures.value ∙ rows)) (c.buffer.ensures.value ∙ limit) c.lacks_bytes.ensures c.geometry.ensures.value ∙ c.if-lacks_bytes.true)

pub returns-in_ok-copied-in-Stopped : goal.returns-in_ok-copied-in-Stopped
returns-in_ok-copied-in-Stopped g c =
    λ s j run lone at rows limit. (
      refl,
      stopped_some s j c.args.bus.now c.perform.new.bus c.args.registers c.args.buffer.now c.perform.new.buffer run c.args.word c.in-Stopped.cycle _ lone at
          (lacks_there c.geometry.result s j c.args.bus.now c.args.registers c.args.buffer.now run c.from-rows.result c.buffer.result c.tail_of.result c.args.word c.lacks_bytes.result at c.tail_of.ensures (c.from-rows.ensures ∙ (c.rows.ensures.value ∙ rows)) (c.buffer.ensures.value ∙ limit) c.lacks_bytes.ensures c.geometry.ensures.value ∙ c.if-lacks_bytes.false)
          c.in_ok-cycle.ensures.same
          (subst (λ (o : Outcome). HasPerformed c.args.bus.now c.perform.new.bus c.args.registers c.args.buffer.now c.perform.new.buffer c.args.word o) c.in-Stopped.is c.in_ok-cycle.ensures.value)
          (c.in_ok-copied-in-Stopped.ensures ∙ c.trace.ensures.value),
    )

pub returns-in_default : goal.returns-in_default
returns-in_default g c =
    λ s j run lone at rows limit.
    unstopped_none s j c.args.bus.now c.perform.new.bus c.args.registers c.args.buffer.now c.perform.new.buffer run c.args.word c.in_ok-cycle.field-0 lone at
    (lacks_there c.geometry.result s j c.args.bus.now c.args.registers c.args.buffer.now run c.from-rows.result c.buffer.result c.tail_of.result c.args.word c.lacks_bytes.result at c.tail_of.ensures (c.from-rows.ensures ∙ (c.rows.ensures.value ∙ rows)) (c.buffer.ensures.value ∙ limit) c.lacks_bytes.ensures c.geometry.ensures.value ∙ c.if-lacks_bytes.false)
    c.in_ok-cycle.ensures.same c.in_ok-cycle.ensures.value c.in_default.not-Stopped
