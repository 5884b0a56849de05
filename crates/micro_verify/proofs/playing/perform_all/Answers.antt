use Rattle.std.proofs.Common.{◌+◌, ◌∙◌, sym, subst, arith, get_or}
use Rattle.micro_word.specs.declared.word.Word.TheVariants.{End}
use Rattle.micro_verify.specs.declared.playing.Outcome.{Outcome}
use Rattle.micro_verify.specs.declared.registers.Registers.{Registers}
use Rattle.micro_verify.specs.Playing.{HasPerformed}
use Rattle.micro_verify.proofs.PerformedWords.{IsGoing, going_on, going_stopped, gone_all}
use Rattle.micro_verify.proofs.playing.perform_all.Goals as goal

pub loop-word-preserved : goal.loop-word-preserved
loop-word-preserved g c =
    subst (λ (r : Registers). IsGoing c.args.bus.now c.perform.new.bus c.args.buffer.now c.perform.new.buffer c.args.words.now (c.loop-word.word-index + 1) r) (sym c.after-registers.ensures)
    (going_on c.args.bus.now c.loop-word.bus c.perform.new.bus c.args.buffer.now c.loop-word.buffer c.perform.new.buffer c.args.words.now c.loop-word.word-index c.requires.range.0 c.loop-word.registers (End 0) c.loop-word-test.true (c.requires.range.1 c.loop-word.word-index (End 0) c.loop-word-test.true) c.loop-word.invariant c.in_ok-perform.ensures.same
    (subst (λ (o : Outcome). HasPerformed c.loop-word.bus c.perform.new.bus c.loop-word.registers c.loop-word.buffer c.perform.new.buffer (get_or c.args.words.now c.loop-word.word-index (End 0)) o) c.in-Done.is c.in_ok-perform.ensures.value))

pub returns-clause-run : goal.returns-clause-run
returns-clause-run g c =
    let low = c.loop-word-test.false in
    let high = c.loop-word.auto.word-index-end in
    gone_all c.args.bus.now c.loop-word.bus c.args.buffer.now c.loop-word.buffer c.args.words.now c.loop-word.word-index c.loop-word.registers (omega (arith, low, high)) c.loop-word.invariant

pub returns-in_default : goal.returns-in_default
returns-in_default g c =
    record {
      same = c.in_ok-perform.ensures.same ∙ c.loop-word.invariant.same;
      small = tt;
      run = going_stopped c.args.bus.now c.loop-word.bus c.perform.new.bus c.args.buffer.now c.loop-word.buffer c.perform.new.buffer c.args.words.now c.loop-word.word-index c.loop-word.registers (End 0) c.in_ok-perform.field-0 c.loop-word-test.true c.loop-word.invariant c.in_ok-perform.ensures.same c.in_ok-perform.ensures.value c.in_default.not-Done;
    }
