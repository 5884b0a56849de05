use Rattle.std.proofs.Common.{◌≡◌, true, sym, ◌∙◌, subst, length}
use Rattle.micro_word.specs.declared.word.Word.{Word}
use Rattle.micro_program.specs.Program.{fits}
use Rattle.seq_core.proofs.Calls.{some_same}
use Rattle.seq_core.proofs.Steps.{reaches_inside}
use Rattle.seq_core.proofs.slot.Slot.play_next.Goals as goal

pub returns-clause-place : goal.returns-clause-place
returns-clause-place g c =
    let same : c.requires.word ≡ c.next_word-word.result = some_same c.requires.word c.next_word-word.result (sym c.requires.here ∙ c.next_word-word.ensures.word) in
    reaches_inside (length c.args.self.now.job.buffer) c.args.self.now.registers.place c.next_word-word.result c.next_word-word.ensures.buffer
    (subst (λ (w : Word). fits (length c.args.self.now.job.buffer) c.args.self.now.registers.place w ≡ true) same c.requires.can.inside)
