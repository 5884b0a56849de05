use Rattle.std.proofs.Common.{ap, ◌∙◌}
use Rattle.std.specs.String.{string_bytes}
use Rattle.micro_asm.specs.Assembly.{assembly}
use Rattle.micro_asm.specs.Reading.{reading}
use Rattle.micro_asm.proofs.Back.{written_is_read}
use Rattle.micro_asm.proofs.Written.{lines_done}
use Rattle.micro_asm.proofs.writing.disassemble.Goals as goal

pub returns-clause-spells : goal.returns-clause-spells
returns-clause-spells g c =
    ap reading (lines_done c.words-words.result.now c.loop-at.at (string_bytes c.loop-at.lines) (assembly c.args.text.now) c.loop-at-test.false c.loop-at.invariant)
    ∙ written_is_read c.args.text.now c.words-words.ensures.fits
