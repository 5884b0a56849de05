use Rattle.std.proofs.Common.{◌≡◌, ap, ◌∙◌, arith}
use Rattle.std.proofs.lemmas.Grind.{common_steps}
use Rattle.micro_word.specs.declared.format.Format.TheVariants.{Two}
use Rattle.micro_word.specs.Text.{file2}
use Rattle.micro_word.specs.Reading.{reading}
use Rattle.micro_word.proofs.Files.{reading_again}
use Rattle.micro_word.proofs.writing.write.Goals as goal

pub returns-clause-read_back : goal.returns-clause-read_back
returns-clause-read_back g c =
    let text = c.args.text.now in
    let value : c.loop-word.bytes.items ≡ file2 text = grind (arith, common_steps) in
    ap reading value ∙ reading_again Two text c.words-words.ensures.fits
