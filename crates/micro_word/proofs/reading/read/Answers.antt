use Rattle.std.proofs.Common.{subst, arith}
use Rattle.micro_word.specs.Reading.{Gives}
use Rattle.micro_word.proofs.Files.{is_found, reading_of}
use Rattle.micro_word.proofs.reading.read.Goals as goal

pub returns-clause-found : goal.returns-clause-found
returns-clause-found g c = is_found c.args.bytes.now c.read_text.result (λ i. omega (arith, c.type_inv.bytes i)) c.read_text.ensures

pub returns-clause-only : goal.returns-clause-only
returns-clause-only g c = λ x is. subst (λ f. Gives c.read_text.result f) (reading_of c.args.bytes.now x is) c.read_text.ensures
