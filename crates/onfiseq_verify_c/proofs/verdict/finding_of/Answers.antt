use Rattle.onfiseq_verify_c.proofs.Found.{read_and_found, sought_of}
use Rattle.onfiseq_verify_c.proofs.verdict.finding_of.Goals as goal

pub returns-in-Ok-clause-finds : goal.returns-in-Ok-clause-finds
returns-in-Ok-clause-finds c =
    read_and_found c.args.page.now c.args.file.now c.in-Ok.program.geometry c.in-Ok.program.text c.finding_of_text.result.found c.finding_of_text.result.run c.in-Ok.ensures.read.0 c.in-Ok.ensures.read.1
    c.finding_of_text.ensures.finds c.finding_of_text.ensures.run

pub returns-in-Ok-clause-sought : goal.returns-in-Ok-clause-sought
returns-in-Ok-clause-sought c =
    sought_of c.args.page.now c.args.file.now c.in-Ok.program.geometry c.in-Ok.program.text c.finding_of_text.result.sought c.in-Ok.ensures.read.0 c.in-Ok.ensures.read.1 c.finding_of_text.ensures.sought
