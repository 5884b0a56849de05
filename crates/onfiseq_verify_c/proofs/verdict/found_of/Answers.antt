use Rattle.onfiseq_verify_c.proofs.Found.{found_of_text}
use Rattle.onfiseq_verify_c.proofs.verdict.found_of.Goals as goal

pub returns-in-Ok : goal.returns-in-Ok
returns-in-Ok c =
    found_of_text c.args.page.now c.args.file.now c.in-Ok.program.geometry c.in-Ok.program.text c.examined.result c.in-Ok.ensures.read.0 c.in-Ok.ensures.read.1 c.examined.ensures
