use Rattle.std.proofs.Common.{◌≡◌, true, rules}
use Rattle.micro_program.specs.Lines.{all_lead_on}
use Rattle.micro_walk.proofs.Searching.{not_straight}
use Rattle.micro_walk.proofs.lent.examine_in.Goals as goal

pub returns-in-Err-clause-found : goal.returns-in-Err-clause-found
returns-in-Err-clause-found g c found room =
    let straight : all_lead_on c.args.text.now.words ≡ true = search rules in
    absurd (not_straight c.args.geometry.now c.args.text.now found straight)
