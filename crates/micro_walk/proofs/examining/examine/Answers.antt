use Rattle.std.proofs.Common.{◌≡◌, true, rules}
use Rattle.micro_program.specs.Lines.{all_lead_on}
use Rattle.micro_walk.proofs.Searching.{not_straight}
use Rattle.micro_walk.proofs.examining.examine.Goals as goal

pub returns-then-all_lead_on-clause-found : goal.returns-then-all_lead_on-clause-found
returns-then-all_lead_on-clause-found g c found =
    let straight : all_lead_on c.args.text.now.words ≡ true = search rules in
    absurd (not_straight c.args.geometry.now c.args.text.now found straight)
