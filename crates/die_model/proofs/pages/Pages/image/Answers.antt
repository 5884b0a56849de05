use Rattle.std.proofs.Common.{ap, ◌∙◌, ◌++◌}
use Rattle.die_model.specs.Image.{entries_of, count_of, header}
use Rattle.die_model.proofs.Images.{header_of}
use Rattle.die_model.proofs.pages.Pages.image.Goals as goal

pub returns-clause-value : goal.returns-clause-value
returns-clause-value g c =
    c.in_ok-write_entries.ensures.value ∙ ap (λ x. x ++ entries_of c.args.geometry.now c.args.self.now) (c.in_ok-out.ensures ∙ (ap (λ q. header q c.count_entries.result) c.parts.ensures.value ∙ header_of c.args.geometry.now (count_of c.args.geometry.now c.args.self.now) c.count_entries.result c.count_entries.ensures))
