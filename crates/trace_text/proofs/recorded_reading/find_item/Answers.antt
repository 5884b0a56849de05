use Rattle.std.proofs.Common.{ap, ◌∙◌}
use Rattle.std.specs.Option.{option_map}
use Rattle.nand_geometry.specs.declared.optional.Profile.TheVariants.{Onfi}
use Rattle.trace_text.proofs.RecordedTexts.{found_item}
use Rattle.trace_text.proofs.recorded_reading.find_item.Goals as goal

pub returns-clause-item : goal.returns-clause-item
returns-clause-item c = λ items read. ap (option_map (λ f. f.item)) c.item_at.ensures ∙ found_item Onfi c.args.text.now c.args.number items read
