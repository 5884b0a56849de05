use Rattle.std.proofs.Common.{subst}
use Rattle.target_bus.specs.Bus.{Entries}
use Rattle.trace_data.specs.Reads.{AreFilled}
use Rattle.trace_commands.proofs.Filled.{are_images}
use Rattle.trace_commands.proofs.image_writing.image_with.Goals as goal

pub returns : goal.returns
returns c = are_images (λ v. v.items) c.image.result c.args.geometry.now c.args.die.now c.args.reads.now c.fill_pages.new.pages c.requires
    (subst (λ (ps : Entries). AreFilled c.args.reads.now ps c.fill_pages.new.pages) c.in_ok-pages.ensures.value c.in_ok-fill_pages.ensures) c.image.ensures.value
