use Rattle.std.proofs.Common.{Option, sym, ap, ◌∙◌, length, List}
use Rattle.std.proofs.lemmas.List.{length-reverse}
use Rattle.nand_geometry.specs.declared.parts.Parts.{Parts}
use Rattle.onfi_cycle.specs.declared.item.Item.{Item}
use Rattle.onfi_cycle.specs.declared.item.Kind.TheVariants.{Dout}
use Rattle.onfi_cycle.specs.Channel.{cycle}
use Rattle.target_bus.specs.Bus.{channel_of}
use Rattle.target_bus.proofs.Shown.{any_byte}
use Rattle.trace_data.specs.declared.page_shown.PageShown.{PageShown}
use Rattle.trace_data.specs.Data.{compared, origin_in}
use Rattle.trace_data.proofs.Walks.{came, output_is_given, output_told, output_stands}
use Rattle.trace_data.proofs.replaying.take_output.Goals as goal

pub returns-in-Ok-clause-come : goal.returns-in-Ok-clause-come
returns-in-Ok-clause-come c =
    let bus = c.args.bus.now in
    let ok = c.in-Ok.ensures.ok in
    came bus c.take.new.self (cycle c.args.ce Dout c.args.seen) (cycle c.args.ce Dout c.in-Ok.expected)
    (any_byte bus.geometry bus.targets bus.past c.args.ce c.args.seen c.in-Ok.expected ∙ ok.0)
    (output_is_given (channel_of bus) bus.past c.args.ce c.args.seen c.in-Ok.expected ok.1) ok.2

pub returns-in-Ok-clause-difference : goal.returns-in-Ok-clause-difference
returns-in-Ok-clause-difference c =
    let bus = c.args.bus.now in
    let all = c.args.works.now in
    let known = c.args.known.now in
    let number = ap (λ (items : List Item). length items) c.trace-number.ensures.value ∙ length-reverse bus.past in
    c.compare.ensures bus.geometry (sym (ap (λ (g : Parts). g.luns) (c.parts-luns.ensures.value ∙ c.geometry.ensures.value)))
    ∙ (ap (λ (shown : Option PageShown). compared (origin_in bus.geometry all known) (length c.trace-number.result.now) shown c.args.seen c.in-Ok.expected) c.page_shown-shown.ensures
    ∙ output_told bus all known c.args.ce c.args.seen c.in-Ok.expected (length c.trace-number.result.now) c.requires number c.in-Ok.ensures.ok.1)

pub returns-in-Ok-clause-works : goal.returns-in-Ok-clause-works
returns-in-Ok-clause-works c = output_stands c.args.bus.now c.take.new.self c.args.works.now c.args.ce c.in-Ok.expected c.requires c.in-Ok.ensures.ok.2
