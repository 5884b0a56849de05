use Rattle.std.proofs.Common.{Bool, ap, ◌∙◌}
use Rattle.bus_record.specs.Bus.{bus_view, bus_pushed, pushed}
use Rattle.bus_record.specs.Item.{item_of}
use Rattle.bus_record.proofs.Pushed.{goes_on_with}
use Rattle.onfiseq_c.proofs.bus.onfiseq_push.Goals as goal

pub returns-clause-past : goal.returns-clause-past
returns-clause-past c g n past i whole is follows =
    goes_on_with g n (bus_view c.args.bus.now) (bus_view c.push_numbers.new.bus) past i c.push_numbers.result
    (c.push_numbers.ensures.answer ∙ ap (λ (w : Bool). pushed (bus_view c.args.bus.now) (item_of w c.args.item.now)) c.is_wide-wide.ensures ∙ ap (pushed (bus_view c.args.bus.now)) is)
    (c.push_numbers.ensures.state ∙ ap (λ (w : Bool). bus_pushed (bus_view c.args.bus.now) (item_of w c.args.item.now)) c.is_wide-wide.ensures ∙ ap (bus_pushed (bus_view c.args.bus.now)) is) follows
