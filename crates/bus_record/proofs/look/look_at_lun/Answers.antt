use Rattle.std.proofs.Common.{◌≤◌, Option, length, sym, ap, ◌∙◌, arith}
use Rattle.onfi_cycle.specs.Look.{look_on}
use Rattle.onfi_cycle.specs.State.{TargetView}
use Rattle.target_record.specs.Record.{target_of}
use Rattle.bus_record.proofs.Pushed.{seen_there}
use Rattle.bus_record.proofs.look.look_at_lun.Goals as goal

pub returns : goal.returns
returns c =
    let few = c.requires.places.few in
    let full = c.requires.places.room in
    let room : c.args.bus.now.count ≤ length c.args.bus.now.targets = omega (arith, few, full) in
    c.look_on.ensures
    ∙ sym (ap (λ (o : Option TargetView). look_on o c.args.lun) (seen_there target_of c.args.bus.now.targets c.args.bus.now.count c.args.ce c.from-ce.result _ c.from-ce.ensures c.if-bus-ce.false room))
