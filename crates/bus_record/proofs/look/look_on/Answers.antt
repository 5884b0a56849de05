use Rattle.std.proofs.Common.{◌≡◌, ◌≤◌, length, sym, ap, ◌∙◌, Option, arith, rules}
use Rattle.onfi_cycle.specs.LunView.{LunView}
use Rattle.onfi_cycle.specs.Look.{look_at_some}
use Rattle.target_record.specs.Record.{lun_of}
use Rattle.bus_record.proofs.Pushed.{seen_there}
use Rattle.bus_record.proofs.look.look_on.Goals as goal

pub returns : goal.returns
returns c =
    let few = c.requires.count in
    let full : length c.args.kept.now.luns ≡ 4 = search rules in
    let room : c.args.kept.now.count ≤ length c.args.kept.now.luns = omega (arith, few, full) in
    c.look_at.ensures
    ∙ sym (ap (λ (o : Option LunView). look_at_some o) (seen_there lun_of c.args.kept.now.luns c.args.kept.now.count c.args.lun c.from-lun.result _ c.from-lun.ensures c.if-kept-lun.false room))
