use Rattle.std.proofs.Common.{◌≡◌, ◌<◌, sym, ◌∙◌, arith}
use Rattle.onfi_cycle.specs.declared.item.Kind.TheVariants.{Cmd}
use Rattle.onfi_cycle.specs.Channel.{cycle}
use Rattle.target_record.specs.Geometry.{parts_of}
use Rattle.bus_record.specs.Kept.{Kept}
use Rattle.bus_record.proofs.Asked.{poll_asks}
use Rattle.bus_record.proofs.Pushed.{places_of, fits_there, limits_there, judged_there}
use Rattle.bus_record.proofs.trial.ask_poll.Goals as goal

pub judge_read_status-requires-clause-limits : goal.judge_read_status-requires-clause-limits
judge_read_status-requires-clause-limits c =
    let k : Kept = c.args.bus.now in
    let same = c.from.ensures in
    let inside = c.requires.there in
    limits_there k c.requires.sound c.from.result (omega (arith, same, inside))

pub judge_read_status-requires-clause-fits : goal.judge_read_status-requires-clause-fits
judge_read_status-requires-clause-fits c =
    let k : Kept = c.args.bus.now in
    let same = c.from.ensures in
    let inside = c.requires.there in
    fits_there k c.requires.sound c.from.result (omega (arith, same, inside)) _

pub returns : goal.returns
returns c =
    let k : Kept = c.args.bus.now in
    let same = c.from.ensures in
    let inside = c.requires.there in
    let low : c.from.result < k.count = omega (arith, same, inside) in
    let at : c.args.ce < k.count = c.requires.there in
    let one : (parts_of k.geometry).luns ≡ 1 = c.requires.one in
    poll_asks k c.requires.sound c.args.ce at one c.judge_read_status.result (c.judge_read_status.ensures ∙ sym (judged_there k (places_of k c.requires.sound) (cycle c.args.ce Cmd 0x70) c.from.result c.from.ensures low _))
