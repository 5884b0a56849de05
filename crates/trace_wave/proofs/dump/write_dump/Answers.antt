use Rattle.trace_wave.specs.Header.{header}
use Rattle.trace_wave.specs.Wave.{begun, after_all, frames, last_frame}
use Rattle.trace_wave.proofs.Lists.{whole}
use Rattle.trace_wave.proofs.dump.write_dump.Goals as goal

pub returns : goal.returns
returns g c =
    let p = c.args.geometry.now in let n = c.args.targets in
    let at = c.in_ok-dump.ensures.begun in
    let later = c.in_ok-draw_all.ensures.goes_on p n begun at in
    whole c.new-out.result.items c.begin.new.out.items c.draw_all.new.out.items c.end.new.out.items (header p n) (frames p n begun c.args.items.now) (last_frame p n (after_all p n begun c.args.items.now))
    c.new-out.ensures.items c.in_ok-dump.ensures.header (c.in_ok-draw_all.ensures.drawn p n begun at) (c.in_ok-end.ensures.drawn p n (after_all p n begun c.args.items.now) later)
