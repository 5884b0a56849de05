use Rattle.std.proofs.Common.{◌≤◌, arith, sym, subst, refl}
use Rattle.onfi_cycle.specs.State.{Follows, BusView}
use Rattle.target_record.specs.Geometry.{parts_of}
use Rattle.bus_record.specs.Anew.{begun, elsewhere}
use Rattle.bus_record.specs.Bus.{bus_view}
use Rattle.bus_record.specs.Kept.{Kept}
use Rattle.bus_record.proofs.Begun.{begun_follows, stays_beyond, never_beyond, changed_there, keeps_others, sound_anew}
use Rattle.bus_record.proofs.Runs.{no_target}
use Rattle.bus_record.proofs.anew.begin_target.Goals as goal

pub returns-then-bus-place-clause-state : goal.returns-then-bus-place-clause-state
returns-then-bus-place-clause-state c =
    let place = c.from-place.ensures in let beyond = c.if-bus-place.true in
    let low : c.args.bus.now.count ≤ c.args.ce = omega (arith, place, beyond) in
    stays_beyond (begun (parts_of c.args.bus.now.geometry) c.args.ce) c.args.bus.now c.args.ce c.requires low

pub returns-then-bus-place-clause-past : goal.returns-then-bus-place-clause-past
returns-then-bus-place-clause-past c g n past inside follows =
    let place = c.from-place.ensures in let beyond = c.if-bus-place.true in
    let low : c.args.bus.now.count ≤ c.args.ce = omega (arith, place, beyond) in
    absurd (never_beyond g n c.args.ce c.args.bus.now past c.requires low inside follows)

pub returns-clause-sound : goal.returns-clause-sound
returns-clause-sound c =
    let k : Kept = c.args.bus.now in
    sound_anew k c.args.ce c.from-place.result c.fresh_target.result c.requires c.from-place.ensures c.if-bus-place.false c.fresh_target.ensures.numbers
    (λ ce. c.fresh_target.ensures.value (parts_of c.args.bus.now.geometry) ce refl)

pub returns-clause-state : goal.returns-clause-state
returns-clause-state c =
    let k : Kept = c.args.bus.now in
    changed_there (begun (parts_of k.geometry) c.args.ce) k c.args.ce c.from-place.result no_target c.fresh_target.result c.from-place.ensures c.if-bus-place.false
    (c.fresh_target.ensures.value (parts_of c.args.bus.now.geometry) c.args.ce refl)

pub returns-clause-others : goal.returns-clause-others
returns-clause-others c =
    let k : Kept = c.args.bus.now in
    (keeps_others k c.args.ce c.from-place.result c.fresh_target.result c.from-place.ensures)

pub returns-clause-past : goal.returns-clause-past
returns-clause-past c g n past inside follows =
    subst (λ (b : BusView). Follows g n b (elsewhere c.args.ce past)) (sym (returns-clause-state c))
    (begun_follows g n c.args.ce (bus_view c.args.bus.now) past inside follows)
