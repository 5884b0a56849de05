use Rattle.std.proofs.Common.{◌≤◌, length, arith}
use Rattle.trace_text.proofs.RecordedTexts.{timed_more, fits_more, timed_whole}
use Rattle.trace_text.proofs.recorded_printing.timed_bytes.Goals as goal

pub loop-item-preserved : goal.loop-item-preserved
loop-item-preserved g c = record {
  so_far = timed_more c.loop-item.text.items c.push_timed.new.text.items c.args.items.now c.loop-item.item-index _ (omega arith) c.loop-item.invariant.so_far c.push_timed.ensures.value;
  places = omega (arith, c.push_timed.ensures.len, c.push_timed.ensures.capacity);
  fits = fits_more c.args.items.now c.loop-item.item-index _ (omega arith) c.loop-item.invariant.fits c.push_timed.ensures.fits;
}

pub returns-clause-read_back : goal.returns-clause-read_back
returns-clause-read_back g c p known =
    let past : length c.args.items.now ≤ c.loop-item.item-index = omega arith in
    ((timed_whole c.loop-item.text.items c.args.items.now c.loop-item.item-index past c.requires c.loop-item.invariant.fits c.loop-item.invariant.so_far).0 p known).0

pub returns-clause-told : goal.returns-clause-told
returns-clause-told g c p known =
    let past : length c.args.items.now ≤ c.loop-item.item-index = omega arith in
    ((timed_whole c.loop-item.text.items c.args.items.now c.loop-item.item-index past c.requires c.loop-item.invariant.fits c.loop-item.invariant.so_far).0 p known).1

pub returns-clause-utf8 : goal.returns-clause-utf8
returns-clause-utf8 g c =
    let past : length c.args.items.now ≤ c.loop-item.item-index = omega arith in
    (timed_whole c.loop-item.text.items c.args.items.now c.loop-item.item-index past c.requires c.loop-item.invariant.fits c.loop-item.invariant.so_far).1
