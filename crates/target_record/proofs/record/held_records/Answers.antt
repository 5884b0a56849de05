use Rattle.std.proofs.Common.{◌<◌, length, arith, ◌∙◌}
use Rattle.std.proofs.lemmas.List.{length-set}
use Rattle.target_record.specs.Record.{page_of}
use Rattle.target_record.proofs.Stored.{stored_more}
use Rattle.target_record.proofs.record.held_records.Goals as goal

pub loop-place-preserved : goal.loop-place-preserved
loop-place-preserved c =
    let full = c.loop-place.invariant.room in
    let there = c.loop-place-test.true in
    let most = c.requires in
    let room : c.loop-place.place < length c.loop-place.records = omega (arith, full, there, most) in
    record {
      room = length-set _ _ _ ∙ full;
      so_far = stored_more page_of c.loop-place.records c.args.held.now c.loop-place.place c.held_record.result _ room there c.loop-place.invariant.so_far c.held_record.ensures;
    }
