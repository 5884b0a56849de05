use Rattle.std.proofs.Common.{rules, ◌≡◌, List, ◌++◌, subst, take}
use Rattle.onfi_cycle.specs.declared.item.Item.{Item}
use Rattle.trace_wave.specs.Wave.{item_frames, frames, after, after_all}
use Rattle.trace_wave.proofs.Growing.{grown, one_later}
use Rattle.trace_wave.proofs.dump.Dump.draw_each.Goals as goal

pub items-preserved : goal.items-preserved
items-preserved g c = record {
  inside = search rules;
  grows = grown c.args.out.now.items c.items.out.items c.make_room.new.out.items c.items.invariant.grows c.in_ok-place.ensures.grows;
  so_far = λ p targets d at.
      let (e, (holds, (text, behind))) = c.items.invariant.so_far p targets d at in
      let kept = take c.items.place c.items.room in
      let whole = c.args.out.now.items ++ frames p targets d c.args.items.now in (
        after p targets e c.in-Some.item.now,
        (
          c.write_item-place.ensures.goes_on p targets e holds,
          (
            one_later c.items.out.items c.make_room.new.out.items kept (take c.in_ok-place.place c.items.room) (item_frames p targets e c.in-Some.item.now)
                (frames p targets (after p targets e c.in-Some.item.now) c.in-Some.behind.now) whole (take c.write_item-place.result c.write_item-place.new.room) c.in_ok-place.ensures.kept
                (c.write_item-place.ensures.drawn p targets e holds)
                (subst (λ (r : List Item). c.items.out.items ++ (kept ++ frames p targets e r) ≡ whole) c.in-Some.ensures.cases.0 text),
            subst (λ (r : List Item). after_all p targets e r ≡ after_all p targets d c.args.items.now) c.in-Some.ensures.cases.0 behind,
          ),
        ),
      );
}
