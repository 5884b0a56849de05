use Rattle.std.proofs.Common.{ℕ, List, [], cond, sym, ap, subst, ◌∙◌, refl}
use Rattle.nand_geometry.specs.Limits.{page_len}
use Rattle.onfi_cycle.specs.Lun.{is_copyback_read}
use Rattle.onfi_cycle.specs.Content.{queued_work_after, pending_work_after}
use Rattle.die_model.specs.Die.{Die, CanBegin, IsAfter, effect_of, is_reset, page_to_keep, works_of}
use Rattle.die_model.proofs.Begun.{die_of, die_begun, not_closed, queue_begun, queued_begun, pending_begun, array_begun, content_begun, page_kept, fewer, kept_so, waits, ends, taken_is, kept_lengths, array_goes_on, closed_goes_on, shows_fetched, register_begun, held_begun}
use Rattle.die_model.proofs.lun_die.LunDie.begin.Goals as goal

pub begin-requires-clause-room : goal.begin-requires-clause-room
begin-requires-clause-room g c =
    let i = c.self.inside in
    let r : CanBegin c.args.work (die_of i.geometry i.pages i.planes.items i.array_planes.items i.activity) = subst (CanBegin c.args.work) (sym c.self.view_is) c.requires in
    λ plain. fewer i.activity.closed i.activity.queue.items (not_closed _ _ _ c.self.invariant.die.works r.ready plain) r.room

pub begin-requires-clause-next : goal.begin-requires-clause-next
begin-requires-clause-next g c =
    let i = c.self.inside in
    let r : CanBegin c.args.work (die_of i.geometry i.pages i.planes.items i.array_planes.items i.activity) = subst (CanBegin c.args.work) (sym c.self.view_is) c.requires in
    r.next

pub begin-requires-clause-planes : goal.begin-requires-clause-planes
begin-requires-clause-planes g c =
    let i = c.self.inside in
    let r : CanBegin c.args.work (die_of i.geometry i.pages i.planes.items i.array_planes.items i.activity) = subst (CanBegin c.args.work) (sym c.self.view_is) c.requires in
    r.planes

pub fetch-requires : goal.fetch-requires
fetch-requires g c =
    let i = c.self.inside in
    let r : CanBegin c.args.work (die_of i.geometry i.pages i.planes.items i.array_planes.items i.activity) = subst (CanBegin c.args.work) (sym c.self.view_is) c.requires in
    let keeps = kept_so (page_len i.geometry) _ (page_to_keep c.args.work) _ i.pages c.keep_some.new.self c.page_len-len.ensures c.page_to_keep.ensures c.in_ok-keep_some.ensures.kept in
    kept_lengths i.geometry c.args.work i.pages c.keep_some.new.self i.planes.items _ c.self.invariant.die.rows r.row keeps c.self.invariant.shows.width

pub invariant_of-self-2 : goal.invariant_of-self-2
invariant_of-self-2 g c =
    let i = c.self.inside in
    let old = i.activity in
    let new = c.begin.new.self in
    let begun = c.begin.ensures in
    let r : CanBegin c.args.work (die_of i.geometry i.pages i.planes.items i.array_planes.items old) = subst (CanBegin c.args.work) (sym c.self.view_is) c.requires in
    let keeps = kept_so (page_len i.geometry) _ (page_to_keep c.args.work) _ i.pages c.keep_some.new.self c.page_len-len.ensures c.page_to_keep.ensures c.in_ok-keep_some.ensures.kept in
    let plain = not_closed (is_reset c.args.work) old.closed old.busy c.self.invariant.die.works r.ready in
    record {
      die = die_begun i.geometry c.args.work i.parameters.items i.pages c.keep_some.new.self i.planes.items old.queue.items new.queue.items old.closed new.closed old.busy new.busy
          c.self.invariant.die r.row r.together plain keeps begun.queue begun.closed begun.busy;
      array = array_goes_on i.geometry c.args.work i.pages c.keep_some.new.self i.array_planes.items old.in_array.items new.in_array.items c.self.invariant.array r.row keeps begun.in_array;
      closed_by = closed_goes_on i.geometry c.args.work old.closer new.closer old.closed new.closed old.queue.items new.queue.items plain r.together begun.closer begun.queue begun.closed;
      shows = shows_fetched i.geometry c.keep_some.new.self i.pages i.output c.fetch.new.output old.register new.register c.self.invariant.shows c.fetch.ensures.width c.fetch.ensures.page;
    }

pub returns-clause-ok : goal.returns-clause-ok
returns-clause-ok g c =
    let i = c.self.inside in
    let old = i.activity in
    let begun = c.begin.ensures in
    let r : CanBegin c.args.work (die_of i.geometry i.pages i.planes.items i.array_planes.items old) = subst (CanBegin c.args.work) (sym c.self.view_is) c.requires in
    let keeps = kept_so (page_len i.geometry) _ (page_to_keep c.args.work) _ i.pages c.keep_some.new.self c.page_len-len.ensures c.page_to_keep.ensures c.in_ok-keep_some.ensures.kept in
    let plain = not_closed (is_reset c.args.work) old.closed old.busy c.self.invariant.die.works r.ready in
    let taken = taken_is (die_of i.geometry i.pages i.planes.items i.array_planes.items old) c.args.work in
    subst (λ (o : Die). IsAfter (effect_of c.args.work) o (die_of i.geometry c.keep_some.new.self i.planes.items i.array_planes.items c.begin.new.self)) c.self.view_is
    (record {
      geometry = refl;
      planes = refl;
      pages = λ p. page_kept (page_len i.geometry) (page_to_keep c.args.work) i.pages c.keep_some.new.self keeps p ∙ sym (content_begun i.geometry c.args.work _ _ _ p _);
      register = begun.register ∙ register_begun c.args.work old.array_page old.closed old.queue.items old.held.items old.register plain;
      held = begun.held ∙ held_begun c.args.work (is_copyback_read old.closer) old.array_page old.closed old.queue.items old.held.items plain;
      array_page = begun.array_page;
      busy = begun.busy;
      closer = begun.closer;
      array_busy = begun.array_busy;
      queue = waits begun.closed begun.queue ∙ queue_begun c.args.work old.closed old.queue.items plain;
      queued = ap (works_of i.geometry i.planes.items) (waits begun.closed begun.queue) ∙ (queued_begun i.geometry i.planes.items c.args.work old.closed old.queue.items plain
          ∙ ap (λ (b : List ℕ). queued_work_after (effect_of c.args.work) b (works_of i.geometry i.planes.items (cond old.closed [] old.queue.items))) taken);
      pending = ap (works_of i.geometry i.planes.items) (ends begun.closed begun.queue) ∙ (pending_begun i.geometry i.planes.items c.args.work old.closed old.queue.items plain
          ∙ ap (λ (b : List ℕ). pending_work_after (effect_of c.args.work) b (works_of i.geometry i.planes.items (cond old.closed [] old.queue.items)) (works_of i.geometry i.planes.items (cond old.closed old.queue.items []))) taken);
      in_array = ap (works_of i.geometry i.array_planes.items) begun.in_array
          ∙ array_begun i.geometry i.array_planes.items c.args.work old.closer (works_of i.geometry i.planes.items (cond old.closed old.queue.items [])) old.in_array.items;
      failed = begun.failed _;
      failed_before = begun.failed_before _;
    })
