use Rattle.std.proofs.Common.{◌≡◌, Bool, true, false, cond, List, [], ap, ◌∙◌, sym, subst}
use Rattle.onfi_cycle.specs.declared.queued.Queued.{Queued}
use Rattle.onfi_cycle.specs.Lun.{is_cache_program}
use Rattle.die_model.specs.Die.{AreKept, are_written, are_programs}
use Rattle.die_model.proofs.Begun.{written_alike, written_programs, or_right_true}
use Rattle.die_model.proofs.Kept.{Entries}
use Rattle.die_model.proofs.effects.end_works.Goals as goal

pub take_unless-requires-clause-alike : goal.take_unless-requires-clause-alike
take_unless-requires-clause-alike g c = written_alike c.as_slice.result.now (ap are_written c.as_slice.ensures.value ∙ c.requires.array.programs)

pub take_unless-requires-2-clause-there : goal.take_unless-requires-2-clause-there
take_unless-requires-2-clause-there g c =
    let kept = c.take_unless.ensures.still (written_programs c.as_slice.result.now (ap are_written c.as_slice.ensures.value ∙ c.requires.array.programs)) in
    subst (AreKept c.take_unless.new.pages) (sym c.ended.ensures) (kept (cond c.args.activity.now.closed c.args.activity.now.queue.items []) (closed c.args.activity.now.closed c.args.activity.now.queue.items c.args.pages.now c.requires.there))
  where
    closed : (b : Bool) (queue : List Queued) (pages : Entries) → AreKept pages queue → AreKept pages (cond b queue [])
    closed true queue pages h = h
    closed false queue pages h = tt

pub returns-clause-waiting : goal.returns-clause-waiting
returns-clause-waiting g c =
    let kept = c.take_unless.ensures.still (written_programs c.as_slice.result.now (ap are_written c.as_slice.ensures.value ∙ c.requires.array.programs)) in
    opened c.args.activity.now.closed c.args.activity.now.queue.items c.ended.result.now c.take_unless.new.pages c.take_unless-2.new.pages c.ended.ensures c.take_unless-2.ensures.still (kept c.args.activity.now.queue.items c.requires.there)
  where
    opened : (b : Bool) (queue ended : List Queued) (old new : Entries) → ended ≡ cond b queue [] → (are_programs ended ≡ true → (rows : List Queued) → AreKept old rows → AreKept new rows) → AreKept old queue → AreKept new (cond b [] queue)
    opened true queue ended old new e still h = tt
    opened false queue ended old new e still h = still (ap are_programs e) queue h

pub returns-clause-cached : goal.returns-clause-cached
returns-clause-cached g c =
    let kept = c.take_unless.ensures.still (written_programs c.as_slice.result.now (ap are_written c.as_slice.ensures.value ∙ c.requires.array.programs)) in
    λ cache.
    let same = c.take_unless-2.ensures.spoilt (c.leaves_queue.ensures ∙ or_right_true c.args.fail.last (is_cache_program c.args.activity.now.closer) cache) in
    subst (λ (pages : Entries). AreKept pages (cond c.args.activity.now.closed c.args.activity.now.queue.items [])) (sym same)
    (kept (cond c.args.activity.now.closed c.args.activity.now.queue.items []) (closed c.args.activity.now.closed c.args.activity.now.queue.items c.args.pages.now c.requires.there))
  where
    closed : (b : Bool) (queue : List Queued) (pages : Entries) → AreKept pages queue → AreKept pages (cond b queue [])
    closed true queue pages h = h
    closed false queue pages h = tt
