use Rattle.std.proofs.Common.{ap, subst, sym, ◌∙◌}
use Rattle.die_model.specs.Die.{KeepsDie, are_written}
use Rattle.die_model.specs.declared.activity.Activity.{Activity}
use Rattle.die_model.proofs.Begun.{die_rested, array_rested, shows_fetched, written_alike, written_programs}
use Rattle.die_model.proofs.lun_die.LunDie.finish_array.Goals as goal

pub take_unless-requires-clause-alike : goal.take_unless-requires-clause-alike
take_unless-requires-clause-alike g c = written_alike c.as_slice-2.result.now (ap are_written c.as_slice-2.ensures.value ∙ c.self.invariant.array.programs)

pub invariant_of-self : goal.invariant_of-self
invariant_of-self g c =
    let i = c.self.inside in
    let old = i.activity in
    let rested = c.finish_array.ensures in
    let still = c.take_unless.ensures.still (written_programs c.as_slice-2.result.now (ap are_written c.as_slice-2.ensures.value ∙ c.self.invariant.array.programs)) in
    let new = c.finish_array.new.self in
    subst (λ (a : Activity). KeepsDie i.geometry i.parameters.items c.take_unless.new.pages i.planes.items i.array_planes.items a.queue.items new.in_array.items a.closed a.busy a.closer new.register c.fetch.new.output) (sym rested.rest)
    (record {
      die = die_rested i.geometry c.parts.result i.parameters.items i.pages c.take_unless.new.pages i.planes.items i.array_planes.items c.as_slice.result.now old.queue.items old.closed old.busy
          c.self.invariant.die c.parts.ensures.value c.as_slice.ensures.value c.take_unless.ensures.rows (still old.queue.items c.self.invariant.die.there);
      array = array_rested i.geometry c.parts.result c.take_unless.new.pages i.array_planes.items c.as_slice.result.now new.in_array.items c.parts.ensures.value c.as_slice.ensures.value c.take_unless.ensures.rows rested.in_array;
      closed_by = c.self.invariant.closed_by;
      shows = shows_fetched i.geometry c.take_unless.new.pages i.pages i.output c.fetch.new.output old.register new.register c.self.invariant.shows c.fetch.ensures.width c.fetch.ensures.page;
    })
