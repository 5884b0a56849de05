use Rattle.std.proofs.Common.{subst, refl, ap, ◌∙◌, sym}
use Rattle.die_model.specs.Die.{Die, is_new, AreKept}
use Rattle.die_model.specs.Loading.{IsLoaded}
use Rattle.die_model.proofs.Images.{fresh, none_waits, none_in_array, shows_none, loaded_is_die, loaded_array}
use Rattle.die_model.proofs.Begun.{die_of}
use Rattle.die_model.proofs.lun_die.LunDie.take_image.Goals as goal

pub invariant_of-self : goal.invariant_of-self
invariant_of-self g c =
    let i = c.self.inside in
    let a = i.activity in
    let has = fresh (die_of i.geometry i.pages i.planes.items i.array_planes.items a) (ap is_new c.self.view_is ∙ c.requires.new) in
    let none = none_waits a.closed a.queue.items has.queued has.pending in
    let none_there = none_in_array i.geometry i.array_planes.items a.in_array.items c.self.invariant.array.programs has.in_array in
    record {
      die = loaded_is_die i.geometry i.parameters.items i.pages c.keep_image.new.pages i.planes.items a.queue.items a.closed a.busy (subst (AreKept c.keep_image.new.pages) (sym none) tt) c.in_ok-keep_image.ensures.inside c.self.invariant.die;
      array = loaded_array i.geometry i.pages c.keep_image.new.pages i.array_planes.items a.in_array.items none_there c.in_ok-keep_image.ensures.inside c.self.invariant.array;
      closed_by = c.self.invariant.closed_by;
      shows = record { page = λ at is. absurd (shows_none a.register has.register at is); width = c.self.invariant.shows.width };
    }

pub returns-clause-ok : goal.returns-clause-ok
returns-clause-ok g c =
    let i = c.self.inside in
    subst (λ (o : Die). IsLoaded c.args.bytes.now o (die_of i.geometry c.keep_image.new.pages i.planes.items i.array_planes.items i.activity)) c.self.view_is
    (record { rest = refl; pages = c.in_ok-keep_image.ensures.told })
