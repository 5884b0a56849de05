use Rattle.std.proofs.Common.{subst}
use Rattle.seq_core.specs.Shows.{CoreView}
use Rattle.seq_core.specs.Event.{Ready}
use Rattle.seq_core.specs.Reply.{ToReady}
use Rattle.seq_core.specs.Calls.{IsCore, IsEvent}
use Rattle.seq_core.proofs.Replies.{is_core_after}
use Rattle.seq_core.proofs.Cores.{view_of, ready_now, none_came}
use Rattle.seq_core.proofs.sequencer.Core.ready.Goals as goal

pub returns-clause-came : goal.returns-clause-came
returns-clause-came g c =
    subst (λ (x : CoreView). IsEvent x (Ready c.args.lun c.args.fail) (ToReady c.ready.result) (view_of c.ready.new.self c.self.inside.slots.items c.self.inside.holder)) c.self.view_is
    (ready_now c.self.inside.bus c.ready.new.self c.self.inside.slots.items c.self.inside.holder c.args.lun c.args.fail c.ready.result c.self.invariant c.ready.ensures.came c.ready.ensures.yes c.ready.ensures.no)

pub invariant_of-self : goal.invariant_of-self
invariant_of-self g c = is_core_after c.args.self.now _ _ _ (subst IsCore c.self.view_is c.self.invariant) (returns-clause-came g c)

pub returns-clause-no : goal.returns-clause-no
returns-clause-no g c = none_came c.self.inside.bus c.ready.new.self c.self.inside.slots.items c.self.inside.holder c.args.self.now c.ready.result c.ready.ensures.no c.self.view_is
