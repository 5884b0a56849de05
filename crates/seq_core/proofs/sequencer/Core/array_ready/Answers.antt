use Rattle.std.proofs.Common.{subst}
use Rattle.seq_core.specs.Shows.{CoreView}
use Rattle.seq_core.specs.Event.{ArrayReady}
use Rattle.seq_core.specs.Reply.{ToArrayReady}
use Rattle.seq_core.specs.Calls.{IsCore, IsEvent}
use Rattle.seq_core.proofs.Replies.{is_core_after}
use Rattle.seq_core.proofs.Cores.{view_of, array_ready_now, none_came}
use Rattle.seq_core.proofs.sequencer.Core.array_ready.Goals as goal

pub returns-clause-came : goal.returns-clause-came
returns-clause-came g c =
    subst (λ (x : CoreView). IsEvent x (ArrayReady c.args.lun c.args.fail) (ToArrayReady c.array_ready.result) (view_of c.array_ready.new.self c.self.inside.slots.items c.self.inside.holder)) c.self.view_is
    (array_ready_now c.self.inside.bus c.array_ready.new.self c.self.inside.slots.items c.self.inside.holder c.args.lun c.args.fail c.array_ready.result c.self.invariant c.array_ready.ensures.came c.array_ready.ensures.yes c.array_ready.ensures.no)

pub invariant_of-self : goal.invariant_of-self
invariant_of-self g c = is_core_after c.args.self.now _ _ _ (subst IsCore c.self.view_is c.self.invariant) (returns-clause-came g c)

pub returns-clause-no : goal.returns-clause-no
returns-clause-no g c = none_came c.self.inside.bus c.array_ready.new.self c.self.inside.slots.items c.self.inside.holder c.args.self.now c.array_ready.result c.array_ready.ensures.no c.self.view_is
