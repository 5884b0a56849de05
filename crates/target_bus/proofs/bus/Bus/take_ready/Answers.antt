use Rattle.std.proofs.Common.{◌∷◌, List, length, reverse, sym, ap, subst, ◌∙◌, arith}
use Rattle.onfi_cycle.proofs.Following.{refilled}
use Rattle.die_model.specs.Die.{Die}
use Rattle.target_bus.specs.Bus.{Traced, channel_on, IsNext, IsStanding, StandFor}
use Rattle.target_bus.proofs.Standing.{runs_on, is_next, traced, not_some, few_lent, permits_lent}
use Rattle.target_bus.proofs.bus.Bus.take_ready.Goals as goal

pub end_work-requires-clause-few : goal.end_work-requires-clause-few
end_work-requires-clause-few g c =
    few_lent c.self.inside.state c.self.inside.opened.items c.self.inside.dies.items _ (reverse c.self.inside.trace.items) c.self.invariant.standing c.as_mut_slice.ensures.value

pub end_work-requires-clause-permitted : goal.end_work-requires-clause-permitted
end_work-requires-clause-permitted g c =
    let state = c.self.inside.state in
    let past = reverse c.self.inside.trace.items in
    permits_lent state c.self.inside.opened.items c.self.inside.dies.items _ past c.args.ready c.self.invariant.standing c.as_mut_slice.ensures.value
    (sym (c.judge.ensures.past state.geometry (length state.targets) past c.self.invariant.standing.follows) ∙ not_some c.judge.result (sym c.is_some.ensures ∙ c.if-is_some.false))

pub push_reserved-requires : goal.push_reserved-requires
push_reserved-requires g c =
    let less = c.go_on-self-inside.ensures.ready c.requires in
    omega (arith, less, c.self.invariant.places)

pub invariant_of-self : goal.invariant_of-self
invariant_of-self g c =
    let state = c.self.inside.state in
    let dies = c.self.inside.dies.items in
    let opened = c.self.inside.opened.items in
    let past = reverse c.self.inside.trace.items in
    let standing = c.self.invariant.standing in
    let whole = c.self.inside.dies.ok.0 in
    let before = c.as_mut_slice.ensures.value in
    let same = c.end_work.auto.dies ∙ ap length before in
    let after = refilled c.self.inside.dies.len dies c.end_work.new.dies (same ∙ sym whole) whole in
    let permitted = sym (c.judge.ensures.past state.geometry (length state.targets) past standing.follows) ∙ not_some c.judge.result (sym c.is_some.ensures ∙ c.if-is_some.false) in
    let follows = c.go_on-self-inside.ensures.past state.geometry (length state.targets) past standing.follows in
    let stand = c.end_work.ensures opened past (subst (λ (ds : List Die). IsStanding state opened ds past) (sym before) standing) permitted in
    let less = c.go_on-self-inside.ensures.ready c.requires in
    runs_on state c.go_on-self-inside.new.state opened dies _ c.self.inside.trace.items c.push_reserved.new.self.items c.args.ready _ _ c.self.inside.room c.go_on-self-inside.result standing follows
    (ap length after ∙ same)
    (subst (StandFor (channel_on state.geometry (length state.targets) opened) (c.args.ready ∷ past)) (sym after) stand)
    c.push_reserved.ensures.items
    c.go_on-self-inside.ensures.due
    (omega (arith, less, c.push_reserved.ensures.len, c.push_reserved.ensures.capacity, c.self.invariant.places))

pub returns-clause-yes : goal.returns-clause-yes
returns-clause-yes g c = λ came.
    let state = c.self.inside.state in
    let follows = c.go_on-self-inside.ensures.past state.geometry (length state.targets) (reverse c.self.inside.trace.items) c.self.invariant.standing.follows in
    subst (λ (b : Traced). IsNext b (traced c.go_on-self-inside.new.state c.self.inside.opened.items c.push_reserved.new.self.items c.self.inside.room) c.args.ready) c.self.view_is
    (is_next state c.go_on-self-inside.new.state c.self.inside.opened.items c.self.inside.trace.items c.push_reserved.new.self.items c.args.ready c.self.inside.room c.self.inside.room follows c.push_reserved.ensures.items (omega arith))
