use Rattle.std.proofs.Common.{◌≡◌, ◌∷◌, [], ◌++◌, List, None, length, reverse, sym, ap, subst, ◌∙◌, refl, arith}
use Rattle.onfi_cycle.specs.declared.item.Item.{Item}
use Rattle.onfi_cycle.specs.declared.item.Item.TheVariants.{Cyc}
use Rattle.onfi_cycle.specs.Permitted.{broken}
use Rattle.onfi_cycle.specs.Readies.{starts_work}
use Rattle.onfi_cycle.proofs.Following.{refilled}
use Rattle.die_model.specs.Die.{Die}
use Rattle.target_bus.specs.Bus.{Traced, channel_on, IsNext, IsStanding, StandFor}
use Rattle.target_bus.proofs.Standing.{runs_on, is_next, traced, err_gives, ok_gives, ok_clash, few_lent, permits_lent, enough_due}
use Rattle.target_bus.proofs.bus.Bus.put.Goals as goal

pub work-requires-clause-few : goal.work-requires-clause-few
work-requires-clause-few g c =
    few_lent c.self.inside.state c.self.inside.opened.items c.self.inside.dies.items _ (reverse c.self.inside.trace.items) c.self.invariant.standing c.as_mut_slice.ensures.value

pub work-requires-clause-permitted : goal.work-requires-clause-permitted
work-requires-clause-permitted g c =
    let state = c.self.inside.state in
    let past = reverse c.self.inside.trace.items in
    permits_lent state c.self.inside.opened.items c.self.inside.dies.items _ past (Cyc c.args.cycle) c.self.invariant.standing c.as_mut_slice.ensures.value
    (sym (c.judge_cycle.ensures.past state.geometry (length state.targets) past c.self.invariant.standing.follows) ∙ c.in_default.is)

pub invariant_of-self-then-is_err-2 : goal.invariant_of-self-then-is_err-2
invariant_of-self-then-is_err-2 g c =
    let state = c.self.inside.state in
    let dies = c.self.inside.dies.items in
    let opened = c.self.inside.opened.items in
    let whole = c.self.inside.dies.ok.0 in
    let before = c.as_mut_slice.ensures.value in
    let still = err_gives c.work.result _ c.work.ensures.err (sym c.is_err-2.ensures.value ∙ c.if-is_err-2.true) ∙ before in
    let after = refilled c.self.inside.dies.len dies c.work.new.dies (ap length still ∙ sym whole) whole ∙ still in
    record {
      standing = subst (λ (ds : List Die). IsStanding state opened ds (reverse c.reserve.new.self.items)) (sym after) (subst (λ (xs : List Item). IsStanding state opened dies (reverse xs)) (sym c.reserve.ensures.items) c.self.invariant.standing);
      readies = c.self.invariant.readies;
      places = omega (arith, c.reserve.ensures.len, c.reserve.ensures.capacity, c.self.invariant.places);
    }

pub returns-then-is_err-2-clause-err : goal.returns-then-is_err-2-clause-err
returns-then-is_err-2-clause-err g c =
    let state = c.self.inside.state in
    let past = reverse c.self.inside.trace.items in
    let permitted = sym (c.judge_cycle.ensures.past state.geometry (length state.targets) past c.self.invariant.standing.follows) ∙ c.in_default.is in
    subst (λ (b : Traced). (broken b.geometry b.targets b.past (Cyc c.args.cycle) ≡ None) × (traced state c.self.inside.opened.items c.reserve.new.self.items c.self.inside.room ≡ b)) c.self.view_is
    (permitted, ap (λ (xs : List Item). traced state c.self.inside.opened.items xs c.self.inside.room) c.reserve.ensures.items)

pub returns-then-is_err-2-clause-memory : goal.returns-then-is_err-2-clause-memory
returns-then-is_err-2-clause-memory g c = λ room idle e. ok_clash c.work.result (c.work.ensures.memory idle) (sym c.is_err-2.ensures.value ∙ c.if-is_err-2.true)

pub push_reserved-requires : goal.push_reserved-requires
push_reserved-requires g c =
    let room = ok_gives c.reserve.result _ c.reserve.ensures.ok (sym c.is_err.ensures.value ∙ c.if-is_err.false) in
    omega (arith, room, c.reserve.ensures.len)

pub invariant_of-self-2 : goal.invariant_of-self-2
invariant_of-self-2 g c =
    let state = c.self.inside.state in
    let dies = c.self.inside.dies.items in
    let opened = c.self.inside.opened.items in
    let past = reverse c.self.inside.trace.items in
    let standing = c.self.invariant.standing in
    let whole = c.self.inside.dies.ok.0 in
    let before = c.as_mut_slice.ensures.value in
    let same = c.work.auto.dies ∙ ap length before in
    let after = refilled c.self.inside.dies.len dies c.work.new.dies (same ∙ sym whole) whole in
    let permitted = sym (c.judge_cycle.ensures.past state.geometry (length state.targets) past standing.follows) ∙ c.in_default.is in
    let follows = c.go_on-self-inside.ensures.past state.geometry (length state.targets) past standing.follows in
    let stand = ok_gives c.work.result _ c.work.ensures.ok (sym c.is_err-2.ensures.value ∙ c.if-is_err-2.false) opened past (subst (λ (ds : List Die). IsStanding state opened ds past) (sym before) standing) permitted in
    let room = ok_gives c.reserve.result _ c.reserve.ensures.ok (sym c.is_err.ensures.value ∙ c.if-is_err.false) in
    let due = enough_due (starts_work (Cyc c.args.cycle)) c.starting-works.result c.self.inside.due c.go_on-self-inside.result c.starting-works.ensures.value c.go_on-self-inside.ensures.most (c.go_on-self-inside.ensures.idle refl) in
    runs_on state c.go_on-self-inside.new.state opened dies _ c.self.inside.trace.items c.push_reserved.new.self.items (Cyc c.args.cycle) _ _ c.saturating_sub-left.result c.go_on-self-inside.result standing follows
    (ap length after ∙ same)
    (subst (StandFor (channel_on state.geometry (length state.targets) opened) (Cyc c.args.cycle ∷ past)) (sym after) stand)
    (c.push_reserved.ensures.items ∙ ap (λ (xs : List Item). xs ++ (Cyc c.args.cycle ∷ [])) c.reserve.ensures.items)
    c.go_on-self-inside.ensures.due
    (omega (arith, room, due, c.reserve.ensures.len, c.push_reserved.ensures.len, c.push_reserved.ensures.capacity))

pub returns-clause-ok : goal.returns-clause-ok
returns-clause-ok g c =
    let state = c.self.inside.state in
    let past = reverse c.self.inside.trace.items in
    let standing = c.self.invariant.standing in
    let permitted = sym (c.judge_cycle.ensures.past state.geometry (length state.targets) past standing.follows) ∙ c.in_default.is in
    let follows = c.go_on-self-inside.ensures.past state.geometry (length state.targets) past standing.follows in
    let is = c.push_reserved.ensures.items ∙ ap (λ (xs : List Item). xs ++ (Cyc c.args.cycle ∷ [])) c.reserve.ensures.items in
    subst (λ (b : Traced). (broken b.geometry b.targets b.past (Cyc c.args.cycle) ≡ None) × IsNext b (traced c.go_on-self-inside.new.state c.self.inside.opened.items c.push_reserved.new.self.items c.saturating_sub-left.result) (Cyc c.args.cycle)) c.self.view_is
    (permitted, is_next state c.go_on-self-inside.new.state c.self.inside.opened.items c.self.inside.trace.items c.push_reserved.new.self.items (Cyc c.args.cycle) c.self.inside.room c.saturating_sub-left.result follows is (omega (arith, c.starting-works.ensures.value, c.starting-works.ensures.most, c.saturating_sub-left.ensures)))
