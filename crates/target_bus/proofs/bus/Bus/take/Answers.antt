use Rattle.std.proofs.Common.{◌≡◌, ◌∷◌, [], ◌++◌, List, ℕ, ◌≤◌, true, false, None, Some, length, reverse, sym, ap, subst, ◌∙◌, refl, arith}
use Rattle.onfi_cycle.specs.declared.item.Item.{Item}
use Rattle.onfi_cycle.specs.declared.item.Kind.TheVariants.{Dout}
use Rattle.onfi_cycle.specs.declared.item.Item.TheVariants.{Cyc}
use Rattle.onfi_cycle.specs.Channel.{is_cycle, cycle, bus_byte}
use Rattle.onfi_cycle.specs.Permitted.{broken}
use Rattle.onfi_cycle.specs.State.{Follows}
use Rattle.onfi_cycle.specs.Readies.{starts_work}
use Rattle.die_model.specs.Die.{Die}
use Rattle.target_bus.specs.Bus.{Traced, channel_of, IsNext, IsStanding}
use Rattle.target_bus.proofs.Standing.{runs_on, is_next, traced, ok_gives, few_lent, stands_output}
use Rattle.target_bus.proofs.bus.Bus.take.Goals as goal

pub invariant_of-self-2 : goal.invariant_of-self-2
invariant_of-self-2 g c =
    let state = c.self.inside.state in
    let dies = c.self.inside.dies.items in
    let opened = c.self.inside.opened.items in
    let past = reverse c.self.inside.trace.items in
    let item : Item = cycle c.args.ce Dout c.shown_byte-byte.result in
    let standing = c.self.invariant.standing in
    let permitted = sym (c.judge_output.ensures.past state.geometry (length state.targets) past c.shown_byte-byte.result standing.follows) ∙ c.in_default.is in
    let follows = subst (λ (i : Item). Follows state.geometry (length state.targets) c.go_on-self-inside.new.state (i ∷ past)) c.output.ensures (c.go_on-self-inside.ensures.past state.geometry (length state.targets) past standing.follows) in
    let is = c.push_reserved.ensures.items ∙ (ap (λ (xs : List Item). xs ++ (Cyc c.output.result ∷ [])) c.reserve.ensures.items ∙ ap (λ (i : Item). c.self.inside.trace.items ++ (i ∷ [])) c.output.ensures) in
    let room = ok_gives c.reserve.result _ c.reserve.ensures.ok (sym c.is_err.ensures.value ∙ c.if-is_err.false) in
    let due = subst (λ (i : Item). is_cycle i ≡ true → starts_work i ≡ false → c.go_on-self-inside.result ≤ c.self.inside.due) c.output.ensures c.go_on-self-inside.ensures.idle refl refl in
    runs_on state c.go_on-self-inside.new.state opened dies dies c.self.inside.trace.items c.push_reserved.new.self.items item _ _ c.saturating_sub-left.result c.go_on-self-inside.result standing follows refl
    (stands_output state opened dies past c.args.ce c.shown_byte-byte.result standing permitted (c.facts_fit.ensures.past state.geometry (length state.targets) past standing.follows)) is
    c.go_on-self-inside.ensures.due
    (omega (arith, room, due, c.reserve.ensures.len, c.push_reserved.ensures.len, c.push_reserved.ensures.capacity))

pub returns-clause-ok : goal.returns-clause-ok
returns-clause-ok g c =
    let state = c.self.inside.state in
    let opened = c.self.inside.opened.items in
    let past = reverse c.self.inside.trace.items in
    let item : Item = cycle c.args.ce Dout c.shown_byte-byte.result in
    let standing = c.self.invariant.standing in
    let permitted = λ (byte : ℕ). sym (c.judge_output.ensures.past state.geometry (length state.targets) past byte standing.follows) ∙ c.in_default.is in
    let follows = subst (λ (i : Item). Follows state.geometry (length state.targets) c.go_on-self-inside.new.state (i ∷ past)) c.output.ensures (c.go_on-self-inside.ensures.past state.geometry (length state.targets) past standing.follows) in
    let is = c.push_reserved.ensures.items ∙ (ap (λ (xs : List Item). xs ++ (Cyc c.output.result ∷ [])) c.reserve.ensures.items ∙ ap (λ (i : Item). c.self.inside.trace.items ++ (i ∷ [])) c.output.ensures) in
    let shown = c.shown_byte-byte.ensures opened past (subst (λ (ds : List Die). IsStanding state opened ds past) (sym c.as_slice.ensures.value) standing) (permitted 0) in
    subst (λ (b : Traced). (broken b.geometry b.targets b.past item ≡ None) × (bus_byte (channel_of b) b.past c.args.ce ≡ Some c.shown_byte-byte.result) × IsNext b (traced c.go_on-self-inside.new.state opened c.push_reserved.new.self.items c.saturating_sub-left.result) item) c.self.view_is
    (permitted c.shown_byte-byte.result, shown, is_next state c.go_on-self-inside.new.state opened c.self.inside.trace.items c.push_reserved.new.self.items item c.self.inside.room c.saturating_sub-left.result follows is (omega (arith, c.saturating_sub-left.ensures)))

pub shown_byte-byte-requires : goal.shown_byte-byte-requires
shown_byte-byte-requires g c =
    few_lent c.self.inside.state c.self.inside.opened.items c.self.inside.dies.items _ (reverse c.self.inside.trace.items) c.self.invariant.standing c.as_slice.ensures.value

pub push_reserved-requires : goal.push_reserved-requires
push_reserved-requires g c =
    let room = ok_gives c.reserve.result _ c.reserve.ensures.ok (sym c.is_err.ensures.value ∙ c.if-is_err.false) in
    omega (arith, room, c.reserve.ensures.len)
