use Rattle.std.proofs.Common.{◌≡◌, ◌++◌, List, ℕ, None, refl, length, map, reverse, sym, ap, subst, ◌∙◌, arith}
use Rattle.onfi_cycle.specs.declared.item.Item.{Item}
use Rattle.onfi_cycle.specs.declared.item.Kind.TheVariants.{Din}
use Rattle.onfi_cycle.specs.Channel.{cycle}
use Rattle.onfi_cycle.specs.Inputs.{broken_inputs}
use Rattle.onfi_cycle.proofs.Following.{refilled}
use Rattle.die_model.specs.Die.{Die}
use Rattle.target_bus.specs.Bus.{Traced, ArePut, StandOnByInputs}
use Rattle.target_bus.proofs.Standing.{ok_gives, few_lent, traced}
use Rattle.target_bus.proofs.Inputs.{inputs_go_on, are_put}
use Rattle.target_bus.proofs.bus.Bus.put_all.Goals as goal

pub work_inputs-requires-clause-few : goal.work_inputs-requires-clause-few
work_inputs-requires-clause-few g c =
    few_lent c.self.inside.state c.self.inside.opened.items c.self.inside.dies.items _ (reverse c.self.inside.trace.items) c.self.invariant.standing c.as_mut_slice.ensures.value

pub push_run-requires : goal.push_run-requires
push_run-requires g c =
    let room = ok_gives c.reserve.result _ c.reserve.ensures.ok (sym c.is_err.ensures.value ∙ c.if-is_err.false) in
    record { places = omega (arith, room, c.in-Some-checked_add.ensures.1) }

pub invariant_of-self-2 : goal.invariant_of-self-2
invariant_of-self-2 g c =
    let state = c.self.inside.state in
    let dies = c.self.inside.dies.items in
    let opened = c.self.inside.opened.items in
    let bytes = c.args.bytes.now in
    let room = ok_gives c.reserve.result _ c.reserve.ensures.ok (sym c.is_err.ensures.value ∙ c.if-is_err.false) in
    let none = sym c.judge_inputs.ensures.state ∙ c.in_default.is in
    let whole = c.self.inside.dies.ok.0 in
    let before = c.as_mut_slice.ensures.value in
    let after = refilled c.self.inside.dies.len dies c.work_inputs.new.dies (c.work_inputs.auto.dies ∙ (ap length before ∙ sym whole)) whole in
    let stand = subst (λ (ds : List Die). StandOnByInputs state dies ds c.args.ce bytes) (sym after) (subst (λ (ds : List Die). StandOnByInputs state ds c.work_inputs.new.dies c.args.ce bytes) before c.work_inputs.ensures) in
    let pushes = c.push_run.ensures.items ∙ ap (λ (xs : List Item). xs ++ map (λ (byte : ℕ). cycle c.args.ce Din byte) bytes) c.reserve.ensures.items in
    inputs_go_on state c.go_on_by_inputs.new.state opened dies _ c.self.inside.trace.items c.push_run.new.trace.items c.args.ce _ _ c.saturating_sub-left.result c.self.inside.due bytes c.self.invariant.standing none stand c.go_on_by_inputs.ensures.state pushes
    (omega (arith, c.go_on_by_inputs.ensures.due, c.self.invariant.readies))
    (omega (arith, room, c.in-Some-checked_add.ensures.1, c.push_run.ensures.len, c.push_run.ensures.capacity))

pub returns-clause-ok : goal.returns-clause-ok
returns-clause-ok g c =
    let state = c.self.inside.state in
    let opened = c.self.inside.opened.items in
    let past = reverse c.self.inside.trace.items in
    let standing = c.self.invariant.standing in
    let bytes = c.args.bytes.now in
    let permitted = sym (c.judge_inputs.ensures.past state.geometry (length state.targets) past bytes standing.follows refl) ∙ c.in_default.is in
    let pushes = c.push_run.ensures.items ∙ ap (λ (xs : List Item). xs ++ map (λ (byte : ℕ). cycle c.args.ce Din byte) bytes) c.reserve.ensures.items in
    let follows = c.go_on_by_inputs.ensures.past state.geometry (length state.targets) past bytes standing.follows refl in
    subst (λ (b : Traced). (broken_inputs b.geometry b.targets c.args.ce bytes b.past ≡ None) × ArePut b (traced c.go_on_by_inputs.new.state opened c.push_run.new.trace.items c.saturating_sub-left.result) c.args.ce bytes) c.self.view_is
    (permitted, are_put state c.go_on_by_inputs.new.state opened c.self.inside.trace.items c.push_run.new.trace.items c.args.ce c.self.inside.room c.saturating_sub-left.result bytes follows pushes (omega (arith, c.saturating_sub-left.ensures)))
