use Rattle.std.proofs.Common.{◌++◌, List, ℕ, length, map, reverse, sym, ap, subst, ◌∙◌, arith}
use Rattle.onfi_cycle.specs.declared.item.Item.{Item}
use Rattle.onfi_cycle.specs.declared.item.Kind.TheVariants.{Dout}
use Rattle.onfi_cycle.specs.Channel.{cycle}
use Rattle.die_model.specs.Die.{Die}
use Rattle.target_bus.specs.Bus.{Traced, AreTaken, IsStanding}
use Rattle.target_bus.proofs.Standing.{ok_gives, few_lent, traced}
use Rattle.target_bus.proofs.Outputs.{run_goes_on, are_taken}
use Rattle.target_bus.proofs.bus.Bus.take_all.Goals as goal

pub copy_shown-requires : goal.copy_shown-requires
copy_shown-requires g c =
    record { few = few_lent c.self.inside.state c.self.inside.opened.items c.self.inside.dies.items _ (reverse c.self.inside.trace.items) c.self.invariant.standing c.as_slice.ensures.value }

pub push_run-requires : goal.push_run-requires
push_run-requires g c =
    let room = ok_gives c.reserve.result _ c.reserve.ensures.ok (sym c.is_err.ensures.value ∙ c.if-is_err.false) in
    record { places = omega (arith, room, c.in-Some-checked_add.ensures.1, c.copy_shown.auto.into) }

pub invariant_of-self-2 : goal.invariant_of-self-2
invariant_of-self-2 g c =
    let room = ok_gives c.reserve.result _ c.reserve.ensures.ok (sym c.is_err.ensures.value ∙ c.if-is_err.false) in
    let none = sym c.judge_outputs.ensures.state ∙ c.in_default.is in
    let pushes = c.push_run.ensures.items ∙ ap (λ (xs : List Item). xs ++ map (λ (byte : ℕ). cycle c.args.ce Dout byte) c.copy_shown.new.into) c.reserve.ensures.items in
    run_goes_on c.self.inside.state c.go_on_by_outputs.new.state c.self.inside.opened.items c.self.inside.dies.items c.self.inside.trace.items c.push_run.new.trace.items c.args.ce (length c.args.into.now) _ _ c.saturating_sub-left.result c.self.inside.due c.copy_shown.new.into c.self.invariant.standing c.facts_fit.ensures.state none c.copy_shown.auto.into c.go_on_by_outputs.ensures.state pushes
    (omega (arith, c.go_on_by_outputs.ensures.due, c.self.invariant.readies))
    (omega (arith, room, c.in-Some-checked_add.ensures.1, c.copy_shown.auto.into, c.push_run.ensures.len, c.push_run.ensures.capacity))

pub returns-clause-ok : goal.returns-clause-ok
returns-clause-ok g c =
    let state = c.self.inside.state in
    let opened = c.self.inside.opened.items in
    let past = reverse c.self.inside.trace.items in
    let standing = c.self.invariant.standing in
    let none = sym c.judge_outputs.ensures.state ∙ c.in_default.is in
    let pushes = c.push_run.ensures.items ∙ ap (λ (xs : List Item). xs ++ map (λ (byte : ℕ). cycle c.args.ce Dout byte) c.copy_shown.new.into) c.reserve.ensures.items in
    let follows = c.go_on_by_outputs.ensures.past state.geometry (length state.targets) past c.copy_shown.new.into standing.follows c.copy_shown.auto.into in
    let shown = c.copy_shown.ensures opened past (subst (λ (ds : List Die). IsStanding state opened ds past) (sym c.as_slice.ensures.value) standing) none in
    subst (λ (b : Traced). AreTaken b (traced c.go_on_by_outputs.new.state opened c.push_run.new.trace.items c.saturating_sub-left.result) c.args.ce c.copy_shown.new.into) c.self.view_is
    (are_taken state c.go_on_by_outputs.new.state opened c.self.inside.trace.items c.push_run.new.trace.items c.args.ce c.self.inside.room c.saturating_sub-left.result c.copy_shown.new.into follows shown pushes (omega (arith, c.saturating_sub-left.ensures, c.copy_shown.auto.into)))
