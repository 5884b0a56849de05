use Rattle.std.proofs.Common.{ℕ, ◌/◌, length, reverse, map, sym, ap, subst, ◌∙◌, arith}
use Rattle.nand_geometry.specs.declared.parts.Parts.{Parts}
use Rattle.onfi_cycle.proofs.Following.{refilled}
use Rattle.die_model.specs.Die.{Die}
use Rattle.target_bus.specs.Bus.{are_targets, are_new, WholeDies, forgotten, opened_page}
use Rattle.target_bus.proofs.Opened.{opens, opening_is, most_targets, nothing_due, targets_are, opens_on}
use Rattle.target_bus.proofs.bus.Bus.new.Goals as goal

pub new-requires : goal.new-requires
new-requires g c =
    let whole = ap (are_targets c.args.geometry) (sym (c.len.ensures ∙ c.args.dies.ok.0)) ∙ (sym c.are_targets.ensures ∙ c.if-not-are_targets.false) in
    let luns = c.from.ensures ∙ ap (λ (h : Parts). h.luns) c.parts-luns.ensures.value in
    let is = ap (λ (n : ℕ). n / c.from.result) (c.len-2.ensures ∙ c.args.dies.ok.0) ∙ ap (λ (n : ℕ). length c.args.dies.items / n) luns in
    let most = most_targets c.args.geometry (length c.args.dies.items) c.parts-luns.ensures.limits whole in
    omega (arith, is, most)

pub invariant_of-result : goal.invariant_of-result
invariant_of-result g c =
    let dies = c.args.dies.items in
    let whole = ap (are_targets c.args.geometry) (sym (c.len.ensures ∙ c.args.dies.ok.0)) ∙ (sym c.are_targets.ensures ∙ c.if-not-are_targets.false) in
    let fresh = ap (are_new c.args.geometry) (sym c.as_slice.ensures.value) ∙ (sym c.are_new.ensures ∙ c.if-not-are_new.false) in
    let luns = c.from.ensures ∙ ap (λ (h : Parts). h.luns) c.parts-luns.ensures.value in
    let is = ap (λ (n : ℕ). n / c.from.result) (c.len-2.ensures ∙ c.args.dies.ok.0) ∙ ap (λ (n : ℕ). length dies / n) luns in
    let before = c.as_mut_slice.ensures.value in
    let same = c.forget_array_pages.auto.dies ∙ ap length before in
    let forgets = refilled c.args.dies.len dies c.forget_array_pages.new.dies (same ∙ sym c.args.dies.ok.0) c.args.dies.ok.0 ∙ (c.forget_array_pages.ensures ∙ ap (map forgotten) before) in
    let opened = c.in-Ok.ensures.value ∙ ap (map (λ (d : Die). d.pages)) c.as_slice-2.ensures.value in
    let standing = opens c.args.geometry c.new.result dies _ c.in-Ok.opened.items _ c.parts-luns.ensures.limits whole fresh is c.new.ensures opened (subst WholeDies c.as_slice-2.ensures.value c.in-Ok.ensures.whole) forgets in
    record {
      standing = opens_on (ap reverse c.new-2.ensures.items) standing;
      readies = nothing_due c.args.geometry _ c.new.result c.new.ensures;
      places = omega (arith, c.new-2.ensures.len);
    }

pub returns-clause-value : goal.returns-clause-value
returns-clause-value g c =
    let dies = c.args.dies.items in
    let whole = ap (are_targets c.args.geometry) (sym (c.len.ensures ∙ c.args.dies.ok.0)) ∙ (sym c.are_targets.ensures ∙ c.if-not-are_targets.false) in
    let luns = c.from.ensures ∙ ap (λ (h : Parts). h.luns) c.parts-luns.ensures.value in
    let is = ap (λ (n : ℕ). n / c.from.result) (c.len-2.ensures ∙ c.args.dies.ok.0) ∙ ap (λ (n : ℕ). length dies / n) luns in
    (ap reverse c.new-2.ensures.items, c.new.ensures.geometry, targets_are c.args.geometry (length dies) _ c.new.result c.parts-luns.ensures.limits whole is c.new.ensures)

pub returns-clause-opening : goal.returns-clause-opening
returns-clause-opening g c = λ l p d found.
    let fresh = ap (are_new c.args.geometry) (sym c.as_slice.ensures.value) ∙ (sym c.are_new.ensures ∙ c.if-not-are_new.false) in
    let opened = c.in-Ok.ensures.value ∙ ap (map (λ (d : Die). d.pages)) c.as_slice-2.ensures.value in
    ap (λ (h : Parts). opened_page h c.in-Ok.opened.items l p) c.new.ensures.geometry ∙ opening_is c.args.geometry c.args.dies.items c.in-Ok.opened.items l p d opened fresh found

pub returns-clause-opened : goal.returns-clause-opened
returns-clause-opened g c = c.in-Ok.ensures.value ∙ ap (map (λ (d : Die). d.pages)) c.as_slice-2.ensures.value
