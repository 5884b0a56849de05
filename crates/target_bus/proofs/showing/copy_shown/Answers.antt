use Rattle.std.proofs.Common.{◌≡◌, ◌<◌, None, Some, IfSome, refl, sym, ap, subst, ◌∙◌, length}
use Rattle.std.specs.Option.{option_copied}
use Rattle.nand_geometry.specs.declared.parts.Parts.{Parts}
use Rattle.die_model.specs.Die.{Die}
use Rattle.target_bus.proofs.Outputs.{run_at, none_at, Reads}
use Rattle.target_bus.proofs.showing.copy_shown.Goals as goal

pub returns-in-None : goal.returns-in-None
returns-in-None g c = λ opened past f h.
    let luns = ap (λ (g : Parts). g.luns) (c.parts-luns.ensures.value ∙ c.geometry.ensures) in
    none_at c.args.state.now opened c.args.dies.now past c.args.ce c.parts-luns.result.luns (length c.args.into.now) c.args.into.now c.first_driver.result f h refl luns c.first_driver.ensures.past c.in-None.is

pub returns-in-None-die_at : goal.returns-in-None-die_at
returns-in-None-die_at g c = λ opened past f h.
    let luns = ap (λ (g : Parts). g.luns) (c.parts-luns.ensures.value ∙ c.geometry.ensures) in
    let low = subst (λ o. IfSome o (λ lun. lun < c.parts-luns.result.luns)) c.in-Some.is c.first_driver.ensures.there in
    run_at c.args.state.now opened c.args.dies.now past c.args.ce c.parts-luns.result.luns c.in-Some.lun _ (length c.args.into.now) c.args.into.now c.first_driver.result None f c.facts_fit.ensures.state h refl luns c.first_driver.ensures.past c.in-Some.is low c.place.ensures
    (sym (ap option_copied c.in-None-die_at.is) ∙ c.die_at.ensures) (λ d e. cc)

pub returns-in-Some-die_at : goal.returns-in-Some-die_at
returns-in-Some-die_at g c = λ opened past f h.
    let state = c.args.state.now in
    let luns = ap (λ (g : Parts). g.luns) (c.parts-luns.ensures.value ∙ c.geometry.ensures) in
    let low = subst (λ o. IfSome o (λ lun. lun < c.parts-luns.result.luns)) c.in-Some.is c.first_driver.ensures.there in
    run_at state opened c.args.dies.now past c.args.ce c.parts-luns.result.luns c.in-Some.lun _ (length c.args.into.now) c.copy_of.new.into c.first_driver.result (Some c.in-Some-die_at.die.now) f c.facts_fit.ensures.state h c.copy_of.auto.into luns c.first_driver.ensures.past c.in-Some.is low c.place.ensures
    (sym (ap option_copied c.in-Some-die_at.is) ∙ c.die_at.ensures)
    (λ d e.
    let same : c.in-Some-die_at.die.now ≡ d = cc in
    subst (λ (x : Die). Reads state c.args.ce c.in-Some.lun (length c.args.into.now) x c.copy_of.new.into) same c.copy_of.ensures)
