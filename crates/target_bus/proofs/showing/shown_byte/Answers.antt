use Rattle.std.proofs.Common.{◌≡◌, ◌<◌, None, Some, IfSome, sym, ap, subst, ◌∙◌, length}
use Rattle.std.specs.Option.{option_copied}
use Rattle.nand_geometry.specs.declared.parts.Parts.{Parts}
use Rattle.die_model.specs.Die.{Die}
use Rattle.target_bus.specs.Bus.{channel_on}
use Rattle.target_bus.proofs.Shown.{driver_found, shown_at, Gives}
use Rattle.target_bus.proofs.showing.shown_byte.Goals as goal

pub returns-in-None : goal.returns-in-None
returns-in-None g c = λ opened past f h.
    let luns = ap (λ (g : Parts). g.luns) (c.parts-luns.ensures.value ∙ c.geometry.ensures) in
    let one = driver_found c.args.state.now opened c.args.dies.now past c.args.ce c.parts-luns.result.luns c.first_driver.result f h luns c.first_driver.ensures.past in
    let clash : None ≡ Some one.0 = sym c.in-None.is ∙ one.1.0 in
    cc

pub returns-in-None-die_at : goal.returns-in-None-die_at
returns-in-None-die_at g c = λ opened past f h.
    let luns = ap (λ (g : Parts). g.luns) (c.parts-luns.ensures.value ∙ c.geometry.ensures) in
    let low = subst (λ o. IfSome o (λ lun. lun < c.parts-luns.result.luns)) c.in-Some.is c.first_driver.ensures.there in
    shown_at c.args.state.now opened c.args.dies.now past c.args.ce c.parts-luns.result.luns c.in-Some.lun _ 0 c.first_driver.result None f h luns c.first_driver.ensures.past c.in-Some.is low c.place.ensures
    (sym (ap option_copied c.in-None-die_at.is) ∙ c.die_at.ensures) (λ d e. cc)

pub returns-in-Some-die_at : goal.returns-in-Some-die_at
returns-in-Some-die_at g c = λ opened past f h.
    let state = c.args.state.now in
    let luns = ap (λ (g : Parts). g.luns) (c.parts-luns.ensures.value ∙ c.geometry.ensures) in
    let low = subst (λ o. IfSome o (λ lun. lun < c.parts-luns.result.luns)) c.in-Some.is c.first_driver.ensures.there in
    shown_at state opened c.args.dies.now past c.args.ce c.parts-luns.result.luns c.in-Some.lun _ c.byte_of.result c.first_driver.result (Some c.in-Some-die_at.die.now) f h luns c.first_driver.ensures.past c.in-Some.is low c.place.ensures
    (sym (ap option_copied c.in-Some-die_at.is) ∙ c.die_at.ensures)
    (λ d e.
    let same : c.in-Some-die_at.die.now ≡ d = cc in
    subst (λ (x : Die). Gives (channel_on state.geometry (length state.targets) opened) state past (record { ce = c.args.ce; lun = c.in-Some.lun }) x c.byte_of.result) same
    (λ byte. c.byte_of.ensures (channel_on state.geometry (length state.targets) opened) past byte))
