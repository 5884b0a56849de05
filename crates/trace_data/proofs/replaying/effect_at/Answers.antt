use Rattle.std.proofs.Common.{◌≡◌, ◌<◌, ◌≤◌, ◌/◌, ◌%◌, ℕ, sym, ap, subst, ◌∙◌}
use Rattle.nand_geometry.specs.declared.parts.Parts.{Parts}
use Rattle.onfi_cycle.specs.declared.lun.Lun.{Lun}
use Rattle.onfi_cycle.specs.Lun.{effect_on}
use Rattle.target_bus.specs.Bus.{numbered}
use Rattle.target_bus.proofs.Numbers.{target_there, lun_there}
use Rattle.trace_data.proofs.replaying.effect_at.Goals as goal

pub returns : goal.returns
returns c = λ g n past f low.
    let luns : c.parts.result.luns ≡ g.luns = ap (λ (g : Parts). g.luns) (c.parts.ensures.value ∙ (c.geometry.ensures ∙ f.geometry)) in
    let is : c.at.result ≡ numbered g c.args.place = c.at.ensures ∙ ap (λ (m : ℕ). record { ce = c.args.place / m; lun = c.args.place % m }) luns in
    let some : 1 ≤ g.luns = subst (λ (h : Parts). 1 ≤ h.luns) (c.geometry.ensures ∙ f.geometry) c.parts.ensures.limits.luns_least in
    c.effect.ensures.past g n past f (subst (λ (l : Lun). l.ce < n) (sym is) (target_there g n c.args.place some low)) (subst (λ (l : Lun). l.lun < g.luns) (sym is) (lun_there g c.args.place some))
    ∙ ap (effect_on g past c.args.item) is
