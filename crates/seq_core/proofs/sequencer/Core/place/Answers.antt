use Rattle.std.proofs.Common.{◌∙◌, ◌≤◌, ap, subst}
use Rattle.nand_geometry.specs.declared.parts.Parts.{Parts}
use Rattle.seq_core.specs.Shows.{CoreView}
use Rattle.seq_core.specs.Calls.{IsCore}
use Rattle.seq_core.proofs.Cores.{luns_place, few_places}
use Rattle.seq_core.proofs.sequencer.Core.place.Goals as goal

pub returns-clause-value : goal.returns-clause-value
returns-clause-value g c =
    luns_place c.args.self.now c.args.lun c.targets.result c.parts.result.luns c.number_of.result (c.targets.ensures.value ∙ ap (λ (v : CoreView). v.targets) c.self.view_is)
    (ap (λ (p : Parts). p.luns) (c.parts.ensures.value ∙ (c.geometry.ensures.value ∙ ap (λ (v : CoreView). v.geometry) c.self.view_is))) c.number_of.ensures

pub returns-clause-inside : goal.returns-clause-inside
returns-clause-inside g c =
    let core : IsCore c.args.self.now = subst IsCore c.self.view_is c.self.invariant in
    let targets : c.args.self.now.targets ≤ 4 = subst (λ n. n ≤ 4) (c.targets.ensures.value ∙ ap (λ (v : CoreView). v.targets) c.self.view_is) c.targets.ensures.most in
    few_places c.args.self.now c.args.lun c.number_of.result core targets core.is_channel.limits.luns_most (returns-clause-value g c)
