use Rattle.std.proofs.Common.{◌∙◌, [], length, ap, subst}
use Rattle.nand_geometry.specs.declared.parts.Parts.{Parts}
use Rattle.seq_live.specs.Kept.{LiveView, IsLive, core_at}
use Rattle.seq_core.proofs.Cores.{luns_place, few_places}
use Rattle.seq_live.proofs.Lives.{live_core}
use Rattle.seq_live.proofs.live.Live.place.Goals as goal

pub returns-clause-value : goal.returns-clause-value
returns-clause-value g c =
    luns_place (core_at c.args.self.now []) c.args.lun c.targets.result c.parts.result.luns c.number_of.result (c.targets.ensures.value ∙ ap (λ (v : LiveView). length v.state.targets) c.self.view_is)
    (ap (λ (p : Parts). p.luns) (c.parts.ensures.value ∙ (c.geometry.ensures ∙ ap (λ (v : LiveView). v.state.geometry) c.self.view_is))) c.number_of.ensures

pub returns-clause-inside : goal.returns-clause-inside
returns-clause-inside g c =
    let live : IsLive c.args.self.now = subst IsLive c.self.view_is c.self.invariant in
    few_places (core_at c.args.self.now live.world.past) c.args.lun c.number_of.result (live_core c.args.self.now live) live.most live.is_channel.limits.luns_most (returns-clause-value g c)
