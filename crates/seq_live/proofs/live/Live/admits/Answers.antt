use Rattle.std.proofs.Common.{◌∙◌, [], ap}
use Rattle.seq_live.specs.Kept.{LiveView, core_at}
use Rattle.seq_core.proofs.Cores.{fault_is}
use Rattle.seq_live.proofs.live.Live.admits.Goals as goal

pub returns-in-Some-clause-err : goal.returns-in-Some-clause-err
returns-in-Some-clause-err g c =
    fault_is (core_at c.args.self.now []) c.args.lun c.args.job.now c.state_at.result c.place.result c.has_job-has_job.result c.is_some-there.result c.lun.result c.geometry-geometry.result c.geometry.result.now _ c.state_at.ensures.value c.place.ensures.value c.has_job-has_job.ensures c.is_some-there.ensures c.lun.ensures.value (c.geometry-geometry.ensures ∙ ap (λ (v : LiveView). v.state.geometry) c.self.view_is) c.geometry.ensures c.in-Some.ensures

pub returns-in-None-clause-ok : goal.returns-in-None-clause-ok
returns-in-None-clause-ok g c =
    fault_is (core_at c.args.self.now []) c.args.lun c.args.job.now c.state_at.result c.place.result c.has_job-has_job.result c.is_some-there.result c.lun.result c.geometry-geometry.result c.geometry.result.now _ c.state_at.ensures.value c.place.ensures.value c.has_job-has_job.ensures c.is_some-there.ensures c.lun.ensures.value (c.geometry-geometry.ensures ∙ ap (λ (v : LiveView). v.state.geometry) c.self.view_is) c.geometry.ensures c.in-None.ensures
