use Rattle.std.proofs.Common.{sym, ◌∙◌, refl}
use Rattle.target_bus.proofs.Inputs.{some_bytes}
use Rattle.target_bus.proofs.working.work_inputs.Goals as goal

pub work_data-requires-clause-some : goal.work_data-requires-clause-some
work_data-requires-clause-some g c = some_bytes c.args.bytes.now c.is_empty.result c.is_empty.ensures c.if-is_empty.false

pub work_data-requires-clause-in_data : goal.work_data-requires-clause-in_data
work_data-requires-clause-in_data g c = λ h n past f here. sym (c.takes_data.ensures h n past f here) ∙ c.if-takes_data.true

pub work_feature_bytes-requires-clause-some : goal.work_feature_bytes-requires-clause-some
work_feature_bytes-requires-clause-some g c = some_bytes c.args.bytes.now c.is_empty.result c.is_empty.ensures c.if-is_empty.false

pub work_feature_bytes-requires-clause-no_data : goal.work_feature_bytes-requires-clause-no_data
work_feature_bytes-requires-clause-no_data g c = λ h n past f here. sym (c.takes_data.ensures h n past f here) ∙ c.if-takes_data.false

pub returns-else-takes_data : goal.returns-else-takes_data
returns-else-takes_data g c = λ opened past f h. c.work_feature_bytes.ensures c.args.bytes.now refl opened past f h
