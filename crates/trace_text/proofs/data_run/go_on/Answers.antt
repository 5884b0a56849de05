use Rattle.std.proofs.Common.{sym, ap, ◌∙◌}
use Rattle.std.proofs.lemmas.Option.{get_or_from_slice_get}
use Rattle.onfi_cycle.specs.Permitted.{broken}
use Rattle.trace_text.proofs.Runs.{no_run, one_item}
use Rattle.trace_text.proofs.data_run.go_on.Goals as goal

pub returns-in-Some-clause-err : goal.returns-in-Some-clause-err
returns-in-Some-clause-err c = λ g n past item f first.
    ap (broken g n past) (sym (get_or_from_slice_get c.args.items.now 0 item _ first)) ∙
    (sym (c.judge.ensures.past g n past (no_run g n c.go_on_by_run-run.new.state past c.args.items.now c.go_on_by_run-run.result c.if-run-gt0.false (c.go_on_by_run-run.ensures.past g n past f))) ∙ c.in-Some.is)

pub returns-in-None-clause-past : goal.returns-in-None-clause-past
returns-in-None-clause-past c = λ g n past f.
    one_item g n c.apply.new.self past c.args.items.now _ c.requires
    (c.apply.ensures.past g n past (no_run g n c.go_on_by_run-run.new.state past c.args.items.now c.go_on_by_run-run.result c.if-run-gt0.false (c.go_on_by_run-run.ensures.past g n past f)))
