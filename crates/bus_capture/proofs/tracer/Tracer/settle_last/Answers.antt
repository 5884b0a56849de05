use Rattle.std.proofs.Common.{◌≡◌, ◌≤◌, [], Ok, sym, subst}
use Rattle.bus_capture.specs.declared.sampler.Sampler.{Sampler}
use Rattle.bus_capture.specs.Capturing.{capturing, closed, IsRefusalOf}
use Rattle.bus_capture.specs.Inside.{AreSeenInside}
use Rattle.bus_capture.proofs.Captured.{settled_fine, closed_fine}
use Rattle.bus_capture.proofs.Tracing.{closes, closing_fails, on_ok, if_err}
use Rattle.bus_capture.proofs.tracer.Tracer.settle_last.Goals as goal

pub returns-in-Ok-clause-ok : goal.returns-in-Ok-clause-ok
returns-in-Ok-clause-ok g c =
    let s = c.args.self.now.sampler in
    let os = c.args.self.now.observed.items in
    on_ok c.close.result (closed c.go_on_to.new.self c.settle.new.observed.items ≡ Ok c.close.new.observed.items) (capturing c.args.self.now.sources.items s os [] ≡ Ok c.close.new.observed.items)
    (λ done. closes s c.go_on_to.new.self os c.settle.new.observed.items c.close.new.observed.items c.in-Ok.ensures.ok c.go_on_to.ensures.later done) c.close.ensures.ok

pub returns-in-Ok-clause-inside : goal.returns-in-Ok-clause-inside
returns-in-Ok-clause-inside g c =
    let s = c.args.self.now.sampler in
    let os = c.args.self.now.observed.items in
    let few : c.go_on_to.new.self.targets ≤ 4 = subst (λ (s : Sampler). s.targets ≤ 4) (sym c.go_on_to.ensures.later) c.requires.tracing.few in
    let rest = settled_fine s os c.settle.new.observed.items c.requires.tracing.few c.requires.tracing.inside c.in-Ok.ensures.ok in
    on_ok c.close.result (closed c.go_on_to.new.self c.settle.new.observed.items ≡ Ok c.close.new.observed.items) (AreSeenInside c.close.new.observed.items)
    (λ done. closed_fine c.go_on_to.new.self c.settle.new.observed.items c.close.new.observed.items few rest done) c.close.ensures.ok

pub returns-in-Ok-clause-err : goal.returns-in-Ok-clause-err
returns-in-Ok-clause-err g c =
    let s = c.args.self.now.sampler in
    let os = c.args.self.now.observed.items in
    if_err c.close.result (λ e. IsRefusalOf e (closed c.go_on_to.new.self c.settle.new.observed.items)) (λ e. IsRefusalOf e (capturing c.args.self.now.sources.items s os []))
    (λ e why. closing_fails s c.go_on_to.new.self os c.settle.new.observed.items e c.in-Ok.ensures.ok c.go_on_to.ensures.later why) c.close.ensures.err
