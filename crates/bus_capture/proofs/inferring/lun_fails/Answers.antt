use Rattle.std.proofs.Common.{Bool, List, ◌++◌, ap, sym, ◌∙◌, subst}
use Rattle.nand_geometry.specs.declared.parts.Parts.{Parts}
use Rattle.onfi_cycle.specs.Look.{is_selected_in}
use Rattle.bus_capture.specs.declared.lun_ahead.Asking.{Asking}
use Rattle.bus_capture.specs.declared.sampler.Observed.{Observed}
use Rattle.bus_capture.specs.Asking.{first_asking, lun_fails_within}
use Rattle.bus_capture.specs.Tracing.{MayFollow}
use Rattle.bus_capture.proofs.Asked.{are_none}
use Rattle.bus_capture.proofs.inferring.lun_fails.Goals as goal

pub returns-in-Some-clause-known : goal.returns-in-Some-clause-known
returns-in-Some-clause-known c = λ more follows.
    ap (λ (g : Parts). lun_fails_within g c.args.lun 65536 (first_asking (is_selected_in c.args.state.now.bus c.args.lun)) (c.args.later.now ++ more)) (sym c.geometry.ensures)
    ∙ (ap (λ (a : Asking). lun_fails_within c.geometry.result c.args.lun 65536 a (c.args.later.now ++ more)) (sym (c.first-asking.ensures ∙ ap first_asking c.is_selected.ensures))
    ∙ c.in-Some.ensures.some more)

pub returns-then-is_last-clause-known : goal.returns-then-is_last-clause-known
returns-then-is_last-clause-known c = λ more follows.
    ap (λ (g : Parts). lun_fails_within g c.args.lun 65536 (first_asking (is_selected_in c.args.state.now.bus c.args.lun)) (c.args.later.now ++ more)) (sym c.geometry.ensures)
    ∙ (ap (λ (a : Asking). lun_fails_within c.geometry.result c.args.lun 65536 a (c.args.later.now ++ more)) (sym (c.first-asking.ensures ∙ ap first_asking c.is_selected.ensures))
    ∙ (ap (λ (rest : List Observed). lun_fails_within c.geometry.result c.args.lun 65536 c.first-asking.result (c.args.later.now ++ rest)) (subst (λ (b : Bool). MayFollow b more) c.if-is_last.true follows)
    ∙ (c.in-None.ensures.none ∙ are_none c.default.result c.default.ensures)))
