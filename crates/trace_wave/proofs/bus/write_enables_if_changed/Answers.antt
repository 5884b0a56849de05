use Rattle.std.proofs.Common.{ℕ, ◌++◌, take, sym, ap, ◌∙◌, append-nil}
use Rattle.std.specs.Prelude.{Option}
use Rattle.trace_wave.specs.Levels.{enables}
use Rattle.trace_wave.specs.Changes.{changes}
use Rattle.trace_wave.proofs.Lists.{changes_same}
use Rattle.trace_wave.proofs.bus.write_enables_if_changed.Goals as goal

pub returns-then-is_same-clause-value : goal.returns-then-is_same-clause-value
returns-then-is_same-clause-value c =
    let old = take c.args.place c.args.room.now in
    sym (ap (λ (x : Option ℕ). old ++ changes 33 (enables c.args.before c.args.targets 0) (enables x c.args.targets 0)) (sym (c.is_same.ensures c.if-is_same.true))
    ∙ ap (λ xs. old ++ xs) (changes_same 33 (enables c.args.before c.args.targets 0)) ∙ append-nil old)
