use Rattle.std.proofs.Common.{◌≡◌, Some, inl, ap, sym, subst, ◌∙◌}
use Rattle.std.specs.Io.KnownBytes.{Appends}
use Rattle.seq_inputs.specs.declared.refusal.Refusal.{Refusal}
use Rattle.seq_inputs.specs.Refusals.{line_of}
use Rattle.seq_inputs.proofs.Refusing.{told_is, refused_ends}
use Rattle.seq_inputs.proofs.ending.fail_in.Goals as goal

pub returns-in-Ok-clause-refused : goal.returns-in-Ok-clause-refused
returns-in-Ok-clause-refused g c = λ refusal is.
    let same : c.in-Some.refusal ≡ refusal = told_is c.args.stop c.in-Some.refusal refusal (sym c.in-Some.ensures) (sym c.tell-in-Ok.ensures ∙ is) in (
      sym c.in-Some.ensures ∙ ap (λ (r : Refusal). Some r) same,
      subst (λ (r : Refusal). Appends (g.W.Write.contents c.args.console.now.output) (g.W.Write.contents c.refuse.new.output) (line_of r)) same c.in-Ok.ensures,
    )

pub returns-in-Ok-clause-unwritten : goal.returns-in-Ok-clause-unwritten
returns-in-Ok-clause-unwritten g c = λ refusal is. inl (c.tell-in-Ok.ensures ∙ refused_ends c.args.stop refusal is)
