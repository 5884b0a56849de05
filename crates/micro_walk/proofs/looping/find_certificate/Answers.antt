use Rattle.std.proofs.Common.{sym, ◌∙◌}
use Rattle.micro_walk.proofs.Searching.{leaves_certificate}
use Rattle.micro_walk.proofs.looping.find_certificate.Goals as goal
use Rattle.micro_walk.proofs.looping.find_certificate.Goals.{in-Some, in_default-2}

pub returns-clause-found : goal.returns-clause-found
returns-clause-found c found =
    let left = leaves_certificate c.args.geometry.now c.args.bounds c.args.words.now _ _ c.find-walked.result.stopped c.find-walked.new.claims c.most_walked.ensures.enough (sym c.requires.same) c.find-walked.ensures.through found in
    elim c.match-stopped.branch [
      | in-Some w ↦ (let clash = sym left.0 ∙ w.in-Some.is in absurd cc)
      | in_default-2 w ↦ sym w.if-is_certified.false ∙ (w.is_certified.ensures ∙ left.1)
    ]
