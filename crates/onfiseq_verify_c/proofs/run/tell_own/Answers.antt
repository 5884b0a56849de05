use Rattle.std.proofs.Common.{ap, sym, ◌∙◌}
use Rattle.onfiseq_verify_c.specs.Run.{run_at}
use Rattle.onfiseq_verify_c.proofs.Found.{own_told, shown_same}
use Rattle.onfiseq_verify_c.proofs.run.tell_own.Goals as goal

pub returns-in-Some : goal.returns-in-Some
returns-in-Some c = λ run shown.
    let there = shown_same c.args.run c.in-Some.run' run c.in-Some.is shown in
    record {
      told_of = c.own_run.ensures ∙ (ap (run_at c.args.found) (c.place_run-count.ensures.count run there) ∙ sym (own_told c.args.found c.args.run c.in-Some.run' run c.in-Some.is shown));
      written = c.place_run-count.ensures.items run there;
    }
