use Rattle.std.proofs.Common.{sym, ◌∙◌, arith, refl}
use Rattle.run_file.proofs.Steps.{no_jobs, told_end, told_whole}
use Rattle.run_file.proofs.parsing.read_lines.Goals as goal

pub lines-init : goal.lines-init
lines-init g c = record {
  room = rw c.as_bytes-rest.ensures.value (omega arith);
  fewer = omega arith;
  jobs = rw c.new.ensures.items (sym no_jobs);
  same = rw (c.new.ensures.items, c.as_bytes-rest.ensures.value) refl;
}

pub returns : goal.returns
returns g c =
    c.ended.ensures ∙ sym (told_end c.lines.survey.line _ c.lines.rest.now c.in_default.ensures.none)
    ∙ c.lines.invariant.same ∙ told_whole c.args.text.now
