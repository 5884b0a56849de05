use Rattle.std.proofs.Common.{None, refl}
use Rattle.refused_run.specs.Stand.{first_stand}
use Rattle.refused_run.proofs.Courses.{fresh_run}
use Rattle.refused_run.proofs.course.Course.begin.Goals as goal

pub invariant_of-result : goal.invariant_of-result
invariant_of-result g c = (fresh_run c.args.words.items c.args.bounds c.args.bench (record { stand = first_stand; end = None }) c.requires refl).run
