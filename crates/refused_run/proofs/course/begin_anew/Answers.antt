use Rattle.std.proofs.Common.{None, ap, refl}
use Rattle.refused_run.specs.Course.{Scene}
use Rattle.refused_run.specs.Stand.{first_stand}
use Rattle.refused_run.proofs.Courses.{fresh_run}
use Rattle.refused_run.proofs.course.begin_anew.Goals as goal

pub returns-clause-run : goal.returns-clause-run
returns-clause-run g c = λ words bounds. fresh_run words bounds c.restart.new.self (record { stand = first_stand; end = None }) (ap (λ (s : Scene). s.past) c.restart.ensures) refl
