use Rattle.refused_run.proofs.course.Course.restart.Goals as goal

pub invariant_of-self : goal.invariant_of-self
invariant_of-self g c = (c.begin_anew.ensures.run c.self.inside.words.items c.self.inside.bounds).run
