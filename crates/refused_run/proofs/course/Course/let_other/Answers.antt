use Rattle.refused_run.proofs.course.Course.let_other.Goals as goal

pub invariant_of-self : goal.invariant_of-self
invariant_of-self g c = (c.other_on.ensures.run c.self.inside.words.items c.self.inside.bounds (record { run = c.self.invariant })).run
