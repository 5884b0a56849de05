use Rattle.std.proofs.Common.{◌≡◌, ◌++◌, drop}
use Rattle.run_file.specs.Shown.{shown_all}
use Rattle.run_plan.specs.Planned.{outputs_of, images_in, failing_of, planned_outputs, planned_images}
use Rattle.run_plan.proofs.Resting.{LeadsTo}
use Rattle.run_plan.proofs.Settings.{PlansSoFar}
use Rattle.run_plan.proofs.plan.RunPlan.add_all.Given as goal

abbrev pub invariant-loop-numbered : goal.invariant-loop-numbered
invariant-loop-numbered g l =
    (g.F.Files.store l.files ≡ g.F.Files.store l.initial.files)
    × (l.self.dies.geometry ≡ l.initial.self.dies.geometry)
    × (l.self.dies.targets ≡ l.initial.self.dies.targets)
    × LeadsTo (g.F.Files.store l.initial.files) l.initial.self.dies.geometry l.initial.self.dies.targets l.last (shown_all (drop l.numbered-index l.rest)) (shown_all l.rest)
    × (planned_outputs l.self.jobs.all.items ++ outputs_of (shown_all (drop l.numbered-index l.rest)) ≡ planned_outputs l.initial.self.jobs.all.items ++ outputs_of (shown_all l.rest))
    × (planned_images l.self.images.items ++ images_in l.initial.self.dies.geometry (shown_all (drop l.numbered-index l.rest)) ≡ planned_images l.initial.self.images.items ++ images_in l.initial.self.dies.geometry (shown_all l.rest))
    × PlansSoFar (g.F.Files.store l.initial.files) l.initial.self.dies.geometry l.initial.self l.self (shown_all (drop l.numbered-index l.rest)) (shown_all l.rest)
    × (l.self.fails.items ++ failing_of (shown_all (drop l.numbered-index l.rest)) ≡ l.initial.self.fails.items ++ failing_of (shown_all l.rest))
