use Rattle.std.proofs.Common.{◌+◌, ◌*◌, ◌∙◌, ℕ, set, refl, ap}
use Rattle.onfi_cycle.specs.declared.lun.Lun.{Lun}
use Rattle.run_plan.specs.declared.plan.RunPlan.{RunPlan}
use Rattle.run_plan.proofs.Settings.{image_set}
use Rattle.run_plan.proofs.plan.RunPlan.add_image.Goals as goal

pub returns-clause-setup : goal.returns-clause-setup
returns-clause-setup g c =
    let old = c.args.self.now in
    let new : RunPlan = record { dies = c.put.new.self; images = c.push.new.self; jobs = old.jobs; polls = old.polls; times = old.times; fails = old.fails } in
    image_set (g.F.Files.store c.args.files.now) old.dies.geometry c.args.target c.args.lun c.args.path.now c.in_ok-die.die old new c.in_ok-die.ensures.image
    (c.put.ensures.put
    ∙ ap (λ (n : ℕ). set old.dies.dies.items n c.in_ok-die.die) (c.number-number.ensures ∙ ap (λ (l : Lun). l.ce * old.dies.geometry.luns + l.lun) c.in_ok-lun.ensures.ok.1))
    refl
