use Rattle.std.proofs.Common.{arith, ◌∙◌, refl, sym, subst}
use Rattle.run_file.specs.Shown.{shown_all}
use Rattle.seq_inputs.specs.Stops.{SaysAt}
use Rattle.run_plan.specs.Judged.{Numbered, RestIsRefused}
use Rattle.run_plan.specs.Planned.{output_in, failing_in}
use Rattle.run_plan.proofs.Resting.{passes_on, stops_here, all_pass, text_stops, planned_more, images_more}
use Rattle.run_plan.proofs.Settings.{planned_next, planned_all}
use Rattle.run_plan.proofs.plan.RunPlan.add_all.Goals as goal

pub returns-in-Err-clause-err : goal.returns-in-Err-clause-err
returns-in-Err-clause-err g c =
    let i = c.loop-numbered.invariant in
    stops_here (g.F.Files.store c.args.files.now) (g.F.Files.store c.loop-numbered.files) c.args.self.now.dies.geometry c.loop-numbered.self.dies.geometry
    c.args.self.now.dies.targets c.loop-numbered.self.dies.targets c.args.last c.args.rest.now c.loop-numbered.numbered-index _ c.in-Err.stop
    c.loop-numbered-test.true i.0 i.1 i.2 c.in-Err.ensures.err i.3

pub loop-numbered-preserved : goal.loop-numbered-preserved
loop-numbered-preserved g c =
    let i = c.loop-numbered.invariant in
    let k = c.loop-numbered.numbered-index in (
      c.in_default.ensures.stays ∙ i.0,
      c.in_default.ensures.channel.0 ∙ i.1,
      c.in_default.ensures.channel.1 ∙ i.2,
      passes_on (g.F.Files.store c.args.files.now) (g.F.Files.store c.loop-numbered.files) c.args.self.now.dies.geometry c.loop-numbered.self.dies.geometry
          c.args.self.now.dies.targets c.loop-numbered.self.dies.targets c.args.last c.args.rest.now k _
          c.loop-numbered-test.true i.0 i.1 i.2 c.in_default.ensures.ok i.3,
      planned_more (λ (s : Numbered). output_in s.1) c.args.rest.now k _ _ _ _ c.loop-numbered-test.true c.in_default.ensures.jobs i.4,
      images_more c.args.self.now.dies.geometry c.loop-numbered.self.dies.geometry c.args.rest.now k _ _ _ _ c.loop-numbered-test.true i.1 c.in_default.ensures.images i.5,
      planned_next (g.F.Files.store c.args.files.now) (g.F.Files.store c.loop-numbered.files) c.args.self.now.dies.geometry c.loop-numbered.self.dies.geometry
          c.args.self.now c.loop-numbered.self c.add_numbered.new.self c.args.rest.now k _ c.loop-numbered-test.true i.0 i.1 c.in_default.ensures.setup i.6,
      planned_more (λ (s : Numbered). failing_in s.1) c.args.rest.now k _ _ _ _ c.loop-numbered-test.true c.in_default.ensures.fails i.7,
    )

pub returns-in-Some-clause-err : goal.returns-in-Some-clause-err
returns-in-Some-clause-err g c =
    subst (λ r. SaysAt (RestIsRefused (g.F.Files.store c.args.files.now) c.args.self.now.dies.geometry c.args.self.now.dies.targets (shown_all c.args.rest.now) c.args.last) r)
    (sym c.refuse_line.ensures) (
      c.in-Some.field-0.line,
      text_stops (g.F.Files.store c.args.files.now) c.args.self.now.dies.geometry c.args.self.now.dies.targets c.args.last c.in-Some.field-0 c.args.rest.now
          c.loop-numbered.numbered-index (omega (arith, c.loop-numbered-test.false)) c.in-Some.is c.loop-numbered.invariant.3,
      refl,
    )

pub returns-in-None-clause-ok : goal.returns-in-None-clause-ok
returns-in-None-clause-ok g c =
    all_pass (g.F.Files.store c.args.files.now) c.args.self.now.dies.geometry c.args.self.now.dies.targets c.args.last c.args.rest.now
    c.loop-numbered.numbered-index (omega (arith, c.loop-numbered-test.false)) c.in-None.is c.loop-numbered.invariant.3

pub returns-in-None-clause-setup : goal.returns-in-None-clause-setup
returns-in-None-clause-setup g c =
    planned_all (g.F.Files.store c.args.files.now) c.args.self.now.dies.geometry c.args.self.now c.loop-numbered.self c.args.rest.now
    c.loop-numbered.numbered-index (omega (arith, c.loop-numbered-test.false)) c.loop-numbered.invariant.6
