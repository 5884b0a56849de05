use Rattle.std.proofs.Common.{List, ℕ}
use Rattle.std.specs.Io.KnownBytes.{Appends}
use Rattle.run_file.specs.Told.{told}
use Rattle.run_plan.specs.Judged.{PlanIsRefused}
use Rattle.seq_run.proofs.Outcomes.{run_is_done, done_leaves, written_leaves, told_refused, nothing_told}
use Rattle.seq_run.proofs.run_command.run_text.Goals as goal

pub returns-in-Err-clause-refused : goal.returns-in-Err-clause-refused
returns-in-Err-clause-refused g c refusal is =
    let tells = c.fail.ensures.refused refusal is in (
      record {
        text = c.args.text.now;
        is_there = c.requires;
        refused = told_refused (PlanIsRefused (g.F.Files.store c.args.files.now) c.args.request.profile (told c.args.text.now)) refusal c.in-Err.stop c.explain_line-stop.result c.explain_line-stop.ensures tells.0 c.in-Err.ensures.err;
      },
      c.in-Err.ensures.stays,
      tells.1,
    )

pub returns-then-request-clause-done : goal.returns-then-request-clause-done
returns-then-request-clause-done g c is =
    run_is_done c.args.request c.args.text.now c.in-Ok.plan (g.F.Files.store c.args.files.now) (g.F.Files.store c.plan_text.new.files) (g.F.Files.store c.carry_out.new.files)
    (λ (lines : List ℕ). Appends (g.W.Write.contents c.args.console.now.output) (g.W.Write.contents c.carry_out.new.console.output) lines)
    c.in-Ok.ensures.stays c.requires (record { plan_of = record { passes = c.in-Ok.ensures.ok; outputs = c.in-Ok.ensures.jobs; images = c.in-Ok.ensures.images; setup = c.in-Ok.ensures.setup }; few = c.admit_steps.ensures.admitted c.if-not-admit_steps.false }) c.in-Ok-carry_out.ensures.ok

pub returns-then-request-clause-leaves : goal.returns-then-request-clause-leaves
returns-then-request-clause-leaves g c =
    done_leaves c.args.request c.args.text.now c.in-Ok.plan (g.F.Files.store c.args.files.now) (g.F.Files.store c.plan_text.new.files) (g.F.Files.store c.carry_out.new.files)
    (λ (lines : List ℕ). Appends (g.W.Write.contents c.args.console.now.output) (g.W.Write.contents c.carry_out.new.console.output) lines)
    c.in-Ok.ensures.stays c.requires (record { plan_of = record { passes = c.in-Ok.ensures.ok; outputs = c.in-Ok.ensures.jobs; images = c.in-Ok.ensures.images; setup = c.in-Ok.ensures.setup }; few = c.admit_steps.ensures.admitted c.if-not-admit_steps.false }) c.in-Ok-carry_out.ensures.ok

pub returns-else-request-clause-done : goal.returns-else-request-clause-done
returns-else-request-clause-done g c is =
    run_is_done c.args.request c.args.text.now c.in-Ok.plan (g.F.Files.store c.args.files.now) (g.F.Files.store c.plan_text.new.files) (g.F.Files.store c.carry_out.new.files)
    (λ (lines : List ℕ). Appends (g.W.Write.contents c.args.console.now.output) (g.W.Write.contents c.carry_out.new.console.output) lines)
    c.in-Ok.ensures.stays c.requires (record { plan_of = record { passes = c.in-Ok.ensures.ok; outputs = c.in-Ok.ensures.jobs; images = c.in-Ok.ensures.images; setup = c.in-Ok.ensures.setup }; few = c.admit_steps.ensures.admitted c.if-not-admit_steps.false }) c.in-Ok-carry_out.ensures.ok

pub returns-else-request-clause-leaves : goal.returns-else-request-clause-leaves
returns-else-request-clause-leaves g c =
    done_leaves c.args.request c.args.text.now c.in-Ok.plan (g.F.Files.store c.args.files.now) (g.F.Files.store c.plan_text.new.files) (g.F.Files.store c.carry_out.new.files)
    (λ (lines : List ℕ). Appends (g.W.Write.contents c.args.console.now.output) (g.W.Write.contents c.carry_out.new.console.output) lines)
    c.in-Ok.ensures.stays c.requires (record { plan_of = record { passes = c.in-Ok.ensures.ok; outputs = c.in-Ok.ensures.jobs; images = c.in-Ok.ensures.images; setup = c.in-Ok.ensures.setup }; few = c.admit_steps.ensures.admitted c.if-not-admit_steps.false }) c.in-Ok-carry_out.ensures.ok

pub returns-in-Err-carry_out-clause-refused : goal.returns-in-Err-carry_out-clause-refused
returns-in-Err-carry_out-clause-refused g c refusal is =
    absurd (nothing_told refusal c.in-Err-carry_out.stop (c.fail-in-Err-carry_out.ensures.refused refusal is).0 c.in-Err-carry_out.ensures.nothing)

pub returns-in-Err-carry_out-clause-leaves : goal.returns-in-Err-carry_out-clause-leaves
returns-in-Err-carry_out-clause-leaves g c =
    written_leaves c.args.request c.args.text.now c.in-Ok.plan (g.F.Files.store c.args.files.now) (g.F.Files.store c.plan_text.new.files) (g.F.Files.store c.carry_out.new.files)
    c.in-Ok.ensures.stays c.requires (record { plan_of = record { passes = c.in-Ok.ensures.ok; outputs = c.in-Ok.ensures.jobs; images = c.in-Ok.ensures.images; setup = c.in-Ok.ensures.setup }; few = c.admit_steps.ensures.admitted c.if-not-admit_steps.false }) c.in-Err-carry_out.ensures.err
