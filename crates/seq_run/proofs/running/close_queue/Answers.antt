use Rattle.std.proofs.Common.{◌∙◌, sym}
use Rattle.std.specs.Cmp.Lexicographic.{same_text}
use Rattle.seq_run.proofs.Hosting.{took_below}
use Rattle.seq_run.proofs.running.close_queue.Goals as goal

pub returns-then-eq : goal.returns-then-eq
returns-then-eq g c =
    took_below c.args.queue g.L.RunName.table g.L.RunName.jobs c.add_passes-2.new.passes.items c.in-Ok.field-0.put.items c.in-Ok.field-0.taken.items c.args.taker.taken
    c.in_ok-add_passes-2.ensures c.in-Ok.ensures.ok.1
    (sym c.as_slice.ensures.value ∙ same_text c.as_slice.result.now c.as_slice-in-Ok.result.now (sym c.if-eq.true ∙ c.eq.ensures) ∙ c.as_slice-in-Ok.ensures.value)
