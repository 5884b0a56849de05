use Rattle.std.proofs.Common.{◌+◌, sym, ap, ◌∙◌, arith, get_or}
use Rattle.std.specs.List.{slice_get}
use Rattle.micro_word.specs.declared.word.Word.TheVariants.{End}
use Rattle.micro_program.specs.Nested.{loops_at}
use Rattle.micro_program.proofs.Scan.{scan_begins, scan_finds, scan_next, scan_loop, scan_word, scan_ends, loops_stay}
use Rattle.micro_walk.proofs.shape.closer.Goals as goal
use Rattle.micro_walk.proofs.shape.closer.Goals.{in-Next+else-depth-eq0, in-Loop, in_default}

pub loop-place-init : goal.loop-place-init
loop-place-init c = record { scanned = scan_begins c.args.words.now c.args.at; few = omega arith }

pub returns-then-depth-eq0-clause-value : goal.returns-then-depth-eq0-clause-value
returns-then-depth-eq0-clause-value c =
    sym (c.loop-place.invariant.scanned ∙ (ap (slice_get (loops_at c.args.words.now c.loop-place.place)) c.if-depth-eq0.true ∙ scan_finds c.args.words.now c.loop-place.place (End 0) c.loop-place-test.true c.in-Next.is))

pub loop-place-preserved : goal.loop-place-preserved
loop-place-preserved c =
    elim c.match-words-place.branch [
      | in-Next+else-depth-eq0 w ↦ (
          let some = w.if-depth-eq0.false in
          let is = w.depth-is in
          let few = c.loop-place.invariant.few in
          record {
            scanned = c.loop-place.invariant.scanned ∙ scan_next c.args.words.now c.loop-place.place c.loop-place.depth c.match-words-place.depth (End 0) c.loop-place-test.true w.in-Next.is (omega (arith, is, some));
            few = omega (arith, is, few);
          })
      | in-Loop w ↦ (
          let is = w.depth-is in
          let few = c.loop-place.invariant.few in
          record {
            scanned = c.loop-place.invariant.scanned ∙ (scan_loop c.args.words.now c.loop-place.place c.loop-place.depth w.in-Loop.turns (End 0) c.loop-place-test.true w.in-Loop.is ∙ ap (slice_get (loops_at c.args.words.now (c.loop-place.place + 1))) (sym is));
            few = omega (arith, is, few);
          })
      | in_default w ↦ (
          let is = w.depth-is in
          let few = c.loop-place.invariant.few in
          record {
            scanned = c.loop-place.invariant.scanned ∙ (scan_word c.args.words.now c.loop-place.place c.loop-place.depth (End 0) c.loop-place-test.true (loops_stay c.loop-place.place (loops_at c.args.words.now (c.loop-place.place + 1)) (get_or c.args.words.now c.loop-place.place (End 0)) w.in_default.not-Next w.in_default.not-Loop) ∙ ap (slice_get (loops_at c.args.words.now (c.loop-place.place + 1))) (sym is));
            few = omega (arith, is, few);
          })
    ]

pub returns-clause-value : goal.returns-clause-value
returns-clause-value c = sym (c.loop-place.invariant.scanned ∙ scan_ends c.args.words.now c.loop-place.place c.loop-place.depth c.loop-place-test.false)
