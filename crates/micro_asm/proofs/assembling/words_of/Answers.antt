use Rattle.std.proofs.Common.{◌≡◌, ◌+◌, ◌<◌, [], ◌∷◌, length, length-append, map, drop, get_or, sym, arith}
use Rattle.micro_word.specs.declared.format.Format.TheVariants.{Two}
use Rattle.micro_word.specs.declared.word.Word.TheVariants.{End}
use Rattle.micro_word.specs.Word.{IsInRange}
use Rattle.micro_asm.specs.declared.survey.Pending.{Pending}
use Rattle.micro_asm.specs.declared.statement.Entry.TheVariants.{Plain}
use Rattle.micro_asm.specs.Kept.{pair_of, places}
use Rattle.micro_asm.proofs.Words.{next_pair, pair_fits, fits_push, goes_on, fails}
use Rattle.micro_asm.proofs.assembling.words_of.Goals as goal

abbrev none : Pending
none = record { line = 0; entry = Plain (End 0) }

pub led-requires-clause-entry : goal.led-requires-clause-entry
led-requires-clause-entry g c =
    let items = c.args.survey.now.entries.items in
    let same = c.as_slice-pending-items.ensures.value in
    let low : c.loop-pending.pending-index < length items = rw same at c.loop-pending-test.true in
    rw same (pair_fits items c.loop-pending.pending-index _ low c.requires.entries)

pub returns-in-None-clause-err : goal.returns-in-None-clause-err
returns-in-None-clause-err g c =
    let items = c.args.survey.now.entries.items in
    let at = c.loop-pending.pending-index in
    let slice = c.as_slice-pending-items.result.now in
    let same = c.as_slice-pending-items.ensures.value in
    let low : at < length items = rw same at c.loop-pending-test.true in
    let next : drop at (map pair_of items) ≡ pair_of (get_or slice at none) ∷ drop (at + 1) (map pair_of items) = rw same (next_pair items at none low) in
    rw c.fault.ensures (fails (length (map pair_of items)) (places c.args.survey.now.labels) (drop at (map pair_of items)) (drop (at + 1) (map pair_of items)) (map pair_of items) c.loop-pending.words.items (pair_of (get_or slice at none)) next (sym c.in-None.ensures.value) c.loop-pending.invariant.same)

pub loop-pending-preserved : goal.loop-pending-preserved
loop-pending-preserved g c =
    let items = c.args.survey.now.entries.items in
    let at = c.loop-pending.pending-index in
    let slice = c.as_slice-pending-items.result.now in
    let same = c.as_slice-pending-items.ensures.value in
    let low : at < length items = rw same at c.loop-pending-test.true in
    let next : drop at (map pair_of items) ≡ pair_of (get_or slice at none) ∷ drop (at + 1) (map pair_of items) = rw same (next_pair items at none low) in
    let front = c.loop-pending.words.items in
    let word = c.in-Some.word in
    let n = length (map pair_of items) in
    let pushed = c.in_ok-push-in-Some.ensures.items in
    record {
      count = rw pushed (omega (arith, length-append front (word ∷ []), c.loop-pending.invariant.count));
      fits = rw pushed (fits_push (IsInRange Two n) front word c.loop-pending.invariant.fits c.in-Some.ensures.fits);
      same = rw pushed (goes_on n (places c.args.survey.now.labels) (drop at (map pair_of items)) (drop (at + 1) (map pair_of items)) (map pair_of items) front (pair_of (get_or slice at none)) word next (sym c.in-Some.ensures.value) c.loop-pending.invariant.same);
    }
