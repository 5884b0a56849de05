use Rattle.std.proofs.Common.{◌≡◌, ◌<◌, ◌≤◌, ◌∷◌, [], ◌++◌, Ok, sym, ap, arith}
use Rattle.std.specs.Prelude.{is_ok}
use Rattle.std.proofs.lemmas.Result.{err_from_is_err_and}
use Rattle.micro_word.specs.Reading.{word_at}
use Rattle.micro_word.proofs.Loop.{goes_on, ends, is_done}
use Rattle.micro_word.proofs.reading.check_words.Goals as goal

pub returns-in_err-read_word-clause-err : goal.returns-in_err-read_word-clause-err
returns-in_err-read_word-clause-err c =
    let before = c.loop-place.invariant in
    let inside : c.loop-place.place < c.args.header.words = omega arith in
    let p = err_from_is_err_and c.from_residual.result c.from_residual.ensures.1 in
    rw (p.1, p.2) (ends c.args.header c.loop-place.place c.loop-place.rest.now c.args.bytes.now before.0 c.in_err-read_word.field-0.0 inside (sym c.in_err-read_word.ensures.value) before.1)

pub loop-place-preserved : goal.loop-place-preserved
loop-place-preserved c =
    let before = c.loop-place.invariant in
    let inside : c.loop-place.place < c.args.header.words = omega arith in
    let word = c.in_ok-read_word.field-0 in
    let read : word_at c.args.header c.loop-place.place c.loop-place.rest.now ≡ Ok word = sym c.in_ok-read_word.ensures.value in
    (before.0 ++ word ∷ [], rw c.split_at.ensures.back (goes_on c.args.header c.loop-place.place c.loop-place.rest.now c.args.bytes.now before.0 word inside read before.1))

pub returns-clause-ok : goal.returns-clause-ok
returns-clause-ok c =
    let before = c.loop-place.invariant in
    let past : c.args.header.words ≤ c.loop-place.place = omega arith in
    ap is_ok (is_done c.args.header c.loop-place.place c.loop-place.rest.now c.args.bytes.now before.0 past before.1)
