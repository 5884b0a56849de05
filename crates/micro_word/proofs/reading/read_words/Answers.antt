use Rattle.std.proofs.Common.{◌≡◌, Ok, sym, ◌∙◌, arith}
use Rattle.micro_word.specs.Reading.{word_at}
use Rattle.micro_word.proofs.Loop.{goes_on, is_done, next_is_ok}
use Rattle.micro_word.proofs.reading.read_words.Goals as goal

pub unwrap-word-requires : goal.unwrap-word-requires
unwrap-word-requires g c =
    rw c.read_word.ensures.value (next_is_ok c.args.header c.loop-place.place c.loop-place.rest.now c.args.bytes.now c.loop-place.words.items (omega arith) c.requires.faultless c.loop-place.invariant)

pub loop-place-preserved : goal.loop-place-preserved
loop-place-preserved g c =
    let word = c.unwrap-word.result in
    let read : word_at c.args.header c.loop-place.place c.loop-place.rest.now ≡ Ok word = sym c.read_word.ensures.value ∙ c.unwrap-word.ensures in
    rw (c.split_at.ensures.back, c.in_ok-push.ensures.items) (goes_on c.args.header c.loop-place.place c.loop-place.rest.now c.args.bytes.now c.loop-place.words.items word (omega arith) read c.loop-place.invariant)

pub returns : goal.returns
returns g c = is_done c.args.header c.loop-place.place c.loop-place.rest.now c.args.bytes.now c.loop-place.words.items (omega arith) c.loop-place.invariant
