use Rattle.std.proofs.Common.{◌≡◌, Ok, Err, drop, sym, ap, ◌∙◌, arith}
use Rattle.std.proofs.lemmas.Result.{err_from_is_err_and}
use Rattle.micro_word.specs.Reading.{header_at, words_at}
use Rattle.micro_word.proofs.Ranges.{fits_two}
use Rattle.micro_word.proofs.Files.{text_of, text_fits}
use Rattle.micro_word.proofs.Faults.{header_fails, words_fail}
use Rattle.micro_word.proofs.reading.read_text.Goals as goal

pub returns-in_err-header : goal.returns-in_err-header
returns-in_err-header g c =
    let e = c.in_err-header.field-0.0 in
    let failed : header_at c.args.bytes.now ≡ Err e = sym c.in_err-header.ensures.value in
    let p = err_from_is_err_and c.from_residual.result c.from_residual.ensures.1 in
    rw (p.1, p.2) (header_fails c.args.bytes.now e failed)

pub returns-in_err-check_words : goal.returns-in_err-check_words
returns-in_err-check_words g c =
    let h = c.in_ok-header.header in
    let e = c.in_err-check_words.field-0.0 in
    let read : header_at c.args.bytes.now ≡ Ok h = sym c.in_ok-header.ensures.value in
    let failed : words_at h 0 h.words (drop 16 c.args.bytes.now) ≡ Err e = ap (words_at h 0 h.words) (sym c.split_at.ensures.back) ∙ c.in_err-check_words.ensures.err in
    let p = err_from_is_err_and c.from_residual-in_err-check_words.result c.from_residual-in_err-check_words.ensures.1 in
    rw (p.1, p.2) (words_fail c.args.bytes.now h e read failed)

pub new-requires : goal.new-requires
new-requires g c =
    let h = c.in_ok-header.header in
    let ws = c.in_ok-words.words.items in
    let read : header_at c.args.bytes.now ≡ Ok h = sym c.in_ok-header.ensures.value in
    let words : words_at h 0 h.words (drop 16 c.args.bytes.now) ≡ Ok ws = ap (words_at h 0 h.words) (sym c.split_at.ensures.back) ∙ c.in_ok-words.ensures in
    fits_two h.format (text_of h ws) (text_fits c.args.bytes.now h ws (λ i. omega (arith, c.type_inv.bytes i)) read words)
