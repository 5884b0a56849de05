use Rattle.std.proofs.Common.{◌+◌, ◌-◌, take, ap, ◌∙◌, arith, slice_set, length}
use borrow.Rule.Slice.PartMut.{put_mid}
use Rattle.std.proofs.lemmas.Fmt.{length-decimal-le}
use Rattle.trace_wave.proofs.Digits.{number_written}
use Rattle.trace_wave.proofs.item_count.write_number.Goals as goal

pub returns-clause-value : goal.returns-clause-value
returns-clause-value c =
    ap (λ xs. take (length c.as_bytes-digits.result.now + 1) (put_mid 1 (length c.as_bytes-digits.result.now + 1 - 1) (slice_set c.args.text.now 0 35) xs)) c.copy_from_slice.ensures.after
    ∙ number_written c.args.text.now c.as_bytes-digits.result.now c.args.number c.told-text (c.as_bytes-digits.ensures.value ∙ c.format.ensures.text)

pub returns-clause-len : goal.returns-clause-len
returns-clause-len c =
    let short = length-decimal-le 19 c.args.number (omega arith) (omega (arith, c.requires)) (omega (arith, c.requires)) in
    omega (arith, short, ap (λ xs. length xs) (c.as_bytes-digits.ensures.value ∙ c.format.ensures.text))
