use Rattle.std.proofs.Common.{◌≡◌, Some, None, refl, sym, arith}
use Rattle.micro_word.specs.Reading.{fault_of}
use Rattle.micro_word.specs.Text.{Microprogram}
use Rattle.micro_word.proofs.Texts.{fits_of, is_refused}
use Rattle.micro_word.proofs.text.Text.of.Goals as goal

pub new-requires : goal.new-requires
new-requires g c =
    let x : Microprogram = record { rows = c.args.rows; buffer = c.args.buffer; budget = c.args.budget; words = c.args.words.items } in
    let none : fault_of x.rows x.buffer x.words ≡ None = rw (← c.deref.ensures.value) (sym c.in-None.ensures) in
    fits_of x (omega (arith, c.ranges.budget)) none

pub returns-in-Some-clause-accepted : goal.returns-in-Some-clause-accepted
returns-in-Some-clause-accepted g c =
    let x : Microprogram = record { rows = c.args.rows; buffer = c.args.buffer; budget = c.args.budget; words = c.args.words.items } in
    let refused : fault_of x.rows x.buffer x.words ≡ Some c.in-Some.refusal = rw (← c.deref.ensures.value) (sym c.in-Some.ensures) in
    (λ ok. absurd cc, λ fits. absurd (is_refused x c.in-Some.refusal refused fits))

pub returns-in-None-clause-accepted : goal.returns-in-None-clause-accepted
returns-in-None-clause-accepted g c =
    let x : Microprogram = record { rows = c.args.rows; buffer = c.args.buffer; budget = c.args.budget; words = c.args.words.items } in
    let none : fault_of x.rows x.buffer x.words ≡ None = rw (← c.deref.ensures.value) (sym c.in-None.ensures) in
    (λ ok. fits_of x (omega (arith, c.ranges.budget)) none, λ fits. refl)
