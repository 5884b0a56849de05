-- The definitions at a few lines and texts.
use Rattle.std.proofs.Common.{◌≡◌, [], ◌∷◌, ◌++◌, true, false, Ok, Err, refl}
use Rattle.std.specs.Prelude.{codes}
use Rattle.nand_geometry.specs.declared.optional.Profile.TheVariants.{Base, Onfi}
use Rattle.onfi_cycle.specs.declared.item.Kind.TheVariants.{Cmd, Dout}
use Rattle.onfi_cycle.specs.declared.item.Item.TheVariants.{Cyc, Rdy, Ard}
use Rattle.trace_text.specs.declared.refusal.TraceFault.TheVariants.{BadShape, BadNumber}
use Rattle.trace_text.specs.declared.refusal.TraceRefusal.TheVariants.{Fault}
use Rattle.trace_text.specs.Line.{line}
use Rattle.trace_text.specs.Reading.{place_of, byte_of, fail_of, array_fail_of, letter_of, cycle, ready, array_ready, failed_array, line_item, reading_from, reading}

erase_line : line (Cyc (record { ce = 0; kind = Cmd; byte = 0xd0 })) ≡ codes "0 C d0" ++ 10 ∷ []
erase_line = refl

status_line : line (Cyc (record { ce = 3; kind = Dout; byte = 0x0e })) ≡ codes "3 O 0e" ++ 10 ∷ []
status_line = refl

ready_line : line (Rdy 1 2 (record { last = true; before = false })) ≡ codes "1 R 2 1" ++ 10 ∷ []
ready_line = refl

array_line : line (Ard 0 1 false) ≡ codes "0 Y 1" ++ 10 ∷ []
array_line = refl

erase_read : line_item Base (codes "0 C d0") ≡ Ok (Cyc (record { ce = 0; kind = Cmd; byte = 0xd0 }))
unfolding line_item letter_of cycle place_of byte_of
erase_read = refl

ready_read : line_item Base (codes "1 R 2 1") ≡ Ok (Rdy 1 2 (record { last = true; before = false }))
unfolding line_item letter_of ready place_of fail_of
ready_read = refl

array_read : line_item Base (codes "0 Y 1") ≡ Ok (Ard 0 1 false)
unfolding line_item letter_of array_ready place_of
array_read = refl

upper_case : line_item Base (codes "0 C D0") ≡ Err BadNumber
unfolding line_item letter_of cycle place_of byte_of
upper_case = refl

chip_enable_4 : line_item Base (codes "4 C 60") ≡ Err BadNumber
unfolding line_item letter_of cycle place_of byte_of
chip_enable_4 = refl

three_digits : line_item Base (codes "0 C 600") ≡ Err BadNumber
unfolding line_item letter_of cycle place_of byte_of
three_digits = refl

-- the second field is empty, which is no letter
two_spaces : line_item Base (codes "0  C 60") ≡ Err BadShape
unfolding line_item letter_of
two_spaces = refl

-- a number field is X2 whatever its bytes: a carriage return (13) or nothing
carriage_return : line_item Base (codes "0 C 60" ++ 13 ∷ []) ≡ Err BadNumber
unfolding line_item letter_of cycle place_of byte_of
carriage_return = refl

empty_third : line_item Base (codes "0 C ") ≡ Err BadNumber
unfolding line_item letter_of cycle place_of byte_of
empty_third = refl

empty_first : line_item Base (codes " C 60") ≡ Err BadNumber
unfolding line_item letter_of cycle place_of byte_of
empty_first = refl

-- the letter wants another number of fields
four_of_three : line_item Base (codes "0 C  60") ≡ Err BadShape
unfolding line_item letter_of
four_of_three = refl

small_letter : line_item Base (codes "0 c 60") ≡ Err BadShape
unfolding line_item letter_of
small_letter = refl

no_line : line_item Base [] ≡ Err BadShape
unfolding line_item
no_line = refl

space_at_the_end : line_item Base (codes "0 Y 1 ") ≡ Err BadShape
unfolding line_item letter_of
space_at_the_end = refl

five_fields : line_item Base (codes "9 R 2 1 0") ≡ Err BadShape
unfolding line_item
five_fields = refl

empty_text : reading Base [] ≡ Ok []
unfolding reading_from
empty_text = refl

two_lines : reading Base (codes "0 Y 1" ++ 10 ∷ codes "1 R 2 0" ++ 10 ∷ []) ≡ Ok (Ard 0 1 false ∷ Rdy 1 2 (record { last = false; before = false }) ∷ [])
unfolding reading_from line_item letter_of array_ready ready place_of fail_of
two_lines = refl

unended : reading Base (codes "0 Y 1" ++ 10 ∷ codes "1 R 2 0") ≡ Err (Fault BadShape 2)
unfolding reading_from line_item letter_of array_ready ready place_of fail_of
unended = refl

lowest_line : reading Base (codes "0 Y 1" ++ 10 ∷ codes "1 R 4 0" ++ 10 ∷ codes "1") ≡ Err (Fault BadNumber 2)
unfolding reading_from line_item letter_of array_ready ready place_of fail_of
lowest_line = refl

-- readies of two failures, and array readies that failed, are of the wider profile: in the base one they are what they always were, X2 and X1
both_line : line (Rdy 1 2 (record { last = true; before = true })) ≡ codes "1 R 2 3" ++ 10 ∷ []
both_line = refl

failed_line : line (Ard 0 1 true) ≡ codes "0 Y 1 1" ++ 10 ∷ []
failed_line = refl

before_read : line_item Onfi (codes "1 R 2 2") ≡ Ok (Rdy 1 2 (record { last = false; before = true }))
unfolding line_item letter_of ready place_of fail_of
before_read = refl

failed_read : line_item Onfi (codes "0 Y 1 1") ≡ Ok (Ard 0 1 true)
unfolding line_item letter_of failed_array place_of array_fail_of
failed_read = refl

before_in_base : line_item Base (codes "1 R 2 2") ≡ Err BadNumber
unfolding line_item letter_of ready place_of fail_of
before_in_base = refl

failed_in_base : line_item Base (codes "9 Y 1 1") ≡ Err BadShape
unfolding line_item letter_of
failed_in_base = refl

fail_4 : line_item Onfi (codes "1 R 2 4") ≡ Err BadNumber
unfolding line_item letter_of ready place_of fail_of
fail_4 = refl

-- an array ready without failure has one line alone
zero_at_the_end : line_item Onfi (codes "0 Y 1 0") ≡ Err BadNumber
unfolding line_item letter_of failed_array place_of array_fail_of
zero_at_the_end = refl
