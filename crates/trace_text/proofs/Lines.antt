-- A line that is read is the line of its item, and the line of an item is read.
use Rattle.std.proofs.Common.{◌≡◌, ℕ, ◌+◌, ◌-◌, ◌*◌, ◌<◌, ◌≤◌, ◌/◌, ◌%◌, Bool, false, eqb, List, [], ◌∷◌, ◌++◌, Option, Some, None, Ok, refl, sym, ap, subst, ◌∙◌, arith, true, cond, Err}
use Rattle.std.specs.Prelude.{ok_or}
use Rattle.std.specs.List.{AllByRecursion, join_with_byte}
use Rattle.std.proofs.lemmas.Option.{same_Some}
use Rattle.std.proofs.lemmas.List.Splits.{join_with_byte-slice_split}
use Rattle.nand_geometry.specs.declared.optional.Profile.{Profile}
use Rattle.nand_geometry.specs.declared.optional.Profile.TheVariants.{Base, Onfi}
use Rattle.onfi_cycle.specs.declared.item.Failures.{Failures}
use Rattle.onfi_cycle.specs.declared.item.Cycle.{Cycle}
use Rattle.onfi_cycle.specs.declared.item.Kind.{Kind}
use Rattle.onfi_cycle.specs.declared.item.Item.{Item}
use Rattle.onfi_cycle.specs.declared.item.Item.TheVariants.{Cyc, Rdy, Ard}
use Rattle.trace_text.specs.declared.refusal.TraceFault.TheVariants.{BadShape, BadNumber}
use Rattle.trace_text.specs.declared.line.Letter.{Letter}
use Rattle.trace_text.specs.declared.line.Letter.TheVariants.{CycleOf, Ready, ArrayReady}
use Rattle.trace_text.specs.Line.{digit, hex_digit, kind_letter, fail_digit, line, IsPrintable, HasByte, IsKnown}
use Rattle.trace_text.specs.Reading.{and_then, fields, hex_value, place_of, byte_of, is_wide, fail_of, array_fail_of, letter_of, cycle, ready, array_ready, failed_array, of_three, of_four, item_of, line_item}
use Rattle.trace_text.proofs.Ranges.{and_then_some, IsPlain, place_takes, place_again, plain_digit, hex_takes, is_hex, byte_takes, byte_again, fail_takes, fail_again, known_ready, plain_fail, array_fail_takes, plain_one, letter_takes, letter_again, plain_letter}

-- the front of a line, up to its line feed, is the item's
pub record IsLineOf (p : Profile) (front : List ℕ) (item : Item) : Type 0 where
  pub spelled : front ++ 10 ∷ [] ≡ line item
  pub printable : IsPrintable item
  pub byte : HasByte item
  pub known : IsKnown p item

-- a cycle has a line in all profiles, and so has an array ready without failure
cycle_known : (p : Profile) (c : Cycle) → IsKnown p (Cyc c)
cycle_known p c = at p
  where
    at : (q : Profile) → IsKnown q (Cyc c)
    at Base = refl
    at Onfi = refl

unfailed_known : (p : Profile) (ce lun : ℕ) → IsKnown p (Ard ce lun false)
unfailed_known p ce lun = at p
  where
    at : (q : Profile) → IsKnown q (Ard ce lun false)
    at Base = refl
    at Onfi = refl

abbrev value : Item → Option Item
value item = Some item

-- ---- from the line to the item

numbers : (o : Option Item) (item : Item) → ok_or o BadNumber ≡ Ok item → o ≡ Some item
numbers (Some x) item e = cc
numbers None item e = absurd cc

joined_three : (a b c x y z : List ℕ) → a ≡ x → b ≡ y → c ≡ z → join_with_byte 32 (a ∷ b ∷ c ∷ []) ++ 10 ∷ [] ≡ join_with_byte 32 (x ∷ y ∷ z ∷ []) ++ 10 ∷ []
joined_three a b c x y z e f g = rw (e, f, g) refl

joined_four : (a b c d x y z w : List ℕ) → a ≡ x → b ≡ y → c ≡ z → d ≡ w → join_with_byte 32 (a ∷ b ∷ c ∷ d ∷ []) ++ 10 ∷ [] ≡ join_with_byte 32 (x ∷ y ∷ z ∷ w ∷ []) ++ 10 ∷ []
joined_four a b c d x y z w e f g h = rw (e, f, g, h) refl

cycle_takes : (p : Profile) (ce l byte : List ℕ) (kind : Kind) (item : Item) → l ≡ kind_letter kind ∷ [] → cycle ce kind byte ≡ Some item → IsLineOf p (join_with_byte 32 (ce ∷ l ∷ byte ∷ [])) item
unfolding cycle
cycle_takes p ce l byte kind item is e =
    let F : ℕ → ℕ → Option Item = λ n b. Some (Cyc (record { ce = n; kind = kind; byte = b })) in
    let first = and_then_some (place_of ce) (λ n. and_then (byte_of byte) (λ b. F n b)) item e in
    let second = and_then_some (byte_of byte) (λ b. F first.0 b) item first.2 in
    let place = place_takes ce first.0 first.1 in
    let number = byte_takes byte second.0 second.1 in
    let made : Cyc (record { ce = first.0; kind = kind; byte = second.0 }) ≡ item = same_Some (Cyc (record { ce = first.0; kind = kind; byte = second.0 })) item second.2 in
    subst (λ (i : Item). IsLineOf p (join_with_byte 32 (ce ∷ l ∷ byte ∷ [])) i) made (record { spelled = joined_three ce l byte _ _ _ place.0 is number.0; printable = place.1; byte = number.1; known = cycle_known p _ })

ready_takes : (p : Profile) (ce l lun fail : List ℕ) (item : Item) → l ≡ 82 ∷ [] → ready p ce lun fail ≡ Some item → IsLineOf p (join_with_byte 32 (ce ∷ l ∷ lun ∷ fail ∷ [])) item
unfolding ready
ready_takes p ce l lun fail item is e =
    let F : ℕ → ℕ → Failures → Option Item = λ n m b. Some (Rdy n m b) in
    let first = and_then_some (place_of ce) (λ n. and_then (place_of lun) (λ m. and_then (fail_of p fail) (λ b. F n m b))) item e in
    let second = and_then_some (place_of lun) (λ m. and_then (fail_of p fail) (λ b. F first.0 m b)) item first.2 in
    let third = and_then_some (fail_of p fail) (λ b. F first.0 second.0 b) item second.2 in
    let place = place_takes ce first.0 first.1 in
    let unit = place_takes lun second.0 second.1 in
    let failed = fail_takes p fail third.0 third.1 in
    let made : Rdy first.0 second.0 third.0 ≡ item = same_Some (Rdy first.0 second.0 third.0) item third.2 in
    subst (λ (i : Item). IsLineOf p (join_with_byte 32 (ce ∷ l ∷ lun ∷ fail ∷ [])) i) made (record { spelled = joined_four ce l lun fail _ _ _ _ place.0 is unit.0 failed.0; printable = (place.1, unit.1); byte = tt; known = known_ready p first.0 second.0 0 0 third.0 failed.1 })

array_takes : (p : Profile) (ce l lun : List ℕ) (item : Item) → l ≡ 89 ∷ [] → array_ready ce lun ≡ Some item → IsLineOf p (join_with_byte 32 (ce ∷ l ∷ lun ∷ [])) item
unfolding array_ready
array_takes p ce l lun item is e =
    let F : ℕ → ℕ → Option Item = λ n m. Some (Ard n m false) in
    let first = and_then_some (place_of ce) (λ n. and_then (place_of lun) (λ m. F n m)) item e in
    let second = and_then_some (place_of lun) (λ m. F first.0 m) item first.2 in
    let place = place_takes ce first.0 first.1 in
    let unit = place_takes lun second.0 second.1 in
    let made : Ard first.0 second.0 false ≡ item = same_Some (Ard first.0 second.0 false) item second.2 in
    subst (λ (i : Item). IsLineOf p (join_with_byte 32 (ce ∷ l ∷ lun ∷ [])) i) made (record { spelled = joined_three ce l lun _ _ _ place.0 is unit.0; printable = (place.1, unit.1); byte = tt; known = unfailed_known p _ _ })

failed_takes : (p : Profile) (ce l lun fail : List ℕ) (item : Item) → l ≡ 89 ∷ [] → failed_array ce lun fail ≡ Some item → Onfi ≡ p → IsLineOf p (join_with_byte 32 (ce ∷ l ∷ lun ∷ fail ∷ [])) item
unfolding failed_array
failed_takes p ce l lun fail item is e wide =
    let F : ℕ → ℕ → Bool → Option Item = λ n m b. Some (Ard n m b) in
    let first = and_then_some (place_of ce) (λ n. and_then (place_of lun) (λ m. and_then (array_fail_of fail) (λ b. F n m b))) item e in
    let second = and_then_some (place_of lun) (λ m. and_then (array_fail_of fail) (λ b. F first.0 m b)) item first.2 in
    let third = and_then_some (array_fail_of fail) (λ b. F first.0 second.0 b) item second.2 in
    let place = place_takes ce first.0 first.1 in
    let unit = place_takes lun second.0 second.1 in
    let failed = array_fail_takes fail third.0 third.1 in
    let made : Ard first.0 second.0 true ≡ item = ap (Ard first.0 second.0) (sym failed.1) ∙ same_Some (Ard first.0 second.0 third.0) item third.2 in
    subst (λ (i : Item). IsLineOf p (join_with_byte 32 (ce ∷ l ∷ lun ∷ fail ∷ [])) i) made
    (record { spelled = joined_four ce l lun fail _ _ _ _ place.0 is unit.0 failed.0; printable = (place.1, unit.1); byte = tt; known = subst (λ (q : Profile). IsKnown q (Ard first.0 second.0 true)) wide refl })

three_take : (p : Profile) (ce l third : List ℕ) (o : Option Letter) (item : Item) → letter_of l ≡ o → of_three o ce third ≡ Ok item → IsLineOf p (join_with_byte 32 (ce ∷ l ∷ third ∷ [])) item
three_take p ce l third (Some (CycleOf kind)) item is e = cycle_takes p ce l third kind item (letter_takes l (CycleOf kind) is) (numbers (cycle ce kind third) item e)
three_take p ce l third (Some Ready) item is e = absurd cc
three_take p ce l third (Some ArrayReady) item is e = array_takes p ce l third item (letter_takes l ArrayReady is) (numbers (array_ready ce third) item e)
three_take p ce l third None item is e = absurd cc

four_take : (p : Profile) (ce l third fourth : List ℕ) (o : Option Letter) (item : Item) → letter_of l ≡ o → of_four p o ce third fourth ≡ Ok item → IsLineOf p (join_with_byte 32 (ce ∷ l ∷ third ∷ fourth ∷ [])) item
four_take p ce l third fourth (Some (CycleOf kind)) item is e = absurd cc
four_take p ce l third fourth (Some Ready) item is e = ready_takes p ce l third fourth item (letter_takes l Ready is) (numbers (ready p ce third fourth) item e)
four_take p ce l third fourth (Some ArrayReady) item is e = at p refl e
  where
    at : (q : Profile) → q ≡ p → cond (is_wide q) (ok_or (failed_array ce third fourth) BadNumber) (Err BadShape) ≡ Ok item → IsLineOf p (join_with_byte 32 (ce ∷ l ∷ third ∷ fourth ∷ [])) item
    at Base same e = absurd cc
    at Onfi same e = failed_takes p ce l third fourth item (letter_takes l ArrayReady is) (numbers (failed_array ce third fourth) item e) same
four_take p ce l third fourth None item is e = absurd cc

pub item_takes : (p : Profile) (fs : List (List ℕ)) (item : Item) → item_of p fs ≡ Ok item → IsLineOf p (join_with_byte 32 fs) item
item_takes p [] item e = absurd cc
item_takes p (a ∷ []) item e = absurd cc
item_takes p (a ∷ b ∷ []) item e = absurd cc
item_takes p (a ∷ b ∷ c ∷ []) item e = three_take p a b c (letter_of b) item refl e
item_takes p (a ∷ b ∷ c ∷ d ∷ []) item e = four_take p a b c d (letter_of b) item refl e
item_takes p (a ∷ b ∷ c ∷ d ∷ f ∷ fs) item e = absurd cc

pub line_takes : (p : Profile) (front : List ℕ) (item : Item) → line_item p front ≡ Ok item → IsLineOf p front item
unfolding line_item
line_takes p front item e =
    let taken = item_takes p (fields front) item e in
    subst (λ (bs : List ℕ). IsLineOf p bs item) (join_with_byte-slice_split 32 front) taken

-- ---- from the item to the line

pub record HasLine (p : Profile) (item : Item) : Type 0 where
  pub front : List ℕ
  pub spelled : line item ≡ front ++ 10 ∷ []
  pub no_feed : AllByRecursion (λ b. eqb b 10 ≡ false) front
  pub read : (line_item p) front ≡ Ok item

-- three fields, of one, one and two characters
read_cycle : (p : Profile) (a k h l : ℕ) → IsPlain a → IsPlain k → IsPlain h → IsPlain l → line_item p (a ∷ 32 ∷ k ∷ 32 ∷ h ∷ l ∷ []) ≡ of_three (letter_of (k ∷ [])) (a ∷ []) (h ∷ l ∷ [])
unfolding line_item
read_cycle p a k h l pa pk ph pl = rw (pa.no_space, pk.no_space, ph.no_space, pl.no_space) refl

-- three of one
read_three : (p : Profile) (a k l : ℕ) → IsPlain a → IsPlain k → IsPlain l → line_item p (a ∷ 32 ∷ k ∷ 32 ∷ l ∷ []) ≡ of_three (letter_of (k ∷ [])) (a ∷ []) (l ∷ [])
unfolding line_item
read_three p a k l pa pk pl = rw (pa.no_space, pk.no_space, pl.no_space) refl

-- four of one
read_four : (p : Profile) (a k l f : ℕ) → IsPlain a → IsPlain k → IsPlain l → IsPlain f → line_item p (a ∷ 32 ∷ k ∷ 32 ∷ l ∷ 32 ∷ f ∷ []) ≡ of_four p (letter_of (k ∷ [])) (a ∷ []) (l ∷ []) (f ∷ [])
unfolding line_item
read_four p a k l f pa pk pl pf = rw (pa.no_space, pk.no_space, pl.no_space, pf.no_space) refl

cycle_again : (p : Profile) (ce : ℕ) (kind : Kind) (byte : ℕ) → ce ≤ 3 → byte < 256 → HasLine p (Cyc (record { ce = ce; kind = kind; byte = byte }))
unfolding cycle
cycle_again p ce kind byte printable small =
    let high = (is_hex (byte / 16) (omega arith)).plain in
    let low = (is_hex (byte % 16) (omega arith)).plain in
    let first = plain_digit ce printable in
    let letter = plain_letter (CycleOf kind) in
    let whole = read_cycle p (digit ce) (kind_letter kind) (hex_digit (byte / 16)) (hex_digit (byte % 16)) first letter high low in
    record {
      front = digit ce ∷ 32 ∷ kind_letter kind ∷ 32 ∷ hex_digit (byte / 16) ∷ hex_digit (byte % 16) ∷ [];
      spelled = refl;
      no_feed = (first.no_feed, (refl, (letter.no_feed, (refl, (high.no_feed, (low.no_feed, tt))))));
      read = whole ∙ rw (letter_again (CycleOf kind), place_again ce printable, byte_again byte small) refl;
    }

same_bytes : (p : Profile) (a k h l b m i n : ℕ) → a ≡ b → k ≡ m → h ≡ i → l ≡ n → line_item p (a ∷ 32 ∷ k ∷ 32 ∷ h ∷ l ∷ []) ≡ line_item p (b ∷ 32 ∷ m ∷ 32 ∷ i ∷ n ∷ [])
same_bytes p a k h l b m i n e f g j = rw (e, f, g, j) refl

-- the same of a line whose bytes were looked at one by one
pub cycle_read : (p : Profile) (a k x y h l : ℕ) (kind : Kind) → 48 ≤ a → a ≤ 51 → k ≡ kind_letter kind → hex_value x ≡ Some h → hex_value y ≡ Some l → line_item p (a ∷ 32 ∷ k ∷ 32 ∷ x ∷ y ∷ []) ≡ Ok (Cyc (record { ce = a - 48; kind = kind; byte = 16 * h + l }))
unfolding cycle_again
cycle_read p a k x y h l kind low high letter upper lower =
    let byte : ℕ = 16 * h + l in
    let first = hex_takes x h upper in
    let second = hex_takes y l lower in
    let small_h : h < 16 = first.1 in
    let small_l : l < 16 = second.1 in
    let is_h : h ≡ byte / 16 = omega arith in
    let is_l : l ≡ byte % 16 = omega arith in
    let place : a ≡ digit (a - 48) = omega arith in
    (same_bytes p) a k x y (digit (a - 48)) (kind_letter kind) (hex_digit (byte / 16)) (hex_digit (byte % 16)) place letter (first.0 ∙ ap hex_digit is_h) (second.0 ∙ ap hex_digit is_l)
    ∙ (cycle_again p (a - 48) kind byte (omega arith) (omega arith)).read

failed_again : (p : Profile) (ce lun : ℕ) → ce ≤ 3 → lun ≤ 3 → Onfi ≡ p → HasLine p (Ard ce lun true)
unfolding failed_array array_fail_of
failed_again p ce lun small few wide =
    let first = plain_digit ce small in
    let second = plain_digit lun few in
    let letter = plain_letter ArrayReady in
    let whole = read_four p (digit ce) 89 (digit lun) 49 first letter second plain_one in
    record {
      front = digit ce ∷ 32 ∷ 89 ∷ 32 ∷ digit lun ∷ 32 ∷ 49 ∷ [];
      spelled = refl;
      no_feed = (first.no_feed, (refl, (letter.no_feed, (refl, (second.no_feed, (refl, (refl, tt)))))));
      read = whole ∙ (ap (λ (q : Profile). of_four q (letter_of (89 ∷ [])) (digit ce ∷ []) (digit lun ∷ []) (49 ∷ [])) (sym wide) ∙ rw (letter_again ArrayReady, place_again ce small, place_again lun few) refl);
    }

only_wide : (p : Profile) (ce lun : ℕ) → IsKnown p (Ard ce lun true) → Onfi ≡ p
only_wide p ce lun h = at p refl h
  where
    at : (q : Profile) → q ≡ p → IsKnown q (Ard ce lun true) → Onfi ≡ p
    at Base same h = cc
    at Onfi same h = same

pub line_again : (p : Profile) (item : Item) → IsPrintable item → HasByte item → IsKnown p item → HasLine p item
unfolding ready array_ready
line_again p (Cyc c) printable byte known = cycle_again p c.ce c.kind c.byte printable byte
line_again p (Rdy ce lun fail) printable byte known =
    let first = plain_digit ce printable.0 in
    let second = plain_digit lun printable.1 in
    let third = plain_fail fail in
    let letter = plain_letter Ready in
    let whole = read_four p (digit ce) 82 (digit lun) (fail_digit fail) first letter second third in
    record {
      front = digit ce ∷ 32 ∷ 82 ∷ 32 ∷ digit lun ∷ 32 ∷ fail_digit fail ∷ [];
      spelled = refl;
      no_feed = (first.no_feed, (refl, (letter.no_feed, (refl, (second.no_feed, (refl, (third.no_feed, tt)))))));
      read = whole ∙ rw (letter_again Ready, place_again ce printable.0, place_again lun printable.1, fail_again p ce lun fail known) refl;
    }
line_again p (Ard ce lun true) printable byte known = failed_again p ce lun printable.0 printable.1 (only_wide p ce lun known)
line_again p (Ard ce lun false) printable byte known =
    let first = plain_digit ce printable.0 in
    let second = plain_digit lun printable.1 in
    let letter = plain_letter ArrayReady in
    let whole = read_three p (digit ce) 89 (digit lun) first letter second in
    record {
      front = digit ce ∷ 32 ∷ 89 ∷ 32 ∷ digit lun ∷ [];
      spelled = refl;
      no_feed = (first.no_feed, (refl, (letter.no_feed, (refl, (second.no_feed, tt)))));
      read = whole ∙ rw (letter_again ArrayReady, place_again ce printable.0, place_again lun printable.1) refl;
    }
