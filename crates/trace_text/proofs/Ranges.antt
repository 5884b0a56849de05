-- Number fields: a field that is read is spelled by its digits, and the digits are read again.
use Rattle.std.proofs.Common.{◌≡◌, ℕ, ◌+◌, ◌-◌, ◌*◌, ◌/◌, ◌%◌, ◌<◌, ◌≤◌, Bool, true, false, cond, ◌&&◌, not, eqb, ltb, leb, List, [], ◌∷◌, length, get_or, Option, Some, None, refl, sym, ap, ◌∙◌, arith}
use Rattle.std.proofs.lemmas.Bool.{eqb-true, leb-true, le-leb, ltb-true, ltb-false, lt-ltb, le-ltb, ne_eqb, and_parts as both_true}
use Rattle.std.proofs.lemmas.Option.{cond_some, same_Some}
use Rattle.std.proofs.lemmas.Bool.Decides.{nat_tests}
use Rattle.nand_geometry.specs.declared.optional.Profile.{Profile}
use Rattle.nand_geometry.specs.declared.optional.Profile.TheVariants.{Base, Onfi}
use Rattle.onfi_cycle.specs.declared.item.Failures.{Failures}
use Rattle.onfi_cycle.specs.declared.item.Item.TheVariants.{Rdy}
use Rattle.onfi_cycle.specs.declared.item.Kind.TheVariants.{Cmd, Adr, Din, Dout}
use Rattle.trace_text.specs.declared.line.Letter.{Letter}
use Rattle.trace_text.specs.declared.line.Letter.TheVariants.{CycleOf, Ready, ArrayReady}
use Rattle.trace_text.specs.Line.{digit, hex_digit, kind_letter, fail_number, fail_digit, IsKnown}
use Rattle.trace_text.specs.Reading.{and_then, place_of_digit, place_of, hex_value, byte_of, is_wide, fail_of_digit, fail_of, array_fail_of, letter_of_code, letter_of}

-- ---- lists of one and of two

one : (f : List ℕ) → length f ≡ 1 → f ≡ get_or f 0 0 ∷ []
one (a ∷ []) h = refl
one [] h = absurd (omega arith)
one (a ∷ b ∷ f) h = absurd (omega arith)

two : (f : List ℕ) → length f ≡ 2 → f ≡ get_or f 0 0 ∷ get_or f 1 0 ∷ []
two (a ∷ b ∷ []) h = refl
two [] h = absurd (omega arith)
two (a ∷ []) h = absurd (omega arith)
two (a ∷ b ∷ c ∷ f) h = absurd (omega arith)

-- what an option whose test must pass says
guarded : {A : Type 0} (b : Bool) (o : Option A) (x : A) → cond b o None ≡ Some x → (b ≡ true) × (o ≡ Some x)
guarded true o x e = (refl, e)
guarded false o x e = absurd cc

pub and_then_some : {A B : Type 0} (o : Option A) (f : A → Option B) (y : B) → and_then o f ≡ Some y → (x : A) × (o ≡ Some x) × (f x ≡ Some y)
and_then_some (Some x) f y e = (x, refl, e)
and_then_some None f y e = absurd cc

-- a number between two others, and the test of it
between : (low n high : ℕ) → (leb low n && leb n high) ≡ true → (low ≤ n) × (n ≤ high)
between low n high e = let t = both_true (leb low n) (leb n high) e in (leb-true low n t.0, leb-true n high t.1)

is_between : (low n high : ℕ) → low ≤ n → n ≤ high → (leb low n && leb n high) ≡ true
is_between low n high h k = let first = le-leb low n h in let second = le-leb n high k in rw (first, second) refl

-- a character that is neither a space nor a line feed
pub record IsPlain (b : ℕ) : Type 0 where
  pub no_space : eqb b 32 ≡ false
  pub no_feed : eqb b 10 ≡ false

plain : (b : ℕ) → 33 ≤ b → IsPlain b
plain b low = record { no_space = ne_eqb b 32 (λ e. absurd (omega arith)); no_feed = ne_eqb b 10 (λ e. absurd (omega arith)) }

-- ---- a chip enable or a LUN

pub place_takes : (f : List ℕ) (n : ℕ) → place_of f ≡ Some n → (f ≡ digit n ∷ []) × (n ≤ 3)
unfolding place_of
place_takes f n e =
    let first = guarded (eqb (length f) 1) (place_of_digit (get_or f 0 0)) n e in
    let d : ℕ = get_or f 0 0 in
    let second = cond_some (leb 48 d && leb d 51) (d - 48) n first.1 in
    let range = between 48 d 51 second.0 in
    let value : d - 48 ≡ n = second.1 in
    let low : 48 ≤ d = range.0 in
    let high : d ≤ 51 = range.1 in
    let spelled : d ≡ digit n = omega arith in
    (one f (eqb-true (length f) 1 first.0) ∙ ap (λ (x : ℕ). x ∷ []) spelled, omega arith)

pub place_again : (n : ℕ) → n ≤ 3 → place_of (digit n ∷ []) ≡ Some n
unfolding place_of
place_again n h =
    let test = is_between 48 (48 + n) 51 (omega arith) (omega arith) in
    let value : 48 + n - 48 ≡ n = omega arith in
    rw (test, value) refl

pub plain_digit : (n : ℕ) → n ≤ 3 → IsPlain (digit n)
plain_digit n h = plain (48 + n) (omega arith)

-- ---- a byte

pub hex_takes : (d n : ℕ) → hex_value d ≡ Some n → (d ≡ hex_digit n) × (n < 16)
hex_takes d n e = at (leb 48 d && leb d 57) refl e
  where
    at : (t : Bool) → (leb 48 d && leb d 57) ≡ t → cond t (Some (d - 48)) (cond (leb 97 d && leb d 102) (Some (d - 87)) None) ≡ Some n → (d ≡ hex_digit n) × (n < 16)
    at true is h =
        let range = between 48 d 57 is in
        let low : 48 ≤ d = range.0 in
        let high : d ≤ 57 = range.1 in
        let value : d - 48 ≡ n = same_Some (d - 48) n h in
        let test : ltb n 10 ≡ true = lt-ltb n 10 (omega arith) in
        let spelled : d ≡ 48 + n = omega arith in
        (rw test spelled, omega arith)
    at false is h =
        let second = cond_some (leb 97 d && leb d 102) (d - 87) n h in
        let range = between 97 d 102 second.0 in
        let low : 97 ≤ d = range.0 in
        let high : d ≤ 102 = range.1 in
        let value : d - 87 ≡ n = second.1 in
        let test : ltb n 10 ≡ false = le-ltb n 10 (omega arith) in
        let spelled : d ≡ 87 + n = omega arith in
        (rw test spelled, omega arith)

-- a digit is 48 to 57, or 97 to 102
pub record IsHex (n : ℕ) : Type 0 where
  pub value : hex_value (hex_digit n) ≡ Some n
  pub plain : IsPlain (hex_digit n)

pub is_hex : (n : ℕ) → n < 16 → IsHex n
is_hex n h = at (ltb n 10) refl
  where
    at : (t : Bool) → ltb n 10 ≡ t → IsHex n
    at true is =
        let below : n < 10 = ltb-true n 10 is in
        let test = is_between 48 (48 + n) 57 (omega arith) (omega arith) in
        let back : 48 + n - 48 ≡ n = omega arith in
        record { value = rw (is, test, back) refl; plain = rw is (plain (48 + n) (omega arith)) }
    at false is =
        let above : 10 ≤ n = ltb-false n 10 is in
        let past : (leb 48 (87 + n) && leb (87 + n) 57) ≡ false = grind (arith, nat_tests) in
        let test = is_between 97 (87 + n) 102 (omega arith) (omega arith) in
        let back : 87 + n - 87 ≡ n = omega arith in
        record { value = rw (is, past, test, back) refl; plain = rw is (plain (87 + n) (omega arith)) }

pub byte_takes : (f : List ℕ) (n : ℕ) → byte_of f ≡ Some n → (f ≡ hex_digit (n / 16) ∷ hex_digit (n % 16) ∷ []) × (n < 256)
unfolding byte_of
byte_takes f n e =
    let first = guarded (eqb (length f) 2) (and_then (hex_value (get_or f 0 0)) (λ high. and_then (hex_value (get_or f 1 0)) (λ low. Some (16 * high + low)))) n e in
    let high = and_then_some (hex_value (get_or f 0 0)) (λ high. and_then (hex_value (get_or f 1 0)) (λ low. Some (16 * high + low))) n first.1 in
    let low = and_then_some (hex_value (get_or f 1 0)) (λ low. Some (16 * high.0 + low)) n high.2 in
    let h : ℕ = high.0 in
    let l : ℕ = low.0 in
    let value : 16 * h + l ≡ n = same_Some (16 * h + l) n low.2 in
    let upper = hex_takes (get_or f 0 0) h high.1 in
    let lower = hex_takes (get_or f 1 0) l low.1 in
    let small_h : h < 16 = upper.1 in
    let small_l : l < 16 = lower.1 in
    let is_h : h ≡ n / 16 = omega arith in
    let is_l : l ≡ n % 16 = omega arith in
    let first_digit : get_or f 0 0 ≡ hex_digit (n / 16) = upper.0 ∙ ap hex_digit is_h in
    let second_digit : get_or f 1 0 ≡ hex_digit (n % 16) = lower.0 ∙ ap hex_digit is_l in
    (two f (eqb-true (length f) 2 first.0) ∙ ap (λ (x : ℕ). x ∷ get_or f 1 0 ∷ []) first_digit ∙ ap (λ (x : ℕ). hex_digit (n / 16) ∷ x ∷ []) second_digit, omega arith)

pub byte_again : (n : ℕ) → n < 256 → byte_of (hex_digit (n / 16) ∷ hex_digit (n % 16) ∷ []) ≡ Some n
unfolding byte_of
byte_again n h =
    let high = (is_hex (n / 16) (omega arith)).value in
    let low = (is_hex (n % 16) (omega arith)).value in
    let back : 16 * (n / 16) + n % 16 ≡ n = omega arith in
    rw (high, low, back) refl

-- ---- a failure

pub fail_takes : (p : Profile) (f : List ℕ) (fail : Failures) → fail_of p f ≡ Some fail → (f ≡ fail_digit fail ∷ []) × (IsKnown p (Rdy 0 0 fail))
unfolding fail_of
fail_takes p f fail e =
    let first = guarded (eqb (length f) 1) (fail_of_digit p (get_or f 0 0)) fail e in
    let d : ℕ = get_or f 0 0 in
    let is = at p d (eqb d 48) (eqb d 49) (eqb d 50) (eqb d 51) refl refl refl refl first.1 in
    (one f (eqb-true (length f) 1 first.0) ∙ ap (λ (x : ℕ). x ∷ []) is.0, is.1)
  where
    said : (last before : Bool) → Failures
    said last before = record { last = last; before = before }

    at : (p : Profile) (d : ℕ) (t u v w : Bool) → eqb d 48 ≡ t → eqb d 49 ≡ u → eqb d 50 ≡ v → eqb d 51 ≡ w
        → cond t (Some (record { last = false; before = false })) (cond u (Some (record { last = true; before = false }))
        (cond (is_wide p && v) (Some (record { last = false; before = true })) (cond (is_wide p && w) (Some (record { last = true; before = true })) None))) ≡ Some fail
        → (d ≡ fail_digit fail) × IsKnown p (Rdy 0 0 fail)
    at Base d true u v w i j k l h = let same = same_Some (said false false) fail h in (eqb-true d 48 i ∙ ap fail_digit same, ap (λ (x : Failures). not x.before) (sym same))
    at Onfi d true u v w i j k l h = (eqb-true d 48 i ∙ ap fail_digit (same_Some (said false false) fail h), refl)
    at Base d false true v w i j k l h = let same = same_Some (said true false) fail h in (eqb-true d 49 j ∙ ap fail_digit same, ap (λ (x : Failures). not x.before) (sym same))
    at Onfi d false true v w i j k l h = (eqb-true d 49 j ∙ ap fail_digit (same_Some (said true false) fail h), refl)
    at Base d false false v w i j k l h = absurd cc
    at Onfi d false false true w i j k l h = (eqb-true d 50 k ∙ ap fail_digit (same_Some (said false true) fail h), refl)
    at Onfi d false false false true i j k l h = (eqb-true d 51 l ∙ ap fail_digit (same_Some (said true true) fail h), refl)
    at Onfi d false false false false i j k l h = absurd cc

-- whether it is known hangs on the failure alone
pub known_ready : (p : Profile) (ce lun n m : ℕ) (fail : Failures) → IsKnown p (Rdy n m fail) → IsKnown p (Rdy ce lun fail)
known_ready Base ce lun n m fail h = h
known_ready Onfi ce lun n m fail h = refl

digit_again : (p : Profile) (last before : Bool) → IsKnown p (Rdy 0 0 (record { last = last; before = before }))
    → fail_of p (fail_digit (record { last = last; before = before }) ∷ []) ≡ Some (record { last = last; before = before })
unfolding fail_of
digit_again Base false false h = refl
digit_again Base true false h = refl
digit_again Base false true h = cc
digit_again Base true true h = cc
digit_again Onfi false false h = refl
digit_again Onfi true false h = refl
digit_again Onfi false true h = refl
digit_again Onfi true true h = refl

pub fail_again : (p : Profile) (ce lun : ℕ) (fail : Failures) → IsKnown p (Rdy ce lun fail) → fail_of p (fail_digit fail ∷ []) ≡ Some fail
fail_again p ce lun fail h = digit_again p fail.last fail.before (known_ready p 0 0 ce lun fail h)

number_small : (last before : Bool) → fail_number last before ≤ 3
number_small false false = omega arith
number_small true false = omega arith
number_small false true = omega arith
number_small true true = omega arith

pub fail_small : (fail : Failures) → fail_number fail.last fail.before ≤ 3
fail_small fail = number_small fail.last fail.before

pub plain_fail : (fail : Failures) → IsPlain (fail_digit fail)
plain_fail fail = plain (48 + fail_number fail.last fail.before) (omega arith)

-- that of an array ready
pub array_fail_takes : (f : List ℕ) (fail : Bool) → array_fail_of f ≡ Some fail → (f ≡ 49 ∷ []) × (fail ≡ true)
unfolding array_fail_of
array_fail_takes f fail e =
    let first = guarded (eqb (length f) 1) (cond (eqb (get_or f 0 0) 49) (Some true) None) fail e in
    let second = guarded (eqb (get_or f 0 0) 49) (Some true) fail first.1 in
    (one f (eqb-true (length f) 1 first.0) ∙ ap (λ (x : ℕ). x ∷ []) (eqb-true (get_or f 0 0) 49 second.0), sym (same_Some true fail second.1))

pub plain_one : IsPlain 49
plain_one = plain 49 (omega arith)

-- ---- a letter

abbrev pub code : Letter → ℕ
code (CycleOf kind) = kind_letter kind
code Ready = 82
code ArrayReady = 89

pub letter_takes : (f : List ℕ) (letter : Letter) → letter_of f ≡ Some letter → f ≡ code letter ∷ []
unfolding letter_of
letter_takes f letter e =
    let first = guarded (eqb (length f) 1) (letter_of_code (get_or f 0 0)) letter e in
    one f (eqb-true (length f) 1 first.0) ∙ ap (λ (x : ℕ). x ∷ []) (at (get_or f 0 0) first.1)
  where
    -- one line of the table
    here : (c k : ℕ) (found : Letter) (t : Bool) (others : Option Letter) → k ≡ code found → eqb c k ≡ t → cond t (Some found) others ≡ Some letter → (others ≡ Some letter → c ≡ code letter) → c ≡ code letter
    here c k found true others same is h more = eqb-true c k is ∙ same ∙ ap code (same_Some found letter h)
    here c k found false others same is h more = more h

    at : (c : ℕ) → letter_of_code c ≡ Some letter → c ≡ code letter
    at c h =
        here c 67 (CycleOf Cmd) (eqb c 67) _ refl refl h (λ h. here c 65 (CycleOf Adr) (eqb c 65) _ refl refl h (λ h. here c 73 (CycleOf Din) (eqb c 73) _ refl refl h (λ h.
        here c 79 (CycleOf Dout) (eqb c 79) _ refl refl h (λ h. here c 82 Ready (eqb c 82) _ refl refl h (λ h. here c 89 ArrayReady (eqb c 89) _ refl refl h (λ h. absurd cc))))))

pub letter_again : (letter : Letter) → letter_of (code letter ∷ []) ≡ Some letter
unfolding letter_of
letter_again (CycleOf Cmd) = refl
letter_again (CycleOf Adr) = refl
letter_again (CycleOf Din) = refl
letter_again (CycleOf Dout) = refl
letter_again Ready = refl
letter_again ArrayReady = refl

pub plain_letter : (letter : Letter) → IsPlain (code letter)
plain_letter (CycleOf Cmd) = plain 67 (omega arith)
plain_letter (CycleOf Adr) = plain 65 (omega arith)
plain_letter (CycleOf Din) = plain 73 (omega arith)
plain_letter (CycleOf Dout) = plain 79 (omega arith)
plain_letter Ready = plain 82 (omega arith)
plain_letter ArrayReady = plain 89 (omega arith)
