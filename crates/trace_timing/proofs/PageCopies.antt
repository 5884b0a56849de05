-- The copies of a parameter page, one after another.
use Rattle.std.proofs.Common.{◌≡◌, ℕ, true, false, List, [], ◌∷◌, ◌++◌, length, take, drop, refl, sym, ap, ◌∙◌}
use Rattle.std.specs.Prelude.{find, Option, Some, unwrap_or}
use Rattle.std.proofs.lemmas.List.{take-append-drop}
use Rattle.nand_geometry.specs.Reading.{is_good, whole_copies}
use Rattle.nand_geometry.proofs.ReadingLemmas.{copies_of_append}
use Rattle.trace_timing.specs.PageTimes.{times_at, times_in}

first_copy : (rest copy behind : List ℕ) → copy ++ behind ≡ rest → length copy ≡ 256 → whole_copies rest ≡ copy ∷ whole_copies behind
first_copy rest copy behind same long = ap whole_copies (sym same) ∙ copies_of_append copy behind long

-- a text is cut in front of and behind its first copy
pub joined : (rest copy behind : List ℕ) → copy ≡ take 256 rest → behind ≡ drop 256 rest → copy ++ behind ≡ rest
joined rest copy behind e f = rw (e, f) (take-append-drop 256 rest)

-- a copy that isn't good is passed over
pub past : (rest copy behind : List ℕ) → copy ++ behind ≡ rest → length copy ≡ 256 → is_good copy ≡ false → find is_good (whole_copies behind) ≡ find is_good (whole_copies rest)
past rest copy behind same long bad = sym (ap (find is_good) (first_copy rest copy behind same long) ∙ rw bad refl)

-- the first good one is used
pub found : (page rest copy behind : List ℕ) → find is_good (whole_copies rest) ≡ find is_good (whole_copies page) → copy ++ behind ≡ rest → length copy ≡ 256 → is_good copy ≡ true
    → times_at copy ≡ times_in page
found page rest copy behind here same long good =
    let first : find is_good (whole_copies rest) ≡ Some copy = ap (find is_good) (first_copy rest copy behind same long) ∙ rw good refl in
    ap (λ (o : Option (List ℕ)). times_at (unwrap_or o [])) (sym first ∙ here)
