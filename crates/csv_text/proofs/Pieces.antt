-- Lines of a text that comes in pieces.
use Rattle.std.proofs.Common.{◌≡◌, ◌<◌, ◌≤◌, ◌+◌, ◌-◌, ℕ, suc, zero, List, [], ◌∷◌, ◌++◌, Option, length, take, drop, get_or, refl, ap, sym, ◌∙◌, subst, arith}
use Rattle.std.proofs.Math.Seq.{drop-cons}
use Rattle.std.proofs.lemmas.List.{append-nil}
use Rattle.csv_text.specs.declared.rows.Row.{Row}
use Rattle.csv_text.specs.declared.rows.Rows.{Rows}
use Rattle.csv_text.specs.Rows.{rows, rows_from, ended, EndsLine, AreLines, MayFollow}
use Rattle.csv_text.specs.Shown.{rows_left, rows_before, with_row}

ends_rest : (b : ℕ) (bytes : List ℕ) → (b ≡ 10 → ⊥) → EndsLine (b ∷ bytes) → EndsLine bytes
ends_rest b [] other ends = absurd (other ends)
ends_rest b (c ∷ bytes) other ends = ends

pub ends_on : (i : ℕ) (text : List ℕ) → i < length text → (get_or text i 0 ≡ 10 → ⊥) → EndsLine (drop i text) → EndsLine (drop (i + 1) text)
ends_on i text within other ends =
    let next : suc i ≡ i + 1 = omega arith in
    subst (λ n. EndsLine (drop n text)) next (ends_rest (get_or text i 0) (drop (suc i) text) other (subst EndsLine (drop-cons text i 0 within) ends))

-- a line feed stands at the front of a text, or nothing does and nothing comes
abbrev EndsHere : (text more : List ℕ) → Type 0
EndsHere [] more = more ≡ []
EndsHere (b ∷ text) more = b ≡ 10

line_ends : (line : ℕ) (front text more : List ℕ) → EndsHere text more → rows_from line front (text ++ more) ≡ ended line front (rows_from (line + 1) [] (drop 1 text ++ more))
line_ends line front [] more here = subst (λ more. rows_from line front more ≡ ended line front (rows_from (line + 1) [] more)) (sym here) refl
line_ends line front (b ∷ text) more here = rw here refl

here_of : (text more whole : List ℕ) → 0 < length whole → (0 < length text → get_or text 0 0 ≡ 10) → (EndsLine whole → EndsLine text) → MayFollow whole more → EndsHere text more
here_of [] [] whole some feed ends may = refl
here_of [] (m ∷ more) [] some feed ends may = absurd (omega (arith, some))
here_of [] (m ∷ more) (w ∷ whole) some feed ends may = absurd (ends may)
here_of (b ∷ text) more whole some feed ends may = feed (omega arith)

-- the line that ends here
pub line_done : (line count : ℕ) (text more : List ℕ) → 0 < length text → (0 < length (drop count text) → get_or (drop count text) 0 0 ≡ 10) → (EndsLine text → EndsLine (drop count text)) → MayFollow text more
    → rows_from line (take count text) (drop count text ++ more) ≡ ended line (take count text) (rows_from (line + 1) [] (drop 1 (drop count text) ++ more))
line_done line count text more some feed ends may = line_ends line (take count text) (drop count text) more (here_of (drop count text) more text some feed ends may)

rest_lines : (text : List ℕ) → EndsLine text → AreLines (drop 1 text)
rest_lines [] ends = absurd ends
rest_lines (b ∷ []) ends = tt
rest_lines (b ∷ c ∷ text) ends = ends

pub follows_on : (count : ℕ) (text more : List ℕ) → 0 < length text → (EndsLine text → EndsLine (drop count text)) → MayFollow text more → MayFollow (drop 1 (drop count text)) more
follows_on count text [] some ends may = tt
follows_on count [] (m ∷ more) some ends may = absurd (omega (arith, some))
follows_on count (b ∷ text) (m ∷ more) some ends may = rest_lines (drop count (b ∷ text)) (ends may)

-- a beginning of a text that ends in a line feed
ends_after : (n : ℕ) (text : List ℕ) → n < length text → get_or text n 0 ≡ 10 → EndsLine (take (suc n) text)
ends_after n [] within feed = absurd (omega (arith, within))
ends_after zero (b ∷ text) within feed = feed
ends_after (suc n) (b ∷ []) within feed = absurd (omega (arith, within))
ends_after (suc n) (b ∷ c ∷ text) within feed = ends_after n (c ∷ text) (omega (arith, within)) feed

are_lines : (text : List ℕ) → EndsLine text → AreLines text
are_lines [] ends = tt
are_lines (b ∷ text) ends = ends

pub lines_before : (count : ℕ) (text : List ℕ) → 0 < count → count ≤ length text → get_or text (count - 1) 0 ≡ 10 → AreLines (take count text)
lines_before count text some within feed =
    let last : suc (count - 1) ≡ count = omega (arith, some) in
    subst (λ n. AreLines (take n text)) last (are_lines (take (suc (count - 1)) text) (ends_after (count - 1) text (omega (arith, some, within)) feed))
