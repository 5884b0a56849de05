-- Plain operations in a loop fit the second format.
use Rattle.std.proofs.Common.{◌≡◌, ◌+◌, ◌≤◌, List, [], ◌∷◌, ◌++◌, sym, subst, arith, length}
use Rattle.std.specs.List.{AllByRecursion}
use Rattle.micro_word.specs.declared.format.Format.TheVariants.{Two}
use Rattle.micro_word.specs.declared.word.Word.{Word}
use Rattle.micro_word.specs.declared.word.Word.TheVariants.{End, Next}
use Rattle.micro_word.specs.Word.{IsInRange}
use Rattle.micro_verify.specs.Plain.{operations_len}
use Rattle.micro_verify.proofs.PlainFitting.{words_in_range}
use Rattle.micro_verify.proofs.PlainInsides.{rows_fit, buffer_fits, some_rows, are_fine}
use Rattle.looped_plain.specs.Looped.{looped_words, LoopedTextsFit}
use Rattle.looped_plain.proofs.Certifying.{looped}
use Rattle.looped_plain.proofs.Loops.{text_long}
use Rattle.looped_plain.proofs.Ways.{body}
use Rattle.looped_plain.proofs.Shapes.{body_long, body_ends, looped_body}

-- what holds of all words holds of the first of them, and of those with others behind them
all_with : (P : Word → Type 0) (ws last more : List Word) → AllByRecursion P (ws ++ last) → AllByRecursion P more → AllByRecursion P (ws ++ more)
all_with P [] last more h k = k
all_with P (w ∷ ws) last more h k = (h.0, all_with P ws last more h.1 k)

pub looped_texts_fit : LoopedTextsFit
looped_texts_fit g l turns ops none some most few cheap =
    let fine = are_fine g ops none in
    let failure = operations_len ops + 1 in
    let ws = body failure ops in
    let words : looped_words turns ops ≡ looped turns ws = looped_body turns ops in
    let long = body_long failure ops in
    let size : length (looped turns ws) ≡ operations_len ops + 1 + 1 + 1 = text_long turns ws failure (omega (arith, long)) in
    let ends = End 0 ∷ (End 1 ∷ []) in
    let fit = words_in_range g l (length (looped turns ws)) failure ops (omega (arith, size)) fine.inside in
    let inside = all_with (IsInRange Two (length (looped turns ws))) ws ends (Next ∷ (End 0 ∷ []))
    (subst (λ (xs : List Word). AllByRecursion (IsInRange Two (length (looped turns ws))) xs) (body_ends failure ops) fit) (tt, (omega arith, tt)) in
    record {
      some_rows = some_rows ops fine.some;
      rows = rows_fit g ops fine.inside;
      buffer = buffer_fits g ops fine.inside;
      budget = cheap;
      count = subst (λ (xs : List Word). length xs ≤ 1024) (sym words) (omega (arith, size, few));
      words = subst (λ (xs : List Word). AllByRecursion (IsInRange Two (length xs)) xs) (sym words) ((some, most), inside);
    }
