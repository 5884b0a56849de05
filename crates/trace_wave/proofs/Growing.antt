-- Texts that are added to.
use Rattle.std.proofs.Common.{◌≡◌, ℕ, List, ◌++◌, ap, ◌∙◌, sym}
use Rattle.std.proofs.lemmas.List.{append_assoc}
use Rattle.trace_wave.specs.Wave.{Grows}

pub grown : (a b c : List ℕ) → Grows a b → Grows b c → Grows a c
grown a b c (more, e) (again, f) = (more ++ again, f ∙ (ap (λ (x : List ℕ). x ++ again) e ∙ append_assoc a more again))

-- what was written, what is kept in the room and what is still to be drawn, one item later
pub one_later : (out new kept next item rest whole : List ℕ) (room : List ℕ) → new ++ next ≡ out ++ kept → room ≡ next ++ item → out ++ (kept ++ (item ++ rest)) ≡ whole → new ++ (room ++ rest) ≡ whole
one_later out new kept next item rest whole room moved drawn so_far =
    ap (λ (x : List ℕ). new ++ (x ++ rest)) drawn
    ∙ (ap (λ (x : List ℕ). new ++ x) (append_assoc next item rest)
    ∙ (sym (append_assoc new next (item ++ rest))
    ∙ (ap (λ (x : List ℕ). x ++ (item ++ rest)) moved
    ∙ (append_assoc out kept (item ++ rest) ∙ so_far))))
