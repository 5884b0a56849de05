-- Copies of the parameter page, one after the other.
use Rattle.std.proofs.Common.{◌≡◌, ℕ, zero, suc, ◌+◌, List, [], ◌++◌, ap, ◌∙◌, append_assoc, add-one}
use Rattle.nand_geometry.specs.declared.parts.Parts.{Parts}
use Rattle.nand_geometry.specs.Page.{page as page_of, parameter_bytes}

abbrev pub copies_of : ℕ → List ℕ → List ℕ
copies_of zero page = []
copies_of (suc n) page = copies_of n page ++ page

pub one_more : (page before after : List ℕ) (n : ℕ) → before ≡ copies_of n page → after ≡ before ++ page → after ≡ copies_of (n + 1) page
one_more page before after n so is = rw (add-one n) (is ∙ ap (λ (x : List ℕ). x ++ page) so)

pub all_copied : (g : Parts) (page copies : List ℕ) (n : ℕ) → page ≡ page_of g → copies ≡ copies_of n page → n ≡ 3 → copies ≡ parameter_bytes g
unfolding parameter_bytes
all_copied g bytes copies n is so count =
    so ∙ (ap (λ (k : ℕ). copies_of k bytes) count ∙ (append_assoc bytes bytes bytes ∙ ap (λ (x : List ℕ). x ++ (x ++ x)) is))
