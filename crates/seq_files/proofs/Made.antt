-- Files that were made, listed one after the other.
use Rattle.std.proofs.Common.{◌≡◌, ℕ, ◌+◌, ◌<◌, List, [], ◌∷◌, ◌++◌, map, drop, get_or, length, refl, sym, ap, ◌∙◌}
use Rattle.std.proofs.lemmas.List.{append_assoc, drop_more}
use Rattle.seq_files.specs.declared.made_file.MadeFile.{MadeFile}
use Rattle.seq_files.specs.declared.new_file.NewFile.{NewFile}
use Rattle.seq_files.specs.Store.{Written, written_of, made_of}

listed : (files : List NewFile) (file : NewFile) → map written_of (files ++ file ∷ []) ≡ map written_of files ++ written_of file ∷ []
listed [] file = refl
listed (x ∷ files) file = ap (λ (l : List Written). written_of x ∷ l) (listed files file)

-- one file more
pub listed_more : (files new : List NewFile) (file : NewFile) → new ≡ files ++ file ∷ [] → map written_of new ≡ map written_of files ++ written_of file ∷ []
listed_more files new file is = ap (map written_of) is ∙ listed files file

-- one file of a list of those that were made
pub made_more : {A : Type 0} (made : List (MadeFile A)) (k : ℕ) (x : MadeFile A) (old new whole : List Written) → k < length made → x ≡ get_or made k x → new ≡ old ++ made_of x ∷ [] → old ++ map made_of (drop k made) ≡ whole → new ++ map made_of (drop (k + 1) made) ≡ whole
made_more made k x old new whole inside is next before =
    let here = ap (map made_of) (drop_more made k x inside) ∙ ap (λ y. made_of y ∷ map made_of (drop (k + 1) made)) (sym is) in
    ap (λ (l : List Written). l ++ map made_of (drop (k + 1) made)) next
    ∙ append_assoc old (made_of x ∷ []) (map made_of (drop (k + 1) made))
    ∙ ap (λ (l : List Written). old ++ l) (sym here)
    ∙ before

-- one file more that was made
pub made_pushed : {A : Type 0} (made new : List (MadeFile A)) (file : MadeFile A) → new ≡ made ++ file ∷ [] → map made_of new ≡ map made_of made ++ made_of file ∷ []
made_pushed made new file is = ap (map made_of) is ∙ pushed made file
  where
    pushed : {A : Type 0} (made : List (MadeFile A)) (file : MadeFile A) → map made_of (made ++ file ∷ []) ≡ map made_of made ++ made_of file ∷ []
    pushed [] file = refl
    pushed (x ∷ made) file = ap (λ (l : List Written). made_of x ∷ l) (pushed made file)
