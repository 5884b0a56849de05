-- Files that are made one after the other.
use Rattle.std.proofs.Common.{◌≡◌, ℕ, zero, suc, ◌+◌, ◌<◌, ◌≤◌, arith, List, [], ◌∷◌, ◌++◌, map, drop, get_or, length, Option, Some, refl, sym, ap, ◌∙◌}
use Rattle.std.proofs.lemmas.List.{append_assoc, append-nil, drop_more}
use Rattle.seq_files.specs.declared.new_file.NewFile.{NewFile}
use Rattle.seq_files.specs.declared.map_files.KeptFile.{KeptFile}
use Rattle.seq_files.specs.Store.{Store, with_file, with_all, written_of}

-- one more of several files is made
pub one_more : (files : List NewFile) (k : ℕ) (d : NewFile) (now later last : Option Store) → k < length files
    → later ≡ with_file now (get_or files k d).path.now (get_or files k d).bytes.now → with_all (map written_of (drop k files)) now ≡ last
    → with_all (map written_of (drop (k + 1) files)) later ≡ last
unfolding with_all
one_more files k d now later last inside made before =
    ap (λ (s : Option Store). with_all (map written_of (drop (k + 1) files)) s) made
    ∙ sym (ap (λ (fs : List NewFile). with_all (map written_of fs) now) (drop_more files k d inside))
    ∙ before

-- all of them are made
pub all_made : (files : List NewFile) (k : ℕ) (now last : Option Store) → length files ≤ k → with_all (map written_of (drop k files)) now ≡ last → now ≡ last
unfolding with_all
all_made [] zero now last over before = before
all_made [] (suc k) now last over before = before
all_made (f ∷ files) zero now last over before = absurd (omega (arith, over))
all_made (f ∷ files) (suc k) now last over before = all_made files k now last (omega (arith, over)) before

-- files stand behind those that were there
pub behind : (old now new : List KeptFile) → ((later : List KeptFile) × (now ≡ old ++ later)) → ((later : List KeptFile) × (new ≡ now ++ later))
    → (later : List KeptFile) × (new ≡ old ++ later)
behind old now new (a, is) (b, more) = (a ++ b, more ∙ ap (λ (l : List KeptFile). l ++ b) is ∙ append_assoc old a b)
