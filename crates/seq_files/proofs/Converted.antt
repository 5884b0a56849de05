-- A converter that goes on piece by piece: what is made of all, and what is refused.
use Rattle.std.proofs.Common.{◌≡◌, ℕ, List, [], ◌∷◌, ◌++◌, Option, Some, None, IfSome, Result, Ok, Err, OnOk, IfErr, refl, sym, ap, ◌∙◌, subst}
use Rattle.std.proofs.lemmas.List.{append_assoc, append-nil}
use Rattle.std.specs.Io.KnownBytes.{Appends, Consumes, IsAtEnd}
use Rattle.std.proofs.KnownBytes.{Appends-nil, Appends-trans, Consumes-nil, Consumes-trans}
use Rattle.seq_files.specs.declared.converting.NotConverted.{NotConverted}
use Rattle.seq_files.specs.declared.converting.NotConverted.TheVariants.{Input, Output, Refused}
use Rattle.seq_files.specs.Converting.{GoesOn, HasGoneOn, IsMade, IsRefused, AreLeft}

abbrev Makes : Type 1
Makes = List ℕ → List ℕ → Type 0

abbrev Refuses : Type 0 → Type 1
Refuses R = List ℕ → R → Type 0

-- nothing is taken yet
pub begun : {R : Type 0} (left written : Option (List ℕ)) (makes : Makes) (refuses : Refuses R) → HasGoneOn left left written written makes makes refuses refuses
begun left written makes refuses =
    record { piece = []; made = []; taken = Consumes-nil left; is_written = Appends-nil written; goes_on = (λ rest more made. made, λ rest why refused. refused) }

-- one piece more
pub gone_on : {R : Type 0} (i j k o p q : Option (List ℕ)) (m n l : Makes) (r s t : Refuses R)
    → HasGoneOn i j o p m n r s → HasGoneOn j k p q n l s t → HasGoneOn i k o q m l r t
gone_on i j k o p q m n l r s t first second = record {
  piece = first.piece ++ second.piece;
  made = first.made ++ second.made;
  taken = Consumes-trans i j k first.piece second.piece first.taken second.taken;
  is_written = Appends-trans o p q first.made second.made first.is_written second.is_written;
  goes_on = (
    λ rest more is. subst (λ (input : List ℕ). m input ((first.made ++ second.made) ++ more)) (sym (append_assoc first.piece second.piece rest))
        (subst (λ (output : List ℕ). m (first.piece ++ (second.piece ++ rest)) output) (sym (append_assoc first.made second.made more))
        (first.goes_on.0 (second.piece ++ rest) (second.made ++ more) (second.goes_on.0 rest more is))),
    λ rest why is. subst (λ (input : List ℕ). r input why) (sym (append_assoc first.piece second.piece rest))
        (first.goes_on.1 (second.piece ++ rest) why (second.goes_on.1 rest why is)),
  );
}

-- pieces, and then what was left: all of the input
left_then : (left then : Option (List ℕ)) (piece rest : List ℕ) → Consumes left then piece → AreLeft then rest → AreLeft left (piece ++ rest)
left_then None then piece rest taken are = tt
left_then (Some x) None piece rest taken are = absurd taken
left_then (Some x) (Some y) piece rest taken are = ap (λ (l : List ℕ). piece ++ l) are ∙ sym taken

none_left : (left : Option (List ℕ)) → IsAtEnd left → AreLeft left []
none_left None end = tt
none_left (Some x) end = sym end

-- what is made of all of an input whose pieces are taken
pub all_made : {R : Type 0} (i j o p q : Option (List ℕ)) (m n : Makes) (r s : Refuses R) → HasGoneOn i j o p m n r s → IsAtEnd j
    → ((last : List ℕ) × Appends p q last × n [] last) → (made : List ℕ) × Appends o q made × IsMade (AreLeft i) m made
all_made i j o p q m n r s gone end (last, more, is) = (
  gone.made ++ last,
  Appends-trans o p q gone.made last gone.is_written more,
  (gone.piece ++ [], left_then i j gone.piece [] gone.taken (none_left j end), gone.goes_on.0 [] last is),
)

-- a refusal of what was left
pub refused_then : {R : Type 0} (i j o p : Option (List ℕ)) (m n : Makes) (r s : Refuses R) (e : NotConverted R) → HasGoneOn i j o p m n r s
    → IsRefused (AreLeft j) s e → IsRefused (AreLeft i) r e
refused_then i j o p m n r s (Input e) gone refused = tt
refused_then i j o p m n r s (Output e) gone refused = tt
refused_then i j o p m n r s (Refused why) gone (rest, are, is) = (gone.piece ++ rest, left_then i j gone.piece rest gone.taken are, gone.goes_on.1 rest why is)

-- a refusal at the end
pub refused_last : {R : Type 0} (i j o p : Option (List ℕ)) (m n : Makes) (r s : Refuses R) (e : NotConverted R) → HasGoneOn i j o p m n r s → IsAtEnd j
    → IsRefused (λ input. input ≡ []) s e → IsRefused (AreLeft i) r e
refused_last i j o p m n r s (Input e) gone end refused = tt
refused_last i j o p m n r s (Output e) gone end refused = tt
refused_last i j o p m n r s (Refused why) gone end (rest, none, is) =
    (gone.piece ++ [], left_then i j gone.piece [] gone.taken (none_left j end), gone.goes_on.1 [] why (subst (λ (l : List ℕ). s l why) none is))

-- how it ends, where the input is at its end
pub ended : {R U : Type 0} (i j o p q : Option (List ℕ)) (m n : Makes) (r s : Refuses R) (result : Result U (NotConverted R)) → HasGoneOn i j o p m n r s → IsAtEnd j
    → OnOk result ((last : List ℕ) × Appends p q last × n [] last) → OnOk result ((made : List ℕ) × Appends o q made × IsMade (AreLeft i) m made)
ended i j o p q m n r s (Ok u) gone end is = all_made i j o p q m n r s gone end is
ended i j o p q m n r s (Err e) gone end is = tt

pub ended_refused : {R U : Type 0} (i j o p : Option (List ℕ)) (m n : Makes) (r s : Refuses R) (result : Result U (NotConverted R)) → HasGoneOn i j o p m n r s → IsAtEnd j
    → IfErr result (IsRefused (λ input. input ≡ []) s) → IfErr result (IsRefused (AreLeft i) r)
ended_refused i j o p m n r s (Ok u) gone end is = tt
ended_refused i j o p m n r s (Err e) gone end is = refused_last i j o p m n r s e gone end is
