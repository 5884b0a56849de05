-- A word leads from the place where a program stands to the place where it stands behind the word.
use Rattle.std.proofs.Common.{◌≡◌, ℕ, zero, suc, ◌+◌, ◌-◌, ◌<◌, ◌≤◌, ◌==◌, Bool, true, false, cond, List, [], ◌∷◌, ◌++◌, length, drop, Option, Some, None, refl, sym, ap, ◌∙◌, subst, arith, eqb-true}
use Rattle.std.specs.List.{slice_get}
use Rattle.std.proofs.lemmas.List.{append_assoc, append-nil}
use Rattle.micro_word.specs.declared.word.Word.{Word}
use Rattle.micro_word.specs.declared.word.Word.TheVariants.{BranchOnStatus, Loop, Next, Jump}
use Rattle.micro_program.specs.Lines.{Line, Unrolling, repeated, looped, word_before, unrolling, unrolled, from_place}
use Rattle.micro_program.specs.Places.{from_word, LeadsTo, IsLoop, FitsAt, IsShaped}
use Rattle.micro_program.specs.Program.{meets}
use Rattle.seq_core.specs.declared.loops.OpenLoop.{OpenLoop}
use Rattle.seq_core.specs.Loops.{behind_turn, lines_at, AreAround, StandsAt, place_behind, loops_behind, lines_left}

-- 1. the word at a place

drop_at : (words : List Word) (at : ℕ) (word : Word) → slice_get words at ≡ Some word → drop at words ≡ word ∷ drop (at + 1) words
drop_at [] at word h = absurd cc
drop_at (first ∷ words) zero word h = let same : first ≡ word = cc in ap (λ (w : Word). w ∷ words) same
drop_at (first ∷ words) (suc at) word h =
    let next : suc (at + 1) ≡ suc at + 1 = omega arith in
    drop_at words at word h ∙ ap (λ (k : ℕ). word ∷ drop k (first ∷ words)) next

drop_past : (words : List Word) (at : ℕ) → slice_get words at ≡ None → drop at words ≡ []
drop_past [] zero h = refl
drop_past [] (suc at) h = refl
drop_past (first ∷ words) zero h = absurd cc
drop_past (first ∷ words) (suc at) h = drop_past words at h

word_at : (words : List Word) (at : ℕ) (word : Word) → slice_get words at ≡ Some word → from_word words at ≡ word_before (record { at = at; word = word }) (from_word words (at + 1)) word
word_at words at word h = ap (λ (ws : List Word). unrolling ws at) (drop_at words at word h)

pub record WordThere (words : List Word) (at : ℕ) : Type 0 where
  pub word : Word
  pub here : slice_get words at ≡ Some word

word_there : (words : List Word) (at : ℕ) → at < length words → WordThere words at
word_there [] at h = absurd (omega (arith, h))
word_there (first ∷ words) zero h = record { word = first; here = refl }
word_there (first ∷ words) (suc at) h =
    let w = word_there words at (omega (arith, h)) in
    record { word = w.word; here = w.here }

-- the lines in front of which a word was put begin with it
record Begins (line : Line) (lines : List Line) : Type 0 where
  more : List Line
  are : lines ≡ line ∷ more

begins : (line : Line) (u : Unrolling) (word : Word) → Begins line (word_before line u word).lines
begins line u (Loop turns) = on u.outer
  where
    on : (outer : List (List Line)) → Begins line (looped line turns u.lines outer).lines
    on [] = record { more = u.lines; are = refl }
    on (after ∷ outer) = record { more = repeated turns u.lines ++ after; are = refl }
begins line u Next = record { more = []; are = refl }
begins line u _ = record { more = u.lines; are = refl }

same_head : (x y : Line) (xs ys : List Line) → x ∷ xs ≡ y ∷ ys → x ≡ y
same_head x y xs ys h = cc

same_tail : (x y : Line) (xs ys : List Line) → x ∷ xs ≡ y ∷ ys → xs ≡ ys
same_tail x y xs ys h = cc

-- the word of the next line
pub record FirstWord (words : List Word) (at : ℕ) (line : Line) : Type 0 where
  pub word : Word
  pub here : slice_get words at ≡ Some word
  pub is_line : line ≡ record { at = at; word = word }

pub first_word : (words : List Word) (at : ℕ) (loops : List OpenLoop) (line : Line) (rest : List Line) → StandsAt words (line ∷ rest) at loops → FirstWord words at line
first_word words at loops line rest s = on (slice_get words at) refl
  where
    on : (o : Option Word) → slice_get words at ≡ o → FirstWord words at line
    on None e =
        let none : from_word words at ≡ record { lines = []; outer = [] } = ap (λ (ws : List Word). unrolling ws at) (drop_past words at e) in
        let empty : line ∷ rest ≡ [] = s.lines ∙ ap (λ (u : Unrolling). u.lines ++ behind_turn words u.outer loops) none in
        absurd cc
    on (Some word) e =
        let l : Line = record { at = at; word = word } in
        let b = begins l (from_word words (at + 1)) word in
        let w = word_at words at word e in
        let is : line ∷ rest ≡ (l ∷ b.more) ++ behind_turn words (from_word words at).outer loops =
        s.lines ∙ ap (λ (ls : List Line). ls ++ behind_turn words (from_word words at).outer loops) (ap (λ (u : Unrolling). u.lines) w ∙ b.are) in
        record { word = word; here = e; is_line = same_head line l rest (b.more ++ behind_turn words (from_word words at).outer loops) is }

-- 2. branches

found : (t : ℕ) (xs ys : List Line) (first : Line) (more : List Line) → from_place t xs ≡ first ∷ more → from_place t (xs ++ ys) ≡ from_place t xs ++ ys
found t [] ys first more h = absurd cc
found t (x ∷ xs) ys first more h = on (x.at == t) h (found t xs ys first more)
  where
    on : (b : Bool) → cond b (x ∷ xs) (from_place t xs) ≡ first ∷ more → (from_place t xs ≡ first ∷ more → from_place t (xs ++ ys) ≡ from_place t xs ++ ys) → cond b (x ∷ (xs ++ ys)) (from_place t (xs ++ ys)) ≡ cond b (x ∷ xs) (from_place t xs) ++ ys
    on true h later = refl
    on false h later = later h

leads : (words : List Word) (at target : ℕ) (loops : List OpenLoop) (rest : List Line) → LeadsTo words at target → rest ≡ lines_at words (at + 1) loops → AreAround words (from_word words (at + 1)).outer loops → StandsAt words (from_place target rest) target loops
leads words at target loops rest f is around =
    let u = from_word words (at + 1) in
    let there = word_there words target f.there in
    let b = begins (record { at = target; word = there.word }) (from_word words (target + 1)) there.word in
    let some : from_place target u.lines ≡ record { at = target; word = there.word } ∷ b.more =
    f.lines ∙ (ap (λ (v : Unrolling). v.lines) (word_at words target there.word there.here) ∙ b.are) in
    record {
      lines =
          ap (from_place target) is ∙ (found target u.lines (behind_turn words u.outer loops) (record { at = target; word = there.word }) b.more some ∙
          (ap (λ (ls : List Line). ls ++ behind_turn words u.outer loops) f.lines ∙
          ap (λ (o : List (List Line)). (from_word words target).lines ++ behind_turn words o loops) f.loops));
      around = subst (λ (o : List (List Line)). AreAround words o loops) f.loops around;
    }

-- 3. loops

enters : (words : List Word) (at turns : ℕ) (loops : List OpenLoop) (l : Line) (rest : List Line) (outer : List (List Line)) → IsLoop words at turns → (from_word words (at + 1)).outer ≡ outer → l ∷ rest ≡ (looped l turns (from_word words (at + 1)).lines outer).lines ++ behind_turn words (looped l turns (from_word words (at + 1)).lines outer).outer loops → AreAround words (looped l turns (from_word words (at + 1)).lines outer).outer loops → StandsAt words rest (at + 1) (record { start = at + 1; left = turns - 1 } ∷ loops)
enters words at turns loops l rest [] f e is around =
    let none : length (from_word words (at + 1)).outer ≡ 0 = ap (length {A = List Line}) e in
    absurd (omega (arith, none, f.ends))
enters words at zero loops l rest (after ∷ outer) f e is around = absurd (omega (arith, f.some))
enters words at (suc n) loops l rest (after ∷ outer) f e is around =
    let inner : OpenLoop = record { start = at + 1; left = n } in
    let body = (from_word words (at + 1)).lines in
    let behind = behind_turn words outer loops in
    let tail : rest ≡ ((body ++ repeated n body) ++ after) ++ behind = same_tail l l rest (((body ++ repeated n body) ++ after) ++ behind) is in
    let apart : ((body ++ repeated n body) ++ after) ++ behind ≡ body ++ (repeated n body ++ (after ++ behind)) =
    append_assoc (body ++ repeated n body) after behind ∙ append_assoc body (repeated n body) (after ++ behind) in
    let left : suc n - 1 ≡ n = omega arith in
    subst (λ (k : ℕ). StandsAt words rest (at + 1) (record { start = at + 1; left = k } ∷ loops)) (sym left) (record {
      lines = tail ∙ (apart ∙ ap (λ (o : List (List Line)). body ++ behind_turn words o (inner ∷ loops)) (sym e));
      around = subst (λ (o : List (List Line)). AreAround words o (inner ∷ loops)) (sym e) (e, around);
    })

turns : (words : List Word) (at : ℕ) (loops : List OpenLoop) (l : Line) (rest : List Line) (u : Unrolling) → u ≡ from_word words (at + 1) → l ∷ rest ≡ (l ∷ []) ++ behind_turn words (u.lines ∷ u.outer) loops → AreAround words (u.lines ∷ u.outer) loops → StandsAt words rest (place_behind at loops 0 Next) (loops_behind at loops Next)
turns words at [] l rest u e is around = absurd around
turns words at (inner ∷ loops) l rest u e is around = on inner.left (inner.left == 0) refl (same_tail l l rest (behind_turn words (u.lines ∷ u.outer) (inner ∷ loops)) is)
  where
    body : List Line
    body = (from_word words inner.start).lines

    behind : List Line
    behind = u.lines ++ behind_turn words u.outer loops

    on : (n : ℕ) (b : Bool) → (n == 0) ≡ b → rest ≡ repeated n body ++ behind → StandsAt words rest (cond b (at + 1) inner.start) (cond b loops (record { start = inner.start; left = n - 1 } ∷ loops))
    on n true d tail =
        let none : n ≡ 0 = eqb-true n 0 d in
        record {
          lines = tail ∙ (ap (λ (k : ℕ). repeated k body ++ behind) none ∙ ap (λ (v : Unrolling). v.lines ++ behind_turn words v.outer loops) e);
          around = subst (λ (v : Unrolling). AreAround words v.outer loops) e around.1;
        }
    on zero false d tail = absurd cc
    on (suc n) false d tail =
        let again : OpenLoop = record { start = inner.start; left = n } in
        let left : suc n - 1 ≡ n = omega arith in
        subst (λ (k : ℕ). StandsAt words rest inner.start (record { start = inner.start; left = k } ∷ loops)) (sym left) (record {
          lines =
              tail ∙ (append_assoc body (repeated n body) behind ∙
              ap (λ (o : List (List Line)). body ++ behind_turn words o (again ∷ loops)) (sym around.0));
          around = subst (λ (o : List (List Line)). AreAround words o (again ∷ loops)) (sym around.0) (around.0, around.1);
        })

-- 4. each word

pub stands_behind : (words : List Word) (at : ℕ) (loops : List OpenLoop) (status : ℕ) (word : Word) (rest : List Line) → IsShaped words → slice_get words at ≡ Some word → StandsAt words (record { at = at; word = word } ∷ rest) at loops → StandsAt words (lines_left status word rest) (place_behind at loops status word) (loops_behind at loops word)
stands_behind words at loops status word rest shaped here s =
    let w = word_at words at word here in
    let l : Line = record { at = at; word = word } in
    on word l (shaped.fits at word here)
    (s.lines ∙ ap (λ (v : Unrolling). v.lines ++ behind_turn words v.outer loops) w)
    (subst (λ (v : Unrolling). AreAround words v.outer loops) w s.around)
  where
    u : Unrolling
    u = from_word words (at + 1)

    on : (word : Word) (l : Line) → FitsAt words at word → l ∷ rest ≡ (word_before l u word).lines ++ behind_turn words (word_before l u word).outer loops → AreAround words (word_before l u word).outer loops → StandsAt words (lines_left status word rest) (place_behind at loops status word) (loops_behind at loops word)
    on (BranchOnStatus mask target) l f is around = branch (meets mask status)
      where
        tail : rest ≡ lines_at words (at + 1) loops
        tail = same_tail l l rest (lines_at words (at + 1) loops) is

        branch : (b : Bool) → StandsAt words (cond b (from_place target rest) rest) (cond b target (at + 1)) loops
        branch true = leads words at target loops rest f tail around
        branch false = record { lines = tail; around = around }
    on (Loop n) l f is around = enters words at n loops l rest u.outer f refl is around
    on Next l f is around = turns words at loops l rest u refl is around
    on (Jump target) l f is around = leads words at target loops rest f (same_tail l l rest (lines_at words (at + 1) loops) is) around
    on _ l f is around = record { lines = same_tail l l rest (lines_at words (at + 1) loops) is; around = around }

same_depth : (words : List Word) (outer : List (List Line)) (loops : List OpenLoop) → AreAround words outer loops → length loops ≡ length outer
same_depth words [] [] h = refl
same_depth words [] (inner ∷ loops) h = absurd h
same_depth words (after ∷ outer) [] h = absurd h
same_depth words (after ∷ outer) (inner ∷ loops) h = ap suc (same_depth words outer loops h.1)

-- loops stay four deep at most
pub few_loops : (words : List Word) (ahead : List Line) (at : ℕ) (loops : List OpenLoop) → IsShaped words → StandsAt words ahead at loops → length loops ≤ 4
few_loops words ahead at loops shaped s =
    let same = same_depth words (from_word words at).outer loops s.around in
    let few = shaped.depth at in
    omega (arith, same, few)

-- 5. before the first word

pub stands_first : (words : List Word) → IsShaped words → StandsAt words (unrolled words) 0 []
unfolding unrolled
stands_first words shaped =
    record {
      lines = sym (ap (λ (o : List (List Line)). (from_word words 0).lines ++ behind_turn words o []) shaped.paired ∙ append-nil (from_word words 0).lines);
      around = subst (λ (o : List (List Line)). AreAround words o []) (sym shaped.paired) tt;
    }
