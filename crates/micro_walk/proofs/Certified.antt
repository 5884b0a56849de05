-- A text with a certificate is accepted line by line.
use Rattle.std.proofs.Common.{◌≡◌, ℕ, zero, suc, ◌+◌, ◌<◌, ◌≤◌, ◌==◌, Bool, true, false, ◌&&◌, ◌||◌, cond, not, List, [], ◌∷◌, ◌++◌, Option, Some, None, refl, sym, ap, ◌∙◌, subst, arith, length, append_assoc}
use Rattle.std.specs.List.{slice_get}
use Rattle.std.specs.Prelude.{is_some, nat_le}
use Rattle.std.proofs.lemmas.Bool.Decides.{nat_tests}
use Rattle.std.proofs.lemmas.Bool.{and_parts, and_from}
use Rattle.micro_word.specs.declared.word.Word.{Word}
use Rattle.micro_word.specs.declared.word.Word.TheVariants.{End, BranchOnStatus, Loop, Next, Jump}
use Rattle.micro_program.specs.Lines.{Line, Unrolling, repeated, looped, word_before, unrolling, unrolled, from_place}
use Rattle.micro_program.specs.Nested.{loops_before, loops_at, first_of, LeadsForward, StandsIn, IsNested}
use Rattle.micro_claims.specs.Certificate.{Machine, Laws, Turned, entered, turned, if_there, goes_on, accepts, claim, reaches, turns_hold, loop_holds, word_holds, holds, all_hold, CertifiedIsAccepted}
use Rattle.micro_program.proofs.Ways.{from_word, line_of, word_here, unrolled_here, loops_here, closes, leads, led_on}

-- 1. small tests

or_right : (a b : Bool) → (a || b) ≡ true → a ≡ false → b ≡ true
or_right true b h no_a = absurd cc
or_right false b h no_a = h

not_one : (n : ℕ) → 2 ≤ n → nat_le n 1 ≡ false
not_one n h = grind (arith, nat_tests)

pub some_of : {A : Type 0} (o : Option A) → is_some o ≡ true → (x : A) × (o ≡ Some x)
some_of None h = absurd cc
some_of (Some x) h = (x, refl)

pub there_of : {A : Type 0} (o : Option A) (f : A → Bool) → if_there o f ≡ true → (x : A) × (o ≡ Some x) × (f x ≡ true)
there_of None f h = absurd cc
there_of (Some x) f h = (x, refl, h)

-- 2. lines left out

pub skip_to : (M : Machine) (target : ℕ) (s : M.State) (lines : List Line) → accepts M (Some target) s lines ≡ accepts M None s (from_place target lines)
skip_to M target s [] = refl
skip_to M target s (line ∷ lines) = at (line.at == target) (skip_to M target s lines)
  where
    at : (b : Bool) → accepts M (Some target) s lines ≡ accepts M None s (from_place target lines) → cond (not b) (accepts M (Some target) s lines) (goes_on M s line.word (λ t way. accepts M way t lines)) ≡ accepts M None s (cond b (line ∷ lines) (from_place target lines))
    at true ih = refl
    at false ih = ih

-- 3. what a certificate says of a place

holds_at : (M : Machine) (words : List Word) (claims : List (Option M.State)) (at : ℕ) (rest : List Word) → all_hold M words claims at rest ≡ true → (i : ℕ) (word : Word) → slice_get rest i ≡ Some word → holds M words claims (at + i) (claim claims (at + i)) word ≡ true
holds_at M words claims at [] h i word e = absurd cc
holds_at M words claims at (first ∷ rest) h zero word e =
    let same : first ≡ word = cc in
    let here : at + 0 ≡ at = omega arith in
    rw (here, ← same) (and_parts _ _ h).0
holds_at M words claims at (first ∷ rest) h (suc i) word e =
    let here : at + suc i ≡ at + 1 + i = omega arith in
    rw here (holds_at M words claims (at + 1) rest (and_parts _ _ h).1 i word e)

-- a claim stands before a word
claimed_inside : {A : Type 0} (claims : List (Option A)) (at : ℕ) (s : A) → claim claims at ≡ Some s → at < length claims
claimed_inside [] at s e = absurd cc
claimed_inside (first ∷ claims) zero s e = omega arith
claimed_inside (first ∷ claims) (suc at) s e = let h = claimed_inside claims at s e in omega (arith, h)

-- 4. from a place on

module _ (M : Machine) (At : M.State → M.State → M.State → Type 0) (laws : Laws M At) (words : List Word) (nested : IsNested words) (claims : List (Option M.State)) where
  -- what follows the turn of the innermost of these loops is accepted, whatever the turn ends with
  abbrev pub Continues : M.State → List ℕ → List Line → Type 0
  Continues v [] more = Unit {0}
  Continues v (next ∷ loops) more = (r b : M.State) → claim claims next ≡ Some r → At v r b → accepts M None b more ≡ true

  -- from what is claimed at a place the lines from there on are accepted
  abbrev pub GoodAt : ℕ → Type 0
  GoodAt at =
      (v s a : M.State) (more : List Line) → claim claims at ≡ Some s → At v s a → Continues v (loops_at words at) more
      → accepts M None a ((from_word words at).lines ++ more) ≡ true

  -- from a state that reaches a place
  reached : (at : ℕ) (v s a : M.State) (more : List Line) → GoodAt at → reaches M claims s at ≡ true → At v s a → Continues v (loops_at words at) more → accepts M None a ((from_word words at).lines ++ more) ≡ true
  reached at v s a more good reaches is on =
      let t = there_of (claim claims at) (M.within s) reaches in
      good v t.0 a more t.1 (laws.eases v s t.0 a t.2 is) on

  -- from a branch that is taken
  way : (at target : ℕ) (v s a : M.State) (more : List Line) → ((j : ℕ) → at < j → GoodAt j) → LeadsForward words at target → At v s a → reaches M claims s target ≡ true
      → Continues v (loops_at words (at + 1)) more → accepts M (Some target) a ((from_word words (at + 1)).lines ++ more) ≡ true
  way at target v s a more later forward is reaches on =
      skip_to M target a ((from_word words (at + 1)).lines ++ more)
      ∙ (ap (accepts M None a) (led_on words nested at target more forward)
      ∙ reached target v s a more (later target forward.forward) reaches is (subst (λ (l : List ℕ). Continues v l more) (leads words nested at target forward).loops on))

  -- the turns of a loop that are still to come, and what follows
  turns_go : (v s r h : M.State) (head next turns : ℕ) (rest : List ℕ) (more : List Line)
      → GoodAt head → claim claims head ≡ Some h → claim claims next ≡ Some r → loops_at words head ≡ next ∷ rest
      → ((b : M.State) → Turned M At v s r turns b → accepts M None b more ≡ true)
      → ((b : M.State) (done : ℕ) → Turned M At v s r done b → 1 ≤ done → done < turns → At b h b)
      → (left done : ℕ) (b : M.State) → done + left ≡ turns → Turned M At v s r done b → (1 ≤ left → At b h b)
      → accepts M None b (repeated left (from_word words head).lines ++ more) ≡ true
  turns_go v s r h head next turns rest more good is_h is_r around ends again zero done b sum ran here =
      let all : done ≡ turns = omega (arith, sum) in
      ends b (subst (λ (k : ℕ). Turned M At v s r k b) all ran)
  turns_go v s r h head next turns rest more good is_h is_r around ends again (suc left) done b sum ran here =
      let body = (from_word words head).lines in
      let go_on = turns_go v s r h head next turns rest more good is_h is_r around ends again left (suc done) in
      ap (accepts M None b) (append_assoc body (repeated left body) more)
      ∙ good b h b (repeated left body ++ more) is_h (here (omega arith))
      (subst (λ (l : List ℕ). Continues b l (repeated left body ++ more)) (sym around)
      (λ r2 b2 e2 at2.
      let same : r2 ≡ r = (let both : Some r2 ≡ Some r = sym e2 ∙ is_r in cc) in
      let ran2 = turned done b b2 ran (subst (λ (x : M.State). At b x b2) same at2) in
      go_on b2 (omega (arith, sum)) ran2 (λ some. again b2 (suc done) ran2 (omega arith) (omega (arith, sum, some)))))

  -- a loop
  loop_goes : (v s a : M.State) (head next turns : ℕ) (rest : List ℕ) (more : List Line)
      → GoodAt head → GoodAt (next + 1) → loops_at words head ≡ next ∷ rest → loops_at words (next + 1) ≡ rest → 1 ≤ turns
      → loop_holds M claims s turns head (Some next) ≡ true → At v s a → Continues v rest more
      → accepts M None a (repeated turns (from_word words head).lines ++ ((from_word words (next + 1)).lines ++ more)) ≡ true
  loop_goes v s a head next turns rest more good good_after around around_after some held is on =
      let parts = and_parts _ _ held in
      let h = there_of (claim claims head) (M.within (M.head s)) parts.0 in
      let at_head : At a h.0 a = laws.eases a (M.head s) h.0 a h.2 (laws.enters v s a is) in
      ends (claim claims next) refl h.0 h.1 at_head parts.1
    where
      -- no way leads to the end of the turn: so the first turn is all that is walked
      never : (h : M.State) → claim claims next ≡ None → claim claims head ≡ Some h → At a h a → (n : ℕ) → 1 ≤ n → accepts M None a (repeated n (from_word words head).lines ++ ((from_word words (next + 1)).lines ++ more)) ≡ true
      never h none is_h at_head zero one = absurd (omega (arith, one))
      never h none is_h at_head (suc n) one =
          ap (accepts M None a) (append_assoc (from_word words head).lines (repeated n (from_word words head).lines) ((from_word words (next + 1)).lines ++ more))
          ∙ good a h a (repeated n (from_word words head).lines ++ ((from_word words (next + 1)).lines ++ more)) is_h at_head
          (subst (λ (l : List ℕ). Continues a l (repeated n (from_word words head).lines ++ ((from_word words (next + 1)).lines ++ more))) (sym around)
          (λ r b e at2. let clash : Some r ≡ None = sym e ∙ none in absurd cc))

      ends : (o : Option M.State) → claim claims next ≡ o → (h : M.State) → claim claims head ≡ Some h → At a h a → turns_hold M claims s turns head next o ≡ true → accepts M None a (repeated turns (from_word words head).lines ++ ((from_word words (next + 1)).lines ++ more)) ≡ true
      ends None none h is_h at_head hold = never h none is_h at_head turns some
      ends (Some r) is_r h is_h at_head hold =
          let parts = and_parts _ _ hold in
          turns_go v s r h head next turns rest ((from_word words (next + 1)).lines ++ more) good is_h is_r around
          (λ b ran. reached (next + 1) v (M.after s r turns) b more good_after parts.1 (laws.leaves v s r b turns some ran) (subst (λ (l : List ℕ). Continues v l more) (sym around_after) on))
          (λ b done ran one few.
          let several : 2 ≤ turns = omega (arith, one, few) in
          let t = there_of (claim claims head) (M.within (M.heads s r turns)) (or_right _ _ parts.0 (not_one turns several)) in
          let same : t.0 ≡ h = (let both : Some t.0 ≡ Some h = sym t.1 ∙ is_h in cc) in
          subst (λ (x : M.State). At b x b) same (laws.eases b (M.heads s r turns) t.0 b t.2 (laws.again v s r b turns done ran one few)))
          turns 0 a (omega arith) (entered a is) (λ one. at_head)

  word_goes : (at : ℕ) (word : Word) (v s a : M.State) (more : List Line) → ((j : ℕ) → at < j → GoodAt j) → StandsIn words at word
      → claim claims at ≡ Some s → At v s a → word_holds M words claims at s word ≡ true → Continues v (loops_before at (loops_at words (at + 1)) word) more
      → accepts M None a ((word_before (line_of at word) (from_word words (at + 1)) word).lines ++ more) ≡ true
  word_goes at (End code) v s a more later stands claimed is held on =
      let t = some_of (M.step s (End code)) held in
      let b = laws.steps v s a t.0 (End code) is t.1 in
      ap (λ (o : Option M.State). is_some o) b.1
  word_goes at (BranchOnStatus mask target) v s a more later stands claimed is held on =
      let parts = and_parts _ _ held in
      let ways = and_parts _ _ parts.1 in
      and_from _ _ (laws.polls v s a is parts.0)
      (and_from _ _ (reached (at + 1) v s a more (later (at + 1) (omega arith)) ways.0 is on)
      (way at target v s a more later stands is ways.1 on))
  word_goes at (Jump target) v s a more later stands claimed is held on = way at target v s a more later stands is held on
  word_goes at (Loop turns) v s a more later stands claimed is held on = choose (loops_at words (at + 1)) refl held on
    where
      -- the lines of a loop, and what follows it
      lines_of : (o : List (List Line)) (behind : List Line) (outer : List (List Line)) → o ≡ behind ∷ outer
          → accepts M None a (repeated turns (from_word words (at + 1)).lines ++ (behind ++ more)) ≡ true
          → accepts M None a ((looped (line_of at (Loop turns)) turns (from_word words (at + 1)).lines o).lines ++ more) ≡ true
      lines_of [] behind outer e h = absurd cc
      lines_of (rest ∷ o) behind outer e h =
          let same : rest ≡ behind = cc in
          ap (accepts M None a) (append_assoc (repeated turns (from_word words (at + 1)).lines) rest more)
          ∙ (ap (λ (x : List Line). accepts M None a (repeated turns (from_word words (at + 1)).lines ++ (x ++ more))) same ∙ h)

      choose : (around : List ℕ) → loops_at words (at + 1) ≡ around → loop_holds M claims s turns (at + 1) (first_of around) ≡ true → Continues v (loops_before at around (Loop turns)) more
          → accepts M None a ((looped (line_of at (Loop turns)) turns (from_word words (at + 1)).lines (from_word words (at + 1)).outer).lines ++ more) ≡ true
      choose [] e hold on2 = absurd cc
      choose (next ∷ rest) e hold on2 =
          let c = closes (length words) words (at + 1) next rest (omega arith) e in
          lines_of (from_word words (at + 1)).outer (from_word words (next + 1)).lines (from_word words (next + 1)).outer c.outer
          (loop_goes v s a (at + 1) next turns rest more (later (at + 1) (omega arith)) (later (next + 1) (let b = c.behind in omega (arith, b))) e c.loops stands.some hold is on2)
  word_goes at Next v s a more later stands claimed is held on = on s a claimed is
  word_goes at word v s a more later stands claimed is held on =
      let t = there_of (M.step s word) (λ u. reaches M claims u (at + 1)) held in
      let b = laws.steps v s a t.0 word is t.1 in
      ap (λ (o : Option M.State). if_there o (λ u. accepts M None u ((from_word words (at + 1)).lines ++ more))) b.1
      ∙ reached (at + 1) v t.0 b.0 more (later (at + 1) (omega arith)) t.2 b.2 on

  all_good : length words ≡ length claims → all_hold M words claims 0 words ≡ true → (fuel at : ℕ) → length words ≤ at + fuel → GoodAt at
  all_good same held zero at few v s a more claimed is on =
      let inside = claimed_inside claims at s claimed in absurd (omega (arith, inside, few, same))
  all_good same held (suc fuel) at few v s a more claimed is on =
      let inside = claimed_inside claims at s claimed in
      let word = word_here words at (omega (arith, inside, same)) in
      let first : 0 + at ≡ at = omega arith in
      let here : holds M words claims at (claim claims at) word.0 ≡ true = rw first at (holds_at M words claims 0 words held at word.0 word.1) in
      ap (λ (x : Unrolling). accepts M None a (x.lines ++ more)) (unrolled_here words at word.0 word.1)
      ∙ word_goes at word.0 v s a more (λ j lt. all_good same held fuel j (omega (arith, few, lt))) (nested.stands at word.0 word.1) claimed is
      (subst (λ (o : Option M.State). holds M words claims at o word.0 ≡ true) claimed here)
      (subst (λ (l : List ℕ). Continues v l more) (loops_here words at word.0 word.1) on)

-- 5. the theorem

same_number : (a b : ℕ) → (a == b) ≡ true → a ≡ b
same_number a b h = grind (arith, nat_tests)

append_none : (lines : List Line) → lines ++ [] ≡ lines
append_none [] = refl
append_none (line ∷ lines) = ap (λ (x : List Line). line ∷ x) (append_none lines)

pub certified_is_accepted : (M : Machine) (At : M.State → M.State → M.State → Type 0) → Laws M At → CertifiedIsAccepted M
unfolding unrolled
certified_is_accepted M At laws words claims nested h =
    let parts = and_parts (length words == length claims) (reaches M claims M.first 0 && all_hold M words claims 0 words) h in
    let ways = and_parts (reaches M claims M.first 0) (all_hold M words claims 0 words) parts.1 in
    let same = same_number (length words) (length claims) parts.0 in
    ap (accepts M None M.first) (sym (append_none (unrolling words 0).lines))
    ∙ reached M At laws words nested claims 0 M.first M.first M.first [] (all_good M At laws words nested claims same ways.1 (length words) 0 (omega arith)) ways.0 laws.begins
    (subst (λ (l : List ℕ). Continues M At laws words nested claims M.first l []) (sym nested.paired) tt)
