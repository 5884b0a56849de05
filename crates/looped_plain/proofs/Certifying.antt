-- Claims along the words of a loop are its certificate.
use Rattle.std.proofs.Common.{◌≡◌, ℕ, ◌+◌, Bool, true, ◌&&◌, ◌||◌, cond, List, [], ◌∷◌, ◌++◌, Option, Some, None, refl, sym, ap, ◌∙◌, subst, arith, length}
use Rattle.std.specs.Prelude.{is_none, is_some, nat_le}
use Rattle.std.proofs.lemmas.Bool.{and_from, and_parts}
use Rattle.nand_geometry.specs.declared.parts.Parts.{Parts}
use Rattle.micro_word.specs.declared.word.Word.{Word}
use Rattle.micro_word.specs.declared.word.Word.TheVariants.{End, BranchOnStatus, Loop, Next, Jump}
use Rattle.micro_program.specs.Nested.{loops, closer, first_of}
use Rattle.micro_claims.specs.declared.state.State.{State}
use Rattle.micro_claims.specs.declared.bounds.Bounds.{Bounds}
use Rattle.micro_claims.specs.State.{first_state}
use Rattle.micro_claims.specs.Reasons.{reason_against}
use Rattle.micro_claims.specs.Accepts.{state_after}
use Rattle.micro_claims.specs.Certificate.{claim, if_there, reaches, turns_hold, loop_holds, word_holds, holds, all_hold}
use Rattle.micro_claims.specs.Order.{machine, is_state_within, state_at_head, state_at_heads, state_after_turns, state_step}
use Rattle.micro_claims.specs.Joins.{joined}
use Rattle.micro_walk.specs.Faults.{met}
use Rattle.looped_plain.proofs.Through.{within_itself, within_met, within_second}
use Rattle.looped_plain.proofs.Walks.{AreInside, is_placed, ended, Along, went}

-- a way that leads to a place claims no less than what all claim there
arrived : (f : Option State) (s : State) → is_placed s ≡ true → is_state_within s (met f s) ≡ true
arrived None s h = within_itself s h
arrived (Some t) s h = within_second t s

-- and so it does once more ways have led there
keeps : (g : Parts) (b : Bounds) (ws : List Word) (s q p r : State) → ended g b s (Some q) ws ≡ Some r → is_state_within p q ≡ true → is_state_within p r ≡ true
keeps g b [] s q p r h within =
    let is : Some (joined q s) ≡ Some r = (went (is_placed s) (Some (joined q s)) r h).1 in
    let same : joined q s ≡ r = cc in
    subst (λ (t : State). is_state_within p t ≡ true) same (within_met p q s within)
keeps g b (BranchOnStatus mask target ∷ ws) s q p r h within =
    keeps g b ws s (joined q s) p r (went (is_placed s && s.registers.polled) (ended g b s (Some (joined q s)) ws) r h).1 (within_met p q s within)
keeps g b (w ∷ ws) s q p r h within = keeps g b ws (state_after g s w) q p r (went (is_placed s && is_none (reason_against g b s w)) (ended g b (state_after g s w) (Some q) ws) r h).1 within

reaches_by : (g : Parts) (b : Bounds) (claims : List (Option State)) (s t : State) (at : ℕ) → claim claims at ≡ Some t → is_state_within s t ≡ true → reaches (machine g b) claims s at ≡ true
reaches_by g b claims s t at there within = ap (λ (o : Option State). if_there o (is_state_within s)) there ∙ within

-- where the words are entered
arrives : (g : Parts) (b : Bounds) (claims : List (Option State)) (ws : List Word) (at last : ℕ) (s : State) (f : Option State) (r : State) → at + length ws ≡ last → Along g claims at s ws → claim claims last ≡ Some r → ended g b s f ws ≡ Some r → reaches (machine g b) claims s at ≡ true
arrives g b claims [] at last s f r long along ends h =
    let e : last ≡ at = omega (arith, long) in
    let parts = went (is_placed s) (Some (met f s)) r h in
    let is = parts.1 in
    let same : met f s ≡ r = cc in
    reaches_by g b claims s r at (subst (λ (q : ℕ). claim claims q ≡ Some r) e ends) (subst (λ (t : State). is_state_within s t ≡ true) same (arrived f s parts.0))
arrives g b claims (BranchOnStatus mask target ∷ ws) at last s f r long along ends h =
    let parts = went (is_placed s && s.registers.polled) (ended g b s (Some (met f s)) ws) r h in
    reaches_by g b claims s s at along.0 (within_itself s (and_parts (is_placed s) s.registers.polled parts.0).0)
arrives g b claims (w ∷ ws) at last s f r long along ends h =
    let parts = went (is_placed s && is_none (reason_against g b s w)) (ended g b (state_after g s w) f ws) r h in
    reaches_by g b claims s s at along.0 (within_itself s (and_parts (is_placed s) (is_none (reason_against g b s w)) parts.0).0)

-- a word that leads on
straight_holds : (g : Parts) (b : Bounds) (words : List Word) (claims : List (Option State)) (at : ℕ) (s : State) (w : Word)
    → word_holds (machine g b) words claims at s w ≡ if_there (state_step g b s w) (λ t. reaches (machine g b) claims t (at + 1))
    → is_none (reason_against g b s w) ≡ true → reaches (machine g b) claims (state_after g s w) (at + 1) ≡ true → word_holds (machine g b) words claims at s w ≡ true
unfolding state_step
straight_holds g b words claims at s w is none on =
    is ∙ (ap (λ (t : Bool). if_there (cond t (Some (state_after g s w)) None) (λ t. reaches (machine g b) claims t (at + 1))) none ∙ on)

holds_there : (g : Parts) (b : Bounds) (words : List Word) (claims : List (Option State)) (at : ℕ) (s : State) (w : Word) → claim claims at ≡ Some s → word_holds (machine g b) words claims at s w ≡ true → holds (machine g b) words claims at (claim claims at) w ≡ true
holds_there g b words claims at s w there h = ap (λ (o : Option State). holds (machine g b) words claims at o w) there ∙ h

-- the words of the loop, and what stands behind them
body_holds : (g : Parts) (b : Bounds) (words : List Word) (claims : List (Option State)) (ws more : List Word) (at last : ℕ) (s : State) (f : Option State) (r : State) → at + length ws ≡ last → AreInside last ws → Along g claims at s ws → claim claims last ≡ Some r → ended g b s f ws ≡ Some r
    → all_hold (machine g b) words claims last more ≡ true → all_hold (machine g b) words claims at (ws ++ more) ≡ true
body_holds g b words claims [] more at last s f r long inside along ends h on = let e : last ≡ at = omega (arith, long) in subst (λ (q : ℕ). all_hold (machine g b) words claims q more ≡ true) e on
body_holds g b words claims (End code ∷ ws) more at last s f r long inside along ends h on = absurd inside
body_holds g b words claims (Loop turns ∷ ws) more at last s f r long inside along ends h on = absurd inside
body_holds g b words claims (Next ∷ ws) more at last s f r long inside along ends h on = absurd inside
body_holds g b words claims (Jump target ∷ ws) more at last s f r long inside along ends h on = absurd inside
body_holds g b words claims (BranchOnStatus mask target ∷ ws) more at last s f r long inside along ends h on =
    let parts = went (is_placed s && s.registers.polled) (ended g b s (Some (met f s)) ws) r h in
    let tests = and_parts (is_placed s) s.registers.polled parts.0 in
    let next = arrives g b claims ws (at + 1) last s (Some (met f s)) r (omega (arith, long)) along.1 ends parts.1 in
    let there = reaches_by g b claims s r last ends (keeps g b ws s (met f s) s r parts.1 (arrived f s tests.0)) in
    and_from _ _
    (holds_there g b words claims at s (BranchOnStatus mask target) along.0
    (and_from _ _ tests.1 (and_from _ _ next (subst (λ (q : ℕ). reaches (machine g b) claims s q ≡ true) (sym inside.0) there))))
    (body_holds g b words claims ws more (at + 1) last s (Some (met f s)) r (omega (arith, long)) inside.1 along.1 ends parts.1 on)
body_holds g b words claims (w ∷ ws) more at last s f r long inside along ends h on =
    let t = state_after g s w in
    let parts = went (is_placed s && is_none (reason_against g b s w)) (ended g b t f ws) r h in
    let tests = and_parts (is_placed s) (is_none (reason_against g b s w)) parts.0 in
    let next = arrives g b claims ws (at + 1) last t f r (omega (arith, long)) along.1 ends parts.1 in
    and_from _ _
    (holds_there g b words claims at s w along.0 (straight_holds g b words claims at s w refl tests.1 next))
    (body_holds g b words claims ws more (at + 1) last t f r (omega (arith, long)) inside along.1 ends parts.1 on)

-- ---- the loop

-- what is claimed of a loop of words, its head being H, its `next` r and what is behind it A
pub record Claimed (g : Parts) (ws : List Word) (turns last : ℕ) (claims : List (Option State)) (h r : State) : Type 0 where
  pub long : length claims ≡ last + 1 + 1
  pub first : claim claims 0 ≡ Some first_state
  pub head : claim claims 1 ≡ Some h
  pub along : Along g claims 1 h ws
  pub ends : claim claims last ≡ Some r
  pub after : claim claims (last + 1) ≡ Some (state_after_turns first_state r turns)

-- what a certificate asks of these states
pub record Turns (g : Parts) (b : Bounds) (ws : List Word) (turns : ℕ) (h r : State) : Type 0 where
  pub ended : ended g b h None ws ≡ Some r
  pub enters : is_state_within (state_at_head first_state) h ≡ true
  pub again : (nat_le turns 1 || is_state_within (state_at_heads first_state r turns) h) ≡ true
  pub placed : is_placed (state_after_turns first_state r turns) ≡ true
  pub ready : is_none (reason_against g b (state_after_turns first_state r turns) (End 0)) ≡ true

end_steps : (g : Parts) (b : Bounds) (s : State) → is_none (reason_against g b s (End 0)) ≡ true → is_some (state_step g b s (End 0)) ≡ true
unfolding state_step
end_steps g b s h = ap (λ (t : Bool). is_some (cond t (Some (state_after g s (End 0))) None)) h

pub loop_is_certified : (g : Parts) (b : Bounds) (words : List Word) (claims : List (Option State)) (ws : List Word) (turns last : ℕ) (h r : State) → 1 + length ws ≡ last → AreInside last ws → closer words 1 ≡ Some last
    → Claimed g ws turns last claims h r → Turns g b ws turns h r → all_hold (machine g b) words claims 0 (Loop turns ∷ (ws ++ (Next ∷ (End 0 ∷ [])))) ≡ true
loop_is_certified g b words claims ws turns last h r long inside closed c t =
    let a = state_after_turns first_state r turns in
    let m = machine g b in
    let at_head = reaches_by g b claims (state_at_head first_state) h 1 c.head t.enters in
    let behind = reaches_by g b claims a a (last + 1) c.after (within_itself a t.placed) in
    let later : (nat_le turns 1 || reaches m claims (state_at_heads first_state r turns) 1) ≡ true =
    ap (λ (o : Option State). nat_le turns 1 || if_there o (is_state_within (state_at_heads first_state r turns))) c.head ∙ t.again in
    let turned : turns_hold m claims first_state turns 1 last (claim claims last) ≡ true =
    ap (λ (o : Option State). turns_hold m claims first_state turns 1 last o) c.ends ∙ and_from _ _ later behind in
    let loops : loop_holds m claims first_state turns 1 (closer words 1) ≡ true =
    ap (λ (o : Option ℕ). loop_holds m claims first_state turns 1 o) closed ∙ and_from _ _ at_head turned in
    let end : all_hold m words claims (last + 1) (End 0 ∷ []) ≡ true = and_from _ _ (holds_there g b words claims (last + 1) a (End 0) c.after (end_steps g b a t.ready)) refl in
    let next : all_hold m words claims last (Next ∷ (End 0 ∷ [])) ≡ true = and_from _ _ (holds_there g b words claims last r Next c.ends refl) end in
    and_from _ _ (holds_there g b words claims 0 first_state (Loop turns) c.first loops)
    (body_holds g b words claims ws (Next ∷ (End 0 ∷ [])) 1 last h None r long inside c.along c.ends t.ended next)

-- ---- the loop around its words

pub around_words : (ws more : List Word) (at last to : ℕ) → at + length ws ≡ last → AreInside to ws → loops (ws ++ more) at ≡ loops more last
around_words [] more at last to long inside = let e : at ≡ last = omega (arith, long) in ap (loops more) e
around_words (End code ∷ ws) more at last to long inside = absurd inside
around_words (Loop turns ∷ ws) more at last to long inside = absurd inside
around_words (Next ∷ ws) more at last to long inside = absurd inside
around_words (Jump target ∷ ws) more at last to long inside = absurd inside
around_words (BranchOnStatus mask target ∷ ws) more at last to long inside = around_words ws more (at + 1) last to (omega (arith, long)) inside.1
around_words (w ∷ ws) more at last to long inside = around_words ws more (at + 1) last to (omega (arith, long)) inside

-- a loop of words, and then the end
abbrev pub looped : (turns : ℕ) → List Word → List Word
looped turns ws = Loop turns ∷ (ws ++ (Next ∷ (End 0 ∷ [])))

pub closes : (turns : ℕ) (ws : List Word) (last : ℕ) → 1 + length ws ≡ last → AreInside last ws → closer (looped turns ws) 1 ≡ Some last
closes turns ws last long inside = ap first_of (around_words ws (Next ∷ (End 0 ∷ [])) 1 last last long inside)
