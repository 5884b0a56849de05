-- The search over straight words and branches that all lead to the word behind them.
use Rattle.std.proofs.Common.{◌≡◌, ℕ, zero, suc, ◌+◌, ◌<◌, ◌≤◌, Bool, true, false, ◌&&◌, nat_lt, cond, List, [], ◌∷◌, ◌++◌, Option, Some, None, refl, sym, ap, ◌∙◌, subst, arith, length}
use Rattle.std.specs.Prelude.{is_none}
use Rattle.std.specs.List.{slice_get}
use Rattle.std.proofs.lemmas.List.{length-set}
use Rattle.std.proofs.lemmas.Bool.{and_parts}
use Rattle.std.proofs.lemmas.Bool.Decides.{nat_tests}
use Rattle.nand_geometry.specs.declared.parts.Parts.{Parts}
use Rattle.micro_word.specs.declared.word.Word.{Word}
use Rattle.micro_word.specs.declared.word.Word.TheVariants.{End, BranchOnStatus, Loop, Next, Jump}
use Rattle.micro_program.specs.Moves.{and_then}
use Rattle.micro_claims.specs.declared.state.State.{State}
use Rattle.micro_claims.specs.declared.bounds.Bounds.{Bounds}
use Rattle.micro_claims.specs.Reasons.{reason_against}
use Rattle.micro_claims.specs.Accepts.{state_after}
use Rattle.micro_claims.specs.Certificate.{claim}
use Rattle.micro_claims.specs.Order.{is_place_within}
use Rattle.micro_walk.specs.Faults.{met, reached}
use Rattle.micro_walk.specs.Searched.{Loops, Search, led_to, led_by, led_on, stepped, at_end_or, searched}
use Rattle.micro_walk.proofs.Ahead.{claim_there, claim_elsewhere}

-- ---- straight words and branches

-- no loop and no end is among them, and each branch leads to `last`
abbrev pub AreInside : (last : ℕ) → List Word → Type 0
AreInside last [] = Unit {0}
AreInside last (End code ∷ rest) = ⊥
AreInside last (BranchOnStatus mask target ∷ rest) = (target ≡ last) × AreInside last rest
AreInside last (Loop turns ∷ rest) = ⊥
AreInside last (Next ∷ rest) = ⊥
AreInside last (Jump target ∷ rest) = ⊥
AreInside last (word ∷ rest) = AreInside last rest

-- the place of its sequence is a known one
abbrev pub is_placed : State → Bool
is_placed s = is_place_within s.target.tail s.target.tail

-- what all ways claim behind the words, from a state, where `f` is claimed there before; None where something is against a word
abbrev pub ended : Parts → Bounds → State → (f : Option State) → List Word → Option State
ended g b s f [] = cond (is_placed s) (Some (met f s)) None
ended g b s f (BranchOnStatus mask target ∷ rest) = cond (is_placed s && s.registers.polled) (ended g b s (Some (met f s)) rest) None
ended g b s f (word ∷ rest) = cond (is_placed s && is_none (reason_against g b s word)) (ended g b (state_after g s word) f rest) None

-- what is claimed before each of them
abbrev pub Along : Parts → List (Option State) → (at : ℕ) → State → List Word → Type 0
Along g claims at s [] = Unit {0}
Along g claims at s (BranchOnStatus mask target ∷ rest) = (claim claims at ≡ Some s) × Along g claims (at + 1) s rest
Along g claims at s (word ∷ rest) = (claim claims at ≡ Some s) × Along g claims (at + 1) (state_after g s word) rest

-- what is claimed of the first of them
pub along_first : (g : Parts) (claims : List (Option State)) (at : ℕ) (s : State) (w : Word) (ws : List Word) → Along g claims at s (w ∷ ws) → claim claims at ≡ Some s
along_first g claims at s (BranchOnStatus mask target) ws h = h.0
along_first g claims at s w ws h = h.0

-- other claims, that are the same before `last`
pub along_same : (g : Parts) (claims others : List (Option State)) (ws : List Word) (at last : ℕ) (s : State) → at + length ws ≡ last → ((p : ℕ) → p < last → claim others p ≡ claim claims p) → Along g claims at s ws → Along g others at s ws
along_same g claims others [] at last s long same h = tt
along_same g claims others (BranchOnStatus mask target ∷ ws) at last s long same h = (same at (omega (arith, long)) ∙ h.0, along_same g claims others ws (at + 1) last s (omega (arith, long)) same h.1)
along_same g claims others (w ∷ ws) at last s long same h = (same at (omega (arith, long)) ∙ h.0, along_same g claims others ws (at + 1) last (state_after g s w) (omega (arith, long)) same h.1)

pub went : (b : Bool) (o : Option State) (r : State) → cond b o None ≡ Some r → (b ≡ true) × (o ≡ Some r)
went true o r h = (refl, h)
went false o r h = absurd cc

-- ---- the words of a text

-- from a place on they are these
abbrev pub Has : List Word → (at : ℕ) → List Word → Type 0
Has words at ws = (i : ℕ) → slice_get words (at + i) ≡ slice_get ws i

pub has_first : (words : List Word) (at : ℕ) (w : Word) (ws : List Word) → Has words at (w ∷ ws) → slice_get words at ≡ Some w
has_first words at w ws h = let e : at + 0 ≡ at = omega arith in subst (λ (n : ℕ). slice_get words n ≡ Some w) e (h 0)

pub has_rest : (words : List Word) (at : ℕ) (w : Word) (ws : List Word) → Has words at (w ∷ ws) → Has words (at + 1) ws
has_rest words at w ws h i = let e : at + suc i ≡ at + 1 + i = omega arith in subst (λ (n : ℕ). slice_get words n ≡ slice_get ws i) e (h (suc i))

-- ---- steps

-- as many steps as words, and then more
abbrev pub steps_over : List Word → ℕ → ℕ
steps_over [] k = k
steps_over (word ∷ ws) k = suc (steps_over ws k)

abbrev pub at_place : (at depth : ℕ) → Loops → List (Option State) → Search
at_place at depth loops claims = record { walk = record { at = at; depth = depth; loops = loops }; claims = claims }

pub one_on : (g : Parts) (b : Bounds) (words : List Word) (n : ℕ) (s t : Search) (w : Word) → slice_get words s.walk.at ≡ Some w → stepped g b w s ≡ Some t → searched g b words (suc n) s ≡ searched g b words n t
one_on g b words n s t w there is =
    ap (λ (o : Option Word). at_end_or o s.claims (λ word. and_then (stepped g b word s) (searched g b words n))) there
    ∙ ap (λ (o : Option Search). and_then o (searched g b words n)) is

-- a word leads on
abbrev leads : Parts → Bounds → Word → Search → Option Search
leads g b w s = cond (nat_lt s.walk.at (length s.claims)) (led_on s.walk (led_by g b s.claims s.walk.at (claim s.claims s.walk.at) w)) None

leads_to : (g : Parts) (b : Bounds) (w : Word) (at depth : ℕ) (loops : Loops) (claims after : List (Option State)) (s : State) → at < length claims → claim claims at ≡ Some s → led_to g b claims at s w ≡ Some after → leads g b w (at_place at depth loops claims) ≡ Some (at_place (at + 1) depth loops after)
leads_to g b w at depth loops claims after s inside here led =
    let test : nat_lt at (length claims) ≡ true = grind (arith, nat_tests, inside) in
    ap (λ (t : Bool). cond t (led_on (record { at = at; depth = depth; loops = loops }) (led_by g b claims at (claim claims at) w)) None) test
    ∙ (ap (λ (o : Option State). led_on (record { at = at; depth = depth; loops = loops }) (led_by g b claims at o w)) here
    ∙ ap (led_on (record { at = at; depth = depth; loops = loops })) led)

-- ---- claims

-- what is claimed of places, from `at` up to `last`: nothing yet, but of the last one
pub record Opens (claims : List (Option State)) (at last : ℕ) (f : Option State) : Type 0 where
  pub inside : last < length claims
  pub between : (p : ℕ) → at ≤ p → p < last → claim claims p ≡ None
  pub failed : claim claims last ≡ f

pub reached_long : (claims : List (Option State)) (at : ℕ) (s : State) → length (reached claims at s) ≡ length claims
reached_long claims at s = length-set claims at (Some (met (claim claims at) s))

pub reached_there : (claims : List (Option State)) (at : ℕ) (s : State) (f : Option State) → at < length claims → claim claims at ≡ f → claim (reached claims at s) at ≡ Some (met f s)
reached_there claims at s f inside e = claim_there claims at (Some (met (claim claims at) s)) inside ∙ ap (λ (o : Option State). Some (met o s)) e

pub reached_elsewhere : (claims : List (Option State)) (at p : ℕ) (s : State) → ((at ≡ p) → ⊥) → claim (reached claims at s) p ≡ claim claims p
reached_elsewhere claims at p s other = claim_elsewhere claims at p (Some (met (claim claims at) s)) other

-- two places that are reached with one state, in either order
reached_both : (claims : List (Option State)) (p q : ℕ) (s : State) → reached (reached claims p s) q s ≡ reached (reached claims q s) p s
reached_both [] p q s = refl
reached_both (o ∷ claims) zero zero s = refl
reached_both (o ∷ claims) zero (suc q) s = refl
reached_both (o ∷ claims) (suc p) zero s = refl
reached_both (o ∷ claims) (suc p) (suc q) s = ap (λ (cs : List (Option State)). o ∷ cs) (reached_both claims p q s)

-- ---- the walk

pub record Walks (g : Parts) (b : Bounds) (words : List Word) (depth : ℕ) (loops : Loops) (k : ℕ) (claims : List (Option State)) (at last : ℕ) (s : State) (ws : List Word) (r : State) : Type 0 where
  pub after : List (Option State)
  pub walked : searched g b words (steps_over ws k) (at_place at depth loops (reached claims at s)) ≡ searched g b words k (at_place last depth loops after)
  pub along : Along g after at s ws
  pub ends : claim after last ≡ Some r
  pub before : (p : ℕ) → p < at → claim after p ≡ claim claims p
  pub behind : (p : ℕ) → last < p → claim after p ≡ claim claims p
  pub long : length after ≡ length claims

-- what was claimed where a word leads, before it is reached from the word
record Leads (claims : List (Option State)) (at last : ℕ) (s : State) (f : Option State) (between : List (Option State)) : Type 0 where
  here : claim between at ≡ Some s
  before : (p : ℕ) → p < at → claim between p ≡ claim claims p
  behind : (p : ℕ) → last < p → claim between p ≡ claim claims p
  long : length between ≡ length claims
  opens : Opens between (at + 1) last f

leads_on : (claims : List (Option State)) (at last : ℕ) (s : State) (f : Option State) → Opens claims at last f → at < last → Leads claims at last s f (reached claims at s)
leads_on claims at last s f d less =
    let inside = d.inside in
    record {
      here = reached_there claims at s None (omega (arith, inside, less)) (d.between at (omega arith) less);
      before = λ p before. reached_elsewhere claims at p s (λ e. omega (arith, e, before));
      behind = λ p behind. reached_elsewhere claims at p s (λ e. omega (arith, e, behind, less));
      long = reached_long claims at s;
      opens = record {
        inside = (let long = reached_long claims at s in omega (arith, long, inside));
        between = λ p from before. reached_elsewhere claims at p s (λ e. omega (arith, e, from)) ∙ d.between p (omega (arith, from)) before;
        failed = reached_elsewhere claims at last s (λ e. omega (arith, e, less)) ∙ d.failed;
      };
    }

leads_twice : (claims between : List (Option State)) (at last : ℕ) (s : State) (f : Option State) → Leads claims at last s f between → at < last → Leads claims at last s (Some (met f s)) (reached between last s)
leads_twice claims between at last s f l less =
    record {
      here = reached_elsewhere between last at s (λ e. omega (arith, e, less)) ∙ l.here;
      before = λ p before. reached_elsewhere between last p s (λ e. omega (arith, e, before, less)) ∙ l.before p before;
      behind = λ p behind. reached_elsewhere between last p s (λ e. omega (arith, e, behind)) ∙ l.behind p behind;
      long = reached_long between last s ∙ l.long;
      opens = record {
        inside = (let long = reached_long between last s in let inside = l.opens.inside in omega (arith, long, inside));
        between = λ p from before. reached_elsewhere between last p s (λ e. omega (arith, e, before)) ∙ l.opens.between p from before;
        failed = reached_there between last s f l.opens.inside l.opens.failed;
      };
    }

-- a word in front of words that are walked
in_front : (g : Parts) (b : Bounds) (words : List Word) (depth : ℕ) (loops : Loops) (k : ℕ) (claims between : List (Option State)) (at last : ℕ) (s t : State) (f : Option State) (w : Word) (ws : List Word) (r : State)
    → slice_get words at ≡ Some w → Leads claims at last s f between → at < last
    → stepped g b w (at_place at depth loops (reached claims at s)) ≡ Some (at_place (at + 1) depth loops (reached between (at + 1) t))
    → (d : Walks g b words depth loops k between (at + 1) last t ws r)
    → ((after : List (Option State)) → claim after at ≡ Some s → Along g after (at + 1) t ws → Along g after at s (w ∷ ws))
    → Walks g b words depth loops k claims at last s (w ∷ ws) r
in_front g b words depth loops k claims between at last s t f w ws r there l less step d joins =
    record {
      after = d.after;
      walked = one_on g b words (steps_over ws k) (at_place at depth loops (reached claims at s)) (at_place (at + 1) depth loops (reached between (at + 1) t)) w there step ∙ d.walked;
      along = joins d.after (d.before at (omega arith) ∙ l.here) d.along;
      ends = d.ends;
      before = λ p before. d.before p (omega (arith, before)) ∙ l.before p before;
      behind = λ p behind. d.behind p behind ∙ l.behind p behind;
      long = d.long ∙ l.long;
    }

nothing_left : (g : Parts) (b : Bounds) (words : List Word) (depth : ℕ) (loops : Loops) (k : ℕ) (claims : List (Option State)) (last : ℕ) (s : State) (f : Option State) (r : State) → Opens claims last last f → cond (is_placed s) (Some (met f s)) None ≡ Some r → Walks g b words depth loops k claims last last s [] r
nothing_left g b words depth loops k claims last s f r d h =
    record {
      after = reached claims last s;
      walked = refl;
      along = tt;
      ends = reached_there claims last s f d.inside d.failed ∙ (went (is_placed s) (Some (met f s)) r h).1;
      before = λ p before. reached_elsewhere claims last p s (λ e. omega (arith, e, before));
      behind = λ p behind. reached_elsewhere claims last p s (λ e. omega (arith, e, behind));
      long = reached_long claims last s;
    }

-- over a word that leads on
straight_on : (g : Parts) (b : Bounds) (words : List Word) (depth : ℕ) (loops : Loops) (claims : List (Option State)) (at last : ℕ) (s : State) (f : Option State) (w : Word) → Opens claims at last f → at < last
    → is_none (reason_against g b s w) ≡ true
    → (led_to g b (reached claims at s) at s w ≡ cond (is_none (reason_against g b s w)) (Some (reached (reached claims at s) (at + 1) (state_after g s w))) None)
    → leads g b w (at_place at depth loops (reached claims at s)) ≡ Some (at_place (at + 1) depth loops (reached (reached claims at s) (at + 1) (state_after g s w)))
straight_on g b words depth loops claims at last s f w d less none led =
    let l = leads_on claims at last s f d less in
    let inside = d.inside in
    let long = l.long in
    leads_to g b w at depth loops (reached claims at s) (reached (reached claims at s) (at + 1) (state_after g s w)) s (omega (arith, long, inside, less)) l.here
    (led ∙ ap (λ (t : Bool). cond t (Some (reached (reached claims at s) (at + 1) (state_after g s w))) None) none)

branch_on : (g : Parts) (b : Bounds) (depth : ℕ) (loops : Loops) (claims : List (Option State)) (at last : ℕ) (s : State) (f : Option State) (mask target : ℕ) → Opens claims at last f → at < last → target ≡ last → s.registers.polled ≡ true
    → stepped g b (BranchOnStatus mask target) (at_place at depth loops (reached claims at s)) ≡ Some (at_place (at + 1) depth loops (reached (reached (reached claims at s) last s) (at + 1) s))
branch_on g b depth loops claims at last s f mask target d less leads polled =
    let l = leads_on claims at last s f d less in
    let inside = d.inside in
    let long = l.long in
    let c = reached claims at s in
    leads_to g b (BranchOnStatus mask target) at depth loops c (reached (reached c last s) (at + 1) s) s (omega (arith, long, inside, less)) l.here
    (ap (λ (t : Bool). cond t (Some (reached (reached c (at + 1) s) target s)) None) polled
    ∙ (ap (λ (q : ℕ). Some (reached (reached c (at + 1) s) q s)) leads
    ∙ ap (λ (cs : List (Option State)). Some cs) (reached_both c (at + 1) last s)))

pub body_walked : (g : Parts) (b : Bounds) (words : List Word) (depth : ℕ) (loops : Loops) (k : ℕ) (ws more : List Word) (at last : ℕ) (claims : List (Option State)) (s : State) (f : Option State) (r : State)
    → at + length ws ≡ last → Has words at (ws ++ more) → Opens claims at last f → AreInside last ws → ended g b s f ws ≡ Some r
    → Walks g b words depth loops k claims at last s ws r
body_walked g b words depth loops k [] more at last claims s f r long has d inside h =
    let e : last ≡ at = omega (arith, long) in
    let d2 = subst (λ (q : ℕ). Opens claims q last f) (sym e) d in
    subst (λ (q : ℕ). Walks g b words depth loops k claims q last s [] r) e (nothing_left g b words depth loops k claims last s f r d2 h)
body_walked g b words depth loops k (End code ∷ ws) more at last claims s f r long has d inside h = absurd inside
body_walked g b words depth loops k (Loop turns ∷ ws) more at last claims s f r long has d inside h = absurd inside
body_walked g b words depth loops k (Next ∷ ws) more at last claims s f r long has d inside h = absurd inside
body_walked g b words depth loops k (Jump target ∷ ws) more at last claims s f r long has d inside h = absurd inside
body_walked g b words depth loops k (BranchOnStatus mask target ∷ ws) more at last claims s f r long has d inside h =
    let w = BranchOnStatus mask target in
    let less : at < last = omega (arith, long) in
    let c = reached claims at s in
    let parts = went (is_placed s && s.registers.polled) (ended g b s (Some (met f s)) ws) r h in
    let polled = (and_parts (is_placed s) s.registers.polled parts.0).1 in
    let l = leads_twice claims c at last s f (leads_on claims at last s f d less) less in
    in_front g b words depth loops k claims (reached c last s) at last s s (Some (met f s)) w ws r
    (has_first words at w (ws ++ more) has) l less (branch_on g b depth loops claims at last s f mask target d less inside.0 polled)
    (body_walked g b words depth loops k ws more (at + 1) last (reached c last s) s (Some (met f s)) r (omega (arith, long)) (has_rest words at w (ws ++ more) has) l.opens inside.1 parts.1)
    (λ after here rest. (here, rest))
body_walked g b words depth loops k (w ∷ ws) more at last claims s f r long has d inside h =
    let less : at < last = omega (arith, long) in
    let c = reached claims at s in
    let t = state_after g s w in
    let parts = went (is_placed s && is_none (reason_against g b s w)) (ended g b t f ws) r h in
    let none = (and_parts (is_placed s) (is_none (reason_against g b s w)) parts.0).1 in
    let l = leads_on claims at last s f d less in
    in_front g b words depth loops k claims c at last s t f w ws r
    (has_first words at w (ws ++ more) has) l less (straight_on g b words depth loops claims at last s f w d less none refl)
    (body_walked g b words depth loops k ws more (at + 1) last c t f r (omega (arith, long)) (has_rest words at w (ws ++ more) has) l.opens inside parts.1)
    (λ after here rest. (here, rest))
