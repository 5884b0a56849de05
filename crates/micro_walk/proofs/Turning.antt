-- What comes of a turn of a loop.
use Rattle.std.proofs.Common.{◌≡◌, ℕ, ◌+◌, ◌-◌, ◌<◌, Bool, true, false, cond, List, Option, Some, None, refl, sym, ap, ◌∙◌, subst, arith, length, get_or}
use Rattle.std.specs.Prelude.{IfSome, nat_lt}
use Rattle.std.proofs.lemmas.Bool.Decides.{nat_tests}
use Rattle.micro_claims.specs.declared.state.State.{State}
use Rattle.micro_claims.specs.Joins.{joined}
use Rattle.micro_claims.specs.Certificate.{claim}
use Rattle.micro_claims.specs.Order.{state_at_heads, state_after_turns}
use Rattle.micro_walk.specs.Faults.{reached}
use Rattle.micro_walk.specs.Searched.{Turn, forgotten, is_walked, left_at, again_at, turn_with, turn_at}
use Rattle.micro_walk.specs.declared.search.Walked.{Walked}
use Rattle.micro_walk.proofs.Ahead.{got, claim_got}

-- what is claimed at a place, as it is read there
pub claim_read : (known : List (Option State)) (at : ℕ) (o : Option State) → at < length known → o ≡ get_or known at o → claim known at ≡ o
claim_read known at o inside is = sym (claim_got known at) ∙ (got known at o inside ∙ sym is)

-- what is told of a turn is what came of it
abbrev pub TurnIs : Option Walked → List (Option State) → Turn → Type 0
TurnIs again claims turn = (again ≡ turn.again) × (claims ≡ turn.claims)

of_turn : (claims : List (Option State)) (at : ℕ) (l : Walked) (s h r : State) (P : Turn → Type 0) → l.entry ≡ Some s → claim claims l.head ≡ Some h → claim claims at ≡ Some r → IfSome (turn_with claims at l (Some s) (Some h) (Some r)) P → IfSome (turn_at claims at l) P
of_turn claims at l s h r P es eh er =
    λ is.
    subst (λ (o : Option State). IfSome (turn_with claims at l o (claim claims l.head) (claim claims at)) P) (sym es)
    (subst (λ (o : Option State). IfSome (turn_with claims at l (Some s) o (claim claims at)) P) (sym eh)
    (subst (λ (o : Option State). IfSome (turn_with claims at l (Some s) (Some h) o) P) (sym er) is))

pub turn_left : (claims after : List (Option State)) (at : ℕ) (l : Walked) (s h r : State) → l.entry ≡ Some s → claim claims l.head ≡ Some h → claim claims at ≡ Some r → is_walked l (state_at_heads s r l.turns) h ≡ true
    → after ≡ reached claims (at + 1) (state_after_turns s r l.turns) → IfSome (turn_at claims at l) (TurnIs None after)
turn_left claims after at l s h r es eh er walked is =
    of_turn claims at l s h r (TurnIs None after) es eh er
    (subst (λ (b : Bool). IfSome (cond b (Some (left_at claims at l s r)) (cond (nat_lt l.again 7) (Some (again_at claims at l s h r)) None)) (TurnIs None after)) (sym walked) (refl, is))

pub turn_again : (claims after : List (Option State)) (at : ℕ) (l m : Walked) (s h r wide : State) → l.entry ≡ Some s → claim claims l.head ≡ Some h → claim claims at ≡ Some r → is_walked l (state_at_heads s r l.turns) h ≡ false
    → m ≡ record l { again = l.again + 1 } → (l.again < 7 → wide ≡ joined h (state_at_heads s r l.turns)) → after ≡ reached (forgotten l.head (at + 1 - l.head) claims) l.head wide → IfSome (turn_at claims at l) (TurnIs (Some m) after)
turn_again claims after at l m s h r wide es eh er walked same joins is =
    of_turn claims at l s h r (TurnIs (Some m) after) es eh er
    (subst (λ (b : Bool). IfSome (cond b (Some (left_at claims at l s r)) (cond (nat_lt l.again 7) (Some (again_at claims at l s h r)) None)) (TurnIs (Some m) after)) (sym walked) (few (nat_lt l.again 7) refl))
  where
    few : (b : Bool) → nat_lt l.again 7 ≡ b → IfSome (cond b (Some (again_at claims at l s h r)) None) (TurnIs (Some m) after)
    few false e = tt
    few true e = (ap (λ (x : Walked). Some x) same, is ∙ ap (λ (t : State). reached (forgotten l.head (at + 1 - l.head) claims) l.head t) (joins (grind (arith, nat_tests, e))))
