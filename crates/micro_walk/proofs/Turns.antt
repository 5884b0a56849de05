-- What the turns of a loop leave of a claim, part by part.
use Rattle.std.proofs.Common.{ℕ, ◌≤◌, arith}
use Rattle.micro_claims.specs.Spans.{Span}
use Rattle.micro_claims.specs.Order.{SpanAt}
use Rattle.micro_claims.specs.Certificate.{Machine, Turned, entered, turned}
use Rattle.micro_walk.proofs.SpanLaws.{Ran, no_turn, a_turn}

-- a number of the state runs on its own
pub ran_of : (M : Machine) (At : M.State → M.State → M.State → Type 0) (f : M.State → Span) → ((v s a : M.State) → At v s a → SpanAt (f v) (f s) (f a))
    → (v s r : M.State) (turns : ℕ) (b : M.State) → Turned M At v s r turns b → Ran (f v) (f s) (f r) turns (f b)
ran_of M At f fits v s r _ _ (entered a is) = no_turn (f v) (f s) (f r) (f a) (fits v s a is)
ran_of M At f fits v s r _ _ (turned turns a b before is) = a_turn (f v) (f s) (f r) (f a) (f b) turns (ran_of M At f fits v s r turns a before) (fits a r b is)

-- what doesn't grow is, after some turns, as the last turn left it
pub last_turn : (M : Machine) (At : M.State → M.State → M.State → Type 0) (P : M.State → M.State → Type 0) → ((v s a : M.State) → At v s a → P s a)
    → (v s r : M.State) (turns : ℕ) (b : M.State) → 1 ≤ turns → Turned M At v s r turns b → P r b
last_turn M At P claims v s r _ _ one (entered a is) = absurd (omega (arith, one))
last_turn M At P claims v s r _ _ one (turned turns a b before is) = claims a r b is
