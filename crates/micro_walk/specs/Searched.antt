-- The search for a certificate, step by step: what is claimed once it has walked through all words. It tells nothing of a search that finds something
-- against a word, that comes to a `next` with no loop or no claim, or that widens a number.
use Rattle.std.specs.Prelude.{ℕ, zero, suc, ◌+◌, ◌-◌, ◌*◌, Bool, ◌&&◌, ◌||◌, nat_lt, nat_le, if◌then◌else◌, List, [], ◌∷◌, Option, Some, None, is_none, length, replicate, slice_get, slice_set}
use Rattle.nand_geometry.specs.declared.parts.Parts.{Parts}
use Rattle.micro_word.specs.declared.word.Word.{Word}
use Rattle.micro_word.specs.declared.word.Word.TheVariants.{End, BranchOnStatus, Loop, Next, Jump}
use Rattle.micro_word.specs.Text.{Microprogram}
use Rattle.micro_program.specs.Moves.{and_then}
use Rattle.micro_claims.specs.declared.state.State.{State}
use Rattle.micro_claims.specs.declared.bounds.Bounds.{Bounds}
use Rattle.micro_claims.specs.State.{first_state, bounds_of}
use Rattle.micro_claims.specs.Reasons.{reason_against}
use Rattle.micro_claims.specs.Accepts.{state_after}
use Rattle.micro_claims.specs.Joins.{joined}
use Rattle.micro_claims.specs.Certificate.{claim, if_there, is_certified}
use Rattle.micro_claims.specs.Order.{is_state_within, state_at_head, state_at_heads, state_after_turns, machine}
use Rattle.micro_walk.specs.Faults.{reached, has_loop, early_fault}
use Rattle.micro_walk.specs.declared.search.Walked.{Walked}
use Rattle.micro_walk.specs.declared.search.Walk.{Walk}

-- ---- what is claimed

-- nothing is claimed any more of so many places, from a place on
abbrev pub forgotten : {A : Type 0} → (from count : ℕ) → List (Option A) → List (Option A)
forgotten from count [] = []
forgotten zero zero (o ∷ claims) = o ∷ claims
forgotten zero (suc count) (o ∷ claims) = None ∷ forgotten zero count claims
forgotten (suc from) count (o ∷ claims) = o ∷ forgotten from count claims

-- a word that is neither `loop` nor `next` leads from a state to the places where it may lead; None where something is against it
abbrev pub led_to : Parts → Bounds → List (Option State) → ℕ → State → Word → Option (List (Option State))
led_to g b claims at s (BranchOnStatus mask target) = if s.registers.polled then Some (reached (reached claims (at + 1) s) target s) else None
led_to g b claims at s (Jump target) = Some (reached claims target s)
led_to g b claims at s (End code) = if is_none (reason_against g b s (End code)) then Some claims else None
led_to g b claims at s word = if is_none (reason_against g b s word) then Some (reached claims (at + 1) (state_after g s word)) else None

-- nowhere from a word that no way leads to
abbrev pub led_by : Parts → Bounds → List (Option State) → ℕ → Option State → Word → Option (List (Option State))
led_by g b claims at None word = Some claims
led_by g b claims at (Some s) word = led_to g b claims at s word

-- where a loop is entered
abbrev pub begun : List (Option State) → (head : ℕ) → Option State → List (Option State)
begun claims head None = claims
begun claims head (Some s) = reached claims head (state_at_head s)

-- ---- a turn

-- the loop is walked no more, where a later turn may begin with `heads`, and `head` is claimed at its head
abbrev pub is_walked : Walked → (heads head : State) → Bool
is_walked l heads head = nat_le l.turns 1 || (nat_le 13 l.again || is_state_within heads head)

-- what comes of a turn: the loop is walked again, or left
pub record Turn : Type 0 where
  pub again : Option Walked
  pub claims : List (Option State)

-- of a loop that was entered with `s`, at whose head `h` is claimed and at whose `next` `r`
abbrev pub left_at : List (Option State) → ℕ → Walked → (s r : State) → Turn
left_at claims at l s r = record { again = None; claims = reached claims (at + 1) (state_after_turns s r l.turns) }

abbrev pub again_at : List (Option State) → ℕ → Walked → (s h r : State) → Turn
again_at claims at l s h r =
    record {
      again = Some (record l { again = l.again + 1 });
      claims = reached (forgotten l.head (at + 1 - l.head) claims) l.head (joined h (state_at_heads s r l.turns));
    }

-- a loop is walked so seven times more; after that numbers are widened, of which nothing is told
abbrev pub turn_with : List (Option State) → ℕ → Walked → (s h r : Option State) → Option Turn
turn_with claims at l (Some s) (Some h) (Some r) = if is_walked l (state_at_heads s r l.turns) h then Some (left_at claims at l s r) else (if nat_lt l.again 7 then Some (again_at claims at l s h r) else None)
turn_with claims at l s h r = None

abbrev pub turn_at : List (Option State) → ℕ → Walked → Option Turn
turn_at claims at l = turn_with claims at l l.entry (claim claims l.head) (claim claims at)

-- ---- the walk

-- what is known of the loops that are walked
abbrev pub Loops : Type 0
Loops = List Walked

-- how far a search is
pub record Search : Type 0 where
  pub walk : Walk
  pub claims : List (Option State)

abbrev pub not_walked : Walked
not_walked = record { head = 0; entry = None; turns = 1; again = 0 }

abbrev pub search_first : (places : ℕ) → Search
search_first places = record { walk = record { at = 0; depth = 0; loops = replicate 4 not_walked }; claims = reached (replicate places None) 0 first_state }

-- into a loop
abbrev pub entered : Search → (turns : ℕ) → Option Search
entered s turns =
    if nat_lt s.walk.depth 4 && nat_lt s.walk.at (length s.claims)
    then Some (record {
      walk = record {
        at = s.walk.at + 1;
        depth = s.walk.depth + 1;
        loops = slice_set s.walk.loops s.walk.depth (record { head = s.walk.at + 1; entry = claim s.claims s.walk.at; turns = turns; again = 0 });
      };
      claims = begun s.claims (s.walk.at + 1) (claim s.claims s.walk.at);
    })
    else None

abbrev pub walk_on : Walk → Option Walked → Walk
walk_on w None = record { at = w.at + 1; depth = w.depth - 1; loops = w.loops }
walk_on w (Some l) = record { at = l.head; depth = w.depth; loops = slice_set w.loops (w.depth - 1) l }

-- at a `next`
abbrev pub turned : Search → Option Search
turned s =
    if nat_lt 0 s.walk.depth && nat_lt s.walk.at (length s.claims)
    then and_then (slice_get s.walk.loops (s.walk.depth - 1)) (λ l. and_then (turn_at s.claims s.walk.at l) (λ t. Some (record { walk = walk_on s.walk t.again; claims = t.claims })))
    else None

-- a word on
abbrev pub led_on : Walk → Option (List (Option State)) → Option Search
led_on w o = and_then o (λ claims. Some (record { walk = record { at = w.at + 1; depth = w.depth; loops = w.loops }; claims = claims }))

abbrev pub stepped : Parts → Bounds → Word → Search → Option Search
stepped g b (Loop turns) s = entered s turns
stepped g b Next s = turned s
stepped g b word s = if nat_lt s.walk.at (length s.claims) then led_on s.walk (led_by g b s.claims s.walk.at (claim s.claims s.walk.at) word) else None

-- what is claimed in the end, where so many steps are enough
abbrev pub at_end_or : {A B : Type 0} → Option A → B → (A → Option B) → Option B
at_end_or None b on = Some b
at_end_or (Some a) b on = on a

abbrev pub searched : Parts → Bounds → List Word → (steps : ℕ) → Search → Option (List (Option State))
searched g b words zero s = None
searched g b words (suc steps) s = at_end_or (slice_get words s.walk.at) s.claims (λ word. and_then (stepped g b word s) (searched g b words steps))

-- ---- of a text

-- the search finds a certificate of the words, in 256 steps a word at most
abbrev pub is_found : Parts → Bounds → List Word → Bool
is_found g b words = if_there (searched g b words (256 * length words) (search_first (length words))) (is_certified (machine g b) words)

-- the same of a text with loops, against which nothing stands before its first loop
abbrev pub finds_certificate : Parts → Microprogram → Bool
finds_certificate g text = has_loop text.words && (is_none (early_fault g text) && is_found g (bounds_of text) text.words)
