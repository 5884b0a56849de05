-- The fault of a text: of its shape; and where it has no loop, its lowest word with a reason against it.
use Rattle.std.specs.Prelude.{ℕ, suc, ◌+◌, take, Bool, true, false, if◌then◌else◌, List, [], ◌∷◌, Option, Some, None, length, replicate, slice_set}
use Rattle.std.specs.List.{list_any}
use Rattle.nand_geometry.specs.declared.parts.Parts.{Parts}
use Rattle.micro_word.specs.declared.word.Word.{Word}
use Rattle.micro_word.specs.declared.word.Word.TheVariants.{End, BranchOnStatus, Loop, Jump}
use Rattle.micro_word.specs.Text.{Microprogram}
use Rattle.micro_claims.specs.declared.refusal.Reason.{Reason}
use Rattle.micro_claims.specs.declared.refusal.Fault.{Fault}
use Rattle.micro_program.specs.Safe.{is_end}
use Rattle.micro_claims.specs.declared.state.State.{State}
use Rattle.micro_claims.specs.declared.bounds.Bounds.{Bounds}
use Rattle.micro_claims.specs.State.{first_state, bounds_of}
use Rattle.micro_claims.specs.Reasons.{reason_against}
use Rattle.micro_claims.specs.Accepts.{state_after}
use Rattle.micro_claims.specs.Joins.{joined}
use Rattle.micro_claims.specs.Certificate.{claim}
use Rattle.micro_walk.specs.Shape.{or_fault, shape_fault}

-- ---- what is known before each word

-- a way leads to a place with a state, where other ways may have led before: what all of them claim
abbrev pub met : Option State → State → State
met None s = s
met (Some t) s = joined t s

-- a way leads to a place
abbrev pub reached : List (Option State) → ℕ → State → List (Option State)
reached known at s = slice_set known at (Some (met (claim known at) s))

-- a word leads from a state to each place where it may lead
abbrev pub led : Parts → List (Option State) → ℕ → State → Word → List (Option State)
led g known at s (End code) = known
led g known at s (BranchOnStatus mask target) = reached (reached known (at + 1) (state_after g s (BranchOnStatus mask target))) target (state_after g s (BranchOnStatus mask target))
led g known at s (Jump target) = reached known target (state_after g s (Jump target))
led g known at s word = reached known (at + 1) (state_after g s word)

-- nowhere from a word that no way leads to
abbrev pub led_from : Parts → List (Option State) → ℕ → Option State → Word → List (Option State)
led_from g known at None word = known
led_from g known at (Some s) word = led g known at s word

-- before the first word; of the other words nothing is known yet
abbrev pub known_first : List Word → List (Option State)
known_first words = slice_set (replicate (length words) None) 0 (Some first_state)

-- ---- the lowest word with a reason against it

-- the lowest reason against a word; none where no way leads
abbrev pub reason_at : Parts → Bounds → Option State → Word → Option Reason
reason_at g b None word = None
reason_at g b (Some s) word = reason_against g b s word

abbrev pub fault_or : Option Reason → ℕ → Option Fault → Option Fault
fault_or (Some reason) at later = Some (record { word = at; reason = reason })
fault_or None at later = later

-- from a word on, by what is known
abbrev pub followed : Parts → Bounds → List (Option State) → ℕ → List Word → Option Fault
followed g b known at [] = None
followed g b known at (word ∷ rest) = fault_or (reason_at g b (claim known at) word) at (followed g b (led_from g known at (claim known at) word) (at + 1) rest)

-- ---- of a text

abbrev pub is_loop : Word → Bool
is_loop (Loop turns) = true
is_loop _ = false

abbrev pub has_loop : List Word → Bool
has_loop words = list_any is_loop words

-- the fault of the words of a text within these bounds. With loops, only that of its shape
abbrev pub fault_within : Parts → Bounds → List Word → Option Fault
fault_within g b words = or_fault (shape_fault words) (if has_loop words then None else followed g b (known_first words) 0 words)

-- the fault of a text
abbrev pub fault_of : Parts → Microprogram → Option Fault
fault_of g text = fault_within g (bounds_of text) text.words

-- ---- of a text with loops, before the first of them

-- how many words stand before the first loop
abbrev pub before_loops : List Word → ℕ
before_loops [] = 0
before_loops (word ∷ words) = if is_loop word then 0 else suc (before_loops words)

-- these words
abbrev pub front : List Word → List Word
front words = take (before_loops words) words

-- the lowest of them with a reason against it, in all ways that lead there
abbrev pub front_fault : Parts → Bounds → List Word → Option Fault
front_fault g b words = followed g b (known_first (front words)) 0 (front words)

-- the fault of a text that no loop hides: of its shape, or of a word before its first loop
abbrev pub early_fault : Parts → Microprogram → Option Fault
early_fault g text = or_fault (shape_fault text.words) (front_fault g (bounds_of text) text.words)

-- ---- of a text without branches and loops, word by word

-- what is known after a word: nothing after an `end`
abbrev pub onward : Parts → Option State → Word → Option State
onward g None word = None
onward g (Some s) word = if is_end word then None else Some (state_after g s word)

-- its lowest word with a reason against it, from a word on
abbrev pub walked : Parts → Bounds → ℕ → Option State → List Word → Option Fault
walked g b at o [] = None
walked g b at o (word ∷ words) = fault_or (reason_at g b o word) at (walked g b (at + 1) (onward g o word) words)
