-- A verifier of any kind of state: what it accepts line by line, and the certificate that shows it place by place.
use Rattle.std.specs.Prelude.{◌≡◌, ℕ, suc, ◌+◌, ◌<◌, ◌≤◌, ◌==◌, Bool, true, false, ◌||◌, ◌&&◌, not, nat_le, if◌then◌else◌, List, [], ◌∷◌, Option, Some, None, is_some, length, slice_get}
use Rattle.micro_word.specs.declared.word.Word.{Word}
use Rattle.micro_word.specs.declared.word.Word.TheVariants.{End, BranchOnStatus, Loop, Next, Jump}
use Rattle.micro_program.specs.Lines.{Line, unrolled}
use Rattle.micro_program.specs.Nested.{closer, IsNested}

-- what a verifier knows before a word, and what words and loops make of it
pub record Machine : Type 1 where
  pub State : Type 0
  -- before the first word
  pub first : State
  -- after a word that is no loop and no branch; none where there is a reason against the word
  pub step : State → Word → Option State
  -- a status has been asked for
  pub polled : State → Bool
  -- the first claims at least what the second claims
  pub within : State → State → Bool
  -- a state where a turn of a loop begins
  pub head : State → State
  -- where a turn but the first begins, of a loop of so many turns that was entered from a state, and whose turns end with another
  pub heads : State → State → ℕ → State
  -- after the last turn of such a loop
  pub after : State → State → ℕ → State

-- ---- line by line

-- lines before the target of a branch are left out
abbrev pub is_left_out : Option ℕ → Line → Bool
is_left_out None line = false
is_left_out (Some target) line = not (line.at == target)

abbrev pub if_there : {A : Type 0} → Option A → (A → Bool) → Bool
if_there None f = false
if_there (Some x) f = f x

-- a word is accepted from a state, where `on` tells of the lines behind it: from a state, and on from a target
abbrev pub goes_on : (M : Machine) → M.State → Word → (M.State → Option ℕ → Bool) → Bool
goes_on M s (End code) on = is_some (M.step s (End code))
goes_on M s (BranchOnStatus mask target) on = M.polled s && (on s None && on s (Some target))
goes_on M s (Jump target) on = on s (Some target)
goes_on M s (Loop turns) on = on s None
goes_on M s Next on = on s None
goes_on M s word on = if_there (M.step s word) (λ t. on t None)

-- each way of the lines, on from a target if there is one, leads from a state to an `end` with no reason against any word
abbrev pub accepts : (M : Machine) → Option ℕ → M.State → List Line → Bool
accepts M target s [] = false
accepts M target s (line ∷ lines) =
    if is_left_out target line then accepts M target s lines else goes_on M s line.word (λ t way. accepts M way t lines)

-- ---- place by place

abbrev pub flat : {A : Type 0} → Option (Option A) → Option A
flat None = None
flat (Some o) = o

-- what is claimed before the word at a place: nothing where no way leads
abbrev pub claim : {A : Type 0} → List (Option A) → ℕ → Option A
claim claims at = flat (slice_get claims at)

-- a state claims at least what is claimed at a place
abbrev pub reaches : (M : Machine) → List (Option M.State) → M.State → ℕ → Bool
reaches M claims s at = if_there (claim claims at) (M.within s)

-- a loop that is entered from a state, and whose turns end with this claim, if they end: what a later turn may begin with is claimed at its
-- head, and what the loop leaves is claimed behind its `next`
abbrev pub turns_hold : (M : Machine) → List (Option M.State) → M.State → ℕ → ℕ → ℕ → Option M.State → Bool
turns_hold M claims s turns head next None = true
turns_hold M claims s turns head next (Some r) =
    (nat_le turns 1 || reaches M claims (M.heads s r turns) head) && reaches M claims (M.after s r turns) (next + 1)

-- a loop whose first word and whose `next` are at these places
abbrev pub loop_holds : (M : Machine) → List (Option M.State) → M.State → ℕ → ℕ → Option ℕ → Bool
loop_holds M claims s turns head None = false
loop_holds M claims s turns head (Some next) = reaches M claims (M.head s) head && turns_hold M claims s turns head next (claim claims next)

-- what is claimed before a word leads to what is claimed where the word leads
abbrev pub word_holds : (M : Machine) → List Word → List (Option M.State) → ℕ → M.State → Word → Bool
word_holds M words claims at s (End code) = is_some (M.step s (End code))
word_holds M words claims at s (BranchOnStatus mask target) = M.polled s && (reaches M claims s (at + 1) && reaches M claims s target)
word_holds M words claims at s (Jump target) = reaches M claims s target
word_holds M words claims at s (Loop turns) = loop_holds M claims s turns (at + 1) (closer words (at + 1))
word_holds M words claims at s Next = true
word_holds M words claims at s word = if_there (M.step s word) (λ t. reaches M claims t (at + 1))

-- nothing is asked of a word that no way leads to
abbrev pub holds : (M : Machine) → List Word → List (Option M.State) → ℕ → Option M.State → Word → Bool
holds M words claims at None word = true
holds M words claims at (Some s) word = word_holds M words claims at s word

abbrev pub all_hold : (M : Machine) → List Word → List (Option M.State) → ℕ → List Word → Bool
all_hold M words claims at [] = true
all_hold M words claims at (word ∷ rest) = holds M words claims at (claim claims at) word && all_hold M words claims (at + 1) rest

-- the claims are a certificate of the text
abbrev pub is_certified : (M : Machine) → List Word → List (Option M.State) → Bool
is_certified M words claims = length words == length claims && (reaches M claims M.first 0 && all_hold M words claims 0 words)

-- ---- the laws of a kind of state

-- after so many turns of a loop that was entered from what `s` claims, each of which ended with what `r` claims: the actual state.
-- `At v s a` says that `a` is an actual state of which `s` is claimed, in a turn that began with the actual state `v`
pub data Turned (M : Machine) (At : M.State → M.State → M.State → Type 0) (v s r : M.State) : ℕ → M.State → Type 0 where
  entered : (a : M.State) → At v s a → Turned M At v s r 0 a
  turned : (turns : ℕ) (a b : M.State) → Turned M At v s r turns a → At a r b → Turned M At v s r (suc turns) b

pub record Laws (M : Machine) (At : M.State → M.State → M.State → Type 0) : Type 0 where
  -- the first state is actual
  pub begins : At M.first M.first M.first
  -- who claims less still claims what is so
  pub eases : (v s t a : M.State) → M.within s t ≡ true → At v s a → At v t a
  -- a word that nothing is against has nothing against it in any actual state, and leads to one of which its outcome is claimed
  pub steps : (v s a t : M.State) (word : Word) → At v s a → M.step s word ≡ Some t → (b : M.State) × (M.step a word ≡ Some b) × At v t b
  pub polls : (v s a : M.State) → At v s a → M.polled s ≡ true → M.polled a ≡ true
  -- a turn begins
  pub enters : (v s a : M.State) → At v s a → At a (M.head s) a
  -- a later turn begins
  pub again : (v s r a : M.State) (turns done : ℕ) → Turned M At v s r done a → 1 ≤ done → done < turns → At a (M.heads s r turns) a
  -- the last turn is done
  pub leaves : (v s r a : M.State) (turns : ℕ) → 1 ≤ turns → Turned M At v s r turns a → At v (M.after s r turns) a

-- the law: the lines of a text with a certificate are accepted
abbrev pub CertifiedIsAccepted : (M : Machine) → Type 0
CertifiedIsAccepted M =
    (words : List Word) (claims : List (Option M.State)) → IsNested words → is_certified M words claims ≡ true → accepts M None M.first (unrolled words) ≡ true
