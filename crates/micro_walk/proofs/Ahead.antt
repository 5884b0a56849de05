-- A text without loops in which nothing is found against a word, in all ways that lead to it, is accepted line by line.
use Rattle.std.proofs.Common.{◌≡◌, ℕ, zero, suc, ◌+◌, ◌-◌, ◌<◌, ◌≤◌, ◌==◌, true, false, List, [], ◌∷◌, Option, Some, None, refl, sym, ap, ◌∙◌, subst, arith, length, drop, get_or, ◌⊎◌, inl, inr}
use Rattle.std.proofs.Math.Seq.{drop-cons}
use Rattle.std.specs.Prelude.{slice_set, replicate, is_none, is_some}
use Rattle.std.specs.List.{slice_get}
use Rattle.std.proofs.lemmas.List.{length-set}
use Rattle.std.proofs.lemmas.Bool.Decides.{nat_tests}
use Rattle.std.proofs.lemmas.Bool.{and_from, or_parts as neither_loop}
use Rattle.nand_geometry.specs.declared.parts.Parts.{Parts}
use Rattle.nand_geometry.specs.Limits.{InLimits}
use Rattle.micro_word.specs.declared.word.Word.{Word}
use Rattle.micro_word.specs.declared.word.Word.TheVariants.{End, BranchOnStatus, Loop, Next, Jump}
use Rattle.micro_claims.specs.declared.refusal.Reason.{Reason}
use Rattle.micro_claims.specs.declared.refusal.Fault.{Fault}
use Rattle.micro_word.specs.Text.{Microprogram}
use Rattle.micro_program.specs.Lines.{Line, Unrolling, word_before, unrolling, unrolled, lines_from}
use Rattle.micro_program.specs.Safe.{is_end, IsSafe}
use Rattle.micro_claims.specs.declared.state.State.{State}
use Rattle.micro_claims.specs.declared.bounds.Bounds.{Bounds}
use Rattle.micro_claims.specs.State.{first_state, bounds_of}
use Rattle.micro_claims.specs.Reasons.{reason_against}
use Rattle.micro_claims.specs.Accepts.{state_after}
use Rattle.micro_claims.specs.Certificate.{claim, if_there, goes_on, accepts}
use Rattle.micro_claims.specs.Order.{At, machine, state_step}
use Rattle.micro_claims.specs.Joins.{joined}
use Rattle.micro_walk.specs.Shape.{is_end_there, ends}
use Rattle.micro_walk.specs.Faults.{met, reached, led, led_from, known_first, reason_at, fault_or, followed, is_loop, has_loop}
use Rattle.micro_program.specs.Nested.{loops_before, loops, StandsIn, IsNested}
use Rattle.micro_walk.proofs.Joining.{joins_claim_less}
use Rattle.micro_walk.proofs.Machines.{branch_reason, alike}
use Rattle.micro_claims.proofs.AcceptedLines.{accepted_is_safe}
use Rattle.micro_walk.proofs.StateLaws.{laws}

-- ---- 1. what is known, when a way leads to a place

pub claim_there : (known : List (Option State)) (q : ℕ) (o : Option State) → q < length known → claim (slice_set known q o) q ≡ o
claim_there [] q o h = absurd (omega (arith, h))
claim_there (x ∷ known) zero o h = refl
claim_there (x ∷ known) (suc q) o h = claim_there known q o (omega (arith, h))

pub claim_elsewhere : (known : List (Option State)) (q p : ℕ) (o : Option State) → ((q ≡ p) → ⊥) → claim (slice_set known q o) p ≡ claim known p
claim_elsewhere [] q p o other = refl
claim_elsewhere (x ∷ known) zero zero o other = absurd (other refl)
claim_elsewhere (x ∷ known) zero (suc p) o other = refl
claim_elsewhere (x ∷ known) (suc q) zero o other = refl
claim_elsewhere (x ∷ known) (suc q) (suc p) o other = claim_elsewhere known q p o (λ e. other (ap (λ (n : ℕ). suc n) e))

pub claim_inside : (known : List (Option State)) (q : ℕ) (s : State) → claim known q ≡ Some s → q < length known
claim_inside [] q s h = absurd cc
claim_inside (x ∷ known) zero s h = omega arith
claim_inside (x ∷ known) (suc q) s h = let less = claim_inside known q s h in omega (arith, less)

-- what is claimed of `s` is claimed still
record Keeps (g : Parts) (s : State) (o : Option State) : Type 0 where
  kept : State
  is : o ≡ Some kept
  eased : (v a : State) → At g v s a → At g v kept a

keeps_itself : (g : Parts) (s : State) (o : Option State) → o ≡ Some s → Keeps g s o
keeps_itself g s o e = record { kept = s; is = e; eased = λ v a d. d }

keeps_on : (g : Parts) (s : State) (o p : Option State) → Keeps g s o → ((t : State) → o ≡ Some t → Keeps g t p) → Keeps g s p
keeps_on g s o p k on =
    let more = on k.kept k.is in
    record { kept = more.kept; is = more.is; eased = λ v a d. more.eased v a (k.eased v a d) }

two_cases : (q p : ℕ) → (q ≡ p) ⊎ ((q ≡ p) → ⊥)
two_cases zero zero = inl refl
two_cases zero (suc p) = inr (λ e. absurd cc)
two_cases (suc q) zero = inr (λ e. absurd cc)
two_cases (suc q) (suc p) = elim (two_cases q p) [
  | inl same ↦ inl (ap (λ (n : ℕ). suc n) same)
  | inr other ↦ inr (λ e. other (omega (arith, e)))
]

keeps_joined : (g : Parts) → InLimits g → (b : Bounds) (s t : State) (o : Option State) → o ≡ Some (joined s t) → Keeps g s o
keeps_joined g l b s t o e = record { kept = joined s t; is = e; eased = λ v a d. (laws g b l).eases v s (joined s t) a (joins_claim_less s t).0 d }

reached_keeps : (g : Parts) → InLimits g → (b : Bounds) (known : List (Option State)) (q : ℕ) (t : State) (p : ℕ) (s : State) → claim known p ≡ Some s → Keeps g s (claim (reached known q t) p)
reached_keeps g l b known q t p s e = elim (two_cases q p) [
  | inl same ↦ (
      let here : claim known q ≡ Some s = ap (claim known) same ∙ e in
      let there : claim (reached known q t) q ≡ Some (joined s t) = claim_there known q (Some (met (claim known q) t)) (claim_inside known q s here) ∙ ap (λ (o : Option State). Some (met o t)) here in
      keeps_joined g l b s t (claim (reached known q t) p) (ap (claim (reached known q t)) (sym same) ∙ there))
  | inr other ↦ keeps_itself g s (claim (reached known q t) p) (claim_elsewhere known q p (Some (met (claim known q) t)) other ∙ e)
]

reached_there : (g : Parts) → InLimits g → (b : Bounds) (known : List (Option State)) (q : ℕ) (t : State) → q < length known → Keeps g t (claim (reached known q t) q)
reached_there g l b known q t h = at (claim known q) (claim_there known q (Some (met (claim known q) t)) h)
  where
    at : (o : Option State) → claim (reached known q t) q ≡ Some (met o t) → Keeps g t (claim (reached known q t) q)
    at None e = keeps_itself g t (claim (reached known q t) q) e
    at (Some u) e = record { kept = joined u t; is = e; eased = λ v a d. (laws g b l).eases v t (joined u t) a (joins_claim_less u t).1 d }

reached_both : (g : Parts) → InLimits g → (b : Bounds) (known : List (Option State)) (q r : ℕ) (t u : State) (p : ℕ) (s : State) → claim known p ≡ Some s → Keeps g s (claim (reached (reached known q t) r u) p)
reached_both g l b known q r t u p s e =
    keeps_on g s (claim (reached known q t) p) (claim (reached (reached known q t) r u) p) (reached_keeps g l b known q t p s e) (λ x is. reached_keeps g l b (reached known q t) r u p x is)

led_keeps : (g : Parts) → InLimits g → (b : Bounds) (known : List (Option State)) (at : ℕ) (t : State) (word : Word) (p : ℕ) (s : State) → claim known p ≡ Some s → Keeps g s (claim (led g known at t word) p)
led_keeps g l b known at t (End code) p s e = keeps_itself g s (claim known p) e
led_keeps g l b known at t (BranchOnStatus mask target) p s e = reached_both g l b known (at + 1) target _ _ p s e
led_keeps g l b known at t (Jump target) p s e = reached_keeps g l b known target _ p s e
led_keeps g l b known at t word p s e = reached_keeps g l b known (at + 1) _ p s e

led_from_keeps : (g : Parts) → InLimits g → (b : Bounds) (known : List (Option State)) (at : ℕ) (o : Option State) (word : Word) (p : ℕ) (s : State) → claim known p ≡ Some s → Keeps g s (claim (led_from g known at o word) p)
led_from_keeps g l b known at None word p s e = keeps_itself g s (claim known p) e
led_from_keeps g l b known at (Some t) word p s e = led_keeps g l b known at t word p s e

reached_length : (known : List (Option State)) (q : ℕ) (t : State) → length (reached known q t) ≡ length known
reached_length known q t = length-set known q (Some (met (claim known q) t))

led_length : (g : Parts) (known : List (Option State)) (at : ℕ) (s : State) (word : Word) → length (led g known at s word) ≡ length known
led_length g known at s (End code) = refl
led_length g known at s (BranchOnStatus mask target) = reached_length (reached known (at + 1) _) target _ ∙ reached_length known (at + 1) _
led_length g known at s (Jump target) = reached_length known target _
led_length g known at s word = reached_length known (at + 1) _

pub led_from_length : (g : Parts) (known : List (Option State)) (at : ℕ) (o : Option State) (word : Word) → length (led_from g known at o word) ≡ length known
led_from_length g known at None word = refl
led_from_length g known at (Some s) word = led_length g known at s word

-- ---- 2. a text without loops, whose branches lead on

-- a branch leads on inside the text, and the word is no loop
abbrev pub LeadsOn : ℕ → ℕ → Word → Type 0
LeadsOn count at (BranchOnStatus mask target) = (at < target) × (target < count)
LeadsOn count at (Jump target) = (at < target) × (target < count)
LeadsOn count at (Loop turns) = ⊥
LeadsOn count at Next = ⊥
LeadsOn count at word = Unit {0}

abbrev pub AllLeadOn : ℕ → ℕ → List Word → Type 0
AllLeadOn count at [] = Unit {0}
AllLeadOn count at (word ∷ rest) = LeadsOn count at word × AllLeadOn count (at + 1) rest

-- no reason here, and none later on
pub record Passed (r : Option Reason) (later : Option Fault) : Type 0 where
  pub here : r ≡ None
  pub later_on : later ≡ None

pub passed : (r : Option Reason) (at : ℕ) (later : Option Fault) → fault_or r at later ≡ None → Passed r later
passed None at later h = record { here = refl; later_on = h }
passed (Some reason) at later h = cc

pub ends_behind : (word : Word) (rest : List Word) → 0 < length rest → ends (word ∷ rest) ≡ true → ends rest ≡ true
ends_behind word [] some h = absurd (omega (arith, some))
ends_behind word (later ∷ rest) some h =
    let a : length (word ∷ (later ∷ rest)) - 1 ≡ suc (length rest) = omega arith in
    let b : length (later ∷ rest) - 1 ≡ length rest = omega arith in
    ap (λ (k : ℕ). is_end_there (slice_get (later ∷ rest) k)) b ∙ (sym (ap (λ (k : ℕ). is_end_there (slice_get (word ∷ (later ∷ rest)) k)) a) ∙ h)

-- a word that isn't the last of a text
pub some_behind : (word : Word) (rest : List Word) → ends (word ∷ rest) ≡ true → is_end word ≡ false → 0 < length rest
some_behind word [] h e = let clash : is_end word ≡ true = h in absurd cc
some_behind word (later ∷ rest) h e = omega arith

-- the next line is where a way leads that goes on
on_next : (g : Parts) (b : Bounds) (a : State) (rest : List Word) (at : ℕ) → 0 < length rest → accepts (machine g b) None a (lines_from rest at) ≡ accepts (machine g b) (Some at) a (lines_from rest at)
on_next g b a [] at h = absurd (omega (arith, h))
on_next g b a (word ∷ rest) at h =
    let same : (at == at) ≡ true = grind (arith, nat_tests) in
    rw (same) refl

step_of : (g : Parts) (b : Bounds) (s : State) (word : Word) → reason_against g b s word ≡ None → state_step g b s word ≡ Some (state_after g s word)
unfolding state_step
step_of g b s word none = rw (none) refl

-- a word is accepted from an actual state, where each way from it is
goes : (g : Parts) → InLimits g → (b : Bounds) (count at : ℕ) (known : List (Option State)) (v s a : State) (lines : List Line) (word : Word)
    → length known ≡ count → LeadsOn count at word → reason_against g b s word ≡ None → At g v s a → (is_end word ≡ false → at + 1 < count)
    → ((c : State) → (is_end word ≡ false → accepts (machine g b) None c lines ≡ accepts (machine g b) (Some (at + 1)) c lines))
    → ((q : ℕ) (t : State) → at < q → q < count → Keeps g t (claim (led g known at s word) q) → (c : State) → At g v t c → accepts (machine g b) (Some q) c lines ≡ true)
    → goes_on (machine g b) a word (λ t way. accepts (machine g b) way t lines) ≡ true
unfolding state_after
goes g l b count at known v s a lines (End code) long on none d more same to =
    let step = (laws g b l).steps v s a (state_after g s (End code)) (End code) d (step_of g b s (End code) none) in
    ap (λ (o : Option State). is_some o) step.1
goes g l b count at known v s a lines (BranchOnStatus mask target) long on none d more same to =
    let asked : s.registers.polled ≡ true = branch_reason g b s mask target ∙ ap (λ (r : Option Reason). is_none r) none in
    let inside : at + 1 < length known = (let x = more refl in omega (arith, x, long)) in
    let here = reached_there g l b known (at + 1) s inside in
    let there = reached_there g l b (reached known (at + 1) s) target s (let x = on.1 in let y = reached_length known (at + 1) s in omega (arith, x, y, long)) in
    let first : accepts (machine g b) None a lines ≡ true =
    same a refl ∙ to (at + 1) s (omega arith) (more refl)
    (keeps_on g s (claim (reached known (at + 1) s) (at + 1)) (claim (reached (reached known (at + 1) s) target s) (at + 1)) here (λ x is. reached_keeps g l b (reached known (at + 1) s) target s (at + 1) x is)) a d in
    let second : accepts (machine g b) (Some target) a lines ≡ true = to target s on.0 on.1 there a d in
    and_from _ _ ((laws g b l).polls v s a d asked) (and_from _ _ first second)
goes g l b count at known v s a lines (Jump target) long on none d more same to =
    to target s on.0 on.1 (reached_there g l b known target s (let x = on.1 in omega (arith, x, long))) a d
goes g l b count at known v s a lines (Loop turns) long on none d more same to = absurd on
goes g l b count at known v s a lines Next long on none d more same to = absurd on
goes g l b count at known v s a lines word long on none d more same to =
    let step = (laws g b l).steps v s a (state_after g s word) word d (step_of g b s word none) in
    let inside : at + 1 < length known = (let x = more refl in omega (arith, x, long)) in
    ap (λ (o : Option State). if_there o (λ t. accepts (machine g b) None t lines)) step.1
    ∙ (same step.0 refl ∙ to (at + 1) (state_after g s word) (omega arith) (more refl) (reached_there g l b known (at + 1) (state_after g s word) inside) step.0 step.2)

-- ---- 3. from each place on

-- from a place that is reached, whose claim is so, the lines are accepted
accepted_from : (g : Parts) → InLimits g → (b : Bounds) (count : ℕ) (rest : List Word) (at : ℕ) (known : List (Option State))
    → count ≡ at + length rest → length known ≡ count → AllLeadOn count at rest → ends rest ≡ true → followed g b known at rest ≡ None
    → (p : ℕ) (s : State) → at ≤ p → p < count → claim known p ≡ Some s → (v a : State) → At g v s a
    → accepts (machine g b) (Some p) a (lines_from rest at) ≡ true
accepted_from g l b count [] at known all long leads end none p s before inside here v a d = absurd (omega (arith, all, before, inside))
accepted_from g l b count (word ∷ rest) at known all long leads end none p s before inside here v a d =
    by_place (two_cases at p) (passed (reason_at g b (claim known at) word) at (followed g b (led_from g known at (claim known at) word) (at + 1) rest) none)
    (λ clear q t less there is c dc. accepted_from g l b count rest (at + 1) (led_from g known at (claim known at) word) (omega (arith, all)) (led_from_length g known at (claim known at) word ∙ long) leads.1 (ends_behind word rest (omega (arith, all, less, there)) end) clear q t (omega (arith, less)) there is v c dc)
  where
    -- from a place further on
    Later : Type 0
    Later = (q : ℕ) (t : State) → at < q → q < count → claim (led_from g known at (claim known at) word) q ≡ Some t → (c : State) → At g v t c → accepts (machine g b) (Some q) c (lines_from rest (at + 1)) ≡ true

    further : Later → at < p → accepts (machine g b) (Some p) a (lines_from (word ∷ rest) at) ≡ true
    further later less =
        let k = led_from_keeps g l b known at (claim known at) word p s here in
        let apart : (at == p) ≡ false = grind (arith, nat_tests, less) in
        rw (apart) (later p k.kept less inside k.is a (k.eased v a d))

    at_word : Later → reason_at g b (claim known at) word ≡ None → (at ≡ p) → accepts (machine g b) (Some p) a (lines_from (word ∷ rest) at) ≡ true
    at_word later clear same =
        let equal : (at == p) ≡ true = grind (arith, nat_tests, same) in
        let is : claim known at ≡ Some s = ap (claim known) same ∙ here in
        let free : reason_against g b s word ≡ None = sym (ap (λ (x : Option State). reason_at g b x word) is) ∙ clear in
        rw (equal)
        (goes g l b count at known v s a (lines_from rest (at + 1)) word long leads.0 free d
        (λ e. (let some = some_behind word rest end e in omega (arith, some, all)))
        (λ c e. on_next g b c rest (at + 1) (some_behind word rest end e))
        (λ q t less there k c dc.
        (let k2 = subst (λ (x : Option State). Keeps g t (claim (led_from g known at x word) q)) (sym is) k in
        later q k2.kept less there k2.is c (k2.eased v c dc))))

    by_place : (at ≡ p) ⊎ ((at ≡ p) → ⊥) → Passed (reason_at g b (claim known at) word) (followed g b (led_from g known at (claim known at) word) (at + 1) rest)
        → ((followed g b (led_from g known at (claim known at) word) (at + 1) rest ≡ None) → Later) → accepts (machine g b) (Some p) a (lines_from (word ∷ rest) at) ≡ true
    by_place (inl same) clear later = at_word (later clear.later_on) clear.here same
    by_place (inr other) clear later = further (later clear.later_on) (grind (arith, before, other))

-- ---- 4. from the first word on

first_known : (count : ℕ) → 0 < count → claim (slice_set (replicate count None) 0 (Some first_state)) 0 ≡ Some first_state
first_known zero h = absurd (omega (arith, h))
first_known (suc count) h = refl

none_known : (count : ℕ) → length (replicate {A = Option State} count None) ≡ count
none_known zero = refl
none_known (suc count) = ap (λ (n : ℕ). suc n) (none_known count)

pub known_length : (words : List Word) → length (known_first words) ≡ length words
known_length words = length-set (replicate (length words) None) 0 (Some first_state) ∙ none_known (length words)

pub followed_is_accepted : (g : Parts) → InLimits g → (b : Bounds) (words : List Word) → 0 < length words → AllLeadOn (length words) 0 words → ends words ≡ true → followed g b (known_first words) 0 words ≡ None → accepts (machine g b) None first_state (lines_from words 0) ≡ true
followed_is_accepted g l b words some leads end none =
    on_next g b first_state words 0 some
    ∙ accepted_from g l b (length words) words 0 (known_first words) (omega arith) (known_length words) leads end none 0 first_state (omega arith) some (first_known (length words) some) first_state first_state (laws g b l).begins

-- ---- 5. a text without loops

lines_lead_on : (count : ℕ) (words : List Word) (at : ℕ) → AllLeadOn count at words → (unrolling words at).lines ≡ lines_from words at
lines_lead_on count [] at h = refl
lines_lead_on count (word ∷ words) at h =
    before (record { at = at; word = word }) (unrolling words (at + 1)) word h.0 ∙ ap (λ (ls : List Line). record { at = at; word = word } ∷ ls) (lines_lead_on count words (at + 1) h.1)
  where
    before : (line : Line) (u : Unrolling) (w : Word) → LeadsOn count at w → (word_before line u w).lines ≡ line ∷ u.lines
    before line u (Loop turns) h = absurd h
    before line u Next h = absurd h
    before line u w h = refl

-- what stands in a text where no loop is around, and is no loop itself
record Plain (count at : ℕ) (word : Word) (around : List ℕ) : Type 0 where
  leads : LeadsOn count at word
  none : around ≡ []

plain_word : (all : List Word) (at : ℕ) (around : List ℕ) (word : Word) → is_loop word ≡ false → loops_before at around word ≡ [] → StandsIn all at word → Plain (length all) at word around
plain_word all at around (BranchOnStatus mask target) never none stands = record { leads = (stands.forward, stands.there); none = none }
plain_word all at around (Jump target) never none stands = record { leads = (stands.forward, stands.there); none = none }
plain_word all at around (Loop turns) never none stands = absurd cc
plain_word all at around Next never none stands = absurd cc
plain_word all at around word never none stands = record { leads = tt; none = none }

all_lead : (all rest : List Word) (at : ℕ) → has_loop rest ≡ false → loops rest at ≡ [] → ((i : ℕ) (word : Word) → slice_get rest i ≡ Some word → StandsIn all (at + i) word) → AllLeadOn (length all) at rest
all_lead all [] at never none stands = tt
all_lead all (word ∷ rest) at never none stands =
    let both = neither_loop (is_loop word) (has_loop rest) never in
    let here : at + 0 ≡ at = omega arith in
    let p = plain_word all at (loops rest (at + 1)) word both.0 none (subst (λ (k : ℕ). StandsIn all k word) here (stands 0 word refl)) in
    (p.leads, all_lead all rest (at + 1) both.1 p.none (λ i w e. (let next : at + suc i ≡ at + 1 + i = omega arith in subst (λ (k : ℕ). StandsIn all k w) next (stands (suc i) w e))))

pub nested_leads_on : (words : List Word) → has_loop words ≡ false → IsNested words → AllLeadOn (length words) 0 words
nested_leads_on words never nested = all_lead words words 0 never nested.paired (λ i word e. (let here : 0 + i ≡ i = omega arith in subst (λ (k : ℕ). StandsIn words k word) (sym here) (nested.stands i word e)))

pub followed_is_safe : (text : Microprogram) (g : Parts) → InLimits g → 1 ≤ text.rows → has_loop text.words ≡ false → IsNested text.words → 0 < length text.words → ends text.words ≡ true → followed g (bounds_of text) (known_first text.words) 0 text.words ≡ None → IsSafe text g
unfolding unrolled
followed_is_safe text g l rows never nested some end none =
    let leads = nested_leads_on text.words never nested in
    let b = bounds_of text in
    accepted_is_safe text g rows
    (sym (alike g b (unrolled text.words) None first_state)
    ∙ (ap (accepts (machine g b) None first_state) (lines_lead_on (length text.words) text.words 0 leads) ∙ followed_is_accepted g l b text.words some leads end none))

-- ---- 6. the walk, place by place

followed_on : (g : Parts) (b : Bounds) (at : ℕ) (known : List (Option State)) (o : Option State) (words : List Word) (d : Word) → at < length words → o ≡ claim known at → followed g b known at (drop at words) ≡ fault_or (reason_at g b o (get_or words at d)) at (followed g b (led_from g known at o (get_or words at d)) (at + 1) (drop (at + 1) words))
followed_on g b at known o words d h is =
    let next : suc at ≡ at + 1 = omega arith in
    ap (followed g b known at) (drop-cons words at d h ∙ ap (λ (k : ℕ). get_or words at d ∷ drop k words) next)
    ∙ ap (λ (x : Option State). fault_or (reason_at g b x (get_or words at d)) at (followed g b (led_from g known at x (get_or words at d)) (at + 1) (drop (at + 1) words))) (sym is)

-- what is known before the word at a place, as the code reads it
pub claim_got : (known : List (Option State)) (at : ℕ) → get_or known at None ≡ claim known at
claim_got [] zero = refl
claim_got [] (suc at) = refl
claim_got (o ∷ known) zero = refl
claim_got (o ∷ known) (suc at) = claim_got known at

-- whatever stands for a place that isn't there
pub got : (known : List (Option State)) (at : ℕ) (d : Option State) → at < length known → get_or known at None ≡ get_or known at d
got [] at d h = absurd (omega (arith, h))
got (o ∷ known) zero d h = refl
got (o ∷ known) (suc at) d h = got known at d (omega (arith, h))

pub follow_goes_on : (g : Parts) (b : Bounds) (at : ℕ) (known new : List (Option State)) (o : Option State) (words : List Word) (d : Word) (before : Option Fault) → at < length words → o ≡ claim known at → before ≡ followed g b known at (drop at words) → reason_at g b o (get_or words at d) ≡ None → new ≡ led_from g known at o (get_or words at d) → before ≡ followed g b new (at + 1) (drop (at + 1) words)
follow_goes_on g b at known new o words d before h is e none led =
    e ∙ (followed_on g b at known o words d h is ∙ (ap (λ (r : Option Reason). fault_or r at (followed g b (led_from g known at o (get_or words at d)) (at + 1) (drop (at + 1) words))) none ∙ ap (λ (k : List (Option State)). followed g b k (at + 1) (drop (at + 1) words)) (sym led)))

-- as the code reads what is known
pub follow_on : (g : Parts) (b : Bounds) (at : ℕ) (known new : List (Option State)) (words : List Word) (d : Word) (before : Option Fault) → at < length words → before ≡ followed g b known at (drop at words) → reason_at g b (get_or known at None) (get_or words at d) ≡ None → new ≡ led_from g known at (claim known at) (get_or words at d) → before ≡ followed g b new (at + 1) (drop (at + 1) words)
follow_on g b at known new words d before h e none led =
    follow_goes_on g b at known new (get_or known at None) words d before h (claim_got known at) e none (led ∙ ap (λ (o : Option State). led_from g known at o (get_or words at d)) (sym (claim_got known at)))

pub follow_stops : (g : Parts) (b : Bounds) (at : ℕ) (known : List (Option State)) (o : Option State) (words : List Word) (d : Word) (before : Option Fault) (reason : Reason) → at < length words → o ≡ claim known at → before ≡ followed g b known at (drop at words) → reason_at g b o (get_or words at d) ≡ Some reason → Some (record { word = at; reason = reason }) ≡ before
follow_stops g b at known o words d before reason h is e some =
    sym (e ∙ (followed_on g b at known o words d h is ∙ ap (λ (r : Option Reason). fault_or r at (followed g b (led_from g known at o (get_or words at d)) (at + 1) (drop (at + 1) words))) some))
