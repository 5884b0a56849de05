-- The walk over a text whose branches all lead to its last word.
use Rattle.std.proofs.Common.{◌≡◌, ℕ, ◌+◌, ◌<◌, ◌≤◌, Bool, true, ◌&&◌, List, [], ◌∷◌, Option, Some, None, refl, ap, ◌∙◌, arith, length}
use Rattle.std.specs.Prelude.{is_none}
use Rattle.std.proofs.lemmas.List.{length-set}
use Rattle.std.proofs.lemmas.Bool.{and_parts as both}
use Rattle.nand_geometry.specs.declared.parts.Parts.{Parts}
use Rattle.micro_word.specs.declared.word.Word.{Word}
use Rattle.micro_word.specs.declared.word.Word.TheVariants.{End, BranchOnStatus, Loop, Next, Jump}
use Rattle.micro_claims.specs.declared.refusal.Reason.{Reason}
use Rattle.micro_claims.specs.declared.state.State.{State}
use Rattle.micro_word.specs.Text.{Microprogram}
use Rattle.micro_claims.specs.State.{bounds_of}
use Rattle.micro_claims.specs.Reasons.{reason_against}
use Rattle.micro_claims.specs.Accepts.{state_after}
use Rattle.micro_claims.specs.Certificate.{claim}
use Rattle.micro_walk.specs.Faults.{met, reached, led, led_from, reason_at, fault_or, followed}
use Rattle.micro_walk.proofs.Ahead.{claim_there, claim_elsewhere}

-- each branch leads to the last word, and `end 1` stands behind the first `end`
abbrev pub AreLed : (last : ℕ) → List Word → Type 0
AreLed last [] = ⊥
AreLed last (End code ∷ rest) = rest ≡ End 1 ∷ []
AreLed last (BranchOnStatus mask target ∷ rest) = (target ≡ last) × AreLed last rest
AreLed last (Loop turns ∷ rest) = ⊥
AreLed last (Next ∷ rest) = ⊥
AreLed last (Jump target ∷ rest) = ⊥
AreLed last (word ∷ rest) = AreLed last rest

-- from a state, where another one may be known of the last word, nothing is against the words
abbrev pub goes_well : Parts → Microprogram → State → (failed : Option State) → List Word → Bool
goes_well g x s f [] = true
goes_well g x s f (End code ∷ rest) = is_none (reason_against g (bounds_of x) s (End code)) && is_none (reason_at g (bounds_of x) f (End 1))
goes_well g x s f (BranchOnStatus mask target ∷ rest) =
    is_none (reason_against g (bounds_of x) s (BranchOnStatus mask target))
    && goes_well g x (state_after g s (BranchOnStatus mask target)) (Some (met f (state_after g s (BranchOnStatus mask target)))) rest
goes_well g x s f (word ∷ rest) = is_none (reason_against g (bounds_of x) s word) && goes_well g x (state_after g s word) f rest

-- what is known before the word at a place, and of the last word; of those between them nothing
pub record Stands (known : List (Option State)) (at last : ℕ) (s : State) (f : Option State) : Type 0 where
  pub long : length known ≡ last + 1
  pub here : claim known at ≡ Some s
  pub failed : claim known last ≡ f
  pub between : (p : ℕ) → at < p → p < last → claim known p ≡ None

on_to_next : (known : List (Option State)) (at last : ℕ) (s t : State) (f : Option State) → Stands known at last s f → at + 1 < last → Stands (reached known (at + 1) t) (at + 1) last t f
on_to_next known at last s t f d more =
    record {
      long = length-set known (at + 1) (Some (met (claim known (at + 1)) t)) ∙ d.long;
      here =
          claim_there known (at + 1) (Some (met (claim known (at + 1)) t)) (let l = d.long in omega (arith, l, more))
          ∙ ap (λ (o : Option State). Some (met o t)) (d.between (at + 1) (omega arith) more);
      failed = claim_elsewhere known (at + 1) last (Some (met (claim known (at + 1)) t)) (λ e. omega (arith, e, more)) ∙ d.failed;
      between = λ p less before. claim_elsewhere known (at + 1) p (Some (met (claim known (at + 1)) t)) (λ e. omega (arith, e, less)) ∙ d.between p (omega (arith, less)) before;
    }

and_to_last : (known : List (Option State)) (at last : ℕ) (s t : State) (f : Option State) → Stands known at last s f → at < last → Stands (reached known last t) at last s (Some (met f t))
and_to_last known at last s t f d less =
    record {
      long = length-set known last (Some (met (claim known last) t)) ∙ d.long;
      here = claim_elsewhere known last at (Some (met (claim known last) t)) (λ e. omega (arith, e, less)) ∙ d.here;
      failed =
          claim_there known last (Some (met (claim known last) t)) (let l = d.long in omega (arith, l))
          ∙ ap (λ (o : Option State). Some (met o t)) d.failed;
      between = λ p after before. claim_elsewhere known last p (Some (met (claim known last) t)) (λ e. omega (arith, e, before)) ∙ d.between p after before;
    }

is_none_of : (o : Option Reason) → is_none o ≡ true → o ≡ None
is_none_of None h = refl
is_none_of (Some reason) h = cc

-- over a word with nothing against it
over : (g : Parts) (x : Microprogram) (known : List (Option State)) (at : ℕ) (s : State) (word : Word) (rest : List Word) → claim known at ≡ Some s → is_none (reason_against g (bounds_of x) s word) ≡ true → followed g (bounds_of x) known at (word ∷ rest) ≡ followed g (bounds_of x) (led g known at s word) (at + 1) rest
over g x known at s word rest here none =
    ap (λ (o : Option State). fault_or (reason_at g (bounds_of x) o word) at (followed g (bounds_of x) (led_from g known at o word) (at + 1) rest)) here
    ∙ ap (λ (r : Option Reason). fault_or r at (followed g (bounds_of x) (led g known at s word) (at + 1) rest)) (is_none_of (reason_against g (bounds_of x) s word) none)

-- at least the two ends
led_long : (last : ℕ) (words : List Word) → AreLed last words → 2 ≤ length words
led_long last [] h = absurd h
led_long last (End code ∷ rest) h = let long : length rest ≡ 1 = ap (λ (ws : List Word). length ws) h in omega (arith, long)
led_long last (BranchOnStatus mask target ∷ rest) h = let more = led_long last rest h.1 in omega (arith, more)
led_long last (Loop turns ∷ rest) h = absurd h
led_long last (Next ∷ rest) h = absurd h
led_long last (Jump target ∷ rest) h = absurd h
led_long last (word ∷ rest) h = let more = led_long last rest h in omega (arith, more)

-- where all goes well the walk finds nothing
pub well_followed : (g : Parts) (x : Microprogram) (words : List Word) (at last : ℕ) (known : List (Option State)) (s : State) (f : Option State)
    → at + length words ≡ last + 1 → Stands known at last s f → AreLed last words → goes_well g x s f words ≡ true → followed g (bounds_of x) known at words ≡ None
well_followed g x [] at last known s f long d led well = refl
well_followed g x (End code ∷ rest) at last known s f long d led well =
    let one : length rest ≡ 1 = ap (λ (ws : List Word). length ws) led in
    let next : at + 1 ≡ last = omega (arith, long, one) in
    let parts = both (is_none (reason_against g (bounds_of x) s (End code))) (is_none (reason_at g (bounds_of x) f (End 1))) well in
    over g x known at s (End code) rest d.here parts.0
    ∙ (ap (followed g (bounds_of x) known (at + 1)) led
    ∙ (ap (λ (q : ℕ). followed g (bounds_of x) known q (End 1 ∷ [])) next
    ∙ (ap (λ (o : Option State). fault_or (reason_at g (bounds_of x) o (End 1)) last None) d.failed
    ∙ ap (λ (r : Option Reason). fault_or r last None) (is_none_of (reason_at g (bounds_of x) f (End 1)) parts.1))))
well_followed g x (BranchOnStatus mask target ∷ rest) at last known s f long d led well =
    let some = led_long last rest led.1 in
    let t = state_after g s (BranchOnStatus mask target) in
    let less : at + 1 < last = omega (arith, some, long) in
    let parts = both (is_none (reason_against g (bounds_of x) s (BranchOnStatus mask target))) (goes_well g x t (Some (met f t)) rest) well in
    over g x known at s (BranchOnStatus mask target) rest d.here parts.0
    ∙ (ap (λ (q : ℕ). followed g (bounds_of x) (reached (reached known (at + 1) t) q t) (at + 1) rest) led.0
    ∙ well_followed g x rest (at + 1) last (reached (reached known (at + 1) t) last t) t (Some (met f t)) (omega (arith, long)) (and_to_last (reached known (at + 1) t) (at + 1) last t t f (on_to_next known at last s t f d less) less) led.1 parts.1)
well_followed g x (Loop turns ∷ rest) at last known s f long d led well = absurd led
well_followed g x (Next ∷ rest) at last known s f long d led well = absurd led
well_followed g x (Jump target ∷ rest) at last known s f long d led well = absurd led
well_followed g x (word ∷ rest) at last known s f long d led well =
    let some = led_long last rest led in
    let t = state_after g s word in
    let less : at + 1 < last = omega (arith, some, long) in
    let parts = both (is_none (reason_against g (bounds_of x) s word)) (goes_well g x t f rest) well in
    over g x known at s word rest d.here parts.0
    ∙ well_followed g x rest (at + 1) last (reached known (at + 1) t) t f (omega (arith, long)) (on_to_next known at last s t f d less) led parts.1
