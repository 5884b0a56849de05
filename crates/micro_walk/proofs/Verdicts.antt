-- What becomes of a text, by its kind.
use Rattle.std.proofs.Common.{◌≡◌, ℕ, ◌≤◌, Bool, true, false, ◌||◌, cond, List, [], ◌∷◌, Option, Some, None, refl, sym, ap, ap₂, ◌∙◌, subst, arith, length, inl, inr}
use Rattle.nand_geometry.specs.declared.parts.Parts.{Parts}
use Rattle.nand_geometry.specs.Limits.{InLimits}
use Rattle.micro_word.specs.declared.format.Format.TheVariants.{Two}
use Rattle.micro_word.specs.declared.word.Word.{Word}
use Rattle.micro_word.specs.declared.word.Word.TheVariants.{Loop}
use Rattle.micro_word.specs.Text.{Microprogram, FitsFormat}
use Rattle.micro_claims.specs.declared.refusal.Fault.{Fault}
use Rattle.std.specs.Prelude.{is_none}
use Rattle.std.proofs.lemmas.Bool.{and_parts}
use Rattle.micro_program.specs.Lines.{leads_on, all_lead_on}
use Rattle.micro_program.specs.Safe.{IsSafe}
use Rattle.micro_program.specs.Places.{IsShaped}
use Rattle.micro_walk.specs.Certified.{is_shown}
use Rattle.micro_claims.specs.declared.state.State.{State}
use Rattle.micro_claims.specs.declared.bounds.Bounds.{Bounds}
use Rattle.micro_claims.specs.State.{first_state, bounds_of}
use Rattle.micro_claims.specs.Certificate.{is_certified}
use Rattle.micro_claims.specs.Order.{machine}
use Rattle.micro_walk.specs.Shape.{or_fault, shape_fault}
use Rattle.micro_walk.specs.Faults.{known_first, followed, is_loop, has_loop, walked, before_loops, front_fault, early_fault, fault_of}
use Rattle.micro_walk.specs.Verdicts.{MayBe, IsOfWord, StandsRight, IsVerified}
use Rattle.micro_program.specs.Verified.{IsFewWalked}
use Rattle.micro_walk.proofs.Walking.{straight_fault, walked_is_safe}
use Rattle.micro_walk.proofs.Ahead.{followed_is_safe}
use Rattle.micro_walk.proofs.ShapeNested.{shape_ends, shape_is_right}
use Rattle.micro_walk.proofs.CertifiedTexts.{certified_is_safe}
use Rattle.micro_walk.proofs.Front.{early_without, front_of_word, stands_early, stands_behind, no_early}

-- each word is walked once
once_each : (words : List Word) → IsFewWalked words (length words)
once_each words = record { few = omega arith; fewer = λ h. omega arith }

-- ---- what was read off a text
pub record Read (text : Microprogram) (b : Bounds) (words : List Word) : Type 0 where
  bounds : b ≡ bounds_of text
  same : words ≡ text.words

pub was_read : (text : Microprogram) (b : Bounds) (words : List Word) → b ≡ bounds_of text → words ≡ text.words → Read text b words
was_read text b words bounds same = record { bounds = bounds; same = same }

of_text : {A : Type 0} (text : Microprogram) (b : Bounds) (words : List Word) (f : Bounds → List Word → A) (x : A) → Read text b words → f b words ≡ x → f (bounds_of text) text.words ≡ x
of_text text b words f x r h = ap₂ f (sym r.bounds) (sym r.same) ∙ h

-- ---- without branches and loops

straight_fault_of : (text : Microprogram) (g : Parts) → shape_fault text.words ≡ None → all_lead_on text.words ≡ true → fault_of g text ≡ walked g (bounds_of text) 0 (Some first_state) text.words
straight_fault_of text g shape leads = straight_fault g (bounds_of text) text.words leads ∙ ap (λ (o : Option Fault). or_fault o (walked g (bounds_of text) 0 (Some first_state) text.words)) shape

pub straight_refused : (text : Microprogram) (g : Parts) (b : Bounds) (words : List Word) (fault : Fault) → Read text b words → shape_fault text.words ≡ None → all_lead_on text.words ≡ true → walked g b 0 (Some first_state) words ≡ Some fault → MayBe g text fault
straight_refused text g b words fault r shape leads some =
    (inl (straight_fault_of text g shape leads ∙ of_text text b words (λ x ws. walked g x 0 (Some first_state) ws) (Some fault) r some))

-- a loop leads elsewhere
pub no_loops : (words : List Word) → all_lead_on words ≡ true → has_loop words ≡ false
no_loops [] h = refl
no_loops (word ∷ words) h =
    let parts = and_parts (leads_on word) (all_lead_on words) h in
    ap (λ (b : Bool). b || has_loop words) (no_loop word parts.0) ∙ no_loops words parts.1
  where
    no_loop : (w : Word) → leads_on w ≡ true → is_loop w ≡ false
    no_loop (Loop turns) l = absurd cc
    no_loop _ l = refl

pub straight_verified : (text : Microprogram) (g : Parts) (b : Bounds) (words : List Word) → Read text b words → FitsFormat Two text → shape_fault text.words ≡ None → all_lead_on text.words ≡ true → walked g b 0 (Some first_state) words ≡ None → IsVerified text g (length words)
straight_verified text g b words r fits shape leads is =
    let none = of_text text b words (λ x ws. walked g x 0 (Some first_state) ws) None r is in
    let ends = shape_ends text.words shape in
    record {
      safe = walked_is_safe text g fits.some_rows leads ends.0 ends.1 none;
      shaped = (shape_is_right text fits shape).1;
      few = subst (λ (ws : List Word). IsFewWalked ws (length words)) r.same (once_each words);
      faultless = straight_fault_of text g shape leads ∙ none;
      early = early_without g text (no_loops text.words leads) ∙ (straight_fault_of text g shape leads ∙ none);
    }

-- ---- with branches and without loops

branches_fault_of : (text : Microprogram) (g : Parts) → shape_fault text.words ≡ None → has_loop text.words ≡ false → fault_of g text ≡ followed g (bounds_of text) (known_first text.words) 0 text.words
branches_fault_of text g shape flat =
    ap (λ (o : Option Fault). or_fault o (cond (has_loop text.words) None (followed g (bounds_of text) (known_first text.words) 0 text.words))) shape
    ∙ ap (λ (b : Bool). cond b None (followed g (bounds_of text) (known_first text.words) 0 text.words)) flat

pub branches_refused : (text : Microprogram) (g : Parts) (b : Bounds) (words : List Word) (fault : Fault) → Read text b words → shape_fault text.words ≡ None → has_loop text.words ≡ false → followed g b (known_first words) 0 words ≡ Some fault → MayBe g text fault
branches_refused text g b words fault r shape flat some =
    (inl (branches_fault_of text g shape flat ∙ of_text text b words (λ x ws. followed g x (known_first ws) 0 ws) (Some fault) r some))

pub branches_verified : (text : Microprogram) (g : Parts) (b : Bounds) (words : List Word) → Read text b words → InLimits g → FitsFormat Two text → shape_fault text.words ≡ None → has_loop text.words ≡ false → followed g b (known_first words) 0 words ≡ None → IsVerified text g (length words)
branches_verified text g b words r limits fits shape flat is =
    let none = of_text text b words (λ x ws. followed g x (known_first ws) 0 ws) None r is in
    let ends = shape_ends text.words shape in
    let right = shape_is_right text fits shape in
    record {
      safe = followed_is_safe text g limits fits.some_rows flat right.0 ends.0 ends.1 none;
      shaped = right.1;
      few = subst (λ (ws : List Word). IsFewWalked ws (length words)) r.same (once_each words);
      faultless = branches_fault_of text g shape flat ∙ none;
      early = early_without g text flat ∙ (branches_fault_of text g shape flat ∙ none);
    }

-- ---- with loops

loops_fault_of : (text : Microprogram) (g : Parts) → shape_fault text.words ≡ None → has_loop text.words ≡ true → fault_of g text ≡ None
loops_fault_of text g shape loops =
    ap (λ (o : Option Fault). or_fault o (cond (has_loop text.words) None (followed g (bounds_of text) (known_first text.words) 0 text.words))) shape
    ∙ ap (λ (b : Bool). cond b None (followed g (bounds_of text) (known_first text.words) 0 text.words)) loops

of_loops : (text : Microprogram) (g : Parts) (b : Bounds) (words : List Word) (fault : Fault) → Read text b words → shape_fault text.words ≡ None → has_loop text.words ≡ true → IsOfWord g b words fault → StandsRight (early_fault g text) (before_loops text.words) fault → MayBe g text fault
of_loops text g b words fault r shape loops some stands =
    (inr (record { loops = loops; shape = shape; of_word = subst (λ (ws : List Word). IsOfWord g (bounds_of text) ws fault) r.same (subst (λ (x : Bounds). IsOfWord g x words fault) r.bounds some); stands = stands }))

-- before the first of them
pub front_refused : (text : Microprogram) (g : Parts) (b : Bounds) (words : List Word) (fault : Fault) → Read text b words → shape_fault text.words ≡ None → has_loop text.words ≡ true → front_fault g b words ≡ Some fault → MayBe g text fault
front_refused text g b words fault r shape loops is =
    of_loops text g b words fault r shape loops (front_of_word g b words fault is) (stands_early g text fault shape (of_text text b words (λ x ws. front_fault g x ws) (Some fault) r is))

-- from there on
pub loops_refused : (text : Microprogram) (g : Parts) (b : Bounds) (words : List Word) (fault : Fault) (first : ℕ) → Read text b words → shape_fault text.words ≡ None → has_loop text.words ≡ true → front_fault g b words ≡ None → first ≡ before_loops words → first ≤ fault.word → IsOfWord g b words fault → MayBe g text fault
loops_refused text g b words fault first r shape loops none is low some =
    of_loops text g b words fault r shape loops some
    (stands_behind g text fault shape (of_text text b words (λ x ws. front_fault g x ws) None r none) (subst (λ (k : ℕ). k ≤ fault.word) (is ∙ ap before_loops r.same) low))

pub loops_verified : (text : Microprogram) (g : Parts) (b : Bounds) (words : List Word) (claims : List (Option State)) (count : ℕ) → Read text b words → InLimits g → FitsFormat Two text → shape_fault text.words ≡ None → has_loop text.words ≡ true → front_fault g b words ≡ None → is_certified (machine g b) words claims ≡ true → IsFewWalked words count → IsVerified text g count
loops_verified text g b words claims count r limits fits shape loops none is few =
    let certified = of_text text b words (λ x ws. is_certified (machine g x) ws claims) true r is in
    let right = shape_is_right text fits shape in
    record {
      safe = certified_is_safe text g claims limits fits.some_rows right.0 certified;
      shaped = right.1;
      few = subst (λ (ws : List Word). IsFewWalked ws count) r.same few;
      faultless = loops_fault_of text g shape loops;
      early = no_early g text shape (of_text text b words (λ x ws. front_fault g x ws) None r none);
    }

-- ---- known to have no fault

neither : (a b : Option Fault) → or_fault a b ≡ None → (a ≡ None) × (b ≡ None)
neither None b h = (refl, h)
neither (Some fault) b h = absurd cc

pub faultless_verified : (text : Microprogram) (g : Parts) → InLimits g → FitsFormat Two text → has_loop text.words ≡ false → fault_of g text ≡ None → IsVerified text g 0
faultless_verified text g limits fits flat none =
    let both = neither (shape_fault text.words) (cond (has_loop text.words) None (followed g (bounds_of text) (known_first text.words) 0 text.words)) none in
    let all = branches_verified text g (bounds_of text) text.words (was_read text _ _ refl refl) limits fits both.0 flat (sym (branches_fault_of text g both.0 flat) ∙ none) in
    record { safe = all.safe; shaped = all.shaped; few = record { few = omega arith; fewer = λ h. omega arith }; faultless = none; early = all.early }

-- ---- with a certificate that was handed in

no_fault : (o : Option Fault) → is_none o ≡ true → o ≡ None
no_fault None h = refl
no_fault (Some fault) h = absurd cc

pub shown_verified : (text : Microprogram) (g : Parts) (claims : List (Option State)) → InLimits g → FitsFormat Two text → is_shown g text claims ≡ true → IsSafe text g × IsShaped text.words
shown_verified text g claims limits fits h =
    let both = and_parts (is_none (shape_fault text.words)) (is_certified (machine g (bounds_of text)) text.words claims) h in
    let right = shape_is_right text fits (no_fault (shape_fault text.words) both.0) in
    (certified_is_safe text g claims limits fits.some_rows right.0 both.1, right.1)
