-- What stands before the first loop of a text.
use Rattle.std.proofs.Common.{◌≡◌, ℕ, zero, suc, ◌+◌, ◌<◌, ◌≤◌, Bool, true, false, ◌||◌, cond, List, [], ◌∷◌, Option, Some, None, refl, sym, ap, ◌∙◌, subst, arith, length, take, drop, get_or}
use Rattle.std.specs.Prelude.{slice_get, replicate}
use Rattle.std.proofs.lemmas.List.{take-replicate, length-take-le}
use Rattle.std.proofs.Math.Seq.{drop-cons}
use Rattle.nand_geometry.specs.declared.parts.Parts.{Parts}
use Rattle.micro_word.specs.declared.word.Word.{Word}
use Rattle.micro_word.specs.Text.{Microprogram}
use Rattle.micro_claims.specs.declared.refusal.Reason.{Reason}
use Rattle.micro_claims.specs.declared.refusal.Fault.{Fault}
use Rattle.micro_claims.specs.declared.state.State.{State}
use Rattle.micro_claims.specs.declared.bounds.Bounds.{Bounds}
use Rattle.micro_claims.specs.State.{bounds_of}
use Rattle.micro_claims.specs.Reasons.{reason_against}
use Rattle.micro_claims.specs.Certificate.{claim}
use Rattle.micro_walk.specs.Shape.{or_fault, shape_fault}
use Rattle.micro_walk.specs.Faults.{led_from, known_first, reason_at, fault_or, followed, is_loop, has_loop, before_loops, front, front_fault, early_fault, fault_of}
use Rattle.micro_walk.specs.Verdicts.{IsOfWord, StandsRight}

-- 1. how many words stand there

pub none_more : (words : List Word) → before_loops words ≤ length words
none_more [] = omega arith
none_more (word ∷ words) = at (is_loop word) (none_more words)
  where
    at : (b : Bool) → before_loops words ≤ length words → cond b 0 (suc (before_loops words)) ≤ length (word ∷ words)
    at true fewer = omega arith
    at false fewer = omega (arith, fewer)

pub some_loop : (words : List Word) → has_loop words ≡ true → before_loops words < length words
some_loop [] h = absurd cc
some_loop (word ∷ words) h = at (is_loop word) (some_loop words) h
  where
    at : (b : Bool) → (has_loop words ≡ true → before_loops words < length words) → (b || has_loop words) ≡ true → cond b 0 (suc (before_loops words)) < length (word ∷ words)
    at true more h = omega arith
    at false more h = let fewer = more h in omega (arith, fewer)

-- where the first loop is at this place
pub stops_there : (words : List Word) (at : ℕ) (d : Word) → at < length words → before_loops words ≡ at + before_loops (drop at words) → is_loop (get_or words at d) ≡ true → before_loops words ≡ at
stops_there words at d low e loop =
    let here : before_loops (drop at words) ≡ 0 = ap before_loops (drop-cons words at d low) ∙ ap (λ (b : Bool). cond b 0 (suc (before_loops (drop (suc at) words)))) loop in
    let behind : at + 0 ≡ at = omega arith in
    e ∙ (ap (λ (k : ℕ). at + k) here ∙ behind)

pub one_more : (words : List Word) (at : ℕ) (d : Word) → at < length words → before_loops words ≡ at + before_loops (drop at words) → is_loop (get_or words at d) ≡ false → before_loops words ≡ at + 1 + before_loops (drop (at + 1) words)
one_more words at d low e loop =
    let here : before_loops (drop at words) ≡ suc (before_loops (drop (suc at) words)) = ap before_loops (drop-cons words at d low) ∙ ap (λ (b : Bool). cond b 0 (suc (before_loops (drop (suc at) words)))) loop in
    let next : suc at ≡ at + 1 = omega arith in
    let there : before_loops (drop (suc at) words) ≡ before_loops (drop (at + 1) words) = ap (λ (k : ℕ). before_loops (drop k words)) next in
    omega (arith, e, here, there)

-- room for what is known before each of so many words
pub front_room : (words : List Word) (count : ℕ) (known part : List (Option State)) → count ≤ length words → known ≡ replicate (length words) None → part ≡ take count known → part ≡ replicate (length (take count words)) None
front_room words count known part few room is =
    is ∙ (ap (take count) room ∙ (take-replicate count (length words) None few ∙ ap (λ (n : ℕ). replicate n None) (sym (length-take-le count words few))))

-- 2. without loops these are all words

front_whole : (words : List Word) → has_loop words ≡ false → front words ≡ words
front_whole [] h = refl
front_whole (word ∷ words) h = at (is_loop word) (front_whole words) h
  where
    at : (b : Bool) → (has_loop words ≡ false → front words ≡ words) → (b || has_loop words) ≡ false → take (cond b 0 (suc (before_loops words))) (word ∷ words) ≡ word ∷ words
    at true more h = absurd cc
    at false more h = ap (λ (ws : List Word). word ∷ ws) (more h)

pub early_without : (g : Parts) (text : Microprogram) → has_loop text.words ≡ false → early_fault g text ≡ fault_of g text
early_without g text flat =
    ap (λ (ws : List Word). or_fault (shape_fault text.words) (followed g (bounds_of text) (known_first ws) 0 ws)) (front_whole text.words flat)
    ∙ sym (ap (λ (b : Bool). or_fault (shape_fault text.words) (cond b None (followed g (bounds_of text) (known_first text.words) 0 text.words))) flat)

-- 3. a fault there is of a word there

-- a word of these, with a reason against it by some claim
record IsThere (g : Parts) (b : Bounds) (at : ℕ) (words : List Word) (fault : Fault) : Type 0 where
  k : ℕ
  place : fault.word ≡ at + k
  word : Word
  there : slice_get words k ≡ Some word
  claimed : State
  against : reason_against g b claimed word ≡ Some fault.reason

same_fault : (x y : Fault) → Some x ≡ Some y → x ≡ y
same_fault x y h = cc

is_there : (g : Parts) (b : Bounds) (known : List (Option State)) (at : ℕ) (words : List Word) (fault : Fault) → followed g b known at words ≡ Some fault → IsThere g b at words fault
is_there g b known at [] fault h = absurd cc
is_there g b known at (word ∷ words) fault h =
    by (claim known at) refl (reason_at g b (claim known at) word) refl (is_there g b (led_from g known at (claim known at) word) (at + 1) words fault) h
  where
    by : (o : Option State) → claim known at ≡ o → (r : Option Reason) → reason_at g b (claim known at) word ≡ r
        → (followed g b (led_from g known at (claim known at) word) (at + 1) words ≡ Some fault → IsThere g b (at + 1) words fault)
        → fault_or r at (followed g b (led_from g known at (claim known at) word) (at + 1) words) ≡ Some fault → IsThere g b at (word ∷ words) fault
    by (Some s) e (Some reason) f more h =
        let same : record { word = at; reason = reason } ≡ fault = same_fault (record { word = at; reason = reason }) fault h in
        let against : reason_against g b s word ≡ Some reason = sym (ap (λ (o : Option State). reason_at g b o word) e) ∙ f in
        subst (λ (x : Fault). IsThere g b at (word ∷ words) x) same (record { k = 0; place = omega arith; word = word; there = refl; claimed = s; against = against })
    by None e (Some reason) f more h =
        let none : reason_at g b (claim known at) word ≡ None = ap (λ (o : Option State). reason_at g b o word) e in
        absurd cc
    by o e None f more h =
        let later = more h in
        record { k = suc later.k; place = (let p = later.place in omega (arith, p)); word = later.word; there = later.there; claimed = later.claimed; against = later.against }

taken_there : (n : ℕ) (words : List Word) (k : ℕ) (word : Word) → slice_get (take n words) k ≡ Some word → slice_get words k ≡ Some word
taken_there zero words k word h = absurd cc
taken_there (suc n) [] k word h = h
taken_there (suc n) (w ∷ words) zero word h = h
taken_there (suc n) (w ∷ words) (suc k) word h = taken_there n words k word h

pub front_of_word : (g : Parts) (b : Bounds) (words : List Word) (fault : Fault) → front_fault g b words ≡ Some fault → IsOfWord g b words fault
front_of_word g b words fault h =
    let t = is_there g b (known_first (front words)) 0 (front words) fault h in
    let place : t.k ≡ fault.word = (let p = t.place in omega (arith, p)) in
    record {
      word = t.word;
      there = ap (slice_get words) (sym place) ∙ taken_there (before_loops words) words t.k t.word t.there;
      claimed = t.claimed;
      against = t.against;
    }

-- 4. where a fault of a text with loops stands

early_is : (g : Parts) (text : Microprogram) (o : Option Fault) → shape_fault text.words ≡ None → front_fault g (bounds_of text) text.words ≡ o → early_fault g text ≡ o
early_is g text o shape is = ap (λ (x : Option Fault). or_fault x (front_fault g (bounds_of text) text.words)) shape ∙ is

pub stands_early : (g : Parts) (text : Microprogram) (fault : Fault) → shape_fault text.words ≡ None → front_fault g (bounds_of text) text.words ≡ Some fault → StandsRight (early_fault g text) (before_loops text.words) fault
stands_early g text fault shape is = subst (λ (o : Option Fault). StandsRight o (before_loops text.words) fault) (sym (early_is g text (Some fault) shape is)) refl

pub stands_behind : (g : Parts) (text : Microprogram) (fault : Fault) → shape_fault text.words ≡ None → front_fault g (bounds_of text) text.words ≡ None → before_loops text.words ≤ fault.word → StandsRight (early_fault g text) (before_loops text.words) fault
stands_behind g text fault shape is low = subst (λ (o : Option Fault). StandsRight o (before_loops text.words) fault) (sym (early_is g text None shape is)) low

pub no_early : (g : Parts) (text : Microprogram) → shape_fault text.words ≡ None → front_fault g (bounds_of text) text.words ≡ None → early_fault g text ≡ None
no_early g text shape is = early_is g text None shape is
