-- The levels of a capture hold what a reader of the dump holds, each line at its place.
use Rattle.std.proofs.Common.{◌≡◌, ℕ, zero, suc, ◌+◌, ◌-◌, ◌<◌, ◌≤◌, ◌==◌, Bool, true, false, cond, ◌&&◌, List, [], ◌∷◌, ◌++◌, length, get_or, slice_set, Option, Some, None, refl, sym, ap, ◌∙◌, subst, arith}
use Rattle.std.specs.Prelude.{slice_get, nat_le}
use Rattle.std.specs.Option.{unwrap_or}
use Rattle.std.proofs.lemmas.Bool.{eqb-true, eqb-false, and_parts, false≢true, leb-true}
use Rattle.vcd_text.specs.declared.tokens.Level.{Level}
use Rattle.vcd_text.specs.declared.tokens.Level.TheVariants.{Unknown}
use Rattle.bus_signals.specs.declared.role.Role.{Role}
use Rattle.bus_signals.specs.declared.source.Source.{Source}
use Rattle.bus_signals.specs.Roles.{place_of}
use Rattle.wave_laws.specs.Readies.{held_of}
use Rattle.bus_capture.specs.Sampling.{level, shown_bit, bit_at, with_change}

-- the code of the line at a place
abbrev pub code_at : List Source → ℕ → Option ℕ
code_at [] p = None
code_at (s ∷ sources) p = cond (place_of s.role == p) (Some s.code) (code_at sources p)

abbrev pub is_absent : Option ℕ → Bool
is_absent None = true
is_absent (Some code) = false

-- no two of these lines stand at one place, and each is the only bit of a signal
abbrev pub are_apart : List Source → Bool
are_apart [] = true
are_apart (s ∷ sources) = is_absent (code_at sources (place_of s.role)) && (s.place == 0 && (nat_le 33 s.code && are_apart sources))

-- the level at a place after a change to this one
abbrev changed_to : Option ℕ → (code a : ℕ) → Level → Level
changed_to None code a x = x
changed_to (Some c) code a x = cond (c == code) (shown_bit a) x

-- the level that is held of a line, if there is one
abbrev pub held_level : Option ℕ → List ℕ → Level
held_level None held = Unknown
held_level (Some code) held = shown_bit (held_of code held)

-- each line at its place, and nothing elsewhere
abbrev pub Shows : List Source → List Level → List ℕ → Type 0
Shows sources levels held = (p : ℕ) → p < 68 → slice_get levels p ≡ Some (held_level (code_at sources p) held)

-- ---- 1. a change

get_set_here : (xs : List Level) (p : ℕ) (x y : Level) → slice_get xs p ≡ Some x → slice_get (slice_set xs p y) p ≡ Some y
get_set_here [] p x y h = absurd cc
get_set_here (z ∷ xs) zero x y h = refl
get_set_here (z ∷ xs) (suc p) x y h = get_set_here xs p x y h

get_set_there : (xs : List Level) (p q : ℕ) (y : Level) → (p ≡ q → ⊥) → slice_get (slice_set xs p y) q ≡ slice_get xs q
get_set_there [] p q y h = refl
get_set_there (z ∷ xs) zero zero y h = absurd (h refl)
get_set_there (z ∷ xs) zero (suc q) y h = refl
get_set_there (z ∷ xs) (suc p) zero y h = refl
get_set_there (z ∷ xs) (suc p) (suc q) y h = get_set_there xs p q y (λ e. h (ap suc e))

bit_first : (a place : ℕ) → place ≡ 0 → bit_at (a ∷ []) place ≡ shown_bit a
bit_first a place e = subst (λ (n : ℕ). bit_at (a ∷ []) n ≡ shown_bit a) (sym e) refl

pub absent_is : (o : Option ℕ) → is_absent o ≡ true → o ≡ None
absent_is None h = refl
absent_is (Some code) h = absurd (false≢true h)

same_again : (o : Option ℕ) (code a : ℕ) → changed_to o code a (shown_bit a) ≡ shown_bit a
same_again None code a = refl
same_again (Some c) code a = by (c == code)
  where
    by : (b : Bool) → cond b (shown_bit a) (shown_bit a) ≡ shown_bit a
    by true = refl
    by false = refl

record Apart (s : Source) (sources : List Source) : Type 0 where
  alone : code_at sources (place_of s.role) ≡ None
  bit : s.place ≡ 0
  code : 33 ≤ s.code
  rest : are_apart sources ≡ true

apart : (s : Source) (sources : List Source) → are_apart (s ∷ sources) ≡ true → Apart s sources
apart s sources h =
    let parts = and_parts (is_absent (code_at sources (place_of s.role))) (s.place == 0 && (nat_le 33 s.code && are_apart sources)) h in
    let only = and_parts (s.place == 0) (nat_le 33 s.code && are_apart sources) parts.1 in
    let last = and_parts (nat_le 33 s.code) (are_apart sources) only.1 in
    record { alone = absent_is (code_at sources (place_of s.role)) parts.0; bit = eqb-true s.place 0 only.0; code = leb-true 33 s.code last.0; rest = last.1 }

change_at : (sources : List Source) (levels : List Level) (code a p : ℕ) (x : Level) → are_apart sources ≡ true → slice_get levels p ≡ Some x →
    slice_get (with_change sources code (a ∷ []) levels) p ≡ Some (changed_to (code_at sources p) code a x)
change_at [] levels code a p x h e = e
change_at (s ∷ sources) levels code a p x h e =
    by (apart s sources h) (place_of s.role == p) (s.code == code) refl refl (λ levels x e. change_at sources levels code a p x (apart s sources h).rest e)
  where
    changed : Apart s sources → place_of s.role ≡ p → slice_get (slice_set levels (place_of s.role) (bit_at (a ∷ []) s.place)) p ≡ Some (shown_bit a)
    changed parts here =
        ap (λ (y : Level). slice_get (slice_set levels (place_of s.role) y) p) (bit_first a s.place parts.bit)
        ∙ ap (λ (n : ℕ). slice_get (slice_set levels n (shown_bit a)) p) here
        ∙ get_set_here levels p x (shown_bit a) e

    by : Apart s sources → (there same : Bool) → place_of s.role == p ≡ there → s.code == code ≡ same →
        ((levels : List Level) (x : Level) → slice_get levels p ≡ Some x → slice_get (with_change sources code (a ∷ []) levels) p ≡ Some (changed_to (code_at sources p) code a x)) →
        slice_get (with_change sources code (a ∷ []) (cond same (slice_set levels (place_of s.role) (bit_at (a ∷ []) s.place)) levels)) p
        ≡ Some (changed_to (cond there (Some s.code) (code_at sources p)) code a x)
    by parts true true is is' go =
        go (slice_set levels (place_of s.role) (bit_at (a ∷ []) s.place)) (shown_bit a) (changed parts (eqb-true (place_of s.role) p is))
        ∙ ap Some (same_again (code_at sources p) code a)
        ∙ sym (ap (λ (b : Bool). Some (cond b (shown_bit a) x)) is')
    by parts true false is is' go =
        go levels x e
        ∙ ap (λ (n : ℕ). Some (changed_to (code_at sources n) code a x)) (sym (eqb-true (place_of s.role) p is))
        ∙ ap (λ (o : Option ℕ). Some (changed_to o code a x)) parts.alone
        ∙ sym (ap (λ (b : Bool). Some (cond b (shown_bit a) x)) is')
    by parts false true is is' go =
        go (slice_set levels (place_of s.role) (bit_at (a ∷ []) s.place)) x
        (get_set_there levels (place_of s.role) p (bit_at (a ∷ []) s.place) (eqb-false (place_of s.role) p is) ∙ e)
    by parts false false is is' go = go levels x e

-- ---- 2. it is heard

get_here : (front : List ℕ) (a : ℕ) (rest : List ℕ) → get_or (front ++ (a ∷ rest)) (length front) 0 ≡ a
get_here [] a rest = refl
get_here (c ∷ front) a rest = get_here front a rest

get_there : (front : List ℕ) (a b : ℕ) (rest : List ℕ) (n : ℕ) → (n ≡ length front → ⊥) → get_or (front ++ (a ∷ rest)) n 0 ≡ get_or (front ++ (b ∷ rest)) n 0
get_there [] a b rest zero h = absurd (h refl)
get_there [] a b rest (suc n) h = refl
get_there (c ∷ front) a b rest zero h = refl
get_there (c ∷ front) a b rest (suc n) h = get_there front a b rest n (λ e. h (ap suc e))

-- each line has a code that stands for one
abbrev is_code : Option ℕ → Type 0
is_code None = Unit {0}
is_code (Some c) = 33 ≤ c

codes_are : (sources : List Source) (p : ℕ) → are_apart sources ≡ true → is_code (code_at sources p)
codes_are [] p h = tt
codes_are (s ∷ sources) p h = by (place_of s.role == p) (apart s sources h) (codes_are sources p (apart s sources h).rest)
  where
    by : (b : Bool) → Apart s sources → is_code (code_at sources p) → is_code (cond b (Some s.code) (code_at sources p))
    by true parts go = parts.code
    by false parts go = go

one_held : (o : Option ℕ) (front : List ℕ) (b a code : ℕ) (rest : List ℕ) → is_code o → code ≡ 33 + length front →
    changed_to o code a (held_level o (front ++ (b ∷ rest))) ≡ held_level o (front ++ (a ∷ rest))
one_held None front b a code rest h e = refl
one_held (Some c) front b a code rest h e = by (c == code) refl
  where
    by : (x : Bool) → c == code ≡ x → cond x (shown_bit a) (shown_bit (held_of c (front ++ (b ∷ rest)))) ≡ shown_bit (held_of c (front ++ (a ∷ rest)))
    by true is =
        let same = eqb-true c code is in
        let place : c - 33 ≡ length front = omega (arith, e, same) in
        ap shown_bit (sym (get_here front a rest) ∙ ap (λ (n : ℕ). get_or (front ++ (a ∷ rest)) n 0) (sym place))
    by false is =
        let other = eqb-false c code is in
        let above : 33 ≤ c = h in
        let differs : c - 33 ≡ length front → ⊥ = omega (arith, e, other, above) in
        ap shown_bit (get_there front b a rest (c - 33) differs)

pub one_shown : (sources : List Source) (levels : List Level) (front : List ℕ) (b a code : ℕ) (rest : List ℕ) → are_apart sources ≡ true → code ≡ 33 + length front →
    Shows sources levels (front ++ (b ∷ rest)) → Shows sources (with_change sources code (a ∷ []) levels) (front ++ (a ∷ rest))
one_shown sources levels front b a code rest h e shows p few =
    change_at sources levels code a p (held_level (code_at sources p) (front ++ (b ∷ rest))) h (shows p few)
    ∙ ap Some (one_held (code_at sources p) front b a code rest (codes_are sources p h) e)

-- ---- 3. the level of a line

pub level_shown : (sources : List Source) (levels : List Level) (held : List ℕ) (role : Role) → Shows sources levels held → place_of role < 68 →
    level levels role ≡ held_level (code_at sources (place_of role)) held
level_shown sources levels held role shows few = ap (λ (o : Option Level). unwrap_or o Unknown) (shows (place_of role) few)
