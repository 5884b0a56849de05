-- The LUNs of a target as they are, and as they are seen, one by one.
use Rattle.std.proofs.Common.{◌≡◌, ℕ, zero, suc, ◌≤◌, Bool, true, false, cond, ◌||◌, List, [], ◌∷◌, length, Option, Some, None, refl, sym, ◌∙◌, arith}
use Rattle.std.specs.List.{list_any}
use Rattle.std.proofs.lemmas.Bool.{or_left, or_right}
use Rattle.onfi_cycle.specs.Effect.{is_off}
use Rattle.onfi_cycle.specs.LunView.{LunView}
use Rattle.onfi_cycle.specs.Rules.{driving, are_none, only, driver, is_some_and, driver_is, lun_is}
use Rattle.onfi_cycle.specs.State.{has_driver}
use Rattle.recording_laws.proofs.Luns.{IsBelow, IsSpare, shows_on}

-- each LUN and what is seen of it
abbrev pub Each : (LunView → LunView → Type 0) → List LunView → List LunView → Type 0
Each R [] [] = Unit {0}
Each R (t ∷ ts) (s ∷ ss) = R t s × Each R ts ss
Each R [] (s ∷ ss) = ⊥
Each R (t ∷ ts) [] = ⊥

pub each_more : (R Q : LunView → LunView → Type 0) → ((t s : LunView) → R t s → Q t s) → (ts ss : List LunView) → Each R ts ss → Each Q ts ss
each_more R Q f [] [] e = tt
each_more R Q f (t ∷ ts) (s ∷ ss) e = (f t s e.0, each_more R Q f ts ss e.1)
each_more R Q f [] (s ∷ ss) e = e
each_more R Q f (t ∷ ts) [] e = e

pub either_of : {A : Type 0} (a b : Bool) → (a || b) ≡ true → (a ≡ true → A) → (b ≡ true → A) → A
either_of true b h f k = f refl
either_of false b h f k = k h

-- of each that is seen: no page is programmed behind its ready
abbrev pub SpareSeen : LunView → LunView → Type 0
SpareSeen t s = IsSpare s

pub spare_each : (ts ss : List LunView) → Each IsBelow ts ss → Each SpareSeen ts ss
spare_each ts ss e = each_more IsBelow SpareSeen (λ t s b. b.spare_seen) ts ss e

-- ---- a test of some LUN

pub any_up : (R : LunView → LunView → Type 0) (p q : LunView → Bool) → ((t s : LunView) → R t s → p t ≡ true → q s ≡ true) → (ts ss : List LunView) → Each R ts ss → list_any p ts ≡ true → list_any q ss ≡ true
any_up R p q f [] [] e h = h
any_up R p q f (t ∷ ts) (s ∷ ss) e h = either_of (p t) (list_any p ts) h (λ x. or_left (q s) (list_any q ss) (f t s e.0 x)) (λ x. or_right (q s) (list_any q ss) (any_up R p q f ts ss e.1 x))
any_up R p q f [] (s ∷ ss) e h = absurd e
any_up R p q f (t ∷ ts) [] e h = absurd e

pub any_down : (R : LunView → LunView → Type 0) (p q : LunView → Bool) → ((t s : LunView) → R t s → q s ≡ true → p t ≡ true) → (ts ss : List LunView) → Each R ts ss → list_any q ss ≡ true → list_any p ts ≡ true
any_down R p q f [] [] e h = h
any_down R p q f (t ∷ ts) (s ∷ ss) e h = either_of (q s) (list_any q ss) h (λ x. or_left (p t) (list_any p ts) (f t s e.0 x)) (λ x. or_right (p t) (list_any p ts) (any_down R p q f ts ss e.1 x))
any_down R p q f [] (s ∷ ss) e h = absurd e
any_down R p q f (t ∷ ts) [] e h = absurd e

-- ---- a test of the LUN of a number

pub lun_up : (R : LunView → LunView → Type 0) (p q : LunView → Bool) → ((t s : LunView) → R t s → p t ≡ true → q s ≡ true) → (ts ss : List LunView) (n : ℕ) → Each R ts ss → lun_is p ts n ≡ true → lun_is q ss n ≡ true
lun_up R p q f [] [] n e h = cc
lun_up R p q f (t ∷ ts) (s ∷ ss) zero e h = f t s e.0 h
lun_up R p q f (t ∷ ts) (s ∷ ss) (suc n) e h = lun_up R p q f ts ss n e.1 h
lun_up R p q f [] (s ∷ ss) n e h = absurd e
lun_up R p q f (t ∷ ts) [] n e h = absurd e

pub lun_down : (R : LunView → LunView → Type 0) (p q : LunView → Bool) → ((t s : LunView) → R t s → q s ≡ true → p t ≡ true) → (ts ss : List LunView) (n : ℕ) → Each R ts ss → lun_is q ss n ≡ true → lun_is p ts n ≡ true
lun_down R p q f [] [] n e h = cc
lun_down R p q f (t ∷ ts) (s ∷ ss) zero e h = f t s e.0 h
lun_down R p q f (t ∷ ts) (s ∷ ss) (suc n) e h = lun_down R p q f ts ss n e.1 h
lun_down R p q f [] (s ∷ ss) n e h = absurd e
lun_down R p q f (t ∷ ts) [] n e h = absurd e

-- ---- the one driver

drives_too : (R : LunView → LunView → Type 0) (t s : LunView) (ts ss : List LunView) (a b : Bool) → a ≡ b → R t s → Each R ts ss → Each R (cond a ts (t ∷ ts)) (cond b ss (s ∷ ss))
drives_too R t s ts ss true true h r e = e
drives_too R t s ts ss false false h r e = (r, e)
drives_too R t s ts ss true false h r e = cc
drives_too R t s ts ss false true h r e = cc

each_driving : (R : LunView → LunView → Type 0) → ((t s : LunView) → R t s → is_off t.latch ≡ is_off s.latch) → (ts ss : List LunView) → Each R ts ss → Each R (driving ts) (driving ss)
each_driving R off [] [] e = tt
each_driving R off (t ∷ ts) (s ∷ ss) e = drives_too R t s (driving ts) (driving ss) (is_off t.latch) (is_off s.latch) (off t s e.0) e.0 (each_driving R off ts ss e.1)
each_driving R off [] (s ∷ ss) e = absurd e
each_driving R off (t ∷ ts) [] e = absurd e

-- both are there, or neither
abbrev pub Match : (LunView → LunView → Type 0) → Option LunView → Option LunView → Type 0
Match R None None = Unit {0}
Match R (Some t) (Some s) = R t s
Match R None (Some s) = ⊥
Match R (Some t) None = ⊥

only_match : (R : LunView → LunView → Type 0) (ts ss : List LunView) → Each R ts ss → Match R (only ts) (only ss)
only_match R [] [] e = tt
only_match R (t ∷ []) (s ∷ []) e = e.0
only_match R (t ∷ (u ∷ ts)) (s ∷ (v ∷ ss)) e = tt
only_match R (t ∷ []) (s ∷ (v ∷ ss)) e = absurd e.1
only_match R (t ∷ (u ∷ ts)) (s ∷ []) e = absurd e.1
only_match R [] (s ∷ ss) e = absurd e
only_match R (t ∷ ts) [] e = absurd e

pub drivers_match : (R : LunView → LunView → Type 0) → ((t s : LunView) → R t s → is_off t.latch ≡ is_off s.latch) → (ts ss : List LunView) → Each R ts ss → Match R (driver ts) (driver ss)
drivers_match R off ts ss e = only_match R (driving ts) (driving ss) (each_driving R off ts ss e)

match_up : (R : LunView → LunView → Type 0) (p q : LunView → Bool) → ((t s : LunView) → R t s → p t ≡ true → q s ≡ true) → (a b : Option LunView) → Match R a b → is_some_and p a ≡ true → is_some_and q b ≡ true
match_up R p q f None None m h = h
match_up R p q f (Some t) (Some s) m h = f t s m h
match_up R p q f None (Some s) m h = absurd m
match_up R p q f (Some t) None m h = absurd m

match_down : (R : LunView → LunView → Type 0) (p q : LunView → Bool) → ((t s : LunView) → R t s → q s ≡ true → p t ≡ true) → (a b : Option LunView) → Match R a b → is_some_and q b ≡ true → is_some_and p a ≡ true
match_down R p q f None None m h = h
match_down R p q f (Some t) (Some s) m h = f t s m h
match_down R p q f None (Some s) m h = absurd m
match_down R p q f (Some t) None m h = absurd m

pub driver_up : (R : LunView → LunView → Type 0) (p q : LunView → Bool) → ((t s : LunView) → R t s → is_off t.latch ≡ is_off s.latch) → ((t s : LunView) → R t s → p t ≡ true → q s ≡ true) → (ts ss : List LunView) → Each R ts ss →
    driver_is p ts ≡ true → driver_is q ss ≡ true
driver_up R p q off f ts ss e h = match_up R p q f (driver ts) (driver ss) (drivers_match R off ts ss e) h

pub driver_down : (R : LunView → LunView → Type 0) (p q : LunView → Bool) → ((t s : LunView) → R t s → is_off t.latch ≡ is_off s.latch) → ((t s : LunView) → R t s → q s ≡ true → p t ≡ true) → (ts ss : List LunView) → Each R ts ss →
    driver_is q ss ≡ true → driver_is p ts ≡ true
driver_down R p q off f ts ss e h = match_down R p q f (driver ts) (driver ss) (drivers_match R off ts ss e) h

-- ---- where there is one driver of both, it is the same LUN

one_alone : (l : List LunView) → is_some_and (λ v. true) (only l) ≡ true → length l ≡ 1
one_alone [] h = cc
one_alone (v ∷ []) h = refl
one_alone (v ∷ (u ∷ l)) h = cc

-- as many drive the bus as are seen to, or more
more_drive : (ts ss : List LunView) → Each IsBelow ts ss → length (driving ss) ≤ length (driving ts)
more_drive [] [] e = omega arith
more_drive (t ∷ ts) (s ∷ ss) e = at (is_off t.latch) refl (is_off s.latch) refl (more_drive ts ss e.1)
  where
    at : (a : Bool) → is_off t.latch ≡ a → (b : Bool) → is_off s.latch ≡ b → length (driving ss) ≤ length (driving ts) → length (cond b (driving ss) (s ∷ driving ss)) ≤ length (cond a (driving ts) (t ∷ driving ts))
    at true x true y rest = rest
    at false x true y rest = omega (arith, rest)
    at false x false y rest = omega (arith, rest)
    at true x false y rest = let on = shows_on s.latch t.latch e.0.latch y in cc
more_drive [] (s ∷ ss) e = absurd e
more_drive (t ∷ ts) [] e = absurd e

abbrev pub SameOff : LunView → LunView → Type 0
SameOff t s = is_off t.latch ≡ is_off s.latch

as_many : (ts ss : List LunView) → Each IsBelow ts ss → length (driving ts) ≤ length (driving ss) → Each SameOff ts ss
as_many [] [] e few = tt
as_many (t ∷ ts) (s ∷ ss) e few = at (is_off t.latch) refl (is_off s.latch) refl few (more_drive ts ss e.1) (as_many ts ss e.1)
  where
    at : (a : Bool) → is_off t.latch ≡ a → (b : Bool) → is_off s.latch ≡ b → length (cond a (driving ts) (t ∷ driving ts)) ≤ length (cond b (driving ss) (s ∷ driving ss)) →
        length (driving ss) ≤ length (driving ts) → (length (driving ts) ≤ length (driving ss) → Each SameOff ts ss) → Each SameOff (t ∷ ts) (s ∷ ss)
    at true x true y h rest go = (x ∙ sym y, go h)
    at false x false y h rest go = (x ∙ sym y, go (omega (arith, h)))
    at false x true y h rest go = absurd (omega (arith, h, rest))
    at true x false y h rest go = let on = shows_on s.latch t.latch e.0.latch y in cc
as_many [] (s ∷ ss) e few = absurd e
as_many (t ∷ ts) [] e few = absurd e

pub same_driver : (ts ss : List LunView) → Each IsBelow ts ss → has_driver ts ≡ true → has_driver ss ≡ true → Each SameOff ts ss
same_driver ts ss e t s = let a = one_alone (driving ts) t in let b = one_alone (driving ss) s in as_many ts ss e (omega (arith, a, b))

-- ---- what is true of the one driver

abbrev pub AllOn : (LunView → Bool) → List LunView → Type 0
AllOn test [] = Unit {0}
AllOn test (v ∷ vs) = (is_off v.latch ≡ false → test v ≡ true) × AllOn test vs

none_on : (test : LunView → Bool) (vs : List LunView) → are_none (driving vs) ≡ true → AllOn test vs
none_on test [] h = tt
none_on test (v ∷ vs) h = at (is_off v.latch) refl h (none_on test vs)
  where
    at : (b : Bool) → is_off v.latch ≡ b → are_none (cond b (driving vs) (v ∷ driving vs)) ≡ true → (are_none (driving vs) ≡ true → AllOn test vs) → AllOn test (v ∷ vs)
    at true off x rest = (λ on. cc, rest x)
    at false on x rest = cc

only_some : (test : LunView → Bool) (v : LunView) (b : Bool) → is_some_and test (cond b (Some v) None) ≡ true → (b ≡ true) × (test v ≡ true)
only_some test v true h = (refl, h)
only_some test v false h = cc

pub driver_on : (test : LunView → Bool) (vs : List LunView) → driver_is test vs ≡ true → AllOn test vs
driver_on test [] h = tt
driver_on test (v ∷ vs) h = at (is_off v.latch) refl h (driver_on test vs)
  where
    at : (b : Bool) → is_off v.latch ≡ b → is_some_and test (only (cond b (driving vs) (v ∷ driving vs))) ≡ true → (driver_is test vs ≡ true → AllOn test vs) → AllOn test (v ∷ vs)
    at true off x rest = (λ on. cc, rest x)
    at false on x rest = let is = only_some test v (are_none (driving vs)) x in (λ o. is.1, none_on test vs is.0)
