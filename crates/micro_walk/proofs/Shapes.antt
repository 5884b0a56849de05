-- Planes, places, flags and drifts: who claims less.
use Rattle.std.proofs.Common.{◌≡◌, ℕ, zero, suc, ◌==◌, ◌^◌, Bool, true, false, ◌&&◌, ◌||◌, cond, not, Option, Some, None, refl, sym, ap, ◌∙◌, eqb-true, arith}
use Rattle.std.specs.Prelude.{nat_lt}
use Rattle.std.proofs.lemmas.Bool.Decides.{nat_tests}
use Rattle.std.proofs.lemmas.Bool.{or_left, or_right, and_parts, and_from}
use Rattle.onfi_cycle.specs.declared.command.Command.{Command}
use Rattle.onfi_cycle.specs.Command.{command, opcode}
use Rattle.onfi_cycle.proofs.CommandBytes.{commands_have_bytes}
use Rattle.micro_claims.specs.declared.place.Place.{Place}
use Rattle.micro_claims.specs.declared.place.Place.TheVariants.{Closed, After, InData, InColumn, InFeatures, Unknown}
use Rattle.micro_claims.specs.declared.drift.Drift.{Drift}
use Rattle.micro_claims.specs.declared.planes.Planes.{Planes}
use Rattle.micro_claims.specs.Planes.{has_plane, no_planes, just_plane, either_plane, is_one_plane, sure_plane}
use Rattle.micro_claims.proofs.Sets.{has_self, has_more}
use Rattle.micro_claims.proofs.PlaneSets.{either_has, none_has}
use Rattle.micro_claims.proofs.HeldPlanes.{OnePlane, one_plane, same_plane}
use Rattle.micro_claims.specs.Order.{are_planes_within, AllAmong, same_code, same_place, may_within, May, same_drift_as, is_drift_within, DriftIs}

-- 2. planes

pub among_self : (p : Planes) → AllAmong p p
among_self p n here = here

pub planes_too : (s t a : Planes) → are_planes_within s t ≡ true → AllAmong a s → AllAmong a t
planes_too s t a h f n here = has_more (2 ^ n) s.0 t.0 h (f n here)

pub both_among : (p q r t : Planes) → AllAmong p r → AllAmong q t → AllAmong (either_plane p q) (either_plane r t)
both_among p q r t f h n here = either_has n r t ∙ by (has_plane n p) (has_plane n q) (has_plane n r) (has_plane n t) (f n) (h n) (sym (either_has n p q) ∙ here)
  where
    by : (a b c d : Bool) → (a ≡ true → c ≡ true) → (b ≡ true → d ≡ true) → (a || b) ≡ true → (c || d) ≡ true
    by true b c d f h e = or_left c d (f refl)
    by false b c d f h e = or_right c d (h e)

pub none_there : {X : Type 0} → (n : ℕ) → has_plane n no_planes ≡ true → X
none_there n h = absurd (let clash : true ≡ false = sym h ∙ none_has n in cc)

-- what is within is among
pub within_among : (p q : Planes) → are_planes_within p q ≡ true → AllAmong p q
within_among p q h n here = has_more (2 ^ n) p.0 q.0 h here

-- one plane has the plane that it is
own_plane : (p : Planes) (o : OnePlane p) → has_plane o.plane p ≡ true
own_plane p o = ap (has_plane o.plane) o.is ∙ has_self (2 ^ o.plane)

-- of which plane it is sure that it is meant, that it is
pub sure_among : (s a : Planes) → is_one_plane a ≡ true → AllAmong a s → AllAmong (sure_plane s) (sure_plane a)
sure_among s a one f n here = at (is_one_plane s) refl here
  where
    o : OnePlane a
    o = one_plane a one

    at : (b : Bool) → is_one_plane s ≡ b → has_plane n (cond b s no_planes) ≡ true → has_plane n (sure_plane a) ≡ true
    at true e h =
        let same : n ≡ o.plane = same_plane n o.plane s e h (f o.plane (own_plane a o)) in
        ap (λ (b : Bool). has_plane n (cond b a no_planes)) one ∙ (ap (λ (m : ℕ). has_plane m a) same ∙ own_plane a o)
    at false e h = none_there n h

-- one plane that is among planes within others is within those
pub one_within : (rs hs ra ha : Planes) → is_one_plane ra ≡ true → AllAmong ra rs → AllAmong hs ha → May (are_planes_within rs hs) (are_planes_within ra ha)
one_within rs hs ra ha one f h e =
    let o = one_plane ra one in
    ap (λ (p : Planes). are_planes_within p ha) o.is ∙ h o.plane (within_among rs hs e o.plane (f o.plane (own_plane ra o)))

-- a plane that there may be is one plane
pub one_just : (n : ℕ) → nat_lt 3 n ≡ false → is_one_plane (just_plane n) ≡ true
one_just zero h = refl
one_just (suc zero) h = refl
one_just (suc (suc zero)) h = refl
one_just (suc (suc (suc zero))) h = refl
one_just (suc (suc (suc (suc n)))) h = absurd (let more : nat_lt 3 (suc (suc (suc (suc n)))) ≡ true = grind (arith, nat_tests) in let clash : true ≡ false = sym more ∙ h in cc)

same_codes : (c d : Command) (o p : Option ℕ) → opcode c ≡ o → opcode d ≡ p → same_code o p ≡ true → c ≡ d
same_codes c d None p e f h = absurd cc
same_codes c d (Some n) None e f h = absurd cc
same_codes c d (Some n) (Some m) e f h = sym (commands_have_bytes.command_of_byte c n e) ∙ (ap command (eqb-true n m h) ∙ commands_have_bytes.command_of_byte d m f)

pub same_is : (p q : Place) → same_place p q ≡ true → p ≡ q
same_is Closed Closed h = refl
same_is (After c n) (After d m) h =
    let parts = and_parts (same_code (opcode c) (opcode d)) (n == m) h in
    let x = same_codes c d (opcode c) (opcode d) refl refl parts.0 in
    let y = eqb-true n m parts.1 in
    ap (λ (k : Command). After k n) x ∙ ap (λ (k : ℕ). After d k) y
same_is InData InData h = refl
same_is (InColumn n) (InColumn m) h = ap (λ (k : ℕ). InColumn k) (eqb-true n m h)
same_is (InFeatures n) (InFeatures m) h = ap (λ (k : ℕ). InFeatures k) (eqb-true n m h)
same_is Closed (After d m) h = absurd cc
same_is Closed InData h = absurd cc
same_is Closed (InColumn m) h = absurd cc
same_is Closed (InFeatures m) h = absurd cc
same_is (After c n) Closed h = absurd cc
same_is (After c n) InData h = absurd cc
same_is (After c n) (InColumn m) h = absurd cc
same_is (After c n) (InFeatures m) h = absurd cc
same_is InData Closed h = absurd cc
same_is InData (After d m) h = absurd cc
same_is InData (InColumn m) h = absurd cc
same_is InData (InFeatures m) h = absurd cc
same_is (InColumn n) Closed h = absurd cc
same_is (InColumn n) (After d m) h = absurd cc
same_is (InColumn n) InData h = absurd cc
same_is (InColumn n) (InFeatures m) h = absurd cc
same_is (InFeatures n) Closed h = absurd cc
same_is (InFeatures n) (After d m) h = absurd cc
same_is (InFeatures n) InData h = absurd cc
same_is (InFeatures n) (InColumn m) h = absurd cc
same_is Unknown q h = absurd cc
same_is p Unknown h = absurd (never p h)
  where
    never : (p : Place) → same_place p Unknown ≡ true → ⊥
    never Closed h = cc
    never (After c n) h = cc
    never InData h = cc
    never (InColumn n) h = cc
    never (InFeatures n) h = cc
    never Unknown h = cc

-- 3. flags: what may be in the actual claim may be in the other

pub may_too : (s t a : Bool) → may_within s t ≡ true → May a s → May a t
may_too true true a h f e = refl
may_too true false a h f e = absurd cc
may_too false t a h f e = absurd (let x = f e in cc)

pub must_too : (s t a : Bool) → may_within t s ≡ true → May s a → May t a
must_too s false a h f e = absurd cc
must_too true true a h f e = f refl
must_too false true a h f e = absurd cc

pub and_on : (a s b t : Bool) → May a s → May b t → May (a && b) (s && t)
and_on true s b t f h e = and_from s t (f refl) (h e)
and_on false s b t f h e = absurd cc

pub or_on : (a s b t : Bool) → May a s → May b t → May (a || b) (s || t)
or_on true s b t f h e = or_left s t (f refl)
or_on false s b t f h e = or_right s t (h e)

pub not_on : (a s : Bool) → May s a → May (not a) (not s)
not_on a true f e = absurd (let x = f refl in cc)
not_on a false f e = refl

pub same_on : (b : Bool) → May b b
same_on b e = e

-- what isn't against the other isn't against the actual claim
pub no_too : (a s : Bool) → May a s → s ≡ false → a ≡ false
no_too true s f e = absurd (let x = f refl in cc)
no_too false s f e = refl

-- 4. drifts

same_drift_is : (d e : Drift) → same_drift_as d e ≡ true → d ≡ e
same_drift_is d e h =
    let parts = and_parts (d.ahead == e.ahead) (d.behind == e.behind) h in
    let x = eqb-true d.ahead e.ahead parts.0 in
    let y = eqb-true d.behind e.behind parts.1 in
    λ i. record { ahead = x i; behind = y i }

pub drift_is : (d e : Drift) → same_drift_as d e ≡ true → d ≡ e
drift_is = same_drift_is

pub drift_too : (s t a : Option Drift) → is_drift_within s t ≡ true → DriftIs s a → DriftIs t a
drift_too s None a h f = tt
drift_too None (Some e) a h f = absurd cc
drift_too (Some d) (Some e) a h f = f ∙ ap (λ (x : Drift). Some x) (same_drift_is d e h)
