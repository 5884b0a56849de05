-- What is claimed of copies: each step leaves of a claim what is claimed of what it leaves of an actual claim.
use Rattle.std.proofs.Common.{◌≡◌, ℕ, zero, suc, ◌==◌, ◌<◌, ◌^◌, ◌-◌, Bool, true, false, ◌&&◌, cond, not, Option, Some, None, refl, sym, ap, ◌∙◌, subst, arith, eq-eqb, inl, inr}
use Rattle.std.specs.Prelude.{bit_and, min}
use Rattle.std.specs.Int.{bit_at}
use Rattle.std.proofs.lemmas.Bool.{and_parts, and_from, not-true, or_cases}
use Rattle.std.proofs.lemmas.Nat.Bits.{bit_at-lt, bit_at_and, same_from_bits}
use Rattle.nand_geometry.specs.declared.parts.Parts.{Parts}
use Rattle.micro_claims.specs.Sets.{has}
use Rattle.micro_claims.specs.declared.planes.Planes.{Planes}
use Rattle.micro_claims.specs.Planes.{has_plane, no_planes, either_plane, other_planes, is_one_plane, sure_plane, share_a_plane, are_planes_within}
use Rattle.micro_claims.specs.declared.known_lun.KnownLun.{KnownLun}
use Rattle.micro_claims.specs.declared.named_row.NamedRow.{NamedRow}
use Rattle.micro_claims.specs.declared.drift.Drift.{Drift}
use Rattle.micro_claims.specs.declared.queued_rows.QueuedRows.{QueuedRows}
use Rattle.micro_claims.specs.declared.queued_rows.QueuedRows.TheVariants.{NoRows, SomeRows, SomeReads, AnyRows}
use Rattle.micro_claims.specs.declared.copies.Copies.{Copies}
use Rattle.micro_claims.specs.Against.{may_be_queued}
use Rattle.micro_claims.specs.Copies.{parity_of, if_even, if_odd, copies_moved, copies_queued, copies_cleared, first_copies, more_copies}
use Rattle.micro_claims.specs.Leaves.{same_drift, gathers, copied_beside, alike_beside, held_by_copy, copies_read}
use Rattle.micro_claims.specs.Order.{May, AllAmong, DriftIs, NameIs, NamedIs, IsFineName, IsFineNamed, RowsAre, LunAt, CopiesAt}
use Rattle.micro_claims.proofs.Sets.{has_bit, has_both, has_self}
use Rattle.micro_claims.proofs.PlaneSets.{among_first, among_second, either_has}
use Rattle.micro_claims.proofs.HeldPlanes.{one_plane, same_plane}
use Rattle.micro_walk.proofs.Shapes.{among_self, both_among, none_there, sure_among, within_among, not_on}
use Rattle.micro_walk.proofs.TestsKept.{common_on, queued_on}

-- 1. sets of planes

-- what is among others is within them
among_within : (p q : Planes) → AllAmong p q → are_planes_within p q ≡ true
among_within p q f = eq-eqb (bit_and q.0 p.0) p.0 (same_from_bits (bit_and q.0 p.0) p.0 (λ i. bit_at_and q.0 p.0 i ∙ least (bit_at q.0 i) (bit_at p.0 i) (bit_at-lt q.0 i) (bit_at-lt p.0 i) (kept i)))
  where
    kept : (i : ℕ) → (bit_at p.0 i == 1) ≡ true → (bit_at q.0 i == 1) ≡ true
    kept i h = sym (has_bit i q.0) ∙ f i (has_bit i p.0 ∙ h)

    least : (x y : ℕ) → x < 2 → y < 2 → ((y == 1) ≡ true → (x == 1) ≡ true) → min x y ≡ y
    least zero zero l m h = refl
    least (suc zero) zero l m h = refl
    least (suc (suc x)) zero l m h = absurd (omega (arith, l))
    least zero (suc zero) l m h = absurd (let e = h refl in cc)
    least (suc zero) (suc zero) l m h = refl
    least (suc (suc x)) (suc zero) l m h = absurd (omega (arith, l))
    least x (suc (suc y)) l m h = absurd (omega (arith, m))

others_among : (p q r : Planes) → AllAmong q r → AllAmong (other_planes p q) (other_planes p r)
others_among p q r f n h =
    let both = and_parts (has_plane n q) (has (2 ^ n) (15 - p.0)) (sym (has_both n q.0 (15 - p.0)) ∙ h) in
    has_both n r.0 (15 - p.0) ∙ and_from (has_plane n r) (has (2 ^ n) (15 - p.0)) (f n both.0) both.1

-- one plane among one plane is that
one_same : (n m : Planes) → is_one_plane n ≡ true → is_one_plane m ≡ true → AllAmong m n → m ≡ n
one_same n m one other f =
    let o = one_plane m other in
    let p = one_plane n one in
    let there : has_plane o.plane n ≡ true = f o.plane (ap (has_plane o.plane) o.is ∙ has_self (2 ^ o.plane)) in
    let same : o.plane ≡ p.plane = same_plane o.plane p.plane n one there (ap (has_plane p.plane) p.is ∙ has_self (2 ^ p.plane)) in
    o.is ∙ (ap (λ (k : ℕ). record { 0 = 2 ^ k }) same ∙ sym p.is)

sure_one : (m : Planes) → is_one_plane m ≡ true → sure_plane m ≡ m
sure_one m one = ap (λ (b : Bool). cond b m no_planes) one

-- 2. parities

abbrev pub ParityIs : Option Bool → Option Bool → Type 0
ParityIs None p = Unit {0}
ParityIs (Some b) p = p ≡ Some b

pub parity_same : (o : Option Bool) → ParityIs o o
parity_same None = tt
parity_same (Some b) = refl

pub parity_is : (pages : ℕ) (s a : Option Drift) → DriftIs s a → ParityIs (parity_of pages s) (parity_of pages a)
parity_is pages None a e = tt
parity_is pages (Some d) a e = subst (λ (o : Option Drift). ParityIs (parity_of pages (Some d)) (parity_of pages o)) (sym e) (parity_same (parity_of pages (Some d)))

even_on : (o p : Option Bool) (ps ms : Planes) → ParityIs o p → AllAmong ps ms → AllAmong (if_even o ps) (if_even p ms)
even_on None p ps ms e f = λ n h. none_there n h
even_on (Some true) p ps ms e f = subst (λ (b : Option Bool). AllAmong ps (if_even b ms)) (sym e) f
even_on (Some false) p ps ms e f = λ n h. none_there n h

odd_on : (o p : Option Bool) (ps ms : Planes) → ParityIs o p → AllAmong ps ms → AllAmong (if_odd o ps) (if_odd p ms)
odd_on None p ps ms e f = λ n h. none_there n h
odd_on (Some true) p ps ms e f = λ n h. none_there n h
odd_on (Some false) p ps ms e f = subst (λ (b : Option Bool). AllAmong ps (if_odd b ms)) (sym e) f

-- 3. what a word leaves of copies

pub copies_self : (c : Copies) → CopiesAt c c
copies_self c = record { even = among_self c.even; odd = among_self c.odd; copying = λ h. h; keeps = λ h. h; holds = λ h. h }

pub queued_copies : (s a : Copies) → CopiesAt s a → CopiesAt (copies_queued s) (copies_queued a)
queued_copies s a f = record { even = f.even; odd = f.odd; copying = λ h. h; keeps = λ h. h; holds = f.holds }

pub cleared_copies : (s a : Copies) → CopiesAt s a → CopiesAt (copies_cleared s) (copies_cleared a)
cleared_copies s a f = record { even = among_self no_planes; odd = among_self no_planes; copying = f.copying; keeps = f.keeps; holds = λ h. h }

pub moved_copies : (o p : Option Bool) (s a : Copies) → ParityIs o p → CopiesAt s a → CopiesAt (copies_moved o s) (copies_moved p a)
moved_copies None p s a e f = at p
  where
    at : (p : Option Bool) → CopiesAt (copies_moved None s) (copies_moved p a)
    at None = record { even = among_self no_planes; odd = among_self no_planes; copying = f.copying; keeps = f.keeps; holds = f.holds }
    at (Some true) = record { even = λ n h. none_there n h; odd = λ n h. none_there n h; copying = f.copying; keeps = f.keeps; holds = f.holds }
    at (Some false) = record { even = λ n h. none_there n h; odd = λ n h. none_there n h; copying = f.copying; keeps = f.keeps; holds = f.holds }
moved_copies (Some true) p s a e f = subst (λ (b : Option Bool). CopiesAt s (copies_moved b a)) (sym e) f
moved_copies (Some false) p s a e f = subst (λ (b : Option Bool). CopiesAt (copies_moved (Some false) s) (copies_moved b a)) (sym e) (record { even = f.odd; odd = f.even; copying = f.copying; keeps = f.keeps; holds = f.holds })

first_on : (o p : Option Bool) (ps ms : Planes) → ParityIs o p → AllAmong ps ms → CopiesAt (first_copies o ps) (first_copies p ms)
first_on o p ps ms e f = record { even = even_on o p ps ms e f; odd = odd_on o p ps ms e f; copying = λ h. h; keeps = λ h. h; holds = λ h. h }

-- behind another 35 of one plane
abbrev beside : Option Bool → Planes → Copies → Copies
beside o m c = record { even = either_plane (if_even o m) (other_planes m c.even); odd = either_plane (if_odd o m) (other_planes m c.odd); copying = true; keeps = true; holds = true }

more_is : (p : Option Bool) (m : Planes) (c : Copies) → is_one_plane m ≡ true → more_copies p m c ≡ beside p m c
more_is p m c one = ap (λ (b : Bool). cond b (record { even = either_plane (if_even p m) (other_planes m c.even); odd = either_plane (if_odd p m) (other_planes m c.odd); copying = true; keeps = true; holds = true }) (first_copies None m)) one

more_on : (o p : Option Bool) (n m : Planes) (s a : Copies) → ParityIs o p → AllAmong m n → is_one_plane m ≡ true → CopiesAt s a → CopiesAt (more_copies o n s) (more_copies p m a)
more_on o p n m s a e f one h = subst (CopiesAt (more_copies o n s)) (sym (more_is p m a one)) (at (is_one_plane n) refl)
  where
    at : (b : Bool) → is_one_plane n ≡ b → CopiesAt (cond b (record { even = either_plane (if_even o n) (other_planes n s.even); odd = either_plane (if_odd o n) (other_planes n s.odd); copying = true; keeps = true; holds = true }) (first_copies None n)) (beside p m a)
    at false other = record { even = λ k x. none_there k x; odd = λ k x. none_there k x; copying = λ x. x; keeps = λ x. x; holds = λ x. x }
    at true this =
        subst (λ (q : Planes). CopiesAt (beside o n s) (beside p q a)) (sym (one_same n m this one f))
        (record {
          even = both_among (if_even o n) (other_planes n s.even) (if_even p n) (other_planes n a.even) (even_on o p n n e (among_self n)) (others_among n s.even a.even h.even);
          odd = both_among (if_odd o n) (other_planes n s.odd) (if_odd p n) (other_planes n a.odd) (odd_on o p n n e (among_self n)) (others_among n s.odd a.odd h.odd);
          copying = λ x. x;
          keeps = λ x. x;
          holds = λ x. x;
        })

first_more : (o p : Option Bool) (ps m : Planes) (a : Copies) → ParityIs o p → AllAmong ps m → is_one_plane m ≡ true → CopiesAt (first_copies o ps) (more_copies p m a)
first_more o p ps m a e f one =
    subst (CopiesAt (first_copies o ps)) (sym (more_is p m a one))
    (record {
      even = λ k x. among_first k (if_even p m) (other_planes m a.even) (even_on o p ps m e f k x);
      odd = λ k x. among_first k (if_odd p m) (other_planes m a.odd) (odd_on o p ps m e f k x);
      copying = λ x. x;
      keeps = λ x. x;
      holds = λ x. x;
    })

-- 4. a 35

-- where another 35 leaves the pages of the claim, it leaves those of the actual one
gathers_on : (v s a : KnownLun) → LunAt v s a → May (gathers s) (gathers a)
gathers_on v s a d h =
    let both = and_parts s.copies.copying (not (may_be_queued s.queue)) h in
    and_from a.copies.copying (not (may_be_queued a.queue)) (d.copies.copying both.0) (not_on _ _ (queued_on s.queue a.queue d.queue) both.1)

nothing_queued : (q : QueuedRows) → may_be_queued q ≡ false → q ≡ NoRows
nothing_queued NoRows h = refl
nothing_queued (SomeRows e p d) h = absurd cc
nothing_queued (SomeReads p s d) h = absurd cc
nothing_queued AnyRows h = absurd cc

gathered_queue : (a : KnownLun) → gathers a ≡ true → a.queue ≡ NoRows
gathered_queue a h = nothing_queued a.queue (not-true (may_be_queued a.queue) (and_parts a.copies.copying (not (may_be_queued a.queue)) h).1)

copied_own : (m : NamedRow) (q : QueuedRows) → AllAmong (sure_plane m.planes) (copied_beside m q)
copied_own m NoRows z h = h
copied_own m (SomeRows k ps d) z h = h
copied_own m AnyRows z h = h
copied_own m (SomeReads ps surely d) z h = at (is_one_plane m.planes) refl (not (share_a_plane m.planes ps) && are_planes_within ps surely)
  where
    at : (b : Bool) → is_one_plane m.planes ≡ b → (c : Bool) → has_plane z (cond (b && c) (either_plane m.planes surely) (sure_plane m.planes)) ≡ true
    at false e c = h
    at true e false = h
    at true e true = among_first z m.planes surely (subst (λ (p : Planes). has_plane z p ≡ true) (sure_one m.planes e) h)

module _ (g : Parts) (n m : NamedRow) (f : NameIs g n m) (fine : IsFineName g m) where
  own_on : AllAmong (sure_plane n.planes) (sure_plane m.planes)
  own_on = sure_among n.planes m.planes fine.one_plane f.planes

  own_copied : (a : QueuedRows) → AllAmong (sure_plane n.planes) (copied_beside m a)
  own_copied a z h = copied_own m a z (own_on z h)

  copied_on : (s a : QueuedRows) → RowsAre s a → AllAmong (copied_beside n s) (copied_beside m a)
  copied_on NoRows a e = own_copied a
  copied_on (SomeRows k ps d) a e = own_copied a
  copied_on AnyRows a e = own_copied a
  copied_on (SomeReads ps surely d) a e = at (is_one_plane n.planes && (not (share_a_plane n.planes ps) && are_planes_within ps surely)) refl
    where
      others : (a : QueuedRows) → RowsAre (SomeReads ps surely d) a → (not (share_a_plane n.planes ps) && are_planes_within ps surely) ≡ true → AllAmong surely (copied_beside m a)
      others NoRows e h z x = none_there z (e z x)
      others AnyRows e h z x = absurd e
      others (SomeRows k ms c) e h z x = absurd e
      others (SomeReads ms some c) e h z x =
          let both = and_parts (not (share_a_plane n.planes ps)) (are_planes_within ps surely) h in
          let apart = not_on _ _ (common_on n.planes m.planes ps ms f.planes e.1.0) both.0 in
          let within = among_within ms some (λ k y. e.0 k (within_among ps surely both.1 k (e.1.0 k y))) in
          let good : (is_one_plane m.planes && (not (share_a_plane m.planes ms) && are_planes_within ms some)) ≡ true = and_from (is_one_plane m.planes) _ fine.one_plane (and_from (not (share_a_plane m.planes ms)) (are_planes_within ms some) apart within) in
          subst (λ (b : Bool). has_plane z (cond b (either_plane m.planes some) (sure_plane m.planes)) ≡ true) (sym good) (among_second z m.planes some (e.0 z x))

      at : (b : Bool) → (is_one_plane n.planes && (not (share_a_plane n.planes ps) && are_planes_within ps surely)) ≡ b → AllAmong (cond b (either_plane n.planes surely) (sure_plane n.planes)) (copied_beside m a)
      at false h = own_copied a
      at true h = λ z x. elim (or_cases (has_plane z n.planes) (has_plane z surely) (sym (either_has z n.planes surely) ∙ x)) [
        | inl y ↦ own_copied a z (subst (λ (p : Planes). has_plane z p ≡ true) (sym (sure_one n.planes (and_parts (is_one_plane n.planes) _ h).0)) y)
        | inr y ↦ others a e (and_parts (is_one_plane n.planes) _ h).1 z y
      ]

  alike_own : (a : QueuedRows) → AllAmong (sure_plane n.planes) (alike_beside m a)
  alike_own NoRows = own_on
  alike_own (SomeRows k ps d) = own_on
  alike_own AnyRows = own_on
  alike_own (SomeReads ms some c) = at (same_drift m.drift c)
    where
      at : (b : Bool) → AllAmong (sure_plane n.planes) (cond b (copied_beside m (SomeReads ms some c)) (sure_plane m.planes))
      at true = own_copied (SomeReads ms some c)
      at false = own_on

  alike_on : (s a : QueuedRows) → RowsAre s a → AllAmong (alike_beside n s) (alike_beside m a)
  alike_on NoRows a e = alike_own a
  alike_on (SomeRows k ps d) a e = alike_own a
  alike_on AnyRows a e = alike_own a
  alike_on (SomeReads ps surely d) a e = at (same_drift n.drift d) refl
    where
      far : (a : QueuedRows) → RowsAre (SomeReads ps surely d) a → same_drift n.drift d ≡ true → AllAmong (copied_beside n (SomeReads ps surely d)) (alike_beside m a)
      far NoRows e h = copied_on (SomeReads ps surely d) NoRows e
      far AnyRows e h = absurd e
      far (SomeRows k ms c) e h = absurd e
      far (SomeReads ms some c) e h =
          let same : same_drift m.drift c ≡ true = subst (λ (x : Drift). same_drift m.drift x ≡ true) (sym e.1.1) (drift_too n.drift m.drift d f.drift h) in
          subst (λ (b : Bool). AllAmong (copied_beside n (SomeReads ps surely d)) (cond b (copied_beside m (SomeReads ms some c)) (sure_plane m.planes))) (sym same) (copied_on (SomeReads ps surely d) (SomeReads ms some c) e)
        where
          drift_too : (s a : Option Drift) (d : Drift) → DriftIs s a → May (same_drift s d) (same_drift a d)
          drift_too None a d e h = absurd cc
          drift_too (Some x) a d e h = subst (λ (o : Option Drift). same_drift o d ≡ true) (sym e) h

      at : (b : Bool) → same_drift n.drift d ≡ b → AllAmong (cond b (copied_beside n (SomeReads ps surely d)) (sure_plane n.planes)) (alike_beside m a)
      at false h = alike_own a
      at true h = far a e h

  -- where the actual 35 leaves pages, nothing was queued
  own_there : (a : KnownLun) → gathers a ≡ true → AllAmong (sure_plane m.planes) m.planes
  own_there a h z x = subst (λ (p : Planes). has_plane z p ≡ true) (sure_one m.planes fine.one_plane) x

  fresh_there : (s a : KnownLun) → RowsAre s.queue a.queue → gathers a ≡ true → AllAmong (copied_beside n s.queue) m.planes
  fresh_there s a e h z x = own_there a h z (copied_on s.queue NoRows (subst (RowsAre s.queue) (gathered_queue a h) e) z x)

  alike_there : (s a : KnownLun) → RowsAre s.queue a.queue → gathers a ≡ true → AllAmong (alike_beside n s.queue) m.planes
  alike_there s a e h z x = own_there a h z (alike_on s.queue NoRows (subst (RowsAre s.queue) (gathered_queue a h) e) z x)

  held_both : (v s a : KnownLun) → LunAt v s a → AllAmong (held_by_copy s (Some n)) (held_by_copy a (Some m))
  held_both v s a d = at (gathers s) refl (gathers a) refl
    where
      all : AllAmong s.held (either_plane m.planes a.held)
      all z x = among_second z m.planes a.held (d.held z x)

      older : (b : Bool) → is_one_plane n.planes ≡ b → AllAmong (cond b (either_plane n.planes s.held) no_planes) (either_plane m.planes a.held)
      older false e = λ z x. none_there z x
      older true e =
          subst (λ (p : Planes). AllAmong (either_plane n.planes s.held) (either_plane p a.held)) (sym (one_same n.planes m.planes e fine.one_plane f.planes))
          (both_among n.planes s.held n.planes a.held (among_self n.planes) d.held)

      there : AllAmong (either_plane m.planes a.held) (cond (is_one_plane m.planes) (either_plane m.planes a.held) no_planes)
      there z x = ap (λ (b : Bool). has_plane z (cond b (either_plane m.planes a.held) no_planes)) fine.one_plane ∙ x

      at : (b : Bool) → gathers s ≡ b → (c : Bool) → gathers a ≡ c
          → AllAmong (cond b (cond (is_one_plane n.planes) (either_plane n.planes s.held) no_planes) (copied_beside n s.queue)) (cond c (cond (is_one_plane m.planes) (either_plane m.planes a.held) no_planes) (copied_beside m a.queue))
      at true x true y = λ z h. there z (older (is_one_plane n.planes) refl z h)
      at true x false y = absurd (let k : true ≡ false = sym (gathers_on v s a d x) ∙ y in cc)
      at false x true y = λ z h. there z (among_first z m.planes a.held (fresh_there s a d.queue y z h))
      at false x false y = copied_on s.queue a.queue d.queue

  copies_both : (pages : ℕ) (v s a : KnownLun) → LunAt v s a → CopiesAt (copies_read pages s (Some n)) (copies_read pages a (Some m))
  copies_both pages v s a d = at (gathers s) refl (gathers a) refl
    where
      e : ParityIs (parity_of pages n.drift) (parity_of pages m.drift)
      e = parity_is pages n.drift m.drift f.drift

      at : (b : Bool) → gathers s ≡ b → (c : Bool) → gathers a ≡ c
          → CopiesAt (cond b (more_copies (parity_of pages n.drift) n.planes s.copies) (first_copies (parity_of pages n.drift) (alike_beside n s.queue))) (cond c (more_copies (parity_of pages m.drift) m.planes a.copies) (first_copies (parity_of pages m.drift) (alike_beside m a.queue)))
      at true x true y = more_on (parity_of pages n.drift) (parity_of pages m.drift) n.planes m.planes s.copies a.copies e f.planes fine.one_plane d.copies
      at true x false y = absurd (let k : true ≡ false = sym (gathers_on v s a d x) ∙ y in cc)
      at false x true y = first_more (parity_of pages n.drift) (parity_of pages m.drift) (alike_beside n s.queue) m.planes a.copies e (alike_there s a d.queue y) fine.one_plane
      at false x false y = first_on (parity_of pages n.drift) (parity_of pages m.drift) (alike_beside n s.queue) (alike_beside m a.queue) e (alike_on s.queue a.queue d.queue)

pub held_copy : (g : Parts) (v s a : KnownLun) (x y : Option NamedRow) → LunAt v s a → NamedIs g x y → IsFineNamed g y → AllAmong (held_by_copy s x) (held_by_copy a y)
held_copy g v s a None y d f fine = λ z h. none_there z h
held_copy g v s a (Some n) None d f fine = absurd f
held_copy g v s a (Some n) (Some m) d f fine = held_both g n m f fine v s a d

pub copies_copy : (g : Parts) (pages : ℕ) (v s a : KnownLun) (x y : Option NamedRow) → LunAt v s a → NamedIs g x y → IsFineNamed g y → CopiesAt (copies_read pages s x) (copies_read pages a y)
copies_copy g pages v s a (Some n) None d f fine = absurd f
copies_copy g pages v s a (Some n) (Some m) d f fine = copies_both g n m f fine pages v s a d
copies_copy g pages v s a None None d f fine = copies_self (first_copies None no_planes)
copies_copy g pages v s a None (Some m) d f fine = at (gathers a) (is_one_plane m.planes) refl
  where
    nothing : (c : Copies) → (c.copying ≡ true) → (c.keeps ≡ true) → CopiesAt (first_copies None no_planes) c
    nothing c x y = record { even = λ z h. none_there z h; odd = λ z h. none_there z h; copying = λ h. x; keeps = λ h. y; holds = λ h. refl }

    at : (b c : Bool) → is_one_plane m.planes ≡ c → CopiesAt (first_copies None no_planes) (cond b (more_copies (parity_of pages m.drift) m.planes a.copies) (first_copies (parity_of pages m.drift) (alike_beside m a.queue)))
    at false c e = nothing _ refl refl
    at true true e = subst (CopiesAt (first_copies None no_planes)) (sym (more_is (parity_of pages m.drift) m.planes a.copies e)) (nothing _ refl refl)
    at true false e = subst (CopiesAt (first_copies None no_planes)) (sym (ap (λ (b : Bool). cond b (beside (parity_of pages m.drift) m.planes a.copies) (first_copies None m.planes)) e)) (nothing _ refl refl)
