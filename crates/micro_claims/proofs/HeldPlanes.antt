-- Planes of which it is sure that a page lies in them, and reads that wait in a queue.
use Rattle.std.specs.List.{list_any}
use Rattle.std.proofs.Common.{◌≡◌, ℕ, zero, suc, ◌+◌, ◌*◌, ◌/◌, ◌%◌, ◌^◌, ◌≤◌, ◌<◌, ◌==◌, Bool, true, false, ◌||◌, ◌&&◌, cond, not, nat_le, List, [], ◌∷◌, Option, Some, None, refl, sym, ap, ◌∙◌, subst, arith, eqb-true, eq-eqb, length, take, inl, inr}
use Rattle.std.proofs.lemmas.Bool.{and_parts, or_left, or_right, or_cases, or_from}
use Rattle.std.proofs.lemmas.Nat.{mod-mul-add}
use Rattle.nand_geometry.specs.declared.parts.Parts.{Parts}
use Rattle.nand_geometry.specs.Limits.{InLimits, planes}
use Rattle.nand_geometry.specs.Optional.{has_plane_reads}
use Rattle.onfi_cycle.specs.declared.command.Command.TheVariants.{ReadConfirm}
use Rattle.onfi_cycle.specs.declared.page_address.PageAddress.{PageAddress}
use Rattle.onfi_cycle.specs.declared.queued.Queued.{Queued}
use Rattle.onfi_cycle.specs.declared.queued.Queued.TheVariants.{Erase, Program, Read as QueuedRead}
use Rattle.onfi_cycle.specs.declared.register.Register.TheVariants.{Empty, Page}
use Rattle.onfi_cycle.specs.Lun.{has_reads, is_queued_read, pages_of_reads, page_in_plane, register_of_plane}
use Rattle.onfi_cycle.proofs.HeldPages.{take_whole}
use Rattle.micro_claims.specs.Planes.{Planes, has_plane, no_planes, either_plane, share_a_plane, is_one_plane, sure_plane}
use Rattle.micro_claims.specs.State.{NamedRow, Drift, QueuedRows, NoRows, SomeRows, SomeReads, AnyRows, may_be_other, any_but_31}
use Rattle.onfi_cycle.specs.Rules.{has_some}
use Rattle.micro_claims.specs.Against.{may_be_queued}
use Rattle.micro_claims.specs.Leaves.{same_drift, reads_at, reads_more, may_be_reads, named_plane, held_beside, held_by_read, page_register}
use Rattle.micro_program.specs.Program.{Job}
use Rattle.micro_claims.proofs.Sets.{has_only}
use Rattle.micro_claims.proofs.PlaneSets.{among_first, among_second, either_has, none_has, none_common}
use Rattle.micro_claims.proofs.Fits.{Address, NameFits, RowIs, DriftFits, is_of_kind, RowFits, AllFit, HavePages, one_if, count_of, RowsFit, RegisterFits, register_among, closer_among}

-- 1. sets of planes

-- in none of no planes
pub no_pages : (g : Parts) (pages : List PageAddress) → HavePages g no_planes pages
no_pages g pages n h = let clash : true ≡ false = sym h ∙ none_has n in cc

-- one plane is a power of two
pub record OnePlane (p : Planes) : Type 0 where
  pub plane : ℕ
  pub is : p ≡ record { 0 = 2 ^ plane }

pub one_plane : (p : Planes) → is_one_plane p ≡ true → OnePlane p
one_plane p h = at (p.0 == 1) (p.0 == 2) (p.0 == 4) (p.0 == 8) refl refl refl refl h
  where
    this : (k : ℕ) → p.0 ≡ 2 ^ k → OnePlane p
    this k e = record { plane = k; is = ap (λ (n : ℕ). record { 0 = n }) e }

    at : (a b c d : Bool) → (p.0 == 1) ≡ a → (p.0 == 2) ≡ b → (p.0 == 4) ≡ c → (p.0 == 8) ≡ d → (a || (b || (c || d))) ≡ true → OnePlane p
    at true b c d e f i j h = this 0 (eqb-true p.0 1 e)
    at false true c d e f i j h = this 1 (eqb-true p.0 2 f)
    at false false true d e f i j h = this 2 (eqb-true p.0 4 i)
    at false false false true e f i j h = this 3 (eqb-true p.0 8 j)
    at false false false false e f i j h = cc

-- what is in a set of one is that one
pub same_plane : (n m : ℕ) (p : Planes) → is_one_plane p ≡ true → has_plane n p ≡ true → has_plane m p ≡ true → n ≡ m
same_plane n m p h here there =
    let one = one_plane p h in
    let a : (n == one.plane) ≡ true = sym (has_only n one.plane) ∙ (ap (has_plane n) (sym one.is) ∙ here) in
    let b : (m == one.plane) ≡ true = sym (has_only m one.plane) ∙ (ap (has_plane m) (sym one.is) ∙ there) in
    eqb-true n one.plane a ∙ sym (eqb-true m one.plane b)

-- of a plane of which it is sure that it is meant, it is the one that is there
pub sure_is : (n m : ℕ) (p : Planes) → has_plane m p ≡ true → has_plane n (sure_plane p) ≡ true → n ≡ m
sure_is n m p there h = at (is_one_plane p) refl h
  where
    at : (b : Bool) → is_one_plane p ≡ b → has_plane n (cond b p no_planes) ≡ true → n ≡ m
    at true e h = same_plane n m p e h there
    at false e h = let clash : true ≡ false = sym h ∙ none_has n in cc

-- planes of two sets apart
pub apart : (p q : Planes) (k : ℕ) → share_a_plane p q ≡ false → has_plane k p ≡ true → has_plane k q ≡ false
apart p q k h here = at (has_plane k q) refl
  where
    at : (b : Bool) → has_plane k q ≡ b → has_plane k q ≡ false
    at true e = let other : (k == k) ≡ false = none_common p q k k h here e in let same : (k == k) ≡ true = eq-eqb k k refl in let clash : true ≡ false = sym same ∙ other in cc
    at false e = e

one_most : (b : Bool) → one_if b ≤ 1
one_most true = omega arith
one_most false = omega arith

one_more : (a b : Bool) → one_if b ≤ one_if (a || b)
one_more true true = omega arith
one_more true false = omega arith
one_more false b = omega arith

-- a set of four without one of them has three at most
pub count_less : (k : ℕ) (p : Planes) → k < 4 → has_plane k p ≡ false → count_of p ≤ 3
count_less k p low h = at k low h
  where
    a : one_if (has_plane 0 p) ≤ 1
    a = one_most (has_plane 0 p)

    b : one_if (has_plane 1 p) ≤ 1
    b = one_most (has_plane 1 p)

    c : one_if (has_plane 2 p) ≤ 1
    c = one_most (has_plane 2 p)

    d : one_if (has_plane 3 p) ≤ 1
    d = one_most (has_plane 3 p)

    at : (k : ℕ) → k < 4 → has_plane k p ≡ false → count_of p ≤ 3
    at zero low h = let none : one_if (has_plane 0 p) ≡ 0 = ap one_if h in let x = b in let y = c in let z = d in omega (arith, none, x, y, z)
    at (suc zero) low h = let none : one_if (has_plane 1 p) ≡ 0 = ap one_if h in let x = a in let y = c in let z = d in omega (arith, none, x, y, z)
    at (suc (suc zero)) low h = let none : one_if (has_plane 2 p) ≡ 0 = ap one_if h in let x = a in let y = b in let z = d in omega (arith, none, x, y, z)
    at (suc (suc (suc zero))) low h = let none : one_if (has_plane 3 p) ≡ 0 = ap one_if h in let x = a in let y = b in let z = c in omega (arith, none, x, y, z)
    at (suc (suc (suc (suc k)))) low h = absurd (omega (arith, low))

-- a set with one more has one more
pub count_more : (k : ℕ) (n p : Planes) → k < 4 → has_plane k n ≡ true → has_plane k p ≡ false → count_of p + 1 ≤ count_of (either_plane n p)
count_more k n p low here there = at k low here there
  where
    grows : (i : ℕ) → one_if (has_plane i p) ≤ one_if (has_plane i (either_plane n p))
    grows i = subst (λ (b : Bool). one_if (has_plane i p) ≤ one_if b) (sym (either_has i n p)) (one_more (has_plane i n) (has_plane i p))

    whole : (i : ℕ) → has_plane i n ≡ true → one_if (has_plane i (either_plane n p)) ≡ 1
    whole i h = ap one_if (either_has i n p ∙ ap (λ (b : Bool). b || has_plane i p) h)

    at : (k : ℕ) → k < 4 → has_plane k n ≡ true → has_plane k p ≡ false → count_of p + 1 ≤ count_of (either_plane n p)
    at zero low here there = let one = whole 0 here in let none : one_if (has_plane 0 p) ≡ 0 = ap one_if there in let x = grows 1 in let y = grows 2 in let z = grows 3 in omega (arith, one, none, x, y, z)
    at (suc zero) low here there = let one = whole 1 here in let none : one_if (has_plane 1 p) ≡ 0 = ap one_if there in let x = grows 0 in let y = grows 2 in let z = grows 3 in omega (arith, one, none, x, y, z)
    at (suc (suc zero)) low here there = let one = whole 2 here in let none : one_if (has_plane 2 p) ≡ 0 = ap one_if there in let x = grows 0 in let y = grows 1 in let z = grows 3 in omega (arith, one, none, x, y, z)
    at (suc (suc (suc zero))) low here there = let one = whole 3 here in let none : one_if (has_plane 3 p) ≡ 0 = ap one_if there in let x = grows 0 in let y = grows 1 in let z = grows 2 in omega (arith, one, none, x, y, z)
    at (suc (suc (suc (suc k)))) low here there = absurd (omega (arith, low))

-- a set that has one has one at least
pub count_some : (k : ℕ) (p : Planes) → k < 4 → has_plane k p ≡ true → 1 ≤ count_of p
count_some k p low h = at k low h
  where
    at : (k : ℕ) → k < 4 → has_plane k p ≡ true → 1 ≤ count_of p
    at zero low h = let one : one_if (has_plane 0 p) ≡ 1 = ap one_if h in omega (arith, one)
    at (suc zero) low h = let one : one_if (has_plane 1 p) ≡ 1 = ap one_if h in omega (arith, one)
    at (suc (suc zero)) low h = let one : one_if (has_plane 2 p) ≡ 1 = ap one_if h in omega (arith, one)
    at (suc (suc (suc zero))) low h = let one : one_if (has_plane 3 p) ≡ 1 = ap one_if h in omega (arith, one)
    at (suc (suc (suc (suc k)))) low h = absurd (omega (arith, low))

-- a LUN has four planes at most
pub few_planes : (g : Parts) (k : ℕ) → InLimits g → k < planes g → k < 4
few_planes g k l low = at g.plane_bits (l.plane_bits_most) low
  where
    at : (b : ℕ) → b ≤ 2 → k < 2 ^ b → k < 4
    at zero most low = omega (arith, low)
    at (suc zero) most low = omega (arith, low)
    at (suc (suc zero)) most low = omega (arith, low)
    at (suc (suc (suc b))) most low = absurd (omega (arith, most))

-- 2. pages in planes

pub more_pages : (g : Parts) (p : Planes) (at : PageAddress) (pages : List PageAddress) → HavePages g p pages → HavePages g p (at ∷ pages)
more_pages g p at pages f n h = or_right (at.block % planes g == n) _ (f n h)

pub both_pages : (g : Parts) (p q : Planes) (pages : List PageAddress) → HavePages g p pages → HavePages g q pages → HavePages g (either_plane p q) pages
both_pages g p q pages f h n e = elim (or_cases (has_plane n p) (has_plane n q) (sym (either_has n p q) ∙ e)) [
  | inl a ↦ f n a
  | inr b ↦ h n b
]

-- the first page lies in the plane of its row, where that is sure
pub own_page : (g : Parts) (p : Planes) (plane : ℕ) (at : PageAddress) (pages : List PageAddress) → has_plane plane p ≡ true → at.block % planes g ≡ plane → HavePages g (sure_plane p) (at ∷ pages)
own_page g p plane at pages there is n h = or_left (at.block % planes g == n) _ (eq-eqb (at.block % planes g) n (is ∙ sym (sure_is n plane p there h)))

-- the plane of a page whose block is made of a number and a plane
pub plane_is : (g : Parts) (b a plane : ℕ) → b ≡ a * planes g + plane → plane < planes g → b % planes g ≡ plane
plane_is g b a plane e low = ap (λ (n : ℕ). n % planes g) e ∙ mod-mul-add a (planes g) plane low

-- a page that lies in a plane is found there
pub found_page : (count plane : ℕ) (pages : List PageAddress) → list_any (λ q. q.block % count == plane) pages ≡ true → register_among (record { 0 = 1 }) (register_of_plane (page_in_plane count plane pages)) ≡ true
found_page count plane [] h = cc
found_page count plane (p ∷ pages) h = at (p.block % count == plane) (found_page count plane pages) h
  where
    at : (b : Bool) → (list_any (λ q. q.block % count == plane) pages ≡ true → register_among (record { 0 = 1 }) (register_of_plane (page_in_plane count plane pages)) ≡ true) → (b || list_any (λ q. q.block % count == plane) pages) ≡ true → register_among (record { 0 = 1 }) (register_of_plane (cond b (Some p) (page_in_plane count plane pages))) ≡ true
    at true rest h = refl
    at false rest h = rest h

-- 3. reads that wait

-- where surely nothing is queued, nothing is there
pub none_queued : (g : Parts) (now : ℕ) (q : QueuedRows) (queue : List Queued) → may_be_queued q ≡ false → RowsFit g now q queue → has_some queue ≡ false
none_queued g now NoRows queue h f = ap has_some f
none_queued g now (SomeRows e p d) queue h f = cc
none_queued g now (SomeReads p surely d) queue h f = cc
none_queued g now AnyRows queue h f = cc

pub few_reads : (qs : List Queued) → length (pages_of_reads qs) ≤ length qs
few_reads [] = omega arith
few_reads (Erase p ∷ qs) = let x = few_reads qs in omega (arith, x)
few_reads (Program p ∷ qs) = let x = few_reads qs in omega (arith, x)
few_reads (QueuedRead p ∷ qs) = let x = few_reads qs in omega (arith, x)

-- where the queue surely has no reads, none is there
pub none_reads : (g : Parts) (now : ℕ) (q : QueuedRows) (queue : List Queued) → RowsFit g now q queue → may_be_reads q ≡ false → has_reads queue ≡ false
none_reads g now NoRows queue f h = ap has_reads f
none_reads g now AnyRows queue f h = cc
none_reads g now (SomeReads planes surely d) queue f h = cc
none_reads g now (SomeRows erase planes d) queue f h = each queue f
  where
    other : (e : Bool) (q : Queued) → is_of_kind e q ≡ true → is_queued_read q ≡ false
    other e (Erase p) k = refl
    other e (Program p) k = refl
    other e (QueuedRead p) k = cc

    each : (qs : List Queued) → AllFit (RowFits g now (is_of_kind erase) planes d) qs → has_reads qs ≡ false
    each [] f = refl
    each (q ∷ qs) f = or_from (is_queued_read q) (has_reads qs) (other erase q f.0.kind) (each qs f.1)

-- the row that an address names, as one to be read
read_row : (g : Parts) (j : Job) (now : ℕ) (a : Address) (p : PageAddress) (queued : Planes) (d : Drift) → RowIs g j a → p.page ≡ a.index % g.pages → p.block ≡ a.index / g.pages * planes g + a.plane → has_plane a.plane queued ≡ true → now + d.behind ≡ a.index + d.ahead → RowFits g now is_queued_read queued d (QueuedRead p)
read_row g j now a p queued d row page block among drift =
    record { kind = refl; index = a.index; plane = a.plane; low = row.low; page = page; block = block; among = among; drift = drift }

-- a distance that is the same as another
pub same_far : (now index : ℕ) (o : Option Drift) (d : Drift) → same_drift o d ≡ true → DriftFits now index o → now + d.behind ≡ index + d.ahead
same_far now index None d same f = cc
same_far now index (Some e) d same f =
    let parts = and_parts (e.ahead == d.ahead) (e.behind == d.behind) same in
    let ahead = eqb-true e.ahead d.ahead parts.0 in
    let behind = eqb-true e.behind d.behind parts.1 in
    omega (arith, ahead, behind, f)

-- what a read more leaves of the queue
pub read_more : (g : Parts) (l : InLimits g) (j : Job) (now : ℕ) (claimed : QueuedRows) (o : Option NamedRow) (a : Address) (p : PageAddress) (queue : List Queued) → has_plane_reads g.optional ≡ true → NameFits g j a now o → RowIs g j a → p.page ≡ a.index % g.pages → p.block ≡ a.index / g.pages * planes g + a.plane → RowsFit g now claimed queue → RowsFit g now (reads_more claimed o) (QueuedRead p ∷ queue)
read_more g l j now claimed None a p queue declared name row page block f = tt
read_more g l j now AnyRows (Some n) a p queue declared name row page block f = tt
read_more g l j now (SomeRows erase ps d) (Some n) a p queue declared name row page block f = tt
read_more g l j now NoRows (Some n) a p queue declared name row page block f = subst (λ (qs : List Queued). RowsFit g now (reads_at n.planes (sure_plane n.planes) n.drift) (QueuedRead p ∷ qs)) (sym f) (at n.drift name.drift)
  where
    at : (o : Option Drift) → DriftFits now a.index o → RowsFit g now (reads_at n.planes (sure_plane n.planes) o) (QueuedRead p ∷ [])
    at None far = tt
    at (Some d) far =
        record {
          declared = declared;
          all = (read_row g j now a p n.planes d row page block name.plane far, tt);
          few = count_some a.plane n.planes (few_planes g a.plane l row.low) name.plane;
          pages = own_page g n.planes a.plane p [] name.plane (plane_is g p.block (a.index / g.pages) a.plane block row.low);
        }
read_more g l j now (SomeReads ps surely d) (Some n) a p queue declared name row page block f = at (same_drift n.drift d && not (share_a_plane n.planes ps)) refl
  where
    at : (b : Bool) → (same_drift n.drift d && not (share_a_plane n.planes ps)) ≡ b → RowsFit g now (cond b (SomeReads (either_plane n.planes ps) (either_plane (sure_plane n.planes) surely) d) AnyRows) (QueuedRead p ∷ queue)
    at false e = tt
    at true e =
        let both = and_parts (same_drift n.drift d) (not (share_a_plane n.planes ps)) e in
        let few = f.few in
        let more = count_more a.plane n.planes ps (few_planes g a.plane l row.low) name.plane (apart n.planes ps a.plane (turned (share_a_plane n.planes ps) both.1) name.plane) in
        record {
          declared = declared;
          all = (read_row g j now a p (either_plane n.planes ps) d row page block (among_first a.plane n.planes ps name.plane) (same_far now a.index n.drift d both.0 name.drift), each queue f.all);
          few = omega (arith, few, more);
          pages = both_pages g (sure_plane n.planes) surely (p ∷ pages_of_reads queue)
              (own_page g n.planes a.plane p (pages_of_reads queue) name.plane (plane_is g p.block (a.index / g.pages) a.plane block row.low))
              (more_pages g surely p (pages_of_reads queue) f.pages);
        }
      where
        turned : (b : Bool) → not b ≡ true → b ≡ false
        turned true h = cc
        turned false h = refl

        each : (qs : List Queued) → AllFit (RowFits g now is_queued_read ps d) qs → AllFit (RowFits g now is_queued_read (either_plane n.planes ps) d) qs
        each [] f = tt
        each (x ∷ qs) f = (record { kind = f.0.kind; index = f.0.index; plane = f.0.plane; low = f.0.low; page = f.0.page; block = f.0.block; among = among_second f.0.plane n.planes ps f.0.among; drift = f.0.drift }, each qs f.1)

-- 4. what a read leaves, with these rows queued before it

-- the register
pub read_register : (g : Parts) (now : ℕ) (q : QueuedRows) (queue : List Queued) (p : PageAddress) → RowsFit g now q queue → RegisterFits (cond (may_be_reads q) None page_register) (cond (has_reads queue) Empty (Page p))
read_register g now q queue p f = at (may_be_reads q) refl
  where
    at : (b : Bool) → may_be_reads q ≡ b → RegisterFits (cond b None page_register) (cond (has_reads queue) Empty (Page p))
    at true e = tt
    at false e = rw (none_reads g now q queue f e) refl

-- the last closer
pub read_closer : (b : Bool) → closer_among (cond b any_but_31 (record { 0 = 1 })) (Some ReadConfirm) ≡ true
read_closer true = refl
read_closer false = refl

-- one page, where no read was queued
pub one_page : (p : PageAddress) (q : List Queued) → has_reads q ≡ false → nat_le (length (take 4 (p ∷ pages_of_reads q))) 1 ≡ true
one_page p q none = rw (no_reads q none) refl
  where
    no_reads : (q : List Queued) → has_reads q ≡ false → pages_of_reads q ≡ []
    no_reads [] h = refl
    no_reads (Erase a ∷ q) h = no_reads q h
    no_reads (Program a ∷ q) h = no_reads q h
    no_reads (QueuedRead a ∷ q) h = cc

pub read_held : (g : Parts) (now : ℕ) (q : QueuedRows) (queue : List Queued) (p : PageAddress) → RowsFit g now q queue → may_be_other (cond (may_be_reads q) any_but_31 (record { 0 = 1 })) ≡ false → nat_le (length (take 4 (p ∷ pages_of_reads queue))) 1 ≡ true
read_held g now q queue p f h = at (may_be_reads q) refl h
  where
    at : (b : Bool) → may_be_reads q ≡ b → may_be_other (cond b any_but_31 (record { 0 = 1 })) ≡ false → nat_le (length (take 4 (p ∷ pages_of_reads queue))) 1 ≡ true
    at true e h = cc
    at false e h = one_page p queue (none_reads g now q queue f e)

-- the planes that hold a page
pub read_planes : (g : Parts) (l : InLimits g) (j : Job) (now : ℕ) (q : QueuedRows) (queue : List Queued) (o : Option NamedRow) (a : Address) (p : PageAddress) → NameFits g j a now o → RowIs g j a → p.block ≡ a.index / g.pages * planes g + a.plane → RowsFit g now q queue → HavePages g (held_by_read q o) (take 4 (p ∷ pages_of_reads queue))
read_planes g l j now q queue None a p name row block f = no_pages g (take 4 (p ∷ pages_of_reads queue))
read_planes g l j now q queue (Some n) a p name row block f = by q f
  where
    own : HavePages g (sure_plane n.planes) (take 4 (p ∷ pages_of_reads queue))
    own = own_page g n.planes a.plane p (take 3 (pages_of_reads queue)) name.plane (plane_is g p.block (a.index / g.pages) a.plane block row.low)

    by : (q : QueuedRows) → RowsFit g now q queue → HavePages g (held_beside n q) (take 4 (p ∷ pages_of_reads queue))
    by NoRows f = own
    by (SomeRows erase ps d) f = own
    by AnyRows f = own
    by (SomeReads ps surely d) f = at (share_a_plane n.planes ps) refl
      where
        at : (b : Bool) → share_a_plane n.planes ps ≡ b → HavePages g (cond b (sure_plane n.planes) (either_plane (sure_plane n.planes) surely)) (take 4 (p ∷ pages_of_reads queue))
        at true e = own
        at false e =
            let most = count_less a.plane ps (few_planes g a.plane l row.low) (apart n.planes ps a.plane e name.plane) in
            let few = f.few in
            let reads = few_reads queue in
            let whole : take 4 (p ∷ pages_of_reads queue) ≡ p ∷ pages_of_reads queue = take_whole 4 (p ∷ pages_of_reads queue) (omega (arith, most, few, reads)) in
            both_pages g (sure_plane n.planes) surely (take 4 (p ∷ pages_of_reads queue)) own
            (subst (λ (pages : List PageAddress). HavePages g surely pages) (sym whole) (more_pages g surely p (pages_of_reads queue) f.pages))

-- the plane of the page that the array reads
pub read_array : (g : Parts) (j : Job) (now : ℕ) (o : Option NamedRow) (a : Address) (p : PageAddress) → NameFits g j a now o → RowIs g j a → p.block ≡ a.index / g.pages * planes g + a.plane → HavePages g (named_plane o) (p ∷ [])
read_array g j now None a p name row block = no_pages g (p ∷ [])
read_array g j now (Some n) a p name row block = own_page g n.planes a.plane p [] name.plane (plane_is g p.block (a.index / g.pages) a.plane block row.low)
