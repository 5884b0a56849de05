-- The counts of the LUNs, one item more: those on its target one after another, and the others as they were.
use Rattle.std.proofs.Common.{◌≡◌, ◌≢◌, ◌⊎◌, inl, inr, ℕ, zero, suc, ◌+◌, ◌*◌, ◌/◌, ◌%◌, ◌<◌, ◌≤◌, ◌==◌, ◌&&◌, true, false, Bool, cond, List, [], ◌∷◌, Some, refl, sym, ap, ◌∙◌, subst, arith, length, reverse, take, get_or, eqb, eqb-true, ◌-◌, nat_lt}
use Rattle.std.specs.List.{slice_get}
use Rattle.std.proofs.Math.Seq.{take-suc}
use Rattle.std.proofs.lemmas.List.{reverse-append, get_or_default}
use Rattle.std.proofs.Math.Nat.{mod-lt, mul-le-mul_right}
use Rattle.std.proofs.lemmas.Nat.{div-mul-add, mod-mul-add, div-add-mod'}
use Rattle.std.proofs.lemmas.Bool.{ne_eqb, and_parts, cases_order}
use Rattle.std.proofs.lemmas.Bool.Decides.{eqb_tells}
use Rattle.nand_geometry.specs.declared.parts.Parts.{Parts}
use Rattle.onfi_cycle.specs.declared.lun.Lun.{Lun}
use Rattle.onfi_cycle.specs.declared.item.Item.{Item}
use Rattle.onfi_cycle.specs.declared.item.Item.TheVariants.{Cyc, Rdy, Ard}
use Rattle.onfi_cycle.specs.declared.item.Kind.{Kind}
use Rattle.onfi_cycle.specs.declared.item.Kind.TheVariants.{Cmd, Adr, Din, Dout}
use Rattle.std.proofs.lemmas.Option.{slice_get_within}
use Rattle.onfi_cycle.specs.Sequence.{target_of}
use Rattle.target_bus.specs.Bus.{numbered}
use Rattle.channel_work.specs.declared.tally.LunCount.{LunCount}
use Rattle.channel_work.specs.Counts.{stands_after, polls_after, count_after, count_of, AreCounts, IsFewAt, counted_at, HaveCounted, HasCounted, poll_row, is_data_kind, gives_data, AreDataFrom, AreRepeated}
use Rattle.channel_work.proofs.Bounds.{few_at}

-- an item on another target changes nothing
pub other_target : (many : Bool) (row : List ℕ) (l : Lun) (k : LunCount) (i : Item) → target_of i ≢ l.ce → count_after many row l k i ≡ k
other_target many row l k (Cyc c) ne = at (c.ce == l.ce) (ne_eqb c.ce l.ce ne)
  where
    at : (b : Bool) → b ≡ false → cond b (record { stands = stands_after many row k.stands c.kind c.byte; polls = polls_after many k.stands k.polls c.kind c.byte; works = k.works }) k ≡ k
    at true e = cc
    at false e = refl
other_target many row l k (Rdy ce lun fail) ne = at (ce == l.ce) (ne_eqb ce l.ce ne)
  where
    at : (b : Bool) → b ≡ false → cond (b && lun == l.lun) (record { stands = k.stands; polls = 0; works = k.works + 1 }) k ≡ k
    at true e = cc
    at false e = refl
other_target many row l k (Ard ce lun fail) ne = refl

-- the LUN at a place of a target
pub number_is : (g : Parts) (ce lun : ℕ) → lun < g.luns → record { ce = ce; lun = lun } ≡ numbered g (ce * g.luns + lun)
number_is g ce lun low = λ j. record { ce = sym (div-mul-add ce g.luns lun low) j; lun = sym (mod-mul-add ce g.luns lun low) j }

pub first_counted : (g : Parts) (i : Item) (counts : List LunCount) (first : ℕ) → HaveCounted g i counts counts first (first + 0)
first_counted g i counts first = ((λ n k above below here. absurd (omega (arith, above, below))), (λ n out. refl))

pub more_counted : (g : Parts) (i : Item) (before middle later : List LunCount) (first lun : ℕ) → HaveCounted g i before middle first (first + lun) → HaveCounted g i middle later (first + lun) (first + lun + 1) → HaveCounted g i before later first (first + (lun + 1))
more_counted g i before middle later first lun h one =
    ((λ n k above below here. done n k above below here (eqb_tells n (first + lun))), (λ n out. one.1 n (past n out) ∙ h.1 n (outside n out)))
  where
    past : (n : ℕ) → (n < first) ⊎ (first + (lun + 1) ≤ n) → (n < first + lun) ⊎ (first + lun + 1 ≤ n)
    past n (inl low) = inl (omega (arith, low))
    past n (inr high) = inr (omega (arith, high))

    outside : (n : ℕ) → (n < first) ⊎ (first + (lun + 1) ≤ n) → (n < first) ⊎ (first + lun ≤ n)
    outside n (inl low) = inl low
    outside n (inr high) = inr (omega (arith, high))

    done : (n : ℕ) (k : LunCount) → first ≤ n → n < first + (lun + 1) → slice_get before n ≡ Some k → ((eqb n (first + lun) ≡ true) × (n ≡ first + lun)) ⊎ ((eqb n (first + lun) ≡ false) × (n ≢ first + lun)) → slice_get later n ≡ Some (counted_at g i n k)
    done n k above below here (inl e) =
        let is = e.1 in
        one.0 n k (omega (arith, is)) (omega (arith, is)) (h.1 n (inr (omega (arith, is))) ∙ here)
    done n k above below here (inr e) =
        let less = smaller n (first + lun) (omega (arith, below)) e.1 in
        one.1 n (inl less) ∙ h.0 n k above less here
      where
        smaller : (a b : ℕ) → a < b + 1 → a ≢ b → a < b
        smaller a b lt ne = omega (arith, lt, ne)

low_of : (n w : ℕ) → 0 < w → n % w < w
low_of n w some = mod-lt n some

times_le : (a b w : ℕ) → a ≤ b → a * w ≤ b * w
times_le a b w le = mul-le-mul_right w le

-- a number that is on another target is outside of the numbers of this one
out : (n t q r w : ℕ) → q * w + r ≡ n → r < w → t ≢ q → (n < t * w) ⊎ (t * w + w ≤ n)
out n t q r w is low ne = side (tells t q)
  where
    tells : (a b : ℕ) → (a < b) ⊎ ((a ≡ b) ⊎ (b < a))
    tells zero zero = inr (inl refl)
    tells zero (suc b) = inl (omega arith)
    tells (suc a) zero = inr (inr (omega arith))
    tells (suc a) (suc b) = again (tells a b)
      where
        again : (a < b) ⊎ ((a ≡ b) ⊎ (b < a)) → (suc a < suc b) ⊎ ((suc a ≡ suc b) ⊎ (suc b < suc a))
        again (inl lt) = inl (omega (arith, lt))
        again (inr (inl e)) = inr (inl (ap suc e))
        again (inr (inr gt)) = inr (inr (omega (arith, gt)))

    side : (t < q) ⊎ ((t ≡ q) ⊎ (q < t)) → (n < t * w) ⊎ (t * w + w ≤ n)
    side (inl lt) = let m = times_le (t + 1) q w (omega (arith, lt)) in inr (omega (arith, m, is))
    side (inr (inl e)) = absurd (ne e)
    side (inr (inr gt)) = let m = times_le (q + 1) t w (omega (arith, gt)) in inl (omega (arith, m, is, low))

-- once the LUNs of its target have counted an item, all have
pub target_counted : (g : Parts) (i : Item) (before later : List LunCount) → 0 < g.luns → HaveCounted g i before later (target_of i * g.luns) (target_of i * g.luns + g.luns) → HasCounted g i before later
target_counted g i before later some h n k here = at (eqb_tells (target_of i) (n / g.luns))
  where
    parts : n / g.luns * g.luns + n % g.luns ≡ n
    parts = div-add-mod' n g.luns

    at : ((eqb (target_of i) (n / g.luns) ≡ true) × (target_of i ≡ n / g.luns)) ⊎ ((eqb (target_of i) (n / g.luns) ≡ false) × (target_of i ≢ n / g.luns)) → slice_get later n ≡ Some (counted_at g i n k)
    at (inl e) =
        let low = low_of n g.luns some in
        let first : target_of i * g.luns + n % g.luns ≡ n = ap (λ (t : ℕ). t * g.luns + n % g.luns) e.1 ∙ parts in
        h.0 n k (omega (arith, first)) (omega (arith, first, low)) here
    at (inr e) =
        h.1 n (out n (target_of i) (n / g.luns) (n % g.luns) g.luns parts (low_of n g.luns some) e.1) ∙ here ∙ ap (λ (c : LunCount). Some c) (sym (other_target _ _ (numbered g n) k i e.1))

-- each count can grow where there are items left
pub counts_few : (g : Parts) (trace : List Item) (counts : List LunCount) (at : ℕ) → AreCounts g counts (reverse (take at trace)) → at < length trace → length trace < 18446744073709551616 → (n : ℕ) → n < 16 → IsFewAt counts n
counts_few g trace counts at are low fits n small k here =
    let f = few_at _ _ (numbered g n) trace at k (some_is k _ (sym here ∙ are n small)) low fits in
    let p = f.polls in
    let w = f.works in
    (omega (arith, p), omega (arith, w))
  where
    some_is : (x y : LunCount) → Some x ≡ Some y → x ≡ y
    some_is x y e = cc

-- each LUN is counted in one item more of a trace
pub item_counted : (g : Parts) (trace : List Item) (at : ℕ) (d : Item) (before later : List LunCount) → at < length trace → AreCounts g before (reverse (take at trace)) → HasCounted g (get_or trace at d) before later → AreCounts g later (reverse (take (at + 1) trace))
item_counted g trace at d before later low are has =
    subst (λ (past : List Item). AreCounts g later past) (sym turned) (λ n small. has n (count_of g n (reverse (take at trace))) (are n small))
  where
    turned : reverse (take (at + 1) trace) ≡ get_or trace at d ∷ reverse (take at trace)
    turned =
        let next : at + 1 ≡ suc at = omega arith in
        ap (λ (n : ℕ). reverse (take n trace)) next ∙ ap reverse (take-suc trace at d low) ∙ reverse-append (take at trace) (get_or trace at d ∷ [])

-- a count that isn't reached yet can still grow
pub still_few : (g : Parts) (i : Item) (before middle : List LunCount) (first lun : ℕ) → HaveCounted g i before middle first (first + lun) → ((n : ℕ) → n < 16 → IsFewAt before n) → first + lun < 16 → IsFewAt middle (first + lun)
still_few g i before middle first lun h few small k here = few (first + lun) small k (sym (h.1 (first + lun) (inr (omega arith))) ∙ here)

-- data after data changes no count

two_data : (many : Bool) (row : List ℕ) (l : Lun) (k : LunCount) (ce : ℕ) (j i : Item) → gives_data ce j ≡ true → gives_data ce i ≡ true → count_after many row l (count_after many row l k j) i ≡ count_after many row l k j
two_data many row l k ce (Cyc b) (Cyc c) h m =
    let first = and_parts (b.ce == ce) _ h in
    let second = and_parts (c.ce == ce) _ m in
    let same : b.ce ≡ c.ce = eqb-true b.ce ce first.0 ∙ sym (eqb-true c.ce ce second.0) in
    ap (λ (n : ℕ). count_after many row l (count_after many row l k (Cyc b)) (Cyc (record { ce = n; kind = c.kind; byte = c.byte }))) (sym same) ∙
    at (b.ce == l.ce) many b.kind first.1 c.kind second.1
  where
    after : (here many : Bool) → LunCount → Kind → ℕ → LunCount
    after here many k kind byte = cond here (record { stands = stands_after many row k.stands kind byte; polls = polls_after many k.stands k.polls kind byte; works = k.works }) k

    at : (here many : Bool) (x : Kind) → is_data_kind x ≡ true → (y : Kind) → is_data_kind y ≡ true → after here many (after here many k x b.byte) y c.byte ≡ after here many k x b.byte
    at false many x p y q = refl
    at true true Din p Din q = refl
    at true true Din p Dout q = refl
    at true true Dout p Din q = refl
    at true true Dout p Dout q = refl
    at true false Din p Din q = refl
    at true false Din p Dout q = refl
    at true false Dout p Din q = refl
    at true false Dout p Dout q = refl
    at true many Cmd p y q = cc
    at true many Adr p y q = cc
    at true many x p Cmd q = cc
    at true many x p Adr q = cc
two_data many row l k ce (Rdy a b c) i h m = cc
two_data many row l k ce (Ard a b c) i h m = cc
two_data many row l k ce (Cyc b) (Rdy x y z) h m = cc
two_data many row l k ce (Cyc b) (Ard x y z) h m = cc

turned_at : (trace : List Item) (at : ℕ) (d : Item) → at < length trace → reverse (take (at + 1) trace) ≡ get_or trace at d ∷ reverse (take at trace)
turned_at trace at d low =
    let next : at + 1 ≡ suc at = omega arith in
    ap (λ (n : ℕ). reverse (take n trace)) next ∙ ap reverse (take-suc trace at d low) ∙ reverse-append (take at trace) (get_or trace at d ∷ [])

repeated_counted : (g : Parts) (trace : List Item) (at ce : ℕ) (d : Item) (counts : List LunCount) → 0 < at → at < length trace → length counts ≡ 16
    → gives_data ce (get_or trace (at - 1) d) ≡ true → gives_data ce (get_or trace at d) ≡ true → AreCounts g counts (reverse (take at trace)) → AreCounts g counts (reverse (take (at + 1) trace))
repeated_counted g trace at ce d counts some low size first second are = item_counted g trace at d counts counts low are has
  where
    j : Item
    j = get_or trace (at - 1) d

    i : Item
    i = get_or trace at d

    past_is : reverse (take at trace) ≡ j ∷ reverse (take (at - 1) trace)
    past_is =
        let one : at ≡ at - 1 + 1 = omega (arith, some) in
        let before : at - 1 < length trace = omega (arith, low) in
        ap (λ (n : ℕ). reverse (take n trace)) one ∙ turned_at trace (at - 1) d before

    some_is : (x y : LunCount) → Some x ≡ Some y → x ≡ y
    some_is x y h = cc

    has : HasCounted g i counts counts
    has n k here =
        let small : n < 16 = omega (arith, slice_get_within counts n k here, size) in
        let is : k ≡ count_of g n (j ∷ reverse (take (at - 1) trace)) = some_is _ _ (sym here ∙ (are n small ∙ ap (λ (past : List Item). Some (count_of g n past)) past_is)) in
        let kept = two_data (nat_lt 1 g.luns) (poll_row g (numbered g n)) (numbered g n) (count_of g n (reverse (take (at - 1) trace))) ce j i first second in
        here ∙ ap (λ (x : LunCount). Some x) (is ∙ (sym kept ∙ ap (λ (x : LunCount). counted_at g i n x) (sym is)))

-- so many items of data behind a place
counted_behind : (g : Parts) (trace : List Item) (place to ce n : ℕ) (counts : List LunCount) → place + 1 + n ≤ to → to ≤ length trace → length counts ≡ 16 → AreDataFrom ce trace place to
    → AreCounts g counts (reverse (take (place + 1) trace)) → AreCounts g counts (reverse (take (place + 1 + n) trace))
counted_behind g trace place to ce zero counts few low size all are =
    let none : place + 1 ≡ place + 1 + 0 = omega arith in
    subst (λ (m : ℕ). AreCounts g counts (reverse (take m trace))) none are
counted_behind g trace place to ce (suc n) counts few low size all are =
    let fewer : place + 1 + n ≤ to = omega (arith, few) in
    let some : 0 < place + 1 + n = omega arith in
    let inside : place + 1 + n < length trace = omega (arith, few, low) in
    let next : place + 1 + n + 1 ≡ place + 1 + suc n = omega arith in
    let before_from : place ≤ place + 1 + n - 1 = omega arith in
    let before_to : place + 1 + n - 1 < to = omega (arith, few) in
    let here_from : place ≤ place + 1 + n = omega arith in
    let here_to : place + 1 + n < to = omega (arith, few) in
    subst (λ (m : ℕ). AreCounts g counts (reverse (take m trace))) next
    (repeated_counted g trace (place + 1 + n) ce (Rdy 0 0 (record { last = false; before = false })) counts some inside size (all (place + 1 + n - 1) (Rdy 0 0 (record { last = false; before = false })) before_from before_to) (all (place + 1 + n) (Rdy 0 0 (record { last = false; before = false })) here_from here_to)
    (counted_behind g trace place to ce n counts fewer low size all are))

-- a count with the item of a place is one with the data that repeats it
pub repeated_too : (g : Parts) (trace : List Item) (place to : ℕ) (counts : List LunCount) → place < to → to ≤ length trace → length counts ≡ 16 → AreRepeated trace place to
    → AreCounts g counts (reverse (take (place + 1) trace)) → AreCounts g counts (reverse (take to trace))
repeated_too g trace place to counts low inside size (inl is) are = subst (λ (m : ℕ). AreCounts g counts (reverse (take m trace))) (sym is) are
repeated_too g trace place to counts low inside size (inr all) are =
    let n = to - (place + 1) in
    let whole : place + 1 + n ≡ to = omega (arith, low) in
    let few : place + 1 + n ≤ to = omega (arith, whole) in
    subst (λ (m : ℕ). AreCounts g counts (reverse (take m trace))) whole (counted_behind g trace place to all.0 n counts few inside size all.1 are)

-- data at a place and behind it
pub one_data_more : (ce : ℕ) (trace : List Item) (place to : ℕ) (e : Item) → gives_data ce (get_or trace place e) ≡ true → place < length trace → AreDataFrom ce trace (place + 1) to → AreDataFrom ce trace place to
one_data_more ce trace place to e here low all k d from under = at (cases_order k place)
  where
    at : (k ≡ place) ⊎ ((k < place) ⊎ (place < k)) → gives_data ce (get_or trace k d) ≡ true
    at (inl is) = ap (λ (n : ℕ). gives_data ce (get_or trace n d)) is ∙ (ap (gives_data ce) (get_or_default trace place d e low) ∙ here)
    at (inr (inl less)) = absurd (omega (arith, less, from))
    at (inr (inr more)) = let behind : place + 1 ≤ k = omega (arith, more) in all k d behind under
