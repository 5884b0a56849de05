-- A channel as it is, and as it is seen by a check that began in the middle, item by item.
use Rattle.std.proofs.Common.{◌≡◌, ℕ, zero, suc, ◌<◌, ◌≤◌, ◌==◌, Bool, true, false, cond, not, List, [], ◌∷◌, length, Option, Some, refl, sym, ap, ◌∙◌, slice_get, slice_set, eqb-true, eq-eqb, arith}
use Rattle.std.proofs.lemmas.Bool.{or_parts, not-false}
use Rattle.std.proofs.lemmas.Option.{slice_get_within}
use Rattle.nand_geometry.specs.declared.parts.Parts.{Parts}
use Rattle.nand_geometry.specs.Optional.{has_plane_reads}
use Rattle.onfi_cycle.specs.declared.item.Item.{Item}
use Rattle.onfi_cycle.specs.declared.lun_state.LunState.{LunState}
use Rattle.onfi_cycle.specs.Look.{look_at_some, look_on, looked}
use Rattle.onfi_cycle.specs.LunView.{LunView}
use Rattle.onfi_cycle.specs.Sequence.{target_of}
use Rattle.onfi_cycle.specs.State.{TargetView, BusView, changed_at}
use Rattle.trace_faults.specs.declared.known.Known.{Known}
use Rattle.trace_faults.specs.declared.lun_known.LunKnown.{LunKnown}
use Rattle.trace_faults.specs.declared.readies.Readies.TheVariants.{Written}
use Rattle.trace_faults.specs.declared.trace_state.TraceState.{TraceState}
use Rattle.trace_faults.specs.declared.verdict.Verdict.TheVariants.{PassedOver}
use Rattle.trace_faults.specs.Recovery.{all_inside}
use Rattle.trace_faults.specs.Middle.{Seen, known_of, knows, is_all, is_doubtful, doubts_lun, doubts, learned_lun, looks_of, learned, is_passed_over, seen_by, verdict_here, is_granted_here, here, verdict, seen_after}
use Rattle.recording_laws.proofs.Changed.{AtEach, at_each, IsLearned}
use Rattle.recording_laws.proofs.Shared.{FitsEither}

-- ---- 1. where readies are written, an item is judged as it stands

either_same : {A : Type 0} (b : Bool) (x : A) → cond b x x ≡ x
either_same true x = refl
either_same false x = refl

here_is : (seen : Seen) (i : Item) (later : List Item) → here Written seen i later ≡ seen
here_is seen i later = ap (λ (t : TraceState). record { state = t; known = seen.known }) (either_same (is_granted_here Written seen i) seen.state)

pub verdict_is : (seen : Seen) (i : Item) (later : List Item) → verdict Written seen i later ≡ cond (is_passed_over seen.state.bus.geometry (known_of seen.known (target_of i)) i) PassedOver (verdict_here seen i)
verdict_is seen i later = ap (λ (on : Seen). cond (is_passed_over seen.state.bus.geometry (known_of seen.known (target_of i)) i) PassedOver (verdict_here on i)) (here_is seen i later)

pub after_is : (seen : Seen) (i : Item) (later : List Item) → seen_after Written seen i later ≡ cond (is_passed_over seen.state.bus.geometry (known_of seen.known (target_of i)) i) seen (seen_by (verdict_here seen i) i seen)
after_is seen i later = ap (λ (on : Seen). cond (is_passed_over seen.state.bus.geometry (known_of seen.known (target_of i)) i) seen (seen_by (verdict_here on i) i on)) (here_is seen i later)

-- ---- 2. the targets of a channel

record Put (change : TargetView → TargetView) (k : ℕ) (xs : List TargetView) (m : ℕ) (y : TargetView) : Type 0 where
  before : TargetView
  found : slice_get xs m ≡ Some before
  here : m ≡ k → y ≡ change before
  elsewhere : (m ≡ k → ⊥) → y ≡ before

put_found : (change : TargetView → TargetView) (k : ℕ) (xs : List TargetView) (m : ℕ) (y : TargetView) → slice_get (changed_at change k xs) m ≡ Some y → Put change k xs m y
put_found change k [] m y h = cc
put_found change zero (x ∷ xs) zero y h = let same : change x ≡ y = cc in record { before = x; found = refl; here = λ e. sym same; elsewhere = λ f. absurd (f refl) }
put_found change zero (x ∷ xs) (suc m) y h = let same : y ≡ y = refl in record { before = y; found = h; here = λ e. absurd (omega (arith, e)); elsewhere = λ f. refl }
put_found change (suc k) (x ∷ xs) zero y h = let same : x ≡ y = cc in record { before = x; found = refl; here = λ e. absurd (omega (arith, e)); elsewhere = λ f. sym same }
put_found change (suc k) (x ∷ xs) (suc m) y h =
    let p = put_found change k xs m y h in
    record { before = p.before; found = p.found; here = λ e. p.here (omega (arith, e)); elsewhere = λ f. p.elsewhere (λ e. f (ap suc e)) }

pub put_here : (change : TargetView → TargetView) (k : ℕ) (xs : List TargetView) (x : TargetView) → slice_get xs k ≡ Some x → slice_get (changed_at change k xs) k ≡ Some (change x)
put_here change k [] x h = cc
put_here change zero (y ∷ xs) x h = let same : y ≡ x = cc in ap (λ (v : TargetView). Some (change v)) same
put_here change (suc k) (y ∷ xs) x h = put_here change k xs x h

pub put_length : (change : TargetView → TargetView) (k : ℕ) (xs : List TargetView) → length (changed_at change k xs) ≡ length xs
put_length change k [] = refl
put_length change zero (x ∷ xs) = refl
put_length change (suc k) (x ∷ xs) = ap suc (put_length change k xs)

pub put_nothing : (k : ℕ) (xs : List TargetView) → changed_at (λ x. x) k xs ≡ xs
put_nothing k [] = refl
put_nothing zero (x ∷ xs) = refl
put_nothing (suc k) (x ∷ xs) = ap (λ (ys : List TargetView). x ∷ ys) (put_nothing k xs)

known_here : (known : List Known) (k : ℕ) (x : Known) → k < length known → known_of (slice_set known k x) k ≡ x
known_here [] k x h = absurd (omega (arith, h))
known_here (y ∷ known) zero x h = refl
known_here (y ∷ known) (suc k) x h = known_here known k x (omega (arith, h))

known_elsewhere : (known : List Known) (k m : ℕ) (x : Known) → (m ≡ k → ⊥) → known_of (slice_set known k x) m ≡ known_of known m
known_elsewhere [] k m x f = refl
known_elsewhere (y ∷ known) zero zero x f = absurd (f refl)
known_elsewhere (y ∷ known) zero (suc m) x f = refl
known_elsewhere (y ∷ known) (suc k) zero x f = refl
known_elsewhere (y ∷ known) (suc k) (suc m) x f = known_elsewhere known k m x (λ e. f (ap suc e))

pub known_length : (known : List Known) (k : ℕ) (x : Known) → length (slice_set known k x) ≡ length known
known_length [] k x = refl
known_length (y ∷ known) zero x = refl
known_length (y ∷ known) (suc k) x = ap suc (known_length known k x)

-- a channel as it is, and as it is seen
pub record FitsBus (g : Parts) (bus : BusView) (seen : Seen) : Type 0 where
  pub geometry : bus.geometry ≡ g
  pub seen_geometry : seen.state.bus.geometry ≡ g
  pub inside : seen.state.standings ≡ all_inside
  pub count : length seen.state.bus.targets ≡ length bus.targets
  pub few : length bus.targets ≤ 4
  pub known : length seen.known ≡ 4
  pub each : (ce : ℕ) (t s : TargetView) → slice_get bus.targets ce ≡ Some t → slice_get seen.state.bus.targets ce ≡ Some s → FitsEither g (known_of seen.known ce) t s

-- the targets fit where one of each is changed
pub puts : (g : Parts) (ts ss : List TargetView) (known : List Known) (ce : ℕ) (k : Known) (f h : TargetView → TargetView) → ce < length known →
    ((m : ℕ) (t s : TargetView) → slice_get ts m ≡ Some t → slice_get ss m ≡ Some s → FitsEither g (known_of known m) t s) →
    ((t s : TargetView) → slice_get ts ce ≡ Some t → slice_get ss ce ≡ Some s → FitsEither g k (f t) (h s)) →
    (m : ℕ) (t s : TargetView) → slice_get (changed_at f ce ts) m ≡ Some t → slice_get (changed_at h ce ss) m ≡ Some s → FitsEither g (known_of (slice_set known ce k) m) t s
puts g ts ss known ce k f h low each own m t s ft fs =
    let a = put_found f ce ts m t ft in
    let b = put_found h ce ss m s fs in
    at a b (m == ce) refl
  where
    at : Put f ce ts m t → Put h ce ss m s → (q : Bool) → (m == ce) ≡ q → FitsEither g (known_of (slice_set known ce k) m) t s
    at a b true e =
        let here : m ≡ ce = eqb-true m ce e in
        rw (a.here here, b.here here, here, known_here known ce k low) (own a.before b.before (ap (slice_get ts) (sym here) ∙ a.found) (ap (slice_get ss) (sym here) ∙ b.found))
    at a b false e =
        let other : m ≡ ce → ⊥ = λ x. let is = eq-eqb m ce x in cc in
        rw (a.elsewhere other, b.elsewhere other, known_elsewhere known ce m k other) (each m a.before b.before a.found b.found)

-- ---- 3. what is learned, and what is in doubt

look_there : (bus : BusView) (ce n : ℕ) (s : TargetView) → slice_get bus.targets ce ≡ Some s → looked bus (record { ce = ce; lun = n }) ≡ look_at_some (slice_get s.luns n)
look_there bus ce n s h = ap (λ (o : Option TargetView). look_on o n) h

pub learned_there : (g : Parts) (i : Item) (before after : BusView) (ce : ℕ) (k : Known) (s u : TargetView) → slice_get before.targets ce ≡ Some s → slice_get after.targets ce ≡ Some u →
    IsLearned (has_plane_reads g.optional) i k (learned g i (looks_of before ce) (looks_of after ce) k) s.luns u.luns
learned_there g i before after ce k s u fs fu n few = at n few
  where
    both : (m : ℕ) (x : LunKnown) → learned_lun (has_plane_reads g.optional) i (looked before (record { ce = ce; lun = m })) (looked after (record { ce = ce; lun = m })) x ≡ learned_lun (has_plane_reads g.optional) i (look_at_some (slice_get s.luns m)) (look_at_some (slice_get u.luns m)) x
    both m x =
        ap (λ (o : Option LunState). learned_lun (has_plane_reads g.optional) i o (looked after (record { ce = ce; lun = m })) x) (look_there before ce m s fs)
        ∙ ap (λ (o : Option LunState). learned_lun (has_plane_reads g.optional) i (look_at_some (slice_get s.luns m)) o x) (look_there after ce m u fu)

    at : (m : ℕ) → m < 4 → knows (learned g i (looks_of before ce) (looks_of after ce) k) m ≡ learned_lun (has_plane_reads g.optional) i (look_at_some (slice_get s.luns m)) (look_at_some (slice_get u.luns m)) (knows k m)
    at zero h = both 0 k.zeroth
    at (suc zero) h = both 1 k.first
    at (suc (suc zero)) h = both 2 k.second
    at (suc (suc (suc zero))) h = both 3 k.third
    at (suc (suc (suc (suc m)))) h = absurd (omega (arith, h))

pub doubt_at : (bus : BusView) (k : Known) (ce n : ℕ) (s : TargetView) (v : LunView) → slice_get bus.targets ce ≡ Some s → slice_get s.luns n ≡ Some v → (known : Bool) → is_doubtful (looked bus (record { ce = ce; lun = n })) known ≡ not known
doubt_at bus k ce n s v fs fv known = ap (λ (o : Option LunState). is_doubtful o known) (look_there bus ce n s fs ∙ ap look_at_some fv)

pub undoubted : (bus : BusView) (k : Known) (ce : ℕ) (s : TargetView) → slice_get bus.targets ce ≡ Some s → length s.luns ≤ 4 → doubts bus k ce ≡ false → AtEach (λ m v. is_all (knows k m) ≡ true) 0 s.luns
undoubted bus k ce s fs few h = at_each (λ m v. is_all (knows k m) ≡ true) s.luns (λ m v fv. let within = slice_get_within s.luns m v fv in at m v fv (omega (arith, within, few)))
  where
    no_doubt : (n : ℕ) → n < 4 → doubts_lun bus k ce n ≡ false
    no_doubt zero b = (or_parts (doubts_lun bus k ce 0) _ h).0
    no_doubt (suc zero) b = (or_parts (doubts_lun bus k ce 1) _ (or_parts (doubts_lun bus k ce 0) _ h).1).0
    no_doubt (suc (suc zero)) b = (or_parts (doubts_lun bus k ce 2) (doubts_lun bus k ce 3) (or_parts (doubts_lun bus k ce 1) _ (or_parts (doubts_lun bus k ce 0) _ h).1).1).0
    no_doubt (suc (suc (suc zero))) b = (or_parts (doubts_lun bus k ce 2) (doubts_lun bus k ce 3) (or_parts (doubts_lun bus k ce 1) _ (or_parts (doubts_lun bus k ce 0) _ h).1).1).1
    no_doubt (suc (suc (suc (suc n)))) b = absurd (omega (arith, b))

    at : (m : ℕ) (v : LunView) → slice_get s.luns m ≡ Some v → m < 4 → is_all (knows k m) ≡ true
    at m v fv b = not-false (is_all (knows k m)) (sym (doubt_at bus k ce m s v fs fv (is_all (knows k m))) ∙ no_doubt m b)
