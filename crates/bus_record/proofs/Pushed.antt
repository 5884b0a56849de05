-- A channel in the caller's memory goes on by an item.
use Rattle.std.proofs.Common.{◌≡◌, ℕ, zero, suc, ◌<◌, ◌≤◌, List, [], ◌∷◌, Option, Some, None, Result, Ok, Err, length, map, take, get_or, slice_set, refl, sym, ap, ◌∙◌, arith, subst}
use Rattle.std.specs.List.{slice_get, All}
use Rattle.std.specs.Prelude.{MatchResult}
use Rattle.std.proofs.lemmas.Option.{slice_get-get_or}
use Rattle.nand_geometry.specs.declared.parts.Parts.{Parts}
use Rattle.nand_geometry.specs.declared.page_fault.PageFault.{PageFault}
use Rattle.nand_geometry.specs.Limits.{InLimits, fault_of}
use Rattle.onfi_cycle.specs.declared.tail_facts.TailFacts.{TailFacts}
use Rattle.onfi_cycle.specs.LunView.{LunView}
use Rattle.target_record.specs.Record.{HasRoom, target_of}
use Rattle.bus_record.specs.Many.{HasRecord}
use Rattle.bus_record.specs.Channel.{IsSameChannel}
use Rattle.onfi_cycle.proofs.Runs.{changed_length}
use Rattle.target_record.specs.declared.record.OnfiseqTarget.{OnfiseqTarget}
use Rattle.target_record.specs.Geometry.{parts_of}
use Rattle.bus_record.specs.Kept.{Kept}
use Rattle.std.proofs.lemmas.List.{length-set}
use Rattle.std.proofs.lemmas.List.Elements.{All-set}
use Rattle.onfi_cycle.specs.Sequence.{target_of as target_of_item}
use Rattle.onfi_cycle.specs.declared.item.Item.{Item}
use Rattle.onfi_cycle.specs.declared.forbidden.Forbidden.{Forbidden}
use Rattle.onfi_cycle.specs.Permitted.{judge}
use Rattle.onfi_cycle.specs.Bounds.{LunFits, TargetFits, BusFits}
use Rattle.onfi_cycle.specs.State.{TargetView, BusView, Follows, judged, judged_on, bus_after, target_after, bus}
use Rattle.onfi_cycle.proofs.Following.{judged_is_broken, bus_goes_on, target_fits, lun_fits_at, applied}
use Rattle.bus_record.specs.Rule.{by_option}
use Rattle.bus_record.specs.Bus.{rule_code, FitsAt, GoesOn, HasPlaces, IsSound, bus_pushed, bus_view, pushed, target_pushed}
use Rattle.target_record.specs.Record.{IsTarget}
use Rattle.target_record.specs.Whole.{IsWhole}

-- parts that make a geometry are those of the geometry
pub of_ok : (r : Result Parts PageFault) (p g : Parts) → MatchResult r (λ g. (fault_of p ≡ None) × (g ≡ p)) (λ e. fault_of p ≡ Some e) → r ≡ Ok g → g ≡ p
of_ok (Ok x) p g m e = let same : x ≡ g = cc in sym same ∙ m.1
of_ok (Err x) p g m e = cc

-- the images of the first n, with one of them changed
pub set_seen : {X Y : Type 0} (f : X → Y) (n : ℕ) (xs : List X) (k : ℕ) (x : X) → k < n → map f (take n (slice_set xs k x)) ≡ slice_set (map f (take n xs)) k (f x)
set_seen f zero xs k x h = absurd (omega arith)
set_seen f (suc n) [] k x h = refl
set_seen f (suc n) (y ∷ xs) zero x h = refl
set_seen f (suc n) (y ∷ xs) (suc k) x h = let low : k < n = omega arith in ap (λ zs. f y ∷ zs) (set_seen f n xs k x low)

pub get_seen : {X Y : Type 0} (f : X → Y) (n : ℕ) (xs : List X) (k : ℕ) (d : X) → k < n → get_or (map f (take n xs)) k (f d) ≡ f (get_or xs k d)
get_seen f zero xs k d h = absurd (omega arith)
get_seen f (suc n) [] k d h = refl
get_seen f (suc n) (y ∷ xs) zero d h = refl
get_seen f (suc n) (y ∷ xs) (suc k) d h = let low : k < n = omega arith in get_seen f n xs k d low

pub length_seen : {X Y : Type 0} (f : X → Y) (n : ℕ) (xs : List X) → n ≤ length xs → length (map f (take n xs)) ≡ n
length_seen f zero xs h = refl
length_seen f (suc n) [] h = absurd (omega arith)
length_seen f (suc n) (x ∷ xs) h = let low : n ≤ length xs = omega arith in ap suc (length_seen f n xs low)

pub number_above : (rule : Forbidden) → rule_code rule ≡ 0 → ⊥
number_above rule h = omega (arith, h)

none_if_zero : (o : Option Forbidden) → by_option o 0 rule_code ≡ 0 → o ≡ None
none_if_zero None h = refl
none_if_zero (Some rule) h = absurd (number_above rule h)

-- what is answered and what is left say that the state goes on with its past
pub goes_on_with : (g : Parts) (n : ℕ) (s later : BusView) (past : List Item) (i : Item) (answer : ℕ) → answer ≡ pushed s (Some i) → later ≡ bus_pushed s (Some i) → Follows g n s past → GoesOn g n past i answer later
goes_on_with g n s later past i answer a b f =
    let same = judged_is_broken g n s past i f in
    record {
      answered = a ∙ ap (λ o. by_option o 0 rule_code) same;
      follows = λ zero_is.
          let none : judged s i ≡ None = none_if_zero (judged s i) (sym a ∙ zero_is) in
          let is : later ≡ bus_after i s = b ∙ ap (λ o. by_option o (bus_after i s) (λ (rule : Forbidden). s)) none in
          subst (λ (x : BusView). Follows g n x (i ∷ past)) (sym is) (bus_goes_on g n s past i none f);
    }

-- a target that fits has few LUNs, whose queues are short, and a tail of small numbers
pub luns_few : (g : Parts) (t : TargetView) → InLimits g → TargetFits g t → length t.luns ≤ 4
luns_few g t limits f = let same = f.count in let most = limits.luns_most in omega (arith, same, most)

pub have_room : (g : Parts) (t : TargetView) → TargetFits g t → All HasRoom t.luns
have_room g t f k d h =
    let fits : LunFits g (get_or t.luns k d) = lun_fits_at g t.tail 0 t.luns k (get_or t.luns k d) f.luns (slice_get-get_or t.luns k d h) in
    let most = fits.queue in
    (omega (arith, most), fits.held)

pub small_column : (g : Parts) (t : TailFacts) (s : TargetView) → t ≡ s.tail → TargetFits g s → t.column < 65536
small_column g t s e f = let small = f.tail.column in rw e small

pub small_inputs : (g : Parts) (t : TailFacts) (s : TargetView) → t ≡ s.tail → InLimits g → TargetFits g s → t.inputs < 9223372036854775808
small_inputs g t s e limits f =
    let few = f.tail.inputs in
    let small : s.tail.inputs < 9223372036854775808 = omega (arith, few, limits.page_bytes_most, limits.spare_bytes_most) in
    rw e small

pub after_fits : (g : Parts) → InLimits g → (n : ℕ) (i : Item) (s t : TargetView) → judge g n s.tail s.luns i ≡ None → t ≡ target_after g i s → t.tail.column < 65536 → TargetFits g s → TargetFits g t
after_fits g limits n i s t permitted is small f =
    subst (TargetFits g) (sym is) (target_fits g limits n i s permitted (subst (λ (v : TargetView). v.tail.column < 65536) is small) f)

-- ---- a channel in the caller's memory, and its target at one place

views : Kept → List TargetView
views k = map target_of (take k.count k.targets)

pub places_of : (k : Kept) → IsSound k → HasPlaces k
places_of k s = record { few = s.few; room = s.room }

pub views_count : (k : Kept) → HasPlaces k → length (map target_of (take k.count k.targets)) ≡ k.count
views_count k s = let few = s.few in let room = s.room in let low : k.count ≤ length k.targets = omega (arith, few, room) in length_seen target_of k.count k.targets low

pub fits_there : (k : Kept) → IsSound k → (ce : ℕ) → ce < k.count → (d : OnfiseqTarget) → TargetFits (parts_of k.geometry) (target_of (get_or k.targets ce d))
fits_there k s ce low d =
    let some : 1 ≤ k.count = omega (arith, low) in
    let count = views_count k (places_of k s) in
    let there : ce < length (map target_of (take k.count k.targets)) = omega (arith, low, count) in
    subst (TargetFits (parts_of k.geometry)) (get_seen target_of k.count k.targets ce d low) ((s.fits some).targets ce (target_of d) there)

pub limits_there : (k : Kept) → IsSound k → (ce : ℕ) → ce < k.count → InLimits (parts_of k.geometry)
limits_there k s ce low = let some : 1 ≤ k.count = omega (arith, low) in (s.fits some).limits

pub sound_after : (k : Kept) → IsSound k → (ce : ℕ) → ce < k.count → (t : OnfiseqTarget) → IsTarget t → TargetFits (parts_of k.geometry) (target_of t)
    → IsSound (record { magic = k.magic; geometry = k.geometry; count = k.count; targets = slice_set k.targets ce t })
sound_after k s ce low t numbers fits =
    record {
      few = s.few;
      room = length-set _ _ _ ∙ s.room;
      records = All-set IsTarget k.targets ce t numbers s.records;
      fits = λ some. subst (λ (ts : List TargetView). BusFits (bus (parts_of k.geometry) ts)) (sym (set_seen target_of k.count k.targets ce t low)) (record {
        limits = (s.fits some).limits;
        targets = All-set (TargetFits (parts_of k.geometry)) (map target_of (take k.count k.targets)) ce (target_of t) fits (s.fits some).targets;
        count = let same = length-set (map target_of (take k.count k.targets)) ce (target_of t) in let most = (s.fits some).count in omega (arith, same, most);
      });
    }

pub judged_there : (k : Kept) → HasPlaces k → (i : Item) (ce : ℕ) → ce ≡ target_of_item i → ce < k.count → (d : OnfiseqTarget)
    → judged (bus_view k) i ≡ judge (parts_of k.geometry) k.count (target_of (get_or k.targets ce d)).tail (target_of (get_or k.targets ce d)).luns i
judged_there k s i ce place low d =
    let count = views_count k s in
    let there : ce < length (map target_of (take k.count k.targets)) = omega (arith, low, count) in
    let found = slice_get-get_or (map target_of (take k.count k.targets)) ce (target_of d) there ∙ ap (λ (v : TargetView). Some v) (get_seen target_of k.count k.targets ce d low) in
    ap (λ (m : ℕ). judged_on (parts_of k.geometry) (length (map target_of (take k.count k.targets))) (slice_get (map target_of (take k.count k.targets)) m) i) (sym place)
    ∙ ap (λ (o : Option TargetView). judged_on (parts_of k.geometry) (length (map target_of (take k.count k.targets))) o i) found
    ∙ ap (λ (n : ℕ). judge (parts_of k.geometry) n (target_of (get_or k.targets ce d)).tail (target_of (get_or k.targets ce d)).luns i) count

pub set_same : {X : Type 0} (xs : List X) (k : ℕ) (d : X) → slice_set xs k (get_or xs k d) ≡ xs
set_same [] k d = refl
set_same (x ∷ xs) zero d = refl
set_same (x ∷ xs) (suc k) d = ap (λ ys. x ∷ ys) (set_same xs k d)

pub state_there : (k : Kept) → HasPlaces k → (i : Item) (ce : ℕ) → ce ≡ target_of_item i → ce < k.count → (d t : OnfiseqTarget)
    → target_of t ≡ target_pushed (parts_of k.geometry) k.count (target_of (get_or k.targets ce d)) i
    → bus (parts_of k.geometry) (map target_of (take k.count (slice_set k.targets ce t))) ≡ bus_pushed (bus_view k) (Some i)
state_there k s i ce place low d t is =
    ap (bus (parts_of k.geometry)) (set_seen target_of k.count k.targets ce t low) ∙ at (judge (parts_of k.geometry) k.count (target_of (get_or k.targets ce d)).tail (target_of (get_or k.targets ce d)).luns i) refl
  where
    at : (o : Option Forbidden) → judge (parts_of k.geometry) k.count (target_of (get_or k.targets ce d)).tail (target_of (get_or k.targets ce d)).luns i ≡ o
        → bus (parts_of k.geometry) (slice_set (map target_of (take k.count k.targets)) ce (target_of t)) ≡ bus_pushed (bus_view k) (Some i)
    at None e =
        let seen = get_seen target_of k.count k.targets ce d low in
        let after : target_of t ≡ target_after (parts_of k.geometry) i (get_or (map target_of (take k.count k.targets)) ce (target_of d)) =
        is ∙ ap (λ o. by_option o (target_after (parts_of k.geometry) i (target_of (get_or k.targets ce d))) (λ (rule : Forbidden). target_of (get_or k.targets ce d))) e
        ∙ ap (target_after (parts_of k.geometry) i) (sym seen) in
        applied (parts_of k.geometry) (map target_of (take k.count k.targets)) i ce (target_of d) (target_of t) place after
        ∙ sym (ap (λ o. by_option o (bus_after i (bus_view k)) (λ (rule : Forbidden). bus_view k)) (judged_there k s i ce place low d ∙ e))
    at (Some rule) e =
        let seen = get_seen target_of k.count k.targets ce d low in
        let same : target_of t ≡ get_or (map target_of (take k.count k.targets)) ce (target_of d) =
        is ∙ ap (λ o. by_option o (target_after (parts_of k.geometry) i (target_of (get_or k.targets ce d))) (λ (rule : Forbidden). target_of (get_or k.targets ce d))) e ∙ sym seen in
        ap (λ (v : TargetView). bus (parts_of k.geometry) (slice_set (map target_of (take k.count k.targets)) ce v)) same
        ∙ ap (bus (parts_of k.geometry)) (set_same (map target_of (take k.count k.targets)) ce (target_of d))
        ∙ sym (ap (λ o. by_option o (bus_after i (bus_view k)) (λ (rule : Forbidden). bus_view k)) (judged_there k s i ce place low d ∙ e))

-- what a permitted item leaves of a target, by the parts that the code judges it by
pub leaves : (g : Parts) → InLimits g → (n : ℕ) (i : Item) (s r t : TargetView) (tail : TailFacts) (luns items : List LunView) (answer : Option Forbidden)
    → record { tail = tail; luns = items } ≡ r → luns ≡ items → answer ≡ judge g n tail luns i → answer ≡ None → t ≡ target_after g i r → t.tail.column < 65536 → r ≡ s → TargetFits g s → TargetFits g t
leaves g limits n i s r t tail luns items answer parts shown is none after small same f =
    let moved = ap (λ (vs : List LunView). judge g n tail vs i) shown ∙ ap (λ (x : TargetView). judge g n x.tail x.luns i) parts in
    let permitted : judge g n r.tail r.luns i ≡ None = sym (is ∙ moved) ∙ none in
    after_fits g limits n i r t permitted after small (subst (TargetFits g) (sym same) f)

-- an element that is looked up among the images of the first ones
pub seen_there : {X Y : Type 0} (f : X → Y) (xs : List X) (count n k : ℕ) (d : X) → k ≡ n → k < count → count ≤ length xs
    → slice_get (map f (take count xs)) n ≡ Some (f (get_or xs k d))
seen_there f xs count n k d place low room =
    let same = length_seen f count xs room in
    let there : k < length (map f (take count xs)) = omega (arith, same, low) in
    ap (λ (m : ℕ). slice_get (map f (take count xs)) m) (sym place)
    ∙ (slice_get-get_or (map f (take count xs)) k (f d) there ∙ ap Some (get_seen f count xs k d low))

pub have_records : (g : Parts) (ts : List TargetView) → BusFits (bus g ts) → All HasRecord ts
have_records g ts f k d h = record { count = luns_few g (get_or ts k d) f.limits (f.targets k d h); queues = have_room g (get_or ts k d) (f.targets k d h) }

-- an item leaves the channel the same
pub after_keeps : (b : BusView) (i : Item) → IsSameChannel b (bus_after i b)
after_keeps b i = record { geometry = refl; count = changed_length (target_after b.geometry i) b.targets (target_of_item i) }

pub same_channel : (b : BusView) → IsSameChannel b b
same_channel b = record { geometry = refl; count = refl }

pub pushed_keeps : (b : BusView) (i : Item) → IsSameChannel b (bus_pushed b (Some i))
pushed_keeps b i = at (judged b i)
  where
    at : (o : Option Forbidden) → IsSameChannel b (by_option o (bus_after i b) (λ (rule : Forbidden). b))
    at None = after_keeps b i
    at (Some rule) = same_channel b

-- a sound channel fits at each target
pub fits_each : (k : Kept) → IsSound k → (ce : ℕ) → FitsAt k ce
fits_each k s ce =
    record {
      places = places_of k s;
      whole = λ low d. record {
        limits = limits_there k s ce low;
        numbers = let few = s.few in let room = s.room in s.records ce d (omega (arith, low, few, room));
        fits = fits_there k s ce low d;
      };
    }

-- what stands there is whole
pub there_whole : (k : Kept) (ce at : ℕ) → FitsAt k ce → at ≡ ce → at < k.count → (d : OnfiseqTarget) → IsWhole k.geometry (get_or k.targets at d)
there_whole k ce at f is low d = subst (λ (n : ℕ). IsWhole k.geometry (get_or k.targets n d)) (sym is) (f.whole (subst (λ (n : ℕ). n < k.count) is low) d)
