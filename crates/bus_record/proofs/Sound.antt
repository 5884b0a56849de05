-- A channel whose numbers stand every test is sound, and the other way round.
use Rattle.std.proofs.Common.{◌≡◌, ℕ, zero, suc, ◌<◌, ◌≤◌, Bool, true, false, ◌||◌, List, [], ◌∷◌, refl, ap, ◌∙◌, length, map, take, get_or, arith}
use Rattle.std.specs.Prelude.{nat_le}
use Rattle.std.specs.List.{All, list_all, slice_get}
use Rattle.std.proofs.lemmas.Bool.{and_from}
use Rattle.std.proofs.lemmas.Bool.Decides.{nat_tests}
use Rattle.std.proofs.lemmas.Option.{slice_get-get_or}
use Rattle.onfi_cycle.specs.Bounds.{TargetFits}
use Rattle.target_record.specs.Geometry.{parts_of}
use Rattle.target_record.specs.Record.{IsTarget, target_of}
use Rattle.target_record.specs.Whole.{IsWhole, are_numbers, is_whole}
use Rattle.target_record.specs.declared.geometry.OnfiseqGeometry.{OnfiseqGeometry}
use Rattle.target_record.specs.declared.record.OnfiseqTarget.{OnfiseqTarget}
use Rattle.target_record.proofs.Fitting.{numbers_taken, whole_taken}
use Rattle.bus_record.specs.Bus.{FitsAt, HasPlaces, IsSound, SoundAreTaken, are_sound, fits_at, is_whole_there}
use Rattle.bus_record.specs.Kept.{Kept}
use Rattle.bus_record.proofs.Pushed.{fits_each, views_count}
use Rattle.bus_record.proofs.Runs.{no_target}

-- ---- what stands every test is sound

fits_mapped : (g : OnfiseqGeometry) (ts : List OnfiseqTarget) → All (IsWhole g) ts → All (TargetFits (parts_of g)) (map target_of ts)
fits_mapped g [] a k d h = absurd (omega arith)
fits_mapped g (t ∷ ts) a zero d h = (a 0 t (omega arith)).fits
fits_mapped g (t ∷ ts) a (suc k) d h = fits_mapped g ts (λ j e l. a (suc j) e (omega (arith, l))) k d (omega (arith, h))

first_length : (n : ℕ) (ts : List OnfiseqTarget) → n ≤ length ts → length (take n ts) ≡ n
first_length zero ts h = refl
first_length (suc n) [] h = absurd (omega arith)
first_length (suc n) (t ∷ ts) h = let low : n ≤ length ts = omega (arith, h) in ap suc (first_length n ts low)

pub sound_is : (k : Kept) → length k.targets ≡ 4 → k.count ≤ 4 → All IsTarget k.targets → All (IsWhole k.geometry) (take k.count k.targets) → IsSound k
sound_is k room few numbers whole =
    let inside : k.count ≤ length k.targets = omega (arith, room, few) in
    let count = first_length k.count k.targets inside in
    let places : HasPlaces k = record { few = few; room = room } in
    let seen = views_count k places in
    record {
      few = few;
      room = room;
      records = numbers;
      fits = λ some. record {
        limits = (whole 0 no_target (omega (arith, count, some))).limits;
        targets = fits_mapped k.geometry (take k.count k.targets) whole;
        count = omega (arith, seen, few);
      };
    }

-- the test of one target
pub fits_is : (k : Kept) (ce : ℕ) → length k.targets ≡ 4 → k.count ≤ 4 → (ce < k.count → (d : OnfiseqTarget) → IsWhole k.geometry (get_or k.targets ce d)) → FitsAt k ce
fits_is k ce room few whole = record { places = record { few = few; room = room }; whole = whole }

-- ---- what is sound stands every test

fits_taken : (k : Kept) → IsSound k → (ce : ℕ) → fits_at ce k ≡ true
fits_taken k s ce =
    let few = s.few in
    let first : nat_le k.count 4 ≡ true = grind (arith, nat_tests, few) in
    and_from _ _ first (at (nat_le k.count ce) refl)
  where
    at : (b : Bool) → nat_le k.count ce ≡ b → (b || is_whole_there k.geometry (slice_get k.targets ce)) ≡ true
    at true e = refl
    at false e =
        let few = s.few in
        let room = s.room in
        let low : ce < k.count = grind (arith, nat_tests, e) in
        let there : ce < length k.targets = omega (arith, low, few, room) in
        ap (is_whole_there k.geometry) (slice_get-get_or k.targets ce no_target there)
        ∙ whole_taken k.geometry (get_or k.targets ce no_target) ((fits_each k s ce).whole low no_target)

numbers_all : (ts : List OnfiseqTarget) → All IsTarget ts → list_all are_numbers ts ≡ true
numbers_all [] a = refl
numbers_all (t ∷ ts) a = and_from _ _ (numbers_taken t (a 0 t (omega arith))) (numbers_all ts (λ k d h. a (suc k) d (omega (arith, h))))

whole_first : (g : OnfiseqGeometry) (n : ℕ) (ts : List OnfiseqTarget) → ((i : ℕ) → i < n → i < length ts → (d : OnfiseqTarget) → IsWhole g (get_or ts i d)) → list_all (is_whole g) (take n ts) ≡ true
whole_first g zero ts a = refl
whole_first g (suc n) [] a = refl
whole_first g (suc n) (t ∷ ts) a =
    and_from _ _ (whole_taken g t (a 0 (omega arith) (omega arith) t)) (whole_first g n ts (λ i low there d. a (suc i) (omega (arith, low)) (omega (arith, there)) d))

sound_taken : (k : Kept) → IsSound k → are_sound k ≡ true
sound_taken k s =
    let few = s.few in
    let first : nat_le k.count 4 ≡ true = grind (arith, nat_tests, few) in
    and_from _ _ first (and_from _ _ (numbers_all k.targets s.records) (whole_first k.geometry k.count k.targets (λ i low there d. (fits_each k s i).whole low d)))

pub sound_are_taken : SoundAreTaken
sound_are_taken k s = record { there = fits_taken k s; whole = sound_taken k s }
