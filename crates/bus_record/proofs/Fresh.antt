-- A channel in the caller's memory to which nothing has happened.
use Rattle.std.proofs.Common.{◌≡◌, ℕ, zero, suc, ◌+◌, ◌<◌, ◌≤◌, List, [], ◌∷◌, length, map, take, replicate, refl, arith}
use Rattle.std.specs.List.{All}
use Rattle.nand_geometry.specs.declared.parts.Parts.{Parts}
use Rattle.nand_geometry.specs.Limits.{InLimits}
use Rattle.onfi_cycle.specs.Lun.{views_from}
use Rattle.onfi_cycle.specs.State.{Follows, target_view, targets_from}
use Rattle.onfi_cycle.proofs.Following.{beginning}
use Rattle.target_record.specs.Record.{luns_of, target_of}
use Rattle.target_record.specs.Geometry.{parts_of}
use Rattle.bus_record.specs.Bus.{IsSound, bus_view}
use Rattle.target_record.specs.Record.{IsTarget}
use Rattle.target_record.specs.declared.record.OnfiseqLun.{OnfiseqLun}
use Rattle.target_record.specs.declared.record.OnfiseqTarget.{OnfiseqTarget}
use Rattle.target_record.specs.declared.geometry.OnfiseqGeometry.{OnfiseqGeometry}

-- what stands in the places of the LUNs of a target to which nothing has happened
abbrev free_lun : ℕ → OnfiseqLun
free_lun selected = record {
  latch = 0;
  busy = 0;
  has_closer = 0;
  closer = 0;
  array_busy = 0;
  register = 0;
  has_column = 0;
  lost = 0;
  column = 0;
  array_block = 0;
  array_page = 0;
  register_block = 0;
  selected = selected;
  overlapped = 0;
  register_page = 0;
  outputs = 0;
  queued = 0;
  queue = replicate 4 (record { page = 0; block = 0; kind = 0 });
  holds = 0;
  held = replicate 4 (record { page = 0; block = 0 });
}

abbrev fresh_luns : List OnfiseqLun
fresh_luns = free_lun 1 ∷ free_lun 0 ∷ free_lun 0 ∷ free_lun 0 ∷ []

pub fresh_are : (g : Parts) (ce n : ℕ) → n ≤ 4 → luns_of (take n fresh_luns) ≡ views_from g [] ce n 0
fresh_are g ce zero h = refl
fresh_are g ce (suc zero) h = refl
fresh_are g ce (suc (suc zero)) h = refl
fresh_are g ce (suc (suc (suc zero))) h = refl
fresh_are g ce (suc (suc (suc (suc zero)))) h = refl
fresh_are g ce (suc (suc (suc (suc (suc n))))) h = absurd (omega (arith, h))

same_views : (g : Parts) (t : OnfiseqTarget) → ((ce : ℕ) → target_of t ≡ target_view g [] ce) → (n m k : ℕ) → n ≤ m → map target_of (take n (replicate m t)) ≡ targets_from g [] n k
same_views g t all zero m k h = refl
same_views g t all (suc n) zero k h = absurd (omega arith)
same_views g t all (suc n) (suc m) k h = let low : n ≤ m = omega arith in rw (all k, same_views g t all n m (k + 1) low) refl

pub fresh_views : (g : Parts) (t : OnfiseqTarget) → ((ce : ℕ) → target_of t ≡ target_view g [] ce) → (n : ℕ) → n ≤ 4 → map target_of (take n (t ∷ t ∷ t ∷ t ∷ [])) ≡ targets_from g [] n 0
fresh_views g t all n h = same_views g t all n 4 0 h

all_same : {X : Type 0} (P : X → Type 0) (x : X) → P x → (n : ℕ) → All P (replicate n x)
all_same P x p zero k d h = absurd (omega arith)
all_same P x p (suc n) zero d h = p
all_same P x p (suc n) (suc k) d h = let low : k < length (replicate n x) = omega (arith, h) in all_same P x p n k d low

pub fresh_sound : (g : OnfiseqGeometry) (t : OnfiseqTarget) (n : ℕ) → InLimits (parts_of g) → IsTarget t → ((ce : ℕ) → target_of t ≡ target_view (parts_of g) [] ce) → n ≤ 4
    → IsSound (record { magic = 0x5355424f; geometry = g; count = n; targets = t ∷ t ∷ t ∷ t ∷ [] })
fresh_sound g t n limits numbers all few =
    record {
      few = few;
      room = refl;
      records = all_same IsTarget t numbers 4;
      fits = λ some. beginning (parts_of g) (map target_of (take n (t ∷ t ∷ t ∷ t ∷ []))) n limits few (fresh_views (parts_of g) t all n few);
    }

pub fresh_follows : (g : OnfiseqGeometry) (t : OnfiseqTarget) (n : ℕ) → ((ce : ℕ) → target_of t ≡ target_view (parts_of g) [] ce) → n ≤ 4
    → Follows (parts_of g) n (bus_view (record { magic = 0x5355424f; geometry = g; count = n; targets = t ∷ t ∷ t ∷ t ∷ [] })) []
fresh_follows g t n all few = record { legal = refl; geometry = refl; facts = fresh_views (parts_of g) t all n few }
