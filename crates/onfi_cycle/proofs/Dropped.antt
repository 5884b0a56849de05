-- A target without the sequence that it is in fits as it did.
use Rattle.std.proofs.Common.{◌≡◌, ℕ, zero, suc, ◌+◌, ◌≤◌, List, [], ◌∷◌, refl, ap, ◌∙◌, arith, length, set, get_or}
use Rattle.std.specs.List.{All}
use Rattle.nand_geometry.specs.declared.parts.Parts.{Parts}
use Rattle.onfi_cycle.specs.declared.tail_facts.TailFacts.{TailFacts}
use Rattle.onfi_cycle.specs.LunView.{LunView}
use Rattle.onfi_cycle.specs.Sequence.{facts_of}
use Rattle.onfi_cycle.specs.State.{TargetView, changed_at, bus, without_sequence}
use Rattle.onfi_cycle.specs.Bounds.{LunsFit, TargetFits, BusFits}
use Rattle.onfi_cycle.proofs.TailBounds.{no_tail_fits}
use Rattle.onfi_cycle.proofs.Following.{set_changes}
use Rattle.onfi_cycle.proofs.Runs.{changed_length}

-- an empty tail asks nothing of a LUN
luns_fit : (g : Parts) (t : TailFacts) (n : ℕ) (vs : List LunView) → LunsFit g t n vs → LunsFit g (facts_of []) n vs
luns_fit g t n [] f = tt
luns_fit g t n (v ∷ vs) f = (
  f.0,
  record { read = λ named h. cc; erase = λ named h. cc; program = λ named h. cc },
  record { inside = λ named h. cc; ready = λ named h. cc; identity = λ h. cc; alone = λ narrow h. cc },
  luns_fit g t (n + 1) vs f.3,
)

target_fits : (g : Parts) (s : TargetView) → TargetFits g s → TargetFits g (without_sequence s)
target_fits g s f = record { tail = no_tail_fits g; luns = luns_fit g s.tail 0 s.luns f.luns; count = f.count }

all_fit : (g : Parts) (targets : List TargetView) (k : ℕ) → All (TargetFits g) targets → All (TargetFits g) (changed_at without_sequence k targets)
all_fit g [] k f m d h = f m d h
all_fit g (s ∷ targets) zero f zero d h = target_fits g s (f zero d h)
all_fit g (s ∷ targets) zero f (suc m) d h = f (suc m) d h
all_fit g (s ∷ targets) (suc k) f zero d h = f zero d (omega arith)
all_fit g (s ∷ targets) (suc k) f (suc m) d h = all_fit g targets k (λ n e below. f (suc n) e (omega (arith, below))) m d (omega (arith, h))

pub dropped_fits : (g : Parts) (targets : List TargetView) (k : ℕ) → BusFits (bus g targets) → BusFits (bus g (changed_at without_sequence k targets))
dropped_fits g targets k f =
    record {
      limits = f.limits;
      targets = all_fit g targets k f.targets;
      count = let same = changed_length without_sequence targets k in omega (arith, f.count);
    }

-- as the code does it, by a place in a list
pub dropped_there : (targets : List TargetView) (n k : ℕ) (d t : TargetView) → k ≡ n → t ≡ without_sequence (get_or targets k d) → set targets k t ≡ changed_at without_sequence n targets
dropped_there targets n k d t place is = ap (set targets k) is ∙ (set_changes without_sequence targets k d ∙ ap (λ (m : ℕ). changed_at without_sequence m targets) place)

pub dropped_beyond : (targets : List TargetView) (n : ℕ) → length targets ≤ n → targets ≡ changed_at without_sequence n targets
dropped_beyond [] n h = refl
dropped_beyond (s ∷ targets) zero h = absurd (omega arith)
dropped_beyond (s ∷ targets) (suc n) h = ap (λ (ts : List TargetView). s ∷ ts) (dropped_beyond targets n (omega (arith, h)))
