-- The readies that are to come, as they are counted.
use Rattle.std.proofs.Common.{◌≡◌, ℕ, zero, suc, ◌+◌, ◌-◌, ◌≤◌, true, false, List, [], ◌∷◌, None, sym, subst, arith}
use Rattle.std.specs.List.{slice_get}
use Rattle.onfi_cycle.specs.declared.item.Item.{Item}
use Rattle.onfi_cycle.specs.declared.item.Item.TheVariants.{Cyc, Rdy, Ard}
use Rattle.onfi_cycle.specs.Sequence.{target_of}
use Rattle.onfi_cycle.specs.Channel.{is_cycle}
use Rattle.onfi_cycle.specs.State.{TargetView, BusView, judged, bus_after}
use Rattle.onfi_cycle.specs.Bounds.{BusFits}
use Rattle.onfi_cycle.specs.Readies.{starts_work, due_there, targets_due, bus_due, ReadiesAreDue}

pub there_at_most : (targets : List TargetView) (k : ℕ) → due_there (slice_get targets k) ≤ targets_due targets
there_at_most [] k = omega arith
there_at_most (s ∷ targets) zero = omega arith
there_at_most (s ∷ targets) (suc k) = let rest = there_at_most targets k in omega (arith, rest)

-- the state that a code's result is
pub record Counts (s next : BusView) (i : Item) (due before after : ℕ) : Type 0 where
  pub least : before ≤ due
  pub enough : bus_due next ≤ due - before + after
  pub idle : is_cycle i ≡ true → starts_work i ≡ false → due - before + after ≤ due
  pub ready : is_cycle i ≡ false → due - before + after + 1 ≤ due

pub counts : ReadiesAreDue → (s next : BusView) (i : Item) (due before after : ℕ) → BusFits s → judged s i ≡ None → next ≡ bus_after i s → before ≡ due_there (slice_get s.targets (target_of i)) → after ≡ due_there (slice_get next.targets (target_of i)) → bus_due s ≤ due → Counts s next i due before after
counts law s next i due before after fits h is b a enough =
    let moved : bus_due next + before ≡ bus_due s + after = subst (λ (n : ℕ). bus_due next + n ≡ bus_due s + after) (sym b) (subst (λ (n : ℕ). bus_due next + due_there (slice_get s.targets (target_of i)) ≡ bus_due s + n) (sym a) (subst (λ (x : BusView). bus_due x + due_there (slice_get s.targets (target_of i)) ≡ bus_due s + due_there (slice_get x.targets (target_of i))) (sym is) (law.elsewhere s i))) in
    let most : before ≤ bus_due s = subst (λ (n : ℕ). n ≤ bus_due s) (sym b) (there_at_most s.targets (target_of i)) in
    record {
      least = omega (arith, most, enough);
      enough = omega (arith, moved, most, enough);
      idle = λ cyc idle. let less = subst (λ (x : BusView). bus_due x ≤ bus_due s) (sym is) (law.cycles s i fits cyc idle) in omega (arith, moved, most, enough, less);
      ready = λ cyc. let less = by i h is cyc in omega (arith, moved, most, enough, less);
    }
  where
    by : (i : Item) → judged s i ≡ None → next ≡ bus_after i s → is_cycle i ≡ false → bus_due next + 1 ≤ bus_due s
    by (Cyc c) h is cyc = cc
    by (Rdy ce lun fail) h is cyc = subst (λ (x : BusView). bus_due x + 1 ≤ bus_due s) (sym is) (law.readies s ce lun fail h)
    by (Ard ce lun fail) h is cyc = subst (λ (x : BusView). bus_due x + 1 ≤ bus_due s) (sym is) (law.array_readies s ce lun fail h)
