-- A run of data cycles: what it leaves of the readies, and of the trace.
use Rattle.std.proofs.Common.{◌≡◌, ℕ, zero, suc, ◌≤◌, false, List, [], ◌∷◌, ◌++◌, None, refl, sym, ap, ◌∙◌, arith, map, reverse, append_assoc, append-nil}
use Rattle.onfi_cycle.specs.declared.item.Item.{Item}
use Rattle.onfi_cycle.specs.declared.item.Kind.{Kind}
use Rattle.onfi_cycle.specs.Channel.{cycle}
use Rattle.onfi_cycle.specs.State.{BusView, bus_after}
use Rattle.onfi_cycle.specs.Bounds.{BusFits}
use Rattle.onfi_cycle.specs.Readies.{bus_due, starts_work, ReadiesAreDue}
use Rattle.onfi_cycle.specs.Runs.{with_run, judged_run, after_run}
use Rattle.onfi_cycle.proofs.Runs.{IsData, splits}
use Rattle.target_bus.proofs.Standing.{reversed}

-- a run of cycles that start no work brings no ready
pub run_due : (kind : Kind) → IsData kind → ((ce : ℕ) → starts_work (cycle ce kind 0) ≡ false) → ReadiesAreDue → (ce count : ℕ) (s : BusView) → judged_run kind ce count s ≡ None → BusFits s → bus_due (after_run kind ce count s) ≤ bus_due s
run_due kind d idle law ce zero s h f = omega arith
run_due kind d idle law ce (suc count) s h f =
    let parts = splits kind ce count s h in
    let rest = run_due kind d idle law ce count (bus_after (cycle ce kind 0) s) parts.rest (d.fits s ce parts.first f) in
    let one = law.cycles s (cycle ce kind 0) f refl (idle ce) in
    omega (arith, rest, one)

-- the trace is kept in the order of time
pushed : (kind : Kind) (ce : ℕ) (bytes : List ℕ) (items : List Item) → with_run kind ce bytes (reverse items) ≡ reverse (items ++ map (λ (byte : ℕ). cycle ce kind byte) bytes)
pushed kind ce [] items = ap reverse (sym (append-nil items))
pushed kind ce (byte ∷ bytes) items =
    ap (with_run kind ce bytes) (reversed items (items ++ (cycle ce kind byte ∷ [])) (cycle ce kind byte) refl) ∙
    (pushed kind ce bytes (items ++ (cycle ce kind byte ∷ [])) ∙
    ap reverse (append_assoc items (cycle ce kind byte ∷ []) (map (λ (byte : ℕ). cycle ce kind byte) bytes)))

pub with_pushed : (kind : Kind) (ce : ℕ) (bytes : List ℕ) (items more : List Item) → more ≡ items ++ map (λ (byte : ℕ). cycle ce kind byte) bytes → with_run kind ce bytes (reverse items) ≡ reverse more
with_pushed kind ce bytes items more is = pushed kind ce bytes items ∙ ap reverse (sym is)
