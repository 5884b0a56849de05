use Rattle.std.proofs.Common.{◌≡◌, ◌++◌, ◌≤◌, ℕ, length, take}
use Rattle.nand_geometry.specs.declared.parts.Parts.{Parts}
use Rattle.trace_wave.specs.Keeping.{IsAt}
use Rattle.trace_wave.specs.Wave.{Drawing, frames, after_all, Grows}
use Rattle.trace_wave.proofs.dump.Dump.draw_each.Given as goal

abbrev pub invariant-items : goal.invariant-items
invariant-items g l = record {
  inside : l.place ≤ 1024;
  grows : Grows l.fn.out.items l.out.items;
  so_far : (p : Parts) (targets : ℕ) (d : Drawing) → IsAt p targets d l.fn.self
      → (e : Drawing) × (IsAt p targets e l.self × ((l.out.items ++ (take l.place l.room ++ frames p targets e l.rest) ≡ l.fn.out.items ++ frames p targets d l.items) × (after_all p targets e l.rest ≡ after_all p targets d l.items)));
}

abbrev pub decreases-items : goal.decreases-items
decreases-items g l = length l.rest
