-- An address that is the last of no row breaks no rule of copybacks.
use Rattle.std.proofs.Common.{◌≡◌, ℕ, Bool, true, false, ◌&&◌, ◌||◌, List, Option, Some, None, refl}
use Rattle.nand_geometry.specs.declared.parts.Parts.{Parts}
use Rattle.nand_geometry.specs.Optional.{has_copyback}
use Rattle.onfi_cycle.specs.declared.command.Command.{Command}
use Rattle.onfi_cycle.specs.declared.opening.Opening.{Opening}
use Rattle.onfi_cycle.specs.declared.tail_facts.TailFacts.{TailFacts}
use Rattle.onfi_cycle.specs.declared.target_cycle.TargetCycle.TheVariants.{AddressCycle}
use Rattle.onfi_cycle.specs.Command.{at_last_row, is_page_program, is_write_column}
use Rattle.onfi_cycle.specs.LunView.{LunView}
use Rattle.onfi_cycle.specs.Sequence.{opened}
use Rattle.onfi_cycle.specs.Rules.{ends_row, breaks_copyback_misplaced}

opened_by_none : (among : Command → Bool) (o : Option Opening) → opened (λ c n. true && at_last_row c n) o ≡ false → opened (λ c n. among c && at_last_row c n) o ≡ false
opened_by_none among None h = refl
opened_by_none among (Some o) h = of (among o.opener) (at_last_row o.opener o.addresses) h
  where
    of : (a b : Bool) → b ≡ false → (a && b) ≡ false
    of true b h = h
    of false b h = refl

nothing_left : (b : Bool) → (b && (false || false)) ≡ false
nothing_left true = refl
nothing_left false = refl

pub no_copyback : (g : Parts) (t : TailFacts) (luns : List LunView) (byte : ℕ) → ends_row (λ c. true) t ≡ false → breaks_copyback_misplaced g t luns (AddressCycle byte) ≡ false
unfolding breaks_copyback_misplaced
no_copyback g t luns byte h =
    let program : ends_row is_page_program t ≡ false = opened_by_none is_page_program t.opening h in
    let copyback : ends_row is_write_column t ≡ false = opened_by_none is_write_column t.opening h in
    rw (program, copyback) (nothing_left (has_copyback g.optional))
