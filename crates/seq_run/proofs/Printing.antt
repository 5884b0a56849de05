-- A legal trace of a channel of at most 4 targets of at most 4 LUNs can be printed.
use Rattle.std.proofs.Common.{◌≡◌, ℕ, zero, suc, ◌+◌, ◌<◌, ◌≤◌, Bool, true, false, cond, ◌||◌, not, nat_le, List, [], ◌∷◌, reverse, Option, Some, is_none, refl, sym, subst, arith}
use Rattle.std.specs.List.{All}
use Rattle.std.proofs.lemmas.Bool.Decides.{nat_tests}
use Rattle.std.proofs.lemmas.List.{reverse-append}
use Rattle.std.proofs.lemmas.List.Elements.{All-push, All-from_recursion}
use Rattle.std.proofs.lemmas.Bool.{and_parts, or_parts as neither}
use Rattle.nand_geometry.specs.declared.parts.Parts.{Parts}
use Rattle.onfi_cycle.specs.declared.item.Item.{Item}
use Rattle.onfi_cycle.specs.declared.item.Item.TheVariants.{Cyc, Rdy, Ard}
use Rattle.onfi_cycle.specs.declared.forbidden.Forbidden.{Forbidden}
use Rattle.onfi_cycle.specs.declared.forbidden.Forbidden.TheVariants.{NotThere}
use Rattle.onfi_cycle.specs.LunView.{LunView}
use Rattle.onfi_cycle.specs.Rules.{breaks_not_there, lun_is}
use Rattle.onfi_cycle.specs.Sequence.{target_of, tail, facts_of}
use Rattle.onfi_cycle.specs.Lun.{luns_of, views_from}
use Rattle.onfi_cycle.specs.Permitted.{judge_item, is_permitted, is_legal}
use Rattle.trace_text.specs.Line.{IsPrintable}

not_first : (b : Bool) (o : Option Forbidden) → is_none (cond b (Some NotThere) o) ≡ true → b ≡ false
not_first true o e = absurd cc
not_first false o e = refl

below_four : (targets n : ℕ) → targets ≤ 4 → nat_le targets n ≡ false → n ≤ 3
below_four targets n few h = grind (arith, nat_tests)

-- of so many LUNs, only these are there
there : (test : LunView → Bool) (g : Parts) (past : List Item) (ce count n lun : ℕ) → not (lun_is test (views_from g past ce count n) lun) ≡ false → lun < count
there test g past ce zero n zero h = absurd cc
there test g past ce zero n (suc lun) h = absurd cc
there test g past ce (suc count) n zero h = omega arith
there test g past ce (suc count) n (suc lun) h = let k = there test g past ce count (n + 1) lun h in omega arith

of_few : (g : Parts) (targets : ℕ) (past : List Item) (i : Item) → g.luns ≤ 4 → targets ≤ 4 → breaks_not_there targets (luns_of g past (target_of i)) i ≡ false → IsPrintable i
unfolding breaks_not_there
of_few g targets past (Cyc c) luns few h = below_four targets c.ce few h
of_few g targets past (Rdy ce lun fail) luns few h =
    let k = neither (nat_le targets ce) _ h in
    let l = there (λ v. v.busy) g past ce g.luns 0 lun k.1 in
    (below_four targets ce few k.0, omega arith)
of_few g targets past (Ard ce lun fail) luns few h =
    let k = neither (nat_le targets ce) _ h in
    let l = there (λ v. v.array_busy) g past ce g.luns 0 lun k.1 in
    (below_four targets ce few k.0, omega arith)

permitted_is_printable : (g : Parts) (targets : ℕ) (past : List Item) (i : Item) → g.luns ≤ 4 → targets ≤ 4 → is_permitted g targets past i ≡ true → IsPrintable i
permitted_is_printable g targets past i luns few h =
    of_few g targets past i luns few
    (not_first (breaks_not_there targets (luns_of g past (target_of i)) i) (judge_item g (facts_of (tail past (target_of i))) (luns_of g past (target_of i)) i) h)

pub legal_is_printable : (g : Parts) (targets : ℕ) (past : List Item) → g.luns ≤ 4 → targets ≤ 4 → is_legal g targets past ≡ true → All IsPrintable (reverse past)
legal_is_printable g targets [] luns few h = All-from_recursion IsPrintable [] tt
legal_is_printable g targets (i ∷ past) luns few h =
    let k = and_parts (is_permitted g targets past i) (is_legal g targets past) h in
    subst (All IsPrintable) (sym (reverse-append (i ∷ []) past)) (All-push IsPrintable (reverse past) i (legal_is_printable g targets past luns few k.1) (permitted_is_printable g targets past i luns few k.0))
