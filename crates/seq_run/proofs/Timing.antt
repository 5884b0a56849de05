-- The items of a trace get their times one by one.
use Rattle.std.proofs.Common.{◌≡◌, ℕ, ◌+◌, ◌-◌, ◌<◌, ◌≤◌, List, [], ◌∷◌, ◌++◌, map, drop, get_or, length, refl, sym, ap, ◌∙◌, subst, arith}
use Rattle.std.specs.List.{All, AllByRecursion}
use Rattle.std.specs.List.Sorted.{IsNonDecreasingBy}
use Rattle.std.proofs.lemmas.List.{map-append, append_assoc, append-nil, drop_more, drop_all, length-append}
use Rattle.std.proofs.lemmas.List.Elements.{All-from_recursion, recursion_from_All}
use Rattle.std.proofs.lemmas.List.Sorted.{IsNonDecreasingBy-push, IsNonDecreasingBy-short}
use Rattle.std.proofs.Math.Seq.{get_or-append_seam}
use Rattle.onfi_cycle.specs.declared.item.Item.{Item}
use Rattle.trace_text.specs.Line.{IsPrintable}
use Rattle.trace_text.specs.declared.recorded_item.TimedItem.{TimedItem}
use Rattle.seq_run.specs.Timed.{IsTimed}

abbrev item_of : TimedItem → Item
item_of t = t.item

abbrev time_of : TimedItem → ℕ
time_of t = t.time

-- the items before a place have times that never fall, the last of them this or an earlier one
pub record AreTimed (items : List Item) (k : ℕ) (timed : List TimedItem) (latest : ℕ) : Type 0 where
  pub same : map item_of timed ++ drop k items ≡ items
  pub rise : IsNonDecreasingBy time_of timed
  pub last : (d : TimedItem) → 0 < length timed → (get_or timed (length timed - 1) d).time ≤ latest

pub none_timed : (items : List Item) (latest : ℕ) → AreTimed items 0 [] latest
none_timed items latest = record { same = refl; rise = IsNonDecreasingBy-short time_of [] (omega arith); last = λ d some. omega (arith, some) }

last_of : (timed : List TimedItem) (t d : TimedItem) → get_or (timed ++ t ∷ []) (length (timed ++ t ∷ []) - 1) d ≡ t
last_of timed t d =
    ap (λ (n : ℕ). get_or (timed ++ t ∷ []) n d) (omega (arith, length-append timed (t ∷ []))) ∙ get_or-append_seam timed t [] d

pub one_timed : (items : List Item) (k : ℕ) (d : Item) (timed new : List TimedItem) (t : TimedItem) (latest later : ℕ) → new ≡ timed ++ t ∷ [] → k < length items → t.item ≡ get_or items k d → latest ≤ t.time → later ≡ t.time
    → AreTimed items k timed latest → AreTimed items (k + 1) new later
one_timed items k d timed new t latest later pushed inside is after now before =
    subst (λ (l : List TimedItem). AreTimed items (k + 1) l later) (sym pushed) (record {
      same =
          ap (λ (l : List Item). l ++ drop (k + 1) items) (map-append item_of timed (t ∷ []))
          ∙ append_assoc (map item_of timed) (t.item ∷ []) (drop (k + 1) items)
          ∙ ap (λ (i : Item). map item_of timed ++ i ∷ drop (k + 1) items) is
          ∙ ap (λ (l : List Item). map item_of timed ++ l) (sym (drop_more items k d inside))
          ∙ before.same;
      rise = IsNonDecreasingBy-push time_of timed t before.rise (λ e some. let old = before.last e some in omega (arith, old, after));
      last = λ e some. subst (λ (x : TimedItem). x.time ≤ later) (sym (last_of timed t e)) (omega (arith, now));
    })

pub all_timed : (items : List Item) (k : ℕ) (timed : List TimedItem) (latest : ℕ) → length items ≤ k → AreTimed items k timed latest → IsTimed items timed
all_timed items k timed latest over all = record {
  same = sym (append-nil (map item_of timed)) ∙ ap (λ (l : List Item). map item_of timed ++ l) (sym (drop_all k items over)) ∙ all.same;
  rise = all.rise;
}

-- ---- what is printed

each_printable : (timed : List TimedItem) → AllByRecursion IsPrintable (map item_of timed) → AllByRecursion (λ (t : TimedItem). IsPrintable t.item) timed
each_printable [] h = tt
each_printable (t ∷ timed) h = (h.0, each_printable timed h.1)

-- where the items can be printed, so can they with times
pub timed_is_printable : (items : List Item) (timed : List TimedItem) → IsTimed items timed → All IsPrintable items → All (λ (t : TimedItem). IsPrintable t.item) timed
timed_is_printable items timed is printable =
    All-from_recursion (λ (t : TimedItem). IsPrintable t.item) timed
    (each_printable timed (recursion_from_All IsPrintable (map item_of timed) (subst (All IsPrintable) (sym is.same) printable)))
