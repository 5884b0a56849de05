-- Runs of data cycles: the items that come first are a run, and a past goes on by it.
use Rattle.std.proofs.Common.{◌≡◌, ℕ, zero, suc, ◌+◌, ◌<◌, ◌≤◌, List, [], ◌∷◌, ◌++◌, refl, sym, ap, subst, ◌∙◌, arith, length, length-drop, take, drop, reverse, get_or, map, append_assoc}
use Rattle.std.proofs.Math.Seq.{take-add}
use Rattle.std.proofs.lemmas.Grind.{common_steps}
use Rattle.std.proofs.lemmas.List.{reverse-append}
use Rattle.nand_geometry.specs.declared.parts.Parts.{Parts}
use Rattle.onfi_cycle.specs.declared.item.Cycle.{Cycle}
use Rattle.onfi_cycle.specs.declared.item.Item.{Item}
use Rattle.onfi_cycle.specs.declared.item.Item.TheVariants.{Cyc, Rdy, Ard}
use Rattle.onfi_cycle.specs.declared.item.Kind.{Kind}
use Rattle.onfi_cycle.specs.Channel.{cycle}
use Rattle.onfi_cycle.specs.State.{BusView, Follows}
use Rattle.onfi_cycle.specs.Runs.{with_run}
use Rattle.trace_text.specs.Checking.{IsCycleOf, AreCyclesOf}

-- one more of the first items is one
pub one_more : (kind : Kind) (ce : ℕ) (items : List Item) (count : ℕ) (d : Item) → count < length items → AreCyclesOf kind ce (take count items) → IsCycleOf kind ce (get_or items count d) → AreCyclesOf kind ce (take (count + 1) items) × (count + 1 ≤ length items)
one_more kind ce items count d low are is =
    let next : suc count ≡ count + 1 = omega arith in
    (subst (λ (n : ℕ). AreCyclesOf kind ce (take n items)) next (more items count low are is), omega (arith, low))
  where
    more : (items : List Item) (count : ℕ) → count < length items → AreCyclesOf kind ce (take count items) → IsCycleOf kind ce (get_or items count d) → AreCyclesOf kind ce (take (suc count) items)
    more [] count low are is = absurd (omega (arith, low))
    more (i ∷ items) zero low are is = (is, tt)
    more (i ∷ items) (suc count) low are is = let less : count < length items = omega (arith, low) in (are.0, more items count less are.1 is)

-- fewer of them are
pub fewer : (kind : Kind) (ce : ℕ) (items : List Item) (count k : ℕ) → k ≤ count → AreCyclesOf kind ce (take count items) → AreCyclesOf kind ce (take k items)
fewer kind ce items count zero less are = tt
fewer kind ce [] count (suc k) less are = tt
fewer kind ce (i ∷ items) zero (suc k) less are = absurd (omega (arith, less))
fewer kind ce (i ∷ items) (suc count) (suc k) less are = let below : k ≤ count = omega (arith, less) in (are.0, fewer kind ce items count k below are.1)

-- as the code asks it
pub cycle_is : (kind k : Kind) (ce : ℕ) (i : Item) (c : Cycle) → i ≡ Cyc c → c.ce ≡ ce → c.kind ≡ k → kind ≡ k → IsCycleOf kind ce i
cycle_is kind k ce i c is at has wants = (
  c.byte,
  is ∙ (ap (λ (n : ℕ). cycle n c.kind c.byte) at ∙ ap (λ (x : Kind). cycle ce x c.byte) (has ∙ sym wants)),
)

abbrev byte_of : Item → ℕ
byte_of (Cyc c) = c.byte
byte_of (Rdy ce lun fail) = 0
byte_of (Ard ce lun fail) = 0

abbrev pub bytes_of : List Item → List ℕ
bytes_of items = map byte_of items

pub bytes_len : (items : List Item) (k : ℕ) → k ≤ length items → length (bytes_of (take k items)) ≡ k
bytes_len items zero low = refl
bytes_len [] (suc k) low = absurd (omega (arith, low))
bytes_len (i ∷ items) (suc k) low = let below : k ≤ length items = omega (arith, low) in ap suc (bytes_len items k below)

-- a past with a run is the run, the newest first, before the past
pub run_is : (kind : Kind) (ce : ℕ) (items past : List Item) → AreCyclesOf kind ce items → with_run kind ce (bytes_of items) past ≡ reverse items ++ past
run_is kind ce [] past are = let none : reverse {A = Item} [] ≡ [] = grind (arith, common_steps) in sym (ap (λ (xs : List Item). xs ++ past) none)
run_is kind ce (i ∷ items) past are =
    let here : cycle ce kind (byte_of i) ≡ i = ap (λ (x : Item). cycle ce kind (byte_of x)) are.0.1 ∙ sym are.0.1 in
    ap (λ (x : Item). with_run kind ce (bytes_of items) (x ∷ past)) here ∙
    (run_is kind ce items (i ∷ past) are.1 ∙
    (sym (append_assoc (reverse items) (i ∷ []) past) ∙ ap (λ (xs : List Item). xs ++ past) (sym (reverse-append (i ∷ []) items))))

-- as the code goes on by as many of them as are permitted
pub followed : (kind : Kind) (g : Parts) (n : ℕ) (s : BusView) (past : List Item) (ce : ℕ) (items : List Item) (count k : ℕ) → k ≤ count → count ≤ length items → AreCyclesOf kind ce (take count items) → ((bytes : List ℕ) → length bytes ≡ k → Follows g n s (with_run kind ce bytes past)) → Follows g n s (reverse (take k items) ++ past)
followed kind g n s past ce items count k less inside are h =
    let low : k ≤ length items = omega (arith, less, inside) in
    subst (Follows g n s) (run_is kind ce (take k items) past (fewer kind ce items count k less are)) (h (bytes_of (take k items)) (bytes_len items k low))

-- the items before a place, and as many more
pub past_more : (items : List Item) (place k : ℕ) → reverse (take k (drop place items)) ++ reverse (take place items) ≡ reverse (take (place + k) items)
past_more items place k = sym (ap reverse (take-add place k items) ∙ reverse-append (take place items) (take k (drop place items)))

-- nothing comes of no run
pub no_run : (g : Parts) (n : ℕ) (s : BusView) (past items : List Item) (k : ℕ) → k ≤ 0 → Follows g n s (reverse (take k items) ++ past) → Follows g n s past
no_run g n s past items zero none f = let nothing : reverse {A = Item} [] ≡ [] = grind (arith, common_steps) in subst (λ (xs : List Item). Follows g n s (xs ++ past)) nothing f
no_run g n s past items (suc k) none f = absurd (omega (arith, none))

-- and of one item that one
pub one_item : (g : Parts) (n : ℕ) (s : BusView) (past items : List Item) (d : Item) → 1 ≤ length items → Follows g n s (get_or items 0 d ∷ past) → Follows g n s (reverse (take 1 items) ++ past)
one_item g n s past [] d some f = absurd (omega (arith, some))
one_item g n s past (i ∷ items) d some f = let one : reverse (i ∷ []) ≡ i ∷ [] = grind (arith, common_steps) in subst (λ (xs : List Item). Follows g n s (xs ++ past)) (sym one) f

-- of what is left after a place so many come
pub goes_on : (g : Parts) (n : ℕ) (s : BusView) (items part : List Item) (place k : ℕ) → part ≡ drop place items → place ≤ length items → k ≤ length part → Follows g n s (reverse (take k part) ++ reverse (take place items)) → Follows g n s (reverse (take (place + k) items)) × (place + k ≤ length items)
goes_on g n s items part place k left inside low f =
    let len = ap length left ∙ length-drop place items in (
      subst (Follows g n s) (ap (λ (xs : List Item). reverse (take k xs) ++ reverse (take place items)) left ∙ past_more items place k) f,
      omega (arith, inside, low, len),
    )
