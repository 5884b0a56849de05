-- Items of a trace, in front of the caller's.
use Rattle.std.proofs.Common.{◌≡◌, ℕ, zero, suc, ◌+◌, ◌<◌, List, [], ◌∷◌, map, take, length, slice_set, get_or, refl, sym, ap, ◌∙◌, subst, arith}
use Rattle.onfi_cycle.specs.declared.item.Item.{Item}
use Rattle.bus_record.specs.declared.item.OnfiseqItem.{OnfiseqItem}
use Rattle.onfiseq_text_c.specs.Trace.{in_front, numbers_of}

one_more : (made : List Item) (k : ℕ) (d : Item) (old : List OnfiseqItem) → k < length made
    → in_front (map numbers_of (take (suc k) made)) old ≡ slice_set (in_front (map numbers_of (take k made)) old) k (numbers_of (get_or made k d))
one_more [] k d old low = absurd (omega arith)
one_more (y ∷ made) zero d [] low = refl
one_more (y ∷ made) zero d (o ∷ old) low = refl
one_more (y ∷ made) (suc k) d [] low = refl
one_more (y ∷ made) (suc k) d (o ∷ old) low =
    let less : k < length made = omega arith in ap (λ (zs : List OnfiseqItem). numbers_of y ∷ zs) (one_more made k d old less)

-- a loop over the items goes on by one
pub goes_on : (made : List Item) (k : ℕ) (d : Item) (old now new : List OnfiseqItem) → k < length made → now ≡ in_front (map numbers_of (take k made)) old
    → new ≡ slice_set now k (numbers_of (get_or made k d)) → new ≡ in_front (map numbers_of (take (k + 1) made)) old
goes_on made k d old now new low e set =
    let next : k + 1 ≡ suc k = omega arith in
    subst (λ (m : ℕ). new ≡ in_front (map numbers_of (take m made)) old) (sym next)
    (set ∙ ap (λ (zs : List OnfiseqItem). slice_set zs k (numbers_of (get_or made k d))) e ∙ sym (one_more made k d old low))
