-- The run of a refusal, in front of the caller's items.
use Rattle.std.proofs.Common.{◌≡◌, ℕ, zero, suc, ◌+◌, ◌<◌, List, [], ◌∷◌, ◌++◌, Option, Some, map, take, length, slice_set, get_or, refl, sym, ap, ◌∙◌, subst, arith}
use Rattle.std.proofs.lemmas.List.{length-map}
use Rattle.onfi_cycle.specs.declared.item.Cycle.{Cycle}
use Rattle.onfi_cycle.specs.declared.item.Item.{Item}
use Rattle.onfi_cycle.specs.declared.item.Item.TheVariants.{Cyc}
use Rattle.refused_run.specs.Course.{last_item}
use Rattle.micro_verify.specs.Lazy.{Counter}
use Rattle.micro_verify.specs.Playing.{Shown}
use Rattle.micro_verify.specs.declared.showing.Counter.{Counter as Counted}
use Rattle.onfiseq_verify_c.specs.declared.item.OnfiseqItem.{OnfiseqItem}
use Rattle.onfiseq_verify_c.specs.Run.{numbers_of, told, placed}

pub one_placed : (trace : List Item) (k : ℕ) (d : Item) (old : List OnfiseqItem) → k < length trace
    → placed (map numbers_of (take (suc k) trace)) old ≡ slice_set (placed (map numbers_of (take k trace)) old) k (numbers_of (get_or trace k d))
one_placed [] k d old low = absurd (omega arith)
one_placed (y ∷ trace) zero d [] low = refl
one_placed (y ∷ trace) zero d (o ∷ old) low = refl
one_placed (y ∷ trace) (suc k) d [] low = refl
one_placed (y ∷ trace) (suc k) d (o ∷ old) low =
    let less : k < length trace = omega arith in ap (λ (zs : List OnfiseqItem). numbers_of y ∷ zs) (one_placed trace k d old less)

-- a loop over the items of a trace goes on by one
pub goes_on : (trace : List Item) (k : ℕ) (d : Item) (old now new : List OnfiseqItem) → k < length trace → now ≡ placed (map numbers_of (take k trace)) old
    → new ≡ slice_set now k (numbers_of (get_or trace k d)) → new ≡ placed (map numbers_of (take (k + 1) trace)) old
goes_on trace k d old now new low e set =
    let next : k + 1 ≡ suc k = omega arith in
    subst (λ (m : ℕ). new ≡ placed (map numbers_of (take m trace)) old) (sym next)
    (set ∙ ap (λ (zs : List OnfiseqItem). slice_set zs k (numbers_of (get_or trace k d))) e ∙ sym (one_placed trace k d old low))

last_placed : (told : List OnfiseqItem) (x : OnfiseqItem) (old : List OnfiseqItem) → placed (told ++ (x ∷ [])) old ≡ slice_set (placed told old) (length told) x
last_placed [] x [] = refl
last_placed [] x (o ∷ old) = refl
last_placed (y ∷ told) x [] = refl
last_placed (y ∷ told) x (o ∷ old) = ap (λ (zs : List OnfiseqItem). y ∷ zs) (last_placed told x old)

-- the items of a trace are in front, and a cycle behind them
ended : (trace : List Item) (cycle : Cycle) (old mid new : List OnfiseqItem) (at : ℕ) → at ≡ length trace → mid ≡ placed (map numbers_of trace) old
    → new ≡ slice_set mid at (numbers_of (Cyc cycle)) → new ≡ placed (map numbers_of trace ++ (numbers_of (Cyc cycle) ∷ [])) old
ended trace cycle old mid new at counted m n =
    n ∙ ap (λ (zs : List OnfiseqItem). slice_set zs at (numbers_of (Cyc cycle))) m
    ∙ ap (λ (k : ℕ). slice_set (placed (map numbers_of trace) old) k (numbers_of (Cyc cycle))) (counted ∙ sym (length-map trace numbers_of))
    ∙ sym (last_placed (map numbers_of trace) (numbers_of (Cyc cycle)) old)

-- they are those that are told of the run
pub run_placed : {A : Type 0} (shown : Option (Counted A)) (x : Counted A) (run : Option Counter) (old mid new : List OnfiseqItem) (at : ℕ) → shown ≡ Some x → Shown shown run
    → at ≡ length x.items.items → mid ≡ placed (map numbers_of x.items.items) old → new ≡ slice_set mid at (numbers_of (Cyc x.cycle)) → new ≡ placed (told run) old
run_placed {A = A} shown x run old mid new at is s counted m n =
    let there : Shown (Some x) run = subst (λ (o : Option (Counted A)). Shown o run) is s in
    subst (λ (o : Option Counter). new ≡ placed (told o) old) (sym there.1) (ended x.items.items x.cycle old mid new at counted m n)

map_last : (trace : List Item) (i : Item) → map numbers_of (trace ++ (i ∷ [])) ≡ map numbers_of trace ++ (numbers_of i ∷ [])
map_last [] i = refl
map_last (x ∷ trace) i = ap (λ (zs : List OnfiseqItem). numbers_of x ∷ zs) (map_last trace i)

-- the items of a trace are placed, and one item behind them
pub item_placed : (trace : List Item) (last : Option Item) (i : Item) (old mid new : List OnfiseqItem) (at : ℕ) → last ≡ Some i → at ≡ length trace → mid ≡ placed (map numbers_of trace) old → new ≡ slice_set mid at (numbers_of i) → new ≡ placed (map numbers_of (trace ++ last_item last)) old
item_placed trace last i old mid new at is counted m n =
    let there : new ≡ placed (map numbers_of trace ++ (numbers_of i ∷ [])) old =
    n ∙ ap (λ (zs : List OnfiseqItem). slice_set zs at (numbers_of i)) m
    ∙ ap (λ (k : ℕ). slice_set (placed (map numbers_of trace) old) k (numbers_of i)) (counted ∙ sym (length-map trace numbers_of))
    ∙ sym (last_placed (map numbers_of trace) (numbers_of i) old) in
    subst (λ (o : Option Item). new ≡ placed (map numbers_of (trace ++ last_item o)) old) (sym is) (there ∙ ap (λ (zs : List OnfiseqItem). placed zs old) (sym (map_last trace i)))
