-- One item more of those that are pushed in one call.
use Rattle.std.proofs.Common.{◌≡◌, ℕ, Bool, zero, suc, ◌+◌, ◌-◌, ◌≤◌, ◌==◌, if◌then◌else◌, List, [], ◌∷◌, Option, Some, None, map, take, length, refl, sym, ap, ◌∙◌, subst, arith, false}
use Rattle.std.proofs.lemmas.Bool.Decides.{nat_tests}
use Rattle.nand_geometry.specs.declared.parts.Parts.{Parts}
use Rattle.onfi_cycle.specs.declared.forbidden.Forbidden.{Forbidden}
use Rattle.onfi_cycle.specs.declared.item.Item.{Item}
use Rattle.onfi_cycle.specs.State.{BusView, Follows, judged, bus_after, bus}
use Rattle.bus_record.specs.Rule.{by_option}
use Rattle.bus_record.specs.Item.{item_of}
use Rattle.target_record.specs.Geometry.{parts_of}
use Rattle.target_record.specs.Record.{target_of}
use Rattle.bus_record.specs.Kept.{Kept}
use Rattle.bus_record.specs.Bus.{rule_code, pushed, bus_pushed, bus_view}
use Rattle.bus_record.specs.Many.{Went, went, all_pushed, with_item, with_items}
use Rattle.bus_record.proofs.Pushed.{goes_on_with}
use Rattle.bus_record.specs.declared.item.OnfiseqItem.{OnfiseqItem}

zero_first : {X : Type 0} (n : ℕ) (x y : X) → n ≡ 0 → (if n == 0 then x else y) ≡ x
zero_first n x y e = rw e refl

other_second : {X : Type 0} (n : ℕ) (x y : X) → (n ≡ 0 → ⊥) → (if n == 0 then x else y) ≡ y
other_second n x y e = let not : (n == 0) ≡ false = grind (arith, nat_tests) in rw not refl

stays_on : (b : BusView) (i : Item) (o : Option Forbidden) → (by_option o 0 rule_code ≡ 0 → ⊥) → by_option o (bus_after i b) (λ (rule : Forbidden). b) ≡ b
stays_on b i None e = absurd (e refl)
stays_on b i (Some rule) e = refl

stays : (b : BusView) (o : Option Item) → (pushed b o ≡ 0 → ⊥) → bus_pushed b o ≡ b
stays b None e = refl
stays b (Some i) e = stays_on b i (judged b i) e

pub all_end : (w : Bool) (b : BusView) (items : List OnfiseqItem) (at : ℕ) → items ≡ [] → all_pushed w b items at ≡ went 0 at b
unfolding all_pushed
all_end w b items at e = rw e refl

pub one_stops : (w : Bool) (b later : BusView) (all : List OnfiseqItem) (i : OnfiseqItem) (items : List OnfiseqItem) (at answer : ℕ)
    → all ≡ i ∷ items → answer ≡ pushed b (item_of w i) → later ≡ bus_pushed b (item_of w i) → (answer ≡ 0 → ⊥) → all_pushed w b all at ≡ went answer at later
unfolding all_pushed
one_stops w b later all i items at answer e a s some =
    let other : pushed b (item_of w i) ≡ 0 → ⊥ = λ h. some (a ∙ h) in
    ap (λ (zs : List OnfiseqItem). all_pushed w b zs at) e
    ∙ other_second (pushed b (item_of w i)) (all_pushed w (bus_pushed b (item_of w i)) items (at + 1)) (went (pushed b (item_of w i)) at b) other
    ∙ ap (λ (n : ℕ). went n at b) (sym a)
    ∙ ap (went answer at) (sym (s ∙ stays b (item_of w i) other))

pub one_goes : (w : Bool) (b later : BusView) (all : List OnfiseqItem) (i : OnfiseqItem) (items : List OnfiseqItem) (at answer : ℕ)
    → all ≡ i ∷ items → answer ≡ pushed b (item_of w i) → later ≡ bus_pushed b (item_of w i) → answer ≡ 0 → all_pushed w b all at ≡ all_pushed w later items (at + 1)
unfolding all_pushed
one_goes w b later all i items at answer e a s none =
    ap (λ (zs : List OnfiseqItem). all_pushed w b zs at) e
    ∙ zero_first (pushed b (item_of w i)) (all_pushed w (bus_pushed b (item_of w i)) items (at + 1)) (went (pushed b (item_of w i)) at b) (sym a ∙ none)
    ∙ ap (λ (x : BusView). all_pushed w x items (at + 1)) (sym s)

-- ---- a channel of no targets answers each item with a rule

never : (g : Parts) (o : Option Item) → pushed (bus g []) o ≡ 0 → ⊥
never g None h = cc
never g (Some i) h = cc

pub none_goes : (w : Bool) (k : Kept) (all : List OnfiseqItem) (i : OnfiseqItem) (items : List OnfiseqItem) (answer : ℕ) → k.count ≡ 0 → all ≡ i ∷ items
    → answer ≡ pushed (bus (parts_of k.geometry) []) (item_of w i) → went answer 0 (bus_view k) ≡ all_pushed w (bus_view k) all 0
none_goes w k all i items answer none e a =
    let g = parts_of k.geometry in
    let same : bus_view k ≡ bus g [] = ap (λ (n : ℕ). bus g (map target_of (take n k.targets))) none in
    subst (λ (b : BusView). went answer 0 b ≡ all_pushed w b all 0) (sym same)
    (sym (one_stops w (bus g []) (bus g []) all i items 0 answer e a (sym (stays (bus g []) (item_of w i) (never g (item_of w i)))) (λ h. never g (item_of w i) (sym a ∙ h))))

-- ---- the past that the state follows

-- one item that goes, and one that stops
goes : (w : Bool) (b : BusView) (i : OnfiseqItem) (items : List OnfiseqItem) (at : ℕ) → pushed b (item_of w i) ≡ 0 → all_pushed w b (i ∷ items) at ≡ all_pushed w (bus_pushed b (item_of w i)) items (at + 1)
goes w b i items at e = one_goes w b (bus_pushed b (item_of w i)) (i ∷ items) i items at (pushed b (item_of w i)) refl refl refl e

stops : (w : Bool) (b : BusView) (i : OnfiseqItem) (items : List OnfiseqItem) (at : ℕ) → (pushed b (item_of w i) ≡ 0 → ⊥) → all_pushed w b (i ∷ items) at ≡ went (pushed b (item_of w i)) at b
stops w b i items at some = one_stops w b b (i ∷ items) i items at (pushed b (item_of w i)) refl refl (sym (stays b (item_of w i) some)) some

above : (n m : ℕ) → n ≡ suc m → n ≡ 0 → ⊥
above n m e h = cc

least : (w : Bool) (b : BusView) (items : List OnfiseqItem) (at : ℕ) → at ≤ (all_pushed w b items at).done
unfolding all_pushed
least w b [] at = omega arith
least w b (i ∷ items) at = go (pushed b (item_of w i)) refl (least w (bus_pushed b (item_of w i)) items (at + 1))
  where
    go : (m : ℕ) → pushed b (item_of w i) ≡ m → at + 1 ≤ (all_pushed w (bus_pushed b (item_of w i)) items (at + 1)).done → at ≤ (all_pushed w b (i ∷ items) at).done
    go zero e further =
        let low : at ≤ (all_pushed w (bus_pushed b (item_of w i)) items (at + 1)).done = omega (arith, further) in
        subst (λ (z : Went). at ≤ z.done) (sym (goes w b i items at e)) low
    go (suc m) e further =
        let low : at ≤ at = omega arith in
        subst (λ (z : Went). at ≤ z.done) (sym (stops w b i items at (above (pushed b (item_of w i)) m e))) low

one_follows : (g : Parts) (n : ℕ) (b : BusView) (past : List Item) (o : Option Item) → pushed b o ≡ 0 → Follows g n b past → Follows g n (bus_pushed b o) (with_item o past)
one_follows g n b past None e f = cc
one_follows g n b past (Some i) e f = (goes_on_with g n b (bus_pushed b (Some i)) past i (pushed b (Some i)) refl refl f).follows e

-- no item is in front of the same place, and one more from the place before
none_more : (w : Bool) (at : ℕ) (items : List OnfiseqItem) (past : List Item) → with_items w (at - at) items past ≡ past
none_more w at items past = let none : at - at ≡ 0 = omega arith in ap (λ (k : ℕ). with_items w k items past) none

one_more : (w : Bool) (done at : ℕ) (i : OnfiseqItem) (items : List OnfiseqItem) (past : List Item) → at + 1 ≤ done
    → with_items w (done - at) (i ∷ items) past ≡ with_items w (done - (at + 1)) items (with_item (item_of w i) past)
one_more w done at i items past low = let one : done - at ≡ suc (done - (at + 1)) = omega (arith, low) in ap (λ (k : ℕ). with_items w k (i ∷ items) past) one

all_follow : (w : Bool) (g : Parts) (n : ℕ) (b : BusView) (items : List OnfiseqItem) (at : ℕ) (past : List Item) → Follows g n b past
    → Follows g n (all_pushed w b items at).bus (with_items w ((all_pushed w b items at).done - at) items past)
unfolding all_pushed
all_follow w g n b [] at past f = subst (λ (p : List Item). Follows g n b p) (sym (none_more w at [] past)) f
all_follow w g n b (i ∷ items) at past f = go (pushed b (item_of w i)) refl (all_follow w g n (bus_pushed b (item_of w i)) items (at + 1) (with_item (item_of w i) past))
  where
    go : (m : ℕ) → pushed b (item_of w i) ≡ m → (Follows g n (bus_pushed b (item_of w i)) (with_item (item_of w i) past)
        → Follows g n (all_pushed w (bus_pushed b (item_of w i)) items (at + 1)).bus
        (with_items w ((all_pushed w (bus_pushed b (item_of w i)) items (at + 1)).done - (at + 1)) items (with_item (item_of w i) past)))
        → Follows g n (all_pushed w b (i ∷ items) at).bus (with_items w ((all_pushed w b (i ∷ items) at).done - at) (i ∷ items) past)
    go zero e rest =
        let z = all_pushed w (bus_pushed b (item_of w i)) items (at + 1) in
        let more = one_more w z.done at i items past (least w (bus_pushed b (item_of w i)) items (at + 1)) in
        subst (λ (v : Went). Follows g n v.bus (with_items w (v.done - at) (i ∷ items) past)) (sym (goes w b i items at e))
        (subst (λ (p : List Item). Follows g n z.bus p) (sym more) (rest (one_follows g n b past (item_of w i) e f)))
    go (suc m) e rest =
        subst (λ (v : Went). Follows g n v.bus (with_items w (v.done - at) (i ∷ items) past)) (sym (stops w b i items at (above (pushed b (item_of w i)) m e)))
        (subst (λ (p : List Item). Follows g n b p) (sym (none_more w at (i ∷ items) past)) f)

-- what came of items, and the past that the state follows then
pub pushed_follow : (w : Bool) (g : Parts) (n : ℕ) (b later : BusView) (items : List OnfiseqItem) (answer done : ℕ) (past : List Item) → went answer done later ≡ all_pushed w b items 0
    → Follows g n b past → Follows g n later (with_items w done items past)
pushed_follow w g n b later items answer done past e f =
    let z = all_pushed w b items 0 in
    let same : z.done - 0 ≡ z.done = omega arith in
    subst (λ (v : Went). Follows g n v.bus (with_items w v.done items past)) (sym e)
    (subst (λ (k : ℕ). Follows g n z.bus (with_items w k items past)) same (all_follow w g n b items 0 past f))

pub is_empty : {A : Type 0} (items : List A) → length items ≡ 0 → items ≡ []
is_empty [] e = refl
is_empty (x ∷ xs) e = cc
