-- What a step leaves of the LUNs of a target is what they are after the past with that item.
use Rattle.std.proofs.Common.{◌≡◌, ℕ, zero, suc, ◌+◌, ◌-◌, ◌<◌, ◌≤◌, cond, List, [], ◌∷◌, refl, sym, ap, ◌∙◌, arith, drop, get_or, take, length}
use Rattle.nand_geometry.specs.declared.parts.Parts.{Parts}
use Rattle.nand_geometry.specs.Limits.{InLimits}
use Rattle.onfi_cycle.specs.declared.effect.Effect.{Effect}
use Rattle.onfi_cycle.specs.declared.effect.Effect.TheVariants.{StatusSelected, StatusOfSelected, StatusRowAwaited, IdRead, IdentityRead, UniqueIdReadStarted, FeaturesReadStarted, ParameterPageReadStarted, CacheReadContinued, CacheReadEnded, DataOutput, ReadStarted, ReadColumnChanged, PlaneSelected}
use Rattle.onfi_cycle.specs.declared.read_column.ReadColumn.{ReadColumn}
use Rattle.onfi_cycle.specs.declared.tail_facts.TailFacts.{TailFacts}
use Rattle.onfi_cycle.specs.declared.item.Item.{Item}
use Rattle.onfi_cycle.specs.declared.lun.Lun.{Lun}
use Rattle.onfi_cycle.specs.LunView.{LunView}
use Rattle.onfi_cycle.specs.Sequence.{facts_of, tail}
use Rattle.onfi_cycle.specs.Effect.{is_off}
use Rattle.onfi_cycle.specs.Lun.{drivers, drivers_from, effect_among, latch, lun_view, luns_of, read_column_after, views_from}
use Rattle.oracle_onfi.specs.Stepped.{firsts_from, numbers_from, stepped, stepped_from}

pub one_step : (g : Parts) (past : List Item) (i : Item) (l : Lun) → stepped g (facts_of (tail past l.ce)) i l (drivers g past l.ce) (lun_view g past l) ≡ lun_view g (i ∷ past) l
unfolding effect_among
one_step g past i l = refl

steps : (g : Parts) (past : List Item) (i : Item) (ce count n : ℕ) →
    stepped_from g (facts_of (tail past ce)) i ce (drivers g past ce) n (views_from g past ce count n) ≡ views_from g (i ∷ past) ce count n
steps g past i ce zero n = refl
steps g past i ce (suc count) n =
    ap (λ v. v ∷ stepped_from g (facts_of (tail past ce)) i ce (drivers g past ce) (n + 1) (views_from g past ce count (n + 1))) (one_step g past i (record { ce = ce; lun = n }))
    ∙ ap (λ vs. lun_view g (i ∷ past) (record { ce = ce; lun = n }) ∷ vs) (steps g past i ce count (n + 1))

numbers : (g : Parts) (past : List Item) (ce count n : ℕ) → numbers_from n (views_from g past ce count n) ≡ drivers_from (λ m. latch g past (record { ce = ce; lun = m })) count n
numbers g past ce zero n = refl
numbers g past ce (suc count) n =
    ap (λ (ms : List ℕ). cond (is_off (latch g past (record { ce = ce; lun = n }))) ms (n ∷ ms)) (numbers g past ce count (n + 1))

pub drivers_are : (g : Parts) (past : List Item) (ce : ℕ) → numbers_from 0 (luns_of g past ce) ≡ drivers g past ce
drivers_are g past ce = numbers g past ce g.luns 0

pub luns_step : (g : Parts) (past : List Item) (i : Item) (ce : ℕ) →
    stepped_from g (facts_of (tail past ce)) i ce (numbers_from 0 (luns_of g past ce)) 0 (luns_of g past ce) ≡ luns_of g (i ∷ past) ce
luns_step g past i ce =
    ap (λ (ms : List ℕ). stepped_from g (facts_of (tail past ce)) i ce ms 0 (luns_of g past ce)) (drivers_are g past ce) ∙ steps g past i ce g.luns 0

firsts : (g : Parts) (ce count n : ℕ) → firsts_from count n ≡ views_from g [] ce count n
firsts g ce zero n = refl
firsts g ce (suc count) n = ap (λ vs. lun_view g [] (record { ce = ce; lun = n }) ∷ vs) (firsts g ce count (n + 1))

pub luns_first : (g : Parts) (ce : ℕ) → firsts_from g.luns 0 ≡ luns_of g [] ce
luns_first g ce = firsts g ce g.luns 0

views_length : (g : Parts) (past : List Item) (ce count n : ℕ) → length (views_from g past ce count n) ≡ count
views_length g past ce zero n = refl
views_length g past ce (suc count) n = ap suc (views_length g past ce count (n + 1))

pub luns_length : (g : Parts) (past : List Item) (ce : ℕ) → length (luns_of g past ce) ≡ g.luns
luns_length g past ce = views_length g past ce g.luns 0

-- ---- for the answers

-- a column gives one byte more at most
pub column_short : (e : Effect) (k : ReadColumn) → (read_column_after e k).outputs ≤ k.outputs + 1
column_short (ReadStarted at from) k = omega arith
column_short (ReadColumnChanged from) k = omega arith
column_short (PlaneSelected plane planes from) k = omega arith
column_short IdRead k = omega arith
column_short (IdentityRead jedec) k = omega arith
column_short ParameterPageReadStarted k = omega arith
column_short UniqueIdReadStarted k = omega arith
column_short (FeaturesReadStarted address) k = omega arith
column_short (CacheReadContinued to) k = omega arith
column_short CacheReadEnded k = omega arith
column_short DataOutput k = omega arith
column_short StatusSelected k = omega arith
column_short StatusOfSelected k = omega arith
column_short StatusRowAwaited k = omega arith
column_short e k = omega arith

pub few_luns : (g : Parts) (past : List Item) (ce : ℕ) (vs : List LunView) → InLimits g → vs ≡ luns_of g past ce → 0 + length vs < 256
few_luns g past ce vs limits is =
    let same = ap length is in
    let count = luns_length g past ce in
    let most = limits.luns_most in
    omega (arith, same, count, most)

pub no_items : (xs : List Item) → length xs < 1 → xs ≡ []
no_items [] h = refl
no_items (x ∷ xs) h = absurd (omega (arith, h))

take_all : (xs : List Item) → take (length xs) xs ≡ xs
take_all [] = refl
take_all (x ∷ xs) = ap (λ ys. x ∷ ys) (take_all xs)

rest_of : (x : Item) (xs : List Item) → take (length (x ∷ xs) - 1) xs ≡ xs
rest_of x xs = let count : length (x ∷ xs) - 1 ≡ length xs = omega arith in ap (λ n. take n xs) count ∙ take_all xs

pub one_item : (xs : List Item) (d : Item) → 1 ≤ length xs → xs ≡ get_or xs 0 d ∷ take (length xs - 1) (drop 1 xs)
one_item [] d h = absurd (omega (arith, h))
one_item (x ∷ xs) d h = ap (λ ys. x ∷ ys) (sym (rest_of x xs))

pub luns_are : (g : Parts) (past rest : List Item) (i : Item) (ce : ℕ) (t : TailFacts) (ns : List ℕ) (vs : List LunView) → past ≡ i ∷ rest → t ≡ facts_of (tail rest ce) → ns ≡ numbers_from 0 vs → vs ≡ luns_of g rest ce
    → stepped_from g t i ce ns 0 vs ≡ luns_of g past ce
luns_are g past rest i ce t ns vs parts tail_is numbers_are views_are =
    ap (λ (x : TailFacts). stepped_from g x i ce ns 0 vs) tail_is
    ∙ (ap (λ (ms : List ℕ). stepped_from g (facts_of (tail rest ce)) i ce ms 0 vs) numbers_are
    ∙ (ap (λ (us : List LunView). stepped_from g (facts_of (tail rest ce)) i ce (numbers_from 0 us) 0 us) views_are
    ∙ (luns_step g rest i ce ∙ ap (λ (xs : List Item). luns_of g xs ce) (sym parts))))

pub lun_is : (g : Parts) (past rest : List Item) (i : Item) (l : Lun) (t : TailFacts) (ns : List ℕ) (v : LunView) → past ≡ i ∷ rest → t ≡ facts_of (tail rest l.ce) → ns ≡ drivers g rest l.ce → v ≡ lun_view g rest l
    → stepped g t i l ns v ≡ lun_view g past l
lun_is g past rest i l t ns v parts tail_is numbers_are view_is =
    ap (λ (x : TailFacts). stepped g x i l ns v) tail_is
    ∙ (ap (λ (ms : List ℕ). stepped g (facts_of (tail rest l.ce)) i l ms v) numbers_are
    ∙ (ap (λ (u : LunView). stepped g (facts_of (tail rest l.ce)) i l (drivers g rest l.ce) u) view_is
    ∙ (one_step g rest i l ∙ ap (λ (xs : List Item). lun_view g xs l) (sym parts))))
