-- New dies, one for each LUN, are a channel's.
use Rattle.std.proofs.Common.{◌≡◌, ℕ, zero, suc, ◌+◌, ◌*◌, ◌==◌, ◌≤◌, Bool, true, false, cond, ◌||◌, not, List, [], ◌∷◌, ◌++◌, length, set, replicate, Option, Some, None, refl, sym, ap, ◌∙◌, subst, arith, eq-eqb}
use Rattle.std.specs.Bool.{beq}
use Rattle.std.proofs.lemmas.List.{replicate_more}
use Rattle.std.proofs.lemmas.Bool.{and_parts, and_from}
use Rattle.onfi_cycle.proofs.Booleans.{eqb_self}
use Rattle.nand_geometry.specs.declared.parts.Parts.{Parts}
use Rattle.die_model.specs.Die.{Die, new_die}
use Rattle.die_model.specs.Loading.{IsLoaded}
use Rattle.target_bus.specs.declared.refusal.BusFault.{BusFault}
use Rattle.target_bus.specs.declared.refusal.BusFault.TheVariants.{DiesMissing, DieUnfit}
use Rattle.target_bus.specs.Bus.{are_targets, same_parts, is_new_of, are_new, bus_fault}

bself : (b : Bool) → beq b b ≡ true
bself true = refl
bself false = refl

new_self : (g : Parts) → same_parts g g ≡ true
new_self g = rw (eqb_self g.page_bytes, eqb_self g.spare_bytes, eqb_self g.pages, eqb_self g.blocks, eqb_self g.luns, eqb_self g.plane_bits, bself g.enhanced, bself g.multi_plane, bself g.cache, eqb_self g.optional.0) refl

pub erased_is_new : (g : Parts) → is_new_of g (new_die g) ≡ true
erased_is_new g = and_from _ _ (new_self g) refl

-- an image changes the pages alone
pub loaded_is_new : (g : Parts) (bytes : List ℕ) (d : Die) → IsLoaded bytes (new_die g) d → is_new_of g d ≡ true
loaded_is_new g bytes d loaded = subst (λ (x : Die). is_new_of g x ≡ true) (sym loaded.rest) (erased_is_new g)

pub are_new_push : (g : Parts) (dies : List Die) (d : Die) → are_new g dies ≡ true → is_new_of g d ≡ true → are_new g (dies ++ d ∷ []) ≡ true
are_new_push g [] d old new = and_from (is_new_of g d) true new refl
are_new_push g (x ∷ dies) d old new =
    let k = and_parts (is_new_of g x) (are_new g dies) old in
    and_from (is_new_of g x) (are_new g (dies ++ d ∷ [])) k.0 (are_new_push g dies d k.1 new)

pub are_new_set : (g : Parts) (dies : List Die) (k : ℕ) (d : Die) → are_new g dies ≡ true → is_new_of g d ≡ true → are_new g (set dies k d) ≡ true
are_new_set g [] k d old new = refl
are_new_set g (x ∷ dies) zero d old new =
    let k = and_parts (is_new_of g x) (are_new g dies) old in
    and_from (is_new_of g d) (are_new g dies) new k.1
are_new_set g (x ∷ dies) (suc n) d old new =
    let k = and_parts (is_new_of g x) (are_new g dies) old in
    and_from (is_new_of g x) (are_new g (set dies n d)) k.0 (are_new_set g dies n d k.1 new)

-- one erased die more
pub one_erased_more : (g : Parts) (n : ℕ) (dies : List Die) → dies ≡ replicate n (new_die g) → dies ++ new_die g ∷ [] ≡ replicate (n + 1) (new_die g)
one_erased_more g n dies is = ap (λ (l : List Die). l ++ new_die g ∷ []) is ∙ replicate_more n (new_die g)

first : (a b c d : Bool) → a ≡ true → (a || b || c || d) ≡ true
first true b c d h = refl
first false b c d h = absurd cc

second : (a b c d : Bool) → b ≡ true → (a || b || c || d) ≡ true
second true b c d h = refl
second false true c d h = refl
second false false c d h = absurd cc

third : (a b c d : Bool) → c ≡ true → (a || b || c || d) ≡ true
third true b c d h = refl
third false true c d h = refl
third false false true d h = refl
third false false false d h = absurd cc

fourth : (a b c d : Bool) → d ≡ true → (a || b || c || d) ≡ true
fourth true b c d h = refl
fourth false true c d h = refl
fourth false false true d h = refl
fourth false false false true h = refl
fourth false false false false h = absurd cc

targets_fit : (g : Parts) (targets n : ℕ) → 1 ≤ targets → targets ≤ 4 → n ≡ targets * g.luns → are_targets g n ≡ true
targets_fit g zero n some few is = absurd (omega arith)
targets_fit g (suc zero) n some few is = first (n == g.luns) (n == 2 * g.luns) (n == 3 * g.luns) (n == 4 * g.luns) (eq-eqb n g.luns (omega (arith, is)))
targets_fit g (suc (suc zero)) n some few is = second (n == g.luns) (n == 2 * g.luns) (n == 3 * g.luns) (n == 4 * g.luns) (eq-eqb n (2 * g.luns) (omega (arith, is)))
targets_fit g (suc (suc (suc zero))) n some few is = third (n == g.luns) (n == 2 * g.luns) (n == 3 * g.luns) (n == 4 * g.luns) (eq-eqb n (3 * g.luns) (omega (arith, is)))
targets_fit g (suc (suc (suc (suc zero)))) n some few is = fourth (n == g.luns) (n == 2 * g.luns) (n == 3 * g.luns) (n == 4 * g.luns) (eq-eqb n (4 * g.luns) (omega (arith, is)))
targets_fit g (suc (suc (suc (suc (suc t))))) n some few is = absurd (omega arith)

pub dies_fit : (g : Parts) (targets : ℕ) (dies : List Die) → 1 ≤ targets → targets ≤ 4 → length dies ≡ targets * g.luns → are_new g dies ≡ true → bus_fault g dies ≡ None
dies_fit g targets dies some few count new =
    ap (λ (b : Bool). cond (not b) (Some DiesMissing) (cond (are_new g dies) None (Some DieUnfit))) (targets_fit g targets (length dies) some few count)
    ∙ ap (λ (b : Bool). (let o : Option BusFault = cond b None (Some DieUnfit) in o)) new
