-- A bus of new dies.
use Rattle.std.proofs.Common.{◌≡◌, ℕ, zero, suc, ◌+◌, ◌*◌, ◌/◌, ◌≤◌, ◌==◌, Bool, true, false, ◌||◌, ◌++◌, List, [], ◌∷◌, Option, Some, None, refl, sym, ap, subst, ◌∙◌, arith, length, set, eqb-true, get_or, map, append_assoc, drop, take, ◌-◌}
use Rattle.std.proofs.lemmas.Nat.{div-mul-add}
use Rattle.std.proofs.lemmas.List.{length-replicate}
use Rattle.std.specs.List.{slice_get}
use Rattle.std.specs.Bool.{beq}
use Rattle.std.proofs.lemmas.Bool.{and_parts as both}
use Rattle.nand_geometry.specs.declared.parts.Parts.{Parts}
use Rattle.nand_geometry.specs.Limits.{InLimits, page_len, planes}
use Rattle.onfi_cycle.specs.declared.lun.Lun.{Lun}
use Rattle.onfi_cycle.specs.declared.item.Item.{Item}
use Rattle.onfi_cycle.specs.declared.page_address.PageAddress.{PageAddress}
use Rattle.onfi_cycle.specs.Sequence.{facts_of}
use Rattle.onfi_cycle.specs.Lun.{views_from}
use Rattle.onfi_cycle.specs.State.{BusView, Follows, targets_from}
use Rattle.onfi_cycle.specs.Readies.{due_of, targets_due, bus_due}
use Rattle.onfi_cycle.proofs.Following.{count_of}
use Rattle.die_model.specs.Pages.{page_in}
use Rattle.die_model.specs.Die.{Die, page_of, is_new}
use Rattle.die_model.specs.Standing.{IsDieOf}
use Rattle.die_model.proofs.Showing.{dies_show}
use Rattle.target_bus.specs.Bus.{Entries, channel_on, opened_page, numbered, number_of, IsStanding, are_targets, same_sizes, same_parts, is_new_of, are_new, IsWhole, WholeDies, forgotten}
use Rattle.target_bus.proofs.Numbers.{number_back}

beq_is : (a b : Bool) → beq a b ≡ true → a ≡ b
beq_is true true h = refl
beq_is false false h = refl
beq_is true false h = cc
beq_is false true h = cc

same_is : (g h : Parts) → same_parts g h ≡ true → g ≡ h
same_is g h e =
    let halves = both (same_sizes g h) _ e in
    let a = both (g.page_bytes == h.page_bytes) _ halves.0 in
    let b = both (g.spare_bytes == h.spare_bytes) _ a.1 in
    let c = both (g.pages == h.pages) _ b.1 in
    let d = both (g.blocks == h.blocks) _ c.1 in
    let f = both (g.plane_bits == h.plane_bits) _ halves.1 in
    let x = both (beq g.enhanced h.enhanced) _ f.1 in
    let y = both (beq g.multi_plane h.multi_plane) _ x.1 in
    let z = both (beq g.cache h.cache) _ y.1 in
    let page_bytes = eqb-true _ _ a.0 in
    let spare_bytes = eqb-true _ _ b.0 in
    let pages = eqb-true _ _ c.0 in
    let blocks = eqb-true _ _ d.0 in
    let luns = eqb-true _ _ d.1 in
    let plane_bits = eqb-true _ _ f.0 in
    let enhanced = beq_is _ _ x.0 in
    let multi_plane = beq_is _ _ y.0 in
    let cache = beq_is _ _ z.0 in
    let optional = eqb-true g.optional.0 h.optional.0 z.1 in
    λ i. record {
      page_bytes = page_bytes i;
      spare_bytes = spare_bytes i;
      pages = pages i;
      blocks = blocks i;
      luns = luns i;
      plane_bits = plane_bits i;
      enhanced = enhanced i;
      multi_plane = multi_plane i;
      cache = cache i;
      optional = record { 0 = optional i };
    }

pub each_new : (g : Parts) (dies : List Die) (k : ℕ) (d : Die) → are_new g dies ≡ true → slice_get dies k ≡ Some d → (d.geometry ≡ g) × (is_new d ≡ true)
each_new g [] k d h found = cc
each_new g (x ∷ dies) zero d h found =
    let same : x ≡ d = cc in
    let a = both (is_new_of g x) _ h in
    let b = both (same_parts x.geometry g) _ a.0 in
    (sym (ap (λ (e : Die). e.geometry) same) ∙ same_is x.geometry g b.0, sym (ap is_new same) ∙ b.1)
each_new g (x ∷ dies) (suc k) d h found = each_new g dies k d (both (is_new_of g x) _ h).1 found

-- ---- each die forgets which page its array read last

-- the first so many have
abbrev pub forgotten_below : ℕ → List Die → List Die
forgotten_below zero dies = dies
forgotten_below (suc k) [] = []
forgotten_below (suc k) (d ∷ dies) = forgotten d ∷ forgotten_below k dies

-- the number of targets
record AreTargets (k luns : ℕ) : Type 0 where
  whole : k / luns * luns ≡ k
  least : 1 ≤ k / luns
  most : k / luns ≤ 4

times : (k luns j : ℕ) → 1 ≤ luns → 1 ≤ j → j ≤ 4 → k ≡ j * luns → AreTargets k luns
times k luns j some least most is =
    let div : k / luns ≡ j = ap (λ (n : ℕ). n / luns) (is ∙ omega arith) ∙ div-mul-add j luns 0 some in
    record { whole = ap (λ (n : ℕ). n * luns) div ∙ sym is; least = omega (arith, div, least); most = omega (arith, div, most) }

targets_of : (g : Parts) (k : ℕ) → 1 ≤ g.luns → are_targets g k ≡ true → AreTargets k g.luns
targets_of g k some h = at (k == g.luns) (k == 2 * g.luns) (k == 3 * g.luns) (k == 4 * g.luns) refl refl refl refl h
  where
    at : (a b c d : Bool) → (k == g.luns) ≡ a → (k == 2 * g.luns) ≡ b → (k == 3 * g.luns) ≡ c → (k == 4 * g.luns) ≡ d → (a || b || c || d) ≡ true → AreTargets k g.luns
    at true b c d ea eb ec ed h = times k g.luns 1 some (omega arith) (omega arith) (eqb-true _ _ ea ∙ omega arith)
    at false true c d ea eb ec ed h = times k g.luns 2 some (omega arith) (omega arith) (eqb-true _ _ eb)
    at false false true d ea eb ec ed h = times k g.luns 3 some (omega arith) (omega arith) (eqb-true _ _ ec)
    at false false false true ea eb ec ed h = times k g.luns 4 some (omega arith) (omega arith) (eqb-true _ _ ed)
    at false false false false ea eb ec ed h = cc

pub forgets_none : (dies : List Die) → dies ≡ forgotten_below 0 dies
forgets_none dies = refl

pub forgets_more : (dies now later : List Die) (k n : ℕ) (old : Die) → now ≡ forgotten_below k dies → slice_get now k ≡ Some old → later ≡ set now k (forgotten old) → n ≡ suc k → later ≡ forgotten_below n dies
forgets_more dies now later k n old is found set_is next = set_is ∙ (ap (λ (ds : List Die). set ds k (forgotten old)) is ∙ (of dies k (sym (ap (λ (ds : List Die). slice_get ds k) is) ∙ found) ∙ ap (λ (m : ℕ). forgotten_below m dies) (sym next)))
  where
    of : (dies : List Die) (k : ℕ) → slice_get (forgotten_below k dies) k ≡ Some old → set (forgotten_below k dies) k (forgotten old) ≡ forgotten_below (suc k) dies
    of [] zero h = cc
    of [] (suc k) h = cc
    of (d ∷ dies) zero h = let same : d ≡ old = cc in ap (λ (x : Die). forgotten x ∷ dies) (sym same)
    of (d ∷ dies) (suc k) h = ap (λ (ds : List Die). forgotten d ∷ ds) (of dies k h)

pub forgets_all : (dies now : List Die) (k : ℕ) → now ≡ forgotten_below k dies → length dies ≤ k → now ≡ map forgotten dies
forgets_all dies now k is most = is ∙ of dies k most
  where
    of : (dies : List Die) (k : ℕ) → length dies ≤ k → forgotten_below k dies ≡ map forgotten dies
    of [] zero h = refl
    of [] (suc k) h = refl
    of (d ∷ dies) zero h = absurd (omega arith)
    of (d ∷ dies) (suc k) h = ap (λ (ds : List Die). forgotten d ∷ ds) (of dies k (omega arith))

pub forgets_length : (k : ℕ) (dies : List Die) → length (forgotten_below k dies) ≡ length dies
forgets_length zero dies = refl
forgets_length (suc k) [] = refl
forgets_length (suc k) (d ∷ dies) = ap suc (forgets_length k dies)

-- ---- the bus

record WasThere (dies : List Die) (k : ℕ) (d : Die) : Type 0 where
  old : Die
  there : slice_get dies k ≡ Some old
  is : d ≡ forgotten old

was_there : (dies : List Die) (k : ℕ) (d : Die) → slice_get (map forgotten dies) k ≡ Some d → WasThere dies k d
was_there [] k d h = cc
was_there (x ∷ dies) zero d h = record { old = x; there = refl; is = cc }
was_there (x ∷ dies) (suc k) d h = let w = was_there dies k d h in record { old = w.old; there = w.there; is = w.is }

map_length : (dies : List Die) → length (map forgotten dies) ≡ length dies
map_length [] = refl
map_length (d ∷ dies) = ap suc (map_length dies)

abbrev kept_by : Option Die → Entries
kept_by None = []
kept_by (Some d) = d.pages

opened_at : (dies : List Die) (k : ℕ) → get_or (map (λ (d : Die). d.pages) dies) k [] ≡ kept_by (slice_get dies k)
opened_at [] k = refl
opened_at (d ∷ dies) zero = refl
opened_at (d ∷ dies) (suc k) = opened_at dies k

page_lengths : (g : Parts) (dies : List Die) (k : ℕ) (p : PageAddress) → are_new g dies ≡ true → WholeDies dies → length (page_in (page_len g) (kept_by (slice_get dies k)) p) ≡ page_len g
page_lengths g dies k p fresh whole = of (slice_get dies k) refl
  where
    of : (o : Option Die) → slice_get dies k ≡ o → length (page_in (page_len g) (kept_by o) p) ≡ page_len g
    of None h = length-replicate {A = ℕ} (page_len g) 0xff
    of (Some d) h = subst (λ (x : Parts). length (page_in (page_len x) d.pages p) ≡ page_len x) (each_new g dies k d fresh h).0 ((whole k d h).lengths p)

pub opened_lengths : (g : Parts) (dies : List Die) (opened : List Entries) (l : Lun) (p : PageAddress) → opened ≡ map (λ (d : Die). d.pages) dies → are_new g dies ≡ true → WholeDies dies → length (opened_page g opened l p) ≡ page_len g
opened_lengths g dies opened l p is fresh whole =
    ap (λ (os : List Entries). length (opened_page g os l p)) is ∙ (ap (λ (e : Entries). length (page_in (page_len g) e p)) (opened_at dies (number_of g l)) ∙ page_lengths g dies (number_of g l) p fresh whole)

-- at the opening a page is what its die has
pub opening_is : (g : Parts) (dies : List Die) (opened : List Entries) (l : Lun) (p : PageAddress) (d : Die) → opened ≡ map (λ (d : Die). d.pages) dies → are_new g dies ≡ true → slice_get dies (number_of g l) ≡ Some d → opened_page g opened l p ≡ page_of d p
opening_is g dies opened l p d is fresh found =
    ap (λ (os : List Entries). opened_page g os l p) is
    ∙ (ap (λ (e : Entries). page_in (page_len g) e p) (opened_at dies (number_of g l) ∙ ap kept_by found)
    ∙ sym (ap (λ (x : Parts). page_in (page_len x) d.pages p) (each_new g dies (number_of g l) d fresh found).0))

pub opens : (g : Parts) (next : BusView) (dies after : List Die) (opened : List Entries) (n : ℕ) → InLimits g → are_targets g (length dies) ≡ true → are_new g dies ≡ true → n ≡ length dies / g.luns → Follows g n next [] → opened ≡ map (λ (d : Die). d.pages) dies → WholeDies dies → after ≡ map forgotten dies → IsStanding next opened after []
opens g next dies after opened n limits whole_targets fresh is f opened_is whole forgets =
    let all = targets_of g (length dies) limits.luns_least whole_targets in
    let eg : g ≡ next.geometry = sym f.geometry in
    let en : n ≡ length next.targets = sym (count_of g n next [] f) in
    record {
      follows = subst (λ (h : Parts). Follows h (length next.targets) next []) eg (subst (λ (m : ℕ). Follows g m next []) en f);
      limits = subst InLimits eg limits;
      least = omega (arith, all.least, is, en);
      most = omega (arith, all.most, is, en);
      count = ap length forgets ∙ (map_length dies ∙ (sym all.whole ∙ (ap (λ (m : ℕ). m * g.luns) (sym is ∙ en) ∙ ap (λ (h : Parts). length next.targets * h.luns) eg)));
      lengths = λ l p. subst (λ (h : Parts). length (opened_page h opened l p) ≡ page_len h) eg (opened_lengths g dies opened l p opened_is fresh whole);
      stand = λ k d found. subst (λ (h : Parts). IsDieOf (channel_on h (length next.targets) opened) [] (numbered h k) d) eg (one k d (sym (ap (λ (ds : List Die). slice_get ds k) forgets) ∙ found));
    }
  where
    one : (k : ℕ) (d : Die) → slice_get (map forgotten dies) k ≡ Some d → IsDieOf (channel_on g (length next.targets) opened) [] (numbered g k) d
    one k d found =
        let w = was_there dies k d found in
        let each = each_new g dies k w.old fresh w.there in
        let s = channel_on g (length next.targets) opened in
        let back : slice_get dies (number_of g (numbered g k)) ≡ Some w.old = ap (slice_get dies) (number_back g k limits.luns_least) ∙ w.there in
        subst (IsDieOf s [] (numbered g k)) (sym w.is)
        (dies_show.first s (numbered g k) (forgotten w.old) each.0 (λ p. sym (opening_is g dies opened (numbered g k) p w.old opened_is fresh back)) each.1 refl ((whole k w.old w.there).registers ∙ ap planes each.0))

-- nothing is to come
luns_due : (g : Parts) (ce count n : ℕ) → due_of (facts_of []) (views_from g [] ce count n) ≡ 0
luns_due g ce zero n = refl
luns_due g ce (suc count) n = let rest = luns_due g ce count (n + 1) in omega (arith, rest)

all_due : (g : Parts) (count n : ℕ) → targets_due (targets_from g [] count n) ≡ 0
all_due g zero n = refl
all_due g (suc count) n = let here = luns_due g n g.luns 0 in let rest = all_due g count (n + 1) in omega (arith, here, rest)

pub nothing_due : (g : Parts) (n : ℕ) (next : BusView) → Follows g n next [] → bus_due next ≤ 0
nothing_due g n next f = let none = ap targets_due f.facts ∙ all_due g n 0 in omega (arith, none)

-- ---- copies of the pages

pub whole_more : (d : Die) (dies : List Die) → IsWhole d → WholeDies dies → WholeDies (d ∷ dies)
whole_more d dies a b zero x found = let same : d ≡ x = cc in subst IsWhole same a
whole_more d dies a b (suc k) x found = b k x found

all_taken : (dies : List Die) (n : ℕ) → n ≡ length dies → take n dies ≡ dies
all_taken [] zero h = refl
all_taken [] (suc n) h = refl
all_taken (d ∷ dies) zero h = absurd (omega arith)
all_taken (d ∷ dies) (suc n) h = ap (λ (ds : List Die). d ∷ ds) (all_taken dies n (omega arith))

pub copied_more : (dies : List Die) (d : Die) (before more after : List Entries) (e : Entries) → 1 ≤ length dies → d ≡ get_or dies 0 d → more ≡ before ++ (e ∷ []) → e ≡ d.pages → after ≡ more ++ map (λ (d : Die). d.pages) (take (length dies - 1) (drop 1 dies)) → after ≡ before ++ map (λ (d : Die). d.pages) dies
copied_more [] d before more after e some here m is a = absurd (omega arith)
copied_more (x ∷ dies) d before more after e some here m is a =
    let rest : take (length (x ∷ dies) - 1) dies ≡ dies = all_taken dies (length (x ∷ dies) - 1) (omega arith) in
    a ∙ (ap (λ (ds : List Die). more ++ map (λ (d : Die). d.pages) ds) rest ∙ ap (λ (xs : List Entries). xs ++ map (λ (d : Die). d.pages) dies) m
    ∙ (append_assoc before (e ∷ []) (map (λ (d : Die). d.pages) dies) ∙ ap (λ (y : Entries). before ++ (y ∷ map (λ (d : Die). d.pages) dies)) (is ∙ ap (λ (y : Die). y.pages) here)))

pub whole_from : (dies : List Die) (d : Die) → 1 ≤ length dies → d ≡ get_or dies 0 d → IsWhole d → WholeDies (take (length dies - 1) (drop 1 dies)) → WholeDies dies
whole_from [] d some here a b = absurd (omega arith)
whole_from (x ∷ dies) d some here a b = whole_more x dies (subst IsWhole here a) (subst WholeDies (all_taken dies (length (x ∷ dies) - 1) (omega arith)) b)

pub most_targets : (g : Parts) (k : ℕ) → InLimits g → are_targets g k ≡ true → k / g.luns ≤ 4
most_targets g k limits h = (targets_of g k limits.luns_least h).most

pub targets_are : (g : Parts) (k n : ℕ) (next : BusView) → InLimits g → are_targets g k ≡ true → n ≡ k / g.luns → Follows g n next [] → length next.targets * g.luns ≡ k
targets_are g k n next limits h is f = ap (λ (m : ℕ). m * g.luns) (count_of g n next [] f ∙ is) ∙ (targets_of g k limits.luns_least h).whole

pub opens_on : {state : BusView} {opened : List Entries} {dies : List Die} {past later : List Item} → later ≡ past → IsStanding state opened dies past → IsStanding state opened dies later
opens_on {state = state} {opened = opened} {dies = dies} same f = subst (IsStanding state opened dies) (sym same) f
