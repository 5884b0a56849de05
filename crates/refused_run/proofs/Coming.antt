-- Items that come one after another, up to one that isn't permitted.
use Rattle.std.proofs.Common.{◌≡◌, ℕ, zero, suc, ◌+◌, ◌-◌, ◌<◌, ◌≤◌, true, false, List, [], ◌∷◌, Some, None, refl, sym, ap, ◌∙◌, subst, arith, length, drop, get_or, is_none, replicate}
use Rattle.std.proofs.Math.Seq.{drop-cons}
use Rattle.nand_geometry.specs.declared.parts.Parts.{Parts}
use Rattle.onfi_cycle.specs.declared.item.Item.{Item}
use Rattle.onfi_cycle.specs.Permitted.{broken, is_permitted}
use Rattle.refused_run.specs.declared.bench.Stop.{Stop}
use Rattle.refused_run.specs.Course.{Scene, Come, come, HasPushed, HasPlayed}

-- those before place k have come, and what is still to come tells the rest
pub record IsComing (old now : Scene) (all rest : List Item) : Type 0 where
  pub same : now.geometry ≡ old.geometry
  pub comes : come old.geometry all old.past ≡ come old.geometry rest now.past

pub begins : (old : Scene) (all : List Item) → IsComing old old all all
begins old all = record { same = refl; comes = refl }

went : (old now next : Scene) (all rest : List Item) (i : Item) → IsComing old now all (i ∷ rest) → HasPushed now next i None → IsComing old next all rest
went old now next all rest i p gone =
    let permitted : is_permitted old.geometry 1 now.past i ≡ true = subst (λ (g : Parts). is_permitted g 1 now.past i ≡ true) p.same gone.0 in
    let on : come old.geometry (i ∷ rest) now.past ≡ come old.geometry rest (i ∷ now.past) = rw permitted refl in
    record {
      same = ap (λ (s : Scene). s.geometry) gone.1 ∙ p.same;
      comes = p.comes ∙ on ∙ ap (λ (s : Scene). come old.geometry rest s.past) (sym gone.1);
    }

forbids : (g : Parts) (past : List Item) (i : Item) (stop : Stop) → broken g 1 past i ≡ Some stop.rule → is_permitted g 1 past i ≡ false
forbids g past i stop h = ap is_none h

stopped : (old now next : Scene) (all rest : List Item) (i : Item) (stop : Stop) → IsComing old now all (i ∷ rest) → HasPushed now next i (Some stop) → HasPlayed old next all (Some stop)
stopped old now next all rest i stop p gone =
    let breaks : broken old.geometry 1 now.past i ≡ Some stop.rule = subst (λ (g : Parts). broken g 1 now.past i ≡ Some stop.rule) p.same gone.1 in
    let here : come old.geometry (i ∷ rest) now.past ≡ record { past = now.past; stop = Some i } = rw (forbids old.geometry now.past i stop breaks) refl in
    record {
      same = ap (λ (s : Scene). s.geometry) gone.2 ∙ p.same;
      comes = p.comes ∙ here ∙ ap (λ (s : Scene). let c : Come = record { past = s.past; stop = Some i } in c) (sym gone.2) ∙ ap (λ (x : Item). let c : Come = record { past = next.past; stop = Some x } in c) (sym gone.0);
      rule = subst (λ (x : Item). broken old.geometry 1 next.past x ≡ Some stop.rule) (sym gone.0) (subst (λ (s : Scene). broken old.geometry 1 s.past i ≡ Some stop.rule) (sym gone.2) breaks);
    }

ended : (old now : Scene) (all : List Item) → IsComing old now all [] → HasPlayed old now all None
ended old now all p = record { same = p.same; comes = p.comes; rule = tt }

-- ---- items of a list

rest_at : (items : List Item) (k : ℕ) (d : Item) → k < length items → drop k items ≡ get_or items k d ∷ drop (k + 1) items
rest_at items k d h =
    let next : suc k ≡ k + 1 = omega arith in
    drop-cons items k d h ∙ ap (λ (n : ℕ). get_or items k d ∷ drop n items) next

none_left : (items : List Item) (k : ℕ) → length items ≤ k → drop k items ≡ []
none_left [] zero h = refl
none_left [] (suc k) h = refl
none_left (i ∷ items) zero h = absurd (omega (arith, h))
none_left (i ∷ items) (suc k) h = none_left items k (omega (arith, h))

pub next_of : (old now next : Scene) (items : List Item) (k : ℕ) (d : Item) → k < length items → IsComing old now items (drop k items) → HasPushed now next (get_or items k d) None → IsComing old next items (drop (k + 1) items)
next_of old now next items k d h p gone = went old now next items (drop (k + 1) items) (get_or items k d) (subst (IsComing old now items) (rest_at items k d h) p) gone

pub stop_of : (old now next : Scene) (items : List Item) (k : ℕ) (d : Item) (stop : Stop) → k < length items → IsComing old now items (drop k items) → HasPushed now next (get_or items k d) (Some stop) → HasPlayed old next items (Some stop)
stop_of old now next items k d stop h p gone = stopped old now next items (drop (k + 1) items) (get_or items k d) stop (subst (IsComing old now items) (rest_at items k d h) p) gone

pub end_of : (old now : Scene) (items : List Item) (k : ℕ) → length items ≤ k → IsComing old now items (drop k items) → HasPlayed old now items None
end_of old now items k h p = ended old now items (subst (IsComing old now items) (none_left items k h) p)

-- ---- one item, so often

one_less : (count k : ℕ) (i : Item) → k < count → replicate (count - k) i ≡ i ∷ replicate (count - (k + 1)) i
one_less count k i h =
    let more : count - k ≡ suc (count - (k + 1)) = omega (arith, h) in
    ap (λ (n : ℕ). replicate n i) more

no_more : (count k : ℕ) (i : Item) → count ≤ k → replicate (count - k) i ≡ []
no_more count k i h =
    let none : count - k ≡ 0 = omega (arith, h) in
    ap (λ (n : ℕ). replicate n i) none

pub next_time : (old now next : Scene) (count k : ℕ) (i : Item) → k < count → IsComing old now (replicate count i) (replicate (count - k) i) → HasPushed now next i None → IsComing old next (replicate count i) (replicate (count - (k + 1)) i)
next_time old now next count k i h p gone = went old now next (replicate count i) (replicate (count - (k + 1)) i) i (subst (IsComing old now (replicate count i)) (one_less count k i h) p) gone

pub stop_then : (old now next : Scene) (count k : ℕ) (i : Item) (stop : Stop) → k < count → IsComing old now (replicate count i) (replicate (count - k) i) → HasPushed now next i (Some stop) → HasPlayed old next (replicate count i) (Some stop)
stop_then old now next count k i stop h p gone = stopped old now next (replicate count i) (replicate (count - (k + 1)) i) i stop (subst (IsComing old now (replicate count i)) (one_less count k i h) p) gone

pub end_then : (old now : Scene) (count k : ℕ) (i : Item) → count ≤ k → IsComing old now (replicate count i) (replicate (count - k) i) → HasPlayed old now (replicate count i) None
end_then old now count k i h p = ended old now (replicate count i) (subst (IsComing old now (replicate count i)) (no_more count k i h) p)
