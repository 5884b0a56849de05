-- The pages that the plane registers hold, added one by one.
use Rattle.std.proofs.Common.{◌≡◌, ℕ, zero, suc, ◌-◌, ◌%◌, ◌==◌, ◌≤◌, Bool, true, false, not, cond, List, [], ◌∷◌, ◌++◌, length, take, drop, get_or, refl, sym, ap, ◌∙◌, arith}
use Rattle.std.proofs.lemmas.List.{append_assoc, append-nil}
use Rattle.nand_geometry.specs.declared.parts.Parts.{Parts}
use Rattle.onfi_cycle.specs.declared.effect.Effect.{Effect}
use Rattle.onfi_cycle.specs.declared.effect.Effect.TheVariants.{PlaneSelected, CopybackReadStarted}
use Rattle.onfi_cycle.specs.declared.page_address.PageAddress.{PageAddress}
use Rattle.onfi_cycle.specs.declared.queued.Queued.{Queued}
use Rattle.onfi_cycle.specs.declared.queued.Queued.TheVariants.{Erase, Program, Read}
use Rattle.onfi_cycle.specs.Bounds.{EffectFits}
use Rattle.onfi_cycle.specs.Effect.{IsSmallEffect, HasPlanes}
use Rattle.onfi_cycle.specs.LunView.{LunView}
use Rattle.onfi_cycle.specs.Lun.{pages_of_reads, of_other_planes}

-- a list with room for all of it
pub take_whole : (n : ℕ) (h : List PageAddress) → length h ≤ n → take n h ≡ h
take_whole zero [] few = refl
take_whole (suc n) [] few = refl
take_whole zero (p ∷ h) few = absurd (omega (arith, few))
take_whole (suc n) (p ∷ h) few = ap (λ (l : List PageAddress). p ∷ l) (take_whole n h (omega (arith, few)))

-- one that is full
pub take_full : (n : ℕ) (h more : List PageAddress) → length h ≡ n → take n (h ++ more) ≡ h
take_full zero [] more full = refl
take_full (suc n) [] more full = absurd (omega (arith, full))
take_full zero (p ∷ h) more full = absurd (omega (arith, full))
take_full (suc n) (p ∷ h) more full = ap (λ (l : List PageAddress). p ∷ l) (take_full n h more (omega (arith, full)))

-- what is cut before more is added
take_before : (n : ℕ) (h more : List PageAddress) → take n (take n h ++ more) ≡ take n (h ++ more)
take_before zero h more = refl
take_before (suc n) [] more = refl
take_before (suc n) (p ∷ h) more = ap (λ (l : List PageAddress). p ∷ l) (take_before n h more)

pages_of_first : (first : Queued) (rest : List Queued) → pages_of_reads (first ∷ rest) ≡ pages_of_reads (first ∷ []) ++ pages_of_reads rest
pages_of_first (Erase p) rest = refl
pages_of_first (Program p) rest = refl
pages_of_first (Read p) rest = refl

holds_rest : (h : List PageAddress) (first : Queued) (rest : List Queued) → take 4 (take 4 (h ++ pages_of_reads (first ∷ [])) ++ pages_of_reads rest) ≡ take 4 (h ++ pages_of_reads (first ∷ rest))
holds_rest h first rest =
    take_before 4 (h ++ pages_of_reads (first ∷ [])) (pages_of_reads rest)
    ∙ ap (take 4) (append_assoc h (pages_of_reads (first ∷ [])) (pages_of_reads rest) ∙ ap (λ (l : List PageAddress). h ++ l) (sym (pages_of_first first rest)))

pub holds_all : (h mid after : List PageAddress) (queue rest : List Queued) (first : Queued) → queue ≡ first ∷ rest → mid ≡ take 4 (h ++ pages_of_reads (first ∷ [])) → after ≡ take 4 (mid ++ pages_of_reads rest) → after ≡ take 4 (h ++ pages_of_reads queue)
holds_all h mid after queue rest first is one more =
    more ∙ (ap (λ (l : List PageAddress). take 4 (l ++ pages_of_reads rest)) one ∙ (holds_rest h first rest ∙ ap (λ (q : List Queued). take 4 (h ++ pages_of_reads q)) (sym is)))

-- the first of a queue, and the rest
take_all : (queue : List Queued) → take (length queue) queue ≡ queue
take_all [] = refl
take_all (q ∷ queue) = ap (λ (l : List Queued). q ∷ l) (take_all queue)

rest_of : (q : Queued) (queue : List Queued) → take (length (q ∷ queue) - 1) queue ≡ queue
rest_of q queue = let count : length (q ∷ queue) - 1 ≡ length queue = omega arith in ap (λ n. take n queue) count ∙ take_all queue

pub first_queued : (queue : List Queued) (d : Queued) → 1 ≤ length queue → queue ≡ get_or queue 0 d ∷ take (length queue - 1) (drop 1 queue)
first_queued [] d h = absurd (omega (arith, h))
first_queued (q ∷ queue) d h = ap (λ (l : List Queued). q ∷ l) (sym (rest_of q queue))

-- a small effect that selects a plane has planes
pub has_planes : (e : Effect) → IsSmallEffect e → HasPlanes e
has_planes (PlaneSelected plane planes column) h = h
has_planes (CopybackReadStarted page column planes) h = h.1
has_planes e h = tt

-- a page of another plane is kept, and one of this plane isn't
others_of_first : (planes : ℕ) (at first : PageAddress) (rest : List PageAddress) → of_other_planes planes at (first ∷ rest) ≡ of_other_planes planes at (first ∷ []) ++ of_other_planes planes at rest
others_of_first planes at first rest = of (first.block % planes == at.block % planes)
  where
    of : (b : Bool) → cond (not b) (first ∷ of_other_planes planes at rest) (of_other_planes planes at rest) ≡ cond (not b) (first ∷ []) [] ++ of_other_planes planes at rest
    of true = refl
    of false = refl

others_rest : (h : List PageAddress) (planes : ℕ) (at first : PageAddress) (rest : List PageAddress)
    → take 4 (take 4 (h ++ of_other_planes planes at (first ∷ [])) ++ of_other_planes planes at rest) ≡ take 4 (h ++ of_other_planes planes at (first ∷ rest))
others_rest h planes at first rest =
    take_before 4 (h ++ of_other_planes planes at (first ∷ [])) (of_other_planes planes at rest)
    ∙ ap (take 4) (append_assoc h (of_other_planes planes at (first ∷ [])) (of_other_planes planes at rest) ∙ ap (λ (l : List PageAddress). h ++ l) (sym (others_of_first planes at first rest)))

pub holds_others : (h mid after : List PageAddress) (planes : ℕ) (at : PageAddress) (held rest : List PageAddress) (first : PageAddress) → held ≡ first ∷ rest → mid ≡ take 4 (h ++ of_other_planes planes at (first ∷ []))
    → after ≡ take 4 (mid ++ of_other_planes planes at rest) → after ≡ take 4 (h ++ of_other_planes planes at held)
holds_others h mid after planes at held rest first is one more =
    more ∙ (ap (λ (l : List PageAddress). take 4 (l ++ of_other_planes planes at rest)) one ∙ (others_rest h planes at first rest ∙ ap (λ (q : List PageAddress). take 4 (h ++ of_other_planes planes at q)) (sym is)))

-- the first of some pages, and the rest
take_all_pages : (held : List PageAddress) → take (length held) held ≡ held
take_all_pages [] = refl
take_all_pages (p ∷ held) = ap (λ (l : List PageAddress). p ∷ l) (take_all_pages held)

rest_of_pages : (p : PageAddress) (held : List PageAddress) → take (length (p ∷ held) - 1) held ≡ held
rest_of_pages p held = let count : length (p ∷ held) - 1 ≡ length held = omega arith in ap (λ n. take n held) count ∙ take_all_pages held

pub first_held : (held : List PageAddress) (d : PageAddress) → 1 ≤ length held → held ≡ get_or held 0 d ∷ take (length held - 1) (drop 1 held)
first_held [] d h = absurd (omega (arith, h))
first_held (p ∷ held) d h = ap (λ (l : List PageAddress). p ∷ l) (sym (rest_of_pages p held))

-- what is held beside a page that is read for a copyback
pub copies_hold : (page : PageAddress) (reads others after : List PageAddress) (mid : List PageAddress) → mid ≡ take 4 ((page ∷ []) ++ reads) → after ≡ take 4 (mid ++ others) → after ≡ take 4 (page ∷ (reads ++ others))
copies_hold page reads others after mid one more =
    more ∙ (ap (λ (l : List PageAddress). take 4 (l ++ others)) one ∙ take_before 4 (page ∷ reads) others)

pub copies_hold_none : (page : PageAddress) (reads : List PageAddress) (after : List PageAddress) → after ≡ take 4 ((page ∷ []) ++ reads) → after ≡ take 4 (page ∷ (reads ++ []))
copies_hold_none page reads after one = one ∙ ap (λ (l : List PageAddress). take 4 (page ∷ l)) (sym (append-nil reads))

pub fits_planes : (g : Parts) (v : LunView) (e : Effect) → EffectFits g v e → HasPlanes e
fits_planes g v (PlaneSelected plane planes column) h = h.1
fits_planes g v (CopybackReadStarted page column planes) h = h.2
fits_planes g v e h = tt
