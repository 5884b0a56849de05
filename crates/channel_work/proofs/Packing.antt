-- Events as they are kept: one more, and the last load among them.
use Rattle.std.proofs.Common.{◌≡◌, ℕ, zero, suc, ◌+◌, ◌<◌, List, [], ◌∷◌, ◌++◌, refl, sym, ap, ◌∙◌, add-one, replicate, reverse, length, take, get_or}
use Rattle.std.specs.List.{flat_map}
use Rattle.std.proofs.lemmas.List.{reverse-append, append_assoc, append-nil, replicate_more, take_more, flat_map_more}
use Rattle.onfi_cycle.specs.declared.lun.Lun.{Lun}
use Rattle.channel_work.specs.declared.stored.Stored.{Stored}
use Rattle.channel_work.specs.declared.stored.Stored.TheVariants.{Step as WasStepped, Ready as BecameReady, ArrayReady as ArrayBecameReady, Unload as WasUnloaded}
use Rattle.channel_work.specs.declared.events.Kept.{Kept}
use Rattle.channel_work.specs.declared.events.Kept.TheVariants.{Load, Steps, Ready, ArrayReady, Unload}
use Rattle.channel_work.specs.Stored.{last_started}
use Rattle.channel_work.specs.Events.{kept_as}

-- the last load stands before steps
steps_passed : (l m : Lun) (turn n : ℕ) (before : List Stored) → last_started l (reverse (before ++ replicate n (WasStepped m turn))) ≡ last_started l (reverse before)
steps_passed l m turn zero before = ap (λ (xs : List Stored). last_started l (reverse xs)) (append-nil before)
steps_passed l m turn (suc n) before =
    let x : Stored = WasStepped m turn in
    let more : before ++ replicate (suc n) x ≡ (before ++ replicate n x) ++ (x ∷ []) = ap (λ (xs : List Stored). before ++ xs) (sym (replicate_more n x ∙ ap (λ (k : ℕ). replicate k x) (add-one n))) ∙ sym (append_assoc before (replicate n x) (x ∷ [])) in
    ap (λ (xs : List Stored). last_started l (reverse xs)) more ∙ (ap (last_started l) (reverse-append (before ++ replicate n x) (x ∷ [])) ∙ steps_passed l m turn n before)

-- what is kept is no load
abbrev pub IsNoLoad : Kept → Type 0
IsNoLoad k = (m : Lun) (host number : ℕ) → k ≡ Load m host number → ⊥

-- the last load stands before whatever is no load
kept_passed : (l : Lun) (k : Kept) (before : List Stored) → IsNoLoad k → last_started l (reverse (before ++ kept_as k)) ≡ last_started l (reverse before)
kept_passed l (Load m host number) before none = absurd (none m host number refl)
kept_passed l (Steps m times turn) before none = steps_passed l m turn times before
kept_passed l (Ready m fail) before none = ap (last_started l) (reverse-append before (BecameReady m fail ∷ []))
kept_passed l (ArrayReady m fail) before none = ap (last_started l) (reverse-append before (ArrayBecameReady m fail ∷ []))
kept_passed l (Unload m) before none = ap (last_started l) (reverse-append before (WasUnloaded m ∷ []))

-- so among what is kept
pub passed : (l : Lun) (kept : List Kept) (p : ℕ) (d : Kept) → p < length kept → IsNoLoad (get_or kept p d)
    → last_started l (reverse (flat_map kept_as (take p kept))) ≡ last_started l (reverse (flat_map kept_as (take (p + 1) kept)))
passed l kept p d low none =
    sym (ap (λ (ks : List Kept). last_started l (reverse (flat_map kept_as ks))) (take_more kept p d low)
    ∙ (ap (λ (xs : List Stored). last_started l (reverse xs)) (sym (flat_map_more kept_as [] (take p kept) (get_or kept p d))) ∙ kept_passed l (get_or kept p d) (flat_map kept_as (take p kept)) none))
