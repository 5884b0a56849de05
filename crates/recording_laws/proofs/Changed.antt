-- The LUNs of a target after an item, as they are and as they are seen.
use Rattle.std.proofs.Common.{◌≡◌, ℕ, zero, suc, ◌+◌, ◌≤◌, ◌<◌, Bool, true, List, [], ◌∷◌, length, Option, Some, refl, sym, ap, ◌∙◌, arith, slice_get, subst}
use Rattle.std.proofs.lemmas.Option.{slice_get_within}
use Rattle.nand_geometry.specs.declared.parts.Parts.{Parts}
use Rattle.onfi_cycle.specs.declared.effect.Effect.{Effect}
use Rattle.onfi_cycle.specs.declared.item.Item.{Item}
use Rattle.onfi_cycle.specs.declared.tail_facts.TailFacts.{TailFacts}
use Rattle.onfi_cycle.specs.Look.{look_at, look_at_some}
use Rattle.onfi_cycle.specs.Lun.{view_after}
use Rattle.onfi_cycle.specs.LunView.{LunView}
use Rattle.onfi_cycle.specs.Rules.{has_some}
use Rattle.onfi_cycle.specs.State.{effect_alone, luns_after}
use Rattle.trace_faults.specs.declared.known.Known.{Known}
use Rattle.trace_faults.specs.declared.lun_known.LunKnown.{LunKnown}
use Rattle.trace_faults.specs.declared.lun_known.LunKnown.TheVariants.{Nothing, Queue, Work, All}
use Rattle.trace_faults.specs.Middle.{knows, nothing_known, learned_lun, is_all, has_begun}
use Rattle.recording_laws.proofs.Luns.{IsUnder, IsBelow, is_under, Fits, IsHarmless, NoCacheProgram, unseen_after}
use Rattle.recording_laws.proofs.Lists.{Each, each_more}
use Rattle.recording_laws.proofs.Rules.{IsKnown}
use Rattle.recording_laws.proofs.Unseen.{nothing_fits}

-- ---- 1. an effect on each

abbrev pub changed : (ℕ → LunView → Effect) → ℕ → List LunView → List LunView
changed f n [] = []
changed f n (v ∷ vs) = view_after (f n v) v ∷ changed f (n + 1) vs

pub luns_are_changed : (g : Parts) (t : TailFacts) (sole : Bool) (i : Item) (n : ℕ) (vs : List LunView) → luns_after g t sole i n vs ≡ changed (effect_alone g t sole i) n vs
luns_are_changed g t sole i n [] = refl
luns_are_changed g t sole i n (v ∷ vs) = ap (λ (ws : List LunView). view_after (effect_alone g t sole i n v) v ∷ ws) (luns_are_changed g t sole i (n + 1) vs)

-- effects that are the same leave the same
pub same_changed : (f h : ℕ → LunView → Effect) → ((n : ℕ) (v : LunView) → f n v ≡ h n v) → (n : ℕ) (vs : List LunView) → changed f n vs ≡ changed h n vs
same_changed f h e n [] = refl
same_changed f h e n (v ∷ vs) = ap (λ (x : Effect). view_after x v ∷ changed f (n + 1) vs) (e n v) ∙ ap (λ (ws : List LunView). view_after (h n v) v ∷ ws) (same_changed f h e (n + 1) vs)

found_from : (f : ℕ → LunView → Effect) (n : ℕ) (vs : List LunView) (m p : ℕ) (v : LunView) → p ≡ n + m → slice_get vs m ≡ Some v → slice_get (changed f n vs) m ≡ Some (view_after (f p v) v)
found_from f n [] m p v e h = cc
found_from f n (w ∷ vs) zero p v e h = let same : w ≡ v = cc in let at : n ≡ p = omega (arith, e) in ap (λ (k : ℕ). Some (view_after (f k w) w)) at ∙ ap (λ (x : LunView). Some (view_after (f p x) x)) same
found_from f n (w ∷ vs) (suc m) p v e h = found_from f (n + 1) vs m p v (omega (arith, e)) h

pub changed_found : (f : ℕ → LunView → Effect) (vs : List LunView) (m : ℕ) (v : LunView) → slice_get vs m ≡ Some v → slice_get (changed f 0 vs) m ≡ Some (view_after (f m v) v)
changed_found f vs m v h = found_from f 0 vs m m v (omega arith) h

pub changed_length : (f : ℕ → LunView → Effect) (n : ℕ) (vs : List LunView) → length (changed f n vs) ≡ length vs
changed_length f n [] = refl
changed_length f n (v ∷ vs) = ap suc (changed_length f (n + 1) vs)

-- ---- 2. something of each, by its number

abbrev pub AtEach : (ℕ → LunView → Type 0) → ℕ → List LunView → Type 0
AtEach P n [] = Unit {0}
AtEach P n (v ∷ vs) = P n v × AtEach P (n + 1) vs

at_from : (P : ℕ → LunView → Type 0) (n : ℕ) (vs : List LunView) → ((m p : ℕ) (v : LunView) → p ≡ n + m → slice_get vs m ≡ Some v → P p v) → AtEach P n vs
at_from P n [] f = tt
at_from P n (v ∷ vs) f = (f 0 n v (omega arith) refl, at_from P (n + 1) vs (λ m p w e h. f (suc m) p w (omega (arith, e)) h))

pub at_each : (P : ℕ → LunView → Type 0) (vs : List LunView) → ((m : ℕ) (v : LunView) → slice_get vs m ≡ Some v → P m v) → AtEach P 0 vs
at_each P vs f = at_from P 0 vs (λ m p v e h. let same : m ≡ p = omega (arith, e) in f p v (ap (slice_get vs) (sym same) ∙ h))

-- ---- 3. what is known of each

abbrev pub AllFit : (planes : Bool) → Known → ℕ → List LunView → List LunView → Type 0
AllFit planes k n [] [] = Unit {0}
AllFit planes k n (t ∷ ts) (s ∷ ss) = Fits planes (knows k n) t s × AllFit planes k (n + 1) ts ss
AllFit planes k n [] (s ∷ ss) = ⊥
AllFit planes k n (t ∷ ts) [] = ⊥

pub under_each : (ts ss : List LunView) → Each IsBelow ts ss → Each IsUnder ts ss
under_each ts ss e = each_more IsBelow IsUnder is_under ts ss e

pub below_each : (planes : Bool) (k : Known) (n : ℕ) (ts ss : List LunView) → AllFit planes k n ts ss → Each IsBelow ts ss
below_each planes k n [] [] f = tt
below_each planes k n (t ∷ ts) (s ∷ ss) f = (f.0.below, below_each planes k (n + 1) ts ss f.1)
below_each planes k n [] (s ∷ ss) f = f
below_each planes k n (t ∷ ts) [] f = f

all_begun : (x : LunKnown) → is_all x ≡ true → has_begun x ≡ true
all_begun Nothing h = cc
all_begun Queue h = cc
all_begun Work h = cc
all_begun All h = refl

known_lun : (planes : Bool) (k : LunKnown) (t s : LunView) → Fits planes k t s → is_all k ≡ true → IsKnown t s
known_lun planes k t s f all =
    let b = f.begun (all_begun k all) in
    record { below = is_under t s f.below; begun = b; same = f.same all; held = λ h. b.held (ap has_some (f.below.calm h)) }

pub known_each : (planes : Bool) (k : Known) (n : ℕ) (ts ss : List LunView) → AllFit planes k n ts ss → AtEach (λ m s. is_all (knows k m) ≡ true) n ss → Each IsKnown ts ss
known_each planes k n [] [] f a = tt
known_each planes k n (t ∷ ts) (s ∷ ss) f a =
    (known_lun planes (knows k n) t s f.0 a.0, known_each planes k (n + 1) ts ss f.1 a.1)
known_each planes k n [] (s ∷ ss) f a = f
known_each planes k n (t ∷ ts) [] f a = f

-- ---- 4. an item that is seen

abbrev pub Goes : (planes : Bool) → Item → LunKnown → (et es : Effect) → (t s : LunView) → Type 0
Goes planes i k et es t s = Fits planes k t s → Fits planes (learned_lun planes i (Some (look_at s)) (Some (look_at (view_after es s))) k) (view_after et t) (view_after es s)

abbrev pub GoEach : (planes : Bool) → Item → Known → (et es : ℕ → LunView → Effect) → ℕ → List LunView → List LunView → Type 0
GoEach planes i k et es n [] [] = Unit {0}
GoEach planes i k et es n (t ∷ ts) (s ∷ ss) = Goes planes i (knows k n) (et n t) (es n s) t s × GoEach planes i k et es (n + 1) ts ss
GoEach planes i k et es n [] (s ∷ ss) = Unit {0}
GoEach planes i k et es n (t ∷ ts) [] = Unit {0}

pub go_each : (planes : Bool) (i : Item) (k : Known) (et es : ℕ → LunView → Effect) (P : LunView → LunView → Type 0) (C D : ℕ → LunView → Type 0) →
    ((n : ℕ) (t s : LunView) → P t s → C n t → D n s → Goes planes i (knows k n) (et n t) (es n s) t s) →
    (n : ℕ) (ts ss : List LunView) → Each P ts ss → AtEach C n ts → AtEach D n ss → GoEach planes i k et es n ts ss
go_each planes i k et es P C D f n [] [] e c d = tt
go_each planes i k et es P C D f n (t ∷ ts) (s ∷ ss) e c d = (f n t s e.0 c.0 d.0, go_each planes i k et es P C D f (n + 1) ts ss e.1 c.1 d.1)
go_each planes i k et es P C D f n [] (s ∷ ss) e c d = tt
go_each planes i k et es P C D f n (t ∷ ts) [] e c d = tt

-- what is known afterwards of the LUN of a number
abbrev pub Learns : (planes : Bool) → Item → (k later : Known) → (es : ℕ → LunView → Effect) → ℕ → LunView → Type 0
Learns planes i k later es n s = knows later n ≡ learned_lun planes i (Some (look_at s)) (Some (look_at (view_after (es n s) s))) (knows k n)

pub all_fit_on : (planes : Bool) (i : Item) (k later : Known) (et es : ℕ → LunView → Effect) (n : ℕ) (ts ss : List LunView) → AllFit planes k n ts ss → GoEach planes i k et es n ts ss → AtEach (Learns planes i k later es) n ss →
    AllFit planes later n (changed et n ts) (changed es n ss)
all_fit_on planes i k later et es n [] [] f go l = tt
all_fit_on planes i k later et es n (t ∷ ts) (s ∷ ss) f go l =
    (subst (λ (x : LunKnown). Fits planes x (view_after (et n t) t) (view_after (es n s) s)) (sym l.0) (go.0 f.0), all_fit_on planes i k later et es (n + 1) ts ss f.1 go.1 l.1)
all_fit_on planes i k later et es n [] (s ∷ ss) f go l = absurd f
all_fit_on planes i k later et es n (t ∷ ts) [] f go l = absurd f

-- what is learned of each LUN of a target
abbrev pub IsLearned : (planes : Bool) → Item → (k later : Known) → (before after : List LunView) → Type 0
IsLearned planes i k later before after = (n : ℕ) → n < 4 → knows later n ≡ learned_lun planes i (look_at_some (slice_get before n)) (look_at_some (slice_get after n)) (knows k n)

pub learns_each : (planes : Bool) (i : Item) (k later : Known) (es : ℕ → LunView → Effect) (ss : List LunView) → length ss ≤ 4 → IsLearned planes i k later ss (changed es 0 ss) → AtEach (Learns planes i k later es) 0 ss
learns_each planes i k later es ss few l =
    at_each (Learns planes i k later es) ss
    (λ m s h.
    let within = slice_get_within ss m s h in
    l m (omega (arith, few, within))
    ∙ ap (λ (o : Option LunView). learned_lun planes i (look_at_some o) (look_at_some (slice_get (changed es 0 ss) m)) (knows k m)) h
    ∙ ap (λ (o : Option LunView). learned_lun planes i (Some (look_at s)) (look_at_some o) (knows k m)) (changed_found es ss m s h))

-- ---- 5. an item that isn't

harmless_from : (et : ℕ → LunView → Effect) (n : ℕ) (ts ss : List LunView) → Each IsBelow ts ss → ((m : ℕ) (t : LunView) → NoCacheProgram (et m t)) → AtEach (λ m s. (t : LunView) → IsHarmless (et m t) s) n ss → Each IsBelow (changed et n ts) ss
harmless_from et n [] [] e never h = tt
harmless_from et n (t ∷ ts) (s ∷ ss) e never h = (unseen_after (et n t) t s e.0 (never n t) (h.0 t), harmless_from et (n + 1) ts ss e.1 never h.1)
harmless_from et n [] (s ∷ ss) e never h = e
harmless_from et n (t ∷ ts) [] e never h = e

pub below_unseen : (et : ℕ → LunView → Effect) (ts ss : List LunView) → Each IsBelow ts ss → ((m : ℕ) (t : LunView) → NoCacheProgram (et m t)) → ((m : ℕ) (s : LunView) → slice_get ss m ≡ Some s → (t : LunView) → IsHarmless (et m t) s) → Each IsBelow (changed et 0 ts) ss
below_unseen et ts ss e never h = harmless_from et 0 ts ss e never (at_each (λ m s. (t : LunView) → IsHarmless (et m t) s) ss h)

pub knows_nothing : (n : ℕ) → n < 4 → knows nothing_known n ≡ Nothing
knows_nothing zero h = refl
knows_nothing (suc zero) h = refl
knows_nothing (suc (suc zero)) h = refl
knows_nothing (suc (suc (suc zero))) h = refl
knows_nothing (suc (suc (suc (suc n)))) h = absurd (omega (arith, h))

nothing_from : (planes : Bool) (n : ℕ) (ts ss : List LunView) → n + length ss ≤ 4 → Each IsBelow ts ss → AllFit planes nothing_known n ts ss
nothing_from planes n [] [] few e = tt
nothing_from planes n (t ∷ ts) (s ∷ ss) few e =
    (subst (λ (x : LunKnown). Fits planes x t s) (sym (knows_nothing n (omega (arith, few)))) (nothing_fits planes t s e.0), nothing_from planes (n + 1) ts ss (omega (arith, few)) e.1)
nothing_from planes n [] (s ∷ ss) few e = e
nothing_from planes n (t ∷ ts) [] few e = e

pub all_nothing : (planes : Bool) (ts ss : List LunView) → length ss ≤ 4 → Each IsBelow ts ss → AllFit planes nothing_known 0 ts ss
all_nothing planes ts ss few e = nothing_from planes 0 ts ss (omega (arith, few)) e
