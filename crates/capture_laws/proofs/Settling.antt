-- What is seen where the levels before become those after.
use Rattle.std.proofs.Common.{◌≡◌, ℕ, zero, suc, ◌+◌, ◌-◌, ◌*◌, ◌/◌, ◌%◌, ◌<◌, ◌≤◌, ◌==◌, ◌&&◌, Bool, true, false, cond, not, List, [], ◌∷◌, ◌++◌, Option, Some, None, Ok, Result, refl, sym, ap, ◌∙◌, arith, append_assoc, append-nil}
use Rattle.std.proofs.lemmas.Bool.{eqb-true, eqb-false, lt-leb}
use Rattle.onfi_cycle.specs.declared.item.Item.{Item}
use Rattle.vcd_text.specs.declared.tokens.Level.{Level}
use Rattle.bus_signals.specs.declared.role.Role.TheVariants.{ReadyBusy}
use Rattle.bus_capture.specs.declared.fault.BusFault.{BusFault}
use Rattle.bus_capture.specs.declared.sampling.Seen.{Seen}
use Rattle.bus_capture.specs.declared.sampling.Seen.TheVariants.{Nothing}
use Rattle.bus_capture.specs.declared.sampling.Strobe.{Strobe}
use Rattle.bus_capture.specs.declared.sampling.Strobe.TheVariants.{Write, Read}
use Rattle.bus_capture.specs.declared.sampler.Observation.{Observation}
use Rattle.bus_capture.specs.declared.sampler.Observation.TheVariants as observation
use Rattle.bus_capture.specs.declared.sampler.Observed.{Observed}
use Rattle.bus_capture.specs.declared.sampler.Sampler.{Sampler}
use Rattle.bus_capture.specs.declared.sampler.Strobing.{Strobing}
use Rattle.bus_capture.specs.declared.inferring.Stamped.{Stamped}
use Rattle.bus_capture.specs.Sampling.{level, enabled_from, cycle_of, line_of, rises, is_lost, seen_of, item_of, is_short, ready_of}
use Rattle.bus_capture.specs.Capturing.{time_of, output_time, late_of, is_taken, owes, later, closed, with_item, with_release, with_releases, with_readies, with_seen, strobe_seen, settled}
use Rattle.capture_laws.proofs.Standing.{lv}

-- ---- 1. the items among what is seen

abbrev pub seen_as : ℕ → Observation → List Stamped
seen_as time (observation.Item i) = record { time = time; item = i } ∷ []
seen_as time (observation.Released n) = []

abbrev pub seen_items : List Observed → List Stamped
seen_items [] = []
seen_items (o ∷ os) = seen_as o.time o.observation ++ seen_items os

pub seen_both : (xs ys : List Observed) → seen_items (xs ++ ys) ≡ seen_items xs ++ seen_items ys
seen_both [] ys = refl
seen_both (o ∷ xs) ys = ap (λ (zs : List Stamped). seen_as o.time o.observation ++ zs) (seen_both xs ys) ∙ sym (append_assoc (seen_as o.time o.observation) (seen_items xs) (seen_items ys))

release_unseen : (time : ℕ) (before after : List Level) (n : ℕ) (os : List Observed) → seen_items (with_release time before after n os) ≡ seen_items os
release_unseen time before after n os = by (rises (level before (ReadyBusy n)) (level after (ReadyBusy n)))
  where
    by : (b : Bool) → seen_items (cond b (os ++ (record { time = time; observation = observation.Released n } ∷ [])) os) ≡ seen_items os
    by true = seen_both os (record { time = time; observation = observation.Released n } ∷ []) ∙ append-nil (seen_items os)
    by false = refl

releases_unseen : (time : ℕ) (before after : List Level) (os : List Observed) (count n : ℕ) → seen_items (with_releases time before after os count n) ≡ seen_items os
releases_unseen time before after os zero n = refl
releases_unseen time before after os (suc count) n =
    releases_unseen time before after (with_release time before after n os) count (n + 1) ∙ release_unseen time before after n os

-- ---- 2. the readies

abbrev pub seen_at : ℕ → Item → List Observed → List Observed
seen_at time i os = os ++ (record { time = time; observation = observation.Item i } ∷ [])

pub none_ready : (caches : Bool) (time : ℕ) (before after : List Level) (os : List Observed) (count n : ℕ) → ((m : ℕ) → n ≤ m → m < n + count → ready_of caches before after (m / 4) (m % 4) ≡ None) →
    with_readies caches time before after os count n ≡ os
none_ready caches time before after os zero n h = refl
none_ready caches time before after os (suc count) n h =
    ap (λ (o : Option Item). with_readies caches time before after (with_item time o os) count (n + 1)) (h n (omega arith) (omega arith))
    ∙ none_ready caches time before after os count (n + 1) (λ m from to. h m (omega (arith, from)) (omega (arith, to)))

pub one_ready : (caches : Bool) (time : ℕ) (before after : List Level) (os : List Observed) (count n k : ℕ) (i : Item) → n ≤ k → k < n + count → ready_of caches before after (k / 4) (k % 4) ≡ Some i →
    ((m : ℕ) → (m ≡ k → ⊥) → n ≤ m → m < n + count → ready_of caches before after (m / 4) (m % 4) ≡ None) → with_readies caches time before after os count n ≡ seen_at time i os
one_ready caches time before after os zero n k i from to is h = absurd (omega (arith, from, to))
one_ready caches time before after os (suc count) n k i from to is h = by (n == k) refl (one_ready caches time before after os count (n + 1) k i)
  where
    by : (b : Bool) → n == k ≡ b →
        (n + 1 ≤ k → k < n + 1 + count → ready_of caches before after (k / 4) (k % 4) ≡ Some i → ((m : ℕ) → (m ≡ k → ⊥) → n + 1 ≤ m → m < n + 1 + count → ready_of caches before after (m / 4) (m % 4) ≡ None) → with_readies caches time before after os count (n + 1) ≡ seen_at time i os) →
        with_readies caches time before after (with_item time (ready_of caches before after (n / 4) (n % 4)) os) count (n + 1) ≡ seen_at time i os
    by true e go =
        let same = eqb-true n k e in
        ap (λ (m : ℕ). with_readies caches time before after (with_item time (ready_of caches before after (m / 4) (m % 4)) os) count (n + 1)) same
        ∙ ap (λ (o : Option Item). with_readies caches time before after (with_item time o os) count (n + 1)) is
        ∙ none_ready caches time before after (seen_at time i os) count (n + 1) (λ m from' to'. h m (λ e'. absurd (omega (arith, from', e', same))) (omega (arith, from')) (omega (arith, to')))
    by false e go =
        let other = eqb-false n k e in
        ap (λ (o : Option Item). with_readies caches time before after (with_item time o os) count (n + 1)) (h n other (omega arith) (omega arith))
        ∙ go (omega (arith, from, other)) (omega (arith, to)) is (λ m ne from' to'. h m ne (omega (arith, from')) (omega (arith, to')))

-- ---- 3. the strobes

not_short : (glitch time : ℕ) (since : Option ℕ) → glitch ≡ 0 → is_short glitch time since ≡ false
not_short glitch time None h = refl
not_short glitch time (Some t) h = lt-leb (suc (time - t)) glitch (omega (arith, h))

-- no change is too early, and outputs are taken as RE# rises
abbrev pub IsPrompt : Sampler → Type 0
IsPrompt s = (s.glitch ≡ 0) × (s.late ≡ None)

taken_is : (s : Sampler) (strobe : Strobe) (known : Strobing) → s.late ≡ None → is_taken (late_of s strobe) s strobe known ≡ rises (level s.before.of (line_of strobe)) (level s.after.of (line_of strobe))
taken_is s Write known h = refl
taken_is s Read known h = ap (λ (late : Option ℕ). is_taken late s Read known) h

pub strobe_is : (s : Sampler) (strobe : Strobe) (known : Strobing) → IsPrompt s → strobe_seen s strobe known ≡ seen_of s.targets strobe known.driven s.before.of s.after.of
strobe_is s strobe known h = rw (not_short s.glitch s.time known.since h.0) (rw (taken_is s strobe known h.1) refl)

pub quiet_strobe : (targets : ℕ) (strobe : Strobe) (driven : Bool) (before after : List Level) → rises (level before (line_of strobe)) (level after (line_of strobe)) ≡ false →
    is_lost driven (level before (line_of strobe)) (level after (line_of strobe)) ≡ false → seen_of targets strobe driven before after ≡ Ok Nothing
quiet_strobe targets strobe driven before after h k = rw h (rw k refl)

pub rising_strobe : (targets : ℕ) (strobe : Strobe) (driven : Bool) (before after : List Level) (ce : ℕ) (seen : Result Seen BusFault) → rises (level before (line_of strobe)) (level after (line_of strobe)) ≡ true →
    enabled_from before targets 0 None ≡ Ok (Some ce) → cycle_of strobe ce before ≡ seen → seen_of targets strobe driven before after ≡ seen
rising_strobe targets strobe driven before after ce seen h k is = rw h (rw k is)

-- a strobe that is driven
pub rises_lv : (was is : Bool) → rises (lv was) (lv is) ≡ not was && is
rises_lv true true = refl
rises_lv true false = refl
rises_lv false true = refl
rises_lv false false = refl

lost_lv : (driven was is : Bool) → is_lost driven (lv was) (lv is) ≡ false
lost_lv driven true is = refl
lost_lv driven false true = refl
lost_lv driven false false = refl

pub strobe_quiet : (targets : ℕ) (strobe : Strobe) (driven was is : Bool) (before after : List Level) → level before (line_of strobe) ≡ lv was → level after (line_of strobe) ≡ lv is → (not was && is) ≡ false →
    seen_of targets strobe driven before after ≡ Ok Nothing
strobe_quiet targets strobe driven was is before after h k none =
    quiet_strobe targets strobe driven before after (rw (h, k) (rises_lv was is ∙ none)) (rw (h, k) (lost_lv driven was is))

-- ---- 4. all that is seen at a time

pub record Settles (s : Sampler) (os : List Observed) (items : List Stamped) : Type 0 where
  pub now : List Observed
  pub is : settled s os ≡ Ok now
  pub seen : seen_items now ≡ items

pub settles : (s : Sampler) (os : List Observed) → IsPrompt s → (written read : Seen) (items : List Stamped) → strobe_seen s Write s.we ≡ Ok written → strobe_seen s Read s.re ≡ Ok read →
    seen_items (with_readies s.caches s.time s.before.of s.after.of (with_item s.time (item_of read) (with_item s.time (item_of written) os)) (4 * s.targets) 0) ≡ items → Settles s os items
settles s os prompt written read items w r h = record {
  now = with_seen s written read os;
  is = rw w (rw r refl);
  seen =
      releases_unseen s.time s.before.of s.after.of (with_readies s.caches s.time s.before.of s.after.of (with_item (output_time s) (item_of read) (with_item s.time (item_of written) os)) (4 * s.targets) 0) s.targets 0
      ∙ ap (λ (late : Option ℕ). seen_items (with_readies s.caches s.time s.before.of s.after.of (with_item (time_of late s.time s.re.since) (item_of read) (with_item s.time (item_of written) os)) (4 * s.targets) 0)) prompt.1
      ∙ h;
}

-- where outputs are taken as RE# rises, nothing is left for the end
pub ends_settled : (s : Sampler) (now : List Observed) → s.late ≡ None → closed (later s s.time) now ≡ Ok now
ends_settled s now h = rw (ap (λ (late : Option ℕ). owes late s) h) refl
