-- A capture goes on from time to time.
use Rattle.std.proofs.Common.{◌≡◌, ℕ, zero, suc, ◌+◌, ◌*◌, ◌/◌, ◌%◌, ◌<◌, ◌≤◌, ◌==◌, Bool, true, false, cond, List, [], ◌∷◌, ◌++◌, length, None, Ok, refl, sym, ap, ◌∙◌, subst, arith, append_assoc}
use Rattle.std.specs.Prelude.{map, slice_get}
use Rattle.std.specs.Option.{unwrap_or}
use Rattle.std.proofs.lemmas.Bool.{eqb-true, eq-eqb}
use Rattle.std.proofs.lemmas.List.{length-append}
use Rattle.vcd_text.specs.declared.tokens.Level.{Level}
use Rattle.vcd_text.specs.declared.tokens.Level.TheVariants.{Low, High, Unknown}
use Rattle.vcd_text.specs.Body.{Event, Told, Time, Change}
use Rattle.bus_signals.specs.declared.role.Role.{Role}
use Rattle.bus_signals.specs.declared.role.Role.TheVariants.{Busy, ArrayBusy}
use Rattle.bus_signals.specs.declared.source.Source.{Source}
use Rattle.bus_signals.specs.Roles.{place_of}
use Rattle.bus_capture.specs.declared.sampling.Seen.TheVariants.{Nothing}
use Rattle.bus_capture.specs.declared.sampling.Strobe.{Strobe}
use Rattle.bus_capture.specs.declared.sampling.Strobe.TheVariants.{Write, Read}
use Rattle.bus_capture.specs.declared.sampler.Observed.{Observed}
use Rattle.bus_capture.specs.declared.sampler.Sampler.{Sampler}
use Rattle.bus_capture.specs.declared.inferring.Stamped.{Stamped}
use Rattle.bus_capture.specs.Sampling.{level, with_change, line_of, rises, is_lost, seen_of, ready_of}
use Rattle.bus_capture.specs.Capturing.{capturing, later, changed, settled, unknown, unknown_from}
use Rattle.wave_laws.specs.Told.{change_events, events_at, frame_events, setting_events}
use Rattle.capture_laws.proofs.Placed.{are_apart, Shows, one_shown}
use Rattle.capture_laws.proofs.Settling.{IsPrompt, seen_items, none_ready, strobe_is, quiet_strobe, Settles, settles}

-- ---- 1. at first nothing is known, and nothing is seen

pub record IsFresh (s : Sampler) : Type 0 where
  pub before : s.before.of ≡ unknown
  pub we : s.we.driven ≡ false
  pub re : s.re.driven ≡ false

unknown_at : (n p : ℕ) → unwrap_or (slice_get (unknown_from n) p) Unknown ≡ Unknown
unknown_at zero p = refl
unknown_at (suc n) zero = refl
unknown_at (suc n) (suc p) = unknown_at n p

unknown_level : (role : Role) → level unknown role ≡ Unknown
unknown_level role = unknown_at 68 (place_of role)

unlost : (x : Level) → is_lost false Unknown x ≡ false
unlost Low = refl
unlost High = refl
unlost Unknown = refl

fresh_strobe : (s : Sampler) (strobe : Strobe) (driven : Bool) → s.before.of ≡ unknown → driven ≡ false → seen_of s.targets strobe driven s.before.of s.after.of ≡ Ok Nothing
fresh_strobe s strobe driven h k =
    rw (h, k) (quiet_strobe s.targets strobe false unknown s.after.of
    (ap (λ (x : Level). rises x (level s.after.of (line_of strobe))) (unknown_level (line_of strobe)))
    (ap (λ (x : Level). is_lost false x (level s.after.of (line_of strobe))) (unknown_level (line_of strobe)) ∙ unlost (level s.after.of (line_of strobe))))

fresh_ready : (caches : Bool) (after : List Level) (ce lun : ℕ) → ready_of caches unknown after ce lun ≡ None
fresh_ready true after ce lun = rw (unknown_level (Busy ce lun), unknown_level (ArrayBusy ce lun)) refl
fresh_ready false after ce lun = rw (unknown_level (Busy ce lun)) refl

pub fresh_settles : (s : Sampler) (os : List Observed) → IsFresh s → IsPrompt s → Settles s os (seen_items os)
fresh_settles s os h prompt = settles s os prompt Nothing Nothing (seen_items os)
    (strobe_is s Write s.we prompt ∙ fresh_strobe s Write s.we.driven h.before h.we)
    (strobe_is s Read s.re prompt ∙ fresh_strobe s Read s.re.driven h.before h.re)
    (ap seen_items (none_ready s.caches s.time s.before.of s.after.of os (4 * s.targets) 0
    (λ n from to. ap (λ (xs : List Level). ready_of s.caches xs s.after.of (n / 4) (n % 4)) h.before ∙ fresh_ready s.caches s.after.of (n / 4) (n % 4))))

-- ---- 2. changes

abbrev pub all_ok : List Event → List Told
all_ok events = map Ok events

-- from one state on to another, whatever follows
abbrev pub Goes : List Source → (from : Sampler) → List Observed → List Event → (to : Sampler) → List Observed → Type 0
Goes sources s os events t now = (rest : List Event) → capturing sources s os (all_ok (events ++ rest)) ≡ capturing sources t now (all_ok rest)

abbrev pub with_levels : Sampler → List Level → Sampler
with_levels s xs = record s { after = record { of = xs } }

pub record Changed (sources : List Source) (s : Sampler) (os : List Observed) (events : List Event) (held : List ℕ) : Type 0 where
  pub xs : List Level
  pub goes : Goes sources s os events (with_levels s xs) os
  pub shows : Shows sources xs held

one_longer : (front : List ℕ) (a code : ℕ) → code ≡ 33 + length front → code + 1 ≡ 33 + length (front ++ (a ∷ []))
one_longer front a code e = let more = length-append front (a ∷ []) in omega (arith, e, more)

module _ (sources : List Source) (apart : are_apart sources ≡ true) where
  changes_go : (before after front : List ℕ) (code : ℕ) (s : Sampler) (os : List Observed) → code ≡ 33 + length front → length before ≡ length after → Shows sources s.after.of (front ++ before) →
      Changed sources s os (change_events code before after) (front ++ after)
  changes_go [] [] front code s os e same shows = record { xs = s.after.of; goes = λ rest. refl; shows = shows }
  changes_go [] (a ∷ after) front code s os e same shows = absurd (omega (arith, same))
  changes_go (b ∷ before) [] front code s os e same shows = absurd (omega (arith, same))
  changes_go (b ∷ before) (a ∷ after) front code s os e same shows =
      by (b == a) refl (λ s k. changes_go before after (front ++ (a ∷ [])) (code + 1) s os (one_longer front a code e) (omega (arith, same)) k)
    where
      joined : (s : Sampler) → Changed sources s os (change_events (code + 1) before after) ((front ++ (a ∷ [])) ++ after) → Changed sources s os (change_events (code + 1) before after) (front ++ (a ∷ after))
      joined s = λ h. subst (λ (held : List ℕ). Changed sources s os (change_events (code + 1) before after) held) (append_assoc front (a ∷ []) after) h

      parted : (xs : List Level) → Shows sources xs (front ++ (a ∷ before)) → Shows sources xs ((front ++ (a ∷ [])) ++ before)
      parted xs = λ h. subst (λ (held : List ℕ). Shows sources xs held) (sym (append_assoc front (a ∷ []) before)) h

      by : (x : Bool) → b == a ≡ x → ((s : Sampler) → Shows sources s.after.of ((front ++ (a ∷ [])) ++ before) → Changed sources s os (change_events (code + 1) before after) ((front ++ (a ∷ [])) ++ after)) →
          Changed sources s os (cond x [] (Change code (a ∷ []) ∷ []) ++ change_events (code + 1) before after) (front ++ (a ∷ after))
      by true is go = joined s (go s (parted s.after.of (subst (λ (n : ℕ). Shows sources s.after.of (front ++ (n ∷ before))) (eqb-true b a is) shows)))
      by false is go =
          let c = joined (changed sources code (a ∷ []) s) (go (changed sources code (a ∷ []) s) (parted (with_change sources code (a ∷ []) s.after.of) (one_shown sources s.after.of front b a code before apart e shows))) in
          record { xs = c.xs; goes = λ rest. c.goes rest; shows = c.shows }

  pub settings_go : (values old front : List ℕ) (code : ℕ) (s : Sampler) (os : List Observed) → code ≡ 33 + length front → length old ≡ length values → Shows sources s.after.of (front ++ old) →
      Changed sources s os (setting_events code values) (front ++ values)
  settings_go [] [] front code s os e same shows = record { xs = s.after.of; goes = λ rest. refl; shows = shows }
  settings_go [] (b ∷ old) front code s os e same shows = absurd (omega (arith, same))
  settings_go (a ∷ values) [] front code s os e same shows = absurd (omega (arith, same))
  settings_go (a ∷ values) (b ∷ old) front code s os e same shows =
      let s1 = changed sources code (a ∷ []) s in
      let shown = subst (λ (held : List ℕ). Shows sources (with_change sources code (a ∷ []) s.after.of) held) (sym (append_assoc front (a ∷ []) old)) (one_shown sources s.after.of front b a code old apart e shows) in
      let c = settings_go values old (front ++ (a ∷ [])) (code + 1) s1 os (one_longer front a code e) (omega (arith, same)) shown in
      record { xs = c.xs; goes = λ rest. c.goes rest; shows = subst (λ (held : List ℕ). Shows sources c.xs held) (append_assoc front (a ∷ []) values) c.shows }

none_changed : (before after : List ℕ) (code : ℕ) → length before ≡ length after → change_events code before after ≡ [] → before ≡ after
none_changed [] [] code same h = refl
none_changed [] (a ∷ after) code same h = absurd (omega (arith, same))
none_changed (b ∷ before) [] code same h = absurd (omega (arith, same))
none_changed (b ∷ before) (a ∷ after) code same h = by (b == a) refl h (none_changed before after (code + 1) (omega (arith, same)))
  where
    by : (x : Bool) → b == a ≡ x → cond x [] (Change code (a ∷ []) ∷ []) ++ change_events (code + 1) before after ≡ [] → (change_events (code + 1) before after ≡ [] → before ≡ after) → (b ∷ before) ≡ (a ∷ after)
    by true is none go = ap (λ (n : ℕ). n ∷ before) (eqb-true b a is) ∙ ap (λ (xs : List ℕ). a ∷ xs) (go none)
    by false is none go = absurd cc

-- ---- 3. a time

-- before the next time: what is seen up to now, and these levels are held
pub record Waits (sources : List Source) (targets : ℕ) (caches : Bool) (s : Sampler) (os : List Observed) (held : List ℕ) (items : List Stamped) : Type 0 where
  pub of_targets : s.targets ≡ targets
  pub of_caches : s.caches ≡ caches
  pub prompt : IsPrompt s
  pub shows : Shows sources s.after.of held
  pub settles : Settles s os items

-- it is a later one, or still the first
pub data MayCome (s : Sampler) (t : ℕ) : Type 0 where
  IsLater : s.time < t → MayCome s t
  IsFirst : s.time ≡ t → IsFresh s → MayCome s t

pub record Gone (sources : List Source) (targets : ℕ) (caches : Bool) (s : Sampler) (os : List Observed) (events : List Event) (held : List ℕ) (items : List Stamped) (t : ℕ) : Type 0 where
  pub to : Sampler
  pub now : List Observed
  pub goes : Goes sources s os events to now
  pub waits : Waits sources targets caches to now held items
  pub time : to.time ≤ t

-- what is seen where these levels become those
abbrev pub Sees : List Source → ℕ → (caches : Bool) → (held next : List ℕ) → (items more : List Stamped) → ℕ → Type 0
Sees sources targets caches held next items more t =
    (s : Sampler) (os : List Observed) → s.targets ≡ targets → s.caches ≡ caches → IsPrompt s → s.time ≡ t → Shows sources s.before.of held → Shows sources s.after.of next → seen_items os ≡ items → Settles s os more

module _ (sources : List Source) (apart : are_apart sources ≡ true) (targets : ℕ) (caches : Bool) (s : Sampler) (os : List Observed) (held next : List ℕ) (items : List Stamped) (t : ℕ)
    (waits : Waits sources targets caches s os held items) (same : length held ≡ length next) where
  time_goes : (more : List Stamped) → s.time < t → Sees sources targets caches held next items more t → Gone sources targets caches s os (Time t ∷ change_events 33 held next) next more t
  time_goes more after sees =
      let c = changes_go sources apart held next [] 33 (later s t) waits.settles.now refl same waits.shows in
      record {
        to = with_levels (later s t) c.xs;
        now = waits.settles.now;
        goes = λ rest. begins (all_ok (change_events 33 held next ++ rest)) ∙ c.goes rest;
        waits = record {
          of_targets = waits.of_targets;
          of_caches = waits.of_caches;
          prompt = waits.prompt;
          shows = c.shows;
          settles = sees (with_levels (later s t) c.xs) waits.settles.now waits.of_targets waits.of_caches waits.prompt refl waits.shows c.shows waits.settles.seen;
        };
        time = omega arith;
      }
    where
      other : t == s.time ≡ false
      other = by (t == s.time) refl
        where
          by : (b : Bool) → t == s.time ≡ b → t == s.time ≡ false
          by true e = let it = eqb-true t s.time e in absurd (omega (arith, it, after))
          by false e = e

      begins : (told : List Told) → capturing sources s os (Ok (Time t) ∷ told) ≡ capturing sources (later s t) waits.settles.now told
      begins told = rw other (rw waits.settles.is refl)

  first_goes : s.time ≡ t → IsFresh s → Gone sources targets caches s os (Time t ∷ change_events 33 held next) next items t
  first_goes at fresh =
      let c = changes_go sources apart held next [] 33 s os refl same waits.shows in
      record {
        to = with_levels s c.xs;
        now = os;
        goes = λ rest. begins (all_ok (change_events 33 held next ++ rest)) ∙ c.goes rest;
        waits = record {
          of_targets = waits.of_targets;
          of_caches = waits.of_caches;
          prompt = waits.prompt;
          shows = c.shows;
          settles = subst (λ (is : List Stamped). Settles (with_levels s c.xs) os is) seen (fresh_settles (with_levels s c.xs) os (record { before = fresh.before; we = fresh.we; re = fresh.re }) waits.prompt);
        };
        time = omega (arith, at);
      }
    where
      begins : (told : List Told) → capturing sources s os (Ok (Time t) ∷ told) ≡ capturing sources s os told
      begins told = rw (eq-eqb t s.time (sym at)) refl

      same_now : (x y : List Observed) → settled s os ≡ Ok x → settled s os ≡ Ok y → x ≡ y
      same_now x y h k = cc

      seen : seen_items os ≡ items
      seen =
          let f = fresh_settles s os fresh waits.prompt in
          sym f.seen ∙ ap seen_items (same_now f.now waits.settles.now f.is waits.settles.is) ∙ waits.settles.seen

  come_before : MayCome s t → s.time ≤ t
  come_before (IsLater after) = omega (arith, after)
  come_before (IsFirst at fresh) = omega (arith, at)

  -- a time at which nothing is seen
  pub still_goes : MayCome s t → Sees sources targets caches held next items items t → Gone sources targets caches s os (Time t ∷ change_events 33 held next) next items t
  still_goes (IsLater after) sees = time_goes items after sees
  still_goes (IsFirst at fresh) sees = first_goes at fresh

  pub still_frame : MayCome s t → Sees sources targets caches held next items items t → Gone sources targets caches s os (frame_events t held next) next items t
  still_frame may sees = by (change_events 33 held next) refl
    where
      by : (es : List Event) → change_events 33 held next ≡ es → Gone sources targets caches s os (events_at t es) next items t
      by [] is = record {
        to = s;
        now = os;
        goes = λ rest. refl;
        waits = record {
          of_targets = waits.of_targets;
          of_caches = waits.of_caches;
          prompt = waits.prompt;
          settles = waits.settles;
          shows = subst (λ (xs : List ℕ). Shows sources s.after.of xs) (none_changed held next 33 same is) waits.shows;
        };
        time = come_before may;
      }
      by (x ∷ es) is = subst (λ (es : List Event). Gone sources targets caches s os (Time t ∷ es) next items t) is (still_goes may sees)

  -- a time at which something is
  pub telling_frame : (more : List Stamped) → s.time < t → Sees sources targets caches held next items more t → (held ≡ next → ⊥) → Gone sources targets caches s os (frame_events t held next) next more t
  telling_frame more after sees differs = by (change_events 33 held next) refl
    where
      by : (es : List Event) → change_events 33 held next ≡ es → Gone sources targets caches s os (events_at t es) next more t
      by [] is = absurd (differs (none_changed held next 33 same is))
      by (x ∷ es) is = subst (λ (es : List Event). Gone sources targets caches s os (Time t ∷ es) next more t) is (time_goes more after sees)

pub then_goes : (sources : List Source) (targets : ℕ) (caches : Bool) (s : Sampler) (os : List Observed) (es fs : List Event) (held next : List ℕ) (items more : List Stamped) (t u : ℕ) (one : Gone sources targets caches s os es held items t) →
    Gone sources targets caches one.to one.now fs next more u → Gone sources targets caches s os (es ++ fs) next more u
then_goes sources targets caches s os es fs held next items more t u one two = record {
  to = two.to;
  now = two.now;
  goes = λ rest. ap (λ (xs : List Event). capturing sources s os (all_ok xs)) (append_assoc es fs rest) ∙ one.goes (fs ++ rest) ∙ two.goes rest;
  waits = two.waits;
  time = two.time;
}
