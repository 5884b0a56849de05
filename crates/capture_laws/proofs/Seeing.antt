-- What is seen at each time of a dump.
use Rattle.std.proofs.Common.{◌≡◌, ℕ, zero, suc, ◌+◌, ◌*◌, ◌/◌, ◌%◌, ◌<◌, ◌≤◌, ◌==◌, ◌&&◌, ◌||◌, Bool, true, false, cond, not, List, [], ◌∷◌, ◌++◌, Option, Some, None, Ok, refl, sym, ap, ◌∙◌, subst, arith}
use Rattle.std.specs.Prelude.{nat_lt}
use Rattle.std.proofs.lemmas.Bool.{eqb-true, eqb-false, eq-eqb, leb-true, le-leb, false≢true}
use Rattle.nand_geometry.specs.declared.parts.Parts.{Parts}
use Rattle.onfi_cycle.specs.declared.item.Cycle.{Cycle}
use Rattle.onfi_cycle.specs.declared.item.Kind.{Kind}
use Rattle.onfi_cycle.specs.declared.item.Kind.TheVariants.{Cmd, Adr, Din, Dout}
use Rattle.onfi_cycle.specs.declared.item.Failures.{Failures}
use Rattle.onfi_cycle.specs.declared.item.Item.{Item}
use Rattle.onfi_cycle.specs.declared.item.Item.TheVariants.{Cyc, Rdy, Ard}
use Rattle.bus_lines.specs.declared.lines.Lines.{Lines}
use Rattle.bus_lines.specs.Lines.{set_up, struck, released}
use Rattle.trace_wave.specs.Levels.{is_at, is_busy, has_busy_array, tells_failure}
use Rattle.trace_wave.specs.Wave.{is_ready}
use Rattle.vcd_text.specs.declared.tokens.Level.{Level}
use Rattle.vcd_text.specs.declared.tokens.Level.TheVariants.{High}
use Rattle.vcd_text.specs.Tokens.{◌>>=◌}
use Rattle.bus_signals.specs.declared.role.Role.TheVariants.{Enable, Busy, ArrayBusy, Failed}
use Rattle.bus_capture.specs.declared.sampling.Seen.TheVariants.{Nothing, Sampled}
use Rattle.bus_capture.specs.declared.sampling.Strobe.{Strobe}
use Rattle.bus_capture.specs.declared.sampling.Strobe.TheVariants.{Write, Read}
use Rattle.bus_capture.specs.declared.sampler.Observation.TheVariants as observation
use Rattle.bus_capture.specs.declared.sampler.Observed.{Observed}
use Rattle.bus_capture.specs.declared.sampler.Sampler.{Sampler}
use Rattle.bus_capture.specs.declared.inferring.Stamped.{Stamped}
use Rattle.bus_capture.specs.Sampling.{level, enabled_from, with_enable, cycle_of, kind_of, written_kind, read_kind, byte_of, other_line, rises, falls, is_low, is_high, strobe_rises, ready_of}
use Rattle.bus_capture.specs.Capturing.{with_readies}
use Rattle.wave_laws.specs.Readies.{is_ready_of, is_array_ready_of}
use Rattle.capture_laws.proofs.Standing.{lv, Stands}
use Rattle.capture_laws.proofs.Moving.{Names, Moves}
use Rattle.capture_laws.specs.Drawn.{told_of}
use Rattle.capture_laws.proofs.Settling.{IsPrompt, seen_items, seen_at, seen_both, none_ready, one_ready, strobe_is, rising_strobe, rises_lv, strobe_quiet, Settles, settles}

-- ---- 1. what is seen of a LUN

falls_lv : (was is : Bool) → falls (lv was) (lv is) ≡ was && not is
falls_lv true true = refl
falls_lv true false = refl
falls_lv false is = refl

low_lv : (b : Bool) → is_low (lv b) ≡ not b
low_lv true = refl
low_lv false = refl

high_lv : (b : Bool) → is_high (lv b) ≡ b
high_lv true = refl
high_lv false = refl

-- of a LUN, or its array, that was busy, and is it; with failure
abbrev ready_by : (caches busy busy' array array' failed rising : Bool) → (ce lun : ℕ) → Option Item
ready_by caches busy busy' array array' failed rising ce lun =
    cond (busy && not busy') (Some (Rdy ce lun (record { last = failed; before = false }))) (cond ((caches || not busy) && ((array && not array') && not rising)) (Some (Ard ce lun failed)) None)

abbrev rising_from : Lines → Lines → Bool
rising_from l m = (not l.we && m.we) || (not l.re && m.re)

module _ (caches : Bool) (g : Parts) (targets : ℕ) (before after : List Level) (past past' : List Item) (l m : Lines) (b : Stands g targets before past l) (a : Stands g targets after past' m) where
  rising_is : strobe_rises before after ≡ rising_from l m
  rising_is = rw (b.we, a.we, b.re, a.re, rises_lv l.we m.we, rises_lv l.re m.re) refl

  ready_there : (n : ℕ) → n < 4 * targets → nat_lt (n % 4) g.luns ≡ true → ready_of caches before after (n / 4) (n % 4)
      ≡ ready_by caches (is_busy g past (n / 4) (n % 4)) (is_busy g past' (n / 4) (n % 4)) (has_busy_array g past (n / 4) (n % 4)) (has_busy_array g past' (n / 4) (n % 4)) (tells_failure past' (n / 4) (n % 4)) (rising_from l m) (n / 4) (n % 4)
  ready_there n few there = by
      (level before (Busy (n / 4) (n % 4))) (level after (Busy (n / 4) (n % 4))) (level before (ArrayBusy (n / 4) (n % 4))) (level after (ArrayBusy (n / 4) (n % 4))) (level after (Failed (n / 4) (n % 4))) (strobe_rises before after)
      (is_busy g past (n / 4) (n % 4)) (is_busy g past' (n / 4) (n % 4)) (has_busy_array g past (n / 4) (n % 4)) (has_busy_array g past' (n / 4) (n % 4)) (tells_failure past' (n / 4) (n % 4)) (rising_from l m)
      (b.busy n few there) (a.busy n few there) (b.array n few there) (a.array n few there) (a.failed n few there) rising_is
    where
      by : (x x' y y' f : Level) (r : Bool) (u u' v v' w q : Bool) → x ≡ lv u → x' ≡ lv u' → y ≡ lv v → y' ≡ lv v' → f ≡ lv w → r ≡ q →
          cond (falls x x') (Some (Rdy (n / 4) (n % 4) (record { last = is_high f; before = false }))) (cond ((caches || is_low x) && (falls y y' && not r)) (Some (Ard (n / 4) (n % 4) (is_high f))) None) ≡ ready_by caches u u' v v' w q (n / 4) (n % 4)
      by x x' y y' f r u u' v v' w q e1 e2 e3 e4 e5 e6 = rw (e1, e2, e3, e4, e5, e6, falls_lv u u', high_lv w, low_lv u, falls_lv v v') refl

  ready_absent : (n : ℕ) → n < 4 * targets → nat_lt (n % 4) g.luns ≡ false → ready_of caches before after (n / 4) (n % 4) ≡ None
  ready_absent n few none = by caches
    where
      by : (c : Bool) → ready_of c before after (n / 4) (n % 4) ≡ None
      by true = rw (b.absent n few none, b.no_array n few none) refl
      by false = rw (b.absent n few none) refl

  -- a LUN is there or not
  ready_if : (n : ℕ) → n < 4 * targets → (o : Option Item) →
      (nat_lt (n % 4) g.luns ≡ true → ready_by caches (is_busy g past (n / 4) (n % 4)) (is_busy g past' (n / 4) (n % 4)) (has_busy_array g past (n / 4) (n % 4)) (has_busy_array g past' (n / 4) (n % 4)) (tells_failure past' (n / 4) (n % 4)) (rising_from l m) (n / 4) (n % 4) ≡ o) →
      (nat_lt (n % 4) g.luns ≡ false → None ≡ o) → ready_of caches before after (n / 4) (n % 4) ≡ o
  ready_if n few o h k = by (nat_lt (n % 4) g.luns) refl
    where
      by : (x : Bool) → nat_lt (n % 4) g.luns ≡ x → ready_of caches before after (n / 4) (n % 4) ≡ o
      by true is = ready_there n few is ∙ h is
      by false is = ready_absent n few is ∙ k is

-- ---- 2. nothing

still_by : (c x y f r : Bool) (ce lun : ℕ) → ready_by c x x y y f r ce lun ≡ None
still_by true true true f r ce lun = refl
still_by true true false f r ce lun = refl
still_by true false true f r ce lun = refl
still_by true false false f r ce lun = refl
still_by false true y f r ce lun = refl
still_by false false true f r ce lun = refl
still_by false false false f r ce lun = refl

-- the model's lines stay, and no strobe rises
pub still_settles : (g : Parts) (s : Sampler) (os : List Observed) (past : List Item) (l m : Lines) → IsPrompt s → Stands g s.targets s.before.of past l → Stands g s.targets s.after.of past m →
    (not l.we && m.we) ≡ false → (not l.re && m.re) ≡ false → Settles s os (seen_items os)
still_settles g s os past l m prompt b a we re =
    settles s os prompt Nothing Nothing (seen_items os)
    (strobe_is s Write s.we prompt ∙ strobe_quiet s.targets Write s.we.driven l.we m.we s.before.of s.after.of b.we a.we we)
    (strobe_is s Read s.re prompt ∙ strobe_quiet s.targets Read s.re.driven l.re m.re s.before.of s.after.of b.re a.re re)
    (ap seen_items (none_ready s.caches s.time s.before.of s.after.of os (4 * s.targets) 0
    (λ n from to. ready_if s.caches g s.targets s.before.of s.after.of past past l m b a n (omega (arith, to)) None
    (λ there. still_by s.caches (is_busy g past (n / 4) (n % 4)) (has_busy_array g past (n / 4) (n % 4)) (tells_failure past (n / 4) (n % 4)) (rising_from l m) (n / 4) (n % 4)) (λ none. refl))))

-- ---- 3. a cycle

module _ (g : Parts) (targets : ℕ) (xs : List Level) (past : List Item) (l : Lines) (ce : ℕ) (h : Stands g targets xs past l) (is : l.enabled ≡ Some ce) where
  enable_is : (n : ℕ) (b : Bool) → n < targets → ce == n ≡ b → level xs (Enable n) ≡ lv (not b)
  enable_is n b few e = h.enable n few ∙ ap (λ (o : Option ℕ). lv (not (is_at o n))) is ∙ ap (λ (x : Bool). lv (not x)) e

  enabled_behind : (count n : ℕ) → ce < n → n + count ≤ targets → enabled_from xs count n (Some ce) ≡ Ok (Some ce)
  enabled_behind zero n past' few = refl
  enabled_behind (suc count) n past' few =
      ap (λ (x : Level). with_enable x n (Some ce) >>= λ now. enabled_from xs count (n + 1) now) (enable_is n false (omega (arith, few)) (other n past'))
      ∙ enabled_behind count (n + 1) (omega (arith, past')) (omega (arith, few))
    where
      other : (n : ℕ) → ce < n → ce == n ≡ false
      other n lower = by (ce == n) refl
        where
          by : (b : Bool) → ce == n ≡ b → ce == n ≡ false
          by true e = let same = eqb-true ce n e in absurd (omega (arith, same, lower))
          by false e = e

  enabled_is : (count n : ℕ) → n ≤ ce → ce < n + count → n + count ≤ targets → enabled_from xs count n None ≡ Ok (Some ce)
  enabled_is zero n from to few = absurd (omega (arith, from, to))
  enabled_is (suc count) n from to few = by (ce == n) refl (enabled_is count (n + 1))
    where
      by : (b : Bool) → ce == n ≡ b → (n + 1 ≤ ce → ce < n + 1 + count → n + 1 + count ≤ targets → enabled_from xs count (n + 1) None ≡ Ok (Some ce)) → enabled_from xs (suc count) n None ≡ Ok (Some ce)
      by true e go =
          let same = eqb-true ce n e in
          ap (λ (x : Level). with_enable x n None >>= λ now. enabled_from xs count (n + 1) now) (enable_is n true (omega (arith, few)) e)
          ∙ ap (λ (k : ℕ). enabled_from xs count (n + 1) (Some k)) (sym same)
          ∙ enabled_behind count (n + 1) (omega (arith, same)) (omega (arith, few))
      by false e go =
          let differs = eqb-false ce n e in
          ap (λ (x : Level). with_enable x n None >>= λ now. enabled_from xs count (n + 1) now) (enable_is n false (omega (arith, few)) e)
          ∙ go (omega (arith, from, differs)) (omega (arith, to)) (omega (arith, few))

cycle_is : (strobe : Strobe) (ce byte : ℕ) (kind : Kind) (xs : List Level) → level xs (other_line strobe) ≡ High → kind_of strobe xs ≡ Ok kind → byte_of xs ≡ Ok byte →
    cycle_of strobe ce xs ≡ Ok (Sampled (record { ce = ce; kind = kind; byte = byte }))
cycle_is strobe ce byte kind xs h k e = rw h (rw k (rw e refl))

-- no array is done where a strobe rises
no_end : (y y' f r : Bool) (ce lun : ℕ) → r ≡ true → cond ((y && not y') && not r) (Some (Ard ce lun f)) None ≡ None
no_end true true f r ce lun h = refl
no_end true false f r ce lun h = rw h refl
no_end false y' f r ce lun h = refl

-- nor does a LUN become ready
kept_by : (c x x' y y' f r : Bool) (ce lun : ℕ) → r ≡ true → (x ≡ true → x' ≡ true) → ready_by c x x' y y' f r ce lun ≡ None
kept_by c true false y y' f r ce lun h k = absurd (false≢true (k refl))
kept_by true true true y y' f r ce lun h k = no_end y y' f r ce lun h
kept_by false true true y y' f r ce lun h k = refl
kept_by true false x' y y' f r ce lun h k = no_end y y' f r ce lun h
kept_by false false x' y y' f r ce lun h k = no_end y y' f r ce lun h

module _ (g : Parts) (s : Sampler) (os : List Observed) (past : List Item) (l m : Lines) (c : Cycle) (moves : Moves g s.targets past (Cyc c)) (prompt : IsPrompt s) (there : c.ce < s.targets) (small : c.byte < 256)
    (b : Stands g s.targets s.before.of past l) (a : Stands g s.targets s.after.of (Cyc c ∷ past) m) where
  no_ready : rising_from l m ≡ true → (xs : List Observed) → with_readies s.caches s.time s.before.of s.after.of xs (4 * s.targets) 0 ≡ xs
  no_ready rises xs = none_ready s.caches s.time s.before.of s.after.of xs (4 * s.targets) 0
      (λ n from to. ready_if s.caches g s.targets s.before.of s.after.of past (Cyc c ∷ past) l m b a n (omega (arith, to)) None
      (λ there. kept_by s.caches (is_busy g past (n / 4) (n % 4)) (is_busy g (Cyc c ∷ past) (n / 4) (n % 4)) (has_busy_array g past (n / 4) (n % 4)) (has_busy_array g (Cyc c ∷ past) (n / 4) (n % 4)) (tells_failure (Cyc c ∷ past) (n / 4) (n % 4))
      (rising_from l m) (n / 4) (n % 4) rises (moves.busy (n / 4) (n % 4) (omega (arith, to)) (leb-true (suc (n % 4)) g.luns there)))
      (λ none. refl))

  abbrev with_cycle : List Stamped
  with_cycle = seen_items os ++ (record { time = s.time; item = Cyc c } ∷ [])

  cycle_seen : rising_from l m ≡ true → seen_items (with_readies s.caches s.time s.before.of s.after.of (seen_at s.time (Cyc c) os) (4 * s.targets) 0) ≡ with_cycle
  cycle_seen rises = ap seen_items (no_ready rises (seen_at s.time (Cyc c) os)) ∙ seen_both os (record { time = s.time; observation = observation.Item (Cyc c) } ∷ [])

  chip : l.enabled ≡ Some c.ce → enabled_from s.before.of s.targets 0 None ≡ Ok (Some c.ce)
  chip is = enabled_is g s.targets s.before.of past l c.ce b is s.targets 0 (omega arith) (omega (arith, there)) (omega arith)

  pub written_settles : l.enabled ≡ Some c.ce → l.dq ≡ Some c.byte → l.we ≡ false → l.re ≡ true → m.we ≡ true → m.re ≡ true → written_kind (lv l.cle) (lv l.ale) ≡ Ok c.kind → Settles s os with_cycle
  written_settles enabled dq we re we' re' kind = settles s os prompt (Sampled c) Nothing with_cycle
      (strobe_is s Write s.we prompt ∙ rising_strobe s.targets Write s.we.driven s.before.of s.after.of c.ce (Ok (Sampled c)) (rw (b.we, a.we, we, we') refl) (chip enabled)
      (cycle_is Write c.ce c.byte c.kind s.before.of (b.re ∙ ap lv re) (rw (b.cle, b.ale) kind) (b.byte c.byte dq small)))
      (strobe_is s Read s.re prompt ∙ strobe_quiet s.targets Read s.re.driven l.re m.re s.before.of s.after.of b.re a.re (rw re refl))
      (cycle_seen (rw (we, we') refl))

  pub read_settles : l.enabled ≡ Some c.ce → l.dq ≡ Some c.byte → l.we ≡ true → l.re ≡ false → m.we ≡ true → m.re ≡ true → read_kind (lv l.cle) (lv l.ale) ≡ Ok c.kind → Settles s os with_cycle
  read_settles enabled dq we re we' re' kind = settles s os prompt Nothing (Sampled c) with_cycle
      (strobe_is s Write s.we prompt ∙ strobe_quiet s.targets Write s.we.driven l.we m.we s.before.of s.after.of b.we a.we (rw we refl))
      (strobe_is s Read s.re prompt ∙ rising_strobe s.targets Read s.re.driven s.before.of s.after.of c.ce (Ok (Sampled c)) (rw (b.re, a.re, re, re') refl) (chip enabled)
      (cycle_is Read c.ce c.byte c.kind s.before.of (b.we ∙ ap lv we) (rw (b.cle, b.ale) kind) (b.byte c.byte dq small)))
      (cycle_seen (rw (we, re, re') refl))

abbrev pub of_kind : Cycle → Kind → Cycle
of_kind c kind = record { ce = c.ce; kind = kind; byte = c.byte }

-- a cycle is seen where its strobe rises
pub cycle_settles : (g : Parts) (s : Sampler) (os : List Observed) (past : List Item) (l : Lines) (c : Cycle) → Moves g s.targets past (Cyc c) → IsPrompt s → c.ce < s.targets → c.byte < 256 → l.we ≡ true → l.re ≡ true →
    Stands g s.targets s.before.of past (struck (set_up l c) c) → Stands g s.targets s.after.of (Cyc c ∷ past) (released (struck (set_up l c) c)) → Settles s os (seen_items os ++ (record { time = s.time; item = Cyc c } ∷ []))
cycle_settles g s os past l c moves prompt there small we re b a = by c.kind moves b a
  where
    by : (kind : Kind) → Moves g s.targets past (Cyc (of_kind c kind)) → Stands g s.targets s.before.of past (struck (set_up l (of_kind c kind)) (of_kind c kind)) →
        Stands g s.targets s.after.of (Cyc (of_kind c kind) ∷ past) (released (struck (set_up l (of_kind c kind)) (of_kind c kind))) → Settles s os (seen_items os ++ (record { time = s.time; item = Cyc (of_kind c kind) } ∷ []))
    by Cmd moves b a = written_settles g s os past (struck (set_up l (of_kind c Cmd)) (of_kind c Cmd)) (released (struck (set_up l (of_kind c Cmd)) (of_kind c Cmd))) (of_kind c Cmd) moves prompt there small b a refl refl refl re refl refl refl
    by Adr moves b a = written_settles g s os past (struck (set_up l (of_kind c Adr)) (of_kind c Adr)) (released (struck (set_up l (of_kind c Adr)) (of_kind c Adr))) (of_kind c Adr) moves prompt there small b a refl refl refl re refl refl refl
    by Din moves b a = written_settles g s os past (struck (set_up l (of_kind c Din)) (of_kind c Din)) (released (struck (set_up l (of_kind c Din)) (of_kind c Din))) (of_kind c Din) moves prompt there small b a refl refl refl re refl refl refl
    by Dout moves b a = read_settles g s os past (struck (set_up l (of_kind c Dout)) (of_kind c Dout)) (released (struck (set_up l (of_kind c Dout)) (of_kind c Dout))) (of_kind c Dout) moves prompt there small b a refl refl we refl refl refl refl

-- ---- 4. a ready

array_same : (y y' f r : Bool) (ce lun : ℕ) → (y ≡ true → y' ≡ true) → cond ((y && not y') && not r) (Some (Ard ce lun f)) None ≡ None
array_same true true f r ce lun k = refl
array_same true false f r ce lun k = absurd (false≢true (k refl))
array_same false y' f r ce lun k = refl

same_by : (c x x' y y' f r : Bool) (ce lun : ℕ) → (x ≡ true → x' ≡ true) → (y ≡ true → y' ≡ true) → ready_by c x x' y y' f r ce lun ≡ None
same_by c true false y y' f r ce lun h k = absurd (false≢true (h refl))
same_by true true true y y' f r ce lun h k = array_same y y' f r ce lun k
same_by false true true y y' f r ce lun h k = refl
same_by true false x' y y' f r ce lun h k = array_same y y' f r ce lun k
same_by false false x' y y' f r ce lun h k = array_same y y' f r ce lun k

ready_here : (c x x' y y' f r : Bool) (ce lun : ℕ) (fail : Bool) → x ≡ true → x' ≡ false → f ≡ fail → ready_by c x x' y y' f r ce lun ≡ Some (Rdy ce lun (record { last = fail; before = false }))
ready_here c x x' y y' f r ce lun fail h k e = rw (h, k, e) refl

array_here : (c x x' y y' f r : Bool) (ce lun : ℕ) (fail : Bool) → (x ≡ true → x' ≡ true) → (c || not x) ≡ true → y ≡ true → y' ≡ false → r ≡ false → f ≡ fail → ready_by c x x' y y' f r ce lun ≡ Some (Ard ce lun fail)
array_here c true false y y' f r ce lun fail stays h k e i same = absurd (false≢true (stays refl))
array_here c true true y y' f r ce lun fail stays h k e i same = rw (h, k, e, i, same) refl
array_here c false x' y y' f r ce lun fail stays h k e i same = rw (h, k, e, i, same) refl

not_and : (b : Bool) → (not b && b) ≡ false
not_and true = refl
not_and false = refl

stays : (l : Lines) → rising_from l l ≡ false
stays l = rw (not_and l.we, not_and l.re) refl

-- another LUN
others : (ce lun n : ℕ) → (n ≡ 4 * ce + lun → ⊥) → (ce == n / 4 && lun == n % 4) ≡ false
others ce lun n h = by (ce == n / 4) (lun == n % 4) refl refl
  where
    by : (a b : Bool) → ce == n / 4 ≡ a → lun == n % 4 ≡ b → (a && b) ≡ false
    by true true e k =
        let same = eqb-true ce (n / 4) e in
        let also = eqb-true lun (n % 4) k in
        absurd (h (omega (arith, same, also)))
    by true false e k = refl
    by false b e k = refl

pub itself : (ce lun : ℕ) → (ce == ce && lun == lun) ≡ true
itself ce lun = rw (eq-eqb ce ce refl, eq-eqb lun lun refl) refl

module _ (g : Parts) (s : Sampler) (os : List Observed) (past : List Item) (l : Lines) (i : Item) (moves : Moves g s.targets past i) (prompt : IsPrompt s) (four : g.luns ≤ 4)
    (b : Stands g s.targets s.before.of past l) (a : Stands g s.targets s.after.of (i ∷ past) l) (ready : is_ready i ≡ true) where
  ready_settles : (ce lun : ℕ) → ce < s.targets → lun < g.luns → ready_of s.caches s.before.of s.after.of ((4 * ce + lun) / 4) ((4 * ce + lun) % 4) ≡ Some (told_of i) →
      ((n : ℕ) → (n ≡ 4 * ce + lun → ⊥) → is_ready_of i (n / 4) (n % 4) ≡ false) → ((n : ℕ) → (n ≡ 4 * ce + lun → ⊥) → is_array_ready_of i (n / 4) (n % 4) ≡ false) →
      Settles s os (seen_items os ++ (record { time = s.time; item = told_of i } ∷ []))
  ready_settles ce lun h k is none no_array = settles s os prompt Nothing Nothing (seen_items os ++ (record { time = s.time; item = told_of i } ∷ []))
      (strobe_is s Write s.we prompt ∙ strobe_quiet s.targets Write s.we.driven l.we l.we s.before.of s.after.of b.we a.we (not_and l.we))
      (strobe_is s Read s.re prompt ∙ strobe_quiet s.targets Read s.re.driven l.re l.re s.before.of s.after.of b.re a.re (not_and l.re))
      (ap seen_items (one_ready s.caches s.time s.before.of s.after.of os (4 * s.targets) 0 (4 * ce + lun) (told_of i) (omega arith) (omega (arith, h, k, four)) is
      (λ n ne from to. ready_if s.caches g s.targets s.before.of s.after.of past (i ∷ past) l l b a n (omega (arith, to)) None
      (λ there. same_by s.caches (is_busy g past (n / 4) (n % 4)) (is_busy g (i ∷ past) (n / 4) (n % 4)) (has_busy_array g past (n / 4) (n % 4)) (has_busy_array g (i ∷ past) (n / 4) (n % 4)) (tells_failure (i ∷ past) (n / 4) (n % 4))
      (rising_from l l) (n / 4) (n % 4)
      (λ is. moves.busy (n / 4) (n % 4) (omega (arith, to)) (leb-true (suc (n % 4)) g.luns there) is ∙ ap not (none n ne))
      (λ is. moves.array (n / 4) (n % 4) (omega (arith, to)) (leb-true (suc (n % 4)) g.luns there) ready is ∙ ap not (no_array n ne)))
      (λ none. refl)))
      ∙ seen_both os (record { time = s.time; observation = observation.Item (told_of i) } ∷ []))

  ready_from : (ce lun : ℕ) → ce < s.targets → lun < g.luns →
      ready_by s.caches (is_busy g past ce lun) (is_busy g (i ∷ past) ce lun) (has_busy_array g past ce lun) (has_busy_array g (i ∷ past) ce lun) (tells_failure (i ∷ past) ce lun) (rising_from l l) ce lun ≡ Some (told_of i) →
      ready_of s.caches s.before.of s.after.of ((4 * ce + lun) / 4) ((4 * ce + lun) % 4) ≡ Some (told_of i)
  ready_from ce lun h k is =
      let target : (4 * ce + lun) / 4 ≡ ce = omega (arith, k, four) in
      let which : (4 * ce + lun) % 4 ≡ lun = omega (arith, k, four) in
      ready_if s.caches g s.targets s.before.of s.after.of past (i ∷ past) l l b a (4 * ce + lun) (omega (arith, h, k, four)) (Some (told_of i))
      (λ there. subst (λ (n : ℕ). ready_by s.caches (is_busy g past n ((4 * ce + lun) % 4)) (is_busy g (i ∷ past) n ((4 * ce + lun) % 4)) (has_busy_array g past n ((4 * ce + lun) % 4)) (has_busy_array g (i ∷ past) n ((4 * ce + lun) % 4)) (tells_failure (i ∷ past) n ((4 * ce + lun) % 4)) (rising_from l l) n ((4 * ce + lun) % 4) ≡ Some (told_of i)) (sym target)
      (subst (λ (n : ℕ). ready_by s.caches (is_busy g past ce n) (is_busy g (i ∷ past) ce n) (has_busy_array g past ce n) (has_busy_array g (i ∷ past) ce n) (tells_failure (i ∷ past) ce n) (rising_from l l) ce n ≡ Some (told_of i)) (sym which) is))
      (λ none. absurd (false≢true (sym none ∙ ap (λ (n : ℕ). nat_lt n g.luns) which ∙ le-leb (suc lun) g.luns k)))

told_there : (ce lun : ℕ) (fail : Bool) → (ce == ce && lun == lun && fail) ≡ fail
told_there ce lun fail =
    ap (λ (b : Bool). (b && (lun == lun)) && fail) (eq-eqb ce ce refl)
    ∙ ap (λ (b : Bool). b && fail) (eq-eqb lun lun refl)

-- a ready is seen where it is told
pub busy_settles : (g : Parts) (s : Sampler) (os : List Observed) (past : List Item) (l : Lines) (ce lun : ℕ) (fail : Failures) → Moves g s.targets past (Rdy ce lun fail) → IsPrompt s → g.luns ≤ 4 → Names g s.targets past true ce lun →
    Stands g s.targets s.before.of past l → Stands g s.targets s.after.of (Rdy ce lun fail ∷ past) l → Settles s os (seen_items os ++ (record { time = s.time; item = told_of (Rdy ce lun fail) } ∷ []))
busy_settles g s os past l ce lun fail moves prompt four named b a =
    ready_settles g s os past l (Rdy ce lun fail) moves prompt four b a refl ce lun named.target named.within
    (ready_from g s os past l (Rdy ce lun fail) moves prompt four b a refl ce lun named.target named.within
    (ready_here s.caches (is_busy g past ce lun) (is_busy g (Rdy ce lun fail ∷ past) ce lun) (has_busy_array g past ce lun) (has_busy_array g (Rdy ce lun fail ∷ past) ce lun) (tells_failure (Rdy ce lun fail ∷ past) ce lun) (rising_from l l) ce lun fail.last
    named.works (moves.busy ce lun named.target named.within named.works ∙ ap not (itself ce lun)) (told_there ce lun fail.last)))
    (others ce lun) (λ n ne. refl)

-- and that of an array
pub array_settles : (g : Parts) (s : Sampler) (os : List Observed) (past : List Item) (l : Lines) (ce lun : ℕ) (fail : Bool) → Moves g s.targets past (Ard ce lun fail) → IsPrompt s → g.luns ≤ 4 → Names g s.targets past false ce lun → (s.caches || not (is_busy g past ce lun)) ≡ true →
    Stands g s.targets s.before.of past l → Stands g s.targets s.after.of (Ard ce lun fail ∷ past) l → Settles s os (seen_items os ++ (record { time = s.time; item = Ard ce lun fail } ∷ []))
array_settles g s os past l ce lun fail moves prompt four named alone b a =
    ready_settles g s os past l (Ard ce lun fail) moves prompt four b a refl ce lun named.target named.within
    (ready_from g s os past l (Ard ce lun fail) moves prompt four b a refl ce lun named.target named.within
    (array_here s.caches (is_busy g past ce lun) (is_busy g (Ard ce lun fail ∷ past) ce lun) (has_busy_array g past ce lun) (has_busy_array g (Ard ce lun fail ∷ past) ce lun) (tells_failure (Ard ce lun fail ∷ past) ce lun) (rising_from l l) ce lun fail
    (λ is. moves.busy ce lun named.target named.within is) alone named.works (moves.array ce lun named.target named.within refl named.works ∙ ap not (itself ce lun)) (stays l) (told_there ce lun fail)))
    (λ n ne. refl) (others ce lun)
