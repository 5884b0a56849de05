-- A target as it is, and as it is seen: what a permitted ready of it leaves of both.
use Rattle.std.proofs.Common.{◌≡◌, ◌⊎◌, inl, inr, ℕ, zero, suc, ◌+◌, ◌<◌, ◌≤◌, ◌==◌, Bool, true, false, cond, not, ◌&&◌, ◌||◌, List, [], ◌∷◌, length, Option, Some, None, refl, sym, ap, ◌∙◌, subst, slice_get, eqb-true, arith}
use Rattle.std.proofs.lemmas.Bool.{and_parts, not-true, false_from_ne_true}
use Rattle.nand_geometry.specs.declared.parts.Parts.{Parts}
use Rattle.nand_geometry.specs.Optional.{has_plane_reads}
use Rattle.onfi_cycle.specs.declared.effect.Effect.{Effect}
use Rattle.onfi_cycle.specs.declared.effect.Effect.TheVariants.{Unaffected, BecameReady, ArrayBecameReady}
use Rattle.onfi_cycle.specs.declared.item.Failures.{Failures}
use Rattle.onfi_cycle.specs.declared.item.Item.{Item}
use Rattle.onfi_cycle.specs.declared.item.Item.TheVariants.{Rdy, Ard}
use Rattle.onfi_cycle.specs.declared.tail_facts.TailFacts.{TailFacts}
use Rattle.onfi_cycle.specs.Bounds.{is_read}
use Rattle.onfi_cycle.specs.Command.{is_change_read_column, is_enhanced_column}
use Rattle.onfi_cycle.specs.Effect.{is_off}
use Rattle.onfi_cycle.specs.Look.{look_at, look_at_some}
use Rattle.onfi_cycle.specs.Lun.{is_cache_read, view_after, pages_of_reads}
use Rattle.onfi_cycle.specs.LunView.{LunView}
use Rattle.onfi_cycle.specs.Rules.{is_some_and, lun_is}
use Rattle.onfi_cycle.specs.Sequence.{opened, row}
use Rattle.onfi_cycle.specs.State.{TargetView, effect_alone, luns_after, has_driver, target_after}
use Rattle.onfi_cycle.proofs.Booleans.{eqb_self}
use Rattle.trace_faults.specs.declared.known.Known.{Known}
use Rattle.trace_faults.specs.declared.lun_known.LunKnown.{LunKnown}
use Rattle.trace_faults.specs.declared.lun_known.LunKnown.TheVariants.{Nothing, Queue, Work, All}
use Rattle.trace_faults.specs.Middle.{knows, nothing_known, is_reset, is_page, has_begun, learned_by, learned_lun}
use Rattle.recording_laws.proofs.Luns.{IsBegun, Fits, Asks, IsHarmless, IsBlank, NoCacheProgram, unseen_after}
use Rattle.recording_laws.proofs.Lists.{Each, SameOff, driver_up}
use Rattle.recording_laws.proofs.Changed.{changed, changed_found, changed_length, luns_are_changed, same_changed, AtEach, at_each, AllFit, GoEach, all_fit_on, IsLearned, learns_each}
use Rattle.recording_laws.proofs.Cycles.{go_same}
use Rattle.recording_laws.proofs.Unseen.{is_quiet, is_named, is_plane, NoneQueued, AllNamed, AreBlank, MayCome, blank, quiet, named, selecting}
use Rattle.recording_laws.proofs.Granted.{is_sound}
use Rattle.recording_laws.proofs.Targets.{IsOpened, FitsTarget}
use Rattle.recording_laws.proofs.Twins.{GoesOn}

-- ---- 1. the two readies

-- of a ready: its LUN, what it does to that, and what that has to be
pub record IsReady (i : Item) (lun : ℕ) (x : Effect) (works : LunView → Bool) : Type 0 where
  pub effect : (g : Parts) (u : TailFacts) (sole : Bool) (n : ℕ) (v : LunView) → effect_alone g u sole i n v ≡ cond (lun == n) x Unaffected
  pub tail : (g : Parts) (s : TargetView) → (target_after g i s).tail ≡ s.tail
  pub no_reset : is_reset i ≡ true → ⊥
  pub latch : (v : LunView) → (view_after x v).latch ≡ v.latch
  pub queue : (v : LunView) → (view_after x v).queue ≡ v.queue
  pub busy : (v : LunView) → (view_after x v).busy ≡ true → v.busy ≡ true
  pub asks : (p : Bool) (t s : LunView) → Asks p x t s
  pub harmless : (s : LunView) → works s ≡ false → IsHarmless x s
  pub begun : (t s : LunView) → IsBegun t s → works t ≡ works s
  pub blank : (s : LunView) → IsBlank s → works s ≡ false
  pub goes : (s : LunView) → GoesOn x s
  pub never : NoCacheProgram x

pub ready_is : (ce lun : ℕ) (fail : Failures) → IsReady (Rdy ce lun fail) lun (BecameReady fail) (λ v. v.busy)
ready_is ce lun fail =
    record {
      effect = λ g u sole n v. rw (eqb_self ce) refl;
      tail = λ g s. refl;
      no_reset = λ h. cc;
      latch = λ v. refl;
      queue = λ v. refl;
      busy = λ v h. cc;
      asks = λ p t s. tt;
      never = tt;
      harmless = λ s h. h;
      begun = λ t s b. b.busy;
      blank = λ s b. b.busy;
      goes = λ s. tt;
    }

pub array_ready_is : (ce lun : ℕ) (fail : Bool) → IsReady (Ard ce lun fail) lun (ArrayBecameReady fail) (λ v. v.array_busy)
array_ready_is ce lun fail =
    record {
      effect = λ g u sole n v. rw (eqb_self ce) refl;
      tail = λ g s. refl;
      no_reset = λ h. cc;
      latch = λ v. refl;
      queue = λ v. refl;
      busy = λ v h. h;
      asks = λ p t s. tt;
      never = tt;
      harmless = λ s h. tt;
      begun = λ t s b. b.array_busy;
      blank = λ s b. b.array_busy;
      goes = λ s. tt;
    }

module _ (i : Item) (lun : ℕ) (x : Effect) (works : LunView → Bool) (is : IsReady i lun x works) where
  abbrev pub by_ready : ℕ → LunView → Effect
  by_ready n v = cond (lun == n) x Unaffected

  pub luns_ready : (g : Parts) (u : TailFacts) (sole : Bool) (vs : List LunView) → luns_after g u sole i 0 vs ≡ changed by_ready 0 vs
  luns_ready g u sole vs = luns_are_changed g u sole i 0 vs ∙ same_changed (effect_alone g u sole i) by_ready (is.effect g u sole) 0 vs

  -- ---- 2. what stays

  same_latch : (b : Bool) (v : LunView) → (view_after (cond b x Unaffected) v).latch ≡ v.latch
  same_latch true v = is.latch v
  same_latch false v = refl

  same_queue : (b : Bool) (v : LunView) → (view_after (cond b x Unaffected) v).queue ≡ v.queue
  same_queue true v = is.queue v
  same_queue false v = refl

  still_off : (n : ℕ) (vs : List LunView) → Each SameOff vs (changed by_ready n vs)
  still_off n [] = tt
  still_off n (v ∷ vs) = (ap is_off (sym (same_latch (lun == n) v)), still_off (n + 1) vs)

  still_drives : (vs : List LunView) → has_driver vs ≡ true → has_driver (changed by_ready 0 vs) ≡ true
  still_drives vs h = driver_up SameOff (λ v. true) (λ v. true) (λ t s e. e) (λ t s e y. refl) vs (changed by_ready 0 vs) (still_off 0 vs) h

  -- what was there
  record Was (n : ℕ) (vs : List LunView) (m : ℕ) (w : LunView) : Type 0 where
    before : LunView
    found : slice_get vs m ≡ Some before
    latch : w.latch ≡ before.latch
    queue : w.queue ≡ before.queue

  was : (n : ℕ) (vs : List LunView) (m : ℕ) (w : LunView) → slice_get (changed by_ready n vs) m ≡ Some w → Was n vs m w
  was n [] m w h = cc
  was n (v ∷ vs) zero w h =
      let same : view_after (by_ready n v) v ≡ w = cc in
      record { before = v; found = refl; latch = ap (λ (y : LunView). y.latch) (sym same) ∙ same_latch (lun == n) v; queue = ap (λ (y : LunView). y.queue) (sym same) ∙ same_queue (lun == n) v }
  was n (v ∷ vs) (suc m) w h = let y = was (n + 1) vs m w h in record { before = y.before; found = y.found; latch = y.latch; queue = y.queue }

  still_none : (g : Parts) (r : ℕ) (vs : List LunView) → NoneQueued g r vs → NoneQueued g r (changed by_ready 0 vs)
  still_none g r vs none m w h names = let y = was 0 vs m w h in y.queue ∙ none m y.before y.found names

  -- ---- 3. a ready that is seen

  go_ready : (p : Bool) (k : Known) (n : ℕ) (ts ss : List LunView) → GoEach p i k by_ready by_ready n ts ss
  go_ready p k n [] [] = tt
  go_ready p k n (t ∷ ts) (s ∷ ss) = (go_same p i (knows k n) (by_ready n t) (by_ready n s) t s refl (ask (lun == n) t s) (λ h. absurd (is.no_reset h)), go_ready p k (n + 1) ts ss)
    where
      ask : (b : Bool) (t s : LunView) → Asks p (cond b x Unaffected) t s
      ask true t s = is.asks p t s
      ask false t s = tt
  go_ready p k n [] (s ∷ ss) = tt
  go_ready p k n (t ∷ ts) [] = tt

  none_begins : (p : Bool) (before after : LunView) → (after.busy ≡ true → before.busy ≡ true) → learned_lun p i (Some (look_at before)) (Some (look_at after)) Nothing ≡ Nothing
  none_begins p before after h = at (not before.busy && (after.busy && not (is_cache_read before.closer || is_cache_read after.closer))) refl
    where
      at : (b : Bool) → (not before.busy && (after.busy && not (is_cache_read before.closer || is_cache_read after.closer))) ≡ b → learned_by p b (is_reset i) (is_page after.register) (not (is_off after.latch) || (b && is_reset i)) Nothing ≡ Nothing
      at true e =
          let a = and_parts (not before.busy) (after.busy && not (is_cache_read before.closer || is_cache_read after.closer)) e in
          let c = and_parts after.busy (not (is_cache_read before.closer || is_cache_read after.closer)) a.1 in
          let was_busy = h c.0 in
          let idle = not-true before.busy a.0 in
          cc
      at false e = refl

  nothing_learned : (p : Bool) (vs : List LunView) (n : ℕ) → learned_lun p i (look_at_some (slice_get vs n)) (look_at_some (slice_get (changed by_ready 0 vs) n)) Nothing ≡ Nothing
  nothing_learned p vs n = at (slice_get vs n) refl
    where
      kept : (b : Bool) (v : LunView) → (view_after (cond b x Unaffected) v).busy ≡ true → v.busy ≡ true
      kept true v h = is.busy v h
      kept false v h = h

      at : (o : Option LunView) → slice_get vs n ≡ o → learned_lun p i (look_at_some (slice_get vs n)) (look_at_some (slice_get (changed by_ready 0 vs) n)) Nothing ≡ Nothing
      at None e = ap (λ (o : Option LunView). learned_lun p i (look_at_some o) (look_at_some (slice_get (changed by_ready 0 vs) n)) Nothing) e
      at (Some v) e =
          ap (λ (o : Option LunView). learned_lun p i (look_at_some o) (look_at_some (slice_get (changed by_ready 0 vs) n)) Nothing) e
          ∙ ap (λ (o : Option LunView). learned_lun p i (Some (look_at v)) (look_at_some o) Nothing) (changed_found by_ready vs n v e)
          ∙ none_begins p v (view_after (by_ready n v) v) (kept (lun == n) v)

  still_nothing : (p : Bool) (k later : Known) (vs : List LunView) → k ≡ nothing_known → later.opened ≡ false → IsLearned p i k later vs (changed by_ready 0 vs) → later ≡ nothing_known
  still_nothing p k later vs e closed l =
      let of : (n : ℕ) → knows k n ≡ Nothing → n < 4 → knows later n ≡ Nothing = λ n h few. l n few ∙ ap (learned_lun p i (look_at_some (slice_get vs n)) (look_at_some (slice_get (changed by_ready 0 vs) n))) h ∙ nothing_learned p vs n in
      let e0 : later.zeroth ≡ Nothing = of 0 (ap (λ (y : Known). y.zeroth) e) (omega arith) in
      let e1 : later.first ≡ Nothing = of 1 (ap (λ (y : Known). y.first) e) (omega arith) in
      let e2 : later.second ≡ Nothing = of 2 (ap (λ (y : Known). y.second) e) (omega arith) in
      let e3 : later.third ≡ Nothing = of 3 (ap (λ (y : Known). y.third) e) (omega arith) in
      λ j. record { opened = closed j; zeroth = e0 j; first = e1 j; second = e2 j; third = e3 j }

  module _ (g : Parts) (k later : Known) (t s : TargetView) (f : FitsTarget g k t s) where
    opened_after : (u : TargetView) → u.luns ≡ s.luns ⊎ u.luns ≡ changed by_ready 0 s.luns → u.tail ≡ s.tail → IsOpened g t s → IsOpened g (target_after g i t) u
    opened_after u luns tail o =
        record {
          tail = is.tail g t ∙ o.tail ∙ sym tail;
          some = ap (λ (w : TailFacts). w.is_empty) (is.tail g t) ∙ o.some;
          sound = ap is_sound (is.tail g t) ∙ o.sound;
          column = λ h.
              let both = o.column (sym (ap (λ (w : TailFacts). opened (λ c n. is_change_read_column c) w.opening) (is.tail g t)) ∙ h) in
              (ap has_driver (luns_ready g t.tail (has_driver t.luns) t.luns) ∙ still_drives t.luns both.0, drives luns both.1);
          read = λ single h.
              subst (λ (vs : List LunView). NoneQueued g (row (target_after g i t).tail) vs) (sym (luns_ready g t.tail (has_driver t.luns) t.luns))
              (subst (λ (w : TailFacts). NoneQueued g (row w) (changed by_ready 0 t.luns)) (sym (is.tail g t))
              (still_none g (row t.tail) t.luns (o.read single (sym (ap (λ (w : TailFacts). opened (λ c n. is_read c && n == 5) w.opening) (is.tail g t)) ∙ h))));
          plane = λ h.
              let none = o.plane (sym (ap (λ (w : TailFacts). opened (λ c n. is_enhanced_column c && n == 5) w.opening) (is.tail g t)) ∙ h) in
              subst (λ (w : TailFacts). NoneQueued g (row w) u.luns) (sym (is.tail g t)) (none_on luns (row t.tail) none);
          declared = λ h. o.declared (sym (ap (λ (w : TailFacts). opened (λ c n. is_enhanced_column c) w.opening) (is.tail g t)) ∙ h);
        }
      where
        none_on : u.luns ≡ s.luns ⊎ u.luns ≡ changed by_ready 0 s.luns → (r : ℕ) → NoneQueued g r s.luns → NoneQueued g r u.luns
        none_on (inl e) r h = subst (NoneQueued g r) (sym e) h
        none_on (inr e) r h = subst (NoneQueued g r) (sym e) (still_none g r s.luns h)

        drives : u.luns ≡ s.luns ⊎ u.luns ≡ changed by_ready 0 s.luns → has_driver s.luns ≡ true → has_driver u.luns ≡ true
        drives (inl e) h = ap has_driver e ∙ h
        drives (inr e) h = ap has_driver e ∙ still_drives s.luns h

    -- nothing that was seen works
    none_works : AreBlank s.luns → lun_is works s.luns lun ≡ true → ⊥
    none_works b h = at (slice_get s.luns lun) refl h
      where
        at : (o : Option LunView) → slice_get s.luns lun ≡ o → is_some_and works o ≡ true → ⊥
        at None e y = cc
        at (Some v) e y = let idle = is.blank v (b lun v e) in cc

    comes_after : lun_is works s.luns lun ≡ true → MayCome g t.tail s.luns → MayCome g (target_after g i t).tail (target_after g i s).luns
    comes_after h (blank b) = absurd (none_works b h)
    comes_after h (quiet q) = quiet (ap is_quiet (is.tail g t) ∙ q)
    comes_after h (named n e) =
        named (ap (is_named g) (is.tail g t) ∙ n)
        (subst (λ (vs : List LunView). NoneQueued g (row (target_after g i t).tail) vs) (sym (luns_ready g s.tail (has_driver s.luns) s.luns))
        (subst (λ (w : TailFacts). NoneQueued g (row w) (changed by_ready 0 s.luns)) (sym (is.tail g t)) (still_none g (row t.tail) s.luns e)))
    comes_after h (selecting n e) =
        selecting (ap is_plane (is.tail g t) ∙ n)
        (subst (λ (vs : List LunView). AllNamed g (row (target_after g i t).tail) vs) (sym (luns_ready g s.tail (has_driver s.luns) s.luns))
        (subst (λ (w : TailFacts). AllNamed g (row w) (changed by_ready 0 s.luns)) (sym (is.tail g t))
        (λ m within. e m (subst (λ n. m < n) (changed_length by_ready 0 s.luns) within))))

    -- a ready that is seen
    pub ready_seen : lun_is works s.luns lun ≡ true → IsLearned (has_plane_reads g.optional) i k later s.luns (target_after g i s).luns → later.opened ≡ k.opened → FitsTarget g later (target_after g i t) (target_after g i s)
    ready_seen h learned kept =
        let l : IsLearned (has_plane_reads g.optional) i k later s.luns (changed by_ready 0 s.luns) = subst (IsLearned (has_plane_reads g.optional) i k later s.luns) (luns_ready g s.tail (has_driver s.luns) s.luns) learned in
        record {
          few = subst (λ n. n ≤ 4) (sym (ap length (luns_ready g s.tail (has_driver s.luns) s.luns) ∙ changed_length by_ready 0 s.luns)) f.few;
          count = subst (λ n. n ≤ g.luns) (sym (ap length (luns_ready g s.tail (has_driver s.luns) s.luns) ∙ changed_length by_ready 0 s.luns)) f.count;
          luns =
              rw (luns_ready g t.tail (has_driver t.luns) t.luns, luns_ready g s.tail (has_driver s.luns) s.luns)
              (all_fit_on (has_plane_reads g.optional) i k later by_ready by_ready 0 t.luns s.luns f.luns (go_ready (has_plane_reads g.optional) k 0 t.luns s.luns) (learns_each (has_plane_reads g.optional) i k later by_ready s.luns f.few l));
          opened = λ y. opened_after (target_after g i s) (inr (luns_ready g s.tail (has_driver s.luns) s.luns)) (is.tail g s) (f.opened (sym kept ∙ y));
          closed = λ y.
              let q = f.closed (sym kept ∙ y) in
              record { tail = is.tail g s ∙ q.tail; nothing = still_nothing (has_plane_reads g.optional) k later s.luns q.nothing y l; comes = comes_after h q.comes };
        }

    -- ---- 4. a ready that is taken for granted

    unseen_fits : (y : LunKnown) (a b : LunView) → Fits (has_plane_reads g.optional) y a b → has_begun y ≡ false → works b ≡ false → Fits (has_plane_reads g.optional) y (view_after x a) b
    unseen_fits Nothing a b e none idle = record { below = unseen_after x a b e.below is.never (is.harmless b idle); queue = λ p h. cc; begun = λ h. cc; same = λ h. cc; off = λ h m. cc }
    unseen_fits Queue a b e none idle =
        record { below = unseen_after x a b e.below is.never (is.harmless b idle); queue = λ p h. ap pages_of_reads (is.queue a) ∙ e.queue p h; begun = λ h. cc; same = λ h. cc; off = λ h m. cc }
    unseen_fits Work a b e none idle = cc
    unseen_fits All a b e none idle = cc

    abbrev Rests : ℕ → LunView → Type 0
    Rests n v = (lun == n) ≡ true → (has_begun (knows k n) ≡ false) × (works v ≡ false)

    one_rests : (b : Bool) (n : ℕ) (a c : LunView) → Fits (has_plane_reads g.optional) (knows k n) a c → (b ≡ true → (has_begun (knows k n) ≡ false) × (works c ≡ false)) → Fits (has_plane_reads g.optional) (knows k n) (view_after (cond b x Unaffected) a) c
    one_rests true n a c e h = let r = h refl in unseen_fits (knows k n) a c e r.0 r.1
    one_rests false n a c e h = e

    fit_unseen : (n : ℕ) (ts ss : List LunView) → AllFit (has_plane_reads g.optional) k n ts ss → AtEach Rests n ss → AllFit (has_plane_reads g.optional) k n (changed by_ready n ts) ss
    fit_unseen n [] [] e r = tt
    fit_unseen n (a ∷ ts) (c ∷ ss) e r = (one_rests (lun == n) n a c e.0 r.0, fit_unseen (n + 1) ts ss e.1 r.1)
    fit_unseen n [] (c ∷ ss) e r = e
    fit_unseen n (a ∷ ts) [] e r = e

    pub ready_granted : lun_is works s.luns lun ≡ false → has_begun (knows k lun) ≡ false → FitsTarget g k (target_after g i t) s
    ready_granted idle none =
        record {
          few = f.few;
          count = f.count;
          luns = subst (λ (vs : List LunView). AllFit (has_plane_reads g.optional) k 0 vs s.luns) (sym (luns_ready g t.tail (has_driver t.luns) t.luns)) (fit_unseen 0 t.luns s.luns f.luns (at_each Rests s.luns rests));
          opened = λ y. opened_after s (inl refl) refl (f.opened y);
          closed = λ y.
              let q = f.closed y in
              record { tail = q.tail; nothing = q.nothing; comes = subst (λ (w : TailFacts). MayCome g w s.luns) (sym (is.tail g t)) q.comes };
        }
      where
        rests : (m : ℕ) (v : LunView) → slice_get s.luns m ≡ Some v → Rests m v
        rests m v found same =
            let here : lun ≡ m = eqb-true lun m same in
            (ap (λ n. has_begun (knows k n)) (sym here) ∙ none, sym (ap (is_some_and works) (ap (slice_get s.luns) here ∙ found)) ∙ idle)

    -- the LUN of a ready that isn't seen to work is in doubt
    pub record Doubted : Type 0 where
      pub lun_seen : LunView
      pub found : slice_get s.luns lun ≡ Some lun_seen
      pub none : has_begun (knows k lun) ≡ false

    at_lun : (n m p : ℕ) (ts ss : List LunView) → p ≡ n + m → AllFit (has_plane_reads g.optional) k n ts ss → is_some_and works (slice_get ts m) ≡ true → is_some_and works (slice_get ss m) ≡ false →
        (v : LunView) × (slice_get ss m ≡ Some v) × (has_begun (knows k p) ≡ false)
    at_lun n m p [] [] e a h idle = cc
    at_lun n zero p (t ∷ ts) (s ∷ ss) e a h idle =
        let here : n ≡ p = omega (arith, e) in
        (s, refl, false_from_ne_true (has_begun (knows k p)) (λ b. let begun = a.0.begun (ap (λ q. has_begun (knows k q)) here ∙ b) in let same = is.begun t s begun in cc))
    at_lun n (suc m) p (t ∷ ts) (s ∷ ss) e a h idle = at_lun (n + 1) m p ts ss (omega (arith, e)) a.1 h idle
    at_lun n m p [] (s ∷ ss) e a h idle = absurd a
    at_lun n m p (t ∷ ts) [] e a h idle = absurd a

    pub doubted : lun_is works t.luns lun ≡ true → lun_is works s.luns lun ≡ false → Doubted
    doubted h idle = let at = at_lun 0 lun lun t.luns s.luns (omega arith) f.luns h idle in record { lun_seen = at.0; found = at.1; none = at.2 }
