-- A LUN of a shared target as it is, and as it is seen from a reset on: both are judged alike, and an effect leaves both alike.
use Rattle.std.proofs.Common.{◌≡◌, ◌⊎◌, inl, inr, true≢false, ◌++◌, ltb, ℕ, ◌+◌, ◌==◌, Bool, true, false, cond, ◌||◌, take, List, [], ◌∷◌, Option, Some, None, refl, sym, ap, ◌∙◌, subst}
use Rattle.nand_geometry.specs.declared.parts.Parts.{Parts}
use Rattle.onfi_cycle.specs.declared.command.Command.TheVariants.{Reset}
use Rattle.onfi_cycle.specs.declared.effect.Effect.{Effect}
use Rattle.onfi_cycle.specs.declared.effect.Effect.TheVariants.{ReadStarted, ReadQueued, EraseStarted, ProgramStarted, IdRead, IdentityRead, UniqueIdReadStarted, FeaturesReadStarted, FeaturesSet, ParameterPageReadStarted, CacheReadContinued, CacheReadEnded, PlaneSelected, ResetStarted, TargetResetStarted, StatusOfSelected, AnotherAddressed, CopybackReadStarted, CacheProgramStarted, ProgramAddressed}
use Rattle.onfi_cycle.specs.declared.latch.Latch.{Latch}
use Rattle.onfi_cycle.specs.declared.latch.Latch.TheVariants.{Off, Status, Data}
use Rattle.onfi_cycle.specs.declared.page_address.PageAddress.{PageAddress}
use Rattle.onfi_cycle.specs.declared.queued.Queued.{Queued}
use Rattle.onfi_cycle.specs.declared.register.Register.TheVariants.{Empty, Page}
use Rattle.onfi_cycle.specs.declared.tail_facts.TailFacts.{TailFacts}
use Rattle.onfi_cycle.specs.declared.target_cycle.TargetCycle.{TargetCycle}
use Rattle.onfi_cycle.specs.declared.target_cycle.TargetCycle.TheVariants.{CommandCycle}
use Rattle.onfi_cycle.specs.Effect.{is_off, is_shared, reset_effect}
use Rattle.onfi_cycle.specs.Lun.{is_cache_read, is_page_read, pages_of_reads, has_reads, page_in_plane, register_of_plane, held_after, works, latch_after, selected_after, overlapped_after, queue_after, read_column_after, view_after, held_on, is_copyback_read}
use Rattle.onfi_cycle.specs.LunView.{LunView}
use Rattle.onfi_cycle.specs.Permitted.{judge_cycle}
use Rattle.onfi_cycle.specs.Rules.{is_some_and, driver, works_for_target, breaks_command_unknown, breaks_sequence_open, breaks_several_luns, breaks_no_column_to_change, breaks_command_misplaced, breaks_address_misplaced, breaks_row_outside, breaks_lun_busy, breaks_queue_clash, breaks_input_misplaced, breaks_no_sole_driver, breaks_data_not_ready, breaks_column_outside, breaks_cache_read_misplaced, breaks_cache_program_misplaced, breaks_plane_not_held, breaks_copyback_misplaced}
use Rattle.onfi_cycle.specs.Sequence.{facts_of}
use Rattle.onfi_cycle.specs.State.{has_driver}
use Rattle.onfi_cycle.proofs.Passed.{KeepsRules}
use Rattle.recording_laws.proofs.Luns.{Within, Shows, IsBegun, begun_after, reads_on}
use Rattle.recording_laws.proofs.Lists.{Each, each_more, any_down, Match, drivers_match}
use Rattle.recording_laws.proofs.Rules.{IsClear, IsKnown, none_broken, IsCopied}
use Rattle.recording_laws.proofs.Changed.{changed, AtEach}

-- ---- 1. what is the same

pub record IsTwin (g : Parts) (t s : LunView) : Type 0 where
  pub begun : IsBegun t s
  pub latch : t.latch ≡ s.latch
  pub selected : t.selected ≡ s.selected
  pub overlapped : is_shared g ≡ true → t.overlapped ≡ s.overlapped
  pub queue : t.queue ≡ s.queue
  pub held : t.held ≡ s.held

same_shows : (l : Latch) → Shows l l
same_shows Off = tt
same_shows Status = refl
same_shows Data = refl

twin_known : (g : Parts) (t s : LunView) → IsTwin g t s → IsKnown t s
twin_known g t s k =
    record {
      below = record {
        busy = λ h. k.begun.busy ∙ h;
        queue = subst (λ (q : List Queued). Within s.queue q) (sym k.queue) (λ test h. h);
        latch = subst (λ (l : Latch). Shows s.latch l) (sym k.latch) (same_shows s.latch);
      };
      begun = k.begun;
      same = record { off = ap is_off k.latch; latch = λ h. k.latch };
      held = λ h. k.held;
    }

twin_copied : (g : Parts) (t s : LunView) → IsTwin g t s → IsCopied t s
twin_copied g t s k = record { closer = k.begun.closer; held = k.held; queue = k.queue }

twin_works : (g : Parts) (t s : LunView) → IsTwin g t s → works_for_target s ≡ true → works_for_target t ≡ true
twin_works g t s k h = rw (k.begun.busy, k.begun.closer) h

twins_clear : (g : Parts) (ts ss : List LunView) → is_shared g ≡ true → Each (IsTwin g) ts ss → IsClear ts ss
twins_clear g ts ss shared each =
    record {
      overlapped = any_down (IsTwin g) (λ v. v.overlapped) (λ v. v.overlapped) (λ t s k h. k.overlapped shared ∙ h) ts ss each;
      target = any_down (IsTwin g) works_for_target works_for_target (twin_works g) ts ss each;
    }

-- what is permitted is seen to be permitted
pub twins_judged : (g : Parts) (u : TailFacts) (ts ss : List LunView) (cycle : TargetCycle) → Each (IsTwin g) ts ss → KeepsRules g u ts cycle → judge_cycle g u ss cycle ≡ None
twins_judged g u ts ss cycle each k = none_broken g ts ss (each_more (IsTwin g) IsKnown (twin_known g) ts ss each) (λ shared. twins_clear g ts ss shared each) (λ has. each_more (IsTwin g) IsCopied (twin_copied g) ts ss each) u cycle k

-- ---- 2. an effect on both

-- a cache read goes on from a read of a page, and one that ends goes on
abbrev pub GoesOn : Effect → LunView → Type 0
GoesOn (CacheReadContinued to) s = is_page_read s.closer ≡ true
GoesOn CacheReadEnded s = is_cache_read s.closer ≡ true
GoesOn _ s = Unit {0}

-- the pages that are held after a read for a copyback
copy_held : (g : Parts) (at : PageAddress) (count : ℕ) (t s : LunView) → IsTwin g t s →
    take 4 (at ∷ (pages_of_reads t.queue ++ held_on count at (is_copyback_read t.closer) t.held)) ≡ take 4 (at ∷ (pages_of_reads s.queue ++ held_on count at (is_copyback_read s.closer) s.held))
copy_held g at count t s k = rw (k.queue, k.begun.closer, k.held) refl

begun_on : (g : Parts) (e : Effect) (t s : LunView) → IsTwin g t s → GoesOn e s → IsBegun (view_after e t) (view_after e s)
begun_on g (ReadStarted at from) t s k on =
    record {
      busy = refl;
      closer = refl;
      array_busy = refl;
      page = λ h. refl;
      register = ap (λ (q : List Queued). cond (has_reads q) Empty (Page at)) k.queue;
      column = λ h. refl;
      held = λ h. ap (λ (q : List Queued). take 4 (at ∷ pages_of_reads q)) k.queue;
    }
begun_on g (CopybackReadStarted at from count) t s k on =
    record {
      busy = refl;
      closer = refl;
      array_busy = refl;
      page = λ h. cc;
      register = ap (λ (q : List Queued). cond (has_reads q) Empty (Page at)) k.queue;
      column = λ h. refl;
      held = λ h. copy_held g at count t s k;
    }
begun_on g (CacheProgramStarted at) t s k on = record { busy = refl; closer = refl; array_busy = refl; page = λ h. cc; register = refl; column = λ h. cc; held = λ h. refl }
begun_on g (PlaneSelected plane count from) t s k on =
    let b = k.begun in
    record {
      busy = b.busy;
      closer = b.closer;
      array_busy = b.array_busy;
      page = b.page;
      register = ap (λ (held : List PageAddress). register_of_plane (page_in_plane count plane held)) k.held;
      column = λ h. refl;
      held = λ h. k.held;
    }
begun_on g (TargetResetStarted first) t s k on = record { busy = refl; closer = refl; array_busy = refl; page = λ h. cc; register = refl; column = λ h. cc; held = λ h. refl }
begun_on g StatusOfSelected t s k on =
    let b = k.begun in
    record { busy = b.busy; closer = b.closer; array_busy = b.array_busy; page = b.page; register = b.register; column = λ h. ap (read_column_after StatusOfSelected) (b.column h); held = b.held }
begun_on g (AnotherAddressed reads) t s k on = let b = k.begun in record { busy = b.busy; closer = b.closer; array_busy = b.array_busy; page = b.page; register = b.register; column = b.column; held = b.held }
begun_on g (CacheReadContinued to) t s k on = begun_after false (CacheReadContinued to) t s k.begun on tt
begun_on g CacheReadEnded t s k on = begun_after false CacheReadEnded t s k.begun on tt
begun_on g e t s k on = begun_after false e t s k.begun on tt

-- the pages that are held
held_alike : (g : Parts) (e : Effect) (t s : LunView) → IsTwin g t s → GoesOn e s → held_after e (is_copyback_read t.closer) t.array_page t.queue t.held ≡ held_after e (is_copyback_read s.closer) s.array_page s.queue s.held
held_alike g (ReadStarted at from) t s k on = ap (λ (q : List Queued). take 4 (at ∷ pages_of_reads q)) k.queue
held_alike g (CacheReadContinued to) t s k on = ap (λ (p : PageAddress). p ∷ []) (k.begun.page on)
held_alike g CacheReadEnded t s k on = ap (λ (p : PageAddress). p ∷ []) (k.begun.page (reads_on s.closer on))
held_alike g (ProgramStarted queued at) t s k on = ap (λ (held : List PageAddress). cond queued held []) k.held
held_alike g (CopybackReadStarted at from count) t s k on = copy_held g at count t s k
held_alike g ProgramAddressed t s k on = refl
held_alike g (ReadQueued at) t s k on = refl
held_alike g (EraseStarted queued at) t s k on = refl
held_alike g (CacheProgramStarted at) t s k on = refl
held_alike g IdRead t s k on = refl
held_alike g (IdentityRead jedec) t s k on = refl
held_alike g ParameterPageReadStarted t s k on = refl
held_alike g UniqueIdReadStarted t s k on = refl
held_alike g (FeaturesReadStarted address) t s k on = refl
held_alike g (FeaturesSet address) t s k on = refl
held_alike g ResetStarted t s k on = refl
held_alike g (TargetResetStarted first) t s k on = refl
held_alike g e t s k on = k.held

pub twin_after : (g : Parts) (e : Effect) (t s : LunView) → IsTwin g t s → GoesOn e s → IsTwin g (view_after e t) (view_after e s)
twin_after g e t s k on =
    let busy = k.begun.busy in
    let array = k.begun.array_busy in
    record {
      begun = begun_on g e t s k on;
      latch = ap (λ (b : Bool). latch_after e b (works t) t.latch) k.selected ∙ ap (λ (l : Latch). latch_after e s.selected (works t) l) k.latch ∙ ap (λ (b : Bool). latch_after e s.selected (b || t.array_busy) s.latch) busy ∙ ap (λ (b : Bool). latch_after e s.selected (s.busy || b) s.latch) array;
      selected = ap (selected_after e) k.selected;
      overlapped = λ shared. ap (overlapped_after e (works t)) (k.overlapped shared) ∙ ap (λ (b : Bool). overlapped_after e (b || t.array_busy) s.overlapped) busy ∙ ap (λ (b : Bool). overlapped_after e (s.busy || b) s.overlapped) array;
      queue = ap (queue_after e) k.queue;
      held = held_alike g e t s k on;
    }

-- ---- 3. on each LUN

pub twins_after : (g : Parts) (f h : ℕ → LunView → Effect) (C : ℕ → LunView → Type 0) → ((n : ℕ) (t s : LunView) → IsTwin g t s → C n s → IsTwin g (view_after (f n t) t) (view_after (h n s) s)) →
    (n : ℕ) (ts ss : List LunView) → Each (IsTwin g) ts ss → AtEach C n ss → Each (IsTwin g) (changed f n ts) (changed h n ss)
twins_after g f h C one n [] [] e c = tt
twins_after g f h C one n (t ∷ ts) (s ∷ ss) e c = (one n t s e.0 c.0, twins_after g f h C one (n + 1) ts ss e.1 c.1)
twins_after g f h C one n [] (s ∷ ss) e c = e
twins_after g f h C one n (t ∷ ts) [] e c = e

same_there : (g : Parts) (a b : Option LunView) → Match (IsTwin g) a b → is_some_and (λ v. true) a ≡ is_some_and (λ v. true) b
same_there g None None m = refl
same_there g (Some t) (Some s) m = refl
same_there g None (Some s) m = absurd m
same_there g (Some t) None m = absurd m

pub twins_driver : (g : Parts) (ts ss : List LunView) → Each (IsTwin g) ts ss → has_driver ts ≡ has_driver ss
twins_driver g ts ss each = same_there g (driver ts) (driver ss) (drivers_match (IsTwin g) (λ t s k. ap is_off k.latch) ts ss each)

-- ---- 4. a reset

-- as many are seen as there are
abbrev pub Beside : LunView → LunView → Type 0
Beside t s = Unit {0}

reset_twin : (g : Parts) (first : Bool) (t s : LunView) → IsTwin g (view_after (TargetResetStarted first) t) (view_after (TargetResetStarted first) s)
reset_twin g first t s =
    record {
      begun = record { busy = refl; closer = refl; array_busy = refl; page = λ h. cc; register = refl; column = λ h. cc; held = λ h. refl };
      latch = refl;
      selected = refl;
      overlapped = λ shared. refl;
      queue = refl;
      held = refl;
    }

-- where a target isn't shared
plain_twin : (g : Parts) → is_shared g ≡ false → (t s : LunView) → IsTwin g (view_after ResetStarted t) (view_after ResetStarted s)
plain_twin g plain t s =
    record {
      begun = record { busy = refl; closer = refl; array_busy = refl; page = λ h. cc; register = refl; column = λ h. cc; held = λ h. refl };
      latch = refl;
      selected = refl;
      overlapped = λ shared. absurd (true≢false (sym shared ∙ plain));
      queue = refl;
      held = refl;
    }

pub effect_twin : (g : Parts) (n : ℕ) (t s : LunView) → IsTwin g (view_after (reset_effect g n) t) (view_after (reset_effect g n) s)
effect_twin g n t s = at (is_shared g) refl
  where
    at : (b : Bool) → is_shared g ≡ b → IsTwin g (view_after (cond b (TargetResetStarted (n == 0)) ResetStarted) t) (view_after (cond b (TargetResetStarted (n == 0)) ResetStarted) s)
    at true e = reset_twin g (n == 0) t s
    at false e = plain_twin g e t s

pub resets_twins : (g : Parts) (f h : ℕ → LunView → Effect) → ((n : ℕ) (v : LunView) → f n v ≡ reset_effect g n) → ((n : ℕ) (v : LunView) → h n v ≡ reset_effect g n) →
    (n : ℕ) (ts ss : List LunView) → Each Beside ts ss → Each (IsTwin g) (changed f n ts) (changed h n ss)
resets_twins g f h a b n [] [] e = tt
resets_twins g f h a b n (t ∷ ts) (s ∷ ss) e = (
  subst (λ (x : Effect). IsTwin g (view_after x t) (view_after (h n s) s)) (sym (a n t)) (subst (λ (x : Effect). IsTwin g (view_after (reset_effect g n) t) (view_after x s)) (sym (b n s)) (effect_twin g n t s)),
  resets_twins g f h a b (n + 1) ts ss e.1,
)
resets_twins g f h a b n [] (s ∷ ss) e = e
resets_twins g f h a b n (t ∷ ts) [] e = e

-- it is permitted whatever was
pub reset_judged : (g : Parts) (ss : List LunView) → (is_shared g ≡ true) ⊎ ((is_shared g ≡ false) × (ltb 1 g.luns ≡ false)) → judge_cycle g (facts_of []) ss (CommandCycle Reset) ≡ None
unfolding breaks_command_unknown breaks_sequence_open breaks_several_luns breaks_no_column_to_change breaks_command_misplaced breaks_address_misplaced breaks_row_outside breaks_lun_busy breaks_queue_clash breaks_input_misplaced breaks_no_sole_driver breaks_data_not_ready breaks_column_outside breaks_cache_read_misplaced breaks_cache_program_misplaced breaks_copyback_misplaced breaks_plane_not_held
reset_judged g ss (inl shared) = rw shared refl
reset_judged g ss (inr alone) = rw (alone.0, alone.1) refl

-- the same on each side
pub still_beside : (f : ℕ → LunView → Effect) (n : ℕ) (ts ss : List LunView) → Each Beside ts ss → Each Beside (changed f n ts) ss
still_beside f n [] [] e = tt
still_beside f n (t ∷ ts) (s ∷ ss) e = (tt, still_beside f (n + 1) ts ss e.1)
still_beside f n [] (s ∷ ss) e = e
still_beside f n (t ∷ ts) [] e = e
