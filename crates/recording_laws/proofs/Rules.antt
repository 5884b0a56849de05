-- Which rules a permitted cycle may seem to break, by what is seen: those that hang on what was before, and none where all is known.
use Rattle.std.proofs.Common.{◌≡◌, ◌+◌, ◌%◌, ◌==◌, Bool, true, false, cond, not, ◌&&◌, ◌||◌, ltb, leb, List, [], ◌∷◌, length, Option, Some, None, refl, sym, ap, ◌∙◌, true≢false}
use Rattle.std.specs.List.{list_any}
use Rattle.std.proofs.lemmas.Bool.{and_parts, and_from, and_right, or_left, or_right, or_from, or_parts, not-true, not-false, not_from_true}
use Rattle.nand_geometry.specs.declared.parts.Parts.{Parts}
use Rattle.nand_geometry.specs.Limits.{planes}
use Rattle.onfi_cycle.specs.declared.command.Command.{Command}
use Rattle.onfi_cycle.specs.declared.command.Command.TheVariants.{Read, ChangeReadColumn, BlockErase, PageProgram, ChangeWriteColumn, ReadStatus, ReadStatusEnhanced, ReadConfirm, ReadPlane, CopybackRead, ReadCacheSequential, ReadCacheEnd, ProgramCache}
use Rattle.onfi_cycle.specs.declared.forbidden.Forbidden.{Forbidden}
use Rattle.onfi_cycle.specs.declared.forbidden.Forbidden.TheVariants.{NoColumnToChange, NoSoleDriver, DataNotReady, ColumnOutside, CacheReadMisplaced, PlaneNotHeld}
use Rattle.onfi_cycle.specs.declared.latch.Latch.{Latch}
use Rattle.onfi_cycle.specs.declared.latch.Latch.TheVariants.{Off, Status, Data}
use Rattle.onfi_cycle.specs.declared.opening.Opening.{Opening}
use Rattle.onfi_cycle.specs.declared.page_address.PageAddress.{PageAddress}
use Rattle.onfi_cycle.specs.declared.queued.Queued.{Queued}
use Rattle.onfi_cycle.specs.declared.register.Register.{Register}
use Rattle.onfi_cycle.specs.declared.register.Register.TheVariants.{Empty, Page, ParameterPage, Identifier, Identity, JedecIdentity, UniqueId, Features}
use Rattle.onfi_cycle.specs.declared.tail_facts.TailFacts.{TailFacts}
use Rattle.onfi_cycle.specs.declared.target_cycle.TargetCycle.{TargetCycle}
use Rattle.onfi_cycle.specs.declared.target_cycle.TargetCycle.TheVariants.{CommandCycle, AddressCycle, InputCycle, OutputCycle}
use Rattle.nand_geometry.specs.Optional.{is_wide, has_copyback, has_program_cache, has_group_cache}
use Rattle.onfi_cycle.specs.Command.{is_opener, reads_identity, at_last_row, addresses_the_array, is_change_read_column, is_enhanced_column, is_page_program, is_write_column}
use Rattle.onfi_cycle.specs.Effect.{is_off, is_data, is_shared, page_address}
use Rattle.onfi_cycle.specs.Lun.{is_cache_read, is_page_read, output_column, programs}
use Rattle.onfi_cycle.specs.LunView.{LunView}
use Rattle.onfi_cycle.specs.Permitted.{judge_cycle}
use Rattle.onfi_cycle.specs.Rules.{is_some_and, driver_is, named_lun_is, ends_row, excludes_cache, holds_plane_of, register_len, is_page_or_parameters, is_empty, lacks, is_past, queued_clashes, read_clashes, has_some, has_read_one, may_change_column, refused_by, is_refused_by, works_for_target, is_unclear, has_no_byte, is_past_register, second_column, second_of_page, caching, continues_cache, ends_cache, breaks_command_unknown, breaks_cache_program_misplaced, excludes_program, holds_none, breaks_sequence_open, breaks_several_luns, breaks_no_column_to_change, breaks_command_misplaced, breaks_address_misplaced, breaks_row_outside, breaks_lun_busy, breaks_queue_clash, breaks_input_misplaced, breaks_no_sole_driver, breaks_data_not_ready, breaks_column_outside, breaks_cache_read_misplaced, breaks_plane_not_held, opens_here, begins_on_ready, breaks_copyback_misplaced, may_copy, is_copying}
use Rattle.onfi_cycle.specs.Sequence.{facts_of, begins_anew, wants_command, row, row_with, column_with, is_open}
use Rattle.onfi_cycle.proofs.Passed.{KeepsRules}
use Rattle.trace_faults.specs.Middle.{hangs_on_before}
use Rattle.recording_laws.proofs.Luns.{Within, Shows, IsUnder, IsBegun, IsSame, IsNarrow, spare_programs}
use Rattle.recording_laws.proofs.Lists.{Each, SpareSeen, each_more, either_of, any_up, any_down, lun_up, lun_down, driver_up, driver_down}

-- ---- 1. Booleans

and_less : (a b c : Bool) → (c ≡ true → b ≡ true) → (a && b) ≡ false → (a && c) ≡ false
and_less false b c f h = refl
and_less true b true f h = let yes = f refl in cc
and_less true b false f h = refl

both_less : (a b c d : Bool) → (c ≡ true → a ≡ true) → (d ≡ true → b ≡ true) → (a && b) ≡ false → (c && d) ≡ false
both_less a b false d f h e = refl
both_less a b true false f h e = refl
both_less a b true true f h e = let one = f refl in let two = h refl in cc

-- a test that comes under another
when_less : (a b c : Bool) → (a ≡ true → c ≡ true → b ≡ true) → (a && b) ≡ false → (a && c) ≡ false
when_less false b c f h = refl
when_less true b true f h = let yes = f refl refl in cc
when_less true b false f h = refl

not_less : (b c : Bool) → (b ≡ true → c ≡ true) → not c ≡ true → not b ≡ true
not_less true true f h = h
not_less true false f h = let yes = f refl in cc
not_less false c f h = refl

less : (b c : Bool) → (c ≡ true → b ≡ true) → b ≡ false → c ≡ false
less b true f h = let yes = f refl in cc
less b false f h = refl

-- ---- 2. rules that hang on nothing that was before: no more is seen than is

has_some_any : (q : List Queued) → has_some q ≡ list_any (λ c. true) q
has_some_any [] = refl
has_some_any (c ∷ cs) = refl

refused_less : (g : Parts) (c : Command) (p : PageAddress) (seen is : List Queued) → Within seen is → refused_by g c p seen ≡ true → refused_by g c p is ≡ true
refused_less g Read p seen is w h = w (read_clashes g p) h
refused_less g BlockErase p seen is w h = w (queued_clashes g true p) h
refused_less g PageProgram p seen is w h = w (queued_clashes g false p) h
refused_less g ChangeWriteColumn p seen is w h = w (queued_clashes g false p) h
refused_less g c p seen is w h = cc

opening_refused : (g : Parts) (o : Option Opening) (p : PageAddress) (seen is : List Queued) → Within seen is → is_refused_by g o p seen ≡ true → is_refused_by g o p is ≡ true
opening_refused g None p seen is w h = h
opening_refused g (Some o) p seen is w h =
    let a = and_parts (at_last_row o.opener o.addresses) (refused_by g o.opener p seen) h in
    and_from (at_last_row o.opener o.addresses) (refused_by g o.opener p is) a.0 (refused_less g o.opener p seen is w a.1)

idle_up : (t s : LunView) → IsUnder t s → not t.busy ≡ true → not s.busy ≡ true
idle_up t s b h = not_less s.busy t.busy b.busy h

queue_down : (t s : LunView) → IsUnder t s → has_some s.queue ≡ true → has_some t.queue ≡ true
queue_down t s b h = has_some_any t.queue ∙ b.queue (λ c. true) (sym (has_some_any s.queue) ∙ h)

-- where a target is shared: no more work is seen that was given beside other work, and none that is of the whole target
pub record IsClear (ts ss : List LunView) : Type 0 where
  pub overlapped : list_any (λ v. v.overlapped) ss ≡ true → list_any (λ v. v.overlapped) ts ≡ true
  pub target : list_any works_for_target ss ≡ true → list_any works_for_target ts ≡ true

pub plain_clear : (g : Parts) (ts ss : List LunView) → is_shared g ≡ false → is_shared g ≡ true → IsClear ts ss
plain_clear g ts ss plain shared = absurd (true≢false (sym shared ∙ plain))

unclear_down : (ts ss : List LunView) (c : Command) → IsClear ts ss → is_unclear ss c ≡ true → is_unclear ts c ≡ true
unclear_down ts ss ReadStatus k h = k.overlapped h
unclear_down ts ss ReadStatusEnhanced k h = k.target h
unclear_down ts ss c k h = cc

either_less : (a p q r : Bool) → (a ≡ true → q ≡ true → p ≡ true) → cond a p r ≡ false → cond a q r ≡ false
either_less true p q r f h = less p q (f refl) h
either_less false p q r f h = h

module _ (g : Parts) (ts ss : List LunView) (each : Each IsUnder ts ss) (clear : is_shared g ≡ true → IsClear ts ss) where
  pub several_kept : (c : TargetCycle) → breaks_several_luns g ts c ≡ false → breaks_several_luns g ss c ≡ false
  unfolding breaks_several_luns
  several_kept (CommandCycle c) h = either_less (is_shared g) (is_unclear ts c) (is_unclear ss c) _ (λ shared. unclear_down ts ss c (clear shared)) h
  several_kept (AddressCycle byte) h = refl
  several_kept (InputCycle byte) h = refl
  several_kept OutputCycle h = refl

  pub busy_command : (u t : TailFacts) (c : Command) → (begins_on_ready t c ≡ true → begins_on_ready u c ≡ true) → breaks_lun_busy g u ts (CommandCycle c) ≡ false → breaks_lun_busy g t ss (CommandCycle c) ≡ false
  unfolding breaks_lun_busy
  busy_command u t c ready h =
      let o = or_parts (begins_on_ready u c && not (list_any (λ v. not v.busy) ts)) (is_shared g && (reads_identity c && list_any (λ v. v.busy) ts)) h in
      or_from (begins_on_ready t c && not (list_any (λ v. not v.busy) ss)) (is_shared g && (reads_identity c && list_any (λ v. v.busy) ss))
      (both_less (begins_on_ready u c) (not (list_any (λ v. not v.busy) ts)) (begins_on_ready t c) (not (list_any (λ v. not v.busy) ss)) ready
      (not_less (list_any (λ v. not v.busy) ts) (list_any (λ v. not v.busy) ss) (any_up IsUnder (λ v. not v.busy) (λ v. not v.busy) idle_up ts ss each)) o.0)
      (and_less (is_shared g) (reads_identity c && list_any (λ v. v.busy) ts) (reads_identity c && list_any (λ v. v.busy) ss)
      (λ x.
      let a = and_parts (reads_identity c) (list_any (λ v. v.busy) ss) x in
      and_from (reads_identity c) (list_any (λ v. v.busy) ts) a.0 (any_down IsUnder (λ v. v.busy) (λ v. v.busy) (λ p q b. b.busy) ts ss each a.1)) o.1)

  pub queue_command : (u t : TailFacts) (c : Command) → breaks_queue_clash g u ts (CommandCycle c) ≡ false → breaks_queue_clash g t ss (CommandCycle c) ≡ false
  unfolding breaks_queue_clash
  queue_command u t c h =
      and_less (reads_identity c) (list_any (λ v. has_some v.queue) ts) (list_any (λ v. has_some v.queue) ss)
      (any_down IsUnder (λ v. has_some v.queue) (λ v. has_some v.queue) queue_down ts ss each) h

  pub busy_kept : (t : TailFacts) (cycle : TargetCycle) → breaks_lun_busy g t ts cycle ≡ false → breaks_lun_busy g t ss cycle ≡ false
  unfolding breaks_lun_busy
  busy_kept t (CommandCycle c) h = busy_command t t c (λ x. x) h
  busy_kept t (AddressCycle byte) h =
      and_less (ends_row addresses_the_array t) (named_lun_is g (row_with t byte) (λ v. v.busy) ts || (is_shared g && list_any works_for_target ts))
      (named_lun_is g (row_with t byte) (λ v. v.busy) ss || (is_shared g && list_any works_for_target ss))
      (λ x.
      either_of (named_lun_is g (row_with t byte) (λ v. v.busy) ss) (is_shared g && list_any works_for_target ss) x
      (λ y. or_left (named_lun_is g (row_with t byte) (λ v. v.busy) ts) (is_shared g && list_any works_for_target ts) (lun_down IsUnder (λ v. v.busy) (λ v. v.busy) (λ p q b. b.busy) ts ss _ each y))
      (λ y.
      let a = and_parts (is_shared g) (list_any works_for_target ss) y in
      or_right (named_lun_is g (row_with t byte) (λ v. v.busy) ts) (is_shared g && list_any works_for_target ts)
      (and_from (is_shared g) (list_any works_for_target ts) a.0 ((clear a.0).target a.1)))) h
  busy_kept t (InputCycle byte) h = refl
  busy_kept t OutputCycle h = refl

  pub queue_kept : (t : TailFacts) (cycle : TargetCycle) → breaks_queue_clash g t ts cycle ≡ false → breaks_queue_clash g t ss cycle ≡ false
  unfolding breaks_queue_clash
  queue_kept t (CommandCycle c) h = queue_command t t c h
  queue_kept t (AddressCycle byte) h =
      less (named_lun_is g (row_with t byte) (λ v. is_refused_by g t.opening (page_address g (row_with t byte)) v.queue) ts)
      (named_lun_is g (row_with t byte) (λ v. is_refused_by g t.opening (page_address g (row_with t byte)) v.queue) ss)
      (lun_down IsUnder (λ v. is_refused_by g t.opening (page_address g (row_with t byte)) v.queue) (λ v. is_refused_by g t.opening (page_address g (row_with t byte)) v.queue)
      (λ x y b. opening_refused g t.opening (page_address g (row_with t byte)) y.queue x.queue b.queue) ts ss _ each) h
  queue_kept t (InputCycle byte) h = refl
  queue_kept t OutputCycle h = refl

-- ---- 3. what hangs on what was before

-- no rule is seen to be broken, or one that hangs on what was before
abbrev pub OnlyHangs : Option Forbidden → Type 0
OnlyHangs None = Unit {0}
OnlyHangs (Some rule) = hangs_on_before rule ≡ true

only_six : (a b c d e f : Bool) →
    OnlyHangs (cond a (Some NoColumnToChange) (cond b (Some NoSoleDriver) (cond c (Some DataNotReady) (cond d (Some ColumnOutside) (cond e (Some CacheReadMisplaced) (cond f (Some PlaneNotHeld) None))))))
only_six true b c d e f = refl
only_six false true c d e f = refl
only_six false false true d e f = refl
only_six false false false true e f = refl
only_six false false false false true f = refl
only_six false false false false false true = refl
only_six false false false false false false = tt

-- the first of the rules that hang on what was before
abbrev pub six : (a b c d e f : Bool) → Option Forbidden
six a b c d e f = cond a (Some NoColumnToChange) (cond b (Some NoSoleDriver) (cond c (Some DataNotReady) (cond d (Some ColumnOutside) (cond e (Some CacheReadMisplaced) (cond f (Some PlaneNotHeld) None)))))

abbrev pub six_of : Parts → TailFacts → List LunView → TargetCycle → Option Forbidden
six_of g t ss cycle = six (breaks_no_column_to_change ss cycle) (breaks_no_sole_driver t ss cycle) (breaks_data_not_ready ss cycle) (breaks_column_outside g t ss cycle) (breaks_cache_read_misplaced g t ss cycle) (breaks_plane_not_held g t ss cycle)

-- where a chip has no copyback
copyless_kept : (g : Parts) (t : TailFacts) (ss : List LunView) (cycle : TargetCycle) → has_copyback g.optional ≡ false → breaks_copyback_misplaced g t ss cycle ≡ false
unfolding breaks_copyback_misplaced
copyless_kept g t ss (CommandCycle ProgramCache) h = rw h refl
copyless_kept g t ss (CommandCycle c) h = refl
copyless_kept g t ss (AddressCycle byte) h = rw h refl
copyless_kept g t ss (InputCycle byte) h = refl
copyless_kept g t ss OutputCycle h = refl

-- where a chip programs no caches
none_any : (vs : List LunView) → list_any (λ v. false) vs ≡ false
none_any [] = refl
none_any (v ∷ vs) = none_any vs

none_some : (o : Option LunView) → is_some_and (λ v. false) o ≡ false
none_some None = refl
none_some (Some v) = refl

spare_down : (t s : LunView) → SpareSeen t s → programs s ≡ true → false ≡ true
spare_down t s p h = sym (spare_programs s p) ∙ h

uncached_kept : (g : Parts) (t : TailFacts) (ts ss : List LunView) (cycle : TargetCycle) → has_program_cache g.optional ≡ false → Each SpareSeen ts ss → breaks_command_unknown g cycle ≡ false → breaks_cache_program_misplaced g t ss cycle ≡ false
unfolding breaks_cache_program_misplaced breaks_command_unknown
uncached_kept g t ts ss (CommandCycle ProgramCache) none spare f2 = let known : true ≡ false = rw none at f2 in cc
uncached_kept g t ts ss (CommandCycle c) none spare f2 =
    and_right (reads_identity c) (list_any programs ss) (less (list_any (λ v. false) ts) (list_any programs ss) (any_down SpareSeen (λ v. false) programs spare_down ts ss spare) (none_any ts))
uncached_kept g t ts ss (AddressCycle byte) none spare f2 =
    and_right (ends_row excludes_program t) (named_lun_is g (row_with t byte) programs ss)
    (less (named_lun_is g (row_with t byte) (λ v. false) ts) (named_lun_is g (row_with t byte) programs ss) (lun_down SpareSeen (λ v. false) programs spare_down ts ss _ spare) (none_some _))
uncached_kept g t ts ss (InputCycle byte) none spare f2 = refl
uncached_kept g t ts ss OutputCycle none spare f2 = refl

pub judged_six : (g : Parts) → IsNarrow g → (t : TailFacts) (ts ss : List LunView) (cycle : TargetCycle) → Each IsUnder ts ss → (is_shared g ≡ true → IsClear ts ss) → Each SpareSeen ts ss → KeepsRules g t ts cycle → judge_cycle g t ss cycle ≡ six_of g t ss cycle
judged_six g copyless t ts ss cycle each clear spare k = rw (uncached_kept g t ts ss cycle copyless.cache spare k.f2, copyless_kept g t ss cycle copyless.copyback, k.f2, k.f3, several_kept g ts ss each clear cycle k.f4, k.f6, k.f7, k.f8, busy_kept g ts ss each clear t cycle k.f9, queue_kept g ts ss each clear t cycle k.f10, k.f11) refl

-- the tail is the same, or an opener comes and no tail was seen
pub only_hangs : (g : Parts) → IsNarrow g → (t : TailFacts) (ts ss : List LunView) (cycle : TargetCycle) → Each IsUnder ts ss → (is_shared g ≡ true → IsClear ts ss) → Each SpareSeen ts ss → KeepsRules g t ts cycle → OnlyHangs (judge_cycle g t ss cycle)
only_hangs g copyless t ts ss cycle each clear spare k =
    rw (uncached_kept g t ts ss cycle copyless.cache spare k.f2, copyless_kept g t ss cycle copyless.copyback, k.f2, k.f3, several_kept g ts ss each clear cycle k.f4, k.f6, k.f7, k.f8, busy_kept g ts ss each clear t cycle k.f9, queue_kept g ts ss each clear t cycle k.f10, k.f11)
    (only_six (breaks_no_column_to_change ss cycle) (breaks_no_sole_driver t ss cycle) (breaks_data_not_ready ss cycle) (breaks_column_outside g t ss cycle) (breaks_cache_read_misplaced g t ss cycle) (breaks_plane_not_held g t ss cycle))

fresh_open : (g : Parts) (c : Command) → breaks_sequence_open g (facts_of []) (CommandCycle c) ≡ false
unfolding breaks_sequence_open
fresh_open g c = and_right (opens_here g c) _ refl

fresh_placed : (g : Parts) (c : Command) → opens_here g c ≡ true → breaks_command_misplaced g (facts_of []) (CommandCycle c) ≡ false
unfolding breaks_command_misplaced
fresh_placed g c h = rw h refl

-- what begins sequences of the chip is an opener
pub opens_is : (g : Parts) (c : Command) → opens_here g c ≡ true → is_opener c ≡ true
opens_is g ChangeWriteColumn h = refl
opens_is g c h = h

-- an opener that wants a ready LUN behind no tail does so behind each, where 85 begins nothing
fresh_ready : (g : Parts) (u : TailFacts) (c : Command) → IsNarrow g → opens_here g c ≡ true → begins_on_ready (facts_of []) c ≡ true → begins_on_ready u c ≡ true
fresh_ready g u ChangeWriteColumn copyless h x = absurd (true≢false (sym h ∙ copyless.copyback))
fresh_ready g u ReadCacheSequential copyless h x = cc
fresh_ready g u c copyless h x = x

fresh_address : (g : Parts) (c : Command) → breaks_address_misplaced g (facts_of []) (CommandCycle c) ≡ false
unfolding breaks_address_misplaced
fresh_address g c = refl

fresh_row : (g : Parts) (c : Command) → breaks_row_outside g (facts_of []) (CommandCycle c) ≡ false
unfolding breaks_row_outside
fresh_row g c = refl

fresh_input : (c : Command) → breaks_input_misplaced (facts_of []) (CommandCycle c) ≡ false
unfolding breaks_input_misplaced
fresh_input c = refl

pub only_hangs_fresh : (g : Parts) → IsNarrow g → (t : TailFacts) (ts ss : List LunView) (c : Command) → opens_here g c ≡ true → Each IsUnder ts ss → (is_shared g ≡ true → IsClear ts ss) → Each SpareSeen ts ss → KeepsRules g t ts (CommandCycle c) → OnlyHangs (judge_cycle g (facts_of []) ss (CommandCycle c))
only_hangs_fresh g copyless t ts ss c opener each clear spare k =
    rw (uncached_kept g (facts_of []) ts ss (CommandCycle c) copyless.cache spare k.f2, copyless_kept g (facts_of []) ss (CommandCycle c) copyless.copyback, k.f2, fresh_open g c, several_kept g ts ss each clear (CommandCycle c) k.f4, fresh_placed g c opener, fresh_address g c, fresh_row g c, busy_command g ts ss each clear t (facts_of []) c (fresh_ready g t c copyless opener) k.f9, queue_command g ts ss each clear t (facts_of []) c k.f10, fresh_input c)
    (only_six (breaks_no_column_to_change ss (CommandCycle c)) (breaks_no_sole_driver (facts_of []) ss (CommandCycle c)) (breaks_data_not_ready ss (CommandCycle c)) (breaks_column_outside g (facts_of []) ss (CommandCycle c)) (breaks_cache_read_misplaced g (facts_of []) ss (CommandCycle c)) (breaks_plane_not_held g (facts_of []) ss (CommandCycle c)))

pub judged_six_fresh : (g : Parts) → IsNarrow g → (t : TailFacts) (ts ss : List LunView) (c : Command) → opens_here g c ≡ true → Each IsUnder ts ss → (is_shared g ≡ true → IsClear ts ss) → Each SpareSeen ts ss → KeepsRules g t ts (CommandCycle c) → judge_cycle g (facts_of []) ss (CommandCycle c) ≡ six_of g (facts_of []) ss (CommandCycle c)
judged_six_fresh g copyless t ts ss c opener each clear spare k =
    rw (uncached_kept g (facts_of []) ts ss (CommandCycle c) copyless.cache spare k.f2, copyless_kept g (facts_of []) ss (CommandCycle c) copyless.copyback, k.f2, fresh_open g c, several_kept g ts ss each clear (CommandCycle c) k.f4, fresh_placed g c opener, fresh_address g c, fresh_row g c, busy_command g ts ss each clear t (facts_of []) c (fresh_ready g t c copyless opener) k.f9, queue_command g ts ss each clear t (facts_of []) c k.f10, fresh_input c) refl

-- ---- 4. where all is known of each LUN

pub record IsKnown (t s : LunView) : Type 0 where
  pub below : IsUnder t s
  pub begun : IsBegun t s
  pub same : IsSame t s
  pub held : is_page_read s.closer ≡ true → t.held ≡ s.held

-- and what a copyback hangs on
pub record IsCopied (t s : LunView) : Type 0 where
  pub closer : t.closer ≡ s.closer
  pub held : t.held ≡ s.held
  pub queue : t.queue ≡ s.queue

known_off : (t s : LunView) → IsKnown t s → is_off t.latch ≡ is_off s.latch
known_off t s k = k.same.off

page_not_empty : (r : Register) → is_page_or_parameters r ≡ true → is_empty r ≡ false
page_not_empty Empty h = cc
page_not_empty (Page p) h = refl
page_not_empty ParameterPage h = refl
page_not_empty Identifier h = refl
page_not_empty Identity h = refl
page_not_empty JedecIdentity h = refl
page_not_empty UniqueId h = refl
page_not_empty (Features address) h = refl

same_page : (t s : LunView) → IsBegun t s → is_page_or_parameters t.register ≡ is_page_or_parameters s.register
same_page t s b = ap is_page_or_parameters b.register

same_empty : (t s : LunView) → IsBegun t s → is_empty t.register ≡ is_empty s.register
same_empty t s b = ap is_empty b.register

same_len : (g : Parts) (t s : LunView) → IsBegun t s → register_len g t.register ≡ register_len g s.register
same_len g t s b = ap (register_len g) b.register

data_is : (l : Latch) → is_data l ≡ true → l ≡ Data
data_is Off h = cc
data_is Status h = cc
data_is Data h = refl

data_down : (t s : LunView) → IsUnder t s → is_data s.latch ≡ true → is_data t.latch ≡ true
data_down t s b h = of s.latch (data_is s.latch h) b.latch
  where
    of : (l : Latch) → l ≡ Data → Shows l t.latch → is_data t.latch ≡ true
    of Off h x = cc
    of Status h x = cc
    of Data h x = ap is_data x

column_up : (t s : LunView) → IsKnown t s → may_change_column t ≡ true → may_change_column s ≡ true
column_up t s k h =
    let a = and_parts (is_data t.latch) (not t.busy && is_page_or_parameters t.register) h in
    let b = and_parts (not t.busy) (is_page_or_parameters t.register) a.1 in
    let page : is_page_or_parameters s.register ≡ true = sym (same_page t s k.begun) ∙ b.1 in
    let latch : is_data s.latch ≡ true = ap is_data (sym (k.same.latch (page_not_empty s.register page))) ∙ a.0 in
    and_from (is_data s.latch) (not s.busy && is_page_or_parameters s.register) latch
    (and_from (not s.busy) (is_page_or_parameters s.register) (ap not (sym k.begun.busy) ∙ b.0) page)

no_byte_down : (t s : LunView) → IsKnown t s → has_no_byte s ≡ true → has_no_byte t ≡ true
no_byte_down t s k h =
    let a = and_parts (is_data s.latch) _ h in
    let b = k.begun in
    and_from (is_data t.latch) (t.busy || is_empty t.register || lacks (output_column t.column)) (data_down t s k.below a.0) (at (is_empty s.register) refl a.1)
  where
    at : (b : Bool) → is_empty s.register ≡ b → (s.busy || is_empty s.register || lacks (output_column s.column)) ≡ true → (t.busy || is_empty t.register || lacks (output_column t.column)) ≡ true
    at true e x = or_left (t.busy || is_empty t.register) (lacks (output_column t.column)) (or_right t.busy (is_empty t.register) (same_empty t s k.begun ∙ e))
    at false e x = rw (k.begun.busy, same_empty t s k.begun, k.begun.column e) x

past_down : (g : Parts) (t s : LunView) → IsKnown t s → is_past_register g s ≡ true → (is_past_register g t || has_no_byte t) ≡ true
past_down g t s k h =
    let a = and_parts (is_data s.latch) (is_past (output_column s.column) (register_len g s.register)) h in
    at (is_empty s.register) refl (data_down t s k.below a.0) a.1
  where
    at : (e : Bool) → is_empty s.register ≡ e → is_data t.latch ≡ true → is_past (output_column s.column) (register_len g s.register) ≡ true → (is_past_register g t || has_no_byte t) ≡ true
    at true e d x = or_right (is_past_register g t) (has_no_byte t) (and_from (is_data t.latch) (t.busy || is_empty t.register || lacks (output_column t.column)) d (or_left (t.busy || is_empty t.register) (lacks (output_column t.column)) (or_right t.busy (is_empty t.register) (same_empty t s k.begun ∙ e))))
    at false e d x = or_left (is_past_register g t) (has_no_byte t) (and_from (is_data t.latch) _ d (rw (k.begun.column e, same_len g t s k.begun) x))

-- one page was read, and no more
one_up : (t s : LunView) → IsKnown t s → has_read_one t ≡ true → has_read_one s ≡ true
one_up t s k h =
    let a = and_parts (is_page_read t.closer) (leb (length t.held) 1) h in
    let reads : is_page_read s.closer ≡ true = ap is_page_read (sym k.begun.closer) ∙ a.0 in
    and_from (is_page_read s.closer) (leb (length s.held) 1) reads (ap (λ (pages : List PageAddress). leb (length pages) 1) (sym (k.held reads)) ∙ a.1)

continues_up : (g : Parts) (t s : LunView) → IsKnown t s → continues_cache g t ≡ true → continues_cache g s ≡ true
continues_up g t s k h =
    let a = and_parts (not t.busy) (has_read_one t && ltb (t.array_page.page + 1) g.pages) h in
    let b = and_parts (has_read_one t) (ltb (t.array_page.page + 1) g.pages) a.1 in
    let one : has_read_one s ≡ true = one_up t s k b.0 in
    let reads : is_page_read s.closer ≡ true = (and_parts (is_page_read s.closer) (leb (length s.held) 1) one).0 in
    and_from (not s.busy) _ (ap not (sym k.begun.busy) ∙ a.0)
    (and_from (has_read_one s) _ one (ap (λ p. ltb (p.page + 1) g.pages) (sym (k.begun.page reads)) ∙ b.1))

-- a page of this plane is held, and nothing is queued
holds_up : (g : Parts) (p : PageAddress) (t s : LunView) → IsKnown t s → holds_plane_of g p t ≡ true → holds_plane_of g p s ≡ true
holds_up g p t s k h =
    let a = and_parts (not (has_some t.queue)) (list_any (in_plane g p) t.held) h in
    let none : has_some s.queue ≡ false = less (has_some t.queue) (has_some s.queue) (queue_down t s k.below) (not-true (has_some t.queue) a.0) in
    and_from (not (has_some s.queue)) (list_any (in_plane g p) s.held) (ap not none) (ap (list_any (in_plane g p)) (sym (k.begun.held none)) ∙ a.1)
  where
    in_plane : Parts → PageAddress → PageAddress → Bool
    in_plane g p q = q.block % planes g == p.block % planes g

ends_up : (t s : LunView) → IsKnown t s → ends_cache t ≡ true → ends_cache s ≡ true
ends_up t s k h =
    let a = and_parts (not t.busy) (is_cache_read t.closer) h in
    and_from (not s.busy) (is_cache_read s.closer) (ap not (sym k.begun.busy) ∙ a.0) (ap is_cache_read (sym k.begun.closer) ∙ a.1)

programs_down : (t s : LunView) → IsKnown t s → programs s ≡ true → programs t ≡ true
programs_down t s k h = rw (k.begun.busy, k.begun.closer, k.begun.array_busy) h

held_down : (t s : LunView) → IsCopied t s → not (holds_none s.held) ≡ true → not (holds_none t.held) ≡ true
held_down t s k h = rw k.held h

caching_down : (t s : LunView) → IsKnown t s → caching s ≡ true → caching t ≡ true
caching_down t s k h = ap is_cache_read k.begun.closer ∙ h

either_driver : (p q : LunView → Bool) (o : Option LunView) → is_some_and p o ≡ false → is_some_and q o ≡ false → is_some_and (λ v. p v || q v) o ≡ false
either_driver p q None a b = refl
either_driver p q (Some v) a b = or_from (p v) (q v) a b

-- of two tests that both are kept, whichever it is
either_kept : (w a b c d : Bool) → (a ≡ true → c ≡ true) → (b ≡ true → d ≡ true) → cond w (not a) (not b) ≡ false → cond w (not c) (not d) ≡ false
either_kept true a b c d f h e = not_from_true c (f (not-false a e))
either_kept false a b c d f h e = not_from_true d (h (not-false b e))

module _ (g : Parts) (ts ss : List LunView) (each : Each IsKnown ts ss) (clear : is_shared g ≡ true → IsClear ts ss) where
  pub column_kept : (c : TargetCycle) → breaks_no_column_to_change ts c ≡ false → breaks_no_column_to_change ss c ≡ false
  unfolding breaks_no_column_to_change
  column_kept (CommandCycle ChangeReadColumn) h = not_from_true (driver_is may_change_column ss) (driver_up IsKnown may_change_column may_change_column known_off column_up ts ss each (not-false (driver_is may_change_column ts) h))
  column_kept (CommandCycle c) h = refl
  column_kept (AddressCycle byte) h = refl
  column_kept (InputCycle byte) h = refl
  column_kept OutputCycle h = refl

  pub driver_kept : (t : TailFacts) (c : TargetCycle) → breaks_no_sole_driver t ts c ≡ false → breaks_no_sole_driver t ss c ≡ false
  unfolding breaks_no_sole_driver
  driver_kept t (CommandCycle c) h = refl
  driver_kept t (AddressCycle byte) h = refl
  driver_kept t (InputCycle byte) h = refl
  driver_kept t OutputCycle h =
      let o = or_parts (is_open t) (not (driver_is (λ v. true) ts)) h in
      or_from (is_open t) _ o.0 (not_from_true (driver_is (λ v. true) ss) (driver_up IsKnown (λ v. true) (λ v. true) known_off (λ x y k r. refl) ts ss each (not-false (driver_is (λ v. true) ts) o.1)))

  pub data_kept : (c : TargetCycle) → breaks_data_not_ready ts c ≡ false → breaks_data_not_ready ss c ≡ false
  unfolding breaks_data_not_ready
  data_kept (CommandCycle c) h = refl
  data_kept (AddressCycle byte) h = refl
  data_kept (InputCycle byte) h = refl
  data_kept OutputCycle h = less (driver_is has_no_byte ts) (driver_is has_no_byte ss) (driver_down IsKnown has_no_byte has_no_byte known_off no_byte_down ts ss each) h

  pub outside_kept : (t : TailFacts) (c : TargetCycle) → breaks_data_not_ready ts c ≡ false → breaks_column_outside g t ts c ≡ false → breaks_column_outside g t ss c ≡ false
  unfolding breaks_data_not_ready breaks_column_outside
  outside_kept t (CommandCycle c) d h = refl
  outside_kept t (AddressCycle byte) d h =
      let o = or_parts (second_of_page t && leb _ (column_with t byte)) _ h in
      or_from (second_of_page t && leb _ (column_with t byte)) _ o.0
      (and_less (second_column is_change_read_column t) (driver_is (λ v. leb (register_len g v.register) (column_with t byte)) ts) (driver_is (λ v. leb (register_len g v.register) (column_with t byte)) ss)
      (driver_down IsKnown (λ v. leb (register_len g v.register) (column_with t byte)) (λ v. leb (register_len g v.register) (column_with t byte)) known_off
      (λ x y k r. ap (λ n. leb n (column_with t byte)) (same_len g x y k.begun) ∙ r) ts ss each) o.1)
  outside_kept t (InputCycle byte) d h = h
  outside_kept t OutputCycle d h =
      less (driver_is (λ v. is_past_register g v || has_no_byte v) ts) (driver_is (is_past_register g) ss)
      (driver_down IsKnown (λ v. is_past_register g v || has_no_byte v) (is_past_register g) known_off (past_down g) ts ss each)
      (either_driver (is_past_register g) has_no_byte _ h d)

  pub cache_command : (t : TailFacts) (c : Command) → breaks_cache_read_misplaced g t ts (CommandCycle c) ≡ false → breaks_cache_read_misplaced g t ss (CommandCycle c) ≡ false
  unfolding breaks_cache_read_misplaced
  cache_command t ReadCacheSequential h =
      either_kept (wants_command t ReadCacheSequential) (named_lun_is g (row t) has_read_one ts) (driver_is (continues_cache g) ts)
      (named_lun_is g (row t) has_read_one ss) (driver_is (continues_cache g) ss)
      (lun_up IsKnown has_read_one has_read_one one_up ts ss _ each)
      (driver_up IsKnown (continues_cache g) (continues_cache g) known_off (continues_up g) ts ss each) h
  cache_command t ReadConfirm h =
      and_less (is_wide g.optional) (named_lun_is g (row t) caching ts) (named_lun_is g (row t) caching ss) (lun_down IsKnown caching caching caching_down ts ss _ each) h
  cache_command t ReadPlane h = less (named_lun_is g (row t) caching ts) (named_lun_is g (row t) caching ss) (lun_down IsKnown caching caching caching_down ts ss _ each) h
  cache_command t CopybackRead h = less (named_lun_is g (row t) caching ts) (named_lun_is g (row t) caching ss) (lun_down IsKnown caching caching caching_down ts ss _ each) h
  cache_command t ReadCacheEnd h = not_from_true (driver_is ends_cache ss) (driver_up IsKnown ends_cache ends_cache known_off ends_up ts ss each (not-false (driver_is ends_cache ts) h))
  cache_command t c h = and_less (reads_identity c) (list_any caching ts) (list_any caching ss) (any_down IsKnown caching caching caching_down ts ss each) h

  -- an opener that closes nothing, behind what wasn't seen
  pub cache_fresh : (u : TailFacts) (c : Command) → begins_anew u (CommandCycle c) ≡ true → breaks_cache_read_misplaced g u ts (CommandCycle c) ≡ false → breaks_cache_read_misplaced g (facts_of []) ss (CommandCycle c) ≡ false
  unfolding breaks_cache_read_misplaced
  cache_fresh u ReadCacheSequential anew h =
      let driven = rw (not-true (wants_command u ReadCacheSequential) anew) at h in
      not_from_true (driver_is (continues_cache g) ss) (driver_up IsKnown (continues_cache g) (continues_cache g) known_off (continues_up g) ts ss each (not-false (driver_is (continues_cache g) ts) driven))
  cache_fresh u ReadConfirm anew h = cc
  cache_fresh u ReadPlane anew h = cc
  cache_fresh u CopybackRead anew h = cc
  cache_fresh u ReadCacheEnd anew h = not_from_true (driver_is ends_cache ss) (driver_up IsKnown ends_cache ends_cache known_off ends_up ts ss each (not-false (driver_is ends_cache ts) h))
  cache_fresh u c anew h = and_less (reads_identity c) (list_any caching ts) (list_any caching ss) (any_down IsKnown caching caching caching_down ts ss each) h

  pub cache_kept : (t : TailFacts) (c : TargetCycle) → breaks_cache_read_misplaced g t ts c ≡ false → breaks_cache_read_misplaced g t ss c ≡ false
  unfolding breaks_cache_read_misplaced
  cache_kept t (CommandCycle c) h = cache_command t c h
  cache_kept t (AddressCycle byte) h =
      and_less (ends_row (excludes_cache g) t) (named_lun_is g (row_with t byte) caching ts) (named_lun_is g (row_with t byte) caching ss)
      (lun_down IsKnown caching caching caching_down ts ss _ each) h
  cache_kept t (InputCycle byte) h = refl
  cache_kept t OutputCycle h = refl

  pub plane_kept : (t : TailFacts) (c : TargetCycle) → breaks_plane_not_held g t ts c ≡ false → breaks_plane_not_held g t ss c ≡ false
  unfolding breaks_plane_not_held
  plane_kept t (CommandCycle c) h = refl
  plane_kept t (AddressCycle byte) h =
      and_less (ends_row is_enhanced_column t) (named_lun_is g (row_with t byte) holds_none ts) (named_lun_is g (row_with t byte) holds_none ss)
      (lun_down IsKnown holds_none holds_none (λ x y k r. not_less (holds_plane_of g page x) (holds_plane_of g page y) (holds_up g page x y k) r) ts ss _ each) h
    where
      page : PageAddress
      page = page_address g (row_with t byte)

      holds_none : LunView → Bool
      holds_none v = not (holds_plane_of g page v)
  plane_kept t (InputCycle byte) h = refl
  plane_kept t OutputCycle h = refl

  pub program_kept : (t : TailFacts) (c : TargetCycle) → breaks_cache_program_misplaced g t ts c ≡ false → breaks_cache_program_misplaced g t ss c ≡ false
  unfolding breaks_cache_program_misplaced
  program_kept t (CommandCycle ProgramCache) h =
      and_less (not (has_group_cache g.optional)) (named_lun_is g (row t) (λ v. has_some v.queue) ts) (named_lun_is g (row t) (λ v. has_some v.queue) ss)
      (lun_down IsKnown (λ v. has_some v.queue) (λ v. has_some v.queue) (λ x y k r. queue_down x y k.below r) ts ss _ each) h
  program_kept t (CommandCycle c) h = and_less (reads_identity c) (list_any programs ts) (list_any programs ss) (any_down IsKnown programs programs programs_down ts ss each) h
  program_kept t (AddressCycle byte) h =
      and_less (ends_row excludes_program t) (named_lun_is g (row_with t byte) programs ts) (named_lun_is g (row_with t byte) programs ss) (lun_down IsKnown programs programs programs_down ts ss _ each) h
  program_kept t (InputCycle byte) h = refl
  program_kept t OutputCycle h = refl

  -- where a chip has a copyback
  copyback_kept : (has_copyback g.optional ≡ true → Each IsCopied ts ss) → (t : TailFacts) (c : TargetCycle) → breaks_copyback_misplaced g t ts c ≡ false → breaks_copyback_misplaced g t ss c ≡ false
  unfolding breaks_copyback_misplaced
  copyback_kept copies t (CommandCycle ProgramCache) h =
      when_less (has_copyback g.optional) (named_lun_is g (row t) (λ v. not (holds_none v.held)) ts) (named_lun_is g (row t) (λ v. not (holds_none v.held)) ss)
      (λ has x. lun_down IsCopied (λ v. not (holds_none v.held)) (λ v. not (holds_none v.held)) held_down ts ss _ (copies has) x) h
  copyback_kept copies t (CommandCycle c) h = refl
  copyback_kept copies t (AddressCycle byte) h = when_less (has_copyback g.optional) (Broken ts) (Broken ss) (λ has x. down (copies has) x) h
    where
      page : PageAddress
      page = page_address g (row_with t byte)

      none : LunView → Bool
      none v = not (may_copy g page v)

      Broken : List LunView → Bool
      Broken vs = (ends_row is_write_column t && named_lun_is g (row_with t byte) none vs) || (ends_row is_page_program t && named_lun_is g (row_with t byte) is_copying vs)

      none_down : (x y : LunView) → IsCopied x y → none y ≡ true → none x ≡ true
      none_down x y k r = rw (k.closer, k.held) r

      copying_down : (x y : LunView) → IsCopied x y → is_copying y ≡ true → is_copying x ≡ true
      copying_down x y k r = rw (k.queue, k.held) r

      down : Each IsCopied ts ss → Broken ss ≡ true → Broken ts ≡ true
      down e x =
          either_of (ends_row is_write_column t && named_lun_is g (row_with t byte) none ss) (ends_row is_page_program t && named_lun_is g (row_with t byte) is_copying ss) x
          (λ y.
          let a = and_parts (ends_row is_write_column t) (named_lun_is g (row_with t byte) none ss) y in
          or_left (ends_row is_write_column t && named_lun_is g (row_with t byte) none ts) (ends_row is_page_program t && named_lun_is g (row_with t byte) is_copying ts)
          (and_from (ends_row is_write_column t) (named_lun_is g (row_with t byte) none ts) a.0 (lun_down IsCopied none none none_down ts ss _ e a.1)))
          (λ y.
          let a = and_parts (ends_row is_page_program t) (named_lun_is g (row_with t byte) is_copying ss) y in
          or_right (ends_row is_write_column t && named_lun_is g (row_with t byte) none ts) (ends_row is_page_program t && named_lun_is g (row_with t byte) is_copying ts)
          (and_from (ends_row is_page_program t) (named_lun_is g (row_with t byte) is_copying ts) a.0 (lun_down IsCopied is_copying is_copying copying_down ts ss _ e a.1)))
  copyback_kept copies t (InputCycle byte) h = refl
  copyback_kept copies t OutputCycle h = refl

  below_each : Each IsUnder ts ss
  below_each = each_more IsKnown IsUnder (λ t s k. k.below) ts ss each

  pub none_broken : (has_copyback g.optional ≡ true → Each IsCopied ts ss) → (t : TailFacts) (cycle : TargetCycle) → KeepsRules g t ts cycle → judge_cycle g t ss cycle ≡ None
  none_broken copies t cycle k =
      rw (program_kept t cycle k.f16, copyback_kept copies t cycle k.f17, k.f2, k.f3, several_kept g ts ss below_each clear cycle k.f4, column_kept cycle k.f5, k.f6, k.f7, k.f8, busy_kept g ts ss below_each clear t cycle k.f9, queue_kept g ts ss below_each clear t cycle k.f10, k.f11, driver_kept t cycle k.f12, data_kept cycle k.f13, outside_kept t cycle k.f13 k.f14, cache_kept t cycle k.f15, plane_kept t cycle k.f18) refl

  pub none_broken_fresh : IsNarrow g → Each SpareSeen ts ss → (u : TailFacts) (c : Command) → opens_here g c ≡ true → begins_anew u (CommandCycle c) ≡ true → KeepsRules g u ts (CommandCycle c) → judge_cycle g (facts_of []) ss (CommandCycle c) ≡ None
  unfolding breaks_no_sole_driver breaks_data_not_ready breaks_column_outside breaks_plane_not_held
  none_broken_fresh copyless spare u c opener anew k =
      judged_six_fresh g copyless u ts ss c opener below_each clear spare k
      ∙ (rw (column_kept (CommandCycle c) k.f5, cache_fresh u c anew k.f15) refl)
