-- The wider profile permits what the base profile does, and a LUN that drives alone shows the same.
use Rattle.std.proofs.Common.{◌≡◌, ℕ, zero, suc, ◌+◌, ◌/◌, ◌%◌, ◌<◌, ◌==◌, Bool, true, false, ◌&&◌, ◌||◌, cond, not, nat_le, List, [], ◌∷◌, map, Option, Some, None, refl, sym, ap, subst, ◌∙◌, arith}
use Rattle.std.proofs.Math.Bool.{and-false}
use Rattle.std.specs.List.{list_any, slice_get}
use Rattle.std.specs.Option.{is_none}
use Rattle.std.proofs.lemmas.Bool.{and_parts, and_from, or_parts, not-false}
use Rattle.nand_geometry.specs.declared.parts.Parts.{Parts}
use Rattle.nand_geometry.specs.Optional.{is_wide, has_free_blocks, has_copyback}
use Rattle.nand_geometry.specs.Limits.{page_len, planes}
use Rattle.nand_geometry.specs.Row.{parts_of}
use Rattle.onfi_cycle.specs.declared.command.Command.{Command}
use Rattle.onfi_cycle.specs.declared.command.Command.TheVariants.{Read, ChangeReadColumn, ReadStatus, ReadId, ReadParameterPage, BlockErase, PageProgram, ReadStatusEnhanced, BlockErasePlane, ProgramPlane, ReadCacheSequential, ReadCacheEnd, ReadUniqueId, GetFeatures, SetFeatures, ResetLun, SynchronousReset, ReadConfirm, ChangeReadColumnEnhanced, ReadPlane, CopybackRead, ChangeWriteColumn, ProgramCache}
use Rattle.onfi_cycle.specs.declared.item.Item.{Item}
use Rattle.onfi_cycle.specs.declared.item.Item.TheVariants.{Cyc, Rdy, Ard}
use Rattle.onfi_cycle.specs.declared.lun.Lun.{Lun}
use Rattle.onfi_cycle.specs.declared.opening.Opening.{Opening}
use Rattle.onfi_cycle.specs.declared.page_address.PageAddress.{PageAddress}
use Rattle.onfi_cycle.specs.declared.queued.Queued.{Queued}
use Rattle.onfi_cycle.specs.declared.queued.Queued.TheVariants.{Erase, Program, Read as QueuedRead}
use Rattle.onfi_cycle.specs.declared.register.Register.{Register}
use Rattle.onfi_cycle.specs.declared.register.Register.TheVariants.{Empty, Page, ParameterPage, Identifier, Identity, JedecIdentity, UniqueId, Features}
use Rattle.onfi_cycle.specs.declared.effect.Effect.{Effect}
use Rattle.onfi_cycle.specs.declared.effect.Effect.TheVariants.{Unaffected, BecameReady, ArrayBecameReady, AnotherAddressed}
use Rattle.onfi_cycle.specs.declared.forbidden.Forbidden.{Forbidden}
use Rattle.onfi_cycle.specs.declared.forbidden.Forbidden.TheVariants.{NotThere}
use Rattle.onfi_cycle.specs.declared.tail_facts.TailFacts.{TailFacts}
use Rattle.onfi_cycle.specs.declared.target_cycle.TargetCycle.{TargetCycle}
use Rattle.onfi_cycle.specs.declared.target_cycle.TargetCycle.TheVariants.{CommandCycle, AddressCycle, InputCycle, OutputCycle}
use Rattle.onfi_cycle.specs.LunView.{LunView}
use Rattle.onfi_cycle.specs.Command.{is_known, is_opener, is_read_id, is_reset, at_last_row, is_change_read_column, addresses_the_array, reads_identity, wants_one_lun, is_enhanced_column, is_page_program, is_write_column}
use Rattle.onfi_cycle.specs.Sequence.{opened, opening, filled, tail, facts_of, target_of, target_cycle, is_open, wants_address, row_with, column_with, goes_on_with, wants_command, row}
use Rattle.onfi_cycle.specs.Effect.{is_off, is_data, is_shared, page_address, plane_of_row}
use Rattle.onfi_cycle.specs.Lun.{programs, is_plane_program, held, page_in_plane, output_column, effect_on, drivers, drivers_from, is_only, closer, is_target_work, is_busy, lun_view, views_from, luns_of}
use Rattle.onfi_cycle.specs.Content.{bytes_held, program_bytes, changes_after, changes_pages, ArrayWork, queued_work_after, queued_work, pending_work_after, pending_work, array_work_after, array_work, array_changes_after, array_changes, content_after, content, failed_after, has_failed, before_failed_after, has_failed_before, status_byte, register_bytes, byte_at, shown_by, shown}
use Rattle.onfi_cycle.specs.Rules.{is_copying, begins_on_ready, breaks_command_misplaced, breaks_copyback_misplaced, has_some, has_read_one, planes_clash, read_clashes, driving, only, is_some_and, lun_is, ends_row, works_for_target, is_unclear, may_change_column, has_no_byte, caching, continues_cache, ends_cache, driver_is, named_lun_is, register_len, is_past, is_past_register, queued_clashes, refused_by, is_refused_by, is_undeclared, second_of_page, second_column, breaks_not_there, breaks_command_unknown, breaks_sequence_open, breaks_several_luns, breaks_no_column_to_change, breaks_address_misplaced, breaks_row_outside, breaks_lun_busy, breaks_queue_clash, breaks_no_sole_driver, breaks_data_not_ready, breaks_column_outside, breaks_cache_read_misplaced, excludes_cache, breaks_plane_not_held, holds_plane_of}
use Rattle.onfi_cycle.specs.Permitted.{judge_cycle, judge_item, judge, broken, is_permitted, is_legal}
use Rattle.onfi_cycle.proofs.Others.{first_passed, chosen_else}
use Rattle.onfi_cycle.proofs.Passed.{KeepsRules, keeps_rules, permitted_keeps}
use Rattle.onfi_cycle.proofs.Booleans.{by_case}
use Rattle.onfi_cycle.proofs.Latches.{IsOne}
use Rattle.onfi_profiles.specs.Widening.{in_base, Widens}
use Rattle.onfi_profiles.proofs.Same.{view_same, effect_same, luns_same}
use Rattle.onfi_profiles.proofs.Shared.{Like, equal, passes, is_passed, core, one_lun_cycle}
use Rattle.onfi_profiles.proofs.Pasts.{lun_at, both_legal, in_column, driver_one, column_driver, confirm_uncached}
use Rattle.onfi_profiles.proofs.Alike.{AreAlike, base_tail, plain, same_latches, same_drivers, are_alike, effects_like}
use Rattle.onfi_profiles.proofs.OldTails.{base_cycle, is_base_cycle}
use Rattle.onfi_profiles.proofs.Few.{NonePrograms, none_of_base, program_kept}
use Rattle.onfi_profiles.proofs.Copies.{none_copying}
use Rattle.onfi_profiles.proofs.Unwanted.{unwanted, excluded_less}

-- 1. rules that hang on the set

fits : (g : Parts) (c : Command) → (not (is_known c) || is_undeclared (in_base g) c) ≡ false → (not (is_known c) || is_undeclared g c) ≡ false
fits g ReadStatusEnhanced h = h
fits g BlockErasePlane h = h
fits g ProgramPlane h = h
fits g ReadCacheSequential h = h
fits g ReadCacheEnd h = h
fits g ChangeReadColumnEnhanced h = let no : true ≡ false = h in cc
fits g ReadPlane h = let no : true ≡ false = h in cc
fits g CopybackRead h = let no : true ≡ false = h in cc
fits g ProgramCache h = let no : true ≡ false = h in cc
fits g ReadUniqueId h = let no : true ≡ false = h in cc
fits g GetFeatures h = let no : true ≡ false = h in cc
fits g SetFeatures h = let no : true ≡ false = h in cc
fits g ResetLun h = let no : true ≡ false = h in cc
fits g SynchronousReset h = let no : true ≡ false = h in cc
fits g c h = h

known_too : (g : Parts) (k : TargetCycle) → breaks_command_unknown (in_base g) k ≡ false → breaks_command_unknown g k ≡ false
unfolding breaks_command_unknown
known_too g (CommandCycle c) h = fits g c h
known_too g (AddressCycle byte) h = refl
known_too g (InputCycle byte) h = refl
known_too g OutputCycle h = refl

-- a reset may come where another opener may
wider_open : (o t r w : Bool) → (o && (t && not (r && false))) ≡ false → (o && (t && not (r && w))) ≡ false
wider_open false t r w h = refl
wider_open true false r w h = refl
wider_open true true true w h = cc
wider_open true true false w h = cc

-- an 85 that the tail wants may come; d: a copyback is declared; o: a sequence is open; w: the tail wants it
column_open : (d o w wide : Bool) → (d ≡ true → wide ≡ true) → w ≡ true → (d && (o && not (w && wide))) ≡ false
column_open false o w wide f h = refl
column_open true o false wide f h = cc
column_open true true true true f h = refl
column_open true false true true f h = refl
column_open true o true false f h = let no : false ≡ true = f refl in cc

open_too : (g : Parts) (t : TailFacts) (k : TargetCycle) → breaks_sequence_open (in_base g) t k ≡ false → breaks_command_misplaced (in_base g) t k ≡ false → breaks_sequence_open g t k ≡ false
unfolding breaks_sequence_open breaks_command_misplaced
open_too g t (CommandCycle ChangeWriteColumn) h f =
    column_open (has_copyback g.optional) (is_open t) (wants_command t ChangeWriteColumn) (is_wide g.optional) (λ d. (and_parts (is_wide g.optional) _ d).0) (not-false (wants_command t ChangeWriteColumn) f)
open_too g t (CommandCycle c) h f = wider_open (is_opener c) (is_open t) (is_reset c || goes_on_with t c) (is_wide g.optional) h
open_too g t (AddressCycle byte) h f = refl
open_too g t (InputCycle byte) h f = refl
open_too g t OutputCycle h f = refl

placed_too : (g : Parts) (t : TailFacts) (k : TargetCycle) → breaks_command_misplaced (in_base g) t k ≡ false → breaks_command_misplaced g t k ≡ false
unfolding breaks_command_misplaced
placed_too g t (CommandCycle ChangeWriteColumn) h = ap (λ (w : Bool). not (has_copyback g.optional) && not w) (not-false (wants_command t ChangeWriteColumn) h) ∙ and-false (not (has_copyback g.optional))
placed_too g t (CommandCycle c) h = h
placed_too g t (AddressCycle byte) h = refl
placed_too g t (InputCycle byte) h = refl
placed_too g t OutputCycle h = refl

-- an address that the base profile has
wider_address : (a r n w : Bool) → (a || (r && n)) ≡ false → (a || (not w && (r && n))) ≡ false
wider_address true r n w h = cc
wider_address false r n true h = refl
wider_address false r n false h = h

address_too : (g : Parts) (t : TailFacts) (k : TargetCycle) → breaks_address_misplaced (in_base g) t k ≡ false → breaks_address_misplaced g t k ≡ false
unfolding breaks_address_misplaced
address_too g t (AddressCycle byte) h = wider_address (not (wants_address t byte)) (opened (λ c n. is_read_id c) t.opening) (not (byte == 0x20)) (is_wide g.optional) h
address_too g t (CommandCycle c) h = refl
address_too g t (InputCycle byte) h = refl
address_too g t OutputCycle h = refl

-- 2. rules that don't

len_same : (g : Parts) (r : Register) → register_len (in_base g) r ≡ register_len g r
len_same g Empty = refl
len_same g (Page p) = refl
len_same g ParameterPage = refl
len_same g Identifier = refl
len_same g Identity = refl
len_same g JedecIdentity = refl
len_same g UniqueId = refl
len_same g (Features a) = refl

-- rows of one queue that go together in the base profile go together
less_clash : (a b f x : Bool) → (a || b || x) ≡ false → (a || b || (not f && x)) ≡ false
less_clash true b f x h = cc
less_clash false true f x h = cc
less_clash false false true x h = refl
less_clash false false false x h = h

planes_less : (g : Parts) (p q : PageAddress) → planes_clash (in_base g) p q ≡ false → planes_clash g p q ≡ false
planes_less g p q h = less_clash (p.block % planes g == q.block % planes g) (not (p.page == q.page)) (has_free_blocks g.optional) (not (p.block / planes g == q.block / planes g)) h

less_else : (e a b : Bool) → (a ≡ false → b ≡ false) → (e || a) ≡ false → (e || b) ≡ false
less_else true a b f h = cc
less_else false a b f h = f h

less_too : (e a b : Bool) → (a ≡ false → b ≡ false) → (e && a) ≡ false → (e && b) ≡ false
less_too true a b f h = f h
less_too false a b f h = refl

queued_less : (g : Parts) (erase : Bool) (p : PageAddress) (q : Queued) → queued_clashes (in_base g) erase p q ≡ false → queued_clashes g erase p q ≡ false
queued_less g erase p (Erase q) h = less_else (not erase) (planes_clash (in_base g) p q) (planes_clash g p q) (planes_less g p q) h
queued_less g erase p (Program q) h = less_else erase (planes_clash (in_base g) p q) (planes_clash g p q) (planes_less g p q) h
queued_less g erase p (QueuedRead q) h = cc

read_less : (g : Parts) (p : PageAddress) (q : Queued) → read_clashes (in_base g) p q ≡ false → read_clashes g p q ≡ false
read_less g p (Erase q) h = cc
read_less g p (Program q) h = cc
read_less g p (QueuedRead q) h = let no : true ≡ false = h in cc

any_less : (test less : Queued → Bool) → ((q : Queued) → test q ≡ false → less q ≡ false) → (queue : List Queued) → list_any test queue ≡ false → list_any less queue ≡ false
any_less test less f [] h = refl
any_less test less f (q ∷ queue) h =
    let parts = or_parts (test q) (list_any test queue) h in
    rw (f q parts.0, any_less test less f queue parts.1) refl

refused_less : (g : Parts) (c : Command) → is_write_column c ≡ false → (p : PageAddress) (queue : List Queued) → refused_by (in_base g) c p queue ≡ false → refused_by g c p queue ≡ false
refused_less g Read w p queue h = any_less (read_clashes (in_base g) p) (read_clashes g p) (read_less g p) queue h
refused_less g BlockErase w p queue h = any_less (queued_clashes (in_base g) true p) (queued_clashes g true p) (queued_less g true p) queue h
refused_less g PageProgram w p queue h = any_less (queued_clashes (in_base g) false p) (queued_clashes g false p) (queued_less g false p) queue h
refused_less g ChangeWriteColumn w p queue h = cc
refused_less g c w p queue h = refl

is_refused_less : (g : Parts) (o : Option Opening) → opened (λ c n. is_write_column c) o ≡ false → (p : PageAddress) (queue : List Queued) → is_refused_by (in_base g) o p queue ≡ false → is_refused_by g o p queue ≡ false
is_refused_less g None w p queue h = refl
is_refused_less g (Some o) w p queue h = less_too (at_last_row o.opener o.addresses) (refused_by (in_base g) o.opener p queue) (refused_by g o.opener p queue) (refused_less g o.opener w p queue) h

some_less : (test less : LunView → Bool) → ((v : LunView) → test v ≡ false → less v ≡ false) → (o : Option LunView) → is_some_and test o ≡ false → is_some_and less o ≡ false
some_less test less f None h = refl
some_less test less f (Some v) h = f v h

several_same : (g : Parts) → is_shared g ≡ false → (luns : List LunView) (k : TargetCycle) → breaks_several_luns (in_base g) luns k ≡ breaks_several_luns g luns k
unfolding breaks_several_luns
several_same g narrow luns (CommandCycle c) = rw narrow refl
several_same g narrow luns (AddressCycle byte) = refl
several_same g narrow luns (InputCycle byte) = refl
several_same g narrow luns OutputCycle = refl

row_same : (g : Parts) (t : TailFacts) (k : TargetCycle) → breaks_row_outside (in_base g) t k ≡ breaks_row_outside g t k
unfolding breaks_row_outside
row_same g t (CommandCycle c) = refl
row_same g t (AddressCycle byte) = refl
row_same g t (InputCycle byte) = refl
row_same g t OutputCycle = refl

busy_same : (g : Parts) → is_shared g ≡ false → (t : TailFacts) (luns : List LunView) (k : TargetCycle) → breaks_lun_busy (in_base g) t luns k ≡ breaks_lun_busy g t luns k
unfolding breaks_lun_busy
busy_same g narrow t luns (CommandCycle c) = rw narrow refl
busy_same g narrow t luns (AddressCycle byte) = rw narrow refl
busy_same g narrow t luns (InputCycle byte) = refl
busy_same g narrow t luns OutputCycle = refl

clash_wider : (g : Parts) (t : TailFacts) (luns : List LunView) (k : TargetCycle) → opened (λ c n. is_write_column c) t.opening ≡ false → breaks_queue_clash (in_base g) t luns k ≡ false → breaks_queue_clash g t luns k ≡ false
unfolding breaks_queue_clash
clash_wider g t luns (CommandCycle c) w h = h
clash_wider g t luns (AddressCycle byte) w h =
    some_less (λ v. is_refused_by (in_base g) t.opening (page_address g (row_with t byte)) v.queue) (λ v. is_refused_by g t.opening (page_address g (row_with t byte)) v.queue)
    (λ v refused. is_refused_less g t.opening w (page_address g (row_with t byte)) v.queue refused) (slice_get luns (parts_of g (row_with t byte)).lun) h
clash_wider g t luns (InputCycle byte) w h = refl
clash_wider g t luns OutputCycle w h = refl

column_same_too : (g : Parts) (t : TailFacts) (luns : List LunView) (k : TargetCycle) → breaks_column_outside (in_base g) t luns k ≡ breaks_column_outside g t luns k
unfolding breaks_column_outside
column_same_too g t luns (CommandCycle c) = refl
column_same_too g t luns (AddressCycle byte) = λ i.
    (second_of_page t && nat_le (page_len g) (column_with t byte)) || (second_column is_change_read_column t && driver_is (λ v. nat_le (len_same g v.register i) (column_with t byte)) luns)
column_same_too g t luns (InputCycle byte) = refl
column_same_too g t luns OutputCycle = λ i. driver_is (λ v. is_data v.latch && is_past (output_column v.column) (len_same g v.register i)) luns

plane_same : (g : Parts) (t : TailFacts) (luns : List LunView) (k : TargetCycle) → breaks_plane_not_held (in_base g) t luns k ≡ breaks_plane_not_held g t luns k
unfolding breaks_plane_not_held
plane_same g t luns (AddressCycle byte) = refl
plane_same g t luns (CommandCycle c) = refl
plane_same g t luns (InputCycle byte) = refl
plane_same g t luns OutputCycle = refl

-- a 30 names a LUN that does no cache read
abbrev NamesUncached : Parts → TailFacts → List LunView → TargetCycle → Type 0
NamesUncached g t luns k = k ≡ CommandCycle ReadConfirm → named_lun_is g (row t) caching luns ≡ false

cache_wider : (g : Parts) (t : TailFacts) (luns : List LunView) (k : TargetCycle) → NamesUncached g t luns k → breaks_cache_read_misplaced (in_base g) t luns k ≡ false → breaks_cache_read_misplaced g t luns k ≡ false
unfolding breaks_cache_read_misplaced
cache_wider g t luns (CommandCycle ReadCacheSequential) free h = h
cache_wider g t luns (CommandCycle ReadConfirm) free h = ap (λ (b : Bool). is_wide g.optional && b) (free refl) ∙ and-false (is_wide g.optional)
cache_wider g t luns (CommandCycle ReadCacheEnd) free h = h
cache_wider g t luns (CommandCycle c) free h = h
cache_wider g t luns (AddressCycle byte) free h =
    excluded_less g t (named_lun_is g (row_with t byte) caching luns) h
cache_wider g t luns (InputCycle byte) free h = refl
cache_wider g t luns OutputCycle free h = refl

-- no sequence is begun by 85, no group of copybacks has begun, and no LUN programs behind a 15
record OfBase (g : Parts) (t : TailFacts) (luns : List LunView) : Type 0 where
  written : opened (λ c n. is_write_column c) t.opening ≡ false
  none : (r : ℕ) → named_lun_is g r is_copying luns ≡ false
  programs : NonePrograms luns

not_ended : (o : Option Opening) → opened (λ c n. is_write_column c) o ≡ false → opened (λ c n. is_write_column c && at_last_row c n) o ≡ false
not_ended None h = refl
not_ended (Some o) h = of (is_write_column o.opener) (at_last_row o.opener o.addresses) h
  where
    of : (a b : Bool) → a ≡ false → (a && b) ≡ false
    of true b h = cc
    of false b h = refl

copy_wider : (g : Parts) (t : TailFacts) (luns : List LunView) (k : TargetCycle) → OfBase g t luns → is_base_cycle k ≡ true → breaks_copyback_misplaced g t luns k ≡ false
unfolding breaks_copyback_misplaced
copy_wider g t luns (AddressCycle byte) s b =
    of (has_copyback g.optional) (ends_row is_write_column t) _ (ends_row is_page_program t) (named_lun_is g (row_with t byte) is_copying luns) (not_ended t.opening s.written) (s.none (row_with t byte))
  where
    of : (d w x p c : Bool) → w ≡ false → c ≡ false → (d && ((w && x) || (p && c))) ≡ false
    of d true x p c h k = cc
    of d false x p true h k = cc
    of true false x true false h k = refl
    of true false x false false h k = refl
    of false false x p false h k = refl
copy_wider g t luns (CommandCycle ProgramCache) s b = cc
copy_wider g t luns (CommandCycle c) s b = refl
copy_wider g t luns (InputCycle byte) s b = refl
copy_wider g t luns OutputCycle s b = refl

-- 3. all of them

kept : (g : Parts) (t : TailFacts) (luns : List LunView) (k : TargetCycle) → KeepsRules g t luns k → judge_cycle g t luns k ≡ None
kept g t luns k r = rw (r.f2, r.f3, r.f4, r.f5, r.f6, r.f7, r.f8, r.f9, r.f10, r.f11, r.f12, r.f13, r.f14, r.f15, r.f16, r.f17, r.f18) refl

wider : (g : Parts) → is_shared g ≡ false → (t : TailFacts) (luns : List LunView) (k : TargetCycle) → NamesUncached g t luns k → OfBase g t luns → judge_cycle (in_base g) t luns k ≡ None → judge_cycle g t luns k ≡ None
wider g narrow t luns k free old h =
    let r = keeps_rules (in_base g) t luns k h in
    kept g t luns k
    (record {
      f2 = known_too g k r.f2;
      f3 = open_too g t k r.f3 r.f6;
      f4 = sym (several_same g narrow luns k) ∙ r.f4;
      f5 = r.f5;
      f6 = placed_too g t k r.f6;
      f7 = address_too g t k r.f7;
      f8 = sym (row_same g t k) ∙ r.f8;
      f9 = sym (busy_same g narrow t luns k) ∙ r.f9;
      f10 = clash_wider g t luns k old.written r.f10;
      f11 = r.f11;
      f12 = r.f12;
      f13 = r.f13;
      f14 = sym (column_same_too g t luns k) ∙ r.f14;
      f15 = cache_wider g t luns k free r.f15;
      f16 = program_kept g t luns k old.programs (base_cycle g k r.f2);
      f17 = copy_wider g t luns k old (base_cycle g k r.f2);
      f18 = sym (plane_same g t luns k) ∙ r.f18;
    })

-- 4. on a target with several LUNs

abbrev shown_facts : LunView → LunView
shown_facts v = record v { selected = false; overlapped = false }

any_map : (f : LunView → LunView) (test : LunView → Bool) → ((v : LunView) → test (f v) ≡ test v) → (xs : List LunView) → list_any test (map f xs) ≡ list_any test xs
any_map f test h [] = refl
any_map f test h (v ∷ vs) = λ i. h v i || any_map f test h vs i

any_by : (f : LunView → LunView) (test : LunView → Bool) → ((v : LunView) → test (f v) ≡ test v) → (xs ys : List LunView) → map f xs ≡ map f ys → list_any test ys ≡ list_any test xs
any_by f test h xs ys same = sym (any_map f test h ys) ∙ (ap (list_any test) (sym same) ∙ any_map f test h xs)

lun_map : (f : LunView → LunView) (test : LunView → Bool) → ((v : LunView) → test (f v) ≡ test v) → (xs : List LunView) (n : ℕ) → lun_is test (map f xs) n ≡ lun_is test xs n
lun_map f test h [] n = refl
lun_map f test h (v ∷ vs) zero = h v
lun_map f test h (v ∷ vs) (suc n) = lun_map f test h vs n

lun_by : (f : LunView → LunView) (test : LunView → Bool) → ((v : LunView) → test (f v) ≡ test v) → (xs ys : List LunView) → map f xs ≡ map f ys → (n : ℕ) → lun_is test ys n ≡ lun_is test xs n
lun_by f test h xs ys same n = sym (lun_map f test h ys n) ∙ (ap (λ (zs : List LunView). lun_is test zs n) (sym same) ∙ lun_map f test h xs n)

driving_shown : (xs : List LunView) → driving (map shown_facts xs) ≡ map shown_facts (driving xs)
driving_shown [] = refl
driving_shown (v ∷ vs) = at (is_off v.latch) (driving_shown vs)
  where
    at : (b : Bool) → driving (map shown_facts vs) ≡ map shown_facts (driving vs) → cond b (driving (map shown_facts vs)) (shown_facts v ∷ driving (map shown_facts vs)) ≡ map shown_facts (cond b (driving vs) (v ∷ driving vs))
    at true ih = ih
    at false ih = ap (λ (ws : List LunView). shown_facts v ∷ ws) ih

only_shown : (test : LunView → Bool) → ((v : LunView) → test (shown_facts v) ≡ test v) → (xs : List LunView) → is_some_and test (only (map shown_facts xs)) ≡ is_some_and test (only xs)
only_shown test h [] = refl
only_shown test h (v ∷ []) = h v
only_shown test h (v ∷ (w ∷ ws)) = refl

driver_map : (test : LunView → Bool) → ((v : LunView) → test (shown_facts v) ≡ test v) → (xs : List LunView) → driver_is test (map shown_facts xs) ≡ driver_is test xs
driver_map test h xs = ap (λ (zs : List LunView). is_some_and test (only zs)) (driving_shown xs) ∙ only_shown test h (driving xs)

driver_by : (test : LunView → Bool) → ((v : LunView) → test (shown_facts v) ≡ test v) → (xs ys : List LunView) → map shown_facts xs ≡ map shown_facts ys → driver_is test ys ≡ driver_is test xs
driver_by test h xs ys same = sym (driver_map test h ys) ∙ (ap (driver_is test) (sym same) ∙ driver_map test h xs)

-- the cycle is judged by the one driver
abbrev looks : TailFacts → TargetCycle → Bool
looks t (CommandCycle ChangeReadColumn) = true
looks t (CommandCycle ReadCacheSequential) = true
looks t (CommandCycle ReadCacheEnd) = true
looks t (CommandCycle c) = false
looks t (AddressCycle byte) = second_column is_change_read_column t
looks t (InputCycle byte) = false
looks t OutputCycle = true

-- what the LUNs of a target are in both profiles
record BothSee (g : Parts) (t : TailFacts) (k : TargetCycle) (bs ws : List LunView) : Type 0 where
  one : one_lun_cycle k ≡ false
  cores : map core bs ≡ map core ws
  calm : list_any works_for_target bs ≡ false
  shown : looks t k ≡ true → map shown_facts bs ≡ map shown_facts ws
  alone : k ≡ CommandCycle ReadCacheSequential → wants_command t ReadCacheSequential ≡ false
  free : NamesUncached g t bs k
  old : OfBase g t bs

identity_is_of_one : (c : Command) → wants_one_lun c ≡ false → reads_identity c ≡ false
identity_is_of_one ReadId h = cc
identity_is_of_one ReadParameterPage h = cc
identity_is_of_one ReadUniqueId h = cc
identity_is_of_one GetFeatures h = cc
identity_is_of_one SetFeatures h = cc
identity_is_of_one c h = refl

none_of : (i b : Bool) → i ≡ false → (i && b) ≡ false
none_of true b h = cc
none_of false b h = refl

calm_wide : (g : Parts) (t : TailFacts) (k : TargetCycle) (bs ws : List LunView) → BothSee g t k bs ws → list_any works_for_target ws ≡ false
calm_wide g t k bs ws s = any_by core works_for_target (λ v. refl) bs ws s.cores ∙ s.calm

clear : (g : Parts) (t : TailFacts) (c : Command) (bs ws : List LunView) → BothSee g t (CommandCycle c) bs ws → is_unclear ws c ≡ false
clear g t ReadStatus bs ws s = let never = s.one in cc
clear g t ReadStatusEnhanced bs ws s = calm_wide g t (CommandCycle ReadStatusEnhanced) bs ws s
clear g t c bs ws s = refl

several_too : (g : Parts) → is_shared g ≡ true → (t : TailFacts) (bs ws : List LunView) (k : TargetCycle) → BothSee g t k bs ws → breaks_several_luns g ws k ≡ false
unfolding breaks_several_luns
several_too g shared t bs ws (CommandCycle c) s = rw shared (clear g t c bs ws s)
several_too g shared t bs ws (AddressCycle byte) s = refl
several_too g shared t bs ws (InputCycle byte) s = refl
several_too g shared t bs ws OutputCycle s = refl

change_too : (g : Parts) (t : TailFacts) (bs ws : List LunView) (k : TargetCycle) → BothSee g t k bs ws → breaks_no_column_to_change bs k ≡ false → breaks_no_column_to_change ws k ≡ false
unfolding breaks_no_column_to_change
change_too g t bs ws (CommandCycle ChangeReadColumn) s h = ap not (driver_by may_change_column (λ v. refl) bs ws (s.shown refl)) ∙ h
change_too g t bs ws (CommandCycle c) s h = refl
change_too g t bs ws (AddressCycle byte) s h = refl
change_too g t bs ws (InputCycle byte) s h = refl
change_too g t bs ws OutputCycle s h = refl

neither_busy : (x s i b : Bool) → x ≡ false → i ≡ false → (x || (s && (i && b))) ≡ false
neither_busy true s i b h e = cc
neither_busy false true true b h e = cc
neither_busy false true false b h e = refl
neither_busy false false i b h e = refl

row_free : (e n s w : Bool) → (e && (n || false)) ≡ false → w ≡ false → (e && (n || (s && w))) ≡ false
row_free false n s w h f = refl
row_free true true s w h f = cc
row_free true false true true h f = cc
row_free true false true false h f = refl
row_free true false false w h f = refl

busy_too : (g : Parts) (t : TailFacts) (bs ws : List LunView) (k : TargetCycle) → BothSee g t k bs ws → breaks_lun_busy (in_base g) t bs k ≡ false → breaks_lun_busy g t ws k ≡ false
unfolding breaks_lun_busy
busy_too g t bs ws (CommandCycle c) s h =
    neither_busy _ (is_shared g) (reads_identity c) _
    (ap (λ (b : Bool). begins_on_ready t c && not b) (any_by core (λ v. not v.busy) (λ v. refl) bs ws s.cores) ∙ (or_parts (begins_on_ready t c && not (list_any (λ v. not v.busy) bs)) false h).0)
    (identity_is_of_one c s.one)
busy_too g t bs ws (AddressCycle byte) s h =
    row_free (ends_row addresses_the_array t) (named_lun_is g (row_with t byte) (λ v. v.busy) ws) (is_shared g) (list_any works_for_target ws)
    (ap (λ (b : Bool). ends_row addresses_the_array t && (b || false)) (lun_by core (λ v. v.busy) (λ v. refl) bs ws s.cores (parts_of g (row_with t byte)).lun) ∙ h)
    (calm_wide g t (AddressCycle byte) bs ws s)
busy_too g t bs ws (InputCycle byte) s h = refl
busy_too g t bs ws OutputCycle s h = refl

clash_too : (g : Parts) (t : TailFacts) (bs ws : List LunView) (k : TargetCycle) → BothSee g t k bs ws → breaks_queue_clash g t bs k ≡ false → breaks_queue_clash g t ws k ≡ false
unfolding breaks_queue_clash
clash_too g t bs ws (CommandCycle c) s h = none_of (reads_identity c) (list_any (λ v. has_some v.queue) ws) (identity_is_of_one c s.one)
clash_too g t bs ws (AddressCycle byte) s h = lun_by core (λ v. is_refused_by g t.opening (page_address g (row_with t byte)) v.queue) (λ v. refl) bs ws s.cores (parts_of g (row_with t byte)).lun ∙ h
clash_too g t bs ws (InputCycle byte) s h = refl
clash_too g t bs ws OutputCycle s h = refl

sole_too : (g : Parts) (t : TailFacts) (bs ws : List LunView) (k : TargetCycle) → BothSee g t k bs ws → breaks_no_sole_driver t bs k ≡ false → breaks_no_sole_driver t ws k ≡ false
unfolding breaks_no_sole_driver
sole_too g t bs ws OutputCycle s h = ap (λ (b : Bool). is_open t || not b) (driver_by (λ v. true) (λ v. refl) bs ws (s.shown refl)) ∙ h
sole_too g t bs ws (CommandCycle c) s h = refl
sole_too g t bs ws (AddressCycle byte) s h = refl
sole_too g t bs ws (InputCycle byte) s h = refl

ready_too : (g : Parts) (t : TailFacts) (bs ws : List LunView) (k : TargetCycle) → BothSee g t k bs ws → breaks_data_not_ready bs k ≡ false → breaks_data_not_ready ws k ≡ false
unfolding breaks_data_not_ready
ready_too g t bs ws OutputCycle s h = driver_by has_no_byte (λ v. refl) bs ws (s.shown refl) ∙ h
ready_too g t bs ws (CommandCycle c) s h = refl
ready_too g t bs ws (AddressCycle byte) s h = refl
ready_too g t bs ws (InputCycle byte) s h = refl

column_too : (g : Parts) (t : TailFacts) (bs ws : List LunView) (k : TargetCycle) → BothSee g t k bs ws → breaks_column_outside g t bs k ≡ false → breaks_column_outside g t ws k ≡ false
unfolding breaks_column_outside
column_too g t bs ws (CommandCycle c) s h = refl
column_too g t bs ws (AddressCycle byte) s h = at (second_column is_change_read_column t) refl
  where
    at : (b : Bool) → second_column is_change_read_column t ≡ b → breaks_column_outside g t ws (AddressCycle byte) ≡ false
    at true e = ap (λ (b : Bool). (second_of_page t && nat_le (page_len g) (column_with t byte)) || (second_column is_change_read_column t && b)) (driver_by (λ v. nat_le (register_len g v.register) (column_with t byte)) (λ v. refl) bs ws (s.shown e)) ∙ h
    at false e =
        let first = (or_parts (second_of_page t && nat_le (page_len g) (column_with t byte)) _ h).0 in
        rw (first, e) refl
column_too g t bs ws (InputCycle byte) s h = h
column_too g t bs ws OutputCycle s h = driver_by (is_past_register g) (λ v. refl) bs ws (s.shown refl) ∙ h

cache_too : (g : Parts) (t : TailFacts) (bs ws : List LunView) (k : TargetCycle) → BothSee g t k bs ws → breaks_cache_read_misplaced g t bs k ≡ false → breaks_cache_read_misplaced g t ws k ≡ false
unfolding breaks_cache_read_misplaced
cache_too g t bs ws (CommandCycle ReadCacheSequential) s h =
    let unless : not (driver_is (continues_cache g) bs) ≡ false = chosen_else (wants_command t ReadCacheSequential) _ _ h (s.alone refl) in
    ap (λ (w : Bool). cond w (not (named_lun_is g (row t) has_read_one ws)) (not (driver_is (continues_cache g) ws))) (s.alone refl)
    ∙ (ap not (driver_by (continues_cache g) (λ v. refl) bs ws (s.shown refl)) ∙ unless)
cache_too g t bs ws (CommandCycle ReadConfirm) s h =
    ap (λ (b : Bool). is_wide g.optional && b) (lun_by core caching (λ v. refl) bs ws s.cores (parts_of g (row t)).lun) ∙ h
cache_too g t bs ws (CommandCycle ReadPlane) s h = lun_by core caching (λ v. refl) bs ws s.cores (parts_of g (row t)).lun ∙ h
cache_too g t bs ws (CommandCycle CopybackRead) s h = lun_by core caching (λ v. refl) bs ws s.cores (parts_of g (row t)).lun ∙ h
cache_too g t bs ws (CommandCycle ReadCacheEnd) s h = ap not (driver_by ends_cache (λ v. refl) bs ws (s.shown refl)) ∙ h
cache_too g t bs ws (CommandCycle c) s h = none_of (reads_identity c) (list_any caching ws) (identity_is_of_one c s.one)
cache_too g t bs ws (AddressCycle byte) s h = ap (λ (b : Bool). ends_row (excludes_cache g) t && b) (lun_by core caching (λ v. refl) bs ws s.cores (parts_of g (row_with t byte)).lun) ∙ h
cache_too g t bs ws (InputCycle byte) s h = refl
cache_too g t bs ws OutputCycle s h = refl

plane_too : (g : Parts) (t : TailFacts) (bs ws : List LunView) (k : TargetCycle) → BothSee g t k bs ws → breaks_plane_not_held g t bs k ≡ false → breaks_plane_not_held g t ws k ≡ false
unfolding breaks_plane_not_held
plane_too g t bs ws (AddressCycle byte) s h =
    ap (λ (b : Bool). ends_row is_enhanced_column t && b)
    (lun_by core (λ v. not (holds_plane_of g (page_address g (row_with t byte)) v)) (λ v. refl) bs ws s.cores (parts_of g (row_with t byte)).lun) ∙ h
plane_too g t bs ws (CommandCycle c) s h = refl
plane_too g t bs ws (InputCycle byte) s h = refl
plane_too g t bs ws OutputCycle s h = refl

old_too : (g : Parts) (t : TailFacts) (bs ws : List LunView) (k : TargetCycle) → BothSee g t k bs ws → OfBase g t ws
old_too g t bs ws k s =
    record {
      written = s.old.written;
      none = λ r. lun_by core is_copying (λ v. refl) bs ws s.cores (parts_of g r).lun ∙ s.old.none r;
      programs = record {
        any = any_by core programs (λ v. refl) bs ws s.cores ∙ s.old.programs.any;
        at = λ n. lun_by core programs (λ v. refl) bs ws s.cores n ∙ s.old.programs.at n;
      };
    }

wider_shared : (g : Parts) → is_shared g ≡ true → (t : TailFacts) (bs ws : List LunView) (k : TargetCycle) → KeepsRules (in_base g) t bs k → BothSee g t k bs ws → judge_cycle g t ws k ≡ None
wider_shared g shared t bs ws k r s =
    kept g t ws k
    (record {
      f2 = known_too g k r.f2;
      f3 = open_too g t k r.f3 r.f6;
      f4 = several_too g shared t bs ws k s;
      f5 = change_too g t bs ws k s r.f5;
      f6 = placed_too g t k r.f6;
      f7 = address_too g t k r.f7;
      f8 = sym (row_same g t k) ∙ r.f8;
      f9 = busy_too g t bs ws k s r.f9;
      f10 = clash_too g t bs ws k s (clash_wider g t bs k s.old.written r.f10);
      f11 = r.f11;
      f12 = sole_too g t bs ws k s r.f12;
      f13 = ready_too g t bs ws k s r.f13;
      f14 = column_too g t bs ws k s (sym (column_same_too g t bs k) ∙ r.f14);
      f15 = cache_too g t bs ws k s (cache_wider g t bs k s.free r.f15);
      f16 = program_kept g t ws k (old_too g t bs ws k s).programs (base_cycle g k r.f2);
      f17 = copy_wider g t ws k (old_too g t bs ws k s) (base_cycle g k r.f2);
      f18 = plane_too g t bs ws k s (sym (plane_same g t bs k) ∙ r.f18);
    })

-- the LUNs of a target, from number n on
cores_from : (g : Parts) (past : List Item) (ce count n : ℕ) → ((m : ℕ) → m < n + count → core (lun_view (in_base g) past (lun_at ce m)) ≡ core (lun_view g past (lun_at ce m))) → map core (views_from (in_base g) past ce count n) ≡ map core (views_from g past ce count n)
cores_from g past ce zero n h = refl
cores_from g past ce (suc count) n h =
    let first = h n (omega arith) in
    let rest = cores_from g past ce count (n + 1) (λ m low. h m (omega (arith, low))) in
    λ i. first i ∷ rest i

shown_from : (g : Parts) (past : List Item) (ce count n : ℕ) → ((m : ℕ) → m < n + count → shown_facts (lun_view (in_base g) past (lun_at ce m)) ≡ shown_facts (lun_view g past (lun_at ce m))) → map shown_facts (views_from (in_base g) past ce count n) ≡ map shown_facts (views_from g past ce count n)
shown_from g past ce zero n h = refl
shown_from g past ce (suc count) n h =
    let first = h n (omega arith) in
    let rest = shown_from g past ce count (n + 1) (λ m low. h m (omega (arith, low))) in
    λ i. first i ∷ rest i

calm_from : (g : Parts) (past : List Item) (ce count n : ℕ) → ((m : ℕ) → m < n + count → is_target_work (closer g past (lun_at ce m)) ≡ false) → list_any works_for_target (views_from g past ce count n) ≡ false
calm_from g past ce zero n h = refl
calm_from g past ce (suc count) n h =
    let first = h n (omega arith) in
    let rest = calm_from g past ce count (n + 1) (λ m low. h m (omega (arith, low))) in
    (λ i. (is_busy g past (lun_at ce n) && first i) || rest i)
    ∙ ap (λ (b : Bool). b || false) (and-false (is_busy g past (lun_at ce n)))

all_cores : (g : Parts) (past : List Item) (ce : ℕ) → AreAlike g past ce → map core (luns_of (in_base g) past ce) ≡ map core (luns_of g past ce)
all_cores g past ce a = cores_from g past ce g.luns 0 (λ m low. a.rest m (omega (arith, low)))

all_shown : (g : Parts) (past : List Item) (ce : ℕ) → AreAlike g past ce → IsOne (drivers (in_base g) past ce) → map shown_facts (luns_of (in_base g) past ce) ≡ map shown_facts (luns_of g past ce)
all_shown g past ce a one = shown_from g past ce g.luns 0 (λ m low. one_shown m (omega (arith, low)))
  where
    one_shown : (m : ℕ) → m < g.luns → shown_facts (lun_view (in_base g) past (lun_at ce m)) ≡ shown_facts (lun_view g past (lun_at ce m))
    one_shown m low = λ i. record (a.rest m low i) { latch = sym (same_latches g past ce a one m low) i }

-- what a permitted cycle looks at is one driver
one_looked : (g : Parts) (targets : ℕ) (past : List Item) (ce : ℕ) (k : TargetCycle) → is_wide g.optional ≡ false → is_legal g targets past ≡ true → KeepsRules g (facts_of (tail past ce)) (luns_of g past ce) k → looks (facts_of (tail past ce)) k ≡ true → IsOne (drivers g past ce)
unfolding breaks_no_column_to_change breaks_no_sole_driver breaks_cache_read_misplaced
one_looked g targets past ce (CommandCycle ChangeReadColumn) narrow legal r e = driver_one g past ce may_change_column (not-false _ r.f5)
one_looked g targets past ce (CommandCycle ReadCacheSequential) narrow legal r e =
    let f15 : not (driver_is (continues_cache g) (luns_of g past ce)) ≡ false = chosen_else (wants_command (facts_of (tail past ce)) ReadCacheSequential) _ _ r.f15 (unwanted g (facts_of (tail past ce)) narrow r.f3) in
    driver_one g past ce (continues_cache g) (not-false _ f15)
one_looked g targets past ce (CommandCycle ReadCacheEnd) narrow legal r e = driver_one g past ce ends_cache (not-false _ r.f15)
one_looked g targets past ce (CommandCycle c) narrow legal r e = cc
one_looked g targets past ce (AddressCycle byte) narrow legal r e = column_driver g targets past ce legal (at (opening (tail past ce)) e)
  where
    at : (o : Option Opening) → opened (λ c n. is_change_read_column c && n == 1) o ≡ true → in_column o ≡ true
    at None e = cc
    at (Some o) e = (and_parts (is_change_read_column o.opener) _ e).0
one_looked g targets past ce (InputCycle byte) narrow legal r e = cc
one_looked g targets past ce OutputCycle narrow legal r e = driver_one g past ce (λ v. true) (not-false _ (or_parts (is_open (facts_of (tail past ce))) _ r.f12).1)

of_base : (g : Parts) (targets : ℕ) (past : List Item) (ce : ℕ) → is_legal (in_base g) targets past ≡ true → OfBase g (facts_of (tail past ce)) (luns_of (in_base g) past ce)
of_base g targets past ce legal = record { written = (base_tail g targets past ce legal).written; none = none_copying g targets past ce legal; programs = none_of_base g targets past ce legal }

permitted_shared : (g : Parts) → is_shared g ≡ true → (targets : ℕ) (past : List Item) (i : Item) → is_legal (in_base g) targets past ≡ true → broken (in_base g) targets past i ≡ None → broken g targets past i ≡ None
unfolding breaks_not_there
permitted_shared g shared targets past (Cyc c) legal h =
    let first = first_passed (breaks_not_there targets (luns_of (in_base g) past c.ce) (Cyc c)) NotThere (judge_item (in_base g) (facts_of (tail past c.ce)) (luns_of (in_base g) past c.ce) (Cyc c)) h in
    let k = target_cycle c.kind c.byte in
    let a = are_alike g targets past c.ce shared legal in
    let r = permitted_keeps (in_base g) targets past c h in
    let judged : judge_cycle g (facts_of (tail past c.ce)) (luns_of g past c.ce) k ≡ None =
    wider_shared g shared (facts_of (tail past c.ce)) (luns_of (in_base g) past c.ce) (luns_of g past c.ce) k r
    (record {
      one = (plain g targets past c c.ce shared legal h refl).command;
      cores = all_cores g past c.ce a;
      calm = calm_from (in_base g) past c.ce g.luns 0 (λ m low. a.calm m (omega (arith, low)));
      shown = λ e. all_shown g past c.ce a (one_looked (in_base g) targets past c.ce k refl legal r e);
      alone = (plain g targets past c c.ce shared legal h refl).alone;
      free = confirm_uncached (in_base g) targets past c refl legal h;
      old = of_base g targets past c.ce legal;
    }) in
    rw first.0 judged
permitted_shared g shared targets past (Rdy ce lun fail) legal h = rw same h
  where
    same : lun_is (λ v. v.busy) (luns_of g past ce) lun ≡ lun_is (λ v. v.busy) (luns_of (in_base g) past ce) lun
    same = lun_by core (λ v. v.busy) (λ v. refl) (luns_of (in_base g) past ce) (luns_of g past ce) (all_cores g past ce (are_alike g targets past ce shared legal)) lun
permitted_shared g shared targets past (Ard ce lun fail) legal h = rw same h
  where
    same : lun_is (λ v. v.array_busy) (luns_of g past ce) lun ≡ lun_is (λ v. v.array_busy) (luns_of (in_base g) past ce) lun
    same = lun_by core (λ v. v.array_busy) (λ v. refl) (luns_of (in_base g) past ce) (luns_of g past ce) (all_cores g past ce (are_alike g targets past ce shared legal)) lun

-- 5. elsewhere

abbrev ItemUncached : Parts → TailFacts → List LunView → Item → Type 0
ItemUncached g t luns (Cyc c) = NamesUncached g t luns (target_cycle c.kind c.byte) × OfBase g t luns
ItemUncached g t luns (Rdy ce lun fail) = Unit {0}
ItemUncached g t luns (Ard ce lun fail) = Unit {0}

item_wider : (g : Parts) → is_shared g ≡ false → (t : TailFacts) (luns : List LunView) (i : Item) → ItemUncached g t luns i → judge_item (in_base g) t luns i ≡ None → judge_item g t luns i ≡ None
item_wider g narrow t luns (Cyc c) free h = wider g narrow t luns (target_cycle c.kind c.byte) free.0 free.1 h
item_wider g narrow t luns (Rdy ce lun fail) free h = refl
item_wider g narrow t luns (Ard ce lun fail) free h = refl

judged_wider : (g : Parts) → is_shared g ≡ false → (targets : ℕ) (t : TailFacts) (luns : List LunView) (i : Item) → ItemUncached g t luns i → judge (in_base g) targets t luns i ≡ None → judge g targets t luns i ≡ None
judged_wider g narrow targets t luns i free h =
    let first = first_passed (breaks_not_there targets luns i) NotThere (judge_item (in_base g) t luns i) h in
    rw first.0 (item_wider g narrow t luns i free first.1)

item_uncached : (g : Parts) → is_shared g ≡ false → (targets : ℕ) (past : List Item) (i : Item) → is_legal (in_base g) targets past ≡ true → broken (in_base g) targets past i ≡ None → ItemUncached g (facts_of (tail past (target_of i))) (luns_of g past (target_of i)) i
item_uncached g narrow targets past (Cyc c) legal h = (
  subst (λ (luns : List LunView). NamesUncached g (facts_of (tail past c.ce)) luns (target_cycle c.kind c.byte)) (luns_same g narrow past c.ce) (confirm_uncached (in_base g) targets past c refl legal h),
  subst (OfBase g (facts_of (tail past c.ce))) (luns_same g narrow past c.ce) (of_base g targets past c.ce legal),
)
item_uncached g narrow targets past (Rdy ce lun fail) legal h = tt
item_uncached g narrow targets past (Ard ce lun fail) legal h = tt

permitted_narrow : (g : Parts) → is_shared g ≡ false → (targets : ℕ) (past : List Item) (i : Item) → is_legal (in_base g) targets past ≡ true → broken (in_base g) targets past i ≡ None → broken g targets past i ≡ None
permitted_narrow g narrow targets past i legal h =
    judged_wider g narrow targets (facts_of (tail past (target_of i))) (luns_of g past (target_of i)) i (item_uncached g narrow targets past i legal h)
    (subst (λ (luns : List LunView). judge (in_base g) targets (facts_of (tail past (target_of i))) luns i ≡ None) (luns_same g narrow past (target_of i)) h)

permitted_wider : (g : Parts) (targets : ℕ) (past : List Item) (i : Item) → is_legal (in_base g) targets past ≡ true → broken (in_base g) targets past i ≡ None → broken g targets past i ≡ None
permitted_wider g targets past i legal h = by_case (is_shared g) (λ shared. permitted_shared g shared targets past i legal h) (λ narrow. permitted_narrow g narrow targets past i legal h)

pub none_is : (o : Option Forbidden) → is_none o ≡ true → o ≡ None
none_is None h = refl
none_is (Some f) h = cc

legal_wider : (g : Parts) (targets : ℕ) (past : List Item) → is_legal (in_base g) targets past ≡ true → is_legal g targets past ≡ true
legal_wider g targets [] h = refl
legal_wider g targets (i ∷ past) h =
    let both = and_parts (is_permitted (in_base g) targets past i) (is_legal (in_base g) targets past) h in
    and_from (is_permitted g targets past i) (is_legal g targets past) (ap is_none (permitted_wider g targets past i both.1 (none_is _ both.0))) (legal_wider g targets past both.1)

-- 6. what is shown

-- two effects leave the same of pages and of work
record AreSame (e e' : Effect) : Type 0 where
  queued : (bytes : List ℕ) (works : List ArrayWork) → queued_work_after e bytes works ≡ queued_work_after e' bytes works
  pending : (bytes : List ℕ) (works pending : List ArrayWork) → pending_work_after e bytes works pending ≡ pending_work_after e' bytes works pending
  changes : (changes : Bool) → changes_after e changes ≡ changes_after e' changes
  array : (last : Option Command) (pending works : List ArrayWork) → array_work_after e last pending works ≡ array_work_after e' last pending works
  array_changes : (last : Option Command) (changes array_changes : Bool) → array_changes_after e last changes array_changes ≡ array_changes_after e' last changes array_changes
  failed : (last : Option Command) (changes failed : Bool) → failed_after e last changes failed ≡ failed_after e' last changes failed
  failed_before : (last : Option Command) (array_changes failed before : Bool) → before_failed_after e last array_changes failed before ≡ before_failed_after e' last array_changes failed before
  content : (g : Parts) (last : Option Command) (pending works : List ArrayWork) (p : PageAddress) (old : List ℕ) → content_after g e last pending works p old ≡ content_after g e' last pending works p old

same_by_path : (e e' : Effect) → e ≡ e' → AreSame e e'
same_by_path e e' h =
    record {
      queued = λ b w. ap (λ (x : Effect). queued_work_after x b w) h;
      pending = λ b w p. ap (λ (x : Effect). pending_work_after x b w p) h;
      changes = λ c. ap (λ (x : Effect). changes_after x c) h;
      array = λ l p w. ap (λ (x : Effect). array_work_after x l p w) h;
      array_changes = λ l c a. ap (λ (x : Effect). array_changes_after x l c a) h;
      failed = λ l c f. ap (λ (x : Effect). failed_after x l c f) h;
      failed_before = λ l a f b. ap (λ (x : Effect). before_failed_after x l a f b) h;
      content = λ g l p w a o. ap (λ (x : Effect). content_after g x l p w a o) h;
    }

same_by_passed : (e e' : Effect) → e ≡ Unaffected → is_passed e' ≡ true → AreSame e e'
same_by_passed e (AnotherAddressed reads) none h = same_by_passed_reads e reads none
  where
    same_by_passed_reads : (e : Effect) (reads : Bool) → e ≡ Unaffected → AreSame e (AnotherAddressed reads)
    same_by_passed_reads e reads none =
        record {
          queued = λ b w. ap (λ (x : Effect). queued_work_after x b w) none;
          pending = λ b w p. ap (λ (x : Effect). pending_work_after x b w p) none;
          changes = λ c. ap (λ (x : Effect). changes_after x c) none;
          array = λ l p w. ap (λ (x : Effect). array_work_after x l p w) none;
          array_changes = λ l c a. ap (λ (x : Effect). array_changes_after x l c a) none;
          failed = λ l c f. ap (λ (x : Effect). failed_after x l c f) none;
          failed_before = λ l a f b. ap (λ (x : Effect). before_failed_after x l a f b) none;
          content = λ g l p w a o. ap (λ (x : Effect). content_after g x l p w a o) none;
        }
same_by_passed e e' none h = cc

same_by_like : (e e' : Effect) → Like e e' → AreSame e e'
same_by_like e e' (equal is plain) = same_by_path e e' is
same_by_like e e' (passes none is) = same_by_passed e e' none is

-- the effects of a past that is legal in the base profile are the same, but for the work of other LUNs
record Goes (g : Parts) (past : List Item) (l : Lun) : Type 0 where
  changes : changes_pages (in_base g) past l ≡ changes_pages g past l
  array_changes : array_changes (in_base g) past l ≡ array_changes g past l
  failed : has_failed (in_base g) past l ≡ has_failed g past l
  failed_before : has_failed_before (in_base g) past l ≡ has_failed_before g past l
  queued : (opening : Lun → PageAddress → List ℕ) → queued_work (in_base g) opening past l ≡ queued_work g opening past l
  pending : (opening : Lun → PageAddress → List ℕ) → pending_work (in_base g) opening past l ≡ pending_work g opening past l
  array : (opening : Lun → PageAddress → List ℕ) → array_work (in_base g) opening past l ≡ array_work g opening past l
  content : (opening : Lun → PageAddress → List ℕ) (p : PageAddress) → content (in_base g) opening past l p ≡ content g opening past l p

-- a program begins with the same bytes
bytes_same : (g : Parts) (pages others : PageAddress → List ℕ) → ((p : PageAddress) → pages p ≡ others p) → (o : Option PageAddress) → bytes_held (in_base g) pages o ≡ bytes_held g others o
bytes_same g pages others h None = refl
bytes_same g pages others h (Some p) = h p

program_same : (g : Parts) (past : List Item) (l : Lun) (opening : Lun → PageAddress → List ℕ) → held (in_base g) past l ≡ held g past l → Goes g past l → program_bytes (in_base g) (content (in_base g) opening past l) past l ≡ program_bytes g (content g opening past l) past l
program_same g past l opening same before =
    ap (λ (begun : List ℕ). filled begun (tail past l.ce))
    (bytes_same g (content (in_base g) opening past l) (content g opening past l) (before.content opening) (page_in_plane (planes g) (plane_of_row g (row (facts_of (tail past l.ce)))) (held (in_base g) past l))
    ∙ ap (λ (pages : List PageAddress). bytes_held g (content g opening past l) (page_in_plane (planes g) (plane_of_row g (row (facts_of (tail past l.ce)))) pages)) same)

after_same : (g : Parts) (e : Effect) (last : Option Command) (pending works : List ArrayWork) (p : PageAddress) (old : List ℕ) → content_after (in_base g) e last pending works p old ≡ content_after g e last pending works p old
after_same g (BecameReady fail) last pending works p old = refl
after_same g (ArrayBecameReady fail) last pending works p old = refl
after_same g e last pending works p old = refl

goes_on : (g : Parts) (past : List Item) (i : Item) (l : Lun) → AreSame (effect_on (in_base g) past i l) (effect_on g past i l) → held (in_base g) past l ≡ held g past l → closer (in_base g) past l ≡ closer g past l → Goes g past l → Goes g (i ∷ past) l
goes_on g past i l s same last before =
    record {
      changes = s.changes _ ∙ ap (changes_after (effect_on g past i l)) before.changes;
      array_changes = s.array_changes _ _ _ ∙ (λ k. array_changes_after (effect_on g past i l) (last k) (before.changes k) (before.array_changes k));
      failed = s.failed _ _ _ ∙ (λ k. failed_after (effect_on g past i l) (last k) (before.changes k) (before.failed k));
      failed_before = s.failed_before _ _ _ _ ∙ (λ k. before_failed_after (effect_on g past i l) (last k) (before.array_changes k) (before.failed k) (before.failed_before k));
      queued = λ opening. s.queued _ _ ∙ (λ k. queued_work_after (effect_on g past i l) (program_same g past l opening same before k) (before.queued opening k));
      pending = λ opening. s.pending _ _ _ ∙ (λ k. pending_work_after (effect_on g past i l) (program_same g past l opening same before k) (before.queued opening k) (before.pending opening k));
      array = λ opening. s.array _ _ _ ∙ (λ k. array_work_after (effect_on g past i l) (last k) (before.pending opening k) (before.array opening k));
      content = λ opening p.
          after_same g (effect_on (in_base g) past i l) (closer (in_base g) past l) (pending_work (in_base g) opening past l) (array_work (in_base g) opening past l) p (content (in_base g) opening past l p)
          ∙ (s.content g _ _ _ p _ ∙ (λ k. content_after g (effect_on g past i l) (last k) (before.pending opening k) (before.array opening k) p (before.content opening p k)));
    }

goes : (g : Parts) (targets : ℕ) (past : List Item) (l : Lun) → is_legal (in_base g) targets past ≡ true → l.lun < g.luns → Goes g past l
goes g targets [] l legal low = record { changes = refl; array_changes = refl; failed = refl; failed_before = refl; queued = λ opening. refl; pending = λ opening. refl; array = λ opening. refl; content = λ opening p. refl }
goes g targets (i ∷ past) l legal low =
    let parts = both_legal (in_base g) targets past i legal in
    goes_on g past i l
    (by_case (is_shared g)
    (λ shared. same_by_like _ _ (effects_like g targets past i l shared parts.1 parts.0 low))
    (λ narrow. same_by_path _ _ (effect_same g narrow past i l)))
    (by_case (is_shared g)
    (λ shared. ap (λ (v : LunView). v.held) ((are_alike g targets past l.ce shared parts.1).rest l.lun low))
    (λ narrow. ap (λ (v : LunView). v.held) (view_same g narrow past l)))
    (by_case (is_shared g)
    (λ shared. ap (λ (v : LunView). v.closer) ((are_alike g targets past l.ce shared parts.1).rest l.lun low))
    (λ narrow. ap (λ (v : LunView). v.closer) (view_same g narrow past l)))
    (goes g targets past l parts.1 low)

one_of_only : (ds : List ℕ) (n : ℕ) → is_only ds n ≡ true → IsOne ds
one_of_only [] n h = cc
one_of_only (m ∷ []) n h = record { m = m; is = refl }
one_of_only (m ∷ (k ∷ ds)) n h = cc

-- a LUN without what the wider profile alone looks at is the same
view_shown : (g : Parts) (targets : ℕ) (past : List Item) (l : Lun) → is_legal (in_base g) targets past ≡ true → l.lun < g.luns → is_only (drivers (in_base g) past l.ce) l.lun ≡ true → shown_facts (lun_view (in_base g) past l) ≡ shown_facts (lun_view g past l)
view_shown g targets past l legal low only = by_case (is_shared g) shared (λ narrow. ap shown_facts (view_same g narrow past l))
  where
    shared : is_shared g ≡ true → shown_facts (lun_view (in_base g) past l) ≡ shown_facts (lun_view g past l)
    shared s =
        let a = are_alike g targets past l.ce s legal in
        λ i. record (a.rest l.lun low i) { latch = sym (same_latches g past l.ce a (one_of_only _ l.lun only) l.lun low) i }

drives_too : (g : Parts) (targets : ℕ) (past : List Item) (l : Lun) → is_legal (in_base g) targets past ≡ true → l.ce < targets → l.lun < g.luns → is_only (drivers (in_base g) past l.ce) l.lun ≡ true → is_only (drivers g past l.ce) l.lun ≡ true
drives_too g targets past l legal here low only = by_case (is_shared g) shared narrow
  where
    shared : is_shared g ≡ true → is_only (drivers g past l.ce) l.lun ≡ true
    shared s = ap (λ (ds : List ℕ). is_only ds l.lun) (same_drivers g past l.ce (are_alike g targets past l.ce s legal) (one_of_only _ l.lun only)) ∙ only

    narrow : is_shared g ≡ false → is_only (drivers g past l.ce) l.lun ≡ true
    narrow n = (λ i. is_only (drivers_from (λ m. (sym (view_same g n past (record { ce = l.ce; lun = m })) i).latch) g.luns 0) l.lun) ∙ only

shown_same : (g : Parts) (targets : ℕ) (parameters : List ℕ) (opening : Lun → PageAddress → List ℕ) (past : List Item) (l : Lun) → is_legal (in_base g) targets past ≡ true → l.ce < targets → l.lun < g.luns → is_only (drivers (in_base g) past l.ce) l.lun ≡ true → shown (in_base g) parameters opening past l ≡ shown g parameters opening past l
shown_same g targets parameters opening past l legal here low only = λ k.
    shown_by (view k).latch (status_byte (view k).busy (view k).array_busy (went.failed k && not (is_plane_program (view k).closer)) (went.failed_before k)) (byte_at (register_bytes parameters (λ p. went.content opening p k) (view k).register) (output_column (view k).column))
  where
    view : shown_facts (lun_view (in_base g) past l) ≡ shown_facts (lun_view g past l)
    view = view_shown g targets past l legal low only

    went : Goes g past l
    went = goes g targets past l legal low

pub wider_profile : Widens
wider_profile = record { legal = legal_wider; driver = drives_too; shown = shown_same }
