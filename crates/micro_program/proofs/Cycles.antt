-- Single cycles: when they are permitted, what they make of the tail, and that they are of their LUN.
use Rattle.std.specs.List.{list_any}
use Rattle.std.proofs.Common.{◌≡◌, ℕ, Bool, true, false, cond, not, ◌&&◌, ◌∙◌, List, [], ◌∷◌, Some, None, refl, sym, ap, subst, arith, ltb, leb, eq-eqb}
use Rattle.std.proofs.lemmas.Bool.Decides.{nat_tests}
use Rattle.std.proofs.lemmas.Bool.{and_parts, and_from}
use Rattle.std.proofs.Math.Bool.{and-false}
use Rattle.onfi_cycle.proofs.Booleans.{eqb_self}
use Rattle.nand_geometry.specs.declared.parts.Parts.{Parts}
use Rattle.nand_geometry.specs.Row.{row_of, parts_of, is_inside}
use Rattle.onfi_cycle.specs.declared.lun.Lun.{Lun}
use Rattle.onfi_cycle.specs.declared.item.Item.{Item}
use Rattle.onfi_cycle.specs.declared.item.Kind.{Kind}
use Rattle.onfi_cycle.specs.declared.item.Kind.TheVariants.{Cmd, Adr}
use Rattle.onfi_cycle.specs.declared.command.Command.TheVariants.{BlockErase, BlockEraseConfirm, ReadStatus, ReadStatusEnhanced}
use Rattle.onfi_cycle.specs.declared.target_cycle.TargetCycle.{TargetCycle}
use Rattle.onfi_cycle.specs.declared.target_cycle.TargetCycle.TheVariants.{CommandCycle, AddressCycle, OutputCycle}
use Rattle.onfi_cycle.specs.declared.tail_facts.TailFacts.{TailFacts}
use Rattle.nand_geometry.specs.Optional.{is_wide, has_copyback}
use Rattle.onfi_cycle.specs.Command.{command, is_page_program, is_write_column, reads_identity}
use Rattle.onfi_cycle.specs.Sequence.{tail, facts_of, with_cycle, target_cycle, opened, is_open, row, row_with}
use Rattle.onfi_cycle.specs.LunView.{LunView}
use Rattle.onfi_cycle.specs.Effect.{is_data, is_shared, page_address, names_lun}
use Rattle.onfi_cycle.specs.Lun.{luns_of, programs}
use Rattle.onfi_cycle.specs.Rules.{ends_row, named_lun_is, works_for_target, driver, caching, some_queued_clashes, breaks_not_there, breaks_command_unknown, breaks_sequence_open, breaks_several_luns, breaks_no_column_to_change, breaks_command_misplaced, breaks_address_misplaced, breaks_row_outside, breaks_lun_busy, breaks_queue_clash, breaks_input_misplaced, breaks_no_sole_driver, breaks_data_not_ready, breaks_column_outside, breaks_cache_read_misplaced, breaks_cache_program_misplaced, breaks_copyback_misplaced, breaks_plane_not_held}
use Rattle.onfi_cycle.specs.Permitted.{broken, judge_cycle}
use Rattle.onfi_cycle.specs.Channel.{Channel, IsIdle, IsOwn, is_there, is_open_on, is_serving, cycle}
use Rattle.micro_program.proofs.Basics.{there_lun}
use Rattle.micro_program.proofs.Views.{some_at, never}

-- a cycle on a target that is there is permitted where it breaks no rule beside the first
pub permitted_cycle : (s : Channel) (past : List Item) (l : Lun) (kind : Kind) (byte : ℕ) → is_there s l ≡ true → judge_cycle s.geometry (facts_of (tail past l.ce)) (luns_of s.geometry past l.ce) (target_cycle kind byte) ≡ None → broken s.geometry s.targets past (cycle l.ce kind byte) ≡ None
unfolding breaks_not_there
permitted_cycle s past l kind byte there h =
    let below : ltb l.ce s.targets ≡ true = (and_parts (ltb l.ce s.targets) (ltb l.lun s.geometry.luns) there).0 in
    let no_fault : leb s.targets l.ce ≡ false = grind (arith, nat_tests) in
    rw no_fault h

-- a cycle more on the tail
pub tail_more : (past : List Item) (ce : ℕ) (kind : Kind) (byte : ℕ) (t : List TargetCycle) → tail past ce ≡ t → tail (cycle ce kind byte ∷ past) ce ≡ with_cycle (target_cycle kind byte) t
tail_more past ce kind byte t e = rw (eqb_self ce) (ap (with_cycle (target_cycle kind byte)) e)

-- a cycle that serves no whole target, and keeps to its LUN
pub of_no_target : (shared serves keeps : Bool) → serves ≡ false → keeps ≡ true → (not (shared && serves) && keeps) ≡ true
of_no_target true true keeps none keep = cc
of_no_target true false keeps none keep = keep
of_no_target false serves keeps none keep = keep

-- what is shared has several LUNs, in the wider profile
shared_by : (g : Parts) → is_wide g.optional ≡ true → ltb 1 g.luns ≡ true → is_shared g ≡ true
shared_by g e f = rw (e, f) refl

-- an address that ends the row of neither 80 nor 85
no_copy : (g : Parts) (t : TailFacts) (luns : List LunView) (b : ℕ) → ends_row is_write_column t ≡ false → ends_row is_page_program t ≡ false → breaks_copyback_misplaced g t luns (AddressCycle b) ≡ false
unfolding breaks_copyback_misplaced
no_copy g t luns b h k = rw (h, k) (and-false (has_copyback g.optional))

-- an address after a tail that takes it, whose row, if it ends one, names the LUN
pub own_address : (s : Channel) (l : Lun) (past : List Item) (byte : ℕ) (t : List TargetCycle) → is_there s l ≡ true → tail past l.ce ≡ t → judge_cycle s.geometry (facts_of t) (luns_of s.geometry past l.ce) (AddressCycle byte) ≡ None → cond (ends_row (λ c. true) (facts_of t)) (names_lun s.geometry (row_with (facts_of t) byte) l.lun) true ≡ true → opened (λ c n. reads_identity c) (facts_of t).opening ≡ false → IsOwn s l past (cycle l.ce Adr byte)
own_address s l past byte t there e judged named beside =
    record {
      permitted = permitted_cycle s past l Adr byte there (subst (λ (u : List TargetCycle). judge_cycle s.geometry (facts_of u) (luns_of s.geometry past l.ce) (AddressCycle byte) ≡ None) (sym e) judged);
      own =
          and_from _ _ (eqb_self l.ce)
          (of_no_target (is_shared s.geometry) (opened (λ c n. reads_identity c) (facts_of (tail past l.ce)).opening) _
          (subst (λ (u : List TargetCycle). opened (λ c n. reads_identity c) (facts_of u).opening ≡ false) (sym e) beside)
          (subst (λ (u : List TargetCycle). cond (ends_row (λ c. true) (facts_of u)) (names_lun s.geometry (row_with (facts_of u) byte) l.lun) true ≡ true) (sym e) named));
    }

-- 1. Block Erase

judge_erase : (g : Parts) (t : TailFacts) (luns : List LunView) → is_open t ≡ false → list_any (λ v. not v.busy) luns ≡ true → judge_cycle g t luns (CommandCycle BlockErase) ≡ None
unfolding breaks_command_unknown breaks_sequence_open breaks_several_luns breaks_no_column_to_change breaks_command_misplaced breaks_address_misplaced breaks_row_outside breaks_lun_busy breaks_queue_clash breaks_input_misplaced breaks_no_sole_driver breaks_data_not_ready breaks_column_outside breaks_cache_read_misplaced breaks_cache_program_misplaced breaks_copyback_misplaced breaks_plane_not_held
judge_erase g t luns closed ready = at (is_wide g.optional) (ltb 1 g.luns) refl refl
  where
    at : (w several : Bool) → is_wide g.optional ≡ w → ltb 1 g.luns ≡ several → judge_cycle g t luns (CommandCycle BlockErase) ≡ None
    at true true e f = rw (e, f, closed, ready) refl
    at true false e f = rw (e, f, closed, ready) refl
    at false several e f = rw (e, closed, ready) refl

-- 60h where nothing is open and the LUN is ready
pub own_erase : (s : Channel) (l : Lun) (past : List Item) → is_there s l ≡ true → is_open_on past l.ce ≡ false → IsIdle s.geometry past l → IsOwn s l past (cycle l.ce Cmd 0x60)
unfolding command
own_erase s l past there closed idle =
    record {
      permitted = permitted_cycle s past l Cmd 0x60 there (judge_erase s.geometry (facts_of (tail past l.ce)) (luns_of s.geometry past l.ce) closed (some_at s.geometry past l (λ v. not v.busy) (there_lun s l there) (rw idle.ready refl)));
      own = and_from _ _ (eqb_self l.ce) (of_no_target (is_shared s.geometry) false _ refl refl);
    }

pub tail_erase : (past : List Item) (ce : ℕ) → tail (cycle ce Cmd 0x60 ∷ past) ce ≡ CommandCycle BlockErase ∷ []
unfolding command
tail_erase past ce = rw (eqb_self ce) refl

pub judge_erase_1 : (g : Parts) (luns : List LunView) (b : ℕ) → judge_cycle g (facts_of (CommandCycle BlockErase ∷ [])) luns (AddressCycle b) ≡ None
unfolding breaks_command_unknown breaks_sequence_open breaks_several_luns breaks_no_column_to_change breaks_command_misplaced breaks_address_misplaced breaks_row_outside breaks_lun_busy breaks_queue_clash breaks_input_misplaced breaks_no_sole_driver breaks_data_not_ready breaks_column_outside breaks_cache_read_misplaced breaks_cache_program_misplaced breaks_plane_not_held
judge_erase_1 g luns b = at (is_wide g.optional) refl
  where
    at : (w : Bool) → is_wide g.optional ≡ w → judge_cycle g (facts_of (CommandCycle BlockErase ∷ [])) luns (AddressCycle b) ≡ None
    at true e = rw (no_copy g (facts_of (CommandCycle BlockErase ∷ [])) luns b refl refl, e, never) refl
    at false e = rw (no_copy g (facts_of (CommandCycle BlockErase ∷ [])) luns b refl refl, e, never) refl

pub judge_erase_2 : (g : Parts) (luns : List LunView) (a b : ℕ) → judge_cycle g (facts_of (AddressCycle a ∷ (CommandCycle BlockErase ∷ []))) luns (AddressCycle b) ≡ None
unfolding breaks_command_unknown breaks_sequence_open breaks_several_luns breaks_no_column_to_change breaks_command_misplaced breaks_address_misplaced breaks_row_outside breaks_lun_busy breaks_queue_clash breaks_input_misplaced breaks_no_sole_driver breaks_data_not_ready breaks_column_outside breaks_cache_read_misplaced breaks_cache_program_misplaced breaks_plane_not_held
judge_erase_2 g luns a b = at (is_wide g.optional) refl
  where
    at : (w : Bool) → is_wide g.optional ≡ w → judge_cycle g (facts_of (AddressCycle a ∷ (CommandCycle BlockErase ∷ []))) luns (AddressCycle b) ≡ None
    at true e = rw (no_copy g (facts_of (AddressCycle a ∷ (CommandCycle BlockErase ∷ []))) luns b refl refl, e, never) refl
    at false e = rw (no_copy g (facts_of (AddressCycle a ∷ (CommandCycle BlockErase ∷ []))) luns b refl refl, e, never) refl

pub judge_erase_3 : (g : Parts) (luns : List LunView) (r1 r2 r3 : ℕ) → is_inside g (parts_of g (row_of r1 r2 r3)) ≡ true → named_lun_is g (row_of r1 r2 r3) (λ v. v.busy) luns ≡ false → named_lun_is g (row_of r1 r2 r3) (λ v. some_queued_clashes g true (page_address g (row_of r1 r2 r3)) v.queue) luns ≡ false → named_lun_is g (row_of r1 r2 r3) caching luns ≡ false → named_lun_is g (row_of r1 r2 r3) programs luns ≡ false → (is_shared g && list_any works_for_target luns) ≡ false → judge_cycle g (facts_of (AddressCycle r2 ∷ (AddressCycle r1 ∷ (CommandCycle BlockErase ∷ [])))) luns (AddressCycle r3) ≡ None
unfolding breaks_command_unknown breaks_sequence_open breaks_several_luns breaks_no_column_to_change breaks_command_misplaced breaks_address_misplaced breaks_row_outside breaks_lun_busy breaks_queue_clash breaks_input_misplaced breaks_no_sole_driver breaks_data_not_ready breaks_column_outside breaks_cache_read_misplaced breaks_cache_program_misplaced breaks_plane_not_held
judge_erase_3 g luns r1 r2 r3 inside busy clash cache program free = at (is_wide g.optional) refl
  where
    at : (w : Bool) → is_wide g.optional ≡ w → judge_cycle g (facts_of (AddressCycle r2 ∷ (AddressCycle r1 ∷ (CommandCycle BlockErase ∷ [])))) luns (AddressCycle r3) ≡ None
    at true e = rw (no_copy g (facts_of (AddressCycle r2 ∷ (AddressCycle r1 ∷ (CommandCycle BlockErase ∷ [])))) luns r3 refl refl, free, e, inside, busy, clash, cache, program) refl
    at false e = rw (no_copy g (facts_of (AddressCycle r2 ∷ (AddressCycle r1 ∷ (CommandCycle BlockErase ∷ [])))) luns r3 refl refl, e, inside, busy, clash, cache, program) refl

-- the tail of an erase with its row
abbrev pub addressed_erase : ℕ → ℕ → ℕ → List TargetCycle
addressed_erase r1 r2 r3 = AddressCycle r3 ∷ (AddressCycle r2 ∷ (AddressCycle r1 ∷ (CommandCycle BlockErase ∷ [])))

judge_confirm : (g : Parts) (luns : List LunView) (r1 r2 r3 : ℕ) → judge_cycle g (facts_of (addressed_erase r1 r2 r3)) luns (CommandCycle BlockEraseConfirm) ≡ None
unfolding breaks_command_unknown breaks_sequence_open breaks_several_luns breaks_no_column_to_change breaks_command_misplaced breaks_address_misplaced breaks_row_outside breaks_lun_busy breaks_queue_clash breaks_input_misplaced breaks_no_sole_driver breaks_data_not_ready breaks_column_outside breaks_cache_read_misplaced breaks_cache_program_misplaced breaks_copyback_misplaced breaks_plane_not_held
judge_confirm g luns r1 r2 r3 = at (is_wide g.optional) (ltb 1 g.luns) refl refl
  where
    at : (w several : Bool) → is_wide g.optional ≡ w → ltb 1 g.luns ≡ several → judge_cycle g (facts_of (addressed_erase r1 r2 r3)) luns (CommandCycle BlockEraseConfirm) ≡ None
    at true true e f = rw (e, f) refl
    at true false e f = rw (e, f) refl
    at false several e f = rw e refl

-- D0h behind the row of the LUN
pub own_confirm : (s : Channel) (l : Lun) (past : List Item) (r1 r2 r3 : ℕ) → is_there s l ≡ true → tail past l.ce ≡ addressed_erase r1 r2 r3 → (parts_of s.geometry (row_of r1 r2 r3)).lun ≡ l.lun → IsOwn s l past (cycle l.ce Cmd 0xd0)
unfolding command
own_confirm s l past r1 r2 r3 there e named =
    record {
      permitted = permitted_cycle s past l Cmd 0xd0 there (subst (λ (u : List TargetCycle). judge_cycle s.geometry (facts_of u) (luns_of s.geometry past l.ce) (CommandCycle BlockEraseConfirm) ≡ None) (sym e) (judge_confirm s.geometry (luns_of s.geometry past l.ce) r1 r2 r3));
      own = and_from _ _ (eqb_self l.ce) (of_no_target (is_shared s.geometry) false _ refl (subst (λ (u : List TargetCycle). names_lun s.geometry (row (facts_of u)) l.lun ≡ true) (sym e) (eq-eqb _ _ named)));
    }

-- 2. Read Status and Read Status Enhanced

judge_status : (g : Parts) (t : TailFacts) (luns : List LunView) → is_open t ≡ false → ltb 1 g.luns ≡ false → judge_cycle g t luns (CommandCycle ReadStatus) ≡ None
unfolding breaks_command_unknown breaks_sequence_open breaks_several_luns breaks_no_column_to_change breaks_command_misplaced breaks_address_misplaced breaks_row_outside breaks_lun_busy breaks_queue_clash breaks_input_misplaced breaks_no_sole_driver breaks_data_not_ready breaks_column_outside breaks_cache_read_misplaced breaks_cache_program_misplaced breaks_copyback_misplaced breaks_plane_not_held
judge_status g t luns closed one = at (is_wide g.optional) refl
  where
    at : (w : Bool) → is_wide g.optional ≡ w → judge_cycle g t luns (CommandCycle ReadStatus) ≡ None
    at true e = rw (e, closed, one) refl
    at false e = rw (e, closed, one) refl

-- 70h where nothing is open, on a target with one LUN
pub own_status : (s : Channel) (l : Lun) (past : List Item) → is_there s l ≡ true → ltb 1 s.geometry.luns ≡ false → is_open_on past l.ce ≡ false → IsOwn s l past (cycle l.ce Cmd 0x70)
unfolding command
own_status s l past there one closed =
    record {
      permitted = permitted_cycle s past l Cmd 0x70 there (judge_status s.geometry (facts_of (tail past l.ce)) (luns_of s.geometry past l.ce) closed one);
      own = and_from _ _ (eqb_self l.ce) (of_no_target (is_shared s.geometry) false _ refl refl);
    }

pub tail_status : (past : List Item) (ce : ℕ) → tail (cycle ce Cmd 0x70 ∷ past) ce ≡ CommandCycle ReadStatus ∷ []
unfolding command
tail_status past ce = rw (eqb_self ce) refl

judge_enhanced : (g : Parts) (t : TailFacts) (luns : List LunView) → is_open t ≡ false → g.enhanced ≡ true → (is_shared g && list_any works_for_target luns) ≡ false → judge_cycle g t luns (CommandCycle ReadStatusEnhanced) ≡ None
unfolding breaks_command_unknown breaks_sequence_open breaks_several_luns breaks_no_column_to_change breaks_command_misplaced breaks_address_misplaced breaks_row_outside breaks_lun_busy breaks_queue_clash breaks_input_misplaced breaks_no_sole_driver breaks_data_not_ready breaks_column_outside breaks_cache_read_misplaced breaks_cache_program_misplaced breaks_copyback_misplaced breaks_plane_not_held
judge_enhanced g t luns closed enhanced free = at (is_wide g.optional) (ltb 1 g.luns) refl refl
  where
    at : (w several : Bool) → is_wide g.optional ≡ w → ltb 1 g.luns ≡ several → judge_cycle g t luns (CommandCycle ReadStatusEnhanced) ≡ None
    at true true e f = let none : list_any works_for_target luns ≡ false = ap (λ (b : Bool). b && list_any works_for_target luns) (sym (shared_by g e f)) ∙ free in rw (e, f, closed, enhanced, none) refl
    at true false e f = rw (e, f, closed, enhanced) refl
    at false several e f = rw (e, closed, enhanced) refl

-- 78h where nothing is open, and it is declared
pub own_enhanced : (s : Channel) (l : Lun) (past : List Item) → is_there s l ≡ true → s.geometry.enhanced ≡ true → is_open_on past l.ce ≡ false → is_serving s.geometry past l.ce ≡ false → IsOwn s l past (cycle l.ce Cmd 0x78)
unfolding command
own_enhanced s l past there enhanced closed free =
    record {
      permitted = permitted_cycle s past l Cmd 0x78 there (judge_enhanced s.geometry (facts_of (tail past l.ce)) (luns_of s.geometry past l.ce) closed enhanced free);
      own = and_from _ _ (eqb_self l.ce) (of_no_target (is_shared s.geometry) false _ refl refl);
    }

pub tail_enhanced : (past : List Item) (ce : ℕ) → tail (cycle ce Cmd 0x78 ∷ past) ce ≡ CommandCycle ReadStatusEnhanced ∷ []
unfolding command
tail_enhanced past ce = rw (eqb_self ce) refl

pub judge_enhanced_1 : (g : Parts) (luns : List LunView) (b : ℕ) → judge_cycle g (facts_of (CommandCycle ReadStatusEnhanced ∷ [])) luns (AddressCycle b) ≡ None
unfolding breaks_command_unknown breaks_sequence_open breaks_several_luns breaks_no_column_to_change breaks_command_misplaced breaks_address_misplaced breaks_row_outside breaks_lun_busy breaks_queue_clash breaks_input_misplaced breaks_no_sole_driver breaks_data_not_ready breaks_column_outside breaks_cache_read_misplaced breaks_cache_program_misplaced breaks_plane_not_held
judge_enhanced_1 g luns b = at (is_wide g.optional) refl
  where
    at : (w : Bool) → is_wide g.optional ≡ w → judge_cycle g (facts_of (CommandCycle ReadStatusEnhanced ∷ [])) luns (AddressCycle b) ≡ None
    at true e = rw (no_copy g (facts_of (CommandCycle ReadStatusEnhanced ∷ [])) luns b refl refl, e, never) refl
    at false e = rw (no_copy g (facts_of (CommandCycle ReadStatusEnhanced ∷ [])) luns b refl refl, e, never) refl

pub judge_enhanced_2 : (g : Parts) (luns : List LunView) (a b : ℕ) → judge_cycle g (facts_of (AddressCycle a ∷ (CommandCycle ReadStatusEnhanced ∷ []))) luns (AddressCycle b) ≡ None
unfolding breaks_command_unknown breaks_sequence_open breaks_several_luns breaks_no_column_to_change breaks_command_misplaced breaks_address_misplaced breaks_row_outside breaks_lun_busy breaks_queue_clash breaks_input_misplaced breaks_no_sole_driver breaks_data_not_ready breaks_column_outside breaks_cache_read_misplaced breaks_cache_program_misplaced breaks_plane_not_held
judge_enhanced_2 g luns a b = at (is_wide g.optional) refl
  where
    at : (w : Bool) → is_wide g.optional ≡ w → judge_cycle g (facts_of (AddressCycle a ∷ (CommandCycle ReadStatusEnhanced ∷ []))) luns (AddressCycle b) ≡ None
    at true e = rw (no_copy g (facts_of (AddressCycle a ∷ (CommandCycle ReadStatusEnhanced ∷ []))) luns b refl refl, e, never) refl
    at false e = rw (no_copy g (facts_of (AddressCycle a ∷ (CommandCycle ReadStatusEnhanced ∷ []))) luns b refl refl, e, never) refl

pub judge_enhanced_3 : (g : Parts) (luns : List LunView) (r1 r2 r3 : ℕ) → is_inside g (parts_of g (row_of r1 r2 r3)) ≡ true → judge_cycle g (facts_of (AddressCycle r2 ∷ (AddressCycle r1 ∷ (CommandCycle ReadStatusEnhanced ∷ [])))) luns (AddressCycle r3) ≡ None
unfolding breaks_command_unknown breaks_sequence_open breaks_several_luns breaks_no_column_to_change breaks_command_misplaced breaks_address_misplaced breaks_row_outside breaks_lun_busy breaks_queue_clash breaks_input_misplaced breaks_no_sole_driver breaks_data_not_ready breaks_column_outside breaks_cache_read_misplaced breaks_cache_program_misplaced breaks_plane_not_held
judge_enhanced_3 g luns r1 r2 r3 inside = at (is_wide g.optional) refl
  where
    at : (w : Bool) → is_wide g.optional ≡ w → judge_cycle g (facts_of (AddressCycle r2 ∷ (AddressCycle r1 ∷ (CommandCycle ReadStatusEnhanced ∷ [])))) luns (AddressCycle r3) ≡ None
    at true e = rw (no_copy g (facts_of (AddressCycle r2 ∷ (AddressCycle r1 ∷ (CommandCycle ReadStatusEnhanced ∷ [])))) luns r3 refl refl, e, inside, never) refl
    at false e = rw (no_copy g (facts_of (AddressCycle r2 ∷ (AddressCycle r1 ∷ (CommandCycle ReadStatusEnhanced ∷ [])))) luns r3 refl refl, e, inside, never) refl

-- an output where nothing is open and one driver shows its status
pub judge_output : (g : Parts) (t : TailFacts) (luns : List LunView) (v : LunView) → is_open t ≡ false → driver luns ≡ Some v → is_data v.latch ≡ false → judge_cycle g t luns OutputCycle ≡ None
unfolding breaks_command_unknown breaks_sequence_open breaks_several_luns breaks_no_column_to_change breaks_command_misplaced breaks_address_misplaced breaks_row_outside breaks_lun_busy breaks_queue_clash breaks_input_misplaced breaks_no_sole_driver breaks_data_not_ready breaks_column_outside breaks_cache_read_misplaced breaks_cache_program_misplaced breaks_copyback_misplaced breaks_plane_not_held
judge_output g t luns v closed one shows = rw (closed, one, shows) refl
