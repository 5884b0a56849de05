-- A permitted cycle keeps each rule.
use Rattle.std.proofs.Common.{◌≡◌, ℕ, false, List, None}
use Rattle.nand_geometry.specs.declared.parts.Parts.{Parts}
use Rattle.onfi_cycle.specs.declared.item.Cycle.{Cycle}
use Rattle.onfi_cycle.specs.declared.item.Item.{Item}
use Rattle.onfi_cycle.specs.declared.item.Item.TheVariants.{Cyc}
use Rattle.onfi_cycle.specs.declared.forbidden.Forbidden.TheVariants.{NotThere, CommandUnknown, SequenceOpen, SeveralLuns, NoColumnToChange, CommandMisplaced, AddressMisplaced, RowOutside, LunBusy, QueueClash, InputMisplaced, NoSoleDriver, DataNotReady, ColumnOutside, CacheReadMisplaced, CacheProgramMisplaced, CopybackMisplaced, PlaneNotHeld}
use Rattle.onfi_cycle.specs.declared.tail_facts.TailFacts.{TailFacts}
use Rattle.onfi_cycle.specs.declared.target_cycle.TargetCycle.{TargetCycle}
use Rattle.onfi_cycle.specs.LunView.{LunView}
use Rattle.onfi_cycle.specs.Sequence.{target_cycle, tail, facts_of}
use Rattle.onfi_cycle.specs.Lun.{luns_of}
use Rattle.onfi_cycle.specs.Rules.{breaks_not_there, breaks_command_unknown, breaks_sequence_open, breaks_several_luns, breaks_no_column_to_change, breaks_command_misplaced, breaks_address_misplaced, breaks_row_outside, breaks_lun_busy, breaks_queue_clash, breaks_input_misplaced, breaks_no_sole_driver, breaks_data_not_ready, breaks_column_outside, breaks_cache_read_misplaced, breaks_cache_program_misplaced, breaks_copyback_misplaced, breaks_plane_not_held}
use Rattle.onfi_cycle.specs.Permitted.{broken, judge_cycle}
use Rattle.onfi_cycle.proofs.Others.{first_passed}

-- the rules that a cycle keeps
pub record KeepsRules (g : Parts) (t : TailFacts) (luns : List LunView) (cycle : TargetCycle) : Type 0 where
  pub f2 : breaks_command_unknown g cycle ≡ false
  pub f3 : breaks_sequence_open g t cycle ≡ false
  pub f4 : breaks_several_luns g luns cycle ≡ false
  pub f5 : breaks_no_column_to_change luns cycle ≡ false
  pub f6 : breaks_command_misplaced g t cycle ≡ false
  pub f7 : breaks_address_misplaced g t cycle ≡ false
  pub f8 : breaks_row_outside g t cycle ≡ false
  pub f9 : breaks_lun_busy g t luns cycle ≡ false
  pub f10 : breaks_queue_clash g t luns cycle ≡ false
  pub f11 : breaks_input_misplaced t cycle ≡ false
  pub f12 : breaks_no_sole_driver t luns cycle ≡ false
  pub f13 : breaks_data_not_ready luns cycle ≡ false
  pub f14 : breaks_column_outside g t luns cycle ≡ false
  pub f15 : breaks_cache_read_misplaced g t luns cycle ≡ false
  pub f16 : breaks_cache_program_misplaced g t luns cycle ≡ false
  pub f17 : breaks_copyback_misplaced g t luns cycle ≡ false
  pub f18 : breaks_plane_not_held g t luns cycle ≡ false

pub keeps_rules : (g : Parts) (t : TailFacts) (luns : List LunView) (cycle : TargetCycle) → judge_cycle g t luns cycle ≡ None → KeepsRules g t luns cycle
keeps_rules g t luns cycle h =
    let a2 = first_passed (breaks_command_unknown g cycle) CommandUnknown _ h in
    let a3 = first_passed (breaks_sequence_open g t cycle) SequenceOpen _ a2.1 in
    let a4 = first_passed (breaks_several_luns g luns cycle) SeveralLuns _ a3.1 in
    let a5 = first_passed (breaks_no_column_to_change luns cycle) NoColumnToChange _ a4.1 in
    let a6 = first_passed (breaks_command_misplaced g t cycle) CommandMisplaced _ a5.1 in
    let a7 = first_passed (breaks_address_misplaced g t cycle) AddressMisplaced _ a6.1 in
    let a8 = first_passed (breaks_row_outside g t cycle) RowOutside _ a7.1 in
    let a9 = first_passed (breaks_lun_busy g t luns cycle) LunBusy _ a8.1 in
    let a10 = first_passed (breaks_queue_clash g t luns cycle) QueueClash _ a9.1 in
    let a11 = first_passed (breaks_input_misplaced t cycle) InputMisplaced _ a10.1 in
    let a12 = first_passed (breaks_no_sole_driver t luns cycle) NoSoleDriver _ a11.1 in
    let a13 = first_passed (breaks_data_not_ready luns cycle) DataNotReady _ a12.1 in
    let a14 = first_passed (breaks_column_outside g t luns cycle) ColumnOutside _ a13.1 in
    let a15 = first_passed (breaks_cache_read_misplaced g t luns cycle) CacheReadMisplaced _ a14.1 in
    let a16 = first_passed (breaks_cache_program_misplaced g t luns cycle) CacheProgramMisplaced _ a15.1 in
    let a17 = first_passed (breaks_copyback_misplaced g t luns cycle) CopybackMisplaced _ a16.1 in
    let a18 = first_passed (breaks_plane_not_held g t luns cycle) PlaneNotHeld _ a17.1 in
    record { f2 = a2.0; f3 = a3.0; f4 = a4.0; f5 = a5.0; f6 = a6.0; f7 = a7.0; f8 = a8.0; f9 = a9.0; f10 = a10.0; f11 = a11.0; f12 = a12.0; f13 = a13.0; f14 = a14.0; f15 = a15.0; f16 = a16.0; f17 = a17.0; f18 = a18.0 }

-- of a permitted cycle
pub permitted_keeps : (g : Parts) (n : ℕ) (past : List Item) (c : Cycle) → broken g n past (Cyc c) ≡ None → KeepsRules g (facts_of (tail past c.ce)) (luns_of g past c.ce) (target_cycle c.kind c.byte)
permitted_keeps g n past c h =
    keeps_rules g (facts_of (tail past c.ce)) (luns_of g past c.ce) (target_cycle c.kind c.byte)
    (first_passed (breaks_not_there n (luns_of g past c.ce) (Cyc c)) NotThere (judge_cycle g (facts_of (tail past c.ce)) (luns_of g past c.ce) (target_cycle c.kind c.byte)) h).1
