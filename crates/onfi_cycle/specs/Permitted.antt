-- Which item is permitted after which past, and which pasts are legal.
use Rattle.std.specs.Prelude.{◌≡◌, ℕ, Bool, true, ◌&&◌, if◌then◌else◌, List, [], ◌∷◌, Option, Some, None, is_none, reverse, take, slice_get}
use Rattle.nand_geometry.specs.declared.parts.Parts.{Parts}
use Rattle.onfi_cycle.specs.declared.item.Item.{Item}
use Rattle.onfi_cycle.specs.declared.item.Item.TheVariants.{Cyc, Rdy, Ard}
use Rattle.onfi_cycle.specs.declared.target_cycle.TargetCycle.{TargetCycle}
use Rattle.onfi_cycle.specs.declared.tail_facts.TailFacts.{TailFacts}
use Rattle.onfi_cycle.specs.declared.forbidden.Forbidden.{Forbidden}
use Rattle.onfi_cycle.specs.declared.forbidden.Forbidden.TheVariants.{NotThere, CommandUnknown, SequenceOpen, SeveralLuns, NoColumnToChange, CommandMisplaced, AddressMisplaced, RowOutside, LunBusy, QueueClash, InputMisplaced, NoSoleDriver, DataNotReady, ColumnOutside, CacheReadMisplaced, CacheProgramMisplaced, CopybackMisplaced, PlaneNotHeld}
use Rattle.onfi_cycle.specs.LunView.{LunView}
use Rattle.onfi_cycle.specs.Sequence.{target_of, target_cycle, tail, facts_of}
use Rattle.onfi_cycle.specs.Lun.{luns_of}
use Rattle.onfi_cycle.specs.Rules.{breaks_not_there, breaks_command_unknown, breaks_sequence_open, breaks_several_luns, breaks_no_column_to_change, breaks_command_misplaced, breaks_address_misplaced, breaks_row_outside, breaks_lun_busy, breaks_queue_clash, breaks_input_misplaced, breaks_no_sole_driver, breaks_data_not_ready, breaks_column_outside, breaks_cache_read_misplaced, breaks_cache_program_misplaced, breaks_copyback_misplaced, breaks_plane_not_held}

-- the first of F3 to F18 that a cycle breaks
abbrev pub judge_known_cycle : Parts → TailFacts → List LunView → TargetCycle → Option Forbidden
judge_known_cycle g t luns cycle =
    if breaks_sequence_open g t cycle then Some SequenceOpen
    else (if breaks_several_luns g luns cycle then Some SeveralLuns
    else (if breaks_no_column_to_change luns cycle then Some NoColumnToChange
    else (if breaks_command_misplaced g t cycle then Some CommandMisplaced
    else (if breaks_address_misplaced g t cycle then Some AddressMisplaced
    else (if breaks_row_outside g t cycle then Some RowOutside
    else (if breaks_lun_busy g t luns cycle then Some LunBusy
    else (if breaks_queue_clash g t luns cycle then Some QueueClash
    else (if breaks_input_misplaced t cycle then Some InputMisplaced
    else (if breaks_no_sole_driver t luns cycle then Some NoSoleDriver
    else (if breaks_data_not_ready luns cycle then Some DataNotReady
    else (if breaks_column_outside g t luns cycle then Some ColumnOutside
    else (if breaks_cache_read_misplaced g t luns cycle then Some CacheReadMisplaced
    else (if breaks_cache_program_misplaced g t luns cycle then Some CacheProgramMisplaced
    else (if breaks_copyback_misplaced g t luns cycle then Some CopybackMisplaced
    else (if breaks_plane_not_held g t luns cycle then Some PlaneNotHeld
    else None)))))))))))))))

-- the first of F2 to F18 that a cycle breaks
abbrev pub judge_cycle : Parts → TailFacts → List LunView → TargetCycle → Option Forbidden
judge_cycle g t luns cycle = if breaks_command_unknown g cycle then Some CommandUnknown else judge_known_cycle g t luns cycle

abbrev pub judge_item : Parts → TailFacts → List LunView → Item → Option Forbidden
judge_item g t luns (Cyc c) = judge_cycle g t luns (target_cycle c.kind c.byte)
judge_item g t luns (Rdy _ _ _) = None
judge_item g t luns (Ard _ _ _) = None

-- the first rule that an item breaks, by the facts of its target
abbrev pub judge : Parts → ℕ → TailFacts → List LunView → Item → Option Forbidden
judge g targets t luns i = if breaks_not_there targets luns i then Some NotThere else judge_item g t luns i

-- the first rule that the item breaks after the past
abbrev pub broken : Parts → ℕ → List Item → Item → Option Forbidden
broken g targets past i = judge g targets (facts_of (tail past (target_of i))) (luns_of g past (target_of i)) i

abbrev pub is_permitted : Parts → ℕ → List Item → Item → Bool
is_permitted g targets past i = is_none (broken g targets past i)

-- no item is forbidden after those that it follows
abbrev pub is_legal : Parts → ℕ → List Item → Bool
is_legal g targets [] = true
is_legal g targets (i ∷ past) = is_permitted g targets past i && is_legal g targets past

-- of items in the order of time: those before place n are legal, and the one there breaks this rule first
pub record IsFirstBroken (g : Parts) (targets : ℕ) (items : List Item) (n : ℕ) (rule : Forbidden) : Type 0 where
  pub item : Item
  pub there : slice_get items n ≡ Some item
  pub legal : is_legal g targets (reverse (take n items)) ≡ true
  pub breaks : broken g targets (reverse (take n items)) item ≡ Some rule
