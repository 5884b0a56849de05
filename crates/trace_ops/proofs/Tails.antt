-- How the newest operation of each target and the tail of that go together, item by item of a legal past.
use Rattle.std.proofs.Common.{◌≡◌, ◌⊎◌, inl, inr, ℕ, ◌<◌, ◌==◌, Bool, true, false, ◌&&◌, ◌||◌, not, cond, List, [], ◌∷◌, None, refl, sym, ap, ◌∙◌, eqb-true, eq-eqb, ne_eqb, leb, leb-false}
use Rattle.nand_geometry.specs.declared.parts.Parts.{Parts}
use Rattle.nand_geometry.specs.Optional.{no_optional, is_wide, has_copyback}
use Rattle.onfi_cycle.specs.declared.command.Command.{Command}
use Rattle.onfi_cycle.specs.declared.command.Command.TheVariants.{Read, ReadConfirm, ChangeReadColumn, ChangeReadColumnEnhanced, ChangeReadColumnConfirm, BlockErase, BlockEraseConfirm, BlockErasePlane, ReadStatus, ReadStatusEnhanced, PageProgram, ChangeWriteColumn, ProgramConfirm, ProgramPlane, ReadId, ReadParameterPage, Reset, ReadCacheSequential, ReadCacheEnd, ReadUniqueId, GetFeatures, SetFeatures, ResetLun, SynchronousReset, Unknown, ReadPlane, CopybackRead, ProgramCache}
use Rattle.onfi_cycle.specs.declared.forbidden.Forbidden.TheVariants.{NotThere}
use Rattle.onfi_cycle.specs.declared.item.Cycle.{Cycle}
use Rattle.onfi_cycle.specs.declared.item.Item.{Item}
use Rattle.onfi_cycle.specs.declared.item.Item.TheVariants.{Cyc}
use Rattle.onfi_cycle.specs.declared.tail_facts.TailFacts.{TailFacts}
use Rattle.onfi_cycle.specs.declared.target_cycle.TargetCycle.{TargetCycle}
use Rattle.onfi_cycle.specs.declared.target_cycle.TargetCycle.TheVariants.{CommandCycle, AddressCycle, InputCycle, OutputCycle}
use Rattle.onfi_cycle.specs.Command.{is_known, is_reset}
use Rattle.onfi_cycle.specs.Lun.{luns_of}
use Rattle.onfi_cycle.specs.Permitted.{broken, judge_item}
use Rattle.onfi_cycle.specs.Rules.{is_undeclared, is_undeclared_address, breaks_not_there, breaks_command_unknown, breaks_sequence_open, breaks_command_misplaced, breaks_address_misplaced, breaks_input_misplaced, opens_here}
use Rattle.trace_faults.specs.Outside.{begins_alone}
use Rattle.onfi_cycle.specs.Sequence.{target_cycle, begins_anew, goes_on_with, continued, with_cycle, tail, facts_of, wants_command, wants_address, takes_inputs, is_open}
use Rattle.onfi_cycle.proofs.Others.{first_passed}
use Rattle.trace_ops.specs.Laws.{without_outputs}

-- ---- numbers

pub split : (a b : ℕ) → (a ≡ b) ⊎ (a ≡ b → ⊥)
split a b = at (a == b) refl
  where
    at : (x : Bool) → (a == b) ≡ x → (a ≡ b) ⊎ (a ≡ b → ⊥)
    at true e = inl (eqb-true a b e)
    at false e = inr (λ h. clash (sym (eq-eqb a b h) ∙ e))
      where
        clash : true ≡ false → ⊥
        clash h = cc

-- ---- the tail of a target

pub tail_own : (c : Cycle) (past : List Item) → tail (Cyc c ∷ past) c.ce ≡ with_cycle (target_cycle c.kind c.byte) (tail past c.ce)
tail_own c past = ap (λ x. cond x (with_cycle (target_cycle c.kind c.byte) (tail past c.ce)) (tail past c.ce)) (eq-eqb c.ce c.ce refl)

pub tail_other : (c : Cycle) (past : List Item) (d : ℕ) → (c.ce ≡ d → ⊥) → tail (Cyc c ∷ past) d ≡ tail past d
tail_other c past d apart = ap (λ x. cond x (with_cycle (target_cycle c.kind c.byte) (tail past d)) (tail past d)) (ne_eqb c.ce d apart)

pub after_output : (t : List TargetCycle) → without_outputs (continued OutputCycle t) ≡ without_outputs t
after_output [] = refl
after_output (c ∷ t) = refl

-- a cycle that is no opener, or is a 31h that the tail wants, goes on with what is there
pub goes_on : (cycle x : TargetCycle) (rest t : List TargetCycle) → begins_anew (facts_of t) cycle ≡ false → t ≡ x ∷ rest → with_cycle cycle t ≡ cycle ∷ (x ∷ rest)
goes_on cycle x rest t begins is = ap (λ b. cond b (cycle ∷ []) (continued cycle t)) begins ∙ ap (continued cycle) is

-- a wanted command that begins no sequence alone goes on with the tail
pub wanted_goes_on : (t : TailFacts) (c : Command) → begins_alone (CommandCycle c) ≡ false → wants_command t c ≡ true → begins_anew t (CommandCycle c) ≡ false
wanted_goes_on t ChangeWriteColumn h w = ap not w
wanted_goes_on t c h w = cc

-- ---- what a permitted cycle tells

pub target_below : (g : Parts) (targets : ℕ) (past : List Item) (c : Cycle) → broken g targets past (Cyc c) ≡ None → c.ce < targets
unfolding breaks_not_there
target_below g targets past c h =
    let passed : leb targets c.ce ≡ false = (first_passed (breaks_not_there targets (luns_of g past c.ce) (Cyc c)) NotThere (judge_item g (facts_of (tail past c.ce)) (luns_of g past c.ce) (Cyc c)) h).0 in
    leb-false targets c.ce passed

pub known_command : (g : Parts) (c : Command) → breaks_command_unknown g (CommandCycle c) ≡ false → is_known c ≡ true
unfolding breaks_command_unknown
known_command g c h = at (is_known c) (is_undeclared g c) h
  where
    at : (x y : Bool) → (not x || y) ≡ false → x ≡ true
    at true y h = refl
    at false y h = cc

pub wanted_command : (g : Parts) (t : TailFacts) (c : Command) → breaks_command_misplaced g t (CommandCycle c) ≡ false → opens_here g c ≡ false → wants_command t c ≡ true
unfolding breaks_command_misplaced
wanted_command g t c h opens = at (opens_here g c) (wants_command t c) h opens
  where
    at : (x y : Bool) → (not x && not y) ≡ false → x ≡ false → y ≡ true
    at true y h opens = cc
    at false true h opens = refl
    at false false h opens = cc

-- a permitted command that isn't wanted begins a sequence
pub unwanted_opens : (g : Parts) (t : TailFacts) (c : Command) → breaks_command_misplaced g t (CommandCycle c) ≡ false → wants_command t c ≡ false → opens_here g c ≡ true
unfolding breaks_command_misplaced
unwanted_opens g t c h unwanted = at (opens_here g c) (wants_command t c) h unwanted
  where
    at : (x y : Bool) → (not x && not y) ≡ false → y ≡ false → x ≡ true
    at true y h e = refl
    at false true h e = cc
    at false false h e = cc

-- so it is an 85h, if it begins none alone
pub only_column_opens : (g : Parts) (c : Command) → begins_alone (CommandCycle c) ≡ false → opens_here g c ≡ true → c ≡ ChangeWriteColumn
only_column_opens g ChangeWriteColumn h opens = refl
only_column_opens g c h opens = cc

-- and no sequence is open then
pub column_shut : (g : Parts) (t : TailFacts) → breaks_sequence_open g t (CommandCycle ChangeWriteColumn) ≡ false → opens_here g ChangeWriteColumn ≡ true → wants_command t ChangeWriteColumn ≡ false → is_open t ≡ false
unfolding breaks_sequence_open
column_shut g t h opens unwanted = at (opens_here g ChangeWriteColumn) (is_open t) (wants_command t ChangeWriteColumn) (is_wide g.optional) opens unwanted h
  where
    at : (x o w v : Bool) → x ≡ true → w ≡ false → (x && (o && not ((false || w) && v))) ≡ false → o ≡ false
    at x false w v p q h = refl
    at true true false v p q h = cc
    at true true true v p q h = cc
    at false true w v p q h = cc

-- in the base profile an 85h begins nothing
pub base_opens : (g : Parts) (c : Command) → g.optional ≡ no_optional → begins_alone (CommandCycle c) ≡ false → opens_here g c ≡ false
base_opens g ChangeWriteColumn base h = ap has_copyback base
base_opens g c base h = h

-- in the base profile no opener is permitted while a sequence is open
pub base_shut : (g : Parts) (t : TailFacts) (c : Command) → g.optional ≡ no_optional → breaks_sequence_open g t (CommandCycle c) ≡ false → opens_here g c ≡ true → is_open t ≡ false
unfolding breaks_sequence_open
base_shut g t c base h opens = at (opens_here g c) (is_open t) (is_reset c || goes_on_with t c) (is_wide g.optional) opens (ap is_wide base) h
  where
    at : (x o r w : Bool) → x ≡ true → w ≡ false → (x && (o && not (r && w))) ≡ false → o ≡ false
    at x false r w p q h = refl
    at true true true false p q h = cc
    at true true false false p q h = cc
    at true true r true p q h = cc
    at false true r w p q h = cc

pub wanted_address : (g : Parts) (t : TailFacts) (byte : ℕ) → breaks_address_misplaced g t (AddressCycle byte) ≡ false → wants_address t byte ≡ true
unfolding breaks_address_misplaced
wanted_address g t byte h = at (wants_address t byte) (is_undeclared_address g t byte) h
  where
    at : (x y : Bool) → (not x || y) ≡ false → x ≡ true
    at true y h = refl
    at false y h = cc

pub wanted_input : (t : TailFacts) (byte : ℕ) → breaks_input_misplaced t (InputCycle byte) ≡ false → takes_inputs t.phase ≡ true
unfolding breaks_input_misplaced
wanted_input t byte h = at (takes_inputs t.phase) h
  where
    at : (x : Bool) → not x ≡ false → x ≡ true
    at true h = refl
    at false h = cc

-- ---- nothing is wanted where nothing was begun

pub no_command : (c : Command) → wants_command (facts_of []) c ≡ true → ⊥
no_command Read h = cc
no_command ReadConfirm h = cc
no_command ChangeReadColumn h = cc
no_command ChangeReadColumnEnhanced h = cc
no_command ChangeReadColumnConfirm h = cc
no_command BlockErase h = cc
no_command BlockEraseConfirm h = cc
no_command BlockErasePlane h = cc
no_command ReadPlane h = cc
no_command CopybackRead h = cc
no_command ProgramCache h = cc
no_command ReadStatus h = cc
no_command ReadStatusEnhanced h = cc
no_command PageProgram h = cc
no_command ChangeWriteColumn h = cc
no_command ProgramConfirm h = cc
no_command ProgramPlane h = cc
no_command ReadId h = cc
no_command ReadParameterPage h = cc
no_command Reset h = cc
no_command ReadCacheSequential h = cc
no_command ReadCacheEnd h = cc
no_command ReadUniqueId h = cc
no_command GetFeatures h = cc
no_command SetFeatures h = cc
no_command ResetLun h = cc
no_command SynchronousReset h = cc
no_command Unknown h = cc

pub no_address : (byte : ℕ) → wants_address (facts_of []) byte ≡ true → ⊥
no_address byte h = cc

pub no_input : takes_inputs (facts_of []).phase ≡ true → ⊥
no_input h = cc
