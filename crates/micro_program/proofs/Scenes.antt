-- What one LUN sees of its target: the facts of the tail, what the rules see of the LUN, and whether it is known to drive alone.
-- Which cycle of its own is permitted, and what it leaves, is told by that alone.
use Rattle.std.proofs.Common.{◌≡◌, ℕ, ◌==◌, Bool, true, false, ◌&&◌, ◌||◌, cond, not, ltb, nat_le, Option, Some, None, List, ◌⊎◌, refl}
use Rattle.nand_geometry.specs.declared.parts.Parts.{Parts}
use Rattle.nand_geometry.specs.Limits.{page_len}
use Rattle.nand_geometry.specs.Row.{parts_of, is_inside}
use Rattle.nand_geometry.specs.Optional.{is_wide, has_features, has_unique_id, has_enhanced_column, has_lun_reset, has_plane_reads, has_copyback, has_synchronous_reset, has_program_cache, has_group_cache}
use Rattle.onfi_cycle.specs.declared.command.Command.{Command}
use Rattle.onfi_cycle.specs.declared.command.Command.TheVariants.{Read, ReadConfirm, ChangeReadColumn, ChangeReadColumnConfirm, BlockErase, BlockEraseConfirm, BlockErasePlane, ReadStatus, ReadStatusEnhanced, PageProgram, ChangeWriteColumn, ProgramConfirm, ProgramPlane, ReadId, ReadParameterPage, Reset, ReadCacheSequential, ReadCacheEnd, ReadUniqueId, GetFeatures, SetFeatures, ResetLun, SynchronousReset, Unknown, ChangeReadColumnEnhanced, ReadPlane, CopybackRead, ProgramCache}
use Rattle.onfi_cycle.specs.declared.lun.Lun.{Lun}
use Rattle.onfi_cycle.specs.declared.item.Item.{Item}
use Rattle.onfi_cycle.specs.declared.latch.Latch.{Latch}
use Rattle.onfi_cycle.specs.declared.latch.Latch.TheVariants.{Off}
use Rattle.onfi_cycle.specs.declared.opening.Opening.{Opening}
use Rattle.onfi_cycle.specs.declared.tail_facts.TailFacts.{TailFacts}
use Rattle.onfi_cycle.specs.declared.target_cycle.TargetCycle.{TargetCycle}
use Rattle.onfi_cycle.specs.declared.target_cycle.TargetCycle.TheVariants.{CommandCycle, AddressCycle, InputCycle, OutputCycle}
use Rattle.onfi_cycle.specs.LunView.{LunView}
use Rattle.onfi_cycle.specs.Sequence.{tail, facts_of, facts_after, opened, is_open, selects_plane, takes_features, takes_inputs, wants_command, wants_address, row, row_with, column_with, input_column}
use Rattle.onfi_cycle.specs.Effect.{page_address, names_lun, cycle_effect}
use Rattle.onfi_cycle.specs.Lun.{drivers, is_only, lun_view, view_after, programs}
use Rattle.onfi_cycle.specs.Rules.{ends_row, second_of_page, second_column, caching, has_read_one, continues_cache, ends_cache, may_change_column, has_some, is_refused_by, register_len, has_no_byte, is_past_register, is_undeclared_address, excludes_cache, holds_plane_of, may_copy, is_copying, holds_none, excludes_program}
use Rattle.onfi_cycle.specs.Command.{addresses_the_array, is_change_read_column, is_enhanced_column, is_page_program, is_write_column, reads_identity}
use Rattle.onfi_cycle.specs.Channel.{Channel, is_serving}
use Rattle.onfi_cycle.proofs.TableLemmas.{command_opens}

pub record Scene : Type 0 where
  pub facts : TailFacts
  pub view : LunView
  pub sole : Bool

-- the scene is what the LUN sees after this past
pub record IsScene (s : Channel) (l : Lun) (past : List Item) (c : Scene) : Type 0 where
  pub facts : facts_of (tail past l.ce) ≡ c.facts
  pub view : lun_view s.geometry past l ≡ c.view
  pub sole : c.sole ≡ true → is_only (drivers s.geometry past l.ce) l.lun ≡ true
  pub free : is_serving s.geometry past l.ce ≡ false

-- ---- what is allowed

abbrev pub OpenerAllowed : Scene → Type 0
OpenerAllowed c = (is_open c.facts ≡ false) × (c.view.busy ≡ false)

abbrev pub CloserAllowed : Parts → ℕ → Scene → Command → Type 0
CloserAllowed g lun c d = (wants_command c.facts d ≡ true) × (names_lun g (row c.facts) lun ≡ true)

pub record IdentityAllowed (g : Parts) (c : Scene) : Type 0 where
  pub closed : is_open c.facts ≡ false
  pub one : ltb 1 g.luns ≡ false
  pub ready : c.view.busy ≡ false
  pub no_queue : has_some c.view.queue ≡ false
  pub no_cache : caching c.view ≡ false
  pub no_program : programs c.view ≡ false

-- a reset of the whole target; in the wider profile it may come in an open sequence
pub record ResetAllowed (g : Parts) (c : Scene) : Type 0 where
  pub closed : (is_open c.facts && not (is_wide g.optional)) ≡ false
  pub one : ltb 1 g.luns ≡ false

pub record CacheAllowed (g : Parts) (c : Scene) (test : LunView → Bool) : Type 0 where
  pub closed : is_open c.facts ≡ false
  pub declared : g.cache ≡ true
  pub sole : c.sole ≡ true
  pub passes : test c.view ≡ true

-- a cache read at the row of the tail
pub record RowCacheAllowed (g : Parts) (lun : ℕ) (c : Scene) : Type 0 where
  pub wants : wants_command c.facts ReadCacheSequential ≡ true
  pub names : names_lun g (row c.facts) lun ≡ true
  pub declared : g.cache ≡ true
  pub wide : is_wide g.optional ≡ true
  pub read : has_read_one c.view ≡ true

-- another column of the one driver, which 05 began
pub record ColumnAllowed (c : Scene) : Type 0 where
  pub wants : wants_command c.facts ChangeReadColumnConfirm ≡ true
  pub no_plane : selects_plane c.facts ≡ false
  pub sole : c.sole ≡ true

-- a column of the page that the plane of the row holds, which 06 began
pub record PlaneAllowed (g : Parts) (lun : ℕ) (c : Scene) : Type 0 where
  pub wants : wants_command c.facts ChangeReadColumnConfirm ≡ true
  pub plane : selects_plane c.facts ≡ true
  pub names : names_lun g (row c.facts) lun ≡ true

-- 15 closes a program: of several planes where the chip may cache those, and of no copyback
pub record CacheProgramAllowed (g : Parts) (lun : ℕ) (c : Scene) : Type 0 where
  pub wants : wants_command c.facts ProgramCache ≡ true
  pub names : names_lun g (row c.facts) lun ≡ true
  pub declared : has_program_cache g.optional ≡ true
  pub no_group : (not (has_group_cache g.optional) && has_some c.view.queue) ≡ false
  pub no_copy : (has_copyback g.optional && not (holds_none c.view.held)) ≡ false

-- where nothing is open no 31 is wanted
pub closed_unwanted : (t : TailFacts) → is_open t ≡ false → wants_command t ReadCacheSequential ≡ false
closed_unwanted t closed = at (wants_command t ReadCacheSequential) refl
  where
    at : (w : Bool) → wants_command t ReadCacheSequential ≡ w → w ≡ false
    at true w = let opens : is_open t ≡ true = command_opens t ReadCacheSequential w in cc
    at false w = refl

abbrev pub CommandAllowed : Parts → ℕ → Scene → Command → Type 0
CommandAllowed g lun c Read = OpenerAllowed c
CommandAllowed g lun c BlockErase = OpenerAllowed c
CommandAllowed g lun c PageProgram = OpenerAllowed c
CommandAllowed g lun c ChangeReadColumn = OpenerAllowed c × (c.sole ≡ true) × (may_change_column c.view ≡ true)
CommandAllowed g lun c ReadStatus = (is_open c.facts ≡ false) × (ltb 1 g.luns ≡ false)
CommandAllowed g lun c ReadStatusEnhanced = (is_open c.facts ≡ false) × (g.enhanced ≡ true)
CommandAllowed g lun c ReadId = IdentityAllowed g c
CommandAllowed g lun c ReadParameterPage = IdentityAllowed g c
CommandAllowed g lun c Reset = ResetAllowed g c
CommandAllowed g lun c ReadCacheSequential = CacheAllowed g c (continues_cache g) ⊎ RowCacheAllowed g lun c
CommandAllowed g lun c ReadCacheEnd = CacheAllowed g c ends_cache
CommandAllowed g lun c ReadConfirm = CloserAllowed g lun c ReadConfirm × ((is_wide g.optional && caching c.view) ≡ false)
CommandAllowed g lun c BlockEraseConfirm = CloserAllowed g lun c BlockEraseConfirm
CommandAllowed g lun c BlockErasePlane = CloserAllowed g lun c BlockErasePlane × (g.multi_plane ≡ true)
CommandAllowed g lun c ProgramConfirm = CloserAllowed g lun c ProgramConfirm
CommandAllowed g lun c ProgramPlane = CloserAllowed g lun c ProgramPlane × (g.multi_plane ≡ true)
CommandAllowed g lun c ProgramCache = CacheProgramAllowed g lun c
CommandAllowed g lun c ChangeReadColumnConfirm = ColumnAllowed c ⊎ PlaneAllowed g lun c
CommandAllowed g lun c ChangeWriteColumn = (wants_command c.facts ChangeWriteColumn ≡ true) ⊎ (OpenerAllowed c × (has_copyback g.optional ≡ true))
CommandAllowed g lun c ReadUniqueId = IdentityAllowed g c × (has_unique_id g.optional ≡ true)
CommandAllowed g lun c GetFeatures = IdentityAllowed g c × (has_features g.optional ≡ true)
CommandAllowed g lun c SetFeatures = IdentityAllowed g c × (has_features g.optional ≡ true)
CommandAllowed g lun c ResetLun = (is_open c.facts ≡ false) × (has_lun_reset g.optional ≡ true)
CommandAllowed g lun c SynchronousReset = ResetAllowed g c × (has_synchronous_reset g.optional ≡ true)
CommandAllowed g lun c Unknown = ⊥
CommandAllowed g lun c ChangeReadColumnEnhanced = OpenerAllowed c × (has_enhanced_column g.optional ≡ true)
CommandAllowed g lun c ReadPlane = CloserAllowed g lun c ReadPlane × (caching c.view ≡ false) × (has_plane_reads g.optional ≡ true)
CommandAllowed g lun c CopybackRead = CloserAllowed g lun c CopybackRead × (caching c.view ≡ false) × (has_copyback g.optional ≡ true)

-- the last row cycle: that of 85 copies a page that the LUN holds, and that of 80 comes in no group of copybacks
pub record RowAllowed (g : Parts) (lun : ℕ) (c : Scene) (byte : ℕ) : Type 0 where
  pub inside : is_inside g (parts_of g (row_with c.facts byte)) ≡ true
  pub names : names_lun g (row_with c.facts byte) lun ≡ true
  pub ready : ends_row addresses_the_array c.facts ≡ true → c.view.busy ≡ false
  pub goes : is_refused_by g c.facts.opening (page_address g (row_with c.facts byte)) c.view.queue ≡ false
  pub no_cache : ends_row (excludes_cache g) c.facts ≡ true → caching c.view ≡ false
  pub no_program : ends_row excludes_program c.facts ≡ true → programs c.view ≡ false
  pub plane : ends_row is_enhanced_column c.facts ≡ true → holds_plane_of g (page_address g (row_with c.facts byte)) c.view ≡ true
  pub copy : ends_row is_write_column c.facts ≡ true → may_copy g (page_address g (row_with c.facts byte)) c.view ≡ true
  pub no_group : ends_row is_page_program c.facts ≡ true → (has_copyback g.optional && is_copying c.view) ≡ false

pub record AddressAllowed (g : Parts) (lun : ℕ) (c : Scene) (byte : ℕ) : Type 0 where
  pub wanted : wants_address c.facts byte ≡ true
  pub profile : is_undeclared_address g c.facts byte ≡ false
  pub alone : opened (λ d n. reads_identity d) c.facts.opening ≡ true → ltb 1 g.luns ≡ false
  pub row : ends_row (λ d. true) c.facts ≡ true → RowAllowed g lun c byte
  pub column : second_of_page c.facts ≡ true → nat_le (page_len g) (column_with c.facts byte) ≡ false
  pub read_column : second_column is_change_read_column c.facts ≡ true → (c.sole ≡ true) × (nat_le (register_len g c.view.register) (column_with c.facts byte) ≡ false)

-- an input of a program, inside the page, or one of the four of a Set Features
pub record InputAllowed (g : Parts) (c : Scene) : Type 0 where
  pub wanted : takes_inputs c.facts.phase ≡ true
  pub alone : takes_features c.facts.phase ≡ true → ltb 1 g.luns ≡ false
  pub inside : (not (takes_features c.facts.phase) && nat_le (page_len g) (input_column c.facts)) ≡ false

pub record OutputAllowed (g : Parts) (c : Scene) : Type 0 where
  pub closed : is_open c.facts ≡ false
  pub sole : c.sole ≡ true
  pub has_byte : has_no_byte c.view ≡ false
  pub inside : is_past_register g c.view ≡ false

abbrev pub Allowed : Parts → ℕ → Scene → TargetCycle → Type 0
Allowed g lun c (CommandCycle d) = CommandAllowed g lun c d
Allowed g lun c (AddressCycle byte) = AddressAllowed g lun c byte
Allowed g lun c (InputCycle byte) = InputAllowed g c
Allowed g lun c OutputCycle = OutputAllowed g c

-- ---- what is left

-- its latch if it is known to drive alone, and else Off
abbrev pub shown_alone : Scene → Latch
shown_alone c = cond c.sole c.view.latch Off

abbrev pub command_sole : Parts → TailFacts → Bool → Command → Bool
command_sole g t sole Reset = false
command_sole g t sole SynchronousReset = false
command_sole g t sole ReadStatus = false
command_sole g t sole ReadConfirm = sole || not (ltb 1 g.luns)
command_sole g t sole ReadPlane = sole || not (ltb 1 g.luns)
command_sole g t sole CopybackRead = sole || not (ltb 1 g.luns)
command_sole g t sole ReadCacheSequential = sole || not (ltb 1 g.luns)
command_sole g t sole ChangeReadColumnConfirm = selects_plane t || sole
command_sole g t sole _ = sole

-- behind an address that comes after so many others
abbrev pub opener_sole : Parts → Bool → Command → ℕ → Bool
opener_sole g sole ReadStatusEnhanced n = false
opener_sole g sole ReadId n = not (ltb 1 g.luns)
opener_sole g sole ReadParameterPage n = not (ltb 1 g.luns)
opener_sole g sole ReadUniqueId n = not (ltb 1 g.luns)
opener_sole g sole GetFeatures n = not (ltb 1 g.luns)
opener_sole g sole ResetLun n = not (n == 2) && sole
opener_sole g sole _ n = sole

abbrev pub address_sole : Parts → Bool → Option Opening → Bool
address_sole g sole None = sole
address_sole g sole (Some o) = opener_sole g sole o.opener o.addresses

abbrev pub sole_behind : Parts → Scene → TargetCycle → Bool
sole_behind g c (CommandCycle d) = command_sole g c.facts c.sole d
sole_behind g c (AddressCycle byte) = address_sole g c.sole c.facts.opening
sole_behind g c (InputCycle byte) = c.sole
sole_behind g c OutputCycle = c.sole

abbrev pub scene_behind : Parts → ℕ → TargetCycle → Scene → Scene
scene_behind g lun cycle c =
    record { facts = facts_after cycle c.facts; view = view_after (cycle_effect g c.facts (shown_alone c) cycle lun) c.view; sole = sole_behind g c cycle }
