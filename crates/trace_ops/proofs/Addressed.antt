-- What a cycle of a legal trace of the base profile tells of the operation that it comes to: the addresses fit its opener, and it takes no role on another LUN than that whose work it starts.
use Rattle.std.proofs.Common.{◌≡◌, ◌⊎◌, inl, inr, ℕ, ◌==◌, Bool, true, false, ◌&&◌, ◌||◌, not, cond, List, Option, Some, None, is_some, refl, sym, ap, ◌∙◌, eqb-true, ltb}
use Rattle.std.proofs.lemmas.Bool.{and_parts, or_parts}
use Rattle.nand_geometry.specs.declared.parts.Parts.{Parts}
use Rattle.nand_geometry.specs.declared.optional.Optional.{Optional}
use Rattle.nand_geometry.specs.Optional.{no_optional, is_wide, has_features, has_unique_id, has_enhanced_column, has_plane_reads, has_lun_reset, has_synchronous_reset, has_copyback, has_program_cache}
use Rattle.onfi_cycle.specs.declared.command.Command.{Command}
use Rattle.onfi_cycle.specs.declared.command.Command.TheVariants.{Read, ChangeReadColumnEnhanced, ChangeReadColumnConfirm, ReadStatus, ReadStatusEnhanced, ReadId, ReadParameterPage, ReadUniqueId, GetFeatures, SetFeatures, ResetLun, SynchronousReset, Unknown, ReadPlane, CopybackRead, ProgramCache}
use Rattle.onfi_cycle.specs.declared.data_phase.DataPhase.{DataPhase}
use Rattle.onfi_cycle.specs.declared.data_phase.DataPhase.TheVariants.{Outside, FirstColumn, SecondColumn}
use Rattle.onfi_cycle.specs.declared.item.Item.{Item}
use Rattle.onfi_cycle.specs.declared.lun_state.LunState.{LunState}
use Rattle.onfi_cycle.specs.declared.opening.Opening.{Opening}
use Rattle.onfi_cycle.specs.declared.target_cycle.TargetCycle.{TargetCycle}
use Rattle.onfi_cycle.specs.declared.target_cycle.TargetCycle.TheVariants.{CommandCycle, AddressCycle}
use Rattle.onfi_cycle.specs.Base.{is_of_base}
use Rattle.onfi_cycle.specs.Command.{command, is_opener, address_cycles, takes_address, is_read_id, begins_data, is_set_features}
use Rattle.onfi_cycle.specs.Rules.{is_undeclared_address, breaks_command_unknown, breaks_address_misplaced}
use Rattle.onfi_cycle.specs.Sequence.{opened, opening, data_phase, tail, facts_of, wants_address, wants_column}
use Rattle.onfi_cycle.proofs.Booleans.{clash}
use Rattle.onfi_cycle.proofs.CommandBytes.{commands_have_bytes}
use Rattle.trace_ops.specs.declared.operation.Beginning.{Beginning}
use Rattle.trace_ops.specs.declared.operation.Operation.{Operation}
use Rattle.trace_ops.specs.declared.role.Role.{Role}
use Rattle.trace_ops.specs.declared.role.Role.TheVariants as role
use Rattle.trace_ops.specs.Operation.{opener_of, is_byte}
use Rattle.trace_ops.specs.Listing.{gives_data, gives_status, role_of_command, role_of_address}
use Rattle.trace_ops.proofs.Contents.{Opens, Content, in_program}
use Rattle.trace_ops.proofs.Domestic.{Fits}
use Rattle.trace_ops.proofs.Legal.{at_lun, or_other}
use Rattle.trace_ops.proofs.Quietly.{sets}
use Rattle.trace_ops.proofs.Starts.{starts_by, outside_opening, status_starts, read_starts, column_starts, enhanced_starts, unopened_starts}

-- ---- the base profile

record HasNone (o : Optional) : Type 0 where
  unique_id : has_unique_id o ≡ false
  enhanced_column : has_enhanced_column o ≡ false
  plane_reads : has_plane_reads o ≡ false
  copyback : has_copyback o ≡ false
  program_cache : has_program_cache o ≡ false
  features : has_features o ≡ false
  lun_reset : has_lun_reset o ≡ false
  synchronous_reset : has_synchronous_reset o ≡ false
  wide : is_wide o ≡ false

has_none : (o : Optional) → o ≡ no_optional → HasNone o
has_none o h = record {
  unique_id = ap has_unique_id h;
  enhanced_column = ap has_enhanced_column h;
  plane_reads = ap has_plane_reads h;
  copyback = ap has_copyback h;
  program_cache = ap has_program_cache h;
  features = ap has_features h;
  lun_reset = ap has_lun_reset h;
  synchronous_reset = ap has_synchronous_reset h;
  wide = ap is_wide h;
}

denied : (b : Bool) → b ≡ false → not b ≡ false → ⊥
denied true h e = cc
denied false h e = cc

-- a command that is permitted is one of the base profile
pub base_command : (g : Parts) (c : Command) → g.optional ≡ no_optional → breaks_command_unknown g (CommandCycle c) ≡ false → is_of_base c ≡ true
unfolding breaks_command_unknown
base_command g ChangeReadColumnEnhanced base h = absurd (denied (has_enhanced_column g.optional) (has_none g.optional base).enhanced_column h)
base_command g ReadPlane base h = absurd (denied (has_plane_reads g.optional) (has_none g.optional base).plane_reads h)
base_command g CopybackRead base h = absurd (denied (has_copyback g.optional) (has_none g.optional base).copyback h)
base_command g ProgramCache base h = absurd (denied (has_program_cache g.optional) (has_none g.optional base).program_cache h)
base_command g ReadUniqueId base h = absurd (denied (has_unique_id g.optional) (has_none g.optional base).unique_id h)
base_command g GetFeatures base h = absurd (denied (has_features g.optional) (has_none g.optional base).features h)
base_command g SetFeatures base h = absurd (denied (has_features g.optional) (has_none g.optional base).features h)
base_command g ResetLun base h = absurd (denied (has_lun_reset g.optional) (has_none g.optional base).lun_reset h)
base_command g SynchronousReset base h = absurd (denied (has_synchronous_reset g.optional) (has_none g.optional base).synchronous_reset h)
base_command g Unknown base h = cc
base_command g c base h = refl

-- ---- addresses

pub two_bytes : (x : Option ℕ) (a b : ℕ) → (a == b) ≡ false → is_byte x a ≡ true → is_byte x b ≡ true → ⊥
two_bytes None a b apart p q = cc
two_bytes (Some byte) a b apart p q = clash (a == b) (ap (λ n. n == b) (sym (eqb-true byte a p)) ∙ q) apart

-- a program's opener is none of these
pub program_byte : (x : Option ℕ) (b : ℕ) → (0x80 == b) ≡ false → (0x85 == b) ≡ false → (is_byte x 0x80 || is_byte x 0x85) ≡ true → is_byte x b ≡ true → ⊥
program_byte x b p q h e = at (is_byte x 0x80) refl h
  where
    at : (y : Bool) → is_byte x 0x80 ≡ y → (y || is_byte x 0x85) ≡ true → ⊥
    at true f h = two_bytes x 0x80 b p f e
    at false f h = two_bytes x 0x85 b q h e

pub in_column : (d : DataPhase) → wants_column d ≡ true → in_program d ≡ true
in_column FirstColumn h = refl
in_column SecondColumn h = refl
in_column d h = cc

or_right_of : (a b : Bool) → (a || b) ≡ true → b ≡ false → a ≡ true
or_right_of true b h e = refl
or_right_of false b h e = (let z = sym h ∙ e in cc)

last_of_three : (a b c : Bool) → (a && b && c) ≡ true → c ≡ true
last_of_three true true c h = h
last_of_three true false c h = cc
last_of_three false b c h = cc

undeclared_byte : (w r e : Bool) → w ≡ false → r ≡ true → (not w && (r && not e)) ≡ false → e ≡ true
undeclared_byte true r e p q h = cc
undeclared_byte false true true p q h = refl
undeclared_byte false true false p q h = cc
undeclared_byte false false e p q h = cc

-- an address that is permitted fits the opener of its operation
pub fits_of : (g : Parts) (b : Beginning) (closer : Option ℕ) (t : List TargetCycle) (byte : ℕ) → g.optional ≡ no_optional → Content b closer t →
    breaks_address_misplaced g (facts_of t) (AddressCycle byte) ≡ false → wants_address (facts_of t) byte ≡ true → Fits byte b
unfolding breaks_address_misplaced
fits_of g b closer t byte base content kept wanted = at (opening t) refl
  where
    undeclared : is_undeclared_address g (facts_of t) byte ≡ false
    undeclared = (or_parts (not (wants_address (facts_of t) byte)) (is_undeclared_address g (facts_of t) byte) kept).1

    at : (o : Option Opening) → opening t ≡ o → Fits byte b
    at None e = record { identifier = λ h. absurd (program_byte (opener_of b) 0x90 refl refl program h); parameters = λ h. absurd (program_byte (opener_of b) 0xec refl refl program h) }
      where
        column : wants_column (data_phase t) ≡ true
        column =
            or_other (opened (λ c n. is_opener c && ltb n (address_cycles c) && takes_address c byte) (opening t)) (wants_column (data_phase t))
            (ap (opened (λ c n. is_opener c && ltb n (address_cycles c) && takes_address c byte)) e) wanted

        program : (is_byte (opener_of b) 0x80 || is_byte (opener_of b) 0x85) ≡ true
        program = (and_parts (is_byte (opener_of b) 0x80 || is_byte (opener_of b) 0x85) (not (is_some closer)) (content.program (in_column (data_phase t) column))).0
    at (Some o) e = record { identifier = identifier; parameters = parameters }
      where
        opens : Opens b closer o
        opens = content.opens o e

        byte_is : (v : ℕ) → is_byte (opener_of b) v ≡ true → opens.byte ≡ v
        byte_is v h = eqb-true opens.byte v (ap (λ (x : Beginning). is_byte (opener_of x) v) (sym opens.begun) ∙ h)

        identifier : is_byte (opener_of b) 0x90 ≡ true → byte ≡ 0x20
        identifier h =
            let id : o.opener ≡ ReadId = sym opens.is_of ∙ ap command (byte_is 0x90 h) ∙ commands_have_bytes.command_of_byte ReadId 0x90 refl in
            let reads : opened (λ c n. is_read_id c) (opening t) ≡ true = ap (opened (λ c n. is_read_id c)) e ∙ ap is_read_id id in
            eqb-true byte 0x20 (undeclared_byte (is_wide g.optional) (opened (λ c n. is_read_id c) (opening t)) (byte == 0x20) (has_none g.optional base).wide reads undeclared)

        parameters : is_byte (opener_of b) 0xec ≡ true → byte ≡ 0
        parameters h =
            let page : o.opener ≡ ReadParameterPage = sym opens.is_of ∙ ap command (byte_is 0xec h) ∙ commands_have_bytes.command_of_byte ReadParameterPage 0xec refl in
            let outside : data_phase t ≡ Outside = outside_opening t o e (ap begins_data page) (ap is_set_features page) in
            let first =
            or_right_of (opened (λ c n. is_opener c && ltb n (address_cycles c) && takes_address c byte) (opening t)) (wants_column (data_phase t)) wanted (ap wants_column outside) in
            let here = sym (ap (opened (λ c n. is_opener c && ltb n (address_cycles c) && takes_address c byte)) e) ∙ first in
            let takes = last_of_three (is_opener o.opener) (ltb o.addresses (address_cycles o.opener)) (takes_address o.opener byte) here in
            eqb-true byte 0 (sym (ap (λ c. takes_address c byte) page) ∙ takes)

-- ---- roles

neither_sets : (b : Bool) (x y : Role) → sets x ≡ false → sets y ≡ false → sets (cond b x y) ≡ true → ⊥
neither_sets true x y p q h = (let z = sym p ∙ h in cc)
neither_sets false x y p q h = (let z = sym q ∙ h in cc)

set_by : (b : Bool) (x : Role) → sets (cond b x role.Nothing) ≡ true → b ≡ true
set_by true x h = refl
set_by false x h = cc

command_is : (byte v : ℕ) (c : Command) → command v ≡ c → (byte == v) ≡ true → command byte ≡ c
command_is byte v c is h = ap command (eqb-true byte v h) ∙ is

-- a command that tells the LUN of its operation starts work of that one, or none
pub command_sets : (g : Parts) (past : List Item) (ce byte : ℕ) (begun : Bool) (look : Option LunState) → sets (role_of_command byte begun look) ≡ true →
    (begun ≡ true) ⊎ ((lun : ℕ) → starts_by g past (at_lun ce lun) (CommandCycle (command byte)) ≡ false)
command_sets g past ce byte begun look h = by_70 (byte == 0x70) refl h
  where
    none : (v : ℕ) (c : Command) → command v ≡ c → (byte == v) ≡ true → ((lun : ℕ) → starts_by g past (at_lun ce lun) (CommandCycle c) ≡ false) →
        (begun ≡ true) ⊎ ((lun : ℕ) → starts_by g past (at_lun ce lun) (CommandCycle (command byte)) ≡ false)
    none v c is e rests = inr (λ lun. ap (λ x. starts_by g past (at_lun ce lun) (CommandCycle x)) (command_is byte v c is e) ∙ rests lun)

    by_00 : (b : Bool) → (byte == 0x00) ≡ b → sets (cond b (cond (gives_data look) role.Returns role.Nothing) role.Nothing) ≡ true →
        (begun ≡ true) ⊎ ((lun : ℕ) → starts_by g past (at_lun ce lun) (CommandCycle (command byte)) ≡ false)
    by_00 true e h = none 0x00 Read (commands_have_bytes.command_of_byte Read 0x00 refl) e (λ lun. read_starts g past (at_lun ce lun))
    by_00 false e h = cc

    by_e0 : (b : Bool) → (byte == 0xe0) ≡ b →
        sets (cond b (cond (gives_data look) role.Holds role.Nothing) (cond (byte == 0x00) (cond (gives_data look) role.Returns role.Nothing) role.Nothing)) ≡ true →
        (begun ≡ true) ⊎ ((lun : ℕ) → starts_by g past (at_lun ce lun) (CommandCycle (command byte)) ≡ false)
    by_e0 true e h = none 0xe0 ChangeReadColumnConfirm (commands_have_bytes.command_of_byte ChangeReadColumnConfirm 0xe0 refl) e (λ lun. column_starts g past (at_lun ce lun))
    by_e0 false e h = by_00 (byte == 0x00) refl h

    by_cache : (b : Bool) →
        sets (cond b (cond begun role.Holds role.Nothing)
        (cond (byte == 0xe0) (cond (gives_data look) role.Holds role.Nothing) (cond (byte == 0x00) (cond (gives_data look) role.Returns role.Nothing) role.Nothing))) ≡ true →
        (begun ≡ true) ⊎ ((lun : ℕ) → starts_by g past (at_lun ce lun) (CommandCycle (command byte)) ≡ false)
    by_cache true h = inl (set_by begun role.Holds h)
    by_cache false h = by_e0 (byte == 0xe0) refl h

    by_30 : (b : Bool) →
        sets (cond b (cond begun role.Gives role.Nothing)
        (cond (byte == 0x31 || byte == 0x3f) (cond begun role.Holds role.Nothing)
        (cond (byte == 0xe0) (cond (gives_data look) role.Holds role.Nothing) (cond (byte == 0x00) (cond (gives_data look) role.Returns role.Nothing) role.Nothing)))) ≡ true →
        (begun ≡ true) ⊎ ((lun : ℕ) → starts_by g past (at_lun ce lun) (CommandCycle (command byte)) ≡ false)
    by_30 true h = absurd (neither_sets begun role.Gives role.Nothing refl refl h)
    by_30 false h = by_cache (byte == 0x31 || byte == 0x3f) h

    by_70 : (b : Bool) → (byte == 0x70) ≡ b →
        sets (cond b (cond (gives_status look) role.Asks role.Nothing)
        (cond (byte == 0x30) (cond begun role.Gives role.Nothing)
        (cond (byte == 0x31 || byte == 0x3f) (cond begun role.Holds role.Nothing)
        (cond (byte == 0xe0) (cond (gives_data look) role.Holds role.Nothing) (cond (byte == 0x00) (cond (gives_data look) role.Returns role.Nothing) role.Nothing))))) ≡ true →
        (begun ≡ true) ⊎ ((lun : ℕ) → starts_by g past (at_lun ce lun) (CommandCycle (command byte)) ≡ false)
    by_70 true e h = none 0x70 ReadStatus (commands_have_bytes.command_of_byte ReadStatus 0x70 refl) e (λ lun. status_starts g past (at_lun ce lun))
    by_70 false e h = by_30 (byte == 0x30) h

-- an address that tells the LUN of its operation belongs to a 78h
pub address_sets : (o : Operation) (begun : Bool) (look : Option LunState) → sets (role_of_address o begun look) ≡ true → is_byte (opener_of o.beginning) 0x78 ≡ true
address_sets o begun look h = at (is_byte (opener_of o.beginning) 0x78) h
  where
    gives : (b x : Bool) → sets (cond b (cond x role.Gives role.Nothing) role.Nothing) ≡ true → ⊥
    gives true true h = cc
    gives true false h = cc
    gives false x h = cc

    at : (b : Bool) →
        sets (cond b (cond (o.address_count == 3 && gives_status look) role.Asks role.Nothing)
        (cond (is_byte (opener_of o.beginning) 0x90 || is_byte (opener_of o.beginning) 0xec) (cond (begun || gives_data look) role.Gives role.Nothing) role.Nothing)) ≡ true → b ≡ true
    at true h = refl
    at false h = absurd (gives (is_byte (opener_of o.beginning) 0x90 || is_byte (opener_of o.beginning) 0xec) (begun || gives_data look) h)

-- and starts no work
pub status_address : (g : Parts) (past : List Item) (ce byte : ℕ) (b : Beginning) (closer : Option ℕ) → Content b closer (tail past ce) → is_byte (opener_of b) 0x78 ≡ true →
    (lun : ℕ) → starts_by g past (at_lun ce lun) (AddressCycle byte) ≡ false
status_address g past ce byte b closer content h lun = at (opening (tail past ce)) refl
  where
    at : (o : Option Opening) → opening (tail past ce) ≡ o → starts_by g past (at_lun ce lun) (AddressCycle byte) ≡ false
    at None e = unopened_starts g past (at_lun ce lun) byte e
    at (Some o) e =
        let opens = content.opens o e in
        let is : opens.byte ≡ 0x78 = eqb-true opens.byte 0x78 (ap (λ (x : Beginning). is_byte (opener_of x) 0x78) (sym opens.begun) ∙ h) in
        enhanced_starts g past (at_lun ce lun) byte o e (sym opens.is_of ∙ ap command is ∙ commands_have_bytes.command_of_byte ReadStatusEnhanced 0x78 refl)
