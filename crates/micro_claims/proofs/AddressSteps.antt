-- Address cycles, one by one: from each place on, what a scene must allow, and the scene behind so many of them.
use Rattle.std.proofs.Common.{◌≡◌, ℕ, zero, suc, ◌+◌, ◌*◌, ◌/◌, ◌%◌, ◌≤◌, ◌<◌, Bool, true, false, ◌&&◌, cond, not, nat_le, List, [], ◌∷◌, length, refl, sym, ap, ◌∙◌, subst, arith, take, drop}
use Rattle.nand_geometry.specs.declared.parts.Parts.{Parts}
use Rattle.nand_geometry.specs.Limits.{page_len}
use Rattle.nand_geometry.specs.Optional.{is_wide, has_copyback}
use Rattle.nand_geometry.specs.Row.{row_of, parts_of, is_inside}
use Rattle.onfi_cycle.specs.declared.command.Command.{Command}
use Rattle.onfi_cycle.specs.declared.command.Command.TheVariants.{Read, ChangeReadColumn, ChangeReadColumnEnhanced, BlockErase, PageProgram, ChangeWriteColumn}
use Rattle.onfi_cycle.specs.declared.item.Kind.TheVariants.{Adr}
use Rattle.onfi_cycle.specs.declared.target_cycle.TargetCycle.TheVariants.{AddressCycle}
use Rattle.onfi_cycle.specs.LunView.{LunView}
use Rattle.onfi_cycle.specs.declared.effect.Effect.TheVariants.{ProgramAddressed}
use Rattle.onfi_cycle.specs.Effect.{names_lun, page_address, program_row_effect}
use Rattle.onfi_cycle.specs.Lun.{view_after, programs}
use Rattle.onfi_cycle.specs.Rules.{caching, refused_by, register_len, excludes_cache, excludes_program, holds_plane_of, may_copy, is_copying}
use Rattle.micro_program.specs.Moves.{gives}
use Rattle.micro_program.proofs.Scenes.{Scene, AddressAllowed, scene_behind}
use Rattle.micro_program.proofs.SceneMoves.{MovesAllowed, scene_after}
use Rattle.micro_claims.proofs.Fits.{Address, bytes_of, opener_facts, facts_behind}
use Rattle.std.proofs.lemmas.Bool.{and_parts}

-- 1. so many steps of any kind

abbrev pub nth : ℕ → List ℕ → ℕ
nth n [] = 0
nth zero (x ∷ xs) = x
nth (suc n) (x ∷ xs) = nth n xs

-- the scene allows the next byte, which leads to the next scene
pub record OneStep (g : Parts) (lun : ℕ) (scenes : ℕ → Scene) (bytes : List ℕ) (n : ℕ) : Type 0 where
  pub allowed : AddressAllowed g lun (scenes n) (nth n bytes)
  pub leads : scene_behind g lun (AddressCycle (nth n bytes)) (scenes n) ≡ scenes (suc n)

pub record Steps (g : Parts) (lun : ℕ) (bytes : List ℕ) (from to : Scene) : Type 0 where
  pub allowed : MovesAllowed g lun (gives Adr bytes) from
  pub leads : scene_after g lun (gives Adr bytes) from ≡ to

drop_nth : (n : ℕ) (xs : List ℕ) → n < length xs → drop n xs ≡ nth n xs ∷ drop (suc n) xs
drop_nth n [] h = absurd (omega (arith, h))
drop_nth zero (x ∷ xs) h = refl
drop_nth (suc n) (x ∷ xs) h = drop_nth n xs (let less : n < length xs = omega (arith, h) in less)

pub many : (g : Parts) (lun : ℕ) (scenes : ℕ → Scene) (bytes : List ℕ) (count n : ℕ) → n + count ≤ length bytes → ((i : ℕ) → n ≤ i → i < n + count → OneStep g lun scenes bytes i) → Steps g lun (take count (drop n bytes)) (scenes n) (scenes (n + count))
many g lun scenes bytes zero n few step = record { allowed = tt; leads = ap scenes (omega arith) }
many g lun scenes bytes (suc count) n few step =
    let one = step n (omega arith) (omega arith) in
    let there : n < length bytes = omega (arith, few) in
    let rest = many g lun scenes bytes count (suc n) (omega (arith, few)) (λ i low high. step i (omega (arith, low)) (omega (arith, high))) in
    let number : suc n + count ≡ n + suc count = omega arith in
    subst (λ (xs : List ℕ). Steps g lun (take (suc count) xs) (scenes n) (scenes (n + suc count))) (sym (drop_nth n bytes there))
    (record {
      allowed = (one.allowed, subst (λ (x : Scene). MovesAllowed g lun (gives Adr (take count (drop (suc n) bytes))) x) (sym one.leads) rest.allowed);
      leads = ap (scene_after g lun (gives Adr (take count (drop (suc n) bytes)))) one.leads ∙ (rest.leads ∙ ap scenes number);
    })

-- 2. the openers

-- the column that two address bytes carry
abbrev pub carried : Address → ℕ
carried a = a.column % 256 % 256 + 256 * (a.column / 256 % 256)

-- what the last row cycle needs
pub record RowGoes (g : Parts) (lun : ℕ) (a : Address) (view : LunView) (o : Command) : Type 0 where
  pub inside : is_inside g (parts_of g (row_of a.r1 a.r2 a.r3)) ≡ true
  pub names : names_lun g (row_of a.r1 a.r2 a.r3) lun ≡ true
  pub ready : view.busy ≡ false
  pub goes : refused_by g o (page_address g (row_of a.r1 a.r2 a.r3)) view.queue ≡ false
  pub no_cache : excludes_cache g o ≡ true → caching view ≡ false
  pub no_program : excludes_program o ≡ true → programs view ≡ false

abbrev pub scene_at : Command → Address → LunView → Bool → ℕ → Scene
scene_at o a view sole n = record { facts = facts_behind (opener_facts o) (take n (bytes_of o a)); view = view; sole = sole }

-- the profile forbids no address of these openers
pub never : (b : Bool) → (b && false) ≡ false
never true = refl
never false = refl

pub read_steps : (g : Parts) (lun : ℕ) (a : Address) (view : LunView) (sole : Bool) (n : ℕ) → n ≤ 4 → (n ≡ 1 → nat_le (page_len g) (carried a) ≡ false) → (n ≡ 4 → RowGoes g lun a view Read) → OneStep g lun (scene_at Read a view sole) (bytes_of Read a) n
read_steps g lun a view sole zero few column row = record { allowed = record { wanted = refl; profile = never (not (is_wide g.optional)); alone = λ e. cc; row = λ e. cc; column = λ e. cc; read_column = λ e. cc }; leads = refl }
read_steps g lun a view sole (suc zero) few column row = record { allowed = record { wanted = refl; profile = never (not (is_wide g.optional)); alone = λ e. cc; row = λ e. cc; column = λ e. column refl; read_column = λ e. cc }; leads = refl }
read_steps g lun a view sole (suc (suc zero)) few column row = record { allowed = record { wanted = refl; profile = never (not (is_wide g.optional)); alone = λ e. cc; row = λ e. cc; column = λ e. cc; read_column = λ e. cc }; leads = refl }
read_steps g lun a view sole (suc (suc (suc zero))) few column row = record { allowed = record { wanted = refl; profile = never (not (is_wide g.optional)); alone = λ e. cc; row = λ e. cc; column = λ e. cc; read_column = λ e. cc }; leads = refl }
read_steps g lun a view sole (suc (suc (suc (suc zero)))) few column row =
    let r = row refl in
    record { allowed = record { wanted = refl; profile = never (not (is_wide g.optional)); alone = λ e. cc; row = λ e. record { inside = r.inside; names = r.names; ready = λ x. r.ready; goes = r.goes; no_cache = λ x. r.no_cache (and_parts (excludes_cache g Read) true x).0; no_program = λ x. r.no_program refl; plane = λ x. cc; copy = λ x. cc; no_group = λ x. cc }; column = λ e. cc; read_column = λ e. cc }; leads = refl }
read_steps g lun a view sole (suc (suc (suc (suc (suc n))))) few column row = absurd (omega (arith, few))

pub enhanced_steps : (g : Parts) (lun : ℕ) (a : Address) (view : LunView) (sole : Bool) (n : ℕ) → n ≤ 4 → (n ≡ 1 → nat_le (page_len g) (carried a) ≡ false) → (n ≡ 4 → RowGoes g lun a view ChangeReadColumnEnhanced × (holds_plane_of g (page_address g (row_of a.r1 a.r2 a.r3)) view ≡ true)) → OneStep g lun (scene_at ChangeReadColumnEnhanced a view sole) (bytes_of ChangeReadColumnEnhanced a) n
enhanced_steps g lun a view sole zero few column row = record { allowed = record { wanted = refl; profile = never (not (is_wide g.optional)); alone = λ e. cc; row = λ e. cc; column = λ e. cc; read_column = λ e. cc }; leads = refl }
enhanced_steps g lun a view sole (suc zero) few column row = record { allowed = record { wanted = refl; profile = never (not (is_wide g.optional)); alone = λ e. cc; row = λ e. cc; column = λ e. column refl; read_column = λ e. cc }; leads = refl }
enhanced_steps g lun a view sole (suc (suc zero)) few column row = record { allowed = record { wanted = refl; profile = never (not (is_wide g.optional)); alone = λ e. cc; row = λ e. cc; column = λ e. cc; read_column = λ e. cc }; leads = refl }
enhanced_steps g lun a view sole (suc (suc (suc zero))) few column row = record { allowed = record { wanted = refl; profile = never (not (is_wide g.optional)); alone = λ e. cc; row = λ e. cc; column = λ e. cc; read_column = λ e. cc }; leads = refl }
enhanced_steps g lun a view sole (suc (suc (suc (suc zero)))) few column row =
    let r = (row refl).0 in
    let held = (row refl).1 in
    record { allowed = record { wanted = refl; profile = never (not (is_wide g.optional)); alone = λ e. cc; row = λ e. record { inside = r.inside; names = r.names; ready = λ x. r.ready; goes = r.goes; no_cache = λ x. cc; no_program = λ x. r.no_program refl; plane = λ x. held; copy = λ x. cc; no_group = λ x. cc }; column = λ e. cc; read_column = λ e. cc }; leads = refl }
enhanced_steps g lun a view sole (suc (suc (suc (suc (suc n))))) few column row = absurd (omega (arith, few))

-- the last row cycle of 80h lets the LUN hold no page
abbrev pub addressed_view : ℕ → LunView → LunView
addressed_view n view = cond (nat_le 5 n) (view_after ProgramAddressed view) view

abbrev pub program_scene : Address → LunView → Bool → ℕ → Scene
program_scene a view sole n = record { facts = facts_behind (opener_facts PageProgram) (take n (bytes_of PageProgram a)); view = addressed_view n view; sole = sole }

pub program_steps : (g : Parts) (lun : ℕ) (a : Address) (view : LunView) (sole : Bool) (n : ℕ) → n ≤ 4 → (n ≡ 1 → nat_le (page_len g) (carried a) ≡ false) → (n ≡ 4 → RowGoes g lun a view PageProgram × ((has_copyback g.optional && is_copying view) ≡ false)) → OneStep g lun (program_scene a view sole) (bytes_of PageProgram a) n
program_steps g lun a view sole zero few column row = record { allowed = record { wanted = refl; profile = never (not (is_wide g.optional)); alone = λ e. cc; row = λ e. cc; column = λ e. cc; read_column = λ e. cc }; leads = refl }
program_steps g lun a view sole (suc zero) few column row = record { allowed = record { wanted = refl; profile = never (not (is_wide g.optional)); alone = λ e. cc; row = λ e. cc; column = λ e. column refl; read_column = λ e. cc }; leads = refl }
program_steps g lun a view sole (suc (suc zero)) few column row = record { allowed = record { wanted = refl; profile = never (not (is_wide g.optional)); alone = λ e. cc; row = λ e. cc; column = λ e. cc; read_column = λ e. cc }; leads = refl }
program_steps g lun a view sole (suc (suc (suc zero))) few column row = record { allowed = record { wanted = refl; profile = never (not (is_wide g.optional)); alone = λ e. cc; row = λ e. cc; column = λ e. cc; read_column = λ e. cc }; leads = refl }
program_steps g lun a view sole (suc (suc (suc (suc zero)))) few column row =
    let r = (row refl).0 in
    let alone = (row refl).1 in
    record { allowed = record { wanted = refl; profile = never (not (is_wide g.optional)); alone = λ e. cc; row = λ e. record { inside = r.inside; names = r.names; ready = λ x. r.ready; goes = r.goes; no_cache = λ x. r.no_cache refl; no_program = λ x. cc; plane = λ x. cc; copy = λ x. cc; no_group = λ x. alone }; column = λ e. cc; read_column = λ e. cc }; leads = ap (λ (b : Bool). record { facts = (program_scene a view sole 5).facts; view = view_after (program_row_effect b) view; sole = sole }) r.names }
program_steps g lun a view sole (suc (suc (suc (suc (suc n))))) few column row = absurd (omega (arith, few))

-- 85h that begins a copy
pub copy_steps : (g : Parts) (lun : ℕ) (a : Address) (view : LunView) (sole : Bool) (n : ℕ) → n ≤ 4 → (n ≡ 1 → nat_le (page_len g) (carried a) ≡ false) → (n ≡ 4 → RowGoes g lun a view ChangeWriteColumn × (may_copy g (page_address g (row_of a.r1 a.r2 a.r3)) view ≡ true)) → OneStep g lun (scene_at ChangeWriteColumn a view sole) (bytes_of ChangeWriteColumn a) n
copy_steps g lun a view sole zero few column row = record { allowed = record { wanted = refl; profile = never (not (is_wide g.optional)); alone = λ e. cc; row = λ e. cc; column = λ e. cc; read_column = λ e. cc }; leads = refl }
copy_steps g lun a view sole (suc zero) few column row = record { allowed = record { wanted = refl; profile = never (not (is_wide g.optional)); alone = λ e. cc; row = λ e. cc; column = λ e. column refl; read_column = λ e. cc }; leads = refl }
copy_steps g lun a view sole (suc (suc zero)) few column row = record { allowed = record { wanted = refl; profile = never (not (is_wide g.optional)); alone = λ e. cc; row = λ e. cc; column = λ e. cc; read_column = λ e. cc }; leads = refl }
copy_steps g lun a view sole (suc (suc (suc zero))) few column row = record { allowed = record { wanted = refl; profile = never (not (is_wide g.optional)); alone = λ e. cc; row = λ e. cc; column = λ e. cc; read_column = λ e. cc }; leads = refl }
copy_steps g lun a view sole (suc (suc (suc (suc zero)))) few column row =
    let r = (row refl).0 in
    let held = (row refl).1 in
    record { allowed = record { wanted = refl; profile = never (not (is_wide g.optional)); alone = λ e. cc; row = λ e. record { inside = r.inside; names = r.names; ready = λ x. r.ready; goes = r.goes; no_cache = λ x. r.no_cache refl; no_program = λ x. r.no_program refl; plane = λ x. cc; copy = λ x. held; no_group = λ x. cc }; column = λ e. cc; read_column = λ e. cc }; leads = refl }
copy_steps g lun a view sole (suc (suc (suc (suc (suc n))))) few column row = absurd (omega (arith, few))

pub erase_steps : (g : Parts) (lun : ℕ) (a : Address) (view : LunView) (sole : Bool) (n : ℕ) → n ≤ 2 → (n ≡ 2 → RowGoes g lun a view BlockErase) → OneStep g lun (scene_at BlockErase a view sole) (bytes_of BlockErase a) n
erase_steps g lun a view sole zero few row = record { allowed = record { wanted = refl; profile = never (not (is_wide g.optional)); alone = λ e. cc; row = λ e. cc; column = λ e. cc; read_column = λ e. cc }; leads = refl }
erase_steps g lun a view sole (suc zero) few row = record { allowed = record { wanted = refl; profile = never (not (is_wide g.optional)); alone = λ e. cc; row = λ e. cc; column = λ e. cc; read_column = λ e. cc }; leads = refl }
erase_steps g lun a view sole (suc (suc zero)) few row =
    let r = row refl in
    record { allowed = record { wanted = refl; profile = never (not (is_wide g.optional)); alone = λ e. cc; row = λ e. record { inside = r.inside; names = r.names; ready = λ x. r.ready; goes = r.goes; no_cache = λ x. r.no_cache refl; no_program = λ x. r.no_program refl; plane = λ x. cc; copy = λ x. cc; no_group = λ x. cc }; column = λ e. cc; read_column = λ e. cc }; leads = refl }
erase_steps g lun a view sole (suc (suc (suc n))) few row = absurd (omega (arith, few))

pub column_steps : (g : Parts) (lun : ℕ) (a : Address) (view : LunView) (sole : Bool) (n : ℕ) → n ≤ 1 → (n ≡ 1 → (sole ≡ true) × (nat_le (register_len g view.register) (carried a) ≡ false)) → OneStep g lun (scene_at ChangeReadColumn a view sole) (bytes_of ChangeReadColumn a) n
column_steps g lun a view sole zero few column = record { allowed = record { wanted = refl; profile = never (not (is_wide g.optional)); alone = λ e. cc; row = λ e. cc; column = λ e. cc; read_column = λ e. cc }; leads = refl }
column_steps g lun a view sole (suc zero) few column = record { allowed = record { wanted = refl; profile = never (not (is_wide g.optional)); alone = λ e. cc; row = λ e. cc; column = λ e. cc; read_column = λ e. column refl }; leads = refl }
column_steps g lun a view sole (suc (suc n)) few column = absurd (omega (arith, few))
