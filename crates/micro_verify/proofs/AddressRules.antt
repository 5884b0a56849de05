-- What the claim says against the second column cycle and the last row cycle of an address is what the rules say.
use Rattle.std.proofs.Math.Bool.{or-false}
use Rattle.std.proofs.Common.{◌≡◌, ℕ, ◌+◌, ◌*◌, ◌/◌, ◌%◌, ◌≤◌, ◌<◌, Bool, true, false, ◌||◌, cond, not, nat_le, List, Option, Some, None, refl, sym, ap, ◌∙◌, subst, ◌&&◌}
use Rattle.nand_geometry.specs.declared.parts.Parts.{Parts}
use Rattle.nand_geometry.specs.declared.row_parts.RowParts.{RowParts}
use Rattle.nand_geometry.specs.Limits.{planes}
use Rattle.nand_geometry.specs.Optional.{is_wide, has_all}
use Rattle.nand_geometry.specs.Row.{row_of}
use Rattle.onfi_cycle.specs.declared.command.Command.{Command}
use Rattle.onfi_cycle.specs.declared.command.Command.TheVariants.{Read, ChangeReadColumn, BlockErase, PageProgram}
use Rattle.onfi_cycle.specs.declared.forbidden.Forbidden.{Forbidden}
use Rattle.onfi_cycle.specs.declared.forbidden.Forbidden.TheVariants.{LunBusy, QueueClash, ColumnOutside, CacheReadMisplaced, CacheProgramMisplaced}
use Rattle.onfi_cycle.specs.LunView.{LunView}
use Rattle.onfi_cycle.specs.Effect.{page_address}
use Rattle.onfi_cycle.specs.Rules.{caching, excludes_cache, refused_by, excludes_program}
use Rattle.micro_claims.specs.declared.state.State.{State}
use Rattle.micro_claims.specs.declared.place.Place.TheVariants.{After}
use Rattle.micro_claims.specs.declared.planes.Planes.{Planes}
use Rattle.micro_claims.specs.State.{may_be_31}
use Rattle.micro_claims.specs.Spans.{greatest_bound, bound_plus, is_at_most}
use Rattle.micro_claims.specs.Against.{queue_refuses, plane_refused, row_refused, copy_refused, may_be_queued}
use Rattle.micro_program.specs.Program.{Job, Done, index_now, plane_now, column_now}
use Rattle.micro_claims.proofs.Fits.{Address, RowIs, takes_row}
use Rattle.micro_claims.proofs.AddressSteps.{carried}
use Rattle.micro_claims.proofs.Addressing.{carried_is}
use Rattle.micro_verify.specs.Cause.{is_of_cycle_forbidden}
use Rattle.micro_verify.proofs.Lone.{based}
use Rattle.micro_verify.proofs.Mirrors.{RegistersMirror, LunMirror, exact_test}
use Rattle.micro_verify.proofs.AddressesJudged.{row_rule, column_rule, late_rule}
use Rattle.micro_verify.proofs.AddressTests.{row_is_of_array}
use Rattle.micro_verify.proofs.AddressCauses.{index_test}
use Rattle.micro_verify.proofs.AddressesNow.{carries_registers}
use Rattle.micro_verify.proofs.QueueExact.{refuses_is}
use Rattle.onfi_cycle.specs.Lun.{programs}
use Rattle.std.proofs.lemmas.Bool.{or_parts}

-- 1. the last row cycle

-- the row is refused by the LUN
abbrev pub is_refused : Parts → Command → Address → LunView → Bool
is_refused g o a view = view.busy || caching view || refused_by (based g) o (page_address g (row_of a.r1 a.r2 a.r3)) view.queue

pub row_refused_is : (g : Parts) (j : Job) (v : State) (done : List Done) (view : LunView) (o : Command) (n : ℕ) (a : Address) → is_wide g.optional ≡ false → carries_registers o ≡ true → takes_row o ≡ true → RegistersMirror g v.registers done → LunMirror g v.lun (index_now 0 done) view → RowIs g j a → a.index ≡ index_now 0 done → a.plane ≡ plane_now done → row_refused g v (After o n) ≡ is_refused g o a view
row_refused_is g j v done view o n a base carries takes m lun row index plane =
    let page : (page_address g (row_of a.r1 a.r2 a.r3)).page ≡ index_now 0 done % g.pages = ap (λ (p : RowParts). p.page) row.reads ∙ ap (λ (i : ℕ). i % g.pages) index in
    let block : (page_address g (row_of a.r1 a.r2 a.r3)).block ≡ index_now 0 done / g.pages * planes g + plane_now done = ap (λ (p : RowParts). p.block) row.reads ∙ (λ i. index i / g.pages * planes g + plane i) in
    let low : plane_now done < planes g = subst (λ (p : ℕ). p < planes g) plane row.low in
    let queue : queue_refuses v.lun.queue v.registers.planes o ≡ refused_by (based g) o (page_address g (row_of a.r1 a.r2 a.r3)) view.queue =
    ap (λ (p : Planes). queue_refuses v.lun.queue p o) m.planes ∙ refuses_is g (index_now 0 done) v.lun.queue view.queue o (page_address g (row_of a.r1 a.r2 a.r3)) (plane_now done) carries takes lun.queue low m.plane_low page block in
    let cached : (excludes_cache g o && may_be_31 v.lun.last) ≡ caching view = ap (λ (b : Bool). b && may_be_31 v.lun.last) (excludes g o base carries takes) ∙ lun.caching in
    (λ i. row_is_of_array o takes i && (lun.busy i || cached i || queue i || selects o carries i || copies o base carries i || quiet o i)) ∙ (or-false (view.busy || caching view || refused_by (based g) o (page_address g (row_of a.r1 a.r2 a.r3)) view.queue || false || false) ∙ or-false (view.busy || caching view || refused_by (based g) o (page_address g (row_of a.r1 a.r2 a.r3)) view.queue || false) ∙ or-false (view.busy || caching view || refused_by (based g) o (page_address g (row_of a.r1 a.r2 a.r3)) view.queue))
  where
    -- in the base profile no row may name a LUN that is caching
    excludes : (g : Parts) (o : Command) → is_wide g.optional ≡ false → carries_registers o ≡ true → takes_row o ≡ true → excludes_cache g o ≡ true
    excludes g Read base carries takes = ap not base
    excludes g BlockErase base carries takes = refl
    excludes g PageProgram base carries takes = refl
    excludes g ChangeReadColumn base carries takes = cc
    excludes g _ base carries takes = cc

    -- none programs behind a 15
    quiet : (o : Command) → (excludes_program o && v.lun.programming) ≡ false
    quiet o = ap (λ (b : Bool). excludes_program o && b) lun.programming ∙ none (excludes_program o)
      where
        none : (b : Bool) → (b && false) ≡ false
        none true = refl
        none false = refl

    -- and none selects a plane
    selects : (o : Command) → carries_registers o ≡ true → plane_refused v o ≡ false
    selects Read carries = refl
    selects BlockErase carries = refl
    selects PageProgram carries = refl
    selects ChangeReadColumn carries = refl
    selects _ carries = cc

    -- nor copies a page
    copies : (o : Command) → is_wide g.optional ≡ false → carries_registers o ≡ true → copy_refused g v o ≡ false
    copies Read base carries = refl
    copies BlockErase base carries = refl
    copies PageProgram base carries = ap (λ (b : Bool). (b && has_all g.optional 16) && (may_be_queued v.lun.queue && v.lun.copies.holds)) base
    copies ChangeReadColumn base carries = refl
    copies _ base carries = cc

-- a row that is refused breaks a rule of V7, another none
pub refused_breaks : (g : Parts) (o : Command) (a : Address) (view : LunView) → is_refused g o a view ≡ true → (rule : Forbidden) × ((row_rule g o a view ≡ Some rule) × (is_of_cycle_forbidden rule ≡ true))
refused_breaks g o a view h = at view.busy refl (refused_by (based g) o (page_address g (row_of a.r1 a.r2 a.r3)) view.queue) refl (caching view) refl
  where
    at : (b : Bool) → view.busy ≡ b → (q : Bool) → refused_by (based g) o (page_address g (row_of a.r1 a.r2 a.r3)) view.queue ≡ q → (k : Bool) → caching view ≡ k → (rule : Forbidden) × ((row_rule g o a view ≡ Some rule) × (is_of_cycle_forbidden rule ≡ true))
    at true e q f k i = (LunBusy, (rw e refl, refl))
    at false e true f k i = (QueueClash, (rw (e, f) refl, refl))
    at false e false f true i = (CacheReadMisplaced, (rw (e, f, i) refl, refl))
    at false e false f false i = let none : is_refused g o a view ≡ false = rw (e, f, i) refl in let both : true ≡ false = sym h ∙ none in cc

-- where three tests fail what comes behind them is left
three_fail : (b q k : Bool) (x y z : Forbidden) (o : Option Forbidden) → b ≡ false → q ≡ false → k ≡ false → cond b (Some x) (cond q (Some y) (cond k (Some z) o)) ≡ o
three_fail b q k x y z o e f i = rw (e, f, i) refl

none_late : (o : Command) (view : LunView) → programs view ≡ false → late_rule o view ≡ None
none_late o view program = ap (λ (b : Bool). cond (excludes_program o && b) (Some CacheProgramMisplaced) None) program ∙ none (excludes_program o)
  where
    none : (b : Bool) → cond (b && false) (Some CacheProgramMisplaced) None ≡ None
    none true = refl
    none false = refl

pub taken_breaks_none : (g : Parts) (o : Command) (a : Address) (view : LunView) → (is_refused g o a view ≡ false) × (programs view ≡ false) → row_rule g o a view ≡ None
taken_breaks_none g o a view h =
    let two = or_parts (view.busy || caching view) (refused_by (based g) o (page_address g (row_of a.r1 a.r2 a.r3)) view.queue) h.0 in
    let one = or_parts view.busy (caching view) two.0 in
    three_fail view.busy (refused_by (based g) o (page_address g (row_of a.r1 a.r2 a.r3)) view.queue) (caching view) LunBusy QueueClash CacheReadMisplaced (late_rule o view) one.0 two.1 one.1 ∙ none_late o view h.1

-- 2. the second column cycle

pub past_is : (g : Parts) (v : State) (done : List Done) (limit : ℕ) → limit ≤ greatest_bound → RegistersMirror g v.registers done → not (is_at_most (bound_plus v.registers.column.hi 1) limit) ≡ nat_le limit (column_now done)
past_is g v done limit low m =
    ap (λ (o : Option ℕ). not (is_at_most (bound_plus o 1) limit)) m.column.hi ∙ (ap not (exact_test (column_now done) 1 limit low) ∙ index_test (column_now done) limit)

pub column_rule_is : (len : ℕ) (a : Address) (column : ℕ) → a.column ≡ column → column < 65536 → column_rule len (carried a) ≡ cond (nat_le len column) (Some ColumnOutside) None
column_rule_is len a column same low = ap (column_rule len) (ap (λ (n : ℕ). n % 256 % 256 + 256 * (n / 256 % 256)) same ∙ carried_is column low)
