-- Addresses one by one: what each is judged, and what so many of them leave.
use Rattle.std.proofs.Common.{◌≡◌, ℕ, zero, suc, ◌+◌, ◌≤◌, ◌<◌, ◌==◌, Bool, true, false, ◌&&◌, ◌||◌, cond, not, nat_le, List, [], ◌∷◌, Option, Some, None, refl, sym, ap, ◌∙◌, subst, arith, length, take, drop}
use Rattle.nand_geometry.specs.declared.parts.Parts.{Parts}
use Rattle.nand_geometry.specs.Limits.{page_len}
use Rattle.nand_geometry.specs.Row.{row_of, parts_of, is_inside}
use Rattle.onfi_cycle.specs.declared.command.Command.{Command}
use Rattle.onfi_cycle.specs.declared.command.Command.TheVariants.{Read, ChangeReadColumn, BlockErase, PageProgram}
use Rattle.onfi_cycle.specs.declared.forbidden.Forbidden.{Forbidden}
use Rattle.onfi_cycle.specs.declared.forbidden.Forbidden.TheVariants.{LunBusy, QueueClash, ColumnOutside, CacheReadMisplaced, CacheProgramMisplaced}
use Rattle.onfi_cycle.specs.declared.item.Kind.TheVariants.{Adr}
use Rattle.onfi_cycle.specs.declared.latch.Latch.{Latch}
use Rattle.onfi_cycle.specs.declared.target_cycle.TargetCycle.TheVariants.{AddressCycle}
use Rattle.std.specs.List.{slice_get}
use Rattle.std.proofs.Math.Bool.{or-false}
use Rattle.onfi_cycle.specs.declared.page_address.PageAddress.{PageAddress}
use Rattle.onfi_cycle.specs.declared.queued.Queued.{Queued}
use Rattle.onfi_cycle.specs.Command.{addresses_the_array, is_change_read_column, is_enhanced_column, is_read_id}
use Rattle.onfi_cycle.specs.Sequence.{wants_address, opened, row_with, column_with}
use Rattle.onfi_cycle.specs.LunView.{LunView}
use Rattle.onfi_cycle.specs.Lun.{view_after, programs}
use Rattle.onfi_cycle.specs.Effect.{is_off, page_address, program_row_effect}
use Rattle.onfi_cycle.specs.Rules.{named_lun_is, ends_row, second_of_page, second_column, driver_is, is_some_and, is_refused_by, refused_by, caching, register_len, breaks_command_unknown, breaks_sequence_open, breaks_several_luns, breaks_no_column_to_change, breaks_command_misplaced, breaks_address_misplaced, breaks_row_outside, breaks_lun_busy, breaks_queue_clash, breaks_input_misplaced, breaks_no_sole_driver, breaks_data_not_ready, breaks_column_outside, breaks_cache_read_misplaced, breaks_cache_program_misplaced, breaks_copyback_misplaced, breaks_plane_not_held, excludes_cache, excludes_program}
use Rattle.micro_program.specs.Moves.{gives}
use Rattle.micro_claims.proofs.Fits.{Address, bytes_of, opener_facts, facts_behind}
use Rattle.micro_claims.proofs.AddressSteps.{nth, carried, addressed_view}
use Rattle.micro_program.proofs.Judged.{ends_none}
use Rattle.micro_verify.proofs.Lone.{Lone, MovesPass, based, lone_after, lone_behind, judged}

-- the last row cycle of 80h lets the LUN hold no page
abbrev pub view_at : Command → LunView → ℕ → LunView
view_at PageProgram view i = addressed_view i view
view_at o view i = view

-- after an opener and so many of its addresses
abbrev pub cursor : Command → Address → LunView → ℕ → Lone
cursor o a view i = record { facts = facts_behind (opener_facts o) (take i (bytes_of o a)); view = view_at o view i }

-- 1. what each is judged

named_none : (o : Option LunView) (test : LunView → Bool) → ((v : LunView) → test v ≡ false) → is_some_and test o ≡ false
named_none None test h = refl
named_none (Some v) test h = h v

-- an address that is wanted and isn't the last of a row breaks F14 or no rule
pub plain_judged : (g : Parts) (c : Lone) (byte : ℕ) → wants_address c.facts byte ≡ true → ends_row (λ d. true) c.facts ≡ false → ends_row addresses_the_array c.facts ≡ false → (opened (λ o n. is_read_id o) c.facts.opening && not (byte == 0x20)) ≡ false → ((p : PageAddress) (q : List Queued) → is_refused_by (based g) c.facts.opening p q ≡ false) → judged g c (AddressCycle byte) ≡ cond ((second_of_page c.facts && nat_le (page_len g) (column_with c.facts byte)) || (second_column is_change_read_column c.facts && driver_is (λ v. nat_le (register_len g v.register) (column_with c.facts byte)) (c.view ∷ []))) (Some ColumnOutside) None
unfolding breaks_command_unknown breaks_sequence_open breaks_several_luns breaks_no_column_to_change breaks_command_misplaced breaks_address_misplaced breaks_row_outside breaks_lun_busy breaks_queue_clash breaks_input_misplaced breaks_no_sole_driver breaks_data_not_ready breaks_column_outside breaks_cache_read_misplaced breaks_cache_program_misplaced breaks_copyback_misplaced breaks_plane_not_held
plain_judged g c byte wanted ends array id refuses = rw (wanted, id, ends, array, cached, programmed, planes_held, none) refl
  where
    cached : ends_row (excludes_cache (based g)) c.facts ≡ false
    cached = ends_none (excludes_cache (based g)) c.facts.opening ends

    programmed : ends_row excludes_program c.facts ≡ false
    programmed = ends_none excludes_program c.facts.opening ends

    planes_held : ends_row is_enhanced_column c.facts ≡ false
    planes_held = ends_none is_enhanced_column c.facts.opening ends

    none : named_lun_is g (row_with c.facts byte) (λ v. is_refused_by (based g) c.facts.opening (page_address g (row_with c.facts byte)) v.queue) (c.view ∷ []) ≡ false
    none = named_none (slice_get (c.view ∷ []) (parts_of g (row_with c.facts byte)).lun) (λ v. is_refused_by (based g) c.facts.opening (page_address g (row_with c.facts byte)) v.queue) (λ v. refuses _ _)

-- the row is inside, and of the only LUN
pub record RowThere (g : Parts) (a : Address) : Type 0 where
  pub inside : is_inside g (parts_of g (row_of a.r1 a.r2 a.r3)) ≡ true
  pub lun : (parts_of g (row_of a.r1 a.r2 a.r3)).lun ≡ 0

abbrev pub column_rule : ℕ → ℕ → Option Forbidden
column_rule len column = cond (nat_le len column) (Some ColumnOutside) None

-- the rule of a LUN that programs behind a 15, which in the base profile none does
abbrev pub late_rule : Command → LunView → Option Forbidden
late_rule o view = cond (excludes_program o && programs view) (Some CacheProgramMisplaced) None

abbrev pub row_rule : Parts → Command → Address → LunView → Option Forbidden
row_rule g o a view =
    cond view.busy (Some LunBusy) (cond (refused_by (based g) o (page_address g (row_of a.r1 a.r2 a.r3)) view.queue) (Some QueueClash) (cond (caching view) (Some CacheReadMisplaced) (late_rule o view)))

-- the rule that the next address breaks, if any
abbrev pub address_rule : Parts → Command → Address → LunView → ℕ → Option Forbidden
address_rule g Read a view (suc zero) = column_rule (page_len g) (carried a)
address_rule g Read a view (suc (suc (suc (suc zero)))) = row_rule g Read a view
address_rule g PageProgram a view (suc zero) = column_rule (page_len g) (carried a)
address_rule g PageProgram a view (suc (suc (suc (suc zero)))) = row_rule g PageProgram a view
address_rule g BlockErase a view (suc (suc zero)) = row_rule g BlockErase a view
address_rule g ChangeReadColumn a view (suc zero) = column_rule (register_len g view.register) (carried a)
address_rule g o a view i = None

abbrev pub IsJudged : Parts → Command → Address → LunView → ℕ → Type 0
IsJudged g o a view i = judged g (cursor o a view i) (AddressCycle (nth i (bytes_of o a))) ≡ address_rule g o a view i

pub read_judged : (g : Parts) (a : Address) (view : LunView) (i : ℕ) → i ≤ 4 → (i ≡ 4 → RowThere g a) → IsJudged g Read a view i
unfolding breaks_command_unknown breaks_sequence_open breaks_several_luns breaks_no_column_to_change breaks_command_misplaced breaks_address_misplaced breaks_row_outside breaks_lun_busy breaks_queue_clash breaks_input_misplaced breaks_no_sole_driver breaks_data_not_ready breaks_column_outside breaks_cache_read_misplaced breaks_cache_program_misplaced breaks_copyback_misplaced breaks_plane_not_held
read_judged g a view zero few row = plain_judged g (cursor Read a view 0) (nth 0 (bytes_of Read a)) refl refl refl refl (λ p q. refl)
read_judged g a view (suc zero) few row = plain_judged g (cursor Read a view 1) (nth 1 (bytes_of Read a)) refl refl refl refl (λ p q. refl) ∙ ap (λ (b : Bool). cond b (Some ColumnOutside) None) (or-false (nat_le (page_len g) (carried a)))
read_judged g a view (suc (suc zero)) few row = plain_judged g (cursor Read a view 2) (nth 2 (bytes_of Read a)) refl refl refl refl (λ p q. refl)
read_judged g a view (suc (suc (suc zero))) few row = plain_judged g (cursor Read a view 3) (nth 3 (bytes_of Read a)) refl refl refl refl (λ p q. refl)
read_judged g a view (suc (suc (suc (suc zero)))) few row =
    let r = row refl in
    at r view.busy refl (refused_by (based g) Read (page_address g (row_of a.r1 a.r2 a.r3)) view.queue) refl (caching view) refl
  where
    at : RowThere g a → (b : Bool) → view.busy ≡ b → (q : Bool) → refused_by (based g) Read (page_address g (row_of a.r1 a.r2 a.r3)) view.queue ≡ q → (k : Bool) → caching view ≡ k → IsJudged g Read a view 4
    at r true e q f k h = rw (r.inside, r.lun, e) refl
    at r false e true f k h = rw (r.inside, r.lun, e, f) refl
    at r false e false f true h = rw (r.inside, r.lun, e, f, h) refl
    at r false e false f false h = rw (r.inside, r.lun, e, f, h) refl
read_judged g a view (suc (suc (suc (suc (suc i))))) few row = absurd (omega (arith, few))

pub program_judged : (g : Parts) (a : Address) (view : LunView) (i : ℕ) → i ≤ 4 → (i ≡ 4 → RowThere g a) → IsJudged g PageProgram a view i
unfolding breaks_command_unknown breaks_sequence_open breaks_several_luns breaks_no_column_to_change breaks_command_misplaced breaks_address_misplaced breaks_row_outside breaks_lun_busy breaks_queue_clash breaks_input_misplaced breaks_no_sole_driver breaks_data_not_ready breaks_column_outside breaks_cache_read_misplaced breaks_cache_program_misplaced breaks_copyback_misplaced breaks_plane_not_held
program_judged g a view zero few row = plain_judged g (cursor PageProgram a view 0) (nth 0 (bytes_of PageProgram a)) refl refl refl refl (λ p q. refl)
program_judged g a view (suc zero) few row = plain_judged g (cursor PageProgram a view 1) (nth 1 (bytes_of PageProgram a)) refl refl refl refl (λ p q. refl) ∙ ap (λ (b : Bool). cond b (Some ColumnOutside) None) (or-false (nat_le (page_len g) (carried a)))
program_judged g a view (suc (suc zero)) few row = plain_judged g (cursor PageProgram a view 2) (nth 2 (bytes_of PageProgram a)) refl refl refl refl (λ p q. refl)
program_judged g a view (suc (suc (suc zero))) few row = plain_judged g (cursor PageProgram a view 3) (nth 3 (bytes_of PageProgram a)) refl refl refl refl (λ p q. refl)
program_judged g a view (suc (suc (suc (suc zero)))) few row =
    let r = row refl in
    at r view.busy refl (refused_by (based g) PageProgram (page_address g (row_of a.r1 a.r2 a.r3)) view.queue) refl (caching view) refl
  where
    at : RowThere g a → (b : Bool) → view.busy ≡ b → (q : Bool) → refused_by (based g) PageProgram (page_address g (row_of a.r1 a.r2 a.r3)) view.queue ≡ q → (k : Bool) → caching view ≡ k → IsJudged g PageProgram a view 4
    at r true e q f k h = rw (r.inside, r.lun, e) refl
    at r false e true f k h = rw (r.inside, r.lun, e, f) refl
    at r false e false f true h = rw (r.inside, r.lun, e, f, h) refl
    at r false e false f false h = rw (r.inside, r.lun, e, f, h) refl
program_judged g a view (suc (suc (suc (suc (suc i))))) few row = absurd (omega (arith, few))

pub erase_judged : (g : Parts) (a : Address) (view : LunView) (i : ℕ) → i ≤ 2 → (i ≡ 2 → RowThere g a) → IsJudged g BlockErase a view i
unfolding breaks_command_unknown breaks_sequence_open breaks_several_luns breaks_no_column_to_change breaks_command_misplaced breaks_address_misplaced breaks_row_outside breaks_lun_busy breaks_queue_clash breaks_input_misplaced breaks_no_sole_driver breaks_data_not_ready breaks_column_outside breaks_cache_read_misplaced breaks_cache_program_misplaced breaks_copyback_misplaced breaks_plane_not_held
erase_judged g a view zero few row = plain_judged g (cursor BlockErase a view 0) (nth 0 (bytes_of BlockErase a)) refl refl refl refl (λ p q. refl)
erase_judged g a view (suc zero) few row = plain_judged g (cursor BlockErase a view 1) (nth 1 (bytes_of BlockErase a)) refl refl refl refl (λ p q. refl)
erase_judged g a view (suc (suc zero)) few row =
    let r = row refl in
    at r view.busy refl (refused_by (based g) BlockErase (page_address g (row_of a.r1 a.r2 a.r3)) view.queue) refl (caching view) refl
  where
    at : RowThere g a → (b : Bool) → view.busy ≡ b → (q : Bool) → refused_by (based g) BlockErase (page_address g (row_of a.r1 a.r2 a.r3)) view.queue ≡ q → (k : Bool) → caching view ≡ k → IsJudged g BlockErase a view 2
    at r true e q f k h = rw (r.inside, r.lun, e) refl
    at r false e true f k h = rw (r.inside, r.lun, e, f) refl
    at r false e false f true h = rw (r.inside, r.lun, e, f, h) refl
    at r false e false f false h = rw (r.inside, r.lun, e, f, h) refl
erase_judged g a view (suc (suc (suc i))) few row = absurd (omega (arith, few))

pub change_judged : (g : Parts) (a : Address) (view : LunView) (i : ℕ) → i ≤ 1 → is_off view.latch ≡ false → IsJudged g ChangeReadColumn a view i
unfolding breaks_command_unknown breaks_sequence_open breaks_several_luns breaks_no_column_to_change breaks_command_misplaced breaks_address_misplaced breaks_row_outside breaks_lun_busy breaks_queue_clash breaks_input_misplaced breaks_no_sole_driver breaks_data_not_ready breaks_column_outside breaks_cache_read_misplaced breaks_cache_program_misplaced breaks_copyback_misplaced breaks_plane_not_held
change_judged g a view zero few shown = plain_judged g (cursor ChangeReadColumn a view 0) (nth 0 (bytes_of ChangeReadColumn a)) refl refl refl refl (λ p q. refl)
change_judged g a view (suc zero) few shown = plain_judged g (cursor ChangeReadColumn a view 1) (nth 1 (bytes_of ChangeReadColumn a)) refl refl refl refl (λ p q. refl) ∙ ap (λ (b : Bool). cond b (Some ColumnOutside) None) (shown_alone view.latch shown)
  where
    shown_alone : (x : Latch) → is_off view.latch ≡ false → driver_is (λ v. nat_le (register_len g v.register) (carried a)) (view ∷ []) ≡ nat_le (register_len g view.register) (carried a)
    shown_alone x e = rw e refl
change_judged g a view (suc (suc i)) few shown = absurd (omega (arith, few))

-- 2. so many of them

pub record Passed (g : Parts) (bytes : List ℕ) (from to : Lone) : Type 0 where
  pub pass : MovesPass g (gives Adr bytes) from
  pub leads : lone_after g (gives Adr bytes) from ≡ to

drop_nth : (n : ℕ) (xs : List ℕ) → n < length xs → drop n xs ≡ nth n xs ∷ drop (suc n) xs
drop_nth n [] h = absurd (omega (arith, h))
drop_nth zero (x ∷ xs) h = refl
drop_nth (suc n) (x ∷ xs) h = drop_nth n xs (let less : n < length xs = omega (arith, h) in less)

-- one address that passes leads to the next
pub record Step (g : Parts) (lones : ℕ → Lone) (bytes : List ℕ) (n : ℕ) : Type 0 where
  pub none : judged g (lones n) (AddressCycle (nth n bytes)) ≡ None
  pub leads : lone_behind g (AddressCycle (nth n bytes)) (lones n) ≡ lones (suc n)

pub all_pass : (g : Parts) (lones : ℕ → Lone) (bytes : List ℕ) (count n : ℕ) → n + count ≤ length bytes → ((i : ℕ) → n ≤ i → i < n + count → Step g lones bytes i) → Passed g (take count (drop n bytes)) (lones n) (lones (n + count))
all_pass g lones bytes zero n few step = record { pass = tt; leads = ap lones (omega arith) }
all_pass g lones bytes (suc count) n few step =
    let one = step n (omega arith) (omega arith) in
    let there : n < length bytes = omega (arith, few) in
    let rest = all_pass g lones bytes count (suc n) (omega (arith, few)) (λ i low high. step i (omega (arith, low)) (omega (arith, high))) in
    let number : suc n + count ≡ n + suc count = omega arith in
    subst (λ (xs : List ℕ). Passed g (take (suc count) xs) (lones n) (lones (n + suc count))) (sym (drop_nth n bytes there))
    (record {
      pass = (one.none, subst (λ (x : Lone). MovesPass g (gives Adr (take count (drop (suc n) bytes))) x) (sym one.leads) rest.pass);
      leads = ap (lone_after g (gives Adr (take count (drop (suc n) bytes)))) one.leads ∙ (rest.leads ∙ ap lones number);
    })

-- each address leads to the next
pub read_leads : (g : Parts) (a : Address) (view : LunView) (i : ℕ) → i ≤ 4 → lone_behind g (AddressCycle (nth i (bytes_of Read a))) (cursor Read a view i) ≡ cursor Read a view (suc i)
read_leads g a view zero few = refl
read_leads g a view (suc zero) few = refl
read_leads g a view (suc (suc zero)) few = refl
read_leads g a view (suc (suc (suc zero))) few = refl
read_leads g a view (suc (suc (suc (suc zero)))) few = refl
read_leads g a view (suc (suc (suc (suc (suc i))))) few = absurd (omega (arith, few))

pub program_leads : (g : Parts) (a : Address) (view : LunView) (i : ℕ) → i ≤ 4 → (i ≡ 4 → RowThere g a) → lone_behind g (AddressCycle (nth i (bytes_of PageProgram a))) (cursor PageProgram a view i) ≡ cursor PageProgram a view (suc i)
program_leads g a view zero few row = refl
program_leads g a view (suc zero) few row = refl
program_leads g a view (suc (suc zero)) few row = refl
program_leads g a view (suc (suc (suc zero))) few row = refl
program_leads g a view (suc (suc (suc (suc zero)))) few row = ap (λ (n : ℕ). record { facts = (cursor PageProgram a view 5).facts; view = view_after (program_row_effect (n == 0)) view }) (row refl).lun
program_leads g a view (suc (suc (suc (suc (suc i))))) few row = absurd (omega (arith, few))

pub erase_leads : (g : Parts) (a : Address) (view : LunView) (i : ℕ) → i ≤ 2 → lone_behind g (AddressCycle (nth i (bytes_of BlockErase a))) (cursor BlockErase a view i) ≡ cursor BlockErase a view (suc i)
erase_leads g a view zero few = refl
erase_leads g a view (suc zero) few = refl
erase_leads g a view (suc (suc zero)) few = refl
erase_leads g a view (suc (suc (suc i))) few = absurd (omega (arith, few))

pub change_leads : (g : Parts) (a : Address) (view : LunView) (i : ℕ) → i ≤ 1 → lone_behind g (AddressCycle (nth i (bytes_of ChangeReadColumn a))) (cursor ChangeReadColumn a view i) ≡ cursor ChangeReadColumn a view (suc i)
change_leads g a view zero few = refl
change_leads g a view (suc zero) few = refl
change_leads g a view (suc (suc i)) few = absurd (omega (arith, few))
