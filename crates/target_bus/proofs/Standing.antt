-- The dies go on with the past.
use Rattle.std.proofs.Common.{◌≡◌, ◌≢◌, ℕ, ◌+◌, ◌*◌, ◌%◌, ◌<◌, ◌≤◌, ◌==◌, Bool, true, false, ◌&&◌, ◌||◌, ◌++◌, cond, not, ltb, leb, eq-eqb, eqb-true, reverse, List, [], ◌∷◌, Option, Some, None, Result, Ok, Err, IfOk, OnErr, IsOk, refl, sym, ap, subst, ◌∙◌, arith, length, set, ◌^◌}
use Rattle.std.proofs.lemmas.Bool.Decides.{nat_tests}
use Rattle.std.proofs.lemmas.Option.{slice_get_within, slice_get_past}
use Rattle.std.specs.List.{slice_get}
use Rattle.std.proofs.lemmas.List.{reverse-append}
use Rattle.std.specs.Option.{is_some}
use Rattle.std.specs.Result.{is_err}
use Rattle.std.proofs.Math.Nat.{mul-le-mul_right}
use Rattle.std.proofs.lemmas.Bool.{false_from_ne_true, not-false, or_parts as neither, and_parts}
use Rattle.onfi_cycle.proofs.Booleans.{clash}
use Rattle.nand_geometry.specs.declared.parts.Parts.{Parts}
use Rattle.nand_geometry.specs.Limits.{InLimits, page_len, planes}
use Rattle.onfi_cycle.specs.declared.command.Command.{Command}
use Rattle.onfi_cycle.specs.declared.command.Command.TheVariants.{Read, ReadConfirm, ChangeReadColumnConfirm, BlockEraseConfirm, BlockErasePlane, ReadStatus, ReadStatusEnhanced, ProgramConfirm, ProgramPlane, ProgramCache, ReadId, ReadParameterPage, Reset, ReadCacheSequential, ReadCacheEnd, ReadUniqueId, GetFeatures, ResetLun, SynchronousReset, CopybackRead, PageProgram}
use Rattle.onfi_cycle.specs.declared.item.Cycle.{Cycle}
use Rattle.onfi_cycle.specs.declared.data_phase.DataPhase.{DataPhase}
use Rattle.onfi_cycle.specs.declared.data_phase.DataPhase.TheVariants.{Outside, Inputs, FirstColumn, SecondColumn, FeatureInputs}
use Rattle.onfi_cycle.specs.declared.effect.Effect.{Effect}
use Rattle.onfi_cycle.specs.declared.effect.Effect.TheVariants as e
use Rattle.onfi_cycle.specs.declared.filling.Filling.{Filling}
use Rattle.onfi_cycle.specs.declared.filling.Filling.TheVariants.{Leaves, Clears, Copies, Fills}
use Rattle.onfi_cycle.specs.declared.forbidden.Forbidden.TheVariants.{NotThere}
use Rattle.onfi_cycle.specs.declared.item.Item.{Item}
use Rattle.onfi_cycle.specs.declared.item.Failures.{Failures}
use Rattle.onfi_cycle.specs.declared.item.Item.TheVariants.{Cyc, Rdy, Ard}
use Rattle.onfi_cycle.specs.declared.latch.Latch.{Latch}
use Rattle.onfi_cycle.specs.declared.lun.Lun.{Lun}
use Rattle.onfi_cycle.specs.declared.opening.Opening.{Opening}
use Rattle.onfi_cycle.specs.declared.page_address.PageAddress.{PageAddress}
use Rattle.onfi_cycle.specs.declared.tail_facts.TailFacts.{TailFacts}
use Rattle.onfi_cycle.specs.declared.target_cycle.TargetCycle.{TargetCycle}
use Rattle.onfi_cycle.specs.declared.target_cycle.TargetCycle.TheVariants.{CommandCycle, AddressCycle, InputCycle, OutputCycle}
use Rattle.onfi_cycle.specs.LunView.{LunView}
use Rattle.onfi_cycle.specs.Sequence.{tail, facts_of, target_cycle, takes_data, takes_features, input_column, wants_command, wants_address, row, row_with, selects_plane}
use Rattle.onfi_cycle.specs.Effect.{is_shared, acts_for_target, of_target, other_effect, lun_reset_effect, is_off, is_data, names_lun, confirm_effect, command_effect, address_effect, opening_address_effect, id_effect, ends_features, cycle_effect, row_effect, cache_effect, plane_effect, column_effect, plane_of_row}
use Rattle.onfi_cycle.specs.Command.{closes_row, reads_row}
use Rattle.onfi_cycle.specs.Filling.{filling, cycle_filling}
use Rattle.onfi_cycle.specs.Lun.{effect_on, latch_alone, luns_of, lun_view, effect_among, held}
use Rattle.onfi_cycle.specs.Rules.{breaks_not_there, breaks_column_outside, lun_is, is_some_and, some_queued_clashes, some_read_clashes}
use Rattle.onfi_cycle.specs.declared.item.Kind.{Kind}
use Rattle.onfi_cycle.specs.declared.item.Kind.TheVariants.{Cmd, Adr, Din, Dout}
use Rattle.onfi_cycle.specs.Channel.{Channel, cycle}
use Rattle.onfi_cycle.specs.Permitted.{broken}
use Rattle.onfi_cycle.specs.State.{BusView, Follows}
use Rattle.onfi_cycle.specs.Bounds.{LunFits, EffectFits, is_row}
use Rattle.onfi_cycle.specs.Working.{fills, begins, works_on, is_reset_cycle, resets_several, IsLun, FactsFit}
use Rattle.onfi_cycle.specs.Readies.{starts, cycle_starts, starts_work, bus_due}
use Rattle.onfi_cycle.proofs.Others.{first_passed}
use Rattle.onfi_cycle.proofs.Passed.{permitted_keeps}
use Rattle.onfi_cycle.proofs.HeldPages.{fits_planes}
use Rattle.onfi_cycle.proofs.Keeping.{views_length}
use Rattle.onfi_cycle.proofs.Following.{count_of}
use Rattle.die_model.specs.Die.{Die, work_begun, is_program, IsAfter}
use Rattle.die_model.specs.Standing.{IsDieOf, WorkedBy, CanBeginSome, is_no_ready, CanWork, IsWorked}
use Rattle.die_model.proofs.Standing.{is_input as is_an_input, dies_go_on}
use Rattle.target_bus.specs.Bus.{Entries, is_input, channel_on, opened_page, numbered, number_of, lun_at, StandFor, FindsWork, IsStanding, Permits, IsNext, IsRunning, Traced, spent}
use Rattle.target_bus.specs.declared.working.Worked.{Worked}
use Rattle.target_bus.proofs.Numbers.{target_there, lun_there, numbered_number, number_apart, number_below, set_here, set_other}

-- 1. what leaves a die as it is

-- the whole row of 80 came
abbrev is_addressed : Effect → Bool
is_addressed e.ProgramAddressed = true
is_addressed x = false

-- an effect is no ready's, and where 80 has its whole row a page register changes
abbrev IsQuiet : Bool → Effect → Type 0
IsQuiet changes x = (is_no_ready x && (not (is_addressed x) || changes)) ≡ true

pub rests : (x : Effect) (d : Die) → begins x ≡ false → IsQuiet false x → IsAfter x d d
rests e.Unaffected d b r = record { geometry = refl; planes = refl; pages = λ p. refl; register = refl; held = refl; array_page = refl; busy = refl; closer = refl; array_busy = refl; queue = refl; queued = refl; pending = refl; in_array = refl; failed = refl; failed_before = refl }
rests e.DataOutputEnabled d b r = record { geometry = refl; planes = refl; pages = λ p. refl; register = refl; held = refl; array_page = refl; busy = refl; closer = refl; array_busy = refl; queue = refl; queued = refl; pending = refl; in_array = refl; failed = refl; failed_before = refl }
rests e.StatusSelected d b r = record { geometry = refl; planes = refl; pages = λ p. refl; register = refl; held = refl; array_page = refl; busy = refl; closer = refl; array_busy = refl; queue = refl; queued = refl; pending = refl; in_array = refl; failed = refl; failed_before = refl }
rests e.StatusRowAwaited d b r = record { geometry = refl; planes = refl; pages = λ p. refl; register = refl; held = refl; array_page = refl; busy = refl; closer = refl; array_busy = refl; queue = refl; queued = refl; pending = refl; in_array = refl; failed = refl; failed_before = refl }
rests e.SelectedForStatus d b r = record { geometry = refl; planes = refl; pages = λ p. refl; register = refl; held = refl; array_page = refl; busy = refl; closer = refl; array_busy = refl; queue = refl; queued = refl; pending = refl; in_array = refl; failed = refl; failed_before = refl }
rests e.Deselected d b r = record { geometry = refl; planes = refl; pages = λ p. refl; register = refl; held = refl; array_page = refl; busy = refl; closer = refl; array_busy = refl; queue = refl; queued = refl; pending = refl; in_array = refl; failed = refl; failed_before = refl }
rests e.StatusOfSelected d b r = record { geometry = refl; planes = refl; pages = λ p. refl; register = refl; held = refl; array_page = refl; busy = refl; closer = refl; array_busy = refl; queue = refl; queued = refl; pending = refl; in_array = refl; failed = refl; failed_before = refl }
rests (e.AnotherAddressed reads) d b r = record { geometry = refl; planes = refl; pages = λ p. refl; register = refl; held = refl; array_page = refl; busy = refl; closer = refl; array_busy = refl; queue = refl; queued = refl; pending = refl; in_array = refl; failed = refl; failed_before = refl }
rests (e.ReadColumnChanged column) d b r = record { geometry = refl; planes = refl; pages = λ p. refl; register = refl; held = refl; array_page = refl; busy = refl; closer = refl; array_busy = refl; queue = refl; queued = refl; pending = refl; in_array = refl; failed = refl; failed_before = refl }
rests e.DataOutput d b r = record { geometry = refl; planes = refl; pages = λ p. refl; register = refl; held = refl; array_page = refl; busy = refl; closer = refl; array_busy = refl; queue = refl; queued = refl; pending = refl; in_array = refl; failed = refl; failed_before = refl }
rests x d b r = cc

rests_worked : (g : Parts) (x : Filling) (k : Effect) (d : Die) → (fills x || begins k) ≡ false → IsQuiet (fills x) k → WorkedBy g x k d d
rests_worked g Leaves k d h r = rests k d h r
rests_worked g (Clears at) k d h r = cc
rests_worked g (Copies at from) k d h r = cc
rests_worked g (Fills at column byte) k d h r = cc

-- a cycle is no ready
either : (P : Effect → Type 0) (b : Bool) (x y : Effect) → P x → P y → P (cond b x y)
either P true x y h k = h
either P false x y h k = k

-- the work of a closer of a row on the LUNs that it doesn't name
either_passed : (P : Effect → Type 0) (g : Parts) (t : TailFacts) (c : Command) → P (e.AnotherAddressed (reads_row c)) → P e.Unaffected → P (other_effect g t c)
either_passed P g t c h k = either P (closes_row c && (wants_command t c && is_shared g)) (e.AnotherAddressed (reads_row c)) e.Unaffected h k

-- the work of a Reset LUN
either_reset : (P : Effect → Type 0) (g : Parts) (named : Bool) → P e.ResetStarted → P (e.AnotherAddressed false) → P e.Unaffected → P (lun_reset_effect g named)
either_reset P g named h k u = either P named e.ResetStarted (cond (is_shared g) (e.AnotherAddressed false) e.Unaffected) h (either P (is_shared g) (e.AnotherAddressed false) e.Unaffected k u)

confirm_quiet : (b : Bool) (g : Parts) (t : TailFacts) (c : Command) → IsQuiet b (confirm_effect g t c)
confirm_quiet b g t ReadConfirm = refl
confirm_quiet b g t ReadCacheSequential = refl
confirm_quiet b g t BlockEraseConfirm = refl
confirm_quiet b g t BlockErasePlane = refl
confirm_quiet b g t ProgramConfirm = refl
confirm_quiet b g t ProgramPlane = refl
confirm_quiet b g t ProgramCache = refl
confirm_quiet b g t CopybackRead = refl
confirm_quiet b g t c = refl

command_quiet : (b : Bool) (g : Parts) (t : TailFacts) (la : Latch) (c : Command) (n : ℕ) → IsQuiet b (command_effect g t la c n)
command_quiet b g t la Read n = refl
command_quiet b g t la ReadStatus n = either (IsQuiet b) (is_shared g) e.StatusOfSelected e.StatusSelected refl refl
command_quiet b g t la ReadStatusEnhanced n = refl
command_quiet b g t la Reset n = either (IsQuiet b) (is_shared g) (e.TargetResetStarted (n == 0)) e.ResetStarted refl refl
command_quiet b g t la SynchronousReset n = either (IsQuiet b) (is_shared g) (e.TargetResetStarted (n == 0)) e.ResetStarted refl refl
command_quiet b g t la ReadCacheSequential n =
    either (IsQuiet b) (wants_command t ReadCacheSequential) (row_effect g t ReadCacheSequential n) (cache_effect la)
    (either (IsQuiet b) (wants_command t ReadCacheSequential && names_lun g (row t) n) (confirm_effect g t ReadCacheSequential) (other_effect g t ReadCacheSequential) (confirm_quiet b g t ReadCacheSequential) (either_passed (IsQuiet b) g t ReadCacheSequential refl refl))
    (either (IsQuiet b) (is_off la) e.Unaffected (e.CacheReadContinued None) refl refl)
command_quiet b g t la ReadCacheEnd n = either (IsQuiet b) (is_off la) e.Unaffected e.CacheReadEnded refl refl
command_quiet b g t la ChangeReadColumnConfirm n =
    either (IsQuiet b) (selects_plane t) (plane_effect g t n) (column_effect t la) (either (IsQuiet b) (names_lun g (row t) n) (e.PlaneSelected (plane_of_row g (row t)) (planes g) t.column) e.Deselected refl refl)
    (either (IsQuiet b) (wants_command t ChangeReadColumnConfirm && not (is_off la)) (e.ReadColumnChanged t.column) e.Unaffected refl refl)
command_quiet b g t la c n = either (IsQuiet b) (wants_command t c && names_lun g (row t) n) (confirm_effect g t c) (other_effect g t c) (confirm_quiet b g t c) (either_passed (IsQuiet b) g t c refl refl)

id_quiet : (b : Bool) (byte : ℕ) → IsQuiet b (id_effect byte)
id_quiet b byte = either (IsQuiet b) (byte == 0x20) e.IdRead (e.IdentityRead (byte == 0x40)) refl refl

address_quiet : (b : Bool) (g : Parts) (t : TailFacts) (byte : ℕ) (o : Opening) (n : ℕ) → (o.opener ≡ PageProgram → (o.addresses == 4) ≡ true → names_lun g (row_with t byte) n ≡ true → b ≡ true) → IsQuiet b (address_effect g t byte o.opener o.addresses n)
address_quiet b g t byte o n clears = of o.opener clears
  where
    of : (c : Command) → (c ≡ PageProgram → (o.addresses == 4) ≡ true → names_lun g (row_with t byte) n ≡ true → b ≡ true) → IsQuiet b (address_effect g t byte c o.addresses n)
    of PageProgram clears = program (o.addresses == 4) (names_lun g (row_with t byte) n) (clears refl)
      where
        program : (last named : Bool) → (last ≡ true → named ≡ true → b ≡ true) → IsQuiet b (cond last (cond named e.ProgramAddressed e.Unaffected) e.Unaffected)
        program true true changes = changes refl refl
        program true false changes = refl
        program false named changes = refl
    of ReadStatusEnhanced clears = either (IsQuiet b) (o.addresses == 2) (cond (names_lun g (row_with t byte) n) e.SelectedForStatus e.Deselected) e.Unaffected (either (IsQuiet b) (names_lun g (row_with t byte) n) e.SelectedForStatus e.Deselected refl refl) refl
    of ReadId clears = either (IsQuiet b) (wants_address t byte) (of_target g n (id_effect byte)) e.Unaffected (either (IsQuiet b) (acts_for_target g n) (id_effect byte) e.Deselected (id_quiet b byte) refl) refl
    of ReadParameterPage clears = either (IsQuiet b) (wants_address t byte) (of_target g n e.ParameterPageReadStarted) e.Unaffected (either (IsQuiet b) (acts_for_target g n) e.ParameterPageReadStarted e.Deselected refl refl) refl
    of ReadUniqueId clears = either (IsQuiet b) (wants_address t byte) (of_target g n e.UniqueIdReadStarted) e.Unaffected (either (IsQuiet b) (acts_for_target g n) e.UniqueIdReadStarted e.Deselected refl refl) refl
    of GetFeatures clears = either (IsQuiet b) (wants_address t byte) (of_target g n (e.FeaturesReadStarted byte)) e.Unaffected (either (IsQuiet b) (acts_for_target g n) (e.FeaturesReadStarted byte) e.Deselected refl refl) refl
    of ResetLun clears = either (IsQuiet b) (o.addresses == 2) (lun_reset_effect g (names_lun g (row_with t byte) n)) e.Unaffected (either_reset (IsQuiet b) g (names_lun g (row_with t byte) n) refl refl refl) refl
    of c clears = refl

-- the last row cycle of 80 clears a page register of the LUN that it names
row_clears : (g : Parts) (t : TailFacts) (byte n : ℕ) (held : List PageAddress) (o : Opening) → t.opening ≡ Some o → o.opener ≡ PageProgram → (o.addresses == 4) ≡ true → names_lun g (row_with t byte) n ≡ true → fills (cycle_filling g t (AddressCycle byte) n held) ≡ true
row_clears g t byte n held o opening opener last named = rw (named, opening, opener, last) refl

cycle_quiet : (g : Parts) (t : TailFacts) (la : Latch) (k : TargetCycle) (n : ℕ) (held : List PageAddress) → IsQuiet (fills (cycle_filling g t k n held)) (cycle_effect g t la k n)
cycle_quiet g t la (CommandCycle c) n held = command_quiet false g t la c n
cycle_quiet g t la (AddressCycle byte) n held = of t.opening refl
  where
    of : (o : Option Opening) → t.opening ≡ o → IsQuiet (fills (cycle_filling g t (AddressCycle byte) n held)) (opening_address_effect g t byte o n)
    of None q = refl
    of (Some o) q = address_quiet _ g t byte o n (row_clears g t byte n held o q)
cycle_quiet g t la (InputCycle byte) n held = either (IsQuiet (fills (cycle_filling g t (InputCycle byte) n held))) (ends_features t) (of_target g n (e.FeaturesSet (t.column % 256))) e.Unaffected (either (IsQuiet (fills (cycle_filling g t (InputCycle byte) n held))) (acts_for_target g n) (e.FeaturesSet (t.column % 256)) e.Deselected refl refl) refl
cycle_quiet g t la OutputCycle n held = either (IsQuiet false) (is_data la) e.DataOutput e.Unaffected refl refl

pub is_quiet : (g : Parts) (past : List Item) (c : Cycle) (l : Lun) → IsQuiet (fills (filling g (facts_of (tail past l.ce)) (Cyc c) l (held g past l))) (effect_on g past (Cyc c) l)
unfolding effect_among
is_quiet g past c l = at (c.ce == l.ce)
  where
    t : TailFacts
    t = facts_of (tail past l.ce)

    at : (b : Bool) → IsQuiet (fills (cond b (cycle_filling g t (target_cycle c.kind c.byte) l.lun (held g past l)) Leaves)) (cond b (cycle_effect g t (latch_alone g past l) (target_cycle c.kind c.byte) l.lun) e.Unaffected)
    at true = cycle_quiet g t (latch_alone g past l) (target_cycle c.kind c.byte) l.lun (held g past l)
    at false = refl

pub no_ready : (g : Parts) (past : List Item) (c : Cycle) (l : Lun) → is_no_ready (effect_on g past (Cyc c) l) ≡ true
no_ready g past c l = (and_parts (is_no_ready (effect_on g past (Cyc c) l)) _ (is_quiet g past c l)).0

-- a cycle of another target works on no LUN of this one
pub works_here : (g : Parts) (past : List Item) (c : Cycle) (l : Lun) → works_on g past (Cyc c) l ≡ true → c.ce ≡ l.ce
unfolding effect_among
works_here g past c l h = at (c.ce == l.ce) refl h
  where
    at : (b : Bool) → (c.ce == l.ce) ≡ b → (fills (cond b (cycle_filling g (facts_of (tail past l.ce)) (target_cycle c.kind c.byte) l.lun (held g past l)) Leaves) || begins (cond b (cycle_effect g (facts_of (tail past l.ce)) (latch_alone g past l) (target_cycle c.kind c.byte) l.lun) e.Unaffected)) ≡ true → c.ce ≡ l.ce
    at true q h = eqb-true c.ce l.ce q
    at false q h = cc

-- 2. what a die can begin

pub record SameDie (g : Parts) (v : LunView) (d : Die) : Type 0 where
  pub geometry : d.geometry ≡ g
  pub busy : d.busy ≡ v.busy
  pub queue : d.queued ≡ v.queue
  pub array_page : d.array_page ≡ v.array_page

small_queue : (g : Parts) (v : LunView) (d : Die) → SameDie g v d → LunFits g v → length d.queued < 16
small_queue g v d s f = let same = ap length s.queue in let few = f.queue in omega (arith, same, few)

small_page : (g : Parts) (v : LunView) (d : Die) → SameDie g v d → LunFits g v → d.array_page.page < 2 ^ 32
small_page g v d s f = subst (λ (p : PageAddress). p.page < 2 ^ 32) (sym s.array_page) f.array_page

is_ready : (g : Parts) (v : LunView) (d : Die) → SameDie g v d → v.busy ≡ false → not d.busy ≡ true
is_ready g v d s h = ap not (s.busy ∙ h)

row_there : (g : Parts) (v : LunView) (d : Die) (at : PageAddress) → SameDie g v d → is_row g at ≡ true → is_row d.geometry at ≡ true
row_there g v d at s h = ap (λ (k : Parts). is_row k at) s.geometry ∙ h

apart : (g : Parts) (v : LunView) (d : Die) (erase : Bool) (at : PageAddress) → SameDie g v d → some_queued_clashes g erase at v.queue ≡ false → not (some_queued_clashes d.geometry erase at d.queued) ≡ true
apart g v d erase at s h = ap not (ap (λ (k : Parts). some_queued_clashes k erase at d.queued) s.geometry ∙ (ap (some_queued_clashes g erase at) s.queue ∙ h))

apart_read : (g : Parts) (v : LunView) (d : Die) (at : PageAddress) → SameDie g v d → some_read_clashes g at v.queue ≡ false → not (some_read_clashes d.geometry at d.queued) ≡ true
apart_read g v d at s h = ap not (ap (λ (k : Parts). some_read_clashes k at d.queued) s.geometry ∙ (ap (some_read_clashes g at) s.queue ∙ h))

pub can_begin : (g : Parts) (v : LunView) (d : Die) (x : Effect) → SameDie g v d → LunFits g v → EffectFits g v x → CanBeginSome (work_begun x) d
can_begin g v d (e.ReadStarted at column) s f h = record { row = row_there g v d at s h.2.inside; together = refl; ready = is_ready g v d s h.2.ready; room = small_queue g v d s f; next = small_page g v d s f; planes = tt }
can_begin g v d (e.ReadQueued at) s f h = record { row = row_there g v d at s h.1.inside; together = apart_read g v d at s h.0; ready = is_ready g v d s h.1.ready; room = small_queue g v d s f; next = small_page g v d s f; planes = tt }
can_begin g v d (e.CopybackReadStarted at column planes) s f h = record { row = row_there g v d at s h.3.inside; together = refl; ready = is_ready g v d s h.3.ready; room = small_queue g v d s f; next = small_page g v d s f; planes = h.2 }
can_begin g v d (e.EraseStarted true at) s f h = record { row = row_there g v d at s h.1.inside; together = apart g v d true at s h.0; ready = is_ready g v d s h.1.ready; room = small_queue g v d s f; next = small_page g v d s f; planes = tt }
can_begin g v d (e.EraseStarted false at) s f h = record { row = row_there g v d at s h.1.inside; together = apart g v d true at s h.0; ready = is_ready g v d s h.1.ready; room = small_queue g v d s f; next = small_page g v d s f; planes = tt }
can_begin g v d (e.ProgramStarted true at) s f h = record { row = row_there g v d at s h.1.inside; together = apart g v d false at s h.0; ready = is_ready g v d s h.1.ready; room = small_queue g v d s f; next = small_page g v d s f; planes = tt }
can_begin g v d (e.ProgramStarted false at) s f h = record { row = row_there g v d at s h.1.inside; together = apart g v d false at s h.0; ready = is_ready g v d s h.1.ready; room = small_queue g v d s f; next = small_page g v d s f; planes = tt }
can_begin g v d (e.CacheProgramStarted at) s f h = record { row = row_there g v d at s h.1.inside; together = apart g v d false at s h.0; ready = is_ready g v d s h.1.ready; room = small_queue g v d s f; next = small_page g v d s f; planes = tt }
can_begin g v d e.IdRead s f h = record { row = refl; together = refl; ready = is_ready g v d s h; room = small_queue g v d s f; next = small_page g v d s f; planes = tt }
can_begin g v d (e.IdentityRead jedec) s f h = record { row = refl; together = refl; ready = is_ready g v d s h; room = small_queue g v d s f; next = small_page g v d s f; planes = tt }
can_begin g v d e.UniqueIdReadStarted s f h = record { row = refl; together = refl; ready = is_ready g v d s h; room = small_queue g v d s f; next = small_page g v d s f; planes = tt }
can_begin g v d (e.FeaturesReadStarted address) s f h = record { row = refl; together = refl; ready = is_ready g v d s h; room = small_queue g v d s f; next = small_page g v d s f; planes = tt }
can_begin g v d (e.FeaturesSet address) s f h = record { row = refl; together = refl; ready = is_ready g v d s h; room = small_queue g v d s f; next = small_page g v d s f; planes = tt }
can_begin g v d e.ParameterPageReadStarted s f h = record { row = refl; together = refl; ready = is_ready g v d s h; room = small_queue g v d s f; next = small_page g v d s f; planes = tt }
can_begin g v d (e.CacheReadContinued None) s f h = record { row = refl; together = refl; ready = is_ready g v d s h.1; room = small_queue g v d s f; next = small_page g v d s f; planes = tt }
can_begin g v d (e.CacheReadContinued (Some at)) s f h = record { row = refl; together = refl; ready = is_ready g v d s h.1.ready; room = small_queue g v d s f; next = small_page g v d s f; planes = tt }
can_begin g v d e.CacheReadEnded s f h = record { row = refl; together = refl; ready = is_ready g v d s h; room = small_queue g v d s f; next = small_page g v d s f; planes = tt }
can_begin g v d e.ResetStarted s f h = record { row = refl; together = refl; ready = refl; room = small_queue g v d s f; next = small_page g v d s f; planes = tt }
can_begin g v d (e.TargetResetStarted first) s f h = record { row = refl; together = refl; ready = refl; room = small_queue g v d s f; next = small_page g v d s f; planes = tt }
can_begin g v d x s f h = tt

pub only_data : (p : DataPhase) → takes_data p ≡ true → takes_features p ≡ false
only_data Outside h = cc
only_data Inputs h = refl
only_data FirstColumn h = cc
only_data SecondColumn h = cc
only_data FeatureInputs h = cc

-- an input comes inside the page
input_inside : (g : Parts) (n : ℕ) (past : List Item) (i : Item) (l : Lun) (at : PageAddress) (column byte : ℕ) → broken g n past i ≡ None → filling g (facts_of (tail past l.ce)) i l (held g past l) ≡ Fills at column byte → column < page_len g
unfolding breaks_column_outside
input_inside g n past i l at column byte h is =
    let j = is_an_input g past i l at column byte is in
    let rules = permitted_keeps g n past j.c (sym (ap (broken g n past) j.is) ∙ h) in
    let same : j.c.ce ≡ l.ce = eqb-true j.c.ce l.ce j.ce in
    let f14 : breaks_column_outside g (facts_of (tail past l.ce)) (luns_of g past l.ce) (InputCycle byte) ≡ false = subst (λ (k : TargetCycle). breaks_column_outside g (facts_of (tail past l.ce)) (luns_of g past l.ce) k ≡ false) j.cycle (subst (λ (ce : ℕ). breaks_column_outside g (facts_of (tail past ce)) (luns_of g past ce) (target_cycle j.c.kind j.c.byte) ≡ false) same rules.f14) in
    let page : leb (page_len g) (input_column (facts_of (tail past l.ce))) ≡ false = ap (λ (b : Bool). not b && leb (page_len g) (input_column (facts_of (tail past l.ce)))) (sym (only_data (facts_of (tail past l.ce)).phase j.takes)) ∙ f14 in
    below (page_len g) column (input_column (facts_of (tail past l.ce))) j.place page
  where
    below : (a b c : ℕ) → b ≡ c → leb a c ≡ false → b < a
    below a b c e f = grind (arith, nat_tests)

pub can_work : (s : Channel) (past : List Item) (c : Cycle) (l : Lun) (d : Die) → broken s.geometry s.targets past (Cyc c) ≡ None → IsLun s.geometry s.targets l → FactsFit s.geometry s.targets past → IsDieOf s past l d → CanWork (filling s.geometry (facts_of (tail past l.ce)) (Cyc c) l (held s.geometry past l)) (effect_on s.geometry past (Cyc c) l) d
can_work s past c l d h there facts f = of (filling s.geometry (facts_of (tail past l.ce)) (Cyc c) l (held s.geometry past l)) refl
  where
    same : SameDie s.geometry (lun_view s.geometry past l) d
    same = record { geometry = f.geometry; busy = f.busy; queue = f.queue; array_page = f.array_page }

    of : (x : Filling) → filling s.geometry (facts_of (tail past l.ce)) (Cyc c) l (held s.geometry past l) ≡ x → CanWork x (effect_on s.geometry past (Cyc c) l) d
    of Leaves q = (can_begin s.geometry (lun_view s.geometry past l) d (effect_on s.geometry past (Cyc c) l) same (facts.lun l there) (facts.effect (Cyc c) l there h), no_ready s.geometry past c l, fits_planes s.geometry (lun_view s.geometry past l) (effect_on s.geometry past (Cyc c) l) (facts.effect (Cyc c) l there h))
    of (Clears at) q = tt
    of (Copies at from) q = tt
    of (Fills at column byte) q = subst (λ (k : Parts). column < page_len k) (sym f.geometry) (input_inside s.geometry s.targets past (Cyc c) l at column byte h q)

-- a cycle that starts no work programs nothing
confirm_programs : (g : Parts) (t : TailFacts) (c : Command) → starts c ≡ false → is_program (confirm_effect g t c) ≡ false
confirm_programs g t ReadConfirm h = refl
confirm_programs g t ReadCacheSequential h = refl
confirm_programs g t BlockEraseConfirm h = refl
confirm_programs g t BlockErasePlane h = refl
confirm_programs g t ProgramConfirm h = cc
confirm_programs g t ProgramPlane h = cc
confirm_programs g t ProgramCache h = cc
confirm_programs g t CopybackRead h = refl
confirm_programs g t c h = refl

abbrev IsNoProgram : Effect → Type 0
IsNoProgram x = is_program x ≡ false

command_programs : (g : Parts) (t : TailFacts) (la : Latch) (c : Command) (n : ℕ) → starts c ≡ false → IsNoProgram (command_effect g t la c n)
command_programs g t la Read n h = refl
command_programs g t la ReadStatus n h = either IsNoProgram (is_shared g) e.StatusOfSelected e.StatusSelected refl refl
command_programs g t la ReadStatusEnhanced n h = refl
command_programs g t la Reset n h = either IsNoProgram (is_shared g) (e.TargetResetStarted (n == 0)) e.ResetStarted refl refl
command_programs g t la SynchronousReset n h = either IsNoProgram (is_shared g) (e.TargetResetStarted (n == 0)) e.ResetStarted refl refl
command_programs g t la ReadCacheSequential n h =
    either IsNoProgram (wants_command t ReadCacheSequential) (row_effect g t ReadCacheSequential n) (cache_effect la)
    (either IsNoProgram (wants_command t ReadCacheSequential && names_lun g (row t) n) (confirm_effect g t ReadCacheSequential) (other_effect g t ReadCacheSequential) refl (either_passed IsNoProgram g t ReadCacheSequential refl refl))
    (either IsNoProgram (is_off la) e.Unaffected (e.CacheReadContinued None) refl refl)
command_programs g t la ReadCacheEnd n h = either IsNoProgram (is_off la) e.Unaffected e.CacheReadEnded refl refl
command_programs g t la ChangeReadColumnConfirm n h =
    either IsNoProgram (selects_plane t) (plane_effect g t n) (column_effect t la) (either IsNoProgram (names_lun g (row t) n) (e.PlaneSelected (plane_of_row g (row t)) (planes g) t.column) e.Deselected refl refl)
    (either IsNoProgram (wants_command t ChangeReadColumnConfirm && not (is_off la)) (e.ReadColumnChanged t.column) e.Unaffected refl refl)
command_programs g t la c n h = either IsNoProgram (wants_command t c && names_lun g (row t) n) (confirm_effect g t c) (other_effect g t c) (confirm_programs g t c h) (either_passed IsNoProgram g t c refl refl)

id_programs : (byte : ℕ) → IsNoProgram (id_effect byte)
id_programs byte = either IsNoProgram (byte == 0x20) e.IdRead (e.IdentityRead (byte == 0x40)) refl refl

address_programs : (g : Parts) (t : TailFacts) (byte : ℕ) (o : Option Opening) (n : ℕ) → IsNoProgram (opening_address_effect g t byte o n)
address_programs g t byte None n = refl
address_programs g t byte (Some o) n = of o.opener
  where
    of : (c : Command) → IsNoProgram (address_effect g t byte c o.addresses n)
    of ReadStatusEnhanced = either IsNoProgram (o.addresses == 2) (cond (names_lun g (row_with t byte) n) e.SelectedForStatus e.Deselected) e.Unaffected (either IsNoProgram (names_lun g (row_with t byte) n) e.SelectedForStatus e.Deselected refl refl) refl
    of ReadId = either IsNoProgram (wants_address t byte) (of_target g n (id_effect byte)) e.Unaffected (either IsNoProgram (acts_for_target g n) (id_effect byte) e.Deselected (id_programs byte) refl) refl
    of ReadParameterPage = either IsNoProgram (wants_address t byte) (of_target g n e.ParameterPageReadStarted) e.Unaffected (either IsNoProgram (acts_for_target g n) e.ParameterPageReadStarted e.Deselected refl refl) refl
    of ReadUniqueId = either IsNoProgram (wants_address t byte) (of_target g n e.UniqueIdReadStarted) e.Unaffected (either IsNoProgram (acts_for_target g n) e.UniqueIdReadStarted e.Deselected refl refl) refl
    of GetFeatures = either IsNoProgram (wants_address t byte) (of_target g n (e.FeaturesReadStarted byte)) e.Unaffected (either IsNoProgram (acts_for_target g n) (e.FeaturesReadStarted byte) e.Deselected refl refl) refl
    of ResetLun = either IsNoProgram (o.addresses == 2) (lun_reset_effect g (names_lun g (row_with t byte) n)) e.Unaffected (either_reset IsNoProgram g (names_lun g (row_with t byte) n) refl refl refl) refl
    of PageProgram = either IsNoProgram (o.addresses == 4) (cond (names_lun g (row_with t byte) n) e.ProgramAddressed e.Unaffected) e.Unaffected (either IsNoProgram (names_lun g (row_with t byte) n) e.ProgramAddressed e.Unaffected refl refl) refl
    of c = refl

cycle_programs : (g : Parts) (t : TailFacts) (la : Latch) (k : TargetCycle) (n : ℕ) → cycle_starts k ≡ false → IsNoProgram (cycle_effect g t la k n)
cycle_programs g t la (CommandCycle c) n h = command_programs g t la c n h
cycle_programs g t la (AddressCycle byte) n h = address_programs g t byte t.opening n
cycle_programs g t la (InputCycle byte) n h = either IsNoProgram (ends_features t) (of_target g n (e.FeaturesSet (t.column % 256))) e.Unaffected (either IsNoProgram (acts_for_target g n) (e.FeaturesSet (t.column % 256)) e.Deselected refl refl) refl
cycle_programs g t la OutputCycle n h = either IsNoProgram (is_data la) e.DataOutput e.Unaffected refl refl

pub no_program : (g : Parts) (past : List Item) (c : Cycle) (l : Lun) → starts_work (Cyc c) ≡ false → is_program (effect_on g past (Cyc c) l) ≡ false
unfolding effect_among
no_program g past c l h =
    either IsNoProgram (c.ce == l.ce) (cycle_effect g (facts_of (tail past l.ce)) (latch_alone g past l) (target_cycle c.kind c.byte) l.lun) e.Unaffected
    (cycle_programs g (facts_of (tail past l.ce)) (latch_alone g past l) (target_cycle c.kind c.byte) l.lun h) refl

-- 3. all the dies

-- each number is that of a LUN of the channel
pub number_there : (state : BusView) (opened : List Entries) (dies : List Die) (past : List Item) (k : ℕ) → IsStanding state opened dies past → k < length dies → IsLun state.geometry (length state.targets) (numbered state.geometry k)
number_there state opened dies past k f low =
    let same = f.count in
    let below : k < length state.targets * state.geometry.luns = omega (arith, same, low) in
    record { target = target_there state.geometry (length state.targets) k f.limits.luns_least below; lun = lun_there state.geometry k f.limits.luns_least }

pub die_goes_on : (state : BusView) (opened : List Entries) (dies : List Die) (past : List Item) (i : Item) (k : ℕ) (old new : Die) → IsStanding state opened dies past → broken state.geometry (length state.targets) past i ≡ None → FactsFit state.geometry (length state.targets) past → slice_get dies k ≡ Some old → IsWorked (channel_on state.geometry (length state.targets) opened) past i (numbered state.geometry k) old new → IsDieOf (channel_on state.geometry (length state.targets) opened) (i ∷ past) (numbered state.geometry k) new
die_goes_on state opened dies past i k old new f h facts found worked =
    let there = number_there state opened dies past k f (slice_get_within dies k old found) in
    dies_go_on (channel_on state.geometry (length state.targets) opened) past i (numbered state.geometry k) old new h there.lun (facts.row (numbered state.geometry k) there) (f.stand k old found) worked

pub stand_idle : (state : BusView) (opened : List Entries) (dies : List Die) (past : List Item) (i : Item) → IsStanding state opened dies past → broken state.geometry (length state.targets) past i ≡ None → FactsFit state.geometry (length state.targets) past → ((k : ℕ) (d : Die) → k < length dies → IsWorked (channel_on state.geometry (length state.targets) opened) past i (numbered state.geometry k) d d) → StandFor (channel_on state.geometry (length state.targets) opened) (i ∷ past) dies
stand_idle state opened dies past i f h facts still = λ k d found. die_goes_on state opened dies past i k d d f h facts found (still k d (slice_get_within dies k d found))

pub stand_changed : (state : BusView) (opened : List Entries) (dies : List Die) (past : List Item) (i : Item) (m : ℕ) (old new : Die) → IsStanding state opened dies past → broken state.geometry (length state.targets) past i ≡ None → FactsFit state.geometry (length state.targets) past → ((k : ℕ) (d : Die) → k < length dies → k ≢ m → IsWorked (channel_on state.geometry (length state.targets) opened) past i (numbered state.geometry k) d d) → slice_get dies m ≡ Some old → IsWorked (channel_on state.geometry (length state.targets) opened) past i (numbered state.geometry m) old new → StandFor (channel_on state.geometry (length state.targets) opened) (i ∷ past) (set dies m new)
stand_changed state opened dies past i m old new f h facts still here worked = λ k d found. at k d (k == m) refl found
  where
    s : Channel
    s = channel_on state.geometry (length state.targets) opened

    at : (k : ℕ) (d : Die) (b : Bool) → (k == m) ≡ b → slice_get (set dies m new) k ≡ Some d → IsDieOf s (i ∷ past) (numbered state.geometry k) d
    at k d true q found =
        let same : k ≡ m = grind (arith, nat_tests) in
        let is : d ≡ new = set_here dies m new d (ap (slice_get (set dies m new)) (sym same) ∙ found) in
        subst (λ (n : ℕ). IsDieOf s (i ∷ past) (numbered state.geometry n) d) (sym same)
        (subst (IsDieOf s (i ∷ past) (numbered state.geometry m)) (sym is) (die_goes_on state opened dies past i m old new f h facts here worked))
    at k d false q found =
        let other : k ≢ m = grind (arith, nat_tests) in
        let was = sym (set_other dies m k new other) ∙ found in
        die_goes_on state opened dies past i k d d f h facts was (still k d (slice_get_within dies k d was) other)

-- 4. cycles

resting : (s : Channel) (past : List Item) (c : Cycle) (l : Lun) (d : Die) → works_on s.geometry past (Cyc c) l ≡ false → IsWorked s past (Cyc c) l d d
resting s past c l d h = rests_worked s.geometry (filling s.geometry (facts_of (tail past l.ce)) (Cyc c) l (held s.geometry past l)) (effect_on s.geometry past (Cyc c) l) d h (is_quiet s.geometry past c l)

-- nothing was found: no LUN of the channel is worked on
pub none_works : (state : BusView) (opened : List Entries) (dies : List Die) (past : List Item) (c : Cycle) → IsStanding state opened dies past → broken state.geometry (length state.targets) past (Cyc c) ≡ None → FactsFit state.geometry (length state.targets) past → FindsWork state.geometry past (Cyc c) c.ce 0 None → StandFor (channel_on state.geometry (length state.targets) opened) (Cyc c ∷ past) dies
none_works state opened dies past c f h facts none =
    stand_idle state opened dies past (Cyc c) f h facts (λ k d low. resting (channel_on state.geometry (length state.targets) opened) past c (numbered state.geometry k) d (false_from_ne_true _ (λ works. never (numbered state.geometry k) (number_there state opened dies past k f low) works)))
  where
    never : (l : Lun) → IsLun state.geometry (length state.targets) l → works_on state.geometry past (Cyc c) l ≡ true → ⊥
    never l there works =
        let here : lun_at c.ce l.lun ≡ l = ap (λ (ce : ℕ). lun_at ce l.lun) (works_here state.geometry past c l works) in
        clash _ works (sym (ap (works_on state.geometry past (Cyc c)) here) ∙ none l.lun (omega arith) there.lun)

-- an input resets nothing
pub input_of_one : (g : Parts) (c : Cycle) → is_input c.kind ≡ true → resets_several g (Cyc c) ≡ false
input_of_one g c h = by c.kind (is_shared g) h
  where
    by : (k : Kind) (b : Bool) → is_input k ≡ true → (b && is_reset_cycle (target_cycle k c.byte)) ≡ false
    by Din true h = refl
    by Din false h = refl
    by Cmd b h = cc
    by Adr b h = cc
    by Dout b h = cc

-- one was found: no other is worked on
pub one_works : (state : BusView) (opened : List Entries) (dies : List Die) (past : List Item) (c : Cycle) (x : Worked) (k : ℕ) (old new : Die) → IsStanding state opened dies past → broken state.geometry (length state.targets) past (Cyc c) ≡ None → FactsFit state.geometry (length state.targets) past → resets_several state.geometry (Cyc c) ≡ false → c.ce < length state.targets → FindsWork state.geometry past (Cyc c) c.ce 0 (Some x) → k ≡ number_of state.geometry (lun_at c.ce x.lun) → slice_get dies k ≡ Some old → WorkedBy old.geometry x.filling x.effect old new → StandFor (channel_on state.geometry (length state.targets) opened) (Cyc c ∷ past) (set dies k new)
one_works state opened dies past c x k old new f h facts one target found place here worked =
    stand_changed state opened dies past (Cyc c) k old new f h facts
    (λ m d low other. resting s past c (numbered g m) d (false_from_ne_true _ (λ works. other (number_apart g m k (facts.one (Cyc c) (numbered g m) (numbered g k) one (number_there state opened dies past m f low) there h works (ap (works_on g past (Cyc c)) is ∙ found.works))))))
    here
    (subst (λ (l : Lun). IsWorked s past (Cyc c) l old new) (sym is)
    (subst (λ (y : Filling). WorkedBy g y (effect_on g past (Cyc c) l) old new) found.filling_is
    (subst (λ (y : Effect). WorkedBy g x.filling y old new) found.effect_is
    (subst (λ (y : Parts). WorkedBy y x.filling x.effect old new) (f.stand k old here).geometry worked))))
  where
    g : Parts
    g = state.geometry

    s : Channel
    s = channel_on state.geometry (length state.targets) opened

    l : Lun
    l = lun_at c.ce x.lun

    is : numbered state.geometry k ≡ lun_at c.ce x.lun
    is = ap (numbered state.geometry) place ∙ numbered_number state.geometry (lun_at c.ce x.lun) found.lun

    there : IsLun state.geometry (length state.targets) (numbered state.geometry k)
    there = number_there state opened dies past k f (slice_get_within dies k old here)

-- the target of a permitted cycle is there
pub cycle_there : (g : Parts) (n : ℕ) (past : List Item) (c : Cycle) → broken g n past (Cyc c) ≡ None → c.ce < n
unfolding breaks_not_there
cycle_there g n past c h =
    let f1 : leb n c.ce ≡ false = (first_passed (breaks_not_there n (luns_of g past c.ce) (Cyc c)) NotThere _ h).0 in
    grind (arith, nat_tests)

-- the die of a LUN that is there
pub die_there : (state : BusView) (opened : List Entries) (dies : List Die) (past : List Item) (l : Lun) → IsStanding state opened dies past → l.ce < length state.targets → l.lun < state.geometry.luns → number_of state.geometry l < length dies
die_there state opened dies past l f ce lun = let low = number_below state.geometry (length state.targets) l ce lun in let same = f.count in omega (arith, low, same)

pub can_work_at : (state : BusView) (opened : List Entries) (dies : List Die) (past : List Item) (c : Cycle) (x : Worked) (k : ℕ) (d : Die) → IsStanding state opened dies past → broken state.geometry (length state.targets) past (Cyc c) ≡ None → FactsFit state.geometry (length state.targets) past → FindsWork state.geometry past (Cyc c) c.ce 0 (Some x) → k ≡ number_of state.geometry (lun_at c.ce x.lun) → slice_get dies k ≡ Some d → CanWork x.filling x.effect d
can_work_at state opened dies past c x k d f h facts found place here =
    let s = channel_on state.geometry (length state.targets) opened in
    let l = lun_at c.ce x.lun in
    let is : numbered state.geometry k ≡ l = ap (numbered state.geometry) place ∙ numbered_number state.geometry l found.lun in
    let there : IsLun state.geometry (length state.targets) l = record { target = cycle_there state.geometry (length state.targets) past c h; lun = found.lun } in
    subst (λ (y : Filling). CanWork y x.effect d) (sym found.filling_is)
    (subst (λ (y : Effect). CanWork (filling state.geometry (facts_of (tail past l.ce)) (Cyc c) l (held state.geometry past l)) y d) (sym found.effect_is)
    (can_work s past c l d h there facts (subst (λ (m : Lun). IsDieOf s past m d) is (f.stand k d here))))

-- one LUN more is looked at
pub finds_later : (g : Parts) (past : List Item) (i : Item) (ce n : ℕ) (o : Option Worked) → works_on g past i (lun_at ce n) ≡ false → FindsWork g past i ce (n + 1) o → FindsWork g past i ce n o
finds_later g past i ce n None none f = λ m least low. at m (m == n) refl least low
  where
    at : (m : ℕ) (b : Bool) → (m == n) ≡ b → n ≤ m → m < g.luns → works_on g past i (lun_at ce m) ≡ false
    at m true q least low = let same : m ≡ n = grind (arith, nat_tests) in ap (λ (k : ℕ). works_on g past i (lun_at ce k)) same ∙ none
    at m false q least low = let later : n + 1 ≤ m = grind (arith, nat_tests) in f m later low
finds_later g past i ce n (Some x) none f = f

-- 5. readies

ready_at : (g : Parts) (past : List Item) (l : Lun) (fail : Failures) → effect_on g past (Rdy l.ce l.lun fail) l ≡ e.BecameReady fail
unfolding effect_among
ready_at g past l fail = at (l.ce == l.ce) (l.lun == l.lun) (eq-eqb l.ce l.ce refl) (eq-eqb l.lun l.lun refl)
  where
    at : (a b : Bool) → a ≡ true → b ≡ true → cond (a && b) (e.BecameReady fail) e.Unaffected ≡ e.BecameReady fail
    at true true h k = refl
    at true false h k = cc
    at false b h k = cc

array_ready_at : (g : Parts) (past : List Item) (l : Lun) (fail : Bool) → effect_on g past (Ard l.ce l.lun fail) l ≡ e.ArrayBecameReady fail
unfolding effect_among
array_ready_at g past l fail = at (l.ce == l.ce) (l.lun == l.lun) (eq-eqb l.ce l.ce refl) (eq-eqb l.lun l.lun refl)
  where
    at : (a b : Bool) → a ≡ true → b ≡ true → cond (a && b) (e.ArrayBecameReady fail) e.Unaffected ≡ e.ArrayBecameReady fail
    at true true h k = refl
    at true false h k = cc
    at false b h k = cc

elsewhere : (l m : Lun) (x : Effect) → m ≢ l → cond (l.ce == m.ce && l.lun == m.lun) x e.Unaffected ≡ e.Unaffected
elsewhere l m x ne = at (l.ce == m.ce) refl (l.lun == m.lun) refl
  where
    at : (a : Bool) → (l.ce == m.ce) ≡ a → (b : Bool) → (l.lun == m.lun) ≡ b → cond (a && b) x e.Unaffected ≡ e.Unaffected
    at true q true d =
        let ce : m.ce ≡ l.ce = grind (arith, nat_tests) in
        let lun : m.lun ≡ l.lun = grind (arith, nat_tests) in
        absurd (ne (ap (λ (c : ℕ). record { ce = c; lun = m.lun }) ce ∙ ap (λ (n : ℕ). record { ce = l.ce; lun = n }) lun))
    at true q false d = refl
    at false q b d = refl

ready_elsewhere : (g : Parts) (past : List Item) (l m : Lun) (fail : Failures) → m ≢ l → effect_on g past (Rdy l.ce l.lun fail) m ≡ e.Unaffected
unfolding effect_among
ready_elsewhere g past l m fail ne = elsewhere l m (e.BecameReady fail) ne

array_ready_elsewhere : (g : Parts) (past : List Item) (l m : Lun) (fail : Bool) → m ≢ l → effect_on g past (Ard l.ce l.lun fail) m ≡ e.Unaffected
unfolding effect_among
array_ready_elsewhere g past l m fail ne = elsewhere l m (e.ArrayBecameReady fail) ne

-- a LUN that may become ready is there
lun_there_by : (g : Parts) (past : List Item) (l : Lun) (test : LunView → Bool) → lun_is test (luns_of g past l.ce) l.lun ≡ true → l.lun < g.luns
lun_there_by g past l test h = at (ltb l.lun g.luns) refl
  where
    at : (b : Bool) → ltb l.lun g.luns ≡ b → l.lun < g.luns
    at true q = grind (arith, nat_tests)
    at false q =
        let beyond : length (luns_of g past l.ce) ≤ l.lun = grind (arith, nat_tests, views_length g past l.ce g.luns 0) in
        let none : false ≡ true = sym (ap (is_some_and test) (slice_get_past (luns_of g past l.ce) l.lun beyond)) ∙ h in
        cc

pub ready_there : (g : Parts) (n : ℕ) (past : List Item) (l : Lun) (fail : Failures) → broken g n past (Rdy l.ce l.lun fail) ≡ None → IsLun g n l
unfolding breaks_not_there
ready_there g n past l fail h =
    let f1 : breaks_not_there n (luns_of g past l.ce) (Rdy l.ce l.lun fail) ≡ false = (first_passed (breaks_not_there n (luns_of g past l.ce) (Rdy l.ce l.lun fail)) NotThere None h).0 in
    let parts = neither (leb n l.ce) _ f1 in
    let below : leb n l.ce ≡ false = parts.0 in
    record { target = grind (arith, nat_tests); lun = lun_there_by g past l (λ v. v.busy) (not-false _ parts.1) }

pub array_ready_there : (g : Parts) (n : ℕ) (past : List Item) (l : Lun) (fail : Bool) → broken g n past (Ard l.ce l.lun fail) ≡ None → IsLun g n l
unfolding breaks_not_there
array_ready_there g n past l fail h =
    let f1 : breaks_not_there n (luns_of g past l.ce) (Ard l.ce l.lun fail) ≡ false = (first_passed (breaks_not_there n (luns_of g past l.ce) (Ard l.ce l.lun fail)) NotThere None h).0 in
    let parts = neither (leb n l.ce) _ f1 in
    let below : leb n l.ce ≡ false = parts.0 in
    record { target = grind (arith, nat_tests); lun = lun_there_by g past l (λ v. v.array_busy) (not-false _ parts.1) }

pub stands_ready : (state : BusView) (opened : List Entries) (dies : List Die) (past : List Item) (l : Lun) (fail : Failures) (k : ℕ) (old new : Die) → IsStanding state opened dies past → broken state.geometry (length state.targets) past (Rdy l.ce l.lun fail) ≡ None → FactsFit state.geometry (length state.targets) past → k ≡ number_of state.geometry l → slice_get dies k ≡ Some old → IsAfter (e.BecameReady fail) old new → StandFor (channel_on state.geometry (length state.targets) opened) (Rdy l.ce l.lun fail ∷ past) (set dies k new)
stands_ready state opened dies past l fail k old new f h facts place here b =
    let g = state.geometry in
    let is : numbered g k ≡ l = ap (numbered g) place ∙ numbered_number g l (ready_there g (length state.targets) past l fail h).lun in
    stand_changed state opened dies past (Rdy l.ce l.lun fail) k old new f h facts
    (λ m d low other. subst (λ (x : Effect). IsAfter x d d) (sym (ready_elsewhere g past l (numbered g m) fail (λ q. other (number_apart g m k (q ∙ sym is))))) (rests e.Unaffected d refl refl))
    here
    (subst (λ (x : Effect). IsAfter x old new) (sym (ap (effect_on g past (Rdy l.ce l.lun fail)) is ∙ ready_at g past l fail)) b)

pub stands_array_ready : (state : BusView) (opened : List Entries) (dies : List Die) (past : List Item) (l : Lun) (fail : Bool) (k : ℕ) (old new : Die) → IsStanding state opened dies past → broken state.geometry (length state.targets) past (Ard l.ce l.lun fail) ≡ None → FactsFit state.geometry (length state.targets) past → k ≡ number_of state.geometry l → slice_get dies k ≡ Some old → IsAfter (e.ArrayBecameReady fail) old new → StandFor (channel_on state.geometry (length state.targets) opened) (Ard l.ce l.lun fail ∷ past) (set dies k new)
stands_array_ready state opened dies past l fail k old new f h facts place here b =
    let g = state.geometry in
    let is : numbered g k ≡ l = ap (numbered g) place ∙ numbered_number g l (array_ready_there g (length state.targets) past l fail h).lun in
    stand_changed state opened dies past (Ard l.ce l.lun fail) k old new f h facts
    (λ m d low other. subst (λ (x : Effect). IsAfter x d d) (sym (array_ready_elsewhere g past l (numbered g m) fail (λ q. other (number_apart g m k (q ∙ sym is))))) (rests e.Unaffected d refl refl))
    here
    (subst (λ (x : Effect). IsAfter x old new) (sym (ap (effect_on g past (Ard l.ce l.lun fail)) is ∙ array_ready_at g past l fail)) b)

pub on_ok : {T E : Type 0} (r : Result T E) (P Q : T → Type 0) → IfOk r P → ((x : T) → P x → Q x) → IfOk r Q
on_ok (Ok x) P Q h f = f x h
on_ok (Err e) P Q h f = tt

pub not_some : {X : Type 0} (o : Option X) → is_some o ≡ false → o ≡ None
not_some None h = refl
not_some (Some x) h = cc

-- 6. the state goes on with them

pub same_channel : (state next : BusView) (opened : List Entries) (past : List Item) → Follows state.geometry (length state.targets) next past → channel_on next.geometry (length next.targets) opened ≡ channel_on state.geometry (length state.targets) opened
same_channel state next opened past f =
    ap (λ (g : Parts). channel_on g (length next.targets) opened) f.geometry ∙ ap (λ (n : ℕ). channel_on state.geometry n opened) (count_of state.geometry (length state.targets) next past f)

pub stands_on : (state next : BusView) (opened : List Entries) (dies after : List Die) (past : List Item) (i : Item) → IsStanding state opened dies past → Follows state.geometry (length state.targets) next (i ∷ past) → length after ≡ length dies → StandFor (channel_on state.geometry (length state.targets) opened) (i ∷ past) after → IsStanding next opened after (i ∷ past)
stands_on state next opened dies after past i f follows same stand =
    let eg : state.geometry ≡ next.geometry = sym follows.geometry in
    let en : length state.targets ≡ length next.targets = sym (count_of state.geometry (length state.targets) next (i ∷ past) follows) in
    record {
      follows = subst (λ (g : Parts). Follows g (length next.targets) next (i ∷ past)) eg (subst (λ (n : ℕ). Follows state.geometry n next (i ∷ past)) en follows);
      limits = subst InLimits eg f.limits;
      least = subst (λ (n : ℕ). 1 ≤ n) en f.least;
      most = subst (λ (n : ℕ). n ≤ 4) en f.most;
      count = same ∙ (f.count ∙ (ap (λ (n : ℕ). n * state.geometry.luns) en ∙ ap (λ (g : Parts). length next.targets * g.luns) eg));
      lengths = λ l p. subst (λ (g : Parts). length (opened_page g opened l p) ≡ page_len g) eg (f.lengths l p);
      stand = subst (λ (c : Channel). StandFor c (i ∷ past) after) (sym (same_channel state next opened (i ∷ past) follows)) stand;
    }

-- the trace is kept in the order of time
pub reversed : (items more : List Item) (i : Item) → more ≡ items ++ (i ∷ []) → i ∷ reverse items ≡ reverse more
reversed items more i is = sym (ap reverse is ∙ reverse-append items (i ∷ []))

pub runs_on : (state next : BusView) (opened : List Entries) (dies after : List Die) (items more : List Item) (i : Item) (len capacity room due : ℕ) → IsStanding state opened dies (reverse items) → Follows state.geometry (length state.targets) next (i ∷ reverse items) → length after ≡ length dies → StandFor (channel_on state.geometry (length state.targets) opened) (i ∷ reverse items) after → more ≡ items ++ (i ∷ []) → bus_due next ≤ due → len + room + due ≤ capacity → IsRunning next opened after more len capacity room due
runs_on state next opened dies after items more i len capacity room due f follows same stand is readies places =
    record { standing = subst (IsStanding next opened after) (reversed items more i is) (stands_on state next opened dies after (reverse items) i f follows same stand); readies = readies; places = places }

abbrev pub traced : BusView → List Entries → List Item → ℕ → Traced
traced state opened items room = record { geometry = state.geometry; targets = length state.targets; opened = opened; past = reverse items; room = room }

-- what has happened is one item more
pub is_next : (state next : BusView) (opened : List Entries) (items more : List Item) (i : Item) (room left : ℕ) → Follows state.geometry (length state.targets) next (i ∷ reverse items) → more ≡ items ++ (i ∷ []) → room ≤ left + spent i → IsNext (traced state opened items room) (traced next opened more left) i
is_next state next opened items more i room left f is enough =
    record { channel = same_channel state next opened (i ∷ reverse items) f; past = sym (reversed items more i is); room = enough }

-- what was looked up in a standing state
pub found_in : (state : BusView) (opened : List Entries) (dies : List Die) (past : List Item) (c : Cycle) (luns : ℕ) (o p : Option Worked) → IsStanding state opened dies past → broken state.geometry (length state.targets) past (Cyc c) ≡ None → luns ≡ state.geometry.luns → ((g : Parts) (targets : ℕ) (past : List Item) → Follows g targets state past → c.ce < targets → g.luns ≡ luns → FindsWork g past (Cyc c) c.ce 0 o) → o ≡ p → FindsWork state.geometry past (Cyc c) c.ce 0 p
found_in state opened dies past c luns o p f h same found is =
    subst (FindsWork state.geometry past (Cyc c) c.ce 0) is
    (found state.geometry (length state.targets) past f.follows (cycle_there state.geometry (length state.targets) past c h) (sym same))

pub worked_there : (state : BusView) (opened : List Entries) (dies : List Die) (past : List Item) (c : Cycle) (x : Worked) (k : ℕ) → IsStanding state opened dies past → broken state.geometry (length state.targets) past (Cyc c) ≡ None → FindsWork state.geometry past (Cyc c) c.ce 0 (Some x) → k ≡ number_of state.geometry (lun_at c.ce x.lun) → k < length dies
worked_there state opened dies past c x k f h found place =
    subst (λ (n : ℕ). n < length dies) (sym place) (die_there state opened dies past (lun_at c.ce x.lun) f (cycle_there state.geometry (length state.targets) past c h) found.lun)

pub rests_by : (g : Parts) (past : List Item) (i : Item) (l : Lun) (x : Filling) (y : Effect) → x ≡ filling g (facts_of (tail past l.ce)) i l (held g past l) → y ≡ effect_on g past i l → fills x ≡ false → begins y ≡ false → works_on g past i l ≡ false
rests_by g past i l x y ex ey a b = rw (sym (ap fills ex) ∙ a, sym (ap begins ey) ∙ b) refl

pub no_program_at : (g : Parts) (past : List Item) (c : Cycle) (x : Worked) → FindsWork g past (Cyc c) c.ce 0 (Some x) → starts_work (Cyc c) ≡ false → is_program x.effect ≡ false
no_program_at g past c x found idle = ap is_program found.effect_is ∙ no_program g past c (lun_at c.ce x.lun) idle

-- answers that are errors, or not
pub err_gives : {T E : Type 0} (r : Result T E) (P : Type 0) → OnErr r P → is_err r ≡ true → P
err_gives (Ok x) P h q = cc
err_gives (Err x) P h q = h

pub ok_gives : {T E : Type 0} (r : Result T E) (P : Type 0) → IfOk r (λ x. P) → is_err r ≡ false → P
ok_gives (Ok x) P h q = h
ok_gives (Err x) P h q = cc

pub ok_clash : {T E : Type 0} (r : Result T E) → IsOk r → is_err r ≡ true → ⊥
ok_clash (Ok x) h q = cc
ok_clash (Err x) h q = let no : false ≡ true = h in cc

pub few_dies : (state : BusView) (opened : List Entries) (dies : List Die) (past : List Item) → IsStanding state opened dies past → length dies ≤ 16
few_dies state opened dies past f =
    let most = mul-le-mul_right state.geometry.luns f.most in
    let luns = f.limits.luns_most in
    let same = f.count in
    omega (arith, most, luns, same)

-- the dies as they are lent are those that stand
pub few_lent : (state : BusView) (opened : List Entries) (dies lent : List Die) (past : List Item) → IsStanding state opened dies past → lent ≡ dies → length lent ≤ 16
few_lent state opened dies lent past f same = let few = few_dies state opened dies past f in omega (arith, few, ap length same)

pub permits_lent : (state : BusView) (opened : List Entries) (dies lent : List Die) (past : List Item) (i : Item) → IsStanding state opened dies past → lent ≡ dies → broken state.geometry (length state.targets) past i ≡ None → Permits state lent i
permits_lent state opened dies lent past i f same h = record { opened = opened; past = past; standing = subst (λ (ds : List Die). IsStanding state opened ds past) (sym same) f; permitted = h }

pub enough_due : (b : Bool) (works due later : ℕ) → works ≡ cond b 1 0 → later ≤ due + 16 → (b ≡ false → later ≤ due) → later ≤ due + 16 * works
enough_due true works due later is most idle = omega (arith, is, most)
enough_due false works due later is most idle = let less = idle refl in omega (arith, is, less)

-- an output works on no LUN
output_rests : (g : Parts) (past : List Item) (ce byte : ℕ) (l : Lun) → works_on g past (cycle ce Dout byte) l ≡ false
unfolding effect_among
output_rests g past ce byte l = at (ce == l.ce) (is_data (latch_alone g past l))
  where
    at : (a b : Bool) → (fills (cond a Leaves Leaves) || begins (cond a (cond b e.DataOutput e.Unaffected) e.Unaffected)) ≡ false
    at true true = refl
    at true false = refl
    at false b = refl

pub stands_output : (state : BusView) (opened : List Entries) (dies : List Die) (past : List Item) (ce byte : ℕ) → IsStanding state opened dies past → broken state.geometry (length state.targets) past (cycle ce Dout byte) ≡ None → FactsFit state.geometry (length state.targets) past → StandFor (channel_on state.geometry (length state.targets) opened) (cycle ce Dout byte ∷ past) dies
stands_output state opened dies past ce byte f h facts =
    none_works state opened dies past (record { ce = ce; kind = Dout; byte = byte }) f h facts (λ m least low. output_rests state.geometry past ce byte (lun_at ce m))
