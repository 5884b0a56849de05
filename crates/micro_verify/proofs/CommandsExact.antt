-- Commands are exact: what each stops at, and what it leaves.
use Rattle.std.proofs.lemmas.Bool.Decides.{nat_tests}
use Rattle.std.proofs.lemmas.Nat.{mod_below}
use Rattle.std.proofs.Math.Nat.{div-add-mod, mul-add-div_right}
use Rattle.std.proofs.Common.{◌≡◌, ℕ, zero, suc, ◌+◌, ◌-◌, ◌*◌, ◌/◌, ◌%◌, ◌≤◌, ◌<◌, ◌==◌, Bool, true, false, ◌&&◌, ◌||◌, cond, not, ltb, nat_le, List, [], ◌∷◌, Option, Some, None, refl, sym, ap, ◌∙◌, subst, arith, eqb-true, take}
use Rattle.std.proofs.lemmas.Bool.{not-true, and_parts, or_parts}
use Rattle.nand_geometry.specs.declared.parts.Parts.{Parts}
use Rattle.nand_geometry.specs.Optional.{is_wide, has_features, has_unique_id, has_enhanced_column, has_lun_reset, has_plane_reads, has_copyback, has_program_cache, has_synchronous_reset, has_all}
use Rattle.nand_geometry.specs.declared.row_parts.RowParts.{RowParts}
use Rattle.nand_geometry.specs.Limits.{planes}
use Rattle.nand_geometry.specs.Row.{parts_of, row_of}
use Rattle.onfi_cycle.specs.declared.command.Command.{Command}
use Rattle.onfi_cycle.specs.declared.command.Command.TheVariants.{Read, ReadConfirm, ReadPlane, ChangeReadColumn, ChangeReadColumnEnhanced, ChangeReadColumnConfirm, BlockErase, BlockEraseConfirm, BlockErasePlane, ReadStatus as StatusCommand, ReadStatusEnhanced, PageProgram, ChangeWriteColumn, ProgramConfirm, ProgramPlane, ReadId, ReadParameterPage, Reset, ReadCacheSequential, ReadCacheEnd, Unknown as UnknownCommand, ReadUniqueId, GetFeatures, SetFeatures, ResetLun, SynchronousReset, CopybackRead, ProgramCache}
use Rattle.onfi_cycle.specs.declared.data_phase.DataPhase.TheVariants.{Outside, Inputs}
use Rattle.onfi_cycle.specs.declared.effect.Effect.{Effect}
use Rattle.onfi_cycle.specs.declared.effect.Effect.TheVariants.{EraseStarted, ProgramStarted, ReadStarted, ReadColumnChanged, CacheReadContinued, CacheReadEnded, Unaffected}
use Rattle.onfi_cycle.specs.declared.forbidden.Forbidden.{Forbidden}
use Rattle.onfi_cycle.specs.declared.item.Kind.TheVariants.{Cmd}
use Rattle.onfi_cycle.specs.declared.latch.Latch.{Latch}
use Rattle.onfi_cycle.specs.declared.latch.Latch.TheVariants.{Off, Status, Data}
use Rattle.onfi_cycle.specs.declared.page_address.PageAddress.{PageAddress}
use Rattle.onfi_cycle.specs.declared.register.Register.{Register}
use Rattle.onfi_cycle.specs.declared.register.Register.TheVariants.{Empty, Page, ParameterPage, UniqueId}
use Rattle.onfi_cycle.specs.declared.row_bytes.RowBytes.{RowBytes}
use Rattle.onfi_cycle.specs.declared.tail_facts.TailFacts.{TailFacts}
use Rattle.onfi_cycle.specs.declared.target_cycle.TargetCycle.TheVariants.{CommandCycle}
use Rattle.onfi_cycle.specs.LunView.{LunView}
use Rattle.onfi_cycle.specs.Base.{is_of_base}
use Rattle.onfi_cycle.specs.Command.{command, closes, address_cycles, takes_address, is_known, is_opener, wants_one_lun}
use Rattle.onfi_cycle.specs.Sequence.{facts_after, is_proper_beginning, selects_plane, wants_command, wants_column, takes_data, takes_inputs, opened, row, input_column}
use Rattle.onfi_cycle.specs.Effect.{names_lun, cycle_effect, page_address, is_off, is_data}
use Rattle.onfi_cycle.specs.Lun.{view_after, resumed, column_at, has_reads}
use Rattle.onfi_cycle.specs.Rules.{breaks_command_unknown, is_undeclared, may_change_column, is_page_or_parameters}
use Rattle.onfi_cycle.specs.Channel.{Channel}
use Rattle.micro_word.specs.declared.word.Word.TheVariants.{Command as CommandWord}
use Rattle.micro_word.specs.Text.{Microprogram}
use Rattle.micro_claims.specs.declared.refusal.Reason.{Reason}
use Rattle.micro_claims.specs.declared.refusal.Reason.TheVariants.{CycleForbidden, RowOrPlaneOutside, OverBudget, CommandNotAllowed}
use Rattle.micro_program.specs.Program.{Job, index_now}
use Rattle.micro_program.specs.Moves.{Give}
use Rattle.micro_program.proofs.Scenes.{closed_unwanted}
use Rattle.micro_claims.specs.declared.state.State.{State}
use Rattle.micro_claims.specs.declared.registers.Registers.{Registers}
use Rattle.micro_claims.specs.declared.known_target.KnownTarget.{KnownTarget}
use Rattle.micro_claims.specs.declared.named_row.NamedRow.{NamedRow}
use Rattle.micro_claims.specs.declared.shown.Shown.{Shown}
use Rattle.micro_claims.specs.Spans.{Span}
use Rattle.micro_claims.specs.declared.place.Place.{Place}
use Rattle.micro_claims.specs.declared.place.Place.TheVariants.{Closed, After, InData, InColumn, InFeatures, Unknown}
use Rattle.micro_claims.specs.State.{bounds_of, closed, any_but_31, may_be_30, may_be_31, may_be_other}
use Rattle.micro_claims.specs.Spans.{greatest_bound, kept, bound_plus, is_at_most}
use Rattle.micro_claims.specs.Against.{place_wants, selects_plane_at, closer_refused, same_test, is_of_profile, is_unfit, is_data_command, may_be_open, opener_refused, shows_only_data, has_page_or_parameters, has_register, drives, asks_status, command_out_of_place, command_past_rows, command_not_for_programs, continues_unseen, goes_on_at}
use Rattle.micro_claims.specs.Leaves.{paid, with_registers, resumed_shows, shows_after_read, data_shown, given_at, may_be_reads, page_register, named_plane, cached_at, cache_read, next_cached, command_leaves, queued_more, queued_planes, goes_along, same_drift, rows_at, with_target}
use Rattle.micro_claims.specs.Planes.{no_planes, either_plane}
use Rattle.micro_claims.specs.declared.planes.Planes.{Planes}
use Rattle.micro_claims.specs.declared.drift.Drift.{Drift}
use Rattle.micro_claims.specs.declared.queued_rows.QueuedRows.{QueuedRows}
use Rattle.micro_claims.specs.declared.queued_rows.QueuedRows.TheVariants.{NoRows, SomeRows, SomeReads, AnyRows}
use Rattle.onfi_cycle.specs.declared.queued.Queued.{Queued}
use Rattle.onfi_cycle.specs.declared.queued.Queued.TheVariants.{Erase, Program, Read as QueuedRead}
use Rattle.micro_claims.specs.Reasons.{reason_against, breaks_cycle_forbidden, breaks_address_unaligned, breaks_handover_in_sequence, breaks_buffer_passed, breaks_row_or_plane_outside, breaks_column_too_large, breaks_no_status, breaks_ends_too_soon, breaks_command_not_allowed}
use Rattle.micro_claims.specs.Accepts.{state_after}
use Rattle.micro_verify.specs.Lazy.{lone_job, Run}
use Rattle.micro_verify.specs.Cause.{Cause, WordStops, is_of_cycle_forbidden, index_of, next_page_outside}
use Rattle.micro_claims.proofs.Fits.{Address, is_place, bytes_of, opener_facts, facts_behind, RowIs, Now, now_of, has_row, has_column, InProgram, ColumnBegun, is_of_kind, page_of, closer_among}
use Rattle.micro_claims.proofs.Tails.{no_address, closed_by, only_read, only_erase, only_erase_plane, only_column}
use Rattle.micro_claims.proofs.Sounding.{NoReasons, no_reasons}
use Rattle.micro_claims.proofs.Commands.{same_either, out_of_place, wanted, row_names, column_leaves, changes_leaves}
use Rattle.micro_claims.proofs.HeldPlanes.{one_page}
use Rattle.micro_claims.proofs.MoreCommands.{declared, opener_free}
use Rattle.micro_verify.proofs.Lone.{Lone, IsAlone, IsLone, lone_behind, judged, stops_there, based}
use Rattle.micro_verify.proofs.Mirrors.{Mirrors, RegistersMirror, TailMirror, LunMirror, PlaceMirror, Shut, shows_of, held_of, is_modelled, place_queues, place_erases, row_goes_along, BoundIs, NameIs, ColumnMirror, exact_test, is_read_column, kept_plus, drift_from, RowsMirror, QueueMirror, RowMirror, AllMirror, open_same}
use Rattle.micro_verify.proofs.Told.{told_command, barred, wants_by, closes_none, selects_none}
use Rattle.micro_verify.proofs.Causes.{Goes, ExactWord, IsFit, reason_holds, reason_is, cost_cause, lowest_row_or_plane_outside}
use Rattle.micro_verify.proofs.WordsExact.{goes_by, registers_exact, shut_tail, told_breaks, told_none}
use Rattle.micro_claims.proofs.Programs.{queued_programs}

-- 1. causes

-- what a command stops at
command_stops : (s : Channel) (text : Microprogram) (r : Run) (c : Lone) (byte : ℕ) → IsAlone s → IsLone s r.past c → (rule : Forbidden) × ((judged s.geometry c (CommandCycle (command byte)) ≡ Some rule) × (is_of_cycle_forbidden rule ≡ true)) → WordStops s (lone_job s.geometry text) r (CommandWord byte) is_of_cycle_forbidden
command_stops s text r c byte k is h =
    record { moved = Give Cmd byte ∷ []; is_moved = refl; stops = stops_there s [] (Give Cmd byte) [] r.past c is_of_cycle_forbidden k is tt h.0 h.1.0 h.1.1 }

fit_or_none : (b x : Bool) → cond b false x ≡ true → b ≡ false
fit_or_none true x h = cc
fit_or_none false x h = refl

-- among the words of the text that a program may not use
for_programs : (x d k a w n : Bool) → ((x || d) || a || w || n) ≡ true → n ≡ false → (a || x || (k || d) || w) ≡ true
for_programs x d k true w n h e = refl
for_programs true d k false w n h e = refl
for_programs false true true false w n h e = refl
for_programs false true false false w n h e = refl
for_programs false false true false w n h e = refl
for_programs false false false false true n h e = refl
for_programs false false false false false n h e = let both : true ≡ false = sym h ∙ e in cc

next_outside : (rows n : ℕ) → not (nat_le (n + 2) rows) ≡ true → nat_le rows (n + 1) ≡ true
next_outside rows n h = grind (arith, nat_tests, h)

past_rows : (s : Channel) (text : Microprogram) (v : State) (r : Run) (c : Lone) → text.rows ≤ greatest_bound → IsLone s r.past c → LunMirror s.geometry v.lun (index_now 0 r.done) c.view → (d : Command) → command_past_rows s.geometry text.rows v d ≡ true → command_out_of_place s.geometry v d ≡ false → next_page_outside s.geometry text.rows r d ≡ true
past_rows s text v r c low is m ReadCacheSequential h out =
    let g = s.geometry in
    let both = and_parts (not (is_unfit g ReadCacheSequential)) (not (place_wants ReadCacheSequential v.target.tail) && not (is_at_most (bound_plus v.lun.cached.index.hi 2) text.rows)) h in
    let last = and_parts (not (place_wants ReadCacheSequential v.target.tail)) (not (is_at_most (bound_plus v.lun.cached.index.hi 2) text.rows)) both.1 in
    let fit = not-true (is_unfit g ReadCacheSequential) both.0 in
    let free : (may_be_open v || opener_refused g v ReadCacheSequential) ≡ false =
    sym
    (λ i. cond (fit i) false (cond (last.0 i) (may_be_open v || opener_refused g v ReadCacheSequential) (not (place_wants ReadCacheSequential v.target.tail) || closer_refused g v ReadCacheSequential)))
    ∙ out in
    let all = or_parts (may_be_open v) (opener_refused g v ReadCacheSequential) free in
    let three = or_parts (not (drives v.target.shows) || v.lun.busy || may_be_other v.lun.last) _ all.1 in
    let other = (or_parts (not (drives v.target.shows) || v.lun.busy) (may_be_other v.lun.last) three.0).1 in
    let exact : not (is_at_most (bound_plus v.lun.cached.index.hi 2) text.rows) ≡ not (nat_le (index_of g c.view.array_page + 2) text.rows) =
    ap (λ (o : Option ℕ). not (is_at_most (bound_plus o 2) text.rows)) (m.cached_index other) ∙ ap not (exact_test (index_of g c.view.array_page) 2 text.rows low) in
    ap (λ (w : LunView). nat_le text.rows (index_of g w.array_page + 1)) is.view ∙ next_outside text.rows (index_of g c.view.array_page) (sym exact ∙ last.1)
past_rows s text v r c low is m _ h out = cc

-- the commands of the base profile
profile_is : (g : Parts) (d : Command) → is_wide g.optional ≡ false → is_of_profile g d ≡ is_of_base d
profile_is g d base = ap (λ (w : Bool). is_of_base d || (is_known d && w)) base ∙ none (is_of_base d) (is_known d)
  where
    none : (a b : Bool) → (a || (b && false)) ≡ a
    none true b = refl
    none false true = refl
    none false false = refl

pub command_cause : (s : Channel) (text : Microprogram) (v : State) (r : Run) (c : Lone) (byte : ℕ) → IsFit s text → IsLone s r.past c → Mirrors s.geometry (lone_job s.geometry text) v r.done c → continues_unseen (bounds_of text) (command byte) ≡ false → (reason : Reason) → reason_against s.geometry (bounds_of text) v (CommandWord byte) ≡ Some reason → Cause s (lone_job s.geometry text) r (CommandWord byte) reason
unfolding breaks_cycle_forbidden breaks_address_unaligned breaks_handover_in_sequence breaks_buffer_passed breaks_row_or_plane_outside breaks_column_too_large breaks_no_status breaks_ends_too_soon breaks_command_not_allowed breaks_command_unknown
command_cause s text v r c byte k is m seen reason e = by reason (reason_is s.geometry text v (CommandWord byte) reason e) e
  where
    g : Parts
    g = s.geometry

    by : (reason : Reason) → reason_holds g text v (CommandWord byte) reason ≡ true → reason_against g (bounds_of text) v (CommandWord byte) ≡ Some reason → Cause s (lone_job g text) r (CommandWord byte) reason
    by CycleForbidden h e = λ bytes. command_stops s text r c byte k.alone is (told_breaks _ _ (told_command g (lone_job g text) v r.done c (command byte) k.one k.base k.pages m (fit_or_none (is_unfit g (command byte)) _ h)) h)
    by RowOrPlaneOutside h e = past_rows s text v r c k.rows is m.lun (command byte) h (lowest_row_or_plane_outside g text v (CommandWord byte) e)
    by OverBudget h e = cost_cause g v r (CommandWord byte) text.budget k.budget m.registers h
    by CommandNotAllowed h e =
        for_programs (not (is_of_base (command byte))) (is_undeclared g (command byte)) (not (is_known (command byte))) (asks_status (command byte)) (wants_one_lun (command byte) && ltb 1 g.luns) (continues_unseen (bounds_of text) (command byte))
        (sym (λ i. (not (profile_is g (command byte) k.base i) || is_undeclared g (command byte) || asks_status (command byte) || (wants_one_lun (command byte) && ltb 1 g.luns)) || continues_unseen (bounds_of text) (command byte)) ∙ h) seen
    by _ h e = cc

-- 2. what serves all that go

-- a command goes where nothing is against it, and what it leaves is mirrored
pub command_goes : (s : Channel) (text : Microprogram) (v : State) (r : Run) (c : Lone) (byte : ℕ) (d : Command) → IsFit s text → command byte ≡ d → is_unfit s.geometry d ≡ false → IsLone s r.past c → Mirrors s.geometry (lone_job s.geometry text) v r.done c → NoReasons s.geometry text v (CommandWord byte) → (command_leaves s.geometry v d).registers ≡ v.registers → TailMirror s.geometry (lone_job s.geometry text) (command_leaves s.geometry v d).target (now_of (lone_job s.geometry text) r.done) (lone_behind s.geometry (CommandCycle d) c) → (command_leaves s.geometry v d).target.shows ≡ shows_of (lone_behind s.geometry (CommandCycle d) c).view.latch → LunMirror s.geometry (command_leaves s.geometry v d).lun (index_now 0 r.done) (lone_behind s.geometry (CommandCycle d) c).view → (place_queues (command_leaves s.geometry v d).target.tail ≡ true → row_goes_along (place_erases (command_leaves s.geometry v d).target.tail) (command_leaves s.geometry v d).target.named (command_leaves s.geometry v d).lun.queue ≡ true) → Goes s text (state_after s.geometry v (CommandWord byte)) r (CommandWord byte)
unfolding state_after
command_goes s text v r c byte d k is_d fit is m clear same tail shows lun along =
    goes_by s text (state_after g v (CommandWord byte)) r (CommandWord byte) (Give Cmd byte ∷ []) r.past c k.alone refl refl is
    (ap (λ (x : Command). judged g c (CommandCycle x)) is_d ∙ told_none (command_out_of_place g v d) _ (told_command g j v r.done c d k.one k.base k.pages m fit) (out_of_place g text v byte d is_d clear), tt)
    (λ answer. subst (λ (x : Command). Mirrors g j (with_registers (command_leaves g v x) (paid 1 (command_leaves g v x).registers)) (record { word = CommandWord byte; answer = answer } ∷ r.done) (lone_behind g (CommandCycle x) c)) (sym is_d)
    (record {
      registers = subst (λ (x : Registers). RegistersMirror g (paid 1 x) (record { word = CommandWord byte; answer = answer } ∷ r.done)) (sym same) (registers_exact g v.registers v.registers.polled r.done (CommandWord byte) answer (record { column = λ n. refl; plane = λ n. refl; index = λ b n. refl }) (λ n. refl) m.registers);
      tail = tail;
      shows = shows;
      lun = lun;
      along = along;
    }))
  where
    g : Parts
    g = s.geometry

    j : Job
    j = lone_job s.geometry text

-- 3. openers

pub goes_60 : (s : Channel) (text : Microprogram) (v : State) (r : Run) (c : Lone) (byte : ℕ) → IsFit s text → command byte ≡ BlockErase → IsLone s r.past c → Mirrors s.geometry (lone_job s.geometry text) v r.done c → NoReasons s.geometry text v (CommandWord byte) → Goes s text (state_after s.geometry v (CommandWord byte)) r (CommandWord byte)
goes_60 s text v r c byte k is_d is m clear =
    let g = s.geometry in
    let effect : cycle_effect (based g) c.facts c.view.latch (CommandCycle BlockErase) 0 ≡ Unaffected = same_either (wants_command c.facts BlockErase && names_lun g (row c.facts) 0) in
    command_goes s text v r c byte BlockErase k is_d refl is m clear refl
    (record { place = After BlockErase 0; single = refl; address = no_address; is = record { place = refl; facts = refl }; now = λ e. cc; column = λ e. cc; row = λ e. cc; named = λ e. cc; base = refl; changes = λ e. cc })
    (m.shows ∙ ap (λ (e : Effect). shows_of (view_after e c.view).latch) (sym effect))
    (subst (λ (e : Effect). LunMirror g v.lun (index_now 0 r.done) (view_after e c.view)) (sym effect) m.lun)
    (λ e. cc)

pub goes_80 : (s : Channel) (text : Microprogram) (v : State) (r : Run) (c : Lone) (byte : ℕ) → IsFit s text → command byte ≡ PageProgram → IsLone s r.past c → Mirrors s.geometry (lone_job s.geometry text) v r.done c → NoReasons s.geometry text v (CommandWord byte) → Goes s text (state_after s.geometry v (CommandWord byte)) r (CommandWord byte)
goes_80 s text v r c byte k is_d is m clear =
    let g = s.geometry in
    let effect : cycle_effect (based g) c.facts c.view.latch (CommandCycle PageProgram) 0 ≡ Unaffected = same_either (wants_command c.facts PageProgram && names_lun g (row c.facts) 0) in
    command_goes s text v r c byte PageProgram k is_d refl is m clear refl
    (record { place = After PageProgram 0; single = refl; address = no_address; is = record { place = refl; facts = refl }; now = λ e. cc; column = λ e. cc; row = λ e. cc; named = λ e. cc; base = refl; changes = λ e. cc })
    (m.shows ∙ ap (λ (e : Effect). shows_of (view_after e c.view).latch) (sym effect))
    (subst (λ (e : Effect). LunMirror g v.lun (index_now 0 r.done) (view_after e c.view)) (sym effect) m.lun)
    (λ e. cc)

pub goes_90 : (s : Channel) (text : Microprogram) (v : State) (r : Run) (c : Lone) (byte : ℕ) → IsFit s text → command byte ≡ ReadId → IsLone s r.past c → Mirrors s.geometry (lone_job s.geometry text) v r.done c → NoReasons s.geometry text v (CommandWord byte) → Goes s text (state_after s.geometry v (CommandWord byte)) r (CommandWord byte)
goes_90 s text v r c byte k is_d is m clear =
    let g = s.geometry in
    let effect : cycle_effect (based g) c.facts c.view.latch (CommandCycle ReadId) 0 ≡ Unaffected = same_either (wants_command c.facts ReadId && names_lun g (row c.facts) 0) in
    command_goes s text v r c byte ReadId k is_d refl is m clear refl
    (record { place = After ReadId 0; single = refl; address = no_address; is = record { place = refl; facts = refl }; now = λ e. cc; column = λ e. cc; row = λ e. cc; named = λ e. cc; base = refl; changes = λ e. cc })
    (m.shows ∙ ap (λ (e : Effect). shows_of (view_after e c.view).latch) (sym effect))
    (subst (λ (e : Effect). LunMirror g v.lun (index_now 0 r.done) (view_after e c.view)) (sym effect) m.lun)
    (λ e. cc)

pub goes_ec : (s : Channel) (text : Microprogram) (v : State) (r : Run) (c : Lone) (byte : ℕ) → IsFit s text → command byte ≡ ReadParameterPage → IsLone s r.past c → Mirrors s.geometry (lone_job s.geometry text) v r.done c → NoReasons s.geometry text v (CommandWord byte) → Goes s text (state_after s.geometry v (CommandWord byte)) r (CommandWord byte)
goes_ec s text v r c byte k is_d is m clear =
    let g = s.geometry in
    let effect : cycle_effect (based g) c.facts c.view.latch (CommandCycle ReadParameterPage) 0 ≡ Unaffected = same_either (wants_command c.facts ReadParameterPage && names_lun g (row c.facts) 0) in
    command_goes s text v r c byte ReadParameterPage k is_d refl is m clear refl
    (record { place = After ReadParameterPage 0; single = refl; address = no_address; is = record { place = refl; facts = refl }; now = λ e. cc; column = λ e. cc; row = λ e. cc; named = λ e. cc; base = refl; changes = λ e. cc })
    (m.shows ∙ ap (λ (e : Effect). shows_of (view_after e c.view).latch) (sym effect))
    (subst (λ (e : Effect). LunMirror g v.lun (index_now 0 r.done) (view_after e c.view)) (sym effect) m.lun)
    (λ e. cc)

-- 05h goes only where the LUN shows data of a page or the parameter page
may_change : (v : LunView) → (not (shows_only_data (shows_of v.latch)) || v.busy || not (has_page_or_parameters (held_of v.register))) ≡ false → may_change_column v ≡ true
may_change v h = at v.latch v.busy v.register h
  where
    at : (x : Latch) (b : Bool) (r : Register) → (not (shows_only_data (shows_of x)) || b || not (has_page_or_parameters (held_of r))) ≡ false → (is_data x && (not b && is_page_or_parameters r)) ≡ true
    at Off b r h = cc
    at Status b r h = cc
    at Data true r h = cc
    at Data false Empty h = cc
    at Data false (Page p) h = refl
    at Data false ParameterPage h = refl
    at Data false _ h = cc

changes_now : (s : Channel) (text : Microprogram) (v : State) (r : Run) (c : Lone) (byte : ℕ) → command byte ≡ ChangeReadColumn → Mirrors s.geometry (lone_job s.geometry text) v r.done c → NoReasons s.geometry text v (CommandWord byte) → may_change_column c.view ≡ true
changes_now s text v r c byte is_d m clear =
    let all = or_parts (may_be_open v) (opener_refused s.geometry v ChangeReadColumn) (out_of_place s.geometry text v byte ChangeReadColumn is_d clear) in
    may_change c.view (sym (λ i. not (shows_only_data (m.shows i)) || m.lun.busy i || not (has_page_or_parameters (m.lun.register i))) ∙ all.1)

pub goes_05 : (s : Channel) (text : Microprogram) (v : State) (r : Run) (c : Lone) (byte : ℕ) → IsFit s text → command byte ≡ ChangeReadColumn → IsLone s r.past c → Mirrors s.geometry (lone_job s.geometry text) v r.done c → NoReasons s.geometry text v (CommandWord byte) → Goes s text (state_after s.geometry v (CommandWord byte)) r (CommandWord byte)
goes_05 s text v r c byte k is_d is m clear =
    let g = s.geometry in
    let effect : cycle_effect (based g) c.facts c.view.latch (CommandCycle ChangeReadColumn) 0 ≡ Unaffected = same_either (wants_command c.facts ChangeReadColumn && names_lun g (row c.facts) 0) in
    command_goes s text v r c byte ChangeReadColumn k is_d refl is m clear refl
    (record { place = After ChangeReadColumn 0; single = refl; address = no_address; is = record { place = refl; facts = refl }; now = λ e. cc; column = λ e. cc; row = λ e. cc; named = λ e. cc; base = refl; changes = λ x. ap (λ (e : Effect). may_change_column (view_after e c.view)) effect ∙ changes_now s text v r c byte is_d m clear })
    (m.shows ∙ ap (λ (e : Effect). shows_of (view_after e c.view).latch) (sym effect))
    (subst (λ (e : Effect). LunMirror g v.lun (index_now 0 r.done) (view_after e c.view)) (sym effect) m.lun)
    (λ e. cc)

resumed_exact : (x : Latch) → resumed_shows (shows_of x) ≡ shows_of (resumed x)
resumed_exact Off = refl
resumed_exact Status = refl
resumed_exact Data = refl

pub goes_00 : (s : Channel) (text : Microprogram) (v : State) (r : Run) (c : Lone) (byte : ℕ) → IsFit s text → command byte ≡ Read → IsLone s r.past c → Mirrors s.geometry (lone_job s.geometry text) v r.done c → NoReasons s.geometry text v (CommandWord byte) → Goes s text (state_after s.geometry v (CommandWord byte)) r (CommandWord byte)
goes_00 s text v r c byte k is_d is m clear =
    command_goes s text v r c byte Read k is_d refl is m clear refl
    (record { place = After Read 0; single = refl; address = no_address; is = record { place = refl; facts = refl }; now = λ e. cc; column = λ e. cc; row = λ e. cc; named = λ e. cc; base = refl; changes = λ e. cc })
    (ap resumed_shows m.shows ∙ resumed_exact c.view.latch)
    (record { busy = m.lun.busy; register = m.lun.register; known = m.lun.known; column = m.lun.column; no_column = m.lun.no_column; last = m.lun.last; queue = m.lun.queue; caching = m.lun.caching; other = m.lun.other; read = m.lun.read; cached_page = m.lun.cached_page; cached_index = m.lun.cached_index; held = m.lun.held; programming = m.lun.programming; no_program = m.lun.no_program })
    (λ e. cc)

-- 4. closers

-- nothing goes on with facts like these
pub shut_facts : (t : TailFacts) → t.opening ≡ None → t.phase ≡ Outside → Shut t
shut_facts t o p = record { closed = λ i. opened is_proper_beginning (o i) || takes_inputs (p i) || wants_column (p i); address = λ b i. opened (λ c n. is_opener c && ltb n (address_cycles c) && takes_address c b) (o i) || wants_column (p i); command = none }
  where
    none : (d : Command) → wants_command t d ≡ false
    none d = at (is_data_command d) refl
      where
        at : (b : Bool) → is_data_command d ≡ b → wants_command t d ≡ false
        at true e = (wants_by t d).0 e ∙ ap takes_data p
        at false e = (wants_by t d).1 e ∙ ap (opened (λ c n. closes c d && n == address_cycles c)) o

-- the address of an opener is whole
record Whole (g : Parts) (j : Job) (v : KnownTarget) (n : Now) (o : Command) (c : Lone) : Type 0 where
  address : Address
  facts : c.facts ≡ facts_behind (opener_facts o) (take (address_cycles o) (bytes_of o address))
  column : has_column (After o (address_cycles o)) ≡ true → BoundIs (input_column c.facts) v.column
  row : has_row (After o (address_cycles o)) ≡ true → RowIs g j address
  named : has_row (After o (address_cycles o)) ≡ true → NameIs g address n.index v.named
  tail : v.tail ≡ After o (address_cycles o)
  changes : is_read_column (After o (address_cycles o)) ≡ true → may_change_column c.view ≡ true

-- where the tail wants this closer
whole_at : (g : Parts) (j : Job) (v : KnownTarget) (n : Now) (c : Lone) (d o : Command) (test : Place → Bool) → ((p : Command) (m : ℕ) → is_place p m ≡ true → (test (After p m) && closes p d) ≡ true → p ≡ o) → is_data_command d ≡ false → TailMirror g j v n c → test v.tail ≡ true → place_wants d v.tail ≡ true → Whole g j v n o c
whole_at g j v n c d o test only plain f tested h = at f.place f.is f.column f.row f.named f.changes f.single (sym (ap test f.single) ∙ tested) (sym (ap (place_wants d) f.single) ∙ h)
  where
    at : (p : Place) → PlaceMirror p f.address c.facts → (has_column p ≡ true → BoundIs (input_column c.facts) v.column) → (has_row p ≡ true → RowIs g j f.address) → (has_row p ≡ true → NameIs g f.address n.index v.named) → (is_read_column p ≡ true → may_change_column c.view ≡ true) → v.tail ≡ p → test p ≡ true → place_wants d p ≡ true → Whole g j v n o c
    at Closed is column row named changes single passes w = cc
    at InData is column row named changes single passes w = let both : true ≡ false = sym w ∙ plain in cc
    at (InColumn m) is column row named changes single passes w = cc
    at (InFeatures m) is column row named changes single passes w = cc
    at Unknown is column row named changes single passes w = cc
    at (After p m) is column row named changes single passes w =
        let by = closed_by d o p m f.address test only is.place passes w in
        record {
          address = f.address;
          facts = is.facts ∙ by.facts;
          column = λ e. column (ap has_column by.place ∙ e);
          row = λ e. row (ap has_row by.place ∙ e);
          named = λ e. named (ap has_row by.place ∙ e);
          tail = single ∙ by.place;
          changes = λ e. changes (ap is_read_column by.place ∙ e);
        }

whole : (g : Parts) (j : Job) (v : KnownTarget) (n : Now) (c : Lone) (d o : Command) → ((p : Command) (m : ℕ) → is_place p m ≡ true → closes p d ≡ true → p ≡ o) → is_data_command d ≡ false → TailMirror g j v n c → place_wants d v.tail ≡ true → Whole g j v n o c
whole g j v n c d o only plain f h = whole_at g j v n c d o (λ p. true) (λ p m place w. only p m place (and_parts true (closes p d) w).1) plain f refl h

-- in the data of a program
record Programming (g : Parts) (j : Job) (v : KnownTarget) (n : Now) (c : Lone) : Type 0 where
  address : Address
  program : InProgram address Inputs c.facts
  row : RowIs g j address
  named : NameIs g address n.index v.named
  tail : v.tail ≡ InData

only_data : (p : Place) (d : Command) → is_data_command d ≡ true → place_wants d p ≡ true → p ≡ InData
only_data InData d kind h = refl
only_data Closed d kind h = cc
only_data (InColumn n) d kind h = cc
only_data (InFeatures n) d kind h = cc
only_data Unknown d kind h = cc
only_data (After o n) d kind h = let both = and_parts (closes o d) (n == address_cycles o) h in let none : closes o d ≡ false = closes_none o d kind in let clash : true ≡ false = sym both.0 ∙ none in cc

programming : (g : Parts) (j : Job) (v : KnownTarget) (n : Now) (c : Lone) (d : Command) → is_data_command d ≡ true → TailMirror g j v n c → place_wants d v.tail ≡ true → Programming g j v n c
programming g j v n c d kind f h = at f.place f.is f.row f.named f.single (only_data f.place d kind (sym (ap (place_wants d) f.single) ∙ h))
  where
    at : (p : Place) → PlaceMirror p f.address c.facts → (has_row p ≡ true → RowIs g j f.address) → (has_row p ≡ true → NameIs g f.address n.index v.named) → v.tail ≡ p → p ≡ InData → Programming g j v n c
    at InData is row named single e = record { address = f.address; program = is.program; row = row refl; named = named refl; tail = single }
    at Closed is row named single e = cc
    at (InColumn m) is row named single e = cc
    at (InFeatures m) is row named single e = cc
    at Unknown is row named single e = cc
    at (After o m) is row named single e = cc

program_row : (a : Address) (t : TailFacts) → InProgram a Inputs t → row t ≡ row_of a.r1 a.r2 a.r3
program_row a t p = ap (λ (r : RowBytes). row_of r.r1 r.r2 r.r3) p.row

-- D0h
pub goes_d0 : (s : Channel) (text : Microprogram) (v : State) (r : Run) (c : Lone) (byte : ℕ) → IsFit s text → command byte ≡ BlockEraseConfirm → IsLone s r.past c → Mirrors s.geometry (lone_job s.geometry text) v r.done c → NoReasons s.geometry text v (CommandWord byte) → Goes s text (state_after s.geometry v (CommandWord byte)) r (CommandWord byte)
goes_d0 s text v r c byte k is_d is m clear =
    let g = s.geometry in
    let j = lone_job s.geometry text in
    let w = whole g j v.target (now_of j r.done) c BlockEraseConfirm BlockErase only_erase refl m.tail (wanted g text v byte BlockEraseConfirm is_d refl refl clear).places in
    let wants : wants_command c.facts BlockEraseConfirm ≡ true = ap (λ (t : TailFacts). wants_command t BlockEraseConfirm) w.facts in
    let names : names_lun g (row c.facts) 0 ≡ true = row_names g j c.facts w.address (ap row w.facts) (w.row refl) in
    let begun : c.facts.is_empty ≡ false = ap (λ (t : TailFacts). t.is_empty) w.facts in
    let effect : cycle_effect (based g) c.facts c.view.latch (CommandCycle BlockEraseConfirm) 0 ≡ EraseStarted false (page_address g (row c.facts)) = rw (wants, names) refl in
    command_goes s text v r c byte BlockEraseConfirm k is_d refl is m clear refl
    (shut_tail g j (command_leaves g v BlockEraseConfirm) r.done (lone_behind g (CommandCycle BlockEraseConfirm) c) refl (shut_facts (facts_after (CommandCycle BlockEraseConfirm) c.facts) (rw begun refl) (rw begun refl)))
    (m.shows ∙ ap (λ (e : Effect). shows_of (view_after e c.view).latch) (sym effect))
    (subst (λ (e : Effect). LunMirror g (command_leaves g v BlockEraseConfirm).lun (index_now 0 r.done) (view_after e c.view)) (sym effect)
    (record { busy = refl; register = refl; known = refl; column = λ e. cc; no_column = λ e. refl; last = refl; queue = refl; caching = refl; other = refl; read = λ e. cc; cached_page = λ e. cc; cached_index = λ e. cc; held = λ e. cc; programming = refl; no_program = refl }))
    (λ e. cc)

-- 10h
pub goes_10 : (s : Channel) (text : Microprogram) (v : State) (r : Run) (c : Lone) (byte : ℕ) → IsFit s text → command byte ≡ ProgramConfirm → IsLone s r.past c → Mirrors s.geometry (lone_job s.geometry text) v r.done c → NoReasons s.geometry text v (CommandWord byte) → Goes s text (state_after s.geometry v (CommandWord byte)) r (CommandWord byte)
goes_10 s text v r c byte k is_d is m clear =
    let g = s.geometry in
    let j = lone_job s.geometry text in
    let p = programming g j v.target (now_of j r.done) c ProgramConfirm refl m.tail (wanted g text v byte ProgramConfirm is_d refl refl clear).places in
    let wants : wants_command c.facts ProgramConfirm ≡ true = ap takes_data p.program.phase in
    let names : names_lun g (row c.facts) 0 ≡ true = row_names g j c.facts p.address (program_row p.address c.facts p.program) p.row in
    let begun : c.facts.is_empty ≡ false = p.program.begun in
    let effect : cycle_effect (based g) c.facts c.view.latch (CommandCycle ProgramConfirm) 0 ≡ ProgramStarted false (page_address g (row c.facts)) = rw (wants, names) refl in
    command_goes s text v r c byte ProgramConfirm k is_d refl is m clear refl
    (shut_tail g j (command_leaves g v ProgramConfirm) r.done (lone_behind g (CommandCycle ProgramConfirm) c) refl (shut_facts (facts_after (CommandCycle ProgramConfirm) c.facts) (rw begun refl) (rw begun refl)))
    (m.shows ∙ ap (λ (e : Effect). shows_of (view_after e c.view).latch) (sym effect))
    (subst (λ (e : Effect). LunMirror g (command_leaves g v ProgramConfirm).lun (index_now 0 r.done) (view_after e c.view)) (sym effect)
    (record { busy = refl; register = refl; known = refl; column = λ e. cc; no_column = λ e. refl; last = refl; queue = refl; caching = refl; other = refl; read = λ e. cc; cached_page = λ e. cc; cached_index = λ e. cc; held = λ e. cc; programming = refl; no_program = refl }))
    (λ e. cc)

-- FFh
pub goes_ff : (s : Channel) (text : Microprogram) (v : State) (r : Run) (c : Lone) (byte : ℕ) → IsFit s text → command byte ≡ Reset → IsLone s r.past c → Mirrors s.geometry (lone_job s.geometry text) v r.done c → NoReasons s.geometry text v (CommandWord byte) → Goes s text (state_after s.geometry v (CommandWord byte)) r (CommandWord byte)
goes_ff s text v r c byte k is_d is m clear =
    let g = s.geometry in
    let j = lone_job s.geometry text in
    command_goes s text v r c byte Reset k is_d refl is m clear refl
    (record { place = Closed; single = refl; address = no_address; is = reset_shut; now = λ e. cc; column = λ e. cc; row = λ e. cc; named = λ e. cc; base = refl; changes = λ e. cc })
    refl
    (record { busy = refl; register = refl; known = refl; column = λ e. cc; no_column = λ e. refl; last = refl; queue = refl; caching = refl; other = refl; read = λ e. cc; cached_page = λ e. cc; cached_index = λ e. cc; held = λ e. cc; programming = refl; no_program = refl })
    (λ e. cc)
  where
    reset_shut : Shut (facts_after (CommandCycle Reset) c.facts)
    reset_shut = record { closed = refl; address = λ b. refl; command = none }
      where
        none : (d : Command) → wants_command (facts_after (CommandCycle Reset) c.facts) d ≡ false
        none ChangeWriteColumn = refl
        none ProgramConfirm = refl
        none ProgramPlane = refl
        none ProgramCache = refl
        none _ = refl

-- 85h
begins_85 : (t : TailFacts) (a : Address) → InProgram a Inputs t → ColumnBegun 0 a (facts_after (CommandCycle ChangeWriteColumn) t)
begins_85 t a p =
    record { few = omega arith; alone = rw (p.begun, p.phase) refl; program = record { phase = rw (p.begun, p.phase) refl; row = rw (p.begun, p.phase) p.row; begun = rw (p.begun, p.phase) refl }; column = λ e. absurd (omega (arith, e)) }

pub goes_85 : (s : Channel) (text : Microprogram) (v : State) (r : Run) (c : Lone) (byte : ℕ) → IsFit s text → command byte ≡ ChangeWriteColumn → IsLone s r.past c → Mirrors s.geometry (lone_job s.geometry text) v r.done c → NoReasons s.geometry text v (CommandWord byte) → Goes s text (state_after s.geometry v (CommandWord byte)) r (CommandWord byte)
goes_85 s text v r c byte k is_d is m clear =
    let g = s.geometry in
    let j = lone_job s.geometry text in
    let base : has_copyback g.optional ≡ false = ap (λ (b : Bool). b && has_all g.optional 16) k.base in
    let placed = (wanted g text v byte ChangeWriteColumn is_d refl (goes_on g v base) clear).places in
    let p = programming g j v.target (now_of j r.done) c ChangeWriteColumn refl m.tail placed in
    let leaves : command_leaves g v ChangeWriteColumn ≡ with_target v (record v.target { tail = InColumn 0 }) = changes_leaves g v placed in
    let effect : cycle_effect (based g) c.facts c.view.latch (CommandCycle ChangeWriteColumn) 0 ≡ Unaffected = same_either (wants_command c.facts ChangeWriteColumn && names_lun g (row c.facts) 0) in
    command_goes s text v r c byte ChangeWriteColumn k is_d refl is m clear (ap (λ (x : State). x.registers) leaves)
    (subst (λ (x : State). TailMirror g j x.target (now_of j r.done) (lone_behind g (CommandCycle ChangeWriteColumn) c)) (sym leaves)
    (record { place = InColumn 0; single = refl; address = p.address; is = begins_85 c.facts p.address p.program; now = λ e. cc; column = λ e. cc; row = λ e. p.row; named = λ e. p.named; base = refl; changes = λ e. cc }))
    (ap (λ (x : State). x.target.shows) leaves ∙ (m.shows ∙ ap (λ (e : Effect). shows_of (view_after e c.view).latch) (sym effect)))
    (subst (λ (x : State). LunMirror g x.lun (index_now 0 r.done) (lone_behind g (CommandCycle ChangeWriteColumn) c).view) (sym leaves)
    (subst (λ (e : Effect). LunMirror g v.lun (index_now 0 r.done) (view_after e c.view)) (sym effect) m.lun))
    (subst (λ (x : State). place_queues x.target.tail ≡ true → row_goes_along (place_erases x.target.tail) x.target.named x.lun.queue ≡ true) (sym leaves)
    (λ e. sym (ap (λ (q : Place). row_goes_along (place_erases q) v.target.named v.lun.queue) p.tail) ∙ m.along (ap place_queues p.tail)))
  where
    goes_on : (g : Parts) (v : State) → has_copyback g.optional ≡ false → (is_opener ChangeWriteColumn && not (goes_on_at g ChangeWriteColumn v.target.tail)) ≡ false
    goes_on g v base = ap (λ (b : Bool). not (place_wants ChangeWriteColumn v.target.tail || not b)) base ∙ at (place_wants ChangeWriteColumn v.target.tail)
      where
        at : (w : Bool) → not (w || true) ≡ false
        at true = refl
        at false = refl

-- the column of a read, with no input since
read_column_is : (o : Option Span) (t : TailFacts) → t.inputs ≡ 0 → BoundIs (input_column t) o → ColumnMirror (given_at o) (column_at t.column)
read_column_is None t none h = absurd h
read_column_is (Some k) t none h = record { at = t.column + 0; is = refl; bound = h ∙ ap (λ (n : ℕ). kept (t.column + n)) none; read = refl }

-- E0h
held_register : (v : LunView) → is_modelled v.register ≡ true → may_change_column v ≡ true → has_register (held_of v.register) ≡ true
held_register v k h = at v.latch v.busy v.register k h
  where
    at : (x : Latch) (b : Bool) (r : Register) → is_modelled r ≡ true → (is_data x && (not b && is_page_or_parameters r)) ≡ true → has_register (held_of r) ≡ true
    at Off b r k h = cc
    at Status b r k h = cc
    at Data true r k h = cc
    at Data false (Page p) k h = refl
    at Data false ParameterPage k h = refl
    at Data false UniqueId k h = cc
    at Data false _ k h = cc

pub not_off : (v : LunView) → may_change_column v ≡ true → is_off v.latch ≡ false
not_off v h = at v.latch h
  where
    at : (x : Latch) → (is_data x && (not v.busy && is_page_or_parameters v.register)) ≡ true → is_off x ≡ false
    at Off h = cc
    at Status h = refl
    at Data h = refl

pub goes_e0 : (s : Channel) (text : Microprogram) (v : State) (r : Run) (c : Lone) (byte : ℕ) → IsFit s text → command byte ≡ ChangeReadColumnConfirm → IsLone s r.past c → Mirrors s.geometry (lone_job s.geometry text) v r.done c → NoReasons s.geometry text v (CommandWord byte) → Goes s text (state_after s.geometry v (CommandWord byte)) r (CommandWord byte)
goes_e0 s text v r c byte k is_d is m clear =
    let g = s.geometry in
    let j = lone_job s.geometry text in
    let unselected : selects_plane_at v.target.tail ≡ false = ap selects_plane_at m.tail.single ∙ selects_none m.tail.place m.tail.base in
    let w = whole_at g j v.target (now_of j r.done) c ChangeReadColumnConfirm ChangeReadColumn (λ p. not (selects_plane_at p)) only_column refl m.tail (ap not unselected) (wanted g text v byte ChangeReadColumnConfirm is_d refl refl clear).places in
    let leaves = column_leaves v unselected in
    let wants : wants_command c.facts ChangeReadColumnConfirm ≡ true = ap (λ (t : TailFacts). wants_command t ChangeReadColumnConfirm) w.facts in
    let begun : c.facts.is_empty ≡ false = ap (λ (t : TailFacts). t.is_empty) w.facts in
    let may = w.changes refl in
    let shown = not_off c.view may in
    let plain : selects_plane c.facts ≡ false = ap selects_plane w.facts in
    let effect : cycle_effect (based g) c.facts c.view.latch (CommandCycle ChangeReadColumnConfirm) 0 ≡ ReadColumnChanged c.facts.column = rw (plain, wants, shown) refl in
    let after : State = record { registers = v.registers; target = closed v.target.shows; lun = record v.lun { column = given_at v.target.column } } in
    command_goes s text v r c byte ChangeReadColumnConfirm k is_d refl is m clear (ap (λ (x : State). x.registers) leaves)
    (subst (λ (x : State). TailMirror g j x.target (now_of j r.done) (lone_behind g (CommandCycle ChangeReadColumnConfirm) c)) (sym leaves)
    (shut_tail g j after r.done (lone_behind g (CommandCycle ChangeReadColumnConfirm) c) refl (shut_facts (facts_after (CommandCycle ChangeReadColumnConfirm) c.facts) (rw begun refl) (rw begun refl))))
    (ap (λ (x : State). x.target.shows) leaves ∙ (m.shows ∙ ap (λ (e : Effect). shows_of (view_after e c.view).latch) (sym effect)))
    (subst (λ (x : State). LunMirror g x.lun (index_now 0 r.done) (lone_behind g (CommandCycle ChangeReadColumnConfirm) c).view) (sym leaves)
    (subst (λ (e : Effect). LunMirror g after.lun (index_now 0 r.done) (view_after e c.view)) (sym effect)
    (record {
      busy = m.lun.busy;
      register = m.lun.register;
      known = m.lun.known;
      column = λ e. read_column_is v.target.column c.facts (ap (λ (t : TailFacts). t.inputs) w.facts) (w.column refl);
      no_column = λ e. let both : true ≡ false = sym (ap has_register m.lun.register ∙ held_register c.view m.lun.known may) ∙ e in cc;
      last = m.lun.last;
      queue = m.lun.queue;
      caching = m.lun.caching;
      other = m.lun.other;
      read = m.lun.read;
      cached_page = m.lun.cached_page;
      cached_index = m.lun.cached_index;
      held = m.lun.held;
      programming = m.lun.programming;
      no_program = m.lun.no_program;
    })))
    (λ e. let none : place_queues (command_leaves g v ChangeReadColumnConfirm).target.tail ≡ false = ap (λ (x : State). place_queues x.target.tail) leaves in let both : true ≡ false = sym e ∙ none in cc)

-- 30h
shows_read : (g : Parts) (o : Option Shown) → ltb 1 g.luns ≡ false → shows_after_read g o ≡ data_shown
shows_read g None one = rw one refl
shows_read g (Some w) one = refl

below_planes : (g : Parts) (block plane : ℕ) → plane < planes g → (block * planes g + plane) / planes g ≡ block
below_planes g block plane low =
    let none : plane / planes g ≡ 0 = small (planes g) plane low in
    mul-add-div_right (let some : 0 < planes g = omega (arith, low) in some) block plane ∙ (ap (λ (n : ℕ). block + n) none ∙ omega arith)
  where
    small : (p n : ℕ) → n < p → n / p ≡ 0
    small p n h =
        let parts = div-add-mod n p in
        zero_quotient (n / p) parts
      where
        zero_quotient : (q : ℕ) → p * q + n % p ≡ n → q ≡ 0
        zero_quotient zero e = refl
        zero_quotient (suc q) e = let big : p * suc q ≡ p + p * q = omega arith in absurd (omega (arith, h, e, big))

-- the index of a page that a row names is that of the row
index_is : (g : Parts) (p : PageAddress) (index plane : ℕ) → plane < planes g → p.page ≡ index % g.pages → p.block ≡ index / g.pages * planes g + plane → index_of g p ≡ index
index_is g p index plane low page block =
    (λ i. block i / planes g * g.pages + page i) ∙ (ap (λ (n : ℕ). n * g.pages + index % g.pages) (below_planes g (index / g.pages) plane low) ∙ whole_index)
  where
    whole_index : index / g.pages * g.pages + index % g.pages ≡ index
    whole_index = let parts = div-add-mod index g.pages in let swap : index / g.pages * g.pages ≡ g.pages * (index / g.pages) = omega arith in omega (arith, parts, swap)

-- the page of the row of the tail
page_of_row : (g : Parts) (j : Job) (t : TailFacts) (a : Address) → row t ≡ row_of a.r1 a.r2 a.r3 → RowIs g j a → ((page_address g (row t)).page ≡ a.index % g.pages) × ((page_address g (row t)).block ≡ a.index / g.pages * planes g + a.plane)
page_of_row g j t a e r =
    (ap (λ (n : ℕ). (parts_of g n).page) e ∙ ap (λ (p : RowParts). p.page) r.reads, ap (λ (n : ℕ). (parts_of g n).block) e ∙ ap (λ (p : RowParts). p.block) r.reads)

cached_page_is : (g : Parts) (a : Address) (now : ℕ) (o : Option NamedRow) → 0 < g.pages → g.pages ≤ greatest_bound → NameIs g a now o → (cached_at o).page.hi ≡ kept (a.index % g.pages)
cached_page_is g a now None some low h = absurd h
cached_page_is g a now (Some n) some low h =
    let small : a.index % g.pages < g.pages = mod_below a.index g.pages some in
    let inside : nat_le (a.index % g.pages) greatest_bound ≡ true = grind (arith, nat_tests, small, low) in
    ap (λ (n : ℕ). Some n) h.page ∙ rw inside refl

cached_index_is : (g : Parts) (a : Address) (now : ℕ) (o : Option NamedRow) → NameIs g a now o → (cached_at o).index.hi ≡ kept a.index
cached_index_is g a now None h = absurd h
cached_index_is g a now (Some n) h = h.index.hi

-- no read is among the rows of a claim
no_reads : (g : Parts) (now : ℕ) (rows : QueuedRows) (queue : List Queued) → RowsMirror g now rows queue → has_reads queue ≡ false
no_reads g now NoRows queue m = ap has_reads m
no_reads g now AnyRows queue m = absurd m
no_reads g now (SomeReads planes surely d) queue m = absurd m
no_reads g now (SomeRows erase planes d) queue m = all m.of_planes queue m.rows
  where
    all : (ps : List ℕ) (qs : List Queued) → AllMirror (RowMirror g erase m.index) ps qs → has_reads qs ≡ false
    all [] [] a = refl
    all [] (q ∷ qs) a = absurd a
    all (p ∷ ps) [] a = absurd a
    all (p ∷ ps) (Erase q ∷ qs) a = all ps qs a.1
    all (p ∷ ps) (Program q ∷ qs) a = all ps qs a.1
    all (p ∷ ps) (QueuedRead q ∷ qs) a = let none = a.0.kind in cc

none_claimed : (g : Parts) (now : ℕ) (rows : QueuedRows) (queue : List Queued) → RowsMirror g now rows queue → may_be_reads rows ≡ false
none_claimed g now NoRows queue m = refl
none_claimed g now (SomeRows erase planes d) queue m = refl
none_claimed g now (SomeReads planes surely d) queue m = absurd m
none_claimed g now AnyRows queue m = absurd m

pub goes_30 : (s : Channel) (text : Microprogram) (v : State) (r : Run) (c : Lone) (byte : ℕ) → IsFit s text → command byte ≡ ReadConfirm → IsLone s r.past c → Mirrors s.geometry (lone_job s.geometry text) v r.done c → NoReasons s.geometry text v (CommandWord byte) → Goes s text (state_after s.geometry v (CommandWord byte)) r (CommandWord byte)
goes_30 s text v r c byte k is_d is m clear =
    let g = s.geometry in
    let j = lone_job s.geometry text in
    let w = whole g j v.target (now_of j r.done) c ReadConfirm Read only_read refl m.tail (wanted g text v byte ReadConfirm is_d refl refl clear).places in
    let wants : wants_command c.facts ReadConfirm ≡ true = ap (λ (t : TailFacts). wants_command t ReadConfirm) w.facts in
    let names : names_lun g (row c.facts) 0 ≡ true = row_names g j c.facts w.address (ap row w.facts) (w.row refl) in
    let begun : c.facts.is_empty ≡ false = ap (λ (t : TailFacts). t.is_empty) w.facts in
    let page = page_of_row g j c.facts w.address (ap row w.facts) (w.row refl) in
    let some : 0 < g.pages = let least = k.alone.is_channel.limits.pages_least in omega (arith, least) in
    let none : has_reads c.view.queue ≡ false = no_reads g (index_now 0 r.done) v.lun.queue c.view.queue m.lun.queue in
    let unread : may_be_reads v.lun.queue ≡ false = none_claimed g (index_now 0 r.done) v.lun.queue c.view.queue m.lun.queue in
    let effect : cycle_effect (based g) c.facts c.view.latch (CommandCycle ReadConfirm) 0 ≡ ReadStarted (page_address g (row c.facts)) c.facts.column = rw (wants, names) refl in
    command_goes s text v r c byte ReadConfirm k is_d refl is m clear refl
    (shut_tail g j (command_leaves g v ReadConfirm) r.done (lone_behind g (CommandCycle ReadConfirm) c) refl (shut_facts (facts_after (CommandCycle ReadConfirm) c.facts) (rw begun refl) (rw begun refl)))
    (shows_read g v.target.shows k.one ∙ ap (λ (e : Effect). shows_of (view_after e c.view).latch) (sym effect))
    (subst (λ (e : Effect). LunMirror g (command_leaves g v ReadConfirm).lun (index_now 0 r.done) (view_after e c.view)) (sym effect)
    (record {
      busy = refl;
      register = rw (unread, none) refl;
      known = rw none refl;
      column = λ e. read_column_is v.target.column c.facts (ap (λ (t : TailFacts). t.inputs) w.facts) (w.column refl);
      no_column = λ e. let held : has_register (cond (may_be_reads v.lun.queue) None page_register) ≡ true = ap (λ (b : Bool). has_register (cond b None page_register)) unread in let both : true ≡ false = sym held ∙ e in cc;
      last = ap (λ (b : Bool). closer_among (cond b any_but_31 (record { 0 = 1 })) (Some ReadConfirm)) unread;
      queue = refl;
      caching = ap (λ (b : Bool). may_be_31 (cond b any_but_31 (record { 0 = 1 }))) unread;
      other = ap (λ (b : Bool). may_be_other (cond b any_but_31 (record { 0 = 1 }))) unread;
      read = λ e. ap (λ (b : Bool). may_be_30 (cond b any_but_31 (record { 0 = 1 }))) unread;
      cached_page = λ e. cached_page_is g w.address (index_now 0 r.done) v.target.named some k.pages (w.named refl) ∙ ap kept (sym page.0);
      cached_index = λ e. cached_index_is g w.address (index_now 0 r.done) v.target.named (w.named refl) ∙ ap kept (sym (index_is g (page_address g (row c.facts)) w.address.index w.address.plane (w.row refl).low page.0 page.1));
      held = λ e. one_page (page_address g (row c.facts)) c.view.queue none;
      programming = refl;
      no_program = refl;
    }))
    (λ e. cc)

-- 5. rows of a queue

same_kind : (a b : Bool) → same_test a b ≡ true → a ≡ b
same_kind true true h = refl
same_kind true false h = cc
same_kind false true h = cc
same_kind false false h = refl

-- two rows that are as far from the index register are of one index
same_index : (now a b : ℕ) → now - a ≡ now - b → a - now ≡ b - now → a ≡ b
same_index now a b e f = omega (arith, e, f)

queued_exact : (g : Parts) (now : ℕ) (erase : Bool) (claimed : QueuedRows) (o : Option NamedRow) (a : Address) (q : Queued) (queue : List Queued) → NameIs g a now o → a.plane < planes g → is_of_kind erase q ≡ true → (page_of q).page ≡ a.index % g.pages → (page_of q).block ≡ a.index / g.pages * planes g + a.plane → RowsMirror g now claimed queue → row_goes_along erase o claimed ≡ true → RowsMirror g now (queued_more erase claimed o) (q ∷ queue)
queued_exact g now erase claimed None a q queue name low kind page block m along = absurd name
queued_exact g now erase claimed (Some n) a q queue name low kind page block m along =
    subst (λ (b : Bool). RowsMirror g now (cond b (rows_at erase (either_plane n.planes (queued_planes claimed)) n.drift) AnyRows) (q ∷ queue)) (sym along)
    (subst (λ (d : Option Drift). RowsMirror g now (rows_at erase (either_plane n.planes (queued_planes claimed)) d) (q ∷ queue)) (sym name.drift)
    (rest claimed m (sym (ap (λ (d : Option Drift). goes_along erase d claimed) name.drift) ∙ along)))
  where
    rest : (c : QueuedRows) → RowsMirror g now c queue → goes_along erase (Some (drift_from now a.index)) c ≡ true → QueueMirror g now erase (either_plane n.planes (queued_planes c)) (drift_from now a.index) (q ∷ queue)
    rest AnyRows m along = absurd m
    rest (SomeReads planes surely d) m along = absurd m
    rest NoRows m along =
        record {
          some = refl;
          index = a.index;
          index_low = name.index_low;
          drift = refl;
          of_planes = a.plane ∷ [];
          set = ap (λ (p : Planes). either_plane p no_planes) name.planes;
          rows = (record { kind = kind; low = low; plane_low = name.plane_low; page = page; block = block }, subst (λ (qs : List Queued). AllMirror (RowMirror g erase a.index) [] qs) (sym m) tt);
        }
    rest (SomeRows old planes d) m along =
        let both = and_parts (same_test erase old) (same_drift (Some (drift_from now a.index)) d) along in
        let parts = and_parts (now - a.index == d.ahead) (a.index - now == d.behind) both.1 in
        let ahead : now - a.index ≡ now - m.index = eqb-true (now - a.index) d.ahead parts.0 ∙ ap (λ (x : Drift). x.ahead) m.drift in
        let behind : a.index - now ≡ m.index - now = eqb-true (a.index - now) d.behind parts.1 ∙ ap (λ (x : Drift). x.behind) m.drift in
        let same : a.index ≡ m.index = same_index now a.index m.index ahead behind in
        let kinds : erase ≡ old = same_kind erase old both.0 in
        record {
          some = refl;
          index = a.index;
          index_low = name.index_low;
          drift = refl;
          of_planes = a.plane ∷ m.of_planes;
          set = λ i. either_plane (name.planes i) (m.set i);
          rows = (record { kind = kind; low = low; plane_low = name.plane_low; page = page; block = block }, subst (λ (b : Bool). AllMirror (RowMirror g b a.index) m.of_planes queue) (sym kinds) (subst (λ (n : ℕ). AllMirror (RowMirror g old n) m.of_planes queue) (sym same) m.rows));
        }

-- D1h

pub goes_d1 : (s : Channel) (text : Microprogram) (v : State) (r : Run) (c : Lone) (byte : ℕ) → IsFit s text → command byte ≡ BlockErasePlane → IsLone s r.past c → Mirrors s.geometry (lone_job s.geometry text) v r.done c → NoReasons s.geometry text v (CommandWord byte) → Goes s text (state_after s.geometry v (CommandWord byte)) r (CommandWord byte)
goes_d1 s text v r c byte k is_d is m clear =
    let g = s.geometry in
    let j = lone_job s.geometry text in
    let dec = declared g text v byte BlockErasePlane is_d clear in
    let w = whole g j v.target (now_of j r.done) c BlockErasePlane BlockErase only_erase_plane refl m.tail (wanted g text v byte BlockErasePlane is_d dec.fit refl clear).places in
    let wants : wants_command c.facts BlockErasePlane ≡ true = ap (λ (t : TailFacts). wants_command t BlockErasePlane) w.facts in
    let names : names_lun g (row c.facts) 0 ≡ true = row_names g j c.facts w.address (ap row w.facts) (w.row refl) in
    let begun : c.facts.is_empty ≡ false = ap (λ (t : TailFacts). t.is_empty) w.facts in
    let page = page_of_row g j c.facts w.address (ap row w.facts) (w.row refl) in
    let effect : cycle_effect (based g) c.facts c.view.latch (CommandCycle BlockErasePlane) 0 ≡ EraseStarted true (page_address g (row c.facts)) = rw (wants, names) refl in
    command_goes s text v r c byte BlockErasePlane k is_d dec.fit is m clear refl
    (shut_tail g j (command_leaves g v BlockErasePlane) r.done (lone_behind g (CommandCycle BlockErasePlane) c) refl (shut_facts (facts_after (CommandCycle BlockErasePlane) c.facts) (rw begun refl) (rw begun refl)))
    (m.shows ∙ ap (λ (e : Effect). shows_of (view_after e c.view).latch) (sym effect))
    (subst (λ (e : Effect). LunMirror g (command_leaves g v BlockErasePlane).lun (index_now 0 r.done) (view_after e c.view)) (sym effect)
    (record {
      busy = refl;
      register = refl;
      known = refl;
      column = λ e. cc;
      no_column = λ e. refl;
      last = refl;
      queue = queued_exact g (index_now 0 r.done) true v.lun.queue v.target.named w.address (Erase (page_address g (row c.facts))) c.view.queue (w.named refl) (w.row refl).low refl page.0 page.1 m.lun.queue (sym (ap (λ (q : Place). row_goes_along (place_erases q) v.target.named v.lun.queue) w.tail) ∙ m.along (ap place_queues w.tail));
      caching = refl;
      other = refl;
      read = λ e. cc;
      cached_page = λ e. cc;
      cached_index = λ e. cc;
      held = λ e. cc;
      programming = refl;
      no_program = refl;
    }))
    (λ e. cc)

-- 11h

pub goes_11 : (s : Channel) (text : Microprogram) (v : State) (r : Run) (c : Lone) (byte : ℕ) → IsFit s text → command byte ≡ ProgramPlane → IsLone s r.past c → Mirrors s.geometry (lone_job s.geometry text) v r.done c → NoReasons s.geometry text v (CommandWord byte) → Goes s text (state_after s.geometry v (CommandWord byte)) r (CommandWord byte)
goes_11 s text v r c byte k is_d is m clear =
    let g = s.geometry in
    let j = lone_job s.geometry text in
    let dec = declared g text v byte ProgramPlane is_d clear in
    let w = programming g j v.target (now_of j r.done) c ProgramPlane refl m.tail (wanted g text v byte ProgramPlane is_d dec.fit refl clear).places in
    let wants : wants_command c.facts ProgramPlane ≡ true = ap takes_data w.program.phase in
    let names : names_lun g (row c.facts) 0 ≡ true = row_names g j c.facts w.address (program_row w.address c.facts w.program) w.row in
    let begun : c.facts.is_empty ≡ false = w.program.begun in
    let page = page_of_row g j c.facts w.address (program_row w.address c.facts w.program) w.row in
    let effect : cycle_effect (based g) c.facts c.view.latch (CommandCycle ProgramPlane) 0 ≡ ProgramStarted true (page_address g (row c.facts)) = rw (wants, names) refl in
    command_goes s text v r c byte ProgramPlane k is_d dec.fit is m clear refl
    (shut_tail g j (command_leaves g v ProgramPlane) r.done (lone_behind g (CommandCycle ProgramPlane) c) refl (shut_facts (facts_after (CommandCycle ProgramPlane) c.facts) (rw begun refl) (rw begun refl)))
    (m.shows ∙ ap (λ (e : Effect). shows_of (view_after e c.view).latch) (sym effect))
    (subst (λ (e : Effect). LunMirror g (command_leaves g v ProgramPlane).lun (index_now 0 r.done) (view_after e c.view)) (sym effect)
    (record {
      busy = refl;
      register = refl;
      known = refl;
      column = λ e. cc;
      no_column = λ e. refl;
      last = refl;
      queue = queued_exact g (index_now 0 r.done) false v.lun.queue v.target.named w.address (Program (page_address g (row c.facts))) c.view.queue w.named w.row.low refl page.0 page.1 m.lun.queue (sym (ap (λ (q : Place). row_goes_along (place_erases q) v.target.named v.lun.queue) w.tail) ∙ m.along (ap place_queues w.tail));
      caching = refl;
      other = refl;
      read = λ e. cc;
      cached_page = λ e. cc;
      cached_index = λ e. cc;
      held = λ e. cc;
      programming = m.lun.programming;
      no_program = queued_programs c.view (page_address g (row c.facts)) m.lun.no_program;
    }))
    (λ e. cc)

-- 6. cache reads

drives_on : (x : Latch) → not (drives (shows_of x)) ≡ false → is_off x ≡ false
drives_on Off h = cc
drives_on Status h = refl
drives_on Data h = refl

cache_shut : (t : TailFacts) → t ≡ opener_facts ReadCacheSequential → Shut t
cache_shut t e = subst (λ (x : TailFacts). Shut x) (sym e) (shut_opener ReadCacheSequential (λ d. none d))
  where
    none : (d : Command) → wants_command (opener_facts ReadCacheSequential) d ≡ false
    none ChangeWriteColumn = refl
    none ProgramConfirm = refl
    none ProgramPlane = refl
    none ProgramCache = refl
    none _ = refl

    shut_opener : (o : Command) → ((d : Command) → wants_command (opener_facts ReadCacheSequential) d ≡ false) → Shut (opener_facts ReadCacheSequential)
    shut_opener o none = record { closed = refl; address = λ b. refl; command = none }

end_shut : Shut (opener_facts ReadCacheEnd)
end_shut = record { closed = refl; address = λ b. refl; command = none }
  where
    none : (d : Command) → wants_command (opener_facts ReadCacheEnd) d ≡ false
    none ChangeWriteColumn = refl
    none ProgramConfirm = refl
    none ProgramPlane = refl
    none ProgramCache = refl
    none _ = refl

-- in the base profile a 31h that goes is wanted by no tail
lone_31 : (g : Parts) (text : Microprogram) (v : State) (byte : ℕ) → command byte ≡ ReadCacheSequential → is_wide g.optional ≡ false → is_unfit g ReadCacheSequential ≡ false → NoReasons g text v (CommandWord byte) → place_wants ReadCacheSequential v.target.tail ≡ false
lone_31 g text v byte is_d base fit clear = at (place_wants ReadCacheSequential v.target.tail) refl
  where
    at : (b : Bool) → place_wants ReadCacheSequential v.target.tail ≡ b → b ≡ false
    at false e = refl
    at true e =
        let want = wanted g text v byte ReadCacheSequential is_d fit (rw e refl) clear in
        let refused : (not (is_wide g.optional) || may_be_other v.lun.last) ≡ true = ap (λ (w : Bool). not w || may_be_other v.lun.last) base in
        let both : true ≡ false = sym refused ∙ want.not_refused in
        both

pub goes_31 : (s : Channel) (text : Microprogram) (v : State) (r : Run) (c : Lone) (byte : ℕ) → IsFit s text → command byte ≡ ReadCacheSequential → IsLone s r.past c → Mirrors s.geometry (lone_job s.geometry text) v r.done c → NoReasons s.geometry text v (CommandWord byte) → Goes s text (state_after s.geometry v (CommandWord byte)) r (CommandWord byte)
goes_31 s text v r c byte k is_d is m clear =
    let g = s.geometry in
    let j = lone_job s.geometry text in
    let dec = declared g text v byte ReadCacheSequential is_d clear in
    let unplaced = lone_31 g text v byte is_d k.base dec.fit clear in
    let free = or_parts (may_be_open v) (opener_refused g v ReadCacheSequential) (opener_free g text v byte ReadCacheSequential is_d dec.fit (rw unplaced refl) clear) in
    let three = or_parts (not (drives v.target.shows) || v.lun.busy || may_be_other v.lun.last) _ free.1 in
    let two = or_parts (not (drives v.target.shows) || v.lun.busy) (may_be_other v.lun.last) three.0 in
    let one = or_parts (not (drives v.target.shows)) v.lun.busy two.0 in
    let shown : is_off c.view.latch ≡ false = drives_on c.view.latch (sym (ap (λ (o : Option Shown). not (drives o)) m.shows) ∙ one.0) in
    let unwanted = closed_unwanted c.facts (sym (open_same g j v r.done c m) ∙ free.0) in
    let effect : cycle_effect (based g) c.facts c.view.latch (CommandCycle ReadCacheSequential) 0 ≡ CacheReadContinued None = rw (unwanted, shown) refl in
    let after : State = cache_read (record { 0 = 2 }) (next_cached v.lun.cached) v.lun.array data_shown v in
    let leaves : command_leaves g v ReadCacheSequential ≡ after = rw unplaced refl in
    command_goes s text v r c byte ReadCacheSequential k is_d dec.fit is m clear (ap (λ (x : State). x.registers) leaves)
    (subst (λ (x : State). TailMirror g j x.target (now_of j r.done) (lone_behind g (CommandCycle ReadCacheSequential) c)) (sym leaves)
    (shut_tail g j after r.done (lone_behind g (CommandCycle ReadCacheSequential) c) refl (cache_shut (facts_after (CommandCycle ReadCacheSequential) c.facts) (rw unwanted refl))))
    (ap (λ (x : State). x.target.shows) leaves ∙ ap (λ (e : Effect). shows_of (view_after e c.view).latch) (sym effect))
    (subst (λ (x : State). LunMirror g x.lun (index_now 0 r.done) (lone_behind g (CommandCycle ReadCacheSequential) c).view) (sym leaves)
    (subst (λ (e : Effect). LunMirror g after.lun (index_now 0 r.done) (view_after e c.view)) (sym effect)
    (record {
      busy = refl;
      register = refl;
      known = refl;
      column = λ e. record { at = 0; is = refl; bound = refl; read = refl };
      no_column = λ e. cc;
      last = refl;
      queue = m.lun.queue;
      caching = refl;
      other = refl;
      read = λ e. refl;
      cached_page = λ e. ap (λ (o : Option ℕ). bound_plus o 1) (m.lun.cached_page two.1) ∙ kept_plus c.view.array_page.page 1;
      cached_index = λ e. ap (λ (o : Option ℕ). bound_plus o 1) (m.lun.cached_index two.1) ∙ (kept_plus (index_of g c.view.array_page) 1 ∙ ap kept (next_index (c.view.array_page.block / planes g * g.pages) c.view.array_page.page));
      held = λ e. refl;
      programming = refl;
      no_program = refl;
    })))
    (λ e. absurd (queues_none e))
  where
    queues_none : place_queues (command_leaves s.geometry v ReadCacheSequential).target.tail ≡ true → ⊥
    queues_none e = at (place_wants ReadCacheSequential v.target.tail) e
      where
        at : (b : Bool) → place_queues (cond b (cache_read (record { 0 = 2 }) (cached_at v.target.named) (named_plane v.target.named) (shows_after_read s.geometry v.target.shows) v) (cache_read (record { 0 = 2 }) (next_cached v.lun.cached) v.lun.array data_shown v)).target.tail ≡ true → ⊥
        at true e = cc
        at false e = cc

    next_index : (n p : ℕ) → n + p + 1 ≡ n + (p + 1)
    next_index n p = omega arith

pub goes_3f : (s : Channel) (text : Microprogram) (v : State) (r : Run) (c : Lone) (byte : ℕ) → IsFit s text → command byte ≡ ReadCacheEnd → IsLone s r.past c → Mirrors s.geometry (lone_job s.geometry text) v r.done c → NoReasons s.geometry text v (CommandWord byte) → Goes s text (state_after s.geometry v (CommandWord byte)) r (CommandWord byte)
goes_3f s text v r c byte k is_d is m clear =
    let g = s.geometry in
    let j = lone_job s.geometry text in
    let dec = declared g text v byte ReadCacheEnd is_d clear in
    let free = or_parts (may_be_open v) (opener_refused g v ReadCacheEnd) (opener_free g text v byte ReadCacheEnd is_d dec.fit refl clear) in
    let three = or_parts (not (drives v.target.shows) || v.lun.busy || may_be_other v.lun.last) _ free.1 in
    let two = or_parts (not (drives v.target.shows) || v.lun.busy) (may_be_other v.lun.last) three.0 in
    let one = or_parts (not (drives v.target.shows)) v.lun.busy two.0 in
    let shown : is_off c.view.latch ≡ false = drives_on c.view.latch (sym (ap (λ (o : Option Shown). not (drives o)) m.shows) ∙ one.0) in
    let effect : cycle_effect (based g) c.facts c.view.latch (CommandCycle ReadCacheEnd) 0 ≡ CacheReadEnded = rw shown refl in
    command_goes s text v r c byte ReadCacheEnd k is_d dec.fit is m clear refl
    (shut_tail g j (command_leaves g v ReadCacheEnd) r.done (lone_behind g (CommandCycle ReadCacheEnd) c) refl end_shut)
    (ap (λ (e : Effect). shows_of (view_after e c.view).latch) (sym effect))
    (subst (λ (e : Effect). LunMirror g (command_leaves g v ReadCacheEnd).lun (index_now 0 r.done) (view_after e c.view)) (sym effect)
    (record { busy = refl; register = refl; known = refl; column = λ e. record { at = 0; is = refl; bound = refl; read = refl }; no_column = λ e. cc; last = refl; queue = m.lun.queue; caching = refl; other = refl; read = λ e. cc; cached_page = λ e. cc; cached_index = λ e. cc; held = λ e. cc; programming = refl; no_program = refl }))
    (λ e. cc)

-- 7. each command

-- a command that asks for the status isn't for programs
asks_none : (g : Parts) (text : Microprogram) (v : State) (byte : ℕ) (d : Command) → command byte ≡ d → NoReasons g text v (CommandWord byte) → asks_status d ≡ false
unfolding breaks_command_not_allowed
asks_none g text v byte d is_d clear =
    let none = subst (λ (c : Command). (command_not_for_programs g c || continues_unseen (bounds_of text) c) ≡ false) is_d clear.no_command_not_allowed in
    let both = or_parts (command_not_for_programs g d) (continues_unseen (bounds_of text) d) none in
    let two = or_parts (is_unfit g d || asks_status d) (wants_one_lun d && ltb 1 g.luns) both.0 in
    (or_parts (is_unfit g d) (asks_status d) two.0).1

-- a command is exact; of 31h the text is known to have one
pub command_exact : (s : Channel) (text : Microprogram) (v : State) (r : Run) (c : Lone) (byte : ℕ) → IsFit s text → continues_unseen (bounds_of text) (command byte) ≡ false → IsLone s r.past c → Mirrors s.geometry (lone_job s.geometry text) v r.done c → ExactWord s text v r (CommandWord byte)
command_exact s text v r c byte k seen is m =
    record { cause = command_cause s text v r c byte k is m seen; goes = λ e f. by (command byte) refl (no_reasons s.geometry text v (CommandWord byte) e) }
  where
    by : (d : Command) → command byte ≡ d → NoReasons s.geometry text v (CommandWord byte) → Goes s text (state_after s.geometry v (CommandWord byte)) r (CommandWord byte)
    by Read is_d clear = goes_00 s text v r c byte k is_d is m clear
    by ReadConfirm is_d clear = goes_30 s text v r c byte k is_d is m clear
    by ChangeReadColumn is_d clear = goes_05 s text v r c byte k is_d is m clear
    by ChangeReadColumnConfirm is_d clear = goes_e0 s text v r c byte k is_d is m clear
    by BlockErase is_d clear = goes_60 s text v r c byte k is_d is m clear
    by BlockEraseConfirm is_d clear = goes_d0 s text v r c byte k is_d is m clear
    by BlockErasePlane is_d clear = goes_d1 s text v r c byte k is_d is m clear
    by StatusCommand is_d clear = let none = asks_none s.geometry text v byte StatusCommand is_d clear in cc
    by ReadStatusEnhanced is_d clear = let none = asks_none s.geometry text v byte ReadStatusEnhanced is_d clear in cc
    by PageProgram is_d clear = goes_80 s text v r c byte k is_d is m clear
    by ChangeWriteColumn is_d clear = goes_85 s text v r c byte k is_d is m clear
    by ProgramConfirm is_d clear = goes_10 s text v r c byte k is_d is m clear
    by ProgramPlane is_d clear = goes_11 s text v r c byte k is_d is m clear
    by ProgramCache is_d clear = absurd (barred (is_wide s.geometry.optional) (not (has_program_cache s.geometry.optional)) k.base (declared s.geometry text v byte ProgramCache is_d clear).fit)
    by ReadId is_d clear = goes_90 s text v r c byte k is_d is m clear
    by ReadParameterPage is_d clear = goes_ec s text v r c byte k is_d is m clear
    by Reset is_d clear = goes_ff s text v r c byte k is_d is m clear
    by ReadCacheSequential is_d clear = goes_31 s text v r c byte k is_d is m clear
    by ReadCacheEnd is_d clear = goes_3f s text v r c byte k is_d is m clear
    by ChangeReadColumnEnhanced is_d clear = absurd (barred (is_wide s.geometry.optional) (not (has_enhanced_column s.geometry.optional)) k.base (declared s.geometry text v byte ChangeReadColumnEnhanced is_d clear).fit)
    by ReadPlane is_d clear = absurd (barred (is_wide s.geometry.optional) (not (has_plane_reads s.geometry.optional)) k.base (declared s.geometry text v byte ReadPlane is_d clear).fit)
    by CopybackRead is_d clear = absurd (barred (is_wide s.geometry.optional) (not (has_copyback s.geometry.optional)) k.base (declared s.geometry text v byte CopybackRead is_d clear).fit)
    by ReadUniqueId is_d clear = absurd (barred (is_wide s.geometry.optional) (not (has_unique_id s.geometry.optional)) k.base (declared s.geometry text v byte ReadUniqueId is_d clear).fit)
    by GetFeatures is_d clear = absurd (barred (is_wide s.geometry.optional) (not (has_features s.geometry.optional)) k.base (declared s.geometry text v byte GetFeatures is_d clear).fit)
    by SetFeatures is_d clear = absurd (barred (is_wide s.geometry.optional) (not (has_features s.geometry.optional)) k.base (declared s.geometry text v byte SetFeatures is_d clear).fit)
    by ResetLun is_d clear = absurd (barred (is_wide s.geometry.optional) (not (has_lun_reset s.geometry.optional)) k.base (declared s.geometry text v byte ResetLun is_d clear).fit)
    by SynchronousReset is_d clear = absurd (barred (is_wide s.geometry.optional) (not (has_synchronous_reset s.geometry.optional)) k.base (declared s.geometry text v byte SynchronousReset is_d clear).fit)
    by UnknownCommand is_d clear = let none = (declared s.geometry text v byte UnknownCommand is_d clear).fit in cc
