-- The shape of the theorem: a claim that mirrors the lazy run goes on mirroring it, word by word, and where a word is refused the cause stands.
use Rattle.std.proofs.Common.{◌≡◌, ℕ, suc, ◌+◌, ◌%◌, ◌≤◌, Bool, true, false, ◌&&◌, ◌||◌, cond, not, ltb, nat_le, List, [], ◌∷◌, Option, Some, None, refl, sym, ap, ◌∙◌, subst, arith, take, length}
use Rattle.std.specs.List.{slice_get}
use Rattle.nand_geometry.specs.declared.parts.Parts.{Parts}
use Rattle.nand_geometry.specs.Optional.{is_wide}
use Rattle.nand_geometry.specs.Limits.{indices}
use Rattle.onfi_cycle.specs.declared.command.Command.{Command}
use Rattle.onfi_cycle.specs.declared.command.Command.TheVariants.{ChangeWriteColumn, ProgramConfirm, ProgramPlane, ProgramCache}
use Rattle.onfi_cycle.specs.LunView.{LunView}
use Rattle.onfi_cycle.specs.Sequence.{facts_of, is_open, wants_command}
use Rattle.onfi_cycle.specs.Lun.{lun_view, is_cache_read}
use Rattle.onfi_cycle.specs.Rules.{has_some}
use Rattle.onfi_cycle.specs.Permitted.{is_legal}
use Rattle.onfi_cycle.specs.Channel.{Channel}
use Rattle.micro_word.specs.declared.word.Word.{Word}
use Rattle.micro_word.specs.declared.word.Word.TheVariants.{End}
use Rattle.micro_word.specs.Text.{Microprogram}
use Rattle.micro_claims.specs.declared.refusal.Fault.{Fault}
use Rattle.micro_claims.specs.declared.refusal.Reason.{Reason}
use Rattle.micro_claims.specs.declared.refusal.Reason.TheVariants.{CycleForbidden, AddressUnaligned, HandoverInSequence, BufferPassed, RowOrPlaneOutside, ColumnTooLarge, NoStatus, EndsTooSoon, OverBudget, CommandNotAllowed}
use Rattle.micro_program.specs.Program.{cost, cost_now}
use Rattle.micro_program.specs.Moves.{and_then}
use Rattle.micro_program.specs.Safe.{is_end}
use Rattle.micro_claims.specs.declared.state.State.{State}
use Rattle.micro_claims.specs.declared.page_range.PageRange.{PageRange}
use Rattle.micro_claims.specs.State.{first_state, bounds_of}
use Rattle.micro_claims.specs.Spans.{greatest_bound, bound_plus, is_at_most}
use Rattle.micro_claims.specs.Against.{may_be_unready}
use Rattle.micro_claims.specs.Reasons.{reason_against, breaks_cycle_forbidden, breaks_address_unaligned, breaks_handover_in_sequence, breaks_buffer_passed, breaks_row_or_plane_outside, breaks_column_too_large, breaks_no_status, breaks_ends_too_soon, breaks_over_budget, breaks_command_not_allowed}
use Rattle.micro_claims.specs.Accepts.{state_after}
use Rattle.micro_walk.specs.Faults.{onward, fault_or, walked}
use Rattle.micro_verify.specs.Lazy.{the_lun, lone_job, Run, run_word, run_words}
use Rattle.micro_verify.specs.Cause.{Cause, no_end, ends_unready, costs_too_much}
use Rattle.micro_claims.proofs.Tails.{no_address}
use Rattle.micro_verify.proofs.Lone.{Lone, IsAlone, IsLone}
use Rattle.micro_verify.proofs.Mirrors.{Mirrors, RegistersMirror, Shut, exact_test, open_same, queue_same}
use Rattle.std.proofs.Math.Bool.{or-false}

-- 1. the shape

-- the run with the word more is there, and mirrored
pub record Goes (s : Channel) (text : Microprogram) (v : State) (r : Run) (word : Word) : Type 0 where
  pub run : Run
  pub is_run : run_word s (lone_job s.geometry text) word r ≡ Some run
  pub longer : length run.done ≡ suc (length r.done)
  pub now : Lone
  pub is : IsLone s run.past now
  pub mirrors : Mirrors s.geometry (lone_job s.geometry text) v run.done now

-- a word whose claim is exact: where it is refused its cause stands, and else it goes
pub record ExactWord (s : Channel) (text : Microprogram) (v : State) (r : Run) (word : Word) : Type 0 where
  pub cause : (reason : Reason) → reason_against s.geometry (bounds_of text) v word ≡ Some reason → Cause s (lone_job s.geometry text) r word reason
  pub goes : reason_against s.geometry (bounds_of text) v word ≡ None → is_end word ≡ false → Goes s text (state_after s.geometry v word) r word

-- what each word of a text is exact under
pub record IsFit (s : Channel) (text : Microprogram) : Type 0 where
  pub alone : IsAlone s
  pub one : ltb 1 s.geometry.luns ≡ false
  pub base : is_wide s.geometry.optional ≡ false
  pub budget : text.budget ≤ greatest_bound
  pub rows : text.rows ≤ greatest_bound
  pub buffer : text.buffer ≤ greatest_bound
  pub pages : s.geometry.pages ≤ greatest_bound
  -- the rows of the text are there
  pub inside : text.rows ≤ indices s.geometry

-- wherever a claim mirrors a run, behind no more words than a text may have
abbrev pub IsExact : Channel → Microprogram → Word → Type 0
IsExact s text word =
    (v : State) (r : Run) (c : Lone) → length r.done ≤ 32768 → IsLone s r.past c → Mirrors s.geometry (lone_job s.geometry text) v r.done c → ExactWord s text v r word

abbrev pub AreExact : Channel → Microprogram → List Word → Type 0
AreExact s text [] = Unit {0}
AreExact s text (word ∷ words) = IsExact s text word × AreExact s text words

-- the cause of a refusal among these words, behind this run
pub record CauseAmong (s : Channel) (text : Microprogram) (at : ℕ) (words : List Word) (before : Run) (fault : Fault) : Type 0 where
  pub count : ℕ
  pub is_at : fault.word ≡ at + count
  pub word : Word
  pub there : slice_get words count ≡ Some word
  pub no_end : no_end (take count words) ≡ true
  pub run : Run
  pub is_run : run_words s (lone_job s.geometry text) (take count words) before ≡ Some run
  pub legal : is_legal s.geometry s.targets run.past ≡ true
  pub cause : Cause s (lone_job s.geometry text) run word fault.reason

-- nothing is against words that no way leads to
none_walked : (g : Parts) (text : Microprogram) (at : ℕ) (words : List Word) → walked g (bounds_of text) at None words ≡ None
none_walked g text at [] = refl
none_walked g text at (word ∷ words) = none_walked g text (at + 1) words

pub causes_among : (s : Channel) (text : Microprogram) (words : List Word) (at : ℕ) (v : State) (r : Run) (c : Lone) (fault : Fault) → AreExact s text words → length r.done + length words ≤ 32768 → IsLone s r.past c → Mirrors s.geometry (lone_job s.geometry text) v r.done c → walked s.geometry (bounds_of text) at (Some v) words ≡ Some fault → CauseAmong s text at words r fault
causes_among s text [] at v r c fault exact few is m h = cc
causes_among s text (word ∷ words) at v r c fault exact few is m h =
    by (reason_against s.geometry (bounds_of text) v word) refl h (λ w f. causes_among s text words (at + 1) (state_after s.geometry v word) w.run w.now fault exact.1 (fewer w) w.is w.mirrors f)
  where
    fewer : (w : Goes s text (state_after s.geometry v word) r word) → length w.run.done + length words ≤ 32768
    fewer w = let more = w.longer in omega (arith, more, few)

    x : ExactWord s text v r word
    x = exact.0 v r c (omega (arith, few)) is m

    Later : Type 0
    Later = (w : Goes s text (state_after s.geometry v word) r word) → walked s.geometry (bounds_of text) (at + 1) (Some (state_after s.geometry v word)) words ≡ Some fault → CauseAmong s text (at + 1) words w.run fault

    further : (w : Goes s text (state_after s.geometry v word) r word) → is_end word ≡ false → CauseAmong s text (at + 1) words w.run fault → CauseAmong s text at (word ∷ words) r fault
    further w e q =
        record {
          count = suc q.count;
          is_at = let i : fault.word ≡ at + 1 + q.count = q.is_at in omega (arith, i);
          word = q.word;
          there = q.there;
          no_end = rw e q.no_end;
          run = q.run;
          is_run = ap (λ (o : Option Run). and_then o (run_words s (lone_job s.geometry text) (take q.count words))) w.is_run ∙ q.is_run;
          legal = q.legal;
          cause = q.cause;
        }

    by : (o : Option Reason) → reason_against s.geometry (bounds_of text) v word ≡ o → fault_or o at (walked s.geometry (bounds_of text) (at + 1) (onward s.geometry (Some v) word) words) ≡ Some fault → Later → CauseAmong s text at (word ∷ words) r fault
    by (Some reason) e h later =
        let named : Fault = record { word = at; reason = reason } in
        let same : named ≡ fault = cc in
        subst (λ (f : Fault). CauseAmong s text at (word ∷ words) r f) same
        (record { count = 0; is_at = omega arith; word = word; there = refl; no_end = refl; run = r; is_run = refl; legal = is.legal; cause = x.cause reason e })
    by None e h later = ends (is_end word) refl h
      where
        ends : (b : Bool) → is_end word ≡ b → walked s.geometry (bounds_of text) (at + 1) (cond b None (Some (state_after s.geometry v word))) words ≡ Some fault → CauseAmong s text at (word ∷ words) r fault
        ends true f h = let none = sym (none_walked s.geometry text (at + 1) words) ∙ h in cc
        ends false f h = let w = x.goes e f in further w f (later w h)

-- 2. at first

empty_shut : Shut (facts_of [])
empty_shut = record { closed = refl; address = λ b. refl; command = none }
  where
    none : (d : Command) → wants_command (facts_of []) d ≡ false
    none ChangeWriteColumn = refl
    none ProgramConfirm = refl
    none ProgramPlane = refl
    none ProgramCache = refl
    none _ = refl

abbrev pub first_lone : Parts → Lone
first_lone g = record { facts = facts_of []; view = lun_view g [] the_lun }

pub first_mirrors : (g : Parts) (text : Microprogram) → 1 ≤ g.pages → Mirrors g (lone_job g text) first_state [] (first_lone g)
first_mirrors g text pages =
    record {
      registers = record { column = record { lo = refl; hi = refl }; column_low = omega arith; planes = refl; plane_low = omega arith; index = record { lo = refl; hi = refl }; index_low = omega arith; page = zero_page; place = refl; cost = refl };
      tail = record { place = _; single = refl; address = no_address; is = empty_shut; now = λ e. cc; column = λ e. cc; row = λ e. cc; named = λ e. cc; base = refl; changes = λ e. cc };
      shows = refl;
      along = λ e. cc;
      lun = record { busy = refl; register = refl; known = refl; column = λ e. cc; no_column = λ e. refl; last = refl; queue = refl; caching = refl; other = refl; read = λ e. cc; cached_page = λ e. cc; cached_index = λ e. cc; held = λ e. cc; programming = refl; no_program = refl };
    }
  where
    zero_is : 0 % g.pages ≡ 0
    zero_is = omega (arith, pages)

    first_page : PageRange
    first_page = record { lo = 0; hi = 0 }

    zero_page : first_page ≡ record { lo = 0 % g.pages; hi = 0 % g.pages }
    zero_page = λ i. record { lo = sym zero_is i; hi = sym zero_is i }

-- 3. reasons of a word

-- what each reason says of a word
abbrev pub reason_holds : Parts → Microprogram → State → Word → Reason → Bool
reason_holds g text v word CycleForbidden = breaks_cycle_forbidden g v word
reason_holds g text v word AddressUnaligned = breaks_address_unaligned v word
reason_holds g text v word HandoverInSequence = breaks_handover_in_sequence v word
reason_holds g text v word BufferPassed = breaks_buffer_passed text.buffer v word
reason_holds g text v word RowOrPlaneOutside = breaks_row_or_plane_outside g text.rows v word
reason_holds g text v word ColumnTooLarge = breaks_column_too_large g v word
reason_holds g text v word NoStatus = breaks_no_status v word
reason_holds g text v word EndsTooSoon = breaks_ends_too_soon v word
reason_holds g text v word OverBudget = breaks_over_budget g text.budget v word
reason_holds g text v word CommandNotAllowed = breaks_command_not_allowed g (bounds_of text) word
reason_holds g text v word _ = false

either : (b : Bool) (r reason : Reason) (o : Option Reason) (holds : Reason → Bool) → holds r ≡ b → (o ≡ Some reason → holds reason ≡ true) → cond b (Some r) o ≡ Some reason → holds reason ≡ true
either true r reason o holds is more h = let same : r ≡ reason = cc in subst (λ (x : Reason). holds x ≡ true) same is
either false r reason o holds is more h = more h

pub reason_is : (g : Parts) (text : Microprogram) (v : State) (word : Word) (reason : Reason) → reason_against g (bounds_of text) v word ≡ Some reason → reason_holds g text v word reason ≡ true
unfolding reason_against
reason_is g text v word reason h =
    either _ CycleForbidden reason _ (reason_holds g text v word) refl
    (either _ AddressUnaligned reason _ (reason_holds g text v word) refl
    (either _ HandoverInSequence reason _ (reason_holds g text v word) refl
    (either _ BufferPassed reason _ (reason_holds g text v word) refl
    (either _ RowOrPlaneOutside reason _ (reason_holds g text v word) refl
    (either _ ColumnTooLarge reason _ (reason_holds g text v word) refl
    (either _ NoStatus reason _ (reason_holds g text v word) refl
    (either _ EndsTooSoon reason _ (reason_holds g text v word) refl
    (either _ OverBudget reason _ (reason_holds g text v word) refl
    (either _ CommandNotAllowed reason _ (reason_holds g text v word) refl (λ e. cc)))))))))) h

-- the budget: of each word
pub cost_cause : (g : Parts) (v : State) (r : Run) (word : Word) (budget : ℕ) → budget ≤ greatest_bound → RegistersMirror g v.registers r.done → breaks_over_budget g budget v word ≡ true → costs_too_much g budget r word ≡ true
unfolding breaks_over_budget
cost_cause g v r word budget low m h =
    let exact : is_at_most (bound_plus v.registers.cost.hi (cost g word)) budget ≡ nat_le (cost_now g r.done + cost g word) budget =
    ap (λ (o : Option ℕ). is_at_most (bound_plus o (cost g word)) budget) m.cost ∙ exact_test (cost_now g r.done) (cost g word) budget low in
    ap (λ (b : Bool). ltb 0 (cost g word) && not b) (sym exact) ∙ h

-- 4. end

pub end_exact : (s : Channel) (text : Microprogram) (v : State) (r : Run) (c : Lone) (code : ℕ) → IsLone s r.past c → Mirrors s.geometry (lone_job s.geometry text) v r.done c → ExactWord s text v r (End code)
unfolding breaks_cycle_forbidden breaks_address_unaligned breaks_handover_in_sequence breaks_buffer_passed breaks_row_or_plane_outside breaks_column_too_large breaks_no_status breaks_ends_too_soon breaks_over_budget breaks_command_not_allowed
end_exact s text v r c code is m =
    record { cause = λ reason e. by reason (reason_is s.geometry text v (End code) reason e); goes = λ e f. cc }
  where
    g : Parts
    g = s.geometry

    unready : may_be_unready v ≡ ends_unready g r (End code)
    unready = (λ i. (m.lun.busy ∙ sym (ap (λ (w : LunView). w.busy) is.view)) i || (open_same g (lone_job g text) v r.done c m ∙ sym (ap is_open is.facts)) i || (queue_same g _ v.lun.queue c.view.queue m.lun.queue ∙ sym (ap (λ (w : LunView). has_some w.queue) is.view)) i || (m.lun.caching ∙ sym (ap (λ (w : LunView). is_cache_read w.closer) is.view)) i || m.lun.programming i) ∙ or-false (ends_unready g r (End code))

    by : (reason : Reason) → reason_holds g text v (End code) reason ≡ true → Cause s (lone_job g text) r (End code) reason
    by EndsTooSoon h = sym unready ∙ h
    by _ h = cc

-- 5. lower reasons

passed_over : (b : Bool) (x reason : Reason) (o : Option Reason) → cond b (Some x) o ≡ Some reason → (x ≡ reason → ⊥) → (b ≡ false) × (o ≡ Some reason)
passed_over true x reason o h other = let same : x ≡ reason = cc in absurd (other same)
passed_over false x reason o h other = (refl, h)

-- where V11 is named V7 doesn't hold
pub lowest_row_or_plane_outside : (g : Parts) (text : Microprogram) (v : State) (word : Word) → reason_against g (bounds_of text) v word ≡ Some RowOrPlaneOutside → breaks_cycle_forbidden g v word ≡ false
unfolding reason_against
lowest_row_or_plane_outside g text v word h = (passed_over (breaks_cycle_forbidden g v word) CycleForbidden RowOrPlaneOutside _ h (λ e. cc)).0

pub record BelowV12 (g : Parts) (text : Microprogram) (v : State) (word : Word) : Type 0 where
  pub no_cycle_forbidden : breaks_cycle_forbidden g v word ≡ false
  pub no_address_unaligned : breaks_address_unaligned v word ≡ false
  pub no_buffer_passed : breaks_buffer_passed text.buffer v word ≡ false
  pub no_row_or_plane_outside : breaks_row_or_plane_outside g text.rows v word ≡ false

-- where V12 is named no lower reason holds
pub lowest_column_too_large : (g : Parts) (text : Microprogram) (v : State) (word : Word) → reason_against g (bounds_of text) v word ≡ Some ColumnTooLarge → BelowV12 g text v word
unfolding reason_against
lowest_column_too_large g text v word h =
    let p7 = passed_over (breaks_cycle_forbidden g v word) CycleForbidden ColumnTooLarge _ h (λ e. cc) in
    let p8 = passed_over (breaks_address_unaligned v word) AddressUnaligned ColumnTooLarge _ p7.1 (λ e. cc) in
    let p9 = passed_over (breaks_handover_in_sequence v word) HandoverInSequence ColumnTooLarge _ p8.1 (λ e. cc) in
    let p10 = passed_over (breaks_buffer_passed text.buffer v word) BufferPassed ColumnTooLarge _ p9.1 (λ e. cc) in
    let p11 = passed_over (breaks_row_or_plane_outside g text.rows v word) RowOrPlaneOutside ColumnTooLarge _ p10.1 (λ e. cc) in
    record { no_cycle_forbidden = p7.0; no_address_unaligned = p8.0; no_buffer_passed = p10.0; no_row_or_plane_outside = p11.0 }
