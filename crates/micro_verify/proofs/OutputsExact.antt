-- Outputs are exact: at which one a `get` stops, and what it leaves.
use Rattle.std.proofs.lemmas.Bool.Decides.{nat_tests}
use Rattle.std.proofs.Common.{◌≡◌, ℕ, zero, suc, ◌+◌, ◌-◌, ◌≤◌, ◌<◌, Bool, true, false, ◌&&◌, ◌||◌, cond, not, ltb, nat_le, List, [], ◌∷◌, ◌++◌, Option, Some, None, refl, sym, ap, ◌∙◌, subst, arith, replicate, take}
use Rattle.std.proofs.lemmas.Bool.{not-false, not-true, or_parts}
use Rattle.nand_geometry.specs.declared.parts.Parts.{Parts}
use Rattle.onfi_cycle.specs.declared.forbidden.Forbidden.{Forbidden}
use Rattle.onfi_cycle.specs.declared.forbidden.Forbidden.TheVariants.{NoSoleDriver, DataNotReady, ColumnOutside}
use Rattle.onfi_cycle.specs.declared.latch.Latch.{Latch}
use Rattle.onfi_cycle.specs.declared.latch.Latch.TheVariants.{Off, Status, Data}
use Rattle.onfi_cycle.specs.declared.read_column.ReadColumn.{ReadColumn}
use Rattle.onfi_cycle.specs.declared.register.Register.{Register}
use Rattle.onfi_cycle.specs.declared.register.Register.TheVariants.{Empty, Page, ParameterPage, Identifier, Identity, JedecIdentity, UniqueId, Features}
use Rattle.onfi_cycle.specs.declared.tail_facts.TailFacts.{TailFacts}
use Rattle.onfi_cycle.specs.declared.target_cycle.TargetCycle.TheVariants.{AddressCycle, OutputCycle}
use Rattle.onfi_cycle.specs.LunView.{LunView}
use Rattle.onfi_cycle.specs.Sequence.{facts_after, extended_facts, is_open}
use Rattle.onfi_cycle.specs.Lun.{output_column, option_plus}
use Rattle.onfi_cycle.specs.Rules.{register_len, is_empty, lacks, breaks_command_unknown, breaks_sequence_open, breaks_several_luns, breaks_no_column_to_change, breaks_command_misplaced, breaks_address_misplaced, breaks_row_outside, breaks_lun_busy, breaks_queue_clash, breaks_input_misplaced, breaks_no_sole_driver, breaks_data_not_ready, breaks_column_outside, breaks_cache_read_misplaced, breaks_cache_program_misplaced, breaks_copyback_misplaced, breaks_plane_not_held}
use Rattle.onfi_cycle.specs.Channel.{Channel}
use Rattle.micro_word.specs.declared.word.Word.TheVariants.{Get}
use Rattle.micro_word.specs.Text.{Microprogram}
use Rattle.micro_claims.specs.declared.refusal.Reason.{Reason}
use Rattle.micro_claims.specs.declared.refusal.Reason.TheVariants.{CycleForbidden, BufferPassed, ColumnTooLarge, OverBudget}
use Rattle.micro_program.specs.Program.{Job, Answer, place_now, index_now}
use Rattle.micro_program.specs.Moves.{Move, Take}
use Rattle.micro_claims.specs.declared.state.State.{State}
use Rattle.micro_claims.specs.declared.place.Place.{Place}
use Rattle.micro_claims.specs.declared.place.Place.TheVariants.{Closed, After, InData, InColumn, InFeatures, Unknown}
use Rattle.micro_claims.specs.declared.output_column.OutputColumn.{OutputColumn}
use Rattle.micro_claims.specs.declared.shown.Shown.{Shown}
use Rattle.micro_claims.specs.State.{bounds_of}
use Rattle.micro_claims.specs.Spans.{greatest_bound, kept, bound_plus, is_at_most, plus, plus_between}
use Rattle.micro_claims.specs.Against.{drives, may_show_data, has_register, has_column, column_bound, least_length, output_refused, output_past}
use Rattle.micro_claims.specs.Leaves.{column_read, paid}
use Rattle.micro_claims.specs.Reasons.{reason_against, breaks_cycle_forbidden, breaks_address_unaligned, breaks_handover_in_sequence, breaks_buffer_passed, breaks_row_or_plane_outside, breaks_column_too_large, breaks_no_status, breaks_ends_too_soon, breaks_command_not_allowed}
use Rattle.micro_claims.specs.Accepts.{state_after}
use Rattle.micro_claims.proofs.Fits.{Address, facts_behind, bytes_of, opener_facts}
use Rattle.micro_claims.proofs.Sounding.{no_reasons}
use Rattle.micro_claims.proofs.Transfers.{read_on, read_one}
use Rattle.micro_verify.specs.Lazy.{lone_job, Run}
use Rattle.micro_verify.specs.Cause.{Cause, WordStops, is_of_cycle_forbidden, is_of_column_too_large}
use Rattle.micro_verify.proofs.Lone.{Lone, IsAlone, IsLone, MovesPass, lone_after, lone_behind, judged, stops_there}
use Rattle.micro_verify.proofs.Mirrors.{Mirrors, RegistersMirror, LunMirror, PlaceMirror, Shut, shows_of, held_of, is_modelled, ColumnMirror, ColumnIs, kept_plus, exact_test, open_same}
use Rattle.micro_verify.proofs.Causes.{Goes, ExactWord, IsFit, reason_holds, reason_is, cost_cause, lowest_column_too_large}
use Rattle.micro_verify.proofs.WordsExact.{goes_by, shut_tail, registers_moved}
use Rattle.micro_verify.proofs.CommandsExact.{shut_facts}

-- 1. what an output is judged

-- an output is out of place
abbrev pub is_unseen : Lone → Bool
is_unseen c = is_open c.facts || not (drives (shows_of c.view.latch)) || (may_show_data (shows_of c.view.latch) && (c.view.busy || is_empty c.view.register || lacks (output_column c.view.column)))

abbrev pub OutputStops : Parts → Lone → Type 0
OutputStops g c = (rule : Forbidden) × ((judged g c OutputCycle ≡ Some rule) × (is_of_cycle_forbidden rule ≡ true))

unseen_stops : (g : Parts) (c : Lone) → is_unseen c ≡ true → OutputStops g c
unfolding breaks_command_unknown breaks_sequence_open breaks_several_luns breaks_no_column_to_change breaks_command_misplaced breaks_address_misplaced breaks_row_outside breaks_lun_busy breaks_queue_clash breaks_input_misplaced breaks_no_sole_driver breaks_data_not_ready breaks_column_outside breaks_cache_read_misplaced breaks_cache_program_misplaced breaks_copyback_misplaced breaks_plane_not_held
unseen_stops g c h = at (is_open c.facts) refl c.view.latch refl (c.view.busy || is_empty c.view.register || lacks (output_column c.view.column)) refl
  where
    at : (o : Bool) → is_open c.facts ≡ o → (x : Latch) → c.view.latch ≡ x → (b : Bool) → (c.view.busy || is_empty c.view.register || lacks (output_column c.view.column)) ≡ b → OutputStops g c
    at true e x k b f = (NoSoleDriver, (rw e refl, refl))
    at false e Off k b f = (NoSoleDriver, (rw (e, k) refl, refl))
    at false e Status k b f = let none : is_unseen c ≡ false = rw (e, k) refl in let both : true ≡ false = sym h ∙ none in cc
    at false e Data k true f = (DataNotReady, (rw (e, k, f) refl, refl))
    at false e Data k false f = let none : is_unseen c ≡ false = rw (e, k, f) refl in let both : true ≡ false = sym h ∙ none in cc

-- outputs of a status
record ShowsStatus (c : Lone) : Type 0 where
  closed : is_open c.facts ≡ false
  latch : c.view.latch ≡ Status

-- outputs of data from a column on
record ShowsData (c : Lone) (at : ℕ) : Type 0 where
  closed : is_open c.facts ≡ false
  latch : c.view.latch ≡ Data
  ready : c.view.busy ≡ false
  held : is_empty c.view.register ≡ false
  column : output_column c.view.column ≡ Some at

status_judged : (g : Parts) (c : Lone) → ShowsStatus c → judged g c OutputCycle ≡ None
unfolding breaks_command_unknown breaks_sequence_open breaks_several_luns breaks_no_column_to_change breaks_command_misplaced breaks_address_misplaced breaks_row_outside breaks_lun_busy breaks_queue_clash breaks_input_misplaced breaks_no_sole_driver breaks_data_not_ready breaks_column_outside breaks_cache_read_misplaced breaks_cache_program_misplaced breaks_copyback_misplaced breaks_plane_not_held
status_judged g c k = rw (k.closed, k.latch) refl

data_judged : (g : Parts) (c : Lone) (at : ℕ) → ShowsData c at → judged g c OutputCycle ≡ cond (nat_le (register_len g c.view.register) at) (Some ColumnOutside) None
unfolding breaks_command_unknown breaks_sequence_open breaks_several_luns breaks_no_column_to_change breaks_command_misplaced breaks_address_misplaced breaks_row_outside breaks_lun_busy breaks_queue_clash breaks_input_misplaced breaks_no_sole_driver breaks_data_not_ready breaks_column_outside breaks_cache_read_misplaced breaks_cache_program_misplaced breaks_copyback_misplaced breaks_plane_not_held
data_judged g c at k = rw (k.closed, k.latch, k.ready, k.held, k.column) refl

-- 2. so many outputs

closed_after : (t : TailFacts) → is_open t ≡ false → is_open (facts_after OutputCycle t) ≡ false
closed_after t h = at t.is_empty refl
  where
    at : (b : Bool) → t.is_empty ≡ b → is_open (cond t.is_empty t (extended_facts OutputCycle t)) ≡ false
    at true e = rw e h
    at false e = rw e refl

-- nothing goes on with what an output leaves
shut_after : (t : TailFacts) → (t.is_empty ≡ true → Shut t) → Shut (facts_after OutputCycle t)
shut_after t h = at t.is_empty refl
  where
    at : (b : Bool) → t.is_empty ≡ b → Shut (facts_after OutputCycle t)
    at true e = subst (λ (b : Bool). Shut (cond b t (extended_facts OutputCycle t))) (sym e) (h e)
    at false e = shut_facts (facts_after OutputCycle t) (rw e refl) (rw e refl)

record Outputs (g : Parts) (n : ℕ) (c : Lone) (view : LunView) : Type 0 where
  pass : MovesPass g (replicate n Take) c
  view_is : (lone_after g (replicate n Take) c).view ≡ view
  closed : is_open (lone_after g (replicate n Take) c).facts ≡ false
  shut : 1 ≤ n → Shut (lone_after g (replicate n Take) c).facts

status_behind : (g : Parts) (c : Lone) → ShowsStatus c → lone_behind g OutputCycle c ≡ record { facts = facts_after OutputCycle c.facts; view = c.view }
status_behind g c k = let x = k.latch in rw x refl

data_behind : (g : Parts) (c : Lone) (at : ℕ) → ShowsData c at → lone_behind g OutputCycle c ≡ record { facts = facts_after OutputCycle c.facts; view = read_on 1 c.view }
data_behind g c at k = let x = k.latch in rw x refl

status_outputs : (g : Parts) (n : ℕ) (c : Lone) → ShowsStatus c → (c.facts.is_empty ≡ true → Shut c.facts) → Outputs g n c c.view
status_outputs g zero c k h = record { pass = tt; view_is = refl; closed = k.closed; shut = λ e. absurd (omega (arith, e)) }
status_outputs g (suc n) c k h =
    let next : Lone = record { facts = facts_after OutputCycle c.facts; view = c.view } in
    let shut : Shut next.facts = shut_after c.facts h in
    let rest = status_outputs g n next (record { closed = closed_after c.facts k.closed; latch = k.latch }) (λ e. shut) in
    let back = sym (status_behind g c k) in
    record {
      pass = (status_judged g c k, subst (λ (x : Lone). MovesPass g (replicate n Take) x) back rest.pass);
      view_is = subst (λ (x : Lone). (lone_after g (replicate n Take) x).view ≡ c.view) back rest.view_is;
      closed = subst (λ (x : Lone). is_open (lone_after g (replicate n Take) x).facts ≡ false) back rest.closed;
      shut = λ e. subst (λ (x : Lone). Shut (lone_after g (replicate n Take) x).facts) back (shut_on n next shut rest.shut);
    }
  where
    shut_on : (n : ℕ) (x : Lone) → Shut x.facts → (1 ≤ n → Shut (lone_after g (replicate n Take) x).facts) → Shut (lone_after g (replicate n Take) x).facts
    shut_on zero x s h = s
    shut_on (suc n) x s h = h (omega arith)

data_outputs : (g : Parts) (n : ℕ) (c : Lone) (at : ℕ) → ShowsData c at → (c.facts.is_empty ≡ true → Shut c.facts) → at + n ≤ register_len g c.view.register → Outputs g n c (read_on n c.view)
data_outputs g zero c at k h inside =
    let none : c.view.column.outputs ≡ c.view.column.outputs + 0 = omega arith in
    record { pass = tt; view_is = ap (λ (m : ℕ). record c.view { column = record c.view.column { outputs = m } }) none; closed = k.closed; shut = λ e. absurd (omega (arith, e)) }
data_outputs g (suc n) c at k h inside =
    let next : Lone = record { facts = facts_after OutputCycle c.facts; view = read_on 1 c.view } in
    let shut : Shut next.facts = shut_after c.facts h in
    let rest = data_outputs g n next (at + 1) (record { closed = closed_after c.facts k.closed; latch = k.latch; ready = k.ready; held = k.held; column = read_one c.view.column at k.column }) (λ e. shut) (omega (arith, inside)) in
    let back = sym (data_behind g c at k) in
    let number : c.view.column.outputs + 1 + n ≡ c.view.column.outputs + suc n = omega arith in
    let low : nat_le (register_len g c.view.register) at ≡ false = grind (arith, nat_tests, inside) in
    record {
      pass = (data_judged g c at k ∙ ap (λ (b : Bool). cond b (Some ColumnOutside) None) low, subst (λ (x : Lone). MovesPass g (replicate n Take) x) back rest.pass);
      view_is = subst (λ (x : Lone). (lone_after g (replicate n Take) x).view ≡ read_on (suc n) c.view) back (rest.view_is ∙ ap (λ (m : ℕ). record c.view { column = record c.view.column { outputs = m } }) number);
      closed = subst (λ (x : Lone). is_open (lone_after g (replicate n Take) x).facts ≡ false) back rest.closed;
      shut = λ e. subst (λ (x : Lone). Shut (lone_after g (replicate n Take) x).facts) back (shut_on n next shut rest.shut);
    }
  where
    shut_on : (n : ℕ) (x : Lone) → Shut x.facts → (1 ≤ n → Shut (lone_after g (replicate n Take) x).facts) → Shut (lone_after g (replicate n Take) x).facts
    shut_on zero x s h = s
    shut_on (suc n) x s h = h (omega arith)

-- 3. by the claim

begun_behind : (bytes : List ℕ) (t : TailFacts) → t.is_empty ≡ false → (facts_behind t bytes).is_empty ≡ false
begun_behind [] t e = e
begun_behind (b ∷ bytes) t e = begun_behind bytes (facts_after (AddressCycle b) t) (rw e refl)

-- a tail without a cycle, where nothing is open
shut_where : (p : Place) (a : Address) (t : TailFacts) → PlaceMirror p a t → t.is_empty ≡ true → Shut t
shut_where Closed a t is e = is
shut_where (After o n) a t is e = let some : t.is_empty ≡ false = ap (λ (x : TailFacts). x.is_empty) is.facts ∙ begun_behind (take n (bytes_of o a)) (opener_facts o) refl in let both : true ≡ false = sym e ∙ some in cc
shut_where InData a t is e = let both : true ≡ false = sym e ∙ is.program.begun in cc
shut_where (InColumn n) a t is e = let both : true ≡ false = sym e ∙ is.program.begun in cc
shut_where (InFeatures n) a t is e = absurd is
shut_where Unknown a t is e = absurd is

-- the claim has a column exactly where the next output has one, if there is a register
no_byte : (g : Parts) (now : ℕ) (v : State) (view : LunView) → LunMirror g v.lun now view → (v.lun.busy || not (has_register v.lun.register) || not (has_column v.lun.column)) ≡ (view.busy || is_empty view.register || lacks (output_column view.column))
no_byte g now v view m =
    (λ i. m.busy i || not (has_register (m.register i)) || not (has_column v.lun.column)) ∙ at view.register m.register m.known
  where
    columns : (k : Option OutputColumn) → ColumnMirror k view.column → not (has_column k) ≡ lacks (output_column view.column)
    columns None e = sym (ap lacks e)
    columns (Some k) e = sym (ap lacks e.is)

    with_register : (b : Bool) → has_register v.lun.register ≡ true → (b || false || not (has_column v.lun.column)) ≡ (b || false || lacks (output_column view.column))
    with_register b e = ap (λ (x : Bool). b || false || x) (columns v.lun.column (m.column e))

    at : (r : Register) → v.lun.register ≡ held_of r → is_modelled r ≡ true → (view.busy || not (has_register (held_of r)) || not (has_column v.lun.column)) ≡ (view.busy || is_empty r || lacks (output_column view.column))
    at Empty e k = either view.busy _ _
      where
        either : (b x y : Bool) → (b || true || x) ≡ (b || true || y)
        either true x y = refl
        either false x y = refl
    at (Page p) e k = with_register view.busy (ap has_register e)
    at ParameterPage e k = with_register view.busy (ap has_register e)
    at Identifier e k = with_register view.busy (ap has_register e)
    at _ e k = cc

refused_is : (g : Parts) (text : Microprogram) (v : State) (r : Run) (c : Lone) → Mirrors g (lone_job g text) v r.done c → output_refused v ≡ is_unseen c
refused_is g text v r c m =
    λ i. open_same g (lone_job g text) v r.done c m i || not (drives (m.shows i)) || (may_show_data (m.shows i) && no_byte g (index_now 0 r.done) v c.view m.lun i)

pub length_is : (g : Parts) (r : Register) → is_modelled r ≡ true → least_length g (held_of r) ≡ register_len g r
length_is g Empty h = refl
length_is g (Page p) h = refl
length_is g ParameterPage h = refl
length_is g Identifier h = refl
length_is g _ h = cc

-- a register that isn't empty is one that the claim knows
holds : (r : Register) → is_modelled r ≡ true → is_empty r ≡ false → has_register (held_of r) ≡ true
holds Empty k h = cc
holds (Page p) k h = refl
holds ParameterPage k h = refl
holds Identifier k h = refl
holds _ k h = cc

-- where an output is in place, what is shown
data Seen (v : State) (c : Lone) : Type 0 where
  SeenStatus : ShowsStatus c → Seen v c
  SeenData : (at : ℕ) (k : OutputColumn) → ShowsData c at → v.lun.column ≡ Some k → ColumnIs k c.view.column → k.at.hi ≡ kept at → Seen v c

seen : (g : Parts) (text : Microprogram) (v : State) (r : Run) (c : Lone) → Mirrors g (lone_job g text) v r.done c → output_refused v ≡ false → Seen v c
seen g text v r c m h =
    let none : is_unseen c ≡ false = sym (refused_is g text v r c m) ∙ h in
    let two = or_parts (is_open c.facts || not (drives (shows_of c.view.latch))) _ none in
    let one = or_parts (is_open c.facts) (not (drives (shows_of c.view.latch))) two.0 in
    at c.view.latch refl one.1 (ap (λ (x : Latch). may_show_data (shows_of x) && (c.view.busy || is_empty c.view.register || lacks (output_column c.view.column))) refl ∙ two.1) one.0
  where
    at : (x : Latch) → c.view.latch ≡ x → not (drives (shows_of x)) ≡ false → (may_show_data (shows_of c.view.latch) && (c.view.busy || is_empty c.view.register || lacks (output_column c.view.column))) ≡ false → is_open c.facts ≡ false → Seen v c
    at Off e d f closed = cc
    at Status e d f closed = SeenStatus (record { closed = closed; latch = e })
    at Data e d f closed =
        let all : (c.view.busy || is_empty c.view.register || lacks (output_column c.view.column)) ≡ false = ap (λ (x : Latch). may_show_data (shows_of x) && (c.view.busy || is_empty c.view.register || lacks (output_column c.view.column))) (sym e) ∙ f in
        let two = or_parts (c.view.busy || is_empty c.view.register) (lacks (output_column c.view.column)) all in
        let one = or_parts c.view.busy (is_empty c.view.register) two.0 in
        by v.lun.column refl (m.lun.column (ap has_register m.lun.register ∙ holds c.view.register m.lun.known one.1)) one.0 one.1 two.1
      where
        by : (k : Option OutputColumn) → v.lun.column ≡ k → ColumnMirror k c.view.column → c.view.busy ≡ false → is_empty c.view.register ≡ false → lacks (output_column c.view.column) ≡ false → Seen v c
        by None is h ready held l = let lost : lacks (output_column c.view.column) ≡ true = ap lacks h in let both : true ≡ false = sym lost ∙ l in cc
        by (Some k) is h ready held l = SeenData h.at k (record { closed = closed; latch = e; ready = ready; held = held; column = h.is }) is h h.bound

-- 4. where it stops

replicate_parts : (m n : ℕ) → m < n → replicate n Take ≡ replicate m Take ++ (Take ∷ replicate (n - suc m) Take)
replicate_parts zero zero h = absurd (omega (arith, h))
replicate_parts zero (suc n) h = ap (λ (k : ℕ). Take ∷ replicate k Take) (let e : n ≡ suc n - 1 = omega arith in e)
replicate_parts (suc m) zero h = absurd (omega (arith, h))
replicate_parts (suc m) (suc n) h = ap (λ (ms : List Move). Take ∷ ms) (replicate_parts m n (omega (arith, h)) ∙ ap (λ (k : ℕ). replicate m Take ++ (Take ∷ replicate k Take)) (let e : n - suc m ≡ suc n - suc (suc m) = omega arith in e))

get_stops : (s : Channel) (text : Microprogram) (r : Run) (c : Lone) (n m : ℕ) (sort : Forbidden → Bool) → m < n → IsAlone s → IsLone s r.past c → MovesPass s.geometry (replicate m Take) c → (rule : Forbidden) → judged s.geometry (lone_after s.geometry (replicate m Take) c) OutputCycle ≡ Some rule → sort rule ≡ true → WordStops s (lone_job s.geometry text) r (Get n) sort
get_stops s text r c n m sort less k is pass rule breaks sorted =
    record {
      moved = replicate m Take ++ (Take ∷ replicate (n - suc m) Take);
      is_moved = ap Some (replicate_parts m n less);
      stops = stops_there s (replicate m Take) Take (replicate (n - suc m) Take) r.past c sort k is pass rule breaks sorted;
    }

-- what is shown after so many outputs
on_columns : (k : ReadColumn) (n at : ℕ) → output_column k ≡ Some at → output_column (record k { outputs = k.outputs + n }) ≡ Some (at + n)
on_columns k n at h = by k.lost k.given h
  where
    by : (b : Bool) (o : Option ℕ) → cond b None (option_plus k.outputs o) ≡ Some at → cond b None (option_plus (k.outputs + n) o) ≡ Some (at + n)
    by true o h = cc
    by false None h = cc
    by false (Some m) h =
        let same : m + k.outputs ≡ at = cc in
        let more : m + (k.outputs + n) ≡ at + n = omega (arith, same) in
        ap Some more

after_outputs : (g : Parts) (n : ℕ) (c : Lone) (at : ℕ) → ShowsData c at → Outputs g n c (read_on n c.view) → ShowsData (lone_after g (replicate n Take) c) (at + n)
after_outputs g n c at x outs =
    record {
      closed = outs.closed;
      latch = ap (λ (w : LunView). w.latch) outs.view_is ∙ x.latch;
      ready = ap (λ (w : LunView). w.busy) outs.view_is ∙ x.ready;
      held = ap (λ (w : LunView). is_empty w.register) outs.view_is ∙ x.held;
      column = ap (λ (w : LunView). output_column w.column) outs.view_is ∙ on_columns c.view.column n at x.column;
    }

pub register_small : (s : Channel) → IsAlone s → (r : Register) → register_len s.geometry r ≤ greatest_bound
register_small s k Empty = omega arith
register_small s k (Page p) = let x = k.is_channel.limits.page_bytes_most in let y = k.is_channel.limits.spare_bytes_most in omega (arith, x, y)
register_small s k ParameterPage = omega arith
register_small s k Identifier = omega arith
register_small s k Identity = omega arith
register_small s k JedecIdentity = omega arith
register_small s k UniqueId = omega arith
register_small s k (Features address) = omega arith

-- 5. get

pub get_exact : (s : Channel) (text : Microprogram) (v : State) (r : Run) (c : Lone) (n : ℕ) → 1 ≤ n → IsFit s text → IsLone s r.past c → Mirrors s.geometry (lone_job s.geometry text) v r.done c → ExactWord s text v r (Get n)
unfolding state_after breaks_cycle_forbidden breaks_address_unaligned breaks_handover_in_sequence breaks_buffer_passed breaks_row_or_plane_outside breaks_column_too_large breaks_no_status breaks_ends_too_soon breaks_command_not_allowed
get_exact s text v r c n some k is m =
    record {
      cause = λ reason e. by reason (reason_is s.geometry text v (Get n) reason e) e;
      goes = λ e f. let clear = no_reasons s.geometry text v (Get n) e in goes (seen g text v r c m clear.no_cycle_forbidden) clear.no_column_too_large;
    }
  where
    g : Parts
    g = s.geometry

    j : Job
    j = lone_job g text

    empty : c.facts.is_empty ≡ true → Shut c.facts
    empty = shut_where m.tail.place m.tail.address c.facts m.tail.is

    past_test : (at : ℕ) (o : OutputColumn) → v.lun.column ≡ Some o → o.at.hi ≡ kept at → is_at_most (bound_plus (column_bound v.lun.column) n) (least_length g v.lun.register) ≡ nat_le (at + n) (register_len g c.view.register)
    past_test at o here bound =
        (λ i. is_at_most (bound_plus (column_bound (here i)) n) (least_length g (m.lun.register i))) ∙ ((λ i. is_at_most (bound_plus (bound i) n) (length_is g c.view.register m.lun.known i)) ∙ exact_test at n (register_len g c.view.register) (register_small s k.alone c.view.register))

    stops_past : Seen v c → output_past g v n ≡ true → WordStops s j r (Get n) is_of_column_too_large
    stops_past (SeenStatus x) h =
        let none : output_past g v n ≡ false = ap (λ (o : Option Shown). may_show_data o && not (is_at_most (bound_plus (column_bound v.lun.column) n) (least_length g v.lun.register))) (m.shows ∙ ap shows_of x.latch) in
        let both : true ≡ false = sym h ∙ none in
        cc
    stops_past (SeenData at o x here is_column bound) h =
        let shown = ap (λ (q : Option Shown). may_show_data q && not (is_at_most (bound_plus (column_bound v.lun.column) n) (least_length g v.lun.register))) (m.shows ∙ ap shows_of x.latch) in
        let past : nat_le (at + n) (register_len g c.view.register) ≡ false = sym (past_test at o here bound) ∙ not-true _ (sym shown ∙ h) in
        by_length at (register_len g c.view.register) refl x past
      where
        by_length : (at len : ℕ) → register_len g c.view.register ≡ len → ShowsData c at → nat_le (at + n) (register_len g c.view.register) ≡ false → WordStops s j r (Get n) is_of_column_too_large
        by_length at len is_len x past = begins (nat_le len at) refl
          where
            over : nat_le (at + n) len ≡ false
            over = ap (nat_le (at + n)) (sym is_len) ∙ past

            begins : (b : Bool) → nat_le len at ≡ b → WordStops s j r (Get n) is_of_column_too_large
            begins true e = get_stops s text r c n 0 is_of_column_too_large (omega (arith, some)) k.alone is tt ColumnOutside (data_judged g c at x ∙ ap (λ (b : Bool). cond b (Some ColumnOutside) None) (ap (λ (l : ℕ). nat_le l at) is_len ∙ e)) refl
            begins false e =
                let low : at < len = grind (arith, nat_tests, e) in
                let few : len - at < n = grind (arith, nat_tests, over, low) in
                let most : at + (len - at) ≤ register_len g c.view.register = omega (arith, is_len, low) in
                let outs = data_outputs g (len - at) c at x empty most in
                let now : ShowsData (lone_after g (replicate (len - at) Take) c) (at + (len - at)) = after_outputs g (len - at) c at x outs in
                let full : nat_le (register_len g (lone_after g (replicate (len - at) Take) c).view.register) (at + (len - at)) ≡ true =
                ap (λ (w : LunView). nat_le (register_len g w.register) (at + (len - at))) outs.view_is ∙ (let l : register_len g c.view.register ≤ at + (len - at) = omega (arith, is_len, low) in grind (arith, nat_tests, l)) in
                get_stops s text r c n (len - at) is_of_column_too_large few k.alone is outs.pass ColumnOutside (data_judged g _ (at + (len - at)) now ∙ ap (λ (b : Bool). cond b (Some ColumnOutside) None) full) refl

    by : (reason : Reason) → reason_holds g text v (Get n) reason ≡ true → reason_against g (bounds_of text) v (Get n) ≡ Some reason → Cause s j r (Get n) reason
    by CycleForbidden h e = λ bytes. let t = unseen_stops g c (sym (refused_is g text v r c m) ∙ h) in get_stops s text r c n 0 is_of_cycle_forbidden (omega (arith, some)) k.alone is tt t.0 t.1.0 t.1.1
    by BufferPassed h e = sym (ap (λ (o : Option ℕ). is_at_most (bound_plus o n) text.buffer) m.registers.place ∙ exact_test (place_now r.done) n text.buffer k.buffer) ∙ not-true _ h
    by ColumnTooLarge h e = stops_past (seen g text v r c m (lowest_column_too_large g text v (Get n) e).no_cycle_forbidden) h
    by OverBudget h e = cost_cause g v r (Get n) text.budget k.budget m.registers h
    by _ h e = cc

    registers : (answer : Answer) → RegistersMirror g (paid n (record v.registers { place = plus v.registers.place n })) (record { word = Get n; answer = answer } ∷ r.done)
    registers answer = registers_moved g v.registers (plus v.registers.place n) v.registers.polled r.done (Get n) answer (record { column = λ n. refl; plane = λ n. refl; index = λ b n. refl }) (ap (λ (o : Option ℕ). bound_plus o n) m.registers.place ∙ kept_plus (place_now r.done) n) m.registers

    -- what is left where so many outputs pass
    goes_with : (view : LunView) → Outputs g n c view → shows_of view.latch ≡ shows_of c.view.latch → LunMirror g (record v.lun { column = column_read v.target.shows n v.lun.column }) (index_now 0 r.done) view → Goes s text (state_after g v (Get n)) r (Get n)
    goes_with view outs same lun =
        goes_by s text (state_after g v (Get n)) r (Get n) (replicate n Take) r.past c k.alone refl refl is outs.pass
        (λ answer. record {
          registers = registers answer;
          tail = shut_tail g j (state_after g v (Get n)) (record { word = Get n; answer = answer } ∷ r.done) (lone_after g (replicate n Take) c) refl (outs.shut some);
          shows = m.shows ∙ (sym same ∙ ap (λ (w : LunView). shows_of w.latch) (sym outs.view_is));
          lun = subst (λ (w : LunView). LunMirror g (record v.lun { column = column_read v.target.shows n v.lun.column }) (index_now 0 r.done) w) (sym outs.view_is) lun;
          along = λ e. cc;
        })

    status_column : (o : Option Shown) (q : Option OutputColumn) → o ≡ shows_of Status → column_read o n q ≡ q
    status_column o None e = ap (λ (o : Option Shown). column_read o n None) e
    status_column o (Some q) e = ap (λ (o : Option Shown). column_read o n (Some q)) e

    goes : Seen v c → output_past g v n ≡ false → Goes s text (state_after g v (Get n)) r (Get n)
    goes (SeenStatus x) past =
        let same : column_read v.target.shows n v.lun.column ≡ v.lun.column = status_column v.target.shows v.lun.column (m.shows ∙ ap shows_of x.latch) in
        goes_with c.view (status_outputs g n c x empty) refl (subst (λ (q : Option OutputColumn). LunMirror g (record v.lun { column = q }) (index_now 0 r.done) c.view) (sym same) m.lun)
    goes (SeenData at o x here is_column bound) past =
        let shown = ap (λ (q : Option Shown). may_show_data q && not (is_at_most (bound_plus (column_bound v.lun.column) n) (least_length g v.lun.register))) (m.shows ∙ ap shows_of x.latch) in
        let inside : nat_le (at + n) (register_len g c.view.register) ≡ true = sym (past_test at o here bound) ∙ not-false _ (sym shown ∙ past) in
        let most : at + n ≤ register_len g c.view.register = grind (arith, nat_tests, inside) in
        let read : column_read v.target.shows n v.lun.column ≡ Some (record { at = plus_between o.at n n; read = true }) = (λ i. column_read (m.shows i) n (here i)) ∙ ap (λ (l : Latch). column_read (shows_of l) n (Some o)) x.latch in
        goes_with (read_on n c.view) (data_outputs g n c at x empty most) refl
        (subst (λ (q : Option OutputColumn). LunMirror g (record v.lun { column = q }) (index_now 0 r.done) (read_on n c.view)) (sym read)
        (record {
          busy = m.lun.busy;
          register = m.lun.register;
          known = m.lun.known;
          column = λ e. record { at = at + n; is = on_columns c.view.column n at x.column; bound = ap (λ (q : Option ℕ). bound_plus q n) bound ∙ kept_plus at n; read = some_read c.view.column.outputs };
          no_column = λ e. let has : has_register v.lun.register ≡ true = ap has_register m.lun.register ∙ holds c.view.register m.lun.known x.held in let both : true ≡ false = sym has ∙ e in cc;
          queue = m.lun.queue;
          last = m.lun.last;
          caching = m.lun.caching;
          other = m.lun.other;
          read = m.lun.read;
          cached_page = m.lun.cached_page;
          cached_index = m.lun.cached_index;
          held = m.lun.held;
          programming = m.lun.programming;
          no_program = m.lun.no_program;
        }))
      where
        some_read : (k : ℕ) → true ≡ ltb 0 (k + n)
        some_read k = let more : 0 < k + n = omega (arith, some) in grind (arith, nat_tests, more)
