-- A run of inputs on one target is judged at once, and leaves what is said of it.
use Rattle.std.proofs.Common.{◌≡◌, ℕ, zero, suc, ◌+◌, ◌<◌, ◌≤◌, ◌==◌, Bool, true, false, ◌&&◌, ◌||◌, cond, not, leb, ltb, List, [], ◌∷◌, Option, Some, None, refl, sym, ap, ◌∙◌, subst, arith, length, get_or, set, ◌^◌}
use Rattle.std.proofs.lemmas.Bool.Decides.{nat_tests}
use Rattle.std.specs.List.{slice_get}
use Rattle.std.proofs.lemmas.Bool.{not-false, or_left}
use Rattle.std.proofs.lemmas.Option.{slice_get-get_or}
use Rattle.nand_geometry.specs.declared.parts.Parts.{Parts}
use Rattle.nand_geometry.specs.Limits.{page_len}
use Rattle.onfi_cycle.specs.declared.forbidden.Forbidden.{Forbidden}
use Rattle.onfi_cycle.specs.declared.forbidden.Forbidden.TheVariants.{NotThere, InputMisplaced, ColumnOutside}
use Rattle.onfi_cycle.specs.declared.item.Item.{Item}
use Rattle.onfi_cycle.specs.declared.item.Kind.TheVariants.{Din}
use Rattle.onfi_cycle.specs.declared.tail_facts.TailFacts.{TailFacts}
use Rattle.onfi_cycle.specs.declared.data_phase.DataPhase.{DataPhase}
use Rattle.onfi_cycle.specs.declared.data_phase.DataPhase.TheVariants.{Outside, Inputs, FirstColumn, SecondColumn, FeatureInputs}
use Rattle.onfi_cycle.specs.declared.target_cycle.TargetCycle.TheVariants.{InputCycle}
use Rattle.onfi_cycle.specs.LunView.{LunView}
use Rattle.onfi_cycle.specs.Sequence.{facts_after, extended_facts, takes_data, takes_features, takes_inputs, phase_after_input, input_column}
use Rattle.onfi_cycle.specs.Rules.{breaks_not_there, breaks_command_unknown, breaks_sequence_open, breaks_several_luns, breaks_no_column_to_change, breaks_command_misplaced, breaks_address_misplaced, breaks_row_outside, breaks_lun_busy, breaks_queue_clash, breaks_input_misplaced, breaks_no_sole_driver, breaks_data_not_ready, breaks_column_outside, breaks_cache_read_misplaced, breaks_cache_program_misplaced, breaks_copyback_misplaced, breaks_plane_not_held}
use Rattle.onfi_cycle.specs.Permitted.{judge}
use Rattle.onfi_cycle.specs.Channel.{cycle}
use Rattle.onfi_cycle.specs.Bounds.{TailFits, BusFits}
use Rattle.onfi_cycle.specs.State.{TargetView, BusView, judged, judged_on, luns_after, has_driver, target_after, changed_at, bus_after, bus, target}
use Rattle.onfi_cycle.specs.Inputs.{judged_inputs, after_inputs, fed_tail, fed_target, fed_bus, has_no_room, takes_fewer_features, against_inputs}
use Rattle.onfi_cycle.specs.Runs.{first_rule, judged_run}
use Rattle.onfi_cycle.specs.Effect.{cycle_effect}
use Rattle.onfi_cycle.specs.Applied.{luns_after_cycle}
use Rattle.onfi_cycle.specs.Lun.{view_after}
use Rattle.onfi_cycle.specs.declared.latch.Latch.TheVariants.{Off}
use Rattle.onfi_cycle.proofs.Others.{first_passed}
use Rattle.onfi_cycle.proofs.Applied.{cycle_on_luns, luns_rest}
use Rattle.onfi_cycle.proofs.Following.{applied, applied_fits, permitted_there}
use Rattle.onfi_cycle.proofs.Working.{target_fits_at}
use Rattle.onfi_cycle.proofs.Runs.{Begins, IsData, splits, changed_found, changed_length, changed_same, changed_twice, found_some, after_begun, judged_begun, first_permitted, run_applied}

-- 1. an input is judged by three tests

abbrev by_tail : Parts → (missing takes bytes : Bool) → (column : ℕ) → Option Forbidden
by_tail g missing takes bytes column = cond missing (Some NotThere) (cond (not takes) (Some InputMisplaced) (cond (not bytes && leb (page_len g) column) (Some ColumnOutside) None))

judged_by : (g : Parts) (n : ℕ) (t : TailFacts) (vs : List LunView) (ce byte : ℕ) → judge g n t vs (cycle ce Din byte) ≡ by_tail g (leb n ce) (takes_inputs t.phase) (takes_features t.phase) (input_column t)
unfolding breaks_not_there breaks_command_unknown breaks_sequence_open breaks_several_luns breaks_no_column_to_change breaks_command_misplaced breaks_address_misplaced breaks_row_outside breaks_lun_busy breaks_queue_clash breaks_input_misplaced breaks_no_sole_driver breaks_data_not_ready breaks_column_outside breaks_cache_read_misplaced breaks_cache_program_misplaced breaks_copyback_misplaced breaks_plane_not_held
judged_by g n t vs ce byte = refl

-- what a permitted input of a program tells of its target
pub record TakesMore (g : Parts) (n ce : ℕ) (t : TailFacts) : Type 0 where
  pub there : leb n ce ≡ false
  pub takes : takes_data t.phase ≡ true
  pub no_bytes : takes_features t.phase ≡ false
  pub inside : leb (page_len g) (input_column t) ≡ false

takes_more : (g : Parts) (n ce byte : ℕ) (s : TargetView) → takes_features s.tail.phase ≡ false → judge g n s.tail s.luns (cycle ce Din byte) ≡ None → TakesMore g n ce s.tail
takes_more g n ce byte s plain h =
    let first = first_passed (leb n ce) NotThere _ (sym (judged_by g n s.tail s.luns ce byte) ∙ h) in
    let second = first_passed (not (takes_inputs s.tail.phase)) InputMisplaced _ first.1 in
    let third = first_passed (not (takes_features s.tail.phase) && leb (page_len g) (input_column s.tail)) ColumnOutside None second.1 in
    record {
      there = first.0;
      takes = first_of (takes_data s.tail.phase) (takes_features s.tail.phase) plain (not-false _ second.0);
      no_bytes = plain;
      inside = last_of (takes_features s.tail.phase) (leb (page_len g) (input_column s.tail)) plain third.0;
    }
  where
    first_of : (a b : Bool) → b ≡ false → (a || b) ≡ true → a ≡ true
    first_of true b e h = refl
    first_of false true e h = cc
    first_of false false e h = cc

    last_of : (a b : Bool) → a ≡ false → (not a && b) ≡ false → b ≡ false
    last_of true b e h = cc
    last_of false b e h = h

more_there : (s : BusView) (ce : ℕ) (t : TargetView) → slice_get s.targets ce ≡ Some t → takes_features t.tail.phase ≡ false → judged s (cycle ce Din 0) ≡ None → TakesMore s.geometry (length s.targets) ce t.tail
more_there s ce t there plain h = takes_more s.geometry (length s.targets) ce 0 t plain (sym (ap (λ (o : Option TargetView). judged_on s.geometry (length s.targets) o (cycle ce Din 0)) there) ∙ h)

-- 2. what one input of a program leaves of a target

-- a tail that takes inputs has an opener
has_opener : (g : Parts) (t : TailFacts) → TailFits g t → takes_data t.phase ≡ true → t.is_empty ≡ false
has_opener g t f takes = at t.is_empty refl
  where
    at : (b : Bool) → t.is_empty ≡ b → b ≡ false
    at true e = let no : false ≡ true = sym (ap takes_data (f.outside e)) ∙ takes in cc
    at false e = refl

no_end : (p : DataPhase) (n : ℕ) → takes_data p ≡ true → (takes_features p && n == 3) ≡ false
no_end Outside n h = cc
no_end Inputs n h = refl
no_end FirstColumn n h = cc
no_end SecondColumn n h = cc
no_end FeatureInputs n h = cc

phase_stays : (n : ℕ) (p : DataPhase) → takes_data p ≡ true → phase_after_input n p ≡ p
phase_stays n Outside h = cc
phase_stays n Inputs h = refl
phase_stays n FirstColumn h = cc
phase_stays n SecondColumn h = cc
phase_stays n FeatureInputs h = cc

luns_kept : (g : Parts) (t : TailFacts) (sole : Bool) (ce byte : ℕ) (vs : List LunView) → takes_data t.phase ≡ true → luns_after g t sole (cycle ce Din byte) 0 vs ≡ vs
luns_kept g t sole ce byte vs takes = sym (luns_rest g t sole (InputCycle byte) 0 vs (no_end t.phase t.inputs takes) ∙ cycle_on_luns g t sole (record { ce = ce; kind = Din; byte = byte }) 0 vs)

abbrev fed_with : TailFacts → DataPhase → ℕ → TailFacts
fed_with t p n = record { opening = None; phase = p; row = t.row; column = t.column; inputs = n; is_empty = false }

tail_first : (byte : ℕ) (t : TailFacts) → t.is_empty ≡ false → takes_data t.phase ≡ true → facts_after (InputCycle byte) t ≡ fed_tail 1 t
tail_first byte t some takes = ap (λ (b : Bool). cond b t (extended_facts (InputCycle byte) t)) some ∙ ap (λ (p : DataPhase). fed_with t p (t.inputs + 1)) (phase_stays t.inputs t.phase takes)

tail_more : (byte k : ℕ) (t : TailFacts) → takes_data t.phase ≡ true → facts_after (InputCycle byte) (fed_tail k t) ≡ fed_tail (k + 1) t
tail_more byte k t takes =
    let same : t.inputs + k + 1 ≡ t.inputs + (k + 1) = omega arith in
    ap (λ (p : DataPhase). fed_with t p (t.inputs + k + 1)) (phase_stays (t.inputs + k) t.phase takes) ∙ ap (fed_with t t.phase) same

target_first : (g : Parts) (ce byte : ℕ) (s : TargetView) → s.tail.is_empty ≡ false → takes_data s.tail.phase ≡ true → target_after g (cycle ce Din byte) s ≡ fed_target 1 s
target_first g ce byte s some takes =
    ap (target (facts_after (InputCycle byte) s.tail)) (luns_kept g s.tail (has_driver s.luns) ce byte s.luns takes) ∙
    ap (λ (t : TailFacts). target t s.luns) (tail_first byte s.tail some takes)

target_more : (g : Parts) (ce byte k : ℕ) (s : TargetView) → takes_data s.tail.phase ≡ true → target_after g (cycle ce Din byte) (fed_target k s) ≡ fed_target (k + 1) s
target_more g ce byte k s takes =
    ap (target (facts_after (InputCycle byte) (fed_tail k s.tail))) (luns_kept g (fed_tail k s.tail) (has_driver s.luns) ce byte s.luns takes) ∙
    ap (λ (t : TailFacts). target t s.luns) (tail_more byte k s.tail takes)

the_same : {x y : TargetView} {o : Option TargetView} → o ≡ Some x → o ≡ Some y → x ≡ y
the_same a b = cc

bus_first : (s : BusView) (ce byte : ℕ) (t : TargetView) → slice_get s.targets ce ≡ Some t → t.tail.is_empty ≡ false → takes_data t.tail.phase ≡ true → bus_after (cycle ce Din byte) s ≡ fed_bus ce 1 s
bus_first s ce byte t there some takes =
    ap (bus s.geometry)
    (changed_same (target_after s.geometry (cycle ce Din byte)) (fed_target 1) s.targets ce
    (λ u h. target_first s.geometry ce byte u (subst (λ (x : TargetView). x.tail.is_empty ≡ false) (the_same there h) some) (subst (λ (x : TargetView). takes_data x.tail.phase ≡ true) (the_same there h) takes)))

bus_more : (s : BusView) (ce byte k : ℕ) (t : TargetView) → slice_get s.targets ce ≡ Some t → takes_data t.tail.phase ≡ true → bus_after (cycle ce Din byte) (fed_bus ce k s) ≡ fed_bus ce (k + 1) s
bus_more s ce byte k t there takes =
    ap (bus s.geometry)
    (changed_twice (fed_target k) (target_after s.geometry (cycle ce Din byte)) (fed_target (k + 1)) s.targets ce
    (λ u h. target_more s.geometry ce byte k u (subst (λ (x : TargetView). takes_data x.tail.phase ≡ true) (the_same there h) takes)))

-- 3. a run of inputs of a program is judged by its last one

past_is_full : (len column inputs k : ℕ) → leb len (column + (inputs + k)) ≡ ltb len (column + inputs + (k + 1))
past_is_full len column inputs k = same (leb len (column + (inputs + k))) refl (ltb len (column + inputs + (k + 1))) refl
  where
    same : (a : Bool) → leb len (column + (inputs + k)) ≡ a → (b : Bool) → ltb len (column + inputs + (k + 1)) ≡ b → a ≡ b
    same true e true f = refl
    same false e false f = refl
    same true e false f = absurd (let x : len ≤ column + (inputs + k) = grind (arith, nat_tests) in let y : column + inputs + (k + 1) ≤ len = grind (arith, nat_tests) in omega (arith, x, y))
    same false e true f = absurd (let x : column + (inputs + k) < len = grind (arith, nat_tests) in let y : len < column + inputs + (k + 1) = grind (arith, nat_tests) in omega (arith, x, y))

judged_fed : (s : BusView) (ce m : ℕ) (t : TargetView) → slice_get s.targets ce ≡ Some t → TakesMore s.geometry (length s.targets) ce t.tail → judged (fed_bus ce m s) (cycle ce Din 0) ≡ cond (has_no_room s.geometry (m + 1) t.tail) (Some ColumnOutside) None
judged_fed s ce m t there more =
    ap (λ (n : ℕ). judged_on g n (slice_get (changed_at (fed_target m) ce s.targets) ce) (cycle ce Din 0)) (changed_length (fed_target m) s.targets ce) ∙
    (ap (λ (o : Option TargetView). judged_on g (length s.targets) o (cycle ce Din 0)) (changed_found (fed_target m) s.targets ce t there) ∙
    (judged_by g (length s.targets) (fed_tail m t.tail) t.luns ce 0 ∙
    (ap (λ (b : Bool). by_tail g b (takes_inputs t.tail.phase) (takes_features t.tail.phase) (t.tail.column + (t.tail.inputs + m))) more.there ∙
    (ap (λ (b : Bool). by_tail g false b (takes_features t.tail.phase) (t.tail.column + (t.tail.inputs + m))) (or_left (takes_data t.tail.phase) (takes_features t.tail.phase) more.takes) ∙
    (ap (λ (b : Bool). by_tail g false true b (t.tail.column + (t.tail.inputs + m))) more.no_bytes ∙
    ap (λ (b : Bool). cond b (Some ColumnOutside) None) (past_is_full (page_len g) t.tail.column t.tail.inputs m))))))
  where
    g : Parts
    g = s.geometry

fuller_still : (g : Parts) (t : TailFacts) (j k : ℕ) → j ≤ k → has_no_room g j t ≡ true → has_no_room g k t ≡ true
fuller_still g t j k less h = let x : page_len g < input_column t + j = grind (arith, nat_tests) in let y : page_len g < input_column t + k = omega (arith, x, less) in grind (arith, nat_tests)

first_has_room : (g : Parts) (t : TailFacts) → leb (page_len g) (input_column t) ≡ false → has_no_room g 1 t ≡ false
first_has_room g t h = let x : input_column t < page_len g = grind (arith, nat_tests) in let y : input_column t + 1 ≤ page_len g = omega (arith, x) in grind (arith, nat_tests)

begins : (s : BusView) (ce : ℕ) (t : TargetView) → slice_get s.targets ce ≡ Some t → takes_features t.tail.phase ≡ false → judged s (cycle ce Din 0) ≡ None → BusFits s → Begins Din ce (λ m. fed_bus ce m s) (λ m. has_no_room s.geometry m t.tail) s
begins s ce t there plain h f =
    let more = more_there s ce t there plain h in
    let fits = target_fits_at s.geometry s.targets ce t f.targets there in
    record {
      goes = record {
        moves = λ m. bus_more s ce 0 m t there more.takes;
        judges = λ m. judged_fed s ce m t there more;
        grows = fuller_still s.geometry t.tail;
      };
      permitted = h;
      first = bus_first s ce 0 t there (has_opener s.geometry t.tail fits.tail more.takes) more.takes;
      room = first_has_room s.geometry t.tail more.inside;
    }

-- 4. and one of a Set Features by how many of its bytes have come

-- the target takes bytes of a Set Features, of which so many have come
record Takes (s : BusView) (ce k : ℕ) : Type 0 where
  target : TargetView
  found : slice_get s.targets ce ≡ Some target
  there : leb (length s.targets) ce ≡ false
  takes : takes_features target.tail.phase ≡ true
  inputs : target.tail.inputs ≡ k
  some : target.tail.is_empty ≡ false
  few : k < 4

-- the target has had all
record Ended (s : BusView) (ce : ℕ) : Type 0 where
  target : TargetView
  found : slice_get s.targets ce ≡ Some target
  there : leb (length s.targets) ce ≡ false
  takes : takes_inputs target.tail.phase ≡ false

byte_permitted : (s : BusView) (ce k : ℕ) → Takes s ce k → judged s (cycle ce Din 0) ≡ None
byte_permitted s ce k t =
    ap (λ (o : Option TargetView). judged_on s.geometry (length s.targets) o (cycle ce Din 0)) t.found ∙
    (judged_by s.geometry (length s.targets) t.target.tail t.target.luns ce 0 ∙
    rw (t.there, t.takes) (both_ways (takes_data t.target.tail.phase)))
  where
    both_ways : (b : Bool) → cond (not (b || true)) (Some InputMisplaced) None ≡ None
    both_ways true = refl
    both_ways false = refl

none_more : (s : BusView) (ce : ℕ) → Ended s ce → judged s (cycle ce Din 0) ≡ Some InputMisplaced
none_more s ce t =
    ap (λ (o : Option TargetView). judged_on s.geometry (length s.targets) o (cycle ce Din 0)) t.found ∙
    (judged_by s.geometry (length s.targets) t.target.tail t.target.luns ce 0 ∙ rw (t.there, t.takes) refl)

found_after : (s : BusView) (ce : ℕ) (t : TargetView) → slice_get s.targets ce ≡ Some t → slice_get (bus_after (cycle ce Din 0) s).targets ce ≡ Some (target_after s.geometry (cycle ce Din 0) t)
found_after s ce t there = changed_found (target_after s.geometry (cycle ce Din 0)) s.targets ce t there

there_after : (s : BusView) (ce : ℕ) → leb (length s.targets) ce ≡ false → leb (length (bus_after (cycle ce Din 0) s).targets) ce ≡ false
there_after s ce h = ap (λ (n : ℕ). leb n ce) (changed_length (target_after s.geometry (cycle ce Din 0)) s.targets ce) ∙ h

tail_after_byte : (t : TailFacts) → t.is_empty ≡ false → facts_after (InputCycle 0) t ≡ extended_facts (InputCycle 0) t
tail_after_byte t some = ap (λ (b : Bool). cond b t (extended_facts (InputCycle 0) t)) some

goes_on : (n : ℕ) (p : DataPhase) → takes_features p ≡ true → n + 1 < 4 → takes_features (phase_after_input n p) ≡ true
goes_on n Outside h low = cc
goes_on n Inputs h low = cc
goes_on n FirstColumn h low = cc
goes_on n SecondColumn h low = cc
goes_on n FeatureInputs h low = let less : ltb n 3 ≡ true = grind (arith, nat_tests) in rw less refl

ends : (n : ℕ) (p : DataPhase) → takes_features p ≡ true → n ≡ 3 → takes_inputs (phase_after_input n p) ≡ false
ends n Outside h e = cc
ends n Inputs h e = cc
ends n FirstColumn h e = cc
ends n SecondColumn h e = cc
ends n FeatureInputs h e = rw e refl

takes_after : (s : BusView) (ce k : ℕ) → Takes s ce k → k + 1 < 4 → Takes (bus_after (cycle ce Din 0) s) ce (k + 1)
takes_after s ce k t low =
    let after = tail_after_byte t.target.tail t.some in
    record {
      target = target_after s.geometry (cycle ce Din 0) t.target;
      found = found_after s ce t.target t.found;
      there = there_after s ce t.there;
      takes = ap (λ (x : TailFacts). takes_features x.phase) after ∙ goes_on t.target.tail.inputs t.target.tail.phase t.takes (omega (arith, low, t.inputs));
      inputs = ap (λ (x : TailFacts). x.inputs) after ∙ ap (λ (n : ℕ). n + 1) t.inputs;
      some = ap (λ (x : TailFacts). x.is_empty) after;
      few = low;
    }

ends_after : (s : BusView) (ce k : ℕ) → Takes s ce k → k ≡ 3 → Ended (bus_after (cycle ce Din 0) s) ce
ends_after s ce k t last =
    let after = tail_after_byte t.target.tail t.some in
    record {
      target = target_after s.geometry (cycle ce Din 0) t.target;
      found = found_after s ce t.target t.found;
      there = there_after s ce t.there;
      takes = ap (λ (x : TailFacts). takes_inputs x.phase) after ∙ ends t.target.tail.inputs t.target.tail.phase t.takes (t.inputs ∙ last);
    }

bytes_judged : (count : ℕ) (s : BusView) (ce k : ℕ) → Takes s ce k → judged_run Din ce count s ≡ cond (ltb 4 (k + count)) (Some InputMisplaced) None
bytes_judged zero s ce k t = let few = t.few in let low : ltb 4 (k + 0) ≡ false = grind (arith, nat_tests) in rw low refl
bytes_judged (suc count) s ce k t =
    ap (λ (o : Option Forbidden). first_rule o (judged_run Din ce count (bus_after (cycle ce Din 0) s))) (byte_permitted s ce k t) ∙ by (λ low. bytes_judged count (bus_after (cycle ce Din 0) s) ce (k + 1) (takes_after s ce k t low)) (ltb (k + 1) 4) refl
  where
    more : (n : ℕ) → n ≡ count → k ≡ 3 → judged_run Din ce n (bus_after (cycle ce Din 0) s) ≡ cond (ltb 4 (k + suc count)) (Some InputMisplaced) None
    more zero e last = let low : ltb 4 (k + suc count) ≡ false = grind (arith, nat_tests) in rw low refl
    more (suc n) e last =
        let high : ltb 4 (k + suc count) ≡ true = grind (arith, nat_tests) in
        rw high (ap (λ (o : Option Forbidden). first_rule o (judged_run Din ce n (bus_after (cycle ce Din 0) (bus_after (cycle ce Din 0) s)))) (none_more (bus_after (cycle ce Din 0) s) ce (ends_after s ce k t last)))

    by : (k + 1 < 4 → judged_run Din ce count (bus_after (cycle ce Din 0) s) ≡ cond (ltb 4 (k + 1 + count)) (Some InputMisplaced) None) → (b : Bool) → ltb (k + 1) 4 ≡ b → judged_run Din ce count (bus_after (cycle ce Din 0) s) ≡ cond (ltb 4 (k + suc count)) (Some InputMisplaced) None
    by ih true e =
        let low : k + 1 < 4 = grind (arith, nat_tests) in
        let same : k + 1 + count ≡ k + suc count = omega arith in
        ih low ∙ ap (λ (n : ℕ). cond (ltb 4 n) (Some InputMisplaced) None) same
    by ih false e = let few = t.few in let last : k ≡ 3 = grind (arith, nat_tests) in more count refl last

takes_there : (s : BusView) (ce : ℕ) (t : TargetView) → BusFits s → slice_get s.targets ce ≡ Some t → takes_features t.tail.phase ≡ true → judged s (cycle ce Din 0) ≡ None → Takes s ce t.tail.inputs
takes_there s ce t f there takes h =
    let fits = target_fits_at s.geometry s.targets ce t f.targets there in
    record {
      target = t;
      found = there;
      there = (first_passed (leb (length s.targets) ce) NotThere _ (sym (judged_by s.geometry (length s.targets) t.tail t.luns ce 0) ∙ (sym (ap (λ (o : Option TargetView). judged_on s.geometry (length s.targets) o (cycle ce Din 0)) there) ∙ h))).0;
      takes = takes;
      inputs = refl;
      some = begun t.tail.is_empty refl fits.tail.outside;
      few = fits.tail.features takes;
    }
  where
    begun : (b : Bool) → t.tail.is_empty ≡ b → (t.tail.is_empty ≡ true → t.tail.phase ≡ Outside) → b ≡ false
    begun true e outside = let no : false ≡ true = sym (ap takes_features (outside e)) ∙ takes in cc
    begun false e outside = refl

-- as the code asks: so many, one at least

pub judged_some : (s : BusView) (ce count : ℕ) (t : TargetView) → BusFits s → 0 < count → slice_get s.targets ce ≡ Some t → None ≡ judged s (cycle ce Din 0) → against_inputs s.geometry count t.tail ≡ judged_inputs ce count s
judged_some s ce count t f some there h = at (takes_features t.tail.phase) refl
  where
    at : (b : Bool) → takes_features t.tail.phase ≡ b → cond b (cond (takes_fewer_features count t.tail) (Some InputMisplaced) None) (cond (has_no_room s.geometry count t.tail) (Some ColumnOutside) None) ≡ judged_inputs ce count s
    at true e = sym (bytes_judged count s ce t.tail.inputs (takes_there s ce t f there e (sym h)))
    at false e = sym (judged_begun Din ce (λ m. fed_bus ce m s) (λ m. has_no_room s.geometry m t.tail) s (begins s ce t there e (sym h) f) count some)

pub after_some : (s : BusView) (ce count : ℕ) (t : TargetView) → BusFits s → 0 < count → slice_get s.targets ce ≡ Some t → takes_features t.tail.phase ≡ false → judged_inputs ce count s ≡ None → after_inputs ce count s ≡ fed_bus ce count s
after_some s ce count t f some there plain h =
    let first = first_permitted Din s ce count some h in
    after_begun Din ce (λ m. fed_bus ce m s) (λ m. has_no_room s.geometry m t.tail) s (begins s ce t there plain first f) count some

-- 5. a state sees no byte of an input, and fits after it

input_fits : (s : BusView) (ce : ℕ) → judged s (cycle ce Din 0) ≡ None → BusFits s → BusFits (bus_after (cycle ce Din 0) s)
input_fits s ce h f =
    let d = (found_some s ce 0 Din h).0 in
    let here = f.targets ce d (permitted_there s (cycle ce Din 0) h) in
    let small : (facts_after (InputCycle 0) (get_or s.targets ce d).tail).column < 2 ^ 16 = subst (λ (n : ℕ). n < 2 ^ 16) (sym (column_kept (get_or s.targets ce d).tail)) here.tail.column in
    subst BusFits (applied s.geometry s.targets (cycle ce Din 0) ce d _ refl refl)
    (applied_fits s.geometry s.targets (cycle ce Din 0) ce d (target_after s.geometry (cycle ce Din 0) (get_or s.targets ce d)) h f refl refl small)
  where
    column_kept : (t : TailFacts) → (facts_after (InputCycle 0) t).column ≡ t.column
    column_kept t = at t.is_empty
      where
        at : (b : Bool) → (cond b t (extended_facts (InputCycle 0) t)).column ≡ t.column
        at true = refl
        at false = refl

any_byte : (s : BusView) (ce a b : ℕ) → judged s (cycle ce Din a) ≡ judged s (cycle ce Din b)
any_byte s ce a b = at (slice_get s.targets ce)
  where
    at : (o : Option TargetView) → judged_on s.geometry (length s.targets) o (cycle ce Din a) ≡ judged_on s.geometry (length s.targets) o (cycle ce Din b)
    at None = refl
    at (Some t) = judged_by s.geometry (length s.targets) t.tail t.luns ce a ∙ sym (judged_by s.geometry (length s.targets) t.tail t.luns ce b)

any_luns : (g : Parts) (t : TailFacts) (sole : Bool) (a b n : ℕ) (vs : List LunView) → luns_after_cycle g t sole (InputCycle a) n vs ≡ luns_after_cycle g t sole (InputCycle b) n vs
any_luns g t sole a b n [] = refl
any_luns g t sole a b n (v ∷ vs) = ap (λ (ws : List LunView). view_after (cycle_effect g t (cond sole v.latch Off) (InputCycle a) n) v ∷ ws) (any_luns g t sole a b (n + 1) vs)

after_any_byte : (s : BusView) (ce a b : ℕ) → bus_after (cycle ce Din a) s ≡ bus_after (cycle ce Din b) s
after_any_byte s ce a b =
    ap (bus s.geometry)
    (changed_same (target_after s.geometry (cycle ce Din a)) (target_after s.geometry (cycle ce Din b)) s.targets ce
    (λ t h. ap (target (facts_after (InputCycle a) t.tail))
    (sym (cycle_on_luns s.geometry t.tail (has_driver t.luns) (record { ce = ce; kind = Din; byte = a }) 0 t.luns)
    ∙ (any_luns s.geometry t.tail (has_driver t.luns) a b 0 t.luns
    ∙ cycle_on_luns s.geometry t.tail (has_driver t.luns) (record { ce = ce; kind = Din; byte = b }) 0 t.luns))))

pub inputs_are_data : IsData Din
inputs_are_data = record { any_byte = any_byte; after_any = after_any_byte; fits = input_fits }

-- 6. as the code does it

pub inputs_applied : (g : Parts) (ts : List TargetView) (ce k count : ℕ) (d u : TargetView) → k ≡ ce → BusFits (bus g ts) → 0 < count → takes_features (get_or ts k d).tail.phase ≡ false → judged_inputs ce count (bus g ts) ≡ None → u ≡ fed_target count (get_or ts k d) → bus g (set ts k u) ≡ after_inputs ce count (bus g ts)
inputs_applied g ts ce k count d u place f some plain h is =
    let there : ce < length ts = permitted_there (bus g ts) (cycle ce Din 0) (first_permitted Din (bus g ts) ce count some h) in
    let found : slice_get ts ce ≡ Some (get_or ts ce d) = slice_get-get_or ts ce d there in
    let here : takes_features (get_or ts ce d).tail.phase ≡ false = subst (λ (n : ℕ). takes_features (get_or ts n d).tail.phase ≡ false) place plain in
    run_applied Din g ts ce k count d u (fed_target count) place (after_some (bus g ts) ce count (get_or ts ce d) f some found here h) is

-- the page has a place for each input of a permitted run of a program
pub inputs_inside : (s : BusView) (ce count : ℕ) (t : TargetView) → BusFits s → 0 < count → slice_get s.targets ce ≡ Some t → takes_features t.tail.phase ≡ false → judged_inputs ce count s ≡ None → input_column t.tail + count ≤ page_len s.geometry
inputs_inside s ce count t f some there plain h =
    let none : against_inputs s.geometry count t.tail ≡ None = judged_some s ce count t f some there (sym (first_permitted Din s ce count some h)) ∙ h in
    let room : has_no_room s.geometry count t.tail ≡ false = not_over (takes_features t.tail.phase) (has_no_room s.geometry count t.tail) plain none in
    grind (arith, nat_tests)
  where
    not_over : (b c : Bool) → b ≡ false → cond b (cond (takes_fewer_features count t.tail) (Some InputMisplaced) None) (cond c (Some ColumnOutside) None) ≡ None → c ≡ false
    not_over true c e h = cc
    not_over false true e h = cc
    not_over false false e h = refl

-- and few have come
pub few_after : (g : Parts) (ts : List TargetView) (ce k count : ℕ) (d : TargetView) → k ≡ ce → 0 < count → takes_features (get_or ts k d).tail.phase ≡ false → judged_inputs ce count (bus g ts) ≡ None → BusFits (bus g ts) → (get_or ts k d).tail.inputs + count < 2 ^ 63
few_after g ts ce k count d place some plain h f =
    let s = bus g ts in
    let there : ce < length ts = permitted_there s (cycle ce Din 0) (first_permitted Din s ce count some h) in
    let found : slice_get ts ce ≡ Some (get_or ts ce d) = slice_get-get_or ts ce d there in
    let here : takes_features (get_or ts ce d).tail.phase ≡ false = subst (λ (n : ℕ). takes_features (get_or ts n d).tail.phase ≡ false) place plain in
    let inside = inputs_inside s ce count (get_or ts ce d) f some found here h in
    let few : (get_or ts ce d).tail.inputs + count < 2 ^ 63 = omega (arith, inside, f.limits.page_bytes_most, f.limits.spare_bytes_most) in
    subst (λ (n : ℕ). (get_or ts n d).tail.inputs + count < 2 ^ 63) (sym place) few

-- one input of a run that is permitted, and the rest of it
pub record GoesOn (s t : BusView) (ce left rest : ℕ) : Type 0 where
  pub permitted : judged_inputs ce rest t ≡ None
  pub leads : after_inputs ce rest t ≡ after_inputs ce left s

pub one_input_on : (s t : BusView) (ce left rest : ℕ) (i : Item) → left ≡ rest + 1 → i ≡ cycle ce Din 0 → t ≡ bus_after i s → judged_inputs ce left s ≡ None → GoesOn s t ce left rest
one_input_on s t ce left rest i count is after h =
    let more : left ≡ suc rest = omega (arith, count) in
    let whole : judged_inputs ce (suc rest) s ≡ None = subst (λ (n : ℕ). judged_inputs ce n s ≡ None) more h in
    let parts = splits Din ce rest s whole in
    let here : t ≡ bus_after (cycle ce Din 0) s = after ∙ ap (λ (x : Item). bus_after x s) is in
    record {
      permitted = ap (judged_inputs ce rest) here ∙ parts.rest;
      leads = ap (after_inputs ce rest) here ∙ ap (λ (n : ℕ). after_inputs ce n s) (sym more);
    }
