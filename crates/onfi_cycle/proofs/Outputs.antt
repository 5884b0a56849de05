-- A run of outputs on one target is judged at once, and leaves what is said of it.
use Rattle.std.proofs.Common.{◌≡◌, ℕ, ◌+◌, ◌<◌, ◌≤◌, Bool, true, false, ◌&&◌, ◌||◌, cond, not, leb, ltb, List, [], ◌∷◌, Option, Some, None, refl, sym, ap, ◌∙◌, subst, arith, length, map, get_or, set, ◌^◌}
use Rattle.std.proofs.lemmas.Bool.Decides.{nat_tests}
use Rattle.std.specs.List.{slice_get}
use Rattle.std.proofs.lemmas.Bool.{not-false, or_parts as neither}
use Rattle.nand_geometry.specs.declared.parts.Parts.{Parts}
use Rattle.onfi_cycle.specs.declared.effect.Effect.TheVariants.{Unaffected, DataOutput}
use Rattle.onfi_cycle.specs.declared.forbidden.Forbidden.{Forbidden}
use Rattle.onfi_cycle.specs.declared.forbidden.Forbidden.TheVariants.{NotThere, NoSoleDriver, DataNotReady, ColumnOutside}
use Rattle.onfi_cycle.specs.declared.item.Kind.TheVariants.{Dout}
use Rattle.onfi_cycle.specs.declared.tail_facts.TailFacts.{TailFacts}
use Rattle.onfi_cycle.specs.declared.data_phase.DataPhase.TheVariants.{Outside}
use Rattle.onfi_cycle.specs.declared.target_cycle.TargetCycle.TheVariants.{OutputCycle}
use Rattle.onfi_cycle.specs.LunView.{LunView}
use Rattle.onfi_cycle.specs.Sequence.{facts_after, is_open}
use Rattle.onfi_cycle.specs.Effect.{is_off, is_data}
use Rattle.onfi_cycle.specs.Lun.{view_after, output_column, option_plus}
use Rattle.onfi_cycle.specs.Rules.{driving, only, driver, is_some_and, driver_is, register_len, is_past, lacks, is_empty, has_no_byte, is_past_register, breaks_not_there, breaks_command_unknown, breaks_sequence_open, breaks_several_luns, breaks_no_column_to_change, breaks_command_misplaced, breaks_address_misplaced, breaks_row_outside, breaks_lun_busy, breaks_queue_clash, breaks_input_misplaced, breaks_no_sole_driver, breaks_data_not_ready, breaks_column_outside, breaks_cache_read_misplaced, breaks_cache_program_misplaced, breaks_copyback_misplaced, breaks_plane_not_held}
use Rattle.onfi_cycle.specs.Permitted.{judge}
use Rattle.onfi_cycle.specs.Channel.{cycle}
use Rattle.onfi_cycle.specs.Applied.{luns_after_cycle}
use Rattle.onfi_cycle.specs.Bounds.{TargetFits, LunsFit, BusFits}
use Rattle.onfi_cycle.specs.State.{TargetView, BusView, judged, judged_on, luns_after, has_driver, target_after, changed_at, bus_after, bus, target}
use Rattle.onfi_cycle.specs.Outputs.{judged_outputs, after_outputs, given_on, given_target, given_bus, is_over, has_fewer, against_rest, AreFew}
use Rattle.onfi_cycle.proofs.Others.{first_passed}
use Rattle.onfi_cycle.proofs.Applied.{cycle_on_luns}
use Rattle.onfi_cycle.proofs.Following.{applied, applied_fits, permitted_there}
use Rattle.onfi_cycle.proofs.Runs.{GoesBy, Begins, IsData, changed_found, changed_length, changed_same, changed_twice, changed_got, found_some, after_begun, judged_begun, first_permitted, run_fits, run_applied}

-- 1. what one output leaves of a target with one driver

one_lun : (v : LunView) → view_after (cond (is_data v.latch) DataOutput Unaffected) v ≡ given_on 1 v
one_lun v = at (is_data v.latch)
  where
    at : (b : Bool) → view_after (cond b DataOutput Unaffected) v ≡ cond b (record v { column = record v.column { outputs = v.column.outputs + 1 } }) v
    at true = refl
    at false = refl

one_given : (g : Parts) (t : TailFacts) (n : ℕ) (vs : List LunView) → luns_after_cycle g t true OutputCycle n vs ≡ map (given_on 1) vs
one_given g t n [] = refl
one_given g t n (v ∷ vs) =
    ap (λ (w : LunView). w ∷ luns_after_cycle g t true OutputCycle (n + 1) vs) (one_lun v) ∙ ap (λ (ws : List LunView). given_on 1 v ∷ ws) (one_given g t (n + 1) vs)

given_latch : (k : ℕ) (v : LunView) → (given_on k v).latch ≡ v.latch
given_latch k v = at (is_data v.latch)
  where
    at : (b : Bool) → (cond b (record v { column = record v.column { outputs = v.column.outputs + k } }) v).latch ≡ v.latch
    at true = refl
    at false = refl

given_twice : (k : ℕ) (v : LunView) → given_on 1 (given_on k v) ≡ given_on (k + 1) v
given_twice k v = at (is_data v.latch) refl
  where
    at : (b : Bool) → is_data v.latch ≡ b → given_on 1 (given_on k v) ≡ given_on (k + 1) v
    at true e =
        let same : v.column.outputs + k + 1 ≡ v.column.outputs + (k + 1) = omega arith in
        rw (e, e) (ap (λ (n : ℕ). record v { column = record v.column { outputs = n } }) same)
    at false e = rw (e, e) refl

all_given_twice : (k : ℕ) (vs : List LunView) → map (given_on 1) (map (given_on k) vs) ≡ map (given_on (k + 1)) vs
all_given_twice k [] = refl
all_given_twice k (v ∷ vs) =
    ap (λ (w : LunView). w ∷ map (given_on 1) (map (given_on k) vs)) (given_twice k v) ∙ ap (λ (ws : List LunView). given_on (k + 1) v ∷ ws) (all_given_twice k vs)

-- 2. the driver stays the driver

driving_given : (k : ℕ) (vs : List LunView) → driving (map (given_on k) vs) ≡ map (given_on k) (driving vs)
driving_given k [] = refl
driving_given k (v ∷ vs) =
    ap (λ (b : Bool). cond b (driving (map (given_on k) vs)) (given_on k v ∷ driving (map (given_on k) vs))) (ap is_off (given_latch k v)) ∙
    at (is_off v.latch) (driving_given k vs)
  where
    at : (b : Bool) → driving (map (given_on k) vs) ≡ map (given_on k) (driving vs) → cond b (driving (map (given_on k) vs)) (given_on k v ∷ driving (map (given_on k) vs)) ≡ map (given_on k) (cond b (driving vs) (v ∷ driving vs))
    at true ih = ih
    at false ih = ap (λ (ws : List LunView). given_on k v ∷ ws) ih

only_given : (k : ℕ) (vs : List LunView) (w : LunView) → only vs ≡ Some w → only (map (given_on k) vs) ≡ Some (given_on k w)
only_given k [] w h = cc
only_given k (v ∷ []) w h = let same : v ≡ w = cc in ap (λ (x : LunView). Some (given_on k x)) same
only_given k (v ∷ (u ∷ vs)) w h = cc

driver_given : (k : ℕ) (vs : List LunView) (w : LunView) → driver vs ≡ Some w → driver (map (given_on k) vs) ≡ Some (given_on k w)
driver_given k vs w h = ap only (driving_given k vs) ∙ only_given k (driving vs) w h

-- 3. an output is judged by four tests

abbrev by_driver : Parts → (missing opens : Bool) → Option LunView → Option Forbidden
by_driver g missing opens o =
    cond missing (Some NotThere) (cond (opens || not (is_some_and (λ v. true) o)) (Some NoSoleDriver) (cond (is_some_and has_no_byte o) (Some DataNotReady) (cond (is_some_and (is_past_register g) o) (Some ColumnOutside) None)))

judged_by : (g : Parts) (n : ℕ) (t : TailFacts) (vs : List LunView) (ce byte : ℕ) → judge g n t vs (cycle ce Dout byte) ≡ by_driver g (leb n ce) (is_open t) (driver vs)
unfolding breaks_not_there breaks_command_unknown breaks_sequence_open breaks_several_luns breaks_no_column_to_change breaks_command_misplaced breaks_address_misplaced breaks_row_outside breaks_lun_busy breaks_queue_clash breaks_input_misplaced breaks_no_sole_driver breaks_data_not_ready breaks_column_outside breaks_cache_read_misplaced breaks_cache_program_misplaced breaks_copyback_misplaced breaks_plane_not_held
judged_by g n t vs ce byte = refl

-- what a permitted output tells of its target
pub record GivesMore (g : Parts) (n ce : ℕ) (s : TargetView) : Type 0 where
  pub there : leb n ce ≡ false
  pub closed : is_open s.tail ≡ false
  pub one : LunView
  pub is_one : driver s.luns ≡ Some one
  pub byte : has_no_byte one ≡ false
  pub inside : is_past_register g one ≡ false

pub gives_more : (g : Parts) (n ce byte : ℕ) (s : TargetView) → judge g n s.tail s.luns (cycle ce Dout byte) ≡ None → GivesMore g n ce s
gives_more g n ce byte s h =
    let first = first_passed (leb n ce) NotThere _ (sym (judged_by g n s.tail s.luns ce byte) ∙ h) in
    let second = first_passed (is_open s.tail || not (driver_is (λ v. true) s.luns)) NoSoleDriver _ first.1 in
    let third = first_passed (driver_is has_no_byte s.luns) DataNotReady _ second.1 in
    let fourth = first_passed (driver_is (is_past_register g) s.luns) ColumnOutside _ third.1 in
    let halves = neither (is_open s.tail) _ second.0 in
    at (driver s.luns) refl first.0 halves.0 (not-false _ halves.1) third.0 fourth.0
  where
    at : (o : Option LunView) → driver s.luns ≡ o → leb n ce ≡ false → is_open s.tail ≡ false → is_some_and (λ v. true) o ≡ true → is_some_and has_no_byte o ≡ false → is_some_and (is_past_register g) o ≡ false → GivesMore g n ce s
    at None e there closed some byte inside = cc
    at (Some w) e there closed some byte inside = record { there = there; closed = closed; one = w; is_one = e; byte = byte; inside = inside }

-- 4. the output after so many

given_byte : (k : ℕ) (w : LunView) → has_no_byte w ≡ false → has_no_byte (given_on k w) ≡ false
given_byte k w h = at (is_data w.latch) refl
  where
    lacking : (x : Bool) (o : Option ℕ) (a b : ℕ) → lacks (cond x None (option_plus a o)) ≡ lacks (cond x None (option_plus b o))
    lacking true o a b = refl
    lacking false None a b = refl
    lacking false (Some c) a b = refl

    at : (b : Bool) → is_data w.latch ≡ b → has_no_byte (given_on k w) ≡ false
    at true e =
        let rest : (w.busy || is_empty w.register || lacks (output_column w.column)) ≡ false = sym (rw e refl) ∙ h in
        rw (e, e) (ap (λ (x : Bool). w.busy || is_empty w.register || x) (lacking w.column.lost w.column.given (w.column.outputs + k) w.column.outputs) ∙ rest)
    at false e = rw (e, e) refl

past_is_over : (x : Bool) (o : Option ℕ) (outputs k len : ℕ) → is_past (cond x None (option_plus (outputs + k) o)) len ≡ is_over (cond x None (option_plus outputs o)) (k + 1) len
past_is_over true o outputs k len = refl
past_is_over false None outputs k len = refl
past_is_over false (Some c) outputs k len = same (leb len (c + (outputs + k))) refl (ltb len (c + outputs + (k + 1))) refl
  where
    same : (a : Bool) → leb len (c + (outputs + k)) ≡ a → (b : Bool) → ltb len (c + outputs + (k + 1)) ≡ b → a ≡ b
    same true e true f = refl
    same false e false f = refl
    same true e false f = absurd (let x : len ≤ c + (outputs + k) = grind (arith, nat_tests) in let y : c + outputs + (k + 1) ≤ len = grind (arith, nat_tests) in omega (arith, x, y))
    same false e true f = absurd (let x : c + (outputs + k) < len = grind (arith, nat_tests) in let y : len < c + outputs + (k + 1) = grind (arith, nat_tests) in omega (arith, x, y))

given_inside : (g : Parts) (k : ℕ) (w : LunView) → is_past_register g (given_on k w) ≡ has_fewer g (k + 1) w
given_inside g k w = at (is_data w.latch) refl
  where
    at : (b : Bool) → is_data w.latch ≡ b → is_past_register g (given_on k w) ≡ has_fewer g (k + 1) w
    at true e = rw (e, e) (past_is_over w.column.lost w.column.given w.column.outputs k (register_len g w.register))
    at false e = rw (e, e) refl

-- the first leaves none too few
first_given : (g : Parts) (w : LunView) → is_past_register g w ≡ false → has_fewer g 1 w ≡ false
first_given g w h = sym (given_inside g 0 w) ∙ (ap (is_past_register g) (zero_given w) ∙ h)
  where
    zero_given : (w : LunView) → given_on 0 w ≡ w
    zero_given w = at (is_data w.latch)
      where
        at : (b : Bool) → cond b (record w { column = record w.column { outputs = w.column.outputs + 0 } }) w ≡ w
        at true = let same : w.column.outputs + 0 ≡ w.column.outputs = omega arith in ap (λ (n : ℕ). record w { column = record w.column { outputs = n } }) same
        at false = refl

fewer_still : (g : Parts) (j k : ℕ) (w : LunView) → j ≤ k → has_fewer g j w ≡ true → has_fewer g k w ≡ true
fewer_still g j k w less h = at (is_data w.latch) refl (output_column w.column) h
  where
    over : (o : Option ℕ) → is_over o j (register_len g w.register) ≡ true → is_over o k (register_len g w.register) ≡ true
    over None h = cc
    over (Some c) h = let x : register_len g w.register < c + j = grind (arith, nat_tests) in let y : register_len g w.register < c + k = omega (arith, x, less) in grind (arith, nat_tests)

    at : (b : Bool) → is_data w.latch ≡ b → (o : Option ℕ) → (is_data w.latch && is_over o j (register_len g w.register)) ≡ true → (is_data w.latch && is_over o k (register_len g w.register)) ≡ true
    at true e o h = rw e (over o (sym (rw e refl) ∙ h))
    at false e o h = let no : false ≡ true = sym (rw e refl) ∙ h in cc

-- 5. a target and a channel after an output

tail_twice : (t : TailFacts) → facts_after OutputCycle (facts_after OutputCycle t) ≡ facts_after OutputCycle t
tail_twice t = at t.is_empty refl
  where
    at : (b : Bool) → t.is_empty ≡ b → facts_after OutputCycle (facts_after OutputCycle t) ≡ facts_after OutputCycle t
    at true e = rw e refl
    at false e = rw e refl

still_closed : (t : TailFacts) → is_open t ≡ false → is_open (facts_after OutputCycle t) ≡ false
still_closed t h = at t.is_empty refl
  where
    at : (b : Bool) → t.is_empty ≡ b → is_open (facts_after OutputCycle t) ≡ false
    at true e = rw e h
    at false e = rw e refl

column_kept : (t : TailFacts) → (facts_after OutputCycle t).column ≡ t.column
column_kept t = at t.is_empty
  where
    at : (b : Bool) → (cond b t (record { opening = None; phase = Outside; row = t.row; column = t.column; inputs = 0; is_empty = false })).column ≡ t.column
    at true = refl
    at false = refl

luns_given : (g : Parts) (ce byte : ℕ) (t : TailFacts) (vs : List LunView) → has_driver vs ≡ true → luns_after g t (has_driver vs) (cycle ce Dout byte) 0 vs ≡ map (given_on 1) vs
luns_given g ce byte t vs h =
    sym (cycle_on_luns g t (has_driver vs) (record { ce = ce; kind = Dout; byte = byte }) 0 vs) ∙
    (ap (λ (b : Bool). luns_after_cycle g t b OutputCycle 0 vs) h ∙ one_given g t 0 vs)

target_first : (g : Parts) (ce byte : ℕ) (s : TargetView) (w : LunView) → driver s.luns ≡ Some w → target_after g (cycle ce Dout byte) s ≡ given_target 1 s
target_first g ce byte s w h = ap (target (facts_after OutputCycle s.tail)) (luns_given g ce byte s.tail s.luns (ap (is_some_and (λ v. true)) h))

target_more : (g : Parts) (ce byte k : ℕ) (s : TargetView) (w : LunView) → driver s.luns ≡ Some w → target_after g (cycle ce Dout byte) (given_target k s) ≡ given_target (k + 1) s
target_more g ce byte k s w h =
    ap (λ (t : TailFacts). target t (luns_after g (facts_after OutputCycle s.tail) (has_driver (map (given_on k) s.luns)) (cycle ce Dout byte) 0 (map (given_on k) s.luns))) (tail_twice s.tail) ∙
    ap (target (facts_after OutputCycle s.tail))
    (luns_given g ce byte (facts_after OutputCycle s.tail) (map (given_on k) s.luns) (ap (is_some_and (λ v. true)) (driver_given k s.luns w h)) ∙ all_given_twice k s.luns)

-- the target of this number is there, and one of its LUNs drives alone
pub record Drives (s : BusView) (ce : ℕ) (t : TargetView) (w : LunView) : Type 0 where
  pub there : slice_get s.targets ce ≡ Some t
  pub one : driver t.luns ≡ Some w

driver_moved : (s : BusView) (ce : ℕ) (t u : TargetView) (w : LunView) → Drives s ce t w → slice_get s.targets ce ≡ Some u → driver u.luns ≡ Some w
driver_moved s ce t u w d h = let same : t ≡ u = the_same (sym d.there ∙ h) in ap (λ (x : TargetView). driver x.luns) (sym same) ∙ d.one
  where
    the_same : {x y : TargetView} → Some x ≡ Some y → x ≡ y
    the_same e = cc

bus_first : (s : BusView) (ce byte : ℕ) (t : TargetView) (w : LunView) → Drives s ce t w → bus_after (cycle ce Dout byte) s ≡ given_bus ce 1 s
bus_first s ce byte t w d =
    ap (bus s.geometry) (changed_same (target_after s.geometry (cycle ce Dout byte)) (given_target 1) s.targets ce (λ u h. target_first s.geometry ce byte u w (driver_moved s ce t u w d h)))

bus_more : (s : BusView) (ce byte k : ℕ) (t : TargetView) (w : LunView) → Drives s ce t w → bus_after (cycle ce Dout byte) (given_bus ce k s) ≡ given_bus ce (k + 1) s
bus_more s ce byte k t w d =
    ap (bus s.geometry) (changed_twice (given_target k) (target_after s.geometry (cycle ce Dout byte)) (given_target (k + 1)) s.targets ce (λ u h. target_more s.geometry ce byte k u w (driver_moved s ce t u w d h)))

-- 6. a run is judged by its last output

judged_given : (s : BusView) (ce m : ℕ) (t : TargetView) → slice_get s.targets ce ≡ Some t → (more : GivesMore s.geometry (length s.targets) ce t) → judged (given_bus ce m s) (cycle ce Dout 0) ≡ cond (has_fewer s.geometry (m + 1) more.one) (Some ColumnOutside) None
judged_given s ce m t there more =
    ap (λ (n : ℕ). judged_on g n (slice_get (changed_at (given_target m) ce s.targets) ce) (cycle ce Dout 0)) (changed_length (given_target m) s.targets ce) ∙
    (ap (λ (o : Option TargetView). judged_on g (length s.targets) o (cycle ce Dout 0)) (changed_found (given_target m) s.targets ce t there) ∙
    (judged_by g (length s.targets) (facts_after OutputCycle t.tail) (map (given_on m) t.luns) ce 0 ∙
    (ap (λ (b : Bool). by_driver g b (is_open (facts_after OutputCycle t.tail)) (driver (map (given_on m) t.luns))) more.there ∙
    (ap (λ (b : Bool). by_driver g false b (driver (map (given_on m) t.luns))) (still_closed t.tail more.closed) ∙
    (ap (by_driver g false false) (driver_given m t.luns more.one more.is_one) ∙
    (ap (λ (b : Bool). cond b (Some DataNotReady) (cond (is_past_register g (given_on m more.one)) (Some ColumnOutside) None)) (given_byte m more.one more.byte) ∙
    ap (λ (b : Bool). cond b (Some ColumnOutside) None) (given_inside g m more.one)))))))
  where
    g : Parts
    g = s.geometry

goes : (s : BusView) (ce : ℕ) (t : TargetView) → slice_get s.targets ce ≡ Some t → (more : GivesMore s.geometry (length s.targets) ce t) → GoesBy Dout ce (λ m. given_bus ce m s) (λ m. has_fewer s.geometry m more.one)
goes s ce t there more =
    record {
      moves = λ m. bus_more s ce 0 m t more.one (record { there = there; one = more.is_one });
      judges = λ m. judged_given s ce m t there more;
      grows = λ j k less. fewer_still s.geometry j k more.one less;
    }

more_there : (s : BusView) (ce : ℕ) (t : TargetView) → slice_get s.targets ce ≡ Some t → judged s (cycle ce Dout 0) ≡ None → GivesMore s.geometry (length s.targets) ce t
more_there s ce t there h = gives_more s.geometry (length s.targets) ce 0 t (sym (ap (λ (o : Option TargetView). judged_on s.geometry (length s.targets) o (cycle ce Dout 0)) there) ∙ h)

begins : (s : BusView) (ce : ℕ) (t : TargetView) → slice_get s.targets ce ≡ Some t → judged s (cycle ce Dout 0) ≡ None → (more : GivesMore s.geometry (length s.targets) ce t) → Begins Dout ce (λ m. given_bus ce m s) (λ m. has_fewer s.geometry m more.one) s
begins s ce t there h more =
    record {
      goes = goes s ce t there more;
      permitted = h;
      first = bus_first s ce 0 t more.one (record { there = there; one = more.is_one });
      room = first_given s.geometry more.one more.inside;
    }

-- as the code asks: so many, one at least

pub judged_some : (s : BusView) (ce count : ℕ) (t : TargetView) → 0 < count → slice_get s.targets ce ≡ Some t → None ≡ judged s (cycle ce Dout 0) → against_rest s.geometry count t.luns ≡ judged_outputs ce count s
judged_some s ce count t some there h =
    let more = more_there s ce t there (sym h) in
    ap (λ (o : Option LunView). cond (is_some_and (has_fewer s.geometry count) o) (Some ColumnOutside) None) more.is_one ∙
    sym (judged_begun Dout ce (λ m. given_bus ce m s) (λ m. has_fewer s.geometry m more.one) s (begins s ce t there (sym h) more) count some)

pub after_some : (s : BusView) (ce count : ℕ) → 0 < count → judged_outputs ce count s ≡ None → after_outputs ce count s ≡ given_bus ce count s
after_some s ce count some h =
    let first = first_permitted Dout s ce count some h in
    let found = found_some s ce 0 Dout first in
    let more = more_there s ce found.0 found.1 first in
    after_begun Dout ce (λ m. given_bus ce m s) (λ m. has_fewer s.geometry m more.one) s (begins s ce found.0 found.1 first more) count some

-- 7. a state sees no byte of an output, and fits after it

output_fits : (s : BusView) (ce : ℕ) → judged s (cycle ce Dout 0) ≡ None → BusFits s → BusFits (bus_after (cycle ce Dout 0) s)
output_fits s ce h f =
    let d = (found_some s ce 0 Dout h).0 in
    let here = f.targets ce d (permitted_there s (cycle ce Dout 0) h) in
    let small : (facts_after OutputCycle (get_or s.targets ce d).tail).column < 2 ^ 16 = subst (λ (n : ℕ). n < 2 ^ 16) (sym (column_kept (get_or s.targets ce d).tail)) here.tail.column in
    subst BusFits (applied s.geometry s.targets (cycle ce Dout 0) ce d _ refl refl)
    (applied_fits s.geometry s.targets (cycle ce Dout 0) ce d (target_after s.geometry (cycle ce Dout 0) (get_or s.targets ce d)) h f refl refl small)

any_byte : (s : BusView) (ce a b : ℕ) → judged s (cycle ce Dout a) ≡ judged s (cycle ce Dout b)
any_byte s ce a b = at (slice_get s.targets ce)
  where
    at : (o : Option TargetView) → judged_on s.geometry (length s.targets) o (cycle ce Dout a) ≡ judged_on s.geometry (length s.targets) o (cycle ce Dout b)
    at None = refl
    at (Some t) = judged_by s.geometry (length s.targets) t.tail t.luns ce a ∙ sym (judged_by s.geometry (length s.targets) t.tail t.luns ce b)

after_any_byte : (s : BusView) (ce a b : ℕ) → bus_after (cycle ce Dout a) s ≡ bus_after (cycle ce Dout b) s
after_any_byte s ce a b =
    ap (bus s.geometry)
    (changed_same (target_after s.geometry (cycle ce Dout a)) (target_after s.geometry (cycle ce Dout b)) s.targets ce
    (λ t h. ap (target (facts_after OutputCycle t.tail))
    (sym (cycle_on_luns s.geometry t.tail (has_driver t.luns) (record { ce = ce; kind = Dout; byte = a }) 0 t.luns) ∙
    cycle_on_luns s.geometry t.tail (has_driver t.luns) (record { ce = ce; kind = Dout; byte = b }) 0 t.luns)))

pub outputs_are_data : IsData Dout
outputs_are_data = record { any_byte = any_byte; after_any = after_any_byte; fits = output_fits }

-- 8. as the code does it

pub few_there : (g : Parts) (t : TailFacts) (n : ℕ) (vs : List LunView) → LunsFit g t n vs → AreFew vs
few_there g t n [] f = tt
few_there g t n (v ∷ vs) f = (f.0.outputs, few_there g t (n + 1) vs f.3)

pub outputs_applied : (g : Parts) (ts : List TargetView) (ce k count : ℕ) (d u : TargetView) → k ≡ ce → 0 < count → judged_outputs ce count (bus g ts) ≡ None → u ≡ given_target count (get_or ts k d) → bus g (set ts k u) ≡ after_outputs ce count (bus g ts)
outputs_applied g ts ce k count d u place some h is =
    run_applied Dout g ts ce k count d u (given_target count) place (after_some (bus g ts) ce count some h) is

-- 9. a run lies inside the register

-- where the LUN shows data it has so many bytes left
abbrev pub HasLeft : Parts → LunView → ℕ → Type 0
HasLeft g w count = is_data w.latch ≡ true → (k : ℕ) × ((output_column w.column ≡ Some k) × (k + count ≤ register_len g w.register))

left_in : (g : Parts) (w : LunView) (count : ℕ) → has_no_byte w ≡ false → has_fewer g count w ≡ false → HasLeft g w count
left_in g w count byte few shows = at (output_column w.column) refl (lack shows byte) (fewer shows few)
  where
    lack : is_data w.latch ≡ true → has_no_byte w ≡ false → lacks (output_column w.column) ≡ false
    lack shows h = (neither (w.busy || is_empty w.register) _ (sym (rw shows refl) ∙ h)).1

    fewer : is_data w.latch ≡ true → has_fewer g count w ≡ false → is_over (output_column w.column) count (register_len g w.register) ≡ false
    fewer shows h = sym (rw shows refl) ∙ h

    at : (o : Option ℕ) → output_column w.column ≡ o → lacks o ≡ false → is_over o count (register_len g w.register) ≡ false → (k : ℕ) × ((output_column w.column ≡ Some k) × (k + count ≤ register_len g w.register))
    at None e a b = cc
    at (Some k) e a b = (k, (e, grind (arith, nat_tests)))

pub run_inside : (s : BusView) (ce count : ℕ) (t : TargetView) (w : LunView) → slice_get s.targets ce ≡ Some t → driver t.luns ≡ Some w → 0 < count → judged_outputs ce count s ≡ None → HasLeft s.geometry w count
run_inside s ce count t w there is some h =
    let first = first_permitted Dout s ce count some h in
    let more = more_there s ce t there first in
    let one : more.one ≡ w = the_same (sym more.is_one ∙ is) in
    let none : against_rest s.geometry count t.luns ≡ None = judged_some s ce count t some there (sym first) ∙ h in
    let few : has_fewer s.geometry count w ≡ false = not_over (has_fewer s.geometry count w) (ap (λ (o : Option LunView). cond (is_some_and (has_fewer s.geometry count) o) (Some ColumnOutside) None) (sym is) ∙ none) in
    left_in s.geometry w count (subst (λ (x : LunView). has_no_byte x ≡ false) one more.byte) few
  where
    the_same : {x y : LunView} → Some x ≡ Some y → x ≡ y
    the_same e = cc

    not_over : (b : Bool) → cond b (Some ColumnOutside) None ≡ None → b ≡ false
    not_over true h = cc
    not_over false h = refl

-- 10. and none gives more than its register has

pub few_after : (g : Parts) (ts : List TargetView) (ce k count : ℕ) (d : TargetView) → k ≡ ce → 0 < count → judged_outputs ce count (bus g ts) ≡ None → BusFits (bus g ts) → AreFew (map (given_on count) (get_or ts k d).luns)
few_after g ts ce k count d place some h f =
    let s = bus g ts in
    let there : ce < length ts = permitted_there s (cycle ce Dout 0) (first_permitted Dout s ce count some h) in
    let fits : BusFits (given_bus ce count s) = subst BusFits (after_some s ce count some h) (run_fits Dout outputs_are_data ce count s h f) in
    let inside : ce < length (changed_at (given_target count) ce ts) = subst (λ (n : ℕ). ce < n) (sym (changed_length (given_target count) ts ce)) there in
    let target : TargetFits g (given_target count (get_or ts ce d)) = subst (TargetFits g) (changed_got (given_target count) ts ce d there) (fits.targets ce d inside) in
    subst (λ (n : ℕ). AreFew (map (given_on count) (get_or ts n d).luns)) (sym place) (few_there g _ 0 _ target.luns)
