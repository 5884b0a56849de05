-- The latch of a LUN on legal traces.
use Rattle.std.proofs.Common.{◌≡◌, ℕ, zero, suc, ◌+◌, ◌<◌, ◌≤◌, ◌==◌, Bool, true, false, ◌&&◌, ◌||◌, cond, not, List, [], ◌∷◌, Option, Some, None, refl, sym, ap, ◌∙◌, subst, arith, unwrap_or, eqb-true, eq-eqb, ◌%◌}
use Rattle.std.proofs.lemmas.Bool.Decides.{nat_tests}
use Rattle.std.proofs.lemmas.Bool.{not-false, and_parts as both_true}
use Rattle.nand_geometry.specs.declared.parts.Parts.{Parts}
use Rattle.onfi_cycle.specs.declared.command.Command.{Command}
use Rattle.onfi_cycle.specs.declared.command.Command.TheVariants.{Read, ReadConfirm, ChangeReadColumnConfirm, BlockEraseConfirm, BlockErasePlane, ReadStatus, ReadStatusEnhanced, ProgramConfirm, ProgramPlane, ReadId, ReadParameterPage, Reset, ReadCacheSequential, ReadCacheEnd, ReadUniqueId, GetFeatures, SetFeatures, ResetLun, SynchronousReset, ReadPlane, CopybackRead, PageProgram, ProgramCache}
use Rattle.onfi_cycle.specs.declared.lun.Lun.{Lun}
use Rattle.onfi_cycle.specs.declared.latch.Latch.{Latch}
use Rattle.onfi_cycle.specs.declared.latch.Latch.TheVariants.{Off, Status, Data}
use Rattle.onfi_cycle.specs.declared.item.Cycle.{Cycle}
use Rattle.onfi_cycle.specs.declared.item.Item.{Item}
use Rattle.onfi_cycle.specs.declared.item.Item.TheVariants.{Cyc, Rdy, Ard}
use Rattle.onfi_cycle.specs.declared.opening.Opening.{Opening}
use Rattle.onfi_cycle.specs.declared.page_address.PageAddress.{PageAddress}
use Rattle.onfi_cycle.specs.declared.tail_facts.TailFacts.{TailFacts}
use Rattle.onfi_cycle.specs.declared.target_cycle.TargetCycle.{TargetCycle}
use Rattle.onfi_cycle.specs.declared.target_cycle.TargetCycle.TheVariants.{CommandCycle, AddressCycle, InputCycle, OutputCycle}
use Rattle.onfi_cycle.specs.declared.effect.Effect.{Effect}
use Rattle.onfi_cycle.specs.declared.effect.Effect.TheVariants.{Unaffected, StatusSelected, StatusOfSelected, AnotherAddressed, TargetResetStarted, DataOutputEnabled, SelectedForStatus, Deselected, IdRead, IdentityRead, UniqueIdReadStarted, FeaturesReadStarted, FeaturesSet, ParameterPageReadStarted, CacheReadContinued, CacheReadEnded, BecameReady, ArrayBecameReady, ReadColumnChanged, DataOutput, ResetStarted, PlaneSelected}
use Rattle.onfi_cycle.specs.LunView.{LunView}
use Rattle.onfi_cycle.specs.Sequence.{target_cycle, row, row_with, wants_command, wants_address, selects_plane}
use Rattle.onfi_cycle.specs.Command.{reads_identity, is_set_features}
use Rattle.onfi_cycle.specs.Effect.{is_off, is_data, is_shared, acts_for_target, page_address, names_lun, command_effect, address_effect, id_effect, opening_address_effect, program_row_effect, cycle_effect, ends_features}
use Rattle.onfi_cycle.specs.Lun.{latch, latch_after, latch_alone, is_selected, is_busy, is_array_busy, effect_on, effect_among, drivers_from, is_only, lun_view, views_from, luns_of, shown_after}
use Rattle.onfi_cycle.specs.Rules.{driving, are_none, only, driver, is_some_and, driver_is, breaks_cache_read_misplaced, continues_cache, ends_cache}
use Rattle.onfi_cycle.specs.Permitted.{broken, is_permitted, is_legal}
use Rattle.onfi_cycle.specs.Decides.{or_before, last_decided, tail_of, drives_alone, address_closer, closing_address, closed_latch, read_latch, status_latch, turned_off, left_latch, selected_latch, third_of_status, selecting_latch, latch_cycle, latch_decided}
use Rattle.onfi_cycle.proofs.Others.{permitted_none}
use Rattle.onfi_cycle.proofs.Meaning.{driver_on, alone_off}
use Rattle.onfi_cycle.proofs.Passed.{permitted_keeps}

-- where no driver is among so many LUNs, each of them is off
none_off : (latches : ℕ → Latch) (count n l : ℕ) → drivers_from latches count n ≡ [] → n ≤ l → l < n + count → is_off (latches l) ≡ true
none_off latches zero n l h low high = absurd (omega arith)
none_off latches (suc count) n l h low high = at (λ e k. none_off latches count (n + 1) l e k (omega arith)) (is_off (latches n)) refl (l == n) refl h
  where
    at : (drivers_from latches count (n + 1) ≡ [] → n + 1 ≤ l → is_off (latches l) ≡ true) → (b : Bool) → is_off (latches n) ≡ b → (same : Bool) → (l == n) ≡ same → cond b (drivers_from latches count (n + 1)) (n ∷ drivers_from latches count (n + 1)) ≡ [] → is_off (latches l) ≡ true
    at ih true off true same h = subst (λ k. is_off (latches k) ≡ true) (sym (eqb-true l n same)) off
    at ih true off false same h = ih h (grind (arith, nat_tests, same, low))
    at ih false off same e h = cc

-- where there is one driver, the others are off
pub sole_off : (latches : ℕ → Latch) (count n m l : ℕ) → drivers_from latches count n ≡ m ∷ [] → n ≤ l → l < n + count → is_off (latches l) ≡ not (m == l)
sole_off latches zero n m l h low high = cc
sole_off latches (suc count) n m l h low high = at (λ e k. sole_off latches count (n + 1) m l e k (omega arith)) (is_off (latches n)) refl (l == n) refl h
  where
    only_of : (ds : List ℕ) → ds ≡ m ∷ [] → is_only ds m ≡ true
    only_of ds e = ap (λ d. is_only d m) e ∙ eq-eqb m m refl

    differs : is_off (latches m) ≡ false → is_off (latches n) ≡ true → l ≡ n → (m == l) ≡ false
    differs on off is = other (m == l) refl
      where
        other : (b : Bool) → (m == l) ≡ b → b ≡ false
        other true e = let same : m ≡ n = eqb-true m l e ∙ is in let clash : is_off (latches m) ≡ true = ap (λ k. is_off (latches k)) same ∙ off in cc
        other false e = refl

    unequal : (b : Bool) → m ≡ n → (l == n) ≡ false → (m == l) ≡ b → b ≡ false
    unequal true e ne h = let same : l ≡ n = sym (eqb-true m l h) ∙ e in let clash : (l == n) ≡ true = eq-eqb l n same in cc
    unequal false e ne h = refl

    at : (drivers_from latches count (n + 1) ≡ m ∷ [] → n + 1 ≤ l → is_off (latches l) ≡ not (m == l)) → (b : Bool) → is_off (latches n) ≡ b → (same : Bool) → (l == n) ≡ same → cond b (drivers_from latches count (n + 1)) (n ∷ drivers_from latches count (n + 1)) ≡ m ∷ [] → is_off (latches l) ≡ not (m == l)
    at ih true off true same h =
        let is : l ≡ n = eqb-true l n same in
        ap (λ k. is_off (latches k)) is ∙ (off ∙ ap not (sym (differs (driver_on latches count (n + 1) m (only_of (drivers_from latches count (n + 1)) h)) off is)))
    at ih true off false same h = ih h (grind (arith, nat_tests, same, low))
    at ih false off true same h =
        let is : l ≡ n = eqb-true l n same in
        let m_is : n ≡ m = cc in
        ap (λ k. is_off (latches k)) is ∙ (off ∙ ap not (sym (eq-eqb m l (sym m_is ∙ sym is))))
    at ih false off false same h =
        let m_is : n ≡ m = cc in
        let rest : drivers_from latches count (n + 1) ≡ [] = cc in
        none_off latches count (n + 1) l rest (grind (arith, nat_tests, same, low)) (omega arith) ∙ ap not (sym (unequal (m == l) (sym m_is) same refl))

-- where no view is on, no number is
none_by_views : (g : Parts) (past : List Item) (ce count n : ℕ) → are_none (driving (views_from g past ce count n)) ≡ true → drivers_from (λ m. latch g past (record { ce = ce; lun = m })) count n ≡ []
none_by_views g past ce zero n h = refl
none_by_views g past ce (suc count) n h = at (none_by_views g past ce count (n + 1)) (is_off (latch g past (record { ce = ce; lun = n }))) h
  where
    at : (are_none (driving (views_from g past ce count (n + 1))) ≡ true → drivers_from (λ m. latch g past (record { ce = ce; lun = m })) count (n + 1) ≡ []) → (b : Bool) → are_none (cond b (driving (views_from g past ce count (n + 1))) (lun_view g past (record { ce = ce; lun = n }) ∷ driving (views_from g past ce count (n + 1)))) ≡ true → cond b (drivers_from (λ m. latch g past (record { ce = ce; lun = m })) count (n + 1)) (n ∷ drivers_from (λ m. latch g past (record { ce = ce; lun = m })) count (n + 1)) ≡ []
    at ih true h = ih h
    at ih false h = cc

-- the list is of one number
pub record IsOne (ds : List ℕ) : Type 0 where
  pub m : ℕ
  pub is : ds ≡ m ∷ []

-- where one view is on, one number is
pub one_by_views : (g : Parts) (past : List Item) (ce count n : ℕ) (v : LunView) → only (driving (views_from g past ce count n)) ≡ Some v → IsOne (drivers_from (λ m. latch g past (record { ce = ce; lun = m })) count n)
one_by_views g past ce zero n v h = cc
one_by_views g past ce (suc count) n v h = at (one_by_views g past ce count (n + 1) v) (is_off (latch g past (record { ce = ce; lun = n }))) h
  where
    first : (b : Bool) → cond b (Some (lun_view g past (record { ce = ce; lun = n }))) None ≡ Some v → b ≡ true
    first true h = refl
    first false h = cc

    at : (only (driving (views_from g past ce count (n + 1))) ≡ Some v → IsOne (drivers_from (λ m. latch g past (record { ce = ce; lun = m })) count (n + 1))) → (b : Bool) → only (cond b (driving (views_from g past ce count (n + 1))) (lun_view g past (record { ce = ce; lun = n }) ∷ driving (views_from g past ce count (n + 1)))) ≡ Some v → IsOne (cond b (drivers_from (λ m. latch g past (record { ce = ce; lun = m })) count (n + 1)) (n ∷ drivers_from (λ m. latch g past (record { ce = ce; lun = m })) count (n + 1)))
    at ih true h = ih h
    at ih false h = record { m = n; is = ap (λ ds. n ∷ ds) (none_by_views g past ce count (n + 1) (first (are_none (driving (views_from g past ce count (n + 1)))) h)) }

-- where a target has one driver, each of its LUNs is off exactly where it isn't that one
off_or_driver : (g : Parts) (past : List Item) (l : Lun) (o : Option LunView) (test : LunView → Bool) → driver (luns_of g past l.ce) ≡ o → is_some_and test o ≡ true → l.lun < g.luns → is_off (latch g past l) ≡ not (drives_alone g past l)
off_or_driver g past l None test e h low = cc
off_or_driver g past l (Some v) test e h low =
    let one = one_by_views g past l.ce g.luns 0 v e in
    sole_off (λ m. latch g past (record { ce = l.ce; lun = m })) g.luns 0 one.m l.lun one.is (omega arith) (omega arith) ∙ ap (λ ds. not (is_only ds l.lun)) (sym one.is)

-- a cache read of the one driver
abbrev pub is_cache_cycle : TailFacts → TargetCycle → Bool
is_cache_cycle t (CommandCycle ReadCacheSequential) = not (wants_command t ReadCacheSequential)
is_cache_cycle t (CommandCycle ReadCacheEnd) = true
is_cache_cycle t _ = false

otherwise : (w x y : Bool) → not w ≡ true → cond w x y ≡ false → y ≡ false
otherwise true x y h e = cc
otherwise false x y h e = e

-- a cache read that is permitted finds one driver
pub cache_finds_driver : (g : Parts) (n : ℕ) (past : List Item) (c : Cycle) (l : Lun) → broken g n past (Cyc c) ≡ None → c.ce ≡ l.ce → l.lun < g.luns → is_cache_cycle (tail_of past l) (target_cycle c.kind c.byte) ≡ true → is_off (latch g past l) ≡ not (drives_alone g past l)
unfolding breaks_cache_read_misplaced
cache_finds_driver g n past c l h here low is = at (target_cycle c.kind c.byte) is (subst (λ ce. breaks_cache_read_misplaced g (tail_of past (record { ce = ce; lun = l.lun })) (luns_of g past ce) (target_cycle c.kind c.byte) ≡ false) here (permitted_keeps g n past c h).f15)
  where
    at : (x : TargetCycle) → is_cache_cycle (tail_of past l) x ≡ true → breaks_cache_read_misplaced g (tail_of past l) (luns_of g past l.ce) x ≡ false → is_off (latch g past l) ≡ not (drives_alone g past l)
    at (CommandCycle ReadCacheSequential) is f15 =
        let unwanted : not (driver_is (continues_cache g) (luns_of g past l.ce)) ≡ false = otherwise (wants_command (tail_of past l) ReadCacheSequential) _ _ is f15 in
        off_or_driver g past l (driver (luns_of g past l.ce)) (continues_cache g) refl (not-false (driver_is (continues_cache g) (luns_of g past l.ce)) unwanted) low
    at (CommandCycle ReadCacheEnd) is f15 = off_or_driver g past l (driver (luns_of g past l.ce)) ends_cache refl (not-false (driver_is ends_cache (luns_of g past l.ce)) f15) low
    at _ is f15 = cc

-- what a cycle leaves of the latch
read_step : (selected works : Bool) (before : Latch) → latch_after DataOutputEnabled selected works before ≡ unwrap_or (read_latch before) before
read_step selected works Off = refl
read_step selected works Status = refl
read_step selected works Data = refl

cache_step : (b o s w : Bool) (before : Latch) (e : Effect) (c : Command) → latch_after e s w before ≡ Data → closed_latch (Some c) ≡ Some Data → o ≡ not b → latch_after (cond o Unaffected e) s w before ≡ unwrap_or (or_before (closed_latch (cond b (Some c) None)) None) before
cache_step true o s w before e c after closed h = rw (h, closed) after
cache_step false o s w before e c after closed h = rw h refl

same_either_way : (b s w : Bool) (before : Latch) (e : Effect) → latch_after e s w before ≡ before → latch_after (cond b e Unaffected) s w before ≡ before
same_either_way true s w before e h = h
same_either_way false s w before e h = refl

-- the closer of a row; x: it is a read; p, q: the LUN is selected, and works
row_step : (wants named shared x p q : Bool) (before : Latch) (e : Effect) (o : Option Command) → latch_after e p q before ≡ unwrap_or (closed_latch o) before → latch_after (cond (wants && named) e (cond (true && (wants && shared)) (AnotherAddressed x) Unaffected)) p q before ≡ unwrap_or (or_before (closed_latch (cond (wants && named) o None)) (cond ((true && (shared && (wants && not named))) && (x && not q)) (Some Off) None)) before
row_step true true shared x p q before e o h = named_step shared (x && not q)
  where
    named_step : (shared y : Bool) → latch_after e p q before ≡ unwrap_or (or_before (closed_latch o) (cond ((true && (shared && (true && not true))) && y) (Some Off) None)) before
    named_step shared y = h ∙ ap (λ (z : Option Latch). unwrap_or z before) (never shared y (closed_latch o))
      where
        never : (shared y : Bool) (d : Option Latch) → d ≡ or_before d (cond ((true && (shared && (true && not true))) && y) (Some Off) None)
        never true y None = refl
        never false y None = refl
        never shared y (Some d) = refl
row_step true false true true p true before e o h = refl
row_step true false true true p false before e o h = refl
row_step true false true false p q before e o h = refl
row_step true false false x p q before e o h = refl
row_step false named true x p q before e o h = refl
row_step false named false x p q before e o h = refl

status_step : (shared selected w : Bool) (before : Latch) → latch_after (cond shared StatusOfSelected StatusSelected) selected w before ≡ status_latch shared selected
status_step true true w before = refl
status_step true false w before = refl
status_step false selected w before = refl

reset_step : (shared first s w : Bool) (before : Latch) → latch_after (cond shared (TargetResetStarted first) ResetStarted) s w before ≡ Off
reset_step true first s w before = refl
reset_step false first s w before = refl

-- a 31; b: the LUN is the one driver
read_on_step : (wants named shared b o p q : Bool) (before : Latch) (page : PageAddress) → (not wants ≡ true → o ≡ not b) → latch_after (cond wants (cond (wants && named) (CacheReadContinued (Some page)) (cond (true && (wants && shared)) (AnotherAddressed true) Unaffected)) (cond o Unaffected (CacheReadContinued None))) p q before ≡ unwrap_or (or_before (closed_latch (cond wants (cond named (Some ReadCacheSequential) None) (cond b (Some ReadCacheSequential) None))) (cond ((true && (shared && (wants && not named))) && (true && not q)) (Some Off) None)) before
read_on_step true named shared b o p q before page cache = row_step true named shared true p q before (CacheReadContinued (Some page)) (Some ReadCacheSequential) refl
read_on_step false named true b o p q before page cache = cache_step b o p q before (CacheReadContinued None) ReadCacheSequential refl refl (cache refl)
read_on_step false named false b o p q before page cache = cache_step b o p q before (CacheReadContinued None) ReadCacheSequential refl refl (cache refl)

-- E0; s: it closes a 06; c: it changes the column of the one driver
plane_step : (s named c p q : Bool) (before : Latch) (plane planes from : ℕ) → latch_after (cond s (cond named (PlaneSelected plane planes from) Deselected) (cond c (ReadColumnChanged from) Unaffected)) p q before ≡ unwrap_or (cond s (Some (cond named Data Off)) None) before
plane_step true true c p q before plane planes from = refl
plane_step true false c p q before plane planes from = refl
plane_step false named c p q before plane planes from = same_either_way c p q before (ReadColumnChanged from) refl

-- la is what the LUN shows, or shows alone
command_step : (g : Parts) (past : List Item) (l : Lun) (la : Latch) (c : Command) → (is_cache_cycle (tail_of past l) (CommandCycle c) ≡ true → is_off la ≡ not (drives_alone g past l)) → latch_after (command_effect g (tail_of past l) la c l.lun) (is_selected g past l) (is_busy g past l || is_array_busy g past l) (latch g past l) ≡ unwrap_or (latch_cycle g past l (CommandCycle c)) (latch g past l)
command_step g past l la Read cache = read_step (is_selected g past l) (is_busy g past l || is_array_busy g past l) (latch g past l)
command_step g past l la ReadStatus cache = status_step (is_shared g) (is_selected g past l) (is_busy g past l || is_array_busy g past l) (latch g past l)
command_step g past l la ReadStatusEnhanced cache = refl
command_step g past l la Reset cache = reset_step (is_shared g) (l.lun == 0) (is_selected g past l) (is_busy g past l || is_array_busy g past l) (latch g past l)
command_step g past l la SynchronousReset cache = reset_step (is_shared g) (l.lun == 0) (is_selected g past l) (is_busy g past l || is_array_busy g past l) (latch g past l)
command_step g past l la ReadCacheSequential cache = read_on_step (wants_command (tail_of past l) ReadCacheSequential) (names_lun g (row (tail_of past l)) l.lun) (is_shared g) (drives_alone g past l) (is_off la) (is_selected g past l) (is_busy g past l || is_array_busy g past l) (latch g past l) (page_address g (row (tail_of past l))) cache
command_step g past l la ReadCacheEnd cache = cache_step (drives_alone g past l) (is_off la) (is_selected g past l) (is_busy g past l || is_array_busy g past l) (latch g past l) CacheReadEnded ReadCacheEnd refl refl (cache refl)
command_step g past l la ChangeReadColumnConfirm cache =
    plane_step (selects_plane (tail_of past l)) (names_lun g (row (tail_of past l)) l.lun) (wants_command (tail_of past l) ChangeReadColumnConfirm && not (is_off la)) (is_selected g past l) (is_busy g past l || is_array_busy g past l) (latch g past l) _ _ (tail_of past l).column
command_step g past l la ReadConfirm cache = row_step (wants_command (tail_of past l) ReadConfirm) (names_lun g (row (tail_of past l)) l.lun) (is_shared g) true (is_selected g past l) (is_busy g past l || is_array_busy g past l) (latch g past l) _ (Some ReadConfirm) refl
command_step g past l la ReadPlane cache = row_step (wants_command (tail_of past l) ReadPlane) (names_lun g (row (tail_of past l)) l.lun) (is_shared g) true (is_selected g past l) (is_busy g past l || is_array_busy g past l) (latch g past l) _ (Some ReadPlane) refl
command_step g past l la CopybackRead cache = row_step (wants_command (tail_of past l) CopybackRead) (names_lun g (row (tail_of past l)) l.lun) (is_shared g) true (is_selected g past l) (is_busy g past l || is_array_busy g past l) (latch g past l) _ (Some CopybackRead) refl
command_step g past l la BlockEraseConfirm cache = row_step (wants_command (tail_of past l) BlockEraseConfirm) (names_lun g (row (tail_of past l)) l.lun) (is_shared g) false (is_selected g past l) (is_busy g past l || is_array_busy g past l) (latch g past l) _ (Some BlockEraseConfirm) refl
command_step g past l la BlockErasePlane cache = row_step (wants_command (tail_of past l) BlockErasePlane) (names_lun g (row (tail_of past l)) l.lun) (is_shared g) false (is_selected g past l) (is_busy g past l || is_array_busy g past l) (latch g past l) _ (Some BlockErasePlane) refl
command_step g past l la ProgramConfirm cache = row_step (wants_command (tail_of past l) ProgramConfirm) (names_lun g (row (tail_of past l)) l.lun) (is_shared g) false (is_selected g past l) (is_busy g past l || is_array_busy g past l) (latch g past l) _ (Some ProgramConfirm) refl
command_step g past l la ProgramPlane cache = row_step (wants_command (tail_of past l) ProgramPlane) (names_lun g (row (tail_of past l)) l.lun) (is_shared g) false (is_selected g past l) (is_busy g past l || is_array_busy g past l) (latch g past l) _ (Some ProgramPlane) refl
command_step g past l la ProgramCache cache = row_step (wants_command (tail_of past l) ProgramCache) (names_lun g (row (tail_of past l)) l.lun) (is_shared g) false (is_selected g past l) (is_busy g past l || is_array_busy g past l) (latch g past l) _ (Some ProgramCache) refl
command_step g past l la c cache = same_either_way (wants_command (tail_of past l) c && names_lun g (row (tail_of past l)) l.lun) (is_selected g past l) (is_busy g past l || is_array_busy g past l) (latch g past l) Unaffected refl

-- what reads what stands beside the array; w: its address is wanted; a: the LUN acts for its target
identity_step : (w a p q : Bool) (before : Latch) (e : Effect) (c : Command) → latch_after e p q before ≡ Data → closed_latch (Some c) ≡ Some Data → reads_identity c ≡ true → latch_after (cond w (cond a e Deselected) Unaffected) p q before ≡ unwrap_or (or_before (closed_latch (cond (w && a) (Some c) None)) (turned_off (w && not false) a c)) before
identity_step true true p q before e c after closed of = rw closed after
identity_step true false p q before e c after closed of = rw of refl
identity_step false a p q before e c after closed of = refl

address_step : (g : Parts) (past : List Item) (l : Lun) (byte : ℕ) (x : Option Opening) → latch_after (opening_address_effect g (tail_of past l) byte x l.lun) (is_selected g past l) (is_busy g past l || is_array_busy g past l) (latch g past l) ≡ unwrap_or (or_before (selecting_latch g past l byte x) (or_before (closed_latch (closing_address g l (tail_of past l) byte x)) (left_latch g l (tail_of past l) byte x))) (latch g past l)
address_step g past l byte None = refl
address_step g past l byte (Some o) = at o.opener o.addresses
  where
    p : Bool
    p = is_selected g past l

    q : Bool
    q = is_busy g past l || is_array_busy g past l

    w : Bool
    w = wants_address (tail_of past l) byte

    a : Bool
    a = acts_for_target g l.lun

    other : (w a : Bool) (c : Command) → reads_identity c ≡ false → turned_off w a c ≡ None
    other true true c h = refl
    other true false c h = rw h refl
    other false a c h = refl

    set : (w a : Bool) (c : Command) → turned_off (w && not true) a c ≡ None
    set true a c = refl
    set false a c = refl

    selects : (b n : Bool) (c : Command) → reads_identity c ≡ false → latch_after (cond b (cond n SelectedForStatus Deselected) Unaffected) p q (latch g past l) ≡ unwrap_or (or_before (cond b (selected_latch n) None) (or_before None (turned_off (w && not false) a c))) (latch g past l)
    selects true true c h = refl
    selects true false c h = refl
    selects false n c h = rw (other (w && not false) a c h) refl

    resets : (b named shared : Bool) → latch_after (cond b (cond named ResetStarted (cond shared (AnotherAddressed false) Unaffected)) Unaffected) p q (latch g past l) ≡ unwrap_or (or_before (closed_latch (cond (b && named) (Some Reset) None)) (turned_off (w && not false) a ResetLun)) (latch g past l)
    resets true true shared = refl
    resets true false true = rw (other (w && not false) a ResetLun refl) refl
    resets true false false = rw (other (w && not false) a ResetLun refl) refl
    resets false named shared = rw (other (w && not false) a ResetLun refl) refl

    programs : (b named : Bool) → latch_after (cond b (program_row_effect named) Unaffected) p q (latch g past l) ≡ unwrap_or (turned_off (w && not false) a PageProgram) (latch g past l)
    programs true true = rw (other (w && not false) a PageProgram refl) refl
    programs true false = rw (other (w && not false) a PageProgram refl) refl
    programs false named = rw (other (w && not false) a PageProgram refl) refl

    shows_id : (b : Bool) → latch_after (cond b IdRead (IdentityRead (byte == 0x40))) p q (latch g past l) ≡ Data
    shows_id true = refl
    shows_id false = refl

    at : (c : Command) (n : ℕ) → latch_after (address_effect g (tail_of past l) byte c n l.lun) p q (latch g past l) ≡ unwrap_or (or_before (third_of_status c n (names_lun g (row_with (tail_of past l) byte) l.lun)) (or_before (closed_latch (address_closer (w && a) (names_lun g (row_with (tail_of past l) byte) l.lun) c n)) (turned_off (w && not (is_set_features c)) a c))) (latch g past l)
    at ReadStatusEnhanced n = selects (n == 2) (names_lun g (row_with (tail_of past l) byte) l.lun) ReadStatusEnhanced refl
    at ReadId n = identity_step w a p q (latch g past l) (id_effect byte) ReadId (shows_id (byte == 0x20)) refl refl
    at ReadParameterPage n = identity_step w a p q (latch g past l) ParameterPageReadStarted ReadParameterPage refl refl refl
    at ReadUniqueId n = identity_step w a p q (latch g past l) UniqueIdReadStarted ReadUniqueId refl refl refl
    at GetFeatures n = identity_step w a p q (latch g past l) (FeaturesReadStarted byte) GetFeatures refl refl refl
    at SetFeatures n = rw (set w a SetFeatures) refl
    at ResetLun n = resets (n == 2) (names_lun g (row_with (tail_of past l) byte) l.lun) (is_shared g)
    at PageProgram n = programs (n == 4) (names_lun g (row_with (tail_of past l) byte) l.lun)
    at c n = rw (other (w && not false) a c refl) refl

input_step : (e a p q : Bool) (before : Latch) (f : ℕ) → latch_after (cond e (cond a (FeaturesSet f) Deselected) Unaffected) p q before ≡ unwrap_or (turned_off e a SetFeatures) before
input_step true true p q before f = refl
input_step true false p q before f = refl
input_step false a p q before f = refl

cycle_step : (g : Parts) (past : List Item) (l : Lun) (la : Latch) (x : TargetCycle) → (is_cache_cycle (tail_of past l) x ≡ true → is_off la ≡ not (drives_alone g past l)) → latch_after (cycle_effect g (tail_of past l) la x l.lun) (is_selected g past l) (is_busy g past l || is_array_busy g past l) (latch g past l) ≡ unwrap_or (latch_cycle g past l x) (latch g past l)
cycle_step g past l la (CommandCycle c) cache = command_step g past l la c cache
cycle_step g past l la (AddressCycle byte) cache = address_step g past l byte (tail_of past l).opening
cycle_step g past l la (InputCycle byte) cache = input_step (ends_features (tail_of past l)) (acts_for_target g l.lun) (is_selected g past l) (is_busy g past l || is_array_busy g past l) (latch g past l) ((tail_of past l).column % 256)
cycle_step g past l la OutputCycle cache = same_either_way (is_data la) (is_selected g past l) (is_busy g past l || is_array_busy g past l) (latch g past l) DataOutput refl

-- what a permitted item leaves of the latch
latch_step : (g : Parts) (n : ℕ) (past : List Item) (i : Item) (l : Lun) → broken g n past i ≡ None → l.lun < g.luns → latch g (i ∷ past) l ≡ unwrap_or (latch_decided g l past i) (latch g past l)
latch_step g n past (Cyc c) l h low = at (c.ce == l.ce) refl (cache_finds_driver g n past c l h)
  where
    at : (b : Bool) → (c.ce == l.ce) ≡ b → (c.ce ≡ l.ce → l.lun < g.luns → is_cache_cycle (tail_of past l) (target_cycle c.kind c.byte) ≡ true → is_off (latch g past l) ≡ not (drives_alone g past l)) → latch_after (cond b (cycle_effect g (tail_of past l) (latch g past l) (target_cycle c.kind c.byte) l.lun) Unaffected) (is_selected g past l) (is_busy g past l || is_array_busy g past l) (latch g past l) ≡ unwrap_or (cond b (latch_cycle g past l (target_cycle c.kind c.byte)) None) (latch g past l)
    at true e cache = cycle_step g past l (latch g past l) (target_cycle c.kind c.byte) (cache (eqb-true c.ce l.ce e) low)
    at false e cache = refl
latch_step g n past (Rdy ce lun fail) l h low = same_either_way (ce == l.ce && lun == l.lun) (is_selected g past l) (is_busy g past l || is_array_busy g past l) (latch g past l) (BecameReady fail) refl
latch_step g n past (Ard ce lun fail) l h low = same_either_way (ce == l.ce && lun == l.lun) (is_selected g past l) (is_busy g past l || is_array_busy g past l) (latch g past l) (ArrayBecameReady fail) refl

unwrap_before : (x y : Option Latch) → unwrap_or (or_before x y) Off ≡ unwrap_or x (unwrap_or y Off)
unwrap_before (Some a) y = refl
unwrap_before None y = refl

pub latch_is_decided : (g : Parts) (n : ℕ) (past : List Item) (l : Lun) → is_legal g n past ≡ true → l.lun < g.luns → latch g past l ≡ unwrap_or (last_decided (latch_decided g l) past) Off
latch_is_decided g n [] l legal low = refl
latch_is_decided g n (i ∷ past) l legal low =
    let both = both_true (is_permitted g n past i) (is_legal g n past) legal in
    latch_step g n past i l (permitted_none g n past i both.0) low ∙
    (ap (unwrap_or (latch_decided g l past i)) (latch_is_decided g n past l both.1 low) ∙ sym (unwrap_before (latch_decided g l past i) (last_decided (latch_decided g l) past)))

-- what any item leaves of the latch by what the LUN shows alone
alone_step : (g : Parts) (past : List Item) (i : Item) (l : Lun) → shown_after (effect_on g past i l) (lun_view g past l) ≡ unwrap_or (latch_decided g l past i) (latch g past l)
unfolding effect_among
alone_step g past (Cyc c) l = at (c.ce == l.ce)
  where
    at : (b : Bool) → latch_after (cond b (cycle_effect g (tail_of past l) (latch_alone g past l) (target_cycle c.kind c.byte) l.lun) Unaffected) (is_selected g past l) (is_busy g past l || is_array_busy g past l) (latch g past l) ≡ unwrap_or (cond b (latch_cycle g past l (target_cycle c.kind c.byte)) None) (latch g past l)
    at true = cycle_step g past l (latch_alone g past l) (target_cycle c.kind c.byte) (λ cache. alone_off g past l)
    at false = refl
alone_step g past (Rdy ce lun fail) l = same_either_way (ce == l.ce && lun == l.lun) (is_selected g past l) (is_busy g past l || is_array_busy g past l) (latch g past l) (BecameReady fail) refl
alone_step g past (Ard ce lun fail) l = same_either_way (ce == l.ce && lun == l.lun) (is_selected g past l) (is_busy g past l || is_array_busy g past l) (latch g past l) (ArrayBecameReady fail) refl

-- the latch goes on by the effect of a permitted item, as every other fact does
pub latch_by_effect : (g : Parts) (n : ℕ) (past : List Item) (i : Item) (l : Lun) → broken g n past i ≡ None → l.lun < g.luns → latch g (i ∷ past) l ≡ shown_after (effect_on g past i l) (lun_view g past l)
latch_by_effect g n past i l h low = latch_step g n past i l h low ∙ sym (alone_step g past i l)
