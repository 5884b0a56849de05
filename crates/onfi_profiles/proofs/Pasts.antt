-- What holds on each target after a legal past: a change of the column is under way where one LUN drives, and a whole row of a read names a LUN.
use Rattle.std.proofs.Common.{◌≡◌, ℕ, ◌+◌, ◌<◌, ◌==◌, ◌⊎◌, inl, inr, Bool, true, false, ◌&&◌, ◌||◌, cond, not, ltb, ltb-true, List, [], ◌∷◌, Option, Some, None, refl, sym, ap, ◌∙◌, subst, eqb-true}
use Rattle.std.proofs.lemmas.Bool.{not-false, and_parts}
use Rattle.nand_geometry.specs.declared.parts.Parts.{Parts}
use Rattle.nand_geometry.specs.Row.{parts_of, is_inside, row_of}
use Rattle.onfi_cycle.specs.declared.command.Command.{Command}
use Rattle.onfi_cycle.specs.declared.command.Command.TheVariants.{ChangeWriteColumn, Read, ReadConfirm, ChangeReadColumn, ReadCacheSequential}
use Rattle.onfi_cycle.specs.declared.effect.Effect.{Effect}
use Rattle.onfi_cycle.specs.declared.effect.Effect.TheVariants.{Unaffected, BecameReady, ArrayBecameReady}
use Rattle.onfi_cycle.specs.declared.item.Cycle.{Cycle}
use Rattle.onfi_cycle.specs.declared.item.Item.{Item}
use Rattle.onfi_cycle.specs.declared.item.Item.TheVariants.{Cyc, Rdy, Ard}
use Rattle.onfi_cycle.specs.declared.latch.Latch.{Latch}
use Rattle.onfi_cycle.specs.declared.lun.Lun.{Lun}
use Rattle.onfi_cycle.specs.declared.opening.Opening.{Opening}
use Rattle.onfi_cycle.specs.declared.target_cycle.TargetCycle.{TargetCycle}
use Rattle.onfi_cycle.specs.declared.target_cycle.TargetCycle.TheVariants.{CommandCycle, AddressCycle, InputCycle, OutputCycle}
use Rattle.onfi_cycle.specs.LunView.{LunView}
use Rattle.onfi_cycle.specs.Command.{address_cycles, closes, at_last_row, is_change_read_column}
use Rattle.onfi_cycle.specs.Sequence.{one_address_more, opened, opening, tail, target_cycle, with_cycle, facts_of, row, row_with, row_bytes, row_after_address, wants_command}
use Rattle.onfi_cycle.specs.Effect.{cycle_effect, address_effect, opening_address_effect, names_lun}
use Rattle.onfi_cycle.specs.Lun.{latch, latch_after, is_selected, is_busy, is_array_busy, drivers, drivers_from, effect_among, luns_of, closer, closer_after, is_cache_read, latch_alone}
use Rattle.onfi_cycle.specs.Rules.{driver, driver_is, is_some_and, may_change_column, breaks_no_column_to_change, breaks_row_outside, ends_row, excludes_cache, caching, named_lun_is, breaks_cache_read_misplaced, breaks_command_misplaced}
use Rattle.onfi_cycle.specs.Permitted.{broken, is_permitted, is_legal}
use Rattle.onfi_cycle.proofs.Latches.{IsOne, one_by_views}
use Rattle.onfi_cycle.proofs.Others.{permitted_none}
use Rattle.onfi_cycle.proofs.Passed.{permitted_keeps}
use Rattle.onfi_cycle.proofs.RowBounds.{next_is}
use Rattle.std.specs.List.{slice_get}
use Rattle.nand_geometry.specs.Optional.{is_wide}
use Rattle.onfi_cycle.specs.declared.tail_facts.TailFacts.{TailFacts}
use Rattle.onfi_cycle.proofs.Keeping.{view_at}
use Rattle.onfi_cycle.proofs.Booleans.{and_rest as rest_false}

abbrev pub lun_at : ℕ → ℕ → Lun
lun_at ce m = record { ce = ce; lun = m }

-- a test that the one driver passes is passed by one
pub driver_one : (g : Parts) (past : List Item) (ce : ℕ) (test : LunView → Bool) → driver_is test (luns_of g past ce) ≡ true → IsOne (drivers g past ce)
driver_one g past ce test h = at (driver (luns_of g past ce)) refl h
  where
    at : (o : Option LunView) → driver (luns_of g past ce) ≡ o → is_some_and test o ≡ true → IsOne (drivers g past ce)
    at None e h = cc
    at (Some v) e h = one_by_views g past ce g.luns 0 v e

-- where no latch changes, one driver stays
one_kept : (g : Parts) (past : List Item) (i : Item) (ce : ℕ) → ((m : ℕ) → latch g (i ∷ past) (lun_at ce m) ≡ latch g past (lun_at ce m)) → IsOne (drivers g past ce) → IsOne (drivers g (i ∷ past) ce)
one_kept g past i ce same one = let path : drivers g past ce ≡ drivers g (i ∷ past) ce = λ k. drivers_from (λ m. sym (same m) k) g.luns 0 in subst IsOne path one

rests : (b : Bool) (x : Effect) (s w : Bool) (l : Latch) → latch_after x s w l ≡ l → latch_after (cond b x Unaffected) s w l ≡ l
rests true x s w l h = h
rests false x s w l h = refl

pub both_legal : (g : Parts) (targets : ℕ) (past : List Item) (i : Item) → is_legal g targets (i ∷ past) ≡ true → (broken g targets past i ≡ None) × (is_legal g targets past ≡ true)
both_legal g targets past i h = let parts = and_parts (is_permitted g targets past i) (is_legal g targets past) h in (permitted_none g targets past i parts.0, parts.1)

-- 1. a change of the column

abbrev pub in_column : Option Opening → Bool
in_column o = opened (λ c n. is_change_read_column c) o

neither : (b : Bool) → cond b Unaffected Unaffected ≡ Unaffected
neither true = refl
neither false = refl

-- a cycle behind which it is under way does nothing, and is its command or comes where it was under way
record Leads (g : Parts) (k : TargetCycle) (t : List TargetCycle) : Type 0 where
  rests : (m : ℕ) (la : Latch) → cycle_effect g (facts_of t) la k m ≡ Unaffected
  begun : (k ≡ CommandCycle ChangeReadColumn) ⊎ (in_column (opening t) ≡ true)

leads : (g : Parts) (k : TargetCycle) (t : List TargetCycle) → in_column (opening (with_cycle k t)) ≡ true → Leads g k t
leads g (CommandCycle ChangeReadColumn) t h = record { rests = λ m la. neither (wants_command (facts_of t) ChangeReadColumn && names_lun g (row (facts_of t)) m); begun = inl refl }
leads g (CommandCycle ReadCacheSequential) (d ∷ t) h = at (wants_command (facts_of (d ∷ t)) ReadCacheSequential) h
  where
    at : (w : Bool) → in_column (opening (cond (not w) (CommandCycle ReadCacheSequential ∷ []) (CommandCycle ReadCacheSequential ∷ (d ∷ t)))) ≡ true → Leads g (CommandCycle ReadCacheSequential) (d ∷ t)
    at true h = cc
    at false h = cc
leads g (CommandCycle ChangeWriteColumn) (d ∷ t) h = at (wants_command (facts_of (d ∷ t)) ChangeWriteColumn) h
  where
    at : (w : Bool) → in_column (opening (cond (not w) (CommandCycle ChangeWriteColumn ∷ []) (CommandCycle ChangeWriteColumn ∷ (d ∷ t)))) ≡ true → Leads g (CommandCycle ChangeWriteColumn) (d ∷ t)
    at true h = cc
    at false h = cc
leads g (CommandCycle c) [] h = cc
leads g (CommandCycle c) (d ∷ t) h = cc
leads g (AddressCycle byte) [] h = cc
leads g (AddressCycle byte) (d ∷ t) h = record { rests = λ m la. at (opening (d ∷ t)) h m; begun = inr (before (opening (d ∷ t)) h) }
  where
    before : (o : Option Opening) → in_column (one_address_more o) ≡ true → in_column o ≡ true
    before None h = h
    before (Some o) h = h

    kind : (c : Command) (n m : ℕ) → is_change_read_column c ≡ true → address_effect g (facts_of (d ∷ t)) byte c n m ≡ Unaffected
    kind ChangeReadColumn n m h = refl
    kind c n m h = cc

    at : (o : Option Opening) → in_column (one_address_more o) ≡ true → (m : ℕ) → opening_address_effect g (facts_of (d ∷ t)) byte o m ≡ Unaffected
    at None h m = refl
    at (Some o) h m = kind o.opener o.addresses m h
leads g (InputCycle byte) [] h = cc
leads g (InputCycle byte) (d ∷ t) h = cc
leads g OutputCycle [] h = cc
leads g OutputCycle (d ∷ t) h = cc

-- a permitted 05 finds one driver
column_finds : (g : Parts) (targets : ℕ) (past : List Item) (c : Cycle) (ce : ℕ) → broken g targets past (Cyc c) ≡ None → c.ce ≡ ce → target_cycle c.kind c.byte ≡ CommandCycle ChangeReadColumn → IsOne (drivers g past ce)
unfolding breaks_no_column_to_change
column_finds g targets past c ce h here is =
    let f5 = subst (λ (k : TargetCycle). breaks_no_column_to_change (luns_of g past c.ce) k ≡ false) is (permitted_keeps g targets past c h).f5 in
    subst (λ (x : ℕ). IsOne (drivers g past x)) here (driver_one g past c.ce may_change_column (not-false _ f5))

pub column_driver : (g : Parts) (targets : ℕ) (past : List Item) (ce : ℕ) → is_legal g targets past ≡ true → in_column (opening (tail past ce)) ≡ true → IsOne (drivers g past ce)
unfolding effect_among
column_driver g targets [] ce legal h = cc
column_driver g targets (Rdy a b f ∷ past) ce legal h =
    one_kept g past (Rdy a b f) ce (λ m. rests (a == ce && b == m) (BecameReady f) (is_selected g past (lun_at ce m)) (is_busy g past (lun_at ce m) || is_array_busy g past (lun_at ce m)) (latch g past (lun_at ce m)) refl)
    (column_driver g targets past ce (both_legal g targets past (Rdy a b f) legal).1 h)
column_driver g targets (Ard a b fail ∷ past) ce legal h =
    one_kept g past (Ard a b fail) ce (λ m. rests (a == ce && b == m) (ArrayBecameReady fail) (is_selected g past (lun_at ce m)) (is_busy g past (lun_at ce m) || is_array_busy g past (lun_at ce m)) (latch g past (lun_at ce m)) refl)
    (column_driver g targets past ce (both_legal g targets past (Ard a b fail) legal).1 h)
column_driver g targets (Cyc c ∷ past) ce legal h =
    let parts = both_legal g targets past (Cyc c) legal in
    at parts.0 (column_driver g targets past ce parts.1) (c.ce == ce) refl h
  where
    before : broken g targets past (Cyc c) ≡ None → (in_column (opening (tail past ce)) ≡ true → IsOne (drivers g past ce)) → c.ce ≡ ce → (target_cycle c.kind c.byte ≡ CommandCycle ChangeReadColumn) ⊎ (in_column (opening (tail past ce)) ≡ true) → IsOne (drivers g past ce)
    before permitted ih here (inl is) = column_finds g targets past c ce permitted here is
    before permitted ih here (inr was) = ih was

    shown_by_effect : Bool → Effect → ℕ → Latch
    shown_by_effect b x m = latch_after (cond b x Unaffected) (is_selected g past (lun_at ce m)) (is_busy g past (lun_at ce m) || is_array_busy g past (lun_at ce m)) (latch g past (lun_at ce m))

    at : broken g targets past (Cyc c) ≡ None → (in_column (opening (tail past ce)) ≡ true → IsOne (drivers g past ce)) → (b : Bool) → (c.ce == ce) ≡ b → in_column (opening (cond b (with_cycle (target_cycle c.kind c.byte) (tail past ce)) (tail past ce))) ≡ true → IsOne (drivers g (Cyc c ∷ past) ce)
    at permitted ih true e h =
        let lead = leads g (target_cycle c.kind c.byte) (tail past ce) h in
        one_kept g past (Cyc c) ce
        (λ m. ap (λ (b : Bool). shown_by_effect b (cycle_effect g (facts_of (tail past ce)) (latch g past (lun_at ce m)) (target_cycle c.kind c.byte) m) m) e
        ∙ ap (λ (x : Effect). shown_by_effect true x m) (lead.rests m (latch g past (lun_at ce m))))
        (before permitted ih (eqb-true c.ce ce e) lead.begun)
    at permitted ih false e h =
        one_kept g past (Cyc c) ce
        (λ m. ap (λ (b : Bool). shown_by_effect b (cycle_effect g (facts_of (tail past ce)) (latch g past (lun_at ce m)) (target_cycle c.kind c.byte) m) m) e)
        (ih h)

-- 2. the whole row of a read

abbrev pub whole_read : Option Opening → Bool
whole_read o = opened (λ c n. closes c ReadConfirm && n == address_cycles c) o

-- the address that completes it
last_of_read : (c : Command) (n : ℕ) → (closes c ReadConfirm && n + 1 == address_cycles c) ≡ true → (true && at_last_row c n) ≡ true
last_of_read Read n h = let four : n ≡ 4 = next_is n 4 h in rw four refl
last_of_read c n h = cc

names_inside : (g : Parts) (r : ℕ) → is_inside g (parts_of g r) ≡ true → (parts_of g r).lun < g.luns
names_inside g r h = ltb-true (parts_of g r).lun g.luns (first (ltb (parts_of g r).lun g.luns) (ltb (parts_of g r).block g.blocks) (ltb (parts_of g r).page g.pages) h)
  where
    first : (a b c : Bool) → (a && b && c) ≡ true → a ≡ true
    first true b c h = refl
    first false b c h = cc

and_rest : (a b : Bool) → a ≡ true → (a && not b) ≡ false → b ≡ true
and_rest true true e h = refl
and_rest true false e h = cc
and_rest false b e h = cc

-- no command completes it
no_read : (c : Command) (t : List TargetCycle) → whole_read (opening (with_cycle (CommandCycle c) t)) ≡ true → false ≡ true
no_read Read [] h = h
no_read Read (d ∷ t) h = h
no_read ReadCacheSequential (d ∷ t) h = at (wants_command (facts_of (d ∷ t)) ReadCacheSequential) h
  where
    at : (w : Bool) → whole_read (opening (cond (not w) (CommandCycle ReadCacheSequential ∷ []) (CommandCycle ReadCacheSequential ∷ (d ∷ t)))) ≡ true → false ≡ true
    at true h = h
    at false h = h
no_read ChangeWriteColumn (d ∷ t) h = at (wants_command (facts_of (d ∷ t)) ChangeWriteColumn) h
  where
    at : (w : Bool) → whole_read (opening (cond (not w) (CommandCycle ChangeWriteColumn ∷ []) (CommandCycle ChangeWriteColumn ∷ (d ∷ t)))) ≡ true → false ≡ true
    at true h = h
    at false h = h
no_read c [] h = h
no_read c (d ∷ t) h = h

read_by : (g : Parts) (targets : ℕ) (past : List Item) (c : Cycle) (ce : ℕ) → broken g targets past (Cyc c) ≡ None → c.ce ≡ ce → whole_read (opening (with_cycle (target_cycle c.kind c.byte) (tail past ce))) ≡ true → (parts_of g (row (facts_of (with_cycle (target_cycle c.kind c.byte) (tail past ce))))).lun < g.luns
unfolding breaks_row_outside
read_by g targets past c ce h here whole = at (target_cycle c.kind c.byte) (tail past ce) (subst (λ (x : ℕ). breaks_row_outside g (facts_of (tail past x)) (target_cycle c.kind c.byte) ≡ false) here (permitted_keeps g targets past c h).f8) whole
  where
    ends : (byte : ℕ) (t : List TargetCycle) (o : Option Opening) → opening t ≡ o → breaks_row_outside g (facts_of t) (AddressCycle byte) ≡ false → whole_read (one_address_more o) ≡ true → (parts_of g (row_of (row_after_address o byte (row_bytes t)).r1 (row_after_address o byte (row_bytes t)).r2 (row_after_address o byte (row_bytes t)).r3)).lun < g.luns
    ends byte t None e f8 whole = cc
    ends byte t (Some o) e f8 whole =
        let last : opened (λ c n. true && at_last_row c n) (opening t) ≡ true = ap (opened (λ c n. true && at_last_row c n)) e ∙ last_of_read o.opener o.addresses whole in
        names_inside g (row_with (facts_of t) byte) (and_rest (opened (λ c n. true && at_last_row c n) (opening t)) _ last f8)

    at : (k : TargetCycle) (t : List TargetCycle) → breaks_row_outside g (facts_of t) k ≡ false → whole_read (opening (with_cycle k t)) ≡ true → (parts_of g (row (facts_of (with_cycle k t)))).lun < g.luns
    at (CommandCycle c) t f8 whole = let no = no_read c t whole in cc
    at (AddressCycle byte) [] f8 whole = cc
    at (AddressCycle byte) (d ∷ t) f8 whole = ends byte (d ∷ t) (opening (d ∷ t)) refl f8 whole
    at (InputCycle byte) [] f8 whole = cc
    at (InputCycle byte) (d ∷ t) f8 whole = cc
    at OutputCycle [] f8 whole = cc
    at OutputCycle (d ∷ t) f8 whole = cc

pub read_inside : (g : Parts) (targets : ℕ) (past : List Item) (ce : ℕ) → is_legal g targets past ≡ true → whole_read (opening (tail past ce)) ≡ true → (parts_of g (row (facts_of (tail past ce)))).lun < g.luns
read_inside g targets [] ce legal h = cc
read_inside g targets (Rdy a b f ∷ past) ce legal h = read_inside g targets past ce (both_legal g targets past (Rdy a b f) legal).1 h
read_inside g targets (Ard a b fail ∷ past) ce legal h = read_inside g targets past ce (both_legal g targets past (Ard a b fail) legal).1 h
read_inside g targets (Cyc c ∷ past) ce legal h =
    let parts = both_legal g targets past (Cyc c) legal in
    at parts.0 (read_inside g targets past ce parts.1) (c.ce == ce) refl h
  where
    named : Bool → ℕ
    named b = (parts_of g (row (facts_of (cond b (with_cycle (target_cycle c.kind c.byte) (tail past ce)) (tail past ce))))).lun

    at : broken g targets past (Cyc c) ≡ None → (whole_read (opening (tail past ce)) ≡ true → named false < g.luns) → (b : Bool) → (c.ce == ce) ≡ b → whole_read (opening (cond b (with_cycle (target_cycle c.kind c.byte) (tail past ce)) (tail past ce))) ≡ true → named (c.ce == ce) < g.luns
    at permitted ih true e h = subst (λ (b : Bool). named b < g.luns) (sym e) (read_by g targets past c ce permitted (eqb-true c.ce ce e) h)
    at permitted ih false e h = subst (λ (b : Bool). named b < g.luns) (sym e) (ih h)

-- 3. in the base profile a whole read names a LUN that does no cache read

same_closer : (b : Bool) (e : Effect) (c : Option Command) → closer_after e c ≡ c → closer_after (cond b e Unaffected) c ≡ c
same_closer true e c h = h
same_closer false e c h = refl

read_rests : (g : Parts) (t : TailFacts) (byte : ℕ) (c : Command) (n m : ℕ) → (closes c ReadConfirm && n + 1 == address_cycles c) ≡ true → address_effect g t byte c n m ≡ Unaffected
read_rests g t byte Read n m h = refl
read_rests g t byte c n m h = cc

last_excludes : (g : Parts) → is_wide g.optional ≡ false → (c : Command) (n : ℕ) → (closes c ReadConfirm && n + 1 == address_cycles c) ≡ true → (excludes_cache g c && at_last_row c n) ≡ true
last_excludes g narrow Read n h = let four : n ≡ 4 = next_is n 4 h in rw (narrow, four) refl
last_excludes g narrow c n h = cc

uncached_by : (g : Parts) (targets : ℕ) (past : List Item) (c : Cycle) (ce n : ℕ) (la : Latch) → is_wide g.optional ≡ false → broken g targets past (Cyc c) ≡ None → c.ce ≡ ce → n < g.luns → whole_read (opening (with_cycle (target_cycle c.kind c.byte) (tail past ce))) ≡ true
    → n ≡ (parts_of g (row (facts_of (with_cycle (target_cycle c.kind c.byte) (tail past ce))))).lun
    → is_cache_read (closer_after (cycle_effect g (facts_of (tail past ce)) la (target_cycle c.kind c.byte) n) (closer g past (lun_at ce n))) ≡ false
unfolding breaks_cache_read_misplaced
uncached_by g targets past c ce n la narrow h here low whole named =
    at (target_cycle c.kind c.byte) (tail past ce) (subst (λ (x : ℕ). breaks_cache_read_misplaced g (facts_of (tail past x)) (luns_of g past x) (target_cycle c.kind c.byte) ≡ false) here (permitted_keeps g targets past c h).f15) whole named
  where
    before : (r : ℕ) → n ≡ (parts_of g r).lun → named_lun_is g r caching (luns_of g past ce) ≡ false → is_cache_read (closer g past (lun_at ce n)) ≡ false
    before r is free =
        sym (ap (is_some_and caching) (view_at g past (lun_at ce n) low)) ∙ (ap (λ (m : ℕ). is_some_and caching (slice_get (luns_of g past ce) m)) is ∙ free)

    ends : (byte : ℕ) (t : List TargetCycle) (o : Option Opening) → opening t ≡ o → (ends_row (excludes_cache g) (facts_of t) && named_lun_is g (row_with (facts_of t) byte) caching (luns_of g past ce)) ≡ false → whole_read (one_address_more o) ≡ true
        → n ≡ (parts_of g (row_of (row_after_address o byte (row_bytes t)).r1 (row_after_address o byte (row_bytes t)).r2 (row_after_address o byte (row_bytes t)).r3)).lun
        → is_cache_read (closer_after (opening_address_effect g (facts_of t) byte (opening t) n) (closer g past (lun_at ce n))) ≡ false
    ends byte t None e f15 whole named = cc
    ends byte t (Some o) e f15 whole named =
        let rests : opening_address_effect g (facts_of t) byte (opening t) n ≡ Unaffected = ap (λ (x : Option Opening). opening_address_effect g (facts_of t) byte x n) e ∙ read_rests g (facts_of t) byte o.opener o.addresses n whole in
        let last : ends_row (excludes_cache g) (facts_of t) ≡ true = ap (opened (λ c n. excludes_cache g c && at_last_row c n)) e ∙ last_excludes g narrow o.opener o.addresses whole in
        ap (λ (x : Effect). is_cache_read (closer_after x (closer g past (lun_at ce n)))) rests ∙ before (row_with (facts_of t) byte) named (rest_false (ends_row (excludes_cache g) (facts_of t)) _ last f15)

    at : (k : TargetCycle) (t : List TargetCycle) → breaks_cache_read_misplaced g (facts_of t) (luns_of g past ce) k ≡ false → whole_read (opening (with_cycle k t)) ≡ true → n ≡ (parts_of g (row (facts_of (with_cycle k t)))).lun
        → is_cache_read (closer_after (cycle_effect g (facts_of t) la k n) (closer g past (lun_at ce n))) ≡ false
    at (CommandCycle c) t f15 whole named = let no = no_read c t whole in cc
    at (AddressCycle byte) [] f15 whole named = cc
    at (AddressCycle byte) (d ∷ t) f15 whole named = ends byte (d ∷ t) (opening (d ∷ t)) refl f15 whole named
    at (InputCycle byte) [] f15 whole named = cc
    at (InputCycle byte) (d ∷ t) f15 whole named = cc
    at OutputCycle [] f15 whole named = cc
    at OutputCycle (d ∷ t) f15 whole named = cc

read_uncached : (g : Parts) (targets : ℕ) (past : List Item) (ce : ℕ) → is_wide g.optional ≡ false → is_legal g targets past ≡ true → whole_read (opening (tail past ce)) ≡ true → is_cache_read (closer g past (lun_at ce (parts_of g (row (facts_of (tail past ce)))).lun)) ≡ false
unfolding effect_among
read_uncached g targets [] ce narrow legal h = cc
read_uncached g targets (Rdy a b f ∷ past) ce narrow legal h =
    let n = (parts_of g (row (facts_of (tail past ce)))).lun in
    ap is_cache_read (same_closer (a == ce && b == n) (BecameReady f) (closer g past (lun_at ce n)) refl) ∙ read_uncached g targets past ce narrow (both_legal g targets past (Rdy a b f) legal).1 h
read_uncached g targets (Ard a b fail ∷ past) ce narrow legal h =
    let n = (parts_of g (row (facts_of (tail past ce)))).lun in
    ap is_cache_read (same_closer (a == ce && b == n) (ArrayBecameReady fail) (closer g past (lun_at ce n)) refl) ∙ read_uncached g targets past ce narrow (both_legal g targets past (Ard a b fail) legal).1 h
read_uncached g targets (Cyc c ∷ past) ce narrow legal h =
    let parts = both_legal g targets past (Cyc c) legal in
    at parts.0 (read_uncached g targets past ce narrow parts.1) (c.ce == ce) refl h (read_inside g targets (Cyc c ∷ past) ce legal h)
  where
    named : Bool → ℕ
    named b = (parts_of g (row (facts_of (cond b (with_cycle (target_cycle c.kind c.byte) (tail past ce)) (tail past ce))))).lun

    at : broken g targets past (Cyc c) ≡ None → (whole_read (opening (tail past ce)) ≡ true → is_cache_read (closer g past (lun_at ce (named false))) ≡ false) → (b : Bool) → (c.ce == ce) ≡ b → whole_read (opening (cond b (with_cycle (target_cycle c.kind c.byte) (tail past ce)) (tail past ce))) ≡ true → named b < g.luns
        → is_cache_read (closer_after (cond b (cycle_effect g (facts_of (tail past ce)) (latch_alone g past (lun_at ce (named b))) (target_cycle c.kind c.byte) (named b)) Unaffected) (closer g past (lun_at ce (named b)))) ≡ false
    at permitted ih true e h low = uncached_by g targets past c ce (named true) (latch_alone g past (lun_at ce (named true))) narrow permitted (eqb-true c.ce ce e) low h refl
    at permitted ih false e h low = ih h

-- the LUN that a permitted 30 of the base profile names
pub confirm_uncached : (g : Parts) (targets : ℕ) (past : List Item) (c : Cycle) → is_wide g.optional ≡ false → is_legal g targets past ≡ true → broken g targets past (Cyc c) ≡ None → target_cycle c.kind c.byte ≡ CommandCycle ReadConfirm
    → named_lun_is g (row (facts_of (tail past c.ce))) caching (luns_of g past c.ce) ≡ false
unfolding breaks_command_misplaced
confirm_uncached g targets past c narrow legal h is =
    let f6 : not (whole_read (opening (tail past c.ce))) ≡ false = subst (λ (k : TargetCycle). breaks_command_misplaced g (facts_of (tail past c.ce)) k ≡ false) is (permitted_keeps g targets past c h).f6 in
    let whole = not-false (whole_read (opening (tail past c.ce))) f6 in
    let n = (parts_of g (row (facts_of (tail past c.ce)))).lun in
    ap (is_some_and caching) (view_at g past (lun_at c.ce n) (read_inside g targets past c.ce legal whole)) ∙ read_uncached g targets past c.ce narrow legal whole
