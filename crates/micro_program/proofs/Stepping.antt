-- A cycle that a scene allows is own, and leads to the scene behind it.
use Rattle.std.proofs.Common.{◌≡◌, ◌≢◌, inl, inr, ℕ, zero, suc, ◌+◌, ◌<◌, ◌≤◌, ◌%◌, ◌==◌, Bool, true, false, ◌&&◌, ◌||◌, cond, not, ltb, Option, Some, None, List, [], ◌∷◌, arith, refl, sym, ap, ◌∙◌, subst, eqb-true, eq-eqb}
use Rattle.std.proofs.lemmas.Bool.{not-true, or_cases, and_parts, and_from}
use Rattle.std.proofs.lemmas.Bool.Decides.{nat_tests}
use Rattle.onfi_cycle.proofs.Booleans.{eqb_self}
use Rattle.nand_geometry.specs.declared.parts.Parts.{Parts}
use Rattle.nand_geometry.specs.Limits.{planes}
use Rattle.onfi_cycle.specs.declared.command.Command.{Command}
use Rattle.onfi_cycle.specs.declared.command.Command.TheVariants.{Read, ReadConfirm, ChangeReadColumnConfirm, BlockEraseConfirm, BlockErasePlane, ReadStatus, ReadStatusEnhanced, ProgramConfirm, ProgramPlane, ReadId, ReadParameterPage, Reset, ReadCacheSequential, ReadCacheEnd, ReadUniqueId, GetFeatures, SetFeatures, ResetLun, SynchronousReset, ReadPlane, CopybackRead, PageProgram, ProgramCache}
use Rattle.onfi_cycle.specs.declared.lun.Lun.{Lun}
use Rattle.onfi_cycle.specs.declared.item.Item.{Item}
use Rattle.onfi_cycle.specs.declared.item.Kind.{Kind}
use Rattle.onfi_cycle.specs.declared.latch.Latch.{Latch}
use Rattle.onfi_cycle.specs.declared.latch.Latch.TheVariants.{Off, Status, Data}
use Rattle.onfi_cycle.specs.declared.opening.Opening.{Opening}
use Rattle.onfi_cycle.specs.declared.effect.Effect.{Effect}
use Rattle.onfi_cycle.specs.declared.effect.Effect.TheVariants.{Unaffected, Deselected, PlaneSelected, AnotherAddressed, DataOutput, CacheReadContinued, CacheReadEnded, IdRead, IdentityRead, ParameterPageReadStarted, UniqueIdReadStarted, FeaturesReadStarted, FeaturesSet}
use Rattle.onfi_cycle.specs.declared.tail_facts.TailFacts.{TailFacts}
use Rattle.onfi_cycle.specs.declared.target_cycle.TargetCycle.{TargetCycle}
use Rattle.onfi_cycle.specs.declared.target_cycle.TargetCycle.TheVariants.{CommandCycle, AddressCycle, InputCycle, OutputCycle}
use Rattle.onfi_cycle.specs.LunView.{LunView}
use Rattle.onfi_cycle.specs.Sequence.{tail, facts_of, facts_after, opened, selects_plane, takes_features, target_cycle, wants_command, wants_address, row, row_with}
use Rattle.onfi_cycle.specs.Effect.{is_off, is_data, is_shared, of_target, lun_reset_effect, program_row_effect, names_lun, command_effect, address_effect, opening_address_effect, id_effect, ends_features, cycle_effect, row_effect, cache_effect, plane_of_row, plane_effect, column_effect}
use Rattle.onfi_cycle.specs.Lun.{latch, latch_after, works, latch_alone, effect_on, drivers, drivers_from, is_only, lun_view, luns_of, view_after}
use Rattle.nand_geometry.specs.Optional.{is_wide}
use Rattle.onfi_cycle.specs.Command.{closes_row, reads_identity}
use Rattle.onfi_cycle.specs.Rules.{ends_row}
use Rattle.onfi_cycle.specs.Permitted.{broken, judge_cycle}
use Rattle.onfi_cycle.specs.OtherLun.{keeps_to}
use Rattle.onfi_cycle.specs.Channel.{Channel, IsOwn, is_there, cycle}
use Rattle.micro_program.proofs.Below.{facts, service, driver_on}
use Rattle.micro_program.proofs.Basics.{there_lun}
use Rattle.micro_program.proofs.Calm.{own_effect}
use Rattle.micro_program.proofs.Cycles.{of_no_target, permitted_cycle}
use Rattle.micro_program.proofs.Scenes.{Scene, IsScene, PlaneAllowed, CommandAllowed, AddressAllowed, Allowed, shown_alone, command_sole, opener_sole, address_sole, sole_behind, scene_behind, closed_unwanted}
use Rattle.micro_program.proofs.Judged.{one_lun, command_judged, address_judged, input_judged, output_judged}

-- 1. permitted, and the LUN's own

-- a target with one LUN isn't shared
not_shared : (g : Parts) → ltb 1 g.luns ≡ false → is_shared g ≡ false
not_shared g one = ap (λ (b : Bool). is_wide g.optional && b) one ∙ none (is_wide g.optional)
  where
    none : (b : Bool) → (b && false) ≡ false
    none true = refl
    none false = refl

alone_to_target : (shared serves keeps : Bool) → shared ≡ false → keeps ≡ true → (not (shared && serves) && keeps) ≡ true
alone_to_target true serves keeps one keep = cc
alone_to_target false serves keeps one keep = keep

-- the first of several LUNs does what is done for its target, and so does one alone
pub of_one : (g : Parts) (lun : ℕ) (e : Effect) → ltb 1 g.luns ≡ false → of_target g lun e ≡ e
of_one g lun e one = ap (λ (b : Bool). cond (not b || lun == 0) e Deselected) (not_shared g one)

-- a 31 is of the LUN of its row, where it is wanted, and else of the driver; and so is an E0, where 06 began it
at_row : (w named only : Bool) → w ≡ true → named ≡ true → cond w named only ≡ true
at_row true named only e h = h
at_row false named only e h = cc

at_driver : (w named only : Bool) → w ≡ false → only ≡ true → cond w named only ≡ true
at_driver true named only e h = cc
at_driver false named only e h = h

command_keeps_to : (s : Channel) (l : Lun) (past : List Item) (c : Scene) → IsScene s l past c → (d : Command) → CommandAllowed s.geometry l.lun c d → keeps_to s.geometry past l (CommandCycle d) ≡ true
command_keeps_to s l past c k ReadConfirm a = of_no_target (is_shared s.geometry) false _ refl (ap (λ (t : TailFacts). names_lun s.geometry (row t) l.lun) k.facts ∙ a.0.1)
command_keeps_to s l past c k BlockEraseConfirm a = of_no_target (is_shared s.geometry) false _ refl (ap (λ (t : TailFacts). names_lun s.geometry (row t) l.lun) k.facts ∙ a.1)
command_keeps_to s l past c k BlockErasePlane a = of_no_target (is_shared s.geometry) false _ refl (ap (λ (t : TailFacts). names_lun s.geometry (row t) l.lun) k.facts ∙ a.0.1)
command_keeps_to s l past c k ProgramConfirm a = of_no_target (is_shared s.geometry) false _ refl (ap (λ (t : TailFacts). names_lun s.geometry (row t) l.lun) k.facts ∙ a.1)
command_keeps_to s l past c k ProgramPlane a = of_no_target (is_shared s.geometry) false _ refl (ap (λ (t : TailFacts). names_lun s.geometry (row t) l.lun) k.facts ∙ a.0.1)
command_keeps_to s l past c k ProgramCache a = of_no_target (is_shared s.geometry) false _ refl (ap (λ (t : TailFacts). names_lun s.geometry (row t) l.lun) k.facts ∙ a.names)
command_keeps_to s l past c k ChangeReadColumnConfirm (inl a) =
    of_no_target (is_shared s.geometry) false _ refl
    (at_driver (selects_plane (facts_of (tail past l.ce))) _ _ (ap selects_plane k.facts ∙ a.no_plane) (k.sole a.sole))
command_keeps_to s l past c k ChangeReadColumnConfirm (inr a) =
    of_no_target (is_shared s.geometry) false _ refl
    (at_row (selects_plane (facts_of (tail past l.ce))) _ _ (ap selects_plane k.facts ∙ a.plane) (ap (λ (t : TailFacts). names_lun s.geometry (row t) l.lun) k.facts ∙ a.names))
command_keeps_to s l past c k ReadCacheSequential (inl a) =
    of_no_target (is_shared s.geometry) false _ refl
    (at_driver (wants_command (facts_of (tail past l.ce)) ReadCacheSequential) _ _ (ap (λ (t : TailFacts). wants_command t ReadCacheSequential) k.facts ∙ closed_unwanted c.facts a.closed) (k.sole a.sole))
command_keeps_to s l past c k ReadCacheSequential (inr a) =
    of_no_target (is_shared s.geometry) false _ refl
    (at_row (wants_command (facts_of (tail past l.ce)) ReadCacheSequential) _ _ (ap (λ (t : TailFacts). wants_command t ReadCacheSequential) k.facts ∙ a.wants) (ap (λ (t : TailFacts). names_lun s.geometry (row t) l.lun) k.facts ∙ a.names))
command_keeps_to s l past c k ReadCacheEnd a = of_no_target (is_shared s.geometry) false _ refl (k.sole a.sole)
command_keeps_to s l past c k ReadId a = alone_to_target (is_shared s.geometry) true true (not_shared s.geometry a.one) refl
command_keeps_to s l past c k ReadParameterPage a = alone_to_target (is_shared s.geometry) true true (not_shared s.geometry a.one) refl
command_keeps_to s l past c k ReadUniqueId a = alone_to_target (is_shared s.geometry) true true (not_shared s.geometry a.0.one) refl
command_keeps_to s l past c k GetFeatures a = alone_to_target (is_shared s.geometry) true true (not_shared s.geometry a.0.one) refl
command_keeps_to s l past c k SetFeatures a = alone_to_target (is_shared s.geometry) true true (not_shared s.geometry a.0.one) refl
command_keeps_to s l past c k Reset a = alone_to_target (is_shared s.geometry) true true (not_shared s.geometry a.one) refl
command_keeps_to s l past c k SynchronousReset a = alone_to_target (is_shared s.geometry) true true (not_shared s.geometry a.0.one) refl
command_keeps_to s l past c k ReadPlane a = of_no_target (is_shared s.geometry) false _ refl (ap (λ (t : TailFacts). names_lun s.geometry (row t) l.lun) k.facts ∙ a.0.1)
command_keeps_to s l past c k CopybackRead a = of_no_target (is_shared s.geometry) false _ refl (ap (λ (t : TailFacts). names_lun s.geometry (row t) l.lun) k.facts ∙ a.0.1)
command_keeps_to s l past c k _ a = of_no_target (is_shared s.geometry) false true refl refl

either : (b : Bool) (x : Bool) → (b ≡ true → x ≡ true) → cond b x true ≡ true
either true x h = h refl
either false x h = refl

-- what serves a whole target does so on one LUN
keeps_alone : (g : Parts) (serves keeps : Bool) → (serves ≡ true → ltb 1 g.luns ≡ false) → keeps ≡ true → (not (is_shared g && serves) && keeps) ≡ true
keeps_alone g true keeps one keep = alone_to_target (is_shared g) true keeps (not_shared g (one refl)) keep
keeps_alone g false keeps one keep = of_no_target (is_shared g) false keeps refl keep

cycle_keeps_to : (s : Channel) (l : Lun) (past : List Item) (c : Scene) → IsScene s l past c → (d : TargetCycle) → Allowed s.geometry l.lun c d → keeps_to s.geometry past l d ≡ true
cycle_keeps_to s l past c k (CommandCycle d) a = command_keeps_to s l past c k d a
cycle_keeps_to s l past c k (AddressCycle byte) a =
    keeps_alone s.geometry (opened (λ d n. reads_identity d) (facts_of (tail past l.ce)).opening) _
    (λ e. a.alone (ap (λ (t : TailFacts). opened (λ d n. reads_identity d) t.opening) (sym k.facts) ∙ e))
    (subst (λ (t : TailFacts). cond (ends_row (λ d. true) t) (names_lun s.geometry (row_with t byte) l.lun) true ≡ true) (sym k.facts)
    (either (ends_row (λ d. true) c.facts) _ (λ e. (a.row e).names)))
cycle_keeps_to s l past c k (InputCycle byte) a =
    keeps_alone s.geometry (takes_features (facts_of (tail past l.ce)).phase) true
    (λ e. a.alone (ap (λ (t : TailFacts). takes_features t.phase) (sym k.facts) ∙ e)) refl
cycle_keeps_to s l past c k OutputCycle a = of_no_target (is_shared s.geometry) false _ refl (k.sole a.sole)

cycle_judged : (s : Channel) (l : Lun) (past : List Item) (c : Scene) → is_there s l ≡ true → IsScene s l past c → (d : TargetCycle) → Allowed s.geometry l.lun c d → judge_cycle s.geometry c.facts (luns_of s.geometry past l.ce) d ≡ None
cycle_judged s l past c there k (CommandCycle d) a = command_judged s l past c there k d a
cycle_judged s l past c there k (AddressCycle byte) a = address_judged s l past c byte there k a
cycle_judged s l past c there k (InputCycle byte) a = input_judged s.geometry c.facts _ byte a.wanted a.inside
cycle_judged s l past c there k OutputCycle a = output_judged s.geometry c.facts _ c.view a.closed (facts.sole_driver s.geometry past l (k.sole a.sole) ∙ ap Some k.view) a.has_byte a.inside

pub own_cycle : (s : Channel) (l : Lun) (past : List Item) (c : Scene) → is_there s l ≡ true → IsScene s l past c → (kind : Kind) (byte : ℕ) → Allowed s.geometry l.lun c (target_cycle kind byte) → IsOwn s l past (cycle l.ce kind byte)
own_cycle s l past c there k kind byte a =
    record {
      permitted = permitted_cycle s past l kind byte there (subst (λ (t : TailFacts). judge_cycle s.geometry t (luns_of s.geometry past l.ce) (target_cycle kind byte) ≡ None) (sym k.facts) (cycle_judged s l past c there k (target_cycle kind byte) a));
      own = and_from _ _ (eqb_self l.ce) (cycle_keeps_to s l past c k (target_cycle kind byte) a);
    }

-- 2. what the LUN is behind it

same_command_effect : (g : Parts) (x : Latch) (c : Scene) (lun : ℕ) → (c.sole ≡ true → x ≡ shown_alone c) → (d : Command) → CommandAllowed g lun c d → command_effect g c.facts x d lun ≡ command_effect g c.facts (shown_alone c) d lun
same_command_effect g x c lun h ChangeReadColumnConfirm (inl a) = ap (λ (y : Latch). command_effect g c.facts y ChangeReadColumnConfirm lun) (h a.sole)
same_command_effect g x c lun h ChangeReadColumnConfirm (inr a) = rw a.plane refl
same_command_effect g x c lun h ReadCacheSequential (inl a) = ap (λ (y : Latch). command_effect g c.facts y ReadCacheSequential lun) (h a.sole)
same_command_effect g x c lun h ReadCacheSequential (inr a) = rw a.wants refl
same_command_effect g x c lun h ReadCacheEnd a = ap (λ (y : Latch). command_effect g c.facts y ReadCacheEnd lun) (h a.sole)
same_command_effect g x c lun h _ a = refl

same_effect : (g : Parts) (x : Latch) (c : Scene) (lun : ℕ) → (c.sole ≡ true → x ≡ shown_alone c) → (d : TargetCycle) → Allowed g lun c d → cycle_effect g c.facts x d lun ≡ cycle_effect g c.facts (shown_alone c) d lun
same_effect g x c lun h (CommandCycle d) a = same_command_effect g x c lun h d a
same_effect g x c lun h (AddressCycle byte) a = refl
same_effect g x c lun h (InputCycle byte) a = refl
same_effect g x c lun h OutputCycle a = ap (λ (y : Latch). cycle_effect g c.facts y OutputCycle lun) (h a.sole)

view_behind : (s : Channel) (l : Lun) (past : List Item) (c : Scene) → is_there s l ≡ true → IsScene s l past c → (kind : Kind) (byte : ℕ) → Allowed s.geometry l.lun c (target_cycle kind byte) → broken s.geometry s.targets past (cycle l.ce kind byte) ≡ None → lun_view s.geometry (cycle l.ce kind byte ∷ past) l ≡ view_after (cycle_effect s.geometry c.facts (shown_alone c) (target_cycle kind byte) l.lun) c.view
view_behind s l past c there k kind byte a permitted =
    let g = s.geometry in
    let d = target_cycle kind byte in
    let alone : c.sole ≡ true → latch_alone g past l ≡ shown_alone c = λ h. rw (k.sole h, h) (ap (λ (v : LunView). v.latch) k.view) in
    let effect : effect_on g past (cycle l.ce kind byte) l ≡ cycle_effect g c.facts (shown_alone c) d l.lun =
    own_effect g past l kind byte ∙ (ap (λ (t : TailFacts). cycle_effect g t (latch_alone g past l) d l.lun) k.facts ∙ same_effect g (latch_alone g past l) c l.lun alone d a) in
    facts.lun g s.targets past (cycle l.ce kind byte) l permitted (there_lun s l there) ∙ (ap (λ (e : Effect). view_after e (lun_view g past l)) effect ∙ ap (view_after (cycle_effect g c.facts (shown_alone c) d l.lun)) k.view)

-- 3. whether it drives alone behind it

pub drivers_same : (f h : ℕ → Latch) → ((m : ℕ) → is_off (f m) ≡ is_off (h m)) → (count n : ℕ) → drivers_from f count n ≡ drivers_from h count n
drivers_same f h e zero n = refl
drivers_same f h e (suc count) n =
    ap (λ (b : Bool). cond b (drivers_from f count (n + 1)) (n ∷ drivers_from f count (n + 1))) (e n) ∙ ap (λ (ds : List ℕ). cond (is_off (h n)) ds (n ∷ ds)) (drivers_same f h e count (n + 1))

-- the same of these alone
drivers_same_among : (f h : ℕ → Latch) (count n : ℕ) → ((m : ℕ) → n ≤ m → m < n + count → is_off (f m) ≡ is_off (h m)) → drivers_from f count n ≡ drivers_from h count n
drivers_same_among f h zero n e = refl
drivers_same_among f h (suc count) n e =
    ap (λ (b : Bool). cond b (drivers_from f count (n + 1)) (n ∷ drivers_from f count (n + 1))) (e n (omega arith) (omega arith))
    ∙ ap (λ (ds : List ℕ). cond (is_off (h n)) ds (n ∷ ds)) (drivers_same_among f h count (n + 1) (λ m low high. e m (omega (arith, low)) (omega (arith, high))))

-- where none drives, each is off
none_drives : (latches : ℕ → Latch) (count n m : ℕ) → drivers_from latches count n ≡ [] → n ≤ m → m < n + count → is_off (latches m) ≡ true
none_drives latches zero n m none low high = absurd (omega (arith, low, high))
none_drives latches (suc count) n m none low high =
    at (is_off (latches n)) refl none (m == n) refl (λ rest after. none_drives latches count (n + 1) m rest after (omega (arith, high)))
  where
    at : (b : Bool) → is_off (latches n) ≡ b → cond b (drivers_from latches count (n + 1)) (n ∷ drivers_from latches count (n + 1)) ≡ [] → (here : Bool) → (m == n) ≡ here
        → (drivers_from latches count (n + 1) ≡ [] → n + 1 ≤ m → is_off (latches m) ≡ true) → is_off (latches m) ≡ true
    at true off rest true e more = ap (λ (k : ℕ). is_off (latches k)) (eqb-true m n e) ∙ off
    at true off rest false e more = more rest (grind (arith, nat_tests, low, e))
    at false off rest here e more = cc

-- where one drives alone, each other is off
others_off : (latches : ℕ → Latch) (count n k m : ℕ) → is_only (drivers_from latches count n) k ≡ true → n ≤ m → m < n + count → m ≢ k → is_off (latches m) ≡ true
others_off latches zero n k m only low high other = absurd (omega (arith, low, high))
others_off latches (suc count) n k m only low high other =
    at (is_off (latches n)) refl only (m == n) refl
    (λ rest after. others_off latches count (n + 1) k m rest after (omega (arith, high)) other)
    (λ none after. none_drives latches count (n + 1) m none after (omega (arith, high)))
  where
    first : (ds : List ℕ) → is_only (n ∷ ds) k ≡ true → (ds ≡ []) × ((n == k) ≡ true)
    first [] h = (refl, h)
    first (d ∷ ds) h = cc

    at : (b : Bool) → is_off (latches n) ≡ b → is_only (cond b (drivers_from latches count (n + 1)) (n ∷ drivers_from latches count (n + 1))) k ≡ true → (here : Bool) → (m == n) ≡ here
        → (is_only (drivers_from latches count (n + 1)) k ≡ true → n + 1 ≤ m → is_off (latches m) ≡ true)
        → (drivers_from latches count (n + 1) ≡ [] → n + 1 ≤ m → is_off (latches m) ≡ true) → is_off (latches m) ≡ true
    at true off rest true e more none = ap (λ (j : ℕ). is_off (latches j)) (eqb-true m n e) ∙ off
    at true off rest false e more none = more rest (grind (arith, nat_tests, low, e))
    at false off rest true e more none = absurd (other (eqb-true m n e ∙ eqb-true n k (first (drivers_from latches count (n + 1)) rest).1))
    at false off rest false e more none = none (first (drivers_from latches count (n + 1)) rest).0 (grind (arith, nat_tests, low, e))

-- where each is off, none drives
all_off : (latches : ℕ → Latch) (count n : ℕ) → ((m : ℕ) → n ≤ m → is_off (latches m) ≡ true) → drivers_from latches count n ≡ []
all_off latches zero n off = refl
all_off latches (suc count) n off = rw (off n (omega arith)) (all_off latches count (n + 1) (λ m low. off m (omega (arith, low))))

-- where each other is off, the one that is on drives alone
drives_alone : (latches : ℕ → Latch) (count n k : ℕ) → n ≤ k → k < n + count → is_off (latches k) ≡ false → ((m : ℕ) → m ≢ k → is_off (latches m) ≡ true) → is_only (drivers_from latches count n) k ≡ true
drives_alone latches zero n k low high on off = absurd (omega (arith, low, high))
drives_alone latches (suc count) n k low high on off = at (n == k) refl (λ more. drives_alone latches count (n + 1) k more (omega (arith, high)) on off)
  where
    at : (b : Bool) → (n == k) ≡ b → (n + 1 ≤ k → is_only (drivers_from latches count (n + 1)) k ≡ true) → is_only (cond (is_off (latches n)) (drivers_from latches count (n + 1)) (n ∷ drivers_from latches count (n + 1))) k ≡ true
    at true e rest =
        let here : is_off (latches n) ≡ false = ap (λ (m : ℕ). is_off (latches m)) (eqb-true n k e) ∙ on in
        let none : drivers_from latches count (n + 1) ≡ [] = all_off latches count (n + 1) (λ m more. off m (λ same. let is = eqb-true n k e in absurd (omega (arith, more, same, is)))) in
        rw (here, none) e
    at false e rest =
        let there : is_off (latches n) ≡ true = off n (λ same. let is : (n == k) ≡ true = eq-eqb n k same in let clash : true ≡ false = sym is ∙ e in cc) in
        rw there (rest (grind (arith, nat_tests, low, e)))

-- a cycle leaves each latch off or on, where that of this LUN alone is on
abbrev LeavesOff : Parts → ℕ → TailFacts → TargetCycle → Type 0
LeavesOff g lun t d = (m : ℕ) (selected works : Bool) (x : Latch) → (m ≡ lun → is_off x ≡ false) → (m ≢ lun → is_off x ≡ true) → is_off (latch_after (cycle_effect g t x d m) selected works x) ≡ is_off x

still_sole : (s : Channel) (l : Lun) (past : List Item) (c : Scene) → IsScene s l past c → (kind : Kind) (byte : ℕ) → LeavesOff s.geometry l.lun c.facts (target_cycle kind byte) → c.sole ≡ true → is_only (drivers s.geometry (cycle l.ce kind byte ∷ past) l.ce) l.lun ≡ true
still_sole s l past c k kind byte leaves sole =
    ap (λ (ds : List ℕ). is_only ds l.lun)
    (drivers_same_among (λ m. latch g (cycle l.ce kind byte ∷ past) (record { ce = l.ce; lun = m })) (λ m. latch g past (record { ce = l.ce; lun = m })) g.luns 0 (λ m low high. each m high)) ∙ k.sole sole
  where
    g : Parts
    g = s.geometry

    on : (m : ℕ) → m ≡ l.lun → is_off (latch g past (record { ce = l.ce; lun = m })) ≡ false
    on m e = ap (λ (n : ℕ). is_off (latch g past (record { ce = l.ce; lun = n }))) e ∙ driver_on (λ n. latch g past (record { ce = l.ce; lun = n })) g.luns 0 l.lun (k.sole sole)

    off : (m : ℕ) → m < 0 + g.luns → m ≢ l.lun → is_off (latch g past (record { ce = l.ce; lun = m })) ≡ true
    off m high other = others_off (λ n. latch g past (record { ce = l.ce; lun = n })) g.luns 0 l.lun m (k.sole sole) (omega arith) high other

    each : (m : ℕ) → m < 0 + g.luns → is_off (latch g (cycle l.ce kind byte ∷ past) (record { ce = l.ce; lun = m })) ≡ is_off (latch g past (record { ce = l.ce; lun = m }))
    each m high =
        let x = latch g past (record { ce = l.ce; lun = m }) in
        let v = lun_view g past (record { ce = l.ce; lun = m }) in
        rw (eqb_self l.ce)
        (ap (λ (t : TailFacts). is_off (latch_after (cycle_effect g t x (target_cycle kind byte) m) v.selected (works v) x)) k.facts ∙ leaves m v.selected (works v) x (on m) (off m high))

-- the only LUN of its target drives alone where it is on
pub sole_of_one : (s : Channel) (l : Lun) (past : List Item) → is_there s l ≡ true → ltb 1 s.geometry.luns ≡ false → is_off (latch s.geometry past l) ≡ false → is_only (drivers s.geometry past l.ce) l.lun ≡ true
sole_of_one s l past there one on =
    let is = one_lun s l there one in
    let first : is_off (latch s.geometry past (record { ce = l.ce; lun = 0 })) ≡ false = ap (λ (n : ℕ). is_off (latch s.geometry past (record { ce = l.ce; lun = n }))) (sym is.1) ∙ on in
    subst (λ (n : ℕ). is_only (drivers_from (λ m. latch s.geometry past (record { ce = l.ce; lun = m })) n 0) l.lun ≡ true) (sym is.0) (rw first (eq-eqb 0 l.lun (sym is.1)))

leaves_either : (b : Bool) (e : Effect) (p q : Bool) (x : Latch) → (b ≡ true → is_off (latch_after e p q x) ≡ is_off x) → is_off (latch_after (cond b e Unaffected) p q x) ≡ is_off x
leaves_either true e p q x h = h refl
leaves_either false e p q x h = refl

leaves_other : (e : Effect) (p q : Bool) (x : Latch) → (is_off x ≡ false → is_off (latch_after e p q x) ≡ false) → is_off (latch_after (cond (is_off x) Unaffected e) p q x) ≡ is_off x
leaves_other e p q Off h = refl
leaves_other e p q Status h = h refl
leaves_other e p q Data h = h refl

-- work of a LUN on a row leaves what the others show, where it doesn't read
closer_leaves : (named others : Bool) (e : Effect) (p q : Bool) (x : Latch) → is_off (latch_after e p q x) ≡ is_off x → is_off (latch_after (cond named e (cond others (AnotherAddressed false) Unaffected)) p q x) ≡ is_off x
closer_leaves true others e p q x h = h
closer_leaves false true e p q x h = refl
closer_leaves false false e p q x h = refl

-- a read turns them off, as they are already
read_leaves : (named others : Bool) (e : Effect) (p q : Bool) (x : Latch) → (named ≡ true → is_off (latch_after e p q x) ≡ is_off x) → (named ≡ false → is_off x ≡ true) → is_off (latch_after (cond named e (cond others (AnotherAddressed true) Unaffected)) p q x) ≡ is_off x
read_leaves true others e p q x h off = h refl
read_leaves false false e p q x h off = refl
read_leaves false true e p q x h off = at (true && not q)
  where
    at : (b : Bool) → is_off (cond b Off x) ≡ is_off x
    at true = sym (off refl)
    at false = refl

not_both : (a b : Bool) → a ≡ true → b ≡ true → (a && b) ≡ false → ⊥
not_both true true h k e = cc
not_both true false h k e = cc
not_both false b h k e = cc

-- the commands that leave a driver alone
abbrev leaves_drivers : Command → Bool
leaves_drivers Reset = false
leaves_drivers SynchronousReset = false
leaves_drivers ReadStatus = false
leaves_drivers _ = true

command_leaves_off : (g : Parts) (lun : ℕ) (c : Scene) (d : Command) → leaves_drivers d ≡ true → CommandAllowed g lun c d → LeavesOff g lun c.facts (CommandCycle d)
command_leaves_off g lun c Read h a m p q Off on off = refl
command_leaves_off g lun c Read h a m p q Status on off = refl
command_leaves_off g lun c Read h a m p q Data on off = refl
command_leaves_off g lun c ReadConfirm h a m p q x on off =
    read_leaves (wants_command c.facts ReadConfirm && names_lun g (row c.facts) m) (wants_command c.facts ReadConfirm && is_shared g) _ p q x
    (λ e. sym (on (sym (eqb-true _ m (and_parts _ _ e).1) ∙ eqb-true _ lun a.0.1)))
    (λ e. off (λ same. not_both (wants_command c.facts ReadConfirm) (names_lun g (row c.facts) m) a.0.0 (ap (names_lun g (row c.facts)) same ∙ a.0.1) e))
command_leaves_off g lun c ReadPlane h a m p q x on off =
    read_leaves (wants_command c.facts ReadPlane && names_lun g (row c.facts) m) (wants_command c.facts ReadPlane && is_shared g) _ p q x
    (λ e. sym (on (sym (eqb-true _ m (and_parts _ _ e).1) ∙ eqb-true _ lun a.0.1)))
    (λ e. off (λ same. not_both (wants_command c.facts ReadPlane) (names_lun g (row c.facts) m) a.0.0 (ap (names_lun g (row c.facts)) same ∙ a.0.1) e))
command_leaves_off g lun c CopybackRead h a m p q x on off =
    read_leaves (wants_command c.facts CopybackRead && names_lun g (row c.facts) m) (wants_command c.facts CopybackRead && is_shared g) _ p q x
    (λ e. sym (on (sym (eqb-true _ m (and_parts _ _ e).1) ∙ eqb-true _ lun a.0.1)))
    (λ e. off (λ same. not_both (wants_command c.facts CopybackRead) (names_lun g (row c.facts) m) a.0.0 (ap (names_lun g (row c.facts)) same ∙ a.0.1) e))
command_leaves_off g lun c ChangeReadColumnConfirm h (inr a) m p q x on off =
    ap (λ (b : Bool). is_off (latch_after (cond b (plane_effect g c.facts m) (column_effect c.facts x)) p q x)) a.plane ∙ at (names_lun g (row c.facts) m) refl
  where
    at : (b : Bool) → names_lun g (row c.facts) m ≡ b → is_off (latch_after (cond b (PlaneSelected (plane_of_row g (row c.facts)) (planes g) c.facts.column) Deselected) p q x) ≡ is_off x
    at true e = sym (on (sym (eqb-true _ m e) ∙ eqb-true _ lun a.names))
    at false e = sym (off (λ same. let is : names_lun g (row c.facts) m ≡ true = ap (names_lun g (row c.facts)) same ∙ a.names in let clash : true ≡ false = sym is ∙ e in cc))
command_leaves_off g lun c ChangeReadColumnConfirm h (inl a) m p q x on off =
    ap (λ (b : Bool). is_off (latch_after (cond b (plane_effect g c.facts m) (column_effect c.facts x)) p q x)) a.no_plane
    ∙ leaves_either (wants_command c.facts ChangeReadColumnConfirm && not (is_off x)) _ p q x (λ e. refl)
command_leaves_off g lun c ReadCacheSequential h (inl a) m p q x on off =
    ap (λ (w : Bool). is_off (latch_after (cond w (row_effect g c.facts ReadCacheSequential m) (cache_effect x)) p q x)) (closed_unwanted c.facts a.closed)
    ∙ leaves_other (CacheReadContinued None) p q x (λ e. refl)
command_leaves_off g lun c ReadCacheSequential h (inr a) m p q x on off =
    ap (λ (w : Bool). is_off (latch_after (cond w (row_effect g c.facts ReadCacheSequential m) (cache_effect x)) p q x)) a.wants
    ∙ read_leaves (wants_command c.facts ReadCacheSequential && names_lun g (row c.facts) m) (wants_command c.facts ReadCacheSequential && is_shared g) _ p q x
    (λ e. sym (on (sym (eqb-true _ m (and_parts _ _ e).1) ∙ eqb-true _ lun a.names)))
    (λ e. off (λ same. not_both (wants_command c.facts ReadCacheSequential) (names_lun g (row c.facts) m) a.wants (ap (names_lun g (row c.facts)) same ∙ a.names) e))
command_leaves_off g lun c ReadCacheEnd h a m p q x on off = leaves_other CacheReadEnded p q x (λ e. refl)
command_leaves_off g lun c ReadStatusEnhanced h a m p q x on off = refl
command_leaves_off g lun c Reset h a m p q x on off = cc
command_leaves_off g lun c SynchronousReset h a m p q x on off = cc
command_leaves_off g lun c ReadStatus h a m p q x on off = cc
command_leaves_off g lun c d h a m p q x on off = closer_leaves (wants_command c.facts d && names_lun g (row c.facts) m) (closes_row d && (wants_command c.facts d && is_shared g)) _ p q x refl

-- the openers whose addresses leave each driver
abbrev quiet : Command → Bool
quiet ReadStatusEnhanced = false
quiet ReadId = false
quiet ReadParameterPage = false
quiet ReadUniqueId = false
quiet GetFeatures = false
quiet ResetLun = false
quiet _ = true

address_leaves_off : (g : Parts) (t : TailFacts) (byte : ℕ) (lun : ℕ) (o : Opening) → t.opening ≡ Some o → quiet o.opener ≡ true → LeavesOff g lun t (AddressCycle byte)
address_leaves_off g t byte lun o e quietly m p q x on off = ap (λ (y : Option Opening). is_off (latch_after (opening_address_effect g t byte y m) p q x)) e ∙ by o.opener quietly
  where
    by : (d : Command) → quiet d ≡ true → is_off (latch_after (address_effect g t byte d o.addresses m) p q x) ≡ is_off x
    by ReadStatusEnhanced h = cc
    by ReadId h = cc
    by ReadParameterPage h = cc
    by ReadUniqueId h = cc
    by GetFeatures h = cc
    by ResetLun h = cc
    by PageProgram h = addressed (o.addresses == 4) (names_lun g (row_with t byte) m)
      where
        addressed : (four here : Bool) → is_off (latch_after (cond four (program_row_effect here) Unaffected) p q x) ≡ is_off x
        addressed true true = refl
        addressed true false = refl
        addressed false here = refl
    by _ h = refl

-- an address of FAh that isn't its last
reset_leaves_off : (g : Parts) (t : TailFacts) (byte : ℕ) (lun : ℕ) (o : Opening) → t.opening ≡ Some o → o.opener ≡ ResetLun → (o.addresses == 2) ≡ false → LeavesOff g lun t (AddressCycle byte)
reset_leaves_off g t byte lun o e is early m p q x on off =
    ap (λ (y : Option Opening). is_off (latch_after (opening_address_effect g t byte y m) p q x)) e
    ∙ (ap (λ (d : Command). is_off (latch_after (address_effect g t byte d o.addresses m) p q x)) is
    ∙ ap (λ (b : Bool). is_off (latch_after (cond b (lun_reset_effect g (names_lun g (row_with t byte) m)) Unaffected) p q x)) early)

read_lights : (g : Parts) (t : TailFacts) (x : Latch) (p q : Bool) (y : Latch) (lun : ℕ) → wants_command t ReadConfirm ≡ true → names_lun g (row t) lun ≡ true → latch_after (command_effect g t x ReadConfirm lun) p q y ≡ Data
read_lights g t x p q y lun wants names = rw (wants, names) refl

plane_read_lights : (g : Parts) (t : TailFacts) (x : Latch) (p q : Bool) (y : Latch) (lun : ℕ) → wants_command t ReadPlane ≡ true → names_lun g (row t) lun ≡ true → latch_after (command_effect g t x ReadPlane lun) p q y ≡ Data
plane_read_lights g t x p q y lun wants names = rw (wants, names) refl

copy_read_lights : (g : Parts) (t : TailFacts) (x : Latch) (p q : Bool) (y : Latch) (lun : ℕ) → wants_command t CopybackRead ≡ true → names_lun g (row t) lun ≡ true → latch_after (command_effect g t x CopybackRead lun) p q y ≡ Data
copy_read_lights g t x p q y lun wants names = rw (wants, names) refl

-- what shows behind an E0 that 06 began: the LUN of the row shows data, and no other shows anything
plane_latch : (g : Parts) (lun : ℕ) (c : Scene) → PlaneAllowed g lun c → (m : ℕ) (p q : Bool) (x : Latch) → is_off (latch_after (command_effect g c.facts x ChangeReadColumnConfirm m) p q x) ≡ not (names_lun g (row c.facts) m)
plane_latch g lun c a m p q x =
    ap (λ (b : Bool). is_off (latch_after (cond b (plane_effect g c.facts m) (column_effect c.facts x)) p q x)) a.plane ∙ at (names_lun g (row c.facts) m)
  where
    at : (b : Bool) → is_off (latch_after (cond b (PlaneSelected (plane_of_row g (row c.facts)) (planes g) c.facts.column) Deselected) p q x) ≡ not b
    at true = refl
    at false = refl

plane_alone : (s : Channel) (l : Lun) (past : List Item) (c : Scene) → is_there s l ≡ true → IsScene s l past c → (kind : Kind) (byte : ℕ) → target_cycle kind byte ≡ CommandCycle ChangeReadColumnConfirm → PlaneAllowed s.geometry l.lun c → is_only (drivers s.geometry (cycle l.ce kind byte ∷ past) l.ce) l.lun ≡ true
plane_alone s l past c there k kind byte is a =
    drives_alone (λ m. latch g (cycle l.ce kind byte ∷ past) (record { ce = l.ce; lun = m })) g.luns 0 l.lun (omega arith) (let low = there_lun s l there in omega (arith, low))
    (each l.lun ∙ ap not a.names)
    (λ m other. each m ∙ ap not (unnamed m other (names_lun g (row c.facts) m) refl))
  where
    g : Parts
    g = s.geometry

    each : (m : ℕ) → is_off (latch g (cycle l.ce kind byte ∷ past) (record { ce = l.ce; lun = m })) ≡ not (names_lun g (row c.facts) m)
    each m =
        let x = latch g past (record { ce = l.ce; lun = m }) in
        let v = lun_view g past (record { ce = l.ce; lun = m }) in
        rw (eqb_self l.ce)
        (ap (λ (t : TailFacts). is_off (latch_after (cycle_effect g t x (target_cycle kind byte) m) v.selected (works v) x)) k.facts
        ∙ (ap (λ (d : TargetCycle). is_off (latch_after (cycle_effect g c.facts x d m) v.selected (works v) x)) is ∙ plane_latch g l.lun c a m v.selected (works v) x))

    unnamed : (m : ℕ) → m ≢ l.lun → (b : Bool) → names_lun g (row c.facts) m ≡ b → names_lun g (row c.facts) m ≡ false
    unnamed m other true e = absurd (other (sym (eqb-true _ m e) ∙ eqb-true _ l.lun a.names))
    unnamed m other false e = e

cache_read_lights : (g : Parts) (t : TailFacts) (x : Latch) (p q : Bool) (y : Latch) (lun : ℕ) → wants_command t ReadCacheSequential ≡ true → names_lun g (row t) lun ≡ true → latch_after (command_effect g t x ReadCacheSequential lun) p q y ≡ Data
cache_read_lights g t x p q y lun wants names = rw (wants, names) refl

-- the openers whose address makes the LUN show data
abbrev lights_up : Command → Bool
lights_up ReadId = true
lights_up ReadParameterPage = true
lights_up ReadUniqueId = true
lights_up GetFeatures = true
lights_up _ = false

id_lights : (byte : ℕ) (p q : Bool) (y : Latch) → latch_after (id_effect byte) p q y ≡ Data
id_lights byte p q y = at (byte == 0x20)
  where
    at : (b : Bool) → latch_after (cond b IdRead (IdentityRead (byte == 0x40))) p q y ≡ Data
    at true = refl
    at false = refl

identity_lights : (g : Parts) (t : TailFacts) (byte n : ℕ) (d : Command) (p q : Bool) (y : Latch) (lun : ℕ) → ltb 1 g.luns ≡ false → wants_address t byte ≡ true → lights_up d ≡ true → latch_after (address_effect g t byte d n lun) p q y ≡ Data
identity_lights g t byte n ReadId p q y lun one wants h = rw wants (ap (λ (e : Effect). latch_after e p q y) (of_one g lun (id_effect byte) one) ∙ id_lights byte p q y)
identity_lights g t byte n ReadParameterPage p q y lun one wants h = rw wants (ap (λ (e : Effect). latch_after e p q y) (of_one g lun ParameterPageReadStarted one))
identity_lights g t byte n ReadUniqueId p q y lun one wants h = rw wants (ap (λ (e : Effect). latch_after e p q y) (of_one g lun UniqueIdReadStarted one))
identity_lights g t byte n GetFeatures p q y lun one wants h = rw wants (ap (λ (e : Effect). latch_after e p q y) (of_one g lun (FeaturesReadStarted byte) one))
identity_lights g t byte n _ p q y lun one wants h = cc

off_by : (x y : Latch) → x ≡ y → is_off y ≡ false → is_off x ≡ false
off_by x y e h = ap is_off e ∙ h

sole_next : (s : Channel) (l : Lun) (past : List Item) (c : Scene) → is_there s l ≡ true → IsScene s l past c → (kind : Kind) (byte : ℕ) (d : TargetCycle) → target_cycle kind byte ≡ d → Allowed s.geometry l.lun c d → lun_view s.geometry (cycle l.ce kind byte ∷ past) l ≡ view_after (cycle_effect s.geometry c.facts (shown_alone c) d l.lun) c.view → sole_behind s.geometry c d ≡ true → is_only (drivers s.geometry (cycle l.ce kind byte ∷ past) l.ce) l.lun ≡ true
sole_next s l past c there k kind byte d is a view h = by d is a view h
  where
    g : Parts
    g = s.geometry

    still : (d : TargetCycle) → target_cycle kind byte ≡ d → LeavesOff g l.lun c.facts d → c.sole ≡ true → is_only (drivers g (cycle l.ce kind byte ∷ past) l.ce) l.lun ≡ true
    still d is leaves sole = still_sole s l past c k kind byte (subst (λ (x : TargetCycle). LeavesOff g l.lun c.facts x) (sym is) leaves) sole

    latch_is : (d : TargetCycle) → lun_view g (cycle l.ce kind byte ∷ past) l ≡ view_after (cycle_effect g c.facts (shown_alone c) d l.lun) c.view → latch g (cycle l.ce kind byte ∷ past) l ≡ latch_after (cycle_effect g c.facts (shown_alone c) d l.lun) c.view.selected (works c.view) c.view.latch
    latch_is d view = ap (λ (v : LunView). v.latch) view

    by_command : (d : Command) → target_cycle kind byte ≡ CommandCycle d → CommandAllowed g l.lun c d → lun_view g (cycle l.ce kind byte ∷ past) l ≡ view_after (cycle_effect g c.facts (shown_alone c) (CommandCycle d) l.lun) c.view → command_sole g c.facts c.sole d ≡ true → is_only (drivers g (cycle l.ce kind byte ∷ past) l.ce) l.lun ≡ true
    by_command Reset is a view h = cc
    by_command ReadStatus is a view h = cc
    by_command SynchronousReset is a view h = cc
    by_command ReadConfirm is a view h = elim (or_cases c.sole (not (ltb 1 g.luns)) h) [
      | inl e ↦ still (CommandCycle ReadConfirm) is (command_leaves_off g l.lun c ReadConfirm refl a) e
      | inr e ↦ sole_of_one s l (cycle l.ce kind byte ∷ past) there (not-true (ltb 1 g.luns) e) (off_by _ Data (latch_is (CommandCycle ReadConfirm) view ∙ read_lights g c.facts (shown_alone c) c.view.selected (works c.view) c.view.latch l.lun a.0.0 a.0.1) refl)
    ]
    by_command ReadPlane is a view h = elim (or_cases c.sole (not (ltb 1 g.luns)) h) [
      | inl e ↦ still (CommandCycle ReadPlane) is (command_leaves_off g l.lun c ReadPlane refl a) e
      | inr e ↦ sole_of_one s l (cycle l.ce kind byte ∷ past) there (not-true (ltb 1 g.luns) e) (off_by _ Data (latch_is (CommandCycle ReadPlane) view ∙ plane_read_lights g c.facts (shown_alone c) c.view.selected (works c.view) c.view.latch l.lun a.0.0 a.0.1) refl)
    ]
    by_command CopybackRead is a view h = elim (or_cases c.sole (not (ltb 1 g.luns)) h) [
      | inl e ↦ still (CommandCycle CopybackRead) is (command_leaves_off g l.lun c CopybackRead refl a) e
      | inr e ↦ sole_of_one s l (cycle l.ce kind byte ∷ past) there (not-true (ltb 1 g.luns) e) (off_by _ Data (latch_is (CommandCycle CopybackRead) view ∙ copy_read_lights g c.facts (shown_alone c) c.view.selected (works c.view) c.view.latch l.lun a.0.0 a.0.1) refl)
    ]
    by_command ChangeReadColumnConfirm is (inl a) view h = still (CommandCycle ChangeReadColumnConfirm) is (command_leaves_off g l.lun c ChangeReadColumnConfirm refl (inl a)) a.sole
    by_command ChangeReadColumnConfirm is (inr a) view h = plane_alone s l past c there k kind byte is a
    by_command ReadCacheSequential is (inl a) view h = still (CommandCycle ReadCacheSequential) is (command_leaves_off g l.lun c ReadCacheSequential refl (inl a)) a.sole
    by_command ReadCacheSequential is (inr a) view h = elim (or_cases c.sole (not (ltb 1 g.luns)) h) [
      | inl e ↦ still (CommandCycle ReadCacheSequential) is (command_leaves_off g l.lun c ReadCacheSequential refl (inr a)) e
      | inr e ↦ sole_of_one s l (cycle l.ce kind byte ∷ past) there (not-true (ltb 1 g.luns) e) (off_by _ Data (latch_is (CommandCycle ReadCacheSequential) view ∙ cache_read_lights g c.facts (shown_alone c) c.view.selected (works c.view) c.view.latch l.lun a.wants a.names) refl)
    ]
    by_command d is a view h = still (CommandCycle d) is (command_leaves_off g l.lun c d refl a) h

    by_address : (b : ℕ) (o : Option Opening) → c.facts.opening ≡ o → target_cycle kind byte ≡ AddressCycle b → AddressAllowed g l.lun c b → lun_view g (cycle l.ce kind byte ∷ past) l ≡ view_after (cycle_effect g c.facts (shown_alone c) (AddressCycle b) l.lun) c.view → address_sole g c.sole o ≡ true → is_only (drivers g (cycle l.ce kind byte ∷ past) l.ce) l.lun ≡ true
    by_address b None e is a view h = still (AddressCycle b) is (λ m p q x on off. rw e refl) h
    by_address b (Some o) e is a view h = by_opener o.opener refl h
      where
        lights : (d : Command) → o.opener ≡ d → lights_up d ≡ true → not (ltb 1 g.luns) ≡ true → is_only (drivers g (cycle l.ce kind byte ∷ past) l.ce) l.lun ≡ true
        lights d f q one =
            let effect : cycle_effect g c.facts (shown_alone c) (AddressCycle b) l.lun ≡ address_effect g c.facts b o.opener o.addresses l.lun = ap (λ (p : Option Opening). opening_address_effect g c.facts b p l.lun) e in
            sole_of_one s l (cycle l.ce kind byte ∷ past) there (not-true (ltb 1 g.luns) one)
            (off_by _ Data (latch_is (AddressCycle b) view ∙ (ap (λ (x : Effect). latch_after x c.view.selected (works c.view) c.view.latch) effect ∙ identity_lights g c.facts b o.addresses o.opener c.view.selected (works c.view) c.view.latch l.lun (not-true (ltb 1 g.luns) one) a.wanted (ap lights_up f ∙ q))) refl)

        by_opener : (d : Command) → o.opener ≡ d → opener_sole g c.sole d o.addresses ≡ true → is_only (drivers g (cycle l.ce kind byte ∷ past) l.ce) l.lun ≡ true
        by_opener ReadStatusEnhanced f h = cc
        by_opener ResetLun f h =
            let both = and_parts (not (o.addresses == 2)) c.sole h in
            still (AddressCycle b) is (reset_leaves_off g c.facts b l.lun o e f (not-true (o.addresses == 2) both.0)) both.1
        by_opener ReadId f h = lights ReadId f refl h
        by_opener ReadParameterPage f h = lights ReadParameterPage f refl h
        by_opener ReadUniqueId f h = lights ReadUniqueId f refl h
        by_opener GetFeatures f h = lights GetFeatures f refl h
        by_opener d f h = still (AddressCycle b) is (address_leaves_off g c.facts b l.lun o e (ap quiet f)) h

    by : (d : TargetCycle) → target_cycle kind byte ≡ d → Allowed g l.lun c d → lun_view g (cycle l.ce kind byte ∷ past) l ≡ view_after (cycle_effect g c.facts (shown_alone c) d l.lun) c.view → sole_behind g c d ≡ true → is_only (drivers g (cycle l.ce kind byte ∷ past) l.ce) l.lun ≡ true
    by (CommandCycle e) is a view h = by_command e is a view h
    by (AddressCycle b) is a view h = by_address b c.facts.opening refl is a view h
    by (InputCycle b) is a view h =
        still (InputCycle b) is
        (λ m p q x on off. leaves_either (ends_features c.facts) (of_target g m (FeaturesSet (c.facts.column % 256))) p q x
        (λ e. ap (λ (y : Effect). is_off (latch_after y p q x)) (of_one g m (FeaturesSet (c.facts.column % 256)) (a.alone (and_parts (takes_features c.facts.phase) _ e).0)))) h
    by OutputCycle is a view h = still OutputCycle is (λ m p q x on off. leaves_either (is_data x) DataOutput p q x (λ e. refl)) h

-- 4. both

pub scene_next : (s : Channel) (l : Lun) (past : List Item) (c : Scene) → is_there s l ≡ true → IsScene s l past c → (kind : Kind) (byte : ℕ) → Allowed s.geometry l.lun c (target_cycle kind byte) → IsScene s l (cycle l.ce kind byte ∷ past) (scene_behind s.geometry l.lun (target_cycle kind byte) c)
scene_next s l past c there k kind byte a =
    let own = own_cycle s l past c there k kind byte a in
    let view = view_behind s l past c there k kind byte a own.permitted in
    record {
      facts = facts.tail past (record { ce = l.ce; kind = kind; byte = byte }) l.ce refl ∙ ap (facts_after (target_cycle kind byte)) k.facts;
      view = view;
      sole = sole_next s l past c there k kind byte (target_cycle kind byte) refl a view;
      free = service.own s.geometry past (cycle l.ce kind byte) l l.ce own.own k.free;
    }
