-- The readies that are still to come.
use Rattle.std.proofs.Common.{◌≡◌, ℕ, zero, suc, ◌+◌, ◌≤◌, ◌<◌, ◌==◌, Bool, true, false, ◌&&◌, ◌||◌, cond, not, leb, ltb, List, [], ◌∷◌, Option, Some, None, refl, sym, ap, ◌∙◌, arith, subst, length, eqb-true, ◌%◌}
use Rattle.std.proofs.lemmas.Bool.Decides.{nat_tests}
use Rattle.std.proofs.lemmas.Option.{slice_get_within}
use Rattle.std.specs.List.{slice_get}
use Rattle.std.proofs.lemmas.Bool.{not-false, or_left, or_right, and_parts as both, or_parts as neither}
use Rattle.nand_geometry.specs.declared.parts.Parts.{Parts}
use Rattle.nand_geometry.specs.Limits.{planes}
use Rattle.onfi_cycle.specs.declared.command.Command.{Command}
use Rattle.onfi_cycle.specs.declared.command.Command.TheVariants.{Read, ChangeReadColumnConfirm, ReadStatus, ReadStatusEnhanced, ReadConfirm, BlockEraseConfirm, BlockErasePlane, ProgramConfirm, ProgramPlane, ReadId, ReadParameterPage, Reset, ReadCacheSequential, ReadCacheEnd, ReadUniqueId, GetFeatures, SetFeatures, ResetLun, SynchronousReset, ReadPlane, CopybackRead, PageProgram, ProgramCache}
use Rattle.onfi_cycle.specs.declared.item.Cycle.{Cycle}
use Rattle.onfi_cycle.specs.declared.effect.Effect.{Effect}
use Rattle.onfi_cycle.specs.declared.effect.Effect.TheVariants.{Unaffected, StatusSelected, StatusOfSelected, AnotherAddressed, SelectedForStatus, Deselected, IdRead, ParameterPageReadStarted, ReadColumnChanged, DataOutput, BecameReady, ArrayBecameReady, IdentityRead, UniqueIdReadStarted, FeaturesReadStarted, FeaturesSet, ResetStarted, PlaneSelected, ProgramAddressed}
use Rattle.onfi_cycle.specs.declared.forbidden.Forbidden.TheVariants.{NotThere}
use Rattle.onfi_cycle.specs.declared.item.Failures.{Failures}
use Rattle.onfi_cycle.specs.declared.item.Item.{Item}
use Rattle.onfi_cycle.specs.declared.item.Item.TheVariants.{Cyc, Rdy, Ard}
use Rattle.onfi_cycle.specs.declared.latch.Latch.{Latch}
use Rattle.onfi_cycle.specs.declared.latch.Latch.TheVariants.{Off}
use Rattle.onfi_cycle.specs.declared.data_phase.DataPhase.{DataPhase}
use Rattle.onfi_cycle.specs.declared.data_phase.DataPhase.TheVariants.{Outside, Inputs, FirstColumn, SecondColumn, FeatureInputs}
use Rattle.onfi_cycle.specs.declared.opening.Opening.{Opening}
use Rattle.onfi_cycle.specs.declared.tail_facts.TailFacts.{TailFacts}
use Rattle.onfi_cycle.specs.declared.target_cycle.TargetCycle.{TargetCycle}
use Rattle.onfi_cycle.specs.declared.target_cycle.TargetCycle.TheVariants.{CommandCycle, AddressCycle, InputCycle, OutputCycle}
use Rattle.onfi_cycle.specs.LunView.{LunView}
use Rattle.onfi_cycle.specs.Command.{closes_row, reads_row, address_cycles, is_opener, takes_address, is_set_features}
use Rattle.onfi_cycle.specs.Sequence.{target_of, target_cycle, begins_anew, facts_of, facts_after, extended_facts, opened, one_address_more, wants_command, wants_address, wants_column, row, row_with, takes_features, phase_after_command, phase_after_address, phase_after_input, selects_plane}
use Rattle.onfi_cycle.specs.Effect.{is_off, is_data, is_shared, acts_for_target, other_effect, names_lun, confirm_effect, command_effect, address_effect, opening_address_effect, cycle_effect, ends_features, input_effect, plane_effect, column_effect, plane_of_row, program_row_effect}
use Rattle.onfi_cycle.specs.Lun.{busy_after, array_busy_after, closer_after, leaves_array_busy, view_after}
use Rattle.onfi_cycle.specs.Applied.{one_after}
use Rattle.onfi_cycle.specs.Rules.{lun_is, breaks_not_there}
use Rattle.onfi_cycle.specs.Channel.{is_cycle}
use Rattle.onfi_cycle.specs.Permitted.{judge}
use Rattle.onfi_cycle.specs.State.{TargetView, BusView, judged, judged_on, luns_after, has_driver, target_after, changed_at, bus_after}
use Rattle.onfi_cycle.specs.Bounds.{TailFits, BusFits}
use Rattle.onfi_cycle.specs.Readies.{starts, cycle_starts, starts_work, starts_later, awaits_start, one_if, due_at, due_of, target_due, due_there, targets_due, bus_due, ReadiesAreDue}
use Rattle.onfi_cycle.proofs.Applied.{ready_on_luns, array_ready_on_luns}
use Rattle.onfi_cycle.proofs.Others.{first_passed}
use Rattle.onfi_cycle.proofs.TailBounds.{command_in_features}
use Rattle.onfi_cycle.proofs.RowStands.{no_features_alone, features_begin}
use Rattle.onfi_cycle.proofs.Booleans.{clash}
use Rattle.onfi_cycle.proofs.Working.{target_fits_at}

-- ---- effects that leave all readies as they are

record Keeps (e : Effect) : Type 0 where
  busy : (b : Bool) → busy_after e b ≡ b
  array : (b : Bool) (c : Option Command) (a : Bool) → array_busy_after e b c a ≡ a
  closer : (c : Option Command) → closer_after e c ≡ c

unaffected : Keeps Unaffected
unaffected = record { busy = λ b. refl; array = λ b c a. refl; closer = λ c. refl }

either : (b : Bool) (x y : Effect) → Keeps x → Keeps y → Keeps (cond b x y)
either true x y h k = h
either false x y h k = k

confirm_keeps : (g : Parts) (t : TailFacts) (c : Command) → starts c ≡ false → Keeps (confirm_effect g t c)
confirm_keeps g t ReadConfirm h = cc
confirm_keeps g t ReadPlane h = cc
confirm_keeps g t CopybackRead h = cc
confirm_keeps g t ReadCacheSequential h = cc
confirm_keeps g t BlockEraseConfirm h = cc
confirm_keeps g t BlockErasePlane h = cc
confirm_keeps g t ProgramConfirm h = cc
confirm_keeps g t ProgramPlane h = cc
confirm_keeps g t ProgramCache h = cc
confirm_keeps g t c h = unaffected

other_keeps : (g : Parts) (t : TailFacts) (c : Command) → Keeps (other_effect g t c)
other_keeps g t c = either (closes_row c && (wants_command t c && is_shared g)) (AnotherAddressed (reads_row c)) Unaffected (record { busy = λ b. refl; array = λ b c a. refl; closer = λ c. refl }) unaffected

command_keeps : (g : Parts) (t : TailFacts) (la : Latch) (c : Command) (n : ℕ) → starts c ≡ false → Keeps (command_effect g t la c n)
command_keeps g t la Read n h = record { busy = λ b. refl; array = λ b c a. refl; closer = λ c. refl }
command_keeps g t la ReadStatus n h = either (is_shared g) StatusOfSelected StatusSelected (record { busy = λ b. refl; array = λ b c a. refl; closer = λ c. refl }) (record { busy = λ b. refl; array = λ b c a. refl; closer = λ c. refl })
command_keeps g t la ReadStatusEnhanced n h = record { busy = λ b. refl; array = λ b c a. refl; closer = λ c. refl }
command_keeps g t la Reset n h = cc
command_keeps g t la SynchronousReset n h = cc
command_keeps g t la ReadCacheSequential n h = cc
command_keeps g t la ReadCacheEnd n h = cc
command_keeps g t la ChangeReadColumnConfirm n h =
    either (selects_plane t) (plane_effect g t n) (column_effect t la) (either (names_lun g (row t) n) (PlaneSelected (plane_of_row g (row t)) (planes g) t.column) Deselected (record { busy = λ b. refl; array = λ b c a. refl; closer = λ c. refl }) (record { busy = λ b. refl; array = λ b c a. refl; closer = λ c. refl }))
    (either (wants_command t ChangeReadColumnConfirm && not (is_off la)) (ReadColumnChanged t.column) Unaffected (record { busy = λ b. refl; array = λ b c a. refl; closer = λ c. refl }) unaffected)
command_keeps g t la c n h = either (wants_command t c && names_lun g (row t) n) (confirm_effect g t c) (other_effect g t c) (confirm_keeps g t c h) (other_keeps g t c)

-- ---- work that an address or an input is to start

next_low : (m k : ℕ) → ltb (m + 1) k ≡ true → ltb m k ≡ true
next_low m k h = grind (arith, nat_tests)

waits_still : (c : Command) (m : ℕ) → (starts_later c && ltb (m + 1) (address_cycles c)) ≡ true → (starts_later c && ltb m (address_cycles c)) ≡ true
waits_still c m h = let parts = both (starts_later c) _ h in rw (parts.0, next_low m (address_cycles c) parts.1) refl

waited : (o : Option Opening) → opened (λ c n. starts_later c && ltb n (address_cycles c)) (one_address_more o) ≡ true → opened (λ c n. starts_later c && ltb n (address_cycles c)) o ≡ true
waited None h = h
waited (Some o) h = waits_still o.opener o.addresses h

set_waits : (c : Command) (m : ℕ) → (is_set_features c && m == 0) ≡ true → (starts_later c && ltb m (address_cycles c)) ≡ true
set_waits SetFeatures m h = let zeroth : m ≡ 0 = grind (arith, nat_tests) in rw zeroth refl
set_waits _ m h = cc

-- after an address the bytes of a Set Features are to come only where that waited for the address
features_waited : (o : Option Opening) (p : DataPhase) → takes_features (phase_after_address o p) ≡ true → opened (λ c n. starts_later c && ltb n (address_cycles c)) o ≡ true
features_waited None p h = let no = no_features_alone p in cc
features_waited (Some o) p h = set_waits o.opener o.addresses (features_begin o p h)

opens_none : (c : Command) → starts c ≡ false → (starts_later c && ltb 0 (address_cycles c)) ≡ true → false ≡ true
opens_none ReadParameterPage s h = cc
opens_none ReadUniqueId s h = cc
opens_none GetFeatures s h = cc
opens_none SetFeatures s h = cc
opens_none ResetLun s h = cc
opens_none _ s h = h

input_was : (n : ℕ) (p : DataPhase) → takes_features (phase_after_input n p) ≡ true → takes_features p ≡ true
input_was n Outside h = cc
input_was n Inputs h = cc
input_was n FirstColumn h = cc
input_was n SecondColumn h = cc
input_was n FeatureInputs h = refl

either_way : {A : Type 0} (a b : Bool) → (a || b) ≡ true → (a ≡ true → A) → (b ≡ true → A) → A
either_way true b h f k = f refl
either_way false b h f k = k h

abbrev opens_later : Option Opening → Bool
opens_later o = opened (λ c n. starts_later c && ltb n (address_cycles c)) o

-- what a tail waits for after a cycle it waited for before
extended_awaits : (t : TailFacts) (cycle : TargetCycle) → t.is_empty ≡ false → awaits_start (extended_facts cycle t) ≡ true → awaits_start t ≡ true
extended_awaits t (CommandCycle c) some h = of t.is_empty some h
  where
    of : (e : Bool) → e ≡ false → (opens_later (cond e (Some (record { opener = c; addresses = 0 })) None) || takes_features (phase_after_command c t.phase)) ≡ true → awaits_start t ≡ true
    of true s h = cc
    of false s h = let no = command_in_features c t.phase in cc
extended_awaits t (AddressCycle byte) some h =
    or_left (opens_later t.opening) (takes_features t.phase)
    (either_way (opens_later (one_address_more t.opening)) (takes_features (phase_after_address t.opening t.phase)) h (waited t.opening) (features_waited t.opening t.phase))
extended_awaits t (InputCycle byte) some h = or_right (opens_later t.opening) (takes_features t.phase) (input_was t.inputs t.phase h)
extended_awaits t OutputCycle some h = cc

awaits_no_more : (t : TailFacts) (cycle : TargetCycle) → cycle_starts cycle ≡ false → one_if (awaits_start (facts_after cycle t)) ≤ one_if (awaits_start t)
awaits_no_more t cycle s = at (begins_anew t cycle) refl
  where
    none : (b : Bool) → (b ≡ true → false ≡ true) → one_if b ≤ one_if (awaits_start t)
    none true h = let no = h refl in cc
    none false h = omega arith

    less : (b : Bool) → (b ≡ true → awaits_start t ≡ true) → one_if b ≤ one_if (awaits_start t)
    less true h = let was = h refl in rw was (omega arith)
    less false h = omega arith

    begun : (k : TargetCycle) → cycle_starts k ≡ false → begins_anew t k ≡ true → awaits_start (extended_facts k (facts_of [])) ≡ true → false ≡ true
    begun (CommandCycle c) s b h = either_way (starts_later c && ltb 0 (address_cycles c)) (takes_features (phase_after_command c Outside)) h (opens_none c s) (λ f. let no = command_in_features c Outside in cc)
    begun (AddressCycle byte) s b h = cc
    begun (InputCycle byte) s b h = cc
    begun OutputCycle s b h = cc

    on : (e : Bool) → t.is_empty ≡ e → one_if (awaits_start (cond e t (extended_facts cycle t))) ≤ one_if (awaits_start t)
    on true e = omega arith
    on false e = less _ (extended_awaits t cycle e)

    at : (b : Bool) → begins_anew t cycle ≡ b → one_if (awaits_start (cond b (extended_facts cycle (facts_of [])) (cond t.is_empty t (extended_facts cycle t)))) ≤ one_if (awaits_start t)
    at true e = none _ (begun cycle s e)
    at false e = on t.is_empty refl

-- ---- one LUN

keeps_due : (t u : TailFacts) (e : Effect) (v : LunView) → Keeps e → one_if (awaits_start u) ≤ one_if (awaits_start t) → due_at u (view_after e v) ≤ due_at t v
keeps_due t u e v k less = rw (k.busy v.busy, k.array v.busy v.closer v.array_busy, k.closer v.closer) (omega (arith, less))

-- an effect that shows what stands beside the array ends a cache read, and brings no ready
record Shows (e : Effect) : Type 0 where
  busy : (b : Bool) → busy_after e b ≡ b
  array : (b : Bool) (c : Option Command) (a : Bool) → array_busy_after e b c a ≡ false
  closer : (c : Option Command) → leaves_array_busy (closer_after e c) ≡ false

shows_due : (t u : TailFacts) (e : Effect) (v : LunView) → Shows e → one_if (awaits_start u) ≤ one_if (awaits_start t) → due_at u (view_after e v) ≤ due_at t v
shows_due t u e v k less = rw (k.busy v.busy, k.array v.busy v.closer v.array_busy, k.closer v.closer) (of v.busy v.array_busy (v.busy && leaves_array_busy v.closer))
  where
    of : (b a c : Bool) → one_if b + (0 + (one_if (b && false) + one_if (awaits_start u))) ≤ one_if b + (one_if a + (one_if c + one_if (awaits_start t)))
    of true a c = omega (arith, less)
    of false a c = omega (arith, less)

-- work that an address or an input starts brings the ready that was awaited
record Starts (e : Effect) : Type 0 where
  busy : (b : Bool) → busy_after e b ≡ true
  array : (b : Bool) (c : Option Command) (a : Bool) → array_busy_after e b c a ≡ false
  closer : (c : Option Command) → leaves_array_busy (closer_after e c) ≡ false

started_due : (t u : TailFacts) (e : Effect) (v : LunView) → Starts e → awaits_start t ≡ true → awaits_start u ≡ false → due_at u (view_after e v) ≤ due_at t v
started_due t u e v k was is = rw (k.busy v.busy, k.array v.busy v.closer v.array_busy, k.closer v.closer, was, is) (of v.busy v.array_busy (v.busy && leaves_array_busy v.closer))
  where
    of : (b a c : Bool) → 1 + (0 + (0 + 0)) ≤ one_if b + (one_if a + (one_if c + 1))
    of b a c = omega arith

-- the opener waits for this address, and for none behind it
record IsLast (o : Opening) : Type 0 where
  later : starts_later o.opener ≡ true
  low : ltb o.addresses (address_cycles o.opener) ≡ true
  last : ltb (o.addresses + 1) (address_cycles o.opener) ≡ false
  no_bytes : is_set_features o.opener ≡ false

last_awaited : (t : TailFacts) (o : Opening) → t.opening ≡ Some o → IsLast o → awaits_start t ≡ true
last_awaited t o is k = or_left (opens_later t.opening) (takes_features t.phase) (ap opens_later is ∙ rw (k.later, k.low) refl)

last_awaits_none : (byte : ℕ) (t : TailFacts) (o : Opening) → t.opening ≡ Some o → t.is_empty ≡ false → IsLast o → awaits_start (facts_after (AddressCycle byte) t) ≡ false
last_awaits_none byte t o is some k =
    ap (λ (b : Bool). awaits_start (cond b t (extended_facts (AddressCycle byte) t))) some
    ∙ (ap (λ (q : Option Opening). opens_later (one_address_more q) || takes_features (phase_after_address q t.phase)) is ∙ rw k.last (no_more (starts_later o.opener) (takes_features (phase_after_address (Some o) t.phase)) refl))
  where
    no_more : (a b : Bool) → takes_features (phase_after_address (Some o) t.phase) ≡ b → ((a && false) || takes_features (phase_after_address (Some o) t.phase)) ≡ false
    no_more a true e = let begin = both (is_set_features o.opener) _ (features_begin o t.phase e) in let no = k.no_bytes in absurd (clash (is_set_features o.opener) begin.0 no)
    no_more true false e = e
    no_more false false e = e

address_due : (g : Parts) (t : TailFacts) (byte n : ℕ) (v : LunView) → TailFits g t → one_if (awaits_start (facts_after (AddressCycle byte) t)) ≤ one_if (awaits_start t) → due_at (facts_after (AddressCycle byte) t) (view_after (opening_address_effect g t byte t.opening n) v) ≤ due_at t v
address_due g t byte n v tf less = at t.opening refl
  where
    u : TailFacts
    u = facts_after (AddressCycle byte) t

    not_empty : (o : Opening) → t.opening ≡ Some o → (b : Bool) → t.is_empty ≡ b → t.is_empty ≡ false
    not_empty o is true e = let none = tf.nothing e in cc
    not_empty o is false e = e

    outside : (o : Opening) → t.opening ≡ Some o → (b : Bool) → wants_column t.phase ≡ b → wants_column t.phase ≡ false
    outside o is true e = let none = tf.in_column e in cc
    outside o is false e = e

    started : (o : Opening) → t.opening ≡ Some o → (e : Effect) → Starts e → (w : Bool) → (w ≡ true → IsLast o) → due_at u (view_after (cond w e Unaffected) v) ≤ due_at t v
    started o is e k true last = started_due t u e v k (last_awaited t o is (last refl)) (last_awaits_none byte t o is (not_empty o is t.is_empty refl) (last refl))
    started o is e k false last = keeps_due t u Unaffected v unaffected less

    -- at a LUN that acts for its target, or not
    served : (o : Opening) → t.opening ≡ Some o → (e : Effect) → Starts e → (w a : Bool) → (w ≡ true → IsLast o) → due_at u (view_after (cond w (cond a e Deselected) Unaffected) v) ≤ due_at t v
    served o is e k w true last = started o is e k w last
    served o is e k true false last = keeps_due t u Deselected v (record { busy = λ b. refl; array = λ b c a. refl; closer = λ c. refl }) less
    served o is e k false false last = keeps_due t u Unaffected v unaffected less

    -- the one address of these
    only : (o : Opening) → t.opening ≡ Some o → (c : Command) → o.opener ≡ c → starts_later c ≡ true → address_cycles c ≡ 1 → is_set_features c ≡ false → wants_address t byte ≡ true → IsLast o
    only o is c e later one other w =
        let low : ltb o.addresses (address_cycles o.opener) ≡ true = wanted (wants_column t.phase) (outside o is (wants_column t.phase) refl) (ap (λ (q : Option Opening). opened (λ c n. is_opener c && ltb n (address_cycles c) && takes_address c byte) q || wants_column t.phase) (sym is) ∙ w) in
        let cycles : address_cycles o.opener ≡ 1 = ap address_cycles e ∙ one in
        record { later = ap starts_later e ∙ later; low = low; last = grind (arith, nat_tests); no_bytes = ap is_set_features e ∙ other }
      where
        wanted : (b : Bool) → b ≡ false → ((is_opener o.opener && ltb o.addresses (address_cycles o.opener) && takes_address o.opener byte) || b) ≡ true → ltb o.addresses (address_cycles o.opener) ≡ true
        wanted true e h = cc
        wanted false e h = middle (is_opener o.opener) (ltb o.addresses (address_cycles o.opener)) (takes_address o.opener byte) h
          where
            middle : (a b c : Bool) → ((a && b && c) || false) ≡ true → b ≡ true
            middle true true c h = refl
            middle true false c h = cc
            middle false b c h = cc

    -- the third address of a Reset LUN
    third : (o : Opening) → o.opener ≡ ResetLun → (o.addresses == 2) ≡ true → IsLast o
    third o e two =
        let cycles : address_cycles o.opener ≡ 3 = ap address_cycles e in
        record { later = ap starts_later e; low = grind (arith, nat_tests); last = grind (arith, nat_tests); no_bytes = ap is_set_features e }

    resets : (o : Opening) → t.opening ≡ Some o → o.opener ≡ ResetLun → (b : Bool) → (o.addresses == 2) ≡ b → (named shared : Bool) → due_at u (view_after (cond b (cond named ResetStarted (cond shared (AnotherAddressed false) Unaffected)) Unaffected) v) ≤ due_at t v
    resets o is e true two true shared = started o is ResetStarted (record { busy = λ b. refl; array = λ b c a. refl; closer = λ c. refl }) true (λ h. third o e two)
    resets o is e true two false true = keeps_due t u (AnotherAddressed false) v (record { busy = λ b. refl; array = λ b c a. refl; closer = λ c. refl }) less
    resets o is e true two false false = keeps_due t u Unaffected v unaffected less
    resets o is e false two named shared = keeps_due t u Unaffected v unaffected less

    identifier : (w a b : Bool) → due_at u (view_after (cond w (cond a (cond b IdRead (IdentityRead (byte == 0x40))) Deselected) Unaffected) v) ≤ due_at t v
    identifier true false b = keeps_due t u Deselected v (record { busy = λ b. refl; array = λ b c a. refl; closer = λ c. refl }) less
    identifier true true true = shows_due t u IdRead v (record { busy = λ b. refl; array = λ b c a. refl; closer = λ c. refl }) less
    identifier true true false = shows_due t u (IdentityRead (byte == 0x40)) v (record { busy = λ b. refl; array = λ b c a. refl; closer = λ c. refl }) less
    identifier false a b = keeps_due t u Unaffected v unaffected less

    kind : (o : Opening) → t.opening ≡ Some o → (c : Command) → o.opener ≡ c → due_at u (view_after (address_effect g t byte c o.addresses n) v) ≤ due_at t v
    kind o is ReadStatusEnhanced e =
        keeps_due t u (address_effect g t byte ReadStatusEnhanced o.addresses n) v
        (either (o.addresses == 2) (cond (names_lun g (row_with t byte) n) SelectedForStatus Deselected) Unaffected (either (names_lun g (row_with t byte) n) SelectedForStatus Deselected (record { busy = λ b. refl; array = λ b c a. refl; closer = λ c. refl }) (record { busy = λ b. refl; array = λ b c a. refl; closer = λ c. refl })) unaffected)
        less
    kind o is PageProgram e =
        keeps_due t u (address_effect g t byte PageProgram o.addresses n) v
        (either (o.addresses == 4) (program_row_effect (names_lun g (row_with t byte) n)) Unaffected (either (names_lun g (row_with t byte) n) ProgramAddressed Unaffected (record { busy = λ b. refl; array = λ b c a. refl; closer = λ c. refl }) unaffected) unaffected)
        less
    kind o is ReadId e = identifier (wants_address t byte) (acts_for_target g n) (byte == 0x20)
    kind o is ReadParameterPage e = served o is ParameterPageReadStarted (record { busy = λ b. refl; array = λ b c a. refl; closer = λ c. refl }) (wants_address t byte) (acts_for_target g n) (only o is ReadParameterPage e refl refl refl)
    kind o is ReadUniqueId e = served o is UniqueIdReadStarted (record { busy = λ b. refl; array = λ b c a. refl; closer = λ c. refl }) (wants_address t byte) (acts_for_target g n) (only o is ReadUniqueId e refl refl refl)
    kind o is GetFeatures e = served o is (FeaturesReadStarted byte) (record { busy = λ b. refl; array = λ b c a. refl; closer = λ c. refl }) (wants_address t byte) (acts_for_target g n) (only o is GetFeatures e refl refl refl)
    kind o is ResetLun e = resets o is e (o.addresses == 2) refl (names_lun g (row_with t byte) n) (is_shared g)
    kind o is c e = keeps_due t u Unaffected v unaffected less

    at : (o : Option Opening) → t.opening ≡ o → due_at u (view_after (opening_address_effect g t byte o n) v) ≤ due_at t v
    at None e = keeps_due t u Unaffected v unaffected less
    at (Some o) e = kind o e o.opener refl

-- the fourth byte of a Set Features starts it
input_due : (g : Parts) (t : TailFacts) (byte n : ℕ) (v : LunView) → one_if (awaits_start (facts_after (InputCycle byte) t)) ≤ one_if (awaits_start t) → t.is_empty ≡ false → due_at (facts_after (InputCycle byte) t) (view_after (input_effect g t n) v) ≤ due_at t v
input_due g t byte n v less some = at (ends_features t) refl (acts_for_target g n)
  where
    u : TailFacts
    u = facts_after (InputCycle byte) t

    ended : (p : DataPhase) (k : ℕ) → takes_features p ≡ true → k ≡ 3 → takes_features (phase_after_input k p) ≡ false
    ended Outside k f e = cc
    ended Inputs k f e = cc
    ended FirstColumn k f e = cc
    ended SecondColumn k f e = cc
    ended FeatureInputs k f e = rw e refl

    at : (b : Bool) → ends_features t ≡ b → (a : Bool) → due_at u (view_after (cond b (cond a (FeaturesSet (t.column % 256)) Deselected) Unaffected) v) ≤ due_at t v
    at true e false = keeps_due t u Deselected v (record { busy = λ b. refl; array = λ b c a. refl; closer = λ c. refl }) less
    at true e true =
        let parts = both (takes_features t.phase) _ e in
        let last : t.inputs ≡ 3 = eqb-true t.inputs 3 parts.1 in
        started_due t u (FeaturesSet (t.column % 256)) v (record { busy = λ b. refl; array = λ b c a. refl; closer = λ c. refl })
        (or_right (opens_later t.opening) (takes_features t.phase) parts.0)
        (ap (λ (b : Bool). awaits_start (cond b t (extended_facts (InputCycle byte) t))) some ∙ ended t.phase t.inputs parts.0 last)
    at false e a = keeps_due t u Unaffected v unaffected less

-- where no opener has come no input starts anything
empty_due : (g : Parts) (t : TailFacts) (byte n : ℕ) (v : LunView) → TailFits g t → one_if (awaits_start (facts_after (InputCycle byte) t)) ≤ one_if (awaits_start t) → (b : Bool) → t.is_empty ≡ b → due_at (facts_after (InputCycle byte) t) (view_after (input_effect g t n) v) ≤ due_at t v
empty_due g t byte n v tf less true e =
    let none : ends_features t ≡ false = rw (tf.outside e) refl in
    rw none (keeps_due t (facts_after (InputCycle byte) t) Unaffected v unaffected less)
empty_due g t byte n v tf less false e = input_due g t byte n v less e

cycle_due : (g : Parts) (t : TailFacts) (la : Latch) (cycle : TargetCycle) (n : ℕ) (v : LunView) → TailFits g t → cycle_starts cycle ≡ false → due_at (facts_after cycle t) (view_after (cycle_effect g t la cycle n) v) ≤ due_at t v
cycle_due g t la (CommandCycle c) n v tf s = keeps_due t (facts_after (CommandCycle c) t) (command_effect g t la c n) v (command_keeps g t la c n s) (awaits_no_more t (CommandCycle c) s)
cycle_due g t la (AddressCycle byte) n v tf s = address_due g t byte n v tf (awaits_no_more t (AddressCycle byte) s)
cycle_due g t la (InputCycle byte) n v tf s = empty_due g t byte n v tf (awaits_no_more t (InputCycle byte) s) t.is_empty refl
cycle_due g t la OutputCycle n v tf s =
    keeps_due t (facts_after OutputCycle t) (cycle_effect g t la OutputCycle n) v
    (either (is_data la) DataOutput Unaffected (record { busy = λ b. refl; array = λ b c a. refl; closer = λ c. refl }) unaffected)
    (awaits_no_more t OutputCycle s)

-- ---- a target

luns_due : (g : Parts) (t : TailFacts) (sole : Bool) (c : Cycle) (n : ℕ) (vs : List LunView) → TailFits g t → cycle_starts (target_cycle c.kind c.byte) ≡ false → due_of (facts_after (target_cycle c.kind c.byte) t) (luns_after g t sole (Cyc c) n vs) ≤ due_of t vs
luns_due g t sole c n [] tf s = omega arith
luns_due g t sole c n (v ∷ vs) tf s =
    let here = first (c.ce == c.ce) refl in
    let rest = luns_due g t sole c (n + 1) vs tf s in
    omega (arith, here, rest)
  where
    first : (b : Bool) → (c.ce == c.ce) ≡ b → due_at (facts_after (target_cycle c.kind c.byte) t) (view_after (cond b (cycle_effect g t (cond sole v.latch Off) (target_cycle c.kind c.byte) n) Unaffected) v) ≤ due_at t v
    first true e = cycle_due g t (cond sole v.latch Off) (target_cycle c.kind c.byte) n v tf s
    first false e = let same : (c.ce == c.ce) ≡ true = grind (arith, nat_tests) in cc

-- one LUN that becomes ready
ready_due : (t : TailFacts) (fail : Failures) (v : LunView) → v.busy ≡ true → due_at t (view_after (BecameReady fail) v) + 1 ≤ due_at t v
ready_due t fail v busy = rw busy (of v.array_busy (leaves_array_busy v.closer))
  where
    of : (a c : Bool) → 0 + (one_if (a || c) + (0 + one_if (awaits_start t))) + 1 ≤ 1 + (one_if a + (one_if c + one_if (awaits_start t)))
    of true true = omega arith
    of true false = omega arith
    of false true = omega arith
    of false false = omega arith

array_ready_due : (t : TailFacts) (fail : Bool) (v : LunView) → v.array_busy ≡ true → due_at t (view_after (ArrayBecameReady fail) v) + 1 ≤ due_at t v
array_ready_due t fail v busy = rw busy (of v.busy (v.busy && leaves_array_busy v.closer))
  where
    of : (b c : Bool) → one_if b + (0 + (one_if c + one_if (awaits_start t))) + 1 ≤ one_if b + (1 + (one_if c + one_if (awaits_start t)))
    of b c = omega arith

one_due : (t : TailFacts) (e : Effect) (test : LunView → Bool) (vs : List LunView) (k : ℕ) → ((v : LunView) → test v ≡ true → due_at t (view_after e v) + 1 ≤ due_at t v) → lun_is test vs k ≡ true → due_of t (one_after e k vs) + 1 ≤ due_of t vs
one_due t e test [] k less h = cc
one_due t e test (v ∷ vs) zero less h = let here = less v h in omega (arith, here)
one_due t e test (v ∷ vs) (suc k) less h = let rest = one_due t e test vs k less h in omega (arith, rest)

is_busy_there : (g : Parts) (targets : ℕ) (s : TargetView) (ce lun : ℕ) (fail : Failures) → judge g targets s.tail s.luns (Rdy ce lun fail) ≡ None → lun_is (λ v. v.busy) s.luns lun ≡ true
unfolding breaks_not_there
is_busy_there g targets s ce lun fail h = not-false _ (neither (leb targets ce) _ (first_passed (breaks_not_there targets s.luns (Rdy ce lun fail)) NotThere None h).0).1

is_array_busy_there : (g : Parts) (targets : ℕ) (s : TargetView) (ce lun : ℕ) (fail : Bool) → judge g targets s.tail s.luns (Ard ce lun fail) ≡ None → lun_is (λ v. v.array_busy) s.luns lun ≡ true
unfolding breaks_not_there
is_array_busy_there g targets s ce lun fail h = not-false _ (neither (leb targets ce) _ (first_passed (breaks_not_there targets s.luns (Ard ce lun fail)) NotThere None h).0).1

-- ---- a channel

-- a target that changes by so much changes the whole by so much
changed_due : (change : TargetView → TargetView) (targets : List TargetView) (k : ℕ) → targets_due (changed_at change k targets) + due_there (slice_get targets k) ≡ targets_due targets + due_there (slice_get (changed_at change k targets) k)
changed_due change [] k = refl
changed_due change (s ∷ targets) zero = swap (target_due (change s)) (target_due s) (targets_due targets)
  where
    swap : (a b c : ℕ) → a + c + b ≡ b + c + a
    swap a b c = omega arith
changed_due change (s ∷ targets) (suc k) = let rest = changed_due change targets k in omega (arith, rest)

less_there : (change : TargetView → TargetView) (targets : List TargetView) (k d : ℕ) → ((s : TargetView) → slice_get targets k ≡ Some s → target_due (change s) + d ≤ target_due s) → k < length targets → targets_due (changed_at change k targets) + d ≤ targets_due targets
less_there change [] k d less low = absurd (omega arith)
less_there change (s ∷ targets) zero d less low = let here = less s refl in omega (arith, here)
less_there change (s ∷ targets) (suc k) d less low = let rest = less_there change targets k d less (omega arith) in omega (arith, rest)

beyond : (change : TargetView → TargetView) (targets : List TargetView) (k : ℕ) → length targets ≤ k → changed_at change k targets ≡ targets
beyond change [] k h = refl
beyond change (s ∷ targets) zero h = absurd (omega arith)
beyond change (s ∷ targets) (suc k) h = ap (λ (ts : List TargetView). s ∷ ts) (beyond change targets k (omega arith))

cycles_due : (s : BusView) (c : Cycle) → BusFits s → cycle_starts (target_cycle c.kind c.byte) ≡ false → bus_due (bus_after (Cyc c) s) ≤ bus_due s
cycles_due s c f idle = at (leb (length s.targets) c.ce) refl
  where
    at : (b : Bool) → leb (length s.targets) c.ce ≡ b → bus_due (bus_after (Cyc c) s) ≤ bus_due s
    at true e =
        let past : length s.targets ≤ c.ce = grind (arith, nat_tests) in
        let same = ap targets_due (beyond (target_after s.geometry (Cyc c)) s.targets c.ce past) in
        omega (arith, same)
    at false e =
        let low : c.ce < length s.targets = grind (arith, nat_tests) in
        let less = less_there (target_after s.geometry (Cyc c)) s.targets c.ce 0
        (λ t found. let one = luns_due s.geometry t.tail (has_driver t.luns) c 0 t.luns (target_fits_at s.geometry s.targets c.ce t f.targets found).tail idle in omega (arith, one)) low in
        omega (arith, less)

found_on : (s : BusView) (i : Item) → judged s i ≡ None → (t : TargetView) × (slice_get s.targets (target_of i) ≡ Some t) × (judge s.geometry (length s.targets) t.tail t.luns i ≡ None)
found_on s i h = at (slice_get s.targets (target_of i)) refl h
  where
    at : (o : Option TargetView) → slice_get s.targets (target_of i) ≡ o → judged_on s.geometry (length s.targets) o i ≡ None → (t : TargetView) × (slice_get s.targets (target_of i) ≡ Some t) × (judge s.geometry (length s.targets) t.tail t.luns i ≡ None)
    at None e h = cc
    at (Some t) e h = (t, e, h)

some_same : (t u : TargetView) (o : Option TargetView) → o ≡ Some t → o ≡ Some u → t ≡ u
some_same t u o a b = cc

ready_less : (s : BusView) (i : Item) → judged s i ≡ None → ((t : TargetView) → judge s.geometry (length s.targets) t.tail t.luns i ≡ None → target_due (target_after s.geometry i t) + 1 ≤ target_due t) → bus_due (bus_after i s) + 1 ≤ bus_due s
ready_less s i h less =
    let there = found_on s i h in
    less_there (target_after s.geometry i) s.targets (target_of i) 1
    (λ t found. less t (subst (λ (u : TargetView). judge s.geometry (length s.targets) u.tail u.luns i ≡ None) (some_same there.0 t (slice_get s.targets (target_of i)) there.1 found) there.2))
    (slice_get_within s.targets (target_of i) there.0 there.1)

pub readies_are_due : ReadiesAreDue
readies_are_due =
    record {
      cycles = λ s i f is idle. cycle s i f is idle;
      readies = λ s ce lun fail h.
          ready_less s (Rdy ce lun fail) h (λ t j.
          let one = one_due t.tail (BecameReady fail) (λ v. v.busy) t.luns lun (ready_due t.tail fail) (is_busy_there s.geometry (length s.targets) t ce lun fail j) in
          subst (λ (vs : List LunView). due_of t.tail vs + 1 ≤ due_of t.tail t.luns) (ready_on_luns s.geometry t.tail (has_driver t.luns) ce lun fail t.luns) one);
      array_readies = λ s ce lun fail h.
          ready_less s (Ard ce lun fail) h (λ t j.
          let one = one_due t.tail (ArrayBecameReady fail) (λ v. v.array_busy) t.luns lun (array_ready_due t.tail fail) (is_array_busy_there s.geometry (length s.targets) t ce lun fail j) in
          subst (λ (vs : List LunView). due_of t.tail vs + 1 ≤ due_of t.tail t.luns) (array_ready_on_luns s.geometry t.tail (has_driver t.luns) ce lun fail t.luns) one);
      elsewhere = λ s i. changed_due (target_after s.geometry i) s.targets (target_of i);
    }
  where
    cycle : (s : BusView) (i : Item) → BusFits s → is_cycle i ≡ true → starts_work i ≡ false → bus_due (bus_after i s) ≤ bus_due s
    cycle s (Cyc c) f is idle = cycles_due s c f idle
    cycle s (Rdy ce lun fail) f is idle = cc
    cycle s (Ard ce lun fail) f is idle = cc
