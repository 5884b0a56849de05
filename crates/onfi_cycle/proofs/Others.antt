-- The items of another LUN, or of another target, are quiet.
use Rattle.std.proofs.Common.{is_none, ◌≡◌, ◌≢◌, ℕ, ◌<◌, ◌==◌, Bool, true, false, ◌&&◌, cond, not, List, [], ◌∷◌, Option, Some, None, refl, ap, arith, ltb}
use Rattle.std.proofs.lemmas.Bool.Decides.{nat_tests}
use Rattle.std.proofs.lemmas.Bool.{not-true, and_parts as both_true}
use Rattle.onfi_cycle.proofs.Booleans.{clash, by_case}
use Rattle.nand_geometry.specs.declared.parts.Parts.{Parts}
use Rattle.onfi_cycle.specs.declared.lun.Lun.{Lun}
use Rattle.onfi_cycle.specs.declared.item.Item.{Item}
use Rattle.onfi_cycle.specs.declared.item.Item.TheVariants.{Cyc, Rdy, Ard}
use Rattle.onfi_cycle.specs.declared.latch.Latch.{Latch}
use Rattle.onfi_cycle.specs.declared.latch.Latch.TheVariants.{Off}
use Rattle.onfi_cycle.specs.declared.command.Command.{Command}
use Rattle.onfi_cycle.specs.declared.command.Command.TheVariants.{Read, ProgramConfirm, ProgramPlane, PageProgram, CopybackRead, ReadConfirm, ReadPlane, ReadCacheSequential, ReadCacheEnd, ReadStatus, ReadStatusEnhanced, ReadId, BlockEraseConfirm, BlockErasePlane, ChangeReadColumnConfirm, ReadParameterPage, Reset, ChangeWriteColumn, ReadUniqueId, GetFeatures, SetFeatures, ResetLun, SynchronousReset, ProgramCache}
use Rattle.onfi_cycle.specs.Command.{closes_row, reads_row, begins_data, is_set_features, at_last_row, reads_identity, is_of_target, wants_one_lun}
use Rattle.onfi_cycle.specs.declared.data_phase.DataPhase.{DataPhase}
use Rattle.onfi_cycle.specs.declared.data_phase.DataPhase.TheVariants.{Outside, Inputs, FirstColumn, SecondColumn, FeatureInputs}
use Rattle.onfi_cycle.specs.declared.target_cycle.TargetCycle.{TargetCycle}
use Rattle.onfi_cycle.specs.declared.target_cycle.TargetCycle.TheVariants.{CommandCycle, AddressCycle, InputCycle, OutputCycle}
use Rattle.onfi_cycle.specs.declared.effect.Effect.{Effect}
use Rattle.onfi_cycle.specs.declared.effect.Effect.TheVariants.{Unaffected, SelectedForStatus, Deselected, StatusSelected, StatusOfSelected, AnotherAddressed, BecameReady, ArrayBecameReady, ResetStarted}
use Rattle.onfi_cycle.specs.declared.opening.Opening.{Opening}
use Rattle.onfi_cycle.specs.declared.tail_facts.TailFacts.{TailFacts}
use Rattle.onfi_cycle.specs.Sequence.{takes_features, phase_after_command, phase_after_last_address, phase_after_address, phase_after_input, data_phase, inputs, continued, target_of, facts_of, row_with, target_cycle, with_cycle, one_address_more, tail, opening, opened, wants_command, works_on_row, begins_anew, row, selects_plane}
use Rattle.onfi_cycle.specs.Effect.{is_shared, other_effect, row_effect, cache_effect, names_lun, command_effect, address_effect, opening_address_effect, program_row_effect, cycle_effect, effect_given, plane_effect, column_effect}
use Rattle.onfi_cycle.specs.Lun.{effect_on, effect_among, latch_alone, drivers, is_only, lun_view, shown_after, read_column, read_column_after, luns_of}
use Rattle.onfi_cycle.specs.LunView.{LunView}
use Rattle.onfi_cycle.specs.declared.item.Cycle.{Cycle}
use Rattle.onfi_cycle.specs.declared.forbidden.Forbidden.{Forbidden}
use Rattle.onfi_cycle.specs.Rules.{breaks_not_there, breaks_command_unknown, breaks_sequence_open, breaks_several_luns}
use Rattle.onfi_cycle.specs.Permitted.{broken, judge_cycle, is_permitted, is_legal}
use Rattle.onfi_cycle.specs.OtherLun.{keeps_to_lun, keeps_to, is_of, needs_driver, OthersKeep, TargetsKeep}
use Rattle.onfi_cycle.proofs.Quiet.{is_quiet, keeps_quiet}

-- two numbers that a third equals are one
not_both : (x l m : ℕ) → l ≢ m → (x == m) ≡ true → (x == l) ≡ false
not_both x l m ne h = grind (arith, nat_tests)

-- a choice between two effects that are quiet
quiet_choice : (b : Bool) (x y : Effect) → is_quiet x ≡ true → is_quiet y ≡ true → is_quiet (cond b x y) ≡ true
quiet_choice true x y hx hy = hx
quiet_choice false x y hx hy = hy

-- where the names differ, a closer does nothing, or tells that another LUN works
quiet_named : (w b : Bool) (x y : Effect) → b ≡ false → is_quiet y ≡ true → is_quiet (cond (w && b) x y) ≡ true
quiet_named true true x y h q = cc
quiet_named true false x y h q = q
quiet_named false b x y h q = q

other_is_quiet : (g : Parts) (t : TailFacts) (c : Command) → is_quiet (other_effect g t c) ≡ true
other_is_quiet g t c = quiet_choice (closes_row c && (wants_command t c && is_shared g)) (AnotherAddressed (reads_row c)) Unaffected refl refl

-- a command that is permitted on a target with several LUNs, and that is one of a LUN
record MayServe (g : Parts) (c : Command) : Type 0 where
  one : is_shared g ≡ false → wants_one_lun c ≡ false
  target : is_shared g ≡ true → is_of_target c ≡ false

no_reset : (b : Bool) (x y : Effect) → (b ≡ false → true ≡ false) → (b ≡ true → true ≡ false) → is_quiet (cond b x y) ≡ true
no_reset true x y f t = let no = t refl in cc
no_reset false x y f t = let no = f refl in cc

shows_one : (b : Bool) → (b ≡ false → true ≡ false) → is_quiet (cond b StatusOfSelected StatusSelected) ≡ true
shows_one true f = refl
shows_one false f = let no = f refl in cc

-- such a command that works on another LUN
quiet_command : (g : Parts) (t : TailFacts) (s : Latch) (c : Command) (l m : ℕ) → l ≢ m → MayServe g c → (works_on_row t c ≡ true → names_lun g (row t) m ≡ true) → (needs_driver c ≡ true → works_on_row t c ≡ false → s ≡ Off) → is_quiet (command_effect g t s c l) ≡ true
quiet_command g t s Read l m ne one named driver = refl
quiet_command g t s ReadStatus l m ne one named driver = shows_one (is_shared g) one.one
quiet_command g t s ReadStatusEnhanced l m ne one named driver = refl
quiet_command g t s Reset l m ne one named driver = no_reset (is_shared g) _ _ one.one one.target
quiet_command g t s SynchronousReset l m ne one named driver = no_reset (is_shared g) _ _ one.one one.target
quiet_command g t s ReadCacheSequential l m ne one named driver = at (wants_command t ReadCacheSequential) named driver
  where
    at : (w : Bool) → (w ≡ true → names_lun g (row t) m ≡ true) → (needs_driver ReadCacheSequential ≡ true → w ≡ false → s ≡ Off) → is_quiet (cond w (row_effect g t ReadCacheSequential l) (cache_effect s)) ≡ true
    at true named driver = quiet_named (wants_command t ReadCacheSequential) (names_lun g (row t) l) _ _ (not_both _ l m ne (named refl)) (other_is_quiet g t ReadCacheSequential)
    at false named driver = rw (driver refl refl) refl
quiet_command g t s ReadCacheEnd l m ne one named driver = rw (driver refl refl) refl
quiet_command g t s ChangeReadColumnConfirm l m ne one named driver = at (selects_plane t) named driver
  where
    at : (w : Bool) → (w ≡ true → names_lun g (row t) m ≡ true) → (needs_driver ChangeReadColumnConfirm ≡ true → w ≡ false → s ≡ Off) → is_quiet (cond w (plane_effect g t l) (column_effect t s)) ≡ true
    at true named driver = rw (not_both _ l m ne (named refl)) refl
    at false named driver = rw (driver refl refl) (quiet_named (wants_command t ChangeReadColumnConfirm) false _ _ refl refl)
quiet_command g t s ReadConfirm l m ne one named driver = quiet_named (wants_command t ReadConfirm) (names_lun g (row t) l) _ _ (not_both _ l m ne (named refl)) (other_is_quiet g t ReadConfirm)
quiet_command g t s ReadPlane l m ne one named driver = quiet_named (wants_command t ReadPlane) (names_lun g (row t) l) _ _ (not_both _ l m ne (named refl)) (other_is_quiet g t ReadPlane)
quiet_command g t s CopybackRead l m ne one named driver = quiet_named (wants_command t CopybackRead) (names_lun g (row t) l) _ _ (not_both _ l m ne (named refl)) (other_is_quiet g t CopybackRead)
quiet_command g t s BlockEraseConfirm l m ne one named driver = quiet_named (wants_command t BlockEraseConfirm) (names_lun g (row t) l) _ _ (not_both _ l m ne (named refl)) (other_is_quiet g t BlockEraseConfirm)
quiet_command g t s BlockErasePlane l m ne one named driver = quiet_named (wants_command t BlockErasePlane) (names_lun g (row t) l) _ _ (not_both _ l m ne (named refl)) (other_is_quiet g t BlockErasePlane)
quiet_command g t s ProgramConfirm l m ne one named driver = quiet_named (wants_command t ProgramConfirm) (names_lun g (row t) l) _ _ (not_both _ l m ne (named refl)) (other_is_quiet g t ProgramConfirm)
quiet_command g t s ProgramPlane l m ne one named driver = quiet_named (wants_command t ProgramPlane) (names_lun g (row t) l) _ _ (not_both _ l m ne (named refl)) (other_is_quiet g t ProgramPlane)
quiet_command g t s ProgramCache l m ne one named driver = quiet_named (wants_command t ProgramCache) (names_lun g (row t) l) _ _ (not_both _ l m ne (named refl)) (other_is_quiet g t ProgramCache)
quiet_command g t s c l m ne one named driver = quiet_choice (wants_command t c && names_lun g (row t) l) Unaffected Unaffected refl refl

-- an address of another LUN
quiet_address : (g : Parts) (t : TailFacts) (byte : ℕ) (c : Command) (n l m : ℕ) → l ≢ m → reads_identity c ≡ false → (at_last_row c n ≡ true → names_lun g (row_with t byte) m ≡ true) → is_quiet (address_effect g t byte c n l) ≡ true
quiet_address g t byte ReadStatusEnhanced n l m ne id row = at (n == 2) refl
  where
    at : (b : Bool) → (n == 2) ≡ b → is_quiet (cond b (cond (names_lun g (row_with t byte) l) SelectedForStatus Deselected) Unaffected) ≡ true
    at true e = rw (not_both _ l m ne (row e)) refl
    at false e = refl
quiet_address g t byte ResetLun n l m ne id row = at (n == 2) refl
  where
    at : (b : Bool) → (n == 2) ≡ b → is_quiet (cond b (cond (names_lun g (row_with t byte) l) ResetStarted (cond (is_shared g) (AnotherAddressed false) Unaffected)) Unaffected) ≡ true
    at true e = rw (not_both _ l m ne (row e)) (quiet_choice (is_shared g) (AnotherAddressed false) Unaffected refl refl)
    at false e = refl
quiet_address g t byte PageProgram n l m ne id row = at (n == 4) refl
  where
    at : (b : Bool) → (n == 4) ≡ b → is_quiet (cond b (program_row_effect (names_lun g (row_with t byte) l)) Unaffected) ≡ true
    at true e = rw (not_both _ l m ne (row e)) refl
    at false e = refl
quiet_address g t byte ReadId n l m ne id row = cc
quiet_address g t byte ReadParameterPage n l m ne id row = cc
quiet_address g t byte ReadUniqueId n l m ne id row = cc
quiet_address g t byte GetFeatures n l m ne id row = cc
quiet_address g t byte c n l m ne id row = refl

-- a chain of rules that answers none has passed its first rule
pub first_passed : (b : Bool) (f : Forbidden) (x : Option Forbidden) → cond b (Some f) x ≡ None → (b ≡ false) × (x ≡ None)
first_passed true f x h = cc
first_passed false f x h = (refl, h)

pub permitted_none : (g : Parts) (n : ℕ) (past : List Item) (i : Item) → is_permitted g n past i ≡ true → broken g n past i ≡ None
permitted_none g n past i h = at (broken g n past i) h
  where
    at : (r : Option Forbidden) → is_none r ≡ true → r ≡ None
    at None h = refl
    at (Some f) h = cc

-- a permitted cycle keeps F4
pub keeps_several_luns : (g : Parts) (n : ℕ) (past : List Item) (c : Cycle) → broken g n past (Cyc c) ≡ None → breaks_several_luns g (luns_of g past c.ce) (target_cycle c.kind c.byte) ≡ false
keeps_several_luns g n past c h =
    let cycle = target_cycle c.kind c.byte in
    let t = facts_of (tail past c.ce) in
    let luns = luns_of g past c.ce in
    let after_1 = first_passed (breaks_not_there n luns (Cyc c)) Forbidden.NotThere (judge_cycle g t luns cycle) h in
    let after_2 = first_passed (breaks_command_unknown g cycle) Forbidden.CommandUnknown _ after_1.1 in
    let after_3 = first_passed (breaks_sequence_open g t cycle) Forbidden.SequenceOpen _ after_2.1 in
    (first_passed (breaks_several_luns g luns cycle) Forbidden.SeveralLuns _ after_3.1).0

-- an opener other than those that read or set what stands beside the array
abbrev is_other_opening : Option Opening → Bool
is_other_opening o = not (opened (λ c n. reads_identity c) o)

other_with_more : (o : Option Opening) → is_other_opening o ≡ true → is_other_opening (one_address_more o) ≡ true
other_with_more None h = refl
other_with_more (Some o) h = h

pub chosen_else : (b x y : Bool) → cond b x y ≡ false → b ≡ false → y ≡ false
chosen_else true x y h e = cc
chosen_else false x y h e = h

-- on a target with several LUNs no tail begins with one of these, but in the wider profile
other_with_cycle : (g : Parts) (luns : List LunView) (cycle : TargetCycle) (t : List TargetCycle) → is_shared g ≡ false → ltb 1 g.luns ≡ true → breaks_several_luns g luns cycle ≡ false → is_other_opening (opening t) ≡ true → is_other_opening (opening (with_cycle cycle t)) ≡ true
unfolding breaks_several_luns
other_with_cycle g luns (CommandCycle c) t narrow several f4 h = at c t (chosen_else (is_shared g) _ _ f4 narrow)
  where
    at : (c : Command) (t : List TargetCycle) → (wants_one_lun c && ltb 1 g.luns) ≡ false → is_other_opening (opening (with_cycle (CommandCycle c) t)) ≡ true
    at ReadId t f4 = absurd (clash _ several f4)
    at ReadParameterPage t f4 = absurd (clash _ several f4)
    at ReadUniqueId t f4 = absurd (clash _ several f4)
    at GetFeatures t f4 = absurd (clash _ several f4)
    at SetFeatures t f4 = absurd (clash _ several f4)
    at ReadCacheSequential (d ∷ t) f4 = of (wants_command (facts_of (d ∷ t)) ReadCacheSequential)
      where
        of : (w : Bool) → is_other_opening (opening (cond (not w) (CommandCycle ReadCacheSequential ∷ []) (CommandCycle ReadCacheSequential ∷ (d ∷ t)))) ≡ true
        of true = refl
        of false = refl
    at ChangeWriteColumn (d ∷ t) f4 = of (wants_command (facts_of (d ∷ t)) ChangeWriteColumn)
      where
        of : (w : Bool) → is_other_opening (opening (cond (not w) (CommandCycle ChangeWriteColumn ∷ []) (CommandCycle ChangeWriteColumn ∷ (d ∷ t)))) ≡ true
        of true = refl
        of false = refl
    at c [] f4 = refl
    at c (d ∷ t) f4 = refl
other_with_cycle g luns (AddressCycle byte) [] narrow several f4 h = refl
other_with_cycle g luns (AddressCycle byte) (d ∷ t) narrow several f4 h = other_with_more (opening (d ∷ t)) h
other_with_cycle g luns (InputCycle byte) [] narrow several f4 h = refl
other_with_cycle g luns (InputCycle byte) (d ∷ t) narrow several f4 h = refl
other_with_cycle g luns OutputCycle [] narrow several f4 h = refl
other_with_cycle g luns OutputCycle (d ∷ t) narrow several f4 h = refl

-- and none is in the bytes of a Set Features

no_features_by_command : (c : Command) (p : DataPhase) → takes_features (phase_after_command c p) ≡ false
no_features_by_command ChangeWriteColumn Inputs = refl
no_features_by_command ChangeWriteColumn _ = refl
no_features_by_command _ p = refl

set_is_identity : (c : Command) → not (reads_identity c) ≡ true → is_set_features c ≡ false
set_is_identity SetFeatures h = cc
set_is_identity _ h = refl

no_features_at_last : (o : Option Opening) → is_other_opening o ≡ true → takes_features (phase_after_last_address o) ≡ false
no_features_at_last None h = refl
no_features_at_last (Some o) h = rw (set_is_identity o.opener h) (at (begins_data o.opener && o.addresses == 4))
  where
    at : (b : Bool) → takes_features (cond b Inputs Outside) ≡ false
    at true = refl
    at false = refl

no_features_by_address : (o : Option Opening) (p : DataPhase) → is_other_opening o ≡ true → takes_features (phase_after_address o p) ≡ false
no_features_by_address o Outside h = no_features_at_last o h
no_features_by_address o Inputs h = refl
no_features_by_address o FirstColumn h = refl
no_features_by_address o SecondColumn h = refl
no_features_by_address o FeatureInputs h = refl

no_features_by_input : (n : ℕ) (p : DataPhase) → takes_features p ≡ false → takes_features (phase_after_input n p) ≡ false
no_features_by_input n Outside h = refl
no_features_by_input n Inputs h = refl
no_features_by_input n FirstColumn h = refl
no_features_by_input n SecondColumn h = refl
no_features_by_input n FeatureInputs h = cc

no_features_with : (cycle : TargetCycle) (t : List TargetCycle) → is_other_opening (opening t) ≡ true → takes_features (data_phase t) ≡ false → takes_features (data_phase (with_cycle cycle t)) ≡ false
no_features_with (CommandCycle c) t o h = at (begins_anew (facts_of t) (CommandCycle c)) t
  where
    at : (b : Bool) (t : List TargetCycle) → takes_features (data_phase (cond b (CommandCycle c ∷ []) (continued (CommandCycle c) t))) ≡ false
    at true t = no_features_by_command c Outside
    at false [] = refl
    at false (d ∷ t) = no_features_by_command c (data_phase (d ∷ t))
no_features_with (AddressCycle byte) [] o h = refl
no_features_with (AddressCycle byte) (d ∷ t) o h = no_features_by_address (opening (d ∷ t)) (data_phase (d ∷ t)) o
no_features_with (InputCycle byte) [] o h = refl
no_features_with (InputCycle byte) (d ∷ t) o h = no_features_by_input (inputs (d ∷ t)) (data_phase (d ∷ t)) h
no_features_with OutputCycle [] o h = refl
no_features_with OutputCycle (d ∷ t) o h = refl

-- a tail of a target with several LUNs
pub record IsOther (t : List TargetCycle) : Type 0 where
  pub opens : is_other_opening (opening t) ≡ true
  pub no_features : takes_features (data_phase t) ≡ false

pub other_openings : (g : Parts) (n : ℕ) (past : List Item) (ce : ℕ) → is_shared g ≡ false → ltb 1 g.luns ≡ true → is_legal g n past ≡ true → IsOther (tail past ce)
other_openings g n [] ce narrow several h = record { opens = refl; no_features = refl }
other_openings g n (Cyc c ∷ past) ce narrow several h =
    let legal = both_true (is_permitted g n past (Cyc c)) (is_legal g n past) h in
    let before = other_openings g n past ce narrow several legal.1 in
    let f4 = keeps_several_luns g n past c (permitted_none g n past (Cyc c) legal.0) in
    at (c.ce == ce) before f4
  where
    at : (b : Bool) → IsOther (tail past ce) → breaks_several_luns g (luns_of g past c.ce) (target_cycle c.kind c.byte) ≡ false → IsOther (cond b (with_cycle (target_cycle c.kind c.byte) (tail past ce)) (tail past ce))
    at true before f4 =
        record {
          opens = other_with_cycle g (luns_of g past c.ce) (target_cycle c.kind c.byte) (tail past ce) narrow several f4 before.opens;
          no_features = no_features_with (target_cycle c.kind c.byte) (tail past ce) before.opens before.no_features;
        }
    at false before f4 = before
other_openings g n (Rdy a b f ∷ past) ce narrow several h = other_openings g n past ce narrow several (both_true (is_permitted g n past (Rdy a b f)) (is_legal g n past) h).1
other_openings g n (Ard a b f ∷ past) ce narrow several h = other_openings g n past ce narrow several (both_true (is_permitted g n past (Ard a b f)) (is_legal g n past) h).1

-- the one driver is one
only_one : (ds : List ℕ) (l m : ℕ) → l ≢ m → is_only ds m ≡ true → is_only ds l ≡ false
only_one [] l m ne h = cc
only_one (x ∷ []) l m ne h = not_both x l m ne h
only_one (x ∷ (y ∷ ds)) l m ne h = cc

-- another LUN than the one driver shows nothing
shows_nothing : (g : Parts) (past : List Item) (l m : Lun) → l.ce ≡ m.ce → l.lun ≢ m.lun → is_only (drivers g past m.ce) m.lun ≡ true → latch_alone g past l ≡ Off
shows_nothing g past l m ce ne h =
    let only : is_only (drivers g past l.ce) m.lun ≡ true = rw ce h in
    rw (only_one (drivers g past l.ce) l.lun m.lun ne only) refl

and_false_left : (a b : Bool) → b ≡ true → (a && b) ≡ false → a ≡ false
and_false_left true b h e = cc
and_false_left false b h e = refl

chosen_true : (b x y : Bool) → cond b x y ≡ true → b ≡ true → x ≡ true
chosen_true true x y h e = h
chosen_true false x y h e = cc

chosen_false : (b x y : Bool) → cond b x y ≡ true → b ≡ false → y ≡ true
chosen_false true x y h e = cc
chosen_false false x y h e = h

-- of two that don't go together, one is false
unserved : (a b : Bool) → not (a && b) ≡ true → a ≡ true → b ≡ false
unserved true true h e = cc
unserved true false h e = refl
unserved false b h e = cc

-- a cycle of another LUN
quiet_cycle : (g : Parts) (past : List Item) (luns : List LunView) (ce l m : ℕ) (cycle : TargetCycle) → l ≢ m → ltb 1 g.luns ≡ true → breaks_several_luns g luns cycle ≡ false → (is_shared g ≡ false → IsOther (tail past ce)) → keeps_to g past (record { ce = ce; lun = m }) cycle ≡ true → is_quiet (cycle_effect g (facts_of (tail past ce)) (latch_alone g past (record { ce = ce; lun = l })) cycle l) ≡ true
unfolding breaks_several_luns
quiet_cycle g past luns ce l m (CommandCycle c) ne several f4 other keep =
    let kept = both_true (not (is_shared g && is_of_target c)) (keeps_to_lun g past (record { ce = ce; lun = m }) (CommandCycle c)) keep in
    quiet_command g (facts_of (tail past ce)) (latch_alone g past (record { ce = ce; lun = l })) c l m ne
    (record {
      one = λ e. and_false_left (wants_one_lun c) (ltb 1 g.luns) several (chosen_else (is_shared g) _ _ f4 e);
      target = unserved (is_shared g) (is_of_target c) kept.0;
    })
    (chosen_true (works_on_row (facts_of (tail past ce)) c) _ _ kept.1)
    (λ h e. shows_nothing g past (record { ce = ce; lun = l }) (record { ce = ce; lun = m }) refl ne
    (chosen_true (needs_driver c) _ _ (chosen_false (works_on_row (facts_of (tail past ce)) c) _ _ kept.1 e) h))
quiet_cycle g past luns ce l m (AddressCycle byte) ne several f4 other keep = at (opening (tail past ce)) opens kept.1
  where
    kept : (not (is_shared g && opened (λ c n. reads_identity c) (opening (tail past ce))) ≡ true) × (keeps_to_lun g past (record { ce = ce; lun = m }) (AddressCycle byte) ≡ true)
    kept = both_true (not (is_shared g && opened (λ c n. reads_identity c) (opening (tail past ce)))) (keeps_to_lun g past (record { ce = ce; lun = m }) (AddressCycle byte)) keep

    opens : is_other_opening (opening (tail past ce)) ≡ true
    opens = by_case (is_shared g) (λ e. ap not (unserved (is_shared g) _ kept.0 e)) (λ e. (other e).opens)

    at : (o : Option Opening) → is_other_opening o ≡ true → cond (opened (λ c n. true && at_last_row c n) o) (names_lun g (row_with (facts_of (tail past ce)) byte) m) true ≡ true → is_quiet (opening_address_effect g (facts_of (tail past ce)) byte o l) ≡ true
    at None other keep = refl
    at (Some o) other keep =
        quiet_address g (facts_of (tail past ce)) byte o.opener o.addresses l m ne (not-true (reads_identity o.opener) other)
        (λ e. chosen_true (at_last_row o.opener o.addresses) _ _ keep e)
quiet_cycle g past luns ce l m (InputCycle byte) ne several f4 other keep = rw none refl
  where
    none : takes_features (data_phase (tail past ce)) ≡ false
    none = by_case (is_shared g) (unserved (is_shared g) _ (both_true (not (is_shared g && takes_features (data_phase (tail past ce)))) true keep).0) (λ e. (other e).no_features)
quiet_cycle g past luns ce l m OutputCycle ne several f4 other keep =
    rw (shows_nothing g past (record { ce = ce; lun = l }) (record { ce = ce; lun = m }) refl ne (both_true (not (is_shared g && false)) _ keep).1) refl

-- a ready of another LUN
quiet_ready : (a b c : Bool) (x : Effect) → (a && b) ≡ true → (b ≡ true → c ≡ false) → is_quiet (cond (a && c) x Unaffected) ≡ true
quiet_ready a b c x h differs = quiet_named a c x Unaffected (differs (both_true a b h).1) refl

-- an item of another LUN of the target
quiet_item : (g : Parts) (n : ℕ) (past : List Item) (i : Item) (ce l m : ℕ) → is_legal g n past ≡ true → broken g n past i ≡ None → is_of g past (record { ce = ce; lun = m }) i ≡ true → l ≢ m → ltb 1 g.luns ≡ true → is_quiet (effect_on g past i (record { ce = ce; lun = l })) ≡ true
unfolding effect_among
quiet_item g n past (Cyc c) ce l m legal h of ne several =
    quiet_choice (c.ce == ce) _ Unaffected
    (quiet_cycle g past (luns_of g past c.ce) ce l m (target_cycle c.kind c.byte) ne several (keeps_several_luns g n past c h) (λ e. other_openings g n past ce e several legal) (both_true (c.ce == ce) _ of).1)
    refl
quiet_item g n past (Rdy a b f) ce l m legal h of ne several = quiet_ready (a == ce) (b == m) (b == l) (BecameReady f) of (not_both b l m ne)
quiet_item g n past (Ard a b f) ce l m legal h of ne several = quiet_ready (a == ce) (b == m) (b == l) (ArrayBecameReady f) of (not_both b l m ne)

-- two LUNs are several
several_of : (a b n : ℕ) → a ≢ b → a < n → b < n → ltb 1 n ≡ true
several_of a b n ne ha hb = grind (arith, nat_tests)

pub others_keep : OthersKeep
others_keep g n past i l m legal h of ce ne lin min =
    let of_here : is_of g past (record { ce = l.ce; lun = m.lun }) i ≡ true = rw ce of in
    keeps_quiet g past i l
    (quiet_item g n past i l.ce l.lun m.lun legal h of_here ne (several_of l.lun m.lun g.luns ne lin min))

eq_false : (a b : ℕ) → a ≢ b → (a == b) ≡ false
eq_false a b ne = grind (arith, nat_tests)

-- elsewhere an item does nothing
pub rests_elsewhere : (g : Parts) (past : List Item) (s : Latch) (i : Item) (l : Lun) → target_of i ≢ l.ce → effect_given g past s i l ≡ Unaffected
rests_elsewhere g past s (Cyc c) l ne = rw (eq_false c.ce l.ce ne) refl
rests_elsewhere g past s (Rdy a b f) l ne = rw (eq_false a l.ce ne) refl
rests_elsewhere g past s (Ard a b f) l ne = rw (eq_false a l.ce ne) refl

tail_elsewhere : (past : List Item) (i : Item) (ce : ℕ) → target_of i ≢ ce → tail (i ∷ past) ce ≡ tail past ce
tail_elsewhere past (Cyc c) ce ne = rw (eq_false c.ce ce ne) refl
tail_elsewhere past (Rdy a b f) ce ne = refl
tail_elsewhere past (Ard a b f) ce ne = refl

pub targets_keep : TargetsKeep
unfolding effect_among
targets_keep g past i ce ne =
    record {
      tail = tail_elsewhere past i ce ne;
      latch = λ lun. ap (λ (a : Effect). shown_after a (lun_view g past (record { ce = ce; lun = lun }))) (rests_elsewhere g past _ i (record { ce = ce; lun = lun }) ne);
      column = λ lun. ap (λ (a : Effect). read_column_after a (read_column g past (record { ce = ce; lun = lun }))) (rests_elsewhere g past _ i (record { ce = ce; lun = lun }) ne);
      luns = λ lun. keeps_quiet g past i (record { ce = ce; lun = lun }) (rw (rests_elsewhere g past (latch_alone g past (record { ce = ce; lun = lun })) i (record { ce = ce; lun = lun }) ne) refl);
    }
