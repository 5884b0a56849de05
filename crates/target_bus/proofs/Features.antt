-- The inputs of a Set Features: the last of its four bytes sets the feature, and none before it does anything.
use Rattle.std.proofs.Common.{◌≡◌, ℕ, ◌+◌, ◌-◌, ◌%◌, ◌<◌, ◌==◌, Bool, true, false, ◌&&◌, ◌||◌, cond, ltb, eq-eqb, eqb-true, not, List, [], ◌∷◌, Option, Some, None, refl, sym, ap, subst, ◌∙◌, arith, length, length-set, set}
use Rattle.std.proofs.lemmas.Bool.{not-false, or_from, or_right, and_parts}
use Rattle.std.proofs.lemmas.Bool.Decides.{nat_tests}
use Rattle.std.specs.List.{slice_get}
use Rattle.nand_geometry.specs.declared.parts.Parts.{Parts}
use Rattle.onfi_cycle.specs.declared.data_phase.DataPhase.{DataPhase}
use Rattle.onfi_cycle.specs.declared.data_phase.DataPhase.TheVariants.{Outside, Inputs, FirstColumn, SecondColumn, FeatureInputs}
use Rattle.onfi_cycle.specs.declared.effect.Effect.{Effect}
use Rattle.onfi_cycle.specs.declared.effect.Effect.TheVariants.{Unaffected, Deselected, FeaturesSet}
use Rattle.onfi_cycle.specs.declared.filling.Filling.TheVariants.{Leaves}
use Rattle.onfi_cycle.specs.declared.item.Item.{Item}
use Rattle.onfi_cycle.specs.declared.item.Kind.TheVariants.{Din}
use Rattle.onfi_cycle.specs.declared.lun.Lun.{Lun}
use Rattle.onfi_cycle.specs.declared.tail_facts.TailFacts.{TailFacts}
use Rattle.onfi_cycle.specs.declared.target_cycle.TargetCycle.TheVariants.{InputCycle}
use Rattle.onfi_cycle.specs.Sequence.{extended_facts, takes_data, takes_features, takes_inputs, phase_after_input}
use Rattle.onfi_cycle.specs.Effect.{is_shared, of_target, input_effect, ends_features}
use Rattle.onfi_cycle.specs.Filling.{filling, cycle_filling}
use Rattle.onfi_cycle.specs.Lun.{effect_on, lun_view, effect_among, held}
use Rattle.onfi_cycle.specs.Rules.{breaks_input_misplaced}
use Rattle.onfi_cycle.specs.Permitted.{broken}
use Rattle.onfi_cycle.specs.Channel.{cycle}
use Rattle.onfi_cycle.specs.State.{BusView, Follows, judged, bus_after, target_view}
use Rattle.onfi_cycle.specs.Bounds.{BusFits}
use Rattle.onfi_cycle.specs.Inputs.{with_inputs, judged_inputs, after_inputs}
use Rattle.onfi_cycle.specs.Working.{fills, begins, IsLun, FactsFit}
use Rattle.onfi_cycle.proofs.Passed.{permitted_keeps}
use Rattle.onfi_cycle.proofs.Runs.{Splits, splits, cycle_judged, first_permitted}
use Rattle.onfi_cycle.proofs.Booleans.{clash}
use Rattle.onfi_cycle.proofs.Inputs.{inputs_are_data}
use Rattle.onfi_cycle.proofs.Working.{facts_fit, target_fits_at}
use Rattle.onfi_cycle.proofs.Following.{found_target}
use Rattle.die_model.specs.Die.{Die}
use Rattle.die_model.specs.Standing.{IsDieOf, WorkedBy, CanWork}
use Rattle.target_bus.specs.declared.working.Worked.{Worked}
use Rattle.target_bus.specs.Bus.{Entries, channel_on, number_of, numbered, lun_at, feature_set, FindsWork, IsStanding}
use Rattle.target_bus.proofs.Inputs.{facts, facts_more, one_followed, one_permitted, one_idle, inputs_there}
use Rattle.target_bus.proofs.Numbers.{numbered_number}
use Rattle.target_bus.proofs.Standing.{SameDie, can_begin, input_of_one, one_works, stands_on, cycle_there, die_there}

abbrev input : ℕ → ℕ → Item
input ce byte = cycle ce Din byte

-- 1. an input where no program takes data

effect_is : (g : Parts) (past : List Item) (ce byte lun : ℕ) → effect_on g past (input ce byte) (lun_at ce lun) ≡ input_effect g (facts past ce) lun
unfolding effect_among
effect_is g past ce byte lun = ap (λ (b : Bool). cond b (input_effect g (facts past ce) lun) Unaffected) (eq-eqb ce ce refl)

filling_is : (g : Parts) (past : List Item) (ce byte lun : ℕ) → takes_data (facts past ce).phase ≡ false → filling g (facts past ce) (input ce byte) (lun_at ce lun) (held g past (lun_at ce lun)) ≡ Leaves
filling_is g past ce byte lun none =
    ap (λ (b : Bool). cond b (cycle_filling g (facts past ce) (InputCycle byte) lun (held g past (lun_at ce lun))) Leaves) (eq-eqb ce ce refl) ∙ rw none refl

-- it works on no LUN, if it isn't the last byte of a feature
rests : (g : Parts) (past : List Item) (ce byte : ℕ) → takes_data (facts past ce).phase ≡ false → ends_features (facts past ce) ≡ false → FindsWork g past (input ce byte) ce 0 None
rests g past ce byte none before = λ m least low.
    or_from _ _ (ap fills (filling_is g past ce byte m none))
    (ap begins (effect_is g past ce byte m ∙ ap (λ (b : Bool). cond b (of_target g m (FeaturesSet ((facts past ce).column % 256))) Unaffected) before))

-- what waits for more bytes of a feature takes no data
no_data : (p : DataPhase) → takes_features p ≡ true → takes_data p ≡ false
no_data Outside h = cc
no_data Inputs h = cc
no_data FirstColumn h = cc
no_data SecondColumn h = cc
no_data FeatureInputs h = refl

takes_here : (g : Parts) (n : ℕ) (past : List Item) (ce byte : ℕ) → broken g n past (input ce byte) ≡ None → takes_inputs (facts past ce).phase ≡ true
unfolding breaks_input_misplaced
takes_here g n past ce byte h = not-false _ (permitted_keeps g n past (record { ce = ce; kind = Din; byte = byte }) h).f11

-- a permitted input where no data is taken is one of a feature
is_feature : (g : Parts) (n : ℕ) (past : List Item) (ce byte : ℕ) → broken g n past (input ce byte) ≡ None → takes_data (facts past ce).phase ≡ false → takes_features (facts past ce).phase ≡ true
is_feature g n past ce byte h none = other _ _ none (takes_here g n past ce byte h)
  where
    other : (a b : Bool) → a ≡ false → (a || b) ≡ true → b ≡ true
    other true b e h = cc
    other false b e h = h

-- 2. the bytes that are still to come

-- how many bytes came before, and which feature it is
pub record Waits (t : TailFacts) (count address : ℕ) : Type 0 where
  pub takes : takes_features t.phase ≡ true
  pub inputs : t.inputs ≡ count
  pub feature : t.column % 256 ≡ address

before_last : (t : TailFacts) (count address : ℕ) → Waits t count address → count < 3 → ends_features t ≡ false
before_last t count address w low =
    let is = w.inputs in
    let no : (t.inputs == 3) ≡ false = grind (arith, nat_tests) in
    ap (λ (b : Bool). takes_features t.phase && b) no ∙ never (takes_features t.phase)
  where
    never : (b : Bool) → (b && false) ≡ false
    never true = refl
    never false = refl

at_last : (t : TailFacts) (address : ℕ) → Waits t 3 address → ends_features t ≡ true
at_last t address w = rw (w.takes, eq-eqb t.inputs 3 w.inputs) refl

phase_next : (p : DataPhase) (k : ℕ) → takes_features p ≡ true → k < 3 → takes_features (phase_after_input k p) ≡ true
phase_next Outside k h low = cc
phase_next Inputs k h low = cc
phase_next FirstColumn k h low = cc
phase_next SecondColumn k h low = cc
phase_next FeatureInputs k h low = let yes : ltb k 3 ≡ true = grind (arith, nat_tests) in rw yes refl

phase_last : (p : DataPhase) (k : ℕ) → takes_features p ≡ true → k ≡ 3 → takes_inputs (phase_after_input k p) ≡ false
phase_last Outside k h e = cc
phase_last Inputs k h e = cc
phase_last FirstColumn k h e = cc
phase_last SecondColumn k h e = cc
phase_last FeatureInputs k h e = rw e refl

next_facts : (past : List Item) (ce byte count address : ℕ) → Waits (facts past ce) count address → facts (input ce byte ∷ past) ce ≡ extended_facts (InputCycle byte) (facts past ce)
next_facts past ce byte count address w = facts_more past ce byte (or_right (takes_data (facts past ce).phase) _ w.takes)

waits_next : (past : List Item) (ce byte count address : ℕ) → Waits (facts past ce) count address → count < 3 → Waits (facts (input ce byte ∷ past) ce) (count + 1) address
waits_next past ce byte count address w low =
    let t = facts past ce in
    let is = w.inputs in
    subst (λ (u : TailFacts). Waits u (count + 1) address) (sym (next_facts past ce byte count address w))
    (record { takes = phase_next t.phase t.inputs w.takes (omega (arith, is, low)); inputs = omega (arith, is); feature = w.feature })

closed_next : (past : List Item) (ce byte address : ℕ) → Waits (facts past ce) 3 address → takes_inputs (facts (input ce byte ∷ past) ce).phase ≡ false
closed_next past ce byte address w = ap (λ (u : TailFacts). takes_inputs u.phase) (next_facts past ce byte 3 address w) ∙ phase_last (facts past ce).phase (facts past ce).inputs w.takes w.inputs

-- 3. one of them

one_waits : (s : BusView) (opened : List Entries) (dies : List Die) (past : List Item) (ce byte count address : ℕ) → IsStanding s opened dies past → BusFits s → judged s (input ce 0) ≡ None → Waits (facts past ce) count address → count < 3 → IsStanding (bus_after (input ce 0) s) opened dies (input ce byte ∷ past)
one_waits s opened dies past ce byte count address f fits h w low =
    one_idle s opened dies past ce byte f fits h (rests s.geometry past ce byte (no_data (facts past ce).phase w.takes) (before_last (facts past ce) count address w low))

-- the first LUN acts for its target
first_acts : (g : Parts) (x : Effect) → of_target g 0 x ≡ x
first_acts g x = by (is_shared g)
  where
    by : (b : Bool) → cond (not b || true) x Deselected ≡ x
    by true = refl
    by false = refl

abbrev sets : ℕ → Worked
sets address = record { lun = 0; filling = Leaves; effect = FeaturesSet address }

one_sets : (s : BusView) (opened : List Entries) (dies : List Die) (past : List Item) (ce byte address k : ℕ) (old new : Die) → IsStanding s opened dies past → BusFits s → judged s (input ce 0) ≡ None → Waits (facts past ce) 3 address → k ≡ number_of s.geometry (lun_at ce 0) → slice_get dies k ≡ Some old → WorkedBy old.geometry Leaves (FeaturesSet address) old new → IsStanding (bus_after (input ce 0) s) opened (set dies k new) (input ce byte ∷ past)
one_sets s opened dies past ce byte address k old new f fits h w place found worked =
    let permitted = one_permitted s past ce byte h f.follows in
    let some = f.limits.luns_least in
    let effect : FeaturesSet address ≡ effect_on s.geometry past (input ce byte) (lun_at ce 0) =
    ap FeaturesSet (sym w.feature) ∙ sym (effect_is s.geometry past ce byte 0 ∙ (ap (λ (b : Bool). cond b (of_target s.geometry 0 (FeaturesSet ((facts past ce).column % 256))) Unaffected) (at_last (facts past ce) address w) ∙ first_acts s.geometry (FeaturesSet ((facts past ce).column % 256)))) in
    stands_on s (bus_after (input ce 0) s) opened dies (set dies k new) past (input ce byte) f (one_followed s past ce byte h f.follows) (length-set dies k new)
    (one_works s opened dies past (record { ce = ce; kind = Din; byte = byte }) (sets address) k old new f permitted (facts_fit s.geometry (length s.targets) s past fits f.follows)
    (input_of_one s.geometry (record { ce = ce; kind = Din; byte = byte }) refl)
    (cycle_there s.geometry (length s.targets) past (record { ce = ce; kind = Din; byte = byte }) permitted)
    (record {
      lun = omega (arith, some);
      filling_is = sym (filling_is s.geometry past ce byte 0 (no_data (facts past ce).phase w.takes));
      effect_is = effect;
      works = or_right _ _ (ap begins (sym effect));
    })
    place found worked)

-- 4. a run of them

-- behind the last byte no input is permitted
no_more : (s : BusView) (past : List Item) (ce byte address : ℕ) → Follows s.geometry (length s.targets) s past → judged s (input ce 0) ≡ None → judged (bus_after (input ce 0) s) (input ce 0) ≡ None → Waits (facts past ce) 3 address → ⊥
no_more s past ce byte address f h second w =
    let follows = one_followed s past ce byte h f in
    let permitted : broken s.geometry (length s.targets) (input ce byte ∷ past) (input ce 0) ≡ None = sym (cycle_judged Din inputs_are_data s.geometry (length s.targets) (bus_after (input ce 0) s) (input ce byte ∷ past) ce 0 follows) ∙ second in
    clash (takes_inputs (facts (input ce byte ∷ past) ce).phase) (takes_here s.geometry (length s.targets) (input ce byte ∷ past) ce 0 permitted) (closed_next past ce byte address w)

-- none of these bytes is the last one
pub run_waits : (ce : ℕ) (bytes : List ℕ) (count address : ℕ) (s : BusView) (opened : List Entries) (dies : List Die) (past : List Item) → IsStanding s opened dies past → BusFits s → judged_inputs ce (length bytes) s ≡ None → Waits (facts past ce) count address → count < 4 → (count + length bytes == 4) ≡ false → IsStanding (after_inputs ce (length bytes) s) opened dies (with_inputs ce bytes past)
run_waits ce [] count address s opened dies past f fits h w low other = f
run_waits ce (byte ∷ []) count address s opened dies past f fits h w low other =
    let less : count < 3 = grind (arith, nat_tests) in
    one_waits s opened dies past ce byte count address f fits (splits Din ce 0 s h).first w less
run_waits ce (byte ∷ (next ∷ more)) count address s opened dies past f fits h w low other =
    at (count == 3) refl
    (λ less. run_waits ce (next ∷ more) (count + 1) address (bus_after (input ce 0) s) opened dies (input ce byte ∷ past) (one_waits s opened dies past ce byte count address f fits parts.first w less) (inputs_are_data.fits s ce parts.first fits) parts.rest
    (waits_next past ce byte count address w less) (omega (arith, less)) still)
  where
    parts : Splits Din ce (length (next ∷ more)) s
    parts = splits Din ce (length (next ∷ more)) s h

    still : (count + 1 + length (next ∷ more) == 4) ≡ false
    still = let same : count + 1 + length (next ∷ more) ≡ count + length (byte ∷ (next ∷ more)) = omega arith in ap (λ (n : ℕ). n == 4) same ∙ other

    at : (b : Bool) → (count == 3) ≡ b → (count < 3 → IsStanding (after_inputs ce (length (byte ∷ (next ∷ more))) s) opened dies (with_inputs ce (byte ∷ (next ∷ more)) past)) → IsStanding (after_inputs ce (length (byte ∷ (next ∷ more))) s) opened dies (with_inputs ce (byte ∷ (next ∷ more)) past)
    at true e rest =
        let second = splits Din ce (length more) (bus_after (input ce 0) s) parts.rest in
        absurd (no_more s past ce byte address f.follows parts.first second.first (subst (λ (n : ℕ). Waits (facts past ce) n address) (eqb-true count 3 e) w))
    at false e rest = rest (grind (arith, nat_tests))

-- the last of these bytes is the last one
pub run_sets : (ce : ℕ) (bytes : List ℕ) (count address k : ℕ) (s : BusView) (opened : List Entries) (dies : List Die) (past : List Item) (old new : Die) → IsStanding s opened dies past → BusFits s → judged_inputs ce (length bytes) s ≡ None → Waits (facts past ce) count address → count < 4 → count + length bytes ≡ 4 → k ≡ number_of s.geometry (lun_at ce 0) → slice_get dies k ≡ Some old → WorkedBy old.geometry Leaves (FeaturesSet address) old new → IsStanding (after_inputs ce (length bytes) s) opened (set dies k new) (with_inputs ce bytes past)
run_sets ce [] count address k s opened dies past old new f fits h w low all place found worked = absurd (omega (arith, low, all))
run_sets ce (byte ∷ []) count address k s opened dies past old new f fits h w low all place found worked =
    let last : count ≡ 3 = omega (arith, all) in
    one_sets s opened dies past ce byte address k old new f fits (splits Din ce 0 s h).first (subst (λ (n : ℕ). Waits (facts past ce) n address) last w) place found worked
run_sets ce (byte ∷ (next ∷ more)) count address k s opened dies past old new f fits h w low all place found worked =
    let parts = splits Din ce (length (next ∷ more)) s h in
    let less : count < 3 = omega (arith, all) in
    run_sets ce (next ∷ more) (count + 1) address k (bus_after (input ce 0) s) opened dies (input ce byte ∷ past) old new (one_waits s opened dies past ce byte count address f fits parts.first w less) (inputs_are_data.fits s ce parts.first fits) parts.rest
    (waits_next past ce byte count address w less) (omega (arith, less)) (omega (arith, all)) place found worked

-- 5. as the code finds it

record Sets (t : TailFacts) (count address : ℕ) : Type 0 where
  takes : takes_features t.phase ≡ true
  low : t.inputs < 4
  all : t.inputs + count ≡ 4
  feature : t.column % 256 ≡ address

is_set : (t : TailFacts) (count address : ℕ) → feature_set t count ≡ Some address → Sets t count address
is_set t count address h = at (takes_features t.phase && (ltb t.inputs 4 && count == 4 - t.inputs)) refl h
  where
    at : (b : Bool) → (takes_features t.phase && (ltb t.inputs 4 && count == 4 - t.inputs)) ≡ b → cond b (Some (t.column % 256)) None ≡ Some address → Sets t count address
    at false e h = cc
    at true e h =
        let parts = and_parts (takes_features t.phase) _ e in
        let numbers = and_parts (ltb t.inputs 4) (count == 4 - t.inputs) parts.1 in
        let low : t.inputs < 4 = grind (arith, nat_tests, numbers.0) in
        let rest = eqb-true count (4 - t.inputs) numbers.1 in
        record { takes = parts.0; low = low; all = omega (arith, low, rest); feature = cc }

not_set : (t : TailFacts) (count : ℕ) → feature_set t count ≡ None → takes_features t.phase ≡ true → t.inputs < 4 → (t.inputs + count == 4) ≡ false
not_set t count h takes low = at (t.inputs + count == 4) refl
  where
    at : (b : Bool) → (t.inputs + count == 4) ≡ b → b ≡ false
    at false e = refl
    at true e =
        let small : ltb t.inputs 4 ≡ true = grind (arith, nat_tests) in
        let rest : (count == 4 - t.inputs) ≡ true = eq-eqb count (4 - t.inputs) (let all = eqb-true (t.inputs + count) 4 e in omega (arith, all, low)) in
        let some : Some (t.column % 256) ≡ None = sym (rw (takes, small, rest) refl) ∙ h in
        cc

-- a target that isn't in the data of a program, whatever its state stands for
abbrev pub NoData : BusView → ℕ → Type 0
NoData state ce = (g : Parts) (n : ℕ) (past : List Item) → Follows g n state past → ce < n → takes_data (facts past ce).phase ≡ false

-- what was found of the feature
abbrev pub FindsFeature : BusView → (ce count : ℕ) → Option ℕ → Type 0
FindsFeature state ce count o = (g : Parts) (n : ℕ) (past : List Item) → Follows g n state past → ce < n → o ≡ feature_set (facts past ce) count

-- a Set Features waits for fewer than all of its bytes
waits_few : (s : BusView) (opened : List Entries) (dies : List Die) (past : List Item) (ce count : ℕ) → IsStanding s opened dies past → BusFits s → 0 < count → judged_inputs ce count s ≡ None → takes_features (facts past ce).phase ≡ true → (facts past ce).inputs < 4
waits_few s opened dies past ce count f fits some h takes =
    (target_fits_at s.geometry s.targets ce (target_view s.geometry past ce) fits.targets (found_target s.geometry (length s.targets) s past ce f.follows (inputs_there s ce count some h))).tail.features takes

-- such a run takes features alone
of_features : (s : BusView) (opened : List Entries) (dies : List Die) (past : List Item) (ce count : ℕ) → IsStanding s opened dies past → 0 < count → judged_inputs ce count s ≡ None → NoData s ce → takes_features (facts past ce).phase ≡ true
of_features s opened dies past ce count f some h none =
    is_feature s.geometry (length s.targets) past ce 0 (one_permitted s past ce 0 (first_permitted Din s ce count some h) f.follows) (none s.geometry (length s.targets) past f.follows (inputs_there s ce count some h))

pub stands_waiting : (s : BusView) (opened : List Entries) (dies : List Die) (past : List Item) (ce count : ℕ) (bytes : List ℕ) (o : Option ℕ) → IsStanding s opened dies past → BusFits s → 0 < count → length bytes ≡ count → judged_inputs ce (length bytes) s ≡ None → NoData s ce → FindsFeature s ce count o → o ≡ None → IsStanding (after_inputs ce (length bytes) s) opened dies (with_inputs ce bytes past)
stands_waiting s opened dies past ce count bytes o f fits some len h none found is =
    let all : judged_inputs ce count s ≡ None = subst (λ (n : ℕ). judged_inputs ce n s ≡ None) len h in
    let takes = of_features s opened dies past ce count f some all none in
    let few = waits_few s opened dies past ce count f fits some all takes in
    let no = not_set (facts past ce) count (sym (found s.geometry (length s.targets) past f.follows (inputs_there s ce count some all)) ∙ is) takes few in
    run_waits ce bytes (facts past ce).inputs ((facts past ce).column % 256) s opened dies past f fits h (record { takes = takes; inputs = refl; feature = refl }) few (ap (λ (n : ℕ). (facts past ce).inputs + n == 4) len ∙ no)

set_found : (s : BusView) (opened : List Entries) (dies : List Die) (past : List Item) (ce count address : ℕ) (o : Option ℕ) → IsStanding s opened dies past → 0 < count → judged_inputs ce count s ≡ None → FindsFeature s ce count o → o ≡ Some address → Sets (facts past ce) count address
set_found s opened dies past ce count address o f some h found is =
    is_set (facts past ce) count address (sym (found s.geometry (length s.targets) past f.follows (inputs_there s ce count some h)) ∙ is)

pub stands_set : (s : BusView) (opened : List Entries) (dies : List Die) (past : List Item) (ce count address k : ℕ) (bytes : List ℕ) (o : Option ℕ) (old new : Die) → IsStanding s opened dies past → BusFits s → 0 < count → length bytes ≡ count → judged_inputs ce (length bytes) s ≡ None → FindsFeature s ce count o → o ≡ Some address → k ≡ number_of s.geometry (lun_at ce 0) → slice_get dies k ≡ Some old → WorkedBy old.geometry Leaves (FeaturesSet address) old new → IsStanding (after_inputs ce (length bytes) s) opened (set dies k new) (with_inputs ce bytes past)
stands_set s opened dies past ce count address k bytes o old new f fits some len h found is place here worked =
    let all : judged_inputs ce count s ≡ None = subst (λ (n : ℕ). judged_inputs ce n s ≡ None) len h in
    let set = set_found s opened dies past ce count address o f some all found is in
    run_sets ce bytes (facts past ce).inputs address k s opened dies past old new f fits h (record { takes = set.takes; inputs = refl; feature = set.feature }) set.low (ap (λ (n : ℕ). (facts past ce).inputs + n) len ∙ set.all) place here worked

-- the die of LUN 0 is there, and can set a feature
pub set_there : (s : BusView) (opened : List Entries) (dies : List Die) (past : List Item) (ce count k : ℕ) → IsStanding s opened dies past → 0 < count → judged_inputs ce count s ≡ None → k ≡ number_of s.geometry (lun_at ce 0) → k < length dies
set_there s opened dies past ce count k f some h place =
    let least = f.limits.luns_least in
    subst (λ (n : ℕ). n < length dies) (sym place) (die_there s opened dies past (lun_at ce 0) f (inputs_there s ce count some h) (omega (arith, least)))

pub can_set : (s : BusView) (opened : List Entries) (dies : List Die) (past : List Item) (ce count address k : ℕ) (o : Option ℕ) (d : Die) → IsStanding s opened dies past → FactsFit s.geometry (length s.targets) past → 0 < count → judged_inputs ce count s ≡ None → FindsFeature s ce count o → o ≡ Some address → k ≡ number_of s.geometry (lun_at ce 0) → slice_get dies k ≡ Some d → CanWork Leaves (FeaturesSet address) d
can_set s opened dies past ce count address k o d f fit some h found is place here =
    let g = s.geometry in
    let least = f.limits.luns_least in
    let set = set_found s opened dies past ce count address o f some h found is in
    let there : IsLun g (length s.targets) (lun_at ce 0) = record { target = inputs_there s ce count some h; lun = omega (arith, least) } in
    let at : numbered g k ≡ lun_at ce 0 = ap (numbered g) place ∙ numbered_number g (lun_at ce 0) there.lun in
    let die : IsDieOf (channel_on g (length s.targets) opened) past (lun_at ce 0) d = subst (λ (l : Lun). IsDieOf (channel_on g (length s.targets) opened) past l d) at (f.stand k d here) in
    let same : SameDie g (lun_view g past (lun_at ce 0)) d = record { geometry = die.geometry; busy = die.busy; queue = die.queue; array_page = die.array_page } in
    (can_begin g (lun_view g past (lun_at ce 0)) d (FeaturesSet address) same (fit.lun (lun_at ce 0) there) ((fit.stands (lun_at ce 0) there).identity (or_right _ (takes_features (facts past ce).phase) set.takes)), refl, tt)
