-- A run of inputs: which page register it fills, and how the dies stand after it.
use Rattle.std.proofs.Common.{◌≡◌, ◌⊎◌, inl, inr, ℕ, zero, suc, ◌+◌, ◌%◌, ◌<◌, ◌≤◌, ◌==◌, Bool, true, false, cond, eq-eqb, List, [], ◌∷◌, ◌++◌, Option, Some, None, refl, sym, ap, subst, ◌∙◌, arith, length, length-set, map, reverse, set, get_or}
use Rattle.std.proofs.lemmas.Bool.{or_from, or_left, and_parts}
use Rattle.std.proofs.lemmas.Bool.Decides.{nat_tests}
use Rattle.std.proofs.lemmas.List.{set-get_or, get_or-set_same}
use Rattle.std.proofs.lemmas.Option.{slice_get_within}
use Rattle.std.proofs.lemmas.Nat.{pow_pos}
use Rattle.std.proofs.Math.Nat.{mod-lt}
use Rattle.std.specs.List.{slice_get}
use Rattle.nand_geometry.specs.declared.parts.Parts.{Parts}
use Rattle.nand_geometry.specs.Limits.{page_len, planes}
use Rattle.onfi_cycle.specs.declared.data_phase.DataPhase.{DataPhase}
use Rattle.onfi_cycle.specs.declared.data_phase.DataPhase.TheVariants.{Outside, Inputs, FirstColumn, SecondColumn, FeatureInputs}
use Rattle.onfi_cycle.specs.declared.filling.Filling.{Filling}
use Rattle.onfi_cycle.specs.declared.filling.Filling.TheVariants.{Leaves, Clears, Copies, Fills}
use Rattle.onfi_cycle.specs.declared.item.Item.{Item}
use Rattle.onfi_cycle.specs.declared.item.Kind.TheVariants.{Din}
use Rattle.onfi_cycle.specs.declared.page_address.PageAddress.{PageAddress}
use Rattle.onfi_cycle.specs.declared.tail_facts.TailFacts.{TailFacts}
use Rattle.onfi_cycle.specs.declared.target_cycle.TargetCycle.{TargetCycle}
use Rattle.onfi_cycle.specs.declared.target_cycle.TargetCycle.TheVariants.{InputCycle}
use Rattle.onfi_cycle.specs.Sequence.{tail, facts_of, facts_after, extended_facts, takes_data, takes_inputs, phase_after_input, row, input_column}
use Rattle.onfi_cycle.specs.Effect.{page_address}
use Rattle.onfi_cycle.specs.Filling.{filling, cycle_filling}
use Rattle.onfi_cycle.specs.Content.{written}
use Rattle.onfi_cycle.specs.Lun.{held}
use Rattle.onfi_cycle.specs.Permitted.{broken}
use Rattle.onfi_cycle.specs.Channel.{cycle}
use Rattle.onfi_cycle.specs.State.{BusView, Follows, judged, bus_after, target_view}
use Rattle.onfi_cycle.specs.Bounds.{BusFits}
use Rattle.onfi_cycle.specs.Readies.{bus_due}
use Rattle.onfi_cycle.specs.Inputs.{with_inputs, judged_inputs, after_inputs, fed_tail}
use Rattle.onfi_cycle.specs.Working.{fills, begins}
use Rattle.onfi_cycle.proofs.Following.{found_target, permitted_there}
use Rattle.onfi_cycle.proofs.Steps.{facts_of_cycle}
use Rattle.onfi_cycle.proofs.Working.{facts_fit}
use Rattle.onfi_cycle.proofs.Runs.{splits, cycle_judged, cycle_followed, first_permitted}
use Rattle.onfi_cycle.proofs.Inputs.{inputs_are_data, inputs_inside}
use Rattle.die_model.specs.Die.{Die, filled_with}
use Rattle.target_bus.specs.declared.working.FilledLun.{FilledLun}
use Rattle.target_bus.specs.Bus.{Entries, number_of, lun_at, is_filled, IsFilledAt, FindsFilled, FindsWork, IsStanding, IsRunning, StandOnByInputs, ArePut}
use Rattle.target_bus.proofs.ByKind.{filled, unaffected}
use Rattle.target_bus.proofs.Runs.{with_pushed}
use Rattle.target_bus.proofs.Standing.{only_data, stands_on, none_works, input_of_one, one_works, cycle_there, die_there, same_channel, traced}

abbrev input : ℕ → ℕ → Item
input ce byte = cycle ce Din byte

abbrev pub facts : List Item → ℕ → TailFacts
facts past ce = facts_of (tail past ce)

-- 1. which register an input fills, and that the next fills it a column on

filling_is : (g : Parts) (past : List Item) (ce lun byte : ℕ) → filling g (facts past ce) (input ce byte) (lun_at ce lun) (held g past (lun_at ce lun)) ≡ cond (is_filled g (facts past ce) lun) (Fills (page_address g (row (facts past ce))) (input_column (facts past ce)) byte) Leaves
filling_is g past ce lun byte = ap (λ (b : Bool). cond b (cycle_filling g (facts past ce) (InputCycle byte) lun (held g past (lun_at ce lun))) Leaves) (eq-eqb ce ce refl)

-- bytes of an input come into a register
abbrev pub is_input_filling : Filling → Bool
is_input_filling (Fills at column byte) = true
is_input_filling x = false

-- what fills no register
pub fills_nothing : (x : Filling) → (x ≡ Leaves) ⊎ (((at : PageAddress) × (x ≡ Clears at)) ⊎ ((at from : PageAddress) × (x ≡ Copies at from))) → is_input_filling x ≡ false
fills_nothing x (inl h) = ap is_input_filling h
fills_nothing x (inr (inl h)) = ap is_input_filling h.1
fills_nothing x (inr (inr h)) = ap is_input_filling h.2

-- an input that fills no page register of this LUN: the one that it fills is later
pub filled_later : (g : Parts) (past : List Item) (ce n : ℕ) (o : Option FilledLun) → is_input_filling (filling g (facts past ce) (input ce 0) (lun_at ce n) (held g past (lun_at ce n))) ≡ false → FindsFilled g (facts past ce) (n + 1) o → FindsFilled g (facts past ce) n o
filled_later g past ce n o leaves rest = of o rest
  where
    none : (b : Bool) → is_input_filling (cond b (Fills (page_address g (row (facts past ce))) (input_column (facts past ce)) 0) Leaves) ≡ false → b ≡ false
    none true h = cc
    none false h = refl

    here : is_filled g (facts past ce) n ≡ false
    here = none (is_filled g (facts past ce) n) (ap is_input_filling (sym (filling_is g past ce n 0)) ∙ leaves)

    of : (p : Option FilledLun) → FindsFilled g (facts past ce) (n + 1) p → FindsFilled g (facts past ce) n p
    of None f = λ m least low. at m (m == n) refl least low
      where
        at : (m : ℕ) (b : Bool) → (m == n) ≡ b → n ≤ m → m < g.luns → is_filled g (facts past ce) m ≡ false
        at m true q least low = let same : m ≡ n = grind (arith, nat_tests) in ap (is_filled g (facts past ce)) same ∙ here
        at m false q least low = let later : n + 1 ≤ m = grind (arith, nat_tests) in f m later low
    of (Some x) f = f

still_filled : (g : Parts) (k : ℕ) (t : TailFacts) (lun : ℕ) → is_filled g (fed_tail k t) lun ≡ is_filled g t lun
still_filled g k t lun = refl

-- the data of a program goes on with each input
phase_stays : (p : DataPhase) (k : ℕ) → takes_data p ≡ true → phase_after_input k p ≡ p
phase_stays Outside k h = cc
phase_stays Inputs k h = refl
phase_stays FirstColumn k h = cc
phase_stays SecondColumn k h = cc
phase_stays FeatureInputs k h = cc

-- an input behind an opener
pub facts_more : (past : List Item) (ce byte : ℕ) → takes_inputs (facts past ce).phase ≡ true → facts (input ce byte ∷ past) ce ≡ extended_facts (InputCycle byte) (facts past ce)
facts_more past ce byte h = facts_of_cycle (record { ce = ce; kind = Din; byte = byte }) past ce refl ∙ more (tail past ce) h
  where
    more : (t : List TargetCycle) → takes_inputs (facts_of t).phase ≡ true → facts_after (InputCycle byte) (facts_of t) ≡ extended_facts (InputCycle byte) (facts_of t)
    more [] takes = cc
    more (c ∷ t) takes = refl

facts_next : (past : List Item) (ce byte : ℕ) → takes_data (facts past ce).phase ≡ true → facts (input ce byte ∷ past) ce ≡ fed_tail 1 (facts past ce)
facts_next past ce byte takes =
    let t = facts past ce in
    facts_more past ce byte (or_left _ _ takes) ∙
    ap (λ (p : DataPhase). record { opening = None; phase = p; row = t.row; column = t.column; inputs = t.inputs + 1; is_empty = false }) (phase_stays t.phase t.inputs takes)

data_next : (past : List Item) (ce byte : ℕ) → takes_data (facts past ce).phase ≡ true → takes_data (facts (input ce byte ∷ past) ce).phase ≡ true
data_next past ce byte takes = ap (λ (t : TailFacts). takes_data t.phase) (facts_next past ce byte takes) ∙ takes

-- what is filled is in the data of a program
in_data : (g : Parts) (t : TailFacts) (lun : ℕ) (page : PageAddress) (column : ℕ) → IsFilledAt g t lun page column → takes_data t.phase ≡ true
in_data g t lun page column f = (and_parts (takes_data t.phase) _ f.fills).0

filled_next : (g : Parts) (past : List Item) (ce byte lun : ℕ) (page : PageAddress) (column : ℕ) → IsFilledAt g (facts past ce) lun page column → IsFilledAt g (facts (input ce byte ∷ past) ce) lun page (column + 1)
filled_next g past ce byte lun page column f =
    subst (λ (t : TailFacts). IsFilledAt g t lun page (column + 1)) (sym (facts_next past ce byte (in_data g (facts past ce) lun page column f)))
    (record {
      there = f.there;
      fills = still_filled g 1 (facts past ce) lun ∙ f.fills;
      page_is = f.page_is;
      column_is = let is = f.column_is in omega (arith, is);
    })

-- 2. a die that takes one byte, and then the rest

set_found : {X : Type 0} (xs : List X) (k : ℕ) (x : X) → slice_get xs k ≡ Some x → set xs k x ≡ xs
set_found [] k x h = refl
set_found {X = X} (y ∷ xs) zero x h = let same : y ≡ x = cc in ap (λ (z : X). z ∷ xs) (sym same)
set_found {X = X} (y ∷ xs) (suc k) x h = ap (λ (zs : List X). y ∷ zs) (set_found xs k x h)

set_twice : {X : Type 0} (xs : List X) (k : ℕ) (x y : X) → set (set xs k x) k y ≡ set xs k y
set_twice [] k x y = refl
set_twice (z ∷ xs) zero x y = refl
set_twice {X = X} (z ∷ xs) (suc k) x y = ap (λ (zs : List X). z ∷ zs) (set_twice xs k x y)

found_set : {X : Type 0} (xs : List X) (k : ℕ) (x : X) → k < length xs → slice_get (set xs k x) k ≡ Some x
found_set [] k x low = absurd (omega (arith, low))
found_set (y ∷ xs) zero x low = refl
found_set (y ∷ xs) (suc k) x low = let less : k < length xs = omega (arith, low) in found_set xs k x less

-- nothing written leaves a die as it is
none_filled : (plane column : ℕ) (d : Die) → filled_with plane column [] d ≡ d
none_filled plane column d = ap (λ (ps : List (List ℕ)). record d { planes = ps }) (set-get_or d.planes plane [])

filled_twice : (plane column byte : ℕ) (bytes : List ℕ) (d : Die) → plane < length d.planes → filled_with plane (column + 1) bytes (filled_with plane column (byte ∷ []) d) ≡ filled_with plane column (byte ∷ bytes) d
filled_twice plane column byte bytes d low =
    let one = set (get_or d.planes plane []) column byte in
    ap (λ (ps : List (List ℕ)). record d { planes = ps })
    (ap (λ (bs : List ℕ). set (set d.planes plane one) plane (written bytes (column + 1) bs)) (get_or-set_same d.planes plane one [] low) ∙
    set_twice d.planes plane one (written bytes (column + 1) one))

-- 3. one input

pub one_followed : (s : BusView) (past : List Item) (ce byte : ℕ) → judged s (input ce 0) ≡ None → Follows s.geometry (length s.targets) s past → Follows s.geometry (length s.targets) (bus_after (input ce 0) s) (input ce byte ∷ past)
one_followed s past ce byte h f = cycle_followed Din inputs_are_data s.geometry (length s.targets) s past ce byte h f

pub one_permitted : (s : BusView) (past : List Item) (ce byte : ℕ) → judged s (input ce 0) ≡ None → Follows s.geometry (length s.targets) s past → broken s.geometry (length s.targets) past (input ce byte) ≡ None
one_permitted s past ce byte h f = sym (cycle_judged Din inputs_are_data s.geometry (length s.targets) s past ce byte f) ∙ h

-- an input that works on no LUN
pub one_idle : (s : BusView) (opened : List Entries) (dies : List Die) (past : List Item) (ce byte : ℕ) → IsStanding s opened dies past → BusFits s → judged s (input ce 0) ≡ None → FindsWork s.geometry past (input ce byte) ce 0 None → IsStanding (bus_after (input ce 0) s) opened dies (input ce byte ∷ past)
one_idle s opened dies past ce byte f fits h none =
    stands_on s (bus_after (input ce 0) s) opened dies dies past (input ce byte) f (one_followed s past ce byte h f.follows) refl
    (none_works s opened dies past (record { ce = ce; kind = Din; byte = byte }) f (one_permitted s past ce byte h f.follows) (facts_fit s.geometry (length s.targets) s past fits f.follows) none)

one_rests : (s : BusView) (opened : List Entries) (dies : List Die) (past : List Item) (ce byte : ℕ) → IsStanding s opened dies past → BusFits s → judged s (input ce 0) ≡ None → takes_data (facts past ce).phase ≡ true → FindsFilled s.geometry (facts past ce) 0 None → IsStanding (bus_after (input ce 0) s) opened dies (input ce byte ∷ past)
one_rests s opened dies past ce byte f fits h takes none =
    one_idle s opened dies past ce byte f fits h
    (λ m least low. or_from _ _ (ap fills (filling_is s.geometry past ce m byte ∙ ap (λ (b : Bool). cond b (Fills (page_address s.geometry (row (facts past ce))) (input_column (facts past ce)) byte) Leaves) (none m least low)))
    (ap begins (sym (unaffected s.geometry past (record { ce = ce; kind = Din; byte = byte }) (lun_at ce m) refl takes))))

one_fills : (s : BusView) (opened : List Entries) (dies : List Die) (past : List Item) (ce byte lun k : ℕ) (page : PageAddress) (column : ℕ) (d : Die) → IsStanding s opened dies past → BusFits s → judged s (input ce 0) ≡ None → IsFilledAt s.geometry (facts past ce) lun page column → k ≡ number_of s.geometry (lun_at ce lun) → slice_get dies k ≡ Some d → IsStanding (bus_after (input ce 0) s) opened (set dies k (filled_with (page.block % planes d.geometry) column (byte ∷ []) d)) (input ce byte ∷ past)
one_fills s opened dies past ce byte lun k page column d f fits h here place found =
    let permitted = one_permitted s past ce byte h f.follows in
    let new = filled_with (page.block % planes d.geometry) column (byte ∷ []) d in
    let is : Fills page column byte ≡ filling s.geometry (facts past ce) (input ce byte) (lun_at ce lun) (held s.geometry past (lun_at ce lun)) =
    ap (λ (p : PageAddress). Fills p column byte) here.page_is ∙
    (ap (λ (n : ℕ). Fills (page_address s.geometry (row (facts past ce))) n byte) here.column_is ∙
    sym (filling_is s.geometry past ce lun byte ∙ ap (λ (b : Bool). cond b (Fills (page_address s.geometry (row (facts past ce))) (input_column (facts past ce)) byte) Leaves) here.fills)) in
    stands_on s (bus_after (input ce 0) s) opened dies (set dies k new) past (input ce byte) f (one_followed s past ce byte h f.follows) (length-set dies k new)
    (one_works s opened dies past (record { ce = ce; kind = Din; byte = byte }) (filled lun (Fills page column byte)) k d new f permitted (facts_fit s.geometry (length s.targets) s past fits f.follows)
    (input_of_one s.geometry (record { ce = ce; kind = Din; byte = byte }) refl)
    (cycle_there s.geometry (length s.targets) past (record { ce = ce; kind = Din; byte = byte }) permitted)
    (record {
      lun = here.there;
      filling_is = is;
      effect_is = unaffected s.geometry past (record { ce = ce; kind = Din; byte = byte }) (lun_at ce lun) refl (in_data s.geometry (facts past ce) lun page column here);
      works = or_left _ _ (ap fills (sym is));
    })
    place found refl)

-- 4. a run of them

none_next : (g : Parts) (past : List Item) (ce byte : ℕ) → takes_data (facts past ce).phase ≡ true → FindsFilled g (facts past ce) 0 None → FindsFilled g (facts (input ce byte ∷ past) ce) 0 None
none_next g past ce byte takes none = λ m least low. ap (λ (t : TailFacts). is_filled g t m) (facts_next past ce byte takes) ∙ (still_filled g 1 (facts past ce) m ∙ none m least low)

pub run_rests : (ce : ℕ) (bytes : List ℕ) (s : BusView) (opened : List Entries) (dies : List Die) (past : List Item) → IsStanding s opened dies past → BusFits s → judged_inputs ce (length bytes) s ≡ None → takes_data (facts past ce).phase ≡ true → FindsFilled s.geometry (facts past ce) 0 None → IsStanding (after_inputs ce (length bytes) s) opened dies (with_inputs ce bytes past)
run_rests ce [] s opened dies past f fits h takes none = f
run_rests ce (byte ∷ bytes) s opened dies past f fits h takes none =
    let parts = splits Din ce (length bytes) s h in
    run_rests ce bytes (bus_after (input ce 0) s) opened dies (input ce byte ∷ past) (one_rests s opened dies past ce byte f fits parts.first takes none) (inputs_are_data.fits s ce parts.first fits) parts.rest
    (data_next past ce byte takes) (none_next s.geometry past ce byte takes none)

plane_there : (s : BusView) (opened : List Entries) (dies : List Die) (past : List Item) (k : ℕ) (page : PageAddress) (d : Die) → IsStanding s opened dies past → slice_get dies k ≡ Some d → page.block % planes d.geometry < length d.planes
plane_there s opened dies past k page d f found =
    let stands = f.stand k d found in
    let low : page.block % planes d.geometry < planes d.geometry = mod-lt page.block (pow_pos d.geometry.plane_bits) in
    subst (λ (n : ℕ). page.block % planes d.geometry < n) (ap planes stands.geometry ∙ sym stands.count) low

pub run_fills : (ce lun k : ℕ) (page : PageAddress) (opened : List Entries) (bytes : List ℕ) (column : ℕ) (s : BusView) (dies : List Die) (past : List Item) (d : Die) → IsStanding s opened dies past → BusFits s → judged_inputs ce (length bytes) s ≡ None → IsFilledAt s.geometry (facts past ce) lun page column → k ≡ number_of s.geometry (lun_at ce lun) → slice_get dies k ≡ Some d → IsStanding (after_inputs ce (length bytes) s) opened (set dies k (filled_with (page.block % planes d.geometry) column bytes d)) (with_inputs ce bytes past)
run_fills ce lun k page opened [] column s dies past d f fits h here place found =
    subst (λ (ds : List Die). IsStanding s opened ds past) (sym (ap (set dies k) (none_filled (page.block % planes d.geometry) column d) ∙ set_found dies k d found)) f
run_fills ce lun k page opened (byte ∷ bytes) column s dies past d f fits h here place found =
    let parts = splits Din ce (length bytes) s h in
    let plane = page.block % planes d.geometry in
    let one = filled_with plane column (byte ∷ []) d in
    let same : set (set dies k one) k (filled_with plane (column + 1) bytes one) ≡ set dies k (filled_with plane column (byte ∷ bytes) d) =
    set_twice dies k one (filled_with plane (column + 1) bytes one) ∙ ap (set dies k) (filled_twice plane column byte bytes d (plane_there s opened dies past k page d f found)) in
    subst (λ (ds : List Die). IsStanding (after_inputs ce (length bytes) (bus_after (input ce 0) s)) opened ds (with_inputs ce bytes (input ce byte ∷ past))) same
    (run_fills ce lun k page opened bytes (column + 1) (bus_after (input ce 0) s) (set dies k one) (input ce byte ∷ past) one
    (one_fills s opened dies past ce byte lun k page column d f fits parts.first here place found) (inputs_are_data.fits s ce parts.first fits) parts.rest
    (filled_next s.geometry past ce byte lun page column here)
    place (found_set dies k one (slice_get_within dies k d found)))

-- 5. as the code finds it

pub some_bytes : (bytes : List ℕ) (b : Bool) → b ≡ (length bytes == 0) → b ≡ false → 0 < length bytes
some_bytes [] b is h = let no : true ≡ false = sym is ∙ h in cc
some_bytes (byte ∷ bytes) b is h = omega arith

-- the target of a permitted run is there
pub inputs_there : (s : BusView) (ce count : ℕ) → 0 < count → judged_inputs ce count s ≡ None → ce < length s.targets
inputs_there s ce count some h = permitted_there s (input ce 0) (first_permitted Din s ce count some h)

pub found_filled : (s : BusView) (opened : List Entries) (dies : List Die) (past : List Item) (ce luns count : ℕ) (o p : Option FilledLun) → IsStanding s opened dies past → 0 < count → judged_inputs ce count s ≡ None → luns ≡ s.geometry.luns → ((g : Parts) (n : ℕ) (past : List Item) → Follows g n s past → ce < n → g.luns ≡ luns → FindsFilled g (facts past ce) 0 o) → o ≡ p → FindsFilled s.geometry (facts past ce) 0 p
found_filled s opened dies past ce luns count o p f some h same found is =
    subst (FindsFilled s.geometry (facts past ce) 0) is (found s.geometry (length s.targets) past f.follows (inputs_there s ce count some h) (sym same))

-- the page has a place for each byte
pub columns_there : (s : BusView) (opened : List Entries) (dies : List Die) (past : List Item) (ce count k : ℕ) (x : FilledLun) (d : Die) → IsStanding s opened dies past → BusFits s → 0 < count → judged_inputs ce count s ≡ None → FindsFilled s.geometry (facts past ce) 0 (Some x) → slice_get dies k ≡ Some d → x.column + count ≤ page_len d.geometry
columns_there s opened dies past ce count k x d f fits some h here found =
    let plain = only_data (facts past ce).phase (in_data s.geometry (facts past ce) x.lun x.page x.column here) in
    let inside = inputs_inside s ce count (target_view s.geometry past ce) fits some (found_target s.geometry (length s.targets) s past ce f.follows (inputs_there s ce count some h)) plain h in
    let column = here.column_is in
    let len = ap page_len (f.stand k d found).geometry in
    omega (arith, inside, column, len)

pub filled_there : (s : BusView) (opened : List Entries) (dies : List Die) (past : List Item) (ce count k : ℕ) (x : FilledLun) → IsStanding s opened dies past → 0 < count → judged_inputs ce count s ≡ None → FindsFilled s.geometry (facts past ce) 0 (Some x) → k ≡ number_of s.geometry (lun_at ce x.lun) → k < length dies
filled_there s opened dies past ce count k x f some h here place =
    subst (λ (n : ℕ). n < length dies) (sym place) (die_there s opened dies past (lun_at ce x.lun) f (inputs_there s ce count some h) here.there)

-- the run has happened, and the bus runs on
pub inputs_go_on : (s next : BusView) (opened : List Entries) (dies after : List Die) (items more : List Item) (ce len capacity room due : ℕ) (bytes : List ℕ) → IsStanding s opened dies (reverse items) → judged_inputs ce (length bytes) s ≡ None → StandOnByInputs s dies after ce bytes → next ≡ after_inputs ce (length bytes) s → more ≡ items ++ map (λ (byte : ℕ). cycle ce Din byte) bytes → bus_due next ≤ due → len + room + due ≤ capacity → IsRunning next opened after more len capacity room due
inputs_go_on s next opened dies after items more ce len capacity room due bytes f h stand is pushes readies places =
    record {
      standing =
          subst (IsStanding next opened after) (with_pushed Din ce bytes items more pushes)
          (subst (λ (x : BusView). IsStanding x opened after (with_inputs ce bytes (reverse items))) (sym is) (stand opened (reverse items) f h));
      readies = readies;
      places = places;
    }

pub are_put : (s next : BusView) (opened : List Entries) (items more : List Item) (ce room left : ℕ) (bytes : List ℕ) → Follows s.geometry (length s.targets) next (with_inputs ce bytes (reverse items)) → more ≡ items ++ map (λ (byte : ℕ). cycle ce Din byte) bytes → room ≤ left + length bytes → ArePut (traced s opened items room) (traced next opened more left) ce bytes
are_put s next opened items more ce room left bytes f pushes enough =
    record { channel = same_channel s next opened (with_inputs ce bytes (reverse items)) f; past = sym (with_pushed Din ce bytes items more pushes); room = enough }
