-- A run of outputs: what it leaves of the readies and of the dies, and what the driver shows in it.
use Rattle.std.proofs.Common.{◌≡◌, ℕ, zero, suc, ◌+◌, ◌*◌, ◌<◌, ◌≤◌, ◌==◌, Bool, true, false, cond, eq-eqb, List, [], ◌∷◌, ◌++◌, Option, Some, None, refl, sym, ap, subst, ◌∙◌, arith, length, map, reverse}
use Rattle.std.specs.List.{slice_get}
use Rattle.nand_geometry.specs.declared.parts.Parts.{Parts}
use Rattle.nand_geometry.specs.Page.{parameter_bytes}
use Rattle.nand_geometry.proofs.PageLemmas.{parameters_have_their_length}
use Rattle.onfi_cycle.specs.declared.effect.Effect.{Effect}
use Rattle.onfi_cycle.specs.declared.effect.Effect.TheVariants.{Unaffected, DataOutput}
use Rattle.onfi_cycle.specs.declared.item.Item.{Item}
use Rattle.onfi_cycle.specs.declared.item.Kind.TheVariants.{Dout}
use Rattle.onfi_cycle.specs.declared.latch.Latch.{Latch}
use Rattle.onfi_cycle.specs.declared.latch.Latch.TheVariants.{Off, Status, Data}
use Rattle.onfi_cycle.specs.declared.lun.Lun.{Lun}
use Rattle.onfi_cycle.specs.declared.read_column.ReadColumn.{ReadColumn}
use Rattle.onfi_cycle.specs.Effect.{is_off, is_data}
use Rattle.onfi_cycle.specs.Lun.{effect_on, latch, shown_after, drivers, drivers_from, is_only, lun_view, register, read_column, read_column_after, output_column, option_plus, effect_among}
use Rattle.onfi_cycle.specs.Content.{shown, shown_by, byte_at, content, register_bytes}
use Rattle.onfi_cycle.specs.Permitted.{broken}
use Rattle.onfi_cycle.specs.Channel.{Channel, cycle, bus_byte, byte_of_driver}
use Rattle.onfi_cycle.specs.State.{BusView, Follows, judged, bus_after, target_view, target_after}
use Rattle.onfi_cycle.specs.Bounds.{BusFits}
use Rattle.onfi_cycle.specs.Readies.{bus_due}
use Rattle.onfi_cycle.specs.Rules.{register_len}
use Rattle.onfi_cycle.specs.Outputs.{with_outputs, judged_outputs, after_outputs}
use Rattle.onfi_cycle.proofs.Bytes.{register_bytes_len, content_len}
use Rattle.onfi_cycle.proofs.Drivers.{driver_of_target}
use Rattle.onfi_cycle.proofs.Following.{found_target}
use Rattle.onfi_cycle.proofs.Meaning.{driver_on}
use Rattle.onfi_cycle.proofs.Runs.{changed_length, first_permitted, splits, cycle_judged, cycle_followed}
use Rattle.onfi_cycle.proofs.Outputs.{outputs_are_data, run_inside, HasLeft}
use Rattle.onfi_cycle.proofs.Working.{facts_fit}
use Rattle.die_model.specs.Die.{Die, status_of, bytes_shown}
use Rattle.die_model.specs.Standing.{IsDieOf}
use Rattle.die_model.proofs.Showing.{dies_show}
use Rattle.target_bus.specs.Bus.{Entries, channel_on, numbered, number_of, first_of, IsStanding, IsRunning, AreShown, AreTaken, AreOf, HasBytes, shown_later}
use Rattle.target_bus.proofs.Numbers.{numbered_number, slice_get_none}
use Rattle.target_bus.proofs.Shown.{output_there, driver_found, die_of_driver}
use Rattle.target_bus.proofs.Runs.{with_pushed}
use Rattle.target_bus.proofs.Standing.{stands_on, stands_output, same_channel, traced}

-- 1. what is kept goes on

abbrev output : ℕ → Item
output ce = cycle ce Dout 0

pub one_stands : (s : BusView) (opened : List Entries) (dies : List Die) (past : List Item) (ce byte : ℕ) → IsStanding s opened dies past → BusFits s → judged s (output ce) ≡ None → IsStanding (bus_after (output ce) s) opened dies (cycle ce Dout byte ∷ past)
one_stands s opened dies past ce byte f fits h =
    stands_on s (bus_after (output ce) s) opened dies dies past (cycle ce Dout byte) f (cycle_followed Dout outputs_are_data s.geometry (length s.targets) s past ce byte h f.follows) refl
    (stands_output s opened dies past ce byte f (sym (cycle_judged Dout outputs_are_data s.geometry (length s.targets) s past ce byte f.follows) ∙ h) (facts_fit s.geometry (length s.targets) s past fits f.follows))

pub run_stands : (ce : ℕ) (bytes : List ℕ) (s : BusView) (opened : List Entries) (dies : List Die) (past : List Item) → IsStanding s opened dies past → BusFits s → judged_outputs ce (length bytes) s ≡ None → IsStanding (after_outputs ce (length bytes) s) opened dies (with_outputs ce bytes past)
run_stands ce [] s opened dies past f fits h = f
run_stands ce (byte ∷ bytes) s opened dies past f fits h =
    let parts = splits Dout ce (length bytes) s h in
    run_stands ce bytes (bus_after (output ce) s) opened dies (cycle ce Dout byte ∷ past) (one_stands s opened dies past ce byte f fits parts.first) (outputs_are_data.fits s ce parts.first fits) parts.rest

-- 2. an output leaves the drivers, and moves the column on by one

latch_kept : (g : Parts) (past : List Item) (ce byte : ℕ) (l : Lun) → latch g (cycle ce Dout byte ∷ past) l ≡ latch g past l
latch_kept g past ce byte l = at (ce == l.ce) (is_data (latch g past l))
  where
    at : (a b : Bool) → shown_after (cond a (cond b DataOutput Unaffected) Unaffected) (lun_view g past l) ≡ latch g past l
    at true true = refl
    at true false = refl
    at false b = refl

drivers_same : (f h : ℕ → Latch) → ((m : ℕ) → f m ≡ h m) → (count n : ℕ) → drivers_from f count n ≡ drivers_from h count n
drivers_same f h same zero n = refl
drivers_same f h same (suc count) n =
    ap (λ (x : Latch). cond (is_off x) (drivers_from f count (n + 1)) (n ∷ drivers_from f count (n + 1))) (same n) ∙
    ap (λ (ns : List ℕ). cond (is_off (h n)) ns (n ∷ ns)) (drivers_same f h same count (n + 1))

drivers_kept : (g : Parts) (past : List Item) (ce byte : ℕ) → drivers g (cycle ce Dout byte ∷ past) ce ≡ drivers g past ce
drivers_kept g past ce byte = drivers_same _ _ (λ m. latch_kept g past ce byte (record { ce = ce; lun = m })) g.luns 0

gives_data : (g : Parts) (past : List Item) (ce byte m : ℕ) → drivers g past ce ≡ m ∷ [] → latch g past (record { ce = ce; lun = m }) ≡ Data → effect_on g past (cycle ce Dout byte) (record { ce = ce; lun = m }) ≡ DataOutput
unfolding effect_among
gives_data g past ce byte m one e =
    by (ce == ce) (eq-eqb ce ce refl) (is_only (drivers g past ce) m) (ap (λ (ns : List ℕ). is_only ns m) one ∙ eq-eqb m m refl) (latch g past (record { ce = ce; lun = m })) e
  where
    by : (a : Bool) → a ≡ true → (b : Bool) → b ≡ true → (x : Latch) → x ≡ Data → cond a (cond (is_data (cond b x Off)) DataOutput Unaffected) Unaffected ≡ DataOutput
    by true h true k Data q = refl
    by true h true k Off q = cc
    by true h true k Status q = cc
    by true h false k x q = cc
    by false h b k x q = cc

column_more : (k : ReadColumn) (j : ℕ) → option_plus j (output_column (record k { outputs = k.outputs + 1 })) ≡ option_plus (suc j) (output_column k)
column_more k j = at k.lost k.given
  where
    at : (lost : Bool) (given : Option ℕ) → option_plus j (cond lost None (option_plus (k.outputs + 1) given)) ≡ option_plus (suc j) (cond lost None (option_plus k.outputs given))
    at true given = refl
    at false None = refl
    at false (Some c) = let same : c + (k.outputs + 1) + j ≡ c + k.outputs + suc j = omega arith in ap (λ (n : ℕ). Some n) same

later_kept : (g : Parts) (past : List Item) (ce byte m : ℕ) (d : Die) (j : ℕ) → drivers g past ce ≡ m ∷ [] → shown_later d (latch g (cycle ce Dout byte ∷ past) (record { ce = ce; lun = m })) (output_column (read_column g (cycle ce Dout byte ∷ past) (record { ce = ce; lun = m }))) j ≡ shown_later d (latch g past (record { ce = ce; lun = m })) (output_column (read_column g past (record { ce = ce; lun = m }))) (suc j)
later_kept g past ce byte m d j one =
    ap (λ (x : Latch). shown_later d x (output_column (read_column g (cycle ce Dout byte ∷ past) l)) j) (latch_kept g past ce byte l) ∙
    at (latch g past l) refl
  where
    l : Lun
    l = record { ce = ce; lun = m }

    at : (x : Latch) → latch g past l ≡ x → shown_later d x (output_column (read_column g (cycle ce Dout byte ∷ past) l)) j ≡ shown_later d x (output_column (read_column g past l)) (suc j)
    at Off e = refl
    at Status e = refl
    at Data e =
        ap (byte_at (bytes_shown d))
        (ap (λ (x : Effect). option_plus j (output_column (read_column_after x (read_column g past l)))) (gives_data g past ce byte m one e) ∙
        column_more (read_column g past l) j)

-- 3. what a die shows in a run

no_more : (o : Option ℕ) → option_plus 0 o ≡ o
no_more None = refl
no_more (Some c) = let same : c + 0 ≡ c = omega arith in ap (λ (n : ℕ). Some n) same

shown_is : (s : Channel) (past : List Item) (l : Lun) (d : Die) → IsDieOf s past l d → parameter_bytes s.geometry ≡ s.parameters → shown s.geometry s.parameters s.opening past l ≡ shown_later d (latch s.geometry past l) (output_column (read_column s.geometry past l)) 0
shown_is s past l d f same =
    ap (λ (n : ℕ). shown_by (latch s.geometry past l) n (byte_at (register_bytes s.parameters (content s.geometry s.opening past l) (register s.geometry past l)) (output_column (read_column s.geometry past l)))) (sym (dies_show.status s past l d f)) ∙
    (ap (λ (bytes : List ℕ). shown_by (latch s.geometry past l) (status_of d) (byte_at bytes (output_column (read_column s.geometry past l)))) (sym (dies_show.bytes s past l d f same)) ∙
    ap (λ (o : Option ℕ). shown_by (latch s.geometry past l) (status_of d) (byte_at (bytes_shown d) o)) (sym (no_more (output_column (read_column s.geometry past l)))))

-- the one driver of a target and its die
pub record IsDriver (s : BusView) (dies : List Die) (past : List Item) (ce m k : ℕ) (d : Die) : Type 0 where
  pub one : drivers s.geometry past ce ≡ m ∷ []
  pub lun : m < s.geometry.luns
  pub place : k ≡ number_of s.geometry (record { ce = ce; lun = m })
  pub die : slice_get dies k ≡ Some d

abbrev Shows : BusView → List Entries → List Item → (targets ce byte : ℕ) → Type 0
Shows s opened past n ce byte = (broken s.geometry n past (cycle ce Dout byte) ≡ None) × (bus_byte (channel_on s.geometry n opened) past ce ≡ Some byte)

one_shown : (s : BusView) (opened : List Entries) (dies : List Die) (past : List Item) (ce m k byte : ℕ) (d : Die) → IsStanding s opened dies past → judged s (output ce) ≡ None → IsDriver s dies past ce m k d → shown_later d (latch s.geometry past (record { ce = ce; lun = m })) (output_column (read_column s.geometry past (record { ce = ce; lun = m }))) 0 ≡ Some byte → Shows s opened past (length s.targets) ce byte
one_shown s opened dies past ce m k byte d f h is shows =
    let l : Lun = record { ce = ce; lun = m } in
    let c : Channel = channel_on s.geometry (length s.targets) opened in
    let number : numbered s.geometry k ≡ l = ap (numbered s.geometry) is.place ∙ numbered_number s.geometry l is.lun in (
      sym (cycle_judged Dout outputs_are_data s.geometry (length s.targets) s past ce byte f.follows) ∙ h,
      ap (byte_of_driver c past ce) is.one ∙ (shown_is c past l d (subst (λ (x : Lun). IsDieOf c past x d) number (f.stand k d is.die)) refl ∙ shows),
    )

pub run_shown : (ce m k : ℕ) (d : Die) (opened : List Entries) (dies : List Die) (n : ℕ) (bytes : List ℕ) (s : BusView) (past : List Item) → IsStanding s opened dies past → BusFits s → length s.targets ≡ n → judged_outputs ce (length bytes) s ≡ None → IsDriver s dies past ce m k d → AreOf d (latch s.geometry past (record { ce = ce; lun = m })) (output_column (read_column s.geometry past (record { ce = ce; lun = m }))) bytes → AreShown (channel_on s.geometry n opened) ce bytes past
run_shown ce m k d opened dies n [] s past f fits same h is all = tt
run_shown ce m k d opened dies n (byte ∷ bytes) s past f fits same h is all =
    let parts = splits Dout ce (length bytes) s h in
    let here : Shows s opened past n ce byte = subst (λ (n : ℕ). Shows s opened past n ce byte) same (one_shown s opened dies past ce m k byte d f parts.first is (all 0 byte refl)) in
    let later = run_shown ce m k d opened dies n bytes (bus_after (output ce) s) (cycle ce Dout byte ∷ past) (one_stands s opened dies past ce byte f fits parts.first) (outputs_are_data.fits s ce parts.first fits)
    (changed_length (target_after s.geometry (output ce)) s.targets ce ∙ same) parts.rest
    (record { one = drivers_kept s.geometry past ce byte ∙ is.one; lun = is.lun; place = is.place; die = is.die })
    (λ i b at. later_kept s.geometry past ce byte m d i is.one ∙ all (suc i) b at) in
    (here.0, here.1, later)

-- 4. it has as many bytes as a permitted run takes

pub has_bytes : (s : BusView) (opened : List Entries) (dies : List Die) (past : List Item) (ce m k count : ℕ) (d : Die) → IsStanding s opened dies past → ce < length s.targets → IsDriver s dies past ce m k d → 0 < count → judged_outputs ce count s ≡ None → HasBytes d (latch s.geometry past (record { ce = ce; lun = m })) (output_column (read_column s.geometry past (record { ce = ce; lun = m }))) count
has_bytes s opened dies past ce m k count d f there is some h =
    at (latch s.geometry past l) refl (driver_on (λ j. latch s.geometry past (record { ce = ce; lun = j })) s.geometry.luns 0 m only)
  where
    l : Lun
    l = record { ce = ce; lun = m }

    c : Channel
    c = channel_on s.geometry (length s.targets) opened

    only : is_only (drivers s.geometry past ce) m ≡ true
    only = ap (λ (ns : List ℕ). is_only ns m) is.one ∙ eq-eqb m m refl

    left : HasLeft s.geometry (lun_view s.geometry past l) count
    left = run_inside s ce count (target_view s.geometry past ce) (lun_view s.geometry past l) (found_target s.geometry (length s.targets) s past ce f.follows there) (driver_of_target s.geometry past ce m only) some h

    len : length (bytes_shown d) ≡ register_len s.geometry (register s.geometry past l)
    len =
        let number : numbered s.geometry k ≡ l = ap (numbered s.geometry) is.place ∙ numbered_number s.geometry l is.lun in
        ap length (dies_show.bytes c past l d (subst (λ (x : Lun). IsDieOf c past x d) number (f.stand k d is.die)) refl) ∙
        register_bytes_len s.geometry c.parameters (content s.geometry c.opening past l) (register s.geometry past l) (parameters_have_their_length s.geometry) (content_len s.geometry c.opening f.lengths past l)

    at : (x : Latch) → latch s.geometry past l ≡ x → is_off x ≡ false → HasBytes d x (output_column (read_column s.geometry past l)) count
    at Off e on = cc
    at Status e on = tt
    at Data e on =
        let left = left (ap is_data e) in
        subst (λ (o : Option ℕ). HasBytes d Data o count) (sym left.1.0) (omega (arith, left.1.1, len))

-- 5. as the code finds it

-- what is asked of the bytes that were read of a die
abbrev pub Reads : BusView → (ce m count : ℕ) → Die → List ℕ → Type 0
Reads s ce m count d bytes =
    (g : Parts) (n : ℕ) (past : List Item) → Follows g n s past → ce < n → m < g.luns
    → HasBytes d (latch g past (record { ce = ce; lun = m })) (output_column (read_column g past (record { ce = ce; lun = m }))) count
    → AreOf d (latch g past (record { ce = ce; lun = m })) (output_column (read_column g past (record { ce = ce; lun = m }))) bytes

none_taken : (ce count : ℕ) (s : BusView) (bytes : List ℕ) (c : Channel) (past : List Item) → length bytes ≡ count → (0 < count → AreShown c ce bytes past) → AreShown c ce bytes past
none_taken ce count s [] c past same h = tt
none_taken ce count s (byte ∷ bytes) c past same h = h (omega (arith, same))

-- of the die that was looked up
pub run_at : (s : BusView) (opened : List Entries) (dies : List Die) (past : List Item) (ce luns lun k count : ℕ) (bytes : List ℕ) (o : Option ℕ) (at : Option Die) → IsStanding s opened dies past → BusFits s → judged_outputs ce count s ≡ None → length bytes ≡ count → luns ≡ s.geometry.luns → ((g : Parts) (n : ℕ) (past : List Item) (i : ℕ) → Follows g n s past → ce < n → g.luns ≡ luns → 0 + i ≡ luns → o ≡ first_of (drivers_from (λ m. latch g past (record { ce = ce; lun = m })) i 0)) → o ≡ Some lun → lun < luns → k ≡ ce * luns + lun → at ≡ slice_get dies k → ((d : Die) → at ≡ Some d → Reads s ce lun count d bytes) → AreShown (channel_on s.geometry (length s.targets) opened) ce bytes past
run_at s opened dies past ce luns lun k count bytes o at f fits h size same found first low place here reads = none_taken ce count s bytes (channel_on s.geometry (length s.targets) opened) past size some
  where
    the_same : {x y : ℕ} → Some x ≡ Some y → x ≡ y
    the_same e = cc

    some : 0 < count → AreShown (channel_on s.geometry (length s.targets) opened) ce bytes past
    some more =
        let permitted : broken s.geometry (length s.targets) past (cycle ce Dout 0) ≡ None = sym (cycle_judged Dout outputs_are_data s.geometry (length s.targets) s past ce 0 f.follows) ∙ first_permitted Dout s ce count more h in
        let one = driver_found s opened dies past ce luns o f permitted same found in
        let driver : one.0 ≡ lun = the_same (sym one.1.0 ∙ first) in
        let there = output_there s.geometry (length s.targets) past ce 0 permitted in
        let below : lun < s.geometry.luns = omega (arith, low, same) in
        let number : k ≡ number_of s.geometry (record { ce = ce; lun = lun }) = place ∙ ap (λ (n : ℕ). ce * n + lun) same in
        let inside : k < length dies = subst (λ (n : ℕ). n < length dies) (sym number) (die_of_driver s opened dies past ce lun f there below) in
        let all : drivers s.geometry past ce ≡ lun ∷ [] = one.1.1 ∙ ap (λ (m : ℕ). m ∷ []) driver in
        read (slice_get dies k) refl there below number all inside more
      where
        read : (d : Option Die) → slice_get dies k ≡ d → ce < length s.targets → lun < s.geometry.luns → k ≡ number_of s.geometry (record { ce = ce; lun = lun }) → drivers s.geometry past ce ≡ lun ∷ [] → k < length dies → 0 < count → AreShown (channel_on s.geometry (length s.targets) opened) ce bytes past
        read None e there below number all inside more = absurd (omega (arith, inside, slice_get_none dies k e))
        read (Some d) e there below number all inside more =
            let is : IsDriver s dies past ce lun k d = record { one = all; lun = below; place = number; die = e } in
            run_shown ce lun k d opened dies (length s.targets) bytes s past f fits refl (subst (λ (n : ℕ). judged_outputs ce n s ≡ None) (sym size) h) is
            (reads d (here ∙ e) s.geometry (length s.targets) past f.follows there below (has_bytes s opened dies past ce lun k count d f there is more h))

-- where no die was found, nothing was asked
pub none_at : (s : BusView) (opened : List Entries) (dies : List Die) (past : List Item) (ce luns count : ℕ) (bytes : List ℕ) (o : Option ℕ) → IsStanding s opened dies past → judged_outputs ce count s ≡ None → length bytes ≡ count → luns ≡ s.geometry.luns → ((g : Parts) (n : ℕ) (past : List Item) (i : ℕ) → Follows g n s past → ce < n → g.luns ≡ luns → 0 + i ≡ luns → o ≡ first_of (drivers_from (λ m. latch g past (record { ce = ce; lun = m })) i 0)) → o ≡ None → AreShown (channel_on s.geometry (length s.targets) opened) ce bytes past
none_at s opened dies past ce luns count bytes o f h size same found none =
    none_taken ce count s bytes (channel_on s.geometry (length s.targets) opened) past size
    (λ more.
    let permitted : broken s.geometry (length s.targets) past (cycle ce Dout 0) ≡ None = sym (cycle_judged Dout outputs_are_data s.geometry (length s.targets) s past ce 0 f.follows) ∙ first_permitted Dout s ce count more h in
    let one = driver_found s opened dies past ce luns o f permitted same found in
    let clash : None ≡ Some one.0 = sym none ∙ one.1.0 in
    cc)

-- 6. the trace and what is kept beside it

-- the run has happened, and the bus runs on
pub run_goes_on : (s next : BusView) (opened : List Entries) (dies : List Die) (items more : List Item) (ce count len capacity room due : ℕ) (bytes : List ℕ) → IsStanding s opened dies (reverse items) → BusFits s → judged_outputs ce count s ≡ None → length bytes ≡ count → next ≡ after_outputs ce count s → more ≡ items ++ map (λ (byte : ℕ). cycle ce Dout byte) bytes → bus_due next ≤ due → len + room + due ≤ capacity → IsRunning next opened dies more len capacity room due
run_goes_on s next opened dies items more ce count len capacity room due bytes f fits h size is pushes readies places =
    record {
      standing =
          subst (IsStanding next opened dies) (with_pushed Dout ce bytes items more pushes)
          (subst (λ (x : BusView). IsStanding x opened dies (with_outputs ce bytes (reverse items))) (ap (λ (n : ℕ). after_outputs ce n s) size ∙ sym is)
          (run_stands ce bytes s opened dies (reverse items) f fits (subst (λ (n : ℕ). judged_outputs ce n s ≡ None) (sym size) h)));
      readies = readies;
      places = places;
    }

pub are_taken : (s next : BusView) (opened : List Entries) (items more : List Item) (ce room left : ℕ) (bytes : List ℕ) → Follows s.geometry (length s.targets) next (with_outputs ce bytes (reverse items)) → AreShown (channel_on s.geometry (length s.targets) opened) ce bytes (reverse items) → more ≡ items ++ map (λ (byte : ℕ). cycle ce Dout byte) bytes → room ≤ left + length bytes → AreTaken (traced s opened items room) (traced next opened more left) ce bytes
are_taken s next opened items more ce room left bytes f shows pushes enough =
    record { channel = same_channel s next opened (with_outputs ce bytes (reverse items)) f; shown = shows; past = sym (with_pushed Dout ce bytes items more pushes); room = enough }
