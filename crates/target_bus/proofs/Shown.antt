-- What the one driver of a target shows.
use Rattle.std.proofs.Common.{◌≡◌, ◌≢◌, ℕ, zero, suc, ◌+◌, ◌*◌, ◌<◌, Bool, true, false, ◌&&◌, cond, ltb, leb, eq-eqb, List, [], ◌∷◌, Option, Some, None, refl, sym, ap, subst, ◌∙◌, arith, length}
use Rattle.std.proofs.lemmas.Bool.Decides.{nat_tests}
use Rattle.std.specs.List.{slice_get}
use Rattle.std.proofs.lemmas.Bool.{not-false, or_parts as neither}
use Rattle.nand_geometry.specs.declared.parts.Parts.{Parts}
use Rattle.nand_geometry.specs.Page.{parameter_bytes}
use Rattle.nand_geometry.proofs.PageLemmas.{parameters_have_their_length}
use Rattle.onfi_cycle.specs.declared.forbidden.Forbidden.TheVariants.{NotThere}
use Rattle.onfi_cycle.specs.declared.item.Item.{Item}
use Rattle.onfi_cycle.specs.declared.item.Kind.TheVariants.{Dout}
use Rattle.onfi_cycle.specs.declared.latch.Latch.{Latch}
use Rattle.onfi_cycle.specs.declared.lun.Lun.{Lun}
use Rattle.onfi_cycle.specs.declared.target_cycle.TargetCycle.TheVariants.{OutputCycle}
use Rattle.onfi_cycle.specs.declared.lun_state.LunState.{LunState}
use Rattle.onfi_cycle.specs.LunView.{LunView}
use Rattle.onfi_cycle.specs.Sequence.{tail, facts_of, is_open}
use Rattle.onfi_cycle.specs.Effect.{is_off}
use Rattle.onfi_cycle.specs.Lun.{latch, drivers, drivers_from, is_only, luns_of, lun_view, read_column, output_column}
use Rattle.onfi_cycle.specs.Content.{status, shown, shown_by, byte_at}
use Rattle.onfi_cycle.specs.Rules.{breaks_not_there, breaks_no_sole_driver, driver, is_some_and}
use Rattle.onfi_cycle.specs.Permitted.{broken}
use Rattle.onfi_cycle.specs.Channel.{Channel, IsChannel, cycle, bus_byte, byte_of_driver}
use Rattle.onfi_cycle.specs.State.{TargetView, BusView, Follows, judged, judged_on}
use Rattle.onfi_cycle.specs.Look.{look_at, look_after}
use Rattle.onfi_cycle.proofs.Others.{first_passed}
use Rattle.onfi_cycle.proofs.Passed.{permitted_keeps}
use Rattle.onfi_cycle.proofs.Latches.{IsOne, one_by_views}
use Rattle.onfi_cycle.proofs.Keeping.{outputs_show}
use Rattle.die_model.specs.Die.{Die, status_of, bytes_shown}
use Rattle.die_model.specs.Standing.{IsDieOf}
use Rattle.die_model.proofs.Showing.{dies_show}
use Rattle.target_bus.specs.Bus.{Entries, channel_on, numbered, number_of, first_of, IsStanding}
use Rattle.target_bus.proofs.Numbers.{numbered_number, number_below, slice_get_none}

-- the byte of an output isn't judged
pub any_byte : (g : Parts) (n : ℕ) (past : List Item) (ce a b : ℕ) → broken g n past (cycle ce Dout a) ≡ broken g n past (cycle ce Dout b)
unfolding breaks_not_there
any_byte g n past ce a b = refl

pub any_byte_judged : (state : BusView) (ce a b : ℕ) → judged state (cycle ce Dout a) ≡ judged state (cycle ce Dout b)
unfolding breaks_not_there
any_byte_judged state ce a b = at (slice_get state.targets ce)
  where
    at : (o : Option TargetView) → judged_on state.geometry (length state.targets) o (cycle ce Dout a) ≡ judged_on state.geometry (length state.targets) o (cycle ce Dout b)
    at None = refl
    at (Some t) = refl

pub one_driver : (g : Parts) (n : ℕ) (past : List Item) (ce byte : ℕ) → broken g n past (cycle ce Dout byte) ≡ None → IsOne (drivers g past ce)
unfolding breaks_no_sole_driver
one_driver g n past ce byte h =
    let f12 : breaks_no_sole_driver (facts_of (tail past ce)) (luns_of g past ce) OutputCycle ≡ false = (permitted_keeps g n past (record { ce = ce; kind = Dout; byte = byte }) h).f12 in
    at (driver (luns_of g past ce)) refl (not-false _ (neither (is_open (facts_of (tail past ce))) _ f12).1)
  where
    at : (o : Option LunView) → driver (luns_of g past ce) ≡ o → is_some_and (λ v. true) o ≡ true → IsOne (drivers g past ce)
    at None e k = cc
    at (Some v) e k = one_by_views g past ce g.luns 0 v e

pub output_there : (g : Parts) (n : ℕ) (past : List Item) (ce byte : ℕ) → broken g n past (cycle ce Dout byte) ≡ None → ce < n
unfolding breaks_not_there
output_there g n past ce byte h =
    let f1 : leb n ce ≡ false = (first_passed (breaks_not_there n (luns_of g past ce) (cycle ce Dout byte)) NotThere _ h).0 in
    grind (arith, nat_tests)

-- the first that isn't off, one by one
pub first_more : (latches : ℕ → Latch) (luns n count : ℕ) (o : Option ℕ) → is_off (latches n) ≡ true → n ≢ luns → n + count ≡ luns → ((more : ℕ) → n + 1 + more ≡ luns → o ≡ first_of (drivers_from latches more (n + 1))) → o ≡ first_of (drivers_from latches count n)
first_more latches luns n zero o off ne is rest = absurd (ne (omega (arith, is)))
first_more latches luns n (suc count) o off ne is rest = let more : n + 1 + count ≡ luns = omega (arith, is) in rw off (rest count more)

pub look_there : (g : Parts) (n : ℕ) (past : List Item) (l : Lun) → l.ce < n → l.lun < g.luns → look_after g n past l ≡ Some (look_at (lun_view g past l))
look_there g n past l here low = at (ltb l.ce n) (ltb l.lun g.luns) (grind (arith, nat_tests)) (grind (arith, nat_tests))
  where
    at : (a b : Bool) → a ≡ true → b ≡ true → cond (a && b) (Some (look_at (lun_view g past l))) None ≡ Some (look_at (lun_view g past l))
    at true true h k = refl
    at true false h k = cc
    at false b h k = cc

pub off_there : (g : Parts) (n : ℕ) (past : List Item) (l : Lun) (look : LunState) → l.ce < n → l.lun < g.luns → Some look ≡ look_after g n past l → is_off look.latch ≡ is_off (latch g past l)
off_there g n past l look here low is = same (is ∙ look_there g n past l here low)
  where
    same : Some look ≡ Some (look_at (lun_view g past l)) → is_off look.latch ≡ is_off (latch g past l)
    same h = let e : look ≡ look_at (lun_view g past l) = cc in ap (λ (x : LunState). is_off x.latch) e

pub not_missing : (g : Parts) (n : ℕ) (past : List Item) (l : Lun) → l.ce < n → l.lun < g.luns → None ≡ look_after g n past l → ⊥
not_missing g n past l here low is = let found : None ≡ Some (look_at (lun_view g past l)) = is ∙ look_there g n past l here low in cc

pub first_here : (latches : ℕ → Latch) (luns n count : ℕ) → is_off (latches n) ≡ false → n ≢ luns → n + count ≡ luns → Some n ≡ first_of (drivers_from latches count n)
first_here latches luns n zero off ne is = absurd (ne (omega (arith, is)))
first_here latches luns n (suc count) off ne is = rw off refl

-- what was looked up in a standing state is the one driver
pub driver_found : (state : BusView) (opened : List Entries) (dies : List Die) (past : List Item) (ce luns : ℕ) (o : Option ℕ) → IsStanding state opened dies past → broken state.geometry (length state.targets) past (cycle ce Dout 0) ≡ None → luns ≡ state.geometry.luns → ((g : Parts) (n : ℕ) (past : List Item) (count : ℕ) → Follows g n state past → ce < n → g.luns ≡ luns → 0 + count ≡ luns → o ≡ first_of (drivers_from (λ m. latch g past (record { ce = ce; lun = m })) count 0)) → (m : ℕ) × ((o ≡ Some m) × (drivers state.geometry past ce ≡ m ∷ []))
driver_found state opened dies past ce luns o f h same found =
    let one = one_driver state.geometry (length state.targets) past ce 0 h in
    let all : 0 + state.geometry.luns ≡ luns = omega (arith, same) in
    (one.m, (found state.geometry (length state.targets) past state.geometry.luns f.follows (output_there state.geometry (length state.targets) past ce 0 h) (sym same) all ∙ ap first_of one.is, one.is))

-- the bytes that are shown

pub shown_there : (s : Channel) (past : List Item) (l : Lun) (d : Die) (look : LunState) → IsDieOf s past l d → parameter_bytes s.geometry ≡ s.parameters → l.ce < s.targets → l.lun < s.geometry.luns → Some look ≡ look_after s.geometry s.targets past l → shown_by look.latch (status_of d) (byte_at (bytes_shown d) look.column) ≡ shown s.geometry s.parameters s.opening past l
shown_there s past l d look f same here low is =
    ap (λ (x : LunState). shown_by x.latch (status_of d) (byte_at (bytes_shown d) x.column)) (the_same (is ∙ look_there s.geometry s.targets past l here low))
    ∙ (ap (λ (n : ℕ). shown_by (latch s.geometry past l) n (byte_at (bytes_shown d) (output_column (read_column s.geometry past l)))) (dies_show.status s past l d f)
    ∙ ap (λ (bytes : List ℕ). shown_by (latch s.geometry past l) (status s.geometry past l) (byte_at bytes (output_column (read_column s.geometry past l)))) (dies_show.bytes s past l d f same))
  where
    the_same : {x y : LunState} → Some x ≡ Some y → x ≡ y
    the_same e = cc

pub is_channel : (state : BusView) (opened : List Entries) (dies : List Die) (past : List Item) → IsStanding state opened dies past → IsChannel (channel_on state.geometry (length state.targets) opened)
is_channel state opened dies past f = record { limits = f.limits; parameters = parameters_have_their_length state.geometry; pages = f.lengths }

pub die_of_driver : (state : BusView) (opened : List Entries) (dies : List Die) (past : List Item) (ce m : ℕ) → IsStanding state opened dies past → ce < length state.targets → m < state.geometry.luns → number_of state.geometry (record { ce = ce; lun = m }) < length dies
die_of_driver state opened dies past ce m f here low = let below = number_below state.geometry (length state.targets) (record { ce = ce; lun = m }) here low in let same = f.count in omega (arith, below, same)

-- what is asked of the byte that was read of a die
abbrev pub Gives : Channel → BusView → List Item → Lun → Die → ℕ → Type 0
Gives s state past l d r = (byte : ℕ) → Follows s.geometry s.targets state past → l.ce < s.targets → l.lun < s.geometry.luns → IsDieOf s past l d → parameter_bytes s.geometry ≡ s.parameters → shown s.geometry s.parameters s.opening past l ≡ Some byte → r ≡ byte

-- the byte that was read of the die that was looked up
pub shown_at : (state : BusView) (opened : List Entries) (dies : List Die) (past : List Item) (ce luns lun k r : ℕ) (o : Option ℕ) (at : Option Die) → IsStanding state opened dies past → broken state.geometry (length state.targets) past (cycle ce Dout 0) ≡ None → luns ≡ state.geometry.luns → ((g : Parts) (n : ℕ) (past : List Item) (count : ℕ) → Follows g n state past → ce < n → g.luns ≡ luns → 0 + count ≡ luns → o ≡ first_of (drivers_from (λ m. latch g past (record { ce = ce; lun = m })) count 0)) → o ≡ Some lun → lun < luns → k ≡ ce * luns + lun → at ≡ slice_get dies k → ((d : Die) → at ≡ Some d → Gives (channel_on state.geometry (length state.targets) opened) state past (record { ce = ce; lun = lun }) d r) → bus_byte (channel_on state.geometry (length state.targets) opened) past ce ≡ Some r
shown_at state opened dies past ce luns lun k r o at f h same found first low place here gives =
    let one = driver_found state opened dies past ce luns o f h same found in
    let driver : one.0 ≡ lun = the_same (sym one.1.0 ∙ first) in
    let there = output_there state.geometry (length state.targets) past ce 0 h in
    let below : lun < state.geometry.luns = omega (arith, low, same) in
    let number : k ≡ number_of state.geometry (record { ce = ce; lun = lun }) = place ∙ ap (λ (n : ℕ). ce * n + lun) same in
    let inside : k < length dies = subst (λ (n : ℕ). n < length dies) (sym number) (die_of_driver state opened dies past ce lun f there below) in
    let all : drivers state.geometry past ce ≡ lun ∷ [] = one.1.1 ∙ ap (λ (m : ℕ). m ∷ []) driver in
    read (slice_get dies k) refl there below number all inside
  where
    the_same : {x y : ℕ} → Some x ≡ Some y → x ≡ y
    the_same e = cc

    s : Channel
    s = channel_on state.geometry (length state.targets) opened

    only_it : drivers state.geometry past ce ≡ lun ∷ [] → is_only (drivers state.geometry past ce) lun ≡ true
    only_it all = ap (λ (ds : List ℕ). is_only ds lun) all ∙ eq-eqb lun lun refl

    read : (d : Option Die) → slice_get dies k ≡ d → ce < length state.targets → lun < state.geometry.luns → k ≡ number_of state.geometry (record { ce = ce; lun = lun }) → drivers state.geometry past ce ≡ lun ∷ [] → k < length dies → bus_byte s past ce ≡ Some r
    read None e there below number all inside = absurd (omega (arith, inside, slice_get_none dies k e))
    read (Some d) e there below number all inside =
        let l : Lun = record { ce = ce; lun = lun } in
        let has = outputs_show.has_byte s (is_channel state opened dies past f) past l 0 h (only_it all) in
        let by_driver : bus_byte s past ce ≡ shown s.geometry s.parameters s.opening past l = ap (byte_of_driver s past ce) all in
        let is : numbered state.geometry k ≡ l = ap (numbered state.geometry) number ∙ numbered_number state.geometry l below in
        has.1 ∙ ap (λ (n : ℕ). Some n) (sym (gives d (here ∙ e) has.0 f.follows there below (subst (λ (m : Lun). IsDieOf s past m d) is (f.stand k d e)) refl (sym by_driver ∙ has.1)))

-- where an output is permitted, the one driver shows a byte
pub permitted_shows : (s : Channel) → IsChannel s → (past : List Item) (ce byte : ℕ) → broken s.geometry s.targets past (cycle ce Dout byte) ≡ None → (b : ℕ) × (bus_byte s past ce ≡ Some b)
permitted_shows s is past ce byte h =
    let one = one_driver s.geometry s.targets past ce byte h in
    outputs_show.has_byte s is past (record { ce = ce; lun = one.m }) byte h (ap (λ (ds : List ℕ). is_only ds one.m) one.is ∙ eq-eqb one.m one.m refl)
