-- What is held of a LUN shows its readies, and nothing else does.
use Rattle.std.proofs.Common.{◌≡◌, ℕ, zero, suc, ◌+◌, ◌-◌, ◌*◌, ◌%◌, ◌<◌, ◌==◌, Bool, true, false, cond, not, ◌&&◌, List, [], ◌∷◌, ◌++◌, length, get_or, Option, Some, None, refl, sym, ap, ◌∙◌, arith, append_assoc}
use Rattle.std.proofs.lemmas.Bool.{eqb-true, eq-eqb, false≢true}
use Rattle.std.proofs.lemmas.List.{get_or-append-add}
use Rattle.std.proofs.Math.Nat.{suc-mul}
use Rattle.nand_geometry.specs.declared.parts.Parts.{Parts}
use Rattle.nand_geometry.specs.Limits.{planes}
use Rattle.onfi_cycle.specs.declared.command.Command.{Command}
use Rattle.onfi_cycle.specs.declared.command.Command.TheVariants as k
use Rattle.onfi_cycle.specs.declared.effect.Effect.{Effect}
use Rattle.onfi_cycle.specs.declared.effect.Effect.TheVariants as e
use Rattle.onfi_cycle.specs.declared.item.Failures.{Failures}
use Rattle.onfi_cycle.specs.declared.item.Item.{Item}
use Rattle.onfi_cycle.specs.declared.item.Item.TheVariants.{Cyc, Rdy, Ard}
use Rattle.onfi_cycle.specs.declared.latch.Latch.{Latch}
use Rattle.onfi_cycle.specs.declared.lun.Lun.{Lun}
use Rattle.onfi_cycle.specs.declared.opening.Opening.{Opening}
use Rattle.onfi_cycle.specs.declared.tail_facts.TailFacts.{TailFacts}
use Rattle.onfi_cycle.specs.declared.target_cycle.TargetCycle.{TargetCycle}
use Rattle.onfi_cycle.specs.declared.target_cycle.TargetCycle.TheVariants.{CommandCycle, AddressCycle, InputCycle, OutputCycle}
use Rattle.onfi_cycle.specs.Sequence.{tail, facts_of, row, row_with, target_cycle, selects_plane, wants_command, wants_address}
use Rattle.onfi_cycle.specs.Effect.{is_shared, plane_of_row, acts_for_target, of_target, other_effect, lun_reset_effect, names_lun, is_off, is_data, confirm_effect, command_effect, opening_address_effect, address_effect, cycle_effect, id_effect, ends_features, row_effect, cache_effect, plane_effect, column_effect, program_row_effect}
use Rattle.onfi_cycle.specs.Command.{closes_row, reads_row}
use Rattle.onfi_cycle.specs.Lun.{effect_on, effect_among, latch_alone, is_busy as lun_is_busy, closer, busy_after, array_busy_after}
use Rattle.bus_lines.specs.declared.lines.Lines.{Lines}
use Rattle.bus_lines.specs.Lines.{idle}
use Rattle.trace_wave.specs.Levels.{bit, shown, is_busy, has_busy_array, tells_failure, readies, target_levels, targets_levels, bus_levels, rule_bits, levels}
use Rattle.trace_wave.specs.Wave.{Drawing, begun, after, lines_struck, is_ready}
use Rattle.trace_wave.proofs.Lists.{length_bus}
use Rattle.wave_laws.specs.Told.{strobe_events}
use Rattle.wave_laws.specs.Heard.{all_heard, told_by, drawn_by}
use Rattle.wave_laws.specs.Readies.{held_of, busy_code, is_ready_of, is_array_ready_of, AreSeen}
use Rattle.wave_laws.proofs.Levels.{length_readies, length_target}
use Rattle.wave_laws.proofs.Followed.{are_heard, drawn_on}

-- ---- 1. no cycle ends work

abbrev Keeps : Effect → Type 0
Keeps x = busy_after x true ≡ true

either : (b : Bool) (x y : Effect) → Keeps x → Keeps y → Keeps (cond b x y)
either true x y h k = h
either false x y h k = k

-- what the closer of a row does to another LUN, and what is done for a whole target
other_keeps : (g : Parts) (t : TailFacts) (c : Command) → Keeps (other_effect g t c)
other_keeps g t c = either (closes_row c && (wants_command t c && is_shared g)) (e.AnotherAddressed (reads_row c)) e.Unaffected refl refl

target_keeps : (g : Parts) (lun : ℕ) (x : Effect) → Keeps x → Keeps (of_target g lun x)
target_keeps g lun x h = either (acts_for_target g lun) x e.Deselected h refl

command_keeps : (g : Parts) (t : TailFacts) (latch : Latch) (c : Command) (lun : ℕ) → Keeps (command_effect g t latch c lun)
command_keeps g t latch k.Read lun = refl
command_keeps g t latch k.ReadStatus lun = either (is_shared g) e.StatusOfSelected e.StatusSelected refl refl
command_keeps g t latch k.ReadStatusEnhanced lun = refl
command_keeps g t latch k.Reset lun = either (is_shared g) (e.TargetResetStarted (lun == 0)) e.ResetStarted refl refl
command_keeps g t latch k.SynchronousReset lun = either (is_shared g) (e.TargetResetStarted (lun == 0)) e.ResetStarted refl refl
command_keeps g t latch k.ReadCacheSequential lun =
    either (wants_command t k.ReadCacheSequential) (row_effect g t k.ReadCacheSequential lun) (cache_effect latch)
    (either (wants_command t k.ReadCacheSequential && names_lun g (row t) lun) (confirm_effect g t k.ReadCacheSequential) (other_effect g t k.ReadCacheSequential) refl (other_keeps g t k.ReadCacheSequential))
    (either (is_off latch) e.Unaffected (e.CacheReadContinued None) refl refl)
command_keeps g t latch k.ReadCacheEnd lun = either (is_off latch) e.Unaffected e.CacheReadEnded refl refl
command_keeps g t latch k.ChangeReadColumnConfirm lun =
    either (selects_plane t) (plane_effect g t lun) (column_effect t latch) (either (names_lun g (row t) lun) (e.PlaneSelected (plane_of_row g (row t)) (planes g) t.column) e.Deselected refl refl)
    (either (wants_command t k.ChangeReadColumnConfirm && not (is_off latch)) (e.ReadColumnChanged t.column) e.Unaffected refl refl)
command_keeps g t latch c lun = either (wants_command t c && names_lun g (row t) lun) (confirm_effect g t c) (other_effect g t c) refl (other_keeps g t c)

address_keeps : (g : Parts) (t : TailFacts) (byte : ℕ) (c : Command) (n lun : ℕ) → Keeps (address_effect g t byte c n lun)
address_keeps g t byte k.ReadStatusEnhanced n lun =
    either (n == 2) (cond (names_lun g (row_with t byte) lun) e.SelectedForStatus e.Deselected) e.Unaffected (either (names_lun g (row_with t byte) lun) e.SelectedForStatus e.Deselected refl refl) refl
address_keeps g t byte k.ReadId n lun = either (wants_address t byte) (of_target g lun (id_effect byte)) e.Unaffected (target_keeps g lun (id_effect byte) (either (byte == 0x20) e.IdRead (e.IdentityRead (byte == 0x40)) refl refl)) refl
address_keeps g t byte k.ReadUniqueId n lun = either (wants_address t byte) (of_target g lun e.UniqueIdReadStarted) e.Unaffected (target_keeps g lun e.UniqueIdReadStarted refl) refl
address_keeps g t byte k.GetFeatures n lun = either (wants_address t byte) (of_target g lun (e.FeaturesReadStarted byte)) e.Unaffected (target_keeps g lun (e.FeaturesReadStarted byte) refl) refl
address_keeps g t byte k.ResetLun n lun =
    either (n == 2) (lun_reset_effect g (names_lun g (row_with t byte) lun)) e.Unaffected
    (either (names_lun g (row_with t byte) lun) e.ResetStarted (cond (is_shared g) (e.AnotherAddressed false) e.Unaffected) refl (either (is_shared g) (e.AnotherAddressed false) e.Unaffected refl refl)) refl
address_keeps g t byte k.ReadParameterPage n lun = either (wants_address t byte) (of_target g lun e.ParameterPageReadStarted) e.Unaffected (target_keeps g lun e.ParameterPageReadStarted refl) refl
address_keeps g t byte k.PageProgram n lun =
    either (n == 4) (program_row_effect (names_lun g (row_with t byte) lun)) e.Unaffected (either (names_lun g (row_with t byte) lun) e.ProgramAddressed e.Unaffected refl refl) refl
address_keeps g t byte _ n lun = refl

opening_keeps : (g : Parts) (t : TailFacts) (byte : ℕ) (o : Option Opening) (lun : ℕ) → Keeps (opening_address_effect g t byte o lun)
opening_keeps g t byte None lun = refl
opening_keeps g t byte (Some o) lun = address_keeps g t byte o.opener o.addresses lun

cycle_keeps : (g : Parts) (t : TailFacts) (latch : Latch) (c : TargetCycle) (lun : ℕ) → Keeps (cycle_effect g t latch c lun)
cycle_keeps g t latch (CommandCycle c) lun = command_keeps g t latch c lun
cycle_keeps g t latch (AddressCycle byte) lun = opening_keeps g t byte t.opening lun
cycle_keeps g t latch (InputCycle byte) lun = either (ends_features t) (of_target g lun (e.FeaturesSet (t.column % 256))) e.Unaffected (target_keeps g lun (e.FeaturesSet (t.column % 256)) refl) refl
cycle_keeps g t latch OutputCycle lun = either (is_data latch) e.DataOutput e.Unaffected refl refl

ready_ends : (b : Bool) (fail : Failures) → busy_after (cond b (e.BecameReady fail) e.Unaffected) true ≡ not b
ready_ends true fail = refl
ready_ends false fail = refl

-- of a LUN that is busy
busy_ends : (g : Parts) (past : List Item) (i : Item) (l : Lun) → busy_after (effect_on g past i l) true ≡ not (is_ready_of i l.ce l.lun)
unfolding effect_among
busy_ends g past (Cyc c) l = either (c.ce == l.ce) (cycle_effect g (facts_of (tail past l.ce)) (latch_alone g past l) (target_cycle c.kind c.byte) l.lun) e.Unaffected (cycle_keeps g (facts_of (tail past l.ce)) (latch_alone g past l) (target_cycle c.kind c.byte) l.lun) refl
busy_ends g past (Rdy ce lun fail) l = ready_ends (ce == l.ce && lun == l.lun) fail
busy_ends g past (Ard ce lun fail) l = either (ce == l.ce && lun == l.lun) (e.ArrayBecameReady fail) e.Unaffected refl refl

-- of a LUN whose array is busy, by an item that isn't seen on the bus
array_ends : (g : Parts) (past : List Item) (i : Item) (l : Lun) (busy : Bool) (last : Option Command) → is_ready i ≡ true → array_busy_after (effect_on g past i l) busy last true ≡ not (is_array_ready_of i l.ce l.lun)
unfolding effect_among
array_ends g past (Cyc c) l busy last h = absurd (false≢true h)
array_ends g past (Rdy ce lun fail) l busy last h = by (ce == l.ce && lun == l.lun)
  where
    by : (b : Bool) → array_busy_after (cond b (e.BecameReady fail) e.Unaffected) busy last true ≡ true
    by true = refl
    by false = refl
array_ends g past (Ard ce lun fail) l busy last h = by (ce == l.ce && lun == l.lun)
  where
    by : (b : Bool) → array_busy_after (cond b (e.ArrayBecameReady fail) e.Unaffected) busy last true ≡ not b
    by true = refl
    by false = refl

told_there : (ce lun : ℕ) (fail : Bool) → (ce == ce && lun == lun && fail) ≡ fail
told_there ce lun fail =
    ap (λ (b : Bool). (b && (lun == lun)) && fail) (eq-eqb ce ce refl)
    ∙ ap (λ (b : Bool). b && fail) (eq-eqb lun lun refl)

failure_told : (past : List Item) (ce lun : ℕ) (fail : Failures) → tells_failure (Rdy ce lun fail ∷ past) ce lun ≡ fail.last
failure_told past ce lun fail = told_there ce lun fail.last

array_failure_told : (past : List Item) (ce lun : ℕ) (fail : Bool) → tells_failure (Ard ce lun fail ∷ past) ce lun ≡ fail
array_failure_told past ce lun fail = told_there ce lun fail

-- ---- 2. where its lines stand

-- what is told of a LUN: whether it is busy, its array is, or it has failed
abbrev told : (known : Bool) → Parts → List Item → (part ce lun : ℕ) → ℕ
told known g past zero ce lun = shown known (is_busy g past ce lun)
told known g past (suc zero) ce lun = shown known (has_busy_array g past ce lun)
told known g past (suc (suc part)) ce lun = shown known (tells_failure past ce lun)

first_at : (known : Bool) (g : Parts) (past : List Item) (ce count n : ℕ) (rest : List ℕ) (part : ℕ) → part < 3 → get_or (target_levels known g past ce (suc count) n ++ rest) part 0 ≡ told known g past part ce n
first_at known g past ce count n rest zero h = refl
first_at known g past ce count n rest (suc zero) h = refl
first_at known g past ce count n rest (suc (suc zero)) h = refl
first_at known g past ce count n rest (suc (suc (suc part))) h = absurd (omega (arith, h))

target_at : (known : Bool) (g : Parts) (past : List Item) (ce count n lun : ℕ) (rest : List ℕ) (part : ℕ) → part < 3 → lun < count → get_or (target_levels known g past ce count n ++ rest) (3 * lun + part) 0 ≡ told known g past part ce (n + lun)
target_at known g past ce zero n lun rest part few h = absurd (omega (arith, h))
target_at known g past ce (suc count) n zero rest part few h =
    let same : n ≡ n + 0 = omega arith in
    let place : 3 * 0 + part ≡ part = omega arith in
    ap (λ (m : ℕ). get_or (target_levels known g past ce (suc count) n ++ rest) m 0) place
    ∙ first_at known g past ce count n rest part few
    ∙ ap (λ (m : ℕ). told known g past part ce m) same
target_at known g past ce (suc count) n (suc lun) rest part few h =
    let place : 3 * suc lun + part ≡ suc (suc (suc (3 * lun + part))) = omega arith in
    let next : n + 1 + lun ≡ n + suc lun = omega arith in
    ap (λ (m : ℕ). get_or (target_levels known g past ce (suc count) n ++ rest) m 0) place
    ∙ target_at known g past ce count (n + 1) lun rest part few (omega (arith, h))
    ∙ ap (λ (m : ℕ). told known g past part ce m) next

channel_at : (known : Bool) (g : Parts) (past : List Item) (part lun : ℕ) → part < 3 → lun < g.luns → (count n ce : ℕ) (rest : List ℕ) → ce < count →
    get_or (targets_levels known g past count n ++ rest) (3 * (ce * g.luns + lun) + part) 0 ≡ told known g past part (n + ce) lun
channel_at known g past part lun few h zero n ce rest small = absurd (omega (arith, small))
channel_at known g past part lun few h (suc count) n zero rest small =
    let here = target_levels known g past n g.luns 0 in
    let later = targets_levels known g past count (n + 1) in
    let place : 3 * (0 * g.luns + lun) + part ≡ 3 * lun + part = omega arith in
    let which : n ≡ n + 0 = omega arith in
    let mine : 0 + lun ≡ lun = omega arith in
    ap (λ (xs : List ℕ). get_or xs (3 * (0 * g.luns + lun) + part) 0) (append_assoc here later rest)
    ∙ ap (λ (m : ℕ). get_or (here ++ (later ++ rest)) m 0) place
    ∙ target_at known g past n g.luns 0 lun (later ++ rest) part few h
    ∙ ap (λ (m : ℕ). told known g past part n m) mine
    ∙ ap (λ (m : ℕ). told known g past part m lun) which
channel_at known g past part lun few h (suc count) n (suc ce) rest small =
    let here = target_levels known g past n g.luns 0 in
    let later = targets_levels known g past count (n + 1) in
    let long = length_target known g past n g.luns 0 in
    let more = suc-mul ce g.luns in
    let place : 3 * (suc ce * g.luns + lun) + part ≡ length here + (3 * (ce * g.luns + lun) + part) = omega (arith, long, more) in
    let next : n + 1 + ce ≡ n + suc ce = omega arith in
    ap (λ (xs : List ℕ). get_or xs (3 * (suc ce * g.luns + lun) + part) 0) (append_assoc here later rest)
    ∙ ap (λ (m : ℕ). get_or (here ++ (later ++ rest)) m 0) place
    ∙ get_or-append-add here (later ++ rest) (3 * (ce * g.luns + lun) + part) 0
    ∙ channel_at known g past part lun few h count (n + 1) ce rest (omega (arith, small))
    ∙ ap (λ (m : ℕ). told known g past part m lun) next

level_at : (g : Parts) (targets : ℕ) (past : List Item) (rule : ℕ) (l : Lines) (part ce lun code : ℕ) → part < 3 → ce < targets → lun < g.luns → code ≡ busy_code g.luns targets ce lun + part →
    held_of code (levels g targets past rule l) ≡ told (rule == 0) g past part ce lun
level_at g targets past rule l part ce lun code few h k is =
    let j = 3 * (ce * g.luns + lun) + part in
    let bus = bus_levels targets l in
    let ready = readies (rule == 0) g past targets 0 in
    let all = targets_levels (rule == 0) g past targets 0 in
    let bus_long = length_bus targets l in
    let ready_long = length_readies (rule == 0) g past targets 0 in
    let place : code - 33 ≡ length bus + (length ready + j) = omega (arith, bus_long, ready_long, is) in
    let mine : 0 + ce ≡ ce = omega arith in
    ap (λ (m : ℕ). get_or (bus ++ (ready ++ (all ++ rule_bits rule))) m 0) place
    ∙ get_or-append-add bus (ready ++ (all ++ rule_bits rule)) (length ready + j) 0
    ∙ get_or-append-add ready (all ++ rule_bits rule) j 0
    ∙ channel_at (rule == 0) g past part lun few k targets 0 ce (rule_bits rule) h
    ∙ ap (λ (m : ℕ). told (rule == 0) g past part m lun) mine

-- ---- 3. the law

bit_back : (high : Bool) → bit high ≡ bit true → high ≡ true
bit_back true h = refl
bit_back false h = absurd (omega (arith, h))

record Stood (g : Parts) (targets : ℕ) (d : Drawing) (i : Item) : Type 0 where
  was : d.rule ≡ 0
  past : (after g targets d i).past ≡ i ∷ d.past

stood : (g : Parts) (targets : ℕ) (d : Drawing) (i : Item) → (after g targets d i).rule ≡ 0 → Stood g targets d i
stood g targets d i h = record { was = was (d.rule == 0) refl; past = ap (λ (n : ℕ). cond (n == 0) (i ∷ d.past) d.past) h }
  where
    was : (x : Bool) → d.rule == 0 ≡ x → d.rule ≡ 0
    was true is = eqb-true d.rule 0 is
    was false is = sym (ap (λ (x : Bool). cond x ((after g targets (record { items = d.items; past = d.past; rule = 0; lines = d.lines }) i).rule) d.rule) is) ∙ h

module _ (g : Parts) (targets : ℕ) (items : List Item) (next : Item) (first : List ℕ) (ce lun : ℕ) (whole : length first ≡ length (levels g targets [] 0 idle)) (h : ce < targets) (k : lun < g.luns)
    (legal : (drawn_by g targets (items ++ (next ∷ []))).rule ≡ 0) where
  abbrev d : Drawing
  d = drawn_by g targets items

  abbrev lun_there : Lun
  lun_there = record { ce = ce; lun = lun }

  on : drawn_by g targets (items ++ (next ∷ [])) ≡ after g targets d next
  on = drawn_on g targets items (next ∷ []) begun

  stood_here : Stood g targets d next
  stood_here = stood g targets d next (sym (ap (λ (x : Drawing). x.rule) on) ∙ legal)

  held_before : (part code : ℕ) → part < 3 → code ≡ busy_code g.luns targets ce lun + part →
      held_of code (all_heard first (told_by g targets items ++ strobe_events g targets d next)) ≡ told true g d.past part ce lun
  held_before part code few is =
      ap (held_of code) ((are_heard g targets items first whole).struck next)
      ∙ level_at g targets d.past d.rule (lines_struck d.lines next) part ce lun code few h k is
      ∙ ap (λ (n : ℕ). told (n == 0) g d.past part ce lun) stood_here.was

  held_after : (part code : ℕ) → part < 3 → code ≡ busy_code g.luns targets ce lun + part →
      held_of code (all_heard first (told_by g targets (items ++ (next ∷ [])))) ≡ told true g (next ∷ d.past) part ce lun
  held_after part code few is =
      ap (held_of code) ((are_heard g targets (items ++ (next ∷ [])) first whole).drawn ∙ ap (λ (x : Drawing). levels g targets x.past x.rule x.lines) on)
      ∙ level_at g targets (after g targets d next).past (after g targets d next).rule (after g targets d next).lines part ce lun code few h k is
      ∙ ap (λ (n : ℕ). told (n == 0) g (after g targets d next).past part ce lun) (sym (ap (λ (x : Drawing). x.rule) on) ∙ legal)
      ∙ ap (λ (past : List Item). told true g past part ce lun) stood_here.past

  pub readies_are_seen : AreSeen (busy_code g.luns targets ce lun) next ce lun (all_heard first (told_by g targets items ++ strobe_events g targets d next)) (all_heard first (told_by g targets (items ++ (next ∷ []))))
  readies_are_seen = record {
    busy = λ high.
        let code = busy_code g.luns targets ce lun in
        let same : code ≡ code + 0 = omega arith in
        held_after 0 code (omega arith) same
        ∙ ap (λ (b : Bool). bit (busy_after (effect_on g d.past next lun_there) b)) (bit_back (is_busy g d.past ce lun) (sym (held_before 0 code (omega arith) same) ∙ high))
        ∙ ap bit (busy_ends g d.past next lun_there);
    array = λ unseen high.
        let code = busy_code g.luns targets ce lun + 1 in
        held_after 1 code (omega arith) refl
        ∙ ap (λ (b : Bool). bit (array_busy_after (effect_on g d.past next lun_there) (lun_is_busy g d.past lun_there) (closer g d.past lun_there) b)) (bit_back (has_busy_array g d.past ce lun) (sym (held_before 1 code (omega arith) refl) ∙ high))
        ∙ ap bit (array_ends g d.past next lun_there (lun_is_busy g d.past lun_there) (closer g d.past lun_there) unseen);
    failure = λ fail is.
        held_after 2 (busy_code g.luns targets ce lun + 2) (omega arith) refl
        ∙ ap (λ (i : Item). bit (tells_failure (i ∷ d.past) ce lun)) is
        ∙ ap bit (failure_told d.past ce lun fail);
    array_failure = λ fail is.
        held_after 2 (busy_code g.luns targets ce lun + 2) (omega arith) refl
        ∙ ap (λ (i : Item). bit (tells_failure (i ∷ d.past) ce lun)) is
        ∙ ap bit (array_failure_told d.past ce lun fail);
  }
