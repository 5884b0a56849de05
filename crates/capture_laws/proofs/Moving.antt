-- What an item that breaks no rule does to the LUNs, as a dump shows it.
use Rattle.std.proofs.Common.{◌≡◌, ℕ, zero, suc, ◌+◌, ◌<◌, ◌==◌, ◌&&◌, ◌||◌, Bool, true, false, cond, not, List, [], ◌∷◌, ◌++◌, Option, Some, None, refl, sym, ap, ◌∙◌, subst, arith}
use Rattle.std.specs.Prelude.{nat_le, is_none}
use Rattle.std.proofs.lemmas.Bool.{eqb-true, leb-false, and_parts, false≢true}
use Rattle.nand_geometry.specs.declared.parts.Parts.{Parts}
use Rattle.nand_geometry.specs.Optional.{has_program_cache}
use Rattle.onfi_cycle.specs.declared.effect.Effect.{Effect}
use Rattle.onfi_cycle.specs.declared.effect.Effect.TheVariants as e
use Rattle.onfi_cycle.specs.declared.forbidden.Forbidden.{Forbidden}
use Rattle.onfi_cycle.specs.declared.forbidden.Forbidden.TheVariants as F
use Rattle.onfi_cycle.specs.declared.forbidden.Forbidden.TheVariants.{NotThere}
use Rattle.onfi_cycle.specs.declared.item.Item.{Item}
use Rattle.onfi_cycle.specs.declared.item.Item.TheVariants.{Cyc, Rdy, Ard}
use Rattle.onfi_cycle.specs.declared.lun.Lun.{Lun}
use Rattle.onfi_cycle.specs.LunView.{LunView}
use Rattle.onfi_cycle.specs.Sequence.{target_of, tail, facts_of}
use Rattle.onfi_cycle.specs.Rules.{lun_is, breaks_not_there}
use Rattle.onfi_cycle.specs.Lun.{lun_view, views_from, luns_of, effect_on, busy_after, array_busy_after, keeps_array_busy, is_cache_program, is_plane_program}
use Rattle.onfi_cycle.specs.Permitted.{judge_item, broken, is_permitted, is_legal}
use Rattle.bus_lines.specs.Lines.{idle}
use Rattle.trace_wave.specs.Levels.{bit, levels, is_busy, has_busy_array}
use Rattle.trace_wave.specs.Wave.{Drawing, begun, after, after_all, past_next, rule_number, number_of, levels_at, lines_struck, is_ready}
use Rattle.wave_laws.specs.Told.{strobe_events}
use Rattle.wave_laws.specs.Heard.{all_heard, told_by, drawn_by}
use Rattle.wave_laws.specs.Readies.{held_of, busy_code, is_ready_of, is_array_ready_of, AreSeen}
use Rattle.wave_laws.proofs.Followed.{are_heard, drawn_on}
use Rattle.wave_laws.proofs.Readies.{readies_are_seen}
use Rattle.recording_laws.proofs.Luns.{IsSpare}
use Rattle.recording_laws.proofs.Never.{spare_past}
use Rattle.capture_laws.proofs.Standing.{told, told_at}

-- ---- 1. no rule is broken before an item that breaks none

pub record Stood (g : Parts) (targets : ℕ) (d : Drawing) (i : Item) : Type 0 where
  pub was : d.rule ≡ 0
  pub past : (after g targets d i).past ≡ i ∷ d.past

pub stood : (g : Parts) (targets : ℕ) (d : Drawing) (i : Item) → (after g targets d i).rule ≡ 0 → Stood g targets d i
stood g targets d i h = record { was = was (d.rule == 0) refl; past = ap (λ (n : ℕ). cond (n == 0) (i ∷ d.past) d.past) h }
  where
    was : (x : Bool) → d.rule == 0 ≡ x → d.rule ≡ 0
    was true is = eqb-true d.rule 0 is
    was false is = sym (ap (λ (x : Bool). cond x ((after g targets (record { items = d.items; past = d.past; rule = 0; lines = d.lines }) i).rule) d.rule) is) ∙ h

pub all_stood : (g : Parts) (targets : ℕ) (d : Drawing) (items : List Item) → (after_all g targets d items).rule ≡ 0 → d.rule ≡ 0
all_stood g targets d [] h = h
all_stood g targets d (i ∷ items) h = (stood g targets d i (all_stood g targets (after g targets d i) items h)).was

-- ---- 2. what it names is there

lun_there : (g : Parts) (past : List Item) (ce : ℕ) (test : LunView → Bool) (count from n : ℕ) → lun_is test (views_from g past ce count from) n ≡ true →
    (n < count) × (test (lun_view g past (record { ce = ce; lun = from + n })) ≡ true)
lun_there g past ce test zero from n h = absurd (false≢true h)
lun_there g past ce test (suc count) from zero h =
    let same : from ≡ from + 0 = omega arith in
    (omega arith, ap (λ (m : ℕ). test (lun_view g past (record { ce = ce; lun = m }))) (sym same) ∙ h)
lun_there g past ce test (suc count) from (suc n) h =
    let next : from + 1 + n ≡ from + suc n = omega arith in
    let rest = lun_there g past ce test count (from + 1) n h in
    let few = rest.0 in
    (omega (arith, few), ap (λ (m : ℕ). test (lun_view g past (record { ce = ce; lun = m }))) (sym next) ∙ rest.1)

is_there : (g : Parts) (targets : ℕ) (d : Drawing) (i : Item) → d.rule ≡ 0 → (after g targets d i).rule ≡ 0 → breaks_not_there targets (luns_of g d.past (target_of i)) i ≡ false
is_there g targets d i none h = by (breaks_not_there targets (luns_of g d.past (target_of i)) i) refl
  where
    permitted : number_of (broken g targets d.past i) ≡ 0
    permitted = sym (ap (λ (n : ℕ). cond (n == 0) (number_of (broken g targets d.past i)) n) none) ∙ h

    by : (b : Bool) → breaks_not_there targets (luns_of g d.past (target_of i)) i ≡ b → breaks_not_there targets (luns_of g d.past (target_of i)) i ≡ false
    by true is =
        let one : 1 ≡ 0 = sym (ap (λ (b : Bool). number_of (cond b (Some NotThere) (judge_item g (facts_of (tail d.past (target_of i))) (luns_of g d.past (target_of i)) i))) is) ∙ permitted in
        absurd (omega (arith, one))
    by false is = is

neither : (a b : Bool) → (a || b) ≡ false → (a ≡ false) × (b ≡ false)
neither true b h = absurd (false≢true (sym h))
neither false b h = (refl, h)

is_not : (b : Bool) → not b ≡ false → b ≡ true
is_not true h = refl
is_not false h = absurd (false≢true (sym h))

pub record Names (g : Parts) (targets : ℕ) (past : List Item) (busy : Bool) (ce lun : ℕ) : Type 0 where
  pub target : ce < targets
  pub within : lun < g.luns
  pub works : cond busy (is_busy g past ce lun) (has_busy_array g past ce lun) ≡ true

abbrev pub Name : Parts → ℕ → List Item → Item → Type 0
Name g targets past (Cyc c) = c.ce < targets
Name g targets past (Rdy ce lun fail) = Names g targets past true ce lun
Name g targets past (Ard ce lun fail) = Names g targets past false ce lun

pub names : (g : Parts) (targets : ℕ) (d : Drawing) (i : Item) → d.rule ≡ 0 → (after g targets d i).rule ≡ 0 → Name g targets d.past i
unfolding breaks_not_there
names g targets d (Cyc c) none h = leb-false targets c.ce (is_there g targets d (Cyc c) none h)
names g targets d (Rdy ce lun fail) none h =
    let parts = neither (nat_le targets ce) (not (lun_is (λ v. v.busy) (luns_of g d.past ce) lun)) (is_there g targets d (Rdy ce lun fail) none h) in
    let there = lun_there g d.past ce (λ v. v.busy) g.luns 0 lun (is_not (lun_is (λ v. v.busy) (luns_of g d.past ce) lun) parts.1) in
    let same : 0 + lun ≡ lun = omega arith in
    record { target = leb-false targets ce parts.0; within = there.0; works = ap (λ (m : ℕ). is_busy g d.past ce m) (sym same) ∙ there.1 }
names g targets d (Ard ce lun fail) none h =
    let parts = neither (nat_le targets ce) (not (lun_is (λ v. v.array_busy) (luns_of g d.past ce) lun)) (is_there g targets d (Ard ce lun fail) none h) in
    let there = lun_there g d.past ce (λ v. v.array_busy) g.luns 0 lun (is_not (lun_is (λ v. v.array_busy) (luns_of g d.past ce) lun) parts.1) in
    let same : 0 + lun ≡ lun = omega arith in
    record { target = leb-false targets ce parts.0; within = there.0; works = ap (λ (m : ℕ). has_busy_array g d.past ce m) (sym same) ∙ there.1 }

-- ---- 3. where a chip programs no caches, a LUN that is busy has no array that is

-- an 11 keeps an array busy behind a 15, or behind an 11 that did
none_kept : (v : LunView) → IsSpare v → (keeps_array_busy v.closer && v.array_busy) ≡ false
none_kept v spare = by (is_cache_program v.closer) (is_plane_program v.closer) v.array_busy spare.closer spare.array
  where
    by : (program plane array : Bool) → program ≡ false → (plane ≡ true → array ≡ false) → ((program || plane) && array) ≡ false
    by true plane array none kept = absurd (false≢true (sym none))
    by false true array none kept = kept refl
    by false false array none kept = refl

not_both : (x : Effect) (v : LunView) → IsSpare v → (v.array_busy ≡ true → v.busy ≡ false) → array_busy_after x v.busy v.closer v.array_busy ≡ true → busy_after x v.busy ≡ false
not_both (e.BecameReady fail) v spare h k = refl
not_both (e.ArrayBecameReady _) v spare h k = absurd (false≢true k)
not_both (e.ReadStarted _ _) v spare h k = absurd (false≢true k)
not_both (e.ReadQueued _) v spare h k = absurd (false≢true k)
not_both (e.CopybackReadStarted _ _ _) v spare h k = absurd (false≢true k)
not_both (e.EraseStarted _ _) v spare h k = absurd (false≢true k)
not_both (e.ProgramStarted true _) v spare h k = absurd (false≢true (sym (none_kept v spare) ∙ k))
not_both (e.ProgramStarted false _) v spare h k = absurd (false≢true k)
not_both (e.CacheProgramStarted _) v spare h k = absurd (false≢true k)
not_both e.ParameterPageReadStarted v spare h k = absurd (false≢true k)
not_both e.UniqueIdReadStarted v spare h k = absurd (false≢true k)
not_both (e.FeaturesReadStarted _) v spare h k = absurd (false≢true k)
not_both (e.FeaturesSet _) v spare h k = absurd (false≢true k)
not_both (e.CacheReadContinued _) v spare h k = absurd (false≢true k)
not_both e.CacheReadEnded v spare h k = absurd (false≢true k)
not_both e.ResetStarted v spare h k = absurd (false≢true k)
not_both (e.TargetResetStarted _) v spare h k = absurd (false≢true k)
not_both e.IdRead v spare h k = absurd (false≢true k)
not_both (e.IdentityRead _) v spare h k = absurd (false≢true k)
not_both _ v spare h k = h k

array_alone : (g : Parts) (targets : ℕ) → has_program_cache g.optional ≡ false → (past : List Item) → is_legal g targets past ≡ true → (ce lun : ℕ) → has_busy_array g past ce lun ≡ true → is_busy g past ce lun ≡ false
array_alone g targets none [] legal ce lun h = refl
array_alone g targets none (i ∷ past) legal ce lun h =
    let l : Lun = record { ce = ce; lun = lun } in
    let before = (and_parts (is_permitted g targets past i) (is_legal g targets past) legal).1 in
    not_both (effect_on g past i l) (lun_view g past l) (spare_past g targets past none before l) (array_alone g targets none past before ce lun) h

-- so an array that becomes ready is seen
pub array_seen : (g : Parts) (targets : ℕ) (past : List Item) → is_legal g targets past ≡ true → (ce lun : ℕ) → has_busy_array g past ce lun ≡ true → (has_program_cache g.optional || not (is_busy g past ce lun)) ≡ true
array_seen g targets past legal ce lun h = by (has_program_cache g.optional) refl
  where
    by : (b : Bool) → has_program_cache g.optional ≡ b → (b || not (is_busy g past ce lun)) ≡ true
    by true is = refl
    by false is = ap not (array_alone g targets is past legal ce lun h)

-- what is drawn before a first broken rule is legal
none_numbered : (o : Option Forbidden) → number_of o ≡ 0 → is_none o ≡ true
none_numbered None h = refl
none_numbered (Some rule) h = absurd (numbered rule h)
  where
    numbered : (rule : Forbidden) → rule_number rule ≡ 0 → ⊥
    numbered F.NotThere h = absurd (omega (arith, h))
    numbered F.CommandUnknown h = absurd (omega (arith, h))
    numbered F.SequenceOpen h = absurd (omega (arith, h))
    numbered F.SeveralLuns h = absurd (omega (arith, h))
    numbered F.NoColumnToChange h = absurd (omega (arith, h))
    numbered F.CommandMisplaced h = absurd (omega (arith, h))
    numbered F.AddressMisplaced h = absurd (omega (arith, h))
    numbered F.RowOutside h = absurd (omega (arith, h))
    numbered F.LunBusy h = absurd (omega (arith, h))
    numbered F.QueueClash h = absurd (omega (arith, h))
    numbered F.InputMisplaced h = absurd (omega (arith, h))
    numbered F.NoSoleDriver h = absurd (omega (arith, h))
    numbered F.DataNotReady h = absurd (omega (arith, h))
    numbered F.ColumnOutside h = absurd (omega (arith, h))
    numbered F.CacheReadMisplaced h = absurd (omega (arith, h))
    numbered F.CacheProgramMisplaced h = absurd (omega (arith, h))
    numbered F.CopybackMisplaced h = absurd (omega (arith, h))
    numbered F.PlaneNotHeld h = absurd (omega (arith, h))

legal_next : (g : Parts) (targets : ℕ) (past : List Item) (i : Item) (free : Bool) (n rule : ℕ) → is_legal g targets past ≡ true → (n ≡ 0 → is_permitted g targets past i ≡ true) → (free ≡ false → rule == 0 ≡ false) →
    is_legal g targets (past_next past (cond free n rule) i) ≡ true
legal_next g targets past i true n rule h permitted kept = by (n == 0) refl
  where
    by : (none : Bool) → n == 0 ≡ none → is_legal g targets (past_next past n i) ≡ true
    by true is =
        ap (λ (b : Bool). is_legal g targets (cond b (i ∷ past) past)) is
        ∙ ap (λ (b : Bool). b && is_legal g targets past) (permitted (eqb-true n 0 is))
        ∙ h
    by false is = ap (λ (b : Bool). is_legal g targets (cond b (i ∷ past) past)) is ∙ h
legal_next g targets past i false n rule h permitted kept = ap (λ (b : Bool). is_legal g targets (cond b (i ∷ past) past)) (kept refl) ∙ h

next_legal : (g : Parts) (targets : ℕ) (d : Drawing) (i : Item) → is_legal g targets d.past ≡ true → is_legal g targets (after g targets d i).past ≡ true
next_legal g targets d i h =
    legal_next g targets d.past i (d.rule == 0) (number_of (broken g targets d.past i)) d.rule h (none_numbered (broken g targets d.past i)) (λ k. k)

pub drawn_legal : (g : Parts) (targets : ℕ) (items : List Item) (d : Drawing) → is_legal g targets d.past ≡ true → is_legal g targets (after_all g targets d items).past ≡ true
drawn_legal g targets [] d h = h
drawn_legal g targets (i ∷ items) d h = drawn_legal g targets items (after g targets d i) (next_legal g targets d i h)

-- ---- 4. and what becomes of them

bit_back : (high : Bool) → bit high ≡ bit true → high ≡ true
bit_back true h = refl
bit_back false h = absurd (omega (arith, h))

bit_same : (a b : Bool) → bit a ≡ bit b → a ≡ b
bit_same true true h = refl
bit_same true false h = absurd (omega (arith, h))
bit_same false true h = absurd (omega (arith, h))
bit_same false false h = refl

pub record Moves (g : Parts) (targets : ℕ) (past : List Item) (i : Item) : Type 0 where
  pub busy : (ce lun : ℕ) → ce < targets → lun < g.luns → is_busy g past ce lun ≡ true → is_busy g (i ∷ past) ce lun ≡ not (is_ready_of i ce lun)
  pub array : (ce lun : ℕ) → ce < targets → lun < g.luns → is_ready i ≡ true → has_busy_array g past ce lun ≡ true → has_busy_array g (i ∷ past) ce lun ≡ not (is_array_ready_of i ce lun)

module _ (g : Parts) (targets : ℕ) (items : List Item) (i : Item) (legal : (after g targets (drawn_by g targets items) i).rule ≡ 0) where
  abbrev d : Drawing
  d = drawn_by g targets items

  abbrev first : List ℕ
  first = levels g targets [] 0 idle

  on : drawn_by g targets (items ++ (i ∷ [])) ≡ after g targets d i
  on = drawn_on g targets items (i ∷ []) begun

  seen : (ce lun : ℕ) → ce < targets → lun < g.luns →
      AreSeen (busy_code g.luns targets ce lun) i ce lun (levels_at g targets d (lines_struck d.lines i)) (levels_at g targets (after g targets d i) (after g targets d i).lines)
  seen ce lun h k =
      subst (λ (held : List ℕ). AreSeen (busy_code g.luns targets ce lun) i ce lun held (levels_at g targets (after g targets d i) (after g targets d i).lines)) ((are_heard g targets items first refl).struck i)
      (subst (λ (held : List ℕ). AreSeen (busy_code g.luns targets ce lun) i ce lun (all_heard first (told_by g targets items ++ strobe_events g targets d i)) held)
      ((are_heard g targets (items ++ (i ∷ [])) first refl).drawn ∙ ap (λ (x : Drawing). levels_at g targets x x.lines) on)
      (readies_are_seen g targets items i first ce lun refl h k (ap (λ (x : Drawing). x.rule) on ∙ legal)))

  here : Stood g targets d i
  here = stood g targets d i legal

  held_before : (part ce lun : ℕ) → part < 3 → ce < targets → lun < g.luns → held_of (busy_code g.luns targets ce lun + part) (levels_at g targets d (lines_struck d.lines i)) ≡ told true g d.past part ce lun
  held_before part ce lun few h k =
      told_at g targets d.past d.rule (lines_struck d.lines i) part ce lun (busy_code g.luns targets ce lun + part) few h k refl
      ∙ ap (λ (n : ℕ). told (n == 0) g d.past part ce lun) here.was

  held_after : (part ce lun : ℕ) → part < 3 → ce < targets → lun < g.luns → held_of (busy_code g.luns targets ce lun + part) (levels_at g targets (after g targets d i) (after g targets d i).lines) ≡ told true g (i ∷ d.past) part ce lun
  held_after part ce lun few h k =
      told_at g targets (after g targets d i).past (after g targets d i).rule (after g targets d i).lines part ce lun (busy_code g.luns targets ce lun + part) few h k refl
      ∙ ap (λ (n : ℕ). told (n == 0) g (after g targets d i).past part ce lun) legal
      ∙ ap (λ (past : List Item). told true g past part ce lun) here.past

  pub moves : Moves g targets d.past i
  moves = record {
    busy = λ ce lun h k is.
        let code = busy_code g.luns targets ce lun in
        let same : code ≡ code + 0 = omega arith in
        bit_same (is_busy g (i ∷ d.past) ce lun) (not (is_ready_of i ce lun))
        (sym (held_after 0 ce lun (omega arith) h k) ∙ ap (λ (n : ℕ). held_of n (levels_at g targets (after g targets d i) (after g targets d i).lines)) (sym same)
        ∙ (seen ce lun h k).busy (ap (λ (n : ℕ). held_of n (levels_at g targets d (lines_struck d.lines i))) same ∙ held_before 0 ce lun (omega arith) h k ∙ ap bit is));
    array = λ ce lun h k ready is.
        bit_same (has_busy_array g (i ∷ d.past) ce lun) (not (is_array_ready_of i ce lun))
        (sym (held_after 1 ce lun (omega arith) h k) ∙ (seen ce lun h k).array ready (held_before 1 ce lun (omega arith) h k ∙ ap bit is));
  }
