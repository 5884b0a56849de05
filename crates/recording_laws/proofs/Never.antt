-- On a chip that declares no Page Cache Program, no LUN programs behind its ready.
use Rattle.std.proofs.Common.{◌≡◌, ℕ, ◌==◌, Bool, true, false, cond, not, ◌&&◌, ◌||◌, List, [], ◌∷◌, Option, Some, None, refl}
use Rattle.std.proofs.lemmas.Bool.{and_parts, or_parts}
use Rattle.nand_geometry.specs.declared.parts.Parts.{Parts}
use Rattle.nand_geometry.specs.Limits.{planes}
use Rattle.nand_geometry.specs.Optional.{has_copyback, has_program_cache}
use Rattle.onfi_cycle.specs.declared.command.Command.{Command}
use Rattle.onfi_cycle.specs.declared.command.Command.TheVariants.{Read, ReadStatus, ReadStatusEnhanced, Reset, SynchronousReset, ReadCacheSequential, ReadCacheEnd, ChangeReadColumnConfirm, ReadId, ReadParameterPage, ReadUniqueId, GetFeatures, ResetLun, PageProgram, ProgramCache}
use Rattle.onfi_cycle.specs.declared.effect.Effect.{Effect}
use Rattle.onfi_cycle.specs.declared.effect.Effect.TheVariants.{Unaffected, StatusSelected, StatusOfSelected, SelectedForStatus, Deselected, IdRead, IdentityRead, UniqueIdReadStarted, FeaturesReadStarted, FeaturesSet, ParameterPageReadStarted, CacheReadContinued, CacheReadEnded, ReadColumnChanged, PlaneSelected, DataOutput, ResetStarted, TargetResetStarted, AnotherAddressed, ProgramAddressed, BecameReady, ArrayBecameReady}
use Rattle.onfi_cycle.specs.declared.forbidden.Forbidden.{Forbidden}
use Rattle.onfi_cycle.specs.declared.forbidden.Forbidden.TheVariants.{NotThere}
use Rattle.onfi_cycle.specs.declared.item.Item.{Item}
use Rattle.onfi_cycle.specs.declared.item.Item.TheVariants.{Cyc, Rdy, Ard}
use Rattle.onfi_cycle.specs.declared.latch.Latch.{Latch}
use Rattle.onfi_cycle.specs.declared.lun.Lun.{Lun}
use Rattle.onfi_cycle.specs.declared.opening.Opening.{Opening}
use Rattle.onfi_cycle.specs.declared.tail_facts.TailFacts.{TailFacts}
use Rattle.onfi_cycle.specs.declared.target_cycle.TargetCycle.{TargetCycle}
use Rattle.onfi_cycle.specs.declared.target_cycle.TargetCycle.TheVariants.{CommandCycle, AddressCycle, InputCycle, OutputCycle}
use Rattle.onfi_cycle.specs.Command.{closes_row, reads_row}
use Rattle.onfi_cycle.specs.Effect.{is_off, is_data, is_shared, acts_for_target, of_target, lun_reset_effect, confirm_effect, other_effect, row_effect, cache_effect, plane_of_row, plane_effect, column_effect, names_lun, id_effect, command_effect, address_effect, opening_address_effect, ends_features, cycle_effect, program_row_effect, effect_given}
use Rattle.onfi_cycle.specs.Lun.{lun_view, luns_of, effect_among, alone}
use Rattle.onfi_cycle.specs.Permitted.{judge_cycle, broken, is_permitted, is_legal}
use Rattle.onfi_cycle.specs.Rules.{breaks_not_there, breaks_command_unknown}
use Rattle.onfi_cycle.specs.Sequence.{target_cycle, tail, facts_of, selects_plane, wants_address, wants_command, row, row_with}
use Rattle.onfi_cycle.proofs.Passed.{keeps_rules}
use Rattle.trace_faults.specs.Middle.{stops_others, waits_for_reset}
use Rattle.trace_faults.proofs.Judged.{nothing}
use Rattle.recording_laws.proofs.Luns.{IsNarrow, IsSpare, NoCacheProgram, spare_after}

-- a chip that isn't judged from a reset on
pub narrow_of : (g : Parts) → waits_for_reset g ≡ false → IsNarrow g
narrow_of g h =
    let more = (or_parts (stops_others g) (has_copyback g.optional || has_program_cache g.optional) h).1 in
    let parts = or_parts (has_copyback g.optional) (has_program_cache g.optional) more in
    record { copyback = parts.0; cache = parts.1 }

-- ---- 1. no cycle begins such a program

never_either : (b : Bool) (x y : Effect) → NoCacheProgram x → NoCacheProgram y → NoCacheProgram (cond b x y)
never_either true x y h k = h
never_either false x y h k = k

never_other : (g : Parts) (u : TailFacts) (c : Command) → NoCacheProgram (other_effect g u c)
never_other g u c = never_either (closes_row c && (wants_command u c && is_shared g)) (AnotherAddressed (reads_row c)) Unaffected tt tt

never_target : (g : Parts) (n : ℕ) (e : Effect) → NoCacheProgram e → NoCacheProgram (of_target g n e)
never_target g n e h = never_either (acts_for_target g n) e Deselected h tt

never_command : (g : Parts) → has_program_cache g.optional ≡ false → (u : TailFacts) (la : Latch) (c : Command) (n : ℕ) → breaks_command_unknown g (CommandCycle c) ≡ false → NoCacheProgram (command_effect g u la c n)
unfolding breaks_command_unknown
never_command g none u la Read n f2 = tt
never_command g none u la ReadStatus n f2 = never_either (is_shared g) StatusOfSelected StatusSelected tt tt
never_command g none u la ReadStatusEnhanced n f2 = tt
never_command g none u la Reset n f2 = never_either (is_shared g) (TargetResetStarted (n == 0)) ResetStarted tt tt
never_command g none u la SynchronousReset n f2 = never_either (is_shared g) (TargetResetStarted (n == 0)) ResetStarted tt tt
never_command g none u la ReadCacheSequential n f2 =
    never_either (wants_command u ReadCacheSequential) (row_effect g u ReadCacheSequential n) (cache_effect la)
    (never_either (wants_command u ReadCacheSequential && names_lun g (row u) n) (confirm_effect g u ReadCacheSequential) (other_effect g u ReadCacheSequential) tt (never_other g u ReadCacheSequential))
    (never_either (is_off la) Unaffected (CacheReadContinued None) tt tt)
never_command g none u la ReadCacheEnd n f2 = never_either (is_off la) Unaffected CacheReadEnded tt tt
never_command g none u la ChangeReadColumnConfirm n f2 =
    never_either (selects_plane u) (plane_effect g u n) (column_effect u la) (never_either (names_lun g (row u) n) (PlaneSelected (plane_of_row g (row u)) (planes g) u.column) Deselected tt tt)
    (never_either (wants_command u ChangeReadColumnConfirm && not (is_off la)) (ReadColumnChanged u.column) Unaffected tt tt)
never_command g none u la ProgramCache n f2 = let known : true ≡ false = rw none at f2 in cc
never_command g none u la c n f2 = never_either (wants_command u c && names_lun g (row u) n) (confirm_effect g u c) (other_effect g u c) tt (never_other g u c)

never_id : (byte : ℕ) → NoCacheProgram (id_effect byte)
never_id byte = never_either (byte == 0x20) IdRead (IdentityRead (byte == 0x40)) tt tt

never_address : (g : Parts) (u : TailFacts) (byte : ℕ) (c : Command) (m n : ℕ) → NoCacheProgram (address_effect g u byte c m n)
never_address g u byte ReadStatusEnhanced m n = never_either (m == 2) (cond (names_lun g (row_with u byte) n) SelectedForStatus Deselected) Unaffected (never_either (names_lun g (row_with u byte) n) SelectedForStatus Deselected tt tt) tt
never_address g u byte ReadId m n = never_either (wants_address u byte) (of_target g n (id_effect byte)) Unaffected (never_target g n (id_effect byte) (never_id byte)) tt
never_address g u byte ReadParameterPage m n = never_either (wants_address u byte) (of_target g n ParameterPageReadStarted) Unaffected (never_target g n ParameterPageReadStarted tt) tt
never_address g u byte ReadUniqueId m n = never_either (wants_address u byte) (of_target g n UniqueIdReadStarted) Unaffected (never_target g n UniqueIdReadStarted tt) tt
never_address g u byte GetFeatures m n = never_either (wants_address u byte) (of_target g n (FeaturesReadStarted byte)) Unaffected (never_target g n (FeaturesReadStarted byte) tt) tt
never_address g u byte ResetLun m n =
    never_either (m == 2) (lun_reset_effect g (names_lun g (row_with u byte) n)) Unaffected
    (never_either (names_lun g (row_with u byte) n) ResetStarted (cond (is_shared g) (AnotherAddressed false) Unaffected) tt (never_either (is_shared g) (AnotherAddressed false) Unaffected tt tt)) tt
never_address g u byte PageProgram m n = never_either (m == 4) (program_row_effect (names_lun g (row_with u byte) n)) Unaffected (never_either (names_lun g (row_with u byte) n) ProgramAddressed Unaffected tt tt) tt
never_address g u byte c m n = tt

never_opening : (g : Parts) (u : TailFacts) (byte : ℕ) (o : Option Opening) (n : ℕ) → NoCacheProgram (opening_address_effect g u byte o n)
never_opening g u byte None n = tt
never_opening g u byte (Some o) n = never_address g u byte o.opener o.addresses n

pub never_cycle : (g : Parts) → has_program_cache g.optional ≡ false → (u : TailFacts) (la : Latch) (d : TargetCycle) (n : ℕ) → breaks_command_unknown g d ≡ false → NoCacheProgram (cycle_effect g u la d n)
never_cycle g none u la (CommandCycle c) n f2 = never_command g none u la c n f2
never_cycle g none u la (AddressCycle byte) n f2 = never_opening g u byte u.opening n
never_cycle g none u la (InputCycle byte) n f2 = never_either (ends_features u) (of_target g n (FeaturesSet _)) Unaffected (never_target g n (FeaturesSet _) tt) tt
never_cycle g none u la OutputCycle n f2 = never_either (is_data la) DataOutput Unaffected tt tt

-- ---- 2. nor has one begun

else_none : (b : Bool) (x : Option Forbidden) (rule : Forbidden) → cond b (Some rule) x ≡ None → x ≡ None
else_none true x rule h = cc
else_none false x rule h = h

never_given : (g : Parts) (targets : ℕ) → has_program_cache g.optional ≡ false → (past : List Item) (la : Latch) (i : Item) (l : Lun) → is_permitted g targets past i ≡ true → NoCacheProgram (effect_given g past la i l)
never_given g targets none past la (Cyc c) l h =
    never_either (c.ce == l.ce) (cycle_effect g (facts_of (tail past l.ce)) la (target_cycle c.kind c.byte) l.lun) Unaffected (never_cycle g none (facts_of (tail past l.ce)) la (target_cycle c.kind c.byte) l.lun f2) tt
  where
    judged : judge_cycle g (facts_of (tail past c.ce)) (luns_of g past c.ce) (target_cycle c.kind c.byte) ≡ None
    judged = else_none (breaks_not_there targets (luns_of g past c.ce) (Cyc c)) (judge_cycle g (facts_of (tail past c.ce)) (luns_of g past c.ce) (target_cycle c.kind c.byte)) NotThere (nothing (broken g targets past (Cyc c)) h)

    f2 : breaks_command_unknown g (target_cycle c.kind c.byte) ≡ false
    f2 = (keeps_rules g (facts_of (tail past c.ce)) (luns_of g past c.ce) (target_cycle c.kind c.byte) judged).f2
never_given g targets none past la (Rdy ce lun fail) l h = never_either (ce == l.ce && lun == l.lun) (BecameReady fail) Unaffected tt tt
never_given g targets none past la (Ard ce lun fail) l h = never_either (ce == l.ce && lun == l.lun) (ArrayBecameReady fail) Unaffected tt tt

pub spare_past : (g : Parts) (targets : ℕ) (past : List Item) → has_program_cache g.optional ≡ false → is_legal g targets past ≡ true → (l : Lun) → IsSpare (lun_view g past l)
unfolding effect_among
spare_past g targets [] none legal l = record { closer = refl; array = λ h. refl }
spare_past g targets (i ∷ past) none legal l =
    let parts = and_parts (is_permitted g targets past i) (is_legal g targets past) legal in
    let latches : ℕ → Latch = λ m. (lun_view g past (record { ce = l.ce; lun = m })).latch in
    let after =
    spare_after (effect_among g past latches i l) (lun_view g past l) (never_given g targets none past (alone g.luns latches l.lun) i l parts.0) (spare_past g targets past none parts.1 l)
    in
    record { closer = after.closer; array = after.array }
