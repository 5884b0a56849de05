-- What stands beside the array: the commands that read or set it, and their one address, are sound.
use Rattle.std.proofs.Common.{◌≡◌, ℕ, zero, suc, ◌≤◌, ◌==◌, Bool, true, false, ◌&&◌, ◌||◌, cond, not, ltb, nat_le, List, [], ◌∷◌, Option, Some, None, refl, sym, ap, ◌∙◌, subst, arith, eqb-true, take}
use Rattle.std.proofs.lemmas.Bool.Decides.{nat_tests}
use Rattle.std.proofs.lemmas.Bool.{not-false, and_parts, or_parts}
use Rattle.nand_geometry.specs.declared.parts.Parts.{Parts}
use Rattle.nand_geometry.specs.Optional.{is_wide, has_features, has_unique_id}
use Rattle.onfi_cycle.specs.declared.command.Command.{Command}
use Rattle.onfi_cycle.specs.declared.command.Command.TheVariants.{ReadId, ReadParameterPage, ReadUniqueId, GetFeatures, SetFeatures}
use Rattle.onfi_cycle.specs.declared.item.Item.{Item}
use Rattle.onfi_cycle.specs.declared.item.Kind.TheVariants.{Adr}
use Rattle.onfi_cycle.specs.declared.target_cycle.TargetCycle.TheVariants.{AddressCycle}
use Rattle.onfi_cycle.specs.declared.tail_facts.TailFacts.{TailFacts}
use Rattle.onfi_cycle.specs.LunView.{LunView}
use Rattle.onfi_cycle.specs.Command.{command, reads_identity}
use Rattle.onfi_cycle.specs.Sequence.{facts_after, is_open, wants_address, wants_command, row}
use Rattle.onfi_cycle.specs.Effect.{names_lun, of_target, id_effect}
use Rattle.onfi_cycle.specs.Lun.{view_after}
use Rattle.onfi_cycle.specs.declared.effect.Effect.{Effect}
use Rattle.onfi_cycle.specs.declared.effect.Effect.TheVariants.{Unaffected, IdRead, IdentityRead, ParameterPageReadStarted, UniqueIdReadStarted, FeaturesReadStarted}
use Rattle.onfi_cycle.specs.declared.latch.Latch.TheVariants.{Data}
use Rattle.onfi_cycle.specs.Channel.{Channel}
use Rattle.micro_word.specs.declared.word.Word.TheVariants.{Command as CommandWord, Address as AddressWord}
use Rattle.micro_program.specs.Lines.{Line}
use Rattle.micro_program.specs.Program.{Job, Done, column_now, index_now}
use Rattle.micro_program.specs.Moves.{address, gives, and_then}
use Rattle.micro_claims.specs.Spans.{only, only_of}
use Rattle.micro_claims.specs.State.{Registers, State, Held, Place, Closed, After, InData, InColumn, InFeatures, bounds_of, Unknown, may_be_31}
use Rattle.micro_claims.specs.Against.{may_be_open, may_be_queued, identity_opener_refused, takes_identity_at, takes_any_byte, takes_identity, is_identity_byte, byte_of_column, address_out_of_place}
use Rattle.micro_claims.specs.Reasons.{breaks_cycle_forbidden}
use Rattle.micro_claims.specs.Leaves.{id_held, beside_read, identity_read, address_leaves_at, with_registers, paid, data_shown}
use Rattle.micro_claims.specs.Accepts.{state_after, accepts}
use Rattle.micro_program.proofs.Stepping.{of_one}
use Rattle.micro_program.proofs.Scenes.{Scene, IsScene, IdentityAllowed, AddressAllowed, scene_behind}
use Rattle.micro_claims.proofs.HeldPlanes.{no_pages, none_queued}
use Rattle.micro_claims.proofs.Fits.{Address, is_place, ShowsFit, TailFits, latch_among, facts_behind, bytes_of, RegistersFit, Opened, opener_facts, PlaceIs, LunFits, Fits, now_of}
use Rattle.micro_claims.proofs.Numbers.{in_exactly}
use Rattle.micro_claims.proofs.Tails.{no_address, every_place, no_place, closed_tail, closed_fits}
use Rattle.micro_claims.proofs.Sounding.{KnownJob, NoReasons, unmoved, SoundWord, plain_sound}
use Rattle.micro_claims.proofs.AddressSteps.{never}
use Rattle.micro_claims.proofs.Commands.{plain_opener, same_either, shows_kept, not_caching}
use Rattle.micro_claims.proofs.MoreCommands.{declared, opener_free}
use Rattle.micro_claims.proofs.SoundAddress.{resets_lun, sound_address}
use Rattle.micro_claims.proofs.LunResets.{sound_lun_reset}
use Rattle.micro_claims.proofs.Indices.{only_is}
use Rattle.micro_claims.proofs.CopiedPages.{no_copies_fit}
use Rattle.micro_claims.proofs.Programs.{identified_programs}
use Rattle.micro_claims.specs.Planes.{no_planes}

-- 1. the commands

-- the LUN is ready, has no queue, and neither reads a cache nor programs one where nothing is against such an opener
identity_allowed : (s : Channel) (j : Job) (v : State) (c : Scene) (done : List Done) → Fits s.geometry j v done c true → ltb 1 s.geometry.luns ≡ false → (may_be_open v || identity_opener_refused s.geometry v) ≡ false → IdentityAllowed s.geometry c
identity_allowed s j v c done f single h =
    let free = or_parts (may_be_open v) (identity_opener_refused s.geometry v) h in
    let calm = subst (λ (b : Bool). (not b && (v.lun.busy || may_be_queued v.lun.queue || may_be_31 v.lun.last || v.lun.programming)) ≡ false) single free.1 in
    let three = or_parts (v.lun.busy || may_be_queued v.lun.queue || may_be_31 v.lun.last) v.lun.programming calm in
    let two = or_parts (v.lun.busy || may_be_queued v.lun.queue) (may_be_31 v.lun.last) three.0 in
    let one = or_parts v.lun.busy (may_be_queued v.lun.queue) two.0 in
    record {
      closed = closed_tail s.geometry j v.target (now_of j done) c.facts (f.tail refl) free.0;
      one = single;
      ready = f.lun.ready one.0;
      no_queue = none_queued s.geometry (index_now j.base done) v.lun.queue c.view.queue one.1 f.lun.queue;
      no_cache = not_caching v.lun.last c.view.closer f.lun.last two.1;
      no_program = f.lun.programming three.1;
    }

pub sound_90 : (s : Channel) (j : Job) (k : KnownJob s j) (v : State) (past : List Item) (c : Scene) (done : List Done) (rest : List Line) (at byte : ℕ) → command byte ≡ ReadId → IsScene s j.lun past c → Fits s.geometry j v done c true → NoReasons s.geometry j.text v (CommandWord byte) → accepts s.geometry (bounds_of j.text) None (state_after s.geometry v (CommandWord byte)) rest ≡ true → SoundWord s j past done rest at (CommandWord byte)
sound_90 s j k v past c done rest at byte is scene f clear acc =
    let dec = declared s.geometry j.text v byte ReadId is clear in
    let allowed = identity_allowed s j v c done f dec.one (opener_free s.geometry j.text v byte ReadId is refl refl clear) in
    plain_opener s j k v past c done rest at byte ReadId is scene f clear allowed
    refl refl refl (same_either (wants_command c.facts ReadId && names_lun s.geometry (row c.facts) j.lun.lun)) refl acc

pub sound_ec : (s : Channel) (j : Job) (k : KnownJob s j) (v : State) (past : List Item) (c : Scene) (done : List Done) (rest : List Line) (at byte : ℕ) → command byte ≡ ReadParameterPage → IsScene s j.lun past c → Fits s.geometry j v done c true → NoReasons s.geometry j.text v (CommandWord byte) → accepts s.geometry (bounds_of j.text) None (state_after s.geometry v (CommandWord byte)) rest ≡ true → SoundWord s j past done rest at (CommandWord byte)
sound_ec s j k v past c done rest at byte is scene f clear acc =
    let dec = declared s.geometry j.text v byte ReadParameterPage is clear in
    let allowed = identity_allowed s j v c done f dec.one (opener_free s.geometry j.text v byte ReadParameterPage is refl refl clear) in
    plain_opener s j k v past c done rest at byte ReadParameterPage is scene f clear allowed
    refl refl refl (same_either (wants_command c.facts ReadParameterPage && names_lun s.geometry (row c.facts) j.lun.lun)) refl acc

pub sound_ed : (s : Channel) (j : Job) (k : KnownJob s j) (v : State) (past : List Item) (c : Scene) (done : List Done) (rest : List Line) (at byte : ℕ) → command byte ≡ ReadUniqueId → IsScene s j.lun past c → Fits s.geometry j v done c true → NoReasons s.geometry j.text v (CommandWord byte) → accepts s.geometry (bounds_of j.text) None (state_after s.geometry v (CommandWord byte)) rest ≡ true → SoundWord s j past done rest at (CommandWord byte)
sound_ed s j k v past c done rest at byte is scene f clear acc =
    let dec = declared s.geometry j.text v byte ReadUniqueId is clear in
    let allowed = identity_allowed s j v c done f dec.one (opener_free s.geometry j.text v byte ReadUniqueId is dec.fit refl clear) in
    let fit = or_parts (not (is_wide s.geometry.optional)) (not (has_unique_id s.geometry.optional)) dec.fit in
    plain_opener s j k v past c done rest at byte ReadUniqueId is scene f clear (allowed, not-false (has_unique_id s.geometry.optional) fit.1)
    refl refl refl (same_either (wants_command c.facts ReadUniqueId && names_lun s.geometry (row c.facts) j.lun.lun)) refl acc

pub sound_ee : (s : Channel) (j : Job) (k : KnownJob s j) (v : State) (past : List Item) (c : Scene) (done : List Done) (rest : List Line) (at byte : ℕ) → command byte ≡ GetFeatures → IsScene s j.lun past c → Fits s.geometry j v done c true → NoReasons s.geometry j.text v (CommandWord byte) → accepts s.geometry (bounds_of j.text) None (state_after s.geometry v (CommandWord byte)) rest ≡ true → SoundWord s j past done rest at (CommandWord byte)
sound_ee s j k v past c done rest at byte is scene f clear acc =
    let dec = declared s.geometry j.text v byte GetFeatures is clear in
    let allowed = identity_allowed s j v c done f dec.one (opener_free s.geometry j.text v byte GetFeatures is dec.fit refl clear) in
    let fit = or_parts (not (is_wide s.geometry.optional)) (not (has_features s.geometry.optional)) dec.fit in
    plain_opener s j k v past c done rest at byte GetFeatures is scene f clear (allowed, not-false (has_features s.geometry.optional) fit.1)
    refl refl refl (same_either (wants_command c.facts GetFeatures && names_lun s.geometry (row c.facts) j.lun.lun)) refl acc

pub sound_ef : (s : Channel) (j : Job) (k : KnownJob s j) (v : State) (past : List Item) (c : Scene) (done : List Done) (rest : List Line) (at byte : ℕ) → command byte ≡ SetFeatures → IsScene s j.lun past c → Fits s.geometry j v done c true → NoReasons s.geometry j.text v (CommandWord byte) → accepts s.geometry (bounds_of j.text) None (state_after s.geometry v (CommandWord byte)) rest ≡ true → SoundWord s j past done rest at (CommandWord byte)
sound_ef s j k v past c done rest at byte is scene f clear acc =
    let dec = declared s.geometry j.text v byte SetFeatures is clear in
    let allowed = identity_allowed s j v c done f dec.one (opener_free s.geometry j.text v byte SetFeatures is dec.fit refl clear) in
    let fit = or_parts (not (is_wide s.geometry.optional)) (not (has_features s.geometry.optional)) dec.fit in
    plain_opener s j k v past c done rest at byte SetFeatures is scene f clear (allowed, not-false (has_features s.geometry.optional) fit.1)
    refl refl refl (same_either (wants_command c.facts SetFeatures && names_lun s.geometry (row c.facts) j.lun.lun)) refl acc

-- 2. their address

-- its byte is one that the opener takes; where not any byte will do, the column is known
record Identity (g : Parts) (j : Job) (v : State) (done : List Done) (from count : ℕ) (o : Command) : Type 0 where
  single : ltb 1 g.luns ≡ false
  one : count ≡ 1
  low : from ≤ 1
  takes : takes_identity g o (byte_of_column from (column_now done)) ≡ true
  known : takes_any_byte o ≡ false → v.registers.column.lo ≡ column_now done

pub least_is : (lo : ℕ) (hi : Option ℕ) (x : ℕ) → only_of lo hi ≡ Some x → lo ≡ x
least_is lo None x h = cc
least_is lo (Some hi) x h = at (lo == hi) h
  where
    at : (b : Bool) → cond b (Some lo) None ≡ Some x → lo ≡ x
    at true h = cc
    at false h = cc

pub any_byte : (g : Parts) (o : Command) (byte : ℕ) → takes_any_byte o ≡ true → takes_identity g o byte ≡ true
any_byte g GetFeatures byte h = refl
any_byte g SetFeatures byte h = refl
any_byte g _ byte h = cc

identity : (g : Parts) (j : Job) (v : State) (done : List Done) (from count : ℕ) (o : Command) → RegistersFit g j v.registers done → (ltb 1 g.luns || not (count == 1) || not (is_identity_byte g o from (only v.registers.column))) ≡ false → Identity g j v done from count o
identity g j v done from count o f refused = by (only v.registers.column) refl (not-false _ both.1)
  where
    both : ((ltb 1 g.luns || not (count == 1)) ≡ false) × (not (is_identity_byte g o from (only v.registers.column)) ≡ false)
    both = or_parts (ltb 1 g.luns || not (count == 1)) (not (is_identity_byte g o from (only v.registers.column))) refused

    alone : (ltb 1 g.luns ≡ false) × (not (count == 1) ≡ false)
    alone = or_parts (ltb 1 g.luns) (not (count == 1)) both.0

    clash : {X : Type 0} (b : Bool) → b ≡ true → b ≡ false → X
    clash true h k = cc
    clash false h k = cc

    by : (x : Option ℕ) → only v.registers.column ≡ x → is_identity_byte g o from x ≡ true → Identity g j v done from count o
    by None e h =
        let two = and_parts (nat_le from 1) (takes_any_byte o) h in
        record { single = alone.0; one = eqb-true count 1 (not-false _ alone.1); low = grind (arith, nat_tests, two.0); takes = any_byte g o (byte_of_column from (column_now done)) two.1; known = λ x. clash (takes_any_byte o) two.1 x }
    by (Some x) e h =
        let two = and_parts (nat_le from 1) (takes_identity g o (byte_of_column from x)) h in
        let is : column_now done ≡ x = only_is (column_now done) v.registers.column.lo v.registers.column.hi x f.column.least f.column.most e in
        record { single = alone.0; one = eqb-true count 1 (not-false _ alone.1); low = grind (arith, nat_tests, two.0); takes = ap (λ (m : ℕ). takes_identity g o (byte_of_column from m)) is ∙ two.1; known = λ y. least_is v.registers.column.lo v.registers.column.hi x e ∙ sym is }

-- the byte of the word
pub identity_bytes : (g : Parts) (j : Job) (done : List Done) (from : ℕ) → from ≤ 1 → address g j done from 1 ≡ Some (byte_of_column from (column_now done) ∷ [])
identity_bytes g j done zero low = refl
identity_bytes g j done (suc zero) low = refl
identity_bytes g j done (suc (suc n)) low = absurd (omega (arith, low))

-- the scene where such an opener has come is this one
abbrev begun_scene : Command → Scene → Scene
begun_scene o c = record { facts = opener_facts o; view = c.view; sole = c.sole }

begun_is : (o : Command) (c : Scene) → c.facts ≡ opener_facts o → c ≡ begun_scene o c
begun_is o c is = λ i. record { facts = is i; view = c.view; sole = c.sole }

-- its address is allowed, and leads to this scene
abbrev Steps : (s : Channel) (j : Job) (c : Scene) (byte : ℕ) (next : Scene) → Type 0
Steps s j c byte next = AddressAllowed s.geometry j.lun.lun c byte × (scene_behind s.geometry j.lun.lun (AddressCycle byte) c ≡ next)

-- 90h: the byte is one of the three
id_wanted : (w a b d : Bool) → (a || (w && (b || d))) ≡ true → (a || (b || d)) ≡ true
id_wanted w true b d h = refl
id_wanted true false b d h = h
id_wanted false false b d h = cc

id_profile : (w a b d : Bool) → (a || (w && (b || d))) ≡ true → (not w && not a) ≡ false
id_profile true a b d h = refl
id_profile false true b d h = refl
id_profile false false b d h = cc

-- what is behind the address of 90h
abbrev id_scene : Parts → ℕ → Scene → Scene
id_scene g byte c = record { facts = facts_after (AddressCycle byte) (opener_facts ReadId); view = view_after (id_effect byte) c.view; sole = not (ltb 1 g.luns) }

or_none : (b : Bool) → b ≡ true → (b || false) ≡ true
or_none true h = refl
or_none false h = cc

id_step : (s : Channel) (j : Job) (c : Scene) (byte : ℕ) → c.facts ≡ opener_facts ReadId → ltb 1 s.geometry.luns ≡ false → takes_identity s.geometry ReadId byte ≡ true → Steps s j c byte (id_scene s.geometry byte c)
id_step s j c byte is single takes =
    let w = is_wide s.geometry.optional in
    let wants : wants_address (opener_facts ReadId) byte ≡ true = or_none _ (id_wanted w (byte == 0x20) (byte == 0x00) (byte == 0x40) takes) in
    subst (λ (x : Scene). AddressAllowed s.geometry j.lun.lun x byte × (scene_behind s.geometry j.lun.lun (AddressCycle byte) x ≡ id_scene s.geometry byte c)) (sym (begun_is ReadId c is)) (
      record { wanted = wants; profile = id_profile w (byte == 0x20) (byte == 0x00) (byte == 0x40) takes; alone = λ e. single; row = λ e. cc; column = λ e. cc; read_column = λ e. cc },
      ap (λ (b : Bool). record { facts = facts_after (AddressCycle byte) (opener_facts ReadId); view = view_after (cond b (of_target s.geometry j.lun.lun (id_effect byte)) Unaffected) c.view; sole = not (ltb 1 s.geometry.luns) }) wants
          ∙ ap (λ (e : Effect). record { facts = facts_after (AddressCycle byte) (opener_facts ReadId); view = view_after e c.view; sole = not (ltb 1 s.geometry.luns) }) (of_one s.geometry j.lun.lun (id_effect byte) single),
    )

-- ECh and EDh, whose one byte is 00
abbrev beside_scene : Parts → Command → Effect → ℕ → Scene → Scene
beside_scene g o e byte c = record { facts = facts_after (AddressCycle byte) (opener_facts o); view = view_after e c.view; sole = not (ltb 1 g.luns) }

ec_step : (s : Channel) (j : Job) (c : Scene) (byte : ℕ) → c.facts ≡ opener_facts ReadParameterPage → ltb 1 s.geometry.luns ≡ false → takes_identity s.geometry ReadParameterPage byte ≡ true → Steps s j c byte (beside_scene s.geometry ReadParameterPage ParameterPageReadStarted byte c)
ec_step s j c byte is single takes =
    subst (λ (x : Scene). AddressAllowed s.geometry j.lun.lun x byte × (scene_behind s.geometry j.lun.lun (AddressCycle byte) x ≡ beside_scene s.geometry ReadParameterPage ParameterPageReadStarted byte c)) (sym (begun_is ReadParameterPage c is))
    (record { wanted = rw takes refl; profile = never (not (is_wide s.geometry.optional)); alone = λ e. single; row = λ e. cc; column = λ e. cc; read_column = λ e. cc }, rw takes (ap (λ (e : Effect). beside_scene s.geometry ReadParameterPage e byte c) (of_one s.geometry j.lun.lun ParameterPageReadStarted single)))

ed_step : (s : Channel) (j : Job) (c : Scene) (byte : ℕ) → c.facts ≡ opener_facts ReadUniqueId → ltb 1 s.geometry.luns ≡ false → takes_identity s.geometry ReadUniqueId byte ≡ true → Steps s j c byte (beside_scene s.geometry ReadUniqueId UniqueIdReadStarted byte c)
ed_step s j c byte is single takes =
    subst (λ (x : Scene). AddressAllowed s.geometry j.lun.lun x byte × (scene_behind s.geometry j.lun.lun (AddressCycle byte) x ≡ beside_scene s.geometry ReadUniqueId UniqueIdReadStarted byte c)) (sym (begun_is ReadUniqueId c is))
    (record { wanted = rw takes refl; profile = never (not (is_wide s.geometry.optional)); alone = λ e. single; row = λ e. cc; column = λ e. cc; read_column = λ e. cc }, rw takes (ap (λ (e : Effect). beside_scene s.geometry ReadUniqueId e byte c) (of_one s.geometry j.lun.lun UniqueIdReadStarted single)))

-- EEh, whose byte may be any
ee_step : (s : Channel) (j : Job) (c : Scene) (byte : ℕ) → c.facts ≡ opener_facts GetFeatures → ltb 1 s.geometry.luns ≡ false → Steps s j c byte (beside_scene s.geometry GetFeatures (FeaturesReadStarted byte) byte c)
ee_step s j c byte is single =
    subst (λ (x : Scene). AddressAllowed s.geometry j.lun.lun x byte × (scene_behind s.geometry j.lun.lun (AddressCycle byte) x ≡ beside_scene s.geometry GetFeatures (FeaturesReadStarted byte) byte c)) (sym (begun_is GetFeatures c is))
    (record { wanted = refl; profile = never (not (is_wide s.geometry.optional)); alone = λ e. single; row = λ e. cc; column = λ e. cc; read_column = λ e. cc }, ap (λ (e : Effect). beside_scene s.geometry GetFeatures e byte c) (of_one s.geometry j.lun.lun (FeaturesReadStarted byte) single))

-- and EFh, which leaves the LUN as it was
abbrev ef_scene : ℕ → Scene → Scene
ef_scene byte c = record { facts = facts_after (AddressCycle byte) (opener_facts SetFeatures); view = c.view; sole = c.sole }

ef_step : (s : Channel) (j : Job) (c : Scene) (byte : ℕ) → c.facts ≡ opener_facts SetFeatures → ltb 1 s.geometry.luns ≡ false → Steps s j c byte (ef_scene byte c)
ef_step s j c byte is single =
    subst (λ (x : Scene). AddressAllowed s.geometry j.lun.lun x byte × (scene_behind s.geometry j.lun.lun (AddressCycle byte) x ≡ ef_scene byte c)) (sym (begun_is SetFeatures c is))
    (record { wanted = refl; profile = never (not (is_wide s.geometry.optional)); alone = λ e. single; row = λ e. cc; column = λ e. cc; read_column = λ e. cc }, refl)

-- what the claim behind such an address says of the scene there
record IdentityFits (s : Channel) (j : Job) (v : State) (done : List Done) (next : Scene) (left : State) : Type 0 where
  registers : left.registers ≡ v.registers
  tail : TailFits s.geometry j left.target (now_of j done) next.facts
  shows : ShowsFit left.target.shows next
  lun : LunFits s.geometry j left.lun (index_now j.base done) next.view

-- the word at such an opener
at_identity : (s : Channel) (j : Job) (k : KnownJob s j) (v : State) (past : List Item) (c : Scene) (done : List Done) (rest : List Line) (at from count : ℕ) (o : Command) (next : Scene) → Identity s.geometry j v done from count o → Steps s j c (byte_of_column from (column_now done)) next → IdentityFits s j v done next (identity_read v from o) → address_leaves_at s.geometry v from count v.target.tail ≡ identity_read v from o → IsScene s j.lun past c → Fits s.geometry j v done c true → NoReasons s.geometry j.text v (AddressWord from count) → accepts s.geometry (bounds_of j.text) None (state_after s.geometry v (AddressWord from count)) rest ≡ true → SoundWord s j past done rest at (AddressWord from count)
unfolding state_after
at_identity s j k v past c done rest at from count o next id step fits left scene f clear acc =
    let g = s.geometry in
    let byte = byte_of_column from (column_now done) in
    let bytes : address g j done from count ≡ Some (byte ∷ []) = ap (address g j done from) id.one ∙ identity_bytes g j done from id.low in
    plain_sound s j k v past c done rest at (AddressWord from count) (gives Adr (byte ∷ [])) refl scene f.registers clear (ap (λ (o : Option (List ℕ)). and_then o (λ xs. Some (gives Adr xs))) bytes) (step.0, tt) refl
    (λ answer.
    subst (λ (x : Scene). Fits g j (state_after g v (AddressWord from count)) (record { word = AddressWord from count; answer = answer } ∷ done) x true) (sym step.1)
    (subst (λ (x : State). Fits g j (with_registers x (paid count x.registers)) (record { word = AddressWord from count; answer = answer } ∷ done) next true) (sym left)
    (record {
      registers = subst (λ (r : Registers). RegistersFit g j (paid count r) (record { word = AddressWord from count; answer = answer } ∷ done)) (sym fits.registers) (unmoved g j v v.registers.place v.registers.polled done (AddressWord from count) answer f.registers clear (record { column = λ n. refl; plane = λ n. refl; index = λ b n. refl }) f.registers.place);
      tail = λ e. fits.tail;
      free = λ e. cc;
      shows = fits.shows;
      lun = fits.lun;
    })))
    acc

begun : (n : ℕ) → (n == 0) ≡ true → n ≡ 0
begun n h = eqb-true n 0 h

-- nothing but such an opener has come
begun_facts : (o : Command) (n : ℕ) (a : Address) (t : TailFacts) → (n == 0) ≡ true → t ≡ facts_behind (opener_facts o) (take n (bytes_of o a)) → t ≡ opener_facts o
begun_facts o n a t none is = is ∙ ap (λ (m : ℕ). facts_behind (opener_facts o) (take m (bytes_of o a))) (begun n none)

-- what is in the register is shown, from its column 0 on
beside_fits : (s : Channel) (j : Job) (v : State) (c : Scene) (done : List Done) (busy : Bool) (held : Held) (next : Scene) (left : State) → left ≡ beside_read busy held v → ltb 1 s.geometry.luns ≡ false → next.sole ≡ not (ltb 1 s.geometry.luns) → is_open next.facts ≡ false → next.view.latch ≡ Data → LunFits s.geometry j (beside_read busy held v).lun (index_now j.base done) next.view → IdentityFits s j v done next left
beside_fits s j v c done busy held next left is single sole shut latch lun =
    record {
      registers = ap (λ (x : State). x.registers) is;
      tail = subst (λ (x : State). TailFits s.geometry j x.target (now_of j done) next.facts) (sym is) (closed_fits s.geometry j None None data_shown (now_of j done) next.facts shut);
      shows = subst (λ (x : State). ShowsFit x.target.shows next) (sym is) (sole ∙ ap not single, ap (latch_among (record { 0 = 2 })) latch);
      lun = subst (λ (x : State). LunFits s.geometry j x.lun (index_now j.base done) next.view) (sym is) lun;
    }

-- what 90h reads is what may be held
id_lun : (g : Parts) (j : Job) (v : State) (i : ℕ) (view : LunView) (a b : Bool) → LunFits g j v.lun i view → LunFits g j (beside_read v.lun.busy (cond a (record { 0 = 4 }) (cond b (record { 0 = 16 }) (record { 0 = 8 }))) v).lun i (view_after (cond a IdRead (IdentityRead b)) view)
id_lun g j v i view true b f = record { ready = f.ready; register = refl; column = record { at = 0; is = refl; below = (in_exactly 0).most; unread = λ e. refl }; queue = f.queue; last = refl; cached = λ e x. cc; held = λ e. cc; planes = no_pages g []; array = no_pages g (view.array_page ∷ []); copies = no_copies_fit g no_planes i _; programming = λ e. identified_programs view.busy }
id_lun g j v i view false true f = record { ready = f.ready; register = refl; column = record { at = 0; is = refl; below = (in_exactly 0).most; unread = λ e. refl }; queue = f.queue; last = refl; cached = λ e x. cc; held = λ e. cc; planes = no_pages g []; array = no_pages g (view.array_page ∷ []); copies = no_copies_fit g no_planes i _; programming = λ e. identified_programs view.busy }
id_lun g j v i view false false f = record { ready = f.ready; register = refl; column = record { at = 0; is = refl; below = (in_exactly 0).most; unread = λ e. refl }; queue = f.queue; last = refl; cached = λ e x. cc; held = λ e. cc; planes = no_pages g []; array = no_pages g (view.array_page ∷ []); copies = no_copies_fit g no_planes i _; programming = λ e. identified_programs view.busy }

id_latch : (a b : Bool) (view : LunView) → (view_after (cond a IdRead (IdentityRead b)) view).latch ≡ Data
id_latch true b view = refl
id_latch false b view = refl

-- the byte of the claim is that of the word
id_read : (v : State) (from n : ℕ) → v.registers.column.lo ≡ n → identity_read v from ReadId ≡ beside_read v.lun.busy (id_held (byte_of_column from n)) v
id_read v from n e = ap (λ (m : ℕ). beside_read v.lun.busy (id_held (byte_of_column from m)) v) e

-- what is known at such a place
record AtOpener (s : Channel) (j : Job) (v : State) (past : List Item) (c : Scene) (done : List Done) (rest : List Line) (from count : ℕ) (o : Command) : Type 0 where
  k : KnownJob s j
  start : c.facts ≡ opener_facts o
  id : Identity s.geometry j v done from count o
  left : address_leaves_at s.geometry v from count v.target.tail ≡ identity_read v from o
  scene : IsScene s j.lun past c
  f : Fits s.geometry j v done c true
  clear : NoReasons s.geometry j.text v (AddressWord from count)
  acc : accepts s.geometry (bounds_of j.text) None (state_after s.geometry v (AddressWord from count)) rest ≡ true

identity_90 : (s : Channel) (j : Job) (v : State) (past : List Item) (c : Scene) (done : List Done) (rest : List Line) (at from count : ℕ) → AtOpener s j v past c done rest from count ReadId → SoundWord s j past done rest at (AddressWord from count)
identity_90 s j v past c done rest at from count h =
    let byte = byte_of_column from (column_now done) in
    at_identity s j h.k v past c done rest at from count ReadId (id_scene s.geometry byte c) h.id (id_step s j c byte h.start h.id.single h.id.takes)
    (beside_fits s j v c done v.lun.busy (id_held byte) (id_scene s.geometry byte c) (identity_read v from ReadId) (id_read v from (column_now done) (h.id.known refl)) h.id.single refl refl (id_latch (byte == 0x20) (byte == 0x40) c.view)
    (id_lun s.geometry j v (index_now j.base done) c.view (byte == 0x20) (byte == 0x40) h.f.lun))
    h.left h.scene h.f h.clear h.acc

identity_ec : (s : Channel) (j : Job) (v : State) (past : List Item) (c : Scene) (done : List Done) (rest : List Line) (at from count : ℕ) → AtOpener s j v past c done rest from count ReadParameterPage → SoundWord s j past done rest at (AddressWord from count)
identity_ec s j v past c done rest at from count h =
    let byte = byte_of_column from (column_now done) in
    let next = beside_scene s.geometry ReadParameterPage ParameterPageReadStarted byte c in
    at_identity s j h.k v past c done rest at from count ReadParameterPage next h.id (ec_step s j c byte h.start h.id.single h.id.takes)
    (beside_fits s j v c done true (record { 0 = 2 }) next (identity_read v from ReadParameterPage) refl h.id.single refl refl refl
    (record { ready = λ e. cc; register = refl; column = record { at = 0; is = refl; below = (in_exactly 0).most; unread = λ e. refl }; queue = h.f.lun.queue; last = refl; cached = λ e x. cc; held = λ e. cc; planes = no_pages s.geometry []; array = no_pages s.geometry (c.view.array_page ∷ []); copies = no_copies_fit s.geometry no_planes _ _; programming = λ e. refl }))
    h.left h.scene h.f h.clear h.acc

identity_ed : (s : Channel) (j : Job) (v : State) (past : List Item) (c : Scene) (done : List Done) (rest : List Line) (at from count : ℕ) → AtOpener s j v past c done rest from count ReadUniqueId → SoundWord s j past done rest at (AddressWord from count)
identity_ed s j v past c done rest at from count h =
    let byte = byte_of_column from (column_now done) in
    let next = beside_scene s.geometry ReadUniqueId UniqueIdReadStarted byte c in
    at_identity s j h.k v past c done rest at from count ReadUniqueId next h.id (ed_step s j c byte h.start h.id.single h.id.takes)
    (beside_fits s j v c done true (record { 0 = 32 }) next (identity_read v from ReadUniqueId) refl h.id.single refl refl refl
    (record { ready = λ e. cc; register = refl; column = record { at = 0; is = refl; below = (in_exactly 0).most; unread = λ e. refl }; queue = h.f.lun.queue; last = refl; cached = λ e x. cc; held = λ e. cc; planes = no_pages s.geometry []; array = no_pages s.geometry (c.view.array_page ∷ []); copies = no_copies_fit s.geometry no_planes _ _; programming = λ e. refl }))
    h.left h.scene h.f h.clear h.acc

identity_ee : (s : Channel) (j : Job) (v : State) (past : List Item) (c : Scene) (done : List Done) (rest : List Line) (at from count : ℕ) → AtOpener s j v past c done rest from count GetFeatures → SoundWord s j past done rest at (AddressWord from count)
identity_ee s j v past c done rest at from count h =
    let byte = byte_of_column from (column_now done) in
    let next = beside_scene s.geometry GetFeatures (FeaturesReadStarted byte) byte c in
    at_identity s j h.k v past c done rest at from count GetFeatures next h.id (ee_step s j c byte h.start h.id.single)
    (beside_fits s j v c done true (record { 0 = 64 }) next (identity_read v from GetFeatures) refl h.id.single refl refl refl
    (record { ready = λ e. cc; register = refl; column = record { at = 0; is = refl; below = (in_exactly 0).most; unread = λ e. refl }; queue = h.f.lun.queue; last = refl; cached = λ e x. cc; held = λ e. cc; planes = no_pages s.geometry []; array = no_pages s.geometry (c.view.array_page ∷ []); copies = no_copies_fit s.geometry no_planes _ _; programming = λ e. refl }))
    h.left h.scene h.f h.clear h.acc

identity_ef : (s : Channel) (j : Job) (v : State) (past : List Item) (c : Scene) (done : List Done) (rest : List Line) (at from count : ℕ) → AtOpener s j v past c done rest from count SetFeatures → SoundWord s j past done rest at (AddressWord from count)
identity_ef s j v past c done rest at from count h =
    let byte = byte_of_column from (column_now done) in
    at_identity s j h.k v past c done rest at from count SetFeatures (ef_scene byte c) h.id (ef_step s j c byte h.start h.id.single)
    (record {
      registers = refl;
      tail = record { place = InFeatures 0; here = refl; address = no_address; is = record { few = omega arith; phase = refl; inputs = refl; begun = refl }; now = λ e. cc; column = λ e. cc; row = λ e. cc; named = λ e. cc; single = λ e. h.id.single };
      shows = shows_kept v.target.shows c (ef_scene byte c) (λ e. e) refl h.f.shows;
      lun = h.f.lun;
    })
    h.left h.scene h.f h.clear h.acc

-- which of them it is
data Which (o : Command) : Type 0 where
  IsId : (e : ReadId ≡ o) → Which o
  IsEc : (e : ReadParameterPage ≡ o) → Which o
  IsEd : (e : ReadUniqueId ≡ o) → Which o
  IsEe : (e : GetFeatures ≡ o) → Which o
  IsEf : (e : SetFeatures ≡ o) → Which o

record WhichPlace (o : Command) (n : ℕ) : Type 0 where
  opener : Which o
  none : (n == 0) ≡ true
  leaves : (g : Parts) (v : State) (from count : ℕ) → address_leaves_at g v from count (After o n) ≡ identity_read v from o

which : (o : Command) (n : ℕ) → is_place o n ≡ true → reads_identity o ≡ true → WhichPlace o n
which ReadId n p h = record { opener = IsId refl; none = p; leaves = λ g v from count. refl }
which ReadParameterPage n p h = record { opener = IsEc refl; none = p; leaves = λ g v from count. refl }
which ReadUniqueId n p h = record { opener = IsEd refl; none = p; leaves = λ g v from count. refl }
which GetFeatures n p h = record { opener = IsEe refl; none = p; leaves = λ g v from count. refl }
which SetFeatures n p h = record { opener = IsEf refl; none = p; leaves = λ g v from count. refl }
which _ n p h = cc

record IdentityPlace (p : Place) : Type 0 where
  o : Command
  n : ℕ
  is : p ≡ After o n
  reads : reads_identity o ≡ true

identity_place : (p : Place) → takes_identity_at p ≡ true → IdentityPlace p
identity_place (After o n) h = record { o = o; n = n; is = refl; reads = h }
identity_place Closed h = cc
identity_place InData h = cc
identity_place (InColumn n) h = cc
identity_place (InFeatures n) h = cc
identity_place Unknown h = cc

by_opener : (s : Channel) (j : Job) (v : State) (past : List Item) (c : Scene) (done : List Done) (rest : List Line) (at from count : ℕ) (o : Command) → Which o → AtOpener s j v past c done rest from count o → SoundWord s j past done rest at (AddressWord from count)
by_opener s j v past c done rest at from count o (IsId e) h = identity_90 s j v past c done rest at from count (subst (λ (x : Command). AtOpener s j v past c done rest from count x) (sym e) h)
by_opener s j v past c done rest at from count o (IsEc e) h = identity_ec s j v past c done rest at from count (subst (λ (x : Command). AtOpener s j v past c done rest from count x) (sym e) h)
by_opener s j v past c done rest at from count o (IsEd e) h = identity_ed s j v past c done rest at from count (subst (λ (x : Command). AtOpener s j v past c done rest from count x) (sym e) h)
by_opener s j v past c done rest at from count o (IsEe e) h = identity_ee s j v past c done rest at from count (subst (λ (x : Command). AtOpener s j v past c done rest from count x) (sym e) h)
by_opener s j v past c done rest at from count o (IsEf e) h = identity_ef s j v past c done rest at from count (subst (λ (x : Command). AtOpener s j v past c done rest from count x) (sym e) h)

-- not yet addressed
none_left : (g : Parts) (v : State) (from count n : ℕ) (o : Command) → (n == 0) ≡ true → reads_identity o ≡ true → address_out_of_place g v from count (After o n) ≡ false → (ltb 1 g.luns || not (count == 1) || not (is_identity_byte g o from (only v.registers.column))) ≡ false
none_left g v from count n o none reads h = by o reads (subst (λ (m : ℕ). address_out_of_place g v from count (After o m) ≡ false) (begun n none) h)
  where
    by : (o : Command) → reads_identity o ≡ true → address_out_of_place g v from count (After o 0) ≡ false → (ltb 1 g.luns || not (count == 1) || not (is_identity_byte g o from (only v.registers.column))) ≡ false
    by ReadId r h = h
    by ReadParameterPage r h = h
    by ReadUniqueId r h = h
    by GetFeatures r h = h
    by SetFeatures r h = h
    by _ r h = cc

-- an address, after such an opener, after FAh and after others
pub sound_any_address : (s : Channel) (j : Job) (k : KnownJob s j) (v : State) (past : List Item) (c : Scene) (done : List Done) (rest : List Line) (at from count : ℕ) → IsScene s j.lun past c → Fits s.geometry j v done c true → NoReasons s.geometry j.text v (AddressWord from count) → accepts s.geometry (bounds_of j.text) None (state_after s.geometry v (AddressWord from count)) rest ≡ true → SoundWord s j past done rest at (AddressWord from count)
unfolding breaks_cycle_forbidden
sound_any_address s j k v past c done rest at from count scene f clear acc = by (takes_identity_at v.target.tail) (resets_lun v.target.tail) refl refl
  where
    at_place : TailFits s.geometry j v.target (now_of j done) c.facts → takes_identity_at v.target.tail ≡ true → SoundWord s j past done rest at (AddressWord from count)
    at_place t e =
        let here = identity_place t.place (every_place takes_identity_at v.target.tail t.place e t.here) in
        let out = no_place (address_out_of_place s.geometry v from count) v.target.tail t.place clear.no_cycle_forbidden t.here in
        let opened : Opened here.o here.n t.address c.facts = subst (λ (x : Place). PlaceIs x t.address c.facts) here.is t.is in
        let there = which here.o here.n opened.place here.reads in
        by_opener s j v past c done rest at from count here.o there.opener
        (record {
          k = k;
          start = begun_facts here.o here.n t.address c.facts there.none opened.facts;
          id = identity s.geometry j v done from count here.o f.registers (none_left s.geometry v from count here.n here.o there.none here.reads (subst (λ (x : Place). address_out_of_place s.geometry v from count x ≡ false) here.is out));
          left = ap (address_leaves_at s.geometry v from count) (t.here ∙ here.is) ∙ there.leaves s.geometry v from count;
          scene = scene;
          f = f;
          clear = clear;
          acc = acc;
        })

    by : (b r : Bool) → takes_identity_at v.target.tail ≡ b → resets_lun v.target.tail ≡ r → SoundWord s j past done rest at (AddressWord from count)
    by true r e x = at_place (f.tail refl) e
    by false true e x = sound_lun_reset s j k v past c done rest at from count scene f clear e x acc
    by false false e x = sound_address s j k v past c done rest at from count scene f clear e x acc
