-- The effects of a permitted item keep what fits.
use Rattle.std.proofs.Common.{◌≡◌, ℕ, zero, suc, ◌+◌, ◌%◌, ◌^◌, ◌<◌, ◌≤◌, ◌==◌, Bool, true, false, ◌&&◌, ◌||◌, cond, not, ltb, List, [], ◌∷◌, Option, Some, None, refl, sym, ap, ◌∙◌, arith}
use Rattle.std.proofs.Math.Nat.{mod-lt, pow-le-pow_right}
use Rattle.std.proofs.lemmas.Nat.{pow_pos}
use Rattle.std.proofs.lemmas.Bool.Decides.{nat_tests}
use Rattle.std.specs.List.{slice_get}
use Rattle.std.proofs.lemmas.Bool.{not-false, not-true, or_left, or_right, and_parts as both, or_parts as neither}
use Rattle.onfi_cycle.proofs.Booleans.{and_rest}
use Rattle.nand_geometry.specs.declared.parts.Parts.{Parts}
use Rattle.nand_geometry.specs.Limits.{InLimits, page_bits, planes}
use Rattle.onfi_cycle.specs.declared.command.Command.{Command}
use Rattle.onfi_cycle.specs.declared.command.Command.TheVariants.{Read, ReadConfirm, ChangeReadColumnConfirm, BlockErase, BlockEraseConfirm, BlockErasePlane, ReadStatus, ReadStatusEnhanced, ProgramConfirm, ProgramPlane, ReadId, ReadParameterPage, Reset, ReadCacheSequential, ReadCacheEnd, ReadUniqueId, GetFeatures, SetFeatures, ResetLun, SynchronousReset, ReadPlane, CopybackRead, PageProgram, ProgramCache}
use Rattle.onfi_cycle.specs.declared.item.Item.{Item}
use Rattle.onfi_cycle.specs.declared.item.Item.TheVariants.{Cyc, Rdy, Ard}
use Rattle.onfi_cycle.specs.declared.forbidden.Forbidden.TheVariants.{NotThere}
use Rattle.onfi_cycle.specs.declared.latch.Latch.{Latch}
use Rattle.onfi_cycle.specs.declared.latch.Latch.TheVariants.{Off, Status, Data}
use Rattle.onfi_cycle.specs.declared.opening.Opening.{Opening}
use Rattle.onfi_cycle.specs.declared.register.Register.{Register}
use Rattle.onfi_cycle.specs.declared.register.Register.TheVariants.{Empty, Page, ParameterPage, Identifier, Identity, JedecIdentity, UniqueId, Features}
use Rattle.onfi_cycle.specs.declared.read_column.ReadColumn.{ReadColumn}
use Rattle.onfi_cycle.specs.declared.tail_facts.TailFacts.{TailFacts}
use Rattle.onfi_cycle.specs.declared.target_cycle.TargetCycle.{TargetCycle}
use Rattle.onfi_cycle.specs.declared.target_cycle.TargetCycle.TheVariants.{CommandCycle, AddressCycle, InputCycle, OutputCycle}
use Rattle.onfi_cycle.specs.declared.effect.Effect.{Effect}
use Rattle.onfi_cycle.specs.declared.effect.Effect.TheVariants.{Unaffected, SelectedForStatus, Deselected, IdRead, IdentityRead, UniqueIdReadStarted, FeaturesReadStarted, FeaturesSet, ParameterPageReadStarted, CacheReadContinued, CacheReadEnded, ReadColumnChanged, DataOutput, BecameReady, ArrayBecameReady, ResetStarted, StatusSelected, StatusOfSelected, AnotherAddressed, TargetResetStarted, PlaneSelected, ProgramAddressed}
use Rattle.onfi_cycle.specs.LunView.{LunView}
use Rattle.onfi_cycle.specs.Command.{closes, address_cycles, is_opener, takes_address, reads_identity, closes_row, reads_row}
use Rattle.onfi_cycle.specs.Sequence.{target_cycle, opened, takes_data, takes_features, wants_column, wants_command, wants_address, row, row_with, selects_plane}
use Rattle.onfi_cycle.specs.Effect.{is_off, is_data, names_lun, page_address, confirm_effect, row_effect, cache_effect, command_effect, id_effect, address_effect, opening_address_effect, ends_features, cycle_effect, is_shared, acts_for_target, of_target, other_effect, lun_reset_effect, program_row_effect, plane_effect, column_effect, plane_of_row}
use Rattle.onfi_cycle.specs.Lun.{output_column, option_plus}
use Rattle.onfi_cycle.specs.Rules.{driving, are_none, only, driver, is_some_and, driver_is, lacks, is_past, is_empty, register_len, has_no_byte, is_past_register, continues_cache, ends_cache, some_queued_clashes, breaks_not_there, breaks_data_not_ready, breaks_column_outside, breaks_cache_read_misplaced, has_read_one}
use Rattle.onfi_cycle.specs.Permitted.{judge, judge_cycle}
use Rattle.onfi_cycle.specs.State.{effect_alone, has_driver}
use Rattle.onfi_cycle.specs.Bounds.{TailFits, RowFits, RowStands, CanStart, EffectFits, is_read, is_block_erase, names_read, names_erase, names_program, names_row, names_identity}
use Rattle.onfi_cycle.proofs.Others.{first_passed, chosen_else}
use Rattle.onfi_cycle.proofs.Passed.{KeepsRules, keeps_rules}

-- a LUN that is on is among those that drive
on_drives : (vs : List LunView) (n : ℕ) (v : LunView) → slice_get vs n ≡ Some v → is_off v.latch ≡ false → are_none (driving vs) ≡ false
on_drives [] n v found on = cc
on_drives (x ∷ vs) zero v found on = let same : x ≡ v = cc in let on_x : is_off x.latch ≡ false = ap (λ (w : LunView). is_off w.latch) same ∙ on in rw on_x refl
on_drives (x ∷ vs) (suc n) v found on = at (is_off x.latch) (on_drives vs n v found on)
  where
    at : (b : Bool) → are_none (driving vs) ≡ false → are_none (cond b (driving vs) (x ∷ driving vs)) ≡ false
    at true ih = ih
    at false ih = refl

-- where a LUN is on, it is the one driver, if there is one
driver_at : (vs : List LunView) (n : ℕ) (v w : LunView) → slice_get vs n ≡ Some v → is_off v.latch ≡ false → driver vs ≡ Some w → w ≡ v
driver_at [] n v w found on h = cc
driver_at (x ∷ vs) zero v w found on h =
    let same : x ≡ v = cc in
    first (is_off x.latch) (ap (λ (w : LunView). is_off w.latch) same ∙ on) h ∙ same
  where
    alone : (b : Bool) → cond b (Some x) None ≡ Some w → w ≡ x
    alone true h = cc
    alone false h = cc

    first : (b : Bool) → b ≡ false → only (cond b (driving vs) (x ∷ driving vs)) ≡ Some w → w ≡ x
    first true e h = cc
    first false e h = alone (are_none (driving vs)) h
driver_at (x ∷ vs) (suc n) v w found on h = at (is_off x.latch) (driver_at vs n v w found on) h
  where
    more : (b : Bool) → b ≡ false → cond b (Some x) None ≡ Some w → w ≡ v
    more true e h = cc
    more false e h = cc

    at : (b : Bool) → (driver vs ≡ Some w → w ≡ v) → only (cond b (driving vs) (x ∷ driving vs)) ≡ Some w → w ≡ v
    at true ih h = ih h
    at false ih h = more (are_none (driving vs)) (on_drives vs n v found on) h

-- a LUN that shows something alone is the one driver, and what a test says of the driver it says of this LUN
pub record IsDriver (luns : List LunView) (v : LunView) : Type 0 where
  pub is : driver luns ≡ Some v

pub alone_drives : (luns : List LunView) (n : ℕ) (v : LunView) → slice_get luns n ≡ Some v → is_off (cond (has_driver luns) v.latch Off) ≡ false → IsDriver luns v
alone_drives luns n v found on = at (driver luns) refl on
  where
    at : (d : Option LunView) → driver luns ≡ d → is_off (cond (is_some_and (λ v. true) d) v.latch Off) ≡ false → IsDriver luns v
    at None e on = cc
    at (Some w) e on = record { is = e ∙ ap (λ (w : LunView). Some w) (driver_at luns n v w found on e) }

alone_latch : (luns : List LunView) (v : LunView) → is_data (cond (has_driver luns) v.latch Off) ≡ true → is_data v.latch ≡ true
alone_latch luns v h = at (has_driver luns) h
  where
    at : (b : Bool) → is_data (cond b v.latch Off) ≡ true → is_data v.latch ≡ true
    at true h = h
    at false h = cc

data_is_on : (l : Latch) → is_data l ≡ true → is_off l ≡ false
data_is_on Off h = cc
data_is_on Status h = cc
data_is_on Data h = refl

pub driver_passes : (test : LunView → Bool) (luns : List LunView) (v : LunView) → IsDriver luns v → driver_is test luns ≡ test v
driver_passes test luns v d = rw d.is refl

-- an effect that comes or not
choice : (g : Parts) (v : LunView) (b : Bool) (x y : Effect) → (b ≡ true → EffectFits g v x) → (b ≡ false → EffectFits g v y) → EffectFits g v (cond b x y)
choice g v true x y f h = f refl
choice g v false x y f h = h refl

page_is_small : (g : Parts) → InLimits g → (row : ℕ) → (page_address g row).page < 2 ^ 32
page_is_small g limits row =
    let below : row % 2 ^ page_bits g < 2 ^ page_bits g = mod-lt row (pow_pos (page_bits g)) in
    let bits : page_bits g ≤ 24 = omega (arith, limits.row_bits_most) in
    let most : 2 ^ page_bits g ≤ 2 ^ 24 = pow-le-pow_right {n = 2} (omega arith) bits in
    omega arith

-- a tail that wants a closer names the row of its opener
wants_read : (c : Command) (n : ℕ) → (closes c ReadConfirm && n == address_cycles c) ≡ true → (is_read c && n == 5) ≡ true
wants_read Read n h = h
wants_read c n h = cc

wants_cache_read : (c : Command) (n : ℕ) → (closes c ReadCacheSequential && n == address_cycles c) ≡ true → (is_read c && n == 5) ≡ true
wants_cache_read Read n h = h
wants_cache_read c n h = cc

wants_plane_read : (c : Command) (n : ℕ) → (closes c ReadPlane && n == address_cycles c) ≡ true → (is_read c && n == 5) ≡ true
wants_plane_read Read n h = h
wants_plane_read c n h = cc

wants_copyback_read : (c : Command) (n : ℕ) → (closes c CopybackRead && n == address_cycles c) ≡ true → (is_read c && n == 5) ≡ true
wants_copyback_read Read n h = h
wants_copyback_read c n h = cc

wants_erase : (c : Command) (n : ℕ) → (closes c BlockEraseConfirm && n == address_cycles c) ≡ true → (is_block_erase c && n == 3) ≡ true
wants_erase BlockErase n h = h
wants_erase c n h = cc

wants_plane_erase : (c : Command) (n : ℕ) → (closes c BlockErasePlane && n == address_cycles c) ≡ true → (is_block_erase c && n == 3) ≡ true
wants_plane_erase BlockErase n h = h
wants_plane_erase c n h = cc

opened_too : (test other : Command → ℕ → Bool) → ((c : Command) (n : ℕ) → test c n ≡ true → other c n ≡ true) → (o : Option Opening) → opened test o ≡ true → opened other o ≡ true
opened_too test other follows None h = cc
opened_too test other follows (Some o) h = follows o.opener o.addresses h

read_named : (t : TailFacts) → names_read t ≡ true → names_row t ≡ true
read_named t h = or_left (names_read t) _ h

erase_named : (t : TailFacts) → names_erase t ≡ true → names_row t ≡ true
erase_named t h = or_right (names_read t) _ (or_left (names_erase t) _ h)

program_named : (t : TailFacts) → names_program t ≡ true → names_row t ≡ true
program_named t h = or_right (names_read t) _ (or_right (names_erase t) _ h)

can_start : (g : Parts) (t : TailFacts) (n : ℕ) (v : LunView) → RowStands g t n v → names_lun g (row t) n ≡ true → names_row t ≡ true → CanStart g v (page_address g (row t))
can_start g t n v rs named is = record { inside = rs.inside named is; ready = rs.ready named is }

erase_fits : (g : Parts) (t : TailFacts) (n : ℕ) (v : LunView) → RowFits g t n v → RowStands g t n v → names_lun g (row t) n ≡ true → names_erase t ≡ true → (some_queued_clashes g true (page_address g (row t)) v.queue ≡ false) × CanStart g v (page_address g (row t))
erase_fits g t n v rf rs named is = (rf.erase named is, can_start g t n v rs named (erase_named t is))

program_fits : (g : Parts) (t : TailFacts) (n : ℕ) (v : LunView) → RowFits g t n v → RowStands g t n v → names_lun g (row t) n ≡ true → takes_data t.phase ≡ true → (some_queued_clashes g false (page_address g (row t)) v.queue ≡ false) × CanStart g v (page_address g (row t))
program_fits g t n v rf rs named is =
    let whole : names_program t ≡ true = or_left (takes_data t.phase) (wants_column t.phase) is in
    (rf.program named whole, can_start g t n v rs named (program_named t whole))

-- the closer of a row
confirm_fits : (g : Parts) → InLimits g → (t : TailFacts) (n : ℕ) (v : LunView) → TailFits g t → RowFits g t n v → RowStands g t n v → (c : Command) → (wants_command t c && names_lun g (row t) n) ≡ true → EffectFits g v (confirm_effect g t c)
confirm_fits g limits t n v tf rf rs ReadConfirm h =
    let parts = both (wants_command t ReadConfirm) _ h in
    (page_is_small g limits (row t), tf.column, can_start g t n v rs parts.1 (read_named t (opened_too _ _ wants_read t.opening parts.0)))
confirm_fits g limits t n v tf rf rs ReadPlane h =
    let parts = both (wants_command t ReadPlane) _ h in
    let whole = opened_too _ _ wants_plane_read t.opening parts.0 in
    (rf.read parts.1 whole, can_start g t n v rs parts.1 (read_named t whole))
confirm_fits g limits t n v tf rf rs CopybackRead h =
    let parts = both (wants_command t CopybackRead) _ h in
    (page_is_small g limits (row t), tf.column, pow_pos g.plane_bits, can_start g t n v rs parts.1 (read_named t (opened_too _ _ wants_copyback_read t.opening parts.0)))
confirm_fits g limits t n v tf rf rs ReadCacheSequential h =
    let parts = both (wants_command t ReadCacheSequential) _ h in
    (page_is_small g limits (row t), can_start g t n v rs parts.1 (read_named t (opened_too _ _ wants_cache_read t.opening parts.0)))
confirm_fits g limits t n v tf rf rs BlockEraseConfirm h = let parts = both (wants_command t BlockEraseConfirm) _ h in erase_fits g t n v rf rs parts.1 (opened_too _ _ wants_erase t.opening parts.0)
confirm_fits g limits t n v tf rf rs BlockErasePlane h = let parts = both (wants_command t BlockErasePlane) _ h in erase_fits g t n v rf rs parts.1 (opened_too _ _ wants_plane_erase t.opening parts.0)
confirm_fits g limits t n v tf rf rs ProgramConfirm h = let parts = both (wants_command t ProgramConfirm) _ h in program_fits g t n v rf rs parts.1 parts.0
confirm_fits g limits t n v tf rf rs ProgramPlane h = let parts = both (wants_command t ProgramPlane) _ h in program_fits g t n v rf rs parts.1 parts.0
confirm_fits g limits t n v tf rf rs ProgramCache h = let parts = both (wants_command t ProgramCache) _ h in program_fits g t n v rf rs parts.1 parts.0
confirm_fits g limits t n v tf rf rs c h = tt

-- a cache read goes on inside its block
continued_fits : (g : Parts) → InLimits g → (t : TailFacts) (luns : List LunView) (v : LunView) → breaks_cache_read_misplaced g t luns (CommandCycle ReadCacheSequential) ≡ false → wants_command t ReadCacheSequential ≡ false → IsDriver luns v → (v.array_page.page + 1 < 2 ^ 32) × (v.busy ≡ false)
unfolding breaks_cache_read_misplaced
continued_fits g limits t luns v f15 unwanted d =
    let unless : not (driver_is (continues_cache g) luns) ≡ false = chosen_else (wants_command t ReadCacheSequential) _ _ f15 unwanted in
    let passes : continues_cache g v ≡ true = sym (driver_passes (continues_cache g) luns v d) ∙ not-false _ unless in
    let inside = (both (has_read_one v) _ (both (not v.busy) _ passes).1).1 in
    let pages = limits.pages_most in
    let low : v.array_page.page + 1 < 2 ^ 32 = grind (arith, nat_tests) in
    (low, not-true v.busy (both (not v.busy) _ passes).0)

-- one that ends
ended_fits : (g : Parts) (t : TailFacts) (luns : List LunView) (v : LunView) → breaks_cache_read_misplaced g t luns (CommandCycle ReadCacheEnd) ≡ false → IsDriver luns v → v.busy ≡ false
unfolding breaks_cache_read_misplaced
ended_fits g t luns v f15 d =
    let passes : ends_cache v ≡ true = sym (driver_passes ends_cache luns v d) ∙ not-false _ f15 in
    not-true v.busy (both (not v.busy) _ passes).0

row_effect_fits : (g : Parts) → InLimits g → (t : TailFacts) (n : ℕ) (v : LunView) → TailFits g t → RowFits g t n v → RowStands g t n v → (c : Command) → EffectFits g v (row_effect g t c n)
row_effect_fits g limits t n v tf rf rs c =
    choice g v (wants_command t c && names_lun g (row t) n) (confirm_effect g t c) (other_effect g t c) (confirm_fits g limits t n v tf rf rs c)
    (λ e. choice g v (closes_row c && (wants_command t c && is_shared g)) (AnotherAddressed (reads_row c)) Unaffected (λ e. tt) (λ e. tt))

command_fits : (g : Parts) → InLimits g → (t : TailFacts) (luns : List LunView) (n : ℕ) (v : LunView) → TailFits g t → RowFits g t n v → RowStands g t n v → slice_get luns n ≡ Some v → (c : Command) → breaks_cache_read_misplaced g t luns (CommandCycle c) ≡ false → EffectFits g v (command_effect g t (cond (has_driver luns) v.latch Off) c n)
command_fits g limits t luns n v tf rf rs found Read f15 = tt
command_fits g limits t luns n v tf rf rs found ReadStatus f15 = choice g v (is_shared g) StatusOfSelected StatusSelected (λ e. tt) (λ e. tt)
command_fits g limits t luns n v tf rf rs found ReadStatusEnhanced f15 = tt
command_fits g limits t luns n v tf rf rs found Reset f15 = choice g v (is_shared g) (TargetResetStarted (n == 0)) ResetStarted (λ e. tt) (λ e. tt)
command_fits g limits t luns n v tf rf rs found SynchronousReset f15 = choice g v (is_shared g) (TargetResetStarted (n == 0)) ResetStarted (λ e. tt) (λ e. tt)
command_fits g limits t luns n v tf rf rs found ReadCacheSequential f15 =
    choice g v (wants_command t ReadCacheSequential) (row_effect g t ReadCacheSequential n) (cache_effect (cond (has_driver luns) v.latch Off)) (λ w. row_effect_fits g limits t n v tf rf rs ReadCacheSequential)
    (λ w. choice g v (is_off (cond (has_driver luns) v.latch Off)) Unaffected (CacheReadContinued None) (λ e. tt) (λ e. continued_fits g limits t luns v f15 w (alone_drives luns n v found e)))
command_fits g limits t luns n v tf rf rs found ReadCacheEnd f15 = choice g v (is_off (cond (has_driver luns) v.latch Off)) Unaffected CacheReadEnded (λ e. tt) (λ e. ended_fits g t luns v f15 (alone_drives luns n v found e))
command_fits g limits t luns n v tf rf rs found ChangeReadColumnConfirm f15 =
    choice g v (selects_plane t) (plane_effect g t n) (column_effect t (cond (has_driver luns) v.latch Off))
    (λ e. choice g v (names_lun g (row t) n) (PlaneSelected (plane_of_row g (row t)) (planes g) t.column) Deselected (λ e. (tf.column, pow_pos g.plane_bits)) (λ e. tt))
    (λ e. choice g v (wants_command t ChangeReadColumnConfirm && not (is_off (cond (has_driver luns) v.latch Off))) (ReadColumnChanged t.column) Unaffected (λ e. tf.column) (λ e. tt))
command_fits g limits t luns n v tf rf rs found c f15 = row_effect_fits g limits t n v tf rf rs c

-- the address of an identity comes at a ready LUN
pub identity_waits : (t : TailFacts) (byte : ℕ) (o : Opening) → t.opening ≡ Some o → wants_column t.phase ≡ false → reads_identity o.opener ≡ true → wants_address t byte ≡ true → names_identity t ≡ true
identity_waits t byte o is none reads h = at (wants_column t.phase) none (ap (λ (q : Option Opening). opened (λ c n. is_opener c && ltb n (address_cycles c) && takes_address c byte) q || wants_column t.phase) (sym is) ∙ h)
  where
    low : (c : Command) (n : ℕ) → reads_identity c ≡ true → (is_opener c && ltb n (address_cycles c) && takes_address c byte) ≡ true → (reads_identity c && n == 0) ≡ true
    low ReadId n r h = let below = (both (ltb n 1) _ h).0 in let same : n ≡ 0 = grind (arith, nat_tests) in rw same refl
    low ReadParameterPage n r h = let below = (both (ltb n 1) _ h).0 in let same : n ≡ 0 = grind (arith, nat_tests) in rw same refl
    low ReadUniqueId n r h = let below = (both (ltb n 1) _ h).0 in let same : n ≡ 0 = grind (arith, nat_tests) in rw same refl
    low GetFeatures n r h = let below = (both (ltb n 1) _ h).0 in let same : n ≡ 0 = grind (arith, nat_tests) in rw same refl
    low SetFeatures n r h = let below = (both (ltb n 1) _ h).0 in let same : n ≡ 0 = grind (arith, nat_tests) in rw same refl
    low _ n r h = cc

    at : (b : Bool) → b ≡ false → ((is_opener o.opener && ltb o.addresses (address_cycles o.opener) && takes_address o.opener byte) || b) ≡ true → names_identity t ≡ true
    at true e h = cc
    at false e h = or_left (opened (λ c n. reads_identity c && n == 0) t.opening) (takes_features t.phase) (ap (opened (λ c n. reads_identity c && n == 0)) is ∙ low o.opener o.addresses reads (of _ h))
      where
        of : (a : Bool) → (a || false) ≡ true → a ≡ true
        of true h = refl
        of false h = cc

-- what is done for a whole target
served_fits : (g : Parts) (v : LunView) (n : ℕ) (w : Bool) (x : Effect) → (w ≡ true → EffectFits g v x) → EffectFits g v (cond w (of_target g n x) Unaffected)
served_fits g v n w x f = choice g v w (of_target g n x) Unaffected (λ e. choice g v (acts_for_target g n) x Deselected (λ a. f e) (λ a. tt)) (λ e. tt)

address_kind_fits : (g : Parts) (t : TailFacts) (byte : ℕ) (n : ℕ) (v : LunView) (c : Command) (m : ℕ) → (reads_identity c ≡ true → wants_address t byte ≡ true → v.busy ≡ false) → EffectFits g v (address_effect g t byte c m n)
address_kind_fits g t byte n v ReadStatusEnhanced m ready =
    choice g v (m == 2) (cond (names_lun g (row_with t byte) n) SelectedForStatus Deselected) Unaffected (λ e. choice g v (names_lun g (row_with t byte) n) SelectedForStatus Deselected (λ e. tt) (λ e. tt)) (λ e. tt)
address_kind_fits g t byte n v ReadId m ready = served_fits g v n (wants_address t byte) (id_effect byte) (λ e. choice g v (byte == 0x20) IdRead (IdentityRead (byte == 0x40)) (λ f. ready refl e) (λ f. ready refl e))
address_kind_fits g t byte n v ReadUniqueId m ready = served_fits g v n (wants_address t byte) UniqueIdReadStarted (λ e. ready refl e)
address_kind_fits g t byte n v GetFeatures m ready = served_fits g v n (wants_address t byte) (FeaturesReadStarted byte) (λ e. ready refl e)
address_kind_fits g t byte n v ResetLun m ready =
    choice g v (m == 2) (lun_reset_effect g (names_lun g (row_with t byte) n)) Unaffected
    (λ e. choice g v (names_lun g (row_with t byte) n) ResetStarted _ (λ e. tt) (λ e. choice g v (is_shared g) (AnotherAddressed false) Unaffected (λ e. tt) (λ e. tt)))
    (λ e. tt)
address_kind_fits g t byte n v ReadParameterPage m ready = served_fits g v n (wants_address t byte) ParameterPageReadStarted (λ e. ready refl e)
address_kind_fits g t byte n v PageProgram m ready =
    choice g v (m == 4) (program_row_effect (names_lun g (row_with t byte) n)) Unaffected (λ e. choice g v (names_lun g (row_with t byte) n) ProgramAddressed Unaffected (λ e. tt) (λ e. tt)) (λ e. tt)
address_kind_fits g t byte n v c m ready = tt

address_fits : (g : Parts) (t : TailFacts) (byte n : ℕ) (v : LunView) → TailFits g t → RowStands g t n v → EffectFits g v (opening_address_effect g t byte t.opening n)
address_fits g t byte n v tf rs = at t.opening refl
  where
    outside : (o : Opening) → t.opening ≡ Some o → (b : Bool) → wants_column t.phase ≡ b → wants_column t.phase ≡ false
    outside o is true e = let none = tf.in_column e in cc
    outside o is false e = e

    at : (q : Option Opening) → t.opening ≡ q → EffectFits g v (opening_address_effect g t byte q n)
    at None e = tt
    at (Some o) e = address_kind_fits g t byte n v o.opener o.addresses (λ reads h. rs.identity (identity_waits t byte o e (outside o e (wants_column t.phase) refl) reads h))

-- an output lies in its register
register_is_small : (g : Parts) → InLimits g → (r : Register) → register_len g r ≤ 20480
register_is_small g limits Empty = omega arith
register_is_small g limits (Page p) = let a = limits.page_bytes_most in let b = limits.spare_bytes_most in omega arith
register_is_small g limits ParameterPage = omega arith
register_is_small g limits Identifier = omega arith
register_is_small g limits Identity = omega arith
register_is_small g limits JedecIdentity = omega arith
register_is_small g limits UniqueId = omega arith
register_is_small g limits (Features address) = omega arith

outputs_are_small : (k : ReadColumn) (len : ℕ) → len ≤ 20480 → lacks (output_column k) ≡ false → is_past (output_column k) len ≡ false → k.outputs < 2 ^ 16
outputs_are_small k len small found inside = at k.lost found inside
  where
    given : (from : Option ℕ) → lacks (option_plus k.outputs from) ≡ false → is_past (option_plus k.outputs from) len ≡ false → k.outputs < 2 ^ 16
    given None found inside = cc
    given (Some from) found inside = grind (arith, nat_tests)

    at : (b : Bool) → lacks (cond b None (option_plus k.outputs k.given)) ≡ false → is_past (cond b None (option_plus k.outputs k.given)) len ≡ false → k.outputs < 2 ^ 16
    at true found inside = cc
    at false found inside = given k.given found inside

output_fits : (g : Parts) → InLimits g → (t : TailFacts) (luns : List LunView) (v : LunView) → breaks_data_not_ready luns OutputCycle ≡ false → breaks_column_outside g t luns OutputCycle ≡ false → IsDriver luns v → is_data v.latch ≡ true → v.column.outputs < 2 ^ 16
unfolding breaks_data_not_ready breaks_column_outside
output_fits g limits t luns v f13 f14 d shows =
    let has_byte : has_no_byte v ≡ false = sym (driver_passes has_no_byte luns v d) ∙ f13 in
    let is_inside : is_past_register g v ≡ false = sym (driver_passes (is_past_register g) luns v d) ∙ f14 in
    let found = (neither (v.busy || is_empty v.register) _ (and_rest (is_data v.latch) (v.busy || is_empty v.register || lacks (output_column v.column)) shows has_byte)).1 in
    outputs_are_small v.column (register_len g v.register) (register_is_small g limits v.register) found (and_rest (is_data v.latch) _ shows is_inside)

cycle_fits : (g : Parts) → InLimits g → (t : TailFacts) (luns : List LunView) (n : ℕ) (v : LunView) → TailFits g t → RowFits g t n v → RowStands g t n v → slice_get luns n ≡ Some v → (cycle : TargetCycle) → KeepsRules g t luns cycle → EffectFits g v (cycle_effect g t (cond (has_driver luns) v.latch Off) cycle n)
cycle_fits g limits t luns n v tf rf rs found (CommandCycle c) keeps = command_fits g limits t luns n v tf rf rs found c keeps.f15
cycle_fits g limits t luns n v tf rf rs found (AddressCycle byte) keeps = address_fits g t byte n v tf rs
cycle_fits g limits t luns n v tf rf rs found (InputCycle byte) keeps =
    served_fits g v n (ends_features t) (FeaturesSet (t.column % 256)) (λ e. rs.identity (or_right (opened (λ c n. reads_identity c && n == 0) t.opening) (takes_features t.phase) (both (takes_features t.phase) _ e).0))
cycle_fits g limits t luns n v tf rf rs found OutputCycle keeps =
    choice g v (is_data (cond (has_driver luns) v.latch Off)) DataOutput Unaffected
    (λ e. output_fits g limits t luns v keeps.f13 keeps.f14 (alone_drives luns n v found (data_is_on _ e)) (alone_latch luns v e))
    (λ e. tt)

-- the effect of a permitted item on a LUN of its target
pub effect_fits : (g : Parts) → InLimits g → (targets : ℕ) (t : TailFacts) (luns : List LunView) (i : Item) (n : ℕ) (v : LunView) → judge g targets t luns i ≡ None → TailFits g t → RowFits g t n v → RowStands g t n v → slice_get luns n ≡ Some v → EffectFits g v (effect_alone g t (has_driver luns) i n v)
effect_fits g limits targets t luns (Cyc c) n v h tf rf rs found =
    let cycle = target_cycle c.kind c.byte in
    let keeps = keeps_rules g t luns cycle (first_passed (breaks_not_there targets luns (Cyc c)) NotThere (judge_cycle g t luns cycle) h).1 in
    choice g v (c.ce == c.ce) (cycle_effect g t (cond (has_driver luns) v.latch Off) cycle n) Unaffected (λ e. cycle_fits g limits t luns n v tf rf rs found cycle keeps) (λ e. tt)
effect_fits g limits targets t luns (Rdy ce lun fail) n v h tf rf rs found = choice g v (ce == ce && lun == n) (BecameReady fail) Unaffected (λ e. tt) (λ e. tt)
effect_fits g limits targets t luns (Ard ce lun fail) n v h tf rf rs found = choice g v (ce == ce && lun == n) (ArrayBecameReady fail) Unaffected (λ e. tt) (λ e. tt)
