-- What stays small while only permitted items come, so that a running channel fits numbers and lists of fixed size.
use Rattle.std.specs.Prelude.{◌≡◌, ℕ, ◌+◌, ◌^◌, ◌%◌, ◌<◌, ◌≤◌, ◌==◌, Bool, true, false, ◌||◌, ◌&&◌, nat_lt, if◌then◌else◌, List, [], ◌∷◌, Some, None, length, IfSome, All}
use Rattle.nand_geometry.specs.declared.parts.Parts.{Parts}
use Rattle.nand_geometry.specs.Limits.{InLimits, page_len, planes}
use Rattle.onfi_cycle.specs.declared.command.Command.{Command}
use Rattle.onfi_cycle.specs.declared.command.Command.TheVariants.{Read, BlockErase}
use Rattle.onfi_cycle.specs.declared.page_address.PageAddress.{PageAddress}
use Rattle.onfi_cycle.specs.Command.{reads_identity}
use Rattle.onfi_cycle.specs.declared.queued.Queued.{Queued}
use Rattle.onfi_cycle.specs.declared.queued.Queued.TheVariants.{Erase, Program, Read as QueuedRead}
use Rattle.onfi_cycle.specs.declared.tail_facts.TailFacts.{TailFacts}
use Rattle.onfi_cycle.specs.declared.data_phase.DataPhase.TheVariants.{Outside}
use Rattle.onfi_cycle.specs.LunView.{LunView}
use Rattle.onfi_cycle.specs.Sequence.{opened, takes_data, takes_features, wants_column, row}
use Rattle.onfi_cycle.specs.declared.effect.Effect.{Effect}
use Rattle.onfi_cycle.specs.declared.effect.Effect.TheVariants.{DataOutput, EraseStarted, ProgramStarted, ReadStarted, ReadColumnChanged, PlaneSelected, IdRead, IdentityRead, UniqueIdReadStarted, FeaturesReadStarted, FeaturesSet, ParameterPageReadStarted, CacheReadContinued, CacheReadEnded, ReadQueued, CopybackReadStarted, CacheProgramStarted}
use Rattle.onfi_cycle.specs.Effect.{is_shared, names_lun, page_address}
use Rattle.onfi_cycle.specs.Rules.{some_queued_clashes, some_read_clashes}
use Rattle.onfi_cycle.specs.State.{TargetView, BusView}

-- the counts of a tail, and how its parts stand to one another
pub record TailFits (g : Parts) (t : TailFacts) : Type 0 where
  pub column : t.column < 2 ^ 16
  pub inputs : t.inputs ≤ page_len g + 4
  pub addresses : IfSome t.opening (λ o. o.addresses ≤ 5)
  pub in_column : wants_column t.phase ≡ true → t.opening ≡ None
  pub nothing : t.is_empty ≡ true → t.opening ≡ None
  pub outside : t.is_empty ≡ true → t.phase ≡ Outside
  pub features : takes_features t.phase ≡ true → t.inputs < 4

abbrev pub plane_of : Parts → Queued → ℕ
plane_of g (Erase p) = p.block % planes g
plane_of g (Program p) = p.block % planes g
plane_of g (QueuedRead p) = p.block % planes g

-- some row of the queue lies in this plane
abbrev pub is_in_use : Parts → ℕ → List Queued → Bool
is_in_use g plane [] = false
is_in_use g plane (q ∷ queue) = plane_of g q == plane || is_in_use g plane queue

abbrev pub room_in : Parts → ℕ → List Queued → ℕ
room_in g plane queue = if is_in_use g plane queue then 0 else 1

-- how many of four planes hold no row of the queue
abbrev pub rooms : Parts → List Queued → ℕ
rooms g queue = room_in g 0 queue + room_in g 1 queue + room_in g 2 queue + room_in g 3 queue

-- the counts of a LUN; its queue has a plane for each row
pub record LunFits (g : Parts) (v : LunView) : Type 0 where
  pub outputs : v.column.outputs ≤ 2 ^ 16
  pub given : IfSome v.column.given (λ from. from < 2 ^ 16)
  pub array_page : v.array_page.page < 2 ^ 32
  pub queue : length v.queue + rooms g v.queue ≤ 4
  pub held : length v.held ≤ 4

abbrev pub is_block_erase : Command → Bool
is_block_erase BlockErase = true
is_block_erase _ = false

abbrev pub is_read : Command → Bool
is_read Read = true
is_read _ = false

-- the tail has the whole row of a read, of an erase, or of a program
abbrev pub names_read : TailFacts → Bool
names_read t = opened (λ c n. is_read c && n == 5) t.opening

abbrev pub names_erase : TailFacts → Bool
names_erase t = opened (λ c n. is_block_erase c && n == 3) t.opening

abbrev pub names_program : TailFacts → Bool
names_program t = takes_data t.phase || wants_column t.phase

abbrev pub names_row : TailFacts → Bool
names_row t = names_read t || (names_erase t || names_program t)

-- an opener that reads or sets what stands beside the array waits for its address, or a Set Features for its bytes
abbrev pub names_identity : TailFacts → Bool
names_identity t = opened (λ c n. reads_identity c && n == 0) t.opening || takes_features t.phase

-- the page lies inside a LUN
abbrev pub is_row : Parts → PageAddress → Bool
is_row g p = nat_lt p.block g.blocks && nat_lt p.page g.pages

-- the row that the tail names is inside the geometry, and its LUN is ready; while what reads or sets what stands beside the array is open,
-- each LUN of its target is ready, and it is the only one, but in the wider profile
pub record RowStands (g : Parts) (t : TailFacts) (n : ℕ) (v : LunView) : Type 0 where
  pub inside : names_lun g (row t) n ≡ true → names_row t ≡ true → is_row g (page_address g (row t)) ≡ true
  pub ready : names_lun g (row t) n ≡ true → names_row t ≡ true → v.busy ≡ false
  pub identity : names_identity t ≡ true → v.busy ≡ false
  pub alone : is_shared g ≡ false → names_identity t ≡ true → n ≡ 0

-- the row that the tail names goes together with the queue of its LUN
pub record RowFits (g : Parts) (t : TailFacts) (n : ℕ) (v : LunView) : Type 0 where
  pub read : names_lun g (row t) n ≡ true → names_read t ≡ true → some_read_clashes g (page_address g (row t)) v.queue ≡ false
  pub erase : names_lun g (row t) n ≡ true → names_erase t ≡ true → some_queued_clashes g true (page_address g (row t)) v.queue ≡ false
  pub program : names_lun g (row t) n ≡ true → names_program t ≡ true → some_queued_clashes g false (page_address g (row t)) v.queue ≡ false

-- of the LUNs of a target, from number n on
abbrev pub LunsFit : Parts → TailFacts → ℕ → List LunView → Type 0
LunsFit g t n [] = Unit {0}
LunsFit g t n (v ∷ vs) = LunFits g v × RowFits g t n v × RowStands g t n v × LunsFit g t (n + 1) vs

pub record TargetFits (g : Parts) (s : TargetView) : Type 0 where
  pub tail : TailFits g s.tail
  pub luns : LunsFit g s.tail 0 s.luns
  pub count : length s.luns ≡ g.luns

pub record BusFits (state : BusView) : Type 0 where
  pub limits : InLimits state.geometry
  pub targets : All (TargetFits state.geometry) state.targets
  pub count : length state.targets ≤ 4

-- the page is inside the geometry, and the LUN is ready
pub record CanStart (g : Parts) (v : LunView) (at : PageAddress) : Type 0 where
  pub inside : is_row g at ≡ true
  pub ready : v.busy ≡ false

-- an effect comes where it can: an output has its place, work starts on a ready LUN and inside the geometry, a row goes together with
-- the queue, and columns and pages are small
abbrev pub EffectFits : Parts → LunView → Effect → Type 0
EffectFits g v DataOutput = v.column.outputs < 2 ^ 16
EffectFits g v (EraseStarted queued at) = (some_queued_clashes g true at v.queue ≡ false) × CanStart g v at
EffectFits g v (ProgramStarted queued at) = (some_queued_clashes g false at v.queue ≡ false) × CanStart g v at
EffectFits g v (CacheProgramStarted at) = (some_queued_clashes g false at v.queue ≡ false) × CanStart g v at
EffectFits g v (ReadQueued at) = (some_read_clashes g at v.queue ≡ false) × CanStart g v at
EffectFits g v (ReadStarted page column) = (page.page < 2 ^ 32) × (column < 2 ^ 16) × CanStart g v page
EffectFits g v (CopybackReadStarted page column planes) = (page.page < 2 ^ 32) × (column < 2 ^ 16) × (0 < planes) × CanStart g v page
EffectFits g v (ReadColumnChanged column) = column < 2 ^ 16
EffectFits g v (PlaneSelected plane planes column) = (column < 2 ^ 16) × (0 < planes)
EffectFits g v IdRead = v.busy ≡ false
EffectFits g v (IdentityRead jedec) = v.busy ≡ false
EffectFits g v UniqueIdReadStarted = v.busy ≡ false
EffectFits g v (FeaturesReadStarted address) = v.busy ≡ false
EffectFits g v (FeaturesSet address) = v.busy ≡ false
EffectFits g v ParameterPageReadStarted = v.busy ≡ false
EffectFits g v (CacheReadContinued None) = (v.array_page.page + 1 < 2 ^ 32) × (v.busy ≡ false)
EffectFits g v (CacheReadContinued (Some page)) = (page.page < 2 ^ 32) × CanStart g v page
EffectFits g v CacheReadEnded = v.busy ≡ false
EffectFits g v _ = Unit {0}
