-- What a claim says of a program: of its words done, and of the scene of its LUN.
use Rattle.std.specs.List.{list_any}
use Rattle.std.proofs.Common.{◌≡◌, ℕ, ◌+◌, ◌/◌, ◌%◌, ◌≤◌, ◌<◌, ◌==◌, Bool, true, false, ◌&&◌, cond, not, ltb, nat_le, List, [], ◌∷◌, Option, Some, None, take, drop, length}
use Rattle.nand_geometry.specs.declared.parts.Parts.{Parts}
use Rattle.nand_geometry.specs.Limits.{planes}
use Rattle.nand_geometry.specs.Optional.{has_plane_reads}
use Rattle.nand_geometry.specs.Row.{row_of, parts_of, indexed, row_bytes_of, is_inside}
use Rattle.onfi_cycle.specs.declared.command.Command.{Command}
use Rattle.onfi_cycle.specs.declared.command.Command.TheVariants.{Read, ReadConfirm, ReadCacheSequential, ChangeReadColumn, ChangeReadColumnEnhanced, BlockErase, PageProgram, ChangeWriteColumn, ReadId, ReadParameterPage, ReadUniqueId, GetFeatures, SetFeatures, ResetLun}
use Rattle.onfi_cycle.specs.declared.data_phase.DataPhase.{DataPhase}
use Rattle.onfi_cycle.specs.declared.data_phase.DataPhase.TheVariants.{Inputs, FirstColumn, SecondColumn, FeatureInputs}
use Rattle.onfi_cycle.specs.declared.latch.Latch.{Latch}
use Rattle.onfi_cycle.specs.declared.latch.Latch.TheVariants.{Off, Status, Data}
use Rattle.onfi_cycle.specs.declared.queued.Queued.{Queued}
use Rattle.onfi_cycle.specs.declared.queued.Queued.TheVariants.{Erase, Program, Read as QueuedRead}
use Rattle.onfi_cycle.specs.declared.page_address.PageAddress.{PageAddress}
use Rattle.onfi_cycle.specs.declared.read_column.ReadColumn.{ReadColumn}
use Rattle.onfi_cycle.specs.declared.register.Register.{Register}
use Rattle.onfi_cycle.specs.declared.register.Register.TheVariants.{Empty, Page, ParameterPage, Identifier, Identity, JedecIdentity, UniqueId, Features}
use Rattle.onfi_cycle.specs.declared.tail_facts.TailFacts.{TailFacts}
use Rattle.onfi_cycle.specs.declared.target_cycle.TargetCycle.TheVariants.{CommandCycle, AddressCycle}
use Rattle.onfi_cycle.specs.LunView.{LunView}
use Rattle.onfi_cycle.specs.Sequence.{facts_of, facts_after, is_open, input_column}
use Rattle.onfi_cycle.specs.Lun.{programs, output_column, is_queued_read, is_copyback_read, pages_of_reads, page_in_plane}
use Rattle.onfi_cycle.specs.Rules.{keeps_copy}
use Rattle.micro_claims.specs.Spans.{Span}
use Rattle.micro_claims.specs.Planes.{Planes, has_plane}
use Rattle.micro_claims.specs.State.{State, Registers, KnownTarget, KnownLun, PageRange, Place, Closed, After, InData, InColumn, InFeatures, Unknown, Drift, NamedRow, Shown, Held, OutputColumn, QueuedRows, NoRows, SomeRows, SomeReads, AnyRows, LastCloser, Copies, shows_status, shows_register, holds_page, holds_parameters, holds_identifier, holds_identity, holds_jedec, holds_unique_id, holds_feature, may_be_30, may_be_31, may_be_other}
use Rattle.micro_claims.specs.Against.{is_inside_address, next_address, first_address, is_in_features}
use Rattle.micro_program.specs.Program.{Job, Done, column_now, plane_now, index_now, place_now, cost_now}
use Rattle.micro_program.proofs.Scenes.{Scene}

-- 1. numbers

abbrev pub Below : ℕ → Option ℕ → Type 0
Below n None = Unit {0}
Below n (Some bound) = n ≤ bound

pub record InSpan (n : ℕ) (s : Span) : Type 0 where
  pub least : s.lo ≤ n
  pub most : Below n s.hi

pub record InRange (n : ℕ) (r : PageRange) : Type 0 where
  pub least : r.lo ≤ n
  pub most : n ≤ r.hi

-- 2. the registers

pub record RegistersFit (g : Parts) (j : Job) (r : Registers) (done : List Done) : Type 0 where
  pub column : InSpan (column_now done) r.column
  pub plane : has_plane (plane_now done) r.planes ≡ true
  -- the index over the base
  pub over : ℕ
  pub over_is : index_now j.base done ≡ j.base + over
  pub index : InSpan over r.index
  pub page : j.base % g.pages ≡ 0 → InRange (index_now j.base done % g.pages) r.page
  pub place : Below (place_now done) r.place.hi
  pub cost : Below (cost_now g done) r.cost.hi
  pub within : cost_now g done ≤ j.text.budget

-- 3. the tail

-- the numbers that an address carries: a column, and an index of a plane with the bytes of its row
pub record Address : Type 0 where
  pub column : ℕ
  pub index : ℕ
  pub plane : ℕ
  pub r1 : ℕ
  pub r2 : ℕ
  pub r3 : ℕ

abbrev pub all_bytes : Address → List ℕ
all_bytes a = a.column % 256 ∷ (a.column / 256 % 256 ∷ (a.r1 ∷ (a.r2 ∷ (a.r3 ∷ []))))

-- the address bytes of an opener
abbrev pub bytes_of : Command → Address → List ℕ
bytes_of o a = drop (first_address o) (all_bytes a)

abbrev pub opener_facts : Command → TailFacts
opener_facts o = facts_of (CommandCycle o ∷ [])

abbrev pub facts_behind : TailFacts → List ℕ → TailFacts
facts_behind t [] = t
facts_behind t (b ∷ bs) = facts_behind (facts_after (AddressCycle b) t) bs

-- the openers, with so many addresses, behind which the tail may be
abbrev pub is_place : Command → ℕ → Bool
is_place Read n = nat_le n 5
is_place ChangeReadColumn n = nat_le n 2
is_place ChangeReadColumnEnhanced n = nat_le n 5
is_place BlockErase n = nat_le n 3
is_place PageProgram n = nat_le n 4
is_place ChangeWriteColumn n = nat_le n 4
is_place ReadId n = n == 0
is_place ReadParameterPage n = n == 0
is_place ReadUniqueId n = n == 0
is_place GetFeatures n = n == 0
is_place SetFeatures n = n == 0
is_place ResetLun n = nat_le n 2
is_place _ n = false

abbrev pub column_phase : ℕ → DataPhase
column_phase n = cond (n == 0) FirstColumn SecondColumn

-- in the data of a program whose row this is, or its column
pub record InProgram (a : Address) (d : DataPhase) (t : TailFacts) : Type 0 where
  pub phase : t.phase ≡ d
  pub row : t.row ≡ record { r1 = a.r1; r2 = a.r2; r3 = a.r3 }
  pub begun : t.is_empty ≡ false

pub record Opened (o : Command) (n : ℕ) (a : Address) (t : TailFacts) : Type 0 where
  pub place : is_place o n ≡ true
  pub facts : t ≡ facts_behind (opener_facts o) (take n (bytes_of o a))

pub record ColumnBegun (n : ℕ) (a : Address) (t : TailFacts) : Type 0 where
  pub few : n ≤ 1
  pub alone : t.opening ≡ None
  pub program : InProgram a (column_phase n) t
  pub column : n ≡ 1 → t.column ≡ a.column % 256

-- in the four bytes of a Set Features, of which so many have come
pub record FeaturesBegun (n : ℕ) (t : TailFacts) : Type 0 where
  pub few : n ≤ 3
  pub phase : t.phase ≡ FeatureInputs
  pub inputs : t.inputs ≡ n
  pub begun : t.is_empty ≡ false

abbrev pub PlaceIs : Place → Address → TailFacts → Type 0
PlaceIs Closed a t = is_open t ≡ false
PlaceIs (After o n) a t = Opened o n a t
PlaceIs InData a t = InProgram a Inputs t
PlaceIs (InColumn n) a t = ColumnBegun n a t
PlaceIs (InFeatures n) a t = FeaturesBegun n t
PlaceIs Unknown a t = Unit {0}

-- the tail has a whole column, a whole row
abbrev pub takes_column : Command → Bool
takes_column Read = true
takes_column ChangeReadColumn = true
takes_column ChangeReadColumnEnhanced = true
takes_column PageProgram = true
takes_column ChangeWriteColumn = true
takes_column _ = false

abbrev pub takes_row : Command → Bool
takes_row Read = true
takes_row ChangeReadColumnEnhanced = true
takes_row BlockErase = true
takes_row PageProgram = true
takes_row ChangeWriteColumn = true
takes_row _ = false

abbrev pub has_column : Place → Bool
has_column Closed = false
has_column (After o n) = takes_column o && nat_le 2 n
has_column InData = true
has_column (InColumn n) = false
has_column (InFeatures n) = false
has_column Unknown = false

abbrev pub has_row : Place → Bool
has_row Closed = false
has_row (After o n) = takes_row o && nat_le 5 (first_address o + n)
has_row InData = true
has_row (InColumn n) = true
has_row (InFeatures n) = false
has_row Unknown = false

-- some of the addresses of a known place have come, but not all
abbrev pub holds_address : Place → Bool
holds_address Unknown = false
holds_address p = is_inside_address p

-- the address registers as they are
pub record Now : Type 0 where
  pub column : ℕ
  pub index : ℕ
  pub plane : ℕ

abbrev pub now_of : Job → List Done → Now
now_of j done = record { column = column_now done; index = index_now j.base done; plane = plane_now done }

-- the address is that of the registers as they are
pub record IsNow (g : Parts) (j : Job) (a : Address) (n : Now) (place : Place) : Type 0 where
  pub column : a.column ≡ n.column
  pub bytes : ltb 2 (next_address place) ≡ true → row_bytes_of g j.lun.lun n.index n.plane ≡ Some (a.r1 ∷ (a.r2 ∷ (a.r3 ∷ [])))

abbrev pub ColumnFits : ℕ → Option Span → Type 0
ColumnFits n None = ⊥
ColumnFits n (Some k) = Below n k.hi

abbrev pub DriftFits : ℕ → ℕ → Option Drift → Type 0
DriftFits now index None = Unit {0}
DriftFits now index (Some d) = now + d.behind ≡ index + d.ahead

pub record RowNamed (g : Parts) (j : Job) (a : Address) (now : ℕ) (n : NamedRow) : Type 0 where
  pub over : ℕ
  pub over_is : a.index ≡ j.base + over
  pub index : InSpan over n.index
  pub plane : has_plane a.plane n.planes ≡ true
  pub page : j.base % g.pages ≡ 0 → a.index % g.pages ≤ n.page
  pub drift : DriftFits now a.index n.drift

abbrev pub NameFits : Parts → Job → Address → ℕ → Option NamedRow → Type 0
NameFits g j a now None = Unit {0}
NameFits g j a now (Some n) = RowNamed g j a now n

-- its row is one of this LUN
pub record RowIs (g : Parts) (j : Job) (a : Address) : Type 0 where
  pub low : a.plane < planes g
  pub reads : parts_of g (row_of a.r1 a.r2 a.r3) ≡ indexed g j.lun.lun a.index a.plane
  pub inside : is_inside g (parts_of g (row_of a.r1 a.r2 a.r3)) ≡ true

pub record TailFits (g : Parts) (j : Job) (v : KnownTarget) (n : Now) (t : TailFacts) : Type 0 where
  pub place : Place
  pub here : v.tail ≡ place
  pub address : Address
  pub is : PlaceIs place address t
  pub now : holds_address place ≡ true → IsNow g j address n place
  pub column : has_column place ≡ true → ColumnFits (input_column t) v.column
  pub row : has_row place ≡ true → RowIs g j address
  pub named : has_row place ≡ true → NameFits g j address n.index v.named
  pub single : is_in_features place ≡ true → ltb 1 g.luns ≡ false

-- 4. the LUN

abbrev pub latch_among : Shown → Latch → Bool
latch_among w Off = false
latch_among w Status = shows_status w
latch_among w Data = shows_register w

abbrev pub ShowsFit : Option Shown → Scene → Type 0
ShowsFit None c = Unit {0}
ShowsFit (Some w) c = (c.sole ≡ true) × (latch_among w c.view.latch ≡ true)

abbrev pub register_among : Held → Register → Bool
register_among r Empty = false
register_among r (Page a) = holds_page r
register_among r ParameterPage = holds_parameters r
register_among r Identifier = holds_identifier r
register_among r Identity = holds_identity r
register_among r JedecIdentity = holds_jedec r
register_among r UniqueId = holds_unique_id r
register_among r (Features a) = holds_feature r

abbrev pub RegisterFits : Option Held → Register → Type 0
RegisterFits None r = Unit {0}
RegisterFits (Some w) r = register_among w r ≡ true

pub record OutputFits (k : OutputColumn) (c : ReadColumn) : Type 0 where
  pub at : ℕ
  pub is : output_column c ≡ Some at
  pub below : Below at k.at.hi
  pub unread : k.read ≡ false → c.outputs ≡ 0

abbrev pub OutputColumnFits : Option OutputColumn → ReadColumn → Type 0
OutputColumnFits None c = Unit {0}
OutputColumnFits (Some k) c = OutputFits k c

abbrev pub is_of_kind : Bool → Queued → Bool
is_of_kind erase (Erase p) = erase
is_of_kind erase (Program p) = not erase
is_of_kind erase (QueuedRead p) = false

abbrev pub page_of : Queued → PageAddress
page_of (Erase p) = p
page_of (Program p) = p
page_of (QueuedRead p) = p

pub record RowFits (g : Parts) (now : ℕ) (is_one : Queued → Bool) (queued : Planes) (d : Drift) (q : Queued) : Type 0 where
  pub kind : is_one q ≡ true
  pub index : ℕ
  pub plane : ℕ
  pub low : plane < planes g
  pub page : (page_of q).page ≡ (indexed g 0 index plane).page
  pub block : (page_of q).block ≡ (indexed g 0 index plane).block
  pub among : has_plane plane queued ≡ true
  pub drift : now + d.behind ≡ index + d.ahead

abbrev pub AllFit : (Queued → Type 0) → List Queued → Type 0
AllFit fits [] = Unit {0}
AllFit fits (q ∷ qs) = fits q × AllFit fits qs

-- in each of these planes one of the pages lies
abbrev pub HavePages : Parts → Planes → List PageAddress → Type 0
HavePages g sure pages = (n : ℕ) → has_plane n sure ≡ true → list_any (λ q. q.block % planes g == n) pages ≡ true

-- how many planes these are
abbrev pub one_if : Bool → ℕ
one_if b = cond b 1 0

abbrev pub count_of : Planes → ℕ
count_of p = one_if (has_plane 0 p) + one_if (has_plane 1 p) + one_if (has_plane 2 p) + one_if (has_plane 3 p)

-- reads of planes that differ, so that there are no more than planes
pub record ReadsFit (g : Parts) (now : ℕ) (queued surely : Planes) (d : Drift) (qs : List Queued) : Type 0 where
  pub declared : has_plane_reads g.optional ≡ true
  pub all : AllFit (RowFits g now is_queued_read queued d) qs
  pub few : length qs ≤ count_of queued
  pub pages : HavePages g surely (pages_of_reads qs)

abbrev pub RowsFit : Parts → ℕ → QueuedRows → List Queued → Type 0
RowsFit g now NoRows qs = qs ≡ []
RowsFit g now (SomeRows erase planes d) qs = AllFit (RowFits g now (is_of_kind erase) planes d) qs
RowsFit g now (SomeReads planes surely d) qs = ReadsFit g now planes surely d qs
RowsFit g now AnyRows qs = Unit {0}

abbrev pub command_among : LastCloser → Command → Bool
command_among w ReadConfirm = may_be_30 w
command_among w ReadCacheSequential = may_be_31 w
command_among w _ = may_be_other w

abbrev pub closer_among : LastCloser → Option Command → Bool
closer_among w None = may_be_other w
closer_among w (Some c) = command_among w c

-- the page that each of these planes holds is even, or odd, as this number is
abbrev pub page_number : Option PageAddress → Option ℕ
page_number None = None
page_number (Some q) = Some q.page

abbrev pub number_parity : Option ℕ → Option ℕ
number_parity None = None
number_parity (Some n) = Some (n % 2)

abbrev pub HaveParity : Parts → Planes → ℕ → List PageAddress → Type 0
HaveParity g p number pages = (n : ℕ) → has_plane n p ≡ true → number_parity (page_number (page_in_plane (planes g) n pages)) ≡ Some (number % 2)

-- each plane of the first is one of the second
abbrev pub Among : Planes → Planes → Type 0
Among p q = (n : ℕ) → has_plane n p ≡ true → has_plane n q ≡ true

-- what is held for copies: behind a 35 the pages of which it is sure come first, as many as planes
pub record CopiesFit (g : Parts) (c : Copies) (held : Planes) (index : ℕ) (closer : Option Command) (pages : List PageAddress) : Type 0 where
  pub even : HaveParity g c.even (index % g.pages) pages
  pub odd : HaveParity g c.odd (index % g.pages + 1) pages
  pub even_held : Among c.even held
  pub odd_held : Among c.odd held
  pub copying : c.copying ≡ true → is_copyback_read closer ≡ true
  pub first : c.copying ≡ true → HavePages g held (take (count_of held) pages)
  pub keeps : c.keeps ≡ true → keeps_copy closer ≡ true
  pub holds : c.holds ≡ false → pages ≡ []

pub record LunFits (g : Parts) (j : Job) (v : KnownLun) (index : ℕ) (view : LunView) : Type 0 where
  pub ready : v.busy ≡ false → view.busy ≡ false
  pub register : RegisterFits v.register view.register
  pub column : OutputColumnFits v.column view.column
  pub queue : RowsFit g index v.queue view.queue
  pub last : closer_among v.last view.closer ≡ true
  pub cached : j.base % g.pages ≡ 0 → may_be_other v.last ≡ false → Below view.array_page.page v.cached.page.hi
  pub held : may_be_other v.last ≡ false → nat_le (length view.held) 1 ≡ true
  pub planes : HavePages g v.held view.held
  pub array : HavePages g v.array (view.array_page ∷ [])
  pub copies : CopiesFit g v.copies v.held index view.closer view.held
  pub programming : v.programming ≡ false → programs view ≡ false

-- 5. all of it

abbrev pub is_unread : Option OutputColumn → Bool
is_unread None = true
is_unread (Some k) = not k.read

-- what is claimed where others may have the bus
pub record IsFree (v : State) : Type 0 where
  pub tail : v.target.tail ≡ Closed
  pub shows : v.target.shows ≡ None
  pub unread : is_unread v.lun.column ≡ true

-- the claim holds; of the tail only where no other LUN of the target may have the bus
pub record Fits (g : Parts) (j : Job) (v : State) (done : List Done) (c : Scene) (knows : Bool) : Type 0 where
  pub registers : RegistersFit g j v.registers done
  pub tail : knows ≡ true → TailFits g j v.target (now_of j done) c.facts
  pub free : knows ≡ false → IsFree v
  pub shows : ShowsFit v.target.shows c
  pub lun : LunFits g j v.lun (index_now j.base done) c.view
