-- Where a claim is the exact picture of a lone LUN, its tail and the words done.
use Rattle.std.proofs.Common.{◌≡◌, ℕ, zero, suc, ◌+◌, ◌-◌, ◌*◌, ◌%◌, ◌≤◌, ◌<◌, ◌==◌, Bool, true, false, ◌||◌, cond, not, ltb, nat_le, List, [], ◌∷◌, Option, Some, None, refl, sym, ap, ◌∙◌, arith, length}
use Rattle.std.proofs.lemmas.Bool.Decides.{nat_tests}
use Rattle.nand_geometry.specs.declared.parts.Parts.{Parts}
use Rattle.nand_geometry.specs.Limits.{planes}
use Rattle.nand_geometry.specs.Row.{indexed}
use Rattle.onfi_cycle.specs.declared.command.Command.{Command}
use Rattle.onfi_cycle.specs.declared.command.Command.TheVariants.{Read, ChangeReadColumn, ChangeReadColumnEnhanced, BlockErase, PageProgram, ReadId, ReadParameterPage, ReadUniqueId, GetFeatures, SetFeatures, ResetLun, ChangeWriteColumn}
use Rattle.onfi_cycle.specs.declared.data_phase.DataPhase.{DataPhase}
use Rattle.onfi_cycle.specs.declared.data_phase.DataPhase.TheVariants.{Outside, Inputs, FirstColumn, SecondColumn}
use Rattle.onfi_cycle.specs.declared.latch.Latch.{Latch}
use Rattle.onfi_cycle.specs.declared.latch.Latch.TheVariants.{Off, Status, Data}
use Rattle.onfi_cycle.specs.declared.opening.Opening.{Opening}
use Rattle.onfi_cycle.specs.declared.queued.Queued.{Queued}
use Rattle.onfi_cycle.specs.declared.read_column.ReadColumn.{ReadColumn}
use Rattle.onfi_cycle.specs.declared.register.Register.{Register}
use Rattle.onfi_cycle.specs.declared.register.Register.TheVariants.{Empty, Page, ParameterPage, Identifier}
use Rattle.onfi_cycle.specs.declared.tail_facts.TailFacts.{TailFacts}
use Rattle.onfi_cycle.specs.LunView.{LunView}
use Rattle.onfi_cycle.specs.Base.{is_of_base}
use Rattle.onfi_cycle.specs.Sequence.{is_open, is_proper_beginning, wants_address, wants_command, takes_inputs, opened, wants_column, input_column}
use Rattle.onfi_cycle.specs.Lun.{output_column, is_cache_read, is_page_read, programs}
use Rattle.onfi_cycle.specs.Rules.{has_some, may_change_column}
use Rattle.micro_program.specs.Program.{Job, Done, column_now, plane_now, index_now, place_now, cost_now}
use Rattle.micro_claims.specs.Spans.{Span}
use Rattle.micro_claims.specs.Spans.{greatest_bound, kept, saturated, bound_plus, is_at_most}
use Rattle.micro_claims.specs.Planes.{no_planes, just_plane, either_plane}
use Rattle.micro_claims.specs.declared.planes.Planes.{Planes}
use Rattle.micro_claims.specs.declared.state.State.{State}
use Rattle.micro_claims.specs.declared.registers.Registers.{Registers}
use Rattle.micro_claims.specs.declared.known_target.KnownTarget.{KnownTarget}
use Rattle.micro_claims.specs.declared.known_lun.KnownLun.{KnownLun}
use Rattle.micro_claims.specs.declared.place.Place.{Place}
use Rattle.micro_claims.specs.declared.place.Place.TheVariants.{Closed, After, InData, InColumn, InFeatures, Unknown}
use Rattle.micro_claims.specs.declared.drift.Drift.{Drift}
use Rattle.micro_claims.specs.declared.named_row.NamedRow.{NamedRow}
use Rattle.micro_claims.specs.declared.shown.Shown.{Shown}
use Rattle.micro_claims.specs.declared.held.Held.{Held}
use Rattle.micro_claims.specs.declared.output_column.OutputColumn.{OutputColumn}
use Rattle.micro_claims.specs.declared.queued_rows.QueuedRows.{QueuedRows}
use Rattle.micro_claims.specs.declared.queued_rows.QueuedRows.TheVariants.{NoRows, SomeRows, SomeReads, AnyRows}
use Rattle.micro_claims.specs.Against.{is_open_place, is_inside_address, is_data_command, has_register, may_be_open, may_be_queued}
use Rattle.micro_claims.specs.State.{may_be_30, may_be_31, may_be_other}
use Rattle.micro_claims.specs.Leaves.{status_shown, data_shown, goes_along}
use Rattle.micro_verify.specs.Cause.{index_of}
use Rattle.micro_claims.proofs.Fits.{Address, Now, now_of, IsNow, RowIs, Opened, InProgram, ColumnBegun, has_column, has_row, is_of_kind, page_of, closer_among}
use Rattle.micro_verify.proofs.Lone.{Lone}

-- 1. numbers

-- the span is this number, as far as spans go
pub record IsExactly (n : ℕ) (s : Span) : Type 0 where
  pub lo : s.lo ≡ saturated n
  pub hi : s.hi ≡ kept n

pub kept_plus : (n k : ℕ) → bound_plus (kept n) k ≡ kept (n + k)
kept_plus n k = at (nat_le n greatest_bound) refl
  where
    at : (b : Bool) → nat_le n greatest_bound ≡ b → bound_plus (cond b (Some n) None) k ≡ kept (n + k)
    at true e = refl
    at false e = let over : nat_le (n + k) greatest_bound ≡ false = grind (arith, nat_tests) in rw over refl

-- a test of a bound that is exact is exact
pub exact_test : (n k limit : ℕ) → limit ≤ greatest_bound → is_at_most (bound_plus (kept n) k) limit ≡ nat_le (n + k) limit
exact_test n k limit low = ap (λ (o : Option ℕ). is_at_most o limit) (kept_plus n k) ∙ at (nat_le (n + k) greatest_bound) refl
  where
    at : (b : Bool) → nat_le (n + k) greatest_bound ≡ b → is_at_most (cond b (Some (n + k)) None) limit ≡ nat_le (n + k) limit
    at true e = refl
    at false e = let over : nat_le (n + k) limit ≡ false = grind (arith, nat_tests) in sym over

pub record RegistersMirror (g : Parts) (r : Registers) (done : List Done) : Type 0 where
  pub column : IsExactly (column_now done) r.column
  pub column_low : column_now done < 65536
  pub planes : r.planes ≡ just_plane (plane_now done)
  pub plane_low : plane_now done ≤ 3
  pub index : IsExactly (index_now 0 done) r.index
  pub index_low : index_now 0 done ≤ 65536 * length done
  pub page : r.page ≡ record { lo = index_now 0 done % g.pages; hi = index_now 0 done % g.pages }
  pub place : r.place.hi ≡ kept (place_now done)
  pub cost : r.cost.hi ≡ kept (cost_now g done)

-- 2. the tail

-- nothing goes on with the tail
pub record Shut (t : TailFacts) : Type 0 where
  pub closed : is_open t ≡ false
  pub address : (byte : ℕ) → wants_address t byte ≡ false
  pub command : (d : Command) → wants_command t d ≡ false

-- only inputs, and what ends a program or changes its column
pub record InInputs (a : Address) (t : TailFacts) : Type 0 where
  pub program : InProgram a Inputs t
  pub address : (byte : ℕ) → wants_address t byte ≡ false
  pub command : (d : Command) → is_data_command d ≡ false → wants_command t d ≡ false

abbrev pub PlaceMirror : Place → Address → TailFacts → Type 0
PlaceMirror Closed a t = Shut t
PlaceMirror (After o n) a t = Opened o n a t
PlaceMirror InData a t = InInputs a t
PlaceMirror (InColumn n) a t = ColumnBegun n a t
PlaceMirror (InFeatures n) a t = ⊥
PlaceMirror Unknown a t = ⊥

-- an opener of the base profile, which copies no page
abbrev pub opens_in_base : Command → Bool
opens_in_base ChangeWriteColumn = false
opens_in_base o = is_of_base o

-- a place of the base profile
abbrev pub is_base_place : Place → Bool
is_base_place (After o n) = opens_in_base o
is_base_place (InFeatures n) = false
is_base_place _ = true

abbrev pub BoundIs : ℕ → Option Span → Type 0
BoundIs n None = ⊥
BoundIs n (Some k) = k.hi ≡ kept n

-- how far the index is from a row's
abbrev pub drift_from : ℕ → ℕ → Drift
drift_from now index = record { ahead = now - index; behind = index - now }

-- the greatest index that the words of a text may reach
abbrev pub greatest_index : ℕ
greatest_index = 2147483648

pub record NameMirror (g : Parts) (a : Address) (now : ℕ) (n : NamedRow) : Type 0 where
  pub index : IsExactly a.index n.index
  pub index_low : a.index ≤ greatest_index
  pub planes : n.planes ≡ just_plane a.plane
  pub plane_low : a.plane ≤ 3
  pub page : n.page ≡ a.index % g.pages
  pub drift : n.drift ≡ Some (drift_from now a.index)

abbrev pub NameIs : Parts → Address → ℕ → Option NamedRow → Type 0
NameIs g a now None = ⊥
NameIs g a now (Some n) = NameMirror g a now n

abbrev pub is_read_column : Place → Bool
is_read_column (After ChangeReadColumn n) = true
is_read_column _ = false

pub record TailMirror (g : Parts) (j : Job) (v : KnownTarget) (n : Now) (c : Lone) : Type 0 where
  pub place : Place
  pub single : v.tail ≡ place
  pub address : Address
  pub is : PlaceMirror place address c.facts
  pub base : is_base_place place ≡ true
  pub now : is_inside_address place ≡ true → IsNow g j address n place
  pub column : has_column place ≡ true → BoundIs (input_column c.facts) v.column
  pub row : has_row place ≡ true → RowIs g j address
  pub named : has_row place ≡ true → NameIs g address n.index v.named
  -- 05h went where the LUN shows data of a page or the parameter page, and is there still
  pub changes : is_read_column place ≡ true → may_change_column c.view ≡ true

-- 3. the LUN

abbrev pub shows_of : Latch → Option Shown
shows_of Off = None
shows_of Status = status_shown
shows_of Data = data_shown

-- what a program can read into the register of a LUN
abbrev pub is_modelled : Register → Bool
is_modelled Empty = true
is_modelled (Page p) = true
is_modelled ParameterPage = true
is_modelled Identifier = true
is_modelled _ = false

abbrev pub held_of : Register → Option Held
held_of (Page p) = Some (record { 0 = 1 })
held_of ParameterPage = Some (record { 0 = 2 })
held_of Identifier = Some (record { 0 = 4 })
held_of _ = None

pub record ColumnIs (k : OutputColumn) (c : ReadColumn) : Type 0 where
  pub at : ℕ
  pub is : output_column c ≡ Some at
  pub bound : k.at.hi ≡ kept at
  pub read : k.read ≡ ltb 0 c.outputs

abbrev pub ColumnMirror : Option OutputColumn → ReadColumn → Type 0
ColumnMirror None c = output_column c ≡ None
ColumnMirror (Some k) c = ColumnIs k c

-- a queued row of an index and a plane
pub record RowMirror (g : Parts) (erase : Bool) (index plane : ℕ) (q : Queued) : Type 0 where
  pub kind : is_of_kind erase q ≡ true
  pub low : plane < planes g
  pub plane_low : plane ≤ 3
  pub page : (page_of q).page ≡ (indexed g 0 index plane).page
  pub block : (page_of q).block ≡ (indexed g 0 index plane).block

-- the set of some planes
abbrev pub set_of : List ℕ → Planes
set_of [] = no_planes
set_of (p ∷ ps) = either_plane (just_plane p) (set_of ps)

-- each row of the queue has its plane
abbrev pub AllMirror : (ℕ → Queued → Type 0) → List ℕ → List Queued → Type 0
AllMirror row [] [] = Unit {0}
AllMirror row [] (q ∷ qs) = ⊥
AllMirror row (p ∷ ps) [] = ⊥
AllMirror row (p ∷ ps) (q ∷ qs) = row p q × AllMirror row ps qs

-- rows of one kind and one index, each of another plane
pub record QueueMirror (g : Parts) (now : ℕ) (erase : Bool) (planes : Planes) (d : Drift) (qs : List Queued) : Type 0 where
  pub some : has_some qs ≡ true
  pub index : ℕ
  pub index_low : index ≤ greatest_index
  pub drift : d ≡ drift_from now index
  pub of_planes : List ℕ
  pub set : planes ≡ set_of of_planes
  pub rows : AllMirror (RowMirror g erase index) of_planes qs

abbrev pub RowsMirror : Parts → ℕ → QueuedRows → List Queued → Type 0
RowsMirror g now NoRows qs = qs ≡ []
RowsMirror g now (SomeRows erase planes d) qs = QueueMirror g now erase planes d qs
RowsMirror g now (SomeReads planes surely d) qs = ⊥
RowsMirror g now AnyRows qs = ⊥

pub record LunMirror (g : Parts) (v : KnownLun) (now : ℕ) (view : LunView) : Type 0 where
  pub busy : v.busy ≡ view.busy
  pub register : v.register ≡ held_of view.register
  pub known : is_modelled view.register ≡ true
  -- without a register the claim has no column, though the LUN may have one
  pub column : has_register v.register ≡ true → ColumnMirror v.column view.column
  pub no_column : has_register v.register ≡ false → v.column ≡ None
  pub queue : RowsMirror g now v.queue view.queue
  pub last : closer_among v.last view.closer ≡ true
  pub caching : may_be_31 v.last ≡ is_cache_read view.closer
  pub other : may_be_other v.last ≡ not (is_page_read view.closer)
  pub read : may_be_other v.last ≡ false → may_be_30 v.last ≡ not (is_cache_read view.closer)
  pub cached_page : may_be_other v.last ≡ false → v.cached.page.hi ≡ kept view.array_page.page
  pub cached_index : may_be_other v.last ≡ false → v.cached.index.hi ≡ kept (index_of g view.array_page)
  pub held : may_be_other v.last ≡ false → nat_le (length view.held) 1 ≡ true
  pub programming : v.programming ≡ false
  pub no_program : programs view ≡ false

-- a row that is to be queued goes along with the queue
abbrev pub place_erases : Place → Bool
place_erases (After BlockErase n) = true
place_erases _ = false

abbrev pub place_queues : Place → Bool
place_queues (After Read n) = false
place_queues p = has_row p

abbrev pub row_goes_along : Bool → Option NamedRow → QueuedRows → Bool
row_goes_along erase None queue = false
row_goes_along erase (Some n) queue = goes_along erase n.drift queue

pub record Mirrors (g : Parts) (j : Job) (v : State) (done : List Done) (c : Lone) : Type 0 where
  pub registers : RegistersMirror g v.registers done
  pub tail : TailMirror g j v.target (now_of j done) c
  pub shows : v.target.shows ≡ shows_of c.view.latch
  pub lun : LunMirror g v.lun (index_now 0 done) c.view
  pub along : place_queues v.target.tail ≡ true → row_goes_along (place_erases v.target.tail) v.target.named v.lun.queue ≡ true

-- 4. what is open

-- behind an opener and some addresses
pub record Begun (o : Command) (n : ℕ) (t : TailFacts) : Type 0 where
  pub opening : t.opening ≡ Some (record { opener = o; addresses = n })
  pub phase : t.phase ≡ Outside

too_many : (n k : ℕ) → nat_le (suc n + k) k ≡ true → ⊥
too_many n k h = grind (arith, nat_tests)

no_more : (n : ℕ) → (suc n == 0) ≡ true → ⊥
no_more n h = grind (arith, nat_tests)

pub begun : (o : Command) (n : ℕ) (a : Address) (t : TailFacts) → Opened o n a t → Begun o n t
begun Read zero a t h = record { opening = ap (λ (t : TailFacts). t.opening) h.facts; phase = ap (λ (t : TailFacts). t.phase) h.facts }
begun Read (suc zero) a t h = record { opening = ap (λ (t : TailFacts). t.opening) h.facts; phase = ap (λ (t : TailFacts). t.phase) h.facts }
begun Read (suc (suc zero)) a t h = record { opening = ap (λ (t : TailFacts). t.opening) h.facts; phase = ap (λ (t : TailFacts). t.phase) h.facts }
begun Read (suc (suc (suc zero))) a t h = record { opening = ap (λ (t : TailFacts). t.opening) h.facts; phase = ap (λ (t : TailFacts). t.phase) h.facts }
begun Read (suc (suc (suc (suc zero)))) a t h = record { opening = ap (λ (t : TailFacts). t.opening) h.facts; phase = ap (λ (t : TailFacts). t.phase) h.facts }
begun Read (suc (suc (suc (suc (suc zero))))) a t h = record { opening = ap (λ (t : TailFacts). t.opening) h.facts; phase = ap (λ (t : TailFacts). t.phase) h.facts }
begun Read (suc (suc (suc (suc (suc (suc n)))))) a t h = absurd (let e = h.place in let x : ⊥ = grind (arith, nat_tests) in x)
begun ChangeReadColumnEnhanced zero a t h = record { opening = ap (λ (t : TailFacts). t.opening) h.facts; phase = ap (λ (t : TailFacts). t.phase) h.facts }
begun ChangeReadColumnEnhanced (suc zero) a t h = record { opening = ap (λ (t : TailFacts). t.opening) h.facts; phase = ap (λ (t : TailFacts). t.phase) h.facts }
begun ChangeReadColumnEnhanced (suc (suc zero)) a t h = record { opening = ap (λ (t : TailFacts). t.opening) h.facts; phase = ap (λ (t : TailFacts). t.phase) h.facts }
begun ChangeReadColumnEnhanced (suc (suc (suc zero))) a t h = record { opening = ap (λ (t : TailFacts). t.opening) h.facts; phase = ap (λ (t : TailFacts). t.phase) h.facts }
begun ChangeReadColumnEnhanced (suc (suc (suc (suc zero)))) a t h = record { opening = ap (λ (t : TailFacts). t.opening) h.facts; phase = ap (λ (t : TailFacts). t.phase) h.facts }
begun ChangeReadColumnEnhanced (suc (suc (suc (suc (suc zero))))) a t h = record { opening = ap (λ (t : TailFacts). t.opening) h.facts; phase = ap (λ (t : TailFacts). t.phase) h.facts }
begun ChangeReadColumnEnhanced (suc (suc (suc (suc (suc (suc n)))))) a t h = absurd (let e = h.place in let x : ⊥ = grind (arith, nat_tests) in x)
begun ChangeReadColumn zero a t h = record { opening = ap (λ (t : TailFacts). t.opening) h.facts; phase = ap (λ (t : TailFacts). t.phase) h.facts }
begun ChangeReadColumn (suc zero) a t h = record { opening = ap (λ (t : TailFacts). t.opening) h.facts; phase = ap (λ (t : TailFacts). t.phase) h.facts }
begun ChangeReadColumn (suc (suc zero)) a t h = record { opening = ap (λ (t : TailFacts). t.opening) h.facts; phase = ap (λ (t : TailFacts). t.phase) h.facts }
begun ChangeReadColumn (suc (suc (suc n))) a t h = absurd (let e = h.place in let x : ⊥ = grind (arith, nat_tests) in x)
begun BlockErase zero a t h = record { opening = ap (λ (t : TailFacts). t.opening) h.facts; phase = ap (λ (t : TailFacts). t.phase) h.facts }
begun BlockErase (suc zero) a t h = record { opening = ap (λ (t : TailFacts). t.opening) h.facts; phase = ap (λ (t : TailFacts). t.phase) h.facts }
begun BlockErase (suc (suc zero)) a t h = record { opening = ap (λ (t : TailFacts). t.opening) h.facts; phase = ap (λ (t : TailFacts). t.phase) h.facts }
begun BlockErase (suc (suc (suc zero))) a t h = record { opening = ap (λ (t : TailFacts). t.opening) h.facts; phase = ap (λ (t : TailFacts). t.phase) h.facts }
begun BlockErase (suc (suc (suc (suc n)))) a t h = absurd (let e = h.place in let x : ⊥ = grind (arith, nat_tests) in x)
begun PageProgram zero a t h = record { opening = ap (λ (t : TailFacts). t.opening) h.facts; phase = ap (λ (t : TailFacts). t.phase) h.facts }
begun PageProgram (suc zero) a t h = record { opening = ap (λ (t : TailFacts). t.opening) h.facts; phase = ap (λ (t : TailFacts). t.phase) h.facts }
begun PageProgram (suc (suc zero)) a t h = record { opening = ap (λ (t : TailFacts). t.opening) h.facts; phase = ap (λ (t : TailFacts). t.phase) h.facts }
begun PageProgram (suc (suc (suc zero))) a t h = record { opening = ap (λ (t : TailFacts). t.opening) h.facts; phase = ap (λ (t : TailFacts). t.phase) h.facts }
begun PageProgram (suc (suc (suc (suc zero)))) a t h = record { opening = ap (λ (t : TailFacts). t.opening) h.facts; phase = ap (λ (t : TailFacts). t.phase) h.facts }
begun PageProgram (suc (suc (suc (suc (suc n))))) a t h = absurd (let e = h.place in let x : ⊥ = grind (arith, nat_tests) in x)
begun ChangeWriteColumn zero a t h = record { opening = ap (λ (t : TailFacts). t.opening) h.facts; phase = ap (λ (t : TailFacts). t.phase) h.facts }
begun ChangeWriteColumn (suc zero) a t h = record { opening = ap (λ (t : TailFacts). t.opening) h.facts; phase = ap (λ (t : TailFacts). t.phase) h.facts }
begun ChangeWriteColumn (suc (suc zero)) a t h = record { opening = ap (λ (t : TailFacts). t.opening) h.facts; phase = ap (λ (t : TailFacts). t.phase) h.facts }
begun ChangeWriteColumn (suc (suc (suc zero))) a t h = record { opening = ap (λ (t : TailFacts). t.opening) h.facts; phase = ap (λ (t : TailFacts). t.phase) h.facts }
begun ChangeWriteColumn (suc (suc (suc (suc zero)))) a t h = record { opening = ap (λ (t : TailFacts). t.opening) h.facts; phase = ap (λ (t : TailFacts). t.phase) h.facts }
begun ChangeWriteColumn (suc (suc (suc (suc (suc n))))) a t h = absurd (let e = h.place in let x : ⊥ = grind (arith, nat_tests) in x)
begun ReadId zero a t h = record { opening = ap (λ (t : TailFacts). t.opening) h.facts; phase = ap (λ (t : TailFacts). t.phase) h.facts }
begun ReadId (suc n) a t h = absurd (no_more n h.place)
begun ReadParameterPage zero a t h = record { opening = ap (λ (t : TailFacts). t.opening) h.facts; phase = ap (λ (t : TailFacts). t.phase) h.facts }
begun ReadParameterPage (suc n) a t h = absurd (no_more n h.place)
begun ReadUniqueId zero a t h = record { opening = ap (λ (t : TailFacts). t.opening) h.facts; phase = ap (λ (t : TailFacts). t.phase) h.facts }
begun ReadUniqueId (suc n) a t h = absurd (no_more n h.place)
begun GetFeatures zero a t h = record { opening = ap (λ (t : TailFacts). t.opening) h.facts; phase = ap (λ (t : TailFacts). t.phase) h.facts }
begun GetFeatures (suc n) a t h = absurd (no_more n h.place)
begun SetFeatures zero a t h = record { opening = ap (λ (t : TailFacts). t.opening) h.facts; phase = ap (λ (t : TailFacts). t.phase) h.facts }
begun SetFeatures (suc n) a t h = absurd (no_more n h.place)
begun ResetLun zero a t h = record { opening = ap (λ (t : TailFacts). t.opening) h.facts; phase = ap (λ (t : TailFacts). t.phase) h.facts }
begun ResetLun (suc zero) a t h = record { opening = ap (λ (t : TailFacts). t.opening) h.facts; phase = ap (λ (t : TailFacts). t.phase) h.facts }
begun ResetLun (suc (suc zero)) a t h = record { opening = ap (λ (t : TailFacts). t.opening) h.facts; phase = ap (λ (t : TailFacts). t.phase) h.facts }
begun ResetLun (suc (suc (suc n))) a t h = absurd (let e = h.place in let x : ⊥ = grind (arith, nat_tests) in x)
begun _ n a t h = let most = h.place in cc

or_true : (a b c : Bool) → b ≡ true → (a || b || c) ≡ true
or_true true b c h = refl
or_true false true c h = refl
or_true false false c h = cc

or_last : (a b c : Bool) → c ≡ true → (a || b || c) ≡ true
or_last true b c h = refl
or_last false true c h = refl
or_last false false c h = h

pub open_there : (p : Place) (a : Address) (t : TailFacts) → PlaceMirror p a t → is_open_place p ≡ is_open t
open_there Closed a t is = sym is.closed
open_there (After o n) a t is =
    let b = begun o n a t is in
    sym (ap (λ (x : Option Opening). opened is_proper_beginning x || takes_inputs t.phase || wants_column t.phase) b.opening ∙ (ap (λ (d : DataPhase). is_proper_beginning o n || takes_inputs d || wants_column d) b.phase ∙ or_no (is_proper_beginning o n)))
  where
    or_no : (b : Bool) → (b || false || false) ≡ b
    or_no true = refl
    or_no false = refl
open_there InData a t is = sym (or_true (opened is_proper_beginning t.opening) (takes_inputs t.phase) (wants_column t.phase) (ap takes_inputs is.program.phase))
open_there (InColumn n) a t is = sym (or_last (opened is_proper_beginning t.opening) (takes_inputs t.phase) (wants_column t.phase) (ap wants_column is.program.phase ∙ column_wanted (n == 0)))
  where
    column_wanted : (b : Bool) → wants_column (cond b FirstColumn SecondColumn) ≡ true
    column_wanted true = refl
    column_wanted false = refl
open_there (InFeatures n) a t is = absurd is
open_there Unknown a t is = absurd is

pub open_same : (g : Parts) (j : Job) (v : State) (done : List Done) (c : Lone) → Mirrors g j v done c → may_be_open v ≡ is_open c.facts
open_same g j v done c m = ap is_open_place m.tail.single ∙ open_there m.tail.place m.tail.address c.facts m.tail.is

-- 5. the queue

pub queue_same : (g : Parts) (now : ℕ) (rows : QueuedRows) (qs : List Queued) → RowsMirror g now rows qs → may_be_queued rows ≡ has_some qs
queue_same g now NoRows qs h = sym (ap has_some h)
queue_same g now (SomeRows erase planes d) qs h = sym h.some
queue_same g now (SomeReads planes surely d) qs h = absurd h
queue_same g now AnyRows qs h = absurd h
