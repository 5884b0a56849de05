-- What holds of the operations of every trace, with faults or without, whole or from the middle.
use Rattle.std.specs.Prelude.{◌≡◌, ℕ, ◌+◌, ◌<◌, ◌≤◌, ◌^◌, ◌==◌, Bool, true, false, List, [], ◌∷◌, ◌++◌, length, reverse, Some, slice_get, if◌then◌else◌}
use Rattle.std.specs.List.{All}
use Rattle.nand_geometry.specs.declared.parts.Parts.{Parts}
use Rattle.onfi_cycle.specs.declared.item.Cycle.{Cycle}
use Rattle.onfi_cycle.specs.declared.item.Item.{Item}
use Rattle.onfi_cycle.specs.declared.item.Item.TheVariants.{Cyc, Rdy, Ard}
use Rattle.onfi_cycle.specs.declared.item.Kind.{Kind}
use Rattle.onfi_cycle.specs.declared.item.Kind.TheVariants.{Cmd, Adr, Din, Dout}
use Rattle.onfi_cycle.specs.declared.target_cycle.TargetCycle.{TargetCycle}
use Rattle.onfi_cycle.specs.declared.target_cycle.TargetCycle.TheVariants.{CommandCycle, AddressCycle, InputCycle, OutputCycle}
use Rattle.onfi_cycle.specs.Permitted.{is_legal}
use Rattle.onfi_cycle.specs.Sequence.{target_cycle, tail}
use Rattle.trace_faults.specs.declared.beginning.Beginning.{Beginning}
use Rattle.trace_faults.specs.declared.readies.Readies.{Readies}
use Rattle.trace_faults.specs.declared.verdict.Verdict.{Verdict}
use Rattle.trace_faults.specs.declared.beginning.Beginning.TheVariants.{Start}
use Rattle.trace_faults.specs.Faults.{faults_of}
use Rattle.trace_faults.specs.Middle.{all_broken}
use Rattle.trace_ops.specs.declared.operation.Operation.{Operation}
use Rattle.trace_ops.specs.Operation.{is_clean, is_output, is_folded}
use Rattle.trace_ops.specs.Listing.{ops_of, marks_of, verdicts_as}

-- ---- each item belongs to one operation

-- of the items that belong to an operation the first and the last are its own
pub record Spans (marks : List ℕ) (k : ℕ) (o : Operation) : Type 0 where
  pub first : slice_get marks o.first ≡ Some k
  pub last : slice_get marks o.last ≡ Some k
  pub between : (n : ℕ) → slice_get marks n ≡ Some k → (o.first ≤ n) × (n ≤ o.last)

-- each operation has its items
abbrev pub AllSpan : List ℕ → List Operation → Type 0
AllSpan marks ops = (k : ℕ) (o : Operation) → slice_get ops k ≡ Some o → Spans marks k o

-- there is a mark for each item, and it is the number of an operation
pub record Belong (items : List Item) (ops : List Operation) (marks : List ℕ) : Type 0 where
  pub as_many : length marks ≡ length items
  pub are_there : All (λ k. k < length ops) marks
  pub span : AllSpan marks ops

abbrev pub EachItemBelongs : Type 0
EachItemBelongs =
    (readies : Readies) (beginning : Beginning) (g : Parts) (targets : ℕ) (items : List Item) →
    Belong items (ops_of readies beginning g targets items) (marks_of readies beginning g targets items)

-- ---- nothing is lost

abbrev pub is_input_kind : Kind → Bool
is_input_kind Cmd = false
is_input_kind Adr = false
is_input_kind Din = true
is_input_kind Dout = false

abbrev pub is_input : Item → Bool
is_input (Cyc c) = is_input_kind c.kind
is_input (Rdy ce lun fail) = false
is_input (Ard ce lun fail) = false

abbrev pub is_output_item : Item → Bool
is_output_item (Cyc c) = is_output c.kind
is_output_item (Rdy ce lun fail) = false
is_output_item (Ard ce lun fail) = false

abbrev pub inputs_of : Operation → ℕ
inputs_of o = o.inputs

abbrev pub outputs_of : Operation → ℕ
outputs_of o = o.outputs

-- a number of each operation, summed up
abbrev pub total : (Operation → ℕ) → List Operation → ℕ
total f [] = 0
total f (o ∷ ops) = f o + total f ops

abbrev pub one_if : Bool → ℕ
one_if holds = if holds then 1 else 0

-- how many items are so
abbrev pub count : (Item → Bool) → List Item → ℕ
count is [] = 0
count is (i ∷ items) = one_if (is i) + count is items

-- the operations have as many inputs and outputs as the trace
pub record AreCounted (items : List Item) (ops : List Operation) : Type 0 where
  pub inputs : total inputs_of ops ≡ count is_input items
  pub outputs : total outputs_of ops ≡ count is_output_item items

-- of a trace that a machine of 64 bits holds
abbrev pub NothingIsLost : Type 0
NothingIsLost =
    (readies : Readies) (beginning : Beginning) (g : Parts) (targets : ℕ) (items : List Item) →
    length items < 2 ^ 64 → AreCounted items (ops_of readies beginning g targets items)

-- ---- no fault is hidden

-- of a trace that is judged from its start these are the faults that `check` tells; from the middle on they are so by definition
abbrev pub FaultsAreTold : Type 0
FaultsAreTold =
    (readies : Readies) (g : Parts) (targets : ℕ) (items : List Item) → all_broken 0 (verdicts_as readies Start g targets items) ≡ faults_of readies g targets items

-- the operation of this number is there, and isn't clean: it is listed, whatever it is a part of
pub record IsTold (ops : List Operation) (k : ℕ) : Type 0 where
  pub operation : Operation
  pub is_there : slice_get ops k ≡ Some operation
  pub not_clean : operation.is_clean ≡ false

-- an item with a fault, or that was taken for granted, belongs to an operation that is told
abbrev pub NoFaultIsHidden : Type 0
NoFaultIsHidden =
    (readies : Readies) (beginning : Beginning) (g : Parts) (targets : ℕ) (items : List Item) (n : ℕ) (said : Verdict) (k : ℕ) →
    slice_get (verdicts_as readies beginning g targets items) n ≡ Some said → is_clean said ≡ false →
    slice_get (marks_of readies beginning g targets items) n ≡ Some k → IsTold (ops_of readies beginning g targets items) k

-- ---- operations are sequences

-- a command, an address or an input, in front of those before it
abbrev pub with_part : Item → List TargetCycle → List TargetCycle
with_part (Cyc c) t = if is_output c.kind then t else target_cycle c.kind c.byte ∷ t
with_part (Rdy ce lun fail) t = t
with_part (Ard ce lun fail) t = t

-- the commands, addresses and inputs of the items with this mark, the newest first, in front of these
abbrev pub piece_on : ℕ → List TargetCycle → List Item → List ℕ → List TargetCycle
piece_on k t [] marks = t
piece_on k t (i ∷ items) [] = t
piece_on k t (i ∷ items) (m ∷ marks) = piece_on k (if m == k then with_part i t else t) items marks

-- a tail without its outputs
abbrev pub without_outputs : List TargetCycle → List TargetCycle
without_outputs [] = []
without_outputs (CommandCycle c ∷ t) = CommandCycle c ∷ without_outputs t
without_outputs (AddressCycle byte ∷ t) = AddressCycle byte ∷ without_outputs t
without_outputs (InputCycle byte ∷ t) = InputCycle byte ∷ without_outputs t
without_outputs (OutputCycle ∷ t) = without_outputs t

-- in a trace that is legal up to a command, an address or an input, its operation has so far exactly the sequence that the target is in
abbrev pub PiecesAreTails : Type 0
PiecesAreTails =
    (readies : Readies) (beginning : Beginning) (g : Parts) (targets : ℕ) (before : List Item) (c : Cycle) (later : List Item) (k : ℕ) →
    targets ≤ 4 → is_legal g targets (Cyc c ∷ reverse before) ≡ true → is_output c.kind ≡ false →
    slice_get (marks_of readies beginning g targets (before ++ (Cyc c ∷ later))) (length before) ≡ Some k →
    piece_on k [] (before ++ (Cyc c ∷ [])) (marks_of readies beginning g targets (before ++ (Cyc c ∷ later))) ≡ without_outputs (tail (Cyc c ∷ reverse before) c.ce)

-- ---- there are no chains

-- the operation of this number is there, and has a line of its own
pub record HasLine (ops : List Operation) (k : ℕ) : Type 0 where
  pub operation : Operation
  pub is_there : slice_get ops k ≡ Some operation
  pub has_line : is_folded operation ≡ false

-- that of which another is a part has a line of its own
abbrev pub NoChains : Type 0
NoChains =
    (readies : Readies) (beginning : Beginning) (g : Parts) (targets : ℕ) (items : List Item) (k : ℕ) (o : Operation) (parent : ℕ) →
    slice_get (ops_of readies beginning g targets items) k ≡ Some o → o.parent ≡ Some parent → HasLine (ops_of readies beginning g targets items) parent
