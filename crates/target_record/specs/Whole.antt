-- Whether the numbers of a target's record are those that a channel can have, by the record alone.
use Rattle.std.specs.Prelude.{◌≡◌, ℕ, ◌+◌, ◌==◌, ◌&&◌, ◌||◌, not, nat_lt, nat_le, length, Bool, true, false, List, [], ◌∷◌, Option, Some, None}
use Rattle.std.specs.List.{list_all}
use Rattle.std.specs.Option.{is_none}
use Rattle.nand_geometry.specs.declared.parts.Parts.{Parts}
use Rattle.nand_geometry.specs.Limits.{InLimits, fault_of, page_len}
use Rattle.onfi_cycle.specs.declared.data_phase.DataPhase.{DataPhase}
use Rattle.onfi_cycle.specs.declared.data_phase.DataPhase.TheVariants.{Outside, Inputs, FirstColumn, SecondColumn, FeatureInputs}
use Rattle.onfi_cycle.specs.declared.opening.Opening.{Opening}
use Rattle.onfi_cycle.specs.declared.page_address.PageAddress.{PageAddress}
use Rattle.onfi_cycle.specs.declared.tail_facts.TailFacts.{TailFacts}
use Rattle.onfi_cycle.specs.Bounds.{TargetFits, is_row, names_erase, names_identity, names_program, names_read, names_row, rooms}
use Rattle.onfi_cycle.specs.Effect.{is_shared, names_lun, page_address}
use Rattle.onfi_cycle.specs.LunView.{LunView}
use Rattle.onfi_cycle.specs.Rules.{some_queued_clashes, some_read_clashes}
use Rattle.onfi_cycle.specs.Sequence.{row, takes_features, wants_column}
use Rattle.onfi_cycle.specs.State.{TargetView}
use Rattle.target_record.specs.declared.geometry.OnfiseqGeometry.{OnfiseqGeometry}
use Rattle.target_record.specs.declared.record.OnfiseqLun.{OnfiseqLun}
use Rattle.target_record.specs.declared.record.OnfiseqTarget.{OnfiseqTarget}
use Rattle.target_record.specs.Geometry.{parts_of}
use Rattle.target_record.specs.Record.{IsTarget, target_of}

-- ---- the numbers of a record

abbrev pub is_record : OnfiseqLun → Bool
is_record l = nat_le l.queued 4 && (nat_le l.holds 4 && nat_lt l.outputs 9223372036854775808)

abbrev pub are_numbers : OnfiseqTarget → Bool
are_numbers t = nat_le t.count 4 && list_all is_record t.luns

-- ---- the tail

abbrev pub is_short : Option Opening → Bool
is_short None = true
is_short (Some o) = nat_le o.addresses 5

abbrev pub is_outside : DataPhase → Bool
is_outside Outside = true
is_outside Inputs = false
is_outside FirstColumn = false
is_outside SecondColumn = false
is_outside FeatureInputs = false

-- an opening stands neither beside the column of a Change Write Column nor in an empty tail
abbrev pub stands_alone : TailFacts → Bool
stands_alone t = is_none t.opening || (not (wants_column t.phase) && not t.is_empty)

abbrev pub tail_fits : Parts → TailFacts → Bool
tail_fits g t =
    nat_lt t.column 65536
    && (nat_le t.inputs (page_len g + 4)
    && (is_short t.opening && (stands_alone t && ((not t.is_empty || is_outside t.phase) && (not (takes_features t.phase) || nat_lt t.inputs 4)))))

-- ---- a LUN

abbrev pub given_fits : Option ℕ → Bool
given_fits None = true
given_fits (Some column) = nat_lt column 65536

-- a plane is left for each row that it may yet have
abbrev pub queue_fits : Parts → LunView → Bool
queue_fits g v = nat_le (length v.queue + rooms g v.queue) 4

abbrev pub lun_fits : Parts → LunView → Bool
lun_fits g v = nat_le v.column.outputs 65536 && (given_fits v.column.given && (nat_lt v.array_page.page 4294967296 && (queue_fits g v && nat_le (length v.held) 4)))

-- the row that the tail names lies on the LUN of this number
abbrev pub row_lies : Parts → TailFacts → ℕ → Bool
row_lies g t n = names_row t && names_lun g (row t) n

-- where the tail names the row of a read, of an erase, or of a program, this page goes together with the queue
abbrev pub read_goes : Parts → TailFacts → PageAddress → LunView → Bool
read_goes g t p v = not (names_read t && some_read_clashes g p v.queue)

abbrev pub erase_goes : Parts → TailFacts → PageAddress → LunView → Bool
erase_goes g t p v = not (names_erase t && some_queued_clashes g true p v.queue)

abbrev pub program_goes : Parts → TailFacts → PageAddress → LunView → Bool
program_goes g t p v = not (names_program t && some_queued_clashes g false p v.queue)

-- a page is inside the geometry, its LUN is ready, and it goes together with the queue
abbrev pub page_goes : Parts → TailFacts → PageAddress → LunView → Bool
page_goes g t p v = is_row g p && (not v.busy && (read_goes g t p v && (erase_goes g t p v && program_goes g t p v)))

-- the row of the tail does
abbrev pub row_goes : Parts → TailFacts → LunView → Bool
row_goes g t v = page_goes g t (page_address g (row t)) v

-- where the row of the tail lies on this LUN, it does
abbrev pub row_stands : Parts → TailFacts → ℕ → LunView → Bool
row_stands g t n v = not (row_lies g t n) || row_goes g t v

-- while a Read ID or a Read Parameter Page is open each LUN of its target is ready, and it is the only one, but in the wider profile
abbrev pub identity_waits : Parts → TailFacts → ℕ → LunView → Bool
identity_waits g t n v = not (names_identity t) || (not v.busy && (is_shared g || n == 0))

abbrev pub lun_stands : Parts → TailFacts → ℕ → LunView → Bool
lun_stands g t n v = lun_fits g v && (row_stands g t n v && identity_waits g t n v)

-- of the LUNs of a target, from number n on
abbrev pub luns_fit : Parts → TailFacts → ℕ → List LunView → Bool
luns_fit g t n [] = true
luns_fit g t n (v ∷ vs) = lun_stands g t n v && luns_fit g t (n + 1) vs

abbrev pub target_fits : Parts → TargetView → Bool
target_fits g s = tail_fits g s.tail && (luns_fit g s.tail 0 s.luns && (length s.luns == g.luns))

-- ---- a record

-- its geometry has no fault, and its numbers are those of a target that permitted items have led there
abbrev pub is_whole : OnfiseqGeometry → OnfiseqTarget → Bool
is_whole g t = is_none (fault_of (parts_of g)) && (are_numbers t && target_fits (parts_of g) (target_of t))

-- what that means
pub record IsWhole (g : OnfiseqGeometry) (t : OnfiseqTarget) : Type 0 where
  pub limits : InLimits (parts_of g)
  pub numbers : IsTarget t
  pub fits : TargetFits (parts_of g) (target_of t)

-- the law: each such record is taken
abbrev pub WholeAreTaken : Type 0
WholeAreTaken = (g : OnfiseqGeometry) (t : OnfiseqTarget) → IsWhole g t → is_whole g t ≡ true
