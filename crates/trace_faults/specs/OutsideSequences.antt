-- The sequences outside of the profile that a trace has, and how many cycles of each are passed over.
use Rattle.std.specs.Prelude.{ℕ, Option, ◌+◌, ◌==◌, List, [], ◌∷◌, ◌++◌, if◌then◌else◌}
use Rattle.nand_geometry.specs.declared.parts.Parts.{Parts}
use Rattle.onfi_cycle.specs.declared.item.Item.{Item}
use Rattle.onfi_cycle.specs.Sequence.{target_of}
use Rattle.onfi_cycle.specs.declared.forbidden.Forbidden.{Forbidden}
use Rattle.onfi_cycle.specs.State.{BusView, judged}
use Rattle.trace_faults.specs.declared.readies.Readies.{Readies}
use Rattle.trace_faults.specs.declared.trace_state.TraceState.{TraceState}
use Rattle.trace_faults.specs.declared.outside_sequences.Mark.{Mark}
use Rattle.trace_faults.specs.declared.outside_sequences.Mark.TheVariants.{Within, Begins, PassedOver}
use Rattle.trace_faults.specs.declared.outside_sequences.Marked.{Marked}
use Rattle.trace_faults.specs.declared.outside_sequences.OutsideSequence.{OutsideSequence}
use Rattle.trace_faults.specs.Outside.{leaves_profile, is_outside}
use Rattle.trace_faults.specs.Recovery.{fresh_for, gone_on}
use Rattle.trace_faults.specs.Faults.{before_item}

-- what an item is that isn't passed over, and breaks this rule first
abbrev pub mark_inside : Option Forbidden → BusView → Item → Mark
mark_inside rule bus i = if leaves_profile rule bus (target_of i) then Begins else Within

-- what an item is to a sequence outside: one of its cycles that is passed over, its beginning, or nothing
abbrev pub mark_of : TraceState → Item → Mark
mark_of t i = if is_outside t i then PassedOver else mark_inside (judged t.bus i) t.bus i

abbrev pub marks_from : Readies → TraceState → List Item → List Marked
marks_from readies t [] = []
marks_from readies t (i ∷ items) =
    record { target = target_of i; mark = mark_of (before_item readies t i items) i } ∷ marks_from readies (gone_on i (before_item readies t i items)) items

-- what each item of a trace is
abbrev pub marks_of : Readies → Parts → ℕ → List Item → List Marked
marks_of readies g targets items = marks_from readies (fresh_for g targets items) items

abbrev pub passed_by : Mark → ℕ → ℕ
passed_by Within later = later
passed_by Begins later = 0
passed_by PassedOver later = 1 + later

-- how many cycles of a target are passed over before the next sequence outside of it begins
abbrev pub passed_after : ℕ → List Marked → ℕ
passed_after ce [] = 0
passed_after ce (m ∷ marks) = if m.target == ce then passed_by m.mark (passed_after ce marks) else passed_after ce marks

abbrev pub begun_by : Mark → (n ce : ℕ) → List Marked → List OutsideSequence
begun_by Within n ce later = []
begun_by Begins n ce later = record { item = n; cycles = passed_after ce later } ∷ []
begun_by PassedOver n ce later = []

abbrev pub sequences_from : ℕ → List Marked → List OutsideSequence
sequences_from n [] = []
sequences_from n (m ∷ marks) = begun_by m.mark n m.target marks ++ sequences_from (n + 1) marks

-- the sequences outside of the profile of a trace, in the order of time
abbrev pub outside_of : Readies → Parts → ℕ → List Item → List OutsideSequence
outside_of readies g targets items = sequences_from 0 (marks_of readies g targets items)
