-- The codes under which faults are told.
use Rattle.std.specs.Prelude.{ℕ, List, codes}
use Rattle.trace_text.specs.declared.refusal.TraceFault.{TraceFault}
use Rattle.trace_text.specs.declared.refusal.TraceFault.TheVariants.{BadShape, BadNumber}

-- the code under which a fault of a trace text is told
abbrev pub trace_fault_code : TraceFault → List ℕ
trace_fault_code BadShape = codes "X1"
trace_fault_code BadNumber = codes "X2"
